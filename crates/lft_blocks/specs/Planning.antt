-- How a manager plans: under which LMC, by which rule of routing, and whether it also writes the multicast tree.
use Rattle.std.specs.Prelude.{◌≡◌, ℕ, Bool, true, false, List, Option, None, Some, refl}
use Rattle.std.specs.Coded.{Coded, code_by, coded×, coded_bool, coded_ℕ, coded_list, coded_option}
use Rattle.lft_blocks.specs.Rule.{RuleValue, spread_in, up_and_down}
use Rattle.spread_routes.specs.SwitchOrder.{OrderValue, as_named, balanced_as, from_roots, least_loaded}

-- the LMC of adapter ports, the rule of routing, and whether the multicast tree is written too
pub record Planning : Type 0 where
  pub lmc : ℕ
  pub rule : RuleValue
  pub multicast : Bool

-- how an order is stored: whether it names switches, whether loads are balanced, and the GUIDs; None for `least_loaded`
abbrev guids_in : OrderValue → Option (Bool × (Bool × List ℕ))
guids_in (from_roots roots) = Some (false, (false, roots))
guids_in (as_named switches) = Some (true, (false, switches))
guids_in (balanced_as switches) = Some (true, (true, switches))
guids_in least_loaded = None

-- the order that is stored in this way
abbrev order_by : Option (Bool × (Bool × List ℕ)) → OrderValue
order_by (Some (false, (balanced, roots))) = from_roots roots
order_by (Some (true, (false, switches))) = as_named switches
order_by (Some (true, (true, switches))) = balanced_as switches
order_by None = least_loaded

-- an order of switches (`OrderValue`) is read back from what it is stored as
pub same_order : (order : OrderValue) → order_by (guids_in order) ≡ order
same_order (from_roots roots) = refl
same_order (as_named switches) = refl
same_order (balanced_as switches) = refl
same_order least_loaded = refl

-- the coding of orders
abbrev order_code : Coded OrderValue
order_code =
    code_by (Option (Bool × (Bool × List ℕ))) (coded_option (coded× coded_bool (coded× coded_bool (coded_list coded_ℕ))))
    guids_in order_by same_order

-- how a rule is stored: as its order, or as None for up/down routing
abbrev order_in : RuleValue → Option OrderValue
order_in up_and_down = None
order_in (spread_in order) = Some order

-- the rule that is stored in this way
abbrev rule_by : Option OrderValue → RuleValue
rule_by None = up_and_down
rule_by (Some order) = spread_in order

-- a rule (`RuleValue`) is read back from what it is stored as
pub same_rule : (rule : RuleValue) → rule_by (order_in rule) ≡ rule
same_rule up_and_down = refl
same_rule (spread_in order) = refl

-- the coding of rules
abbrev rule_code : Coded RuleValue
rule_code = code_by (Option OrderValue) (coded_option order_code) order_in rule_by same_rule

-- the coding of plannings. A planning is stored as its LMC, its rule and whether the tree is written
abbrev pub planning_code : Coded Planning
planning_code =
    code_by (ℕ × (RuleValue × Bool)) (coded× coded_ℕ (coded× rule_code coded_bool))
    (λ p. (p.lmc, (p.rule, p.multicast))) (λ p. record { lmc = p.0; rule = p.1.0; multicast = p.1.1 }) (λ _. refl)
