-- The inputs of a run: the text of roots or of an order is read if the rule takes one, and then the inputs after it;
-- the roots are checked once the switches are known.
use Rattle.std.specs.Prelude.{◌≡◌, ◌⊎◌, ℕ, Bool, List, [], ◌∷◌, Option, None, Some, Vec, find, not, option_map}
use Rattle.std.specs.declared.alloc.Global.{Global}
use Rattle.byte_io.specs.Source.{SourceState}
use Rattle.lft_blocks.specs.Rule.{RuleValue, spread_in, up_and_down}
use Rattle.spread_routes.specs.SwitchOrder.{OrderValue, as_named, balanced_as, from_roots, least_loaded}
use Rattle.sm_cli.specs.Asked.{texts_for}
use Rattle.sm_cli.specs.FromText.{IsSwitchesFault, NamesSwitches}
use Rattle.sm_cli.specs.InputTexts.{IsNoText, IsText}
use Rattle.sm_cli.specs.Sources.{AreReadInParts, IsOneRead}
use Rattle.sm_cli.specs.declared.asked.RuleAsked.{RuleAsked}
use Rattle.sm_cli.specs.declared.asked.RuleAsked.TheVariants.{UpDown, Spread, SpreadFromRoots, SpreadInOrder, Balance}
use Rattle.sm_cli.specs.declared.asked.RuleAsked.TheVariants.{BalanceInOrder}
use Rattle.sm_cli.specs.declared.fault.Fault.{Fault}
use Rattle.sm_cli.specs.declared.fault.Fault.TheVariants.{Text}
use Rattle.sm_cli.specs.declared.text_fault.TextFault.{TextFault}
use Rattle.sm_cli.specs.declared.text_fault.TextFault.TheVariants as texts

-- checking --------------------------------------------------------------------------------------

-- the first of `roots` that is not a usable switch according to `usable`; None if all are usable switches
abbrev pub first_unusable : (ℕ → Bool) → List ℕ → Option ℕ
first_unusable usable roots = find (λ root. not (usable root)) roots

-- the fault of `roots`: there is no root, or `unusable` is the first that is not a usable switch; None if a plan can be
-- made from `roots`
abbrev pub fault_of_first : List ℕ → Option ℕ → Option TextFault
fault_of_first [] unusable = Some texts.NoRoot
fault_of_first (root ∷ roots) unusable = option_map texts.NoSwitch unusable

-- the fault of `roots`: there is no root, or one is not a usable switch according to `usable`; None if a plan can be
-- made from `roots`
abbrev pub roots_fault : (ℕ → Bool) → List ℕ → Option TextFault
roots_fault usable roots = fault_of_first roots (first_unusable usable roots)

-- the fault of an order: only roots that the order grows from can be at fault; None if a plan can be made by the order
abbrev pub order_fault : (ℕ → Bool) → OrderValue → Option TextFault
order_fault usable (from_roots roots) = roots_fault usable roots
order_fault usable (as_named switches) = None
order_fault usable (balanced_as switches) = None
order_fault usable least_loaded = None

-- the fault of the rule that was asked for: only roots that a text names can be at fault; None if a plan can be made by
-- the rule
abbrev pub rule_fault : (ℕ → Bool) → RuleAsked → RuleValue → Option TextFault
rule_fault usable UpDown rule = None
rule_fault usable Spread rule = None
rule_fault usable SpreadFromRoots up_and_down = None
rule_fault usable SpreadFromRoots (spread_in order) = order_fault usable order
rule_fault usable SpreadInOrder rule = None
rule_fault usable Balance rule = None
rule_fault usable BalanceInOrder rule = None

-- rules ------------------------------------------------------------------------------------------

-- there is one source, and its text, of roots or of an order, names `switches`; `rule` spreads in the order that `grows`
-- makes of them
pub record IsOrderRead {S : Type 0} (state : S → SourceState) (grows : List ℕ → OrderValue) (olds news : List S)
    (rule : RuleValue) : Type 0 where
  pub switches : Vec ℕ Global
  pub read : IsOneRead olds news (λ old new. IsText state NamesSwitches old new switches)
  pub is : rule ≡ spread_in (grows switches.items)

-- `rule` is the rule that was asked for. If the rule takes a text, this text was read; otherwise no input was touched
abbrev pub IsRuleRead : {S : Type 0} → (S → SourceState) → RuleAsked → List S → List S → RuleValue
    → Type 0
IsRuleRead state UpDown olds news rule = (news ≡ olds) × (rule ≡ up_and_down)
IsRuleRead state Spread olds news rule = (news ≡ olds) × (rule ≡ spread_in (from_roots []))
IsRuleRead state SpreadFromRoots olds news rule = IsOrderRead state from_roots olds news rule
IsRuleRead state SpreadInOrder olds news rule = IsOrderRead state as_named olds news rule
IsRuleRead state Balance olds news rule = (news ≡ olds) × (rule ≡ spread_in least_loaded)
IsRuleRead state BalanceInOrder olds news rule = IsOrderRead state balanced_as olds news rule

-- reading the text that the rule takes, the input 0, fails with `fault`; never if the rule takes no text
abbrev pub IsRuleFault : {S : Type 0} → (S → SourceState) → RuleAsked → List S → List S
    → Fault → Type 0
IsRuleFault state UpDown olds news fault = ⊥
IsRuleFault state Spread olds news fault = ⊥
IsRuleFault state SpreadFromRoots olds news fault =
    IsOneRead olds news (λ old new. IsNoText state IsSwitchesFault 0 old new fault)
IsRuleFault state SpreadInOrder olds news fault =
    IsOneRead olds news (λ old new. IsNoText state IsSwitchesFault 0 old new fault)
IsRuleFault state Balance olds news fault = ⊥
IsRuleFault state BalanceInOrder olds news fault =
    IsOneRead olds news (λ old new. IsNoText state IsSwitchesFault 0 old new fault)

-- inputs ----------------------------------------------------------------------------------------

-- a reader of the inputs after the text that a rule takes. `reads` relates these inputs, before and after, to what
-- they say. `refuses n` relates them to the fault that reading them fails with, if n inputs precede them. `has_switch`
-- says whether a GUID is that of a usable switch according to what the inputs say
pub record Reader (S T : Type 0) : Type 1 where
  pub reads : List S → List S → T → Type 0
  pub refuses : ℕ → List S → List S → Fault → Type 0
  pub has_switch : T → ℕ → Bool

module _ {S T : Type 0} (state : S → SourceState) (reader : Reader S T) (asked : RuleAsked) (olds news : List S) where
  -- the inputs were read, first the text that the rule takes: `rule` is the rule, and `told` is what the others say
  abbrev pub AreRead : RuleValue → T → Type 0
  AreRead rule told =
      AreReadInParts olds news (λ os ns. IsRuleRead state asked os ns rule) (λ os ns. reader.reads os ns told)

  -- the inputs were read, and roots that a text names are not at fault: there is at least one, and all are usable
  -- switches
  pub record AreInputs (rule : RuleValue) (told : T) : Type 0 where
    pub read : AreRead rule told
    pub sound : rule_fault (reader.has_switch told) asked rule ≡ None

  -- the inputs were read, roots that a text names are not at fault, and the rule and what the inputs say are as
  -- `holds` requires
  pub record WithInputs (holds : RuleValue → T → Type 0) : Type 0 where
    pub rule : RuleValue
    pub told : T
    pub inputs : AreInputs rule told
    pub so : holds rule told

  -- reading the text that the rule takes fails with `fault`, and no other input was touched
  abbrev pub RefusesRule : Fault → Type 0
  RefusesRule fault = AreReadInParts olds news (λ os ns. IsRuleFault state asked os ns fault) (λ os ns. ns ≡ os)

  -- the text that the rule takes was read, if the rule takes one, and reading the inputs after it fails with `fault`
  abbrev pub RefusesOthers : Fault → Type 0
  RefusesOthers fault =
      (rule : RuleValue) × AreReadInParts olds news (λ os ns. IsRuleRead state asked os ns rule)
      (λ os ns. reader.refuses (texts_for asked) os ns fault)

  -- all inputs were read, and no plan can be made from the roots; `fault` says why, and names the input 0
  pub record RefusesRoots (fault : Fault) : Type 0 where
    pub rule : RuleValue
    pub told : T
    pub read : AreRead rule told
    pub why : TextFault
    pub is : fault ≡ Text 0 why
    pub refused : rule_fault (reader.has_switch told) asked rule ≡ Some why

  -- reading the inputs fails with `fault`, or they were read, no plan can be made from the roots, and `fault` says why
  abbrev pub IsInputFault : Fault → Type 0
  IsInputFault fault = RefusesRule fault ⊎ (RefusesOthers fault ⊎ RefusesRoots fault)
