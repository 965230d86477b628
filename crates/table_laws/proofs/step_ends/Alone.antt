-- Who holds a LID in a plan: one end port of the facts, or none.
use Rattle.std.proofs.Common.{◌≡◌, ℕ, true, List, [], ◌∷◌, Option, None, Some, refl, sym, ap, ◌∙◌, subst, inl, inr, ◌⊎◌}
use Rattle.std.specs.Prelude.{Contains}
use Rattle.std.specs.Option.{option_map_or}
use Rattle.fact_store.specs.View.{Facts, cells_of}
use Rattle.smp_bytes.proofs.Members.{list_all_true}
use Rattle.subnet_view.specs.declared.end_port.EndPort.{EndPort}
use Rattle.subnet_view.specs.EndPort.{end_ports}
use Rattle.subnet_view.specs.Reading.{Cells}
use Rattle.subnet_view.proofs.Members.{contains_here, contains_none, list_any_true}
use Rattle.lid_assign.specs.Lids.{IsNoRoom, lids, owner_of, top_of}
use Rattle.lft_blocks.specs.Plan.{plan_of}
use Rattle.lft_blocks.specs.Rule.{RuleValue}
use Rattle.held_tables.specs.declared.held.HeldLid.{HeldLid}
use Rattle.held_tables.specs.Held.{HeldPlan, nothing_held}
use Rattle.plan_tables.specs.PlanTables.{held_plan}
use Rattle.plan_tables.proofs.OwnedLids.{line_owned}
use Rattle.held_tables.specs.Owners.{is_sole}
use Rattle.held_tables.specs.Tables.{is_owner, is_same_end, owners_of}
use Rattle.plan_tables.proofs.HeldPlans.{made}
use Rattle.held_tables.proofs.Once.{sole_owners_are_alone}
use Rattle.packet_walks.proofs.Judged.{same_itself}
use Rattle.packet_walks.proofs.OwnerLines.{owner_line}
use Rattle.table_laws.proofs.step_ends.Last.{EachAlone}
use Rattle.table_laws.proofs.step_ends.Reached.{owner_listed}

is_among : (owners : List EndPort) (x : EndPort) → Contains owners x → is_owner owners x ≡ true
is_among owners x there = list_any_true (is_same_end x) owners x there (same_itself x)

-- the line of an owner
line_of : (tables : HeldPlan) (lid : ℕ) (x : EndPort) → is_owner (owners_of tables lid) x ≡ true → Contains tables.lids (record { lid = lid; port = x })
line_of tables lid x owner =
    let l = owner_line tables lid x owner in
    let same : l.line ≡ (record { lid = lid; port = x }) = (λ j. record { lid = l.lid_is j; port = l.port_is j }) in
    subst (λ (y : HeldLid). Contains tables.lids y) same l.is_held

first_is_owner : (tables : HeldPlan) (lid : ℕ) (x : EndPort) (owners : List EndPort) → owners_of tables lid ≡ x ∷ owners
    → is_owner (owners_of tables lid) x ≡ true
first_is_owner tables lid x owners own =
    ap (λ (os : List EndPort). is_owner os x) own ∙ is_among (x ∷ owners) x (contains_here x owners)

pub line_there : (rule : RuleValue) (lmc : ℕ) (facts : Facts) (lid : ℕ) (x : EndPort) → owners_of (held_plan (plan_of rule lmc (cells_of facts))) lid ≡ x ∷ []
    → Contains (held_plan (plan_of rule lmc (cells_of facts))).lids (record { lid = lid; port = x })
line_there rule lmc facts lid x own =
    let tables = held_plan (plan_of rule lmc (cells_of facts)) in line_of tables lid x (first_is_owner tables lid x [] own)

module _ (rule : RuleValue) (lmc : ℕ) (facts : Facts) (has_room : ¬ (IsNoRoom lmc (cells_of facts))) where
  abbrev cells : Cells
  cells = cells_of facts

  -- what the plan's text tells is what was given
  pub given : (o : Option ℕ) → (line : HeldLid) → Contains (option_map_or (λ top. made rule lmc cells top) o nothing_held).lids line
      → owner_of (lids lmc cells) line.lid ≡ Some line.port
  given None line there = absurd (contains_none line there)
  given (Some top) line there = line_owned lmc facts has_room line there

  abbrev plan : HeldPlan
  plan = held_plan (plan_of rule lmc (cells_of facts))

  pub owner_there : (lid : ℕ) (x : EndPort) → owners_of plan lid ≡ x ∷ [] → Contains (end_ports cells) x
  owner_there lid x own =
      owner_listed lmc facts has_room lid x (given (top_of (lids lmc cells)) (record { lid = lid; port = x }) (line_there rule lmc facts lid x own))

  -- one end port alone
  same_owner : (lid : ℕ) (x y : EndPort) → is_owner (owners_of plan lid) x ≡ true → is_owner (owners_of plan lid) y ≡ true → is_same_end x y ≡ true
  same_owner lid x y a b =
      let one = given (top_of (lids lmc cells)) (record { lid = lid; port = x }) (line_of plan lid x a) in
      let other = given (top_of (lids lmc cells)) (record { lid = lid; port = y }) (line_of plan lid y b) in
      let same : x ≡ y = same_port x y (sym one ∙ other) in
      subst (λ (z : EndPort). is_same_end x z ≡ true) same (same_itself x)
    where
      same_port : (x y : EndPort) → ◌≡◌ {A = Option EndPort} (Some x) (Some y) → x ≡ y
      same_port x y e = cc

  alone_by : (lid : ℕ) (owners : List EndPort) → owners_of plan lid ≡ owners → (owners_of plan lid ≡ []) ⊎ ((x : EndPort) × (owners_of plan lid ≡ x ∷ []))
  alone_by lid [] own = inl own
  alone_by lid (x ∷ owners) own =
      let first = first_is_owner plan lid x owners own in
      let sole : is_sole x (owners_of plan lid) ≡ true =
      list_all_true (is_same_end x) (owners_of plan lid) (λ y there. same_owner lid x y first (is_among (owners_of plan lid) y there)) in
      inr (x, (sole_owners_are_alone plan lid x first).0 sole)

  pub each_alone : EachAlone plan
  each_alone lid = alone_by lid (owners_of plan lid) refl
