-- Tables in which steps end: the plan's entry where the plan delivers, and else none.
use Rattle.std.proofs.Common.{◌≡◌, ◌≤◌, ℕ, zero, suc, true, false, [], ◌∷◌, Some, refl, sym, ap, ◌∙◌, arith, inl, inr, ◌⊎◌}
use Rattle.std.specs.Prelude.{slice_get}
use Rattle.subnet_view.specs.declared.end_port.EndPort.{EndPort}
use Rattle.subnet_view.specs.Reading.{Cells, switches}
use Rattle.held_tables.specs.Held.{HeldPlan}
use Rattle.held_tables.specs.Tables.{entry_for, owners_of}
use Rattle.packet_walks.specs.declared.packet_end.End.TheVariants.{Taken}
use Rattle.packet_walks.specs.declared.next_hop.NextHop.TheVariants.{To, Ends}
use Rattle.packet_walks.specs.HopsByTables.{next_hops_of}
use Rattle.packet_walks.specs.EndsBySwitch.{after}
use Rattle.packet_walks.proofs.EntrySteps.{contains_at}
use Rattle.next_tables.specs.SettledRule.{comes_to}
use Rattle.next_tables.specs.NextTables.{keeper, next_at, next_for, settled_first}
use Rattle.next_tables.specs.SettledStepLaws.{stepped}
use Rattle.next_tables.proofs.Entries.{comes_false, comes_true}
use Rattle.next_tables.proofs.Plain.{plain, plain_after, plain_taken}
use Rattle.next_tables.proofs.Whole.{entry_next}
use Rattle.table_laws.specs.StepEnds.{DeliversWhatTablesCan, MeetAtMost}
use Rattle.table_laws.proofs.step_ends.Ended.{arrived, emptied}

-- the plan delivers packets for a LID from the switch at an index
abbrev pub Way : Cells → HeldPlan → ℕ → EndPort → ℕ → Type 0
Way cells plan lid x i = (n : ℕ) × (after n (next_hops_of cells plan lid) (To i) ≡ Ends (Taken x))

pub record AreLast (cells : Cells) (plan tables : HeldPlan) : Type 0 where
  pub way : (lid : ℕ) (x : EndPort) → owners_of plan lid ≡ x ∷ [] → (i g : ℕ) → slice_get (switches cells) i ≡ Some g
      → Way cells plan lid x i → entry_for tables lid g ≡ entry_for plan lid g
  pub none : (lid : ℕ) (x : EndPort) → owners_of plan lid ≡ x ∷ [] → (i g : ℕ) → slice_get (switches cells) i ≡ Some g
      → (Way cells plan lid x i → ⊥) → entry_for tables lid g ≡ 255
  pub nobodys : (lid : ℕ) → owners_of plan lid ≡ [] → (i g : ℕ) → slice_get (switches cells) i ≡ Some g → entry_for tables lid g ≡ 255

-- no LID has two owners
abbrev pub EachAlone : HeldPlan → Type 0
EachAlone plan = (lid : ℕ) → (owners_of plan lid ≡ []) ⊎ ((x : EndPort) × (owners_of plan lid ≡ x ∷ []))

module _ (cells : Cells) (plan : HeldPlan) (lid : ℕ) (x : EndPort) (i : ℕ) where
  -- it does or does not
  pub way_or_none : Way cells plan lid x i ⊎ (Way cells plan lid x i → ⊥)
  way_or_none =
      let hops = next_hops_of cells plan lid in
      elim (comes_to x hops (To i)) as (λ t. comes_to x hops (To i) ≡ t → Way cells plan lid x i ⊎ (Way cells plan lid x i → ⊥)) [
        | true ↦ λ e.
            let c = comes_true x hops (To i) e in
            inl (c.0, plain_taken (after c.0 hops (To i)) x (sym (plain_after c.0 hops (To i)) ∙ c.1))
        | false ↦ λ e. inr (λ way. comes_false x hops (To i) e (way.0, plain_after way.0 hops (To i) ∙ ap plain way.1))
      ] refl

-- such tables have the same entries
pub last_same : (cells : Cells) (plan one other : HeldPlan) → EachAlone plan → AreLast cells plan one → AreLast cells plan other
    → (lid i g : ℕ) → slice_get (switches cells) i ≡ Some g → entry_for one lid g ≡ entry_for other lid g
last_same cells plan one other alone a b lid i g at =
    elim (alone lid) [
      | inl none ↦ a.nobodys lid none i g at ∙ sym (b.nobodys lid none i g at)
      | inr x ↦ (elim (way_or_none cells plan lid x.0 i) [
        | inl way ↦ a.way lid x.0 x.1 i g at way ∙ sym (b.way lid x.0 x.1 i g at way)
        | inr none ↦ a.none lid x.0 x.1 i g at none ∙ sym (b.none lid x.0 x.1 i g at none)
      ])
    ]

-- in them steps by settled entries end
module _ (cells : Cells) (held plan : HeldPlan) (most : ℕ) (can : DeliversWhatTablesCan cells plan) (meet : MeetAtMost cells plan most) where
  unowned : (n lid i g : ℕ) → owners_of plan lid ≡ [] → slice_get (switches cells) i ≡ Some g → entry_for (stepped cells plan held (suc n)) lid g ≡ 255
  unfolding next_at
  unowned n lid i g none at =
      entry_next cells settled_first (stepped cells plan held n) plan g lid (contains_at (switches cells) i g at)
      ∙ (λ j. next_for cells (stepped cells plan held n) plan lid (none j) (keeper (none j) (owners_of (stepped cells plan held n) lid)) g)

  pub settled_last : (n : ℕ) → most ≤ n → 2 ≤ n → AreLast cells plan (stepped cells plan held n)
  settled_last zero le two = absurd (omega (arith, two))
  settled_last (suc zero) le two = absurd (omega (arith, two))
  settled_last (suc (suc k)) le two = record {
    way = λ lid x own i g at way. arrived cells plan lid x own held most meet (suc k) le i g at way;
    none = λ lid x own i g at none. emptied cells plan lid x own held can k i g at none;
    nobodys = λ lid none i g at. unowned (suc k) lid i g none at;
  }
