-- After enough steps each entry is the plan's where the plan delivers, and none where it does not; others are from the
-- first step on.
use Rattle.std.proofs.Common.{◌≡◌, ◌<◌, ◌≤◌, ℕ, zero, suc, max, true, false, cond, List, [], ◌∷◌, length, Option, None, Some, refl, sym, ap, ◌∙◌, subst, arith}
use Rattle.std.proofs.Common.{inl, inr}
use Rattle.std.specs.Prelude.{map, slice_get, slice_index_or, ◌==◌}
use Rattle.std.proofs.lemmas.Bool.{eq-eqb}
use Rattle.std.proofs.lemmas.Option.{slice_get-get_or}
use Rattle.subnet_view.specs.declared.end_port.EndPort.{EndPort}
use Rattle.subnet_view.specs.Reading.{Cells, switches}
use Rattle.held_tables.specs.declared.held.HeldLid.{HeldLid}
use Rattle.held_tables.specs.Held.{HeldPlan}
use Rattle.held_tables.specs.Tables.{entry_for, is_same_end, owners_of, top_of}
use Rattle.plan_tables.proofs.HeldTables.{within_length}
use Rattle.packet_walks.specs.declared.packet_end.End.TheVariants.{Taken}
use Rattle.packet_walks.specs.declared.next_hop.NextHop.{NextHop}
use Rattle.packet_walks.specs.declared.next_hop.NextHop.TheVariants.{To, Ends}
use Rattle.packet_walks.specs.HopsByTables.{next_hops_of}
use Rattle.packet_walks.specs.EndsBySwitch.{after}
use Rattle.packet_walks.proofs.Ended.{after_ended}
use Rattle.packet_walks.proofs.Judged.{same_ends}
use Rattle.packet_walks.proofs.EntrySteps.{contains_at}
use Rattle.next_tables.specs.SettledRule.{agreed, agreed_at, comes_to, step_at}
use Rattle.next_tables.specs.NextTables.{IsKept, keeper, kept_by, next_at, next_for, next_tables, settled_first}
use Rattle.next_tables.specs.SettledStepLaws.{stepped}
use Rattle.next_tables.proofs.Entries.{comes_false, comes_true, plain_mapped, steps_at, steps_long}
use Rattle.next_tables.proofs.Mixtures.{at, in_range}
use Rattle.next_tables.proofs.Plain.{dropped, plain, plain_after, plain_taken}
use Rattle.next_tables.proofs.StepLaws.{steps_end_in_the_plan}
use Rattle.next_tables.proofs.Steps.{at_index, next_deliver_or_drop, planned_there}
use Rattle.next_tables.proofs.Whole.{entry_next, is_next, kept_owners, owners_next, top_next}
use Rattle.next_run.proofs.SameTables.{AreAlikeAt, next_same}
use Rattle.table_laws.specs.StepEnds.{DeliversWhatTablesCan, MeetAtMost, StepsEnd}

-- where a LID has a keeper, it is held by that end port alone
kept_alone : (x e : EndPort) (owners : List EndPort) → kept_by x owners ≡ Some e → owners ≡ x ∷ []
kept_alone x e [] h = absurd (cc)
kept_alone x e (y ∷ []) h =
    elim (is_same_end x y) as (λ t. is_same_end x y ≡ t → cond t (Some x) None ≡ Some e → y ∷ [] ≡ x ∷ []) [
      | true ↦ λ q f. ap (λ z. z ∷ []) (same_ends x y q)
      | false ↦ λ q f. absurd (cc)
    ] refl h
kept_alone x e (y ∷ z ∷ owners) h = absurd (cc)

once_more : (a b : ℕ) → max (max a b) b ≡ max a b
once_more a b = omega arith

module _ (cells : Cells) (plan : HeldPlan) (lid : ℕ) (x : EndPort) (own : owners_of plan lid ≡ x ∷ []) where
  abbrev line : HeldLid
  line = record { lid = lid; port = x }

  abbrev hops : List NextHop
  hops = next_hops_of cells plan lid

  -- the plan delivers from a switch
  abbrev Way : ℕ → Type 0
  Way i = (n : ℕ) × (after n hops (To i) ≡ Ends (Taken x))

  -- tables have the plan's entry wherever it does
  abbrev HasWays : HeldPlan → Type 0
  HasWays tables = (i g : ℕ) → slice_get (switches cells) i ≡ Some g → Way i → entry_for tables lid g ≡ entry_for plan lid g

  module _ (tables : HeldPlan) (kept : IsKept tables plan line) (has : HasWays tables) where
    abbrev next : HeldPlan
    next = next_tables cells settled_first tables plan

    abbrev same : owners_of plan lid ≡ owners_of tables lid
    same = kept_owners cells tables plan line kept

    abbrev P : List NextHop
    P = map plain hops

    abbrev A : List NextHop
    A = map plain (agreed cells tables plan lid)

    agreed_there : (j : ℕ) → j < length (switches cells) → Way j → at A j ≡ at P j
    agreed_there j less way =
        let g : ℕ = slice_index_or (switches cells) j 0 in
        let equal : (entry_for tables lid g == entry_for plan lid g) ≡ true =
        eq-eqb (entry_for tables lid g) (entry_for plan lid g) (has j g (slice_get-get_or (switches cells) j 0 less) way) in
        plain_mapped cells tables plan next line same (is_next cells tables plan line kept) (agreed_at cells tables plan lid) j less
        ∙ ap (λ t. plain (cond t (step_at cells plan lid g) (dropped g))) equal
        ∙ sym (steps_at cells tables plan next line same (is_next cells tables plan line kept) plan j less)

    walked : (n : ℕ) (s : NextHop) → after n P s ≡ Ends (Taken x) → after n A s ≡ Ends (Taken x)
    walked n (Ends e) h = after_ended n A e ∙ sym (after_ended n P e) ∙ h
    walked zero (To j) h = absurd (cc)
    walked (suc n) (To j) h =
        let long = steps_long cells tables plan next line same (is_next cells tables plan line kept) plan in
        let less : j < length (switches cells) = omega (arith, in_range P (suc n) j (Taken x) h, long) in
        let way : Way j = (suc n, plain_taken (after (suc n) hops (To j)) x (sym (plain_after (suc n) hops (To j)) ∙ h)) in
        ap (after n A) (agreed_there j less way) ∙ walked n (at P j) h

    -- so have the next ones
    keeps_ways : HasWays next
    keeps_ways i g at_g (zero, e) = absurd (cc)
    keeps_ways i g at_g (suc n, e) =
        let less : i < length (switches cells) = within_length (switches cells) i g at_g in
        let way : after n P (at P i) ≡ Ends (Taken x) = plain_after (suc n) hops (To i) ∙ ap plain e in
        subst (λ (g : ℕ). entry_for next lid g ≡ entry_for plan lid g) (at_index (switches cells) i g 0 at_g)
        (planned_there cells tables plan next line same (is_next cells tables plan line kept) i less (n, walked n (at P i) way))

  module _ (held : HeldPlan) where
    abbrev S : ℕ → HeldPlan
    S n = stepped cells plan held n

    kept_later : (k : ℕ) → IsKept (S (suc k)) plan line
    kept_later k = record { in_plan = own; in_held = owners_next cells settled_first (S k) plan lid ∙ own }

    -- the first step takes the plan's entries where no end port keeps the LID
    taken_first : keeper (x ∷ []) (owners_of held lid) ≡ None → HasWays (S 1)
    unfolding next_at
    taken_first none i g at_g way =
        entry_next cells settled_first held plan g lid (contains_at (switches cells) i g at_g)
        ∙ (λ j. next_for cells held plan lid (own j) (keeper (own j) (owners_of held lid)) g)
        ∙ ap (λ o. next_for cells held plan lid (x ∷ []) o g) none

    taken_later : keeper (x ∷ []) (owners_of held lid) ≡ None → (k : ℕ) → HasWays (S (suc k))
    taken_later none zero = taken_first none
    taken_later none (suc k) = keeps_ways (S (suc k)) (kept_later k) (taken_later none k)

    module _ (most : ℕ) (meet : MeetAtMost cells plan most) where
      arrived_by : (o : Option EndPort) → keeper (x ∷ []) (owners_of held lid) ≡ o → (m : ℕ) → most ≤ suc m → HasWays (S (suc m))
      arrived_by None e m le = taken_later e m
      arrived_by (Some p) e m le =
          let kept : IsKept held plan line = record { in_plan = own; in_held = kept_alone x p (owners_of held lid) e } in
          λ i g at_g way. steps_end_in_the_plan cells held plan line kept i g most (suc m) at_g (meet line own i way.0 way.1) le

      pub arrived : (m : ℕ) → most ≤ suc m → HasWays (S (suc m))
      arrived = arrived_by (keeper (x ∷ []) (owners_of held lid)) refl

    module _ (can : DeliversWhatTablesCan cells plan) where
      pub emptied : (k i g : ℕ) → slice_get (switches cells) i ≡ Some g → (Way i → ⊥) → entry_for (S (suc (suc k))) lid g ≡ 255
      emptied k i g at_g none =
          let kept = kept_later k in
          elim (next_deliver_or_drop cells (S (suc k)) plan (S (suc (suc k))) line (kept_owners cells (S (suc k)) plan line kept)
          (is_next cells (S (suc k)) plan line kept) i g at_g) [
            | inl e ↦ e
            | inr ends ↦ absurd (none (can (S (suc (suc k))) line (kept_later (suc k)) i ends.0 ends.1))
          ]

      settled : (most : ℕ) → MeetAtMost cells plan most → (k i g : ℕ) → most ≤ suc (suc k) → slice_get (switches cells) i ≡ Some g
          → entry_for (S (suc (suc (suc k)))) lid g ≡ entry_for (S (suc (suc k))) lid g
      settled most meet k i g le at_g =
          elim (comes_to x hops (To i)) as (λ t. comes_to x hops (To i) ≡ t
          → entry_for (S (suc (suc (suc k)))) lid g ≡ entry_for (S (suc (suc k))) lid g) [
            | true ↦ λ e.
                let c = comes_true x hops (To i) e in
                let way : Way i = (c.0, plain_taken (after c.0 hops (To i)) x (sym (plain_after c.0 hops (To i)) ∙ c.1)) in
                arrived most meet (suc (suc k)) (omega (arith, le)) i g at_g way ∙ sym (arrived most meet (suc k) le i g at_g way)
            | false ↦ λ e.
                let none : Way i → ⊥ = λ way. comes_false x hops (To i) e (way.0, plain_after way.0 hops (To i) ∙ ap plain way.1) in
                emptied (suc k) i g at_g none ∙ sym (emptied k i g at_g none)
          ] refl

module _ (cells : Cells) (held plan : HeldPlan) (most : ℕ) (can : DeliversWhatTablesCan cells plan) (meet : MeetAtMost cells plan most) where
  abbrev T : ℕ → HeldPlan
  T n = stepped cells plan held n

  -- where not one end port alone has the LID in the plan, the entry hangs on the plan alone
  entries_alike : (lid : ℕ) (owners : List EndPort) → owners_of plan lid ≡ owners → (k i g : ℕ) → most ≤ suc (suc k)
      → slice_get (switches cells) i ≡ Some g → next_at cells settled_first (T (suc (suc k))) plan lid g ≡ next_at cells settled_first (T (suc k)) plan lid g
  unfolding next_at
  entries_alike lid [] own k i g le at_g =
      (λ j. next_for cells (T (suc (suc k))) plan lid (own j) (keeper (own j) (owners_of (T (suc (suc k))) lid)) g)
      ∙ sym (λ j. next_for cells (T (suc k)) plan lid (own j) (keeper (own j) (owners_of (T (suc k)) lid)) g)
  entries_alike lid (x ∷ y ∷ owners) own k i g le at_g =
      (λ j. next_for cells (T (suc (suc k))) plan lid (own j) (keeper (own j) (owners_of (T (suc (suc k))) lid)) g)
      ∙ sym (λ j. next_for cells (T (suc k)) plan lid (own j) (keeper (own j) (owners_of (T (suc k)) lid)) g)
  entries_alike lid (x ∷ []) own k i g le at_g =
      let here = contains_at (switches cells) i g at_g in
      sym (entry_next cells settled_first (T (suc (suc k))) plan g lid here) ∙ settled cells plan lid x own held can most meet k i g le at_g
      ∙ entry_next cells settled_first (T (suc k)) plan g lid here

  alike : (k i g : ℕ) → most ≤ suc (suc k) → slice_get (switches cells) i ≡ Some g
      → AreAlikeAt cells settled_first settled_first (T (suc (suc k))) plan (T (suc k)) plan g
  alike k i g le at_g = record {
    top = ap (λ t. max t (top_of plan g)) (top_next cells settled_first (T (suc k)) plan g (contains_at (switches cells) i g at_g))
        ∙ once_more (top_of (T (suc k)) g) (top_of plan g);
    entries = λ lid. entries_alike lid (owners_of plan lid) refl k i g le at_g;
  }

  ended : (n : ℕ) → most ≤ n → 2 ≤ n → T (suc n) ≡ T n
  ended zero le two = absurd (omega (arith, two))
  ended (suc zero) le two = absurd (omega (arith, two))
  ended (suc (suc k)) le two = next_same cells settled_first settled_first (T (suc (suc k))) plan (T (suc k)) plan refl (λ i g at_g. alike k i g le at_g)

pub steps_end : StepsEnd
steps_end cells held plan most n can meet le two = ended cells held plan most can meet n le two
