-- The laws of a step, and of steps in turn.
use Rattle.std.proofs.Common.{◌≡◌, ℕ, zero, suc, ◌+◌, ◌-◌, ◌<◌, ◌≤◌, true, false, cond, List, [], ◌∷◌, length, Some, refl, sym, ap, ◌∙◌, subst, arith, inl, inr, ◌⊎◌}
use Rattle.std.specs.Prelude.{map, slice_get, slice_index_or, ◌==◌}
use Rattle.std.proofs.lemmas.Bool.{eqb-true, eq-eqb}
use Rattle.std.proofs.lemmas.Option.{same_Some}
use Rattle.subnet_view.specs.declared.end_port.EndPort.{EndPort}
use Rattle.subnet_view.specs.Reading.{Cells, switches}
use Rattle.held_tables.specs.declared.held.HeldLid.{HeldLid}
use Rattle.held_tables.specs.Held.{HeldPlan}
use Rattle.packet_walks.specs.declared.cause.Cause.TheVariants.{NoEntry}
use Rattle.packet_walks.specs.declared.packet_end.End.{End}
use Rattle.packet_walks.specs.declared.packet_end.End.TheVariants.{Taken, Lost}
use Rattle.packet_walks.specs.declared.next_hop.NextHop.{NextHop}
use Rattle.packet_walks.specs.declared.next_hop.NextHop.TheVariants.{To, Ends}
use Rattle.held_tables.specs.Switches.{sender_of}
use Rattle.held_tables.specs.Tables.{owners_of, entry_for}
use Rattle.packet_walks.specs.EndsBySwitch.{after, is_to}
use Rattle.packet_walks.specs.HopsByTables.{first_hop, next_hops_of}
use Rattle.packet_walks.proofs.Ended.{after_ended}
use Rattle.plan_tables.proofs.HeldTables.{within_length}
use Rattle.next_tables.specs.SettledRule.{step_at, agreed_at, agreed, mending, IsNext}
use Rattle.next_tables.specs.Mixtures.{after_by, IsMixed, IsLoose, NoneIsLost, NoneGoesRound, AreSteps, EndInThePlan, StillIsThePlan, HealInTwo, NextDeliverOrDrop}
use Rattle.next_tables.proofs.Mixtures.{at, Comes, ComesBy, EndsBy, held_comes, held_ends, mending_next, agreed_stays, delivers_or_drops, plan_mended, led, in_range, clean}
use Rattle.next_tables.proofs.Plain.{dropped, plain, plain_after, plain_after_by, plain_end, plain_ended, plain_taken}
use Rattle.next_tables.proofs.Entries.{plain_mapped, planned, agree, choose, mend, drops, emptied_entry, mix, loose, steps_long, agreed_long, mending_long, steps_at}

-- what stands at an index
pub at_index : (xs : List ℕ) (i x d : ℕ) → slice_get xs i ≡ Some x → slice_index_or xs i d ≡ x
at_index [] i x d e = cc
at_index (y ∷ xs) zero x d e = same_Some y x e
at_index (y ∷ xs) (suc i) x d e = at_index xs i x d e

module _ (cells : Cells) (held plan next : HeldPlan) (line : HeldLid) (same : owners_of plan line.lid ≡ owners_of held line.lid)
    (is : IsNext cells held plan line next) where
  abbrev lid : ℕ
  lid = line.lid

  abbrev H : List NextHop
  H = map plain (next_hops_of cells held lid)

  abbrev P : List NextHop
  P = map plain (next_hops_of cells plan lid)

  abbrev A : List NextHop
  A = map plain (agreed cells held plan lid)

  abbrev M : List NextHop
  M = map plain (mending cells held plan line)

  abbrev N : List NextHop
  N = map plain (next_hops_of cells next lid)

  abbrev count : ℕ
  count = length (switches cells)

  abbrev held_count : length H ≡ count
  held_count = steps_long cells held plan next line same is held

  lost : (mixed : ℕ → HeldPlan) → ((k : ℕ) → IsLoose cells held next lid (mixed k)) → (n : ℕ) (s : NextHop) → after n H s ≡ Ends (Taken line.port)
      → ComesBy line.port (λ k. map plain (next_hops_of cells (mixed k) lid)) s
  lost mixed are n s h =
      held_comes line.port count H P A M N (planned cells held plan next line same is)
      held_count (agreed_long cells held plan next line same is) (mending_long cells held plan next line same is)
      (agree cells held plan next line same is) (choose cells held plan next line same is) (mend cells held plan next line same is)
      n s (λ k. map plain (next_hops_of cells (mixed k) lid)) (loose cells held plan next line same is mixed are) h

  round : (mixed : ℕ → HeldPlan) → ((k : ℕ) → IsMixed cells held next lid (mixed k)) → (n : ℕ) (s : NextHop) (e : End) → after n H s ≡ Ends e
      → EndsBy (λ k. map plain (next_hops_of cells (mixed k) lid)) s
  round mixed are n s e h =
      held_ends line.port count H P A M N (planned cells held plan next line same is)
      held_count (agreed_long cells held plan next line same is) (mending_long cells held plan next line same is)
      (agree cells held plan next line same is) (choose cells held plan next line same is) (mend cells held plan next line same is)
      (drops cells held plan next line same is)
      n s e (λ k. map plain (next_hops_of cells (mixed k) lid)) (mix cells held plan next line same is mixed are) h

  -- if the plan's entry leads on, it is the next entry
  pub planned_there : (i : ℕ) → i < count → Comes line.port A (at P i) → planned cells held plan next line same is i
  planned_there i less h =
      (led line.port count H P A M N (planned cells held plan next line same is)
      held_count (agreed_long cells held plan next line same is) (mending_long cells held plan next line same is)
      (agree cells held plan next line same is) (choose cells held plan next line same is) (mend cells held plan next line same is) i less h).entry

  -- by the entries that are the plan's after the step
  pub agreed_later : (i : ℕ) → i < count → planned cells held plan next line same is i → at (map plain (agreed cells next plan lid)) i ≡ at P i
  agreed_later i less h =
      let g : ℕ = slice_index_or (switches cells) i 0 in
      let equal : (entry_for next lid g == entry_for plan lid g) ≡ true = eq-eqb (entry_for next lid g) (entry_for plan lid g) h in
      plain_mapped cells held plan next line same is (agreed_at cells next plan lid) i less
      ∙ ap (λ t. plain (cond t (step_at cells plan lid g) (dropped g))) equal
      ∙ sym (steps_at cells held plan next line same is plan i less)

  pub stays : (n : ℕ) (s : NextHop) → after n A s ≡ Ends (Taken line.port) → after n (map plain (agreed cells next plan lid)) s ≡ Ends (Taken line.port)
  stays n s h =
      agreed_stays line.port count H P A M N (planned cells held plan next line same is)
      held_count (agreed_long cells held plan next line same is) (mending_long cells held plan next line same is)
      (agree cells held plan next line same is) (choose cells held plan next line same is) (mend cells held plan next line same is)
      (map plain (agreed cells next plan lid)) agreed_later n s h

  pub ready : (i : ℕ) → i < count → is_to (at N i) ≡ true → Comes line.port N (at N i)
  ready =
      delivers_or_drops line.port count H P A M N (planned cells held plan next line same is)
      held_count (agreed_long cells held plan next line same is) (mending_long cells held plan next line same is)
      (agree cells held plan next line same is) (choose cells held plan next line same is) (mend cells held plan next line same is)
      (drops cells held plan next line same is)

  pub healed : ((i : ℕ) → i < count → is_to (at H i) ≡ true → Comes line.port H (at H i)) → (n : ℕ) (s : NextHop) → after n P s ≡ Ends (Taken line.port)
      → Comes line.port N s
  healed before n s h =
      let m : Comes line.port M s =
      plan_mended line.port count H P A M N (planned cells held plan next line same is)
      held_count (agreed_long cells held plan next line same is) (mending_long cells held plan next line same is)
      (agree cells held plan next line same is) (choose cells held plan next line same is) (mend cells held plan next line same is)
      before (steps_long cells held plan next line same is plan) n s h in
      mending_next line.port count H P A M N (planned cells held plan next line same is)
      held_count (agreed_long cells held plan next line same is) (mending_long cells held plan next line same is)
      (agree cells held plan next line same is) (choose cells held plan next line same is) (mend cells held plan next line same is)
      m.0 s m.1

  pub cleaned : (i : ℕ) → i < count → (entry_for next lid (slice_index_or (switches cells) i 0) ≡ 255) ⊎ Comes line.port N (To i)
  cleaned i less =
      elim (clean line.port count H P A M N (planned cells held plan next line same is)
      held_count (agreed_long cells held plan next line same is) (mending_long cells held plan next line same is)
      (agree cells held plan next line same is) (choose cells held plan next line same is) (mend cells held plan next line same is) i less) [
        | inl it ↦ inl (emptied_entry cells held plan next line same is i less it)
        | inr c ↦ inr c
      ]

-- a packet ends at the port whatever causes are
as_plain : (steps : List NextHop) (port : EndPort) (n : ℕ) (s : NextHop) → after n steps s ≡ Ends (Taken port) → after n (map plain steps) (plain s)
    ≡ Ends (Taken port)
as_plain steps port n s h = plain_after n steps s ∙ ap plain h

from_plain : (steps : List NextHop) (port : EndPort) (n : ℕ) (s : NextHop) → after n (map plain steps) (plain s) ≡ Ends (Taken port) → after n steps s
    ≡ Ends (Taken port)
from_plain steps port n s h = plain_taken (after n steps s) port (sym (plain_after n steps s) ∙ h)

pub next_deliver_or_drop : NextDeliverOrDrop
next_deliver_or_drop cells held plan next line same is i g at_g =
    elim (cleaned cells held plan next line same is i (within_length (switches cells) i g at_g)) [
      | inl e ↦ inl (subst (λ (x : ℕ). entry_for next line.lid x ≡ 255) (at_index (switches cells) i g 0 at_g) e)
      | inr c ↦ inr (c.0, from_plain (next_hops_of cells next line.lid) line.port c.0 (To i) c.1)
    ]

pub none_is_lost : NoneIsLost
none_is_lost cells held plan next line same is mixed are source h =
    let first = first_hop (owners_of held line.lid) (sender_of cells source) in
    let steps : ℕ → List NextHop = λ k. next_hops_of cells (mixed k) line.lid in
    let it = lost cells held plan next line same is mixed are h.0 (plain first) (as_plain (next_hops_of cells held line.lid) line.port h.0 first h.1) in
    let there : after_by it.0 steps first ≡ Ends (Taken line.port) =
    plain_taken (after_by it.0 steps first) line.port (sym (plain_after_by it.0 steps first) ∙ it.1) in
    let now = are 0 in
    (it.0, ap (λ os. after_by it.0 steps (first_hop os (sender_of cells source))) now.owners ∙ there)

pub none_goes_round : NoneGoesRound
none_goes_round cells held plan next line same is mixed are source end h =
    let first = first_hop (owners_of held line.lid) (sender_of cells source) in
    let steps : ℕ → List NextHop = λ k. next_hops_of cells (mixed k) line.lid in
    let over = plain_end (after h.0 (next_hops_of cells held line.lid) first) end h.1 in
    let it = round cells held plan next line same is mixed are h.0 (plain first) over.0 (plain_after h.0 (next_hops_of cells held line.lid) first ∙ over.1) in
    let last = plain_ended (after_by it.1 steps first) it.0 (sym (plain_after_by it.1 steps first) ∙ it.2) in
    let now = are 0 in
    (last.0, (it.1, ap (λ os. after_by it.1 steps (first_hop os (sender_of cells source))) now.owners ∙ last.1))

-- steps in turn ------------------------------------------------------------------------

module _ (cells : Cells) (plan : HeldPlan) (line : HeldLid) (tables : ℕ → HeldPlan) (are : AreSteps cells plan line tables) where
  owned : (n : ℕ) → owners_of plan line.lid ≡ owners_of (tables n) line.lid
  owned zero = are.owners
  owned (suc n) = let step = are.steps n in owned n ∙ sym step.owners

  abbrev by : ℕ → List NextHop
  by n = map plain (agreed cells (tables n) plan line.lid)

  abbrev P_all : List NextHop
  P_all = map plain (next_hops_of cells plan line.lid)

  -- after n steps those from which the plan's way meets n switches have its entries all the way
  comes_in : (n : ℕ) (s : NextHop) → after n P_all s ≡ Ends (Taken line.port) → after n (by n) s ≡ Ends (Taken line.port)
  comes_in n (Ends e) h = after_ended n (by n) e ∙ sym (after_ended n P_all e) ∙ h
  comes_in zero (To i) h = absurd (cc)
  comes_in (suc n) (To i) h =
      let long = steps_long cells (tables n) plan (tables (suc n)) line (owned n) (are.steps n) plan in
      let less : i < length (switches cells) = omega (arith, in_range P_all (suc n) i (Taken line.port) h, long) in
      let there : after n (by n) (at P_all i) ≡ Ends (Taken line.port) = comes_in n (at P_all i) h in
      let entry = planned_there cells (tables n) plan (tables (suc n)) line (owned n) (are.steps n) i less (n, there) in
      ap (after n (by (suc n))) (agreed_later cells (tables n) plan (tables (suc n)) line (owned n) (are.steps n) i less entry)
      ∙ stays cells (tables n) plan (tables (suc n)) line (owned n) (are.steps n) n (at P_all i) there

  -- and they keep them
  more : (k n m : ℕ) (s : NextHop) → after n (by m) s ≡ Ends (Taken line.port) → after n (by (m + k)) s ≡ Ends (Taken line.port)
  more zero n m s h = let e : m + 0 ≡ m = omega arith in ap (λ j. after n (by j) s) e ∙ h
  more (suc k) n m s h =
      let e : m + suc k ≡ suc m + k = omega arith in
      ap (λ j. after n (by j) s) e ∙ more k n (suc m) s (stays cells (tables m) plan (tables (suc m)) line (owned m) (are.steps m) n s h)

  -- such an entry is the plan's
  entry_there : (m n i : ℕ) → after n (by m) (To i) ≡ Ends (Taken line.port)
      → entry_for (tables m) line.lid (slice_index_or (switches cells) i 0) ≡ entry_for plan line.lid (slice_index_or (switches cells) i 0)
  entry_there m zero i h = absurd (cc)
  entry_there m (suc n) i h =
      let step = are.steps m in
      let less : i < length (switches cells) =
      omega (arith, in_range (by m) (suc n) i (Taken line.port) h, agreed_long cells (tables m) plan (tables (suc m)) line (owned m) step) in
      let g : ℕ = slice_index_or (switches cells) i 0 in
      let here : at (by m) i ≡ plain (agreed_at cells (tables m) plan line.lid g) =
      plain_mapped cells (tables m) plan (tables (suc m)) line (owned m) step (agreed_at cells (tables m) plan line.lid) i less in
      elim (entry_for (tables m) line.lid g == entry_for plan line.lid g) as (λ t. (entry_for (tables m) line.lid g == entry_for plan line.lid g) ≡ t
      → entry_for (tables m) line.lid g ≡ entry_for plan line.lid g) [
        | true ↦ λ q. eqb-true (entry_for (tables m) line.lid g) (entry_for plan line.lid g) q
        | false ↦ λ q.
            let drops : at (by m) i ≡ dropped g = here ∙ ap (λ t. plain (cond t (step_at cells plan line.lid g) (dropped g))) q in
            let over : ◌≡◌ {A = NextHop} (dropped g) (Ends (Taken line.port)) =
            sym (after_ended n (by m) (Lost g NoEntry)) ∙ sym (ap (after n (by m)) drops) ∙ h in
            absurd (cc)
      ] refl

  pub ends : (i g n m : ℕ) → slice_get (switches cells) i ≡ Some g → after n P_all (To i) ≡ Ends (Taken line.port) → n ≤ m
      → entry_for (tables m) line.lid g ≡ entry_for plan line.lid g
  ends i g n m at_g h most =
      let e : n + (m - n) ≡ m = omega arith in
      let there : after n (by m) (To i) ≡ Ends (Taken line.port) = sym (ap (λ j. after n (by j) (To i)) e) ∙ more (m - n) n n (To i) (comes_in n (To i) h) in
      subst (λ (x : ℕ). entry_for (tables m) line.lid x ≡ entry_for plan line.lid x) (at_index (switches cells) i g 0 at_g) (entry_there m n i there)

  pub heal : (n : ℕ) (s : NextHop) → after n P_all s ≡ Ends (Taken line.port) → Comes line.port (map plain (next_hops_of cells (tables 2) line.lid)) s
  heal n s h =
      healed cells (tables 1) plan (tables 2) line (owned 1) (are.steps 1)
      (ready cells (tables 0) plan (tables 1) line (owned 0) (are.steps 0)) n s h

pub end_in_the_plan : EndInThePlan
end_in_the_plan cells plan line tables are i g n m at_g h most =
    ends cells plan line tables are i g n m at_g (as_plain (next_hops_of cells plan line.lid) line.port n (To i) h) most

pub still_is_the_plan : StillIsThePlan
still_is_the_plan cells held plan line same is i g n at_g h =
    end_in_the_plan cells plan line (λ k. held) (record { owners = same; steps = λ k. is }) i g n n at_g h (omega arith)

pub heal_in_two : HealInTwo
heal_in_two cells plan line tables are source h =
    let first = first_hop (owners_of plan line.lid) (sender_of cells source) in
    let it = heal cells plan line tables are h.0 (plain first) (as_plain (next_hops_of cells plan line.lid) line.port h.0 first h.1) in
    let there = from_plain (next_hops_of cells (tables 2) line.lid) line.port it.0 first it.1 in
    let owners : owners_of (tables 2) line.lid ≡ owners_of plan line.lid = (are.steps 1).owners ∙ (are.steps 0).owners ∙ sym are.owners in
    (it.0, ap (λ os. after it.0 (next_hops_of cells (tables 2) line.lid) (first_hop os (sender_of cells source))) owners ∙ there)
