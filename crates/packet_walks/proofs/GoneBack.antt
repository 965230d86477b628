-- From which switches packets for the LIDs of a block are seen to arrive, exit by exit and round by round.
use Rattle.std.proofs.Common.{◌≡◌, ◌<◌, ◌≤◌, ◌⊎◌, ℕ, zero, suc, true, false, List, [], ◌∷◌, ◌++◌, length, Option, None, Some, replicate, inl, inr, refl, sym, ap, subst, ◌∙◌, arith}
use Rattle.std.specs.Prelude.{slice_get, slice_set}
use Rattle.std.proofs.lemmas.Bool.{cases_eq, cases_lt}
use Rattle.std.proofs.lemmas.Grind.{get_or-set_at}
use Rattle.std.proofs.lemmas.List.{get_or-set_other, length-replicate, length-set}
use Rattle.std.proofs.lemmas.Option.{same_Some}
use Rattle.subnet_view.specs.declared.end_port.EndPort.{EndPort}
use Rattle.packet_walks.specs.declared.block_deliveries.Exit.{Exit}
use Rattle.packet_walks.specs.declared.packet_end.End.{End}
use Rattle.packet_walks.specs.declared.packet_end.End.TheVariants.{Taken}
use Rattle.packet_walks.specs.declared.lid_set.LidSet.{LidSet}
use Rattle.packet_walks.specs.declared.next_hop.NextHop.{NextHop}
use Rattle.packet_walks.specs.declared.next_hop.NextHop.TheVariants.{To, Ends}
use Rattle.packet_walks.specs.BlockDeliveries.{AreSeen, ComeFromEach, Comes, IsWithExit, IsWithHop, arrived_if, arrived_more, back_by, back_over, back_times, from_each, in_each, lids_at}
use Rattle.packet_walks.specs.LidSet.{both, either, has, no_lids, with_lid}
use Rattle.packet_walks.specs.HopsByTables.{is_at}
use Rattle.packet_walks.specs.EndsBySwitch.{IsEndOf, after, onward}
use Rattle.packet_walks.proofs.Judged.{at_is}
use Rattle.packet_walks.proofs.LidBits.{both_has, either_has, none_has, with_has}

-- no LIDs are seen past the end of a list
none_past : (xs : List LidSet) (k : ℕ) → length xs ≤ k → lids_at xs k ≡ no_lids
none_past [] k h = refl
none_past (x ∷ xs) zero h = absurd (omega arith)
none_past (x ∷ xs) (suc k) h = none_past xs k (omega arith)

blank : (n k : ℕ) → lids_at (replicate n no_lids) k ≡ no_lids
blank zero k = refl
blank (suc n) zero = refl
blank (suc n) (suc k) = blank n k

-- an exit of a list after one was set or appended
set_there : (xs : List Exit) (slot k : ℕ) (e x : Exit) → slice_get (slice_set xs slot e) k ≡ Some x → (slice_get xs k ≡ Some x) ⊎ (x ≡ e)
set_there [] slot k e x h = inl h
set_there (y ∷ ys) zero zero e x h = inr (sym (same_Some e x h))
set_there (y ∷ ys) zero (suc k) e x h = inl h
set_there (y ∷ ys) (suc slot) zero e x h = inl h
set_there (y ∷ ys) (suc slot) (suc k) e x h = set_there ys slot k e x h

behind : (xs : List Exit) (k : ℕ) (e x : Exit) → slice_get (xs ++ e ∷ []) k ≡ Some x → (slice_get xs k ≡ Some x) ⊎ (x ≡ e)
behind [] zero e x h = inr (sym (same_Some e x h))
behind [] (suc k) e x h = inl h
behind (y ∷ ys) zero e x h = inl h
behind (y ∷ ys) (suc k) e x h = behind ys k e x h

-- the LIDs that are in each set
each_of : (lids : LidSet) (later : List LidSet) (i : ℕ) → has lids i ≡ true → ((k : ℕ) → k < length later → has (lids_at later k) i ≡ true)
    → (k : ℕ) → k < length (lids ∷ later) → has (lids_at (lids ∷ later) k) i ≡ true
each_of lids later i here rest zero less = here
each_of lids later i here rest (suc k) less = rest k (omega arith)

in_each_has : (lids : LidSet) (later : List LidSet) (i : ℕ) → has (in_each lids later) i ≡ true
    → (has lids i ≡ true) × ((k : ℕ) → k < length later → has (lids_at later k) i ≡ true)
in_each_has lids [] i is = (is, λ k less. absurd (omega arith))
in_each_has lids (more ∷ later) i is =
    let rest = in_each_has (both lids more) later i is in let parts = both_has lids more i rest.0 in (parts.0, each_of more later i parts.1 rest.1)

from_each_has : (arrived : List LidSet) (i : ℕ) → has (from_each arrived) i ≡ true
    → (0 < length arrived) × ((k : ℕ) → k < length arrived → has (lids_at arrived k) i ≡ true)
from_each_has [] i is = let over : true ≡ false = sym is ∙ none_has i in absurd (cc)
from_each_has (lids ∷ later) i is = let parts = in_each_has lids later i is in (omega arith, each_of lids later i parts.0 parts.1)

-- exits so far, and those that are left
pub by_long : (exits : List Exit) (arrived : List LidSet) → length (back_by exits arrived) ≡ length arrived
by_long [] arrived = refl
by_long (x ∷ exits) arrived =
    by_long exits (back_over x arrived)
    ∙ length-set arrived x.from (either (lids_at arrived x.from) (both (lids_at arrived x.to) x.lids))

pub times_long : (n : ℕ) (exits : List Exit) (arrived : List LidSet) → length (back_times n exits arrived) ≡ length arrived
times_long zero exits arrived = refl
times_long (suc n) exits arrived = by_long exits (back_times n exits arrived) ∙ times_long n exits arrived

module _ (count : ℕ) (hops : ℕ → List NextHop) (target : ℕ → Option EndPort) where
  abbrev Arrive : List LidSet → Type 0
  Arrive arrived = (switch index : ℕ) → has (lids_at arrived switch) index ≡ true → Comes (hops index) (target index) switch

  abbrev Lead : List Exit → Type 0
  Lead exits =
      (k index : ℕ) (exit : Exit) → slice_get exits k ≡ Some exit → has exit.lids index ≡ true → onward (hops index) (To exit.from) ≡ To exit.to

  put : (arrived : List LidSet) (at : ℕ) (lids : LidSet) → Arrive arrived → ((i : ℕ) → has lids i ≡ true → Comes (hops i) (target i) at)
      → Arrive (slice_set arrived at lids)
  put arrived at lids h here = λ switch index is.
      elim (cases_eq switch at) [
        | inl same ↦ (elim (cases_lt at (length arrived)) [
          | inl within ↦
              let stands : lids_at (slice_set arrived at lids) switch ≡ lids = get_or-set_at arrived at switch lids no_lids same (omega arith) in
              subst (λ (k : ℕ). Comes (hops index) (target index) k) (sym same) (here index (sym (ap (λ (x : LidSet). has x index) stands) ∙ is))
          | inr past ↦
              let long = length-set arrived at lids in
              let none : lids_at (slice_set arrived at lids) switch ≡ no_lids = none_past (slice_set arrived at lids) switch (omega arith) in
              let over : true ≡ false = sym is ∙ ap (λ (x : LidSet). has x index) none ∙ none_has index in absurd (cc)
        ])
        | inr apart ↦ h switch index (sym (ap (λ (x : LidSet). has x index) (get_or-set_other arrived at switch lids no_lids apart)) ∙ is)
      ]

  -- a LID more
  one_more : (arrived : List LidSet) (switch i : ℕ) → i < 64 → Arrive arrived → Comes (hops i) (target i) switch → Arrive (arrived_more arrived switch i)
  one_more arrived switch i less h comes =
      put arrived switch (with_lid (lids_at arrived switch) i) h
      (λ j is. (elim (with_has (lids_at arrived switch) i j less is) [
        | inl same ↦ subst (λ (k : ℕ). Comes (hops k) (target k) switch) (sym same) comes
        | inr before ↦ h switch j before
      ]))

  -- an exit more, or one that has a LID more
  exit_more : (old new : List Exit) (from to i : ℕ) → i < 64 → Lead old → onward (hops i) (To from) ≡ To to → IsWithExit old from to i new → Lead new
  exit_more old new from to i less h on (inl m) = λ k j x there is.
      let e : Exit = record { from = from; to = to; lids = with_lid m.lids i } in
      elim (set_there old m.slot k e x (sym (ap (λ (xs : List Exit). slice_get xs k) m.put) ∙ there)) [
        | inl before ↦ h k j x before is
        | inr same ↦
            let those : has (with_lid m.lids i) j ≡ true = sym (ap (λ (y : Exit). has y.lids j) same) ∙ is in
            subst (λ (y : Exit). onward (hops j) (To y.from) ≡ To y.to) (sym same)
            (elim (with_has m.lids i j less those) [
              | inl at ↦ ap (λ (n : ℕ). onward (hops n) (To from)) at ∙ on
              | inr before ↦ h m.slot j (record { from = from; to = to; lids = m.lids }) m.there before
            ])
      ]
  exit_more old new from to i less h on (inr put_behind) = λ k j x there is.
      let e : Exit = record { from = from; to = to; lids = with_lid no_lids i } in
      elim (behind old k e x (sym (ap (λ (xs : List Exit). slice_get xs k) put_behind) ∙ there)) [
        | inl before ↦ h k j x before is
        | inr same ↦
            let those : has (with_lid no_lids i) j ≡ true = sym (ap (λ (y : Exit). has y.lids j) same) ∙ is in
            subst (λ (y : Exit). onward (hops j) (To y.from) ≡ To y.to) (sym same)
            (elim (with_has no_lids i j less those) [
              | inl at ↦ ap (λ (n : ℕ). onward (hops n) (To from)) at ∙ on
              | inr before ↦ let over : true ≡ false = sym before ∙ none_has j in absurd (cc)
            ])
      ]

  -- nothing is seen, and what becomes of one LID's packets at a switch
  pub none_seen : (arrived : List LidSet) (exits : List Exit) → arrived ≡ replicate count no_lids → exits ≡ [] → AreSeen count hops target arrived exits
  none_seen arrived exits blank_is none_is = record {
    as_many = ap length blank_is ∙ length-replicate count no_lids;
    arrive = λ switch index is.
        let over : true ≡ false =
        sym is ∙ ap (λ (xs : List LidSet). has (lids_at xs switch) index) blank_is ∙ ap (λ (x : LidSet). has x index) (blank count switch) ∙ none_has index in
        absurd (cc);
    lead = λ k index exit there is. let over : ◌≡◌ {A = Option Exit} None (Some exit) = sym (ap (λ (xs : List Exit). slice_get xs k) none_is) ∙ there in
        absurd (cc);
  }

  pub exit_seen : (arrived : List LidSet) (exits others : List Exit) (switch i to : ℕ) → i < 64 → AreSeen count hops target arrived exits
      → onward (hops i) (To switch) ≡ To to → IsWithExit exits switch to i others → AreSeen count hops target arrived others
  exit_seen arrived exits others switch i to less h on w =
      record { as_many = h.as_many; arrive = h.arrive; lead = exit_more exits others switch to i less h.lead on w }

  pub hop_seen : (arrived more : List LidSet) (exits others : List Exit) (switch i : ℕ) (port : EndPort) (hop : NextHop) → i < 64
      → AreSeen count hops target arrived exits → target i ≡ Some port → onward (hops i) (To switch) ≡ hop
      → IsWithHop arrived exits switch i port hop more others → AreSeen count hops target more others
  hop_seen arrived more exits others switch i port (To to) less h is on w = record {
    as_many = ap length w.0 ∙ h.as_many;
    arrive = subst (λ (xs : List LidSet). Arrive xs) (sym w.0) h.arrive;
    lead = exit_more exits others switch to i less h.lead on w.1;
  }
  hop_seen arrived more exits others switch i port (Ends end) less h is on w =
      elim (is_at port (Some end)) as (λ t. is_at port (Some end) ≡ t → more ≡ arrived_if t arrived switch i → AreSeen count hops target more others) [
        | true ↦ λ q put_is.
            let taken : end ≡ Taken port = same_Some end (Taken port) (at_is port (Some end) q) in
            let comes : Comes (hops i) (target i) switch = record { port = port; is_target = is; ends = (1, on ∙ ap (λ (x : End). Ends x) taken) } in
            record {
              as_many = ap length put_is ∙ length-set arrived switch (with_lid (lids_at arrived switch) i) ∙ h.as_many;
              arrive = subst (λ (xs : List LidSet). Arrive xs) (sym put_is) (one_more arrived switch i less h.arrive comes);
              lead = subst (λ (xs : List Exit). Lead xs) (sym w.1) h.lead;
            }
        | false ↦ λ q put_is. record {
          as_many = ap length put_is ∙ h.as_many;
          arrive = subst (λ (xs : List LidSet). Arrive xs) (sym put_is) h.arrive;
          lead = subst (λ (xs : List Exit). Lead xs) (sym w.1) h.lead;
        }
      ] refl w.0

  -- back over an exit, over all, and round by round
  over_seen : (arrived : List LidSet) (x : Exit) → Arrive arrived
      → ((index : ℕ) → has x.lids index ≡ true → onward (hops index) (To x.from) ≡ To x.to) → Arrive (back_over x arrived)
  over_seen arrived x h on =
      put arrived x.from (either (lids_at arrived x.from) (both (lids_at arrived x.to) x.lids)) h
      (λ i is. (elim (either_has (lids_at arrived x.from) (both (lids_at arrived x.to) x.lids) i is) [
        | inl before ↦ h x.from i before
        | inr there ↦
            let parts = both_has (lids_at arrived x.to) x.lids i there in
            let comes = h x.to i parts.0 in
            record {
              port = comes.port;
              is_target = comes.is_target;
              ends = (suc comes.ends.0, ap (after comes.ends.0 (hops i)) (on i parts.1) ∙ comes.ends.1);
            }
      ]))

  by_seen : (exits : List Exit) (arrived : List LidSet) → Lead exits → Arrive arrived → Arrive (back_by exits arrived)
  by_seen [] arrived lead h = h
  by_seen (x ∷ exits) arrived lead h =
      by_seen exits (back_over x arrived) (λ k i e there. lead (suc k) i e there) (over_seen arrived x h (λ i is. lead 0 i x refl is))

  times_seen : (n : ℕ) (exits : List Exit) (arrived : List LidSet) → Lead exits → Arrive arrived → Arrive (back_times n exits arrived)
  times_seen zero exits arrived lead h = h
  times_seen (suc n) exits arrived lead h = by_seen exits (back_times n exits arrived) lead (times_seen n exits arrived lead h)

  -- the LIDs that arrive from each switch
  come_from_each : (arrived : List LidSet) (i : ℕ) → length arrived ≡ count → Arrive arrived → has (from_each arrived) i ≡ true
      → ComeFromEach count (hops i) (target i)
  come_from_each arrived i long h is =
      let all = from_each_has arrived i is in
      let first = h 0 i (all.1 0 all.0) in
      record {
        port = first.port;
        is_target = first.is_target;
        each = λ switch less.
            let one = h switch i (all.1 switch (omega arith)) in
            let same : one.port ≡ first.port = same_Some one.port first.port (sym one.is_target ∙ first.is_target) in
            subst (λ (p : EndPort). IsEndOf (hops i) (To switch) (Some (Taken p))) same one.ends;
      }

  pub seen_delivered : (old arrived : List LidSet) (exits : List Exit) (n i : ℕ) → AreSeen count hops target old exits → arrived ≡ back_times n exits old
      → has (from_each arrived) i ≡ true → ComeFromEach count (hops i) (target i)
  seen_delivered old arrived exits n i h back is =
      come_from_each arrived i (ap length back ∙ times_long n exits old ∙ h.as_many)
      (subst (λ (xs : List LidSet). Arrive xs) (sym back) (times_seen n exits old h.lead h.arrive)) is
