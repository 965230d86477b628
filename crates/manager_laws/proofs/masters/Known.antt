-- A manager knows one sweep exactly where it began one as it knew nothing, and learnt of nothing else since.
use Rattle.std.proofs.Common.{◌≡◌, ◌≢◌, ◌⊎◌, inl, inr, ℕ, Bool, true, false, cond, List, [], ◌∷◌, ◌++◌, length, refl, sym, ap, ◌∙◌, subst}
use Rattle.std.proofs.lemmas.Bool.{and_from, eq-eqb, eqb-true, eqb-false, le-leb}
use Rattle.std.proofs.lemmas.Option.{same_Some}
use Rattle.std.specs.Prelude.{Option, Some, None, is_none, nat_le, slice_get, ◌==◌, ◌&&◌}
use Rattle.fact_store.specs.View.{cells_of}
use Rattle.sm_manager.specs.Manager.{begin_fault}
use Rattle.manager_laws.specs.Managing as one
use Rattle.manager_laws.specs.Managing.{ManagerEvent, after_manager_event}
use Rattle.manager_laws.specs.WritingPings.{BeginsNoSweep}
use Rattle.manager_laws.proofs.Before.{is_none-none, none-is_none, some-is_none}
use Rattle.manager_laws.specs.Masters.{Around, At, IsAt, Masters, MastersEvent, Seated, acting, after_masters_event, after_masters_events, has_swept_after}
use Rattle.manager_laws.specs.Masters.{knows_one_after, seated_after, seen_by}
use Rattle.manager_laws.specs.Known.{BeganSweep, HasSweptMeans, KnowsOneSweepMeans, LearnNothingElse, LearnsNothingElse, LearntFromOne}
use Rattle.manager_laws.proofs.masters.Side.{knows_by, swept_still}
use Rattle.manager_laws.proofs.masters.Together.{set_elsewhere, set_there}

pub after_both : (es fs : List MastersEvent) (t : Masters) → after_masters_events (es ++ fs) t ≡ after_masters_events fs (after_masters_events es t)
after_both [] fs t = refl
after_both (e ∷ es) fs t = after_both es fs (after_masters_event t e)

-- the manager of an index after an event: as it was, or as its own event leaves it
record AfterIt (t : Masters) (event : MastersEvent) (which : ℕ) (m : Seated) : Type 0 where
  pub next : Seated
  pub there : IsAt (after_masters_event t event) which next
  pub how : ((next ≡ m) × ((own : ManagerEvent) → event ≡ At which own → ⊥))
      ⊎ ((own : ManagerEvent) × (event ≡ At which own) × (next.has_swept ≡ has_swept_after m own) × (next.knows_one_sweep ≡ knows_one_after m own))

after_it : (t : Masters) (event : MastersEvent) (which : ℕ) (m : Seated) → IsAt t which m → AfterIt t event which m
after_it t (Around event) which m there = record { next = m; there = there; how = inl (refl, λ own e. cc) }
after_it t (At other event) which m there = by_index (which == other) refl
  where
    not_it : which ≢ other → (own : ManagerEvent) → ◌≡◌ {A = MastersEvent} (At other event) (At which own) → ⊥
    not_it differs own e = let same : other ≡ which = cc in differs (sym same)

    elsewhere : which ≢ other → (o : Option Seated) → slice_get (acting t other event o).managers which ≡ slice_get t.managers which
    elsewhere differs None = refl
    elsewhere differs (Some n) =
        set_elsewhere t.managers other which (seated_after n event (after_manager_event (seen_by t.scene n) event)) (λ same. differs (sym same))

    here : (index : ℕ) → index ≡ which → slice_get t.managers index ≡ Some m → AfterIt t (At index event) which m
    here index same at =
        let w = after_manager_event (seen_by t.scene m) event in
        let acted : acting t index event (slice_get t.managers index) ≡ acting t index event (Some m) = ap (acting t index event) at in
        record {
          next = seated_after m event w;
          there = ap (λ (x : Masters). slice_get x.managers which) acted
              ∙ subst (λ k. slice_get (acting t index event (Some m)).managers k ≡ Some (seated_after m event w)) same
              (set_there t.managers index (seated_after m event w) m at);
          how = inr (event, ap (λ k. At k event) same, refl, refl);
        }

    by_index : (b : Bool) → (which == other) ≡ b → AfterIt t (At other event) which m
    by_index true e = let same = eqb-true _ _ e in here other (sym same) (ap (slice_get t.managers) (sym same) ∙ there)
    by_index false e =
        let differs = eqb-false _ _ e in
        record { next = m; there = elsewhere differs (slice_get t.managers other) ∙ there; how = inl (refl, not_it differs) }

-- by one event ------------------------------------------------------------------------------------------------------

-- a manager has swept by an event of its own where it had before, or a sweep begins
swept_by : (m : Seated) (own : ManagerEvent) → has_swept_after m own ≡ true
    → (m.has_swept ≡ true) ⊎ ((own ≡ one.Begin) × (begin_fault m.manager ≡ None))
swept_by m one.Begin e = by_fault (is_none (begin_fault m.manager)) refl e
  where
    by_fault : (b : Bool) → is_none (begin_fault m.manager) ≡ b → cond b true m.has_swept ≡ true
        → (m.has_swept ≡ true) ⊎ ((one.Begin ≡ one.Begin) × (begin_fault m.manager ≡ None))
    by_fault true none h = inr (refl, is_none-none _ none)
    by_fault false some h = inl h
swept_by m event e = inl e

-- and goes on knowing it
knows_still : (t : Masters) (m : Seated) (own : ManagerEvent) → m.knows_one_sweep ≡ true → BeginsNoSweep (seen_by t.scene m) own
    → knows_one_after m own ≡ true
knows_still t m one.Begin e refused = ap (λ b. cond b (length (cells_of m.manager.store) == 0) m.knows_one_sweep) (some-is_none _ refused) ∙ e
knows_still t m (one.Raise floor) e low = and_from m.knows_one_sweep (nat_le floor m.manager.store.floor) e (le-leb _ _ low)
knows_still t m (one.Merge floor sightings) e (none, low) =
    and_from m.knows_one_sweep (length sightings == 0 && nat_le floor m.manager.store.floor) e
    (and_from (length sightings == 0) (nat_le floor m.manager.store.floor) (eq-eqb (length sightings) 0 (ap length none)) (le-leb _ _ low))
knows_still t m event e quiet = e

-- runs ----------------------------------------------------------------------------------------------------------------

earlier_sweep : (t : Masters) (event : MastersEvent) (events : List MastersEvent) (which : ℕ) → BeganSweep (after_masters_event t event) events which
    → BeganSweep t (event ∷ events) which
earlier_sweep t event events which b =
    record {
      before = event ∷ b.before;
      between = b.between;
      events_are = ap (λ es. event ∷ es) b.events_are;
      then = b.then;
      there = b.there;
      begins = b.begins;
    }

first_sweep : (t : Masters) (event : MastersEvent) (events : List MastersEvent) (which : ℕ) (m : Seated) → IsAt t which m → event ≡ At which one.Begin
    → begin_fault m.manager ≡ None → BeganSweep t (event ∷ events) which
first_sweep t event events which m there is none =
    record { before = []; between = events; events_are = ap (λ e. e ∷ events) is; then = m; there = there; begins = none }

swept_split : (events : List MastersEvent) (t : Masters) (which : ℕ) (m later : Seated) → IsAt t which m → IsAt (after_masters_events events t) which later
    → later.has_swept ≡ true → (m.has_swept ≡ true) ⊎ BeganSweep t events which
swept_split [] t which m later there at swept = inl (ap (λ (x : Seated). x.has_swept) (same_Some _ _ (sym there ∙ at)) ∙ swept)
swept_split (event ∷ events) t which m later there at swept =
    let a = after_it t event which m there in
    elim (swept_split events (after_masters_event t event) which a.next later a.there at swept) [
      | inl now ↦ elim a.how [
        | inl same ↦ inl (ap (λ (x : Seated). x.has_swept) (sym same.0) ∙ now)
        | inr (own, is, sweeps, knows) ↦ elim (swept_by m own (sym sweeps ∙ now)) [
          | inl old ↦ inl old
          | inr (begins, none) ↦ inr (first_sweep t event events which m there (is ∙ ap (λ e. At which e) begins) none)
        ]
      ]
      | inr b ↦ inr (earlier_sweep t event events which b)
    ]

swept_on : (events : List MastersEvent) (t : Masters) (which : ℕ) (m later : Seated) → IsAt t which m → m.has_swept ≡ true
    → IsAt (after_masters_events events t) which later → later.has_swept ≡ true
swept_on [] t which m later there swept at = ap (λ (x : Seated). x.has_swept) (same_Some _ _ (sym at ∙ there)) ∙ swept
swept_on (event ∷ events) t which m later there swept at =
    let a = after_it t event which m there in
    swept_on events (after_masters_event t event) which a.next later a.there
    (elim a.how [
      | inl same ↦ ap (λ (x : Seated). x.has_swept) same.0 ∙ swept
      | inr (own, is, sweeps, knows) ↦ sweeps ∙ swept_still m own swept
    ])
    at

-- as the sweep begins
module _ (t : Masters) (which : ℕ) (m : Seated) (there : IsAt t which m) (none : begin_fault m.manager ≡ None) where
  begun : AfterIt t (At which one.Begin) which m
  begun = after_it t (At which one.Begin) which m there

  begins_its : (own : ManagerEvent) → ◌≡◌ {A = MastersEvent} (At which one.Begin) (At which own) → one.Begin ≡ own
  begins_its own e = cc

  begun_swept : begun.next.has_swept ≡ true
  begun_swept = elim begun.how [
    | inl same ↦ absurd (same.1 one.Begin refl)
    | inr (own, is, sweeps, knows) ↦ sweeps ∙ ap (has_swept_after m) (sym (begins_its own is))
        ∙ ap (λ b. cond b true m.has_swept) (none-is_none _ none)
  ]

  begun_knows : cells_of m.manager.store ≡ [] → begun.next.knows_one_sweep ≡ true
  begun_knows nothing = elim begun.how [
    | inl same ↦ absurd (same.1 one.Begin refl)
    | inr (own, is, sweeps, knows) ↦ knows ∙ ap (knows_one_after m) (sym (begins_its own is))
        ∙ ap (λ b. cond b (length (cells_of m.manager.store) == 0) m.knows_one_sweep) (none-is_none _ none)
        ∙ eq-eqb (length (cells_of m.manager.store)) 0 (ap length nothing)
  ]

-- what is there at the end is there after what came behind the sweep's beginning
at_end_of : (t : Masters) (events : List MastersEvent) (which : ℕ) (later : Seated) (b : BeganSweep t events which)
    → IsAt (after_masters_events events t) which later
    → IsAt (after_masters_events b.between (after_masters_event (after_masters_events b.before t) (At which one.Begin))) which later
at_end_of t events which later b at =
    subst (λ x. IsAt x which later)
    (ap (λ es. after_masters_events es t) b.events_are ∙ after_both b.before (At which one.Begin ∷ b.between) t) at

pub has_swept_means : HasSweptMeans
has_swept_means t events which m later there none at = (
  λ swept. elim (swept_split events t which m later there at swept) [ inl old ↦ absurd (cc (sym none ∙ old)) | inr b ↦ b ],
  λ b. let x = begun (after_masters_events b.before t) which b.then b.there b.begins in
      swept_on b.between (after_masters_event (after_masters_events b.before t) (At which one.Begin)) which x.next later x.there
      (begun_swept (after_masters_events b.before t) which b.then b.there b.begins) (at_end_of t events which later b at),
)

-- what it knows --------------------------------------------------------------------------------------------------------

knows_on : (events : List MastersEvent) (t : Masters) (which : ℕ) (m later : Seated) → IsAt t which m → m.knows_one_sweep ≡ true
    → LearnNothingElse which events t → IsAt (after_masters_events events t) which later → later.knows_one_sweep ≡ true
knows_on [] t which m later there knows quiet at = ap (λ (x : Seated). x.knows_one_sweep) (same_Some _ _ (sym at ∙ there)) ∙ knows
knows_on (event ∷ events) t which m later there knows quiet at =
    let a = after_it t event which m there in
    knows_on events (after_masters_event t event) which a.next later a.there
    (elim a.how [
      | inl same ↦ ap (λ (x : Seated). x.knows_one_sweep) same.0 ∙ knows
      | inr (own, is, sweeps, told) ↦ told ∙ knows_still t m own knows (subst (LearnsNothingElse which t) is quiet.0 refl m there)
    ])
    quiet.1 at

-- beside its own events it learns nothing
learns_by : (t : Masters) (event : MastersEvent) (which : ℕ) (m : Seated) → IsAt t which m
    → ((own : ManagerEvent) → event ≡ At which own → BeginsNoSweep (seen_by t.scene m) own) → LearnsNothingElse which t event
learns_by t (Around event) which m there quiet = tt
learns_by t (At other event) which m there quiet = λ same n at.
    subst (λ (x : Seated). BeginsNoSweep (seen_by t.scene x) event) (same_Some _ _ (sym there ∙ at)) (quiet event (ap (λ k. At k event) (sym same)))

knows_split : (events : List MastersEvent) (t : Masters) (which : ℕ) (m later : Seated) → IsAt t which m → IsAt (after_masters_events events t) which later
    → later.knows_one_sweep ≡ true → ((m.knows_one_sweep ≡ true) × LearnNothingElse which events t) ⊎ LearntFromOne t events which
unfolding first_sweep earlier_sweep
knows_split [] t which m later there at knows = inl (ap (λ (x : Seated). x.knows_one_sweep) (same_Some _ _ (sym there ∙ at)) ∙ knows, tt)
knows_split (event ∷ events) t which m later there at knows =
    let a = after_it t event which m there in
    elim (knows_split events (after_masters_event t event) which a.next later a.there at knows) [
      | inl now ↦ elim a.how [
        | inl same ↦ inl (
          ap (λ (x : Seated). x.knows_one_sweep) (sym same.0) ∙ now.0,
          (learns_by t event which m there (λ own e. absurd (same.1 own e)), now.1),
        )
        | inr (own, is, sweeps, told) ↦ elim (knows_by t.scene m own (sym told ∙ now.0)) [
          | inl old ↦ inl (
            old.0,
            (
              learns_by t event which m there (λ other e. subst (BeginsNoSweep (seen_by t.scene m)) (its_own own other (sym is ∙ e)) old.1),
              now.1,
            ),
          )
          | inr (begins, none, nothing) ↦ inr (record {
            swept = first_sweep t event events which m there (is ∙ ap (λ e. At which e) begins) none;
            knew_nothing = nothing;
            alone = subst (λ e. LearnNothingElse which events (after_masters_event t e)) (is ∙ ap (λ e. At which e) begins) now.1;
          })
        ]
      ]
      | inr b ↦ inr (record { swept = earlier_sweep t event events which b.swept; knew_nothing = b.knew_nothing; alone = b.alone })
    ]
  where
    its_own : (own other : ManagerEvent) → ◌≡◌ {A = MastersEvent} (At which own) (At which other) → own ≡ other
    its_own own other e = cc

pub knows_one_sweep_means : KnowsOneSweepMeans
knows_one_sweep_means t events which m later there none at = (
  λ knows. elim (knows_split events t which m later there at knows) [ inl old ↦ absurd (cc (sym none ∙ old.0)) | inr b ↦ b ],
  λ b. let s = b.swept in
      let then = after_masters_events s.before t in
      let x = begun then which s.then s.there s.begins in
      knows_on s.between (after_masters_event then (At which one.Begin)) which x.next later x.there
      (begun_knows then which s.then s.there s.begins b.knew_nothing)
      (subst (LearnNothingElse which s.between) (after_both s.before (At which one.Begin ∷ []) t) b.alone)
      (at_end_of t events which later s at),
)
