-- What holds of the managers in their seats, whatever is done with one of them.
use Rattle.std.proofs.Common.{◌≡◌, ◌≢◌, inl, inr, ℕ, zero, suc, cond, List, [], ◌∷◌, length, map, set, refl, sym, ap, ◌∙◌}
use Rattle.std.proofs.lemmas.Bool.Decides.{eqb_tells}
use Rattle.std.proofs.lemmas.List.{length-set, length-map}
use Rattle.std.specs.Prelude.{Option, Some, None, slice_get}
use Rattle.std.specs.Option.{option_map_or}
use Rattle.topo_file.specs.declared.node.Node.{Node}
use Rattle.schedule_file.specs.declared.schedule.Seat.{Seat}
use Rattle.fact_store.specs.Merge.{merge}
use Rattle.fact_store.specs.View.{Facts, view_at, no_facts}
use Rattle.fact_store.proofs.Views.{view_of_both}
use Rattle.lft_blocks.specs.Planning.{Planning}
use Rattle.sm_manager.specs.Manager.{Manager}
use Rattle.sm_manager.specs.declared.fault.ManagerFault.{ManagerFault}
use Rattle.sm_manager.proofs.Lives.{Keeps}
use Rattle.schedule_run.specs.Commands.{new_seated}
use Rattle.schedule_lines.specs.Outcome.{Outcome, quiet}
use Rattle.schedule_run.specs.World.{SeatedValue, WorldValue, at_seat, after_manager_call, with_manager}
use Rattle.run_laws.specs.Accounts.{Account, Accounts, joined, opened, with_more}

-- lists --------------------------------------------------------------------------------------------

module _ {X : Type 0} where
  pub get_here : (xs : List X) (i : ℕ) (x y : X) → slice_get xs i ≡ Some x → slice_get (set xs i y) i ≡ Some y
  get_here [] i x y h = absurd (cc)
  get_here (z ∷ xs) zero x y h = refl
  get_here (z ∷ xs) (suc i) x y h = get_here xs i x y h

  pub get_there : (xs : List X) (i j : ℕ) (y : X) → j ≢ i → slice_get (set xs i y) j ≡ slice_get xs j
  get_there [] i j y apart = refl
  get_there (x ∷ xs) zero zero y apart = absurd (apart refl)
  get_there (x ∷ xs) zero (suc j) y apart = refl
  get_there (x ∷ xs) (suc i) zero y apart = refl
  get_there (x ∷ xs) (suc i) (suc j) y apart = get_there xs i j y (λ e. apart (ap suc e))

-- seats --------------------------------------------------------------------------------------------

-- so many managers, which plan by one LMC, and each of which knows the view of what it took in at its greatest floor
pub record AreKnown (count : ℕ) (planning : Planning) (managers : List SeatedValue) (accounts : Accounts) : Type 0 where
  pub many : length managers ≡ count
  pub plannings : (seat : ℕ) (s : SeatedValue) → slice_get managers seat ≡ Some s → s.manager.planning ≡ planning
  pub knows : (seat : ℕ) (s : SeatedValue) → slice_get managers seat ≡ Some s → s.manager.store ≡ view_at (accounts seat).floor (accounts seat).told

-- the account that a manager has then
pub more_here : (accounts : Accounts) (seat : ℕ) (more : Account) → with_more accounts seat more seat ≡ joined (accounts seat) more
more_here accounts seat more =
    elim (eqb_tells seat seat) [
      | inl same ↦ ap (λ b. cond b (joined (accounts seat) more) (accounts seat)) same.0
      | inr other ↦ absurd (other.1 refl)
    ]

pub more_there : (accounts : Accounts) (seat other : ℕ) (more : Account) → other ≢ seat → with_more accounts seat more other ≡ accounts other
more_there accounts seat other more apart =
    elim (eqb_tells other seat) [
      | inl same ↦ absurd (apart same.1)
      | inr h ↦ ap (λ b. cond b (joined (accounts other) more) (accounts other)) h.0
    ]

-- a view with what is told besides
pub told_more : (facts : Facts) (before more : Account) → facts ≡ view_at before.floor before.told
    → merge facts (view_at more.floor more.told) ≡ view_at (joined before more).floor (joined before more).told
told_more facts before more e =
    ap (λ x. merge x (view_at more.floor more.told)) e ∙ sym (view_of_both before.floor more.floor before.told more.told)

module _ (count : ℕ) (planning : Planning) (w : WorldValue) (accounts : Accounts) (known : AreKnown count planning w.managers accounts) where
  -- another manager in a seat
  pub seated_known : (seat : ℕ) (s : SeatedValue) (m : Manager) (accounts' : Accounts) → slice_get w.managers seat ≡ Some s
      → ((other : ℕ) → other ≢ seat → accounts' other ≡ accounts other)
      → m.planning ≡ s.manager.planning → m.store ≡ view_at (accounts' seat).floor (accounts' seat).told
      → AreKnown count planning (with_manager w seat s m).managers accounts'
  seated_known seat s m accounts' there others same_planning is =
      record { many = length-set w.managers seat (record s { manager = m }) ∙ known.many; plannings = plannings; knows = knows }
    where
      plannings : (k : ℕ) (x : SeatedValue) → slice_get (with_manager w seat s m).managers k ≡ Some x → x.manager.planning ≡ planning
      plannings k x at =
          elim (eqb_tells k seat) [
            | inl same ↦
                let here : Some x ≡ Some (record s { manager = m }) =
                sym at ∙ ap (slice_get (with_manager w seat s m).managers) same.1 ∙ get_here w.managers seat s (record s { manager = m }) there in
                let is_it : x ≡ record s { manager = m } = cc in
                ap (λ (y : SeatedValue). y.manager.planning) is_it ∙ same_planning ∙ known.plannings seat s there
            | inr h ↦ known.plannings k x (sym (get_there w.managers seat k (record s { manager = m }) h.1) ∙ at)
          ]

      knows : (k : ℕ) (x : SeatedValue) → slice_get (with_manager w seat s m).managers k ≡ Some x
          → x.manager.store ≡ view_at (accounts' k).floor (accounts' k).told
      knows k x at =
          elim (eqb_tells k seat) [
            | inl same ↦ by_seat k x at same.1
            | inr h ↦ known.knows k x (sym (get_there w.managers seat k (record s { manager = m }) h.1) ∙ at)
                ∙ ap (λ (a : Account). view_at a.floor a.told) (sym (others k h.1))
          ]
        where
          by_seat : (k : ℕ) (x : SeatedValue) → slice_get (with_manager w seat s m).managers k ≡ Some x → k ≡ seat
              → x.manager.store ≡ view_at (accounts' k).floor (accounts' k).told
          by_seat k x at same =
              let here : Some x ≡ Some (record s { manager = m }) =
              sym at ∙ ap (slice_get (with_manager w seat s m).managers) same ∙ get_here w.managers seat s (record s { manager = m }) there in
              let is_it : x ≡ record s { manager = m } = cc in
              ap (λ (y : SeatedValue). y.manager.store) is_it ∙ is ∙ ap (λ (a : Account). view_at a.floor a.told) (ap accounts' (sym same))

  -- it takes in nothing
  pub kept : (seat : ℕ) (s : SeatedValue) (m : Manager) → slice_get w.managers seat ≡ Some s → Keeps s.manager m
      → AreKnown count planning (with_manager w seat s m).managers accounts
  kept seat s m there keeps = seated_known seat s m accounts there (λ other apart. refl) keeps.planning (keeps.store ∙ known.knows seat s there)

  -- it takes in more
  pub grown : (seat : ℕ) (s : SeatedValue) (m : Manager) (more : Account) → slice_get w.managers seat ≡ Some s → m.planning ≡ s.manager.planning
      → m.store ≡ merge s.manager.store (view_at more.floor more.told)
      → AreKnown count planning (with_manager w seat s m).managers (with_more accounts seat more)
  grown seat s m more there same_planning takes =
      seated_known seat s m (with_more accounts seat more) there (λ other apart. more_there accounts seat other more apart) same_planning
      (takes ∙ told_more s.manager.store (accounts seat) more (known.knows seat s there)
      ∙ ap (λ (a : Account). view_at a.floor a.told) (sym (more_here accounts seat more)))

  -- it took this in before
  pub repeated : (seat : ℕ) (s : SeatedValue) (more : Account) → slice_get w.managers seat ≡ Some s
      → s.manager.store ≡ merge s.manager.store (view_at more.floor more.told) → AreKnown count planning w.managers (with_more accounts seat more)
  repeated seat s more there takes = record { many = known.many; plannings = known.plannings; knows = knows }
    where
      knows : (k : ℕ) (x : SeatedValue) → slice_get w.managers k ≡ Some x
          → x.manager.store ≡ view_at (with_more accounts seat more k).floor (with_more accounts seat more k).told
      knows k x at =
          elim (eqb_tells k seat) [
            | inl same ↦ by_seat k x at same.1
            | inr h ↦ known.knows k x at ∙ ap (λ (a : Account). view_at a.floor a.told) (sym (more_there accounts seat k more h.1))
          ]
        where
          by_seat : (k : ℕ) (x : SeatedValue) → slice_get w.managers k ≡ Some x → k ≡ seat
              → x.manager.store ≡ view_at (with_more accounts seat more k).floor (with_more accounts seat more k).told
          by_seat k x at same =
              let here : Some x ≡ Some s = sym at ∙ ap (slice_get w.managers) same ∙ there in
              let is_it : x ≡ s = cc in
              ap (λ (y : SeatedValue). y.manager.store) is_it ∙ takes
              ∙ told_more s.manager.store (accounts seat) more (known.knows seat s there)
              ∙ ap (λ (a : Account). view_at a.floor a.told) (sym (more_here accounts seat more) ∙ ap (with_more accounts seat more) (sym same))

-- where nobody is in a seat, nothing is known of it
pub nobody : (count : ℕ) (planning : Planning) (managers : List SeatedValue) (accounts : Accounts) (seat : ℕ) (more : Account)
    → AreKnown count planning managers accounts
    → slice_get managers seat ≡ None → AreKnown count planning managers (with_more accounts seat more)
nobody count planning managers accounts seat more known none = record { many = known.many; plannings = known.plannings; knows = knows }
  where
    knows : (k : ℕ) (x : SeatedValue) → slice_get managers k ≡ Some x
        → x.manager.store ≡ view_at (with_more accounts seat more k).floor (with_more accounts seat more k).told
    knows k x at =
        elim (eqb_tells k seat) [
          | inl same ↦ absurd (nothing (sym at ∙ ap (slice_get managers) same.1 ∙ none))
          | inr h ↦ known.knows k x at ∙ ap (λ (a : Account). view_at a.floor a.told) (sym (more_there accounts seat k more h.1))
        ]
      where
        nothing : ◌≡◌ {A = Option SeatedValue} (Some x) None → ⊥
        nothing e = cc

-- what is done in a seat, whether a manager is there or not
pub at_seat_is : (w : WorldValue) (seat : ℕ) (run : SeatedValue → Outcome WorldValue) (P : WorldValue → Type 0) → (slice_get w.managers seat ≡ None → P w)
    → ((s : SeatedValue) → slice_get w.managers seat ≡ Some s → P (run s).now) → P (at_seat w seat run).now
at_seat_is w seat run P none some = by_seat (slice_get w.managers seat) none some
  where
    by_seat : (o : Option SeatedValue) → (o ≡ None → P w) → ((s : SeatedValue) → o ≡ Some s → P (run s).now) → P (option_map_or run o (quiet w)).now
    by_seat None none some = none refl
    by_seat (Some s) none some = some s refl

-- what a call leaves, whether it is refused or not
pub called_is : (next : WorldValue → Outcome WorldValue) (w : WorldValue) (seat : ℕ) (s : SeatedValue) (fault : Option ManagerFault) (m : Manager)
    (P : WorldValue → Type 0) → ((why : ManagerFault) → fault ≡ Some why → P w) → P (next (with_manager w seat s m)).now
    → P (after_manager_call next w seat s fault m).now
called_is next w seat s None m P refused done = done
called_is next w seat s (Some why) m P refused done = refused why refl

-- as a run begins ------------------------------------------------------------------------------------

-- a manager as it is made
new_is : (planning : Planning) (nodes : List Node) (seats : List Seat) (k : ℕ) (s : SeatedValue) → slice_get (map (new_seated planning nodes) seats) k ≡ Some s
    → (s.manager.store ≡ no_facts) × (s.manager.planning ≡ planning)
new_is planning nodes [] k s there = absurd (cc)
new_is planning nodes (x ∷ seats) zero s there =
    let is_it : s ≡ new_seated planning nodes x = cc in (ap (λ (y : SeatedValue). y.manager.store) is_it, ap (λ (y : SeatedValue). y.manager.planning) is_it)
new_is planning nodes (x ∷ seats) (suc k) s there = new_is planning nodes seats k s there

pub all_new : (planning : Planning) (nodes : List Node) (seats : List Seat) → AreKnown (length seats) planning (map (new_seated planning nodes) seats) opened
all_new planning nodes seats =
    record {
      many = length-map seats (new_seated planning nodes);
      plannings = λ k s there. (new_is planning nodes seats k s there).1;
      knows = λ k s there. (new_is planning nodes seats k s there).0;
    }
