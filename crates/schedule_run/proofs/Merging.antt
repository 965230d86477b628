-- A manager that takes in the facts of another.
use Rattle.std.proofs.Common.{◌≡◌, ◌∙◌, ℕ, zero, suc, ◌+◌, ◌-◌, ◌<◌, List, [], ◌∷◌, map, length, get_or, None, Some, refl, sym, ap, subst, arith}
use Rattle.std.specs.Prelude.{option_map, slice_get}
use Rattle.std.specs.List.{insert, remove}
use Rattle.std.specs.Option.{option_map_or}
use Rattle.std.proofs.Math.ListN.{set}
use Rattle.std.proofs.lemmas.List.{map-set, set-get_or}
use Rattle.std.proofs.lemmas.List.Edits.{get_or-remove_above}
use Rattle.std.proofs.lemmas.Option.{get_or_from_slice_get, slice_get-map}
use Rattle.fact_store.proofs.Merges.{merge_is_idempotent}
use Rattle.sm_manager.specs.Manager.{Manager, after_merge}
use Rattle.schedule_run.specs.Commands.{after_merge_line}
use Rattle.schedule_lines.specs.Outcome.{quiet}
use Rattle.schedule_run.specs.World.{SeatedValue, WorldValue, at_seat, seated_value, with_manager}
use Rattle.schedule_run.specs.declared.world.Seated.{Seated}
use Rattle.schedule_run.proofs.Seats.{with_one}

-- an element that is taken out of a list, and put back as another
pub put_again : {X : Type 0} (xs : List X) (i : ℕ) (y : X) → i < length xs → insert (remove xs i) i y ≡ set xs i y
put_again [] i y h = absurd (omega arith)
put_again (x ∷ xs) zero y h = refl
put_again (x ∷ xs) (suc i) y h = ap (λ t. x ∷ t) (put_again xs i y (omega arith))

-- one behind it, meanwhile
pub among_others : {X : Type 0} (xs : List X) (i k : ℕ) (d : X) → i < length xs → i < k → get_or (remove xs i) (k - 1) d ≡ get_or xs k d
among_others xs i k d h less =
    let back : (k - 1) + 1 ≡ k = omega arith in
    get_or-remove_above xs i d (k - 1) (omega arith) h ∙ ap (λ n. get_or xs n d) back

-- there is one at each index
pub somebody : {X : Type 0} (xs : List X) (i : ℕ) → i < length xs → (x : X) × (slice_get xs i ≡ Some x)
somebody [] i h = absurd (omega arith)
somebody (x ∷ xs) zero h = (x, refl)
somebody (x ∷ xs) (suc i) h = somebody xs i (omega arith)

-- it takes in what the other knows
pub merges : (around : WorldValue) (items now : List Seated) (seat other : ℕ) (s o : Seated) → slice_get items seat ≡ Some s → slice_get items other ≡ Some o
    → now ≡ set items seat (with_one s (after_merge s.manager o.manager.store)) → (before : WorldValue)
    → before ≡ record around { managers = map seated_value items }
    → record around { managers = map seated_value now } ≡ (after_merge_line before seat other).now
unfolding after_merge_line
merges around items now seat other s o there also same before is =
    let w : WorldValue = record around { managers = map seated_value items } in
    let call = λ (s o : SeatedValue). quiet (with_manager w seat s (after_merge s.manager o.manager.store)) in
    let one : slice_get w.managers seat ≡ Some (seated_value s) = slice_get-map seated_value items seat ∙ ap (option_map seated_value) there in
    let two : slice_get w.managers other ≡ Some (seated_value o) = slice_get-map seated_value items other ∙ ap (option_map seated_value) also in
    ap (λ xs. record w { managers = map seated_value xs }) same ∙ ap (λ ms. record w { managers = ms }) (map-set seated_value items seat _)
    ∙ ap (λ r. r.now) (sym (ap (λ found. option_map_or (λ s. at_seat w other (call s)) found (quiet w)) one
    ∙ ap (λ found. option_map_or (call (seated_value s)) found (quiet w)) two)) ∙ ap (λ b. (after_merge_line b seat other).now) (sym is)

-- and nothing is printed
pub merge_quiet : (w : WorldValue) (seat other : ℕ) → (after_merge_line w seat other).text ≡ []
unfolding after_merge_line
merge_quiet w seat other =
    let call = λ (s o : SeatedValue). with_manager w seat s (after_merge s.manager o.manager.store) in
    elim (slice_get w.managers seat) as (λ one. (option_map_or (λ s. at_seat w other (λ o. quiet (call s o))) one (quiet w)).text ≡ []) [
      | None ↦ refl
      | Some s ↦ elim (slice_get w.managers other) as (λ two. (option_map_or (λ o. quiet (call s o)) two (quiet w)).text ≡ []) [ None ↦ refl | Some o ↦ refl ]
    ]

-- its own facts tell it nothing ---------------------------------------------------------------------------

merged_itself : (m : Manager) → after_merge m m.store ≡ m
merged_itself m = ap (λ f. record m { store = f }) (merge_is_idempotent m.store)

put_back : (ms : List SeatedValue) (seat : ℕ) (s : SeatedValue) → slice_get ms seat ≡ Some s → set ms seat s ≡ ms
put_back ms seat s e = ap (λ x. set ms seat x) (sym (get_or_from_slice_get ms seat s s e)) ∙ set-get_or ms seat s

pub merges_itself : (w : WorldValue) (seat other : ℕ) → seat ≡ other → w ≡ (after_merge_line w seat other).now
unfolding after_merge_line
merges_itself w seat other e =
    let call = λ (s o : SeatedValue). with_manager w seat s (after_merge s.manager o.manager.store) in
    subst (λ (k : ℕ). w ≡ (at_seat w seat (λ s. at_seat w k (λ o. quiet (call s o)))).now) e
    (elim (slice_get w.managers seat) as (λ found. slice_get w.managers seat ≡ found
    → w ≡ (option_map_or (λ s. option_map_or (λ o. quiet (call s o)) found (quiet w)) found (quiet w)).now) [
      | None ↦ λ there. refl
      | Some s ↦ λ there. ap (λ ms. record w { managers = ms }) (sym (put_back w.managers seat s there))
          ∙ ap (λ m. with_manager w seat s m) (sym (merged_itself s.manager))
    ] refl)
