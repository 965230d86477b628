-- The vertices that a sweep has reached, with one put among them.
use Rattle.std.proofs.Common.{◌≡◌, ◌⊎◌, inl, inr, ℕ, Bool, true, false, cond, List, [], ◌∷◌, refl, ap, ◌∙◌}
use Rattle.std.proofs.lemmas.Bool.{and_parts, eqb-true, eq-eqb}
use Rattle.std.specs.Prelude.{Option, Some, None, ◌==◌}
use Rattle.std.specs.List.{AllByRecursion}
use Rattle.sweep.specs.declared.vertex.Vertex.{Vertex}
use Rattle.sweep.specs.Order.{is_before, placed, has_key}
use Rattle.sweep.specs.Sweep.{first_vertex, vertex_at, vertex_key}
use Rattle.sweep.proofs.Keys.{level_same}
use Rattle.manager_laws.proofs.Lists.{Has, all_as, found_has, none_found, has_as, has_with}

-- all are kept
pub placed_keeps : (P : Vertex → Type 0) (v : Vertex) (reached : List Vertex) → Has P reached → Has P (placed vertex_key v reached)
placed_keeps P v [] h = absurd h
placed_keeps P v (y ∷ reached) h = by_order (is_before (vertex_key y) (vertex_key v)) (is_before (vertex_key v) (vertex_key y)) h (placed_keeps P v reached)
  where
    by_order : (b c : Bool) → P y ⊎ Has P reached → (Has P reached → Has P (placed vertex_key v reached))
        → Has P (cond b (y ∷ placed vertex_key v reached) (cond c (v ∷ (y ∷ reached)) (y ∷ reached)))
    by_order true c (inl k) later = inl k
    by_order true c (inr k) later = inr (later k)
    by_order false true k later = inr k
    by_order false false k later = k

pub placed_all : (P : Vertex → Type 0) (v : Vertex) (reached : List Vertex) → P v → AllByRecursion P reached → AllByRecursion P (placed vertex_key v reached)
placed_all P v [] is all = (is, tt)
placed_all P v (y ∷ reached) is all = by_order (is_before (vertex_key y) (vertex_key v)) (is_before (vertex_key v) (vertex_key y))
    (placed_all P v reached is all.1)
  where
    by_order : (b c : Bool) → AllByRecursion P (placed vertex_key v reached)
        → AllByRecursion P (cond b (y ∷ placed vertex_key v reached) (cond c (v ∷ (y ∷ reached)) (y ∷ reached)))
    by_order true c later = (all.0, later)
    by_order false true later = (is, all)
    by_order false false later = all

-- none has its GUID and port
abbrev pub IsNew : Vertex → List Vertex → Type 0
IsNew v reached = AllByRecursion (λ y. y.guid ≡ v.guid → y.port ≡ v.port → ⊥) reached

-- a new one is there then
pub placed_there : (P : Vertex → Type 0) (v : Vertex) (reached : List Vertex) → IsNew v reached → P v → Has P (placed vertex_key v reached)
placed_there P v [] new is = inl is
placed_there P v (y ∷ reached) new is =
    by_order (is_before (vertex_key y) (vertex_key v)) (is_before (vertex_key v) (vertex_key y)) refl refl (placed_there P v reached new.1 is)
  where
    by_order : (b c : Bool) → is_before (vertex_key y) (vertex_key v) ≡ b → is_before (vertex_key v) (vertex_key y) ≡ c → Has P (placed vertex_key v reached)
        → Has P (cond b (y ∷ placed vertex_key v reached) (cond c (v ∷ (y ∷ reached)) (y ∷ reached)))
    by_order true c e h later = inr later
    by_order false true e h later = inl is
    by_order false false e h later = let same = level_same (vertex_key y) (vertex_key v) e h in absurd (new.0 same.0 same.1)

-- the first of a GUID -----------------------------------------------------------------------------

pub first_has : (reached : List Vertex) (guid : ℕ) (v : Vertex) → first_vertex reached guid ≡ Some v → Has (λ u. u ≡ v) reached × (v.guid ≡ guid)
first_has reached guid v e =
    let found = found_has (λ (r : Vertex). r.guid == guid) reached v e in (found.0, eqb-true _ _ found.1)

pub first_none : (reached : List Vertex) (guid : ℕ) → first_vertex reached guid ≡ None → AllByRecursion (λ (y : Vertex). y.guid ≡ guid → ⊥) reached
first_none reached guid e =
    all_as (λ (y : Vertex). (y.guid == guid) ≡ false) (λ (y : Vertex). y.guid ≡ guid → ⊥) (λ y other same. cc (eq-eqb y.guid guid same)) reached
    (none_found (λ (r : Vertex). r.guid == guid) reached e)

pub at_has : (reached : List Vertex) (guid port : ℕ) (v : Vertex) → vertex_at reached guid port ≡ Some v
    → Has (λ (u : Vertex). (u.guid ≡ guid) × (u.port ≡ port)) reached
at_has reached guid port v e =
    let found = found_has (has_key vertex_key guid port) reached v e in
    let parts = and_parts (v.guid == guid) (v.port == port) found.1 in
    has_as (λ u. u ≡ v) (λ (u : Vertex). (u.guid ≡ guid) × (u.port ≡ port))
    (λ u same. (ap (λ (x : Vertex). x.guid) same ∙ eqb-true _ _ parts.0, ap (λ (x : Vertex). x.port) same ∙ eqb-true _ _ parts.1)) reached found.0

pub at_none : (reached : List Vertex) (guid port : ℕ) → vertex_at reached guid port ≡ None
    → AllByRecursion (λ (y : Vertex). y.guid ≡ guid → y.port ≡ port → ⊥) reached
at_none reached guid port e =
    all_as (λ y. has_key vertex_key guid port y ≡ false) (λ (y : Vertex). y.guid ≡ guid → y.port ≡ port → ⊥)
    (λ y other same_guid same_port. cc (eq-eqb y.guid guid same_guid, eq-eqb y.port port same_port)) reached
    (none_found (has_key vertex_key guid port) reached e)

pub at_key : (reached : List Vertex) (guid port : ℕ) (v : Vertex) → vertex_at reached guid port ≡ Some v → (v.guid ≡ guid) × (v.port ≡ port)
at_key reached guid port v e =
    let parts = and_parts (v.guid == guid) (v.port == port) (found_has (has_key vertex_key guid port) reached v e).1 in
    (eqb-true _ _ parts.0, eqb-true _ _ parts.1)

pub at_found : (reached : List Vertex) (guid port : ℕ) → Has (λ (u : Vertex). (u.guid ≡ guid) × (u.port ≡ port)) reached
    → (v : Vertex) × (vertex_at reached guid port ≡ Some v) × Has (λ u. u ≡ v) reached
at_found reached guid port h = by_found (vertex_at reached guid port) refl
  where
    by_found : (m : Option Vertex) → vertex_at reached guid port ≡ m → (v : Vertex) × (vertex_at reached guid port ≡ Some v) × Has (λ u. u ≡ v) reached
    by_found None e =
        absurd (has_with (λ (y : Vertex). y.guid ≡ guid → y.port ≡ port → ⊥) (λ (u : Vertex). (u.guid ≡ guid) × (u.port ≡ port)) reached
        (at_none reached guid port e) h (λ y other is. other is.0 is.1))
    by_found (Some v) e = (v, e, (found_has (has_key vertex_key guid port) reached v e).0)

-- one of another GUID changes nothing
pub first_stays : (v : Vertex) (reached : List Vertex) (guid : ℕ) → (v.guid ≡ guid → ⊥)
    → first_vertex (placed vertex_key v reached) guid ≡ first_vertex reached guid
first_stays v [] guid other = ap (λ b. cond b (Some v) None) (false_of (v.guid == guid) refl)
  where
    false_of : (b : Bool) → (v.guid == guid) ≡ b → b ≡ false
    false_of true e = absurd (other (eqb-true _ _ e))
    false_of false e = refl
first_stays v (y ∷ reached) guid other =
    by_order (is_before (vertex_key y) (vertex_key v)) (is_before (vertex_key v) (vertex_key y)) (first_stays v reached guid other)
  where
    false_of : (b : Bool) → (v.guid == guid) ≡ b → b ≡ false
    false_of true e = absurd (other (eqb-true _ _ e))
    false_of false e = refl

    by_order : (b c : Bool) → first_vertex (placed vertex_key v reached) guid ≡ first_vertex reached guid
        → first_vertex (cond b (y ∷ placed vertex_key v reached) (cond c (v ∷ (y ∷ reached)) (y ∷ reached))) guid ≡ first_vertex (y ∷ reached) guid
    by_order true c later = ap (λ o. cond (y.guid == guid) (Some y) o) later
    by_order false true later = ap (λ b. cond b (Some v) (first_vertex (y ∷ reached) guid)) (false_of (v.guid == guid) refl)
    by_order false false later = refl

-- the first of its own GUID is it
pub first_new : (v : Vertex) (reached : List Vertex) → AllByRecursion (λ (y : Vertex). y.guid ≡ v.guid → ⊥) reached
    → first_vertex (placed vertex_key v reached) v.guid ≡ Some v
first_new v [] new = ap (λ b. cond b (Some v) None) (eq-eqb v.guid v.guid refl)
first_new v (y ∷ reached) new =
    by_order (is_before (vertex_key y) (vertex_key v)) (is_before (vertex_key v) (vertex_key y)) refl refl (first_new v reached new.1)
  where
    false_of : (b : Bool) → (y.guid == v.guid) ≡ b → b ≡ false
    false_of true e = absurd (new.0 (eqb-true _ _ e))
    false_of false e = refl

    by_order : (b c : Bool) → is_before (vertex_key y) (vertex_key v) ≡ b → is_before (vertex_key v) (vertex_key y) ≡ c
        → first_vertex (placed vertex_key v reached) v.guid ≡ Some v
        → first_vertex (cond b (y ∷ placed vertex_key v reached) (cond c (v ∷ (y ∷ reached)) (y ∷ reached))) v.guid ≡ Some v
    by_order true c e h later = ap (λ b. cond b (Some y) (first_vertex (placed vertex_key v reached) v.guid)) (false_of (y.guid == v.guid) refl) ∙ later
    by_order false true e h later = ap (λ b. cond b (Some v) (first_vertex (y ∷ reached) v.guid)) (eq-eqb v.guid v.guid refl)
    by_order false false e h later = absurd (new.0 (level_same (vertex_key y) (vertex_key v) e h).0)
