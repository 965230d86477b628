-- The greatest generation of the facts in a store.
use Rattle.std.proofs.Common.{◌≡◌, ◌↔◌, ℕ, ◌≤◌, List, [], ◌∷◌, map, refl, sym, ap, arith}
use Rattle.std.specs.Prelude.{Option, Some, None, Contains, IsNone, IfSome, unwrap_or}
use Rattle.fact_join.specs.declared.cell.Cell.{Cell}
use Rattle.fact_join.specs.Cell.{generation_of}
use Rattle.reply_facts.specs.declared.key.Key.{Key}
use Rattle.reply_facts.specs.declared.value.Value.{Value}
use Rattle.fact_store.specs.Seen.{newest_of}
use Rattle.fact_store.specs.View.{Facts, IsNewestGeneration, cells_of}
use Rattle.smp_bytes.proofs.Members.{contains_none}
use Rattle.fact_store.proofs.Orders.{contained_get, get_contained}
use Rattle.fact_store.proofs.Seen.{newest_above, newest_there}
use Rattle.subnet_view.proofs.Apart.{contains_map, contains-from_map}
use Rattle.sm_manager.specs.Manager.{newest_held}

-- some cell has it, and none has a greater one
newest_among : (held : List (Key × Cell Value)) (g : ℕ) → (x : Key × Cell Value) → Contains held x → generation_of x.1 ≡ g
    → ((y : Key × Cell Value) → Contains held y → generation_of y.1 ≤ g) → newest_of (map (λ e. e.1) held) ≡ g
newest_among [] g x there is most = absurd (contains_none x there)
newest_among (a ∷ held) g x there is most =
    let above = newest_above (map (λ e. e.1) (a ∷ held)) x.1 (contains_map (λ e. e.1) (a ∷ held) x there) in
    let (c, among, gen) = newest_there a.1 (map (λ e. e.1) held) in
    let (y, held_there, same) = contains-from_map (λ e. e.1) (a ∷ held) c among in
    let below = most y held_there in
    let same_gen = ap generation_of same in
    omega (arith, above, is, gen, below, same_gen)

newest_is : (facts : Facts) (g : ℕ) → IsNewestGeneration facts g → newest_held facts ≡ g
newest_is facts g is =
    let (key, c, there, gen) = is.held in
    newest_among (cells_of facts) g (key, c) (get_contained facts.found key c there) gen
    (λ y among. is.greatest y.0 y.1 (contained_get facts.found y.0 y.1 among))

-- as the store tells it
pub newest_told : (facts : Facts) (told : Option ℕ) → (IsNone told ↔ (cells_of facts ≡ [])) → IfSome told (IsNewestGeneration facts) → unwrap_or told 0
    ≡ newest_held facts
newest_told facts None none some = sym (ap (λ es. newest_of (map (λ e. e.1) es)) (none.0 refl))
newest_told facts (Some g) none some = sym (newest_is facts g some)
