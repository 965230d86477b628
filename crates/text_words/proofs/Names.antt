-- The characters of names.
use Rattle.std.proofs.Common.{◌≡◌, ℕ, ◌<◌, ◌≤◌, Bool, true, false, ◌&&◌, List, length, get_or, refl, arith}
use Rattle.std.specs.Prelude.{IsTrue}
use Rattle.std.specs.List.{list_all}
use Rattle.std.proofs.lemmas.Bool.{leb-true}
use Rattle.std.proofs.lemmas.List.Recursion.{and_at}
use Rattle.text_words.specs.NodeName.{is_name, is_name_byte}

pub both : (s t : Bool) → (s && t) ≡ true → (s ≡ true) × (t ≡ true)
both true t e = (refl, e)
both false t e = cc

pub name_short : (name : List ℕ) → IsTrue (is_name name) → length name ≤ 64
name_short name e = leb-true _ _ (both _ _ (both _ _ e).0).1

-- each is ASCII
pub name_byte : (name : List ℕ) (i : ℕ) → IsTrue (is_name name) → i < length name → get_or name i 0 < 128
name_byte name i e h =
    let here : is_name_byte (get_or name i 0) ≡ true = and_at (list_all is_name_byte) is_name_byte refl (λ _ _. refl) name i 0 h (both _ _ e).1 in
    let most : get_or name i 0 ≤ 0x7E = leb-true _ _ (both _ _ (both _ _ here).0).1 in
    omega arith
