-- The characters of managers' names.
use Rattle.std.proofs.Common.{◌≡◌, ℕ, ◌<◌, ◌≤◌, Bool, true, false, ◌&&◌, leb, inl, inr, ◌⊎◌, List, length, get_or, refl, arith}
use Rattle.std.specs.Prelude.{IsTrue, ◌||◌}
use Rattle.std.specs.Char.{is_ascii_alphanumeric}
use Rattle.std.specs.Int.{is_in_range}
use Rattle.std.specs.List.{list_all}
use Rattle.std.proofs.lemmas.Bool.{leb-true}
use Rattle.std.proofs.lemmas.List.Recursion.{and_at}
use Rattle.text_words.proofs.Names.{both}
use Rattle.schedule_file.specs.ManagerName.{is_manager_name}

pub name_short : (name : List ℕ) → IsTrue (is_manager_name name) → length name ≤ 16
name_short name e = leb-true _ _ (both _ _ (both _ _ e).0).1

-- letters and digits
one_of : (s t : Bool) → (s || t) ≡ true → (s ≡ true) ⊎ (t ≡ true)
one_of true t e = inl refl
one_of false t e = inr e

within : (low high b : ℕ) → (leb low b && leb b high) ≡ true → (low ≤ b) × (b ≤ high)
within low high b e = let p = both _ _ e in (leb-true low b p.0, leb-true b high p.1)

pub letter_range : (b : ℕ) → is_ascii_alphanumeric b ≡ true → (48 ≤ b) × (b ≤ 122)
letter_range b e =
    elim (one_of (is_in_range 48 57 b || is_in_range 65 90 b) (is_in_range 97 122 b) e) [
      | inl p ↦ elim (one_of (is_in_range 48 57 b) (is_in_range 65 90 b) p) [
        | inl q ↦ let r = within 48 57 b q in (r.0, let h = r.1 in omega arith)
        | inr q ↦ let r = within 65 90 b q in (let l = r.0 in omega arith, let h = r.1 in omega arith)
      ]
      | inr p ↦ let r = within 97 122 b p in (let l = r.0 in omega arith, r.1)
    ]

alphanumeric : (b : ℕ) → is_ascii_alphanumeric b ≡ true → b < 128
alphanumeric b e = let most = (letter_range b e).1 in omega arith

-- each is ASCII
pub name_byte : (name : List ℕ) (i : ℕ) → IsTrue (is_manager_name name) → i < length name → get_or name i 0 < 128
name_byte name i e h =
    let here : is_ascii_alphanumeric (get_or name i 0) ≡ true =
    and_at (list_all is_ascii_alphanumeric) is_ascii_alphanumeric refl (λ _ _. refl) name i 0 h (both _ _ e).1 in
    alphanumeric (get_or name i 0) here
