-- What is written into a field is read from it, and stays there whatever is written into fields apart from it.
use Rattle.std.proofs.Common.{◌≡◌, ℕ, zero, suc, ◌+◌, ◌-◌, ◌*◌, ◌^◌, ◌<◌, ◌≤◌, List, [], ◌∷◌, ◌++◌, ◌⊎◌, inl, inr, refl, sym, ap, ◌∙◌, subst, arith, Bool, true, false, length, take, drop, get_or, ◌||◌, ◌&&◌, append_assoc}
use Rattle.std.specs.Prelude.{nat_le, Some, slice_get}
use Rattle.std.proofs.lemmas.Bool.{and_parts, leb-true}
use Rattle.std.proofs.lemmas.List.{get_or-drop, get_or-take, get_or_append_left, get_or-append_right, length-take-le, length-drop, length-append, drop_at}
use Rattle.byteorder.specs.Endian.{big_from, big_number, big_bytes}
use Rattle.byteorder.specs.Numbers.{big_number-reads_back, length-bytes_high_first}
use Rattle.smp_bytes.specs.Field.{Field, Entry, number_in, with_bytes, with_number, with_numbers, are_apart, ends_within}

-- numbers of bytes that are alike are alike
pub big_from-alike : (i n : ℕ) (xs ys : List ℕ) → ((k : ℕ) → i ≤ k → k < i + n → get_or xs k 0 ≡ get_or ys k 0) → big_from i n xs ≡ big_from i n ys
big_from-alike i zero xs ys h = refl
big_from-alike i (suc n) xs ys h =
    let here : get_or xs i 0 ≡ get_or ys i 0 = h i (omega arith) (omega arith) in
    let there = big_from-alike (suc i) n xs ys (λ k p q. h k (omega arith) (omega arith)) in
    ap (λ b. b * 256 ^ n + big_from (suc i) n xs) here ∙ ap (λ m. get_or ys i 0 * 256 ^ n + m) there

pub number_in-alike : (f : Field) (xs ys : List ℕ) → ((k : ℕ) → f.at ≤ k → k < f.at + f.len → get_or xs k 0 ≡ get_or ys k 0) → number_in f xs ≡ number_in f ys
number_in-alike f xs ys h =
    big_from-alike 0 f.len (drop f.at xs) (drop f.at ys)
    (λ k p q. get_or-drop f.at xs k 0 ∙ h (f.at + k) (omega arith) (omega arith) ∙ sym (get_or-drop f.at ys k 0))

-- bytes written over others -----------------------------------------------------------

pub length-with_bytes : (at : ℕ) (written bytes : List ℕ) → at + length written ≤ length bytes → length (with_bytes at written bytes) ≡ length bytes
unfolding with_bytes
length-with_bytes at written bytes h =
    omega (
      arith,
      length-append (take at bytes) (written ++ drop (at + length written) bytes),
      length-append written
          (drop (at + length written) bytes),
      length-take-le at bytes (omega arith),
      length-drop (at + length written) bytes,
    )

-- what was written stands there
pub drop-with_bytes : (at : ℕ) (written bytes : List ℕ) → at + length written ≤ length bytes
    → drop at (with_bytes at written bytes) ≡ written ++ drop (at + length written) bytes
unfolding with_bytes
drop-with_bytes at written bytes h = drop_at (take at bytes) (written ++ drop (at + length written) bytes) at (length-take-le at bytes (omega arith))

-- elsewhere all stays
pub get_or-with_bytes : (at : ℕ) (written bytes : List ℕ) (k : ℕ) → at + length written ≤ length bytes → (k < at) ⊎ (at + length written ≤ k)
    → get_or (with_bytes at written bytes) k 0 ≡ get_or bytes k 0
unfolding with_bytes
get_or-with_bytes at written bytes k h (inl before) =
    let front : length (take at bytes) ≡ at = length-take-le at bytes (omega arith) in
    get_or_append_left (take at bytes) (written ++ drop (at + length written) bytes) 0 k (omega arith)
    ∙ get_or-take at bytes k 0 before
get_or-with_bytes at written bytes k h (inr after) =
    let front : length (take at bytes ++ written) ≡ at + length written =
    omega (arith, length-append (take at bytes) written, length-take-le at bytes (omega arith)) in
    ap (λ p. get_or p k 0) (sym (append_assoc (take at bytes) written (drop (at + length written) bytes)))
    ∙ get_or-append_right (take at bytes ++ written) (drop (at + length written) bytes) (at + length written) k 0 front after
    ∙ get_or-drop (at + length written) bytes (k - (at + length written)) 0
    ∙ ap (λ i. get_or bytes i 0) (omega arith)

-- a field that ends before or begins behind them keeps its number
pub number_in-with_bytes : (f : Field) (at : ℕ) (written bytes : List ℕ) → at + length written ≤ length bytes
    → (f.at + f.len ≤ at) ⊎ (at + length written ≤ f.at) → number_in f (with_bytes at written bytes) ≡ number_in f bytes
number_in-with_bytes f at written bytes h (inl before) =
    number_in-alike f (with_bytes at written bytes) bytes (λ k p q. get_or-with_bytes at written bytes k h (inl (omega arith)))
number_in-with_bytes f at written bytes h (inr after) =
    number_in-alike f (with_bytes at written bytes) bytes (λ k p q. get_or-with_bytes at written bytes k h (inr (omega arith)))

-- a number written into a field -----------------------------------------------------------

-- the end of what is written is the end of the field
end-big_bytes : (f : Field) (number : ℕ) → f.at + length (big_bytes f.len number) ≡ f.at + f.len
end-big_bytes f number = ap (λ n. f.at + n) (length-bytes_high_first f.len number)

pub length-with_number : (f : Field) (number : ℕ) (bytes : List ℕ) → f.at + f.len ≤ length bytes → length (with_number f number bytes) ≡ length bytes
length-with_number f number bytes h = length-with_bytes f.at (big_bytes f.len number) bytes (omega (arith, end-big_bytes f number))

-- the number that was written
pub number_in-with_number : (f : Field) (number : ℕ) (bytes : List ℕ) → f.at + f.len ≤ length bytes → number < 256 ^ f.len
    → number_in f (with_number f number bytes) ≡ number
number_in-with_number f number bytes h small =
    ap (big_number f.len) (drop-with_bytes f.at (big_bytes f.len number) bytes (omega (arith, end-big_bytes f number)))
    ∙ big_number-reads_back f.len number (drop (f.at + length (big_bytes f.len number)) bytes) small

-- the two cases of fields that are apart
apart_cases : (a b : Field) → are_apart a b ≡ true → (a.at + a.len ≤ b.at) ⊎ (b.at + b.len ≤ a.at)
apart_cases a b h =
    elim (nat_le (a.at + a.len) b.at) as (λ t. nat_le (a.at + a.len) b.at ≡ t → (t || nat_le (b.at + b.len) a.at) ≡ true
    → (a.at + a.len ≤ b.at) ⊎ (b.at + b.len ≤ a.at)) [
      | true ↦ λ p q. inl (leb-true _ _ p)
      | false ↦ λ p q. inr (leb-true _ _ q)
    ] refl h

-- a field apart keeps its number
pub number_in-with_number_apart : (f g : Field) (number : ℕ) (bytes : List ℕ) → g.at + g.len ≤ length bytes → are_apart f g ≡ true
    → number_in f (with_number g number bytes) ≡ number_in f bytes
number_in-with_number_apart f g number bytes h apart =
    elim (apart_cases f g apart) [
      | inl before ↦ number_in-with_bytes f g.at (big_bytes g.len number) bytes (omega (arith, end-big_bytes g number)) (inl before)
      | inr after ↦ number_in-with_bytes f g.at (big_bytes g.len number) bytes (omega (arith, end-big_bytes g number))
          (inr (omega (arith, end-big_bytes g number)))
    ]

-- many fields ---------------------------------------------------------------------------

-- the field is apart from each of these, and they end within so many bytes
abbrev pub is_apart_from : ℕ → Field → List Entry → Bool
is_apart_from count f [] = true
is_apart_from count f (e ∷ entries) = are_apart f e.field && (ends_within count e.field && is_apart_from count f entries)

-- each field is apart from those behind it, and all end within so many bytes
abbrev pub are_all_apart : ℕ → List Entry → Bool
are_all_apart count [] = true
are_all_apart count (e ∷ entries) = ends_within count e.field && (is_apart_from count e.field entries && are_all_apart count entries)

pub length-with_numbers : (count : ℕ) (entries : List Entry) (bytes : List ℕ) → length bytes ≡ count → are_all_apart count entries ≡ true
    → length (with_numbers entries bytes) ≡ count
length-with_numbers count [] bytes long h = long
length-with_numbers count (e ∷ entries) bytes long h =
    let within : e.field.at + e.field.len ≤ count = leb-true _ _ (and_parts _ _ h).0 in
    length-with_numbers count entries (with_number e.field e.number bytes) (length-with_number e.field e.number bytes (omega arith)
    ∙ long) (and_parts (is_apart_from count e.field entries) _ (and_parts _ _ h).1).1

-- a field apart from all that are written keeps its number
pub number_in-with_numbers_apart : (count : ℕ) (f : Field) (entries : List Entry) (bytes : List ℕ) → length bytes ≡ count → is_apart_from count f entries ≡ true
    → number_in f (with_numbers entries bytes) ≡ number_in f bytes
number_in-with_numbers_apart count f [] bytes long h = refl
number_in-with_numbers_apart count f (e ∷ entries) bytes long h =
    let inside = and_parts (are_apart f e.field) (ends_within count e.field && is_apart_from count f entries) h in
    let within : e.field.at + e.field.len ≤ count =
    leb-true (e.field.at + e.field.len) count (and_parts (ends_within count e.field) (is_apart_from count f entries) inside.1).0 in
    number_in-with_numbers_apart count f entries (with_number e.field e.number bytes) (length-with_number e.field e.number bytes (omega arith)
    ∙ long) (and_parts (ends_within count e.field) _ (and_parts _ _ h).1).1
    ∙ number_in-with_number_apart f e.field e.number bytes (omega arith) (and_parts _ _ h).0

-- the i-th field that is written holds its number
pub number_in-with_numbers : (count : ℕ) (entries : List Entry) (bytes : List ℕ) (i : ℕ) (e : Entry) → length bytes ≡ count → are_all_apart count entries ≡ true
    → slice_get entries i ≡ Some e → e.number < 256 ^ e.field.len → number_in e.field (with_numbers entries bytes) ≡ e.number
number_in-with_numbers count [] bytes i e long h there small = cc
number_in-with_numbers count (x ∷ entries) bytes zero e long h there small =
    let same : x ≡ e = cc in
    let within : x.field.at + x.field.len ≤ count = leb-true _ _ (and_parts _ _ h).0 in
    subst (λ (y : Entry). number_in y.field (with_numbers entries (with_number x.field x.number bytes)) ≡ y.number) same
    (number_in-with_numbers_apart count x.field entries (with_number x.field x.number bytes) (length-with_number x.field x.number bytes (omega arith) ∙ long)
    (and_parts _ _ (and_parts _ _ h).1).0
    ∙ number_in-with_number x.field x.number bytes (omega arith) (subst (λ (y : Entry). y.number < 256 ^ y.field.len) (sym same) small))
number_in-with_numbers count (x ∷ entries) bytes (suc i) e long h there small =
    let within : x.field.at + x.field.len ≤ count = leb-true _ _ (and_parts _ _ h).0 in
    number_in-with_numbers count entries (with_number x.field x.number bytes) i e (length-with_number x.field x.number bytes (omega arith)
    ∙ long) (and_parts (is_apart_from count x.field entries) _ (and_parts _ _ h).1).1 there small
