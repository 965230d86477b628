-- Single bytes and runs of bytes, after a write over some bytes.
use Rattle.std.proofs.Common.{◌≡◌, ℕ, ◌+◌, ◌<◌, ◌≤◌, List, [], ◌∷◌, ◌⊎◌, inl, inr, refl, sym, ap, ◌∙◌, arith, Bool, true, length, take, drop, get_or, ◌&&◌}
use Rattle.std.proofs.lemmas.Bool.{and_parts, leb-true}
use Rattle.std.proofs.lemmas.List.{ext_get_or, get_or-drop, get_or-take, get_or_append_left, length-drop, length-take-le}
use Rattle.std.proofs.Math.Seq.{take-append_seam}
use Rattle.smp_bytes.specs.Field.{Field, Entry, ends_within, bytes_in, with_bytes, with_number, with_numbers}
use Rattle.smp_bytes.proofs.FieldLaws.{drop-with_bytes, get_or-with_bytes, length-with_bytes, length-with_number}
use Rattle.byteorder.specs.Endian.{big_bytes}
use Rattle.byteorder.specs.Numbers.{length-bytes_high_first}

-- a byte outside a field stays
pub get_or-with_number : (f : Field) (number : ℕ) (bytes : List ℕ) (offset : ℕ) → f.at + f.len ≤ length bytes → (offset < f.at) ⊎ (f.at + f.len ≤ offset)
    → get_or (with_number f number bytes) offset 0 ≡ get_or bytes offset 0
get_or-with_number f number bytes offset lies (inl before) =
    let long = length-bytes_high_first f.len number in
    get_or-with_bytes f.at (big_bytes f.len number) bytes offset (omega arith) (inl before)
get_or-with_number f number bytes offset lies (inr behind) =
    let long = length-bytes_high_first f.len number in
    get_or-with_bytes f.at (big_bytes f.len number) bytes offset (omega arith) (inr (omega arith))

-- a byte of what was written
pub get_or-with_bytes_inside : (at : ℕ) (written bytes : List ℕ) (k : ℕ) → at + length written ≤ length bytes → k < length written
    → get_or (with_bytes at written bytes) (at + k) 0 ≡ get_or written k 0
get_or-with_bytes_inside at written bytes k fits inside =
    sym (get_or-drop at (with_bytes at written bytes) k 0)
    ∙ ap (λ p. get_or p k 0) (drop-with_bytes at written bytes fits)
    ∙ get_or_append_left written (drop (at + length written) bytes) 0 k inside

-- all of what was written
pub bytes_in-with_bytes : (at : ℕ) (written bytes : List ℕ) → at + length written ≤ length bytes
    → bytes_in (record { at = at; len = length written }) (with_bytes at written bytes) ≡ written
bytes_in-with_bytes at written bytes fits =
    ap (take (length written)) (drop-with_bytes at written bytes fits) ∙ take-append_seam written (drop (at + length written) bytes)

-- bytes that are alike are alike in a row
pub bytes_in-alike : (f : Field) (xs ys : List ℕ) → f.at + f.len ≤ length xs → f.at + f.len ≤ length ys
    → ((k : ℕ) → f.at ≤ k → k < f.at + f.len → get_or xs k 0 ≡ get_or ys k 0) → bytes_in f xs ≡ bytes_in f ys
bytes_in-alike f xs ys lies lies' same =
    let long : (zs : List ℕ) → f.at + f.len ≤ length zs
    → length (bytes_in f zs) ≡ f.len = λ zs h. length-take-le f.len (drop f.at zs) (omega (arith, length-drop f.at zs)) in
    let byte : (zs : List ℕ) (k : ℕ) → k < f.len → get_or (bytes_in f zs) k 0 ≡ get_or zs (f.at + k) 0 = λ zs k h. get_or-take f.len (drop f.at zs) k 0 h
    ∙ get_or-drop f.at zs k 0 in
    let longer = long xs lies in
    ext_get_or 0 (bytes_in f xs) (bytes_in f ys) (long xs lies ∙ sym (long ys lies'))
    (λ k h. let inside : k < f.len = omega arith in byte xs k inside ∙ same (f.at + k) (omega arith) (omega arith) ∙ sym (byte ys k inside))

-- a row of bytes before those that are written stays
pub bytes_in-with_bytes_before : (f : Field) (at : ℕ) (written bytes : List ℕ) → at + length written ≤ length bytes → f.at + f.len ≤ at
    → bytes_in f (with_bytes at written bytes) ≡ bytes_in f bytes
bytes_in-with_bytes_before f at written bytes fits before =
    let same = length-with_bytes at written bytes fits in
    bytes_in-alike f (with_bytes at written bytes) bytes (omega arith) (omega arith) (λ k p q. get_or-with_bytes at written bytes k fits (inl (omega arith)))

-- each field ends within so many bytes
abbrev pub all_end_within : ℕ → List Entry → Bool
all_end_within end [] = true
all_end_within end (e ∷ entries) = ends_within end e.field && all_end_within end entries

-- a byte behind all fields that are written stays
pub get_or-with_numbers_behind : (end : ℕ) (entries : List Entry) (bytes : List ℕ) (offset : ℕ) → end ≤ length bytes → all_end_within end entries ≡ true
    → end ≤ offset → get_or (with_numbers entries bytes) offset 0 ≡ get_or bytes offset 0
get_or-with_numbers_behind end [] bytes offset long all behind = refl
get_or-with_numbers_behind end (e ∷ entries) bytes offset long all behind =
    let within : e.field.at + e.field.len ≤ end = leb-true _ _ (and_parts _ _ all).0 in
    let same : length (with_number e.field e.number bytes) ≡ length bytes = length-with_number e.field e.number bytes (omega arith) in
    get_or-with_numbers_behind end entries (with_number e.field e.number bytes) offset (omega arith) (and_parts (ends_within end e.field) _ all).1 behind
    ∙ get_or-with_number e.field e.number bytes offset (omega arith) (inr (omega arith))
