-- Fields that stand side by side, each written with the number read from some bytes, are a copy of these bytes.
use Rattle.std.proofs.Common.{◌≡◌, ℕ, ◌+◌, ◌-◌, ◌≤◌, List, [], ◌∷◌, ◌++◌, refl, sym, ap, ◌∙◌, arith, Bool, true, length, take, drop, replicate, append_assoc, ◌&&◌, ◌==◌}
use Rattle.std.specs.Prelude.{nat_le}
use Rattle.std.proofs.lemmas.Bool.{and_parts, eqb-true, leb-true}
use Rattle.std.proofs.lemmas.List.{drop-replicate, length-drop, length-take-le, take-append-le, take_all}
use Rattle.std.proofs.Math.Seq.{drop-append-add, take-add}
use Rattle.smp_bytes.specs.Field.{Field, Entry, number_in, bytes_in, with_bytes, with_number, with_numbers}
use Rattle.smp_bytes.proofs.CopyLaws.{big_bytes-number_in}
use Rattle.attr_codec.specs.Spelling.{Are64Bytes}

-- the first of the bytes, and 0 behind them
abbrev pub front_of : ℕ → List ℕ → List ℕ
front_of count bytes = take count bytes ++ replicate (64 - count) 0

-- 64 bytes that begin with the first of others, and these written on
pub with_bytes-front_of : (f : Field) (bytes : List ℕ) → length bytes ≡ 64 → f.at + f.len ≤ 64
    → with_bytes f.at (bytes_in f bytes) (front_of f.at bytes) ≡ front_of (f.at + f.len) bytes
unfolding with_bytes
with_bytes-front_of f bytes long lies =
    let written = bytes_in f bytes in
    let zeros : List ℕ = replicate (64 - f.at) 0 in
    let first : length (take f.at bytes) ≡ f.at = length-take-le f.at bytes (omega arith) in
    let count : length written ≡ f.len = length-take-le f.len (drop f.at bytes) (omega (arith, length-drop f.at bytes)) in
    let head : take f.at (take f.at bytes ++ zeros) ≡ take f.at bytes = take-append-le f.at (take f.at bytes) zeros (omega arith)
    ∙ take_all f.at (take f.at bytes) (omega arith) in
    let tail : drop (f.at + length written) (take f.at bytes ++ zeros) ≡ replicate (64 - (f.at + f.len)) 0 =
    ap (λ n. drop (n + length written) (take f.at bytes ++ zeros)) (sym first)
    ∙ drop-append-add (take f.at bytes) zeros (length written)
    ∙ drop-replicate (length written) (64 - f.at) 0
    ∙ ap (λ n. replicate n 0) {x = 64 - f.at - length written} {y = 64 - (f.at + f.len)} (omega arith) in
    ap (λ p. p ++ (written ++ drop (f.at + length written) (take f.at bytes ++ zeros))) head
    ∙ ap (λ p. take f.at bytes ++ (written ++ p)) tail
    ∙ sym (append_assoc (take f.at bytes) written (replicate (64 - (f.at + f.len)) 0))
    ∙ ap (λ p. p ++ replicate (64 - (f.at + f.len)) 0) (sym (take-add f.at f.len bytes))

pub with_number-front_of : (f : Field) (bytes : List ℕ) → Are64Bytes bytes → f.at + f.len ≤ 64
    → with_number f (number_in f bytes) (front_of f.at bytes) ≡ front_of (f.at + f.len) bytes
with_number-front_of f bytes are lies =
    let long = are.count in
    ap (λ w. with_bytes f.at w (front_of f.at bytes)) (big_bytes-number_in f bytes (omega arith) are.bytes_fit) ∙ with_bytes-front_of f bytes long lies

-- fields with the numbers that they have in some bytes
abbrev pub entries_in : List ℕ → List Field → List Entry
entries_in bytes [] = []
entries_in bytes (f ∷ fields) = record { field = f; number = number_in f bytes } ∷ entries_in bytes fields

-- each field begins where the one before it ends
abbrev pub are_side_by_side : ℕ → List Field → Bool
are_side_by_side at [] = true
are_side_by_side at (f ∷ fields) = (f.at == at) && (nat_le (at + f.len) 64 && are_side_by_side (at + f.len) fields)

-- where the last of them ends
abbrev pub end_of : ℕ → List Field → ℕ
end_of at [] = at
end_of at (f ∷ fields) = end_of (at + f.len) fields

pub with_numbers-entries_in : (at : ℕ) (fields : List Field) (bytes : List ℕ) → Are64Bytes bytes → are_side_by_side at fields ≡ true
    → with_numbers (entries_in bytes fields) (front_of at bytes) ≡ front_of (end_of at fields) bytes
with_numbers-entries_in at [] bytes are side = refl
with_numbers-entries_in at (f ∷ fields) bytes are side =
    let here : f.at ≡ at = eqb-true _ _ (and_parts _ _ side).0 in
    let fits : at + f.len ≤ 64 = leb-true _ _ (and_parts _ _ (and_parts (f.at == at) _ side).1).0 in
    ap (λ n. with_numbers (entries_in bytes fields) (with_number f (number_in f bytes) (front_of n bytes))) (sym here)
    ∙ ap (with_numbers (entries_in bytes fields)) (with_number-front_of f bytes are (omega arith))
    ∙ ap (λ n. with_numbers (entries_in bytes fields) (front_of (n + f.len) bytes)) here
    ∙ with_numbers-entries_in (at + f.len) fields bytes are (and_parts (nat_le (at + f.len) 64) _ (and_parts (f.at == at) _ side).1).1
