-- A write to a part of the bytes gives the bytes with a field's number written.
use Rattle.std.proofs.Common.{◌≡◌, ℕ, ◌+◌, ◌-◌, ◌<◌, ◌≤◌, List, [], ◌∷◌, ◌++◌, sym, ap, ◌∙◌, arith, length, take, drop, append-nil, add-one}
use Rattle.std.proofs.lemmas.List.{drop-drop, drop_all, take_all, length-drop, set_split}
use Rattle.std.proofs.Math.ListN.{set}
use Rattle.std.proofs.Math.Nat.{mod-eq_of_lt}
use borrow.Rule.Slice.PartMut.{put_mid}
use Rattle.byteorder.specs.Endian.{big_bytes}
use Rattle.byteorder.specs.Numbers.{length-bytes_high_first}
use Rattle.smp_bytes.specs.Field.{with_bytes, with_number}

-- a part of the bytes with others at its front
pub part-with_bytes : (at : ℕ) (written bytes part : List ℕ) → at + length written ≤ length bytes
    → part ≡ written ++ drop (length written) (take (length bytes - at) (drop at bytes))
    → put_mid at (length bytes - at) bytes part ≡ with_bytes at written bytes
unfolding with_bytes
part-with_bytes at written bytes part fits e =
    let none : drop (length bytes - at) (drop at bytes) ≡ [] = drop-drop (length bytes - at) at bytes
    ∙ drop_all (at + (length bytes - at)) bytes (omega arith) in
    let whole : take (length bytes - at) (drop at bytes) ≡ drop at bytes = take_all (length bytes - at) (drop at bytes) (omega (arith, length-drop at bytes)) in
    ap (λ p. take at bytes ++ (p ++ drop (length bytes - at) (drop at bytes))) (e ∙ ap (λ q. written ++ drop (length written) q) whole)
    ∙ ap (λ q. take at bytes ++ ((written ++ drop (length written) (drop at bytes)) ++ q)) none
    ∙ ap (λ q. take at bytes ++ q) (append-nil (written ++ drop (length written) (drop at bytes)))
    ∙ ap (λ q. take at bytes ++ (written ++ q)) (drop-drop (length written) at bytes)

-- a part of the bytes with a number at its front
pub part-with_number : (at n number : ℕ) (bytes part : List ℕ) → at + n ≤ length bytes
    → part ≡ big_bytes n number ++ drop n (take (length bytes - at) (drop at bytes))
    → put_mid at (length bytes - at) bytes part ≡ with_number (record { at = at; len = n }) number bytes
part-with_number at n number bytes part fits e =
    let long = length-bytes_high_first n number in
    part-with_bytes at (big_bytes n number) bytes part (omega arith) (e
    ∙ ap (λ m. big_bytes n number ++ drop m (take (length bytes - at) (drop at bytes))) (sym long))

-- one byte
pub set-with_number : (at number : ℕ) (bytes : List ℕ) → at < length bytes → number < 256
    → set bytes at number ≡ with_number (record { at = at; len = 1 }) number bytes
unfolding with_bytes
set-with_number at number bytes fits small =
    set_split bytes at number fits
    ∙ ap (λ n. take at bytes ++ number ∷ drop n bytes) (sym (add-one at))
    ∙ ap (λ b. take at bytes ++ b ∷ drop (at + 1) bytes) (sym (mod-eq_of_lt small))

-- a part of the bytes that others replace
pub mid-with_bytes : (at : ℕ) (written bytes part : List ℕ) → part ≡ written → put_mid at (at + length written - at) bytes part ≡ with_bytes at written bytes
unfolding with_bytes
mid-with_bytes at written bytes part e =
    ap (λ p. take at bytes ++ (p ++ drop (at + length written - at) (drop at bytes))) e
    ∙ ap (λ p. take at bytes ++ (written ++ p)) (drop-drop (at + length written - at) at bytes ∙ ap (λ n. drop n bytes) (omega arith))
