-- A number that was read from some bytes is written as these bytes, and the last of two writes into a field stands.
use Rattle.std.proofs.Common.{◌≡◌, ℕ, zero, suc, ◌+◌, ◌-◌, ◌*◌, ◌/◌, ◌%◌, ◌^◌, ◌<◌, ◌≤◌, List, ◌∷◌, ◌++◌, refl, sym, ap, ◌∙◌, ⊎_elim, subst, arith, length, take, drop, get_or}
use Rattle.std.specs.Prelude.{All}
use Rattle.std.specs.Int.{byte_at}
use Rattle.std.proofs.lemmas.Bool.{cases_lt}
use Rattle.std.proofs.lemmas.List.{drop_at, get_or-drop, length-take-le, take-append-le, take_all}
use Rattle.std.proofs.lemmas.List.Elements.{All-get_or}
use Rattle.std.proofs.lemmas.Nat.{div-mul-add, pow-add}
use Rattle.std.proofs.Math.ListN.{get_or-eq_default}
use Rattle.std.proofs.Math.Nat.{div-one, mod-eq_of_lt, mul-add-div_right, mul-add-mod_self_right, one-le-pow}
use Rattle.std.proofs.Math.Seq.{drop-append-add, drop-cons}
use Rattle.byteorder.specs.Endian.{big_from, big_bytes}
use Rattle.byteorder.specs.Numbers.{big_from-lt, length-bytes_high_first}
use Rattle.smp_bytes.specs.Field.{Field, number_in, bytes_in, with_bytes, with_number}

-- a byte of a number, by its offset
byte_at-pow : (k x : ℕ) → byte_at k x ≡ x / 256 ^ k % 256
byte_at-pow zero x = ap (λ y. y % 256) (sym (div-one x))
byte_at-pow (suc k) x = refl

-- a power of 256 is above zero
pow_pos256 : (n : ℕ) → zero < 256 ^ n
pow_pos256 n = let h = one-le-pow n 256 (omega arith) in omega arith

-- multiples of a power change no byte below it
byte_below : (k m a x : ℕ) → k < m → byte_at k (a * 256 ^ m + x) ≡ byte_at k x
byte_below k m a x below =
    let d = m - (1 + k) in
    let sum : m ≡ d + (1 + k) = omega arith in
    let power : 256 ^ m ≡ 256 ^ d * (256 * 256 ^ k) = ap (λ n. 256 ^ n) sum ∙ pow-add 256 d (1 + k) ∙ ap (λ p. 256 ^ d * p) (pow-add 256 1 k) in
    let whole : a * 256 ^ m + x ≡ a * 256 ^ d * 256 * 256 ^ k + x = ap (λ p. a * p + x) power ∙ omega arith in
    byte_at-pow k (a * 256 ^ m + x)
    ∙ ap (λ n. n / 256 ^ k % 256) whole
    ∙ ap (λ n. n % 256) (mul-add-div_right (pow_pos256 k) (a * 256 ^ d * 256) x)
    ∙ mul-add-mod_self_right (a * 256 ^ d) 256 (x / 256 ^ k)
    ∙ sym (byte_at-pow k x)

bytes_below : (n m a x : ℕ) → n ≤ m → big_bytes n (a * 256 ^ m + x) ≡ big_bytes n x
bytes_below zero m a x few = refl
bytes_below (suc n) m a x few =
    ap (λ b. b ∷ big_bytes n (a * 256 ^ m + x)) (byte_below n m a x (omega arith))
    ∙ ap (λ bs. byte_at n x ∷ bs) (bytes_below n m a x (omega arith))

-- each of the bytes is a number below 256; past the end 0 is read
pub byte_at_offset : (bytes : List ℕ) → All (λ byte. byte < 256) bytes → (k : ℕ) → get_or bytes k 0 < 256
byte_at_offset bytes all k =
    ⊎_elim (λ inside. All-get_or (λ byte. byte < 256) bytes k 0 inside all)
    (λ past. subst (λ (n : ℕ). n < 256) (sym (get_or-eq_default bytes 0 past)) (omega arith))
    (cases_lt k (length bytes))

-- the number from an offset on is that of what stands from there on
big_from-drop : (at i n : ℕ) (bytes : List ℕ) → big_from (at + i) n bytes ≡ big_from i n (drop at bytes)
big_from-drop at i zero bytes = refl
big_from-drop at i (suc n) bytes =
    ap (λ b. b * 256 ^ n + big_from (suc (at + i)) n bytes) (sym (get_or-drop at bytes i 0))
    ∙ ap (λ m. get_or (drop at bytes) i 0 * 256 ^ n + m) (ap (λ k. big_from k n bytes) {x = suc (at + i)} {y = at + suc i} (omega arith)
    ∙ big_from-drop at (suc i) n bytes)

-- the bytes of a number that was read from bytes are those bytes
big_bytes-big_from : (n i : ℕ) (bytes : List ℕ) → i + n ≤ length bytes → ((k : ℕ) → get_or bytes k 0 < 256)
    → big_bytes n (big_from i n bytes) ≡ take n (drop i bytes)
big_bytes-big_from zero i bytes lies small = refl
big_bytes-big_from (suc n) i bytes lies small =
    let rest = big_from (suc i) n bytes in
    let below : rest < 256 ^ n = big_from-lt (suc i) n bytes small in
    let first : byte_at n (get_or bytes i 0 * 256 ^ n + rest) ≡ get_or bytes i 0 =
    byte_at-pow n (get_or bytes i 0 * 256 ^ n + rest) ∙ ap (λ m. m % 256) (div-mul-add (get_or bytes i 0) (256 ^ n) rest below) ∙ mod-eq_of_lt (small i) in
    ap (λ b. b ∷ big_bytes n (get_or bytes i 0 * 256 ^ n + rest)) first
    ∙ ap (λ bs. get_or bytes i 0 ∷ bs) (bytes_below n n (get_or bytes i 0) rest (omega arith) ∙ big_bytes-big_from n (suc i) bytes (omega arith) small)
    ∙ sym (ap (take (suc n)) (drop-cons bytes i 0 (omega arith)))

-- so are the bytes of the number of a field
pub big_bytes-number_in : (f : Field) (bytes : List ℕ) → f.at + f.len ≤ length bytes → All (λ byte. byte < 256) bytes
    → big_bytes f.len (number_in f bytes) ≡ bytes_in f bytes
big_bytes-number_in f bytes lies all =
    ap (big_bytes f.len) (sym (big_from-drop f.at 0 f.len bytes) ∙ ap (λ k. big_from k f.len bytes) {x = f.at + 0} {y = f.at} (omega arith))
    ∙ big_bytes-big_from f.len f.at bytes lies (byte_at_offset bytes all)

-- of two writes at one offset the last one stands
pub with_bytes-twice : (at : ℕ) (written before bytes : List ℕ) → at + length written ≤ length bytes → length before ≡ length written
    → with_bytes at written (with_bytes at before bytes) ≡ with_bytes at written bytes
unfolding with_bytes
with_bytes-twice at written before bytes fits same =
    let front : length (take at bytes) ≡ at = length-take-le at bytes (omega arith) in
    let rest = drop (at + length before) bytes in
    let head : take at (take at bytes ++ (before ++ rest)) ≡ take at bytes = take-append-le at (take at bytes) (before ++ rest) (omega arith)
    ∙ take_all at (take at bytes) (omega arith) in
    let tail : drop (at + length written) (take at bytes ++ (before ++ rest)) ≡ drop (at + length written) bytes =
    ap (λ n. drop (n + length written) (take at bytes ++ (before ++ rest))) (sym front)
    ∙ drop-append-add (take at bytes) (before ++ rest) (length written)
    ∙ drop_at before rest (length written) same
    ∙ ap (λ n. drop (at + n) bytes) same in
    ap (λ p. p ++ (written ++ drop (at + length written) (take at bytes ++ (before ++ rest)))) head
    ∙ ap (λ p. take at bytes ++ (written ++ p)) tail

pub with_number-twice : (f : Field) (number before : ℕ) (bytes : List ℕ) → f.at + f.len ≤ length bytes
    → with_number f number (with_number f before bytes) ≡ with_number f number bytes
with_number-twice f number before bytes lies =
    let long = length-bytes_high_first f.len number in
    with_bytes-twice f.at (big_bytes f.len number) (big_bytes f.len before) bytes (omega arith) (length-bytes_high_first f.len before ∙ sym long)
