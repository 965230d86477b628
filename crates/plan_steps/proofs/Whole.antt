-- Sixty-four bytes stay sixty-four bytes while fields and bits are written.
use Rattle.std.proofs.Common.{◌≡◌, ℕ, zero, suc, ◌+◌, ◌-◌, ◌/◌, ◌^◌, ◌<◌, ◌≤◌, List, ◌++◌, ⊎_elim, inl, inr, sym, ap, ◌∙◌, subst, arith, length, get_or, append-nil}
use Rattle.std.specs.Prelude.{replicate}
use Rattle.std.specs.Int.{byte_at}
use Rattle.std.proofs.lemmas.Bool.{cases_lt}
use Rattle.std.proofs.lemmas.List.{get_or-replicate, get_or_default, get_or_past, length-replicate, take_all}
use Rattle.std.proofs.Math.ListN.{drop_of_length-le}
use Rattle.std.proofs.Math.Nat.{mod-lt}
use Rattle.byteorder.specs.Endian.{big_bytes}
use Rattle.byteorder.specs.Numbers.{length-bytes_high_first}
use Rattle.smp_bytes.specs.Field.{Bits, Field, number_in, replaced, with_bits, with_bytes, with_number}
use Rattle.smp_bytes.proofs.CopyLaws.{big_bytes-number_in}
use Rattle.smp_bytes.proofs.FieldLaws.{length-with_number}
use Rattle.smp_bytes.proofs.OffsetLaws.{get_or-with_bytes_inside, get_or-with_number}
use Rattle.plan_steps.specs.Carried.{all_bytes, copied}

-- 64 bytes, each a number below 256
pub record IsWhole (bytes : List ℕ) : Type 0 where
  pub count : length bytes ≡ 64
  pub small : (k : ℕ) → get_or bytes k 0 < 256

small_byte_at : (k x : ℕ) → byte_at k x < 256
small_byte_at zero x = mod-lt x (omega arith)
small_byte_at (suc k) x = mod-lt (x / 256 ^ suc k) (omega arith)

small_bytes : (n x k : ℕ) → get_or (big_bytes n x) k 0 < 256
small_bytes zero x k = omega arith
small_bytes (suc n) x zero = small_byte_at n x
small_bytes (suc n) x (suc k) = small_bytes n x k

pub whole_zeros : IsWhole (replicate 64 0)
whole_zeros =
    record {
      count = length-replicate {A = ℕ} 64 0;
      small = λ k. ⊎_elim (λ inside. let at = get_or-replicate {A = ℕ} 64 k 0 0 inside in omega (arith, at))
          (λ past. let at = get_or_past {X = ℕ} (replicate 64 0) k 0 past in omega (arith, at)) (cases_lt k 64);
    }

pub whole-with_number : (f : Field) (number : ℕ) (bytes : List ℕ) → f.at + f.len ≤ 64 → IsWhole bytes → IsWhole (with_number f number bytes)
whole-with_number f number bytes lies whole =
    let count = whole.count in
    let long = length-bytes_high_first f.len number in
    let ends : f.at + f.len ≤ length bytes = omega (arith, count, lies) in
    let apart : (k : ℕ) → get_or (with_number f number bytes) k 0 ≡ get_or bytes k 0 → get_or (with_number f number bytes) k 0 < 256 =
    λ k same. subst (λ (n : ℕ). n < 256) (sym same) (whole.small k) in
    let inside : (k : ℕ) → f.at ≤ k → k < f.at + f.len → get_or (with_number f number bytes) k 0 < 256 =
    λ k from before.
    let there = get_or-with_bytes_inside f.at (big_bytes f.len number) bytes (k - f.at) (omega (arith, ends, long)) (omega (arith, from, before, long)) in
    let at : f.at + (k - f.at) ≡ k = omega (arith, from) in
    let byte = small_bytes f.len number (k - f.at) in
    subst (λ (n : ℕ). get_or (with_number f number bytes) n 0 < 256) at (omega (arith, there, byte)) in
    record {
      count = length-with_number f number bytes ends ∙ count;
      small = λ k. ⊎_elim (λ before. apart k (get_or-with_number f number bytes k ends (inl before)))
          (λ from. ⊎_elim (λ before. inside k from before) (λ behind. apart k (get_or-with_number f number bytes k ends (inr behind)))
          (cases_lt k (f.at + f.len))) (cases_lt k f.at);
    }

pub whole-with_bits : (b : Bits) (number : ℕ) (bytes : List ℕ) → b.at < 64 → IsWhole bytes → IsWhole (with_bits b number bytes)
whole-with_bits b number bytes lies whole =
    whole-with_number (record { at = b.at; len = 1 }) (replaced b number (get_or bytes b.at 0)) bytes (omega (arith, lies)) whole

-- what is written as one field is there
pub copied_is : (bytes : List ℕ) → IsWhole bytes → copied bytes ≡ bytes
unfolding with_bytes
copied_is bytes whole =
    let count = whole.count in
    let all : big_bytes 64 (number_in all_bytes bytes) ≡ bytes = big_bytes-number_in all_bytes bytes (omega (arith, count))
    (λ i d h. let at = get_or_default bytes i d 0 h in let byte = whole.small i in omega (arith, at, byte))
    ∙ take_all 64 bytes (omega (arith, count)) in
    ap (λ (w : List ℕ). with_bytes 0 w (replicate 64 0)) all
    ∙ ap (λ (zs : List ℕ). bytes ++ zs) (drop_of_length-le {A = ℕ} (replicate 64 0) {i = 0 + length bytes} (omega (arith, count)))
    ∙ append-nil bytes

pub copied_whole : (bytes : List ℕ) → IsWhole (copied bytes)
copied_whole bytes = whole-with_number all_bytes (number_in all_bytes bytes) (replicate 64 0) (omega arith) whole_zeros
