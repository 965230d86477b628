-- Chains of numbers, built from the last number on.
use Rattle.std.proofs.Common.{◌≡◌, ℕ, zero, suc, ◌<◌, ◌≤◌, List, length, refl, sym, ap, ◌∙◌, subst, arith, inl, inr, Vec, Global}
use Rattle.std.specs.Prelude.{replicate, slice_index_or, slice_set}
use Rattle.std.proofs.lemmas.Bool.{cases_eq}
use Rattle.std.proofs.lemmas.List.{get_or-set_other, length-set}
use Rattle.std.proofs.lemmas.Grind.{get_or-set_at}
use Rattle.held_tables.specs.Chains.{AreChains, IsNext}

-- the chains of the numbers from the index `from` on
pub record ChainedFrom (numbers : List ℕ) (from : ℕ) (firsts nexts : List ℕ) : Type 0 where
  pub all_numbers : length firsts ≡ 65536
  pub as_many : length nexts ≡ length numbers
  pub within : from ≤ length numbers
  pub first : (number : ℕ) → number < 65536 → IsNext numbers number from (slice_index_or firsts number 0)
  pub next : (index : ℕ) → from ≤ index → index < length numbers
      → IsNext numbers (slice_index_or numbers index 0) (suc index) (slice_index_or nexts index 0)

filled : (n x i : ℕ) → i < n → slice_index_or (replicate n x) i 0 ≡ x
filled zero x i h = absurd (omega arith)
filled (suc n) x zero h = refl
filled (suc n) x (suc i) h = filled n x i (omega arith)

many : (n x : ℕ) → length (replicate n x) ≡ n
many zero x = refl
many (suc n) x = ap suc (many n x)

pub none_chained : (numbers firsts nexts : List ℕ) (from : ℕ) → firsts ≡ replicate 65536 (length numbers) → nexts ≡ replicate (length numbers) 0
    → from ≡ length numbers → ChainedFrom numbers from firsts nexts
none_chained numbers firsts nexts from e n at = record {
  all_numbers = ap length e ∙ many 65536 (length numbers);
  as_many = ap length n ∙ many (length numbers) 0;
  within = omega arith;
  first = λ number less. subst (λ (x : ℕ). IsNext numbers number from x)
      (sym (ap (λ xs. slice_index_or xs number 0) e ∙ filled 65536 (length numbers) number less)) (record {
        past = omega arith;
        within = omega arith;
        is = λ inside. absurd (omega arith);
        none = λ other low high. absurd (omega arith);
      });
  next = λ index low high. absurd (omega arith);
}

module _ (numbers firsts nexts : List ℕ) (index number next : ℕ) (so : ChainedFrom numbers (suc index) firsts nexts)
    (number_is : number ≡ slice_index_or numbers index 0) (small : number < 65536) (next_is : next ≡ slice_index_or firsts number 0) where
  first_here : (other : ℕ) → other < 65536 → IsNext numbers other index (slice_index_or (slice_set firsts number index) other 0)
  first_here other less =
      let count = so.all_numbers in
      let room = so.within in
      elim (cases_eq other number) [
        | inl same ↦
            subst (λ (x : ℕ). IsNext numbers other index x) (sym (get_or-set_at firsts number other index 0 same (omega arith))) (record {
              past = omega arith;
              within = omega arith;
              is = λ inside. sym number_is ∙ sym same;
              none = λ k low high. absurd (omega arith);
            })
        | inr apart ↦
            subst (λ (x : ℕ). IsNext numbers other index x) (sym (get_or-set_other firsts number other index 0 apart))
            (let before = so.first other less in
            let past = before.past in
            record {
              past = omega arith;
              within = before.within;
              is = before.is;
              none = λ k low high. λ is. (elim (cases_eq k index) [
                | inl same ↦ apart (sym is ∙ ap (λ n. slice_index_or numbers n 0) same ∙ sym number_is)
                | inr later ↦ before.none k (omega (arith, later)) high is
              ]);
            })
      ]

  next_here : (k : ℕ) → index ≤ k → k < length numbers
      → IsNext numbers (slice_index_or numbers k 0) (suc k) (slice_index_or (slice_set nexts index next) k 0)
  next_here k low high =
      let count = so.as_many in
      elim (cases_eq k index) [
        | inl same ↦
            subst (λ (x : ℕ). IsNext numbers (slice_index_or numbers k 0) (suc k) x)
            (sym (get_or-set_at nexts index k next 0 same (omega arith) ∙ next_is))
            (subst (λ (i : ℕ). IsNext numbers (slice_index_or numbers i 0) (suc i) (slice_index_or firsts number 0)) (sym same)
            (subst (λ (n : ℕ). IsNext numbers n (suc index) (slice_index_or firsts number 0)) number_is (so.first number small)))
        | inr apart ↦
            subst (λ (x : ℕ). IsNext numbers (slice_index_or numbers k 0) (suc k) x) (sym (get_or-set_other nexts index k next 0 apart))
            (so.next k (omega (arith, apart)) high)
      ]

  pub one_chained : ChainedFrom numbers index (slice_set firsts number index) (slice_set nexts index next)
  one_chained = record {
    all_numbers = length-set firsts number index ∙ so.all_numbers;
    as_many = length-set nexts index next ∙ so.as_many;
    within = (let room = so.within in omega arith);
    first = first_here;
    next = next_here;
  }

pub chained_at : (numbers firsts nexts : List ℕ) (old index number next : ℕ) → ChainedFrom numbers old firsts nexts → old ≡ suc index
    → number ≡ slice_index_or numbers index 0 → number < 65536 → next ≡ slice_index_or firsts number 0
    → ChainedFrom numbers index (slice_set firsts number index) (slice_set nexts index next)
chained_at numbers firsts nexts old index number next so at is small next_is =
    one_chained numbers firsts nexts index number next (subst (λ (n : ℕ). ChainedFrom numbers n firsts nexts) at so) is small next_is

pub all_chained : (numbers : List ℕ) (firsts nexts : Vec ℕ Global) (from : ℕ) → ChainedFrom numbers from firsts.items nexts.items → from ≤ 0
    → AreChains numbers (record { firsts = firsts; nexts = nexts })
all_chained numbers firsts nexts from so e = record {
  firsts = λ number less. subst (λ (n : ℕ). IsNext numbers number n (slice_index_or firsts.items number 0)) (let z : from ≡ 0 = omega arith in z)
      (so.first number less);
  nexts = λ index less. so.next index (omega arith) less;
}
