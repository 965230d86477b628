-- Disputed cells, counted as all cells minus the known ones.
use Rattle.std.proofs.Common.{◌≡◌, ◌+◌, ◌-◌, ◌≤◌, ℕ, ◌∷◌, ap, arith, length, true, false, cond}
use Rattle.std.proofs.lemmas.List.Sums.{sum_by-cons, count_by-le-length}
use Rattle.fact_join.specs.declared.cell.Cell.{Cell}
use Rattle.reply_facts.specs.declared.key.Key.{Key}
use Rattle.reply_facts.specs.declared.value.Value.{Value}
use Rattle.subnet_view.specs.Reading.{Cells}
use Rattle.audit_counts.specs.DisputedFacts.{disputed, is_disputed}

-- `count` is the number of disputed cells that were passed, plus all cells of `rest`
abbrev pub CountedTo : ℕ → Cells → ℕ → Type 0
CountedTo count rest all = count + disputed rest ≡ length rest + all

module _ (x : Key × Cell Value) (rest : Cells) (count all : ℕ) (h : CountedTo count (x ∷ rest) all) where
  one : disputed (x ∷ rest) ≡ cond (is_disputed x) 1 0 + disputed rest
  one = sum_by-cons (λ (y : Key × Cell Value). cond (is_disputed y) 1 0) x rest

  none : is_disputed x ≡ false → disputed (x ∷ rest) ≡ disputed rest
  none e = let first : ◌≡◌ {A = ℕ} (cond (is_disputed x) 1 0) 0 = ap (λ t. cond t 1 0) e in omega (arith, one, first)

  some : is_disputed x ≡ true → disputed (x ∷ rest) ≡ 1 + disputed rest
  some e = let first : ◌≡◌ {A = ℕ} (cond (is_disputed x) 1 0) 1 = ap (λ t. cond t 1 0) e in omega (arith, one, first)

  pub is_counted : is_disputed x ≡ false → 1 ≤ count
  is_counted e = omega (arith, none e, h, count_by-le-length is_disputed rest)

  pub one_fewer : is_disputed x ≡ false → CountedTo (count - 1) rest all
  one_fewer e = omega (arith, none e, h, count_by-le-length is_disputed rest)

  pub as_many : is_disputed x ≡ true → CountedTo count rest all
  as_many e = omega (arith, some e, h)
