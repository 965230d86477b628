-- Each step leaves half of the indices at most.
use Rattle.std.proofs.Common.{◌≡◌, ℕ, ◌+◌, ◌/◌, length, sym, ◌∙◌, subst, arith}
use Rattle.std.specs.Prelude.{Some}
use Rattle.std.specs.declared.cmp.Ordering.TheVariants.{Less, Equal, Greater}
use Rattle.fact_store.specs.Comparisons.{CountsSearch, HasDigits, IsBudget}
use Rattle.reply_facts.specs.Key.{key_cmp}
use Rattle.fact_store.proofs.CellOrder.{held, ends_at}
use Rattle.reply_facts.proofs.Keys.{key_exact}
use Rattle.fact_store.proofs.Searches.{IsNarrowed, halved, few_digits, fewer_digits, one_more_digit, narrowed_up, narrowed_down, not_narrowed, ends_with, ends_without}
use Rattle.fact_store.proofs.search.find.Goals as goal

pub loop-low-init : goal.loop-low-init
loop-low-init c = record {
  narrowed = subst (λ (n : ℕ). IsNarrowed c.args.key.now c.args.cells.now.items 0 n 0) (sym c.len-high.ensures)
      (not_narrowed c.args.key.now c.args.cells.now.items);
  budget = subst (λ (n : ℕ). IsBudget n 0 c.all_ones-most.result) c.len-high.ensures c.all_ones-most.ensures.least;
  enough = omega (arith, c.all_ones-most.ensures.enough);
}

pub split-split-requires-clause-within : goal.split-split-requires-clause-within
split-split-requires-clause-within c = c.loop-low.invariant.narrowed.upto

pub split-split-requires-clause-halves : goal.split-split-requires-clause-halves
split-split-requires-clause-halves c =
    let half = halved (length c.args.cells.now.items) c.loop-low.steps c.loop-low.most c.loop-low.invariant.budget
    (omega (arith, c.loop-low-test.true, c.loop-low.invariant.enough)) in
    omega (arith, half.twice, c.loop-low.invariant.enough)

pub compare-requires : goal.compare-requires
compare-requires c =
    let few = few_digits (length c.args.cells.now.items) c.loop-low.steps (omega (arith, c.len-high.ensures, c.len-high.type_inv))
    (fewer_digits (length c.args.cells.now.items) c.loop-low.steps c.loop-low.invariant.budget.left c.loop-low.invariant.budget.digits) in
    omega (arith, few)

pub loop-low-preserved-in-Less : goal.loop-low-preserved-in-Less
loop-low-preserved-in-Less c =
    let less : key_cmp c.split-split.result.item.0 c.args.key.now ≡ Less =
    sym c.in-Less.ensures.order in
    let half = halved (length c.args.cells.now.items) c.loop-low.steps c.loop-low.most c.loop-low.invariant.budget
    (omega (arith, c.loop-low-test.true, c.loop-low.invariant.enough)) in
    record {
      narrowed = subst (λ (s : ℕ). IsNarrowed c.args.key.now c.args.cells.now.items (c.split-split.result.index + 1) c.loop-low.high s)
          (sym c.compare.ensures.counted)
          (narrowed_up c.args.key.now c.args.cells.now.items c.requires c.loop-low.low c.loop-low.high c.loop-low.steps c.split-split.result.index
          c.loop-low.invariant.narrowed c.split-split.ensures.index.from c.split-split.ensures.index.until c.split-split.result.item
          c.split-split.ensures.item less);
      budget = subst (λ (s : ℕ). IsBudget (length c.args.cells.now.items) s (c.loop-low.most / 2)) (sym c.compare.ensures.counted) half.next;
      enough = omega (arith, c.split-split.ensures.index.after);
    }

pub loop-low-preserved : goal.loop-low-preserved
loop-low-preserved c =
    let greater : key_cmp c.split-split.result.item.0 c.args.key.now ≡ Greater =
    sym c.in-Greater.ensures.order in
    let half = halved (length c.args.cells.now.items) c.loop-low.steps c.loop-low.most c.loop-low.invariant.budget
    (omega (arith, c.loop-low-test.true, c.loop-low.invariant.enough)) in
    record {
      narrowed = subst (λ (s : ℕ). IsNarrowed c.args.key.now c.args.cells.now.items c.loop-low.low c.split-split.result.index s) (sym c.compare.ensures.counted)
          (narrowed_down c.args.key.now c.args.cells.now.items c.requires c.loop-low.low c.loop-low.high c.loop-low.steps c.split-split.result.index
          c.loop-low.invariant.narrowed c.split-split.ensures.index.from c.split-split.ensures.index.until c.split-split.result.item
          c.split-split.ensures.item greater);
      budget = subst (λ (s : ℕ). IsBudget (length c.args.cells.now.items) s (c.loop-low.most / 2)) (sym c.compare.ensures.counted) half.next;
      enough = omega (arith, c.split-split.ensures.index.before);
    }

pub overflow_cast-result : goal.overflow_cast-result
overflow_cast-result c =
    let digits = one_more_digit (length c.args.cells.now.items) c.loop-low.steps c.loop-low.most c.loop-low.invariant.budget
    (omega (arith, c.loop-low-test.true, c.loop-low.invariant.enough)) in
    let few = few_digits (length c.args.cells.now.items) (c.loop-low.steps + 1) (omega (arith, c.len-high.ensures, c.len-high.type_inv)) digits in
    omega (arith, few, c.compare.ensures.counted)

pub returns-in-Equal-clause-index : goal.returns-in-Equal-clause-index
returns-in-Equal-clause-index c =
    let same : c.split-split.result.item.0 ≡ c.args.key.now =
    key_exact c.split-split.result.item.0 c.args.key.now (sym c.in-Equal.ensures.order)
    in
    (c.split-split.result.item.1, c.split-split.ensures.item ∙ (λ i. Some (same i, c.split-split.result.item.1)))

pub returns-in-Equal-clause-counted : goal.returns-in-Equal-clause-counted
returns-in-Equal-clause-counted c =
    let equal : key_cmp c.split-split.result.item.0 c.args.key.now ≡ Equal =
    sym c.in-Equal.ensures.order in
    subst (CountsSearch c.args.key.now c.args.cells.now.items) (sym c.compare.ensures.counted)
    (ends_with c.args.key.now c.args.cells.now.items c.requires c.loop-low.low c.loop-low.high c.loop-low.steps c.split-split.result.index
    c.loop-low.invariant.narrowed c.split-split.ensures.index.from c.split-split.ensures.index.until c.split-split.result.item c.split-split.ensures.item
    equal)

pub returns-in-Equal-clause-digits : goal.returns-in-Equal-clause-digits
returns-in-Equal-clause-digits c = subst (HasDigits (length c.args.cells.now.items)) (sym c.compare.ensures.counted)
    (one_more_digit (length c.args.cells.now.items) c.loop-low.steps c.loop-low.most c.loop-low.invariant.budget
    (omega (arith, c.loop-low-test.true, c.loop-low.invariant.enough)))

pub overflow_cast-result-2 : goal.overflow_cast-result-2
overflow_cast-result-2 c =
    let few = few_digits (length c.args.cells.now.items) c.loop-low.steps (omega (arith, c.len-high.ensures, c.len-high.type_inv))
    (fewer_digits (length c.args.cells.now.items) c.loop-low.steps c.loop-low.invariant.budget.left c.loop-low.invariant.budget.digits) in
    omega (arith, few)

pub returns-clause-index : goal.returns-clause-index
returns-clause-index c =
    let n = c.loop-low.invariant.narrowed in
    ends_at c.args.cells.now.items c.loop-low.low c.args.key.now (held _ c.requires.rising) (omega (arith, n.ordered, n.upto)) n.below
    (λ j e h k. n.above j e (omega (arith, c.loop-low-test.false, h)) k)

pub returns-clause-counted : goal.returns-clause-counted
returns-clause-counted c =
    ends_without c.args.key.now c.args.cells.now.items c.loop-low.low c.loop-low.high c.loop-low.steps c.loop-low.invariant.narrowed c.loop-low-test.false

pub returns-clause-digits : goal.returns-clause-digits
returns-clause-digits c = fewer_digits (length c.args.cells.now.items) c.loop-low.steps c.loop-low.invariant.budget.left c.loop-low.invariant.budget.digits
