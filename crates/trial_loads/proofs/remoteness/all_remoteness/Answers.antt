use Rattle.std.proofs.Common.{◌≡◌, ◌+◌, ◌-◌, ℕ, List, sym, ap, ◌∙◌, subst, arith, length, take, drop}
use Rattle.std.proofs.lemmas.List.{take_all, with_items_is}
use Rattle.std.proofs.lemmas.List.Sums.{sum_by-append}
use Rattle.std.proofs.Math.Seq.{take-add}
use Rattle.std.specs.List.{sum_by}
use Rattle.std.specs.Prelude.{IfOk, slice_index}
use Rattle.spread_labels.specs.Orders.{numbers_from}
use Rattle.trial_loads.specs.NearTargets.{share_within}
use Rattle.trial_loads.specs.Starts.{capped}
use Rattle.trial_loads.proofs.Shares.{cap_sum, sums_are}
use Rattle.trial_loads.proofs.remoteness.all_remoteness.Goals as goal

pub loop-first-preserved : goal.loop-first-preserved
loop-first-preserved c =
    let edges = c.args.graph.now.edges.now in
    let adapters = c.args.graph.now.adapters.now in
    let vertices = c.in_ok-vertices.vertices.items in
    let first = c.loop-first.first in
    let n = c.min.result in
    let new = c.add_shares.new.sums in
    let long : length new ≡ c.loop-first.sums.len = c.add_shares.auto.sums ∙ c.deref_mut.ensures.len in
    let part : take (first + n - first) (drop first c.deref.result.now) ≡ take n (drop first vertices) =
    (λ i. take (let left : first + n - first ≡ n = omega arith in left i) (drop first (c.deref.ensures.value i))) in
    let f : ℕ → ℕ → ℕ = λ s. share_within edges adapters (length edges) s in
    record {
      first = omega (arith, c.min.ensures, c.loop-first.invariant.first);
      long = c.loop-first.invariant.long;
      sums = λ s h.
          let before = take first vertices in
          let now = take n (drop first vertices) in
          let sum : sum_by (f s) before + sum_by (f s) now ≡ sum_by (f s) (take (first + n) vertices) =
          sym (sum_by-append (f s) before now) ∙ ap (sum_by (f s)) (sym (take-add first n vertices)) in
          ap (λ xs. slice_index xs s) (with_items_is c.loop-first.sums new long)
          ∙ c.in_ok-add_shares.ensures s h
          ∙ (λ i. capped (slice_index (c.deref_mut.ensures.value i) s + sum_by (f s) (part i)))
          ∙ ap (λ x. capped (x + sum_by (f s) now)) (c.loop-first.invariant.sums s h)
          ∙ cap_sum (sum_by (f s) before) (sum_by (f s) now) ∙ ap capped sum;
    }

pub returns : goal.returns
returns c =
    let edges = c.args.graph.now.edges.now in
    let adapters = c.args.graph.now.adapters.now in
    let vertices = c.in_ok-vertices.vertices.items in
    let first = c.loop-first.first in
    let sums = c.loop-first.sums.items in
    let all : take first vertices ≡ numbers_from 0 (length edges) =
    take_all first vertices (omega (arith, c.loop-first-test.false, c.in_ok-vertices.vertices.ok.0))
    ∙ c.in_ok-vertices.ensures.numbers ∙ ap (numbers_from 0) c.len.ensures in
    let long : length sums ≡ length edges = omega (arith, c.loop-first.invariant.long, c.loop-first.sums.ok.0) in
    let are = sums_are edges adapters sums long
    (λ s h. c.loop-first.invariant.sums s h ∙ ap (λ ts. capped (sum_by (share_within edges adapters (length edges) s) ts)) all) in
    subst (λ (xs : List ℕ). IfOk c.widened.result (λ found. found.items ≡ xs)) (c.deref-2.ensures.value ∙ are) c.widened.ensures
