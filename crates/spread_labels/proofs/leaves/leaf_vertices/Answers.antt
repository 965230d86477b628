use Rattle.std.proofs.Common.{◌≡◌, ◌<◌, ◌++◌, ℕ, Bool, List, [], ◌∷◌, All, sym, ap, subst, ◌∙◌, arith, append-nil, cond, get_or, length}
use Rattle.std.proofs.lemmas.Bool.{le-ltb, lt-ltb}
use Rattle.std.specs.Prelude.{filter, nat_lt}
use Rattle.spread_labels.specs.Leaves.{leaf_vertices}
use Rattle.spread_labels.specs.Orders.{numbers_from}
use Rattle.spread_labels.proofs.Earlier.{filter_grown}
use Rattle.spread_labels.proofs.LeafVertices.{leaves_within}
use Rattle.spread_labels.proofs.leaves.leaf_vertices.Goals as goal
use Rattle.spread_labels.proofs.leaves.leaf_vertices.Goals.{then-adapters-vertex-gt0+in_ok-push, else-adapters-vertex-gt0}

pub loop-vertex-preserved : goal.loop-vertex-preserved
loop-vertex-preserved c =
    let v = c.loop-vertex.vertex in
    let n = get_or c.args.adapters.now v 0 in
    let test : ℕ → Bool = λ k. nat_lt 0 (get_or c.args.adapters.now k 0) in
    let old : List ℕ = filter test (numbers_from 0 v) in
    let next = sym (filter_grown test v) in
    elim c.if-adapters-vertex-gt0.branch [
      | then-adapters-vertex-gt0+in_ok-push w ↦
          ap (λ xs. xs.items) w.found-is ∙ w.in_ok-push.ensures.items ∙ ap (λ xs. xs ++ v ∷ []) c.loop-vertex.invariant
          ∙ ap (λ b. old ++ cond b (v ∷ []) []) (sym (lt-ltb 0 n w.if-adapters-vertex-gt0.true)) ∙ next
      | else-adapters-vertex-gt0 w ↦
          ap (λ xs. xs.items) w.found-is ∙ c.loop-vertex.invariant ∙ sym (append-nil old)
          ∙ ap (λ b. old ++ cond b (v ∷ []) []) (sym (le-ltb 0 n w.if-adapters-vertex-gt0.false)) ∙ next
    ]

pub returns-clause-within : goal.returns-clause-within
returns-clause-within c =
    let adapters = c.args.adapters.now in
    let end : length adapters ≡ c.loop-vertex.vertex = omega (arith, c.loop-vertex-test.false, c.loop-vertex.auto.vertex-end) in
    let test : ℕ → Bool = λ k. nat_lt 0 (get_or adapters k 0) in
    let is : leaf_vertices adapters ≡ c.loop-vertex.found.items =
    ap (λ n. filter test (numbers_from 0 n)) end ∙ sym c.loop-vertex.invariant in
    subst (All (λ v. v < length adapters)) is (leaves_within adapters)
