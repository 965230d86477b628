-- One request less, and one step less where it was one.
use Rattle.std.proofs.Common.{◌≡◌, ◌-◌, ◌≤◌, ap, sym, ◌∙◌, subst, arith}
use Rattle.sm_manager.specs.declared.manager_requests.ManagerRequests.TheInside.{Inside}
use Rattle.sm_manager.specs.ManagerRequests.{AreCounted, counts, is_step}
use Rattle.sm_manager.proofs.Numbers.{counted_without, less_none, less_one, many_without, one_if}
use Rattle.sm_manager.proofs.manager_requests.ManagerRequests.end.Goals as goal
use Rattle.sm_manager.proofs.manager_requests.ManagerRequests.end.Goals.{then-is_step, else-is_step}

pub overflow_sub-self : goal.overflow_sub-self
overflow_sub-self c =
    let less = many_without is_step c.self.inside.table.requests c.args.index c.end-ended.result (sym c.end-ended.ensures.request) in
    let one : one_if (is_step c.end-ended.result) ≡ 1 = ap one_if (sym c.is_step.ensures ∙ c.if-is_step.true) in
    omega (arith, less, one, c.self.invariant.steps_are)

pub overflow_sub-self-then-counts : goal.overflow_sub-self-then-counts
overflow_sub-self-then-counts c =
    let less = many_without counts c.self.inside.table.requests c.args.index c.end-ended.result (sym c.end-ended.ensures.request) in
    let one : one_if (counts c.end-ended.result) ≡ 1 = ap one_if (sym c.counts.ensures ∙ c.if-counts.true) in
    let some : 1 ≤ c.self.inside.counting = omega (arith, less, one, c.self.invariant.counting_are) in
    elim c.if-is_step.branch [
      | then-is_step w ↦ subst (λ (x : Inside). 1 ≤ x.counting) (sym w.self-inside-is) some
      | else-is_step w ↦ subst (λ (x : Inside). 1 ≤ x.counting) (sym w.self-inside-is) some
    ]

pub invariant_of-self : goal.invariant_of-self
invariant_of-self c =
    elim c.if-is_step.branch [
      | then-is_step w ↦
          subst (λ (x : Inside). AreCounted x.table.requests x.steps (x.counting - 1)) (sym w.self-inside-is)
          (counted_without c.self.inside.table.requests c.end-ended.new.self.requests c.args.index c.end-ended.result
          c.self.inside.steps c.self.inside.counting _ _ c.self.invariant (sym c.end-ended.ensures.request) c.end-ended.ensures.moved
          (less_one c.self.inside.steps (is_step c.end-ended.result) (sym c.is_step.ensures ∙ w.if-is_step.true))
          (less_one c.self.inside.counting (counts c.end-ended.result) (sym c.counts.ensures ∙ c.if-counts.true)))
      | else-is_step w ↦
          subst (λ (x : Inside). AreCounted x.table.requests x.steps (x.counting - 1)) (sym w.self-inside-is)
          (counted_without c.self.inside.table.requests c.end-ended.new.self.requests c.args.index c.end-ended.result
          c.self.inside.steps c.self.inside.counting _ _ c.self.invariant (sym c.end-ended.ensures.request) c.end-ended.ensures.moved
          (less_none c.self.inside.steps (is_step c.end-ended.result) (sym c.is_step.ensures ∙ w.if-is_step.false))
          (less_one c.self.inside.counting (counts c.end-ended.result) (sym c.counts.ensures ∙ c.if-counts.true)))
    ]

pub invariant_of-self-else-counts : goal.invariant_of-self-else-counts
invariant_of-self-else-counts c =
    elim c.if-is_step.branch [
      | then-is_step w ↦
          subst (λ (x : Inside). AreCounted x.table.requests x.steps x.counting) (sym w.self-inside-is)
          (counted_without c.self.inside.table.requests c.end-ended.new.self.requests c.args.index c.end-ended.result
          c.self.inside.steps c.self.inside.counting _ _ c.self.invariant (sym c.end-ended.ensures.request) c.end-ended.ensures.moved
          (less_one c.self.inside.steps (is_step c.end-ended.result) (sym c.is_step.ensures ∙ w.if-is_step.true))
          (less_none c.self.inside.counting (counts c.end-ended.result) (sym c.counts.ensures ∙ c.if-counts.false)))
      | else-is_step w ↦
          subst (λ (x : Inside). AreCounted x.table.requests x.steps x.counting) (sym w.self-inside-is)
          (counted_without c.self.inside.table.requests c.end-ended.new.self.requests c.args.index c.end-ended.result
          c.self.inside.steps c.self.inside.counting _ _ c.self.invariant (sym c.end-ended.ensures.request) c.end-ended.ensures.moved
          (less_none c.self.inside.steps (is_step c.end-ended.result) (sym c.is_step.ensures ∙ w.if-is_step.false))
          (less_none c.self.inside.counting (counts c.end-ended.result) (sym c.counts.ensures ∙ c.if-counts.false)))
    ]
