-- There are no more steps than numbers; one more waits.
use Rattle.std.proofs.Common.{◌+◌, refl, arith}
use Rattle.request_table.proofs.Numbers.{rising_length}
use Rattle.sm_manager.specs.declared.pending.Pending.{Pending}
use Rattle.sm_manager.specs.ManagerRequests.{counts, is_step}
use Rattle.sm_manager.proofs.Numbers.{counted_with, many_at_most, none_more, one_more}
use Rattle.sm_manager.proofs.manager_requests.ManagerRequests.send.Goals as goal

pub overflow_add-self : goal.overflow_add-self
overflow_add-self c =
    let ps = c.self.inside.table.requests in
    let most = many_at_most is_step ps in
    let few = rising_length (λ (p : Pending). p.number) 0 ps c.self.inside.table.next c.next-number.ensures.numbered.rising in
    omega (arith, c.self.invariant.steps_are, most, few, c.next-number.ensures.numbered.bound)

pub overflow_add-self-then-counts : goal.overflow_add-self-then-counts
overflow_add-self-then-counts c =
    let ps = c.self.inside.table.requests in
    let most = many_at_most counts ps in
    let few = rising_length (λ (p : Pending). p.number) 0 ps c.self.inside.table.next c.next-number.ensures.numbered.rising in
    omega (arith, c.self.invariant.counting_are, most, few, c.next-number.ensures.numbered.bound)

pub invariant_of-self : goal.invariant_of-self
invariant_of-self c =
    let inside = c.self.inside in
    counted_with inside.table.requests c.push.new.self.requests _ inside.steps inside.counting (inside.steps + 1) (inside.counting + 1)
    c.self.invariant c.push.ensures.requests refl (one_more inside.counting c.args.counts c.if-counts.true)

pub invariant_of-self-else-counts : goal.invariant_of-self-else-counts
invariant_of-self-else-counts c =
    let inside = c.self.inside in
    counted_with inside.table.requests c.push.new.self.requests _ inside.steps inside.counting (inside.steps + 1) inside.counting
    c.self.invariant c.push.ensures.requests refl (none_more inside.counting c.args.counts c.if-counts.false)
