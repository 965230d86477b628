-- A LID more, and all of them.
use Rattle.std.proofs.Common.{◌≡◌, ◌∙◌, ◌*◌, List, [], length, subst, sym, ap, arith}
use Rattle.std.specs.Prelude.{Option}
use Rattle.port_graph.specs.declared.edge.Edge.{Edge}
use Rattle.fact_store.specs.View.{Facts, cells_of}
use Rattle.subnet_view.specs.Reading.{switches}
use Rattle.packet_walks.specs.Network.{Seen}
use Rattle.packet_walks.specs.Edges.{edges_of, greatest_top}
use Rattle.audit_channels.proofs.Waiting.{column_long, some_is}
use Rattle.step_loops.specs.StepOrder.{IsAddedInStep}
use Rattle.step_loops.proofs.InStep.{none_so_far, more, all}
use Rattle.step_loops.proofs.Taken.{is_added, none_added}
use Rattle.step_loops.proofs.order.waits.Goals as goal

pub loop-below-init : goal.loop-below-init
loop-below-init c =
    let cells = cells_of c.args.held.now.facts in
    let product = some_is _ c.checked_mul.result c.in_ok-count.count _ c.checked_mul.ensures c.in_ok-count.ensures.ok_part in
    let all_switches = c.switch_count.ensures in
    let count : c.in_ok-count.count ≡ 256 * length (switches cells) = omega arith in
    record {
      held = c.in_ok-held_at.ensures.seen;
      next = c.in_ok-next_at.ensures.seen;
      so_far = none_so_far cells c.args.held.now.held c.args.next.now.held c.in_ok-count.count c.in_ok-waits.waits c.in_ok-waits.ensures count;
      added = subst (λ (xs : List (Option Edge)). IsAddedInStep xs c.none-before.result.next.items c.in_ok-waits.waits) (sym c.none-before.ensures.held)
          (subst (λ (xs : List (Option Edge)). IsAddedInStep [] xs c.in_ok-waits.waits) (sym c.none-before.ensures.next) (none_added c.in_ok-waits.waits));
    }

pub loop-below-preserved : goal.loop-below-preserved
loop-below-preserved c =
    let cells = cells_of c.args.held.now.facts in
    let held = c.args.held.now.held in
    let next = c.args.next.now.held in
    let lid = c.new-lid.result in
    let before = c.in_ok-columns.columns.held.items in
    let after = c.in_ok-columns.columns.next.items in
    let old = c.loop-below.waits in
    let new = c.add_step.new.waits in
    let with_it = c.in_ok-add_step.ensures in
    let held_is = c.go_to.ensures.seen ∙ c.loop-below.invariant.held in
    let next_is = c.go_to-in-loop-below.ensures.seen ∙ c.loop-below.invariant.next in
    let before_is = c.in_ok-columns.ensures.held ∙ (λ i. edges_of (cells_of (held_is i).facts) (held_is i).held (c.in_ok-go_to.ensures.lid i)) in
    let after_is = c.in_ok-columns.ensures.next
    ∙ (λ i. edges_of (cells_of (next_is i).facts) (next_is i).held (c.in_ok-go_to-2.ensures.lid i))
    ∙ ap (λ (f : Facts). edges_of (cells_of f) next lid) c.requires.facts in
    record {
      held = held_is;
      next = next_is;
      so_far = more cells held next c.loop-below.below lid old new before after c.loop-below.invariant.so_far c.new-lid.ensures before_is after_is with_it;
      added = is_added old new before after with_it;
    }

pub returns : goal.returns
returns c =
    let cells = cells_of c.args.held.now.facts in
    let held = c.args.held.now.held in
    let next = c.args.next.now.held in
    let one = c.greatest_top.ensures in
    let other : c.greatest_top-2.result ≡ greatest_top cells next =
    c.greatest_top-2.ensures ∙ ap (λ (f : Facts). greatest_top (cells_of f) next) c.requires.facts in
    let both = c.greater.ensures in
    let end = c.number-below-end.ensures in
    all cells held next c.loop-below.below c.loop-below.waits c.loop-below.invariant.so_far (omega arith)

pub add_step-requires-clause-added : goal.add_step-requires-clause-added
add_step-requires-clause-added c = c.loop-below.invariant.added

pub add_step-requires-clause-held : goal.add_step-requires-clause-held
add_step-requires-clause-held c =
    let held_is = c.go_to.ensures.seen ∙ c.loop-below.invariant.held in
    let long = ap length c.in_ok-columns.ensures.held ∙ column_long (cells_of c.go_to.new.self.seen.facts) c.go_to.new.self.seen.held c.go_to.new.self.lid
    ∙ ap (λ (s : Seen). length (switches (cells_of s.facts))) held_is in
    c.loop-below.invariant.so_far.as_many ∙ ap (λ n. 256 * n) (sym long)

pub add_step-requires-clause-next : goal.add_step-requires-clause-next
add_step-requires-clause-next c =
    let next_is = c.go_to-in-loop-below.ensures.seen ∙ c.loop-below.invariant.next in
    let at = c.go_to-in-loop-below.new.self in
    let long = ap length c.in_ok-columns.ensures.next ∙ column_long (cells_of at.seen.facts) at.seen.held at.lid
    ∙ ap (λ (s : Seen). length (switches (cells_of s.facts))) next_is ∙ ap (λ (f : Facts). length (switches (cells_of f))) c.requires.facts in
    c.loop-below.invariant.so_far.as_many ∙ ap (λ n. 256 * n) (sym long)
