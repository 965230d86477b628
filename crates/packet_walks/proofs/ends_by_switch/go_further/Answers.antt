-- A walk more, and all of them.
use Rattle.std.proofs.Common.{◌∙◌, ◌<◌, arith, length, refl, sym}
use Rattle.std.specs.Prelude.{slice_set}
use Rattle.packet_walks.proofs.Further.{count_more, one_further, one_to, one_ended, step_by, tos_all, tos_first}
use Rattle.packet_walks.proofs.ends_by_switch.go_further.Goals as goal
use Rattle.packet_walks.proofs.ends_by_switch.go_further.Goals.{then-is_to, else-is_to}

pub overflow_add-left : goal.overflow_add-left
overflow_add-left c = omega (arith, tos_first c.loop-index.jumps.items c.loop-index.index, c.loop-index.invariant.left)

pub loop-index-preserved : goal.loop-index-preserved
loop-index-preserved c =
    let old = c.args.jumps.now.items in
    let now = c.loop-index.jumps.items in
    let index = c.loop-index.index in
    let step = c.onward-step.result in
    let many = c.loop-index.invariant.further.as_many in
    let less : index < length old = omega (arith, c.args.jumps.now.ok.0) in
    let within : index < length now = omega arith in
    record {
      further = one_further old now (slice_set now index step) index step c.loop-index.invariant.further less
          (step_by now c.deref.result.now index c.index.result.now step c.deref.ensures.value within c.index.ensures c.onward-step.ensures) refl;
      left = elim c.if-is_to.branch [
        | then-is_to w ↦
            count_more now index c.loop-index.left c.if-is_to.left step within c.loop-index.invariant.left
            (let one_is = one_to step (sym c.is_to.ensures ∙ w.if-is_to.true) in w.left-is ∙ omega arith)
        | else-is_to w ↦
            count_more now index c.loop-index.left c.if-is_to.left step within c.loop-index.invariant.left
            (let none_is = one_ended step (sym c.is_to.ensures ∙ w.if-is_to.false) in w.left-is ∙ omega arith)
      ];
    }

pub returns-clause-left : goal.returns-clause-left
returns-clause-left c =
    let many = c.loop-index.invariant.further.as_many in
    c.loop-index.invariant.left ∙ tos_all c.loop-index.jumps.items c.loop-index.index (omega (arith, c.args.jumps.now.ok.0))
