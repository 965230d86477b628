-- A LID more, and all of them.
use Rattle.std.proofs.Common.{◌≡◌, ◌∙◌, ◌+◌, ◌≤◌, ◌++◌, ℕ, List, ap, arith, length, subst, sym}
use Rattle.std.specs.Prelude.{Option, drop, take}
use Rattle.std.proofs.Math.Seq.{take-append_seam}
use Rattle.port_graph.specs.declared.edge.Edge.{Edge}
use Rattle.fact_store.specs.View.{Facts, cells_of}
use Rattle.packet_walks.specs.Edges.{edges_of, greatest_top}
use Rattle.step_loops.specs.LidsInLoop.{AreNoted, are_known}
use Rattle.step_loops.proofs.LoopLids.{LidsUpTo, all_lids, known_lids, more_lids, turned_long}
use Rattle.step_loops.proofs.lids_in_loop.loop_lids.Goals as goal

pub note_lid-requires-clause-after : goal.note_lid-requires-clause-after
note_lid-requires-clause-after c =
    ap length (c.deref-in-loop-below.ensures.value ∙ c.in_ok-after.ensures) ∙ turned_long c.args.cycle.now ∙ sym c.loop-below.invariant.lids.as_many
    ∙ sym (ap length c.deref_mut.ensures.value)

pub loop-below-preserved : goal.loop-below-preserved
loop-below-preserved c =
    let cells = cells_of c.args.held.now.facts in
    let held = c.args.held.now.held in
    let next = c.args.next.now.held in
    let cycle = c.args.cycle.now in
    let after = c.in_ok-after.after.items in
    let was = c.loop-below.lids in
    let new = c.note_lid.new.lids in
    let rest = drop (length new) was.items in
    let lid = c.new-lid.result in
    let before = c.in_ok-columns.columns.held.items in
    let now = c.in_ok-columns.columns.next.items in
    let low : 1 ≤ lid = (let is = c.new-lid.ensures in omega arith) in
    let long : was.len ≡ length new = omega (arith, c.note_lid.ensures.as_many, ap length c.deref_mut.ensures.value, was.ok.0) in
    let kept : take was.len (new ++ rest) ≡ new = ap (λ n. take n (new ++ rest)) long ∙ take-append_seam new rest in
    let one = subst (λ (xs : List (Option Edge)). AreNoted xs c.deref-in-loop-below-3.result.now lid cycle c.deref-in-loop-below.result.now
    c.deref_mut.result.now new)
    c.deref-in-loop-below-2.ensures.value c.note_lid.ensures in
    let two = subst (λ (xs : List (Option Edge)). AreNoted before xs lid cycle c.deref-in-loop-below.result.now c.deref_mut.result.now new)
    c.deref-in-loop-below-3.ensures.value one in
    let three = subst (λ (xs : List ℕ). AreNoted before now lid cycle xs c.deref_mut.result.now new) c.deref-in-loop-below.ensures.value two in
    let noted = subst (λ (xs : List ℕ). AreNoted before now lid cycle after xs new) c.deref_mut.ensures.value three in
    let held_is = c.go_to.ensures.seen ∙ c.loop-below.invariant.held in
    let next_is = c.go_to-in-loop-below.ensures.seen ∙ c.loop-below.invariant.next in
    let before_is = c.in_ok-columns.ensures.held ∙ (λ i. edges_of (cells_of (held_is i).facts) (held_is i).held (c.in_ok-go_to.ensures.lid i)) in
    let now_is = c.in_ok-columns.ensures.next
    ∙ (λ i. edges_of (cells_of (next_is i).facts) (next_is i).held (c.in_ok-go_to-2.ensures.lid i))
    ∙ ap (λ (f : Facts). edges_of (cells_of f) next lid) c.requires.facts in
    record {
      held = held_is;
      next = next_is;
      lids = subst (LidsUpTo cells held next (c.loop-below.below + 1) cycle after) (sym kept)
          (more_lids cells held next lid low before now before_is now_is c.loop-below.below cycle after was.items new c.loop-below.invariant.lids
          c.new-lid.ensures noted);
    }

pub returns : goal.returns
returns c =
    let cells = cells_of c.args.held.now.facts in
    let held = c.args.held.now.held in
    let next = c.args.next.now.held in
    let one = c.greatest_top.ensures in
    let other : c.greatest_top-2.result ≡ greatest_top cells next =
    c.greatest_top-2.ensures ∙ ap (λ (f : Facts). greatest_top (cells_of f) next) c.requires.facts in
    let both = c.greater.ensures in
    let end = c.number-below-end.ensures in
    all_lids cells held next c.loop-below.below c.args.cycle.now c.in_ok-after.after.items c.loop-below.lids.items c.loop-below.invariant.lids c.in_ok-after.ensures
    (omega arith) c.requires.cycle

pub returns-then-are_known : goal.returns-then-are_known
returns-then-are_known c =
    let l = c.loop-below in
    known_lids (cells_of c.args.held.now.facts) c.args.held.now.held c.args.next.now.held l.below c.args.cycle.now c.in_ok-after.after.items l.lids.items l.invariant.lids c.in_ok-after.ensures
    (sym (c.are_known.ensures ∙ ap are_known c.deref.ensures.value) ∙ c.if-are_known.true)
