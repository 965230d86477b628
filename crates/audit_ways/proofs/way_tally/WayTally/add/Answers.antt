-- A switch more, and the ways over one wire.
use Rattle.std.proofs.Common.{◌+◌, sym, subst}
use Rattle.audit_ways.specs.declared.way_tally.WayTally.{WayTally}
use Rattle.audit_ways.proofs.Added.{AddedSoFar, none_more, one_added, with_direct, without_direct}
use Rattle.audit_ways.proofs.way_tally.WayTally.add.Goals as goal
use Rattle.audit_ways.proofs.way_tally.WayTally.add.Goals.{then-weight-gt0+in_ok-add_from, else-weight-gt0}

pub loop-first-preserved : goal.loop-first-preserved
loop-first-preserved c =
    let edges = c.args.edges.now in
    let old = c.args.self.now in
    let weights = c.args.weights.now in
    let n = c.loop-first.first in
    let Added = λ (t : WayTally). AddedSoFar edges old weights (n + 1) t in
    elim c.if-weight-gt0.branch [
      | then-weight-gt0+in_ok-add_from w ↦
          subst Added (sym w.self-is)
          (one_added edges old weights n c.loop-first.self w.add_from.new.self c.loop-first.invariant c.loop-first-test.true w.if-weight-gt0.true
          w.in_ok-add_from.ensures)
      | else-weight-gt0 w ↦
          subst Added (sym w.self-is) (none_more edges old weights n c.loop-first.self c.loop-first.invariant c.loop-first-test.true w.if-weight-gt0.false)
    ]

pub returns-in_ok-add_direct : goal.returns-in_ok-add_direct
returns-in_ok-add_direct c =
    with_direct c.args.edges.now c.args.self.now c.args.weights.now c.loop-first.first c.loop-first.self c.add_direct.new.self c.args.direct
    c.loop-first.invariant
    c.loop-first-test.false c.if-direct-gt0.true c.in_ok-add_direct.ensures

pub returns-else-direct-gt0 : goal.returns-else-direct-gt0
returns-else-direct-gt0 c =
    without_direct c.args.edges.now c.args.self.now c.args.weights.now c.loop-first.first c.loop-first.self c.args.direct c.loop-first.invariant
    c.loop-first-test.false c.if-direct-gt0.false
