-- A channel more.
use Rattle.std.proofs.Common.{◌+◌, ◌∙◌, refl, sym, ap, subst}
use Rattle.fact_store.specs.View.{cells_of}
use Rattle.audit_ways.specs.declared.mean.Total.{Total}
use Rattle.audit_ways.specs.Ways.{is_to_switch}
use Rattle.audit_ways.proofs.Loads.{LoadsSoFar, none_more, one_more}
use Rattle.audit_ways.proofs.way_figures.loads_of.Goals as goal
use Rattle.audit_ways.proofs.way_figures.loads_of.Goals.{then-is_to_switch+in_ok-add, else-is_to_switch}

pub loop-channel-preserved : goal.loop-channel-preserved
loop-channel-preserved c =
    let cells = cells_of c.args.network.now.facts in
    let loads = c.args.loads.now in
    let n = c.loop-channel.channel in
    let tests = c.is_to_switch.ensures ∙ ap is_to_switch c.far.ensures in
    let SoFar = λ (t : Total). LoadsSoFar cells loads (n + 1) t in
    elim c.if-is_to_switch.branch [
      | then-is_to_switch+in_ok-add w ↦
          subst SoFar (sym w.total-is)
          (one_more cells loads n _ c.loop-channel.total w.add.new.self c.loop-channel.invariant (sym tests ∙ w.if-is_to_switch.true) refl w.in_ok-add.ensures)
      | else-is_to_switch w ↦
          subst SoFar (sym w.total-is) (none_more cells loads n c.loop-channel.total c.loop-channel.invariant (sym tests ∙ w.if-is_to_switch.false))
    ]
