-- By the cycle.
use Rattle.std.proofs.Common.{◌≡◌, ◌∙◌, ap, subst, arith, length}
use Rattle.std.specs.Prelude.{IsTrue, ◌↔◌, ◌==◌}
use Rattle.std.specs.Vec.{vec_len}
use Rattle.fact_store.specs.View.{cells_of}
use Rattle.audit_report.specs.Passing.{Audited}
use Rattle.audit_channels.specs.ChannelOrders.{CanRise}
use Rattle.audit_channels.specs.Waiting.{WaitsFor}
use Rattle.audit_report.proofs.Judged.{rise_is}
use Rattle.audit_report.proofs.findings.Audit.can_rise.Goals as goal

pub returns : goal.returns
returns c =
    let a = c.self.inside in
    let f = a.findings in
    let b = c.is_empty.result in
    let Judges = λ (x : Audited). IsTrue b ↔ CanRise (WaitsFor (cells_of x.facts) x.held) in
    let long : vec_len f.cycle ≡ length f.cycle.items = omega (arith, f.cycle.ok.0) in
    subst Judges c.self.view_is
    (rise_is (WaitsFor (cells_of a.network.facts) a.network.held) f.cycle.items b c.self.invariant.waits (c.is_empty.ensures ∙ ap (λ n. n == 0) long))
