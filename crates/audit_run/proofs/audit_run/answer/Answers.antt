-- What was found of the facts, the tables and the lanes is written and told.
use Rattle.std.proofs.Common.{◌≡◌, ◌∙◌, ◌++◌, ℕ, List, subst, sym}
use Rattle.std.proofs.lemmas.Result.{IfOk-weaker}
use Rattle.std.specs.Io.KnownBytes.{Appends}
use Rattle.fact_store.specs.View.{Facts, cells_of}
use Rattle.held_tables.specs.Held.{HeldPlan}
use Rattle.audit_channels.specs.ChannelOrders.{IsCycleIfAny, NoneShorter}
use Rattle.audit_channels.specs.Waiting.{WaitsFor}
use Rattle.audit_report.specs.Appendix.{appendix_text, shown}
use Rattle.audit_report.specs.AuditText.{findings_text}
use Rattle.audit_report.specs.LineLimit.{most_lines}
use Rattle.audit_report.specs.Passing.{Audited}
use Rattle.audit_run.specs.declared.flaw.Flaw.{Flaw}
use Rattle.audit_run.specs.AuditRun.{AreFlaws, AreFoundByLane, IsFoundFree, IsFree, loops_text}
use Rattle.audit_run.specs.VerdictText.{verdict_line}
use Rattle.audit_run.proofs.Judged.{flaws_are, judged}
use Rattle.audit_run.proofs.audit_run.answer.Goals as goal

pub tell-requires : goal.tell-requires
tell-requires g c =
    let Shows = λ (f : Facts) (h : HeldPlan). shown (cells_of f) h c.in_ok-appendix.appendix ≡ appendix_text c.args.asked.now (cells_of f) h in
    subst (λ (f : Facts). Shows f c.in_ok-audit.audit.held) c.network.ensures.facts
    (subst (λ (h : HeldPlan). Shows c.network.result.now.facts h) c.network.ensures.held c.in_ok-appendix.ensures)

pub returns-clause-audited : goal.returns-clause-audited
returns-clause-audited g c =
    let asked = c.args.asked.now in
    let told = c.args.told.now in
    let facts = told.read.store in
    let held = told.read.held in
    let audit = c.in_ok-audit.audit in
    let found = c.in_ok-found.found in
    let subnet_is = c.in_ok-wired.ensures ∙ c.in_ok-subnet.ensures in
    let audit_is = c.in_ok-audit.ensures in
    let written = g.W.Sink.written in
    let same : ◌≡◌ {A = Audited} audit (record { most = most_lines asked.all; facts = facts; held = held; cycle = audit.cycle }) =
    λ i. record { most = (audit_is.most ∙ c.most_lines-most.ensures) i; facts = (audit_is.facts ∙ subnet_is) i; held = audit_is.held i; cycle = audit.cycle } in
    let right : AreFoundByLane (most_lines asked.all) facts held told.text found =
    subst (λ (x : Audited). AreFoundByLane x.most x.facts x.held told.text found) same
    (subst (λ (most : ℕ). AreFoundByLane most audit.facts audit.held told.text found) (sym audit_is.most) c.in_ok-found.ensures) in
    let are = λ (flaws : List Flaw) (found_flaws : AreFlaws (IsFoundFree asked.max_load audit.facts audit.held found) flaws).
    flaws_are asked.max_load (most_lines asked.all) facts held told.text found flaws right
    (subst (λ (x : Audited). AreFlaws (IsFoundFree asked.max_load x.facts x.held found) flaws) same found_flaws) in
    IfOk-weaker c.tell.result _ _ (λ passed says. record {
      cycle = audit.cycle;
      waits = subst (λ (f : Facts). IsCycleIfAny (WaitsFor (cells_of f) held) audit.cycle) subnet_is audit_is.cycle;
      shortest = subst (λ (f : Facts). NoneShorter (WaitsFor (cells_of f) held) audit.cycle) subnet_is audit_is.shortest;
      found = found;
      by_lane = right;
      flaws = says.flaws;
      are_flaws = are says.flaws says.are;
      flawless = says.flawless;
      answered = subst (λ (x : Audited). Appends (written c.args.sink.now) (written c.tell.new.sink)
          (findings_text x.most (cells_of x.facts) x.held ++ loops_text (cells_of x.facts) x.cycle found
          ++ appendix_text asked (cells_of x.facts) x.held ++ verdict_line says.flaws)) same says.printed;
      judged = judged asked.max_load facts held told.text says.flaws passed (are says.flaws says.are) says.flawless;
    }) c.tell.ensures.told
