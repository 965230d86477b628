-- There are both.
use Rattle.std.proofs.Common.{◌≡◌, ◌∙◌, List, ℕ, Some, ap, rules, sym}
use Rattle.fact_store.specs.View.{Facts, cells_of}
use Rattle.attr_codec.specs.declared.sm_info.SmInfo.{SmInfo}
use Rattle.sm_manager.specs.Manager.{swept_of}
use Rattle.sa_answers.specs.Reply.{answer_to}
use Rattle.acting_manager.specs.Acting.{value_of}
use Rattle.acting_manager.proofs.Administering.{told_is}
use Rattle.acting_manager.proofs.acting_manager.ActingManager.answer_by.Goals as goal

pub returns : goal.returns
returns c =
    let m = (value_of c.args.self.now).manager in
    let request = c.args.request.now in
    let s = c.in-Some.sweep.now in
    let plan = c.in-Some-kept.plan in
    let swept : swept_of m.sweep ≡ Some s = search rules in
    let kept : (value_of c.args.self.now).kept ≡ Some plan = search rules in
    let answered : c.answer_of.result ≡ answer_to (record { cells = cells_of m.store; plan = plan; images = s.images.ports; own = m.standing.guid; multicast = m.planning.multicast }) request =
    c.answer_of.ensures ∙ (λ i. answer_to (record { cells = cells_of (c.store.ensures i); plan = plan; images = s.images.ports; own = (ap (λ (x : SmInfo). x.guid) c.info.ensures) i; multicast = c.multicast.ensures i }) request) in
    ap (λ (x : List ℕ). Some x) answered ∙ sym (told_is (λ told. answer_to told request) m (swept_of m.sweep) (value_of c.args.self.now).kept s plan swept kept)
