use Rattle.std.proofs.Common.{◌≡◌, ◌==◌, ◌↔◌, ℕ, [], IsTrue, arith, length, subst, sym}
use Rattle.next_run.proofs.StepIs.{is_empty}
use Rattle.next_run.proofs.loop_text.StepLoop.is_none.Goals as goal

pub returns : goal.returns
returns c =
    let channels = c.args.self.now.channels in
    let long : channels.len ≡ length channels.items = omega (arith, channels.ok.0) in
    rw c.is_empty.ensures (subst (λ (n : ℕ). IsTrue (n == 0) ↔ (channels.items ≡ [])) (sym long) (is_empty channels.items))
