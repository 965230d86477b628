-- A packet is handled as its bytes say.
use Rattle.std.proofs.Common.{◌≡◌, ℕ, List, None, sym, ap, ◌∙◌}
use Rattle.std.specs.Prelude.{Option}
use Rattle.smp_bytes.specs.Packet.{fault_of}
use Rattle.sm_manager.specs.Manager.{Manager}
use Rattle.sm_manager.specs.Packets.{Called, after_packet, packet_taken}
use Rattle.sm_manager.proofs.manager.Manager.on_packet.Goals as goal

taken : (m : Manager) (bytes packet : List ℕ) (from : Option ℕ) → packet ≡ bytes → fault_of bytes ≡ None → packet_taken m packet from None
    ≡ after_packet m bytes from
taken m bytes packet from same none = ap (λ p. packet_taken m p from None) same ∙ ap (packet_taken m bytes from) (sym none)

pub returns-in-Ok-take-clause-judged : goal.returns-in-Ok-take-clause-judged
returns-in-Ok-take-clause-judged c =
    ap (λ (x : Called). x.fault)
    (sym (taken c.args.self.now c.args.bytes.now c.in-Ok.smp c.args.from c.in-Ok.ensures.kept c.in-Ok.ensures.judged))
    ∙ c.in-Ok-take.ensures.judged

pub returns-in-Ok-take-clause-ok : goal.returns-in-Ok-take-clause-ok
returns-in-Ok-take-clause-ok c =
    c.in-Ok-take.ensures.ok
    ∙ ap (λ (x : Called). x.manager) (taken c.args.self.now c.args.bytes.now c.in-Ok.smp c.args.from c.in-Ok.ensures.kept c.in-Ok.ensures.judged)

pub returns-in-Err-take-clause-judged : goal.returns-in-Err-take-clause-judged
returns-in-Err-take-clause-judged c =
    ap (λ (x : Called). x.fault)
    (sym (taken c.args.self.now c.args.bytes.now c.in-Ok.smp c.args.from c.in-Ok.ensures.kept c.in-Ok.ensures.judged))
    ∙ c.in-Err-take.ensures.judged
