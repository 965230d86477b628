-- Each turn sends the first that is queued.
use Rattle.std.proofs.Common.{[], ◌∷◌, ◌++◌, sym, ap, ◌∙◌, subst, arith}
use Rattle.std.proofs.lemmas.List.{append_assoc}
use Rattle.std.specs.Prelude.{None}
use Rattle.sm_manager.specs.Manager.{requests_out}
use Rattle.sm_manager.proofs.Sending.{HasSent, sent_one}
use Rattle.sm_manager.proofs.outgoing.send_queued.Goals as goal

pub loop-packet-preserved : goal.loop-packet-preserved
loop-packet-preserved c =
    let s = c.loop-packet.sweep in
    let t = c.next_request.new.self in
    let packet = c.in-Some.packet in
    let one : HasSent s packet t = subst (HasSent s packet) (sym c.in-Some.ensures.sweep) (sent_one s packet (sym c.in-Some.ensures.packet)) in
    let inv = c.loop-packet.invariant in
    let less = one.less in
    let room = inv.1.1 in
    let len = c.push_back_reserved.ensures.len in
    let capacity = c.push_back_reserved.ensures.capacity in (
      one.all ∙ inv.0,
      (
        ap (λ xs. xs ++ requests_out t.generation t.queued) c.push_back_reserved.ensures.items
            ∙ append_assoc c.loop-packet.outgoing.items (record { packet = packet; to = None } ∷ []) (requests_out t.generation t.queued)
            ∙ ap (λ xs. c.loop-packet.outgoing.items ++ xs) (sym one.out)
            ∙ inv.1.0,
        omega (arith, less, room, len, capacity),
      ),
    )
