-- A channel more, and the last one.
use Rattle.std.proofs.Common.{◌∙◌, ◌++◌, ◌∷◌, [], ℕ, sym, ap, subst}
use Rattle.audit_ways.proofs.PacketWays.{AreListed, ended_at, one_channel_more}
use Rattle.audit_ways.proofs.packet_way.channels_from.Goals as goal

pub returns-in-None : goal.returns-in-None
returns-in-None c =
    ended_at c.args.edges.now c.args.first c.loop.counter c.loop.switch c.loop.channels.items c.loop.invariant (sym c.in-None.ensures)

pub loop-preserved : goal.loop-preserved
loop-preserved c =
    let edges = c.args.edges.now in
    subst (AreListed edges c.args.first _ _) (ap (λ (n : ℕ). c.loop.channels.items ++ n ∷ []) (sym c.in_ok-channel_of-in-Some.ensures) ∙ sym c.in_ok-push-in-Some.ensures.items)
    (one_channel_more edges c.args.first c.loop.counter c.loop.switch c.in-Some.edge c.loop.channels.items c.loop.invariant c.loop-test.true (sym c.in-Some.ensures))
