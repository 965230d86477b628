-- A channel more.
use Rattle.std.proofs.Common.{◌<◌, ◌+◌, ◌∙◌, ℕ, sym, ap, arith, length, get_or, set}
use Rattle.audit_channels.specs.Column.{number_of}
use Rattle.audit_channels.proofs.Columns.{within}
use Rattle.audit_ways.proofs.Walked.{one_taken}
use Rattle.audit_ways.proofs.channel_loads.load_channels.Goals as goal

pub loop-taken-preserved : goal.loop-taken-preserved
loop-taken-preserved c =
    let edges = c.args.edges.now in
    let now = c.loop-taken.loads in
    let switch = c.loop-taken.switch in
    let edge = c.in-Some.edge in
    let there = within edges switch edge (sym c.in-Some.ensures) in
    let less : number_of switch edge < length now =
    omega (arith, there, c.number_of.ensures.is, c.number_of.ensures.within, c.loop-taken.invariant.as_many, c.requires.channels) in
    one_taken edges c.args.loads.now c.args.first c.args.times c.loop-taken.taken switch now c.load_channel.new.loads edge c.loop-taken.invariant
    c.loop-taken-test.true
    (sym c.in-Some.ensures) less
    (c.in_ok-load_channel-in-Some.ensures ∙ ap (λ (k : ℕ). set now k (get_or now k 0 + c.args.times)) c.number_of.ensures.is)
