use Rattle.std.proofs.Common.{sym, ap, ◌∙◌, length}
use Rattle.std.specs.Prelude.{filter, not}
use Rattle.spread_labels.specs.Orders.{numbers_from}
use Rattle.trial_loads.specs.TrialLoads.{Packets, candidates_in, goes_up, last_first, shared}
use Rattle.trial_loads.proofs.Packets.{shared_both}
use Rattle.trial_loads.proofs.shared_loads.add_packets_to.Goals as goal

pub returns : goal.returns
returns c =
    let towards = candidates_in c.args.ways.now.graph.now c.args.ways.now.sets.now c.args.k in
    let n = length c.args.ways.now.graph.now in
    let ups = filter (goes_up towards) (last_first n) in
    let downs = filter (λ s. not (goes_up towards s)) (numbers_from 0 n) in
    let first : Packets = record { had = c.args.had.now; carried = c.args.loads.now } in
    ap (λ (packets : Packets). packets.carried) (
    c.share_down.ensures ∙ ap (shared towards downs) c.share_up.ensures ∙ sym (shared_both towards ups downs first)
    )
