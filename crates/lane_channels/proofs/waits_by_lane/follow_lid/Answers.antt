-- A sender more, and all of them.
use Rattle.std.proofs.Common.{◌≡◌, ◌∙◌, ℕ, length, map, ap, subst, arith}
use Rattle.std.proofs.lemmas.List.{length-map}
use Rattle.fact_store.specs.View.{cells_of}
use Rattle.subnet_view.specs.EndPort.{end_ports}
use Rattle.held_tables.specs.Switches.{sender_of}
use Rattle.lane_channels.specs.Visit.{columns_in, walked, cells_at}
use Rattle.lane_channels.specs.Walk.{AreFollowed}
use Rattle.lane_channels.proofs.Senders.{SentBySome, all_senders, no_senders, one_sender}
use Rattle.lane_channels.proofs.waits_by_lane.follow_lid.Goals as goal

pub loop-index-init : goal.loop-index-init
loop-index-init c = no_senders c.args.columns.now.by_lane.now c.args.asked.now.answers (columns_in c.args.columns.now) c.args.columns.now.lid (walked c.args.walks.now)

pub loop-index-preserved : goal.loop-index-preserved
loop-index-preserved c =
    one_sender c.args.columns.now.by_lane.now c.args.asked.now.answers (columns_in c.args.columns.now) c.args.columns.now.lid (walked c.args.walks.now)
    (walked c.loop-index.walks)
    (walked c.follow_sender.new.walks) c.loop-index.index c.loop-index.invariant c.in_ok-follow_sender.ensures

pub returns : goal.returns
returns c =
    let s = c.args.columns.now.by_lane.now in
    let cells = cells_at c.args.columns.now in
    let many : length c.sources-index-end.result.now ≡ length (end_ports cells) =
    ap length c.sources-index-end.ensures
    ∙ (λ i. length (map (sender_of (cells_of (c.network.ensures i).facts)) (end_ports (cells_of (c.network.ensures i).facts))))
    ∙ length-map (end_ports cells) (sender_of cells) in
    let whole : c.loop-index.index ≡ length (end_ports cells) = omega arith in
    all_senders s c.args.asked.now.answers (columns_in c.args.columns.now) c.args.columns.now.lid (walked c.args.walks.now) (walked c.loop-index.walks)
    (walked c.loop-index.walks)
    (subst (λ (n : ℕ). AreFollowed s.said cells (columns_in c.args.columns.now) c.args.columns.now.lid
    (SentBySome s c.args.asked.now.answers c.args.columns.now.lid n)
    (walked c.args.walks.now) (walked c.loop-index.walks)) whole c.loop-index.invariant)
