-- Packets of a level of their own, and answers.
use Rattle.std.proofs.Common.{◌≡◌, ◌∙◌, ℕ, List, Vec, true, ap, map, sym, subst}
use Rattle.std.specs.Prelude.{Option, Some, slice_get}
use Rattle.std.proofs.lemmas.Result.{on_ok_weaker}
use Rattle.fact_store.specs.View.{cells_of}
use Rattle.subnet_view.specs.declared.end_port.EndPort.{EndPort}
use Rattle.subnet_view.specs.EndPort.{end_ports}
use Rattle.held_tables.specs.Switches.{sender_of}
use Rattle.held_tables.specs.Tables.{owners_of}
use Rattle.lanes_file.specs.Lanes.{LanesSaid, level_of}
use Rattle.std.specs.declared.alloc.Global.{Global}
use Rattle.lane_channels.specs.LaneNetwork.{lists_of}
use Rattle.lane_channels.specs.Levels.{lids_held}
use Rattle.lane_channels.specs.Senders.{AnswersTo}
use Rattle.lane_channels.specs.Stops.{first_stop}
use Rattle.lane_channels.specs.Visit.{columns_in, walked, cells_at}
use Rattle.lane_channels.specs.Walk.{AreFollowed, BeginsIf}
use Rattle.packet_walks.specs.Network.{Seen}
use Rattle.lane_channels.proofs.Senders.{map_of_there, no_answers, port_there, with_answers}
use Rattle.lane_channels.proofs.waits_by_lane.follow_sender.Goals as goal

pub returns-then-not-asked : goal.returns-then-not-asked
returns-then-not-asked c =
    let s = c.args.columns.now.by_lane.now in
    let cells = cells_at c.args.columns.now in
    let lid = c.args.columns.now.lid in
    let source = c.port_at-port.result.now in
    let senders = c.sources.ensures ∙ ap (λ (x : Seen). map (sender_of (cells_of x.facts)) (end_ports (cells_of x.facts))) c.network.ensures in
    let source_is : slice_get (end_ports cells) c.args.index ≡ Some source =
    port_there cells c.sources.result.now c.args.index source senders c.port_at-port.ensures in
    let firsts = ap (λ (xs : List (Option ℕ)). slice_get xs c.args.index) (sym c.firsts.ensures) ∙ c.first_at-first.ensures in
    let first_is = map_of_there (first_stop cells) (end_ports cells) c.args.index source c.first_at-first.result source_is firsts in
    let level_is : c.level_from-level.result ≡ level_of s.said source.node source.port lid =
    c.level_from-level.ensures.is ∙ ap (λ (x : LanesSaid). level_of x source.node source.port lid) c.lanes.ensures in
    let own =
    subst (λ (o : Option ℕ). AreFollowed s.said cells (columns_in c.args.columns.now) lid (BeginsIf o c.first_at-first.result) (walked c.args.walks.now)
    (walked c.walk_at_level.new.walks)) level_is c.in_ok-walk_at_level.ensures in
    no_answers s c.args.asked.now.answers (columns_in c.args.columns.now) lid (walked c.args.walks.now) (walked c.walk_at_level.new.walks)
    (walked c.walk_at_level.new.walks) c.args.index source c.first_at-first.result source_is first_is c.if-not-asked.true own

pub returns : goal.returns
returns c =
    let s = c.args.columns.now.by_lane.now in
    let cells = cells_at c.args.columns.now in
    let lid = c.args.columns.now.lid in
    let source = c.port_at-port.result.now in
    let first = c.first_at-first.result in
    let senders = c.sources.ensures ∙ ap (λ (x : Seen). map (sender_of (cells_of x.facts)) (end_ports (cells_of x.facts))) c.network.ensures in
    let source_is : slice_get (end_ports cells) c.args.index ≡ Some source =
    port_there cells c.sources.result.now c.args.index source senders c.port_at-port.ensures in
    let firsts = ap (λ (xs : List (Option ℕ)). slice_get xs c.args.index) (sym c.firsts.ensures) ∙ c.first_at-first.ensures in
    let first_is = map_of_there (first_stop cells) (end_ports cells) c.args.index source first source_is firsts in
    let level_is : c.level_from-level.result ≡ level_of s.said source.node source.port lid =
    c.level_from-level.ensures.is ∙ ap (λ (x : LanesSaid). level_of x source.node source.port lid) c.lanes.ensures in
    let own =
    subst (λ (o : Option ℕ). AreFollowed s.said cells (columns_in c.args.columns.now) lid (BeginsIf o first) (walked c.args.walks.now)
    (walked c.walk_at_level.new.walks)) level_is c.in_ok-walk_at_level.ensures in
    let answered : c.args.asked.now.answers ≡ true = c.if-not-asked.false in
    let held =
    ap (λ (xs : List (List ℕ)). slice_get xs c.args.index) (sym (c.requires.asked answered))
    ∙ ap (λ (xs : List (Vec ℕ Global)). slice_get (lists_of xs) c.args.index) (sym c.deref.ensures.value) ∙ c.lids_at-lids.ensures in
    let lids_are = map_of_there (lids_held s.seen.held) (end_ports cells) c.args.index source c.lids_at-lids.result.now source_is held in
    on_ok_weaker c.follow_answers.result
    (λ h. with_answers s c.args.asked.now.answers (columns_in c.args.columns.now) lid (walked c.args.walks.now) (walked c.walk_at_level.new.walks)
    (walked c.follow_answers.new.walks) c.args.index source first source_is first_is c.if-not-asked.false own
    (subst (λ (xs : List ℕ). AreFollowed s.said cells (columns_in c.args.columns.now) lid (AnswersTo s.said (owners_of s.seen.held lid) xs first)
    (walked c.walk_at_level.new.walks) (walked c.follow_answers.new.walks)) lids_are
    (subst (λ (os : List EndPort). AreFollowed s.said cells (columns_in c.args.columns.now) lid (AnswersTo s.said os c.lids_at-lids.result.now first)
    (walked c.walk_at_level.new.walks) (walked c.follow_answers.new.walks)) c.requires.owners h)))
    c.follow_answers.ensures
