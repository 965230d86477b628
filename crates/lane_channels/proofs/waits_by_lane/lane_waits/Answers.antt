-- A LID more, and all of them.
use Rattle.std.proofs.Common.{◌≡◌, ◌*◌, ◌∙◌, Bool, [], length, sym, ap, subst, arith}
use Rattle.fact_store.specs.View.{cells_of}
use Rattle.subnet_view.specs.Reading.{switches}
use Rattle.packet_walks.specs.Edges.{greatest_top}
use Rattle.packet_walks.specs.Network.{Seen}
use Rattle.audit_channels.proofs.Waiting.{some_is}
use Rattle.lane_channels.specs.AnyTables.{columns_for}
use Rattle.lane_channels.specs.LaneNetwork.{SeenByLane}
use Rattle.lane_channels.specs.Senders.{SentFor}
use Rattle.lane_channels.specs.Visit.{columns_in, walked}
use Rattle.lane_channels.specs.Walk.{AreFollowed}
use Rattle.lane_channels.proofs.LidWaits.{all_waits, more, none_so_far, some_drop}
use Rattle.lane_channels.proofs.waits_by_lane.lane_waits.Goals as goal

pub loop-below-init : goal.loop-below-init
loop-below-init c =
    let s = c.args.by_lane.now in
    let product = some_is _ c.checked_mul.result c.in_ok-count.count _ c.checked_mul.ensures c.in_ok-count.ensures.ok_part in
    let all_switches = c.switch_count.ensures ∙ ap (λ (x : Seen). length (switches (cells_of x.facts))) c.network-network.ensures in
    let count : c.in_ok-count.count ≡ 4096 * length (switches (cells_of s.seen.facts)) = omega arith in
    record {
      seen = c.in_ok-cursor.ensures.seen ∙ c.network-network.ensures;
      so_far = none_so_far s [] c.args.answers c.in_ok-count.count (walked c.in_ok-walks.walks) c.in_ok-walks.ensures count;
    }

pub loop-below-preserved : goal.loop-below-preserved
loop-below-preserved c =
    let s = c.args.by_lane.now in
    let columns = c.in_ok-columns.columns in
    let Followed = λ (x : SeenByLane) (a : Bool). AreFollowed x.said (cells_of x.seen.facts) (columns_in columns) columns.lid (SentFor x a columns.lid)
    (walked c.loop-below.walks) (walked c.follow_lid.new.walks) in
    record {
      seen = c.go_to.ensures.seen ∙ c.loop-below.invariant.seen;
      so_far =
          more s [] c.args.answers c.loop-below.below columns.lid (walked c.loop-below.walks) (walked c.follow_lid.new.walks)
          (columns_in columns) c.loop-below.invariant.so_far (c.in_ok-columns.ensures.lid ∙ c.new-lid.ensures)
          (c.in_ok-columns.ensures.columns ∙ sym (ap (columns_for s []) c.in_ok-columns.ensures.lid))
          (subst (λ (x : SeenByLane). Followed x c.args.answers) c.in_ok-columns.ensures.by_lane
          (subst (λ (a : Bool). Followed columns.by_lane.now a) c.in_ok-asked.ensures.answers c.in_ok-follow_lid.ensures));
    }

pub returns-clause-waits : goal.returns-clause-waits
returns-clause-waits c =
    let s = c.args.by_lane.now in
    let top = c.greatest_top.ensures ∙ ap (λ (x : Seen). greatest_top (cells_of x.facts) x.held) c.network-network.ensures in
    let number = c.number-below-end.ensures in
    all_waits s [] c.args.answers c.loop-below.below (walked c.loop-below.walks) c.loop-below.invariant.so_far (omega arith, tt)

pub returns-clause-dropped : goal.returns-clause-dropped
returns-clause-dropped c =
    let s = c.args.by_lane.now in
    let top = c.greatest_top.ensures ∙ ap (λ (x : Seen). greatest_top (cells_of x.facts) x.held) c.network-network.ensures in
    let number = c.number-below-end.ensures in
    some_drop s [] c.args.answers c.loop-below.below (walked c.loop-below.walks) c.loop-below.invariant.so_far (omega arith, tt)
