-- Dropped, or carried to the next switch.
use Rattle.std.proofs.Common.{◌<◌, ◌≤◌, ◌/◌, ◌++◌, [], ◌∷◌, ℕ, length, refl, sym, ◌∙◌, ap, arith, subst, inl, inr}
use Rattle.fact_store.specs.View.{cells_of}
use Rattle.subnet_view.specs.Reading.{switches}
use Rattle.packet_walks.specs.Network.{Seen}
use Rattle.lane_channels.specs.Stops.{HasEdge, lane_between, lane_by, lane_number, stop_at}
use Rattle.lane_channels.specs.Visit.{IsWithNexts, LeavesAlong, columns_in, walking, cells_at}
use Rattle.lane_channels.proofs.Visits.{carried_there, dropped_there, is_carried, is_not_carried}
use Rattle.lane_channels.proofs.visit.leave_along.Goals as goal

pub returns-in_default-clause-left : goal.returns-in_default-clause-left
returns-in_default-clause-left c =
    let said = c.args.columns.now.by_lane.now.said in
    let cells = cells_at c.args.columns.now in
    let columns = columns_in c.args.columns.now in
    let lane = lane_by said cells c.args.level c.args.stop c.args.edge in
    let none = sym c.lane.ensures ∙ c.in_default.is in
    let past = is_not_carried (lane_between said cells c.args.level (c.args.stop / 256) c.port_of.result c.args.edge.port) none in
    dropped_there said cells columns c.args.columns.now.lid c.args.level c.args.stop c.args.edge c.requires.edge (walking c.args.walks.now)
    (walking (record { waits = c.args.walks.now.waits; marks = c.args.walks.now.marks; dropped = c.note.new.noted; stops = c.args.walks.now.stops }))
    (record { lid = c.args.columns.now.lid; level = c.args.level; stop = c.args.stop; out = c.args.edge.port })
    (subst (λ (p : ℕ). 15 ≤ lane_between said cells c.args.level (c.args.stop / 256) p c.args.edge.port) c.port_of.ensures past)
    refl refl refl c.note.ensures

pub returns-in_ok-push-clause-left : goal.returns-in_ok-push-clause-left
returns-in_ok-push-clause-left c =
    let said = c.args.columns.now.by_lane.now.said in
    let cells = cells_at c.args.columns.now in
    let columns = columns_in c.args.columns.now in
    let edge = c.args.edge in
    let old = c.args.walks.now in
    let lane : ℕ → ℕ = λ p. lane_between said cells c.args.level (c.args.stop / 256) p edge.port in
    let carries = is_carried (lane c.port_of.result) c.in-Some.lane (sym c.lane.ensures ∙ c.in-Some.is) in
    let many = c.switch_count.ensures ∙ ap (λ (x : Seen). length (switches (cells_of x.facts))) c.network.ensures in
    let less = c.if-to-switch_count.true in
    carried_there said cells columns c.args.columns.now.lid c.args.level c.args.stop edge c.requires.edge (walking old)
    (walking (record { waits = c.record.new.waits; marks = old.marks; dropped = old.dropped; stops = c.push.new.self })) c.lane_number-channel.result
    (subst (λ p. lane p < 15) c.port_of.ensures carries.1)
    (c.lane_number-channel.ensures.is ∙ ap (lane_number (c.args.stop / 256) edge.port) (carries.0 ∙ ap lane c.port_of.ensures))
    (subst (λ into. IsWithNexts old.waits c.lane_number-channel.result (LeavesAlong said cells (HasEdge columns edge.to) c.args.level edge.to into)
    c.record.new.waits)
    c.port_across-into_there.ensures c.in_ok-record.ensures)
    refl
    (inl (
      omega arith,
      c.in_ok-push.ensures.items ∙ ap (λ s. old.stops.items ++ s ∷ []) (c.stop_at.ensures ∙ ap (stop_at edge.to) c.port_across-into_there.ensures),
    ))

pub returns-else-to-switch_count-clause-left : goal.returns-else-to-switch_count-clause-left
returns-else-to-switch_count-clause-left c =
    let said = c.args.columns.now.by_lane.now.said in
    let cells = cells_at c.args.columns.now in
    let columns = columns_in c.args.columns.now in
    let edge = c.args.edge in
    let old = c.args.walks.now in
    let lane : ℕ → ℕ = λ p. lane_between said cells c.args.level (c.args.stop / 256) p edge.port in
    let carries = is_carried (lane c.port_of.result) c.in-Some.lane (sym c.lane.ensures ∙ c.in-Some.is) in
    let many = c.switch_count.ensures ∙ ap (λ (x : Seen). length (switches (cells_of x.facts))) c.network.ensures in
    let past = c.if-to-switch_count.false in
    carried_there said cells columns c.args.columns.now.lid c.args.level c.args.stop edge c.requires.edge (walking old)
    (walking (record { waits = c.record.new.waits; marks = old.marks; dropped = old.dropped; stops = old.stops })) c.lane_number-channel.result
    (subst (λ p. lane p < 15) c.port_of.ensures carries.1)
    (c.lane_number-channel.ensures.is ∙ ap (lane_number (c.args.stop / 256) edge.port) (carries.0 ∙ ap lane c.port_of.ensures))
    (subst (λ into. IsWithNexts old.waits c.lane_number-channel.result (LeavesAlong said cells (HasEdge columns edge.to) c.args.level edge.to into)
    c.record.new.waits)
    c.port_across-into_there.ensures c.in_ok-record.ensures)
    refl (inr (omega arith, refl))
