-- A LID more.
use Rattle.std.proofs.Common.{◌≡◌, ◌+◌, ◌*◌, ◌∙◌, List, ap, get_or, length, sym, subst, true}
use Rattle.std.proofs.lemmas.Option.{slice_get_read}
use Rattle.fact_store.specs.View.{cells_of}
use Rattle.std.specs.List.{sum_by}
use Rattle.subnet_view.specs.Reading.{switches}
use Rattle.held_tables.specs.Switches.{far_of}
use Rattle.held_tables.specs.Tables.{lines_of}
use Rattle.held_tables.specs.declared.senders.Sender.{Sender}
use Rattle.packet_walks.specs.Network.{Seen}
use Rattle.audit_ways.specs.declared.sender_groups.Groups.{Groups}
use Rattle.audit_ways.specs.declared.way_tally.WayTally.{WayTally}
use Rattle.audit_ways.specs.WayTally.{IsCountedMore}
use Rattle.audit_ways.specs.SenderGroups.{AreGrouped, IsRoster, adapters}
use Rattle.audit_ways.specs.Ways.{AllComeTo, is_target, ways_to}
use Rattle.audit_ways.proofs.Rosters.{a_target, no_target}
use Rattle.audit_ways.proofs.Surveyed.{AreSurveyed, all_surveyed, line_surveyed, line_passed}
use Rattle.audit_ways.proofs.way_figures.tally_of.Goals as goal
use Rattle.audit_ways.proofs.way_figures.tally_of.Goals.{in-Some+in_ok-go_to+in_ok-add_ways, in_default}

pub add_ways-requires-clause-target : goal.add_ways-requires-clause-target
add_ways-requires-clause-target c =
    let cells = cells_of c.args.network.now.facts in
    let port = c.line-item.result.port in
    let seen = c.go_to.ensures.seen ∙ c.loop-index.invariant.seen in
    let roster = subst (λ (ss : List Sender). IsRoster cells ss) (sym c.deref.ensures.value) c.in_ok-roster.ensures in
    subst (λ (s : Seen). is_target (cells_of s.facts) port ≡ true) (sym seen)
    (a_target cells c.deref.result.now port roster c.in-Some.far c.in-Some.ensures).0

pub add_ways-requires-clause-far : goal.add_ways-requires-clause-far
add_ways-requires-clause-far c =
    let cells = cells_of c.args.network.now.facts in
    let port = c.line-item.result.port in
    let seen = c.go_to.ensures.seen ∙ c.loop-index.invariant.seen in
    let roster = subst (λ (ss : List Sender). IsRoster cells ss) (sym c.deref.ensures.value) c.in_ok-roster.ensures in
    (a_target cells c.deref.result.now port roster c.in-Some.far c.in-Some.ensures).1
    ∙ ap (λ (s : Seen). far_of (cells_of s.facts) port.node port.port) (sym seen)

pub add_ways-requires-clause-told : goal.add_ways-requires-clause-told
add_ways-requires-clause-told c = λ told.
    let lines = c.lids-line-items.result.now in
    let index = c.loop-index.index in
    let line = c.line-item.result in
    let seen = c.go_to.ensures.seen ∙ c.loop-index.invariant.seen in
    subst (λ (s : Seen). AllComeTo (cells_of s.facts) s.held line) (sym seen)
    (c.requires index line
    (slice_get_read (lines_of c.args.network.now.held) (length lines) index line (ap length c.lids-line-items.ensures) c.loop-index-test.true
    (c.line-item.is ∙ ap (λ xs. get_or xs index line) c.lids-line-items.ensures))
    (sym c.is_told-told.ensures ∙ told))

pub loop-index-preserved : goal.loop-index-preserved
loop-index-preserved c =
    let cells = cells_of c.args.network.now.facts in
    let held = c.args.network.now.held in
    let lines = c.lids-line-items.result.now in
    let line = c.line-item.result in
    let n = c.loop-index.index in
    let before = c.loop-index.invariant.surveyed in
    let roster = subst (λ (ss : List Sender). IsRoster cells ss) (sym c.deref.ensures.value) c.in_ok-roster.ensures in
    let Surveyed = λ (t : WayTally). AreSurveyed cells held lines (n + 1) t in
    let Grouped = λ (g : Groups). AreGrouped cells (adapters cells) g in
    elim c.match-target_among.branch [
      | in-Some+in_ok-go_to+in_ok-add_ways w ↦
          let seen = w.go_to.ensures.seen ∙ c.loop-index.invariant.seen in
          record {
            seen = ap (λ a. a.seen) w.cursor-is ∙ seen;
            surveyed = subst Surveyed (sym w.tally-is)
                (line_surveyed cells held lines n line c.loop-index.tally w.add_ways.new.tally before c.loop-index-test.true c.line-item.is
                (a_target cells c.deref.result.now line.port roster w.in-Some.far w.in-Some.ensures).0
                (subst (λ (s : Seen). IsCountedMore (256 * length (switches (cells_of s.facts))) c.loop-index.tally
                (λ f. sum_by f (ways_to (cells_of s.facts) s.held line)) w.add_ways.new.tally) seen w.in_ok-add_ways.ensures.ways));
            grouped = subst Grouped (sym w.senders-is)
                (subst (λ (s : Seen). AreGrouped (cells_of s.facts) (adapters (cells_of s.facts)) w.add_ways.new.senders) seen w.in_ok-add_ways.ensures.senders);
          }
      | in_default w ↦ record {
        seen = ap (λ a. a.seen) w.cursor-is ∙ c.loop-index.invariant.seen;
        surveyed = subst Surveyed (sym w.tally-is)
            (line_passed cells held lines n line c.loop-index.tally before c.loop-index-test.true c.line-item.is
            (no_target cells c.deref.result.now line.port roster c.target_among.result c.target_among.ensures w.in_default.not-Some));
        grouped = subst Grouped (sym w.senders-is) c.loop-index.invariant.grouped;
      }
    ]

pub returns : goal.returns
returns c =
    all_surveyed (cells_of c.args.network.now.facts) c.args.network.now.held c.lids-line-items.result.now c.loop-index.index c.loop-index.tally
    c.loop-index.invariant.surveyed c.lids-line-items.ensures c.loop-index-test.false
