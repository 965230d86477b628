-- The packets are grouped by the network's edges.
use Rattle.std.proofs.Common.{◌∙◌, ap, subst}
use Rattle.std.specs.Prelude.{MatchOption, Option}
use Rattle.std.proofs.lemmas.Result.{on_ok_weaker}
use Rattle.fact_store.specs.View.{cells_of}
use Rattle.packet_walks.specs.Edges.{edges_of}
use Rattle.audit_ways.specs.declared.sender_groups.Groups.{Groups}
use Rattle.audit_ways.specs.SenderGroups.{AreGrouped, IsWithin, adapters}
use Rattle.audit_ways.specs.Ways.{AllComeTo}
use Rattle.audit_ways.proofs.Grouped.{counted_ways, delivered, is_within}
use Rattle.audit_ways.proofs.Senders.{own_there, without_own}
use Rattle.audit_ways.proofs.way_figures.add_ways.Goals as goal

pub returns-in-Some-clause-ways : goal.returns-in-Some-clause-ways
returns-in-Some-clause-ways c =
    let cells = cells_of c.args.cursor.now.seen.facts in
    let held = c.args.cursor.now.seen.held in
    let line = c.args.line.now in
    let Found = λ (o : Option Groups). MatchOption o (AllComeTo cells held line) (AreGrouped cells (delivered cells held line)) in
    let some = subst Found c.in-Some.is c.in_ok-groups.ensures in
    on_ok_weaker c.add.result
    (counted_ways cells c.args.cursor.now.seen.held c.args.line.now c.deref.result.now c.deref-in-Some.result.now c.in-Some.groups c.args.tally.now
    c.add.new.self
    (c.deref.ensures.value ∙ c.in_ok-edges.ensures ∙ ap (edges_of cells held) c.requires.lid) c.deref-in-Some.ensures.value some)
    c.add.ensures

pub leave-requires : goal.leave-requires
leave-requires c =
    own_there c.args.cursor.now.seen.facts c.args.cursor.now.seen.held c.args.line.now c.args.far.now c.requires.target c.requires.far c.args.senders.now
    c.requires.senders

pub join-requires : goal.join-requires
join-requires c =
    let cells = cells_of c.args.cursor.now.seen.facts in
    let port = c.args.line.now.port in
    subst (λ count. IsWithin count c.args.far.now) c.leave.ensures.as_many
    (is_within cells c.args.senders.now (adapters cells) c.args.far.now port.node port.port c.requires.senders c.requires.far)

pub returns-clause-ways : goal.returns-clause-ways
returns-clause-ways c =
    let facts = c.args.cursor.now.seen.facts in
    let held = c.args.cursor.now.seen.held in
    let line = c.args.line.now in
    let less = c.leave.new.self in
    let Found = λ (o : Option Groups). MatchOption o (AllComeTo (cells_of facts) held line)
    (AreGrouped (cells_of facts) (delivered (cells_of facts) held line)) in
    let all = subst Found c.in-None.is c.in_ok-groups.ensures in
    let grouped =
    without_own facts held line c.args.far.now c.requires.target c.requires.far c.args.senders.now less all c.requires.senders c.leave.ensures in
    on_ok_weaker c.join.result
    (λ back.
    counted_ways (cells_of facts) held line c.deref-2.result.now c.deref-3.result.now less c.args.tally.now c.add-2.new.self
    (c.deref-2.ensures.value ∙ c.in_ok-edges.ensures ∙ ap (edges_of (cells_of facts) held) c.requires.lid) c.deref-3.ensures.value grouped c.in_ok-add.ensures)
    c.join.ensures
