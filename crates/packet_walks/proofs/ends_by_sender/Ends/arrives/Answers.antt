-- The walk from its first switch comes to the port, and no other takes packets.
use Rattle.std.proofs.Common.{◌≡◌, ◌∙◌, sym, ap, subst, true}
use Rattle.std.specs.Prelude.{None, slice_index_or}
use Rattle.std.proofs.lemmas.Bool.{and_parts}
use Rattle.packet_walks.specs.EndsBySender.{Ended, comes_by}
use Rattle.packet_walks.specs.HopsByTables.{is_at}
use Rattle.packet_walks.proofs.Arrivals.{comes_there}
use Rattle.packet_walks.proofs.ends_by_sender.Ends.arrives.Goals as goal

pub returns-then-comes_there : goal.returns-then-comes_there
returns-then-comes_there c =
    let a = c.self.inside in
    let first = slice_index_or a.firsts.now c.args.index None in
    let both = sym c.comes_there.ensures ∙ c.if-comes_there.true in
    let parts = and_parts a.sole (comes_by first c.deref.result.now) both in
    let comes = sym (ap (comes_by first) c.deref.ensures.value) ∙ parts.1 in
    let There : Ended → Type 0 = λ s. true ≡ is_at s.port (slice_index_or s.ends c.args.index None) in
    subst There c.self.view_is
    (sym (comes_there a.port a.owners.items a.walks.items a.sources.now a.firsts.now a.arrive.items a.sole a.all c.args.index c.self.invariant parts.0 comes))
