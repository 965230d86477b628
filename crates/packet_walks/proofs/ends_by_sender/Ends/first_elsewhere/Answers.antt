-- All come to the port.
use Rattle.std.proofs.Common.{◌≡◌, length, ap, subst, arith}
use Rattle.std.specs.Prelude.{None, Option, map, not, position}
use Rattle.std.proofs.lemmas.List.{length-map}
use Rattle.packet_walks.specs.declared.packet_end.End.{End}
use Rattle.packet_walks.specs.EndsBySender.{Ended, end_from}
use Rattle.packet_walks.specs.HopsByTables.{is_at}
use Rattle.packet_walks.proofs.Arrivals.{all_comes, nowhere}
use Rattle.packet_walks.proofs.ends_by_sender.Ends.first_elsewhere.Goals as goal

pub returns-then-self : goal.returns-then-self
returns-then-self c =
    let a = c.self.inside in
    let owners = a.owners.items in
    let walks = a.walks.items in
    let sources = a.sources.now in
    let ends = map (end_from owners walks) sources in
    let long : length ends ≡ length sources = length-map sources (end_from owners walks) in
    let None_is : Ended → Type 0 = λ s. None ≡ position (λ (end : Option End). not (is_at s.port end)) s.ends in
    subst None_is c.self.view_is
    (nowhere (λ (end : Option End). not (is_at a.port end)) ends None (length ends) (omega arith)
    (λ k less. ap not (all_comes a.port owners walks sources a.firsts.now a.arrive.items a.sole a.all c.self.invariant c.if-self.true k (omega arith))))
