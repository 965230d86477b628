-- The lines tell a topology.
use Rattle.std.proofs.Common.{List, [], sym, ap, ◌∙◌, subst}
use Rattle.std.specs.Prelude.{IsTrue, ◌↔◌}
use Rattle.topo_file.specs.declared.node.Node.{Node}
use Rattle.topo_file.specs.Topology.{GuidsDiffer}
use Rattle.topo_file.specs.Reading.{Lines, with_links}
use Rattle.topo_file.specs.ReadingLaws.{IsDraft}
use Rattle.topo_file.proofs.WellFormed.{topology_fits}
use Rattle.topo_file.proofs.topology.finish.Goals as goal

pub invariant_of-result : goal.invariant_of-result
invariant_of-result c =
    let told : Lines = record { nodes = c.draft.inside.nodes; links = c.draft.inside.links.items } in
    let is : IsDraft told = subst (λ (t : Lines). IsDraft t) (sym c.draft.view_is) c.requires in
    let links = ap (λ ats. with_links c.draft.inside.nodes [] ats) (sym c.deref.ensures.value) ∙ c.in_ok-links.ensures in
    let Says : List Node → Type 0 = λ nodes. IsTrue c.in_ok-guids_distinct.guids_distinct ↔ GuidsDiffer nodes in
    (topology_fits told c.in_ok-links.links is links, subst Says c.as_slice.ensures c.in_ok-guids_distinct.ensures)
