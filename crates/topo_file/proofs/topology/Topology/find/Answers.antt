-- What is no name is no node's.
use Rattle.std.proofs.Common.{◌≡◌, rules, sym, ap, ◌∙◌}
use Rattle.text_words.specs.NodeName.{name_in}
use Rattle.topo_file.specs.Topology.{id_of}
use Rattle.topo_file.proofs.Indexes.{unnamed, found_at}
use Rattle.topo_file.proofs.topology.Topology.find.Goals as goal

pub returns-in_err-new : goal.returns-in_err-new
returns-in_err-new c =
    let none = unnamed c.self.inside.nodes c.args.name.now c.self.invariant.0.nodes
    (ap name_in (sym c.as_bytes.ensures.value) ∙ sym c.new.ensures ∙ c.in_err-new.was) in
    let same = c.from_residual.ensures ∙ sym (ap (λ t. id_of t.nodes c.args.name.now) (sym c.self.view_is) ∙ none) in
    record { id = same; found = found_at c.args.self.now.nodes c.args.name.now c.from_residual.result same }

pub returns-clause-found : goal.returns-clause-found
returns-clause-found c =
    let same : c.id.result ≡ id_of c.args.self.now.nodes c.args.name.now = search rules in
    found_at c.args.self.now.nodes c.args.name.now c.id.result same
