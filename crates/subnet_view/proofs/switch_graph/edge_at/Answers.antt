-- A wire is an edge where it leads to one of the switches.
use Rattle.std.proofs.Common.{◌≡◌, sym, ap, ◌∙◌, subst, List, ℕ}
use Rattle.std.specs.Prelude.{Contains, Option, Some, option_map}
use Rattle.std.specs.List.Sorted.{IsStrictlyIncreasing}
use Rattle.fact_store.specs.View.{cells_of}
use Rattle.port_graph.specs.declared.edge.Edge.{Edge}
use Rattle.subnet_view.specs.Wires.{across}
use Rattle.subnet_view.specs.SwitchGraph.{by_guid, IsIndexOf}
use Rattle.subnet_view.proofs.GraphSwitches.{switches_increase}
use Rattle.subnet_view.proofs.SwitchSearch.{edge_to_index, no_edge, no_wire}
use Rattle.subnet_view.proofs.switch_graph.edge_at.Goals as goal

pub returns-in_err-far-clause-wire : goal.returns-in_err-far-clause-wire
returns-in_err-far-clause-wire c =
    ap (option_map (by_guid c.args.guids.now)) c.from_residual.ensures
    ∙ sym (no_wire (cells_of c.args.wires.now) c.args.guid c.args.port (sym c.across.ensures ∙ c.in_err-far.was))

pub index_of-requires : goal.index_of-requires
index_of-requires c = subst IsStrictlyIncreasing (sym c.requires) (switches_increase c.args.wires.now)

pub returns-in_err-to-clause-wire : goal.returns-in_err-to-clause-wire
returns-in_err-to-clause-wire c =
    let wire : across (cells_of c.args.wires.now) c.args.guid c.args.port ≡ Some (c.in_ok-far.far, c.in_ok-far.field-0-1)
    = sym c.across.ensures ∙ c.in_ok-far.was in
    let none = subst (λ (guids : List ℕ). Contains guids c.in_ok-far.far → ⊥) c.requires c.in_err-to.ensures in
    ap (option_map (by_guid c.args.guids.now)) c.from_residual-in_err-to.ensures
    ∙ sym (no_edge c.args.wires.now c.args.guid c.args.port (c.in_ok-far.far, c.in_ok-far.field-0-1) wire none)

pub returns-clause-wire : goal.returns-clause-wire
returns-clause-wire c =
    let wire : across (cells_of c.args.wires.now) c.args.guid c.args.port ≡ Some (c.in_ok-far.far, c.in_ok-far.field-0-1)
    = sym c.across.ensures ∙ c.in_ok-far.was in
    let found = subst (λ (guids : List ℕ). IsIndexOf guids c.in_ok-far.far c.in_ok-to.to) c.requires c.in_ok-to.ensures in
    let edge : List ℕ → Option Edge = λ guids. Some (by_guid guids (record { port = c.args.port; to = c.in_ok-to.to })) in
    ap edge c.requires ∙ edge_to_index c.args.wires.now c.args.guid c.args.port
    (c.in_ok-far.far, c.in_ok-far.field-0-1) wire c.in_ok-to.to found
