-- The graph has the GUIDs, which rise.
use Rattle.std.proofs.Common.{sym, subst, ◌∙◌, List, ℕ}
use Rattle.std.specs.List.Sorted.{IsStrictlyIncreasing}
use Rattle.subnet_view.specs.SwitchGraph.{IsIndexIn}
use Rattle.subnet_view.proofs.SwitchGraphs.{guids_are, rise}
use Rattle.subnet_view.proofs.switch_graph.SwitchGraph.index_of.Goals as goal

pub index_of-requires : goal.index_of-requires
index_of-requires c = subst IsStrictlyIncreasing (sym c.deref.ensures.value)
    (rise c.self.inside.guids.items c.self.inside.edges c.self.invariant c.args.self.now c.self.view_is)

pub returns : goal.returns
returns c =
    let are = guids_are c.self.inside.guids.items c.self.inside.edges c.self.invariant c.args.self.now c.self.view_is in
    subst (λ (gs : List ℕ). IsIndexIn gs c.args.switch c.index_of.result) (c.deref.ensures.value ∙ sym are) c.index_of.ensures
