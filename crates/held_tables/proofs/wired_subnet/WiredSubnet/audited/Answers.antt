-- Each switch of the subnet, with what is held.
use Rattle.std.proofs.Common.{◌≡◌, ◌∙◌, ℕ, List, [], ◌∷◌, ap, map, refl, subst}
use Rattle.std.specs.Prelude.{IfOk}
use Rattle.std.proofs.lemmas.Result.{IfOk-weaker}
use Rattle.fact_store.specs.View.{Facts, cells_of}
use Rattle.subnet_view.specs.Reading.{Cells, switches}
use Rattle.held_tables.specs.Held.{HeldPlan}
use Rattle.held_tables.specs.Switches.{node_by, node_of, wired_of}
use Rattle.held_tables.proofs.wired_subnet.WiredSubnet.audited.Goals as goal

each_node : (cells : Cells) (held : HeldPlan) (guids : List ℕ) → map (node_by held) (map (wired_of cells) guids) ≡ map (node_of cells held) guids
each_node cells held [] = refl
each_node cells held (g ∷ guids) = ap (λ nodes. node_of cells held g ∷ nodes) (each_node cells held guids)

pub returns : goal.returns
returns c =
    let held = c.args.held.now in
    let cells = cells_of c.self.inside.subnet.now in
    let Found : Facts → Type 0 = λ s. IfOk c.nodes.result (λ nodes. nodes.items ≡ map (node_of (cells_of s) held) (switches (cells_of s))) in
    subst Found c.self.view_is
    (IfOk-weaker c.nodes.result _ _
    (λ nodes e. e ∙ ap (map (node_by held)) (c.deref.ensures.value ∙ c.self.invariant.wired_are) ∙ each_node cells held (switches cells))
    c.nodes.ensures)
