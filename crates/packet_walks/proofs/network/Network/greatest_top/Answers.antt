-- That of the network's switches.
use Rattle.std.proofs.Common.{◌≡◌, ◌∙◌, List, ap, map, subst}
use Rattle.fact_store.specs.View.{cells_of}
use Rattle.lid_assign.specs.Lids.{greatest}
use Rattle.packet_walks.specs.Edges.{greatest_top}
use Rattle.packet_walks.specs.Network.{Seen}
use Rattle.held_tables.specs.declared.audited_switch.AuditedSwitch.{AuditedSwitch}
use Rattle.packet_walks.proofs.Tops.{greatest_is}
use Rattle.packet_walks.proofs.network.Network.greatest_top.Goals as goal

pub returns : goal.returns
returns c =
    let inside = c.self.inside in
    let Told : Seen → Type 0 = λ s. c.greatest_top.result ≡ greatest_top (cells_of s.facts) s.held in
    subst Told c.self.view_is
    (c.greatest_top.ensures
    ∙ ap (λ (nodes : List AuditedSwitch). greatest (map (λ (n : AuditedSwitch). n.top) nodes)) c.deref.ensures.value
    ∙ greatest_is (cells_of inside.wired.now) inside.held.now inside.nodes.items c.self.invariant.nodes_are)
