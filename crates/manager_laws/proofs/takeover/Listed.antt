-- The switches of a part of a fabric are those of the plan of facts that agree with it.
use Rattle.std.proofs.Common.{◌≡◌, ℕ, ap, ◌∙◌}
use Rattle.std.specs.Prelude.{Some, is_some}
use Rattle.smp_bytes.specs.declared.node_type.NodeType.TheVariants.{Switch}
use Rattle.fact_store.specs.View.{Facts, cells_of}
use Rattle.fabric_sim.specs.Simulation.{Simulation, fabric_of}
use Rattle.reply_facts.specs.Known as values
use Rattle.subnet_view.specs.FabricAgreement.{Part, AgreesOn}
use Rattle.subnet_view.proofs.UsableSwitches.{switches_law}
use Rattle.lft_blocks.specs.Rule.{RuleValue}
use Rattle.lft_blocks.specs.Plan.{plan_of}
use Rattle.manager_laws.proofs.Planned.{switch_is, to_switches}
use Rattle.manager_laws.proofs.takeover.HeldOn.{AreListed}

pub are_listed : (rule : RuleValue) (lmc : ℕ) (facts : Facts) (start : Simulation) (part : Part) → AgreesOn part (cells_of facts) (fabric_of start)
    → AreListed start (plan_of rule lmc (cells_of facts)) part
are_listed rule lmc facts start part agrees port node end switch =
    let tells = agrees.tells_end_ports port node end in
    let kind : values.node_of (cells_of facts) node.guid ≡ Some (Switch, node.ports) =
    tells.kind ∙ ap (λ k. Some (k, node.ports)) (switch_is node.kind switch) in
    to_switches rule lmc facts node.guid (((switches_law facts).0 node.guid).1 (node.ports, kind, ap is_some (tells.cap switch)))
