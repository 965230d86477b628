-- In a connected fabric what an end port is joined to is all of it, so every packet arrives.
use Rattle.std.specs.Prelude.{ℕ}
use Rattle.fact_store.specs.View.{cells_of}
use Rattle.fabric_model.specs.declared.cable.NodePort.{NodePort}
use Rattle.fabric_model.specs.Fabric.{Node, Fabric, IsFabric, IsEndPort}
use Rattle.fabric_model.specs.FabricWalks.{IsJoinedTo, IsConnected, vertex_of}
use Rattle.fabric_model.proofs.FabricWalks.{vertex_is_end}
use Rattle.subnet_view.specs.Reading.{Cells}
use Rattle.subnet_view.specs.FabricAgreement.{WholeFabric, IsEndPortIn, HasEndPort, HasWire, AgreesOn}
use Rattle.lft_blocks.specs.Plan.{PlanValue, plan_of}
use Rattle.lft_blocks.specs.Arrival.{PacketsArriveIfConnected}
use Rattle.lft_blocks.specs.InForce.{HoldsPlan, IsInForce}
use Rattle.lft_blocks.proofs.Reached.{every_packet_arrives}

module _ (f : Fabric) (origin : NodePort) (fab : IsFabric f) (connected : IsConnected f) (is_end : IsEndPort f origin) where
  -- an end port of the part is one of the whole
  whole_end : (port : NodePort) (node : Node) → IsEndPortIn (IsJoinedTo f origin) f port node → IsEndPortIn WholeFabric f port node
  whole_end port node here = record { node_there = here.node_there; end_port = here.end_port; in_part = tt }

  part_has : (g p : ℕ) → HasEndPort WholeFabric f g p → HasEndPort (IsJoinedTo f origin) f g p
  part_has g p it = record { port = it.port; named = it.named; end_port = it.end_port; in_part = connected origin it.port is_end it.end_port }

  part_wire : (g p h q : ℕ) → HasWire WholeFabric f g p h q → HasWire (IsJoinedTo f origin) f g p h q
  part_wire g p h q w =
      record {
        from = w.from;
        to = w.to;
        from_named = w.from_named;
        to_named = w.to_named;
        wire = w.wire;
        in_part = connected origin (vertex_of f w.from) is_end (vertex_is_end f w.from (fab.cabled w.from w.to w.wire.cable));
      }

  whole_wire : (g p h q : ℕ) → HasWire (IsJoinedTo f origin) f g p h q → HasWire WholeFabric f g p h q
  whole_wire g p h q w = record { from = w.from; to = w.to; from_named = w.from_named; to_named = w.to_named; wire = w.wire; in_part = tt }

  agrees_on_part : (cells : Cells) → AgreesOn WholeFabric cells f → AgreesOn (IsJoinedTo f origin) cells f
  agrees_on_part cells whole =
      record {
        guids_distinct = λ p q a b at_p at_q e. whole.guids_distinct p q a b (whole_end p a at_p) (whole_end q b at_q) e;
        tells_end_ports = λ port node here. whole.tells_end_ports port node (whole_end port node here);
        end_ports_exist = λ g p h. part_has g p (whole.end_ports_exist g p h);
        switches_exist = λ g h. part_has g 0 (whole.switches_exist g h);
        wires = λ g p h q. (λ w. part_wire g p h q ((whole.wires g p h q).0 w), λ w. (whole.wires g p h q).1 (whole_wire g p h q w));
      }

  holds_on_part : (plan : PlanValue) → HoldsPlan WholeFabric plan f → HoldsPlan (IsJoinedTo f origin) plan f
  holds_on_part plan whole port node here = whole port node (whole_end port node here)

  pub in_force_on_part : (cells : Cells) (plan : PlanValue) → IsInForce WholeFabric cells plan f → IsInForce (IsJoinedTo f origin) cells plan f
  in_force_on_part cells plan whole =
      record { is_fabric = fab; agrees = agrees_on_part cells whole.agrees; holds = holds_on_part plan whole.holds }

pub packets_arrive_if_connected : PacketsArriveIfConnected
packets_arrive_if_connected rule lmc facts has_room f connected in_force source is_end lid owner owned =
    let cells = cells_of facts in
    let part = in_force_on_part f source in_force.is_fabric connected is_end cells (plan_of rule lmc cells) in_force in
    let a = every_packet_arrives rule lmc facts has_room f source is_end part source is_end (connected source source is_end is_end) lid owner owned in
    record { target = a.target; is_owner = a.is_owner; in_part = tt; hops = a.hops; delivered = a.delivered; way = a.way }
