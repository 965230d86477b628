-- A packet that arrives by the number of its LID arrives by the rule.
use Rattle.std.proofs.Common.{ℕ, List, [], ◌∷◌}
use Rattle.fabric_model.specs.Fabric.{Fabric}
use Rattle.fabric_model.specs.declared.cable.NodePort.{NodePort}
use Rattle.subnet_view.specs.declared.end_port.EndPort.{EndPort}
use Rattle.subnet_view.specs.Reading.{Cells}
use Rattle.subnet_view.specs.Routing.{Routing}
use Rattle.subnet_view.specs.FabricAgreement.{Part}
use Rattle.lft_blocks.specs.Arrival.{ArrivesBy, EveryPacketArrivesBy, IsCostAlong}
use Rattle.lft_blocks.specs.LidNumbers.{numbered}
use Rattle.lft_blocks.specs.Plan.{PlanValue}

module _ (number : ℕ → ℕ) (rule : Routing) where
  same_cost : (switches : List ℕ) (n : ℕ) → IsCostAlong (numbered number rule) switches n → IsCostAlong rule switches n
  same_cost [] n h = h
  same_cost (s ∷ switches) n h = h

  pub arrives_by_rule : (part : Part) (f : Fabric) (lid : ℕ) (source : NodePort) (owner : EndPort)
      → ArrivesBy (numbered number rule) part f lid source owner → ArrivesBy rule part f lid source owner
  arrives_by_rule part f lid source owner a = record {
    target = a.target;
    is_owner = a.is_owner;
    in_part = a.in_part;
    hops = a.hops;
    delivered = a.delivered;
    way = record {
      at_cost = same_cost _ _ a.way.at_cost;
      no_switch_twice = a.way.no_switch_twice;
      adapter_wires = a.way.adapter_wires;
      channels_rise = a.way.channels_rise;
    };
  }

  pub all_arrive_by_rule : (cells : Cells) (plan : PlanValue) → EveryPacketArrivesBy (numbered number rule) cells plan → EveryPacketArrivesBy rule cells plan
  all_arrive_by_rule cells plan all f origin is_origin in_force source is_end joined lid owner owned =
      arrives_by_rule _ f lid source owner (all f origin is_origin in_force source is_end joined lid owner owned)
