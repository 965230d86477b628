-- What two adapters at one switch are joined to is the same, so facts that agree with the one's part agree with the other's.
use Rattle.std.proofs.Common.{◌≡◌, ◌≢◌, inl, inr, ℕ, zero, suc, true, false, refl, sym, ap, ◌∙◌, subst}
use Rattle.std.proofs.lemmas.Option.{same_Some}
use Rattle.std.specs.Prelude.{Some}
use Rattle.fabric_model.specs.declared.cable.NodePort.{NodePort}
use Rattle.fabric_model.specs.Fabric as fabrics
use Rattle.fabric_model.specs.Fabric.{Fabric, is_switch_at}
use Rattle.fabric_model.specs.FabricWalks.{AreNeighbors, IsJoinedTo, Walk, vertex_of}
use Rattle.fabric_model.proofs.FabricWalks.{adapter_vertex, joined_over, vertex_node}
use Rattle.subnet_view.specs.FabricAgreement.{AgreesOn, HasEndPort, HasWire, IsEndPortIn, Part}
use Rattle.subnet_view.specs.Reading.{Cells}

-- an adapter's port, and the switch at the other end of its cable
pub record IsAtSwitch (f : Fabric) (p switch : NodePort) : Type 0 where
  pub adapter : is_switch_at f p.node ≡ false
  pub into : NodePort
  pub cable : f.across p ≡ Some into
  pub back : f.across into ≡ Some p
  pub vertex : vertex_of f into ≡ switch
  pub different : p ≢ into
  pub is_switch : is_switch_at f switch.node ≡ true

module _ (f : Fabric) (a b switch : NodePort) (one : IsAtSwitch f a switch) (other : IsAtSwitch f b switch) where
  to_switch : AreNeighbors f b switch
  to_switch =
      record {
        out = b;
        into = other.into;
        wire = record { cable = other.cable; different = other.different };
        of_one = adapter_vertex f b other.adapter;
        of_other = other.vertex;
      }

  from_switch : AreNeighbors f switch a
  from_switch =
      record {
        out = one.into;
        into = a;
        wire = record { cable = one.back; different = λ same. one.different (sym same) };
        of_one = one.vertex;
        of_other = adapter_vertex f a one.adapter;
      }

  -- the first wire of a walk from the one leads to the switch
  first_wire : (c : NodePort) → AreNeighbors f a c → c ≡ switch
  first_wire c next =
      let node : next.out.node ≡ a.node = sym (vertex_node f next.out) ∙ ap (λ (p : NodePort). p.node) next.of_one in
      let is : next.out ≡ a = sym (adapter_vertex f next.out (ap (is_switch_at f) node ∙ one.adapter)) ∙ next.of_one in
      let into : next.into ≡ one.into = same_Some _ _ (sym next.wire.cable ∙ ap f.across is ∙ one.cable) in
      sym next.of_other ∙ ap (vertex_of f) into ∙ one.vertex

  pub joined_too : (p : NodePort) → IsJoinedTo f a p → IsJoinedTo f b p
  joined_too p (zero, same) =
      (suc (suc zero), (switch, to_switch, inr one.is_switch, (a, from_switch, inl refl, same)))
  joined_too p (suc n, (c, next, between, w)) =
      joined_over f b switch p (suc zero, (switch, to_switch, inl refl, refl)) one.is_switch
      (n, subst (λ (x : NodePort). Walk f x p n) (first_wire c next) w)

-- a wire of a part is one of any part that has its ports
wire_in : (f : Fabric) (part same : Part) → ((p : NodePort) → part p → same p) → (g p h q : ℕ) → HasWire part f g p h q → HasWire same f g p h q
wire_in f part same to g p h q has =
    record {
      from = has.from;
      to = has.to;
      from_named = has.from_named;
      to_named = has.to_named;
      wire = has.wire;
      in_part = to (vertex_of f has.from) has.in_part;
    }

-- of two parts with the same ports
module _ (f : Fabric) (part same : Part) (to : (p : NodePort) → part p → same p) (from : (p : NodePort) → same p → part p) (cells : Cells) where
  end_from : (port : NodePort) (node : fabrics.Node) → IsEndPortIn same f port node → IsEndPortIn part f port node
  end_from port node is = record { node_there = is.node_there; end_port = is.end_port; in_part = from port is.in_part }

  end_to : (g p : ℕ) → HasEndPort part f g p → HasEndPort same f g p
  end_to g p has = record { port = has.port; named = has.named; end_port = has.end_port; in_part = to has.port has.in_part }

  pub agrees_too : AgreesOn part cells f → AgreesOn same cells f
  agrees_too agrees =
      record {
        guids_distinct = λ p q a b one two e. agrees.guids_distinct p q a b (end_from p a one) (end_from q b two) e;
        tells_end_ports = λ port node is. agrees.tells_end_ports port node (end_from port node is);
        end_ports_exist = λ g p is. end_to g p (agrees.end_ports_exist g p is);
        switches_exist = λ g is. end_to g 0 (agrees.switches_exist g is);
        wires = λ g p h q. (
          λ is. wire_in f part same to g p h q ((agrees.wires g p h q).0 is),
          λ has. (agrees.wires g p h q).1 (wire_in f same part from g p h q has),
        );
      }
