-- Where no cable of a switch has changed, walks are the same.
use Rattle.std.proofs.Common.{◌≡◌, ◌∙◌, ◌⊎◌, ℕ, zero, suc, Some, inl, inr, refl, sym, ap, subst, arith, true, false}
use Rattle.std.specs.Prelude.{IsTrue}
use Rattle.fabric_model.specs.declared.cable.NodePort.{NodePort}
use Rattle.fabric_model.specs.Fabric.{Fabric, IsFabric, is_switch_at}
use Rattle.fabric_model.specs.FabricWalks.{AreNeighbors, IsJoinedTo, Walk, vertex_of}
use Rattle.fabric_model.proofs.FabricWalks.{adapter_start, adapter_vertex, walk_further}
use Rattle.subnet_view.specs.FabricAgreement.{AgreesOn, HasEndPort, HasWire, IsEndPortIn}
use Rattle.subnet_view.specs.Reading.{Cells}
use Rattle.fabric_model.specs.Fabric as fabric
use Rattle.program_laws.specs.LightSweeps.{QuietSwitchesKeepThePart}

-- what holds where both fabrics have the same list of nodes
module _ (f g : Fabric) (origin : NodePort) where
  abbrev now : Fabric
  now = record g { nodes = f.nodes }

  -- the vertex is joined to the origin, and a walk may go on from it
  record IsStart (a : NodePort) : Type 0 where
    joined : IsJoinedTo f origin a
    is : (a ≡ origin) ⊎ IsTrue (is_switch_at f a.node)

  abbrev first : IsStart origin
  first = record { joined = (0, refl); is = inl refl }

  joined_more : (a c : NodePort) → IsStart a → AreNeighbors f a c → IsJoinedTo f origin c
  joined_more a c s step =
      elim s.is [
        | inl e ↦ (1, (c, subst (λ (x : NodePort). AreNeighbors f x c) e step, inl refl, refl))
        | inr switch ↦ (suc s.joined.0, walk_further f s.joined.0 origin a c s.joined.1 (inr switch) step)
      ]

  -- how a walk came to a vertex
  record IsEntered (v : NodePort) : Type 0 where
    from : NodePort
    start : IsStart from
    step : AreNeighbors f from v

  entered : (n : ℕ) (a v : NodePort) → IsStart a → Walk f a v n → (a ≡ v) ⊎ IsEntered v
  entered zero a v s w = inl w
  entered (suc zero) a v s (c, step, between, w) =
      inr (record { from = a; start = s; step = subst (λ (x : NodePort). AreNeighbors f a x) w step })
  entered (suc (suc n)) a v s (c, step, between, w) =
      elim between [
        | inl e ↦ absurd (omega (arith, e))
        | inr switch ↦
            elim (entered (suc n) c v (record { joined = joined_more a c s step; is = inr switch }) w) [
              | inl e ↦ inr (record { from = a; start = s; step = subst (λ (x : NodePort). AreNeighbors f a x) e step })
              | inr e ↦ inr e
            ]
      ]

  module _ (own : g.across origin ≡ f.across origin)
      (switches : (p : NodePort) → IsTrue (is_switch_at f p.node) → IsJoinedTo f origin (vertex_of f p) → g.across p ≡ f.across p) where
    -- the cable in a port from which a walk goes on is the same
    same_out : (a p : NodePort) → IsStart a → vertex_of f p ≡ a → g.across p ≡ f.across p
    same_out a p s e =
        elim (is_switch_at f p.node) as (λ t. is_switch_at f p.node ≡ t → g.across p ≡ f.across p) [
          | true ↦ λ t. switches p t (subst (IsJoinedTo f origin) (sym e) s.joined)
          | false ↦ λ t.
              let here : p ≡ a = sym (adapter_vertex f p t) ∙ e in
              elim s.is [
                | inl o ↦ subst (λ (x : NodePort). g.across x ≡ f.across x) (sym (here ∙ o)) own
                | inr switch ↦ let same : is_switch_at f p.node ≡ is_switch_at f a.node = ap (λ (x : NodePort). is_switch_at f x.node) here in absurd (cc)
              ]
        ] refl

    step_now : (a c : NodePort) → IsStart a → AreNeighbors f a c → AreNeighbors now a c
    step_now a c s step = record {
      out = step.out;
      into = step.into;
      wire = record { cable = same_out a step.out s step.of_one ∙ step.wire.cable; different = step.wire.different };
      of_one = step.of_one;
      of_other = step.of_other;
    }

    step_before : (a c : NodePort) → IsStart a → AreNeighbors now a c → AreNeighbors f a c
    step_before a c s step = record {
      out = step.out;
      into = step.into;
      wire = record { cable = sym (same_out a step.out s step.of_one) ∙ step.wire.cable; different = step.wire.different };
      of_one = step.of_one;
      of_other = step.of_other;
    }

    walk_now : (n : ℕ) (a v : NodePort) → IsStart a → Walk f a v n → Walk now a v n
    walk_now zero a v s w = w
    walk_now (suc zero) a v s (c, step, between, w) = (c, step_now a c s step, between, w)
    walk_now (suc (suc n)) a v s (c, step, between, w) = (
      c,
      step_now a c s step,
      between,
      elim between [
        | inl e ↦ absurd (omega (arith, e))
        | inr switch ↦ walk_now (suc n) c v (record { joined = joined_more a c s step; is = inr switch }) w
      ],
    )

    walk_before : (n : ℕ) (a v : NodePort) → IsStart a → Walk now a v n → Walk f a v n
    walk_before zero a v s w = w
    walk_before (suc zero) a v s (c, step, between, w) = (c, step_before a c s step, between, w)
    walk_before (suc (suc n)) a v s (c, step, between, w) = (
      c,
      step_before a c s step,
      between,
      elim between [
        | inl e ↦ absurd (omega (arith, e))
        | inr switch ↦
            walk_before (suc n) c v (record { joined = joined_more a c s (step_before a c s step); is = inr switch }) w
      ],
    )

    joined_now : (v : NodePort) → IsJoinedTo f origin v → IsJoinedTo now origin v
    joined_now v (n, w) = (n, walk_now n origin v first w)

    joined_before : (v : NodePort) → IsJoinedTo now origin v → IsJoinedTo f origin v
    joined_before v (n, w) = (n, walk_before n origin v first w)

    -- each cable of the part is the same
    module _ (was : IsFabric f) (is : IsFabric now) where
      back : (p : NodePort) → is_switch_at f p.node ≡ false → IsEntered p → g.across p ≡ f.across p
      back p t e =
          let into : e.step.into ≡ p = adapter_start f e.step.into p t e.step.of_other in
          let before : f.across e.step.out ≡ Some p = subst (λ (x : NodePort). f.across e.step.out ≡ Some x) into e.step.wire.cable in
          let after : g.across e.step.out ≡ Some p = same_out e.from e.step.out e.start e.step.of_one ∙ before in
          is.both_ways e.step.out p after ∙ sym (was.both_ways e.step.out p before)

      same_cable : (p : NodePort) → IsJoinedTo f origin (vertex_of f p) → g.across p ≡ f.across p
      same_cable p (n, w) =
          elim (is_switch_at f p.node) as (λ t. is_switch_at f p.node ≡ t → g.across p ≡ f.across p) [
            | true ↦ λ t. switches p t (n, w)
            | false ↦ λ t.
                let alone : vertex_of f p ≡ p = adapter_vertex f p t in
                elim (entered n origin p first (subst (λ (x : NodePort). Walk f origin x n) alone w)) [
                  | inl e ↦ subst (λ (x : NodePort). g.across x ≡ f.across x) e own
                  | inr e ↦ back p t e
                ]
          ] refl

      -- facts
      port_before : (p : NodePort) (node : fabric.Node) → IsEndPortIn (IsJoinedTo now origin) now p node → IsEndPortIn (IsJoinedTo f origin) f p node
      port_before p node h = record { node_there = h.node_there; end_port = h.end_port; in_part = joined_before p h.in_part }

      has_now : (x p : ℕ) → HasEndPort (IsJoinedTo f origin) f x p → HasEndPort (IsJoinedTo now origin) now x p
      has_now x p h = record {
        port = h.port;
        named = record { node = h.named.node; node_there = h.named.node_there; guid_is = h.named.guid_is; port_is = h.named.port_is };
        end_port = h.end_port;
        in_part = joined_now h.port h.in_part;
      }

      wire_now : (x p y q : ℕ) → HasWire (IsJoinedTo f origin) f x p y q → HasWire (IsJoinedTo now origin) now x p y q
      wire_now x p y q h = record {
        from = h.from;
        to = h.to;
        from_named =
            record { node = h.from_named.node; node_there = h.from_named.node_there; guid_is = h.from_named.guid_is; port_is = h.from_named.port_is };
        to_named =
            record { node = h.to_named.node; node_there = h.to_named.node_there; guid_is = h.to_named.guid_is; port_is = h.to_named.port_is };
        wire = record { cable = same_cable h.from h.in_part ∙ h.wire.cable; different = h.wire.different };
        in_part = joined_now (vertex_of f h.from) h.in_part;
      }

      wire_before : (x p y q : ℕ) → HasWire (IsJoinedTo now origin) now x p y q → HasWire (IsJoinedTo f origin) f x p y q
      wire_before x p y q h =
          let part = joined_before (vertex_of f h.from) h.in_part in
          record {
            from = h.from;
            to = h.to;
            from_named =
                record { node = h.from_named.node; node_there = h.from_named.node_there; guid_is = h.from_named.guid_is; port_is = h.from_named.port_is };
            to_named =
                record { node = h.to_named.node; node_there = h.to_named.node_there; guid_is = h.to_named.guid_is; port_is = h.to_named.port_is };
            wire = record { cable = sym (same_cable h.from part) ∙ h.wire.cable; different = h.wire.different };
            in_part = part;
          }

      agrees_now : (cells : Cells) → AgreesOn (IsJoinedTo f origin) cells f → AgreesOn (IsJoinedTo now origin) cells now
      agrees_now cells h = record {
        guids_distinct = λ p q a b one other same. h.guids_distinct p q a b (port_before p a one) (port_before q b other) same;
        tells_end_ports = λ p node there. h.tells_end_ports p node (port_before p node there);
        end_ports_exist = λ x p told. has_now x p (h.end_ports_exist x p told);
        switches_exist = λ x told. has_now x 0 (h.switches_exist x told);
        wires = λ x p y q. (
          λ told. wire_now x p y q ((h.wires x p y q).0 told),
          λ there. (h.wires x p y q).1 (wire_before x p y q there),
        );
      }

-- the list of nodes is the same
pub quiet_switches_keep_the_part : QuietSwitchesKeepThePart
quiet_switches_keep_the_part f g was is origin quiet cells h =
    let same : record g { nodes = f.nodes } ≡ g = ap (λ nodes. record g { nodes = nodes }) (sym quiet.nodes) in
    let is_so : IsFabric (record g { nodes = f.nodes }) = subst IsFabric (sym same) is in
    subst (λ (x : Fabric). AgreesOn (IsJoinedTo x origin) cells x) same (agrees_now f g origin quiet.own quiet.switches was is_so cells h)
