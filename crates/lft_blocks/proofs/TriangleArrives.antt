-- In the triangle the plan is in force, so a packet from one adapter arrives at the other: what 'every packet arrives'
-- supposes can be.
use Rattle.std.proofs.Common.{◌≡◌, ◌≤◌, ℕ, zero, suc, [], ◌++◌, inl, refl, sym, ap, ◌∙◌, subst, arith, cond, ◌==◌, length, map}
use Rattle.std.proofs.lemmas.List.{get_or_past}
use Rattle.std.proofs.lemmas.Option.{same_Some}
use Rattle.std.specs.Prelude.{None, Some, option_and_then, slice_get, slice_index_or}
use Rattle.std.specs.Option.{option_map_or}
use Rattle.fact_store.specs.View.{cells_of}
use Rattle.fabric_model.specs.declared.cable.NodePort.{NodePort}
use Rattle.fabric_model.specs.Fabric.{Node, IsFabric, IsCablePort, IsEndPort, IsPortNamed}
use Rattle.fabric_model.specs.FabricWalks.{IsWire, AreNeighbors, IsJoinedTo, IsConnected, vertex_of}
use Rattle.fabric_model.proofs.FabricWalks.{port_at, joined_over}
use Rattle.fact_join.specs.declared.cell.Cell.{Cell}
use Rattle.reply_facts.specs.declared.key.Key.{Key}
use Rattle.reply_facts.specs.declared.value.Value.{Value}
use Rattle.subnet_view.specs.Reading.{Cells}
use Rattle.subnet_view.specs.Wires.{across}
use Rattle.subnet_view.specs.FabricAgreement.{Part, WholeFabric, IsEndPortIn, HasEndPort, HasWire, AgreesOn}
use Rattle.lid_assign.specs.Lids.{IsNoRoom, lids, owner_of}
use Rattle.subnet_view.specs.Graph.{graph_of}
use Rattle.updown_routes.specs.Updown.{updown}
use Rattle.lft_blocks.specs.Rule.{up_and_down}
use Rattle.subnet_view.specs.Wires.{attachment_of}
use Rattle.lft_blocks.specs.Entries.{port_to}
use Rattle.lft_blocks.specs.Plan.{plan_of}
use Rattle.lft_blocks.specs.Arrival.{Arrives}
use Rattle.lft_blocks.specs.InForce.{IsInForce}
use Rattle.lft_blocks.proofs.HeldEntries.{owned_to_top}
use Rattle.lft_blocks.proofs.Reached.{every_packet_arrives}
use Rattle.lft_blocks.proofs.WholeFabrics.{packets_arrive_if_connected}
use Rattle.lft_blocks.proofs.FabricCases.{Each, EachIndexed, next, each_append, each_all, each_map}
use Rattle.lft_blocks.proofs.FabricCases.{HasOneEnd, end_of, end_cases, indexed_at, cable_cases, Stands, TellsCable, agreement, planned_entry, HasPlanned, holding}
use Rattle.lft_blocks.proofs.Triangle.{switch, adapter, cables, tables, triangle}
use Rattle.lft_blocks.proofs.Triangle.{NamedWire, wires, nodes_told, ports_told, link_told, up_told, caps_told, cells, facts, facts_have}

pub one_end : EachIndexed (λ k n. HasOneEnd n) triangle.nodes
one_end = next (λ e. absurd (cc)) (next (λ e. absurd (cc)) (next (λ e. absurd (cc)) (next (λ e. refl) (next (λ e. refl) tt))))

pub is_fabric : IsFabric triangle
is_fabric =
    record {
      counts = indexed_at (λ k n. (1 ≤ n.ports) × (n.ports ≤ 254)) triangle.nodes
          (next (omega arith, omega arith)
          (next (omega arith, omega arith)
          (next (omega arith, omega arith)
          (next (omega arith, omega arith)
          (next (omega arith, omega arith) tt)))));
      cabled = cable_cases (λ p q. IsCablePort triangle p) cables
          (next ((switch 16, refl, omega arith, omega arith), (switch 32, refl, omega arith, omega arith))
          (next ((switch 16, refl, omega arith, omega arith), (switch 48, refl, omega arith, omega arith))
          (next ((switch 32, refl, omega arith, omega arith), (switch 48, refl, omega arith, omega arith))
          (next ((switch 32, refl, omega arith, omega arith), (adapter 256, refl, omega arith, omega arith))
          (next ((switch 48, refl, omega arith, omega arith), (adapter 512, refl, omega arith, omega arith)) tt)))));
      both_ways = cable_cases (λ p q. triangle.across q ≡ Some p) cables
          (next (refl, refl) (next (refl, refl) (next (refl, refl) (next (refl, refl) (next (refl, refl) tt)))));
    }

pub of_16 : IsEndPort triangle (port_at 0 0)
of_16 = (switch 16, refl, refl)

of_32 : IsEndPort triangle (port_at 1 0)
of_32 = (switch 32, refl, refl)

of_48 : IsEndPort triangle (port_at 2 0)
of_48 = (switch 48, refl, refl)

pub of_first : IsEndPort triangle (port_at 3 1)
of_first = (adapter 256, refl, (omega arith, omega arith))

of_second : IsEndPort triangle (port_at 4 1)
of_second = (adapter 512, refl, (omega arith, omega arith))

-- it is connected: from each end port to the second switch, and on to each ----------------------

different : (p q : NodePort) → (p.node ≡ q.node → ⊥) → p ≡ q → ⊥
different p q h e = h (ap (λ (x : NodePort). x.node) e)

-- a wire from port p of node n to port q of node m
wire_to : (n p m q : ℕ) → triangle.across (port_at n p) ≡ Some (port_at m q) → (n ≡ m → ⊥) → IsWire triangle (port_at n p) (port_at m q)
wire_to n p m q e h = record { cable = e; different = different (port_at n p) (port_at m q) h }

-- over one wire
over : (n p m q : ℕ) → triangle.across (port_at n p) ≡ Some (port_at m q) → (n ≡ m → ⊥)
    → IsJoinedTo triangle (vertex_of triangle (port_at n p)) (vertex_of triangle (port_at m q))
over n p m q e h =
    let wired : AreNeighbors triangle (vertex_of triangle (port_at n p)) (vertex_of triangle (port_at m q)) =
    record { out = port_at n p; into = port_at m q; wire = wire_to n p m q e h; of_one = refl; of_other = refl } in
    (1, (vertex_of triangle (port_at m q), wired, inl refl, refl))

abbrev FromEach : ℕ → Node → ℕ → Type 0
FromEach k n p = IsJoinedTo triangle (port_at k p) (port_at 1 0)

from_each : EachIndexed (λ k n. FromEach k n (end_of n)) triangle.nodes
from_each =
    next (over 0 1 1 1 refl (λ e. omega arith))
    (next (0, refl)
    (next (over 2 2 1 2 refl (λ e. omega arith))
    (next (over 3 1 1 3 refl (λ e. omega arith))
    (next (joined_over triangle (port_at 4 1) (port_at 2 0) (port_at 1 0) (over 4 1 2 3 refl (λ e. omega arith)) refl
    (over 2 2 1 2 refl (λ e. omega arith))) tt))))

abbrev ToEach : ℕ → Node → ℕ → Type 0
ToEach k n p = IsJoinedTo triangle (port_at 1 0) (port_at k p)

to_each : EachIndexed (λ k n. ToEach k n (end_of n)) triangle.nodes
to_each =
    next (over 1 1 0 1 refl (λ e. omega arith))
    (next (0, refl)
    (next (over 1 2 2 2 refl (λ e. omega arith))
    (next (over 1 3 3 1 refl (λ e. omega arith))
    (next (joined_over triangle (port_at 1 0) (port_at 2 0) (port_at 4 1) (over 1 2 2 2 refl (λ e. omega arith)) refl
    (over 2 3 4 1 refl (λ e. omega arith))) tt))))

whole_end : (a : NodePort) (end : IsEndPort triangle a) → IsEndPortIn WholeFabric triangle a end.0
whole_end a end = record { node_there = end.1; end_port = end; in_part = tt }

pub is_connected : IsConnected triangle
is_connected a b at_a at_b =
    joined_over triangle a (port_at 1 0) b (end_cases WholeFabric triangle one_end FromEach from_each a at_a.0 (whole_end a at_a)) refl
    (end_cases WholeFabric triangle one_end ToEach to_each b at_b.0 (whole_end b at_b))

-- what the facts say is there -----------------------------------------------------------------

port_named : (g p index : ℕ) (node : Node) → slice_get triangle.nodes index ≡ Some node → node.guid ≡ g → IsPortNamed triangle g p (port_at index p)
port_named g p index node at e = record { node = node; node_there = at; guid_is = e; port_is = refl }

module _ (part : Part) (all : (v : NodePort) → IsEndPort triangle v → part v) where
  -- an end port of the part, of the node at an index
  end_stands : (g p index : ℕ) (node : Node) → slice_get triangle.nodes index ≡ Some node → node.guid ≡ g → IsEndPort triangle (port_at index p)
      → HasEndPort part triangle g p
  end_stands g p index node at e end =
      record { port = port_at index p; named = port_named g p index node at e; end_port = end; in_part = all (port_at index p) end }

  -- a wire of the part, from the index n to the index m
  wire_stands : (g p h q n m : ℕ) (a b : Node) → slice_get triangle.nodes n ≡ Some a → a.guid ≡ g → slice_get triangle.nodes m ≡ Some b → b.guid ≡ h
      → triangle.across (port_at n p) ≡ Some (port_at m q) → (n ≡ m → ⊥) → part (vertex_of triangle (port_at n p)) → HasWire part triangle g p h q
  wire_stands g p h q n m a b at_n is_a at_m is_b e apart joined =
      record {
        from = port_at n p;
        to = port_at m q;
        from_named = port_named g p n a at_n is_a;
        to_named = port_named h q m b at_m is_b;
        wire = wire_to n p m q e apart;
        in_part = joined;
      }

  wires_stand : Each (λ (w : NamedWire). HasWire part triangle w.guid w.port w.peer w.via) wires
  wires_stand =
      next (wire_stands 16 1 32 1 0 1 (switch 16) (switch 32) refl refl refl refl refl (λ e. omega arith) (all (port_at 0 0) of_16))
      (next (wire_stands 16 2 48 1 0 2 (switch 16) (switch 48) refl refl refl refl refl (λ e. omega arith) (all (port_at 0 0) of_16))
      (next (wire_stands 32 1 16 1 1 0 (switch 32) (switch 16) refl refl refl refl refl (λ e. omega arith) (all (port_at 1 0) of_32))
      (next (wire_stands 32 2 48 2 1 2 (switch 32) (switch 48) refl refl refl refl refl (λ e. omega arith) (all (port_at 1 0) of_32))
      (next (wire_stands 32 3 256 1 1 3 (switch 32) (adapter 256) refl refl refl refl refl (λ e. omega arith) (all (port_at 1 0) of_32))
      (next (wire_stands 48 1 16 2 2 0 (switch 48) (switch 16) refl refl refl refl refl (λ e. omega arith) (all (port_at 2 0) of_48))
      (next (wire_stands 48 2 32 2 2 1 (switch 48) (switch 32) refl refl refl refl refl (λ e. omega arith) (all (port_at 2 0) of_48))
      (next (wire_stands 48 3 512 1 2 4 (switch 48) (adapter 512) refl refl refl refl refl (λ e. omega arith) (all (port_at 2 0) of_48))
      (next (wire_stands 256 1 32 3 3 1 (adapter 256) (switch 32) refl refl refl refl refl (λ e. omega arith) (all (port_at 3 1) of_first))
      (next (wire_stands 512 1 48 3 4 2 (adapter 512) (switch 48) refl refl refl refl refl (λ e. omega arith) (all (port_at 4 1) of_second)) tt)))))))))

  of_switches : HasEndPort part triangle 16 0 × HasEndPort part triangle 32 0 × HasEndPort part triangle 48 0
  of_switches =
      (end_stands 16 0 0 (switch 16) refl refl of_16, end_stands 32 0 1 (switch 32) refl refl of_32, end_stands 48 0 2 (switch 48) refl refl of_48)

  of_adapters : HasEndPort part triangle 256 1 × HasEndPort part triangle 512 1
  of_adapters = (end_stands 256 1 3 (adapter 256) refl refl of_first, end_stands 512 1 4 (adapter 512) refl refl of_second)

  all_stand : Each (Stands part triangle) cells
  all_stand =
      let P : Key × Cell Value → Type 0 = Stands part triangle in
      let (a, b, c) = of_switches in
      let (d, e) = of_adapters in
      each_append P nodes_told (ports_told ++ map link_told wires ++ map up_told wires ++ caps_told) (tt, (tt, (tt, (tt, (tt, tt)))))
      (each_append P ports_told (map link_told wires ++ map up_told wires ++ caps_told) (a, (b, (c, (d, (e, tt)))))
      (each_append P (map link_told wires) (map up_told wires ++ caps_told) (each_map P link_told wires wires_stand)
      (each_append P (map up_told wires) caps_told (each_map P up_told wires (each_all (λ (w : NamedWire). Unit {0}) wires (λ w. tt)))
      (a, (b, (c, tt))))))

-- what is there the facts say -------------------------------------------------------------------

cable_told : (n p m q : ℕ) (a b : Node) → slice_get triangle.nodes n ≡ Some a → slice_get triangle.nodes m ≡ Some b
    → across cells a.guid p ≡ Some (b.guid, q) → across cells b.guid q ≡ Some (a.guid, p)
    → TellsCable cells triangle (port_at n p) (port_at m q) × TellsCable cells triangle (port_at m q) (port_at n p)
cable_told n p m q a b at_n at_m e f = (
  record { one = a; other = b; one_there = at_n; other_there = at_m; told = e },
  record { one = b; other = a; one_there = at_m; other_there = at_n; told = f },
)

cables_told : (p q : NodePort) → triangle.across p ≡ Some q → TellsCable cells triangle p q
cables_told =
    cable_cases (TellsCable cells triangle) cables
    (next (cable_told 0 1 1 1 (switch 16) (switch 32) refl refl refl refl)
    (next (cable_told 0 2 2 1 (switch 16) (switch 48) refl refl refl refl)
    (next (cable_told 1 2 2 2 (switch 32) (switch 48) refl refl refl refl)
    (next (cable_told 1 3 3 1 (switch 32) (adapter 256) refl refl refl refl)
    (next (cable_told 2 3 4 1 (switch 48) (adapter 512) refl refl refl refl) tt)))))

abbrev index_of : ℕ → ℕ
index_of g = cond (g == 16) 0 (cond (g == 32) 1 (cond (g == 48) 2 (cond (g == 256) 3 4)))

module _ (part : Part) (all : (v : NodePort) → IsEndPort triangle v → part v) where
  pub agrees : AgreesOn part cells triangle
  agrees =
      agreement part cells triangle one_end index_of
      (next (refl, record { kind = refl; port_guid = refl; cap = λ e. refl })
      (next (refl, record { kind = refl; port_guid = refl; cap = λ e. refl })
      (next (refl, record { kind = refl; port_guid = refl; cap = λ e. refl })
      (next (refl, record { kind = refl; port_guid = refl; cap = λ e. absurd (cc) })
      (next (refl, record { kind = refl; port_guid = refl; cap = λ e. absurd (cc) }) tt)))))
      (all_stand part all) cables_told

-- the plan is held ------------------------------------------------------------------------------

-- nobody has a LID above 7
entry_past : (g lid : ℕ) → 8 ≤ lid → planned_entry 1 cells g lid ≡ 255
entry_past g lid past =
    elim (owner_of (lids 1 cells) lid) as
    (λ o. owner_of (lids 1 cells) lid ≡ o → option_map_or (port_to (updown (graph_of cells)).next lid g) (option_and_then (attachment_of cells) o) 255 ≡ 255) [
      | None ↦ λ e. refl
      | Some owner ↦ λ e. let (top, is, low) = owned_to_top (lids 1 cells) owner lid e in absurd (omega (arith, low, same_Some top 7 (sym is)))
    ] refl

-- up to LID 7 by computing, and 255 from there on
entries_are : (k g : ℕ) → planned_entry 1 cells g 0 ≡ triangle.entry k 0 → planned_entry 1 cells g 1 ≡ triangle.entry k 1 → planned_entry 1 cells g 2
    ≡ triangle.entry k 2
    → planned_entry 1 cells g 3 ≡ triangle.entry k 3 → planned_entry 1 cells g 4 ≡ triangle.entry k 4 → planned_entry 1 cells g 5 ≡ triangle.entry k 5
    → planned_entry 1 cells g 6 ≡ triangle.entry k 6 → planned_entry 1 cells g 7 ≡ triangle.entry k 7
    → length (slice_index_or tables k []) ≤ 8
    → (lid : ℕ) → planned_entry 1 cells g lid ≡ triangle.entry k lid
entries_are k g a b c d e f x y short zero = a
entries_are k g a b c d e f x y short (suc zero) = b
entries_are k g a b c d e f x y short (suc (suc zero)) = c
entries_are k g a b c d e f x y short (suc (suc (suc zero))) = d
entries_are k g a b c d e f x y short (suc (suc (suc (suc zero)))) = e
entries_are k g a b c d e f x y short (suc (suc (suc (suc (suc zero))))) = f
entries_are k g a b c d e f x y short (suc (suc (suc (suc (suc (suc zero)))))) = x
entries_are k g a b c d e f x y short (suc (suc (suc (suc (suc (suc (suc zero))))))) = y
entries_are k g a b c d e f x y short (suc (suc (suc (suc (suc (suc (suc (suc n)))))))) =
    let lid = suc (suc (suc (suc (suc (suc (suc (suc n))))))) in
    entry_past g lid (omega arith) ∙ sym (get_or_past (slice_index_or tables k []) lid 255 (omega (arith, short)))

-- each node's LID, top and table
rows : EachIndexed (λ k n. HasPlanned 1 cells triangle k n (end_of n)) triangle.nodes
rows =
    next (record { range = refl; top = λ e. refl; table = entries_are 0 16 refl refl refl refl refl refl refl refl (omega arith) })
    (next (record { range = refl; top = λ e. refl; table = entries_are 1 32 refl refl refl refl refl refl refl refl (omega arith) })
    (next (record { range = refl; top = λ e. refl; table = entries_are 2 48 refl refl refl refl refl refl refl refl (omega arith) })
    (next (record { range = refl; top = λ e. absurd (cc); table = entries_are 3 256 refl refl refl refl refl refl refl refl (omega arith) })
    (next (record { range = refl; top = λ e. absurd (cc); table = entries_are 4 512 refl refl refl refl refl refl refl refl (omega arith) }) tt))))

has_room : ¬ (IsNoRoom 1 cells)
has_room none = cc

module _ (part : Part) (all : (v : NodePort) → IsEndPort triangle v → part v) where
  pub in_force : IsInForce part (cells_of facts) (plan_of up_and_down 1 (cells_of facts)) triangle
  in_force =
      record {
        is_fabric = is_fabric;
        agrees = subst (λ (c : Cells). AgreesOn part c triangle) (sym facts_have) (agrees part all);
        holds = holding part 1 facts triangle one_end
            (subst (λ (c : Cells). EachIndexed (λ k n. HasPlanned 1 c triangle k n (end_of n)) triangle.nodes) (sym facts_have) rows);
      }

pub facts_have_room : ¬ (IsNoRoom 1 (cells_of facts))
facts_have_room = subst (λ (c : Cells). ¬ (IsNoRoom 1 c)) (sym facts_have) has_room

second_owns : owner_of (plan_of up_and_down 1 (cells_of facts)).given 7 ≡ Some (record { node = 512; port = 1 })
second_owns = subst (λ (c : Cells). owner_of (lids 1 c) 7 ≡ Some (record { node = 512; port = 1 })) (sym facts_have) refl

-- the packet for LID 7, its second one, from the first adapter arrives at the second, in what the first is joined to
pub arrives : Arrives up_and_down (IsJoinedTo triangle (port_at 3 1)) (cells_of facts) triangle 7 (port_at 3 1) (record { node = 512; port = 1 })
arrives =
    every_packet_arrives up_and_down 1 facts facts_have_room triangle (port_at 3 1) of_first
    (in_force (IsJoinedTo triangle (port_at 3 1)) (λ v end. is_connected (port_at 3 1) v of_first end))
    (port_at 3 1) of_first (0, refl) 7 (record { node = 512; port = 1 }) second_owns

-- and in the whole, since it is connected
pub arrives_in_whole : Arrives up_and_down WholeFabric (cells_of facts) triangle 7 (port_at 3 1) (record { node = 512; port = 1 })
arrives_in_whole =
    packets_arrive_if_connected up_and_down 1 facts facts_have_room triangle is_connected (in_force WholeFabric (λ v end. tt))
    (port_at 3 1) of_first 7 (record { node = 512; port = 1 }) second_owns
