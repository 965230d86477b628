-- In a fabric that facts describe and that holds tables and lanes, packets take channels by lane from stop to stop.
use Rattle.std.proofs.Common.{◌≡◌, ◌≢◌, ℕ, zero, suc, ◌<◌, ◌≤◌, ◌+◌, ◌*◌, ◌/◌, ◌%◌, Bool, true, false, cond, List, [], ◌∷◌, Option, None, Some, length}
use Rattle.std.proofs.Common.{refl, sym, ap, ◌∙◌, subst, arith}
use Rattle.std.specs.Prelude.{Contains, is_some, slice_get, slice_index_or, nat_lt, ◌&&◌}
use Rattle.std.specs.Option.{option_map_or}
use Rattle.std.proofs.lemmas.Bool.{and_from, lt-ltb}
use Rattle.std.proofs.lemmas.Option.{same_Some, get_or_from_slice_get, slice_get-get_or}
use Rattle.fabric_model.specs.declared.cable.NodePort.{NodePort}
use Rattle.fabric_model.specs.declared.course.Course.TheVariants.{LeavesBy}
use Rattle.smp_bytes.specs.NodeType.{is_switch}
use Rattle.fabric_model.specs.Fabric.{Node, Fabric, IsNodeAt, IsEndPortNumber, is_switch_at}
use Rattle.fabric_model.specs.FabricWalks.{IsWire, IsJoinedTo, vertex_of}
use Rattle.fabric_model.specs.Forwarding.{Standing, sent_from, arrived_at, course, Hop, Goes}
use Rattle.fabric_model.proofs.FabricWalks.{port_at, type_at, switch_vertex}
use Rattle.port_graph.specs.declared.edge.Edge.{Edge}
use Rattle.fact_store.specs.View.{cells_of}
use Rattle.subnet_view.specs.declared.end_port.EndPort.{EndPort}
use Rattle.subnet_view.specs.EndPort.{end_ports}
use Rattle.subnet_view.specs.Reading.{Cells, switches}
use Rattle.subnet_view.specs.Wires.{across}
use Rattle.subnet_view.specs.FabricAgreement.{Part, IsEndPortIn}
use Rattle.subnet_view.proofs.EndPortList.{end_ports_law}
use Rattle.held_tables.specs.declared.far_end.Far.TheVariants.{Switch}
use Rattle.held_tables.specs.Switches.{index_in, far_at, far_to, far_of}
use Rattle.held_tables.specs.Held.{HeldPlan}
use Rattle.packet_walks.specs.Edges.{edges_of}
use Rattle.packet_walks.specs.Fabrics.{IsSeenIn}
use Rattle.packet_walks.proofs.FabricParts.{indexed, wire_told, switch_end}
use Rattle.packet_walks.proofs.Told.{IsClosed, joined_closed}
use Rattle.audit_channels.specs.Fabrics.{IsChannel}
use Rattle.audit_channels.proofs.TakenEdges.{edges, known, leaves, left_adapter, left_switch, number_at, own_vertex, stays}
use Rattle.lane_channels.specs.Fabrics.{HoldLanes, IsCarried, IsLaneChannel, LaneMaps, came_by}
use Rattle.lane_channels.specs.Fabrics.{lane_at}
use Rattle.lane_channels.specs.LaneLaws.{LaneChannelsRise}
use Rattle.lanes_file.specs.Lanes.{lane_of}
use Rattle.lane_channels.specs.LaneNetwork.{SeenByLane}
use Rattle.lane_channels.specs.LaneTurns.{TakesByLane}
use Rattle.lane_channels.specs.Levels.{HasLevel}
use Rattle.lane_channels.specs.Stops.{Columns, ComesAfter, HasEdge, IsNextStop, first_stop, lane_between, lane_by}
use Rattle.lane_channels.specs.Stops.{lane_number, port_across}
use Rattle.lane_channels.specs.FarPorts.{far_port, port_in}
use Rattle.lane_channels.specs.Stops.{stop_at, stop_by}
use Rattle.lane_channels.specs.AnyTables.{WaitsByAny, columns_for}
use Rattle.lane_channels.proofs.FarPorts.{index_below}

-- the switch and the port of a stop
stop_switch : (index port : ℕ) → port ≤ 254 → (256 * index + port) / 256 ≡ index
stop_switch index port few = omega arith

stop_port : (index port : ℕ) → port ≤ 254 → (256 * index + port) % 256 ≡ port
stop_port index port few = omega arith

-- a number that is given twice
one_number : (o : Option ℕ) (i j : ℕ) → o ≡ Some i → o ≡ Some j → i ≡ j
one_number o i j a b = same_Some i j (sym a ∙ b)

module _ (f : Fabric) (lid : ℕ) where
  -- a switch forwards a packet by the same port again
  again : (st : Standing) (h k : Hop) (node : Node) → IsNodeAt f h.into.node node → is_switch node.kind ≡ true → course f lid st ≡ LeavesBy h.out
      → course f lid (arrived_at h.into) ≡ LeavesBy k.out → h.out ≡ h.into → k.out ≡ h.out
  again st h k node at kind one two loop =
      let same : st.at.node ≡ h.into.node = sym (leaves f lid st h.out one).node_is ∙ ap (λ (q : NodePort). q.node) loop in
      let from : IsNodeAt f st.at.node node = ap (slice_get f.nodes) same ∙ at in
      left_switch f lid (arrived_at h.into) k.out node at kind two ∙ ap (λ n. port_at n (number_at f lid n)) (sym same)
      ∙ sym (left_switch f lid st h.out node from kind one)

-- where a packet stands that takes `hops`, from its sender's port on
abbrev into_at : List Hop → ℕ → NodePort
into_at hops i = option_map_or (λ (h : Hop). h.into) (slice_get hops i) (port_at 0 0)

abbrev standing : Standing → List Hop → ℕ → Standing
standing st hops zero = st
standing st hops (suc i) = arrived_at (into_at hops i)

went : (f : Fabric) (lid : ℕ) (hops : List Hop) (st end : Standing) (j : ℕ) (h : Hop) → Goes f lid st hops end → slice_get hops j ≡ Some h
    → (course f lid (standing st hops j) ≡ LeavesBy h.out) × (f.across h.out ≡ Some h.into)
went f lid [] st end j h g e = absurd (cc)
went f lid (x ∷ hops) st end zero h g e =
    subst (λ (y : Hop). (course f lid st ≡ LeavesBy y.out) × (f.across y.out ≡ Some y.into)) (same_Some x h e) (g.0, g.1)
went f lid (x ∷ hops) st end (suc zero) h g e = went f lid hops (arrived_at x.into) end zero h g.2 e
went f lid (x ∷ hops) st end (suc (suc i)) h g e = went f lid hops (arrived_at x.into) end (suc i) h g.2 e

earlier : (hops : List Hop) (j : ℕ) (k : Hop) → slice_get hops (suc j) ≡ Some k → (h : Hop) × (slice_get hops j ≡ Some h)
earlier [] j k e = absurd (cc)
earlier (x ∷ hops) zero k e = (x, refl)
earlier (x ∷ hops) (suc j) k e = earlier hops j k e

-- each edge by `mixed` is one by some table
abbrev pub IsAmong : SeenByLane → List HeldPlan → HeldPlan → ℕ → Type 0
IsAmong s others mixed lid =
    (index : ℕ) (edge : Edge) → slice_index_or (edges_of (cells_of s.seen.facts) mixed lid) index None ≡ Some edge
    → HasEdge (columns_for s others lid) index edge

-- `mixed` are the tables that the fabric holds
module _ (s : SeenByLane) (others : List HeldPlan) (mixed : HeldPlan) (f : Fabric) (part : Part) (seen : IsSeenIn part (cells_of s.seen.facts) mixed f)
    (closed : IsClosed part f) (vl : LaneMaps) (holds : HoldLanes part s.said f vl) (lid : ℕ) (some : 1 ≤ lid) (among : IsAmong s others mixed lid)
    (level : ℕ) where
  abbrev cells : Cells
  cells = cells_of s.seen.facts

  abbrev columns : Columns
  columns = columns_for s others lid

  abbrev Within : Standing → Type 0
  Within st = part (vertex_of f st.at)

  stays_on : (st : Standing) (hop : Hop) → Within st → course f lid st ≡ LeavesBy hop.out → f.across hop.out ≡ Some hop.into → Within (arrived_at hop.into)
  stays_on = stays part s.seen.facts mixed f seen closed lid some

  small : (p q : NodePort) → f.across p ≡ Some q → p.port ≤ 254
  small p q cable =
      let (node, at, low, high) = seen.is_fabric.cabled p q cable in let few = (seen.is_fabric.counts p.node node at).1 in omega arith

  -- what facts, tables and lanes say of a packet that takes a channel
  record Crosses (hop : Hop) (index : ℕ) (to : Node) : Type 0 where
    far : ℕ
    far_is : index_in (switches cells) to.guid ≡ Some far
    edge : HasEdge columns index (record { port = hop.out.port; to = far })
    port : port_across cells index hop.out.port ≡ hop.into.port
    lane : (came : ℕ) → vl hop.out.node came hop.out.port level ≡ lane_between s.said cells level index came hop.out.port

  crosses : (st : Standing) (hop : Hop) (channel : ℕ) (c : IsChannel cells f hop channel) → Within st → course f lid st ≡ LeavesBy hop.out
      → Crosses hop c.index c.to
  crosses st hop channel c within on =
      let its = leaves f lid st hop.out on in
      let node = c.from in
      let k = st.at.node in
      let at : IsNodeAt f k node = sym (ap (slice_get f.nodes) its.node_is) ∙ c.from_there in
      let switch : is_switch_at f k ≡ true = type_at f k node at ∙ c.from_switch in
      let here : part (port_at k 0) = subst part (switch_vertex f st.at switch) within in
      let end = switch_end part s.seen.facts mixed f seen k node at c.from_switch here in
      let by = edges part s.seen.facts mixed f seen closed lid some st hop channel c within on in
      let little = small hop.out hop.into c.wire.cable in
      let quotient = stop_switch c.index hop.out.port little in
      let rest = stop_port c.index hop.out.port little in
      record {
        far = by.far;
        far_is = by.far_is;
        edge = among c.index (record { port = hop.out.port; to = by.far }) by.edge;
        port =
            (λ i. option_map_or (λ h. far_port cells h (rest i)) (slice_get (switches cells) (quotient i)) 0)
            ∙ ap (λ o. option_map_or (λ h. far_port cells h hop.out.port) o 0) by.at
            ∙ ap (λ o. option_map_or port_in o 0) by.told;
        lane = λ came.
            ap (λ m. vl m came hop.out.port level) its.node_is ∙ holds (port_at k 0) node came hop.out.port level end c.from_switch
            ∙ ap (λ h. lane_of s.said h came hop.out.port level) (sym (get_or_from_slice_get (switches cells) c.index node.guid 0 by.at));
      }

  -- a packet that is carried over a channel comes to the next stop
  next_is : (stop index came : ℕ) (hop : Hop) (to : Node) (x : Crosses hop index to) → stop / 256 ≡ index → stop % 256 ≡ came
      → vl hop.out.node came hop.out.port level < 15 → IsNextStop s.said cells columns level stop (stop_at x.far hop.into.port)
  next_is stop index came hop to x q r less =
      let edge : Edge = record { port = hop.out.port; to = x.far } in
      let lane : lane_by s.said cells level stop edge ≡ vl hop.out.node came hop.out.port level =
      (λ i. lane_between s.said cells level (q i) (r i) hop.out.port) ∙ sym (x.lane came) in
      let there = index_below (switches cells) to.guid x.far x.far_is in
      let below : nat_lt x.far (length (switches cells)) ≡ true = lt-ltb x.far (length (switches cells)) there in
      let not_dropped : nat_lt (lane_by s.said cells level stop edge) 15 ≡ true = lt-ltb _ 15 (subst (λ l. l < 15) (sym lane) less) in
      let on : (nat_lt x.far (length (switches cells)) && nat_lt (lane_by s.said cells level stop edge) 15) ≡ true =
      and_from (nat_lt x.far (length (switches cells))) (nat_lt (lane_by s.said cells level stop edge) 15) below not_dropped in
      record {
        edge = edge;
        leaves = subst (λ i. HasEdge columns i edge) (sym q) x.edge;
        carried_is =
            ap (λ t. cond t (Some (stop_at x.far (port_across cells (stop / 256) hop.out.port))) None) on
            ∙ ap (λ i. Some (stop_at x.far (port_across cells i hop.out.port))) q
            ∙ ap (λ p. Some (stop_at x.far p)) x.port;
      }

  comes_on : (stop next there : ℕ) → IsNextStop s.said cells columns level stop next → next ≡ there → IsNextStop s.said cells columns level stop there
  comes_on stop next there on same = subst (λ (n : ℕ). IsNextStop s.said cells columns level stop n) same on

  -- two channels in turn
  takes : (stop index came : ℕ) (hop later : Hop) (to to_later : Node) (x : Crosses hop index to) (y : Crosses later x.far to_later) (channel next : ℕ)
      → stop / 256 ≡ index → stop % 256 ≡ came → vl hop.out.node came hop.out.port level < 15 → vl later.out.node hop.into.port later.out.port level < 15
      → channel ≡ lane_number index hop.out.port (vl hop.out.node came hop.out.port level)
      → next ≡ lane_number x.far later.out.port (vl later.out.node hop.into.port later.out.port level)
      → TakesByLane s.said cells columns level stop channel next
  takes stop index came hop later to to_later x y channel next q r less less_there e h =
      let out = hop.out.port in
      let lane : lane_between s.said cells level (stop / 256) (stop % 256) out ≡ vl hop.out.node came out level =
      (λ i. lane_between s.said cells level (q i) (r i) out) ∙ sym (x.lane came) in
      let port : port_across cells (stop / 256) out ≡ hop.into.port = ap (λ i. port_across cells i out) q ∙ x.port in
      let lane_there : lane_between s.said cells level x.far (port_across cells (stop / 256) out) later.out.port
      ≡ vl later.out.node hop.into.port later.out.port level =
      ap (λ p. lane_between s.said cells level x.far p later.out.port) port ∙ sym (y.lane hop.into.port) in
      record {
        first = record { port = out; to = x.far };
        second = record { port = later.out.port; to = y.far };
        leaves = subst (λ i. HasEdge columns i (record { port = out; to = x.far })) (sym q) x.edge;
        lane_is = subst (λ l. l < 15) (sym lane) less;
        leaves_there = y.edge;
        lane_there_is = subst (λ l. l < 15) (sym lane_there) less_there;
        channel_is = e ∙ (λ i. lane_number (sym q i) out (sym lane i));
        next_is = h ∙ ap (lane_number x.far later.out.port) (sym lane_there);
      }

  -- an end port of the part is one that the view has
  listed_sender : (source : NodePort) (node : Node) → IsEndPortIn part f source node
      → Contains (end_ports cells) (record { node = node.guid; port = source.port })
  listed_sender source node here =
      let told = seen.covers.tells_end_ports source node here in
      let (other, at, number) = here.end_port in
      let same : other ≡ node = same_Some other node (sym at ∙ here.node_there) in
      ((end_ports_law s.seen.facts).0 (record { node = node.guid; port = source.port })).1
      (node.kind, node.ports, told.kind, subst (λ (n : Node). IsEndPortNumber n source.port) same number, ap is_some told.port_guid)

  module _ (source : NodePort) (node : Node) (here : IsEndPortIn part f source node) (hops : List Hop) (end : Standing)
      (goes : Goes f lid (sent_from source) hops end) where
    abbrev sender : EndPort
    sender = record { node = node.guid; port = source.port }

    abbrev first : Option ℕ
    first = first_stop cells sender

    abbrev there : ℕ → Standing
    there j = standing (sent_from source) hops j

    into_is : (j : ℕ) (h : Hop) → slice_get hops j ≡ Some h → into_at hops j ≡ h.into
    into_is j h e = ap (λ o. option_map_or (λ (x : Hop). x.into) o (port_at 0 0)) e

    came_is : (j : ℕ) (h : Hop) → slice_get hops j ≡ Some h → came_by (suc j) hops ≡ h.into.port
    came_is j h e = ap (λ o. option_map_or (λ (x : Hop). x.into.port) o 0) e

    few_came : (j : ℕ) → came_by j hops ≤ 254
    few_came zero = omega arith
    few_came (suc j) =
        elim (slice_get hops j) as (λ o. slice_get hops j ≡ o → option_map_or (λ (x : Hop). x.into.port) o 0 ≤ 254) [
          | None ↦ λ e. omega arith
          | Some h ↦ λ e. small h.into h.out (seen.is_fabric.both_ways h.out h.into (went f lid hops (sent_from source) end j h goes e).1)
        ] refl

    within_at : (j : ℕ) (h : Hop) → slice_get hops j ≡ Some h → Within (there j)
    within_at zero h e = subst part (sym (own_vertex f source here.end_port)) here.in_part
    within_at (suc j) k e =
        let (h, is) = earlier hops j k e in
        let w = went f lid hops (sent_from source) end j h goes is in
        subst (λ (p : NodePort). part (vertex_of f p)) (sym (into_is j h is)) (stays_on (there j) h (within_at j h is) w.0 w.1)

    -- an adapter port's packet comes first to the switch that its wire leads to
    first_hop : (j : ℕ) (h : Hop) (from to : Node) (index : ℕ) → slice_get hops j ≡ Some h → IsNodeAt f (there j).at.node from → is_switch from.kind ≡ false
        → course f lid (there j) ≡ LeavesBy h.out → IsWire f h.out h.into → IsNodeAt f h.into.node to → index_in (switches cells) to.guid ≡ Some index
        → (j ≡ 0) × (first ≡ Some (stop_at index h.into.port))
    first_hop (suc j) h from to index e at kind on wire to_at index_is =
        let sent = (left_adapter f lid (there (suc j)) h.out from at kind on).0 in absurd (cc)
    first_hop zero h from to index e at kind on wire to_at index_is =
        let out : h.out ≡ source = (left_adapter f lid (sent_from source) h.out from at kind on).1 in
        let same : from ≡ node = same_Some from node (sym at ∙ here.node_there) in
        let vertex : part (vertex_of f h.out) = subst (λ (p : NodePort). part (vertex_of f p)) (sym out) (within_at zero h e) in
        let from_at : IsNodeAt f h.out.node node = ap (λ (p : NodePort). slice_get f.nodes p.node) out ∙ here.node_there in
        let told : across cells node.guid source.port ≡ Some (to.guid, h.into.port) =
        ap (λ (p : NodePort). across cells node.guid p.port) (sym out)
        ∙ wire_told part s.seen.facts mixed f seen h.out h.into node to wire.cable wire.different from_at to_at vertex in
        let far : far_of cells node.guid source.port ≡ Switch index =
        ap (far_to (switches cells)) told ∙ ap (far_at (to.guid, h.into.port)) index_is in
        let none : index_in (switches cells) node.guid ≡ None =
        elim (index_in (switches cells) node.guid) as (λ o. index_in (switches cells) node.guid ≡ o → o ≡ None) [
          | None ↦ λ k. refl
          | Some i ↦ λ k.
              let switch : is_switch from.kind ≡ true =
              ap (λ (n : Node). is_switch n.kind) same ∙ (indexed part s.seen.facts mixed f seen source node i here k).0 in
              absurd (cc)
        ] refl in
        (refl, λ i. stop_by (none i) (far i) (option_map_or port_in (told i) 0))

    -- where a packet is that none of the first `count` switches dropped
    module _ (count : ℕ) (carries : IsCarried cells f vl level hops count) where
      abbrev Comes : ℕ → ℕ → Type 0
      Comes index j = (n : ℕ) × ComesAfter s.said cells columns level n first (stop_at index (came_by j hops))

      comes : (j : ℕ) (k : Hop) (channel : ℕ) → slice_get hops j ≡ Some k → j < count → (d : IsChannel cells f k channel) → Comes d.index j
      comes zero k channel e less d =
          let on = (went f lid hops (sent_from source) end zero k goes e).0 in
          let at : k.out.node ≡ source.node = (leaves f lid (sent_from source) k.out on).node_is in
          let same : node ≡ d.from = same_Some node d.from (sym here.node_there ∙ ap (slice_get f.nodes) (sym at) ∙ d.from_there) in
          let index : index_in (switches cells) node.guid ≡ Some d.index =
          ap (λ (n : Node). index_in (switches cells) n.guid) same ∙ d.index_is in
          (0, ap (λ o. stop_by o (far_of cells node.guid source.port) (far_port cells node.guid source.port)) index)
      comes (suc j) k channel e less d =
          let (h, is) = earlier hops j k e in
          let w = went f lid hops (sent_from source) end j h goes is in
          let v = went f lid hops (sent_from source) end (suc j) k goes e in
          let further : course f lid (arrived_at h.into) ≡ LeavesBy k.out =
          ap (λ (p : NodePort). course f lid (arrived_at p)) (sym (into_is j h is)) ∙ v.0 in
          let to_at : IsNodeAt f h.into.node d.from =
          ap (slice_get f.nodes) (sym (leaves f lid (arrived_at h.into) k.out further).node_is) ∙ d.from_there in
          let apart : h.out ≢ h.into = λ loop.
          let out : k.out ≡ h.out = again f lid (there j) h k d.from to_at d.from_switch w.0 further loop in
          d.wire.different (out ∙ loop ∙ same_Some h.into k.into (sym w.1 ∙ ap f.across (sym out) ∙ v.1)) in
          let wire : IsWire f h.out h.into = record { cable = w.1; different = apart } in
          let its = leaves f lid (there j) h.out w.0 in
          let came = came_is j h is in
          elim (is_switch its.node.kind) as (λ t. is_switch its.node.kind ≡ t → Comes d.index (suc j)) [
            | true ↦ λ kind.
                let within = within_at j h is in
                let at : IsNodeAt f h.out.node its.node = ap (slice_get f.nodes) its.node_is ∙ its.node_there in
                let i = known part s.seen.facts mixed f seen closed lid some h.out its.node at kind (subst part (sym its.vertex_is) within) in
                let c : IsChannel cells f h (256 * i.index + h.out.port) =
                record {
                  wire = wire;
                  from = its.node;
                  from_there = at;
                  from_switch = kind;
                  to = d.from;
                  to_there = to_at;
                  to_switch = d.from_switch;
                  index = i.index;
                  index_is = i.index_is;
                  channel_is = refl;
                } in
                let before = comes j h (256 * i.index + h.out.port) is (omega arith) c in
                let x = crosses (there j) h (256 * i.index + h.out.port) c within w.0 in
                let same : x.far ≡ d.index = one_number (index_in (switches cells) d.from.guid) x.far d.index x.far_is d.index_is in
                let few = few_came j in
                let at_port : ℕ = came_by j hops in
                let there_is : stop_at x.far h.into.port ≡ stop_at d.index (came_by (suc j) hops) = λ n. stop_at (same n) (sym came n) in
                let next =
                next_is (stop_at i.index at_port) i.index at_port h d.from x (stop_switch i.index at_port few) (stop_port i.index at_port few)
                (carries j h (256 * i.index + h.out.port) (omega arith) is c) in (
                  suc before.0,
                  (
                    stop_at i.index at_port,
                    before.1,
                    comes_on (stop_at i.index at_port) (stop_at x.far h.into.port)
                        (stop_at d.index (came_by (suc j) hops)) next there_is,
                  ),
                )
            | false ↦ λ kind.
                let begun = first_hop j h its.node d.from d.index is its.node_there kind w.0 wire to_at d.index_is in
                (0, begun.1 ∙ ap (λ p. Some (stop_at d.index p)) (sym came))
          ] refl

      -- the packet takes two channels in turn by facts, tables and lanes
      waits : (answers : Bool) (nth channel next : ℕ) → suc nth < count → HasLevel s.said answers s.seen.held sender lid level
          → IsLaneChannel cells f vl level hops nth channel → IsLaneChannel cells f vl level hops (suc nth) next → WaitsByAny s others answers channel next
      waits answers nth channel next less has_level c d =
          let w = went f lid hops (sent_from source) end nth c.hop goes c.hop_is in
          let v = went f lid hops (sent_from source) end (suc nth) d.hop goes d.hop_is in
          let x = crosses (there nth) c.hop c.one_lane c.is (within_at nth c.hop c.hop_is) w.0 in
          let y = crosses (there (suc nth)) d.hop d.one_lane d.is (within_at (suc nth) d.hop d.hop_is) v.0 in
          let came = came_is nth c.hop c.hop_is in
          let at : d.hop.out.node ≡ c.hop.into.node =
          (leaves f lid (there (suc nth)) d.hop.out v.0).node_is ∙ ap (λ (p : NodePort). p.node) (into_is nth c.hop c.hop_is) in
          let same : c.is.to ≡ d.is.from = same_Some c.is.to d.is.from (sym c.is.to_there ∙ ap (slice_get f.nodes) (sym at) ∙ d.is.from_there) in
          let index : x.far ≡ d.is.index =
          one_number (index_in (switches cells) c.is.to.guid) x.far d.is.index x.far_is
          (ap (λ (n : Node). index_in (switches cells) n.guid) same ∙ d.is.index_is) in
          let reached = comes nth c.hop c.one_lane c.hop_is (omega arith) c.is in
          let listed = listed_sender source node here in
          let port = came_by nth hops in
          let few = few_came nth in
          let there_lane : ℕ → ℕ = λ p. vl d.hop.out.node p d.hop.out.port level in
          let there_less : there_lane c.hop.into.port < 15 =
          subst (λ (p : ℕ). there_lane p < 15) came (carries (suc nth) d.hop d.one_lane less d.hop_is d.is) in
          let next_is : next ≡ lane_number x.far d.hop.out.port (there_lane c.hop.into.port) =
          d.channel_is ∙ (λ i. 16 * d.is.channel_is i + there_lane (came i))
          ∙ ap (λ i. lane_number i d.hop.out.port (there_lane c.hop.into.port)) (sym index) in
          record {
            lid = lid;
            is_lid = some;
            takes = record {
              level = level;
              stop = stop_at c.is.index port;
              reaches = record {
                first = first;
                begins = (
                  listed.0,
                  record {
                    source = sender;
                    source_is = slice_get-get_or (end_ports cells) listed.0 sender listed.1 ∙ ap (λ (e : EndPort). Some e) listed.2;
                    has_level = has_level;
                    begins = refl;
                  },
                );
                count = reached.0;
                is_there = reached.1;
              };
              takes =
                  takes (stop_at c.is.index port) c.is.index port c.hop d.hop c.is.to d.is.to x (subst (λ (i : ℕ). Crosses d.hop i d.is.to) (sym index) y)
                  channel next (stop_switch c.is.index port few) (stop_port c.is.index port few)
                  (carries nth c.hop c.one_lane (omega arith) c.hop_is c.is) there_less
                  (c.channel_is ∙ ap (λ o. 16 * o + lane_at vl level hops nth c.hop) c.is.channel_is) next_is;
            };
          }

pub lane_channels_rise : LaneChannelsRise
lane_channels_rise s answers f origin vl is_end seen holds r level hops t nth channel next carries c d =
    let part : Part = IsJoinedTo f origin in
    let after : nth + 1 ≡ suc nth = omega arith in
    let later = subst (λ (n : ℕ). IsLaneChannel (cells_of s.seen.facts) f vl level hops n next) after d in
    r.rises channel next
    (waits s [] s.seen.held f part seen (joined_closed f seen.is_fabric origin) vl holds t.lid t.is_lid (λ index edge is. (0, is)) level t.source t.node
    t.is_source hops t.end t.goes (nth + 2) carries
    answers nth channel next (omega arith) t.has_level c later)
