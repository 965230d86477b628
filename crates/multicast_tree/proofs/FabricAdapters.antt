-- In a fabric whose switches have the masks of a tree, each adapter gets one copy.
use Rattle.std.proofs.Common.{◌≡◌, ◌≢◌, ℕ, zero, List, inl, refl, sym, ap, ◌∙◌, subst, Bool, true, false}
use Rattle.std.proofs.lemmas.Option.{same_Some}
use Rattle.std.specs.Prelude.{Some, slice_get}
use Rattle.fabric_model.specs.declared.cable.NodePort.{NodePort}
use Rattle.fabric_model.specs.Fabric.{Fabric, IsEndPort, Node, is_switch_at}
use Rattle.fabric_model.specs.FabricWalks.{IsJoinedTo, IsWire, vertex_of}
use Rattle.fabric_model.proofs.FabricWalks.{adapter_vertex, port_at, same_port, switch_vertex, type_at, vertex_is_end, vertex_node, walk_further}
use Rattle.fact_store.specs.View.{Facts, cells_of}
use Rattle.subnet_view.specs.Reading.{Cells}
use Rattle.subnet_view.specs.FabricAgreement.{HasWire, IsEndPortIn}
use Rattle.subnet_view.specs.Wires.{attached}
use Rattle.subnet_view.specs.Components.{distance, in_one_component}
use Rattle.subnet_view.specs.Graph.{graph_of}
use Rattle.subnet_view.proofs.Attachments.{attached_law}
use Rattle.subnet_view.proofs.Components.{is_some_of, walk_of}
use Rattle.subnet_view.proofs.Graphs.{graph_law}
use Rattle.subnet_view.proofs.Joined.{LiesAt, itself, by_wire, Meets, same, wired, apart, joined_meet, own_attachment}
use Rattle.subnet_view.proofs.PartWires.{IsTold, SwitchIn, switch_at_index, switch_in_part, switch_port, switch_port_vertex, switch_usable}
use Rattle.subnet_view.proofs.UsableSwitches.{usable_law}
use Rattle.lft_blocks.specs.Rule.{RuleValue}
use Rattle.plan_order.specs.PlanOrder.{positions_by}
use Rattle.multicast_tree.specs.Copies.{CopyGoes}
use Rattle.multicast_tree.specs.Tree.{copying_in, masks_of, tree_in, tree_of}
use Rattle.multicast_tree.specs.FabricCopies.{EachGetsOneCopyInFabric, IsAdapterPortIn, IsOneCopy, IsSenderIn, IsWithinAt, IsWholeAt}
use Rattle.multicast_tree.specs.FabricCopies.{NoPortTwiceInFabric, NoneToTheSenderInFabric, copying_at, pair_of}
use Rattle.multicast_tree.proofs.FabricCopies.{Names, copy_there, copy_told, facts_told, one_name, one_port, same_type}
use Rattle.multicast_tree.proofs.Masks.{masks_are_whole}
use Rattle.multicast_tree.proofs.Trees.{no_port_twice, none_to_the_sender}
use Rattle.multicast_tree.proofs.Whole.{each_gets_a_copy}

-- the name of a port of the part
port_names : (f : Fabric) (origin at : NodePort) (node : Node) → IsEndPortIn (IsJoinedTo f origin) f (vertex_of f at) node
    → Names f origin (pair_of at) (node.guid, at.port)
port_names f origin at node here =
    record {
      named = record { node = node; node_there = ap (slice_get f.nodes) (sym (vertex_node f at)) ∙ here.node_there; guid_is = refl; port_is = refl };
      here = here;
    }

pub no_port_twice_in_fabric : NoPortTwiceInFabric
no_port_twice_in_fabric facts positions f origin fab covers group within at end node ports others here c d =
    let told = facts_told facts f origin fab covers in
    let n = port_names f origin at node here in
    let a = copy_told facts positions f origin told group within ports (pair_of at) (node.guid, at.port) (pair_of end) n c in
    let b = copy_told facts positions f origin told group within others (pair_of at) (node.guid, at.port) (pair_of end) n d in
    let tree = tree_in (cells_of facts) positions in
    no_port_twice facts positions (masks_of tree) (λ g p h. (masks_are_whole tree g p).0 h) (node.guid, at.port) b.name ports others
    (subst (λ (v : ℕ × ℕ). CopyGoes (copying_in (cells_of facts) (masks_of tree)) (node.guid, at.port) ports v) (one_name told a.names b.names) a.goes) b.goes

-- a port of a switch of the part has a name
switch_names : {f : Fabric} {origin : NodePort} {index g : ℕ} (s : SwitchIn f origin index g) (p : ℕ) → Names f origin (index, p) (g, p)
switch_names {f = f} {origin = origin} {index = index} s p =
    record {
      named = record { node = s.node; node_there = s.at; guid_is = s.guid; port_is = refl };
      here = subst (λ (x : NodePort). IsEndPortIn (IsJoinedTo f origin) f x s.node) (sym (switch_port_vertex s (port_at index p) refl)) (switch_in_part s);
    }

module _ (facts : Facts) (f : Fabric) (origin : NodePort) (told : IsTold (cells_of facts) f origin) where
  abbrev cells : Cells
  cells = cells_of facts

  -- an adapter port and the switch's port that it is attached to
  record Sender (sender at : NodePort) : Type 0 where
    guid : ℕ
    there : SwitchIn f origin at.node guid
    adapter : ℕ
    names : Names f origin (pair_of sender) (adapter, sender.port)
    attached_at : attached (cells_of facts) adapter sender.port ≡ Some (guid, at.port)

  leaf : (e : NodePort) (a : IsAdapterPortIn (IsJoinedTo f origin) f e) → is_switch_at f e.node ≡ false
  leaf e a = type_at f e.node a.node a.here.node_there ∙ a.not_a_switch

  -- a cable between an adapter and a switch is a wire
  is_wire : (sender at : NodePort) → is_switch_at f sender.node ≡ false → is_switch_at f at.node ≡ true → f.across sender ≡ Some at → IsWire f sender at
  is_wire sender at e u cable =
      record { cable = cable; different = λ k. let z = ap (λ (x : NodePort). is_switch_at f x.node) k in cc }

  sender_at : (sender at : NodePort) (g : ℕ) → IsAdapterPortIn (IsJoinedTo f origin) f sender → f.across sender ≡ Some at → SwitchIn f origin at.node g
      → Sender sender at
  sender_at sender at g a cable s =
      let no_switch = leaf sender a in
      let vertex = adapter_vertex f sender no_switch in
      let names = port_names f origin sender a.node (subst (λ (x : NodePort). IsEndPortIn (IsJoinedTo f origin) f x a.node) (sym vertex) a.here) in
      let wire : HasWire (IsJoinedTo f origin) f a.node.guid sender.port g at.port =
      record {
        from = sender;
        to = at;
        from_named = names.named;
        to_named = switch_port s at.port;
        wire = is_wire sender at no_switch (switch_at_index s) cable;
        in_part = subst (IsJoinedTo f origin) (sym vertex) a.here.in_part;
      } in
      record {
        guid = g;
        there = s;
        adapter = a.node.guid;
        names = names;
        attached_at = (attached_law cells a.node.guid sender.port g at.port).1 (record {
          not_a_switch = same_type told names ∙ no_switch;
          wire = told.covers.wires_told a.node.guid sender.port g at.port wire;
          to_switch = (usable_law cells g).0 (switch_usable told s);
        });
      }

  -- where an adapter port that is joined lies
  lies_by : (sender at h : NodePort) → is_switch_at f sender.node ≡ false → f.across sender ≡ Some at → LiesAt f sender h → h ≡ at
  lies_by sender at h e cable (itself s z i) = absurd (cc)
  lies_by sender at h e cable (by_wire s i) = same_Some h at (sym i ∙ cable)

  -- the switch that the origin itself is attached to
  first_switch : (sender at : NodePort) → IsSenderIn (IsJoinedTo f origin) f sender at → origin ≡ sender → (g : ℕ) × SwitchIn f origin at.node g
  first_switch sender at i e =
      let no_switch = leaf sender i.adapter in
      let vertex = switch_vertex f at i.to_switch in
      let end = subst (IsEndPort f) vertex (vertex_is_end f at (told.is_fabric.cabled at sender (told.is_fabric.both_ways sender at i.cable))) in
      let walk = walk_further f zero origin sender (port_at at.node 0) e (inl refl)
      (record {
        out = sender;
        into = at;
        wire = is_wire sender at no_switch i.to_switch i.cable;
        of_one = adapter_vertex f sender no_switch;
        of_other = vertex;
      }) in
      let a = own_attachment f origin (port_at at.node 0) end (1, walk) i.to_switch in
      (a.0, a.1.there)

  module _ (is_origin : IsEndPort f origin) where
    attached_sender : (sender at : NodePort) → IsSenderIn (IsJoinedTo f origin) f sender at → Sender sender at
    attached_sender sender at i = by_origin (joined_meet told is_origin origin sender (0, refl) i.adapter.here.in_part)
      where
        no_switch : is_switch_at f sender.node ≡ false
        no_switch = leaf sender i.adapter

        by_origin : Meets cells f origin origin sender → Sender sender at
        by_origin (same e) = let s = first_switch sender at i e in sender_at sender at s.0 i.adapter i.cable s.1
        by_origin (wired s t e) =
            absurd (let k = same_Some origin at (sym (told.is_fabric.both_ways origin sender e) ∙ i.cable) in
            let z = ap (λ (x : NodePort). is_switch_at f x.node) k in let u = i.to_switch in cc)
        by_origin (apart h k a b at_h at_k e) =
            let here : k ≡ at = lies_by sender at k no_switch i.cable at_k.lies in
            sender_at sender at b i.adapter i.cable (subst (λ (x : NodePort). SwitchIn f origin x.node b) here at_k.there)

    -- the receiver is attached too, to a switch in the same component
    record Receiver (sender at receiver : NodePort) : Type 0 where
      there : NodePort
      from : Sender sender at
      to : Sender receiver there
      component : in_one_component (graph_of (cells_of facts)) from.guid to.guid ≡ true

    cable_of : (e h : NodePort) → is_switch_at f e.node ≡ false → LiesAt f e h → f.across e ≡ Some h
    cable_of e h k (itself s z i) = absurd (cc)
    cable_of e h k (by_wire s i) = i

    receiver_of : (sender at receiver : NodePort) → IsSenderIn (IsJoinedTo f origin) f sender at → IsAdapterPortIn (IsJoinedTo f origin) f receiver
        → sender ≢ receiver → Receiver sender at receiver
    unfolding sender_at
    receiver_of sender at receiver i r ne = by_meeting (joined_meet told is_origin sender receiver i.adapter.here.in_part r.here.in_part)
      where
        by_meeting : Meets cells f origin sender receiver → Receiver sender at receiver
        by_meeting (same e) = absurd (ne e)
        by_meeting (wired s t e) =
            absurd (let k = same_Some receiver at (sym e ∙ i.cable) in
            let z = ap (λ (x : NodePort). is_switch_at f x.node) k in let u = i.to_switch in cc)
        by_meeting (apart h k a b at_h at_k e) =
            let here : h ≡ at = lies_by sender at h (leaf sender i.adapter) i.cable at_h.lies in
            record {
              there = k;
              from = sender_at sender at a i.adapter i.cable (subst (λ (x : NodePort). SwitchIn f origin x.node a) here at_h.there);
              to = sender_at receiver k b r (cable_of receiver k (leaf receiver r) at_k.lies) at_k.there;
              component = e;
            }

    none_back : (positions : List ℕ) (group : ℕ → ℕ → Bool) → IsWithinAt (IsJoinedTo f origin) (tree_in cells positions) f group
        → (sender at : NodePort) (ports : List ℕ) → IsSenderIn (IsJoinedTo f origin) f sender at
        → CopyGoes (copying_at f group) (pair_of at) ports (pair_of sender) → ⊥
    none_back positions group within sender at ports i c =
        let s = attached_sender sender at i in
        let tree = tree_in cells positions in
        let t = copy_told facts positions f origin told group within ports (pair_of at) (s.guid, at.port) (pair_of sender) (switch_names s.there at.port) c in
        none_to_the_sender facts positions (masks_of tree) (λ g p h. (masks_are_whole tree g p).0 h) (s.adapter, sender.port) (s.guid, at.port) ports
        s.attached_at (subst (λ (v : ℕ × ℕ). CopyGoes (copying_in (cells_of facts) (masks_of tree)) (s.guid, at.port) ports v) (one_name told t.names s.names) t.goes)

    one_copy : (rule : RuleValue) (group : ℕ → ℕ → Bool) → IsWholeAt (IsJoinedTo f origin) (tree_of rule cells) f group
        → (sender at receiver : NodePort) → IsSenderIn (IsJoinedTo f origin) f sender at → IsAdapterPortIn (IsJoinedTo f origin) f receiver
        → sender ≢ receiver → IsOneCopy (copying_at f group) (pair_of at) (pair_of receiver)
    one_copy rule group whole sender at receiver i r ne =
        let x = receiver_of sender at receiver i r ne in
        let s = x.from in
        let d = x.to in
        let positions = positions_by rule cells in
        let tree = tree_in cells positions in
        let walk = is_some_of (distance (graph_of cells) s.guid d.guid) x.component in
        let apart_names : ◌≢◌ {A = ℕ × ℕ} (s.adapter, sender.port) (d.adapter, receiver.port) =
        λ e.
        let k = one_port told s.names (subst (λ (v : ℕ × ℕ). Names f origin (pair_of receiver) v) (sym e) d.names) in
        ne (same_port sender receiver (λ j. (k j).0) (λ j. (k j).1)) in
        let g = each_gets_a_copy rule facts (masks_of tree) (masks_are_whole tree) (s.adapter, sender.port) (d.adapter, receiver.port)
        (s.guid, at.port) (d.guid, x.there.port) walk.0 apart_names s.attached_at d.attached_at (walk_of (graph_of cells) (graph_law facts) s.guid d.guid walk.0 walk.1) in
        let c = copy_there facts positions f origin told group whole g.0 (pair_of at) (s.guid, at.port) (d.adapter, receiver.port)
        (switch_names s.there at.port) g.1 in
        let goes = subst (λ (y : ℕ × ℕ). CopyGoes (copying_at f group) (pair_of at) g.0 y) (one_port told c.names d.names) c.goes in
        record {
          ports = g.0;
          goes = goes;
          no_other = λ others o.
              no_port_twice_in_fabric facts positions f origin told.is_fabric told.covers group (λ port node e h p k. (whole port node e h p).0 k)
              at receiver s.there.node g.0 others
              (subst (λ (y : NodePort). IsEndPortIn (IsJoinedTo f origin) f y s.there.node) (sym (switch_port_vertex s.there at refl)) (switch_in_part s.there))
              goes o;
        }

pub none_to_the_sender_in_fabric : NoneToTheSenderInFabric
none_to_the_sender_in_fabric facts positions f origin fab is_origin covers group within sender at ports i c =
    none_back facts f origin (facts_told facts f origin fab covers) is_origin positions group within sender at ports i c

pub each_gets_one_copy_in_fabric : EachGetsOneCopyInFabric
each_gets_one_copy_in_fabric rule facts f origin fab is_origin covers group whole sender at receiver i r ne =
    one_copy facts f origin (facts_told facts f origin fab covers) is_origin rule group whole sender at receiver i r ne
