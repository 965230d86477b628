-- What becomes of a packet at one port, and along a way by next ports.
use Rattle.std.proofs.Common.{◌≡◌, ◌≤◌, ℕ, List, [], ◌∷◌, ◌++◌, refl, sym, ap, ◌∙◌, subst, arith, true, false, cond, ◌==◌, ◌||◌}
use Rattle.std.proofs.lemmas.Bool.{eqb-true, eq-eqb, ne_eqb, le-ltb, or_from, false_from_ne_true}
use Rattle.std.proofs.lemmas.Option.{same_Some}
use Rattle.std.specs.Prelude.{Some, nat_lt, unwrap_or, slice_get}
use Rattle.std.specs.Option.{option_map_or}
use Rattle.fabric_model.specs.declared.cable.NodePort.{NodePort}
use Rattle.fabric_model.specs.declared.course.Course.TheVariants.{Delivers, LeavesBy, Drops}
use Rattle.fabric_model.specs.Fabric.{Node, Fabric, is_switch_at}
use Rattle.fabric_model.specs.FabricWalks.{IsJoinedTo}
use Rattle.fabric_model.specs.Forwarding.{Standing, arrived_at, course, entry_course, switch_course, Hop, Goes}
use Rattle.fabric_model.proofs.FabricWalks.{port_at}
use Rattle.fabric_model.proofs.NodeCourses.{switch_does}
use Rattle.subnet_view.specs.declared.end_port.EndPort.{EndPort}
use Rattle.subnet_view.specs.Reading.{Cells, is_usable}
use Rattle.lid_assign.specs.Lids.{lids}
use Rattle.port_graph.specs.declared.edge.Edge.{Edge}
use Rattle.subnet_view.specs.Graph.{graph_of}
use Rattle.subnet_view.specs.Routing.{Routing, Passes, FollowsRule}
use Rattle.subnet_view.proofs.Graphs.{edge_is_wire}
use Rattle.subnet_view.proofs.PartWires.{IsTold, SwitchIn, switch_at_index, switch_in_part, switch_usable, edge_in_fabric}
use Rattle.subnet_view.specs.Wires.{attachment_of}
use Rattle.lft_blocks.specs.Arrival.{guid_at}
use Rattle.lft_blocks.proofs.HeldEntries.{entry_of, owned_to_top, owned_from_one, entry_by_attachment, held_entry}
use Rattle.lft_blocks.proofs.OwnerPorts.{IsPlanned}

-- the wires of the fabric that are these edges, between switches
abbrev pub Follows : Fabric → ℕ → List Edge → List Hop → Type 0
Follows f s [] [] = Unit {0}
Follows f s [] (h ∷ hops) = ⊥
Follows f s (e ∷ es) [] = ⊥
Follows f s (e ∷ es) (h ∷ hops) =
    (guid_at f h.out ≡ s) × (guid_at f h.into ≡ e.to) × (is_switch_at f h.out.node ≡ true) × (is_switch_at f h.into.node ≡ true) × Follows f e.to es hops

-- a packet's wires along a way, as far as the switch at its end
pub record WayTaken (f : Fabric) (origin : NodePort) (lid : ℕ) (start : Standing) (s t : ℕ) (es : List Edge) : Type 0 where
  pub hops : List Hop
  pub end : Standing
  pub goes : Goes f lid start hops end
  pub follows : Follows f s es hops
  pub there : SwitchIn f origin end.at.node t

-- the GUID at a switch's index
pub guid_there : {f : Fabric} {origin : NodePort} {index g : ℕ} (p : NodePort) → SwitchIn f origin index g → p.node ≡ index → guid_at f p ≡ g
guid_there {f = f} p s here = ap (λ o. option_map_or (λ (n : Node). n.guid) o 0) (ap (slice_get f.nodes) here ∙ s.at) ∙ s.guid

module _ (f : Fabric) (lid : ℕ) where
  -- over some wires, and then over others
  pub goes_on : (hops others : List Hop) (start middle end : Standing) → Goes f lid start hops middle → Goes f lid middle others end
      → Goes f lid start (hops ++ others) end
  goes_on [] others start middle end g k = subst (λ (x : Standing). Goes f lid x others end) (sym g) k
  goes_on (h ∷ hops) others start middle end (leaves, wire, rest) k = (leaves, wire, goes_on hops others (arrived_at h.into) middle end rest k)

module _ {rule : Routing} {lmc : ℕ} {cells : Cells} {f : Fabric} {origin : NodePort} {lid : ℕ} {owner : EndPort} (told : IsTold cells f origin)
    (planned : IsPlanned rule lmc cells f origin lid owner) where
  -- a switch of the part goes by the plan's entry
  by_entry : {index g : ℕ} (p : ℕ) (start : Standing) → SwitchIn f origin index g → start.at.node ≡ index → entry_of rule lmc cells g lid ≡ p
      → (node : Node) × (slice_get f.nodes index ≡ Some node) × (course f lid start ≡ entry_course node.ports index p)
  by_entry {index = index} {g = g} p start s here entry =
      let (top, top_is, below) = owned_to_top (lids lmc cells) owner lid planned.owned in
      let low : lid ≤ f.top index = omega (arith, below, (planned.held (port_at index 0) s.node (switch_in_part s)).top s.is_switch top top_is) in
      let from_one = owned_from_one lmc cells planned.are_lids lid owner planned.owned in
      let usable : is_usable cells s.node.guid ≡ true = ap (is_usable cells) s.guid ∙ switch_usable told s in
      let its_entry : f.entry index lid ≡ p =
      held_entry rule (IsJoinedTo f origin) lmc cells f planned.blocks planned.held (port_at index 0) s.node (switch_in_part s) usable lid top top_is below
      ∙ ap (λ x. entry_of rule lmc cells x lid) s.guid
      ∙ entry in
      let inside : (lid == 0 || nat_lt (f.top index) lid) ≡ false =
      or_from (lid == 0) (nat_lt (f.top index) lid) (ne_eqb lid 0 (λ e. omega (arith, e, from_one))) (le-ltb (f.top index) lid low) in (
        s.node,
        s.at,
        switch_does f lid start s.node (ap (slice_get f.nodes) here ∙ s.at) s.is_switch
            ∙ ap (λ k. switch_course s.node.ports k (f.top k) lid (f.entry k lid)) here
            ∙ ap (λ t. cond t Drops (entry_course s.node.ports index (f.entry index lid))) inside
            ∙ ap (entry_course s.node.ports index) its_entry,
      )

  -- by entry 0 it is the packet's end
  pub switch_takes : {index g : ℕ} (start : Standing) → SwitchIn f origin index g → start.at.node ≡ index → entry_of rule lmc cells g lid ≡ 0
      → course f lid start ≡ Delivers (port_at index 0)
  switch_takes {index = index} start s here entry =
      let (node, at, takes) = by_entry 0 start s here entry in
      takes ∙ ap (λ t. cond t Drops (Delivers (port_at index 0))) (le-ltb node.ports 0 (omega arith))

  -- by the port of a wire the packet leaves
  pub switch_sends : {index g : ℕ} (p : ℕ) (start : Standing) (into : NodePort) → SwitchIn f origin index g → start.at.node ≡ index
      → entry_of rule lmc cells g lid ≡ p → f.across (port_at index p) ≡ Some into → course f lid start ≡ LeavesBy (port_at index p)
  switch_sends {index = index} p start into s here entry wire =
      let (node, at, goes) = by_entry p start s here entry in
      let (other, at_other, from_one, in_count) = told.is_fabric.cabled (port_at index p) into wire in
      let low : p ≤ node.ports = subst (λ (n : Node). p ≤ n.ports) (same_Some other node (sym at_other ∙ at)) in_count in
      let count = (told.is_fabric.counts index node at).1 in
      let is_port : (p == 255 || nat_lt node.ports p) ≡ false =
      or_from (p == 255) (nat_lt node.ports p) (ne_eqb p 255 (λ e. omega (arith, e, low, count))) (le-ltb node.ports p low) in
      goes
      ∙ ap (λ t. cond t Drops (cond (p == 0) (Delivers (port_at index 0)) (LeavesBy (port_at index p)))) is_port
      ∙ ap (λ t. cond t (Delivers (port_at index 0)) (LeavesBy (port_at index p))) (ne_eqb p 0 (λ e. omega (arith, e, from_one)))

  -- the owner's attachment is port q of switch t
  module _ {t q : ℕ} (attachment : attachment_of cells owner ≡ Some (t, q)) where
    -- elsewhere the entry is the next port
    entry_on_way : (s p : ℕ) → (s == t) ≡ false → rule.next lid s t ≡ Some p → entry_of rule lmc cells s lid ≡ p
    entry_on_way s p apart next =
        entry_by_attachment rule lmc cells s lid owner (t, q) planned.owned attachment
        ∙ ap (λ b. cond b q (unwrap_or (rule.next lid s t) 255))
        (false_from_ne_true (t == s) (λ e. cc (apart, eq-eqb s t (sym (eqb-true t s e)))))
        ∙ ap (λ o. unwrap_or o 255) next

    -- and there it is the attachment's port
    pub entry_at_attachment : entry_of rule lmc cells t lid ≡ q
    entry_at_attachment =
        entry_by_attachment rule lmc cells t lid owner (t, q) planned.owned attachment
        ∙ ap (λ b. cond b q (unwrap_or (rule.next lid t t) 255)) (eq-eqb t t refl)

    -- along next ports the packet goes over the wires of the way
    pub way_taken : (es : List Edge) {s index : ℕ} (start : Standing) → SwitchIn f origin index s → start.at.node ≡ index
        → FollowsRule rule lid t s es → Passes (graph_of cells) s es → WayTaken f origin lid start s t es
    way_taken [] {index = index} start here at goes passes =
        record {
          hops = [];
          end = start;
          goes = refl;
          follows = tt;
          there = subst (λ (x : ℕ). SwitchIn f origin x t) (sym at) (subst (SwitchIn f origin index) goes here);
        }
    way_taken (e ∷ es) {s = s} {index = index} start here at (elsewhere, next, goes) (edge, passes) =
        let wire = edge_in_fabric told here (edge_is_wire cells s e edge) in
        let rest = way_taken es (arrived_at wire.into) wire.there refl goes passes in
        record {
          hops = record { out = port_at index e.port; into = wire.into } ∷ rest.hops;
          end = rest.end;
          goes = (switch_sends e.port start wire.into here at (entry_on_way s e.port elsewhere next) wire.wire, wire.wire, rest.goes);
          follows = (
            guid_there (port_at index e.port) here refl,
            guid_there wire.into wire.there refl,
            switch_at_index here,
            switch_at_index wire.there,
            rest.follows,
          );
          there = rest.there;
        }
