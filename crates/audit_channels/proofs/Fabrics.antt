-- In a fabric that facts describe and that holds the tables, a packet takes channels as the edges lead.
use Rattle.std.proofs.Common.{◌≡◌, ℕ, zero, suc, ◌<◌, ◌≤◌, ◌+◌, ◌*◌, List, [], ◌∷◌, None, Some, sym, ap, ◌∙◌, subst, arith}
use Rattle.std.specs.Prelude.{slice_get, slice_index_or}
use Rattle.std.proofs.lemmas.Option.{same_Some}
use Rattle.fabric_model.specs.declared.course.Course.TheVariants.{LeavesBy}
use Rattle.fabric_model.specs.Fabric.{Node, Fabric}
use Rattle.fabric_model.specs.FabricWalks.{IsJoinedTo, vertex_of}
use Rattle.fabric_model.specs.Forwarding.{Standing, sent_from, arrived_at, course, Hop, Goes}
use Rattle.audit_channels.specs.Column.{TakesInTurn}
use Rattle.fact_store.specs.View.{Facts, cells_of}
use Rattle.subnet_view.specs.Reading.{Cells, switches}
use Rattle.subnet_view.specs.FabricAgreement.{Part}
use Rattle.packet_walks.specs.Held.{HeldPlan}
use Rattle.packet_walks.specs.Edges.{edges_of}
use Rattle.packet_walks.specs.Fabrics.{IsSeenIn}
use Rattle.packet_walks.specs.Switches.{index_in}
use Rattle.packet_walks.proofs.Told.{IsClosed, joined_closed}
use Rattle.audit_channels.specs.Fabrics.{IsChannel, ChannelsRise}
use Rattle.audit_channels.specs.ChannelOrders.{CanRise}
use Rattle.audit_channels.proofs.TakenEdges.{edges, leaves, own_vertex, stays}
use Rattle.audit_channels.specs.Waiting.{WaitsFor}

module _ (part : Part) (facts : Facts) (held : HeldPlan) (f : Fabric) (seen : IsSeenIn part (cells_of facts) held f) (closed : IsClosed part f) (lid : ℕ)
    (some : 1 ≤ lid) where
  abbrev cells : Cells
  cells = cells_of facts

  module _ (rise : CanRise (WaitsFor cells held)) (channel next : ℕ) where
    abbrev Rises : Type 0
    Rises = rise.number channel < rise.number next

    -- two wires in turn
    in_turn : (st : Standing) (hop later : Hop) → part (vertex_of f st.at) → course f lid st ≡ LeavesBy hop.out → f.across hop.out ≡ Some hop.into
        → course f lid (arrived_at hop.into) ≡ LeavesBy later.out → IsChannel cells f hop channel → IsChannel cells f later next → Rises
    in_turn st hop later within on cable further c d =
        let one = edges part facts held f seen closed lid some st hop channel c within on in
        let two =
        edges part facts held f seen closed lid some (arrived_at hop.into) later next d (stays part facts held f seen closed lid some st hop within on cable) further in
        let its = leaves f lid (arrived_at hop.into) later.out further in
        let same : c.to ≡ d.from = same_Some c.to d.from (sym c.to_there ∙ ap (slice_get f.nodes) (sym its.node_is) ∙ d.from_there) in
        let index : one.far ≡ d.index =
        same_Some one.far d.index (sym one.far_is ∙ ap (λ (n : Node). index_in (switches cells) n.guid) same ∙ d.index_is) in
        let takes : TakesInTurn (edges_of cells held lid) c.index channel next =
        record {
          first = record { port = hop.out.port; to = one.far };
          second = record { port = later.out.port; to = two.far };
          leaves = one.edge;
          leaves_there = ap (λ i. slice_index_or (edges_of cells held lid) i None) index ∙ two.edge;
          channel_is = c.channel_is;
          next_is = d.channel_is ∙ ap (λ i. 256 * i + later.out.port) (sym index);
        } in
        rise.rises channel next (record { lid = lid; is_lid = some; switch = c.index; takes = takes })

    pub along : (nth : ℕ) (hops : List Hop) (st end : Standing) (hop later : Hop) → part (vertex_of f st.at) → Goes f lid st hops end → slice_get hops nth ≡ Some hop
        → slice_get hops (suc nth) ≡ Some later → IsChannel cells f hop channel → IsChannel cells f later next → Rises
    along nth [] st end hop later within g a b c d = absurd (cc)
    along zero (h ∷ []) st end hop later within g a b c d = absurd (cc)
    along zero (h ∷ k ∷ hops) st end hop later within g a b c d =
        let first : h ≡ hop = same_Some h hop a in
        let second : k ≡ later = same_Some k later b in
        in_turn st h k within g.0 g.1 g.2.0 (subst (λ (x : Hop). IsChannel cells f x channel) (sym first) c)
        (subst (λ (x : Hop). IsChannel cells f x next) (sym second) d)
    along (suc nth) (h ∷ hops) st end hop later within g a b c d =
        along nth hops (arrived_at h.into) end hop later (stays part facts held f seen closed lid some st h within g.0 g.1) g.2 a b c d

pub channels_rise : ChannelsRise
channels_rise facts held f origin is_end seen rise hops t channel next turn =
    let part : Part = IsJoinedTo f origin in
    let within : part (vertex_of f t.source) = subst part (sym (own_vertex f t.source t.is_source.end_port)) t.is_source.in_part in
    let after : turn.nth + 1 ≡ suc turn.nth = omega arith in
    let next_there : slice_get hops (suc turn.nth) ≡ Some turn.later = subst (λ (n : ℕ). slice_get hops n ≡ Some turn.later) after turn.later_is in
    along part facts held f seen (joined_closed f seen.is_fabric origin) t.lid t.is_lid rise channel next turn.nth hops (sent_from t.source) t.end
    turn.hop turn.later within t.goes turn.hop_is next_there turn.channel_is turn.next_is
