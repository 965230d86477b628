-- When all packets arrive, and channels can be numbered.
use Rattle.std.proofs.Common.{◌≡◌, ◌+◌, ℕ, List, [], ◌∷◌, refl, sym, ap, ◌∙◌, subst, arith, inl, inr, Bool, true, false, cond, length}
use Rattle.std.specs.Prelude.{Contains, Some, IsTrue, ◌↔◌, ◌==◌, count_by, filter}
use Rattle.std.proofs.lemmas.Bool.{eqb-true, eq-eqb}
use Rattle.std.proofs.lemmas.List.{nil_from_length}
use Rattle.std.proofs.lemmas.List.Sums.{sum_by-cons, count_by-le-length}
use Rattle.fact_store.specs.View.{cells_of}
use Rattle.subnet_view.specs.declared.end_port.EndPort.{EndPort}
use Rattle.subnet_view.specs.EndPort.{end_ports}
use Rattle.subnet_view.specs.Reading.{Cells}
use Rattle.subnet_view.proofs.Members.{contains_here, contains_later, contains_cases, contains_none, contains_filter, contains-from_filter, list_any_true}
use Rattle.subnet_view.proofs.Members.{list_any_at}
use Rattle.subnet_view.proofs.Apart.{contains_map, contains-from_map}
use Rattle.held_tables.specs.declared.held.HeldLid.{HeldLid}
use Rattle.held_tables.specs.Held.{HeldPlan}
use Rattle.held_tables.proofs.Lists.{in_lists, from_lists}
use Rattle.packet_walks.specs.declared.packet_end.End.TheVariants.{Taken}
use Rattle.packet_walks.specs.Network.{Seen}
use Rattle.packet_walks.specs.HopsByTables.{end_for, is_at}
use Rattle.held_tables.specs.Tables.{is_owner, is_same_end, lines_of}
use Rattle.held_tables.proofs.Once.{once_from, once_has}
use Rattle.packet_walks.proofs.InTime.{end_found, end_is}
use Rattle.packet_walks.proofs.Judged.{same_ends, same_itself, at_is}
use Rattle.audit_channels.specs.ChannelOrders.{CanRise, IsCycleIfAny}
use Rattle.audit_channels.proofs.Orders.{no_cycle_at_all, rise_if_none}
use Rattle.audit_counts.specs.WayFigures.{WayFigures}
use Rattle.packet_walks.specs.HopsByTables.{IsBrought}
use Rattle.audit_counts.specs.declared.sent_packet.SentPacket.{SentPacket}
use Rattle.audit_counts.specs.declared.packet_tally.PacketTally.{PacketTally}
use Rattle.audit_counts.specs.declared.unmatched.Unmatched.{Unmatched}
use Rattle.audit_counts.specs.Packets.{arrives, packet_of, packets_for, packets_of, sent_to}
use Rattle.audit_counts.specs.declared.site.Site.{Site}
use Rattle.audit_report.specs.Passing.{EachArrives, IsFound}
use Rattle.audit_counts.specs.Site.{in_one_component}

-- counting all ------------------------------------------------------------------------

-- an element more
one_more : (x : SentPacket) (ps : List SentPacket) → count_by arrives (x ∷ ps) ≡ cond (arrives x) 1 0 + count_by arrives ps
one_more x ps = sum_by-cons (λ (p : SentPacket). cond (arrives p) 1 0) x ps

first_of_all : (x : SentPacket) (ps : List SentPacket) (b : Bool) → cond b 1 0 + count_by arrives ps ≡ length ps + 1 → (b ≡ true)
    × (count_by arrives ps ≡ length ps)
first_of_all x ps true h = (refl, omega arith)
first_of_all x ps false h = let most = count_by-le-length arrives ps in absurd (omega arith)

each_arrives : (ps : List SentPacket) → count_by arrives ps ≡ length ps → (p : SentPacket) → Contains ps p → arrives p ≡ true
each_arrives [] h p k = absurd (contains_none p k)
each_arrives (x ∷ ps) h p k =
    let parts = first_of_all x ps (arrives x) (omega (arith, one_more x ps, h)) in
    elim (contains_cases x p ps k) [
      | inl e ↦ ap arrives (sym e) ∙ parts.0
      | inr later ↦ each_arrives ps parts.1 p later
    ]

all_counted : (ps : List SentPacket) → ((p : SentPacket) → Contains ps p → arrives p ≡ true) → count_by arrives ps ≡ length ps
all_counted [] h = refl
all_counted (x ∷ ps) h =
    let rest = all_counted ps (λ p k. h p (contains_later x p ps k)) in
    one_more x ps ∙ ap (λ t. cond t 1 0 + count_by arrives ps) (h x (contains_here x ps)) ∙ (omega (arith, rest))

module _ (cells : Cells) (held : HeldPlan) where
  -- an end port of the facts is one that is owned
  owned : (e : EndPort) → Contains (end_ports cells) e → is_owner (end_ports cells) e ≡ true
  owned e h = list_any_true (is_same_end e) (end_ports cells) e h (same_itself e)

  from_owned : (e : EndPort) → is_owner (end_ports cells) e ≡ true → Contains (end_ports cells) e
  from_owned e h = let i = list_any_at (is_same_end e) (end_ports cells) h in subst (λ (x : EndPort). Contains (end_ports cells) x) (same_ends e i.0 i.2) i.1

  -- a packet is of a line and of an end port of its component
  in_packets : (line : HeldLid) (e : EndPort) → Contains held.lids line → Contains (end_ports cells) line.port → Contains (end_ports cells) e
      → in_one_component cells e line.port ≡ true → Contains (packets_of cells held) (packet_of cells held line e)
  in_packets line e is_held there is_end joined =
      let sent : Contains (sent_to cells held line) (packet_of cells held line e) =
      contains_map (packet_of cells held line) (filter (λ x. in_one_component cells x line.port) (end_ports cells)) e
      (contains_filter (λ x. in_one_component cells x line.port) (end_ports cells) e is_end joined) in
      in_lists (packets_for cells held) (lines_of held) line (packet_of cells held line e) (once_has held.lids line is_held)
      (subst (λ (t : Bool). Contains (cond t (sent_to cells held line) []) (packet_of cells held line e)) (sym (owned line.port there)) sent)

  pub record IsSent (p : SentPacket) : Type 0 where
    line : HeldLid
    is_held : Contains held.lids line
    there : Contains (end_ports cells) line.port
    source : EndPort
    is_end : Contains (end_ports cells) source
    joined : in_one_component cells source line.port ≡ true
    is : p ≡ packet_of cells held line source

  of_line : (line : HeldLid) (p : SentPacket) → Contains held.lids line → Contains (packets_for cells held line) p → IsSent p
  of_line line p is_held h =
      elim (is_owner (end_ports cells) line.port) as (λ t. is_owner (end_ports cells) line.port ≡ t → Contains (cond t (sent_to cells held line) []) p
      → IsSent p) [
        | true ↦ λ q k.
            let m = contains-from_map (packet_of cells held line) (filter (λ x. in_one_component cells x line.port) (end_ports cells)) p k in
            let f = contains-from_filter (λ x. in_one_component cells x line.port) (end_ports cells) m.0 m.1 in
            record { line = line; is_held = is_held; there = from_owned line.port q; source = m.0; is_end = f.0; joined = f.1; is = sym m.2 }
        | false ↦ λ q k. absurd (contains_none p k)
      ] refl h

  from_packets : (p : SentPacket) → Contains (packets_of cells held) p → IsSent p
  from_packets p h =
      let i = from_lists (packets_for cells held) (lines_of held) p h in of_line i.0 p (once_from held.lids i.0 i.1) i.2

  -- a packet comes to where it ends
  pub brought : (p : SentPacket) → Contains (packets_of cells held) p → IsBrought cells held p.line.lid p.source p.end
  brought p h =
      let i = from_packets p h in
      subst (λ (x : SentPacket). IsBrought cells held x.line.lid x.source x.end) (sym i.is) (end_is cells held i.line.lid i.source)

  -- all packets arrive exactly if the number that arrive is the number of packets
  arrive_all : count_by arrives (packets_of cells held) ≡ length (packets_of cells held) → EachArrives cells held
  arrive_all h line is_held e there is_end joined =
      let packet = packet_of cells held line e in
      let yes : arrives packet ≡ true = each_arrives (packets_of cells held) h packet (in_packets line e is_held there is_end joined) in
      subst (IsBrought cells held line.lid e) (at_is line.port (end_for cells held line.lid e) yes) (end_is cells held line.lid e)

  count_all : EachArrives cells held → count_by arrives (packets_of cells held) ≡ length (packets_of cells held)
  count_all h = all_counted (packets_of cells held) (λ p k.
      let i = from_packets p k in
      let end : end_for cells held i.line.lid i.source ≡ Some (Taken i.line.port) =
      sym (end_found cells held i.line.lid i.source (Some (Taken i.line.port)) (h i.line i.is_held i.source i.there i.is_end i.joined)) in
      ap arrives i.is ∙ ap (is_at i.line.port) end ∙ same_itself i.line.port)

-- there is no cycle exactly if channels can be numbered
pub rise_is : (F : ℕ → ℕ → Type 0) (cycle : List ℕ) (b : Bool) → IsCycleIfAny F cycle → b ≡ (length cycle == 0) → IsTrue b ↔ CanRise F
rise_is F cycle b waits is = (
  λ t. rise_if_none F cycle waits (nil_from_length cycle (eqb-true (length cycle) 0 (sym is ∙ t))),
  λ rise. is ∙ eq-eqb (length cycle) 0 (ap length (no_cycle_at_all F rise cycle waits)),
)

pub arrive_is : (most : ℕ) (seen : Seen) (tally : PacketTally) (unmatched : Unmatched) (count : ℕ) (ways : WayFigures) (cycle : List ℕ)
    (sites : List Site) (b : Bool) → IsFound most seen tally unmatched count ways cycle sites → b ≡ (tally.all.arrived == tally.all.sent)
    → IsTrue b ↔ EachArrives (cells_of seen.facts) seen.held
arrive_is most seen tally unmatched count ways cycle sites b found is =
    let cells = cells_of seen.facts in
    let held = seen.held in
    let counted = found.counted.all in (
      λ t.
          let same : tally.all.arrived ≡ tally.all.sent = eqb-true tally.all.arrived tally.all.sent (sym is ∙ t) in
          arrive_all cells held (sym counted.arrived ∙ same ∙ counted.sent),
      λ p. is ∙ eq-eqb tally.all.arrived tally.all.sent (counted.arrived ∙ count_all cells held p ∙ sym counted.sent),
    )
