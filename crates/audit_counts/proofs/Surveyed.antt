-- The packets of a line, end port by end port, and the packets of all lines.
use Rattle.std.proofs.Common.{◌≡◌, ◌<◌, ◌≤◌, ◌+◌, ℕ, suc, List, [], ◌∷◌, ◌++◌, refl, sym, ap, ◌∙◌, subst, arith, Bool, true, false, cond, length, get_or, map, take, append_assoc}
use Rattle.std.specs.Prelude.{Option, None, Some, count_by, filter, not, ◌&&◌}
use Rattle.std.specs.List.{flat_map, list_all, position}
use Rattle.std.proofs.lemmas.List.{append-nil, map-append, take_all, take_more}
use Rattle.std.proofs.lemmas.List.Concat.{flat_map-append}
use Rattle.std.proofs.lemmas.List.Elements.{filter-append}
use Rattle.std.proofs.lemmas.List.Sums.{sum_by-cons}
use Rattle.std.proofs.lemmas.Option.{slice_get-get_or}
use Rattle.subnet_view.specs.declared.end_port.EndPort.{EndPort}
use Rattle.subnet_view.specs.EndPort.{end_ports}
use Rattle.subnet_view.specs.Reading.{Cells}
use Rattle.held_tables.specs.declared.held.HeldLid.{HeldLid}
use Rattle.held_tables.specs.Held.{HeldPlan}
use Rattle.packet_walks.specs.declared.packet_end.End.{End}
use Rattle.packet_walks.specs.declared.packet_end.End.TheVariants.{Taken}
use Rattle.packet_walks.specs.HopsByTables.{AreBrought, LineArrives, end_for, is_at}
use Rattle.held_tables.specs.Tables.{is_owner, lines_of}
use Rattle.packet_walks.proofs.Arrivals.{all_there}
use Rattle.packet_walks.proofs.InTime.{end_found, found_at}
use Rattle.packet_walks.proofs.Judged.{at_contains, same_itself}
use Rattle.audit_ways.specs.Ways.{AllComeTo}
use Rattle.audit_counts.specs.declared.sent_packet.SentPacket.{SentPacket}
use Rattle.audit_counts.specs.declared.packet_tally.PacketTally.{PacketTally}
use Rattle.audit_counts.specs.Packets.{arrives, is_between, packet_of, packets_for, packets_of, sent_to}
use Rattle.audit_counts.specs.declared.site.Site.{Site}
use Rattle.audit_counts.specs.Site.{are_adapters, are_joined, are_joined_adapters, in_one_component, site_of}
use Rattle.audit_counts.specs.PacketTally.{IsTally, IsWith}
use Rattle.audit_counts.proofs.Counted.{tally_more}

module _ (cells : Cells) (held : HeldPlan) (line : HeldLid) where
  -- the packets of the first end ports
  abbrev sent_by : ℕ → List SentPacket
  sent_by n = map (packet_of cells held line) (filter (λ e. in_one_component cells e line.port) (take n (end_ports cells)))

  -- they are counted besides those before
  pub record AreCounted (old : PacketTally) (n : ℕ) (new : PacketTally) : Type 0 where
    pub counted : (most : ℕ) (packets : List SentPacket) → IsTally most packets old → IsTally most (packets ++ sent_by n) new

  pub none_counted : (tally : PacketTally) → AreCounted tally 0 tally
  none_counted tally = record { counted = λ most packets h. subst (λ (ps : List SentPacket). IsTally most ps tally) (sym (append-nil packets)) h }

  -- the packets of one end port more
  sent_more : (n : ℕ) (e : EndPort) → n < length (end_ports cells) → e ≡ get_or (end_ports cells) n e
      → sent_by (n + 1) ≡ sent_by n ++ cond (in_one_component cells e line.port) (packet_of cells held line e ∷ []) []
  sent_more n e h is =
      let joined : EndPort → Bool = λ x. in_one_component cells x line.port in
      ap (λ xs. map (packet_of cells held line) (filter joined xs)) (take_more (end_ports cells) n e h ∙ ap (λ x. take n (end_ports cells) ++ x ∷ []) (sym is))
      ∙ ap (map (packet_of cells held line)) (filter-append joined (take n (end_ports cells)) (e ∷ []))
      ∙ map-append (packet_of cells held line) (filter joined (take n (end_ports cells))) (cond (joined e) (e ∷ []) [])
      ∙ ap (λ xs. sent_by n ++ xs) (elim (joined e) as (λ t. map (packet_of cells held line) (cond t (e ∷ []) [])
      ≡ cond t (packet_of cells held line e ∷ []) []) [
        | true ↦ refl
        | false ↦ refl
      ])

  pub one_counted : (old tally new : PacketTally) (n : ℕ) (e : EndPort) (packet : SentPacket) → AreCounted old n tally → n < length (end_ports cells)
      → e ≡ get_or (end_ports cells) n e → in_one_component cells e line.port ≡ true → packet ≡ packet_of cells held line e → IsWith tally packet new
      → AreCounted old (n + 1) new
  one_counted old tally new n e packet h less is joined packet_is w = record {
    counted = λ most packets before.
        let more = sent_more n e less is ∙ ap (λ t. sent_by n ++ cond t (packet_of cells held line e ∷ []) []) joined
        ∙ ap (λ p. sent_by n ++ p ∷ []) (sym packet_is) in
        subst (λ (ps : List SentPacket). IsTally most ps new) (append_assoc packets (sent_by n) (packet ∷ []) ∙ ap (λ ps. packets ++ ps) (sym more))
        (tally_more most (packets ++ sent_by n) tally new packet (h.counted most packets before) w);
  }

  pub none_more : (old tally : PacketTally) (n : ℕ) (e : EndPort) → AreCounted old n tally → n < length (end_ports cells)
      → e ≡ get_or (end_ports cells) n e → in_one_component cells e line.port ≡ false → AreCounted old (n + 1) tally
  none_more old tally n e h less is joined = record {
    counted = λ most packets before.
        let more = sent_more n e less is ∙ ap (λ t. sent_by n ++ cond t (packet_of cells held line e ∷ []) []) joined ∙ append-nil (sent_by n) in
        subst (λ (ps : List SentPacket). IsTally most ps tally) (ap (λ ps. packets ++ ps) (sym more)) (h.counted most packets before);
  }

  pub all_counted : (old tally : PacketTally) (n : ℕ) → AreCounted old n tally → length (end_ports cells) ≤ n
      → (most : ℕ) (packets : List SentPacket) → IsTally most packets old → IsTally most (packets ++ sent_to cells held line) tally
  all_counted old tally n h past most packets before =
      let all : sent_by n ≡ sent_to cells held line =
      ap (λ xs. map (packet_of cells held line) (filter (λ e. in_one_component cells e line.port) xs)) (take_all n (end_ports cells) past) in
      subst (λ (ps : List SentPacket). IsTally most ps tally) (ap (λ ps. packets ++ ps) all) (h.counted most packets before)

  -- the end that is found for an end port's packet
  pub end_there : (ends : List (Option End)) (n : ℕ) (e : EndPort) (end : Option End) → AreBrought cells held line.lid ends → n < length (end_ports cells)
      → e ≡ get_or (end_ports cells) n e → end ≡ get_or ends n None → end ≡ end_for cells held line.lid e
  end_there ends n e end h less is there = there ∙ found_at cells held line.lid ends n e h less ∙ ap (end_for cells held line.lid) (sym is)

  -- if all packets end at the line's port, they arrive
  each_arrives : (ports : List EndPort) → ((k : ℕ) → k < length ports → is_at line.port (end_for cells held line.lid (get_or ports k line.port)) ≡ true)
      → list_all arrives (map (packet_of cells held line) (filter (λ e. in_one_component cells e line.port) ports)) ≡ true
  each_arrives [] h = refl
  each_arrives (x ∷ ports) h =
      let joined : EndPort → Bool = λ e. in_one_component cells e line.port in
      let rest = each_arrives ports (λ k less. h (suc k) (omega arith)) in
      elim (joined x) as (λ t. list_all arrives (map (packet_of cells held line) (cond t (x ∷ filter joined ports) (filter joined ports))) ≡ true) [
        | true ↦ ap (λ b. b && list_all arrives (map (packet_of cells held line) (filter joined ports))) (h 0 (omega arith)) ∙ rest
        | false ↦ rest
      ]

  pub sent_arrive : (port : EndPort) (ends : List (Option End)) → AreBrought cells held line.lid ends → port ≡ line.port
      → position (λ end. not (is_at port end)) ends ≡ None → list_all arrives (sent_to cells held line) ≡ true
  sent_arrive port ends h own none =
      each_arrives (end_ports cells)
      (λ k less. (
      let as_many = h.as_many in
      let there = all_there port ends none k (omega arith) in
      ap (is_at line.port) (sym (found_at cells held line.lid ends k line.port h less)) ∙ ap (λ p. is_at p (get_or ends k None)) (sym own) ∙ there))

  -- if all packets are seen to arrive, those of the line's component do
  pub sent_come : AllComeTo cells held line → list_all arrives (sent_to cells held line) ≡ true
  sent_come come =
      each_arrives (end_ports cells)
      (λ k less. come (get_or (end_ports cells) k line.port)
      (at_contains (end_ports cells) k (get_or (end_ports cells) k line.port) (slice_get-get_or (end_ports cells) k line.port less)))

  pub come_there : LineArrives cells held line → AllComeTo cells held line
  come_there h = λ e is. ap (is_at line.port) (sym (end_found cells held line.lid e (Some (Taken line.port)) (h e is))) ∙ same_itself line.port

  -- as many as end ports are joined to that of the line
  joined_sent : (owner : Site) (ports : List EndPort) → owner ≡ site_of cells line.port
      → count_by (λ site. are_joined site owner) (map (site_of cells) ports)
      ≡ length (map (packet_of cells held line) (filter (λ e. in_one_component cells e line.port) ports))
  joined_sent owner [] own = refl
  joined_sent owner (x ∷ ports) own =
      let joined : EndPort → Bool = λ e. in_one_component cells e line.port in
      let rest = joined_sent owner ports own in
      let split = sum_by-cons (λ (site : Site). cond (are_joined site owner) 1 0) (site_of cells x) (map (site_of cells) ports) in
      let same : are_joined (site_of cells x) owner ≡ joined x = ap (are_joined (site_of cells x)) own in
      let one : ◌≡◌ {A = ℕ} (cond (are_joined (site_of cells x) owner) 1 0) (cond (joined x) 1 0) = ap (λ t. cond t 1 0) same in
      let sent : length (map (packet_of cells held line) (filter joined (x ∷ ports)))
      ≡ cond (joined x) 1 0 + length (map (packet_of cells held line) (filter joined ports)) =
      elim (joined x) as (λ t. length (map (packet_of cells held line) (cond t (x ∷ filter joined ports) (filter joined ports)))
      ≡ cond t 1 0 + length (map (packet_of cells held line) (filter joined ports))) [
        | true ↦ omega arith
        | false ↦ omega arith
      ] in
      split ∙ omega (arith, rest, one, sent)

  pub all_sent : (owner : Site) (sites : List Site) (count : ℕ) → owner ≡ site_of cells line.port → sites ≡ map (site_of cells) (end_ports cells)
      → count ≡ count_by (λ site. are_joined site owner) sites → count ≡ length (sent_to cells held line)
  all_sent owner sites count own are is =
      is ∙ ap (count_by (λ site. are_joined site owner)) are ∙ joined_sent owner (end_ports cells) own

  -- and as many between adapters as adapter ports are joined to that of the line
  between_sent : (owner : Site) (ports : List EndPort) → owner ≡ site_of cells line.port
      → count_by (λ site. are_joined_adapters site owner) (map (site_of cells) ports)
      ≡ length (filter is_between (map (packet_of cells held line) (filter (λ e. in_one_component cells e line.port) ports)))
  between_sent owner [] own = refl
  between_sent owner (x ∷ ports) own =
      let joined : EndPort → Bool = λ e. in_one_component cells e line.port in
      let sent : List SentPacket = map (packet_of cells held line) (filter joined ports) in
      let rest = between_sent owner ports own in
      let split = sum_by-cons (λ (site : Site). cond (are_joined_adapters site owner) 1 0) (site_of cells x) (map (site_of cells) ports) in
      let one : ◌≡◌ {A = ℕ} (cond (are_joined_adapters (site_of cells x) owner) 1 0) (cond (joined x && are_adapters x line.port) 1 0) =
      ap (λ (o : Site). cond (are_joined_adapters (site_of cells x) o) 1 0) own in
      let more : cond (joined x && are_adapters x line.port) 1 0 + length (filter is_between sent)
      ≡ length (filter is_between (map (packet_of cells held line) (cond (joined x) (x ∷ filter joined ports) (filter joined ports)))) =
      elim (joined x) as (λ t. cond (t && are_adapters x line.port) 1 0 + length (filter is_between sent)
      ≡ length (filter is_between (map (packet_of cells held line) (cond t (x ∷ filter joined ports) (filter joined ports))))) [
        | true ↦ (elim (are_adapters x line.port) as (λ t. cond t 1 0 + length (filter is_between sent)
            ≡ length (cond t (packet_of cells held line x ∷ filter is_between sent) (filter is_between sent))) [
              | true ↦ omega arith
              | false ↦ omega arith
            ])
        | false ↦ omega arith
      ] in
      split ∙ omega (arith, rest, one) ∙ more

  pub adapters_sent : (owner : Site) (sites : List Site) (count : ℕ) → owner ≡ site_of cells line.port → sites ≡ map (site_of cells) (end_ports cells)
      → count ≡ count_by (λ site. are_joined_adapters site owner) sites → count ≡ length (filter is_between (sent_to cells held line))
  adapters_sent owner sites count own are is =
      is ∙ ap (count_by (λ site. are_joined_adapters site owner)) are ∙ between_sent owner (end_ports cells) own

-- line by line --------------------------------------------------------------------------

-- those of the first lines
pub record AreSurveyed (most : ℕ) (cells : Cells) (held : HeldPlan) (lines : List HeldLid) (n : ℕ) (tally : PacketTally) : Type 0 where
  pub counted : IsTally most (flat_map (packets_for cells held) (take n lines)) tally

module _ (most : ℕ) (cells : Cells) (held : HeldPlan) (lines : List HeldLid) where
  pub none_surveyed : (tally : PacketTally) → IsTally most [] tally → AreSurveyed most cells held lines 0 tally
  none_surveyed tally h = record { counted = h }

  lines_more : (n : ℕ) (line : HeldLid) → n < length lines → line ≡ get_or lines n line
      → flat_map (packets_for cells held) (take (n + 1) lines) ≡ flat_map (packets_for cells held) (take n lines) ++ packets_for cells held line
  lines_more n line h is =
      ap (flat_map (packets_for cells held)) (take_more lines n line h ∙ ap (λ x. take n lines ++ x ∷ []) (sym is))
      ∙ flat_map-append (packets_for cells held) (take n lines) (line ∷ [])
      ∙ ap (λ ps. flat_map (packets_for cells held) (take n lines) ++ ps) (append-nil (packets_for cells held line))

  pub line_surveyed : (n : ℕ) (line : HeldLid) (tally new : PacketTally)
      → AreSurveyed most cells held lines n tally → n < length lines → line ≡ get_or lines n line
      → is_owner (end_ports cells) line.port ≡ true
      → ((packets : List SentPacket) → IsTally most packets tally → IsTally most (packets ++ sent_to cells held line) new)
      → AreSurveyed most cells held lines (n + 1) new
  line_surveyed n line tally new h less is there add = record {
    counted =
        let more = lines_more n line less is ∙ ap (λ t. flat_map (packets_for cells held) (take n lines) ++ cond t (sent_to cells held line) []) there in
        subst (λ (ps : List SentPacket). IsTally most ps new) (sym more) (add (flat_map (packets_for cells held) (take n lines)) h.counted);
  }

  pub line_passed : (n : ℕ) (line : HeldLid) (tally : PacketTally)
      → AreSurveyed most cells held lines n tally → n < length lines → line ≡ get_or lines n line
      → is_owner (end_ports cells) line.port ≡ false → AreSurveyed most cells held lines (n + 1) tally
  line_passed n line tally h less is there = record {
    counted =
        let more =
        lines_more n line less is ∙ ap (λ t. flat_map (packets_for cells held) (take n lines) ++ cond t (sent_to cells held line) []) there
        ∙ append-nil (flat_map (packets_for cells held) (take n lines)) in
        subst (λ (ps : List SentPacket). IsTally most ps tally) (sym more) h.counted;
  }

  pub all_surveyed : (n : ℕ) (tally : PacketTally) → AreSurveyed most cells held lines n tally
      → lines ≡ lines_of held → length lines ≤ n → IsTally most (packets_of cells held) tally
  all_surveyed n tally h are past =
      subst (λ (ls : List HeldLid). IsTally most (flat_map (packets_for cells held) ls) tally) (take_all n lines past ∙ are) h.counted
