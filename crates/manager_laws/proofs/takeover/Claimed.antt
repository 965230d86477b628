-- While no LID changes, a sweep that has every answer knows the LID of each end port that is joined to its seat.
use Rattle.std.proofs.Common.{◌≡◌, inl, inr, ℕ, ◌≤◌, Bool, true, false, List, [], ◌∷◌, ◌++◌, refl, sym, ap, ◌∙◌, subst, arith}
use Rattle.std.proofs.lemmas.Bool.{cond_both}
use Rattle.std.proofs.lemmas.List.Elements.{All-nil, All-cons}
use Rattle.std.specs.Prelude.{Option, Some, None, All, Contains, MatchBool, MatchOption, ◌==◌}
use Rattle.std.specs.List.{AllByRecursion}
use Rattle.fabric_model.specs.declared.cable.NodePort.{NodePort}
use Rattle.smp_bytes.specs.declared.node_type.NodeType.{NodeType}
use Rattle.smp_bytes.specs.NodeType.{is_switch}
use Rattle.fabric_model.specs.Fabric as fabric
use Rattle.fabric_model.specs.Fabric.{Fabric, IsFabric, IsNodeAt}
use Rattle.fabric_model.specs.FabricWalks.{IsJoinedTo}
use Rattle.smp_bytes.specs.Field.{number_in}
use Rattle.smp_bytes.specs.Header.{node_info, port_info}
use Rattle.smp_bytes.specs.Packet.{attribute_id}
use Rattle.attr_codec.specs.declared.node_info.NodeInfo.{NodeInfo}
use Rattle.attr_codec.specs.NodeTypeNumber.{type_of_number}
use Rattle.fact_join.specs.declared.cell.Cell.{Cell}
use Rattle.fact_join.specs.declared.cell.Cell.TheVariants.{Known, Disputed}
use Rattle.fact_join.specs.Cell.{generation_of}
use Rattle.reply_facts.specs.declared.key.Key.{Key}
use Rattle.reply_facts.specs.declared.key.Key.TheVariants.{Node, PortGuid, Link, Port, Claim, Cap}
use Rattle.reply_facts.specs.declared.value.Value.{Value}
use Rattle.reply_facts.specs.declared.value.Value.TheVariants.{Lid}
use Rattle.reply_facts.specs.declared.report.Context.{Context}
use Rattle.reply_facts.specs.declared.report.Context.TheVariants.{Start, Via, About}
use Rattle.reply_facts.specs.declared.report.Report.{Report}
use Rattle.reply_facts.specs.Known.{value_in, lid_in, claim_of}
use Rattle.reply_facts.specs.Report.{Sightings, sightings_of_link, sightings_of_kind, sightings_by_port_info, sightings_by_switch_info, node_info_of, sightings_of}
use Rattle.fact_store.specs.Seen.{IsCellIn, WasSighted}
use Rattle.fact_store.specs.View.{view, cells_of, cell_for}
use Rattle.fact_store.proofs.Views.{view_cells}
use Rattle.fabric_sim.specs.Simulation.{fabric_of}
use Rattle.fabric_sim.proofs.SeenFabrics.{simulations_are_fabrics}
use Rattle.subnet_view.specs.FabricAgreement.{IsEndPortIn}
use Rattle.fact_store.proofs.Entries.{known_by_cells}
use Rattle.sweep.specs.Sweep.{Sweep, Asking}
use Rattle.manager_laws.specs.Sweeping.{Sweeping, SweepEvent, CanBe, Begins, after_sweep_events}
use Rattle.manager_laws.specs.Truth.{HasNode, IsTrueOf, IsTrueSighting, AreGuidsDistinct}
use Rattle.manager_laws.proofs.Answers.{begun, seat_in_port}
use Rattle.manager_laws.proofs.Sound.{CanBeSwept}
use Rattle.manager_laws.proofs.Swept.{accepted_facts_are_true, few_ports_there, can_sweep, cabled_there, goes_first}
use Rattle.manager_laws.specs.Complete.{IsWhole, facts_of}
use Rattle.manager_laws.proofs.Asked.{IsPending}
use Rattle.manager_laws.proofs.Closed.{was_reached, answered_port, none_pending}
use Rattle.manager_laws.proofs.Covered.{IsOrigin, Covered}
use Rattle.manager_laws.proofs.Done.{covers_all, done_sweeps_are_complete, reaches_origin, seat_end, true_told}
use Rattle.manager_laws.proofs.Known.{HasKey, same_node}
use Rattle.manager_laws.proofs.Lists.{Has, has_left, has_right, has_either, contained_has, all_contained, all_first, all_last}
use Rattle.manager_laws.proofs.Sweeps.{told_in}
use Rattle.manager_laws.specs.OnePlan.{ClaimsAreTrue}
use Rattle.manager_laws.proofs.Planned.{end_number}
use Rattle.manager_laws.proofs.Agreeing.{joined_reached}
use Rattle.manager_laws.specs.Claims.{LidsStay, IsTrueClaim, IsTrueClaimOf, AcceptedClaimsAreTrue, SweptClaimsAreTrue, TakeoversChangeNothing}
use Rattle.fabric_sim.proofs.Courses.{AnySends}
use Rattle.fabric_sim.proofs.Traced.{IsOnCourse}
use Rattle.fabric_sim.proofs.TracedCalls.{AreTraced}
use Rattle.manager_laws.proofs.TracedScenes.{WereTraced}
use Rattle.manager_laws.proofs.takeover.LidScenes.{LidSo}
use Rattle.manager_laws.proofs.takeover.ClaimRuns.{all_known}
use Rattle.manager_laws.proofs.takeover.Seeing.{held_plan}

-- a reply that tells of a port tells its LID -----------------------------------------------------

-- the claim of the same port
beside : Key → Key
beside (Port g p) = Claim g p
beside (Node g) = Node g
beside (PortGuid g p) = PortGuid g p
beside (Link g p) = Link g p
beside (Claim g p) = Claim g p
beside (Cap g) = Cap g

module _ (g p : ℕ) where
  abbrev Tells : Sightings → Type 0
  Tells told = HasKey told (Port g p) → HasKey told (Claim g p)

  link_tells : (generation : ℕ) (context : Context) (info : NodeInfo) → HasKey (sightings_of_link generation context info) (Port g p) → ⊥
  link_tells generation Start info h = h
  link_tells generation (Via guid port) info (inl e) = absurd (cc)
  link_tells generation (Via guid port) info (inr (inl e)) = absurd (cc)
  link_tells generation (Via guid port) info (inr (inr h)) = h
  link_tells generation (About guid) info h = h

  kind_tells : (generation : ℕ) (context : Context) (info : NodeInfo) (m : Option NodeType) → Tells (sightings_of_kind generation context info m)
  kind_tells generation context info None h = absurd h
  kind_tells generation context info (Some kind) (inl e) = absurd (cc)
  kind_tells generation context info (Some kind) (inr (inl e)) = absurd (cc)
  kind_tells generation context info (Some kind) (inr (inr h)) = absurd (link_tells generation context info h)

  port_tells : (generation : ℕ) (context : Context) (packet : List ℕ) → Tells (sightings_by_port_info generation context packet)
  unfolding beside
  port_tells generation Start packet h = absurd h
  port_tells generation (Via guid port) packet h = absurd h
  port_tells generation (About guid) packet (inl e) = inr (inl (ap beside e))
  port_tells generation (About guid) packet (inr (inl e)) = absurd (cc)
  port_tells generation (About guid) packet (inr (inr h)) = absurd h

  switch_tells : (generation : ℕ) (context : Context) (packet : List ℕ) → Tells (sightings_by_switch_info generation context packet)
  switch_tells generation Start packet h = absurd h
  switch_tells generation (Via guid port) packet h = absurd h
  switch_tells generation (About guid) packet (inl e) = absurd (cc)
  switch_tells generation (About guid) packet (inr h) = absurd h

  report_tells : (report : Report) → Tells (sightings_of report)
  report_tells report =
      cond_both (number_in attribute_id report.bytes == node_info) _ _ Tells
      (λ _. kind_tells report.generation report.context (node_info_of report.bytes) (type_of_number (node_info_of report.bytes).node_type))
      (λ _. cond_both (number_in attribute_id report.bytes == port_info) _ _ Tells
      (λ _. port_tells report.generation report.context report.bytes) (λ _. switch_tells report.generation report.context report.bytes))

  pub claim_told : (reports : List Report) → Tells (told_in reports)
  claim_told [] h = absurd h
  claim_told (report ∷ reports) h =
      elim (has_either (λ s. s.0 ≡ Port g p) (sightings_of report) (told_in reports) h) [
        | inl k ↦ has_left (λ s. s.0 ≡ Claim g p) (sightings_of report) (told_in reports) (report_tells report k)
        | inr k ↦ has_right (λ s. s.0 ≡ Claim g p) (sightings_of report) (told_in reports) (claim_told reports k)
      ]

-- what is known of a LID ---------------------------------------------------------------------------

module _ (f : Fabric) (distinct : AreGuidsDistinct f) (told : Sightings) (all : AllByRecursion (IsTrueSighting f) told)
    (claims : AllByRecursion (IsTrueClaim f) told)
    (g p id : ℕ) (node : fabric.Node) (has : HasNode f g id node) where
  only : (v : Value) → IsTrueOf f (Claim g p) v → IsTrueClaimOf f (Claim g p) v → v ≡ Lid (f.base_lid (record { node = id; port = p }))
  only (Lid n) t (at, other, is, same) = let there =
      same_node f distinct is has in ap Lid (sym same ∙ ap (λ k. f.base_lid (record { node = k; port = p })) there.0)
  only v t c = absurd t

  says : (n : ℕ) (c : Cell Value) → IsTrueSighting f (Claim g p, c) → IsTrueClaim f (Claim g p, c) → generation_of c ≡ n
      → c ≡ Known n (Lid (f.base_lid (record { node = id; port = p })))
  says n (Known k v) t c e = let value = only v t c in λ j. Known (e j) (value j)
  says n (Disputed k) t c e = absurd t

  pub claim_known : HasKey told (Claim g p) → claim_of (cells_of (view told)) g p ≡ Some (f.base_lid (record { node = id; port = p }))
  claim_known h =
      ap lid_in (sym (known_by_cells (view told) (Claim g p)) ∙ by_cell (cell_for (view told) (Claim g p)) ((view_cells told).cells (Claim g p)))
    where
      sighted : (c : Cell Value) × WasSighted (Claim g p) told c
      sighted =
          let (s, there, is) = contained_has (λ s. s.0 ≡ Claim g p) told h in
          (s.1, subst (λ k. Contains told (k, s.1)) is there)

      so : (n : ℕ) (c : Cell Value) → Contains told (Claim g p, c) → generation_of c ≡ n → c ≡ Known n (Lid (f.base_lid (record { node = id; port = p })))
      so n c there e =
          says n c (all_contained (IsTrueSighting f) told (Claim g p, c) all there) (all_contained (IsTrueClaim f) told (Claim g p, c) claims there) e

      by_cell : (o : Option (Cell Value)) → MatchOption o ((c : Cell Value) → WasSighted (Claim g p) told c → ⊥) (IsCellIn (Claim g p) told)
          → value_in o ≡ Some (Lid (f.base_lid (record { node = id; port = p })))
      by_cell None none = absurd (none sighted.0 sighted.1)
      by_cell (Some (Known n v)) (newest, say) =
          let c = newest.sighted in
          let is : c.0 ≡ Known n v = say c.0 c.1 c.2 in
          let there : Contains told (Claim g p, Known n v) = subst (λ z. Contains told (Claim g p, z)) is c.1 in
          ap value_in (ap (λ z. Some z) (so n (Known n v) there refl))
      by_cell (Some (Disputed n)) (newest, dispute) =
          absurd (dispute (Lid (f.base_lid (record { node = id; port = p }))) (λ c there e. so n c there e))

-- what was reached ---------------------------------------------------------------------------------

module _ {f : Fabric} {seat : NodePort} (can : CanBeSwept f seat) (is_fabric : IsFabric f) (at_seat : fabric.Node) (seat_there : IsNodeAt f seat.node at_seat)
    (s : Sweep) (told : Sightings) (c : Covered f seat s told) (none : (a : Asking) → IsPending (s.outstanding ++ s.queued) a → ⊥)
    (start : Has (IsOrigin f seat) s.reached) (all : AllByRecursion (IsTrueSighting f) told) where
  -- of each end port that is joined it was told whether it is up
  pub port_told : (port : NodePort) (node : fabric.Node) → IsEndPortIn (IsJoinedTo f seat) f port node → HasKey told (Port node.guid port.port)
  port_told port node is =
      let r = was_reached can is_fabric at_seat seat_there s told c none all port node is.node_there
      (joined_reached can is_fabric at_seat seat_there s told c none start all port is.in_part) in
      let kind : r.v.kind ≡ node.kind = r.covers.kind ∙ ap (λ (x : fabric.Node). x.kind) r.same in
      subst (λ x. HasKey told (Port x port.port)) r.guid
      (answered_port can is_fabric at_seat seat_there s told c none all r.v r.covers port.port
      (subst (λ k. MatchBool (is_switch k) (port.port ≤ r.v.ports) (port.port ≡ r.v.port)) (sym kind)
      (by_kind (is_switch node.kind) (end_number (IsJoinedTo f seat) f port node is) r.v.ports r.v.port r.port))).0
    where
      by_kind : (b : Bool) → MatchBool b (port.port ≡ 0) ((1 ≤ port.port) × (port.port ≤ node.ports)) → (ports at : ℕ) → at ≡ port.port
          → MatchBool b (port.port ≤ ports) (port.port ≡ at)
      by_kind true zero_is ports at e = omega (arith, zero_is)
      by_kind false number ports at e = sym e

-- the laws -----------------------------------------------------------------------------------------

told_all : (P : Key × Cell Value → Type 0) (told : Sightings) → AllByRecursion P told → All P told
told_all P [] all = All-nil P
told_all P (s ∷ told) all = All-cons P s told all.0 (told_all P told all.1)

each_report : (P : Key × Cell Value → Type 0) (reports : List Report) → AllByRecursion P (told_in reports) → All (λ report. All P (sightings_of report)) reports
each_report P [] all = All-nil (λ report. All P (sightings_of report))
each_report P (report ∷ reports) all =
    All-cons (λ x. All P (sightings_of x)) report reports (told_all P (sightings_of report) (all_first P (sightings_of report) (told_in reports) all))
    (each_report P reports (all_last P (sightings_of report) (told_in reports) all))

module _ (w : Sweeping) (generation first : ℕ) (begins : Begins w generation first) (events : List SweepEvent) (all : All CanBe events)
    (lids : LidsStay (fabric_of w.scene.fabric) events w) where
  known_at_last : AllByRecursion (IsTrueClaim (fabric_of w.scene.fabric)) (told_in (after_sweep_events events w).reports)
  known_at_last =
      let start = w.scene.fabric in
      let cables = begins.quiet.fabric.cables in
      let counts = few_ports_there w generation first begins in
      let can = can_sweep w generation first begins in
      let cabled = cabled_there w generation first begins in
      let within = seat_in_port cables counts start (begun w.scene begins.quiet).fabric w.seat begins.seat in
      (all_known cables counts can cabled within events w (goes_first w generation first begins) all lids
      (record {
        scene = record {
          flights = subst (AreTraced AnySends (LidSo start) start) (sym begins.quiet.flights) tt;
          handed = subst (WereTraced AnySends (LidSo start) start) (sym begins.quiet.handed) tt;
        };
        asked = subst (AllByRecursion (IsOnCourse AnySends (LidSo start) start w.seat)) (sym begins.asked) tt;
        claims = subst (λ reports. AllByRecursion (IsTrueClaim (fabric_of start)) (told_in reports)) (sym begins.reports) tt;
      })).claims

  swept_claims : IsWhole (after_sweep_events events w).sweep
      → ClaimsAreTrue (IsJoinedTo (fabric_of w.scene.fabric) w.seat) (cells_of (facts_of (after_sweep_events events w).reports)) (fabric_of w.scene.fabric)
  swept_claims whole port end_node is =
      let start = w.scene.fabric in
      let f = fabric_of start in
      let can = can_sweep w generation first begins in
      let (node, there, number) = seat_end w generation first begins in
      let ended = after_sweep_events events w in
      let covered = covers_all w generation first begins events all whole in
      let none = none_pending ended.sweep whole.done in
      let is_fabric = simulations_are_fabrics start begins.quiet.fabric in
      let origin = reaches_origin w generation first begins events all whole in
      let told = true_told f ended.reports (accepted_facts_are_true w generation first events begins all) in
      let asked = port_told can is_fabric node there ended.sweep (told_in ended.reports) covered none origin told port end_node is in
      claim_known f can.distinct (told_in ended.reports) told known_at_last end_node.guid port.port port.node end_node
      (record { there = is.node_there; named = refl }) (claim_told end_node.guid port.port ended.reports asked)

pub accepted_claims_are_true : AcceptedClaimsAreTrue
accepted_claims_are_true w generation first events begins all lids =
    each_report (IsTrueClaim (fabric_of w.scene.fabric)) (after_sweep_events events w).reports (known_at_last w generation first begins events all lids)

pub swept_claims_are_true : SweptClaimsAreTrue
swept_claims_are_true w generation first events begins all lids whole = swept_claims w generation first begins events all lids whole

pub takeovers_change_nothing : TakeoversChangeNothing
takeovers_change_nothing rule lmc facts w generation first events begins all has_room agrees holds lids whole =
    held_plan (IsJoinedTo (fabric_of w.scene.fabric) w.seat) (fabric_of w.scene.fabric) rule lmc facts (facts_of (after_sweep_events events w).reports) has_room
    agrees
    (done_sweeps_are_complete w generation first events begins all whole).at_first holds (swept_claims w generation first begins events all lids whole)
