-- Packets that get from each switch to the only end port that holds their LID.
use Rattle.std.proofs.Common.{◌≡◌, ◌<◌, ◌≤◌, ◌+◌, ◌*◌, ◌/◌, ◌%◌, ◌==◌, ◌&&◌, ℕ, zero, suc, Bool, true, false, cond, List, [], ◌∷◌, length, map, Option, None, Some, inl, inr, refl, sym, ap, subst, ◌∙◌, arith}
use Rattle.std.specs.Prelude.{slice_get, slice_index_or}
use Rattle.std.specs.List.{list_all}
use Rattle.std.proofs.lemmas.Bool.{and_parts, cases_lt, eqb-true, ltb-true}
use Rattle.std.proofs.lemmas.List.{length-map}
use Rattle.std.proofs.lemmas.Option.{same_Some, slice_get-get_or}
use Rattle.subnet_view.specs.declared.end_port.EndPort.{EndPort}
use Rattle.subnet_view.specs.EndPort.{end_ports}
use Rattle.subnet_view.specs.Reading.{Cells, switches}
use Rattle.held_tables.specs.declared.held.HeldLid.{HeldLid}
use Rattle.held_tables.specs.Held.{HeldPlan}
use Rattle.held_tables.specs.declared.audited_switch.AuditedSwitch.{AuditedSwitch}
use Rattle.packet_walks.specs.declared.packet_end.End.TheVariants.{Taken}
use Rattle.held_tables.specs.declared.far_end.Far.{Far}
use Rattle.held_tables.specs.declared.far_end.Far.TheVariants.{Nothing, Switch, Port}
use Rattle.packet_walks.specs.declared.lid_set.LidSet.{LidSet}
use Rattle.packet_walks.specs.declared.next_hop.NextHop.{NextHop}
use Rattle.packet_walks.specs.declared.next_hop.NextHop.TheVariants.{To, Ends}
use Rattle.held_tables.specs.declared.owners.Owner.{Owner}
use Rattle.held_tables.specs.declared.owners.Owner.TheVariants.{Several}
use Rattle.held_tables.specs.declared.senders.Sender.{Sender}
use Rattle.packet_walks.specs.BlockDeliveries.{AreDelivered, hops_for, target_at}
use Rattle.packet_walks.specs.Deliveries.{AreDeliveries, ComeToOwner}
use Rattle.packet_walks.specs.LidSet.{has}
use Rattle.held_tables.specs.Switches.{all_begin, first_by, first_switch, is_among, node_of, sender_of}
use Rattle.held_tables.specs.Blocks.{AreBlocks}
use Rattle.packet_walks.specs.HopsByTables.{IsBrought, LineArrives, next_hop_of, next_hops_of, sent}
use Rattle.held_tables.specs.Owners.{AreOwners, owner_among, sole_among, is_sole}
use Rattle.held_tables.specs.Tables.{holders, is_owner, is_same_end, lines_of, owners_of}
use Rattle.packet_walks.specs.EndsBySwitch.{IsEndOf}
use Rattle.packet_walks.proofs.Arrivals.{sole_owner}
use Rattle.packet_walks.proofs.Brought.{steps_are}
use Rattle.packet_walks.proofs.Judged.{same_ends, same_itself}

-- one that is told to hold a LID alone does
told_past : (owners : List Owner) (k : ℕ) → length owners ≤ k → slice_index_or owners k Several ≡ Several
told_past [] k h = refl
told_past (x ∷ owners) zero h = absurd (omega arith)
told_past (x ∷ owners) (suc k) h = told_past owners k (omega arith)

alone : (es : List EndPort) (port : EndPort) → sole_among (owner_among es) ≡ Some port → es ≡ port ∷ []
alone [] port h = absurd (cc)
alone (e ∷ []) port h = ap (λ (x : EndPort). x ∷ []) (same_Some e port h)
alone (e ∷ x ∷ es) port h = absurd (cc)

holds_alone : (held : HeldPlan) (owners : List Owner) (lid : ℕ) (port : EndPort) → AreOwners (lines_of held) owners
    → sole_among (slice_index_or owners lid Several) ≡ Some port → owners_of held lid ≡ port ∷ []
holds_alone held owners lid port h told =
    elim (cases_lt lid (length owners)) [
      | inl within ↦ alone (holders (lines_of held) lid) port (sym (ap sole_among (h.each lid within)) ∙ told)
      | inr past ↦
          let none : ◌≡◌ {A = Option EndPort} None (Some port) = sym (ap sole_among (told_past owners lid past)) ∙ told in
          absurd (cc)
    ]

-- what the switches do with packets for the LIDs of a number is what the tables say
pub are_deliveries : (cells : Cells) (held : HeldPlan) (number : ℕ) (rows : List (List ℕ)) (nodes : List AuditedSwitch) (owners : List Owner) (lids : LidSet)
    → AreBlocks held number rows → nodes ≡ map (node_of cells held) (switches cells) → AreOwners (lines_of held) owners
    → AreDelivered nodes owners rows number lids
    → AreDeliveries cells held (record { number = number; lids = lids })
are_deliveries cells held number rows nodes owners lids blocks nodes_are owners_are h = λ lid is.
    let parts = and_parts (lid / 64 == number) (has lids (lid % 64)) is in
    let same : lid / 64 ≡ number = eqb-true (lid / 64) number parts.0 in
    let lid_is : 64 * number + lid % 64 ≡ lid = omega arith in
    let come = h (lid % 64) parts.1 in
    let port : EndPort = come.port in
    let told : sole_among (slice_index_or owners lid Several) ≡ Some port =
    sym (ap (λ (k : ℕ). sole_among (slice_index_or owners k Several)) lid_is) ∙ come.is_target in
    let own : owners_of held lid ≡ port ∷ [] = holds_alone held owners lid port owners_are told in
    let long : length nodes ≡ length (switches cells) = ap length nodes_are ∙ length-map (switches cells) (node_of cells held) in
    let hops : hops_for nodes rows (64 * number + lid % 64) (target_at owners number (lid % 64)) ≡ next_hops_of cells held lid =
    (λ i. hops_for nodes rows (lid_is i) (come.is_target i)) ∙ ap (λ (es : List EndPort). map (next_hop_of es rows lid) nodes) (sym own)
    ∙ ap (map (next_hop_of (owners_of held lid) rows lid)) nodes_are ∙ steps_are cells held lid number rows blocks (sym same) (switches cells) in
    record {
      port = port;
      owner_is = own;
      each = λ switch less.
          subst (λ (steps : List NextHop). IsEndOf steps (To switch) (Some (Taken port))) hops (come.each switch (omega arith));
    }

-- a packet that comes first to a switch
from_first : (hops : List NextHop) (count : ℕ) (port e : EndPort) (switch : Option ℕ) (far : Far) → is_among count (first_by switch far) ≡ true
    → ((s : ℕ) → s < count → IsEndOf hops (To s) (Some (Taken port))) → IsEndOf hops (sent (port ∷ []) e switch far) (Some (Taken port))
from_first hops count port e (Some index) far h each = each index (ltb-true index count h)
from_first hops count port e None Nothing h each = absurd (cc)
from_first hops count port e None (Port x) h each = absurd (cc)
from_first hops count port e None (Switch index) h each =
    let sole : is_sole port (port ∷ []) ≡ true = ap (λ (b : Bool). b && true) (same_itself port) in
    elim (is_owner (port ∷ []) e) as (λ t. is_owner (port ∷ []) e ≡ t → IsEndOf hops (cond t (Ends (Taken e)) (To index)) (Some (Taken port))) [
      | true ↦ λ q. (0, ap (λ (x : EndPort). Ends (Taken x)) (same_ends port e (sole_owner port e (port ∷ []) sole q)))
      | false ↦ λ q. each index (ltb-true index count h)
    ] refl

begin_each : (cells : Cells) (count : ℕ) (ports : List EndPort) (k : ℕ) (e : EndPort)
    → list_all (is_among count) (map first_switch (map (sender_of cells) ports)) ≡ true → slice_get ports k ≡ Some e
    → is_among count (first_switch (sender_of cells e)) ≡ true
begin_each cells count [] k e h there = absurd (cc)
begin_each cells count (x ∷ ports) zero e h there =
    let parts =
    and_parts (is_among count (first_switch (sender_of cells x))) (list_all (is_among count) (map first_switch (map (sender_of cells) ports))) h in
    sym (ap (λ (y : EndPort). is_among count (first_switch (sender_of cells y))) (same_Some x e there)) ∙ parts.0
begin_each cells count (x ∷ ports) (suc k) e h there =
    let parts =
    and_parts (is_among count (first_switch (sender_of cells x))) (list_all (is_among count) (map first_switch (map (sender_of cells) ports))) h in
    begin_each cells count ports k e parts.1 there

-- so do those of each end port
pub all_come : (cells : Cells) (held : HeldPlan) (line : HeldLid) (count : ℕ) (sources : List Sender) (firsts : List (Option ℕ))
    → sources ≡ map (sender_of cells) (end_ports cells) → firsts ≡ map first_switch sources → count ≡ length (switches cells)
    → all_begin count firsts ≡ true → ComeToOwner cells held line.lid → is_sole line.port (owners_of held line.lid) ≡ true → LineArrives cells held line
all_come cells held line count sources firsts sources_are firsts_are long begin come sole = λ e is.
    let port : EndPort = come.port in
    let alone_is : (is_same_end line.port port && true) ≡ true = sym (ap (is_sole line.port) come.owner_is) ∙ sole in
    let own : port ≡ line.port = same_ends line.port port (and_parts (is_same_end line.port port) true alone_is).0 in
    let there : slice_get (end_ports cells) is.0 ≡ Some e =
    slice_get-get_or (end_ports cells) is.0 e is.1 ∙ ap (λ (x : EndPort). Some x) is.2 in
    let all : list_all (is_among count) (map first_switch (map (sender_of cells) (end_ports cells))) ≡ true =
    sym (ap (list_all (is_among count)) (firsts_are ∙ ap (map first_switch) sources_are)) ∙ begin in
    let source : Sender = sender_of cells e in
    let ends : IsEndOf (next_hops_of cells held line.lid) (sent (port ∷ []) e source.switch source.far) (Some (Taken port)) =
    from_first (next_hops_of cells held line.lid) count port e source.switch source.far (begin_each cells count (end_ports cells) is.0 e all there)
    (λ s less. come.each s (omega arith)) in
    subst (λ (p : EndPort). IsBrought cells held line.lid e (Some (Taken p))) own
    (subst (λ (es : List EndPort). IsEndOf (next_hops_of cells held line.lid) (sent es e source.switch source.far) (Some (Taken port)))
    (sym come.owner_is) ends)
