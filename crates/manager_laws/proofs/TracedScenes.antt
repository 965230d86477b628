-- What was handed up on a scene, and what managers send there, with what is known of packets since they were sent.
use Rattle.std.proofs.Common.{◌≡◌, inl, inr, ℕ, zero, suc, ◌/◌, ◌%◌, ◌^◌, ◌<◌, ◌≤◌, Bool, true, false, List, [], ◌∷◌, ◌++◌, length}
use Rattle.std.proofs.Common.{refl, sym, ap, ◌∙◌, subst, arith}
use Rattle.std.proofs.lemmas.Bool.{and_parts, eqb-true}
use Rattle.std.specs.Prelude.{Some, Result, Ok, slice_get, not, ◌==◌, ◌&&◌}
use Rattle.fabric_model.specs.declared.cable.NodePort.{NodePort}
use Rattle.fabric_model.specs.Cables.{is_same_port}
use Rattle.smp_bytes.specs.Header.{sm_info}
use Rattle.smp_bytes.specs.Field.{number_in}
use Rattle.smp_bytes.specs.Packet.{attribute_id, is_directed, is_response}
use Rattle.smp_bytes.specs.Requests.{directed, answer_packet}
use Rattle.smp_bytes.specs.ReadBack.{FitsRequest, HoldsAnswer}
use Rattle.smp_bytes.proofs.Answered.{answer_reads_back}
use Rattle.fabric_model.proofs.Cabled.{same_port-is}
use Rattle.smp_bytes.proofs.Made.{directed_reads_back}
use Rattle.fabric_sim.specs.declared.packet.Packet.{Packet}
use Rattle.fabric_sim.specs.declared.delivered.Delivered.{Delivered}
use Rattle.fabric_sim.specs.declared.delivered.Delivered.TheVariants.{ToManager}
use Rattle.fabric_sim.specs.declared.fabric_fault.FabricFault.{FabricFault}
use Rattle.fabric_sim.specs.Simulation.{Simulation, AreCables, port_count}
use Rattle.fabric_sim.specs.ThereAndBack.{BeginsWith}
use Rattle.fabric_sim.proofs.Traced.{IsRequestFor, IsAnswerFor, IsOnCourse, IsForManager}
use Rattle.fabric_sim.proofs.TracedCalls.{turned}
use Rattle.fabric_sim.proofs.TripEnds.{request_over}
use Rattle.fabric_sim.proofs.TripsOut.{IsPortOf}
use Rattle.manager_laws.specs.Scene.{Handed, handed_by, asks_manager}

module _ (Sends : NodePort → List ℕ → Type 0) (Tells : NodePort → NodePort → List ℕ → Type 0) (start : Simulation) where
  -- what was handed up -------------------------------------------------------------------------------

  abbrev pub WereTraced : List Handed → Type 0
  WereTraced [] = Unit {0}
  WereTraced (h ∷ handed) = IsForManager Sends Tells start h.at h.packet.bytes × WereTraced handed

  pub traced_more : (handed more : List Handed) → WereTraced handed → WereTraced more → WereTraced (handed ++ more)
  traced_more [] more were also = also
  traced_more (h ∷ handed) more were also = (were.0, traced_more handed more were.1 also)

  pub traced_there : (handed : List Handed) (which : ℕ) (h : Handed) → WereTraced handed → slice_get handed which ≡ Some h
      → IsForManager Sends Tells start h.at h.packet.bytes
  traced_there [] which h were e = absurd (cc)
  traced_there (x ∷ handed) zero h were e =
      let same : x ≡ h = cc in subst (λ (y : Handed). IsForManager Sends Tells start y.at y.packet.bytes) same were.0
  traced_there (x ∷ handed) (suc which) h were e = traced_there handed which h were.1 e

  pub traced_by : (result : Result Delivered FabricFault)
      → ((at : NodePort) (packet : Packet) → result ≡ Ok (ToManager at packet) → IsForManager Sends Tells start at packet.bytes)
      → WereTraced (handed_by result)
  traced_by (Ok (ToManager at packet)) up = (up at packet refl, tt)
  traced_by result up = tt

  -- what is sent --------------------------------------------------------------------------------------

  -- a request is on its course where it is sent
  pub sent_traced : (origin : NodePort) (method attribute modifier tid : ℕ) (path payload : List ℕ)
      → FitsRequest method attribute modifier tid payload → method < 2 ^ 7 → length path ≤ 63 → BeginsWith origin.port path → IsPortOf start origin
      → Sends origin (directed method attribute modifier tid path payload)
      → IsOnCourse Sends Tells start origin (directed method attribute modifier tid path payload)
  sent_traced origin method attribute modifier tid path payload fits low short own within sent =
      let (holds, along) = directed_reads_back method attribute modifier tid path payload fits short in
      record {
        count = holds.count;
        course = λ _. (
          zero,
          inl (record {
            origin = origin;
            path = path;
            request = directed method attribute modifier tid path payload;
            over = request_over fits low short;
            own = own;
            most = omega arith;
            there = refl;
            within = within;
            bytes_are = record {
              count = holds.count;
              parses = holds.parses;
              kept = λ id h. refl;
              pointer = along.hop_pointer;
              notes = λ i some less. absurd (omega (arith, some, less));
            };
            sent = sent;
          }),
        );
      }

  -- so is a packet that is not directed
  pub other_traced : (at : NodePort) (bytes : List ℕ) → length bytes ≡ 256 → is_directed bytes ≡ false → IsOnCourse Sends Tells start at bytes
  other_traced at bytes count other = record { count = count; course = λ directed. absurd (cc (sym directed ∙ other)) }

  -- and the answer that a manager gives to a request for SMInfo
  module _ (cables : AreCables start) (counts : (id : ℕ) → port_count start id ≤ 254) (h : Handed) (seat : NodePort) (given : ℕ) (payload : List ℕ) where
    pub manager_traced : IsForManager Sends Tells start h.at h.packet.bytes → given < 2 ^ 15 → length payload ≡ 64 → asks_manager seat h ≡ true
        → ((r : IsRequestFor Sends Tells start h.at h.packet.bytes) → number_in attribute_id h.packet.bytes ≡ sm_info
        → HoldsAnswer h.packet.bytes (answer_packet h.packet.bytes given payload) given payload
        → Tells r.origin h.at (answer_packet h.packet.bytes given payload))
        → IsOnCourse Sends Tells start seat (answer_packet h.packet.bytes given payload)
    manager_traced is small whole asks tells = by_class (is_directed h.packet.bytes) refl
      where
        holds : HoldsAnswer h.packet.bytes (answer_packet h.packet.bytes given payload) given payload
        holds = answer_reads_back h.packet.bytes given payload is.whole.count is.whole.parses whole (omega (arith, small)) (λ _. small)

        parts : ((is_same_port h.at seat && not (is_response h.packet.bytes)) ≡ true) × ((number_in attribute_id h.packet.bytes == sm_info) ≡ true)
        parts = and_parts _ _ asks

        before : (is_same_port h.at seat ≡ true) × (not (is_response h.packet.bytes) ≡ true)
        before = and_parts _ _ parts.0

        is_answer : IsAnswerFor Sends Tells start h.at h.packet.bytes → is_response h.packet.bytes ≡ true
        is_answer r = ap (λ b. b / 2 ^ 7 % 2 ^ 1 == 1) (r.kept 3 (inl (omega arith))) ∙ r.is.response

        by_class : (b : Bool) → is_directed h.packet.bytes ≡ b → IsOnCourse Sends Tells start seat (answer_packet h.packet.bytes given payload)
        by_class false e = other_traced seat (answer_packet h.packet.bytes given payload) holds.count (holds.class ∙ e)
        by_class true e = elim (is.course e) [
          | inl r ↦ subst (λ p. IsOnCourse Sends Tells start p (answer_packet h.packet.bytes given payload)) (same_port-is h.at seat before.0)
              (turned Sends Tells start cables counts h.at h.packet.bytes given payload r holds (tells r (eqb-true _ _ parts.1) holds))
          | inr r ↦ absurd (cc (sym (ap not (is_answer r)) ∙ before.1))
        ]
