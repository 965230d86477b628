-- What holds of each case of a step holds of the step.
use Rattle.std.proofs.Common.{◌≡◌, ℕ, ◌+◌, ◌-◌, ◌<◌, ◌≤◌, Bool, true, false, ◌||◌, ◌==◌, List, length, refl, ◌∙◌, arith}
use Rattle.std.proofs.lemmas.Bool.Decides.{nat_tests}
use Rattle.std.specs.Prelude.{nat_lt, if◌then◌else◌}
use Rattle.smp_bytes.specs.Field.{Field, number_in, are_apart}
use Rattle.smp_bytes.specs.Packet.{hop_pointer, hop_count, initial_path, return_path, is_returning}
use Rattle.smp_bytes.proofs.FieldLaws.{length-with_number, number_in-with_number_apart}
use Rattle.dr_forward.specs.declared.here.Here.{Here}
use Rattle.dr_forward.specs.declared.verdict.Verdict.{Verdict}
use Rattle.dr_forward.specs.declared.verdict.Verdict.TheVariants.{Out, ToAgent, ToManager, Discard}
use Rattle.dr_forward.specs.declared.verdict.DiscardReason.{DiscardReason}
use Rattle.dr_forward.specs.declared.verdict.DiscardReason.TheVariants.{Course, Transit, OutPort}
use Rattle.dr_forward.specs.DirectedStep.{Stepped, discarded, pointed, noted, is_port, leaves_by, moved_on, goes_on, goes_back, outgoing, returning, step}
use Rattle.dr_forward.specs.StepLaws.{DiscardedIsUnchanged, LeavesByAPort, OtherFieldsStay}

-- what holds of both holds of either
either : (P : Stepped → Type 0) (b : Bool) (x y : Stepped) → P x → P y → P (if b then x else y)
either P true x y h k = h
either P false x y h k = k

-- what is so of each way that a packet goes on
pub record HoldsOfAll (P : Stepped → Type 0) (here : Here) (packet : List ℕ) : Type 0 where
  pub off : (reason : DiscardReason) → P (discarded packet reason)
  pub end : P (record { packet = moved_on here packet; verdict = ToAgent })
  pub on : (port : ℕ) → is_port here port ≡ true → P (record { packet = moved_on here packet; verdict = Out port })
  pub back : (port pointer : ℕ) → is_port here port ≡ true → P (record { packet = pointed pointer packet; verdict = Out port })
  pub home : P (record { packet = pointed 0 packet; verdict = ToManager })

module _ (P : Stepped → Type 0) (here : Here) (packet : List ℕ) (all : HoldsOfAll P here packet) where
  leaves : (port : ℕ) (after : List ℕ) → (is_port here port ≡ true → P (record { packet = after; verdict = Out port })) → P (leaves_by here port packet after)
  leaves port after h =
      elim (is_port here port) as (λ t. is_port here port ≡ t → P (if t then record { packet = after; verdict = Out port } else discarded packet OutPort)) [
        | true ↦ λ e. h e
        | false ↦ λ e. all.off OutPort
      ] refl

  -- it is so of the step
  pub holds_of_step : P (step here packet)
  holds_of_step =
      let at : ℕ = number_in hop_pointer packet in
      let hops : ℕ = number_in hop_count packet in
      let ahead : P (goes_on here packet) =
      either P (at == 0 || here.is_switch) _ _
      (leaves (number_in (initial_path (at + 1)) packet) (moved_on here packet) (all.on (number_in (initial_path (at + 1)) packet)))
      (all.off Transit) in
      let behind : P (goes_back here packet) =
      leaves (number_in (return_path (at - 1)) packet) (pointed (at - 1) packet) (all.back (number_in (return_path (at - 1)) packet) (at - 1)) in
      let out : P (outgoing here packet) = either P (nat_lt at hops) _ _ ahead (either P (at == hops) _ _ all.end (all.off Course)) in
      let home : P (returning here packet) =
      either P (at == 0) _ _ (all.off Course) (either P (at == 1) _ _ all.home (either P (nat_lt hops at || here.is_switch) _ _ behind (all.off Transit))) in
      either P (is_returning packet) _ _ home out

-- a packet is as it was where it is discarded
abbrev pub IsUnchanged : List ℕ → Stepped → Type 0
IsUnchanged packet s = (reason : DiscardReason) → s.verdict ≡ Discard reason → s.packet ≡ packet

pub discarded_is_unchanged : DiscardedIsUnchanged
discarded_is_unchanged here packet =
    holds_of_step (IsUnchanged packet) here packet (record {
      off = λ r reason e. refl;
      end = λ reason e. absurd (cc);
      on = λ port h reason e. absurd (cc);
      back = λ port pointer h reason e. absurd (cc);
      home = λ reason e. absurd (cc);
    })

-- a packet leaves by a port of the node
abbrev pub LeavesByPortOf : Here → Stepped → Type 0
LeavesByPortOf here s = (port : ℕ) → s.verdict ≡ Out port → (1 ≤ port) × (port ≤ here.ports)

in_range : (here : Here) (port q : ℕ) → is_port here port ≡ true → ◌≡◌ {A = Verdict} (Out port) (Out q) → (1 ≤ q) × (q ≤ here.ports)
in_range here port q h e =
    let same : port ≡ q = cc (e) in
    (grind (arith, nat_tests), grind (arith, nat_tests))

pub leaves_by_a_port : LeavesByAPort
leaves_by_a_port here packet =
    holds_of_step (LeavesByPortOf here) here packet (record {
      off = λ r port e. absurd (cc);
      end = λ port e. absurd (cc);
      on = λ p h port e. in_range here p port h e;
      back = λ p pointer h port e. in_range here p port h e;
      home = λ port e. absurd (cc);
    })

module _ (packet : List ℕ) (field : Field) (size : length packet ≡ 256) (apart : are_apart field hop_pointer ≡ true) where
  pointed_stays : (pointer : ℕ) → number_in field (pointed pointer packet) ≡ number_in field packet
  pointed_stays pointer = number_in-with_number_apart field hop_pointer pointer packet (omega (arith, size)) apart

  noted_stays : (at pointer : ℕ) (here : Here) → at < 64 → field.at + field.len ≤ 192 → number_in field (noted at here (pointed pointer packet))
      ≡ number_in field packet
  noted_stays at pointer here path below =
      number_in-with_number_apart field (return_path at) here.arrival (pointed pointer packet)
      (omega (arith, size, path, length-with_number hop_pointer pointer packet (omega (arith, size))))
      (grind (arith, nat_tests))
      ∙ pointed_stays pointer

  moved_on_stays : (here : Here) → number_in hop_pointer packet < 64 → field.at + field.len ≤ 192 → number_in field (moved_on here packet)
      ≡ number_in field packet
  moved_on_stays here path below =
      elim (number_in hop_pointer packet == 0) as
      (λ t. number_in field (if t then pointed 1 packet else noted (number_in hop_pointer packet) here (pointed (number_in hop_pointer packet + 1) packet))
      ≡ number_in field packet) [
        | true ↦ pointed_stays 1
        | false ↦ noted_stays (number_in hop_pointer packet) (number_in hop_pointer packet + 1) here path below
      ]

pub other_fields_stay : OtherFieldsStay
other_fields_stay here packet field size path apart below =
    holds_of_step (λ s. number_in field s.packet ≡ number_in field packet) here packet (record {
      off = λ r. refl;
      end = moved_on_stays packet field size apart here path below;
      on = λ p h. moved_on_stays packet field size apart here path below;
      back = λ p pointer h. pointed_stays packet field size apart pointer;
      home = pointed_stays packet field size apart 0;
    })
