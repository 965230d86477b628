-- What a call is to a manager: the end of a step that waits, or nothing to its writing.
use Rattle.std.proofs.Common.{◌≡◌, ◌⊎◌, inl, inr, ℕ, ◌+◌, ◌<◌, ◌≤◌, ◌^◌, Bool, true, false, cond, List, [], ◌∷◌, ◌++◌, length, replicate, refl, sym, ap, ◌∙◌, subst, arith}
use Rattle.std.proofs.lemmas.List.Elements.{Contains-append_left, Contains-append_cases}
use Rattle.std.proofs.lemmas.Bool.{cond_both, and_parts, and_from, eqb-true, ltb-false, ltb-true}
use Rattle.std.proofs.lemmas.List.{append_assoc, append-nil, length-drop, length-replicate, length-take-le}
use Rattle.std.specs.Prelude.{Contains, IfSome, Option, Some, None, drop, is_none, nat_le, nat_lt, not, option_and_then, option_map, slice_get, if◌then◌else◌, ◌==◌}
use Rattle.fabric_model.specs.declared.cable.NodePort.{NodePort}
use Rattle.smp_bytes.specs.declared.smp_fault.SmpFault.{SmpFault}
use Rattle.fabric_model.specs.Cables.{is_same_port}
use Rattle.smp_bytes.specs.Header.{get, get_resp, set, done, sm_info}
use Rattle.smp_bytes.specs.Field.{bytes_in, number_in, with_bits}
use Rattle.smp_bytes.specs.Packet.{attribute_data, attribute_id, attribute_modifier, fault_of, is_directed, is_response, max_hops, method, mgmt_class, status, transaction_id}
use Rattle.smp_bytes.specs.Requests.{answer_packet, directed, lid_routed, request_entries}
use Rattle.smp_bytes.specs.ReadBack.{FitsRequest, HoldsAnswer, HoldsRequest}
use Rattle.smp_bytes.proofs.Answered.{answer_reads_back}
use Rattle.smp_bytes.proofs.Made.{directed_reads_back}
use Rattle.smp_bytes.proofs.FieldLaws.{length-with_bytes, length-with_number, length-with_numbers, number_in-with_numbers}
use Rattle.smp_bytes.proofs.RequestLaws.{length-request, lid_routed_field}
use Rattle.attr_codec.specs.declared.sm_info.SmInfo.{SmInfo}
use Rattle.attr_codec.specs.Image.{image}
use Rattle.attr_codec.specs.SmInfo.{priority, sm_info_bytes, sm_info_entries}
use Rattle.fabric_sim.specs.Simulation.{Simulation}
use Rattle.fabric_sim.proofs.Courses.{IsForManager}
use Rattle.lft_blocks.specs.Plan.{PlanValue}
use Rattle.subnet_view.proofs.Apart.{found_there}
use Rattle.subnet_view.proofs.Members.{contains_cases, contains_none}
use Rattle.sm_state.specs.declared.control.Control.{Control}
use Rattle.sm_state.specs.declared.control.Control.TheVariants as control
use Rattle.sm_state.specs.declared.election.SeenManager.{SeenManager}
use Rattle.sm_state.specs.Conduct.{is_live}
use Rattle.sm_state.specs.declared.event.Message.{Message}
use Rattle.sm_state.specs.declared.transition.Transition.{Transition}
use Rattle.sm_state.specs.Control.{control_of_message, modifier_of_control}
use Rattle.sm_state.specs.declared.event.Event.TheVariants as event
use Rattle.sm_state.specs.Transitions.{status_of, stepped}
use Rattle.sm_manager.specs.declared.outgoing.Outgoing.{Outgoing}
use Rattle.sm_manager.specs.declared.pending.Pending.{Pending}
use Rattle.sm_manager.specs.declared.pending.Purpose.{Purpose}
use Rattle.sm_manager.specs.declared.pending.Purpose.TheVariants as purpose
use Rattle.sm_state.specs.declared.standing.Standing.{Standing}
use Rattle.sm_manager.specs.Election.{along, asked, after_handover, handed_to, handing_fault, handover_fault, handover_move, heir, info_out}
use Rattle.sm_manager.specs.Election.{successor, planned_fault, planned_way, poll_fault, after_poll, after_message, if_way_out, is_way_out}
use Rattle.sm_manager.specs.Election.{after_rediscover, after_yield, receiver_fault, receiver_lid, receiver_way, rediscover_fault, yield_fault}
use Rattle.sm_manager.specs.Election.{path_seen, poll_way, polled, polled_by, unless_way, way_seen}
use Rattle.sm_manager.specs.declared.way.Way.{Way}
use Rattle.sm_manager.specs.declared.way.Way.TheVariants.{Along, ToLid}
use Rattle.sm_manager.specs.PlanFaults.{number_fault, or_else}
use Rattle.sm_manager.specs.declared.fault.ManagerFault.{ManagerFault}
use Rattle.sm_manager.specs.declared.fault.ManagerFault.TheVariants.{NotMaster, NotStandby, SequenceSpent}
use Rattle.sm_manager.specs.Manager.{Manager}
use Rattle.sm_manager.specs.Packets.{Called, answers, after_timeout, is_for_sweep, is_info_request, packet_taken, pending_for, request_answered}
use Rattle.sm_manager.specs.Packets.{request_gave_up, after_request, after_packet, unless_spent}
use Rattle.sm_manager.specs.ManagerRequests.{is_for_step, is_step, with_number}
use Rattle.sm_manager.specs.SmInfoAnswers.{acknowledged_by, answer_data, answer_out, answering, controlled, is_control, moved_on, replying, request_counted, served, status_for}
use Rattle.sm_manager.specs.Traps.{represses, repress_out, repressing, trap_repress}
use Rattle.sm_state.specs.Standing.{after_request_heard, info_of, info_with, is_in, moved_by, moved_to}
use Rattle.sm_state.specs.declared.state.SmState.TheVariants.{Standby}
use Rattle.sm_manager.specs.Writing.{is_done_by, is_spent, after_step, without}
use Rattle.manager_laws.specs.Scene.{Handed, asks_manager}
use Rattle.manager_laws.proofs.Fair.{AreOwnPackets, BesideCall, IsOwnPacket, answer_own, asked_are_own, lid_own, own_more, path_own}
use Rattle.manager_laws.proofs.Numbered.{AreOnce, once_more, once_without, one_once, others_wait, others_waited}
use Rattle.manager_laws.proofs.Scenes.{SetsInfoAlone}
use Rattle.manager_laws.proofs.Steps.{StepSent}
use Rattle.manager_laws.proofs.WritingSweeps.{Ground, SweepCall, SweepSide, sweep_replied, sweep_timed, unchanged}

-- packets by LIDs ----------------------------------------------------------------------------------------

-- a request by LIDs is not directed
module _ (method_number attribute modifier tid : ℕ) (payload : List ℕ) (whole : length payload ≡ 64) where
  length-lid_routed : length (lid_routed method_number attribute modifier tid payload) ≡ 256
  length-lid_routed =
      let long = length-request method_number attribute modifier tid 0x01 in
      length-with_bytes 64 payload _ (omega (arith, long, whole)) ∙ long

  not_directed : is_directed (lid_routed method_number attribute modifier tid payload) ≡ false
  not_directed =
      ap (λ n. n == 0x81) (lid_routed_field method_number attribute modifier tid mgmt_class payload whole (omega arith)
      ∙ number_in-with_numbers 256 (request_entries 0x01 method_number attribute modifier tid) (replicate 256 0) 1 _ refl refl refl (omega arith))

-- one for SMInfo sets SMInfo, if anything
info_alone : (method_number modifier tid : ℕ) (payload : List ℕ) → length payload ≡ 64 → SetsInfoAlone (lid_routed method_number sm_info modifier tid payload)
info_alone method_number modifier tid payload whole sets =
    lid_routed_field method_number sm_info modifier tid attribute_id payload whole (omega arith)
    ∙ number_in-with_numbers 256 (request_entries 0x01 method_number sm_info modifier tid) (replicate 256 0) 5 _ refl refl refl (omega arith)

-- one of another method sets nothing
sets_not : (method_number attribute modifier tid : ℕ) (payload : List ℕ) → length payload ≡ 64 → method_number < 256 → (method_number ≡ set → ⊥)
    → SetsInfoAlone (lid_routed method_number attribute modifier tid payload)
sets_not method_number attribute modifier tid payload whole small other sets =
    absurd (other (sym (lid_routed_field method_number attribute modifier tid method payload whole (omega arith)
    ∙ number_in-with_numbers 256 (request_entries 0x01 method_number attribute modifier tid) (replicate 256 0) 3 _ refl refl refl (omega (arith, small))) ∙ sets))

-- an answer sets nothing
answers_set_nothing : (bytes : List ℕ) → number_in method bytes ≡ get_resp → SetsInfoAlone bytes
answers_set_nothing bytes answer sets = let clash : get_resp ≡ set = sym answer ∙ sets in absurd (omega (arith, clash))

-- what a manager tells of itself fills an attribute
length-sm_info : (info : SmInfo) → length (sm_info_bytes info) ≡ 64
length-sm_info info =
    let long : length (image (sm_info_entries info)) ≡ 64 = length-with_numbers 64 (sm_info_entries info) (replicate 64 0) refl refl in
    let whole = image (sm_info_entries info) in
    let first = with_bits priority info.priority whole in
    let longer : length (with_bits priority info.priority (image (sm_info_entries info))) ≡ 64 =
    length-with_number (record { at = 20; len = 1 }) _ whole (omega (arith, long)) ∙ long in
    length-with_number (record { at = 20; len = 1 }) _ first (omega (arith, longer)) ∙ longer

length-data : (packet : List ℕ) → length packet ≡ 256 → length (bytes_in attribute_data packet) ≡ 64
length-data packet long = length-take-le 64 (drop 64 packet) (omega (arith, length-drop 64 packet, long))

-- a way that a request with the given number may go from the given port
abbrev IsWay : ℕ → ℕ → Way → Type 0
IsWay port number (ToLid lid) = Unit {0}
IsWay port number (Along path) = (is_way_out port path ≡ true) × (number < 2 ^ 32)

few_controls : (control : Control) → modifier_of_control control < 2 ^ 32
few_controls control.Handover = omega arith
few_controls control.Acknowledge = omega arith
few_controls control.Disable = omega arith
few_controls control.Standby = omega arith
few_controls control.Discover = omega arith

to_lid : (port number : ℕ) (lid : Option ℕ) → IfSome (option_map ToLid lid) (IsWay port number)
to_lid port number None = tt
to_lid port number (Some lid) = tt

along_path : (port number : ℕ) (path : Option (List ℕ)) → number < 2 ^ 32 → IfSome (along (if_way_out port path)) (IsWay port number)
along_path port number None few = tt
along_path port number (Some path) few = by_test (is_way_out port path) refl
  where
    by_test : (b : Bool) → is_way_out port path ≡ b → IfSome (along (cond b (Some path) None)) (IsWay port number)
    by_test true is = (is, few)
    by_test false is = tt

poll_is_way : (m : Manager) (lid : Option ℕ) → m.counter < 2 ^ 32 → IfSome (poll_way m lid) (IsWay m.port m.counter)
poll_is_way m (Some lid) few = tt
poll_is_way m None few = along_path m.port m.counter (option_and_then (path_seen m.sweep) (polled m)) few

-- there is a number
number_there : (way : Option ManagerFault) (counter : ℕ) → or_else way (number_fault (counter + 1)) ≡ None → counter < 2 ^ 32
number_there (Some why) counter e = absurd (cc)
number_there None counter e = by_test (nat_lt (2 ^ 32) (counter + 1)) refl e
  where
    by_test : (b : Bool) → nat_lt (2 ^ 32) (counter + 1) ≡ b → cond b (Some SequenceSpent) None ≡ None → counter < 2 ^ 32
    by_test true is e = absurd (cc)
    by_test false is e = let most = ltb-false _ _ is in omega (arith, most)

-- for a poll that is not refused
polled_number : (stands_by : Bool) (way : Option ManagerFault) (counter : ℕ)
    → cond stands_by (or_else way (number_fault (counter + 1))) (Some NotStandby) ≡ None → counter < 2 ^ 32
polled_number false way counter e = absurd (cc)
polled_number true way counter e = number_there way counter e

-- for a handover that is not refused
receiver_is_way : (m : Manager) (receiver : Option SeenManager) → handing_fault m receiver ≡ None → IfSome (receiver_way m receiver) (IsWay m.port m.counter)
receiver_is_way m receiver none = by_conduct (is_live m.standing.conduct) (may_go (is_none (handover_move m).message) none)
  where
    may_go : (b : Bool) → cond b (Some NotMaster) (receiver_fault m receiver) ≡ None → receiver_fault m receiver ≡ None
    may_go true e = absurd (cc)
    may_go false e = e

    by_conduct : (b : Bool) → cond b (or_else (unless_way (way_seen m receiver)) (number_fault (m.counter + 1))) (planned_fault m receiver) ≡ None
        → IfSome (cond b (way_seen m receiver) (planned_way m receiver)) (IsWay m.port m.counter)
    by_conduct true e = along_path m.port m.counter (option_and_then (path_seen m.sweep) receiver) (number_there (unless_way (way_seen m receiver)) m.counter e)
    by_conduct false e = to_lid m.port m.counter (receiver_lid m receiver)

no_fault : (o : Option ManagerFault) → is_none o ≡ true → o ≡ None
no_fault None e = refl
no_fault (Some why) e = absurd (cc)

-- a step that waits ends; where it was done, this is known -------------------------------------------------

pub record StepEnds (Heard : Pending → Type 0) (m after : Manager) : Type 0 where
  pub step : Pending
  pub there : Contains m.pending step
  pub counts : Bool
  pub purpose_is : step.purpose ≡ purpose.Step counts
  pub was_done : Bool
  pub is : after ≡ (unless_spent m (after_step m step was_done)).manager
  pub heard : was_done ≡ true → Heard step

-- its answer came, and says that it was done
pub record HeardBy (bytes : List ℕ) (p : Pending) : Type 0 where
  pub answers_it : answers bytes p ≡ true
  pub done_is : status bytes ≡ done
  pub no_sweep : is_for_sweep bytes ≡ false

module _ (start : Simulation) (seat : NodePort) (plan : PlanValue) (g : Ground start seat) (old : Type 0) (handed : List Handed) where
  Beside : Manager → Manager → Type 0
  Beside m after = BesideCall start seat plan old handed m after

  -- a call by which no request comes to wait or ends
  none_ends : (new : Type 0) (m after : Manager) (more : List Outgoing) → after.writing ≡ m.writing → after.pending ≡ m.pending → after.counter ≡ m.counter
      → after.outgoing ≡ m.outgoing ++ more → AreOnce m.counter m.pending
      → ((c : ℕ) (all : List StepSent) → AreOwnPackets start seat plan c all handed more) → SweepSide start seat new after
      → BesideCall start seat plan new handed m after
  none_ends new m after more writing pending counter outgoing once own side =
      record {
        writing = writing;
        steps_stay = λ p there _. subst (λ ps. Contains ps p) (sym pending) there;
        steps_were = λ p there _. subst (λ ps. Contains ps p) pending there;
        upto = omega (arith, counter);
        once = subst (λ n. AreOnce n after.pending) (sym counter) (subst (AreOnce m.counter) (sym pending) once);
        more = more;
        outgoing = outgoing;
        own = own;
        side = side;
      }

  -- a call that is the sweep's business
  pub beside_swept : (new : Type 0) (m after : Manager) → AreOnce m.counter m.pending → SweepCall start seat new m after
      → BesideCall start seat plan new handed m after
  beside_swept new m after once call =
      none_ends new m after call.more call.writing call.pending call.counter call.outgoing once
      (λ c all. asked_are_own start seat plan c all handed g call.more call.asks) call.side

  -- nothing happens
  stays : (m : Manager) → SweepSide start seat old m → AreOnce m.counter m.pending → Beside m m
  unfolding Beside
  stays m side once = beside_swept old m m once (unchanged start seat old m side)

  -- one call after the other
  both : (m middle after : Manager) → Beside m middle → Beside middle after → Beside m after
  unfolding Beside
  both m middle after one other =
      record {
        writing = other.writing ∙ one.writing;
        steps_stay = λ p there is. other.steps_stay p (one.steps_stay p there is) is;
        steps_were = λ p there is. one.steps_were p (other.steps_were p there is) is;
        upto = let first = one.upto in let second = other.upto in omega (arith, first, second);
        once = other.once;
        more = one.more ++ other.more;
        outgoing = other.outgoing ∙ ap (λ out. out ++ other.more) one.outgoing ∙ append_assoc m.outgoing one.more other.more;
        own = λ c all. own_more start seat plan c all handed one.more other.more (one.own c all) (other.own c all);
        side = other.side;
      }

  -- a request that is no step waits no more
  module _ (m : Manager) (side : SweepSide start seat old m) (once : AreOnce m.counter m.pending) (p : Pending) (there : Contains m.pending p)
      (other : is_step p ≡ false) where
    over : (standing : Standing) → Beside m (record (without m p) { standing = standing })
    unfolding Beside
    over standing =
        record {
          writing = refl;
          steps_stay = λ q among is. others_wait p.number m.pending q
              (λ same. absurd (cc (sym other ∙ ap is_step (sym (once.once q p among there same)) ∙ is))) among;
          steps_were = λ q among is. others_waited p.number m.pending q among;
          upto = omega arith;
          once = once_without p.number m.counter m.pending once;
          more = [];
          outgoing = sym (append-nil m.outgoing);
          own = λ c all. tt;
          side = record { port = side.port; lmc = side.lmc; sweep = side.sweep; knows = side.knows };
        }

  -- a request of its own goes out, and waits
  asks_own : (m : Manager) → SweepSide start seat old m → AreOnce m.counter m.pending → (waits : Pending) (out : Outgoing) → waits.number ≡ m.counter
      → is_step waits ≡ false → ((c : ℕ) (all : List StepSent) → IsOwnPacket start seat plan c all handed out) → Beside m (asked m waits out)
  unfolding Beside
  asks_own m side once waits out number other own =
      record {
        writing = refl;
        steps_stay = λ q among is. Contains-append_left m.pending (waits ∷ []) q among;
        steps_were = λ q among is. elim (Contains-append_cases m.pending (waits ∷ []) q among) [
          | inl i ↦ i
          | inr k ↦ absurd (cc (sym other ∙ ap is_step (only q k) ∙ is))
        ];
        upto = omega arith;
        once = once_more m.counter (m.counter + 1) m.pending (waits ∷ []) once
            (subst (λ n. AreOnce (n + 1) (waits ∷ [])) number (one_once waits)) (omega arith)
            (λ q k. let same = ap (λ (x : Pending). x.number) (only q k) in omega (arith, same, number));
        more = out ∷ [];
        outgoing = refl;
        own = λ c all. (own c all, tt);
        side = record { port = side.port; lmc = side.lmc; sweep = side.sweep; knows = side.knows };
      }
    where
      only : (q : Pending) → Contains (waits ∷ []) q → waits ≡ q
      only q k = elim (contains_cases waits q [] k) [ inl i ↦ i | inr none ↦ absurd (contains_none q none) ]

  -- a request for SMInfo, by LIDs or over a path that leaves by the seat's port
  module _ (c : ℕ) (all : List StepSent) (method_number modifier number : ℕ) (payload : List ℕ) (whole : length payload ≡ 64)
      (low : method_number < 2 ^ 7) (small : modifier < 2 ^ 32) where
    by_path : (port : ℕ) → port ≡ seat.port → (path : List ℕ) → is_way_out port path ≡ true → number < 2 ^ 32
        → IsOwnPacket start seat plan c all handed (info_out method_number modifier number (Along path) payload)
    by_path port here [] is few = absurd (cc)
    by_path port here (first ∷ path) is few =
        path_own start seat plan c all handed method_number sm_info modifier number (first ∷ path) payload fits low short
        (eqb-true _ _ parts.0 ∙ here) (inl (inr (inr reads.attribute_id, λ _. reads.attribute_id)))
      where
        parts : ((first == port) ≡ true) × (nat_lt (length path) max_hops ≡ true)
        parts = and_parts (first == port) (nat_lt (length path) max_hops) is

        short : length (first ∷ path) ≤ 63
        short = let less = ltb-true _ _ parts.1 in omega (arith, less)

        fits : FitsRequest method_number sm_info modifier number payload
        fits =
            record {
              method = omega (arith, low);
              attribute_id = omega arith;
              attribute_modifier = small;
              transaction_id = omega (arith, few);
              attribute_data = whole;
            }

        reads : HoldsRequest (directed method_number sm_info modifier number (first ∷ path) payload) method_number sm_info modifier number payload
        reads = (directed_reads_back method_number sm_info modifier number (first ∷ path) payload fits short).0

    by_way : (port : ℕ) → port ≡ seat.port → (way : Way) → IsWay port number way
        → IsOwnPacket start seat plan c all handed (info_out method_number modifier number way payload)
    by_way port here (ToLid lid) is =
        lid_own start seat plan c all handed (info_out method_number modifier number (ToLid lid) payload)
        (length-lid_routed method_number sm_info modifier number payload whole)
        (not_directed method_number sm_info modifier number payload whole) (info_alone method_number modifier number payload whole)
    by_way port here (Along path) is = by_path port here path is.0 is.1

  polls : (m : Manager) → SweepSide start seat old m → AreOnce m.counter m.pending → (lid : Option ℕ) → poll_fault m lid ≡ None → Beside m (after_poll m lid)
  polls m side once lid none = by_a_way (poll_way m lid) (poll_is_way m lid few)
    where
      few : m.counter < 2 ^ 32
      few = polled_number (is_in Standby m.standing) (unless_way (poll_way m lid)) m.counter none

      by_a_way : (to : Option Way) → IfSome to (IsWay m.port m.counter) → Beside m (polled_by m to)
      by_a_way None is = stays m side once
      by_a_way (Some way) is =
          asks_own m side once _ _ refl refl (λ c all. by_way c all get 0 m.counter (replicate 64 0) (length-replicate {A = ℕ} 64 0) (omega arith) (omega arith)
          m.port side.port way is)

  tells : (m : Manager) → SweepSide start seat old m → AreOnce m.counter m.pending → (to : Option Way) (message : Option Message)
      → IfSome to (IsWay m.port m.counter) → Beside m (after_message m to message)
  tells m side once None message is = stays m side once
  tells m side once (Some way) None is = stays m side once
  tells m side once (Some way) (Some message) is =
      let control = control_of_message message in
      asks_own m side once _ _ refl refl (λ c all. by_way c all set (modifier_of_control control) m.counter (sm_info_bytes (info_with control m.standing))
      (length-sm_info (info_with control m.standing)) (omega arith) (few_controls control) m.port side.port way is)

  -- it is in another state
  moves : (m : Manager) → SweepSide start seat old m → AreOnce m.counter m.pending → (standing : Standing) → Beside m (record m { standing = standing })
  unfolding Beside
  moves m side once standing =
      none_ends old m (record m { standing = standing }) [] refl refl refl (sym (append-nil m.outgoing)) once (λ c all. tt)
      (record { port = side.port; lmc = side.lmc; sweep = side.sweep; knows = side.knows })

  -- a trap is repressed by LIDs
  represses_it : (m : Manager) → SweepSide start seat old m → AreOnce m.counter m.pending → (bytes : List ℕ) (lid : Option ℕ) → length bytes ≡ 256
      → Beside m (repressing m bytes lid)
  unfolding Beside
  represses_it m side once bytes lid count =
      let attribute = number_in attribute_id bytes in
      let modifier = number_in attribute_modifier bytes in
      let tid = number_in transaction_id bytes in
      let payload = bytes_in attribute_data bytes in
      let whole = length-data bytes count in
      none_ends old m (repressing m bytes lid) (repress_out bytes lid ∷ []) refl refl refl refl once (λ c all. (
        lid_own start seat plan c all handed (repress_out bytes lid) (length-lid_routed trap_repress attribute modifier tid payload whole)
            (not_directed trap_repress attribute modifier tid payload whole) (sets_not trap_repress attribute modifier tid payload whole (omega arith)
            (λ same. omega (arith, same))),
        tt,
      )) (record { port = side.port; lmc = side.lmc; sweep = side.sweep; knows = side.knows })

  -- requests of other managers -----------------------------------------------------------------------------

  module _ (which : ℕ) (h : Handed) (there : slice_get handed which ≡ Some h) (here : is_same_port h.at seat ≡ true)
      (is : IsForManager start seat h.packet.bytes)
      (asks_it : is_info_request h.packet.bytes ≡ true) where
    asks_here : asks_manager seat h ≡ true
    asks_here =
        let parts = and_parts (not (is_response h.packet.bytes)) (number_in attribute_id h.packet.bytes == sm_info) asks_it in
        and_from _ _ (and_from (is_same_port h.at seat) (not (is_response h.packet.bytes)) here parts.0) parts.1

    -- an answer goes out
    module _ (m : Manager) (side : SweepSide start seat old m) (once : AreOnce m.counter m.pending) (lid : Option ℕ) (given : ℕ) (small : given < 2 ^ 15) where
      whole : length (answer_data m.standing h.packet.bytes given) ≡ 64
      whole = cond_both (given == done) _ _ (λ (d : List ℕ). length d ≡ 64) (λ _. length-sm_info (info_of m.standing))
          (λ _. length-data h.packet.bytes is.whole.count)

      holds : HoldsAnswer h.packet.bytes (answer_packet h.packet.bytes given (answer_data m.standing h.packet.bytes given)) given
          (answer_data m.standing h.packet.bytes given)
      holds = answer_reads_back h.packet.bytes given (answer_data m.standing h.packet.bytes given) is.whole.count is.whole.parses whole (omega (arith, small))
          (λ _. small)

      own_answer : (c : ℕ) (all : List StepSent) → IsOwnPacket start seat plan c all handed (answer_out m.standing h.packet.bytes lid given)
      own_answer c all = by_class (is_directed h.packet.bytes) refl
        where
          out : (to : Option ℕ) → Outgoing
          out to = record { packet = answer_packet h.packet.bytes given (answer_data m.standing h.packet.bytes given); to = to }

          by_class : (b : Bool) → is_directed h.packet.bytes ≡ b → IsOwnPacket start seat plan c all handed (answer_out m.standing h.packet.bytes lid given)
          by_class true e =
              let same : answer_out m.standing h.packet.bytes lid given ≡ out None = ap (λ b. out (if b then None else lid)) e in
              subst (IsOwnPacket start seat plan c all handed) (sym same)
              (answer_own start seat plan c all handed which h given (answer_data m.standing h.packet.bytes given) there asks_here e small whole)
          by_class false e =
              lid_own start seat plan c all handed (answer_out m.standing h.packet.bytes lid given) holds.count (holds.class ∙ e)
              (answers_set_nothing (answer_out m.standing h.packet.bytes lid given).packet holds.method)

      answers_it : Beside m (answering m h.packet.bytes lid given)
      unfolding Beside
      answers_it =
          none_ends old m (answering m h.packet.bytes lid given) (answer_out m.standing h.packet.bytes lid given ∷ []) refl refl refl refl once
          (λ c all. (own_answer c all, tt)) (record { port = side.port; lmc = side.lmc; sweep = side.sweep; knows = side.knows })

    module _ (m : Manager) (side : SweepSide start seat old m) (once : AreOnce m.counter m.pending) (lid : Option ℕ) where
      moves_on : (move : Transition) → Beside m (moved_on m h.packet.bytes lid move)
      unfolding Beside
      moves_on move =
          let standing = moved_to move.state m.standing in
          let in_state = record m { standing = standing } in
          let one = moves m side once standing in
          let small : status_of move < 2 ^ 15 = cond_both move.is_refused _ _ (λ (n : ℕ). n < 2 ^ 15) (λ _. omega arith) (λ _. omega arith) in
          let two = answers_it in_state one.side one.once lid (status_of move) small in
          let answered = answering in_state h.packet.bytes lid (status_of move) in
          both m in_state _ one (both in_state answered _ two (tells answered two.side two.once (acknowledged_by h.packet.bytes lid) move.message acknowledged))
        where
          acknowledged : IfSome (acknowledged_by h.packet.bytes lid) (IsWay m.port m.counter)
          acknowledged =
              cond_both (is_directed h.packet.bytes) None (option_map ToLid lid) (λ (o : Option Way). IfSome o (IsWay m.port m.counter)) (λ _. tt)
              (λ _. to_lid m.port m.counter lid)

      replies : Beside m (answering m h.packet.bytes lid (status_for h.packet.bytes))
      replies = answers_it m side once lid (status_for h.packet.bytes) small
        where
          small : status_for h.packet.bytes < 2 ^ 15
          small =
              cond_both (number_in method h.packet.bytes == get) _ _ (λ (n : ℕ). n < 2 ^ 15) (λ _. omega arith)
              (λ _. cond_both (number_in method h.packet.bytes == set) _ _ (λ (n : ℕ). n < 2 ^ 15) (λ _. omega arith) (λ _. omega arith))

    module _ (m : Manager) (side : SweepSide start seat old m) (once : AreOnce m.counter m.pending) (lid : Option ℕ) where
      -- the request is counted first
      counts : Beside m (request_counted m)
      counts = moves m side once (after_request_heard m.standing)

      counted : (after : Manager) → Beside (request_counted m) after → Beside m after
      counted after rest = both m (request_counted m) after counts rest

      pub serves : BesideCall start seat plan old handed m (unless_spent m (served m h.packet.bytes lid)).manager
      unfolding Beside
      serves =
          cond_both (is_spent (served m h.packet.bytes lid)) _ _ (λ (x : Called). BesideCall start seat plan old handed m x.manager) (λ _. stays m side once)
          (λ _. cond_both (is_control m.standing h.packet.bytes) (controlled m h.packet.bytes lid) (replying m h.packet.bytes lid)
          (λ (x : Manager). BesideCall start seat plan old handed m x)
          (λ _. counted _ (moves_on (request_counted m) counts.side counts.once lid
          (stepped m.standing.conduct m.standing.state (event.Control (number_in attribute_modifier h.packet.bytes)))))
          (λ _. counted _ (replies (request_counted m) counts.side counts.once lid)))

  -- any packet -------------------------------------------------------------------------------------------------

  module _ (m : Manager) (side : SweepSide start seat old m) (once : AreOnce m.counter m.pending) where
    Comes : (Pending → Type 0) → Manager → Type 0
    Comes Heard after = BesideCall start seat plan old handed m after ⊎ StepEnds Heard m after

    -- a request that waits is answered, or given up
    ends : (Heard : Pending → Type 0) (p : Pending) → Contains m.pending p → (answer : Option ℕ) → (is_done_by answer ≡ true → Heard p)
        → (u : Purpose) → p.purpose ≡ u → Comes Heard (after_request m p answer u).manager
    unfolding Comes Beside
    ends Heard p there answer heard purpose.Poll e = inl (over m side once p there (ap is_for_step e) _)
    ends Heard p there answer heard purpose.Control e = inl (over m side once p there (ap is_for_step e) _)
    ends Heard p there answer heard (purpose.Step counts) e =
        inr (record { step = p; there = there; counts = counts; purpose_is = e; was_done = is_done_by answer; is = refl; heard = heard })

    pub packet_comes : (which : ℕ) (h : Handed) (lid : Option ℕ) → slice_get handed which ≡ Some h → is_same_port h.at seat ≡ true
        → IsForManager start seat h.packet.bytes
        → BesideCall start seat plan old handed m (after_packet m h.packet.bytes lid).manager
        ⊎ StepEnds (HeardBy h.packet.bytes) m (after_packet m h.packet.bytes lid).manager
    unfolding Comes Beside
    packet_comes which h lid there here is = by_fault (fault_of h.packet.bytes) refl
      where
        by_pending : is_for_sweep h.packet.bytes ≡ false → (o : Option Pending) → pending_for m h.packet.bytes ≡ o
            → Comes (HeardBy h.packet.bytes) (request_answered m h.packet.bytes o).manager
        by_pending no_sweep None e = inl (stays m side once)
        by_pending no_sweep (Some p) e =
            let found = found_there (answers h.packet.bytes) m.pending p e in
            ends (HeardBy h.packet.bytes) p found.0 (Some (status h.packet.bytes))
            (λ is_done. record { answers_it = found.1; done_is = eqb-true _ _ is_done; no_sweep = no_sweep }) p.purpose refl

        by_fault : (why : Option SmpFault) → fault_of h.packet.bytes ≡ why → Comes (HeardBy h.packet.bytes) (packet_taken m h.packet.bytes lid why).manager
        by_fault (Some why) e = inl (stays m side once)
        by_fault None e =
            cond_both (is_info_request h.packet.bytes) _ _ (λ (x : Called). Comes (HeardBy h.packet.bytes) x.manager)
            (λ asks_it. inl (serves which h there here is asks_it m side once lid))
            (λ _. cond_both (represses m h.packet.bytes) _ _ (λ (x : Called). Comes (HeardBy h.packet.bytes) x.manager)
            (λ _. inl (represses_it m side once h.packet.bytes lid is.whole.count))
            (λ _. cond_both (is_for_sweep h.packet.bytes) _ _ (λ (x : Called). Comes (HeardBy h.packet.bytes) x.manager)
            (λ _. inl (beside_swept old m _ once (sweep_replied start seat g old m side h.packet.bytes is)))
            (λ other. by_pending other (pending_for m h.packet.bytes) refl)))

    pub time_passes : (transaction : ℕ)
        → BesideCall start seat plan old handed m (after_timeout m transaction).manager ⊎ StepEnds (λ p. ⊥) m (after_timeout m transaction).manager
    unfolding Comes Beside
    time_passes transaction =
        cond_both (nat_le (2 ^ 32) transaction) _ _ (λ (x : Called). Comes (λ p. ⊥) x.manager)
        (λ _. inl (beside_swept old m _ once (sweep_timed start seat old m side transaction)))
        (λ _. by_pending (with_number transaction m.pending) refl)
      where
        by_pending : (o : Option Pending) → with_number transaction m.pending ≡ o → Comes (λ p. ⊥) (request_gave_up m o).manager
        by_pending None e = inl (stays m side once)
        by_pending (Some p) e =
            ends (λ q. ⊥) p (found_there (λ (x : Pending). x.number == transaction) m.pending p e).0 None (λ none. absurd (cc)) p.purpose refl

    -- what the election asks for ------------------------------------------------------------------------------

    pub polls_beside : (lid : Option ℕ) → BesideCall start seat plan old handed m (if is_none (poll_fault m lid) then after_poll m lid else m)
    unfolding Beside
    polls_beside lid =
        cond_both (is_none (poll_fault m lid)) _ _ (λ (x : Manager). BesideCall start seat plan old handed m x)
        (λ e. polls m side once lid (no_fault (poll_fault m lid) e)) (λ _. stays m side once)

    hands : (receiver : Option SeenManager)
        → BesideCall start seat plan old handed m (if is_none (handing_fault m receiver) then handed_to m (receiver_way m receiver) else m)
    unfolding Beside
    hands receiver =
        let standing = moved_to (handover_move m).state m.standing in
        let one = moves m side once standing in
        cond_both (is_none (handing_fault m receiver)) (handed_to m (receiver_way m receiver)) m (λ (x : Manager). BesideCall start seat plan old handed m x)
        (λ e. both m (record m { standing = standing }) _ one (tells (record m { standing = standing }) one.side one.once (receiver_way m receiver)
        (handover_move m).message (receiver_is_way m receiver (no_fault (handing_fault m receiver) e))))
        (λ _. stays m side once)

    pub hands_over : BesideCall start seat plan old handed m (if is_none (handover_fault m) then after_handover m else m)
    hands_over = hands (successor m)

    pub yields : BesideCall start seat plan old handed m (if is_none (yield_fault m) then after_yield m else m)
    yields = hands (heir m)

    pub rediscovers : BesideCall start seat plan old handed m (if is_none (rediscover_fault m) then after_rediscover m else m)
    unfolding Beside
    rediscovers =
        cond_both (is_none (rediscover_fault m)) (after_rediscover m) m (λ (x : Manager). BesideCall start seat plan old handed m x)
        (λ _. moves m side once (moved_by event.PollsUnanswered m.standing)) (λ _. stays m side once)
