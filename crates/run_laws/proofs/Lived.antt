-- What the lines of a schedule do to the one manager of a world is a list of events that may happen to it.
use Rattle.std.proofs.Common.{◌≡◌, ℕ, zero, suc, Bool, true, false, cond, List, [], ◌∷◌, ◌++◌, length, refl, sym, ap, ◌∙◌, subst}
use Rattle.std.proofs.lemmas.List.{append_assoc, append-nil}
use Rattle.std.proofs.lemmas.List.Elements.{All-append, All-cons, All-nil}
use Rattle.std.specs.Prelude.{All, Option, Some, None, Result, Ok, is_none, not, nat_lt, position, slice_get}
use Rattle.std.specs.Option.{option_map_or}
use Rattle.fabric_model.specs.Cables.{is_same_port}
use Rattle.fabric_model.specs.declared.cable.NodePort.{NodePort}
use Rattle.fabric_model.proofs.Cabled.{same_port-is, same_port-refl}
use Rattle.topo_file.specs.declared.node.Node.{Node}
use Rattle.schedule_file.specs.Resolve.{SeatCommand}
use Rattle.schedule_file.specs.declared.command.Ask.TheVariants as ask
use Rattle.schedule_file.specs.declared.command.Command.TheVariants as command
use Rattle.schedule_file.specs.declared.command.Fate.TheVariants as fate
use Rattle.schedule_file.specs.declared.command.Which.{Which}
use Rattle.fabric_sim.specs.Delivery.{after_deliver}
use Rattle.fabric_sim.specs.FabricFault.{fabric_fault_name}
use Rattle.fabric_sim.specs.Simulation.{Simulation, is_seat_at}
use Rattle.fabric_sim.specs.declared.delivered.Delivered.{Delivered}
use Rattle.fabric_sim.specs.declared.delivered.Delivered.TheVariants as delivered_is
use Rattle.fabric_sim.specs.declared.fabric_fault.FabricFault.{FabricFault}
use Rattle.fabric_sim.specs.declared.fabric_fault.FabricFault.TheVariants.{NoSuchPacket}
use Rattle.fabric_sim.specs.declared.flight.Flight.{Flight}
use Rattle.lft_blocks.specs.Plan.{PlanValue}
use Rattle.sm_manager.specs.Election.{after_handover, after_rediscover, after_yield, handover_fault, poll_fault, after_poll, rediscover_fault, yield_fault}
use Rattle.sm_manager.specs.Manager.{Manager, outstanding}
use Rattle.sm_manager.specs.Packets.{after_timeout, after_packet}
use Rattle.sm_manager.specs.declared.fault.ManagerFault.{ManagerFault}
use Rattle.sm_manager.specs.declared.outgoing.Outgoing.{Outgoing}
use Rattle.manager_laws.specs.Scene as around
use Rattle.manager_laws.specs.Scene.{Handed, Scene, handed_by}
use Rattle.sm_manager.specs.CallLists as calls
use Rattle.manager_laws.specs.Managing.{Around, calling, hearing, sending, CanBe, HandOver, Hear, Managing, ManagerEvent, Poll, Rediscover, Send, Take, TimeOut, Yield}
use Rattle.manager_laws.specs.Managing.{after_manager_event, after_manager_events, packet_of}
use Rattle.manager_laws.specs.WritingPings.{AreNoSweeps, BeginsNoSweep}
use Rattle.manager_laws.specs.Sets.{OwnSets}
use Rattle.manager_laws.specs.Written.{AllKeep, Keeps}
use Rattle.manager_laws.proofs.RunParts.{alone_behind, events_behind, keep_behind}
use Rattle.schedule_run.specs.Commands.{after_ask_line, after_command, after_commands, after_drain_line, after_fate, after_give_up, after_giving_up}
use Rattle.schedule_run.specs.Commands.{after_packet_line, after_timeout_line}
use Rattle.schedule_run.specs.Deciders.{after_hearing}
use Rattle.schedule_run.specs.Delivery.{after_arrival, after_hand_up, after_step, after_take_and_send, heard_text, seat_at}
use Rattle.schedule_run.specs.Deciders.{after_hearing}
use Rattle.schedule_run.specs.NamedPackets.{packet_out, serial_of}
use Rattle.schedule_lines.specs.Refusals.{refusal_line}
use Rattle.schedule_lines.specs.Outcome.{and_then, quiet, shows}
use Rattle.schedule_run.specs.World.{SeatedValue, WorldValue, after_ask, after_manager_call, after_send, after_inject_all}
use Rattle.run_laws.specs.OneManager.{AreLines, IsLine, KeepsLine, KeepsLines, KeepsStep, KeepsSteps}

abbrev pub managing_of : Scene → NodePort → Manager → List Outgoing → Managing
managing_of scene seat manager out = record { scene = scene; seat = seat; manager = manager; out = out }

-- lists ----------------------------------------------------------------------------------------------------

last_is : {X : Type 0} (xs : List X) (x : X) → slice_get (xs ++ x ∷ []) (length xs) ≡ Some x
last_is [] x = refl
last_is (y ∷ xs) x = last_is xs x

one_more : {X : Type 0} (xs : List X) (x : X) → length (xs ++ x ∷ []) ≡ suc (length xs)
one_more [] x = refl
one_more (y ∷ xs) x = ap suc (one_more xs x)

-- the index in a list of one
index_in_one : {X : Type 0} (p : X → Bool) (x : X) (b : Bool) → p x ≡ b → position p (x ∷ []) ≡ cond b (Some 0) None
index_in_one p x true e = ap (λ t. cond (nat_lt (cond (not t) 1 0) 1) (Some (cond (not t) 1 0)) None) e
index_in_one p x false e = ap (λ t. cond (nat_lt (cond (not t) 1 0) 1) (Some (cond (not t) 1 0)) None) e

-- worlds of one manager --------------------------------------------------------------------------------------

-- what is around a manager of this name, with nobody else
abbrev pub seated_as : List ℕ → Managing → SeatedValue
seated_as name m = record { name = name; at = m.seat; manager = m.manager }

abbrev pub as_world : List ℕ → ℕ → Managing → WorldValue
as_world name time m = record { fabric = m.scene.fabric; managers = seated_as name m ∷ []; deciders = []; time = time }

packets_alike : (o : Outgoing) (to : Option ℕ) → o.to ≡ to → packet_of o ≡ packet_out o
packets_alike o None e = ap (λ (to : Option ℕ). packet_of (record o { to = to })) e ∙ ap (λ (to : Option ℕ). packet_out (record o { to = to })) (sym e)
packets_alike o (Some lid) e = ap (λ (to : Option ℕ). packet_of (record o { to = to })) e ∙ ap (λ (to : Option ℕ). packet_out (record o { to = to })) (sym e)

module _ (plan : PlanValue) (own : OwnSets) (name : List ℕ) (time : ℕ) where
  -- events that lead from one world to another, keep the plan's values under a premise, and begin no sweep
  pub record Lives (m : Managing) (premise : Type 0) (w : WorldValue) : Type 0 where
    pub events : List ManagerEvent
    pub ends : as_world name time (after_manager_events events m) ≡ w
    pub seat : (after_manager_events events m).seat ≡ m.seat
    pub can : All (CanBe m.seat) events
    pub no_sweeps : AreNoSweeps events m
    pub keep : premise → AllKeep plan own events m

  rests : (m : Managing) (premise : Type 0) → Lives m premise (as_world name time m)
  rests m premise =
      record { events = []; ends = refl; seat = refl; can = All-nil (CanBe m.seat); no_sweeps = tt; keep = λ _. tt }

  abbrev happens : (m : Managing) (premise : Type 0) (event : ManagerEvent) (after : Managing) → after_manager_event m event ≡ after → after.seat ≡ m.seat
      → CanBe m.seat event → BeginsNoSweep m event → (premise → Keeps plan own m event) → Lives m premise (as_world name time after)
  happens m premise event after now seat can no_sweep keep =
      record {
        events = event ∷ [];
        ends = ap (as_world name time) now;
        seat = ap (λ (x : Managing). x.seat) now ∙ seat;
        can = All-cons (CanBe m.seat) event [] can (All-nil (CanBe m.seat));
        no_sweeps = (no_sweep, tt);
        keep = λ h. (keep h, tt);
      }

  pub goes_on : (m : Managing) (first second premise : Type 0) (w w' : WorldValue) (l : Lives m first w)
      → Lives (after_manager_events l.events m) second w' → (premise → first) → (premise → second) → Lives m premise w'
  goes_on m first second premise w w' l l' of_first of_second =
      let then = after_manager_events l.events m in
      record {
        events = l.events ++ l'.events;
        ends = ap (as_world name time) (events_behind l.events l'.events m) ∙ l'.ends;
        seat = ap (λ (x : Managing). x.seat) (events_behind l.events l'.events m) ∙ l'.seat ∙ l.seat;
        can = All-append (CanBe m.seat) l.events l'.events l.can (subst (λ seat. All (CanBe seat) l'.events) l.seat l'.can);
        no_sweeps = alone_behind l.events l'.events m l.no_sweeps l'.no_sweeps;
        keep = λ h. keep_behind plan own l.events l'.events m (l.keep (of_first h)) (l'.keep (of_second h));
      }

  -- what is queued goes out ------------------------------------------------------------------------------------

  abbrev sends : ℕ → List Outgoing → List ManagerEvent
  sends n [] = []
  sends n (o ∷ later) = Take ∷ Send n ∷ sends (suc n) later

  sent_then : (scene : Scene) (seat : NodePort) (manager : Manager) (out : List Outgoing) (n : ℕ) (outs : List Outgoing) → n ≡ length out
      → ◌≡◌ {A = Managing}
      (after_manager_events (sends n outs) (record { scene = scene; seat = seat; manager = record manager { outgoing = outs }; out = out }))
      (record {
        scene = record scene {
          fabric =
              (after_inject_all scene.fabric seat outs).now;
        };
        seat = seat;
        manager = record manager { outgoing = [] };
        out = out ++ outs;
      })
  sent_then scene seat manager out n [] e =
      ap (λ xs. managing_of scene seat (record manager { outgoing = [] }) xs) (sym (append-nil out))
  sent_then scene seat manager out n (o ∷ later) e =
      let taken = managing_of scene seat (record manager { outgoing = later }) (out ++ o ∷ []) in
      ap (λ x. after_manager_events (sends (suc n) later) (sending taken x)) (ap (slice_get (out ++ o ∷ [])) e ∙ last_is out o)
      ∙ ap (λ p. after_manager_events (sends (suc n) later) (record taken { scene = around.sent_from scene seat p })) (packets_alike o o.to refl)
      ∙ sent_then (around.sent_from scene seat (packet_out o)) seat manager (out ++ o ∷ []) (suc n) later (ap suc e ∙ sym (one_more out o))
      ∙ ap (λ xs. managing_of (record scene { fabric = (after_inject_all scene.fabric seat (o ∷ later)).now }) seat (record manager { outgoing = [] }) xs)
      (append_assoc out (o ∷ []) later)

  sends_can : (seat : NodePort) (n : ℕ) (outs : List Outgoing) → All (CanBe seat) (sends n outs)
  sends_can seat n [] = All-nil (CanBe seat)
  sends_can seat n (o ∷ later) =
      All-cons (CanBe seat) Take (Send n ∷ sends (suc n) later) tt (All-cons (CanBe seat) (Send n) (sends (suc n) later) tt (sends_can seat (suc n) later))

  sends_no_sweeps : (n : ℕ) (outs : List Outgoing) (m : Managing) → AreNoSweeps (sends n outs) m
  sends_no_sweeps n [] m = tt
  sends_no_sweeps n (o ∷ later) m = (tt, (tt, sends_no_sweeps (suc n) later (after_manager_event (after_manager_event m Take) (Send n))))

  sends_keep : (n : ℕ) (outs : List Outgoing) (m : Managing) → AllKeep plan own (sends n outs) m
  sends_keep n [] m = tt
  sends_keep n (o ∷ later) m = (tt, (tt, sends_keep (suc n) later (after_manager_event (after_manager_event m Take) (Send n))))

  pub sends_live : (m : Managing) (premise : Type 0) → Lives m premise (after_send (as_world name time m) 0).now
  unfolding after_send
  sends_live m premise =
      let outs = m.manager.outgoing in
      let same = sent_then m.scene m.seat m.manager m.out (length m.out) outs refl in
      record {
        events = sends (length m.out) outs;
        ends = ap (as_world name time) same;
        seat = ap (λ (x : Managing). x.seat) same;
        can = sends_can m.seat (length m.out) outs;
        no_sweeps = sends_no_sweeps (length m.out) outs m;
        keep = λ _. sends_keep (length m.out) outs m;
      }

  -- what the manager is asked for ----------------------------------------------------------------------------

  asked_lives : (m : Managing) (premise : Type 0) (event : ManagerEvent) (fault : Manager → Option ManagerFault) (after : Manager → Manager)
      → after_manager_event m event ≡ record m { manager = cond (is_none (fault m.manager)) (after m.manager) m.manager }
      → CanBe m.seat event → BeginsNoSweep m event → Keeps plan own m event
      → Lives m premise (after_ask (λ now. after_send now 0) (as_world name time m) 0 fault after).now
  asked_lives m premise event fault after calls can no_sweep keep = by_fault (fault m.manager) refl
    where
      by_fault : (o : Option ManagerFault) → fault m.manager ≡ o
          → Lives m premise (after_manager_call (λ now. after_send now 0) (as_world name time m) 0 (seated_as name m) o (after m.manager)).now
      by_fault (Some why) e = rests m premise
      by_fault None e =
          let then : Managing = record m { manager = after m.manager } in
          let now : after_manager_event m event ≡ then =
          calls ∙ ap (λ (f : Option ManagerFault). managing_of m.scene m.seat (cond (is_none f) (after m.manager) m.manager) m.out) e in
          goes_on m premise premise premise (as_world name time then) (after_send (as_world name time then) 0).now
          (happens m premise event then now refl can no_sweep (λ _. keep))
          (subst (λ (x : Managing). Lives (after_manager_event m event) premise (after_send (as_world name time x) 0).now) now
          (sends_live (after_manager_event m event) premise))
          (λ h. h) (λ h. h)

  gave_up_lives : (m : Managing) (premise : Type 0) (transaction : ℕ) → Lives m premise (after_give_up (as_world name time m) 0 transaction).now
  unfolding after_give_up
  gave_up_lives m premise transaction = by_fault (after_timeout m.manager transaction).fault
    where
      by_fault : (o : Option ManagerFault)
          → Lives m premise (after_manager_call quiet (as_world name time m) 0 (seated_as name m) o (after_timeout m.manager transaction).manager).now
      by_fault (Some why) = rests m premise
      by_fault None = happens m premise (TimeOut transaction) (record m { manager = (after_timeout m.manager transaction).manager }) refl refl tt tt (λ _. tt)

  all_given_live : (m : Managing) (premise : Type 0) (transactions : List ℕ) → Lives m premise (after_giving_up (as_world name time m) 0 transactions).now
  all_given_live m premise [] = rests m premise
  all_given_live m premise (transaction ∷ later) =
      let l = gave_up_lives m premise transaction in
      let then = after_manager_events l.events m in
      goes_on m premise premise premise (after_give_up (as_world name time m) 0 transaction).now _ l
      (subst (λ (x : WorldValue). Lives then premise (after_giving_up x 0 later).now) l.ends (all_given_live then premise later)) (λ h. h) (λ h. h)

  timeout_lives : (m : Managing) (premise : Type 0) (seat : ℕ) → Lives m premise (after_timeout_line (as_world name time m) seat).now
  unfolding after_timeout_line
  timeout_lives m premise zero =
      let l = all_given_live m premise (outstanding m.manager) in
      let then = after_manager_events l.events m in
      goes_on m premise premise premise (after_giving_up (as_world name time m) 0 (outstanding m.manager)).now _ l
      (subst (λ (x : WorldValue). Lives then premise (after_send x 0).now) l.ends (sends_live then premise)) (λ h. h) (λ h. h)
  timeout_lives m premise (suc seat) = rests m premise

  -- packets ----------------------------------------------------------------------------------------------------

  took_lives : (m : Managing) (premise : Type 0) (which : ℕ) (h : Handed) → slice_get m.scene.handed which ≡ Some h → is_same_port h.at m.seat ≡ true
      → Lives m premise (after_take_and_send (as_world name time m) 0 h.packet).now
  unfolding after_take_and_send
  took_lives m premise which h there same =
      let l = by_fault (after_packet m.manager h.packet.bytes (Some h.packet.slid)).fault in
      let then = after_manager_events l.events m in
      goes_on m premise premise premise _ _ l (subst (λ (x : WorldValue). Lives then premise (after_send x 0).now) l.ends (sends_live then premise)) (λ h. h)
      (λ h. h)
    where
      heard : after_manager_event m (Hear which) ≡ record m { manager = (after_packet m.manager h.packet.bytes (Some h.packet.slid)).manager }
      heard =
          ap (hearing m) there
          ∙ ap (λ b. cond b (calling m (calls.Packet h.packet.bytes (Some h.packet.slid))) m) same

      by_fault : (o : Option ManagerFault)
          → Lives m premise
          (after_manager_call (shows (heard_text (as_world name time m) 0 h.packet)) (as_world name time m) 0 (seated_as name m) o
          (after_packet m.manager h.packet.bytes (Some h.packet.slid)).manager).now
      by_fault (Some why) = rests m premise
      by_fault None = happens m premise (Hear which) (record m {
        manager = (after_packet m.manager h.packet.bytes
            (Some h.packet.slid)).manager;
      }) heard refl tt tt (λ _. tt)

  -- a packet was handed up at a port
  handed_lives : (m : Managing) (premise : Type 0) (before : List Handed) (h : Handed) → m.scene.handed ≡ before ++ h ∷ []
      → Lives m premise (after_hand_up (as_world name time m) h.at h.packet).now
  unfolding after_hand_up after_hearing
  handed_lives m premise before h handed = by_tests (is_seat_at m.scene.fabric h.at) (is_same_port m.seat h.at) refl refl
    where
      by_seat : (b c : Bool) → is_same_port m.seat h.at ≡ c
          → Lives m premise (option_map_or (λ seat. after_take_and_send (as_world name time m) seat h.packet) (cond b (cond c (Some 0) None) None)
          (after_hearing (as_world name time m) h.at h.packet)).now
      by_seat true true same =
          took_lives m premise (length before) h (ap (λ xs. slice_get xs (length before)) handed ∙ last_is before h)
          (subst (λ x. is_same_port h.at x ≡ true) (sym (same_port-is m.seat h.at same)) (same_port-refl h.at))
      by_seat true false same = rests m premise
      by_seat false c same = rests m premise

      by_tests : (b c : Bool) → is_seat_at m.scene.fabric h.at ≡ b → is_same_port m.seat h.at ≡ c
          → Lives m premise (option_map_or (λ seat. after_take_and_send (as_world name time m) seat h.packet) (seat_at (as_world name time m) h.at)
          (after_hearing (as_world name time m) h.at h.packet)).now
      by_tests b c sits same =
          let at : seat_at (as_world name time m) h.at ≡ cond b (cond c (Some 0) None) None =
          ap (λ t. cond t (position (λ (s : SeatedValue). is_same_port s.at h.at) (seated_as name m ∷ [])) None) sits
          ∙ ap (λ o. cond b o None) (index_in_one (λ (s : SeatedValue). is_same_port s.at h.at) (seated_as name m) c same) in
          subst (λ (o : Option ℕ). Lives m premise
          (option_map_or (λ seat. after_take_and_send (as_world name time m) seat h.packet) o (after_hearing (as_world name time m) h.at h.packet)).now)
          (sym at) (by_seat b c same)

  step_lives : (m : Managing) (premise : Type 0) (serial : ℕ) → (premise → KeepsStep plan own m.scene.fabric (Some serial))
      → Lives m premise (after_step (as_world name time m) serial).now
  unfolding after_step
  step_lives m premise serial keeps =
      let called = after_deliver m.scene.fabric serial in
      let then = after_manager_event m (Around (around.Deliver serial)) in
      goes_on m premise premise premise (as_world name time then) (after_arrival (as_world name time then) called.result).now
      (happens m premise (Around (around.Deliver serial)) then refl refl (tt, tt) tt keeps)
      (came called.result called.fabric) (λ h. h) (λ h. h)
    where
      came : (r : Result Delivered FabricFault) (fabric : Simulation)
          → Lives (record m { scene = record { fabric = fabric; handed = m.scene.handed ++ handed_by r } }) premise
          (after_arrival (as_world name time (record m { scene = record { fabric = fabric; handed = m.scene.handed ++ handed_by r } })) r).now
      came (Ok (delivered_is.ToManager p packet)) fabric =
          handed_lives
          (record m { scene = record { fabric = fabric; handed = m.scene.handed ++ record { at = p; packet = packet } ∷ [] } }) premise m.scene.handed
          (record { at = p; packet = packet }) refl
      came result fabric = rests _ premise

  deliver_lives : (m : Managing) (which : Which)
      → Lives m (KeepsStep plan own m.scene.fabric (serial_of m.scene.fabric.flights which)) (after_packet_line (as_world name time m) which fate.Deliver).now
  unfolding after_packet_line
  deliver_lives m which = by_serial (serial_of m.scene.fabric.flights which)
    where
      by_serial : (o : Option ℕ) → Lives m (KeepsStep plan own m.scene.fabric o)
          (option_map_or (after_step (as_world name time m)) o (shows (refusal_line (fabric_fault_name NoSuchPacket)) (as_world name time m))).now
      by_serial None = rests m _
      by_serial (Some serial) = step_lives m _ serial (λ h. h)

  drain_lives : (most : ℕ) (m : Managing) → Lives m (KeepsSteps plan own (as_world name time m) most) (after_drain_line (as_world name time m) most).now
  drain_lives zero m = rests m _
  drain_lives (suc most) m = by_flight (slice_get m.scene.fabric.flights 0) (drain_lives most)
    where
      by_flight : (o : Option Flight)
          → ((x : Managing) → Lives x (KeepsSteps plan own (as_world name time x) most) (after_drain_line (as_world name time x) most).now)
          → Lives m
          (KeepsStep plan own m.scene.fabric (option_map_or (λ flight. Some flight.serial) o None)
          × KeepsSteps plan own (option_map_or (λ flight. (after_step (as_world name time m) flight.serial).now) o (as_world name time m)) most)
          (option_map_or (λ flight. and_then (after_step (as_world name time m) flight.serial) (λ now. after_drain_line now most)) o (quiet (as_world name time m))).now
      by_flight None later = rests m _
      by_flight (Some flight) later =
          let l = step_lives m (KeepsStep plan own m.scene.fabric (Some flight.serial)) flight.serial (λ h. h) in
          let then = after_manager_events l.events m in
          goes_on m (KeepsStep plan own m.scene.fabric (Some flight.serial)) (KeepsSteps plan own (after_step (as_world name time m) flight.serial).now most) _
          (after_step (as_world name time m) flight.serial).now _ l
          (subst (λ (x : WorldValue). Lives then (KeepsSteps plan own x most) (after_drain_line x most).now) l.ends (later then)) (λ h. h.0) (λ h. h.1)

  -- all lines --------------------------------------------------------------------------------------------------

  pub command_lives : (nodes : List Node) (m : Managing) (command : SeatCommand) → IsLine command
      → Lives m (KeepsLine plan own (as_world name time m) command) (after_command nodes (as_world name time m) command).now
  unfolding after_ask_line after_packet_line
  command_lives nodes m (command.Ask zero ask.Handover) is = asked_lives m _ HandOver handover_fault after_handover refl tt tt tt
  command_lives nodes m (command.Ask (suc seat) ask.Handover) is = rests m _
  command_lives nodes m (command.Ask zero ask.Yield) is = asked_lives m _ Yield yield_fault after_yield refl tt tt tt
  command_lives nodes m (command.Ask (suc seat) ask.Yield) is = rests m _
  command_lives nodes m (command.Ask zero ask.Rediscover) is = asked_lives m _ Rediscover rediscover_fault after_rediscover refl tt tt tt
  command_lives nodes m (command.Ask (suc seat) ask.Rediscover) is = rests m _
  command_lives nodes m (command.Ask zero (ask.Poll lid)) is = asked_lives m _ (Poll lid) (λ x. poll_fault x lid) (λ x. after_poll x lid) refl tt tt tt
  command_lives nodes m (command.Ask (suc seat) (ask.Poll lid)) is = rests m _
  command_lives nodes m (command.Timeout seat) is = timeout_lives m _ seat
  command_lives nodes m (command.Show seat what) is = rests m _
  command_lives nodes m (command.ShowDecider index what) is = rests m _
  command_lives nodes m (command.Packet which fate.Deliver) is = deliver_lives m which
  command_lives nodes m (command.Packet which fate.Lose) is = by_serial (serial_of m.scene.fabric.flights which)
    where
      by_serial : (o : Option ℕ) → Lives m (Unit {0})
          (option_map_or (after_fate (as_world name time m) fate.Lose) o (shows (refusal_line (fabric_fault_name NoSuchPacket)) (as_world name time m))).now
      by_serial None = rests m _
      by_serial (Some serial) = happens m _ (Around (around.Lose serial)) _ refl refl (tt, tt) tt (λ _. tt)
  command_lives nodes m (command.Packet which fate.Repeat) is = by_serial (serial_of m.scene.fabric.flights which)
    where
      by_serial : (o : Option ℕ) → Lives m (Unit {0})
          (option_map_or (after_fate (as_world name time m) fate.Repeat) o (shows (refusal_line (fabric_fault_name NoSuchPacket)) (as_world name time m))).now
      by_serial None = rests m _
      by_serial (Some serial) = happens m _ (Around (around.Repeat serial)) _ refl refl (tt, tt) tt (λ _. tt)
  command_lives nodes m (command.Drain most) is = drain_lives most m
  command_lives nodes m (command.Ping p lid) is = rests m _
  command_lives nodes m command.Tables is = rests m _
  command_lives nodes m command.Flight is = rests m _
  command_lives nodes m other is = absurd is

  pub commands_live : (nodes : List Node) (m : Managing) (commands : List SeatCommand) → AreLines commands
      → Lives m (KeepsLines plan own nodes (as_world name time m) commands) (after_commands nodes (as_world name time m) commands).now
  commands_live nodes m [] are = rests m _
  commands_live nodes m (command ∷ later) are =
      let l = command_lives nodes m command are.0 in
      let then = after_manager_events l.events m in
      goes_on m (KeepsLine plan own (as_world name time m) command) (KeepsLines plan own nodes (after_command nodes (as_world name time m) command).now later) _
      (after_command nodes (as_world name time m) command).now _ l
      (subst (λ (x : WorldValue). Lives then (KeepsLines plan own nodes x later) (after_commands nodes x later).now) l.ends
      (commands_live nodes then later are.1))
      (λ h. h.0) (λ h. h.1)
