-- After every run each manager knows the view of what it took in.
use Rattle.std.proofs.Common.{◌≡◌, ℕ, zero, suc, ◌+◌, Bool, true, false, cond, ◌==◌, List, [], ◌∷◌, length, refl, sym, ap, ◌∙◌, subst}
use Rattle.std.specs.Prelude.{Option, Some, None, Result, Ok, Err, slice_get}
use Rattle.std.specs.Option.{option_map_or}
use Rattle.smp_bytes.specs.Packet.{fault_of}
use Rattle.fabric_model.specs.declared.cable.NodePort.{NodePort}
use Rattle.topo_file.specs.Topology.{Layout}
use Rattle.topo_file.specs.declared.node.Node.{Node}
use Rattle.schedule_file.specs.Schedule.{Script}
use Rattle.schedule_file.specs.Resolve.{SeatCommand}
use Rattle.schedule_file.specs.declared.command.Ask.TheVariants as ask
use Rattle.schedule_file.specs.declared.command.Command.TheVariants as command
use Rattle.schedule_file.specs.declared.command.Fate.TheVariants as fate
use Rattle.schedule_file.specs.declared.command.Which.{Which}
use Rattle.fabric_sim.specs.FabricFault.{fabric_fault_name}
use Rattle.fabric_sim.specs.Changes.{after_cut, after_plug, after_seat}
use Rattle.fabric_sim.specs.Delivery.{after_deliver}
use Rattle.fabric_sim.specs.Simulation.{across}
use Rattle.fabric_sim.specs.declared.delivered.Delivered.{Delivered}
use Rattle.fabric_sim.specs.declared.delivered.Delivered.TheVariants as delivered_is
use Rattle.fabric_sim.specs.declared.fabric_fault.FabricFault.{FabricFault}
use Rattle.fabric_sim.specs.declared.fabric_fault.FabricFault.TheVariants.{NoSuchPacket}
use Rattle.fabric_sim.specs.declared.flight.Flight.{Flight}
use Rattle.fabric_sim.specs.declared.packet.Packet.{Packet}
use Rattle.fact_store.specs.Merge.{merge}
use Rattle.fact_store.specs.View.{view_at}
use Rattle.fact_store.proofs.Views.{raised_is_merge}
use Rattle.lft_blocks.specs.Planning.{Planning}
use Rattle.schedule_run.specs.Working.{Told, after_told}
use Rattle.schedule_run.specs.Working as told
use Rattle.sm_policy.specs.Policy.{later_by}
use Rattle.sm_manager.specs.declared.fault.ManagerFault.{ManagerFault}
use Rattle.sm_manager.specs.CallLists as calls
use Rattle.sm_manager.specs.CallLists.{sightings_of_call}
use Rattle.sm_manager.specs.Election.{after_handover, after_rediscover, after_yield, handover_fault, heir_way, rediscover_fault, successor_way, poll_fault, poll_way, after_poll, yield_fault}
use Rattle.sm_manager.specs.Manager.{Manager, begin_fault, after_raise_floor, after_merge, outstanding, after_begin_sweep}
use Rattle.sm_manager.specs.Packets as manager
use Rattle.sm_manager.specs.Packets.{after_packet, done}
use Rattle.sm_manager.specs.PlanFaults.{writing_fault}
use Rattle.sm_manager.specs.Writing.{after_write_steps}
use Rattle.sm_manager.proofs.Refusals.{packet_leaves}
use Rattle.sm_manager.proofs.Lives.{Keeps, handing_keeps, planning_stays, polling_keeps, takes_call, timeout_keeps}
use Rattle.schedule_run.specs.Commands.{after_ask_line, after_change, after_command, after_commands, after_cut_line, after_drain_line, after_fate}
use Rattle.schedule_run.specs.Commands.{after_floor_line, after_give_up, after_giving_up, after_manager_line, after_merge_line, after_packet_line}
use Rattle.schedule_run.specs.Commands.{after_parting, after_plug_line, after_resend, after_resends, after_tell, after_tell_ends, after_timeout_line}
use Rattle.schedule_run.specs.Commands.{after_traps_line, world_of}
use Rattle.schedule_run.specs.Delivery.{after_arrival, after_hand_up, after_step, after_take, after_take_and_send, heard_text, seat_at}
use Rattle.schedule_run.specs.Deciders.{after_deciding, after_decider_line, after_hearing, after_pause_line, after_telling, decider_at}
use Rattle.schedule_run.specs.Deciders.{with_decider}
use Rattle.schedule_run.specs.NamedPackets.{serial_of}
use Rattle.schedule_run.specs.Waiting.{after_turn, after_turns, due_at, next_turn}
use Rattle.schedule_run.specs.declared.waiting.WaitTurn.{WaitTurn}
use Rattle.schedule_run.specs.declared.waiting.WaitTurn.TheVariants.{Deliver, Wake}
use Rattle.schedule_lines.specs.Refusals.{refusal_line}
use Rattle.schedule_lines.specs.Outcome.{Outcome, and_then, quiet, shows}
use Rattle.schedule_run.specs.World.{DeciderValue, SeatedValue, WorldValue, after_ask, at_seat, after_manager_call, after_fabric_call, after_send, after_send_by, with_manager}
use Rattle.run_laws.specs.Accounts.{Account, Accounts, RunsAreAccountedFor, account_after, world_after, opened, told_at, told_by_command}
use Rattle.run_laws.specs.Accounts.{told_by_commands, told_by_deliver, told_by_delivery, told_by_drain, told_by_merge, told_by_packet, told_by_step}
use Rattle.run_laws.specs.Accounts.{told_by_turn, told_by_turns}
use Rattle.run_laws.specs.Accounts.{with_more}
use Rattle.run_laws.proofs.Seats.{AreKnown, all_new, at_seat_is, called_is, grown, kept, nobody, repeated}

-- what managers are asked for ----------------------------------------------------------------------------

module _ (count : ℕ) (planning : Planning) where
  sent_known : (w : WorldValue) (accounts : Accounts) (seat : ℕ) → AreKnown count planning w.managers accounts
      → AreKnown count planning (after_send w seat).now.managers accounts
  unfolding after_send
  sent_known w accounts seat known =
      at_seat_is w seat (after_send_by w seat) (λ x. AreKnown count planning x.managers accounts) (λ _. known)
      (λ s there. kept count planning w accounts known seat s _ there (record { store = refl; planning = refl }))

  asked_known : (next : WorldValue → Outcome WorldValue) (w : WorldValue) (accounts : Accounts) (seat : ℕ) (fault : Manager → Option ManagerFault)
      (after : Manager → Manager) → ((x : WorldValue) → AreKnown count planning x.managers accounts → AreKnown count planning (next x).now.managers accounts)
      → ((m : Manager) → Keeps m (after m)) → AreKnown count planning w.managers accounts
      → AreKnown count planning (after_ask next w seat fault after).now.managers accounts
  asked_known next w accounts seat fault after goes keeps known =
      at_seat_is w seat _ (λ x. AreKnown count planning x.managers accounts) (λ _. known)
      (λ s there. called_is next w seat s (fault s.manager) (after s.manager) (λ x. AreKnown count planning x.managers accounts) (λ why e. known)
      (goes (with_manager w seat s (after s.manager)) (kept count planning w accounts known seat s (after s.manager) there (keeps s.manager))))

  sending_known : (w : WorldValue) (accounts : Accounts) (seat : ℕ) (fault : Manager → Option ManagerFault) (after : Manager → Manager)
      → ((m : Manager) → Keeps m (after m)) → AreKnown count planning w.managers accounts
      → AreKnown count planning (after_ask (λ now. after_send now seat) w seat fault after).now.managers accounts
  sending_known w accounts seat fault after keeps known =
      asked_known (λ now. after_send now seat) w accounts seat fault after (λ x h. sent_known x accounts seat h) keeps known

  gave_up_known : (w : WorldValue) (accounts : Accounts) (seat transaction : ℕ) → AreKnown count planning w.managers accounts
      → AreKnown count planning (after_give_up w seat transaction).now.managers accounts
  unfolding after_give_up
  gave_up_known w accounts seat transaction known =
      asked_known quiet w accounts seat (λ m. (manager.after_timeout m transaction).fault) (λ m. (manager.after_timeout m transaction).manager) (λ x h. h)
      (λ m. timeout_keeps m transaction) known

  all_given_known : (w : WorldValue) (accounts : Accounts) (seat : ℕ) (transactions : List ℕ) → AreKnown count planning w.managers accounts
      → AreKnown count planning (after_giving_up w seat transactions).now.managers accounts
  all_given_known w accounts seat [] known = known
  all_given_known w accounts seat (transaction ∷ later) known =
      all_given_known (after_give_up w seat transaction).now accounts seat later (gave_up_known w accounts seat transaction known)

  timeout_known : (w : WorldValue) (accounts : Accounts) (seat : ℕ) → AreKnown count planning w.managers accounts
      → AreKnown count planning (after_timeout_line w seat).now.managers accounts
  unfolding after_timeout_line
  timeout_known w accounts seat known =
      at_seat_is w seat _ (λ x. AreKnown count planning x.managers accounts) (λ _. known)
      (λ s there. sent_known (after_giving_up w seat (outstanding s.manager)).now accounts seat (all_given_known w accounts seat (outstanding s.manager) known))

  merge_known : (w : WorldValue) (accounts : Accounts) (seat other : ℕ) → AreKnown count planning w.managers accounts
      → AreKnown count planning (after_merge_line w seat other).now.managers (told_by_merge w accounts seat other)
  unfolding after_merge_line
  merge_known w accounts seat other known = by_other (slice_get w.managers other) (λ o e. known.knows other o e)
    where
      by_other : (o : Option SeatedValue) → ((x : SeatedValue) → o ≡ Some x → x.manager.store ≡ view_at (accounts other).floor (accounts other).told)
          → AreKnown count planning
          (at_seat w seat (λ s. option_map_or (λ o. quiet (with_manager w seat s (after_merge s.manager o.manager.store))) o (quiet w))).now.managers
          (option_map_or (λ o. with_more accounts seat (accounts other)) o accounts)
      by_other None h = at_seat_is w seat _ (λ x. AreKnown count planning x.managers accounts) (λ _. known) (λ s there. known)
      by_other (Some o) h =
          at_seat_is w seat _ (λ x. AreKnown count planning x.managers (with_more accounts seat (accounts other)))
          (nobody count planning w.managers accounts seat (accounts other) known)
          (λ s there. grown count planning w accounts known seat s (after_merge s.manager o.manager.store) (accounts other) there refl
          (ap (merge s.manager.store) (h o refl)))

  floor_known : (w : WorldValue) (accounts : Accounts) (seat floor : ℕ) → AreKnown count planning w.managers accounts
      → AreKnown count planning (after_floor_line w seat floor).now.managers (with_more accounts seat (record { told = []; floor = floor }))
  unfolding after_floor_line
  floor_known w accounts seat floor known =
      let more : Account = record { told = []; floor = floor } in
      at_seat_is w seat _ (λ x. AreKnown count planning x.managers (with_more accounts seat more)) (nobody count planning w.managers accounts seat more known)
      (λ s there. grown count planning w accounts known seat s (after_raise_floor s.manager floor) more there refl (raised_is_merge s.manager.store floor))

  same_known : (managers : List SeatedValue) (w : WorldValue) (accounts : Accounts) → managers ≡ w.managers → AreKnown count planning w.managers accounts
      → AreKnown count planning managers accounts
  same_known managers w accounts same known = subst (λ ms. AreKnown count planning ms accounts) (sym same) known

  -- managers that decide by themselves ------------------------------------------------------------------

  telling_same : (w : WorldValue) (index : ℕ) (what : Told) → (after_telling w index what).now.managers ≡ w.managers
  unfolding after_telling
  telling_same w index what = by_decider (slice_get w.deciders index)
    where
      by_decider : (o : Option DeciderValue)
          → (option_map_or (λ d. after_deciding w index d (after_told w.time what d.acting)) o (quiet w)).now.managers ≡ w.managers
      by_decider None = refl
      by_decider (Some d) = refl

  hearing_same : (w : WorldValue) (p : NodePort) (packet : Packet) → (after_hearing w p packet).now.managers ≡ w.managers
  unfolding after_hearing
  hearing_same w p packet = by_index (decider_at w p)
    where
      by_index : (o : Option ℕ)
          → (option_map_or (λ index. after_telling w index (told.Packet packet.bytes (Some packet.slid))) o (quiet w)).now.managers ≡ w.managers
      by_index None = refl
      by_index (Some index) = telling_same w index (told.Packet packet.bytes (Some packet.slid))

  waking_same : (w : WorldValue) (time : ℕ) → (after_turn w (Wake time)).now.managers ≡ w.managers
  unfolding after_turn
  waking_same w time = by_index (due_at (record w { time = time }))
    where
      by_index : (o : Option ℕ)
          → (option_map_or (λ index. after_telling (record w { time = time }) index told.Time) o (quiet (record w { time = time }))).now.managers ≡ w.managers
      by_index None = refl
      by_index (Some index) = telling_same (record w { time = time }) index told.Time

  decider_same : (w : WorldValue) (index : ℕ) → (after_decider_line w index).now.managers ≡ w.managers
  unfolding after_decider_line
  decider_same w index = by_decider (slice_get w.deciders index)
    where
      by_decider : (o : Option DeciderValue)
          → (option_map_or (λ d. after_fabric_call (with_decider w index (record d { is_awake = true })) (after_seat w.fabric d.at)) o (quiet w)).now.managers
          ≡ w.managers
      by_decider None = refl
      by_decider (Some d) = refl

  pause_same : (w : WorldValue) (index : ℕ) (is_awake : Bool) → (after_pause_line w index is_awake).now.managers ≡ w.managers
  unfolding after_pause_line
  pause_same w index is_awake = by_decider (slice_get w.deciders index)
    where
      by_decider : (o : Option DeciderValue)
          → (option_map_or (λ d. quiet (with_decider w index (record d { is_awake = is_awake }))) o (quiet w)).now.managers ≡ w.managers
      by_decider None = refl
      by_decider (Some d) = refl

  -- packets ------------------------------------------------------------------------------------------------

  taken_known : (w : WorldValue) (accounts : Accounts) (seat : ℕ) (packet : Packet) → AreKnown count planning w.managers accounts
      → AreKnown count planning (after_take w seat packet).now.managers (told_by_packet w accounts packet seat)
  taken_known w accounts seat packet known = by_seat (slice_get w.managers seat) (λ s e. e)
    where
      by_call : (s : SeatedValue) → slice_get w.managers seat ≡ Some s
          → AreKnown count planning
          (after_manager_call (shows (heard_text w seat packet)) w seat s (after_packet s.manager packet.bytes (Some packet.slid)).fault
          (after_packet s.manager packet.bytes (Some packet.slid)).manager).now.managers
          (with_more accounts seat (record { told = sightings_of_call s.manager (calls.Packet packet.bytes (Some packet.slid)); floor = 1 }))
      by_call s there =
          let after = after_packet s.manager packet.bytes (Some packet.slid) in
          let told : Account = record { told = sightings_of_call s.manager (calls.Packet packet.bytes (Some packet.slid)); floor = 1 } in
          let takes = takes_call s.manager (calls.Packet packet.bytes (Some packet.slid)) in
          called_is (shows (heard_text w seat packet)) w seat s after.fault after.manager
          (λ x. AreKnown count planning x.managers (with_more accounts seat told))
          (λ why e. repeated count planning w accounts known seat s told there
          (ap (λ (m : Manager). m.store) (sym (packet_leaves s.manager packet.bytes (Some packet.slid) (fault_of packet.bytes) why e)) ∙ takes))
          (grown count planning w accounts known seat s after.manager told there (planning_stays s.manager (calls.Packet packet.bytes (Some packet.slid)))
          takes)

      by_seat : (o : Option SeatedValue) → ((s : SeatedValue) → o ≡ Some s → slice_get w.managers seat ≡ Some s)
          → AreKnown count planning
          (option_map_or
          (λ s. after_manager_call (shows (heard_text w seat packet)) w seat s (after_packet s.manager packet.bytes (Some packet.slid)).fault
          (after_packet s.manager packet.bytes (Some packet.slid)).manager)
          o (quiet w)).now.managers
          (option_map_or (λ s. with_more accounts seat (record {
            told = sightings_of_call s.manager (calls.Packet packet.bytes
                (Some packet.slid));
            floor = 1;
          })) o accounts)
      by_seat None there = known
      by_seat (Some s) there = by_call s (there s refl)

  took_known : (w : WorldValue) (accounts : Accounts) (seat : ℕ) (packet : Packet) → AreKnown count planning w.managers accounts
      → AreKnown count planning (after_take_and_send w seat packet).now.managers (told_by_packet w accounts packet seat)
  unfolding after_take_and_send
  took_known w accounts seat packet known =
      sent_known (after_take w seat packet).now (told_by_packet w accounts packet seat) seat (taken_known w accounts seat packet known)

  handed_known : (w : WorldValue) (accounts : Accounts) (p : NodePort) (packet : Packet) → AreKnown count planning w.managers accounts
      → AreKnown count planning (after_hand_up w p packet).now.managers (told_at w accounts p packet)
  unfolding after_hand_up
  handed_known w accounts p packet known = by_seat (seat_at w p)
    where
      by_seat : (o : Option ℕ) → AreKnown count planning (option_map_or (λ seat. after_take_and_send w seat packet) o (after_hearing w p packet)).now.managers
          (option_map_or (told_by_packet w accounts packet) o accounts)
      by_seat None = same_known _ w accounts (hearing_same w p packet) known
      by_seat (Some seat) = took_known w accounts seat packet known

  came_known : (w : WorldValue) (accounts : Accounts) (result : Result Delivered FabricFault) → AreKnown count planning w.managers accounts
      → AreKnown count planning (after_arrival w result).now.managers (told_by_delivery w accounts result)
  came_known w accounts (Ok (delivered_is.ToManager p packet)) known = handed_known w accounts p packet known
  came_known w accounts result known = known

  step_known : (w : WorldValue) (accounts : Accounts) (serial : ℕ) → AreKnown count planning w.managers accounts
      → AreKnown count planning (after_step w serial).now.managers (told_by_step w accounts serial)
  unfolding after_step
  step_known w accounts serial known =
      let called = after_deliver w.fabric serial in
      came_known (after_fabric_call w called).now accounts called.result (record { many = known.many; plannings = known.plannings; knows = known.knows })

  deliver_known : (w : WorldValue) (accounts : Accounts) (which : Which) → AreKnown count planning w.managers accounts
      → AreKnown count planning (after_packet_line w which fate.Deliver).now.managers (told_by_deliver w accounts which)
  unfolding after_packet_line
  deliver_known w accounts which known = by_serial (serial_of w.fabric.flights which)
    where
      by_serial : (o : Option ℕ)
          → AreKnown count planning (option_map_or (after_step w) o (shows (refusal_line (fabric_fault_name NoSuchPacket)) w)).now.managers
          (option_map_or (told_by_step w accounts) o accounts)
      by_serial None = known
      by_serial (Some serial) = step_known w accounts serial known

  drain_known : (most : ℕ) (w : WorldValue) (accounts : Accounts) → AreKnown count planning w.managers accounts
      → AreKnown count planning (after_drain_line w most).now.managers (told_by_drain w accounts most)
  drain_known zero w accounts known = known
  drain_known (suc most) w accounts known = by_flight (slice_get w.fabric.flights 0) (drain_known most)
    where
      by_flight : (o : Option Flight)
          → ((x : WorldValue) (accounts' : Accounts) → AreKnown count planning x.managers accounts'
          → AreKnown count planning (after_drain_line x most).now.managers (told_by_drain x accounts' most))
          → AreKnown count planning (option_map_or (λ flight. and_then (after_step w flight.serial) (λ now. after_drain_line now most)) o
          (quiet w)).now.managers
          (option_map_or (λ flight. told_by_drain (after_step w flight.serial).now (told_by_step w accounts flight.serial) most) o accounts)
      by_flight None later = known
      by_flight (Some flight) later =
          later (after_step w flight.serial).now (told_by_step w accounts flight.serial) (step_known w accounts flight.serial known)

  turn_known : (w : WorldValue) (accounts : Accounts) (turn : WaitTurn) → AreKnown count planning w.managers accounts
      → AreKnown count planning (after_turn w turn).now.managers (told_by_turn w accounts turn)
  unfolding after_turn
  turn_known w accounts (Deliver serial) known = step_known w accounts serial known
  turn_known w accounts (Wake time) known = same_known _ w accounts (waking_same w time) known

  turns_known : (most until : ℕ) (w : WorldValue) (accounts : Accounts) → AreKnown count planning w.managers accounts
      → AreKnown count planning (after_turns w until most).now.managers (told_by_turns w accounts until most)
  turns_known zero until w accounts known = known
  turns_known (suc most) until w accounts known = by_turn (next_turn w until) (turns_known most until)
    where
      by_turn : (o : Option WaitTurn)
          → ((x : WorldValue) (accounts' : Accounts) → AreKnown count planning x.managers accounts'
          → AreKnown count planning (after_turns x until most).now.managers (told_by_turns x accounts' until most))
          → AreKnown count planning (option_map_or (λ turn. and_then (after_turn w turn) (λ now. after_turns now until most)) o
          (quiet (record w { time = until }))).now.managers
          (option_map_or (λ turn. told_by_turns (after_turn w turn).now (told_by_turn w accounts turn) until most) o accounts)
      by_turn None later = known
      by_turn (Some turn) later = later (after_turn w turn).now (told_by_turn w accounts turn) (turn_known w accounts turn known)

  -- a packet that is meant, of which managers learn nothing
  which_known : (w : WorldValue) (accounts : Accounts) (which : Which) (run : ℕ → Outcome WorldValue) → AreKnown count planning w.managers accounts
      → ((serial : ℕ) → (run serial).now.managers ≡ w.managers)
      → AreKnown count planning (option_map_or run (serial_of w.fabric.flights which) (shows (refusal_line (fabric_fault_name NoSuchPacket)) w)).now.managers
      accounts
  which_known w accounts which run known same = by_serial (serial_of w.fabric.flights which)
    where
      by_serial : (o : Option ℕ) → AreKnown count planning (option_map_or run o (shows (refusal_line (fabric_fault_name NoSuchPacket)) w)).now.managers accounts
      by_serial None = known
      by_serial (Some serial) = subst (λ managers. AreKnown count planning managers accounts) (sym (same serial)) known

  -- cables, and traps that tell of them ------------------------------------------------------------------

  told_same : (w : WorldValue) (p q : NodePort) → (after_tell_ends w p q).now.managers ≡ w.managers
  unfolding after_tell_ends
  told_same w p q = by_node (q.node == p.node)
    where
      by_node : (b : Bool) → (cond b (quiet (after_tell w p.node).now) (after_tell (after_tell w p.node).now q.node)).now.managers ≡ w.managers
      by_node true = refl
      by_node false = refl

  parting_same : (w : WorldValue) (p : NodePort) (other : Option NodePort) (result : Result (Unit {0}) FabricFault)
      → (after_parting w p other result).now.managers ≡ w.managers
  parting_same w p None (Ok done) = refl
  parting_same w p (Some q) (Ok done) = told_same w p q
  parting_same w p other (Err fault) = refl

  change_same : (w : WorldValue) (p q : NodePort) (result : Result (Unit {0}) FabricFault) → (after_change w p q result).now.managers ≡ w.managers
  change_same w p q (Ok done) = told_same w p q
  change_same w p q (Err fault) = refl

  resends_same : (left : ℕ) (w : WorldValue) (id : ℕ) → (after_resends w id left).now.managers ≡ w.managers
  resends_same zero w id = refl
  resends_same (suc left) w id = resends_same left (after_resend w id).now (id + 1)

  -- all lines ----------------------------------------------------------------------------------------------

  pub command_known : (nodes : List Node) (w : WorldValue) (accounts : Accounts) (command : SeatCommand) → AreKnown count planning w.managers accounts
      → AreKnown count planning (after_command nodes w command).now.managers (told_by_command w accounts command)
  unfolding after_manager_line after_ask_line after_packet_line after_cut_line after_plug_line after_traps_line
  command_known nodes w accounts (command.Manager seat) known =
      at_seat_is w seat _ (λ x. AreKnown count planning x.managers accounts) (λ _. known) (λ s there. known)
  command_known nodes w accounts (command.Ask seat ask.Sweep) known =
      sending_known w accounts seat begin_fault after_begin_sweep (λ m. record { store = refl; planning = refl }) known
  command_known nodes w accounts (command.Ask seat ask.Write) known =
      sending_known w accounts seat writing_fault after_write_steps (λ m. record { store = refl; planning = refl }) known
  command_known nodes w accounts (command.Ask seat ask.Handover) known =
      sending_known w accounts seat handover_fault after_handover (λ m. handing_keeps m (successor_way m)) known
  command_known nodes w accounts (command.Ask seat ask.Yield) known =
      sending_known w accounts seat yield_fault after_yield (λ m. handing_keeps m (heir_way m)) known
  command_known nodes w accounts (command.Ask seat ask.Rediscover) known =
      sending_known w accounts seat rediscover_fault after_rediscover (λ m. record { store = refl; planning = refl }) known
  command_known nodes w accounts (command.Ask seat (ask.Poll lid)) known =
      sending_known w accounts seat (λ m. poll_fault m lid) (λ m. after_poll m lid) (λ m. polling_keeps m (poll_way m lid)) known
  command_known nodes w accounts (command.Timeout seat) known = timeout_known w accounts seat known
  command_known nodes w accounts (command.Floor seat floor) known = floor_known w accounts seat floor known
  command_known nodes w accounts (command.Merge seat other) known = merge_known w accounts seat other known
  command_known nodes w accounts (command.Packet which fate.Deliver) known = deliver_known w accounts which known
  command_known nodes w accounts (command.Packet which fate.Lose) known = which_known w accounts which (after_fate w fate.Lose) known (λ serial. refl)
  command_known nodes w accounts (command.Packet which fate.Repeat) known = which_known w accounts which (after_fate w fate.Repeat) known (λ serial. refl)
  command_known nodes w accounts (command.Drain most) known = drain_known most w accounts known
  command_known nodes w accounts (command.Decider index) known = same_known _ w accounts (decider_same w index) known
  command_known nodes w accounts (command.Pause index) known = same_known _ w accounts (pause_same w index false) known
  command_known nodes w accounts (command.Resume index) known = same_known _ w accounts (pause_same w index true) known
  command_known nodes w accounts (command.Wait wait most) known = turns_known most (later_by wait w.time) w accounts known
  command_known nodes w accounts (command.Cut p) known =
      let called = after_cut w.fabric p in
      same_known _ w accounts (parting_same (after_fabric_call w called).now p (across w.fabric.peers p) called.result) known
  command_known nodes w accounts (command.Plug p q) known =
      let called = after_plug w.fabric p q in
      same_known _ w accounts (change_same (after_fabric_call w called).now p q called.result) known
  command_known nodes w accounts command.Resend known = same_known _ w accounts (resends_same (length w.fabric.agents) w 0) known
  command_known nodes w accounts other known = known

  commands_known : (nodes : List Node) (w : WorldValue) (accounts : Accounts) (commands : List SeatCommand) → AreKnown count planning w.managers accounts
      → AreKnown count planning (after_commands nodes w commands).now.managers (told_by_commands nodes w accounts commands)
  commands_known nodes w accounts [] known = known
  commands_known nodes w accounts (command ∷ later) known =
      commands_known nodes (after_command nodes w command).now (told_by_command w accounts command) later (command_known nodes w accounts command known)

pub all_known : (planning : Planning) (topology : Layout) (script : Script)
    → AreKnown (length script.seats) planning (world_after planning topology script).managers (account_after planning topology script)
all_known planning topology script =
    commands_known (length script.seats) planning topology.nodes (world_of planning topology script.seats script.deciders) opened script.commands
    (all_new planning topology.nodes script.seats)

pub runs_are_accounted_for : RunsAreAccountedFor
runs_are_accounted_for planning topology script = (all_known planning topology script).knows
