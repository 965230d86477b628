-- Managers that decide by themselves are only told things, whatever is done in a run.
use Rattle.std.proofs.Common.{◌≡◌, ℕ, zero, suc, ◌+◌, ◌==◌, Bool, true, false, cond, List, [], ◌∷◌, ◌++◌, length, set, refl, ap, ◌∙◌, subst}
use Rattle.std.proofs.lemmas.Option.{slice_get-map}
use Rattle.std.specs.Prelude.{Option, Some, None, Result, Ok, Err, option_map, slice_get}
use Rattle.std.specs.Option.{option_map_or}
use Rattle.fabric_model.specs.declared.cable.NodePort.{NodePort}
use Rattle.topo_file.specs.declared.node.Node.{Node}
use Rattle.schedule_file.specs.Resolve.{SeatCommand}
use Rattle.schedule_file.specs.declared.command.Command.TheVariants as command
use Rattle.schedule_file.specs.declared.command.Fate.{Fate}
use Rattle.schedule_file.specs.declared.command.Fate.TheVariants as fate
use Rattle.schedule_file.specs.declared.command.Which.{Which}
use Rattle.fabric_sim.specs.FabricFault.{fabric_fault_name}
use Rattle.fabric_sim.specs.Changes.{after_cut, after_plug, after_seat}
use Rattle.fabric_sim.specs.Delivery.{after_deliver}
use Rattle.fabric_sim.specs.Simulation.{across}
use Rattle.fabric_sim.specs.declared.delivered.Delivered.{Delivered}
use Rattle.fabric_sim.specs.declared.delivered.Delivered.TheVariants as delivered_is
use Rattle.fabric_sim.specs.declared.fabric_fault.FabricFault.{FabricFault}
use Rattle.fabric_sim.specs.declared.fabric_fault.FabricFault.TheVariants.{NoSuchPacket}
use Rattle.fabric_sim.specs.declared.flight.Flight.{Flight}
use Rattle.fabric_sim.specs.declared.packet.Packet.{Packet}
use Rattle.sm_manager.specs.declared.fault.ManagerFault.{ManagerFault}
use Rattle.sm_manager.specs.Manager.{Manager, outstanding}
use Rattle.sm_policy.specs.Policy.{later_by}
use Rattle.schedule_lines.specs.ManagerAsks.{after_asked, asked_fault}
use Rattle.schedule_lines.specs.Outcome.{Outcome, and_then, quiet, shows}
use Rattle.schedule_lines.specs.Refusals.{refusal_line}
use Rattle.schedule_run.specs.Acting.{Acting}
use Rattle.schedule_run.specs.Commands.{after_ask_line, after_change, after_command, after_commands, after_cut_line, after_drain_line, after_fate}
use Rattle.schedule_run.specs.Commands.{after_floor_line, after_give_up, after_giving_up, after_manager_line, after_merge_line, after_packet_line}
use Rattle.schedule_run.specs.Commands.{after_parting, after_plug_line, after_resend, after_resends, after_tell, after_tell_ends, after_timeout_line}
use Rattle.schedule_run.specs.Commands.{after_traps_line, new_decider, world_of}
use Rattle.schedule_run.specs.Deciders.{after_deciding, after_decider_line, after_hearing, after_pause_line, after_telling, decider_at}
use Rattle.schedule_run.specs.Deciders.{with_decider}
use Rattle.schedule_run.specs.Delivery.{after_arrival, after_hand_up, after_step, after_take, after_take_and_send, heard_text, seat_at}
use Rattle.schedule_run.specs.NamedPackets.{serial_of}
use Rattle.schedule_run.specs.Waiting.{after_turn, after_turns, due_at, next_turn}
use Rattle.schedule_run.specs.Working.{Told, after_told, given_away}
use Rattle.schedule_run.specs.Working as told
use Rattle.schedule_run.specs.World.{DeciderValue, WorldValue, after_ask, after_fabric_call, after_send, after_send_by, with_manager}
use Rattle.schedule_run.specs.declared.waiting.WaitTurn.{WaitTurn}
use Rattle.schedule_run.specs.declared.waiting.WaitTurn.TheVariants.{Deliver, Wake}
use Rattle.run_laws.specs.Deciders.{DecidersAreTold, IsToldOnly, after_all_told}
use Rattle.run_laws.proofs.Seats.{at_seat_is, called_is}

-- things that are told, and then more -----------------------------------------------------------------------

told_then : (first second : List (ℕ × Told)) (a : Acting) → after_all_told (first ++ second) a ≡ after_all_told second (after_all_told first a)
told_then [] second a = refl
told_then (one ∷ first) second a = told_then first second (given_away (after_told one.0 one.1 a))

untold : (d : DeciderValue) → IsToldOnly d d
untold d = record { name = refl; at = refl; told = []; are = refl }

told_on : (d e f : DeciderValue) → IsToldOnly d e → IsToldOnly e f → IsToldOnly d f
told_on d e f h k = record {
  name = k.name ∙ h.name;
  at = k.at ∙ h.at;
  told = h.told ++ k.told;
  are = told_then h.told k.told d.acting ∙ ap (after_all_told k.told) h.are ∙ k.are;
}

-- the deciders, each of which was only told things
AreTold : List DeciderValue → List DeciderValue → Type 0
AreTold [] [] = Unit {0}
AreTold (d ∷ ds) (e ∷ es) = IsToldOnly d e × AreTold ds es
AreTold ds es = ⊥

none_told : (ds : List DeciderValue) → AreTold ds ds
unfolding AreTold
none_told [] = tt
none_told (d ∷ ds) = (untold d, none_told ds)

all_on : (ds es fs : List DeciderValue) → AreTold ds es → AreTold es fs → AreTold ds fs
unfolding AreTold
all_on [] [] [] h k = tt
all_on (d ∷ ds) (e ∷ es) (f ∷ fs) h k = (told_on d e f h.0 k.0, all_on ds es fs h.1 k.1)
all_on [] [] (f ∷ fs) h k = absurd k
all_on [] (e ∷ es) fs h k = absurd h
all_on (d ∷ ds) [] fs h k = absurd h
all_on (d ∷ ds) (e ∷ es) [] h k = absurd k

one_told : (ds : List DeciderValue) (index : ℕ) (d after : DeciderValue) → slice_get ds index ≡ Some d → IsToldOnly d after → AreTold ds (set ds index after)
unfolding AreTold
one_told [] index d after here told = tt
one_told (x ∷ ds) zero d after here told =
    let same : d ≡ x = cc in (subst (λ y. IsToldOnly y after) same told, none_told ds)
one_told (x ∷ ds) (suc index) d after here told = (untold x, one_told ds index d after here told)

told_at : (ds es : List DeciderValue) (k : ℕ) (d e : DeciderValue) → AreTold ds es → slice_get ds k ≡ Some d → slice_get es k ≡ Some e → IsToldOnly d e
unfolding AreTold
told_at [] es k d e h there there' = absurd (cc)
told_at (x ∷ ds) [] k d e h there there' = absurd h
told_at (x ∷ ds) (y ∷ es) zero d e h there there' =
    let one : x ≡ d = cc in
    let two : y ≡ e = cc in
    subst (λ z. IsToldOnly z e) one (subst (IsToldOnly x) two h.0)
told_at (x ∷ ds) (y ∷ es) (suc k) d e h there there' = told_at ds es k d e h.1 there there'

-- worlds ------------------------------------------------------------------------------------------------------

-- each decider of the one world was only told things to become that of the other
abbrev Goes : WorldValue → WorldValue → Type 0
Goes w x = AreTold w.deciders x.deciders

stays : (w : WorldValue) → Goes w w
stays w = none_told w.deciders

goes_on : (w x y : WorldValue) → Goes w x → Goes x y → Goes w y
goes_on w x y h k = all_on w.deciders x.deciders y.deciders h k

-- managers that are asked, which leave the deciders
sends : (w : WorldValue) (seat : ℕ) → Goes w (after_send w seat).now
unfolding after_send
sends w seat = at_seat_is w seat (after_send_by w seat) (Goes w) (λ _. stays w) (λ s there. stays w)

asks : (next : WorldValue → Outcome WorldValue) (w : WorldValue) (seat : ℕ) (fault : Manager → Option ManagerFault) (after : Manager → Manager)
    → ((x : WorldValue) → Goes x (next x).now) → Goes w (after_ask next w seat fault after).now
asks next w seat fault after goes =
    at_seat_is w seat _ (Goes w) (λ _. stays w)
    (λ s there. called_is next w seat s (fault s.manager) (after s.manager) (Goes w) (λ why e. stays w) (goes (with_manager w seat s (after s.manager))))

gives_up : (w : WorldValue) (seat transaction : ℕ) → Goes w (after_give_up w seat transaction).now
unfolding after_give_up
gives_up w seat transaction = asks quiet w seat _ _ stays

all_given : (w : WorldValue) (seat : ℕ) (transactions : List ℕ) → Goes w (after_giving_up w seat transactions).now
all_given w seat [] = stays w
all_given w seat (transaction ∷ later) =
    let now = (after_give_up w seat transaction).now in
    goes_on w now (after_giving_up now seat later).now (gives_up w seat transaction) (all_given now seat later)

times_out : (w : WorldValue) (seat : ℕ) → Goes w (after_timeout_line w seat).now
unfolding after_timeout_line
times_out w seat =
    at_seat_is w seat _ (Goes w) (λ _. stays w)
    (λ s there. let now = (after_giving_up w seat (outstanding s.manager)).now in
    goes_on w now (after_send now seat).now (all_given w seat (outstanding s.manager)) (sends now seat))

-- managers that decide ------------------------------------------------------------------------------------------

tells : (w : WorldValue) (index : ℕ) (what : Told) → Goes w (after_telling w index what).now
unfolding after_telling
tells w index what = by_decider (slice_get w.deciders index) refl
  where
    by_decider : (o : Option DeciderValue) → slice_get w.deciders index ≡ o
        → Goes w (option_map_or (λ d. after_deciding w index d (after_told w.time what d.acting)) o (quiet w)).now
    by_decider None there = stays w
    by_decider (Some d) there =
        one_told w.deciders index d (record d { acting = given_away (after_told w.time what d.acting) }) there
        (record { name = refl; at = refl; told = (w.time, what) ∷ []; are = refl })

wakes : (w : WorldValue) (index : ℕ) (is_awake : Bool) → Goes w (after_pause_line w index is_awake).now
unfolding after_pause_line
wakes w index is_awake = by_decider (slice_get w.deciders index) refl
  where
    by_decider : (o : Option DeciderValue) → slice_get w.deciders index ≡ o
        → Goes w (option_map_or (λ d. quiet (with_decider w index (record d { is_awake = is_awake }))) o (quiet w)).now
    by_decider None there = stays w
    by_decider (Some d) there =
        one_told w.deciders index d (record d { is_awake = is_awake }) there (record { name = refl; at = refl; told = []; are = refl })

seats : (w : WorldValue) (index : ℕ) → Goes w (after_decider_line w index).now
unfolding after_decider_line
seats w index = by_decider (slice_get w.deciders index) refl
  where
    by_decider : (o : Option DeciderValue) → slice_get w.deciders index ≡ o
        → Goes w
        (option_map_or (λ d. after_fabric_call (with_decider w index (record d { is_awake = true })) (after_seat w.fabric d.at)) o (quiet w)).now
    by_decider None there = stays w
    by_decider (Some d) there =
        one_told w.deciders index d (record d { is_awake = true }) there (record { name = refl; at = refl; told = []; are = refl })

hears : (w : WorldValue) (p : NodePort) (packet : Packet) → Goes w (after_hearing w p packet).now
unfolding after_hearing
hears w p packet = by_index (decider_at w p)
  where
    by_index : (o : Option ℕ)
        → Goes w (option_map_or (λ index. after_telling w index (told.Packet packet.bytes (Some packet.slid))) o (quiet w)).now
    by_index None = stays w
    by_index (Some index) = tells w index (told.Packet packet.bytes (Some packet.slid))

-- packets -------------------------------------------------------------------------------------------------------

takes : (w : WorldValue) (seat : ℕ) (packet : Packet) → Goes w (after_take_and_send w seat packet).now
unfolding after_take_and_send
takes w seat packet =
    let now = (after_take w seat packet).now in
    goes_on w now (after_send now seat).now (asks (shows (heard_text w seat packet)) w seat _ _ stays) (sends now seat)

hands : (w : WorldValue) (p : NodePort) (packet : Packet) → Goes w (after_hand_up w p packet).now
unfolding after_hand_up
hands w p packet = by_seat (seat_at w p)
  where
    by_seat : (o : Option ℕ) → Goes w (option_map_or (λ seat. after_take_and_send w seat packet) o (after_hearing w p packet)).now
    by_seat None = hears w p packet
    by_seat (Some seat) = takes w seat packet

comes : (w : WorldValue) (result : Result Delivered FabricFault) → Goes w (after_arrival w result).now
comes w (Ok (delivered_is.ToManager p packet)) = hands w p packet
comes w result = stays w

steps : (w : WorldValue) (serial : ℕ) → Goes w (after_step w serial).now
unfolding after_step
steps w serial = let called = after_deliver w.fabric serial in comes (after_fabric_call w called).now called.result

packets : (w : WorldValue) (which : Which) (what : Fate) → Goes w (after_packet_line w which what).now
unfolding after_packet_line
packets w which what = by_serial (serial_of w.fabric.flights which) what
  where
    by_serial : (o : Option ℕ) (what : Fate)
        → Goes w (option_map_or (after_fate w what) o (shows (refusal_line (fabric_fault_name NoSuchPacket)) w)).now
    by_serial None what = stays w
    by_serial (Some serial) fate.Deliver = steps w serial
    by_serial (Some serial) fate.Lose = stays w
    by_serial (Some serial) fate.Repeat = stays w

drains : (most : ℕ) (w : WorldValue) → Goes w (after_drain_line w most).now
drains zero w = stays w
drains (suc most) w = by_flight (slice_get w.fabric.flights 0) (drains most)
  where
    by_flight : (o : Option Flight) → ((x : WorldValue) → Goes x (after_drain_line x most).now)
        → Goes w (option_map_or (λ flight. and_then (after_step w flight.serial) (λ now. after_drain_line now most)) o (quiet w)).now
    by_flight None later = stays w
    by_flight (Some flight) later =
        let now = (after_step w flight.serial).now in
        goes_on w now (after_drain_line now most).now (steps w flight.serial) (later now)

turns : (w : WorldValue) (turn : WaitTurn) → Goes w (after_turn w turn).now
unfolding after_turn
turns w (Deliver serial) = steps w serial
turns w (Wake time) = by_index (due_at (record w { time = time }))
  where
    by_index : (o : Option ℕ)
        → Goes w (option_map_or (λ index. after_telling (record w { time = time }) index told.Time) o (quiet (record w { time = time }))).now
    by_index None = stays w
    by_index (Some index) = tells (record w { time = time }) index told.Time

waits : (most until : ℕ) (w : WorldValue) → Goes w (after_turns w until most).now
waits zero until w = stays w
waits (suc most) until w = by_turn (next_turn w until) (waits most until)
  where
    by_turn : (o : Option WaitTurn) → ((x : WorldValue) → Goes x (after_turns x until most).now)
        → Goes w (option_map_or (λ turn. and_then (after_turn w turn) (λ now. after_turns now until most)) o (quiet (record w { time = until }))).now
    by_turn None later = stays w
    by_turn (Some turn) later =
        let now = (after_turn w turn).now in
        goes_on w now (after_turns now until most).now (turns w turn) (later now)

-- cables --------------------------------------------------------------------------------------------------------

ends : (w : WorldValue) (p q : NodePort) → Goes w (after_tell_ends w p q).now
unfolding after_tell_ends
ends w p q = by_node (q.node == p.node)
  where
    by_node : (b : Bool) → Goes w (cond b (quiet (after_tell w p.node).now) (after_tell (after_tell w p.node).now q.node)).now
    by_node true = stays w
    by_node false = stays w

parts : (w : WorldValue) (p : NodePort) (other : Option NodePort) (result : Result (Unit {0}) FabricFault) → Goes w (after_parting w p other result).now
parts w p None (Ok done) = stays w
parts w p (Some q) (Ok done) = ends w p q
parts w p other (Err fault) = stays w

changes : (w : WorldValue) (p q : NodePort) (result : Result (Unit {0}) FabricFault) → Goes w (after_change w p q result).now
changes w p q (Ok done) = ends w p q
changes w p q (Err fault) = stays w

resends : (left : ℕ) (w : WorldValue) (id : ℕ) → Goes w (after_resends w id left).now
resends zero w id = stays w
resends (suc left) w id = resends left (after_resend w id).now (id + 1)

-- all lines -----------------------------------------------------------------------------------------------------

merges : (w : WorldValue) (seat other : ℕ) → Goes w (after_merge_line w seat other).now
unfolding after_merge_line
merges w seat other =
    at_seat_is w seat _ (Goes w) (λ _. stays w) (λ s there. at_seat_is w other _ (Goes w) (λ _. stays w) (λ o also. stays w))

raises : (w : WorldValue) (seat floor : ℕ) → Goes w (after_floor_line w seat floor).now
unfolding after_floor_line
raises w seat floor = at_seat_is w seat _ (Goes w) (λ _. stays w) (λ s there. stays w)

goes : (nodes : List Node) (w : WorldValue) (command : SeatCommand) → Goes w (after_command nodes w command).now
unfolding after_manager_line after_ask_line after_cut_line after_plug_line after_traps_line
goes nodes w (command.Manager seat) = at_seat_is w seat _ (Goes w) (λ _. stays w) (λ s there. stays w)
goes nodes w (command.Decider index) = seats w index
goes nodes w (command.Ask seat what) = asks (λ now. after_send now seat) w seat (asked_fault what) (after_asked what) (λ x. sends x seat)
goes nodes w (command.Timeout seat) = times_out w seat
goes nodes w (command.Floor seat floor) = raises w seat floor
goes nodes w (command.Merge seat other) = merges w seat other
goes nodes w (command.Show seat what) = stays w
goes nodes w (command.ShowDecider index what) = stays w
goes nodes w (command.Pause index) = wakes w index false
goes nodes w (command.Resume index) = wakes w index true
goes nodes w (command.Wait wait most) = waits most (later_by wait w.time) w
goes nodes w (command.Packet which what) = packets w which what
goes nodes w (command.Drain most) = drains most w
goes nodes w (command.Cut p) =
    let called = after_cut w.fabric p in parts (after_fabric_call w called).now p (across w.fabric.peers p) called.result
goes nodes w (command.Plug p q) = let called = after_plug w.fabric p q in changes (after_fabric_call w called).now p q called.result
goes nodes w (command.Ping p lid) = stays w
goes nodes w command.Traps = stays w
goes nodes w command.Resend = resends (length w.fabric.agents) w 0
goes nodes w command.Tables = stays w
goes nodes w command.Flight = stays w

all_go : (nodes : List Node) (w : WorldValue) (commands : List SeatCommand) → Goes w (after_commands nodes w commands).now
all_go nodes w [] = stays w
all_go nodes w (command ∷ later) =
    let now = (after_command nodes w command).now in
    goes_on w now (after_commands nodes now later).now (goes nodes w command) (all_go nodes now later)

pub deciders_are_told : DecidersAreTold
deciders_are_told planning topology script index seat d there there' =
    let w = world_of planning topology script.seats script.deciders in
    told_at w.deciders (after_commands topology.nodes w script.commands).now.deciders index (new_decider planning topology.nodes seat) d
    (all_go topology.nodes w script.commands)
    (slice_get-map (new_decider planning topology.nodes) script.deciders index ∙ ap (option_map (new_decider planning topology.nodes)) there) there'
