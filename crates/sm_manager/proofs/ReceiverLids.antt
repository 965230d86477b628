-- If there is room, each end port has a LID.
use Rattle.std.proofs.Common.{◌≡◌, ℕ, ◌+◌, Bool, true, false, cond, List, [], ◌∷◌, ◌++◌, refl, sym, ap, ◌∙◌, subst}
use Rattle.std.proofs.lemmas.Option.{same_Some}
use Rattle.std.specs.Prelude.{◌^◌, Contains, IsSome, None, Option, Some, if◌then◌else◌, is_none, nat_le, option_and_then, option_map}
use Rattle.fact_store.specs.View.{Facts, cells_of}
use Rattle.subnet_view.specs.declared.end_port.EndPort.{EndPort}
use Rattle.subnet_view.specs.EndPort.{end_ports, is_end_port}
use Rattle.subnet_view.specs.Reading.{Cells}
use Rattle.subnet_view.proofs.Apart.{contains-from_map}
use Rattle.subnet_view.proofs.EndPortList.{end_ports_law}
use Rattle.subnet_view.proofs.WireLaws.{end_port_from_test}
use Rattle.lid_assign.specs.declared.lid_fault.NoRoom.{NoRoom}
use Rattle.lid_assign.specs.LidFault.{no_room}
use Rattle.lid_assign.specs.Lids.{IsNoRoom, is_no_room, lid_of, lids}
use Rattle.lid_assign.proofs.LidLaws.{ports-lids, ports_apart}
use Rattle.lid_assign.proofs.Owners.{lid-from_given}
use Rattle.sm_state.specs.declared.event.Message.{Message}
use Rattle.sm_state.specs.Control.{control_of_message, modifier_of_control}
use Rattle.sm_manager.specs.declared.outgoing.Outgoing.{Outgoing}
use Rattle.sm_manager.specs.declared.pending.Pending.{Pending}
use Rattle.sm_manager.specs.declared.pending.Purpose.TheVariants.{Control}
use Rattle.sm_manager.specs.declared.way.Way.{Way}
use Rattle.sm_manager.specs.declared.way.Way.TheVariants.{ToLid}
use Rattle.sm_state.specs.declared.standing.Standing.{Standing}
use Rattle.sm_state.specs.declared.election.SeenManager.{SeenManager}
use Rattle.sm_manager.specs.declared.fault.ManagerFault.{ManagerFault}
use Rattle.sm_manager.specs.Election.{control_out, control_sent, handed_to, handover_move, planned_fault, planned_way, receiver_lid, receiver_port, info_pending, port_seen, after_message, unless_way}
use Rattle.sm_manager.specs.Manager.{Manager}
use Rattle.sm_manager.specs.PlanFaults.{number_fault, or_else, plan_fault, room_fault, unless_numbers}
use Rattle.sm_manager.specs.declared.fault.ManagerFault.TheVariants.{Nobody}
use Rattle.sm_manager.proofs.Begun.{unless_so_many}
use Rattle.sm_state.specs.Standing.{moved_to}

has_room : (lmc : ℕ) (facts : Facts) → no_room lmc (cells_of facts) ≡ None → ¬ (IsNoRoom lmc (cells_of facts))
has_room lmc facts e none = absurd (cc (sym none ∙ chosen (is_no_room lmc (cells_of facts)) _ e))
  where
    chosen : (b : Bool) (why : NoRoom) → cond b (Some why) None ≡ None → b ≡ false
    chosen true why h = absurd (cc)
    chosen false why h = refl

no_fault : (why : Option NoRoom) → room_fault why ≡ None → why ≡ None
no_fault None e = refl
no_fault (Some why) e = absurd (cc)

pub end_port_has_lid : (lmc : ℕ) (facts : Facts) (e : EndPort) → plan_fault lmc (cells_of facts) ≡ None
    → is_end_port (cells_of facts) e.node e.port ≡ true → IsSome (lid_of (lids lmc (cells_of facts)) e)
end_port_has_lid lmc facts e fault is =
    let room = no_fault (no_room lmc (cells_of facts)) fault in
    let cells = cells_of facts in
    let listed : Contains (end_ports cells) e = ((end_ports_law facts).0 e).1 (end_port_from_test cells e.node e.port is) in
    let (x, there, same) =
    contains-from_map (λ (y : EndPort × ℕ). y.0) (lids lmc cells).ports e
    (subst (λ (xs : List EndPort). Contains xs e) (sym (ports-lids lmc cells (has_room lmc facts room))) listed) in
    let its : Contains (lids lmc cells).ports (e, x.1) = subst (λ (y : EndPort). Contains (lids lmc cells).ports (y, x.1)) same there in
    subst (λ o. IsSome o) (sym (lid-from_given (lids lmc cells) (ports_apart lmc facts (has_room lmc facts room)) e x.1 its)) refl

-- the port where a manager was seen is an end port, if the facts have one there
pub seen_is_end : (cells : Cells) (o : Option SeenManager) (e : EndPort) → option_and_then (port_seen cells) o ≡ Some e → is_end_port cells e.node e.port ≡ true
seen_is_end cells None e h = absurd (cc)
seen_is_end cells (Some s) e h = by_test (is_end_port cells s.guid s.port) refl h
  where
    by_test : (b : Bool) → is_end_port cells s.guid s.port ≡ b → cond b (Some (record { node = s.guid; port = s.port })) None ≡ Some e
        → is_end_port cells e.node e.port ≡ true
    by_test true t i = let same : record { node = s.guid; port = s.port } ≡ e =
        same_Some _ _ i in subst (λ (x : EndPort). is_end_port cells x.node x.port ≡ true) same t
    by_test false t i = absurd (cc)

-- a port that is an end port has a LID of the plan, if there is one
pub with_lid : (lmc : ℕ) (facts : Facts) (p : EndPort) (later : Option ManagerFault) → is_end_port (cells_of facts) p.node p.port ≡ true
    → or_else (plan_fault lmc (cells_of facts)) later
    ≡ or_else (plan_fault lmc (cells_of facts)) (or_else (unless_way (option_map ToLid (lid_of (lids lmc (cells_of facts)) p))) later)
with_lid lmc facts p later is = by_fault (plan_fault lmc (cells_of facts)) refl
  where
    given : (o : Option ℕ) → IsSome o → later ≡ or_else (unless_way (option_map ToLid o)) later
    given None e = absurd (cc e)
    given (Some lid) e = refl

    by_fault : (o : Option ManagerFault) → plan_fault lmc (cells_of facts) ≡ o
        → or_else o later ≡ or_else o (or_else (unless_way (option_map ToLid (lid_of (lids lmc (cells_of facts)) p))) later)
    by_fault None e = given (lid_of (lids lmc (cells_of facts)) p) (end_port_has_lid lmc facts p e is)
    by_fault (Some why) e = refl

-- if the receiver was seen at an end port, a handover is refused if the plan is, or if numbers are lacking
pub judged_with_lid : (before m : Manager) (receiver : Option SeenManager) (s : SeenManager) (p : EndPort) (are_numbers : Bool) → before ≡ m → receiver ≡ Some s
    → port_seen (cells_of m.store) s ≡ Some p → are_numbers ≡ nat_le (before.counter + 1) (2 ^ 32)
    → or_else (plan_fault m.planning.lmc (cells_of m.store)) (unless_numbers are_numbers) ≡ planned_fault m receiver
judged_with_lid before m receiver s p are_numbers same there seen enough =
    let cells = cells_of m.store in
    let plan = plan_fault m.planning.lmc cells in
    let number = number_fault (m.counter + 1) in
    let port : receiver_port m receiver ≡ Some p = ap (option_and_then (port_seen cells)) there ∙ seen in
    let lid : receiver_lid m receiver ≡ lid_of (lids m.planning.lmc cells) p = ap (option_and_then (lid_of (lids m.planning.lmc cells))) port in
    ap (λ (b : Bool). or_else plan (unless_numbers b)) (enough ∙ ap (λ (x : Manager). nat_le (x.counter + 1) (2 ^ 32)) same)
    ∙ ap (or_else plan) (unless_so_many m.counter 1)
    ∙ with_lid m.planning.lmc m.store p number (seen_is_end cells receiver p port)
    ∙ ap (λ o. or_else plan (or_else (unless_way (option_map ToLid o)) number)) (sym lid)
    ∙ sym (ap (λ (o : Option SeenManager). if is_none o then Some Nobody else or_else plan (or_else (unless_way (planned_way m receiver)) number)) there)

-- what goes to the receiver
pub handed_is : (m : Manager) (to : Option Way) (way : Way) (message : Message) → to ≡ Some way → (handover_move m).message ≡ Some message
    → control_sent (record m { standing = moved_to (handover_move m).state m.standing }) way (control_of_message message) ≡ handed_to m to
handed_is m to way message e f = sym (λ i. after_message (record m { standing = moved_to (handover_move m).state m.standing }) (e i) (f i))

pub handed_parts : (m : Manager) (standing : Standing) (counter : ℕ) (pending : List Pending) (outgoing : List Outgoing) (to : Option Way) (way : Way) (message : Message)
    → to ≡ Some way → (handover_move m).message ≡ Some message → standing ≡ moved_to (handover_move m).state m.standing → counter ≡ m.counter + 1
    → pending ≡ m.pending ++ info_pending m.counter Control (modifier_of_control (control_of_message message)) way ∷ []
    → outgoing ≡ m.outgoing ++ control_out standing m.counter way (control_of_message message) ∷ []
    → record m { standing = standing; counter = counter; pending = pending; outgoing = outgoing } ≡ handed_to m to
handed_parts m standing counter pending outgoing to way message e f moved number waits out =
    let sent = out ∙ ap (λ s. m.outgoing ++ control_out s m.counter way (control_of_message message) ∷ []) moved in
    (λ i. record m { standing = moved i; counter = number i; pending = waits i; outgoing = sent i }) ∙ handed_is m to way message e f
