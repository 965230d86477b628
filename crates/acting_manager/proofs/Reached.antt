-- What becomes of the manager of a manager that decides by itself is what some calls make of it.
use Rattle.std.proofs.Common.{◌≡◌, ◌∙◌, ◌++◌, ◌<◌, ◌≤◌, ◌^◌, ℕ, zero, suc, arith, Bool, List, [], ◌∷◌, Option, None, Some, length, refl, ap}
use Rattle.std.proofs.lemmas.Bool.{cond_both}
use Rattle.std.specs.Prelude.{is_none}
use Rattle.smp_bytes.specs.Field.{number_in}
use Rattle.smp_bytes.specs.Packet.{fault_of, is_response, transaction_id}
use Rattle.smp_bytes.specs.declared.smp_fault.SmpFault.{SmpFault}
use Rattle.lft_blocks.specs.Plan.{PlanValue}
use Rattle.sm_manager.specs.CallLists.{Call, after_call, after_calls}
use Rattle.sm_manager.specs.Manager.{Manager, emptied}
use Rattle.sm_manager.specs.Packets.{after_packet}
use Rattle.sm_manager.specs.Writing.{is_written}
use Rattle.sm_manager.specs.declared.outgoing.Outgoing.{Outgoing}
use Rattle.sm_state.specs.Standing.{one_more}
use Rattle.sm_policy.specs.Judged.{cause_of, judged, wrote}
use Rattle.sm_policy.specs.Policy.{Decision, is_sweeping}
use Rattle.sm_policy.specs.Resting.{rested}
use Rattle.sm_policy.specs.Swept.{swept}
use Rattle.sm_policy.specs.declared.act.Act.{Act}
use Rattle.sm_policy.specs.declared.act.Act.TheVariants as act
use Rattle.sm_policy.specs.declared.activity.Activity.{Activity}
use Rattle.sm_policy.specs.declared.write_cause.WriteCause.{WriteCause}
use Rattle.sm_policy.specs.declared.activity.Activity.TheVariants as activity
use Rattle.request_window.specs.Window.{after_answer, after_drop_out, after_drop_queued, after_overdue, after_send, late_in}
use Rattle.request_window.specs.declared.late.Late.{Late}
use Rattle.request_window.specs.declared.late.Late.TheVariants.{Again, GivenUp}
use Rattle.acting_manager.specs.Acting.{Acting, caught_up, collected, looked, noted}
use Rattle.acting_manager.specs.ActingLaws.{ActsAreCalls, GenerationsRise, IsReached, after_all_told}
use Rattle.acting_manager.specs.Acts.{about_plan, acted, acted_in, decided, done_by, is_whole, left_in, noted_unplanned, rival_seen}
use Rattle.acting_manager.specs.Heard.{answered, asked, handed_in, heard_by, requested, responded}
use Rattle.acting_manager.specs.Planned.{comparison_of, planned}
use Rattle.acting_manager.specs.declared.note.Note.TheVariants.{Swept, Wrote}
use Rattle.acting_manager.specs.Working.{Told, acted_if_idle, after_told, all_overdue, dropped, dropped_one, late_done, leaving, one_overdue, one_sent}
use Rattle.acting_manager.specs.Working.{out_dropped, queued_dropped, repeated, sent, sent_one, stopped, taken, told_time, worked}

-- calls ------------------------------------------------------------------------------------------

-- the newest generation does not fall, and stays one
abbrev Rises : ℕ → ℕ → Type 0
Rises n n' = n < 2 ^ 32 → (n ≤ n') × (n' < 2 ^ 32)

-- from the manager `m` and the newest generation `n` some calls lead to `m'`, and the newest generation rises to `n'`
record Goes (m : Manager) (n : ℕ) (m' : Manager) (n' : ℕ) : Type 0 where
  calls : IsReached m m'
  rises : Rises n n'

none : (m : Manager) (n : ℕ) → Goes m n m n
none m n = record { calls = record { calls = []; are = refl }; rises = λ h. (omega arith, h) }

one : (m : Manager) (n : ℕ) (call : Call) → Goes m n (after_call m call) n
one m n call = record { calls = record { calls = call ∷ []; are = refl }; rises = λ h. (omega arith, h) }

raised : (m : Manager) (n : ℕ) (call : Call) → Goes m n (after_call m call) (one_more n)
raised m n call = record { calls = record { calls = call ∷ []; are = refl }; rises = rising n }
  where
    rising : (n : ℕ) → Rises n (one_more n)
    rising n h = (omega (arith, h), omega (arith, h))

after_both : (first later : List Call) (m : Manager) → after_calls (first ++ later) m ≡ after_calls later (after_calls first m)
after_both [] later m = refl
after_both (call ∷ first) later m = after_both first later (after_call m call)

reached_then : {m n o : Manager} → IsReached m n → IsReached n o → IsReached m o
reached_then {m} {n} {o} r s = record {
  calls = r.calls ++ s.calls;
  are = after_both r.calls s.calls m ∙ ap (after_calls s.calls) r.are ∙ s.are;
}

then : {m m' m'' : Manager} {n n' n'' : ℕ} → Goes m n m' n' → Goes m' n' m'' n'' → Goes m n m'' n''
then r s = record {
  calls = reached_then r.calls s.calls;
  rises = λ h. let first = r.rises h in let later = s.rises first.1 in (omega (arith, first.0, later.0), later.1);
}

-- a step of a manager that decides by itself makes calls
abbrev Calls : (Acting → Acting) → Type 0
Calls step = (a : Acting) → Goes a.manager a.newest (step a).manager (step a).newest

all_taken : (m : Manager) (n : ℕ) (queue : List Outgoing) → Goes (record m { outgoing = queue }) n (emptied m) n
all_taken m n [] = none (emptied m) n
all_taken m n (out ∷ later) = then (one (record m { outgoing = out ∷ later }) n Call.Take) (all_taken m n later)

collects : Calls collected
collects a = all_taken a.manager a.newest a.manager.outgoing

looks : Calls looked
looks a = cond_both _ _ _ (λ (b : Acting). Goes a.manager a.newest b.manager b.newest) (λ _. none a.manager a.newest) (λ _. none a.manager a.newest)

catches_up : Calls caught_up
catches_up a = then (collects a) (looks (collected a))

repeats : (n : ℕ) (step : Acting → Acting) → Calls step → Calls (repeated n step)
repeats zero step each a = none a.manager a.newest
repeats (suc n) step each a = then (repeats n step each a) (each (repeated n step a))

-- packets ----------------------------------------------------------------------------------------

hands_in : (request : Outgoing) (packet : List ℕ) (is_taken : Bool) → Calls (handed_in request packet is_taken)
hands_in request packet is_taken a =
    cond_both is_taken _ _ (λ (b : Acting). Goes a.manager a.newest b.manager b.newest) (λ _. none a.manager a.newest)
    (λ _. one a.manager a.newest (Call.Timeout (number_in transaction_id request.packet)))

answers : (request : Option Outgoing) (packet : List ℕ) (from : Option ℕ) → Calls (answered request packet from)
answers None packet from a = none a.manager a.newest
answers (Some request) packet from a =
    then (one a.manager a.newest (Call.Packet packet from))
    (hands_in request packet (is_none (after_packet a.manager packet from).fault) (record a { manager = after_call a.manager (Call.Packet packet from) }))

responds : (packet : List ℕ) (from : Option ℕ) → Calls (responded packet from)
responds packet from a =
    answers (after_answer packet a.window).request packet from (record a { window = (after_answer packet a.window).window })

requests : (packet : List ℕ) (from : Option ℕ) → Calls (requested packet from)
requests packet from a =
    cond_both _ _ _ (λ (m : Manager). Goes a.manager a.newest m a.newest) (λ _. one a.manager a.newest (Call.Packet packet from))
    (λ _. none a.manager a.newest)

asks : (packet : List ℕ) (from : Option ℕ) → Calls (asked packet from)
asks packet from a =
    cond_both _ _ _ (λ (b : Acting). Goes a.manager a.newest b.manager b.newest) (λ _. none a.manager a.newest) (λ _. requests packet from a)

hears_by : (packet : List ℕ) (from : Option ℕ) (fault : Option SmpFault) → Calls (heard_by packet from fault)
hears_by packet from (Some fault) a = none a.manager a.newest
hears_by packet from None a =
    cond_both (is_response packet) _ _ (λ (b : Acting). Goes a.manager a.newest b.manager b.newest) (λ _. responds packet from a) (λ _. asks packet from a)

-- acts -------------------------------------------------------------------------------------------

writes_if : (what : Act) (cause : WriteCause) (plan : Option PlanValue) → Calls (about_plan what cause plan)
writes_if act.Write cause (Some plan) a = one a.manager a.newest Call.WriteSteps
writes_if act.Write cause None a = none a.manager a.newest
writes_if act.Settle cause plan a = one a.manager a.newest Call.Handover
writes_if act.Wait cause plan a = none a.manager a.newest
writes_if act.Poll cause plan a = none a.manager a.newest
writes_if act.Announce cause plan a = none a.manager a.newest
writes_if act.Sweep cause plan a = none a.manager a.newest
writes_if act.Rediscover cause plan a = none a.manager a.newest
writes_if act.HandOver cause plan a = none a.manager a.newest
writes_if act.Yield cause plan a = none a.manager a.newest
writes_if act.Judge cause plan a = none a.manager a.newest

notes_unplanned : (plan : Option PlanValue) → Calls (noted_unplanned plan)
notes_unplanned None a = none a.manager a.newest
notes_unplanned (Some plan) a = none a.manager a.newest

does : (what : Act) → Calls (done_by what)
does act.Wait a = none a.manager a.newest
does act.Poll a = one a.manager a.newest (Call.Poll None)
does act.Announce a = none a.manager a.newest
does act.Sweep a = then (raised a.manager a.newest (Call.Raise (one_more a.newest))) (one _ (one_more a.newest) Call.BeginSweep)
does act.Rediscover a = one a.manager a.newest Call.Rediscover
does act.HandOver a = one a.manager a.newest Call.Handover
does act.Yield a = one a.manager a.newest Call.Yield
does act.Judge a =
    let plan = planned a.manager in
    let d = judged a.time (comparison_of a.kept plan) a.reads.ports a.policy in
    let cause = cause_of (comparison_of a.kept plan) a.reads.ports a.policy in
    then (notes_unplanned plan a) (writes_if d.act cause plan (record (noted_unplanned plan a) { policy = d.policy }))
does act.Write a = none a.manager a.newest
does act.Settle a = none a.manager a.newest

decides : (d : Decision) → Calls (decided d)
decides d a = does d.act (record a { policy = d.policy })

acts_in : (what : Activity) → Calls (acted_in what)
acts_in activity.Rests a = decides (rested a.time a.policy) a
acts_in activity.Sweeps a =
    decides (swept a.time (is_whole a.manager) (rival_seen a.manager) a.policy) (noted (Swept (is_whole a.manager)) a)
acts_in activity.Writes a = decides (wrote a.time (is_written a.manager) a.policy) (noted (Wrote (is_written a.manager)) a)
acts_in activity.Hands a = none a.manager a.newest

leaves_in : (what : Activity) → Calls (left_in what)
leaves_in activity.Rests a = none a.manager a.newest
leaves_in activity.Sweeps a = one a.manager a.newest Call.Yield
leaves_in activity.Writes a = none a.manager a.newest
leaves_in activity.Hands a = none a.manager a.newest

acts : Calls acted
acts a =
    cond_both a.is_leaving _ _ (λ (b : Acting). Goes a.manager a.newest b.manager b.newest) (λ _. leaves_in a.policy.activity a)
    (λ _. acts_in a.policy.activity a)

acts_if_idle : Calls acted_if_idle
acts_if_idle a =
    cond_both _ _ _ (λ (b : Acting). Goes a.manager a.newest b.manager b.newest) (λ _. then (acts a) (catches_up (acted a))) (λ _. none a.manager a.newest)

-- requests ---------------------------------------------------------------------------------------

is_late : (late : Option Late) → Calls (late_done late)
is_late None a = none a.manager a.newest
is_late (Some (Again request)) a = none a.manager a.newest
is_late (Some (GivenUp request)) a = one a.manager a.newest (Call.Timeout (number_in transaction_id request.packet))

overdue_once : Calls one_overdue
overdue_once a = is_late (late_in a.window.limits a.time a.window.outs).late (record a { window = after_overdue a.time a.window })

drops_one : (request : Option Outgoing) → Calls (dropped_one request)
drops_one None a = none a.manager a.newest
drops_one (Some request) a = one a.manager a.newest (Call.Timeout (number_in transaction_id request.packet))

drops_queued : Calls queued_dropped
drops_queued a = drops_one (after_drop_queued a.window).request (record a { window = (after_drop_queued a.window).window })

drops_out : Calls out_dropped
drops_out a = drops_one (after_drop_out a.window).request (record a { window = (after_drop_out a.window).window })

drops : Calls dropped
drops a =
    let unqueued = repeated (length a.window.queued) queued_dropped a in
    then (repeats (length a.window.queued) queued_dropped drops_queued a) (repeats (length unqueued.window.outs) out_dropped drops_out unqueued)

stops : Calls stopped
stops a =
    cond_both _ _ _ (λ (b : Acting). Goes a.manager a.newest b.manager b.newest) (λ _. then (drops a) (collects (dropped a))) (λ _. none a.manager a.newest)

sends_one : (request : Option Outgoing) → Calls (sent_one request)
sends_one None a = none a.manager a.newest
sends_one (Some request) a = none a.manager a.newest

sends_once : Calls one_sent
sends_once a = sends_one (after_send a.time a.window).request (record a { window = (after_send a.time a.window).window })

sends : Calls sent
sends a =
    cond_both _ _ _ (λ (b : Acting). Goes a.manager a.newest b.manager b.newest) (λ _. none a.manager a.newest)
    (λ _. repeats a.window.limits.outstanding one_sent sends_once a)

-- what a manager is told -----------------------------------------------------------------------------

works : Calls worked
works a =
    let caught = caught_up a in
    let stop = stopped caught in
    let late = all_overdue stop in
    let again = caught_up late in
    then (catches_up a) (then (stops caught) (then (repeats (length stop.window.outs) one_overdue overdue_once stop)
    (then (catches_up late) (then (acts_if_idle again) (sends (acted_if_idle again))))))

tells_time : (time : ℕ) → Calls (told_time time)
tells_time time a = cond_both _ _ _ (λ (b : Acting). Goes a.manager a.newest b.manager b.newest) (λ _. none a.manager a.newest) (λ _. none a.manager a.newest)

leaves : Calls leaving
leaves a =
    cond_both a.is_leaving _ _ (λ (b : Acting). Goes a.manager a.newest b.manager b.newest) (λ _. none a.manager a.newest)
    (λ _. cond_both (is_sweeping a.policy.activity) _ _ (λ (b : Acting). Goes a.manager a.newest b.manager b.newest) (λ _. none a.manager a.newest)
    (λ _. one a.manager a.newest Call.Yield))

takes : (what : Told) → Calls (taken what)
takes Told.Time a = none a.manager a.newest
takes (Told.Packet bytes from) a = hears_by bytes from (fault_of bytes) a
takes Told.Look a = none a.manager a.newest
takes Told.Leave a = leaves a

tells : (time : ℕ) (what : Told) → Calls (after_told time what)
tells time what a = then (tells_time time a) (then (takes what (told_time time a)) (works (taken what (told_time time a))))

all_tell : (told : List (ℕ × Told)) → Calls (after_all_told told)
all_tell [] a = none a.manager a.newest
all_tell (told ∷ later) a = then (tells told.0 told.1 a) (all_tell later (after_told told.0 told.1 a))

pub acts_are_calls : ActsAreCalls
acts_are_calls a told = (all_tell told a).calls

pub generations_rise : GenerationsRise
generations_rise a told h = ((all_tell told a).rises h).0
