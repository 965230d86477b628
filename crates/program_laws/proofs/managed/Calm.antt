-- Before a manager that decides by itself acts, and after, it begins nothing: what it is about changes only to rest, or to
-- a handover.
use Rattle.std.proofs.Common.{◌≡◌, ◌∙◌, ℕ, zero, suc, Bool, true, false, List, Option, None, Some, length, refl, sym, subst}
use Rattle.std.specs.Prelude.{◌&&◌, ◌==◌, if◌then◌else◌, is_none, max}
use Rattle.smp_bytes.specs.Packet.{fault_of, is_response}
use Rattle.smp_bytes.specs.declared.smp_fault.SmpFault.{SmpFault}
use Rattle.sm_state.specs.State.{number_of_state}
use Rattle.sm_state.specs.declared.state.SmState.{SmState}
use Rattle.sm_manager.specs.CallLists.{Call, after_call}
use Rattle.sm_manager.specs.Manager.{emptied}
use Rattle.sm_manager.specs.Packets.{after_packet}
use Rattle.sm_manager.specs.declared.outgoing.Outgoing.{Outgoing}
use Rattle.sm_manager.specs.Election.{yield_fault}
use Rattle.sm_policy.specs.Policy.{in_state, is_master, is_sweeping, moved, polled, sweeps_first, taken_over, wanting}
use Rattle.sm_policy.specs.declared.activity.Activity.{Activity}
use Rattle.sm_policy.specs.declared.activity.Activity.TheVariants.{Rests, Sweeps, Writes, Hands}
use Rattle.sm_policy.specs.declared.policy.Policy.{Policy}
use Rattle.request_window.specs.Window.{after_answer, after_drop_out, after_drop_queued, after_overdue, after_send, late_in}
use Rattle.request_window.specs.declared.late.Late.{Late}
use Rattle.request_window.specs.declared.late.Late.TheVariants.{Again, GivenUp}
use Rattle.acting_manager.specs.Acting.{Acting, caught_up, collected, entered, looked, noted}
use Rattle.acting_manager.specs.declared.note.Note.TheVariants.{State}
use Rattle.acting_manager.specs.Heard.{answered, answers_poll, asked, given_up, handed_in, hands_over, says_master, tells_change, told, heard_by, policy_after, policy_asked, requested, responded}
use Rattle.acting_manager.specs.Working.{Told, all_overdue, all_sent, dropped, dropped_one, late_done, leaving, one_overdue, one_sent}
use Rattle.acting_manager.specs.Working.{is_given_up, out_dropped, paused_until, stood_still, wake_of, yielding_at_once, queued_dropped, repeated, sent, sent_one, stopped, taken, told_time}
use Rattle.program_laws.proofs.lasting.Standing.{StandsOn}
use Rattle.program_laws.proofs.managed.Going.{readied}

-- either case of a condition
cases : {A : Type 0} (b : Bool) (x y : A) (P : A → Type 0) → P x → P y → P (if b then x else y)
cases true x y P p q = p
cases false x y P p q = q

-- nothing was begun: a sweep or a writing that runs ran before
abbrev pub NoMore : Activity → Activity → Type 0
NoMore was Rests = Unit {0}
NoMore was Sweeps = was ≡ Sweeps
NoMore was Writes = was ≡ Writes
NoMore was Hands = Unit {0}

pub as_before : (was now : Activity) → now ≡ was → NoMore was now
as_before was Rests e = tt
as_before was Sweeps e = sym e
as_before was Writes e = sym e
as_before was Hands e = tt

no_more : (was between now : Activity) → NoMore was between → NoMore between now → NoMore was now
no_more was between Rests p q = tt
no_more was between Sweeps p q = subst (NoMore was) q p
no_more was between Writes p q = subst (NoMore was) q p
no_more was between Hands p q = tt

-- nothing was begun, no generation was used, and a plan that stands stood before
pub record Calm (a b : Acting) : Type 0 where
  pub activity : NoMore a.policy.activity b.policy.activity
  pub newest : b.newest ≡ a.newest
  pub stands : StandsOn a.policy b.policy

pub thus : (a b c : Acting) → Calm a b → Calm b c → Calm a c
thus a b c p q = record {
  activity = no_more a.policy.activity b.policy.activity c.policy.activity p.activity q.activity;
  newest = q.newest ∙ p.newest;
  stands = λ e. p.stands (q.stands e);
}

pub calmly : (a b : Acting) → b.policy.activity ≡ a.policy.activity → b.newest ≡ a.newest → StandsOn a.policy b.policy → Calm a b
calmly a b activity newest stands =
    record { activity = as_before a.policy.activity b.policy.activity activity; newest = newest; stands = stands }

-- the same policy
pub stands_same : (p : Policy) → StandsOn p p
stands_same p e = e

itself : (a : Acting) → Calm a a
itself a = calmly a a refl refl (stands_same a.policy)

-- policies ---------------------------------------------------------------------------------------

-- a policy that is about the same, and by which no more stands
record IsAbout (p q : Policy) : Type 0 where
  pub is : q.activity ≡ p.activity
  pub stands : StandsOn p q

about_itself : (p : Policy) → IsAbout p p
about_itself p = record { is = refl; stands = stands_same p }

-- nothing stands any longer
forgotten_about : (p q : Policy) → q.activity ≡ p.activity → q.written.stands ≡ false → IsAbout p q
forgotten_about p q is none = record { is = is; stands = λ e. let wrong : true ≡ false = sym e ∙ none in absurd (cc) }

moved_about : (now : ℕ) (state : SmState) (p : Policy) → IsAbout p (moved now state p)
moved_about now state p =
    cases (sweeps_first state p.activity) (wanting (in_state now state p)) (in_state now state p) (IsAbout p)
    (forgotten_about p (wanting (in_state now state p)) refl refl) (forgotten_about p (in_state now state p) refl refl)

told_about : (packet : List ℕ) (p : Policy) → IsAbout p (policy_after packet p)
told_about packet p =
    cases (answers_poll packet) (polled (says_master packet) p) p (IsAbout p) (record { is = refl; stands = λ e. e }) (about_itself p)

asked_about : (packet : List ℕ) (is_master : Bool) (p : Policy) → IsAbout p (policy_asked packet is_master p)
asked_about packet is_master p =
    cases (tells_change packet) (wanting p) (if hands_over packet && is_master then taken_over p else p) (IsAbout p) (record { is = refl; stands = λ e. e })
    (cases (hands_over packet && is_master) (taken_over p) p (IsAbout p) (forgotten_about p (taken_over p) refl refl) (about_itself p))

-- steps ------------------------------------------------------------------------------------------

abbrev IsCalm : (Acting → Acting) → Type 0
IsCalm step = (a : Acting) → Calm a (step a)

looks : IsCalm looked
looks a =
    let state = a.manager.standing.state in
    cases (number_of_state state == number_of_state a.policy.state) a (entered state a) (Calm a) (itself a)
    (let moved = moved_about a.time a.manager.standing.state a.policy in calmly a (entered state a) moved.is refl moved.stands)

pub catches_up : IsCalm caught_up
catches_up a = thus a (collected a) (caught_up a) (calmly a (collected a) refl refl (λ e. e)) (looks (collected a))

repeats : (n : ℕ) (step : Acting → Acting) → IsCalm step → IsCalm (repeated n step)
repeats zero step each a = itself a
repeats (suc n) step each a = thus a (repeated n step a) (step (repeated n step a)) (repeats n step each a) (each (repeated n step a))

-- packets ----------------------------------------------------------------------------------------

hands_in : (request : Outgoing) (packet : List ℕ) (is_taken : Bool) → IsCalm (handed_in request packet is_taken)
hands_in request packet is_taken a =
    cases is_taken (told packet a) (given_up request a) (Calm a) (calmly a (told packet a) (told_about packet a.policy).is refl (told_about packet a.policy).stands)
    (calmly a (given_up request a) refl refl (λ e. e))

answers : (request : Option Outgoing) (packet : List ℕ) (from : Option ℕ) → IsCalm (answered request packet from)
answers None packet from a = itself a
answers (Some request) packet from a =
    let b = record a { manager = after_call a.manager (Call.Packet packet from) } in
    thus a b _ (calmly a b refl refl (λ e. e)) (hands_in request packet (is_none (after_packet a.manager packet from).fault) b)

responds : (packet : List ℕ) (from : Option ℕ) → IsCalm (responded packet from)
responds packet from a =
    let b = record a { window = (after_answer packet a.window).window } in
    thus a b _ (calmly a b refl refl (λ e. e)) (answers (after_answer packet a.window).request packet from b)

asks : (packet : List ℕ) (from : Option ℕ) → IsCalm (asked packet from)
asks packet from a =
    cases (a.is_leaving && hands_over packet) a (requested packet from a) (Calm a) (itself a)
    (let asked = asked_about packet (is_master a.manager.standing.state) a.policy in calmly a (requested packet from a) asked.is refl asked.stands)

hears_by : (packet : List ℕ) (from : Option ℕ) (fault : Option SmpFault) → IsCalm (heard_by packet from fault)
hears_by packet from (Some fault) a = itself a
hears_by packet from None a =
    cases (is_response packet) (responded packet from a) (asked packet from a) (Calm a) (responds packet from a) (asks packet from a)

-- requests ---------------------------------------------------------------------------------------

is_late : (late : Option Late) → IsCalm (late_done late)
is_late None a = itself a
is_late (Some (Again request)) a = calmly a _ refl refl (λ e. e)
is_late (Some (GivenUp request)) a = calmly a _ refl refl (λ e. e)

overdue_once : IsCalm one_overdue
overdue_once a =
    let b = record a { window = after_overdue a.time a.window } in
    thus a b _ (calmly a b refl refl (λ e. e)) (is_late (late_in a.window.limits a.time a.window.outs).late b)

drops_one : (request : Option Outgoing) → IsCalm (dropped_one request)
drops_one None a = itself a
drops_one (Some request) a = calmly a _ refl refl (λ e. e)

drops_first_queued : IsCalm queued_dropped
drops_first_queued a =
    let b = record a { window = (after_drop_queued a.window).window } in
    thus a b _ (calmly a b refl refl (λ e. e)) (drops_one (after_drop_queued a.window).request b)

drops_first_out : IsCalm out_dropped
drops_first_out a =
    let b = record a { window = (after_drop_out a.window).window } in
    thus a b _ (calmly a b refl refl (λ e. e)) (drops_one (after_drop_out a.window).request b)

drops : IsCalm dropped
drops a =
    let unqueued = repeated (length a.window.queued) queued_dropped a in
    thus a unqueued _ (repeats (length a.window.queued) queued_dropped drops_first_queued a)
    (repeats (length unqueued.window.outs) out_dropped drops_first_out unqueued)

stops : IsCalm stopped
stops a =
    cases (is_given_up a) (collected (dropped a)) a (Calm a)
    (thus a (dropped a) (collected (dropped a)) (drops a) (calmly (dropped a) (collected (dropped a)) refl refl (λ e. e))) (itself a)

pub readies : IsCalm readied
readies a =
    let caught = caught_up a in
    let stop = stopped caught in
    let late = all_overdue stop in
    thus a caught _ (catches_up a) (thus caught stop _ (stops caught)
    (thus stop late _ (repeats (length stop.window.outs) one_overdue overdue_once stop) (catches_up late)))

-- what a manager is told -------------------------------------------------------------------------

tells_time : (time : ℕ) → IsCalm (told_time time)
tells_time time a =
    let now = max time a.time in
    cases (stood_still a.time now (wake_of a)) (paused_until now a) (record a { time = now }) (Calm a)
    (calmly a (paused_until now a) refl refl (forgotten_about a.policy (paused_until now a).policy refl refl).stands)
    (calmly a (record a { time = now }) refl refl (λ e. e))

-- a handover that is asked for is what the manager is about, or it rests
pub hands : (is_out : Bool) (a b : Acting) → b.policy.activity ≡ (if is_out then Hands else Rests) → b.newest ≡ a.newest → StandsOn a.policy b.policy
    → Calm a b
hands true a b e newest stands = record { activity = subst (NoMore a.policy.activity) (sym e) tt; newest = newest; stands = stands }
hands false a b e newest stands = record { activity = subst (NoMore a.policy.activity) (sym e) tt; newest = newest; stands = stands }

leaves : IsCalm leaving
leaves a =
    let b = record a { is_leaving = true } in
    cases a.is_leaving a (if is_sweeping a.policy.activity then b else yielding_at_once b) (Calm a) (itself a)
    (cases (is_sweeping a.policy.activity) b (yielding_at_once b) (Calm a) (calmly a b refl refl (λ e. e))
    (hands (is_none (yield_fault a.manager)) a (yielding_at_once b) refl refl (λ e. e)))

takes : (what : Told) → IsCalm (taken what)
takes Told.Time a = itself a
takes (Told.Packet bytes from) a = hears_by bytes from (fault_of bytes) a
takes Told.Look a = calmly a _ refl refl (λ e. e)
takes Told.Leave a = leaves a

-- until it decides
pub is_ready : (time : ℕ) (what : Told) (a : Acting) → Calm a (readied (taken what (told_time time a)))
is_ready time what a =
    let b = told_time time a in
    thus a b _ (tells_time time a) (thus b (taken what b) _ (takes what b) (readies (taken what b)))

-- sending changes neither the policy nor the manager
pub record SamePolicy (a b : Acting) : Type 0 where
  pub policy : b.policy ≡ a.policy
  pub manager : b.manager ≡ a.manager
  pub newest : b.newest ≡ a.newest

sends_one : (request : Option Outgoing) (a : Acting) → SamePolicy a (sent_one request a)
sends_one None a = record { policy = refl; manager = refl; newest = refl }
sends_one (Some request) a = record { policy = refl; manager = refl; newest = refl }

sends_some : (n : ℕ) (a : Acting) → SamePolicy a (repeated n one_sent a)
sends_some zero a = record { policy = refl; manager = refl; newest = refl }
sends_some (suc n) a =
    let b = repeated n one_sent a in
    let first = sends_some n a in
    let next = sends_one (after_send b.time b.window).request (record b { window = (after_send b.time b.window).window }) in
    record { policy = next.policy ∙ first.policy; manager = next.manager ∙ first.manager; newest = next.newest ∙ first.newest }

pub sends : (a : Acting) → SamePolicy a (sent a)
sends a =
    cases (is_given_up a) a (all_sent a) (SamePolicy a) (record { policy = refl; manager = refl; newest = refl })
    (sends_some a.window.limits.outstanding a)

-- a change of the policy after which the manager is about the same, as many of its sweeps in a row lacked answers, and no
-- more stands
pub record SameCourse (p q : Policy) : Type 0 where
  pub activity : q.activity ≡ p.activity
  pub gaps : q.gaps ≡ p.gaps
  pub timing : q.timing ≡ p.timing
  pub stands : StandsOn p q

-- catching up is one, and takes what the manager has queued
pub record CatchesUp (a b : Acting) : Type 0 where
  pub course : SameCourse a.policy b.policy
  pub manager : b.manager ≡ emptied a.manager
  pub newest : b.newest ≡ a.newest

pub caught : (a : Acting) → CatchesUp a (caught_up a)
caught a =
    let state = a.manager.standing.state in
    let p = in_state a.time state a.policy in
    cases (number_of_state state == number_of_state a.policy.state) (collected a) (entered state (collected a)) (CatchesUp a)
    (record { course = record { activity = refl; gaps = refl; timing = refl; stands = stands_same a.policy }; manager = refl; newest = refl })
    (cases (sweeps_first state a.policy.activity) (wanting p) p
    (λ (q : Policy). CatchesUp a (noted (State state) (record (collected a) { policy = q })))
    (record {
      course = record { activity = refl; gaps = refl; timing = refl; stands = (forgotten_about a.policy (wanting p) refl refl).stands };
      manager = refl;
      newest = refl;
    })
    (record {
      course = record { activity = refl; gaps = refl; timing = refl; stands = (forgotten_about a.policy p refl refl).stands };
      manager = refl;
      newest = refl;
    }))
