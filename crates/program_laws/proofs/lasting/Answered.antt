-- A sweep of which nothing was given up has every answer, whatever else comes.
use Rattle.std.proofs.Common.{◌≡◌, ◌∙◌, ◌⊎◌, ◌++◌, inl, inr, ℕ, Bool, true, false, cond, List, [], ◌∷◌, Option, None, Some, refl, sym, ap, subst}
use Rattle.std.proofs.lemmas.Bool.{and_from, cond_both, cond-true, cond-false, eq-eqb, not-false, or_parts}
use Rattle.std.specs.List.{list_any}
use Rattle.std.specs.Prelude.{◌||◌, ◌==◌, Result, Ok, Err, is_none}
use Rattle.smp_bytes.specs.Packet.{fault_of, status}
use Rattle.smp_bytes.specs.declared.smp_fault.SmpFault.{SmpFault}
use Rattle.sm_state.specs.declared.event.Message.{Message}
use Rattle.sm_state.specs.declared.state.SmState.{SmState}
use Rattle.sweep.specs.Replies.{after_reply_to, judged, request_of}
use Rattle.sweep.specs.Sweep.{Sweep, is_done}
use Rattle.sweep.specs.declared.answer.Answer.{Answer}
use Rattle.sweep.specs.declared.fault.SweepFault.{SweepFault}
use Rattle.sweep.specs.declared.request.Request.{Request}
use Rattle.sm_manager.specs.CallLists.{Call, after_call}
use Rattle.sm_manager.specs.Election.{after_message, poll_fault, yield_fault}
use Rattle.sm_manager.specs.Manager.{Manager, Writing, after_begin_sweep, begin_fault, is_running, progress_of, silent_in}
use Rattle.sm_manager.specs.ManagerRequests.{counts, no_step_waits, without_number}
use Rattle.sm_manager.specs.Packets.{Called, after_request, answered_by, done, is_for_sweep, is_info_request, packet_taken, pending_for}
use Rattle.sm_manager.specs.Packets.{refused, request_answered, sweep_answered, unless_spent}
use Rattle.sm_manager.specs.SmInfoAnswers.{controlled, is_control, replying, served}
use Rattle.sm_manager.specs.Traps.{represses, repressing}
use Rattle.sm_manager.specs.Writing.{after_step, is_done_by, is_spent, noted, phase_sent, went_on_with}
use Rattle.sm_manager.specs.declared.fault.ManagerFault.{ManagerFault}
use Rattle.sm_manager.specs.declared.fault.ManagerFault.TheVariants.{SequenceSpent}
use Rattle.sm_manager.specs.declared.pending.Pending.{Pending}
use Rattle.sm_manager.specs.declared.pending.Purpose.{Purpose}
use Rattle.sm_manager.specs.declared.pending.Purpose.TheVariants as purpose
use Rattle.sm_manager.specs.declared.progress.Progress.TheVariants.{Done, Running}
use Rattle.sm_manager.specs.declared.way.Way.{Way}
use Rattle.sm_policy.specs.Judged.{failed}
use Rattle.sm_policy.specs.Policy.{announced_every, in_state, is_sweeping, later_by, moved, still, sweeps_first, wanting}
use Rattle.sm_policy.specs.Resting.{call_due, is_due, poll_due, rested, sweep_due, sweeping}
use Rattle.sm_policy.specs.declared.act.Act.TheVariants as act
use Rattle.sm_policy.specs.declared.activity.Activity.{Activity}
use Rattle.sm_policy.specs.declared.activity.Activity.TheVariants as activity
use Rattle.sm_policy.specs.declared.policy.Policy.{Policy}
use Rattle.acting_manager.specs.Acting.{Acting, caught_up, collected}
use Rattle.acting_manager.specs.Acts.{acted, acted_in, decided, done_by, floor_raised, is_whole_by, left_in}
use Rattle.acting_manager.specs.Working.{acted_if_idle, is_idle, is_writing, sent, yielding_at_once}
use Rattle.acting_manager.specs.declared.note.Note.{Note}
use Rattle.acting_manager.specs.declared.note.Note.TheVariants.{GivenUp, Paused, State}
use Rattle.program_laws.specs.ManagedEnds.{StaysAbout}
use Rattle.program_laws.specs.Wakes.{HasDecided, Line, NoneLeaves, after_line, after_lines, before_deciding}
use Rattle.program_laws.specs.WholeSweeps.{AnsweredSweepsAreWhole, NothingGivenUp, tells_loss, too_far_in}
use Rattle.program_laws.proofs.lasting.Notes.{any_last, decides_note}
use Rattle.program_laws.proofs.lasting.Told.{Lasts, Of, Property, lasts_until, sends}
use Rattle.program_laws.proofs.wakes.AtSeats.{lines_both}
use Rattle.program_laws.proofs.wakes.Awaited.{sweeps_lose_nothing}
use Rattle.program_laws.proofs.wakes.Deciding.{caught_about, sent_about, sweep_past, writing_past}
use Rattle.program_laws.proofs.wakes.Sending.{only_sends}
use Rattle.program_laws.proofs.wakes.Waking.{looked_manager}

-- no request of the sweep timed out
abbrev pub LostNone : Option Sweep → Type 0
LostNone None = ⊥
LostNone (Some s) = (s.unanswered ≡ 0) × (s.silent_managers ≡ 0)

-- packets --------------------------------------------------------------------------------------------------

module _ (m : Manager) (lost : LostNone m.sweep) where
  abbrev Keeps : Called → Type 0
  Keeps c = LostNone c.manager.sweep

  told_none : (x : Manager) (way : Option Way) (message : Option Message) → LostNone x.sweep → LostNone (after_message x way message).sweep
  told_none x None message l = l
  told_none x (Some way) None l = l
  told_none x (Some way) (Some message) l = l

  serves : (bytes : List ℕ) (from : Option ℕ) → Keeps (unless_spent m (served m bytes from))
  serves bytes from =
      cond_both (is_spent (served m bytes from)) (refused m SequenceSpent) (done (served m bytes from)) Keeps (λ _. lost)
      (λ _. cond_both (is_control m.standing bytes) (controlled m bytes from) (replying m bytes from) (λ (x : Manager). LostNone x.sweep)
      (λ _. told_none _ _ _ lost) (λ _. lost))

  replied : (s : Sweep) (bytes : List ℕ) (r : Option Request) → LostNone (Some s) → LostNone (Some (after_reply_to s bytes r))
  replied s bytes None l = l
  replied s bytes (Some r) l = l

  sweeps : (bytes : List ℕ) (o : Option Sweep) → LostNone o → Keeps (sweep_answered m bytes o)
  sweeps bytes None l = lost
  sweeps bytes (Some s) l = by_judged (judged s bytes)
    where
      by_judged : (r : Result Answer SweepFault) → Keeps (answered_by m s bytes r)
      by_judged (Ok answer) = let now = replied s bytes (request_of s bytes) l in (now.0, now.1)
      by_judged (Err why) = lost

  steps : (p : Pending) (was_done : Bool) → LostNone (after_step m p was_done).sweep
  steps p was_done = by_writing (noted (counts p) was_done m.writing)
    where
      x : Manager
      x = record m { pending = without_number p.number m.pending; writing = noted (counts p) was_done m.writing }

      by_writing : (o : Option Writing) → LostNone (went_on_with x o).sweep
      by_writing None = lost
      by_writing (Some w) = cond_both (no_step_waits x.pending) (phase_sent x w) x (λ (y : Manager). LostNone y.sweep) (λ _. lost) (λ _. lost)

  ends : (p : Pending) (answer : Option ℕ) (u : Purpose) → Keeps (after_request m p answer u)
  ends p answer purpose.Poll = lost
  ends p answer purpose.Control = lost
  ends p answer (purpose.Step c) =
      cond_both (is_spent (after_step m p (is_done_by answer))) (refused m SequenceSpent) (done (after_step m p (is_done_by answer))) Keeps
      (λ _. lost) (λ _. steps p (is_done_by answer))

  by_pending : (bytes : List ℕ) (o : Option Pending) → Keeps (request_answered m bytes o)
  by_pending bytes None = lost
  by_pending bytes (Some p) = ends p (Some (status bytes)) p.purpose

  by_fault : (bytes : List ℕ) (from : Option ℕ) (fault : Option SmpFault) → Keeps (packet_taken m bytes from fault)
  by_fault bytes from (Some why) = lost
  by_fault bytes from None =
      cond_both (is_info_request bytes) (unless_spent m (served m bytes from)) _ Keeps (λ _. serves bytes from)
      (λ _. cond_both (represses m bytes) (done (repressing m bytes from)) _ Keeps (λ _. lost)
      (λ _. cond_both (is_for_sweep bytes) (sweep_answered m bytes m.sweep) (request_answered m bytes (pending_for m bytes)) Keeps
      (λ _. sweeps bytes m.sweep lost) (λ _. by_pending bytes (pending_for m bytes))))

  pub packet_none : (bytes : List ℕ) (from : Option ℕ) → LostNone (after_call m (Call.Packet bytes from)).sweep
  packet_none bytes from = by_fault bytes from (fault_of bytes)

-- while it sweeps --------------------------------------------------------------------------------------------

-- the manager sweeps, and no request of its sweep timed out unless it noted that
record IsHeard (m : Manager) (p : Policy) (notes : List Note) : Type 0 where
  sweeps : is_sweeping p.activity ≡ true
  heard : list_any tells_loss notes ≡ false → LostNone m.sweep

abbrev Heard : Property
Heard m p kept notes leaves = IsHeard m p notes

one_more : (m : Manager) (p q : Policy) (notes : List Note) (note : Note) → q.activity ≡ p.activity → IsHeard m p notes → IsHeard m q (notes ++ note ∷ [])
one_more m p q notes note about h =
    record {
      sweeps = ap is_sweeping about ∙ h.sweeps;
      heard = λ none. h.heard (or_parts (list_any tells_loss notes) (tells_loss note) (sym (any_last tells_loss notes note) ∙ none)).0;
    }

-- what sweeps does not write
no_writing : {X : Type 0} (what : Activity) → is_sweeping what ≡ true → is_writing what ≡ true → X
no_writing activity.Rests s w = absurd (cc)
no_writing activity.Sweeps s w = absurd (cc)
no_writing activity.Writes s w = absurd (cc)
no_writing activity.Hands s w = absurd (cc)

heard_lasts : Lasts Heard
heard_lasts =
    record {
      gives = λ a h. record { sweeps = h.sweeps; heard = h.heard };
      hears = λ a bytes from h. record { sweeps = h.sweeps; heard = λ none. packet_none a.manager (h.heard none) bytes from };
      gives_up = λ a request h. record {
        sweeps = h.sweeps;
        heard = λ none.
            let wrong = (or_parts (list_any tells_loss a.notes) true (sym (any_last tells_loss a.notes (GivenUp request.packet)) ∙ none)).1 in
            absurd (cc);
      };
      drops = λ a request writes h. no_writing a.policy.activity h.sweeps writes;
      wants = λ a h. record { sweeps = h.sweeps; heard = h.heard };
      polls = λ a is_master h. record { sweeps = h.sweeps; heard = h.heard };
      is_taken = λ a h. record { sweeps = h.sweeps; heard = h.heard };
      enters = λ a state h. one_more a.manager a.policy (moved a.time state a.policy) a.notes (State state) (entered_about a.time state a.policy) h;
      pauses = λ a time h. one_more a.manager a.policy _ a.notes Paused refl h;
      leaves = λ a h.
          cond_both a.is_leaving a _ (Of Heard) (λ _. h)
          (λ _. cond_both (is_sweeping a.policy.activity) (record a { is_leaving = true }) (yielding_at_once (record a { is_leaving = true })) (Of Heard)
          (λ _. record { sweeps = h.sweeps; heard = h.heard })
          (λ e. let wrong : true ≡ false = sym h.sweeps ∙ e in absurd (cc)));
    }
  where
    entered_about : (now : ℕ) (state : SmState) (p : Policy) → (moved now state p).activity ≡ p.activity
    entered_about now state p =
        cond_both (sweeps_first state p.activity) (wanting (in_state now state p)) (in_state now state p) (λ (q : Policy). q.activity ≡ p.activity)
        (λ _. refl) (λ _. refl)

-- a sweep that begins ------------------------------------------------------------------------------------------

-- the manager does not sweep, or no request of its sweep timed out
abbrev IsFresh : Acting → Type 0
IsFresh a = (is_sweeping a.policy.activity ≡ false) ⊎ LostNone a.manager.sweep

begins_fresh : (a : Acting) → IsFresh (done_by act.Sweep a)
begins_fresh a = by_begin (begin_fault (floor_raised a).manager)
  where
    m : Manager
    m = (floor_raised a).manager

    by_begin : (o : Option ManagerFault)
        → (is_sweeping (cond (is_none o) a.policy (failed a.time a.policy)).activity ≡ false) ⊎ LostNone (cond (is_none o) (after_begin_sweep m) m).sweep
    by_begin None = inr (refl, refl)
    by_begin (Some why) = inl refl

rested_fresh : (a : Acting) → a.policy.activity ≡ activity.Rests → IsFresh (decided (rested a.time a.policy) a)
rested_fresh a rests = by_due (is_due a.time (poll_due a.policy)) (is_due a.time (call_due a.policy)) (is_due a.time (sweep_due a.policy))
  where
    quiet : is_sweeping a.policy.activity ≡ false
    quiet = ap is_sweeping rests

    by_due : (poll call sweep : Bool) → IsFresh (decided
        (cond poll (record { policy = record a.policy { next_poll = later_by a.policy.timing.poll a.time }; act = act.Poll })
        (cond call (record { policy = record a.policy { next_call = later_by announced_every a.time }; act = act.Announce })
        (cond sweep (record { policy = sweeping a.time a.policy; act = act.Sweep }) (still a.policy)))) a)
    by_due true call sweep =
        inl (cond_both (is_none (poll_fault a.manager None)) _ _ (λ (p : Policy). is_sweeping p.activity ≡ false) (λ _. quiet) (λ _. quiet))
    by_due false true sweep = inl quiet
    by_due false false true = begins_fresh (record a { policy = sweeping a.time a.policy })
    by_due false false false = inl quiet

acted_fresh : (what : Activity) (a : Acting) → a.policy.activity ≡ what → IsFresh (acted_in what a)
acted_fresh activity.Rests a e = rested_fresh a e
acted_fresh activity.Sweeps a e = inl (sweep_past is_sweeping refl refl refl a)
acted_fresh activity.Writes a e = inl (writing_past is_sweeping refl refl a)
acted_fresh activity.Hands a e = inl refl

handing_quiet : (flag : Bool) → is_sweeping (cond flag activity.Hands activity.Rests) ≡ false
handing_quiet true = refl
handing_quiet false = refl

left_quiet : (what : Activity) (a : Acting) → a.policy.activity ≡ what → is_sweeping (left_in what a).policy.activity ≡ false
left_quiet activity.Rests a e = ap is_sweeping e
left_quiet activity.Sweeps a e = handing_quiet (is_none (yield_fault a.manager))
left_quiet activity.Writes a e = ap is_sweeping e
left_quiet activity.Hands a e = refl

acts_fresh : (a : Acting) → IsFresh (acted a)
acts_fresh a =
    cond_both a.is_leaving (left_in a.policy.activity a) (acted_in a.policy.activity a) IsFresh (λ _. inl (left_quiet a.policy.activity a refl))
    (λ _. acted_fresh a.policy.activity a refl)

-- a manager that decides while it sweeps does not go on with that
acts_past : (a : Acting) → is_sweeping a.policy.activity ≡ true → is_sweeping (acted a).policy.activity ≡ false
acts_past a sweeps =
    cond_both a.is_leaving (left_in a.policy.activity a) (acted_in a.policy.activity a) (λ (b : Acting). is_sweeping b.policy.activity ≡ false)
    (λ _. left_quiet a.policy.activity a refl) (λ _. by_activity a.policy.activity refl)
  where
    by_activity : (what : Activity) → a.policy.activity ≡ what → is_sweeping (acted_in what a).policy.activity ≡ false
    by_activity activity.Sweeps e = sweep_past is_sweeping refl refl refl a
    by_activity activity.Rests e = let wrong : true ≡ false = sym sweeps ∙ ap is_sweeping e in absurd (cc)
    by_activity activity.Writes e = let wrong : true ≡ false = sym sweeps ∙ ap is_sweeping e in absurd (cc)
    by_activity activity.Hands e = let wrong : true ≡ false = sym sweeps ∙ ap is_sweeping e in absurd (cc)

-- lines ----------------------------------------------------------------------------------------------------------

-- what the manager is about after it decided
about_then : (x : Acting) → (sent (caught_up (acted x))).policy.activity ≡ (acted x).policy.activity
about_then x = sent_about (caught_up (acted x)) ∙ caught_about (acted x)

sweep_then : (x : Acting) → (sent (caught_up (acted x))).manager.sweep ≡ (acted x).manager.sweep
sweep_then x =
    ap (λ (m : Manager). m.sweep) (only_sends (caught_up (acted x))).manager ∙ ap (λ (m : Manager). m.sweep) (looked_manager (collected (acted x)))

-- after the line by which it begins
begun_none : (line : Line) (a : Acting) → is_idle (before_deciding line a).window ≡ true → is_sweeping (after_line line a).policy.activity ≡ true
    → LostNone (after_line line a).manager.sweep
begun_none line a idle sweeps =
    let decided_is = cond-true (is_idle x.window) (caught_up (acted x)) x idle in
    subst (λ (y : Acting). LostNone (sent y).manager.sweep) (sym decided_is)
    (subst LostNone (sym (sweep_then x)) (elim (acts_fresh x) [
      | inl quiet ↦
          let wrong : true ≡ false =
          sym sweeps ∙ ap (λ (y : Acting). is_sweeping (sent y).policy.activity) decided_is ∙ ap is_sweeping (about_then x) ∙ quiet in
          absurd (cc)
      | inr none ↦ none
    ]))
  where
    x : Acting
    x = before_deciding line a

abbrev SweepsWell : Acting → Type 0
SweepsWell a = (is_sweeping a.policy.activity ≡ true) × LostNone a.manager.sweep

heard_from : (a : Acting) → SweepsWell a → Of Heard a
heard_from a s = record { sweeps = s.0; heard = λ none. s.1 }

-- through a line
line_none : (line : Line) (a : Acting) → SweepsWell a → list_any tells_loss (sent (acted_if_idle (before_deciding line a))).notes ≡ false
    → is_sweeping (after_line line a).policy.activity ≡ true → SweepsWell (after_line line a)
line_none line a s none sweeps = by_idle (is_idle x.window) refl
  where
    x : Acting
    x = before_deciding line a

    ready : Of Heard x
    ready = lasts_until Heard heard_lasts line a (heard_from a s)

    by_idle : (b : Bool) → is_idle x.window ≡ b → SweepsWell (after_line line a)
    by_idle true idle =
        let decided_is = cond-true (is_idle x.window) (caught_up (acted x)) x idle in
        let wrong : true ≡ false =
        sym sweeps ∙ ap (λ (y : Acting). is_sweeping (sent y).policy.activity) decided_is ∙ ap is_sweeping (about_then x) ∙ acts_past x ready.sweeps in
        absurd (cc)
    by_idle false busy =
        let waits_is = cond-false (is_idle x.window) (caught_up (acted x)) x busy in
        let after = sends Heard heard_lasts x ready in (
          sweeps,
          subst (λ (y : Acting). LostNone (sent y).manager.sweep) (sym waits_is)
              (after.heard (ap (λ (y : Acting). list_any tells_loss (sent y).notes) (sym waits_is) ∙ none)),
        )

pub given_parts : (during : List Line) (ends : Line) (a : Acting) → NothingGivenUp (during ++ ends ∷ []) a
    → NothingGivenUp during a × (list_any tells_loss (sent (acted_if_idle (before_deciding ends (after_lines during a)))).notes ≡ false)
given_parts [] ends a none = (tt, none.0)
given_parts (line ∷ during) ends a none = let rest = given_parts during ends (after_line line a) none.1 in ((none.0, rest.0), rest.1)

lines_none : (lines : List Line) (a : Acting) → SweepsWell a → NothingGivenUp lines a → StaysAbout is_sweeping lines a → SweepsWell (after_lines lines a)
lines_none [] a s none goes_on = s
lines_none (line ∷ lines) a s none goes_on = lines_none lines (after_line line a) (line_none line a s none.0 goes_on.0) none.1 goes_on.1

-- the manager noted that it gave up a request
abbrev IsLost : List Note → Type 0
IsLost notes = list_any tells_loss notes ≡ true

more_lost : (notes : List Note) (note : Note) → IsLost notes → IsLost (notes ++ note ∷ [])
more_lost notes note lost = any_last tells_loss notes note ∙ ap (λ b. b || tells_loss note) lost

-- when it decides, it takes no note back
pub noted_before : (x : Acting) → list_any tells_loss (sent (acted_if_idle x)).notes ≡ false → list_any tells_loss x.notes ≡ false
noted_before x none = by (list_any tells_loss x.notes) refl
  where
    by : (b : Bool) → list_any tells_loss x.notes ≡ b → list_any tells_loss x.notes ≡ false
    by false e = e
    by true e =
        let still = decides_note IsLost (λ notes note plain lost. more_lost notes note lost) x (λ judges notes ports lost. more_lost notes _ lost) e in
        let wrong : true ≡ false = sym still ∙ none in
        absurd (cc)

pub none_both : (first later : List Line) → NoneLeaves first → NoneLeaves later → NoneLeaves (first ++ later)
none_both [] later none more = more
none_both (line ∷ first) later none more = (none.0, none_both first later none.1 more)

-- the end of a sweep -----------------------------------------------------------------------------------------------

all_whole : (o : Option Sweep) → LostNone o → is_running o ≡ false → too_far_in o ≡ 0 → is_whole_by (progress_of o) (silent_in o) ≡ true
all_whole None lost over near = absurd lost
all_whole (Some s) lost over near =
    ap (λ b. is_whole_by (cond b (Done s.unanswered s.too_far) (Running s.unanswered s.too_far)) (Some s.silent_managers)) (not-false (is_done s) over)
    ∙ and_from (s.unanswered == s.silent_managers) (s.too_far == 0) (eq-eqb s.unanswered s.silent_managers (lost.0 ∙ sym lost.1))
    (eq-eqb s.too_far 0 near)

pub answered_sweeps_are_whole : AnsweredSweepsAreWhole
answered_sweeps_are_whole first begins a during ends s nothing near =
    let swept : SweepsWell a = (
      s.sweeps,
      subst (λ (x : Acting). LostNone x.manager.sweep) s.leads
          (begun_none begins first s.decides (ap (λ (x : Acting). is_sweeping x.policy.activity) s.leads ∙ s.sweeps)),
    ) in
    let given = given_parts during ends a nothing in
    let last = lines_none during a swept given.0 s.goes_on in
    let ready = lasts_until Heard heard_lasts ends b (heard_from b last) in
    all_whole x.manager.sweep (ready.heard (noted_before x given.1)) (sweeps_lose_nothing b ends decided s.generations none_left s.remains s.over) near
  where
    b : Acting
    b = after_lines during a

    x : Acting
    x = before_deciding ends b

    decided : HasDecided b
    decided =
        let h = s.decided in
        record {
          port_guid = h.port_guid;
          port = h.port;
          priority = h.priority;
          conduct = h.conduct;
          planning = h.planning;
          timing = h.timing;
          limits = h.limits;
          newest = h.newest;
          lines = h.lines ++ begins ∷ during;
          are = lines_both h.lines (begins ∷ during) _ ∙ ap (after_lines (begins ∷ during)) h.are ∙ ap (after_lines during) s.leads;
        }

    none_left : NoneLeaves (s.decided.lines ++ begins ∷ during)
    none_left = none_both s.decided.lines (begins ∷ during) s.none_left (s.stays, s.none_leaves)
