-- What is so of each manager that has decided.
use Rattle.std.proofs.Common.{◌≡◌, ◌∙◌, ◌⊎◌, ◌≤◌, Bool, true, false, List, [], ◌∷◌, refl, sym, ap, subst}
use Rattle.std.proofs.lemmas.Bool.{cond_both}
use Rattle.std.specs.Prelude.{Option, Some, None, is_none}
use Rattle.sm_manager.specs.CallLists.{Call, after_call, after_calls}
use Rattle.sm_manager.specs.Election.{after_handover, after_message, after_poll, after_rediscover, after_yield, handed_to, handover_fault, handover_move}
use Rattle.sm_manager.specs.Election.{heir_way, poll_fault, poll_way, polled_by, rediscover_fault, successor_way, yield_fault}
use Rattle.sm_manager.specs.Manager.{IsSentWhole, Manager, after_begin_sweep, begin_fault, taken_of}
use Rattle.sm_manager.specs.PlanFaults.{writing_fault}
use Rattle.sm_manager.specs.Writing.{after_write_steps}
use Rattle.sm_manager.specs.declared.outgoing.Outgoing.{Outgoing}
use Rattle.sm_manager.specs.declared.way.Way.{Way}
use Rattle.sm_state.specs.Standing.{moved_to}
use Rattle.sm_state.specs.declared.event.Message.{Message}
use Rattle.request_window.specs.declared.limits.Limits.{Limits}
use Rattle.acting_manager.specs.Acting.{Acting, caught_up, collected}
use Rattle.acting_manager.specs.Acts.{acted}
use Rattle.acting_manager.specs.Working.{acted_if_idle, all_overdue, is_given_up, is_idle}
use Rattle.acting_manager.specs.Working.{sent, stopped, taken, told_time}
use Rattle.acting_manager.proofs.Reached.{acts_are_calls}
use Rattle.program_laws.specs.Wakes.{AsksForATime, HasDecided, Line, after_line, after_lines}
use Rattle.program_laws.specs.Wakes.{before_deciding}
use Rattle.program_laws.proofs.wakes.Makes.{packet_makes, timeout_makes}
use Rattle.program_laws.proofs.wakes.Waking.{looked_manager}
use Rattle.program_laws.proofs.wakes.Sending.{HasOut, OnlySends, Waits, only_sends, sent_idle, sent_waits}

-- what holds of a manager that has decided -------------------------------------------------------------------------

whole_taken : (m : Manager) (packets : List Outgoing) → IsSentWhole m.sweep → IsSentWhole (taken_of m packets).manager.sweep
whole_taken m [] w = w
whole_taken m (out ∷ packets) w = w

whole_polled : (m : Manager) (way : Option Way) → IsSentWhole m.sweep → IsSentWhole (polled_by m way).sweep
whole_polled m None w = w
whole_polled m (Some way) w = w

whole_told : (m : Manager) (way : Option Way) (message : Option Message) → IsSentWhole m.sweep → IsSentWhole (after_message m way message).sweep
whole_told m None message w = w
whole_told m (Some way) None w = w
whole_told m (Some way) (Some message) w = w

whole_handed : (m : Manager) (way : Option Way) → IsSentWhole m.sweep → IsSentWhole (handed_to m way).sweep
whole_handed m way w = whole_told (record m { standing = moved_to (handover_move m).state m.standing }) way (handover_move m).message w

-- a sweep has sent what it asks, after any call
whole_call : (m : Manager) (call : Call) → IsSentWhole m.sweep → IsSentWhole (after_call m call).sweep
whole_call m Call.BeginSweep w =
    cond_both (is_none (begin_fault m)) (after_begin_sweep m) m (λ (x : Manager). IsSentWhole x.sweep) (λ _. refl) (λ _. w)
whole_call m Call.WriteSteps w =
    cond_both (is_none (writing_fault m)) (after_write_steps m) m (λ (x : Manager). IsSentWhole x.sweep) (λ _. w) (λ _. w)
whole_call m Call.Take w = whole_taken m m.outgoing w
whole_call m (Call.Packet bytes from) w = (packet_makes m w bytes from).whole
whole_call m (Call.Timeout transaction) w = (timeout_makes m w transaction).whole
whole_call m (Call.Raise floor) w = w
whole_call m (Call.Merge floor sightings) w = w
whole_call m (Call.Poll lid) w =
    cond_both (is_none (poll_fault m lid)) (after_poll m lid) m (λ (x : Manager). IsSentWhole x.sweep) (λ _. whole_polled m (poll_way m lid) w) (λ _. w)
whole_call m Call.Handover w =
    cond_both (is_none (handover_fault m)) (after_handover m) m (λ (x : Manager). IsSentWhole x.sweep) (λ _. whole_handed m (successor_way m) w) (λ _. w)
whole_call m Call.Yield w =
    cond_both (is_none (yield_fault m)) (after_yield m) m (λ (x : Manager). IsSentWhole x.sweep) (λ _. whole_handed m (heir_way m) w) (λ _. w)
whole_call m Call.Rediscover w =
    cond_both (is_none (rediscover_fault m)) (after_rediscover m) m (λ (x : Manager). IsSentWhole x.sweep) (λ _. w) (λ _. w)

whole_calls : (calls : List Call) (m : Manager) → IsSentWhole m.sweep → IsSentWhole (after_calls calls m).sweep
whole_calls [] m w = w
whole_calls (call ∷ calls) m w = whole_calls calls (after_call m call) (whole_call m call w)

-- what is so of each manager that has decided
pub record IsSettled (a : Acting) : Type 0 where
  pub whole : IsSentWhole a.manager.sweep
  pub given : a.manager.outgoing ≡ []
  pub asks : a.is_leaving ≡ false → is_idle a.window ≡ false → 1 ≤ a.window.limits.outstanding → AsksForATime a
  pub out : a.is_leaving ≡ false → is_idle a.window ≡ false → 1 ≤ a.window.limits.outstanding → (is_given_up a ≡ true) ⊎ HasOut a

pub caught_given : (a : Acting) → (caught_up a).manager.outgoing ≡ []
caught_given a = ap (λ (m : Manager). m.outgoing) (looked_manager (collected a))

-- what the manager queued is given out before it decides
pub settled_given : (line : Line) (a : Acting) → (before_deciding line a).manager.outgoing ≡ []
settled_given line a = caught_given (all_overdue (stopped (caught_up (taken line.1 (told_time line.0 a)))))

settled_line : (line : Line) (a : Acting) → IsSettled a → IsSettled (after_line line a)
settled_line line a settled =
    record {
      whole = whole;
      given = ap (λ (m : Manager). m.outgoing) only.manager ∙ given;
      asks = λ stays_on busy room.
          let asked = (waits stays_on busy room).asks in record { wake = asked.wake; is = asked.is; not_past = asked.not_past };
      out = λ stays_on busy room. (waits stays_on busy room).out;
    }
  where
    x : Acting
    x = before_deciding line a

    y : Acting
    y = acted_if_idle x

    only : OnlySends y (sent y)
    only = only_sends y

    given : y.manager.outgoing ≡ []
    given =
        cond_both (is_idle x.window) (caught_up (acted x)) x (λ (b : Acting). b.manager.outgoing ≡ []) (λ _. caught_given (acted x))
        (λ _. settled_given line a)

    whole : IsSentWhole (sent y).manager.sweep
    whole =
        let reached = acts_are_calls a (line ∷ []) in
        subst (λ (m : Manager). IsSentWhole m.sweep) reached.are (whole_calls reached.calls a.manager settled.whole)

    waits : (sent y).is_leaving ≡ false → is_idle (sent y).window ≡ false → 1 ≤ (sent y).window.limits.outstanding → Waits (sent y)
    waits stays_on busy room = by_idle (is_idle y.window) refl
      where
        by_idle : (b : Bool) → is_idle y.window ≡ b → Waits (sent y)
        by_idle true idle = let wrong : true ≡ false = sym (sent_idle y idle) ∙ busy in absurd (cc)
        by_idle false still =
            sent_waits y (sym only.leaving ∙ stays_on) still (subst (λ (l : Limits). 1 ≤ l.outstanding) only.limits room)

settled_lines : (lines : List Line) (a : Acting) → IsSettled a → IsSettled (after_lines lines a)
settled_lines [] a settled = settled
settled_lines (line ∷ lines) a settled = settled_lines lines (after_line line a) (settled_line line a settled)

pub has_settled : (a : Acting) → HasDecided a → IsSettled a
has_settled a h = subst IsSettled h.are (settled_lines h.lines _ (record { whole = tt; given = refl; asks = λ stays_on busy room. absurd (cc); out = λ stays_on busy room. absurd (cc) }))
