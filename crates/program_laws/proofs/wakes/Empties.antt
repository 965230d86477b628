-- A manager that decides by itself gets on with its requests, whatever it is told.
use Rattle.std.proofs.Common.{◌≡◌, ◌∙◌, ◌⊎◌, inl, inr, ℕ, ◌+◌, ◌-◌, ◌*◌, ◌≤◌, Bool, true, false, ◌&&◌, List, [], ◌∷◌, length, refl, sym, ap, subst, arith}
use Rattle.std.proofs.lemmas.Bool.{cond-true, cond-false, leb-false, le-leb}
use Rattle.std.proofs.lemmas.Nat.{mul-le}
use Rattle.std.specs.List.{AllByRecursion}
use Rattle.std.specs.Prelude.{max}
use Rattle.sm_policy.specs.Resting.{is_due}
use Rattle.sm_manager.specs.Manager.{is_running}
use Rattle.request_window.specs.declared.limits.Limits.{Limits}
use Rattle.request_window.specs.declared.out.Out.{Out}
use Rattle.acting_manager.specs.Acting.{Acting}
use Rattle.acting_manager.specs.Working.{given_away, is_given_up, is_idle, is_resting, not_before}
use Rattle.acting_manager.specs.Working.{sent, wake_of}
use Rattle.program_laws.specs.Wakes.{ArePrompt, AsksForATime, IsBy, IsNoLeave, Line, NoneLeaves, StaysBusy, WindowsEmpty, after_line, after_lines}
use Rattle.program_laws.specs.Wakes.{before_deciding, chances_in, controls_in, control_in, is_woken, longest_turn, next_in, one_if, sets_to_come, turns_until, wakes_met}
use Rattle.program_laws.proofs.wakes.Chances.{AnyLate}
use Rattle.program_laws.proofs.wakes.InTime.{IsSoon, a_line_soon, has_soon}
use Rattle.program_laws.proofs.wakes.Load.{Fits, budget, sends}
use Rattle.program_laws.proofs.wakes.Makes.{requests_in}
use Rattle.program_laws.proofs.wakes.Waking as kind
use Rattle.program_laws.proofs.wakes.Waking.{Falls, Kind, line_falls, looked_manager}
use Rattle.program_laws.proofs.wakes.Sending.{HasOut, IsDueBy, Waits, due_wake, sent_some, sent_waits}
use Rattle.program_laws.proofs.wakes.Settled.{has_settled}

-- lines -------------------------------------------------------------------------------------------------------------

given_up_wakes : (now : ℕ) (a : Acting) → a.is_leaving ≡ false → is_given_up a ≡ true → a.time ≤ now → is_due now (wake_of a) ≡ true
given_up_wakes now a stays_on up less =
    ap (is_due now)
    (cond-false (a.is_leaving && is_resting a.policy.activity) _ _ (ap (λ b. b && is_resting a.policy.activity) stays_on)
    ∙ ap (not_before a.time) (cond-true (is_given_up a) _ _ up))
    ∙ le-leb (max a.time a.time) now (omega (arith, less))

module _ (limits : Limits) (some : 1 ≤ limits.tries) (room : 1 ≤ limits.outstanding) where
  -- what a line does that leaves some request: something ends, or the manager did not ask for it, and what is out stays
  pub record Gone (k : ℕ) (line : Line) (a b : Acting) : Type 0 where
    pub falls : Falls limits some k line a b
    pub waits : Waits b

  pub data Goes (line : Line) (a b : Acting) : Type 0 where
    Ends : Gone 1 line a b → Goes line a b
    Rests : Gone 0 line a b → is_woken line.0 a ≡ false → ((by : ℕ) → AnyLate by a.window.outs → AnyLate by b.window.outs) → Goes line a b

  -- what the manager sends then
  pub sends_then : (k : ℕ) (line : Line) (a x : Acting) → a.is_leaving ≡ false → is_idle x.window ≡ false → Falls limits some k line a x
      → Gone k line a (given_away (sent x))
  sends_then k line a x stays_on left fell =
      let sending = sends limits some x fell.fits in
      let waits = sent_waits x (fell.leaving ∙ stays_on) left (subst (λ (l : Limits). 1 ≤ l.outstanding) (sym fell.fits.same) room) in
      let first = fell.next in
      let last = sending.next in
      record {
        falls = record {
          fits = record { same = sending.fits.same; whole = sending.fits.whole };
          leaving = sending.leaving ∙ fell.leaving;
          about = sending.about ∙ fell.about;
          time = sending.time ∙ fell.time;
          next = omega (arith, first, last);
          still = λ rests. let kept = fell.still rests in sending.still (ap is_running kept ∙ rests) ∙ kept;
          falls = then k limits.tries (control_in line.1) (budget limits a) (budget limits x) (budget limits (sent x))
              (next_in a.manager.sweep) (next_in x.manager.sweep) (next_in (sent x).manager.sweep) fell.falls sending.falls;
        };
        waits = record {
          busy = waits.busy;
          asks = record { wake = waits.asks.wake; is = waits.asks.is; not_past = waits.asks.not_past };
          out = waits.out;
        };
      }
    where
      then : (w p c x y z m n o : ℕ) → w + y + p * m ≤ x + p * n + p * c + c → 0 + z + p * n ≤ y + p * o + p * 0 → w + z + p * m ≤ x + p * o + p * c + c
      then w p c x y z m n o h g = omega (arith, h, g)

  pub line_goes : (line : Line) (a : Acting) → Fits limits a → IsNoLeave line.1 → a.is_leaving ≡ false → is_idle a.window ≡ false
      → is_idle (before_deciding line a).window ≡ false → Goes line a (after_line line a)
  line_goes line a fits remains stays_on busy left =
      subst (λ (y : Acting). Goes line a (given_away (sent y))) (sym (cond-false (is_idle x.window) _ x left))
      (by_kind (line_falls limits some line a fits remains stays_on busy))
    where
      x : Acting
      x = before_deciding line a

      by_kind : Kind limits some line a x → Goes line a (given_away (sent x))
      by_kind (kind.Ends fell) = Ends (sends_then 1 line a x stays_on left fell)
      by_kind (kind.Rests fell unasked outs) =
          Rests (sends_then 0 line a x stays_on left fell) unasked (λ by any. sent_some by x (subst (AnyLate by) (sym outs) any))

  -- what a line leaves
  pub what_is_left : (line : Line) (a b : Acting) → Goes line a b → Fits limits b × (b.is_leaving ≡ a.is_leaving) × Waits b
  what_is_left line a b (Ends gone) = (gone.falls.fits, gone.falls.leaving, gone.waits)
  what_is_left line a b (Rests gone unasked keeps) = (gone.falls.fits, gone.falls.leaving, gone.waits)

  -- lines in a row: `ended` times something ends
  record Run (lines : List Line) (a : Acting) : Type 0 where
    asks : AsksForATime (after_lines lines a)
    next : next_in a.manager.sweep ≤ next_in (after_lines lines a).manager.sweep
    still : is_running a.manager.sweep ≡ false → (after_lines lines a).manager.sweep ≡ a.manager.sweep
    ended : ℕ
    met : wakes_met lines a ≤ ended
    falls : ended + budget limits (after_lines lines a) + limits.tries * next_in a.manager.sweep
        ≤ budget limits a + limits.tries * next_in (after_lines lines a).manager.sweep + limits.tries * controls_in lines + controls_in lines
    soon : (late by : ℕ) → ArePrompt late lines a → IsDueBy by a → (after_lines lines a).time ≤ by + ended * longest_turn late limits

  one_at_most : (b : Bool) → one_if b ≤ 1
  one_at_most true = omega arith
  one_at_most false = omega arith

  pub then_falls : (w v p c d x y z m n o : ℕ) → w + y + p * m ≤ x + p * n + p * c + c → v + z + p * n ≤ y + p * o + p * d + d
      → w + v + z + p * m ≤ x + p * o + p * (c + d) + (c + d)
  then_falls w v p c d x y z m n o h g = omega (arith, h, g)

  -- the time of a line that comes in time
  module _ (late by : ℕ) (line : Line) (a : Acting) (stays_on : a.is_leaving ≡ false) (busy : is_idle a.window ≡ false) (asks : AsksForATime a)
      (prompt : IsBy late line.0 (wake_of a)) (due : IsDueBy by a) where
    wake_by : asks.wake ≤ by
    wake_by = due_wake by a due stays_on busy asks.wake asks.is

    told_by : max line.0 a.time ≤ by + late
    told_by =
        let told : line.0 ≤ asks.wake + late = subst (IsBy late line.0) asks.is prompt in
        let wake = wake_by in
        let now = due.now in
        omega (arith, told, wake, now)

    unasked_by : is_woken line.0 a ≡ false → max line.0 a.time ≤ by
    unasked_by e =
        let before = leb-false asks.wake (max line.0 a.time) (sym (ap (is_due (max line.0 a.time)) asks.is) ∙ e) in
        let wake = wake_by in
        omega (arith, before, wake)

    -- all that is out is late three time-outs later
    near_any : (outs : List Out) → 1 ≤ length outs → AllByRecursion (λ (out : Out). out.deadline ≤ max line.0 a.time + 3 * limits.timeout) outs
        → AnyLate (by + longest_turn late limits) outs
    near_any [] none all = absurd (omega (arith, none))
    near_any (out ∷ outs) out_is all =
        let near = all.0 in
        let told = told_by in
        inl (le-leb out.deadline (by + longest_turn late limits) (omega (arith, near, told)))

    pub due_after : (b : Acting) → b.time ≡ max line.0 a.time → Waits b → IsSoon limits (max line.0 a.time) b → IsDueBy (by + longest_turn late limits) b
    due_after b time waits near =
        let told = told_by in
        record {
          now = omega (arith, told, time);
          next = elim waits.out [ inl up ↦ inl up | inr out ↦ inr (near_any b.window.outs out near.outs) ];
        }

    pub due_still : (b : Acting) → b.time ≡ max line.0 a.time → is_woken line.0 a ≡ false → ((by : ℕ) → AnyLate by a.window.outs → AnyLate by b.window.outs)
        → IsDueBy by b
    due_still b time e keeps =
        let told = unasked_by e in
        record {
          now = omega (arith, told, time);
          next = elim due.next [
            | inl up ↦ let wrong : true ≡ false = sym (given_up_wakes (max line.0 a.time) a stays_on up (omega arith)) ∙ e in absurd (cc)
            | inr any ↦ inr (keeps by any)
          ];
        }

  lines_go : (lines : List Line) (a : Acting) → Fits limits a → IsSoon limits a.time a → NoneLeaves lines → a.is_leaving ≡ false → is_idle a.window ≡ false
      → StaysBusy lines a → AsksForATime a → Run lines a
  lines_go [] a fits near remains stays_on busy left asks =
      record {
        asks = asks;
        next = omega arith;
        still = λ _. refl;
        ended = 0;
        met = omega arith;
        falls = omega arith;
        soon = λ late by prompt due. let now = due.now in omega (arith, now);
      }
  lines_go (line ∷ lines) a fits near remains stays_on busy left asks =
      let goes = line_goes line a fits remains.0 stays_on busy left.0 in
      let b = after_line line a in
      let after = what_is_left line a b goes in
      let soon = a_line_soon limits line a near in
      let rest = lines_go lines b after.0 (subst (λ (t : ℕ). IsSoon limits t b) (sym soon.time) soon) remains.1 (after.1 ∙ stays_on) after.2.busy left.1
      after.2.asks in
      by_kind goes soon rest
    where
      b : Acting
      b = after_line line a

      by_kind : Goes line a b → IsSoon limits (max line.0 a.time) b → Run lines b → Run (line ∷ lines) a
      by_kind (Ends gone) soon rest =
          let first = gone.falls.next in
          let last = rest.next in
          let met = rest.met in
          let one = one_at_most (is_woken line.0 a) in
          record {
            asks = rest.asks;
            next = omega (arith, first, last);
            still = λ rests. let kept = gone.falls.still rests in rest.still (ap is_running kept ∙ rests) ∙ kept;
            ended = 1 + rest.ended;
            met = omega (arith, met, one);
            falls = then_falls 1 rest.ended limits.tries (control_in line.1) (controls_in lines) (budget limits a)
                (budget limits b) (budget limits (after_lines lines b)) (next_in a.manager.sweep) (next_in b.manager.sweep)
                (next_in (after_lines lines b).manager.sweep) gone.falls.falls rest.falls;
            soon = λ late by prompt due.
                let later = rest.soon late (by + longest_turn late limits) prompt.1 (due_after late by line a stays_on busy asks prompt.0 due b gone.falls.time gone.waits soon) in
                omega (arith, later);
          }
      by_kind (Rests gone unasked keeps) soon rest =
          let first = gone.falls.next in
          let last = rest.next in
          let met = rest.met in
          let none = ap one_if unasked in
          record {
            asks = rest.asks;
            next = omega (arith, first, last);
            still = λ rests. let kept = gone.falls.still rests in rest.still (ap is_running kept ∙ rests) ∙ kept;
            ended = 0 + rest.ended;
            met = omega (arith, met, none);
            falls = then_falls 0 rest.ended limits.tries (control_in line.1) (controls_in lines) (budget limits a)
                (budget limits b) (budget limits (after_lines lines b)) (next_in a.manager.sweep) (next_in b.manager.sweep)
                (next_in (after_lines lines b).manager.sweep) gone.falls.falls rest.falls;
            soon = λ late by prompt due.
                let later = rest.soon late by prompt.1 (due_still late by line a stays_on busy asks prompt.0 due b gone.falls.time unasked keeps) in
                omega (arith, later);
          }

-- all that is out is late in three time-outs
pub first_due : (a : Acting) → IsSoon a.window.limits a.time a → (is_given_up a ≡ true) ⊎ HasOut a → IsDueBy (a.time + 3 * a.window.limits.timeout) a
first_due a near out =
    record {
      now = omega arith;
      next = elim out [ inl up ↦ inl up | inr some ↦ inr (any_near a.window.outs some near.outs) ];
    }
  where
    any_near : (outs : List Out) → 1 ≤ length outs → AllByRecursion (λ (out : Out). out.deadline ≤ a.time + 3 * a.window.limits.timeout) outs
        → AnyLate (a.time + 3 * a.window.limits.timeout) outs
    any_near [] none all = absurd (omega (arith, none))
    any_near (out ∷ outs) some all = inl (le-leb out.deadline (a.time + 3 * a.window.limits.timeout) all.0)

pub windows_empty : WindowsEmpty
windows_empty a lines h some room stays_on remains busy left =
    let settled = has_settled a h in
    let near = has_soon a h in
    let limits = a.window.limits in
    let run = lines_go limits some room lines a (record { same = refl; whole = settled.whole }) near remains stays_on busy left
    (settled.asks stays_on busy room) in
    let none : requests_in a.manager.outgoing ≡ 0 = ap requests_in settled.given in
    let few = bound run.ended limits.tries (controls_in lines) (chances_in a.window) (requests_in a.manager.outgoing)
    (sets_to_come a.manager) (budget limits (after_lines lines a)) (next_in a.manager.sweep) (next_in (after_lines lines a).manager.sweep)
    none run.next run.falls in
    let met = run.met in
    record {
      few = omega (arith, met, few);
      soon = λ late prompt.
          in_time a.time (3 * limits.timeout) late run.ended (turns_until lines a) (after_lines lines a).time few
          (run.soon late (a.time + 3 * limits.timeout) prompt (first_due a near (settled.out stays_on busy room)));
      asks = run.asks;
      quiet = λ rests. none_between (next_in a.manager.sweep) (next_in (after_lines lines a).manager.sweep) (ap next_in (run.still rests));
    }
  where
    none_between : (m n : ℕ) → n ≡ m → n - m ≡ 0
    none_between m n e = omega (arith, e)

    bound : (w p c x r s z m n : ℕ) → r ≡ 0 → m ≤ n → w + z + p * m ≤ x + p * (r + s) + p * n + p * c + c → w ≤ x + p * (s + (n - m) + c) + c
    bound w p c x r s z m n none rises falls =
        let whole : n ≡ m + (n - m) = omega (arith, rises) in
        let e = ap (λ i. p * i) whole in
        let f = ap (λ i. p * i) none in
        omega (arith, falls, e, f)

    in_time : (t d late q n end : ℕ) → q ≤ n → end ≤ t + d + q * (d + late) → end ≤ t + (n + 1) * (d + late)
    in_time t d late q n end few h = let more = mul-le q (d + late) n (d + late) few (omega arith) in omega (arith, h, more)
