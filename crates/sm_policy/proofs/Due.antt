-- What is due, and what is done then.
use Rattle.std.proofs.Common.{◌≡◌, ℕ, ◌<◌, Bool, true, false, cond, refl, sym, ap, ◌∙◌, arith}
use Rattle.std.proofs.lemmas.Bool.{cond_both, le-leb, leb-false, leb-true, lt-leb}
use Rattle.std.specs.Prelude.{◌↔◌, ◌||◌, min, nat_le, Option, Some, None}
use Rattle.sm_state.specs.declared.state.SmState.{SmState}
use Rattle.sm_state.specs.declared.state.SmState.TheVariants.{NotActive, Discovering, Standby, Master}
use Rattle.sm_policy.specs.declared.act.Act.TheVariants.{Wait, Poll, Announce, Sweep}
use Rattle.sm_policy.specs.declared.rival.Rival.{Rival}
use Rattle.sm_policy.specs.declared.rival.Rival.TheVariants.{Lesser, Greater}
use Rattle.sm_policy.specs.Policy.{Decision, announced_every, later_by, still}
use Rattle.sm_policy.specs.PolicyLaws.{DoesNothingTwice, IsDone, WaitsUntilDue}
use Rattle.sm_policy.specs.Resting.{call_due, call_due_in, earlier, is_due, poll_due, poll_due_in, rest_due, sweep_due, sweeping}

-- the earlier of two times has come if one of them has
or_false : (b : Bool) → b ≡ (b || false)
or_false true = refl
or_false false = refl

least_comes : (now one other : ℕ) → nat_le (min one other) now ≡ (nat_le one now || nat_le other now)
least_comes now one other = by_one (nat_le one now) refl
  where
    by_other : (b : Bool) → nat_le other now ≡ b → now < one → nat_le (min one other) now ≡ b
    by_other true e above = let h = leb-true other now e in le-leb (min one other) now (omega arith)
    by_other false e above = let h = leb-false other now e in lt-leb (min one other) now (omega arith)

    by_one : (b : Bool) → nat_le one now ≡ b → nat_le (min one other) now ≡ (b || nat_le other now)
    by_one true e = let h = leb-true one now e in le-leb (min one other) now (omega arith)
    by_one false e = by_other (nat_le other now) refl (leb-false one now e)

either_due : (now : ℕ) (one other : Option ℕ) → is_due now (earlier one other) ≡ (is_due now one || is_due now other)
either_due now None other = refl
either_due now (Some one) None = or_false (nat_le one now)
either_due now (Some one) (Some other) = least_comes now one other

-- the first that is due is done
acts : (a b c : Bool) (x y z w : Decision) → x.act ≡ Poll → y.act ≡ Announce → z.act ≡ Sweep → w.act ≡ Wait
    → ((cond a x (cond b y (cond c z w))).act ≡ Wait) ↔ ((a || (b || c)) ≡ false)
acts true b c x y z w polls announces sweeps waits = (λ e. absurd (cc (sym polls ∙ e)), λ e. absurd (cc e))
acts false true c x y z w polls announces sweeps waits = (λ e. absurd (cc (sym announces ∙ e)), λ e. absurd (cc e))
acts false false true x y z w polls announces sweeps waits = (λ e. absurd (cc (sym sweeps ∙ e)), λ e. absurd (cc e))
acts false false false x y z w polls announces sweeps waits = (λ e. refl, λ e. waits)

pub waits_until_due : WaitsUntilDue
waits_until_due now p =
    let due : is_due now (rest_due p) ≡ (is_due now (poll_due p) || (is_due now (call_due p) || is_due now (sweep_due p))) =
    either_due now (poll_due p) (earlier (call_due p) (sweep_due p))
    ∙ ap (λ b. is_due now (poll_due p) || b) (either_due now (call_due p) (sweep_due p)) in
    let (there, back) =
    acts (is_due now (poll_due p)) (is_due now (call_due p)) (is_due now (sweep_due p))
    (record { policy = record p { next_poll = later_by p.timing.poll now }; act = Poll })
    (record { policy = record p { next_call = later_by announced_every now }; act = Announce })
    (record { policy = sweeping now p; act = Sweep }) (still p) refl refl refl refl in
    (λ e. due ∙ there e, λ e. back (sym due ∙ e))

-- what is due later is not due now
poll_later : (now next : ℕ) (s : SmState) (m : Option Rival) → now < next → is_due now (poll_due_in s m next) ≡ false
poll_later now next NotActive m later = refl
poll_later now next Discovering m later = refl
poll_later now next Standby None later = refl
poll_later now next Standby (Some rival) later = lt-leb next now later
poll_later now next Master m later = refl

call_later : (now next : ℕ) (s : SmState) (m : Option Rival) → now < next → is_due now (call_due_in s m next) ≡ false
call_later now next NotActive m later = refl
call_later now next Discovering m later = refl
call_later now next Standby None later = refl
call_later now next Standby (Some Lesser) later = lt-leb next now later
call_later now next Standby (Some Greater) later = refl
call_later now next Master m later = refl

pub does_nothing_twice : DoesNothingTwice
does_nothing_twice now p small timing =
    let Done = λ (d : Decision). IsDone now d.policy d.act in
    cond_both (is_due now (poll_due p)) _ _ Done
    (λ _. poll_later now (later_by p.timing.poll now) p.state p.master (omega arith))
    (λ _. cond_both (is_due now (call_due p)) _ _ Done
    (λ _. call_later now (later_by announced_every now) p.state p.master (omega arith))
    (λ _. cond_both (is_due now (sweep_due p)) _ _ Done (λ _. refl) (λ _. tt)))
