-- A manager that decides goes on with what may follow.
use Rattle.std.proofs.Common.{◌≡◌, ◌∙◌, Bool, true, false, cond, refl, ap, subst}
use Rattle.std.proofs.lemmas.Bool.{cond_both, cond-false}
use Rattle.std.specs.Prelude.{None, is_none}
use Rattle.sm_manager.specs.Election.{poll_fault}
use Rattle.sm_manager.specs.Manager.{begin_fault}
use Rattle.sm_policy.specs.Policy.{Decision, is_sweeping}
use Rattle.sm_policy.specs.Resting.{call_due, is_due, poll_due, rested, sweep_due}
use Rattle.sm_policy.specs.declared.activity.Activity.{Activity}
use Rattle.sm_policy.specs.declared.activity.Activity.TheVariants as activity
use Rattle.sm_policy.specs.declared.policy.Policy.{Policy}
use Rattle.acting_manager.specs.Acting.{Acting, caught_up}
use Rattle.acting_manager.specs.Acts.{acted, acted_in, decided, floor_raised, left_in}
use Rattle.acting_manager.specs.Working.{is_idle, sent}
use Rattle.program_laws.specs.InTurn.{WorksInTurn, may_follow}
use Rattle.program_laws.specs.Wakes.{before_deciding}
use Rattle.program_laws.proofs.wakes.Deciding.{caught_about, sent_about, writing_past}
use Rattle.program_laws.proofs.wakes.Settled.{has_settled}
use Rattle.program_laws.proofs.wakes.Waking.{Falls, any_falls}

-- it goes on with the same
same_follows : (what : Activity) → may_follow what what ≡ true
same_follows activity.Rests = refl
same_follows activity.Sweeps = refl
same_follows activity.Writes = refl
same_follows activity.Hands = refl

-- what follows a rest
abbrev pub IsRestOrSweep : Acting → Type 0
IsRestOrSweep a = may_follow activity.Rests a.policy.activity ≡ true

abbrev Then : Acting → Decision → Type 0
Then a d = IsRestOrSweep (decided d a)

pub rest_follows : (a : Acting) → a.policy.activity ≡ activity.Rests → IsRestOrSweep (decided (rested a.time a.policy) a)
rest_follows a rests =
    cond_both (is_due a.time (poll_due a.policy)) _ _ (Then a)
    (λ _. cond_both (is_none (poll_fault a.manager None)) _ _ (λ (p : Policy). may_follow activity.Rests p.activity ≡ true) (λ _. resting) (λ _. resting))
    (λ _. cond_both (is_due a.time (call_due a.policy)) _ _ (Then a) (λ _. resting)
    (λ _. cond_both (is_due a.time (sweep_due a.policy)) _ _ (Then a)
    (λ _. cond_both (is_none (begin_fault (floor_raised a).manager)) _ _ (λ (p : Policy). may_follow activity.Rests p.activity ≡ true)
    (λ _. refl) (λ _. refl))
    (λ _. resting)))
  where
    resting : may_follow activity.Rests a.policy.activity ≡ true
    resting = ap (may_follow activity.Rests) rests

-- what follows a writing: no sweep
write_follows : (what : Activity) → is_sweeping what ≡ false → may_follow activity.Writes what ≡ true
write_follows activity.Rests e = refl
write_follows activity.Sweeps e = absurd (cc)
write_follows activity.Writes e = refl
write_follows activity.Hands e = refl

acts_follow : (what : Activity) (a : Acting) → a.policy.activity ≡ what → may_follow what (acted_in what a).policy.activity ≡ true
acts_follow activity.Rests a e = rest_follows a e
acts_follow activity.Sweeps a e = refl
acts_follow activity.Writes a e = write_follows (acted_in activity.Writes a).policy.activity (writing_past is_sweeping refl refl a)
acts_follow activity.Hands a e = refl

pub works_in_turn : WorksInTurn
works_in_turn a line h some stays_on remains = by_idle (is_idle x.window) refl
  where
    x : Acting
    x = before_deciding line a

    fell : Falls a.window.limits some 0 line a x
    fell = any_falls a.window.limits some line a (record { same = refl; whole = (has_settled a h).whole }) remains

    by_idle : (b : Bool) → is_idle x.window ≡ b → may_follow a.policy.activity (sent (cond b (caught_up (acted x)) x)).policy.activity ≡ true
    by_idle true idle =
        ap (may_follow a.policy.activity)
        (sent_about (caught_up (acted x)) ∙ caught_about (acted x)
        ∙ ap (λ (b : Acting). b.policy.activity)
        (cond-false x.is_leaving (left_in x.policy.activity x) (acted_in x.policy.activity x) (fell.leaving ∙ stays_on)))
        ∙ subst (λ (what : Activity). may_follow what (acted_in x.policy.activity x).policy.activity ≡ true) fell.about
        (acts_follow x.policy.activity x refl)
    by_idle false left = ap (may_follow a.policy.activity) (sent_about x ∙ fell.about) ∙ same_follows a.policy.activity
