-- What counts as written does so after any call that begins no writing.
use Rattle.std.proofs.Common.{◌≡◌, ◌∙◌, ℕ, suc, Bool, true, false, List, [], ◌∷◌, Option, None, Some, length, not, refl, sym, ap, subst}
use Rattle.std.proofs.lemmas.Bool.{and_from, and_parts, cond_both, not_from_false, not-true, or_parts}
use Rattle.std.specs.List.{AllByRecursion, list_any}
use Rattle.std.specs.Prelude.{◌&&◌, ◌||◌, ◌==◌, Contains, drop, filter}
use Rattle.plan_steps.specs.Phase.{Phase}
use Rattle.plan_steps.specs.declared.step.Step.{Step}
use Rattle.sm_manager.specs.CallLists.{Call, after_call}
use Rattle.sm_manager.specs.Manager.{Manager, Writing}
use Rattle.sm_manager.specs.ManagerRequests.{counts, is_step, no_step_waits, none_counts, without_number}
use Rattle.sm_manager.specs.StepsAnswered.{BeginsNone}
use Rattle.sm_manager.specs.Writing.{after_step, is_written, is_written_by, next_pending, next_phase, noted, numbered, phase_sent, went_on_with}
use Rattle.sm_manager.specs.Writing.{without_empty_phases}
use Rattle.sm_manager.specs.declared.pending.Pending.{Pending}
use Rattle.sm_manager.proofs.CountedSteps.{counts_is_step}
use Rattle.manager_laws.proofs.Numbered.{no_step_there, none_pending_counts}
use Rattle.manager_laws.proofs.writing_ends.Effects.{Besides, Begun, Effect, Over, effect}
use Rattle.manager_laws.proofs.writing_ends.Lists.{at_member, filter_none, from_members, kept}
use Rattle.manager_laws.proofs.writing_ends.Turns.{marked, over_by}
use Rattle.program_laws.proofs.managed.Moves.{both, filtered}

-- none of the requests is a step that counts
abbrev pub NoneCount : List Pending → Type 0
NoneCount ps = AllByRecursion (λ (p : Pending). counts p ≡ false) ps

pub all_none : (ps : List Pending) → ((p : Pending) → Contains ps p → counts p ≡ true → ⊥) → NoneCount ps
all_none ps never = from_members (λ (p : Pending). counts p ≡ false) ps (λ p there. by p there (counts p) refl)
  where
    by : (p : Pending) → Contains ps p → (b : Bool) → counts p ≡ b → counts p ≡ false
    by p there true e = absurd (never p there e)
    by p there false e = e

kept_none : (gone : Option Pending) (ps : List Pending) → NoneCount ps → NoneCount (kept gone ps)
kept_none None ps none = none
kept_none (Some p) ps none = filtered (λ (q : Pending). counts q ≡ false) (λ q. not (q.number == p.number)) ps none

no_steps : (ps : List Pending) → filter is_step ps ≡ [] → NoneCount ps
no_steps ps e = all_none ps (λ p there is. no_step_there ps p (ap (λ (xs : List Pending). length xs == 0) e) there (counts_is_step p is))

numbered_none : (c : Bool) (n : ℕ) (steps : List Step) → c ≡ false → NoneCount (numbered c n steps)
numbered_none c n [] e = tt
numbered_none c n (s ∷ steps) e = (e, numbered_none c (suc n) steps e)

-- phases that do not count ------------------------------------------------------------------------

abbrev pub NoPhase : List Phase → Type 0
NoPhase phases = list_any (λ (p : Phase). p.counts) phases ≡ false

next_none : (phases : List Phase) → NoPhase phases → (next_phase phases).counts ≡ false
next_none [] e = refl
next_none (p ∷ phases) e = (or_parts p.counts (list_any (λ (q : Phase). q.counts) phases) e).0

dropped_none : (phases : List Phase) → NoPhase phases → NoPhase (drop 1 phases)
dropped_none [] e = e
dropped_none (p ∷ phases) e = (or_parts p.counts (list_any (λ (q : Phase). q.counts) phases) e).1

passed_none : (phases : List Phase) → NoPhase phases → NoPhase (without_empty_phases phases)
passed_none [] e = e
passed_none (p ∷ phases) e =
    cond_both (length p.steps == 0) (without_empty_phases phases) (p ∷ phases) NoPhase
    (λ _. passed_none phases (or_parts p.counts (list_any (λ (q : Phase). q.counts) phases) e).1) (λ _. e)

-- what counts as written ----------------------------------------------------------------------------

pub record AllDone (m : Manager) : Type 0 where
  pub now : Writing
  pub writing : m.writing ≡ Some now
  pub unfailed : now.has_failed ≡ false
  pub later : NoPhase now.later
  pub none : NoneCount m.pending

all_done : (m : Manager) → is_written m ≡ true → AllDone m
all_done m e = by_writing m.writing refl
  where
    by_writing : (o : Option Writing) → m.writing ≡ o → AllDone m
    by_writing None is =
        let wrong : true ≡ false = sym e ∙ ap (is_written_by m.pending) is in
        absurd (cc)
    by_writing (Some w) is =
        let any = list_any (λ (p : Phase). p.counts) w.later in
        let h = and_parts (not w.has_failed) (not any && none_counts m.pending) (sym (ap (is_written_by m.pending) is) ∙ e) in
        let rest = and_parts (not any) (none_counts m.pending) h.1 in
        record {
          now = w;
          writing = is;
          unfailed = not-true w.has_failed h.0;
          later = not-true any rest.0;
          none = all_none m.pending (λ p there counted. none_pending_counts m.pending p rest.1 there counted);
        }

pub done_all : (m : Manager) → AllDone m → is_written m ≡ true
done_all m d =
    ap (is_written_by m.pending) d.writing
    ∙ and_from (not d.now.has_failed) _ (not_from_false d.now.has_failed d.unfailed)
    (and_from (not (list_any (λ (p : Phase). p.counts) d.now.later)) (none_counts m.pending)
    (not_from_false (list_any (λ (p : Phase). p.counts) d.now.later) d.later)
    (ap (λ (xs : List Pending). length xs == 0) (filter_none counts m.pending d.none)))

-- a step that does not count is over, and the next phase, which does not count, may be sent
step_done : (m : Manager) (p : Pending) (was_done : Bool) → Contains m.pending p → AllDone m → AllDone (after_step m p was_done)
step_done m p was_done there d =
    subst (λ (o : Option Writing). AllDone (went_on_with (over_by m p was_done o) (noted (counts p) was_done o))) (sym d.writing)
    (cond_both (no_step_waits (without_number p.number m.pending)) (phase_sent m1 w1) m1 AllDone
    (λ _. record {
      now = record w1 { later = without_empty_phases (drop 1 w1.later) };
      writing = refl;
      unfailed = unfailed;
      later = passed_none (drop 1 d.now.later) (dropped_none d.now.later d.later);
      none = both (λ (q : Pending). counts q ≡ false) (without_number p.number m.pending) (next_pending m.counter d.now.later)
          (kept_none (Some p) m.pending d.none)
          (numbered_none (next_phase d.now.later).counts m.counter (next_phase d.now.later).steps (next_none d.now.later d.later));
    })
    (λ _. record { now = w1; writing = refl; unfailed = unfailed; later = d.later; none = kept_none (Some p) m.pending d.none }))
  where
    w1 : Writing
    w1 = marked p was_done d.now

    m1 : Manager
    m1 = over_by m p was_done (Some d.now)

    other : counts p ≡ false
    other = at_member (λ (q : Pending). counts q ≡ false) m.pending p d.none there

    unfailed : d.now.has_failed || (counts p && not was_done) ≡ false
    unfailed = λ i. d.unfailed i || (other i && not was_done)

call_done : (m : Manager) (call : Call) → BeginsNone m call → AllDone m → AllDone (after_call m call)
call_done m call quiet d = by_effect (after_call m call) (effect m call)
  where
    by_effect : (after : Manager) → Effect m call after → AllDone after
    by_effect after (Besides b) =
        record {
          now = d.now;
          writing = b.writing ∙ d.writing;
          unfailed = d.unfailed;
          later = d.later;
          none = subst NoneCount (sym b.turn.is)
              (both (λ (p : Pending). counts p ≡ false) (kept b.turn.gone m.pending) b.turn.more (kept_none b.turn.gone m.pending d.none)
              (no_steps b.turn.more b.no_step_more));
        }
    by_effect after (Over o) = subst AllDone (sym o.is) (step_done m o.p o.was_done o.there d)
    by_effect after (Begun b) = absurd (b.begins quiet)

pub still_written : (m : Manager) (call : Call) → BeginsNone m call → is_written m ≡ true → is_written (after_call m call) ≡ true
still_written m call quiet e = done_all (after_call m call) (call_done m call quiet (all_done m e))
