-- When a standby polls next: within its longest wait.
use Rattle.std.proofs.Common.{◌≡◌, ◌∙◌, ℕ, ◌+◌, ◌≤◌, Bool, true, false, [], ◌∷◌, refl, ap, arith}
use Rattle.std.proofs.lemmas.Bool.{cond_both}
use Rattle.std.specs.Prelude.{◌||◌, Option, Some, None, nat_le, nat_lt}
use Rattle.sm_state.specs.Standing.{one_more}
use Rattle.sm_state.specs.declared.state.SmState.{SmState}
use Rattle.sm_state.specs.declared.state.SmState.TheVariants.{NotActive, Discovering, Standby, Master}
use Rattle.sm_policy.specs.Judged.{failed, judged, once_more, settled, stood, taking}
use Rattle.sm_policy.specs.Policy.{Decision, forgotten, in_state, later_by, moved, new_policy, patience, still, sweeps_first, waited_longer, wanting}
use Rattle.sm_policy.specs.PolicyLaws as news
use Rattle.sm_policy.specs.PolicyLaws.{News, Rise, after_news, longest_wait}
use Rattle.sm_policy.specs.Resting.{call_due, is_due, poll_due, rested, sweep_due, sweeping}
use Rattle.sm_policy.specs.Swept.{dealt, ended, goes_on, judging, leaves_it, masterless_by, meeting_at, met, swept, swept_in}
use Rattle.sm_policy.specs.declared.activity.Activity.TheVariants.{Rests}
use Rattle.sm_policy.specs.declared.comparison.Comparison.{Comparison}
use Rattle.sm_policy.specs.declared.comparison.Comparison.TheVariants.{NoPlan, Same, Differs}
use Rattle.sm_policy.specs.declared.policy.Policy.{Policy}
use Rattle.sm_policy.specs.declared.ports.Ports.{Ports}
use Rattle.sm_policy.specs.declared.rival.Rival.{Rival}
use Rattle.sm_policy.specs.declared.rival.Rival.TheVariants.{Lesser, Greater}
use Rattle.sm_policy.specs.declared.timing.Timing.{Timing}
use Rattle.acting_manager.specs.Acting.{Acting}
use Rattle.program_laws.proofs.wakes.News.{HasNews}

module _ (timing : Timing) (now : ℕ) where
  -- the next poll is not long after `now`
  record Soon (p : Policy) : Type 0 where
    same : p.timing ≡ timing
    poll : p.next_poll ≤ now + timing.poll

  abbrev Then : Decision → Type 0
  Then d = Soon d.policy

  -- a policy that differs in other things
  as_is : (p q : Policy) → q.timing ≡ p.timing → q.next_poll ≡ p.next_poll → Soon p → Soon q
  as_is p q timing poll s = record { same = timing ∙ s.same; poll = let was = s.poll in omega (arith, poll, was) }

  moves : (state : SmState) (p : Policy) → Soon p → Soon (moved now state p)
  moves state p s =
      cond_both (sweeps_first state p.activity) (wanting (in_state now state p)) (in_state now state p) Soon
      (λ _. record { same = s.same; poll = omega arith }) (λ _. record { same = s.same; poll = omega arith })

  rests : (p : Policy) → Soon p → Then (rested now p)
  rests p s =
      cond_both (is_due now (poll_due p)) _ _ Then
      (λ _. record { same = s.same; poll = let every = ap (λ (t : Timing). t.poll) s.same in omega (arith, every) })
      (λ _. cond_both (is_due now (call_due p)) _ _ Then (λ _. as_is p _ refl refl s)
      (λ _. cond_both (is_due now (sweep_due p)) (record { policy = sweeping now p; act = _ }) (still p) Then (λ _. as_is p _ refl refl s) (λ _. s)))

  ends : (whole : Bool) (rival : Option Rival) (p : Policy) → Soon p → Soon (ended now whole rival p)
  ends true rival p s = as_is p _ refl refl s
  ends false rival p s =
      cond_both (leaves_it p.state rival || goes_on p) p (waited_longer now p)
      (λ (q : Policy). Soon (record q { gaps = one_more p.gaps; activity = Rests; next_sweep = later_by p.timing.every now }))
      (λ _. as_is p _ refl refl s) (λ _. as_is p _ refl refl s)

  counts_on : (count : ℕ) (p : Policy) → Soon p → Then (masterless_by count p)
  counts_on count p s = cond_both (nat_lt patience count) _ _ Then (λ _. as_is p _ refl refl s) (λ _. as_is p _ refl refl s)

  deals : (rival : Rival) (p : Policy) → Soon p → Then (dealt rival p)
  deals Greater p s = as_is p _ refl refl s
  deals Lesser p s = cond_both (nat_lt p.meeting.looks patience) _ _ Then (λ _. as_is p _ refl refl s) (λ _. as_is p _ refl refl s)

  meets : (rival : Rival) (p : Policy) → Soon p → Then (met rival p)
  meets rival p s =
      cond_both (nat_le patience p.meeting.handovers) (judging p) (dealt rival (wanting (forgotten p))) Then (λ _. s)
      (λ _. deals rival (wanting (forgotten p)) (as_is p _ refl refl s))

  sweeps_in : (state : SmState) (rival : Option Rival) (p : Policy) → Soon p → Then (swept_in state now rival p)
  sweeps_in Standby None p s = counts_on _ p s
  sweeps_in Standby (Some rival) p s = as_is p _ refl refl s
  sweeps_in Master None p s = as_is p _ refl refl s
  sweeps_in Master (Some rival) p s = meets rival (record p { meeting = meeting_at now p.meeting }) (as_is p _ refl refl s)
  sweeps_in Discovering rival p s = s
  sweeps_in NotActive rival p s = s

  sweeps : (whole : Bool) (rival : Option Rival) (p : Policy) → Soon p → Then (swept now whole rival p)
  sweeps whole rival p s =
      cond_both p.is_stale _ (swept_in p.state now rival (ended now whole rival p)) Then (λ _. as_is p _ refl refl s)
      (λ _. sweeps_in p.state rival (ended now whole rival p) (ends whole rival p s))

  once : (ports : Ports) (p : Policy) → Soon p → Soon (once_more now ports p)
  once ports p s =
      cond_both (nat_lt 0 ports.foreign) (taking now p) p
      (λ (q : Policy). Soon (record q { written = record p.written { repeats = one_more p.written.repeats } }))
      (λ _. as_is p _ refl refl s)
      (λ _. as_is p _ refl refl s)

  judges : (comparison : Comparison) (ports : Ports) (p : Policy) → Soon p → Then (judged now comparison ports p)
  judges NoPlan ports p s = as_is p _ refl refl s
  judges Differs ports p s = as_is p _ refl refl s
  judges Same ports p s =
      cond_both p.written.stands (stood now ports p) _ Then
      (λ _. cond_both _ (record { policy = once_more now ports p; act = _ }) (record { policy = settled ports p; act = _ }) Then (λ _. once ports p s)
      (λ _. as_is p _ refl refl s))
      (λ _. as_is p _ refl refl s)

  hears : (n : News) (p : Policy) → Soon p → Soon (after_news now n p)
  hears (news.Moved state) p s = moves state p s
  hears news.Wanted p s = as_is p _ refl refl s
  hears news.TakenOver p s = as_is p _ refl refl s
  hears news.Resumed p s = as_is p _ refl refl s
  hears (news.Polled is_master) p s = as_is p _ refl refl s
  hears news.Rested p s = rests p s
  hears (news.Swept whole rival) p s = sweeps whole rival p s
  hears (news.Judged comparison ports) p s = judges comparison ports p s
  hears (news.Writing has_begun) p s = cond_both has_begun _ (failed now p) Soon (λ _. as_is p _ refl refl s) (λ _. as_is p _ refl refl s)
  hears (news.Wrote is_written) p s = cond_both is_written _ _ Then (λ _. as_is p _ refl refl s) (λ _. as_is p _ refl refl s)
  hears (news.Handing is_out) p s = as_is p _ refl refl s
  hears news.Handed p s = as_is p _ refl refl s

later : (timing : Timing) (now then : ℕ) (p : Policy) → now ≤ then → Soon timing now p → Soon timing then p
later timing now then p rises s = record { same = s.same; poll = let was = s.poll in omega (arith, was, rises) }

all_told : (timing : Timing) (since until : ℕ) (told : news.Told) (p : Policy) → Rise since told until → Soon timing since p
    → Soon timing until (news.after_told told p)
all_told timing since until [] p rises s = later timing since until p rises.0 s
all_told timing since until (n ∷ told) p rises s =
    all_told timing n.0 until told (after_news n.0 n.1 p) rises.1 (hears timing n.0 n.1 p (later timing since n.0 p rises.0 s))

pub polls_soon : (timing : Timing) (a : Acting) → HasNews timing a → a.policy.next_poll ≤ a.time + longest_wait timing
polls_soon timing a h =
    let soon = all_told timing 0 a.time h.told (new_policy timing) h.rise (record { same = refl; poll = omega arith }) in
    let same = ap (λ (p : Policy). p.next_poll) h.are in
    let poll = soon.poll in
    omega (arith, poll, same)
