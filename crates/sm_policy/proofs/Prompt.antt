-- A manager never waits for long.
use Rattle.std.proofs.Common.{◌≡◌, ℕ, ◌≤◌, ◌<◌, Bool, true, false, cond, [], ◌∷◌, refl, sym, ap, ◌∙◌, subst, arith}
use Rattle.std.proofs.lemmas.Bool.{cond_both}
use Rattle.std.specs.Prelude.{◌≢◌, ◌^◌, ◌||◌, max, nat_le, nat_lt, Option, Some, None}
use Rattle.sm_state.specs.declared.state.SmState.{SmState}
use Rattle.sm_state.specs.declared.state.SmState.TheVariants.{NotActive, Discovering, Standby, Master}
use Rattle.sm_policy.specs.declared.activity.Activity.TheVariants.{Rests}
use Rattle.sm_policy.specs.declared.policy.Policy.{Policy}
use Rattle.sm_policy.specs.declared.ports.Ports.{Ports}
use Rattle.sm_policy.specs.declared.rival.Rival.{Rival}
use Rattle.sm_policy.specs.declared.rival.Rival.TheVariants.{Lesser, Greater}
use Rattle.sm_policy.specs.declared.timing.Timing.{Timing}
use Rattle.sm_policy.specs.declared.comparison.Comparison.{Comparison}
use Rattle.sm_policy.specs.declared.comparison.Comparison.TheVariants.{NoPlan, Same, Differs}
use Rattle.sm_policy.specs.Policy.{Decision, announced_every, forgotten, in_state, is_master, is_sweeping, later_by, longest, longest_in, new_policy, patience, sweeps_first, waited_longer, wanting}
use Rattle.sm_policy.specs.Judged.{failed, judged, once_more, settled, stood, taking}
use Rattle.sm_policy.specs.PolicyLaws.{IsDueBy, NeverWaitsLong, News, Moved, Wanted, TakenOver, Resumed, Polled, Rested, Swept, Judged, Writing, Wrote, Handing, Handed, Rise, Told, after_news, after_told, longest_wait}
use Rattle.sm_policy.specs.Resting.{call_due, call_due_in, earlier, is_due, poll_due, poll_due_in, rest_due, rested, sweep_due, sweep_due_in}
use Rattle.sm_policy.specs.Swept.{counts, dealt, ended, goes_on, leaves_it, meeting_at, met, swept_in}
use Rattle.sm_state.specs.Standing.{one_more}

-- a sweep began at `began`, and the times at which something may be due are not long after the time `now`
record AreSoon (timing its : Timing) (now began wanted sweep poll call : ℕ) : Type 0 where
  same : its ≡ timing
  begun : began ≤ now
  earliest : wanted ≤ later_by longest now
  next_sweep : sweep ≤ later_by its.every now
  next_poll : poll ≤ later_by its.poll now
  next_call : call ≤ later_by announced_every now

abbrev IsPrompt : Timing → ℕ → Policy → Type 0
IsPrompt timing now p = AreSoon timing p.timing now p.begun p.earliest p.next_sweep p.next_poll p.next_call

pub longest_bounds : (s : SmState) → longest_in s ≤ longest
longest_bounds NotActive = omega arith
longest_bounds Discovering = omega arith
longest_bounds Standby = omega arith
longest_bounds Master = omega arith

module _ (timing : Timing) (now : ℕ) (small : now < 2 ^ 64) where
  abbrev Prompt : Policy → Type 0
  Prompt p = IsPrompt timing now p

  wanting_prompt : (p : Policy) → Prompt p → Prompt (wanting p)
  wanting_prompt p h =
      let b = h.begun in
      record { same = h.same; begun = h.begun; earliest = omega arith; next_sweep = h.next_sweep; next_poll = h.next_poll; next_call = h.next_call }

  forgotten_prompt : (p : Policy) → Prompt p → Prompt (forgotten p)
  forgotten_prompt p h =
      h

  waited_prompt : (p : Policy) → Prompt p → Prompt (waited_longer now p)
  waited_prompt p h =
      let b = longest_bounds p.state in
      record { same = h.same; begun = h.begun; earliest = omega arith; next_sweep = h.next_sweep; next_poll = h.next_poll; next_call = h.next_call }

  failed_prompt : (p : Policy) → Prompt p → Prompt (failed now p)
  failed_prompt p h =
      waited_prompt (forgotten (record p { activity = Rests })) h

  moved_prompt : (s : SmState) (p : Policy) → Prompt p → Prompt (in_state now s p)
  moved_prompt s p h =
      record { same = h.same; begun = h.begun; earliest = h.earliest; next_sweep = h.next_sweep; next_poll = omega arith; next_call = omega arith }

  rested_prompt : (p : Policy) → Prompt p → Prompt (rested now p).policy
  rested_prompt p h =
      let Good = λ (d : Decision). Prompt d.policy in
      cond_both (is_due now (poll_due p)) _ _ Good
      (λ _. record { same = h.same; begun = h.begun; earliest = h.earliest; next_sweep = h.next_sweep; next_poll = omega arith; next_call = h.next_call })
      (λ _. cond_both (is_due now (call_due p)) _ _ Good
      (λ _. record { same = h.same; begun = h.begun; earliest = h.earliest; next_sweep = h.next_sweep; next_poll = h.next_poll; next_call = omega arith })
      (λ _. cond_both (is_due now (sweep_due p)) _ _ Good
      (λ _. record { same = h.same; begun = omega arith; earliest = omega arith; next_sweep = h.next_sweep; next_poll = h.next_poll; next_call = h.next_call })
      (λ _. h)))

  ended_prompt : (w : Bool) (r : Option Rival) (p : Policy) → Prompt p → Prompt (ended now w r p)
  ended_prompt true r p h =
      record { same = h.same; begun = h.begun; earliest = h.earliest; next_sweep = omega arith; next_poll = h.next_poll; next_call = h.next_call }
  ended_prompt false r p h =
      let k = cond_both (leaves_it p.state r || goes_on p) p (waited_longer now p) Prompt (λ _. h) (λ _. waited_prompt p h) in
      later_sweep (cond (leaves_it p.state r || goes_on p) p (waited_longer now p)) p.timing h.same k
    where
      later_sweep : (x : Policy) (t : Timing) → t ≡ timing → Prompt x
          → Prompt (record x { gaps = one_more p.gaps; activity = Rests; next_sweep = later_by t.every now })
      later_sweep x t e k =
          let every = ap (λ (u : Timing). u.every) (e ∙ sym k.same) in
          record { same = k.same; begun = k.begun; earliest = k.earliest; next_sweep = omega (arith, every); next_poll = k.next_poll; next_call = k.next_call }

  dealt_prompt : (r : Rival) (p : Policy) → Prompt p → Prompt (dealt r p).policy
  dealt_prompt Greater p h =
      h
  dealt_prompt Lesser p h =
      cond_both (nat_lt p.meeting.looks patience) _ _ (λ (d : Decision). Prompt d.policy)
      (λ _. h) (λ _. h)

  met_prompt : (r : Rival) (p : Policy) → Prompt p → Prompt (met r p).policy
  met_prompt r p h =
      cond_both (nat_le patience p.meeting.handovers) _ _ (λ (d : Decision). Prompt d.policy) (λ _. h)
      (λ _. dealt_prompt r (wanting (forgotten p)) (wanting_prompt (forgotten p) (forgotten_prompt p h)))

  swept_prompt : (s : SmState) (r : Option Rival) (p : Policy) → Prompt p → Prompt (swept_in s now r p).policy
  swept_prompt NotActive r p h = h
  swept_prompt Discovering r p h = h
  swept_prompt Standby None p h =
      cond_both (nat_lt patience (cond (counts p) (one_more p.masterless) p.masterless)) _ _ (λ (d : Decision). Prompt d.policy)
      (λ _. h) (λ _. h)
  swept_prompt Standby (Some r) p h =
      h
  swept_prompt Master None p h =
      h
  swept_prompt Master (Some r) p h =
      met_prompt r (record p { meeting = meeting_at now p.meeting })
      h

  once_prompt : (ports : Ports) (p : Policy) → Prompt p → Prompt (once_more now ports p)
  once_prompt ports p h =
      cond_both (nat_lt 0 ports.foreign) (taking now p) p
      (λ (x : Policy). Prompt (record x { written = record p.written { repeats = one_more p.written.repeats } }))
      (λ _. h) (λ _. h)

  written_prompt : (p : Policy) → Prompt p → Prompt (record p { written = record p.written { repeats = 0 } })
  written_prompt p h =
      h

  judged_prompt : (v : Comparison) (ports : Ports) (p : Policy) → Prompt p → Prompt (judged now v ports p).policy
  judged_prompt NoPlan ports p h = waited_prompt p h
  judged_prompt Differs ports p h = written_prompt p h
  judged_prompt Same ports p h =
      cond_both p.written.stands (stood now ports p) _ (λ (d : Decision). Prompt d.policy)
      (λ _. cond_both _ (record { policy = once_more now ports p; act = _ }) (record { policy = settled ports p; act = _ }) (λ (d : Decision). Prompt d.policy)
      (λ _. once_prompt ports p h)
      (λ _. h))
      (λ _. written_prompt p h)

  news_prompt : (n : News) (p : Policy) → Prompt p → Prompt (after_news now n p)
  news_prompt (Moved s) p h =
      cond_both (sweeps_first s p.activity) (wanting (in_state now s p)) (in_state now s p) Prompt
      (λ _. wanting_prompt (in_state now s p) (moved_prompt s p h)) (λ _. moved_prompt s p h)
  news_prompt Wanted p h = wanting_prompt p h
  news_prompt TakenOver p h = wanting_prompt (forgotten p) (forgotten_prompt p h)
  news_prompt Resumed p h =
      wanting_prompt (forgotten (record p { is_stale = is_sweeping p.activity })) h
  news_prompt (Polled is_master) p h =
      h
  news_prompt Rested p h = rested_prompt p h
  news_prompt (Swept w r) p h =
      cond_both p.is_stale _ (swept_in p.state now r (ended now w r p)) (λ (d : Decision). Prompt d.policy)
      (λ _. h)
      (λ _. swept_prompt p.state r (ended now w r p) (ended_prompt w r p h))
  news_prompt (Judged v ports) p h = judged_prompt v ports p h
  news_prompt (Writing has_begun) p h =
      cond_both has_begun _ (failed now p) Prompt
      (λ _. h)
      (λ _. failed_prompt p h)
  news_prompt (Wrote is_written) p h =
      cond_both is_written _ _ (λ (d : Decision). Prompt d.policy)
      (λ _. h)
      (λ _. failed_prompt p h)
  news_prompt (Handing is_out) p h =
      h
  news_prompt Handed p h = h

later_prompt : (timing : Timing) (since now : ℕ) (p : Policy) → since ≤ now → IsPrompt timing since p → IsPrompt timing now p
later_prompt timing since now p rises h =
    let b = h.begun in
    let e = h.earliest in
    let s = h.next_sweep in
    let o = h.next_poll in
    let c = h.next_call in
    record { same = h.same; begun = omega arith; earliest = omega arith; next_sweep = omega arith; next_poll = omega arith; next_call = omega arith }

small_until : (since until : ℕ) (told : Told) → Rise since told until → since < 2 ^ 64
small_until since until [] rises = let a = rises.0 in let b = rises.1 in omega arith
small_until since until (n ∷ told) rises = let a = rises.0 in let b = small_until n.0 until told rises.1 in omega arith

told_prompt : (timing : Timing) (since until : ℕ) (told : Told) (p : Policy) → Rise since told until → IsPrompt timing since p
    → IsPrompt timing until (after_told told p)
told_prompt timing since until [] p rises h = later_prompt timing since until p rises.0 h
told_prompt timing since until (n ∷ told) p rises h =
    told_prompt timing n.0 until told (after_news n.0 n.1 p) rises.1
    (news_prompt timing n.0 (small_until n.0 until told rises.1) n.1 p (later_prompt timing since n.0 p rises.0 h))

-- the first that is due
earlier_left : (until : ℕ) (one other : Option ℕ) → IsDueBy until one → IsDueBy until (earlier one other)
earlier_left until None other h = absurd h
earlier_left until (Some one) None h = h
earlier_left until (Some one) (Some other) h = omega arith

earlier_right : (until : ℕ) (one other : Option ℕ) → IsDueBy until other → IsDueBy until (earlier one other)
earlier_right until None other h = h
earlier_right until (Some one) None h = absurd h
earlier_right until (Some one) (Some other) h = omega arith

due_by : (until : ℕ) (s : SmState) (m : Option Rival) (w : Bool) (poll call wanted regular : ℕ) → s ≢ NotActive → poll ≤ until → wanted ≤ until → regular ≤ until
    → IsDueBy until (earlier (poll_due_in s m poll) (earlier (call_due_in s m call) (sweep_due_in s m w wanted regular)))
due_by until NotActive m w poll call wanted regular active polls wants sweeps = absurd (active refl)
due_by until Discovering m w poll call wanted regular active polls wants sweeps = wants
due_by until Standby None w poll call wanted regular active polls wants sweeps = wants
due_by until Standby (Some r) w poll call wanted regular active polls wants sweeps =
    earlier_left until (Some poll) (earlier (call_due_in Standby (Some r) call) (sweep_due_in Standby (Some r) w wanted regular)) polls
due_by until Master m true poll call wanted regular active polls wants sweeps = wants
due_by until Master m false poll call wanted regular active polls wants sweeps = sweeps

pub never_waits_long : NeverWaitsLong
never_waits_long timing told now rises active =
    let p = after_told told (new_policy timing) in
    let h = told_prompt timing 0 now told (new_policy timing) rises
    (record { same = refl; begun = omega arith; earliest = omega arith; next_sweep = omega arith; next_poll = omega arith; next_call = omega arith }) in
    let e = h.earliest in
    let s = h.next_sweep in
    let o = h.next_poll in
    subst (λ (x : Timing). IsDueBy (later_by (longest_wait x) now) (rest_due p)) h.same
    (due_by (later_by (longest_wait p.timing) now) p.state p.master p.is_wanted p.next_poll p.next_call p.earliest (max p.earliest p.next_sweep) active
    (omega arith) (omega arith) (omega arith))
