-- How long a manager that is alone rests, polls and sweeps until it is master.
use Rattle.std.proofs.Common.{◌≡◌, ◌∙◌, ◌⊎◌, inl, inr, ℕ, zero, suc, ◌+◌, ◌*◌, ◌≤◌, Bool, true, false, List, [], ◌∷◌, ◌++◌, refl, sym, ap, subst, arith}
use Rattle.std.proofs.lemmas.Bool.{both_ways, cond-true, cond-false}
use Rattle.std.proofs.lemmas.List.{append_assoc}
use Rattle.std.specs.Prelude.{max}
use Rattle.sm_policy.specs.Policy.{is_sweeping}
use Rattle.sm_policy.specs.PolicyLaws.{longest_wait}
use Rattle.sm_policy.specs.declared.activity.Activity.{Activity}
use Rattle.sm_policy.specs.declared.activity.Activity.TheVariants as activity
use Rattle.sm_policy.specs.declared.timing.Timing.{Timing}
use Rattle.request_window.specs.Window.{is_late}
use Rattle.request_window.specs.declared.limits.Limits.{Limits}
use Rattle.acting_manager.specs.Acting.{Acting, caught_up}
use Rattle.acting_manager.specs.Acts.{acted}
use Rattle.acting_manager.specs.Working.{are_none, is_idle, is_resting, sent}
use Rattle.program_laws.specs.ManagedEnds.{StaysAbout}
use Rattle.program_laws.specs.NextSweep.{HasFewTurns}
use Rattle.program_laws.specs.Wakes.{ArePrompt, Line, after_line, after_lines, before_deciding, longest_turn}
use Rattle.program_laws.proofs.alone.Acts.{waits_on}
use Rattle.program_laws.proofs.alone.Calm.{IsCalm, at_rest, calm_later, calm_line, line_awake, line_goes, line_quiet, line_time, may_begin}
use Rattle.program_laws.proofs.alone.Calm.{next_is, over_then, rest_by, soon_is}
use Rattle.program_laws.proofs.alone.Needs.{IsLed, IsSweep, rest_some, sweep_lasts}
use Rattle.program_laws.proofs.alone.Polling.{IsPolling, early_polling, early_time, late_ready}
use Rattle.program_laws.proofs.alone.Quiet.{lasts_quietly}
use Rattle.program_laws.proofs.alone.Rests.{RestEnds, rest_ends}
use Rattle.program_laws.proofs.alone.Rests.RestEnds.{Begins, Fails, Polls, Waits}
use Rattle.program_laws.proofs.alone.Steady.{AtRest, IsReady, IsResting, heard_then, ready, rest_told}
use Rattle.program_laws.proofs.alone.SweepEnds.{SweepEnds, sweep_ends, sweep_is}
use Rattle.program_laws.proofs.alone.SweepEnds.SweepEnds.{Leads, Rests}
use Rattle.program_laws.proofs.alone.Voids.{KeepsOn, decided_on}
use Rattle.program_laws.proofs.wakes.AtSeats.{lines_both}
use Rattle.program_laws.proofs.wakes.Deciding.{decides_past, sent_about, sweeps_past}
use Rattle.program_laws.proofs.wakes.FreshWork.{GoesOn, goes_first}
use Rattle.program_laws.proofs.wakes.NextSweep.{Split, about_last, busy_told, few_first, line_told, no_sweep_rests, prompt_first, split, stage_time}
use Rattle.program_laws.proofs.wakes.NextSweep.Split.{Ends, Whole}
use Rattle.program_laws.proofs.wakes.Settled.{has_settled}
use Rattle.program_laws.proofs.wakes.Waking.{Falls, any_falls}

-- by the given time the manager is master, and its last sweep has seen none that outranks it
pub record Found (by : ℕ) (lines : List Line) (a : Acting) : Type 0 where
  pub first : List Line
  pub later : List Line
  pub are : lines ≡ first ++ later
  pub led : IsLed (after_lines first a).manager (after_lines first a).policy
  pub keeps_on : KeepsOn (after_lines first a)
  pub soon : (after_lines first a).time ≤ by

pub found_on : (by : ℕ) (some rest : List Line) (a : Acting) → Found by rest (after_lines some a) → Found by (some ++ rest) a
found_on by some rest a f =
    record {
      first = some ++ f.first;
      later = f.later;
      are = ap (λ ls. some ++ ls) f.are ∙ sym (append_assoc some f.first f.later);
      led = subst (λ (b : Acting). IsLed b.manager b.policy) (sym (lines_both some f.first a)) f.led;
      keeps_on = subst KeepsOn (sym (lines_both some f.first a)) f.keeps_on;
      soon = subst (λ (b : Acting). b.time ≤ by) (sym (lines_both some f.first a)) f.soon;
    }

-- by the given time the manager is master, or the lines end
abbrev pub FoundBy : ℕ → List Line → Acting → Type 0
FoundBy by lines a = Found by lines a ⊎ ((after_lines lines a).time ≤ by)

pub found_by : (by end : ℕ) (lines : List Line) (a : Acting) → by ≤ end → FoundBy by lines a → FoundBy end lines a
found_by by end lines a less (inl f) =
    inl (record {
      first = f.first;
      later = f.later;
      are = f.are;
      led = f.led;
      keeps_on = f.keeps_on;
      soon = let soon = f.soon in omega (arith, soon, less);
    })
found_by by end lines a less (inr h) = inr (omega (arith, h, less))

-- after some lines
pub found_then : (by : ℕ) (some rest : List Line) (a : Acting) → FoundBy by rest (after_lines some a) → FoundBy by (some ++ rest) a
found_then by some rest a (inl f) = inl (found_on by some rest a f)
found_then by some rest a (inr h) = inr (subst (λ (b : Acting). b.time ≤ by) (sym (lines_both some rest a)) h)

pub rest_is : (what : Activity) → is_resting what ≡ true → what ≡ activity.Rests
rest_is activity.Rests e = refl
rest_is activity.Sweeps e = absurd (cc)
rest_is activity.Writes e = absurd (cc)
rest_is activity.Hands e = absurd (cc)

-- numbers ---------------------------------------------------------------------------------------------------------------------------

-- how long so many polls and sweeps take, once one of them is due
abbrev pub bound : ℕ → ℕ → ℕ → ℕ
bound w x zero = 0
bound w x (suc k) = suc k * x + k * w

-- a wait more
waits_more : (w x k t : ℕ) → 1 ≤ k → t + w + bound w x k ≤ t + (k * x + k * w)
waits_more w x zero t some = absurd (omega (arith, some))
waits_more w x (suc k) t some = omega arith

module _ (n late : ℕ) (timing : Timing) (limits : Limits) where
  abbrev Calm : List Line → Acting → Type 0
  Calm lines a = IsCalm n late timing limits lines a

  abbrev turn : ℕ
  turn = longest_turn late limits

  abbrev wait : ℕ
  wait = longest_wait timing

  abbrev most : ℕ → ℕ
  most k = bound wait ((n + 4) * turn) k

  abbrev RestGoes : ℕ → Type 0
  RestGoes k = (lines : List Line) (a : Acting) (last : ℕ) → Calm lines a → AtRest k last a → FoundBy (last + most k) lines a

  -- from a decision on
  abbrev ReadyGoes : ℕ → Type 0
  ReadyGoes k =
      (line : Line) (rest : List Line) (a : Acting) (last : ℕ) → Calm (line ∷ rest) a → is_resting a.policy.activity ≡ true
      → IsReady k last (before_deciding line a) → (after_line line a).time ≤ last + turn → FoundBy (last + most k) (line ∷ rest) a

  -- sweeping ------------------------------------------------------------------------------------------------------------------------

  -- through lines by which it sweeps on
  sweeps_on : (j : ℕ) (some rest : List Line) (a : Acting) → Calm (some ++ rest) a → is_sweeping a.policy.activity ≡ true → StaysAbout is_sweeping some a
      → IsSweep j a.manager a.policy → IsSweep j (after_lines some a).manager (after_lines some a).policy
  sweeps_on j [] rest a c about stays s = s
  sweeps_on j (line ∷ some) rest a c about stays s =
      sweeps_on j some rest (after_line line a) (calm_line n late timing limits line (some ++ rest) a c) stays.0 stays.1
      (by_idle (is_idle x.window) refl)
    where
      x : Acting
      x = before_deciding line a

      g : GoesOn a (line ∷ [])
      g = line_goes n late timing limits line (some ++ rest) a c

      fell : Falls a.window.limits g.tries 0 line a x
      fell = any_falls a.window.limits g.tries line a (record { same = refl; whole = (has_settled a g.decided).whole }) g.none_leaves.0

      by_idle : (b : Bool) → is_idle x.window ≡ b → IsSweep j (after_line line a).manager (after_line line a).policy
      by_idle false busy =
          waits_on (IsSweep j) (sweep_lasts j) line a g.none_leaves.0 (line_quiet n late timing limits line (some ++ rest) a c)
          (line_awake n late timing limits line (some ++ rest) a c) busy s
      by_idle true idle =
          let ended : is_sweeping (after_line line a).policy.activity ≡ false =
          subst (λ (y : Acting). is_sweeping (sent y).policy.activity ≡ false) (sym (cond-true (is_idle x.window) (caught_up (acted x)) x idle))
          (decides_past is_sweeping (λ b. sweeps_past b.policy.activity b) x (fell.leaving ∙ g.stays_on) (ap is_sweeping fell.about ∙ about)) in
          absurd (both_ways (is_sweeping (after_line line a).policy.activity) ended stays.0)

  module _ (j : ℕ) (after : RestGoes j) where
    abbrev cycle : ℕ
    cycle = (n + 4) * turn

    -- once it rests
    resting_goes : (lines : List Line) (a : Acting) → Calm lines a → IsResting j a → FoundBy (a.time + (j * cycle + j * wait)) lines a
    resting_goes lines a c r =
        found_by (a.time + wait + most j) (a.time + (j * cycle + j * wait)) lines a
        (waits_more wait cycle j a.time (rest_some j a.policy.next_poll a.manager a.policy r.state))
        (after lines a (a.time + wait) c (at_rest n late timing limits j lines a c r))

    sweep_goes : (lines : List Line) (a : Acting) → Calm lines a → is_sweeping a.policy.activity ≡ true → IsSweep j a.manager a.policy
        → FoundBy (a.time + (n + 3) * turn + (j * cycle + j * wait)) lines a
    sweep_goes lines a c about s = by_split (split is_sweeping lines a)
      where
        time_of : (ls : List Line) → GoesOn a ls → StaysAbout is_sweeping ls a → HasFewTurns n ls a
            → ArePrompt late ls a → (after_lines ls a).time ≤ a.time + (n + 2) * turn
        time_of ls g stays few prompt =
            subst (λ (l : Limits). (after_lines ls a).time ≤ a.time + (n + 2) * longest_turn late l) c.limits_is
            (stage_time is_sweeping (λ b. sweeps_past b.policy.activity b) no_sweep_rests n late ls a g.decided g.tries g.outstanding g.stays_on
            g.none_leaves about stays few prompt)

        whole : (t end d e m : ℕ) → end ≤ t + (m + 2) * d → end ≤ t + (m + 3) * d + e
        whole t end d e m h = omega (arith, h)

        by_split : Split is_sweeping lines a → FoundBy (a.time + (n + 3) * turn + (j * cycle + j * wait)) lines a
        by_split (Whole stays) =
            inr (whole a.time (after_lines lines a).time turn (j * cycle + j * wait) n (time_of lines c.goes stays c.few c.prompt))
        by_split (Ends some line rest is stays ends) =
            subst (λ ls. FoundBy (a.time + (n + 3) * turn + (j * cycle + j * wait)) ls a) (sym is)
            (ended (subst (λ ls. Calm ls a) is c))
          where
            d : Acting
            d = after_lines some a

            b : Acting
            b = after_line line d

            ended : Calm (some ++ line ∷ rest) a → FoundBy (a.time + (n + 3) * turn + (j * cycle + j * wait)) (some ++ line ∷ rest) a
            ended w = by_idle (is_idle x.window) refl
              where
                v : Calm (line ∷ rest) d
                v = calm_later n late timing limits some (line ∷ rest) a w

                x : Acting
                x = before_deciding line d

                g : GoesOn d (line ∷ [])
                g = line_goes n late timing limits line rest d v

                fell : Falls d.window.limits g.tries 0 line d x
                fell = any_falls d.window.limits g.tries line d (record { same = refl; whole = (has_settled d g.decided).whole }) g.none_leaves.0

                about_d : is_sweeping d.policy.activity ≡ true
                about_d = about_last is_sweeping some a about stays

                first : d.time ≤ a.time + (n + 2) * turn
                first = time_of some (goes_first some (line ∷ rest) a w.goes) stays (few_first n some (line ∷ rest) a w.few)
                    (prompt_first late some (line ∷ rest) a w.prompt)

                told : line.0 ≤ d.time + turn
                told =
                    subst (λ (l : Limits). line.0 ≤ d.time + longest_turn late l) v.limits_is
                    (line_told late line d g.decided g.outstanding g.stays_on (no_sweep_rests d.policy.activity about_d) v.prompt.0)

                b_time : b.time ≤ a.time + (n + 3) * turn
                b_time = let now = line_time n late timing limits line rest d v in sum a.time d.time b.time line.0 n turn first told now
                  where
                    sum : (t c b l m e : ℕ) → c ≤ t + (m + 2) * e → l ≤ c + e → b ≡ max l c → b ≤ t + (m + 3) * e
                    sum t c b l m e first told now = omega (arith, first, told, now)

                ready_x : IsSweep j x.manager x.policy
                ready_x =
                    lasts_quietly (IsSweep j) (sweep_lasts j) line d g.none_leaves.0 (line_quiet n late timing limits line rest d v)
                    (line_awake n late timing limits line rest d v) (sweeps_on j some (line ∷ rest) a w about stays s)

                by_end : is_idle x.window ≡ true → SweepEnds j line d → FoundBy (a.time + (n + 3) * turn + (j * cycle + j * wait)) (some ++ line ∷ rest) a
                by_end idle (Leads led) =
                    inl (found_on (a.time + (n + 3) * turn + (j * cycle + j * wait)) some (line ∷ rest) a (record {
                      first = line ∷ [];
                      later = rest;
                      are = refl;
                      led = led;
                      keeps_on = decided_on line d g idle;
                      soon = let now = b_time in omega (arith, now);
                    }))
                by_end idle (Rests r) =
                    let by = a.time + (n + 3) * turn + (j * cycle + j * wait) in
                    let now = b_time in
                    found_then by some (line ∷ rest) a
                    (found_then by (line ∷ []) rest d
                    (found_by (b.time + (j * cycle + j * wait)) by rest b (omega (arith, now))
                    (resting_goes rest b (calm_line n late timing limits line rest d v) r)))

                by_idle : (i : Bool) → is_idle x.window ≡ i → FoundBy (a.time + (n + 3) * turn + (j * cycle + j * wait)) (some ++ line ∷ rest) a
                by_idle true idle =
                    by_end idle (sweep_ends j line d g idle (over_then n late timing limits line rest d v idle)
                    (sweep_is x.policy.activity (ap is_sweeping fell.about ∙ about_d)) ready_x)
                by_idle false busy =
                    let after : is_sweeping b.policy.activity ≡ true =
                    ap (λ (y : Acting). is_sweeping (sent y).policy.activity) (cond-false (is_idle x.window) (caught_up (acted x)) x busy)
                    ∙ ap is_sweeping (sent_about x ∙ fell.about) ∙ about_d in
                    absurd (both_ways (is_sweeping b.policy.activity) ends after)

    -- polling -------------------------------------------------------------------------------------------------------------------------

    module _ (decides : ReadyGoes j) where
      poll_goes : (lines : List Line) (a : Acting) (by : ℕ) → Calm lines a → IsPolling j by a → a.time ≤ by
          → FoundBy (by + (j * cycle + j * wait)) lines a
      poll_goes [] a by c p time = inr (omega (arith, time))
      poll_goes (line ∷ rest) a by c p time =
          by_late (is_late (heard_then line a).time q.out) refl
          (λ polls now. poll_goes rest (after_line line a) by (calm_line n late timing limits line rest a c) polls now)
        where
          g : GoesOn a (line ∷ [])
          g = line_goes n late timing limits line rest a c

          -- with the time of its next poll
          q : IsPolling j by a
          q =
              record {
                rests = p.rests;
                out = p.out;
                queued = p.queued;
                outs = p.outs;
                poll = p.poll;
                deadline = p.deadline;
                pending = p.pending;
                found = p.found;
                purpose = p.purpose;
                standby = p.standby;
                few = p.few;
                polls_by = a.policy.next_poll;
                state = rest_by n late timing limits (suc j) p.polls_by a.policy.next_poll a p.state (omega arith);
              }

          busy : is_idle a.window ≡ false
          busy = λ i. are_none (p.queued i) (p.outs i)

          by_late : (b : Bool) → is_late (heard_then line a).time q.out ≡ b
              → (IsPolling j by (after_line line a) → (after_line line a).time ≤ by → FoundBy (by + (j * cycle + j * wait)) rest (after_line line a))
              → FoundBy (by + (j * cycle + j * wait)) (line ∷ rest) a
          by_late false early next =
              found_then (by + (j * cycle + j * wait)) (line ∷ []) rest a
              (next
              (early_polling j by line a g (line_quiet n late timing limits line rest a c) (line_awake n late timing limits line rest a c) q early)
              (early_time j by line a g (line_quiet n late timing limits line rest a c) (line_awake n late timing limits line rest a c) q early))
          by_late true late_is next =
              let last = a.time + wait in
              let ready = late_ready j by line a g (line_quiet n late timing limits line rest a c) (line_awake n late timing limits line rest a c) q
              late_is last
              (soon_is n late timing limits (line ∷ rest) a c (rest_is a.policy.activity p.rests)) (next_is n late timing limits (line ∷ rest) a c) in
              let told : line.0 ≤ a.time + turn =
              subst (λ (l : Limits). line.0 ≤ a.time + longest_turn late l) c.limits_is
              (busy_told late line a g.decided g.outstanding g.stays_on c.prompt.0 busy) in
              let now = line_time n late timing limits line rest a c in
              let few = waits_more wait cycle j a.time (rest_some j last (before_deciding line a).manager (before_deciding line a).policy ready.state) in
              found_by (last + most j) (by + (j * cycle + j * wait)) (line ∷ rest) a (omega (arith, few, time))
              (decides line rest a last c p.rests ready (omega (arith, told, now)))

      -- resting -----------------------------------------------------------------------------------------------------------------------

      -- what follows a decision, if what follows a wait is known
      pub ends_by : (line : Line) (rest : List Line) (a : Acting) (last : ℕ) → Calm (line ∷ rest) a → RestEnds j last line a → (by : ℕ)
          → (after_line line a).time + (n + 3) * turn + (j * cycle + j * wait) ≤ by
          → (AtRest (suc j) last (after_line line a) → FoundBy by rest (after_line line a))
          → FoundBy by rest (after_line line a)
      ends_by line rest a last c end by few waits = by_end end
        where
          b : Acting
          b = after_line line a

          v : Calm rest b
          v = calm_line n late timing limits line rest a c

          polled : (b m timeout l e by : ℕ) → b + (m + 3) * (3 * timeout + l) + e ≤ by → b + 3 * timeout + e ≤ by
          polled b m timeout l e by h = omega (arith, h)

          by_end : RestEnds j last line a → FoundBy by rest b
          by_end (Waits at) = waits at
          by_end (Begins about s) = found_by (b.time + (n + 3) * turn + (j * cycle + j * wait)) by rest b few (sweep_goes rest b v about s)
          by_end (Fails r) = found_by (b.time + (j * cycle + j * wait)) by rest b (omega (arith, few)) (resting_goes rest b v r)
          by_end (Polls p) =
              found_by (b.time + 3 * limits.timeout + (j * cycle + j * wait)) by rest b (polled b.time n limits.timeout late (j * cycle + j * wait) by few)
              (poll_goes rest b (b.time + 3 * limits.timeout) v (subst (λ (l : Limits). IsPolling j (b.time + 3 * l.timeout) b) v.limits_is p) (omega arith))

      decided : (line : Line) (rest : List Line) (a : Acting) (last : ℕ) → Calm (line ∷ rest) a → is_resting a.policy.activity ≡ true
          → IsReady (suc j) last (before_deciding line a) → (after_line line a).time ≤ last + turn
          → (AtRest (suc j) last (after_line line a) → FoundBy (last + most (suc j)) rest (after_line line a))
          → FoundBy (last + most (suc j)) (line ∷ rest) a
      decided line rest a last c rests r time waits =
          found_then (last + most (suc j)) (line ∷ []) rest a
          (ends_by line rest a last c
          (rest_ends j last line a (line_goes n late timing limits line rest a c) r (may_begin n late timing limits line rest a c rests r.idle))
          (last + most (suc j)) (all last (after_line line a).time n turn j wait time) waits)
        where
          all : (t b m d i w : ℕ) → b ≤ t + d → b + (m + 3) * d + (i * ((m + 4) * d) + i * w) ≤ t + bound w ((m + 4) * d) (suc i)
          all t b m d i w now = omega (arith, now)

      rest_goes : RestGoes (suc j)
      rest_goes [] a last c r = inr (let now = r.time in omega (arith, now))
      rest_goes (line ∷ rest) a last c r =
          let g = line_goes n late timing limits line rest a c in
          let told = rest_told (suc j) last late line a g.stays_on r c.prompt.0 in
          let now = line_time n late timing limits line rest a c in
          let early = r.time in
          decided line rest a last c (ap is_resting r.soon.rests)
          (ready (suc j) last line a g (line_quiet n late timing limits line rest a c) (line_awake n late timing limits line rest a c) r)
          (omega (arith, told, now, early))
          (λ at. rest_goes rest (after_line line a) last (calm_line n late timing limits line rest a c) at)

      ready_goes : ReadyGoes (suc j)
      ready_goes line rest a last c rests r time =
          decided line rest a last c rests r time
          (λ at. rest_goes rest (after_line line a) last (calm_line n late timing limits line rest a c) at)

  -- however many it needs
  pub all_go : (k : ℕ) → RestGoes k × ReadyGoes k
  all_go zero = (
    λ lines a last c r. none (rest_some 0 last a.manager a.policy r.state),
    λ line rest a last c rests r time. none (rest_some 0 last (before_deciding line a).manager (before_deciding line a).policy r.state),
  )
    where
      none : {X : Type 0} → 1 ≤ 0 → X
      none few = absurd (omega (arith, few))
  all_go (suc k) = let before = all_go k in (rest_goes k before.0 before.1, ready_goes k before.0 before.1)
