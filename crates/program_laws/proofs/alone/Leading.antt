-- A manager that is alone becomes master in time, and stays master.
use Rattle.std.proofs.Common.{◌≡◌, ◌∙◌, inl, inr, ℕ, suc, ◌+◌, ◌*◌, ◌≤◌, Bool, true, false, ◌&&◌, not, List, [], ◌∷◌, ◌++◌, refl, sym, ap, subst, arith}
use Rattle.std.proofs.lemmas.Bool.{cond_both, cond-false}
use Rattle.std.proofs.lemmas.List.{append-nil}
use Rattle.std.specs.Prelude.{◌==◌, max}
use Rattle.sm_state.specs.State.{number_of_state}
use Rattle.sm_manager.specs.Manager.{Manager, new_manager}
use Rattle.sm_policy.specs.Policy.{is_sweeping}
use Rattle.sm_policy.specs.PolicyLaws.{longest_wait}
use Rattle.sm_policy.specs.declared.activity.Activity.{Activity}
use Rattle.sm_policy.specs.declared.activity.Activity.TheVariants as activity
use Rattle.sm_policy.specs.declared.policy.Policy.{Policy}
use Rattle.sm_policy.specs.declared.timing.Timing.{Timing}
use Rattle.request_window.specs.declared.limits.Limits.{Limits}
use Rattle.acting_manager.specs.Acting.{Acting, caught_up, collected, new_acting}
use Rattle.acting_manager.specs.Acts.{acted, acted_in}
use Rattle.acting_manager.specs.Working.{acted_if_idle, is_idle, is_resting, is_writing, pause, sent}
use Rattle.program_laws.specs.Alone.{IsLone}
use Rattle.program_laws.specs.InTurn.{may_follow}
use Rattle.program_laws.specs.Leading.{LoneManagersLeadInTime, StaysMaster}
use Rattle.program_laws.specs.ManagedEnds.{StaysAbout}
use Rattle.program_laws.specs.NextSweep.{HasFewTurns}
use Rattle.program_laws.specs.Wakes.{ArePrompt, HasDecided, IsBy, Line, StaysBusy, after_line, after_lines, before_deciding, longest_turn, turns_until}
use Rattle.program_laws.proofs.alone.Acts.{line_active, line_led}
use Rattle.program_laws.proofs.alone.Calm.{IsCalm, at_rest, calm_later, calm_line, info_is, later_time, line_awake, line_goes, line_quiet, line_time, may_begin}
use Rattle.program_laws.proofs.alone.Calm.{over_then, rest_by, soon_is}
use Rattle.program_laws.proofs.alone.Moves.{state_is}
use Rattle.program_laws.proofs.alone.Needs.{IsActive, IsLed, active_lasts, need_few}
use Rattle.program_laws.proofs.alone.Quiet.{lasts_quietly}
use Rattle.program_laws.proofs.alone.Rests.{rest_ends}
use Rattle.program_laws.proofs.alone.Runs.{FoundBy, all_go, bound, ends_by, found_by, found_then, rest_is}
use Rattle.program_laws.proofs.alone.Steady.{IsReady, idle_then, knows_then}
use Rattle.program_laws.proofs.wakes.AtSeats.{longer}
use Rattle.program_laws.proofs.wakes.Deciding.{sent_about, sweeps_past, writings_past}
use Rattle.program_laws.proofs.wakes.DueTimes.{IsDueSoon, still_soon}
use Rattle.program_laws.proofs.wakes.Empties.{windows_empty}
use Rattle.program_laws.proofs.wakes.FreshWork.{GoesOn, goes_first}
use Rattle.program_laws.proofs.wakes.InTurn.{works_in_turn}
use Rattle.program_laws.proofs.wakes.News.{always_asks}
use Rattle.program_laws.proofs.wakes.NextSweep.{Split, about_last, few_first, hands_past, is_handing, line_told, no_handing_rests, no_sweep_rests, no_writing_rests, prompt_first}
use Rattle.program_laws.proofs.wakes.NextSweep.{split, stage_time}
use Rattle.program_laws.proofs.wakes.NextSweep.Split.{Ends, Whole}
use Rattle.program_laws.proofs.wakes.Resting.{knows_state, looked_knows}
use Rattle.program_laws.proofs.wakes.Sending.{only_sends}
use Rattle.program_laws.proofs.wakes.Settled.{has_settled}
use Rattle.program_laws.proofs.wakes.Waking.{any_falls}

-- what the policy knows -------------------------------------------------------------------------------------------------------------

abbrev Knows : Acting → Type 0
Knows a = a.policy.state ≡ a.manager.standing.state

pub line_knows : (line : Line) (a : Acting) → Knows (after_line line a)
line_knows line a =
    let x = before_deciding line a in
    let y = acted_if_idle x in
    ap (λ (p : Policy). p.state) (only_sends y).policy
    ∙ sym (state_is y.manager.standing.state y.policy.state
    (cond_both (is_idle x.window) (caught_up (acted x)) x
    (λ (z : Acting). (number_of_state z.manager.standing.state == number_of_state z.policy.state) ≡ true)
    (λ _. looked_knows (collected (acted x))) (λ _. knows_state line a)))
    ∙ ap (λ (m : Manager). m.standing.state) (sym (only_sends y).manager)

lines_know : (lines : List Line) (a : Acting) → Knows a → Knows (after_lines lines a)
lines_know [] a k = k
lines_know (line ∷ lines) a k = lines_know lines (after_line line a) (line_knows line a)

pub has_known : (a : Acting) → HasDecided a → Knows a
has_known a h =
    subst Knows h.are
    (lines_know h.lines (new_acting (new_manager h.port_guid h.port h.priority h.conduct h.planning) h.timing h.limits h.newest) refl)

-- the first decision ----------------------------------------------------------------------------------------------------------------

-- no line has the manager decide, or one is the first
data FirstIdle (lines : List Line) (a : Acting) : Type 0 where
  AllBusy : StaysBusy lines a → FirstIdle lines a
  At : (some : List Line) → (line : Line) → (rest : List Line) → lines ≡ some ++ line ∷ rest → StaysBusy some a
      → is_idle (before_deciding line (after_lines some a)).window ≡ true → FirstIdle lines a

first_idle : (lines : List Line) (a : Acting) → FirstIdle lines a
first_idle [] a = AllBusy tt
first_idle (line ∷ lines) a = by_idle (first_idle lines (after_line line a)) (is_idle (before_deciding line a).window) refl
  where
    more : is_idle (before_deciding line a).window ≡ false → FirstIdle lines (after_line line a) → FirstIdle (line ∷ lines) a
    more busy (AllBusy stays) = AllBusy (busy, stays)
    more busy (At some last rest is stays idle) = At (line ∷ some) last rest (ap (λ ls. line ∷ ls) is) (busy, stays) idle

    by_idle : FirstIdle lines (after_line line a) → (b : Bool) → is_idle (before_deciding line a).window ≡ b → FirstIdle (line ∷ lines) a
    by_idle rest true idle = At [] line lines refl tt idle
    by_idle rest false busy = more busy rest

module _ (n late : ℕ) (timing : Timing) (limits : Limits) where
  abbrev Calm : List Line → Acting → Type 0
  Calm lines a = IsCalm n late timing limits lines a

  abbrev turn : ℕ
  turn = longest_turn late limits

  abbrev wait : ℕ
  wait = longest_wait timing

  abbrev all : ℕ
  all = bound wait ((n + 4) * turn) 16

  shifted : (some : List Line) (line : Line) (rest : List Line) (a : Acting) (by end : ℕ) → by ≤ end
      → FoundBy by rest (after_line line (after_lines some a)) → FoundBy end (some ++ line ∷ rest) a
  shifted some line rest a by end less f =
      found_then end some (line ∷ rest) a
      (found_then end (line ∷ []) rest (after_lines some a) (found_by by end rest (after_line line (after_lines some a)) less f))

  -- no other manager disables it
  stay_active : (some rest : List Line) (a : Acting) → Calm (some ++ rest) a → IsActive a.manager a.policy
      → IsActive (after_lines some a).manager (after_lines some a).policy
  stay_active [] rest a c active = active
  stay_active (line ∷ some) rest a c active =
      stay_active some rest (after_line line a) (calm_line n late timing limits line (some ++ rest) a c)
      (line_active line a (line_goes n late timing limits line (some ++ rest) a c) (line_quiet n late timing limits line (some ++ rest) a c)
      (line_awake n late timing limits line (some ++ rest) a c) active)

  -- while it decides nothing, it is about the same
  stay_about : (some rest : List Line) (a : Acting) → Calm (some ++ rest) a → StaysBusy some a
      → (after_lines some a).policy.activity ≡ a.policy.activity
  stay_about [] rest a c busy = refl
  stay_about (line ∷ some) rest a c busy =
      let g = line_goes n late timing limits line (some ++ rest) a c in
      let x = before_deciding line a in
      let fell = any_falls a.window.limits g.tries line a (record { same = refl; whole = (has_settled a g.decided).whole }) g.none_leaves.0 in
      stay_about some rest (after_line line a) (calm_line n late timing limits line (some ++ rest) a c) busy.1
      ∙ ap (λ (y : Acting). (sent y).policy.activity) (cond-false (is_idle x.window) (caught_up (acted x)) x busy.0) ∙ sent_about x ∙ fell.about

  -- a line comes in the longest wait, and a turn
  active_told : (line : Line) (rest : List Line) (a : Acting) → Calm (line ∷ rest) a → IsActive a.manager a.policy → line.0 ≤ a.time + wait + turn
  active_told line rest a c active =
      let then = later_time n late timing limits (line ∷ rest) a c in
      let end = c.time in
      let asks = always_asks a c.goes.decided c.goes.outstanding c.goes.stays_on (omega (arith, then, end))
      (λ e. active.1 (sym (has_known a c.goes.decided) ∙ e)) in
      let told : line.0 ≤ asks.wake + late = subst (IsBy late line.0) asks.is c.prompt.0 in
      let soon = asks.soon in
      let one = ap longest_wait c.timing_is in
      let two = ap (λ (l : Limits). l.timeout) c.limits_is in
      omega (arith, told, soon, one, two)

  -- resting ---------------------------------------------------------------------------------------------------------------------------

  -- from its first decision on
  from_first : (some : List Line) (line : Line) (rest : List Line) (a : Acting) → Calm (some ++ line ∷ rest) a → IsActive a.manager a.policy
      → (after_lines some a).policy.activity ≡ activity.Rests → (after_lines some a).time ≤ a.time + (n + 1) * turn
      → is_idle (before_deciding line (after_lines some a)).window ≡ true
      → FoundBy (a.time + (n + 2) * turn + 2 * wait + all) (some ++ line ∷ rest) a
  from_first some line rest a w active rests first idle =
      shifted some line rest a (b.time + wait + all) _ (sum a.time c.time line.0 b.time n turn wait all first told now)
      (ends_by n late timing limits 15 (all_go n late timing limits 15).0 (all_go n late timing limits 15).1 line rest c last v
      (rest_ends 15 last line c g ready (may_begin n late timing limits line rest c v (ap is_resting rests) idle)) (b.time + wait + all)
      (few b.time n turn wait)
      (λ at. (all_go n late timing limits 16).0 rest b (b.time + wait) u (at_rest n late timing limits 16 rest b u (record {
        about = at.soon.rests;
        idle = at.idle;
        state = rest_by n late timing limits 16 last b.policy.next_poll b at.state (omega arith);
        knows = at.knows;
      }))))
    where
      c : Acting
      c = after_lines some a

      b : Acting
      b = after_line line c

      x : Acting
      x = before_deciding line c

      v : Calm (line ∷ rest) c
      v = calm_later n late timing limits some (line ∷ rest) a w

      u : Calm rest b
      u = calm_line n late timing limits line rest c v

      g : GoesOn c (line ∷ [])
      g = line_goes n late timing limits line rest c v

      active_c : IsActive c.manager c.policy
      active_c = stay_active some (line ∷ rest) a w active

      told : line.0 ≤ c.time + wait + turn
      told = active_told line rest c v active_c

      now : b.time ≡ max line.0 c.time
      now = line_time n late timing limits line rest c v

      last : ℕ
      last = c.time + wait + x.policy.next_poll

      active_x : IsActive x.manager x.policy
      active_x =
          lasts_quietly IsActive active_lasts line c g.none_leaves.0 (line_quiet n late timing limits line rest c v)
          (line_awake n late timing limits line rest c v) active_c

      soon_more : (p : Policy) (m k : ℕ) → m ≤ k → IsDueSoon m p → IsDueSoon k p
      soon_more p m k more s =
          record {
            rests = s.rests;
            earliest = let i = s.earliest in omega (arith, i, more);
            wanted = let i = s.wanted in omega (arith, i, more);
            regular = λ master wanted. let i = s.regular master wanted in omega (arith, i, more);
          }

      ready : IsReady 16 last x
      ready =
          record {
            soon = soon_more x.policy (c.time + wait) last (omega arith)
                (still_soon (c.time + wait) line g.none_leaves.0 c (soon_is n late timing limits (line ∷ rest) c v rests));
            idle = idle;
            state = record {
              info = active_x.0;
              idle = over_then n late timing limits line rest c v idle;
              active = active_x.1;
              few = need_few x.manager.standing.state x.policy.master x.manager.standing.polls_lost x.policy.masterless x.policy.gaps;
              poll = λ e. (knows_then line c ∙ e, omega arith);
            };
            knows = knows_then line c;
          }

      sum : (t i l j m d w e : ℕ) → i ≤ t + (m + 1) * d → l ≤ i + w + d → j ≡ max l i → j + w + e ≤ t + (m + 2) * d + 2 * w + e
      sum t i l j m d w e first told now = omega (arith, first, told, now)

      few : (j m d w : ℕ) → j + (m + 3) * d + (15 * ((m + 4) * d) + 15 * w) ≤ j + w + bound w ((m + 4) * d) 16
      few j m d w = omega arith

  rests_first : (lines : List Line) (a : Acting) → Calm lines a → IsActive a.manager a.policy → a.policy.activity ≡ activity.Rests
      → FoundBy (a.time + (n + 2) * turn + 2 * wait + all) lines a
  rests_first lines a c active rests = by_idle (is_idle a.window) refl
    where
      by_lines : (ls : List Line) → Calm ls a → is_idle a.window ≡ true → FoundBy (a.time + (n + 2) * turn + 2 * wait + all) ls a
      by_lines [] c idle = inr (omega arith)
      by_lines (line ∷ rest) c idle =
          from_first [] line rest a c active rests (omega arith)
          (idle_then line a (line_goes n late timing limits line rest a c) (line_quiet n late timing limits line rest a c)
          (line_awake n late timing limits line rest a c) (ap is_resting rests) idle)

      -- the time of its requests
      busy_time : (ls : List Line) → GoesOn a ls → HasFewTurns n ls a → ArePrompt late ls a → is_idle a.window ≡ false → StaysBusy ls a
          → (after_lines ls a).time ≤ a.time + (n + 1) * turn
      busy_time ls g few prompt busy stays =
          let on = windows_empty a ls g.decided g.tries g.outstanding g.stays_on g.none_leaves busy stays in
          longer a.time (turns_until ls a) n turn (after_lines ls a).time (few [] ls [] (sym (append-nil ls)))
          (subst (λ (l : Limits). (after_lines ls a).time ≤ a.time + (turns_until ls a + 1) * longest_turn late l) c.limits_is (on.soon late prompt))

      by_first : is_idle a.window ≡ false → FirstIdle lines a → FoundBy (a.time + (n + 2) * turn + 2 * wait + all) lines a
      by_first busy (AllBusy stays) =
          inr (more a.time (after_lines lines a).time n turn (2 * wait) all (busy_time lines c.goes c.few c.prompt busy stays))
        where
          more : (t end m d e i : ℕ) → end ≤ t + (m + 1) * d → end ≤ t + (m + 2) * d + e + i
          more t end m d e i h = omega (arith, h)
      by_first busy (At some line rest is stays idle) =
          let w = subst (λ ls. Calm ls a) is c in
          subst (λ ls. FoundBy (a.time + (n + 2) * turn + 2 * wait + all) ls a) (sym is)
          (from_first some line rest a w active (stay_about some (line ∷ rest) a w stays ∙ rests)
          (busy_time some (goes_first some (line ∷ rest) a w.goes) (few_first n some (line ∷ rest) a w.few) (prompt_first late some (line ∷ rest) a w.prompt) busy
          stays) idle)

      by_idle : (b : Bool) → is_idle a.window ≡ b → FoundBy (a.time + (n + 2) * turn + 2 * wait + all) lines a
      by_idle true idle = by_lines lines c idle
      by_idle false busy = by_first busy (first_idle lines a)

  -- what it is about at first ---------------------------------------------------------------------------------------------------------

  -- after so many other things it rests
  abbrev Goes : ℕ → (Activity → Bool) → Type 0
  Goes r test =
      (lines : List Line) (a : Acting) → Calm lines a → IsActive a.manager a.policy → test a.policy.activity ≡ true
      → FoundBy (a.time + r * ((n + 3) * turn) + ((n + 2) * turn + 2 * wait + all)) lines a

  module _ (r : ℕ) (test : Activity → Bool)
      (past : (a : Acting) → test a.policy.activity ≡ true → test (acted_in a.policy.activity a).policy.activity ≡ false)
      (no_rest : (what : Activity) → test what ≡ true → is_resting what ≡ false) (next : Activity → Bool) (after : Goes r next)
      (follows : (v w : Activity) → test v ≡ true → may_follow v w ≡ true → test w ≡ false → next w ≡ true) where
    stage : Goes (suc r) test
    stage lines a c active about = by_split (split test lines a)
      where
        by : ℕ
        by = a.time + suc r * ((n + 3) * turn) + ((n + 2) * turn + 2 * wait + all)

        time_of : (ls : List Line) → GoesOn a ls → StaysAbout test ls a → HasFewTurns n ls a → ArePrompt late ls a
            → (after_lines ls a).time ≤ a.time + (n + 2) * turn
        time_of ls g stays few prompt =
            subst (λ (l : Limits). (after_lines ls a).time ≤ a.time + (n + 2) * longest_turn late l) c.limits_is
            (stage_time test past no_rest n late ls a g.decided g.tries g.outstanding g.stays_on g.none_leaves about stays few prompt)

        whole : (t end m d e i : ℕ) → end ≤ t + (m + 2) * d → end ≤ t + suc i * ((m + 3) * d) + e
        whole t end m d e i h = omega (arith, h)

        sum : (t i l j m d e k : ℕ) → i ≤ t + (m + 2) * d → l ≤ i + d → j ≡ max l i → j + k * ((m + 3) * d) + e ≤ t + suc k * ((m + 3) * d) + e
        sum t i l j m d e k first told now = omega (arith, first, told, now)

        by_split : Split test lines a → FoundBy by lines a
        by_split (Whole stays) =
            inr (whole a.time (after_lines lines a).time n turn ((n + 2) * turn + 2 * wait + all) r (time_of lines c.goes stays c.few c.prompt))
        by_split (Ends some line rest is stays ends) =
            let w = subst (λ ls. Calm ls a) is c in
            let d = after_lines some a in
            let v = calm_later n late timing limits some (line ∷ rest) a w in
            let g = line_goes n late timing limits line rest d v in
            let about_d = about_last test some a about stays in
            let first = time_of some (goes_first some (line ∷ rest) a w.goes) stays (few_first n some (line ∷ rest) a w.few)
            (prompt_first late some (line ∷ rest) a w.prompt) in
            let told : line.0 ≤ d.time + turn =
            subst (λ (l : Limits). line.0 ≤ d.time + longest_turn late l) v.limits_is
            (line_told late line d g.decided g.outstanding g.stays_on (no_rest d.policy.activity about_d) v.prompt.0) in
            let active_d = stay_active some (line ∷ rest) a w active in
            let active_b = line_active line d g (line_quiet n late timing limits line rest d v) (line_awake n late timing limits line rest d v) active_d in
            let about_b = follows d.policy.activity (after_line line d).policy.activity about_d (works_in_turn d line g.decided g.tries g.stays_on g.none_leaves.0)
            ends in
            subst (λ ls. FoundBy by ls a) (sym is)
            (shifted some line rest a _ by
            (sum a.time d.time line.0 (after_line line d).time n turn ((n + 2) * turn + 2 * wait + all) r first told (line_time n late timing limits line rest d v))
            (after rest (after_line line d) (calm_line n late timing limits line rest d v) active_b about_b))

  resting_goes : Goes 0 is_resting
  resting_goes lines a c active about =
      found_by (a.time + (n + 2) * turn + 2 * wait + all) (a.time + 0 * ((n + 3) * turn) + ((n + 2) * turn + 2 * wait + all)) lines a (omega arith)
      (rests_first lines a c active (rest_is a.policy.activity about))

  handing_follows : (v w : Activity) → is_handing v ≡ true → may_follow v w ≡ true → is_handing w ≡ false → is_resting w ≡ true
  handing_follows activity.Hands activity.Rests e follows f = refl
  handing_follows activity.Hands activity.Hands e follows f = absurd (cc)
  handing_follows activity.Hands activity.Sweeps e follows f = absurd (cc)
  handing_follows activity.Hands activity.Writes e follows f = absurd (cc)
  handing_follows activity.Rests w e follows f = absurd (cc)
  handing_follows activity.Sweeps w e follows f = absurd (cc)
  handing_follows activity.Writes w e follows f = absurd (cc)

  handing_goes : Goes 1 is_handing
  handing_goes = stage 0 is_handing (λ b. hands_past b.policy.activity b) no_handing_rests is_resting resting_goes handing_follows

  -- whether it rests or hands over
  abbrev calm_down : Activity → Bool
  calm_down what = not (is_sweeping what) && not (is_writing what)

  hands_or_rests : Goes 1 calm_down
  hands_or_rests lines a c active about = by_what a.policy.activity refl
    where
      by_what : (what : Activity) → a.policy.activity ≡ what
          → FoundBy (a.time + 1 * ((n + 3) * turn) + ((n + 2) * turn + 2 * wait + all)) lines a
      by_what activity.Hands e = handing_goes lines a c active (ap is_handing e)
      by_what activity.Rests e =
          found_by (a.time + 0 * ((n + 3) * turn) + ((n + 2) * turn + 2 * wait + all))
          (a.time + 1 * ((n + 3) * turn) + ((n + 2) * turn + 2 * wait + all)) lines a (omega arith)
          (resting_goes lines a c active (ap is_resting e))
      by_what activity.Sweeps e = let wrong : true ≡ false = sym about ∙ ap calm_down e in absurd (cc)
      by_what activity.Writes e = let wrong : true ≡ false = sym about ∙ ap calm_down e in absurd (cc)

  writing_follows : (v w : Activity) → is_writing v ≡ true → may_follow v w ≡ true → is_writing w ≡ false → calm_down w ≡ true
  writing_follows activity.Writes activity.Rests e follows f = refl
  writing_follows activity.Writes activity.Hands e follows f = refl
  writing_follows activity.Writes activity.Sweeps e follows f = absurd (cc)
  writing_follows activity.Writes activity.Writes e follows f = absurd (cc)
  writing_follows activity.Rests w e follows f = absurd (cc)
  writing_follows activity.Sweeps w e follows f = absurd (cc)
  writing_follows activity.Hands w e follows f = absurd (cc)

  writing_goes : Goes 2 is_writing
  writing_goes = stage 1 is_writing (λ b. writings_past b.policy.activity b) no_writing_rests calm_down hands_or_rests writing_follows

  -- whether it does not sweep
  abbrev sweeps_not : Activity → Bool
  sweeps_not what = not (is_sweeping what)

  not_sweeping : Goes 2 sweeps_not
  not_sweeping lines a c active about = by_what a.policy.activity refl
    where
      more : FoundBy (a.time + 1 * ((n + 3) * turn) + ((n + 2) * turn + 2 * wait + all)) lines a
          → FoundBy (a.time + 2 * ((n + 3) * turn) + ((n + 2) * turn + 2 * wait + all)) lines a
      more = found_by _ _ lines a (omega arith)

      by_what : (what : Activity) → a.policy.activity ≡ what
          → FoundBy (a.time + 2 * ((n + 3) * turn) + ((n + 2) * turn + 2 * wait + all)) lines a
      by_what activity.Writes e = writing_goes lines a c active (ap is_writing e)
      by_what activity.Rests e = more (hands_or_rests lines a c active (ap calm_down e))
      by_what activity.Hands e = more (hands_or_rests lines a c active (ap calm_down e))
      by_what activity.Sweeps e = let wrong : true ≡ false = sym about ∙ ap sweeps_not e in absurd (cc)

  sweeping_goes : Goes 3 is_sweeping
  sweeping_goes =
      stage 2 is_sweeping (λ b. sweeps_past b.policy.activity b) no_sweep_rests sweeps_not not_sweeping (λ v w about follows ends. ap not ends)

  -- whatever it is about
  pub finds : (lines : List Line) (a : Acting) → Calm lines a → IsActive a.manager a.policy
      → FoundBy (a.time + 3 * ((n + 3) * turn) + ((n + 2) * turn + 2 * wait + all)) lines a
  finds lines a c active = by_sweep (is_sweeping a.policy.activity) refl
    where
      by_sweep : (b : Bool) → is_sweeping a.policy.activity ≡ b
          → FoundBy (a.time + 3 * ((n + 3) * turn) + ((n + 2) * turn + 2 * wait + all)) lines a
      by_sweep true e = sweeping_goes lines a c active e
      by_sweep false e =
          found_by (a.time + 2 * ((n + 3) * turn) + ((n + 2) * turn + 2 * wait + all))
          (a.time + 3 * ((n + 3) * turn) + ((n + 2) * turn + 2 * wait + all)) lines a (omega arith) (not_sweeping lines a c active (ap not e))

  -- from then on it is master
  pub stays_master : (lines : List Line) (a : Acting) → Calm lines a → IsLed a.manager a.policy → StaysMaster lines a
  stays_master [] a c led = led.master
  stays_master (line ∷ rest) a c led = (
    led.master,
    stays_master rest (after_line line a) (calm_line n late timing limits line rest a c)
        (line_led line a (line_goes n late timing limits line rest a c) (line_quiet n late timing limits line rest a c)
        (line_awake n late timing limits line rest a c) (info_is n late timing limits (line ∷ rest) a c) led),
  )

-- a lone manager is calm
pub lone_calm : (n late : ℕ) (a : Acting) (lines : List Line) (r : IsLone n a lines) → late ≤ pause → ArePrompt late lines a
    → IsCalm n late r.decided.timing a.window.limits lines a
lone_calm n late a lines r short prompt =
    record {
      goes = record { decided = r.decided; tries = r.tries; outstanding = r.outstanding; stays_on = r.stays_on; none_leaves = r.none_leaves };
      generations = r.generations;
      none_left = r.none_left;
      timing_is = refl;
      limits_is = refl;
      alone = r.alone;
      few = r.few;
      prompt = prompt;
      time = r.time;
      short = short;
    }

-- the moment at which it is master, if it is alone for so long
pub found_in_time : (n late : ℕ) (a : Acting) (lines : List Line) (r : IsLone n a lines) → late ≤ pause → ArePrompt late lines a
    → FoundBy (a.time + 17 * longest_wait r.decided.timing + (20 * (n + 4)) * longest_turn late a.window.limits) lines a
found_in_time n late a lines r short prompt =
    let c = lone_calm n late a lines r short prompt in
    found_by _ _ lines a (in_all a.time n (longest_turn late a.window.limits) (longest_wait r.decided.timing))
    (finds n late r.decided.timing a.window.limits lines a c (info_is n late r.decided.timing a.window.limits lines a c, r.active))
  where
    in_all : (t m d w : ℕ) → t + 3 * ((m + 3) * d) + ((m + 2) * d + 2 * w + bound w ((m + 4) * d) 16) ≤ t + 17 * w + (20 * (m + 4)) * d
    in_all t m d w = omega arith

pub lone_managers_lead_in_time : LoneManagersLeadInTime
lone_managers_lead_in_time n a lines r late short prompt long =
    elim (found_in_time n late a lines r short prompt) [
      | inl f ↦
          let c = lone_calm n late a lines r short prompt in
          record {
            first = f.first;
            later = f.later;
            are = f.are;
            master = stays_master n late r.decided.timing a.window.limits f.later (after_lines f.first a)
                (calm_later n late r.decided.timing a.window.limits f.first f.later a
                (subst (λ ls. IsCalm n late r.decided.timing a.window.limits ls a) f.are c)) f.led;
          }
      | inr few ↦ absurd (omega (arith, long, few))
    ]
