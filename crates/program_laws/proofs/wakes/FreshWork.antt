-- A manager that is to sweep ends its work on a new sweep before long, whatever it is about at first.
use Rattle.std.proofs.Common.{◌≡◌, ◌∙◌, ℕ, ◌+◌, ◌*◌, ◌<◌, ◌≤◌, ◌^◌, Bool, true, false, ◌&&◌, not, List, [], ◌∷◌, ◌++◌, refl, sym, ap, subst, arith}
use Rattle.std.proofs.lemmas.Bool.{and_parts}
use Rattle.std.specs.Prelude.{Option}
use Rattle.sm_state.specs.declared.state.SmState.{SmState}
use Rattle.sm_state.specs.declared.state.SmState.TheVariants.{NotActive, Discovering, Standby, Master}
use Rattle.sm_policy.specs.Policy.{is_sweeping}
use Rattle.sm_policy.specs.PolicyLaws.{longest_wait}
use Rattle.sm_policy.specs.declared.activity.Activity.{Activity}
use Rattle.sm_policy.specs.declared.activity.Activity.TheVariants as activity
use Rattle.sm_policy.specs.declared.rival.Rival.{Rival}
use Rattle.request_window.specs.declared.limits.Limits.{Limits}
use Rattle.acting_manager.specs.Acting.{Acting}
use Rattle.acting_manager.specs.Working.{is_idle, is_resting, is_writing, wake_of}
use Rattle.program_laws.specs.FreshWork.{EndNoFreshWork, WorksAgainInTime, works}
use Rattle.program_laws.specs.InTurn.{may_follow}
use Rattle.program_laws.specs.ManagedEnds.{StaysAbout}
use Rattle.program_laws.specs.NextSweep.{BeginNoSweep, HasFewTurns, begins_sweep}
use Rattle.program_laws.specs.RestTime.{sweeps_by_itself, sweeps_in}
use Rattle.program_laws.specs.Wakes.{ArePrompt, HasDecided, IsBy, Line, NoneLeaves, after_line, after_lines, longest_turn}
use Rattle.program_laws.proofs.wakes.AtSeats.{lines_both}
use Rattle.program_laws.proofs.wakes.Deciding.{sweeps_past, writings_past}
use Rattle.program_laws.proofs.wakes.InTime.{a_line_soon, has_soon}
use Rattle.program_laws.proofs.wakes.InTurn.{works_in_turn}
use Rattle.program_laws.proofs.wakes.News.{always_asks, times_rise}
use Rattle.program_laws.proofs.wakes.NextSweep.{Split, about_last, busy_told, few_first, few_later, has_more, line_told, lines_stay, no_sweep_rests}
use Rattle.program_laws.proofs.wakes.NextSweep.{no_writing_rests, none_first, none_later, prompt_first, prompt_later, same_limits, split, stage_time}
use Rattle.program_laws.proofs.wakes.NextSweep.{sweeps_again_in_time}
use Rattle.program_laws.proofs.wakes.NextSweep.Split.{Ends, Whole}

-- what is so of a manager that goes on ------------------------------------------------------------------------------------

-- the manager may go on, and does not leave through the lines
pub record GoesOn (a : Acting) (lines : List Line) : Type 0 where
  pub decided : HasDecided a
  pub tries : 1 ≤ a.window.limits.tries
  pub outstanding : 1 ≤ a.window.limits.outstanding
  pub stays_on : a.is_leaving ≡ false
  pub none_leaves : NoneLeaves lines

pub goes_first : (some rest : List Line) (a : Acting) → GoesOn a (some ++ rest) → GoesOn a some
goes_first some rest a g =
    record { decided = g.decided; tries = g.tries; outstanding = g.outstanding; stays_on = g.stays_on; none_leaves = none_first some rest g.none_leaves }

pub goes_later : (some rest : List Line) (a : Acting) → GoesOn a (some ++ rest) → GoesOn (after_lines some a) rest
goes_later some rest a g =
    let same = same_limits some a g.decided in
    record {
      decided = has_more a some (after_lines some a) refl g.decided;
      tries = subst (λ (l : Limits). 1 ≤ l.tries) (sym same) g.tries;
      outstanding = subst (λ (l : Limits). 1 ≤ l.outstanding) (sym same) g.outstanding;
      stays_on = lines_stay some a g.decided g.tries g.stays_on (none_first some rest g.none_leaves);
      none_leaves = none_later some rest g.none_leaves;
    }

pub goes_line : (line : Line) (rest : List Line) (a : Acting) → GoesOn a (line ∷ rest) → GoesOn (after_line line a) rest
goes_line line rest a = goes_later (line ∷ []) rest a

-- the work on a sweep -------------------------------------------------------------------------------------------------------

-- after a sweep, work is a writing
work_is : (what : Activity) → works what ≡ true → is_sweeping what ≡ false → is_writing what ≡ true
work_is activity.Writes e f = refl
work_is activity.Sweeps e f = absurd (cc)
work_is activity.Rests e f = absurd (cc)
work_is activity.Hands e f = absurd (cc)

-- a manager that writes and goes on working writes on
pub writes_on : (lines : List Line) (a : Acting) → GoesOn a lines → is_writing a.policy.activity ≡ true → StaysAbout works lines a
    → StaysAbout is_writing lines a
writes_on [] a g about stays = tt
writes_on (line ∷ lines) a g about stays =
    let b = after_line line a in
    let still = next a.policy.activity b.policy.activity about (works_in_turn a line g.decided g.tries g.stays_on g.none_leaves.0) stays.0 in
    (still, writes_on lines b (goes_line line lines a g) still stays.1)
  where
    next : (v w : Activity) → is_writing v ≡ true → may_follow v w ≡ true → works w ≡ true → is_writing w ≡ true
    next activity.Writes activity.Writes e follows f = refl
    next activity.Writes activity.Sweeps e follows f = absurd (cc)
    next activity.Writes activity.Rests e follows f = absurd (cc)
    next activity.Writes activity.Hands e follows f = absurd (cc)
    next activity.Rests w e follows f = absurd (cc)
    next activity.Sweeps w e follows f = absurd (cc)
    next activity.Hands w e follows f = absurd (cc)

works_later : (some rest : List Line) (a : Acting) → StaysAbout works (some ++ rest) a → StaysAbout works rest (after_lines some a)
works_later [] rest a s = s
works_later (line ∷ some) rest a s = works_later some rest (after_line line a) s.1

-- the work on a sweep that has just begun: at most so many turns
work_time : (n late : ℕ) (lines : List Line) (a : Acting) → GoesOn a lines → is_sweeping a.policy.activity ≡ true → StaysAbout works lines a
    → HasFewTurns n lines a → ArePrompt late lines a
    → (after_lines lines a).time ≤ a.time + (2 * n + 5) * longest_turn late a.window.limits
work_time n late lines a g about stays few prompt = by_split (split is_sweeping lines a)
  where
    turn : ℕ
    turn = longest_turn late a.window.limits

    alone : (t end n d : ℕ) → end ≤ t + (n + 2) * d → end ≤ t + (2 * n + 5) * d
    alone t end n d h = omega (arith, h)

    in_all : (t c b end n d : ℕ) → c ≤ t + (n + 2) * d → b ≤ c + d → end ≤ b + (n + 2) * d → end ≤ t + (2 * n + 5) * d
    in_all t c b end n d first then last = omega (arith, first, then, last)

    by_split : Split is_sweeping lines a → (after_lines lines a).time ≤ a.time + (2 * n + 5) * turn
    by_split (Whole s) =
        alone a.time (after_lines lines a).time n turn
        (stage_time is_sweeping (λ b. sweeps_past b.policy.activity b) no_sweep_rests n late lines a g.decided g.tries g.outstanding g.stays_on g.none_leaves
        about s few prompt)
    by_split (Ends some line rest is s ends) =
        let w = subst (GoesOn a) is g in
        let few' = subst (λ ls. HasFewTurns n ls a) is few in
        let stays' = works_later some (line ∷ rest) a (subst (λ ls. StaysAbout works ls a) is stays) in
        let p = subst (λ ls. ArePrompt late ls a) is prompt in
        let p' = prompt_later late some (line ∷ rest) a p in
        let here = goes_later some (line ∷ rest) a w in
        let then = goes_line line rest c here in
        let same = same_limits some a g.decided in
        let same' = same_limits (line ∷ []) c here.decided ∙ same in
        let about' = about_last is_sweeping some a about s in
        let first = stage_time is_sweeping (λ b. sweeps_past b.policy.activity b) no_sweep_rests n late some a g.decided g.tries g.outstanding g.stays_on
        (none_first some (line ∷ rest) w.none_leaves) about s (few_first n some (line ∷ rest) a few') (prompt_first late some (line ∷ rest) a p) in
        let told = subst (λ (l : Limits). line.0 ≤ c.time + longest_turn late l) same
        (line_told late line c here.decided here.outstanding here.stays_on (no_sweep_rests c.policy.activity about') p'.0) in
        let now = (a_line_soon c.window.limits line c (has_soon c here.decided)).time in
        let writes = work_is b.policy.activity stays'.0 ends in
        let last = stage_time is_writing (λ b. writings_past b.policy.activity b) no_writing_rests n late rest b then.decided then.tries then.outstanding
        then.stays_on then.none_leaves writes (writes_on rest b then writes stays'.1)
        (λ f mid l e. few_later n some (line ∷ rest) a few' (line ∷ f) mid l (ap (λ ls. line ∷ ls) e)) p'.1 in
        subst (λ (z : Acting). z.time ≤ a.time + (2 * n + 5) * turn) (sym (lines_both some (line ∷ rest) a) ∙ sym (ap (λ ls. after_lines ls a) is))
        (in_all a.time c.time b.time (after_lines rest b).time n turn first (omega (arith, told, now))
        (subst (λ (l : Limits). (after_lines rest b).time ≤ b.time + (n + 2) * longest_turn late l) same' last))
      where
        c : Acting
        c = after_lines some a

        b : Acting
        b = after_line line c

-- until a sweep begins --------------------------------------------------------------------------------------------------------

-- none of the lines begins a sweep, or one does, and the manager works from then on
data Fresh (lines : List Line) (a : Acting) : Type 0 where
  None_ : BeginNoSweep lines a → Fresh lines a
  Begun : (some : List Line) → (line : Line) → (rest : List Line) → lines ≡ some ++ line ∷ rest → BeginNoSweep some a
      → begins_sweep line (after_lines some a) ≡ true → StaysAbout works rest (after_line line (after_lines some a)) → Fresh lines a

works_through : (lines : List Line) (a : Acting) → EndNoFreshWork true lines a → StaysAbout works lines a
works_through [] a e = tt
works_through (line ∷ lines) a e = (e.0, works_through lines (after_line line a) e.1)

fresh : (lines : List Line) (a : Acting) → EndNoFreshWork false lines a → Fresh lines a
fresh [] a e = None_ tt
fresh (line ∷ lines) a e = by_begun (fresh lines (after_line line a)) (begins_sweep line a) refl
  where
    b : Acting
    b = after_line line a

    more : begins_sweep line a ≡ false → Fresh lines b → Fresh (line ∷ lines) a
    more none (None_ begun) = None_ (none, e.0, begun)
    more none (Begun some last rest is begun begins stays) = Begun (line ∷ some) last rest (ap (λ ls. line ∷ ls) is) (none, e.0, begun) begins stays

    by_begun : (EndNoFreshWork false lines b → Fresh lines b) → (x : Bool) → begins_sweep line a ≡ x → Fresh (line ∷ lines) a
    by_begun rest true is = Begun [] line lines refl tt is (works_through lines b (subst (λ x. EndNoFreshWork x lines b) is e.1))
    by_begun rest false is = more is (rest (subst (λ x. EndNoFreshWork x lines b) is e.1))

-- it sweeps by itself once it rests without a request
itself_last : (some : List Line) (a : Acting) → BeginNoSweep some a
    → (is_resting a.policy.activity ≡ true → is_idle a.window ≡ true → sweeps_by_itself a ≡ true)
    → is_resting (after_lines some a).policy.activity ≡ true → is_idle (after_lines some a).window ≡ true → sweeps_by_itself (after_lines some a) ≡ true
itself_last [] a none first = first
itself_last (line ∷ some) a none first = itself_last some (after_line line a) none.2 none.1.itself

is_active : (state : SmState) (master : Option Rival) → sweeps_in state master ≡ true → state ≡ NotActive → ⊥
is_active NotActive master e is = absurd (cc)
is_active Discovering master e is = absurd (cc)
is_active Standby master e is = absurd (cc)
is_active Master master e is = absurd (cc)

-- what begins a sweep was a rest
was_rest : (v w : Activity) → may_follow v w ≡ true → (not (is_sweeping v) && is_sweeping w) ≡ true → is_resting v ≡ true
was_rest activity.Rests w follows begins = refl
was_rest activity.Sweeps w follows begins = absurd (cc)
was_rest activity.Writes activity.Sweeps follows begins = absurd (cc)
was_rest activity.Writes activity.Rests follows begins = absurd (cc)
was_rest activity.Writes activity.Writes follows begins = absurd (cc)
was_rest activity.Writes activity.Hands follows begins = absurd (cc)
was_rest activity.Hands activity.Sweeps follows begins = absurd (cc)
was_rest activity.Hands activity.Rests follows begins = absurd (cc)
was_rest activity.Hands activity.Writes follows begins = absurd (cc)
was_rest activity.Hands activity.Hands follows begins = absurd (cc)

pub begun_is : (v w : Activity) → (not (is_sweeping v) && is_sweeping w) ≡ true → is_sweeping w ≡ true
begun_is v w e = (and_parts (not (is_sweeping v)) (is_sweeping w) e).1

-- a line that comes in time, while the manager rests and sweeps by itself
rest_told : (late : ℕ) (line : Line) (a : Acting) (h : HasDecided a) → 1 ≤ a.window.limits.outstanding → a.is_leaving ≡ false → a.time < 2 ^ 64
    → (is_idle a.window ≡ true → sweeps_by_itself a ≡ true) → IsBy late line.0 (wake_of a)
    → line.0 ≤ a.time + longest_wait h.timing + longest_turn late a.window.limits
rest_told late line a h room stays_on small itself prompt = by_idle (is_idle a.window) refl
  where
    by_idle : (b : Bool) → is_idle a.window ≡ b → line.0 ≤ a.time + longest_wait h.timing + longest_turn late a.window.limits
    by_idle true idle =
        let asks = always_asks a h room stays_on small (is_active a.policy.state a.policy.master (itself idle)) in
        let told : line.0 ≤ asks.wake + late = subst (IsBy late line.0) asks.is prompt in
        let soon = asks.soon in
        omega (arith, told, soon)
    by_idle false busy = let told = busy_told late line a h room stays_on prompt busy in omega (arith, told)

pub works_again_in_time : WorksAgainInTime
works_again_in_time n a lines w late prompt = by_fresh (fresh lines a w.none)
  where
    turn : ℕ
    turn = longest_turn late a.window.limits

    wait : ℕ
    wait = longest_wait w.decided.timing

    goes : GoesOn a lines
    goes = record { decided = w.decided; tries = w.tries; outstanding = w.outstanding; stays_on = w.stays_on; none_leaves = w.none_leaves }

    -- until the sweep begins
    rests_on : (some : List Line) → GoesOn a some → BeginNoSweep some a → HasFewTurns n some a → (after_lines some a).time < 2 ^ 64 → ArePrompt late some a
        → (after_lines some a).time ≤ a.time + wait + (4 * (n + 3)) * turn
    rests_on some g none few small p =
        sweeps_again_in_time n a some (record {
          decided = w.decided;
          first = w.first;
          none = none;
          few = few;
          tries = g.tries;
          outstanding = g.outstanding;
          stays_on = g.stays_on;
          none_leaves = g.none_leaves;
          time = small;
        }) late p

    alone : (t end v n d : ℕ) → end ≤ t + v + (4 * (n + 3)) * d → end ≤ t + 2 * v + (6 * (n + 3)) * d
    alone t end v n d h = omega (arith, h)

    in_all : (t c b end v n d : ℕ) → c ≤ t + v + (4 * (n + 3)) * d → b ≤ c + v + d → end ≤ b + (2 * n + 5) * d
        → end ≤ t + 2 * v + (6 * (n + 3)) * d
    in_all t c b end v n d first then last = omega (arith, first, then, last)

    by_fresh : Fresh lines a → (after_lines lines a).time ≤ a.time + 2 * wait + (6 * (n + 3)) * turn
    by_fresh (None_ none) = alone a.time (after_lines lines a).time wait n turn (rests_on lines goes none w.few w.time prompt)
    by_fresh (Begun some line rest is none begins stays) =
        let g = subst (GoesOn a) is goes in
        let few = subst (λ ls. HasFewTurns n ls a) is w.few in
        let p = subst (λ ls. ArePrompt late ls a) is prompt in
        let p' = prompt_later late some (line ∷ rest) a p in
        let here = goes_later some (line ∷ rest) a g in
        let then = goes_line line rest c here in
        let same = same_limits some a w.decided in
        let same' = same_limits (line ∷ []) c here.decided ∙ same in
        let end_is : after_lines lines a ≡ after_lines rest b = ap (λ ls. after_lines ls a) is ∙ lines_both some (line ∷ rest) a in
        let last_rises = times_rise b.window.limits rest b (has_soon b then.decided) in
        let line_time = (a_line_soon c.window.limits line c (has_soon c here.decided)).time in
        let end_small = subst (λ (z : Acting). z.time < 2 ^ 64) end_is w.time in
        let small : c.time < 2 ^ 64 = omega (arith, last_rises, line_time, end_small) in
        let first = rests_on some (goes_first some (line ∷ rest) a g) none (few_first n some (line ∷ rest) a few) small
        (prompt_first late some (line ∷ rest) a p) in
        let rests = was_rest c.policy.activity b.policy.activity (works_in_turn c line here.decided here.tries here.stays_on here.none_leaves.0) begins in
        let told = subst (λ (l : Limits). line.0 ≤ c.time + wait + longest_turn late l) same
        (rest_told late line c (has_more a some c refl w.decided) here.outstanding here.stays_on small (itself_last some a none w.first rests) p'.0) in
        let last = work_time n late rest b then (begun_is c.policy.activity b.policy.activity begins) stays
        (λ f mid l e. few_later n some (line ∷ rest) a few (line ∷ f) mid l (ap (λ ls. line ∷ ls) e)) p'.1 in
        subst (λ (z : Acting). z.time ≤ a.time + 2 * wait + (6 * (n + 3)) * turn) (sym end_is)
        (in_all a.time c.time b.time (after_lines rest b).time wait n turn first (omega (arith, told, line_time))
        (subst (λ (l : Limits). (after_lines rest b).time ≤ b.time + (2 * n + 5) * longest_turn late l) same' last))
      where
        c : Acting
        c = after_lines some a

        b : Acting
        b = after_line line c
