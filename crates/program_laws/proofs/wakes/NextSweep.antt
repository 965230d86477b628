-- A manager that is to sweep begins a sweep before long, whatever it is about at first.
use Rattle.std.proofs.Common.{◌≡◌, ◌∙◌, ℕ, zero, suc, ◌+◌, ◌*◌, ◌<◌, ◌≤◌, ◌^◌, Bool, true, false, ◌&&◌, not, List, [], ◌∷◌, ◌++◌, refl, sym, ap, subst, arith}
use Rattle.std.proofs.lemmas.Bool.{both_ways, cond_both, cond-true, cond-false}
use Rattle.std.proofs.lemmas.List.{append_assoc, append-nil}
use Rattle.std.proofs.lemmas.Nat.{mul-le}
use Rattle.std.specs.Prelude.{Some, max}
use Rattle.sm_policy.specs.Policy.{is_sweeping}
use Rattle.sm_policy.specs.PolicyLaws.{longest_wait}
use Rattle.sm_policy.specs.Resting.{due_in}
use Rattle.sm_policy.specs.declared.activity.Activity.{Activity}
use Rattle.sm_policy.specs.declared.activity.Activity.TheVariants as activity
use Rattle.request_window.specs.declared.limits.Limits.{Limits}
use Rattle.acting_manager.specs.Acting.{Acting, caught_up, collected}
use Rattle.acting_manager.specs.Acts.{acted, acted_in}
use Rattle.acting_manager.specs.Working.{acted_if_idle, given_away, is_given_up, is_idle, is_resting, is_writing, not_before, sent, wake_in, wake_of}
use Rattle.program_laws.specs.InTurn.{may_follow}
use Rattle.program_laws.specs.ManagedEnds.{StaysAbout}
use Rattle.program_laws.specs.NextSweep.{BeginNoSweep, HasFewTurns, IsWithoutSweep, SweepsAgainInTime}
use Rattle.program_laws.specs.RestTime.{RestsThrough}
use Rattle.program_laws.specs.Wakes.{ArePrompt, HasDecided, IsBy, Line, NoneLeaves, after_line, after_lines, before_deciding, longest_turn}
use Rattle.program_laws.specs.Wakes.{turns_until}
use Rattle.program_laws.proofs.wakes.AtSeats.{lines_both, longer}
use Rattle.program_laws.proofs.wakes.Deciding.{decides_past, gets_on, sweeps_past, writings_past}
use Rattle.program_laws.proofs.wakes.Empties.{first_due, sends_then}
use Rattle.program_laws.proofs.wakes.InTime.{a_line_soon, has_soon, lines_soon}
use Rattle.program_laws.proofs.wakes.InTurn.{works_in_turn}
use Rattle.program_laws.proofs.wakes.News.{times_rise}
use Rattle.program_laws.proofs.wakes.Resting.{rests_end_in_time}
use Rattle.program_laws.proofs.wakes.Sending.{Waits, due_wake, only_sends}
use Rattle.program_laws.proofs.wakes.Settled.{has_settled}
use Rattle.program_laws.proofs.wakes.Sweeping.{acts_leaving, looked_leaving}
use Rattle.program_laws.proofs.wakes.Waking.{Falls, any_falls}
use Rattle.program_laws.proofs.wakes.Lines.{so_first, so_later}

-- lines in two parts ----------------------------------------------------------------------------------------------------

abbrev pub has_more : (a : Acting) (lines : List Line) (b : Acting) → after_lines lines a ≡ b → HasDecided a → HasDecided b
has_more a lines b is h =
    record {
      port_guid = h.port_guid;
      port = h.port;
      priority = h.priority;
      conduct = h.conduct;
      planning = h.planning;
      timing = h.timing;
      limits = h.limits;
      newest = h.newest;
      lines = h.lines ++ lines;
      are = lines_both h.lines lines _ ∙ ap (after_lines lines) h.are ∙ is;
    }

pub none_first : (some rest : List Line) → NoneLeaves (some ++ rest) → NoneLeaves some
none_first [] rest n = tt
none_first (line ∷ some) rest n = (n.0, none_first some rest n.1)

pub none_later : (some rest : List Line) → NoneLeaves (some ++ rest) → NoneLeaves rest
none_later [] rest n = n
none_later (line ∷ some) rest n = none_later some rest n.1

pub prompt_first : (late : ℕ) (some rest : List Line) (a : Acting) → ArePrompt late (some ++ rest) a → ArePrompt late some a
prompt_first late = so_first (λ line a. IsBy late line.0 (wake_of a))

pub prompt_later : (late : ℕ) (some rest : List Line) (a : Acting) → ArePrompt late (some ++ rest) a → ArePrompt late rest (after_lines some a)
prompt_later late = so_later (λ line a. IsBy late line.0 (wake_of a))

begin_later : (some rest : List Line) (a : Acting) → BeginNoSweep (some ++ rest) a → BeginNoSweep rest (after_lines some a)
begin_later [] rest a b = b
begin_later (line ∷ some) rest a b = begin_later some rest (after_line line a) b.2

-- the manager stays about what passes the test through all lines, or some line ends it
pub data Split (test : Activity → Bool) (lines : List Line) (a : Acting) : Type 0 where
  Whole : StaysAbout test lines a → Split test lines a
  Ends : (some : List Line) → (line : Line) → (rest : List Line) → lines ≡ some ++ line ∷ rest → StaysAbout test some a
      → test (after_line line (after_lines some a)).policy.activity ≡ false → Split test lines a

pub split : (test : Activity → Bool) (lines : List Line) (a : Acting) → Split test lines a
split test [] a = Whole tt
split test (line ∷ lines) a = by_test (split test lines (after_line line a)) (test (after_line line a).policy.activity) refl
  where
    more : test (after_line line a).policy.activity ≡ true → Split test lines (after_line line a) → Split test (line ∷ lines) a
    more e (Whole stays) = Whole (e, stays)
    more e (Ends some last rest is stays ends) = Ends (line ∷ some) last rest (ap (λ ls. line ∷ ls) is) (e, stays) ends

    by_test : Split test lines (after_line line a) → (b : Bool) → test (after_line line a).policy.activity ≡ b → Split test (line ∷ lines) a
    by_test rest true e = more e rest
    by_test rest false e = Ends [] line lines refl tt e

pub about_last : (test : Activity → Bool) (some : List Line) (a : Acting) → test a.policy.activity ≡ true → StaysAbout test some a
    → test (after_lines some a).policy.activity ≡ true
about_last test [] a about stays = about
about_last test (line ∷ some) a about stays = about_last test some (after_line line a) stays.0 stays.1

-- a manager that is told nothing to leave does not leave
pub line_stays : (line : Line) (a : Acting) → HasDecided a → 1 ≤ a.window.limits.tries → a.is_leaving ≡ false → NoneLeaves (line ∷ [])
    → (after_line line a).is_leaving ≡ false
line_stays line a h some stays_on remains = by_idle (is_idle x.window) refl
  where
    x : Acting
    x = before_deciding line a

    y : Acting
    y = acted_if_idle x

    fell : Falls a.window.limits some 0 line a x
    fell = any_falls a.window.limits some line a (record { same = refl; whole = (has_settled a h).whole }) remains.0

    by_idle : (b : Bool) → is_idle x.window ≡ b → (after_line line a).is_leaving ≡ false
    by_idle true idle =
        (only_sends y).leaving ∙ ap (λ (b : Acting). b.is_leaving) (cond-true (is_idle x.window) (caught_up (acted x)) x idle)
        ∙ looked_leaving (collected (acted x)) ∙ acts_leaving x ∙ fell.leaving ∙ stays_on
    by_idle false left =
        (only_sends y).leaving ∙ ap (λ (b : Acting). b.is_leaving) (cond-false (is_idle x.window) (caught_up (acted x)) x left)
        ∙ fell.leaving ∙ stays_on

pub lines_stay : (lines : List Line) (a : Acting) → HasDecided a → 1 ≤ a.window.limits.tries → a.is_leaving ≡ false → NoneLeaves lines
    → (after_lines lines a).is_leaving ≡ false
lines_stay [] a h some stays_on remains = stays_on
lines_stay (line ∷ lines) a h some stays_on remains =
    let b = after_line line a in
    lines_stay lines b (has_more a (line ∷ []) b refl h)
    (subst (λ (l : Limits). 1 ≤ l.tries) (sym (a_line_soon a.window.limits line a (has_soon a h)).same) some)
    (line_stays line a h some stays_on (remains.0, tt)) remains.1

pub same_limits : (lines : List Line) (a : Acting) → HasDecided a → (after_lines lines a).window.limits ≡ a.window.limits
same_limits lines a h = (lines_soon a.window.limits lines a (has_soon a h)).same

-- a line that comes in time ----------------------------------------------------------------------------------------------

asked : (a : Acting) → a.is_leaving ≡ false → wake_of a ≡ not_before a.time (wake_in a)
asked a stays_on = cond-false (a.is_leaving && is_resting a.policy.activity) _ _ (ap (λ b. b && is_resting a.policy.activity) stays_on)

-- while a manager has requests, a line comes at most a turn later
pub busy_told : (late : ℕ) (line : Line) (a : Acting) → HasDecided a → 1 ≤ a.window.limits.outstanding → a.is_leaving ≡ false → IsBy late line.0 (wake_of a)
    → is_idle a.window ≡ false → line.0 ≤ a.time + longest_turn late a.window.limits
busy_told late line a h room stays_on prompt busy =
    let settled = has_settled a h in
    let asks = settled.asks stays_on busy room in
    let soon = due_wake (a.time + 3 * a.window.limits.timeout) a (first_due a (has_soon a h) (settled.out stays_on busy room)) stays_on busy
    asks.wake asks.is in
    let told : line.0 ≤ asks.wake + late = subst (IsBy late line.0) asks.is prompt in
    omega (arith, told, soon)

-- and so while it is about anything but a rest: at once if it has no request
idle_told : (late : ℕ) (line : Line) (a : Acting) → a.is_leaving ≡ false → is_resting a.policy.activity ≡ false → IsBy late line.0 (wake_of a)
    → is_idle a.window ≡ true → line.0 ≤ a.time + late
idle_told late line a stays_on about prompt idle =
    let wake : wake_of a ≡ Some (max a.time a.time) =
    asked a stays_on ∙ ap (not_before a.time)
    (cond_both (is_given_up a) (Some a.time) _ (λ o. o ≡ Some a.time) (λ _. refl)
    (λ _. cond-true (is_idle a.window) _ _ idle ∙ due_now a.policy.activity refl about)) in
    let told : line.0 ≤ max a.time a.time + late = subst (IsBy late line.0) wake prompt in
    omega (arith, told)
  where
    due_now : (what : Activity) → a.policy.activity ≡ what → is_resting what ≡ false → due_in a.policy.activity a.time a.policy ≡ Some a.time
    due_now activity.Rests e is = absurd (cc)
    due_now activity.Sweeps e is = ap (λ w. due_in w a.time a.policy) e
    due_now activity.Writes e is = ap (λ w. due_in w a.time a.policy) e
    due_now activity.Hands e is = ap (λ w. due_in w a.time a.policy) e

pub line_told : (late : ℕ) (line : Line) (a : Acting) → HasDecided a → 1 ≤ a.window.limits.outstanding → a.is_leaving ≡ false
    → is_resting a.policy.activity ≡ false → IsBy late line.0 (wake_of a) → line.0 ≤ a.time + longest_turn late a.window.limits
line_told late line a h room stays_on about prompt = by_idle (is_idle a.window) refl
  where
    by_idle : (b : Bool) → is_idle a.window ≡ b → line.0 ≤ a.time + longest_turn late a.window.limits
    by_idle true idle = let told = idle_told late line a stays_on about prompt idle in omega (arith, told)
    by_idle false busy = busy_told late line a h room stays_on prompt busy

-- what a manager is about, other than a rest -----------------------------------------------------------------------------

abbrev pub is_handing : Activity → Bool
is_handing activity.Hands = true
is_handing what = false

pub hands_past : (what : Activity) (a : Acting) → is_handing what ≡ true → is_handing (acted_in what a).policy.activity ≡ false
hands_past activity.Hands a e = refl
hands_past activity.Rests a e = absurd (cc)
hands_past activity.Sweeps a e = absurd (cc)
hands_past activity.Writes a e = absurd (cc)

module _ (test : Activity → Bool) (past : (a : Acting) → test a.policy.activity ≡ true → test (acted_in a.policy.activity a).policy.activity ≡ false)
    (no_rest : (what : Activity) → test what ≡ true → is_resting what ≡ false) where
  -- it is over in time
  pub stage_time : (n late : ℕ) (lines : List Line) (a : Acting) → HasDecided a → 1 ≤ a.window.limits.tries → 1 ≤ a.window.limits.outstanding
      → a.is_leaving ≡ false → NoneLeaves lines → test a.policy.activity ≡ true → StaysAbout test lines a → HasFewTurns n lines a → ArePrompt late lines a
      → (after_lines lines a).time ≤ a.time + (n + 2) * longest_turn late a.window.limits
  stage_time n late lines a h some room stays_on remains about stays few prompt = by_idle (is_idle a.window) refl
    where
      turn : ℕ
      turn = longest_turn late a.window.limits

      in_all : (t now end n d late : ℕ) → now ≤ t + late → end ≤ now + (n + 1) * (d + late) → end ≤ t + (n + 2) * (d + late)
      in_all t now end n d late first more = omega (arith, first, more)

      by_lines : (ls : List Line) → lines ≡ ls → is_idle a.window ≡ true → (after_lines ls a).time ≤ a.time + (n + 2) * turn
      by_lines [] e idle = omega arith
      by_lines (line ∷ rest) e idle =
          let is = e in
          by_left (is_idle (before_deciding line a).window) refl
          (subst NoneLeaves is remains) (subst (λ ls. StaysAbout test ls a) is stays) (subst (λ ls. ArePrompt late ls a) is prompt)
          (few (line ∷ []) rest [] (is ∙ nothing_more rest))
        where
          x : Acting
          x = before_deciding line a

          b : Acting
          b = after_line line a

          nothing_more : (ls : List Line) → line ∷ ls ≡ (line ∷ []) ++ (ls ++ [])
          nothing_more ls = ap (λ l. line ∷ l) (sym (append-nil ls))

          by_left : (l : Bool) → is_idle x.window ≡ l → NoneLeaves (line ∷ rest) → StaysAbout test (line ∷ rest) a → ArePrompt late (line ∷ rest) a
              → turns_until rest b ≤ n → (after_lines rest b).time ≤ a.time + (n + 2) * turn
          by_left true none remains stays prompt few =
              let fell = any_falls a.window.limits some line a (record { same = refl; whole = (has_settled a h).whole }) remains.0 in
              let ended : test b.policy.activity ≡ false =
              subst (λ (y : Acting). test (sent y).policy.activity ≡ false) (sym (cond-true (is_idle x.window) (caught_up (acted x)) x none))
              (decides_past test past x (fell.leaving ∙ stays_on) (ap test fell.about ∙ about)) in
              let wrong : true ≡ false = sym stays.0 ∙ ended in
              absurd (cc)
          by_left false left remains stays prompt few =
              let fell = any_falls a.window.limits some line a (record { same = refl; whole = (has_settled a h).whole }) remains.0 in
              let gone = sends_then a.window.limits some room 0 line a x stays_on left fell in
              let after : b ≡ given_away (sent x) = ap (λ (y : Acting). given_away (sent y)) (cond-false (is_idle x.window) (caught_up (acted x)) x left) in
              let waits : Waits b = subst Waits (sym after) gone.waits in
              let same = same_limits (line ∷ []) a h in
              let on = gets_on test past b rest (has_more a (line ∷ []) b refl h) (subst (λ (l : Limits). 1 ≤ l.tries) (sym same) some)
              (subst (λ (l : Limits). 1 ≤ l.outstanding) (sym same) room) (line_stays line a h some stays_on (remains.0, tt)) remains.1
              waits.busy stays.0 stays.1 in
              let soon = longer b.time (turns_until rest b) n turn (after_lines rest b).time few
              (subst (λ (l : Limits). (after_lines rest b).time ≤ b.time + (turns_until rest b + 1) * longest_turn late l) same (on.soon late prompt.1)) in
              let told = idle_told late line a stays_on (no_rest a.policy.activity about) prompt.0 idle in
              let now = (a_line_soon a.window.limits line a (has_soon a h)).time in
              in_all a.time b.time (after_lines rest b).time n (3 * a.window.limits.timeout) late (omega (arith, told, now)) soon

      by_idle : (b : Bool) → is_idle a.window ≡ b → (after_lines lines a).time ≤ a.time + (n + 2) * turn
      by_idle true idle = by_lines lines refl idle
      by_idle false busy =
          let on = gets_on test past a lines h some room stays_on remains busy about stays in
          let soon = longer a.time (turns_until lines a) n turn (after_lines lines a).time (few [] lines [] (sym (append-nil lines))) (on.soon late prompt) in
          shorter a.time (after_lines lines a).time n turn soon
        where
          shorter : (t end n d : ℕ) → end ≤ t + (n + 1) * d → end ≤ t + (n + 2) * d
          shorter t end n d h = omega (arith, h)

-- parts of lines ------------------------------------------------------------------------------------------------------------

pub few_later : (n : ℕ) (some rest : List Line) (a : Acting) → HasFewTurns n (some ++ rest) a → HasFewTurns n rest (after_lines some a)
few_later n some rest a few first mid last is =
    subst (λ (b : Acting). turns_until mid b ≤ n) (lines_both some first a)
    (few (some ++ first) mid last (ap (λ ls. some ++ ls) is ∙ sym (append_assoc some first (mid ++ last))))

pub few_first : (n : ℕ) (some rest : List Line) (a : Acting) → HasFewTurns n (some ++ rest) a → HasFewTurns n some a
few_first n some rest a few first mid last is =
    few first mid (last ++ rest)
    (ap (λ ls. ls ++ rest) is ∙ append_assoc first (mid ++ last) rest ∙ ap (λ ls. first ++ ls) (append_assoc mid last rest))

-- what is so once some lines were told
abbrev later : (n : ℕ) (some : List Line) (line : Line) (rest : List Line) (a : Acting) → IsWithoutSweep n a (some ++ line ∷ rest)
    → IsWithoutSweep n (after_line line (after_lines some a)) rest
later n some line rest a w =
    let c = after_lines some a in
    let here = has_more a some c refl w.decided in
    let goes_on = begin_later some (line ∷ rest) a w.none in
    let remains = none_later some (line ∷ rest) w.none_leaves in
    let same = same_limits some a w.decided in
    let then = same_limits (line ∷ []) c here ∙ same in
    record {
      decided = has_more a (some ++ line ∷ []) (after_line line c) (lines_both some (line ∷ []) a) w.decided;
      first = goes_on.1.itself;
      none = goes_on.2;
      few = λ first mid last is. few_later n some (line ∷ rest) a w.few (line ∷ first) mid last (ap (λ ls. line ∷ ls) is);
      tries = subst (λ (l : Limits). 1 ≤ l.tries) (sym then) w.tries;
      outstanding = subst (λ (l : Limits). 1 ≤ l.outstanding) (sym then) w.outstanding;
      stays_on = line_stays line c here (subst (λ (l : Limits). 1 ≤ l.tries) (sym same) w.tries)
          (lines_stay some a w.decided w.tries w.stays_on (none_first some (line ∷ rest) w.none_leaves)) (remains.0, tt);
      none_leaves = remains.1;
      time = subst (λ (b : Acting). b.time < 2 ^ 64) (lines_both some (line ∷ rest) a) w.time;
    }

-- rests -----------------------------------------------------------------------------------------------------------------------

next_rest : (v w : Activity) → is_resting v ≡ true → may_follow v w ≡ true → (not (is_sweeping v) && is_sweeping w) ≡ false → is_resting w ≡ true
next_rest activity.Rests activity.Rests rests follows none = refl
next_rest activity.Rests activity.Sweeps rests follows none = absurd (cc)
next_rest activity.Rests activity.Writes rests follows none = absurd (cc)
next_rest activity.Rests activity.Hands rests follows none = absurd (cc)
next_rest activity.Sweeps w rests follows none = absurd (cc)
next_rest activity.Writes w rests follows none = absurd (cc)
next_rest activity.Hands w rests follows none = absurd (cc)

rests_through : (lines : List Line) (a : Acting) → HasDecided a → 1 ≤ a.window.limits.tries → a.is_leaving ≡ false → NoneLeaves lines
    → is_resting a.policy.activity ≡ true → BeginNoSweep lines a → RestsThrough lines a
rests_through [] a h some stays_on remains rests none = tt
rests_through (line ∷ lines) a h some stays_on remains rests none =
    let b = after_line line a in
    let still = next_rest a.policy.activity b.policy.activity rests (works_in_turn a line h some stays_on remains.0) none.0 in (
      still,
      none.1.may rests,
      rests_through lines b (has_more a (line ∷ []) b refl h)
          (subst (λ (l : Limits). 1 ≤ l.tries) (sym (same_limits (line ∷ []) a h)) some)
          (line_stays line a h some stays_on (remains.0, tt)) remains.1 still none.2,
    )

rest_time : (n late : ℕ) (lines : List Line) (a : Acting) (w : IsWithoutSweep n a lines) → is_resting a.policy.activity ≡ true → ArePrompt late lines a
    → (after_lines lines a).time ≤ a.time + longest_wait w.decided.timing + (n + 1) * longest_turn late a.window.limits
rest_time n late lines a w rests prompt =
    let rises = times_rise a.window.limits lines a (has_soon a w.decided) in
    let small = w.time in
    longer (a.time + longest_wait w.decided.timing) (turns_until lines a) n (longest_turn late a.window.limits) (after_lines lines a).time
    (w.few [] lines [] (sym (append-nil lines)))
    (rests_end_in_time a lines (record {
      decided = w.decided;
      rests = rests;
      first = w.first rests;
      goes_on = rests_through lines a w.decided w.tries w.stays_on w.none_leaves rests w.none;
      tries = w.tries;
      outstanding = w.outstanding;
      stays_on = w.stays_on;
      none_leaves = w.none_leaves;
      time = omega (arith, rises, small);
    }) late prompt)

-- one thing after the other -----------------------------------------------------------------------------------------------------

-- how many things may follow before a rest
abbrev rank : Activity → ℕ
rank activity.Rests = 0
rank activity.Hands = 1
rank activity.Writes = 2
rank activity.Sweeps = 3

falls_rank : (test : Activity → Bool) (v w : Activity) → may_follow v w ≡ true → (not (is_sweeping v) && is_sweeping w) ≡ false → test v ≡ true → test w ≡ false
    → suc (rank w) ≤ rank v
falls_rank test activity.Rests activity.Rests follows none is other = absurd (both_ways _ other is)
falls_rank test activity.Rests activity.Sweeps follows none is other = absurd (cc)
falls_rank test activity.Rests activity.Writes follows none is other = absurd (cc)
falls_rank test activity.Rests activity.Hands follows none is other = absurd (cc)
falls_rank test activity.Sweeps activity.Rests follows none is other = omega arith
falls_rank test activity.Sweeps activity.Sweeps follows none is other = absurd (both_ways _ other is)
falls_rank test activity.Sweeps activity.Writes follows none is other = omega arith
falls_rank test activity.Sweeps activity.Hands follows none is other = omega arith
falls_rank test activity.Writes activity.Rests follows none is other = omega arith
falls_rank test activity.Writes activity.Sweeps follows none is other = absurd (cc)
falls_rank test activity.Writes activity.Writes follows none is other = absurd (both_ways _ other is)
falls_rank test activity.Writes activity.Hands follows none is other = omega arith
falls_rank test activity.Hands activity.Rests follows none is other = omega arith
falls_rank test activity.Hands activity.Sweeps follows none is other = absurd (cc)
falls_rank test activity.Hands activity.Writes follows none is other = absurd (cc)
falls_rank test activity.Hands activity.Hands follows none is other = absurd (both_ways _ other is)

stays_rank : (v w : Activity) → may_follow v w ≡ true → (not (is_sweeping v) && is_sweeping w) ≡ false → rank w ≤ rank v
stays_rank activity.Rests activity.Rests follows none = omega arith
stays_rank activity.Rests activity.Sweeps follows none = absurd (cc)
stays_rank activity.Rests activity.Writes follows none = absurd (cc)
stays_rank activity.Rests activity.Hands follows none = absurd (cc)
stays_rank activity.Sweeps activity.Rests follows none = omega arith
stays_rank activity.Sweeps activity.Sweeps follows none = omega arith
stays_rank activity.Sweeps activity.Writes follows none = omega arith
stays_rank activity.Sweeps activity.Hands follows none = omega arith
stays_rank activity.Writes activity.Rests follows none = omega arith
stays_rank activity.Writes activity.Sweeps follows none = absurd (cc)
stays_rank activity.Writes activity.Writes follows none = omega arith
stays_rank activity.Writes activity.Hands follows none = omega arith
stays_rank activity.Hands activity.Rests follows none = omega arith
stays_rank activity.Hands activity.Sweeps follows none = absurd (cc)
stays_rank activity.Hands activity.Writes follows none = absurd (cc)
stays_rank activity.Hands activity.Hands follows none = omega arith

ranks_fall : (some rest : List Line) (a : Acting) → HasDecided a → 1 ≤ a.window.limits.tries → a.is_leaving ≡ false → NoneLeaves (some ++ rest)
    → BeginNoSweep (some ++ rest) a → rank (after_lines some a).policy.activity ≤ rank a.policy.activity
ranks_fall [] rest a h tries stays_on remains none = omega arith
ranks_fall (line ∷ some) rest a h tries stays_on remains none =
    let b = after_line line a in
    let first = stays_rank a.policy.activity b.policy.activity (works_in_turn a line h tries stays_on remains.0) none.0 in
    let then = ranks_fall some rest b (has_more a (line ∷ []) b refl h)
    (subst (λ (l : Limits). 1 ≤ l.tries) (sym (same_limits (line ∷ []) a h)) tries)
    (line_stays line a h tries stays_on (remains.0, tt)) remains.1 none.2 in
    omega (arith, first, then)

-- how many turns what is left takes, if so many things may follow
abbrev turns_by : ℕ → ℕ → ℕ
turns_by n r = (n + 1) + r * (n + 3)

-- the time of all lines, if so many things may follow
abbrev IsInTime : ℕ → Type 0
IsInTime r =
    (n late : ℕ) (lines : List Line) (a : Acting) (w : IsWithoutSweep n a lines) → rank a.policy.activity ≤ r → ArePrompt late lines a
    → (after_lines lines a).time ≤ a.time + longest_wait w.decided.timing + turns_by n r * longest_turn late a.window.limits

module _ (r : ℕ) (after : IsInTime r) (test : Activity → Bool)
    (past : (a : Acting) → test a.policy.activity ≡ true → test (acted_in a.policy.activity a).policy.activity ≡ false)
    (no_rest : (what : Activity) → test what ≡ true → is_resting what ≡ false) where
  stage : (n late : ℕ) (lines : List Line) (a : Acting) (w : IsWithoutSweep n a lines) → test a.policy.activity ≡ true → rank a.policy.activity ≤ suc r
      → ArePrompt late lines a
      → (after_lines lines a).time ≤ a.time + longest_wait w.decided.timing + turns_by n (suc r) * longest_turn late a.window.limits
  stage n late lines a w about few prompt = by_split (split test lines a)
    where
      turn : ℕ
      turn = longest_turn late a.window.limits

      wait : ℕ
      wait = longest_wait w.decided.timing

      alone : (t end w n r d : ℕ) → end ≤ t + (n + 2) * d → end ≤ t + w + turns_by n (suc r) * d
      alone t end w n r d h = let more = mul-le (n + 2) d (turns_by n (suc r)) d (omega arith) (omega arith) in omega (arith, h, more)

      in_all : (t c b end w n r d : ℕ) → c ≤ t + (n + 2) * d → b ≤ c + d → end ≤ b + w + turns_by n r * d → end ≤ t + w + turns_by n (suc r) * d
      in_all t c b end w n r d first then last = omega (arith, first, then, last)

      by_split : Split test lines a → (after_lines lines a).time ≤ a.time + wait + turns_by n (suc r) * turn
      by_split (Whole stays) =
          alone a.time (after_lines lines a).time wait n r turn
          (stage_time test past no_rest n late lines a w.decided w.tries w.outstanding w.stays_on w.none_leaves about stays w.few prompt)
      by_split (Ends some line rest is stays ends) =
          let w' = subst (IsWithoutSweep n a) is w in
          let p = subst (λ ls. ArePrompt late ls a) is prompt in
          let here = has_more a some c refl w.decided in
          let remains = none_later some (line ∷ rest) w'.none_leaves in
          let goes_on = begin_later some (line ∷ rest) a w'.none in
          let same = same_limits some a w.decided in
          let stays_on = lines_stay some a w.decided w.tries w.stays_on (none_first some (line ∷ rest) w'.none_leaves) in
          let tries = subst (λ (l : Limits). 1 ≤ l.tries) (sym same) w.tries in
          let about_then = about_last test some a about stays in
          let first = stage_time test past no_rest n late some a w.decided w.tries w.outstanding w.stays_on
          (none_first some (line ∷ rest) w'.none_leaves) about stays (few_first n some (line ∷ rest) a w'.few) (prompt_first late some (line ∷ rest) a p) in
          let told = subst (λ (l : Limits). line.0 ≤ c.time + longest_turn late l) same
          (line_told late line c here (subst (λ (l : Limits). 1 ≤ l.outstanding) (sym same) w.outstanding) stays_on
          (no_rest c.policy.activity about_then) (prompt_later late some (line ∷ rest) a p).0) in
          let now = (a_line_soon c.window.limits line c (has_soon c here)).time in
          let next = falls_rank test c.policy.activity b.policy.activity (works_in_turn c line here tries stays_on remains.0) goes_on.0 about_then ends in
          let lower : rank c.policy.activity ≤ rank a.policy.activity = ranks_fall some (line ∷ rest) a w.decided w.tries w.stays_on w'.none_leaves w'.none in
          let last = after n late rest b (later n some line rest a w') (omega (arith, next, lower, few)) (prompt_later late some (line ∷ rest) a p).1 in
          subst (λ (z : Acting). z.time ≤ a.time + wait + turns_by n (suc r) * turn)
          (sym (lines_both some (line ∷ rest) a) ∙ sym (ap (λ ls. after_lines ls a) is))
          (in_all a.time c.time b.time (after_lines rest b).time wait n r turn first (omega (arith, told, now))
          (subst (λ (l : Limits). (after_lines rest b).time ≤ b.time + wait + turns_by n r * longest_turn late l) (same_limits (line ∷ []) c here ∙ same) last))
        where
          c : Acting
          c = after_lines some a

          b : Acting
          b = after_line line c

pub no_sweep_rests : (what : Activity) → is_sweeping what ≡ true → is_resting what ≡ false
no_sweep_rests activity.Sweeps e = refl
no_sweep_rests activity.Rests e = absurd (cc)
no_sweep_rests activity.Writes e = absurd (cc)
no_sweep_rests activity.Hands e = absurd (cc)

pub no_writing_rests : (what : Activity) → is_writing what ≡ true → is_resting what ≡ false
no_writing_rests activity.Writes e = refl
no_writing_rests activity.Rests e = absurd (cc)
no_writing_rests activity.Sweeps e = absurd (cc)
no_writing_rests activity.Hands e = absurd (cc)

pub no_handing_rests : (what : Activity) → is_handing what ≡ true → is_resting what ≡ false
no_handing_rests activity.Hands e = refl
no_handing_rests activity.Rests e = absurd (cc)
no_handing_rests activity.Sweeps e = absurd (cc)
no_handing_rests activity.Writes e = absurd (cc)

all_in_time : (r : ℕ) → IsInTime r
all_in_time zero n late lines a w few prompt =
    none_more a.time (after_lines lines a).time (longest_wait w.decided.timing) n (longest_turn late a.window.limits)
    (rest_time n late lines a w (is_rest a.policy.activity few) prompt)
  where
    none_more : (t end wait n d : ℕ) → end ≤ t + wait + (n + 1) * d → end ≤ t + wait + turns_by n 0 * d
    none_more t end wait n d h = omega (arith, h)

    is_rest : (what : Activity) → rank what ≤ 0 → is_resting what ≡ true
    is_rest activity.Rests few = refl
    is_rest activity.Sweeps few = absurd (omega (arith, few))
    is_rest activity.Writes few = absurd (omega (arith, few))
    is_rest activity.Hands few = absurd (omega (arith, few))
all_in_time (suc r) n late lines a w few prompt = by_what (all_in_time r) a.policy.activity refl
  where
    weaker : (t end wait n r d : ℕ) → end ≤ t + wait + (n + 1) * d → end ≤ t + wait + turns_by n (suc r) * d
    weaker t end wait n r d h = let more = mul-le (n + 1) d (turns_by n (suc r)) d (omega arith) (omega arith) in omega (arith, h, more)

    by_what : IsInTime r → (what : Activity) → a.policy.activity ≡ what
        → (after_lines lines a).time ≤ a.time + longest_wait w.decided.timing + turns_by n (suc r) * longest_turn late a.window.limits
    by_what after activity.Rests e =
        weaker a.time (after_lines lines a).time (longest_wait w.decided.timing) n r (longest_turn late a.window.limits)
        (rest_time n late lines a w (ap is_resting e) prompt)
    by_what after activity.Sweeps e =
        stage r after is_sweeping (λ b. sweeps_past b.policy.activity b) no_sweep_rests n late lines a w (ap is_sweeping e) few prompt
    by_what after activity.Writes e =
        stage r after is_writing (λ b. writings_past b.policy.activity b) no_writing_rests n late lines a w (ap is_writing e) few prompt
    by_what after activity.Hands e =
        stage r after is_handing (λ b. hands_past b.policy.activity b) no_handing_rests n late lines a w (ap is_handing e) few prompt

pub sweeps_again_in_time : SweepsAgainInTime
sweeps_again_in_time n a lines w late prompt =
    let all = all_in_time 3 n late lines a w (at_most a.policy.activity) prompt in
    in_all (after_lines lines a).time (a.time + longest_wait w.decided.timing) n (longest_turn late a.window.limits) all
  where
    at_most : (what : Activity) → rank what ≤ 3
    at_most activity.Rests = omega arith
    at_most activity.Sweeps = omega arith
    at_most activity.Writes = omega arith
    at_most activity.Hands = omega arith

    in_all : (end base n d : ℕ) → end ≤ base + turns_by n 3 * d → end ≤ base + (4 * (n + 3)) * d
    in_all end base n d h = omega (arith, h)
