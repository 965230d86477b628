-- If all goes well for long enough, a manager sweeps and has its plan written.
use Rattle.std.proofs.Common.{◌≡◌, ◌∙◌, ◌⊎◌, inl, inr, ℕ, Bool, true, false, ◌&&◌, not, ◌+◌, ◌*◌, ◌<◌, ◌≤◌, ◌^◌, List, [], ◌∷◌, ◌++◌, refl, sym, ap, subst, arith}
use Rattle.std.proofs.lemmas.Bool.{and_parts, both_ways, cond_both, cond-true, cond-false}
use Rattle.std.specs.Prelude.{Option, Some, None, is_none}
use Rattle.lft_blocks.specs.Plan.{PlanValue}
use Rattle.sm_state.specs.declared.state.SmState.TheVariants.{Master}
use Rattle.sm_manager.specs.PlanFaults.{writing_fault}
use Rattle.sm_manager.specs.Writing.{is_written}
use Rattle.sm_policy.specs.Judged.{anew, cause_of, failed, judged, stood}
use Rattle.sm_policy.specs.Policy.{Decision, is_sweeping}
use Rattle.sm_policy.specs.PolicyLaws.{longest_wait}
use Rattle.sm_policy.specs.Swept.{ended, swept, swept_in}
use Rattle.sm_policy.specs.declared.act.Act.{Act}
use Rattle.sm_policy.specs.declared.act.Act.TheVariants as act
use Rattle.sm_policy.specs.declared.activity.Activity.{Activity}
use Rattle.sm_policy.specs.declared.activity.Activity.TheVariants as activity
use Rattle.sm_policy.specs.declared.comparison.Comparison.{Comparison}
use Rattle.sm_policy.specs.declared.comparison.Comparison.TheVariants.{Same, Differs, NoPlan}
use Rattle.sm_policy.specs.declared.policy.Policy.{Policy}
use Rattle.sm_policy.specs.declared.ports.Ports.{Ports}
use Rattle.sm_policy.specs.declared.write_cause.WriteCause.{WriteCause}
use Rattle.acting_manager.specs.Acting.{Acting, caught_up, noted}
use Rattle.acting_manager.specs.Acts.{about_plan, acted, acted_in, decided, is_whole, judging_of, left_in, rival_seen, writing_on}
use Rattle.acting_manager.specs.Planned.{comparison_of, is_same_plan, planned}
use Rattle.acting_manager.specs.Working.{is_idle, is_resting, is_writing, sent}
use Rattle.acting_manager.specs.declared.note.Note.TheVariants.{Swept}
use Rattle.program_laws.specs.FreshWork.{EndNoFreshWork, works}
use Rattle.program_laws.specs.Healing.{EndsWritten, GoesWellBy, Heals, HealsInTime, IsUndisturbedBy}
use Rattle.program_laws.specs.ManagedEnds.{StaysAbout}
use Rattle.program_laws.specs.NextSweep.{HasFewTurns, IsToSweep, begins_sweep}
use Rattle.program_laws.specs.RestTime.{sweeps_by_itself}
use Rattle.program_laws.specs.StandingPlans.{KeepsWritten}
use Rattle.program_laws.specs.WholeSweeps.{NothingGivenUp, SweepsAreWhole, too_far_in}
use Rattle.program_laws.specs.Wakes.{ArePrompt, AtEachLine, HasDecided, Line, NoneLeaves, after_line, after_lines, before_deciding, longest_turn}
use Rattle.program_laws.proofs.lasting.Answered.{answered_sweeps_are_whole}
use Rattle.program_laws.proofs.lasting.Running.{is_running, still_runs, still_sound}
use Rattle.program_laws.proofs.lasting.Standing.{full, is_sound}
use Rattle.program_laws.proofs.lasting.StillWritten.{line_written}
use Rattle.program_laws.proofs.wakes.Deciding.{caught_about, sent_about}
use Rattle.program_laws.proofs.wakes.FreshWork.{GoesOn, begun_is, goes_first, goes_later, goes_line, works_again_in_time, writes_on}
use Rattle.program_laws.proofs.wakes.NextSweep.{Split, about_last, has_more, none_first, split}
use Rattle.program_laws.proofs.wakes.NextSweep.Split.{Ends, Whole}
use Rattle.program_laws.proofs.wakes.Settled.{has_settled}
use Rattle.program_laws.proofs.wakes.Waking.{Falls, any_falls}
use Rattle.program_laws.proofs.wakes.Lines.{so_later}

-- what is needed ----------------------------------------------------------------------------------------------------------------

-- the manager, whose sweep is over and whole, is to judge its plan
pub record SweptSo (a : Acting) : Type 0 where
  pub master : a.policy.state ≡ Master
  pub alone : rival_seen a.manager ≡ None
  pub fresh : a.policy.is_stale ≡ false
  pub plan : PlanValue
  pub is_planned : planned a.manager ≡ Some plan
  pub unrefused : writing_fault a.manager ≡ None

-- when the manager is told the line, it goes on: if it rests, it is to sweep; if its sweep is over and whole, it is to judge its plan;
-- and `Writes` is so of what it writes
pub record GoesOnBy (Writes : Line → Acting → Type 0) (line : Line) (a : Acting) : Type 0 where
  pub to_sweep : IsToSweep line a
  pub swept : is_idle (before_deciding line a).window ≡ true → is_sweeping (before_deciding line a).policy.activity ≡ true
      → is_whole (before_deciding line a).manager ≡ true → SweptSo (before_deciding line a)
  pub writes : Writes line a

-- it goes on through the lines, and its sweeps are whole
pub record IsUndisturbedSo (Writes : Line → Acting → Type 0) (n : ℕ) (a : Acting) (lines : List Line) : Type 0 where
  pub decided : HasDecided a
  pub generations : decided.newest < 2 ^ 32
  pub none_left : NoneLeaves decided.lines
  pub first : is_resting a.policy.activity ≡ true → is_idle a.window ≡ true → sweeps_by_itself a ≡ true
  pub well : AtEachLine (GoesOnBy Writes) lines a
  pub whole : SweepsAreWhole lines a
  pub few : HasFewTurns n lines a
  pub tries : 1 ≤ a.window.limits.tries
  pub outstanding : 1 ≤ a.window.limits.outstanding
  pub stays_on : a.is_leaving ≡ false
  pub none_leaves : NoneLeaves lines
  pub time : (after_lines lines a).time < 2 ^ 64

-- once a sweep is over ------------------------------------------------------------------------------------------------------

abbrev has_plan : Comparison → Bool
has_plan NoPlan = false
has_plan Same = true
has_plan Differs = true

-- a plan that does not stand is to be written
judged_writes : (now : ℕ) (comparison : Comparison) (ports : Ports) (p : Policy) → has_plan comparison ≡ true → p.written.stands ≡ false
    → (judged now comparison ports p).act ≡ act.Write
judged_writes now NoPlan ports p has none = absurd (cc)
judged_writes now Differs ports p has none = refl
judged_writes now Same ports p has none = ap (λ (d : Decision). d.act) (cond-false p.written.stands (stood now ports p) (anew p) none)

compared_plan : (kept : Option PlanValue) (plan : PlanValue) → has_plan (comparison_of kept (Some plan)) ≡ true
compared_plan None plan = refl
compared_plan (Some kept) plan = cond_both (is_same_plan plan kept) Same Differs (λ (c : Comparison). has_plan c ≡ true) (λ _. refl) (λ _. refl)

writing_begins : (cause : WriteCause) (plan : PlanValue) (a : Acting) → writing_fault a.manager ≡ None
    → is_writing (writing_on cause plan a).policy.activity ≡ true
writing_begins cause plan a unrefused =
    cond_both (is_none (writing_fault a.manager)) _ (failed a.time a.policy) (λ (p : Policy). is_writing p.activity ≡ true) (λ _. refl)
    (λ no. absurd (both_ways (is_none (writing_fault a.manager)) no (ap is_none unrefused)))

judging_writes : (a : Acting) (plan : PlanValue) → a.policy.written.stands ≡ false → writing_fault a.manager ≡ None
    → is_writing (judging_of (Some plan) a).policy.activity ≡ true
judging_writes a plan none unrefused =
    let comparison = comparison_of a.kept (Some plan) in
    let d = judged a.time comparison a.reads.ports a.policy in
    let cause = cause_of comparison a.reads.ports a.policy in
    let b : Acting = record a { policy = d.policy } in
    ap (λ (what : Act). is_writing (about_plan what cause (Some plan) b).policy.activity)
    (judged_writes a.time comparison a.reads.ports a.policy (compared_plan a.kept plan) none)
    ∙ writing_begins cause plan b unrefused

-- what a master that is alone decides after a whole sweep
abbrev judges : ℕ → Policy → Decision
judges now p = swept_in Master now None (ended now true None p)

swept_is : (a : Acting) → SweptSo a → is_whole a.manager ≡ true → swept a.time (is_whole a.manager) (rival_seen a.manager) a.policy ≡ judges a.time a.policy
swept_is a well whole =
    ap (λ b. swept a.time b (rival_seen a.manager) a.policy) whole ∙ ap (λ r. swept a.time true r a.policy) well.alone
    ∙ cond-false a.policy.is_stale _ (swept_in a.policy.state a.time None (ended a.time true None a.policy)) well.fresh
    ∙ ap (λ s. swept_in s a.time None (ended a.time true None a.policy)) well.master

sweep_writes : (a : Acting) → SweptSo a → is_whole a.manager ≡ true → a.policy.written.stands ≡ false
    → is_writing (acted_in activity.Sweeps a).policy.activity ≡ true
sweep_writes a well whole none =
    let b : Acting = noted (Swept (is_whole a.manager)) a in
    let c : Acting = record b { policy = (judges a.time a.policy).policy } in
    ap (λ (d : Decision). is_writing (decided d b).policy.activity) (swept_is a well whole)
    ∙ ap (λ o. is_writing (judging_of o c).policy.activity) well.is_planned
    ∙ judging_writes c well.plan none well.unrefused

-- what ends the work ------------------------------------------------------------------------------------------------------------

works_writing : (what : Activity) → is_writing what ≡ true → works what ≡ true
works_writing activity.Writes e = refl
works_writing activity.Rests e = absurd (cc)
works_writing activity.Sweeps e = absurd (cc)
works_writing activity.Hands e = absurd (cc)

works_sweeping : (what : Activity) → is_sweeping what ≡ true → works what ≡ true
works_sweeping activity.Sweeps e = refl
works_sweeping activity.Rests e = absurd (cc)
works_sweeping activity.Writes e = absurd (cc)
works_sweeping activity.Hands e = absurd (cc)

module _ (Writes : Line → Acting → Type 0) (line : Line) (a : Acting) (g : GoesOn a (line ∷ [])) (about : works a.policy.activity ≡ true)
    (over : works (after_line line a).policy.activity ≡ false) (well : GoesOnBy Writes line a)
    (whole : is_idle (before_deciding line a).window ≡ true → is_sweeping a.policy.activity ≡ true → is_whole (before_deciding line a).manager ≡ true) where
  abbrev x : Acting
  x = before_deciding line a

  fell : Falls a.window.limits g.tries 0 line a x
  fell = any_falls a.window.limits g.tries line a (record { same = refl; whole = (has_settled a g.decided).whole }) g.none_leaves.0

  stays : x.is_leaving ≡ false
  stays = fell.leaving ∙ g.stays_on

  -- the manager decides
  idle : is_idle x.window ≡ true
  idle = by_idle (is_idle x.window) refl
    where
      by_idle : (b : Bool) → is_idle x.window ≡ b → is_idle x.window ≡ true
      by_idle true e = e
      by_idle false e =
          let after : works (after_line line a).policy.activity ≡ true =
          ap (λ (y : Acting). works (sent y).policy.activity) (cond-false (is_idle x.window) (caught_up (acted x)) x e)
          ∙ ap works (sent_about x ∙ fell.about) ∙ about in
          absurd (both_ways (works (after_line line a).policy.activity) over after)

  after_is : (after_line line a).policy.activity ≡ (acted_in x.policy.activity x).policy.activity
  after_is =
      ap (λ (y : Acting). (sent y).policy.activity) (cond-true (is_idle x.window) (caught_up (acted x)) x idle)
      ∙ sent_about (caught_up (acted x)) ∙ caught_about (acted x)
      ∙ ap (λ (y : Acting). y.policy.activity) (cond-false x.is_leaving (left_in x.policy.activity x) (acted_in x.policy.activity x) stays)

  -- a sweep: its plan stands
  sweep_written : x.policy.activity ≡ activity.Sweeps → KeepsWritten x.kept x.manager
  sweep_written e = by_stands x.policy.written.stands refl
    where
      by_stands : (b : Bool) → x.policy.written.stands ≡ b → KeepsWritten x.kept x.manager
      by_stands true stands = (full x stays (ap is_writing e) (still_sound line a (is_sound a g.decided))).stands stands
      by_stands false none =
          let all = whole idle (ap is_sweeping (sym fell.about ∙ e)) in
          let writes = sweep_writes x (well.swept idle (ap is_sweeping e) all) all none in
          let after : works (after_line line a).policy.activity ≡ true =
          ap works (after_is ∙ ap (λ w. (acted_in w x).policy.activity) e) ∙ works_writing _ writes in
          absurd (both_ways (works (after_line line a).policy.activity) over after)

  -- after the line, it is written if it was before the manager decided
  no_writing : (what : Activity) → works what ≡ false → is_writing what ≡ false
  no_writing activity.Rests e = refl
  no_writing activity.Hands e = refl
  no_writing activity.Sweeps e = absurd (cc)
  no_writing activity.Writes e = absurd (cc)

  still_written : KeepsWritten x.kept x.manager → KeepsWritten (after_line line a).kept (after_line line a).manager
  still_written = line_written line a stays idle (no_writing (after_line line a).policy.activity over)

  -- the plan is written, or a writing is over
  work_ends : KeepsWritten (after_line line a).kept (after_line line a).manager ⊎ (is_writing a.policy.activity ≡ true)
  work_ends = by_what x.policy.activity refl (ap works fell.about ∙ about)
    where
      by_what : (what : Activity) → x.policy.activity ≡ what → works what ≡ true
          → KeepsWritten (after_line line a).kept (after_line line a).manager ⊎ (is_writing a.policy.activity ≡ true)
      by_what activity.Sweeps e w = inl (still_written (sweep_written e))
      by_what activity.Writes e w = inr (ap is_writing (sym fell.about ∙ e))
      by_what activity.Rests e w = absurd (cc)
      by_what activity.Hands e w = absurd (cc)

  -- a writing whose plan was written
  writing_written : is_writing a.policy.activity ≡ true → is_written x.manager ≡ true
      → KeepsWritten (after_line line a).kept (after_line line a).manager
  writing_written writes is =
      let k = (still_runs line a (is_running a g.decided)).writes stays (ap is_writing fell.about ∙ writes) in
      still_written (record { plan = k.plan; is_kept = k.is_kept; last = k.last; written = is })

-- finding it ---------------------------------------------------------------------------------------------------------------------

-- one of the lines begins a sweep, and a later one ends the work on that
pub record Found (lines : List Line) (a : Acting) : Type 0 where
  pub before : List Line
  pub begins : Line
  pub during : List Line
  pub ends : Line
  pub after : List Line
  pub are : lines ≡ before ++ begins ∷ (during ++ ends ∷ after)
  pub begun : begins_sweep begins (after_lines before a) ≡ true
  pub goes_on : StaysAbout works during (after_line begins (after_lines before a))
  pub over : works (after_lines (ends ∷ []) (after_lines during (after_line begins (after_lines before a)))).policy.activity ≡ false

works_on : (lines : List Line) (a : Acting) → StaysAbout works lines a → EndNoFreshWork true lines a
works_on [] a s = tt
works_on (line ∷ lines) a s = (s.0, works_on lines (after_line line a) s.1)

find : (Writes : Line → Acting → Type 0) (lines : List Line) (a : Acting) → AtEachLine (GoesOnBy Writes) lines a → Found lines a ⊎ EndNoFreshWork false lines a
find Writes [] a well = inr tt
find Writes (line ∷ lines) a well = by_begun (find Writes lines b well.1) (begins_sweep line a) refl
  where
    b : Acting
    b = after_line line a

    shifted : Found lines b → Found (line ∷ lines) a
    shifted f =
        record {
          before = line ∷ f.before;
          begins = f.begins;
          during = f.during;
          ends = f.ends;
          after = f.after;
          are = ap (λ ls. line ∷ ls) f.are;
          begun = f.begun;
          goes_on = f.goes_on;
          over = f.over;
        }

    by_split : begins_sweep line a ≡ true → Split works lines b → Found (line ∷ lines) a ⊎ EndNoFreshWork false (line ∷ lines) a
    by_split is (Whole s) = inr (well.0.to_sweep, subst (λ x. EndNoFreshWork x lines b) (sym is) (works_on lines b s))
    by_split is (Ends some last rest are s over) =
        inl (record {
          before = [];
          begins = line;
          during = some;
          ends = last;
          after = rest;
          are = ap (λ ls. line ∷ ls) are;
          begun = is;
          goes_on = s;
          over = over;
        })

    by_begun : Found lines b ⊎ EndNoFreshWork false lines b → (x : Bool) → begins_sweep line a ≡ x
        → Found (line ∷ lines) a ⊎ EndNoFreshWork false (line ∷ lines) a
    by_begun rest true is = by_split is (split works lines b)
    by_begun (inl f) false is = inl (shifted f)
    by_begun (inr none) false is = inr (well.0.to_sweep, subst (λ x. EndNoFreshWork x lines b) (sym is) none)

-- a manager that sweeps in the end, and worked all the time, swept all the time
sweeps_on : (lines : List Line) (a : Acting) → GoesOn a lines → StaysAbout works lines a → is_sweeping (after_lines lines a).policy.activity ≡ true
    → StaysAbout is_sweeping lines a
sweeps_on [] a g stays last = tt
sweeps_on (line ∷ lines) a g stays last =
    by_what b.policy.activity refl stays.0 (goes_line line lines a g) (sweeps_on lines b (goes_line line lines a g) stays.1 last)
  where
    b : Acting
    b = after_line line a

    by_what : (what : Activity) → b.policy.activity ≡ what → works what ≡ true → GoesOn b lines → StaysAbout is_sweeping lines b
        → StaysAbout is_sweeping (line ∷ lines) a
    by_what activity.Sweeps e w then rest = (ap is_sweeping e, rest)
    by_what activity.Writes e w then rest =
        let writes = about_last is_writing lines b (ap is_writing e) (writes_on lines b then (ap is_writing e) stays.1) in
        absurd (one_only (after_lines lines b).policy.activity last writes)
      where
        one_only : (what : Activity) → is_sweeping what ≡ true → is_writing what ≡ true → ⊥
        one_only activity.Sweeps s w = absurd (cc)
        one_only activity.Writes s w = absurd (cc)
        one_only activity.Rests s w = absurd (cc)
        one_only activity.Hands s w = absurd (cc)
    by_what activity.Rests e w then rest = absurd (cc)
    by_what activity.Hands e w then rest = absurd (cc)

none_lost : (Writes : Line → Acting → Type 0) (some : List Line) (line : Line) (rest : List Line) (a : Acting)
    → AtEachLine (GoesWellBy Writes) (some ++ line ∷ rest) a → NothingGivenUp (some ++ line ∷ []) a
none_lost Writes [] line rest a w = (w.0.none_lost, tt)
none_lost Writes (first ∷ some) line rest a w = (w.0.none_lost, none_lost Writes some line rest (after_line first a) w.1)

-- who begins a sweep has decided
begins_idle : (line : Line) (a : Acting) → GoesOn a (line ∷ []) → begins_sweep line a ≡ true → is_idle (before_deciding line a).window ≡ true
begins_idle line a g begins = by_idle (is_idle x.window) refl
  where
    x : Acting
    x = before_deciding line a

    fell : Falls a.window.limits g.tries 0 line a x
    fell = any_falls a.window.limits g.tries line a (record { same = refl; whole = (has_settled a g.decided).whole }) g.none_leaves.0

    none_new : (v w : Activity) → w ≡ v → (not (is_sweeping v) && is_sweeping w) ≡ true → ⊥
    none_new v w same e =
        let parts = and_parts (not (is_sweeping v)) (is_sweeping w) e in
        clash (is_sweeping v) parts.0 (sym (ap is_sweeping same) ∙ parts.1)
      where
        clash : (b : Bool) → not b ≡ true → b ≡ true → ⊥
        clash true e f = absurd (cc)
        clash false e f = absurd (cc)

    by_idle : (b : Bool) → is_idle x.window ≡ b → is_idle x.window ≡ true
    by_idle true e = e
    by_idle false e =
        let same : (after_line line a).policy.activity ≡ a.policy.activity =
        ap (λ (y : Acting). (sent y).policy.activity) (cond-false (is_idle x.window) (caught_up (acted x)) x e) ∙ sent_about x ∙ fell.about in
        absurd (none_new a.policy.activity (after_line line a).policy.activity same begins)

none_more : (first more : List Line) → NoneLeaves first → NoneLeaves more → NoneLeaves (first ++ more)
none_more [] more n m = m
none_more (line ∷ first) more n m = (n.0, none_more first more n.1 m)

-- how the work on a sweep ends ------------------------------------------------------------------------------------------------------

module _ (Writes : Line → Acting → Type 0) (n : ℕ) (a : Acting) (lines : List Line) (r : IsUndisturbedSo Writes n a lines) where
  pub goes : GoesOn a lines
  goes = record { decided = r.decided; tries = r.tries; outstanding = r.outstanding; stays_on = r.stays_on; none_leaves = r.none_leaves }

  -- so much time is enough
  pub found : (late : ℕ) → ArePrompt late lines a
      → a.time + 2 * longest_wait r.decided.timing + (6 * (n + 3)) * longest_turn late a.window.limits < (after_lines lines a).time
      → Found lines a
  found late prompt long = by_found (find Writes lines a r.well)
    where
      by_found : Found lines a ⊎ EndNoFreshWork false lines a → Found lines a
      by_found (inl f) = f
      by_found (inr none) =
          let few = works_again_in_time n a lines (record {
            decided = r.decided;
            first = r.first;
            none = none;
            few = r.few;
            tries = r.tries;
            outstanding = r.outstanding;
            stays_on = r.stays_on;
            none_leaves = r.none_leaves;
            time = r.time;
          }) late prompt in
          absurd (omega (arith, long, few))

  module _ (f : Found lines a) where
    abbrev first : Acting
    first = after_lines f.before a

    abbrev b : Acting
    b = after_line f.begins first

    -- where the work ends
    abbrev c : Acting
    c = after_lines f.during b

    abbrev rest : List Line
    rest = f.during ++ f.ends ∷ f.after

    pub at_first : GoesOn first (f.begins ∷ rest)
    at_first = goes_later f.before (f.begins ∷ rest) a (subst (GoesOn a) f.are goes)

    pub at_sweep : GoesOn b rest
    at_sweep = goes_line f.begins rest first at_first

    pub at_end : GoesOn c (f.ends ∷ [])
    at_end = goes_first (f.ends ∷ []) f.after c (goes_later f.during (f.ends ∷ f.after) b at_sweep)

    all_well : AtEachLine (GoesOnBy Writes) rest b
    all_well = (so_later (GoesOnBy Writes) f.before (f.begins ∷ rest) a (subst (λ ls. AtEachLine (GoesOnBy Writes) ls a) f.are r.well)).1

    pub last_well : GoesOnBy Writes f.ends c
    last_well = (so_later (GoesOnBy Writes) f.during (f.ends ∷ f.after) b all_well).0

    pub sweeps : is_sweeping b.policy.activity ≡ true
    sweeps = begun_is first.policy.activity b.policy.activity f.begun

    abbrev about : works c.policy.activity ≡ true
    about = about_last works f.during b (works_sweeping b.policy.activity sweeps) f.goes_on

    whole : is_idle (before_deciding f.ends c).window ≡ true → is_sweeping c.policy.activity ≡ true → is_whole (before_deciding f.ends c).manager ≡ true
    whole idle last =
        r.whole f.before f.begins f.during f.ends f.after f.are f.begun
        (sweeps_on f.during b (goes_first f.during (f.ends ∷ f.after) b at_sweep) f.goes_on last) idle

    -- the plan is written, or a writing is over
    pub ends_so : KeepsWritten (after_line f.ends c).kept (after_line f.ends c).manager ⊎ (is_writing c.policy.activity ≡ true)
    ends_so = work_ends Writes f.ends c at_end about f.over last_well whole

    pub writing_ends : is_writing c.policy.activity ≡ true → is_written (before_deciding f.ends c).manager ≡ true
        → KeepsWritten (after_line f.ends c).kept (after_line f.ends c).manager
    writing_ends = writing_written Writes f.ends c at_end about f.over last_well whole

    pub is_over : is_idle (before_deciding f.ends c).window ≡ true
    is_over = idle Writes f.ends c at_end about f.over last_well whole

-- where no request is given up ---------------------------------------------------------------------------------------------------

module _ (Writes : Line → Acting → Type 0) (n : ℕ) (a : Acting) (lines : List Line) (r : IsUndisturbedBy Writes n a lines) where
  -- then sweeps are whole
  pub are_whole : SweepsAreWhole lines a
  are_whole before begins during ends after are begun stays over =
      answered_sweeps_are_whole first begins b during ends (record {
        decided = has_more a before first refl r.decided;
        generations = r.generations;
        none_left = none_more r.decided.lines before r.none_left (none_first before (begins ∷ rest) goes.none_leaves);
        stays = at_first.none_leaves.0;
        leads = refl;
        decides = begins_idle begins first (goes_first (begins ∷ []) rest first at_first) begun;
        sweeps = begun_is first.policy.activity b.policy.activity begun;
        goes_on = stays;
        none_leaves = none_first during (ends ∷ after) at_sweep.none_leaves;
        remains = at_end.none_leaves.0;
        over = over;
      }) (none_lost Writes during ends after b all) near
    where
      first : Acting
      first = after_lines before a

      b : Acting
      b = after_line begins first

      c : Acting
      c = after_lines during b

      rest : List Line
      rest = during ++ ends ∷ after

      goes : GoesOn a (before ++ begins ∷ rest)
      goes =
          subst (GoesOn a) are
          (record { decided = r.decided; tries = r.tries; outstanding = r.outstanding; stays_on = r.stays_on; none_leaves = r.none_leaves })

      at_first : GoesOn first (begins ∷ rest)
      at_first = goes_later before (begins ∷ rest) a goes

      at_sweep : GoesOn b rest
      at_sweep = goes_line begins rest first at_first

      at_end : GoesOn c (ends ∷ [])
      at_end = goes_first (ends ∷ []) after c (goes_later during (ends ∷ after) b at_sweep)

      all : AtEachLine (GoesWellBy Writes) rest b
      all = (so_later (GoesWellBy Writes) before (begins ∷ rest) a (subst (λ ls. AtEachLine (GoesWellBy Writes) ls a) are r.well)).1

      sweeps : is_sweeping c.policy.activity ≡ true
      sweeps = about_last is_sweeping during b (begun_is first.policy.activity b.policy.activity begun) stays

      near : too_far_in (before_deciding ends c).manager.sweep ≡ 0
      near =
          let fell = any_falls c.window.limits at_end.tries ends c (record { same = refl; whole = (has_settled c at_end.decided).whole }) at_end.none_leaves.0 in
          ((so_later (GoesWellBy Writes) during (ends ∷ after) b all).0.swept over (ap is_sweeping fell.about ∙ sweeps)).near

pub all_on : (Writes Then : Line → Acting → Type 0) (lines : List Line) (a : Acting) → ((line : Line) (b : Acting) → GoesWellBy Writes line b → Then line b)
    → AtEachLine (GoesWellBy Writes) lines a → AtEachLine (GoesOnBy Then) lines a
all_on Writes Then [] a more w = tt
all_on Writes Then (line ∷ lines) a more w = (
  record {
    to_sweep = w.0.to_sweep;
    swept = λ idle sweeps _.
        let well = w.0.swept idle sweeps in
        record {
          master = well.master;
          alone = well.alone;
          fresh = well.fresh;
          plan = well.plan;
          is_planned = well.is_planned;
          unrefused = well.unrefused;
        };
    writes = more line a w.0;
  },
  all_on Writes Then lines (after_line line a) more w.1,
)

-- and nothing disturbs the manager
abbrev pub undisturbed_so : (Writes Then : Line → Acting → Type 0) (n : ℕ) (a : Acting) (lines : List Line)
    → ((line : Line) (b : Acting) → GoesWellBy Writes line b → Then line b) → IsUndisturbedBy Writes n a lines → IsUndisturbedSo Then n a lines
undisturbed_so Writes Then n a lines more r =
    record {
      decided = r.decided;
      generations = r.generations;
      none_left = r.none_left;
      first = r.first;
      well = all_on Writes Then lines a more r.well;
      whole = are_whole Writes n a lines r;
      few = r.few;
      tries = r.tries;
      outstanding = r.outstanding;
      stays_on = r.stays_on;
      none_leaves = r.none_leaves;
      time = r.time;
    }

-- healing -------------------------------------------------------------------------------------------------------------------------

-- for so long, if what is written is written in the end
pub so_heals : (n : ℕ) (a : Acting) (lines : List Line) (r : IsUndisturbedSo EndsWritten n a lines) (late : ℕ) → ArePrompt late lines a
    → a.time + 2 * longest_wait r.decided.timing + (6 * (n + 3)) * longest_turn late a.window.limits < (after_lines lines a).time
    → Heals lines a
so_heals n a lines r late prompt long =
    record {
      before = f.before;
      begins = f.begins;
      during = f.during;
      ends = f.ends;
      after = f.after;
      are = f.are;
      begun = f.begun;
      goes_on = f.goes_on;
      over = f.over;
      written = by_end (ends_so EndsWritten n a lines r f);
    }
  where
    f : Found lines a
    f = found EndsWritten n a lines r late prompt long

    c : Acting
    c = after_lines f.during (after_line f.begins (after_lines f.before a))

    by_end : KeepsWritten (after_line f.ends c).kept (after_line f.ends c).manager ⊎ (is_writing c.policy.activity ≡ true)
        → KeepsWritten (after_line f.ends c).kept (after_line f.ends c).manager
    by_end (inl k) = k
    by_end (inr writes) =
        let g = at_end EndsWritten n a lines r f in
        let fell = any_falls c.window.limits g.tries f.ends c (record { same = refl; whole = (has_settled c g.decided).whole }) g.none_leaves.0 in
        writing_ends EndsWritten n a lines r f writes
        ((last_well EndsWritten n a lines r f).writes (is_over EndsWritten n a lines r f) (ap is_writing fell.about ∙ writes))

pub heals_in_time : HealsInTime
heals_in_time n a lines r late prompt long =
    so_heals n a lines (undisturbed_so EndsWritten EndsWritten n a lines (λ line b w. w.writes) r) late prompt long
