-- A manager for which all goes well: a new one on an adapter with one port and no cable, which is told the time and its
-- adapter's answers.
use Rattle.std.proofs.Common.{◌≡◌, ◌∙◌, ◌^◌, ◌<◌, true, false, List, [], ◌∷◌, refl, sym, ap, subst, arith}
use Rattle.std.proofs.lemmas.Bool.{both_ways}
use Rattle.std.specs.List.{list_any}
use Rattle.std.specs.Prelude.{Option, Some, None}
use Rattle.node_agents.specs.Answers.{after_answer, get_of, set_of}
use Rattle.node_agents.specs.PortInfo.{changed_port}
use Rattle.smp_bytes.specs.Field.{with_bytes}
use Rattle.fact_store.specs.View.{Facts, raised, view_at}
use Rattle.plan_steps.specs.Phase.{Phase}
use Rattle.plan_steps.specs.Step.{set_packet}
use Rattle.sweep.specs.Sweep.{Sweep}
use Rattle.sm_state.specs.declared.conduct.Conduct.TheVariants.{Plain}
use Rattle.sm_manager.specs.Manager.{is_running}
use Rattle.sm_manager.specs.PlanFaults.{writing_fault}
use Rattle.sm_manager.specs.Writing.{phases_by}
use Rattle.sm_policy.specs.Judged.{anew}
use Rattle.acting_manager.specs.Acting.{Acting}
use Rattle.acting_manager.specs.Acts.{judging_of}
use Rattle.acting_manager.specs.Planned.{planned}
use Rattle.acting_manager.specs.Working.{Told, after_told, given_away}
use Rattle.manager_laws.proofs.Computed.{phases_with, sweep_in}
use Rattle.program_laws.specs.Healing.{IsUndisturbed, SomeManagerHeals, SweptWell}
use Rattle.program_laws.specs.Wakes.{Line, after_line, before_deciding, next_in}
use Rattle.program_laws.specs.WholeSweeps.{tells_loss}
use Rattle.program_laws.proofs.managed.Example.{Judges, after_sweep}
use Rattle.program_laws.proofs.lasting.LoneAdapter.{timing, limits, alone, first, adapter, answer, tells, cells_at, forgets, the_plan}
use Rattle.program_laws.proofs.lasting.LoneAdapter.{at_rest, step, at_write, sweep_of, at_over, at_first}
use Rattle.program_laws.proofs.lasting.LoneSweeps.{shown, printed, swept_on, IsToBegin, begun, plan_at, HasSwept, facts_are, may_write, plan_is}
use Rattle.program_laws.proofs.lasting.LoneSweeps.{phases_so, judged_new, writing_so, written_so, over_so}
use Rattle.program_laws.proofs.lasting.GoodLines.{GoodLine, GoodEnd, Goes, its_prompt, its_well, none_leaves, its_end, few_turns}
use Rattle.program_laws.proofs.lasting.GoodLines.{goes_on, awake_good, begins_good}

-- the first sweep ----------------------------------------------------------------------------------------------------

-- as it is when its sweep has begun (`s`), when its node has answered (`n`), when its port has answered too, before it decides
-- (`x`), and once it has decided (`r`)

abbrev pub s1 : Acting
s1 = swept_on 0 1 first

pub to_begin1 : IsToBegin 0 1 first
to_begin1 =
    record {
      before = refl;
      idle = refl;
      stays = refl;
      rests = refl;
      due = refl;
      next = refl;
      over = refl;
      forgotten = forgets 1 1 [] (omega arith) refl;
      some = omega arith;
    }

good1 : GoodLine (0, Told.Time) first
unfolding with_bytes
good1 = begins_good 0 1 first to_begin1 (record { tries = refl; left = omega arith; asked = omega arith }) (omega arith) refl refl refl

abbrev pub node1 : Line
node1 = answer 0 0 s1

abbrev pub n1 : Acting
n1 = after_line node1 s1

abbrev pub port1 : Line
port1 = answer 0 0 n1

abbrev pub x1 : Acting
x1 = before_deciding port1 n1

node_good1 : GoodLine node1 s1
unfolding after_answer get_of set_of changed_port with_bytes
node_good1 =
    awake_good node1 s1 n1 refl (record { tries = refl; left = omega arith; asked = omega arith }) (omega arith) refl tt refl refl refl
    (λ e k. absurd (both_ways _ refl e)) (λ e k. absurd (both_ways _ refl e))

judges1 : Judges x1
unfolding after_answer get_of set_of changed_port with_bytes
judges1 = record { idle = refl; stays = refl; is_sweep = refl; judges = refl }

pub has_swept1 : HasSwept 1 0 x1.manager
unfolding after_answer get_of set_of changed_port with_bytes
has_swept1 = record { swept = refl; planning_is = refl; store_is = refl; no_fault = refl; has_plan = refl; some = omega arith }

plan_there1 : plan_at 1 0 ≡ the_plan
plan_there1 = refl

planned1 : planned x1.manager ≡ Some the_plan
planned1 = plan_is 1 0 x1.manager has_swept1 ∙ ap Some plan_there1

swept1 : SweptWell x1
unfolding after_answer get_of set_of changed_port with_bytes
swept1 =
    record {
      master = refl;
      alone = refl;
      near = refl;
      fresh = refl;
      plan = the_plan;
      is_planned = planned1;
      unrefused = may_write 1 0 x1.manager has_swept1;
    }

-- as it is when its sweep is over, with what the sweep left
abbrev over1 : Acting
over1 = at_first x1.manager.store (sweep_in x1.manager.sweep)

over_is1 : x1 ≡ over1
unfolding after_answer get_of set_of changed_port with_bytes
over_is1 = refl

abbrev pub phases : List Phase
phases =
    record { counts = true; steps = step ∷ [] } ∷ record { counts = true; steps = [] } ∷ record { counts = true; steps = [] }
    ∷ record { counts = true; steps = [] } ∷ record { counts = true; steps = [] }
    ∷ record { counts = false; steps = [] } ∷ record { counts = false; steps = [] } ∷ []

pub phases_are : phases_with alone x1.manager (Some (sweep_in x1.manager.sweep)) (cells_at 1 (tells 1 0)) ≡ phases
unfolding after_answer get_of set_of changed_port with_bytes
phases_are = refl

module _ (f : Facts) (s : Sweep) where
  abbrev over_first : Acting
  over_first = after_sweep (at_first f s)

  abbrev to_write : Acting
  to_write = record over_first { policy = (anew over_first.policy).policy }

  writing_is : printed (writing_so the_plan to_write phases) ≡ at_write f (Some (sweep_of 1 s))
  unfolding with_bytes
  writing_is = refl

  writes_losing_none : list_any tells_loss (shown (writing_so the_plan to_write phases)).notes ≡ false
  unfolding with_bytes
  writes_losing_none = refl

  writes_so : writing_fault (at_first f s).manager ≡ None → phases_by (at_first f s).manager (at_first f s).manager.sweep ≡ phases
      → judging_of (Some the_plan) over_first ≡ writing_so the_plan to_write phases
  writes_so may are = judged_new the_plan over_first refl ∙ written_so the_plan to_write phases may are

abbrev pub r1 : Acting
r1 = at_write x1.manager.store (Some (sweep_of 1 (sweep_in x1.manager.sweep)))

told1 : after_told port1.0 port1.1 n1 ≡ shown (writing_so the_plan (to_write x1.manager.store (sweep_in x1.manager.sweep)) phases)
told1 =
    over_so port1 n1 the_plan judges1 planned1
    ∙ ap (λ (x : Acting). shown (judging_of (Some the_plan) (after_sweep x))) over_is1
    ∙ ap shown (writes_so x1.manager.store (sweep_in x1.manager.sweep)
    (subst (λ (x : Acting). writing_fault x.manager ≡ None) over_is1 (may_write 1 0 x1.manager has_swept1))
    (subst (λ (x : Acting). phases_by x.manager x.manager.sweep ≡ phases) over_is1 (phases_so 1 0 x1.manager has_swept1 ∙ phases_are)))

pub leads1 : after_line port1 n1 ≡ r1
leads1 = ap given_away told1 ∙ writing_is x1.manager.store (sweep_in x1.manager.sweep)

none_lost1 : list_any tells_loss (after_told port1.0 port1.1 n1).notes ≡ false
none_lost1 =
    ap (λ (x : Acting). list_any tells_loss x.notes) told1 ∙ writes_losing_none x1.manager.store (sweep_in x1.manager.sweep)

port_good1 : GoodLine port1 n1
unfolding after_answer get_of set_of changed_port with_bytes
port_good1 =
    awake_good port1 n1 r1 leads1 (record { tries = refl; left = omega arith; asked = omega arith }) (omega arith) refl tt refl refl none_lost1
    (λ e k. swept1) (λ e k. absurd (both_ways _ refl k))

pub gone1 : raised x1.manager.store 2 ≡ view_at 2 []
gone1 =
    ap (λ (f : Facts). raised f 2) (facts_are 1 0 x1.manager has_swept1)
    ∙ forgets 1 2 (tells 1 0) (omega arith) refl

-- its writing --------------------------------------------------------------------------------------------------------

abbrev pub set1 : Line
set1 = (0, Told.Packet (after_answer (adapter 0) (set_packet 1 step) 1).packet None)

module _ (f : Facts) (swept : Option Sweep) where
  pub set_leads : after_line set1 (at_write f swept) ≡ at_rest 1 0 1 true f swept
  unfolding after_answer get_of set_of changed_port with_bytes
  set_leads = refl

  set_good : next_in swept ≡ 3 → GoodLine set1 (at_write f swept)
  unfolding after_answer get_of set_of changed_port with_bytes
  set_good few =
      awake_good set1 (at_write f swept) (at_rest 1 0 1 true f swept) set_leads
      (record { tries = refl; left = omega arith; asked = omega (arith, few) }) (omega arith) refl tt refl refl refl
      (λ e k. absurd (both_ways _ refl k)) (λ e k. refl)

-- the second sweep ---------------------------------------------------------------------------------------------------

abbrev s2 : Acting
s2 = swept_on 1000 2 (at_rest 1 0 1 true (view_at 1 []) None)

module _ (f : Facts) (swept : Option Sweep) (over : is_running swept ≡ false) (few : next_in swept ≡ 3) (old : raised f 2 ≡ view_at 2 []) where
  to_begin2 : IsToBegin 1000 2 (at_rest 1 0 1 true f swept)
  to_begin2 =
      record { before = refl; idle = refl; stays = refl; rests = refl; due = refl; next = refl; over = over; forgotten = old; some = omega arith }

  good2 : GoodLine (1000, Told.Time) (at_rest 1 0 1 true f swept)
  unfolding with_bytes
  good2 =
      begins_good 1000 2 (at_rest 1 0 1 true f swept) to_begin2 (record { tries = refl; left = omega arith; asked = omega (arith, few) })
      (omega arith) refl refl refl

  begins2 : after_line (1000, Told.Time) (at_rest 1 0 1 true f swept) ≡ s2
  begins2 = begun 1000 2 (at_rest 1 0 1 true f swept) to_begin2

abbrev node2 : Line
node2 = answer 1000 1 s2

abbrev n2 : Acting
n2 = after_line node2 s2

abbrev port2 : Line
port2 = answer 1000 1 n2

abbrev x2 : Acting
x2 = before_deciding port2 n2

node_good2 : GoodLine node2 s2
unfolding after_answer get_of set_of changed_port with_bytes
node_good2 =
    awake_good node2 s2 n2 refl (record { tries = refl; left = omega arith; asked = omega arith }) (omega arith) refl tt refl refl refl
    (λ e k. absurd (both_ways _ refl e)) (λ e k. absurd (both_ways _ refl e))

judges2 : Judges x2
unfolding after_answer get_of set_of changed_port with_bytes
judges2 = record { idle = refl; stays = refl; is_sweep = refl; judges = refl }

has_swept2 : HasSwept 2 1 x2.manager
unfolding after_answer get_of set_of changed_port with_bytes
has_swept2 = record { swept = refl; planning_is = refl; store_is = refl; no_fault = refl; has_plan = refl; some = omega arith }

plan_there2 : plan_at 2 1 ≡ the_plan
plan_there2 = refl

planned2 : planned x2.manager ≡ Some the_plan
planned2 = plan_is 2 1 x2.manager has_swept2 ∙ ap Some plan_there2

swept2 : SweptWell x2
unfolding after_answer get_of set_of changed_port with_bytes
swept2 =
    record {
      master = refl;
      alone = refl;
      near = refl;
      fresh = refl;
      plan = the_plan;
      is_planned = planned2;
      unrefused = may_write 2 1 x2.manager has_swept2;
    }

abbrev over2 : Acting
over2 = at_over 2 1000 10000 x2.manager.store (sweep_in x2.manager.sweep)

over_is2 : x2 ≡ over2
unfolding after_answer get_of set_of changed_port with_bytes
over_is2 = refl

rest_is2 : (f : Facts) (s : Sweep)
    → printed (judging_of (Some the_plan) (after_sweep (at_over 2 1000 10000 f s))) ≡ at_rest 2 1000 1 false f (Some (sweep_of 2 s))
rest_is2 f s = refl

rest_losing_none2 : (f : Facts) (s : Sweep)
    → list_any tells_loss (shown (judging_of (Some the_plan) (after_sweep (at_over 2 1000 10000 f s)))).notes ≡ false
rest_losing_none2 f s = refl

abbrev r2 : Acting
r2 = at_rest 2 1000 1 false x2.manager.store (Some (sweep_of 2 (sweep_in x2.manager.sweep)))

told2 : after_told port2.0 port2.1 n2 ≡ shown (judging_of (Some the_plan) (after_sweep over2))
told2 =
    over_so port2 n2 the_plan judges2 planned2 ∙ ap (λ (x : Acting). shown (judging_of (Some the_plan) (after_sweep x))) over_is2

leads2 : after_line port2 n2 ≡ r2
leads2 = ap given_away told2 ∙ rest_is2 x2.manager.store (sweep_in x2.manager.sweep)

none_lost2 : list_any tells_loss (after_told port2.0 port2.1 n2).notes ≡ false
none_lost2 =
    ap (λ (x : Acting). list_any tells_loss x.notes) told2 ∙ rest_losing_none2 x2.manager.store (sweep_in x2.manager.sweep)

port_good2 : GoodLine port2 n2
unfolding after_answer get_of set_of changed_port with_bytes
port_good2 =
    awake_good port2 n2 r2 leads2 (record { tries = refl; left = omega arith; asked = omega arith }) (omega arith) refl tt refl refl none_lost2
    (λ e k. swept2) (λ e k. absurd (both_ways _ refl k))

gone2 : raised x2.manager.store 3 ≡ view_at 3 []
gone2 =
    ap (λ (f : Facts). raised f 3) (facts_are 2 1 x2.manager has_swept2)
    ∙ forgets 2 3 (tells 2 1) (omega arith) refl

-- the third sweep ----------------------------------------------------------------------------------------------------

abbrev s3 : Acting
s3 = swept_on 11000 3 (at_rest 2 1000 1 false (view_at 1 []) None)

module _ (f : Facts) (swept : Option Sweep) (over : is_running swept ≡ false) (few : next_in swept ≡ 3) (old : raised f 3 ≡ view_at 3 []) where
  to_begin3 : IsToBegin 11000 3 (at_rest 2 1000 1 false f swept)
  to_begin3 =
      record { before = refl; idle = refl; stays = refl; rests = refl; due = refl; next = refl; over = over; forgotten = old; some = omega arith }

  good3 : GoodLine (11000, Told.Time) (at_rest 2 1000 1 false f swept)
  unfolding with_bytes
  good3 =
      begins_good 11000 3 (at_rest 2 1000 1 false f swept) to_begin3 (record { tries = refl; left = omega arith; asked = omega (arith, few) })
      (omega arith) refl refl refl

  begins3 : after_line (11000, Told.Time) (at_rest 2 1000 1 false f swept) ≡ s3
  begins3 = begun 11000 3 (at_rest 2 1000 1 false f swept) to_begin3

abbrev node3 : Line
node3 = answer 11000 1 s3

abbrev n3 : Acting
n3 = after_line node3 s3

abbrev port3 : Line
port3 = answer 11000 1 n3

abbrev x3 : Acting
x3 = before_deciding port3 n3

node_good3 : GoodLine node3 s3
unfolding after_answer get_of set_of changed_port with_bytes
node_good3 =
    awake_good node3 s3 n3 refl (record { tries = refl; left = omega arith; asked = omega arith }) (omega arith) refl tt refl refl refl
    (λ e k. absurd (both_ways _ refl e)) (λ e k. absurd (both_ways _ refl e))

judges3 : Judges x3
unfolding after_answer get_of set_of changed_port with_bytes
judges3 = record { idle = refl; stays = refl; is_sweep = refl; judges = refl }

has_swept3 : HasSwept 3 1 x3.manager
unfolding after_answer get_of set_of changed_port with_bytes
has_swept3 = record { swept = refl; planning_is = refl; store_is = refl; no_fault = refl; has_plan = refl; some = omega arith }

plan_there3 : plan_at 3 1 ≡ the_plan
plan_there3 = refl

planned3 : planned x3.manager ≡ Some the_plan
planned3 = plan_is 3 1 x3.manager has_swept3 ∙ ap Some plan_there3

swept3 : SweptWell x3
unfolding after_answer get_of set_of changed_port with_bytes
swept3 =
    record {
      master = refl;
      alone = refl;
      near = refl;
      fresh = refl;
      plan = the_plan;
      is_planned = planned3;
      unrefused = may_write 3 1 x3.manager has_swept3;
    }

abbrev over3 : Acting
over3 = at_over 3 11000 11000 x3.manager.store (sweep_in x3.manager.sweep)

over_is3 : x3 ≡ over3
unfolding after_answer get_of set_of changed_port with_bytes
over_is3 = refl

rest_is3 : (f : Facts) (s : Sweep)
    → printed (judging_of (Some the_plan) (after_sweep (at_over 3 11000 11000 f s))) ≡ at_rest 3 11000 1 false f (Some (sweep_of 3 s))
rest_is3 f s = refl

rest_losing_none3 : (f : Facts) (s : Sweep)
    → list_any tells_loss (shown (judging_of (Some the_plan) (after_sweep (at_over 3 11000 11000 f s)))).notes ≡ false
rest_losing_none3 f s = refl

abbrev r3 : Acting
r3 = at_rest 3 11000 1 false x3.manager.store (Some (sweep_of 3 (sweep_in x3.manager.sweep)))

told3 : after_told port3.0 port3.1 n3 ≡ shown (judging_of (Some the_plan) (after_sweep over3))
told3 =
    over_so port3 n3 the_plan judges3 planned3 ∙ ap (λ (x : Acting). shown (judging_of (Some the_plan) (after_sweep x))) over_is3

leads3 : after_line port3 n3 ≡ r3
leads3 = ap given_away told3 ∙ rest_is3 x3.manager.store (sweep_in x3.manager.sweep)

none_lost3 : list_any tells_loss (after_told port3.0 port3.1 n3).notes ≡ false
none_lost3 =
    ap (λ (x : Acting). list_any tells_loss x.notes) told3 ∙ rest_losing_none3 x3.manager.store (sweep_in x3.manager.sweep)

port_good3 : GoodLine port3 n3
unfolding after_answer get_of set_of changed_port with_bytes
port_good3 =
    awake_good port3 n3 r3 leads3 (record { tries = refl; left = omega arith; asked = omega arith }) (omega arith) refl tt refl refl none_lost3
    (λ e k. swept3) (λ e k. absurd (both_ways _ refl k))

gone3 : raised x3.manager.store 4 ≡ view_at 4 []
gone3 =
    ap (λ (f : Facts). raised f 4) (facts_are 3 1 x3.manager has_swept3)
    ∙ forgets 3 4 (tells 3 1) (omega arith) refl

-- the fourth sweep begins --------------------------------------------------------------------------------------------

abbrev s4 : Acting
s4 = swept_on 21000 4 (at_rest 3 11000 1 false (view_at 1 []) None)

module _ (f : Facts) (swept : Option Sweep) (over : is_running swept ≡ false) (few : next_in swept ≡ 3) (old : raised f 4 ≡ view_at 4 []) where
  to_begin4 : IsToBegin 21000 4 (at_rest 3 11000 1 false f swept)
  to_begin4 =
      record { before = refl; idle = refl; stays = refl; rests = refl; due = refl; next = refl; over = over; forgotten = old; some = omega arith }

  good4 : GoodLine (21000, Told.Time) (at_rest 3 11000 1 false f swept)
  unfolding with_bytes
  good4 =
      begins_good 21000 4 (at_rest 3 11000 1 false f swept) to_begin4 (record { tries = refl; left = omega arith; asked = omega (arith, few) })
      (omega arith) refl refl refl

  begins4 : after_line (21000, Told.Time) (at_rest 3 11000 1 false f swept) ≡ s4
  begins4 = begun 21000 4 (at_rest 3 11000 1 false f swept) to_begin4

-- the run -------------------------------------------------------------------------------------------------------------

-- the lines from each sweep on
abbrev lines4 : List Line
lines4 = (21000, Told.Time) ∷ []

abbrev lines3 : List Line
lines3 = (11000, Told.Time) ∷ node3 ∷ port3 ∷ lines4

abbrev lines2 : List Line
lines2 = (1000, Told.Time) ∷ node2 ∷ port2 ∷ lines3

abbrev lines : List Line
lines = (0, Told.Time) ∷ node1 ∷ port1 ∷ set1 ∷ lines2

good_end : GoodEnd 21000 s4
unfolding with_bytes
good_end = record { fits = record { tries = refl; left = omega arith; asked = omega arith }; at = refl }

goes4 : (f : Facts) (s : Sweep) → raised f 4 ≡ view_at 4 [] → Goes 21000 lines4 (at_rest 3 11000 1 false f (Some (sweep_of 3 s)))
goes4 f s gone =
    let swept : Option Sweep = Some (sweep_of 3 s) in
    goes_on 21000 (21000, Told.Time) [] (at_rest 3 11000 1 false f swept) s4 (begins4 f swept refl refl gone) (good4 f swept refl refl gone) good_end

goes3 : (f : Facts) (s : Sweep) → raised f 3 ≡ view_at 3 [] → Goes 21000 lines3 (at_rest 2 1000 1 false f (Some (sweep_of 2 s)))
goes3 f s gone =
    let swept : Option Sweep = Some (sweep_of 2 s) in
    goes_on 21000 (11000, Told.Time) (node3 ∷ port3 ∷ lines4) (at_rest 2 1000 1 false f swept) s3 (begins3 f swept refl refl gone)
    (good3 f swept refl refl gone)
    (node_good3, goes_on 21000 port3 lines4 n3 r3 leads3 port_good3 (goes4 x3.manager.store (sweep_in x3.manager.sweep) gone3))

goes2 : (f : Facts) (s : Sweep) → raised f 2 ≡ view_at 2 [] → Goes 21000 lines2 (at_rest 1 0 1 true f (Some (sweep_of 1 s)))
goes2 f s gone =
    let swept : Option Sweep = Some (sweep_of 1 s) in
    goes_on 21000 (1000, Told.Time) (node2 ∷ port2 ∷ lines3) (at_rest 1 0 1 true f swept) s2 (begins2 f swept refl refl gone)
    (good2 f swept refl refl gone)
    (node_good2, goes_on 21000 port2 lines3 n2 r2 leads2 port_good2 (goes3 x2.manager.store (sweep_in x2.manager.sweep) gone2))

goes1 : (f : Facts) (s : Sweep) → raised f 2 ≡ view_at 2 [] → Goes 21000 (set1 ∷ lines2) (at_write f (Some (sweep_of 1 s)))
goes1 f s gone =
    let swept : Option Sweep = Some (sweep_of 1 s) in
    goes_on 21000 set1 lines2 (at_write f swept) (at_rest 1 0 1 true f swept) (set_leads f swept) (set_good f swept refl) (goes2 f s gone)

goes : Goes 21000 lines first
goes =
    goes_on 21000 (0, Told.Time) (node1 ∷ port1 ∷ set1 ∷ lines2) first s1 (begun 0 1 first to_begin1) good1
    (node_good1, goes_on 21000 port1 (set1 ∷ lines2) n1 r1 leads1 port_good1 (goes1 x1.manager.store (sweep_in x1.manager.sweep) gone1))

undisturbed : IsUndisturbed 5 first lines
undisturbed =
    record {
      decided = record {
        port_guid = 17;
        port = 1;
        priority = 0;
        conduct = Plain;
        planning = alone;
        timing = timing;
        limits = limits;
        newest = 0;
        lines = [];
        are = refl;
      };
      generations = omega arith;
      none_left = tt;
      first = λ e k. refl;
      well = its_well 21000 lines first goes;
      few = few_turns 21000 lines first goes;
      tries = omega arith;
      outstanding = omega arith;
      stays_on = refl;
      none_leaves = none_leaves 21000 lines first goes;
      time = subst (λ n. n < 2 ^ 64) (sym (its_end 21000 lines first goes)) (omega arith);
    }

pub some_manager_heals : SomeManagerHeals
unfolding undisturbed
some_manager_heals =
    record {
      bound = 5;
      acting = first;
      lines = lines;
      undisturbed = undisturbed;
      prompt = its_prompt 21000 lines first goes;
      long = subst (λ n. 20144 < n) (sym (its_end 21000 lines first goes)) (omega arith);
    }
