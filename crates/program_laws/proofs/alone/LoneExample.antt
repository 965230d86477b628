-- A manager that is alone for so long that it leads, and heals: a new one on an adapter with one port and no cable, which is told the time
-- and its adapter's answers.
use Rattle.std.proofs.Common.{◌≡◌, ◌<◌, ◌∙◌, ◌+◌, ◌^◌, true, false, List, [], ◌∷◌, length, refl, sym, ap, subst, arith}
use Rattle.std.proofs.lemmas.Bool.{both_ways}
use Rattle.std.specs.Prelude.{Some}
use Rattle.node_agents.specs.Answers.{after_answer, get_of, set_of}
use Rattle.node_agents.specs.PortInfo.{changed_port}
use Rattle.smp_bytes.specs.Field.{with_bytes}
use Rattle.fact_store.specs.View.{Facts, raised, view_at}
use Rattle.plan_steps.specs.Phase.{Phase}
use Rattle.sweep.specs.Sweep.{Sweep}
use Rattle.sm_state.specs.declared.conduct.Conduct.TheVariants.{Plain}
use Rattle.sm_manager.specs.Writing.{is_written}
use Rattle.sm_policy.specs.Policy.{is_sweeping}
use Rattle.acting_manager.specs.Acting.{Acting}
use Rattle.acting_manager.specs.Working.{Told, is_writing, wake_of}
use Rattle.manager_laws.specs.WritingEnds.{planned_steps, steps_of}
use Rattle.manager_laws.proofs.Computed.{sweep_in}
use Rattle.program_laws.specs.Alone.{IsLone, IsNoWord}
use Rattle.program_laws.specs.Leading.{SomeLoneManagerLeads}
use Rattle.program_laws.specs.LoneHealing.{SomeLoneManagerHeals}
use Rattle.program_laws.specs.NextSweep.{HasFewTurns}
use Rattle.program_laws.specs.Wakes.{HasDecided, IsBy, Line, before_deciding}
use Rattle.program_laws.specs.Wakes.{control_in, next_in, sets_to_come}
use Rattle.program_laws.proofs.alone.FewTurns.{turns_are_few}
use Rattle.program_laws.proofs.lasting.HealingExample.{s1, node1, n1, port1, x1, set1, to_begin1, has_swept1, phases_are, leads1, gone1, set_leads}
use Rattle.program_laws.proofs.lasting.LoneAdapter.{timing, limits, alone, first}
use Rattle.program_laws.proofs.lasting.LoneAdapter.{at_rest, at_write, sweep_of}
use Rattle.program_laws.proofs.lasting.LoneSweeps.{phases_so}
use Rattle.program_laws.proofs.alone.LoneLines.{Begins, Goes, GoodLine, IsBusy, IsOver, IsRoomy, busy_good, goes_on, its_alone, its_end, its_ends}
use Rattle.program_laws.proofs.alone.LoneLines.{its_free, its_little, its_prompt, its_whole, none_leaves, over_good}
use Rattle.program_laws.proofs.alone.LoneTurns.{Start, gone, lines_then, to_begin, turn10, turn11, turn12, turn13, turn14, turn15}
use Rattle.program_laws.proofs.alone.LoneTurns.{turn16, turn17, turn18, turn19, turn2, turn20, turn3, turn4, turn5, turn6, turn7, turn8, turn9, turn_goes}

-- the first sweep --------------------------------------------------------------------------------------------------------------------------

begins1 : Begins 0 1 first
unfolding with_bytes
begins1 = record { prompt = omega arith; few = refl; quiet = refl; at = refl }

at_node1 : IsBusy node1 s1
unfolding after_answer get_of set_of changed_port with_bytes
at_node1 = record { prompt = omega arith; no_word = refl; no_control = refl; few = refl; busy = refl }

at_port1 : IsOver port1 n1
unfolding after_answer get_of set_of changed_port with_bytes
at_port1 = record { prompt = omega arith; no_word = refl; no_control = refl; awake = refl; whole = refl; not_writing = refl }

room1 : IsRoomy port1 n1 1 0 1
unfolding after_answer get_of set_of changed_port with_bytes
room1 = record { counter = refl; cells = refl }

port_good1 : GoodLine port1 n1
port_good1 =
    over_good port1 n1 1 0 1 (omega arith) tt at_port1 has_swept1 room1 (ap (λ (c : Acting). next_in c.manager.sweep) leads1)
    (λ writes. (let same : length (planned_steps x1.manager) ≡ 1 =
    ap (λ (ps : List Phase). length (steps_of ps)) (phases_so 1 0 x1.manager has_swept1 ∙ phases_are) in omega (arith, same)))

module _ (f : Facts) (s : Sweep) where
  abbrev set_writes : Acting
  set_writes = at_write f (Some (sweep_of 1 s))

  record IsSet : Type 0 where
    prompt : IsBy 0 0 (wake_of set_writes)
    no_word : IsNoWord set1.1 set_writes
    no_control : control_in set1.1 ≡ 0
    counter : (before_deciding set1 set_writes).manager.counter + sets_to_come (before_deciding set1 set_writes).manager ≡ 2
    not_sweeping : is_sweeping (before_deciding set1 set_writes).policy.activity ≡ false
    written : is_written (before_deciding set1 set_writes).manager ≡ true

  is_set : IsSet
  unfolding after_answer get_of set_of changed_port with_bytes
  is_set = record { prompt = omega arith; no_word = refl; no_control = refl; counter = refl; not_sweeping = refl; written = refl }

  set_good : GoodLine set1 set_writes
  set_good =
      record {
        prompt = is_set.prompt;
        stays = tt;
        alone = record { no_word = is_set.no_word; left = λ e idle. absurd (cc) };
        little = record {
          no_control = is_set.no_control;
          few = (let next = ap (λ (c : Acting). next_in c.manager.sweep) (set_leads f (Some (sweep_of 1 s))) in omega (arith, next));
          numbers = λ idle. (let counter = is_set.counter in omega (arith, counter));
          plan = λ idle writes.
              absurd (both_ways _ (ap (λ (c : Acting). is_writing c.policy.activity) (set_leads f (Some (sweep_of 1 s)))) writes);
        };
        whole = λ e idle. absurd (cc);
        free = λ idle e. absurd (both_ways _ is_set.not_sweeping e);
        ends = λ idle e. is_set.written;
      }

-- the run ----------------------------------------------------------------------------------------------------------------------------------

start21 : (f : Facts) (s : Sweep) → Start 21 191000 181000 false f s
unfolding with_bytes
start21 f s = record { before = refl; due = refl; next = refl; some = omega arith; begins = record { prompt = omega arith; few = refl; quiet = refl; at = refl } }

abbrev lines21 : List Line
lines21 = (191000, Told.Time) ∷ []

goes21 : (f : Facts) (s : Sweep) → raised f 21 ≡ view_at 21 [] → Goes 191000 lines21 (at_rest 20 181000 1 false f (Some (sweep_of 20 s)))
goes21 f s gone =
    goes_on 191000 21 (at_rest 20 181000 1 false f (Some (sweep_of 20 s))) (to_begin 21 191000 181000 false f s (start21 f s) gone) 191000 []
    (omega arith) (start21 f s).begins (start21 f s).begins.at

abbrev lines20 : List Line
lines20 = lines_then 20 181000 171000 false turn20 lines21

goes20 : (f : Facts) (s : Sweep) → raised f 20 ≡ view_at 20 [] → Goes 191000 lines20 (at_rest 19 171000 1 false f (Some (sweep_of 19 s)))
goes20 = turn_goes 20 181000 171000 false turn20 191000 lines21 goes21

abbrev lines19 : List Line
lines19 = lines_then 19 171000 161000 false turn19 lines20

goes19 : (f : Facts) (s : Sweep) → raised f 19 ≡ view_at 19 [] → Goes 191000 lines19 (at_rest 18 161000 1 false f (Some (sweep_of 18 s)))
goes19 = turn_goes 19 171000 161000 false turn19 191000 lines20 goes20

abbrev lines18 : List Line
lines18 = lines_then 18 161000 151000 false turn18 lines19

goes18 : (f : Facts) (s : Sweep) → raised f 18 ≡ view_at 18 [] → Goes 191000 lines18 (at_rest 17 151000 1 false f (Some (sweep_of 17 s)))
goes18 = turn_goes 18 161000 151000 false turn18 191000 lines19 goes19

abbrev lines17 : List Line
lines17 = lines_then 17 151000 141000 false turn17 lines18

goes17 : (f : Facts) (s : Sweep) → raised f 17 ≡ view_at 17 [] → Goes 191000 lines17 (at_rest 16 141000 1 false f (Some (sweep_of 16 s)))
goes17 = turn_goes 17 151000 141000 false turn17 191000 lines18 goes18

abbrev lines16 : List Line
lines16 = lines_then 16 141000 131000 false turn16 lines17

goes16 : (f : Facts) (s : Sweep) → raised f 16 ≡ view_at 16 [] → Goes 191000 lines16 (at_rest 15 131000 1 false f (Some (sweep_of 15 s)))
goes16 = turn_goes 16 141000 131000 false turn16 191000 lines17 goes17

abbrev lines15 : List Line
lines15 = lines_then 15 131000 121000 false turn15 lines16

goes15 : (f : Facts) (s : Sweep) → raised f 15 ≡ view_at 15 [] → Goes 191000 lines15 (at_rest 14 121000 1 false f (Some (sweep_of 14 s)))
goes15 = turn_goes 15 131000 121000 false turn15 191000 lines16 goes16

abbrev lines14 : List Line
lines14 = lines_then 14 121000 111000 false turn14 lines15

goes14 : (f : Facts) (s : Sweep) → raised f 14 ≡ view_at 14 [] → Goes 191000 lines14 (at_rest 13 111000 1 false f (Some (sweep_of 13 s)))
goes14 = turn_goes 14 121000 111000 false turn14 191000 lines15 goes15

abbrev lines13 : List Line
lines13 = lines_then 13 111000 101000 false turn13 lines14

goes13 : (f : Facts) (s : Sweep) → raised f 13 ≡ view_at 13 [] → Goes 191000 lines13 (at_rest 12 101000 1 false f (Some (sweep_of 12 s)))
goes13 = turn_goes 13 111000 101000 false turn13 191000 lines14 goes14

abbrev lines12 : List Line
lines12 = lines_then 12 101000 91000 false turn12 lines13

goes12 : (f : Facts) (s : Sweep) → raised f 12 ≡ view_at 12 [] → Goes 191000 lines12 (at_rest 11 91000 1 false f (Some (sweep_of 11 s)))
goes12 = turn_goes 12 101000 91000 false turn12 191000 lines13 goes13

abbrev lines11 : List Line
lines11 = lines_then 11 91000 81000 false turn11 lines12

goes11 : (f : Facts) (s : Sweep) → raised f 11 ≡ view_at 11 [] → Goes 191000 lines11 (at_rest 10 81000 1 false f (Some (sweep_of 10 s)))
goes11 = turn_goes 11 91000 81000 false turn11 191000 lines12 goes12

abbrev lines10 : List Line
lines10 = lines_then 10 81000 71000 false turn10 lines11

goes10 : (f : Facts) (s : Sweep) → raised f 10 ≡ view_at 10 [] → Goes 191000 lines10 (at_rest 9 71000 1 false f (Some (sweep_of 9 s)))
goes10 = turn_goes 10 81000 71000 false turn10 191000 lines11 goes11

abbrev lines9 : List Line
lines9 = lines_then 9 71000 61000 false turn9 lines10

goes9 : (f : Facts) (s : Sweep) → raised f 9 ≡ view_at 9 [] → Goes 191000 lines9 (at_rest 8 61000 1 false f (Some (sweep_of 8 s)))
goes9 = turn_goes 9 71000 61000 false turn9 191000 lines10 goes10

abbrev lines8 : List Line
lines8 = lines_then 8 61000 51000 false turn8 lines9

goes8 : (f : Facts) (s : Sweep) → raised f 8 ≡ view_at 8 [] → Goes 191000 lines8 (at_rest 7 51000 1 false f (Some (sweep_of 7 s)))
goes8 = turn_goes 8 61000 51000 false turn8 191000 lines9 goes9

abbrev lines7 : List Line
lines7 = lines_then 7 51000 41000 false turn7 lines8

goes7 : (f : Facts) (s : Sweep) → raised f 7 ≡ view_at 7 [] → Goes 191000 lines7 (at_rest 6 41000 1 false f (Some (sweep_of 6 s)))
goes7 = turn_goes 7 51000 41000 false turn7 191000 lines8 goes8

abbrev lines6 : List Line
lines6 = lines_then 6 41000 31000 false turn6 lines7

goes6 : (f : Facts) (s : Sweep) → raised f 6 ≡ view_at 6 [] → Goes 191000 lines6 (at_rest 5 31000 1 false f (Some (sweep_of 5 s)))
goes6 = turn_goes 6 41000 31000 false turn6 191000 lines7 goes7

abbrev lines5 : List Line
lines5 = lines_then 5 31000 21000 false turn5 lines6

goes5 : (f : Facts) (s : Sweep) → raised f 5 ≡ view_at 5 [] → Goes 191000 lines5 (at_rest 4 21000 1 false f (Some (sweep_of 4 s)))
goes5 = turn_goes 5 31000 21000 false turn5 191000 lines6 goes6

abbrev lines4 : List Line
lines4 = lines_then 4 21000 11000 false turn4 lines5

goes4 : (f : Facts) (s : Sweep) → raised f 4 ≡ view_at 4 [] → Goes 191000 lines4 (at_rest 3 11000 1 false f (Some (sweep_of 3 s)))
goes4 = turn_goes 4 21000 11000 false turn4 191000 lines5 goes5

abbrev lines3 : List Line
lines3 = lines_then 3 11000 1000 false turn3 lines4

goes3 : (f : Facts) (s : Sweep) → raised f 3 ≡ view_at 3 [] → Goes 191000 lines3 (at_rest 2 1000 1 false f (Some (sweep_of 2 s)))
goes3 = turn_goes 3 11000 1000 false turn3 191000 lines4 goes4

abbrev lines2 : List Line
lines2 = lines_then 2 1000 0 true turn2 lines3

goes2 : (f : Facts) (s : Sweep) → raised f 2 ≡ view_at 2 [] → Goes 191000 lines2 (at_rest 1 0 1 true f (Some (sweep_of 1 s)))
goes2 = turn_goes 2 1000 0 true turn2 191000 lines3 goes3

abbrev lines1 : List Line
lines1 = (0, Told.Time) ∷ node1 ∷ port1 ∷ set1 ∷ lines2

set_goes : (f : Facts) (s : Sweep) → raised f 2 ≡ view_at 2 [] → Goes 191000 (set1 ∷ lines2) (at_write f (Some (sweep_of 1 s)))
set_goes f s gone = (set_good f s, subst (Goes 191000 lines2) (sym (set_leads f (Some (sweep_of 1 s)))) (goes2 f s gone))

goes1 : Goes 191000 lines1 first
goes1 =
    goes_on 0 1 first to_begin1 191000 (node1 ∷ port1 ∷ set1 ∷ lines2) (omega arith) begins1 (
      busy_good node1 s1 tt at_node1,
      (port_good1, subst (Goes 191000 (set1 ∷ lines2)) (sym leads1) (set_goes x1.manager.store (sweep_in x1.manager.sweep) gone1)),
    )

abbrev decided : HasDecided first
decided =
    record {
      port_guid = 17;
      port = 1;
      priority = 0;
      conduct = Plain;
      planning = alone;
      timing = timing;
      limits = limits;
      newest = 0;
      lines = [];
      are = refl;
    }

few : HasFewTurns 4 lines1 first
few =
    turns_are_few 3 1 first lines1 (record {
      decided = decided;
      generations = omega arith;
      none_left = tt;
      tries = omega arith;
      stays_on = refl;
      none_leaves = none_leaves 191000 lines1 first goes1;
      first = omega arith;
      some = omega arith;
      little = its_little 191000 lines1 first goes1;
    })

lone : IsLone 4 first lines1
lone =
    record {
      decided = decided;
      generations = omega arith;
      none_left = tt;
      active = λ e. absurd (cc);
      alone = its_alone 191000 lines1 first goes1;
      few = few;
      tries = omega arith;
      outstanding = omega arith;
      stays_on = refl;
      none_leaves = none_leaves 191000 lines1 first goes1;
      time = subst (λ n. n < 2 ^ 64) (sym (its_end 191000 lines1 first goes1)) (omega arith);
    }

pub some_lone_manager_leads : SomeLoneManagerLeads
unfolding lone
some_lone_manager_leads =
    record {
      bound = 4;
      acting = first;
      lines = lines1;
      lone = lone;
      prompt = its_prompt 191000 lines1 first goes1;
      long = subst (λ n. 170480 < n) (sym (its_end 191000 lines1 first goes1)) (omega arith);
    }

pub some_lone_manager_heals : SomeLoneManagerHeals
unfolding lone
some_lone_manager_heals =
    record {
      bound = 4;
      acting = first;
      lines = lines1;
      lone = lone;
      whole = its_whole 191000 lines1 first goes1;
      free = its_free 191000 lines1 first goes1;
      written = its_ends 191000 lines1 first goes1;
      prompt = its_prompt 191000 lines1 first goes1;
      long = subst (λ n. 190624 < n) (sym (its_end 191000 lines1 first goes1)) (omega arith);
    }
