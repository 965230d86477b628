-- A turn of an example: a sweep of an adapter with one port and no cable, from the line that begins it to the last answer.
use Rattle.std.proofs.Common.{◌≡◌, ◌≤◌, ◌∙◌, ℕ, ◌+◌, ◌-◌, Bool, true, false, List, [], ◌∷◌, refl, sym, ap, subst, arith}
use Rattle.std.proofs.lemmas.Bool.{both_ways}
use Rattle.std.specs.Prelude.{Some, None}
use Rattle.node_agents.specs.Answers.{after_answer, get_of, set_of}
use Rattle.node_agents.specs.PortInfo.{changed_port}
use Rattle.smp_bytes.specs.Field.{with_bytes}
use Rattle.fact_store.specs.Floor.{kept}
use Rattle.fact_store.specs.View.{Facts, raised, view_at}
use Rattle.sweep.specs.Sweep.{Sweep}
use Rattle.sm_state.specs.Standing.{one_more}
use Rattle.sm_policy.specs.Resting.{rested, sweeping}
use Rattle.sm_policy.specs.declared.act.Act.TheVariants as act
use Rattle.acting_manager.specs.Acting.{Acting}
use Rattle.acting_manager.specs.Acts.{judging_of}
use Rattle.acting_manager.specs.Working.{Told, is_writing}
use Rattle.manager_laws.proofs.Computed.{sweep_in}
use Rattle.program_laws.specs.Wakes.{Line, after_line, before_deciding}
use Rattle.program_laws.specs.Wakes.{next_in}
use Rattle.program_laws.proofs.managed.Example.{Judges, after_sweep}
use Rattle.program_laws.proofs.lasting.LoneAdapter.{answer, tells, forgets, the_plan}
use Rattle.program_laws.proofs.lasting.LoneAdapter.{at_rest, sweep_of, at_over}
use Rattle.program_laws.proofs.lasting.LoneSweeps.{printed, swept_on, IsToBegin, plan_at, HasSwept, facts_are, plan_is}
use Rattle.program_laws.proofs.lasting.LoneSweeps.{over_so}
use Rattle.program_laws.proofs.alone.LoneLines.{Begins, Goes, IsBusy, IsOver, IsRoomy, busy_good, goes_on, over_good}

-- a later sweep ------------------------------------------------------------------------------------------------------------------------

-- the sweep of the generation `g`, which begins at `time`, after one that began at `since`
module _ (g time since : ℕ) (wanted : Bool) where
  -- as it is before, once it has begun, when its node has answered, and when its port has too
  abbrev pub earlier : Facts → Sweep → Acting
  earlier f s = at_rest (g - 1) since 1 wanted f (Some (sweep_of (g - 1) s))

  abbrev pub s_begun : Acting
  s_begun = swept_on time g (at_rest (g - 1) since 1 wanted (view_at 1 []) None)

  abbrev pub node : Line
  node = answer time 1 s_begun

  abbrev pub n : Acting
  n = after_line node s_begun

  abbrev pub port : Line
  port = answer time 1 n

  abbrev pub x : Acting
  x = before_deciding port n

  -- what is computed of how it begins
  pub record Start (f : Facts) (s : Sweep) : Type 0 where
    pub before : before_deciding (time, Told.Time) (earlier f s) ≡ record (earlier f s) { time = time }
    pub due : rested time (earlier f s).policy ≡ record { policy = sweeping time (earlier f s).policy; act = act.Sweep }
    pub next : one_more (g - 1) ≡ g
    pub some : 1 ≤ g
    pub begins : Begins time g (earlier f s)

  -- and of how it ends
  pub record End : Type 0 where
    pub plan : plan_at g 1 ≡ the_plan
    pub over : x ≡ at_over g time (since + 10000) x.manager.store (sweep_in x.manager.sweep)
    pub rests : (f : Facts) (s : Sweep) → printed (judging_of (Some the_plan) (after_sweep (at_over g time (since + 10000) f s)))
        ≡ at_rest g time 1 false f (Some (sweep_of g s))
    pub dropped : kept (g + 1) (tells g 1) ≡ []

  pub record Turn : Type 0 where
    pub start : (f : Facts) (s : Sweep) → Start f s
    pub at_node : IsBusy node s_begun
    pub at_port : IsOver port n
    pub swept : HasSwept g 1 x.manager
    pub room : IsRoomy port n g 1 2
    pub judges : Judges x
    pub end : End

  pub to_begin : (f : Facts) (s : Sweep) → Start f s → raised f g ≡ view_at g [] → IsToBegin time g (earlier f s)
  to_begin f s start gone =
      record {
        before = start.before;
        idle = refl;
        stays = refl;
        rests = refl;
        due = start.due;
        next = start.next;
        over = refl;
        forgotten = gone;
        some = start.some;
      }

  module _ (t : Turn) where
    leads : after_line port n ≡ at_rest g time 1 false x.manager.store (Some (sweep_of g (sweep_in x.manager.sweep)))
    leads =
        ap (λ (c : Acting). record c { ready = []; notes = [] }) (over_so port n the_plan t.judges (plan_is g 1 x.manager t.swept ∙ ap Some t.end.plan))
        ∙ ap (λ (c : Acting). printed (judging_of (Some the_plan) (after_sweep c))) t.end.over ∙ t.end.rests x.manager.store (sweep_in x.manager.sweep)

    pub gone : raised x.manager.store (g + 1) ≡ view_at (g + 1) []
    gone =
        ap (λ (f : Facts). raised f (g + 1)) (facts_are g 1 x.manager t.swept)
        ∙ forgets g (g + 1) (tells g 1) (omega arith) t.end.dropped

    abbrev pub lines_then : List Line → List Line
    lines_then lines = (time, Told.Time) ∷ node ∷ port ∷ lines

    pub turn_goes : (end : ℕ) (lines : List Line)
        → ((f : Facts) (s : Sweep) → raised f (g + 1) ≡ view_at (g + 1) [] → Goes end lines (at_rest g time 1 false f (Some (sweep_of g s))))
        → (f : Facts) (s : Sweep) → raised f g ≡ view_at g [] → Goes end (lines_then lines) (earlier f s)
    turn_goes end lines goes f s e =
        let b = at_rest g time 1 false x.manager.store (Some (sweep_of g (sweep_in x.manager.sweep))) in
        goes_on time g (earlier f s) (to_begin f s (t.start f s) e) end (node ∷ port ∷ lines) (omega arith) (t.start f s).begins (
          busy_good node s_begun tt t.at_node,
          (
            over_good port n g 1 2 (omega arith) tt t.at_port t.swept t.room (ap (λ (c : Acting). next_in c.manager.sweep) leads)
                (λ writes. absurd (both_ways _ (ap (λ (c : Acting). is_writing c.policy.activity) leads) writes)),
            subst (Goes end lines) (sym leads) (goes x.manager.store (sweep_in x.manager.sweep) gone),
          ),
        )

pub turn2 : Turn 2 1000 0 true
unfolding after_answer get_of set_of changed_port with_bytes
turn2 =
    record {
      start = λ f s. record {
        before = refl;
        due = refl;
        next = refl;
        some = omega arith;
        begins = record { prompt = omega arith; few = refl; quiet = refl; at = refl };
      };
      at_node = record { prompt = omega arith; no_word = refl; no_control = refl; few = refl; busy = refl };
      at_port = record { prompt = omega arith; no_word = refl; no_control = refl; awake = refl; whole = refl; not_writing = refl };
      swept = record { swept = refl; planning_is = refl; store_is = refl; no_fault = refl; has_plan = refl; some = omega arith };
      room = record { counter = refl; cells = refl };
      judges = record { idle = refl; stays = refl; is_sweep = refl; judges = refl };
      end = record { plan = refl; over = refl; rests = λ f s. refl; dropped = refl };
    }

pub turn3 : Turn 3 11000 1000 false
unfolding after_answer get_of set_of changed_port with_bytes
turn3 =
    record {
      start = λ f s. record {
        before = refl;
        due = refl;
        next = refl;
        some = omega arith;
        begins = record { prompt = omega arith; few = refl; quiet = refl; at = refl };
      };
      at_node = record { prompt = omega arith; no_word = refl; no_control = refl; few = refl; busy = refl };
      at_port = record { prompt = omega arith; no_word = refl; no_control = refl; awake = refl; whole = refl; not_writing = refl };
      swept = record { swept = refl; planning_is = refl; store_is = refl; no_fault = refl; has_plan = refl; some = omega arith };
      room = record { counter = refl; cells = refl };
      judges = record { idle = refl; stays = refl; is_sweep = refl; judges = refl };
      end = record { plan = refl; over = refl; rests = λ f s. refl; dropped = refl };
    }

pub turn4 : Turn 4 21000 11000 false
unfolding after_answer get_of set_of changed_port with_bytes
turn4 =
    record {
      start = λ f s. record {
        before = refl;
        due = refl;
        next = refl;
        some = omega arith;
        begins = record { prompt = omega arith; few = refl; quiet = refl; at = refl };
      };
      at_node = record { prompt = omega arith; no_word = refl; no_control = refl; few = refl; busy = refl };
      at_port = record { prompt = omega arith; no_word = refl; no_control = refl; awake = refl; whole = refl; not_writing = refl };
      swept = record { swept = refl; planning_is = refl; store_is = refl; no_fault = refl; has_plan = refl; some = omega arith };
      room = record { counter = refl; cells = refl };
      judges = record { idle = refl; stays = refl; is_sweep = refl; judges = refl };
      end = record { plan = refl; over = refl; rests = λ f s. refl; dropped = refl };
    }

pub turn5 : Turn 5 31000 21000 false
unfolding after_answer get_of set_of changed_port with_bytes
turn5 =
    record {
      start = λ f s. record {
        before = refl;
        due = refl;
        next = refl;
        some = omega arith;
        begins = record { prompt = omega arith; few = refl; quiet = refl; at = refl };
      };
      at_node = record { prompt = omega arith; no_word = refl; no_control = refl; few = refl; busy = refl };
      at_port = record { prompt = omega arith; no_word = refl; no_control = refl; awake = refl; whole = refl; not_writing = refl };
      swept = record { swept = refl; planning_is = refl; store_is = refl; no_fault = refl; has_plan = refl; some = omega arith };
      room = record { counter = refl; cells = refl };
      judges = record { idle = refl; stays = refl; is_sweep = refl; judges = refl };
      end = record { plan = refl; over = refl; rests = λ f s. refl; dropped = refl };
    }

pub turn6 : Turn 6 41000 31000 false
unfolding after_answer get_of set_of changed_port with_bytes
turn6 =
    record {
      start = λ f s. record {
        before = refl;
        due = refl;
        next = refl;
        some = omega arith;
        begins = record { prompt = omega arith; few = refl; quiet = refl; at = refl };
      };
      at_node = record { prompt = omega arith; no_word = refl; no_control = refl; few = refl; busy = refl };
      at_port = record { prompt = omega arith; no_word = refl; no_control = refl; awake = refl; whole = refl; not_writing = refl };
      swept = record { swept = refl; planning_is = refl; store_is = refl; no_fault = refl; has_plan = refl; some = omega arith };
      room = record { counter = refl; cells = refl };
      judges = record { idle = refl; stays = refl; is_sweep = refl; judges = refl };
      end = record { plan = refl; over = refl; rests = λ f s. refl; dropped = refl };
    }

pub turn7 : Turn 7 51000 41000 false
unfolding after_answer get_of set_of changed_port with_bytes
turn7 =
    record {
      start = λ f s. record {
        before = refl;
        due = refl;
        next = refl;
        some = omega arith;
        begins = record { prompt = omega arith; few = refl; quiet = refl; at = refl };
      };
      at_node = record { prompt = omega arith; no_word = refl; no_control = refl; few = refl; busy = refl };
      at_port = record { prompt = omega arith; no_word = refl; no_control = refl; awake = refl; whole = refl; not_writing = refl };
      swept = record { swept = refl; planning_is = refl; store_is = refl; no_fault = refl; has_plan = refl; some = omega arith };
      room = record { counter = refl; cells = refl };
      judges = record { idle = refl; stays = refl; is_sweep = refl; judges = refl };
      end = record { plan = refl; over = refl; rests = λ f s. refl; dropped = refl };
    }

pub turn8 : Turn 8 61000 51000 false
unfolding after_answer get_of set_of changed_port with_bytes
turn8 =
    record {
      start = λ f s. record {
        before = refl;
        due = refl;
        next = refl;
        some = omega arith;
        begins = record { prompt = omega arith; few = refl; quiet = refl; at = refl };
      };
      at_node = record { prompt = omega arith; no_word = refl; no_control = refl; few = refl; busy = refl };
      at_port = record { prompt = omega arith; no_word = refl; no_control = refl; awake = refl; whole = refl; not_writing = refl };
      swept = record { swept = refl; planning_is = refl; store_is = refl; no_fault = refl; has_plan = refl; some = omega arith };
      room = record { counter = refl; cells = refl };
      judges = record { idle = refl; stays = refl; is_sweep = refl; judges = refl };
      end = record { plan = refl; over = refl; rests = λ f s. refl; dropped = refl };
    }

pub turn9 : Turn 9 71000 61000 false
unfolding after_answer get_of set_of changed_port with_bytes
turn9 =
    record {
      start = λ f s. record {
        before = refl;
        due = refl;
        next = refl;
        some = omega arith;
        begins = record { prompt = omega arith; few = refl; quiet = refl; at = refl };
      };
      at_node = record { prompt = omega arith; no_word = refl; no_control = refl; few = refl; busy = refl };
      at_port = record { prompt = omega arith; no_word = refl; no_control = refl; awake = refl; whole = refl; not_writing = refl };
      swept = record { swept = refl; planning_is = refl; store_is = refl; no_fault = refl; has_plan = refl; some = omega arith };
      room = record { counter = refl; cells = refl };
      judges = record { idle = refl; stays = refl; is_sweep = refl; judges = refl };
      end = record { plan = refl; over = refl; rests = λ f s. refl; dropped = refl };
    }

pub turn10 : Turn 10 81000 71000 false
unfolding after_answer get_of set_of changed_port with_bytes
turn10 =
    record {
      start = λ f s. record {
        before = refl;
        due = refl;
        next = refl;
        some = omega arith;
        begins = record { prompt = omega arith; few = refl; quiet = refl; at = refl };
      };
      at_node = record { prompt = omega arith; no_word = refl; no_control = refl; few = refl; busy = refl };
      at_port = record { prompt = omega arith; no_word = refl; no_control = refl; awake = refl; whole = refl; not_writing = refl };
      swept = record { swept = refl; planning_is = refl; store_is = refl; no_fault = refl; has_plan = refl; some = omega arith };
      room = record { counter = refl; cells = refl };
      judges = record { idle = refl; stays = refl; is_sweep = refl; judges = refl };
      end = record { plan = refl; over = refl; rests = λ f s. refl; dropped = refl };
    }

pub turn11 : Turn 11 91000 81000 false
unfolding after_answer get_of set_of changed_port with_bytes
turn11 =
    record {
      start = λ f s. record {
        before = refl;
        due = refl;
        next = refl;
        some = omega arith;
        begins = record { prompt = omega arith; few = refl; quiet = refl; at = refl };
      };
      at_node = record { prompt = omega arith; no_word = refl; no_control = refl; few = refl; busy = refl };
      at_port = record { prompt = omega arith; no_word = refl; no_control = refl; awake = refl; whole = refl; not_writing = refl };
      swept = record { swept = refl; planning_is = refl; store_is = refl; no_fault = refl; has_plan = refl; some = omega arith };
      room = record { counter = refl; cells = refl };
      judges = record { idle = refl; stays = refl; is_sweep = refl; judges = refl };
      end = record { plan = refl; over = refl; rests = λ f s. refl; dropped = refl };
    }

pub turn12 : Turn 12 101000 91000 false
unfolding after_answer get_of set_of changed_port with_bytes
turn12 =
    record {
      start = λ f s. record {
        before = refl;
        due = refl;
        next = refl;
        some = omega arith;
        begins = record { prompt = omega arith; few = refl; quiet = refl; at = refl };
      };
      at_node = record { prompt = omega arith; no_word = refl; no_control = refl; few = refl; busy = refl };
      at_port = record { prompt = omega arith; no_word = refl; no_control = refl; awake = refl; whole = refl; not_writing = refl };
      swept = record { swept = refl; planning_is = refl; store_is = refl; no_fault = refl; has_plan = refl; some = omega arith };
      room = record { counter = refl; cells = refl };
      judges = record { idle = refl; stays = refl; is_sweep = refl; judges = refl };
      end = record { plan = refl; over = refl; rests = λ f s. refl; dropped = refl };
    }

pub turn13 : Turn 13 111000 101000 false
unfolding after_answer get_of set_of changed_port with_bytes
turn13 =
    record {
      start = λ f s. record {
        before = refl;
        due = refl;
        next = refl;
        some = omega arith;
        begins = record { prompt = omega arith; few = refl; quiet = refl; at = refl };
      };
      at_node = record { prompt = omega arith; no_word = refl; no_control = refl; few = refl; busy = refl };
      at_port = record { prompt = omega arith; no_word = refl; no_control = refl; awake = refl; whole = refl; not_writing = refl };
      swept = record { swept = refl; planning_is = refl; store_is = refl; no_fault = refl; has_plan = refl; some = omega arith };
      room = record { counter = refl; cells = refl };
      judges = record { idle = refl; stays = refl; is_sweep = refl; judges = refl };
      end = record { plan = refl; over = refl; rests = λ f s. refl; dropped = refl };
    }

pub turn14 : Turn 14 121000 111000 false
unfolding after_answer get_of set_of changed_port with_bytes
turn14 =
    record {
      start = λ f s. record {
        before = refl;
        due = refl;
        next = refl;
        some = omega arith;
        begins = record { prompt = omega arith; few = refl; quiet = refl; at = refl };
      };
      at_node = record { prompt = omega arith; no_word = refl; no_control = refl; few = refl; busy = refl };
      at_port = record { prompt = omega arith; no_word = refl; no_control = refl; awake = refl; whole = refl; not_writing = refl };
      swept = record { swept = refl; planning_is = refl; store_is = refl; no_fault = refl; has_plan = refl; some = omega arith };
      room = record { counter = refl; cells = refl };
      judges = record { idle = refl; stays = refl; is_sweep = refl; judges = refl };
      end = record { plan = refl; over = refl; rests = λ f s. refl; dropped = refl };
    }

pub turn15 : Turn 15 131000 121000 false
unfolding after_answer get_of set_of changed_port with_bytes
turn15 =
    record {
      start = λ f s. record {
        before = refl;
        due = refl;
        next = refl;
        some = omega arith;
        begins = record { prompt = omega arith; few = refl; quiet = refl; at = refl };
      };
      at_node = record { prompt = omega arith; no_word = refl; no_control = refl; few = refl; busy = refl };
      at_port = record { prompt = omega arith; no_word = refl; no_control = refl; awake = refl; whole = refl; not_writing = refl };
      swept = record { swept = refl; planning_is = refl; store_is = refl; no_fault = refl; has_plan = refl; some = omega arith };
      room = record { counter = refl; cells = refl };
      judges = record { idle = refl; stays = refl; is_sweep = refl; judges = refl };
      end = record { plan = refl; over = refl; rests = λ f s. refl; dropped = refl };
    }

pub turn16 : Turn 16 141000 131000 false
unfolding after_answer get_of set_of changed_port with_bytes
turn16 =
    record {
      start = λ f s. record {
        before = refl;
        due = refl;
        next = refl;
        some = omega arith;
        begins = record { prompt = omega arith; few = refl; quiet = refl; at = refl };
      };
      at_node = record { prompt = omega arith; no_word = refl; no_control = refl; few = refl; busy = refl };
      at_port = record { prompt = omega arith; no_word = refl; no_control = refl; awake = refl; whole = refl; not_writing = refl };
      swept = record { swept = refl; planning_is = refl; store_is = refl; no_fault = refl; has_plan = refl; some = omega arith };
      room = record { counter = refl; cells = refl };
      judges = record { idle = refl; stays = refl; is_sweep = refl; judges = refl };
      end = record { plan = refl; over = refl; rests = λ f s. refl; dropped = refl };
    }

pub turn17 : Turn 17 151000 141000 false
unfolding after_answer get_of set_of changed_port with_bytes
turn17 =
    record {
      start = λ f s. record {
        before = refl;
        due = refl;
        next = refl;
        some = omega arith;
        begins = record { prompt = omega arith; few = refl; quiet = refl; at = refl };
      };
      at_node = record { prompt = omega arith; no_word = refl; no_control = refl; few = refl; busy = refl };
      at_port = record { prompt = omega arith; no_word = refl; no_control = refl; awake = refl; whole = refl; not_writing = refl };
      swept = record { swept = refl; planning_is = refl; store_is = refl; no_fault = refl; has_plan = refl; some = omega arith };
      room = record { counter = refl; cells = refl };
      judges = record { idle = refl; stays = refl; is_sweep = refl; judges = refl };
      end = record { plan = refl; over = refl; rests = λ f s. refl; dropped = refl };
    }

pub turn18 : Turn 18 161000 151000 false
unfolding after_answer get_of set_of changed_port with_bytes
turn18 =
    record {
      start = λ f s. record {
        before = refl;
        due = refl;
        next = refl;
        some = omega arith;
        begins = record { prompt = omega arith; few = refl; quiet = refl; at = refl };
      };
      at_node = record { prompt = omega arith; no_word = refl; no_control = refl; few = refl; busy = refl };
      at_port = record { prompt = omega arith; no_word = refl; no_control = refl; awake = refl; whole = refl; not_writing = refl };
      swept = record { swept = refl; planning_is = refl; store_is = refl; no_fault = refl; has_plan = refl; some = omega arith };
      room = record { counter = refl; cells = refl };
      judges = record { idle = refl; stays = refl; is_sweep = refl; judges = refl };
      end = record { plan = refl; over = refl; rests = λ f s. refl; dropped = refl };
    }

pub turn19 : Turn 19 171000 161000 false
unfolding after_answer get_of set_of changed_port with_bytes
turn19 =
    record {
      start = λ f s. record {
        before = refl;
        due = refl;
        next = refl;
        some = omega arith;
        begins = record { prompt = omega arith; few = refl; quiet = refl; at = refl };
      };
      at_node = record { prompt = omega arith; no_word = refl; no_control = refl; few = refl; busy = refl };
      at_port = record { prompt = omega arith; no_word = refl; no_control = refl; awake = refl; whole = refl; not_writing = refl };
      swept = record { swept = refl; planning_is = refl; store_is = refl; no_fault = refl; has_plan = refl; some = omega arith };
      room = record { counter = refl; cells = refl };
      judges = record { idle = refl; stays = refl; is_sweep = refl; judges = refl };
      end = record { plan = refl; over = refl; rests = λ f s. refl; dropped = refl };
    }

pub turn20 : Turn 20 181000 171000 false
unfolding after_answer get_of set_of changed_port with_bytes
turn20 =
    record {
      start = λ f s. record {
        before = refl;
        due = refl;
        next = refl;
        some = omega arith;
        begins = record { prompt = omega arith; few = refl; quiet = refl; at = refl };
      };
      at_node = record { prompt = omega arith; no_word = refl; no_control = refl; few = refl; busy = refl };
      at_port = record { prompt = omega arith; no_word = refl; no_control = refl; awake = refl; whole = refl; not_writing = refl };
      swept = record { swept = refl; planning_is = refl; store_is = refl; no_fault = refl; has_plan = refl; some = omega arith };
      room = record { counter = refl; cells = refl };
      judges = record { idle = refl; stays = refl; is_sweep = refl; judges = refl };
      end = record { plan = refl; over = refl; rests = λ f s. refl; dropped = refl };
    }
