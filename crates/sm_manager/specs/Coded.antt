-- The coding of managers as numbers, so that a manager can be the value of a struct.
use Rattle.std.specs.Prelude.{ℕ, Bool, List, Option, refl}
use Rattle.std.specs.Coded.{Coded, code_by, coded×, coded_ℕ, coded_bool, coded_list, coded_option}
use Rattle.fact_store.specs.View.{Facts}
use Rattle.fact_store.specs.Coded.{facts_code}
use Rattle.sweep.specs.Sweep.{Sweep}
use Rattle.sweep.specs.contracts.sweep.Sweep as sweep
use Rattle.sm_manager.specs.declared.outgoing.Outgoing.{Outgoing}
use Rattle.sm_manager.specs.contracts.outgoing.Outgoing as outgoing
use Rattle.sm_manager.specs.declared.pending.Pending.{Pending}
use Rattle.sm_manager.specs.contracts.pending.Pending as pending
use Rattle.sm_state.specs.declared.election.SeenManager.{SeenManager}
use Rattle.sm_state.specs.contracts.election.SeenManager as seen
use Rattle.sm_state.specs.declared.standing.Standing.{Standing}
use Rattle.sm_state.specs.contracts.standing.Standing as standing
use Rattle.plan_steps.specs.Phase.{Phase}
use Rattle.plan_steps.specs.contracts.phase.Phase as phase
use Rattle.sm_manager.specs.Manager.{Manager, Writing}
use Rattle.plan_steps.specs.Planning.{Planning, planning_code}

-- a code of writings, made of the codes of their parts
abbrev pub writing_code : Coded Writing
writing_code =
    code_by (List Phase × Bool)
    (coded× (coded_list (phase.the_row).coded) coded_bool)
    (λ w. (w.later, w.has_failed))
    (λ p. record { later = p.0; has_failed = p.1 })
    (λ _. refl)

-- a code of managers, made of the codes of their parts
abbrev pub manager_code : Coded Manager
manager_code =
    code_by ((Standing × ((ℕ × Planning) × Facts))
    × ((Option Sweep × (List SeenManager × Option Writing)) × (ℕ × (List Pending × List Outgoing))))
    (coded× (coded× (standing.the_row).coded (coded× (coded× coded_ℕ planning_code) facts_code))
    (coded× (coded× (coded_option (sweep.the_row).coded)
    (coded× (coded_list (seen.the_row).coded) (coded_option writing_code)))
    (coded× coded_ℕ (coded× (coded_list (pending.the_row).coded) (coded_list (outgoing.the_row).coded)))))
    (λ m. (
      (m.standing, ((m.port, m.planning), m.store)),
      ((m.sweep, (m.seen, m.writing)), (m.counter, (m.pending, m.outgoing))),
    ))
    (λ p. record {
      standing = p.0.0;
      port = p.0.1.0.0;
      planning = p.0.1.0.1;
      store = p.0.1.1;
      sweep = p.1.0.0;
      seen = p.1.0.1.0;
      writing = p.1.0.1.1;
      counter = p.1.1.0;
      pending = p.1.1.1.0;
      outgoing = p.1.1.1.1;
    })
    (λ _. refl)
