-- What a manager that decides by itself answers as subnet administration (SA). InfiniBand Architecture Specification,
-- Volume 1: subnet administration.
use Rattle.std.specs.Prelude.{ℕ, Bool, ◌&&◌, List, Option, Some, None, option_map, if◌then◌else◌}
use Rattle.fact_store.specs.View.{cells_of}
use Rattle.lft_blocks.specs.Plan.{PlanValue}
use Rattle.sweep.specs.Sweep.{Sweep}
use Rattle.sm_state.specs.Standing.{is_in}
use Rattle.sm_state.specs.declared.state.SmState.TheVariants.{Master}
use Rattle.sm_manager.specs.Manager.{Manager, swept_of}
use Rattle.sm_manager.specs.Writing.{is_written}
use Rattle.sa_bytes.specs.SaPacket.{is_sa_request}
use Rattle.sa_answers.specs.Reply.{answer_to}
use Rattle.sa_answers.specs.Told.{Told}
use Rattle.acting_manager.specs.Acting.{Acting}
use Rattle.acting_manager.specs.Acts.{is_whole}

-- whether the manager is master, the plan of its last writing is written, and no other manager may have written since
abbrev pub stands : Acting → Bool
stands a = is_in Master a.manager.standing && (a.policy.written.stands && is_written a.manager)

-- the last sweep, if it is over and has every answer but those of managers, and the plan of the last writing stands
abbrev pub standing_sweep : Acting → Option Sweep
standing_sweep a = if stands a && is_whole a.manager then swept_of a.manager.sweep else None

-- what is told by the facts of a manager, its last sweep if that is done, the plan of its last writing, if there is one,
-- and whether the manager writes the multicast tree
abbrev pub told_by : Manager → Option Sweep → Option PlanValue → Option Told
told_by m (Some s) (Some plan) =
    Some (record {
      cells = cells_of m.store;
      plan = plan;
      images = s.images.ports;
      own = m.standing.guid;
      multicast = m.planning.multicast;
    })
told_by m s plan = None

-- what is told: nothing if the manager is not master, if the plan of its last writing is not written, if another manager
-- may have written since, or while a sweep runs, since then not every image is there
abbrev pub told_of : Acting → Option Told
told_of a = if stands a then told_by a.manager (swept_of a.manager.sweep) a.kept else None

-- the answer to the packet `packet`; None if it is no request of subnet administration, or if nothing is told
abbrev pub administered : Acting → List ℕ → Option (List ℕ)
administered a packet =
    if is_sa_request packet then option_map (λ told. answer_to told packet) (told_of a) else None
