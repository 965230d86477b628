-- A manager on an adapter with one port and no cable: what it is told there, and what it is between its sweeps.
use Rattle.std.proofs.Common.{◌≡◌, ◌≤◌, ◌∙◌, ℕ, ◌+◌, Bool, true, false, List, [], ◌∷◌, ◌++◌, sym, ap, arith, map}
use Rattle.std.specs.Prelude.{Option, Some, None, max, replicate}
use Rattle.node_agents.specs.Agent.{Agent}
use Rattle.node_agents.specs.Answers.{after_answer}
use Rattle.smp_bytes.specs.declared.node_type.NodeType.TheVariants.{ChannelAdapter}
use Rattle.attr_codec.specs.declared.port_state.PortState.TheVariants.{Down, NoChange}
use Rattle.fact_join.specs.declared.cell.Cell.TheVariants.{Known}
use Rattle.reply_facts.specs.declared.key.Key.TheVariants as key
use Rattle.reply_facts.specs.declared.value.Value.TheVariants.{Kind, Guid, Up, Lid}
use Rattle.reply_facts.specs.Report.{Sightings}
use Rattle.fact_store.specs.Floor.{entries-dropped, kept}
use Rattle.fact_store.specs.Merge.{merge}
use Rattle.fact_store.specs.Seen.{newest_of, seen}
use Rattle.fact_store.specs.View.{Facts, cells_of, raised, view, view_at}
use Rattle.fact_store.proofs.Entries.{cells_of_view, entries-seen}
use Rattle.fact_store.proofs.Held.{view-kept}
use Rattle.fact_store.proofs.Merges.{at_same_floor}
use Rattle.fact_store.proofs.Views.{raising_forgets, view_of_both}
use Rattle.subnet_view.specs.Reading.{Cells}
use Rattle.lft_blocks.specs.Plan.{PlanValue}
use Rattle.lft_blocks.specs.Planning.{Planning}
use Rattle.lft_blocks.specs.Rule.{up_and_down}
use Rattle.smp_bytes.specs.Header.{port_info}
use Rattle.plan_steps.specs.LidSteps.{port_data}
use Rattle.plan_steps.specs.Step.{set_packet}
use Rattle.plan_steps.specs.declared.step.Step.{Step}
use Rattle.sweep.specs.Sweep.{Sweep}
use Rattle.sm_state.specs.declared.conduct.Conduct.TheVariants.{Plain}
use Rattle.sm_state.specs.declared.state.SmState.TheVariants.{Master}
use Rattle.sm_manager.specs.Manager.{new_manager, newest_held}
use Rattle.sm_manager.specs.Writing.{pending_step}
use Rattle.sm_policy.specs.declared.activity.Activity.TheVariants.{Rests, Sweeps, Writes}
use Rattle.sm_policy.specs.declared.timing.Timing.{Timing}
use Rattle.request_window.specs.declared.limits.Limits.{Limits}
use Rattle.request_window.specs.declared.out.Out.{Out}
use Rattle.acting_manager.specs.Acting.{Acting, new_acting}
use Rattle.acting_manager.specs.Working.{Told}
use Rattle.acting_manager.specs.declared.note.Note.TheVariants.{State}
use Rattle.program_laws.specs.Wakes.{Line}

-- the manager, and its adapter -------------------------------------------------------------------------------------

abbrev pub timing : Timing
timing = record { every = 10000; poll = 1000; is_strict = true }

abbrev pub limits : Limits
limits = record { outstanding = 1; tries = 1; timeout = 1 }

abbrev pub alone : Planning
alone = record { lmc = 0; rule = up_and_down; multicast = false }

abbrev pub first : Acting
first = new_acting (new_manager 17 1 0 Plain alone) timing limits 0

-- its adapter once a LID is set, or 0
abbrev pub adapter : ℕ → Agent
adapter lid =
    record {
      node = record { guid = 16; kind = ChannelAdapter; ports = 1; cap = 0; description = replicate 64 0 };
      ports =
          record { base_lid = 0; lmc = 0; master_sm_lid = 0; state = Down; is_sm = false }
          ∷ record { base_lid = lid; lmc = 0; master_sm_lid = lid; state = Down; is_sm = true } ∷ [];
      table = [];
      top = 0;
      masks = [];
    }

-- the bytes of the first request that is out
abbrev pub out_in : List Out → List ℕ
out_in [] = []
out_in (out ∷ outs) = out.request.packet

-- the answer to it, at a time
abbrev pub answer : ℕ → ℕ → Acting → Line
answer time lid a = (time, Told.Packet (after_answer (adapter lid) (out_in a.window.outs) 1).packet None)

-- facts --------------------------------------------------------------------------------------------------------------

-- what its adapter tells in the sweep of a generation
abbrev pub of_node : ℕ → Sightings
of_node g = (key.Node 16, Known g (Kind ChannelAdapter 1)) ∷ (key.PortGuid 16 1, Known g (Guid 17)) ∷ []

abbrev pub of_port : ℕ → ℕ → Sightings
of_port g lid = (key.Port 16 1, Known g (Up false)) ∷ (key.Claim 16 1, Known g (Lid lid)) ∷ []

abbrev pub tells : ℕ → ℕ → Sightings
tells g lid = of_node g ++ of_port g lid

-- merged into no facts
pub gathered : (g : ℕ) (some more : Sightings) → 1 ≤ g → merge (merge (view_at g []) (view some)) (view more) ≡ view_at g (some ++ more)
gathered g some more h =
    ap (λ (f : Facts). merge f (view more)) (sym (view_of_both g 1 [] some) ∙ at_same_floor (max g 1) g (seen some) (omega arith))
    ∙ sym (view_of_both g 1 some more) ∙ at_same_floor (max g 1) g (seen (some ++ more)) (omega arith)

-- the cells of a view at a floor
abbrev pub cells_at : ℕ → Sightings → Cells
cells_at g told = kept (max 1 g) (cells_of_view told)

pub cells_are : (g : ℕ) (told : Sightings) → cells_of (view_at g told) ≡ cells_at g told
cells_are g told = entries-dropped (max 1 g) (seen told) ∙ ap (kept (max 1 g)) (entries-seen told)

-- facts below a floor are dropped
pub forgets : (floor g : ℕ) (told : Sightings) → floor ≤ g → kept g told ≡ [] → raised (view_at floor told) g ≡ view_at g []
forgets floor g told h none =
    raising_forgets floor g told ∙ at_same_floor (max floor g) g (seen told) (omega arith) ∙ sym (view-kept g told) ∙ ap (view_at g) none

pub nothing_newest : (g : ℕ) → newest_held (view_at g []) ≡ 0
nothing_newest g = ap (λ (es : Cells). newest_of (map (λ e. e.1) es)) (cells_are g [])

-- the plan, and what the manager is then --------------------------------------------------------------------------

-- its own LID is 1
abbrev pub the_plan : PlanValue
the_plan = record { given = record { lmc = 0; ports = (record { node = 16; port = 1 }, 1) ∷ [] }; tables = [] }

-- as it is when it rests after its sweep of the generation `g`, which began at `time`
abbrev pub at_rest : ℕ → ℕ → ℕ → Bool → Facts → Option Sweep → Acting
at_rest g time own wanted facts swept =
    record {
      manager = record {
        standing = record { guid = 17; priority = 0; conduct = Plain; state = Master; act_count = g; polls_lost = 0 };
        port = 1;
        planning = alone;
        store = facts;
        sweep = swept;
        seen = [];
        writing = Some (record { later = []; has_failed = false });
        counter = 2;
        pending = [];
        outgoing = [];
      };
      policy = record {
        timing = timing;
        state = Master;
        activity = Rests;
        is_wanted = wanted;
        is_stale = false;
        begun = time;
        earliest = time + 1000;
        next_sweep = time + 10000;
        next_poll = 0;
        next_call = 0;
        faults = 0;
        gaps = 0;
        masterless = 0;
        master = None;
        meeting = record { since = None; looks = 0; handovers = 0 };
        written = record { stands = true; repeats = 0; inactive = 0; foreign = 0 };
        taken_since = 0;
        takings = 0;
      };
      window = record { limits = limits; queued = []; outs = [] };
      ready = [];
      notes = [];
      kept = Some the_plan;
      reads = record { own_lid = own; ports = record { inactive = 0; foreign = 0 } };
      is_void = false;
      is_leaving = false;
      time = time;
      newest = g;
    }

-- the step that sets its LID
abbrev pub step : Step
step = record { path = []; attribute = port_info; modifier = 1; payload = port_data None (1, 0) 1 NoChange }

-- as it is when it writes that step
abbrev pub at_write : Facts → Option Sweep → Acting
at_write facts swept =
    record (at_rest 1 0 0 false facts swept) {
      manager = record (at_rest 1 0 0 false facts swept).manager { pending = pending_step 1 true step ∷ [] };
      policy = record (at_rest 1 0 0 false facts swept).policy { activity = Writes };
      window = record {
        limits = limits;
        queued = [];
        outs = record { request = record { packet = set_packet 1 step; to = None }; tries = 1; deadline = 1 } ∷ [];
      };
    }

-- its sweep, when it is over
abbrev pub sweep_of : ℕ → Sweep → Sweep
sweep_of g s =
    record {
      origin = 1;
      generation = g;
      next = 3;
      queued = [];
      outstanding = [];
      reached = s.reached;
      states = s.states;
      images = s.images;
      unanswered = 0;
      silent_managers = 0;
      too_far = 0;
    }

-- as it is when a later sweep is over
abbrev pub at_over : ℕ → ℕ → ℕ → Facts → Sweep → Acting
at_over g time regular facts swept =
    record (at_rest g time 1 false facts (Some (sweep_of g swept))) {
      policy = record (at_rest g time 1 false facts (Some (sweep_of g swept))).policy { activity = Sweeps; next_sweep = regular };
    }

-- as it is when its first sweep is over
abbrev pub at_first : Facts → Sweep → Acting
at_first facts swept =
    record (at_rest 1 0 0 false facts (Some (sweep_of 1 swept))) {
      manager = record (at_rest 1 0 0 false facts (Some (sweep_of 1 swept))).manager { writing = None; counter = 1 };
      policy = record (at_rest 1 0 0 false facts (Some (sweep_of 1 swept))).policy {
        activity = Sweeps;
        next_sweep = 0;
        written = record { stands = false; repeats = 0; inactive = 0; foreign = 0 };
      };
      kept = None;
      notes = State Master ∷ [];
    }
