-- A manager's own Sets of a plan's blocks carry the plan's values.
use Rattle.std.proofs.Common.{◌≡◌, ◌≤◌, inl, inr, ℕ, List, [], ◌∷◌, refl, sym, ap, ◌∙◌, subst, arith}
use Rattle.std.proofs.lemmas.List.Elements.{All-head, All-tail}
use Rattle.std.proofs.lemmas.Option.{same_Some}
use Rattle.std.specs.Prelude.{All, Contains, Option, Some, None, option_and_then, option_map}
use Rattle.std.specs.List.{range_with_len}
use Rattle.fabric_model.specs.declared.cable.NodePort.{NodePort}
use Rattle.fabric_model.specs.Fabric.{IsNodeAt, Node}
use Rattle.fabric_model.specs.DirectedWalk.{directed_end}
use Rattle.smp_bytes.specs.Header.{linear_forwarding_table, port_info, switch_info}
use Rattle.node_agents.specs.Agent.{Agent}
use Rattle.fabric_sim.specs.Simulation.{agent_at, fabric_of, port_count}
use Rattle.fabric_sim.proofs.TripEnds.{along_itself, few_ports}
use Rattle.subnet_view.proofs.Members.{contains_cases, contains_none}
use Rattle.subnet_view.proofs.Taken.{taken_from}
use Rattle.lid_assign.specs.Lids.{top_of}
use Rattle.plan_tables.specs.Entries.{block_count}
use Rattle.plan_tables.specs.Plan.{PlanValue, block_at, switches_of}
use Rattle.sweep.specs.Sweep.{Sweep, path_to}
use Rattle.plan_steps.specs.declared.step.Step.{Step}
use Rattle.plan_steps.specs.BlockSteps.{block_step, block_steps, switch_steps}
use Rattle.plan_steps.specs.Phase.{Phase}
use Rattle.plan_steps.specs.Step.{step_at}
use Rattle.manager_laws.specs.Scene.{CanHappen, Event, Deliver, Lose, Repeat, Send, Emit, IsQuiet, Scene, after_event, after_events}
use Rattle.manager_laws.specs.Sets.{Carries, KeepsPlan}
use Rattle.manager_laws.proofs.Answers.{Continues, begun, continued}
use Rattle.manager_laws.proofs.WritingLists.{from_flat_map}
use Rattle.manager_laws.proofs.WritingTaken.{node_of_agent}
use Rattle.manager_laws.specs.Truth.{HasNode}
use Rattle.program_laws.specs.LiveStep.{AllSetsCarry, SetsCarry}
use Rattle.program_laws.specs.OwnSets.{AllAreOwnOrCarry, AreBlocksOf, LeadsToSwitches, OwnSetsCarry, phase_of, sets_of}
use Rattle.program_laws.proofs.live_steps.Scenes.{goes_on}

-- the step sets a block of the plan over the sweep's path to the block's switch
record IsBlockStep (sweep : Sweep) (plan : PlanValue) (s : Step) : Type 0 where
  pub guid : ℕ
  pub path : path_to sweep guid 0 ≡ Some s.path
  pub attribute : s.attribute ≡ linear_forwarding_table
  pub block : block_at plan guid s.modifier ≡ Some s.payload

from_made : (sweep : Sweep) (plan : PlanValue) (guid b : ℕ) (payload : List ℕ) (s : Step) → block_at plan guid b ≡ Some payload → (m : Option (List ℕ))
    → path_to sweep guid 0 ≡ m
    → option_map (λ path. record { path = path; attribute = linear_forwarding_table; modifier = b; payload = payload }) m ≡ Some s
    → IsBlockStep sweep plan s
from_made sweep plan guid b payload s at None there e = absurd (cc)
from_made sweep plan guid b payload s at (Some path) there e =
    let is : record { path = path; attribute = linear_forwarding_table; modifier = b; payload = payload } ≡ s = same_Some _ _ e in
    record {
      guid = guid;
      path = there ∙ ap (λ (x : Step). Some x.path) is;
      attribute = sym (ap (λ (x : Step). x.attribute) is);
      block = ap (block_at plan guid) (sym (ap (λ (x : Step). x.modifier) is)) ∙ at ∙ ap (λ (x : Step). Some x.payload) is;
    }

from_block : (sweep : Sweep) (plan : PlanValue) (guid b : ℕ) (s : Step) (m : Option (List ℕ)) → block_at plan guid b ≡ m
    → option_and_then (step_at sweep guid 0 linear_forwarding_table b) m ≡ Some s → IsBlockStep sweep plan s
from_block sweep plan guid b s None at e = absurd (cc)
from_block sweep plan guid b s (Some payload) at e = from_made sweep plan guid b payload s at (path_to sweep guid 0) refl e

block_step_there : (sweep : Sweep) (plan : PlanValue) (s : Step) → Contains (block_steps sweep plan) s → IsBlockStep sweep plan s
block_step_there sweep plan s there =
    let (guid, is_switch, in_it) = from_flat_map (switch_steps sweep plan) (switches_of plan) s there in
    let (b, ranged, e) = taken_from (block_step sweep plan guid) (range_with_len 0 (block_count (top_of plan.given))) s in_it in
    from_block sweep plan guid b s (block_at plan guid b) refl e

module _ (quiet : Scene) (is_quiet : IsQuiet quiet) (seat : NodePort) (sweep : Sweep) (plan : PlanValue) (steps : List Step)
    (leads : LeadsToSwitches (fabric_of quiet.fabric) seat sweep) (blocks : AreBlocksOf sweep plan steps) where
  own_carries : (x : Scene) → Continues quiet.fabric x → (at : NodePort) (a : Agent) (packet : List ℕ) → agent_at x.fabric at.node ≡ Some a
      → sets_of quiet seat steps at packet → Carries plan a at.port packet
  own_carries x c at a packet agent own =
      record {
        lids = λ e. let clash : port_info ≡ linear_forwarding_table = sym e ∙ own.attribute ∙ is.attribute in absurd (omega (arith, clash));
        top = λ e. let clash : switch_info ≡ linear_forwarding_table = sym e ∙ own.attribute ∙ is.attribute in absurd (omega (arith, clash));
        block = λ e block there. own.payload
            ∙ same_Some _ _ (sym is.block ∙ ap (λ g. block_at plan g own.step.modifier) guid_is ∙ ap (block_at plan a.node.guid) (sym own.modifier) ∙ there);
      }
    where
      phase_is : own.phase ≡ phase_of steps
      phase_is = elim (contains_cases (phase_of steps) own.phase [] own.there) [ inl same ↦ sym same | inr none ↦ absurd (contains_none own.phase none) ]

      is : IsBlockStep sweep plan own.step
      is = block_step_there sweep plan own.step (blocks own.step (subst (λ (p : Phase). Contains p.steps own.step) phase_is own.in_phase))

      to : (end : NodePort) × (node : Node) × (directed_end (fabric_of quiet.fabric) seat own.step.path ≡ Some end)
          × HasNode (fabric_of quiet.fabric) is.guid end.node node
      to = leads is.guid own.step.path is.path

      ends : to.0 ≡ at
      ends = same_Some _ _ (sym to.2 ∙ own.leads)

      guid_is : is.guid ≡ a.node.guid
      guid_is =
          sym to.3.named
          ∙ ap (λ (n : Node). n.guid) (node_of_agent quiet.fabric x.fabric c.fabric.along at.node to.1 a
          (subst (λ (e : NodePort). IsNodeAt (fabric_of quiet.fabric) e.node to.1) ends to.3.there) agent)

  one_carries : (x : Scene) → Continues quiet.fabric x → (event : Event) → KeepsPlan plan (sets_of quiet seat steps) x.fabric event
      → SetsCarry plan x.fabric event
  one_carries x c (Deliver serial) keep =
      λ at a packet takes. elim (keep at a packet takes) [
        | inl own ↦ own_carries x c at a packet takes.there own
        | inr it ↦ it
      ]
  one_carries x c (Lose serial) keep = keep
  one_carries x c (Repeat serial) keep = keep
  one_carries x c (Send from sending) keep = keep
  one_carries x c (Emit at sending) keep = keep

  counts : (id : ℕ) → port_count quiet.fabric id ≤ 254
  counts = few_ports quiet.fabric (along_itself quiet.fabric is_quiet.fabric).agents

  all_carry : (events : List Event) (x : Scene) → Continues quiet.fabric x → All CanHappen events
      → AllAreOwnOrCarry plan (sets_of quiet seat steps) events x → AllSetsCarry plan events x
  all_carry [] x c all keep = keep
  all_carry (event ∷ events) x c all keep = (
    one_carries x c event keep.0,
    all_carry events (after_event x event)
        (continued is_quiet.fabric.cables counts x event c (All-head CanHappen event events all))
        (All-tail CanHappen event events all) keep.1,
  )

pub own_sets_carry : OwnSetsCarry
own_sets_carry quiet earlier events seat sweep plan steps is_quiet earlier_can events_can leads blocks keep =
    all_carry quiet is_quiet seat sweep plan steps leads blocks events (after_events earlier quiet)
    (goes_on quiet.fabric is_quiet.fabric.cables (few_ports quiet.fabric (along_itself quiet.fabric is_quiet.fabric).agents) earlier quiet
    (begun quiet is_quiet) earlier_can) events_can keep
