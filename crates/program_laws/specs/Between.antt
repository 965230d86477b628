-- An agent whose values are each as they were or those of a plan, as while Sets of the plan's values are taken.
use Rattle.std.specs.Prelude.{◌≡◌, ◌≤◌, ◌<◌, ◌⊎◌, ℕ, ◌+◌, ◌*◌, true, List, Contains, Some, slice_get}
use Rattle.smp_bytes.specs.Header.{set, done}
use Rattle.smp_bytes.specs.Field.{number_in}
use Rattle.smp_bytes.specs.Packet.{method, status}
use Rattle.node_agents.specs.Agent.{Agent, IsAgent, entry_at, range_at}
use Rattle.node_agents.specs.PortInfo.{has_lid}
use Rattle.node_agents.specs.Answers.{after_answer}
use Rattle.node_agents.specs.AnswerLaws.{IsPacket}
use Rattle.lid_assign.specs.Lids.{range_of, top_of}
use Rattle.plan_tables.specs.Plan.{PlanValue, block_at, switches_of}
use Rattle.manager_laws.specs.Sets.{Carries}
use Rattle.program_laws.specs.StepPlan.{HasWholeBlocks}

-- `now` is the agent `first` at a later time, between what it was and the plan
pub record IsBetween (plan : PlanValue) (first now : Agent) : Type 0 where
  pub node : now.node ≡ first.node
  -- each port that had the LID and the LMC of the plan still has them
  pub ranges : (port : ℕ) → has_lid first port ≡ true
      → range_of plan.given (record { node = first.node.guid; port = port }) ≡ Some (range_at first port)
      → range_at now port ≡ range_at first port
  -- the top is the former one or, at a switch of the plan, the plan's
  pub top : (top : ℕ) → Contains (switches_of plan) first.node.guid → top_of plan.given ≡ Some top
      → (now.top ≡ first.top) ⊎ (now.top ≡ top)
  -- each entry in a block of the plan is the former one or the plan's
  pub entries : (n : ℕ) (block : List ℕ) → block_at plan first.node.guid n ≡ Some block → (i : ℕ) → i < 64
      → (entry_at now (64 * n + i) ≡ entry_at first (64 * n + i))
      ⊎ (slice_get block i ≡ Some (entry_at now (64 * n + i)))

-- suppose the plan has whole blocks, and an agent is between what it was and the plan. Then it is so after its answer
-- to a packet, if the packet carries the plan's values or is no Set that the agent takes
abbrev pub AnswersKeepBetween : Type 0
AnswersKeepBetween =
    (plan : PlanValue) → HasWholeBlocks plan
    → (first a : Agent) (packet : List ℕ) (arrival : ℕ) → IsAgent a → IsPacket packet → arrival ≤ a.node.ports
    → (number_in method packet ≡ set → status (after_answer a packet arrival).packet ≡ done
    → Carries plan a arrival packet)
    → IsBetween plan first a → IsBetween plan first (after_answer a packet arrival).agent
