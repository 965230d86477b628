-- A step of writing a plan: an attribute that is set at an agent, and its packet.
use Rattle.std.specs.Prelude.{ℕ, List, Option, option_map}
use Rattle.smp_bytes.specs.Header.{set}
use Rattle.smp_bytes.specs.Requests.{directed}
use Rattle.sweep.specs.Sweep.{Sweep, path_to}
use Rattle.plan_steps.specs.declared.step.Step.{Step}

-- the packet of a step: a Set along the path of the step, with the TransactionID `transaction`
abbrev pub set_packet : ℕ → Step → List ℕ
set_packet transaction step = directed set step.attribute step.modifier transaction step.path step.payload

-- a step that sets an attribute along the path that first reached the vertex of node `guid` with the port `vertex`,
-- which is 0 for a switch; None if the sweep did not reach that vertex
abbrev pub step_at : Sweep → ℕ → ℕ → ℕ → ℕ → List ℕ → Option Step
step_at sweep guid vertex attribute modifier payload =
    option_map (λ path. record {
      path = path;
      attribute = attribute;
      modifier = modifier;
      payload =
          payload;
    }) (path_to sweep guid vertex)
