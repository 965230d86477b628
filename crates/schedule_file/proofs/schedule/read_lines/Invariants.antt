use Rattle.std.proofs.Common.{◌≡◌, ◌+◌, ◌≤◌, ℕ, List, length}
use Rattle.text_words.specs.Text.{lines}
use Rattle.topo_file.specs.declared.node.Node.{Node}
use Rattle.schedule_file.specs.Schedule.{Script, with_lines, schedule_of_lines}
use Rattle.schedule_file.proofs.schedule.read_lines.Given as goal

-- the lines so far, with those to come
pub record HasTold (nodes : List Node) (text rest : List ℕ) (before : Script) (number : ℕ) : Type 0 where
  pub told : with_lines nodes (number + 1) before (lines rest) ≡ schedule_of_lines nodes (lines text)
  pub counted : number + length rest ≤ length text

abbrev pub invariant-loop-line : goal.invariant-loop-line
invariant-loop-line l = HasTold l.topology.nodes l.text l.rest l.schedule l.number

abbrev pub decreases-loop-line : goal.decreases-loop-line
decreases-loop-line l = length l.rest
