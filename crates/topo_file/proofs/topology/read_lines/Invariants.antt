use Rattle.std.proofs.Common.{◌≡◌, ◌+◌, ◌≤◌, ℕ, List, length}
use Rattle.text_words.specs.Text.{lines}
use Rattle.topo_file.specs.Reading.{Lines, with_lines, nodes_of_lines}
use Rattle.topo_file.proofs.topology.read_lines.Given as goal

-- the lines so far, with those to come
pub record HasTold (text rest : List ℕ) (before : Lines) (number : ℕ) : Type 0 where
  pub told : with_lines (number + 1) before (lines rest) ≡ nodes_of_lines (lines text)
  pub counted : number + length rest ≤ length text

abbrev pub invariant-loop-line : goal.invariant-loop-line
invariant-loop-line l = HasTold l.text l.rest l.draft l.number

abbrev pub decreases-loop-line : goal.decreases-loop-line
decreases-loop-line l = length l.rest
