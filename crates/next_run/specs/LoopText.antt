-- The text about credit loops in a step.
use Rattle.std.specs.Prelude.{ℕ, List, [], ◌∷◌, ◌++◌, codes, decimal}
use Rattle.std.specs.List.{flat_map}
use Rattle.subnet_view.specs.Reading.{Cells}
use Rattle.audit_channels.specs.declared.cycle_text.ChannelKind.TheVariants.{OnOneLane}
use Rattle.audit_channels.specs.CycleText.{cycle_line}

-- a space and the number `lid`
abbrev pub lid_word : ℕ → List ℕ
lid_word lid = codes " " ++ decimal lid

-- if there are LIDs, their line; otherwise empty
abbrev pub lids_line : List ℕ → List ℕ
lids_line [] = []
lids_line (lid ∷ later) = codes "lids" ++ flat_map lid_word (lid ∷ later) ++ codes "\n"

-- the line of a credit loop, as in an audit, and the line of the LIDs for which its channels wait, if there are any
abbrev pub loop_text : Cells → List ℕ → List ℕ → List ℕ
loop_text cells cycle lids = cycle_line cells OnOneLane cycle ++ lids_line lids
