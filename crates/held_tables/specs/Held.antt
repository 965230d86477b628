-- Held tables, as a text of tables or a plan gives them: who holds which LID, and the forwarding tables of switches.
use Rattle.std.specs.Prelude.{ℕ, ◌+◌, ◌^◌, List, [], map}
use Rattle.std.specs.List.{range_with_len}
use Rattle.held_tables.specs.declared.held.HeldLid.{HeldLid}
use Rattle.held_tables.specs.declared.held.HeldSwitch.{HeldSwitch}
use Rattle.held_tables.specs.declared.held.HeldBlock.{HeldBlock}

-- LIDs with their end ports, switches with their tops, and blocks with the indices of their switches
pub record HeldPlan : Type 0 where
  pub lids : List HeldLid
  pub switches : List HeldSwitch
  pub blocks : List HeldBlock

-- no LIDs, no switches and no blocks
abbrev pub nothing_held : HeldPlan
nothing_held = record { lids = []; switches = []; blocks = [] }

-- the 2^`lmc` consecutive LIDs of an end port, given by the first of them
pub record LidRange : Type 0 where
  pub first : HeldLid
  pub lmc : ℕ

-- the LID that is `step` above that of `first`, held by the same end port
abbrev pub lid_at : HeldLid → ℕ → HeldLid
lid_at first step = record { lid = first.lid + step; port = first.port }

-- the LIDs of a range, in ascending order of number, each with its end port
abbrev pub lids_of : LidRange → List HeldLid
lids_of range = map (lid_at range.first) (range_with_len 0 (2 ^ range.lmc))
