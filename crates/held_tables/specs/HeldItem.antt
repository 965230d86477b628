-- The tables after one more line of a text of tables.
use Rattle.std.specs.Prelude.{◌-◌, [], ◌∷◌, ◌++◌, length}
use Rattle.held_tables.specs.declared.held_item.HeldItem.{HeldItem}
use Rattle.held_tables.specs.declared.held_item.HeldItem.TheVariants.{Nothing, Lid, Switch, Block}
use Rattle.held_tables.specs.Held.{HeldPlan, lids_of}

-- the tables after a line that says the given item, where `held` are the tables before the line; a block belongs to
-- the last switch of `held`
abbrev pub held_with : HeldPlan → HeldItem → HeldPlan
held_with held Nothing = held
held_with held (Lid range) = record held { lids = held.lids ++ lids_of range }
held_with held (Switch switch) = record held { switches = held.switches ++ switch ∷ [] }
held_with held (Block number entries) =
    record held {
      blocks = held.blocks
          ++ record { switch = length held.switches - 1; number = number; entries = entries } ∷ [];
    }
