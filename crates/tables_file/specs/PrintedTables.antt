-- The text of tables in which each switch has its own top.
use Rattle.std.specs.Prelude.{ℕ, suc, ◌==◌, Bool, List, [], ◌∷◌, ◌++◌, drop}
use Rattle.std.specs.List.{flat_map, prefix_len, take_while}
use Rattle.plan_tables.specs.Lids.{Given}
use Rattle.plan_tables.specs.PlanText.{block_line, lids_text, switch_line}
use Rattle.held_tables.specs.declared.held.HeldBlock.{HeldBlock}
use Rattle.held_tables.specs.declared.held.HeldSwitch.{HeldSwitch}
use Rattle.held_tables.specs.Held.{HeldPlan}

-- whether `block` belongs to the switch at `index`
abbrev pub is_of : ℕ → HeldBlock → Bool
is_of index block = block.switch == index

-- the blocks at the head that belong to the switch at `index`
abbrev pub first_blocks : ℕ → List HeldBlock → List HeldBlock
first_blocks index blocks = take_while (is_of index) blocks

-- the blocks after the ones at the head that belong to the switch at `index`
abbrev pub later_blocks : ℕ → List HeldBlock → List HeldBlock
later_blocks index blocks = drop (prefix_len (is_of index) blocks) blocks

-- the line of a block
abbrev pub block_text : HeldBlock → List ℕ
block_text block = block_line (block.number, block.entries)

-- for each switch, a line with its top and a line for each of its blocks. The first switch has the index `index`. If
-- a block is not in the order of the switches, neither this block nor any later one has a line
abbrev pub switches_text : ℕ → List HeldSwitch → List HeldBlock → List ℕ
switches_text index [] blocks = []
switches_text index (switch ∷ switches) blocks =
    switch_line switch.top switch.guid ++ flat_map block_text (first_blocks index blocks)
    ++ switches_text (suc index) switches (later_blocks index blocks)

-- the lines of the switches of `held` and of their blocks
abbrev pub tables_text_of : HeldPlan → List ℕ
tables_text_of held = switches_text 0 held.switches held.blocks

-- a line for each end port of `given`, with its LIDs, and then the lines of the switches and blocks of `next`
abbrev pub next_text : Given → HeldPlan → List ℕ
next_text given next = lids_text given ++ tables_text_of next
