-- What the held tables say: who holds a LID, and through which port a switch forwards a packet.
use Rattle.std.specs.Prelude.{ℕ, ◌/◌, ◌%◌, ◌==◌, ◌&&◌, ◌||◌, Bool, not, List, [], ◌∷◌, Option, map, filter, option_and_then, nat_lt, slice_get, slice_index_or, reverse, if◌then◌else◌}
use Rattle.std.specs.Option.{option_map_or}
use Rattle.std.specs.List.{find, list_any, position}
use Rattle.subnet_view.specs.declared.end_port.EndPort.{EndPort}
use Rattle.held_tables.specs.declared.held.HeldBlock.{HeldBlock}
use Rattle.held_tables.specs.declared.held.HeldLid.{HeldLid}
use Rattle.held_tables.specs.Held.{HeldPlan}

-- whether `e` and `x` are the same end port: they have the same node and the same port
abbrev pub is_same_end : EndPort → EndPort → Bool
is_same_end e x = x.node == e.node && x.port == e.port

-- whether `x` and `y` have the same LID and the same end port
abbrev pub is_same_line : HeldLid → HeldLid → Bool
is_same_line x y = y.lid == x.lid && is_same_end x.port y.port

-- the lines of a list without repetitions; the first of equal lines stays
abbrev pub without_repetitions : List HeldLid → List HeldLid
without_repetitions [] = []
without_repetitions (x ∷ xs) = x ∷ filter (λ y. not (is_same_line x y)) (without_repetitions xs)

-- the held LIDs with their end ports, in the order of the lines; each pair of a LID and an end port occurs once
abbrev pub lines_of : HeldPlan → List HeldLid
lines_of held = without_repetitions held.lids

-- the end ports of the `lines` for `lid`, in the order of the lines
abbrev pub holders : List HeldLid → ℕ → List EndPort
holders lines lid = map (λ x. x.port) (filter (λ x. x.lid == lid) lines)

-- the owners of a LID: the end ports that hold it, each once
abbrev pub owners_of : HeldPlan → ℕ → List EndPort
owners_of held lid = holders (lines_of held) lid

-- whether `e` is one of `owners`
abbrev pub is_owner : List EndPort → EndPort → Bool
is_owner owners e = list_any (is_same_end e) owners

-- the index of switch `g` among the held switches; None if `g` is not one of them
abbrev pub index_of : HeldPlan → ℕ → Option ℕ
index_of held g = position (λ s. s.guid == g) held.switches

-- the top of the held switch at `index`; 0 if there is no index or no such switch
abbrev pub top_at : HeldPlan → Option ℕ → ℕ
top_at held index = option_map_or (λ s. s.top) (option_and_then (slice_get held.switches) index) 0

-- the number of the block `x`
abbrev pub number_of : HeldBlock → ℕ
number_of x = x.number

-- whether `x` is the block with the number `number` of the switch at `index`
abbrev pub is_block_of : ℕ → ℕ → HeldBlock → Bool
is_block_of index number x = x.switch == index && x.number == number

-- the last block with the number `number` of the switch at `index`; None if there is none. An accepted text has at
-- most one such block
abbrev pub block_at : HeldPlan → ℕ → ℕ → Option HeldBlock
block_at held index number = find (is_block_of index number) (reverse held.blocks)

-- the entry at index `i` of `block`; 255 if there is no block, or no such entry in it
abbrev pub entry_in : Option HeldBlock → ℕ → ℕ
entry_in block i = option_map_or (λ x. slice_index_or x.entries i 255) block 255

-- the entry for `lid` of the held switch at `index`; 255 if no such entry is held
abbrev pub entry_at : HeldPlan → Option ℕ → ℕ → ℕ
entry_at held index lid = option_map_or (λ k. entry_in (block_at held k (lid / 64)) (lid % 64)) index 255

-- the top of switch `g` in the held tables; 0 if `g` is not one of the held switches
abbrev pub top_of : HeldPlan → ℕ → ℕ
top_of held g = top_at held (index_of held g)

-- the entry of switch `g` for `lid`; 255 if no such entry is held
abbrev pub entry_of : HeldPlan → ℕ → ℕ → ℕ
entry_of held g lid = entry_at held (index_of held g) lid

-- the effective entry of a switch with the top `top` for `lid`: 255 for LID 0 and for LIDs above the top, otherwise
-- `entry`
abbrev pub counted : ℕ → ℕ → ℕ → ℕ
counted lid top entry = if lid == 0 || nat_lt top lid then 255 else entry

-- the effective entry of switch `g` for `lid` under the held tables: 255 for LID 0, for a LID above the top of `g`,
-- or if no entry is held
abbrev pub entry_for : HeldPlan → ℕ → ℕ → ℕ
entry_for held lid g = counted lid (top_of held g) (entry_of held g lid)
