-- The LIDs and tables that the agents of a fabric have, printed in the form of a plan.
use Rattle.std.specs.Prelude.{ℕ, ◌+◌, ◌*◌, ◌/◌, Bool, not, List, [], ◌∷◌, ◌++◌, filter, map, ◌==◌, if◌then◌else◌}
use Rattle.std.specs.List.{flat_map, range_with_len}
use Rattle.std.specs.Ordering.{is_lt, nat_cmp, ordering_then}
use Rattle.std.specs.declared.cmp.Ordering.{Ordering}
use Rattle.lft_blocks.specs.PlanText.{block_line, lid_line, switch_line}
use Rattle.node_agents.specs.Agent.{Agent, base_lid_at, lmc_at, entry_at, is_switch}
use Rattle.fabric_sim.specs.Simulation.{Simulation}

-- an order ---------------------------------------------------------------------------------------------

-- the list with `x` inserted before the first item that, according to `before`, is not before `x`; at the end if
-- there is no such item
abbrev pub put_in_order : {X : Type 0} → (X → X → Bool) → X → List X → List X
put_in_order before x [] = x ∷ []
put_in_order before x (y ∷ ys) = if before y x then y ∷ put_in_order before x ys else x ∷ y ∷ ys

-- the items of a list, sorted by `before`; items that tie keep their order
abbrev pub in_order : {X : Type 0} → (X → X → Bool) → List X → List X
in_order before [] = []
in_order before (x ∷ xs) = put_in_order before x (in_order before xs)

-- LIDs -------------------------------------------------------------------------------------------------

-- a LID, with the node GUID and the number of the port that has it, and the port's LMC
abbrev pub Held : Type 0
Held = ℕ × ℕ × ℕ × ℕ

-- the LIDs other than 0 that a node's ports have, in the order of the ports, port 0 first
abbrev pub held_by : Agent → List Held
held_by a = filter (λ x. not (x.0 == 0))
    (map (λ port. (base_lid_at a port, a.node.guid, port, lmc_at a port)) (range_with_len 0 (a.node.ports + 1)))

-- the order of triples of LID, GUID and port: by the LID, then by the GUID, and then by the port
abbrev pub key_cmp : ℕ × ℕ × ℕ → ℕ × ℕ × ℕ → Ordering
key_cmp x y = ordering_then (ordering_then (nat_cmp x.0 y.0) (nat_cmp x.1 y.1)) (nat_cmp x.2 y.2)

-- the order of LIDs with the ports that have them: by the LID, then by the node GUID, and then by the port
abbrev pub held_cmp : Held → Held → Ordering
held_cmp x y = key_cmp (x.0, x.1, x.2) (y.0, y.1, y.2)

-- the LIDs that the ports of all nodes have, in ascending order of LID, node GUID and port; ties are in the order of
-- the nodes
abbrev pub all_held : List Agent → List Held
all_held agents = in_order (λ x y. is_lt (held_cmp x y)) (flat_map held_by agents)

-- the line of a LID, with its LMC and the port that has it
abbrev pub held_line : Held → List ℕ
held_line x = lid_line (x.0, x.3, record { node = x.1; port = x.2 })

-- tables -----------------------------------------------------------------------------------------------

-- the 64 entries of the block `b` of a switch
abbrev pub block_at : Agent → ℕ → List ℕ
block_at a b = map (λ i. entry_at a (64 * b + i)) (range_with_len 0 64)

-- the line of the block `b` of a switch
abbrev pub block_shown : Agent → ℕ → List ℕ
block_shown a b = block_line (b, block_at a b)

-- the numbers of the blocks up to the block of the LID `top`
abbrev pub blocks_to : ℕ → List ℕ
blocks_to top = range_with_len 0 (top / 64 + 1)

-- the lines of a switch's blocks up to the block of its top
abbrev pub blocks_text : Agent → List ℕ
blocks_text a = flat_map (block_shown a) (blocks_to a.top)

-- the lines of a switch: its top, and its blocks up to the block of the top
unfoldable pub table_text : Agent → List ℕ
table_text a = switch_line a.top a.node.guid ++ blocks_text a

-- the agents of the switches, in ascending order of GUID; ties are in the order of the nodes
abbrev pub switches : List Agent → List Agent
switches agents = in_order (λ a b. is_lt (nat_cmp a.node.guid b.node.guid)) (filter is_switch agents)

-- the lines of the LIDs that ports have, and then those of the tables of the switches
unfoldable pub tables_text : Simulation → List ℕ
tables_text fabric = flat_map held_line (all_held fabric.agents) ++ flat_map table_text (switches fabric.agents)
