-- Of the two switches of the detour that have no entry for a LID the first one goes over to its next one, and the second
-- one has not yet.
use Rattle.std.proofs.Common.{◌≡◌, ◌≢◌, ℕ, List, [], ◌∷◌, Some, inl, inr, refl, sym, ap, ◌∙◌, subst, arith}
use Rattle.std.specs.Prelude.{IsTrue, slice_get, slice_index_or}
use Rattle.smp_bytes.specs.NodeType.{is_switch}
use Rattle.fabric_model.specs.Fabric.{Fabric, IsEndPort, Node}
use Rattle.fabric_model.specs.FabricWalks.{IsJoinedTo}
use Rattle.fabric_model.proofs.FabricWalks.{port_at}
use Rattle.fact_store.specs.View.{cells_of}
use Rattle.subnet_view.specs.Reading.{Cells, switches}
use Rattle.held_tables.specs.declared.held.HeldLid.{HeldLid}
use Rattle.lft_blocks.proofs.FabricCases.{EachIndexed, indexed_at, next}
use Rattle.lft_blocks.proofs.Triangle.{cells, facts, facts_have, switch, tables}
use Rattle.lft_blocks.proofs.TriangleArrives.{of_first}
use Rattle.held_tables.specs.Tables.{entry_for}
use Rattle.next_tables.specs.ChangingFabric.{IsInChange, IsLooseEntry, entry_now}
use Rattle.next_tables.specs.NextTables.{IsKept, next_at, next_tables, settled_first}
use Rattle.next_tables.proofs.Entries.{member}
use Rattle.next_tables.proofs.StepLaws.{next_tables_are_so}
use Rattle.law_examples.specs.Examples.{PartSeen, SomeTablesChange, SwitchThere}
use Rattle.law_examples.proofs.Detour.{connected, detour, held_by, longer, origin, seen_in}
use Rattle.law_examples.proofs.Travelled.{part}

abbrev its : HeldLid
its = record { lid = 7; port = record { node = 512; port = 1 } }

kept : IsKept (held_by longer) (held_by tables) its
kept = record { in_plan = refl; in_held = refl }

-- the first switch has its next entry, and the second one has not
abbrev rows : List (List ℕ)
rows =
    (255 ∷ 0 ∷ 1 ∷ 2 ∷ 1 ∷ 1 ∷ 1 ∷ 2 ∷ [])
    ∷ (255 ∷ 1 ∷ 0 ∷ 2 ∷ 3 ∷ 3 ∷ 2 ∷ 255 ∷ [])
    ∷ (255 ∷ 1 ∷ 2 ∷ 0 ∷ 2 ∷ 2 ∷ 3 ∷ 3 ∷ [])
    ∷ []

abbrev midst : Fabric
midst = record detour { entry = λ n lid. slice_index_or (slice_index_or rows n []) lid 255 }

-- the next entries of both are the plan's
next_first : next_at cells settled_first (held_by longer) (held_by tables) 7 16 ≡ 2
unfolding next_at
next_first = refl

next_second : next_at cells settled_first (held_by longer) (held_by tables) 7 32 ≡ 2
unfolding next_at
next_second = refl

entry_first : entry_for (next_tables cells settled_first (held_by longer) (held_by tables)) 7 16 ≡ 2
entry_first =
    (next_tables_are_so cells settled_first (held_by longer) (held_by tables)).entries 16 7 (member (switches cells) 0 (omega arith)) ∙ next_first

entry_second : entry_for (next_tables cells settled_first (held_by longer) (held_by tables)) 7 32 ≡ 2
entry_second =
    (next_tables_are_so cells settled_first (held_by longer) (held_by tables)).entries 32 7 (member (switches cells) 1 (omega arith)) ∙ next_second

-- at each switch the entry is the held one or the next one
abbrev Loose : Cells → ℕ → Node → Type 0
Loose c k n = IsTrue (is_switch n.kind) → IsLooseEntry c (held_by longer) (next_tables c settled_first (held_by longer) (held_by tables)) 7 n.guid (entry_now midst 7 k)

all_loose : EachIndexed (Loose cells) detour.nodes
all_loose =
    next (λ e. inr (inl (sym entry_first)))
    (next (λ e. inl refl)
    (next (λ e. inl refl)
    (next (λ e. absurd (cc))
    (next (λ e. absurd (cc)) tt))))

changes : IsInChange (IsJoinedTo detour origin) (cells_of facts) (held_by longer)
    (next_tables (cells_of facts) settled_first (held_by longer) (held_by tables)) 7 detour midst
changes = record {
  still = record { nodes = refl; cables = λ p. refl; owners = λ port node e. refl };
  entries = λ port node e is.
      indexed_at (Loose (cells_of facts)) detour.nodes
      (subst (λ (c : Cells). EachIndexed (Loose c) detour.nodes) (sym facts_have) all_loose) port.node node e.node_there is;
}

-- the part, as it is written out
abbrev seen_part : PartSeen
seen_part = record { facts = facts; held = held_by longer; fabric = detour; origin = origin; is_end = of_first; seen = seen_in }

-- a switch by its index
abbrev switch_there : (k g : ℕ) → slice_get detour.nodes k ≡ Some (switch g) → IsEndPort detour (port_at k 0) → SwitchThere seen_part
switch_there k g at end = record {
  port = port_at k 0;
  node = switch g;
  there = record { node_there = at; end_port = end; in_part = connected origin (port_at k 0) of_first end };
  kind = refl;
}

behind : (c : Cells) → c ≡ cells → 255 ≢ entry_for (next_tables c settled_first (held_by longer) (held_by tables)) 7 32
behind c is e = omega (arith, e ∙ ap (λ (x : Cells). entry_for (next_tables x settled_first (held_by longer) (held_by tables)) 7 32) is ∙ entry_second)

pub some_tables_change : SomeTablesChange
unfolding part
some_tables_change = (
  part,
  record {
    plan = held_by tables;
    line = its;
    kept = kept;
    now = midst;
    changes = changes;
    changed = switch_there 0 16 refl (switch 16, refl, refl);
    other = λ e. omega (arith, e);
    waiting = switch_there 1 32 refl (switch 32, refl, refl);
    behind = behind (cells_of facts) facts_have;
  },
)
