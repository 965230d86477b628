-- The facts of a subnet and the tables that its switches hold, and the network that is made of both.
use Rattle.std.specs.Prelude.{◌≡◌, List, map}
use Rattle.subnet_view.specs.Reading.{Cells, switches}
use Rattle.std.specs.Coded.{Coded, code_by, coded×}
use Rattle.std.specs.Prelude.{refl}
use Rattle.fact_store.specs.View.{Facts}
use Rattle.fact_store.specs.Coded.{facts_code}
use Rattle.held_tables.specs.contracts.held.Held as held
use Rattle.held_tables.specs.declared.held.HeldLid.{HeldLid}
use Rattle.held_tables.specs.Held.{HeldPlan}
use Rattle.held_tables.specs.Tables.{lines_of, number_of}
use Rattle.held_tables.specs.Chains.{AreChains}
use Rattle.held_tables.specs.Owners.{AreOwners}
use Rattle.held_tables.specs.Switches.{node_of}
use Rattle.held_tables.specs.declared.audited_switch.AuditedSwitch.{AuditedSwitch}
use Rattle.held_tables.specs.declared.chains.Chains.{Chains}
use Rattle.held_tables.specs.declared.owners.Owner.{Owner}

-- the facts of a subnet, and the tables that its switches hold
pub record Seen : Type 0 where
  pub facts : Facts
  pub held : HeldPlan

-- the stored form of facts and tables: a pair
abbrev pub seen_code : Coded Seen
seen_code = code_by (Facts
    × HeldPlan) (coded× facts_code (held.the_row).coded) (λ s. (s.facts, s.held)) (λ p.
    record { facts = p.0; held = p.1 }) (λ _. refl)

-- the fields of a network fit the facts and the held tables: the usable switches in ascending order of GUID, the
-- chains of the numbers of the blocks, the held LIDs, and who holds each LID
pub record IsNetwork (cells : Cells) (held : HeldPlan) (nodes : List AuditedSwitch) (chains : Chains)
    (lines : List HeldLid) (owners : List Owner) : Type 0 where
  pub nodes_are : nodes ≡ map (node_of cells held) (switches cells)
  pub chains_are : AreChains (map number_of held.blocks) chains
  pub lines_are : lines ≡ lines_of held
  pub owners_are : AreOwners lines owners
