-- A network at one LID.
use Rattle.std.specs.Prelude.{◌≡◌, ◌/◌, ℕ, List, Option, None, Some, refl, ⊤}
use Rattle.std.specs.Coded.{Coded, code_by, coded×, coded_ℕ}
use Rattle.fact_store.specs.View.{cells_of}
use Rattle.subnet_view.specs.Reading.{Cells}
use Rattle.held_tables.specs.Blocks.{AreBlocks}
use Rattle.held_tables.specs.Held.{HeldPlan}
use Rattle.packet_walks.specs.Deliveries.{AreDeliveries}
use Rattle.packet_walks.specs.Network.{Seen, seen_code}
use Rattle.packet_walks.specs.declared.block_deliveries.Deliveries.{Deliveries}

-- the facts of a subnet with the tables that its switches hold, and a LID
pub record AtLid : Type 0 where
  pub seen : Seen
  pub lid : ℕ

-- the stored form of facts, tables and a LID: a pair
abbrev pub at_lid_code : Coded AtLid
at_lid_code = code_by (Seen × ℕ) (coded× seen_code coded_ℕ) (λ a. (a.seen, a.lid)) (λ p.
    record { seen = p.0; lid = p.1 }) (λ _. refl)

-- the given deliveries, if there are any, are right for the held tables (`AreDeliveries`)
abbrev pub HasDeliveries : Cells → HeldPlan → Option Deliveries → Type 0
HasDeliveries cells held None = ⊤
HasDeliveries cells held (Some deliveries) = AreDeliveries cells held deliveries

-- `number` and `rows` are the held blocks with the entries for `lid`, and `deliveries`, if there are any, are right
-- for the tables of `seen` (`AreDeliveries`)
pub record IsLidCursor (seen : Seen) (lid number : ℕ) (rows : List (List ℕ)) (deliveries : Option Deliveries) : Type 0
  where
    pub blocks_are : AreBlocks seen.held number rows
    pub number_is : number ≡ lid / 64
    pub deliveries_are : HasDeliveries (cells_of seen.facts) seen.held deliveries
