-- The LIDs whose packets arrive from every switch.
use Rattle.std.specs.Prelude.{◌≡◌, ◌<◌, ◌/◌, ◌%◌, ◌==◌, ◌&&◌, ℕ, Bool, true, [], ◌∷◌, Some, length}
use Rattle.subnet_view.specs.declared.end_port.EndPort.{EndPort}
use Rattle.subnet_view.specs.Reading.{Cells, switches}
use Rattle.held_tables.specs.Held.{HeldPlan}
use Rattle.packet_walks.specs.declared.block_deliveries.Deliveries.{Deliveries}
use Rattle.packet_walks.specs.declared.packet_end.End.TheVariants.{Taken}
use Rattle.packet_walks.specs.declared.next_hop.NextHop.TheVariants.{To}
use Rattle.packet_walks.specs.LidSet.{has}
use Rattle.packet_walks.specs.HopsByTables.{next_hops_of}
use Rattle.held_tables.specs.Tables.{owners_of}
use Rattle.packet_walks.specs.EndsBySwitch.{IsEndOf}

-- whether `lid` is one of `deliveries`: `lid` is in the block of `deliveries`, and the set of `deliveries` has the
-- index of `lid` in this block
abbrev pub is_delivered : Deliveries → ℕ → Bool
is_delivered deliveries lid = lid / 64 == deliveries.number && has deliveries.lids (lid % 64)

-- exactly one end port holds `lid`, and packets for `lid` from each usable switch reach this port
pub record ComeToOwner (cells : Cells) (held : HeldPlan) (lid : ℕ) : Type 0 where
  pub port : EndPort
  pub owner_is : owners_of held lid ≡ port ∷ []
  pub each : (switch : ℕ) → switch < length (switches cells)
      → IsEndOf (next_hops_of cells held lid) (To switch) (Some (Taken port))

-- for each LID of `deliveries`, exactly one end port holds the LID, and packets for the LID from each usable switch
-- reach this port
abbrev pub AreDeliveries : Cells → HeldPlan → Deliveries → Type 0
AreDeliveries cells held deliveries =
    (lid : ℕ) → is_delivered deliveries lid ≡ true → ComeToOwner cells held lid
