-- Why there is no plan, as a fault of a run.
use Rattle.std.proofs.Common.{◌≡◌, ℕ, Bool, Option, None, Some, refl}
use Rattle.std.specs.Prelude.{if◌then◌else◌}
use Rattle.fact_store.specs.View.{Facts, cells_of}
use Rattle.lid_assign.specs.LidFault.{is_memory, lid_fault, no_room}
use Rattle.lid_assign.specs.declared.lid_fault.NoRoom.{NoRoom as Room}
use Rattle.lid_assign.specs.declared.lid_fault.LidFault.{LidFault}
use Rattle.lid_assign.specs.declared.lid_fault.LidFault.TheVariants as lids
use Rattle.sm_cli.specs.Fault.{fault_of_lids}
use Rattle.sm_cli.specs.Run.{IsWritingFault}
use Rattle.sm_cli.specs.declared.fault.Fault.{Fault}

none_lacks : (o : Option Room) → lid_fault o ≡ None → o ≡ None
none_lacks None e = refl
none_lacks (Some why) e = absurd (cc)

one_lacks : (o : Option Room) (why : Room) → lid_fault o ≡ Some (lids.NoRoom why) → o ≡ Some why
one_lacks None why e = absurd (cc)
one_lacks (Some room) why e = cc

-- a plan that there is has room
pub has_room : (lmc : ℕ) (facts : Facts) → lid_fault (no_room lmc (cells_of facts)) ≡ None → no_room lmc (cells_of facts) ≡ None
has_room lmc facts e = none_lacks (no_room lmc (cells_of facts)) e

-- if there is no plan, there is no room for it, or memory was refused although there is room
pub plan_fault : (lmc : ℕ) (facts : Facts) (sink_failed : Bool) (why : LidFault) (fault : Fault)
    → lid_fault (no_room lmc (cells_of facts)) ≡ (if is_memory why then None else Some why) → fault ≡ fault_of_lids why
    → IsWritingFault lmc facts sink_failed fault
plan_fault lmc facts sink_failed (lids.NoRoom why) fault e f = rw f (one_lacks (no_room lmc (cells_of facts)) why e)
plan_fault lmc facts sink_failed lids.Memory fault e f = rw f (none_lacks (no_room lmc (cells_of facts)) e)
