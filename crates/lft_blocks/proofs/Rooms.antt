-- Where LIDs are not refused, there is room.
use Rattle.std.proofs.Common.{◌≡◌, ℕ, sym, ap, ◌∙◌, length}
use Rattle.std.proofs.lemmas.Bool.{cond-true}
use Rattle.std.specs.Prelude.{None, Some}
use Rattle.subnet_view.specs.EndPort.{end_ports}
use Rattle.subnet_view.specs.Reading.{Cells}
use Rattle.lid_assign.specs.declared.lid_fault.NoRoom.{NoRoom as Room}
use Rattle.lid_assign.specs.LidFault.{lid_fault, no_room}
use Rattle.lid_assign.specs.Lids.{IsNoRoom, is_no_room}
use Rattle.lid_assign.specs.Claims.{room}

pub has_room : (lmc : ℕ) (cells : Cells) → lid_fault (no_room lmc cells) ≡ None → ¬ (IsNoRoom lmc cells)
has_room lmc cells e h =
    let found : Room = record { endports = length (end_ports cells); room = room cells } in
    let there : no_room lmc cells ≡ Some found = cond-true (is_no_room lmc cells) (Some found) None h in
    let refused = sym (ap lid_fault there) ∙ e in
    absurd (cc)
