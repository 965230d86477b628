-- Its kinds in turn.
use Rattle.byte_io.proofs.Writing.{part_then, prints_both}
use Rattle.audit_report.proofs.audit_text.write_unmatched.Goals as goal

pub returns : goal.returns
returns g c =
    let two = prints_both _ _ _ _ _ _ _ c.in_ok-write_lids.ensures c.in_ok-write_lids-2.ensures in
    let three = prints_both _ _ _ _ _ _ _ two c.in_ok-write_switches.ensures in
    let four = prints_both _ _ _ _ _ _ _ three c.in_ok-write_switches-2.ensures in
    let five = prints_both _ _ _ _ _ _ _ four c.in_ok-write_switches-3.ensures in
    let six = prints_both _ _ _ _ _ _ _ five c.in_ok-write_ports.ensures in
    part_then _ _ _ _ _ _ _ _ six c.write_ports-2.ensures
