-- An entry more.
use Rattle.std.proofs.Common.{List, ℕ, sym, subst}
use Rattle.subnet_view.specs.declared.end_port.EndPort.{EndPort}
use Rattle.lid_assign.specs.LidMap.{ByPort}
use Rattle.lid_assign.proofs.Tables.{seen, lids_more}
use Rattle.lid_assign.proofs.lid_map.by_port.Goals as goal

pub loop-port-preserved : goal.loop-port-preserved
loop-port-preserved c =
    let Are : List (EndPort × ℕ) → Type 0 = λ given. ByPort given c.insert.new.self in
    subst Are (sym (seen c.loop-port.yielded (c.in-Some.port, c.in-Some.lid)))
    (lids_more _ c.loop-port.lids c.insert.new.self c.in-Some.port c.in-Some.lid c.loop-port.invariant c.in_ok-insert.ensures.updates)
