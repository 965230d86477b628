-- End port by end port.
use Rattle.std.proofs.Common.{◌+◌, List, drop, sym, subst}
use Rattle.std.proofs.Math.ListN.{drop_of_length-le}
use Rattle.fact_store.specs.View.{cells_of}
use Rattle.subnet_view.specs.declared.end_port.EndPort.{EndPort}
use Rattle.lid_assign.proofs.KeptClaims.{Ports}
use Rattle.lid_assign.proofs.Walked.{next_item}
use Rattle.lid_assign.proofs.Keeping.{IsKeeping, keeping_start, keeping_more, kept_all, taken_all}
use Rattle.lid_assign.proofs.keep_claims.keep_claims.Goals as goal

pub loop-port-init : goal.loop-port-init
loop-port-init c =
    keeping_start c.args.lmc (cells_of c.args.store.now) c.in_ok-keepers.keepers.items c.args.ports.now c.args.claimed.now c.args.taken.now
    c.in_ok-keepers.ensures.items c.requires.ports
    c.requires.claimed c.requires.taken

pub loop-port-preserved : goal.loop-port-preserved
loop-port-preserved c =
    let cells = cells_of c.args.store.now in
    let lmc = c.args.lmc in
    let port = c.port-item.result in
    let rest = drop (c.loop-port.port-index + 1) c.args.ports.now in
    let step = next_item c.args.ports.now c.loop-port.port-index port c.loop-port-test.true c.port-item.is in
    let before = subst (λ (ports : List EndPort). IsKeeping lmc cells c.loop-port.keepers.items ports c.loop-port.claimed c.loop-port.taken) step
    c.loop-port.invariant in
    let after = keeping_more lmc cells c.loop-port.keepers.items port rest c.loop-port.claimed c.loop-port.taken c.keep-lid.new.claimed c.keep-lid.new.taken
    c.width.result c.claim.result c.keep-lid.result
    c.width.ensures.value c.claim.ensures c.keep-lid.ensures.kept c.keep-lid.ensures.claimed c.keep-lid.ensures.taken before in
    subst (λ (x : Ports). IsKeeping lmc cells x rest c.keep-lid.new.claimed c.keep-lid.new.taken) (sym c.in_ok-push.ensures.items) after

pub returns-clause-kept : goal.returns-clause-kept
returns-clause-kept c =
    kept_all c.args.lmc (cells_of c.args.store.now) c.loop-port.keepers.items _ c.loop-port.claimed c.loop-port.taken
    (drop_of_length-le c.args.ports.now c.loop-port-test.false) c.loop-port.invariant

pub returns-clause-taken : goal.returns-clause-taken
returns-clause-taken c =
    taken_all c.args.lmc (cells_of c.args.store.now) c.loop-port.keepers.items _ c.loop-port.claimed c.loop-port.taken
    (drop_of_length-le c.args.ports.now c.loop-port-test.false) c.loop-port.invariant
