-- The numbers of end ports are below the bound of their ranges.
use Rattle.std.proofs.Common.{◌≡◌, ◌<◌, ℕ, Option, None, Some, sym, arith}
use Rattle.std.specs.Prelude.{IfSome}
use Rattle.subnet_view.specs.declared.end_port.EndPort.{EndPort}
use Rattle.lid_assign.specs.LidMap.{AreBelow}
use Rattle.lid_assign.specs.Lids.{Given, owner_of}
use Rattle.lid_assign.proofs.Owners.{given-from_owner}

pub owned_below : (given : Given) (bound n : ℕ) (owner : Option EndPort) → AreBelow bound given.lmc given.ports → owner ≡ owner_of given n
    → IfSome owner (λ port. n < bound)
owned_below given bound n None below e = tt
owned_below given bound n (Some port) below e =
    let its = given-from_owner given port n (sym e) in
    let fits = below port its.0 its.1 in omega (arith, its.2.1, fits)
