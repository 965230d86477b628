-- A fault that is handed on is the fault of the call.
use Rattle.std.proofs.Common.{◌≡◌, subst, sym}
use Rattle.std.specs.Prelude.{IfErr, Result, Ok, Err}
use Rattle.std.specs.Result.{IsErrAnd}

pub handed_on : {A E : Type 0} (result : Result A E) (fault : E) (Stops : E → Type 0) → IsErrAnd result (λ e. e ≡ fault) → Stops fault
    → IfErr result Stops
handed_on (Ok a) fault Stops gives so = tt
handed_on (Err e) fault Stops gives so = subst Stops (sym gives) so
