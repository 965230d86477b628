-- What each call that writes a text promises.
use Rattle.std.specs.Prelude.{ℕ, ◌↔◌, Bool, List, Option, Result, OnOk, IsErr, IsTrue}
use Rattle.std.specs.Io.KnownBytes.{Appends}
use Rattle.byte_io.specs.declared.sink.WriteFault.{WriteFault}

-- if the result is `Ok`, `text` was appended to the sink's bytes. The result is `Err` exactly when the sink has failed
-- after the call
pub record Writes {W : Type 0} (written : W → Option (List ℕ)) (has_failed : W
    → Bool) (result : Result (Unit {0}) WriteFault) (old new : W)
    (text : List ℕ) : Type 0 where
  pub ok : OnOk result (Appends (written old) (written new) text)
  pub failed : IsErr result ↔ IsTrue (has_failed new)
