-- The result of a call that may reject its input.
use Rattle.std.specs.Prelude.{◌≡◌, Bool, if◌then◌else◌, Option, None, Some, Result, Ok, Err}

-- the result is `Ok` if `fault` is None; otherwise it is `Err` with that fault
abbrev pub Judges : {T F : Type 0} → Result T F → Option F → Type 0
Judges (Ok value) fault = fault ≡ None
Judges (Err first) fault = fault ≡ Some first

-- if `fault` is None, the result is `Ok`, or an `Err` for lack of memory (`is_memory`); otherwise the result is `Err`
-- with that fault
abbrev pub JudgesButFor : {T F : Type 0} → (F → Bool) → Result T F → Option F → Type 0
JudgesButFor is_memory (Ok value) fault = fault ≡ None
JudgesButFor is_memory (Err first) fault = fault ≡ (if is_memory first then None else Some first)
