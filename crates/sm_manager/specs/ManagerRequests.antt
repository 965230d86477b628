-- The requests of a manager outside its sweeps, in ascending order of number.
use Rattle.std.specs.Prelude.{◌≡◌, ℕ, Bool, true, false, List, filter, length, ◌==◌, Option}
use Rattle.request_table.specs.Numbers as numbers
use Rattle.sm_manager.specs.declared.pending.Pending.{Pending}
use Rattle.sm_manager.specs.declared.pending.Purpose.{Purpose}
use Rattle.sm_manager.specs.declared.pending.Purpose.TheVariants as purpose

-- the requests outside sweeps: `counter` is the number of the next one, `pending` has the outstanding ones, and
-- `room` is the number of further requests for which there is memory
pub record ManagerRequests : Type 0 where
  pub counter : ℕ
  pub pending : List Pending
  pub room : ℕ

-- the numbers of the requests `pending` rise, fit in 32 bits, and are below `counter`
abbrev pub AreNumbered : ℕ → List Pending → Type 0
AreNumbered counter pending = numbers.AreNumbered (λ (p : Pending). p.number) pending counter

-- the request of `pending` with the number `number`; None if no request has this number
abbrev pub with_number : ℕ → List Pending → Option Pending
with_number number pending = numbers.with_number (λ (p : Pending). p.number) number pending

-- the requests `pending` without the one that has the number `number`
abbrev pub without_number : ℕ → List Pending → List Pending
without_number number pending = numbers.without_number (λ (p : Pending). p.number) number pending

-- what requests are for --------------------------------------------------------------------------

-- whether a request for this purpose is a step of a writing
abbrev pub is_for_step : Purpose → Bool
is_for_step purpose.Poll = false
is_for_step purpose.Control = false
is_for_step (purpose.Step counts) = true

-- whether the request `p` is a step of a writing
abbrev pub is_step : Pending → Bool
is_step p = is_for_step p.purpose

-- whether a request for this purpose is a step that counts, and so must be done for the plan to count as written
abbrev pub counts_as : Purpose → Bool
counts_as purpose.Poll = false
counts_as purpose.Control = false
counts_as (purpose.Step counts) = counts

-- whether the request `p` is a step that counts, and so must be done for the plan to count as written
abbrev pub counts : Pending → Bool
counts p = counts_as p.purpose

-- how many of the requests `pending` pass `test`
abbrev pub how_many : (Pending → Bool) → List Pending → ℕ
how_many test pending = length (filter test pending)

-- whether no request of `pending` is a step of a writing
abbrev pub no_step_waits : List Pending → Bool
no_step_waits pending = how_many is_step pending == 0

-- whether no request of `pending` is a step that counts
abbrev pub none_counts : List Pending → Bool
none_counts pending = how_many counts pending == 0

-- `steps` is the number of requests in `pending` that are steps of a writing, and `counting` the number of those that
-- count (`counts`)
pub record AreCounted (pending : List Pending) (steps counting : ℕ) : Type 0 where
  pub steps_are : steps ≡ how_many is_step pending
  pub counting_are : counting ≡ how_many counts pending
