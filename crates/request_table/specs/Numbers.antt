-- Requests in ascending order of their numbers.
use Rattle.std.specs.Prelude.{◌≡◌, ℕ, ◌+◌, ◌≤◌, ◌^◌, not, List, [], ◌∷◌, filter, find, slice_get, ◌==◌, Option, Some, None}

-- a table of requests: the number of the next request, the requests, and the number of further requests for which there
-- is memory
pub record Table (T : Type 0) : Type 0 where
  pub next : ℕ
  pub requests : List T
  pub room : ℕ

-- the numbers of the requests rise, are at least `least`, and are below `next`
abbrev pub AreRising : {T : Type 0} → (T → ℕ) → ℕ → List T → ℕ → Type 0
AreRising number least [] next = least ≤ next
AreRising number least (r ∷ requests) next = (least ≤ number r) × AreRising number (number r + 1) requests next

-- the numbers of the requests rise and are below `next`, which is at most 2^32
pub record AreNumbered {T : Type 0} (number : T → ℕ) (requests : List T) (next : ℕ) : Type 0 where
  pub rising : AreRising number 0 requests next
  pub bound : next ≤ 2 ^ 32

-- the request with the number `n`; None if no request has this number
abbrev pub with_number : {T : Type 0} → (T → ℕ) → ℕ → List T → Option T
with_number number n requests = find (λ r. number r == n) requests

-- the requests without those that have the number `n`
abbrev pub without_number : {T : Type 0} → (T → ℕ) → ℕ → List T → List T
without_number number n requests = filter (λ r. not (number r == n)) requests

-- if there is an index, the request at this index is the one in `found`; if there is none, `found` is None
abbrev pub IsIndexFor : {T : Type 0} → Option T → List T → Option ℕ → Type 0
IsIndexFor found requests None = found ≡ None
IsIndexFor {T} found requests (Some index) = (r : T) × (slice_get requests index ≡ Some r) × (found ≡ Some r)
