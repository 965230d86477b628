-- Values that are read back from their numbers.
use Rattle.std.specs.Prelude.{◌≡◌, ℕ, Option, Some}

-- each value is read from its own number, and from no other number
pub record AreInverse {V : Type 0} (number_of : V → ℕ) (of_number : ℕ → Option V) : Type 0 where
  pub back : (value : V) → of_number (number_of value) ≡ Some value
  pub forth : (number : ℕ) (value : V) → of_number number ≡ Some value → number_of value ≡ number
