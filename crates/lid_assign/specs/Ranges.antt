-- The LIDs of an end port, as a range of consecutive numbers that begins at its LID: one for a switch, and 2^LMC for
-- an adapter port (addressing chapter, base LID and LMC).
use Rattle.std.specs.Prelude.{◌≡◌, ◌↔◌, ◌<◌, ◌≤◌, ◌+◌, ◌%◌, ◌^◌, ℕ, Bool, ◌==◌, ◌&&◌, nat_le, nat_lt, IsTrue, if◌then◌else◌}
use Rattle.smp_bytes.specs.LidRange.{is_among}
use Rattle.subnet_view.specs.declared.end_port.EndPort.{EndPort}

-- the LMC of the end port `e`: 0 if it is port 0 of a switch, otherwise the subnet's LMC
abbrev pub lmc_at : ℕ → EndPort → ℕ
lmc_at lmc e = if e.port == 0 then 0 else lmc

-- the number of LIDs of the end port `e`: 2 to the power of its LMC
abbrev pub width_of : ℕ → EndPort → ℕ
width_of lmc e = 2 ^ lmc_at lmc e

-- consecutive numbers: the first one, and how many there are
pub record Range : Type 0 where
  pub first : ℕ
  pub width : ℕ

-- the LIDs of the end port `e` if its LID is `lid`
abbrev pub range_at : ℕ → EndPort → ℕ → Range
range_at lmc e lid = record { first = lid; width = width_of lmc e }

-- whether the number `n` is in the range `r`
abbrev pub is_in : Range → ℕ → Bool
is_in r n = is_among r.first r.width n

-- whether two ranges, neither of them empty, have a number in common
abbrev pub meets : Range → Range → Bool
meets a b = nat_lt a.first (b.first + b.width) && nat_lt b.first (a.first + a.width)

-- whether an end port can have the range `r`: it begins at a multiple of its width other than 0, and ends below `room`
abbrev pub fits : ℕ → Range → Bool
fits room r = nat_le 1 r.first && (r.first % r.width == 0 && nat_le (r.first + r.width) room)

-- as statements: -----------------------------------------------------------------

-- the number `n` is in the range `r`
abbrev pub IsIn : Range → ℕ → Type 0
IsIn r n = (r.first ≤ n) × (n < r.first + r.width)

-- the number `n` is in both ranges
abbrev pub IsInBoth : Range → Range → ℕ → Type 0
IsInBoth a b n = IsIn a n × IsIn b n

-- an end port can have the range `r`: it begins at a multiple of its width other than 0, and ends below `room`
pub record Fits (room : ℕ) (r : Range) : Type 0 where
  pub not_0 : 1 ≤ r.first
  pub aligned : r.first % r.width ≡ 0
  pub in_room : r.first + r.width ≤ room

-- if ranges are not empty, `is_in`, `meets` and `fits` agree with `IsIn`, `IsInBoth` and `Fits`
abbrev pub RangesLaw : Type 0
RangesLaw = (room n : ℕ) (a b : Range) → 1 ≤ a.width → 1 ≤ b.width
    → (IsTrue (is_in a n) ↔ IsIn a n) × (IsTrue (meets a b) ↔ ((k : ℕ) × IsInBoth a b k))
    × (IsTrue (fits room a) ↔ Fits room a)
