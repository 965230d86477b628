-- The greatest number that an end port has.
use Rattle.std.proofs.Common.{◌≡◌, ◌<◌, ◌≤◌, ℕ, List, [], ◌∷◌, inl, inr, refl, ap, ◌∙◌, arith, map, max}
use Rattle.std.specs.Prelude.{Contains, Some}
use Rattle.subnet_view.specs.declared.end_port.EndPort.{EndPort}
use Rattle.subnet_view.proofs.Members.{contains_here, contains_later, contains_cases, contains_none}
use Rattle.lid_assign.specs.Ranges.{range_at, IsIn}
use Rattle.lid_assign.specs.Lids.{Given, greatest, last_of, top_among, top_of, end_of}
use Rattle.lid_assign.specs.LidMap.{AreBelow}
use Rattle.lid_assign.proofs.Ranges.{some_width}

at_most_greatest : (lmc : ℕ) (given : List (EndPort × ℕ)) (x : EndPort × ℕ) → Contains given x → last_of lmc x ≤ greatest (map (last_of lmc) given)
at_most_greatest lmc [] x h = absurd (contains_none x h)
at_most_greatest lmc (y ∷ given) x h =
    elim (contains_cases y x given h) [
      | inl i ↦ omega (arith, ap (last_of lmc) i)
      | inr k ↦ omega (arith, at_most_greatest lmc given x k)
    ]

pub last_at_most : (lmc : ℕ) (given : List (EndPort × ℕ)) (x : EndPort × ℕ) → Contains given x → (top : ℕ) × (top_among lmc given ≡ Some top)
    × (last_of lmc x ≤ top)
last_at_most lmc [] x h = absurd (contains_none x h)
last_at_most lmc (y ∷ given) x h = (max (last_of lmc y) (greatest (map (last_of lmc) given)), refl, at_most_greatest lmc (y ∷ given) x h)

-- each number of an end port is at most the greatest
pub at_most_top : (given : Given) (e : EndPort) (lid n : ℕ) → Contains given.ports (e, lid) → IsIn (range_at given.lmc e lid) n → (top : ℕ)
    × (top_of given ≡ Some top) × (n ≤ top)
at_most_top given e lid n h i = let t = last_at_most given.lmc given.ports (e, lid) h in (t.0, t.1, omega (arith, t.2, i.1))

-- and so is each LID
pub lid_at_most_top : (given : Given) (e : EndPort) (lid : ℕ) → Contains given.ports (e, lid) → (top : ℕ) × (top_of given ≡ Some top) × (lid ≤ top)
lid_at_most_top given e lid h = at_most_top given e lid lid h (omega arith, omega (arith, some_width given.lmc e))

greatest_below : (lmc : ℕ) (given : List (EndPort × ℕ)) (bound : ℕ) → 0 < bound → AreBelow bound lmc given → greatest (map (last_of lmc) given) < bound
greatest_below lmc [] bound h below = h
greatest_below lmc (x ∷ given) bound h below =
    omega (
      arith,
      below x.0 x.1 (contains_here x given),
      some_width lmc x.0,
      greatest_below lmc given bound h
          (λ e n k. below e n (contains_later x (e, n) given k)),
    )

pub top_below : (lmc : ℕ) (given : List (EndPort × ℕ)) (bound top : ℕ) → AreBelow bound lmc given → top_among lmc given ≡ Some top → top < bound
top_below lmc [] bound top below e = absurd (cc)
top_below lmc (x ∷ given) bound top below e =
    let first = below x.0 x.1 (contains_here x given) in
    let some = some_width lmc x.0 in
    let is : max (last_of lmc x) (greatest (map (last_of lmc) given)) ≡ top = cc in
    omega (arith, greatest_below lmc (x ∷ given) bound (omega arith) below)

-- no range ends over the greatest number
pub below_end : (lmc : ℕ) (given : List (EndPort × ℕ)) (end : ℕ) → end ≡ end_of (top_among lmc given) → AreBelow end lmc given
below_end lmc given end is e n h =
    let t = last_at_most lmc given (e, n) h in
    omega (arith, t.2, is ∙ ap end_of t.1, some_width lmc e)
