-- What is chosen under known tests.
use Rattle.std.proofs.Common.{◌≡◌, Bool, true, false, not, ◌||◌, cond, refl}

-- a value is as it is asked, if it is asked for
pub suited : (given r s : Bool) → given ≡ true → r ≡ s → r ≡ (not given || s)
suited true r s asked same = same
suited false r s asked same = absurd (cc)

-- the second of three
pub second : {A : Type 0} (a b : Bool) (x y z : A) → a ≡ false → b ≡ true → y ≡ cond a x (cond b y z)
second true b x y z f t = absurd (cc)
second false true x y z f t = refl
second false false x y z f t = absurd (cc)

-- the first of two
pub first : {A : Type 0} (a : Bool) (x y : A) → a ≡ true → x ≡ cond a x y
first true x y t = refl
first false x y t = absurd (cc)
