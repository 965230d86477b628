-- Rows up to the last port that has a wire.
use Rattle.std.proofs.Common.{◌≡◌, ◌<◌, ◌≤◌, ◌+◌, ◌-◌, ℕ, zero, suc, List, [], ◌∷◌, ◌++◌, length, get_or, take, replicate, refl, sym, ap, ◌∙◌, arith, append_assoc}
use Rattle.std.specs.Prelude.{slice_index_or}
use Rattle.std.proofs.lemmas.List.{append-nil, length-take, take_all, take_more}
use Rattle.held_tables.specs.declared.far_end.Far.{Far}
use Rattle.held_tables.specs.declared.far_end.Far.TheVariants.{Nothing, Switch, Port}
use Rattle.held_tables.specs.FarEnds.{padded, wired_more}

-- a port after the last one has no wire
blank_at : (n k : ℕ) → slice_index_or (replicate n Nothing) k Nothing ≡ Nothing
blank_at zero k = refl
blank_at (suc n) zero = refl
blank_at (suc n) (suc k) = blank_at n k

behind_at : (fars : List Far) (n k : ℕ) → slice_index_or (fars ++ replicate n Nothing) k Nothing ≡ slice_index_or fars k Nothing
behind_at [] n k = blank_at n k
behind_at (x ∷ fars) n zero = refl
behind_at (x ∷ fars) n (suc k) = behind_at fars n k

pub padded_at : (count : ℕ) (fars : List Far) (k : ℕ) → slice_index_or (padded count fars) k Nothing ≡ slice_index_or fars k Nothing
padded_at count fars k = behind_at fars (count - length fars) k

-- `count` is the number of ports up to the last one with a wire, among the first `port`
pub record AreWired (fars : List Far) (port count : ℕ) : Type 0 where
  pub within : count ≤ port
  pub others : take port fars ≡ take count fars ++ replicate (port - count) Nothing

one_blank : (n : ℕ) → replicate n Nothing ++ Nothing ∷ [] ≡ Nothing ∷ replicate n Nothing
one_blank zero = refl
one_blank (suc n) = ap (λ (xs : List Far). Nothing ∷ xs) (one_blank n)

pub none_wired : (fars : List Far) → AreWired fars 0 0
none_wired fars = record { within = omega arith; others = refl }

all_of_them : (fars : List Far) (port : ℕ) → AreWired fars port port
all_of_them fars port =
    let none : port - port ≡ 0 = omega arith in
    record { within = omega arith; others = sym (append-nil (take port fars)) ∙ ap (λ (n : ℕ). take port fars ++ replicate n Nothing) (sym none) }

pub port_wired : (fars : List Far) (port count : ℕ) (far : Far) → AreWired fars port count → port < length fars → far ≡ get_or fars port far
    → AreWired fars (port + 1) (wired_more far port count)
port_wired fars port count (Switch index) h less is = all_of_them fars (port + 1)
port_wired fars port count (Port e) h less is = all_of_them fars (port + 1)
port_wired fars port count Nothing h less is =
    let low = h.within in
    let longer : (port + 1) - count ≡ suc (port - count) = omega arith in
    record {
      within = omega arith;
      others =
          take_more fars port Nothing less ∙ ap (λ (x : Far). take port fars ++ x ∷ []) (sym is) ∙ ap (λ (xs : List Far). xs ++ Nothing ∷ []) h.others
          ∙ append_assoc (take count fars) (replicate (port - count) Nothing) (Nothing ∷ [])
          ∙ ap (λ (xs : List Far). take count fars ++ xs) (one_blank (port - count))
          ∙ ap (λ (n : ℕ). take count fars ++ replicate n Nothing) (sym longer);
    }

pub all_wired : (fars : List Far) (port count : ℕ) → AreWired fars port count → port ≡ length fars
    → fars ≡ take count fars ++ replicate (length fars - count) Nothing
all_wired fars port count h all =
    sym (take_all port fars (omega arith)) ∙ h.others ∙ ap (λ (n : ℕ). take count fars ++ replicate (n - count) Nothing) all

-- the far ends up to the last wire determine all
pub short_is : (fars short : List Far) (count : ℕ) → count ≤ length fars → fars ≡ take count fars ++ replicate (length fars - count) Nothing
    → short ≡ take count fars → padded (length fars) short ≡ fars
short_is fars short count within others is =
    let long : length (take count fars) ≡ count = omega (arith, length-take count fars) in
    ap (padded (length fars)) is ∙ ap (λ (n : ℕ). take count fars ++ replicate (length fars - n) Nothing) long ∙ sym others
