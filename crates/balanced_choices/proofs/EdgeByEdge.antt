-- Ways, an edge at a time.
use Rattle.std.proofs.Common.{◌≡◌, ◌<◌, ◌≤◌, ◌-◌, ◌+◌, ℕ, zero, suc, List, [], ◌∷◌, ap, ◌∙◌, arith}
use Rattle.std.specs.Prelude.{max, None, Option, Some}
use Rattle.spread_labels.specs.Level.{greatest}
use Rattle.std.specs.Option.{option_map_or}
use Rattle.port_graph.specs.declared.edge.Edge.{Edge}
use Rattle.balanced_choices.specs.Ways.{channel_by, way}

module _ (taken : ℕ → Option Edge) where
  -- no edge is taken
  pub way_ends : (n p : ℕ) → 0 < n → taken p ≡ None → way taken n p ≡ []
  way_ends zero p h none = absurd (omega arith)
  way_ends (suc n) p h none = ap (λ o. option_map_or (λ (x : Edge). channel_by p x ∷ way taken n x.to) o []) none

  -- an edge is taken, of those that are left
  pub way_goes : (n i p : ℕ) (e : Edge) → i < n → taken p ≡ Some e → way taken (n - i) p ≡ channel_by p e ∷ way taken (n - (i + 1)) e.to
  way_goes n i p e h some =
      let left : n - i ≡ suc (n - (i + 1)) = omega arith in
      ap (λ k. way taken k p) left ∙ ap (λ o. option_map_or (λ (x : Edge). channel_by p x ∷ way taken (n - (i + 1)) x.to) o []) some

  -- none are left
  pub none_left : (n i p : ℕ) → n - i ≡ 0 → way taken (n - i) p ≡ []
  none_left n i p none = ap (λ k. way taken k p) none

-- the greatest of some is at least the first of them
pub greatest_least : (n : ℕ) (ms : List ℕ) → n ≤ greatest n ms
greatest_least n [] = omega arith
greatest_least n (m ∷ ms) = let rest = greatest_least (max n m) ms in omega (arith, rest)
