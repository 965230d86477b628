-- Packets without a service level, one after the other.
use Rattle.std.proofs.Common.{◌≡◌, ◌<◌, ◌≤◌, ◌+◌, ℕ, List, [], ◌∷◌, ◌++◌, sym, ap, ◌∙◌, length, take, get_or}
use Rattle.std.specs.List.{flat_map}
use Rattle.std.proofs.lemmas.List.{append-nil, flat_map_more, take_all, take_more}
use Rattle.audit_counts.specs.FirstFew.{Listed, all_listed}

module _ {X Y : Type 0} (most : ℕ) (f : X → List Y) where
  -- what an element gives is added
  pub flat_one : (xs : List X) (i : ℕ) (x : X) (new : Listed Y) → i < length xs → x ≡ get_or xs i x → new ≡ all_listed most (flat_map f (take i xs) ++ f x)
      → new ≡ all_listed most (flat_map f (take (i + 1) xs))
  flat_one xs i x new less is e =
      e
      ∙ ap (all_listed most) (flat_map_more f [] (take i xs) x ∙ ap (flat_map f) (sym (take_more xs i x less ∙ ap (λ y. take i xs ++ y ∷ []) (sym is))))

  -- it gives nothing
  pub flat_none : (xs : List X) (i : ℕ) (x : X) (few new : Listed Y) → few ≡ all_listed most (flat_map f (take i xs)) → i < length xs → x ≡ get_or xs i x
      → f x ≡ [] → new ≡ few → new ≡ all_listed most (flat_map f (take (i + 1) xs))
  flat_none xs i x few new h less is none e =
      flat_one xs i x new less is (e ∙ h ∙ ap (all_listed most) (sym (append-nil (flat_map f (take i xs))) ∙ ap (λ t. flat_map f (take i xs) ++ t) (sym none)))

  pub flat_all : (xs : List X) (i : ℕ) (few : Listed Y) → few ≡ all_listed most (flat_map f (take i xs)) → length xs ≤ i
      → few ≡ all_listed most (flat_map f xs)
  flat_all xs i few h past = h ∙ ap (λ t. all_listed most (flat_map f t)) (take_all i xs past)
