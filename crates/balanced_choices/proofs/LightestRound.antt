-- Rounds, one after the other, and the choices of the lightest.
use Rattle.std.proofs.Common.{◌≡◌, ◌<◌, ◌≤◌, ◌+◌, ◌-◌, ℕ, zero, suc, List, [], ◌∷◌, true, false, refl, sym, ap, ◌∙◌, arith, add-one, cond}
use Rattle.std.proofs.lemmas.Bool.{le-ltb, lt-ltb}
use Rattle.std.specs.Prelude.{None, Option, Some, is_some, option_map, unwrap_or}
use Rattle.port_graph.specs.declared.edge.Edge.{Edge}
use Rattle.spread_labels.specs.Level.{greatest}
use Rattle.balanced_choices.specs.declared.choice_rounds.Destination.{Destination}
use Rattle.balanced_choices.specs.declared.level_digit.LevelDigit.{LevelDigit}
use Rattle.balanced_choices.specs.BalancedChoices.{Balance, are_even, later_rounds, lightest_choices, with_all}

module _ (graph : List (List Edge)) (sent : List ℕ) (digits : List LevelDigit) (ds : List Destination) where
  -- none are made where loads are even
  pub none_later : (most round : ℕ) (old : Balance) → are_even graph old.loads ≡ true → later_rounds most round graph sent digits ds old ≡ []
  none_later zero round old even = refl
  none_later (suc most) round old even =
      let new = with_all round graph sent digits old 0 ds in
      ap (λ b. cond b [] (new ∷ later_rounds most (suc round) graph sent digits ds new)) even

  -- and one more where they are not
  pub one_later : (most round : ℕ) (old new : Balance) → round < most → are_even graph old.loads ≡ false → with_all round graph sent digits old 0 ds ≡ new
      → later_rounds (most - round) round graph sent digits ds old
      ≡ new ∷ later_rounds (most - (round + 1)) (round + 1) graph sent digits ds new
  one_later most round old new more uneven became =
      let left : most - round ≡ suc (most - (round + 1)) = omega arith in
      let made = with_all round graph sent digits old 0 ds in
      let rest = later_rounds (most - (round + 1)) (suc round) graph sent digits ds made in
      ap (λ n. later_rounds n round graph sent digits ds old) left
      ∙ ap (λ b. cond b [] (made ∷ rest)) uneven
      ∙ (λ i. became i ∷ later_rounds (most - (round + 1)) (sym (add-one round) i) graph sent digits ds (became i))

-- the next balance is lighter, or not
pub lighter : (best : List (List ℕ)) (least : ℕ) (b : Balance) (bs : List Balance) → greatest 0 b.loads < least
    → lightest_choices best least (b ∷ bs) ≡ lightest_choices b.choices (greatest 0 b.loads) bs
lighter best least b bs less =
    ap (λ t. cond t (lightest_choices b.choices (greatest 0 b.loads) bs) (lightest_choices best least bs)) (lt-ltb (greatest 0 b.loads) least less)

pub no_lighter : (best : List (List ℕ)) (least : ℕ) (b : Balance) (bs : List Balance) → least ≤ greatest 0 b.loads
    → lightest_choices best least (b ∷ bs) ≡ lightest_choices best least bs
no_lighter best least b bs more =
    ap (λ t. cond t (lightest_choices b.choices (greatest 0 b.loads) bs) (lightest_choices best least bs)) (le-ltb (greatest 0 b.loads) least more)

-- what is kept, or something else where nothing is
module _ {T : Type 0} (f : T → List (List ℕ)) where
  pub kept : (o : Option T) (x y : List (List ℕ)) → is_some o ≡ true → unwrap_or (option_map f o) x ≡ unwrap_or (option_map f o) y
  kept None x y some = absurd (cc)
  kept (Some t) x y some = refl

  pub not_kept : (o : Option T) (x : List (List ℕ)) → is_some o ≡ false → unwrap_or (option_map f o) x ≡ x
  not_kept None x none = refl
  not_kept (Some t) x none = absurd (cc)

  pub kept_or : (o : Option T) (t : T) → f (unwrap_or o t) ≡ unwrap_or (option_map f o) (f t)
  kept_or None t = refl
  kept_or (Some x) t = refl
