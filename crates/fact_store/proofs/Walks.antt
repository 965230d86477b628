-- A walk of two lists in step.
use Rattle.std.proofs.Common.{◌≡◌, ℕ, ◌+◌, ◌≤◌, List, [], ◌∷◌, ◌++◌, length, refl, sym, ap, ◌∙◌, subst, arith, inl, inr, ◌⊎◌}
use Rattle.std.proofs.lemmas.List.{append_assoc, append-nil}
use Rattle.std.proofs.lemmas.List.Elements.{All-nil, All-push, All-head, All-tail, All-append}
use Rattle.std.specs.Prelude.{T, All, Option, None, Some, MatchOption}
use Rattle.std.specs.Option.{option_to_list}
use Rattle.std.specs.Cmp.{tied_itself}
use Rattle.std.specs.declared.cmp.Ordering.{Ordering}
use Rattle.std.specs.declared.cmp.Ordering.TheVariants.{Less, Greater}
use Rattle.std.specs.FinMap.Entries as sorted
use Rattle.fact_join.specs.declared.cell.Cell.{Cell}
use Rattle.reply_facts.specs.declared.key.Key.{Key}
use Rattle.reply_facts.specs.declared.value.Value.{Value}
use Rattle.fact_store.specs.Cells.{AreCells}
use Rattle.fact_store.specs.Comparisons.{by_order, compared_by_walk}
use Rattle.reply_facts.specs.Key.{key_cmp}
use Rattle.fact_store.specs.Merge.{join}
use Rattle.reply_facts.specs.Sighting.{IsSighting}
use Rattle.fact_store.specs.Seen.{seen}
use Rattle.reply_facts.proofs.Keys.{key_total}
use Rattle.fact_store.proofs.CellOrder.{held, shown, less_back, rising-step, rising-move}
use Rattle.fact_store.proofs.CellViews.{seen-step_second, seen-step_both}

-- what is done of two lists, and what is left of each
pub record IsWalked (first second done a b : List (Key × Cell Value)) (steps : ℕ) : Type 0 where
  pub same : seen (done ++ (a ++ b)) ≡ seen (first ++ second)
  pub a_rising : T (sorted.is_sorted key_cmp (done ++ a))
  pub b_rising : T (sorted.is_sorted key_cmp (done ++ b))
  pub done_in : All IsSighting done
  pub a_in : All IsSighting a
  pub b_in : All IsSighting b
  pub fewer : steps + (length a + length b) ≤ length first + length second
  pub counted : steps + compared_by_walk a b ≡ compared_by_walk first second

module _ (first second done s t : List (Key × Cell Value)) (x y : Key × Cell Value) (steps : ℕ) (w : IsWalked first second done (x ∷ s) (y ∷ t) steps) where
  -- what is compared after this depends on the order of the two keys
  by_key : {o : Ordering} → key_cmp x.0 y.0 ≡ o → compared_by_walk (x ∷ s) (y ∷ t) ≡ 1
      + by_order o (compared_by_walk s (y ∷ t)) (compared_by_walk s t) (compared_by_walk (x ∷ s) t)
  by_key e = ap (λ (o : Ordering). 1 + by_order o (compared_by_walk s (y ∷ t)) (compared_by_walk s t) (compared_by_walk (x ∷ s) t)) e

  -- the first one's key is less
  pub walked_first : key_cmp x.0 y.0 ≡ Less → IsWalked first second (done ++ x ∷ []) s (y ∷ t) (steps + 1)
  walked_first l =
      record {
        same = ap seen (append_assoc done (x ∷ []) (s ++ y ∷ t)) ∙ w.same;
        a_rising = subst (λ (z : List (Key × Cell Value)). T (sorted.is_sorted key_cmp z)) (sym (append_assoc done (x ∷ []) s)) w.a_rising;
        b_rising = rising-step done s t x y w.a_rising w.b_rising l;
        done_in = All-push IsSighting done x w.done_in (All-head IsSighting x s w.a_in);
        a_in = All-tail IsSighting x s w.a_in;
        b_in = w.b_in;
        fewer = omega (arith, w.fewer);
        counted = omega (arith, w.counted, by_key l);
      }

  -- the second one's is
  pub walked_second : key_cmp x.0 y.0 ≡ Greater → IsWalked first second (done ++ y ∷ []) (x ∷ s) t (steps + 1)
  walked_second g =
      record {
        same = seen-step_second done (x ∷ s) t y ∙ w.same;
        a_rising = rising-step done t s y x w.b_rising w.a_rising (less_back x.0 y.0 g);
        b_rising = subst (λ (z : List (Key × Cell Value)). T (sorted.is_sorted key_cmp z)) (sym (append_assoc done (y ∷ []) t)) w.b_rising;
        done_in = All-push IsSighting done y w.done_in (All-head IsSighting y t w.b_in);
        a_in = w.a_in;
        b_in = All-tail IsSighting y t w.b_in;
        fewer = omega (arith, w.fewer);
        counted = omega (arith, w.counted, by_key g);
      }

  -- they are the same
  pub walked_both : x.0 ≡ y.0 → IsSighting (x.0, join x.1 y.1) → IsWalked first second (done ++ (x.0, join x.1 y.1) ∷ []) s t (steps + 1)
  walked_both e h =
      record {
        same = seen-step_both done s t x.0 x.1 y.1 ∙ ap (λ (k : Key). seen (done ++ (x ∷ s ++ (k, y.1) ∷ t))) e ∙ w.same;
        a_rising = rising-move done s x (join x.1 y.1) w.a_rising;
        b_rising = subst (λ (k : Key). T (sorted.is_sorted key_cmp ((done ++ (k, join x.1 y.1) ∷ []) ++ t))) (sym e)
            (rising-move done t y (join x.1 y.1) w.b_rising);
        done_in = All-push IsSighting done (x.0, join x.1 y.1) w.done_in h;
        a_in = All-tail IsSighting x s w.a_in;
        b_in = All-tail IsSighting y t w.b_in;
        fewer = omega (arith, w.fewer);
        counted = omega (arith, w.counted, by_key (ap (key_cmp x.0) (sym e) ∙ tied_itself key_total x.0));
      }

-- the same walk, of lists that are these
pub walked_to : (first second d d' a a' b b' : List (Key × Cell Value)) (s s' : ℕ) → IsWalked first second d a b s → d' ≡ d → a' ≡ a → b' ≡ b → s' ≡ s
    → IsWalked first second d' a' b' s'
walked_to first second d d' a a' b b' s s' w ed ea eb es =
    subst (λ (x : List (Key × Cell Value)). IsWalked first second x a' b' s') (sym ed)
    (subst (λ (x : List (Key × Cell Value)). IsWalked first second d x b' s') (sym ea)
    (subst (λ (x : List (Key × Cell Value)). IsWalked first second d a x s') (sym eb) (subst (λ (n : ℕ). IsWalked first second d a b n) (sym es) w)))

-- what an iterator gave and what it has left is what it had
pub next_left : (r : Option (Key × Cell Value)) (s t : List (Key × Cell Value)) → MatchOption r ((s ≡ []) × (t ≡ [])) (λ x. s ≡ x ∷ t) → option_to_list r ++ t
    ≡ s
next_left None s t h = h.1 ∙ sym h.0
next_left (Some x) s t h = sym h

-- with nothing left of one, the other's rest goes to the end
pub walked_all : (first second d a b all : List (Key × Cell Value)) (s : ℕ) → IsWalked first second d a b s → (a ≡ []) ⊎ (b ≡ []) → all ≡ (d ++ a) ++ b
    → AreCells all × (seen all ≡ seen (first ++ second))
walked_all first second d a b all s w (inl e) is =
    let same : all ≡ d ++ b = is ∙ ap (λ (z : List (Key × Cell Value)). (d ++ z) ++ b) e ∙ ap (λ (z : List (Key × Cell Value)). z ++ b) (append-nil d) in (
      record {
        rising = shown _ (subst (λ (z : List (Key × Cell Value)). T (sorted.is_sorted key_cmp z)) (sym same) w.b_rising);
        in_range = subst (All IsSighting) (sym same) (All-append IsSighting d b w.done_in w.b_in);
      },
      ap seen (is ∙ append_assoc d a b) ∙ w.same,
    )
walked_all first second d a b all s w (inr e) is =
    let same : all ≡ d ++ a = is ∙ ap (λ (z : List (Key × Cell Value)). (d ++ a) ++ z) e ∙ append-nil (d ++ a) in (
      record {
        rising = shown _ (subst (λ (z : List (Key × Cell Value)). T (sorted.is_sorted key_cmp z)) (sym same) w.a_rising);
        in_range = subst (All IsSighting) (sym same) (All-append IsSighting d a w.done_in w.a_in);
      },
      ap seen (is ∙ append_assoc d a b) ∙ w.same,
    )

-- an iterator that gave nothing has nothing left
pub nothing_left : (r : Option (Key × Cell Value)) (s t : List (Key × Cell Value)) → MatchOption r ((s ≡ []) × (t ≡ [])) (λ x. s ≡ x ∷ t) → r ≡ None → t ≡ []
nothing_left None s t h e = h.1
nothing_left (Some x) s t h e = absurd (cc)

-- before the first step
pub walked_start : (first second d a b : List (Key × Cell Value)) (s : ℕ) → AreCells first → AreCells second → d ≡ [] → a ≡ first → b ≡ second → s ≡ 0
    → IsWalked first second d a b s
walked_start first second d a b s f g ed ea eb es =
    walked_to first second [] d first a second b 0 s (record {
      same = refl;
      a_rising = held _ f.rising;
      b_rising = held _ g.rising;
      done_in = All-nil IsSighting;
      a_in = f.in_range;
      b_in = g.in_range;
      fewer = omega arith;
      counted = omega arith;
    }) ed ea eb es

-- with nothing left of one, no more is compared
pub compared_all : (first second d a b : List (Key × Cell Value)) (s : ℕ) → IsWalked first second d a b s → (a ≡ []) ⊎ (b ≡ []) → s
    ≡ compared_by_walk first second
compared_all first second d a b s w (inl e) = omega (arith, w.counted, ap (λ (z : List (Key × Cell Value)). compared_by_walk z b) e)
compared_all first second d a b s w (inr e) = omega (arith, w.counted, ap (compared_by_walk a) e, none_second a)
  where
    none_second : (z : List (Key × Cell Value)) → compared_by_walk z [] ≡ 0
    none_second [] = refl
    none_second (x ∷ z) = refl
