-- The loads of channels, one after the other.
use Rattle.std.proofs.Common.{◌≡◌, ◌+◌, ◌*◌, ℕ, zero, suc, Bool, true, false, cond, List, [], ◌∷◌, ◌++◌, length, get_or, map, refl, sym, ap, ◌∙◌, subst, arith}
use Rattle.std.specs.Prelude.{filter, max}
use Rattle.std.specs.List.{range_with_len, sum_by}
use Rattle.std.proofs.lemmas.List.{append-nil, length-append, map-append}
use Rattle.std.proofs.lemmas.List.Elements.{filter-append}
use Rattle.std.proofs.lemmas.List.Recursion.{max_push}
use Rattle.std.proofs.lemmas.List.Sums.{sum_by_push}
use Rattle.subnet_view.specs.Reading.{Cells, switches}
use Rattle.held_tables.specs.Held.{HeldPlan}
use Rattle.held_tables.specs.Switches.{far_by}
use Rattle.audit_ways.specs.declared.mean.Total.{Total}
use Rattle.audit_ways.specs.declared.way_tally.WayTally.{WayTally}
use Rattle.audit_ways.specs.declared.way_figures.WayFigures.{WayFigures}
use Rattle.audit_ways.specs.Figures.{IsTotal, IsTotalWith, figures_by, figures_of, greatest}
use Rattle.audit_ways.specs.WayTally.{IsCounted}
use Rattle.audit_ways.specs.Ways.{AreWayFigures, channels_of, is_to_switch, load_of, ways_of}
use Rattle.audit_ways.proofs.Counted.{figures_are, hops_are}

-- a number more
pub total_more : (ns : List ℕ) (old new : Total) (n : ℕ) → IsTotal ns old → IsTotalWith old n 1 new → IsTotal (ns ++ n ∷ []) new
total_more ns old new n h w =
    let count = w.count in
    let was = h.count in
    let sum_is = w.sum in
    let sum_was = h.sum in
    record {
      count = omega (arith, length-append ns (n ∷ []), count, was);
      sum = sum_is ∙ ap (λ k. k + 1 * n) sum_was ∙ omega arith ∙ sym (sum_by_push (λ (x : ℕ). x) ns n);
      most = w.most ∙ ap (λ k. max k n) h.most ∙ sym (max_push greatest (λ (x : ℕ). x) refl (λ x xs. refl) ns n);
    }

range_more : (a n : ℕ) → range_with_len a (n + 1) ≡ range_with_len a n ++ (a + n) ∷ []
range_more a zero = let e : a + 0 ≡ a = omega arith in ap (λ (k : ℕ). k ∷ []) (sym e)
range_more a (suc n) =
    let e : suc n + 1 ≡ suc (n + 1) = omega arith in
    let k : (a + 1) + n ≡ a + suc n = omega arith in
    ap (range_with_len a) e ∙ ap (λ xs. a ∷ xs) (range_more (a + 1) n ∙ ap (λ (m : ℕ). range_with_len (a + 1) n ++ m ∷ []) k)

module _ (cells : Cells) (loads : List ℕ) where
  abbrev pub is_channel : ℕ → Bool
  is_channel n = is_to_switch (far_by cells n)

  abbrev load : ℕ → ℕ
  load n = get_or loads n 0

  -- those of the first numbers
  pub record LoadsSoFar (n : ℕ) (total : Total) : Type 0 where
    pub counted : IsTotal (map load (filter is_channel (range_with_len 0 n))) total

  pub none_so_far : (total : Total) → IsTotal [] total → LoadsSoFar 0 total
  none_so_far total h = record { counted = h }

  pub channels_more : {X : Type 0} (f : ℕ → X) (n : ℕ) → map f (filter is_channel (range_with_len 0 (n + 1)))
      ≡ map f (filter is_channel (range_with_len 0 n)) ++ cond (is_channel n) (f n ∷ []) []
  channels_more f n =
      ap (λ xs. map f (filter is_channel xs)) (range_more 0 n ∙ ap (λ (k : ℕ). range_with_len 0 n ++ k ∷ []) (let e : 0 + n ≡ n = omega arith in e))
      ∙ ap (map f) (filter-append is_channel (range_with_len 0 n) (n ∷ []))
      ∙ map-append f (filter is_channel (range_with_len 0 n)) (cond (is_channel n) (n ∷ []) [])
      ∙ ap (λ xs. map f (filter is_channel (range_with_len 0 n))
      ++ xs) (elim (is_channel n) as (λ t. map f (cond t (n ∷ []) []) ≡ cond t (f n ∷ []) []) [
        | true ↦ refl
        | false ↦ refl
      ])

  pub one_more : (n number : ℕ) (total new : Total) → LoadsSoFar n total → is_channel n ≡ true → number ≡ load n → IsTotalWith total number 1 new
      → LoadsSoFar (n + 1) new
  one_more n number total new h does is w = record {
    counted =
        subst (λ xs. IsTotal xs new)
        (ap (λ (k : ℕ). map load (filter is_channel (range_with_len 0 n)) ++ k ∷ []) is
        ∙ sym (channels_more load n ∙ ap (λ t. map load (filter is_channel (range_with_len 0 n)) ++ cond t (load n ∷ []) []) does))
        (total_more (map load (filter is_channel (range_with_len 0 n))) total new number h.counted w);
  }

  pub none_more : (n : ℕ) (total : Total) → LoadsSoFar n total → is_channel n ≡ false → LoadsSoFar (n + 1) total
  none_more n total h not_it = record {
    counted =
        subst (λ xs. IsTotal xs total)
        (sym (channels_more load n ∙ ap (λ t. map load (filter is_channel (range_with_len 0 n)) ++ cond t (load n ∷ []) []) not_it
        ∙ append-nil (map load (filter is_channel (range_with_len 0 n)))))
        h.counted;
  }

  pub all_loads : (n : ℕ) (total : Total) → LoadsSoFar n total → n ≡ 256 * length (switches cells) → IsTotal (map load (channels_of cells)) total
  all_loads n total h e = subst (λ k. IsTotal (map load (filter is_channel (range_with_len 0 k))) total) e h.counted

-- both are what is told of ways -------------------------------------------------------------

pub same_map : {X : Type 0} (f g : ℕ → X) (ns : List ℕ) → ((n : ℕ) → f n ≡ g n) → map f ns ≡ map g ns
same_map f g [] h = refl
same_map f g (n ∷ ns) h = λ i. h n i ∷ same_map f g ns h i

pub told : (cells : Cells) (held : HeldPlan) (tally : WayTally) (total : Total) (figures : WayFigures)
    → IsCounted (256 * length (switches cells)) (λ f. sum_by f (ways_of cells held)) tally
    → IsTotal (map (λ n. get_or tally.loads.items n 0) (channels_of cells)) total → figures.hops ≡ figures_by tally.hops.count tally.hops.sum tally.hops.most
    → figures.load ≡ figures_by total.count total.sum total.most → AreWayFigures cells held figures
told cells held tally total figures h t hops load = record {
  hops = hops ∙ hops_are (256 * length (switches cells)) (ways_of cells held) tally h;
  load = load ∙ figures_are (map (λ n. get_or tally.loads.items n 0) (channels_of cells)) total t
      ∙ ap figures_of (same_map (λ n. get_or tally.loads.items n 0) (load_of (ways_of cells held)) (channels_of cells) h.loads);
}
