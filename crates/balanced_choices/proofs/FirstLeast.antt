-- The first that is least, one number after the other.
use Rattle.std.proofs.Common.{◌≡◌, ◌<◌, ◌≤◌, ◌+◌, ◌-◌, ◌^◌, ◌⊎◌, ℕ, zero, suc, List, [], ◌∷◌, All, inl, inr, refl, sym, ap, subst, ◌∙◌, arith, cond, get_or, length, map}
use Rattle.std.proofs.lemmas.Bool.{cases_lt, le-ltb, lt-ltb}
use Rattle.port_graph.proofs.Counts.{length_map}
use Rattle.balanced_choices.specs.Ways.{candidates_at, first_least, least_from, peak}
use Rattle.balanced_choices.specs.LeastPeakLaw.{IsFirstLeast, LightestIsLeast}

-- none is less than the one that was found
pub record Stays (best least k : ℕ) (ns : List ℕ) : Type 0 where
  pub is : least_from best least k ns ≡ best
  pub most : (i : ℕ) → i < length ns → least ≤ get_or ns i 0

-- one at index j is less, and the first that is least
pub record Goes (best least k : ℕ) (ns : List ℕ) : Type 0 where
  pub j : ℕ
  pub is : least_from best least k ns ≡ k + j
  pub less : get_or ns j 0 < least
  pub found : IsFirstLeast ns j

pub least_here : (ns : List ℕ) (n : ℕ) → ((i : ℕ) → i < length ns → n ≤ get_or ns i 0) → (i : ℕ) → i < suc (length ns) → n ≤ get_or (n ∷ ns) i 0
least_here ns n most zero h = omega arith
least_here ns n most (suc i) h = most i (omega (arith, h))

most_here : (ns : List ℕ) (n least : ℕ) → least ≤ n → ((i : ℕ) → i < length ns → least ≤ get_or ns i 0)
    → (i : ℕ) → i < suc (length ns) → least ≤ get_or (n ∷ ns) i 0
most_here ns n least more most zero h = more
most_here ns n least more most (suc i) h = most i (omega (arith, h))

least_later : (ns : List ℕ) (n j : ℕ) → IsFirstLeast ns j → get_or ns j 0 < n → (i : ℕ) → i < suc (length ns) → get_or ns j 0 ≤ get_or (n ∷ ns) i 0
least_later ns n j is less zero h = omega (arith, less)
least_later ns n j is less (suc i) h = is.least i (omega (arith, h))

first_later : (ns : List ℕ) (n j : ℕ) → IsFirstLeast ns j → get_or ns j 0 < n → (i : ℕ) → i < suc j → get_or ns j 0 < get_or (n ∷ ns) i 0
first_later ns n j is less zero h = less
first_later ns n j is less (suc i) h = is.first i (omega (arith, h))

pub one_later : (ns : List ℕ) (n j : ℕ) → IsFirstLeast ns j → get_or ns j 0 < n → IsFirstLeast (n ∷ ns) (suc j)
one_later ns n j is less =
    record {
      within = omega (arith, is.within);
      least = least_later ns n j is less;
      first = first_later ns n j is less;
    }

found_next : (best least k n : ℕ) (ns : List ℕ) → n < least → Stays k n (suc k) ns ⊎ Goes k n (suc k) ns → Goes best least k (n ∷ ns)
found_next best least k n ns less (inl s) =
    let now : least_from best least k (n ∷ ns) ≡ least_from k n (suc k) ns =
    ap (λ b. cond b (least_from k n (suc k) ns) (least_from best least (suc k) ns)) (lt-ltb n least less) in
    let here : k ≡ k + 0 = omega arith in
    record {
      j = 0;
      is = now ∙ s.is ∙ here;
      less = less;
      found = record {
        within = omega arith;
        least = least_here ns n s.most;
        first = λ i h. absurd (omega (arith, h));
      };
    }
found_next best least k n ns less (inr g) =
    let now : least_from best least k (n ∷ ns) ≡ least_from k n (suc k) ns =
    ap (λ b. cond b (least_from k n (suc k) ns) (least_from best least (suc k) ns)) (lt-ltb n least less) in
    let there : suc k + g.j ≡ k + suc g.j = omega arith in
    record {
      j = suc g.j;
      is = now ∙ g.is ∙ there;
      less = omega (arith, g.less, less);
      found = one_later ns n g.j g.found g.less;
    }

kept_next : (best least k n : ℕ) (ns : List ℕ) → least ≤ n → Stays best least (suc k) ns ⊎ Goes best least (suc k) ns
    → Stays best least k (n ∷ ns) ⊎ Goes best least k (n ∷ ns)
kept_next best least k n ns more (inl s) =
    let now : least_from best least k (n ∷ ns) ≡ least_from best least (suc k) ns =
    ap (λ b. cond b (least_from k n (suc k) ns) (least_from best least (suc k) ns)) (le-ltb n least more) in
    inl (record { is = now ∙ s.is; most = most_here ns n least more s.most })
kept_next best least k n ns more (inr g) =
    let now : least_from best least k (n ∷ ns) ≡ least_from best least (suc k) ns =
    ap (λ b. cond b (least_from k n (suc k) ns) (least_from best least (suc k) ns)) (le-ltb n least more) in
    let there : suc k + g.j ≡ k + suc g.j = omega arith in
    inr (record {
      j = suc g.j;
      is = now ∙ g.is ∙ there;
      less = g.less;
      found = one_later ns n g.j g.found (omega (arith, g.less, more));
    })

pub found : (best least k : ℕ) (ns : List ℕ) → Stays best least k ns ⊎ Goes best least k ns
found best least k [] = inl (record { is = refl; most = λ i h. absurd (omega (arith, h)) })
found best least k (n ∷ ns) =
    elim (cases_lt n least) [
      | inl less ↦ inr (found_next best least k n ns less (found k n (suc k) ns))
      | inr more ↦ kept_next best least k n ns more (found best least (suc k) ns)
    ]

by_cases : (ns : List ℕ) → All (λ n. n ≤ 2 ^ 64 - 1) ns → 0 < length ns
    → Stays 0 (2 ^ 64 - 1) 0 ns ⊎ Goes 0 (2 ^ 64 - 1) 0 ns → IsFirstLeast ns (first_least ns)
by_cases ns few some (inl s) =
    let first : get_or ns 0 0 ≤ 2 ^ 64 - 1 = few 0 0 some in
    subst (IsFirstLeast ns) (sym s.is)
    (record {
      within = some;
      least = λ i h. let most = s.most i h in omega (arith, first, most);
      first = λ i h. absurd (omega (arith, h));
    })
by_cases ns few some (inr g) =
    let at : g.j ≡ 0 + g.j = omega arith in
    subst (IsFirstLeast ns) (sym (g.is ∙ sym at)) g.found

pub first_least_is : (ns : List ℕ) → All (λ n. n ≤ 2 ^ 64 - 1) ns → 0 < length ns → IsFirstLeast ns (first_least ns)
first_least_is ns few some = by_cases ns few some (found 0 (2 ^ 64 - 1) 0 ns)

pub lightest_is_least : LightestIsLeast
lightest_is_least ways choices loads p few some =
    let f = peak ways choices loads p in
    first_least_is (map f (candidates_at ways p)) few (omega (arith, some, length_map f (candidates_at ways p)))
