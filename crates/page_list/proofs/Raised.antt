-- Indices with the numbers added to their groups: each of them, further ones, and all from some index on incremented.
use Rattle.std.proofs.Common.{◌≡◌, ℕ, zero, suc, ◌+◌, ◌-◌, ◌*◌, ◌/◌, ◌<◌, ◌≤◌, ◌⊎◌, inl, inr, List, [], ◌∷◌, ◌++◌, length, get_or, set, take, drop, map, replicate, refl, ap, ◌∙◌, arith}
use Rattle.std.proofs.lemmas.List.{get_or_default}
use Rattle.std.specs.Prelude.{All}
use Rattle.page_list.specs.Starts.{raised}
use Rattle.page_list.proofs.Shifts.{so_far}

-- as many as there are
pub length-raised : (added : List ℕ) (i : ℕ) (s : List ℕ) → length (raised added i s) ≡ length s
length-raised added i [] = refl
length-raised added i (n ∷ s) = omega (arith, length-raised added (suc i) s)

-- one of them
pub raised_at : (added : List ℕ) (i : ℕ) (s : List ℕ) (k : ℕ) → k < length s → get_or (raised added i s) k 0 ≡ get_or s k 0 + get_or added ((i + k) / 64) 0
raised_at added i [] k h = absurd (omega arith)
raised_at added i (n ∷ s) zero h = ap (λ (m : ℕ). n + get_or added (m / 64) 0) (omega arith)
raised_at added i (n ∷ s) (suc k) h =
    raised_at added (suc i) s k (omega arith) ∙ ap (λ (m : ℕ). get_or s k 0 + get_or added (m / 64) 0) (omega arith)

-- the first of them
pub raised-take : (added : List ℕ) (i : ℕ) (s : List ℕ) (n : ℕ) → raised added i (take n s) ≡ take n (raised added i s)
raised-take added i s zero = refl
raised-take added i [] (suc n) = refl
raised-take added i (x ∷ s) (suc n) = ap (λ (t : List ℕ). (x + get_or added (i / 64) 0) ∷ t) (raised-take added (suc i) s n)

-- one more of them
pub raised-push : (added : List ℕ) (i : ℕ) (s : List ℕ) (x : ℕ) → get_or added ((i + length s) / 64) 0 ≡ 0 → raised added i (s ++ x ∷ []) ≡ raised added i s
    ++ x ∷ []
raised-push added i [] x none = ap (λ (m : ℕ). m ∷ []) (omega (arith, none, ap (λ (m : ℕ). get_or added (m / 64) 0) (i_is i)))
  where
    i_is : (i : ℕ) → i + 0 ≡ i
    i_is i = omega arith
raised-push added i (n ∷ s) x none =
    ap (λ (t : List ℕ). (n + get_or added (i / 64) 0) ∷ t)
    (raised-push added (suc i) s x (ap (λ (m : ℕ). get_or added (m / 64) 0) (later i (length s)) ∙ none))
  where
    later : (i l : ℕ) → suc i + l ≡ i + suc l
    later i l = omega arith

-- where the same is added
pub raised-same : (added added' : List ℕ) → ((k : ℕ) → get_or added' k 0 ≡ get_or added k 0) → (i : ℕ) (s : List ℕ) → raised added' i s ≡ raised added i s
raised-same added added' same i [] = refl
raised-same added added' same i (n ∷ s) =
    ap (λ (m : ℕ). (n + m) ∷ raised added' (suc i) s) (same (i / 64))
    ∙ ap (λ (t : List ℕ). (n + get_or added (i / 64) 0) ∷ t) (raised-same added added' same (suc i) s)

-- so many zeros
abbrev pub zeros : ℕ → List ℕ
zeros n = replicate n 0

pub zero_at : (n k : ℕ) → get_or (zeros n) k 0 ≡ 0
zero_at zero k = refl
zero_at (suc n) zero = refl
zero_at (suc n) (suc k) = zero_at n k

-- behind a list
zeros_behind : (s : List ℕ) (n k : ℕ) → get_or (s ++ zeros n) k 0 ≡ get_or s k 0
zeros_behind [] n k = zero_at n k
zeros_behind (x ∷ s) n zero = refl
zeros_behind (x ∷ s) n (suc k) = zeros_behind s n k

-- more groups
pub raised-grown : (added : List ℕ) (n i : ℕ) (s : List ℕ) → raised (added ++ replicate n 0) i s ≡ raised added i s
raised-grown added n i s = raised-same added (added ++ replicate n 0) (zeros_behind added n) i s

-- where nothing is added
pub raised-none : (added : List ℕ) → ((k : ℕ) → get_or added k 0 ≡ 0) → (i : ℕ) (s : List ℕ) → raised added i s ≡ s
raised-none added none i [] = refl
raised-none added none i (x ∷ s) =
    ap (λ (m : ℕ). m ∷ raised added (suc i) s) (omega (arith, none (i / 64))) ∙ ap (λ (t : List ℕ). x ∷ t) (raised-none added none (suc i) s)

-- past its end a list has 0, so it has no other number where none in it is
pub none_past : (s : List ℕ) → ((k : ℕ) → k < length s → get_or s k 0 ≡ 0) → (k : ℕ) → get_or s k 0 ≡ 0
none_past [] h k = refl
none_past (x ∷ s) h zero = h zero (omega arith)
none_past (x ∷ s) h (suc k) = none_past s (λ j l. h (suc j) (omega arith)) k

-- it is added to one number after another
pub add_step : (added : List ℕ) (j : ℕ) (s : List ℕ) (i : ℕ) → i < length s
    → set (take i (raised added j s) ++ drop i s) i (get_or (take i (raised added j s) ++ drop i s) i 0 + get_or added ((j + i) / 64) 0)
    ≡ take (suc i) (raised added j s) ++ drop (suc i) s
add_step added j [] i h = absurd (omega arith)
add_step added j (n ∷ s) zero h = ap (λ (m : ℕ). (n + get_or added (m / 64) 0) ∷ s) (omega arith)
add_step added j (n ∷ s) (suc i) h =
    ap (λ (m : ℕ). (n + get_or added (j / 64) 0) ∷ set (take i (raised added (suc j) s) ++ drop i s) i (get_or (take i (raised added (suc j) s) ++ drop i s) i 0
    + get_or added (m / 64) 0)) (omega arith)
    ∙ ap (λ (t : List ℕ). (n + get_or added (j / 64) 0) ∷ t) (add_step added (suc j) s i (omega arith))

-- those that are counted up, and those before
so_far_at : (s : List ℕ) (m n k : ℕ) → m ≤ k → k < m + n → k < length s → get_or (so_far s m n) k 0 ≡ get_or s k 0 + 1
so_far_at [] m n k a b h = absurd (omega arith)
so_far_at (x ∷ s) zero zero k a b h = absurd (omega arith)
so_far_at (x ∷ s) zero (suc n) zero a b h = refl
so_far_at (x ∷ s) zero (suc n) (suc k) a b h = so_far_at s zero n k (omega arith) (omega arith) (omega arith)
so_far_at (x ∷ s) (suc m) n zero a b h = absurd (omega arith)
so_far_at (x ∷ s) (suc m) n (suc k) a b h = so_far_at s m n k (omega arith) (omega arith) (omega arith)

so_far_before : (s : List ℕ) (m n k : ℕ) → k < m → k < length s → get_or (so_far s m n) k 0 ≡ get_or s k 0
so_far_before [] m n k a h = absurd (omega arith)
so_far_before (x ∷ s) zero n k a h = absurd (omega arith)
so_far_before (x ∷ s) (suc m) n zero a h = refl
so_far_before (x ∷ s) (suc m) n (suc k) a h = so_far_before s m n k (omega arith) (omega arith)

-- what is added to the groups after g is one more
module _ (added added' : List ℕ) (g groups : ℕ) (upto : (j : ℕ) → j ≤ g → get_or added' j 0 ≡ get_or added j 0) (later : (j : ℕ) → g < j → j < groups
    → get_or added' j 0 ≡ get_or added j 0 + 1) where
  -- in these groups all are one more
  after_group : (i : ℕ) (s : List ℕ) → 64 * (g + 1) ≤ i → i + length s ≤ 64 * groups → raised added' i s ≡ map (λ n. n + 1) (raised added i s)
  after_group i [] a b = refl
  after_group i (n ∷ s) a b =
      let head : n + get_or added' (i / 64) 0 ≡ n + get_or added (i / 64) 0 + 1 = omega (arith, later (i / 64) (omega arith) (omega arith)) in
      ap (λ (m : ℕ). m ∷ raised added' (suc i) s) head
      ∙ ap (λ (t : List ℕ). (n + get_or added (i / 64) 0 + 1) ∷ t) (after_group (suc i) s (omega arith) (omega arith))

  -- from an index of group g on, where its rest is counted up
  within_group : (i : ℕ) (s : List ℕ) (k : ℕ) → 64 * g ≤ i → i + k ≤ 64 * (g + 1) → (i + k ≡ 64 * (g + 1)) ⊎ (length s ≤ k) → i + length s ≤ 64 * groups
      → raised added' i (so_far s 0 k) ≡ map (λ n. n + 1) (raised added i s)
  within_group i [] zero a b c d = refl
  within_group i [] (suc k) a b c d = refl
  within_group i (n ∷ s) zero a b (inl e) d = after_group i (n ∷ s) (omega arith) d
  within_group i (n ∷ s) zero a b (inr e) d = absurd (omega arith)
  within_group i (n ∷ s) (suc k) a b c d =
      let head : n + 1 + get_or added' (i / 64) 0 ≡ n + get_or added (i / 64) 0 + 1 = omega (arith, upto (i / 64) (omega arith)) in
      ap (λ (m : ℕ). m ∷ raised added' (suc i) (so_far s 0 k)) head
      ∙ ap (λ (t : List ℕ). (n + get_or added (i / 64) 0 + 1) ∷ t) (within_group (suc i) s k (omega arith) (omega arith) (rest c) (omega arith))
    where
      rest : (i + suc k ≡ 64 * (g + 1)) ⊎ (length (n ∷ s) ≤ suc k) → (suc i + k ≡ 64 * (g + 1)) ⊎ (length s ≤ k)
      rest (inl e) = inl (omega arith)
      rest (inr e) = inr (omega arith)

  -- from an index before on
  from_index : (i : ℕ) (s : List ℕ) (m k : ℕ) → m < length s → 64 * g ≤ i + m → i + m + k ≤ 64 * (g + 1) → (i + m + k ≡ 64 * (g + 1)) ⊎ (length s ≤ m + k) → i
      + length s ≤ 64 * groups → raised added' i (so_far s m k) ≡ take m (raised added i s) ++ map (λ n. n + 1) (drop m (raised added i s))
  from_index i [] m k l a b c d = absurd (omega arith)
  from_index i (n ∷ s) zero k l a b c d = within_group i (n ∷ s) k (omega arith) (omega arith) (rest c) d
    where
      rest : (i + 0 + k ≡ 64 * (g + 1)) ⊎ (length (n ∷ s) ≤ 0 + k) → (i + k ≡ 64 * (g + 1)) ⊎ (length (n ∷ s) ≤ k)
      rest (inl e) = inl (omega arith)
      rest (inr e) = inr (omega arith)
  from_index i (n ∷ s) (suc m) k l a b c d =
      let head : n + get_or added' (i / 64) 0 ≡ n + get_or added (i / 64) 0 = omega (arith, upto (i / 64) (omega arith)) in
      ap (λ (x : ℕ). x ∷ raised added' (suc i) (so_far s m k)) head
      ∙ ap (λ (t : List ℕ). (n + get_or added (i / 64) 0) ∷ t) (from_index (suc i) s m k (omega arith) (omega arith) (omega arith) (rest c) (omega arith))
    where
      rest : (i + suc m + k ≡ 64 * (g + 1)) ⊎ (length (n ∷ s) ≤ suc m + k) → (suc i + m + k ≡ 64 * (g + 1)) ⊎ (length s ≤ m + k)
      rest (inl e) = inl (omega arith)
      rest (inr e) = inr (omega arith)

-- so the rest of a group and what is added to later ones count up all from an index on
pub raised-shifted : (added s : List ℕ) (from until : ℕ) → from < length s → length s ≤ 64 * length added → from ≤ until → until ≤ 64 * (from / 64 + 1)
    → (until ≡ 64 * (from / 64 + 1)) ⊎ (length s ≤ until)
    → raised (so_far added (from / 64 + 1) ((length s - 1) / 64 + 1 - (from / 64 + 1))) 0 (so_far s from (until - from)) ≡ take from (raised added 0 s)
    ++ map (λ n. n + 1) (drop from (raised added 0 s))
raised-shifted added s from until h grouped a b c =
    let g = from / 64 in
    let groups = (length s - 1) / 64 + 1 in
    let rest : (0 + from + (until - from) ≡ 64 * (g + 1)) ⊎ (length s ≤ from + (until - from)) =
    elim c [ inl e ↦ inl (omega arith) | inr e ↦ inr (omega arith) ] in
    from_index added (so_far added (g + 1) (groups - (g + 1))) g groups
    (λ j l. so_far_before added (g + 1) (groups - (g + 1)) j (omega arith) (omega arith))
    (λ j l m. so_far_at added (g + 1) (groups - (g + 1)) j (omega arith) (omega arith) (omega arith))
    0 s from (until - from) h (omega arith) (omega arith) rest (omega arith)

-- what fits with what is added fits without
module _ (added s : List ℕ) (fits : All (λ n. n + 1 < 18446744073709551616) (raised added 0 s)) where
  pub starts_fit : All (λ n. n + 1 < 18446744073709551616) s
  starts_fit k d h =
      let r = length-raised added 0 s in
      omega (arith, fits k 0 (omega arith), raised_at added 0 s k h, get_or_default s k d 0 h)

  pub groups_fit : length s ≤ 64 * length added → (g d : ℕ) → 64 * g < length s → get_or added g d + 1 < 18446744073709551616
  groups_fit grouped g d h =
      let r = length-raised added 0 s in
      let same : get_or added ((0 + 64 * g) / 64) 0 ≡ get_or added g d =
      ap (λ (m : ℕ). get_or added m 0) (omega arith) ∙ get_or_default added g 0 d (omega arith) in
      omega (arith, fits (64 * g) 0 (omega arith), raised_at added 0 s (64 * g) h, same)

-- a number to which nothing is added yet
pub not_yet : (added : List ℕ) (j : ℕ) (s : List ℕ) (i : ℕ) → i < length s → get_or (take i (raised added j s) ++ drop i s) i 0 ≡ get_or s i 0
not_yet added j [] i h = absurd (omega arith)
not_yet added j (n ∷ s) zero h = refl
not_yet added j (n ∷ s) (suc i) h = not_yet added (suc j) s i (omega arith)

-- all have it
pub all_added : (added : List ℕ) (j : ℕ) (s : List ℕ) (i : ℕ) → length s ≤ i → take i (raised added j s) ++ drop i s ≡ raised added j s
all_added added j [] zero h = refl
all_added added j [] (suc i) h = refl
all_added added j (n ∷ s) zero h = absurd (omega arith)
all_added added j (n ∷ s) (suc i) h = ap (λ (t : List ℕ). (n + get_or added (j / 64) 0) ∷ t) (all_added added (suc j) s i (omega arith))
