-- Which targets are near, round by round.
use Rattle.std.proofs.Common.{◌≡◌, ◌≢◌, ◌<◌, ◌≤◌, ◌+◌, ◌-◌, ◌++◌, ℕ, zero, suc, List, [], ◌∷◌, inl, inr, refl}
use Rattle.std.proofs.Common.{sym, ap, ◌∙◌, arith, true, false, Bool, cond, ◌||◌, ◌==◌, length, map}
use Rattle.std.proofs.Common.{add-one, drop, get_or}
use Rattle.std.proofs.Math.Seq.{drop-cons}
use Rattle.std.proofs.lemmas.Bool.{cases_eq, eq-eqb, eqb-true}
use Rattle.std.proofs.lemmas.List.{get_or_append_left, get_or-append_right, get_or-set_other, get_or-set_same, length-append, length-set}
use Rattle.std.specs.Prelude.{Contains, Option, None, Some, is_some, slice_index, slice_set}
use Rattle.std.specs.Option.{option_or}
use Rattle.std.specs.List.{list_any}
use Rattle.smp_bytes.proofs.Members.{contains_here, contains_later}
use Rattle.port_graph.specs.declared.edge.Edge.{Edge}
use Rattle.port_graph.specs.Heads.{edges_at, heads, LeadToVertices}
use Rattle.port_graph.specs.Walks.{has_walk, least_from, shortest}
use Rattle.trial_loads.specs.NearTargets.{AreFurther, AreNear, AreThere, has_target, is_near, is_near_any}

-- tests of lists --------------------------------------------------------------------------------

any_none : {X : Type 0} (xs : List X) → false ≡ list_any (λ x. false) xs
any_none [] = refl
any_none (x ∷ xs) = any_none xs

any_or : {X : Type 0} (p q : X → Bool) (xs : List X) → (list_any p xs || list_any q xs) ≡ list_any (λ x. p x || q x) xs
any_or p q [] = refl
any_or p q (x ∷ xs) = by (p x) (q x) (list_any p xs) (list_any q xs) ∙ ap (λ b. (p x || q x) || b) (any_or p q xs)
  where
    by : (a b c d : Bool) → ((a || c) || (b || d)) ≡ ((a || b) || (c || d))
    by true b c d = refl
    by false true true d = refl
    by false true false d = refl
    by false false true d = refl
    by false false false d = refl

any_same : {X : Type 0} (p q : X → Bool) (xs : List X) → ((x : X) → Contains xs x → p x ≡ q x) → list_any p xs ≡ list_any q xs
any_same p q [] same = refl
any_same p q (x ∷ xs) same = (λ i. same x (contains_here x xs) i || any_same p q xs (λ y h. same y (contains_later x y xs h)) i)

any_map : {X Y : Type 0} (p : Y → Bool) (f : X → Y) (xs : List X) → list_any p (map f xs) ≡ list_any (λ x. p (f x)) xs
any_map p f [] = refl
any_map p f (x ∷ xs) = ap (λ b. p (f x) || b) (any_map p f xs)

or_assoc : (a b c : Bool) → ((a || b) || c) ≡ (a || (b || c))
or_assoc true b c = refl
or_assoc false b c = refl

-- one element more that was looked at
pub any_next : {X : Type 0} (p : X → Bool) (xs : List X) (i : ℕ) (x : X) (found : Bool) → i < length xs → x ≡ get_or xs i x
    → ((found || p x) || list_any p (drop (i + 1) xs)) ≡ (found || list_any p (drop i xs))
any_next p xs i x found h is =
    let rest : drop i xs ≡ x ∷ drop (i + 1) xs = drop-cons xs i x h ∙ (λ j. sym is j ∷ drop (sym (add-one i) j) xs) in
    or_assoc found (p x) (list_any p (drop (i + 1) xs)) ∙ ap (λ b. found || b) (sym (ap (list_any p) rest))

-- the least number that passes, below one bound more --------------------------------------------

some_first : (n more : ℕ) (test : ℕ → Bool) → is_some (least_from n (suc more) test) ≡ (test n || is_some (least_from (suc n) more test))
some_first n more test =
    elim (test n) as (λ b. is_some (cond b (Some n) (least_from (suc n) more test)) ≡ (b || is_some (least_from (suc n) more test))) [
      | true ↦ refl
      | false ↦ refl
    ]

pub least_last : (n more : ℕ) (test : ℕ → Bool)
    → least_from n (suc more) test ≡ option_or (least_from n more test) (cond (test (n + more)) (Some (n + more)) None)
least_last n zero test =
    let is : n ≡ n + zero = omega arith in ap (λ k. cond (test k) (Some k) None) is
least_last n (suc more) test =
    let is : suc n + more ≡ n + suc more = omega arith in
    elim (test n) as (λ b. cond b (Some n) (least_from (suc n) (suc more) test)
    ≡ option_or (cond b (Some n) (least_from (suc n) more test)) (cond (test (n + suc more)) (Some (n + suc more)) None)) [
      | true ↦ refl
      | false ↦ least_last (suc n) more test
          ∙ ap (λ k. option_or (least_from (suc n) more test) (cond (test k) (Some k) None)) is
    ]

some_last : (n more : ℕ) (test : ℕ → Bool) → is_some (least_from n (suc more) test) ≡ (is_some (least_from n more test) || test (n + more))
some_last n more test = ap is_some (least_last n more test) ∙ by (least_from n more test) (test (n + more)) (n + more)
  where
    by : (o : Option ℕ) (b : Bool) (k : ℕ) → is_some (option_or o (cond b (Some k) None)) ≡ (is_some o || b)
    by None true k = refl
    by None false k = refl
    by (Some d) b k = refl

-- a walk with an edge, by its first edge --------------------------------------------------------

module _ (next : ℕ → List ℕ) (a b : ℕ) where
  some_after : (n more : ℕ) → is_some (least_from (suc n) more (has_walk next a b)) ≡ list_any (λ c. is_some (least_from n more (has_walk next c b))) (next a)
  some_after n zero = any_none (next a)
  some_after n (suc more) =
      some_first (suc n) more (has_walk next a b)
      ∙ ap (λ t. list_any (λ c. has_walk next c b n) (next a) || t) (some_after (suc n) more)
      ∙ any_or (λ c. has_walk next c b n) (λ c. is_some (least_from (suc n) more (has_walk next c b))) (next a)
      ∙ any_same (λ c. has_walk next c b n || is_some (least_from (suc n) more (has_walk next c b)))
      (λ c. is_some (least_from n (suc more) (has_walk next c b))) (next a) (λ c h. sym (some_first n more (has_walk next c b)))

  near_by_first : (bound : ℕ) → is_some (shortest next (suc bound) a b) ≡ ((a == b) || list_any (λ c. is_some (shortest next bound c b)) (next a))
  near_by_first bound = some_first 0 bound (has_walk next a b) ∙ ap (λ t. (a == b) || t) (some_after 0 bound)

-- near vertices ---------------------------------------------------------------------------------

module _ (edges : List (List Edge)) (t : ℕ) where
  abbrev near : ℕ → ℕ → Bool
  near bound s = is_near edges bound s t

  near_step : (bound s : ℕ) → near (suc bound) s ≡ ((s == t) || list_any (λ e. near bound e.to) (edges_at edges s))
  near_step bound s = near_by_first (heads edges) s t bound ∙ ap (λ b. (s == t) || b) (any_map (near bound) (λ (e : Edge). e.to) (edges_at edges s))

  -- the targets of a vertex and of those that its edges lead to are those that are near by an edge more
  near_more : (bound s : ℕ) → near (suc (suc bound)) s ≡ (near (suc bound) s || list_any (λ e. near (suc bound) e.to) (edges_at edges s))
  near_more bound s =
      near_step (suc bound) s
      ∙ by (s == t) (list_any (λ e. near (suc bound) e.to) (edges_at edges s)) (near (suc bound) s) (has_walk (heads edges) s t (suc bound))
      (list_any (λ e. near bound e.to) (edges_at edges s)) (sym (near_step (suc bound) s) ∙ walks) (near_step bound s)
    where
      walks : near (suc (suc bound)) s ≡ (near (suc bound) s || has_walk (heads edges) s t (suc bound))
      walks = let is : 0 + suc bound ≡ suc bound = omega arith in
          some_last 0 (suc bound) (has_walk (heads edges) s t) ∙ ap (λ k. near (suc bound) s || has_walk (heads edges) s t k) is

      by : (e q p u r : Bool) → (e || q) ≡ (p || u) → p ≡ (e || r) → (e || q) ≡ (p || q)
      by e q true u r one other = one
      by true q false u r one other = absurd (cc)
      by false q false u r one other = refl

  -- once no vertex has more targets, all stays
  module _ (lead : LeadToVertices edges) (bound : ℕ)
      (same : (s : ℕ) → s < length edges → near (suc bound) s ≡ near bound s) where
    near_still : (more s : ℕ) → s < length edges → near (more + bound) s ≡ near bound s
    near_still zero s h = let is : zero + bound ≡ bound = omega arith in ap (λ n. near n s) is
    near_still (suc more) s h =
        let is : suc more + bound ≡ suc (more + bound) = omega arith in
        ap (λ n. near n s) is ∙ near_step (more + bound) s
        ∙ ap (λ b. (s == t) || b)
        (any_same (λ e. near (more + bound) e.to) (λ e. near bound e.to) (edges_at edges s) (λ e c. near_still more e.to (lead s e c)))
        ∙ sym (near_step bound s) ∙ same s h

    shortest_still : (more s : ℕ) → s < length edges → shortest (heads edges) (more + bound) s t ≡ shortest (heads edges) bound s t
    shortest_still zero s h = let is : zero + bound ≡ bound = omega arith in ap (λ n. shortest (heads edges) n s t) is
    shortest_still (suc more) s h =
        let is : suc more + bound ≡ suc (more + bound) = omega arith in
        let k = more + bound in
        ap (λ n. shortest (heads edges) n s t) is
        ∙ least_last 0 k (has_walk (heads edges) s t)
        ∙ by (shortest (heads edges) k s t) (has_walk (heads edges) s t (0 + k)) (0 + k)
        (sym (ap is_some (least_last 0 k (has_walk (heads edges) s t))) ∙ sym (ap (λ n. near n s) is) ∙ near_still (suc more) s h ∙ sym (near_still more s h))
        ∙ shortest_still more s h
      where
        by : (o : Option ℕ) (b : Bool) (k : ℕ) → is_some (option_or o (cond b (Some k) None)) ≡ is_some o → option_or o (cond b (Some k) None) ≡ o
        by None true k e = absurd (cc)
        by None false k e = refl
        by (Some d) b k e = refl

    pub shortest_ended : (n s : ℕ) → bound ≤ n → s < length edges → shortest (heads edges) n s t ≡ shortest (heads edges) bound s t
    shortest_ended n s h l =
        let rest = shortest_still (n - bound) s l in
        let is : n ≡ n - bound + bound = omega arith in
        ap (λ k. shortest (heads edges) k s t) is ∙ rest

-- sets ------------------------------------------------------------------------------------------

-- before the first edge
pub near_there : (edges : List (List Edge)) (targets sets : List ℕ) → AreThere (length edges) targets (length targets) sets → AreNear edges targets 1 sets
near_there edges targets sets there = record {
  all = there.all;
  each = λ k s h l. there.each k s h l ∙ by (s == slice_index targets k);
}
  where
    by : (b : Bool) → b ≡ is_some {T = ℕ} (cond b (Some 0) None)
    by true = refl
    by false = refl

apart : (a b : ℕ) → a ≢ b → (a == b) ≡ false
apart a b other = elim (a == b) as (λ r. (a == b) ≡ r → r ≡ false) [ true ↦ λ e. absurd (other (eqb-true a b e)) | false ↦ λ e. refl ] refl

-- no vertex has a target that is left
abbrev pub AreLeft : ℕ → ℕ → List ℕ → Type 0
AreLeft count n sets = (k s : ℕ) → n ≤ k → s < count → has_target (slice_index sets s) k ≡ false

-- the target with the next index
module _ (count : ℕ) (targets sets : List ℕ) (n t set : ℕ) (is : t ≡ slice_index targets n) (within : t < count)
    (with : (j : ℕ) → has_target set j ≡ ((j == n) || has_target (slice_index sets t) j)) (so : AreThere count targets n sets)
    (left : AreLeft count n sets) where
  abbrev next : List ℕ
  next = slice_set sets t set

  at_other : (k s : ℕ) → s ≢ t → has_target (slice_index next s) k ≡ has_target (slice_index sets s) k
  at_other k s other = ap (λ x. has_target x k) (get_or-set_other sets t s set 0 other)

  at_target : (k : ℕ) → has_target (slice_index next t) k ≡ ((k == n) || has_target (slice_index sets t) k)
  at_target k = ap (λ x. has_target x k) (get_or-set_same sets t set 0 (omega (arith, so.all))) ∙ with k

  it_has : (k : ℕ) → k < n + 1 → has_target (slice_index next t) k ≡ (t == slice_index targets k)
  it_has k h =
      at_target k
      ∙ (elim (cases_eq k n) [
        | inl same ↦ ap (λ b. b || has_target (slice_index sets t) k) (eq-eqb k n same)
            ∙ sym (eq-eqb t (slice_index targets k) (is ∙ sym (ap (slice_index targets) same)))
        | inr other ↦ (let below : k < n = grind arith in
            ap (λ b. b || has_target (slice_index sets t) k) (apart k n other) ∙ so.each k t below within)
      ])

  other_has : (k s : ℕ) → k < n + 1 → s < count → s ≢ t → has_target (slice_index next s) k ≡ (s == slice_index targets k)
  other_has k s h l apart_from =
      at_other k s apart_from
      ∙ (elim (cases_eq k n) [
        | inl same ↦ left k s (omega (arith, same)) l
            ∙ sym (apart s (slice_index targets k) (λ e. apart_from (e ∙ ap (slice_index targets) same ∙ sym is)))
        | inr other ↦ (let below : k < n = grind arith in so.each k s below l)
      ])

  pub there_more : AreThere count targets (n + 1) next
  there_more = record {
    all = length-set sets t set ∙ so.all;
    each = λ k s h l. elim (cases_eq s t) [
      | inl same ↦ ap (λ x. has_target (slice_index next x) k) same ∙ it_has k h ∙ ap (λ x. x == slice_index targets k) (sym same)
      | inr other ↦ other_has k s h l other
    ];
  }

  pub left_more : AreLeft count (n + 1) next
  left_more k s h l =
      elim (cases_eq s t) [
        | inl same ↦ ap (λ x. has_target (slice_index next x) k) same ∙ at_target k
            ∙ (λ i. apart k n (λ e. absurd (omega (arith, h, e))) i || left k t (omega (arith, h)) within i)
        | inr other ↦ at_other k s other ∙ left k s (omega (arith, h)) l
      ]

-- a vertex more
pub further_more : (edges : List (List Edge)) (near : List ℕ) (v : ℕ) (next : List ℕ) (set : ℕ) → AreFurther edges near v next
    → ((k : ℕ) → has_target set k ≡ (has_target (slice_index near v) k || is_near_any near (edges_at edges v) k))
    → AreFurther edges near (v + 1) (next ++ set ∷ [])
further_more edges near v next set so here = record {
  all = length-append next (set ∷ []) ∙ ap (λ n. n + 1) so.all;
  each = λ k s h. elim (cases_eq s v) [
    | inl same ↦ ap (λ x. has_target (slice_index (next ++ set ∷ []) x) k) same ∙ ap (λ x. has_target x k) last ∙ here k
        ∙ ap (λ x. has_target (slice_index near x) k || is_near_any near (edges_at edges x) k) (sym same)
    | inr other ↦
        let below : s < v = grind arith in
        ap (λ x. has_target x k) (get_or_append_left next (set ∷ []) 0 s (omega (arith, so.all))) ∙ so.each k s below
  ];
}
  where
    last : slice_index (next ++ set ∷ []) v ≡ set
    last = get_or-append_right next (set ∷ []) v v 0 so.all (omega arith) ∙ ap (λ k. slice_index (set ∷ []) k) (none v)
      where
        none : (n : ℕ) → n - n ≡ 0
        none n = omega arith

-- an edge more
pub near_further : (edges : List (List Edge)) (lead : LeadToVertices edges) (targets : List ℕ) (d : ℕ) (near next : List ℕ) → 0 < d
    → AreNear edges targets d near → AreFurther edges near (length edges) next → AreNear edges targets (suc d) next
near_further edges lead targets zero near next some are further = absurd (omega (arith, some))
near_further edges lead targets (suc d) near next some are further = record {
  all = further.all;
  each = λ k s h l.
      let t = slice_index targets k in
      further.each k s l
      ∙ (λ i. are.each k s h l i
      || any_same (λ (e : Edge). has_target (slice_index near e.to) k) (λ e. is_near edges (suc d) e.to t) (edges_at edges s)
      (λ e c. are.each k e.to h (lead s e c)) i)
      ∙ sym (near_more edges t d s);
}
