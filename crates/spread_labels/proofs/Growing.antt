-- The order that grows: what is placed next is beside what is placed, or nothing of its component is.
use Rattle.std.proofs.Common.{◌≡◌, ◌≤◌, ◌<◌, ◌+◌, ◌⊎◌, ℕ, zero, suc, List, [], ◌∷◌, inl}
use Rattle.std.proofs.Common.{inr, refl, sym, ap, subst, arith, Bool, true, false, cond, not, ◌==◌, length}
use Rattle.std.proofs.lemmas.Bool.{cases_eq, eqb-true, eq-eqb, ne_eqb}
use Rattle.std.specs.Prelude.{filter, Contains}
use Rattle.std.specs.List.{list_any}
use Rattle.smp_bytes.proofs.Members.{contains_here, contains_later, contains_cases, contains_none, contains_filter, contains-from_filter}
use Rattle.port_graph.specs.declared.edge.Edge.{Edge}
use Rattle.port_graph.specs.Walks.{Walk}
use Rattle.port_graph.specs.Heads.{edges_at, heads, LeadToVertices}
use Rattle.port_graph.proofs.Lists.{contains_map}
use Rattle.port_graph.proofs.WalkLemmas.{list_any_found, list_any_at}
use Rattle.port_graph.proofs.Counts.{filtered_less}
use Rattle.spread_labels.specs.Orders.{Beside, numbers_from, earliest, is_beside, choose}
use Rattle.spread_labels.specs.Orders.{next_placed, without, grown_behind, order, at_position, IsGrownOrder}

pub earliest_there : (before : ℕ → ℕ → Bool) (ys : List ℕ) (x : ℕ) → Contains (x ∷ ys) (earliest before x ys)
earliest_there before [] x = contains_here x []
earliest_there before (y ∷ ys) x =
    elim (before y x) as (λ b. Contains (x ∷ y ∷ ys) (earliest before (cond b y x) ys)) [
      | true ↦ contains_later x (earliest before y ys) (y ∷ ys) (earliest_there before ys y)
      | false ↦ (elim (contains_cases x (earliest before x ys) ys (earliest_there before ys x)) [
        | inl e ↦ subst (λ (z : ℕ). Contains (x ∷ y ∷ ys) z) e (contains_here x (y ∷ ys))
        | inr k ↦ contains_later x (earliest before x ys) (y ∷ ys) (contains_later y (earliest before x ys) ys k)
      ])
    ]

module _ (edges : List (List Edge)) where
  pub beside : (placed : List ℕ) (s : ℕ) → is_beside edges placed s ≡ true → Beside edges placed s
  beside placed s q =
      let f = list_any_found (λ (e : Edge). list_any (λ p. p == e.to) placed) (edges_at edges s) q in
      let g = list_any_found (λ p. p == f.0.to) placed f.2 in
      (f.0, f.1, subst (λ (x : ℕ). Contains placed x) (eqb-true g.0 f.0.to g.2) g.1)

  is_it : (placed : List ℕ) (s c : ℕ) → Contains (heads edges s) c → Contains placed c → is_beside edges placed s ≡ true
  is_it placed s c h k =
      let x = contains_map (λ (y : Edge). y.to) (edges_at edges s) c h in
      list_any_at (λ (e : Edge). list_any (λ p. p == e.to) placed) (edges_at edges s) x.0 x.1
      (list_any_at (λ p. p == x.0.to) placed c k (eq-eqb c x.0.to (sym x.2)))

  -- what is placed and what is left
  pub record Parts (placed rest : List ℕ) : Type 0 where
    pub whole : (s : ℕ) → s < length edges → Contains placed s ⊎ Contains rest s
    pub apart : (s : ℕ) → Contains rest s → Contains placed s → ⊥
    pub within : (s : ℕ) → Contains rest s → s < length edges

  -- what is placed next
  pub record IsNext (placed : List ℕ) (s : ℕ) : Type 0 where
    pub fresh : Contains placed s → ⊥
    pub grown : (b n : ℕ) → Contains placed b → Walk (heads edges) s b n → Beside edges placed s

  abbrev pub AreNext : List ℕ → List ℕ → Type 0
  AreNext placed [] = Unit {0}
  AreNext placed (s ∷ ss) = IsNext placed s × AreNext (s ∷ placed) ss

  module _ (lead : LeadToVertices edges) where
    -- where none left is beside one placed, no walk leads from one to the other
    no_walk : (placed rest : List ℕ) → Parts placed rest → ((x : ℕ) → Contains rest x → is_beside edges placed x ≡ true → ⊥)
        → (n s b : ℕ) → Contains rest s → Contains placed b → Walk (heads edges) s b n → ⊥
    no_walk placed rest parts none zero s b h k w = parts.apart s h (subst (λ (x : ℕ). Contains placed x) (sym w) k)
    no_walk placed rest parts none (suc n) s b h k (c, j, w) =
        let x = contains_map (λ (y : Edge). y.to) (edges_at edges s) c j in
        let below : c < length edges = subst (λ (y : ℕ). y < length edges) x.2 (lead s x.0 x.1) in
        elim (parts.whole c below) [
          | inl p ↦ none s h (is_it placed s c j p)
          | inr r ↦ no_walk placed rest parts none n c b r k w
        ]

    module _ (before : ℕ → ℕ → Bool) where
      chosen : (placed : List ℕ) (x : ℕ) (rest : List ℕ) → Parts placed (x ∷ rest) → (front : List ℕ) → filter (is_beside edges placed) (x ∷ rest) ≡ front
          → Contains (x ∷ rest) (choose before x rest front) × ((b n : ℕ) → Contains placed b → Walk (heads edges) (choose before x rest front) b n
          → Beside edges placed (choose before x rest front))
      chosen placed x rest parts [] e = (
        earliest_there before rest x,
        λ b n k w. absurd (no_walk placed (x ∷ rest) parts none n (earliest before x rest) b (earliest_there before rest x) k w),
      )
        where
          none : (y : ℕ) → Contains (x ∷ rest) y → is_beside edges placed y ≡ true → ⊥
          none y h q = contains_none y (subst (λ (ys : List ℕ). Contains ys y) e (contains_filter (is_beside edges placed) (x ∷ rest) y h q))
      chosen placed x rest parts (y ∷ ys) e =
          let there = subst (λ (zs : List ℕ). Contains zs (earliest before y ys)) (sym e) (earliest_there before ys y) in
          let f = contains-from_filter (is_beside edges placed) (x ∷ rest) (earliest before y ys) there in
          (f.0, λ b n k w. beside placed (earliest before y ys) f.1)

      pub next_is : (placed : List ℕ) (x : ℕ) (rest : List ℕ) → Parts placed (x ∷ rest)
          → Contains (x ∷ rest) (next_placed edges before placed x rest) × IsNext placed (next_placed edges before placed x rest)
      next_is placed x rest parts =
          let c = chosen placed x rest parts (filter (is_beside edges placed) (x ∷ rest)) refl in
          (c.0, record { fresh = parts.apart (next_placed edges before placed x rest) c.0; grown = c.1 })

      differs : (s y : ℕ) → (y ≡ s → ⊥) → not (y == s) ≡ true
      differs s y apart = ap not (ne_eqb y s apart)

      differ : (s y : ℕ) → not (y == s) ≡ true → y ≡ s → ⊥
      differ s y q same = let e = eq-eqb y s same in cc

      pub moved : (placed rest : List ℕ) (s : ℕ) → Parts placed rest → Contains rest s → Parts (s ∷ placed) (without s rest)
      moved placed rest s parts there = record {
        whole = λ y h. (elim (parts.whole y h) [
          | inl p ↦ inl (contains_later s y placed p)
          | inr r ↦ (elim (cases_eq y s) [
            | inl same ↦ inl (subst (λ (z : ℕ). Contains (s ∷ placed) z) (sym same) (contains_here s placed))
            | inr other ↦ inr (contains_filter (λ x. not (x == s)) rest y r (differs s y other))
          ])
        ]);
        apart = λ y h k. (let f = contains-from_filter (λ x. not (x == s)) rest y h in elim (contains_cases s y placed k) [
          | inl same ↦ differ s y f.1 (sym same)
          | inr p ↦ parts.apart y f.0 p
        ]);
        within = λ y h. parts.within y (contains-from_filter (λ x. not (x == s)) rest y h).0;
      }

      fewer : (s : ℕ) (xs : List ℕ) → Contains xs s → length (without s xs) < length xs
      fewer s xs h = subst (λ (n : ℕ). length (without s xs) < n) (all_pass xs)
          (filtered_less (λ x. not (x == s)) (λ x. true) (λ x e. refl) xs s h (ap not (eq-eqb s s refl)) refl)
        where
          all_pass : (xs : List ℕ) → length (filter (λ x. true) xs) ≡ length xs
          all_pass [] = refl
          all_pass (x ∷ xs) = ap suc (all_pass xs)

      pub are_next : (n : ℕ) (placed rest : List ℕ) → Parts placed rest → AreNext placed (grown_behind edges before n placed rest)
      are_next zero placed rest parts = tt
      are_next (suc n) placed [] parts = tt
      are_next (suc n) placed (x ∷ rest) parts =
          let s = next_placed edges before placed x rest in
          let i = next_is placed x rest parts in
          (i.1, are_next n (s ∷ placed) (without s (x ∷ rest)) (moved placed (x ∷ rest) s parts i.0))

      -- all that are left are placed, and no others
      pub all_placed : (n : ℕ) (placed rest : List ℕ) → Parts placed rest → length rest ≤ n → (y : ℕ) → Contains rest y
          → Contains (grown_behind edges before n placed rest) y
      all_placed zero placed [] parts l y h = h
      all_placed zero placed (x ∷ rest) parts l y h = absurd (omega arith)
      all_placed (suc n) placed [] parts l y h = absurd (contains_none y h)
      all_placed (suc n) placed (x ∷ rest) parts l y h =
          let s = next_placed edges before placed x rest in
          let i = next_is placed x rest parts in
          let f = fewer s (x ∷ rest) i.0 in
          let more = grown_behind edges before n (s ∷ placed) (without s (x ∷ rest)) in
          elim (cases_eq y s) [
            | inl same ↦ subst (λ (z : ℕ). Contains (s ∷ more) z) (sym same) (contains_here s more)
            | inr other ↦
                contains_later s y more
                (all_placed n (s ∷ placed) (without s (x ∷ rest)) (moved placed (x ∷ rest) s parts i.0) (omega arith) y
                (contains_filter (λ z. not (z == s)) (x ∷ rest) y h (differs s y other)))
          ]

      pub no_others : (n : ℕ) (placed rest : List ℕ) → Parts placed rest → (y : ℕ) → Contains (grown_behind edges before n placed rest) y → Contains rest y
      no_others zero placed rest parts y h = absurd (contains_none y h)
      no_others (suc n) placed [] parts y h = h
      no_others (suc n) placed (x ∷ rest) parts y h =
          let s = next_placed edges before placed x rest in
          let i = next_is placed x rest parts in
          let more = grown_behind edges before n (s ∷ placed) (without s (x ∷ rest)) in
          elim (contains_cases s y more h) [
            | inl same ↦ subst (λ (z : ℕ). Contains (x ∷ rest) z) same i.0
            | inr k ↦
                (contains-from_filter (λ z. not (z == s)) (x ∷ rest) y
                (no_others n (s ∷ placed) (without s (x ∷ rest)) (moved placed (x ∷ rest) s parts i.0) y k)).0
          ]

  -- the same by positions
  abbrev Placed : List ℕ → List ℕ → ℕ → ℕ → Type 0
  Placed placed vertices i b = Contains placed b ⊎ ((j : ℕ) × (j < i) × (at_position vertices j ≡ b))

  pub record NextAt (placed vertices : List ℕ) (i : ℕ) : Type 0 where
    pub fresh : Contains placed (at_position vertices i) → ⊥
    pub once : (j : ℕ) → j < i → at_position vertices j ≡ at_position vertices i → ⊥
    pub grown : (b n : ℕ) → Placed placed vertices i b → Walk (heads edges) (at_position vertices i) b n
        → (e : Edge) × Contains (edges_at edges (at_position vertices i)) e × Placed placed vertices i e.to

  pub next_at : (vertices placed : List ℕ) → AreNext placed vertices → (i : ℕ) → i < length vertices → NextAt placed vertices i
  next_at [] placed are i h = absurd (omega arith)
  next_at (s ∷ ss) placed are zero h = record {
    fresh = are.0.fresh;
    once = λ j l e. absurd (omega arith);
    grown = λ b n p w. (elim p [
      | inl k ↦ let g = are.0.grown b n k w in (g.0, g.1, inl g.2)
      | inr k ↦ absurd (omega (arith, k.1))
    ]);
  }
  next_at (s ∷ ss) placed are (suc i) h =
      let r = next_at ss (s ∷ placed) are.1 i (omega arith) in
      record {
        fresh = λ k. r.fresh (contains_later s (at_position ss i) placed k);
        once = once r;
        grown = λ b n p w. (let g = r.grown b n (into b p) w in (g.0, g.1, back g.0.to g.2));
      }
    where
      once : NextAt (s ∷ placed) ss i → (j : ℕ) → j < suc i → at_position (s ∷ ss) j ≡ at_position ss i → ⊥
      once r zero l e = r.fresh (subst (λ (z : ℕ). Contains (s ∷ placed) z) e (contains_here s placed))
      once r (suc j) l e = r.once j (omega arith) e

      into : (b : ℕ) → Placed placed (s ∷ ss) (suc i) b → Placed (s ∷ placed) ss i b
      into b (inl k) = inl (contains_later s b placed k)
      into b (inr (zero, l, e)) = inl (subst (λ (z : ℕ). Contains (s ∷ placed) z) e (contains_here s placed))
      into b (inr (suc j, l, e)) = inr (j, omega arith, e)

      back : (b : ℕ) → Placed (s ∷ placed) ss i b → Placed placed (s ∷ ss) (suc i) b
      back b (inl k) =
          elim (contains_cases s b placed k) [
            | inl e ↦ inr (0, omega arith, e)
            | inr q ↦ inl q
          ]
      back b (inr (j, l, e)) = inr (suc j, omega arith, e)

pub numbers_there : (n k x : ℕ) → k ≤ x → x < k + n → Contains (numbers_from k n) x
numbers_there zero k x l h = absurd (omega arith)
numbers_there (suc n) k x l h =
    elim (cases_eq k x) [
      | inl same ↦ subst (λ (z : ℕ). Contains (k ∷ numbers_from (suc k) n) z) same (contains_here k (numbers_from (suc k) n))
      | inr other ↦
          let above : suc k ≤ x = grind arith in
          contains_later k x (numbers_from (suc k) n) (numbers_there n (suc k) x above (omega arith))
    ]

pub numbers_below : (n k x : ℕ) → Contains (numbers_from k n) x → x < k + n
numbers_below zero k x h = absurd (contains_none x h)
numbers_below (suc n) k x h =
    elim (contains_cases k x (numbers_from (suc k) n) h) [
      | inl same ↦ omega arith
      | inr r ↦ omega (arith, numbers_below n (suc k) x r)
    ]

all_numbers : (n k : ℕ) → length (numbers_from k n) ≡ n
all_numbers zero k = refl
all_numbers (suc n) k = ap suc (all_numbers n (suc k))

pub contains_at : (vertices : List ℕ) (i : ℕ) → i < length vertices → Contains vertices (at_position vertices i)
contains_at [] i h = absurd (omega arith)
contains_at (s ∷ ss) zero h = contains_here s ss
contains_at (s ∷ ss) (suc i) h = contains_later s (at_position ss i) ss (contains_at ss i (omega arith))

module _ (edges : List (List Edge)) (lead : LeadToVertices edges) (before : ℕ → ℕ → Bool) where
  pub at_first : Parts edges [] (numbers_from 0 (length edges))
  at_first = record {
    whole = λ s h. inr (numbers_there (length edges) 0 s (omega arith) (omega arith));
    apart = λ s h k. contains_none s k;
    within = λ s h. omega (arith, numbers_below (length edges) 0 s h);
  }

  by_index : (i : ℕ) → i < length (order edges before) → NextAt edges [] (order edges before) i
  by_index i h = next_at edges (order edges before) [] (are_next edges lead before (length edges) [] (numbers_from 0 (length edges)) at_first) i h

  pub is_grown_order : IsGrownOrder edges (order edges before)
  is_grown_order = record {
    all = λ s h.
        all_placed edges lead before (length edges) [] (numbers_from 0 (length edges)) at_first (omega (arith, all_numbers (length edges) 0)) s
        (numbers_there (length edges) 0 s (omega arith) (omega arith));
    vertex = λ i h.
        at_first.within (at_position (order edges before) i)
        (no_others edges lead before (length edges) [] (numbers_from 0 (length edges)) at_first (at_position (order edges before) i)
        (contains_at (order edges before) i h));
    once = λ i j h l. (by_index i h).once j l;
    grown = λ i j n h l w.
        let g = (by_index i h).grown (at_position (order edges before) j) n (inr (j, l, refl)) w in
        (g.0, g.1, (elim g.2 [ inl k ↦ absurd (contains_none g.0.to k) | inr k ↦ k ]));
  }
