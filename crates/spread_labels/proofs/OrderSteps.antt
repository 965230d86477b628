-- Vertex by vertex, as the code grows the order.
use Rattle.std.proofs.Common.{◌≡◌, ◌<◌, ◌&&◌, ◌||◌, ◌==◌, not, ℕ, zero, suc, List, [], ◌∷◌, ◌++◌}
use Rattle.std.proofs.Common.{refl, sym, ap, ◌∙◌, subst, arith, inl, inr, true, false, Bool, cond, length, append_assoc, replicate}
use Rattle.std.proofs.lemmas.Bool.{cases_eq, eqb-true, eq-eqb}
use Rattle.std.proofs.lemmas.Option.{same_Some}
use Rattle.std.proofs.lemmas.List.{get_or-replicate, get_or-set_same, get_or-set_other, length-replicate, length-set}
use Rattle.std.specs.Prelude.{None, Some, Contains, filter, slice_set}
use Rattle.std.specs.List.{list_any}
use Rattle.smp_bytes.proofs.Members.{contains_here, contains_later, contains_none, contains_filter}
use Rattle.port_graph.specs.declared.edge.Edge.{Edge}
use Rattle.port_graph.specs.Heads.{edges_at, heads, LeadToVertices}
use Rattle.port_graph.proofs.Lists.{contains_map, contains_mapped}
use Rattle.port_graph.proofs.WalkLemmas.{list_any_at, list_any_found}
use Rattle.spread_labels.specs.declared.growth.Stage.{Stage}
use Rattle.spread_labels.specs.declared.growth.Stage.TheVariants.{Left, Beside, Placed}
use Rattle.spread_labels.specs.LabelLaws.{IsSymmetric}
use Rattle.spread_labels.specs.Orders.{choose, grown_behind, is_beside, next_placed, numbers_from, order, without}
use Rattle.spread_labels.specs.Growth.{beside, beside_all, earliest_of, first_of, is_stage, next_at, after_add_vertex, stage_at}
use Rattle.spread_labels.proofs.Growing.{numbers_below}
use Rattle.spread_labels.proofs.Tests.{same_filter}

filter_twice : {X : Type 0} (p q : X → Bool) (xs : List X) → filter p (filter q xs) ≡ filter (λ x. q x && p x) xs
filter_twice p q [] = refl
filter_twice p q (x ∷ xs) =
    elim (q x) as (λ b. filter p (cond b (x ∷ filter q xs) (filter q xs)) ≡ cond (b && p x) (x ∷ filter (λ y. q y && p y) xs) (filter (λ y. q y && p y) xs)) [
      | true ↦ (λ i. cond (p x) (x ∷ filter_twice p q xs i) (filter_twice p q xs i))
      | false ↦ filter_twice p q xs
    ]

none_left : {X : Type 0} (p : X → Bool) (xs : List X) → filter p xs ≡ [] → (x : X) → Contains xs x → p x ≡ false
none_left p xs none x h =
    elim (p x) as (λ b. p x ≡ b → b ≡ false) [
      | true ↦ λ e. let c = subst (λ (ys : List _). Contains ys x) none (contains_filter p xs x h e) in absurd (contains_none x c)
      | false ↦ λ e. refl
    ] refl

-- a stage after a vertex was placed -----------------------------------------------------------

-- it was left, and is beside now
abbrev touched : Bool → Stage → Stage
touched b Left = cond b Beside Left
touched b Beside = Beside
touched b Placed = Placed

untouched : (st : Stage) → touched false st ≡ st
untouched Left = refl
untouched Beside = refl
untouched Placed = refl

touched_twice : (a b : Bool) (st : Stage) → touched a (touched b st) ≡ touched (b || a) st
touched_twice a true Left = refl
touched_twice a false Left = refl
touched_twice a b Beside = refl
touched_twice a b Placed = refl

still_placed : (b : Bool) (st : Stage) → is_stage (touched b st) Placed ≡ is_stage st Placed
still_placed true Left = refl
still_placed false Left = refl
still_placed b Beside = refl
still_placed b Placed = refl

now_beside : (b : Bool) (st : Stage) → is_stage st Placed ≡ false → is_stage (touched b st) Beside ≡ (is_stage st Beside || b)
now_beside true Left h = refl
now_beside false Left h = refl
now_beside b Beside h = refl
now_beside b Placed h = absurd (cc)

beside_itself : (stages : List Stage) (v : ℕ) (st : Stage) → v < length stages → stage_at stages v ≡ st → stage_at (beside stages v) v ≡ touched true st
beside_itself stages v Left h is = ap (λ x. stage_at (cond (is_stage x Left) (slice_set stages v Beside) stages) v) is ∙ get_or-set_same stages v Beside Left h
beside_itself stages v Beside h is = ap (λ x. stage_at (cond (is_stage x Left) (slice_set stages v Beside) stages) v) is ∙ is
beside_itself stages v Placed h is = ap (λ x. stage_at (cond (is_stage x Left) (slice_set stages v Beside) stages) v) is ∙ is

unequal : (a b : ℕ) → (a ≡ b → ⊥) → (a == b) ≡ false
unequal a b other =
    elim (a == b) as (λ r. (a == b) ≡ r → r ≡ false) [ true ↦ λ e. absurd (other (eqb-true a b e)) | false ↦ λ e. refl ] refl

beside_one : (stages : List Stage) (v s : ℕ) → v < length stages → stage_at (beside stages v) s ≡ touched (v == s) (stage_at stages s)
beside_one stages v s h =
    elim (cases_eq v s) [
      | inl same ↦ subst (λ (k : ℕ). stage_at (beside stages v) k ≡ touched (v == k) (stage_at stages k)) same
          (beside_itself stages v (stage_at stages v) h refl ∙ ap (λ b. touched b (stage_at stages v)) (sym (eq-eqb v v refl)))
      | inr other ↦
          let elsewhere : stage_at (slice_set stages v Beside) s ≡ stage_at stages s = get_or-set_other stages v s Beside Left (λ e. other (sym e)) in
          (elim (is_stage (stage_at stages v) Left) as (λ b. stage_at (cond b (slice_set stages v Beside) stages) s
          ≡ stage_at stages s) [ true ↦ elsewhere | false ↦ refl ])
          ∙ sym (untouched (stage_at stages s)) ∙ ap (λ b. touched b (stage_at stages s)) (sym (unequal v s other))
    ]

length-beside : (stages : List Stage) (v : ℕ) → length (beside stages v) ≡ length stages
length-beside stages v =
    elim (is_stage (stage_at stages v) Left) as (λ b. length (cond b (slice_set stages v Beside) stages) ≡ length stages) [
      | true ↦ length-set stages v Beside
      | false ↦ refl
    ]

-- the vertices to which edges lead are beside
beside_many : (stages : List Stage) (es : List Edge) (s : ℕ) → ((e : Edge) → Contains es e → e.to < length stages)
    → stage_at (beside_all stages es) s ≡ touched (list_any (λ e. e.to == s) es) (stage_at stages s)
beside_many stages [] s lead = sym (untouched (stage_at stages s))
beside_many stages (e ∷ es) s lead =
    beside_many (beside stages e.to) es s (λ x h. let b = lead x (contains_later e x es h) in omega (arith, length-beside stages e.to))
    ∙ ap (touched (list_any (λ x. x.to == s) es)) (beside_one stages e.to s (lead e (contains_here e es)))
    ∙ touched_twice (list_any (λ x. x.to == s) es) (e.to == s) (stage_at stages s)

length-beside_all : (stages : List Stage) (es : List Edge) → length (beside_all stages es) ≡ length stages
length-beside_all stages [] = refl
length-beside_all stages (e ∷ es) = length-beside_all (beside stages e.to) es ∙ length-beside stages e.to

pub length-after_add_vertex : (v : ℕ) (es : List Edge) (stages : List Stage) → length (after_add_vertex v es stages) ≡ length stages
length-after_add_vertex v es stages = length-beside_all (slice_set stages v Placed) es ∙ length-set stages v Placed

set_placed : (stages : List Stage) (v s : ℕ) → v < length stages → stage_at (slice_set stages v Placed) s ≡ cond (v == s) Placed (stage_at stages s)
set_placed stages v s h =
    elim (cases_eq v s) [
      | inl same ↦ subst (λ (k : ℕ). stage_at (slice_set stages v Placed) k ≡ cond (v == k) Placed (stage_at stages k)) same
          (get_or-set_same stages v Placed Left h ∙ ap (λ b. cond b Placed (stage_at stages v)) (sym (eq-eqb v v refl)))
      | inr other ↦ get_or-set_other stages v s Placed Left (λ e. other (sym e)) ∙ ap (λ b. cond b Placed (stage_at stages s)) (sym (unequal v s other))
    ]

-- all that is placed, and in order -----------------------------------------------------------

abbrev is_open : List Stage → ℕ → Bool
is_open stages s = not (is_stage (stage_at stages s) Placed)

abbrev vertices_left : List (List Edge) → List Stage → List ℕ
vertices_left edges stages = filter (is_open stages) (numbers_from 0 (length edges))

-- the order so far, and the stages by which it goes on
pub record IsGrowing (edges : List (List Edge)) (before : ℕ → ℕ → Bool) (n : ℕ) (done : List ℕ) (stages : List Stage) : Type 0 where
  pub placed : List ℕ
  pub so_far : order edges before ≡ done ++ grown_behind edges before n placed (vertices_left edges stages)
  pub all : length stages ≡ length edges
  pub fronts : (s : ℕ) → s < length edges → is_stage (stage_at stages s) Placed ≡ false → is_stage (stage_at stages s) Beside ≡ is_beside edges placed s

module _ (edges : List (List Edge)) (before : ℕ → ℕ → Bool) (stages : List Stage) (placed : List ℕ)
    (fronts : (s : ℕ) → s < length edges → is_stage (stage_at stages s) Placed ≡ false → is_stage (stage_at stages s) Beside ≡ is_beside edges placed s) where
  front_test : (st : Stage) (b : Bool) → (is_stage st Placed ≡ false → is_stage st Beside ≡ b) → is_stage st Beside ≡ (not (is_stage st Placed) && b)
  front_test Left b h = h refl
  front_test Beside b h = h refl
  front_test Placed b h = refl

  -- those beside are the front of those that are left
  front : filter (λ s. is_stage (stage_at stages s) Beside) (numbers_from 0 (length edges)) ≡ filter (is_beside edges placed) (vertices_left edges stages)
  front =
      same_filter (λ s. is_stage (stage_at stages s) Beside) (λ s. is_open stages s && is_beside edges placed s) (numbers_from 0 (length edges))
      (λ s h. front_test (stage_at stages s) (is_beside edges placed s) (fronts s (let b = numbers_below (length edges) 0 s h in omega arith)))
      ∙ sym (filter_twice (is_beside edges placed) (is_open stages) (numbers_from 0 (length edges)))

  open_test : (st : Stage) → is_stage st Beside ≡ false → is_stage st Left ≡ not (is_stage st Placed)
  open_test Left h = refl
  open_test Beside h = absurd (cc)
  open_test Placed h = refl

  -- where none is beside, those that are left are at the stage of that name
  others : filter (λ s. is_stage (stage_at stages s) Beside) (numbers_from 0 (length edges)) ≡ []
      → filter (λ s. is_stage (stage_at stages s) Left) (numbers_from 0 (length edges)) ≡ vertices_left edges stages
  others none =
      same_filter (λ s. is_stage (stage_at stages s) Left) (is_open stages) (numbers_from 0 (length edges))
      (λ s h. open_test (stage_at stages s) (none_left (λ x. is_stage (stage_at stages x) Beside) (numbers_from 0 (length edges)) none s h))

  next_by : (f all left : List ℕ) → f ≡ filter (is_beside edges placed) all → (f ≡ [] → left ≡ all) → (x : ℕ) (rest : List ℕ) → all ≡ x ∷ rest
      → first_of (earliest_of before f) (earliest_of before left) ≡ Some (next_placed edges before placed x rest)
  next_by [] all left is same x rest e =
      ap (earliest_of before) (same refl ∙ e)
      ∙ ap (λ l. Some (choose before x rest l)) (is ∙ ap (filter (is_beside edges placed)) e)
  next_by (y ∷ ys) all left is same x rest e = ap (λ l. Some (choose before x rest l)) (is ∙ ap (filter (is_beside edges placed)) e)

  -- the next vertex is the first of those that are left
  pub next_is : (x : ℕ) (rest : List ℕ) → vertices_left edges stages ≡ x ∷ rest → next_at before stages (length edges)
      ≡ Some (next_placed edges before placed x rest)
  next_is x rest e =
      next_by (filter (λ s. is_stage (stage_at stages s) Beside) (numbers_from 0 (length edges))) (vertices_left edges stages)
      (filter (λ s. is_stage (stage_at stages s) Left) (numbers_from 0 (length edges))) front others x rest e

  pub none_is : vertices_left edges stages ≡ [] → next_at before stages (length edges) ≡ None
  none_is e =
      let no_front : filter (λ s. is_stage (stage_at stages s) Beside) (numbers_from 0 (length edges)) ≡ [] = front ∙ ap (filter (is_beside edges placed)) e in
      (λ i. first_of (earliest_of before (no_front i)) (earliest_of before (others no_front i))) ∙ ap (earliest_of before) e

-- tests that pass alike are one
alike : (a b : Bool) → (a ≡ true → b ≡ true) → (b ≡ true → a ≡ true) → a ≡ b
alike true b to from = sym (to refl)
alike false true to from = from refl
alike false false to from = refl

shuffled : (a b c d : Bool) → ((a || b) || (c || d)) ≡ ((b || c) || (a || d))
shuffled true true c d = refl
shuffled true false true d = refl
shuffled true false false d = refl
shuffled false true c d = refl
shuffled false false c d = refl

-- whether one of these edges leads to one of these vertices
abbrev is_beside_any : List ℕ → List Edge → Bool
is_beside_any placed es = list_any (λ e. list_any (λ p. p == e.to) placed) es

module _ (edges : List (List Edge)) (before : ℕ → ℕ → Bool) (lead : LeadToVertices edges) (symmetric : IsSymmetric edges) where
  abbrev moved : List Stage → ℕ → List Stage
  moved stages v = after_add_vertex v (edges_at edges v) stages

  -- a stage after the step
  module _ (stages : List Stage) (v : ℕ) (all : length stages ≡ length edges) (within : v < length edges) where
    stage_then : (s : ℕ) → stage_at (moved stages v) s ≡ touched (list_any (λ e. e.to == s) (edges_at edges v)) (cond (v == s) Placed (stage_at stages s))
    stage_then s =
        beside_many (slice_set stages v Placed) (edges_at edges v) s (λ e h. let b = lead v e h in omega (arith, length-set stages v Placed, all))
        ∙ ap (touched (list_any (λ e. e.to == s) (edges_at edges v))) (set_placed stages v s (omega (arith, all)))

    placed_then : (s : ℕ) → is_open (moved stages v) s ≡ (is_open stages s && not (s == v))
    placed_then s =
        ap (λ st. not (is_stage st Placed)) (stage_then s)
        ∙ ap not (still_placed (list_any (λ e. e.to == s) (edges_at edges v)) (cond (v == s) Placed (stage_at stages s)))
        ∙ (elim (cases_eq v s) [
          | inl same ↦ ap (λ b. not (is_stage (cond b Placed (stage_at stages s)) Placed)) (eq-eqb v s same)
              ∙ sym (and_not (is_open stages s) (s == v) (eq-eqb s v (sym same)))
          | inr other ↦ ap (λ b. not (is_stage (cond b Placed (stage_at stages s)) Placed)) (unequal v s other)
              ∙ sym (and_open (is_open stages s) (s == v) (unequal s v (λ e. other (sym e))))
        ])
      where
        and_not : (a b : Bool) → b ≡ true → (a && not b) ≡ false
        and_not true b is = ap not is
        and_not false b is = refl

        and_open : (a b : Bool) → b ≡ false → (a && not b) ≡ a
        and_open true b is = ap not is
        and_open false b is = refl

    -- those that are left are those before without it
    pub left_then : vertices_left edges (moved stages v) ≡ without v (vertices_left edges stages)
    left_then =
        same_filter (is_open (moved stages v)) (λ s. is_open stages s && not (s == v)) (numbers_from 0 (length edges)) (λ s h. placed_then s)
        ∙ sym (filter_twice (λ s. not (s == v)) (is_open stages) (numbers_from 0 (length edges)))

    -- an edge back
    back : (s : ℕ) → list_any (λ e. e.to == s) (edges_at edges v) ≡ list_any (λ e. v == e.to) (edges_at edges s)
    back s = alike (list_any (λ e. e.to == s) (edges_at edges v)) (list_any (λ e. v == e.to) (edges_at edges s)) there here
      where
        there : list_any (λ e. e.to == s) (edges_at edges v) ≡ true → list_any (λ e. v == e.to) (edges_at edges s) ≡ true
        there h =
            let f = list_any_found (λ (e : Edge). e.to == s) (edges_at edges v) h in
            let to : Contains (heads edges v) s =
            subst (λ (k : ℕ). Contains (heads edges v) k) (eqb-true f.0.to s f.2) (contains_mapped (λ (e : Edge). e.to) (edges_at edges v) f.0 f.1) in
            let from = contains_map (λ (e : Edge). e.to) (edges_at edges s) v (symmetric v s to) in
            list_any_at (λ (e : Edge). v == e.to) (edges_at edges s) from.0 from.1 (eq-eqb v from.0.to (sym from.2))

        here : list_any (λ e. v == e.to) (edges_at edges s) ≡ true → list_any (λ e. e.to == s) (edges_at edges v) ≡ true
        here h =
            let f = list_any_found (λ (e : Edge). v == e.to) (edges_at edges s) h in
            let to : Contains (heads edges s) v =
            subst (λ (k : ℕ). Contains (heads edges s) k) (sym (eqb-true v f.0.to f.2)) (contains_mapped (λ (e : Edge). e.to) (edges_at edges s) f.0 f.1) in
            let from = contains_map (λ (e : Edge). e.to) (edges_at edges v) s (symmetric s v to) in
            list_any_at (λ (e : Edge). e.to == s) (edges_at edges v) from.0 from.1 (eq-eqb from.0.to s from.2)

    beside_more : (placed : List ℕ) (es : List Edge) → is_beside_any (v ∷ placed) es ≡ (is_beside_any placed es || list_any (λ e. v == e.to) es)
    beside_more placed [] = refl
    beside_more placed (e ∷ es) =
        ap (λ b. ((v == e.to) || list_any (λ p. p == e.to) placed) || b) (beside_more placed es)
        ∙ shuffled (v == e.to) (list_any (λ p. p == e.to) placed) (is_beside_any placed es) (list_any (λ x. v == x.to) es)

    pub fronts_then : (placed : List ℕ)
        → ((s : ℕ) → s < length edges → is_stage (stage_at stages s) Placed ≡ false → is_stage (stage_at stages s) Beside ≡ is_beside edges placed s)
        → (s : ℕ) → s < length edges → is_stage (stage_at (moved stages v) s) Placed ≡ false
        → is_stage (stage_at (moved stages v) s) Beside ≡ is_beside edges (v ∷ placed) s
    fronts_then placed fronts s l unplaced =
        let still : is_stage (cond (v == s) Placed (stage_at stages s)) Placed ≡ false =
        sym (still_placed (list_any (λ e. e.to == s) (edges_at edges v)) (cond (v == s) Placed (stage_at stages s)))
        ∙ sym (ap (λ st. is_stage st Placed) (stage_then s)) ∙ unplaced in
        let other : (v == s) ≡ false = not_it (v == s) (stage_at stages s) still in
        let was : is_stage (stage_at stages s) Placed ≡ false = ap (λ b. is_stage (cond b Placed (stage_at stages s)) Placed) (sym other) ∙ still in
        ap (λ st. is_stage st Beside) (stage_then s)
        ∙ ap (λ b. is_stage (touched (list_any (λ e. e.to == s) (edges_at edges v)) (cond b Placed (stage_at stages s))) Beside) other
        ∙ now_beside (list_any (λ e. e.to == s) (edges_at edges v)) (stage_at stages s) was
        ∙ (λ i. fronts s l was i || back s i)
        ∙ sym (beside_more placed (edges_at edges s))
      where
        not_it : (b : Bool) (st : Stage) → is_stage (cond b Placed st) Placed ≡ false → b ≡ false
        not_it true st h = absurd (cc)
        not_it false st h = refl

  -- a vertex more
  pub grows : (n : ℕ) (done done' : List ℕ) (stages stages' : List Stage) (v : ℕ) → IsGrowing edges before (suc n) done stages
      → next_at before stages (length edges) ≡ Some v → v < length edges → done' ≡ done ++ v ∷ [] → stages' ≡ moved stages v
      → IsGrowing edges before n done' stages'
  grows n done done' stages stages' v g is within more then =
      subst (λ (l : List ℕ). IsGrowing edges before n l stages') (sym more)
      (subst (IsGrowing edges before n (done ++ v ∷ [])) (sym then) (at_left (vertices_left edges stages) refl))
    where
      at_left : (left : List ℕ) → vertices_left edges stages ≡ left → IsGrowing edges before n (done ++ v ∷ []) (moved stages v)
      at_left [] e = let other : Some v ≡ None = sym is ∙ none_is edges before stages g.placed g.fronts e in absurd (cc)
      at_left (x ∷ rest) e =
          let same : next_placed edges before g.placed x rest ≡ v =
          same_Some (next_placed edges before g.placed x rest) v (sym (next_is edges before stages g.placed g.fronts x rest e) ∙ is) in
          record {
            placed = v ∷ g.placed;
            so_far = g.so_far
                ∙ ap (λ l. done ++ grown_behind edges before (suc n) g.placed l) e
                ∙ ap (λ k. done ++ (k ∷ grown_behind edges before n (k ∷ g.placed) (without k (x ∷ rest)))) same
                ∙ ap (λ l. done ++ (v ∷ grown_behind edges before n (v ∷ g.placed) l)) (ap (without v) (sym e) ∙ sym (left_then stages v g.all within))
                ∙ sym (append_assoc done (v ∷ []) (grown_behind edges before n (v ∷ g.placed) (vertices_left edges (moved stages v))));
            all = length-after_add_vertex v (edges_at edges v) stages ∙ g.all;
            fronts = fronts_then stages v g.all within g.placed g.fronts;
          }

  -- or none is left
  pub rests : (n : ℕ) (done : List ℕ) (stages : List Stage) → IsGrowing edges before (suc n) done stages
      → next_at before stages (length edges) ≡ None → IsGrowing edges before n done stages
  rests n done stages g is = at_left (vertices_left edges stages) refl
    where
      none_grows : (k : ℕ) → grown_behind edges before k g.placed [] ≡ []
      none_grows zero = refl
      none_grows (suc k) = refl

      at_left : (left : List ℕ) → vertices_left edges stages ≡ left → IsGrowing edges before n done stages
      at_left (x ∷ rest) e = let other : Some (next_placed edges before g.placed x rest) ≡ None =
          sym (next_is edges before stages g.placed g.fronts x rest e) ∙ is in absurd (cc)
      at_left [] e = record {
        placed = g.placed;
        so_far = g.so_far ∙ ap (λ l. done ++ grown_behind edges before (suc n) g.placed l) e ∙ ap (λ l. done ++ l) (sym (none_grows n))
            ∙ ap (λ l. done ++ grown_behind edges before n g.placed l) (sym e);
        all = g.all;
        fronts = g.fronts;
      }

-- the beginning
pub begins : (edges : List (List Edge)) (before : ℕ → ℕ → Bool) (n : ℕ) (stages : List Stage) → n ≡ length edges → stages ≡ replicate (length edges) Left
    → IsGrowing edges before n [] stages
begins edges before n stages count is =
    subst (IsGrowing edges before n []) (sym is) (subst (λ (k : ℕ). IsGrowing edges before k [] (replicate (length edges) Left)) (sym count) (record {
      placed = [];
      so_far = ap (grown_behind edges before (length edges) []) (sym whole);
      all = length-replicate (length edges) Left;
      fronts = λ s l unplaced. ap (λ st. is_stage st Beside) (get_or-replicate (length edges) s Left Left l) ∙ sym (beside_nothing (edges_at edges s));
    }))
  where
    all_open : (xs : List ℕ) → ((s : ℕ) → Contains xs s → is_open (replicate (length edges) Left) s ≡ true)
        → filter (is_open (replicate (length edges) Left)) xs ≡ xs
    all_open [] h = refl
    all_open (x ∷ xs) h =
        (λ i. cond (h x (contains_here x xs) i) (x ∷ filter (is_open (replicate (length edges) Left)) xs) (filter (is_open (replicate (length edges) Left)) xs))
        ∙ ap (λ l. x ∷ l) (all_open xs (λ y k. h y (contains_later x y xs k)))

    whole : vertices_left edges (replicate (length edges) Left) ≡ numbers_from 0 (length edges)
    whole = all_open (numbers_from 0 (length edges))
        (λ s h. ap (λ st. not (is_stage st Placed)) (get_or-replicate (length edges) s Left Left (let b = numbers_below (length edges) 0 s h in omega arith)))

    beside_nothing : (es : List Edge) → list_any (λ e. list_any (λ p. p == e.to) []) es ≡ false
    beside_nothing [] = refl
    beside_nothing (e ∷ es) = beside_nothing es
