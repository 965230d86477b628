-- Distances in words.
use Rattle.std.proofs.Common.{◌≡◌, ◌<◌, ℕ, zero, suc, List, [], ◌∷◌, inl, inr, refl, sym, ap, ◌∙◌, subst, arith, length}
use Rattle.std.proofs.lemmas.Bool.{cases_eq}
use Rattle.std.proofs.lemmas.Option.{none-some}
use Rattle.std.specs.Prelude.{None, Some, MatchOption, Contains, slice_index_or}
use Rattle.smp_bytes.proofs.Members.{contains_here, contains_later}
use Rattle.port_graph.specs.declared.edge.Edge.{Edge}
use Rattle.port_graph.specs.Walks.{has_walk, shortest, Walk, IsShortest, HasNoWalk}
use Rattle.port_graph.specs.Heads.{edges_at, heads, DistancesLaw}
use Rattle.port_graph.proofs.Lists.{contains_map}
use Rattle.port_graph.proofs.WalkLemmas.{shortest_is, test_from_walk}
use Rattle.port_graph.proofs.Paths.{bounded_walk, keeps_to, has_least_from}

-- the numbers below n
abbrev pub numbers : ℕ → List ℕ
numbers zero = []
numbers (suc n) = n ∷ numbers n

pub all_numbers : (n : ℕ) → length (numbers n) ≡ n
all_numbers zero = refl
all_numbers (suc n) = ap suc (all_numbers n)

pub among_numbers : (n k : ℕ) → k < n → Contains (numbers n) k
among_numbers zero k h = absurd (omega arith)
among_numbers (suc n) k h =
    elim (cases_eq n k) [
      | inl same ↦ subst (λ (m : ℕ). Contains (n ∷ numbers n) m) same (contains_here n (numbers n))
      | inr other ↦ let below : k < n = grind arith in contains_later n k (numbers n) (among_numbers n k below)
    ]

-- where a walk leads there is a shortest with fewer edges than there are vertices
pub shortest_found : (next : ℕ → List ℕ) (n : ℕ) → ((a b : ℕ) → Contains (next a) b → b < n) → (m a b : ℕ) → a < n → Walk next a b m → (d : ℕ)
    × (shortest next n a b ≡ Some d)
shortest_found next n within m a b h w =
    let kept = keeps_to next (numbers n) (λ x y k. among_numbers n y (within x y k)) m a b (among_numbers n a h) w in
    let short = bounded_walk next n (numbers n) m a b (omega (arith, all_numbers n)) kept in
    has_least_from 0 n (has_walk next a b) short.0 (omega arith) (omega (arith, short.1, all_numbers n)) (test_from_walk next a b short.0 short.2)

-- the law of distances
pub distances_in_words : DistancesLaw
distances_in_words edges from distances lead start are a h =
    elim (slice_index_or distances a None) as (λ o. slice_index_or distances a None ≡ o
    → MatchOption o (HasNoWalk (heads edges) from a) (IsShortest (heads edges) from a)) [
      | None ↦ λ e. λ m w.
          let d = shortest_found (heads edges) (length edges) within m from a start w in
          none-some d.0 (sym e ∙ are.shortest a h ∙ d.1)
      | Some d ↦ λ e. shortest_is (heads edges) (length edges) from a d (sym (are.shortest a h) ∙ e)
    ] refl
  where
    within : (x y : ℕ) → Contains (heads edges x) y → y < length edges
    within x y k =
        let e = contains_map (λ (e : Edge). e.to) (edges_at edges x) y k in
        omega (arith, lead x e.0 e.1, e.2)
