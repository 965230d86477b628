-- The edges whose set has a target.
use Rattle.std.proofs.Common.{◌≡◌, ◌<◌, ◌+◌, ℕ, suc, Bool, List, [], ◌∷◌, refl, sym, ◌∙◌, arith, true, false, cond, length, get_or, drop}
use Rattle.std.proofs.lemmas.List.{drop_more}
use Rattle.std.proofs.lemmas.List.Sums.{sum_by-cons}
use Rattle.std.specs.Prelude.{◌&&◌, ◌||◌, count_by, nat_lt}
use Rattle.port_graph.specs.declared.edge.Edge.{Edge}
use Rattle.spread_labels.specs.Labels.{leads_up}
use Rattle.spread_labels.specs.MarkSets.{picked}
use Rattle.spread_labels.specs.TargetSet.{has}
use Rattle.spread_labels.specs.declared.target_set.TargetSet.{TargetSet}

pub picked_long : (k : ℕ) (sets : List TargetSet) (es : List Edge) → length sets ≡ length es
    → length (picked k sets es) ≡ count_by (λ set. has set k) sets
picked_long k [] [] all = refl
picked_long k [] (e ∷ es) all = absurd (omega arith)
picked_long k (set ∷ sets) [] all = absurd (omega arith)
picked_long k (set ∷ sets) (e ∷ es) all =
    let rest = picked_long k sets es (omega arith) in
    elim (has set k) as (λ b. length (cond b (e ∷ picked k sets es) (picked k sets es)) ≡ cond b 1 0 + count_by (λ s. has s k) sets) [
      | true ↦ (let more : suc (length (picked k sets es)) ≡ 1 + count_by (λ s. has s k) sets = omega (arith, rest) in more)
      | false ↦ (let same : length (picked k sets es) ≡ 0 + count_by (λ s. has s k) sets = omega (arith, rest) in same)
    ]
    ∙ sym (sum_by-cons (λ s. cond (has s k) 1 0) set sets)

-- from an edge on
pub picked_from : (k : ℕ) (sets : List TargetSet) (es : List Edge) (j : ℕ) (set : TargetSet) (e : Edge) → length sets ≡ length es → j < length es
    → get_or sets j set ≡ set → get_or es j e ≡ e
    → picked k (drop j sets) (drop j es)
    ≡ cond (has set k) (e ∷ picked k (drop (j + 1) sets) (drop (j + 1) es)) (picked k (drop (j + 1) sets) (drop (j + 1) es))
picked_from k sets es j set e all h is_set is_edge =
    (λ i. picked k (drop_more sets j set (omega (arith, all, h)) i) (drop_more es j e h i))
    ∙ (λ i. picked k (is_set i ∷ drop (j + 1) sets) (is_edge i ∷ drop (j + 1) es))

-- whether one of the edges leads up, with one more
pub up_with : (s : ℕ) (e : Edge) (es : List Edge) (b : Bool) → leads_up s (cond b (e ∷ es) es) ≡ ((b && nat_lt e.to s) || leads_up s es)
up_with s e es true = refl
up_with s e es false = refl

pub joined_up : (a b r : Bool) → ((a || b) || r) ≡ (a || ((b && true) || r))
joined_up true b r = refl
joined_up false true r = refl
joined_up false false r = refl

pub passed_up : (a b r : Bool) → (a || r) ≡ (a || ((b && false) || r))
passed_up a true r = refl
passed_up a false r = refl
