-- Sums of what targets add to how remote vertices are.
use Rattle.std.proofs.Common.{◌≡◌, ◌<◌, ◌≤◌, ◌+◌, ◌*◌, ◌^◌, ℕ, suc, List, [], ◌∷◌, inl, inr, refl, sym, ap}
use Rattle.std.proofs.Common.{◌∙◌, arith, true, false, not, Bool, cond, ◌&&◌, length, map, add-one, bit_and, w64, ◌==◌}
use Rattle.std.specs.Int.{bit_not}
use Rattle.std.specs.Prelude.{Option, None, Some, is_some, slice_index, slice_index_or, slice_set}
use Rattle.std.specs.Option.{option_or}
use Rattle.std.specs.List.{fold, sum_by}
use Rattle.std.proofs.lemmas.List.Sums.{sum_by-cons, sum_by_push}
use Rattle.std.proofs.lemmas.List.{get_or-map, get_or-set_other, get_or-set_same}
use Rattle.std.proofs.lemmas.Bool.{cases_eq}
use Rattle.port_graph.proofs.Counts.{length_map}
use Rattle.port_graph.specs.declared.edge.Edge.{Edge}
use Rattle.port_graph.specs.Heads.{heads, LeadToVertices}
use Rattle.port_graph.specs.Walks.{has_walk, shortest}
use Rattle.spread_labels.specs.DistanceClass.{distance}
use Rattle.spread_labels.specs.GrowthKeys.{distances_from}
use Rattle.spread_labels.specs.Orders.{numbers_from}
use Rattle.spread_labels.proofs.Earlier.{numbers_more}
use Rattle.spread_labels.proofs.TargetBits.{no_bit, without_bit}
use Rattle.spread_labels.proofs.Numbers.{made_all, made_at, numbers_long}
use Rattle.balanced_choices.proofs.Sums.{sum_equal, sum_none, sum_plus}
use Rattle.balanced_choices.proofs.Sweeps.{numbers_below}
use Rattle.trial_loads.specs.NearTargets.{AreNear, AreWithShares, has_target, is_near, new_shares, share_within, shares_at, shares_in}
use Rattle.trial_loads.specs.Starts.{all_remoteness, capped, remote_share, remoteness}
use Rattle.trial_loads.proofs.NearTargets.{least_last, shortest_ended}

-- sums that are capped at each addition ---------------------------------------------------------

pub cap_sum : (a b : ℕ) → capped (capped a + b) ≡ capped (a + b)
cap_sum a b = omega arith

-- a sum that is capped at each addition is the whole sum, capped
pub fold_capped : (f : ℕ → ℕ) (a : ℕ) (ts : List ℕ) → fold (λ sum t. capped (sum + f t)) (capped a) ts ≡ capped (a + sum_by f ts)
fold_capped f a [] = let is : a ≡ a + 0 = omega arith in ap capped is
fold_capped f a (t ∷ ts) =
    let is : a + f t + sum_by f ts ≡ a + sum_by f (t ∷ ts) = omega (arith, sum_by-cons f t ts) in
    ap (λ x. fold (λ sum u. capped (sum + f u)) x ts) (cap_sum a (f t)) ∙ fold_capped f (a + f t) ts ∙ ap capped is

-- sums over numbers -----------------------------------------------------------------------------

sum_to : (f : ℕ → ℕ) (n : ℕ) → sum_by f (numbers_from 0 (suc n)) ≡ sum_by f (numbers_from 0 n) + f n
sum_to f n =
    let is : 0 + n ≡ n = omega arith in
    ap (sum_by f) (numbers_more 0 n) ∙ sum_by_push f (numbers_from 0 n) (0 + n) ∙ ap (λ k. sum_by f (numbers_from 0 n) + f k) is

-- one more number that is added
pub capped_more : (f : ℕ → ℕ) (a n sum : ℕ) → sum ≡ capped (a + sum_by f (numbers_from 0 n))
    → capped (sum + f n) ≡ capped (a + sum_by f (numbers_from 0 (n + 1)))
capped_more f a n sum is =
    let before = sum_by f (numbers_from 0 n) in
    let all : a + before + f n ≡ a + sum_by f (numbers_from 0 (n + 1)) = omega (arith, sum_to f n, ap (λ k. sum_by f (numbers_from 0 k)) (add-one n)) in
    ap (λ x. capped (x + f n)) is ∙ cap_sum (a + before) (f n) ∙ ap capped all

-- one more number that adds nothing
pub capped_same : (f : ℕ → ℕ) (a n sum : ℕ) → f n ≡ 0 → sum ≡ capped (a + sum_by f (numbers_from 0 n)) → sum ≡ capped (a + sum_by f (numbers_from 0 (n + 1)))
capped_same f a n sum none is =
    let all : a + sum_by f (numbers_from 0 n) ≡ a + sum_by f (numbers_from 0 (n + 1))
    = omega (arith, sum_to f n, ap (λ k. sum_by f (numbers_from 0 k)) (add-one n), none) in
    is ∙ ap capped all

pub sum_alike : (f g : ℕ → ℕ) (n : ℕ) → ((k : ℕ) → k < n → f k ≡ g k) → sum_by f (numbers_from 0 n) ≡ sum_by g (numbers_from 0 n)
sum_alike f g n same = sum_equal f g (numbers_from 0 n) (λ k h. same k (omega (arith, numbers_below n 0 k h)))

pub sum_both : (f g h : ℕ → ℕ) (n : ℕ) → ((k : ℕ) → k < n → f k ≡ g k + h k)
    → sum_by f (numbers_from 0 n) ≡ sum_by g (numbers_from 0 n) + sum_by h (numbers_from 0 n)
sum_both f g h n each = sum_alike f (λ k. g k + h k) n each ∙ sum_plus g h (numbers_from 0 n)

sum_made : (f g : ℕ → ℕ) (ks : List ℕ) → sum_by f (map g ks) ≡ sum_by (λ k. f (g k)) ks
sum_made f g [] = refl
sum_made f g (k ∷ ks) =
    sum_by-cons f (g k) (map g ks) ∙ ap (λ x. f (g k) + x) (sum_made f g ks) ∙ sym (sum_by-cons (λ x. f (g x)) k ks)

-- the sum over a list, by indices
pub sum_by_index : (f : ℕ → ℕ) (ts : List ℕ) → sum_by f ts ≡ sum_by (λ k. f (slice_index ts k)) (numbers_from 0 (length ts))
sum_by_index f ts =
    ap (sum_by f) (made_all (λ k. slice_index ts k) (length ts) ts 0 refl (λ i h. refl))
    ∙ sum_made f (λ k. slice_index ts k) (numbers_from 0 (length ts))

-- how remote a vertex is ------------------------------------------------------------------------

pub remoteness_is : (edges : List (List Edge)) (adapters : List ℕ) (s : ℕ)
    → remoteness adapters (distances_from edges s) ≡ capped (sum_by (share_within edges adapters (length edges) s) (numbers_from 0 (length edges)))
remoteness_is edges adapters s =
    let ds = distances_from edges s in
    let n = length edges in
    let share : ℕ → ℕ = λ t. remote_share (slice_index adapters t) (slice_index_or ds t None) in
    let long : length ds ≡ n = numbers_long (distance edges s) 0 n in
    fold_capped share 0 (numbers_from 0 (length ds))
    ∙ ap (λ k. capped (0 + sum_by share (numbers_from 0 k))) long
    ∙ ap (λ x. capped (0 + x))
    (sum_alike share (share_within edges adapters n s) n (λ t h. ap (remote_share (slice_index adapters t)) (made_at (distance edges s) n t None h)))
    ∙ ap capped (let is : 0 + sum_by (share_within edges adapters n s) (numbers_from 0 n) ≡ sum_by (share_within edges adapters n s) (numbers_from 0 n)
    = omega arith in is)

-- the share of a target, with a bound of one edge more
share_more : (edges : List (List Edge)) (adapters : List ℕ) (d s t : ℕ) → share_within edges adapters (suc d) s t
    ≡ share_within edges adapters d s t
    + cond (is_near edges (suc d) s t && not (is_near edges d s t)) (remote_share (slice_index adapters t) (Some d)) 0
share_more edges adapters d s t =
    let is : 0 + d ≡ d = omega arith in
    let next = least_last 0 d (has_walk (heads edges) s t)
    ∙ ap (λ k. option_or (shortest (heads edges) d s t) (cond (has_walk (heads edges) s t k) (Some k) None)) is in
    ap (remote_share (slice_index adapters t)) next
    ∙ by (slice_index adapters t) (shortest (heads edges) d s t) (has_walk (heads edges) s t d) d
    ∙ ap (λ o. share_within edges adapters d s t
    + cond (is_some o && not (is_near edges d s t)) (remote_share (slice_index adapters t) (Some d)) 0) (sym next)
  where
    by : (a : ℕ) (o : Option ℕ) (b : Bool) (d : ℕ) → remote_share a (option_or o (cond b (Some d) None))
        ≡ remote_share a o + cond (is_some (option_or o (cond b (Some d) None)) && not (is_some o)) (remote_share a (Some d)) 0
    by a None true d = zero_more (remote_share a (Some d))
      where
        zero_more : (x : ℕ) → x ≡ 0 + x
        zero_more x = omega arith
    by a None false d = refl
    by a (Some e) b d = more_zero (remote_share a (Some e))
      where
        more_zero : (x : ℕ) → x ≡ x + 0
        more_zero x = omega arith

-- the shares of all targets, with a bound of one edge more
pub shares_more : (edges : List (List Edge)) (adapters targets : List ℕ) (d s near next : ℕ)
    → ((k : ℕ) → k < length targets → has_target near k ≡ is_near edges d s (slice_index targets k))
    → ((k : ℕ) → k < length targets → has_target next k ≡ is_near edges (suc d) s (slice_index targets k))
    → sum_by (share_within edges adapters (suc d) s) targets
    ≡ sum_by (share_within edges adapters d s) targets + new_shares (shares_at adapters targets d) near next
shares_more edges adapters targets d s near next before after =
    let shares = shares_at adapters targets d in
    let new : ℕ → ℕ = λ k. cond (has_target next k && not (has_target near k)) (slice_index shares k) 0 in
    let long : length shares ≡ length targets = length_map (λ t. remote_share (slice_index adapters t) (Some d)) targets in
    sum_by_index (share_within edges adapters (suc d) s) targets
    ∙ sum_both (λ k. share_within edges adapters (suc d) s (slice_index targets k)) (λ k. share_within edges adapters d s (slice_index targets k)) new
    (length targets)
    (λ k h. share_more edges adapters d s (slice_index targets k)
    ∙ (λ i. share_within edges adapters d s (slice_index targets k)
    + cond (sym (after k h) i && not (sym (before k h) i)) (sym (get_or-map (λ t. remote_share (slice_index adapters t) (Some d)) targets k 0 0 h) i) 0))
    ∙ (λ i. sym (sum_by_index (share_within edges adapters d s) targets) i + sum_by new (numbers_from 0 (sym long i)))

-- sums, with a bound of one edge more
pub sums_more : (edges : List (List Edge)) (adapters targets : List ℕ) (d : ℕ) (near next old now new : List ℕ)
    → AreNear edges targets d near → AreNear edges targets (suc d) next → AreWithShares edges adapters targets d old now
    → ((s : ℕ) → s < length edges
    → slice_index new s ≡ capped (slice_index now s + new_shares (shares_at adapters targets d) (slice_index near s) (slice_index next s)))
    → AreWithShares edges adapters targets (suc d) old new
sums_more edges adapters targets d near next old now new are after before each s h =
    let its = new_shares (shares_at adapters targets d) (slice_index near s) (slice_index next s) in
    let sum = sum_by (share_within edges adapters d s) targets in
    let more = shares_more edges adapters targets d s (slice_index near s) (slice_index next s) (λ k l. are.each k s l h) (λ k l. after.each k s l h) in
    let all : slice_index old s + sum + its ≡ slice_index old s + sum_by (share_within edges adapters (suc d) s) targets = omega (arith, more) in
    each s h ∙ ap (λ x. capped (x + its)) (before s h) ∙ cap_sum (slice_index old s + sum) its ∙ ap capped all

-- the shares of a set without another
pub shares_without : (shares : List ℕ) (near next : ℕ) → length shares ≤ 64 → near < 2 ^ 64
    → shares_in shares (bit_and next (bit_not w64 near)) ≡ new_shares shares near next
shares_without shares near next few small =
    sum_alike (λ k. cond (has_target (bit_and next (bit_not w64 near)) k) (slice_index shares k) 0)
    (λ k. cond (has_target next k && not (has_target near k)) (slice_index shares k) 0) (length shares)
    (λ k h. ap (λ b. cond b (slice_index shares k) 0) (without_bit next near k small (omega (arith, h, few))))

-- the shares of no target
pub no_shares : (shares : List ℕ) (sum set : ℕ) → set ≡ 0 → sum < 2 ^ 64 → sum ≡ capped (sum + shares_in shares set)
no_shares shares sum set none small =
    let nothing = sum_none (λ k. cond (has_target set k) (slice_index shares k) 0) (numbers_from 0 (length shares))
    (λ k h. ap (λ b. cond b (slice_index shares k) 0) (no_bit set k none)) in
    let is : sum ≡ capped (sum + 0) = omega arith in
    is ∙ ap (λ x. capped (sum + x)) (sym nothing)

-- one more sum that is as it should be
pub sums_to : (f : ℕ → ℕ) (now new : List ℕ) (v : ℕ) → ((s : ℕ) → s < v → slice_index now s ≡ f s) → v < length now → (x : ℕ) → x ≡ f v
    → new ≡ slice_set now v x → (s : ℕ) → s < v + 1 → slice_index new s ≡ f s
sums_to f now new v done within x here is s h =
    ap (λ xs. slice_index xs s) is
    ∙ (elim (cases_eq s v) [
      | inl same ↦ ap (slice_index (slice_set now v x)) same ∙ get_or-set_same now v x 0 within ∙ here ∙ ap f (sym same)
      | inr other ↦ (let below : s < v = grind arith in get_or-set_other now v s x 0 other ∙ done s below)
    ])

pub sums_left : (old now new : List ℕ) (v x : ℕ) → ((s : ℕ) → v ≤ s → slice_index now s ≡ slice_index old s) → new ≡ slice_set now v x
    → (s : ℕ) → v + 1 ≤ s → slice_index new s ≡ slice_index old s
sums_left old now new v x left is s h =
    ap (λ xs. slice_index xs s) is ∙ get_or-set_other now v s x 0 (λ e. absurd (omega (arith, h, e))) ∙ left s (omega (arith, h))

-- sums stay as they are once no vertex has more targets
pub sums_ended : (edges : List (List Edge)) (lead : LeadToVertices edges) (adapters targets : List ℕ) (d n : ℕ) (near old new : List ℕ) → d ≤ n
    → AreNear edges targets d near → AreNear edges targets (suc d) near → AreWithShares edges adapters targets d old new
    → AreWithShares edges adapters targets n old new
sums_ended edges lead adapters targets d n near old new below are after before s h =
    before s h ∙ ap (λ x. capped (slice_index old s + x))
    (sum_by_index (share_within edges adapters d s) targets
    ∙ sum_alike (λ k. share_within edges adapters d s (slice_index targets k)) (λ k. share_within edges adapters n s (slice_index targets k))
    (length targets)
    (λ k l. ap (remote_share (slice_index adapters (slice_index targets k)))
    (sym (shortest_ended edges (slice_index targets k) lead d (λ r m. sym (after.each k r l m) ∙ are.each k r l m) n s below h)))
    ∙ sym (sum_by_index (share_within edges adapters n s) targets))

-- no target that is less than one edge away adds anything
pub none_first : (edges : List (List Edge)) (adapters : List ℕ) (s : ℕ) (ts : List ℕ) → sum_by (share_within edges adapters 1 s) ts ≡ 0
none_first edges adapters s [] = refl
none_first edges adapters s (t ∷ ts) =
    let here : share_within edges adapters 1 s t ≡ 0 = by (slice_index adapters t) (s == t) in
    let rest = none_first edges adapters s ts in
    omega (arith, sum_by-cons (share_within edges adapters 1 s) t ts, here, rest)
  where
    by : (a : ℕ) (b : Bool) → remote_share a (cond b (Some 0) None) ≡ 0
    by a true = let none : 0 * (a + 1) ≡ 0 = omega arith in ap capped none
    by a false = refl

-- before the first edge
pub sums_first : (edges : List (List Edge)) (adapters targets sums : List ℕ) → ((s : ℕ) → slice_index sums s < 2 ^ 64)
    → AreWithShares edges adapters targets 1 sums sums
sums_first edges adapters targets sums small s h =
    let none = none_first edges adapters s targets in
    let fits = small s in
    let is : slice_index sums s ≡ capped (slice_index sums s + 0) = omega arith in
    is ∙ ap (λ x. capped (slice_index sums s + x)) (sym none)

-- the sums of the shares of all vertices are how remote vertices are
pub sums_are : (edges : List (List Edge)) (adapters sums : List ℕ) → length sums ≡ length edges
    → ((s : ℕ) → s < length edges
    → slice_index sums s ≡ capped (sum_by (share_within edges adapters (length edges) s) (numbers_from 0 (length edges))))
    → sums ≡ all_remoteness edges adapters
sums_are edges adapters sums long each =
    made_all (λ s. remoteness adapters (distances_from edges s)) (length edges) sums 0 long
    (λ s h. each s h ∙ sym (remoteness_is edges adapters s))
