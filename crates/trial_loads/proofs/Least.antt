-- The keys of the least load, one list after the other.
use Rattle.std.proofs.Common.{◌≡◌, ◌++◌, ◌∙◌, ℕ, List, [], ◌∷◌, refl, ap, true, false, Bool, cond, length, map}
use Rattle.std.specs.Prelude.{min, nat_lt}
use Rattle.port_graph.specs.declared.edge.Edge.{Edge}
use Rattle.spread_labels.specs.declared.key_order.VertexKey.{VertexKey}
use Rattle.spread_labels.specs.KeyOrder.{before_by}
use Rattle.spread_labels.specs.GrowthKeys.{key_of}
use Rattle.spread_labels.proofs.Numbers.{numbers_long}
use Rattle.depth_orders.specs.declared.direction.Direction.{Direction}
use Rattle.depth_orders.specs.declared.direction.Direction.TheVariants.{Forwards, Backwards}
use Rattle.depth_orders.specs.DepthOrder.{order_by_depth, turned}
use Rattle.trial_loads.specs.LeastLoaded.{is_even, key_in, keys_by_depth, least_by, least_loaded_among, least_loaded_keys, tried_by_depth}
use Rattle.trial_loads.specs.Starts.{all_remoteness, keys_by_remoteness, starts}
use Rattle.trial_loads.specs.TrialLoads.{trial_load}

module _ (load : List VertexKey → ℕ) where
  pub least_both : (keys : List VertexKey) (xs ys : List (List VertexKey)) → least_by load keys (xs ++ ys) ≡ least_by load (least_by load keys xs) ys
  least_both keys [] ys = refl
  least_both keys (x ∷ xs) ys = least_both (cond (nat_lt (load x) (load keys)) x keys) xs ys

-- what holds of both holds of either
pub of_either : {X : Type 0} (P : X → Type 0) (b : Bool) (x y : X) → P x → P y → P (cond b x y)
of_either P true x y p q = p
of_either P false x y p q = q

pub made_of_either : {X Y : Type 0} (f : X → Y) (b : Bool) (x y : X) → f (cond b x y) ≡ cond b (f x) (f y)
made_of_either f true x y = refl
made_of_either f false x y = refl

-- the keys themselves, or the least of those that are tried ------------------------------------

module _ (edges : List (List Edge)) (adapters : List ℕ) (keys : List VertexKey) where
  abbrev least_tried : List VertexKey
  least_tried = least_by (trial_load edges adapters) keys (tried_by_depth edges keys Forwards ++ tried_by_depth edges keys Backwards)

  pub found_even : is_even edges adapters keys ≡ true → least_loaded_among edges adapters keys ≡ keys
  unfolding least_loaded_among
  found_even even = ap (λ b. cond b keys least_tried) even

  pub found_least : is_even edges adapters keys ≡ false → least_loaded_among edges adapters keys ≡ least_tried
  unfolding least_loaded_among
  found_least uneven = ap (λ b. cond b keys least_tried) uneven

-- the keys of the least load are as many as the others ------------------------------------------

module _ (load : List VertexKey → ℕ) (n : ℕ) (f : ℕ → List VertexKey) (long : (x : ℕ) → length (f x) ≡ n) where
  least_long : (keys : List VertexKey) (xs : List ℕ) → length keys ≡ n → length (least_by load keys (map f xs)) ≡ n
  least_long keys [] own = own
  least_long keys (x ∷ xs) own =
      least_long (cond (nat_lt (load (f x)) (load keys)) (f x) keys) xs
      (of_either (λ ks. length ks ≡ n) (nat_lt (load (f x)) (load keys)) (f x) keys (long x) own)

among_long : (edges : List (List Edge)) (adapters : List ℕ) (keys : List VertexKey) → length keys ≡ length edges
    → length (least_loaded_among edges adapters keys) ≡ length edges
unfolding least_loaded_among
among_long edges adapters keys own =
    let n = length edges in
    let load = trial_load edges adapters in
    let by : Direction → ℕ → List VertexKey = keys_by_depth edges keys in
    let long : (direction : Direction) (root : ℕ) → length (by direction root) ≡ n =
    (λ direction root. numbers_long (key_in (order_by_depth edges (turned direction (before_by keys)) root)) 0 n) in
    let roots = starts edges (before_by keys) (min n 8) in
    let forwards = tried_by_depth edges keys Forwards in
    let backwards = tried_by_depth edges keys Backwards in
    of_either (λ ks. length ks ≡ n) (is_even edges adapters keys) keys (least_by load keys (forwards ++ backwards)) own (
    ap length (least_both load keys forwards backwards)
    ∙ least_long load n (by Backwards) (long Backwards) (least_by load keys (map (by Forwards) roots)) roots
    (least_long load n (by Forwards) (long Forwards) keys roots own)
    )

pub keys_long : (edges : List (List Edge)) (adapters : List ℕ) → length (least_loaded_keys edges adapters) ≡ length edges
keys_long edges adapters =
    among_long edges adapters (keys_by_remoteness edges adapters) (numbers_long (key_of edges (all_remoteness edges adapters)) 0 (length edges))
