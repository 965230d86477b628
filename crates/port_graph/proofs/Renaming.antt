-- Vertices that are renamed: walks, down distances, costs and next ports stay the same.
use Rattle.std.proofs.Common.{◌≡◌, ◌<◌, ℕ, zero, suc, List, [], ◌∷◌, refl, sym, ap, ap₂, ◌∙◌, Bool, true, false, cond, ◌==◌, ◌||◌, length, map}
use Rattle.std.proofs.lemmas.Bool.{eqb-true, eq-eqb}
use Rattle.std.specs.Prelude.{Option, None, Some, is_some, option_map, Contains}
use Rattle.std.specs.Cmp.{both_ways}
use Rattle.std.specs.List.{list_any, filter_map, find, cons_option}
use Rattle.smp_bytes.proofs.Members.{contains_here, contains_later}
use Rattle.port_graph.specs.declared.edge.Edge.{Edge}
use Rattle.port_graph.specs.Walks.{has_walk, least_from, shortest}
use Rattle.port_graph.specs.Slopes.{Slope, ups_at, downs_at, below, down_distance, least_of, cost_within, cost, same_number, port_down, port_up, next_port}
use Rattle.port_graph.proofs.Lists.{contains_map}

-- lists of renamed elements -------------------------------------------------------------

module _ {X Y : Type 0} (h : X → Y) where
  any_renamed : (p : Y → Bool) (q : X → Bool) (xs : List X) → ((x : X) → Contains xs x → p (h x) ≡ q x) → list_any p (map h xs) ≡ list_any q xs
  any_renamed p q [] e = refl
  any_renamed p q (x ∷ xs) e = ap₂ (λ a b. a || b) (e x (contains_here x xs)) (any_renamed p q xs (λ y k. e y (contains_later x y xs k)))

  filter_map_renamed : {Z : Type 0} (f : Y → Option Z) (g : X → Option Z) (xs : List X) → ((x : X) → Contains xs x → f (h x) ≡ g x) → filter_map f (map h xs)
      ≡ filter_map g xs
  filter_map_renamed f g [] e = refl
  filter_map_renamed f g (x ∷ xs) e = ap₂ cons_option (e x (contains_here x xs)) (filter_map_renamed f g xs (λ y k. e y (contains_later x y xs k)))

  find_renamed : (p : Y → Bool) (q : X → Bool) (xs : List X) → ((x : X) → Contains xs x → p (h x) ≡ q x) → find p (map h xs) ≡ option_map h (find q xs)
  find_renamed p q [] e = refl
  find_renamed p q (x ∷ xs) e =
      ap₂ (λ (b : Bool) (o : Option Y). cond b (Some (h x)) o) (e x (contains_here x xs)) (find_renamed p q xs (λ y k. e y (contains_later x y xs k)))
      ∙ either (q x)
    where
      either : (b : Bool) → cond b (Some (h x)) (option_map h (find q xs)) ≡ option_map h (cond b (Some x) (find q xs))
      either true = refl
      either false = refl

-- walks ---------------------------------------------------------------------------------

-- the vertices below n are those of the other graph by other names
pub record IsRenamed (name : ℕ → ℕ) (n : ℕ) (next renamed : ℕ → List ℕ) : Type 0 where
  pub named : (a : ℕ) → a < n → next (name a) ≡ map name (renamed a)
  pub within : (a b : ℕ) → a < n → Contains (renamed a) b → b < n
  pub apart : (a b : ℕ) → a < n → b < n → name a ≡ name b → a ≡ b

same_names : (name : ℕ → ℕ) (a b : ℕ) → (name a ≡ name b → a ≡ b) → (name a == name b) ≡ (a == b)
same_names name a b apart =
    both_ways (name a == name b) (a == b) (λ h. eq-eqb a b (apart (eqb-true (name a) (name b) h))) (λ h. eq-eqb (name a) (name b) (ap name (eqb-true a b h)))

module _ (name : ℕ → ℕ) (n : ℕ) (next renamed : ℕ → List ℕ) (is : IsRenamed name n next renamed) where
  -- walks lead between the same vertices
  pub has_walk_renamed : (m a b : ℕ) → a < n → b < n → has_walk next (name a) (name b) m ≡ has_walk renamed a b m
  has_walk_renamed zero a b k l = same_names name a b (is.apart a b k l)
  has_walk_renamed (suc m) a b k l =
      ap (list_any (λ c. has_walk next c (name b) m)) (is.named a k)
      ∙ any_renamed name (λ c. has_walk next c (name b) m) (λ c. has_walk renamed c b m) (renamed a) (λ c h. has_walk_renamed m c b (is.within a c k h) l)

  -- shortest walks have the same length
  pub shortest_renamed : (bound a b : ℕ) → a < n → b < n → shortest next bound (name a) (name b) ≡ shortest renamed bound a b
  shortest_renamed bound a b k l i = least_from 0 bound (λ m. has_walk_renamed m a b k l i)

-- slopes --------------------------------------------------------------------------------

-- an edge to the same vertex by its other name
abbrev pub rename : (ℕ → ℕ) → Edge → Edge
rename name e = record { port = e.port; to = name e.to }

-- the slopes are those of the others, whose vertices are the numbers from 0 on, by other names
pub record AreRenamed (name : ℕ → ℕ) (slopes renamed : List Slope) : Type 0 where
  pub all : length slopes ≡ length renamed
  pub ups : (s : ℕ) → s < length renamed → ups_at slopes (name s) ≡ map (rename name) (ups_at renamed s)
  pub downs : (s : ℕ) → s < length renamed → downs_at slopes (name s) ≡ map (rename name) (downs_at renamed s)
  pub ups_within : (s : ℕ) (e : Edge) → Contains (ups_at renamed s) e → e.to < length renamed
  pub downs_within : (s : ℕ) (e : Edge) → Contains (downs_at renamed s) e → e.to < length renamed
  pub apart : (s t : ℕ) → s < length renamed → t < length renamed → name s ≡ name t → s ≡ t

module _ (name : ℕ → ℕ) (slopes renamed : List Slope) (are : AreRenamed name slopes renamed) where
  abbrev Is : ℕ → Type 0
  Is s = s < length renamed

  heads_renamed : (es : List Edge) → map (λ e. e.to) (map (rename name) es) ≡ map name (map (λ e. e.to) es)
  heads_renamed [] = refl
  heads_renamed (e ∷ es) = ap (λ ns. name e.to ∷ ns) (heads_renamed es)

  -- what is below each
  pub below_renamed : IsRenamed name (length renamed) (below slopes) (below renamed)
  below_renamed =
      record {
        named = λ a h. ap (map (λ (e : Edge). e.to)) (are.downs a h) ∙ heads_renamed (downs_at renamed a);
        within = λ a b h k. let x = contains_map (λ (e : Edge). e.to) (downs_at renamed a) b k in same_within x.0 b x.2 (are.downs_within a x.0 x.1);
        apart = are.apart;
      }
    where
      same_within : (e : Edge) (b : ℕ) → e.to ≡ b → e.to < length renamed → b < length renamed
      same_within e b same h = rw (sym same) h

  -- down distances are the same
  pub down_distance_renamed : (s t : ℕ) → Is s → Is t → down_distance slopes (name s) (name t) ≡ down_distance renamed s t
  down_distance_renamed s t h k =
      ap (λ n. shortest (below slopes) n (name s) (name t)) are.all
      ∙ shortest_renamed name (length renamed) (below slopes) (below renamed) below_renamed (length renamed) s t h k

  cost_within_renamed : (climbs s t : ℕ) → Is s → Is t → cost_within slopes climbs (name s) (name t) ≡ cost_within renamed climbs s t
  cost_within_renamed zero s t h k = down_distance_renamed s t h k
  cost_within_renamed (suc climbs) s t h k =
      ap₂ (λ (down : Option ℕ) (costs : List ℕ). cond (is_some down) down (option_map suc (least_of costs))) (down_distance_renamed s t h k)
      (ap (filter_map (λ e. cost_within slopes climbs e.to (name t))) (are.ups s h)
      ∙ filter_map_renamed (rename name) (λ e. cost_within slopes climbs e.to (name t)) (λ e. cost_within renamed climbs e.to t) (ups_at renamed s)
      (λ e l. cost_within_renamed climbs e.to t (are.ups_within s e l) k))

  -- costs are the same
  pub cost_renamed : (s t : ℕ) → Is s → Is t → cost slopes (name s) (name t) ≡ cost renamed s t
  cost_renamed s t h k = ap (λ n. cost_within slopes n (name s) (name t)) are.all ∙ cost_within_renamed (length renamed) s t h k

  -- the port of the first edge that passes
  port_renamed : (p q : Edge → Bool) (edges es : List Edge) → edges ≡ map (rename name) es → ((e : Edge) → Contains es e → p (rename name e) ≡ q e)
      → option_map (λ e. e.port) (find p edges) ≡ option_map (λ e. e.port) (find q es)
  port_renamed p q edges es is same =
      ap (λ xs. option_map (λ e. e.port) (find p xs)) is ∙ ap (option_map (λ e. e.port)) (find_renamed (rename name) p q es same) ∙ port_same (find q es)
    where
      port_same : (o : Option Edge) → option_map (λ e. e.port) (option_map (rename name) o) ≡ option_map (λ e. e.port) o
      port_same None = refl
      port_same (Some e) = refl

  port_down_renamed : (s t : ℕ) → Is s → Is t → port_down slopes (name s) (name t) ≡ port_down renamed s t
  port_down_renamed s t h k =
      port_renamed (λ e. same_number (option_map suc (down_distance slopes e.to (name t))) (down_distance slopes (name s) (name t)))
      (λ e. same_number (option_map suc (down_distance renamed e.to t)) (down_distance renamed s t)) (downs_at slopes (name s)) (downs_at renamed s)
      (are.downs s h)
      (λ e l. ap₂ (λ a b. same_number (option_map suc a) b) (down_distance_renamed e.to t (are.downs_within s e l) k) (down_distance_renamed s t h k))

  port_up_renamed : (s t : ℕ) → Is s → Is t → port_up slopes (name s) (name t) ≡ port_up renamed s t
  port_up_renamed s t h k =
      port_renamed (λ e. same_number (option_map suc (cost slopes e.to (name t))) (cost slopes (name s) (name t)))
      (λ e. same_number (option_map suc (cost renamed e.to t)) (cost renamed s t)) (ups_at slopes (name s)) (ups_at renamed s) (are.ups s h)
      (λ e l. ap₂ (λ a b. same_number (option_map suc a) b) (cost_renamed e.to t (are.ups_within s e l) k) (cost_renamed s t h k))

  -- the next port is the same
  pub next_port_renamed : (s t : ℕ) → Is s → Is t → next_port slopes (name s) (name t) ≡ next_port renamed s t
  next_port_renamed s t h k i =
      cond (same_names name s t (are.apart s t h k) i) None
      (cond (is_some (down_distance_renamed s t h k i)) (port_down_renamed s t h k i) (port_up_renamed s t h k i))
