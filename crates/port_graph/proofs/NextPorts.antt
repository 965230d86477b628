-- Next ports by the distances and the costs of all vertices.
use Rattle.std.proofs.Common.{◌≡◌, ◌<◌, ◌+◌, ℕ, suc, List, [], ◌∷◌, ◌++◌, inl, inr, refl, sym, ap, ap₂, ◌∙◌, arith, Bool, true, false, cond, ◌==◌, length}
use Rattle.std.proofs.lemmas.Bool.{cases_eq, eqb-true, eq-eqb}
use Rattle.std.proofs.lemmas.List.{length_push, get_or_push, get_or_append_left}
use Rattle.std.specs.Prelude.{Option, None, Some, is_some, option_map, Contains, slice_index_or}
use Rattle.std.specs.List.{find}
use Rattle.smp_bytes.proofs.Members.{contains_here, contains_later}
use Rattle.port_graph.specs.declared.edge.Edge.{Edge}
use Rattle.port_graph.specs.Walks.{has_walk}
use Rattle.port_graph.specs.Slopes.{Slope, down_distance, cost, same_number, port_down, port_up, next_port}
use Rattle.port_graph.specs.Heads.{edges_at, heads, AreDistances}
use Rattle.port_graph.specs.NextPorts.{indexed, AreSlopes, AreCosts, port_nearer, port_by}
use Rattle.port_graph.proofs.Lists.{find_none}
use Rattle.port_graph.proofs.WalkLemmas.{least_is}
use Rattle.port_graph.proofs.Costs.{port_at_target, port_where_down, port_where_up}
use Rattle.port_graph.proofs.Indexing.{ups_indexed, downs_indexed, ups_lead, downs_lead, distance_is, cost_is}

-- where there is no number no edge leads nearer
pub none_nearer : (edges : List Edge) (numbers : List (Option ℕ)) (number : Option ℕ) → number ≡ None → port_nearer edges numbers number ≡ None
none_nearer edges numbers number e =
    ap (option_map (λ e. e.port)) (find_none (λ e. same_number (option_map suc (slice_index_or numbers e.to None)) number) edges
    (λ x. ap (same_number (option_map suc (slice_index_or numbers x.to None))) e ∙ with_none (option_map suc (slice_index_or numbers x.to None))))
  where
    with_none : (o : Option ℕ) → same_number o None ≡ false
    with_none None = refl
    with_none (Some n) = refl

-- none leads nearer than 0
pub none_below : (edges : List Edge) (numbers : List (Option ℕ)) (number : Option ℕ) (n : ℕ) → number ≡ Some n → n < 1 → port_nearer edges numbers number ≡ None
none_below edges numbers number n e h =
    ap (option_map (λ e. e.port)) (find_none (λ e. same_number (option_map suc (slice_index_or numbers e.to None)) number) edges
    (λ x. ap (same_number (option_map suc (slice_index_or numbers x.to None))) (e ∙ ap (λ (m : ℕ). Some m) (is_zero n h))
    ∙ not_zero (slice_index_or numbers x.to None)))
  where
    is_zero : (n : ℕ) → n < 1 → n ≡ 0
    is_zero n h = omega arith

    not_zero : (o : Option ℕ) → same_number (option_map suc o) (Some 0) ≡ false
    not_zero None = refl
    not_zero (Some n) =
        elim (suc n == 0) as (λ t. (suc n == 0) ≡ t → t ≡ false) [ true ↦ λ q. absurd (omega (arith, eqb-true (suc n) 0 q)) | false ↦ λ q. refl ] refl

pub find_same : {X : Type 0} (p q : X → Bool) (xs : List X) → ((x : X) → Contains xs x → p x ≡ q x) → find p xs ≡ find q xs
find_same p q [] h = refl
find_same p q (x ∷ xs) h =
    ap₂ (λ (t : Bool) (o : Option _). cond t (Some x) o) (h x (contains_here x xs)) (find_same p q xs (λ y k. h y (contains_later x y xs k)))

module _ (ups downs : List (List Edge)) (are : AreSlopes ups downs) (t : ℕ) (target : t < length ups) (distances costs : List (Option ℕ))
    (lengths : AreDistances ups t distances) (all : AreCosts ups distances (length ups) costs) where
  abbrev slopes : List Slope
  slopes = indexed ups downs

  is_distance : (s : ℕ) → s < length ups → slice_index_or distances s None ≡ down_distance slopes s t
  is_distance = distance_is ups downs are t distances costs lengths all

  is_cost : (s : ℕ) → s < length ups → slice_index_or costs s None ≡ cost slopes s t
  is_cost = cost_is ups downs are t distances costs lengths all

  is_port_down : (s : ℕ) → s < length ups → port_nearer (edges_at downs s) distances (slice_index_or distances s None) ≡ port_down slopes s t
  is_port_down s h =
      (λ i. option_map (λ e. e.port) (find_same (λ e. same_number (option_map suc (slice_index_or distances e.to None)) (slice_index_or distances s None))
      (λ e. same_number (option_map suc (down_distance slopes e.to t)) (down_distance slopes s t)) (edges_at downs s)
      (λ e k. (λ j. same_number (option_map suc (is_distance e.to (omega (arith, downs_lead ups downs are s e k, are.all)) j)) (is_distance s h j))) i))
      ∙ ap (λ es. option_map (λ e. e.port) (find (λ e. same_number (option_map suc (down_distance slopes e.to t)) (down_distance slopes s t)) es))
      (sym (downs_indexed ups downs are s))

  is_port_up : (s : ℕ) → s < length ups → port_nearer (edges_at ups s) costs (slice_index_or costs s None) ≡ port_up slopes s t
  is_port_up s h =
      (λ i. option_map (λ e. e.port) (find_same (λ e. same_number (option_map suc (slice_index_or costs e.to None)) (slice_index_or costs s None))
      (λ e. same_number (option_map suc (cost slopes e.to t)) (cost slopes s t)) (edges_at ups s)
      (λ e k. (λ j. same_number (option_map suc (is_cost e.to (ups_lead ups downs are s e k) j)) (is_cost s h j))) i))
      ∙ ap (λ es. option_map (λ e. e.port) (find (λ e. same_number (option_map suc (cost slopes e.to t)) (cost slopes s t)) es))
      (sym (ups_indexed ups downs are s))

  at_target : slice_index_or distances t None ≡ Some 0
  at_target =
      lengths.shortest t target
      ∙ least_is 0 (length ups) (has_walk (heads ups) t t) 0 (record {
        from = omega arith;
        bounded = omega arith;
        passes = eq-eqb t t refl;
        least =
            λ m h l. absurd (omega arith);
      })

  -- the port by the distances and the costs is the next port
  pub is_next_port : (s : ℕ) → s < length ups → port_by ups downs distances costs s ≡ next_port slopes s t
  is_next_port s h =
      elim (s == t) as (λ b. (s == t) ≡ b → port_by ups downs distances costs s ≡ next_port slopes s t) [
        | true ↦ λ same.
            let here = ap (λ x. slice_index_or distances x None) (eqb-true s t same) ∙ at_target in
            ap (λ (d : Option ℕ). cond (is_some d) (port_nearer (edges_at downs s) distances d)
            (port_nearer (edges_at ups s) costs (slice_index_or costs s None))) here
            ∙ none_below (edges_at downs s) distances (Some 0) 0 refl (omega arith) ∙ sym (port_at_target slopes s t same)
        | false ↦ λ other.
            (λ i. cond (is_some (is_distance s h i)) (is_port_down s h i) (is_port_up s h i))
            ∙ (elim (down_distance slopes s t) as (λ o. down_distance slopes s t ≡ o → cond (is_some o) (port_down slopes s t) (port_up slopes s t)
            ≡ next_port slopes s t) [
              | None ↦ λ e. sym (port_where_up slopes s t other e)
              | Some d ↦ λ e. sym (port_where_down slopes s t d other e)
            ] refl)
      ] refl

-- the next ports of the first vertices
pub record AreFirstPorts (ups downs : List (List Edge)) (t n : ℕ) (ports : List (Option ℕ)) : Type 0 where
  pub all : length ports ≡ n
  pub next : (a : ℕ) → a < n → slice_index_or ports a None ≡ next_port (indexed ups downs) a t

-- no vertex has one yet
pub ports_none : (ups downs : List (List Edge)) (t : ℕ) (ports : List (Option ℕ)) → ports ≡ [] → AreFirstPorts ups downs t 0 ports
ports_none ups downs t ports e = record { all = ap length e; next = λ a h. absurd (omega arith) }

-- that of one more
pub ports_more : (ups downs : List (List Edge)) (t n : ℕ) (ports : List (Option ℕ)) (p : Option ℕ) → AreFirstPorts ups downs t n ports → p
    ≡ next_port (indexed ups downs) n t
    → AreFirstPorts ups downs t (n + 1) (ports ++ p ∷ [])
ports_more ups downs t n ports p are is =
    record {
      all = omega (arith, length_push ports p, are.all);
      next = λ a h. (elim (cases_eq a n) [
        | inl same ↦ ap (λ x. slice_index_or (ports ++ p ∷ []) x None) same ∙ get_or_push ports p None n are.all ∙ is
            ∙ ap (λ x. next_port (indexed ups downs) x t) (sym same)
        | inr other ↦ let below : a < n = grind arith in get_or_append_left ports (p ∷ []) None a (omega (arith, are.all)) ∙ are.next a below
      ]);
    }
