-- Costs follow the up wires, and fall by one along each next port: a packet that goes by next ports comes to its target in as many wires as the cost.
use Rattle.std.proofs.Common.{◌≡◌, ◌≤◌, ◌<◌, ℕ, zero, suc, List, [], ◌∷◌, refl, sym, ap, ap₂, ◌∙◌, arith, Bool, true, false, cond, ◌==◌, length}
use Rattle.std.proofs.lemmas.Option.{none-some, same_Some}
use Rattle.std.proofs.lemmas.Bool.{eqb-true, eq-eqb}
use Rattle.std.specs.Prelude.{Option, None, Some, is_some, option_map, Contains}
use Rattle.std.specs.List.{filter_map}
use Rattle.port_graph.specs.declared.edge.Edge.{Edge}
use Rattle.port_graph.specs.Walks.{has_walk}
use Rattle.port_graph.specs.Slopes.{Slope, ups_at, downs_at, below, down_distance, least_of, cost_within, cost, same_number, port_down, port_up}
use Rattle.port_graph.specs.Slopes.{next_port}
use Rattle.port_graph.specs.Routes.{Descends, GoesBy, CostsFall, Way}
use Rattle.port_graph.proofs.WalkLemmas.{least_is, shortest_is, shortest_step, shortest_zero}
use Rattle.port_graph.proofs.Lists.{found, nothing_there, contains_map, filter_map_same, contains-from_filter_map, least_is_one}

-- down where that leads there, else one more than the least cost over the up wires
abbrev pub cost_by : List Slope → ℕ → ℕ → (Edge → Option ℕ) → Option ℕ
cost_by slopes s t costs = let down = down_distance slopes s t in cond (is_some down) down (option_map suc (least_of (filter_map costs (ups_at slopes s))))

itself_or_none : (o : Option ℕ) → cond (is_some o) o None ≡ o
itself_or_none None = refl
itself_or_none (Some d) = refl

-- one next port: down and nearer, or up where no way leads down, with a cost less by one
pub data NextHop (slopes : List Slope) (s t n : ℕ) : Type 0 where
  down : (e : Edge) → next_port slopes s t ≡ Some e.port → Contains (downs_at slopes s) e → down_distance slopes e.to t ≡ Some n → NextHop slopes s t n
  up : (e : Edge) → next_port slopes s t ≡ Some e.port → down_distance slopes s t ≡ None → Contains (ups_at slopes s) e → cost slopes e.to t ≡ Some n
      → NextHop slopes s t n

-- a next port up
pub record UpHop (slopes : List Slope) (s t n : ℕ) : Type 0 where
  pub edge : Edge
  pub port : next_port slopes s t ≡ Some edge.port
  pub there : Contains (ups_at slopes s) edge
  pub its_cost : cost slopes edge.to t ≡ Some n

-- a way down by next ports
pub record DownWay (slopes : List Slope) (s t n : ℕ) : Type 0 where
  pub downs : List Edge
  pub descends : Descends slopes s downs t
  pub goes : GoesBy slopes t s downs
  pub falls_by_one : CostsFall slopes t n downs
  pub wires : length downs ≡ n

pub none_less : (o : Option ℕ) (n : ℕ) → option_map suc o ≡ Some (suc n) → o ≡ Some n
none_less None n e = absurd (cc)
none_less (Some m) n e = let k : suc m ≡ suc n = same_Some (suc m) (suc n) e in let r : m ≡ n = omega arith in ap (λ (w : ℕ). Some w) r

pub not_zero : (o : Option ℕ) → option_map suc o ≡ Some 0 → ⊥
not_zero None e = cc
not_zero (Some m) e = let k : suc m ≡ 0 = same_Some (suc m) 0 e in omega arith

pub same_at : (o p : Option ℕ) (n : ℕ) → o ≡ Some n → p ≡ Some (suc n) → same_number (option_map suc o) p ≡ true
same_at o p n e k = ap (λ x. same_number (option_map suc x) p) e ∙ ap (same_number (Some (suc n))) k ∙ eq-eqb (suc n) (suc n) refl

pub same_from : (o p : Option ℕ) (n : ℕ) → same_number (option_map suc o) p ≡ true → p ≡ Some (suc n) → o ≡ Some n
same_from None p n e k = absurd (cc)
same_from (Some m) None n e k = absurd (cc)
same_from (Some m) (Some q) n e k =
    let r : m ≡ n = omega (arith, eqb-true (suc m) q e, same_Some q (suc n) k) in
    ap (λ (w : ℕ). Some w) r

-- the next port at the target and away from it
module _ (slopes : List Slope) (s t : ℕ) where
  abbrev port_by : Bool → Option ℕ → Option ℕ
  port_by same distance = cond same None (cond (is_some distance) (port_down slopes s t) (port_up slopes s t))

  pub port_at_target : (s == t) ≡ true → next_port slopes s t ≡ None
  port_at_target same = ap (λ b. port_by b (down_distance slopes s t)) same

  pub port_where_down : (d : ℕ) → (s == t) ≡ false → down_distance slopes s t ≡ Some d → next_port slopes s t ≡ port_down slopes s t
  port_where_down d apart e = ap₂ port_by apart e

  pub port_where_up : (s == t) ≡ false → down_distance slopes s t ≡ None → next_port slopes s t ≡ port_up slopes s t
  port_where_up apart e = ap₂ port_by apart e

module _ (slopes : List Slope) (height : ℕ → ℕ) (falls : (s : ℕ) (e : Edge) → Contains (ups_at slopes s) e → height e.to < height s) where
  -- more climbs than the height change nothing
  stable : (k s t : ℕ) → height s ≤ k → cost_within slopes (suc k) s t ≡ cost_within slopes k s t
  stable zero s t h =
      let none : ups_at slopes s ≡ [] = nothing_there (ups_at slopes s) (λ e c. let f = falls s e c in omega arith) in
      ap (λ us. cond (is_some (down_distance slopes s t)) (down_distance slopes s t)
      (option_map suc (least_of (filter_map (λ e. cost_within slopes zero e.to t) us)))) none
      ∙ itself_or_none (down_distance slopes s t)
  stable (suc k) s t h =
      ap (λ ns. cond (is_some (down_distance slopes s t)) (down_distance slopes s t) (option_map suc (least_of ns)))
      (filter_map_same (λ e. cost_within slopes (suc k) e.to t) (λ e. cost_within slopes k e.to t) (ups_at slopes s)
      (λ e c. let f = falls s e c in stable k e.to t (omega arith)))

module _ (slopes : List Slope) (height : ℕ → ℕ) (falls : (s : ℕ) (e : Edge) → Contains (ups_at slopes s) e → height e.to < height s)
    (bounded : (s : ℕ) → height s ≤ length slopes) where
  -- the recursion of costs
  pub cost_recurs : (s t : ℕ) → cost slopes s t ≡ cost_by slopes s t (λ e. cost slopes e.to t)
  cost_recurs s t = sym (stable slopes height falls (length slopes) s t (bounded s))

  pub cost_down : (s t d : ℕ) → down_distance slopes s t ≡ Some d → cost slopes s t ≡ Some d
  cost_down s t d e = cost_recurs s t ∙ ap (λ o. cond (is_some o) o (option_map suc (least_of (filter_map (λ x. cost slopes x.to t) (ups_at slopes s))))) e

  pub cost_up : (s t : ℕ) → down_distance slopes s t ≡ None
      → cost slopes s t ≡ option_map suc (least_of (filter_map (λ x. cost slopes x.to t) (ups_at slopes s)))
  cost_up s t e = cost_recurs s t ∙ ap (λ o. cond (is_some o) o (option_map suc (least_of (filter_map (λ x. cost slopes x.to t) (ups_at slopes s))))) e

  hop_down : (s t n : ℕ) → (s == t) ≡ false → down_distance slopes s t ≡ Some (suc n) → NextHop slopes s t n
  hop_down s t n apart e =
      let c = shortest_step (below slopes) (length slopes) s t n e in
      let x = contains_map (λ (y : Edge). y.to) (downs_at slopes s) c.0 c.1 in
      let test : Edge → Bool = λ y. same_number (option_map suc (down_distance slopes y.to t)) (down_distance slopes s t) in
      let passes : test x.0 ≡ true = same_at (down_distance slopes x.0.to t) (down_distance slopes s t) n (ap (λ y. down_distance slopes y t) x.2 ∙ c.2) e in
      let f = found test (downs_at slopes s) x.0 x.1 passes in
      down f.0
      (port_where_down slopes s t (suc n) apart e ∙ ap (option_map (λ (y : Edge). y.port)) f.1)
      f.2 (same_from (down_distance slopes f.0.to t) (down_distance slopes s t) n f.3 e)

  hop_up : (s t n : ℕ) → (s == t) ≡ false → down_distance slopes s t ≡ None → cost slopes s t ≡ Some (suc n) → UpHop slopes s t n
  hop_up s t n apart e k =
      let l = none_less (least_of (filter_map (λ x. cost slopes x.to t) (ups_at slopes s))) n (sym (cost_up s t e) ∙ k) in
      let i = least_is_one (filter_map (λ x. cost slopes x.to t) (ups_at slopes s)) n l in
      let x = contains-from_filter_map (λ (y : Edge). cost slopes y.to t) (ups_at slopes s) n i.0 in
      let test : Edge → Bool = λ y. same_number (option_map suc (cost slopes y.to t)) (cost slopes s t) in
      let f = found test (ups_at slopes s) x.0 x.1 (same_at (cost slopes x.0.to t) (cost slopes s t) n x.2 k) in
      record {
        edge = f.0;
        port = port_where_up slopes s t apart e ∙ ap (option_map (λ (y : Edge). y.port)) f.1;
        there = f.2;
        its_cost = same_from (cost slopes f.0.to t) (cost slopes s t) n f.3 k;
      }

  -- the next port leads to a switch whose cost is one less
  pub next_hop : (s t n : ℕ) → (s == t) ≡ false → cost slopes s t ≡ Some (suc n) → NextHop slopes s t n
  next_hop s t n apart k =
      elim (down_distance slopes s t) as (λ o. down_distance slopes s t ≡ o → NextHop slopes s t n) [
        | None ↦ λ e. let u = hop_up s t n apart e k in up u.edge u.port e u.there u.its_cost
        | Some d ↦ λ e. hop_down s t n apart (e ∙ ap (λ (w : ℕ). Some w) (same_Some d (suc n) (sym (cost_down s t d e) ∙ k)))
      ] refl

  -- no cost only at the target
  pub at_no_cost : (s t : ℕ) → cost slopes s t ≡ Some 0 → s ≡ t
  at_no_cost s t k =
      elim (down_distance slopes s t) as (λ o. down_distance slopes s t ≡ o → s ≡ t) [
        | None ↦ λ e. absurd (not_zero (least_of (filter_map (λ x. cost slopes x.to t) (ups_at slopes s))) (sym (cost_up s t e) ∙ k))
        | Some d ↦ λ e. shortest_zero (below slopes) (length slopes) s t (e ∙ sym (cost_down s t d e) ∙ k)
      ] refl

  apart_down : (s t n : ℕ) → down_distance slopes s t ≡ Some (suc n) → (s == t) ≡ false
  apart_down s t n e =
      elim (s == t) as (λ b. (s == t) ≡ b → b ≡ false) [
        | true ↦ λ p. let l = (shortest_is (below slopes) (length slopes) s t (suc n) e).least 0 (eqb-true s t p) in absurd (omega arith)
        | false ↦ λ p. refl
      ] refl

  pub down_way : (n s t : ℕ) → down_distance slopes s t ≡ Some n → DownWay slopes s t n
  down_way zero s t e =
      let k = shortest_zero (below slopes) (length slopes) s t e in
      record { downs = []; descends = k; goes = k; falls_by_one = tt; wires = refl }
  down_way (suc n) s t e =
      let apart = apart_down s t n e in
      elim (hop_down s t n apart e) [
        | down x port there nearer ↦
            let w = down_way n x.to t nearer in
            record {
              downs = x ∷ w.downs;
              descends = (there, w.descends);
              goes = (apart, port, w.goes);
              falls_by_one = (cost_down x.to t n nearer, w.falls_by_one);
              wires = ap suc w.wires;
            }
        | up x port none there nearer ↦ absurd (cc)
      ]

  at_self : (x : ℕ) → 0 < length slopes → down_distance slopes x x ≡ Some 0
  at_self x some =
      least_is 0 (length slopes) (has_walk (below slopes) x x) 0
      (record { from = omega arith; bounded = omega arith; passes = eq-eqb x x refl; least = λ m h l. absurd (omega arith) })

  apart_up : (s t : ℕ) → 0 < length slopes → down_distance slopes s t ≡ None → (s == t) ≡ false
  apart_up s t some e =
      elim (s == t) as (λ b. (s == t) ≡ b → b ≡ false) [
        | true ↦ λ p. absurd (none-some 0 (sym e ∙ ap (λ x. down_distance slopes s x) (sym (eqb-true s t p)) ∙ at_self s some))
        | false ↦ λ p. refl
      ] refl

  -- from each switch that has a cost there is such a way
  pub way : (n s t : ℕ) → 0 < length slopes → cost slopes s t ≡ Some n → Way slopes s t n
  way zero s t some k =
      let e = at_no_cost s t k in
      record { ups = []; downs = []; summit = s; climbs = refl; descends = e; goes = e; falls_by_one = tt; wires = refl }
  way (suc n) s t some k =
      elim (down_distance slopes s t) as (λ o. down_distance slopes s t ≡ o → Way slopes s t (suc n)) [
        | Some d ↦ λ e.
            let w = down_way (suc n) s t (e ∙ sym (cost_down s t d e) ∙ k) in
            record {
              ups = [];
              downs = w.downs;
              summit = s;
              climbs = refl;
              descends = w.descends;
              goes = w.goes;
              falls_by_one = w.falls_by_one;
              wires = w.wires;
            }
        | None ↦ λ e.
            let u = hop_up s t n (apart_up s t some e) e k in
            let w = way n u.edge.to t some u.its_cost in
            record {
              ups = u.edge ∷ w.ups;
              downs = w.downs;
              summit = w.summit;
              climbs = (u.there, w.climbs);
              descends = w.descends;
              goes = (apart_up s t some e, u.port, w.goes);
              falls_by_one = (u.its_cost, w.falls_by_one);
              wires = ap suc w.wires;
            }
      ] refl
