-- What is picked among candidates leads to the target.
use Rattle.std.proofs.Common.{◌≡◌, ◌<◌, ◌≢◌, ℕ, zero, suc, List, [], ◌∷◌, ◌++◌, inl, inr, refl, sym, ap, ◌∙◌, arith, length, false, ◌==◌}
use Rattle.std.proofs.lemmas.Bool.{ne_eqb}
use Rattle.std.proofs.lemmas.Option.{same_Some}
use Rattle.std.specs.Prelude.{Some, Contains, option_map}
use Rattle.std.specs.List.{AllByRecursion, IsDistinct}
use Rattle.port_graph.specs.declared.edge.Edge.{Edge}
use Rattle.spread_labels.specs.declared.label.Label.TheVariants.{Down}
use Rattle.spread_labels.specs.declared.label.Mark.{Mark}
use Rattle.spread_labels.specs.Labels.{marks, candidates}
use Rattle.spread_labels.specs.LabelLaws.{IsStep}
use Rattle.spread_labels.specs.Ways.{Climbs, Descends, Follows, cost, CostsFall, vertices_along, WaysLaw}
use Rattle.spread_labels.proofs.Rounds.{no_cost_at, target_marked}
use Rattle.spread_labels.proofs.Steps.{step_at}

module _ (edges : List (List Edge)) (t : ℕ) where
  cost_at : (s : ℕ) (m : Mark) (n : ℕ) → marks edges t s ≡ Some m → m.cost ≡ n → cost edges t s ≡ Some n
  cost_at s m n e c = ap (option_map (λ (x : Mark). x.cost)) e ∙ ap (λ (x : ℕ). Some x) c

  -- a vertex of greater cost is not passed
  not_passed : (es : List Edge) (n s x k : ℕ) → cost edges t x ≡ Some k → n < k → cost edges t s ≡ Some n → CostsFall edges t n es
      → AllByRecursion (λ y. (x == y) ≡ false) (vertices_along s es)
  not_passed [] n s x k e h c f = (apart n s x k e h c, tt)
    where
      apart : (n s x k : ℕ) → cost edges t x ≡ Some k → n < k → cost edges t s ≡ Some n → (x == s) ≡ false
      apart n s x k e h c = ne_eqb x s (λ same. let z : k ≡ n = same_Some k n (sym e ∙ ap (cost edges t) same ∙ c) in omega arith)
  not_passed (y ∷ es) zero s x k e h c f = absurd f
  not_passed (y ∷ es) (suc n) s x k e h c f = (
    ne_eqb x s (λ same. let z : k ≡ suc n = same_Some k (suc n) (sym e ∙ ap (cost edges t) same ∙ c) in omega arith),
    not_passed es n y.to x k e (omega arith) f.0 f.1,
  )

  all_distinct : (es : List Edge) (n s : ℕ) → cost edges t s ≡ Some n → CostsFall edges t n es → IsDistinct (λ a b. a == b) (vertices_along s es)
  unfolding IsDistinct
  all_distinct [] n s c f = (tt, tt)
  all_distinct (e ∷ es) zero s c f = absurd f
  all_distinct (e ∷ es) (suc n) s c f = (not_passed es n e.to s (suc n) c (omega arith) f.0 f.1, all_distinct es n e.to f.0 f.1)

  apart_at : (s : ℕ) (m : Mark) (n : ℕ) → marks edges t s ≡ Some m → m.cost ≡ suc n → s ≢ t
  apart_at s m n e c same =
      let start : Mark = record { cost = 0; label = Down } in
      let q : m ≡ start = same_Some m start (sym e ∙ ap (marks edges t) same ∙ target_marked edges t (length edges)) in
      let z : m.cost ≡ 0 = ap (λ (x : Mark). x.cost) q in
      omega arith

module _ (edges : List (List Edge)) (t : ℕ) (pick : ℕ → Edge)
    (picks : (s : ℕ) (m : Mark) → marks edges t s ≡ Some m → s ≢ t → Contains (candidates edges t s) (pick s)) where
  -- a way down by what is picked
  record DownWay (s n : ℕ) : Type 0 where
    pub downs : List Edge
    pub descends : Descends edges s downs t
    pub follows : Follows pick t s downs
    pub falls_by_one : CostsFall edges t n downs
    pub wires : length downs ≡ n

  record UpDownWay (s n : ℕ) : Type 0 where
    pub ups : List Edge
    pub downs : List Edge
    pub summit : ℕ
    pub climbs : Climbs edges s ups summit
    pub descends : Descends edges summit downs t
    pub follows : Follows pick t s (ups ++ downs)
    pub falls_by_one : CostsFall edges t n (ups ++ downs)
    pub wires : length (ups ++ downs) ≡ n

  picked : (s : ℕ) (m : Mark) → marks edges t s ≡ Some m → s ≢ t → IsStep edges t s m (pick s)
  picked s m e apart = step_at edges t s m e (pick s) (picks s m e apart)

  down_way : (n s : ℕ) (m : Mark) → marks edges t s ≡ Some m → m.cost ≡ n → m.label ≡ Down → DownWay s n
  down_way zero s m e c l =
      let same = no_cost_at edges t (length edges) s m e c in
      record { downs = []; descends = same; follows = same; falls_by_one = tt; wires = refl }
  down_way (suc n) s m e c l =
      let apart = apart_at edges t s m n e c in
      let p = picked s m e apart in
      let d = p.from_down l in
      let to_cost : p.to.cost ≡ n = omega (arith, p.nearer) in
      let w = down_way n (pick s).to p.to p.labelled to_cost d.1 in
      record {
        downs = pick s ∷ w.downs;
        descends = (p.edge, d.0, w.descends);
        follows = (apart, refl, w.follows);
        falls_by_one = (cost_at edges t (pick s).to p.to n p.labelled to_cost, w.falls_by_one);
        wires = ap suc w.wires;
      }

  up_down_way : (n s : ℕ) (m : Mark) → marks edges t s ≡ Some m → m.cost ≡ n → UpDownWay s n
  up_down_way zero s m e c =
      let same = no_cost_at edges t (length edges) s m e c in
      record { ups = []; downs = []; summit = s; climbs = refl; descends = same; follows = same; falls_by_one = tt; wires = refl }
  up_down_way (suc n) s m e c =
      let apart = apart_at edges t s m n e c in
      let p = picked s m e apart in
      let to_cost : p.to.cost ≡ n = omega (arith, p.nearer) in
      let its_cost = cost_at edges t (pick s).to p.to n p.labelled to_cost in
      elim p.up_or_down [
        | inl up ↦
            let w = up_down_way n (pick s).to p.to p.labelled to_cost in
            record {
              ups = pick s ∷ w.ups;
              downs = w.downs;
              summit = w.summit;
              climbs = (p.edge, up, w.climbs);
              descends = w.descends;
              follows = (apart, refl, w.follows);
              falls_by_one = (its_cost, w.falls_by_one);
              wires = ap suc w.wires;
            }
        | inr down ↦
            let w = down_way n (pick s).to p.to p.labelled to_cost down.1 in
            record {
              ups = [];
              downs = pick s ∷ w.downs;
              summit = s;
              climbs = refl;
              descends = (p.edge, down.0, w.descends);
              follows = (apart, refl, w.follows);
              falls_by_one = (its_cost, w.falls_by_one);
              wires = ap suc w.wires;
            }
      ]

pub ways_in_words : WaysLaw
ways_in_words edges home pick picks lid s m e =
    let w = up_down_way edges (home lid) (pick lid) (picks lid) m.cost s m e refl in
    record {
      ups = w.ups;
      downs = w.downs;
      summit = w.summit;
      climbs = w.climbs;
      descends = w.descends;
      follows = w.follows;
      falls_by_one = w.falls_by_one;
      wires = w.wires;
      none_twice = all_distinct edges (home lid) (w.ups ++ w.downs) m.cost s (cost_at edges (home lid) s m m.cost e refl) w.falls_by_one;
    }
