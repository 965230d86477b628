use Rattle.std.proofs.Common.{rules, replicate, ◌≡◌, ◌<◌, ◌+◌, ◌++◌, ◌∙◌, ℕ, List, [], ◌∷◌, Vec, Global, All, add-one, ap, sym, subst, length, map, arith}
use Rattle.std.specs.Prelude.{Option, None}
use Rattle.std.specs.List.{zip}
use Rattle.std.proofs.lemmas.List.Elements.{All-push}
use Rattle.spread_labels.specs.Growth.{earliest_of}
use Rattle.spread_labels.specs.KeyOrder.{before_by}
use Rattle.spread_labels.specs.Orders.{numbers_from}
use Rattle.spread_labels.proofs.Numbers.{distances_are, numbers_long}
use Rattle.depth_orders.specs.DepthOrder.{with_next}
use Rattle.trial_loads.specs.Starts.{near_start, near_starts, nearer, next_start, starts, starts_before}
use Rattle.trial_loads.proofs.Remote.{near_more, none_near}
use Rattle.trial_loads.proofs.starts.starts.Goals as goal
use Rattle.trial_loads.proofs.starts.starts.Goals.{in-Some+in_ok-found+in_ok-near-2+in_ok-push, in_default}

pub loop-count-init : goal.loop-count-init
loop-count-init c =
    let none = c.new-starts.ensures.items in
    let edges = c.args.edges.now in
    let nowhere : c.in_ok-near.near.items ≡ replicate c.len.result None = search rules in
    record {
      starts = none;
      near = nowhere ∙ none_near 0 c.len.result ∙ ap (λ n. map (near_start edges []) (numbers_from 0 n)) c.len.ensures
          ∙ ap (near_starts edges) (sym none);
      vertices = subst (λ (xs : List ℕ). All (λ start. start < length edges) xs) (sym none) (λ k d h. absurd (omega (arith, h)));
    }

pub farthest-requires : goal.farthest-requires
farthest-requires c =
    ap length (c.deref.ensures.value ∙ c.loop-count.invariant.near)
    ∙ numbers_long (near_start c.args.edges.now c.loop-count.starts.items) 0 (length c.args.edges.now) ∙ sym c.requires.keys

pub loop-count-preserved : goal.loop-count-preserved
loop-count-preserved c =
    let edges = c.args.edges.now in
    let before = before_by c.args.keys.now in
    let n = c.loop-count.count in
    let told = c.loop-count.invariant in
    let found = c.loop-count.starts.items in
    let next : c.farthest.result ≡ next_start edges before (starts edges before n) =
    c.farthest.ensures.farthest
    ∙ (λ i. earliest_of (starts_before ((c.deref.ensures.value ∙ told.near ∙ ap (near_starts edges) told.starts) i) before) (numbers_from 0 (c.requires.keys i))) in
    let grown : with_next found c.farthest.result ≡ starts edges before (n + 1) =
    (λ i. with_next (told.starts i) (next i)) ∙ sym (ap (starts edges before) (add-one n)) in
    elim c.match-farthest.branch [
      | in-Some+in_ok-found+in_ok-near-2+in_ok-push w ↦
          let start = w.in-Some.start in
          let items : c.match-farthest.starts.items ≡ found ++ start ∷ [] = ap (λ (v : Vec ℕ Global). v.items) w.starts-is ∙ w.in_ok-push.ensures.items in
          let one = w.deref-in-Some.ensures.value ∙ told.near in
          let two = w.deref-in-Some-2.ensures.value ∙ distances_are edges start w.in_ok-found.found.items w.in_ok-found.ensures in
          record {
            starts = items ∙ ap (with_next found) (sym w.in-Some.is) ∙ grown;
            near = ap (λ (v : Vec (Option ℕ) Global). v.items) w.near-is ∙ w.in_ok-near-2.ensures
                ∙ (λ i. map (λ p. nearer p.0 p.1) (zip (one i) (two i))) ∙ near_more edges found start ∙ ap (near_starts edges) (sym items);
            vertices = subst (λ (xs : List ℕ). All (λ x. x < length edges) xs) (sym items)
                (All-push (λ x. x < length edges) found start told.vertices
                (subst (λ (k : ℕ). start < k) c.requires.keys w.in-Some.ensures.vertex));
          }
      | in_default w ↦
          let items : c.match-farthest.starts.items ≡ found = ap (λ (v : Vec ℕ Global). v.items) w.starts-is in
          record {
            starts = items ∙ ap (with_next found) (sym w.in_default.is) ∙ grown;
            near = ap (λ (v : Vec (Option ℕ) Global). v.items) w.near-is ∙ told.near ∙ ap (near_starts edges) (sym items);
            vertices = subst (λ (xs : List ℕ). All (λ x. x < length edges) xs) (sym items) told.vertices;
          }
    ]
