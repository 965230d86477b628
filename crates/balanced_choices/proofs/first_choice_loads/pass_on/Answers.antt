use Rattle.std.proofs.Common.{◌≡◌, ◌<◌, ◌+◌, ◌-◌, ◌*◌, ◌/◌, ◌%◌, ℕ, [], ◌∷◌, sym, ap, ◌∙◌, arith, get_or, length, min}
use Rattle.std.proofs.lemmas.List.{nil_from_length}
use Rattle.std.specs.Option.{option_map_or}
use Rattle.std.specs.Prelude.{Some, slice_index}
use Rattle.port_graph.specs.Heads.{edges_at}
use Rattle.spread_labels.specs.Orders.{numbers_from}
use Rattle.balanced_choices.specs.declared.ways.Change.TheVariants.{Add}
use Rattle.balanced_choices.specs.Ways.{channel_by, with_changes}
use Rattle.balanced_choices.specs.BalancedChoices.{weight_among}
use Rattle.balanced_choices.specs.Loads.{Passing, first_edge, passed_to, with_passed}
use Rattle.balanced_choices.proofs.Counting.{turn_of}
use Rattle.balanced_choices.proofs.FirstLoads.{edge_in_turn, index_past, index_within, none_passed, not_there}
use Rattle.balanced_choices.proofs.InOrder.{numbers_left}
use Rattle.balanced_choices.proofs.first_choice_loads.pass_on.Goals as goal
use Rattle.balanced_choices.proofs.first_choice_loads.pass_on.Goals.{then-edge-len, else-edge-len}

pub returns-then-count-eq0 : goal.returns-then-count-eq0
returns-then-count-eq0 c =
    let d = c.args.destination.now in
    let p = c.args.position in
    let edges = edges_at c.args.ways.now p in
    let now : Passing = record { had = c.args.had.now; loads = c.args.loads.now } in
    let weight = weight_among c.args.digits.now edges p in
    let none : length edges ≡ 0 = omega (arith, c.min-count.ensures, c.if-count-eq0.true, ap length c.at-edges.ensures) in
    ap (λ es. passed_to d.ends es weight p d.number now (numbers_from 0 d.ends)) (nil_from_length edges none)
    ∙ none_passed d.ends weight p d.number now (numbers_from 0 d.ends)

pub bounds-had-position : goal.bounds-had-position
bounds-had-position c =
    let n = length c.args.ways.now in
    let ends = c.from-ends.result in
    let within = index_within n ends c.args.position c.loop-k.k c.requires.position c.loop-k-test.true in
    omega (arith, within, c.loop-k.auto.had, c.requires.had, ap (λ e. n * e) c.from-ends.ensures)

pub loop-k-preserved : goal.loop-k-preserved
loop-k-preserved c =
    let n = length c.args.ways.now in
    let p = c.args.position in
    let edges = edges_at c.args.ways.now p in
    let weight = weight_among c.args.digits.now edges p in
    let d = c.args.destination.now in
    let ends = d.ends in
    let ends_are : c.from-ends.result ≡ ends = c.from-ends.ensures in
    let k = c.loop-k.k in
    let e = c.index-edges-choice.result in
    let had = c.loop-k.had in
    let loads = c.loop-k.loads in
    let so_far = c.loop-k.invariant in
    let count = min (length edges) 256 in
    let at = c.at-edges.ensures in
    let some : 0 < count = omega (arith, c.min-count.ensures, c.if-count-eq0.false, ap length at) in
    let choice = c.choice.ensures ∙ c.go_to.ensures.choice
    ∙ (λ i. ((d.number + k) / so_far.weight i + so_far.offset i) % so_far.count i) ∙ turn_of weight (d.number + k) p count in
    let edge : first_edge edges weight p (d.number + k) ≡ Some e =
    edge_in_turn edges weight p (d.number + k) c.choice.result e some choice
    (c.index-edges-choice.is ∙ ap (λ es. get_or es c.choice.result e) at) in
    let x = slice_index had (p * ends + k) in
    let had_then : c.if-edge-len.had ≡ with_changes (Add x) had ((e.to * ends + k) ∷ []) =
    (elim c.if-edge-len.branch [
      | then-edge-len w ↦ w.had-is ∙ w.add_at.ensures
          ∙ (λ i. with_changes (Add (slice_index had (p * ends_are i + k))) had ((e.to * ends_are i + k) ∷ []))
      | else-edge-len w ↦
          let past = index_past n ends e.to k (omega (arith, w.if-edge-len.false, c.len.ensures)) in
          w.had-is ∙ sym (not_there (Add x) had (e.to * ends + k) (omega (arith, past, c.loop-k.auto.had, c.requires.had)))
    ]) in
    let loads_then : c.add_at-in-loop-k.new.numbers ≡ with_changes (Add x) loads (channel_by p e ∷ []) =
    c.add_at-in-loop-k.ensures
    ∙ (λ i. with_changes (Add (slice_index had (p * ends_are i + k))) loads ((256 * p + (c.from.ensures ∙ c.number.ensures) i) ∷ [])) in
    let now : Passing = record { had = had; loads = loads } in
    let after : Passing = record { had = c.if-edge-len.had; loads = c.add_at-in-loop-k.new.numbers } in
    let step : ℕ → Passing = λ j. option_map_or (with_passed ends p j now) (first_edge edges weight p (d.number + j)) now in
    let passed : step k ≡ after =
    ap (λ o. option_map_or (with_passed ends p k now) o now) edge
    ∙ (λ i. record { had = sym had_then i; loads = sym loads_then i }) in
    let rest = numbers_from (k + 1) (ends - (k + 1)) in
    record {
      turn = c.go_to.ensures.turn;
      count = c.go_to.ensures.same.count ∙ so_far.count;
      offset = c.go_to.ensures.same.offset ∙ so_far.offset;
      weight = c.go_to.ensures.same.weight ∙ so_far.weight;
      left = ap (λ x. passed_to ends edges weight p d.number x rest) (sym passed)
          ∙ sym (ap (passed_to ends edges weight p d.number now) (numbers_left ends k (omega (arith, c.loop-k-test.true, ends_are))))
          ∙ so_far.left;
    }
