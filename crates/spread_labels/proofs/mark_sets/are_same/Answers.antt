use Rattle.std.proofs.Common.{◌≡◌, sym, ap, ◌∙◌, arith}
use Rattle.std.proofs.lemmas.List.{get_or_default}
use Rattle.spread_labels.specs.TargetSet.{has, no_targets}
use Rattle.spread_labels.specs.MarkSets.{set_at}
use Rattle.spread_labels.proofs.mark_sets.are_same.Goals as goal

pub returns-then-not-is_same : goal.returns-then-not-is_same
returns-then-not-is_same c =
    let v = c.loop-vertex.vertex in
    let olds = c.args.old.now.marked.items in
    let news = c.args.new.now.marked.items in
    let before : set_at olds v ≡ c.index.result.now = get_or_default olds v no_targets c.index.result.now (omega arith) ∙ sym c.index.ensures in
    let after : set_at news v ≡ c.index-in-loop-vertex.result.now =
    get_or_default news v no_targets c.index-in-loop-vertex.result.now (omega arith) ∙ sym c.index-in-loop-vertex.ensures in (
      λ e. cc,
      λ same. sym c.if-not-is_same.true
          ∙ c.is_same.ensures.1 (λ k h. ap (λ s. has s k) (sym before) ∙ same k h v (omega arith) ∙ ap (λ s. has s k) after),
    )
