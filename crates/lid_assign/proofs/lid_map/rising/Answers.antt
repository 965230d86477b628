-- A number with a mark is found, and the others are passed.
use Rattle.std.proofs.Common.{◌++◌, ◌∷◌, [], ◌+◌, sym, ap, ◌∙◌}
use Rattle.std.proofs.lemmas.List.{append_assoc}
use Rattle.lid_assign.specs.LidMap.{marked_from}
use Rattle.lid_assign.proofs.Marked.{marked_more, marked_past}
use Rattle.lid_assign.proofs.lid_map.rising.Goals as goal
use Rattle.lid_assign.proofs.lid_map.rising.Goals.{then-is_given+in_ok-push, else-is_given}

pub loop-lid-preserved : goal.loop-lid-preserved
loop-lid-preserved c =
    let marks = c.args.marks.now in
    let lid = c.loop-lid.lid in
    let found = c.loop-lid.lids.items in
    let rest = marked_from marks (lid + 1) in
    elim c.if-is_given.branch [
      | then-is_given+in_ok-push w ↦
          ap (λ v. v.items ++ rest) w.lids-is ∙ ap (λ xs. xs ++ rest) w.in_ok-push.ensures.items ∙ append_assoc found (w.new.result ∷ []) rest
          ∙ ap (λ n. found ++ n ∷ rest) w.new.ensures ∙ sym (ap (λ xs. found ++ xs) (marked_more marks lid c.loop-lid-test.true w.if-is_given.true))
          ∙ c.loop-lid.invariant
      | else-is_given w ↦
          ap (λ v. v.items ++ rest) w.lids-is ∙ sym (ap (λ xs. found ++ xs) (marked_past marks lid c.loop-lid-test.true w.if-is_given.false))
          ∙ c.loop-lid.invariant
    ]
