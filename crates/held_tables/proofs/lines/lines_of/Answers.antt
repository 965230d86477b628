-- A line more is told where none before it tells the same.
use Rattle.std.proofs.Common.{◌≡◌, ◌∙◌, ◌+◌, ◌++◌, ◌∷◌, [], Global, List, Vec, ap, subst, sym, take}
use Rattle.std.proofs.lemmas.List.{take_more}
use Rattle.held_tables.specs.declared.held.HeldLid.{HeldLid}
use Rattle.held_tables.specs.Tables.{without_repetitions}
use Rattle.held_tables.proofs.Once.{AreKeys, keys_more, line_kept, line_left}
use Rattle.held_tables.proofs.lines.lines_of.Goals as goal
use Rattle.held_tables.proofs.lines.lines_of.Goals.{then-branch+in_ok-push, else-branch}

pub loop-line-preserved : goal.loop-line-preserved
loop-line-preserved c =
    let lines = c.lids-line-items.result.now in
    let k = c.loop-line.line-index in
    let line = c.line-item.result in
    let before : List HeldLid = take k lines in
    let are = c.loop-line.invariant.1 in
    let more : take (k + 1) lines ≡ before ++ line ∷ [] =
    take_more lines k line c.loop-line-test.true ∙ ap (λ x. before ++ x ∷ []) (sym c.line-item.is) in
    let so_far = c.loop-line.invariant.0 in (
      (elim c.if-branch.branch [
        | then-branch+in_ok-push w ↦
            ap (λ (v : Vec HeldLid Global). v.items) w.lines-is ∙ w.in_ok-push.ensures.items ∙ ap (λ xs. xs ++ line ∷ []) so_far
            ∙ sym (line_kept before line c.loop-line.told are (sym c.in_ok-insert.ensures.added ∙ w.if-branch.true))
        | else-branch w ↦
            ap (λ (v : Vec HeldLid Global). v.items) w.lines-is ∙ so_far
            ∙ sym (line_left before line c.loop-line.told are (sym c.in_ok-insert.ensures.added ∙ w.if-branch.false))
      ]) ∙ ap without_repetitions (sym more),
      subst (λ (xs : List HeldLid). AreKeys xs c.insert.new.self) (sym more)
          (keys_more before c.loop-line.told c.insert.new.self line are c.in_ok-insert.ensures.updates),
    )
