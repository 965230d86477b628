-- A LID more.
use Rattle.std.proofs.Common.{◌≡◌, ◌∙◌, ◌++◌, List, [], ◌∷◌, sym, ap, map, arith, append_assoc}
use Rattle.std.proofs.lemmas.List.FromFn.{map-range_with_len_more}
use Rattle.std.specs.List.{range_with_len}
use Rattle.held_tables.specs.declared.held.HeldLid.{HeldLid}
use Rattle.held_tables.specs.Held.{lid_at}
use Rattle.held_tables.proofs.held.push_lids.Goals as goal

pub loop-step-preserved : goal.loop-step-preserved
loop-step-preserved c =
    let f = lid_at c.args.first.now in
    let step = c.loop-step.step in
    let before = c.args.lids.now.items in
    let more : (before ++ map f (range_with_len 0 step)) ++ f step ∷ [] ≡ before ++ (map f (range_with_len 0 step) ++ f step ∷ []) =
    append_assoc before (map f (range_with_len 0 step)) (f step ∷ []) in
    rw c.in_ok-push.ensures.items (rw c.loop-step.invariant (rw c.new.ensures (rw c.number.ensures
    (more ∙ ap (λ (xs : List HeldLid). before ++ xs) (sym (map-range_with_len_more f 0 step step (omega arith)))))))
