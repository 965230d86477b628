use Rattle.std.proofs.Common.{[], List, Option, ℕ, sym, subst}
use Rattle.topo_file.proofs.FirstFault.{HasJudged, judged_none}
use Rattle.topo_file.proofs.first_fault.first_line_fault.Goals as goal

pub loop-line-init : goal.loop-line-init
loop-line-init c =
    let Judged : List (Option (List ℕ)) → Type 0 = λ names. HasJudged c.args.text.now c.args.text.now names 0 in
    subst Judged (sym c.new-names.ensures) (judged_none c.args.text.now)
