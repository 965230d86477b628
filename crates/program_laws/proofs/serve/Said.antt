-- What an answer is made of, and what `written` says.
use Rattle.std.proofs.Common.{◌≡◌, ℕ, Bool, true, false, List, ◌++◌, length, refl, ap, arith}
use Rattle.std.specs.Prelude.{◌↔◌, codes}
use Rattle.sm_manager.specs.Writing.{is_written}
use Rattle.schedule_lines.specs.Lines.{answer_word}
use Rattle.serve_run.specs.Decided.{decided}
use Rattle.serve_run.specs.Served.{served}
use Rattle.program_laws.specs.Says.{DecisionsArePrinted, PacketsArePrinted, WrittenSaysYes}

pub packets_are_printed : PacketsArePrinted
unfolding served
packets_are_printed m line = refl

pub decisions_are_printed : DecisionsArePrinted
unfolding decided
decisions_are_printed a line = refl

says_yes : (b : Bool) → (codes "written " ++ answer_word b ++ codes "\n" ≡ codes "written yes\n") ↔ (b ≡ true)
says_yes true = (λ e. refl, λ e. refl)
says_yes false = (λ e. let same : 11 ≡ 12 = ap (λ (text : List ℕ). length text) e in absurd (omega (arith, same)), λ e. absurd (cc))

pub written_says_yes : WrittenSaysYes
written_says_yes m = says_yes (is_written m)
