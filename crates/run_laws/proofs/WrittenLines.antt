-- What the line `written` tells.
use Rattle.std.proofs.Common.{◌≡◌, ℕ, Bool, true, false, List, length, refl, sym, ap, ◌∙◌, arith, length-append}
use Rattle.std.specs.Prelude.{Some, codes, slice_get}
use Rattle.std.specs.Option.{option_map_or}
use Rattle.schedule_file.specs.declared.command.Shown.TheVariants.{Written}
use Rattle.sm_manager.specs.Writing.{is_written}
use Rattle.schedule_lines.specs.Lines.{answer_word, end_word, written_line}
use Rattle.schedule_run.specs.Commands.{shown_at, shown_of}
use Rattle.schedule_run.specs.World.{SeatedValue, WorldValue}
use Rattle.run_laws.specs.Lines.{WrittenLinesTell}

-- the line of a manager in its seat
pub written_shown : (w : WorldValue) (seat : ℕ) (s : SeatedValue) → slice_get w.managers seat ≡ Some s
    → shown_of w seat Written ≡ written_line (Some s.name) (is_written s.manager)
unfolding shown_of
written_shown w seat s there = ap (λ o. option_map_or (shown_at Written) o (codes "")) there

-- `yes` is longer than `no`
yes_is_true : (name : List ℕ) (b : Bool) → written_line (Some name) b ≡ written_line (Some name) true → b ≡ true
yes_is_true name true e = refl
yes_is_true name false e =
    let no = length-append name (end_word (answer_word false)) in
    let yes = length-append name (end_word (answer_word true)) in
    absurd (omega (arith, ap length e, no, yes))

pub written_lines_tell : WrittenLinesTell
written_lines_tell w seat s there =
    let shown = written_shown w seat s there in
    ((λ e. yes_is_true s.name (is_written s.manager) (sym shown ∙ e)), (λ e. shown ∙ ap (written_line (Some s.name)) e))
