-- The text is refused.
use Rattle.std.proofs.Common.{◌≡◌, ℕ, List, None, Some, Result, Ok, Err, ap, refl}
use Rattle.std.specs.Prelude.{option_map, if◌then◌else◌}
use Rattle.std.specs.Result.{result_err}
use Rattle.roots_file.specs.Reading.{roots_of}
use Rattle.roots_file.specs.RootsTextFault.{RootsLineFault}
use Rattle.roots_file.specs.RootsTextFault.{RootsTextFault as RootsFault}
use Rattle.text_words.specs.LinesFault.{is_memory}
use Rattle.text_words.specs.declared.lines_fault.LinesFault.TheVariants as wrong
use Rattle.sm_cli.specs.declared.text_fault.TextFault.TheVariants as texts
use Rattle.sm_cli.specs.FromText.{IsSwitchesFault}
use Rattle.sm_cli.proofs.from_text.VecGuidFromText.parse.Goals as goal

-- a text's first fault, or lack of memory if it has none
faulty : (told : Result (List ℕ) RootsLineFault) (fault : RootsLineFault) → option_map wrong.Line (result_err told) ≡ Some (wrong.Line fault) → told ≡ Err fault
faulty (Ok roots) fault e = absurd (cc)
faulty (Err other) fault e = let same : other ≡ fault = cc in ap (λ f. Err f) same

sound : (told : Result (List ℕ) RootsLineFault) → option_map wrong.Line (result_err told) ≡ None → (roots : List ℕ) × (told ≡ Ok roots)
sound (Ok roots) e = (roots, refl)
sound (Err fault) e = absurd (cc)

text_refused : (text : List ℕ) (fault : RootsFault) → option_map wrong.Line (result_err (roots_of text)) ≡ (if is_memory fault then None else Some fault)
    → IsSwitchesFault text (texts.Roots fault)
text_refused text (wrong.Line fault) e = faulty (roots_of text) fault e
text_refused text wrong.Memory e = sound (roots_of text) e

pub returns-in-Err-clause-refused : goal.returns-in-Err-clause-refused
returns-in-Err-clause-refused c = text_refused c.args.text.now c.in-Err.fault c.in-Err.ensures.judged
