-- What was written is `run_text` of what the sources held.
use Rattle.std.proofs.Common.{◌≡◌, ℕ, List, ◌++◌, sym, ap, ◌∙◌, subst, false}
use Rattle.std.proofs.lemmas.List.{append-nil}
use Rattle.std.specs.Prelude.{Option, Some, None}
use Rattle.std.specs.Io.KnownBytes.{Appends, Consumes, IsAtEnd}
use Rattle.byte_io.specs.Source.{SourceState}
use Rattle.lft_blocks.specs.Planning.{Planning}
use Rattle.schedule_run.specs.RunText.{run_text}
use Rattle.run_laws.specs.Repeats.{TextsDecideOutput}

-- what was taken to the end is all that there was
all_taken : (left left' : Option (List ℕ)) (taken held : List ℕ) → Consumes left left' taken → IsAtEnd left' → left ≡ Some held → taken ≡ held
all_taken None left' taken held consumed end e = absurd (cc)
all_taken (Some xs) None taken held consumed end e = absurd consumed
all_taken (Some xs) (Some ys) taken held consumed end e =
    let whole : xs ≡ held = cc in sym (append-nil taken) ∙ ap (λ rest. taken ++ rest) (sym end) ∙ sym consumed ∙ whole

pub texts_decide_output : {S W : Type 0} (state : S → SourceState) (written : W → Option (List ℕ))
    → TextsDecideOutput state written
texts_decide_output state written lmc asked olds news sink sink' topology schedule run held held' =
    let told = run.inputs.read.others_are in
    let one = all_taken (state told.were.topology).left (state told.are.topology).left told.topology topology told.read.topology_read.consumed
    told.read.topology_read.at_end held in
    let other = all_taken (state told.were.schedule).left (state told.are.schedule).left told.schedule schedule told.read.schedule_read.consumed
    told.read.schedule_read.at_end held' in
    let planning : Planning = record { lmc = lmc; rule = run.rule; multicast = false } in
    subst (Appends (written sink) (written sink')) (ap (λ t. run_text planning t told.schedule) one ∙ ap (run_text planning topology) other) run.printed
