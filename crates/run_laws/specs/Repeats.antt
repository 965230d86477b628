-- The output of a run is a function of its two texts, the LMC and the rule.
use Rattle.std.specs.Prelude.{◌≡◌, ℕ, List, Option, Some, false}
use Rattle.std.specs.Io.KnownBytes.{Appends}
use Rattle.byte_io.specs.Source.{SourceState}
use Rattle.sm_cli.specs.declared.asked.RuleAsked.{RuleAsked}
use Rattle.schedule_run.specs.RunText.{run_text}
use Rattle.schedule_run.specs.Run.{HasRun, schedule_source, topology_source}

-- a run that ends well has written exactly `run_text` of the texts that its sources of topology and schedule held when
-- it began
abbrev pub TextsDecideOutput : {S W : Type 0} → (S → SourceState) → (W → Option (List ℕ)) → Type 0
TextsDecideOutput {S} {W} state written =
    (lmc : ℕ) (asked : RuleAsked) (olds news : List S) (sink sink' : W) (topology schedule : List ℕ)
    (run : HasRun state lmc asked olds news (Appends (written sink) (written sink')))
    → (state (topology_source run)).left ≡ Some topology
    → (state (schedule_source run)).left ≡ Some schedule
    → Appends (written sink) (written sink') (run_text (record { lmc = lmc; rule = run.rule; multicast = false }) topology schedule)
