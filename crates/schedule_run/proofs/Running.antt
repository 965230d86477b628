-- A run of two texts without a fault: what it prints, and why it fails.
use Rattle.std.proofs.Common.{◌≡◌, ◌∙◌, ℕ, Bool, List, Option, inr, sym, ap, subst, false}
use Rattle.topo_file.specs.Topology.{Layout}
use Rattle.schedule_file.specs.Schedule.{Script}
use Rattle.lft_blocks.specs.Planning.{Planning}
use Rattle.lft_blocks.specs.Rule.{RuleValue}
use Rattle.sm_cli.specs.Inputs.{AreInputs}
use Rattle.sm_cli.specs.declared.asked.RuleAsked.{RuleAsked}
use Rattle.schedule_run.specs.RunText.{run_text, schedule_text, script_text, topology_text}
use Rattle.byte_io.specs.Prints.{Prints, PrintsSome}
use Rattle.schedule_lines.specs.Prints.{PrintsUnless}
use Rattle.schedule_run.specs.Run.{HasRun, IsRunFault, StopsEarly, Tells, fault_of_run, texts_reader}
use Rattle.schedule_run.specs.declared.texts.Setting.{Setting}
use Rattle.schedule_lines.specs.declared.run_fault.RunFault.{RunFault}
use Rattle.schedule_lines.specs.declared.run_fault.RunFault.TheVariants.{Write, Memory}
use Rattle.schedule_lines.proofs.Printing.{failed_with}
use Rattle.std.specs.Io.KnownBytes.{Appends}
use Rattle.byte_io.specs.Source.{SourceState}

-- what they tell is run
pub runs_text : (planning : Planning) (topology schedule : List ℕ) (layout : Layout) (script : Script) → Tells topology schedule layout script
    → script_text planning layout script ≡ run_text planning topology schedule
runs_text planning topology schedule layout script tells =
    sym (ap (λ r. topology_text planning r schedule) tells.topology_told.told ∙ ap (schedule_text planning layout) tells.schedule_told)

module _ {S : Type 0} (state : S → SourceState) (lmc : ℕ) (asked : RuleAsked) (olds news : List S) (rule : RuleValue) (setting : Setting)
    (inputs : AreInputs state (texts_reader state) asked olds news rule setting) (planning : Planning) (by : planning ≡ record { lmc = lmc; rule = rule; multicast = false })
  where
    has_run : (prints : List ℕ → Type 0) → prints (script_text planning setting.topology setting.schedule) → HasRun state lmc asked olds news prints
    has_run prints p =
        let told = inputs.read.others_are in
        let Printed : Planning → Type 0 = λ way. prints (run_text way told.topology told.schedule) in record {
          rule = rule;
          setting = setting;
          inputs = inputs;
          printed = subst Printed by
              (subst prints (runs_text planning told.topology told.schedule setting.topology setting.schedule told.tells) p);
        }

    -- what was printed was appended
    pub has_printed : {W : Type 0} (written : W → Option (List ℕ)) (failed : W → Bool) (sink sink' : W)
        → Prints written failed sink sink' (script_text planning setting.topology setting.schedule)
        → HasRun state lmc asked olds news (Appends (written sink) (written sink'))
    has_printed written failed sink sink' p = has_run (Appends (written sink) (written sink')) p.grown

    stops : {W : Type 0} (written : W → Option (List ℕ)) (failed : W → Bool) (fault : RunFault) (sink sink' : W)
        → PrintsUnless written failed (failed_with fault) sink sink' (script_text planning setting.topology setting.schedule)
        → StopsEarly state lmc asked olds news (PrintsSome written failed sink sink') (failed sink') (fault_of_run fault)
    stops written failed Write sink sink' p = record {
      rule = rule;
      told = setting;
      inputs = inputs;
      so = p;
    }
    stops written failed Memory sink sink' p = has_run (PrintsSome written failed sink sink') p

    pub run_fails : {W : Type 0} (written : W → Option (List ℕ)) (failed : W → Bool) (fault : RunFault) (sink sink' : W)
        → PrintsUnless written failed (failed_with fault) sink sink' (script_text planning setting.topology setting.schedule)
        → IsRunFault state lmc asked olds news (PrintsSome written failed sink sink') (failed sink') (fault_of_run fault)
    run_fails written failed fault sink sink' p = inr (stops written failed fault sink sink' p)
