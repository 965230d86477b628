-- What is printed step after step.
use Rattle.std.proofs.Common.{◌≡◌, ◌≤◌, ℕ, zero, suc, List, length, Some, refl, sym, ap, ◌∙◌, subst, arith}
use Rattle.std.proofs.lemmas.List.{length-map}
use Rattle.fact_store.specs.View.{Facts, cells_of, AreInRange}
use Rattle.subnet_view.specs.Reading.{switches}
use Rattle.lid_assign.specs.Lids.{IsNoRoom}
use Rattle.lft_blocks.specs.Plan.{PlanValue, plan_of}
use Rattle.lft_blocks.specs.Rule.{RuleValue}
use Rattle.held_tables.specs.Held.{HeldPlan}
use Rattle.tables_file.specs.Reading.{held_of}
use Rattle.tables_file.specs.PrintedTables.{next_text}
use Rattle.packet_walks.specs.declared.packet_end.End.TheVariants.{Taken}
use Rattle.packet_walks.specs.declared.next_hop.NextHop.{NextHop}
use Rattle.packet_walks.specs.declared.next_hop.NextHop.TheVariants.{To, Ends}
use Rattle.packet_walks.specs.HopsByTables.{next_hops_of}
use Rattle.packet_walks.specs.EndsBySwitch.{after, end_of}
use Rattle.packet_walks.proofs.InTime.{ends_in_time, one_end}
use Rattle.next_tables.specs.SettledRule.{step_at}
use Rattle.next_tables.proofs.NextText.{step_texts_are_read}
use Rattle.next_run.specs.NextRun.{step_rule, stepped}
use Rattle.table_laws.specs.StepEnds.{AreEnough, PrintedStepsEnd, WaysMeetAtMostAll, printed}
use Rattle.table_laws.proofs.step_ends.Steps.{repeated, steps}

module _ (rule : RuleValue) (lmc : ℕ) (facts : Facts) (text : List ℕ) (small : lmc ≤ 7) (range : AreInRange facts)
    (has_room : ¬ (IsNoRoom lmc (cells_of facts))) where
  abbrev plan : PlanValue
  plan = plan_of rule lmc (cells_of facts)

  abbrev S : ℕ → HeldPlan
  S n = steps rule lmc facts range has_room (held_of text) n

  -- what is printed says the tables of the step
  pub read_again : (n : ℕ) → held_of (printed lmc rule facts text n) ≡ S n
  read_again zero = refl
  read_again (suc n) =
      (step_texts_are_read rule lmc facts (step_rule rule facts (held_of (printed lmc rule facts text n))) (printed lmc rule facts text n) small range
      has_room).1
      ∙ ap (stepped lmc rule facts) (read_again n)

  pub printed_is : (n : ℕ) → printed lmc rule facts text (suc n) ≡ next_text plan.given (S (suc n))
  printed_is n = ap (λ (held : HeldPlan). next_text plan.given (stepped lmc rule facts held)) (read_again n)

  ends : (n : ℕ) → AreEnough rule lmc facts n → printed lmc rule facts text (suc n) ≡ printed lmc rule facts text n
  ends zero are = absurd (omega (arith, are.enough, are.two))
  ends (suc k) are =
      printed_is (suc k) ∙ ap (next_text plan.given) (repeated rule lmc facts range has_room (held_of text) k are) ∙ sym (printed_is k)

pub printed_steps_end : PrintedStepsEnd
printed_steps_end rule lmc facts text n small range has_room = ends rule lmc facts text small range has_room n

-- a walk that ends does so within as many steps as there are switches
pub ways_meet_at_most_all : WaysMeetAtMostAll
ways_meet_at_most_all cells plan line own i m h =
    let hops = next_hops_of cells plan line.lid in
    let count : length hops ≡ length (switches cells) = length-map (switches cells) (step_at cells plan line.lid) in
    let end : end_of (after (length hops) hops (To i)) ≡ Some (Taken line.port) =
    one_end hops (To i) (end_of (after (length hops) hops (To i))) (Some (Taken line.port)) (ends_in_time hops (To i)) (m, h) in
    subst (λ (k : ℕ). after k hops (To i) ≡ Ends (Taken line.port)) count (found (after (length hops) hops (To i)) end)
  where
    found : (s : NextHop) → end_of s ≡ Some (Taken line.port) → s ≡ Ends (Taken line.port)
    found (To j) e = absurd (cc)
    found (Ends e) k = cc
