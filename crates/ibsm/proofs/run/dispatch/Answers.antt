-- Well-formed words ask for a task, and name its inputs; it is performed with those.
use Rattle.std.proofs.Common.{◌≡◌, ◌∙◌, ℕ, IsSome, List, Some, ap, inl, inr, subst, sym}
use Rattle.std.specs.Borrow.{Bor}
use Rattle.std.specs.Prelude.{map, option_map}
use Rattle.cli_task.specs.InputNames.{names_asked}
use Rattle.ibsm.proofs.EnoughNames.{inputs_suffice}
use Rattle.ibsm.proofs.Statuses.{not_usage}
use Rattle.ibsm.proofs.WordsAsk.{names_there, task_there, was_there}
use Rattle.ibsm.proofs.run.dispatch.Goals as goal

pub unwrap-task-requires : goal.unwrap-task-requires
unwrap-task-requires g c = subst IsSome (sym c.task_of.ensures) (task_there c.args.matches.now c.requires)

pub unwrap-names-requires : goal.unwrap-names-requires
unwrap-names-requires g c =
    let asked = names_there c.args.matches.now c.unwrap-task.result c.requires (sym c.task_of.ensures ∙ c.unwrap-task.ensures) in
    was_there (λ names. map (λ name. name.now) names.items) _ (subst IsSome (sym c.in_ok-names_of.ensures) asked)

pub perform_or_explain-requires : goal.perform_or_explain-requires
perform_or_explain-requires g c =
    let Named : List (Bor (List ℕ)) → Type 0 = λ names. Some (map (λ name. name.now) names) ≡ names_asked c.args.matches.now c.unwrap-task.result in
    inputs_suffice c.args.matches.now c.unwrap-task.result c.deref.result.now (subst Named (sym c.deref.ensures.value)
    (ap (λ found. option_map (λ names. map (λ name. name.now) names.items) found) (sym c.unwrap-names.ensures) ∙ c.in_ok-names_of.ensures))

pub returns-clause-done : goal.returns-clause-done
returns-clause-done g c = λ passed e.
    let Named : List (Bor (List ℕ)) → Type 0 = λ names. Some (map (λ name. name.now) names) ≡ names_asked c.args.matches.now c.unwrap-task.result in
    record {
      asked = record {
        task = c.unwrap-task.result;
        is_asked = sym c.task_of.ensures ∙ c.unwrap-task.ensures;
        names = c.deref.result.now;
        named = sym (subst Named (sym c.deref.ensures.value)
            (ap (λ found. option_map (λ names. map (λ name. name.now) names.items) found) (sym c.unwrap-names.ensures) ∙ c.in_ok-names_of.ensures));
      };
      performed = c.perform_or_explain.ensures.done passed e;
    }

pub returns-clause-says_why : goal.returns-clause-says_why
returns-clause-says_why g c =
    let Named : List (Bor (List ℕ)) → Type 0 = λ names. Some (map (λ name. name.now) names) ≡ names_asked c.args.matches.now c.unwrap-task.result in
    elim c.perform_or_explain.ensures.says_why [
      | inl done ↦ inl done
      | inr why ↦ inr (record {
        asked = record {
          task = c.unwrap-task.result;
          is_asked = sym c.task_of.ensures ∙ c.unwrap-task.ensures;
          names = c.deref.result.now;
          named = sym (subst Named (sym c.deref.ensures.value)
              (ap (λ found. option_map (λ names. map (λ name. name.now) names.items) found) (sym c.unwrap-names.ensures) ∙ c.in_ok-names_of.ensures));
        };
        why = why;
      })
    ]

pub returns-clause-no_usage : goal.returns-clause-no_usage
returns-clause-no_usage g c = λ e. not_usage _ _ _ _ _ _ c.perform_or_explain.ensures.says_why e
