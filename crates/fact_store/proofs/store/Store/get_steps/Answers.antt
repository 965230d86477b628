-- What a search finds is what the facts have.
use Rattle.std.proofs.Common.{ℕ, List, length, sym, ap, ◌∙◌, subst}
use Rattle.std.specs.Prelude.{Some, Result, option_copied}
use Rattle.fact_join.specs.declared.cell.Cell.{Cell}
use Rattle.reply_facts.specs.declared.key.Key.{Key}
use Rattle.reply_facts.specs.declared.value.Value.{Value}
use Rattle.fact_store.specs.Cells.{IsSearched}
use Rattle.fact_store.specs.Comparisons.{CountsSearch, HasDigits}
use Rattle.fact_store.proofs.Held.{entries_are, are_in_range, found_at, not_found}
use Rattle.fact_store.proofs.store.Store.get_steps.Goals as goal
use Rattle.fact_store.proofs.store.Store.get_steps.Goals.{in-Ok, in-Err}

pub returns-clause-found : goal.returns-clause-found
returns-clause-found c =
    elim c.match-search.branch [
      | in-Ok w ↦
          w.cell-is ∙ ap Some w.cell.ensures.value
          ∙ found_at c.self.inside.floor c.self.inside.cells.items c.self.invariant c.args.self.now c.self.view_is w.in-Ok.index c.args.key w.unwrap.result.now
          (sym w.get_near.ensures
          ∙ ap option_copied w.unwrap.ensures) (subst (λ (r : Result ℕ ℕ). IsSearched c.args.key c.self.inside.cells.items r) w.in-Ok.is
          c.find-search.ensures.index)
      | in-Err w ↦
          w.cell-is ∙ sym (not_found c.self.inside.floor c.self.inside.cells.items c.self.invariant c.args.self.now c.self.view_is c.args.key
          (subst (λ (r : Result ℕ ℕ). IsSearched c.args.key c.self.inside.cells.items r) w.in-Err.is c.find-search.ensures.index).absent)
    ]

pub returns-clause-counted : goal.returns-clause-counted
returns-clause-counted c =
    subst (λ (s : List (Key × Cell Value)). CountsSearch c.args.key s c.find-search.result.steps)
    (sym (entries_are c.self.inside.floor c.self.inside.cells.items c.self.invariant c.args.self.now c.self.view_is)) c.find-search.ensures.counted

pub returns-clause-steps : goal.returns-clause-steps
returns-clause-steps c =
    subst (λ (s : List (Key × Cell Value)). HasDigits (length s) c.find-search.result.steps)
    (sym (entries_are c.self.inside.floor c.self.inside.cells.items c.self.invariant c.args.self.now c.self.view_is)) c.find-search.ensures.digits

pub returns-clause-in_range : goal.returns-clause-in_range
returns-clause-in_range c = are_in_range c.self.inside.floor c.self.inside.cells.items c.self.invariant c.args.self.now c.self.view_is
