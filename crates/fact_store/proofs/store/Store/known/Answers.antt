-- What a key's cell says is what the cells say of the key.
use Rattle.std.proofs.Common.{ap, sym, ◌∙◌}
use Rattle.std.specs.Prelude.{Some}
use Rattle.reply_facts.specs.Known.{value_in}
use Rattle.fact_store.proofs.Entries.{known_by_cells}
use Rattle.fact_store.proofs.store.Store.known.Goals as goal

pub returns-in_err-value : goal.returns-in_err-value
returns-in_err-value c = c.from_residual.ensures ∙ ap value_in (sym c.in_err-value.was ∙ c.get.ensures.found) ∙ known_by_cells c.args.self.now c.args.key

pub returns-in-Known : goal.returns-in-Known
returns-in-Known c = ap value_in (ap Some (sym c.in-Known.is) ∙ sym c.in_ok-value.was ∙ c.get.ensures.found) ∙ known_by_cells c.args.self.now c.args.key

pub returns-in-Disputed : goal.returns-in-Disputed
returns-in-Disputed c = ap value_in (ap Some (sym c.in-Disputed.is) ∙ sym c.in_ok-value.was ∙ c.get.ensures.found) ∙ known_by_cells c.args.self.now c.args.key
