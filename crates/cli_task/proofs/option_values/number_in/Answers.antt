-- What is parsed is the number of the word.
use Rattle.std.proofs.Common.{◌∙◌, ap, sym, w64}
use Rattle.std.proofs.lemmas.Int.{to_z-of_z}
use Rattle.std.specs.Prelude.{option_and_then}
use Rattle.cli_task.proofs.Numbers.{natural, natural_tried, number_parsed, parsed_fits}
use Rattle.cli_task.proofs.option_values.number_in.Goals as goal

pub returns-in_err-ok : goal.returns-in_err-ok
returns-in_err-ok c =
    c.from_residual.ensures ∙ sym (number_parsed c.args.text.now c.parse.result c.parse.ensures.value.0
    ∙ ap (option_and_then natural) (sym c.ok.ensures.value ∙ c.in_err-ok.was))

pub returns : goal.returns
returns c =
    c.ok-2.ensures.value ∙ natural_tried _ c.try_from.result c.try_from.ensures
    ∙ ap natural (to_z-of_z w64 c.in_ok-ok.field-0
    (parsed_fits c.args.text.now c.parse.result c.in_ok-ok.field-0 c.parse.ensures.value.0 (sym c.ok.ensures.value ∙ c.in_ok-ok.was)))
    ∙ sym (number_parsed c.args.text.now c.parse.result c.parse.ensures.value.0 ∙ ap (option_and_then natural) (sym c.ok.ensures.value ∙ c.in_ok-ok.was))
