use Rattle.reply_facts.proofs.CellForms.{is_spelled}
use Rattle.reply_facts.proofs.sighting.Sighting.of.Goals as goal

pub invariant_of-result : goal.invariant_of-result
invariant_of-result c =
    is_spelled c.args.key.now c.args.cell.now c.form_of.result c.guid.result c.other_of.result c.generation.result c.number_of.result c.port.result c.requires
    c.form_of.ensures c.guid.ensures c.other_of.ensures c.generation.ensures c.number_of.ensures c.port.ensures
