-- Several hold a LID where more than one line tells it.
use Rattle.std.proofs.Common.{◌∙◌, ap}
use Rattle.held_tables.specs.declared.owners.Owner.TheVariants.{Several}
use Rattle.held_tables.specs.Owners.{has_several_owners}
use Rattle.held_tables.proofs.Owned.{told_twice}
use Rattle.held_tables.proofs.owners.has_several_owners.Goals as goal

pub returns-in-Some : goal.returns-in-Some
returns-in-Some c =
    let lines = c.args.lines.now in
    let there = c.in-Some.ensures.lookup in
    c.is_several.ensures ∙ told_twice lines c.args.owners.now c.from.result c.in-Some.owner.now c.requires there.3.0 (there.3.1 Several)
    ∙ ap (has_several_owners lines) (c.from.ensures ∙ c.number.ensures)
