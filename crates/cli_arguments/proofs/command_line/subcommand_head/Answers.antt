use Rattle.std.proofs.Common.{◌∙◌, ap}
use Rattle.clap.specs.Simple.{App, shape_of_fields}
use Rattle.cli_arguments.proofs.Commands.{has_globals}
use Rattle.cli_arguments.proofs.command_line.subcommand_head.Goals as goal

pub returns : goal.returns
returns c = (
  ap shape_of_fields c.after_help.ensures ∙ ap shape_of_fields c.about.ensures ∙ ap (λ (app : App). app.top) c.new.ensures.app,
  ap has_globals c.after_help.ensures ∙ ap has_globals c.about.ensures ∙ c.new.ensures.local,
)
