use Rattle.std.proofs.Common.{◌∙◌, true, ap}
use Rattle.clap.specs.Simple.{App, app_of_fields}
use Rattle.cli_arguments.proofs.Commands.{has_globals}
use Rattle.cli_arguments.proofs.command_line.program.Goals as goal

abbrev versioned : App → App
versioned app = record app { top = record app.top { has_version = true } }

abbrev required : App → App
required app = record app { top = record app.top { subcommand_required = true } }

pub returns : goal.returns
returns c = (
  ap app_of_fields c.subcommand_required.ensures
      ∙ ap required (ap app_of_fields c.version.ensures ∙ ap versioned (ap app_of_fields c.about.ensures ∙ c.new.ensures.app)),
  ap has_globals c.subcommand_required.ensures ∙ ap has_globals c.version.ensures ∙ ap has_globals c.about.ensures ∙ c.new.ensures.local,
)
