use Rattle.cli_arguments.proofs.conflicts.conflict.Goals as goal

pub returns : goal.returns
returns c = c.error.ensures.kind
