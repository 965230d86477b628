use Rattle.program_laws.proofs.serve.LiveExample as example
use Rattle.program_laws.proofs.laws.serve.some_process_serves.Goals as goal

pub returns : goal.returns
returns c = example.some_process_serves
