use Rattle.std.proofs.lemmas.Result.{err_from_is_err_and}
use Rattle.sm_cli.proofs.Runs.{reads_into, refuses_file, refuses_merge, working}
use Rattle.sm_cli.proofs.input_files.read_into.Goals as goal

pub returns-in-Ok-clause-read : goal.returns-in-Ok-clause-read
returns-in-Ok-clause-read g c =
    reads_into g.S.Source.state _ _ _ _ _ _ _ c.new-store.ensures c.in_ok-absorb.ensures.absorbs
    (working _ _ _ c.in_ok-absorb.ensures.read) c.in-Ok.ensures.ok

pub returns-in-Err-clause-refused : goal.returns-in-Err-clause-refused
returns-in-Err-clause-refused g c =
    refuses_merge g.S.Source.state _ _ _ _ _ c.in_ok-absorb.ensures.absorbs
    (working _ _ _ c.in_ok-absorb.ensures.read)

pub returns-in_err-absorb-clause-refused : goal.returns-in_err-absorb-clause-refused
returns-in_err-absorb-clause-refused g c =
    let p = err_from_is_err_and c.from_residual.result c.from_residual.ensures.1 in
    let refused = refuses_file g.S.Source.state c.in_err-absorb.field-0.0 c.args.source.now c.absorb.new.source _
    _
    c.in_err-absorb.ensures.absorbs c.in_err-absorb.ensures.read c.in_err-absorb.ensures.known in
    rw (p.1, p.2) refused
