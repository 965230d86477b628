-- Its parts in turn.
use Rattle.std.specs.Prelude.{◌++◌, codes}
use Rattle.fact_store.specs.View.{cells_of}
use Rattle.byte_io.proofs.Bytes.{Appends-trans}
use Rattle.byte_io.proofs.Writing.{writes_then}
use Rattle.audit_channels.specs.CycleText.{channels_text}
use Rattle.audit_channels.proofs.cycle_text.write_cycle.Goals as goal

pub returns : goal.returns
returns g c =
    let channels = channels_text (cells_of c.args.network.now.facts) c.args.kind c.args.cycle.now in
    let both = Appends-trans _ _ _ (codes "credit loop") channels c.in_ok-write.ensures.writes.ok c.in_ok-write_channels.ensures.ok in
    writes_then _ _ _ _ _ _ (codes "credit loop" ++ channels) (codes "\n") both c.write-2.ensures.writes
