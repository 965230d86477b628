use Rattle.std.proofs.Common.{ℕ, sym, arith}
use Rattle.std.proofs.lemmas.List.FromFn.{map-range_with_len_more}
use Rattle.std.specs.Prelude.{unwrap_or}
use Rattle.updown_routes.specs.Ports.{next_port_at}
use Rattle.lft_blocks.proofs.updown_table.row.Goals as goal

pub loop-to-preserved : goal.loop-to-preserved
loop-to-preserved c =
    let port = λ (t : ℕ). unwrap_or (next_port_at c.args.routes.now c.args.own t) 255 in
    let to = c.loop-to.to in
    rw c.in_ok-push.ensures.items (rw c.loop-to.invariant (rw c.port_towards.ensures (sym (map-range_with_len_more port 0 to to (omega arith)))))
