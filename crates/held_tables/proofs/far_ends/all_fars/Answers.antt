-- A port more, and all of them.
use Rattle.std.proofs.Common.{◌≡◌, ◌∙◌, ℕ, sym, ap, map, arith}
use Rattle.std.proofs.lemmas.List.FromFn.{map-range_with_len_more}
use Rattle.std.specs.List.{range_with_len}
use Rattle.fact_store.specs.View.{cells_of}
use Rattle.held_tables.specs.Switches.{far_of}
use Rattle.held_tables.proofs.far_ends.all_fars.Goals as goal

pub loop-port-preserved : goal.loop-port-preserved
loop-port-preserved c =
    let f = far_of (cells_of c.args.subnet.now) c.args.node in
    let port = c.loop-port.port in
    rw c.in_ok-push.ensures.items
    (rw c.loop-port.invariant (rw c.far_within.ensures (rw c.new.ensures (sym (map-range_with_len_more f 0 port port (omega arith))))))

pub returns : goal.returns
returns c =
    let whole : c.loop-port.port ≡ 255 = omega arith in
    c.loop-port.invariant ∙ ap (λ (n : ℕ). map (far_of (cells_of c.args.subnet.now) c.args.node) (range_with_len 0 n)) whole
