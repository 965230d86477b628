-- A port more, and all of them.
use Rattle.std.proofs.Common.{◌≡◌, ◌∙◌, ◌*◌, ℕ, length, sym, ap, map, arith}
use Rattle.std.proofs.lemmas.List.FromFn.{map-range_with_len_more}
use Rattle.std.specs.List.{range_with_len}
use Rattle.fact_store.specs.View.{cells_of}
use Rattle.subnet_view.specs.Reading.{switches}
use Rattle.lane_channels.specs.FarPorts.{far_port_by}
use Rattle.lane_channels.proofs.far_ports.far_ports.Goals as goal

pub loop-number-preserved : goal.loop-number-preserved
loop-number-preserved c =
    let f = far_port_by (cells_of c.args.network.now.facts) in
    let number = c.loop-number.number in
    rw c.in_ok-push.ensures.items
    (rw c.loop-number.invariant (rw c.far_port_by.ensures (sym (map-range_with_len_more f 0 number number (omega arith)))))

pub returns : goal.returns
returns c =
    let cells = cells_of c.args.network.now.facts in
    let counted = c.switch_count-count.ensures in
    let whole : c.loop-number.number ≡ 256 * length (switches cells) = omega arith in
    c.loop-number.invariant ∙ ap (λ (n : ℕ). map (far_port_by cells) (range_with_len 0 n)) whole
