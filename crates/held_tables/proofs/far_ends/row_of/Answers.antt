-- The ports up to the last that has a wire.
use Rattle.std.proofs.Common.{◌≡◌, ◌∙◌, ℕ, length, sym, ap}
use Rattle.std.proofs.lemmas.List.FromFn.{length-map-range_with_len}
use Rattle.fact_store.specs.View.{cells_of}
use Rattle.held_tables.specs.Switches.{far_of, row_of}
use Rattle.held_tables.specs.FarEnds.{padded}
use Rattle.held_tables.proofs.far_ends.row_of.Goals as goal

pub returns : goal.returns
returns c =
    let cells = cells_of c.args.subnet.now in
    let all = c.deref.result.now in
    let is : all ≡ row_of cells c.args.node = c.deref.ensures.value ∙ c.in_ok-fars.ensures in
    let long : length all ≡ 255 = ap length is ∙ length-map-range_with_len (far_of cells c.args.node) 0 255 in
    ap (λ (n : ℕ). padded n c.in_ok-fars-2.fars.items) (sym long) ∙ c.in_ok-fars-2.ensures ∙ is
