-- A block more, and all of them.
use Rattle.std.proofs.Common.{◌<◌, ◌≤◌, ◌∙◌, ℕ, suc, length, map, sym, ap, subst, arith}
use Rattle.std.specs.Prelude.{slice_get, slice_index_or}
use Rattle.std.proofs.lemmas.List.{length-map}
use Rattle.held_tables.specs.Chains.{IsNext}
use Rattle.held_tables.specs.Blocks.{with_block}
use Rattle.held_tables.specs.Tables.{number_of}
use Rattle.held_tables.proofs.Gathered.{all_to, first_to, next_to}
use Rattle.held_tables.proofs.blocks.block_rows.Goals as goal

pub loop-index-init : goal.loop-index-init
loop-index-init c =
    let numbers = map number_of c.args.held.now.blocks in
    first_to c.args.held.now c.args.number c.first-index.result c.in_ok-rows.rows.items c.in_ok-rows.ensures
    (subst (λ (i : ℕ). IsNext numbers c.args.number 0 i) (sym c.first-index.ensures) (c.requires.firsts c.args.number (omega arith)))

pub loop-index-smaller : goal.loop-index-smaller
loop-index-smaller c =
    let held = c.args.held.now in
    let index = c.loop-index.index in
    let less : index < length held.blocks = omega (arith, c.loop-index-test.true, ap length c.blocks-in-loop-index.ensures) in
    let past = (c.requires.nexts index (omega (arith, length-map held.blocks number_of))).past in
    let is = c.next-index.ensures in
    let further : suc index ≤ c.next-index.result = omega arith in
    omega arith

pub loop-index-preserved : goal.loop-index-preserved
loop-index-preserved c =
    let held = c.args.held.now in
    let numbers = map number_of held.blocks in
    let index = c.loop-index.index in
    let less : index < length held.blocks = omega (arith, c.loop-index-test.true, ap length c.blocks-in-loop-index.ensures) in
    next_to held c.args.number index c.next-index.result c.loop-index.rows.items c.put_block.new.rows.items c.loop-index.invariant less
    (c.put_block.ensures ∙ ap (λ xs. with_block c.loop-index.rows.items (slice_get xs index)) c.blocks-in-loop-index-2.ensures)
    (subst (λ (i : ℕ). IsNext numbers (slice_index_or numbers index 0) (suc index) i) (sym c.next-index.ensures)
    (c.requires.nexts index (omega (arith, length-map held.blocks number_of))))

pub returns : goal.returns
returns c =
    let past = c.loop-index-test.false in
    all_to c.args.held.now c.args.number c.loop-index.index c.loop-index.rows.items c.loop-index.invariant
    (omega (arith, ap length c.blocks-in-loop-index.ensures))
