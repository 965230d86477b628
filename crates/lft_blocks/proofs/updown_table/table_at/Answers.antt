use Rattle.std.proofs.Common.{ℕ, sym, ap, ◌∙◌, subst, length, arith}
use Rattle.std.proofs.lemmas.Grind.{get_or_default_zero}
use Rattle.std.proofs.lemmas.List.FromFn.{length-map-range_with_len}
use Rattle.std.specs.Prelude.{unwrap_or}
use Rattle.updown_routes.specs.Ports.{next_port_at}
use Rattle.lft_blocks.specs.Attachment.{AreWithin, block_in}
use Rattle.lft_blocks.proofs.AttachmentTables.{table_made}
use Rattle.lft_blocks.proofs.updown_table.table_at.Goals as goal

pub returns : goal.returns
returns c =
    let a = c.args in
    let guid = c.index-guids-own.is ∙ get_or_default_zero a.guids.now a.own c.index-guids-own.result c.requires.own in
    table_made a.attachments.now a.routes.now a.guids.now a.count a.own c.index-guids-own.result c.deref.result.now c.in_ok-blocks.blocks.items guid
    (c.deref.ensures.value ∙ c.in_ok-row.ensures) c.in_ok-blocks.ensures

pub blocks-requires-clause-within : goal.blocks-requires-clause-within
blocks-requires-clause-within c =
    let a = c.args in
    let port = λ (to : ℕ). unwrap_or (next_port_at a.routes.now a.own to) 255 in
    let len = ap length (c.deref.ensures.value ∙ c.in_ok-row.ensures) ∙ length-map-range_with_len port 0 (length a.guids.now) in
    subst (λ (n : ℕ). AreWithin n a.attachments.now) (sym len) c.requires.within

pub invariant_of-result : goal.invariant_of-result
invariant_of-result c =
    let a = c.args in
    let count = ap length c.in_ok-blocks.ensures ∙ length-map-range_with_len (block_in a.attachments.now c.deref.result.now a.own) 0 a.count in
    omega (arith, count, c.requires.few)
