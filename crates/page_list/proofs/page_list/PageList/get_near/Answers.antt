-- The page that has the index has the item.
use Rattle.std.proofs.Common.{arith}
use Rattle.page_list.proofs.Paged.{item_read}
use Rattle.page_list.proofs.page_list.PageList.get_near.Goals as goal

pub returns : goal.returns
returns g c =
    item_read c.deref.result.now c.self.inside.pages.items c.args.self.now.items c.args.i c.slot_near-at.result.page c.slot_near-at.result.offset
    c.index.result.now c.index-2.result.now
    c.deref.ensures.value (λ i. (c.self.view_is i).items) c.slot_near-at.ensures c.index.ensures c.index-2.ensures (omega (arith, c.self.invariant.len_is))
