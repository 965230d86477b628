-- The page that has the index has the item.
use Rattle.std.proofs.Common.{◌≡◌, ap, length, sym, arith}
use Rattle.page_list.specs.Pages.{items_of}
use Rattle.page_list.proofs.Paged.{item_read}
use Rattle.page_list.proofs.page_list.PageList.split.Goals as goal

pub returns-clause-item : goal.returns-clause-item
returns-clause-item g c =
    let view : items_of c.self.inside.pages.items ≡ c.args.self.now.items = λ i. (c.self.view_is i).items in
    sym (item_read c.deref.result.now c.self.inside.pages.items c.args.self.now.items c.fair_index-index.result c.slot_near-at.result.page
    c.slot_near-at.result.offset c.index.result.now c.index-2.result.now
    c.deref.ensures.value view c.slot_near-at.ensures c.index.ensures c.index-2.ensures
    (omega (arith, ap length view, c.fair_index-index.ensures.until, c.requires.within)))
