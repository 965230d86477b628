-- By the page that begins last before the index, or at it.
use Rattle.std.proofs.Common.{ℕ, ◌-◌, sym, subst}
use Rattle.page_list.specs.Pages.{IsSlot}
use Rattle.page_list.proofs.Paged.{first_start, is_slot}
use Rattle.page_list.proofs.slot.slot_of.Goals as goal

pub page_of-page-requires : goal.page_of-page-requires
page_of-page-requires g c = first_start c.args.pages.now c.args.starts.now.items c.requires.starts c.requires.some

pub returns : goal.returns
returns g c =
    subst (λ (n : ℕ). IsSlot c.args.pages.now c.args.i c.page_of-page.result (c.args.i - n)) (sym c.at.ensures)
    (is_slot c.args.pages.now c.args.starts.now.items c.requires.starts c.page_of-page.result c.page_of-page.ensures.within c.args.i c.page_of-page.ensures.last
    c.page_of-page.ensures.begins c.requires.upto)
