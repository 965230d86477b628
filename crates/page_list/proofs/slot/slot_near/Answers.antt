-- The page that was looked at has the index, or the one that a search finds.
use Rattle.std.proofs.Common.{◌≡◌, ℕ, ◌-◌, ◌<◌, length, get_or, sym, ap, subst, arith, rules}
use Rattle.page_list.specs.Pages.{IsSlot}
use Rattle.page_list.proofs.Paged.{length-starts_from, lies_in}
use Rattle.page_list.proofs.slot.slot_near.Goals as goal

pub offset_bounds-pages-page : goal.offset_bounds-pages-page
offset_bounds-pages-page g c =
    let there : c.args.page < length c.args.pages.now =
    omega (arith, c.if-page-len.true, c.len.ensures, ap length c.requires.starts, length-starts_from 0 c.args.pages.now) in
    search rules

pub returns-then-i-start : goal.returns-then-i-start
returns-then-i-start g c =
    let begins : c.at-start.result ≡ get_or c.args.starts.now.items c.args.page 0 = c.at-start.ensures in
    subst (λ (n : ℕ). IsSlot c.args.pages.now c.args.i c.args.page (c.args.i - n)) (sym begins)
    (lies_in c.args.pages.now c.args.starts.now.items c.requires.starts c.args.page (omega (arith, c.if-page-len.true, c.len.ensures)) c.index-pages-page.result
    c.index-pages-page.is c.args.i (omega (arith, begins, c.if-start-i.true))
    (omega (arith, begins, c.if-i-start.true, c.len-then-start-i.ensures, c.index-pages-page.result.ok.0)))

pub bounds-pages-page : goal.bounds-pages-page
bounds-pages-page g c = omega (arith, c.if-page-len.true, c.len.ensures, ap length c.requires.starts, length-starts_from 0 c.args.pages.now)
