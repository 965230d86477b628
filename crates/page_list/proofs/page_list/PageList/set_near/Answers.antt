-- The page that has the index has the other item.
use Rattle.std.proofs.Common.{◌≡◌, List, arith, ap, length, set, refl, subst, ◌∙◌}
use Rattle.std.specs.Prelude.{Vec}
use Rattle.std.specs.Vec.{with_item}
use Rattle.std.specs.declared.alloc.Global.{Global}
use Rattle.page_list.specs.Pages.{items_of, IsSlot}
use Rattle.page_list.proofs.Replaced.{replaced_pages, replaced_items}
use Rattle.page_list.proofs.page_list.PageList.set_near.Goals as goal

pub invariant_of-self : goal.invariant_of-self
invariant_of-self g c =
    let k = c.slot_near-at.result.page in
    let view : items_of c.self.inside.pages.items ≡ c.args.self.now.items = λ i. (c.self.view_is i).items in
    let at : IsSlot c.self.inside.pages.items c.args.i k c.slot_near-at.result.offset =
    subst (λ (ps : List (Vec g.row.T.Denot Global)). IsSlot ps c.args.i k c.slot_near-at.result.offset) c.deref.ensures.value c.slot_near-at.ensures in
    replaced_pages {p' = with_item c.index_mut.result.now c.slot_near-at.result.offset c.args.item} (record {
      were = c.self.invariant;
      at = at;
      within = omega (arith, c.requires, ap length view);
      is = c.index_mut.ensures.value;
      replaced = refl;
      roomy = omega arith;
      put = refl;
      capacity = omega arith;
    })

pub returns-clause-items : goal.returns-clause-items
returns-clause-items g c =
    let k = c.slot_near-at.result.page in
    let view : items_of c.self.inside.pages.items ≡ c.args.self.now.items = λ i. (c.self.view_is i).items in
    let at : IsSlot c.self.inside.pages.items c.args.i k c.slot_near-at.result.offset =
    subst (λ (ps : List (Vec g.row.T.Denot Global)). IsSlot ps c.args.i k c.slot_near-at.result.offset) c.deref.ensures.value c.slot_near-at.ensures in
    replaced_items {pages' = with_item c.self.inside.pages k (with_item c.index_mut.result.now c.slot_near-at.result.offset c.args.item)} {p' =
    with_item c.index_mut.result.now c.slot_near-at.result.offset c.args.item} (record {
      were = c.self.invariant;
      at = at;
      within = omega (arith, c.requires, ap length view);
      is = c.index_mut.ensures.value;
      replaced = refl;
      roomy = omega arith;
      put = refl;
      capacity = omega arith;
    })
    ∙ ap (λ s. set s c.args.i c.args.item) view
