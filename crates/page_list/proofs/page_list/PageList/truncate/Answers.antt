-- The page that has the index keeps what is before it, and those before that page stay.
use Rattle.std.proofs.Common.{◌≡◌, ℕ, List, add-one, arith, ap, take, set, subst, ◌∙◌}
use Rattle.std.specs.Prelude.{Vec}
use Rattle.std.specs.declared.alloc.Global.{Global}
use Rattle.page_list.specs.Pages.{items_of, IsSlot}
use Rattle.page_list.proofs.Truncated.{cut_pages, cut_items}
use Rattle.page_list.proofs.page_list.PageList.truncate.Goals as goal

pub invariant_of-self : goal.invariant_of-self
invariant_of-self g c =
    let k = c.slot_of-at.result.page in
    let at : IsSlot c.self.inside.pages.items c.args.n k c.slot_of-at.result.offset =
    subst (λ (ps : List (Vec g.row.T.Denot Global)). IsSlot ps c.args.n k c.slot_of-at.result.offset) c.deref.ensures.value c.slot_of-at.ensures in
    cut_pages {p' = c.truncate.new.self} (record {
      were = c.self.invariant;
      at = at;
      within = omega (arith, c.if-n-self.false);
      is = c.index_mut.ensures.value;
      cut = c.truncate.ensures.items;
      roomy = omega (arith, c.truncate.ensures.capacity);
      put = c.truncate-2.ensures.items ∙ ap (λ (n : ℕ). take n (set c.self.inside.pages.items k c.truncate.new.self)) (add-one k);
      capacity = omega (arith, c.truncate-2.ensures.capacity);
      marked = c.truncate-3.ensures.items ∙ ap (λ (n : ℕ). take n c.self.inside.starts.items) (add-one k);
      starts_room = c.truncate-3.ensures.room;
    })

pub returns-clause-items : goal.returns-clause-items
returns-clause-items g c =
    let k = c.slot_of-at.result.page in
    let view : items_of c.self.inside.pages.items ≡ c.args.self.now.items = λ i. (c.self.view_is i).items in
    let at : IsSlot c.self.inside.pages.items c.args.n k c.slot_of-at.result.offset =
    subst (λ (ps : List (Vec g.row.T.Denot Global)). IsSlot ps c.args.n k c.slot_of-at.result.offset) c.deref.ensures.value c.slot_of-at.ensures in
    cut_items {pages' = c.truncate-2.new.self} {starts' = c.truncate-3.new.self} {p' = c.truncate.new.self} (record {
      were = c.self.invariant;
      at = at;
      within = omega (arith, c.if-n-self.false);
      is = c.index_mut.ensures.value;
      cut = c.truncate.ensures.items;
      roomy = omega (arith, c.truncate.ensures.capacity);
      put = c.truncate-2.ensures.items ∙ ap (λ (n : ℕ). take n (set c.self.inside.pages.items k c.truncate.new.self)) (add-one k);
      capacity = omega (arith, c.truncate-2.ensures.capacity);
      marked = c.truncate-3.ensures.items ∙ ap (λ (n : ℕ). take n c.self.inside.starts.items) (add-one k);
      starts_room = c.truncate-3.ensures.room;
    })
    ∙ ap (take c.args.n) view
