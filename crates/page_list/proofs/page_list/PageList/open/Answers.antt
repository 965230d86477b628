-- A spare page with the item.
use Rattle.std.proofs.Common.{◌≡◌, arith, ap, ◌∙◌, ◌++◌, ◌∷◌, [], sym}
use Rattle.page_list.proofs.Opened.{opened_pages, opened_items}
use Rattle.page_list.proofs.page_list.PageList.open.Goals as goal

pub take_last-page-requires : goal.take_last-page-requires
take_last-page-requires g c =
    let room : c.args.self.now.room ≡ c.self.inside.room = λ i. (sym c.self.view_is i).room in
    omega (arith, room, c.requires.room, c.self.inside.spare.ok.0, c.self.invariant.spared)

pub push-requires : goal.push-requires
push-requires g c =
    let room : c.args.self.now.room ≡ c.self.inside.room = λ i. (sym c.self.view_is i).room in
    omega (arith, room, c.requires.room, c.self.invariant.spared, c.self.invariant.starts_roomy)

pub invariant_of-self : goal.invariant_of-self
invariant_of-self g c =
    let room : c.args.self.now.room ≡ c.self.inside.room = λ i. (sym c.self.view_is i).room in
    opened_pages (record {
      were = c.self.invariant;
      some = omega (arith, room, c.requires.room);
      taken = c.take_last-page.ensures.items;
      grown = c.push_reserved.ensures.items;
      page_capacity = c.push_reserved.ensures.capacity;
      put = c.push_reserved-2.ensures.items;
      capacity = c.push_reserved-2.ensures.capacity;
      marked = c.push.ensures.items;
      starts_room = c.push.ensures.room;
    })

pub returns-clause-items : goal.returns-clause-items
returns-clause-items g c =
    let room : c.args.self.now.room ≡ c.self.inside.room = λ i. (sym c.self.view_is i).room in
    opened_items {pages' = c.push_reserved-2.new.self} {starts' = c.push.new.self} {spare' = c.take_last-page.new.self} (record {
      were = c.self.invariant;
      some = omega (arith, room, c.requires.room);
      taken = c.take_last-page.ensures.items;
      grown = c.push_reserved.ensures.items;
      page_capacity = c.push_reserved.ensures.capacity;
      put = c.push_reserved-2.ensures.items;
      capacity = c.push_reserved-2.ensures.capacity;
      marked = c.push.ensures.items;
      starts_room = c.push.ensures.room;
    })
    ∙ ap (λ s. s ++ c.args.item ∷ []) (λ i. (c.self.view_is i).items)
