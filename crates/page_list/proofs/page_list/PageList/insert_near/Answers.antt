-- The page that has the index takes the item, or is halved for it.
use Rattle.std.proofs.Common.{◌≡◌, ◌+◌, ◌-◌, ◌≤◌, ◌++◌, List, arith, ap, length, take, drop, map, refl, subst, sym, ◌∙◌}
use Rattle.std.proofs.lemmas.List.{get_or_default}
use Rattle.std.proofs.lemmas.List.Elements.{All-pop, All-same}
use Rattle.std.specs.Prelude.{Vec, Some, insert}
use Rattle.std.specs.Vec.{with_item}
use Rattle.std.specs.declared.alloc.Global.{Global}
use Rattle.page_list.specs.Pages.{IsSlot, IsEmptyPage}
use Rattle.page_list.proofs.Paged.{length-starts_from}
use Rattle.page_list.proofs.CountedUp.{length-counted}
use Rattle.page_list.proofs.Grown.{grown_pages, grown_items, halved_pages, halved_items, starts_below, head_end}
use Rattle.page_list.proofs.page_list.PageList.insert_near.Goals as goal

pub shift-requires : goal.shift-requires
shift-requires g c =
    let room : c.args.self.now.room ≡ c.self.inside.room = λ i. (sym c.self.view_is i).room in
    let below = All-same (λ m. m
    ≤ c.self.inside.len) c.self.inside.starts.items _ c.self.invariant.starts_are
    (starts_below 0 c.self.inside.pages.items c.self.inside.len (omega (arith, c.self.invariant.len_is))) in
    record { fits = λ n d h. omega (arith, below n d h, c.self.invariant.countable, room, c.requires.room) }

pub invariant_of-self : goal.invariant_of-self
invariant_of-self g c =
    let room : c.args.self.now.room ≡ c.self.inside.room = λ i. (sym c.self.view_is i).room in
    let k = c.slot_near-at.result.page in
    let at : IsSlot c.self.inside.pages.items c.args.i k c.slot_near-at.result.offset =
    subst (λ (ps : List (Vec g.row.T.Denot Global)). IsSlot ps c.args.i k c.slot_near-at.result.offset) c.deref.ensures.value c.slot_near-at.ensures in
    let read : c.index.result.now ≡ c.index_mut.result.now =
    c.index.ensures ∙ get_or_default c.self.inside.pages.items k c.index.result.now c.index_mut.result.now at.there ∙ sym c.index_mut.ensures.value in
    grown_pages (record {
      were = c.self.invariant;
      some = omega (arith, room, c.requires.room);
      at = at;
      is = c.index_mut.ensures.value;
      grown = c.insert_within.ensures.items;
      short = omega (arith, c.if-len-lt-PAGE.true, c.len.ensures, c.index.result.now.ok.0, ap (λ (q : Vec g.row.T.Denot Global). length q.items) read);
      roomy = c.insert_within.ensures.capacity;
      put = refl;
      capacity = omega arith;
      moved = c.shift.ensures.items;
      starts_room = omega (arith, c.shift.ensures.room);
    })

pub returns-then-len-lt-PAGE-clause-items : goal.returns-then-len-lt-PAGE-clause-items
returns-then-len-lt-PAGE-clause-items g c =
    let room : c.args.self.now.room ≡ c.self.inside.room = λ i. (sym c.self.view_is i).room in
    let k = c.slot_near-at.result.page in
    let at : IsSlot c.self.inside.pages.items c.args.i k c.slot_near-at.result.offset =
    subst (λ (ps : List (Vec g.row.T.Denot Global)). IsSlot ps c.args.i k c.slot_near-at.result.offset) c.deref.ensures.value c.slot_near-at.ensures in
    let read : c.index.result.now ≡ c.index_mut.result.now =
    c.index.ensures ∙ get_or_default c.self.inside.pages.items k c.index.result.now c.index_mut.result.now at.there ∙ sym c.index_mut.ensures.value in
    grown_items {pages' = with_item c.self.inside.pages k c.insert_within.new.page} {starts' = c.shift.new.self} (record {
      were = c.self.invariant;
      some = omega (arith, room, c.requires.room);
      at = at;
      is = c.index_mut.ensures.value;
      grown = c.insert_within.ensures.items;
      short = omega (arith, c.if-len-lt-PAGE.true, c.len.ensures, c.index.result.now.ok.0, ap (λ (q : Vec g.row.T.Denot Global). length q.items) read);
      roomy = c.insert_within.ensures.capacity;
      put = refl;
      capacity = omega arith;
      moved = c.shift.ensures.items;
      starts_room = omega (arith, c.shift.ensures.room);
    })
    ∙ ap (λ s. insert s c.args.i c.args.item) (λ i. (c.self.view_is i).items)

pub insert_halved-head-requires-clause-empty : goal.insert_halved-head-requires-clause-empty
insert_halved-head-requires-clause-empty g c =
    (All-pop IsEmptyPage c.self.inside.spare.items c.take_last-tail.new.self.items (Some c.take_last-tail.result) c.take_last-tail.ensures.items
    c.self.invariant.spare_are).1.empty

pub insert_halved-head-requires-clause-tail_roomy : goal.insert_halved-head-requires-clause-tail_roomy
insert_halved-head-requires-clause-tail_roomy g c =
    (All-pop IsEmptyPage c.self.inside.spare.items c.take_last-tail.new.self.items (Some c.take_last-tail.result) c.take_last-tail.ensures.items
    c.self.invariant.spare_are).1.roomy

pub overflow_add-i : goal.overflow_add-i
overflow_add-i g c =
    let room : c.args.self.now.room ≡ c.self.inside.room = λ i. (sym c.self.view_is i).room in
    let k = c.slot_near-at.result.page in
    let at : IsSlot c.self.inside.pages.items c.args.i k c.slot_near-at.result.offset =
    subst (λ (ps : List (Vec g.row.T.Denot Global)). IsSlot ps c.args.i k c.slot_near-at.result.offset) c.deref.ensures.value c.slot_near-at.ensures in
    let end = head_end c.self.inside.pages.items c.args.i k c.slot_near-at.result.offset at c.index_mut-2.result.now c.index_mut-2.ensures.value c.args.item
    c.insert_halved-head.new.page.items c.insert_halved-head.new.tail.items c.insert_halved-head.ensures.items in
    omega (arith, end, room, c.requires.room, c.self.invariant.len_is, c.self.invariant.countable, c.insert_halved-head.ensures.length)

pub insert-requires-clause-page : goal.insert-requires-clause-page
insert-requires-clause-page g c =
    let room : c.args.self.now.room ≡ c.self.inside.room = λ i. (sym c.self.view_is i).room in
    let k = c.slot_near-at.result.page in
    let at : IsSlot c.self.inside.pages.items c.args.i k c.slot_near-at.result.offset =
    subst (λ (ps : List (Vec g.row.T.Denot Global)). IsSlot ps c.args.i k c.slot_near-at.result.offset) c.deref.ensures.value c.slot_near-at.ensures in
    omega (
      arith,
      at.there,
      ap length c.shift.ensures.items,
      length-counted c.self.inside.starts.items (k
          + 1),
      ap length c.self.invariant.starts_are,
      length-starts_from 0 c.self.inside.pages.items,
    )

pub insert-requires-clause-room : goal.insert-requires-clause-room
insert-requires-clause-room g c =
    let room : c.args.self.now.room ≡ c.self.inside.room = λ i. (sym c.self.view_is i).room in
    omega (
      arith,
      room,
      c.requires.room,
      c.self.invariant.spared,
      c.self.invariant.starts_roomy,
      ap length c.self.invariant.starts_are,
      length-starts_from 0
          c.self.inside.pages.items,
    )

pub invariant_of-self-2 : goal.invariant_of-self-2
invariant_of-self-2 g c =
    let room : c.args.self.now.room ≡ c.self.inside.room = λ i. (sym c.self.view_is i).room in
    let k = c.slot_near-at.result.page in
    let at : IsSlot c.self.inside.pages.items c.args.i k c.slot_near-at.result.offset =
    subst (λ (ps : List (Vec g.row.T.Denot Global)). IsSlot ps c.args.i k c.slot_near-at.result.offset) c.deref.ensures.value c.slot_near-at.ensures in
    halved_pages (record {
      were = c.self.invariant;
      some = omega (arith, room, c.requires.room);
      at = at;
      is = c.index_mut-2.ensures.value;
      taken = c.take_last-tail.ensures.items;
      halves = c.insert_halved-head.ensures.items;
      head_page = record { bounded = c.insert_halved-head.ensures.bounded; roomy = c.insert_halved-head.ensures.capacity };
      tail_page = record { bounded = c.insert_halved-head.ensures.tail_bounded; roomy = c.insert_halved-head.ensures.tail_capacity };
      put = c.insert_within-2.ensures.items;
      capacity = c.insert_within-2.ensures.capacity;
      moved = c.insert.ensures.items ∙ ap (λ s. insert s (k + 1) (c.args.i - c.slot_near-at.result.offset + c.insert_halved-head.result)) c.shift.ensures.items
          ∙ ap (λ n. insert (take (k + 1) c.self.inside.starts.items ++ map (λ m. m + 1) (drop (k + 1) c.self.inside.starts.items)) (k
          + 1) (c.args.i - c.slot_near-at.result.offset + n)) c.insert_halved-head.ensures.length;
      starts_room = omega (arith, c.insert.ensures.room, c.shift.ensures.room);
    })

pub returns-clause-items : goal.returns-clause-items
returns-clause-items g c =
    let room : c.args.self.now.room ≡ c.self.inside.room = λ i. (sym c.self.view_is i).room in
    let k = c.slot_near-at.result.page in
    let at : IsSlot c.self.inside.pages.items c.args.i k c.slot_near-at.result.offset =
    subst (λ (ps : List (Vec g.row.T.Denot Global)). IsSlot ps c.args.i k c.slot_near-at.result.offset) c.deref.ensures.value c.slot_near-at.ensures in
    halved_items {pages' = c.insert_within-2.new.page} {starts' = c.insert.new.self} {spare' = c.take_last-tail.new.self} (record {
      were = c.self.invariant;
      some = omega (arith, room, c.requires.room);
      at = at;
      is = c.index_mut-2.ensures.value;
      taken = c.take_last-tail.ensures.items;
      halves = c.insert_halved-head.ensures.items;
      head_page = record { bounded = c.insert_halved-head.ensures.bounded; roomy = c.insert_halved-head.ensures.capacity };
      tail_page = record { bounded = c.insert_halved-head.ensures.tail_bounded; roomy = c.insert_halved-head.ensures.tail_capacity };
      put = c.insert_within-2.ensures.items;
      capacity = c.insert_within-2.ensures.capacity;
      moved = c.insert.ensures.items ∙ ap (λ s. insert s (k + 1) (c.args.i - c.slot_near-at.result.offset + c.insert_halved-head.result)) c.shift.ensures.items
          ∙ ap (λ n. insert (take (k + 1) c.self.inside.starts.items ++ map (λ m. m + 1) (drop (k + 1) c.self.inside.starts.items)) (k
          + 1) (c.args.i - c.slot_near-at.result.offset + n)) c.insert_halved-head.ensures.length;
      starts_room = omega (arith, c.insert.ensures.room, c.shift.ensures.room);
    })
    ∙ ap (λ s. insert s c.args.i c.args.item) (λ i. (c.self.view_is i).items)
