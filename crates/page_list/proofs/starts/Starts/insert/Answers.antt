-- The index goes among what they are with what is added.
use Rattle.std.proofs.Common.{◌≡◌, ◌≤◌, ℕ, ◌-◌, ◌*◌, min, List, length, ap, ◌∙◌, arith}
use Rattle.std.proofs.lemmas.List.Edits.{length-insert}
use Rattle.std.specs.Prelude.{insert}
use Rattle.std.specs.Vec.{vec_capacity, vec_len}
use Rattle.page_list.specs.Starts.{raised}
use Rattle.page_list.proofs.Raised.{length-raised}
use Rattle.page_list.proofs.Inserted.{inserted_items, inserted_are}
use Rattle.page_list.proofs.starts.Starts.insert.Goals as goal

pub invariant_of-self : goal.invariant_of-self
invariant_of-self c =
    let added = c.self.inside.added.items in
    let s = c.self.inside.starts.items in
    let view : raised added 0 s ≡ c.args.self.now.items = λ i. (c.self.view_is i).items in
    let put : c.insert_within.new.page.items ≡ insert (raised added 0 s) c.args.page c.args.start =
    c.insert_within.ensures.items ∙ ap (λ (t : List ℕ). insert t c.args.page c.args.start) c.settle.ensures.sums in
    let within : c.args.page ≤ length s = omega (arith, c.requires.page, ap length view, length-raised added 0 s) in
    let room : min (vec_capacity c.self.inside.starts) (64 * vec_len c.self.inside.added) - vec_len c.self.inside.starts ≡ c.args.self.now.room =
    λ i. (c.self.view_is i).room in
    inserted_are c.self.inside.starts c.insert_within.new.page c.self.inside.added c.settle.new.added c.args.page c.args.start c.self.invariant within put
    c.settle.ensures.none
    (omega (arith, c.ranges.start.fits)) (omega (arith, room, c.requires.room, c.self.inside.starts.ok.0, c.settle.ensures.groups, c.settle.new.added.ok.0))

pub returns-clause-items : goal.returns-clause-items
returns-clause-items c =
    let added = c.self.inside.added.items in
    let s = c.self.inside.starts.items in
    let view : raised added 0 s ≡ c.args.self.now.items = λ i. (c.self.view_is i).items in
    let put : c.insert_within.new.page.items ≡ insert (raised added 0 s) c.args.page c.args.start =
    c.insert_within.ensures.items ∙ ap (λ (t : List ℕ). insert t c.args.page c.args.start) c.settle.ensures.sums in
    let within : c.args.page ≤ length s = omega (arith, c.requires.page, ap length view, length-raised added 0 s) in
    inserted_items c.self.inside.starts c.insert_within.new.page c.self.inside.added c.settle.new.added c.args.page c.args.start c.self.invariant within put
    c.settle.ensures.none
    ∙ ap (λ (t : List ℕ). insert t c.args.page c.args.start) view

pub insert_within-requires-clause-room : goal.insert_within-requires-clause-room
insert_within-requires-clause-room c =
    let room : min (vec_capacity c.self.inside.starts) (64 * vec_len c.self.inside.added) - vec_len c.self.inside.starts ≡ c.args.self.now.room =
    λ i. (c.self.view_is i).room in
    omega (arith, room, c.requires.room, c.settle.ensures.len, c.settle.ensures.capacity)

pub returns-clause-room : goal.returns-clause-room
returns-clause-room c =
    let room : min (vec_capacity c.self.inside.starts) (64 * vec_len c.self.inside.added) - vec_len c.self.inside.starts ≡ c.args.self.now.room =
    λ i. (c.self.view_is i).room in
    let within : c.args.page ≤ length c.settle.new.numbers.items =
    omega (
      arith,
      c.requires.page,
      c.settle.ensures.len,
      c.settle.new.numbers.ok.0,
      c.self.inside.starts.ok.0,
      ap length (λ i. (c.self.view_is i).items),
      length-raised c.self.inside.added.items 0 c.self.inside.starts.items,
    ) in
    omega (
      arith,
      room,
      c.settle.ensures.len,
      c.settle.ensures.groups,
      c.settle.ensures.capacity,
      c.insert_within.ensures.capacity,
      ap length c.insert_within.ensures.items,
      length-insert c.settle.new.numbers.items c.args.page c.args.start within,
      c.insert_within.new.page.ok.0,
      c.settle.new.numbers.ok.0,
    )
