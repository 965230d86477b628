-- The index that is held and what is added to its group.
use Rattle.std.proofs.Common.{◌≡◌, ◌<◌, ◌+◌, ◌/◌, ℕ, List, length, get_or, ap, ◌∙◌, arith}
use Rattle.std.proofs.lemmas.List.{get_or_default}
use Rattle.page_list.specs.Starts.{raised}
use Rattle.page_list.proofs.Raised.{length-raised, raised_at}
use Rattle.page_list.proofs.starts.Starts.at.Goals as goal

pub index-requires : goal.index-requires
index-requires c =
    let view : raised c.self.inside.added.items 0 c.self.inside.starts.items ≡ c.args.self.now.items = λ i. (c.self.view_is i).items in
    omega (arith, c.requires, ap length view, length-raised c.self.inside.added.items 0 c.self.inside.starts.items, c.self.inside.starts.ok.0)

pub index-requires-2 : goal.index-requires-2
index-requires-2 c =
    let view : raised c.self.inside.added.items 0 c.self.inside.starts.items ≡ c.args.self.now.items = λ i. (c.self.view_is i).items in
    omega (
      arith,
      c.requires,
      ap length view,
      length-raised c.self.inside.added.items 0 c.self.inside.starts.items,
      c.self.invariant.grouped,
      c.self.inside.added.ok.0,
    )

pub overflow_add-result : goal.overflow_add-result
overflow_add-result c =
    let added = c.self.inside.added.items in
    let s = c.self.inside.starts.items in
    let view : raised added 0 s ≡ c.args.self.now.items = λ i. (c.self.view_is i).items in
    let h : c.args.page < length s = omega (arith, c.requires, ap length view, length-raised added 0 s) in
    let from_start : 0 + c.args.page ≡ c.args.page = omega arith in
    let there : get_or (raised added 0 s) c.args.page 0 ≡ get_or s c.args.page 0 + get_or added (c.args.page / 64) 0 =
    raised_at added 0 s c.args.page h ∙ ap (λ (m : ℕ). get_or s c.args.page 0 + get_or added (m / 64) 0) from_start in
    let first : c.index.result.now ≡ get_or s c.args.page 0 = c.index.ensures ∙ get_or_default s c.args.page c.index.result.now 0 h in
    let second : c.index-2.result.now ≡ get_or added (c.args.page / 64) 0 =
    c.index-2.ensures ∙ get_or_default added (c.args.page / 64) c.index-2.result.now 0 (omega (arith, h, c.self.invariant.grouped)) in
    omega (arith, first, second, there, c.self.invariant.fit c.args.page 0 (omega (arith, length-raised added 0 s)))

pub returns : goal.returns
returns c =
    let added = c.self.inside.added.items in
    let s = c.self.inside.starts.items in
    let view : raised added 0 s ≡ c.args.self.now.items = λ i. (c.self.view_is i).items in
    let h : c.args.page < length s = omega (arith, c.requires, ap length view, length-raised added 0 s) in
    let from_start : 0 + c.args.page ≡ c.args.page = omega arith in
    let there : get_or (raised added 0 s) c.args.page 0 ≡ get_or s c.args.page 0 + get_or added (c.args.page / 64) 0 =
    raised_at added 0 s c.args.page h ∙ ap (λ (m : ℕ). get_or s c.args.page 0 + get_or added (m / 64) 0) from_start in
    let first : c.index.result.now ≡ get_or s c.args.page 0 = c.index.ensures ∙ get_or_default s c.args.page c.index.result.now 0 h in
    let second : c.index-2.result.now ≡ get_or added (c.args.page / 64) 0 =
    c.index-2.ensures ∙ get_or_default added (c.args.page / 64) c.index-2.result.now 0 (omega (arith, h, c.self.invariant.grouped)) in
    let sum : c.index.result.now + c.index-2.result.now ≡ get_or (raised added 0 s) c.args.page 0 = omega (arith, first, second, there) in
    sum ∙ ap (λ (t : List ℕ). get_or t c.args.page 0) view
