-- Behind the others, where nothing is added to its group.
use Rattle.std.proofs.Common.{◌≡◌, ◌<◌, ◌+◌, ◌/◌, ◌^◌, ◌++◌, ◌∷◌, [], ℕ, ◌-◌, ◌*◌, min, List, length, get_or, ap, sym, ◌∙◌, subst, arith}
use Rattle.std.proofs.lemmas.List.{length-append, get_or_default}
use Rattle.std.proofs.lemmas.List.Edits.{insert_end}
use Rattle.std.proofs.lemmas.List.Elements.{All-push}
use Rattle.std.specs.Prelude.{All, insert}
use Rattle.std.specs.Vec.{vec_capacity, vec_len}
use Rattle.page_list.specs.Starts.{raised}
use Rattle.page_list.proofs.Raised.{length-raised, raised-push}
use Rattle.page_list.proofs.starts.Starts.push.Goals as goal

pub insert-requires-clause-page : goal.insert-requires-clause-page
insert-requires-clause-page c =
    let view : raised c.self.inside.added.items 0 c.self.inside.starts.items ≡ c.args.self.now.items = λ i. (c.self.view_is i).items in
    omega (arith, ap length view, length-raised c.self.inside.added.items 0 c.self.inside.starts.items, c.self.inside.starts.ok.0, c.len-end.ensures)

pub invariant_of-self : goal.invariant_of-self
invariant_of-self c =
    let added = c.self.inside.added.items in
    let s = c.self.inside.starts.items in
    let room : min (vec_capacity c.self.inside.starts) (64 * vec_len c.self.inside.added) - vec_len c.self.inside.starts ≡ c.args.self.now.room =
    λ i. (c.self.view_is i).room in
    let end : c.len-end.result ≡ 0 + length s = omega (arith, c.len-end.ensures, c.self.inside.starts.ok.0) in
    let in_groups : c.len-end.result / 64 < length added = omega (arith, room, c.requires.room, end, c.self.inside.starts.ok.0, c.self.inside.added.ok.0) in
    let none : get_or added ((0 + length s) / 64) 0 ≡ 0 = ap (λ (m : ℕ). get_or added (m / 64) 0) (sym end)
    ∙ omega (arith, c.index.ensures, c.if-index-gt0.false, get_or_default added (c.len-end.result / 64) c.index.result.now 0 in_groups) in
    record {
      grouped = omega (
        arith,
        room,
        ap length c.push_reserved.ensures.items,
        length-append s (c.args.start
            ∷ []),
        c.requires.room,
        c.self.inside.starts.ok.0,
        c.self.inside.added.ok.0,
      );
      fit =
          subst (All (λ (n : ℕ). n < 2 ^ 64)) (sym (ap (raised added 0) c.push_reserved.ensures.items ∙ raised-push added 0 s c.args.start none))
          (All-push (λ (n : ℕ). n < 2 ^ 64) (raised added 0 s) c.args.start c.self.invariant.fit (omega (arith, c.ranges.start.fits)));
    }

pub returns-then-index-gt0-clause-items : goal.returns-then-index-gt0-clause-items
returns-then-index-gt0-clause-items c =
    let view : raised c.self.inside.added.items 0 c.self.inside.starts.items ≡ c.args.self.now.items = λ i. (c.self.view_is i).items in
    let end : c.len-end.result ≡ length c.args.self.now.items =
    omega (arith, ap length view, length-raised c.self.inside.added.items 0 c.self.inside.starts.items, c.self.inside.starts.ok.0, c.len-end.ensures) in
    c.insert.ensures.items ∙ ap (λ (n : ℕ). insert c.args.self.now.items n c.args.start) end ∙ insert_end c.args.self.now.items c.args.start

pub returns-else-index-gt0-clause-items : goal.returns-else-index-gt0-clause-items
returns-else-index-gt0-clause-items c =
    let added = c.self.inside.added.items in
    let s = c.self.inside.starts.items in
    let view : raised added 0 s ≡ c.args.self.now.items = λ i. (c.self.view_is i).items in
    let room : min (vec_capacity c.self.inside.starts) (64 * vec_len c.self.inside.added) - vec_len c.self.inside.starts ≡ c.args.self.now.room =
    λ i. (c.self.view_is i).room in
    let end : c.len-end.result ≡ 0 + length s = omega (arith, c.len-end.ensures, c.self.inside.starts.ok.0) in
    let in_groups : c.len-end.result / 64 < length added = omega (arith, room, c.requires.room, end, c.self.inside.starts.ok.0, c.self.inside.added.ok.0) in
    let none : get_or added ((0 + length s) / 64) 0 ≡ 0 = ap (λ (m : ℕ). get_or added (m / 64) 0) (sym end)
    ∙ omega (arith, c.index.ensures, c.if-index-gt0.false, get_or_default added (c.len-end.result / 64) c.index.result.now 0 in_groups) in
    ap (raised added 0) c.push_reserved.ensures.items ∙ raised-push added 0 s c.args.start none ∙ ap (λ (t : List ℕ). t ++ c.args.start ∷ []) view
