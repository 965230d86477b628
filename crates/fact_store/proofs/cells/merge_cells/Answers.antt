-- Each step moves the lesser key, or both where they are the same.
use Rattle.std.proofs.Common.{◌≡◌, ◌+◌, [], ◌∷◌, ◌++◌, sym, ap, ◌∙◌, subst, arith, List, inl, inr, ◌⊎◌}
use Rattle.std.specs.Prelude.{Option}
use Rattle.std.specs.Option.{option_to_list}
use Rattle.std.specs.declared.cmp.Ordering.TheVariants.{Less, Equal, Greater}
use Rattle.fact_join.specs.declared.cell.Cell.{Cell}
use Rattle.reply_facts.specs.declared.key.Key.{Key}
use Rattle.reply_facts.specs.declared.value.Value.{Value}
use Rattle.reply_facts.specs.Key.{key_cmp}
use Rattle.fact_store.specs.Merge.{join}
use Rattle.reply_facts.specs.Sighting.{IsSighting}
use Rattle.page_list.specs.Iter.{rest_of}
use Rattle.reply_facts.proofs.Keys.{key_exact}
use Rattle.fact_store.proofs.Walks.{IsWalked, walked_first, walked_second, walked_both, walked_to, walked_start, walked_all, compared_all, next_left, nothing_left}
use Rattle.fact_store.specs.Cells.{AreCells}
use Rattle.fact_store.specs.Seen.{seen}
use Rattle.fact_store.proofs.Seen.{seen_of_both}
use Rattle.std.proofs.lemmas.List.{append_assoc}
use Rattle.fact_store.proofs.cells.merge_cells.Goals as goal
use Rattle.fact_store.proofs.cells.merge_cells.Goals.{in_default, in_default-2}

pub compare-requires : goal.compare-requires
compare-requires c = omega (arith, c.loop-a.invariant.0.fewer, c.iter-left.ensures.countable, c.iter-right.ensures.countable)

pub loop-a-preserved-in_ok-push-in-Less : goal.loop-a-preserved-in_ok-push-in-Less
loop-a-preserved-in_ok-push-in-Less c =
    let w : IsWalked c.args.first.now.items c.args.second.now.items c.loop-a.cells.items (c.in-Some-Some.x ∷ rest_of c.loop-a.left) (c.in-Some-Some.y
    ∷ rest_of c.loop-a.right) c.loop-a.steps =
    subst (λ (o : Option (Key × Cell Value)). IsWalked c.args.first.now.items c.args.second.now.items c.loop-a.cells.items (c.in-Some-Some.x
    ∷ rest_of c.loop-a.left) (option_to_list o ++ rest_of c.loop-a.right) c.loop-a.steps) c.in-Some-Some.is-1
    (subst (λ (o : Option (Key × Cell Value)). IsWalked c.args.first.now.items c.args.second.now.items c.loop-a.cells.items (option_to_list o
    ++ rest_of c.loop-a.left) (option_to_list c.loop-a.b ++ rest_of c.loop-a.right) c.loop-a.steps) c.in-Some-Some.is-0 c.loop-a.invariant.0) in
    let order : key_cmp c.in-Some-Some.x.0 c.in-Some-Some.y.0 ≡ Less =
    sym (c.in-Less.ensures.order ∙ ap (key_cmp c.in-Some-Some.x.0) c.key.ensures.value) in (
      walked_to c.args.first.now.items c.args.second.now.items (c.loop-a.cells.items ++ c.in-Some-Some.x ∷ []) _ (rest_of c.loop-a.left) _ (c.in-Some-Some.y
          ∷ rest_of c.loop-a.right) _ (c.loop-a.steps + 1) _
          (walked_first c.args.first.now.items c.args.second.now.items c.loop-a.cells.items (rest_of c.loop-a.left) (rest_of c.loop-a.right) c.in-Some-Some.x
          c.in-Some-Some.y c.loop-a.steps w order)
          c.in_ok-push-in-Less.ensures.ok (next_left _ _ _ c.next-a-in-Less.ensures.steps) (ap (λ o. option_to_list o
          ++ rest_of c.loop-a.right) c.in-Some-Some.is-1) c.compare.ensures.counted,
      nothing_left _ _ _ c.next-a-in-Less.ensures.steps,
      c.loop-a.invariant.2,
    )

pub loop-a-preserved-in_ok-push-in-Greater : goal.loop-a-preserved-in_ok-push-in-Greater
loop-a-preserved-in_ok-push-in-Greater c =
    let w : IsWalked c.args.first.now.items c.args.second.now.items c.loop-a.cells.items (c.in-Some-Some.x ∷ rest_of c.loop-a.left) (c.in-Some-Some.y
    ∷ rest_of c.loop-a.right) c.loop-a.steps =
    subst (λ (o : Option (Key × Cell Value)). IsWalked c.args.first.now.items c.args.second.now.items c.loop-a.cells.items (c.in-Some-Some.x
    ∷ rest_of c.loop-a.left) (option_to_list o ++ rest_of c.loop-a.right) c.loop-a.steps) c.in-Some-Some.is-1
    (subst (λ (o : Option (Key × Cell Value)). IsWalked c.args.first.now.items c.args.second.now.items c.loop-a.cells.items (option_to_list o
    ++ rest_of c.loop-a.left) (option_to_list c.loop-a.b ++ rest_of c.loop-a.right) c.loop-a.steps) c.in-Some-Some.is-0 c.loop-a.invariant.0) in
    let order : key_cmp c.in-Some-Some.x.0 c.in-Some-Some.y.0 ≡ Greater =
    sym (c.in-Greater.ensures.order ∙ ap (key_cmp c.in-Some-Some.x.0) c.key.ensures.value) in (
      walked_to c.args.first.now.items c.args.second.now.items (c.loop-a.cells.items ++ c.in-Some-Some.y ∷ []) _ (c.in-Some-Some.x
          ∷ rest_of c.loop-a.left) _ (rest_of c.loop-a.right) _ (c.loop-a.steps + 1) _
          (walked_second c.args.first.now.items c.args.second.now.items c.loop-a.cells.items (rest_of c.loop-a.left) (rest_of c.loop-a.right) c.in-Some-Some.x
          c.in-Some-Some.y c.loop-a.steps w order)
          c.in_ok-push-in-Greater.ensures.ok (ap (λ o. option_to_list o ++ rest_of c.loop-a.left) c.in-Some-Some.is-0)
          (next_left _ _ _ c.next-b-in-Greater.ensures.steps) c.compare.ensures.counted,
      c.loop-a.invariant.1,
      nothing_left _ _ _ c.next-b-in-Greater.ensures.steps,
    )

pub loop-a-preserved : goal.loop-a-preserved
loop-a-preserved c =
    let w : IsWalked c.args.first.now.items c.args.second.now.items c.loop-a.cells.items (c.in-Some-Some.x ∷ rest_of c.loop-a.left) (c.in-Some-Some.y
    ∷ rest_of c.loop-a.right) c.loop-a.steps =
    subst (λ (o : Option (Key × Cell Value)). IsWalked c.args.first.now.items c.args.second.now.items c.loop-a.cells.items (c.in-Some-Some.x
    ∷ rest_of c.loop-a.left) (option_to_list o ++ rest_of c.loop-a.right) c.loop-a.steps) c.in-Some-Some.is-1
    (subst (λ (o : Option (Key × Cell Value)). IsWalked c.args.first.now.items c.args.second.now.items c.loop-a.cells.items (option_to_list o
    ++ rest_of c.loop-a.left) (option_to_list c.loop-a.b ++ rest_of c.loop-a.right) c.loop-a.steps) c.in-Some-Some.is-0 c.loop-a.invariant.0) in
    let order : key_cmp c.in-Some-Some.x.0 c.in-Some-Some.y.0 ≡ Equal =
    sym (c.in-Equal.ensures.order ∙ ap (key_cmp c.in-Some-Some.x.0) c.key.ensures.value) in
    let same : c.in-Some-Some.x.0 ≡ c.in-Some-Some.y.0 = key_exact c.in-Some-Some.x.0 c.in-Some-Some.y.0 order in (
      walked_to c.args.first.now.items c.args.second.now.items (c.loop-a.cells.items ++ (c.in-Some-Some.x.0, join c.in-Some-Some.x.1 c.in-Some-Some.y.1)
          ∷ []) _ (rest_of c.loop-a.left) _ (rest_of c.loop-a.right) _ (c.loop-a.steps + 1) _
          (walked_both c.args.first.now.items c.args.second.now.items c.loop-a.cells.items (rest_of c.loop-a.left) (rest_of c.loop-a.right) c.in-Some-Some.x
          c.in-Some-Some.y c.loop-a.steps w same (subst IsSighting c.join_cells.ensures.value c.join_cells.ensures.in_range))
          (c.in_ok-push-in-Equal.ensures.ok
          ∙ ap (λ z. c.loop-a.cells.items ++ z ∷ []) c.join_cells.ensures.value) (next_left _ _ _ c.next-a-in-Equal.ensures.steps)
          (next_left _ _ _ c.next-b-in-Equal.ensures.steps) c.compare.ensures.counted,
      nothing_left _ _ _ c.next-a-in-Equal.ensures.steps,
      nothing_left _ _ _ c.next-b-in-Equal.ensures.steps,
    )

pub loop-a-init : goal.loop-a-init
loop-a-init c = (
  walked_start c.args.first.now.items c.args.second.now.items _ _ _ _ c.requires.first c.requires.second (λ i. (c.new-cells.ensures i).items)
      (next_left _ _ _ c.next-a.ensures.steps ∙ c.iter-left.ensures.items) (next_left _ _ _ c.next-b.ensures.steps
      ∙ c.iter-right.ensures.items) c.requires.steps,
  nothing_left _ _ _ c.next-a.ensures.steps,
  nothing_left _ _ _ c.next-b.ensures.steps,
)

-- what is held at the end
at_end : (c : goal.In_ok-append-2) → (option_to_list c.loop-a.a ++ rest_of c.loop-a.left ≡ []) ⊎ (option_to_list c.loop-a.b ++ rest_of c.loop-a.right ≡ [])
at_end c =
    elim c.match-a.branch [
      | in_default w ↦ inr (ap (λ o. option_to_list o ++ rest_of c.loop-a.right) w.in_default.is-1 ∙ c.loop-a.invariant.2 w.in_default.is-1)
      | in_default-2 w ↦ inl (ap (λ o. option_to_list o ++ rest_of c.loop-a.left) w.in_default.is-0 ∙ c.loop-a.invariant.1 w.in_default.is-0)
    ]

-- the cells at the end
all_at_end : (c : goal.In_ok-append-2) → AreCells c.append-2.new.cells.items
    × (seen c.append-2.new.cells.items ≡ seen (c.args.first.now.items ++ c.args.second.now.items))
all_at_end c =
    walked_all c.args.first.now.items c.args.second.now.items c.loop-a.cells.items (option_to_list c.loop-a.a
    ++ rest_of c.loop-a.left) (option_to_list c.loop-a.b ++ rest_of c.loop-a.right) c.append-2.new.cells.items c.loop-a.steps c.loop-a.invariant.0 (at_end c)
    (c.in_ok-append-2.ensures ∙ ap (λ (z : List (Key × Cell Value)). z ++ option_to_list c.loop-a.b ++ rest_of c.loop-a.right) (c.in_ok-append.ensures
    ∙ append_assoc c.loop-a.cells.items (option_to_list c.loop-a.a) (rest_of c.loop-a.left))
    ∙ append_assoc (c.loop-a.cells.items ++ (option_to_list c.loop-a.a ++ rest_of c.loop-a.left)) (option_to_list c.loop-a.b) (rest_of c.loop-a.right))

pub returns-clause-cells : goal.returns-clause-cells
returns-clause-cells c = (all_at_end c).0

pub returns-clause-merged : goal.returns-clause-merged
returns-clause-merged c = (all_at_end c).1 ∙ seen_of_both c.args.first.now.items c.args.second.now.items

pub returns-clause-counted : goal.returns-clause-counted
returns-clause-counted c =
    compared_all c.args.first.now.items c.args.second.now.items c.loop-a.cells.items (option_to_list c.loop-a.a
    ++ rest_of c.loop-a.left) (option_to_list c.loop-a.b ++ rest_of c.loop-a.right) c.loop-a.steps c.loop-a.invariant.0 (at_end c)
