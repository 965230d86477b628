-- The LIDs are below the bound, and so have marks.
use Rattle.std.proofs.Common.{◌≡◌, sym, ap, ◌∙◌, subst, arith, List, ℕ, inl, inr, length, false, true, rules}
use Rattle.std.proofs.lemmas.Bool.{cases_lt}
use Rattle.std.proofs.lemmas.List.{length-set, length-replicate, get_or-replicate, get_or_past}
use Rattle.std.specs.Prelude.{replicate, slice_index_or, slice_set}
use Rattle.subnet_view.specs.declared.end_port.EndPort.{EndPort}
use Rattle.subnet_view.proofs.Members.{contains_in}
use Rattle.lid_assign.specs.LidMap.{AreLidMarks}
use Rattle.lid_assign.proofs.Ranges.{some_width}
use Rattle.lid_assign.proofs.Tables.{stepped, seen, marks_more, next_below, rest_below}
use Rattle.lid_assign.proofs.lid_map.lid_marks.Goals as goal

-- no mark is set
unset : (most n : ℕ) → slice_index_or (replicate most false) n false ≡ false
unset most n = elim (cases_lt n most) [
  | inl l ↦ get_or-replicate most n false false l
  | inr m ↦ get_or_past (replicate most false) n false (omega (arith, m, length-replicate most false))
]

pub loop-lid-init : goal.loop-lid-init
loop-lid-init c =
    let items : c.in_ok-marks.marks.items ≡ replicate c.args.end false = search rules in
    let given = ap (λ it. it.iter.iter.rest.now) c.into_iter-lid-iterator.ensures.into_iter_gives
    ∙ ap (λ it. it.iter.rest.now) c.copied-lid-items.ensures.source
    ∙ ap (λ it. it.rest.now) c.rev.ensures.source ∙ c.iter.ensures.rest in (
      c.in_ok-marks.ensures.len,
      ap length items ∙ length-replicate c.args.end false,
      λ e n h. c.requires e n (contains_in (e, n) given h),
      λ n. ap (λ ms. slice_index_or ms n false) items ∙ unset c.args.end n,
    )

pub index_mut-requires : goal.index_mut-requires
index_mut-requires c =
    let x = c.in-Some.ensures.steps in
    let step = stepped c.loop-lid.lid-iterator.iter.iter.rest.now c.next.new.self.iter.iter.rest.now (c.in-Some.field-0-0, c.in-Some.lid) _ x.0 x.1 x.2 in
    let below = next_below c.args.end c.args.lmc _ _ c.in-Some.field-0-0 c.in-Some.lid step c.loop-lid.invariant.2 in
    omega (arith, below, c.loop-lid.invariant.0, c.from.ensures, c.number.ensures, some_width c.args.lmc c.in-Some.field-0-0)

pub loop-lid-preserved : goal.loop-lid-preserved
loop-lid-preserved c =
    let x = c.in-Some.ensures.steps in
    let step = stepped c.loop-lid.lid-iterator.iter.iter.rest.now c.next.new.self.iter.iter.rest.now (c.in-Some.field-0-0, c.in-Some.lid) _ x.0 x.1 x.2 in
    let below = next_below c.args.end c.args.lmc _ _ c.in-Some.field-0-0 c.in-Some.lid step c.loop-lid.invariant.2 in
    let number_is = c.from.ensures ∙ c.number.ensures in
    let marks = marks_more _ c.loop-lid.marks.items c.in-Some.field-0-0 c.in-Some.lid c.from.result number_is
    (omega (arith, below, c.loop-lid.invariant.1, number_is, some_width c.args.lmc c.in-Some.field-0-0)) c.loop-lid.invariant.3 in
    let Are : List (EndPort × ℕ) → Type 0 = λ given. AreLidMarks given (slice_set c.loop-lid.marks.items c.from.result true) in (
      c.loop-lid.invariant.0,
      length-set c.loop-lid.marks.items c.from.result true ∙ c.loop-lid.invariant.1,
      rest_below c.args.end c.args.lmc _ _ c.in-Some.field-0-0 c.in-Some.lid step c.loop-lid.invariant.2,
      subst Are (sym (seen c.loop-lid.yielded (c.in-Some.field-0-0, c.in-Some.lid))) marks,
    )
