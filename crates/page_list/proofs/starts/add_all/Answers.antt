-- A write of the next sum.
use Rattle.std.proofs.Common.{◌≡◌, ℕ, suc, ◌<◌, ◌+◌, ◌/◌, ◌++◌, List, get_or, set, take, drop, length, ap, ◌∙◌, arith}
use Rattle.page_list.specs.Starts.{raised}
use Rattle.page_list.proofs.Raised.{length-raised, raised_at, add_step, not_yet, all_added}
use Rattle.page_list.proofs.starts.add_all.Goals as goal

pub overflow_add-numbers : goal.overflow_add-numbers
overflow_add-numbers c =
    let s = c.args.numbers.now in
    let added = c.args.added.now in
    let i = c.loop-i.i in
    let h : i < length s = omega (arith, c.loop-i-test.true) in
    let from_start : 0 + i ≡ i = omega arith in
    let same : get_or c.loop-i.numbers i 0 ≡ get_or s i 0 = ap (λ (z : List ℕ). get_or z i 0) c.loop-i.invariant ∙ not_yet added 0 s i h in
    let there : get_or (raised added 0 s) i 0 ≡ get_or s i 0 + get_or added (i / 64) 0 =
    raised_at added 0 s i h ∙ ap (λ (m : ℕ). get_or s i 0 + get_or added (m / 64) 0) from_start in
    omega (arith, same, there, c.requires.fits i 0 (omega (arith, length-raised added 0 s)))

pub loop-i-preserved : goal.loop-i-preserved
loop-i-preserved c =
    let s = c.args.numbers.now in
    let added = c.args.added.now in
    let i = c.loop-i.i in
    let from_start : i ≡ 0 + i = omega arith in
    let next : suc i ≡ i + 1 = omega arith in
    ap (λ (z : List ℕ). set z i (get_or z i 0 + get_or added (i / 64) 0)) c.loop-i.invariant
    ∙ ap (λ (m : ℕ). set (take i (raised added 0 s) ++ drop i s) i (get_or (take i (raised added 0 s) ++ drop i s) i 0 + get_or added (m / 64) 0)) from_start
    ∙ add_step added 0 s i (omega (arith, c.loop-i-test.true))
    ∙ ap (λ (m : ℕ). take m (raised added 0 s) ++ drop m s) next

pub returns : goal.returns
returns c = c.loop-i.invariant ∙ all_added c.args.added.now 0 c.args.numbers.now c.loop-i.i (omega (arith, c.loop-i-test.false))
