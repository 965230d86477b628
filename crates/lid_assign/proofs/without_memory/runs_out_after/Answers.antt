-- The next end port keeps its claim, takes the least open number, or finds none.
use Rattle.std.proofs.Common.{◌≡◌, ℕ, List, Bool, true, false, refl, arith, sym, subst, length}
use Rattle.std.specs.Prelude.{Option, None, Some, MatchOption, is_some, option_map}
use Rattle.fact_store.specs.View.{cells_of}
use Rattle.subnet_view.proofs.Counting.{is_None}
use Rattle.lid_assign.specs.declared.hand_out.Next.{Next}
use Rattle.lid_assign.specs.Ranges.{width_of, Range}
use Rattle.lid_assign.specs.LidMarks.{from_on, AreMarkedMore, NoneUnmarked, IsLeastUnmarked}
use Rattle.lid_assign.proofs.FreeLids.{room_at_most}
use Rattle.lid_assign.proofs.InTurn.{GivesInTurn, giving_in_turn, gives_kept, gives_open, finds_none}
use Rattle.lid_assign.proofs.Passing.{all_passed_start}
use Rattle.lid_assign.proofs.without_memory.runs_out_after.Goals as goal
use Rattle.lid_assign.proofs.without_memory.runs_out_after.Goals.{else-is_none-via-then-is_none+else-is_none-2, else-is_none-via-else-is_none}

-- what was found, or not
none_found : (P : Type 0) (Q : ℕ → Type 0) (o : Option ℕ) → is_some o ≡ false → MatchOption o P Q → P
none_found P Q None e f = f
none_found P Q (Some n) e f = absurd (cc)

one_found : (P : Type 0) (Q : ℕ → Type 0) (M : Option Range → Type 0) (w : ℕ) (o : Option ℕ) → is_some o ≡ true → MatchOption o P Q
    → M (option_map (from_on w) o)
    → (n : ℕ) × Q n × M (Some (from_on w n))
one_found P Q M w None e f m = absurd (cc)
one_found P Q M w (Some n) e f m = (n, f, m)

something : (o : Option ℕ) → is_some o ≡ true → (n : ℕ) × (o ≡ Some n)
something None e = absurd (cc)
something (Some n) e = (n, refl)

pub loop-end-init : goal.loop-end-init
loop-end-init c =
    giving_in_turn c.args.lmc (cells_of c.args.store.now) c.args.claimed.now c.args.taken.now c.first-next.result c.requires.claimed c.requires.taken
    (all_passed_start c.args.lmc c.args.taken.now c.first-next.result c.first-next.ensures)

pub take-requires-clause-room : goal.take-requires-clause-room
take-requires-clause-room c = omega (arith, c.loop-end.invariant.giving.taken.all, room_at_most (cells_of c.args.store.now))

pub returns-then-is_none-2 : goal.returns-then-is_none-2
returns-then-is_none-2 c =
    let end = c.in-Some.end in
    finds_none c.args.lmc (cells_of c.args.store.now) c.loop-end.last end c.loop-end.claimed c.loop-end.taken c.claims_first-kept.new.claimed c.loop-end.next
    c.width.result c.claim.result
    c.claims_first-kept.result c.in-Some.ensures c.width.ensures.value c.claim.ensures c.claims_first-kept.ensures.kept c.claims_first-kept.ensures.claimed
    c.loop-end.invariant
    (is_None c.claims_first-kept.result c.if-is_none.ensures)
    (none_found (NoneUnmarked c.loop-end.taken (width_of c.args.lmc end.1) 0 (length c.loop-end.taken))
    (IsLeastUnmarked c.loop-end.taken (width_of c.args.lmc end.1) 0) c.take.result c.if-is_none-2.ensures c.take.ensures.found)

pub loop-end-preserved : goal.loop-end-preserved
loop-end-preserved c =
    let end = c.in-Some.end in
    let lmc = c.args.lmc in
    let cells = cells_of c.args.store.now in
    let lid = c.claims_first-kept.result in
    let Is : List Bool × Next → Type 0 = λ x. GivesInTurn lmc cells (Some end) c.claims_first-kept.new.claimed x.0 x.1 in
    elim c.else-is_none.branch [
      | else-is_none-via-then-is_none+else-is_none-2 w ↦
          let n = one_found (NoneUnmarked c.loop-end.taken (width_of lmc end.1) 0 (length c.loop-end.taken))
          (IsLeastUnmarked c.loop-end.taken (width_of lmc end.1) 0)
          (λ r. AreMarkedMore r c.loop-end.taken w.take.new.taken) (width_of lmc end.1) w.take.result w.if-is_none-2.ensures w.take.ensures.found
          w.take.ensures.marked in
          subst Is (λ i. (sym w.taken-is i, sym w.next-is i))
          (gives_open lmc cells c.loop-end.last end c.loop-end.claimed c.loop-end.taken c.claims_first-kept.new.claimed c.loop-end.next c.width.result
          c.claim.result
          lid c.in-Some.ensures c.width.ensures.value c.claim.ensures c.claims_first-kept.ensures.kept c.claims_first-kept.ensures.claimed c.loop-end.invariant
          (is_None lid w.if-is_none.ensures) n.0 w.take.new.taken w.take.new.next n.1 n.2 w.take.ensures.passed)
      | else-is_none-via-else-is_none w ↦
          let n = something lid w.if-is_none.ensures in
          subst Is (λ i. (sym w.taken-is i, sym w.next-is i))
          (gives_kept lmc cells c.loop-end.last end c.loop-end.claimed c.loop-end.taken c.claims_first-kept.new.claimed c.loop-end.next c.width.result
          c.claim.result
          lid c.in-Some.ensures c.width.ensures.value c.claim.ensures c.claims_first-kept.ensures.kept c.claims_first-kept.ensures.claimed c.loop-end.invariant
          n.0 n.1)
    ]
