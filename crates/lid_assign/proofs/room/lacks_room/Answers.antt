-- As many end ports as the room are too many, and few have room one beside the other.
use Rattle.std.proofs.Common.{◌+◌, ◌*◌, ◌≤◌, ℕ, sym, ◌∙◌, subst, arith}
use Rattle.std.proofs.lemmas.Bool.{false_from_ne_true, lt-ltb, ltb-true}
use Rattle.std.specs.Cmp.{both_ways}
use Rattle.std.specs.Prelude.{nat_lt}
use Rattle.fact_store.specs.View.{cells_of}
use Rattle.lid_assign.specs.Lids.{is_no_room}
use Rattle.lid_assign.proofs.Counting.{some_end_ports, few_have_room, many_have_none}
use Rattle.lid_assign.proofs.room.lacks_room.Goals as goal

pub returns-then-endports-room : goal.returns-then-endports-room
returns-then-endports-room c =
    let cells = cells_of c.args.store.now in
    let lmc = c.args.lmc in
    let n = c.count_end_ports-endports.result in
    let same = c.count_end_ports-endports.ensures in
    let most = c.from-room.ensures ∙ c.room.ensures in
    both_ways (nat_lt 0 n) (is_no_room lmc cells)
    (λ e. many_have_none lmc cells (omega (arith, ltb-true 0 n e, same)) (omega (arith, same, most, c.if-endports-room.true)))
    (λ e. lt-ltb 0 n (omega (arith, some_end_ports lmc cells e, same)))

pub returns-then-endports-from : goal.returns-then-endports-from
returns-then-endports-from c =
    let cells = cells_of c.args.store.now in
    let lmc = c.args.lmc in
    let same = c.count_end_ports-endports.ensures in
    let most = c.from-room.ensures ∙ c.room.ensures in
    let width = c.from.ensures ∙ c.width.ensures.value in
    let all = subst (λ (x : ℕ × ℕ × ℕ). (x.0 + 1) * x.1 ≤ x.2) (λ i. (same i, width i, most i)) c.if-endports-from.true in
    sym (false_from_ne_true (is_no_room lmc cells) (few_have_room lmc cells all))
