-- What is passed for one width stays so where a range of the other is marked.
use Rattle.std.proofs.Common.{◌≡◌, ◌^◌, ℕ, sym, ◌∙◌, subst, length}
use Rattle.std.specs.Prelude.{MatchOption, option_map}
use Rattle.lid_assign.specs.Ranges.{width_of}
use Rattle.lid_assign.specs.LidMarks.{from_on, AreMarkedMore, NoneUnmarked, IsLeastUnmarked}
use Rattle.lid_assign.proofs.Passing.{still_passed}
use Rattle.lid_assign.proofs.Ranges.{width_wide}
use Rattle.lid_assign.proofs.hand_out.take.Goals as goal

pub returns-then-number-eq0-clause-passed : goal.returns-then-number-eq0-clause-passed
returns-then-number-eq0-clause-passed c =
    record {
      switches = c.take_from.ensures.passed;
      adapters = still_passed (option_map (from_on 1) c.take_from.result) c.args.taken.now c.take_from.new.taken c.take_from.ensures.marked (2 ^ c.args.lmc)
          c.args.next.now.adapter c.requires.passed.adapters;
    }

pub returns-else-number-eq0-clause-found : goal.returns-else-number-eq0-clause-found
returns-else-number-eq0-clause-found c =
    let w : c.from.result ≡ width_of c.args.lmc c.args.port =
    c.from.ensures ∙ c.width.ensures.value ∙ sym (width_wide c.args.lmc c.args.port (λ q. c.if-number-eq0.false (c.number.ensures ∙ q))) in
    subst (λ (v : ℕ). MatchOption c.take_from-else-number-eq0.result (NoneUnmarked c.args.taken.now v 0 (length c.args.taken.now))
    (IsLeastUnmarked c.args.taken.now v 0)) w
    c.take_from-else-number-eq0.ensures.found

pub returns-else-number-eq0-clause-marked : goal.returns-else-number-eq0-clause-marked
returns-else-number-eq0-clause-marked c =
    let w : c.from.result ≡ width_of c.args.lmc c.args.port =
    c.from.ensures ∙ c.width.ensures.value ∙ sym (width_wide c.args.lmc c.args.port (λ q. c.if-number-eq0.false (c.number.ensures ∙ q))) in
    subst (λ (v : ℕ). AreMarkedMore (option_map (from_on v) c.take_from-else-number-eq0.result) c.args.taken.now c.take_from-else-number-eq0.new.taken) w
    c.take_from-else-number-eq0.ensures.marked
