use Rattle.std.proofs.Common.{◌≡◌, ◌||◌, drop}
use Rattle.std.specs.Prelude.{nat_lt, slice_index_or}
use Rattle.std.specs.List.{list_any}
use Rattle.spread_labels.specs.TargetSet.{EachTarget, has}
use Rattle.spread_labels.specs.MarkSets.{picked}
use Rattle.spread_routes.specs.Exits.{no_lid_digit}
use Rattle.spread_routes.proofs.lid_digit.higher_targets.Given as goal

-- those found so far, and those by the edges that are left
abbrev pub invariant-loop-i : goal.invariant-loop-i
invariant-loop-i l = EachTarget (λ k.
    (has l.higher k ||
    list_any (λ edge. nat_lt l.lid_digit.level (slice_index_or l.lid_digits edge.to no_lid_digit).level) (picked k (drop l.i l.sets) (drop l.i l.edges)))
    ≡ list_any (λ edge. nat_lt l.lid_digit.level (slice_index_or l.lid_digits edge.to no_lid_digit).level) (picked k l.sets l.edges))
