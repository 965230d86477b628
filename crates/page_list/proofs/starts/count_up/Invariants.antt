-- The indices from `from` up to here are one more, and the others as they were.
use Rattle.std.proofs.Common.{◌≡◌, ◌+◌, ◌-◌, map, take, drop, ◌++◌}
use Rattle.page_list.proofs.starts.count_up.Given as goal

abbrev pub invariant-loop-i : goal.invariant-loop-i
invariant-loop-i l = l.numbers ≡ take l.from l.fn.numbers
    ++ (map (λ n. n + 1) (take (l.i - l.from) (drop l.from l.fn.numbers)) ++ drop (l.i - l.from) (drop l.from l.fn.numbers))
