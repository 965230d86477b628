use Rattle.std.proofs.Common.{◌≡◌, length, reverse, vec_len}
use Rattle.lid_assign.specs.LidMap.{AreLidMarks, AreBelow}
use Rattle.lid_assign.proofs.lid_map.lid_marks.Given as goal

-- the LIDs of those seen are marked; those to come are below the bound too
abbrev pub invariant-loop-lid : goal.invariant-loop-lid
invariant-loop-lid l =
    (vec_len l.marks ≡ l.fn.end) × (length l.marks.items ≡ l.fn.end) × AreBelow l.fn.end l.fn.lmc l.lid-iterator.iter.iter.rest.now
    × AreLidMarks (reverse l.yielded) l.marks.items
