use Rattle.std.proofs.Common.{◌≡◌, drop, length}
use Rattle.spread_routes.specs.Exits.{with_entries}
use Rattle.spread_routes.proofs.exits.write_none.Given as goal

-- the LIDs that are left do the rest
abbrev pub invariant-loop-lid : goal.invariant-loop-lid
invariant-loop-lid l =
    record {
      all : length l.entries ≡ length l.fn.entries;
      left : with_entries (λ lid. l.none) l.entries (drop l.lid-index l.lids) ≡ with_entries (λ lid. l.none) l.fn.entries l.lids;
    }
