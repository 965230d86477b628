use Rattle.std.proofs.Common.{◌≡◌, ℕ, [], length, map}
use Rattle.std.specs.Prelude.{slice_index_or}
use Rattle.spread_labels.proofs.candidate_lists.CandidateLists.new.Given as goal

-- as many lists, all without ports
abbrev pub invariant-loop : goal.invariant-loop
invariant-loop l =
    record {
      all : length l.lists.items ≡ l.counter;
      none : (k : ℕ) → slice_index_or (map (λ list. list.items) l.lists.items) k [] ≡ [];
    }
