use Rattle.std.proofs.Common.{◌≡◌, ℕ, drop, get_or, length}
use Rattle.spread_routes.specs.AdapterChoices.{choice_towards}
use Rattle.spread_routes.specs.Exits.{port_turn, with_entries}
use Rattle.spread_routes.proofs.exits.write_chosen.Given as goal

-- the LIDs that are left do the rest
abbrev pub invariant-loop-lid : goal.invariant-loop-lid
invariant-loop-lid l =
    record {
      all : length l.entries ≡ length l.fn.entries;
      left : (weight : ℕ)
          → with_entries (λ lid. port_turn l.ports (choice_towards l.choices weight (get_or l.numbers lid 0) l.own l.target)) l.entries (drop l.lid-index l.lids)
          ≡ with_entries (λ lid. port_turn l.ports (choice_towards l.choices weight (get_or l.numbers lid 0) l.own l.target)) l.fn.entries l.lids;
    }
