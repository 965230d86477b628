use Rattle.std.proofs.Common.{◌≡◌, ◌-◌, ◌^◌, map}
use Rattle.std.specs.Prelude.{min}
use Rattle.spread_labels.specs.Orders.{numbers_from}
use Rattle.spread_routes.specs.AdapterChoices.{first_at}
use Rattle.spread_routes.proofs.adapter_choices.firsts.Given as goal

-- the numbers so far, and the next
abbrev pub invariant-loop-count : goal.invariant-loop-count
invariant-loop-count l =
    (l.first ≡ min (first_at l.adapters l.count-index) (2 ^ 64 - 1))
    × (l.firsts.items ≡ map (λ q. min (first_at l.adapters q) (2 ^ 64 - 1)) (numbers_from 0 l.count-index))
