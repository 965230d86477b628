-- Weights of 0.
use Rattle.std.proofs.Common.{rules, ◌≡◌, ℕ, replicate, refl}
use Rattle.fact_store.specs.View.{cells_of}
use Rattle.audit_ways.proofs.Grouped.{none_grouped}
use Rattle.audit_ways.proofs.sender_groups.Groups.none.Goals as goal

pub returns : goal.returns
returns c =
    let are : c.in_ok-vec.field-0.items ≡ replicate {A = ℕ} c.switch_count.result 0 = search rules in
    none_grouped (cells_of c.args.network.now.facts) _ c.switch_count.result are refl c.switch_count.ensures
