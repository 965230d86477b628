-- Sorted, and then each once.
use Rattle.std.proofs.Common.{◌∙◌}
use Rattle.std.specs.Ordering.{nat_cmp}
use Rattle.std.specs.FinMap.{nat_cmp-IsAntisymmetric}
use Rattle.std.proofs.lemmas.Bool.{eqb-true}
use Rattle.std.proofs.lemmas.Cmp.{nat_cmp_total, nat_eq_equiv}
use Rattle.std.proofs.lemmas.List.Filters.{dedup_is}
use Rattle.audit_counts.proofs.Rising.{sorted_once}
use Rattle.audit_counts.proofs.Ties.{number_ties}
use Rattle.audit_counts.proofs.fact_gaps.in_order.order_guids.Goals as goal

pub returns : goal.returns
returns c =
    dedup_is _ _ _ c.dedup.ensures.filtered
    ∙ sorted_once nat_cmp nat_cmp_total nat_cmp-IsAntisymmetric _ nat_eq_equiv (λ x y e. eqb-true x y e) number_ties _ _
    c.sort_unstable.ensures.permutation c.sort_unstable.ensures.sorted
