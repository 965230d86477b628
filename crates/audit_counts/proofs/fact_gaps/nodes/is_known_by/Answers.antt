-- What is found is one of those given.
use Rattle.std.proofs.Common.{◌∙◌, sym}
use Rattle.std.specs.Ordering.{nat_cmp}
use Rattle.std.specs.FinMap.{nat_cmp-IsAntisymmetric}
use Rattle.audit_counts.proofs.Found.{found_there}
use Rattle.audit_counts.proofs.fact_gaps.nodes.is_known_by.Goals as goal

pub returns-then-is_ok : goal.returns-then-is_ok
returns-then-is_ok c =
    let search = c.binary_search in
    c.if-is_ok.true
    ∙ sym
    (c.requires c.args.node
    (found_there nat_cmp nat_cmp-IsAntisymmetric c.args.node c.args.known.now search.result search.ensures.bound search.ensures.ok
    (sym c.is_ok.ensures.value ∙ c.if-is_ok.true)))
