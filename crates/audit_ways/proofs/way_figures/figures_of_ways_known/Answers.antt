-- By what was counted.
use Rattle.std.proofs.Common.{List, ℕ, get_or, map, subst}
use Rattle.fact_store.specs.View.{cells_of}
use Rattle.audit_ways.specs.Figures.{IsTotal}
use Rattle.audit_ways.specs.Ways.{channels_of}
use Rattle.audit_ways.proofs.Loads.{told}
use Rattle.audit_ways.proofs.way_figures.figures_of_ways_known.Goals as goal

pub returns : goal.returns
returns c =
    let cells = cells_of c.args.network.now.facts in
    told cells c.args.network.now.held c.in_ok-tally.tally c.in_ok-loads.loads (record { hops = c.in_ok-hops.hops; load = c.in_ok-load.load })
    c.in_ok-tally.ensures
    (subst (λ (xs : List ℕ). IsTotal (map (λ n. get_or xs n 0) (channels_of cells)) c.in_ok-loads.loads) c.deref.ensures.value c.in_ok-loads.ensures)
    c.in_ok-hops.ensures c.in_ok-load.ensures
