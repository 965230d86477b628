-- What two cells in range say together is in range.
use Rattle.std.proofs.Common.{◌≡◌, sym, ap, ◌∙◌, subst}
use Rattle.fact_join.specs.declared.cell.Cell.{Cell}
use Rattle.reply_facts.specs.declared.key.Key.{Key}
use Rattle.reply_facts.specs.declared.value.Value.{Value}
use Rattle.fact_store.specs.Merge.{join}
use Rattle.reply_facts.specs.Sighting.{IsSighting}
use Rattle.fact_store.proofs.Puts.{join_in_range}
use Rattle.fact_store.proofs.cells.join_cells.Goals as goal

pub unwrap-requires : goal.unwrap-requires
unwrap-requires c =
    let second : IsSighting (c.args.first.now.0, c.args.second.now.1) =
    subst (λ (k : Key). IsSighting (k, c.args.second.now.1)) (sym c.requires) c.cell-2.ensures.in_range in
    let both = join_in_range c.args.first.now.0 c.args.first.now.1 c.args.second.now.1 c.key.ensures.in_range second in
    let cell : c.join.result ≡ join c.args.first.now.1 c.args.second.now.1 =
    c.join.ensures ∙ ap (λ (x : Cell Value). join x c.cell-2.result) c.cell.ensures.value ∙ ap (join c.args.first.now.1) c.cell-2.ensures.value in
    c.new.ensures.exact.1
    (subst (λ (k : Key). IsSighting (k, c.join.result)) (sym c.key.ensures.value)
    (subst (λ (x : Cell Value). IsSighting (c.args.first.now.0, x)) (sym cell) both))
