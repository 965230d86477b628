-- One that is kept is joined to what is there, and one that is not tells nothing.
use Rattle.fact_store.specs.Seen.{seen}
use Rattle.std.proofs.Common.{sym, ◌∙◌, ◌∷◌, []}
use Rattle.fact_store.proofs.Held.{held_kept, merged_held, one_kept, put_in_view}
use Rattle.fact_store.proofs.Views.{sighting_below}
use Rattle.fact_store.proofs.cells.put_kept.Goals as goal

pub returns-then-is_at_least-clause-cells : goal.returns-then-is_at_least-clause-cells
returns-then-is_at_least-clause-cells c =
    merged_held c.args.floor (seen c.args.cells.now.items) (seen (c.args.sighting ∷ [])) c.put.new.cells.items c.requires.cells.from_one
    (held_kept c.args.floor c.args.cells.now.items c.requires.cells)
    (one_kept c.args.floor c.args.sighting (sym c.is_at_least.ensures ∙ c.if-is_at_least.true)) c.put.ensures.cells c.put.ensures.put

pub returns-then-is_at_least-clause-put : goal.returns-then-is_at_least-clause-put
returns-then-is_at_least-clause-put c = put_in_view c.args.floor c.args.cells.now.items c.put.new.cells.items c.args.sighting c.put.ensures.put

pub returns-else-is_at_least-clause-put : goal.returns-else-is_at_least-clause-put
returns-else-is_at_least-clause-put c = sighting_below c.args.floor c.args.cells.now.items c.args.sighting (sym c.is_at_least.ensures ∙ c.if-is_at_least.false)
