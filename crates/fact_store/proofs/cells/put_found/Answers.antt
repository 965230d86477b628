-- Where the key has a cell the two are joined, and else the cell goes in.
use Rattle.std.proofs.Common.{◌≡◌, ℕ, sym, ap, ◌∙◌, subst}
use Rattle.std.specs.Prelude.{Some, Result, option_copied, slice_get}
use Rattle.fact_join.specs.declared.cell.Cell.{Cell}
use Rattle.reply_facts.specs.declared.key.Key.{Key}
use Rattle.reply_facts.specs.declared.value.Value.{Value}
use Rattle.fact_store.specs.Cells.{IsSearched, IsIndexFor}
use Rattle.fact_store.proofs.Puts.{put_cells, put_seen, joined_cells, joined_seen}
use Rattle.fact_store.proofs.cells.put_found.Goals as goal

-- equal options have equal keys
some_key : (a b : Key × Cell Value) → Some a ≡ Some b → a.0 ≡ b.0
some_key a b e = cc

pub returns-in-Ok-clause-cells : goal.returns-in-Ok-clause-cells
returns-in-Ok-clause-cells c =
    let at : slice_get c.args.cells.now.items c.in-Ok.index ≡ Some c.unwrap.result.now = sym c.get_near.ensures ∙ ap option_copied c.unwrap.ensures in
    let found : (x : Cell Value) × (slice_get c.args.cells.now.items c.in-Ok.index ≡ Some (c.args.sighting.0, x)) =
    subst (λ (r : Result ℕ ℕ). IsSearched c.args.sighting.0 c.args.cells.now.items r) c.in-Ok.is c.requires.found in
    let same : c.unwrap.result.now.0 ≡ c.args.sighting.0 = some_key c.unwrap.result.now (c.args.sighting.0, found.0) (sym at ∙ found.1) in
    joined_cells c.args.cells.now.items c.requires.cells c.in-Ok.index c.args.sighting c.set_near.new.self.items c.unwrap.result.now at same c.join_cells.result
    c.join_cells.ensures.value c.join_cells.ensures.in_range c.set_near.ensures.items

pub returns-in-Ok-clause-put : goal.returns-in-Ok-clause-put
returns-in-Ok-clause-put c =
    let at : slice_get c.args.cells.now.items c.in-Ok.index ≡ Some c.unwrap.result.now = sym c.get_near.ensures ∙ ap option_copied c.unwrap.ensures in
    let found : (x : Cell Value) × (slice_get c.args.cells.now.items c.in-Ok.index ≡ Some (c.args.sighting.0, x)) =
    subst (λ (r : Result ℕ ℕ). IsSearched c.args.sighting.0 c.args.cells.now.items r) c.in-Ok.is c.requires.found in
    let same : c.unwrap.result.now.0 ≡ c.args.sighting.0 = some_key c.unwrap.result.now (c.args.sighting.0, found.0) (sym at ∙ found.1) in
    joined_seen c.args.cells.now.items c.requires.cells c.in-Ok.index c.args.sighting c.set_near.new.self.items c.unwrap.result.now at same c.join_cells.result
    c.join_cells.ensures.value c.join_cells.ensures.in_range c.set_near.ensures.items

pub returns-in-Err-clause-cells : goal.returns-in-Err-clause-cells
returns-in-Err-clause-cells c =
    let there : IsIndexFor c.args.sighting.0 c.args.cells.now.items c.in-Err.index =
    subst (λ (r : Result ℕ ℕ). IsSearched c.args.sighting.0 c.args.cells.now.items r) c.in-Err.is c.requires.found in
    put_cells c.args.cells.now.items c.requires.cells c.in-Err.index c.args.sighting c.insert_near.new.self.items there c.requires.in_range
    c.insert_near.ensures.items

pub returns-in-Err-clause-put : goal.returns-in-Err-clause-put
returns-in-Err-clause-put c =
    let there : IsIndexFor c.args.sighting.0 c.args.cells.now.items c.in-Err.index =
    subst (λ (r : Result ℕ ℕ). IsSearched c.args.sighting.0 c.args.cells.now.items r) c.in-Err.is c.requires.found in
    put_seen c.args.cells.now.items c.requires.cells c.in-Err.index c.args.sighting c.insert_near.new.self.items there c.requires.in_range
    c.insert_near.ensures.items
