-- A floor is 1 or more.
use Rattle.fact_store.proofs.Held.{floor_is}
use Rattle.fact_store.proofs.store.Store.floor.Goals as goal

pub returns : goal.returns
returns c = floor_is c.self.inside.floor c.self.inside.cells.items c.args.self.now c.self.view_is c.self.invariant.from_one
