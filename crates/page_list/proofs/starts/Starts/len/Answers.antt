-- As many as are held.
use Rattle.std.proofs.Common.{◌≡◌, length, ap, arith}
use Rattle.page_list.specs.Starts.{raised}
use Rattle.page_list.proofs.Raised.{length-raised}
use Rattle.page_list.proofs.starts.Starts.len.Goals as goal

pub returns : goal.returns
returns c =
    let view : raised c.self.inside.added.items 0 c.self.inside.starts.items ≡ c.args.self.now.items = λ i. (c.self.view_is i).items in
    omega (arith, ap length view, length-raised c.self.inside.added.items 0 c.self.inside.starts.items, c.self.inside.starts.ok.0, c.len.ensures)
