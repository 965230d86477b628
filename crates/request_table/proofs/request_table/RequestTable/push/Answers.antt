-- The number is the next one.
use Rattle.std.proofs.Common.{◌+◌, ◌<◌, ◌^◌, List, sym, ◌∙◌, ap, subst}
use Rattle.request_table.specs.Numbers.{AreNumbered, Table}
use Rattle.request_table.proofs.Numbers.{numbered_pushed}
use Rattle.request_table.proofs.request_table.RequestTable.push.Goals as goal

pub invariant_of-self : goal.invariant_of-self
invariant_of-self g c =
    let next = ap (λ (v : Table g.row.T.Denot). v.next) c.self.view_is in
    subst (λ (rs : List g.row.T.Denot). AreNumbered g.T.Numbered.number rs (c.self.inside.next + 1)) (sym c.push_back_reserved.ensures.items)
    (numbered_pushed g.T.Numbered.number c.self.inside.requests.items c.self.inside.next c.args.request c.self.invariant
    (c.requires.number ∙ sym next) (subst (λ (v : Table g.row.T.Denot). v.next < 2 ^ 32) (sym c.self.view_is) c.requires.spare))
