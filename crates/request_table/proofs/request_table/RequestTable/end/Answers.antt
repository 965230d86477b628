-- The numbers rise, so that one index is one number.
use Rattle.std.proofs.Common.{◌≡◌, ◌<◌, List, length, ap, sym, ◌∙◌, subst, arith, rules}
use Rattle.std.specs.Prelude.{Some, remove, slice_get}
use Rattle.std.proofs.lemmas.Option.{slice_get-get_or}
use Rattle.request_table.specs.Numbers.{AreNumbered, Table, without_number}
use Rattle.request_table.proofs.Numbers.{numbered_without, rising_ordered, without_at}
use Rattle.request_table.proofs.request_table.RequestTable.end.Goals as goal

within : (g : _) (c : goal.After-unwrap g) → c.args.index < length c.self.inside.requests.items
within g c = subst (λ (v : Table g.row.T.Denot). c.args.index < length v.requests) (sym c.self.view_is) c.requires

there : (g : _) (c : goal.After-unwrap g) → slice_get c.self.inside.requests.items c.args.index ≡ Some c.unwrap.result
there g c =
    slice_get-get_or c.self.inside.requests.items c.args.index c.unwrap.result (within g c)
    ∙ sym (c.remove.ensures.succeeds c.unwrap.result (omega (arith, within g c, c.self.inside.requests.ok)))
    ∙ c.unwrap.ensures

gone : (g : _) (c : goal.After-unwrap g) → c.remove.new.self.items ≡ remove c.self.inside.requests.items c.args.index
gone g c = search (rules, c.remove.ensures.items, c.unwrap.ensures)

pub invariant_of-self : goal.invariant_of-self
invariant_of-self g c =
    subst (λ (rs : List g.row.T.Denot). AreNumbered g.T.Numbered.number rs c.self.inside.next) (sym (gone g c))
    (numbered_without g.T.Numbered.number c.self.inside.requests.items c.self.inside.next c.args.index c.self.invariant)

pub returns-clause-request : goal.returns-clause-request
returns-clause-request g c = sym (there g c) ∙ ap (λ (v : Table g.row.T.Denot). slice_get v.requests c.args.index) c.self.view_is

pub returns-clause-requests : goal.returns-clause-requests
returns-clause-requests g c =
    gone g c
    ∙ sym (without_at g.T.Numbered.number c.self.inside.requests.items c.args.index c.unwrap.result
    (rising_ordered g.T.Numbered.number 0 c.self.inside.requests.items c.self.inside.next c.self.invariant.rising) (there g c))
    ∙ ap (λ (v : Table g.row.T.Denot). without_number g.T.Numbered.number (g.T.Numbered.number c.unwrap.result) v.requests) c.self.view_is
