-- One index can have the number.
use Rattle.std.proofs.Common.{◌≡◌, Bool, sym, ◌∙◌, ap, subst}
use Rattle.std.proofs.lemmas.Bool.{eq-eqb, ne_eqb}
use Rattle.std.specs.Prelude.{None, find, ◌==◌, option_copied, slice_get}
use Rattle.request_table.specs.Numbers.{IsIndexFor}
use Rattle.request_table.proofs.Numbers.{located, only_number, index_none, index_other, index_found}
use Rattle.request_table.proofs.request_table.RequestTable.index_of.Goals as goal

pub returns-in_err-request : goal.returns-in_err-request
returns-in_err-request g c =
    let test : g.row.T.Denot → Bool = λ r. g.T.Numbered.number r == c.args.number in
    let rs = c.args.self.now.requests in
    let none : slice_get rs c.count_below-index.result ≡ None = sym c.get.ensures ∙ ap (option_copied {T = g.row.T.Denot}) (c.in_err-request.was) in
    subst (IsIndexFor (find test rs) rs) (sym c.from_residual.ensures)
    (index_none test rs c.count_below-index.result
    (located g.T.Numbered.number c.args.number test rs c.args.self.now.next c.count_below-index.result (only_number g.T.Numbered.number c.args.number)
    c.count_below-index.ensures.numbered.rising c.count_below-index.ensures.index) none)

pub returns-then-from-number : goal.returns-then-from-number
returns-then-from-number g c =
    let test : g.row.T.Denot → Bool = λ r. g.T.Numbered.number r == c.args.number in
    let rs = c.args.self.now.requests in
    index_found test rs c.count_below-index.result
    (located g.T.Numbered.number c.args.number test rs c.args.self.now.next c.count_below-index.result (only_number g.T.Numbered.number c.args.number)
    c.count_below-index.ensures.numbered.rising c.count_below-index.ensures.index)
    c.in_ok-request.request.now (sym (c.in_ok-request.ensures)) (eq-eqb _ _ (sym c.number.ensures ∙ sym c.from.ensures ∙ c.if-from-number.true))

pub returns-else-from-number : goal.returns-else-from-number
returns-else-from-number g c =
    let test : g.row.T.Denot → Bool = λ r. g.T.Numbered.number r == c.args.number in
    let rs = c.args.self.now.requests in
    index_other test rs c.count_below-index.result
    (located g.T.Numbered.number c.args.number test rs c.args.self.now.next c.count_below-index.result (only_number g.T.Numbered.number c.args.number)
    c.count_below-index.ensures.numbered.rising c.count_below-index.ensures.index)
    c.in_ok-request.request.now (sym (c.in_ok-request.ensures)) (ne_eqb _ _ (λ e. c.if-from-number.false (c.from.ensures ∙ c.number.ensures ∙ e)))
