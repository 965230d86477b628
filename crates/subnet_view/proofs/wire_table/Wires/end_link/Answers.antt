-- The list is searched by the node and the port.
use Rattle.std.proofs.Common.{◌≡◌, ℕ, List, get_or, rules, sym, ap, ◌∙◌}
use Rattle.std.proofs.lemmas.List.Sorted.{answers_always}
use Rattle.std.specs.Prelude.{Some}
use Rattle.fact_store.specs.View.{Facts, cells_of}
use Rattle.subnet_view.specs.WireEnds.{wire_ends}
use Rattle.subnet_view.proofs.EndSearch.{none_found, one_found}
use Rattle.subnet_view.proofs.wire_table.Wires.end_link.Goals as goal

pub returns-in_err-end_index : goal.returns-in_err-end_index
returns-in_err-end_index c =
    let found = c.binary_search_by_key.ensures.position (λ end. end.0) (answers_always _ _ _ (λ f a r g called. search rules)) in
    let are = c.deref.ensures.value ∙ c.self.invariant ∙ ap (λ (f : Facts). wire_ends (cells_of f)) c.self.view_is in
    c.from_residual.ensures
    ∙ sym (none_found c.args.self.now c.deref.result.now c.args.node c.args.port are c.binary_search_by_key.result found
    (sym c.ok.ensures.value ∙ c.in_err-end_index.was))

pub returns : goal.returns
returns c =
    let found = c.binary_search_by_key.ensures.position (λ end. end.0) (answers_always _ _ _ (λ f a r g called. search rules)) in
    let are = c.deref.ensures.value ∙ c.self.invariant ∙ ap (λ (f : Facts). wire_ends (cells_of f)) c.self.view_is in
    let there : c.index.result.now ≡ get_or c.deref.result.now c.in_ok-end_index.end_index c.index.result.now
    = c.index.ensures ∙ ap (λ (es : List ((ℕ × ℕ) × (ℕ × ℕ))). get_or es c.in_ok-end_index.end_index c.index.result.now)
    (sym c.deref.ensures.value) in
    ap (λ (e : (ℕ × ℕ) × (ℕ × ℕ)). Some e.1) there
    ∙ one_found c.args.self.now c.deref.result.now c.args.node c.args.port are c.binary_search_by_key.result c.in_ok-end_index.end_index c.index.result.now
    c.binary_search_by_key.ensures.bound found (sym c.ok.ensures.value ∙ c.in_ok-end_index.was)
