use Rattle.std.proofs.Common.{◌≡◌, ℕ, true, false, ap, subst, sym, ◌∙◌}
use Rattle.sweep.specs.Order.{IsIndexFor, has_key, passes_at}
use Rattle.sweep.proofs.Indices.{placed_as_is, placed_in}
use Rattle.sweep.proofs.port_list.put.Goals as goal

pub returns-then-not-is_at : goal.returns-then-not-is_at
returns-then-not-is_at g c =
    let index : IsIndexFor g.T.OfPort.key (g.T.OfPort.key c.args.item) c.args.items.now.items c.index_for-index.result =
    subst (λ (k : ℕ × ℕ). IsIndexFor g.T.OfPort.key k c.args.items.now.items c.index_for-index.result) c.key-guid.ensures c.index_for-index.ensures in
    let lost : passes_at (has_key g.T.OfPort.key (g.T.OfPort.key c.args.item).0 (g.T.OfPort.key c.args.item).1) c.args.items.now.items c.index_for-index.result
    ≡ false =
    ap (λ (k : ℕ × ℕ). passes_at (has_key g.T.OfPort.key k.0 k.1) c.args.items.now.items c.index_for-index.result) (sym c.key-guid.ensures)
    ∙ sym c.is_at.ensures ∙ c.if-not-is_at.true in
    c.insert.ensures.items ∙ sym (placed_in g.T.OfPort.key c.args.item c.args.items.now.items c.index_for-index.result index lost)

pub returns-else-not-is_at : goal.returns-else-not-is_at
returns-else-not-is_at g c =
    let index : IsIndexFor g.T.OfPort.key (g.T.OfPort.key c.args.item) c.args.items.now.items c.index_for-index.result =
    subst (λ (k : ℕ × ℕ). IsIndexFor g.T.OfPort.key k c.args.items.now.items c.index_for-index.result) c.key-guid.ensures c.index_for-index.ensures in
    let there : passes_at (has_key g.T.OfPort.key (g.T.OfPort.key c.args.item).0 (g.T.OfPort.key c.args.item).1) c.args.items.now.items c.index_for-index.result
    ≡ true =
    ap (λ (k : ℕ × ℕ). passes_at (has_key g.T.OfPort.key k.0 k.1) c.args.items.now.items c.index_for-index.result) (sym c.key-guid.ensures)
    ∙ sym c.is_at.ensures ∙ c.if-not-is_at.false in
    sym (placed_as_is g.T.OfPort.key c.args.item c.args.items.now.items c.index_for-index.result index c.requires.order there)
