use Rattle.std.proofs.Common.{◌≡◌, List, true, false, ap, subst, sym, ◌∙◌}
use Rattle.sweep.specs.declared.vertex.Vertex.{Vertex}
use Rattle.sweep.specs.Order.{IsIndexFor, has_key, passes_at}
use Rattle.sweep.specs.Sweep.{vertex_key}
use Rattle.sweep.proofs.Indices.{placed_as_is, placed_in}
use Rattle.sweep.proofs.discovered.put_vertex.Goals as goal

pub returns-then-is_vertex : goal.returns-then-is_vertex
returns-then-is_vertex c =
    let index : IsIndexFor vertex_key (vertex_key c.args.vertex) c.args.vertices.now.items c.vertex_index-index.result =
    subst (λ (l : List Vertex). IsIndexFor vertex_key (vertex_key c.args.vertex) l c.vertex_index-index.result) c.deref.ensures.value
    c.vertex_index-index.ensures in
    let there : passes_at (has_key vertex_key c.args.vertex.guid c.args.vertex.port) c.args.vertices.now.items c.vertex_index-index.result ≡ true =
    ap (λ (l : List Vertex). passes_at (has_key vertex_key c.args.vertex.guid c.args.vertex.port) l c.vertex_index-index.result) (sym c.deref-2.ensures.value)
    ∙ sym c.is_vertex.ensures ∙ c.if-is_vertex.true in
    sym (placed_as_is vertex_key c.args.vertex c.args.vertices.now.items c.vertex_index-index.result index c.requires.order there)

pub returns : goal.returns
returns c =
    let index : IsIndexFor vertex_key (vertex_key c.args.vertex) c.args.vertices.now.items c.vertex_index-index.result =
    subst (λ (l : List Vertex). IsIndexFor vertex_key (vertex_key c.args.vertex) l c.vertex_index-index.result) c.deref.ensures.value
    c.vertex_index-index.ensures in
    let lost : passes_at (has_key vertex_key c.args.vertex.guid c.args.vertex.port) c.args.vertices.now.items c.vertex_index-index.result ≡ false =
    ap (λ (l : List Vertex). passes_at (has_key vertex_key c.args.vertex.guid c.args.vertex.port) l c.vertex_index-index.result) (sym c.deref-2.ensures.value)
    ∙ sym c.is_vertex.ensures ∙ c.if-is_vertex.false in
    c.in-Ok.ensures.items ∙ sym (placed_in vertex_key c.args.vertex c.args.vertices.now.items c.vertex_index-index.result index lost)
