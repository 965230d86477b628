use Rattle.std.proofs.Common.{sym, ◌∙◌}
use Rattle.std.specs.Prelude.{slice_get, ◌==◌}
use Rattle.sweep.specs.Order.{IsIndexFor}
use Rattle.sweep.specs.Sweep.{vertex_key, first_vertex}
use Rattle.sweep.proofs.Indices.{first_index, some_passes, none_passes}
use Rattle.sweep.proofs.discovered.first_of.Goals as goal

pub returns-then-is_vertex_of : goal.returns-then-is_vertex_of
returns-then-is_vertex_of c =
    let index : IsIndexFor vertex_key (c.args.guid, 0) c.args.vertices.now c.vertex_index-index.result =
    c.vertex_index-index.ensures in
    c.vertex_in.ensures
    ∙ sym (some_passes (λ r. r.guid == c.args.guid) (first_vertex c.args.vertices.now c.args.guid) (slice_get c.args.vertices.now c.vertex_index-index.result)
    (first_index vertex_key c.args.guid c.args.vertices.now c.vertex_index-index.result c.requires index) (sym c.is_vertex_of.ensures ∙ c.if-is_vertex_of.true))

pub returns-else-is_vertex_of : goal.returns-else-is_vertex_of
returns-else-is_vertex_of c =
    let index : IsIndexFor vertex_key (c.args.guid, 0) c.args.vertices.now c.vertex_index-index.result =
    c.vertex_index-index.ensures in
    sym (none_passes (λ r. r.guid == c.args.guid) (first_vertex c.args.vertices.now c.args.guid) (slice_get c.args.vertices.now c.vertex_index-index.result)
    (first_index vertex_key c.args.guid c.args.vertices.now c.vertex_index-index.result c.requires index) (sym c.is_vertex_of.ensures
    ∙ c.if-is_vertex_of.false))
