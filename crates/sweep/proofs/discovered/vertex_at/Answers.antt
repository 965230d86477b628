use Rattle.std.proofs.Common.{sym, ◌∙◌}
use Rattle.sweep.specs.Sweep.{vertex_key}
use Rattle.sweep.proofs.Indices.{found_lost, found_there}
use Rattle.sweep.proofs.discovered.vertex_at.Goals as goal

pub returns-then-is_vertex : goal.returns-then-is_vertex
returns-then-is_vertex c =
    c.vertex_in.ensures
    ∙ sym (found_there vertex_key c.args.guid c.args.port c.args.vertices.now c.vertex_index-index.result c.requires c.vertex_index-index.ensures
    (sym c.is_vertex.ensures ∙ c.if-is_vertex.true))

pub returns-else-is_vertex : goal.returns-else-is_vertex
returns-else-is_vertex c =
    sym (found_lost vertex_key c.args.guid c.args.port c.args.vertices.now c.vertex_index-index.result c.requires c.vertex_index-index.ensures
    (sym c.is_vertex.ensures ∙ c.if-is_vertex.false))
