use Rattle.std.proofs.lemmas.Fn.{always_returns_same}
use Rattle.std.proofs.Common.{◌≡◌, Bool, rules, of_calls}
use Rattle.sweep.specs.declared.vertex.Vertex.{Vertex}
use Rattle.sweep.specs.Order.{is_before}
use Rattle.sweep.specs.Sweep.{vertex_key}
use Rattle.sweep.proofs.Indices.{tests_part}
use Rattle.sweep.proofs.discovered.vertex_index.Goals as goal

pub returns : goal.returns
returns c =
    let test : Vertex → Bool = λ x. is_before (vertex_key x) (c.args.guid, c.args.port) in
    record {
      within = c.partition_point.ensures.bound;
      parts = c.partition_point.ensures.partitioned test (always_returns_same _ (λ a r. r ≡ test a.0.now) _ (λ a r f h. search (rules, of_calls)))
          (tests_part vertex_key (c.args.guid, c.args.port) c.args.vertices.now c.requires);
    }
