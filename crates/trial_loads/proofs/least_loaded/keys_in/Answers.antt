use Rattle.std.proofs.Common.{◌++◌, [], ◌∷◌, sym, ◌∙◌}
use Rattle.trial_loads.specs.LeastLoaded.{key_in}
use Rattle.trial_loads.proofs.Numbered.{made_more}
use Rattle.trial_loads.proofs.least_loaded.keys_in.Goals as goal

pub loop-vertex-preserved : goal.loop-vertex-preserved
loop-vertex-preserved c =
    let f = key_in c.args.vertices.now in
    let v = c.loop-vertex.vertex in
    c.in_ok-push.ensures.items
    ∙ (λ i. c.loop-vertex.invariant i ++ record { distance_class = 0; distance = c.position_of.ensures i } ∷ [])
    ∙ sym (made_more f v)
