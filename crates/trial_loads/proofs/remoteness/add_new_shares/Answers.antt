use Rattle.std.proofs.Common.{◌≡◌, ◌+◌, ℕ, refl, ◌∙◌, arith}
use Rattle.std.specs.Prelude.{slice_index}
use Rattle.trial_loads.specs.NearTargets.{new_shares}
use Rattle.trial_loads.specs.Starts.{capped}
use Rattle.trial_loads.proofs.Shares.{shares_without, sums_left, sums_to}
use Rattle.trial_loads.proofs.remoteness.add_new_shares.Goals as goal

pub loop-vertex-preserved : goal.loop-vertex-preserved
loop-vertex-preserved c =
    let near = c.args.near.now in
    let next = c.args.next.now in
    let shares = c.args.shares.now in
    let old = c.args.sums.now in
    let now = c.loop-vertex.sums in
    let v = c.loop-vertex.vertex in
    let i = c.loop-vertex.invariant in
    let x = c.with_shares.result in
    let f : ℕ → ℕ = λ s. capped (slice_index old s + new_shares shares (slice_index near s) (slice_index next s)) in
    let fits = c.type_inv.near v in
    let here : x ≡ f v =
    c.with_shares.ensures
    ∙ (λ j. capped (i.left v (omega arith) j + shares_without shares (slice_index near v) (slice_index next v) c.requires.few (omega (arith, fits)) j)) in
    record {
      done = sums_to f now _ v i.done (omega (arith, c.loop-vertex-test.true)) x here refl;
      left = sums_left old now _ v x i.left refl;
    }
