use Rattle.std.proofs.Common.{◌∙◌, ◌%◌, ◌^◌, ℕ, ap}
use Rattle.std.specs.Prelude.{replicate}
use Rattle.smp_bytes.specs.Header.{get, switch_info}
use Rattle.smp_bytes.specs.Requests.{directed}
use Rattle.sweep.specs.Sweep.{transaction_of}
use Rattle.light_sweep.proofs.light_sweep.light_packet.Goals as goal

pub returns : goal.returns
returns c =
    let path = c.args.vertex.now.path in
    c.directed.ensures.bytes
    ∙ ap (λ (t : ℕ). directed get switch_info 0 t path (replicate 64 0))
    (c.transaction_of.ensures ∙ ap (λ (g : ℕ). transaction_of g (c.args.i % 2 ^ 32)) c.generation.ensures)
