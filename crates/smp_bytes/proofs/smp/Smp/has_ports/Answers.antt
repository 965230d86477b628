use Rattle.std.proofs.Common.{◌≡◌, ℕ, ◌+◌, Bool, true, false, ◌&&◌, not, List, drop, sym, ap, ◌∙◌, refl}
use Rattle.std.specs.Prelude.{Some, slice_get, ◌==◌}
use Rattle.smp_bytes.specs.Field.{number_in}
use Rattle.smp_bytes.specs.Packet.{initial_path}
use Rattle.smp_bytes.specs.Answers.{has_ports}
use Rattle.smp_bytes.proofs.Ports.{ports_next}
use Rattle.smp_bytes.proofs.smp.Smp.has_ports.Goals as goal

not_is_true : (b : Bool) → not b ≡ true → b ≡ false
not_is_true false e = refl
not_is_true true e = absurd (cc)

not_is_false : (b : Bool) → not b ≡ false → b ≡ true
not_is_false true e = refl
not_is_false false e = absurd (cc)

-- what one step decides
step : (packet : List ℕ) (i : ℕ) (path : List ℕ) (port : ℕ) (b : Bool) → has_ports packet 1 path ≡ has_ports packet (i + 1) (drop i path) → slice_get path i
    ≡ Some port → (number_in (initial_path (i + 1)) packet == port) ≡ b → has_ports packet 1 path ≡ (b && has_ports packet (i + 1 + 1) (drop (i + 1) path))
step packet i path port b so_far at same =
    so_far ∙ ports_next packet (i + 1) i path port at ∙ ap (λ t. t && has_ports packet (i + 1 + 1) (drop (i + 1) path)) same

pub returns-then-ne : goal.returns-then-ne
returns-then-ne c =
    let other : (c.initial_path.result == c.unwrap.result) ≡ false = not_is_true _ (sym c.ne.ensures ∙ c.if-ne.true) in
    sym (step c.args.self.now c.loop-i.i c.args.path.now c.unwrap.result false c.loop-i.invariant (sym c.get.ensures
    ∙ c.unwrap.ensures) (ap (λ n. n == c.unwrap.result) (sym c.initial_path.ensures) ∙ other))

pub loop-i-preserved : goal.loop-i-preserved
loop-i-preserved c =
    let same : (c.initial_path.result == c.unwrap.result) ≡ true = not_is_false _ (sym c.ne.ensures ∙ c.if-ne.false) in
    step c.args.self.now c.loop-i.i c.args.path.now c.unwrap.result true c.loop-i.invariant (sym c.get.ensures
    ∙ c.unwrap.ensures) (ap (λ n. n == c.unwrap.result) (sym c.initial_path.ensures) ∙ same)
