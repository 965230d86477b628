-- As many, which none follows.
use Rattle.std.proofs.Common.{◌≡◌, [], replicate}
use Rattle.std.specs.Prelude.{map}
use Rattle.audit_channels.proofs.waits.Waits.new.Given as goal

abbrev pub invariant-loop-channel : goal.invariant-loop-channel
invariant-loop-channel l = map (λ x. x.channels.items) l.channels.items ≡ replicate l._channel []
