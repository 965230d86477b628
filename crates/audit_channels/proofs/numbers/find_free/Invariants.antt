-- Those that were found so far.
use Rattle.std.proofs.Common.{◌≡◌, take}
use Rattle.std.specs.Prelude.{filter}
use Rattle.audit_channels.specs.Numbers.{is_free}
use Rattle.audit_channels.proofs.numbers.find_free.Given as goal

abbrev pub invariant-loop-channel : goal.invariant-loop-channel
invariant-loop-channel l = l.free.items ≡ filter (is_free l.waits l.numbers) (take l.channel-index l.channels)
