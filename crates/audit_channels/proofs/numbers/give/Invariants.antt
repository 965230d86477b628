-- The channels that are left get theirs.
use Rattle.std.proofs.Common.{◌≡◌, drop}
use Rattle.audit_channels.specs.Numbers.{with_number}
use Rattle.audit_channels.proofs.numbers.give.Given as goal

abbrev pub invariant-loop-channel : goal.invariant-loop-channel
invariant-loop-channel l = with_number (drop l.channel-index l.channels) l.number l.numbers ≡ with_number l.channels l.number l.initial.numbers
