use Rattle.std.proofs.Common.{◌≡◌, take}
use Rattle.text_words.proofs.node_name.text.Given as goal

-- the characters seen
abbrev pub invariant-loop-byte : goal.invariant-loop-byte
invariant-loop-byte l = l.text.bytes ≡ take l.byte-index l.name
