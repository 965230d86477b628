-- The parts of keys, and the order of keys: by kind, then GUID, then port.
use Rattle.std.specs.Prelude.{ℕ, Bool, true, List, [], ◌∷◌, Option, None, Some, codes}
use Rattle.std.specs.declared.cmp.Ordering.{Ordering}
use Rattle.std.specs.Ordering.{nat_cmp, is_lt}
use Rattle.std.specs.Cmp.Lexicographic.{slice_cmp}
use Rattle.reply_facts.specs.declared.key.Key.{Key}
use Rattle.reply_facts.specs.declared.key.Key.TheVariants.{Node, PortGuid, Link, Port, Claim, Cap}

-- the number of the kind of a key, from 1 to 6
abbrev pub key_kind : Key → ℕ
key_kind (Node guid) = 1
key_kind (PortGuid guid port) = 2
key_kind (Link guid port) = 3
key_kind (Port guid port) = 4
key_kind (Claim guid port) = 5
key_kind (Cap guid) = 6

-- the word for the kind of a key
abbrev pub kind_word : Key → List ℕ
kind_word (Node guid) = codes "node"
kind_word (PortGuid guid port) = codes "portguid"
kind_word (Link guid port) = codes "link"
kind_word (Port guid port) = codes "port"
kind_word (Claim guid port) = codes "claim"
kind_word (Cap guid) = codes "cap"

-- the GUID of the node that the key is about
abbrev pub key_guid : Key → ℕ
key_guid (Node guid) = guid
key_guid (PortGuid guid port) = guid
key_guid (Link guid port) = guid
key_guid (Port guid port) = guid
key_guid (Claim guid port) = guid
key_guid (Cap guid) = guid

-- the port of a key; 0 if the key has no port
abbrev pub key_port : Key → ℕ
key_port (Node guid) = 0
key_port (PortGuid guid port) = port
key_port (Link guid port) = port
key_port (Port guid port) = port
key_port (Claim guid port) = port
key_port (Cap guid) = 0

-- the numbers by which keys are ordered: kind, GUID and port
abbrev pub key_numbers : Key → List ℕ
key_numbers key = key_kind key ∷ key_guid key ∷ key_port key ∷ []

-- the order of two keys; the first number in which they differ decides
abbrev pub key_cmp : Key → Key → Ordering
key_cmp a b = slice_cmp nat_cmp (key_numbers a) (key_numbers b)

-- whether `key` comes after `low`; true if `low` is None
abbrev pub is_above : Option Key → Key → Bool
is_above None key = true
is_above (Some low) key = is_lt (key_cmp low key)

-- whether `key` comes before `high`; true if `high` is None
abbrev pub is_below : Option Key → Key → Bool
is_below None key = true
is_below (Some high) key = is_lt (key_cmp key high)
