-- The slots at which a store looks for a key first.
use Rattle.std.specs.Prelude.{ℕ, ◌*◌, ◌/◌, ◌%◌, ◌^◌, ◌++◌, ◌∷◌, [], Option, Some, None, drop, slice_get, slice_set}
use Rattle.page_list.specs.declared.slot.Slot.{Slot}
use Rattle.reply_facts.specs.declared.key.Key.{Key}
use Rattle.reply_facts.specs.declared.key.Key.TheVariants.{Node, PortGuid, Link, Port, Claim, Cap}
use Rattle.fact_store.specs.declared.fingers.Fingers.{Fingers}

-- the hash of a GUID, less than 256: bits 32 to 39 of its product with a fixed number
abbrev pub hash_of : ℕ → ℕ
hash_of guid = guid * 0x9E37_79B9_7F4A_7C15 % 2 ^ 64 / 2 ^ 32 % 256

-- the slot at which the search for a key begins: the last slot of its kind, or the last but one for a link
abbrev pub by_kind : Fingers → Key → Option Slot
by_kind fingers (Node guid) = Some fingers.node
by_kind fingers (PortGuid guid port) = Some fingers.port_guid
by_kind fingers (Link guid port) = slice_get fingers.links 0
by_kind fingers (Port guid port) = Some fingers.port
by_kind fingers (Claim guid port) = Some fingers.claim
by_kind fingers (Cap guid) = Some fingers.cap

-- the last slot for the kind of a key and the hash of its GUID; None if the kind has no slots by hash
abbrev pub by_guid : Fingers → Key → Option Slot
by_guid fingers (Node guid) = slice_get fingers.nodes (hash_of guid)
by_guid fingers (PortGuid guid port) = slice_get fingers.port_guids (hash_of guid)
by_guid fingers (Link guid port) = slice_get fingers.link_ends (hash_of guid)
by_guid fingers (Port guid port) = None
by_guid fingers (Claim guid port) = None
by_guid fingers (Cap guid) = None

-- the fingers (remembered slots) after the cell of a key was put at `slot`
abbrev pub after_put : Fingers → Key → Slot → Fingers
after_put fingers (Node guid) slot =
    record fingers { node = slot; nodes = slice_set fingers.nodes (hash_of guid) slot }
after_put fingers (PortGuid guid port) slot =
    record fingers { port_guid = slot; port_guids = slice_set fingers.port_guids (hash_of guid) slot }
after_put fingers (Link guid port) slot =
    record fingers { links = drop 1 fingers.links ++ slot ∷ []; link_ends = slice_set fingers.link_ends (hash_of guid) slot }
after_put fingers (Port guid port) slot = record fingers { port = slot }
after_put fingers (Claim guid port) slot = record fingers { claim = slot }
after_put fingers (Cap guid) slot = record fingers { cap = slot }
