-- An attribute is encoded again as it was decoded, and its encoding is its fields and zeros.
use Rattle.std.proofs.Common.{◌≡◌, ℕ, ◌+◌, ◌-◌, ◌/◌, ◌%◌, ◌^◌, ◌<◌, ◌≤◌, List, [], ◌∷◌, refl, sym, ap, ◌∙◌, arith, inr, true, length, drop, get_or, replicate}
use Rattle.std.proofs.lemmas.List.{ext_get_or, get_or-drop, get_or-replicate, length-drop, length-replicate}
use Rattle.smp_bytes.specs.Field.{Field, Entry, number_in, replaced, with_bits, with_number}
use Rattle.smp_bytes.proofs.FieldLaws.{length-with_number, length-with_numbers}
use Rattle.smp_bytes.proofs.BitLaws.{byte-number_in, get_or-with_bits}
use Rattle.smp_bytes.proofs.CopyLaws.{byte_at_offset, with_number-twice}
use Rattle.smp_bytes.proofs.OffsetLaws.{all_end_within, get_or-with_number, get_or-with_numbers_behind}
use Rattle.attr_codec.specs.Image.{image}
use Rattle.attr_codec.specs.NodeInfo.{base_version, class_version, node_type, num_ports, system_image_guid, node_guid, port_guid, partition_cap, device_id, revision, local_port_num, vendor_id, FitsNodeInfo, node_info_in, node_info_bytes, entries_of}
use Rattle.attr_codec.specs.RoundTrip.{node_info_reads_back, sm_info_reads_back}
use Rattle.attr_codec.specs.SmInfo.{guid, sm_key, act_count, priority, sm_state, FitsSmInfo, sm_info_in, sm_info_bytes, sm_info_entries}
use Rattle.attr_codec.specs.Spelling.{KeepsFirstBytes, SpellsEachValue}
use Rattle.attr_codec.proofs.Copies.{front_of, with_number-front_of, with_numbers-entries_in}

-- the fields of node information, side by side
node_info_fields : List Field
node_info_fields =
    base_version ∷ class_version ∷ node_type ∷ num_ports ∷ system_image_guid ∷ node_guid ∷ port_guid
    ∷ partition_cap ∷ device_id ∷ revision ∷ local_port_num ∷ vendor_id ∷ []

-- node information that was read is spelled again
pub node_info_keeps : KeepsFirstBytes 40 node_info_in node_info_bytes
unfolding node_info_fields
node_info_keeps bytes are = with_numbers-entries_in 0 node_info_fields bytes are refl

-- the byte that holds the priority and the state
one_byte : Field
one_byte = record { at = 20; len = 1 }

-- the byte of the two parts that were read of it
both_parts : (byte : ℕ) → byte < 256 → replaced sm_state (byte / 2 ^ 0 % 2 ^ 4) (replaced priority (byte / 2 ^ 4 % 2 ^ 4) 0) ≡ byte
both_parts byte small = omega arith

-- the two parts were read of one byte, and make it again
pub sm_info_keeps : KeepsFirstBytes 21 sm_info_in sm_info_bytes
unfolding one_byte
sm_info_keeps bytes are =
    let byte = get_or bytes 20 0 in
    let small : byte < 256 = byte_at_offset bytes are.bytes_fit 20 in
    let of_priority = byte / 2 ^ 4 % 2 ^ 4 in
    let of_state = byte / 2 ^ 0 % 2 ^ 4 in
    let entries = sm_info_entries (sm_info_in bytes) in
    let whole = front_of 20 bytes in
    let first = with_bits priority of_priority whole in
    let begun : image entries ≡ whole = with_numbers-entries_in 0 (guid ∷ sm_key ∷ act_count ∷ []) bytes are refl in
    let long : length whole ≡ 64 = ap length (sym begun) ∙ length-with_numbers 64 entries (replicate 64 0) refl refl in
    let empty : get_or whole 20 0 ≡ 0 = ap (λ w. get_or w 20 0) (sym begun)
    ∙ get_or-with_numbers_behind 20 entries (replicate 64 0) 20 (omega arith) refl (omega arith) in
    let fits : replaced priority of_priority (get_or whole 20 0) < 256 = omega arith in
    let same : replaced sm_state of_state (get_or first 20 0) ≡ number_in one_byte bytes =
    ap (replaced sm_state of_state) (get_or-with_bits priority of_priority whole (omega arith) fits ∙ ap (replaced priority of_priority) empty)
    ∙ both_parts byte small ∙ sym (byte-number_in 20 bytes) in
    ap (λ w. with_bits sm_state of_state (with_bits priority of_priority w)) begun
    ∙ with_number-twice one_byte (replaced sm_state of_state (get_or first 20 0)) (replaced priority of_priority (get_or whole 20 0)) whole (omega arith)
    ∙ ap (λ n. with_number one_byte n whole) same
    ∙ with_number-front_of one_byte bytes are (omega arith)

-- 64 bytes with zeros from an offset on
zeros_from : (end : ℕ) (bytes : List ℕ) → end ≤ 64 → length bytes ≡ 64 → ((offset : ℕ) → end ≤ offset → offset < 64 → get_or bytes offset 0 ≡ 0)
    → drop end bytes ≡ replicate (64 - end) 0
zeros_from end bytes within long zero_at =
    let few : length (drop end bytes) ≡ 64 - end = length-drop end bytes ∙ ap (λ n. n - end) long in
    ext_get_or 0 (drop end bytes) (replicate (64 - end) 0) (few ∙ sym (length-replicate (64 - end) 0))
    (λ k inside. get_or-drop end bytes k 0 ∙ zero_at (end + k) (omega arith) (omega arith) ∙ sym (get_or-replicate (64 - end) k 0 0 (omega arith)))

-- so has an image behind its last field
zero_behind : (end : ℕ) (entries : List Entry) → end ≤ 64 → all_end_within end entries ≡ true → (offset : ℕ) → end ≤ offset → offset < 64
    → get_or (image entries) offset 0 ≡ 0
zero_behind end entries within ends offset behind inside =
    get_or-with_numbers_behind end entries (replicate 64 0) offset (omega arith) ends behind ∙ get_or-replicate 64 offset 0 0 inside

-- node information is spelled by its fields
pub node_info_spells : SpellsEachValue 40 node_info_in node_info_bytes FitsNodeInfo
node_info_spells info fits =
    let long : length (node_info_bytes info) ≡ 64 = length-with_numbers 64 (entries_of info) (replicate 64 0) refl refl in
    record {
      whole = long;
      fields = node_info_reads_back info fits;
      reserved = zeros_from 40 (node_info_bytes info) (omega arith) long (zero_behind 40 (entries_of info) (omega arith) refl);
    }

-- so is a manager's information
pub sm_info_spells : SpellsEachValue 21 sm_info_in sm_info_bytes FitsSmInfo
unfolding one_byte
sm_info_spells info fits =
    let whole = image (sm_info_entries info) in
    let first = with_bits priority info.priority whole in
    let written = replaced priority info.priority (get_or whole 20 0) in
    let rewritten = replaced sm_state info.state (get_or first 20 0) in
    let long : length whole ≡ 64 = length-with_numbers 64 (sm_info_entries info) (replicate 64 0) refl refl in
    let longer : length first ≡ 64 = length-with_number one_byte written whole (omega arith) ∙ long in
    let longest : length (sm_info_bytes info) ≡ 64 = length-with_number one_byte rewritten first (omega arith) ∙ longer in
    record {
      whole = longest;
      fields = sm_info_reads_back info fits;
      reserved = zeros_from 21 (sm_info_bytes info) (omega arith) longest
          (λ offset behind inside. get_or-with_number one_byte rewritten first offset (omega arith) (inr behind)
          ∙ get_or-with_number one_byte written whole offset (omega arith) (inr behind)
          ∙ zero_behind 20 (sm_info_entries info) (omega arith) refl offset (omega arith) inside);
    }
