-- Laws of spelling: NodeInfo and SMInfo are read back from the bytes that spell them.
use Rattle.std.proofs.Common.{◌≡◌, ℕ, zero, suc, ◌<◌, ◌^◌, ◌∙◌, List, [], ◌∷◌, refl, sym, subst, true, replicate, length, get_or, arith}
use Rattle.std.specs.Prelude.{Some, slice_get}
use Rattle.smp_bytes.specs.Field.{Field, Entry, are_apart, bits_in, number_in, replaced, with_bits}
use Rattle.smp_bytes.proofs.BitLaws.{bits_in-with_bits, bits_in-with_bits_apart, byte-number_in, get_or-with_bits, replaced_fits}
use Rattle.smp_bytes.proofs.FieldLaws.{are_all_apart, length-with_number, length-with_numbers, number_in-with_number_apart, number_in-with_numbers, number_in-with_numbers_apart}
use Rattle.attr_codec.specs.Image.{AllFit, image}
use Rattle.attr_codec.specs.declared.node_info.NodeInfo.{NodeInfo}
use Rattle.attr_codec.specs.declared.sm_info.SmInfo.{SmInfo}
use Rattle.attr_codec.specs.SmInfo.{FitsSmInfo, guid, sm_key, act_count, priority, sm_state, sm_info_in, sm_info_bytes, sm_info_entries}
use Rattle.attr_codec.specs.NodeInfo.{FitsNodeInfo, node_info_in, node_info_bytes, entries_of}

-- if all entries fit in their fields, the entry `e` at index `i` does
fits_at : (entries : List Entry) (i : ℕ) (e : Entry) → AllFit entries → slice_get entries i ≡ Some e → e.number
    < 256 ^ e.field.len
fits_at [] i e fits there = cc
fits_at (x ∷ entries) zero e fits there = let same : x ≡ e =
    cc in subst (λ (y : Entry). y.number < 256 ^ y.field.len) same fits.0
fits_at (x ∷ entries) (suc i) e fits there = fits_at entries i e fits.1 there

-- if all entries fit in their fields, and the fields are apart and within 64 bytes, the image of `entries` has the
-- number of the entry `e` at index `i` in the field of `e`
pub number_in-image : (entries : List Entry) → AllFit entries → (i : ℕ) (e : Entry) → are_all_apart 64 entries ≡ true
    → slice_get entries i ≡ Some e
    → number_in e.field (image entries) ≡ e.number
number_in-image entries fits i e apart there =
    number_in-with_numbers 64 entries (replicate 64 0) i e refl apart there (fits_at entries i e fits there)

-- a NodeInfo whose numbers fit in their fields is read back from the bytes that spell it
pub node_info_reads_back : (info : NodeInfo) → FitsNodeInfo info → node_info_in (node_info_bytes info) ≡ info
node_info_reads_back info fits =
    λ j. record {
      base_version = number_in-image (entries_of info) fits 0 _ refl refl j;
      class_version = number_in-image (entries_of info) fits 1 _ refl refl j;
      node_type = number_in-image (entries_of info) fits 2 _ refl refl j;
      num_ports = number_in-image (entries_of info) fits 3 _ refl refl j;
      system_image_guid = number_in-image (entries_of info) fits 4 _ refl refl j;
      node_guid = number_in-image (entries_of info) fits 5 _ refl refl j;
      port_guid = number_in-image (entries_of info) fits 6 _ refl refl j;
      partition_cap = number_in-image (entries_of info) fits 7 _ refl refl j;
      device_id = number_in-image (entries_of info) fits 8 _ refl refl j;
      revision = number_in-image (entries_of info) fits 9 _ refl refl j;
      local_port_num = number_in-image (entries_of info) fits 10 _ refl refl j;
      vendor_id = number_in-image (entries_of info) fits 11 _ refl refl j;
    }

-- the byte of priority and state is 0 before these are written
blank : (info : SmInfo) → get_or (image (sm_info_entries info)) 20 0 ≡ 0
blank info = sym (byte-number_in 20 (image (sm_info_entries info)))
    ∙ number_in-with_numbers_apart 64 (record { at = 20; len = 1 }) (sm_info_entries info) (replicate 64 0) refl refl

-- an SMInfo whose numbers fit in their fields is read back from the bytes that spell it
pub sm_info_reads_back : (info : SmInfo) → FitsSmInfo info → sm_info_in (sm_info_bytes info) ≡ info
sm_info_reads_back info fits =
    let whole = image (sm_info_entries info) in
    let long : length whole ≡ 64 = length-with_numbers 64 (sm_info_entries info) (replicate 64 0) refl refl in
    let first = with_bits priority info.priority whole in
    let long1 : length first ≡ 64 =
    length-with_number (record { at = 20; len = 1 }) (replaced priority info.priority (get_or whole 20 0)) whole
    (omega arith)
    ∙ long in
    let zero_before = blank info in
    let small : replaced priority info.priority (get_or whole 20 0) < 256 =
    replaced_fits priority info.priority (get_or whole 20 0) (omega arith) fits.priority (omega arith) in
    let byte : get_or first 20 0 < 256 =
    subst (λ (n : ℕ). n < 256) (sym (get_or-with_bits priority info.priority whole (omega arith) small)) small in
    let keeps : (f : Field) → are_apart f (record { at = 20; len = 1 }) ≡ true → number_in f (sm_info_bytes info)
    ≡ number_in f whole =
    λ f apart. number_in-with_number_apart f (record { at = 20; len = 1 }) _ first (omega arith) apart
    ∙ number_in-with_number_apart f (record { at = 20; len = 1 }) _ whole (omega arith) apart in
    let at_guid : number_in guid (sm_info_bytes info) ≡ info.guid =
    keeps guid refl ∙ number_in-image (sm_info_entries info) fits.fields 0 _ refl refl in
    let at_key : number_in sm_key (sm_info_bytes info) ≡ info.sm_key =
    keeps sm_key refl ∙ number_in-image (sm_info_entries info) fits.fields 1 _ refl refl in
    let at_count : number_in act_count (sm_info_bytes info) ≡ info.act_count = keeps act_count refl
    ∙ number_in-image (sm_info_entries info) fits.fields 2 _ refl refl in
    let at_priority : bits_in priority (sm_info_bytes info) ≡ info.priority =
    bits_in-with_bits_apart priority sm_state info.state first (omega arith) byte (omega arith) fits.state refl
    ∙ bits_in-with_bits priority info.priority whole (omega arith) (omega arith) (omega arith) fits.priority in
    let at_state : bits_in sm_state (sm_info_bytes info) ≡ info.state =
    bits_in-with_bits sm_state info.state first (omega arith) byte (omega arith) fits.state in
    λ j. record {
      guid = at_guid j;
      sm_key = at_key j;
      act_count = at_count j;
      priority = at_priority j;
      state =
          at_state j;
    }
