-- Requests hold what was given: each field is written once, and later writes are apart from it.
use Rattle.std.proofs.Common.{◌≡◌, ℕ, ◌+◌, ◌^◌, ◌<◌, ◌≤◌, List, refl, sym, ap, ◌∙◌, arith, true, ◌⊎◌, inl, inr, length, replicate, get_or}
use Rattle.std.specs.Prelude.{None, Some, slice_get}
use Rattle.std.proofs.lemmas.List.{get_or-replicate}
use Rattle.smp_bytes.specs.Field.{Field, Entry, number_in, bytes_in, with_bytes, with_numbers}
use Rattle.smp_bytes.proofs.FieldLaws.{is_apart_from, get_or-with_bytes, length-with_bytes, length-with_numbers, number_in-with_bytes, number_in-with_numbers, number_in-with_numbers_apart}
use Rattle.smp_bytes.proofs.BitLaws.{byte-number_in}
use Rattle.smp_bytes.specs.Packet.{base_version, mgmt_class, class_version, method, status_word, transaction_id, attribute_id, attribute_modifier, m_key, attribute_data, hop_pointer, initial_path, fault_of}
use Rattle.smp_bytes.specs.Requests.{request_entries, path_entries, request, lid_routed, directed}
use Rattle.smp_bytes.proofs.RequestLaws.{length-request, length-directed, lid_routed_field, lid_routed_parses, directed_field, directed_header, directed_parses}
use Rattle.smp_bytes.specs.ReadBack.{reserved_after_attribute_id, HoldsRequest, HoldsPath, FitsRequest, DirectedReadsBack, LidRoutedReadsBack}
use Rattle.smp_bytes.proofs.OffsetLaws.{get_or-with_bytes_inside, bytes_in-with_bytes, bytes_in-with_bytes_before, get_or-with_numbers_behind}

module _ (method_number attribute modifier tid : ℕ) where
  -- the i-th field of a request holds its number
  in_request : (class i : ℕ) (e : Entry) → slice_get (request_entries class method_number attribute modifier tid) i ≡ Some e → e.number < 256 ^ e.field.len
      → number_in e.field (request class method_number attribute modifier tid) ≡ e.number
  in_request class i e there small =
      number_in-with_numbers 256 (request_entries class method_number attribute modifier tid) (replicate 256 0) i e refl refl there small

  -- a field apart from them is 0
  not_in_request : (class : ℕ) (f : Field) → is_apart_from 256 f (request_entries class method_number attribute modifier tid) ≡ true
      → number_in f (request class method_number attribute modifier tid) ≡ number_in f (replicate 256 0)
  not_in_request class f apart = number_in-with_numbers_apart 256 f (request_entries class method_number attribute modifier tid) (replicate 256 0) refl apart

  -- a packet whose header is that of a request, but for the fields of a path, holds the request
  holds_request : (class : ℕ) (packet payload : List ℕ) → FitsRequest method_number attribute modifier tid payload → length packet ≡ 256
      → fault_of packet ≡ None → bytes_in attribute_data packet ≡ payload
      → ((f : Field) → f.at + f.len ≤ 64 → is_apart_from 256 f (path_entries 0) ≡ true
      → number_in f packet ≡ number_in f (request class method_number attribute modifier tid))
      → HoldsRequest packet method_number attribute modifier tid payload
  holds_request class packet payload fits count parses attribute_is header =
      record {
        count = count;
        parses = parses;
        base_version = header base_version (omega arith) refl ∙ in_request class 0 _ refl (omega arith);
        class_version = header class_version (omega arith) refl ∙ in_request class 2 _ refl (omega arith);
        method = header method (omega arith) refl ∙ in_request class 3 _ refl fits.method;
        status_word = header status_word (omega arith) refl ∙ not_in_request class status_word refl;
        transaction_id = header transaction_id (omega arith) refl ∙ in_request class 4 _ refl fits.transaction_id;
        attribute_id = header attribute_id (omega arith) refl ∙ in_request class 5 _ refl fits.attribute_id;
        reserved = header reserved_after_attribute_id (omega arith) refl ∙ not_in_request class reserved_after_attribute_id refl;
        attribute_modifier = header attribute_modifier (omega arith) refl ∙ in_request class 6 _ refl fits.attribute_modifier;
        m_key = header m_key (omega arith) refl ∙ not_in_request class m_key refl;
        attribute_data = attribute_is;
      }

  module _ (path payload : List ℕ) (whole : length payload ≡ 64) (short : length path ≤ 63) where
    -- a directed request before its data and its path are written
    begun : List ℕ
    begun = with_numbers (path_entries (length path)) (request 0x81 method_number attribute modifier tid)

    -- and before its path is written
    loaded : List ℕ
    loaded = with_bytes 64 payload begun

    length-begun : length begun ≡ 256
    unfolding begun
    length-begun = length-with_numbers 256 (path_entries (length path)) (request 0x81 method_number attribute modifier tid)
        (length-request method_number attribute modifier tid 0x81) refl

    length-loaded : length loaded ≡ 256
    unfolding loaded
    length-loaded = let long = length-begun in length-with_bytes 64 payload begun (omega arith) ∙ length-begun

    -- a byte behind the data is 0 before the path is written
    zero_behind : (offset : ℕ) → 128 ≤ offset → offset < 256 → get_or loaded offset 0 ≡ 0
    unfolding begun loaded
    zero_behind offset behind within =
        let long = length-begun in
        let made = length-request method_number attribute modifier tid 0x81 in
        get_or-with_bytes 64 payload begun offset (omega arith) (inr (omega arith))
        ∙ get_or-with_numbers_behind 36 (path_entries (length path)) (request 0x81 method_number attribute modifier tid) offset (omega arith) refl (omega arith)
        ∙ get_or-with_numbers_behind 24 (request_entries 0x81 method_number attribute modifier tid) (replicate 256 0) offset (omega arith) refl (omega arith)
        ∙ get_or-replicate 256 offset 0 0 within

    -- a port of InitialPath or ReturnPath that the path does not reach
    port_outside : (offset : ℕ) → 128 ≤ offset → offset < 256 → (offset < 129) ⊎ (129 + length path ≤ offset)
        → number_in (record { at = offset; len = 1 }) (directed method_number attribute modifier tid path payload) ≡ 0
    unfolding begun loaded
    port_outside offset behind within outside =
        let long = length-loaded in
        byte-number_in offset (directed method_number attribute modifier tid path payload)
        ∙ get_or-with_bytes 129 path loaded offset (omega arith) outside
        ∙ zero_behind offset behind within

    port_inside : (i : ℕ) → i < length path → number_in (initial_path (i + 1)) (directed method_number attribute modifier tid path payload) ≡ get_or path i 0
    unfolding begun loaded
    port_inside i inside =
        let long = length-loaded in
        let offset : 128 + (i + 1) ≡ 129 + i = omega arith in
        byte-number_in (128 + (i + 1)) (directed method_number attribute modifier tid path payload)
        ∙ ap (λ k. get_or (directed method_number attribute modifier tid path payload) k 0) offset
        ∙ get_or-with_bytes_inside 129 path loaded i (omega arith) inside

    data_of_directed : bytes_in attribute_data (directed method_number attribute modifier tid path payload) ≡ payload
    unfolding begun loaded
    data_of_directed =
        let long = length-loaded in
        let longer = length-begun in
        bytes_in-with_bytes_before attribute_data 129 path loaded (omega arith) (omega arith)
        ∙ ap (λ n. bytes_in (record { at = 64; len = n }) loaded) (sym whole)
        ∙ bytes_in-with_bytes 64 payload begun (omega arith)

    -- the i-th of the fields that a directed request has besides
    in_path : (i : ℕ) (e : Entry) → slice_get (path_entries (length path)) i ≡ Some e → e.number < 256 ^ e.field.len → e.field.at + e.field.len ≤ 64
        → number_in e.field (directed method_number attribute modifier tid path payload) ≡ e.number
    in_path i e there small before =
        directed_field method_number attribute modifier tid e.field path payload whole short before
        ∙ number_in-with_numbers 256 (path_entries (length path)) (request 0x81 method_number attribute modifier tid) i e
        (length-request method_number attribute modifier tid 0x81) refl there small

    header : (f : Field) → f.at + f.len ≤ 64 → is_apart_from 256 f (path_entries 0) ≡ true
        → number_in f (directed method_number attribute modifier tid path payload) ≡ number_in f (request 0x81 method_number attribute modifier tid)
    header f before apart = directed_header method_number attribute modifier tid f path payload whole short before apart

    holds_path : HoldsPath (directed method_number attribute modifier tid path payload) path
    holds_path =
        record {
          class = header mgmt_class (omega arith) refl ∙ in_request 0x81 1 _ refl (omega arith);
          hop_pointer = header hop_pointer (omega arith) refl ∙ not_in_request 0x81 hop_pointer refl;
          hop_count = in_path 0 _ refl (omega arith) (omega arith);
          dr_slid = in_path 1 _ refl (omega arith) (omega arith);
          dr_dlid = in_path 2 _ refl (omega arith) (omega arith);
          reserved = header (record { at = 36; len = 28 }) (omega arith) refl ∙ not_in_request 0x81 (record { at = 36; len = 28 }) refl;
          unused = port_outside 128 (omega arith) (omega arith) (inl (omega arith));
          ports = port_inside;
          behind = λ i above within. port_outside (128 + i) (omega arith) (omega arith) (inr (omega arith));
          return_path = λ i within. port_outside (192 + i) (omega arith) (omega arith) (inr (omega arith));
        }

pub directed_reads_back : DirectedReadsBack
directed_reads_back method_number attribute modifier tid path payload fits short = (
  holds_request method_number attribute modifier tid 0x81 (directed method_number attribute modifier tid path payload) payload fits
      (length-directed method_number attribute modifier tid path payload fits.attribute_data short)
      (directed_parses method_number attribute modifier tid path payload fits.attribute_data short)
      (data_of_directed method_number attribute modifier tid path payload fits.attribute_data short)
      (header method_number attribute modifier tid path payload fits.attribute_data short),
  holds_path method_number attribute modifier tid path payload fits.attribute_data short,
)

pub lid_routed_reads_back : LidRoutedReadsBack
lid_routed_reads_back method_number attribute modifier tid payload fits =
    let whole = fits.attribute_data in
    let made = request 0x01 method_number attribute modifier tid in
    let long : length made ≡ 256 = length-request method_number attribute modifier tid 0x01 in
    let packet = lid_routed method_number attribute modifier tid payload in
    let front : (f : Field) → f.at + f.len ≤ 64
    → number_in f packet ≡ number_in f made = λ f before. lid_routed_field method_number attribute modifier tid f payload whole before in
    let data_is : bytes_in attribute_data packet ≡ payload = ap (λ n. bytes_in (record { at = 64; len = n }) packet) (sym whole)
    ∙ bytes_in-with_bytes 64 payload made (omega arith) in (
      holds_request method_number attribute modifier tid 0x01 packet payload fits
          (length-with_bytes 64 payload made (omega arith) ∙ long)
          (lid_routed_parses method_number attribute modifier tid payload whole)
          data_is
          (λ f before _. front f before),
      record {
        class = front mgmt_class (omega arith) ∙ in_request method_number attribute modifier tid 0x01 1 _ refl (omega arith);
        no_hops = front (record { at = 6; len = 2 }) (omega arith) ∙ not_in_request method_number attribute modifier tid 0x01 (record { at = 6; len = 2 }) refl;
        reserved_before = front (record { at = 32; len = 32 }) (omega arith)
            ∙ not_in_request method_number attribute modifier tid 0x01 (record { at = 32; len = 32 }) refl;
        reserved_behind = number_in-with_bytes (record { at = 128; len = 128 }) 64 payload made (omega arith) (inr (omega arith))
            ∙ not_in_request method_number attribute modifier tid 0x01 (record { at = 128; len = 128 }) refl;
      },
    )
