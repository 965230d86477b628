-- Lemmas on the spelling of a cell.
use Rattle.std.proofs.Common.{◌≡◌, ℕ, ◌<◌, ◌^◌, ◌==◌, Bool, true, false, ◌&&◌, List, Option, None, Some, IsSome, IfSome, ◌↔◌, length, take, drop}
use Rattle.std.proofs.Common.{cond, refl, sym, ap, ◌∙◌, subst, arith}
use Rattle.std.specs.Prelude.{nat_le, nat_lt, slice_index, option_map, option_and_then}
use Rattle.std.specs.Int.{to_be_bytes, from_be_bytes, w32, w64}
use Rattle.std.specs.Str.{bytes_eq}
use Rattle.std.proofs.lemmas.Slice.Eq.{bytes_eq-Decides}
use Rattle.std.proofs.lemmas.Bool.Decides.{nat_tests}
use Rattle.std.proofs.lemmas.Nat.{from_be_bytes-to_be_bytes_2, from_be_bytes-to_be_bytes_4, from_be_bytes-to_be_bytes_8}
use Rattle.smp_bytes.specs.declared.node_type.NodeType.{NodeType}
use Rattle.smp_bytes.specs.declared.node_type.NodeType.TheVariants.{ChannelAdapter, Switch, Router}
use Rattle.fact_join.specs.declared.cell.Cell.{Cell}
use Rattle.fact_join.specs.declared.cell.Cell.TheVariants.{Known, Disputed}
use Rattle.fact_join.specs.Cell.{generation_of}
use Rattle.reply_facts.specs.declared.key.Key.{Key}
use Rattle.reply_facts.specs.declared.key.Key.TheVariants.{Node, PortGuid, Link, Port, Claim, Cap}
use Rattle.reply_facts.specs.declared.value.Value.{Value}
use Rattle.reply_facts.specs.declared.value.Value.TheVariants.{Kind, Guid, Peer, Up, Lid, Count}
use Rattle.attr_codec.specs.NodeTypeNumber.{number_of_type, type_of_number}
use Rattle.reply_facts.specs.Sighting.{IsSighting, is_any_port, is_cabled_port, is_cell_of, is_generation, is_guid, is_key, is_sighting, is_value_of}
use Rattle.reply_facts.specs.Key.{key_guid, key_kind, key_port}
use Rattle.record_file.specs.CellRecord.{candidate, cell_of, filled_up, flag_byte, if_sighting, if_spelled, key_of}
use Rattle.record_file.specs.CellRecord.{record_bytes, value_bytes, value_of}

-- the tests of ranges ---------------------------------------------------------------

both : (a b : Bool) → (a && b) ≡ true → (a ≡ true) × (b ≡ true)
both true b h = (refl, h)
both false b h = absurd (cc)

lt_tested : (a b : ℕ) → nat_lt a b ≡ true → a < b
lt_tested a b h = grind (arith, nat_tests)

-- the key, the generation and the cell of a sighting are in their ranges
record Parts (e : Key × Cell Value) : Type 0 where
  key : is_key e.0 ≡ true
  generation : generation_of e.1 < 2 ^ 32
  cell : is_cell_of e.0 e.1 ≡ true

parts : (e : Key × Cell Value) → IsSighting e → Parts e
parts e h =
    let g = generation_of e.1 in
    let t = both (is_key e.0 && is_generation g) (is_cell_of e.0 e.1) h in
    let u = both (is_key e.0) (is_generation g) t.0 in
    record { key = u.0; generation = lt_tested g (2 ^ 32) (both (nat_le 1 g) (nat_lt g (2 ^ 32)) u.1).1; cell = t.1 }

if_sighting-true : (e : Key × Cell Value) → IsSighting e → if_sighting e ≡ Some e
if_sighting-true e h = ap (λ b. cond b (Some e) None) h

if_sighting-false : (e : Key × Cell Value) → (IsSighting e → ⊥) → if_sighting e ≡ None
if_sighting-false e not_one =
    elim (is_sighting e) as (λ b. is_sighting e ≡ b → cond b (Some e) None ≡ None) [
      | true ↦ λ h. absurd (not_one h)
      | false ↦ λ h. refl
    ] refl

-- what is made exactly where these are a sighting
pub made-sighting : (o : Option (Key × Cell Value)) (e : Key × Cell Value) → (IsSome o ↔ IsSighting e) → IfSome o (λ s. s ≡ e) → o ≡ if_sighting e
made-sighting None e exact is = sym (if_sighting-false e (λ h. let some = exact.1 h in absurd (cc)))
made-sighting (Some s) e exact is = ap Some is ∙ sym (if_sighting-true e (exact.0 refl))

-- what the fields of a record say
pub candidate-known : (bytes : List ℕ) (key : Key) (generation : ℕ) (value : Value)
    → key_of (slice_index bytes 0) (from_be_bytes w64 (take 8 (drop 8 bytes))) (slice_index bytes 2) ≡ Some key → slice_index bytes 1 ≡ 1
    → from_be_bytes w32 (take 4 (drop 4 bytes)) ≡ generation → value_of key (drop 16 bytes) ≡ Some value → candidate bytes ≡ Some (key, Known generation value)
candidate-known bytes key generation value k one g v = rw (k, one, g, v) refl

pub candidate-disputed : (bytes : List ℕ) (key : Key) (generation : ℕ)
    → key_of (slice_index bytes 0) (from_be_bytes w64 (take 8 (drop 8 bytes))) (slice_index bytes 2) ≡ Some key → (slice_index bytes 1 ≡ 1 → ⊥)
    → from_be_bytes w32 (take 4 (drop 4 bytes)) ≡ generation → candidate bytes ≡ Some (key, Disputed generation)
candidate-disputed bytes key generation k other g = let no_value : slice_index bytes 1 == 1 ≡ false = grind (arith, nat_tests) in rw (k, no_value, g) refl

pub candidate-no_key : (bytes : List ℕ) → key_of (slice_index bytes 0) (from_be_bytes w64 (take 8 (drop 8 bytes))) (slice_index bytes 2) ≡ None
    → candidate bytes ≡ None
candidate-no_key bytes k = rw k refl

-- the spelling of a cell and back ------------------------------------------------------

key_again : (key : Key) (guid : ℕ) → guid ≡ key_guid key → key_of (key_kind key) guid (key_port key) ≡ Some key
key_again (Node g) guid e = ap (λ n. Some (Node n)) e
key_again (PortGuid g p) guid e = ap (λ n. Some (PortGuid n p)) e
key_again (Link g p) guid e = ap (λ n. Some (Link n p)) e
key_again (Port g p) guid e = ap (λ n. Some (Port n p)) e
key_again (Claim g p) guid e = ap (λ n. Some (Claim n p)) e
key_again (Cap g) guid e = ap (λ n. Some (Cap n)) e

type_again : (kind : NodeType) → type_of_number (number_of_type kind) ≡ Some kind
type_again ChannelAdapter = refl
type_again Switch = refl
type_again Router = refl

guid_again : (guid : ℕ) → guid < 2 ^ 64 → from_be_bytes w64 (to_be_bytes w64 guid) ≡ guid
guid_again guid h = from_be_bytes-to_be_bytes_8 guid h

flag_again : (up : Bool) → flag_byte up == 1 ≡ up
flag_again true = refl
flag_again false = refl

guid_in : (key : Key) → is_key key ≡ true → key_guid key < 2 ^ 64
guid_in (Node g) h = lt_tested g (2 ^ 64) h
guid_in (PortGuid g p) h = lt_tested g (2 ^ 64) (both (is_guid g) (is_any_port p) h).0
guid_in (Link g p) h = lt_tested g (2 ^ 64) (both (is_guid g) (is_cabled_port p) h).0
guid_in (Port g p) h = lt_tested g (2 ^ 64) (both (is_guid g) (is_any_port p) h).0
guid_in (Claim g p) h = lt_tested g (2 ^ 64) (both (is_guid g) (is_any_port p) h).0
guid_in (Cap g) h = lt_tested g (2 ^ 64) h

-- what the value bytes of a known cell say
value_again : (key : Key) (value : Value) → is_value_of key value ≡ true → value_of key (filled_up 16 (value_bytes value)) ≡ Some value
value_again (Node g) (Kind kind ports) h = ap (option_map (λ k. Kind k ports)) (type_again kind)
value_again (Node g) (Guid guid) h = absurd (cc)
value_again (Node g) (Peer guid port) h = absurd (cc)
value_again (Node g) (Up up) h = absurd (cc)
value_again (Node g) (Lid lid) h = absurd (cc)
value_again (Node g) (Count count) h = absurd (cc)
value_again (PortGuid g p) (Kind kind ports) h = absurd (cc)
value_again (PortGuid g p) (Guid guid) h = ap (λ n. Some (Guid n)) (guid_again guid (lt_tested guid (2 ^ 64) h))
value_again (PortGuid g p) (Peer guid port) h = absurd (cc)
value_again (PortGuid g p) (Up up) h = absurd (cc)
value_again (PortGuid g p) (Lid lid) h = absurd (cc)
value_again (PortGuid g p) (Count count) h = absurd (cc)
value_again (Link g p) (Kind kind ports) h = absurd (cc)
value_again (Link g p) (Guid guid) h = absurd (cc)
value_again (Link g p) (Peer guid port) h =
    ap (λ n. Some (Peer n port)) (guid_again guid (lt_tested guid (2 ^ 64) (both (is_guid guid) (is_cabled_port port) h).0))
value_again (Link g p) (Up up) h = absurd (cc)
value_again (Link g p) (Lid lid) h = absurd (cc)
value_again (Link g p) (Count count) h = absurd (cc)
value_again (Port g p) (Kind kind ports) h = absurd (cc)
value_again (Port g p) (Guid guid) h = absurd (cc)
value_again (Port g p) (Peer guid port) h = absurd (cc)
value_again (Port g p) (Up up) h = ap (λ b. Some (Up b)) (flag_again up)
value_again (Port g p) (Lid lid) h = absurd (cc)
value_again (Port g p) (Count count) h = absurd (cc)
value_again (Claim g p) (Kind kind ports) h = absurd (cc)
value_again (Claim g p) (Guid guid) h = absurd (cc)
value_again (Claim g p) (Peer guid port) h = absurd (cc)
value_again (Claim g p) (Up up) h = absurd (cc)
value_again (Claim g p) (Lid lid) h = ap (λ n. Some (Lid n)) (from_be_bytes-to_be_bytes_2 lid (lt_tested lid (2 ^ 16) h))
value_again (Claim g p) (Count count) h = absurd (cc)
value_again (Cap g) (Kind kind ports) h = absurd (cc)
value_again (Cap g) (Guid guid) h = absurd (cc)
value_again (Cap g) (Peer guid port) h = absurd (cc)
value_again (Cap g) (Up up) h = absurd (cc)
value_again (Cap g) (Lid lid) h = absurd (cc)
value_again (Cap g) (Count count) h = ap (λ n. Some (Count n)) (from_be_bytes-to_be_bytes_2 count (lt_tested count (2 ^ 16) h))

length-filled : (value : Value) → length (filled_up 16 (value_bytes value)) ≡ 16
length-filled (Kind kind ports) = refl
length-filled (Guid guid) = refl
length-filled (Peer guid port) = refl
length-filled (Up up) = refl
length-filled (Lid lid) = refl
length-filled (Count count) = refl

pub length-record : (e : Key × Cell Value) → length (record_bytes e) ≡ 32
length-record (key, Known generation value) = let h = length-filled value in omega arith
length-record (key, Disputed generation) = refl

-- the fields of a record are those of its cell
pub candidate-record : (e : Key × Cell Value) → IsSighting e → candidate (record_bytes e) ≡ Some e
candidate-record (key, Known generation value) h =
    let p = parts (key, Known generation value) h in
    candidate-known (record_bytes (key, Known generation value)) key generation value
    (key_again key (from_be_bytes w64 (to_be_bytes w64 (key_guid key))) (guid_again (key_guid key) (guid_in key p.key))) refl
    (from_be_bytes-to_be_bytes_4 generation p.generation) (value_again key value p.cell)
candidate-record (key, Disputed generation) h =
    let p = parts (key, Disputed generation) h in
    candidate-disputed (record_bytes (key, Disputed generation)) key generation
    (key_again key (from_be_bytes w64 (to_be_bytes w64 (key_guid key))) (guid_again (key_guid key) (guid_in key p.key))) (λ e. omega arith)
    (from_be_bytes-to_be_bytes_4 generation p.generation)

-- a record spells its cell
pub cell_of-record : (e : Key × Cell Value) → IsSighting e → cell_of (record_bytes e) ≡ Some e
unfolding cell_of
cell_of-record e h =
    ap (λ o. option_and_then (if_spelled (record_bytes e)) (option_and_then if_sighting o)) (candidate-record e h)
    ∙ ap (option_and_then (if_spelled (record_bytes e))) (if_sighting-true e h)
    ∙ ap (λ b. cond b (Some e) None) ((bytes_eq-Decides (record_bytes e) (record_bytes e)).1 refl)

if_sighting-is : (e f : Key × Cell Value) → if_sighting e ≡ Some f → (e ≡ f) × IsSighting e
if_sighting-is e f h =
    elim (is_sighting e) as (λ b. is_sighting e ≡ b → cond b (Some e) None ≡ Some f → (e ≡ f) × IsSighting e) [
      | true ↦ λ t k. (cc, t)
      | false ↦ λ t k. absurd (cc)
    ] refl h

if_spelled-is : (bytes : List ℕ) (e f : Key × Cell Value) → if_spelled bytes e ≡ Some f → (e ≡ f) × (bytes ≡ record_bytes e)
if_spelled-is bytes e f h =
    elim (bytes_eq (record_bytes e) bytes) as (λ b. bytes_eq (record_bytes e) bytes ≡ b → cond b (Some e) None ≡ Some f → (e ≡ f) × (bytes ≡ record_bytes e)) [
      | true ↦ λ t k. (cc, sym ((bytes_eq-Decides (record_bytes e) bytes).0 t))
      | false ↦ λ t k. absurd (cc)
    ] refl h

then_is : {A B : Type 0} (f : A → Option B) (o : Option A) (b : B) → option_and_then f o ≡ Some b → (a : A) × (o ≡ Some a) × (f a ≡ Some b)
then_is f None b h = absurd (cc)
then_is f (Some a) b h = (a, refl, h)

-- a cell is spelled by no other bytes
pub cell_of-is : (bytes : List ℕ) (e : Key × Cell Value) → cell_of bytes ≡ Some e → IsSighting e × (bytes ≡ record_bytes e)
unfolding cell_of
cell_of-is bytes e h =
    let outer = then_is (if_spelled bytes) (option_and_then if_sighting (candidate bytes)) e h in
    let inner = then_is if_sighting (candidate bytes) outer.0 outer.1 in
    let found = if_sighting-is inner.0 outer.0 inner.2 in
    let spelled = if_spelled-is bytes outer.0 e outer.2 in
    let P : Key × Cell Value → Type 0 = IsSighting in
    (subst P (found.0 ∙ spelled.0) found.1, spelled.1 ∙ ap record_bytes spelled.0)
