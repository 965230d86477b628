-- Which ports join a multicast group.
use Rattle.std.proofs.Common.{◌≡◌, ◌≢◌, ℕ, ◌+◌, ◌/◌, ◌%◌, ◌^◌, Bool, true, false, not, cond, ◌==◌, ◌&&◌, ◌||◌, List, Option, None, Some, refl, sym, ap, ◌∙◌, true≢false}
use Rattle.std.proofs.lemmas.Bool.{and_parts, eq-eqb, eqb-true, eqb-false}
use Rattle.std.specs.Prelude.{Contains}
use Rattle.std.specs.List.{find}
use Rattle.std.specs.Option.{option_map_or}
use Rattle.smp_bytes.specs.Field.{number_in}
use Rattle.smp_bytes.specs.Packet.{attribute_id, method}
use Rattle.reply_facts.specs.Known.{port_guid_of}
use Rattle.subnet_view.specs.declared.end_port.EndPort.{EndPort}
use Rattle.subnet_view.proofs.Apart.{find_only, found_there}
use Rattle.plan_steps.specs.Carried.{link_local_prefix, one_second}
use Rattle.sa_bytes.specs.Numbers.{member_record, sa_set}
use Rattle.sa_bytes.specs.SaPacket.{component_mask}
use Rattle.sa_bytes.specs.declared.member_record.MemberRecord.{MemberRecord}
use Rattle.sa_answers.specs.Ends.{end_by_gid, end_by_guid, has_guid, is_guid}
use Rattle.sa_answers.specs.MemberLaws.{AsksForBroadcast, BroadcastIsJoined, IsFrom, JoinedPortsAreAdapters, Joins, member_in}
use Rattle.sa_answers.specs.MemberReply.{group_mtu, group_rate, is_adapter, is_broadcast, is_multicast, is_of_adapter, join_fault, member_mtu_bit, member_of, member_reply, names_group, names_member, reply_with, suits_group}
use Rattle.sa_answers.specs.Reply.{as_table, reply_to, reply_to_change, reply_to_get}
use Rattle.sa_answers.specs.Told.{Told}
use Rattle.sa_answers.specs.declared.reply.Reply.{Reply}
use Rattle.sa_answers.specs.declared.reply.Reply.TheVariants.{Refused, Member}
use Rattle.sa_answers.specs.declared.reply.SaRefusal.{SaRefusal}
use Rattle.sa_answers.specs.declared.reply.SaRefusal.TheVariants.{NotSupported, InsufficientComponents, InvalidGid, InvalidRequest}

-- a GUID that is known by a test
known_guid : (guid : ℕ) (o : Option ℕ) → is_guid guid o ≡ true → o ≡ Some guid
known_guid guid None e = absurd (cc)
known_guid guid (Some known) e = ap (λ (n : ℕ). Some n) (eqb-true known guid e)

same_member : (a b : MemberRecord) → ◌≡◌ {A = Reply} (Member a) (Member b) → a ≡ b
same_member a b e = cc

-- the port of an adapter that is found
record Found (told : Told) (r : MemberRecord) : Type 0 where
  prefix : r.port_prefix ≡ link_local_prefix
  end : EndPort × ℕ
  planned : Contains told.plan.given.ports end
  guid : port_guid_of told.cells end.0.node end.0.port ≡ Some r.port_guid
  of_adapter : end.0.port ≢ 0

found_adapter : (told : Told) (r : MemberRecord) → is_adapter told r ≡ true → Found told r
found_adapter told r e = by_prefix (r.port_prefix == link_local_prefix) refl e
  where
    by_end : (o : Option (EndPort × ℕ)) → find (has_guid told r.port_guid) told.plan.given.ports ≡ o → r.port_prefix ≡ link_local_prefix
        → option_map_or is_of_adapter o false ≡ true → Found told r
    by_end None is prefix t = absurd (cc)
    by_end (Some x) is prefix t =
        let (there, has) = found_there (has_guid told r.port_guid) told.plan.given.ports x is in
        record {
          prefix = prefix;
          end = x;
          planned = there;
          guid = known_guid r.port_guid (port_guid_of told.cells x.0.node x.0.port) has;
          of_adapter = λ zero. true≢false (sym t ∙ ap not (eq-eqb x.0.port 0 zero));
        }

    by_prefix : (b : Bool) → (r.port_prefix == link_local_prefix) ≡ b
        → option_map_or is_of_adapter (cond b (end_by_guid told r.port_guid) None) false ≡ true → Found told r
    by_prefix true is t = by_end (end_by_guid told r.port_guid) refl (eqb-true _ _ is) t
    by_prefix false is t = absurd (cc)

-- of a membership that is told
joined : (told : Told) (mask : ℕ) (asked r : MemberRecord) → member_reply told mask asked ≡ Member r → Joins told asked r
joined told mask asked r e =
    by_tests told.multicast (names_member mask) (is_multicast asked) (is_adapter told asked) (is_broadcast asked || names_group mask) (suits_group mask asked)
    refl refl e
  where
    by_tests : (t n m a g s : Bool) → told.multicast ≡ t → is_adapter told asked ≡ a
        → cond t (reply_with (cond (not n) (Some InsufficientComponents) (cond (not m) (Some InvalidGid) (cond (not a) (Some InvalidGid)
        (cond (not g) (Some InsufficientComponents) (cond (not s) (Some InvalidRequest) None))))) (member_of mask asked)) (Refused NotSupported) ≡ Member r
        → Joins told asked r
    by_tests true true true true true true tree is u =
        let found = found_adapter told asked is in
        record {
          has_tree = tree;
          lid = ap (λ (x : MemberRecord). x.mlid) (sym (same_member (member_of mask asked) r u));
          prefix = found.prefix;
          end = found.end;
          planned = found.planned;
          guid = found.guid;
          of_adapter = found.of_adapter;
        }
    by_tests false n m a g s tree is u = absurd (cc)
    by_tests true false m a g s tree is u = absurd (cc)
    by_tests true true false a g s tree is u = absurd (cc)
    by_tests true true true false g s tree is u = absurd (cc)
    by_tests true true true true false s tree is u = absurd (cc)
    by_tests true true true true true false tree is u = absurd (cc)

-- a Set is replied to as a change
set_is : (told : Told) (request : List ℕ) → number_in method request ≡ sa_set
    → reply_to told request ≡ cond (number_in attribute_id request == member_record) (member_reply told (number_in component_mask request) (member_in request))
    (Refused NotSupported)
set_is told request e =
    (λ i. cond (e i == 0x01) (reply_to_get told (number_in attribute_id request) request)
    (cond (e i == 0x12) (as_table (reply_to_get told (number_in attribute_id request) request))
    (cond ((e i == 0x02 || e i == 0x15) && number_in attribute_id request == member_record)
    (member_reply told (number_in component_mask request) (member_in request)) (Refused NotSupported))))

pub joined_are_adapters : JoinedPortsAreAdapters
joined_are_adapters told request r sets e = by_attribute (number_in attribute_id request == member_record) (sym (set_is told request sets) ∙ e)
  where
    by_attribute : (b : Bool) → cond b (member_reply told (number_in component_mask request) (member_in request)) (Refused NotSupported) ≡ Member r
        → Joins told (member_in request) r
    by_attribute true u = joined told (number_in component_mask request) (member_in request) r u
    by_attribute false u = absurd (cc)

pub broadcast_is_joined : BroadcastIsJoined
broadcast_is_joined told request e tree asks from =
    let r = member_in request in
    let mask = number_in component_mask request in
    let by_guid : end_by_guid told r.port_guid ≡ Some e =
    find_only (has_guid told r.port_guid) told.plan.given.ports e from.planned
    (ap (is_guid r.port_guid) from.guid ∙ eq-eqb r.port_guid r.port_guid refl)
    (λ y there test. from.no_others y there (known_guid r.port_guid (port_guid_of told.cells y.0.node y.0.port) test)) in
    let found : end_by_gid told r.port_prefix r.port_guid ≡ Some e =
    ap (λ t. cond t (end_by_guid told r.port_guid) None) (eq-eqb r.port_prefix link_local_prefix asks.prefix) ∙ by_guid in
    let adapter : is_adapter told r ≡ true = ap (λ o. option_map_or is_of_adapter o false) found ∙ ap not (not_zero e.0.port from.of_adapter) in
    let (high, low) = and_parts (r.mgid_high == 0xFF12401BFFFF0000) (r.mgid_low == 0xFFFFFFFF) asks.group in
    let multicast : is_multicast r ≡ true = ap (λ n. n / 2 ^ 56 == 0xFF) (eqb-true _ _ high) in
    let suited : suits_group 0x10083 r ≡ true = ap (λ n. (n == 0x7FFF) && true) asks.partition in
    set_is told request asks.is_set
    ∙ ap (λ n. cond (n == member_record) (member_reply told mask r) (Refused NotSupported)) asks.of_member
    ∙ ap (λ n. member_reply told n r) asks.mask
    ∙ (λ i. cond (tree i) (reply_with (cond (not (multicast i)) (Some InvalidGid) (cond (not (adapter i)) (Some InvalidGid)
    (cond (not (asks.group i || names_group 0x10083)) (Some InsufficientComponents) (cond (not (suited i)) (Some InvalidRequest) None))))
    (member_of 0x10083 r)) (Refused NotSupported))
  where
    not_zero : (n : ℕ) → n ≢ 0 → (n == 0) ≡ false
    not_zero n other = by (n == 0) refl
      where
        by : (b : Bool) → (n == 0) ≡ b → b ≡ false
        by true is = absurd (other (eqb-true n 0 is))
        by false is = refl
