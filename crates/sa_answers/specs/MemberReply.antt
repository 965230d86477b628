-- What is replied to a port that joins or leaves a multicast group, or asks for one. All groups have one tree, in which
-- each adapter is, and one multicast LID; so a port joins by asking, and nothing is kept of it. InfiniBand Architecture
-- Specification, Volume 1: subnet administration, MCMemberRecord; multicast GIDs.
use Rattle.std.specs.Prelude.{ℕ, ◌+◌, ◌/◌, ◌%◌, ◌^◌, ◌==◌, ◌&&◌, ◌||◌, Bool, false, not, Option, Some, None, if◌then◌else◌}
use Rattle.std.specs.Option.{option_map_or}
use Rattle.smp_bytes.specs.LidRange.{lid_end}
use Rattle.subnet_view.specs.declared.end_port.EndPort.{EndPort}
use Rattle.plan_steps.specs.Carried.{link_local_prefix, one_second}
use Rattle.sa_bytes.specs.declared.member_record.MemberRecord.{MemberRecord}
use Rattle.sa_answers.specs.Ends.{end_by_gid}
use Rattle.sa_answers.specs.PathReply.{exactly, gives, suits}
use Rattle.sa_answers.specs.Rates.{rate_of_number}
use Rattle.sa_answers.specs.Told.{Told}
use Rattle.sa_answers.specs.declared.reply.SaRefusal.{SaRefusal}
use Rattle.sa_answers.specs.declared.reply.SaRefusal.TheVariants.{NotSupported, NoRecords, InsufficientComponents, InvalidGid, InvalidRequest}
use Rattle.sa_answers.specs.declared.reply.Reply.{Reply}
use Rattle.sa_answers.specs.declared.reply.Reply.TheVariants.{Refused, Member}

-- the components of an MCMemberRecord, each by its bit in ComponentMask ----------------------------------

abbrev pub mgid_bit : ℕ
mgid_bit = 0

abbrev pub port_gid_bit : ℕ
port_gid_bit = 1

abbrev pub q_key_bit : ℕ
q_key_bit = 2

-- the bit of MTUSelector; that of MTU is the next one
abbrev pub member_mtu_bit : ℕ
member_mtu_bit = 4

abbrev pub member_class_bit : ℕ
member_class_bit = 6

abbrev pub member_p_key_bit : ℕ
member_p_key_bit = 7

-- the bit of RateSelector; that of Rate is the next one
abbrev pub member_rate_bit : ℕ
member_rate_bit = 8

-- the bit of PacketLifeTimeSelector; that of PacketLifeTime is the next one
abbrev pub member_life_bit : ℕ
member_life_bit = 10

abbrev pub member_sl_bit : ℕ
member_sl_bit = 12

abbrev pub flow_bit : ℕ
flow_bit = 13

abbrev pub scope_bit : ℕ
scope_bit = 15

abbrev pub join_state_bit : ℕ
join_state_bit = 16

-- the groups ---------------------------------------------------------------------------------------------

-- the multicast LID of all groups: the first one
abbrev pub group_lid : ℕ
group_lid = lid_end

-- the numbers of MTU and rate of all groups: 2048 bytes and 10 Gb/s
abbrev pub group_mtu : ℕ
group_mtu = 4

abbrev pub group_rate : ℕ
group_rate = 3

-- the two halves of the MGID of the broadcast group of IPv4 in the default partition: ff12:401b:ffff::ffff:ffff
abbrev pub broadcast_high : ℕ
broadcast_high = 0xFF12401BFFFF0000

abbrev pub broadcast_low : ℕ
broadcast_low = 0xFFFFFFFF

-- the Q_Key of the broadcast group
abbrev pub broadcast_q_key : ℕ
broadcast_q_key = 0x0B1B

-- whether a record is of the broadcast group
abbrev pub is_broadcast : MemberRecord → Bool
is_broadcast r = r.mgid_high == broadcast_high && r.mgid_low == broadcast_low

-- whether the GID of a group is a multicast one: its first byte is 0xFF
abbrev pub is_multicast : MemberRecord → Bool
is_multicast r = r.mgid_high / 2 ^ 56 == 0xFF

-- joining ------------------------------------------------------------------------------------------------

-- whether a request names a group, a port and the state in which it joins or leaves
abbrev pub names_member : ℕ → Bool
names_member mask = gives mask mgid_bit && (gives mask port_gid_bit && gives mask join_state_bit)

-- whether a request says what a group needs to begin: Q_Key, P_Key, SL, FlowLabel and TClass
abbrev pub names_group : ℕ → Bool
names_group mask =
    gives mask q_key_bit
    && (gives mask member_p_key_bit && (gives mask member_sl_bit && (gives mask flow_bit && gives mask member_class_bit)))

-- whether the port of an end port is one of an adapter, that is, not port 0 of a switch
abbrev pub is_of_adapter : EndPort × ℕ → Bool
is_of_adapter x = not (x.0.port == 0)

-- whether PortGID is that of a port of an adapter that the plan gives a LID
abbrev pub is_adapter : Told → MemberRecord → Bool
is_adapter told r = option_map_or is_of_adapter (end_by_gid told r.port_prefix r.port_guid) false

-- whether the group can be as a request asks: it is of the default partition and SL 0, and has its MTU and rate
abbrev pub suits_group : ℕ → MemberRecord → Bool
suits_group mask r =
    (not (gives mask member_p_key_bit) || r.p_key % 2 ^ 15 == 0x7FFF)
    && ((not (gives mask member_sl_bit) || r.sl_flow_and_hops / 2 ^ 28 == 0)
    && (suits (λ n. n) mask member_mtu_bit r.mtu group_mtu
    && (suits rate_of_number mask member_rate_bit r.rate group_rate
    && suits (λ n. n) mask member_life_bit r.packet_life_time one_second)))

-- why a port does not join or leave; None if it does. A request names the group and the port. It says what a group needs
-- to begin, unless it names the broadcast group
abbrev pub join_fault : Told → ℕ → MemberRecord → Option SaRefusal
join_fault told mask r =
    if not (names_member mask) then Some InsufficientComponents
    else (if not (is_multicast r) then Some InvalidGid
    else (if not (is_adapter told r) then Some InvalidGid
    else (if not (is_broadcast r || names_group mask) then Some InsufficientComponents
    else (if not (suits_group mask r) then Some InvalidRequest else None))))

-- the Q_Key of the group of a record
abbrev pub q_key_of : ℕ → MemberRecord → ℕ
q_key_of mask r = if is_broadcast r || not (gives mask q_key_bit) then broadcast_q_key else r.q_key

-- the membership that a request asks for, as it is told. What the request does not give is 0, but for P_Key, which is
-- that of the default partition, and Scope, which is link-local
abbrev pub member_of : ℕ → MemberRecord → MemberRecord
member_of mask r =
    record {
      mgid_high = r.mgid_high;
      mgid_low = r.mgid_low;
      port_prefix = r.port_prefix;
      port_guid = r.port_guid;
      q_key = q_key_of mask r;
      mlid = group_lid;
      mtu = exactly group_mtu;
      traffic_class = if gives mask member_class_bit then r.traffic_class else 0;
      p_key = if gives mask member_p_key_bit then r.p_key else 0xFFFF;
      rate = exactly group_rate;
      packet_life_time = exactly one_second;
      sl_flow_and_hops = if gives mask flow_bit then r.sl_flow_and_hops else 0;
      scope_and_state = if gives mask scope_bit then r.scope_and_state else 0x20 + r.scope_and_state % 16;
      proxy_join = 0;
    }

-- the reply to a port that joins or leaves
abbrev pub reply_with : Option SaRefusal → MemberRecord → Reply
reply_with None r = Member r
reply_with (Some refusal) r = Refused refusal

-- the reply to a request by which a port joins or leaves a group; none is supported if there is no tree
abbrev pub member_reply : Told → ℕ → MemberRecord → Reply
member_reply told mask r =
    if told.multicast then reply_with (join_fault told mask r) (member_of mask r) else Refused NotSupported

-- a group -----------------------------------------------------------------------------------------------

-- the broadcast group, without a member
abbrev pub broadcast_group : MemberRecord
broadcast_group =
    record {
      mgid_high = broadcast_high;
      mgid_low = broadcast_low;
      port_prefix = 0;
      port_guid = 0;
      q_key = broadcast_q_key;
      mlid = group_lid;
      mtu = exactly group_mtu;
      traffic_class = 0;
      p_key = 0xFFFF;
      rate = exactly group_rate;
      packet_life_time = exactly one_second;
      sl_flow_and_hops = 0;
      scope_and_state = 0x20;
      proxy_join = 0;
    }

-- whether a request for groups asks for one by an MGID other than that of the broadcast group
abbrev pub asks_for_others : ℕ → MemberRecord → Bool
asks_for_others mask r = gives mask mgid_bit && not (is_broadcast r)

-- the reply to a request for a group: the broadcast group is the only one that is known without a member
abbrev pub group_reply : Told → ℕ → MemberRecord → Reply
group_reply told mask r =
    if told.multicast then (if asks_for_others mask r then Refused NoRecords else Member broadcast_group)
    else Refused NotSupported
