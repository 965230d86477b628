-- The path that a request asks for. InfiniBand Architecture Specification, Volume 1: subnet administration, PathRecord.
use Rattle.std.specs.Prelude.{ℕ, ◌+◌, ◌-◌, ◌/◌, ◌%◌, ◌^◌, ◌==◌, ◌&&◌, ◌||◌, Bool, true, not, nat_lt, Option, Some, None, if◌then◌else◌}
use Rattle.reply_facts.specs.Known.{port_guid_of}
use Rattle.subnet_view.specs.declared.end_port.EndPort.{EndPort}
use Rattle.plan_steps.specs.Carried.{link_local_prefix, one_second}
use Rattle.sa_bytes.specs.declared.path_record.PathRecord.{PathRecord}
use Rattle.sa_answers.specs.Bound.{lesser}
use Rattle.sa_answers.specs.Ends.{end_asked}
use Rattle.sa_answers.specs.Rates.{rate_number, rate_of_number}
use Rattle.sa_answers.specs.Told.{Told}
use Rattle.sa_answers.specs.Way.{bound_of_way}
use Rattle.sa_answers.specs.declared.bound.Bound.{Bound}
use Rattle.sa_answers.specs.declared.ends.EndAsked.{EndAsked}
use Rattle.sa_answers.specs.declared.ends.EndAsked.TheVariants.{Nobody, Unknown, Known}
use Rattle.sa_answers.specs.declared.ends.EndSaid.{EndSaid}
use Rattle.sa_answers.specs.declared.reply.SaRefusal.TheVariants.{NoRecords, InsufficientComponents}
use Rattle.sa_answers.specs.declared.reply.Reply.{Reply}
use Rattle.sa_answers.specs.declared.reply.Reply.TheVariants.{Refused, Path}

-- the components of a PathRecord, each by its bit in ComponentMask ---------------------------------------

abbrev pub dgid_bit : ℕ
dgid_bit = 2

abbrev pub sgid_bit : ℕ
sgid_bit = 3

abbrev pub dlid_bit : ℕ
dlid_bit = 4

abbrev pub slid_bit : ℕ
slid_bit = 5

abbrev pub traffic_class_bit : ℕ
traffic_class_bit = 10

abbrev pub p_key_bit : ℕ
p_key_bit = 13

abbrev pub qos_class_bit : ℕ
qos_class_bit = 14

abbrev pub sl_bit : ℕ
sl_bit = 15

-- the bit of MtuSelector; that of Mtu is the next one
abbrev pub mtu_bit : ℕ
mtu_bit = 16

-- the bit of RateSelector; that of Rate is the next one
abbrev pub rate_bit : ℕ
rate_bit = 18

-- the bit of PacketLifeTimeSelector; that of PacketLifeTime is the next one
abbrev pub life_bit : ℕ
life_bit = 20

-- whether a request gives the component with the bit `bit`
abbrev pub gives : ℕ → ℕ → Bool
gives mask bit = mask / 2 ^ bit % 2 == 1

-- whether a request gives the components with the bit `bit` and the next one
abbrev pub gives_both : ℕ → ℕ → Bool
gives_both mask bit = gives mask bit && gives mask (bit + 1)

-- what is asked ------------------------------------------------------------------------------------------

-- what a request says of the source
abbrev pub source_said : ℕ → PathRecord → EndSaid
source_said mask asked =
    record {
      by_gid = gives mask sgid_bit;
      prefix = asked.sgid_prefix;
      guid = asked.sgid_guid;
      by_lid = gives mask slid_bit;
      lid = asked.slid;
    }

-- what a request says of the destination
abbrev pub target_said : ℕ → PathRecord → EndSaid
target_said mask asked =
    record {
      by_gid = gives mask dgid_bit;
      prefix = asked.dgid_prefix;
      guid = asked.dgid_guid;
      by_lid = gives mask dlid_bit;
      lid = asked.dlid;
    }

-- whether a value is as a selector (2 bits) and a number (6 bits) ask: 0 greater, 1 less, 2 equal, 3 the greatest that
-- there is
abbrev pub is_selected : (ℕ → ℕ) → ℕ → ℕ → Bool
is_selected order field value =
    if field / 64 == 0 then nat_lt (order (field % 64)) (order value)
    else (if field / 64 == 1 then nat_lt (order value) (order (field % 64))
    else (if field / 64 == 2 then value == field % 64 else true))

-- whether a value is as a request asks, if it gives the selector and the number, whose bits are `bit` and the next one
abbrev pub suits : (ℕ → ℕ) → ℕ → ℕ → ℕ → ℕ → Bool
suits order mask bit field value = not (gives_both mask bit) || is_selected order field value

-- whether a request asks for the default partition and for SL 0, as far as it asks for any
abbrev pub suits_lane : ℕ → PathRecord → Bool
suits_lane mask asked =
    (not (gives mask p_key_bit) || asked.p_key % 2 ^ 15 == 0x7FFF)
    && (not (gives mask sl_bit) || asked.qos_class_and_sl % 16 == 0)

-- the path -----------------------------------------------------------------------------------------------

-- the number of the time that a packet may live: 4.096 us * 2^18, or 0 if the ends are one
abbrev pub life_of : EndPort → EndPort → ℕ
life_of source target = if source.node == target.node && source.port == target.port then 0 else one_second

-- the highest bit of a field with a selector says that the number is exact
abbrev pub exactly : ℕ → ℕ
exactly number = 0x80 + number % 64

-- the path between two ends with these LIDs and GUIDs, on which a packet may live for the time with the number `life`,
-- and whose ports let through what `bound` says
abbrev pub path_of : ℕ → PathRecord → ℕ → ℕ → ℕ → ℕ → ℕ → Bound → PathRecord
path_of mask asked slid sgid dlid dgid life bound =
    record {
      service_id = 0;
      dgid_prefix = link_local_prefix;
      dgid_guid = dgid;
      sgid_prefix = link_local_prefix;
      sgid_guid = sgid;
      dlid = dlid;
      slid = slid;
      flow_and_hops = 0;
      traffic_class = if gives mask traffic_class_bit then asked.traffic_class else 0;
      reversible_and_count = 0x80;
      p_key = if gives mask p_key_bit then asked.p_key else 0xFFFF;
      qos_class_and_sl = if gives mask qos_class_bit then asked.qos_class_and_sl - asked.qos_class_and_sl % 16 else 0;
      mtu = exactly bound.mtu;
      rate = exactly (rate_number bound.rate);
      packet_life_time = exactly life;
      preference = 0;
    }

-- whether a path is as a request asks
abbrev pub suits_path : ℕ → PathRecord → PathRecord → Bool
suits_path mask asked path =
    suits_lane mask asked
    && (suits (λ n. n) mask mtu_bit asked.mtu (path.mtu % 64)
    && (suits rate_of_number mask rate_bit asked.rate (path.rate % 64)
    && suits (λ n. n) mask life_bit asked.packet_life_time (path.packet_life_time % 64)))

-- the path, if it is as the request asks
abbrev pub if_suited : ℕ → PathRecord → PathRecord → Option PathRecord
if_suited mask asked path = if suits_path mask asked path then Some path else None

-- the path between two end ports, given their port GUIDs, if they are known, and what the ways there and back let
-- through, if packets arrive on them
abbrev pub path_with : ℕ → PathRecord → EndPort → ℕ → EndPort → ℕ → Option ℕ → Option ℕ → Option Bound → Option Bound
    → Option PathRecord
path_with mask asked source slid target dlid (Some sgid) (Some dgid) (Some there) (Some back) =
    if_suited mask asked (path_of mask asked slid sgid dlid dgid (life_of source target) (lesser there back))
path_with mask asked source slid target dlid sgid dgid there back = None

-- the path from `source` with `slid` to `target` with `dlid`; None if a packet does not arrive there, or not back, or if
-- the path is not as the request asks
abbrev pub path_between : Told → ℕ → PathRecord → EndPort → ℕ → EndPort → ℕ → Option PathRecord
path_between told mask asked source slid target dlid =
    path_with mask asked source slid target dlid (port_guid_of told.cells source.node source.port)
    (port_guid_of told.cells target.node target.port) (bound_of_way told dlid target source)
    (bound_of_way told slid source target)

-- the path, or the refusal if there is none
abbrev pub path_or_none : Option PathRecord → Reply
path_or_none None = Refused NoRecords
path_or_none (Some path) = Path path

-- the reply to a request for a path between these ends
abbrev pub reply_between : Told → ℕ → PathRecord → EndAsked → EndAsked → Reply
reply_between told mask asked (Known source slid) (Known target dlid) =
    path_or_none (path_between told mask asked source slid target dlid)
reply_between told mask asked Unknown target = Refused NoRecords
reply_between told mask asked Nobody Unknown = Refused NoRecords
reply_between told mask asked (Known source slid) Unknown = Refused NoRecords
reply_between told mask asked Nobody Nobody = Refused InsufficientComponents
reply_between told mask asked Nobody (Known target dlid) = Refused InsufficientComponents
reply_between told mask asked (Known source slid) Nobody = Refused InsufficientComponents

-- the reply to a request for a path
abbrev pub path_reply : Told → ℕ → PathRecord → Reply
path_reply told mask asked =
    reply_between told mask asked (end_asked told (source_said mask asked)) (end_asked told (target_said mask asked))
