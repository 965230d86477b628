-- Which nodes and ports are told.
use Rattle.std.proofs.Common.{◌≡◌, ◌⊎◌, inl, inr, ℕ, ◌+◌, Bool, true, false, not, cond, ◌==◌, ◌||◌, inl, inr, List, [], ◌∷◌, Option, None, Some, refl, sym, ap, ◌∙◌, subst, arith}
use Rattle.std.proofs.lemmas.Bool.{and_parts, eq-eqb, eqb-true, true≢false}
use Rattle.std.proofs.lemmas.List.Sums.{sum_by-cons}
use Rattle.std.proofs.lemmas.Option.{same_Some}
use Rattle.std.specs.Prelude.{count_by, nat_lt, option_and_then}
use Rattle.std.specs.List.{find}
use Rattle.std.specs.Option.{option_map_or}
use Rattle.smp_bytes.specs.Field.{bytes_in, number_in}
use Rattle.smp_bytes.specs.Packet.{attribute_id, method}
use Rattle.smp_bytes.specs.declared.node_type.NodeType.{NodeType}
use Rattle.attr_codec.specs.NodeInfo.{node_info_in}
use Rattle.reply_facts.specs.Known.{node_of, port_guid_of}
use Rattle.subnet_view.specs.declared.end_port.EndPort.{EndPort}
use Rattle.subnet_view.proofs.Apart.{found_there}
use Rattle.lid_assign.specs.Lids.{lid_of, owner_of}
use Rattle.sweep.specs.Images.{image_at}
use Rattle.sa_bytes.specs.Numbers.{node_record, port_info_record, sa_get, sa_get_table}
use Rattle.sa_bytes.specs.PathRecord.{path_record_in}
use Rattle.sa_bytes.specs.SaPacket.{attribute_data, component_mask, lid_data, path_data, port_data}
use Rattle.sa_bytes.specs.declared.node_record.NodeRecord.{NodeRecord}
use Rattle.sa_bytes.specs.declared.path_record.PathRecord.{PathRecord}
use Rattle.sa_bytes.specs.declared.port_info_record.PortInfoRecord.{PortInfoRecord}
use Rattle.sa_answers.specs.NodeReply.{description_bit, info_of, is_owner, node_lid_bit, node_reply, node_told, node_with, only_node, suits_info}
use Rattle.sa_answers.specs.PathReply.{gives, path_between, path_or_none, path_reply, reply_between, source_said, target_said}
use Rattle.sa_answers.specs.PortReply.{end_port_lid_bit, goes_by, most_of_mask, port_num_bit, info_at, port_reply, port_told, port_with, reply_at, reply_of_owner}
use Rattle.sa_answers.specs.RecordLaws.{AsksForPort, IsPortOfOwner, NodesAreTold, NodesToldAreThePlans, PortsAreTold, PortsToldAreThePlans, suits_request}
use Rattle.sa_answers.specs.Ends.{end_asked}
use Rattle.sa_answers.specs.Reply.{as_table, other_reply, record_reply, reply_to, reply_to_change, reply_to_get}
use Rattle.sa_answers.proofs.Gets.{change_of_group, is_of_group, other_of_group}
use Rattle.sa_answers.specs.Told.{Told}
use Rattle.sa_answers.specs.declared.ends.EndAsked.{EndAsked}
use Rattle.sa_answers.specs.declared.ends.EndAsked.TheVariants.{Nobody, Unknown, Known}
use Rattle.sa_answers.specs.declared.reply.Reply.{Reply}
use Rattle.sa_answers.specs.declared.reply.Reply.TheVariants.{Refused, Info, Path, Node, Port, Member, Empty}
use Rattle.sa_answers.specs.declared.reply.SaRefusal.{SaRefusal}
use Rattle.sa_answers.specs.declared.reply.SaRefusal.TheVariants.{NotSupported, NoRecords, TooManyRecords, InsufficientComponents, InvalidGid, InvalidRequest}

-- a reply is about a record, and not a refusal, ClassPortInfo or a path
abbrev is_record : Reply → Bool
is_record (Refused refusal) = false
is_record Info = false
is_record (Path path) = false
is_record (Node r) = true
is_record (Port r) = true
is_record (Member r) = false
is_record Empty = false

-- it is none about a group
record_of_group : (r s : Reply) → is_of_group r ≡ true → is_record s ≡ true → r ≡ s → ⊥
record_of_group (Refused refusal) s of_group some e = true≢false (sym some ∙ ap is_record (sym e))
record_of_group Info s of_group some e = true≢false (sym of_group)
record_of_group (Path path) s of_group some e = true≢false (sym of_group)
record_of_group (Node r) s of_group some e = true≢false (sym of_group)
record_of_group (Port r) s of_group some e = true≢false (sym of_group)
record_of_group (Member r) s of_group some e = true≢false (sym some ∙ ap is_record (sym e))
record_of_group Empty s of_group some e = true≢false (sym of_group)

-- a test that came out true
yes : (m n : ℕ) → (m == n) ≡ true → m ≡ n
yes m n e = eqb-true m n e

-- a reply about a path is none about a record
no_record_between : (told : Told) (mask : ℕ) (asked : PathRecord) (s d : EndAsked) → is_record (reply_between told mask asked s d) ≡ false
no_record_between told mask asked (Known source slid) (Known target dlid) = go (path_between told mask asked source slid target dlid)
  where
    go : (o : Option PathRecord) → is_record (path_or_none o) ≡ false
    go None = refl
    go (Some path) = refl
no_record_between told mask asked Unknown d = refl
no_record_between told mask asked Nobody Unknown = refl
no_record_between told mask asked (Known source slid) Unknown = refl
no_record_between told mask asked Nobody Nobody = refl
no_record_between told mask asked Nobody (Known target dlid) = refl
no_record_between told mask asked (Known source slid) Nobody = refl

-- a record in a table is that of a Get
table_record : (r s : Reply) → is_record s ≡ true → as_table r ≡ s → r ≡ s
table_record (Refused NoRecords) s some e = absurd (true≢false (sym some ∙ ap is_record (sym e)))
table_record (Refused NotSupported) s some e = absurd (true≢false (sym some ∙ ap is_record (sym e)))
table_record (Refused TooManyRecords) s some e = absurd (true≢false (sym some ∙ ap is_record (sym e)))
table_record (Refused InsufficientComponents) s some e = absurd (true≢false (sym some ∙ ap is_record (sym e)))
table_record (Refused InvalidGid) s some e = absurd (true≢false (sym some ∙ ap is_record (sym e)))
table_record (Refused InvalidRequest) s some e = absurd (true≢false (sym some ∙ ap is_record (sym e)))
table_record Info s some e = absurd (true≢false (sym some ∙ ap is_record (sym e)))
table_record (Path path) s some e = absurd (true≢false (sym some ∙ ap is_record (sym e)))
table_record (Node r) s some e = e
table_record (Port r) s some e = e
table_record (Member r) s some e = absurd (true≢false (sym some ∙ ap is_record (sym e)))
table_record Empty s some e = absurd (true≢false (sym some ∙ ap is_record (sym e)))

-- the replies about paths and about ports
abbrev paths_of : Told → List ℕ → Reply
paths_of told request = path_reply told (number_in component_mask request) (path_record_in (bytes_in path_data request))

abbrev port_of : Told → List ℕ → Reply
port_of told request = port_reply told (number_in component_mask request) (number_in lid_data request) (number_in port_data request)

-- a request whose reply is about a record is a Get of it
record Asked (told : Told) (request : List ℕ) (r : Reply) : Type 0 where
  asks : (number_in method request ≡ sa_get) ⊎ (number_in method request ≡ sa_get_table)
  not_info : (number_in attribute_id request == 0x0001) ≡ false
  not_path : (number_in attribute_id request == 0x0035) ≡ false
  its : record_reply told (number_in attribute_id request) request ≡ r

asked_is : (told : Told) (request : List ℕ) (r : Reply) → is_record r ≡ true → reply_to told request ≡ r → Asked told request r
asked_is told request r some e = go (number_in method request == sa_get) (number_in method request == sa_get_table) refl refl e
  where
    no_path : is_record (paths_of told request) ≡ false
    no_path =
        let mask = number_in component_mask request in
        let asked = path_record_in (bytes_in path_data request) in
        no_record_between told mask asked (end_asked told (source_said mask asked)) (end_asked told (target_said mask asked))

    of_get : (number_in method request ≡ sa_get) ⊎ (number_in method request ≡ sa_get_table) → (b c : Bool) → (number_in attribute_id request == 0x0001) ≡ b
        → (number_in attribute_id request == 0x0035) ≡ c
        → cond b Info (cond c (paths_of told request) (record_reply told (number_in attribute_id request) request)) ≡ r → Asked told request r
    of_get asks false false b c u = record { asks = asks; not_info = b; not_path = c; its = u }
    of_get asks true c b c' u = absurd (true≢false (sym some ∙ ap is_record (sym u)))
    of_get asks false true b c u = absurd (true≢false (sym some ∙ ap is_record (sym u) ∙ no_path))

    go : (a t : Bool) → (number_in method request == sa_get) ≡ a → (number_in method request == sa_get_table) ≡ t
        → cond a (reply_to_get told (number_in attribute_id request) request)
        (cond t (as_table (reply_to_get told (number_in attribute_id request) request)) (reply_to_change told request)) ≡ r → Asked told request r
    go true t a_is t_is u =
        of_get (inl (yes (number_in method request) sa_get a_is)) (number_in attribute_id request == 0x0001) (number_in attribute_id request == 0x0035) refl refl u
    go false true a_is t_is u =
        of_get (inr (yes (number_in method request) sa_get_table t_is)) (number_in attribute_id request == 0x0001) (number_in attribute_id request == 0x0035) refl refl
        (table_record (reply_to_get told (number_in attribute_id request) request) r some u)
    go false false a_is t_is u = absurd (record_of_group (reply_to_change told request) r (change_of_group told request) some u)

-- ports ----------------------------------------------------------------------------------------------------------

-- what a record of a port was made of
record PortOf (told : Told) (e : EndPort) (r : PortInfoRecord) : Type 0 where
  lid : ℕ
  image : List ℕ
  first : lid_of told.plan.given e ≡ Some lid
  image_is : image_at told.images e.node r.port ≡ Some image
  lid_is : r.lid ≡ lid
  info_is : r.info ≡ info_at told e lid r.port image

-- a reply is a refusal, or tells a port of `e` of which `goes` holds
data Ported (told : Told) (e : EndPort) : Reply → Type 0 where
  refuses : (why : SaRefusal) → Ported told e (Refused why)
  tells : (r : PortInfoRecord) → PortOf told e r → goes_by e r.port ≡ true → Ported told e (Port r)

ported : (told : Told) (e : EndPort) (port : ℕ) → goes_by e port ≡ true → Ported told e (port_told told e port)
ported told e port goes = go (lid_of told.plan.given e) (image_at told.images e.node port) refl refl
  where
    go : (l : Option ℕ) (i : Option (List ℕ)) → lid_of told.plan.given e ≡ l → image_at told.images e.node port ≡ i → Ported told e (port_with told e port l i)
    go None i l_is i_is = refuses NoRecords
    go (Some l) None l_is i_is = refuses NoRecords
    go (Some l) (Some i) l_is i_is =
        tells (record { lid = l; port = port; info = info_at told e l port i })
        (record { lid = l; image = i; first = l_is; image_is = i_is; lid_is = refl; info_is = refl }) goes

own_goes : (e : EndPort) → goes_by e e.port ≡ true
own_goes e = go (e.port == 0) (eq-eqb e.port e.port refl)
  where
    go : (b : Bool) → (e.port == e.port) ≡ true → (b || e.port == e.port) ≡ true
    go true h = refl
    go false h = h

ported_at : (told : Told) (named : Bool) (port : ℕ) (e : EndPort) → Ported told e (reply_at told named port e)
ported_at told named port e = go named (goes_by e port) (e.port == 0) refl
  where
    go : (n g z : Bool) → goes_by e port ≡ g
        → Ported told e (cond n (cond g (port_told told e port) (Refused NoRecords)) (cond z (Refused TooManyRecords) (port_told told e e.port)))
    go true true z h = ported told e port h
    go true false z h = refuses NoRecords
    go false g true h = refuses TooManyRecords
    go false g false h = ported told e e.port (own_goes e)

-- a reply about a port is a refusal, or tells a port of the owner
data Owned (told : Told) (lid : ℕ) : Reply → Type 0 where
  refuses_all : (why : SaRefusal) → Owned told lid (Refused why)
  tells_of : (r : PortInfoRecord) (e : EndPort) → owner_of told.plan.given lid ≡ Some e → PortOf told e r → goes_by e r.port ≡ true → Owned told lid (Port r)

owned : (told : Told) (mask lid port : ℕ) → Owned told lid (port_reply told mask lid port)
owned told mask lid port = go (nat_lt most_of_mask mask) (gives mask end_port_lid_bit) (gives mask port_num_bit) (owner_of told.plan.given lid) refl
  where
    from : (e : EndPort) → owner_of told.plan.given lid ≡ Some e → (r : Reply) → Ported told e r → Owned told lid r
    from e is _ (refuses why) = refuses_all why
    from e is _ (tells r made goes) = tells_of r e is made goes

    go : (m l n : Bool) (o : Option EndPort) → owner_of told.plan.given lid ≡ o
        → Owned told lid (cond m (Refused NotSupported) (cond l (reply_of_owner told n port o) (Refused InsufficientComponents)))
    go true l n o is = refuses_all NotSupported
    go false false n o is = refuses_all InsufficientComponents
    go false true n None is = refuses_all NoRecords
    go false true n (Some e) is = from e is _ (ported_at told n port e)

-- a reply about a port tells no node
no_node_of_port : (told : Told) (mask lid port : ℕ) (r : NodeRecord) → port_reply told mask lid port ≡ Node r → ⊥
no_node_of_port told mask lid port r e = go (port_reply told mask lid port) (owned told mask lid port) e
  where
    go : (reply : Reply) → Owned told lid reply → reply ≡ Node r → ⊥
    go _ (refuses_all why) u = absurd (cc)
    go _ (tells_of s e is made goes) u = absurd (cc)

-- what a port that is told was made of
port_owned : (told : Told) (request : List ℕ) (mask lid port : ℕ) (r : PortInfoRecord) → lid ≡ number_in lid_data request → port_reply told mask lid port ≡ Port r
    → IsPortOfOwner told request r
port_owned told request mask lid port r same e = go (port_reply told mask lid port) (owned told mask lid port) e
  where
    go : (reply : Reply) → Owned told lid reply → reply ≡ Port r → IsPortOfOwner told request r
    go _ (refuses_all why) u = absurd (cc)
    go _ (tells_of s end is made goes) u =
        let is_s : s ≡ r = cc in
        subst (IsPortOfOwner told request) is_s (record {
          end = end;
          lid = made.lid;
          image = made.image;
          owner = ap (owner_of told.plan.given) (sym same) ∙ is;
          first = made.first;
          goes = goes;
          image_is = made.image_is;
          lid_is = made.lid_is;
          info_is = made.info_is;
        })

-- nodes ----------------------------------------------------------------------------------------------------------

-- what a record of a node was made of
record NodeOf (told : Told) (x : EndPort × ℕ) (r : NodeRecord) : Type 0 where
  node : NodeType × ℕ
  guid : ℕ
  node_is : node_of told.cells x.0.node ≡ Some node
  guid_is : port_guid_of told.cells x.0.node x.0.port ≡ Some guid
  lid_is : r.lid ≡ x.1
  info_is : r.info ≡ info_of x.0 node guid

node_made : (told : Told) (x : EndPort × ℕ) (r : NodeRecord) → node_told told x ≡ Some r → NodeOf told x r
node_made told x r e = go (node_of told.cells x.0.node) (port_guid_of told.cells x.0.node x.0.port) refl refl e
  where
    go : (n : Option (NodeType × ℕ)) (g : Option ℕ) → node_of told.cells x.0.node ≡ n → port_guid_of told.cells x.0.node x.0.port ≡ g
        → node_with x n g ≡ Some r → NodeOf told x r
    go (Some n) (Some g) n_is g_is u =
        let same = sym (same_Some _ r u) in
        record { node = n; guid = g; node_is = n_is; guid_is = g_is; lid_is = ap (λ (y : NodeRecord). y.lid) same; info_is = ap (λ (y : NodeRecord). y.info) same }
    go None g n_is g_is u = absurd (cc)
    go (Some n) None n_is g_is u = absurd (cc)

-- the only one was found
record Found (told : Told) (count : ℕ) (found : Option (EndPort × ℕ)) (r : NodeRecord) : Type 0 where
  x : EndPort × ℕ
  one : count ≡ 1
  is : found ≡ Some x
  told_is : node_told told x ≡ Some r

only_is : (count : ℕ) (o : Option NodeRecord) (r : NodeRecord) → only_node count o ≡ Node r → (count ≡ 1) × (o ≡ Some r)
only_is count None r e = absurd (cc)
only_is count (Some s) r e = go (count == 1) refl e
  where
    go : (b : Bool) → (count == 1) ≡ b → cond b (Node s) (Refused TooManyRecords) ≡ Node r → (count ≡ 1) × (◌≡◌ {A = Option NodeRecord} (Some s) (Some r))
    go true b u = (yes count 1 b, (let same : s ≡ r = cc in ap (λ (y : NodeRecord). Some y) same))
    go false b u = absurd (cc)

found_is : (told : Told) (count : ℕ) (found : Option (EndPort × ℕ)) (r : NodeRecord)
    → only_node count (option_and_then (node_told told) found) ≡ Node r → Found told count found r
found_is told count None r e = absurd (cc)
found_is told count (Some x) r e = let its = only_is count (node_told told x) r e in record { x = x; one = its.0; is = refl; told_is = its.1 }

node_asked : (told : Told) (request : List ℕ) (r : NodeRecord) → record_reply told (number_in attribute_id request) request ≡ Node r
    → ((number_in attribute_id request == 0x0011) ≡ true)
    × Found told (count_by (suits_request told request) told.plan.given.ports) (find (suits_request told request) told.plan.given.ports) r
node_asked told request r e =
    go (number_in attribute_id request == 0x0011) (number_in attribute_id request == 0x0012) (gives (number_in component_mask request) description_bit) refl e
  where
    no_node : port_of told request ≡ Node r → ⊥
    no_node u = no_node_of_port told (number_in component_mask request) (number_in lid_data request) (number_in port_data request) r u

    go : (a b d : Bool) → (number_in attribute_id request == 0x0011) ≡ a
        → cond a (cond d (Refused NotSupported) (only_node (count_by (suits_request told request) told.plan.given.ports)
        (option_and_then (node_told told) (find (suits_request told request) told.plan.given.ports)))) (cond b (port_of told request) (other_reply told (number_in attribute_id request) request)) ≡ Node r
        → ((number_in attribute_id request == 0x0011) ≡ true)
        × Found told (count_by (suits_request told request) told.plan.given.ports) (find (suits_request told request) told.plan.given.ports) r
    go true b false a u = (a, found_is told (count_by (suits_request told request) told.plan.given.ports) (find (suits_request told request) told.plan.given.ports) r u)
    go true b true a u = absurd (cc)
    go false true d a u = absurd (no_node u)
    go false false d a u = absurd (record_of_group (other_reply told (number_in attribute_id request) request) (Node r)
        (other_of_group told (number_in attribute_id request) request) refl u)

-- the reply to a request for another record than a path, if a table leaves it as it is
gets : (told : Told) (request : List ℕ) (r : Reply) → (number_in method request ≡ sa_get) ⊎ (number_in method request ≡ sa_get_table)
    → (number_in attribute_id request == 0x0001) ≡ false → (number_in attribute_id request == 0x0035) ≡ false
    → record_reply told (number_in attribute_id request) request ≡ r → as_table r ≡ r → reply_to told request ≡ r
gets told request r (inl get) no_info no_path e stays =
    (λ i. cond (get i == 0x01) (reply_to_get told (number_in attribute_id request) request)
    (cond (get i == 0x12) (as_table (reply_to_get told (number_in attribute_id request) request)) (reply_to_change told request)))
    ∙ (λ i. cond (no_info i) Info (cond (no_path i) (paths_of told request) (record_reply told (number_in attribute_id request) request)))
    ∙ e
gets told request r (inr table) no_info no_path e stays =
    (λ i. cond (table i == 0x01) (reply_to_get told (number_in attribute_id request) request)
    (cond (table i == 0x12) (as_table (reply_to_get told (number_in attribute_id request) request)) (reply_to_change told request)))
    ∙ (λ i. as_table (cond (no_info i) Info (cond (no_path i) (paths_of told request) (record_reply told (number_in attribute_id request) request))))
    ∙ ap as_table e ∙ stays

port_asked : (told : Told) (request : List ℕ) (r : PortInfoRecord) → record_reply told (number_in attribute_id request) request ≡ Port r
    → ((number_in attribute_id request == 0x0012) ≡ true)
    × (port_reply told (number_in component_mask request) (number_in lid_data request) (number_in port_data request) ≡ Port r)
port_asked told request r e =
    go (number_in attribute_id request == 0x0011) (number_in attribute_id request == 0x0012) (gives (number_in component_mask request) description_bit)
    (count_by (suits_request told request) told.plan.given.ports)
    (option_and_then (node_told told) (find (suits_request told request) told.plan.given.ports)) refl e
  where
    no_port : (count : ℕ) (o : Option NodeRecord) → only_node count o ≡ Port r → ⊥
    no_port count None u = absurd (cc)
    no_port count (Some s) u = by (count == 1) u
      where
        by : (b : Bool) → cond b (Node s) (Refused TooManyRecords) ≡ Port r → ⊥
        by true w = absurd (cc)
        by false w = absurd (cc)

    go : (a b d : Bool) (count : ℕ) (o : Option NodeRecord) → (number_in attribute_id request == 0x0012) ≡ b
        → cond a (cond d (Refused NotSupported) (only_node count o)) (cond b (port_of told request) (other_reply told (number_in attribute_id request) request)) ≡ Port r
        → ((number_in attribute_id request == 0x0012) ≡ true)
        × (port_reply told (number_in component_mask request) (number_in lid_data request) (number_in port_data request) ≡ Port r)
    go true b false count o is u = absurd (no_port count o u)
    go true b true count o is u = absurd (cc)
    go false true d count o is u = (is, u)
    go false false d count o is u = absurd (record_of_group (other_reply told (number_in attribute_id request) request) (Port r)
        (other_of_group told (number_in attribute_id request) request) refl u)

-- the reply about the port that is asked for
of_owner : (told : Told) (request : List ℕ) (e : EndPort) (port : ℕ) → owner_of told.plan.given (number_in lid_data request) ≡ Some e → AsksForPort request e port
    → port_reply told (number_in component_mask request) (number_in lid_data request) (number_in port_data request) ≡ port_told told e port
of_owner told request e port owns (inl named) =
    let (mask, number, goes) = named in
    (λ i. port_reply told (mask i) (number_in lid_data request) (number i))
    ∙ ap (reply_of_owner told true port) owns
    ∙ ap (λ b. cond b (port_told told e port) (Refused NoRecords)) goes
of_owner told request e port owns (inr own) =
    let (mask, adapter, same) = own in
    (λ i. port_reply told (mask i) (number_in lid_data request) (number_in port_data request))
    ∙ ap (reply_of_owner told false (number_in port_data request)) owns
    ∙ ap (λ b. cond b (Refused TooManyRecords) (port_told told e e.port)) adapter
    ∙ ap (port_told told e) (sym same)

pub nodes_of_plan : NodesToldAreThePlans
nodes_of_plan told request r e =
    let asked = asked_is told request (Node r) refl e in
    let (of_node, found) = node_asked told request r asked.its in
    let made = node_made told found.x r found.told_is in
    let there = found_there (suits_request told request) told.plan.given.ports found.x found.is in (
      (asked.asks, yes (number_in attribute_id request) node_record of_node),
      record {
        end = found.x.0;
        lid = found.x.1;
        node = made.node;
        guid = made.guid;
        given = there.0;
        node_is = made.node_is;
        guid_is = made.guid_is;
        lid_is = made.lid_is;
        info_is = made.info_is;
        suits = there.1;
        no_others = found.one;
      },
    )

-- a count with one more before
count_more : (p : EndPort × ℕ → Bool) (y : EndPort × ℕ) (xs : List (EndPort × ℕ)) → count_by p (y ∷ xs) ≡ cond (p y) 1 0 + count_by p xs
count_more p y xs = sum_by-cons (λ (x : EndPort × ℕ). cond (p x) 1 0) y xs

-- a count of 1 finds one
counted : (p : EndPort × ℕ → Bool) (xs : List (EndPort × ℕ)) → count_by p xs ≡ 1 → (x : EndPort × ℕ) × (find p xs ≡ Some x) × (p x ≡ true)
counted p [] e = let no : ⊥ = omega (arith, e) in absurd no
counted p (y ∷ xs) e = go (counted p xs) (p y) refl (sym (count_more p y xs) ∙ e)
  where
    go : (count_by p xs ≡ 1 → (x : EndPort × ℕ) × (find p xs ≡ Some x) × (p x ≡ true)) → (b : Bool) → p y ≡ b → cond b 1 0 + count_by p xs ≡ 1
        → (x : EndPort × ℕ) × (find p (y ∷ xs) ≡ Some x) × (p x ≡ true)
    go later true h u = (y, ap (λ b. cond b (Some y) (find p xs)) h, h)
    go later false h u = let less : count_by p xs ≡ 1 = omega (arith, u) in let its = later less in (its.0, ap (λ b. cond b (Some y) (find p xs)) h ∙ its.1, its.2)

-- who suits has a record
has_record : (told : Told) (request : List ℕ) (x : EndPort × ℕ) → suits_request told request x ≡ true → (r : NodeRecord) × (node_told told x ≡ Some r)
has_record told request x e =
    let mask = number_in component_mask request in
    let info = node_info_in (bytes_in attribute_data request) in
    go (node_told told x) refl (and_parts (not (gives mask node_lid_bit) || is_owner told (number_in lid_data request) x.0) (option_map_or (λ r. suits_info mask info r.info) (node_told told x) false) e).1
  where
    go : (o : Option NodeRecord) → node_told told x ≡ o
        → option_map_or (λ r. suits_info (number_in component_mask request) (node_info_in (bytes_in attribute_data request)) r.info) o false ≡ true
        → (r : NodeRecord) × (node_told told x ≡ Some r)
    go None is u = absurd (cc)
    go (Some r) is u = (r, is)

pub nodes_told : NodesAreTold
nodes_told told request asks by_name one =
    let n = number_in attribute_id request in
    let found = counted (suits_request told request) told.plan.given.ports one in
    let has = has_record told request found.0 found.2 in
    let only : only_node (count_by (suits_request told request) told.plan.given.ports)
    (option_and_then (node_told told) (find (suits_request told request) told.plan.given.ports)) ≡ Node has.0 =
    (λ i. only_node (one i) (option_and_then (node_told told) (found.1 i))) ∙ ap (only_node 1) has.1 in
    let told_node : record_reply told n request ≡ Node has.0 =
    ap (λ b. cond b (node_reply told (number_in component_mask request) (number_in lid_data request) (node_info_in (bytes_in attribute_data request)))
    (cond (n == 0x0012) (port_reply told (number_in component_mask request) (number_in lid_data request) (number_in port_data request)) (other_reply told n request)))
    (eq-eqb n node_record asks.1)
    ∙ ap (λ b. cond b (Refused NotSupported) (only_node (count_by (suits_request told request) told.plan.given.ports)
    (option_and_then (node_told told) (find (suits_request told request) told.plan.given.ports)))) by_name
    ∙ only in
    (has.0, gets told request (Node has.0) asks.0 (ap (λ k. k == 0x0001) asks.1) (ap (λ k. k == 0x0035) asks.1) told_node refl)

pub ports_of_plan : PortsToldAreThePlans
ports_of_plan told request r e =
    let asked = asked_is told request (Port r) refl e in
    let (of_port, told_port) = port_asked told request r asked.its in (
      (asked.asks, yes (number_in attribute_id request) port_info_record of_port),
      port_owned told request (number_in component_mask request) (number_in lid_data request) (number_in port_data request) r refl told_port,
    )

pub ports_told : PortsAreTold
ports_told told request e port lid image asks owns asks_port first kept =
    let n = number_in attribute_id request in
    let told_port : port_told told e port ≡ Port (record { lid = lid; port = port; info = info_at told e lid port image }) =
    λ i. port_with told e port (first i) (kept i) in
    let made = of_owner told request e port owns asks_port in
    gets told request (Port (record { lid = lid; port = port; info = info_at told e lid port image })) asks.0 (ap (λ k. k == 0x0001) asks.1) (ap (λ k. k == 0x0035) asks.1)
    (ap (λ k. cond (k == 0x0011) (node_reply told (number_in component_mask request) (number_in lid_data request) (node_info_in (bytes_in attribute_data request)))
    (cond (k == 0x0012) (port_reply told (number_in component_mask request) (number_in lid_data request) (number_in port_data request)) (other_reply told k request))) asks.1
    ∙ made ∙ told_port)
    refl
