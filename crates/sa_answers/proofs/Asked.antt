-- A path that is told is that between the two ends that were asked for, and each end has the LID that is told.
use Rattle.std.proofs.Common.{true≢false, ◌≡◌, ℕ, Bool, true, false, cond, ◌==◌, ◌&&◌, List, Option, None, Some, refl, sym, ap, ◌∙◌, subst}
use Rattle.std.proofs.lemmas.Option.{same_Some}
use Rattle.std.specs.Prelude.{Contains, nat_lt, option_map}
use Rattle.smp_bytes.specs.Field.{bytes_in, number_in}
use Rattle.smp_bytes.specs.Packet.{attribute_id, method}
use Rattle.smp_bytes.proofs.LidRanges.{has_its_lid}
use Rattle.fact_store.specs.View.{Facts, cells_of}
use Rattle.reply_facts.specs.Known.{port_guid_of}
use Rattle.subnet_view.specs.declared.end_port.EndPort.{EndPort}
use Rattle.subnet_view.proofs.Apart.{found_there}
use Rattle.lid_assign.specs.Lids.{IsNoRoom, lid_of, lids, lmc_of, owner_of}
use Rattle.lid_assign.proofs.LidLaws.{lids_law, ports_apart}
use Rattle.lid_assign.proofs.Owners.{lid-from_given, owners_are_inverse}
use Rattle.plan_steps.specs.Carried.{link_local_prefix}
use Rattle.sa_bytes.specs.PathRecord.{path_record_in}
use Rattle.sa_bytes.specs.SaPacket.{attribute_data, component_mask, lid_data, path_data, port_data}
use Rattle.sa_bytes.specs.declared.node_record.NodeRecord.{NodeRecord}
use Rattle.attr_codec.specs.NodeInfo.{node_info_in}
use Rattle.sweep.specs.Images.{image_at}
use Rattle.sa_bytes.specs.declared.path_record.PathRecord.{PathRecord}
use Rattle.sa_answers.specs.Bound.{lesser}
use Rattle.sa_answers.specs.Ends.{both_ends, end_asked, end_by_gid, end_by_guid, end_by_lid, end_of, has_guid}
use Rattle.sa_answers.specs.PathReply.{gives, life_of, path_between, path_of, path_or_none, path_reply, path_with, reply_between, source_said, suits_path, target_said}
use Rattle.sa_answers.specs.NodeReply.{description_bit, first_node, nodes_suited, only_node}
use Rattle.sa_answers.specs.PortReply.{end_port_lid_bit, goes_by, most_of_mask, port_num_bit, port_told, port_with, reply_of_owner}
use Rattle.sa_answers.specs.Reply.{as_table, other_reply, record_reply, reply_to, reply_to_change, reply_to_get}
use Rattle.sa_answers.specs.Told.{Told}
use Rattle.sa_answers.proofs.Gets.{change_of_group, is_of_group, other_of_group, table_path}
use Rattle.sa_answers.specs.Way.{bound_of_way}
use Rattle.sa_answers.specs.declared.bound.Bound.{Bound}
use Rattle.sa_answers.specs.declared.ends.EndAsked.{EndAsked}
use Rattle.sa_answers.specs.declared.ends.EndAsked.TheVariants.{Nobody, Unknown, Known}
use Rattle.sa_answers.specs.declared.ends.EndSaid.{EndSaid}
use Rattle.sa_answers.specs.declared.reply.Reply.TheVariants.{Refused, Info, Path, Node}
use Rattle.sa_answers.specs.declared.reply.SaRefusal.TheVariants.{NotSupported, NoRecords, TooManyRecords, InsufficientComponents}

-- what a path was made of
pub record MadeOf (told : Told) (mask : ℕ) (asked : PathRecord) (source : EndPort) (slid : ℕ) (target : EndPort) (dlid : ℕ) (path : PathRecord) : Type 0 where
  pub sgid : ℕ
  pub dgid : ℕ
  pub there : Bound
  pub back : Bound
  pub sgid_is : port_guid_of told.cells source.node source.port ≡ Some sgid
  pub dgid_is : port_guid_of told.cells target.node target.port ≡ Some dgid
  pub there_is : bound_of_way told dlid target source ≡ Some there
  pub back_is : bound_of_way told slid source target ≡ Some back
  pub path_is : path ≡ path_of mask asked slid sgid dlid dgid (life_of source target) (lesser there back)

suited_is : (b : Bool) (made path : PathRecord) → cond b (Some made) None ≡ Some path → path ≡ made
suited_is true made path e = sym (same_Some made path e)
suited_is false made path e = absurd (cc)

made_of : (told : Told) (mask : ℕ) (asked : PathRecord) (source : EndPort) (slid : ℕ) (target : EndPort) (dlid : ℕ) (path : PathRecord)
    → path_between told mask asked source slid target dlid ≡ Some path → MadeOf told mask asked source slid target dlid path
made_of told mask asked source slid target dlid path e =
    go (port_guid_of told.cells source.node source.port) (port_guid_of told.cells target.node target.port) (bound_of_way told dlid target source)
    (bound_of_way told slid source target) refl refl refl refl e
  where
    go : (s d : Option ℕ) (t b : Option Bound) → port_guid_of told.cells source.node source.port ≡ s → port_guid_of told.cells target.node target.port ≡ d
        → bound_of_way told dlid target source ≡ t → bound_of_way told slid source target ≡ b
        → path_with mask asked source slid target dlid s d t b ≡ Some path → MadeOf told mask asked source slid target dlid path
    go (Some s) (Some d) (Some t) (Some b) s_is d_is t_is b_is u =
        let made = path_of mask asked slid s dlid d (life_of source target) (lesser t b) in
        record {
          sgid = s;
          dgid = d;
          there = t;
          back = b;
          sgid_is = s_is;
          dgid_is = d_is;
          there_is = t_is;
          back_is = b_is;
          path_is = suited_is (suits_path mask asked made) made path u;
        }
    go None d t b s_is d_is t_is b_is u = absurd (cc)
    go (Some s) None t b s_is d_is t_is b_is u = absurd (cc)
    go (Some s) (Some d) None b s_is d_is t_is b_is u = absurd (cc)
    go (Some s) (Some d) (Some t) None s_is d_is t_is b_is u = absurd (cc)

-- the ends between which a path is told
pub record Between (told : Told) (mask : ℕ) (asked : PathRecord) (path : PathRecord) : Type 0 where
  pub source : EndPort
  pub slid : ℕ
  pub target : EndPort
  pub dlid : ℕ
  pub source_is : end_asked told (source_said mask asked) ≡ Known source slid
  pub target_is : end_asked told (target_said mask asked) ≡ Known target dlid
  pub made : MadeOf told mask asked source slid target dlid path

told_path : (o : Option PathRecord) (path : PathRecord) → path_or_none o ≡ Path path → o ≡ Some path
told_path None path e = absurd (cc)
told_path (Some p) path e = cc

between : (told : Told) (mask : ℕ) (asked path : PathRecord) → path_reply told mask asked ≡ Path path → Between told mask asked path
between told mask asked path e = go (end_asked told (source_said mask asked)) (end_asked told (target_said mask asked)) refl refl e
  where
    go : (s d : EndAsked) → end_asked told (source_said mask asked) ≡ s → end_asked told (target_said mask asked) ≡ d → reply_between told mask asked s d ≡ Path path
        → Between told mask asked path
    go (Known s slid) (Known d dlid) s_is d_is u =
        record {
          source = s;
          slid = slid;
          target = d;
          dlid = dlid;
          source_is = s_is;
          target_is = d_is;
          made = made_of told mask asked s slid d dlid path (told_path (path_between told mask asked s slid d dlid) path u);
        }
    go Unknown d s_is d_is u = absurd (cc)
    go Nobody Unknown s_is d_is u = absurd (cc)
    go Nobody Nobody s_is d_is u = absurd (cc)
    go Nobody (Known d dlid) s_is d_is u = absurd (cc)
    go (Known s slid) Unknown s_is d_is u = absurd (cc)
    go (Known s slid) Nobody s_is d_is u = absurd (cc)

-- a reply about a node tells no path
no_node_path : (count : ℕ) (o : Option NodeRecord) (path : PathRecord) → only_node count o ≡ Path path → ⊥
no_node_path count None path e = absurd (cc)
no_node_path count (Some r) path e = go (count == 1) e
  where
    go : (b : Bool) → cond b (Node r) (Refused TooManyRecords) ≡ Path path → ⊥
    go true u = absurd (cc)
    go false u = absurd (cc)

-- a reply about a port tells no path
no_port_path : (told : Told) (e : EndPort) (port : ℕ) (path : PathRecord) → port_told told e port ≡ Path path → ⊥
no_port_path told e port path u = go (lid_of told.plan.given e) (image_at told.images e.node port) u
  where
    go : (l : Option ℕ) (i : Option (List ℕ)) → port_with told e port l i ≡ Path path → ⊥
    go None i u = absurd (cc)
    go (Some l) None u = absurd (cc)
    go (Some l) (Some i) u = absurd (cc)

no_path_at : (told : Told) (named : Bool) (port : ℕ) (o : Option EndPort) (path : PathRecord) → reply_of_owner told named port o ≡ Path path → ⊥
no_path_at told named port None path u = absurd (cc)
no_path_at told named port (Some e) path u = go named (goes_by e port) (e.port == 0) u
  where
    go : (n g z : Bool) → cond n (cond g (port_told told e port) (Refused NoRecords)) (cond z (Refused TooManyRecords) (port_told told e e.port)) ≡ Path path → ⊥
    go true true z w = no_port_path told e port path w
    go true false z w = absurd (cc)
    go false g true w = absurd (cc)
    go false g false w = no_port_path told e e.port path w

-- nor does a reply about another record
no_path : (told : Told) (attribute : ℕ) (request : List ℕ) (path : PathRecord) → record_reply told attribute request ≡ Path path → ⊥
no_path told attribute request path e =
    let mask = number_in component_mask request in
    let lid = number_in lid_data request in
    let port = number_in port_data request in
    let info = node_info_in (bytes_in attribute_data request) in
    let owner = owner_of told.plan.given lid in
    go (attribute == 0x0011) (attribute == 0x0012) (gives mask description_bit) (nat_lt most_of_mask mask) (gives mask end_port_lid_bit)
    (nodes_suited told mask lid info) (first_node told mask lid info) (gives mask port_num_bit) port owner e
  where
    go : (a b d m l : Bool) (count : ℕ) (first : Option NodeRecord) (named : Bool) (port : ℕ) (owner : Option EndPort)
        → cond a (cond d (Refused NotSupported) (only_node count first))
        (cond b (cond m (Refused NotSupported) (cond l (reply_of_owner told named port owner) (Refused InsufficientComponents))) (other_reply told attribute request)) ≡ Path path
        → ⊥
    go true b true m l count first named port owner u = absurd (cc)
    go true b false m l count first named port owner u = no_node_path count first path u
    go false true d true l count first named port owner u = absurd (cc)
    go false true d false true count first named port owner u = no_path_at told named port owner path u
    go false true d false false count first named port owner u = absurd (cc)
    go false false d m l count first named port owner u =
        absurd (true≢false (sym (other_of_group told attribute request) ∙ ap is_of_group u))

-- it is told for a request that asks for a path
asked_for : (told : Told) (request : List ℕ) (path : PathRecord) → reply_to told request ≡ Path path
    → path_reply told (number_in component_mask request) (path_record_in (bytes_in path_data request)) ≡ Path path
asked_for told request path e =
    get (number_in method request == 0x01) (number_in method request == 0x12) e
  where
    of_get : (b c : Bool) → cond b Info (cond c (path_reply told (number_in component_mask request) (path_record_in (bytes_in path_data request)))
        (record_reply told (number_in attribute_id request) request)) ≡ Path path
        → path_reply told (number_in component_mask request) (path_record_in (bytes_in path_data request)) ≡ Path path
    of_get false true u = u
    of_get true c u = absurd (cc)
    of_get false false u = absurd (no_path told (number_in attribute_id request) request path u)

    get : (a t : Bool) → cond a (reply_to_get told (number_in attribute_id request) request)
        (cond t (as_table (reply_to_get told (number_in attribute_id request) request)) (reply_to_change told request)) ≡ Path path
        → path_reply told (number_in component_mask request) (path_record_in (bytes_in path_data request)) ≡ Path path
    get true t u = of_get (number_in attribute_id request == 0x0001) (number_in attribute_id request == 0x0035) u
    get false true u =
        of_get (number_in attribute_id request == 0x0001) (number_in attribute_id request == 0x0035)
        (table_path (reply_to_get told (number_in attribute_id request) request) path u)
    get false false u = absurd (true≢false (sym (change_of_group told request) ∙ ap is_of_group u))

pub told_between : (told : Told) (request : List ℕ) (path : PathRecord) → reply_to told request ≡ Path path
    → Between told (number_in component_mask request) (path_record_in (bytes_in path_data request)) path
told_between told request path e =
    between told (number_in component_mask request) (path_record_in (bytes_in path_data request)) path (asked_for told request path e)

-- who is known is who was found
known_is : (x : EndPort × ℕ) (e : EndPort) (lid : ℕ) → Known x.0 x.1 ≡ Known e lid → ◌≡◌ {A = Option (EndPort × ℕ)} (Some x) (Some (e, lid))
known_is x e lid u =
    let port : x.0 ≡ e = cc in
    let number : x.1 ≡ lid = cc in
    λ i. Some (port i, number i)

both_own : (a b : Option (EndPort × ℕ)) (e : EndPort) (lid : ℕ) → both_ends a b ≡ Known e lid → b ≡ Some (e, lid)
both_own None b e lid u = absurd (cc)
both_own (Some x) None e lid u = absurd (cc)
both_own (Some x) (Some y) e lid u = go (x.0.node == y.0.node && x.0.port == y.0.port) u
  where
    go : (b : Bool) → cond b (Known y.0 y.1) Unknown ≡ Known e lid → ◌≡◌ {A = Option (EndPort × ℕ)} (Some y) (Some (e, lid))
    go true u = known_is y e lid u
    go false u = absurd (cc)

one_owns : (a : Option (EndPort × ℕ)) (e : EndPort) (lid : ℕ) → end_of a ≡ Known e lid → a ≡ Some (e, lid)
one_owns None e lid u = absurd (cc)
one_owns (Some x) e lid u = known_is x e lid u

-- the owner of a LID ----------------------------------------------------------------------------------

by_lid_owns : (told : Told) (lid : ℕ) (x : EndPort × ℕ) → end_by_lid told lid ≡ Some x → owner_of told.plan.given x.1 ≡ Some x.0
by_lid_owns told lid x e = go (owner_of told.plan.given lid) refl e
  where
    go : (o : Option EndPort) → owner_of told.plan.given lid ≡ o → option_map {U = EndPort × ℕ} (λ p. (p, lid)) o ≡ Some x → owner_of told.plan.given x.1 ≡ Some x.0
    go None o_is u = absurd (cc)
    go (Some p) o_is u =
        let same : (p, lid) ≡ x = same_Some (p, lid) x u in
        ap (owner_of told.plan.given) (ap (λ (y : EndPort × ℕ). y.1) (sym same)) ∙ o_is ∙ ap (λ (y : EndPort × ℕ). Some y.0) same

module _ (told : Told) (lmc : ℕ) (planned : Facts) (room : ¬ (IsNoRoom lmc (cells_of planned))) (given : told.plan.given ≡ lids lmc (cells_of planned)) where
  -- who is given a LID owns it
  given_owns : (x : EndPort × ℕ) → Contains (lids lmc (cells_of planned)).ports x → owner_of (lids lmc (cells_of planned)) x.1 ≡ Some x.0
  given_owns x h =
      let g = lids lmc (cells_of planned) in
      let some = ((lids_law lmc planned room).each_fits x.0 x.1 h).not_0 in
      (owners_are_inverse lmc planned room x.0 x.1).1 (
        x.1,
        lid-from_given g (ports_apart lmc planned room) x.0 x.1 h,
        has_its_lid x.1 (lmc_of g x.0) some,
      )

  by_gid_owns : (prefix guid : ℕ) (x : EndPort × ℕ) → end_by_gid told prefix guid ≡ Some x → owner_of told.plan.given x.1 ≡ Some x.0
  by_gid_owns prefix guid x e =
      elim (prefix == link_local_prefix) as (λ b. cond b (end_by_guid told guid) None ≡ Some x → owner_of told.plan.given x.1 ≡ Some x.0) [
        | true ↦ λ u.
            let there = (found_there (has_guid told guid) told.plan.given.ports x u).0 in
            ap (λ g. owner_of g x.1) given ∙ given_owns x (subst (λ g. Contains g.ports x) given there)
        | false ↦ λ u. absurd (cc)
      ] e

  -- an end that is asked for owns the LID that is told
  pub asked_owns : (said : EndSaid) (e : EndPort) (lid : ℕ) → end_asked told said ≡ Known e lid → owner_of told.plan.given lid ≡ Some e
  asked_owns said e lid u = go said.by_gid said.by_lid u
    where
      go : (a b : Bool) → cond a (cond b (both_ends (end_by_gid told said.prefix said.guid) (end_by_lid told said.lid)) (end_of (end_by_gid told said.prefix said.guid)))
          (cond b (end_of (end_by_lid told said.lid)) Nobody) ≡ Known e lid → owner_of told.plan.given lid ≡ Some e
      go true true w =
          by_lid_owns told said.lid (e, lid) (both_own (end_by_gid told said.prefix said.guid) (end_by_lid told said.lid) e lid w)
      go true false w = by_gid_owns said.prefix said.guid (e, lid) (one_owns (end_by_gid told said.prefix said.guid) e lid w)
      go false true w = by_lid_owns told said.lid (e, lid) (one_owns (end_by_lid told said.lid) e lid w)
      go false false w = absurd (cc)
