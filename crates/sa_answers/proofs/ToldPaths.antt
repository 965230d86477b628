-- A request for a path between two end ports of a part that holds the plan is answered with a path.
use Rattle.std.proofs.Common.{◌≡◌, ◌≢◌, ℕ, suc, Bool, true, false, cond, ◌==◌, ◌||◌, ◌&&◌, List, [], ◌∷◌, length, map, Option, None, Some, refl, sym, ap, ◌∙◌, subst, arith}
use Rattle.std.proofs.lemmas.Bool.{and_from, eq-eqb, eqb-true, true≢false}
use Rattle.std.proofs.lemmas.List.{length-map}
use Rattle.std.proofs.lemmas.Option.{same_Some}
use Rattle.std.specs.Prelude.{AllPairs, Contains, option_map}
use Rattle.smp_bytes.specs.Field.{number_in}
use Rattle.smp_bytes.specs.Packet.{attribute_id, method}
use Rattle.fabric_model.specs.FabricWalks.{IsJoinedTo}
use Rattle.fact_store.specs.View.{cells_of}
use Rattle.reply_facts.specs.Known.{port_guid_of}
use Rattle.subnet_view.specs.declared.end_port.EndPort.{EndPort}
use Rattle.subnet_view.specs.FabricAgreement.{HasEndPort}
use Rattle.subnet_view.specs.Reading.{switches}
use Rattle.subnet_view.proofs.Apart.{Apart, find_only, same_from_apart}
use Rattle.lid_assign.specs.Lids.{Given, lids, owner_of}
use Rattle.lid_assign.proofs.LidLaws.{ports_apart}
use Rattle.lid_assign.proofs.Owners.{given-from_owner, lid-from_given}
use Rattle.lid_assign.proofs.Rising.{no_more_than}
use Rattle.lft_blocks.specs.Arrival.{switches_met}
use Rattle.lft_blocks.specs.InForce.{HoldsPlan, IsInForceWithin}
use Rattle.lft_blocks.specs.Plan.{PlanValue, lid_routing, plan_by}
use Rattle.lft_blocks.proofs.Reached.{packets_arrive_where_covered}
use Rattle.lft_blocks.proofs.RulesRoute.{lids_are_routed}
use Rattle.packet_walks.proofs.Told.{joined_closed}
use Rattle.plan_steps.specs.Carried.{link_local_prefix}
use Rattle.sa_bytes.specs.Numbers.{class_port_info, path_record, sa_get, sa_get_table}
use Rattle.sa_bytes.specs.declared.path_record.PathRecord.{PathRecord}
use Rattle.sa_answers.specs.AnsweredRequests.{AsksForPath, NamesEnd, PathAsked, PathsAreTold, asked_in, mask_of}
use Rattle.sa_answers.specs.Bound.{bound_at, lesser}
use Rattle.sa_answers.specs.Ends.{both_ends, end_asked, end_by_gid, end_by_guid, end_by_lid, end_of, has_guid, is_guid}
use Rattle.sa_answers.specs.PathReply.{if_suited, life_of, path_between, path_of, path_or_none, path_reply, path_with, reply_between, source_said, suits_path, target_said}
use Rattle.sa_answers.specs.Reply.{as_table, other_reply, record_reply, reply_to, reply_to_change, reply_to_get}
use Rattle.sa_answers.specs.Told.{Told}
use Rattle.sa_answers.specs.Way.{bound_of_way, most_steps}
use Rattle.sa_answers.specs.declared.bound.Bound.{Bound}
use Rattle.sa_answers.specs.declared.ends.EndAsked.TheVariants.{Nobody, Unknown, Known}
use Rattle.sa_answers.specs.declared.ends.EndSaid.{EndSaid}
use Rattle.sa_answers.specs.declared.reply.Reply.TheVariants.{Refused, Info, Path}
use Rattle.sa_answers.specs.declared.reply.SaRefusal.TheVariants.{NoRecords, NotSupported}
use Rattle.sa_answers.proofs.ArrivedWays.{walked}
use Rattle.sa_answers.proofs.Asked.{MadeOf}
use Rattle.sa_answers.proofs.HeldPaths.{begins, each_owns_its, given_is, held_between, owned_some}
use Rattle.sa_answers.proofs.Ways.{followed_along}

-- no element of a list is a later one
apart-from_pairs : (xs : List ℕ) → AllPairs (λ a b. a ≢ b) xs → Apart xs
apart-from_pairs [] pairs = tt
apart-from_pairs (x ∷ xs) pairs = (
  λ c. pairs 0 (suc c.0) x (omega arith) (omega (arith, c.1)) (sym c.2),
  apart-from_pairs xs (λ i j d less within. pairs (suc i) (suc j) d (omega arith) (omega arith)),
)

guid-from_test : (guid : ℕ) (o : Option ℕ) → is_guid guid o ≡ true → o ≡ Some guid
guid-from_test guid None e = absurd (cc)
guid-from_test guid (Some known) e = ap (λ (n : ℕ). Some n) (eqb-true known guid e)

-- the ends that are asked for ------------------------------------------------------------------------------------

module _ (told : Told) (apart : Apart (map (λ (x : EndPort × ℕ). x.0) told.plan.given.ports)) (said : EndSaid) (e : EndPort) (lid : ℕ)
    (names : NamesEnd told said e lid) where
  -- who owns a LID has a first one
  abbrev first : ℕ
  first = (given-from_owner told.plan.given e lid names.owned).0

  listed : Contains told.plan.given.ports (e, first)
  listed = (given-from_owner told.plan.given e lid names.owned).1

  by_lid_is : said.by_lid ≡ true → end_by_lid told said.lid ≡ Some (e, lid)
  by_lid_is given = ap (end_by_lid told) (names.lid_given given) ∙ ap (option_map (λ (p : EndPort). (p, lid))) names.owned

  by_gid_is : said.by_gid ≡ true → end_by_gid told said.prefix said.guid ≡ Some (e, first)
  by_gid_is given =
      let (prefix, guid) = names.gid given in
      ap (λ t. cond t (end_by_guid told said.guid) None) (eq-eqb said.prefix link_local_prefix prefix)
      ∙ find_only (has_guid told said.guid) told.plan.given.ports (e, first) listed (ap (is_guid said.guid) guid.its ∙ eq-eqb said.guid said.guid refl)
      (λ y there test. same_from_apart (λ (x : EndPort × ℕ). x.0) told.plan.given.ports y (e, first) apart there listed
      (guid.no_others y there (guid-from_test said.guid (port_guid_of told.cells y.0.node y.0.port) test)))

  first_is : said.by_lid ≡ false → first ≡ lid
  first_is none = same_Some first lid (sym (lid-from_given told.plan.given apart e first listed) ∙ names.no_lid none)

  asked_is : end_asked told said ≡ Known e lid
  asked_is = go said.by_gid said.by_lid refl refl
    where
      go : (a b : Bool) → said.by_gid ≡ a → said.by_lid ≡ b
          → cond a (cond b (both_ends (end_by_gid told said.prefix said.guid) (end_by_lid told said.lid)) (end_of (end_by_gid told said.prefix said.guid)))
          (cond b (end_of (end_by_lid told said.lid)) Nobody)
          ≡ Known e lid
      go true true a b =
          let same : (e.node == e.node && e.port == e.port) ≡ true =
          and_from (e.node == e.node) (e.port == e.port) (eq-eqb e.node e.node refl) (eq-eqb e.port e.port refl) in
          (λ i. both_ends (by_gid_is a i) (by_lid_is b i)) ∙ ap (λ t. cond t (Known e lid) Unknown) same
      go true false a b = ap end_of (by_gid_is a) ∙ ap (Known e) (first_is b)
      go false true a b = ap end_of (by_lid_is b)
      go false false a b = absurd (true≢false (sym names.named ∙ (λ i. a i || b i)))

-- the reply ------------------------------------------------------------------------------------------------------

-- a path that was made is told if it suits
reply_made : (told : Told) (request : List ℕ) (source : EndPort) (slid : ℕ) (target : EndPort) (dlid : ℕ) → AsksForPath told request source slid target dlid
    → end_asked told (source_said (mask_of request) (asked_in request)) ≡ Known source slid
    → end_asked told (target_said (mask_of request) (asked_in request)) ≡ Known target dlid
    → (path : PathRecord) → MadeOf told (mask_of request) (asked_in request) source slid target dlid path
    → reply_to told request ≡ cond (suits_path (mask_of request) (asked_in request) path) (Path path) (Refused NoRecords)
reply_made told request source slid target dlid asks from to path made =
    let mask = mask_of request in
    let asked = asked_in request in
    let between : path_between told mask asked source slid target dlid ≡ if_suited mask asked path =
    (λ i. path_with mask asked source slid target dlid (made.sgid_is i) (made.dgid_is i) (made.there_is i) (made.back_is i))
    ∙ ap (if_suited mask asked) (sym made.path_is) in
    ap (λ t. cond t (reply_to_get told (number_in attribute_id request) request)
    (cond (number_in method request == sa_get_table) (as_table (reply_to_get told (number_in attribute_id request) request)) (reply_to_change told request))) (eq-eqb (number_in method request) sa_get asks.is_get)
    ∙ ap (λ t. cond t Info (cond (number_in attribute_id request == path_record) (path_reply told mask asked) (record_reply told (number_in attribute_id request) request)))
    (ap (λ n. n == class_port_info) asks.of_path)
    ∙ ap (λ t. cond t (path_reply told mask asked) (record_reply told (number_in attribute_id request) request)) (eq-eqb (number_in attribute_id request) path_record asks.of_path)
    ∙ (λ i. reply_between told mask asked (from i) (to i))
    ∙ ap path_or_none between
    ∙ chosen (suits_path mask asked path)
  where
    chosen : (b : Bool) → path_or_none (cond b (Some path) None) ≡ cond b (Path path) (Refused NoRecords)
    chosen true = refl
    chosen false = refl

-- the ways -------------------------------------------------------------------------------------------------------

module _ (a : PathAsked) where
  -- a packet is followed to its LID's owner
  way_found : (source owner : EndPort) (lid : ℕ) → HasEndPort (IsJoinedTo a.fabric a.origin) a.fabric source.node source.port
      → HasEndPort (IsJoinedTo a.fabric a.origin) a.fabric owner.node owner.port → owner_of a.told.plan.given lid ≡ Some owner
      → (bound : Bound) × (bound_of_way a.told lid owner source ≡ Some bound)
  way_found source owner lid start there owned =
      let part = IsJoinedTo a.fabric a.origin in
      let force = a.in_force in
      let cells = cells_of a.planned in
      let routing = lid_routing a.rule a.lmc cells (lids a.lmc cells) in
      let inverse = each_owns_its a.told a.rule a.lmc a.planned a.has_room a.plan_is in
      let some = owned_some a.told a.rule a.lmc a.planned a.has_room a.plan_is lid owner owned in
      let owns : owner_of (lids a.lmc cells) lid ≡ Some owner =
      ap (λ g. owner_of g lid) (sym (given_is a.told a.rule a.lmc a.planned a.has_room a.plan_is)) ∙ owned in
      let within : IsInForceWithin part cells (plan_by routing a.lmc cells) a.fabric =
      record { is_fabric = force.is_fabric; covers = a.covers; holds = subst (λ (p : PlanValue). HoldsPlan part p a.fabric) a.plan_is force.holds } in
      let arrival =
      packets_arrive_where_covered a.lmc a.planned routing (lids_are_routed a.rule a.lmc a.planned) a.has_room a.fabric a.origin a.is_origin within
      start.port start.end_port start.in_part lid owner owns there in
      let (end, goes, delivers) = arrival.delivered in
      let hops = arrival.hops in
      let apart = apart-from_pairs (switches_met a.fabric start.port hops) arrival.way.no_switch_twice in
      let begin = begins a.told a.fabric a.origin force inverse lid owner owned some source start in
      let s : ℕ × ℕ = (source.node, source.port) in
      let w =
      walked a.told a.fabric part force.is_fabric (joined_closed a.fabric force.is_fabric a.origin) force.covers force.holds inverse lid owner owned some
      a.rule a.lmc a.planned a.plan_is a.covers arrival.target arrival.is_owner hops start.port s false end begin goes delivers apart in
      let many : length a.told.plan.tables ≡ length (switches cells) = ap (λ (p : PlanValue). length p.tables) a.plan_is ∙ length-map (switches cells) _ in
      let few = no_more_than (switches_met a.fabric start.port hops) (switches cells) apart w.met in
      followed_along a.told lid owner w.wires (most_steps a.told) s false (lesser (bound_at a.told s) (bound_at a.told (owner.node, owner.port))) w.goes
      (omega (arith, w.as_many, w.few, few, many))

  guid_told : (e : EndPort) → HasEndPort (IsJoinedTo a.fabric a.origin) a.fabric e.node e.port
      → (guid : ℕ) × (port_guid_of a.told.cells e.node e.port ≡ Some guid)
  guid_told e h =
      let tells = a.in_force.covers.tells_end_ports h.port h.named.node
      (record { node_there = h.named.node_there; end_port = h.end_port; in_part = h.in_part }) in
      (h.named.node.port_guid h.port.port, (λ i. port_guid_of a.told.cells (sym h.named.guid_is i) (sym h.named.port_is i)) ∙ tells.port_guid)

pub paths_told : PathsAreTold
paths_told a =
    let mask = mask_of a.request in
    let asked = asked_in a.request in
    let given = given_is a.told a.rule a.lmc a.planned a.has_room a.plan_is in
    let apart : Apart (map (λ (x : EndPort × ℕ). x.0) a.told.plan.given.ports) =
    subst (λ (g : Given). Apart (map (λ (x : EndPort × ℕ). x.0) g.ports)) (sym given) (ports_apart a.lmc a.planned a.has_room) in
    let there = way_found a a.source a.target a.dlid a.from a.to a.asks.to.owned in
    let back = way_found a a.target a.source a.slid a.to a.from a.asks.from.owned in
    let sgid = guid_told a a.source a.from in
    let dgid = guid_told a a.target a.to in
    let path = path_of mask asked a.slid sgid.0 a.dlid dgid.0 (life_of a.source a.target) (lesser there.0 back.0) in
    let made : MadeOf a.told mask asked a.source a.slid a.target a.dlid path = record {
      sgid = sgid.0;
      dgid = dgid.0;
      there = there.0;
      back = back.0;
      sgid_is = sgid.1;
      dgid_is = dgid.1;
      there_is = there.1;
      back_is = back.1;
      path_is = refl;
    } in
    let its =
    held_between a.told a.rule a.lmc a.planned a.has_room a.plan_is a.fabric a.origin a.in_force mask asked a.source a.slid a.target a.dlid path
    a.asks.from.owned a.asks.to.owned a.from made in
    record {
      path = path;
      held = its.held;
      from_source = its.from_source;
      to_target = its.to_target;
      slid_is = refl;
      dlid_is = refl;
      life_is = refl;
      reply_is = reply_made a.told a.request a.source a.slid a.target a.dlid a.asks (asked_is a.told apart (source_said mask asked) a.source a.slid a.asks.from)
          (asked_is a.told apart (target_said mask asked) a.target a.dlid a.asks.to) path made;
    }
