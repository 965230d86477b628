-- A path that is told is held.
use Rattle.std.proofs.Common.{◌≡◌, ◌≤◌, ℕ, true, false, List, refl, sym, ap, ◌∙◌, subst, Some}
use Rattle.std.proofs.lemmas.Option.{same_Some}
use Rattle.fabric_model.specs.declared.cable.NodePort.{NodePort}
use Rattle.fabric_model.specs.Fabric.{Fabric, IsEndPort, is_switch_at}
use Rattle.fabric_model.specs.FabricWalks.{IsJoinedTo, vertex_of}
use Rattle.fabric_model.proofs.FabricWalks.{adapter_vertex, port_at, same_port, switch_number, switch_vertex}
use Rattle.fact_store.specs.View.{Facts, cells_of}
use Rattle.subnet_view.specs.declared.end_port.EndPort.{EndPort}
use Rattle.subnet_view.specs.FabricAgreement.{HasEndPort}
use Rattle.lid_assign.specs.Lids.{IsNoRoom, lids, owner_of}
use Rattle.lid_assign.proofs.LidLaws.{lids_law}
use Rattle.lid_assign.proofs.Owners.{owners_are_inverse}
use Rattle.lft_blocks.specs.InForce.{IsInForceWithin}
use Rattle.lft_blocks.specs.Plan.{PlanValue, plan_of}
use Rattle.lft_blocks.specs.Rule.{RuleValue}
use Rattle.lft_blocks.proofs.HeldEntries.{owned_from_one}
use Rattle.packet_walks.proofs.Told.{joined_closed}
use Rattle.sa_bytes.specs.declared.path_record.PathRecord.{PathRecord}
use Rattle.sa_answers.specs.PathLaws.{Carries, PathHeld, PathsToldAreHeld}
use Rattle.sa_answers.specs.Bound.{bound_at, lesser}
use Rattle.sa_answers.specs.Told.{Told}
use Rattle.sa_answers.specs.PathReply.{source_said, target_said}
use Rattle.sa_answers.specs.Way.{Wire, bound_of_way, least_of, most_steps, ports_of}
use Rattle.sa_answers.specs.declared.bound.Bound.{Bound}
use Rattle.sa_bytes.specs.PathRecord.{path_record_in}
use Rattle.sa_bytes.specs.SaPacket.{component_mask, path_data}
use Rattle.smp_bytes.specs.Field.{bytes_in, number_in}
use Rattle.sa_answers.proofs.Asked.{MadeOf, asked_owns, told_between}
use Rattle.sa_answers.proofs.HeldWays.{Here, OwnsIts, arrives}
use Rattle.sa_answers.proofs.Least.{least_of_both}
use Rattle.sa_answers.proofs.Ways.{found}

-- an end port is its own vertex
end_vertex : (f : Fabric) (p : NodePort) → IsEndPort f p → vertex_of f p ≡ p
end_vertex f p is_end =
    elim (is_switch_at f p.node) as (λ t. is_switch_at f p.node ≡ t → vertex_of f p ≡ p) [
      | true ↦ λ s. switch_vertex f p s ∙ same_port (port_at p.node 0) p refl (sym (switch_number f p is_end s))
      | false ↦ λ s. adapter_vertex f p s
    ] refl

-- a packet that an end port of the part sends is at a port of the part
pub begins : (told : Told) (f : Fabric) (origin : NodePort) (force : IsInForceWithin (IsJoinedTo f origin) told.cells told.plan f)
    (inverse : OwnsIts told.plan.given) (lid : ℕ) (owner : EndPort) (owned : owner_of told.plan.given lid ≡ Some owner) (some : 1 ≤ lid)
    (e : EndPort) (start : HasEndPort (IsJoinedTo f origin) f e.node e.port)
    → Here told f (IsJoinedTo f origin) force.is_fabric (joined_closed f force.is_fabric origin) force.covers force.holds inverse lid owner owned some start.port
    (e.node, e.port)
begins told f origin force inverse lid owner owned some e start =
    let vertex = end_vertex f start.port start.end_port in
    record {
      node = start.named.node;
      there = start.named.node_there;
      guid = start.named.guid_is;
      number = start.named.port_is;
      end = subst (IsEndPort f) (sym vertex) start.end_port;
      within = subst (IsJoinedTo f origin) (sym vertex) start.in_part;
    }

-- the ways there and back
record BothWays (told : Told) (f : Fabric) (source target : EndPort) (slid dlid : ℕ) (one other : Bound) : Type 0 where
  there : List Wire
  back : List Wire
  arrives : Carries f dlid source target there
  returns : Carries f slid target source back
  there_least : one ≡ least_of told (lesser (bound_at told (source.node, source.port)) (bound_at told (target.node, target.port))) (ports_of there)
  back_least : other ≡ least_of told (lesser (bound_at told (target.node, target.port)) (bound_at told (source.node, source.port))) (ports_of back)

both_ways : (told : Told) (f : Fabric) (origin : NodePort) → IsInForceWithin (IsJoinedTo f origin) told.cells told.plan f → OwnsIts told.plan.given
    → (source target : EndPort) (slid dlid : ℕ) → owner_of told.plan.given slid ≡ Some source → owner_of told.plan.given dlid ≡ Some target → 1 ≤ slid → 1 ≤ dlid
    → HasEndPort (IsJoinedTo f origin) f source.node source.port → (one other : Bound)
    → bound_of_way told dlid target source ≡ Some one → bound_of_way told slid source target ≡ Some other
    → BothWays told f source target slid dlid one other
both_ways told f origin force inverse source target slid dlid s_owns t_owns s_some t_some start one other there_is back_is =
    let part = IsJoinedTo f origin in
    let closed = joined_closed f force.is_fabric origin in
    let s : ℕ × ℕ = (source.node, source.port) in
    let t : ℕ × ℕ = (target.node, target.port) in
    let begin = begins told f origin force inverse dlid target t_owns t_some source start in
    let way = found told dlid target (most_steps told) s false (lesser (bound_at told s) (bound_at told t)) one there_is in
    let go = arrives told f part force.is_fabric closed force.covers force.holds inverse dlid target t_owns t_some way.wires start.port s false begin way.goes in
    let turn : Here told f part force.is_fabric closed force.covers force.holds inverse slid source s_owns s_some go.target t = record {
      node = go.there.node;
      there = go.there.there;
      guid = go.there.guid;
      number = go.there.number;
      end = go.there.end;
      within = go.there.within;
    } in
    let way_back = found told slid source (most_steps told) t false (lesser (bound_at told t) (bound_at told s)) other back_is in
    let come = arrives told f part force.is_fabric closed force.covers force.holds inverse slid source s_owns s_some way_back.wires go.target t false turn way_back.goes in
    record {
      there = way.wires;
      back = way_back.wires;
      arrives = record {
        from = start.port;
        from_named = start.named;
        to = go.target;
        to_named = record { node = go.there.node; node_there = go.there.there; guid_is = go.there.guid; port_is = go.there.number };
        hops = go.hops;
        wires_are = go.wires_are;
        delivered = (go.end, go.goes, go.delivers);
      };
      returns = record {
        from = go.target;
        from_named = record { node = go.there.node; node_there = go.there.there; guid_is = go.there.guid; port_is = go.there.number };
        to = come.target;
        to_named = record { node = come.there.node; node_there = come.there.there; guid_is = come.there.guid; port_is = come.there.number };
        hops = come.hops;
        wires_are = come.wires_are;
        delivered = (come.end, come.goes, come.delivers);
      };
      there_least = way.least_is;
      back_least = way_back.least_is;
    }

-- a path that is held from one end port to another
pub record HeldBetween (told : Told) (f : Fabric) (source target : EndPort) (path : PathRecord) : Type 0 where
  pub held : PathHeld told f path
  pub from_source : held.source ≡ source
  pub to_target : held.target ≡ target

module _ (told : Told) (rule : RuleValue) (lmc : ℕ) (planned : Facts) (room : ¬ (IsNoRoom lmc (cells_of planned)))
    (plan_is : told.plan ≡ plan_of rule lmc (cells_of planned)) where
  pub given_is : told.plan.given ≡ lids lmc (cells_of planned)
  given_is = ap (λ (p : PlanValue). p.given) plan_is

  pub each_owns_its : OwnsIts told.plan.given
  each_owns_its = subst OwnsIts (sym given_is) (owners_are_inverse lmc planned room)

  pub owned_some : (lid : ℕ) (e : EndPort) → owner_of told.plan.given lid ≡ Some e → 1 ≤ lid
  owned_some lid e h = owned_from_one lmc (cells_of planned) (lids_law lmc planned room) lid e (ap (λ g. owner_of g lid) (sym given_is) ∙ h)

  -- a path that was made of two ways is held
  pub held_between : (f : Fabric) (origin : NodePort) → IsInForceWithin (IsJoinedTo f origin) told.cells told.plan f → (mask : ℕ) (asked : PathRecord)
      → (source : EndPort) (slid : ℕ) (target : EndPort) (dlid : ℕ) (path : PathRecord) → owner_of told.plan.given slid ≡ Some source
      → owner_of told.plan.given dlid ≡ Some target → HasEndPort (IsJoinedTo f origin) f source.node source.port
      → MadeOf told mask asked source slid target dlid path → HeldBetween told f source target path
  held_between f origin force mask asked source slid target dlid path s_owns t_owns start made =
      let slid_is : path.slid ≡ slid = ap (λ (p : PathRecord). p.slid) made.path_is in
      let dlid_is : path.dlid ≡ dlid = ap (λ (p : PathRecord). p.dlid) made.path_is in
      let ways =
      both_ways told f origin force each_owns_its source target slid dlid s_owns t_owns (owned_some slid source s_owns) (owned_some dlid target t_owns)
      start made.there made.back made.there_is made.back_is in
      record {
        held = record {
          source = source;
          target = target;
          sgid = made.sgid_is ∙ ap (λ (p : PathRecord). Some p.sgid_guid) (sym made.path_is);
          dgid = made.dgid_is ∙ ap (λ (p : PathRecord). Some p.dgid_guid) (sym made.path_is);
          there = ways.there;
          back = ways.back;
          arrives = subst (λ n. Carries f n source target ways.there) (sym dlid_is) ways.arrives;
          returns = subst (λ n. Carries f n target source ways.back) (sym slid_is) ways.returns;
          mtu = (lesser made.there made.back).mtu;
          rate = (lesser made.there made.back).rate;
          least_mtu = least_of_both told (λ x. x.mtu) (λ x y. refl) source target ways.there ways.back made.there made.back ways.there_least ways.back_least;
          least_rate = least_of_both told (λ x. x.rate) (λ x y. refl) source target ways.there ways.back made.there made.back ways.there_least ways.back_least;
          mtu_told = ap (λ (p : PathRecord). p.mtu) made.path_is;
          rate_told = ap (λ (p : PathRecord). p.rate) made.path_is;
        };
        from_source = refl;
        to_target = refl;
      }

pub paths_held : PathsToldAreHeld
paths_held told rule lmc planned room plan_is f origin is_origin force request path e source owned end =
    let given = given_is told rule lmc planned room plan_is in
    let mask = number_in component_mask request in
    let asked = path_record_in (bytes_in path_data request) in
    let b = told_between told request path e in
    let s_owns : owner_of told.plan.given b.slid ≡ Some b.source = asked_owns told lmc planned room given (source_said mask asked) b.source b.slid b.source_is in
    let t_owns : owner_of told.plan.given b.dlid ≡ Some b.target = asked_owns told lmc planned room given (target_said mask asked) b.target b.dlid b.target_is in
    let slid_is : path.slid ≡ b.slid = ap (λ (p : PathRecord). p.slid) b.made.path_is in
    let same : b.source ≡ source = same_Some b.source source (sym s_owns ∙ ap (owner_of told.plan.given) (sym slid_is) ∙ owned) in
    let start : HasEndPort (IsJoinedTo f origin) f b.source.node b.source.port = subst (λ (x : EndPort). HasEndPort (IsJoinedTo f origin) f x.node x.port) (sym same) end in
    (held_between told rule lmc planned room plan_is f origin force mask asked b.source b.slid b.target b.dlid path s_owns t_owns start b.made).held
