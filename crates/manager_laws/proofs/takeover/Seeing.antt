-- Views that know the same values tell one subnet; so do views that agree with one fabric.
use Rattle.std.proofs.Common.{◌≡◌, ℕ, refl, sym, ap, ◌∙◌, subst, Bool, true, false}
use Rattle.std.proofs.lemmas.Option.{same_Some}
use Rattle.std.specs.Prelude.{Some, IsSome, IsTrue, MatchBool, is_some, option_map}
use Rattle.std.specs.Option.{option_map_or}
use Rattle.smp_bytes.specs.declared.node_type.NodeType.{NodeType}
use Rattle.smp_bytes.specs.declared.node_type.NodeType.TheVariants.{Switch}
use Rattle.smp_bytes.specs.NodeType.{is_switch}
use Rattle.fabric_model.specs.Fabric as fabric
use Rattle.fabric_model.specs.Fabric.{Fabric, range_at}
use Rattle.fabric_model.specs.declared.cable.NodePort.{NodePort}
use Rattle.fabric_model.specs.FabricWalks.{IsJoinedTo}
use Rattle.reply_facts.specs.declared.key.Key.{Key}
use Rattle.reply_facts.specs.declared.key.Key.TheVariants.{Node, PortGuid, Link, Port, Claim, Cap}
use Rattle.reply_facts.specs.Known.{kind_in, guid_in, peer_in, up_in, lid_in, count_in, known_in, node_of, port_guid_of, link_of, cap_of, claim_of}
use Rattle.fact_store.specs.View.{Facts, cells_of}
use Rattle.subnet_view.specs.Reading.{Cells, is_up, port_count_of, IsUsable}
use Rattle.subnet_view.specs.EndPort.{IsEndPort}
use Rattle.subnet_view.specs.Wires.{CanHaveWire, IsWire}
use Rattle.subnet_view.specs.FabricAgreement.{Part, WholeFabric, IsEndPortIn, HasEndPort, TellsEndPort, AgreesOn}
use Rattle.subnet_view.specs.declared.end_port.EndPort.{EndPort}
use Rattle.subnet_view.proofs.Apart.{contains_map}
use Rattle.subnet_view.proofs.BesideClaims.{is_claim}
use Rattle.subnet_view.proofs.EndPortList.{end_ports_law}
use Rattle.subnet_view.proofs.Members.{contains_in}
use Rattle.lid_assign.specs.Lids.{IsNoRoom, lids, lmc_of, range_of}
use Rattle.lft_blocks.specs.Plan.{plan_of}
use Rattle.lft_blocks.specs.Rule.{RuleValue}
use Rattle.lid_assign.specs.Stability.{ClaimLids}
use Rattle.lid_assign.proofs.LidLaws.{ports-lids}
use Rattle.lid_assign.proofs.Owners.{given-from_lid}
use Rattle.manager_laws.specs.OnePlan.{IsAlike, ClaimAlike, KnowAlikeButClaims, PlansReadKnownValues, KnownPlansStay, ClaimsAreTrue, SameClaimsGiveOnePlan, WhoSeesTheSamePlansTheSame, TrueClaimsGiveOnePlan, WhoSeesTheTruthPlansTheSame, HeldPlanIsPlanned, HeldPlansArePlanned}
use Rattle.manager_laws.proofs.Planned.{known_end}
use Rattle.manager_laws.proofs.takeover.Planning.{alike_views_plan_alike, claimed_plans_stay}

-- by what is known -------------------------------------------------------------------------------

module _ (x y : Cells) (same : KnowAlikeButClaims x y) where
  no_claim : (key : Key) → is_claim key ≡ false → known_in x key ≡ known_in y key
  no_claim key e = same key (λ g p q. let t : is_claim key ≡ true = ap is_claim q in absurd (cc))

  node_same : (g : ℕ) → node_of x g ≡ node_of y g
  node_same g = ap kind_in (no_claim (Node g) refl)

  guid_same : (g p : ℕ) → port_guid_of x g p ≡ port_guid_of y g p
  guid_same g p = ap guid_in (no_claim (PortGuid g p) refl)

  link_same : (g p : ℕ) → link_of x g p ≡ link_of y g p
  link_same g p = ap peer_in (no_claim (Link g p) refl)

  up_same : (g p : ℕ) → is_up x g p ≡ is_up y g p
  up_same g p = ap (λ o. option_map_or (λ up. up) (up_in o) false) (no_claim (Port g p) refl)

  cap_same : (g : ℕ) → cap_of x g ≡ cap_of y g
  cap_same g = ap count_in (no_claim (Cap g) refl)

  end_port_on : (g p : ℕ) → IsEndPort x g p → IsEndPort y g p
  end_port_on g p (kind, ports, is, number, known) = (kind, ports, sym (node_same g) ∙ is, number, sym (ap is_some (guid_same g p)) ∙ known)

  usable_on : (g : ℕ) → IsUsable x g → IsUsable y g
  usable_on g (ports, is, known) = (ports, sym (node_same g) ∙ is, sym (ap is_some (cap_same g)) ∙ known)

  can_on : (g p : ℕ) → CanHaveWire x g p → CanHaveWire y g p
  can_on g p (kind, ports, is, low, high, up, known) = (
    kind,
    ports,
    sym (node_same g) ∙ is,
    low,
    high,
    subst IsTrue (up_same g p) up,
    by_kind (is_switch kind) known,
  )
    where
      by_kind : (b : Bool) → MatchBool b (IsSome (cap_of x g)) (IsSome (port_guid_of x g p)) → MatchBool b (IsSome (cap_of y g)) (IsSome (port_guid_of y g p))
      by_kind true k = sym (ap is_some (cap_same g)) ∙ k
      by_kind false k = sym (ap is_some (guid_same g p)) ∙ k

  wire_on : (g p h q : ℕ) → IsWire x g p h q → IsWire y g p h q
  wire_on g p h q w =
      record {
        different = w.different;
        first = can_on g p w.first;
        second = can_on h q w.second;
        named_there = sym (link_same g p) ∙ w.named_there;
        named_back = sym (link_same h q) ∙ w.named_back;
      }

back : (x y : Cells) → KnowAlikeButClaims x y → KnowAlikeButClaims y x
back x y same key none = sym (same key none)

known_alike : (x y : Cells) → KnowAlikeButClaims x y → IsAlike x y
known_alike x y same =
    let other = back x y same in
    record {
      end_ports = λ g p. (end_port_on x y same g p, end_port_on y x other g p);
      port_guids = λ g p is. guid_same x y same g p;
      switches = λ g. (usable_on x y same g, usable_on y x other g);
      counts = λ g is. ap (λ o. option_map_or (λ n. n.1) o 0) (node_same x y same g);
      caps = λ g is. cap_same x y same g;
      wires = λ g p h q. (wire_on x y same g p h q, wire_on y x other g p h q);
    }

pub plans_read_known_values : PlansReadKnownValues
plans_read_known_values rule lmc x y same =
    alike_views_plan_alike rule lmc x y (known_alike (cells_of x) (cells_of y) (λ key none. same key)) (λ g p is. ap lid_in (same (Claim g p)))

pub known_plans_stay : KnownPlansStay
known_plans_stay rule lmc x y has_room same claimed = claimed_plans_stay rule lmc x y has_room (known_alike (cells_of x) (cells_of y) same) claimed

-- by a fabric ------------------------------------------------------------------------------------

module _ (part : Part) (f : Fabric) (g p : ℕ) (has : HasEndPort part f g p) where
  abbrev pub inside : IsEndPortIn part f has.port has.named.node
  inside = record { node_there = has.named.node_there; end_port = has.end_port; in_part = has.in_part }

  -- what is so of the node and its port is so of these numbers
  pub named_so : (P : ℕ → ℕ → Type 0) → P has.named.node.guid has.port.port → P g p
  named_so P is = subst (λ n. P n p) has.named.guid_is (subst (P has.named.node.guid) has.named.port_is is)

  module _ (z : Cells) (a : AgreesOn part z f) where
    tells : TellsEndPort z has.named.node has.port.port
    tells = a.tells_end_ports has.port has.named.node inside

    pub is_end : IsEndPort z g p
    is_end = named_so (IsEndPort z) (known_end part f has.port has.named.node inside z tells)

    pub kind_told : node_of z g ≡ Some (has.named.node.kind, has.named.node.ports)
    kind_told = named_so (λ n q. node_of z n ≡ Some (has.named.node.kind, has.named.node.ports)) tells.kind

    pub guid_told : port_guid_of z g p ≡ Some (has.named.node.port_guid has.port.port)
    guid_told = named_so (λ n q. port_guid_of z n q ≡ Some (has.named.node.port_guid has.port.port)) tells.port_guid

    pub cap_told : is_switch has.named.node.kind ≡ true → cap_of z g ≡ Some has.named.node.cap
    cap_told switch = named_so (λ n q. cap_of z n ≡ Some has.named.node.cap) (tells.cap switch)

-- the kind of what is known to be a switch
switch_kind : (z : Cells) (g : ℕ) (kind : NodeType) (ports : ℕ) → node_of z g ≡ Some (kind, ports) → IsUsable z g → kind ≡ Switch
switch_kind z g kind ports told (n, is, known) = ap (λ (m : NodeType × ℕ). m.0) (same_Some _ _ (sym told ∙ is))

module _ (part : Part) (f : Fabric) (x y : Cells) (a : AgreesOn part x f) (b : AgreesOn part y f) where
  end_port_too : (g p : ℕ) → IsEndPort x g p → IsEndPort y g p
  end_port_too g p is = is_end part f g p (a.end_ports_exist g p is) y b

  usable_too : (g : ℕ) → IsUsable x g → IsUsable y g
  usable_too g is =
      let has = a.switches_exist g is in
      let kind = switch_kind x g has.named.node.kind has.named.node.ports (kind_told part f g 0 has x a) is in (
        has.named.node.ports,
        kind_told part f g 0 has y b ∙ ap (λ k. Some (k, has.named.node.ports)) kind,
        ap is_some (cap_told part f g 0 has y b (ap is_switch kind)),
      )

  port_guid_too : (g p : ℕ) → IsEndPort x g p → port_guid_of x g p ≡ port_guid_of y g p
  port_guid_too g p is = let has = a.end_ports_exist g p is in guid_told part f g p has x a ∙ sym (guid_told part f g p has y b)

  count_too : (g : ℕ) → IsUsable x g → port_count_of x g ≡ port_count_of y g
  count_too g is =
      let has = a.switches_exist g is in
      ap (λ o. option_map_or (λ n. n.1) o 0) (kind_told part f g 0 has x a ∙ sym (kind_told part f g 0 has y b))

  cap_too : (g : ℕ) → IsUsable x g → cap_of x g ≡ cap_of y g
  cap_too g is =
      let has = a.switches_exist g is in
      let switch = ap is_switch (switch_kind x g has.named.node.kind has.named.node.ports (kind_told part f g 0 has x a) is) in
      cap_told part f g 0 has x a switch ∙ sym (cap_told part f g 0 has y b switch)

  claim_too : ClaimsAreTrue part x f → ClaimsAreTrue part y f → ClaimAlike x y
  claim_too one other g p is =
      let has = a.end_ports_exist g p is in
      named_so part f g p has (λ n q. claim_of x n q ≡ claim_of y n q)
      (one has.port has.named.node (inside part f g p has) ∙ sym (other has.port has.named.node (inside part f g p has)))

pub agreeing_alike : (part : Part) (f : Fabric) (x y : Cells) → AgreesOn part x f → AgreesOn part y f → IsAlike x y
agreeing_alike part f x y a b =
    record {
      end_ports = λ g p. (end_port_too part f x y a b g p, end_port_too part f y x b a g p);
      port_guids = port_guid_too part f x y a b;
      switches = λ g. (usable_too part f x y a b g, usable_too part f y x b a g);
      counts = count_too part f x y a b;
      caps = cap_too part f x y a b;
      wires = λ g p h q. (λ w. (b.wires g p h q).1 ((a.wires g p h q).0 w), λ w. (a.wires g p h q).1 ((b.wires g p h q).0 w));
    }

same_claims : (part : Part) (f : Fabric) → SameClaimsGiveOnePlan part f
same_claims part f rule lmc x y a b claim = alike_views_plan_alike rule lmc x y (agreeing_alike part f (cells_of x) (cells_of y) a b) claim

pub who_sees_the_same_plans_the_same : WhoSeesTheSamePlansTheSame
who_sees_the_same_plans_the_same f = (same_claims WholeFabric f, λ origin. same_claims (IsJoinedTo f origin) f)

true_claims : (part : Part) (f : Fabric) → TrueClaimsGiveOnePlan part f
true_claims part f rule lmc x y a b one other =
    same_claims part f rule lmc x y a b (claim_too part f (cells_of x) (cells_of y) a b one other)

pub who_sees_the_truth_plans_the_same : WhoSeesTheTruthPlansTheSame
who_sees_the_truth_plans_the_same f = (true_claims WholeFabric f, λ origin. true_claims (IsJoinedTo f origin) f)

-- a plan whose LIDs are held is planned again
pub held_lids : (part : Part) (f : Fabric) (rule : RuleValue) (lmc : ℕ) (x y : Facts) → ¬ (IsNoRoom lmc (cells_of x)) → AgreesOn part (cells_of x) f
    → AgreesOn part (cells_of y) f
    → ((port : NodePort) (node : fabric.Node) → IsEndPortIn part f port node
    → range_of (lids lmc (cells_of x)) (record { node = node.guid; port = port.port }) ≡ Some (range_at f port))
    → ClaimsAreTrue part (cells_of y) f
    → ¬ (IsNoRoom lmc (cells_of y)) × (plan_of rule lmc (cells_of y) ≡ plan_of rule lmc (cells_of x))
held_lids part f rule lmc x y has_room a b holds claims =
    claimed_plans_stay rule lmc x y has_room (agreeing_alike part f (cells_of x) (cells_of y) a b) claimed
  where
    claimed : ClaimLids lmc (cells_of x) (cells_of y)
    claimed e lid q =
        let there = given-from_lid (lids lmc (cells_of x)) e lid q in
        let listed = contains_in e (ports-lids lmc (cells_of x) has_room) (contains_map (λ (g : EndPort × ℕ). g.0) (lids lmc (cells_of x)).ports (e, lid) there)
        in
        let has = a.end_ports_exist e.node e.port (((end_ports_law x).0 e).0 listed) in
        let held = holds has.port has.named.node (inside part f e.node e.port has) in
        let same : range_of (lids lmc (cells_of x)) e ≡ Some (range_at f has.port) =
        named_so part f e.node e.port has (λ n p. range_of (lids lmc (cells_of x)) (record { node = n; port = p }) ≡ Some (range_at f has.port)) held in
        let range : range_of (lids lmc (cells_of x)) e ≡ Some (lid, lmc_of (lids lmc (cells_of x)) e) =
        ap (option_map (λ l. (l, lmc_of (lids lmc (cells_of x)) e))) q in
        let pair = same_Some _ _ (sym same ∙ range) in
        named_so part f e.node e.port has (λ n p. claim_of (cells_of y) n p
        ≡ Some (f.base_lid has.port)) (claims has.port has.named.node (inside part f e.node e.port has))
        ∙ ap (λ (r : ℕ × ℕ). Some r.0) pair

-- so is one that is held
pub held_plan : (part : Part) (f : Fabric) → HeldPlanIsPlanned part f
held_plan part f rule lmc x y has_room a b holds claims = held_lids part f rule lmc x y has_room a b (λ port node is. (holds port node is).lids) claims

pub held_plans_are_planned : HeldPlansArePlanned
held_plans_are_planned f = (held_plan WholeFabric f, λ origin. held_plan (IsJoinedTo f origin) f)
