-- The fabric of a topology: as its nodes are before any cable, and as its links are put in one after the other.
use Rattle.std.proofs.Common.{◌≡◌, ◌≢◌, ℕ, zero, suc, ◌+◌, ◌-◌, ◌^◌, ◌<◌, ◌≤◌, inl, inr, Bool, true, false, List, [], ◌∷◌, ◌++◌, length, get_or, take, replicate, refl, arith, ap, sym, ◌∙◌, subst}
use Rattle.std.specs.Prelude.{Option, Some, None, option_map, is_none, All, map, slice_get, nat_le, if◌then◌else◌}
use Rattle.std.specs.Option.{option_map_or}
use Rattle.std.proofs.lemmas.Bool.{and_parts, and_from, leb-true, le-leb, cond-true, cond-false}
use Rattle.std.proofs.lemmas.Option.{slice_get-map, slice_get_within, slice_get_read, get_or_from_slice_get}
use Rattle.std.proofs.lemmas.List.{length-map, length-append, length-replicate, length-take-le, get_or-take, take_more, take_all, length_push, map-append}
use Rattle.std.proofs.lemmas.List.Elements.{All-map, All-weaker}
use Rattle.smp_bytes.specs.declared.node_type.NodeType.{NodeType}
use Rattle.smp_bytes.specs.declared.node_type.NodeType.TheVariants.{ChannelAdapter, Switch, Router}
use Rattle.smp_bytes.specs.NodeType as types
use Rattle.fabric_model.specs.declared.cable.NodePort.{NodePort}
use Rattle.fabric_model.specs.declared.cable.Cable.{Cable}
use Rattle.fabric_model.specs.Cables.{is_same_port, other_end}
use Rattle.fabric_model.proofs.Cabled.{same_port-is, same_port-refl}
use Rattle.attr_codec.specs.declared.port_state.PortState.TheVariants.{Down}
use Rattle.topo_file.specs.declared.node.Node.{Node}
use Rattle.topo_file.specs.Topology.{Layout, IsTopology, IsNode, IsOfKind, IsPortIn, IsLinkIn, AreApart}
use Rattle.node_agents.specs.Agent.{Agent, IsAgent, IsAgentNode, fresh_agent, has_seat, state_at, port_in}
use Rattle.node_agents.proofs.Made.{agents_are_made}
use Rattle.fabric_sim.specs.Simulation.{Simulation, IsSimulation, across, has_cable_port}
use Rattle.fabric_sim.specs.Changes.{cabled_at}
use Rattle.fabric_sim.specs.Traps.{no_traps}
use Rattle.fabric_sim.specs.Build.{agent_node, new_agent, no_peers, uncabled, cabled}
use Rattle.fabric_sim.proofs.AgentLists.{cable_ports_stay}
use Rattle.fabric_sim.proofs.PeerLists.{same_or_apart}
use Rattle.fabric_sim.proofs.Recabled.{Ends, joined_ends, across_q, across_p, across_other, keeps_both, joined_is}

-- one node -----------------------------------------------------------------------------

of_kind : (kind : NodeType) (ports guid cap : ℕ) → IsOfKind kind ports guid cap → (cap ≤ 49152) × (types.is_switch kind ≡ false → cap ≡ 0)
    × (types.is_switch kind ≡ false → guid + ports < 2 ^ 64)
of_kind Switch ports guid cap h = (h.1, λ e. cc, λ e. cc)
of_kind ChannelAdapter ports guid cap h = (let n = h.0 in omega arith, λ e. h.0, λ e. h.1)
of_kind Router ports guid cap h = absurd h

pub is_agent_node : (node : Node) → IsNode node → IsAgentNode (agent_node node)
is_agent_node node is =
    let kinds = of_kind node.kind node.ports node.guid node.cap is.of_kind in
    record { guid = is.guid_range; ports = (is.some_ports, is.port_range); cap = kinds.0; no_table = kinds.1; port_guids = kinds.2 }

pub name_long : (node : Node) → IsNode node → length node.name ≤ 64
name_long node is = leb-true _ _ (and_parts _ _ (and_parts _ _ is.named).0).1

described : (node : Node) → IsNode node → length (agent_node node).description ≡ 64
described node is =
    let n = name_long node is in
    length-append node.name (replicate (64 - length node.name) 0) ∙ (ap (λ k. length node.name + k) (length-replicate (64 - length node.name) 0) ∙ omega arith)

pub new_agent_is : (node : Node) → IsNode node → IsAgent (new_agent node)
new_agent_is node is = agents_are_made.fresh (agent_node node) (is_agent_node node is) (described node is)

pub node_of_new : (node : Node) → (new_agent node).node ≡ agent_node node
unfolding fresh_agent
node_of_new node = refl

-- the same element anywhere
all-same : {X : Type 0} (n i : ℕ) (x : X) → get_or (replicate n x) i x ≡ x
all-same zero i x = refl
all-same (suc n) zero x = refl
all-same (suc n) (suc i) x = all-same n i x

nobody : (node : Node) (port : ℕ) → has_seat (new_agent node) port ≡ false
unfolding fresh_agent
nobody node zero = refl
nobody node (suc port) = ap (λ p. p.is_sm) (all-same node.ports port (port_in Down))

is_down : (node : Node) (port : ℕ) → 1 ≤ port → state_at (new_agent node) port ≡ Down
unfolding fresh_agent
is_down node zero h = absurd (omega arith)
is_down node (suc port) h = ap (λ p. p.state) (all-same node.ports port (port_in Down))

-- all of them ----------------------------------------------------------------------------

pub across_none : (nodes : List Node) (p : NodePort) → across (map no_peers nodes) p ≡ None
across_none nodes p = by nodes p.node
  where
    by : (nodes : List Node) (id : ℕ) → get_or (get_or (map no_peers nodes) id []) p.port None ≡ None
    by [] id = refl
    by (node ∷ nodes) zero = all-same (node.ports + 1) p.port None
    by (node ∷ nodes) (suc id) = by nodes id

-- the agent of an id is a node's
pub record OfNode (nodes : List Node) (id : ℕ) (a : Agent) : Type 0 where
  pub node : Node
  pub there : slice_get nodes id ≡ Some node
  pub agent : new_agent node ≡ a

of_node : (nodes : List Node) (id : ℕ) (a : Agent) → slice_get (map new_agent nodes) id ≡ Some a → OfNode nodes id a
of_node nodes id a e = by (slice_get nodes id) refl (sym (slice_get-map new_agent nodes id) ∙ e)
  where
    by : (m : Option Node) → slice_get nodes id ≡ m → option_map new_agent m ≡ Some a → OfNode nodes id a
    by None f h = cc
    by (Some node) f h = record { node = node; there = f; agent = cc }

list-at : (nodes : List Node) (id : ℕ) (node : Node) → slice_get nodes id ≡ Some node → length (get_or (map no_peers nodes) id []) ≡ node.ports + 1
list-at [] id node e = cc
list-at (x ∷ xs) zero node e = let same : x ≡ node = cc in length-replicate (x.ports + 1) None ∙ ap (λ n. n.ports + 1) same
list-at (x ∷ xs) (suc id) node e = list-at xs id node e

pub uncabled_is : (nodes : List Node) (first : ℕ) → length nodes ≤ 1024 → All IsNode nodes → first < 2 ^ 64 → IsSimulation (uncabled nodes first)
uncabled_is nodes first few all fits =
    record {
      few = subst (λ n. n ≤ 1024) (sym (length-map nodes new_agent)) few;
      agents = All-map IsAgent new_agent nodes (All-weaker IsNode (λ node. IsAgent (new_agent node)) new_agent_is nodes all);
      seats = λ p h. nobody-sits p h;
      cables = record {
        lists = length-map nodes no_peers ∙ sym (length-map nodes new_agent);
        fit = λ id a e. let of = of_node nodes id a e in
            list-at nodes id of.node of.there ∙ (sym (ap (λ n. n.ports + 1) (node_of_new of.node)) ∙ ap (λ a. a.node.ports + 1) of.agent);
        ends = λ p q e. let none = across_none nodes p in cc;
        lead_back = λ p q e. let none = across_none nodes p in cc;
        down = λ p a e port. let of = of_node nodes p.node a e in
            (λ h. across_none nodes p, λ h. sym (ap (λ a. state_at a p.port) of.agent) ∙ is_down of.node p.port (leb-true _ _ (and_parts _ _ port).0));
      };
      waiting = λ k d h. absurd (omega arith);
      rising = λ i j d h k. absurd (omega arith);
      next = omega arith;
    }
  where
    sits : (p : NodePort) (m : Option Agent) → slice_get (map new_agent nodes) p.node ≡ m → option_map_or (λ a. has_seat a p.port) m false ≡ true → ⊥
    sits p None e h = cc
    sits p (Some a) e h = let of = of_node nodes p.node a e in let no : has_seat a p.port ≡ false =
        sym (ap (λ a. has_seat a p.port) of.agent) ∙ nobody of.node p.port in cc

    nobody-sits : (p : NodePort) → option_map_or (λ a. has_seat a p.port) (slice_get (map new_agent nodes) p.node) false ≡ true
        → has_cable_port (map new_agent nodes) p ≡ true
    nobody-sits p h = absurd (sits p (slice_get (map new_agent nodes) p.node) refl h)

-- a port of a link is a cable port
pub link_port : (nodes : List Node) (p : NodePort) → IsPortIn nodes p → has_cable_port (map new_agent nodes) p ≡ true
link_port nodes p is =
    let at : slice_get (map new_agent nodes) p.node ≡ Some (new_agent is.node) = slice_get-map new_agent nodes p.node ∙ ap (option_map new_agent) is.there in
    let ports : (new_agent is.node).node.ports ≡ is.node.ports = ap (λ n. n.ports) (node_of_new is.node) in
    let some = is.some in let within = is.within in
    and_from _ _ (le-leb _ _ is.some) (ap (λ m. nat_le p.port (option_map_or (λ a. a.node.ports) m 0)) at ∙ le-leb _ _ (omega arith))

-- one link more ---------------------------------------------------------------------------

pub cabled-append : (links : List Cable) (link : Cable) (s : Simulation) → cabled (links ++ link ∷ []) s ≡ cabled_at (cabled links s) link.one link.other
cabled-append [] link s = refl
cabled-append (l ∷ links) link s = cabled-append links link (cabled_at s l.one l.other)

-- no link is in a port from which each is apart
pub free : (links : List Cable) (p : NodePort) → All (λ l. (l.one ≢ p) × (l.other ≢ p)) links → other_end links p ≡ None
free [] p apart = refl
free (l ∷ links) p apart =
    let h = apart 0 l (omega arith) in
    cond-false _ _ _ (not-port l.one p h.0) ∙ (cond-false _ _ _ (not-port l.other p h.1) ∙ free links p (λ k d n. apart (suc k) d (omega arith)))
  where
    not-port : (q p : NodePort) → q ≢ p → is_same_port q p ≡ false
    not-port q p ne = by (is_same_port q p) refl
      where
        by : (b : Bool) → is_same_port q p ≡ b → b ≡ false
        by true e = absurd (ne (same_port-is q p e))
        by false e = refl

-- with one more the earlier ones come first
pub other_end-append : (links : List Cable) (link : Cable) (p : NodePort) (m : Option NodePort) → other_end links p ≡ m → other_end (links ++ link ∷ []) p
    ≡ (if is_none m then other_end (link ∷ []) p else m)
other_end-append [] link p m e = subst (λ m. other_end (link ∷ []) p ≡ (if is_none m then other_end (link ∷ []) p else m)) e refl
other_end-append (l ∷ links) link p m e = by (λ m e. other_end-append links link p m e) (is_same_port l.one p) refl (is_same_port l.other p) refl e
  where
    by : ((m : Option NodePort) → other_end links p ≡ m → other_end (links ++ link ∷ []) p ≡ (if is_none m then other_end (link ∷ []) p else m))
        → (b : Bool) → is_same_port l.one p ≡ b → (c : Bool) → is_same_port l.other p ≡ c
        → (if b then Some l.other else if c then Some l.one else other_end links p) ≡ m
        → (if is_same_port l.one p then Some l.other else if is_same_port l.other p then Some l.one else other_end (links ++ link ∷ []) p)
        ≡ (if is_none m then other_end (link ∷ []) p else m)
    by rest true f c g h = cond-true _ _ _ f ∙ subst (λ m. Some l.other ≡ (if is_none m then other_end (link ∷ []) p else m)) h refl
    by rest false f true g h = cond-false _ _ _ f ∙ (cond-true _ _ _ g ∙ subst (λ m. Some l.one ≡ (if is_none m then other_end (link ∷ []) p else m)) h refl)
    by rest false f false g h = cond-false _ _ _ f ∙ (cond-false _ _ _ g ∙ rest m h)

not_port : (q p : NodePort) → q ≢ p → is_same_port q p ≡ false
not_port q p ne = by (is_same_port q p) refl
  where
    by : (b : Bool) → is_same_port q p ≡ b → b ≡ false
    by true e = absurd (ne (same_port-is q p e))
    by false e = refl

keep : (m : Option NodePort) → (if is_none m then None else m) ≡ m
keep None = refl
keep (Some q) = refl

-- the cables with a link more
pub link_added : (links : List Cable) (link : Cable) (s : Simulation) → IsSimulation s → has_cable_port s.agents link.one ≡ true
    → has_cable_port s.agents link.other ≡ true
    → other_end links link.one ≡ None → other_end links link.other ≡ None
    → ((r : NodePort) → across s.peers r ≡ other_end links r) → (r : NodePort) → across (cabled_at s link.one link.other).peers r
    ≡ other_end (links ++ link ∷ []) r
unfolding cabled_at
link_added links link s is hp hq free_p free_q cables r =
    let p : NodePort = link.one in
    let q : NodePort = link.other in
    let ends : Ends s p q true (Some q) (Some p) = joined_ends s p q hp hq in
    elim (same_or_apart p r) [
      | inl e ↦ subst (λ r. across (cabled_at s p q).peers r ≡ other_end (links ++ link ∷ []) r) e
          (across_p s is p q true (Some q) (Some p) ends
          ∙ sym (other_end-append links link p None free_p ∙ cond-true _ _ _ (same_port-refl p)))
      | inr np ↦ elim (same_or_apart q r) [
        | inl e ↦ subst (λ r. p ≢ r → across (cabled_at s p q).peers r ≡ other_end (links ++ link ∷ []) r) e
            (λ np. across_q s is p q true (Some q) (Some p) ends
            ∙ sym (other_end-append links link q None free_q ∙ (cond-false _ _ _ (not_port p q np) ∙ cond-true _ _ _ (same_port-refl q)))) np
        | inr nq ↦ across_other s is p q true (Some q) (Some p) ends r np nq
            ∙ (cables r ∙ sym (other_end-append links link r (other_end links r) refl
            ∙ (ap (λ none. if is_none (other_end links r) then none else other_end links r) (cond-false _ _ _ (not_port p r np)
            ∙ cond-false _ _ _ (not_port q r nq)) ∙ keep (other_end links r))))
      ]
    ]

-- the ports into which a cable can go stay
pub joined_ports : (s : Simulation) (p q : NodePort) → IsSimulation s → has_cable_port s.agents p ≡ true → has_cable_port s.agents q ≡ true → (r : NodePort)
    → has_cable_port (cabled_at s p q).agents r ≡ has_cable_port s.agents r
unfolding cabled_at
joined_ports s p q is hp hq r = cable_ports_stay s.agents _ (keeps_both s is p q true (Some q) (Some p) (joined_ends s p q hp hq)) r

-- a link of a topology is in ports that no earlier one is in
pub record NextLink (t : Layout) (i : ℕ) (link : Cable) : Type 0 where
  pub link_in : IsLinkIn t.nodes link
  pub one_free : other_end (take i t.links) link.one ≡ None
  pub other_free : other_end (take i t.links) link.other ≡ None
  pub more : take (i + 1) t.links ≡ take i t.links ++ link ∷ []

pub next_link : (t : Layout) (i : ℕ) (link : Cable) → IsTopology t → slice_get t.links i ≡ Some link → NextLink t i link
next_link t i link is at =
    let within : i < length t.links = slice_get_within t.links i link at in
    let here : get_or t.links i link ≡ link = get_or_from_slice_get t.links i link link at in
    let apart : (k : ℕ) (d : Cable) → k < length (take i t.links) → AreApart (get_or (take i t.links) k d) link = λ k d h.
    let n : length (take i t.links) ≡ i = length-take-le i t.links (omega arith) in
    let below : k < i = omega arith in
    let long : k < length t.links = omega arith in
    subst (λ x. AreApart x link) (sym (get_or-take i t.links k d below))
    (subst (λ y. AreApart (get_or t.links k d) y) (get_or_from_slice_get t.links i link d at) (is.apart k i d below within)) in
    record {
      link_in = subst (IsLinkIn t.nodes) here (is.links i link within);
      one_free = free (take i t.links) link.one (λ k d h. ((apart k d h).one_one, (apart k d h).other_one));
      other_free = free (take i t.links) link.other (λ k d h. ((apart k d h).one_other, (apart k d h).other_other));
      more = take_more t.links i link within ∙ ap (λ x. take i t.links ++ x ∷ []) here;
    }

-- a link of a walk over the links
pub link_at : (t : Layout) (links : List Cable) (i : ℕ) (link : Cable) → links ≡ t.links → i < length links → link ≡ get_or links i link → Some link
    ≡ slice_get t.links i
link_at t links i link same within is = sym (ap (λ ls. slice_get ls i) (sym same) ∙ slice_get_read links (length links) i link refl within is)

-- the links so far are in
pub record LinksIn (t : Layout) (first i : ℕ) (s : Simulation) : Type 0 where
  pub topology : IsTopology t
  pub within : i ≤ length t.links
  pub valid : IsSimulation s
  pub built : s ≡ cabled (take i t.links) (uncabled t.nodes first)
  pub ports : (p : NodePort) → has_cable_port s.agents p ≡ has_cable_port (map new_agent t.nodes) p
  pub cables : (p : NodePort) → across s.peers p ≡ other_end (take i t.links) p

pub links_in_start : (t : Layout) (first : ℕ) (s : Simulation) → IsTopology t → first < 2 ^ 64 → s ≡ uncabled t.nodes first → LinksIn t first 0 s
links_in_start t first s is fits start =
    record {
      topology = is;
      within = omega arith;
      valid = subst IsSimulation (sym start) (uncabled_is t.nodes first is.few is.nodes fits);
      built = start;
      ports = λ p. ap (λ (s : Simulation). has_cable_port s.agents p) start;
      cables = λ p. ap (λ (s : Simulation). across s.peers p) start ∙ across_none t.nodes p;
    }

module _ (t : Layout) (first i : ℕ) (s : Simulation) (link : Cable) (so_far : LinksIn t first i s) (at : Some link ≡ slice_get t.links i) where
  next : NextLink t i link
  next = next_link t i link so_far.topology (sym at)

  pub one_port : has_cable_port s.agents link.one ≡ true
  one_port = so_far.ports link.one ∙ link_port t.nodes link.one next.link_in.one

  pub other_port : has_cable_port s.agents link.other ≡ true
  other_port = so_far.ports link.other ∙ link_port t.nodes link.other next.link_in.other

  pub one_free : across s.peers link.one ≡ None
  one_free = so_far.cables link.one ∙ next.one_free

  pub other_free : across s.peers link.other ≡ None
  other_free = so_far.cables link.other ∙ next.other_free

  pub one_left : i < length t.links
  one_left = slice_get_within t.links i link (sym at)

  pub links_in_more : (u : Simulation) → u ≡ cabled_at s link.one link.other → LinksIn t first (i + 1) u
  links_in_more u e =
      let left : i < length t.links = one_left in
      record {
        topology = so_far.topology;
        within = omega arith;
        valid = subst IsSimulation (sym e) (joined_is s link.one link.other so_far.valid one_port other_port one_free other_free);
        built = e ∙ (ap (λ w. cabled_at w link.one link.other) so_far.built
            ∙ (sym (cabled-append (take i t.links) link (uncabled t.nodes first)) ∙ ap (λ ls. cabled ls (uncabled t.nodes first)) (sym next.more)));
        ports = λ p. ap (λ (w : Simulation). has_cable_port w.agents p) e
            ∙ (joined_ports s link.one link.other so_far.valid one_port other_port p ∙ so_far.ports p);
        cables = λ p. ap (λ (w : Simulation). across w.peers p) e
            ∙ (link_added (take i t.links) link s so_far.valid one_port other_port next.one_free next.other_free so_far.cables p
            ∙ ap (λ ls. other_end ls p) (sym next.more));
      }

-- the nodes so far have their agents and their lists
pub record NodesIn (t : Layout) (agents : List Agent) (peers : List (List (Option NodePort))) : Type 0 where
  pub topology : IsTopology t
  pub within : length agents ≤ length t.nodes
  pub made : agents ≡ map new_agent (take (length agents) t.nodes)
  pub listed : peers ≡ map no_peers (take (length agents) t.nodes)

pub nodes_in_more : (t : Layout) (agents now : List Agent) (peers listed : List (List (Option NodePort))) (node : Node) (agent : Agent)
    (row : List (Option NodePort)) → NodesIn t agents peers
    → slice_get t.nodes (length agents) ≡ Some node → agent ≡ new_agent node → row ≡ no_peers node → now ≡ agents ++ agent ∷ [] → listed ≡ peers ++ row ∷ []
    → NodesIn t now listed
nodes_in_more t agents now peers listed node agent row so_far at is_agent is_row more_agents more_peers =
    let within : length agents < length t.nodes = slice_get_within t.nodes (length agents) node at in
    let count : length now ≡ length agents + 1 = ap length more_agents ∙ length_push agents agent in
    let here : get_or t.nodes (length agents) node ≡ node = get_or_from_slice_get t.nodes (length agents) node node at in
    let taken : take (length now) t.nodes ≡ take (length agents) t.nodes ++ node ∷ [] =
    ap (λ n. take n t.nodes) count ∙ (take_more t.nodes (length agents) node within ∙ ap (λ x. take (length agents) t.nodes ++ x ∷ []) here) in
    record {
      topology = so_far.topology;
      within = omega arith;
      made = more_agents ∙ (ap (λ xs. xs ++ agent ∷ []) so_far.made ∙ (ap (λ x. map new_agent (take (length agents) t.nodes) ++ x ∷ []) is_agent
          ∙ sym (ap (map new_agent) taken ∙ map-append new_agent (take (length agents) t.nodes) (node ∷ []))));
      listed = more_peers ∙ (ap (λ xs. xs ++ row ∷ []) so_far.listed ∙ (ap (λ x. map no_peers (take (length agents) t.nodes) ++ x ∷ []) is_row
          ∙ sym (ap (map no_peers) taken ∙ map-append no_peers (take (length agents) t.nodes) (node ∷ []))));
    }

-- all nodes are in
pub all_nodes : (t : Layout) (agents : List Agent) (peers : List (List (Option NodePort))) (first : ℕ) → NodesIn t agents peers
    → slice_get t.nodes (length agents) ≡ None
    → ◌≡◌ {A = Simulation} (record { agents = agents; peers = peers; flights = []; next = first; traps = no_traps }) (uncabled t.nodes first)
all_nodes t agents peers first so_far none =
    let past : length t.nodes ≤ length agents = by t.nodes (length agents) none in
    let all : take (length agents) t.nodes ≡ t.nodes = take_all (length agents) t.nodes past in
    ap (λ xs. record { agents = xs; peers = peers; flights = []; next = first; traps = no_traps }) (so_far.made ∙ ap (map new_agent) all)
    ∙ ap (λ xs. record { agents = map new_agent t.nodes; peers = xs; flights = []; next = first; traps = no_traps }) (so_far.listed ∙ ap (map no_peers) all)
  where
    by : (nodes : List Node) (i : ℕ) → slice_get nodes i ≡ None → length nodes ≤ i
    by [] i e = omega arith
    by (x ∷ xs) zero e = cc
    by (x ∷ xs) (suc i) e = let h = by xs i e in omega arith

pub all_nodes_are : (t : Layout) (agents : List Agent) (peers : List (List (Option NodePort))) (first : ℕ) → NodesIn t agents peers
    → slice_get t.nodes (length agents) ≡ None → first < 2 ^ 64
    → IsSimulation (record { agents = agents; peers = peers; flights = []; next = first; traps = no_traps })
all_nodes_are t agents peers first so_far none fits =
    subst IsSimulation (sym (all_nodes t agents peers first so_far none)) (uncabled_is t.nodes first so_far.topology.few so_far.topology.nodes fits)
