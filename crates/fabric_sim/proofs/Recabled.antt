-- A fabric with a cable added or removed.
use Rattle.std.proofs.Common.{◌≡◌, ◌≢◌, ℕ, ◌+◌, ◌≤◌, ◌↔◌, inl, inr, Bool, true, false, List, [], length, get_or, refl, arith, ap, sym, ◌∙◌, subst}
use Rattle.std.specs.Prelude.{Option, Some, None, All, slice_get, slice_set}
use Rattle.std.specs.Option.{option_map_or}
use Rattle.std.proofs.lemmas.Bool.{cases_eq}
use Rattle.fabric_model.specs.declared.cable.NodePort.{NodePort}
use Rattle.attr_codec.specs.declared.port_state.PortState.{PortState}
use Rattle.attr_codec.specs.declared.port_state.PortState.TheVariants.{Down}
use Rattle.node_agents.specs.Agent.{Agent, IsAgent, state_at, after_set_wired}
use Rattle.fabric_sim.specs.Simulation.{Simulation, IsSimulation, HasPeerSlot, across, has_cable_port}
use Rattle.fabric_sim.specs.Delivery.{with_changed}
use Rattle.fabric_sim.specs.Changes.{with_peer, cabled_at, uncabled_at}
use Rattle.fabric_sim.proofs.AgentLists.{AllRelated, Related, KeepsSeats, at_agent, all_at, length-changed, all_changed, related_changed, keeps_seats_same, changed_at_id, others_stay, cable_ports_stay, NoNewSeats, no_new_seats_same, seats_before}
use Rattle.fabric_sim.proofs.PeerLists.{same_or_apart, ports_differ, across_here, across_apart, length-row, length-with_peer, has_slot_after}
use Rattle.fabric_sim.proofs.PortChanges.{state_by, keeps_seats-wired, no_new_seats-wired, state-wired, state-wired_other, is_agent-wired}
use Rattle.fabric_sim.proofs.Invariants.{recabled}

-- one port wired ----------------------------------------------------------------------------

-- the state of a port
abbrev pub state_of : List Agent → NodePort → PortState
state_of agents p = option_map_or (λ a. state_at a p.port) (slice_get agents p.node) Down

-- the agents with a port wired, or with its wire taken away
abbrev pub wired_at : List Agent → NodePort → Bool → List Agent
wired_at agents p b = with_changed agents p.node (λ a. after_set_wired a p.port b)

pub keeps_wired : (agents : List Agent) (p : NodePort) (b : Bool) → AllRelated KeepsSeats agents (wired_at agents p b)
keeps_wired agents p b = related_changed KeepsSeats keeps_seats_same agents p.node (λ a. after_set_wired a p.port b) (λ a e. keeps_seats-wired a p.port b)

no-new : (agents : List Agent) (p : NodePort) (b : Bool) → AllRelated NoNewSeats agents (wired_at agents p b)
no-new agents p b = related_changed NoNewSeats no_new_seats_same agents p.node (λ a. after_set_wired a p.port b) (λ a e. no_new_seats-wired a p.port b)

all-wired : (agents : List Agent) (p : NodePort) (b : Bool) → has_cable_port agents p ≡ true → All IsAgent agents → All IsAgent (wired_at agents p b)
all-wired agents p b port all =
    let at = at_agent agents p port in
    all_changed IsAgent agents p.node (λ a. after_set_wired a p.port b) all (λ a e h. is_agent-wired a p.port b at.least h)

state-here : (agents : List Agent) (p : NodePort) (b : Bool) → All IsAgent agents → has_cable_port agents p ≡ true → state_of (wired_at agents p b) p
    ≡ state_by b
state-here agents p b all port =
    let at = at_agent agents p port in
    let is : IsAgent at.agent = all_at IsAgent agents p.node at.agent all at.there in
    let count : length at.agent.ports ≡ at.agent.node.ports + 1 = is.count in
    let most : p.port ≤ at.agent.node.ports = at.most in
    ap (λ m. option_map_or (λ a. state_at a p.port) m Down) (changed_at_id agents p.node at.agent (λ a. after_set_wired a p.port b) at.there)
    ∙ state-wired at.agent p.port b (omega arith)

-- at another port of the node
state-beside : (agents : List Agent) (p : NodePort) (port : ℕ) (b : Bool) → port ≢ p.port
    → state_of (wired_at agents p b) (record { node = p.node; port = port }) ≡ state_of agents (record { node = p.node; port = port })
state-beside agents p port b ne = by (slice_get agents p.node) refl
  where
    by : (m : Option Agent) → slice_get agents p.node ≡ m → state_of (wired_at agents p b) (record { node = p.node; port = port })
        ≡ state_of agents (record { node = p.node; port = port })
    by None e =
        let unchanged : wired_at agents p b ≡ agents = ap (λ m. option_map_or (λ a. slice_set agents p.node (after_set_wired a p.port b)) m agents) e in
        ap (λ xs. state_of xs (record { node = p.node; port = port })) unchanged
    by (Some a) e =
        ap (λ m. option_map_or (λ a. state_at a port) m Down) (changed_at_id agents p.node a (λ a. after_set_wired a p.port b) e)
        ∙ (state-wired_other a p.port port b ne ∙ sym (ap (λ m. option_map_or (λ a. state_at a port) m Down) e))

state-apart : (agents : List Agent) (p q : NodePort) (b : Bool) → p ≢ q → state_of (wired_at agents p b) q ≡ state_of agents q
state-apart agents p q b ne =
    elim (cases_eq p.node q.node) [
      | inr n ↦ ap (λ m. option_map_or (λ a. state_at a q.port) m Down) (others_stay agents p.node q.node (λ a. after_set_wired a p.port b) n)
      | inl n ↦ subst (λ k. state_of (wired_at agents p b) (record { node = k; port = q.port }) ≡ state_of agents (record { node = k; port = q.port })) n
          (state-beside agents p q.port b (λ m. ports_differ p q ne n (sym m)))
    ]

-- a cable port has a slot for its other end
pub peer_slot : (s : Simulation) (r : NodePort) → IsSimulation s → has_cable_port s.agents r ≡ true → HasPeerSlot s.peers r
peer_slot s r is port =
    let at = at_agent s.agents r port in
    let fit : length (get_or s.peers r.node []) ≡ at.agent.node.ports + 1 = is.cables.fit r.node at.agent at.there in
    let most : r.port ≤ at.agent.node.ports = at.most in
    omega arith

-- both ends --------------------------------------------------------------------------------

-- what is written at the two ends, which may be one port
pub record Ends (s : Simulation) (p q : NodePort) (b : Bool) (at_p at_q : Option NodePort) : Type 0 where
  pub p_port : has_cable_port s.agents p ≡ true
  pub q_port : has_cable_port s.agents q ≡ true
  pub loop : p ≡ q → at_q ≡ at_p
  pub down_p : (state_by b ≡ Down) ↔ (at_p ≡ None)
  pub down_q : (state_by b ≡ Down) ↔ (at_q ≡ None)

module _ (s : Simulation) (is : IsSimulation s) (p q : NodePort) (b : Bool) (at_p at_q : Option NodePort) (ends : Ends s p q b at_p at_q) where
  abbrev pub agents_now : List Agent
  agents_now = wired_at (wired_at s.agents p b) q b

  abbrev pub peers_now : List (List (Option NodePort))
  peers_now = with_peer (with_peer s.peers p at_p) q at_q

  pub q_port_then : has_cable_port (wired_at s.agents p b) q ≡ true
  q_port_then = cable_ports_stay s.agents (wired_at s.agents p b) (keeps_wired s.agents p b) q ∙ ends.q_port

  pub across_q : across peers_now q ≡ at_q
  across_q = across_here (with_peer s.peers p at_p) q at_q (has_slot_after s.peers p q at_p (peer_slot s q is ends.q_port))

  pub across_p : across peers_now p ≡ at_p
  across_p =
      elim (same_or_apart p q) [
        | inl e ↦ subst (λ r. across peers_now r ≡ at_p) (sym e) (across_q ∙ ends.loop e)
        | inr ne ↦ across_apart (with_peer s.peers p at_p) q p at_q (λ e. ne (sym e)) ∙ across_here s.peers p at_p (peer_slot s p is ends.p_port)
      ]

  pub across_other : (r : NodePort) → p ≢ r → q ≢ r → across peers_now r ≡ across s.peers r
  across_other r np nq = across_apart (with_peer s.peers p at_p) q r at_q nq ∙ across_apart s.peers p r at_p np

  state-q : state_of agents_now q ≡ state_by b
  state-q = state-here (wired_at s.agents p b) q b (all-wired s.agents p b ends.p_port is.agents) q_port_then

  state-p : state_of agents_now p ≡ state_by b
  state-p =
      elim (same_or_apart p q) [
        | inl e ↦ subst (λ r. state_of agents_now r ≡ state_by b) (sym e) state-q
        | inr ne ↦ state-apart (wired_at s.agents p b) q p b (λ e. ne (sym e)) ∙ state-here s.agents p b is.agents ends.p_port
      ]

  state-other : (r : NodePort) → p ≢ r → q ≢ r → state_of agents_now r ≡ state_of s.agents r
  state-other r np nq = state-apart (wired_at s.agents p b) q r b nq ∙ state-apart s.agents p r b np

  pub keeps_both : AllRelated KeepsSeats s.agents agents_now
  keeps_both id = by (slice_get s.agents id) (slice_get (wired_at s.agents p b) id) (slice_get agents_now id) (keeps_wired s.agents p b id)
      (keeps_wired (wired_at s.agents p b) q b id)
    where
      by : (l m n : Option Agent) → Related KeepsSeats l m → Related KeepsSeats m n → Related KeepsSeats l n
      by None None None h k = tt
      by None None (Some c) h k = absurd k
      by None (Some x) n h k = absurd h
      by (Some a) None n h k = absurd h
      by (Some a) (Some x) None h k = absurd k
      by (Some a) (Some x) (Some c) h k = record { node = k.node ∙ h.node; seats = λ port e. k.seats port (h.seats port e) }

  -- down exactly where no cable is
  iff-by : (t u : PortState) (m n : Option NodePort) → t ≡ u → m ≡ n → (u ≡ Down) ↔ (n ≡ None) → (t ≡ Down) ↔ (m ≡ None)
  iff-by t u m n e f h = (λ d. f ∙ h.0 (sym e ∙ d), λ d. e ∙ h.1 (sym f ∙ d))

  down-before : (r : NodePort) → has_cable_port s.agents r ≡ true → (state_of s.agents r ≡ Down) ↔ (across s.peers r ≡ None)
  down-before r port =
      let at = at_agent s.agents r port in
      iff-by _ _ _ _ (ap (λ m. option_map_or (λ a. state_at a r.port) m Down) at.there) refl (is.cables.down r at.agent at.there port)

  down-now : (r : NodePort) → has_cable_port s.agents r ≡ true → (state_of agents_now r ≡ Down) ↔ (across peers_now r ≡ None)
  down-now r port =
      elim (same_or_apart q r) [
        | inl e ↦ subst (λ r. (state_of agents_now r ≡ Down) ↔ (across peers_now r ≡ None)) e (iff-by _ _ _ _ state-q across_q ends.down_q)
        | inr nq ↦ elim (same_or_apart p r) [
          | inl e ↦ subst (λ r. (state_of agents_now r ≡ Down) ↔ (across peers_now r ≡ None)) e (iff-by _ _ _ _ state-p across_p ends.down_p)
          | inr np ↦ iff-by _ _ _ _ (state-other r np nq) (across_other r np nq) (down-before r port)
        ]
      ]

  -- the ports with cables are cable ports, where this is so of what was written
  cabled-now : (r t : NodePort) → across peers_now r ≡ Some t → has_cable_port s.agents r ≡ true
  cabled-now r t e =
      elim (same_or_apart q r) [
        | inl f ↦ subst (λ r. has_cable_port s.agents r ≡ true) f ends.q_port
        | inr nq ↦ elim (same_or_apart p r) [
          | inl f ↦ subst (λ r. has_cable_port s.agents r ≡ true) f ends.p_port
          | inr np ↦ is.cables.ends r t (sym (across_other r np nq) ∙ e)
        ]
      ]

  pub ends_written : ((r t : NodePort) → across peers_now r ≡ Some t → across peers_now t ≡ Some r)
      → IsSimulation (record s { agents = agents_now; peers = peers_now })
  ends_written back =
      recabled s agents_now peers_now is
      (length-changed (wired_at s.agents p b) q.node (λ a. after_set_wired a q.port b) ∙ length-changed s.agents p.node (λ a. after_set_wired a p.port b))
      (all-wired (wired_at s.agents p b) q b q_port_then (all-wired s.agents p b ends.p_port is.agents))
      keeps_both
      (λ r h. is.seats r
      (seats_before s.agents (wired_at s.agents p b) (no-new s.agents p b) r
      (seats_before (wired_at s.agents p b) agents_now (no-new (wired_at s.agents p b) q b) r h)))
      (length-with_peer (with_peer s.peers p at_p) q at_q ∙ length-with_peer s.peers p at_p)
      (λ id. length-row (with_peer s.peers p at_p) q at_q id ∙ length-row s.peers p at_p id)
      cabled-now back
      (λ r a e port.
      let there : has_cable_port s.agents r ≡ true = sym (cable_ports_stay s.agents agents_now keeps_both r) ∙ port in
      iff-by _ _ _ _ (sym (ap (λ m. option_map_or (λ a. state_at a r.port) m Down) e)) refl (down-now r there))

-- plugged in ---------------------------------------------------------------------------------

some-is : (q t : NodePort) → ◌≡◌ {A = Option NodePort} (Some q) (Some t) → q ≡ t
some-is q t e = cc

pub joined_ends : (s : Simulation) (p q : NodePort) → has_cable_port s.agents p ≡ true → has_cable_port s.agents q ≡ true → Ends s p q true (Some q) (Some p)
joined_ends s p q hp hq =
    record { p_port = hp; q_port = hq; loop = λ e. cc; down_p = (λ d. cc, λ d. cc); down_q = (λ d. cc, λ d. cc) }

pub joined_is : (s : Simulation) (p q : NodePort) → IsSimulation s → has_cable_port s.agents p ≡ true → has_cable_port s.agents q ≡ true → across s.peers p
    ≡ None → across s.peers q ≡ None → IsSimulation (cabled_at s p q)
unfolding cabled_at
joined_is s p q is hp hq free_p free_q =
    let ends : Ends s p q true (Some q) (Some p) = joined_ends s p q hp hq in
    let peers : List (List (Option NodePort)) = with_peer (with_peer s.peers p (Some q)) q (Some p) in
    let here_q : across peers q ≡ Some p = across_q s is p q true (Some q) (Some p) ends in
    let here_p : across peers p ≡ Some q = across_p s is p q true (Some q) (Some p) ends in
    let other : (r : NodePort) → p ≢ r → q ≢ r → across peers r ≡ across s.peers r = across_other s is p q true (Some q) (Some p) ends in
    ends_written s is p q true (Some q) (Some p) ends (λ r t e.
    elim (same_or_apart q r) [
      | inl f ↦ let e' : across peers q ≡ Some t = subst (λ r. across peers r ≡ Some t) (sym f) e in
          let to : p ≡ t = some-is p t (sym here_q ∙ e') in
          subst (λ t. across peers t ≡ Some r) to (here_p ∙ ap (λ x. Some x) f)
      | inr nq ↦ elim (same_or_apart p r) [
        | inl f ↦ let e' : across peers p ≡ Some t = subst (λ r. across peers r ≡ Some t) (sym f) e in
            let to : q ≡ t = some-is q t (sym here_p ∙ e') in
            subst (λ t. across peers t ≡ Some r) to (here_q ∙ ap (λ x. Some x) f)
        | inr np ↦ let old : across s.peers r ≡ Some t = sym (other r np nq) ∙ e in
            let back : across s.peers t ≡ Some r = is.cables.lead_back r t old in
            other t (λ f. taken p free_p t f r back) (λ f. taken q free_q t f r back) ∙ back
      ]
    ])
  where
    taken : (x : NodePort) → across s.peers x ≡ None → (t : NodePort) → x ≡ t → (r : NodePort) → across s.peers t ≡ Some r → ⊥
    taken x free t f r back = let e : across s.peers x ≡ Some r = subst (λ t. across s.peers t ≡ Some r) (sym f) back in cc

-- cut ----------------------------------------------------------------------------------------

parted-ends : (s : Simulation) (p q : NodePort) → has_cable_port s.agents p ≡ true → has_cable_port s.agents q ≡ true → Ends s p q false None None
parted-ends s p q hp hq =
    record { p_port = hp; q_port = hq; loop = λ e. refl; down_p = (λ d. refl, λ d. refl); down_q = (λ d. refl, λ d. refl) }

pub parted_is : (s : Simulation) (p q : NodePort) → IsSimulation s → across s.peers p ≡ Some q → IsSimulation (uncabled_at s p q)
unfolding uncabled_at
parted_is s p q is cable =
    let hp : has_cable_port s.agents p ≡ true = is.cables.ends p q cable in
    let cable_back : across s.peers q ≡ Some p = is.cables.lead_back p q cable in
    let hq : has_cable_port s.agents q ≡ true = is.cables.ends q p cable_back in
    let ends : Ends s p q false None None = parted-ends s p q hp hq in
    let peers : List (List (Option NodePort)) = with_peer (with_peer s.peers p None) q None in
    let here_q : across peers q ≡ None = across_q s is p q false None None ends in
    let here_p : across peers p ≡ None = across_p s is p q false None None ends in
    let other : (r : NodePort) → p ≢ r → q ≢ r → across peers r ≡ across s.peers r = across_other s is p q false None None ends in
    ends_written s is p q false None None ends (λ r t e.
    elim (same_or_apart q r) [
      | inl f ↦ let e' : across peers q ≡ Some t = subst (λ r. across peers r ≡ Some t) (sym f) e in cc
      | inr nq ↦ elim (same_or_apart p r) [
        | inl f ↦ let e' : across peers p ≡ Some t = subst (λ r. across peers r ≡ Some t) (sym f) e in cc
        | inr np ↦ let old : across s.peers r ≡ Some t = sym (other r np nq) ∙ e in
            let back : across s.peers t ≡ Some r = is.cables.lead_back r t old in
            other t
            (λ f. let e' : across s.peers p ≡ Some r = subst (λ t. across s.peers t ≡ Some r) (sym f) back in nq (some-is q r (sym cable ∙ e')))
            (λ f. let e' : across s.peers q ≡ Some r = subst (λ t. across s.peers t ≡ Some r) (sym f) back in np (some-is p r (sym cable_back ∙ e')))
            ∙ back
      ]
    ])
