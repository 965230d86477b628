-- An agent after a port was wired or a manager was seated.
use Rattle.std.proofs.Common.{◌≡◌, ◌≢◌, ℕ, zero, suc, ◌<◌, ◌≤◌, Bool, true, List, [], ◌∷◌, length, get_or, set, refl, ap, sym, ◌∙◌, get_or-set_same, get_or-set_other}
use Rattle.std.specs.Prelude.{if◌then◌else◌}
use Rattle.attr_codec.specs.declared.port_state.PortState.{PortState}
use Rattle.attr_codec.specs.declared.port_state.PortState.TheVariants.{Down, Initialize}
use Rattle.node_agents.specs.declared.port.Port.{Port}
use Rattle.node_agents.specs.Agent.{Agent, IsAgent, has_seat, state_at, port_at, port_in, after_set_wired, after_set_seat}
use Rattle.node_agents.proofs.Made.{agents_are_made}
use Rattle.fabric_sim.proofs.AgentLists.{KeepsSeats, KeepsDown, NoNewSeats}

-- the state of a port with a cable or without
abbrev pub state_by : Bool → PortState
state_by is_wired = if is_wired then Initialize else Down

-- who sits, where what is written at a port says the same
seats-set : (ports : List Port) (at q : ℕ) (new absent : Port) → new.is_sm ≡ (get_or ports at absent).is_sm → (get_or (set ports at new) q absent).is_sm
    ≡ (get_or ports q absent).is_sm
seats-set [] at q new absent e = refl
seats-set (x ∷ xs) zero zero new absent e = e
seats-set (x ∷ xs) zero (suc q) new absent e = refl
seats-set (x ∷ xs) (suc at) zero new absent e = refl
seats-set (x ∷ xs) (suc at) (suc q) new absent e = seats-set xs at q new absent e

-- the states, likewise
states-set : (ports : List Port) (at q : ℕ) (new absent : Port) → new.state ≡ (get_or ports at absent).state → (get_or (set ports at new) q absent).state
    ≡ (get_or ports q absent).state
states-set [] at q new absent e = refl
states-set (x ∷ xs) zero zero new absent e = e
states-set (x ∷ xs) zero (suc q) new absent e = refl
states-set (x ∷ xs) (suc at) zero new absent e = refl
states-set (x ∷ xs) (suc at) (suc q) new absent e = states-set xs at q new absent e

-- a manager more
seats-more : (ports : List Port) (at q : ℕ) (new absent : Port) → new.is_sm ≡ true → (get_or ports q absent).is_sm ≡ true
    → (get_or (set ports at new) q absent).is_sm ≡ true
seats-more [] at q new absent e h = h
seats-more (x ∷ xs) zero zero new absent e h = e
seats-more (x ∷ xs) zero (suc q) new absent e h = h
seats-more (x ∷ xs) (suc at) zero new absent e h = h
seats-more (x ∷ xs) (suc at) (suc q) new absent e h = seats-more xs at q new absent e h

-- wired ------------------------------------------------------------------------------

pub keeps_seats-wired : (a : Agent) (port : ℕ) (is_wired : Bool) → KeepsSeats a (after_set_wired a port is_wired)
keeps_seats-wired a port is_wired =
    record { node = refl; seats = λ q h. seats-set a.ports port q (record (port_at a port) { state = state_by is_wired }) (port_in Down) refl ∙ h }

pub no_new_seats-wired : (a : Agent) (port : ℕ) (is_wired : Bool) → NoNewSeats a (after_set_wired a port is_wired)
no_new_seats-wired a port is_wired =
    record { seats = λ q h. sym (seats-set a.ports port q (record (port_at a port) { state = state_by is_wired }) (port_in Down) refl) ∙ h }

pub state-wired : (a : Agent) (port : ℕ) (is_wired : Bool) → port < length a.ports → state_at (after_set_wired a port is_wired) port ≡ state_by is_wired
state-wired a port is_wired within =
    ap (λ p. p.state) (get_or-set_same a.ports port (record (port_at a port) { state = state_by is_wired }) (port_in Down) within)

pub state-wired_other : (a : Agent) (port q : ℕ) (is_wired : Bool) → q ≢ port → state_at (after_set_wired a port is_wired) q ≡ state_at a q
state-wired_other a port q is_wired ne =
    ap (λ p. p.state) (get_or-set_other a.ports port q (record (port_at a port) { state = state_by is_wired }) (port_in Down) ne)

pub is_agent-wired : (a : Agent) (port : ℕ) (is_wired : Bool) → 1 ≤ port → IsAgent a → IsAgent (after_set_wired a port is_wired)
is_agent-wired a port is_wired least is = agents_are_made.wired a port is_wired is least

-- seated ------------------------------------------------------------------------------

pub keeps_down-seated : (a : Agent) (port : ℕ) → KeepsDown a (after_set_seat a port)
keeps_down-seated a port =
    let new : Port = record (port_at a port) { is_sm = true } in
    let state : (q : ℕ) → state_at (after_set_seat a port) q ≡ state_at a q = λ q. states-set a.ports port q new (port_in Down) refl in
    record {
      seats = record { node = refl; seats = λ q h. seats-more a.ports port q new (port_in Down) refl h };
      to = λ q h. sym (state q) ∙ h;
      from = λ q h. state q ∙ h;
    }

-- elsewhere nobody new sits
pub seat-seated_other : (a : Agent) (port q : ℕ) → q ≢ port → has_seat (after_set_seat a port) q ≡ has_seat a q
seat-seated_other a port q ne = ap (λ p. p.is_sm) (get_or-set_other a.ports port q (record (port_at a port) { is_sm = true }) (port_in Down) ne)
