-- What stays of the agents if one of them changes.
use Rattle.std.proofs.Common.{◌≡◌, ◌≢◌, ℕ, zero, suc, ◌<◌, ◌≤◌, true, false, ◌&&◌, List, [], ◌∷◌, length, refl, arith, ap, ◌∙◌, subst, length-set}
use Rattle.std.specs.Prelude.{Option, Some, None, All, slice_get, slice_set, nat_le}
use Rattle.std.specs.Option.{option_map_or}
use Rattle.std.proofs.lemmas.Option.{slice_get_within, get_or_from_slice_get}
use Rattle.std.proofs.lemmas.List.Elements.{All-set, All-get_or}
use Rattle.std.proofs.lemmas.Bool.{and_parts, leb-true}
use Rattle.fabric_model.specs.declared.cable.NodePort.{NodePort}
use Rattle.attr_codec.specs.declared.port_state.PortState.TheVariants.{Down}
use Rattle.node_agents.specs.Agent.{Agent, has_seat, state_at}
use Rattle.node_agents.specs.AnswerLaws.{KeepsShape}
use Rattle.fabric_sim.specs.Simulation.{has_cable_port}
use Rattle.fabric_sim.specs.Delivery.{with_changed}

-- both there and in a relation, or neither
abbrev pub Related : (Agent → Agent → Type 0) → Option Agent → Option Agent → Type 0
Related R None None = Unit {0}
Related R None (Some b) = ⊥
Related R (Some a) None = ⊥
Related R (Some a) (Some b) = R a b

-- one list of agents and another, agent by agent
abbrev pub AllRelated : (Agent → Agent → Type 0) → List Agent → List Agent → Type 0
AllRelated R xs ys = (id : ℕ) → Related R (slice_get xs id) (slice_get ys id)

module _ (R : Agent → Agent → Type 0) (same : (a : Agent) → R a a) where
  related-same : (m : Option Agent) → Related R m m
  related-same None = tt
  related-same (Some a) = same a

  related-set : (xs : List Agent) (at : ℕ) (new : Agent) → ((a : Agent) → slice_get xs at ≡ Some a → R a new) → AllRelated R xs (slice_set xs at new)
  related-set [] at new h id = tt
  related-set (x ∷ xs) zero new h zero = h x refl
  related-set (x ∷ xs) zero new h (suc id) = related-same (slice_get xs id)
  related-set (x ∷ xs) (suc at) new h zero = same x
  related-set (x ∷ xs) (suc at) new h (suc id) = related-set xs at new h id

  -- one agent changed within the relation
  pub related_changed : (xs : List Agent) (at : ℕ) (change : Agent → Agent) → ((a : Agent) → slice_get xs at ≡ Some a → R a (change a))
      → AllRelated R xs (with_changed xs at change)
  related_changed xs at change h = by (slice_get xs at) refl
    where
      by : (m : Option Agent) → slice_get xs at ≡ m → AllRelated R xs (option_map_or (λ a. slice_set xs at (change a)) m xs)
      by None e = λ id. related-same (slice_get xs id)
      by (Some a) e = related-set xs at (change a) (λ b k. let same : a ≡ b = cc in subst (λ x. R x (change a)) same (h a e))

-- how many there are
pub length-changed : (xs : List Agent) (at : ℕ) (change : Agent → Agent) → length (with_changed xs at change) ≡ length xs
length-changed xs at change = by (slice_get xs at)
  where
    by : (m : Option Agent) → length (option_map_or (λ a. slice_set xs at (change a)) m xs) ≡ length xs
    by None = refl
    by (Some a) = length-set xs at (change a)

pub all_at : (P : Agent → Type 0) (xs : List Agent) (id : ℕ) (a : Agent) → All P xs → slice_get xs id ≡ Some a → P a
all_at P xs id a all at = subst P (get_or_from_slice_get xs id a a at) (All-get_or P xs id a (slice_get_within xs id a at) all)

-- what holds of each agent
pub all_changed : (P : Agent → Type 0) (xs : List Agent) (at : ℕ) (change : Agent → Agent) → All P xs
    → ((a : Agent) → slice_get xs at ≡ Some a → P a → P (change a)) → All P (with_changed xs at change)
all_changed P xs at change all h = by (slice_get xs at) refl
  where
    by : (m : Option Agent) → slice_get xs at ≡ m → All P (option_map_or (λ a. slice_set xs at (change a)) m xs)
    by None e = all
    by (Some a) e = All-set P xs at (change a) (h a e (all_at P xs at a all e)) all

-- the agent put where one was
pub changed_at_id : (xs : List Agent) (at : ℕ) (a : Agent) (change : Agent → Agent) → slice_get xs at ≡ Some a → slice_get (with_changed xs at change) at
    ≡ Some (change a)
changed_at_id xs at a change e = ap (λ m. slice_get (option_map_or (λ b. slice_set xs at (change b)) m xs) at) e ∙ set-there xs at a (change a) e
  where
    set-there : (xs : List Agent) (at : ℕ) (a new : Agent) → slice_get xs at ≡ Some a → slice_get (slice_set xs at new) at ≡ Some new
    set-there [] at a new e = cc
    set-there (x ∷ xs) zero a new e = refl
    set-there (x ∷ xs) (suc at) a new e = set-there xs at a new e

-- any other is as it was
pub others_stay : (xs : List Agent) (at id : ℕ) (change : Agent → Agent) → at ≢ id → slice_get (with_changed xs at change) id ≡ slice_get xs id
others_stay xs at id change ne = by (slice_get xs at)
  where
    set-elsewhere : (xs : List Agent) (at id : ℕ) (new : Agent) → at ≢ id → slice_get (slice_set xs at new) id ≡ slice_get xs id
    set-elsewhere [] at id new ne = refl
    set-elsewhere (x ∷ xs) zero zero new ne = absurd (ne refl)
    set-elsewhere (x ∷ xs) zero (suc id) new ne = refl
    set-elsewhere (x ∷ xs) (suc at) zero new ne = refl
    set-elsewhere (x ∷ xs) (suc at) (suc id) new ne = set-elsewhere xs at id new (λ e. ne (ap suc e))

    by : (m : Option Agent) → slice_get (option_map_or (λ a. slice_set xs at (change a)) m xs) id ≡ slice_get xs id
    by None = refl
    by (Some a) = set-elsewhere xs at id (change a) ne

-- what is kept --------------------------------------------------------------------------

-- the node stays, and who sits at a port stays
pub record KeepsSeats (a b : Agent) : Type 0 where
  pub node : b.node ≡ a.node
  pub seats : (port : ℕ) → has_seat a port ≡ true → has_seat b port ≡ true

pub keeps_seats_same : (a : Agent) → KeepsSeats a a
keeps_seats_same a = record { node = refl; seats = λ port h. h }

-- besides, which ports are down
pub record KeepsDown (a b : Agent) : Type 0 where
  pub seats : KeepsSeats a b
  pub to : (port : ℕ) → state_at b port ≡ Down → state_at a port ≡ Down
  pub from : (port : ℕ) → state_at a port ≡ Down → state_at b port ≡ Down

pub keeps_down_same : (a : Agent) → KeepsDown a a
keeps_down_same a = record { seats = keeps_seats_same a; to = λ port h. h; from = λ port h. h }

-- as an answer keeps it
pub keeps_down_from_shape : (a b : Agent) → KeepsShape a b → KeepsDown a b
keeps_down_from_shape a b k =
    record { seats = record { node = k.node; seats = λ port h. k.seats port ∙ h }; to = λ port. (k.down port).0; from = λ port. (k.down port).1 }

-- the ports into which a cable can go
pub cable_ports_stay : (xs ys : List Agent) → AllRelated KeepsSeats xs ys → (p : NodePort) → has_cable_port ys p ≡ has_cable_port xs p
cable_ports_stay xs ys k p = ap (λ n. nat_le 1 p.port && nat_le p.port n) (by (slice_get xs p.node) (slice_get ys p.node) (k p.node))
  where
    by : (m n : Option Agent) → Related KeepsSeats m n → option_map_or (λ a. a.node.ports) n 0 ≡ option_map_or (λ a. a.node.ports) m 0
    by None None h = refl
    by None (Some b) h = absurd h
    by (Some a) None h = absurd h
    by (Some a) (Some b) h = ap (λ n. n.ports) h.node

-- a seat that is there stays
pub seats_stay : (xs ys : List Agent) → AllRelated KeepsSeats xs ys → (p : NodePort) → option_map_or (λ a. has_seat a p.port) (slice_get xs p.node) false ≡ true
    → option_map_or (λ a. has_seat a p.port) (slice_get ys p.node) false ≡ true
seats_stay xs ys k p = by (slice_get xs p.node) (slice_get ys p.node) (k p.node)
  where
    by : (m n : Option Agent) → Related KeepsSeats m n → option_map_or (λ a. has_seat a p.port) m false ≡ true → option_map_or (λ a. has_seat a p.port) n false
        ≡ true
    by None None h e = cc
    by None (Some b) h e = absurd h
    by (Some a) None h e = absurd h
    by (Some a) (Some b) h e = h.seats p.port e

-- nobody new sits at a port
pub record NoNewSeats (a b : Agent) : Type 0 where
  pub seats : (port : ℕ) → has_seat b port ≡ true → has_seat a port ≡ true

pub no_new_seats_same : (a : Agent) → NoNewSeats a a
no_new_seats_same a = record { seats = λ port h. h }

pub seats_before : (xs ys : List Agent) → AllRelated NoNewSeats xs ys → (p : NodePort) → option_map_or (λ a. has_seat a p.port) (slice_get ys p.node) false
    ≡ true → option_map_or (λ a. has_seat a p.port) (slice_get xs p.node) false ≡ true
seats_before xs ys k p = by (slice_get xs p.node) (slice_get ys p.node) (k p.node)
  where
    by : (m n : Option Agent) → Related NoNewSeats m n → option_map_or (λ a. has_seat a p.port) n false ≡ true → option_map_or (λ a. has_seat a p.port) m false
        ≡ true
    by None None h e = cc
    by None (Some b) h e = absurd h
    by (Some a) None h e = absurd h
    by (Some a) (Some b) h e = h.seats p.port e

-- the agent before
pub record Before (R : Agent → Agent → Type 0) (xs : List Agent) (id : ℕ) (b : Agent) : Type 0 where
  pub agent : Agent
  pub there : slice_get xs id ≡ Some agent
  pub related : R agent b

pub before : (R : Agent → Agent → Type 0) (xs ys : List Agent) → AllRelated R xs ys → (id : ℕ) (b : Agent) → slice_get ys id ≡ Some b → Before R xs id b
before R xs ys k id b e = by (slice_get xs id) (slice_get ys id) refl e (k id)
  where
    by : (m n : Option Agent) → slice_get xs id ≡ m → n ≡ Some b → Related R m n → Before R xs id b
    by None None f e h = cc
    by None (Some c) f e h = absurd h
    by (Some a) None f e h = absurd h
    by (Some a) (Some c) f e h = let same : c ≡ b = cc in record { agent = a; there = f; related = subst (R a) same h }

-- a cable port is at an agent that is there
pub record AtAgent (xs : List Agent) (p : NodePort) : Type 0 where
  pub agent : Agent
  pub there : slice_get xs p.node ≡ Some agent
  pub within : p.node < length xs
  pub least : 1 ≤ p.port
  pub most : p.port ≤ agent.node.ports

pub at_agent : (xs : List Agent) (p : NodePort) → has_cable_port xs p ≡ true → AtAgent xs p
at_agent xs p h =
    let parts = and_parts _ _ h in
    let least : 1 ≤ p.port = leb-true _ _ parts.0 in
    by (slice_get xs p.node) refl least (leb-true _ _ parts.1)
  where
    by : (m : Option Agent) → slice_get xs p.node ≡ m → 1 ≤ p.port → p.port ≤ option_map_or (λ a. a.node.ports) m 0 → AtAgent xs p
    by None e least most = absurd (omega arith)
    by (Some a) e least most = record { agent = a; there = e; within = slice_get_within xs p.node a e; least = least; most = most }

pub within_agents : (xs : List Agent) (p : NodePort) → has_cable_port xs p ≡ true → p.node < length xs
within_agents xs p h = (at_agent xs p h).within
