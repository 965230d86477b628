-- A ping, wire by wire.
use Rattle.std.proofs.Common.{◌≡◌, ℕ, zero, suc, ◌+◌, ◌-◌, ◌<◌, List, [], ◌∷◌, length, refl, arith, ap, ◌∙◌, inl, inr}
use Rattle.std.specs.Prelude.{Option, Some, None, ◌⊎◌}
use Rattle.std.specs.Option.{option_map_or}
use Rattle.fabric_model.specs.declared.cable.NodePort.{NodePort}
use Rattle.fabric_model.specs.declared.course.Course.{Course}
use Rattle.fabric_model.specs.declared.course.Course.TheVariants.{Delivers, LeavesBy, Drops}
use Rattle.fabric_model.specs.Fabric.{Fabric}
use Rattle.fabric_model.specs.Forwarding.{Standing, Hop, Goes, IsStuck, sent_from, arrived_at, course, wire_bound}
use Rattle.fabric_sim.specs.declared.ping.Ping.{Ping}
use Rattle.fabric_sim.specs.declared.ping.Ping.TheVariants.{Reached, Lost}
use Rattle.fabric_sim.specs.Ping.{ping_on, ping_by, PingsTell}

-- the loop ------------------------------------------------------------------------------

module _ (f : Fabric) (lid hops bound : ℕ) (s : Standing) (result : Ping) (goes : (left : ℕ) → hops + left ≡ bound → ping_on f lid left hops s ≡ result) where
  one-more : hops < bound → (left : ℕ) × (hops + suc left ≡ bound)
  one-more h = (bound - (hops + 1), omega arith)

  pub delivered_there : (p : NodePort) → hops < bound → Delivers p ≡ course f lid s → Reached p hops ≡ result
  delivered_there p h e =
      let left = one-more h in
      ap (ping_by f s hops (λ into. ping_on f lid left.0 (hops + 1) (arrived_at into))) e ∙ goes (suc left.0) left.1

  pub dropped_there : hops < bound → Drops ≡ course f lid s → Lost s.at.node ≡ result
  dropped_there h e =
      let left = one-more h in
      ap (ping_by f s hops (λ into. ping_on f lid left.0 (hops + 1) (arrived_at into))) e ∙ goes (suc left.0) left.1

  pub stuck_there : (out : NodePort) → hops < bound → LeavesBy out ≡ course f lid s → None ≡ f.across out → Lost s.at.node ≡ result
  stuck_there out h e k =
      let left = one-more h in
      let next : NodePort → Ping = λ into. ping_on f lid left.0 (hops + 1) (arrived_at into) in
      ap (λ m. option_map_or next m (Lost s.at.node)) k ∙ (ap (ping_by f s hops next) e ∙ goes (suc left.0) left.1)

  pub goes_on : (out into : NodePort) → LeavesBy out ≡ course f lid s → Some into ≡ f.across out → (left : ℕ) → hops + 1 + left ≡ bound
      → ping_on f lid left (hops + 1) (arrived_at into) ≡ result
  goes_on out into e k left n =
      let next : NodePort → Ping = λ into. ping_on f lid left (hops + 1) (arrived_at into) in
      ap (λ m. option_map_or next m (Lost s.at.node)) k ∙ (ap (ping_by f s hops next) e ∙ goes (suc left) (omega arith))

  pub given_up : hops ≡ bound → Lost s.at.node ≡ result
  given_up e = goes 0 (omega arith)

-- the law -------------------------------------------------------------------------------

-- the way of a packet that goes on to a port
pub record WayOn (f : Fabric) (lid count : ℕ) (s : Standing) (target : NodePort) : Type 0 where
  pub hops : List Hop
  pub long : length hops ≡ count
  pub end : Standing
  pub goes : Goes f lid s hops end
  pub delivers : course f lid end ≡ Delivers target

-- the way of a packet that is lost, with so many wires left
pub record WayLost (f : Fabric) (lid left : ℕ) (s : Standing) (id : ℕ) : Type 0 where
  pub hops : List Hop
  pub end : Standing
  pub goes : Goes f lid s hops end
  pub there : end.at.node ≡ id
  pub lost : IsStuck f lid end ⊎ (length hops ≡ left)

-- so many wires more, and the way over them
pub record Counted (f : Fabric) (lid hops count : ℕ) (s : Standing) (target : NodePort) : Type 0 where
  pub more : ℕ
  pub count_is : count ≡ hops + more
  pub way : WayOn f lid more s target

module _ (f : Fabric) (lid : ℕ) where
  way_by : (left hops : ℕ) (s : Standing) (target : NodePort) (count : ℕ)
      → ((into : NodePort) → ping_on f lid left (hops + 1) (arrived_at into) ≡ Reached target count → Counted f lid (hops + 1) count (arrived_at into) target)
      → (c : Course) → course f lid s ≡ c → ping_by f s hops (λ into. ping_on f lid left (hops + 1) (arrived_at into)) c ≡ Reached target count
      → Counted f lid hops count s target
  way_by left hops s target count rest Drops e k = cc
  way_by left hops s target count rest (Delivers p) e k =
      let same : p ≡ target = cc in
      let n : hops ≡ count = cc in
      record { more = 0; count_is = omega arith; way = record { hops = []; long = refl; end = s; goes = refl; delivers = e ∙ ap (λ q. Delivers q) same } }
  way_by left hops s target count rest (LeavesBy out) e k = on (f.across out) refl k
    where
      on : (m : Option NodePort) → f.across out ≡ m → option_map_or (λ into. ping_on f lid left (hops + 1) (arrived_at into)) m (Lost s.at.node)
          ≡ Reached target count → Counted f lid hops count s target
      on None g k = cc
      on (Some into) g k =
          let later = rest into k in
          let n : count ≡ hops + 1 + later.more = later.count_is in
          let way = later.way in
          record {
            more = suc later.more;
            count_is = omega arith;
            way =
                record {
                  hops = record { out = out; into = into } ∷ way.hops;
                  long = ap suc way.long;
                  end = way.end;
                  goes = (e, g, way.goes);
                  delivers =
                      way.delivers;
                };
          }

  pub way_on : (left hops : ℕ) (s : Standing) (target : NodePort) (count : ℕ) → ping_on f lid left hops s ≡ Reached target count
      → Counted f lid hops count s target
  way_on zero hops s target count h = cc
  way_on (suc left) hops s target count h =
      way_by left hops s target count (λ into k. way_on left (hops + 1) (arrived_at into) target count k) (course f lid s) refl h

  longer : (P : Type 0) (n m : ℕ) → P ⊎ (n ≡ m) → P ⊎ (suc n ≡ suc m)
  longer P n m (inl p) = inl p
  longer P n m (inr e) = inr (ap suc e)

  lost_by : (left hops : ℕ) (s : Standing) (id : ℕ) → ((into : NodePort) → ping_on f lid left (hops + 1) (arrived_at into) ≡ Lost id
      → WayLost f lid left (arrived_at into) id)
      → (c : Course) → course f lid s ≡ c → ping_by f s hops (λ into. ping_on f lid left (hops + 1) (arrived_at into)) c ≡ Lost id
      → WayLost f lid (suc left) s id
  lost_by left hops s id rest Drops e k = record { hops = []; end = s; goes = refl; there = cc; lost = inl (inl e) }
  lost_by left hops s id rest (Delivers p) e k = cc
  lost_by left hops s id rest (LeavesBy out) e k = on (f.across out) refl k
    where
      on : (m : Option NodePort) → f.across out ≡ m → option_map_or (λ into. ping_on f lid left (hops + 1) (arrived_at into)) m (Lost s.at.node) ≡ Lost id
          → WayLost f lid (suc left) s id
      on None g k = record { hops = []; end = s; goes = refl; there = cc; lost = inl (inr (out, e, g)) }
      on (Some into) g k =
          let way = rest into k in
          record {
            hops = record { out = out; into = into } ∷ way.hops;
            end = way.end;
            goes = (e, g, way.goes);
            there = way.there;
            lost =
                longer (IsStuck f lid way.end) (length way.hops) left way.lost;
          }

  pub way_lost : (left hops : ℕ) (s : Standing) (id : ℕ) → ping_on f lid left hops s ≡ Lost id → WayLost f lid left s id
  way_lost zero hops s id h = record { hops = []; end = s; goes = refl; there = cc; lost = inr refl }
  way_lost (suc left) hops s id h = lost_by left hops s id (λ into k. way_lost left (hops + 1) (arrived_at into) id k) (course f lid s) refl h

pub pings_tell : PingsTell
pings_tell f lid source = (
  λ target count h.
      let found = way_on f lid (wire_bound f) 0 (sent_from source) target count h in
      let way = found.way in
      let n : count ≡ 0 + found.more = found.count_is in
      let long : length way.hops ≡ found.more = way.long in
      record { hops = way.hops; length = omega arith; delivered = (way.end, way.goes, way.delivers) },
  λ id h.
      let way = way_lost f lid (wire_bound f) 0 (sent_from source) id h in
      (way.hops, (way.end, way.goes, way.there, way.lost)),
)
