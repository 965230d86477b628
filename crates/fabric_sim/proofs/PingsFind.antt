-- A ping finds the port at which a packet is delivered.
use Rattle.std.proofs.Common.{◌≡◌, ℕ, zero, suc, ◌+◌, ◌<◌, List, [], ◌∷◌, length, arith, ap, ◌∙◌}
use Rattle.std.specs.Option.{option_map_or}
use Rattle.fabric_model.specs.declared.cable.NodePort.{NodePort}
use Rattle.fabric_model.specs.declared.course.Course.TheVariants.{Delivers}
use Rattle.fabric_model.specs.Fabric.{Fabric}
use Rattle.fabric_model.specs.Forwarding.{Standing, Hop, Goes, sent_from, arrived_at, course, wire_bound}
use Rattle.fabric_model.proofs.Forwarded.{few_wires_in_all}
use Rattle.fabric_sim.specs.declared.ping.Ping.{Ping}
use Rattle.fabric_sim.specs.declared.ping.Ping.TheVariants.{Reached, Lost}
use Rattle.fabric_sim.specs.Ping.{ping_on, ping_by, PingsFind}

module _ (f : Fabric) (lid : ℕ) (end : Standing) (target : NodePort) (delivers : course f lid end ≡ Delivers target) where
  -- after n wires, over these ones, with more left
  found_on : (hops : List Hop) (s : Standing) (left n : ℕ) → length hops < left → Goes f lid s hops end
      → ping_on f lid left n s ≡ Reached target (n + length hops)
  found_on hops s zero n few goes = absurd (omega (arith, few))
  found_on [] s (suc left) n few goes =
      ap (ping_by f s n (λ into. ping_on f lid left (n + 1) (arrived_at into))) (ap (course f lid) goes ∙ delivers) ∙ ap (λ m. Reached target m) (omega arith)
  found_on (h ∷ hops) s (suc left) n few (leaves, wire, goes) =
      let next : NodePort → Ping = λ into. ping_on f lid left (n + 1) (arrived_at into) in
      ap (ping_by f s n next) leaves
      ∙ ap (λ m. option_map_or next m (Lost s.at.node)) wire
      ∙ found_on hops (arrived_at h.into) left (n + 1) (omega (arith, few)) goes
      ∙ ap (λ m. Reached target m) (omega arith)

pub pings_find : PingsFind
pings_find f lid source target hops d =
    found_on f lid d.0 target d.2 hops (sent_from source) (wire_bound f) 0 (omega (arith, few_wires_in_all f lid source target hops d)) d.1
    ∙ ap (λ m. Reached target m) (omega arith)
