-- Where a directed path leads from a seat is joined to the seat.
use Rattle.std.proofs.Common.{◌≡◌, inl, inr, ℕ, zero, Bool, true, false, cond, List, [], ◌∷◌, refl, sym, ap, ◌∙◌, subst}
use Rattle.std.proofs.lemmas.Option.{same_Some}
use Rattle.std.specs.Prelude.{Option, Some, None, option_and_then}
use Rattle.fabric_model.specs.declared.cable.NodePort.{NodePort}
use Rattle.fabric_model.specs.Fabric.{Fabric, is_switch_at}
use Rattle.fabric_model.specs.FabricWalks.{IsJoinedTo, vertex_of}
use Rattle.fabric_model.specs.DirectedWalk.{directed_end, walk_on}
use Rattle.fabric_model.proofs.FabricWalks.{port_at, same_port, switch_vertex}
use Rattle.fabric_sim.specs.ThereAndBack.{BeginsWith}
use Rattle.manager_laws.proofs.Sound.{CanBeSwept}
use Rattle.manager_laws.proofs.Taken.{next_joined, seat_vertex}

module _ (f : Fabric) (seat : NodePort) (can : CanBeSwept f seat) where
  abbrev Joined : NodePort → Type 0
  Joined p = IsJoinedTo f seat (vertex_of f p)

  -- on from a port whose vertex is joined
  walk_joined : (path : List ℕ) (p end : NodePort) → IsJoinedTo f seat (vertex_of f p) → walk_on f p path ≡ Some end → IsJoinedTo f seat (vertex_of f end)
  walk_joined [] p end joined e = subst Joined (same_Some p end e) joined
  walk_joined (out ∷ path) p end joined e = by_switch (is_switch_at f p.node) refl (λ q there h. walk_joined path q end there h) e
    where
      by_cable : is_switch_at f p.node ≡ true → (m : Option NodePort) → f.across (port_at p.node out) ≡ m
          → ((q : NodePort) → Joined q → walk_on f q path ≡ Some end → Joined end)
          → option_and_then (λ q. walk_on f q path) m ≡ Some end → Joined end
      by_cable switch None there on h = absurd (cc)
      by_cable switch (Some q) there on h =
          let vertex : vertex_of f p ≡ vertex_of f (port_at p.node out) = switch_vertex f p switch ∙ sym (switch_vertex f (port_at p.node out) switch) in
          on q (next_joined can (port_at p.node out) q (subst (IsJoinedTo f seat) vertex joined, inr switch) there) h

      by_switch : (b : Bool) → is_switch_at f p.node ≡ b → ((q : NodePort) → Joined q → walk_on f q path ≡ Some end → Joined end)
          → option_and_then (λ q. walk_on f q path) (cond b (f.across (port_at p.node out)) None) ≡ Some end → Joined end
      by_switch true switch on h = by_cable switch (f.across (port_at p.node out)) refl on h
      by_switch false other on h = absurd (cc)

  pub end_joined : (path : List ℕ) (end : NodePort) → BeginsWith seat.port path → directed_end f seat path ≡ Some end
      → IsJoinedTo f seat (vertex_of f end)
  end_joined [] end own e = subst Joined (same_Some seat end e) (zero, sym (seat_vertex can))
  end_joined (out ∷ path) end own e = by_cable (f.across (port_at seat.node out)) refl e
    where
      by_cable : (m : Option NodePort) → f.across (port_at seat.node out) ≡ m → option_and_then (λ q. walk_on f q path) m ≡ Some end → Joined end
      by_cable None there h = absurd (cc)
      by_cable (Some q) there h =
          let same : seat ≡ port_at seat.node out = same_port seat (port_at seat.node out) refl (sym own) in
          walk_joined path q end (next_joined can seat q ((zero, sym (seat_vertex can)), inl refl) (ap f.across same ∙ there)) h
