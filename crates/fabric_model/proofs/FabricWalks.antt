-- Vertices, wires and walks of a fabric.
use Rattle.std.proofs.Common.{◌≡◌, ◌≤◌, ◌⊎◌, ℕ, zero, suc, inl, inr, refl, sym, ap, ◌∙◌, subst, arith, Bool, true, false, cond}
use Rattle.std.proofs.lemmas.Bool.{MatchBool-at_true}
use Rattle.std.specs.Prelude.{Some, MatchBool, IsTrue, slice_get}
use Rattle.std.specs.Option.{option_map_or}
use Rattle.fabric_model.specs.declared.cable.NodePort.{NodePort}
use Rattle.smp_bytes.specs.NodeType.{is_switch}
use Rattle.fabric_model.specs.Fabric.{Node, Fabric, IsFabric, IsEndPort, IsCablePort, is_switch_at}
use Rattle.fabric_model.specs.FabricWalks.{IsWire, AreNeighbors, Walk, IsJoinedTo, vertex_of}

-- a port of a node, by the numbers of both
abbrev pub port_at : ℕ → ℕ → NodePort
port_at number p = record { node = number; port = p }

pub same_port : (p q : NodePort) → p.node ≡ q.node → p.port ≡ q.port → p ≡ q
same_port p q e h = λ i. record { node = e i; port = h i }

-- the number of an end port, of a switch or of another node
abbrev pub EndNumber : ℕ → ℕ → Bool → Type 0
EndNumber ports p switch = MatchBool switch (p ≡ 0) ((1 ≤ p) × (p ≤ ports))

-- the type of a node
pub type_at : (f : Fabric) (number : ℕ) (node : Node) → slice_get f.nodes number ≡ Some node → is_switch_at f number ≡ is_switch node.kind
type_at f number node at = ap (λ o. option_map_or (λ (n : Node). is_switch n.kind) o false) at

module _ (f : Fabric) where
  -- one wire more, from a switch or from the start
  pub walk_further : (n : ℕ) (a b c : NodePort) → Walk f a b n → (n ≡ 0) ⊎ IsTrue (is_switch_at f b.node) → AreNeighbors f b c → Walk f a c (suc n)
  walk_further zero a b c e h next = (c, subst (λ (x : NodePort). AreNeighbors f x c) (sym e) next, inl refl, refl)
  walk_further (suc n) a b c (d, first, between, w) h next =
      let b_switch : IsTrue (is_switch_at f b.node) = elim h [ inl e ↦ absurd (omega arith) | inr k ↦ k ] in
      let d_switch : IsTrue (is_switch_at f d.node) =
      elim between [
        | inl e ↦ let same : d ≡ b = subst (λ (k : ℕ). Walk f d b k) e w in subst (λ (x : NodePort). IsTrue (is_switch_at f x.node)) (sym same) b_switch
        | inr k ↦ k
      ] in
      (d, first, inr d_switch, walk_further n d b c w (inr b_switch) next)

  -- a walk without wires stays
  pub no_more_wires : (n : ℕ) (d v : NodePort) → Walk f d v n → n ≡ 0 → d ≡ v
  no_more_wires n d v w e = subst (λ (k : ℕ). Walk f d v k) e w

  -- on from a switch
  pub joined_over : (a b c : NodePort) → IsJoinedTo f a b → IsTrue (is_switch_at f b.node) → IsJoinedTo f b c → IsJoinedTo f a c
  joined_over a b c (n, w) switch on = go n a w
    where
      go : (n : ℕ) (a : NodePort) → Walk f a b n → IsJoinedTo f a c
      go zero a w = subst (λ (x : NodePort). IsJoinedTo f x c) (sym w) on
      go (suc n) a (d, first, between, w) =
          let there : IsTrue (is_switch_at f d.node) =
          elim between [
            | inl e ↦ subst (λ (x : NodePort). IsTrue (is_switch_at f x.node)) (sym (no_more_wires n d b w e)) switch
            | inr k ↦ k
          ] in
          let rest = go n d w in
          (suc rest.0, (d, first, inr there, rest.1))

  -- a vertex has the node of its port
  pub vertex_node : (p : NodePort) → (vertex_of f p).node ≡ p.node
  vertex_node p = elim (is_switch_at f p.node) as (λ t. (cond t (port_at p.node 0) p).node ≡ p.node) [ true ↦ refl | false ↦ refl ]

  pub switch_vertex : (p : NodePort) → is_switch_at f p.node ≡ true → vertex_of f p ≡ port_at p.node 0
  switch_vertex p e = ap (λ t. cond t (port_at p.node 0) p) e

  pub adapter_vertex : (p : NodePort) → is_switch_at f p.node ≡ false → vertex_of f p ≡ p
  adapter_vertex p e = ap (λ t. cond t (port_at p.node 0) p) e

  -- the vertex of a port that can have a cable is an end port
  pub vertex_is_end : (p : NodePort) → IsCablePort f p → IsEndPort f (vertex_of f p)
  vertex_is_end p (node, at, first, last) =
      let of_node = type_at f p.node node at in
      elim (is_switch node.kind) as (λ t. is_switch node.kind ≡ t → IsEndPort f (vertex_of f p)) [
        | true ↦ λ e. subst (IsEndPort f) (sym (switch_vertex p (of_node ∙ e))) (node, at, subst (EndNumber node.ports 0) (sym e) refl)
        | false ↦ λ e. subst (IsEndPort f) (sym (adapter_vertex p (of_node ∙ e))) (node, at, subst (EndNumber node.ports p.port) (sym e) (first, last))
      ] refl

  -- the end port of a switch is its port 0
  pub switch_number : (v : NodePort) → IsEndPort f v → is_switch_at f v.node ≡ true → v.port ≡ 0
  switch_number v (node, at, number) e =
      MatchBool-at_true (v.port ≡ 0) ((1 ≤ v.port) × (v.port ≤ node.ports)) (sym (type_at f v.node node at) ∙ e) number

  -- an adapter port is the only port of its vertex
  pub adapter_start : (p v : NodePort) → is_switch_at f v.node ≡ false → vertex_of f p ≡ v → p ≡ v
  adapter_start p v e h =
      let number : p.node ≡ v.node = sym (vertex_node p) ∙ ap (λ (x : NodePort). x.node) h in
      sym (adapter_vertex p (ap (is_switch_at f) number ∙ e)) ∙ h

-- a wire leads back
pub turned_wire : {f : Fabric} → IsFabric f → (p q : NodePort) → IsWire f p q → IsWire f q p
turned_wire fab p q w = record { cable = fab.both_ways p q w.cable; different = λ e. w.different (sym e) }
