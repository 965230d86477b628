-- The tests of nodes and ports say what the words say.
use Rattle.std.proofs.Common.{◌≡◌, ◌||◌, ◌==◌, ◌≤◌, ℕ, Bool, true, false, cond, inl, inr, refl, ap, ◌∙◌, arith}
use Rattle.std.specs.Prelude.{Option, None, Some, MatchBool, is_some, not}
use Rattle.std.proofs.lemmas.Bool.{eqb-true, eqb-false, eq-eqb}
use Rattle.smp_bytes.specs.declared.node_type.NodeType.{NodeType}
use Rattle.smp_bytes.specs.declared.node_type.NodeType.TheVariants.{ChannelAdapter, Switch, Router}
use Rattle.smp_bytes.specs.NodeType.{is_switch}
use Rattle.reply_facts.specs.Known.{cap_of, node_of, up_of}
use Rattle.subnet_view.specs.EndPort.{is_end_port}
use Rattle.subnet_view.specs.Reading.{Cells}
use Rattle.subnet_view.specs.Wires.{across}
use Rattle.subnet_view.proofs.WireLaws.{end_port_law, wire_law}
use Rattle.audit_counts.specs.Gaps.{IsKnownNode, IsKnownPort, IsWired, is_known_node, is_known_port, is_known_type, is_said_down}

module _ (cells : Cells) where
  node_in_words : (g : ℕ) (o : Option (NodeType × ℕ)) → node_of cells g ≡ o → is_known_type o (is_some (cap_of cells g)) ≡ true → IsKnownNode cells g
  node_in_words g None is h = absurd (cc)
  node_in_words g (Some (Switch, ports)) is h = (Switch, ports, is, h)
  node_in_words g (Some (ChannelAdapter, ports)) is h = (ChannelAdapter, ports, is, tt)
  node_in_words g (Some (Router, ports)) is h = (Router, ports, is, tt)

  pub known_node : (g : ℕ) → is_known_node cells g ≡ true → IsKnownNode cells g
  known_node g h = node_in_words g (node_of cells g) refl h

  type_known : (kind : NodeType) (room : Bool) → MatchBool (is_switch kind) (room ≡ true) (Unit {0}) → (not (is_switch kind) || room) ≡ true
  type_known Switch room h = h
  type_known ChannelAdapter room h = refl
  type_known Router room h = refl

  pub node_known : (g : ℕ) → IsKnownNode cells g → is_known_node cells g ≡ true
  node_known g (kind, ports, is, room) =
      ap (λ o. is_known_type o (is_some (cap_of cells g))) is ∙ type_known kind (is_some (cap_of cells g)) room

  -- ports: ------------------------------------------------------------------------------

  not_zero : (p : ℕ) → (p == 0) ≡ false → 1 ≤ p
  not_zero p h = let apart = eqb-false p 0 h in omega (arith, apart)

  wired : (g p : ℕ) (o : Option (ℕ × ℕ)) → across cells g p ≡ o → is_some o ≡ true → IsWired cells g p
  wired g p None is h = absurd (cc)
  wired g p (Some (h, q)) is some = (h, q, (wire_law cells g p h q).0 is)

  said_down : (o : Option Bool) → is_said_down o ≡ true → o ≡ Some false
  said_down None h = absurd (cc)
  said_down (Some true) h = absurd (cc)
  said_down (Some false) h = refl

  leads : (g p : ℕ) → 1 ≤ p → (is_some (across cells g p) || is_said_down (up_of cells g p)) ≡ true → IsKnownPort cells g p
  leads g p above h =
      elim (is_some (across cells g p)) as (λ t. is_some (across cells g p) ≡ t → (t || is_said_down (up_of cells g p)) ≡ true → IsKnownPort cells g p) [
        | true ↦ λ e k. inr (inr (wired g p (across cells g p) refl e))
        | false ↦ λ e k. inr (inl (above, said_down (up_of cells g p) k))
      ] refl h

  pub known_port : (g p : ℕ) → is_known_port cells (g, p) ≡ true → IsKnownPort cells g p
  known_port g p h =
      elim (p == 0) as (λ t. (p == 0) ≡ t → cond t (is_end_port cells g p) (is_some (across cells g p) || is_said_down (up_of cells g p)) ≡ true
      → IsKnownPort cells g p) [
        | true ↦ λ z k. inl (eqb-true p 0 z, (end_port_law cells g p).0 k)
        | false ↦ λ z k. leads g p (not_zero p z) k
      ] refl h

  above_zero : (p : ℕ) (a b : Bool) → 1 ≤ p → b ≡ true → cond (p == 0) a b ≡ true
  above_zero p a b above h =
      elim (p == 0) as (λ t. (p == 0) ≡ t → cond t a b ≡ true) [
        | true ↦ λ z. absurd (let zero = eqb-true p 0 z in omega (arith, above, zero))
        | false ↦ λ z. h
      ] refl

  or_second : (a b : Bool) → b ≡ true → (a || b) ≡ true
  or_second true b h = refl
  or_second false b h = h

  pub port_known : (g p : ℕ) → IsKnownPort cells g p → is_known_port cells (g, p) ≡ true
  port_known g p (inl (zero, end)) =
      ap (λ t. cond t (is_end_port cells g p) (is_some (across cells g p) || is_said_down (up_of cells g p))) (eq-eqb p 0 zero)
      ∙ (end_port_law cells g p).1 end
  port_known g p (inr (inl (above, down))) =
      above_zero p (is_end_port cells g p) (is_some (across cells g p) || is_said_down (up_of cells g p)) above
      (or_second (is_some (across cells g p)) (is_said_down (up_of cells g p)) (ap is_said_down down))
  port_known g p (inr (inr (h, q, wire))) =
      let above = wire.first.3 in
      above_zero p (is_end_port cells g p) (is_some (across cells g p) || is_said_down (up_of cells g p)) above
      (ap (λ o. is_some o || is_said_down (up_of cells g p)) ((wire_law cells g p h q).1 wire))
