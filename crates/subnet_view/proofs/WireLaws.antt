-- The tests of end ports and wires agree with their statements.
use Rattle.std.proofs.Common.{◌≡◌, ◌≤◌, ℕ, refl, sym, ap, ◌∙◌, arith, Bool, true, false, cond, ◌==◌, ◌&&◌}
use Rattle.std.proofs.lemmas.Bool.{eqb-true, eq-eqb, leb-true, le-leb, and_parts, and_from, true≢false, not-true, not_from_false, false_from_ne_true}
use Rattle.std.specs.Prelude.{None, Some, MatchBool, IsSome, is_some, nat_le}
use Rattle.std.specs.Option.{option_map_or}
use Rattle.smp_bytes.specs.declared.node_type.NodeType.{NodeType}
use Rattle.smp_bytes.specs.NodeType.{is_switch}
use Rattle.reply_facts.specs.Known.{node_of, port_guid_of, cap_of}
use Rattle.subnet_view.specs.Reading.{Cells, is_up, is_switch_node, port_count_of, is_usable, is_port_of}
use Rattle.subnet_view.specs.EndPort.{is_end_port, IsNodeWith, IsEndPort, EndPortLaw}
use Rattle.subnet_view.specs.Wires.{is_wire_end, is_at, CanHaveWire, WireLaw}
use Rattle.subnet_view.proofs.WireEnds.{same_port, at_itself, linked, across_from}

-- a test that chooses between two says what the choice of words says, where each says its own
match_from : (b s x y : Bool) (P Q : Type 0) → s ≡ b → (x ≡ true → P) → (y ≡ true → Q) → cond s x y ≡ true → MatchBool b P Q
match_from true true x y P Q e f g h = f h
match_from true false x y P Q e f g h = absurd (true≢false (sym e))
match_from false true x y P Q e f g h = absurd (true≢false e)
match_from false false x y P Q e f g h = g h

from_match : (b s x y : Bool) (P Q : Type 0) → s ≡ b → (s ≡ true → P → x ≡ true) → (s ≡ false → Q → y ≡ true) → MatchBool b P Q → cond s x y ≡ true
from_match true true x y P Q e f g h = f refl h
from_match true false x y P Q e f g h = absurd (true≢false (sym e))
from_match false true x y P Q e f g h = absurd (true≢false e)
from_match false false x y P Q e f g h = g refl h

module _ (cells : Cells) (g p : ℕ) where
  -- where the node is known
  switch_is : (kind : NodeType) (ports : ℕ) → IsNodeWith cells g kind ports → is_switch_node cells g ≡ is_switch kind
  switch_is kind ports e = ap (λ o. option_map_or (λ n. is_switch n.0) o false) e

  count_is : (kind : NodeType) (ports : ℕ) → IsNodeWith cells g kind ports → port_count_of cells g ≡ ports
  count_is kind ports e = ap (λ o. option_map_or (λ n. n.1) o 0) e

  port_from_test : is_port_of cells g p ≡ true → (1 ≤ p) × (p ≤ port_count_of cells g)
  port_from_test h = let a = and_parts (nat_le 1 p) (nat_le p (port_count_of cells g)) h in (leb-true 1 p a.0, leb-true p (port_count_of cells g) a.1)

  test_from_port : 1 ≤ p → p ≤ port_count_of cells g → is_port_of cells g p ≡ true
  test_from_port h k = and_from (nat_le 1 p) (nat_le p (port_count_of cells g)) (le-leb 1 p h) (le-leb p (port_count_of cells g) k)

  pub end_port_from_test : is_end_port cells g p ≡ true → IsEndPort cells g p
  end_port_from_test h =
      let a = and_parts (cond (is_switch_node cells g) (p == 0) (is_port_of cells g p)) (is_some (port_guid_of cells g p)) h in
      elim (node_of cells g) as (λ o. node_of cells g ≡ o → IsEndPort cells g p) [
        | None ↦ λ e.
            let s : is_switch_node cells g ≡ false = ap (λ o. option_map_or (λ n. is_switch n.0) o false) e in
            let c : port_count_of cells g ≡ 0 = ap (λ o. option_map_or (λ n. n.1) o 0) e in
            let k = port_from_test (sym (ap (λ t. cond t (p == 0) (is_port_of cells g p)) s) ∙ a.0) in
            absurd (omega (arith, c))
        | Some n ↦ λ e. (
          n.0,
          n.1,
          e,
          match_from (is_switch n.0) (is_switch_node cells g) (p == 0) (is_port_of cells g p) (p ≡ 0) ((1 ≤ p) × (p ≤ n.1)) (switch_is n.0 n.1 e)
              (eqb-true p 0) (λ k. let i = port_from_test k in (i.0, omega (arith, i.1, count_is n.0 n.1 e))) a.0,
          a.1,
        )
      ] refl

  pub test_from_end_port : IsEndPort cells g p → is_end_port cells g p ≡ true
  test_from_end_port (kind, ports, e, m, known) =
      and_from (cond (is_switch_node cells g) (p == 0) (is_port_of cells g p)) (is_some (port_guid_of cells g p))
      (from_match (is_switch kind) (is_switch_node cells g) (p == 0) (is_port_of cells g p) (p ≡ 0) ((1 ≤ p) × (p ≤ ports)) (switch_is kind ports e)
      (λ s. eq-eqb p 0) (λ s k. test_from_port k.0 (omega (arith, k.1, count_is kind ports e))) m)
      known

  pub wire_end_from_test : is_wire_end cells g p ≡ true → CanHaveWire cells g p
  wire_end_from_test h =
      let a = and_parts (is_up cells g p && is_port_of cells g p) (cond (is_switch_node cells g) (is_usable cells g) (is_end_port cells g p)) h in
      let b = and_parts (is_up cells g p) (is_port_of cells g p) a.0 in
      let i = port_from_test b.1 in
      elim (node_of cells g) as (λ o. node_of cells g ≡ o → CanHaveWire cells g p) [
        | None ↦ λ e. let c : port_count_of cells g ≡ 0 = ap (λ o. option_map_or (λ n. n.1) o 0) e in absurd (omega (arith, c))
        | Some n ↦ λ e. (
          n.0,
          n.1,
          e,
          i.0,
          omega (arith, i.1, count_is n.0 n.1 e),
          b.0,
          match_from (is_switch n.0) (is_switch_node cells g) (is_usable cells g) (is_end_port cells g p) (IsSome (cap_of cells g))
              (IsSome (port_guid_of cells g p)) (switch_is n.0 n.1 e)
              (λ k. (and_parts (is_switch_node cells g) (is_some (cap_of cells g)) k).1)
              (λ k. (and_parts (cond (is_switch_node cells g) (p == 0) (is_port_of cells g p)) (is_some (port_guid_of cells g p)) k).1) a.1,
        )
      ] refl

  pub test_from_wire_end : CanHaveWire cells g p → is_wire_end cells g p ≡ true
  test_from_wire_end (kind, ports, e, low, high, up, m) =
      let port = test_from_port low (omega (arith, count_is kind ports e)) in
      and_from (is_up cells g p && is_port_of cells g p) (cond (is_switch_node cells g) (is_usable cells g) (is_end_port cells g p))
      (and_from (is_up cells g p) (is_port_of cells g p) up port)
      (from_match (is_switch kind) (is_switch_node cells g) (is_usable cells g) (is_end_port cells g p)
      (IsSome (cap_of cells g)) (IsSome (port_guid_of cells g p)) (switch_is kind ports e)
      (and_from (is_switch_node cells g) (is_some (cap_of cells g)))
      (λ s. and_from (cond (is_switch_node cells g) (p == 0) (is_port_of cells g p)) (is_some (port_guid_of cells g p))
      (ap (λ t. cond t (p == 0) (is_port_of cells g p)) s ∙ port)) m)

pub end_port_law : EndPortLaw
end_port_law cells g p = (end_port_from_test cells g p, test_from_end_port cells g p)

pub wire_law : WireLaw
wire_law cells g p h q = (
  λ e.
      let l = linked cells g p (h, q) e in
      record {
        different = λ same. true≢false (sym (ap (is_at g p) (sym same) ∙ at_itself g p) ∙ not-true (is_at g p (h, q)) l.apart);
        first = wire_end_from_test cells g p l.here;
        second = wire_end_from_test cells h q l.there;
        named_there = l.named_there;
        named_back = l.named_back;
      },
  λ w. across_from cells g p (h, q)
      (record {
        named_there = w.named_there;
        named_back = w.named_back;
        apart = not_from_false (is_at g p (h, q)) (false_from_ne_true (is_at g p (h, q)) (λ k. w.different (sym (same_port g p (h, q) k))));
        here = test_from_wire_end cells g p w.first;
        there = test_from_wire_end cells h q w.second;
      }),
)
