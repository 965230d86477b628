-- Which ports are in the tree.
use Rattle.std.proofs.Common.{◌≡◌, ◌≤◌, ◌-◌, ℕ, refl, ap, ◌∙◌, arith, Bool, true, false, ◌||◌, Option}
use Rattle.std.proofs.lemmas.Bool.{eq-eqb}
use Rattle.std.proofs.lemmas.List.FromFn.{get_or-range_with_len, length-range_with_len}
use Rattle.std.specs.Prelude.{Some, Contains, not}
use Rattle.std.specs.List.{range_with_len}
use Rattle.smp_bytes.proofs.Members.{contains_filter}
use Rattle.port_graph.proofs.Lists.{contains_mapped}
use Rattle.subnet_view.specs.Reading.{Cells, is_usable, port_count_of, switches}
use Rattle.subnet_view.specs.Wires.{across}
use Rattle.subnet_view.proofs.Graphs.{wire_end}
use Rattle.subnet_view.proofs.WireEnds.{linked}
use Rattle.multicast_tree.specs.Tree.{InTree, is_below, is_given, is_tree_port, tree_at, tree_by, tree_ports}

-- the numbers from 1 on, so many
in_range : (n p : ℕ) → 1 ≤ p → p ≤ n → Contains (range_with_len 1 n) p
in_range n p l h = (p - 1, omega (arith, length-range_with_len 1 n), get_or-range_with_len 1 n (p - 1) p (omega arith) ∙ omega arith)

or_right : (a b : Bool) → b ≡ true → (a || b) ≡ true
or_right true b e = refl
or_right false b e = e

or_left : (a b : Bool) → a ≡ true → (a || b) ≡ true
or_left a b e = ap (λ t. t || b) e

module _ (cells : Cells) (parent : ℕ → Option ℕ) where
  -- a port with a wire is listed if it passes the test
  pub listed : (g p : ℕ) (q : ℕ × ℕ) → Contains (switches cells) g → across cells g p ≡ Some q → is_tree_port cells parent g p ≡ true
      → InTree (tree_by cells parent) g p
  listed g p q u w is =
      let port = (wire_end cells g p (linked cells g p q w).here).is_port in (
        tree_ports cells parent g,
        contains_mapped (tree_at cells parent) (switches cells) g u,
        contains_filter (is_tree_port cells parent g) (range_with_len 1 (port_count_of cells g)) p (in_range (port_count_of cells g) p port.0 port.1) is,
      )

  -- the port to the parent passes it
  pub up_passes : (g p : ℕ) → parent g ≡ Some p → is_tree_port cells parent g p ≡ true
  up_passes g p e =
      or_left (is_given (parent g) p) (is_below cells parent (across cells g p)) (ap (λ o. is_given o p) e ∙ eq-eqb p p refl)

  -- and so does a port to a switch whose parent is the switch there
  pub down_passes : (g p h q : ℕ) → across cells g p ≡ Some (h, q) → parent h ≡ Some q → is_tree_port cells parent g p ≡ true
  down_passes g p h q w e =
      or_right (is_given (parent g) p) (is_below cells parent (across cells g p))
      (ap (is_below cells parent) w ∙ or_right (not (is_usable cells h)) (is_given (parent h) q) (ap (λ o. is_given o q) e ∙ eq-eqb q q refl))

  -- and a port to an adapter
  pub out_passes : (g p h q : ℕ) → across cells g p ≡ Some (h, q) → is_usable cells h ≡ false → is_tree_port cells parent g p ≡ true
  out_passes g p h q w leaf =
      or_right (is_given (parent g) p) (is_below cells parent (across cells g p))
      (ap (is_below cells parent) w ∙ or_left (not (is_usable cells h)) (is_given (parent h) q) (ap not leaf))
