-- Numbers, and ports, are equal exactly where neither comes before the other.
use Rattle.std.proofs.Common.{◌≡◌, ◌==◌, ◌&&◌, ℕ, Bool, true, refl, sym, ap, ◌∙◌}
use Rattle.std.specs.Ordering.{eq_by_cmp, is_eq, nat_cmp}
use Rattle.std.specs.Cmp.{IsEquivalence, both_ways, tied_itself}
use Rattle.std.specs.FinMap.{nat_cmp-IsAntisymmetric}
use Rattle.std.proofs.lemmas.Bool.{and_parts, eqb-true, eq-eqb}
use Rattle.std.proofs.lemmas.Cmp.{and_equiv, nat_cmp_total, nat_eq_equiv, on_equiv}
use Rattle.smp_bytes.specs.Ports.{node_port_cmp}
use Rattle.smp_bytes.proofs.NodePorts.{node_port_exact, node_port_total}
use Rattle.reply_facts.proofs.Keys.{equal_from_test}

-- the test that a derived equality is
abbrev pub is_same_port : ℕ × ℕ → ℕ × ℕ → Bool
is_same_port a b = (a.0 == b.0) && (a.1 == b.1)

pub number_ties : (x y : ℕ) → (x == y) ≡ eq_by_cmp nat_cmp x y
number_ties x y =
    both_ways (x == y) (eq_by_cmp nat_cmp x y) (λ e. ap is_eq (ap (nat_cmp x) (sym (eqb-true x y e)) ∙ tied_itself nat_cmp_total x))
    (λ e. eq-eqb x y (nat_cmp-IsAntisymmetric x y (equal_from_test (nat_cmp x y) e)))

pub port_equiv : IsEquivalence is_same_port
port_equiv = and_equiv (on_equiv (λ (e : ℕ × ℕ). e.0) nat_eq_equiv) (on_equiv (λ (e : ℕ × ℕ). e.1) nat_eq_equiv)

pub port_same : (x y : ℕ × ℕ) → is_same_port x y ≡ true → x ≡ y
port_same x y e =
    let parts = and_parts (x.0 == y.0) (x.1 == y.1) e in
    λ i. (eqb-true x.0 y.0 parts.0 i, eqb-true x.1 y.1 parts.1 i)

tied_to_itself : (x y : ℕ × ℕ) → x ≡ y → eq_by_cmp node_port_cmp x y ≡ true
tied_to_itself x y e = ap is_eq (ap (node_port_cmp x) (sym e) ∙ tied_itself node_port_total x)

itself : (x y : ℕ × ℕ) → x ≡ y → is_same_port x y ≡ true
itself x y e = ap (is_same_port x) (sym e) ∙ port_equiv.refl x

pub port_ties : (x y : ℕ × ℕ) → is_same_port x y ≡ eq_by_cmp node_port_cmp x y
port_ties x y =
    both_ways (is_same_port x y) (eq_by_cmp node_port_cmp x y) (λ e. tied_to_itself x y (port_same x y e))
    (λ e. itself x y (node_port_exact x y (equal_from_test (node_port_cmp x y) e)))
