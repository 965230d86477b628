-- The order of pairs of a node and a port is total, and pairs are equal if neither comes before the other.
use Rattle.std.proofs.Common.{ℕ}
use Rattle.std.proofs.lemmas.Cmp.{nat_cmp_total, on_total, then_total}
use Rattle.std.proofs.lemmas.Map.Lookups.{exact_pairs}
use Rattle.std.specs.Cmp.{IsTotalOrder}
use Rattle.std.specs.FinMap.{IsAntisymmetric, nat_cmp-IsAntisymmetric}
use Rattle.std.specs.Ordering.{nat_cmp}
use Rattle.smp_bytes.specs.Ports.{node_port_cmp}

pub node_port_total : IsTotalOrder node_port_cmp
node_port_total = then_total (on_total (λ (x : ℕ × ℕ). x.0) nat_cmp_total) (on_total (λ (x : ℕ × ℕ). x.1) nat_cmp_total)

pub node_port_exact : IsAntisymmetric node_port_cmp
node_port_exact = exact_pairs nat_cmp nat_cmp nat_cmp-IsAntisymmetric nat_cmp-IsAntisymmetric
