-- The lists have what is named and not known, each once.
use Rattle.std.proofs.Common.{◌≡◌, ◌⊎◌, ◌<◌, inl, inr, ℕ, List, Bool, true, false, refl, sym, ap, subst, map, [], ◌∷◌, arith}
use Rattle.std.specs.Prelude.{Contains, filter, not}
use Rattle.std.specs.List.{AllPairs}
use Rattle.std.specs.declared.cmp.Ordering.{Ordering}
use Rattle.std.specs.declared.cmp.Ordering.TheVariants.{Less}
use Rattle.std.specs.Ordering.{nat_cmp}
use Rattle.std.specs.Cmp.{IsTotalOrder}
use Rattle.std.specs.FinMap.{IsAntisymmetric, nat_cmp-IsAntisymmetric}
use Rattle.std.proofs.lemmas.Cmp.{nat_cmp_total, ranked}
use Rattle.std.proofs.lemmas.List.Kept.{AllPairs-cons}
use Rattle.smp_bytes.specs.Ports.{node_port_cmp}
use Rattle.smp_bytes.proofs.NodePorts.{node_port_exact, node_port_total}
use Rattle.subnet_view.specs.declared.end_port.EndPort.{EndPort}
use Rattle.subnet_view.proofs.Apart.{contains_map, contains-from_map}
use Rattle.subnet_view.proofs.Members.{contains_filter, contains-from_filter}
use Rattle.subnet_view.proofs.Taken.{all_from}
use Rattle.audit_counts.specs.InOrder.{each_once}
use Rattle.audit_counts.specs.NamedPorts.{named_nodes, named_ports}
use Rattle.audit_counts.specs.Gaps.{NodesLaw, PortsLaw, is_known_node, is_known_port, port_at, unusable_nodes}
use Rattle.audit_counts.proofs.Known.{known_node, known_port, node_known, port_known}
use Rattle.audit_counts.proofs.Named.{listed_node, listed_port, node_listed, port_listed}
use Rattle.audit_counts.proofs.Rising.{Rises, from_once, in_once, once_rises, pairs_rise}

-- what fails a test, of what is named
module _ {X : Type 0} (test : X → Bool) (cmp : X → X → Ordering) (total : IsTotalOrder cmp) (exact : IsAntisymmetric cmp) (named : List X) where
  abbrev gaps : List X
  gaps = each_once cmp (filter (λ y. not (test y)) named)

  passes_or_gap : (x : X) → Contains named x → (test x ≡ true) ⊎ Contains gaps x
  passes_or_gap x there =
      elim (test x) as (λ t. test x ≡ t → (t ≡ true) ⊎ Contains gaps x) [
        | true ↦ λ e. inl refl
        | false ↦ λ e. inr (in_once cmp total exact (filter (λ y. not (test y)) named) x (contains_filter (λ y. not (test y)) named x there (ap not e)))
      ] refl

  here_gap : (x : X) → Contains gaps x → Contains named x × (test x ≡ true → ⊥)
  here_gap x there =
      let kept = contains-from_filter (λ y. not (test y)) named x (from_once cmp (filter (λ y. not (test y)) named) x there) in (
        kept.0,
        λ yes. (let e = ap not yes in let f = kept.1 in cc),
      )

-- nodes: ------------------------------------------------------------------------------

less_from : (a b : ℕ) → nat_cmp a b ≡ Less → a < b
less_from a b e = let says = ranked a b Less (sym e) in says

pub nodes_law : NodesLaw
nodes_law cells =
    let named = named_nodes cells in
    let test = is_known_node cells in
    record {
      each = λ g here. (elim (passes_or_gap test nat_cmp nat_cmp_total nat_cmp-IsAntisymmetric named g (node_listed cells g here)) [
        | inl passes ↦ inl (known_node cells g passes)
        | inr gap ↦ inr gap
      ]);
      only = λ g there.
          let gap = here_gap test nat_cmp nat_cmp_total nat_cmp-IsAntisymmetric named g there in (
            listed_node cells g gap.0,
            λ known. gap.1 (node_known cells g known),
          );
      rises = λ i j d less within.
          less_from _ _ (pairs_rise nat_cmp (unusable_nodes cells) (once_rises nat_cmp nat_cmp_total (filter (λ g. not (test g)) named)) i j d less within);
    }

-- ports: ------------------------------------------------------------------------------

-- by the names of their parts ports rise as well
abbrev ComesFirst : EndPort → EndPort → Type 0
ComesFirst a b = node_port_cmp (a.node, a.port) (b.node, b.port) ≡ Less

named_rise : (es : List (ℕ × ℕ)) → Rises node_port_cmp es → AllPairs ComesFirst (map port_at es)
named_rise [] rises = λ i j d less within. absurd (omega arith)
named_rise (e ∷ es) rises =
    let later : (y : EndPort) → Contains (map port_at es) y → ComesFirst (port_at e) y =
    λ y there. (let at = contains-from_map port_at es y there in subst (ComesFirst (port_at e)) at.2 (rises.0 at.0 at.1)) in
    AllPairs-cons ComesFirst (port_at e) (map port_at es) (all_from (ComesFirst (port_at e)) (map port_at es) later) (named_rise es rises.1)

pub ports_law : PortsLaw
ports_law cells =
    let named = named_ports cells in
    let test = is_known_port cells in
    let ports = each_once node_port_cmp (filter (λ e. not (test e)) named) in
    record {
      each = λ g p here. (elim (passes_or_gap test node_port_cmp node_port_total node_port_exact named (g, p) (port_listed cells (g, p) here)) [
        | inl passes ↦ inl (known_port cells g p passes)
        | inr gap ↦ inr (contains_map port_at ports (g, p) gap)
      ]);
      only = λ e there.
          let at = contains-from_map port_at ports e there in
          let is : at.0 ≡ (e.node, e.port) = ap (λ (x : EndPort). (x.node, x.port)) at.2 in
          let gap = here_gap test node_port_cmp node_port_total node_port_exact named (e.node, e.port) (subst (λ (x : ℕ × ℕ). Contains ports x) is at.1) in (
            listed_port cells (e.node, e.port) gap.0,
            λ known. gap.1 (port_known cells e.node e.port known),
          );
      rises = named_rise ports (once_rises node_port_cmp node_port_total (filter (λ e. not (test e)) named));
    }
