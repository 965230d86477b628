-- What cells are about, and to what links lead.
use Rattle.std.proofs.Common.{ℕ, Bool, List, ◌++◌, ◌∙◌, ap, subst, map}
use Rattle.std.specs.Prelude.{Contains, not}
use Rattle.std.specs.List.{filter_map}
use Rattle.std.proofs.lemmas.Result.{IfOk-weaker}
use Rattle.smp_bytes.specs.Ports.{node_port_cmp}
use Rattle.fact_store.specs.View.{cells_of}
use Rattle.audit_counts.specs.InOrder.{each_once}
use Rattle.audit_counts.specs.Gaps.{is_known_port, port_at}
use Rattle.audit_counts.specs.NamedPorts.{link_key, far_port, kept, own_port}
use Rattle.audit_counts.proofs.Named.{kept_both, kept_passes}
use Rattle.audit_counts.proofs.fact_gaps.ports.unjoined_ports.Goals as goal

pub returns : goal.returns
returns c =
    let cells = cells_of c.args.wires.now in
    let test : ℕ × ℕ → Bool = λ e. not (is_known_port cells e) in
    let own = c.in_ok-add_own_ports.ensures ∙ ap (λ (xs : List (ℕ × ℕ)). xs ++ filter_map (kept test own_port) cells) c.new-ports.ensures.items in
    let both = c.in_ok-add_far_ports.ensures ∙ ap (λ (xs : List (ℕ × ℕ)). xs ++ filter_map (kept test far_port) cells) own
    ∙ kept_both test own_port far_port cells in
    IfOk-weaker c.end_ports_at.result _ _
    (λ named is. is ∙ ap (map port_at) (c.deref-3.ensures.value ∙ c.order_ports.ensures ∙ ap (each_once node_port_cmp) both))
    c.end_ports_at.ensures

pub add_own_ports-requires : goal.add_own_ports-requires
add_own_ports-requires c = λ x there.
    kept_passes (is_known_port (cells_of c.args.wires.now)) x link_key (cells_of c.args.wires.now)
    (subst (λ (xs : List (ℕ × ℕ)). Contains xs x) (c.deref.ensures.value ∙ c.in_ok-known.ensures) there)

pub add_far_ports-requires : goal.add_far_ports-requires
add_far_ports-requires c = λ x there.
    kept_passes (is_known_port (cells_of c.args.wires.now)) x link_key (cells_of c.args.wires.now)
    (subst (λ (xs : List (ℕ × ℕ)). Contains xs x) (c.deref-2.ensures.value ∙ c.in_ok-known.ensures) there)
