-- What cells are about, and to what links lead.
use Rattle.std.proofs.Common.{ℕ, Bool, List, ◌++◌, ◌∙◌, ap, subst}
use Rattle.std.specs.Prelude.{Contains, not}
use Rattle.std.specs.List.{filter_map}
use Rattle.std.specs.Ordering.{nat_cmp}
use Rattle.fact_store.specs.View.{cells_of}
use Rattle.audit_counts.specs.InOrder.{each_once}
use Rattle.audit_counts.specs.Gaps.{is_known_node}
use Rattle.audit_counts.specs.NamedPorts.{node_key, far_node, kept, own_node}
use Rattle.audit_counts.proofs.Named.{kept_both, kept_passes}
use Rattle.audit_counts.proofs.fact_gaps.nodes.unusable_nodes.Goals as goal

pub returns : goal.returns
returns c =
    let cells = cells_of c.args.store.now in
    let test : ℕ → Bool = λ g. not (is_known_node cells g) in
    let own = c.in_ok-add_own_nodes.ensures ∙ ap (λ (xs : List ℕ). xs ++ filter_map (kept test own_node) cells) c.new-guids.ensures.items in
    let both = c.in_ok-add_far_nodes.ensures ∙ ap (λ (xs : List ℕ). xs ++ filter_map (kept test far_node) cells) own ∙ kept_both test own_node far_node cells in
    c.order_guids.ensures ∙ ap (each_once nat_cmp) both

pub add_own_nodes-requires : goal.add_own_nodes-requires
add_own_nodes-requires c = λ x there.
    kept_passes (is_known_node (cells_of c.args.store.now)) x node_key (cells_of c.args.store.now)
    (subst (λ (xs : List ℕ). Contains xs x) (c.deref.ensures.value ∙ c.in_ok-known.ensures) there)

pub add_far_nodes-requires : goal.add_far_nodes-requires
add_far_nodes-requires c = λ x there.
    kept_passes (is_known_node (cells_of c.args.store.now)) x node_key (cells_of c.args.store.now)
    (subst (λ (xs : List ℕ). Contains xs x) (c.deref-2.ensures.value ∙ c.in_ok-known.ensures) there)
