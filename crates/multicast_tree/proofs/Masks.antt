-- The masks of a tree have its ports.
use Rattle.std.proofs.Common.{◌≡◌, ℕ, refl, subst, true, ◌==◌, ◌&&◌}
use Rattle.std.proofs.lemmas.Bool.{and_from, and_parts, eq-eqb, eqb-true}
use Rattle.std.specs.Prelude.{Contains}
use Rattle.std.specs.List.{list_any}
use Rattle.port_graph.proofs.WalkLemmas.{list_any_at, list_any_found}
use Rattle.multicast_tree.specs.Tree.{InTree, TreePorts, masks_of}
use Rattle.multicast_tree.specs.TreeLaws.{MasksAreWhole}

pub masks_are_whole : MasksAreWhole
masks_are_whole tree g p = (to, from)
  where
    to : masks_of tree g p ≡ true → InTree tree g p
    to e =
        let x = list_any_found (λ (x : TreePorts). x.guid == g && list_any (λ q. q == p) x.ports) tree e in
        let both = and_parts (x.0.guid == g) (list_any (λ q. q == p) x.0.ports) x.2 in
        let q = list_any_found (λ (q : ℕ). q == p) x.0.ports both.1 in
        let same = eqb-true x.0.guid g both.0 in (
          x.0.ports,
          subst (λ (y : ℕ). Contains tree (record { guid = y; ports = x.0.ports })) same x.1,
          subst (λ (y : ℕ). Contains x.0.ports y) (eqb-true q.0 p q.2) q.1,
        )

    from : InTree tree g p → masks_of tree g p ≡ true
    from (ports, h, there) =
        list_any_at (λ (x : TreePorts). x.guid == g && list_any (λ q. q == p) x.ports) tree (record { guid = g; ports = ports }) h
        (and_from (g == g) (list_any (λ q. q == p) ports) (eq-eqb g g refl) (list_any_at (λ (q : ℕ). q == p) ports p there (eq-eqb p p refl)))
