-- Loads are balanced, or not, as the order asks for.
use Rattle.std.proofs.Common.{◌≡◌, ℕ, true, false, List, refl}
use Rattle.std.specs.Prelude.{None, Some}
use Rattle.spread_labels.specs.declared.key_order.VertexKey.{VertexKey}
use Rattle.subnet_view.specs.SwitchEdges.{SwitchEdges}
use Rattle.spread_routes.specs.Spread.{balanced_by, choices_by}
use Rattle.spread_routes.specs.SwitchOrder.{OrderValue, as_named, balanced_as, from_roots, is_balanced, least_loaded}

pub choices_if : (graph : List SwitchEdges) (keys : List VertexKey) (levels adapters : List ℕ) (order : OrderValue) → is_balanced order ≡ true
    → Some (balanced_by graph keys levels adapters) ≡ choices_by graph keys levels adapters order
choices_if graph keys levels adapters (from_roots roots) e = absurd (cc)
choices_if graph keys levels adapters (as_named switches) e = absurd (cc)
choices_if graph keys levels adapters (balanced_as switches) e = refl
choices_if graph keys levels adapters least_loaded e = refl

pub no_choices_if : (graph : List SwitchEdges) (keys : List VertexKey) (levels adapters : List ℕ) (order : OrderValue) → is_balanced order ≡ false
    → None ≡ choices_by graph keys levels adapters order
no_choices_if graph keys levels adapters (from_roots roots) e = refl
no_choices_if graph keys levels adapters (as_named switches) e = refl
no_choices_if graph keys levels adapters (balanced_as switches) e = absurd (cc)
no_choices_if graph keys levels adapters least_loaded e = absurd (cc)
