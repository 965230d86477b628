-- It is the first of the edges that are left.
use Rattle.std.specs.Prelude.{◌≡◌, drop}
use Rattle.std.specs.List.{find}
use Rattle.two_orders.specs.Labels.{leads_on}
use Rattle.held_order.specs.TablesBetween.{port_of}
use Rattle.held_order.proofs.tables_between.first_port.Given as goal

abbrev pub invariant-loop-edge : goal.invariant-loop-edge
invariant-loop-edge l =
    port_of (find (λ e. leads_on l.orders l.labels l.sides l.index e.to) l.edges)
    ≡ port_of (find (λ e. leads_on l.orders l.labels l.sides l.index e.to) (drop l.edge-index l.edges))
