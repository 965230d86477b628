-- Tables are right by the order that they imply, and imply an order if they are right by any order.
use Rattle.std.specs.Prelude.{◌≡◌, ◌≤◌, ◌<◌, ℕ, List, Contains, None, Some, length}
use Rattle.subnet_view.specs.Reading.{Cells, switches}
use Rattle.held_tables.specs.Held.{HeldPlan}
use Rattle.next_tables.specs.SwitchPositions.{AreApart, AreRight, IsOrder}
use Rattle.spread_labels.specs.Orders.{position_of}
use Rattle.two_orders.specs.Agreement.{AgreesUpTo, AreVertices}
use Rattle.held_order.specs.ToldOrder.{IsImpliedOrder, position_in}

-- if tables imply an order, the tables are right for every LID by the positions of switches in this order. Each
-- position is below the number of switches, and two different switches that a wire joins have different positions
abbrev pub ToldOrdersAreRight : Type 0
ToldOrdersAreRight =
    (cells : Cells) (tables : HeldPlan) (preferred taken : List ℕ) → IsImpliedOrder cells tables preferred (Some taken)
    → IsOrder cells (position_in taken) × AreApart cells (position_in taken)
    × ((lid : ℕ) → 1 ≤ lid → AreRight cells (position_in taken) tables lid)

-- if tables are right for every LID by some order, and each usable switch is in `preferred`, the tables imply an order
abbrev pub SomeOrderIsTold : Type 0
SomeOrderIsTold =
    (cells : Cells) (tables : HeldPlan) (preferred : List ℕ) (q : ℕ → ℕ)
    → ((i : ℕ) → i < length (switches cells) → Contains preferred i)
    → ((lid : ℕ) → 1 ≤ lid → AreRight cells q tables lid) → IsImpliedOrder cells tables preferred None → ⊥

-- suppose `preferred` lists the usable switches, and the tables are right for every LID by an order that agrees with
-- `preferred` on the first `k` switches of `preferred`. Then an order that the tables imply agrees with `preferred`
-- on these switches, too
abbrev pub ToldOrdersAgree : Type 0
ToldOrdersAgree =
    (cells : Cells) (tables : HeldPlan) (preferred taken : List ℕ) (q : ℕ → ℕ) (k : ℕ)
    → AreVertices (length (switches cells)) preferred → IsImpliedOrder cells tables preferred (Some taken)
    → ((lid : ℕ) → 1 ≤ lid → AreRight cells q tables lid) → AgreesUpTo preferred q k
    → AgreesUpTo preferred (position_in taken) k

-- if the tables are right for every LID by the order of `preferred`, a list of the usable switches, an order that the
-- tables imply is this order
abbrev pub ToldOrdersAreStable : Type 0
ToldOrdersAreStable =
    (cells : Cells) (tables : HeldPlan) (preferred taken : List ℕ)
    → AreVertices (length (switches cells)) preferred → IsImpliedOrder cells tables preferred (Some taken)
    → ((lid : ℕ) → 1 ≤ lid → AreRight cells (position_of preferred) tables lid)
    → (s : ℕ) → s < length (switches cells) → position_in taken s ≡ position_of preferred s
