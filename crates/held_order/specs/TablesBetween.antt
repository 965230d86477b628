-- Tables between two orders, which lead packets up and then down by both.
use Rattle.std.specs.Prelude.{ℕ, ◌*◌, Bool, false, List, [], ◌∷◌, Option, None, Some, length, map, replicate}
use Rattle.std.specs.Prelude.{if◌then◌else◌}
use Rattle.std.specs.List.{enumerate_from, find, range_with_len, zip}
use Rattle.port_graph.specs.declared.edge.Edge.{Edge}
use Rattle.port_graph.specs.Heads.{edges_at}
use Rattle.subnet_view.specs.declared.end_port.EndPort.{EndPort}
use Rattle.subnet_view.specs.Reading.{Cells, switches}
use Rattle.held_tables.specs.Held.{HeldPlan}
use Rattle.held_tables.specs.Tables.{owners_of}
use Rattle.packet_walks.specs.declared.next_hop.NextHop.{NextHop}
use Rattle.packet_walks.specs.declared.next_hop.NextHop.TheVariants.{To, Ends}
use Rattle.packet_walks.specs.declared.next_hop.SwitchStep.{SwitchStep}
use Rattle.packet_walks.specs.HopsByTables.{is_at, switch_step}
use Rattle.next_tables.specs.Assembly.{most_blocks, tables_with}
use Rattle.next_tables.specs.SettledEntries.{Both}
use Rattle.two_orders.specs.declared.labels.Sides.{Sides}
use Rattle.two_orders.specs.Labels.{both_down, label_at, labels_from, leads_on}
use Rattle.two_orders.specs.TwoOrders.{TwoOrders}
use Rattle.held_tables.specs.declared.held.HeldLid.{HeldLid}
use Rattle.held_order.specs.Orders.{edges_in}

-- the hop ends at `port`
abbrev pub arrives : EndPort → NextHop → Bool
arrives port (To j) = false
arrives port (Ends e) = is_at port (Some e)

-- the label that a switch has at first: down by both orders, if its hop under the plan ends at `port`, otherwise None
abbrev pub first_label : EndPort → SwitchStep → Option Sides
first_label port plan = if arrives port plan.hop then Some both_down else None

-- the hop leads on from switch `i`, which has the label `sides`, as the labels and the two orders allow; false if the
-- hop is an end
abbrev pub fits : TwoOrders → List (Option Sides) → Sides → ℕ → NextHop → Bool
fits orders labels sides i (To j) = leads_on orders labels sides i j
fits orders labels sides i (Ends e) = false

-- the port of the edge; 255 for None
abbrev pub port_of : Option Edge → ℕ
port_of None = 255
port_of (Some e) = e.port

-- the entry of switch `i` with the label `sides`: the held one if it fits; otherwise the plan's if that fits; otherwise
-- the port of the first edge that leads on, or 255 if none does
abbrev pub entry_to : List (List Edge) → TwoOrders → List (Option Sides) → Sides → ℕ → Both → ℕ
entry_to edges orders labels sides i x =
    if fits orders labels sides i x.0.hop then x.0.entry else
    (if fits orders labels sides i x.1.hop then x.1.entry else
    port_of (find (λ e. leads_on orders labels sides i e.to) (edges_at edges i)))

-- the entry of switch `i` according to its label; 255 for None
abbrev pub entry_with : List (List Edge) → TwoOrders → List (Option Sides) → Option Sides → ℕ → Both → ℕ
entry_with edges orders labels None i x = 255
entry_with edges orders labels (Some sides) i x = entry_to edges orders labels sides i x

-- the entry of a switch towards `port`: the plan's if the plan's hop ends there, otherwise the one according to the
-- switch's label
abbrev pub entry_between : EndPort → List (List Edge) → TwoOrders → List (Option Sides) → ℕ × Both → ℕ
entry_between port edges orders labels x =
    if arrives port x.1.1.hop then x.1.1.entry else entry_with edges orders labels (label_at labels x.0) x.0 x.1

-- the labels of all switches towards `port`, by two orders, from what each switch does under the plan
abbrev pub labels_towards : EndPort → List (List Edge) → TwoOrders → List SwitchStep → List (Option Sides)
labels_towards port edges orders plan = labels_from edges orders (map (first_label port) plan)

-- the entries of all switches towards `port`, by two orders, from what each switch does under the held tables and
-- under the plan
unfoldable pub entries_towards : EndPort → List (List Edge) → TwoOrders → List SwitchStep → List SwitchStep → List ℕ
entries_towards port edges orders held plan =
    map (entry_between port edges orders (labels_towards port edges orders plan)) (enumerate_from 0 (zip held plan))

-- the entries of all switches for `lid` by two orders, towards the first of the given owners; 255 if there are none
abbrev pub column_for : Cells → List (List Edge) → TwoOrders → HeldPlan → HeldPlan → ℕ → List EndPort → List ℕ
column_for cells edges orders held plan lid [] = replicate (length (switches cells)) 255
column_for cells edges orders held plan lid (port ∷ ports) =
    entries_towards port edges orders (map (switch_step cells held lid) (switches cells))
    (map (switch_step cells plan lid) (switches cells))

-- the entries of all switches for `lid` by two orders, towards the first owner of `lid` in the plan; 255 if `lid` has
-- none there
abbrev pub column_between : Cells → List (List Edge) → TwoOrders → HeldPlan → HeldPlan → ℕ → List ℕ
column_between cells edges orders held plan lid = column_for cells edges orders held plan lid (owners_of plan lid)

-- the tables between two orders, from held tables and a plan: they have the plan's LIDs, for each usable switch the
-- greater of its tops in the held tables and in the plan, and for each LID the entries of `column_between`
unfoldable pub tables_between : Cells → List (List Edge) → TwoOrders → HeldPlan → HeldPlan → HeldPlan
tables_between cells edges orders held plan =
    tables_with cells held plan
    (map (column_between cells edges orders held plan) (range_with_len 0 (64 * most_blocks cells held plan)))

-- the label of each usable switch on the way to the end port of `line`, by two orders
abbrev pub labels_of_line : Cells → TwoOrders → HeldPlan → HeldLid → List (Option Sides)
labels_of_line cells orders plan line =
    labels_towards line.port (edges_in cells) orders (map (switch_step cells plan line.lid) (switches cells))
