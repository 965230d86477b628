-- The entries of all usable switches for a LID.
use Rattle.std.proofs.Common.{◌≡◌, ◌∙◌, ℕ, List, [], ◌∷◌, length, sym, ap}
use Rattle.std.specs.Prelude.{map, replicate}
use Rattle.port_graph.specs.declared.edge.Edge.{Edge}
use Rattle.subnet_view.specs.declared.end_port.EndPort.{EndPort}
use Rattle.subnet_view.specs.Reading.{Cells, switches}
use Rattle.held_tables.specs.Held.{HeldPlan}
use Rattle.held_tables.specs.Tables.{owners_of}
use Rattle.packet_walks.specs.declared.next_hop.SwitchStep.{SwitchStep}
use Rattle.packet_walks.specs.HopsByTables.{switch_step}
use Rattle.two_orders.specs.TwoOrders.{TwoOrders}
use Rattle.held_order.specs.TablesBetween.{column_between, column_for, entries_towards}

module _ (cells : Cells) (edges : List (List Edge)) (orders : TwoOrders) (held plan : HeldPlan) (lid : ℕ) where
  abbrev column_by : List EndPort → List ℕ
  column_by owners = column_for cells edges orders held plan lid owners

  -- a LID that nobody has
  pub nobodys : (entries : List ℕ) (owners : List EndPort) (count : ℕ) → owners ≡ owners_of plan lid → owners ≡ [] → count ≡ length (switches cells)
      → entries ≡ replicate count 255 → entries ≡ column_between cells edges orders held plan lid
  nobodys entries owners count is none all e = e ∙ ap (λ n. replicate n 255) all ∙ ap column_by (sym none ∙ is)

  -- one that some end port has
  pub owned : (entries : List ℕ) (owners later : List EndPort) (port : EndPort) (hs ps : List SwitchStep) → owners ≡ owners_of plan lid
      → owners ≡ port ∷ later → hs ≡ map (switch_step cells held lid) (switches cells) → ps ≡ map (switch_step cells plan lid) (switches cells)
      → entries ≡ entries_towards port edges orders hs ps → entries ≡ column_between cells edges orders held plan lid
  owned entries owners later port hs ps is first hs_are ps_are e =
      e ∙ (λ i. entries_towards port edges orders (hs_are i) (ps_are i)) ∙ ap column_by (sym first ∙ is)
