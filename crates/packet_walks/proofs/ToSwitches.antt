-- Entries by which a switch forwards packets to another switch.
use Rattle.std.proofs.Common.{◌≡◌, ◌==◌, ℕ, Bool, true, false, cond, List, Option, None, Some, refl, ap}
use Rattle.std.specs.Prelude.{slice_index_or}
use Rattle.std.proofs.lemmas.Option.{same_Some}
use Rattle.port_graph.specs.declared.edge.Edge.{Edge}
use Rattle.subnet_view.specs.declared.end_port.EndPort.{EndPort}
use Rattle.held_tables.specs.declared.audited_switch.AuditedSwitch.{AuditedSwitch}
use Rattle.packet_walks.specs.declared.cause.Cause.{Cause}
use Rattle.packet_walks.specs.declared.packet_end.End.{End}
use Rattle.packet_walks.specs.declared.packet_end.End.TheVariants.{Taken}
use Rattle.held_tables.specs.declared.far_end.Far.{Far}
use Rattle.held_tables.specs.declared.far_end.Far.TheVariants.{Nothing, Switch, Port}
use Rattle.packet_walks.specs.declared.next_hop.NextHop.TheVariants.{To, Ends}
use Rattle.packet_walks.specs.Edges.{edge_by, edge_to, switch_by}
use Rattle.held_tables.specs.Switches.{switch_over}
use Rattle.packet_walks.specs.HopsByTables.{cause_by, next_hop_by, over}

abbrev Stays : Option Edge
Stays = None

some_edge : (b : Bool) (entry to : ℕ) (far : Far) → cond b None (switch_over far) ≡ Some to
    → cond b Stays (edge_to entry far) ≡ Some (record { port = entry; to = to })
some_edge true entry to far h = absurd (cc)
some_edge false entry to Nothing h = absurd (cc)
some_edge false entry to (Switch i) h = ap (λ (k : ℕ). Some (record { port = entry; to = k })) (same_Some i to h)
some_edge false entry to (Port e) h = absurd (cc)

no_edge : (b : Bool) (entry : ℕ) (far : Far) → cond b None (switch_over far) ≡ None → cond b Stays (edge_to entry far) ≡ None
no_edge true entry far h = refl
no_edge false entry Nothing h = refl
no_edge false entry (Switch i) h = absurd (cc)
no_edge false entry (Port e) h = refl

hop_to : (owners : List EndPort) (g : ℕ) (cause : Cause) (end : End) (b : Bool) (to : ℕ) (far : Far) → cond b None (switch_over far) ≡ Some to
    → cond b (Ends end) (over owners g cause far) ≡ To to
hop_to owners g cause end true to far h = absurd (cc)
hop_to owners g cause end false to Nothing h = absurd (cc)
hop_to owners g cause end false to (Switch i) h = ap (λ (k : ℕ). To k) (same_Some i to h)
hop_to owners g cause end false to (Port e) h = absurd (cc)

pub edge_there : (row : List Far) (entry to : ℕ) → switch_by row entry ≡ Some to → edge_by row entry ≡ Some (record { port = entry; to = to })
edge_there row entry to h = some_edge (entry == 0) entry to (slice_index_or row entry Nothing) h

pub none_there : (row : List Far) (entry : ℕ) → switch_by row entry ≡ None → edge_by row entry ≡ None
none_there row entry h = no_edge (entry == 0) entry (slice_index_or row entry Nothing) h

pub goes_to : (owners : List EndPort) (lid : ℕ) (node : AuditedSwitch) (entry to : ℕ) → switch_by node.row entry ≡ Some to
    → next_hop_by owners lid node entry ≡ To to
goes_to owners lid node entry to h =
    hop_to owners node.guid (cause_by node.ports node.top lid entry) (Taken (record { node = node.guid; port = 0 })) (entry == 0) to
    (slice_index_or node.row entry Nothing) h
