-- What a reply to a sweep shows: a new vertex, or a port's state. InfiniBand Architecture Specification, Volume 1:
-- subnet management, NodeInfo and PortInfo; topology discovery.
use Rattle.std.specs.Prelude.{◌≡◌, ℕ, ◌+◌, ◌<◌, Bool, true, false, ◌&&◌, ◌||◌, not, List, [], ◌∷◌}
use Rattle.std.specs.Prelude.{length, nat_lt, ◌==◌, if◌then◌else◌, Option, Some, None, is_some}
use Rattle.std.specs.Option.{option_map_or}
use Rattle.smp_bytes.specs.declared.node_type.NodeType.{NodeType}
use Rattle.smp_bytes.specs.NodeType.{is_switch}
use Rattle.smp_bytes.specs.Field.{bits_in}
use Rattle.smp_bytes.specs.Packet.{max_hops}
use Rattle.attr_codec.specs.declared.node_info.NodeInfo.{NodeInfo}
use Rattle.attr_codec.specs.declared.port_state.PortState.{PortState}
use Rattle.attr_codec.specs.NodeTypeNumber.{type_of_number}
use Rattle.attr_codec.specs.PortInfo.{port_state, state_of_number, has_manager}
use Rattle.reply_facts.specs.Report.{about_of, guid_port, is_up_state, node_info_of, payload_of}
use Rattle.sweep.specs.declared.question.Question.{Question}
use Rattle.sweep.specs.declared.question.Question.TheVariants as ask
use Rattle.sweep.specs.declared.request.Request.{Request}
use Rattle.sweep.specs.declared.vertex.Vertex.{Vertex}
use Rattle.sweep.specs.declared.vertex.SeenState.{SeenState}
use Rattle.sweep.specs.declared.finding.Finding.{Finding}
use Rattle.sweep.specs.declared.finding.Finding.TheVariants.{Nothing, NewVertex, Port}
use Rattle.sweep.specs.declared.finding.Onward.{Onward}
use Rattle.sweep.specs.declared.finding.PortFinding.{PortFinding}
use Rattle.sweep.specs.declared.finding.Onward.TheVariants.{Stays, Leads, TooFar}
use Rattle.sweep.specs.Order.{placed}
use Rattle.sweep.specs.Sweep.{Sweep, asking, first_vertex, vertex_at, vertex_key, state_key}
use Rattle.sweep.specs.Questions.{questions}

-- by NodeInfo ---------------------------------------------------------------------------------

-- the vertex that the NodeInfo `info`, read along `path`, reports, for a node of the type `kind` with `ports` ports.
-- Its port is 0 for a switch, and the port that was reached for another node
abbrev pub vertex_of : List ℕ → NodeInfo → NodeType → ℕ → Vertex
vertex_of path info kind ports =
    record {
      guid = info.node_guid;
      port = guid_port kind info.local_port_num;
      kind = kind;
      ports = ports;
      arrival = info.local_port_num;
      path = path;
    }

-- what NodeInfo, read along `path`, shows about a node that is new to the sweep: a vertex; nothing if the node's type
-- is None, which stands for a reserved type
abbrev pub found_anew : List ℕ → NodeInfo → Option NodeType → Finding
found_anew path info None = Nothing
found_anew path info (Some kind) = NewVertex (vertex_of path info kind info.num_ports)

-- what NodeInfo, read along `path`, shows about a node whose first vertex is `first`: nothing if the node is a
-- switch, or has a vertex for the port that was reached; else a vertex for that port, with the type and port count of
-- `first`
abbrev pub found_again : Sweep → List ℕ → NodeInfo → Vertex → Finding
found_again s path info first =
    if is_switch first.kind || is_some (vertex_at s.reached info.node_guid info.local_port_num) then Nothing
    else NewVertex (vertex_of path info first.kind first.ports)

-- what NodeInfo, read along `path`, shows. The last argument is the node's first vertex, or None if the node is new
abbrev pub node_found_of : Sweep → List ℕ → NodeInfo → Option Vertex → Finding
node_found_of s path info None = found_anew path info (type_of_number info.node_type)
node_found_of s path info (Some first) = found_again s path info first

-- what NodeInfo, read along `path`, shows: a new vertex, or nothing
abbrev pub node_found : Sweep → List ℕ → NodeInfo → Finding
node_found s path info = node_found_of s path info (first_vertex s.reached info.node_guid)

-- by PortInfo -----------------------------------------------------------------------------------

-- whether the path is empty, and so leads to the manager's own node
abbrev pub is_start : List ℕ → Bool
is_start [] = true
is_start (port ∷ path) = false

-- whether node `guid` is known to be a switch, and `port` is neither 0 nor the port at which the sweep first reached
-- the node
abbrev pub is_way_on : Sweep → ℕ → ℕ → Bool
is_way_on s guid port =
    option_map_or (λ first. is_switch first.kind
    && (not (port == 0) && not (port == first.arrival))) (first_vertex s.reached guid) false

-- whether the sweep goes on through `port` of node `guid` if the port is up: `path` is empty and `port` is the one
-- that the sweep starts from, or `port` is a way on from a switch (`is_way_on`)
abbrev pub goes_by : Sweep → List ℕ → ℕ → ℕ → Bool
goes_by s path guid port = (is_start path && port == s.origin) || is_way_on s guid port

-- whether the PortInfo `info` says that the port is up, and the port is one through which the sweep goes on
-- (`goes_by`)
abbrev pub leads_on : Sweep → List ℕ → ℕ → ℕ → List ℕ → Bool
leads_on s path guid port info = is_up_state (bits_in port_state info) && goes_by s path guid port

-- whether the sweep goes on through a port: `Stays` if `leads_on` is false; else `Leads` if the path has fewer than
-- 63 ports, and `TooFar` if it has 63 already
abbrev pub onward : Sweep → List ℕ → ℕ → ℕ → List ℕ → Onward
onward s path guid port info =
    if not (leads_on s path guid port info) then Stays
    else if nat_lt (length path) max_hops then Leads
    else TooFar

-- whether node `guid` is known not to be a switch, by its first reply
abbrev pub is_of_adapter : Sweep → ℕ → Bool
is_of_adapter s guid = option_map_or (λ first. not (is_switch first.kind)) (first_vertex s.reached guid) false

-- whether the manager at a port of node `guid` is asked for SMInfo: PortInfo reports a manager, the node is known not
-- to be a switch, and the path is not empty
abbrev pub asks_manager : Sweep → List ℕ → ℕ → List ℕ → Bool
asks_manager s path guid info = has_manager info && (not (is_start path) && is_of_adapter s guid)

-- what the PortInfo `info` of a port shows: its state, whether the manager there is asked, and whether the sweep goes
-- on
abbrev pub port_finding_of : Sweep → List ℕ → ℕ → ℕ → List ℕ → PortFinding
port_finding_of s path guid port info =
    record {
      guid = guid;
      port = port;
      state = state_of_number (bits_in port_state info);
      asks_manager = asks_manager s path guid info;
      onward = onward s path guid port info;
    }

-- what the PortInfo `info` of a port shows, as a finding
abbrev pub port_found_of : Sweep → List ℕ → ℕ → ℕ → List ℕ → Finding
port_found_of s path guid port info = Port (port_finding_of s path guid port info)

-- what the PortInfo `info` of a port shows; nothing if the request was not about a node
abbrev pub port_found : Sweep → List ℕ → Option ℕ → ℕ → List ℕ → Finding
port_found s path None port info = Nothing
port_found s path (Some guid) port info = port_found_of s path guid port info

-- by any reply -----------------------------------------------------------------------------------

-- what the reply `packet` to the request `r` shows, according to the given question; SwitchInfo and SMInfo show
-- nothing
abbrev pub finding_of : Sweep → Request → List ℕ → Question → Finding
finding_of s r packet ask.Node = node_found s r.path (node_info_of packet)
finding_of s r packet ask.Switch = Nothing
finding_of s r packet (ask.Port port) = port_found s r.path (about_of r.context) port (payload_of packet)
finding_of s r packet (ask.Manager guid port) = Nothing

-- what the reply `packet` to the request `r` shows
abbrev pub finding : Sweep → Request → List ℕ → Finding
finding s r packet = finding_of s r packet r.question

-- what the sweep has then ----------------------------------------------------------------------------

-- the vertices, with the finding inserted in ascending order of GUID and port if it is a new vertex
abbrev pub with_vertex : Finding → List Vertex → List Vertex
with_vertex Nothing reached = reached
with_vertex (NewVertex v) reached = placed vertex_key v reached
with_vertex (Port found) reached = reached

-- the states, with the state of a port inserted in ascending order of GUID and port; unchanged if the state is None,
-- which stands for a reserved state, or if the port has a state already
abbrev pub with_state_of : ℕ → ℕ → Option PortState → List SeenState → List SeenState
with_state_of guid port None states = states
with_state_of guid port (Some state) states =
    placed state_key (record { guid = guid; port = port; state = state }) states

-- the states, with the state in the finding inserted in ascending order of GUID and port; unchanged if the finding is
-- not about a port
abbrev pub with_state : Finding → List SeenState → List SeenState
with_state Nothing states = states
with_state (NewVertex v) states = states
with_state (Port found) states = with_state_of found.guid found.port found.state states

-- 1 if a port leads too far (`TooFar`), else 0
abbrev pub one_too_far : Onward → ℕ
one_too_far Stays = 0
one_too_far Leads = 0
one_too_far TooFar = 1

-- the number of ports that lead too far according to a finding: 0 or 1
abbrev pub too_far_by : Finding → ℕ
too_far_by Nothing = 0
too_far_by (NewVertex v) = 0
too_far_by (Port found) = one_too_far found.onward

-- the sweep with the finding at the end of `path` added, and the questions that follow from it queued
abbrev pub with_finding : Sweep → List ℕ → Finding → Sweep
with_finding s path found =
    record (asking s (questions path found)) {
      reached = with_vertex found s.reached;
      states =
          with_state found s.states;
      too_far = s.too_far + too_far_by found;
    }

-- if the sweep goes on through the port, `path` has fewer than 63 ports
abbrev pub IsPathWithinReach : List ℕ → Onward → Type 0
IsPathWithinReach path onward = onward ≡ Leads → length path < max_hops

-- the finding extends no path beyond 63 ports
abbrev pub IsWithinReach : List ℕ → Finding → Type 0
IsWithinReach path Nothing = Unit {0}
IsWithinReach path (NewVertex v) = Unit {0}
IsWithinReach path (Port found) = IsPathWithinReach path found.onward
