-- What a sweep asks next, given what a reply shows. InfiniBand Architecture Specification, Volume 1: subnet management,
-- topology discovery.
use Rattle.std.specs.Prelude.{ℕ, zero, suc, ◌+◌, List, [], ◌∷◌, ◌++◌}
use Rattle.std.specs.Prelude.{if◌then◌else◌}
use Rattle.smp_bytes.specs.NodeType.{is_switch}
use Rattle.reply_facts.specs.declared.report.Context.{Context}
use Rattle.reply_facts.specs.declared.report.Context.TheVariants.{Via, About}
use Rattle.sweep.specs.declared.question.Question.TheVariants as ask
use Rattle.sweep.specs.declared.vertex.Vertex.{Vertex}
use Rattle.sweep.specs.declared.finding.Finding.{Finding}
use Rattle.sweep.specs.declared.finding.Finding.TheVariants.{Nothing, NewVertex, Port}
use Rattle.sweep.specs.declared.finding.Onward.{Onward}
use Rattle.sweep.specs.declared.finding.PortFinding.{PortFinding}
use Rattle.sweep.specs.declared.finding.Onward.TheVariants.{Stays, Leads, TooFar}
use Rattle.sweep.specs.Sweep.{Asking}

-- the questions for PortInfo of some consecutive ports, of which `port` is the first
abbrev pub port_questions : ℕ → ℕ → List ℕ → Context → List Asking
port_questions port zero path context = []
port_questions port (suc more) path context =
    record { question = ask.Port port; path = path; context = context } ∷ port_questions (port + 1) more path context

-- the questions about a new vertex: for a switch, SwitchInfo and PortInfo of all its ports, port 0 first; for another
-- node, PortInfo of the port that was reached
abbrev pub vertex_questions : Vertex → List Asking
vertex_questions v =
    if is_switch v.kind
    then record { question = ask.Switch; path = v.path; context = About v.guid }
    ∷ port_questions 0 (v.ports + 1) v.path (About v.guid)
    else record { question = ask.Port v.port; path = v.path; context = About v.guid } ∷ []

-- the question for SMInfo of the manager at a port, along `path`; none if the manager is not asked
abbrev pub manager_questions : List ℕ → PortFinding → List Asking
manager_questions path found =
    if found.asks_manager
    then record { question = ask.Manager found.guid found.port; path = path; context = About found.guid } ∷ []
    else []

-- the question for NodeInfo of the node behind a port, along `path` with the port appended; none if the sweep does
-- not go on through the port
abbrev pub onward_questions : List ℕ → ℕ → ℕ → Onward → List Asking
onward_questions path guid port Stays = []
onward_questions path guid port Leads =
    record { question = ask.Node; path = path ++ port ∷ []; context = Via guid port } ∷ []
onward_questions path guid port TooFar = []

-- the questions that follow from PortInfo of a port: for the manager at the port, and then for the node behind the port
abbrev pub port_found_questions : List ℕ → PortFinding → List Asking
port_found_questions path found =
    manager_questions path found ++ onward_questions path found.guid found.port found.onward

-- the questions that follow from a finding at the end of `path`
abbrev pub questions : List ℕ → Finding → List Asking
questions path Nothing = []
questions path (NewVertex v) = vertex_questions v
questions path (Port found) = port_found_questions path found
