-- How many questions a reply brings up, and that a path is extended only if it is not the longest.
use Rattle.std.proofs.Common.{◌≡◌, ℕ, ◌≤◌, Bool, true, false, ◌&&◌, ◌||◌, not, List, [], ◌∷◌, length, refl, arith, sym, ◌∙◌, length-append}
use Rattle.std.specs.Prelude.{Option, Some, None, nat_le, nat_lt, ◌==◌, if◌then◌else◌, is_some}
use Rattle.std.proofs.lemmas.Bool.{and_parts, cond-true, leb-true, ltb-true}
use Rattle.smp_bytes.specs.declared.node_type.NodeType.{NodeType}
use Rattle.smp_bytes.specs.Field.{number_in}
use Rattle.smp_bytes.specs.Header.{node_info}
use Rattle.smp_bytes.specs.NodeType.{is_switch}
use Rattle.smp_bytes.specs.Packet.{attribute_id, hop_count, max_hops}
use Rattle.attr_codec.specs.declared.node_info.NodeInfo.{NodeInfo}
use Rattle.attr_codec.specs.NodeTypeNumber.{type_of_number}
use Rattle.reply_facts.specs.declared.report.Context.{Context}
use Rattle.reply_facts.specs.declared.report.Context.TheVariants.{About}
use Rattle.reply_facts.specs.declared.report.Report.{Report}
use Rattle.reply_facts.specs.declared.report_fault.ReportFault.{ReportFault}
use Rattle.reply_facts.specs.declared.report_fault.ReportFault.TheVariants as fault
use Rattle.reply_facts.specs.Report.{about_of, are_ports_in_range, attribute_fault, fits_node_info, kind_fault, may_be_asked_by, node_info_of, or_else, payload_of, packet_fault, report_fault}
use Rattle.reply_facts.specs.Sighting.{is_cabled_port}
use Rattle.sweep.specs.declared.vertex.Vertex.{Vertex}
use Rattle.sweep.specs.declared.question.Question.{Question}
use Rattle.sweep.specs.declared.question.Question.TheVariants as ask
use Rattle.sweep.specs.declared.request.Request.{Request}
use Rattle.sweep.specs.declared.finding.Finding.TheVariants.{Nothing, NewVertex}
use Rattle.sweep.specs.declared.finding.Onward.{Onward}
use Rattle.sweep.specs.declared.finding.PortFinding.{PortFinding}
use Rattle.sweep.specs.declared.finding.Onward.TheVariants.{Stays, Leads, TooFar}
use Rattle.sweep.specs.Finding.{IsWithinReach, finding, finding_of, found_again, found_anew, leads_on, node_found_of, port_finding_of, port_found, vertex_of}
use Rattle.sweep.specs.Questions.{manager_questions, onward_questions, port_found_questions, questions, vertex_questions}
use Rattle.sweep.specs.Replies.{fault_by, fault_for, is_for, report_for}
use Rattle.sweep.specs.Sweep.{Asking, Sweep, attribute_asked, vertex_at, first_vertex}
use Rattle.sweep.proofs.Asked.{length_adapter, length_switch}

-- faults ---------------------------------------------------------------------------------------

or_else_none : (a b : Option ReportFault) → or_else a b ≡ None → b ≡ None
or_else_none None b e = e
or_else_none (Some f) b e = absurd (cc)

-- where a test would have been a fault, it is false
no_fault : (b : Bool) (f : ReportFault) (rest : Option ReportFault) → (if b then Some f else rest) ≡ None → rest ≡ None
no_fault true f rest e = absurd (cc)
no_fault false f rest e = e

passed : (b : Bool) (f : ReportFault) → (if b then None else Some f) ≡ None → b ≡ true
passed true f e = refl
passed false f e = absurd (cc)

kind_in_range : (context : Context) (info : NodeInfo) (kind : NodeType) → kind_fault context info (Some kind) ≡ None → info.num_ports ≤ 254
kind_in_range context info kind e =
    let all : are_ports_in_range context kind info ≡ true = passed (are_ports_in_range context kind info) fault.Port e in
    let first = and_parts (is_cabled_port info.num_ports && nat_le info.local_port_num info.num_ports) (may_be_asked_by context kind info.local_port_num) all in
    let cabled : is_cabled_port info.num_ports ≡ true = (and_parts (is_cabled_port info.num_ports) (nat_le info.local_port_num info.num_ports) first.0).0 in
    leb-true _ _ (and_parts (nat_le 1 info.num_ports) (nat_le info.num_ports 254) cabled).1

-- what NodeInfo brings up ----------------------------------------------------------------------

vertex_few : (v : Vertex) → (is_switch v.kind ≡ true → v.ports ≤ 254) → length (vertex_questions v) ≤ 256
vertex_few v ports = by (is_switch v.kind) refl
  where
    by : (b : Bool) → is_switch v.kind ≡ b → length (vertex_questions v) ≤ 256
    by true e = let long = length_switch v e in let most = ports e in omega (arith, long, most)
    by false e = let long = length_adapter v e in omega (arith, long)

vertex_if : (path : List ℕ) (v : Vertex) (t : Bool) → (t ≡ false → length (vertex_questions v) ≤ 256)
    → length (questions path (if t then Nothing else NewVertex v)) ≤ 256
vertex_if path v true few = omega arith
vertex_if path v false few = few refl

first_half : (a b : Bool) → (a || b) ≡ false → a ≡ false
first_half false b e = refl
first_half true b e = absurd (cc)

again_few : (s : Sweep) (path : List ℕ) (info : NodeInfo) (first : Vertex) → length (questions path (found_again s path info first)) ≤ 256
again_few s path info first =
    let known : Bool = is_some (vertex_at s.reached info.node_guid info.local_port_num) in
    vertex_if path (vertex_of path info first.kind first.ports) (is_switch first.kind || known)
    (λ e. vertex_few (vertex_of path info first.kind first.ports) (λ t. absurd (cc (first_half (is_switch first.kind) known e, t))))

anew_few : (context : Context) (path : List ℕ) (info : NodeInfo) (k : Option NodeType) → kind_fault context info k ≡ None
    → length (questions path (found_anew path info k)) ≤ 256
anew_few context path info None e = absurd (cc)
anew_few context path info (Some kind) e = vertex_few (vertex_of path info kind info.num_ports) (λ t. kind_in_range context info kind e)

node_few : (s : Sweep) (context : Context) (path : List ℕ) (info : NodeInfo) (first : Option Vertex) → kind_fault context info (type_of_number info.node_type)
    ≡ None → length (questions path (node_found_of s path info first)) ≤ 256
node_few s context path info None e = anew_few context path info (type_of_number info.node_type) e
node_few s context path info (Some first) e = again_few s path info first

-- what PortInfo brings up ----------------------------------------------------------------------

one_or_none : (b : Bool) (a : Asking) → length (if b then a ∷ [] else []) ≤ 1
one_or_none true a = omega arith
one_or_none false a = omega arith

manager_few : (path : List ℕ) (found : PortFinding) → length (manager_questions path found) ≤ 1
manager_few path found = one_or_none found.asks_manager (record { question = ask.Manager found.guid found.port; path = path; context = About found.guid })

onward_few : (path : List ℕ) (guid port : ℕ) (way : Onward) → length (onward_questions path guid port way) ≤ 1
onward_few path guid port Stays = omega arith
onward_few path guid port Leads = omega arith
onward_few path guid port TooFar = omega arith

port_found_few : (path : List ℕ) (found : PortFinding) → length (port_found_questions path found) ≤ 256
port_found_few path found =
    let both = length-append (manager_questions path found) (onward_questions path found.guid found.port found.onward) in
    let first = manager_few path found in
    let second = onward_few path found.guid found.port found.onward in
    omega (arith, both, first, second)

port_few : (s : Sweep) (path : List ℕ) (about : Option ℕ) (port : ℕ) (info : List ℕ) → length (questions path (port_found s path about port info)) ≤ 256
port_few s path None port info = omega arith
port_few s path (Some guid) port info = port_found_few path (port_finding_of s path guid port info)

-- what any reply brings up ---------------------------------------------------------------------

node_kind_fault : (context : Context) (packet : List ℕ) → (number_in attribute_id packet == node_info) ≡ true → attribute_fault context packet ≡ None
    → kind_fault context (node_info_of packet) (type_of_number (node_info_of packet).node_type) ≡ None
node_kind_fault context packet e f =
    no_fault (not (fits_node_info context (number_in hop_count packet))) fault.Context _ (sym (cond-true (number_in attribute_id packet == node_info) _ _ e)
    ∙ f)

no_attribute : (report : Report) → report_fault report ≡ None → attribute_fault report.context report.bytes ≡ None
no_attribute report f =
    or_else_none (packet_fault report.bytes) (attribute_fault report.context report.bytes) (no_fault (report.generation == 0) fault.Generation _ f)

few_of : (s : Sweep) (r : Request) (packet : List ℕ) (q : Question) → (number_in attribute_id packet == attribute_asked q) ≡ true
    → fault_by q (report_for s r packet) ≡ None → length (questions r.path (finding_of s r packet q)) ≤ 256
few_of s r packet ask.Node e f =
    node_few s r.context r.path (node_info_of packet) (first_vertex s.reached (node_info_of packet).node_guid)
    (node_kind_fault r.context packet e (no_attribute (report_for s r packet) f))
few_of s r packet ask.Switch e f = omega arith
few_of s r packet (ask.Port port) e f = port_few s r.path (about_of r.context) port (payload_of packet)
few_of s r packet (ask.Manager guid port) e f = omega arith

-- of a reply without a fault
pub few_questions : (s : Sweep) (r : Request) (packet : List ℕ) → is_for packet r ≡ true → fault_for s r packet ≡ None
    → length (questions r.path (finding s r packet)) ≤ 256
few_questions s r packet e f = few_of s r packet r.question (and_parts _ _ e).0 f

-- a path goes on only where it can --------------------------------------------------------------

leads_within : (t u : Bool) → (if not t then Stays else if u then Leads else TooFar) ≡ Leads → u ≡ true
leads_within true true e = refl
leads_within true false e = absurd (cc)
leads_within false u e = absurd (cc)

reach_if : (path : List ℕ) (v : Vertex) (t : Bool) → IsWithinReach path (if t then Nothing else NewVertex v)
reach_if path v true = tt
reach_if path v false = tt

reach_anew : (path : List ℕ) (info : NodeInfo) (k : Option NodeType) → IsWithinReach path (found_anew path info k)
reach_anew path info None = tt
reach_anew path info (Some kind) = tt

reach_node : (s : Sweep) (path : List ℕ) (info : NodeInfo) (first : Option Vertex) → IsWithinReach path (node_found_of s path info first)
reach_node s path info None = reach_anew path info (type_of_number info.node_type)
reach_node s path info (Some first) =
    reach_if path (vertex_of path info first.kind first.ports) (is_switch first.kind || is_some (vertex_at s.reached info.node_guid info.local_port_num))

reach_port : (s : Sweep) (path : List ℕ) (about : Option ℕ) (port : ℕ) (info : List ℕ) → IsWithinReach path (port_found s path about port info)
reach_port s path None port info = tt
reach_port s path (Some guid) port info =
    λ e. ltb-true _ _ (leads_within (leads_on s path guid port info) (nat_lt (length path) max_hops) e)

reach_of : (s : Sweep) (r : Request) (packet : List ℕ) (q : Question) → IsWithinReach r.path (finding_of s r packet q)
reach_of s r packet ask.Node = reach_node s r.path (node_info_of packet) (first_vertex s.reached (node_info_of packet).node_guid)
reach_of s r packet ask.Switch = tt
reach_of s r packet (ask.Port port) = reach_port s r.path (about_of r.context) port (payload_of packet)
reach_of s r packet (ask.Manager guid port) = tt

pub within_reach : (s : Sweep) (r : Request) (packet : List ℕ) → IsWithinReach r.path (finding s r packet)
within_reach s r packet = reach_of s r packet r.question
