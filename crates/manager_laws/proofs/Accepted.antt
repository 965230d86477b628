-- What is so of a reply that a sweep accepts.
use Rattle.std.proofs.Common.{◌≡◌, ℕ, zero, suc, ◌+◌, ◌<◌, ◌≤◌, ◌^◌, Bool, true, false, cond, List, [], ◌∷◌, length, get_or, refl, sym, ap, ◌∙◌, arith}
use Rattle.std.proofs.lemmas.Bool.{and_parts, eqb-true, ltb-false, not-false}
use Rattle.std.proofs.lemmas.List.{ext_get_or, get_or-drop, get_or-take, length-drop, length-take-le}
use Rattle.std.specs.Prelude.{Option, Some, None, Result, Ok, Err, take, drop, option_map, slice_index, not, ◌==◌, ◌&&◌}
use Rattle.smp_bytes.specs.declared.node_type.NodeType.{NodeType}
use Rattle.smp_bytes.specs.declared.node_type.NodeType.TheVariants.{ChannelAdapter, Switch, Router}
use Rattle.smp_bytes.specs.declared.smp_fault.SmpFault.{SmpFault}
use Rattle.smp_bytes.specs.Header.{get_resp, done, node_info, port_info, switch_info}
use Rattle.smp_bytes.specs.Field.{number_in}
use Rattle.smp_bytes.specs.Packet.{fault_of, method, status, is_directed, is_returning, hop_pointer, hop_count, initial_path, attribute_id, attribute_modifier}
use Rattle.smp_bytes.proofs.BitLaws.{byte-number_in}
use Rattle.attr_codec.specs.NodeTypeNumber.{number_of_type, type_of_number}
use Rattle.reply_facts.specs.declared.report.Context.{Context}
use Rattle.reply_facts.specs.declared.report.Report.{Report}
use Rattle.reply_facts.specs.declared.report_fault.ReportFault.{ReportFault}
use Rattle.reply_facts.specs.declared.report_fault.ReportFault.TheVariants as fault
use Rattle.reply_facts.specs.Report.{or_else, answer_fault, are_ports_in_range, fits_node_info, kind_fault, node_info_of, node_info_fault, port_info_fault, about_fault, attribute_fault, packet_fault, report_fault}
use Rattle.fabric_sim.specs.ToldOfEnd.{path_of}
use Rattle.sweep.specs.declared.answer.Answer.{Answer}
use Rattle.sweep.specs.declared.fault.SweepFault.{SweepFault}
use Rattle.sweep.specs.declared.fault.SweepFault.TheVariants.{SequenceSpent}
use Rattle.sweep.specs.declared.question.Question.{Question}
use Rattle.sweep.specs.declared.question.Question.TheVariants as ask
use Rattle.sweep.specs.declared.request.Request.{Request}
use Rattle.sweep.specs.Sweep.{Sweep, attribute_asked, modifier_asked}
use Rattle.sweep.specs.Finding.{finding}
use Rattle.sweep.specs.Questions.{questions}
use Rattle.smp_bytes.specs.Answers.{has_ports}
use Rattle.sweep.specs.Replies.{is_for, belongs, request_of, report_for, fault_by, fault_for, answer_for, is_spent, judged_by, judged_for, judged_as, judged}

-- faults ------------------------------------------------------------------------------------------

or_none : (a b : Option ReportFault) → or_else a b ≡ None → (a ≡ None) × (b ≡ None)
or_none None b e = (refl, e)
or_none (Some x) b e = cc

chosen_none : (b : Bool) (x : ReportFault) (y : Option ReportFault) → cond b (Some x) y ≡ None → (b ≡ false) × (y ≡ None)
chosen_none true x y e = cc
chosen_none false x y e = (refl, e)

-- an answer of an agent that did what was asked, back at the sender
pub record IsGoodAnswer (packet : List ℕ) : Type 0 where
  pub directed : is_directed packet ≡ true
  pub returning : is_returning packet ≡ true
  pub done_is : status packet ≡ done

good_answer : (packet : List ℕ) → answer_fault packet ≡ None → IsGoodAnswer packet
good_answer packet e =
    let class = chosen_none (not (is_directed packet)) fault.Class _ e in
    let meth = chosen_none (not (number_in method packet == get_resp)) fault.Method _ class.1 in
    let back = chosen_none (not (is_returning packet && number_in hop_pointer packet == 0)) fault.Direction _ meth.1 in
    let stat = chosen_none (not (status packet == done)) fault.Status None back.1 in
    record {
      directed = not-false (is_directed packet) class.0;
      returning = (and_parts (is_returning packet) (number_in hop_pointer packet == 0) (not-false _ back.0)).0;
      done_is = eqb-true (status packet) done (not-false _ stat.0);
    }

same_Ok : (r : Result Answer SweepFault) (x y : Answer) → r ≡ Ok x → r ≡ Ok y → x ≡ y
same_Ok r x y e f = cc

-- a sweep's answer ------------------------------------------------------------------------------------

pub record IsAccepted (s : Sweep) (packet : List ℕ) (answer : Answer) : Type 0 where
  pub request : Request
  pub belongs : request_of s packet ≡ Some request
  pub good : IsGoodAnswer packet
  pub judged_is : fault_for s request packet ≡ None
  pub room : s.next + length (questions request.path (finding s request packet)) ≤ 2 ^ 32
  pub answer_is : answer ≡ answer_for s request packet

-- the report of a reply has no fault, nor has its packet
report_parts : (report : Report) → report_fault report ≡ None → (packet_fault report.bytes ≡ None) × (attribute_fault report.context report.bytes ≡ None)
report_parts report e =
    or_none (packet_fault report.bytes) (attribute_fault report.context report.bytes) (chosen_none (report.generation == 0) fault.Generation _ e).1

packet_good : (q : Question) (report : Report) → fault_by q report ≡ None → packet_fault report.bytes ≡ None
packet_good (ask.Manager guid port) report e = e
packet_good question report e = (report_parts report e).0

-- where a node was asked what it is, so is the attribute judged
pub attribute_good : (q : Question) (report : Report) → fault_by q report ≡ None → attribute_asked q ≡ node_info → attribute_fault report.context report.bytes
    ≡ None
attribute_good (ask.Manager guid port) report e asked = absurd (omega (arith, asked))
attribute_good question report e asked = (report_parts report e).1

module _ (s : Sweep) (packet : List ℕ) (answer : Answer) where
  by_room : (r : Request) → request_of s packet ≡ Some r → fault_for s r packet ≡ None → (b : Bool) → is_spent s r packet ≡ b
      → cond b (Err SequenceSpent) (Ok (answer_for s r packet)) ≡ Ok answer → IsAccepted s packet answer
  by_room r found none true e h = cc
  by_room r found none false e h =
      let answered = or_none (option_map fault.Smp (fault_of packet)) (answer_fault packet) (packet_good r.question (report_for s r packet) none) in
      record {
        request = r;
        belongs = found;
        good = good_answer packet answered.1;
        judged_is = none;
        room = ltb-false _ _ e;
        answer_is = let same : answer_for s r packet ≡ answer = same_Ok (Ok (answer_for s r packet)) (answer_for s r packet) answer refl h in sym same;
      }

  by_fault : (r : Request) → request_of s packet ≡ Some r → (why : Option ReportFault) → fault_for s r packet ≡ why
      → judged_by s r packet why ≡ Ok answer → IsAccepted s packet answer
  by_fault r found (Some why) e h = cc
  by_fault r found None e h = by_room r found e (is_spent s r packet) refl h

  by_request : (m : Option Request) → request_of s packet ≡ m → judged_for s packet m ≡ Ok answer → IsAccepted s packet answer
  by_request None e h = cc
  by_request (Some r) e h = by_fault r e (fault_for s r packet) refl h

  by_bytes : (why : Option SmpFault) → judged_as s packet why ≡ Ok answer → IsAccepted s packet answer
  by_bytes (Some why) h = cc
  by_bytes None h = by_request (request_of s packet) refl h

  pub accepted : judged s packet ≡ Ok answer → IsAccepted s packet answer
  accepted h = by_bytes (fault_of packet) h

-- whose request it is ---------------------------------------------------------------------------------

pub record IsFor (packet : List ℕ) (r : Request) : Type 0 where
  pub attribute : number_in attribute_id packet ≡ attribute_asked r.question
  pub modifier : number_in attribute_modifier packet ≡ modifier_asked r.question
  pub hops : number_in hop_count packet ≡ length r.path
  pub ports : has_ports packet 1 r.path ≡ true

pub is_for_it : (generation : ℕ) (packet : List ℕ) (r : Request) → belongs generation packet r ≡ true → IsFor packet r
is_for_it generation packet r e =
    let one = and_parts _ (is_for packet r) e in
    let two = and_parts (number_in attribute_id packet == attribute_asked r.question) _ one.1 in
    let three = and_parts (number_in attribute_modifier packet == modifier_asked r.question) _ two.1 in
    let way = and_parts (is_directed packet) (number_in hop_count packet == length r.path && has_ports packet 1 r.path) three.1 in
    let four = and_parts (number_in hop_count packet == length r.path) (has_ports packet 1 r.path) way.1 in
    record { attribute = eqb-true _ _ two.0; modifier = eqb-true _ _ three.0; hops = eqb-true _ _ four.0; ports = four.1 }

port_there : (packet path : List ℕ) (from : ℕ) → has_ports packet from path ≡ true → (i : ℕ) → i < length path
    → number_in (initial_path (from + i)) packet ≡ slice_index path i
port_there packet [] from e i less = absurd (omega (arith, less))
port_there packet (port ∷ path) from e i less =
    by_id i less (λ k there. port_there packet path (from + 1) (and_parts (number_in (initial_path from) packet == port) _ e).1 k there)
  where
    parts : ((number_in (initial_path from) packet == port) ≡ true) × (has_ports packet (from + 1) path ≡ true)
    parts = and_parts (number_in (initial_path from) packet == port) (has_ports packet (from + 1) path) e

    by_id : (i : ℕ) → i < length (port ∷ path)
        → ((k : ℕ) → k < length path → number_in (initial_path (from + 1 + k)) packet ≡ slice_index path k)
        → number_in (initial_path (from + i)) packet ≡ slice_index (port ∷ path) i
    by_id zero less later_ones = ap (λ n. number_in (initial_path n) packet) (omega arith) ∙ eqb-true _ _ parts.0
    by_id (suc i) less later_ones =
        let later : from + suc i ≡ from + 1 + i = omega arith in
        ap (λ n. number_in (initial_path n) packet) later ∙ later_ones i (omega (arith, less))

pub path_is : (packet : List ℕ) (r : Request) → IsFor packet r → length packet ≡ 256 → length r.path ≤ 63 → path_of packet ≡ r.path
path_is packet r for count short =
    let size : length (take (length r.path) (drop 129 packet)) ≡ length r.path =
    length-take-le (length r.path) (drop 129 packet) (omega (arith, short, count, length-drop 129 packet)) in
    ap (λ n. take n (drop 129 packet)) for.hops
    ∙ ext_get_or 0 _ r.path size (λ i less.
    let within : i < length r.path = omega (arith, less, size) in
    let id : 129 + i ≡ 128 + (1 + i) = omega arith in
    get_or-take (length r.path) (drop 129 packet) i 0 within
    ∙ get_or-drop 129 packet i 0
    ∙ ap (λ n. get_or packet n 0) id
    ∙ sym (byte-number_in (128 + (1 + i)) packet)
    ∙ port_there packet r.path 1 for.ports i within)

-- what is checked of NodeInfo ----------------------------------------------------------------------------

pub record IsGoodNode (context : Context) (packet : List ℕ) : Type 0 where
  pub kind : NodeType
  pub type_is : type_of_number (node_info_of packet).node_type ≡ Some kind
  pub ranges : are_ports_in_range context kind (node_info_of packet) ≡ true

kind_known : (context : Context) (packet : List ℕ) (m : Option NodeType) → type_of_number (node_info_of packet).node_type ≡ m
    → kind_fault context (node_info_of packet) m ≡ None → IsGoodNode context packet
kind_known context packet None is e = cc
kind_known context packet (Some kind) is e = record { kind = kind; type_is = is; ranges = in_range (are_ports_in_range context kind (node_info_of packet)) e }
  where
    in_range : (b : Bool) → cond b None (Some fault.Port) ≡ None → b ≡ true
    in_range true e = refl
    in_range false e = cc

pub good_node : (context : Context) (packet : List ℕ) → number_in attribute_id packet ≡ node_info → attribute_fault context packet ≡ None
    → IsGoodNode context packet
good_node context packet attribute e =
    let checked : node_info_fault context packet ≡ None =
    sym (ap (λ n. cond (n == node_info) (node_info_fault context packet)
    (cond (n == port_info) (port_info_fault context packet) (cond (n == switch_info) (about_fault context) (Some fault.Attribute)))) attribute)
    ∙ e in
    let fits = chosen_none (not (fits_node_info context (number_in hop_count packet))) fault.Context _ checked in
    kind_known context packet (type_of_number (node_info_of packet).node_type) refl fits.1

pub type_read : (kind : NodeType) → type_of_number (number_of_type kind) ≡ Some kind
type_read ChannelAdapter = refl
type_read Switch = refl
type_read Router = refl
