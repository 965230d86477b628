-- What a sweep makes of a reply: the request that it belongs to, the answer or the refusal, and the sweep afterwards.
use Rattle.std.specs.Prelude.{ℕ, ◌+◌, ◌^◌, Bool, List, [], length, find, nat_lt, if◌then◌else◌, Option, Some, None, Result, Ok, Err}
use Rattle.smp_bytes.specs.declared.smp_fault.SmpFault.{SmpFault}
use Rattle.smp_bytes.specs.Answers.{answers, is_of}
use Rattle.smp_bytes.specs.Packet.{fault_of}
use Rattle.reply_facts.specs.declared.report.Report.{Report}
use Rattle.reply_facts.specs.declared.report_fault.ReportFault.{ReportFault}
use Rattle.reply_facts.specs.declared.report_fault.ReportFault.TheVariants as fault
use Rattle.attr_codec.specs.SmInfo.{sm_info_in}
use Rattle.reply_facts.specs.Report.{Sightings, packet_fault, payload_of, report_fault, sightings_of}
use Rattle.sweep.specs.declared.answer.Answer.{Answer}
use Rattle.sweep.specs.declared.answer.Answer.TheVariants.{Facts, Seen}
use Rattle.sweep.specs.declared.fault.SweepFault.{SweepFault}
use Rattle.sweep.specs.declared.fault.SweepFault.TheVariants.{NotOutstanding, Bad, SequenceSpent}
use Rattle.sweep.specs.declared.question.Question.{Question}
use Rattle.sweep.specs.declared.question.Question.TheVariants as ask
use Rattle.sweep.specs.declared.request.Request.{Request}
use Rattle.sweep.specs.Sweep.{Sweep, attribute_asked, modifier_asked, transaction_of, without_number}
use Rattle.sweep.specs.Finding.{finding, with_finding}
use Rattle.sweep.specs.Questions.{questions}
use Rattle.sweep.specs.Images.{images_with}

-- which request a reply belongs to ----------------------------------------------------------

-- whether `packet` has the attribute, the modifier and the path of the request `r`
abbrev pub is_for : List ℕ → Request → Bool
is_for packet r = is_of packet (attribute_asked r.question) (modifier_asked r.question) (Some r.path)

-- whether `packet` has the TransactionID, the attribute, the modifier and the path of the request `r`
abbrev pub belongs : ℕ → List ℕ → Request → Bool
belongs generation packet r =
    answers packet (transaction_of generation r.number) (attribute_asked r.question) (modifier_asked r.question)
    (Some r.path)

-- the outstanding request that the reply `packet` belongs to; None if the reply belongs to none
abbrev pub request_of : Sweep → List ℕ → Option Request
request_of s packet = find (belongs s.generation packet) s.outstanding

-- what is answered ----------------------------------------------------------------------------

-- the report of the reply `packet` to the request `r`
abbrev pub report_for : Sweep → Request → List ℕ → Report
report_for s r packet = record { generation = s.generation; context = r.context; bytes = packet }

-- the fault of a reply to a question; None if the reply has no fault. The data of SMInfo are not checked, since a
-- manager may say anything about itself
abbrev pub fault_by : Question → Report → Option ReportFault
fault_by ask.Node report = report_fault report
fault_by ask.Switch report = report_fault report
fault_by (ask.Port port) report = report_fault report
fault_by (ask.Manager guid port) report = packet_fault report.bytes

-- the fault of the reply `packet` to the request `r`; None if the reply has no fault
abbrev pub fault_for : Sweep → Request → List ℕ → Option ReportFault
fault_for s r packet = fault_by r.question (report_for s r packet)

-- the answer in a reply: a report of facts; for SMInfo, the port that was asked, with what the manager there says
abbrev pub answer_by : Question → Report → Answer
answer_by ask.Node report = Facts report
answer_by ask.Switch report = Facts report
answer_by (ask.Port port) report = Facts report
answer_by (ask.Manager guid port) report = Seen guid port (sm_info_in (payload_of report.bytes))

-- the answer in the reply `packet` to the request `r`
abbrev pub answer_for : Sweep → Request → List ℕ → Answer
answer_for s r packet = answer_by r.question (report_for s r packet)

-- whether a request that follows from the reply needs a number of more than 32 bits
abbrev pub is_spent : Sweep → Request → List ℕ → Bool
is_spent s r packet = nat_lt (2 ^ 32) (s.next + length (questions r.path (finding s r packet)))

-- the answer in the reply `packet` to the request `r`, or why the sweep refuses the reply: `Bad` with the given
-- fault, if any, or else `SequenceSpent`
abbrev pub judged_by : Sweep → Request → List ℕ → Option ReportFault → Result Answer SweepFault
judged_by s r packet (Some why) = Err (Bad why)
judged_by s r packet None = if is_spent s r packet then Err SequenceSpent else Ok (answer_for s r packet)

-- the answer in the reply `packet` to the given request, or why the sweep refuses the reply: `NotOutstanding` if
-- there is no request
abbrev pub judged_for : Sweep → List ℕ → Option Request → Result Answer SweepFault
judged_for s packet None = Err NotOutstanding
judged_for s packet (Some r) = judged_by s r packet (fault_for s r packet)

-- the answer in the reply `packet`, or why the sweep refuses the reply; the given fault is the one that its bytes
-- have as a packet
abbrev pub judged_as : Sweep → List ℕ → Option SmpFault → Result Answer SweepFault
judged_as s packet (Some why) = Err (Bad (fault.Smp why))
judged_as s packet None = judged_for s packet (request_of s packet)

-- the answer in the reply `packet`, or why the sweep refuses the reply, lack of memory aside
abbrev pub judged : Sweep → List ℕ → Result Answer SweepFault
judged s packet = judged_as s packet (fault_of packet)

-- the facts in an answer; SMInfo has none
abbrev pub sightings_by : Answer → Sightings
sightings_by (Facts report) = sightings_of report
sightings_by (Seen guid port info) = []

-- what the sweep has then -----------------------------------------------------------------------

-- the sweep once the given request was answered: the request is no longer outstanding, the reply's image is added if
-- images are kept, the finding is added, and the questions that follow from the finding are queued; unchanged if
-- there is no request
abbrev pub after_reply_to : Sweep → List ℕ → Option Request → Sweep
after_reply_to s packet None = s
after_reply_to s packet (Some r) =
    with_finding (record s {
      outstanding = without_number r.number s.outstanding;
      images =
          images_with s.images r packet;
    }) r.path (finding s r packet)

-- the sweep after it took the reply `packet`
abbrev pub after_reply : Sweep → List ℕ → Sweep
after_reply s packet = after_reply_to s packet (request_of s packet)
