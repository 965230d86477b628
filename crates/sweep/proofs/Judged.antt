-- What a sweep returns for a reply without a fault.
use Rattle.std.proofs.Common.{◌≡◌, ℕ, ◌+◌, ◌^◌, ◌<◌, ◌≤◌, Bool, true, false, List, [], ◌∷◌, length, refl, ap, arith, sym, ◌∙◌, subst}
use Rattle.std.specs.Prelude.{Option, Some, None, Ok, Err, find, option_map, ◌==◌}
use Rattle.std.proofs.lemmas.Bool.{and_parts, cond-true, cond-false, le-ltb, lt-ltb, ne_eqb}
use Rattle.smp_bytes.specs.Field.{number_in}
use Rattle.smp_bytes.specs.Packet.{fault_of, transaction_id}
use Rattle.smp_bytes.specs.declared.smp_fault.SmpFault.{SmpFault}
use Rattle.reply_facts.specs.declared.report_fault.ReportFault.{ReportFault}
use Rattle.reply_facts.specs.declared.report_fault.ReportFault.TheVariants.{Generation, Smp}
use Rattle.reply_facts.specs.Report.{answer_fault, attribute_fault, or_else, packet_fault, reply_fault, report_fault, sightings_by_packet}
use Rattle.sweep.specs.declared.fault.SweepFault.TheVariants.{NotOutstanding, Bad, SequenceSpent}
use Rattle.sweep.specs.declared.question.Question.{Question}
use Rattle.sweep.specs.declared.question.Question.TheVariants as ask
use Rattle.sweep.specs.declared.request.Request.{Request}
use Rattle.sweep.specs.Finding.{finding}
use Rattle.sweep.specs.Questions.{questions}
use Rattle.sweep.specs.Replies.{answer_by, answer_for, belongs, fault_by, fault_for, is_for, is_spent, judged, judged_as, judged_by, judged_for, report_for, request_of, sightings_by}
use Rattle.sweep.specs.Sweep.{Sweep, transaction_of}
use Rattle.sweep.proofs.Few.{few_questions}
use Rattle.request_table.proofs.Indices.{some_is}

-- what is found passes the test
found_passes : {T : Type 0} (p : T → Bool) (xs : List T) (x : T) → find p xs ≡ Some x → p x ≡ true
found_passes p [] x e = absurd (cc)
found_passes {T} p (y ∷ ys) x e = by (p y) refl (found_passes p ys x)
  where
    by : (b : Bool) → p y ≡ b → (find p ys ≡ Some x → p x ≡ true) → p x ≡ true
    by true f rest = subst (λ (z : T). p z ≡ true) (some_is y x (sym (cond-true _ _ _ f) ∙ e)) f
    by false f rest = rest (sym (cond-false _ _ _ f) ∙ e)

-- a report of a packet is judged by the packet and the context
pub reply_judged : (s : Sweep) (r : Request) (packet : List ℕ) → 0 < s.generation → fault_of packet ≡ None
    → report_fault (report_for s r packet) ≡ reply_fault r.context packet
reply_judged s r packet positive parses =
    cond-false (s.generation == 0) (Some Generation) (or_else (packet_fault packet) (attribute_fault r.context packet))
    (ne_eqb s.generation 0 (λ e. omega (arith, positive, e)))
    ∙ ap (λ (f : Option SmpFault). or_else (or_else (option_map Smp f) (answer_fault packet)) (attribute_fault r.context packet)) parses

-- and so is the reply to a request, where it isn't one of SMInfo
pub fault_is_reply : (s : Sweep) (r : Request) (packet : List ℕ) (q : Question) → ((guid port : ℕ) → q ≡ ask.Manager guid port → ⊥) → 0 < s.generation
    → fault_of packet ≡ None
    → fault_by q (report_for s r packet) ≡ reply_fault r.context packet
fault_is_reply s r packet ask.Node other positive parses = reply_judged s r packet positive parses
fault_is_reply s r packet ask.Switch other positive parses = reply_judged s r packet positive parses
fault_is_reply s r packet (ask.Port port) other positive parses = reply_judged s r packet positive parses
fault_is_reply s r packet (ask.Manager guid port) other positive parses = absurd (other guid port refl)

-- nor does such a reply tell other facts
pub sightings_of_reply : (s : Sweep) (r : Request) (packet : List ℕ) (q : Question) → ((guid port : ℕ) → q ≡ ask.Manager guid port → ⊥)
    → sightings_by_packet s.generation r.context packet ≡ sightings_by (answer_by q (report_for s r packet))
sightings_of_reply s r packet ask.Node other = refl
sightings_of_reply s r packet ask.Switch other = refl
sightings_of_reply s r packet (ask.Port port) other = refl
sightings_of_reply s r packet (ask.Manager guid port) other = absurd (other guid port refl)

-- a packet of an answer is judged as one
pub packet_judged : (packet : List ℕ) → fault_of packet ≡ None → packet_fault packet ≡ answer_fault packet
packet_judged packet parses = ap (λ (f : Option SmpFault). or_else (option_map Smp f) (answer_fault packet)) parses

pub judged_bad : (s : Sweep) (r : Request) (packet : List ℕ) (why : ReportFault) → request_of s packet ≡ Some r → fault_of packet ≡ None
    → fault_for s r packet ≡ Some why → judged s packet ≡ Err (Bad why)
judged_bad s r packet why waits parses bad =
    ap (judged_as s packet) parses ∙ ap (judged_for s packet) waits ∙ ap (judged_by s r packet) bad

pub judged_lost : (s : Sweep) (packet : List ℕ) → request_of s packet ≡ None → fault_of packet ≡ None → judged s packet ≡ Err NotOutstanding
judged_lost s packet none parses = ap (judged_as s packet) parses ∙ ap (judged_for s packet) none

module _ (s : Sweep) (packet : List ℕ) (r : Request) (waits : request_of s packet ≡ Some r) (taken : fault_for s r packet ≡ None) where
  pub few_asked : length (questions r.path (finding s r packet)) ≤ 256
  few_asked =
      let all : belongs s.generation packet r ≡ true = found_passes (belongs s.generation packet) s.outstanding r waits in
      few_questions s r packet (and_parts (transaction_of s.generation r.number == number_in transaction_id packet) (is_for packet r) all).1 taken

  pub judged_ok : fault_of packet ≡ None → s.next + length (questions r.path (finding s r packet)) ≤ 2 ^ 32 → judged s packet ≡ Ok (answer_for s r packet)
  judged_ok parses fits =
      ap (judged_as s packet) parses ∙ ap (judged_for s packet) waits ∙ ap (judged_by s r packet) taken
      ∙ cond-false (is_spent s r packet) _ _ (le-ltb (2 ^ 32) (s.next + length (questions r.path (finding s r packet))) fits)

  pub judged_spent : fault_of packet ≡ None → 2 ^ 32 < s.next + length (questions r.path (finding s r packet)) → judged s packet ≡ Err SequenceSpent
  judged_spent parses over =
      ap (judged_as s packet) parses ∙ ap (judged_for s packet) waits ∙ ap (judged_by s r packet) taken
      ∙ cond-true (is_spent s r packet) _ _ (lt-ltb (2 ^ 32) (s.next + length (questions r.path (finding s r packet))) over)
