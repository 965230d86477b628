-- Each request for SMInfo that went out was answered, waits, or counts as a silent manager.
use Rattle.std.proofs.Common.{◌≡◌, ℕ, zero, suc, ◌+◌, ◌<◌, Bool, true, false, List, [], ◌∷◌, ◌++◌, refl, arith, ap, sym, ◌∙◌}
use Rattle.std.specs.Prelude.{Option, Some, None, Result, Ok, Err, remove, slice_get, ◌==◌}
use Rattle.std.proofs.lemmas.Bool.{cond-true, cond-false}
use Rattle.smp_bytes.specs.declared.smp_fault.SmpFault.{SmpFault}
use Rattle.smp_bytes.specs.Packet.{fault_of}
use Rattle.reply_facts.specs.declared.report_fault.ReportFault.{ReportFault}
use Rattle.sweep.specs.declared.answer.Answer.{Answer}
use Rattle.sweep.specs.declared.fault.SweepFault.{SweepFault}
use Rattle.sweep.specs.declared.fault.SweepFault.TheVariants.{SequenceSpent}
use Rattle.sweep.specs.declared.question.Question.{Question}
use Rattle.sweep.specs.declared.question.Question.TheVariants as ask
use Rattle.sweep.specs.declared.request.Request.{Request}
use Rattle.reply_facts.specs.declared.report.Report.{Report}
use Rattle.sweep.specs.Replies.{after_reply_to, answer_by, answer_for, belongs, fault_for, is_spent, judged, judged_as, judged_by, judged_for, request_of}
use Rattle.sweep.specs.Runs.{EachManagerCounts, Event, Hears, Sends, TimesOut, after, heard, manager_in_first, manager_told, managers_heard, managers_in, managers_sent}
use Rattle.sweep.specs.Sweep.{Sweep, after_next_request_of, after_timeout_of, first_question, managers_asked, request_with, started, transaction_of, without_number}
use Rattle.sweep.proofs.Counts.{Rises, found_somewhere, hears, sends, times_out}
use Rattle.sweep.proofs.Numbers.{ordered_first, rising_asked, rising_ordered, without_at}

-- those that wait, and those that were given up
abbrev due : Sweep → ℕ
due s = managers_in s.outstanding + s.silent_managers

one_more : (requests : List Request) (r : Request) → managers_in (requests ++ r ∷ []) ≡ managers_in requests + managers_asked r.question
one_more [] r = omega arith
one_more (q ∷ requests) r = let rest = one_more requests r in omega (arith, rest)

one_less : (requests : List Request) (i : ℕ) (r : Request) → slice_get requests i ≡ Some r
    → managers_in (remove requests i) + managers_asked r.question ≡ managers_in requests
one_less [] i r e = absurd (cc)
one_less (q ∷ requests) zero r e = let same : q ≡ r = cc in omega (arith, ap (λ (x : Request). managers_asked x.question) same)
one_less (q ∷ requests) (suc i) r e = let rest = one_less requests i r e in omega (arith, rest)

-- without one that waits
without : (s : Sweep) (r : Request) (i : ℕ) → Rises s → slice_get s.outstanding i ≡ Some r
    → managers_in (without_number r.number s.outstanding) + managers_asked r.question ≡ managers_in s.outstanding
without s r i rising at =
    let gone : without_number r.number s.outstanding ≡ remove s.outstanding i =
    without_at s.outstanding i r (ordered_first (λ (a : Request) (b : Request). a.number
    < b.number) s.outstanding s.queued (rising_ordered 0 (s.outstanding ++ s.queued) s.next rising)) at in
    ap (λ l. managers_in l + managers_asked r.question) gone ∙ one_less s.outstanding i r at

-- what is answered to a request
told_by : (q : Question) (report : Report) → manager_told (Ok (answer_by q report)) ≡ managers_asked q
told_by ask.Node report = refl
told_by ask.Switch report = refl
told_by (ask.Port port) report = refl
told_by (ask.Manager guid port) report = refl

answered_by : (s : Sweep) (r : Request) (packet : List ℕ) (f : Option ReportFault) (answer : Answer) → judged_by s r packet f ≡ Ok answer
    → manager_told (Ok answer) ≡ managers_asked r.question
answered_by s r packet (Some why) answer e = absurd (cc)
answered_by s r packet None answer e = by_room (is_spent s r packet) refl
  where
    by_room : (b : Bool) → is_spent s r packet ≡ b → manager_told (Ok answer) ≡ managers_asked r.question
    by_room true f = absurd (cc (e, cond-true (is_spent s r packet) (Err SequenceSpent) (Ok (answer_for s r packet)) f))
    by_room false f =
        let same : answer_for s r packet ≡ answer = cc (e, cond-false (is_spent s r packet) (Err SequenceSpent) (Ok (answer_for s r packet)) f) in
        ap (λ (a : Answer). manager_told (Ok a)) (sym same) ∙ told_by r.question _

answered_as : (s : Sweep) (packet : List ℕ) (f : Option SmpFault) (o : Option Request) → request_of s packet ≡ o → (answer : Answer)
    → judged_as s packet f ≡ Ok answer → Rises s → due (after_reply_to s packet o) + manager_told (Ok answer) ≡ due s
answered_as s packet (Some why) o e answer ok rising = absurd (cc)
answered_as s packet None None e answer ok rising = absurd (cc (ap (judged_for s packet) e, ok))
answered_as s packet None (Some r) e answer ok rising =
    let at = found_somewhere (belongs s.generation packet) s.outstanding r e in
    let less = without s r at.0 rising at.1 in
    let told = answered_by s r packet (fault_for s r packet) answer (sym (ap (judged_for s packet) e) ∙ ok) in
    omega (arith, less, told)

hears_one : (s : Sweep) (packet : List ℕ) (j : Result Answer SweepFault) → judged s packet ≡ j → Rises s → due (heard s packet j) + manager_told j ≡ due s
hears_one s packet (Ok answer) e rising = answered_as s packet (fault_of packet) (request_of s packet) refl answer e rising
hears_one s packet (Err why) e rising = omega arith

sends_one : (s : Sweep) (q : List Request) → due (after_next_request_of s q).sweep ≡ due s + manager_in_first q
sends_one s [] = omega arith
sends_one s (r ∷ q) = let more = one_more s.outstanding r in omega (arith, more)

gives_up : (s : Sweep) (transaction : ℕ) (o : Option Request) → request_with s.generation transaction s.outstanding ≡ o → Rises s
    → due (after_timeout_of s o) ≡ due s
gives_up s transaction None e rising = refl
gives_up s transaction (Some r) e rising =
    let at = found_somewhere (λ (q : Request). transaction_of s.generation q.number == transaction) s.outstanding r e in
    let less = without s r at.0 rising at.1 in
    omega (arith, less)

-- a run
counts : (events : List Event) (s : Sweep) → Rises s → managers_heard s events + due (after s events) ≡ due s + managers_sent s events
counts [] s rising = omega arith
counts (Sends ∷ events) s rising =
    let one = sends_one s s.queued in
    let rest = counts events (after_next_request_of s s.queued).sweep (sends s s.queued refl rising).rising in
    omega (arith, one, rest)
counts (Hears packet ∷ events) s rising =
    let one = hears_one s packet (judged s packet) refl rising in
    let rest = counts events (heard s packet (judged s packet)) (hears s packet (judged s packet) refl rising).rising in
    omega (arith, one, rest)
counts (TimesOut transaction ∷ events) s rising =
    let o = request_with s.generation transaction s.outstanding in
    let one = gives_up s transaction o refl rising in
    let rest = counts events (after_timeout_of s o) (times_out s transaction o refl rising).rising in
    omega (arith, one, rest)

pub each_manager_counts : EachManagerCounts
each_manager_counts origin generation first keeps events =
    let all = counts events (started origin generation first keeps) (rising_asked 0 [] first (first_question ∷ []) (omega arith)) in
    omega (arith, all)
