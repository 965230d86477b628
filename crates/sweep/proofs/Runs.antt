-- The numbers of the requests that go out rise: those of the queue do, and new ones are above them.
use Rattle.std.proofs.Common.{◌≡◌, ℕ, ◌+◌, ◌<◌, ◌≤◌, List, [], ◌∷◌, ◌++◌, refl, arith, subst}
use Rattle.std.specs.Prelude.{Option, Some, None, Result, Ok, Err}
use Rattle.std.specs.List.{AllByRecursion}
use Rattle.sweep.specs.declared.answer.Answer.{Answer}
use Rattle.sweep.specs.declared.fault.SweepFault.{SweepFault}
use Rattle.sweep.specs.declared.request.Request.{Request}
use Rattle.sweep.specs.Finding.{finding}
use Rattle.sweep.specs.Questions.{questions}
use Rattle.request_table.specs.Order.{AreOrdered}
use Rattle.sweep.specs.Replies.{judged, after_reply_to, request_of}
use Rattle.sweep.specs.Runs.{Event, Sends, Hears, TimesOut, NumbersRise, first_number, heard, numbers_sent}
use Rattle.sweep.specs.Sweep.{AreRising, Sweep, first_question, request_with, after_next_request_of, started, after_timeout_of}
use Rattle.sweep.proofs.Numbers.{rising_asked}
use Rattle.request_table.proofs.Indices.{all_map}

-- the queue's numbers rise from the least on
abbrev Rises : ℕ → Sweep → Type 0
Rises least s = AreRising least s.queued s.next

-- what goes out is not below the least, and rises
abbrev GoOut : ℕ → List ℕ → Type 0
GoOut least numbers = AllByRecursion (λ n. least ≤ n) numbers × AreOrdered (λ a b. a < b) numbers

sends : (s : Sweep) (least : ℕ) (events : List Event) (q : List Request) → s.queued ≡ q → Rises least s
    → ((t : Sweep) (l : ℕ) → Rises l t → GoOut l (numbers_sent t events))
    → GoOut least (first_number q ++ numbers_sent (after_next_request_of s q).sweep events)
sends s least events [] e rising rest = rest s least rising
sends s least events (r ∷ q) e rising rest =
    let split : AreRising least (r ∷ q) s.next = subst (λ (l : List Request). AreRising least l s.next) e rising in
    let later = rest (after_next_request_of s (r ∷ q)).sweep (r.number + 1) split.1 in (
      (
        split.0,
        all_map (λ n. r.number + 1 ≤ n) (λ n. least
            ≤ n) (λ n h. omega (arith, h, split.0)) (numbers_sent (after_next_request_of s (r ∷ q)).sweep events) later.0,
      ),
      (
        all_map (λ n. r.number + 1 ≤ n) (λ n. r.number < n) (λ n h. omega (arith, h)) (numbers_sent (after_next_request_of s (r ∷ q)).sweep events) later.0,
        later.1,
      ),
    )

replied_rises : (s : Sweep) (packet : List ℕ) (least : ℕ) (o : Option Request) → Rises least s → Rises least (after_reply_to s packet o)
replied_rises s packet least None rising = rising
replied_rises s packet least (Some r) rising = rising_asked least s.queued s.next (questions r.path (finding s r packet)) rising

heard_rises : (s : Sweep) (packet : List ℕ) (least : ℕ) (j : Result Answer SweepFault) → Rises least s → Rises least (heard s packet j)
heard_rises s packet least (Ok answer) rising = replied_rises s packet least (request_of s packet) rising
heard_rises s packet least (Err why) rising = rising

timed_out_rises : (s : Sweep) (least : ℕ) (o : Option Request) → Rises least s → Rises least (after_timeout_of s o)
timed_out_rises s least None rising = rising
timed_out_rises s least (Some r) rising = rising

go_out : (events : List Event) (s : Sweep) (least : ℕ) → Rises least s → GoOut least (numbers_sent s events)
go_out [] s least rising = (tt, tt)
go_out (Sends ∷ events) s least rising = sends s least events s.queued refl rising (λ t l h. go_out events t l h)
go_out (Hears packet ∷ events) s least rising = go_out events (heard s packet (judged s packet)) least (heard_rises s packet least (judged s packet) rising)
go_out (TimesOut transaction ∷ events) s least rising =
    go_out events (after_timeout_of s (request_with s.generation transaction s.outstanding)) least
    (timed_out_rises s least (request_with s.generation transaction s.outstanding) rising)

pub numbers_rise : NumbersRise
numbers_rise origin generation first keeps events =
    (go_out events (started origin generation first keeps) 0 (rising_asked 0 [] first (first_question ∷ []) (omega arith))).1
