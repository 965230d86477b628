-- A sweep that is not asked to keep images keeps none.
use Rattle.std.proofs.Common.{◌≡◌, ℕ, List, [], ◌∷◌, refl, ap, ◌∙◌, false}
use Rattle.std.specs.Prelude.{Option, Some, None, Result, Ok, Err}
use Rattle.sweep.specs.declared.answer.Answer.{Answer}
use Rattle.sweep.specs.declared.fault.SweepFault.{SweepFault}
use Rattle.sweep.specs.declared.question.Question.{Question}
use Rattle.sweep.specs.declared.question.Question.TheVariants as ask
use Rattle.sweep.specs.declared.request.Request.{Request}
use Rattle.reply_facts.specs.Report.{about_of, payload_of}
use Rattle.sweep.specs.Images.{Images, image_at, images_about, images_of, images_with, no_images}
use Rattle.sweep.specs.Replies.{after_reply_to, judged, request_of}
use Rattle.sweep.specs.Runs.{Event, Sends, Hears, TimesOut, NoImageUnasked, after, heard, step}
use Rattle.sweep.specs.Sweep.{Sweep, after_next_request_of, after_timeout_of, request_with, started}

-- images stay as none
of_question : (guid : ℕ) (bytes : List ℕ) (q : Question) → images_of (no_images false) guid bytes q ≡ no_images false
of_question guid bytes ask.Node = refl
of_question guid bytes ask.Switch = refl
of_question guid bytes (ask.Port port) = refl
of_question guid bytes (ask.Manager at port) = refl

of_node : (about : Option ℕ) (bytes : List ℕ) (q : Question) → images_about (no_images false) about bytes q ≡ no_images false
of_node None bytes q = refl
of_node (Some guid) bytes q = of_question guid bytes q

replied : (s : Sweep) (packet : List ℕ) (o : Option Request) → s.images ≡ no_images false → (after_reply_to s packet o).images ≡ no_images false
replied s packet None none = none
replied s packet (Some r) none =
    ap (λ images. images_with images r packet) none ∙ of_node (about_of r.context) (payload_of packet) r.question

by_answer : (s : Sweep) (packet : List ℕ) (m : Result Answer SweepFault) → s.images ≡ no_images false → (heard s packet m).images ≡ no_images false
by_answer s packet (Ok answer) none = replied s packet (request_of s packet) none
by_answer s packet (Err fault) none = none

sent : (s : Sweep) (queued : List Request) → s.images ≡ no_images false → (after_next_request_of s queued).sweep.images ≡ no_images false
sent s [] none = none
sent s (r ∷ queued) none = none

timed_out : (s : Sweep) (o : Option Request) → s.images ≡ no_images false → (after_timeout_of s o).images ≡ no_images false
timed_out s None none = none
timed_out s (Some r) none = none

one_event : (s : Sweep) (e : Event) → s.images ≡ no_images false → (step s e).images ≡ no_images false
one_event s Sends none = sent s s.queued none
one_event s (Hears packet) none = by_answer s packet (judged s packet) none
one_event s (TimesOut transaction) none = timed_out s (request_with s.generation transaction s.outstanding) none

all_events : (events : List Event) (s : Sweep) → s.images ≡ no_images false → (after s events).images ≡ no_images false
all_events [] s none = none
all_events (e ∷ events) s none = all_events events (step s e) (one_event s e none)

pub no_image_unasked : NoImageUnasked
no_image_unasked origin generation first events =
    let none = all_events events (started origin generation first false) refl in
    record {
      ports = λ guid port. ap (λ (images : Images). image_at images.ports guid port) none;
      switches = λ guid. ap (λ (images : Images). image_at images.switches guid 0) none;
    }
