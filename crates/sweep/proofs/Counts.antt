-- Each number that was given belongs to a request that was answered, timed out, waits or is to be sent.
use Rattle.std.proofs.Common.{◌≡◌, ℕ, suc, ◌+◌, ◌<◌, Bool, true, false, List, [], ◌∷◌, ◌++◌, length, refl, arith, ap, sym, ◌∙◌, subst, append_assoc, length-append}
use Rattle.std.specs.Prelude.{Option, Some, None, Result, Ok, Err, find, remove, slice_get, ◌==◌}
use Rattle.std.proofs.lemmas.Bool.{cond-true, cond-false}
use Rattle.std.proofs.lemmas.List.Edits.{length-remove, remove-append_left}
use Rattle.std.proofs.lemmas.Option.{slice_get_within}
use Rattle.smp_bytes.specs.declared.smp_fault.SmpFault.{SmpFault}
use Rattle.smp_bytes.specs.Packet.{fault_of}
use Rattle.sweep.specs.declared.answer.Answer.{Answer}
use Rattle.sweep.specs.declared.fault.SweepFault.{SweepFault}
use Rattle.sweep.specs.declared.request.Request.{Request}
use Rattle.sweep.specs.Finding.{finding}
use Rattle.sweep.specs.Questions.{questions}
use Rattle.sweep.specs.Replies.{belongs, judged, judged_as, judged_for, after_reply_to, request_of}
use Rattle.sweep.specs.Runs.{EachCounts, Event, Hears, Sends, TimesOut, after, heard, replies_taken, taken_by, unended}
use Rattle.sweep.specs.Sweep.{AreRising, Sweep, first_question, numbered, request_with, after_next_request_of, started, after_timeout_of, transaction_of, without_number}
use Rattle.sweep.proofs.Asked.{length_numbered}
use Rattle.sweep.proofs.Numbers.{ordered_first, rising_asked, rising_ordered, rising_without, without_at}

abbrev pub Rises : Sweep → Type 0
Rises s = AreRising 0 (s.outstanding ++ s.queued) s.next

-- what is found stands somewhere
pub found_somewhere : {T : Type 0} (p : T → Bool) (xs : List T) (x : T) → find p xs ≡ Some x → (i : ℕ) × (slice_get xs i ≡ Some x)
found_somewhere p [] x e = absurd (cc)
found_somewhere {T} p (y ∷ ys) x e = by (p y) refl (found_somewhere p ys x)
  where
    by : (b : Bool) → p y ≡ b → (find p ys ≡ Some x → (i : ℕ) × (slice_get ys i ≡ Some x)) → (i : ℕ) × (slice_get (y ∷ ys) i ≡ Some x)
    by true f rest = (0, sym (cond-true _ _ _ f) ∙ e)
    by false f rest = let later = rest (sym (cond-false _ _ _ f) ∙ e) in (suc later.0, later.1)

-- without one that waits there is one less, and numbers rise
pub record HasLess (s : Sweep) (r : Request) : Type 0 where
  pub less : length (without_number r.number s.outstanding) + 1 ≡ length s.outstanding
  pub rising : AreRising 0 (without_number r.number s.outstanding ++ s.queued) s.next

pub less : (s : Sweep) (r : Request) (i : ℕ) → Rises s → slice_get s.outstanding i ≡ Some r → HasLess s r
less s r i rising at =
    let within : i < length s.outstanding = slice_get_within s.outstanding i r at in
    let gone : without_number r.number s.outstanding ≡ remove s.outstanding i =
    without_at s.outstanding i r (ordered_first (λ (a : Request) (b : Request). a.number
    < b.number) s.outstanding s.queued (rising_ordered 0 (s.outstanding ++ s.queued) s.next rising)) at in
    record {
      less = ap (λ l. length l + 1) gone ∙ length-remove s.outstanding i within;
      rising =
          subst (λ (l : List Request). AreRising 0 l s.next) (remove-append_left s.outstanding s.queued i within ∙ ap (λ l. l ++ s.queued) (sym gone))
          (rising_without 0 (s.outstanding ++ s.queued) s.next i rising);
    }

-- one step, with so many replies taken in it
pub record Steps (s t : Sweep) (taken : ℕ) : Type 0 where
  pub rising : Rises t
  pub count : unended t + taken + s.next ≡ unended s + t.next

stays : (s : Sweep) → Rises s → Steps s s 0
stays s rising = record { rising = rising; count = omega arith }

pub sends : (s : Sweep) (q : List Request) → s.queued ≡ q → Rises s → Steps s (after_next_request_of s q).sweep 0
sends s [] e rising = stays s rising
sends s (r ∷ q) e rising =
    let more = length-append s.outstanding (r ∷ []) in
    record {
      rising = subst (λ (l : List Request). AreRising 0 l s.next) (ap (λ l. s.outstanding ++ l) e ∙ sym (append_assoc s.outstanding (r ∷ []) q)) rising;
      count = omega (arith, more, ap length e);
    }

pub replies : (s : Sweep) (packet : List ℕ) (r : Request) → Rises s → request_of s packet ≡ Some r → Steps s (after_reply_to s packet (Some r)) 1
replies s packet r rising e =
    let at = found_somewhere (belongs s.generation packet) s.outstanding r e in
    let one = less s r at.0 rising at.1 in
    let more = length-append s.queued (numbered s.next (questions r.path (finding s r packet))) in
    let count = length_numbered s.next (questions r.path (finding s r packet)) in
    record {
      rising =
          subst (λ (l : List Request). AreRising 0 l (s.next + length (questions r.path (finding s r packet))))
          (append_assoc (without_number r.number s.outstanding) s.queued (numbered s.next (questions r.path (finding s r packet))))
          (rising_asked 0 (without_number r.number s.outstanding ++ s.queued) s.next (questions r.path (finding s r packet)) one.rising);
      count = omega (arith, one.less, more, count);
    }

hears_as : (s : Sweep) (packet : List ℕ) (f : Option SmpFault) (o : Option Request) → request_of s packet ≡ o → (answer : Answer) → judged_as s packet f
    ≡ Ok answer → Rises s → Steps s (after_reply_to s packet o) 1
hears_as s packet (Some why) o e answer ok rising = absurd (cc)
hears_as s packet None None e answer ok rising = absurd (cc (ap (judged_for s packet) e, ok))
hears_as s packet None (Some r) e answer ok rising = replies s packet r rising e

pub hears : (s : Sweep) (packet : List ℕ) (j : Result Answer SweepFault) → judged s packet ≡ j → Rises s → Steps s (heard s packet j) (taken_by j)
hears s packet (Ok answer) e rising = hears_as s packet (fault_of packet) (request_of s packet) refl answer e rising
hears s packet (Err why) e rising = stays s rising

pub times_out : (s : Sweep) (transaction : ℕ) (o : Option Request) → request_with s.generation transaction s.outstanding ≡ o → Rises s
    → Steps s (after_timeout_of s o) 0
times_out s transaction None e rising = stays s rising
times_out s transaction (Some r) e rising =
    let at = found_somewhere (λ (q : Request). transaction_of s.generation q.number == transaction) s.outstanding r e in
    let one = less s r at.0 rising at.1 in
    record { rising = one.rising; count = omega (arith, one.less) }

-- a run
counts : (events : List Event) (s : Sweep) → Rises s → unended (after s events) + replies_taken s events + s.next ≡ unended s + (after s events).next
counts [] s rising = omega arith
counts (Sends ∷ events) s rising =
    let one = sends s s.queued refl rising in
    let rest = counts events (after_next_request_of s s.queued).sweep one.rising in
    omega (arith, one.count, rest)
counts (Hears packet ∷ events) s rising =
    let one = hears s packet (judged s packet) refl rising in
    let rest = counts events (heard s packet (judged s packet)) one.rising in
    omega (arith, one.count, rest)
counts (TimesOut transaction ∷ events) s rising =
    let one = times_out s transaction (request_with s.generation transaction s.outstanding) refl rising in
    let rest = counts events (after_timeout_of s (request_with s.generation transaction s.outstanding)) one.rising in
    omega (arith, one.count, rest)

pub each_counts : EachCounts
each_counts origin generation first keeps events =
    let all = counts events (started origin generation first keeps) (rising_asked 0 [] first (first_question ∷ []) (omega arith)) in
    omega (arith, all)
