-- What stays true of a window over any calls.
use Rattle.std.proofs.Common.{◌≡◌, ℕ, ◌+◌, ◌*◌, ◌<◌, ◌≤◌, suc, Bool, true, false, cond, List, [], ◌∷◌, ◌++◌, length, refl, sym, ap, ◌∙◌, subst, arith}
use Rattle.std.specs.Prelude.{Some, None, Contains, min, nat_lt, not, ◌^◌, ◌-◌, ◌==◌, option_to_list}
use Rattle.std.specs.List.{AllByRecursion}
use Rattle.std.proofs.lemmas.Bool.{and_parts, ltb-true, le-leb}
use Rattle.std.proofs.lemmas.List.{length-append}
use Rattle.smp_bytes.specs.Field.{number_in}
use Rattle.smp_bytes.specs.Header.{sm_info}
use Rattle.smp_bytes.specs.Packet.{attribute_id}
use Rattle.sm_manager.specs.declared.outgoing.Outgoing.{Outgoing}
use Rattle.request_window.specs.declared.limits.Limits.{Limits}
use Rattle.request_window.specs.declared.out.Out.{Out}
use Rattle.request_window.specs.declared.late.Late.TheVariants.{Again, GivenUp}
use Rattle.sm_policy.specs.Policy.{later_by}
use Rattle.request_window.specs.Window.{Window, Given, LateOutcome, TakenOut, answers, behind, first_out, is_late, is_poll, is_sent_again, judged_late, kept_behind, late_in, new_window, out_at, patience, sent_of, unanswered_of, unsent_of}
use Rattle.request_window.specs.Calls.{Call, Queue, Send, Overdue, Answer, DropQueued, DropOut, after_call, after_calls, latest_time, printed_by, printed_by_call, queued_by, queued_by_call, sent_again, told_time}
use Rattle.request_window.specs.WindowLaws.{AtMostOutstanding, EachIsSentAFewTimes, EachPollIsSentOnce, IsSentAFewTimes, NoneIsWaitedForTooLong, SentOnlyWhatWasQueued}

-- lists and tests ----------------------------------------------------------------------------------

all_both : {X : Type 0} (P : X → Type 0) (xs ys : List X) → AllByRecursion P xs → AllByRecursion P ys → AllByRecursion P (xs ++ ys)
all_both P [] ys a b = b
all_both P (x ∷ xs) ys a b = (a.0, all_both P xs ys a.1 b)

all_parts : {X : Type 0} (P : X → Type 0) (xs ys : List X) → AllByRecursion P (xs ++ ys) → AllByRecursion P xs × AllByRecursion P ys
all_parts P [] ys a = (tt, a)
all_parts P (x ∷ xs) ys a = let rest = all_parts P xs ys a.1 in ((a.0, rest.0), rest.1)

all_mapped : {X : Type 0} (P Q : X → Type 0) → ((x : X) → P x → Q x) → (xs : List X) → AllByRecursion P xs → AllByRecursion Q xs
all_mapped P Q f [] a = a
all_mapped P Q f (x ∷ xs) a = (f x a.0, all_mapped P Q f xs a.1)

all_of : {X : Type 0} (P : X → Type 0) → ((x : X) → P x) → (xs : List X) → AllByRecursion P xs
all_of P f [] = tt
all_of P f (x ∷ xs) = (f x, all_of P f xs)

contains_more : {X : Type 0} (x y : X) (xs : List X) → Contains xs y → Contains (x ∷ xs) y
contains_more x y xs c = (suc c.0, omega (arith, c.1), c.2)

all_contained : {X : Type 0} (xs : List X) → AllByRecursion (Contains xs) xs
all_contained [] = tt
all_contained {X} (x ∷ xs) =
    ((0, omega arith, refl), all_mapped (Contains xs) (Contains (x ∷ xs)) (λ (y : X). contains_more x y xs) xs (all_contained xs))

pub by_test : {X : Type 0} (P : X → Type 0) (b : Bool) (x y : X) → (b ≡ true → P x) → (b ≡ false → P y) → P (cond b x y)
by_test P true x y f g = f refl
by_test P false x y f g = g refl

-- the limits stay -------------------------------------------------------------------------------------

same_sent : (time : ℕ) (w : Window) (queued : List Outgoing) → (sent_of time w queued).window.limits ≡ w.limits
same_sent time w [] = refl
same_sent time w (request ∷ later) =
    by_test (λ (g : Given). g.window.limits ≡ w.limits) (nat_lt (length w.outs) w.limits.outstanding)
    (record {
      window = record w { queued = later; outs = w.outs ++ out_at w.limits time 1 request ∷ [] };
      request = Some request;
    })
    (record { window = w; request = None }) (λ room. refl) (λ full. refl)

same_unsent : (w : Window) (queued : List Outgoing) → (unsent_of w queued).window.limits ≡ w.limits
same_unsent w [] = refl
same_unsent w (request ∷ later) = refl

same_unanswered : (w : Window) (outs : List Out) → (unanswered_of w outs).window.limits ≡ w.limits
same_unanswered w [] = refl
same_unanswered w (out ∷ outs) = refl

pub same_limits : (call : Call) (w : Window) → (after_call call w).limits ≡ w.limits
same_limits (Queue request) w = refl
same_limits (Send time) w = same_sent time w w.queued
same_limits (Overdue time) w = refl
same_limits (Answer packet) w = refl
same_limits DropQueued w = same_unsent w w.queued
same_limits DropOut w = same_unanswered w w.outs

-- what holds of the requests that wait, and of those that are out -----------------------------------

-- the limits of the window are `limits`; `Q` holds of each request that waits for its turn, and `P` of each that is out
record Holds (limits : Limits) (Q : Outgoing → Type 0) (P : Out → Type 0) (w : Window) : Type 0 where
  same : w.limits ≡ limits
  queued : AllByRecursion Q w.queued
  outs : AllByRecursion P w.outs

-- at `time`, `P` comes to hold of a request that is sent for the first time if `Q` holds of it, and stays true if it is
-- sent again
record Passes (limits : Limits) (Q : Outgoing → Type 0) (P : Out → Type 0) (time : ℕ) : Type 0 where
  first : (request : Outgoing) → Q request → P (out_at limits time 1 request)
  again : (out : Out) → P out → is_sent_again limits out ≡ true → P (out_at limits time (out.tries + 1) out.request)
  back : (out : Out) → P out → Q out.request

module _ (limits : Limits) (Q : Outgoing → Type 0) (P : Out → Type 0) where
  after_sent : (time : ℕ) → Passes limits Q P time → (w : Window) (queued : List Outgoing) → Holds limits Q P w → AllByRecursion Q queued
      → Holds limits Q P (sent_of time w queued).window × AllByRecursion Q (option_to_list (sent_of time w queued).request)
  after_sent time p w [] h q = (h, tt)
  after_sent time p w (request ∷ later) h q =
      by_test (λ (g : Given). Holds limits Q P g.window × AllByRecursion Q (option_to_list g.request))
      (nat_lt (length w.outs) w.limits.outstanding)
      (record {
        window = record w { queued = later; outs = w.outs ++ out_at w.limits time 1 request ∷ [] };
        request = Some request;
      })
      (record { window = w; request = None })
      (λ room. (
        record {
          same = h.same;
          queued = q.1;
          outs = all_both P w.outs (out_at w.limits time 1 request ∷ []) h.outs
              (subst (λ (l : Limits). P (out_at l time 1 request)) (sym h.same) (p.first request q.0), tt);
        },
        (q.0, tt),
      ))
      (λ full. (h, tt))

  after_late : (time : ℕ) → Passes limits Q P time → (outs : List Out) → AllByRecursion P outs
      → AllByRecursion P (late_in limits time outs).outs × AllByRecursion Q (sent_again (late_in limits time outs).late)
  after_late time p [] a = (tt, tt)
  after_late time p (out ∷ outs) a =
      let Kept : LateOutcome → Type 0 = λ l. AllByRecursion P l.outs × AllByRecursion Q (sent_again l.late) in
      let rest = after_late time p outs a.1 in
      by_test Kept (is_late time out) (judged_late limits time out outs) (behind out (late_in limits time outs))
      (λ late. by_test Kept (is_sent_again limits out)
      (record { outs = out_at limits time (out.tries + 1) out.request ∷ outs; late = Some (Again out.request) })
      (record { outs = outs; late = Some (GivenUp out.request) })
      (λ again. ((p.again out a.0 again, a.1), (p.back out a.0, tt)))
      (λ many. (a.1, tt)))
      (λ soon. ((a.0, rest.0), rest.1))

  after_taken : (test : Out → Bool) (outs : List Out) → AllByRecursion P outs → AllByRecursion P (first_out test outs).outs
  after_taken test [] a = tt
  after_taken test (out ∷ outs) a =
      by_test (λ (t : TakenOut). AllByRecursion P t.outs) (test out) (record { outs = outs; request = Some out.request })
      (kept_behind out (first_out test outs)) (λ yes. a.1) (λ no. (a.0, after_taken test outs a.1))

  after_unsent : (w : Window) (queued : List Outgoing) → Holds limits Q P w → AllByRecursion Q queued → Holds limits Q P (unsent_of w queued).window
  after_unsent w [] h q = h
  after_unsent w (request ∷ later) h q = record { same = h.same; queued = q.1; outs = h.outs }

  after_unanswered : (w : Window) (outs : List Out) → Holds limits Q P w → AllByRecursion P outs → Holds limits Q P (unanswered_of w outs).window
  after_unanswered w [] h a = h
  after_unanswered w (out ∷ outs) h a = record { same = h.same; queued = h.queued; outs = a.1 }

  -- and so after any calls, at times that `P` survives
  after_one : (call : Call) → Passes limits Q P (told_time call) → AllByRecursion Q (queued_by_call call) → (w : Window) → Holds limits Q P w
      → Holds limits Q P (after_call call w) × AllByRecursion Q (printed_by_call call w)
  after_one (Queue request) p q w h =
      (record { same = h.same; queued = all_both Q w.queued (request ∷ []) h.queued q; outs = h.outs }, tt)
  after_one (Send time) p q w h = after_sent time p w w.queued h h.queued
  after_one (Overdue time) p q w h =
      let late = subst (λ (l : Limits). AllByRecursion P (late_in l time w.outs).outs × AllByRecursion Q (sent_again (late_in l time w.outs).late))
      (sym h.same) (after_late time p w.outs h.outs) in
      (record { same = h.same; queued = h.queued; outs = late.0 }, late.1)
  after_one (Answer packet) p q w h =
      (record { same = h.same; queued = h.queued; outs = after_taken (answers packet) w.outs h.outs }, tt)
  after_one DropQueued p q w h = (after_unsent w w.queued h h.queued, tt)
  after_one DropOut p q w h = (after_unanswered w w.outs h h.outs, tt)

  after_all : (most : ℕ) → ((time : ℕ) → time ≤ most → Passes limits Q P time) → (calls : List Call) → latest_time calls ≤ most
      → AllByRecursion Q (queued_by calls) → (w : Window) → Holds limits Q P w
      → Holds limits Q P (after_calls calls w) × AllByRecursion Q (printed_by calls w)
  after_all most p [] by_then q w h = (h, tt)
  after_all most p (call ∷ calls) by_then q w h =
      let parts = all_parts Q (queued_by_call call) (queued_by calls) q in
      let one = after_one call (p (told_time call) (omega (arith, by_then))) parts.0 w h in
      let rest = after_all most p calls (omega (arith, by_then)) parts.1 (after_call call w) one.0 in
      (rest.0, all_both Q (printed_by_call call w) (printed_by calls (after_call call w)) one.1 rest.1)

  at_first : Holds limits Q P (new_window limits)
  at_first = record { same = refl; queued = tt; outs = tt }

-- how often requests are sent ------------------------------------------------------------------------

-- what is sent again was not sent as often as it may be, and is no poll
pub tries_left : (limits : Limits) (out : Out) → is_sent_again limits out ≡ true → out.tries < limits.tries
tries_left limits out again =
    ltb-true out.tries limits.tries (and_parts (nat_lt out.tries limits.tries) (not (is_poll out.request.packet)) again).0

no_poll : (limits : Limits) (out : Out) → is_sent_again limits out ≡ true → is_poll out.request.packet ≡ true → ⊥
no_poll limits out again poll =
    cc (sym (and_parts (nat_lt out.tries limits.tries) (not (is_poll out.request.packet)) again).1 ∙ ap not poll)

-- a poll was sent once
abbrev IsPolledOnce : Out → Type 0
IsPolledOnce out = is_poll out.request.packet ≡ true → out.tries ≡ 1

once_each : (limits : Limits) (time : ℕ) → Passes limits (λ _. Unit {0}) IsPolledOnce time
once_each limits time =
    record { first = λ request q poll. refl; again = λ out p again poll. absurd (no_poll limits out again poll); back = λ out p. tt }

pub each_poll_is_sent_once : EachPollIsSentOnce
each_poll_is_sent_once limits calls =
    (after_all limits (λ _. Unit {0}) IsPolledOnce (latest_time calls) (λ time by_then. once_each limits time) calls (omega arith)
    (all_of (λ _. Unit {0}) (λ _. tt) (queued_by calls)) (new_window limits) (at_first limits (λ _. Unit {0}) IsPolledOnce)).0.outs

few_times : (limits : Limits) → 1 ≤ limits.tries → (time : ℕ) → Passes limits (λ _. Unit {0}) (IsSentAFewTimes limits.tries) time
few_times limits one time =
    record {
      first = λ request q. record { once = omega arith; few = one };
      again = λ out p again. let few = tries_left limits out again in record { once = omega arith; few = omega (arith, few) };
      back = λ out p. tt;
    }

pub each_is_sent_a_few_times : EachIsSentAFewTimes
each_is_sent_a_few_times limits calls one =
    (after_all limits (λ _. Unit {0}) (IsSentAFewTimes limits.tries) (latest_time calls) (λ time by_then. few_times limits one time)
    calls (omega arith) (all_of (λ _. Unit {0}) (λ _. tt) (queued_by calls)) (new_window limits)
    (at_first limits (λ _. Unit {0}) (IsSentAFewTimes limits.tries))).0.outs

-- what is sent ----------------------------------------------------------------------------------------

pub sent_only_what_was_queued : SentOnlyWhatWasQueued
sent_only_what_was_queued limits calls =
    let Q : Outgoing → Type 0 = Contains (queued_by calls) in
    let P : Out → Type 0 = λ out. Q out.request in
    (after_all limits Q P (latest_time calls)
    (λ time by_then. record { first = λ request q. q; again = λ out p few. p; back = λ out p. p })
    calls (omega arith) (all_contained (queued_by calls)) (new_window limits) (at_first limits Q P)).1

-- how long an answer is waited for -------------------------------------------------------------------------

in_time : (a b c d most : ℕ) → a ≤ b → c ≤ d → min (a + c) most ≤ min (b + d) most
in_time a b c d most h k = omega arith

patient : (limits : Limits) (request : Outgoing) → patience limits request ≤ 3 * limits.timeout
patient limits request =
    by_test (λ n. n ≤ 3 * limits.timeout) (number_in attribute_id request.packet == sm_info) (3 * limits.timeout) limits.timeout
    (λ yes. omega arith) (λ no. omega arith)

-- the request is late at `later_by (3 * limits.timeout) t`
abbrev IsLateBy : Limits → ℕ → Out → Type 0
IsLateBy limits t out = out.deadline ≤ later_by (3 * limits.timeout) t

late_by : (limits : Limits) (t time : ℕ) → time ≤ t → Passes limits (λ _. Unit {0}) (IsLateBy limits t) time
late_by limits t time by_then =
    record {
      first = λ request q. in_time time t (patience limits request) (3 * limits.timeout) (2 ^ 64 - 1) by_then (patient limits request);
      again = λ out p few. in_time time t (patience limits out.request) (3 * limits.timeout) (2 ^ 64 - 1) by_then (patient limits out.request);
      back = λ out p. tt;
    }

pub none_is_waited_for_too_long : NoneIsWaitedForTooLong
none_is_waited_for_too_long limits calls t time by_then past =
    all_mapped (IsLateBy limits t) (λ (out : Out). is_late time out ≡ true)
    (λ out late. le-leb out.deadline time (let soon : out.deadline ≤ later_by (3 * limits.timeout) t = late in omega (arith, soon, past)))
    (after_calls calls (new_window limits)).outs
    (after_all limits (λ _. Unit {0}) (IsLateBy limits t) t (late_by limits t) calls by_then
    (all_of (λ _. Unit {0}) (λ _. tt) (queued_by calls)) (new_window limits) (at_first limits (λ _. Unit {0}) (IsLateBy limits t))).0.outs

-- how many are out -----------------------------------------------------------------------------------------

module _ (most : ℕ) where
  few_sent : (time : ℕ) (w : Window) (queued : List Outgoing) → w.limits.outstanding ≡ most → length w.outs ≤ most
      → length (sent_of time w queued).window.outs ≤ most
  few_sent time w [] same few = few
  few_sent time w (request ∷ later) same few =
      by_test (λ (g : Given). length g.window.outs ≤ most) (nat_lt (length w.outs) w.limits.outstanding)
      (record {
        window = record w { queued = later; outs = w.outs ++ out_at w.limits time 1 request ∷ [] };
        request = Some request;
      })
      (record { window = w; request = None })
      (λ room. omega (
        arith,
        length-append w.outs (out_at w.limits time 1 request ∷ []),
        ltb-true (length w.outs) w.limits.outstanding room,
        same,
      ))
      (λ full. few)

  few_unsent : (w : Window) (queued : List Outgoing) → length w.outs ≤ most → length (unsent_of w queued).window.outs ≤ most
  few_unsent w [] few = few
  few_unsent w (request ∷ later) few = few

  few_unanswered : (w : Window) (outs : List Out) → length w.outs ≤ most → length outs ≤ most → length (unanswered_of w outs).window.outs ≤ most
  few_unanswered w [] few same = few
  few_unanswered w (out ∷ outs) few same = omega (arith, same)

  few_late : (limits : Limits) (time : ℕ) (outs : List Out) → length (late_in limits time outs).outs ≤ length outs
  few_late limits time [] = omega arith
  few_late limits time (out ∷ outs) =
      let rest = few_late limits time outs in
      let Few : LateOutcome → Type 0 = λ l. length l.outs ≤ suc (length outs) in
      by_test Few (is_late time out) (judged_late limits time out outs) (behind out (late_in limits time outs))
      (λ late. by_test Few (is_sent_again limits out)
      (record { outs = out_at limits time (out.tries + 1) out.request ∷ outs; late = Some (Again out.request) })
      (record { outs = outs; late = Some (GivenUp out.request) })
      (λ few. omega arith) (λ many. omega arith))
      (λ soon. omega (arith, rest))

  few_taken : (test : Out → Bool) (outs : List Out) → length (first_out test outs).outs ≤ length outs
  few_taken test [] = omega arith
  few_taken test (out ∷ outs) =
      let rest = few_taken test outs in
      by_test (λ (t : TakenOut). length t.outs ≤ suc (length outs)) (test out) (record { outs = outs; request = Some out.request })
      (kept_behind out (first_out test outs)) (λ yes. omega arith) (λ no. omega (arith, rest))

  few_one : (call : Call) (w : Window) → w.limits.outstanding ≡ most → length w.outs ≤ most → length (after_call call w).outs ≤ most
  few_one (Queue request) w same few = few
  few_one (Send time) w same few = few_sent time w w.queued same few
  few_one (Overdue time) w same few = omega (arith, few_late w.limits time w.outs, few)
  few_one (Answer packet) w same few = omega (arith, few_taken (answers packet) w.outs, few)
  few_one DropQueued w same few = few_unsent w w.queued few
  few_one DropOut w same few = few_unanswered w w.outs few few

  few_all : (calls : List Call) (w : Window) → w.limits.outstanding ≡ most → length w.outs ≤ most → length (after_calls calls w).outs ≤ most
  few_all [] w same few = few
  few_all (call ∷ calls) w same few =
      few_all calls (after_call call w) (ap (λ (l : Limits). l.outstanding) (same_limits call w) ∙ same) (few_one call w same few)

pub at_most_outstanding : AtMostOutstanding
at_most_outstanding limits calls = few_all limits.outstanding calls (new_window limits) refl (omega arith)
