-- How often the requests that pass a test are let out.
use Rattle.std.proofs.Common.{◌≡◌, ℕ, ◌+◌, ◌*◌, ◌<◌, ◌≤◌, Bool, true, false, cond, List, [], ◌∷◌, ◌++◌, length, refl, ap, ◌∙◌, arith}
use Rattle.std.specs.Prelude.{Some, None, nat_lt, ◌-◌, count_by, option_to_list}
use Rattle.std.proofs.lemmas.List.Recursion.{is_count_by}
use Rattle.sm_manager.specs.declared.outgoing.Outgoing.{Outgoing}
use Rattle.request_window.specs.declared.limits.Limits.{Limits}
use Rattle.request_window.specs.declared.out.Out.{Out}
use Rattle.request_window.specs.declared.late.Late.TheVariants.{Again, GivenUp}
use Rattle.request_window.specs.Window.{Window, Given, LateOutcome, TakenOut, answers, behind, first_out, is_late, is_sent_again, judged_late, kept_behind, late_in, new_window, out_at, sent_of, unanswered_of, unsent_of}
use Rattle.request_window.specs.Calls.{Call, Queue, Send, Overdue, Answer, DropQueued, DropOut, after_call, after_calls, printed_by, printed_by_call, queued_by, queued_by_call, sent_again}
use Rattle.request_window.specs.WindowLaws.{PrintedAtMost}
use Rattle.request_window.proofs.Lives.{by_test, same_limits, tries_left}

module _ (test : Outgoing → Bool) (tries : ℕ) where
  -- how many requests pass
  abbrev how_many : List Outgoing → ℕ
  how_many [] = 0
  how_many (request ∷ requests) = cond (test request) 1 0 + how_many requests

  -- how often the requests that pass may be sent in all
  abbrev sends : List Outgoing → ℕ
  sends [] = 0
  sends (request ∷ requests) = cond (test request) tries 0 + sends requests

  -- how often those that are out and pass may still be sent
  abbrev left : List Out → ℕ
  left [] = 0
  left (out ∷ outs) = cond (test out.request) (tries - out.tries) 0 + left outs

  many_both : (xs ys : List Outgoing) → how_many (xs ++ ys) ≡ how_many xs + how_many ys
  many_both [] ys = omega arith
  many_both (x ∷ xs) ys = let rest = many_both xs ys in omega (arith, rest)

  sends_both : (xs ys : List Outgoing) → sends (xs ++ ys) ≡ sends xs + sends ys
  sends_both [] ys = omega arith
  sends_both (x ∷ xs) ys = let rest = sends_both xs ys in omega (arith, rest)

  left_both : (xs ys : List Out) → left (xs ++ ys) ≡ left xs + left ys
  left_both [] ys = omega arith
  left_both (x ∷ xs) ys = let rest = left_both xs ys in omega (arith, rest)

  counted : (xs : List Outgoing) → how_many xs ≡ count_by test xs
  counted xs = is_count_by how_many test refl (λ x xs. one (test x) (how_many xs)) xs
    where
      one : (b : Bool) (n : ℕ) → cond b 1 0 + n ≡ cond b (1 + n) n
      one true n = omega arith
      one false n = omega arith

  all_sends : (xs : List Outgoing) → sends xs ≡ tries * how_many xs
  all_sends [] = omega arith
  all_sends (x ∷ xs) = by (test x) (all_sends xs)
    where
      by : (b : Bool) → sends xs ≡ tries * how_many xs → cond b tries 0 + sends xs ≡ tries * (cond b 1 0 + how_many xs)
      by true rest = omega (arith, rest)
      by false rest = omega (arith, rest)

  -- those that are out ---------------------------------------------------------------------------------

  left_late : (limits : Limits) → limits.tries ≡ tries → (time : ℕ) (outs : List Out)
      → how_many (sent_again (late_in limits time outs).late) + left (late_in limits time outs).outs ≤ left outs
  left_late limits same time [] = omega arith
  left_late limits same time (out ∷ outs) =
      let Fewer : LateOutcome → Type 0 = λ l. how_many (sent_again l.late) + left l.outs ≤ left (out ∷ outs) in
      let rest = left_late limits same time outs in
      by_test Fewer (is_late time out) (judged_late limits time out outs) (behind out (late_in limits time outs))
      (λ late. by_test Fewer (is_sent_again limits out)
      (record { outs = out_at limits time (out.tries + 1) out.request ∷ outs; late = Some (Again out.request) })
      (record { outs = outs; late = Some (GivenUp out.request) })
      (λ left. again (test out.request) (tries_left limits out left))
      (λ many. omega arith))
      (λ soon. omega (arith, rest))
    where
      again : (b : Bool) → out.tries < limits.tries
          → cond b 1 0 + 0 + (cond b (tries - (out.tries + 1)) 0 + left outs) ≤ cond b (tries - out.tries) 0 + left outs
      again true few = omega (arith, few, same)
      again false few = omega arith

  left_taken : (which : Out → Bool) (outs : List Out) → left (first_out which outs).outs ≤ left outs
  left_taken which [] = omega arith
  left_taken which (out ∷ outs) =
      let rest = left_taken which outs in
      by_test (λ (t : TakenOut). left t.outs ≤ left (out ∷ outs)) (which out) (record { outs = outs; request = Some out.request })
      (kept_behind out (first_out which outs)) (λ yes. omega arith) (λ no. omega (arith, rest))

  -- a window ---------------------------------------------------------------------------------------------

  -- how often the requests of a window that pass may still be sent
  abbrev left_in : Window → ℕ
  left_in w = sends w.queued + left w.outs

  module _ (some : 1 ≤ tries) where
    left_sent : (time : ℕ) (w : Window) (queued : List Outgoing) → sends w.queued ≡ sends queued
        → how_many (option_to_list (sent_of time w queued).request) + left_in (sent_of time w queued).window ≤ sends queued + left w.outs
    left_sent time w [] e = omega (arith, e)
    left_sent time w (request ∷ later) e =
        by_test (λ (g : Given). how_many (option_to_list g.request) + left_in g.window ≤ sends (request ∷ later) + left w.outs)
        (nat_lt (length w.outs) w.limits.outstanding)
        (record {
          window = record w { queued = later; outs = w.outs ++ out_at w.limits time 1 request ∷ [] };
          request = Some request;
        })
        (record { window = w; request = None })
        (λ room. once (test request) (left (w.outs ++ out_at w.limits time 1 request ∷ [])) (left_both w.outs (out_at w.limits time 1 request ∷ [])))
        (λ full. omega (arith, e))
      where
        once : (b : Bool) (after : ℕ) → after ≡ left w.outs + (cond b (tries - 1) 0 + 0)
            → cond b 1 0 + 0 + (sends later + after) ≤ cond b tries 0 + sends later + left w.outs
        once true after h = omega (arith, h, some)
        once false after h = omega (arith, h)

    left_unsent : (w : Window) (queued : List Outgoing) → sends w.queued ≡ sends queued → left_in (unsent_of w queued).window ≤ sends queued + left w.outs
    left_unsent w [] e = omega (arith, e)
    left_unsent w (request ∷ later) e = omega arith

    left_unanswered : (w : Window) (outs : List Out) → left w.outs ≡ left outs → left_in (unanswered_of w outs).window ≤ sends w.queued + left outs
    left_unanswered w [] e = omega (arith, e)
    left_unanswered w (out ∷ outs) e = omega arith

    left_one : (call : Call) (w : Window) → w.limits.tries ≡ tries
        → how_many (printed_by_call call w) + left_in (after_call call w) ≤ left_in w + sends (queued_by_call call)
    left_one (Queue request) w same = omega (arith, sends_both w.queued (request ∷ []))
    left_one (Send time) w same = omega (arith, left_sent time w w.queued refl)
    left_one (Overdue time) w same = omega (arith, left_late w.limits same time w.outs)
    left_one (Answer packet) w same = omega (arith, left_taken (answers packet) w.outs)
    left_one DropQueued w same = omega (arith, left_unsent w w.queued refl)
    left_one DropOut w same = omega (arith, left_unanswered w w.outs refl)

    left_all : (limits : Limits) → limits.tries ≡ tries → (calls : List Call) (w : Window) → w.limits ≡ limits
        → how_many (printed_by calls w) + left_in (after_calls calls w) ≤ left_in w + sends (queued_by calls)
    left_all limits same [] w e = omega arith
    left_all limits same (call ∷ calls) w e =
        let one = left_one call w (ap (λ (l : Limits). l.tries) e ∙ same) in
        let rest = left_all limits same calls (after_call call w) (same_limits call w ∙ e) in
        omega (
          arith,
          one,
          rest,
          many_both (printed_by_call call w) (printed_by calls (after_call call w)),
          sends_both (queued_by_call call) (queued_by calls),
        )

pub printed_at_most : PrintedAtMost
printed_at_most limits calls test some =
    let all = left_all test limits.tries some limits refl calls (new_window limits) refl in
    omega (
      arith,
      all,
      counted test limits.tries (printed_by calls (new_window limits)),
      ap (λ n. limits.tries * n) (counted test limits.tries (queued_by calls)),
      all_sends test limits.tries (queued_by calls),
    )
