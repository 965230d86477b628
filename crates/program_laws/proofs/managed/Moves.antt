-- Requests on their way are moved and removed, and no others come.
use Rattle.std.proofs.Common.{◌≡◌, ◌++◌, ℕ, Bool, true, false, List, [], ◌∷◌, Option, None, Some, length, refl, subst}
use Rattle.std.proofs.lemmas.Bool.{cond_both}
use Rattle.std.specs.List.{AllByRecursion, filter}
use Rattle.std.specs.Prelude.{if◌then◌else◌, nat_lt}
use Rattle.sm_manager.specs.declared.outgoing.Outgoing.{Outgoing}
use Rattle.request_window.specs.Window.{Given, LateOutcome, TakenOut, Window, after_drop_out, after_drop_queued, after_send, first_out, is_late, is_sent_again}
use Rattle.request_window.specs.Window.{judged_late, late_in, out_at, sent_of, unanswered_of, unsent_of}
use Rattle.request_window.specs.declared.late.Late.{Late}
use Rattle.request_window.specs.declared.late.Late.TheVariants.{Again, GivenUp}
use Rattle.request_window.specs.declared.limits.Limits.{Limits}
use Rattle.request_window.specs.declared.out.Out.{Out}

module _ {X : Type 0} (P : X → Type 0) where
  pub both : (xs ys : List X) → AllByRecursion P xs → AllByRecursion P ys → AllByRecursion P (xs ++ ys)
  both [] ys p q = q
  both (x ∷ xs) ys p q = (p.0, both xs ys p.1 q)

  pub first_of : (xs ys : List X) → AllByRecursion P (xs ++ ys) → AllByRecursion P xs
  first_of [] ys p = tt
  first_of (x ∷ xs) ys p = (p.0, first_of xs ys p.1)

  pub later_of : (xs ys : List X) → AllByRecursion P (xs ++ ys) → AllByRecursion P ys
  later_of [] ys p = p
  later_of (x ∷ xs) ys p = later_of xs ys p.1

  kept_if : (b : Bool) (x : X) (xs : List X) → P x → AllByRecursion P xs → AllByRecursion P (if b then x ∷ xs else xs)
  kept_if true x xs h p = (h, p)
  kept_if false x xs h p = p

  pub filtered : (test : X → Bool) (xs : List X) → AllByRecursion P xs → AllByRecursion P (filter test xs)
  filtered test [] p = tt
  filtered test (x ∷ xs) p = kept_if (test x) x (filter test xs) p.0 (filtered test xs p.1)

pub weaker : {X : Type 0} (P Q : X → Type 0) → ((x : X) → P x → Q x) → (xs : List X) → AllByRecursion P xs → AllByRecursion Q xs
weaker P Q more [] p = tt
weaker P Q more (x ∷ xs) p = (more x p.0, weaker P Q more xs p.1)

-- a request that is given has the property
abbrev pub IsGivenOf : (Outgoing → Type 0) → Option Outgoing → Type 0
IsGivenOf P None = Unit {0}
IsGivenOf P (Some request) = P request

-- the request of a late one has the property, if it is to be sent again
abbrev pub IsLateOf : (Outgoing → Type 0) → Option Late → Type 0
IsLateOf P None = Unit {0}
IsLateOf P (Some (Again request)) = P request
IsLateOf P (Some (GivenUp request)) = Unit {0}

module _ (P : Outgoing → Type 0) where
  abbrev pub OfOuts : List Out → Type 0
  OfOuts outs = AllByRecursion (λ (out : Out). P out.request) outs

  -- what is out has the property, and so has what is to be sent again
  pub record AreLate (o : LateOutcome) : Type 0 where
    pub outs : OfOuts o.outs
    pub late : IsLateOf P o.late

  -- what is on its way has the property, and so has what is given
  pub record AreGiven (g : Given) : Type 0 where
    pub queued : AllByRecursion P g.window.queued
    pub outs : OfOuts g.window.outs
    pub request : IsGivenOf P g.request

  judged : (limits : Limits) (time : ℕ) (out : Out) (outs : List Out) → P out.request → OfOuts outs → AreLate (judged_late limits time out outs)
  judged limits time out outs h p =
      cond_both (is_sent_again limits out) _ _ AreLate (λ _. record { outs = (h, p); late = h }) (λ _. record { outs = p; late = tt })

  pub late_ones : (limits : Limits) (time : ℕ) (outs : List Out) → OfOuts outs → AreLate (late_in limits time outs)
  late_ones limits time [] p = record { outs = tt; late = tt }
  late_ones limits time (out ∷ outs) p =
      cond_both (is_late time out) _ _ AreLate (λ _. judged limits time out outs p.0 p.1)
      (λ _. let others = late_ones limits time outs p.1 in record { outs = (p.0, others.outs); late = others.late })

  pub without_answered : (test : Out → Bool) (outs : List Out) → OfOuts outs → OfOuts (first_out test outs).outs
  without_answered test [] p = tt
  without_answered test (out ∷ outs) p =
      cond_both (test out) _ _ (λ (taken : TakenOut). OfOuts taken.outs) (λ _. p.1) (λ _. (p.0, without_answered test outs p.1))

  sends : (time : ℕ) (w : Window) (queue : List Outgoing) → w.queued ≡ queue → AllByRecursion P w.queued → OfOuts w.outs
      → AreGiven (sent_of time w queue)
  sends time w [] e p q = record { queued = p; outs = q; request = tt }
  sends time w (request ∷ later) e p q =
      let all : AllByRecursion P (request ∷ later) = subst (AllByRecursion P) e p in
      cond_both (nat_lt (length w.outs) w.limits.outstanding) _ _ AreGiven
      (λ _. record { queued = all.1; outs = both (λ (out : Out). P out.request) w.outs (out_at w.limits time 1 request ∷ []) q (all.0, tt); request = all.0 })
      (λ _. record { queued = p; outs = q; request = tt })

  pub sends_next : (time : ℕ) (w : Window) → AllByRecursion P w.queued → OfOuts w.outs → AreGiven (after_send time w)
  sends_next time w p q = sends time w w.queued refl p q

  unqueues : (w : Window) (queue : List Outgoing) → w.queued ≡ queue → AllByRecursion P w.queued → OfOuts w.outs → AreGiven (unsent_of w queue)
  unqueues w [] e p q = record { queued = p; outs = q; request = tt }
  unqueues w (request ∷ later) e p q =
      let all : AllByRecursion P (request ∷ later) = subst (AllByRecursion P) e p in record { queued = all.1; outs = q; request = all.0 }

  pub drops_queued : (w : Window) → AllByRecursion P w.queued → OfOuts w.outs → AreGiven (after_drop_queued w)
  drops_queued w p q = unqueues w w.queued refl p q

  takes_out : (w : Window) (outs : List Out) → w.outs ≡ outs → AllByRecursion P w.queued → OfOuts w.outs → AreGiven (unanswered_of w outs)
  takes_out w [] e p q = record { queued = p; outs = q; request = tt }
  takes_out w (out ∷ later) e p q = let all : OfOuts (out ∷ later) = subst OfOuts e q in record { queued = p; outs = all.1; request = all.0 }

  pub drops_out : (w : Window) → AllByRecursion P w.queued → OfOuts w.outs → AreGiven (after_drop_out w)
  drops_out w p q = takes_out w w.outs refl p q
