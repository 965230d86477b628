-- How often the requests of a window can still be late, as they are sent, answered and given up.
use Rattle.std.proofs.Common.{◌≡◌, ◌∙◌, ◌⊎◌, inl, inr, ℕ, suc, ◌+◌, ◌*◌, ◌≤◌, Bool, true, false, List, [], ◌∷◌, ◌++◌, length, refl, ap, arith}
use Rattle.std.proofs.lemmas.Bool.{cases_lt, cond_both, cond-false, leb-true, le-leb}
use Rattle.std.proofs.lemmas.Option.{none-some, same_Some}
use Rattle.std.specs.Prelude.{Option, Some, None, min}
use Rattle.sm_manager.specs.declared.outgoing.Outgoing.{Outgoing}
use Rattle.request_window.specs.declared.late.Late.TheVariants.{Again, GivenUp}
use Rattle.request_window.specs.declared.limits.Limits.{Limits}
use Rattle.request_window.specs.declared.out.Out.{Out}
use Rattle.request_window.specs.Window.{Given, LateOutcome, TakenOut, Window, behind, first_out, is_late, is_sent_again, judged_late, kept_behind}
use Rattle.request_window.specs.Window.{late_in, least_deadline, out_at, sent_of}
use Rattle.request_window.proofs.Lives.{tries_left}
use Rattle.program_laws.specs.Wakes.{chances, chances_out}

-- late requests --------------------------------------------------------------------------------------

-- one of the requests that are out is late
abbrev pub AnyLate : ℕ → List Out → Type 0
AnyLate now [] = ⊥
AnyLate now (out ∷ outs) = (is_late now out ≡ true) ⊎ AnyLate now outs

least_is_late : (now : ℕ) (outs : List Out) (least wake : ℕ) → least_deadline outs (Some least) ≡ Some wake → wake ≤ now
    → (least ≤ now) ⊎ AnyLate now outs
least_is_late now [] least wake e past = let same = same_Some least wake e in inl (omega (arith, same, past))
least_is_late now (out ∷ outs) least wake e past =
    elim (least_is_late now outs (min least out.deadline) wake e past) [
      | inl first ↦ elim (cases_lt now least) [
        | inl above ↦ inr (inl (le-leb out.deadline now (omega (arith, first, above))))
        | inr within ↦ inl within
      ]
      | inr later ↦ inr (inr later)
    ]

-- once the least deadline is past, some request is late
pub next_is_late : (now : ℕ) (outs : List Out) (wake : ℕ) → least_deadline outs None ≡ Some wake → wake ≤ now → AnyLate now outs
next_is_late now [] wake e past = absurd (none-some wake e)
next_is_late now (out ∷ outs) wake e past =
    elim (least_is_late now outs out.deadline wake e past) [
      | inl first ↦ inl (le-leb out.deadline now first)
      | inr later ↦ inr later
    ]

-- there is a least deadline if something is out
pub record HasValue (o : Option ℕ) : Type 0 where
  pub value : ℕ
  pub is : o ≡ Some value

least_is : (outs : List Out) (least : ℕ) → HasValue (least_deadline outs (Some least))
least_is [] least = record { value = least; is = refl }
least_is (out ∷ outs) least = least_is outs (min least out.deadline)

pub deadline_is : (out : Out) (outs : List Out) → HasValue (least_deadline (out ∷ outs) None)
deadline_is out outs = least_is outs out.deadline

-- how often requests can be late -----------------------------------------------------------------------

pub chances_both : (limits : Limits) (xs ys : List Out) → chances_out limits (xs ++ ys) ≡ chances_out limits xs + chances_out limits ys
chances_both limits [] ys = omega arith
chances_both limits (x ∷ xs) ys = let rest = chances_both limits xs ys in omega (arith, rest)

module _ (limits : Limits) (time : ℕ) where
  -- one that is late was late once more
  judged_less : (out : Out) (outs : List Out)
      → suc (chances_out limits (judged_late limits time out outs).outs) ≤ chances limits out + chances_out limits outs
  judged_less out outs =
      cond_both (is_sent_again limits out)
      (record { outs = out_at limits time (out.tries + 1) out.request ∷ outs; late = Some (Again out.request) })
      (record { outs = outs; late = Some (GivenUp out.request) })
      (λ (l : LateOutcome). suc (chances_out limits l.outs) ≤ chances limits out + chances_out limits outs)
      (λ again. let few = tries_left limits out again in omega (arith, few))
      (λ many. omega arith)

  pub late_few : (outs : List Out) → chances_out limits (late_in limits time outs).outs ≤ chances_out limits outs
  late_few [] = omega arith
  late_few (out ∷ outs) =
      let rest = late_few outs in
      let one = judged_less out outs in
      cond_both (is_late time out) (judged_late limits time out outs) (behind out (late_in limits time outs))
      (λ (l : LateOutcome). chances_out limits l.outs ≤ chances limits out + chances_out limits outs)
      (λ late. omega (arith, one)) (λ soon. omega (arith, rest))

  pub late_less : (outs : List Out) → AnyLate time outs → suc (chances_out limits (late_in limits time outs).outs) ≤ chances_out limits outs
  late_less [] any = absurd any
  late_less (out ∷ outs) any =
      let one = judged_less out outs in
      cond_both (is_late time out) (judged_late limits time out outs) (behind out (late_in limits time outs))
      (λ (l : LateOutcome). suc (chances_out limits l.outs) ≤ chances limits out + chances_out limits outs)
      (λ late. one)
      (λ soon. elim any [
        | inl late ↦ absurd (cc)
        | inr later ↦ let rest = late_less outs later in omega (arith, rest)
      ])

-- some request is late, or nothing happens
pub late_or_not : (limits : Limits) (time : ℕ) (outs : List Out)
    → AnyLate time outs ⊎ (late_in limits time outs ≡ record { outs = outs; late = None })
late_or_not limits time [] = inr refl
late_or_not limits time (out ∷ outs) = by (is_late time out) refl (late_or_not limits time outs)
  where
    by : (b : Bool) → is_late time out ≡ b → AnyLate time outs ⊎ (late_in limits time outs ≡ record { outs = outs; late = None })
        → AnyLate time (out ∷ outs) ⊎ (late_in limits time (out ∷ outs) ≡ record { outs = out ∷ outs; late = None })
    by true e rest = inl (inl e)
    by false e (inl later) = inl (inr later)
    by false e (inr same) =
        inr (cond-false (is_late time out) (judged_late limits time out outs) (behind out (late_in limits time outs)) e ∙ ap (behind out) same)

pub none_late : (limits : Limits) (time : ℕ) (outs : List Out) → late_in limits time outs ≡ record { outs = outs; late = None } → AnyLate time outs → ⊥
none_late limits time outs e any =
    let less = late_less limits time outs any in
    let same : chances_out limits (late_in limits time outs).outs ≡ chances_out limits outs = ap (λ (l : LateOutcome). chances_out limits l.outs) e in
    omega (arith, less, same)

-- the least deadline is no later than that of any request
least_of_all : (outs : List Out) (least wake by : ℕ) → least_deadline outs (Some least) ≡ Some wake → (least ≤ by) ⊎ AnyLate by outs → wake ≤ by
least_of_all [] least wake by e (inl h) = let same = same_Some least wake e in omega (arith, same, h)
least_of_all [] least wake by e (inr none) = absurd none
least_of_all (out ∷ outs) least wake by e (inl h) = least_of_all outs (min least out.deadline) wake by e (inl (omega (arith, h)))
least_of_all (out ∷ outs) least wake by e (inr (inl here)) =
    let h = leb-true out.deadline by here in least_of_all outs (min least out.deadline) wake by e (inl (omega (arith, h)))
least_of_all (out ∷ outs) least wake by e (inr (inr later)) = least_of_all outs (min least out.deadline) wake by e (inr later)

pub next_by : (outs : List Out) (wake by : ℕ) → least_deadline outs None ≡ Some wake → AnyLate by outs → wake ≤ by
next_by [] wake by e any = absurd any
next_by (out ∷ outs) wake by e (inl here) = least_of_all outs out.deadline wake by e (inl (leb-true out.deadline by here))
next_by (out ∷ outs) wake by e (inr later) = least_of_all outs out.deadline wake by e (inr later)

pub any_left : (time : ℕ) (xs ys : List Out) → AnyLate time xs → AnyLate time (xs ++ ys)
any_left time [] ys any = absurd any
any_left time (x ∷ xs) ys (inl here) = inl here
any_left time (x ∷ xs) ys (inr later) = inr (any_left time xs ys later)

-- answers --------------------------------------------------------------------------------------------------

-- what is left of `outs` once the given request was taken out: all, if there is none
abbrev pub IsLeft : Limits → List Out → List Out → Option Outgoing → Type 0
IsLeft limits outs left None = left ≡ outs
IsLeft limits outs left (Some request) = suc (chances_out limits left) ≤ chances_out limits outs

left_behind : (limits : Limits) (out : Out) (outs left : List Out) (o : Option Outgoing) → IsLeft limits outs left o
    → IsLeft limits (out ∷ outs) (out ∷ left) o
left_behind limits out outs left None e = ap (λ l. out ∷ l) e
left_behind limits out outs left (Some request) less = omega (arith, less)

pub taken_left : (limits : Limits) (test : Out → Bool) (outs : List Out) → IsLeft limits outs (first_out test outs).outs (first_out test outs).request
taken_left limits test [] = refl
taken_left limits test (out ∷ outs) =
    cond_both (test out) (record { outs = outs; request = Some out.request }) (kept_behind out (first_out test outs))
    (λ (t : TakenOut). IsLeft limits (out ∷ outs) t.outs t.request)
    (λ yes. omega arith)
    (λ no. left_behind limits out outs (first_out test outs).outs (first_out test outs).request (taken_left limits test outs))

-- a window -----------------------------------------------------------------------------------------------------

-- how often the requests of a window can be late, if it has these limits
abbrev pub load : Limits → Window → ℕ
load limits w = limits.tries * length w.queued + chances_out limits w.outs

-- the limits stay
pub same_sent : (time : ℕ) (w : Window) (queued : List Outgoing) → (sent_of time w queued).window.limits ≡ w.limits
same_sent time w [] = refl
same_sent time w (request ∷ later) =
    let out = out_at w.limits time 1 request in
    cond_both _ (record { window = record w { queued = later; outs = w.outs ++ out ∷ [] }; request = Some request })
    (record { window = w; request = None }) (λ (g : Given). g.window.limits ≡ w.limits) (λ room. refl) (λ full. refl)

-- sending a request for the first time changes nothing of that
pub sent_load : (limits : Limits) (time : ℕ) (w : Window) (queued : List Outgoing) → 1 ≤ limits.tries → w.queued ≡ queued
    → load limits (sent_of time w queued).window ≤ load limits w
sent_load limits time w [] some e = omega arith
sent_load limits time w (request ∷ later) some e =
    let long : limits.tries * length w.queued ≡ limits.tries * suc (length later) = ap (λ (l : List Outgoing). limits.tries * length l) e in
    let out = out_at w.limits time 1 request in
    let both = chances_both limits w.outs (out ∷ []) in
    cond_both _ (record { window = record w { queued = later; outs = w.outs ++ out ∷ [] }; request = Some request })
    (record { window = w; request = None }) (λ (g : Given). load limits g.window ≤ load limits w)
    (λ room. omega (arith, long, both, some)) (λ full. omega arith)
