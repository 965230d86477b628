-- The numbers by which a manager that decides by itself is paced are in their ranges.
use Rattle.std.proofs.Common.{◌≡◌, ◌&&◌, ℕ, ◌≤◌, Bool, true, false, leb, List, Option, None, Some, refl, sym, subst, ap, arith}
use Rattle.std.specs.Prelude.{IfSome, codes, is_some, option_and_then, option_map, if◌then◌else◌}
use Rattle.std.proofs.lemmas.Bool.{leb-true}
use Rattle.cli_arguments.specs.WellFormed.{HasItsWords, IsNumberWithin, NamesPace}
use Rattle.cli_arguments.specs.WellFormed.{facts, join, plan, order, audit, next, run, serve, manage}
use Rattle.cli_arguments.specs.Words.{word_named}
use Rattle.request_window.specs.declared.limits.Limits.{Limits}
use Rattle.sm_policy.specs.declared.timing.Timing.{Timing}
use Rattle.sm_cli.specs.declared.asked.Output.TheVariants.{Order}
use Rattle.text_words.proofs.Names.{both}
use Rattle.text_words.proofs.Ranges.{always, mapped, tested, then_some}
use Rattle.cli_task.specs.declared.task.Task.TheVariants.{Answer, OrderOfTables, Audit, Next, Run, Serve, Manage}
use Rattle.cli_task.specs.Laws.{IsBetween, IsPaced, IsPacedTask, PacesAreInRange}
use Rattle.cli_task.specs.OptionValues.{floor_asked, limits_asked, newest_asked, number_in, number_or, order_asked, planning_asked, timing_asked, within}
use Rattle.cli_task.specs.Task.{answer_task, audit_asked, managing_asked, output_asked, serving_asked, step_asked, task_behind}
use Rattle.cli_task.proofs.Within.{number_within, some_within}

-- numbers -------------------------------------------------------------------------------------------------

passed : (least most n : ℕ) → is_some (within least most n) ≡ true → IsBetween least most n
passed least most n e = elim (leb least n && leb n most) as
    (λ b. (leb least n && leb n most) ≡ b → is_some (if b then Some n else None) ≡ true → IsBetween least most n) [
      | true ↦ λ f g. let tests = both _ _ f in (leb-true least n tests.0, leb-true n most tests.1)
      | false ↦ λ f g. absurd (cc)
    ] refl e

-- a number in narrower bounds is a number of 32 bits
fits : (least most : ℕ) (o : Option ℕ) → most ≤ 4294967295 → is_some (option_and_then (within least most) o) ≡ true
    → is_some (option_and_then (within 0 4294967295) o) ≡ true
fits least most None h e = e
fits least most (Some n) h e =
    let bounds = passed least most n e in
    ap is_some (some_within 0 4294967295 n (omega arith) (omega (arith, h, bounds.1)))

between : (least most : ℕ) (o : Option ℕ) → is_some (option_and_then (within least most) o) ≡ true
    → IfSome (option_and_then (within 0 4294967295) o) (IsBetween least most)
between least most None e = tt
between least most (Some n) e = tested (IsBetween least most) (leb 0 n && leb n 4294967295) (Some n) (λ _. passed least most n e)

pub number_given : (otherwise least most : ℕ) (o : Option (List ℕ)) → most ≤ 4294967295 → IsNumberWithin least most o
    → is_some (number_or otherwise o) ≡ true
number_given otherwise least most None h k = refl
number_given otherwise least most (Some word) h k = fits least most (number_in word) h (number_within least most word k)

number_range : (otherwise least most : ℕ) (o : Option (List ℕ)) → IsBetween least most otherwise → IsNumberWithin least most o
    → IfSome (number_or otherwise o) (IsBetween least most)
number_range otherwise least most None h k = h
number_range otherwise least most (Some word) h k = between least most (number_in word) (number_within least most word k)

-- tasks ---------------------------------------------------------------------------------------------------

module _ (word : List ℕ → Option (List ℕ)) where
  abbrev IsTimed : Timing → Type 0
  IsTimed timing = IsBetween 1000 3600000 timing.every × IsBetween 1 600000 timing.poll

  timing_range : NamesPace word → IfSome (timing_asked word) IsTimed
  timing_range q =
      then_some (IsBetween 1000 3600000) IsTimed (number_or 10000 (word (codes "every"))) _
      (number_range 10000 1000 3600000 (word (codes "every")) (omega arith, omega arith) q.every) (λ every e.
      mapped (IsBetween 1 600000) IsTimed (number_or 1000 (word (codes "poll"))) _
      (number_range 1000 1 600000 (word (codes "poll")) (omega arith, omega arith) q.poll) (λ poll p. (e, p)))

  abbrev IsLimited : Limits → Type 0
  IsLimited limits = IsBetween 1 64 limits.outstanding × IsBetween 1 101 limits.tries × IsBetween 1 600000 limits.timeout

  limits_range : NamesPace word → IfSome (limits_asked word) IsLimited
  limits_range q =
      then_some (IsBetween 1 64) IsLimited (number_or 4 (word (codes "outstanding"))) _
      (number_range 4 1 64 (word (codes "outstanding")) (omega arith, omega arith) q.outstanding) (λ outstanding o.
      then_some (IsBetween 1 101) IsLimited (number_or 4 (word (codes "tries"))) _
      (number_range 4 1 101 (word (codes "tries")) (omega arith, omega arith) q.tries) (λ tries r.
      mapped (IsBetween 1 600000) IsLimited (number_or 500 (word (codes "timeout"))) _
      (number_range 500 1 600000 (word (codes "timeout")) (omega arith, omega arith) q.timeout) (λ timeout t. (o, r, t))))

  managing_range : NamesPace word → IfSome (managing_asked word) IsPaced
  managing_range q =
      then_some (λ _. Unit {0}) IsPaced (serving_asked word) _ (always _) (λ serving _.
      then_some IsTimed IsPaced (timing_asked word) _ (timing_range q) (λ timing t.
      then_some IsLimited IsPaced (limits_asked word) _ (limits_range q) (λ limits l.
      mapped (IsBetween 0 4294967294) IsPaced (newest_asked word) _
      (number_range 0 0 4294967294 (word (codes "newest")) (omega arith, omega arith) q.newest) (λ newest n.
      record { every = t.0; poll = t.1; outstanding = l.0; tries = l.1; timeout = l.2; newest = n }))))

  abbrev Fits : List ℕ → Type 0
  Fits name = IfSome (task_behind word name) IsPacedTask

  answer_fits : (command : List ℕ) → IfSome (answer_task word command) IsPacedTask
  answer_fits command =
      then_some (λ _. Unit {0}) IsPacedTask (output_asked word command) _ (always _) (λ output _.
      mapped (λ _. Unit {0}) IsPacedTask (floor_asked (word (codes "floor"))) _ (always _) (λ floor _. tt))

  order_fits : (held : Bool) → IfSome (if held then Some OrderOfTables
      else option_map (λ rule. Answer (record { output = Order rule; floor = 1 })) (order_asked word)) IsPacedTask
  order_fits true = tt
  order_fits false = mapped (λ _. Unit {0}) IsPacedTask (order_asked word) _ (always _) (λ rule _. tt)

  words_fit : (files : Option (List (List ℕ))) (name : List ℕ) → HasItsWords word files name → Fits name
  words_fit files name (facts is h) = subst Fits (sym is) (answer_fits (codes "facts"))
  words_fit files name (join is h) = subst Fits (sym is) (answer_fits (codes "join"))
  words_fit files name (plan is h p) = subst Fits (sym is) (answer_fits (codes "plan"))
  words_fit files name (order is h p) = subst Fits (sym is) (order_fits (is_some (word (codes "held"))))
  words_fit files name (audit is t h m w) =
      subst Fits (sym is) (mapped (λ _. Unit {0}) IsPacedTask (audit_asked word) Audit (always _) (λ asked _. tt))
  words_fit files name (next is t h p) =
      subst Fits (sym is) (mapped (λ _. Unit {0}) IsPacedTask (step_asked word) Next (always _) (λ asked _. tt))
  words_fit files name (run is t s p) =
      subst Fits (sym is) (mapped (λ _. Unit {0}) IsPacedTask (planning_asked word) (λ by. Run by.0 by.1) (always _) (λ by _. tt))
  words_fit files name (serve is s p) =
      subst Fits (sym is) (mapped (λ _. Unit {0}) IsPacedTask (serving_asked word) Serve (always _) (λ asked _. tt))
  words_fit files name (manage is s p q) =
      subst Fits (sym is) (mapped IsPaced IsPacedTask (managing_asked word) Manage (managing_range q) (λ asked h. h))

pub paces_are_in_range : PacesAreInRange
paces_are_in_range matches h =
    subst (λ o. IfSome (option_and_then (task_behind (word_named matches)) o) IsPacedTask) (sym h.named)
    (words_fit (word_named matches) _ h.name h.words)
