-- The requests of a sweep that wait or are to be sent: what is left of them when one has ended, and what comes to them.
use Rattle.std.proofs.Common.{◌≡◌, ◌⊎◌, inl, inr, ℕ, zero, suc, ◌+◌, ◌<◌, ◌≤◌, Bool, true, false, cond, not}
use Rattle.std.proofs.Common.{List, [], ◌∷◌, ◌++◌, length, refl, sym, ap, ◌∙◌, subst, arith, append_assoc}
use Rattle.std.proofs.lemmas.Bool.{eqb-true, eq-eqb}
use Rattle.std.proofs.lemmas.Option.{same_Some}
use Rattle.std.specs.Prelude.{Some, find, ◌==◌}
use Rattle.std.specs.List.{AllByRecursion}
use Rattle.request_table.proofs.Numbers.{rising_least}
use Rattle.reply_facts.specs.declared.report.Context.{Context}
use Rattle.sweep.specs.declared.question.Question.TheVariants as ask
use Rattle.sweep.specs.declared.request.Request.{Request}
use Rattle.sweep.specs.Sweep.{Asking, AreRising, numbered, without_number}
use Rattle.sweep.specs.Questions.{port_questions}
use Rattle.sweep.proofs.Numbers.{rising_asked}
use Rattle.manager_laws.proofs.Lists.{Has}

-- what a request asks
abbrev pub asking_of : Request → Asking
asking_of r = record { question = r.question; path = r.path; context = r.context }

-- it waits or is to be sent
abbrev pub IsPending : List Request → Asking → Type 0
IsPending requests a = Has (λ r. asking_of r ≡ a) requests

-- what comes to them ----------------------------------------------------------------------------

pub numbered_pending : (n : ℕ) (asked : List Asking) (a : Asking) → Has (λ b. b ≡ a) asked → IsPending (numbered n asked) a
numbered_pending n [] a h = absurd h
numbered_pending n (b ∷ asked) a (inl e) = inl e
numbered_pending n (b ∷ asked) a (inr h) = inr (numbered_pending (n + 1) asked a h)

pub numbered_all : (P : Asking → Type 0) (n : ℕ) (asked : List Asking) → AllByRecursion P asked → AllByRecursion (λ r. P (asking_of r)) (numbered n asked)
numbered_all P n [] all = tt
numbered_all P n (b ∷ asked) all = (all.0, numbered_all P (n + 1) asked all.1)

-- each of the ports is asked for
pub port_asked : (from more m : ℕ) (path : List ℕ) (context : Context) → from ≤ m → m < from + more
    → Has (λ b. b ≡ record { question = ask.Port m; path = path; context = context }) (port_questions from more path context)
port_asked from zero m path context low high = absurd (omega arith)
port_asked from (suc more) m path context low high = by_id (from == m) refl (port_asked (from + 1) more m path context)
  where
    by_id : (b : Bool) → (from == m) ≡ b
        → (from + 1 ≤ m → m < from + 1 + more
        → Has (λ b. b ≡ record { question = ask.Port m; path = path; context = context }) (port_questions (from + 1) more path context))
        → Has (λ b. b ≡ record { question = ask.Port m; path = path; context = context }) (port_questions from (suc more) path context)
    by_id true e later = inl (ap (λ n. record { question = ask.Port n; path = path; context = context }) (eqb-true from m e))
    by_id false e later =
        let other : from ≡ m → ⊥ = λ same. cc (eq-eqb from m same) in
        inr (later (omega (arith, low, other)) (omega (arith, high)))

pub ports_all : (P : Asking → Type 0) (from more : ℕ) (path : List ℕ) (context : Context)
    → ((m : ℕ) → P (record { question = ask.Port m; path = path; context = context })) → AllByRecursion P (port_questions from more path context)
ports_all P from zero path context f = tt
ports_all P from (suc more) path context f = (f from, ports_all P (from + 1) more path context f)

-- what is left ------------------------------------------------------------------------------------

-- those that wait and those of the queue rise together
least_all : (least : ℕ) (out rest : List Request) (next : ℕ) → AreRising least (out ++ rest) next → AllByRecursion (λ r. least ≤ r.number) out
least_all least [] rest next rising = tt
least_all least (r ∷ out) rest next rising =
    let later = least_all (r.number + 1) out rest next rising.1 in (rising.0, weaker out later)
  where
    weaker : (rs : List Request) → AllByRecursion (λ x. r.number + 1 ≤ x.number) rs → AllByRecursion (λ x. least ≤ x.number) rs
    weaker [] all = tt
    weaker (x ∷ rs) all = let first = all.0 in let here = rising.0 in (omega (arith, first, here), weaker rs all.1)

found_least : (least : ℕ) (out rest : List Request) (next : ℕ) (t : Request → Bool) (r : Request) → AreRising least (out ++ rest) next → find t out ≡ Some r
    → least ≤ r.number
found_least least [] rest next t r rising e = absurd (cc)
found_least least (x ∷ out) rest next t r rising e = by_test (t x) e (found_least (x.number + 1) out rest next t r rising.1)
  where
    by_test : (b : Bool) → cond b (Some x) (find t out) ≡ Some r → (find t out ≡ Some r → x.number + 1 ≤ r.number) → least ≤ r.number
    by_test true h later =
        let same : x ≡ r = same_Some x r h in
        let here = rising.0 in
        let number = ap (λ (y : Request). y.number) same in
        omega (arith, here, number)
    by_test false h later = let here = rising.0 in let up = later h in omega (arith, here, up)

-- no other that waits has the number of one
pub only_one : (least : ℕ) (out rest : List Request) (next : ℕ) (t : Request → Bool) (r : Request) → AreRising least (out ++ rest) next → find t out ≡ Some r
    → AllByRecursion (λ x. x.number ≡ r.number → asking_of x ≡ asking_of r) out
only_one least [] rest next t r rising e = tt
only_one least (x ∷ out) rest next t r rising e =
    by_test (t x) e (only_one (x.number + 1) out rest next t r rising.1) (found_least (x.number + 1) out rest next t r rising.1)
  where
    none_later : x ≡ r → (rs : List Request) → AllByRecursion (λ y. x.number + 1 ≤ y.number) rs
        → AllByRecursion (λ y. y.number ≡ r.number → asking_of y ≡ asking_of r) rs
    none_later same [] all = tt
    none_later same (y ∷ rs) all =
        let number = ap (λ (z : Request). z.number) same in
        let up = all.0 in
        ((λ e. absurd (omega (arith, number, up, e))), none_later same rs all.1)

    by_test : (b : Bool) → cond b (Some x) (find t out) ≡ Some r
        → (find t out ≡ Some r → AllByRecursion (λ y. y.number ≡ r.number → asking_of y ≡ asking_of r) out)
        → (find t out ≡ Some r → x.number + 1 ≤ r.number)
        → AllByRecursion (λ y. y.number ≡ r.number → asking_of y ≡ asking_of r) (x ∷ out)
    by_test true h later up =
        let same : x ≡ r = same_Some x r h in
        ((λ e. ap asking_of same), none_later same out (least_all (x.number + 1) out rest next rising.1))
    by_test false h later up = let above = up h in ((λ e. absurd (omega (arith, above, e))), later h)

-- each that was pending is pending still, but for the one that has ended
pub ended_or_pending : (r : Request) (out rest : List Request) (a : Asking) → AllByRecursion (λ x. x.number ≡ r.number → asking_of x ≡ asking_of r) out
    → IsPending (out ++ rest) a → (asking_of r ≡ a) ⊎ IsPending (without_number r.number out ++ rest) a
ended_or_pending r [] rest a all h = inr h
ended_or_pending r (x ∷ out) rest a all h = by_number (x.number == r.number) refl h (ended_or_pending r out rest a all.1)
  where
    by_number : (b : Bool) → (x.number == r.number) ≡ b → (asking_of x ≡ a) ⊎ IsPending (out ++ rest) a
        → (IsPending (out ++ rest) a → (asking_of r ≡ a) ⊎ IsPending (without_number r.number out ++ rest) a)
        → (asking_of r ≡ a) ⊎ IsPending (cond (not b) (x ∷ without_number r.number out) (without_number r.number out) ++ rest) a
    by_number true e (inl same) later = inl (sym (all.0 (eqb-true _ _ e)) ∙ same)
    by_number true e (inr more) later = later more
    by_number false e (inl same) later = inr (inl same)
    by_number false e (inr more) later = elim (later more) [ inl k ↦ inl k | inr k ↦ inr (inr k) ]

without_rising : (least n : ℕ) (out rest : List Request) (next : ℕ) → AreRising least (out ++ rest) next → AreRising least (without_number n out ++ rest) next
without_rising least n [] rest next rising = rising
without_rising least n (x ∷ out) rest next rising = by_number (x.number == n) (without_rising (x.number + 1) n out rest next rising.1)
  where
    by_number : (b : Bool) → AreRising (x.number + 1) (without_number n out ++ rest) next
        → AreRising least (cond (not b) (x ∷ without_number n out) (without_number n out) ++ rest) next
    by_number true later = let here = rising.0 in rising_least (λ (r : Request). r.number) least (x.number + 1) _ next (omega (arith, here)) later
    by_number false later = (rising.0, later)

-- the numbers rise still, with new ones at the end
pub rising_on : (n : ℕ) (out queued : List Request) (next : ℕ) (asked : List Asking) → AreRising 0 (out ++ queued) next
    → AreRising 0 (without_number n out ++ (queued ++ numbered next asked)) (next + length asked)
rising_on n out queued next asked rising =
    subst (λ rs. AreRising 0 rs (next + length asked)) (append_assoc (without_number n out) queued (numbered next asked))
    (rising_asked 0 (without_number n out ++ queued) next asked (without_rising 0 n out queued next rising))
