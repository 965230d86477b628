-- The steps of a writing with their numbers: of the phase that goes out, and of those that waited before.
use Rattle.std.proofs.Common.{◌≡◌, ◌≢◌, ◌⊎◌, inl, inr, ℕ, suc, ◌+◌, ◌<◌, ◌≤◌, Bool, true, false, List, [], ◌∷◌, ◌++◌, length, refl, sym, ap, ◌∙◌, subst, arith}
use Rattle.std.proofs.lemmas.List.Elements.{Contains-append_cases}
use Rattle.std.proofs.lemmas.Bool.{cond_both, eqb-true, ne_eqb, or_parts}
use Rattle.std.specs.Prelude.{None, Contains, drop, map, not, ◌==◌}
use Rattle.std.specs.List.{filter, list_any}
use Rattle.subnet_view.proofs.Apart.{contains_map, contains-from_map}
use Rattle.subnet_view.proofs.Members.{contains_here, contains_later, contains_cases, contains_none, contains_first, contains_filter, contains-from_filter}
use Rattle.plan_steps.specs.declared.step.Step.{Step}
use Rattle.plan_steps.specs.Step.{set_packet}
use Rattle.plan_steps.specs.Phase.{Phase}
use Rattle.sm_manager.specs.declared.outgoing.Outgoing.{Outgoing}
use Rattle.sm_manager.specs.declared.pending.Pending.{Pending}
use Rattle.sm_manager.specs.ManagerRequests.{counts as counts_of, how_many, is_step, none_counts, no_step_waits, without_number}
use Rattle.sm_manager.specs.Writing.{numbered, next_phase, without_empty_phases, pending_step, steps_out}
use Rattle.manager_laws.proofs.Steps.{IsOf, StepSent}

-- a step as the request that waits, and as the packet that goes out
abbrev pub pending_of : StepSent → Pending
pending_of x = pending_step x.number x.counts x.step

abbrev pub out_of : StepSent → Outgoing
out_of x = record { packet = set_packet x.number x.step; to = None }

-- the steps of a phase, from this number on
abbrev pub sent_from : Bool → ℕ → List Step → List StepSent
sent_from counts n [] = []
sent_from counts n (s ∷ steps) = record { number = n; counts = counts; step = s } ∷ sent_from counts (suc n) steps

abbrev pub next_sent : ℕ → List Phase → List StepSent
next_sent n later = sent_from (next_phase later).counts n (next_phase later).steps

pub numbered_is : (counts : Bool) (n : ℕ) (steps : List Step) → numbered counts n steps ≡ map pending_of (sent_from counts n steps)
numbered_is counts n [] = refl
numbered_is counts n (s ∷ steps) = ap (λ ps. pending_step n counts s ∷ ps) (numbered_is counts (suc n) steps)

pub steps_out_are : (counts : Bool) (n : ℕ) (steps : List Step) → steps_out n steps ≡ map out_of (sent_from counts n steps)
steps_out_are counts n [] = refl
steps_out_are counts n (s ∷ steps) =
    ap (λ out. record { packet = set_packet n s; to = None } ∷ out) (steps_out_are counts (suc n) steps)

-- numbers ------------------------------------------------------------------------------------------

-- the numbers rise by 1 each
abbrev pub AreNumberedFrom : ℕ → List StepSent → Type 0
AreNumberedFrom n [] = Unit {0}
AreNumberedFrom n (x ∷ xs) = (x.number ≡ n) × AreNumberedFrom (suc n) xs

pub length-sent_from : (counts : Bool) (n : ℕ) (steps : List Step) → length (sent_from counts n steps) ≡ length steps
length-sent_from counts n [] = refl
length-sent_from counts n (s ∷ steps) = ap suc (length-sent_from counts (suc n) steps)

pub numbered_from : (counts : Bool) (n : ℕ) (steps : List Step) → AreNumberedFrom n (sent_from counts n steps)
numbered_from counts n [] = tt
numbered_from counts n (s ∷ steps) = (refl, numbered_from counts (suc n) steps)

pub least_number : (n : ℕ) (xs : List StepSent) (x : StepSent) → AreNumberedFrom n xs → Contains xs x → n ≤ x.number
least_number n [] x all there = absurd (contains_none x there)
least_number n (y ∷ xs) x all there =
    elim (contains_cases y x xs there) [
      | inl i ↦ let same = ap (λ (p : StepSent). p.number) i in let is = all.0 in omega (arith, same, is)
      | inr k ↦ let least = least_number (suc n) xs x all.1 k in omega (arith, least)
    ]

pub most_number : (n : ℕ) (xs : List StepSent) (x : StepSent) → AreNumberedFrom n xs → Contains xs x → x.number < n + length xs
most_number n [] x all there = absurd (contains_none x there)
most_number n (y ∷ xs) x all there =
    elim (contains_cases y x xs there) [
      | inl i ↦ let same = ap (λ (p : StepSent). p.number) i in let is = all.0 in omega (arith, same, is)
      | inr k ↦ let most = most_number (suc n) xs x all.1 k in omega (arith, most)
    ]

-- a number is one step's
pub one_of_number : (n : ℕ) (xs : List StepSent) (x y : StepSent) → AreNumberedFrom n xs → Contains xs x → Contains xs y → x.number ≡ y.number → x ≡ y
one_of_number n [] x y all there also same = absurd (contains_none x there)
one_of_number n (z ∷ xs) x y all there also same =
    elim (contains_cases z x xs there) [
      | inl i ↦ elim (contains_cases z y xs also) [
        | inl k ↦ sym i ∙ k
        | inr k ↦ let least = least_number (suc n) xs y all.1 k in let first = ap (λ (p : StepSent). p.number) i in let is = all.0 in absurd
            (omega (arith, least, first, is, same))
      ]
      | inr j ↦ elim (contains_cases z y xs also) [
        | inl k ↦ let least = least_number (suc n) xs x all.1 j in let first = ap (λ (p : StepSent). p.number) k in let is = all.0 in absurd
            (omega (arith, least, first, is, same))
        | inr k ↦ one_of_number (suc n) xs x y all.1 j k same
      ]
    ]

-- which they are ---------------------------------------------------------------------------------

pub record IsOfSteps (counts : Bool) (steps : List Step) (x : StepSent) : Type 0 where
  pub counts_is : x.counts ≡ counts
  pub step : Contains steps x.step

pub from_sent : (counts : Bool) (n : ℕ) (steps : List Step) (x : StepSent) → Contains (sent_from counts n steps) x → IsOfSteps counts steps x
from_sent counts n [] x there = absurd (contains_none x there)
from_sent counts n (s ∷ steps) x there =
    elim (contains_cases (record { number = n; counts = counts; step = s }) x (sent_from counts (suc n) steps) there) [
      | inl i ↦ record {
        counts_is = ap (λ (p : StepSent). p.counts) (sym i);
        step = contains_first steps (ap (λ (p : StepSent). p.step) i);
      }
      | inr k ↦ let is = from_sent counts (suc n) steps x k in record { counts_is = is.counts_is; step = contains_later s x.step steps is.step }
    ]

-- the number that a step goes out under
pub record HasNumber (xs : List StepSent) (counts : Bool) (s : Step) : Type 0 where
  pub sent : StepSent
  pub there : Contains xs sent
  pub counts_is : sent.counts ≡ counts
  pub step_is : sent.step ≡ s

to_sent : (counts : Bool) (n : ℕ) (steps : List Step) (s : Step) → Contains steps s → HasNumber (sent_from counts n steps) counts s
to_sent counts n [] s there = absurd (contains_none s there)
to_sent counts n (t ∷ steps) s there =
    elim (contains_cases t s steps there) [
      | inl i ↦ record {
        sent = record { number = n; counts = counts; step = t };
        there = contains_here (record { number = n; counts = counts; step = t }) (sent_from counts (suc n) steps);
        counts_is = refl;
        step_is = i;
      }
      | inr k ↦ let is = to_sent counts (suc n) steps s k in
          record {
            sent = is.sent;
            there = contains_later (record { number = n; counts = counts; step = t }) is.sent (sent_from counts (suc n) steps) is.there;
            counts_is = is.counts_is;
            step_is = is.step_is;
          }
    ]

-- phases go out ------------------------------------------------------------------------------------

-- the next phase's steps are of the phases
pub next_is_of : (n : ℕ) (later : List Phase) (x : StepSent) → Contains (next_sent n later) x → IsOf later x.counts x.step
next_is_of n [] x there = absurd (contains_none x there)
next_is_of n (p ∷ phases) x there =
    let is = from_sent p.counts n p.steps x there in
    record { phase = p; there = contains_here p phases; counts_is = sym is.counts_is; step = is.step }

-- so are those of the phases behind it
pub rest_is_of : (later : List Phase) (counts : Bool) (s : Step) → IsOf (drop 1 later) counts s → IsOf later counts s
rest_is_of [] counts s is = is
rest_is_of (p ∷ phases) counts s is =
    record { phase = is.phase; there = contains_later p is.phase phases is.there; counts_is = is.counts_is; step = is.step }

-- and there are no others
pub next_or_rest : (n : ℕ) (later : List Phase) (counts : Bool) (s : Step) → IsOf later counts s
    → HasNumber (next_sent n later) counts s ⊎ IsOf (drop 1 later) counts s
next_or_rest n [] counts s is = absurd (contains_none is.phase is.there)
next_or_rest n (p ∷ phases) counts s is =
    elim (contains_cases p is.phase phases is.there) [
      | inl i ↦ inl (
          let counts_is : p.counts ≡ counts = ap (λ (q : Phase). q.counts) i ∙ is.counts_is in
          let has = to_sent p.counts n p.steps s (subst (λ (q : Phase). Contains q.steps s) (sym i) is.step) in
          record { sent = has.sent; there = has.there; counts_is = has.counts_is ∙ counts_is; step_is = has.step_is }
          )
      | inr k ↦ inr (record { phase = is.phase; there = k; counts_is = is.counts_is; step = is.step })
    ]

-- phases without steps have none
pub passed_is_of : (phases : List Phase) (counts : Bool) (s : Step) → IsOf phases counts s → IsOf (without_empty_phases phases) counts s
passed_is_of [] counts s is = is
passed_is_of (p ∷ phases) counts s is =
    cond_both (length p.steps == 0) _ _ (λ (q : List Phase). IsOf q counts s)
    (λ e. elim (contains_cases p is.phase phases is.there) [
      | inl i ↦ absurd (no_steps p.steps (eqb-true _ _ e) (subst (λ (q : Phase). Contains q.steps s) (sym i) is.step))
      | inr k ↦ passed_is_of phases counts s (record { phase = is.phase; there = k; counts_is = is.counts_is; step = is.step })
    ])
    (λ _. is)
  where
    no_steps : (steps : List Step) → length steps ≡ 0 → Contains steps s → ⊥
    no_steps [] e there = contains_none s there
    no_steps (t ∷ steps) e there = omega (arith, e)

pub from_passed : (phases : List Phase) (counts : Bool) (s : Step) → IsOf (without_empty_phases phases) counts s → IsOf phases counts s
from_passed [] counts s is = is
from_passed (p ∷ phases) counts s is =
    cond_both (length p.steps == 0) _ _ (λ (q : List Phase). IsOf q counts s → IsOf (p ∷ phases) counts s)
    (λ e later. let of = from_passed phases counts s later in
    record { phase = of.phase; there = contains_later p of.phase phases of.there; counts_is = of.counts_is; step = of.step })
    (λ _ later. later) is

-- where no phase counts, no step of them does
pub none_left_counts : (later : List Phase) (s : Step) → list_any (λ p. p.counts) later ≡ false → IsOf later true s → ⊥
none_left_counts later s none is = absurd (cc (sym (not_any later is.phase none is.there) ∙ is.counts_is))
  where
    not_any : (ps : List Phase) (p : Phase) → list_any (λ q. q.counts) ps ≡ false → Contains ps p → p.counts ≡ false
    not_any [] p e h = absurd (contains_none p h)
    not_any (q ∷ ps) p e h =
        let parts = or_parts q.counts (list_any (λ r. r.counts) ps) e in
        elim (contains_cases q p ps h) [ inl i ↦ ap (λ (r : Phase). r.counts) (sym i) ∙ parts.0 | inr k ↦ not_any ps p parts.1 k ]

-- requests that wait ---------------------------------------------------------------------------------

-- none that passes a test waits where their number is 0
none_passes : (test : Pending → Bool) (ps : List Pending) (x : Pending) → (how_many test ps == 0) ≡ true → Contains ps x → test x ≡ true → ⊥
none_passes test ps x none there passes =
    no_member (filter test ps) (eqb-true _ _ none) (contains_filter test ps x there passes)
  where
    no_member : (xs : List Pending) → length xs ≡ 0 → Contains xs x → ⊥
    no_member [] e h = contains_none x h
    no_member (y ∷ xs) e h = omega (arith, e)

pub none_pending_counts : (ps : List Pending) (x : Pending) → none_counts ps ≡ true → Contains ps x → counts_of x ≡ true → ⊥
none_pending_counts ps x none there is = none_passes counts_of ps x none there is

pub no_step_there : (ps : List Pending) (x : Pending) → no_step_waits ps ≡ true → Contains ps x → is_step x ≡ true → ⊥
no_step_there ps x none there is = none_passes is_step ps x none there is

-- one that waits is among the others where its number is another
pub others_wait : (number : ℕ) (ps : List Pending) (x : Pending) → x.number ≢ number → Contains ps x → Contains (without_number number ps) x
others_wait number ps x other there =
    contains_filter (λ (p : Pending). not (p.number == number)) ps x there (ap not (ne_eqb x.number number other))

pub others_waited : (number : ℕ) (ps : List Pending) (x : Pending) → Contains (without_number number ps) x → Contains ps x
others_waited number ps x there = (contains-from_filter (λ (p : Pending). not (p.number == number)) ps x there).0

-- a number is one request's, and below the next one's
pub record AreOnce (counter : ℕ) (ps : List Pending) : Type 0 where
  pub below : (p : Pending) → Contains ps p → p.number < counter
  pub once : (p q : Pending) → Contains ps p → Contains ps q → p.number ≡ q.number → p ≡ q

pub none_once : (counter : ℕ) (ps : List Pending) → ps ≡ [] → AreOnce counter ps
none_once counter ps none =
    record {
      below = λ p there. absurd (contains_none p (subst (λ xs. Contains xs p) none there));
      once = λ p q there also same. absurd (contains_none p (subst (λ xs. Contains xs p) none there));
    }

pub once_without : (number counter : ℕ) (ps : List Pending) → AreOnce counter ps → AreOnce counter (without_number number ps)
once_without number counter ps are =
    record {
      below = λ p there. are.below p (others_waited number ps p there);
      once = λ p q there also same. are.once p q (others_waited number ps p there) (others_waited number ps q also) same;
    }

-- with more, by numbers of their own
pub once_more : (counter next : ℕ) (ps more : List Pending) → AreOnce counter ps → AreOnce next more → counter ≤ next
    → ((p : Pending) → Contains more p → counter ≤ p.number) → AreOnce next (ps ++ more)
once_more counter next ps more are also upto from =
    record {
      below = λ p there. elim (Contains-append_cases ps more p there) [
        | inl i ↦ let low = are.below p i in omega (arith, low, upto)
        | inr k ↦ also.below p k
      ];
      once = λ p q there too same. elim (Contains-append_cases ps more p there) [
        | inl i ↦ elim (Contains-append_cases ps more q too) [
          | inl j ↦ are.once p q i j same
          | inr j ↦ let low = are.below p i in let high = from q j in absurd (omega (arith, low, high, same))
        ]
        | inr k ↦ elim (Contains-append_cases ps more q too) [
          | inl j ↦ let low = are.below q j in let high = from p k in absurd (omega (arith, low, high, same))
          | inr j ↦ also.once p q k j same
        ]
      ];
    }

pub one_once : (p : Pending) → AreOnce (p.number + 1) (p ∷ [])
one_once p =
    record {
      below = λ q there. let same = ap (λ (x : Pending). x.number) (only p q there) in omega (arith, same);
      once = λ q r there also same. sym (only p q there) ∙ only p r also;
    }
  where
    only : (x y : Pending) → Contains (x ∷ []) y → x ≡ y
    only x y there = elim (contains_cases x y [] there) [ inl i ↦ i | inr k ↦ absurd (contains_none y k) ]

-- the steps of a phase
module _ (counts : Bool) (n : ℕ) (steps : List Step) where
  pub record WaitsAs (p : Pending) : Type 0 where
    pub sent : StepSent
    pub there : Contains (sent_from counts n steps) sent
    pub is : pending_of sent ≡ p

  pub waits_as : (p : Pending) → Contains (numbered counts n steps) p → WaitsAs p
  waits_as p there =
      let (x, among, same) = contains-from_map pending_of (sent_from counts n steps) p (subst (λ ps. Contains ps p) (numbered_is counts n steps) there) in
      record { sent = x; there = among; is = same }

  pub as_waits : (x : StepSent) → Contains (sent_from counts n steps) x → Contains (numbered counts n steps) (pending_of x)
  as_waits x there = subst (λ ps. Contains ps (pending_of x)) (sym (numbered_is counts n steps)) (contains_map pending_of (sent_from counts n steps) x there)

  pub steps_once : AreOnce (n + length steps) (numbered counts n steps)
  steps_once =
      record {
        below = λ p there. let w = waits_as p there in
            let most = most_number n (sent_from counts n steps) w.sent (numbered_from counts n steps) w.there in
            let long = length-sent_from counts n steps in
            let same = ap (λ (x : Pending). x.number) w.is in
            omega (arith, most, long, same);
        once = λ p q there also same. let w = waits_as p there in let v = waits_as q also in
            sym w.is
            ∙ ap pending_of (one_of_number n (sent_from counts n steps) w.sent v.sent (numbered_from counts n steps) w.there v.there
            (ap (λ (x : Pending). x.number) w.is ∙ same ∙ sym (ap (λ (x : Pending). x.number) v.is)))
            ∙ v.is;
      }

  pub steps_from : (p : Pending) → Contains (numbered counts n steps) p → n ≤ p.number
  steps_from p there =
      let w = waits_as p there in
      let least = least_number n (sent_from counts n steps) w.sent (numbered_from counts n steps) w.there in
      let same = ap (λ (x : Pending). x.number) w.is in
      omega (arith, least, same)
