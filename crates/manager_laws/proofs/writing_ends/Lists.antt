-- Lists of requests with rising numbers: which of them wait in one list and not in another.
use Rattle.std.proofs.Common.{◌≡◌, ◌≢◌, inl, inr, ℕ, ◌+◌, ◌<◌, ◌≤◌, Bool, true, false, cond, List, [], ◌∷◌, ◌++◌}
use Rattle.std.proofs.Common.{length, refl, sym, ap, ◌∙◌, subst, arith}
use Rattle.std.proofs.lemmas.Bool.{cond-true, cond-false, cond_both, eq-eqb, eqb-true, ne_eqb}
use Rattle.std.proofs.lemmas.List.{length-append}
use Rattle.std.proofs.lemmas.List.Elements.{Contains-append_cases, Contains-append_left, filter-append}
use Rattle.std.proofs.lemmas.Option.{slice_get-get_or}
use Rattle.std.specs.Prelude.{◌==◌, Contains, Option, Some, None, filter, is_none, not, remove, slice_get}
use Rattle.std.specs.List.{AllByRecursion}
use Rattle.request_table.specs.Numbers.{AreRising}
use Rattle.request_table.proofs.Indices.{none_found}
use Rattle.request_table.proofs.Numbers.{AreBelow, rising_below, rising_ordered, without_at}
use Rattle.subnet_view.proofs.Members.{contains_cases, contains_here, contains_later, contains_none, contains_filter}
use Rattle.subnet_view.proofs.Members.{contains-from_filter}
use Rattle.sm_manager.specs.declared.pending.Pending.{Pending}
use Rattle.sm_manager.specs.ManagerRequests.{how_many, is_step, with_number, without_number}
use Rattle.sm_manager.specs.StepsAnswered.{one_if}
use Rattle.sm_manager.proofs.CountedSteps.{Rising, same_one}
use Rattle.sm_manager.proofs.Numbers.{many_without}

abbrev pub number : Pending → ℕ
number p = p.number

-- any lists ---------------------------------------------------------------------------------------------

pub from_members : {X : Type 0} (P : X → Type 0) (xs : List X) → ((x : X) → Contains xs x → P x) → AllByRecursion P xs
from_members P [] all = tt
from_members P (x ∷ xs) all = (all x (contains_here x xs), from_members P xs (λ y h. all y (contains_later x y xs h)))

pub at_member : {X : Type 0} (P : X → Type 0) (xs : List X) (x : X) → AllByRecursion P xs → Contains xs x → P x
at_member P [] x all h = absurd (contains_none x h)
at_member P (y ∷ xs) x all h =
    elim (contains_cases y x xs h) [ inl e ↦ subst P e all.0 | inr later ↦ at_member P xs x all.1 later ]

pub filter_none : {X : Type 0} (test : X → Bool) (xs : List X) → AllByRecursion (λ x. test x ≡ false) xs
    → filter test xs ≡ []
filter_none test [] all = refl
filter_none test (x ∷ xs) all = cond-false (test x) _ _ all.0 ∙ filter_none test xs all.1

pub filter_all : {X : Type 0} (test : X → Bool) (xs : List X) → AllByRecursion (λ x. test x ≡ true) xs
    → filter test xs ≡ xs
filter_all test [] all = refl
filter_all test (x ∷ xs) all = cond-true (test x) _ _ all.0 ∙ ap (λ rest. x ∷ rest) (filter_all test xs all.1)

pub filter_same : {X : Type 0} (test other : X → Bool) (xs : List X) → AllByRecursion (λ x. test x ≡ other x) xs
    → filter test xs ≡ filter other xs
filter_same test other [] all = refl
filter_same test other (x ∷ xs) all =
    ap (λ b. cond b (x ∷ filter test xs) (filter test xs)) all.0
    ∙ ap (λ rest. cond (other x) (x ∷ rest) rest) (filter_same test other xs all.1)

pub none_long : {X : Type 0} (xs : List X) → length xs ≡ 0 → xs ≡ []
none_long [] e = refl
none_long (x ∷ xs) e = absurd (omega (arith, e))

-- numbers ------------------------------------------------------------------------------------------------

pub all_below : (least : ℕ) (ps : List Pending) (next : ℕ) → AreRising number least ps next
    → AllByRecursion (λ p. p.number < next) ps
all_below least [] next rising = tt
all_below least (p ∷ ps) next rising =
    let most = rising_below number (p.number + 1) ps next rising.1 in
    (omega (arith, most), all_below (p.number + 1) ps next rising.1)

pub all_from : (least low : ℕ) (ps : List Pending) (next : ℕ) → low ≤ least → AreRising number least ps next
    → AllByRecursion (λ p. low ≤ p.number) ps
all_from least low [] next le rising = tt
all_from least low (p ∷ ps) next le rising =
    let first = rising.0 in
    (omega (arith, first, le), all_from (p.number + 1) low ps next (omega (arith, first, le)) rising.1)

-- whether no request of the list has the number of `p`
abbrev pub lacks : List Pending → Pending → Bool
lacks ps p = is_none (with_number p.number ps)

pub has_member : (ps : List Pending) (p : Pending) → Contains ps p → lacks ps p ≡ false
has_member [] p h = absurd (contains_none p h)
has_member (q ∷ ps) p h =
    cond_both (q.number == p.number) (Some q) (with_number p.number ps) (λ (o : Option Pending). is_none o ≡ false)
    (λ _. refl)
    (λ differs. elim (contains_cases q p ps h) [
      | inl e ↦ absurd (cc (sym differs ∙ eq-eqb q.number p.number (ap number e)))
      | inr later ↦ has_member ps p later
    ])

pub lacks_number : (ps : List Pending) (p : Pending) → AllByRecursion (λ q. q.number ≢ p.number) ps → lacks ps p ≡ true
lacks_number ps p all = ap is_none (none_found (λ (q : Pending). q.number == p.number) ps (each ps all))
  where
    each : (qs : List Pending) → AllByRecursion (λ q. q.number ≢ p.number) qs
        → AllByRecursion (λ q. (q.number == p.number) ≡ false) qs
    each [] h = tt
    each (q ∷ qs) h = (ne_eqb q.number p.number h.0, each qs h.1)

-- the one of its number
pub only_one : (ps : List Pending) (p : Pending) → AreBelow number ps → Contains ps p
    → filter (λ q. q.number == p.number) ps ≡ p ∷ []
only_one [] p below h = absurd (contains_none p h)
only_one (q ∷ ps) p below h =
    elim (contains_cases q p ps h) [
      | inl e ↦ here e
      | inr later ↦ let up = at_member (λ (x : Pending). q.number < x.number) ps p below.0 later in
          cond-false (q.number == p.number) _ _ (ne_eqb q.number p.number (λ same. omega (arith, same, up)))
          ∙ only_one ps p below.1 later
    ]
  where
    rest : (qs : List Pending) → q ≡ p → AllByRecursion (λ (x : Pending). q.number < x.number) qs
        → AllByRecursion (λ x. (x.number == p.number) ≡ false) qs
    rest [] e all = tt
    rest (x ∷ qs) e all =
        let same = ap number e in
        let up = all.0 in
        (ne_eqb x.number p.number (λ equal. omega (arith, same, up, equal)), rest qs e all.1)

    here : q ≡ p → filter (λ x. x.number == p.number) (q ∷ ps) ≡ p ∷ []
    here e =
        cond-true (q.number == p.number) _ _ (eq-eqb q.number p.number (ap number e))
        ∙ ap (λ xs. q ∷ xs) (filter_none (λ (x : Pending). x.number == p.number) ps (rest ps e below.0))
        ∙ ap (λ x. x ∷ []) e

-- one that waits is over
pub steps_over : (counter : ℕ) (ps : List Pending) (p : Pending) → Rising counter ps → Contains ps p
    → how_many is_step (without_number p.number ps) + one_if (is_step p) ≡ how_many is_step ps
steps_over counter ps p rising (i, within, is) =
    let at : slice_get ps i ≡ Some p = slice_get-get_or ps i p within ∙ ap (λ (x : Pending). Some x) is in
    let gone : without_number p.number ps ≡ remove ps i =
    without_at number ps i p (rising_ordered number 0 ps counter rising) at in
    let less = many_without is_step ps i p at in
    let same = same_one (is_step p) in
    let left = ap (how_many is_step) gone in
    omega (arith, less, same, left)

pub many_in_both : (test : Pending → Bool) (ps qs : List Pending)
    → how_many test (ps ++ qs) ≡ how_many test ps + how_many test qs
many_in_both test ps qs = ap length (filter-append test ps qs) ∙ length-append (filter test ps) (filter test qs)

-- a turn of the requests that wait: one may be over, and more may come ------------------------------------

-- the requests without the one that is over, if one is
abbrev pub kept : Option Pending → List Pending → List Pending
kept None ps = ps
kept (Some p) ps = without_number p.number ps

abbrev pub IsIn : List Pending → Option Pending → Type 0
IsIn ps None = Unit {0}
IsIn ps (Some p) = Contains ps p

abbrev pub listed : Option Pending → List Pending
listed None = []
listed (Some p) = p ∷ []

pub kept_in : (gone : Option Pending) (ps : List Pending) (p : Pending) → Contains (kept gone ps) p → Contains ps p
kept_in None ps p h = h
kept_in (Some q) ps p h = (contains-from_filter (λ (x : Pending). not (x.number == q.number)) ps p h).0

module _ (counter next : ℕ) (ps more : List Pending) (gone : Option Pending) (rising : Rising counter ps)
    (fresh : AreRising number counter more next)
    (is_in : IsIn ps gone) where
  below : AllByRecursion (λ (p : Pending). p.number < counter) ps
  below = all_below 0 ps counter rising

  above : AllByRecursion (λ (p : Pending). counter ≤ p.number) more
  above = all_from counter counter more next (omega arith) fresh

  -- those that came
  pub came : filter (lacks ps) (kept gone ps ++ more) ≡ more
  came =
      filter-append (lacks ps) (kept gone ps) more
      ∙ ap (λ xs. xs ++ filter (lacks ps) more)
      (filter_none (lacks ps) (kept gone ps)
      (from_members (λ p. lacks ps p ≡ false) (kept gone ps) (λ p h. has_member ps p (kept_in gone ps p h))))
      ∙ filter_all (lacks ps) more
      (from_members (λ p. lacks ps p ≡ true) more (λ p h. lacks_number ps p (from_members (λ q. q.number ≢ p.number) ps
      (λ q k same. let low = at_member (λ (x : Pending). x.number < counter) ps q below k in
      let high = at_member (λ (x : Pending). counter ≤ x.number) more p above h in omega (arith, low, high, same)))))

  -- the one that is over
  pub went : filter (lacks (kept gone ps ++ more)) ps ≡ listed gone
  went = by_gone gone is_in
    where
      by_gone : (o : Option Pending) → IsIn ps o → filter (lacks (kept o ps ++ more)) ps ≡ listed o
      by_gone None h =
          filter_none (lacks (ps ++ more)) ps
          (from_members (λ q. lacks (ps ++ more) q ≡ false) ps
          (λ q k. has_member (ps ++ more) q (Contains-append_left ps more q k)))
      by_gone (Some p) h =
          filter_same (lacks (without_number p.number ps ++ more)) (λ q. q.number == p.number) ps
          (from_members (λ q. lacks (without_number p.number ps ++ more) q ≡ (q.number == p.number)) ps
          (λ q k. by_number q k (q.number == p.number) refl))
          ∙ only_one ps p (rising_ordered number 0 ps counter rising) h
        where
          by_number : (q : Pending) → Contains ps q → (b : Bool) → (q.number == p.number) ≡ b
              → lacks (without_number p.number ps ++ more) q ≡ b
          by_number q k true same =
              let equal = eqb-true q.number p.number same in
              let low = at_member (λ (x : Pending). x.number < counter) ps q below k in
              lacks_number (without_number p.number ps ++ more) q
              (from_members (λ x. x.number ≢ q.number) (without_number p.number ps ++ more)
              (λ x there alike. elim (Contains-append_cases (without_number p.number ps) more x there) [
                | inl before ↦
                    let other = (contains-from_filter (λ (y : Pending). not (y.number == p.number)) ps x before).1 in
                    absurd (cc (sym other ∙ ap not (eq-eqb x.number p.number (alike ∙ equal))))
                | inr later ↦ let high = at_member (λ (y : Pending). counter ≤ y.number) more x above later in
                    absurd (omega (arith, low, high, alike))
              ]))
          by_number q k false differs =
              has_member (without_number p.number ps ++ more) q
              (Contains-append_left (without_number p.number ps) more q
              (contains_filter (λ (y : Pending). not (y.number == p.number)) ps q k (ap not differs)))
