-- Walks that go on, one after the other, until a round in which no more of them end.
use Rattle.std.proofs.Common.{◌≡◌, ℕ, zero, suc, ◌+◌, ◌-◌, ◌<◌, ◌≤◌, true, false, List, [], ◌∷◌, length, refl, sym, ap, ◌∙◌, subst, arith, inl, inr}
use Rattle.std.specs.Prelude.{count_by, slice_index_or, slice_set, take}
use Rattle.std.proofs.lemmas.Bool.{cases_eq, cases_lt}
use Rattle.std.proofs.lemmas.List.{get_or-set_other, length-set, take_all}
use Rattle.std.proofs.lemmas.Grind.{get_or-set_at}
use Rattle.packet_walks.specs.declared.next_hop.NextHop.{NextHop}
use Rattle.packet_walks.specs.declared.next_hop.NextHop.TheVariants.{To, Ends}
use Rattle.packet_walks.specs.EndsBySwitch.{onward, after, IsEndOf, is_to, end_of, HaveEnded, AreFurther, IsFurther}
use Rattle.packet_walks.proofs.Ended.{after_add, earlier, head_less, head_same, none_left, one, one_most, past, stays_ended, tos, tos_count}

-- each walk has reached what `jumps` says, in at least one step
abbrev IsReached : List NextHop → List NextHop → NextHop → Type 0
IsReached steps jumps s = (n : ℕ) × (1 ≤ n) × (after n steps s ≡ onward jumps s)

pub record AreReached (steps jumps : List NextHop) : Type 0 where
  pub as_many : length jumps ≡ length steps
  pub each : (s : NextHop) → IsReached steps jumps s

pub none_further : (steps : List NextHop) → AreReached steps steps
none_further steps = record { as_many = refl; each = λ s. (1, omega arith, refl) }

-- one walk after another
module _ (steps old new : List NextHop) (reached : AreReached steps old) (further : AreFurther old new) where
  reached_within : (fuel i : ℕ) → i < fuel → i < length old → IsReached steps new (To i)
  reached_within zero i less within = absurd (omega arith)
  reached_within (suc fuel) i less within = (elim (further.each i within) [
    | inl twice ↦
        (let first = reached.each (To i) in
        let second = reached.each (onward old (To i)) in
        let at : after (first.0 + second.0) steps (To i) ≡ onward new (To i) =
        after_add first.0 second.0 steps (To i) ∙ ap (after second.0 steps) first.2 ∙ second.2 ∙ sym twice in
        (first.0 + second.0, (let some = first.1 in omega arith), at))
    | inr earlier ↦
        (let j = earlier.0 in
        let first = reached.each (To i) in
        let second = reached_within fuel j (let before = earlier.1 in omega arith) (let before = earlier.1 in omega arith) in
        let at : after (first.0 + second.0) steps (To i) ≡ onward new (To i) =
        after_add first.0 second.0 steps (To i) ∙ ap (after second.0 steps) (first.2 ∙ earlier.2) ∙ second.2 ∙ sym earlier.3 in
        (first.0 + second.0, (let some = first.1 in omega arith), at))
  ])

  reached_further : (s : NextHop) → IsReached steps new s
  reached_further (Ends e) = (1, omega arith, refl)
  reached_further (To i) =
      elim (cases_lt i (length old)) [
        | inl within ↦ reached_within (suc i) i (omega arith) within
        | inr over ↦
            (let first = reached.each (To i) in
            (first.0, first.1, first.2 ∙ past old i (To i) over ∙ sym (past new i (To i) (let many = further.as_many in omega arith))))
      ]

  pub are_reached : AreReached steps new
  are_reached = record { as_many = further.as_many ∙ reached.as_many; each = reached_further }

-- a walk that has ended stays so
module _ (old new : List NextHop) (further : AreFurther old new) where
  pub ended_before : (s : NextHop) → is_to (onward new s) ≡ true → is_to (onward old s) ≡ true
  ended_before (Ends e) on = on
  ended_before (To i) on =
      elim (cases_lt i (length old)) [
        | inl within ↦ (elim (further.each i within) [
          | inl twice ↦ stays_ended old (onward old (To i)) (sym (ap is_to twice) ∙ on)
          | inr earlier ↦ ap is_to earlier.2
        ])
        | inr over ↦ ap is_to (past old i (To i) over)
      ]

  -- a walk that goes on had reached a switch whose walk goes on
  pub went_on : (s : NextHop) → is_to (onward new s) ≡ true → is_to (onward old (onward old s)) ≡ true
  went_on (Ends e) on = on
  went_on (To i) on =
      elim (cases_lt i (length old)) [
        | inl within ↦ (elim (further.each i within) [
          | inl twice ↦ sym (ap is_to twice) ∙ on
          | inr earlier ↦
              ap (λ r. is_to (onward old r)) earlier.2 ∙ ended_before (To earlier.0) (sym (ap is_to earlier.3) ∙ on)
        ])
        | inr over ↦ ap (λ r. is_to (onward old r)) (past old i (To i) over) ∙ ap is_to (past old i (To i) over)
      ]

-- if a walk goes on, so does the walk from the switch that it has reached
abbrev pub LeadOn : List NextHop → Type 0
LeadOn jumps = (s : NextHop) → is_to (onward jumps s) ≡ true → is_to (onward jumps (onward jumps s)) ≡ true

module _ (steps jumps : List NextHop) (reached : AreReached steps jumps) (on : LeadOn jumps) where
  far : (k : ℕ) (s : NextHop) → is_to (onward jumps s) ≡ true → (n : ℕ) × (k ≤ n) × (is_to (after n steps s) ≡ true)
  far zero s h = let first = reached.each s in (first.0, omega arith, ap is_to first.2 ∙ h)
  far (suc k) s h =
      let first = reached.each s in
      let later = far k (onward jumps s) (on s h) in
      let at : is_to (after (first.0 + later.0) steps s) ≡ true =
      ap is_to (after_add first.0 later.0 steps s ∙ ap (after later.0 steps) first.2) ∙ later.2 in
      (first.0 + later.0, (let some = first.1 in let more = later.1 in omega arith), at)

  some_switch : (x : NextHop) → is_to x ≡ true → (i : ℕ) × (x ≡ To i)
  some_switch (To i) h = (i, refl)
  some_switch (Ends e) h = absurd (cc)

  pub for_ever : (s : NextHop) → is_to (onward jumps s) ≡ true → (n : ℕ) → (i : ℕ) × (after n steps s ≡ To i)
  for_ever s h n =
      let later = far n s h in
      let count : later.0 ≡ n + (later.0 - n) = (let more = later.1 in omega arith) in
      some_switch (after n steps s)
      (earlier n (later.0 - n) steps s (sym (ap (λ k. is_to (after k steps s)) count) ∙ later.2))

  pub have_ended : (new : List NextHop) → AreReached steps new → ((s : NextHop) → is_to (onward new s) ≡ true → is_to (onward jumps s) ≡ true)
      → HaveEnded steps new
  have_ended new there before = record {
    as_many = there.as_many;
    ended = λ s. (elim (onward new s) as (λ r. onward new s ≡ r → IsEndOf steps s (end_of r)) [
      | To i ↦ λ e. λ n. for_ever s (before s (ap is_to e)) n
      | Ends x ↦ λ e. ((there.each s).0, (there.each s).2 ∙ e)
    ] refl);
  }

-- how many have not ended -------------------------------------------------------------
-- the same at whatever is told past the end
at_any : (xs : List NextHop) (i : ℕ) (d x : NextHop) → i < length xs → slice_index_or xs i d ≡ slice_index_or xs i x
at_any [] i d x h = absurd (omega arith)
at_any (y ∷ xs) zero d x h = refl
at_any (y ∷ xs) (suc i) d x h = at_any xs i d x (omega arith)

abbrev Less : List NextHop → List NextHop → Type 0
Less old new = (i : ℕ) → i < length old → is_to (slice_index_or new i (To 0)) ≡ true → is_to (slice_index_or old i (To 0)) ≡ true

fewer : (old new : List NextHop) → length new ≡ length old → Less old new → tos new ≤ tos old
fewer [] [] e h = omega arith
fewer [] (y ∷ new) e h = absurd (omega arith)
fewer (x ∷ old) [] e h = absurd (omega arith)
fewer (x ∷ old) (y ∷ new) e h =
    omega (arith, head_less x y (h 0 (omega arith)), fewer old new (omega arith) (λ i less on. h (suc i) (omega arith) on))

as_before : (old new : List NextHop) → length new ≡ length old → Less old new → tos new ≡ tos old → (i : ℕ) → i < length old
    → is_to (slice_index_or old i (To 0)) ≡ true → is_to (slice_index_or new i (To 0)) ≡ true
as_before [] new e h same i less on = absurd (omega arith)
as_before (x ∷ old) [] e h same i less on = absurd (omega arith)
as_before (x ∷ old) (y ∷ new) e h same zero less on =
    head_same x y
    (omega (arith, same, head_less x y (h 0 (omega arith)), fewer old new (omega arith) (λ i less on. h (suc i) (omega arith) on))) on
as_before (x ∷ old) (y ∷ new) e h same (suc i) less on =
    as_before old new (omega arith) (λ i less on. h (suc i) (omega arith) on)
    (omega (arith, same, head_less x y (h 0 (omega arith)), fewer old new (omega arith) (λ i less on. h (suc i) (omega arith) on))) i (omega arith) on

module _ (old new : List NextHop) (further : AreFurther old new) where
  less_each : Less old new
  less_each i within on =
      ap is_to (at_any old i (To 0) (To i) within)
      ∙ ended_before old new further (To i) (sym (ap is_to (at_any new i (To 0) (To i) (let many = further.as_many in omega arith))) ∙ on)

  pub fewer_to : tos new ≤ tos old
  fewer_to = fewer old new further.as_many less_each

  pub still_to : tos new ≡ tos old → (s : NextHop) → is_to (onward old s) ≡ true → is_to (onward new s) ≡ true
  still_to same (Ends e) on = on
  still_to same (To i) on =
      elim (cases_lt i (length old)) [
        | inl within ↦
            sym (ap is_to (at_any new i (To 0) (To i) (let many = further.as_many in omega arith)))
            ∙ as_before old new further.as_many less_each same i within (ap is_to (at_any old i (To 0) (To i) within) ∙ on)
        | inr over ↦ ap is_to (past new i (To i) (let many = further.as_many in omega arith))
      ]

-- round by round ----------------------------------------------------------------------
pub record AreGoing (steps jumps : List NextHop) (left : ℕ) : Type 0 where
  pub reached : AreReached steps jumps
  pub most : tos jumps ≤ left

tos_most : (xs : List NextHop) → tos xs ≤ length xs
tos_most [] = omega arith
tos_most (To i ∷ xs) = omega (arith, tos_most xs)
tos_most (Ends e ∷ xs) = omega (arith, tos_most xs)

pub all_going : (steps : List NextHop) (left : ℕ) → left ≡ length steps → AreGoing steps steps left
all_going steps left e = record { reached = none_further steps; most = omega (arith, tos_most steps) }

module _ (steps jumps next : List NextHop) (left now : ℕ) (going : AreGoing steps jumps left) (further : AreFurther jumps next)
    (now_is : now ≡ count_by is_to next) where
  count : tos next ≡ now
  count = tos_count next ∙ sym now_is

  pub going_further : AreGoing steps next now
  going_further = record { reached = are_reached steps jumps next going.reached further; most = omega (arith, count) }

  pub fewer_left : (now ≡ left → ⊥) → now < left
  fewer_left apart = let most = going.most in omega (arith, count, fewer_to jumps next further, apart)

  pub same_ended : now ≡ left → HaveEnded steps next
  same_ended same =
      let e : tos next ≡ tos jumps = (let most = going.most in omega (arith, count, fewer_to jumps next further)) in
      have_ended steps jumps going.reached
      (λ s on. went_on jumps next further s (still_to jumps next further e s on)) next
      (are_reached steps jumps next going.reached further) (ended_before jumps next further)

pub all_ended : (steps jumps : List NextHop) (left : ℕ) → AreGoing steps jumps left → left ≤ 0 → HaveEnded steps jumps
all_ended steps jumps left going e = have_ended steps jumps going.reached on jumps going.reached (λ s h. h)
  where
    none : tos jumps ≡ 0
    none = let most = going.most in omega arith

    on : LeadOn jumps
    on (Ends x) h = h
    on (To i) h =
        elim (cases_lt i (length jumps)) [
          | inl within ↦ absurd (none_left jumps i (To i) none within h)
          | inr over ↦ ap (λ r. is_to (onward jumps r)) (past jumps i (To i) over) ∙ h
        ]

-- one walk more -----------------------------------------------------------------------
pub record FurtherSoFar (old : List NextHop) (count : ℕ) (new : List NextHop) : Type 0 where
  pub as_many : length new ≡ length old
  pub each : (i : ℕ) → i < count → i < length old → IsFurther old new i
  pub later : (i : ℕ) → count ≤ i → onward new (To i) ≡ onward old (To i)

pub nothing_further : (old : List NextHop) → FurtherSoFar old 0 old
nothing_further old = record { as_many = refl; each = λ i less within. absurd (omega arith); later = λ i past. refl }

module _ (old now new : List NextHop) (count : ℕ) (step : NextHop) (so : FurtherSoFar old count now) (within : count < length old)
    (step_is : step ≡ onward now (onward now (To count))) (put : new ≡ slice_set now count step) where
  here : onward new (To count) ≡ step
  here = ap (λ xs. slice_index_or xs count (To count)) put ∙ get_or-set_at now count count step (To count) refl (let many = so.as_many in omega arith)

  elsewhere : (i : ℕ) → (i ≡ count → ⊥) → onward new (To i) ≡ onward now (To i)
  elsewhere i apart = ap (λ xs. slice_index_or xs i (To i)) put ∙ get_or-set_other now count i step (To i) apart

  -- the next step is from the old list or from the new one
  next_is : (x : NextHop) → onward old (To count) ≡ x → step ≡ onward now x → IsFurther old new count
  next_is (Ends e) at is = inl (here ∙ is ∙ sym (ap (onward old) at))
  next_is (To j) at is =
      elim (cases_lt j count) [
        | inl before ↦ inr (j, before, at, here ∙ is ∙ sym (elsewhere j (λ same. let e : j ≡ count = same in omega arith)))
        | inr past ↦ inl (here ∙ is ∙ so.later j past ∙ sym (ap (onward old) at))
      ]

  kept : (i : ℕ) → i < count → IsFurther old now i → IsFurther old new i
  kept i less (inl twice) = inl (elsewhere i (λ same. let e : i ≡ count = same in omega arith) ∙ twice)
  kept i less (inr before) = inr (
    before.0,
    before.1,
    before.2,
    elsewhere i (λ same. let e : i ≡ count = same in omega arith) ∙ before.3
        ∙ sym (elsewhere before.0 (λ same. let e : before.0 ≡ count = same in let low = before.1 in omega arith)),
  )

  each : (i : ℕ) → i < count + 1 → i < length old → IsFurther old new i
  each i less inside =
      elim (cases_eq i count) [
        | inl same ↦
            subst (IsFurther old new) (sym same)
            (next_is (onward old (To count)) refl (step_is ∙ ap (onward now) (so.later count (omega arith))))
        | inr apart ↦ kept i (omega (arith, apart)) (so.each i (omega (arith, apart)) inside)
      ]

  pub one_further : FurtherSoFar old (count + 1) new
  one_further = record {
    as_many = ap length put ∙ length-set now count step ∙ so.as_many;
    each = each;
    later = λ i past. elsewhere i (λ same. let e : i ≡ count = same in omega arith) ∙ so.later i (omega arith);
  }

pub all_further : (old new : List NextHop) (count : ℕ) → FurtherSoFar old count new → length old ≤ count → AreFurther old new
all_further old new count so past = record { as_many = so.as_many; each = λ i less. so.each i (omega arith) less }

-- how many of the first walks have not ended
pub tos_more : (xs : List NextHop) (i : ℕ) (v : NextHop) → i < length xs → tos (take (i + 1) (slice_set xs i v)) ≡ tos (take i xs) + one v
tos_more [] i v h = absurd (omega arith)
tos_more (x ∷ xs) zero v h = omega arith
tos_more (x ∷ xs) (suc i) v h =
    let e : suc i + 1 ≡ suc (i + 1) = omega arith in
    let rest = tos_more xs i v (omega arith) in
    ap (λ n. tos (take n (slice_set (x ∷ xs) (suc i) v))) e ∙ omega arith

pub tos_first : (xs : List NextHop) (i : ℕ) → tos (take i xs) ≤ i
tos_first xs zero = omega arith
tos_first [] (suc i) = omega arith
tos_first (x ∷ xs) (suc i) = omega (arith, one_most x, tos_first xs i)

pub tos_all : (xs : List NextHop) (i : ℕ) → length xs ≤ i → tos (take i xs) ≡ count_by is_to xs
tos_all xs i over = ap tos (take_all i xs over) ∙ tos_count xs

pub count_more : (xs : List NextHop) (i n left : ℕ) (v : NextHop) → i < length xs → n ≡ tos (take i xs) → left ≡ n + one v
    → left ≡ tos (take (i + 1) (slice_set xs i v))
count_more xs i n left v less so is = is ∙ ap (λ k. k + one v) so ∙ sym (tos_more xs i v less)

pub one_to : (x : NextHop) → is_to x ≡ true → one x ≡ 1
one_to (To i) h = refl
one_to (Ends e) h = absurd (cc)

pub one_ended : (x : NextHop) → is_to x ≡ false → one x ≡ 0
one_ended (To i) h = absurd (cc)
one_ended (Ends e) h = refl

pub step_by : (now shown : List NextHop) (index : ℕ) (got step : NextHop) → shown ≡ now → index < length now → got ≡ slice_index_or now index got
    → step ≡ onward shown got → step ≡ onward now (onward now (To index))
step_by now shown index got step same less is by =
    by ∙ ap (λ xs. onward xs got) same ∙ ap (onward now) (is ∙ at_any now index got (To index) less)
