-- A breadth-first search: one channel more, and what is known at its end.
use Rattle.std.proofs.Common.{◌≡◌, ◌≢◌, ◌<◌, ◌≤◌, ◌+◌, ℕ, zero, suc, true, List, [], ◌∷◌, ◌++◌, length, length-append, refl, sym, ap, ◌∙◌, subst, arith, inl, inr, ◌⊎◌, slice_set}
use Rattle.std.specs.Prelude.{slice_index_or}
use Rattle.std.proofs.lemmas.Bool.{cases_lt}
use Rattle.audit_channels.specs.declared.shortest_cycle.Visited.{Visited}
use Rattle.audit_channels.specs.Numbers.{has_none, AreGiven}
use Rattle.audit_channels.specs.ChannelOrders.{Follows, GoesOn, IsCycle, NoneShorter}
use Rattle.audit_channels.specs.ShortestCycle.{at_index, HasReached, IsStep, IsSearch, Grows, NoneBelow, IsLeast}
use Rattle.audit_channels.proofs.Given.{there, none_there, has_none_at, follows_channel}

-- numbers rise along a way from a channel with one
rise_along : (waits : List (List ℕ)) (numbers : List ℕ) → AreGiven waits numbers → (c last : ℕ) (later : List ℕ) → slice_index_or numbers c 0 ≢ 0
    → GoesOn (Follows waits) c later last → slice_index_or numbers c 0 < slice_index_or numbers last 0
rise_along waits numbers given c last [] some h = given.rises c last some h
rise_along waits numbers given c last (next ∷ later) some h =
    let one = given.rises c next some h.0 in
    let more = rise_along waits numbers given next last later (λ z. omega arith) h.1 in omega arith

is_channel : (waits : List (List ℕ)) (c last : ℕ) (later : List ℕ) → GoesOn (Follows waits) c later last → c < length waits
is_channel waits c last [] h = follows_channel waits c last h
is_channel waits c last (next ∷ later) h = follows_channel waits c next h.0

-- on a way to a channel without a number each has none
none_before : (waits : List (List ℕ)) (numbers : List ℕ) → AreGiven waits numbers → (c last : ℕ) (later : List ℕ) → slice_index_or numbers last 0 ≡ 0
    → GoesOn (Follows waits) c later last → has_none numbers c ≡ true
none_before waits numbers given c last later none h =
    let within = is_channel waits c last later h in
    let as_many = given.as_many in
    elim (cases_lt 0 (slice_index_or numbers c 0)) [
      | inl some ↦ let rise = rise_along waits numbers given c last later (λ z. omega arith) h in absurd (omega arith)
      | inr z ↦ has_none_at numbers c (omega arith) (omega arith)
    ]

-- each channel of a cycle has none
pub none_on_cycle : (waits : List (List ℕ)) (numbers : List ℕ) → AreGiven waits numbers → (c : ℕ) (later : List ℕ) → GoesOn (Follows waits) c later c
    → (c < length waits) × (has_none numbers c ≡ true)
none_on_cycle waits numbers given c later h =
    let within = is_channel waits c c later h in
    let as_many = given.as_many in (
      within,
      elim (cases_lt 0 (slice_index_or numbers c 0)) [
        | inl some ↦ let rise = rise_along waits numbers given c c later (λ z. omega arith) h in absurd (omega arith)
        | inr z ↦ has_none_at numbers c (omega arith) (omega arith)
      ],
    )

-- those that follow a channel have been reached, and the first does not follow it
pub record IsDoneAt (waits : List (List ℕ)) (numbers : List ℕ) (first least : ℕ) (reached : List Visited) (here : Visited) : Type 0 where
  pub not_back : Follows waits here.channel first → ⊥
  pub onward : here.count + 1 < least → (c : ℕ) → Follows waits here.channel c → has_none numbers c ≡ true → HasReached reached c (here.count + 1)

abbrev IsDone : List (List ℕ) → List ℕ → ℕ → ℕ → List Visited → ℕ → Type 0
IsDone waits numbers first least reached i = IsDoneAt waits numbers first least reached (at_index reached i)

-- those at the indices before this one are done
pub record SoFar (waits : List (List ℕ)) (numbers : List ℕ) (first least index : ℕ) (reached : List Visited) (marks : List ℕ) : Type 0 where
  pub count : ℕ
  pub search : IsSearch waits first count reached marks
  pub close : index < length reached → count ≤ (at_index reached index).count + 1
  pub done : (i : ℕ) → i < index → i < length reached → IsDone waits numbers first least reached i

-- from this index on, ways have at least `bound` channels
abbrev pub IsPast : ℕ → List Visited → ℕ → Type 0
IsPast index reached bound = (i : ℕ) → index ≤ i → i < length reached → bound ≤ (at_index reached i).count

module _ (waits : List (List ℕ)) (numbers : List ℕ) (first least index bound : ℕ) (reached : List Visited) (marks : List ℕ) (given : AreGiven waits numbers)
    (first_none : has_none numbers first ≡ true) (h : SoFar waits numbers first least index reached marks) (past : IsPast index reached bound) (most : bound
    ≤ least) where
  before : (i : ℕ) → i < length reached → (at_index reached i).count < bound → i < index
  before i there less = elim (cases_lt i index) [ inl l ↦ l | inr m ↦ let b = past i m there in absurd (omega arith) ]

  no_way : (later : List ℕ) (c n : ℕ) → HasReached reached c n → GoesOn (Follows waits) c later first → n + length later < bound → ⊥
  no_way [] c n r goes less =
      let within = r.within in
      let done = h.done r.index (before r.index r.there (omega arith)) r.there in
      done.not_back (subst (λ (k : ℕ). Follows waits k first) (sym r.is) goes)
  no_way (x ∷ later) c n r goes less =
      let within = r.within in
      let done = h.done r.index (before r.index r.there (omega arith)) r.there in
      let none = none_before waits numbers given x first later (none_there numbers first first_none).1 goes.1 in
      let next = done.onward (omega arith) x (subst (λ (k : ℕ). Follows waits k x) (sym r.is) goes.0) none in
      let close = next.within in
      no_way later x (n + 1) (record { index = next.index; there = next.there; is = next.is; within = omega arith }) goes.1 (omega arith)

  pub none_below : NoneBelow waits first bound
  none_below later goes =
      elim (cases_lt (length later + 1) bound) [
        | inl less ↦
            let ways = h.search.ways in
            let one = ways.one in
            absurd (no_way later first 1 (record { index = 0; there = ways.some; is = ways.begins; within = omega arith }) goes (omega arith))
        | inr more ↦ more
      ]

-- the cycle that was found is such
pub least_is : (waits : List (List ℕ)) (first least : ℕ) (cycle : List ℕ) → IsCycle (Follows waits) cycle → length cycle ≤ least → NoneBelow waits first (length cycle)
    → IsLeast waits first least cycle
least_is waits first least [] is less none = absurd is
least_is waits first least (c ∷ later) is less none = (is, omega arith, λ way goes. (let m = none way goes in omega arith))

-- a channel more is reached
at_before : (reached : List Visited) (next : Visited) (i : ℕ) → i < length reached → at_index (reached ++ next ∷ []) i ≡ at_index reached i
at_before [] next i less = absurd (omega arith)
at_before (r ∷ reached) next zero less = refl
at_before (r ∷ reached) next (suc i) less = at_before reached next i (omega arith)

at_last : (reached : List Visited) (next : Visited) → at_index (reached ++ next ∷ []) (length reached) ≡ next
at_last [] next = refl
at_last (r ∷ reached) next = at_last reached next

marked_same : (marks : List ℕ) (c m : ℕ) → c < length marks → slice_index_or (slice_set marks c m) c 0 ≡ m
marked_same [] c m less = absurd (omega arith)
marked_same (x ∷ marks) zero m less = refl
marked_same (x ∷ marks) (suc c) m less = marked_same marks c m (omega arith)

marked_other : (marks : List ℕ) (c k m : ℕ) → k ≢ c → slice_index_or (slice_set marks c m) k 0 ≡ slice_index_or marks k 0
marked_other [] c k m apart = refl
marked_other (x ∷ marks) zero zero m apart = absurd (apart refl)
marked_other (x ∷ marks) zero (suc k) m apart = refl
marked_other (x ∷ marks) (suc c) zero m apart = refl
marked_other (x ∷ marks) (suc c) (suc k) m apart = marked_other marks c k m (λ e. apart (ap suc e))

as_long : (marks : List ℕ) (c m : ℕ) → length (slice_set marks c m) ≡ length marks
as_long [] c m = refl
as_long (x ∷ marks) zero m = refl
as_long (x ∷ marks) (suc c) m = ap suc (as_long marks c m)

module _ (waits : List (List ℕ)) (first : ℕ) (reached : List Visited) (marks : List ℕ) (next : Visited) (h : IsSearch waits first next.count reached marks)
    (step : IsStep waits reached next (length reached)) (within : next.channel < length marks) where
  new : List Visited
  new = reached ++ next ∷ []

  long : length (reached ++ next ∷ []) ≡ length reached + 1
  long = length-append reached (next ∷ [])

  index_cases : (i : ℕ) → i < length (reached ++ next ∷ []) → (i < length reached) ⊎ (i ≡ length reached)
  index_cases i less = let l = long in elim (cases_lt i (length reached)) [ inl b ↦ inl b | inr m ↦ inr (omega arith) ]

  at_end : (i : ℕ) → i ≡ length reached → at_index (reached ++ next ∷ []) i ≡ next
  at_end i e = ap (at_index (reached ++ next ∷ [])) e ∙ at_last reached next

  still : (r : Visited) (index : ℕ) → index ≤ length reached → IsStep waits reached r index → IsStep waits (reached ++ next ∷ []) r index
  still r index less s =
      let earlier = s.earlier in
      let same = at_before reached next r.from (omega arith) in
      record {
        earlier = earlier;
        follows = subst (λ (o : Visited). Follows waits o.channel r.channel) (sym same) s.follows;
        one_more = s.one_more ∙ ap (λ (o : Visited). o.count + 1) (sym same);
      }

  steps_new : (i : ℕ) → 0 < i → i < length (reached ++ next ∷ []) → IsStep waits (reached ++ next ∷ []) (at_index (reached ++ next ∷ []) i) i
  steps_new i some less =
      elim (index_cases i less) [
        | inl b ↦ subst (λ (r : Visited). IsStep waits (reached ++ next ∷ []) r i) (sym (at_before reached next i b))
            (still (at_index reached i) i (omega arith) (h.ways.steps i some b))
        | inr e ↦ subst (λ (r : Visited). IsStep waits (reached ++ next ∷ []) r i) (sym (at_end i e))
            (subst (λ (k : ℕ). IsStep waits (reached ++ next ∷ []) next k) (sym e) (still next (length reached) (omega arith) step))
      ]

  within_new : (i : ℕ) → i < length (reached ++ next ∷ []) → (at_index (reached ++ next ∷ []) i).count ≤ next.count
  within_new i less =
      elim (index_cases i less) [
        | inl b ↦ let w = h.within i b in let same = ap (λ (r : Visited). r.count) (at_before reached next i b) in omega arith
        | inr e ↦ let same = ap (λ (r : Visited). r.count) (at_end i e) in omega arith
      ]

  rises_new : (i k : ℕ) → i ≤ k → k < length (reached ++ next ∷ []) → (at_index (reached ++ next ∷ []) i).count ≤ (at_index (reached ++ next ∷ []) k).count
  rises_new i k more less =
      elim (index_cases k less) [
        | inl b ↦
            let one = ap (λ (r : Visited). r.count) (at_before reached next i (omega arith)) in
            let other = ap (λ (r : Visited). r.count) (at_before reached next k b) in
            let rise = h.rises i k more b in omega arith
        | inr e ↦ let same = ap (λ (r : Visited). r.count) (at_end k e) in let w = within_new i (omega arith) in omega arith
      ]

  marked_new : (c : ℕ) → slice_index_or (slice_set marks next.channel (first + 1)) c 0 ≡ first + 1 → HasReached (reached ++ next ∷ []) c next.count
  marked_new c e =
      elim (cases_eq c next.channel) [
        | inl same ↦ record {
          index = length reached;
          there = (let l = long in omega arith);
          is = ap (λ (r : Visited). r.channel) (at_last reached next) ∙ sym same;
          within = within_new (length reached) (let l = long in omega arith);
        }
        | inr apart ↦
            let r = h.marked c (sym (marked_other marks next.channel c (first + 1) apart) ∙ e) in
            let there = r.there in
            record {
              index = r.index;
              there = (let l = long in omega arith);
              is = ap (λ (o : Visited). o.channel) (at_before reached next r.index r.there) ∙ r.is;
              within = within_new r.index (let l = long in omega arith);
            }
      ]
    where
      cases_eq : (a b : ℕ) → (a ≡ b) ⊎ (a ≢ b)
      cases_eq a b = elim (cases_lt a b) [
        | inl l ↦ inr (λ e. omega arith)
        | inr m ↦ (elim (cases_lt b a) [ inl l ↦ inr (λ e. omega arith) | inr n ↦ inl (omega arith) ])
      ]

  most_new : (c : ℕ) → slice_index_or (slice_set marks next.channel (first + 1)) c 0 ≤ first + 1
  most_new c =
      elim (cases_lt c next.channel) [
        | inl l ↦ let same = marked_other marks next.channel c (first + 1) (λ e. omega arith) in let most = h.most c in omega arith
        | inr m ↦ (elim (cases_lt next.channel c) [
          | inl l ↦ let same = marked_other marks next.channel c (first + 1) (λ e. omega arith) in let most = h.most c in omega arith
          | inr n ↦
              let e : c ≡ next.channel = omega arith in
              let is = ap (λ (k : ℕ). slice_index_or (slice_set marks next.channel (first + 1)) k 0) e ∙ marked_same marks next.channel (first + 1) within in
              omega arith
        ])
      ]

  pub one_reached : IsSearch waits first next.count (reached ++ next ∷ []) (slice_set marks next.channel (first + 1))
  one_reached =
      let some = h.ways.some in
      let l = long in
      record {
        ways = record {
          some = omega arith;
          begins = ap (λ (r : Visited). r.channel) (at_before reached next 0 some) ∙ h.ways.begins;
          one = ap (λ (r : Visited). r.count) (at_before reached next 0 some) ∙ h.ways.one;
          steps = steps_new;
        };
        rises = rises_new;
        within = within_new;
        marked = marked_new;
        as_many = as_long marks next.channel (first + 1) ∙ h.as_many;
        most = most_new;
      }

-- what was reached stays so
reached_still : (old new : List Visited) (c count n : ℕ) → Grows old new → count ≤ n → HasReached old c count → HasReached new c n
reached_still old new c count n grows more r =
    let same = grows.same r.index r.there in
    let within = r.within in
    let longer = grows.longer in
    let there = r.there in
    let counts = ap (λ (o : Visited). o.count) same in
    record { index = r.index; there = omega arith; is = ap (λ (o : Visited). o.channel) same ∙ r.is; within = omega arith }

pub grows_further : (old now new : List Visited) → Grows old now → Grows now new → Grows old new
grows_further old now new g h =
    let one = g.longer in
    let other = h.longer in
    record { longer = omega arith; same = λ i less. h.same i (omega arith) ∙ g.same i less }

-- one more of those that follow has been reached
pub one_more_onward : (numbers following : List ℕ) (count index item : ℕ) (old new : List Visited) → Grows old new → index < length following
    → item ≡ slice_index_or following index 0
    → ((c k : ℕ) → k < index → slice_index_or following k c ≡ c → has_none numbers c ≡ true → HasReached old c count)
    → (has_none numbers item ≡ true → HasReached new item count)
    → (c k : ℕ) → k < index + 1 → slice_index_or following k c ≡ c → has_none numbers c ≡ true → HasReached new c count
one_more_onward numbers following count index item old new grows less item_is so_far now c k below is none =
    elim (cases_lt k index) [
      | inl b ↦ reached_still old new c count count grows (omega arith) (so_far c k b is none)
      | inr m ↦
          let at : k ≡ index = omega arith in
          let same : item ≡ c = item_is ∙ there following index 0 c less ∙ ap (λ (i : ℕ). slice_index_or following i c) (sym at) ∙ is in
          subst (λ (x : ℕ). HasReached new x count) same (now (subst (λ (x : ℕ). has_none numbers x ≡ true) (sym same) none))
    ]

-- one more is done
module _ (waits : List (List ℕ)) (numbers : List ℕ) (first least index : ℕ) (old new : List Visited) (marks now : List ℕ) (here : Visited)
    (h : SoFar waits numbers first least index old marks) (there : index < length old) (here_is : here ≡ at_index old index)
    (not_back : Follows waits here.channel first → ⊥) (search : IsSearch waits first (here.count + 1) new now) (grows : Grows old new)
    (onward : here.count + 1 < least → (c : ℕ) → Follows waits here.channel c → has_none numbers c ≡ true → HasReached new c (here.count + 1)) where
  here_now : at_index new index ≡ here
  here_now = grows.same index there ∙ sym here_is

  done_now : (i : ℕ) → i < index + 1 → i < length new → IsDone waits numbers first least new i
  done_now i less within =
      elim (cases_lt i index) [
        | inl b ↦
            let d = h.done i b (omega arith) in
            let same = sym (grows.same i (omega arith)) in
            subst (λ (r : Visited). IsDoneAt waits numbers first least new r) same
            (record { not_back = d.not_back; onward = λ more c f none. reached_still old new c _ _ grows (omega arith) (d.onward more c f none) })
        | inr m ↦
            let at : i ≡ index = omega arith in
            subst (λ (k : ℕ). IsDone waits numbers first least new k) (sym at)
            (subst (λ (r : Visited). IsDoneAt waits numbers first least new r) (sym here_now) (record { not_back = not_back; onward = onward }))
      ]

  pub one_done : SoFar waits numbers first least (index + 1) new now
  one_done = record {
    count = here.count + 1;
    search = search;
    close = λ less.
        (let rise = search.rises index (index + 1) (omega arith) less in let same = ap (λ (r : Visited). r.count) here_now in omega arith);
    done = done_now;
  }

-- an index past the end, or one with at least `bound` channels on its way
pub past_end : (index bound : ℕ) (reached : List Visited) → length reached ≤ index → IsPast index reached bound
past_end index bound reached more i from less = absurd (omega arith)

pub past_count : (waits : List (List ℕ)) (first count index bound : ℕ) (reached : List Visited) (marks : List ℕ) → IsSearch waits first count reached marks
    → (index < length reached → bound ≤ (at_index reached index).count) → IsPast index reached bound
past_count waits first count index bound reached marks h least i from less = let m = least (omega arith) in let rise = h.rises index i from less in omega arith

-- from each channel without a number none is shorter, and so none is
pub none_shorter : (waits : List (List ℕ)) (numbers : List ℕ) (cycle : List ℕ) → AreGiven waits numbers
    → ((c : ℕ) → c < length waits → has_none numbers c ≡ true → NoneBelow waits c (length cycle)) → NoneShorter (Follows waits) cycle
none_shorter waits numbers cycle given all [] is = absurd is
none_shorter waits numbers cycle given all (c ∷ later) is =
    let on = none_on_cycle waits numbers given c later is in let m = all c on.0 on.1 later is in omega arith
