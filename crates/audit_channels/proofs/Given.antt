-- Numbers of channels, given round by round.
use Rattle.std.proofs.Common.{◌≡◌, ◌≢◌, ◌<◌, ◌≤◌, ℕ, zero, suc, Bool, true, false, cond, List, [], ◌∷◌, length, replicate, refl, sym, ap, ◌∙◌, subst, arith, inl, inr, ◌⊎◌}
use Rattle.std.specs.Prelude.{Contains, filter, slice_index_or, slice_set, ◌==◌, not}
use Rattle.std.specs.Prelude.{All, None, Some, position}
use Rattle.std.specs.List.{position_or_len, range_with_len}
use Rattle.std.proofs.lemmas.List.{get_or-set_other, get_or-set_same, length-set}
use Rattle.std.proofs.lemmas.List.FromFn.{get_or-range_with_len, length-range_with_len}
use Rattle.std.proofs.lemmas.List.Sums.{fails_before_first}
use Rattle.std.proofs.lemmas.List.Quantifiers.{position-Some}
use Rattle.smp_bytes.proofs.Members.{contains_cases, contains_filter, contains-from_filter, contains_here, contains_later, contains_none}
use Rattle.std.proofs.lemmas.Bool.{cases_lt, eqb-true, eq-eqb, ltb-false}
use Rattle.audit_channels.specs.ChannelOrders.{Follows, LeadToChannels, Rise}
use Rattle.audit_channels.specs.Numbers.{has_none, is_free, is_held_up, with_number, AreGiven}
use Rattle.audit_channels.proofs.Passing.{list_any_true}

abbrev num : List ℕ → ℕ → ℕ
num numbers c = slice_index_or numbers c 0

-- a list's number there, whichever stands for none
pub there : (xs : List ℕ) (i d e : ℕ) → i < length xs → slice_index_or xs i d ≡ slice_index_or xs i e
there [] i d e h = absurd (omega arith)
there (x ∷ xs) zero d e h = refl
there (x ∷ xs) (suc i) d e h = there xs i d e (omega arith)

past : (xs : List ℕ) (i d : ℕ) → length xs ≤ i → slice_index_or xs i d ≡ d
past [] i d h = refl
past (x ∷ xs) zero d h = absurd (omega arith)
past (x ∷ xs) (suc i) d h = past xs i d (omega arith)

pub none_there : (numbers : List ℕ) (c : ℕ) → has_none numbers c ≡ true → (c < length numbers) × (num numbers c ≡ 0)
none_there numbers c h =
    elim (cases_lt c (length numbers)) [
      | inl less ↦ (less, there numbers c 0 1 less ∙ eqb-true (slice_index_or numbers c 1) 0 h)
      | inr more ↦ let is : slice_index_or numbers c 1 ≡ 1 = past numbers c 1 more in
          let z = eqb-true (slice_index_or numbers c 1) 0 h in absurd (omega arith)
    ]

pub has_none_at : (numbers : List ℕ) (c : ℕ) → c < length numbers → num numbers c ≡ 0 → has_none numbers c ≡ true
has_none_at numbers c less e = eq-eqb (slice_index_or numbers c 1) 0 (there numbers c 1 0 less ∙ e)

some_there : (numbers : List ℕ) (c : ℕ) → num numbers c ≢ 0 → c < length numbers
some_there numbers c h = elim (cases_lt c (length numbers)) [ inl less ↦ less | inr more ↦ absurd (h (past numbers c 0 more)) ]

-- a number for some channels ----------------------------------------------------------------------

pub length_with : (channels : List ℕ) (number : ℕ) (numbers : List ℕ) → length (with_number channels number numbers) ≡ length numbers
length_with [] number numbers = refl
length_with (c ∷ later) number numbers = length_with later number (slice_set numbers c number) ∙ length-set numbers c number

-- a channel's number is given, or what it was
given_or_same : (channels : List ℕ) (number : ℕ) (numbers : List ℕ) (c : ℕ) → c < length numbers
    → (Contains channels c × (num (with_number channels number numbers) c ≡ number)) ⊎ (num (with_number channels number numbers) c ≡ num numbers c)
given_or_same [] number numbers c less = inr refl
given_or_same (d ∷ later) number numbers c less =
    let long = length-set numbers d number in
    elim (given_or_same later number (slice_set numbers d number) c (omega arith)) [
      | inl given ↦ inl (contains_later d c later given.0, given.1)
      | inr same ↦ (elim (c == d) as (λ t. (c == d) ≡ t → (Contains (d ∷ later) c × (num (with_number later number (slice_set numbers d number)) c ≡ number))
          ⊎ (num (with_number later number (slice_set numbers d number)) c ≡ num numbers c)) [
            | true ↦ λ q. let is : c ≡ d = eqb-true c d q in
                inl (
                  subst (λ (x : ℕ). Contains (x ∷ later) c) is (contains_here c later),
                  same ∙ ap (λ x. num (slice_set numbers x number) c) (sym is) ∙ get_or-set_same numbers c number 0 less,
                )
            | false ↦ λ q. inr (same ∙ get_or-set_other numbers d c number 0 (λ is. let e : (c == d) ≡ true = eq-eqb c d is in cc))
          ] refl)
    ]

-- each of the channels has it
given_to : (channels : List ℕ) (number : ℕ) (numbers : List ℕ) (c : ℕ) → c < length numbers → Contains channels c
    → num (with_number channels number numbers) c ≡ number
given_to [] number numbers c less here = absurd (contains_none c here)
given_to (d ∷ later) number numbers c less here =
    let long = length-set numbers d number in
    elim (contains_cases d c later here) [
      | inl is ↦ (elim (given_or_same later number (slice_set numbers d number) c (omega arith)) [
        | inl given ↦ given.1
        | inr same ↦ same ∙ ap (λ x. num (slice_set numbers x number) c) is ∙ get_or-set_same numbers c number 0 less
      ])
      | inr more ↦ given_to later number (slice_set numbers d number) c (omega arith) more
    ]

-- what passes a test is no more, and less where one does not pass
filter_no_more : (p : ℕ → Bool) (xs : List ℕ) → length (filter p xs) ≤ length xs
filter_no_more p [] = omega arith
filter_no_more p (x ∷ xs) =
    let rest = filter_no_more p xs in
    elim (p x) as (λ t. length (cond t (x ∷ filter p xs) (filter p xs)) ≤ length (x ∷ xs)) [ true ↦ omega arith | false ↦ omega arith ]

filter_less : (p : ℕ → Bool) (xs : List ℕ) (x : ℕ) → Contains xs x → p x ≡ false → length (filter p xs) < length xs
filter_less p [] x here e = absurd (contains_none x here)
filter_less p (y ∷ xs) x here e =
    elim (contains_cases y x xs here) [
      | inl is ↦
          let rest = filter_no_more p xs in
          let P : Bool → Type 0 = λ t. length (cond t (y ∷ filter p xs) (filter p xs)) < length (y ∷ xs) in
          subst P (sym (ap p is ∙ e)) (omega arith)
      | inr more ↦
          let rest = filter_less p xs x more e in
          elim (p y) as (λ t. length (cond t (y ∷ filter p xs) (filter p xs)) < length (y ∷ xs)) [ true ↦ omega arith | false ↦ omega arith ]
    ]

-- numbers so far ----------------------------------------------------------------------------------

-- numbers so far, and the channels that are left without one
pub record SoFar (waits : List (List ℕ)) (numbers left : List ℕ) : Type 0 where
  pub as_many : length numbers ≡ length waits
  pub leads : LeadToChannels waits
  pub none : (c : ℕ) → Contains left c → has_none numbers c ≡ true
  pub all : (c : ℕ) → c < length numbers → num numbers c ≡ 0 → Contains left c
  pub above : (c : ℕ) → num numbers c ≢ 0 → length left < num numbers c
  pub rises : (c next : ℕ) → num numbers c ≢ 0 → Follows waits c next → num numbers c < num numbers next

blank : (n i : ℕ) → num (replicate {A = ℕ} n 0) i ≡ 0
blank zero i = refl
blank (suc n) zero = refl
blank (suc n) (suc i) = blank n i

blank_long : (n : ℕ) → length (replicate {A = ℕ} n 0) ≡ n
blank_long zero = refl
blank_long (suc n) = ap suc (blank_long n)

-- a range of channels has each channel below its end, and no other
in_range : (n c : ℕ) → Contains (range_with_len 0 n) c → c < n
in_range n c here =
    let long = length-range_with_len 0 n in
    let is = get_or-range_with_len 0 n here.0 c (omega (arith, here.1)) in omega (arith, here.1, here.2)

of_range : (n c : ℕ) → c < n → Contains (range_with_len 0 n) c
of_range n c less =
    let long = length-range_with_len 0 n in
    let is = get_or-range_with_len 0 n c c less in (c, omega arith, omega arith)

pub none_given : (waits : List (List ℕ)) (numbers left : List ℕ) (n : ℕ) → numbers ≡ replicate {A = ℕ} n 0 → left ≡ range_with_len 0 n → n ≡ length waits
    → LeadToChannels waits → SoFar waits numbers left
none_given waits numbers left n e is all leads =
    subst (λ (xs : List ℕ). SoFar waits xs left) (sym e)
    (subst (λ (cs : List ℕ). SoFar waits (replicate {A = ℕ} n 0) cs) (sym is)
    (record {
      as_many = blank_long n ∙ all;
      leads = leads;
      none = λ c here. (let long = blank_long n in let less = in_range n c here in has_none_at (replicate {A = ℕ} n 0) c (omega arith) (blank n c));
      all = λ c less none. (let long = blank_long n in of_range n c (omega arith));
      above = λ c some. absurd (some (blank n c));
      rises = λ c next some follows. absurd (some (blank n c));
    }))

module _ (waits : List (List ℕ)) (numbers left : List ℕ) (so_far : SoFar waits numbers left) where
  -- a channel that is left has no number
  pub within : (c : ℕ) → Contains left c → c < length numbers
  within c here = (none_there numbers c (so_far.none c here)).0

  pub free_within : All (λ c. c < length numbers) (filter (is_free waits numbers) left)
  free_within = λ k d less.
      let here : Contains (filter (is_free waits numbers) left) (slice_index_or (filter (is_free waits numbers) left) k d) = (k, less, same k d less) in
      within _ (contains-from_filter (is_free waits numbers) left _ here).0
    where
      same : (k d : ℕ) → k < length (filter (is_free waits numbers) left)
          → slice_index_or (filter (is_free waits numbers) left) k (slice_index_or (filter (is_free waits numbers) left) k d)
          ≡ slice_index_or (filter (is_free waits numbers) left) k d
      same k d less = there (filter (is_free waits numbers) left) k _ d less

  -- if none is free, each that is left is held up
  pub all_given : filter (is_free waits numbers) left ≡ [] → AreGiven waits numbers
  all_given no_free = record {
    as_many = so_far.as_many;
    rises = so_far.rises;
    held_up = λ c less none.
        (elim (is_held_up numbers (slice_index_or waits c [])) as (λ t. is_held_up numbers (slice_index_or waits c []) ≡ t → t ≡ true) [
          | true ↦ λ q. refl
          | false ↦ λ q. absurd (contains_none c (subst (λ (cs : List ℕ). Contains cs c) no_free
              (contains_filter (is_free waits numbers) left c (so_far.all c less none) (ap not q))))
        ] refl);
  }

  module _ (free next later : List ℕ) (free_is : free ≡ filter (is_free waits numbers) left) (next_is : next ≡ with_number free (length left) numbers)
      (later_is : later ≡ filter (has_none next) left) where
    long : length next ≡ length numbers
    long = ap length next_is ∙ length_with free (length left) numbers

    is_left : (c : ℕ) → Contains free c → Contains left c × (is_free waits numbers c ≡ true)
    is_left c here = contains-from_filter (is_free waits numbers) left c (subst (λ (cs : List ℕ). Contains cs c) free_is here)

    at : (c : ℕ) → c < length numbers → (Contains free c × (num next c ≡ length left)) ⊎ (num next c ≡ num numbers c)
    at c less =
        subst (λ (ns : List ℕ). (Contains free c × (num ns c ≡ length left)) ⊎ (num ns c ≡ num numbers c)) (sym next_is)
        (given_or_same free (length left) numbers c less)

    no_more : length later ≤ length left
    no_more = let fewer = filter_no_more (has_none next) left in let is = ap length later_is in omega arith

    -- a channel that is free is left no more
    pub fewer : (c : ℕ) → Contains free c → length later < length left
    fewer c here =
        let was = is_left c here in
        let less = within c was.0 in
        let some = was.0.1 in
        let given : num next c ≡ length left = ap (λ ns. num ns c) next_is ∙ given_to free (length left) numbers c less here in
        let has : has_none next c ≡ false = no_zero (slice_index_or next c 1) (let same = there next c 1 0 (omega (arith, long, less)) in
        omega (arith, same, given, some)) in
        let less_now = filter_less (has_none next) left c was.0 has in
        let is = ap length later_is in omega (arith, less_now, is)
      where
        no_zero : (n : ℕ) → 0 < n → (n == 0) ≡ false
        no_zero n some = elim (n == 0) as (λ t. (n == 0) ≡ t → t ≡ false) [ true ↦ λ q. absurd (let e = eqb-true n 0 q in omega arith) | false ↦ λ q. refl ] refl

    -- each channel that follows one that is free has a number
    followed : (c d : ℕ) → is_free waits numbers c ≡ true → Follows waits c d → num numbers d ≢ 0
    followed c d free f = λ none.
        let less = so_far.leads c d f in
        let as_many = so_far.as_many in
        let any : is_held_up numbers (slice_index_or waits c []) ≡ true =
        list_any_true (has_none numbers) (slice_index_or waits c []) d f (has_none_at numbers d (omega arith) none) in
        let not_free : is_free waits numbers c ≡ false = ap not any in cc

    -- a number that was given stays
    keeps : (c : ℕ) → num numbers c ≢ 0 → num next c ≡ num numbers c
    keeps c some =
        elim (at c (some_there numbers c some)) [
          | inl given ↦ absurd (some (none_there numbers c (so_far.none c (is_left c given.0).0)).1)
          | inr same ↦ same
        ]

    pub more_given : SoFar waits next later
    more_given = record {
      as_many = long ∙ so_far.as_many;
      leads = so_far.leads;
      none = λ c here. (contains-from_filter (has_none next) left c (subst (λ (cs : List ℕ). Contains cs c) later_is here)).1;
      all = λ c less none. subst (λ (cs : List ℕ). Contains cs c) (sym later_is)
          (contains_filter (has_none next) left c (was_left c less none) (has_none_at next c less none));
      above = above_next;
      rises = rises_next;
    }
      where
        was_left : (c : ℕ) → c < length next → num next c ≡ 0 → Contains left c
        was_left c less none =
            elim (at c (omega (arith, long, less))) [
              | inl given ↦ (is_left c given.0).0
              | inr same ↦ so_far.all c (omega (arith, long, less)) (sym same ∙ none)
            ]

        above_next : (c : ℕ) → num next c ≢ 0 → length later < num next c
        above_next c some =
            let less = some_there next c some in
            elim (at c (omega (arith, long, less))) [
              | inl given ↦ let is = given.1 in let now = fewer c given.0 in omega (arith, is, now)
              | inr same ↦ let more = so_far.above c (λ z. some (same ∙ z)) in omega (arith, same, more, no_more)
            ]

        rises_next : (c d : ℕ) → num next c ≢ 0 → Follows waits c d → num next c < num next d
        rises_next c d some f =
            let less = some_there next c some in
            elim (at c (omega (arith, long, less))) [
              | inl given ↦
                  let is = given.1 in
                  let has = followed c d (is_left c given.0).1 f in
                  let more = so_far.above d has in
                  let kept = keeps d has in omega (arith, is, more, kept)
              | inr same ↦
                  let more = so_far.rises c d (λ z. some (same ∙ z)) f in
                  let kept = keeps d (λ z. omega (arith, more, z)) in omega (arith, same, more, kept)
            ]

-- the first without a number, or none
no_index : (t : Bool) (n : ℕ) → cond t (Some n) None ≡ None → t ≡ false
no_index true n e = cc
no_index false n e = refl

pub first_has_none : (numbers : List ℕ) (first : ℕ) → position (λ n. n == 0) numbers ≡ Some first → has_none numbers first ≡ true
first_has_none numbers first e = let p = position-Some (λ n. n == 0) numbers first 1 e in p.1

pub follows_channel : (waits : List (List ℕ)) (c next : ℕ) → Follows waits c next → c < length waits
follows_channel [] c next h = absurd (contains_none next h)
follows_channel (x ∷ waits) zero next h = omega arith
follows_channel (x ∷ waits) (suc c) next h = let less = follows_channel waits c next h in omega arith

-- if each channel has a number, the numbers rise
pub all_rise : (waits : List (List ℕ)) (numbers : List ℕ) → AreGiven waits numbers → position (λ n. n == 0) numbers ≡ None → Rise (Follows waits) (length waits) numbers
all_rise waits numbers h e = record {
  as_many = h.as_many;
  rises = λ c next f.
      (let within = follows_channel waits c next f in
      let as_many = h.as_many in
      let past : length numbers ≤ position_or_len (λ n. n == 0) numbers = ltb-false _ _ (no_index _ _ e) in
      let fails : (num numbers c == 0) ≡ false = fails_before_first (λ n. n == 0) numbers c 0 (omega arith) in
      h.rises c next (λ z. let is : (num numbers c == 0) ≡ true = eq-eqb (num numbers c) 0 z in cc) f);
}
