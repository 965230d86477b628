-- What is handed out: kept numbers stay, and each other end port takes the least number whose range is open.
use Rattle.std.proofs.Common.{◌≡◌, ◌<◌, ◌≤◌, ◌-◌, ℕ, List, [], ◌∷◌, ◌++◌, ◌⊎◌, inl, inr, refl, sym, ap, ◌∙◌, subst, arith, true, false, not, map}
use Rattle.std.proofs.lemmas.Bool.{and_parts, and_from, not-true, not_from_false, both_ways, cases_Bool, false_from_ne_true}
use Rattle.std.specs.Prelude.{Contains, Option, None, Some, option_map, option_and_then}
use Rattle.std.specs.List.{list_any}
use Rattle.subnet_view.specs.declared.end_port.EndPort.{EndPort}
use Rattle.subnet_view.proofs.Members.{contains_here, contains_later, contains_cases, contains_none, contains_first, list_any_true, list_any_at}
use Rattle.lid_assign.specs.Ranges.{width_of, Range, range_at, meets, fits, Fits}
use Rattle.lid_assign.specs.Lids.{is_open, least_open, hand_out}
use Rattle.lid_assign.proofs.Ranges.{some_width, meets_turned, fits_from_test, test_from_fits}
use Rattle.lid_assign.proofs.Rising.{least_is_found, found_is_least, none_is_found, found_none}
use Rattle.lid_assign.proofs.KeptClaims.{Ports, KeptApart}

abbrev pub GivenLids : Type 0
GivenLids = List (EndPort × ℕ)

-- so many numbers from one on
abbrev pub so_many : ℕ → ℕ → Range
so_many width c = record { first = c; width = width }

-- the numbers of an end port with its LID
abbrev pub numbers_of : ℕ → EndPort × ℕ → Range
numbers_of lmc x = range_at lmc x.0 x.1

-- the end port keeps no number
abbrev pub IsOther : Ports → EndPort → Type 0
IsOther ports e = (c : ℕ) → Contains ports (e, Some c) → ⊥

-- the least open number -----------------------------------------------------------

-- a range that is among these meets the one from the number on
abbrev pub IsBlocked : List Range → Range → Type 0
IsBlocked taken r = (t : Range) × Contains taken t × (meets r t ≡ true)

pub record IsLeastOpen (room : ℕ) (taken : List Range) (width n : ℕ) : Type 0 where
  pub it_fits : Fits room (so_many width n)
  pub free : (t : Range) → Contains taken t → meets (so_many width n) t ≡ false
  pub none_before : (m : ℕ) → m < n → Fits room (so_many width m) → IsBlocked taken (so_many width m)

module _ (room : ℕ) (taken : List Range) where
  open_from_test : (r : Range) → is_open room taken r ≡ true → Fits room r × ((t : Range) → Contains taken t → meets r t ≡ false)
  open_from_test r e =
      let p = and_parts (fits room r) (not (list_any (meets r) taken)) e in (
        fits_from_test room r p.0,
        λ t h. false_from_ne_true _ (λ s. both_ways _ (not-true _ p.1) (list_any_true (meets r) taken t h s)),
      )

  test_from_open : (r : Range) → Fits room r → ((t : Range) → Contains taken t → meets r t ≡ false) → is_open room taken r ≡ true
  test_from_open r f none =
      and_from (fits room r) (not (list_any (meets r) taken)) (test_from_fits room r f) (not_from_false _ (false_from_ne_true _ (λ s.
      let t = list_any_at (meets r) taken s in both_ways _ (none t.0 t.1) t.2)))

  blocked_from_test : (r : Range) → Fits room r → is_open room taken r ≡ false → IsBlocked taken r
  blocked_from_test r f e =
      elim (cases_Bool (list_any (meets r) taken)) [
        | inl s ↦ let t = list_any_at (meets r) taken s in (t.0, t.1, t.2)
        | inr s ↦ absurd (both_ways _ e (and_from (fits room r) (not (list_any (meets r) taken)) (test_from_fits room r f) (not_from_false _ s)))
      ]

  test_from_blocked : (r : Range) → IsBlocked taken r → is_open room taken r ≡ false
  test_from_blocked r b =
      false_from_ne_true _ (λ e. both_ways _ ((open_from_test r e).1 b.0 b.1) b.2)

  module _ (width : ℕ) (some : 1 ≤ width) where
    pub least_open_is : (n : ℕ) → least_open room taken width ≡ Some n → IsLeastOpen room taken width n
    least_open_is n e =
        let l = (found_is_least (λ c. is_open room taken (so_many width c)) 1 (room - 1) n e).0 in
        let o = open_from_test (so_many width n) l.passes in
        record { it_fits = o.0; free = o.1; none_before = λ m h f. blocked_from_test (so_many width m) f (l.none_before m f.not_0 h) }

    pub is_least_open : (n : ℕ) → IsLeastOpen room taken width n → least_open room taken width ≡ Some n
    is_least_open n l =
        least_is_found (λ c. is_open room taken (so_many width c)) 1 (room - 1) n (omega (arith, l.it_fits.not_0, l.it_fits.in_room)) (record {
          passes = test_from_open (so_many width n) l.it_fits l.free;
          from_start = l.it_fits.not_0;
          none_before = λ m a b. false_from_ne_true _ (λ e. let o = open_from_test (so_many width m) e in let t = l.none_before m b o.0 in
              both_ways _ (o.1 t.0 t.1) t.2);
        })

    pub open_is_none : ((m : ℕ) → Fits room (so_many width m) → IsBlocked taken (so_many width m)) → least_open room taken width ≡ None
    open_is_none blocked =
        none_is_found (λ c. is_open room taken (so_many width c)) 1 (room - 1) (λ m low high. false_from_ne_true _ (λ e.
        let o = open_from_test (so_many width m) e in let t = blocked m o.0 in both_ways _ (o.1 t.0 t.1) t.2))

    pub none_is_open : least_open room taken width ≡ None → (m : ℕ) → Fits room (so_many width m) → IsBlocked taken (so_many width m)
    none_is_open e m f =
        blocked_from_test (so_many width m) f (found_none (λ c. is_open room taken (so_many width c)) 1 (room - 1) e m f.not_0
        (omega (arith, f.not_0, f.in_room)))

-- step by step ----------------------------------------------------------------------

-- the LIDs are what is handed out to these end ports in turn
abbrev pub Hands : ℕ → ℕ → List Range → Ports → GivenLids → Type 0
Hands room lmc taken [] [] = Unit {0}
Hands room lmc taken [] (x ∷ given) = ⊥
Hands room lmc taken ((e, o) ∷ ports) [] = ⊥
Hands room lmc taken ((e, Some c) ∷ ports) ((f, n) ∷ given) = (e ≡ f) × (c ≡ n) × Hands room lmc taken ports given
Hands room lmc taken ((e, None) ∷ ports) ((f, n) ∷ given) =
    (e ≡ f) × (least_open room taken (width_of lmc e) ≡ Some n) × Hands room lmc (range_at lmc e n ∷ taken) ports given

module _ (room lmc : ℕ) where
  not_some_none : (x : EndPort × ℕ) (o : Option GivenLids) → option_map (λ given. x ∷ given) o ≡ Some [] → ⊥
  not_some_none x None e = cc
  not_some_none x (Some given) e = cc

  first_and_rest : (x y : EndPort × ℕ) (o : Option GivenLids) (given : GivenLids) → option_map (λ given. x ∷ given) o ≡ Some (y ∷ given) → (x ≡ y)
      × (o ≡ Some given)
  first_and_rest x y None given e = absurd (cc)
  first_and_rest x y (Some rest) given e = (cc, cc)

  pub hands_from : (taken : List Range) (ports : Ports) (given : GivenLids) → hand_out room lmc taken ports ≡ Some given → Hands room lmc taken ports given
  hands_from taken [] [] e = tt
  hands_from taken [] (x ∷ given) e = absurd (cc)
  hands_from taken ((x, Some c) ∷ ports) [] e = not_some_none (x, c) (hand_out room lmc taken ports) e
  hands_from taken ((x, None) ∷ ports) [] e =
      elim (least_open room taken (width_of lmc x)) as (λ o.
      option_and_then (λ c. option_map (λ given. (x, c) ∷ given) (hand_out room lmc (range_at lmc x c ∷ taken) ports)) o ≡ Some [] → ⊥) [
        | None ↦ λ q. cc
        | Some c ↦ λ q. not_some_none (x, c) (hand_out room lmc (range_at lmc x c ∷ taken) ports) q
      ] e
  hands_from taken ((x, Some c) ∷ ports) ((f, n) ∷ given) e =
      let p = first_and_rest (x, c) (f, n) (hand_out room lmc taken ports) given e in
      (ap (λ z. z.0) p.0, ap (λ z. z.1) p.0, hands_from taken ports given p.1)
  hands_from taken ((x, None) ∷ ports) ((f, n) ∷ given) e =
      elim (least_open room taken (width_of lmc x)) as (λ o. least_open room taken (width_of lmc x) ≡ o →
      option_and_then (λ c. option_map (λ given. (x, c) ∷ given) (hand_out room lmc (range_at lmc x c ∷ taken) ports)) o ≡ Some ((f, n) ∷ given)
      → (x ≡ f) × (least_open room taken (width_of lmc x) ≡ Some n) × Hands room lmc (range_at lmc x n ∷ taken) ports given) [
        | None ↦ λ p q. absurd (cc)
        | Some c ↦ λ p q.
            let r = first_and_rest (x, c) (f, n) (hand_out room lmc (range_at lmc x c ∷ taken) ports) given q in
            let i : c ≡ n = ap (λ z. z.1) r.0 in
            let rest : hand_out room lmc (range_at lmc x n ∷ taken) ports ≡ Some given =
            ap (λ m. hand_out room lmc (range_at lmc x m ∷ taken) ports) (sym i) ∙ r.1 in
            (ap (λ z. z.0) r.0, p ∙ ap (λ m. Some m) i, hands_from (range_at lmc x n ∷ taken) ports given rest)
      ] refl e

  pub hands_to : (taken : List Range) (ports : Ports) (given : GivenLids) → Hands room lmc taken ports given → hand_out room lmc taken ports ≡ Some given
  hands_to taken [] [] h = refl
  hands_to taken [] (x ∷ given) h = absurd h
  hands_to taken ((x, o) ∷ ports) [] h = absurd (none taken x o ports h)
    where
      none : (taken : List Range) (x : EndPort) (o : Option ℕ) (ports : Ports) → Hands room lmc taken ((x, o) ∷ ports) [] → ⊥
      none taken x None ports h = h
      none taken x (Some c) ports h = h
  hands_to taken ((x, Some c) ∷ ports) ((f, n) ∷ given) h =
      ap (option_map (λ given. (x, c) ∷ given)) (hands_to taken ports given h.2) ∙ (λ i. Some ((h.0 i, h.1 i) ∷ given))
  hands_to taken ((x, None) ∷ ports) ((f, n) ∷ given) h =
      ap (option_and_then (λ c. option_map (λ given. (x, c) ∷ given) (hand_out room lmc (range_at lmc x c ∷ taken) ports))) h.1
      ∙ ap (option_map (λ given. (x, n) ∷ given)) (hands_to (range_at lmc x n ∷ taken) ports given h.2) ∙ (λ i. Some ((h.0 i, n) ∷ given))

  -- where given numbers come from ------------------------------------------------------

  pub hands_ports : (taken : List Range) (ports : Ports) (given : GivenLids) → Hands room lmc taken ports given → map (λ x. x.0) given ≡ map (λ x. x.0) ports
  hands_ports taken [] [] h = refl
  hands_ports taken [] (x ∷ given) h = absurd h
  hands_ports taken ((x, Some c) ∷ ports) [] h = absurd h
  hands_ports taken ((x, None) ∷ ports) [] h = absurd h
  hands_ports taken ((x, Some c) ∷ ports) ((f, n) ∷ given) h = λ i. sym h.0 i ∷ hands_ports taken ports given h.2 i
  hands_ports taken ((x, None) ∷ ports) ((f, n) ∷ given) h = λ i. sym h.0 i ∷ hands_ports (range_at lmc x n ∷ taken) ports given h.2 i

  -- what an end port takes that keeps no claim
  pub record TakesOpen (taken : List Range) (ports : Ports) (e : EndPort) (n : ℕ) : Type 0 where
    pub is_other : Contains ports (e, None)
    pub it_fits : Fits room (range_at lmc e n)
    pub is_free : (t : Range) → Contains taken t → meets (range_at lmc e n) t ≡ false

  abbrev pub GivenFrom : List Range → Ports → EndPort → ℕ → Type 0
  GivenFrom taken ports e n = Contains ports (e, Some n) ⊎ TakesOpen taken ports e n

  pub given_from : (taken : List Range) (ports : Ports) (given : GivenLids) → Hands room lmc taken ports given → (e : EndPort) (n : ℕ) → Contains given (e, n)
      → GivenFrom taken ports e n
  given_from taken [] [] h e n k = absurd (contains_none (e, n) k)
  given_from taken [] (x ∷ given) h e n k = absurd h
  given_from taken ((x, Some c) ∷ ports) [] h e n k = absurd h
  given_from taken ((x, None) ∷ ports) [] h e n k = absurd h
  given_from taken ((x, Some c) ∷ ports) ((f, m) ∷ given) h e n k =
      elim (contains_cases (f, m) (e, n) given k) [
        | inl i ↦ inl (contains_first ports (λ l. ((h.0 ∙ ap (λ z. z.0) i) l, Some ((h.1 ∙ ap (λ z. z.1) i) l))))
        | inr l ↦ (elim (given_from taken ports given h.2 e n l) [
          | inl j ↦ inl (contains_later (x, Some c) (e, Some n) ports j)
          | inr j ↦ inr (record { is_other = contains_later (x, Some c) (e, None) ports j.is_other; it_fits = j.it_fits; is_free = j.is_free })
        ])
      ]
  given_from taken ((x, None) ∷ ports) ((f, m) ∷ given) h e n k =
      elim (contains_cases (f, m) (e, n) given k) [
        | inl i ↦
            let least = least_open_is room taken (width_of lmc x) (some_width lmc x) m h.1 in
            let same : ◌≡◌ {A = EndPort × ℕ} (x, m) (e, n) = λ l. ((h.0 ∙ ap (λ z. z.0) i) l, (i l).1) in
            inr (record {
              is_other = contains_first ports (λ l. ((same l).0, None));
              it_fits = subst (λ (y : EndPort × ℕ). Fits room (numbers_of lmc y)) same least.it_fits;
              is_free = λ t there. subst (λ (y : EndPort × ℕ). meets (numbers_of lmc y) t ≡ false) same (least.free t there);
            })
        | inr l ↦ (elim (given_from (range_at lmc x m ∷ taken) ports given h.2 e n l) [
          | inl j ↦ inl (contains_later (x, None) (e, Some n) ports j)
          | inr j ↦ inr (record {
            is_other = contains_later (x, None) (e, None) ports j.is_other;
            it_fits = j.it_fits;
            is_free = λ t there. j.is_free t (contains_later (range_at lmc x m) t taken there);
          })
        ])
      ]

  past_other : (x : EndPort) (ports : Ports) (e : EndPort) (n : ℕ) → Contains ((x, None) ∷ ports) (e, Some n) → Contains ports (e, Some n)
  past_other x ports e n h =
      elim (contains_cases (x, None) (e, Some n) ports h) [
        | inl i ↦ let o : None ≡ Some n = ap (λ z. z.1) i in absurd (cc)
        | inr k ↦ k
      ]

  pub kept_given : (taken : List Range) (ports : Ports) (given : GivenLids) → Hands room lmc taken ports given → (e : EndPort) (n : ℕ)
      → Contains ports (e, Some n) → Contains given (e, n)
  kept_given taken [] given h e n k = absurd (contains_none (e, Some n) k)
  kept_given taken ((x, Some c) ∷ ports) [] h e n k = absurd h
  kept_given taken ((x, None) ∷ ports) [] h e n k = absurd h
  kept_given taken ((x, Some c) ∷ ports) ((f, m) ∷ given) h e n k =
      elim (contains_cases (x, Some c) (e, Some n) ports k) [
        | inl i ↦
            let o : Some c ≡ Some n = ap (λ z. z.1) i in
            let t : c ≡ n = cc in
            contains_first given (λ l. ((sym h.0 ∙ ap (λ z. z.0) i) l, (sym h.1 ∙ t) l))
        | inr l ↦ contains_later (f, m) (e, n) given (kept_given taken ports given h.2 e n l)
      ]
  kept_given taken ((x, None) ∷ ports) ((f, m) ∷ given) h e n k =
      contains_later (f, m) (e, n) given (kept_given (range_at lmc x m ∷ taken) ports given h.2 e n (past_other x ports e n k))

-- no number is given twice -------------------------------------------------------------

abbrev pub PairsApart : ℕ → GivenLids → Type 0
PairsApart lmc [] = Unit {0}
PairsApart lmc (x ∷ given) = ((y : EndPort × ℕ) → Contains given y → meets (numbers_of lmc x) (numbers_of lmc y) ≡ false) × PairsApart lmc given

module _ (room lmc : ℕ) where
  turned : (a b : Range) → meets a b ≡ false → meets b a ≡ false
  turned a b e = false_from_ne_true _ (λ s. both_ways _ e (meets_turned b a s))

  abbrev AreAmong : Ports → List Range → Type 0
  AreAmong ports taken = (e : EndPort) (c : ℕ) → Contains ports (e, Some c) → Contains taken (range_at lmc e c)

  pub given_apart : (taken : List Range) (ports : Ports) (given : GivenLids) → Hands room lmc taken ports given → KeptApart lmc ports → AreAmong ports taken
      → PairsApart lmc given
  given_apart taken [] [] h a s = tt
  given_apart taken [] (x ∷ given) h a s = absurd h
  given_apart taken ((x, Some c) ∷ ports) [] h a s = absurd h
  given_apart taken ((x, None) ∷ ports) [] h a s = absurd h
  given_apart taken ((x, Some c) ∷ ports) ((f, m) ∷ given) h a s =
      let same : ◌≡◌ {A = EndPort × ℕ} (x, c) (f, m) = λ l. (h.0 l, h.1 l) in (
        λ y k. subst (λ (z : EndPort × ℕ). meets (numbers_of lmc z) (numbers_of lmc y)
            ≡ false) same (elim (given_from room lmc taken ports given h.2 y.0 y.1 k) [
              | inl j ↦ a.0 y.0 y.1 j
              | inr j ↦ turned (numbers_of lmc y) (range_at lmc x c) (j.is_free (range_at lmc x c) (s x c (contains_here (x, Some c) ports)))
            ]),
        given_apart taken ports given h.2 a.1 (λ e d k. s e d (contains_later (x, Some c) (e, Some d) ports k)),
      )
  given_apart taken ((x, None) ∷ ports) ((f, m) ∷ given) h a s =
      let same : ◌≡◌ {A = EndPort × ℕ} (x, m) (f, m) = λ l. (h.0 l, m) in
      let least = least_open_is room taken (width_of lmc x) (some_width lmc x) m h.1 in (
        λ y k. subst (λ (z : EndPort × ℕ). meets (numbers_of lmc z) (numbers_of lmc y)
            ≡ false) same (elim (given_from room lmc (range_at lmc x m ∷ taken) ports given h.2 y.0 y.1 k) [
              | inl j ↦ least.free (numbers_of lmc y) (s y.0 y.1 (contains_later (x, None) (y.0, Some y.1) ports j))
              | inr j ↦ turned (numbers_of lmc y) (range_at lmc x m) (j.is_free (range_at lmc x m) (contains_here (range_at lmc x m) taken))
            ]),
        given_apart (range_at lmc x m
            ∷ taken) ports given h.2 a
            (λ e d k. contains_later (range_at lmc x m) (range_at lmc e d) taken (s e d (contains_later (x, None) (e, Some d) ports k))),
      )

  pub same_from_pairs : (given : GivenLids) → PairsApart lmc given → (x y : EndPort × ℕ) → Contains given x → Contains given y
      → meets (numbers_of lmc x) (numbers_of lmc y) ≡ true → x ≡ y
  same_from_pairs [] a x y h k e = absurd (contains_none x h)
  same_from_pairs (z ∷ given) a x y h k e =
      elim (contains_cases z x given h) [
        | inl i ↦ (elim (contains_cases z y given k) [
          | inl j ↦ sym i ∙ j
          | inr l ↦ absurd (both_ways _ (a.0 y l) (ap (λ (w : EndPort × ℕ). meets (numbers_of lmc w) (numbers_of lmc y)) i ∙ e))
        ])
        | inr l ↦ (elim (contains_cases z y given k) [
          | inl j ↦ absurd
              (both_ways _ (a.0 x l)
              (meets_turned (numbers_of lmc x) (numbers_of lmc z) (ap (λ (w : EndPort × ℕ). meets (numbers_of lmc x) (numbers_of lmc w)) j ∙ e)))
          | inr m ↦ same_from_pairs given a.1 x y l m e
        ])
      ]

-- no number is skipped -----------------------------------------------------------------

module _ (room lmc : ℕ) where
  narrower : (x : EndPort × Option ℕ) (ports : Ports) (e : EndPort) → IsOther (x ∷ ports) e → IsOther ports e
  narrower x ports e o c h = o c (contains_later x (e, Some c) ports h)

  no_split : (a : GivenLids) (x : EndPort × ℕ) (b : GivenLids) → [] ≡ a ++ x ∷ b → ⊥
  no_split [] x b e = cc
  no_split (y ∷ a) x b e = cc

  -- a range that was taken before, or of an end port before
  abbrev pub IsMetBefore : List Range → GivenLids → Range → Type 0
  IsMetBefore taken earlier r = (t : Range) × (meets r t ≡ true) × (Contains taken t ⊎ ((x : EndPort × ℕ) × Contains earlier x × (t ≡ numbers_of lmc x)))

  later_met : (taken : List Range) (y : EndPort × ℕ) (earlier : GivenLids) (r : Range) → IsMetBefore taken earlier r → IsMetBefore taken (y ∷ earlier) r
  later_met taken y earlier r (t, e, inl h) = (t, e, inl h)
  later_met taken y earlier r (t, e, inr h) = (t, e, inr (h.0, contains_later y h.0 earlier h.1, h.2))

  first_met : (taken : List Range) (y : EndPort × ℕ) (s : Range) (earlier : GivenLids) (r : Range) → s ≡ numbers_of lmc y → IsMetBefore (s ∷ taken) earlier r
      → IsMetBefore taken (y ∷ earlier) r
  first_met taken y s earlier r q (t, e, inl h) =
      elim (contains_cases s t taken h) [
        | inl i ↦ (t, e, inr (y, contains_here y earlier, sym i ∙ q))
        | inr k ↦ (t, e, inl k)
      ]
  first_met taken y s earlier r q (t, e, inr h) = (t, e, inr (h.0, contains_later y h.0 earlier h.1, h.2))

  pub lesser_met : (taken : List Range) (ports : Ports) (given : GivenLids) → Hands room lmc taken ports given
      → (earlier later : GivenLids) (e : EndPort) (n m : ℕ)
      → given ≡ earlier ++ (e, n) ∷ later → IsOther ports e → Fits room (range_at lmc e m) → m < n → IsMetBefore taken earlier (range_at lmc e m)
  lesser_met taken [] [] h earlier later e n m q o f l = absurd (no_split earlier (e, n) later q)
  lesser_met taken [] (x ∷ given) h earlier later e n m q o f l = absurd h
  lesser_met taken ((x, Some c) ∷ ports) [] h earlier later e n m q o f l = absurd h
  lesser_met taken ((x, None) ∷ ports) [] h earlier later e n m q o f l = absurd h
  lesser_met taken ((x, Some c) ∷ ports) ((g, k) ∷ given) h [] later e n m q o f l =
      let i : ◌≡◌ {A = EndPort × ℕ} (g, k) (e, n) = cc in absurd (o c (contains_first ports (λ j. ((h.0 ∙ ap (λ z. z.0) i) j, Some c))))
  lesser_met taken ((x, Some c) ∷ ports) ((g, k) ∷ given) h (y ∷ earlier) later e n m q o f l =
      later_met taken y earlier (range_at lmc e m) (lesser_met taken ports given h.2 earlier later e n m (cc) (narrower (x, Some c) ports e o) f l)
  lesser_met taken ((x, None) ∷ ports) ((g, k) ∷ given) h [] later e n m q o f l =
      let i : ◌≡◌ {A = EndPort × ℕ} (g, k) (e, n) = cc in
      let s : x ≡ e = h.0 ∙ ap (λ z. z.0) i in
      let least = least_open_is room taken (width_of lmc x) (some_width lmc x) k h.1 in
      let b = least.none_before m (omega (arith, ap (λ z. z.1) i)) (subst (λ (z : EndPort). Fits room (range_at lmc z m)) (sym s) f) in
      (b.0, ap (λ (z : EndPort). meets (range_at lmc z m) b.0) (sym s) ∙ b.2, inl b.1)
  lesser_met taken ((x, None) ∷ ports) ((g, k) ∷ given) h (y ∷ earlier) later e n m q o f l =
      let i : ◌≡◌ {A = EndPort × ℕ} (g, k) y = cc in
      let s : ◌≡◌ {A = EndPort × ℕ} (x, k) y = (λ j. (h.0 j, k)) ∙ i in
      first_met taken y (range_at lmc x k) earlier (range_at lmc e m) (ap (numbers_of lmc) s)
      (lesser_met (range_at lmc x k ∷ taken) ports given h.2 earlier later e n m (cc) (narrower (x, None) ports e o) f l)
