-- `AreLids` has one answer: each other end port in turn has the least number whose range is open.
use Rattle.std.proofs.Common.{◌≡◌, ◌<◌, ℕ, List, [], ◌∷◌, ◌++◌, ◌⊎◌, inl, inr, refl, sym, ap, ◌∙◌, subst, arith, true, false, not, map}
use Rattle.std.proofs.lemmas.Bool.{both_ways, false_from_ne_true, cases_Bool, cases_order}
use Rattle.std.proofs.lemmas.List.{append_assoc, map-append}
use Rattle.std.proofs.lemmas.List.Elements.{Contains-append_left, Contains-push, Contains-push_cases}
use Rattle.std.specs.Prelude.{Contains, Option, None, Some, is_some, unwrap_or}
use Rattle.fact_store.specs.View.{cells_of}
use Rattle.subnet_view.specs.declared.end_port.EndPort.{EndPort}
use Rattle.subnet_view.specs.Reading.{Cells}
use Rattle.subnet_view.specs.EndPort.{end_ports}
use Rattle.subnet_view.proofs.Apart.{Apart, contains_at, contains_map, contains-from_map, before_apart}
use Rattle.subnet_view.proofs.EndPorts.{end_ports_apart}
use Rattle.subnet_view.proofs.Members.{contains_here, contains_later, contains_cases, contains_none, contains_as, contains_in}
use Rattle.lid_assign.specs.Ranges.{width_of, Range, range_at, meets, IsIn, IsInBoth, Fits}
use Rattle.lid_assign.specs.Lids.{least_open, handed_out, lids, is_no_room}
use Rattle.lid_assign.specs.LidLaws.{Keeps, KeepsNothing, AreLids, LidsAreUnique, NoRoomLaw, OthersRise}
use Rattle.lid_assign.specs.Claims.{room, kept}
use Rattle.lid_assign.proofs.Ranges.{some_width, meets_at, common_number}
use Rattle.lid_assign.proofs.KeptClaims.{Ports, kept_from_keeps, keeps_from_kept, with_kept_has, ports-with_kept}
use Rattle.lid_assign.proofs.HandOut.{GivenLids, numbers_of, IsBlocked, Hands, hands_to, is_least_open}
use Rattle.lid_assign.proofs.LidLaws.{ranges_of, range_among, among_ranges, lids_law}

-- an element and what comes before it are different, also by what a function makes of them
once : {X Y : Type 0} (f : X → Y) (before after : List X) (x y : X) → Apart (map f (before ++ x ∷ after)) → Contains before y → f y ≡ f x → ⊥
once {X} {Y} f before after x y a h e =
    before_apart (map f before) (map f after) (f x) (subst (λ (ys : List Y). Apart ys) (map-append f before (x ∷ after)) a)
    (contains_as (map f before) e (contains_map f before y h))

module _ (lmc : ℕ) (cells : Cells) (distinct : Apart (end_ports cells)) (given : GivenLids) (law : AreLids lmc cells given) where
  kept_of : (e : EndPort) (n : ℕ) → Contains given (e, n) → (o : Option ℕ) × Contains (kept lmc cells) (e, o)
  kept_of e n h = with_kept_has lmc cells [] (end_ports cells) e (contains_in e law.end_ports_in_order (contains_map (λ (x : EndPort × ℕ). x.0) given (e, n) h))

  given_to : (e : EndPort) (o : Option ℕ) → Contains (kept lmc cells) (e, o) → (n : ℕ) × Contains given (e, n)
  given_to e o h =
      let port = contains_map (λ (x : EndPort × Option ℕ). x.0) (kept lmc cells) (e, o) h in
      let there : Contains (end_ports cells) e = contains_in e (ports-with_kept lmc cells [] (end_ports cells)) port in
      let x = contains-from_map (λ (x : EndPort × ℕ). x.0) given e (contains_in e (sym law.end_ports_in_order) there) in
      (x.0.1, contains_as given (λ l. (x.2 l, x.0.1)) x.1)

  number_kept : (e : EndPort) (n c : ℕ) → Contains given (e, n) → Contains (kept lmc cells) (e, Some c) → n ≡ c
  number_kept e n c h k = law.kept_stay e n c h (keeps_from_kept lmc cells distinct e c k)

  nothing_kept : (e : EndPort) → Contains (kept lmc cells) (e, None) → KeepsNothing lmc cells e
  nothing_kept e h c k = let o = kept_from_keeps lmc cells e None c h k in cc

  once_given : Apart (map (λ x. x.0) given)
  once_given = subst (λ (es : List EndPort). Apart es) (sym law.end_ports_in_order) distinct

  -- the ranges that are taken where these end ports have their LIDs
  record AreTakenBy (before : GivenLids) (taken : List Range) : Type 0 where
    from : (r : Range) → Contains taken r → (x : EndPort × ℕ) × (r ≡ numbers_of lmc x) × (Contains before x ⊎ Contains (kept lmc cells) (x.0, Some x.1))
    has_before : (x : EndPort × ℕ) → Contains before x → Contains taken (numbers_of lmc x)
    has_kept : (e : EndPort) (c : ℕ) → Contains (kept lmc cells) (e, Some c) → Contains taken (range_at lmc e c)

  module _ (before after : GivenLids) (e : EndPort) (n : ℕ) (stands : given ≡ before ++ (e, n) ∷ after) where
    stands_there : Contains given (e, n)
    stands_there = contains_in (e, n) (sym stands) (contains_at before after (e, n))

    module _ (taken : List Range) (by : AreTakenBy before taken) where
      -- one that keeps its claim
      past_kept : Contains (kept lmc cells) (e, Some n) → AreTakenBy (before ++ (e, n) ∷ []) taken
      past_kept k =
          record {
            from = λ r h. let x = by.from r h in (x.0, x.1, elim x.2 [ inl b ↦ inl (Contains-append_left before ((e, n) ∷ []) x.0 b) | inr b ↦ inr b ]);
            has_before = λ x h. (elim (Contains-push_cases before (e, n) x h) [
              | inl b ↦ by.has_before x b
              | inr i ↦ contains_as taken (ap (numbers_of lmc) i) (by.has_kept e n k)
            ]);
            has_kept = by.has_kept;
          }

      -- and one that keeps none
      past_other : AreTakenBy (before ++ (e, n) ∷ []) (range_at lmc e n ∷ taken)
      past_other =
          record {
            from = λ r h. (elim (contains_cases (range_at lmc e n) r taken h) [
              | inl i ↦ ((e, n), sym i, inl (Contains-push before (e, n)))
              | inr k ↦ let x = by.from r k in (x.0, x.1, elim x.2 [ inl b ↦ inl (Contains-append_left before ((e, n) ∷ []) x.0 b) | inr b ↦ inr b ])
            ]);
            has_before = λ x h. (elim (Contains-push_cases before (e, n) x h) [
              | inl b ↦ contains_later (range_at lmc e n) (numbers_of lmc x) taken (by.has_before x b)
              | inr i ↦ contains_as (range_at lmc e n ∷ taken) (ap (numbers_of lmc) i) (contains_here (range_at lmc e n) taken)
            ]);
            has_kept = λ f c k. contains_later (range_at lmc e n) (range_at lmc f c) taken (by.has_kept f c k);
          }

      module _ (none : Contains (kept lmc cells) (e, None)) where
        -- its range meets none that is taken
        is_free : (r : Range) → Contains taken r → meets (range_at lmc e n) r ≡ false
        is_free r h =
            let x = by.from r h in
            false_from_ne_true _ (λ m.
            let met = subst (λ (t : Range). meets (range_at lmc e n) t ≡ true) x.1 m in
            let k = common_number (range_at lmc e n) (numbers_of lmc x.0) (some_width lmc e) (some_width lmc x.0.0) met in
            elim x.2 [
              | inl b ↦
                  let there = contains_in x.0 (sym stands) (Contains-append_left before ((e, n) ∷ after) x.0 b) in
                  let same : e ≡ x.0.0 = law.apart e x.0.0 n x.0.1 k.0 stands_there there k.1 in
                  once (λ (y : EndPort × ℕ). y.0) before after (e, n) x.0 (subst (λ (g : GivenLids). Apart (map (λ y. y.0) g)) stands once_given) b (sym same)
              | inr b ↦ meets_kept x.0 b k.0 k.1
            ])
          where
            meets_kept : (x : EndPort × ℕ) → Contains (kept lmc cells) (x.0, Some x.1) → (k : ℕ) → IsInBoth (range_at lmc e n) (numbers_of lmc x) k → ⊥
            meets_kept x b k both =
                let is = given_to x.0 (Some x.1) b in
                let there : Contains given (x.0, x.1) = contains_as given (λ l. (x.0, number_kept x.0 is.0 x.1 is.1 b l)) is.1 in
                let same : e ≡ x.0 = law.apart e x.0 n x.1 k stands_there there both in
                nothing_kept e none x.1 (keeps_from_kept lmc cells distinct e x.1 (contains_as (kept lmc cells) (λ l. (sym same l, Some x.1)) b))

        -- and none before it is open
        none_open : (m : ℕ) → m < n → Fits (room cells) (range_at lmc e m) → IsBlocked taken (range_at lmc e m)
        none_open m l f =
            let k = law.none_skipped before after e n m stands (nothing_kept e none) f l in
            let w = k.2 in
            let there : Contains taken (range_at lmc w.by w.lid) = elim w.is_before [
              | inl b ↦ by.has_before (w.by, w.lid) b
              | inr b ↦
                  let o = kept_of w.by w.lid w.is_given in
                  by.has_kept w.by w.lid (contains_as (kept lmc cells) (λ i. (w.by, kept_from_keeps lmc cells w.by o.0 w.lid o.1 b i)) o.1)
            ] in
            (range_at lmc w.by w.lid, there, meets_at (range_at lmc e m) (range_at lmc w.by w.lid) k.0 k.1 w.is_its)

  unique_from : (ports : Ports) (before after : GivenLids) (taken : List Range) → given ≡ before ++ after → map (λ x. x.0) after ≡ map (λ x. x.0) ports
      → ((x : EndPort × Option ℕ) → Contains ports x → Contains (kept lmc cells) x) → AreTakenBy before taken → Hands (room cells) lmc taken ports after
  unique_from [] before [] taken q s sub by = tt
  unique_from [] before (x ∷ after) taken q s sub by = absurd (cc)
  unique_from ((e, Some c) ∷ ports) before [] taken q s sub by = absurd (cc)
  unique_from ((e, None) ∷ ports) before [] taken q s sub by = absurd (cc)
  unique_from ((e, Some c) ∷ ports) before ((x, n) ∷ after) taken q s sub by =
      let i : x ≡ e = cc in
      let k = contains_as (kept lmc cells) (λ l. (sym i l, Some c)) (sub (e, Some c) (contains_here (e, Some c) ports)) in
      let j = number_kept x n c (stands_there before after x n q) k in
      let own = contains_as (kept lmc cells) (λ l. (x, Some (sym j l))) k in
      let later = λ (y : EndPort × Option ℕ) (h : Contains ports y). sub y (contains_later (e, Some c) y ports h) in (
        sym i,
        sym j,
        unique_from ports (before ++ (x, n) ∷ []) after taken (q
            ∙ sym (append_assoc before ((x, n) ∷ []) after)) (cc) later (past_kept before after x n q taken by own),
      )
  unique_from ((e, None) ∷ ports) before ((x, n) ∷ after) taken q s sub by =
      let i : x ≡ e = cc in
      let k = contains_as (kept lmc cells) (λ l. (sym i l, None)) (sub (e, None) (contains_here (e, None) ports)) in
      let later = λ (y : EndPort × Option ℕ) (h : Contains ports y). sub y (contains_later (e, None) y ports h) in
      let least = is_least_open (room cells) taken (width_of lmc x) (some_width lmc x) n (record {
        it_fits = law.each_fits x n (stands_there before after x n q);
        free = is_free before after x n q taken by k;
        none_before = none_open before after x n q taken by k;
      }) in
      let rest = unique_from ports (before ++ (x, n) ∷ []) after (range_at lmc x n ∷ taken) (q ∙ sym (append_assoc before ((x, n) ∷ []) after)) (cc) later
      (past_other before after x n q taken by) in (
        sym i,
        subst (λ (f : EndPort). least_open (room cells) taken (width_of lmc f) ≡ Some n) i least,
        subst (λ (f : EndPort). Hands (room cells) lmc (range_at lmc f n ∷ taken) ports after) i rest,
      )

  pub unique_hands : Hands (room cells) lmc (ranges_of lmc (kept lmc cells)) (kept lmc cells) given
  unique_hands =
      unique_from (kept lmc cells) [] given (ranges_of lmc (kept lmc cells)) refl (law.end_ports_in_order
      ∙ sym (ports-with_kept lmc cells [] (end_ports cells))) (λ x h. h)
      (record {
        from = λ r h. let x = among_ranges lmc (kept lmc cells) r h in ((x.0, x.1), x.3, inr x.2);
        has_before = λ x h. absurd (contains_none x h);
        has_kept = range_among lmc (kept lmc cells);
      })

  pub unique_lids : handed_out lmc cells ≡ Some given
  unique_lids = hands_to (room cells) lmc (ranges_of lmc (kept lmc cells)) (kept lmc cells) given unique_hands

pub lids_are_unique : LidsAreUnique
lids_are_unique lmc facts given law = ap (λ o. unwrap_or o []) (sym (unique_lids lmc (cells_of facts) (end_ports_apart facts) given law))

pub no_room_law : NoRoomLaw
no_room_law lmc facts = (
  λ none given law.
      both_ways (not (is_some (handed_out lmc (cells_of facts))))
      (ap (λ o. not (is_some o)) (unique_lids lmc (cells_of facts) (end_ports_apart facts) given law))
      none,
  λ nobody. (elim (cases_Bool (is_no_room lmc (cells_of facts))) [
    | inl t ↦ t
    | inr f ↦ absurd (nobody (lids lmc (cells_of facts)).ports (lids_law lmc facts (λ t. both_ways (is_no_room lmc (cells_of facts)) f t)))
  ]),
)

-- of one width, those that keep no claim rise
pub others_rise : OthersRise
others_rise lmc facts given earlier middle later e f n m law stands widths nothing_e nothing_f =
    let cells = cells_of facts in
    let once_given = subst (λ (es : List EndPort). Apart es) (sym law.end_ports_in_order) (end_ports_apart facts) in
    let later_is = stands ∙ append_assoc earlier ((e, n) ∷ middle) ((f, m) ∷ later) in
    let there_e : Contains given (e, n) = contains_in (e, n) (sym later_is) (contains_at earlier (middle ++ (f, m) ∷ later) (e, n)) in
    let there_f : Contains given (f, m) = contains_in (f, m) (sym stands) (contains_at (earlier ++ (e, n) ∷ middle) later (f, m)) in
    let before_f : Contains (earlier ++ (e, n) ∷ middle) (e, n) = contains_at earlier middle (e, n) in
    let apart_f = subst (λ (g : GivenLids). Apart (map (λ (y : EndPort × ℕ). y.0) g)) stands once_given in
    let differ : (x : EndPort × ℕ) → Contains (earlier ++ (e, n) ∷ middle) x → x.0 ≡ f → ⊥ =
    λ x h q. once (λ (y : EndPort × ℕ). y.0) (earlier ++ (e, n) ∷ middle) later (f, m) x apart_f h q in
    let same_range : (k : ℕ) → range_at lmc e k ≡ range_at lmc f k = λ k i. record { first = k; width = widths i } in
    elim (cases_order n m) [
      | inl q ↦ absurd
          (differ (e, n) before_f
          (law.apart e f n m n there_e there_f ((omega arith, omega (arith, some_width lmc e)), (omega arith, omega (arith, some_width lmc f)))))
      | inr c ↦ (elim c [
        | inl l ↦ l
        | inr l ↦
            let fit = subst (λ (r : Range). Fits (room cells) r) (sym (same_range m)) (law.each_fits f m there_f) in
            let k = law.none_skipped earlier (middle ++ (f, m) ∷ later) e n m later_is nothing_e fit l in
            let in_f = subst (λ (r : Range). IsIn r k.0) (same_range m) k.1 in
            let same : f ≡ k.2.by = law.apart f k.2.by m k.2.lid k.0 there_f k.2.is_given (in_f, k.2.is_its) in
            absurd (elim k.2.is_before [
              | inl b ↦ differ (k.2.by, k.2.lid) (Contains-append_left earlier ((e, n) ∷ middle) (k.2.by, k.2.lid) b) (sym same)
              | inr b ↦ nothing_f k.2.lid (subst (λ (g : EndPort). Keeps lmc cells g k.2.lid) (sym same) b)
            ])
      ])
    ]
