-- Which claims are kept: an end port keeps its claim exactly if `Keeps` says so, and no two kept ranges overlap.
use Rattle.std.proofs.Common.{◌≡◌, ℕ, List, [], ◌∷◌, ◌++◌, ◌⊎◌, inl, inr, refl, sym, ap, ◌∙◌, subst, true, false, cond, map}
use Rattle.std.proofs.lemmas.Bool.{false_from_ne_true, both_ways}
use Rattle.std.specs.Prelude.{Contains, Option, None, Some, option_and_then}
use Rattle.std.specs.Option.{option_map_or}
use Rattle.std.specs.List.{list_any}
use Rattle.subnet_view.specs.declared.end_port.EndPort.{EndPort}
use Rattle.reply_facts.specs.Known.{claim_of}
use Rattle.subnet_view.specs.Reading.{Cells}
use Rattle.subnet_view.specs.EndPort.{end_ports}
use Rattle.subnet_view.proofs.Apart.{Apart, split_once}
use Rattle.subnet_view.proofs.Members.{contains_here, contains_later, contains_cases, contains_none, list_any_true, list_any_at, contains_first, contains_in}
use Rattle.lid_assign.specs.Ranges.{Range, range_at, meets, fits, Fits}
use Rattle.lid_assign.specs.LidLaws.{ClaimsFitting, Keeps}
use Rattle.lid_assign.specs.Claims.{room, if_fits, fitting_claim, claims, if_first, kept_claim, with_kept, kept}
use Rattle.lid_assign.proofs.Ranges.{some_width, meets_at, common_number, meets_turned, fits_from_test, test_from_fits}

-- claims that fit ------------------------------------------------------------------

module _ (lmc : ℕ) (cells : Cells) where
  pub claims_fitting : (e : EndPort) (c : ℕ) → fitting_claim lmc cells e ≡ Some c → ClaimsFitting lmc cells e c
  claims_fitting e c k =
      elim (claim_of cells e.node e.port) as (λ o. claim_of cells e.node e.port ≡ o → option_and_then (if_fits (room cells) lmc e) o ≡ Some c
      → ClaimsFitting lmc cells e c) [
        | None ↦ λ p h. absurd (cc)
        | Some d ↦ λ p h.
            (elim (fits (room cells) (range_at lmc e d)) as (λ t. fits (room cells) (range_at lmc e d) ≡ t → cond t (Some d) None ≡ Some c
            → ClaimsFitting lmc cells e c) [
              | true ↦ λ q l.
                  let i : d ≡ c = cc in
                  record {
                    claimed = p ∙ ap (λ n. Some n) i;
                    claim_fits = subst (λ (n : ℕ). Fits (room cells) (range_at lmc e n)) i (fits_from_test (room cells) (range_at lmc e d) q);
                  }
              | false ↦ λ q l. absurd (cc)
            ] refl h)
      ] refl k

  pub fitting_from : (e : EndPort) (c : ℕ) → ClaimsFitting lmc cells e c → fitting_claim lmc cells e ≡ Some c
  fitting_from e c k =
      ap (option_and_then (if_fits (room cells) lmc e)) k.claimed ∙ ap (λ t. cond t (Some c) None) (test_from_fits (room cells) (range_at lmc e c) k.claim_fits)

  pub claims_at : (r : Range) (x : EndPort) → claims lmc cells r x ≡ true → (d : ℕ) × (fitting_claim lmc cells x ≡ Some d) × (meets r (range_at lmc x d) ≡ true)
  claims_at r x h =
      elim (fitting_claim lmc cells x) as (λ o. fitting_claim lmc cells x ≡ o → option_map_or (λ c. meets r (range_at lmc x c)) o false ≡ true
      → (d : ℕ) × (fitting_claim lmc cells x ≡ Some d) × (meets r (range_at lmc x d) ≡ true)) [
        | None ↦ λ p e. absurd (cc)
        | Some d ↦ λ p e. (d, p, e)
      ] refl h

  pub claims_from : (r : Range) (x : EndPort) (d : ℕ) → fitting_claim lmc cells x ≡ Some d → meets r (range_at lmc x d) ≡ true → claims lmc cells r x ≡ true
  claims_from r x d p e = ap (λ o. option_map_or (λ c. meets r (range_at lmc x c)) o false) p ∙ e

-- what may be kept -----------------------------------------------------------------

pub record CanKeep (lmc : ℕ) (cells : Cells) (prior : List EndPort) (e : EndPort) (c : ℕ) : Type 0 where
  pub fitting : fitting_claim lmc cells e ≡ Some c
  pub first : (x : EndPort) (d : ℕ) → Contains prior x → fitting_claim lmc cells x ≡ Some d → meets (range_at lmc e c) (range_at lmc x d) ≡ false

module _ (lmc : ℕ) (cells : Cells) where
  kept_can_keep : (prior : List EndPort) (e : EndPort) (c : ℕ) → kept_claim lmc cells prior e ≡ Some c → CanKeep lmc cells prior e c
  kept_can_keep prior e c k =
      elim (fitting_claim lmc cells e) as (λ o. fitting_claim lmc cells e ≡ o → option_and_then (if_first lmc cells prior e) o ≡ Some c
      → CanKeep lmc cells prior e c) [
        | None ↦ λ p h. absurd (cc)
        | Some d ↦ λ p h.
            (elim (list_any (claims lmc cells (range_at lmc e d)) prior)
            as (λ t. list_any (claims lmc cells (range_at lmc e d)) prior ≡ t → cond t None (Some d)
            ≡ Some c
            → CanKeep lmc cells prior e c) [
              | true ↦ λ q l. absurd (cc)
              | false ↦ λ q l.
                  let i : d ≡ c = cc in
                  let none : list_any (claims lmc cells (range_at lmc e c)) prior ≡ false =
                  ap (λ n. list_any (claims lmc cells (range_at lmc e n)) prior) (sym i) ∙ q in
                  record {
                    fitting = p ∙ ap (λ n. Some n) i;
                    first = λ x f m g.
                        false_from_ne_true _
                        (λ s. both_ways _ none
                        (list_any_true (claims lmc cells (range_at lmc e c)) prior x m (claims_from lmc cells (range_at lmc e c) x f g s)));
                  }
            ] refl h)
      ] refl k

  not_claimed : (prior : List EndPort) (e : EndPort) (c : ℕ) → CanKeep lmc cells prior e c → list_any (claims lmc cells (range_at lmc e c)) prior ≡ true → ⊥
  not_claimed prior e c k a =
      let x = list_any_at (claims lmc cells (range_at lmc e c)) prior a in
      let d = claims_at lmc cells (range_at lmc e c) x.0 x.2 in both_ways _ (k.first x.0 d.0 x.1 d.1) d.2

  can_keep_kept : (prior : List EndPort) (e : EndPort) (c : ℕ) → CanKeep lmc cells prior e c → kept_claim lmc cells prior e ≡ Some c
  can_keep_kept prior e c k =
      ap (option_and_then (if_first lmc cells prior e)) k.fitting
      ∙ ap (λ t. cond t None (Some c)) (false_from_ne_true (list_any (claims lmc cells (range_at lmc e c)) prior) (not_claimed prior e c k))

-- what went before, the latest first -----------------------------------------------

abbrev pub onto : List EndPort → List EndPort → List EndPort
onto prior [] = prior
onto prior (x ∷ xs) = onto (x ∷ prior) xs

contains_prior : (prior xs : List EndPort) (x : EndPort) → Contains prior x → Contains (onto prior xs) x
contains_prior prior [] x h = h
contains_prior prior (y ∷ xs) x h = contains_prior (y ∷ prior) xs x (contains_later y x prior h)

contains_onto : (prior xs : List EndPort) (x : EndPort) → Contains xs x → Contains (onto prior xs) x
contains_onto prior [] x h = absurd (contains_none x h)
contains_onto prior (y ∷ xs) x h =
    elim (contains_cases y x xs h) [
      | inl e ↦ contains_prior (y ∷ prior) xs x (contains_first prior e)
      | inr k ↦ contains_onto (y ∷ prior) xs x k
    ]

contains-from_onto : (prior xs : List EndPort) (x : EndPort) → Contains (onto prior xs) x → Contains prior x ⊎ Contains xs x
contains-from_onto prior [] x h = inl h
contains-from_onto prior (y ∷ xs) x h =
    elim (contains-from_onto (y ∷ prior) xs x h) [
      | inr k ↦ inr (contains_later y x xs k)
      | inl k ↦ (elim (contains_cases y x prior k) [
        | inl e ↦ inr (contains_first xs e)
        | inr l ↦ inl l
      ])
    ]

-- the end ports with their claims ----------------------------------------------------

abbrev pub Ports : Type 0
Ports = List (EndPort × Option ℕ)

-- the ranges that are kept have no number in common
abbrev pub KeptApart : ℕ → Ports → Type 0
KeptApart lmc [] = Unit {0}
KeptApart lmc ((e, None) ∷ ports) = KeptApart lmc ports
KeptApart lmc ((e, Some c) ∷ ports) =
    ((f : EndPort) (d : ℕ) → Contains ports (f, Some d) → meets (range_at lmc e c) (range_at lmc f d) ≡ false) × KeptApart lmc ports

module _ (lmc : ℕ) (cells : Cells) where
  kept_at : (prior es : List EndPort) (e : EndPort) (o : Option ℕ) → Contains (with_kept lmc cells prior es) (e, o)
      → (before : List EndPort) × (after : List EndPort) × (es ≡ before ++ e ∷ after) × (o ≡ kept_claim lmc cells (onto prior before) e)
  kept_at prior [] e o h = absurd (contains_none (e, o) h)
  kept_at prior (x ∷ es) e o h =
      elim (contains_cases (x, kept_claim lmc cells prior x) (e, o) (with_kept lmc cells (x ∷ prior) es) h) [
        | inl i ↦ let s : x ≡ e = ap (λ z. z.0) i in ([], es, ap (λ z. z ∷ es) s, sym (ap (λ z. z.1) i) ∙ ap (kept_claim lmc cells prior) s)
        | inr k ↦ let i = kept_at (x ∷ prior) es e o k in (x ∷ i.0, i.1, ap (λ zs. x ∷ zs) i.2, i.3)
      ]

  ranges_apart : (prior es : List EndPort) → KeptApart lmc (with_kept lmc cells prior es)
  ranges_apart prior [] = tt
  ranges_apart prior (e ∷ es) =
      elim (kept_claim lmc cells prior e) as (λ o. kept_claim lmc cells prior e ≡ o → KeptApart lmc ((e, o) ∷ with_kept lmc cells (e ∷ prior) es)) [
        | None ↦ λ q. ranges_apart (e ∷ prior) es
        | Some c ↦ λ q. (
          λ f d h.
              let i = kept_at (e ∷ prior) es f (Some d) h in
              let l = kept_can_keep lmc cells (onto (e ∷ prior) i.0) f d (sym i.3) in
              let first = contains_prior (e ∷ prior) i.0 e (contains_here e prior) in
              let none = l.first e c first (kept_can_keep lmc cells prior e c q).fitting in
              false_from_ne_true _ (λ s. both_ways _ none (meets_turned (range_at lmc e c) (range_at lmc f d) s)),
          ranges_apart (e ∷ prior) es,
        )
      ] refl

  pub kept_apart : KeptApart lmc (kept lmc cells)
  kept_apart = ranges_apart [] (end_ports cells)

  pub kept_fits : (e : EndPort) (c : ℕ) → Contains (kept lmc cells) (e, Some c) → Fits (room cells) (range_at lmc e c)
  kept_fits e c h =
      let i = kept_at [] (end_ports cells) e (Some c) h in
      (claims_fitting lmc cells e c (kept_can_keep lmc cells (onto [] i.0) e c (sym i.3)).fitting).claim_fits

  pub kept_from_keeps : (e : EndPort) (o : Option ℕ) (c : ℕ) → Contains (kept lmc cells) (e, o) → Keeps lmc cells e c → o ≡ Some c
  kept_from_keeps e o c h k =
      let i = kept_at [] (end_ports cells) e o h in
      let l = k i.0 i.1 i.2 in
      i.3 ∙ can_keep_kept lmc cells (onto [] i.0) e c (record {
        fitting = fitting_from lmc cells e c l.0;
        first = λ x d m g. false_from_ne_true _ (λ s.
            let n = common_number (range_at lmc e c) (range_at lmc x d) (some_width lmc e) (some_width lmc x) s in
            elim (contains-from_onto [] i.0 x m) [ inl none ↦ contains_none x none | inr there ↦ l.1 x d n.0 there (claims_fitting lmc cells x d g) n.1 ]);
      })

  pub keeps_from_kept : Apart (end_ports cells) → (e : EndPort) (c : ℕ) → Contains (kept lmc cells) (e, Some c) → Keeps lmc cells e c
  keeps_from_kept apart e c h earlier later stands =
      let i = kept_at [] (end_ports cells) e (Some c) h in
      let l = kept_can_keep lmc cells (onto [] i.0) e c (sym i.3) in
      let same : earlier ≡ i.0 = split_once earlier later i.0 i.1 e (subst (λ (zs : List EndPort). Apart zs) stands apart) (sym stands ∙ i.2) in (
        claims_fitting lmc cells e c l.fitting,
        λ x d n m g b.
            both_ways _ (l.first x d (contains_onto [] i.0 x (contains_in x same m)) (fitting_from lmc cells x d g))
            (meets_at (range_at lmc e c) (range_at lmc x d) n b.0 b.1),
      )

  pub with_kept_has : (prior es : List EndPort) (e : EndPort) → Contains es e → (o : Option ℕ) × Contains (with_kept lmc cells prior es) (e, o)
  with_kept_has prior [] e h = absurd (contains_none e h)
  with_kept_has prior (x ∷ es) e h =
      let rest = with_kept lmc cells (x ∷ prior) es in
      let o = kept_claim lmc cells prior x in
      elim (contains_cases x e es h) [
        | inl i ↦ (o, contains_first rest (λ l. (i l, o)))
        | inr k ↦ let i = with_kept_has (x ∷ prior) es e k in (i.0, contains_later (x, o) (e, i.0) rest i.1)
      ]

  pub ports-with_kept : (prior es : List EndPort) → map (λ x. x.0) (with_kept lmc cells prior es) ≡ es
  ports-with_kept prior [] = refl
  ports-with_kept prior (e ∷ es) = ap (λ zs. e ∷ zs) (ports-with_kept (e ∷ prior) es)
