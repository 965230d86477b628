-- Which flaws tables have.
use Rattle.std.proofs.Common.{◌≡◌, ◌++◌, ◌∙◌, ℕ, List, [], ◌∷◌, Option, None, Some, refl, sym, ap, append-nil, append_assoc, arith, Bool, true, false, cond, not, length}
use Rattle.std.specs.Prelude.{◌↔◌, ◌==◌, IsTrue, filter}
use Rattle.std.proofs.lemmas.Bool.{eqb-true}
use Rattle.fact_store.specs.View.{Facts}
use Rattle.held_tables.specs.Held.{HeldPlan}
use Rattle.lanes_file.specs.Lanes.{LanesSaid}
use Rattle.audit_run.specs.declared.flaw.Flaw.{Flaw}
use Rattle.audit_run.specs.declared.flaw.Flaw.TheVariants.{Missed, Tableless, Unusable, Lidless, Overloaded, Unleveled}
use Rattle.audit_run.specs.declared.flaw.Flaw.TheVariants.{LaneDrop, CreditLoop}
use Rattle.audit_run.specs.AuditRun.{AreFlaws, IsFree, PassesAudit, all_flaws}
use Rattle.audit_run.proofs.NoneMissing.{none_pass}

-- flaws that are noted one after the other --------------------------------------------------------

-- a flaw is noted unless tables are free of it
noted_then : (xs : List Flaw) (free : Bool) (flaw : Flaw) (later : List Flaw)
    → (xs ++ cond free [] (flaw ∷ [])) ++ later ≡ xs ++ cond (not free) (flaw ∷ later) later
noted_then xs true flaw later = ap (λ t. t ++ later) (append-nil xs)
noted_then xs false flaw later = append_assoc xs (flaw ∷ []) later

-- the flaws of which tables are not free, by what was found of each
pub record Frees : Type 0 where
  pub missed : Bool
  pub tableless : Bool
  pub unusable : Bool
  pub lidless : Bool
  pub overloaded : Bool
  pub unleveled : Bool
  pub lane_drop : Bool
  pub credit_loop : Bool

abbrev pub has_by : Frees → Flaw → Bool
has_by f Missed = not f.missed
has_by f Tableless = not f.tableless
has_by f Unusable = not f.unusable
has_by f Lidless = not f.lidless
has_by f Overloaded = not f.overloaded
has_by f Unleveled = not f.unleveled
has_by f LaneDrop = not f.lane_drop
has_by f CreditLoop = not f.credit_loop

unless_free : (free : Bool) (P : Type 0) → IsTrue free ↔ P → (not free ≡ false) ↔ P
unless_free true P h = (λ e. h.0 refl, λ p. refl)
unless_free false P h = (λ e. absurd (cc), λ p. absurd (cc (h.1 p)))

-- of each flaw, whether tables are free of it
pub each_by : (Free : Flaw → Type 0) (f : Frees) → IsTrue f.missed ↔ Free Missed → IsTrue f.tableless ↔ Free Tableless
    → IsTrue f.unusable ↔ Free Unusable → IsTrue f.lidless ↔ Free Lidless → IsTrue f.overloaded ↔ Free Overloaded → IsTrue f.unleveled ↔ Free Unleveled
    → IsTrue f.lane_drop ↔ Free LaneDrop → IsTrue f.credit_loop ↔ Free CreditLoop → (flaw : Flaw) → (has_by f flaw ≡ false) ↔ Free flaw
each_by Free f a b c d e g h i Missed = unless_free f.missed (Free Missed) a
each_by Free f a b c d e g h i Tableless = unless_free f.tableless (Free Tableless) b
each_by Free f a b c d e g h i Unusable = unless_free f.unusable (Free Unusable) c
each_by Free f a b c d e g h i Lidless = unless_free f.lidless (Free Lidless) d
each_by Free f a b c d e g h i Overloaded = unless_free f.overloaded (Free Overloaded) e
each_by Free f a b c d e g h i Unleveled = unless_free f.unleveled (Free Unleveled) g
each_by Free f a b c d e g h i LaneDrop = unless_free f.lane_drop (Free LaneDrop) h
each_by Free f a b c d e g h i CreditLoop = unless_free f.credit_loop (Free CreditLoop) i

-- a flaw more, before those that are left
noted : (f : Frees) (old new : List Flaw) (free : Bool) (flaw : Flaw) (later : List Flaw) → has_by f flaw ≡ not free → new ≡ old ++ cond free [] (flaw ∷ [])
    → new ++ filter (has_by f) later ≡ old ++ filter (has_by f) (flaw ∷ later)
noted f old new free flaw later is e =
    let rest = filter (has_by f) later in
    ap (λ t. t ++ rest) e ∙ noted_then old free flaw rest ∙ ap (λ t. old ++ cond t (flaw ∷ rest) rest) (sym is)

pub listed_by : (f : Frees) (none s1 s2 s3 s4 s5 s6 s7 s8 : List Flaw) → none ≡ [] → s1 ≡ none ++ cond f.missed [] (Missed ∷ [])
    → s2 ≡ s1 ++ cond f.tableless [] (Tableless ∷ []) → s3 ≡ s2 ++ cond f.unusable [] (Unusable ∷ []) → s4 ≡ s3 ++ cond f.lidless [] (Lidless ∷ [])
    → s5 ≡ s4 ++ cond f.overloaded [] (Overloaded ∷ []) → s6 ≡ s5 ++ cond f.unleveled [] (Unleveled ∷ [])
    → s7 ≡ s6 ++ cond f.lane_drop [] (LaneDrop ∷ []) → s8 ≡ s7 ++ cond f.credit_loop [] (CreditLoop ∷ []) → s8 ≡ filter (has_by f) all_flaws
listed_by f none s1 s2 s3 s4 s5 s6 s7 s8 e0 e1 e2 e3 e4 e5 e6 e7 e8 =
    sym (append-nil s8) ∙ noted f s7 s8 f.credit_loop CreditLoop [] refl e8 ∙ noted f s6 s7 f.lane_drop LaneDrop (CreditLoop ∷ []) refl e7
    ∙ noted f s5 s6 f.unleveled Unleveled (LaneDrop ∷ CreditLoop ∷ []) refl e6
    ∙ noted f s4 s5 f.overloaded Overloaded (Unleveled ∷ LaneDrop ∷ CreditLoop ∷ []) refl e5
    ∙ noted f s3 s4 f.lidless Lidless (Overloaded ∷ Unleveled ∷ LaneDrop ∷ CreditLoop ∷ []) refl e4
    ∙ noted f s2 s3 f.unusable Unusable (Lidless ∷ Overloaded ∷ Unleveled ∷ LaneDrop ∷ CreditLoop ∷ []) refl e3
    ∙ noted f s1 s2 f.tableless Tableless (Unusable ∷ Lidless ∷ Overloaded ∷ Unleveled ∷ LaneDrop ∷ CreditLoop ∷ []) refl e2
    ∙ noted f none s1 f.missed Missed (Tableless ∷ Unusable ∷ Lidless ∷ Overloaded ∷ Unleveled ∷ LaneDrop ∷ CreditLoop ∷ []) refl e1
    ∙ ap (λ t. t ++ filter (has_by f) all_flaws) e0

-- when tables pass --------------------------------------------------------------------------------

-- if none passes a test, the first fails it
first_fails : (has : Flaw → Bool) (flaw : Flaw) (later : List Flaw) → filter has (flaw ∷ later) ≡ [] → (has flaw ≡ false) × (filter has later ≡ [])
first_fails has flaw later e =
    elim (has flaw) as (λ t. has flaw ≡ t → cond t (flaw ∷ filter has later) (filter has later) ≡ [] → (has flaw ≡ false) × (filter has later ≡ [])) [
      | true ↦ λ q k. absurd (cc)
      | false ↦ λ q k. (q, k)
    ] refl e

module _ (bound : Option ℕ) (facts : Facts) (held : HeldPlan) (lanes : Option LanesSaid) where
  abbrev Free : Flaw → Type 0
  Free = IsFree bound facts held lanes

  -- tables without flaws are free of each
  all_free : (flaws : List Flaw) → AreFlaws Free flaws → flaws ≡ [] → (flaw : Flaw) → Free flaw
  all_free flaws h none =
      let a = first_fails h.has Missed (Tableless ∷ Unusable ∷ Lidless ∷ Overloaded ∷ Unleveled ∷ LaneDrop ∷ CreditLoop ∷ []) (sym h.listed ∙ none) in
      let b = first_fails h.has Tableless (Unusable ∷ Lidless ∷ Overloaded ∷ Unleveled ∷ LaneDrop ∷ CreditLoop ∷ []) a.1 in
      let c = first_fails h.has Unusable (Lidless ∷ Overloaded ∷ Unleveled ∷ LaneDrop ∷ CreditLoop ∷ []) b.1 in
      let d = first_fails h.has Lidless (Overloaded ∷ Unleveled ∷ LaneDrop ∷ CreditLoop ∷ []) c.1 in
      let e = first_fails h.has Overloaded (Unleveled ∷ LaneDrop ∷ CreditLoop ∷ []) d.1 in
      let f = first_fails h.has Unleveled (LaneDrop ∷ CreditLoop ∷ []) e.1 in
      let g = first_fails h.has LaneDrop (CreditLoop ∷ []) f.1 in
      let i = first_fails h.has CreditLoop [] g.1 in
      λ flaw. (h.each flaw).0 (elim flaw as (λ x. h.has x ≡ false) [
        | Missed ↦ a.0
        | Tableless ↦ b.0
        | Unusable ↦ c.0
        | Lidless ↦ d.0
        | Overloaded ↦ e.0
        | Unleveled ↦ f.0
        | LaneDrop ↦ g.0
        | CreditLoop ↦ i.0
      ])

passes_if : (bound : Option ℕ) (facts : Facts) (held : HeldPlan) (lanes : Option LanesSaid) → ((flaw : Flaw) → IsFree bound facts held lanes flaw)
    → PassesAudit bound facts held lanes
passes_if bound facts held None free = record {
  passes = record {
    whole = record { lids = free Lidless; tables = free Tableless; nodes = free Unusable };
    sound = record { arrive = free Missed; rise = free CreditLoop };
  };
  within = free Overloaded;
}
passes_if bound facts held (Some said) free = record {
  delivers = record {
    whole = record { lids = free Lidless; tables = free Tableless; nodes = free Unusable };
    arrive = free Missed;
    within = free Overloaded;
  };
  leveled = free Unleveled;
  carried = free LaneDrop;
  rise = free CreditLoop;
}

free_if : (bound : Option ℕ) (facts : Facts) (held : HeldPlan) (lanes : Option LanesSaid) → PassesAudit bound facts held lanes
    → (flaw : Flaw) → IsFree bound facts held lanes flaw
free_if bound facts held None p Missed = p.passes.sound.arrive
free_if bound facts held None p Tableless = p.passes.whole.tables
free_if bound facts held None p Unusable = p.passes.whole.nodes
free_if bound facts held None p Lidless = p.passes.whole.lids
free_if bound facts held None p Overloaded = p.within
free_if bound facts held None p Unleveled = tt
free_if bound facts held None p LaneDrop = tt
free_if bound facts held None p CreditLoop = p.passes.sound.rise
free_if bound facts held (Some said) p Missed = p.delivers.arrive
free_if bound facts held (Some said) p Tableless = p.delivers.whole.tables
free_if bound facts held (Some said) p Unusable = p.delivers.whole.nodes
free_if bound facts held (Some said) p Lidless = p.delivers.whole.lids
free_if bound facts held (Some said) p Overloaded = p.delivers.within
free_if bound facts held (Some said) p Unleveled = p.leveled
free_if bound facts held (Some said) p LaneDrop = p.carried
free_if bound facts held (Some said) p CreditLoop = p.rise

-- tables pass exactly if they have no flaws
pub flawless : (bound : Option ℕ) (facts : Facts) (held : HeldPlan) (lanes : Option LanesSaid) (flaws : List Flaw)
    → AreFlaws (IsFree bound facts held lanes) flaws → (flaws ≡ []) ↔ PassesAudit bound facts held lanes
flawless bound facts held lanes flaws h = (
  λ none. passes_if bound facts held lanes (all_free bound facts held lanes flaws h none),
  λ passes. h.listed ∙ none_pass h.has (λ flaw. (h.each flaw).1 (free_if bound facts held lanes passes flaw)) all_flaws,
)

-- there are no flaws exactly if none is listed
pub empty_is : (flaws : List Flaw) (b : Bool) → b ≡ (length flaws == 0) → IsTrue b ↔ (flaws ≡ [])
empty_is [] b e = (λ t. refl, λ none. e)
empty_is (flaw ∷ later) b e = (λ t. absurd (omega (arith, eqb-true (length (flaw ∷ later)) 0 (sym e ∙ t))), λ none. absurd (cc))
