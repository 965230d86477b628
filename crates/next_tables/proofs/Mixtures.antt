-- Why no packet is lost between the held tables and the next ones, by what the switches do.
use Rattle.std.proofs.Common.{◌≡◌, ℕ, zero, suc, ◌<◌, true, false, cond, List, length, refl, sym, ap, ◌∙◌, arith, inl, inr, ◌⊎◌}
use Rattle.std.specs.Prelude.{slice_index_or}
use Rattle.std.proofs.lemmas.Bool.{cases_lt}
use Rattle.subnet_view.specs.declared.end_port.EndPort.{EndPort}
use Rattle.packet_walks.specs.declared.cause.Cause.TheVariants.{NoEntry}
use Rattle.packet_walks.specs.declared.packet_end.End.{End}
use Rattle.packet_walks.specs.declared.packet_end.End.TheVariants.{Taken, Lost}
use Rattle.packet_walks.specs.declared.next_hop.NextHop.{NextHop}
use Rattle.packet_walks.specs.declared.next_hop.NextHop.TheVariants.{To, Ends}
use Rattle.packet_walks.specs.EndsBySwitch.{onward, after, is_to}
use Rattle.packet_walks.proofs.Ended.{after_ended, past}
use Rattle.next_tables.specs.Mixtures.{after_by}
use Rattle.next_tables.proofs.Plain.{dropped}

-- what a switch does
abbrev pub at : List NextHop → ℕ → NextHop
at steps i = slice_index_or steps i (To i)

-- a packet comes to the port
abbrev pub Comes : EndPort → List NextHop → NextHop → Type 0
Comes port steps s = (n : ℕ) × (after n steps s ≡ Ends (Taken port))

abbrev pub ComesBy : EndPort → (ℕ → List NextHop) → NextHop → Type 0
ComesBy port mixed s = (n : ℕ) × (after_by n mixed s ≡ Ends (Taken port))

abbrev pub EndsBy : (ℕ → List NextHop) → NextHop → Type 0
EndsBy mixed s = (e : End) × (n : ℕ) × (after_by n mixed s ≡ Ends e)

-- the held hop if the switch forwards the packet, and else the plan's
abbrev pub patch : List NextHop → List NextHop → ℕ → NextHop
patch held plan i = cond (is_to (at held i)) (at held i) (at plan i)

-- what the agreed entries do
abbrev pub Agreed : List NextHop → List NextHop → List NextHop → ℕ → Type 0
Agreed held plan agreed i = ((at agreed i ≡ at plan i) × (at held i ≡ at plan i)) ⊎ ((g : ℕ) × (at agreed i ≡ dropped g))

-- what the next entry is
pub record Led (port : EndPort) (plan agreed next : List NextHop) (planned : ℕ → Type 0) (i : ℕ) : Type 0 where
  pub leads : Comes port agreed (at plan i)
  pub is : at next i ≡ at plan i
  pub entry : planned i

pub record Kept (port : EndPort) (held plan agreed next : List NextHop) (i : ℕ) : Type 0 where
  pub not_led : Comes port agreed (at plan i) → ⊥
  pub delivers : Comes port held (at held i)
  pub is : at next i ≡ at held i

pub record Patched (port : EndPort) (held plan agreed mending next : List NextHop) (i : ℕ) : Type 0 where
  pub not_led : Comes port agreed (at plan i) → ⊥
  pub broken : Comes port held (at held i) → ⊥
  pub mends : Comes port mending (at mending i)
  pub is : at next i ≡ patch held plan i

pub record Emptied (port : EndPort) (held plan agreed mending : List NextHop) (i : ℕ) : Type 0 where
  pub not_led : Comes port agreed (at plan i) → ⊥
  pub broken : Comes port held (at held i) → ⊥
  pub mends_not : Comes port mending (at mending i) → ⊥

-- the next entry, of the four kinds
abbrev pub Choice : EndPort → List NextHop → List NextHop → List NextHop → List NextHop → List NextHop → (ℕ → Type 0) → ℕ → Type 0
Choice port held plan agreed mending next planned i =
    Led port plan agreed next planned i
    ⊎ (Kept port held plan agreed next i ⊎ (Patched port held plan agreed mending next i ⊎ Emptied port held plan agreed mending i))

-- how a walk is mended
abbrev pub Mending : EndPort → List NextHop → List NextHop → List NextHop → ℕ → Type 0
Mending port held plan mending i =
    (Comes port held (at held i) × (at mending i ≡ Ends (Taken port))) ⊎ ((Comes port held (at held i) → ⊥) × (at mending i ≡ patch held plan i))

abbrev pub Mix : ℕ → List NextHop → List NextHop → (ℕ → List NextHop) → Type 0
Mix count held next mixed = (k i : ℕ) → i < count → (at (mixed k) i ≡ at held i) ⊎ (at (mixed k) i ≡ at next i)

-- and a switch whose held entry drops the packet may do anything
abbrev pub Loose : ℕ → List NextHop → List NextHop → (ℕ → List NextHop) → Type 0
Loose count held next mixed =
    (k i : ℕ) → i < count → (at (mixed k) i ≡ at held i) ⊎ ((at (mixed k) i ≡ at next i) ⊎ ((g : ℕ) × (at held i ≡ dropped g)))

loosen : (count : ℕ) (held next : List NextHop) (mixed : ℕ → List NextHop) → Mix count held next mixed → Loose count held next mixed
loosen count held next mixed mix k i less = elim (mix k i less) [ inl e ↦ inl e | inr e ↦ inr (inl e) ]

-- a switch from which a walk ends is one of them
pub in_range : (steps : List NextHop) (n i : ℕ) (e : End) → after n steps (To i) ≡ Ends e → i < length steps
in_range steps zero i e h = absurd (cc)
in_range steps (suc n) i e h =
    elim (cases_lt i (length steps)) [
      | inl less ↦ less
      | inr more ↦ in_range steps n i e (sym (ap (after n steps) (past steps i (To i) more)) ∙ h)
    ]

pub lost_not : (n g : ℕ) (port : EndPort) (steps : List NextHop) → after n steps (dropped g) ≡ Ends (Taken port) → ⊥
lost_not n g port steps h = let e : ◌≡◌ {A = NextHop} (dropped g) (Ends (Taken port)) = sym (after_ended n steps (Lost g NoEntry)) ∙ h in cc

-- the same tables all the time
pub by_one : (n : ℕ) (steps : List NextHop) (s : NextHop) → after_by n (λ k. steps) s ≡ after n steps s
by_one zero steps s = refl
by_one (suc n) steps s = by_one n steps (onward steps s)

one_comes : (port : EndPort) (steps : List NextHop) (s : NextHop) → ComesBy port (λ k. steps) s → Comes port steps s
one_comes port steps s h = (h.0, sym (by_one h.0 steps s) ∙ h.1)

-- one step before
by_more : (port : EndPort) (mixed : ℕ → List NextHop) (i : ℕ) (s : NextHop) → at (mixed 0) i ≡ s → ComesBy port (λ k. mixed (suc k)) s
    → ComesBy port mixed (To i)
by_more port mixed i s e h = (suc h.0, ap (after_by h.0 (λ k. mixed (suc k))) e ∙ h.1)

ends_more : (mixed : ℕ → List NextHop) (i : ℕ) (s : NextHop) → at (mixed 0) i ≡ s → EndsBy (λ k. mixed (suc k)) s → EndsBy mixed (To i)
ends_more mixed i s e h = (h.0, suc h.1, ap (after_by h.1 (λ k. mixed (suc k))) e ∙ h.2)

come_more : (port : EndPort) (steps : List NextHop) (i : ℕ) (s : NextHop) → at steps i ≡ s → Comes port steps s → Comes port steps (To i)
come_more port steps i s e h = (suc h.0, ap (after h.0 steps) e ∙ h.1)

comes_ends : (port : EndPort) (mixed : ℕ → List NextHop) (s : NextHop) → ComesBy port mixed s → EndsBy mixed s
comes_ends port mixed s h = (Taken port, h.0, h.1)

module _ (port : EndPort) (count : ℕ) (held plan agreed mending next : List NextHop) (planned : ℕ → Type 0)
    (held_long : length held ≡ count) (agreed_long : length agreed ≡ count) (mending_long : length mending ≡ count)
    (agree : (i : ℕ) → i < count → Agreed held plan agreed i) (choose : (i : ℕ) → i < count → Choice port held plan agreed mending next planned i)
    (mend : (i : ℕ) → i < count → Mending port held plan mending i) where
  -- if the plan's entry leads on, it is the next entry
  pub led : (i : ℕ) → i < count → Comes port agreed (at plan i) → Led port plan agreed next planned i
  led i less h =
      elim (choose i less) [
        | inl it ↦ it
        | inr (inl it) ↦ absurd (it.not_led h)
        | inr (inr (inl it)) ↦ absurd (it.not_led h)
        | inr (inr (inr it)) ↦ absurd (it.not_led h)
      ]

  -- over entries that are the plan's already
  pub agreed_comes : (n : ℕ) (s : NextHop) (mixed : ℕ → List NextHop) → Loose count held next mixed → after n agreed s ≡ Ends (Taken port)
      → ComesBy port mixed s
  agreed_comes n (Ends e) mixed mix h = (0, sym (after_ended n agreed e) ∙ h)
  agreed_comes zero (To i) mixed mix h = absurd (cc)
  agreed_comes (suc n) (To i) mixed mix h =
      let less : i < count = omega (arith, in_range agreed (suc n) i (Taken port) h, agreed_long) in
      elim (agree i less) [
        | inl q ↦
            let there : after n agreed (at plan i) ≡ Ends (Taken port) = sym (ap (after n agreed) q.0) ∙ h in
            let it = led i less (n, there) in
            let first : at (mixed 0) i ≡ at plan i = elim (mix 0 i less) [
              | inl e ↦ e ∙ q.1
              | inr (inl e) ↦ e ∙ it.is
              | inr (inr d) ↦ absurd (lost_not n d.0 port agreed (sym (ap (after n agreed) (sym q.1 ∙ d.1)) ∙ there))
            ] in
            by_more port mixed i (at plan i) first (agreed_comes n (at plan i) (λ k. mixed (suc k)) (λ k. mix (suc k)) there)
        | inr q ↦ absurd (lost_not n q.0 port agreed (sym (ap (after n agreed) q.1) ∙ h))
      ]

  -- what arrived before does so in each mixture
  pub held_comes : (n : ℕ) (s : NextHop) (mixed : ℕ → List NextHop) → Loose count held next mixed → after n held s ≡ Ends (Taken port) → ComesBy port mixed s
  held_comes n (Ends e) mixed mix h = (0, sym (after_ended n held e) ∙ h)
  held_comes zero (To i) mixed mix h = absurd (cc)
  held_comes (suc n) (To i) mixed mix h =
      let less : i < count = omega (arith, in_range held (suc n) i (Taken port) h, held_long) in
      let later : Loose count held next (λ k. mixed (suc k)) = λ k. mix (suc k) in
      let kept : at (mixed 0) i ≡ at held i → ComesBy port mixed (To i) =
      λ e. by_more port mixed i (at held i) e (held_comes n (at held i) (λ k. mixed (suc k)) later h) in
      elim (mix 0 i less) [
        | inl e ↦ kept e
        | inr (inr d) ↦ absurd (lost_not n d.0 port held (sym (ap (after n held) d.1) ∙ h))
        | inr (inl e) ↦ elim (choose i less) [
          | inl it ↦ by_more port mixed i (at plan i) (e ∙ it.is) (agreed_comes it.leads.0 (at plan i) (λ k. mixed (suc k)) later it.leads.1)
          | inr (inl it) ↦ kept (e ∙ it.is)
          | inr (inr (inl it)) ↦ absurd (it.broken (n, h))
          | inr (inr (inr it)) ↦ absurd (it.broken (n, h))
        ]
      ]

  next_mix : Mix count held next (λ k. next)
  next_mix k i less = inr refl

  -- so they do by the next tables alone
  pub agreed_next : (n : ℕ) (s : NextHop) → after n agreed s ≡ Ends (Taken port) → Comes port next s
  agreed_next n s h = one_comes port next s (agreed_comes n s (λ k. next) (loosen count held next (λ k. next) next_mix) h)

  pub held_next : (n : ℕ) (s : NextHop) → after n held s ≡ Ends (Taken port) → Comes port next s
  held_next n s h = one_comes port next s (held_comes n s (λ k. next) (loosen count held next (λ k. next) next_mix) h)

  -- what is mended arrives by them
  pub mending_next : (n : ℕ) (s : NextHop) → after n mending s ≡ Ends (Taken port) → Comes port next s
  mending_next n (Ends e) h = (0, sym (after_ended n mending e) ∙ h)
  mending_next zero (To i) h = absurd (cc)
  mending_next (suc n) (To i) h =
      let less : i < count = omega (arith, in_range mending (suc n) i (Taken port) h, mending_long) in
      elim (choose i less) [
        | inl it ↦ come_more port next i (at plan i) it.is (agreed_next it.leads.0 (at plan i) it.leads.1)
        | inr (inl it) ↦ come_more port next i (at held i) it.is (held_next it.delivers.0 (at held i) it.delivers.1)
        | inr (inr (inl it)) ↦ elim (mend i less) [
          | inl q ↦ absurd (it.broken q.0)
          | inr q ↦ come_more port next i (patch held plan i) it.is (mending_next n (patch held plan i) (sym (ap (after n mending) q.1) ∙ h))
        ]
        | inr (inr (inr it)) ↦ absurd (it.mends_not (n, h))
      ]

  -- by the next tables a switch delivers it or has no entry
  pub clean : (i : ℕ) → i < count → Emptied port held plan agreed mending i ⊎ Comes port next (To i)
  clean i less =
      elim (choose i less) [
        | inl it ↦ inr (come_more port next i (at plan i) it.is (agreed_next it.leads.0 (at plan i) it.leads.1))
        | inr (inl it) ↦ inr (come_more port next i (at held i) it.is (held_next it.delivers.0 (at held i) it.delivers.1))
        | inr (inr (inl it)) ↦ elim (mend i less) [
          | inl q ↦ absurd (it.broken q.0)
          | inr q ↦
              let m = it.mends in
              inr (come_more port next i (patch held plan i) it.is (mending_next m.0 (patch held plan i) (sym (ap (after m.0 mending) q.1) ∙ m.1)))
        ]
        | inr (inr (inr it)) ↦ inl it
      ]

  -- the plan's entries stay if they lead on
  pub agreed_stays : (later : List NextHop) → ((i : ℕ) → i < count → planned i → at later i ≡ at plan i) → (n : ℕ) (s : NextHop)
      → after n agreed s ≡ Ends (Taken port) → after n later s ≡ Ends (Taken port)
  agreed_stays later stays n (Ends e) h = after_ended n later e ∙ sym (after_ended n agreed e) ∙ h
  agreed_stays later stays zero (To i) h = absurd (cc)
  agreed_stays later stays (suc n) (To i) h =
      let less : i < count = omega (arith, in_range agreed (suc n) i (Taken port) h, agreed_long) in
      elim (agree i less) [
        | inl q ↦
            let there : after n agreed (at plan i) ≡ Ends (Taken port) = sym (ap (after n agreed) q.0) ∙ h in
            let it = led i less (n, there) in
            ap (after n later) (stays i less it.entry) ∙ agreed_stays later stays n (at plan i) there
        | inr q ↦ absurd (lost_not n q.0 port agreed (sym (ap (after n agreed) q.1) ∙ h))
      ]

  -- if an entry of 255 leads nowhere
  module _ (drops : (i : ℕ) → i < count → Emptied port held plan agreed mending i → (e : End) × (at next i ≡ Ends e)) where
    -- after the step each switch delivers or drops
    pub delivers_or_drops : (i : ℕ) → i < count → is_to (at next i) ≡ true → Comes port next (at next i)
    delivers_or_drops i less to =
        elim (choose i less) [
          | inl it ↦ let c = agreed_next it.leads.0 (at plan i) it.leads.1 in (c.0, ap (after c.0 next) it.is ∙ c.1)
          | inr (inl it) ↦ let c = held_next it.delivers.0 (at held i) it.delivers.1 in (c.0, ap (after c.0 next) it.is ∙ c.1)
          | inr (inr (inl it)) ↦ elim (mend i less) [
            | inl q ↦ absurd (it.broken q.0)
            | inr q ↦
                let m = it.mends in
                let c = mending_next m.0 (patch held plan i) (sym (ap (after m.0 mending) q.1) ∙ m.1) in
                (c.0, ap (after c.0 next) it.is ∙ c.1)
          ]
          | inr (inr (inr it)) ↦ let d = drops i less it in let over : is_to (at next i) ≡ false = ap is_to d.1 in absurd (cc)
        ]

    -- what is mended ends in each mixture
    pub mended_ends : (n : ℕ) (s : NextHop) (mixed : ℕ → List NextHop) → Mix count held next mixed → after n mending s ≡ Ends (Taken port) → EndsBy mixed s
    mended_ends n (Ends e) mixed mix h = (e, 0, refl)
    mended_ends zero (To i) mixed mix h = absurd (cc)
    mended_ends (suc n) (To i) mixed mix h =
        let less : i < count = omega (arith, in_range mending (suc n) i (Taken port) h, mending_long) in
        let later : Mix count held next (λ k. mixed (suc k)) = λ k. mix (suc k) in
        elim (mend i less) [
          | inl q ↦ comes_ends port mixed (To i) (held_comes (suc q.0.0) (To i) mixed (loosen count held next mixed mix) q.0.1)
          | inr q ↦
              let there : after n mending (patch held plan i) ≡ Ends (Taken port) = sym (ap (after n mending) q.1) ∙ h in
              let on : at (mixed 0) i ≡ patch held plan i → EndsBy mixed (To i) =
              λ e. ends_more mixed i (patch held plan i) e (mended_ends n (patch held plan i) (λ k. mixed (suc k)) later there) in
              elim (mix 0 i less) [
                | inl e ↦ held_step i (at held i) refl mixed e on
                | inr e ↦ elim (choose i less) [
                  | inl it ↦ comes_ends port mixed (To i) (by_more port mixed i (at plan i) (e
                      ∙ it.is) (agreed_comes it.leads.0 (at plan i) (λ k. mixed (suc k)) (loosen count held next (λ k. mixed (suc k)) later) it.leads.1))
                  | inr (inl it) ↦ absurd (q.0 it.delivers)
                  | inr (inr (inl it)) ↦ on (e ∙ it.is)
                  | inr (inr (inr it)) ↦ let d = drops i less it in ends_more mixed i (Ends d.0) (e ∙ d.1) (d.0, 0, refl)
                ]
              ]
        ]
      where
        held_step : (i : ℕ) (x : NextHop) → at held i ≡ x → (mixed : ℕ → List NextHop) → at (mixed 0) i ≡ at held i
            → (at (mixed 0) i ≡ patch held plan i → EndsBy mixed (To i)) → EndsBy mixed (To i)
        held_step i (To j) x mixed e on = on (e ∙ sym (ap (λ r. cond (is_to r) (at held i) (at plan i)) x))
        held_step i (Ends d) x mixed e on = ends_more mixed i (Ends d) (e ∙ x) (d, 0, refl)

    -- what ended before does so in each mixture
    pub held_ends : (n : ℕ) (s : NextHop) (e : End) (mixed : ℕ → List NextHop) → Mix count held next mixed → after n held s ≡ Ends e → EndsBy mixed s
    held_ends n (Ends d) e mixed mix h = (d, 0, refl)
    held_ends zero (To i) e mixed mix h = absurd (cc)
    held_ends (suc n) (To i) e mixed mix h =
        let less : i < count = omega (arith, in_range held (suc n) i e h, held_long) in
        let later : Mix count held next (λ k. mixed (suc k)) = λ k. mix (suc k) in
        let on : at (mixed 0) i ≡ at held i → EndsBy mixed (To i) =
        λ q. ends_more mixed i (at held i) q (held_ends n (at held i) e (λ k. mixed (suc k)) later h) in
        elim (mix 0 i less) [
          | inl q ↦ on q
          | inr q ↦ elim (choose i less) [
            | inl it ↦ comes_ends port mixed (To i) (by_more port mixed i (at plan i) (q
                ∙ it.is) (agreed_comes it.leads.0 (at plan i) (λ k. mixed (suc k)) (loosen count held next (λ k. mixed (suc k)) later) it.leads.1))
            | inr (inl it) ↦ on (q ∙ it.is)
            | inr (inr (inl it)) ↦ ends_more mixed i (at mending i) (q ∙ it.is
                ∙ sym (mended i less it)) (mended_ends it.mends.0 (at mending i) (λ k. mixed (suc k)) later it.mends.1)
            | inr (inr (inr it)) ↦ let d = drops i less it in ends_more mixed i (Ends d.0) (q ∙ d.1) (d.0, 0, refl)
          ]
        ]
      where
        mended : (i : ℕ) → i < count → Patched port held plan agreed mending next i → at mending i ≡ patch held plan i
        mended i less it = elim (mend i less) [ inl q ↦ absurd (it.broken q.0) | inr q ↦ q.1 ]

  -- if each switch delivers or drops, all that the plan delivers is mended
  pub plan_mended : ((i : ℕ) → i < count → is_to (at held i) ≡ true → Comes port held (at held i)) → length plan ≡ count
      → (n : ℕ) (s : NextHop) → after n plan s ≡ Ends (Taken port) → Comes port mending s
  plan_mended ready long n (Ends e) h = (0, sym (after_ended n plan e) ∙ h)
  plan_mended ready long zero (To i) h = absurd (cc)
  plan_mended ready long (suc n) (To i) h =
      let less : i < count = omega (arith, in_range plan (suc n) i (Taken port) h, long) in
      elim (mend i less) [
        | inl q ↦ (1, q.1)
        | inr q ↦
            let is : patch held plan i ≡ at plan i =
            elim (is_to (at held i)) as (λ t. is_to (at held i) ≡ t → cond t (at held i) (at plan i) ≡ at plan i) [
              | true ↦ λ to. absurd (q.0 (ready i less to))
              | false ↦ λ to. refl
            ] refl in
            come_more port mending i (at plan i) (q.1 ∙ is) (plan_mended ready long n (at plan i) h)
      ]
