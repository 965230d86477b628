-- The next entries, switch by switch.
use Rattle.std.proofs.Common.{◌≡◌, ℕ, zero, suc, ◌<◌, ◌≤◌, Bool, true, false, cond, List, [], ◌∷◌, length, Some, refl, sym, ap, ◌∙◌, subst, arith, inl, inr}
use Rattle.std.specs.Prelude.{Contains, map, slice_index_or, ◌==◌}
use Rattle.std.proofs.lemmas.Bool.{eqb-true}
use Rattle.std.proofs.lemmas.List.{get_or-map, get_or_past, length-map}
use Rattle.std.proofs.lemmas.Option.{same_Some}
use Rattle.subnet_view.specs.declared.end_port.EndPort.{EndPort}
use Rattle.subnet_view.specs.Reading.{Cells, switches}
use Rattle.subnet_view.proofs.Members.{contains_here, contains_later}
use Rattle.held_tables.specs.declared.held.HeldLid.{HeldLid}
use Rattle.held_tables.specs.Held.{HeldPlan}
use Rattle.packet_walks.specs.declared.cause.Cause.TheVariants.{NoEntry}
use Rattle.packet_walks.specs.declared.packet_end.End.{End}
use Rattle.packet_walks.specs.declared.packet_end.End.TheVariants.{Taken, Lost}
use Rattle.packet_walks.specs.declared.next_hop.NextHop.{NextHop}
use Rattle.packet_walks.specs.declared.next_hop.NextHop.TheVariants.{To, Ends}
use Rattle.held_tables.specs.Switches.{row_of}
use Rattle.held_tables.specs.Tables.{owners_of, entry_for}
use Rattle.packet_walks.specs.EndsBySwitch.{after, end_of, is_to}
use Rattle.packet_walks.specs.HopsByTables.{by_entry, cause_of, is_at, next_hops_of}
use Rattle.packet_walks.proofs.InTime.{one_end, ends_in_time}
use Rattle.packet_walks.proofs.Judged.{at_is, same_itself}
use Rattle.next_tables.specs.SettledRule.{step_at, comes_to, agreed_at, agreed, leads_on, delivers, patch_entry, patch_at, mending_at, mending, mends, next_entry, IsNext}
use Rattle.next_tables.specs.Mixtures.{IsMixed, IsLoose}
use Rattle.next_tables.proofs.Mixtures.{at, Comes, patch, Agreed, Emptied, Choice, Mending, Mix, Loose}
use Rattle.next_tables.proofs.Plain.{dropped, plain, plain_at, plain_after, plain_by_entry, plain_cond, plain_is_to, plain_lost, plain_none, plain_taken}

-- lists of what each switch does
pub at_mapped : {X : Type 0} (f : ℕ → X) (gs : List ℕ) (i : ℕ) (d : X) → i < length gs → slice_index_or (map f gs) i d ≡ f (slice_index_or gs i 0)
at_mapped f gs i d h = get_or-map f gs i 0 d h

pub past_mapped : {X : Type 0} (f : ℕ → X) (gs : List ℕ) (i : ℕ) (d : X) → length gs ≤ i → slice_index_or (map f gs) i d ≡ d
past_mapped f gs i d h = get_or_past (map f gs) i d (omega (arith, length-map gs f, h))

pub member : (gs : List ℕ) (i : ℕ) → i < length gs → Contains gs (slice_index_or gs i 0)
member [] i h = absurd (omega arith)
member (g ∷ gs) zero h = contains_here g gs
member (g ∷ gs) (suc i) h = contains_later g (slice_index_or gs i 0) gs (member gs i (omega arith))

-- whether a walk comes to the port
found_end : (s : NextHop) (e : End) → end_of s ≡ Some e → s ≡ Ends e
found_end (To i) e h = absurd (cc)
found_end (Ends x) e h = ap (λ y. Ends y) (same_Some x e h)

pub comes_true : (port : EndPort) (steps : List NextHop) (s : NextHop) → comes_to port steps s ≡ true → Comes port (map plain steps) (plain s)
comes_true port steps s h =
    let end = found_end (after (length steps) steps s) (Taken port) (at_is port (end_of (after (length steps) steps s)) h) in
    (length steps, plain_after (length steps) steps s ∙ ap plain end)

pub comes_false : (port : EndPort) (steps : List NextHop) (s : NextHop) → comes_to port steps s ≡ false → Comes port (map plain steps) (plain s) → ⊥
comes_false port steps s h c =
    let there : after c.0 steps s ≡ Ends (Taken port) = plain_taken (after c.0 steps s) port (sym (plain_after c.0 steps s) ∙ c.1) in
    let end : end_of (after (length steps) steps s) ≡ Some (Taken port) =
    one_end steps s (end_of (after (length steps) steps s)) (Some (Taken port)) (ends_in_time steps s) (c.0, there) in
    let is : is_at port (end_of (after (length steps) steps s)) ≡ true = ap (is_at port) end ∙ same_itself port in
    cc

-- with equal entries a switch does the same, except for the cause
pub same_step : (cells : Cells) (a b : HeldPlan) (lid g : ℕ) → owners_of a lid ≡ owners_of b lid → entry_for a lid g ≡ entry_for b lid g
    → plain (step_at cells a lid g) ≡ plain (step_at cells b lid g)
same_step cells a b lid g owners entry =
    plain_by_entry (owners_of a lid) g (cause_of cells a lid g) NoEntry (row_of cells g) (entry_for a lid g)
    ∙ (λ i. plain (by_entry (owners i) g NoEntry (row_of cells g) (entry i)))
    ∙ plain_by_entry (owners_of b lid) g NoEntry (cause_of cells b lid g) (row_of cells g) (entry_for b lid g)

module _ (cells : Cells) (held plan next : HeldPlan) (line : HeldLid) (same : owners_of plan line.lid ≡ owners_of held line.lid)
    (is : IsNext cells held plan line next) where
  abbrev pub gs : List ℕ
  gs = switches cells

  abbrev pub lid : ℕ
  lid = line.lid

  abbrev pub port : EndPort
  port = line.port

  abbrev pub guid : ℕ → ℕ
  guid i = slice_index_or gs i 0

  abbrev pub count : ℕ
  count = length gs

  -- the next entry is the plan's
  abbrev pub planned : ℕ → Type 0
  planned i = entry_for next lid (guid i) ≡ entry_for plan lid (guid i)

  -- what the switches do by tables, by the agreed entries, and while mending
  abbrev pub by : HeldPlan → List NextHop
  by tables = map plain (next_hops_of cells tables lid)

  abbrev pub by_agreed : List NextHop
  by_agreed = map plain (agreed cells held plan lid)

  abbrev pub by_mending : List NextHop
  by_mending = map plain (mending cells held plan line)

  pub plain_mapped : (f : ℕ → NextHop) (i : ℕ) → i < count → at (map plain (map f gs)) i ≡ plain (f (guid i))
  plain_mapped f i less = plain_at (map f gs) i (To i) ∙ ap plain (at_mapped f gs i (To i) less)

  plain_long : (f : ℕ → NextHop) → length (map plain (map f gs)) ≡ count
  plain_long f = length-map (map f gs) plain ∙ length-map gs f

  pub steps_at : (tables : HeldPlan) (i : ℕ) → i < count → at (by tables) i ≡ plain (step_at cells tables lid (guid i))
  steps_at tables i less = plain_mapped (step_at cells tables lid) i less

  pub steps_long : (tables : HeldPlan) → length (by tables) ≡ count
  steps_long tables = plain_long (step_at cells tables lid)

  pub agreed_long : length by_agreed ≡ count
  agreed_long = plain_long (agreed_at cells held plan lid)

  pub mending_long : length by_mending ≡ count
  mending_long = plain_long (mending_at cells held plan line)

  pub agree : (i : ℕ) → i < count → Agreed (by held) (by plan) by_agreed i
  agree i less =
      let g = guid i in
      let here : at by_agreed i ≡ plain (agreed_at cells held plan lid g) = plain_mapped (agreed_at cells held plan lid) i less in
      elim (entry_for held lid g == entry_for plan lid g) as (λ t. (entry_for held lid g == entry_for plan lid g) ≡ t
      → Agreed (by held) (by plan) by_agreed i) [
        | true ↦ λ h. inl (
          here ∙ ap (λ t. plain (cond t (step_at cells plan lid g) (dropped g))) h ∙ sym (steps_at plan i less),
          steps_at held i less ∙ same_step cells held plan lid g (sym same) (eqb-true (entry_for held lid g) (entry_for plan lid g) h)
              ∙ sym (steps_at plan i less),
        )
        | false ↦ λ h. inr (g, here ∙ ap (λ t. plain (cond t (step_at cells plan lid g) (dropped g))) h)
      ] refl

  -- the entries and what they do
  entry_is : (i : ℕ) → i < count → entry_for next lid (guid i) ≡ next_entry cells held plan line (guid i)
  entry_is i less = is.entries (guid i) (member gs i less)

  as_plan : (i : ℕ) → i < count → planned i → at (by next) i ≡ at (by plan) i
  as_plan i less h = steps_at next i less ∙ same_step cells next plan lid (guid i) (is.owners ∙ sym same) h ∙ sym (steps_at plan i less)

  as_held : (i : ℕ) → i < count → entry_for next lid (guid i) ≡ entry_for held lid (guid i) → at (by next) i ≡ at (by held) i
  as_held i less h = steps_at next i less ∙ same_step cells next held lid (guid i) is.owners h ∙ sym (steps_at held i less)

  -- the four kinds, by what was tested
  leads : (i : ℕ) → i < count → leads_on cells held plan line (guid i) ≡ true → Comes port by_agreed (at (by plan) i)
  leads i less h =
      subst (λ (s : NextHop). Comes port by_agreed s) (sym (steps_at plan i less))
      (comes_true port (agreed cells held plan lid) (step_at cells plan lid (guid i)) h)

  leads_not : (i : ℕ) → i < count → leads_on cells held plan line (guid i) ≡ false → Comes port by_agreed (at (by plan) i) → ⊥
  leads_not i less h c =
      comes_false port (agreed cells held plan lid) (step_at cells plan lid (guid i)) h
      (subst (λ (s : NextHop). Comes port by_agreed s) (steps_at plan i less) c)

  good : (i : ℕ) → i < count → delivers cells held line (guid i) ≡ true → Comes port (by held) (at (by held) i)
  good i less h =
      subst (λ (s : NextHop). Comes port (by held) s) (sym (steps_at held i less))
      (comes_true port (next_hops_of cells held lid) (step_at cells held lid (guid i)) h)

  good_not : (i : ℕ) → i < count → delivers cells held line (guid i) ≡ false → Comes port (by held) (at (by held) i) → ⊥
  good_not i less h c =
      comes_false port (next_hops_of cells held lid) (step_at cells held lid (guid i)) h
      (subst (λ (s : NextHop). Comes port (by held) s) (steps_at held i less) c)

  mending_is : (i : ℕ) → i < count → at by_mending i ≡ plain (mending_at cells held plan line (guid i))
  mending_is i less = plain_mapped (mending_at cells held plan line) i less

  mended : (i : ℕ) → i < count → mends cells held plan line (guid i) ≡ true → Comes port by_mending (at by_mending i)
  mended i less h =
      subst (λ (s : NextHop). Comes port by_mending s) (sym (mending_is i less))
      (comes_true port (mending cells held plan line) (mending_at cells held plan line (guid i)) h)

  mended_not : (i : ℕ) → i < count → mends cells held plan line (guid i) ≡ false → Comes port by_mending (at by_mending i) → ⊥
  mended_not i less h c =
      comes_false port (mending cells held plan line) (mending_at cells held plan line (guid i)) h
      (subst (λ (s : NextHop). Comes port by_mending s) (mending_is i less) c)

  patch_is : (i : ℕ) → i < count → plain (patch_at cells held plan lid (guid i)) ≡ patch (by held) (by plan) i
  patch_is i less =
      let now = step_at cells held lid (guid i) in
      let planned = step_at cells plan lid (guid i) in
      plain_cond (is_to now) now planned
      ∙ ap (λ t. cond t (plain now) (plain planned)) (sym (plain_is_to now))
      ∙ (λ j. cond (is_to (sym (steps_at held i less) j)) (sym (steps_at held i less) j) (sym (steps_at plan i less) j))

  patched : (i : ℕ) → i < count → entry_for next lid (guid i) ≡ patch_entry cells held plan lid (guid i)
      → at (by next) i ≡ patch (by held) (by plan) i
  patched i less h =
      let g = guid i in
      steps_at next i less
      ∙ (elim (is_to (step_at cells held lid g)) as (λ t. entry_for next lid g ≡ cond t (entry_for held lid g) (entry_for plan lid g)
      → plain (step_at cells next lid g) ≡ plain (cond t (step_at cells held lid g) (step_at cells plan lid g))) [
        | true ↦ λ e. same_step cells next held lid g is.owners e
        | false ↦ λ e. same_step cells next plan lid g (is.owners ∙ sym same) e
      ] h)
      ∙ patch_is i less

  abbrev Choices : ℕ → Type 0
  Choices i = Choice port (by held) (by plan) by_agreed by_mending (by next) planned i

  pub choose : (i : ℕ) → i < count → Choices i
  choose i less =
      let g = guid i in
      let l = leads_on cells held plan line g in
      let d = delivers cells held line g in
      let m = mends cells held plan line g in
      let p = entry_for plan lid g in
      let h = entry_for held lid g in
      let x = patch_entry cells held plan lid g in
      elim l as (λ t. l ≡ t → Choices i) [
        | true ↦ λ q.
            let e : planned i = entry_is i less ∙ ap (λ t. cond t p (cond d h (cond m x 255))) q in
            inl (record { leads = leads i less q; is = as_plan i less e; entry = e })
        | false ↦ λ q. (elim d as (λ t. d ≡ t → Choices i) [
          | true ↦ λ r.
              let e : entry_for next lid g ≡ h = entry_is i less ∙ (λ j. cond (q j) p (cond (r j) h (cond m x 255))) in
              inr (inl (record { not_led = leads_not i less q; delivers = good i less r; is = as_held i less e }))
          | false ↦ λ r. (elim m as (λ t. m ≡ t → Choices i) [
            | true ↦ λ o.
                let e : entry_for next lid g ≡ x = entry_is i less ∙ (λ j. cond (q j) p (cond (r j) h (cond (o j) x 255))) in
                inr (inr (inl (record { not_led = leads_not i less q; broken = good_not i less r; mends = mended i less o; is = patched i less e })))
            | false ↦ λ o. inr (inr (inr (record { not_led = leads_not i less q; broken = good_not i less r; mends_not = mended_not i less o })))
          ] refl)
        ] refl)
      ] refl

  pub mend : (i : ℕ) → i < count → Mending port (by held) (by plan) by_mending i
  mend i less =
      let g = guid i in
      let d = delivers cells held line g in
      elim d as (λ t. d ≡ t → Mending port (by held) (by plan) by_mending i) [
        | true ↦ λ r. inl (good i less r, mending_is i less ∙ ap (λ t. plain (cond t (Ends (Taken port)) (patch_at cells held plan lid g))) r)
        | false ↦ λ r. inr (
          good_not i less r,
          mending_is i less ∙ ap (λ t. plain (cond t (Ends (Taken port)) (patch_at cells held plan lid g))) r
              ∙ patch_is i less,
        )
      ] refl

  -- a test fails if what it tests is false
  not_true : (t : Bool) → (t ≡ true → ⊥) → t ≡ false
  not_true true h = absurd (h refl)
  not_true false h = refl

  pub emptied_entry : (i : ℕ) → i < count → Emptied port (by held) (by plan) by_agreed by_mending i
      → entry_for next lid (guid i) ≡ 255
  emptied_entry i less it =
      let g = guid i in
      let q : leads_on cells held plan line g ≡ false = not_true (leads_on cells held plan line g) (λ h. it.not_led (leads i less h)) in
      let r : delivers cells held line g ≡ false = not_true (delivers cells held line g) (λ h. it.broken (good i less h)) in
      let o : mends cells held plan line g ≡ false = not_true (mends cells held plan line g) (λ h. it.mends_not (mended i less h)) in
      entry_is i less ∙ (λ j. cond (q j) (entry_for plan lid g) (cond (r j) (entry_for held lid g) (cond (o j) (patch_entry cells held plan lid g) 255)))

  pub drops : (i : ℕ) → i < count → Emptied port (by held) (by plan) by_agreed by_mending i → (e : End) × (at (by next) i ≡ Ends e)
  drops i less it =
      let g = guid i in
      let e : entry_for next lid g ≡ 255 = emptied_entry i less it in (
        Lost g NoEntry,
        steps_at next i less
            ∙ ap (λ n. plain (by_entry (owners_of next lid) g (cause_of cells next lid g) (row_of cells g) n)) e
            ∙ plain_none (owners_of next lid) cells g (cause_of cells next lid g),
      )

  pub mix : (mixed : ℕ → HeldPlan) → ((k : ℕ) → IsMixed cells held next lid (mixed k))
      → Mix count (by held) (by next) (λ k. by (mixed k))
  mix mixed are k i less =
      let g = guid i in
      let m = are k in
      elim (m.entries g (member gs i less)) [
        | inl e ↦ inl (steps_at (mixed k) i less ∙ same_step cells (mixed k) held lid g m.owners e ∙ sym (steps_at held i less))
        | inr e ↦ inr (steps_at (mixed k) i less ∙ same_step cells (mixed k) next lid g (m.owners ∙ sym is.owners) e ∙ sym (steps_at next i less))
      ]

  pub loose : (mixed : ℕ → HeldPlan) → ((k : ℕ) → IsLoose cells held next lid (mixed k))
      → Loose count (by held) (by next) (λ k. by (mixed k))
  loose mixed are k i less =
      let g = guid i in
      let m = are k in
      elim (m.entries g (member gs i less)) [
        | inl e ↦ inl (steps_at (mixed k) i less ∙ same_step cells (mixed k) held lid g m.owners e ∙ sym (steps_at held i less))
        | inr (inl e) ↦ inr (inl (steps_at (mixed k) i less ∙ same_step cells (mixed k) next lid g (m.owners ∙ sym is.owners) e ∙ sym (steps_at next i less)))
        | inr (inr d) ↦ inr (inr (d.0, steps_at held i less ∙ plain_lost (step_at cells held lid g) d.0 d.1 d.2))
      ]
