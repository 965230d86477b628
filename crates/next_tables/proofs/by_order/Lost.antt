-- No packet that arrives is lost.
use Rattle.std.proofs.Common.{◌≡◌, ℕ, zero, suc, ◌<◌, ◌+◌, ◌*◌, Bool, true, false, cond, List, length, Some, refl, sym, ap, ◌∙◌, subst, arith, inl, inr, ◌⊎◌}
use Rattle.std.specs.Prelude.{not, ◌||◌}
use Rattle.std.proofs.lemmas.Bool.{and_parts}
use Rattle.std.proofs.lemmas.List.{length-map}
use Rattle.std.proofs.lemmas.List.FromFn.{get_or-map-range_with_len}
use Rattle.std.proofs.lemmas.Option.{same_Some}
use Rattle.subnet_view.specs.declared.end_port.EndPort.{EndPort}
use Rattle.subnet_view.specs.Reading.{Cells, switches}
use Rattle.held_tables.specs.declared.held.HeldLid.{HeldLid}
use Rattle.held_tables.specs.Held.{HeldPlan}
use Rattle.packet_walks.specs.declared.cause.Cause.{Cause}
use Rattle.packet_walks.specs.declared.packet_end.End.{End}
use Rattle.packet_walks.specs.declared.packet_end.End.TheVariants.{Taken, Lost}
use Rattle.packet_walks.specs.declared.next_hop.NextHop.{NextHop}
use Rattle.packet_walks.specs.declared.next_hop.NextHop.TheVariants.{To, Ends}
use Rattle.held_tables.specs.Switches.{sender_of}
use Rattle.held_tables.specs.Tables.{owners_of, entry_for}
use Rattle.packet_walks.specs.EndsBySwitch.{after, end_of}
use Rattle.packet_walks.specs.HopsByTables.{first_hop, is_at, next_hops_of}
use Rattle.packet_walks.proofs.Ended.{after_ended}
use Rattle.packet_walks.proofs.InTime.{one_end, ends_in_time}
use Rattle.packet_walks.proofs.Judged.{at_is, same_itself}
use Rattle.next_tables.specs.Mixtures.{IsLoose, after_by}
use Rattle.next_tables.specs.SettledRule.{step_at, comes_to, delivers}
use Rattle.next_tables.proofs.Entries.{at_mapped, member}
use Rattle.next_tables.proofs.Mixtures.{at, Comes, ComesBy, by_one, in_range}
use Rattle.next_tables.specs.OrderRule.{IsChoice, IsTriedByOrder, turns_well, leads_in, may_change, tried_entry, tried_at, tried, channel_number}
use Rattle.next_tables.specs.SwitchPositions.{is_bad, switch_at}
use Rattle.next_tables.specs.OrderedStepLaws.{IsLineStep, RuleIsChoice, RuleIsTried, NoneIsLostByOrder}
use Rattle.next_tables.proofs.by_order.Arrivals.{Brings, arrives}
use Rattle.next_tables.proofs.Hops.{leads_from, leads_within, placed, taken_same, to_same, to_within}
use Rattle.next_tables.proofs.by_order.Turns.{Goes, goes_well, known, not_true}
use Rattle.next_tables.proofs.by_order.Waits.{numbers_rise}

-- whether a walk comes to the port
pub found_end : (s : NextHop) (e : End) → end_of s ≡ Some e → s ≡ Ends e
found_end (To i) e h = absurd (cc)
found_end (Ends x) e h = ap (λ y. Ends y) (same_Some x e h)

pub comes_true : (port : EndPort) (steps : List NextHop) (s : NextHop) → comes_to port steps s ≡ true → Comes port steps s
comes_true port steps s h = (length steps, found_end (after (length steps) steps s) (Taken port) (at_is port (end_of (after (length steps) steps s)) h))

pub comes_made : (port : EndPort) (steps : List NextHop) (s : NextHop) → Comes port steps s → comes_to port steps s ≡ true
comes_made port steps s c =
    let end : end_of (after (length steps) steps s) ≡ Some (Taken port) =
    one_end steps s (end_of (after (length steps) steps s)) (Some (Taken port)) (ends_in_time steps s) c in
    ap (is_at port) end ∙ same_itself port

-- the rule is a choice -----------------------------------------------------------------

module _ (cells : Cells) (q : ℕ → ℕ) (held goal : HeldPlan) (line : HeldLid) where
  pub tried_choice : (i g : ℕ) → (tried_entry cells q held goal line i g ≡ entry_for held line.lid g)
      ⊎ ((tried_entry cells q held goal line i g ≡ entry_for goal line.lid g) × (may_change cells q held goal line i g ≡ true))
  tried_choice i g =
      elim (may_change cells q held goal line i g) as (λ t. (cond t (entry_for goal line.lid g) (entry_for held line.lid g) ≡ entry_for held line.lid g)
      ⊎ ((cond t (entry_for goal line.lid g) (entry_for held line.lid g) ≡ entry_for goal line.lid g) × (t ≡ true))) [
        | true ↦ inr (refl, refl)
        | false ↦ inl refl
      ]

  pub may_turn : (i g : ℕ) → may_change cells q held goal line i g ≡ true → turns_well cells q held goal line.lid i (step_at cells goal line.lid g) ≡ true
  may_turn i g h =
      (and_parts (turns_well cells q held goal line.lid i (step_at cells goal line.lid g))
      (not (delivers cells held line g) || leads_in cells held line (step_at cells goal line.lid g)) h).0

  pub may_lead : (i g : ℕ) → may_change cells q held goal line i g ≡ true → delivers cells held line g ≡ true
      → leads_in cells held line (step_at cells goal line.lid g) ≡ true
  may_lead i g h d =
      known (delivers cells held line g) (leads_in cells held line (step_at cells goal line.lid g))
      (and_parts (turns_well cells q held goal line.lid i (step_at cells goal line.lid g))
      (not (delivers cells held line g) || leads_in cells held line (step_at cells goal line.lid g)) h).1 d

  pub chosen : (b : Bool) (i g entry : ℕ) → entry ≡ cond b (tried_entry cells q held goal line i g) 255 → (entry ≡ entry_for held line.lid g)
      ⊎ ((entry ≡ 255) ⊎ ((entry ≡ entry_for goal line.lid g) × (turns_well cells q held goal line.lid i (step_at cells goal line.lid g) ≡ true)))
  chosen true i g entry h =
      elim (tried_choice i g) [
        | inl e ↦ inl (h ∙ e)
        | inr c ↦ inr (inr (h ∙ c.0, may_turn i g c.1))
      ]
  chosen false i g entry h = inr (inl h)

pub rule_is_choice : RuleIsChoice
rule_is_choice cells q held goal next line is i g there =
    chosen cells q held goal line (comes_to line.port (tried cells q held goal line) (To i)) i g (entry_for next line.lid g) (is.entries i g there)

pub tried_is_choice : (cells : Cells) (q : ℕ → ℕ) (held goal next : HeldPlan) (line : HeldLid) → IsTriedByOrder cells q held goal line next
    → IsChoice cells q held goal line.lid next
tried_is_choice cells q held goal next line is i g there =
    elim (is.entries i g there) [
      | inl e ↦ chosen cells q held goal line true i g (entry_for next line.lid g) e
      | inr c ↦ inr (inl c.1)
    ]

pub rule_is_tried : RuleIsTried
rule_is_tried cells q held goal next line is = record {
  owners = is.owners;
  entries = λ i g there. by (comes_to line.port (tried cells q held goal line) (To i)) i g (entry_for next line.lid g) (is.entries i g there);
}
  where
    by : (b : Bool) (i g entry : ℕ) → entry ≡ cond b (tried_entry cells q held goal line i g) 255
        → (entry ≡ tried_entry cells q held goal line i g) ⊎ ((b ≡ false) × (entry ≡ 255))
    by true i g entry h = inl h
    by false i g entry h = inr (refl, h)

-- what arrives -------------------------------------------------------------------------

module _ (cells : Cells) (q : ℕ → ℕ) (held goal next : HeldPlan) (line : HeldLid) (is : IsLineStep cells q held goal line next) where
  abbrev pub lid : ℕ
  lid = line.lid

  abbrev pub port : EndPort
  port = line.port

  abbrev pub count : ℕ
  count = length (switches cells)

  abbrev pub H : List NextHop
  H = next_hops_of cells held line.lid

  -- the held tables deliver from a switch
  abbrev pub D : ℕ → Type 0
  D i = (i < length (switches cells)) × Comes line.port (next_hops_of cells held line.lid) (To i)

  abbrev pub M : ℕ → ℕ → Type 0
  M i j = Goes cells q held goal line.lid is.held_right is.goal_right i j

  abbrev pub N : ℕ → ℕ → ℕ
  N i j = channel_number (length (switches cells)) (q i) (q j)

  ends_at : (i : ℕ) → M i i → i < count
  ends_at i (inl l) = leads_within cells held lid i i l
  ends_at i (inr l) = leads_within cells goal lid i i l.0

  from_within : (i j : ℕ) → M i j → i < count
  from_within i j (inl l) = leads_within cells held lid i j l
  from_within i j (inr l) = leads_within cells goal lid i j l.0

  pub rise : (i j k : ℕ) → M i j → M j k → N i j < N j k
  rise i j k a b =
      numbers_rise count (q i) (q j) (q k) (is.order j (from_within j k b))
      (not_true (is_bad q i j k) (goes_well cells q held goal lid is.held_right is.goal_right i j k a b))

  small_number : (n a b : ℕ) → b < n → channel_number n a b < 2 * n + 1
  small_number n a b h = grind arith

  pub small : (i j : ℕ) → M i j → D j → N i j < 2 * count + 1
  small i j m d = small_number count (q i) (q j) (is.order j d.0)

  abbrev Brought : NextHop → ℕ → Type 0
  Brought s i = Brings port D M s i

  pub steps_at : (tables : HeldPlan) (i : ℕ) → i < count → at (next_hops_of cells tables lid) i ≡ step_at cells tables lid (switch_at cells i)
  steps_at tables i less = at_mapped (step_at cells tables lid) (switches cells) i (To i) less

  -- from the step on, a walk by the held tables
  come_next : (i : ℕ) → i < count → Comes port H (step_at cells held lid (switch_at cells i)) → D i
  come_next i less c = (less, (suc c.0, ap (after c.0 H) (steps_at held i less) ∙ c.1))

  pub held_brings : (i : ℕ) → D i → Brought (step_at cells held lid (switch_at cells i)) i
  held_brings i d = by (step_at cells held lid (switch_at cells i)) refl d.1.0 d.1.1
    where
      onwards : (s : NextHop) → step_at cells held lid (switch_at cells i) ≡ s → (n : ℕ) → after n H s ≡ Ends (Taken port) → Brought s i
      onwards (Ends e) is_s n h = inl (sym (after_ended n H e) ∙ h)
      onwards (To j) is_s n h =
          inr (j, refl, (to_within cells held lid (switch_at cells i) j is_s, (n, h)), inl (leads_from cells held lid i j d.0 is_s))

      by : (s : NextHop) → step_at cells held lid (switch_at cells i) ≡ s → (n : ℕ) → after n H (To i) ≡ Ends (Taken port) → Brought s i
      by s is_s zero h = absurd (cc)
      by s is_s (suc n) h = onwards s is_s n (sym (ap (after n H) (steps_at held i d.0 ∙ is_s)) ∙ h)

  -- if the goal's entry is taken
  goal_brings : (i : ℕ) → D i → may_change cells q held goal line i (switch_at cells i) ≡ true → Brought (step_at cells goal lid (switch_at cells i)) i
  goal_brings i d may =
      by (step_at cells goal lid (switch_at cells i)) refl (may_turn cells q held goal line i (switch_at cells i) may)
      (may_lead cells q held goal line i (switch_at cells i) may delivered)
    where
      from_here : (n : ℕ) → after n H (To i) ≡ Ends (Taken port) → Comes port H (step_at cells held lid (switch_at cells i))
      from_here zero h = absurd (cc)
      from_here (suc n) h = (n, sym (ap (after n H) (steps_at held i d.0)) ∙ h)

      delivered : delivers cells held line (switch_at cells i) ≡ true
      delivered = comes_made port H (step_at cells held lid (switch_at cells i)) (from_here d.1.0 d.1.1)

      by : (s : NextHop) → step_at cells goal lid (switch_at cells i) ≡ s → turns_well cells q held goal lid i s ≡ true → leads_in cells held line s ≡ true
          → Brought s i
      by (Ends e) is_s well leads = inl (found_end (Ends e) (Taken port) (at_is port (Some e) leads))
      by (To j) is_s well leads =
          let less = to_within cells goal lid (switch_at cells i) j is_s in
          inr (
            j,
            refl,
            come_next j less (comes_true port H (step_at cells held lid (switch_at cells j)) leads),
            inr (leads_from cells goal lid i j d.0 is_s, well),
          )

  -- another's entry does the same
  same_brings : (a b : HeldPlan) (i g : ℕ) → owners_of a lid ≡ owners_of b lid → entry_for a lid g ≡ entry_for b lid g → Brought (step_at cells a lid g) i
      → Brought (step_at cells b lid g) i
  same_brings a b i g owners e (inl t) = inl (taken_same cells a b lid g port owners e t)
  same_brings a b i g owners e (inr t) = inr (t.0, to_same cells a b lid g t.0 e t.1, t.2, t.3)

  abbrev pub U : List NextHop
  U = tried cells q held goal line

  pub tried_is : (i : ℕ) → i < count → at U i ≡ tried_at cells q held goal line i
  tried_is i less = get_or-map-range_with_len (tried_at cells q held goal line) 0 count i i (To i) less (omega arith)

  tried_brings : (i : ℕ) → D i → Brought (at U i) i
  tried_brings i d =
      subst (λ (s : NextHop). Brought s i) (sym (tried_is i d.0))
      ((elim (may_change cells q held goal line i (switch_at cells i)) as (λ t. may_change cells q held goal line i (switch_at cells i) ≡ t
      → Brought (cond t (step_at cells goal lid (switch_at cells i)) (step_at cells held lid (switch_at cells i))) i) [
        | true ↦ λ may. goal_brings i d may
        | false ↦ λ may. held_brings i d
      ]) refl)

  pub tried_delivers : (i : ℕ) → D i → comes_to port U (To i) ≡ true
  tried_delivers i d =
      let c = arrives port D M N (2 * count + 1) rise small i (λ k. U) (λ k x. tried_brings x) d in
      comes_made port U (To i) (c.0, sym (by_one c.0 U (To i)) ∙ c.1)

  -- so the next entry is the one that was tried
  next_entry_is : (i : ℕ) → D i → entry_for next lid (switch_at cells i) ≡ tried_entry cells q held goal line i (switch_at cells i)
  next_entry_is i d =
      let does = tried_delivers i d in
      elim (is.is_next.entries i (switch_at cells i) (placed (switches cells) i d.0)) [
        | inl e ↦ e
        | inr c ↦ let fails = c.0 in absurd (cc)
      ]

  pub next_brings : (i : ℕ) → D i → Brought (step_at cells next lid (switch_at cells i)) i
  next_brings i d =
      (elim (may_change cells q held goal line i (switch_at cells i)) as (λ t. may_change cells q held goal line i (switch_at cells i) ≡ t
      → entry_for next lid (switch_at cells i) ≡ cond t (entry_for goal lid (switch_at cells i)) (entry_for held lid (switch_at cells i))
      → Brought (step_at cells next lid (switch_at cells i)) i) [
        | true ↦ λ may e. same_brings goal next i (switch_at cells i) (is.owners ∙ sym is.is_next.owners) (sym e) (goal_brings i d may)
        | false ↦ λ may e. same_brings held next i (switch_at cells i) (sym is.is_next.owners) (sym e) (held_brings i d)
      ]) refl (next_entry_is i d)

  no_loss : (i : ℕ) (s : NextHop) (x : ℕ) (cause : Cause) → Brought s i → s ≡ Ends (Lost x cause) → ⊥
  no_loss i s x cause (inl t) h = let over : ◌≡◌ {A = NextHop} (Ends (Taken port)) (Ends (Lost x cause)) = sym t ∙ h in cc
  no_loss i s x cause (inr t) h = let over : ◌≡◌ {A = NextHop} (To t.0) (Ends (Lost x cause)) = sym t.1 ∙ h in cc

  module _ (mixed : ℕ → HeldPlan) (are : (k : ℕ) → IsLoose cells held next line.lid (mixed k)) where
    abbrev X : ℕ → List NextHop
    X k = next_hops_of cells (mixed k) line.lid

    loose_brings : (k i : ℕ) → D i → Brought (at (X k) i) i
    loose_brings k i d =
        let g = switch_at cells i in
        let m = are k in
        subst (λ (s : NextHop). Brought s i) (sym (steps_at (mixed k) i d.0))
        (elim (m.entries g (member (switches cells) i d.0)) [
          | inl e ↦ same_brings held (mixed k) i g (sym m.owners) (sym e) (held_brings i d)
          | inr (inl e) ↦ same_brings next (mixed k) i g (is.is_next.owners ∙ sym m.owners) (sym e) (next_brings i d)
          | inr (inr l) ↦ absurd (no_loss i (step_at cells held lid g) l.0 l.1 (held_brings i d) l.2)
        ])

    pub loose_arrives : (s : NextHop) → Comes port H s → ComesBy port X s
    loose_arrives (Ends e) c = (0, sym (after_ended c.0 H e) ∙ c.1)
    loose_arrives (To i) c =
        let less = in_range H c.0 i (Taken port) c.1 in
        arrives port D M N (2 * count + 1) rise small i X loose_brings (omega (arith, less, length-map (switches cells) (step_at cells held lid)), c)

pub none_is_lost_by_order : NoneIsLostByOrder
none_is_lost_by_order cells q held goal next line is mixed are source h =
    let first = first_hop (owners_of held line.lid) (sender_of cells source) in
    let steps : ℕ → List NextHop = λ k. next_hops_of cells (mixed k) line.lid in
    let it = loose_arrives cells q held goal next line is mixed are first h in
    let now = are 0 in
    (it.0, ap (λ os. after_by it.0 steps (first_hop os (sender_of cells source))) now.owners ∙ it.1)
