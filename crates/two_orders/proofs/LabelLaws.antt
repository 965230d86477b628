-- Laws of labels.
use Rattle.std.proofs.Common.{◌≡◌, ◌⊎◌, ◌∙◌, ◌<◌, ◌&&◌, ◌||◌, ℕ, zero, suc, Bool, true, false, cond, not, List, [], ◌∷◌, length, Option, None, Some}
use Rattle.std.proofs.Common.{refl, sym, ap, subst, arith, inl, inr}
use Rattle.std.specs.Prelude.{Contains, slice_get, slice_set}
use Rattle.std.specs.List.{list_any}
use Rattle.std.proofs.lemmas.Bool.{and_parts, cases_eq, ltb-true, le-ltb}
use Rattle.std.proofs.lemmas.List.{get_or-set_other, get_or-set_same}
use Rattle.std.proofs.lemmas.Option.{same_Some}
use Rattle.port_graph.proofs.WalkLemmas.{list_any_found}
use Rattle.port_graph.specs.declared.edge.Edge.{Edge}
use Rattle.port_graph.specs.Heads.{edges_at}
use Rattle.two_orders.specs.declared.labels.Sides.{Sides}
use Rattle.two_orders.specs.Growth.{number_at}
use Rattle.two_orders.specs.LabelLaws.{LabelledGoOn, LabelsTurnWell, turns_up}
use Rattle.two_orders.specs.Labels.{all_labelled, both_down, both_up, first_goes_up, gets_label, goes_on, is_open, is_side, label_at, labelled}
use Rattle.two_orders.specs.Labels.{labels_from, leads, leads_on, may_follow, second_goes_up}
use Rattle.two_orders.specs.Trees.{is_earlier}
use Rattle.two_orders.specs.TwoOrders.{TwoOrders}

-- two positions are not each earlier than the other
not_both : (positions : List ℕ) (i j : ℕ) → is_earlier positions i j ≡ true → is_earlier positions j i ≡ false
not_both positions i j h =
    let less = ltb-true (number_at positions i) (number_at positions j) h in
    le-ltb (number_at positions j) (number_at positions i) (omega (arith, less))

and_false : (a : Bool) → (a && false) ≡ false
and_false true = refl
and_false false = refl

-- by an order, one side after the other
side_turns : (positions : List ℕ) (before after : Bool) (i j k : ℕ) → is_side positions before i j ≡ true → is_side positions after j k ≡ true
    → (not after || before) ≡ true → turns_up positions i j k ≡ false
side_turns positions true after i j k h g m = ap (λ b. b && is_earlier positions k j) (not_both positions j i h)
side_turns positions false false i j k h g m =
    ap (λ b. is_earlier positions i j && b) (not_both positions j k g) ∙ and_false (is_earlier positions i j)
side_turns positions false true i j k h g m = absurd (cc)

pub labels_turn_well : LabelsTurnWell
labels_turn_well orders labels i j k one other =
    let s = one.label in
    let t = other.label in
    let own = and_parts (leads orders s i j) (goes_on s (label_at labels j)) one.leads in
    let next = and_parts (leads orders t j k) (goes_on t (label_at labels k)) other.leads in
    let here = and_parts (is_side orders.first s.first_up i j) (is_side orders.second s.second_up i j) own.0 in
    let there = and_parts (is_side orders.first t.first_up j k) (is_side orders.second t.second_up j k) next.0 in
    let follows : may_follow s t ≡ true = sym (ap (goes_on s) other.has) ∙ own.1 in
    let both = and_parts (not t.first_up || s.first_up) (not t.second_up || s.second_up) follows in (
      side_turns orders.first s.first_up t.first_up i j k here.0 there.0 both.0,
      side_turns orders.second s.second_up t.second_up i j k here.1 there.1 both.1,
    )

-- labels that were given stay
abbrev pub Stay : List (Option Sides) → List (Option Sides) → Type 0
Stay old new = (i : ℕ) (label : Sides) → label_at old i ≡ Some label → label_at new i ≡ Some label

open_none : (labels : List (Option Sides)) (v : ℕ) → is_open (slice_get labels v) ≡ true → (label_at labels v ≡ None) × (v < length labels)
open_none [] v h = absurd (cc)
open_none (None ∷ labels) zero h = (refl, omega arith)
open_none (Some label ∷ labels) zero h = absurd (cc)
open_none (label ∷ labels) (suc v) h = let rest = open_none labels v h in (rest.0, omega (arith, rest.1))

module _ (edges : List (List Edge)) (orders : TwoOrders) (sides : Sides) where
  -- an edge that leads on does so by more labels
  more_leads : (old new : List (Option Sides)) (s : Sides) (i j : ℕ) → Stay old new → leads_on orders old s i j ≡ true → leads_on orders new s i j ≡ true
  more_leads old new s i j stay h =
      let parts = and_parts (leads orders s i j) (goes_on s (label_at old j)) h in
      elim (label_at old j) as (λ o. label_at old j ≡ o → goes_on s o ≡ true → leads_on orders new s i j ≡ true) [
        | None ↦ λ e g. absurd (cc)
        | Some label ↦ λ e g. (λ k. parts.0 k && goes_on s (stay j label e k)) ∙ g
      ] refl parts.1

  -- one vertex
  pub one_stays : (labels : List (Option Sides)) (v : ℕ) → Stay labels (labelled edges orders sides labels v)
  one_stays labels v i label h =
      elim (gets_label edges orders sides labels v) as (λ b. gets_label edges orders sides labels v ≡ b
      → label_at (cond b (slice_set labels v (Some sides)) labels) i ≡ Some label) [
        | true ↦ λ e.
            let parts = and_parts (is_open (slice_get labels v)) (list_any (λ x. leads_on orders labels sides v x.to) (edges_at edges v)) e in
            let none = (open_none labels v parts.0).0 in
            let differs : i ≡ v → ⊥ = λ same. let at = ap (label_at labels) same in absurd (cc) in
            get_or-set_other labels v i (Some sides) None differs ∙ h
        | false ↦ λ e. h
      ] refl

  pub one_new : (labels : List (Option Sides)) (v i : ℕ) (label : Sides) → label_at (labelled edges orders sides labels v) i ≡ Some label
      → (label_at labels i ≡ Some label) ⊎ ((label ≡ sides) × (list_any (λ e. leads_on orders labels sides i e.to) (edges_at edges i) ≡ true))
  one_new labels v i label h =
      elim (gets_label edges orders sides labels v) as (λ b. gets_label edges orders sides labels v ≡ b
      → label_at (cond b (slice_set labels v (Some sides)) labels) i ≡ Some label
      → (label_at labels i ≡ Some label) ⊎ ((label ≡ sides) × (list_any (λ e. leads_on orders labels sides i e.to) (edges_at edges i) ≡ true))) [
        | true ↦ λ e k. new e k
        | false ↦ λ e k. inl k
      ] refl h
    where
      same_label : (a b : Sides) → ◌≡◌ {A = Option Sides} (Some a) (Some b) → b ≡ a
      same_label a b e = sym (same_Some a b e)

      new : gets_label edges orders sides labels v ≡ true → label_at (slice_set labels v (Some sides)) i ≡ Some label
          → (label_at labels i ≡ Some label) ⊎ ((label ≡ sides) × (list_any (λ e. leads_on orders labels sides i e.to) (edges_at edges i) ≡ true))
      new e k =
          let parts = and_parts (is_open (slice_get labels v)) (list_any (λ x. leads_on orders labels sides v x.to) (edges_at edges v)) e in
          let within = (open_none labels v parts.0).1 in
          elim (cases_eq i v) [
            | inl same ↦
                let at : label_at (slice_set labels v (Some sides)) i ≡ Some sides =
                ap (label_at (slice_set labels v (Some sides))) same ∙ get_or-set_same labels v (Some sides) None within in
                inr (
                  same_label sides label (sym at ∙ k),
                  subst (λ (x : ℕ). list_any (λ e. leads_on orders labels sides x e.to) (edges_at edges x) ≡ true) (sym same) parts.1,
                )
            | inr differs ↦ inl (sym (get_or-set_other labels v i (Some sides) None differs) ∙ k)
          ]

  -- all of a list
  pub all_stay : (labels : List (Option Sides)) (vertices : List ℕ) → Stay labels (all_labelled edges orders sides labels vertices)
  all_stay labels [] i label h = h
  all_stay labels (v ∷ vertices) i label h =
      all_stay (labelled edges orders sides labels v) vertices i label (one_stays labels v i label h)

  all_new : (labels : List (Option Sides)) (vertices : List ℕ) (i : ℕ) (label : Sides)
      → label_at (all_labelled edges orders sides labels vertices) i ≡ Some label
      → (label_at labels i ≡ Some label)
      ⊎ ((e : Edge) × Contains (edges_at edges i) e × (leads_on orders (all_labelled edges orders sides labels vertices) label i e.to ≡ true))
  all_new labels [] i label h = inl h
  all_new labels (v ∷ vertices) i label h =
      let next = labelled edges orders sides labels v in
      let last = all_labelled edges orders sides next vertices in
      elim (all_new next vertices i label h) [
        | inl now ↦ (elim (one_new labels v i label now) [
          | inl was ↦ inl was
          | inr new ↦
              let x = list_any_found (λ (e : Edge). leads_on orders labels sides i e.to) (edges_at edges i) new.1 in
              let stay : Stay labels last = λ j l k. all_stay next vertices j l (one_stays labels v j l k) in
              let led = more_leads labels last sides i x.0.to stay x.2 in
              inr (x.0, x.1, subst (λ (s : Sides). leads_on orders last s i x.0.to ≡ true) (sym new.0) led)
        ])
        | inr found ↦ inr found
      ]

module _ (edges : List (List Edge)) (orders : TwoOrders) (firsts : List (Option Sides)) where
  abbrev pub one : List (Option Sides)
  one = all_labelled edges orders both_down firsts orders.falling

  abbrev pub two : List (Option Sides)
  two = all_labelled edges orders first_goes_up one orders.falling

  abbrev pub three : List (Option Sides)
  three = all_labelled edges orders second_goes_up two orders.rising

  abbrev pub four : List (Option Sides)
  four = all_labelled edges orders both_up three orders.rising

  pub four_is : labels_from edges orders firsts ≡ four
  unfolding labels_from
  four_is = refl

  -- labels at first stay
  pub first_labels_stay : Stay firsts four
  first_labels_stay i label h =
      all_stay edges orders both_up three orders.rising i label
      (all_stay edges orders second_goes_up two orders.rising i label
      (all_stay edges orders first_goes_up one orders.falling i label (all_stay edges orders both_down firsts orders.falling i label h)))

  abbrev Leads : List (Option Sides) → ℕ → Sides → Type 0
  Leads labels i label = (e : Edge) × Contains (edges_at edges i) e × (leads_on orders labels label i e.to ≡ true)

  later : (sides : Sides) (labels : List (Option Sides)) (vertices : List ℕ) (i : ℕ) (label : Sides) → Leads labels i label
      → Leads (all_labelled edges orders sides labels vertices) i label
  later sides labels vertices i label x =
      let last = all_labelled edges orders sides labels vertices in
      (x.0, x.1, more_leads edges orders sides labels last label i x.0.to (all_stay edges orders sides labels vertices) x.2)

  found : (i : ℕ) (label : Sides) → label_at four i ≡ Some label → label_at firsts i ≡ None → Leads four i label
  found i label h none =
      elim (all_new edges orders both_up three orders.rising i label h) [
        | inr x ↦ x
        | inl in_three ↦ later both_up three orders.rising i label (elim (all_new edges orders second_goes_up two orders.rising i label in_three) [
          | inr x ↦ x
          | inl in_two ↦ later second_goes_up two orders.rising i label (elim (all_new edges orders first_goes_up one orders.falling i label in_two) [
            | inr x ↦ x
            | inl in_one ↦ later first_goes_up one orders.falling i label (elim (all_new edges orders both_down firsts orders.falling i label in_one) [
              | inr x ↦ x
              | inl at_first ↦ absurd (cc)
            ])
          ])
        ])
      ]

pub labelled_go_on : LabelledGoOn
labelled_go_on edges orders firsts i label h none =
    let is = four_is edges orders firsts in
    let x = found edges orders firsts i label (sym (ap (λ ls. label_at ls i) is) ∙ h) none in (
      x.0,
      x.1,
      record {
        label = label;
        has = h;
        leads = ap (λ ls. leads_on orders ls label i x.0.to) is ∙ x.2;
      },
    )
