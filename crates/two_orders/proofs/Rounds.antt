-- The result of each round of labels: a vertex from which an edge leads on has a label.
use Rattle.std.proofs.Common.{◌≡◌, ◌⊎◌, ◌∙◌, ◌<◌, ◌≤◌, ◌&&◌, ◌||◌, ℕ, zero, suc, Bool, true, false, cond, not, List, [], ◌∷◌, length, Option, None, Some}
use Rattle.std.proofs.Common.{refl, sym, ap, subst, arith, inl, inr}
use Rattle.std.specs.Prelude.{Contains, slice_get, slice_index_or, slice_set}
use Rattle.std.specs.List.{list_any}
use Rattle.std.proofs.lemmas.Bool.{and_from}
use Rattle.std.proofs.lemmas.List.{get_or-set_other, get_or-set_same, length-set}
use Rattle.std.proofs.lemmas.Option.{slice_get-get_or}
use Rattle.port_graph.proofs.WalkLemmas.{list_any_at}
use Rattle.port_graph.specs.declared.edge.Edge.{Edge}
use Rattle.port_graph.specs.Heads.{edges_at}
use Rattle.two_orders.specs.declared.labels.Sides.{Sides}
use Rattle.two_orders.specs.Labels.{all_labelled, both_down, both_up, first_goes_up, gets_label, goes_on, is_open, label_at, labelled, leads, leads_on}
use Rattle.two_orders.specs.Labels.{may_follow, second_goes_up}
use Rattle.two_orders.specs.TwoOrders.{TwoOrders}
use Rattle.two_orders.proofs.LabelLaws.{all_stay, four, one, one_new, one_stays, three, two}

-- w stands nowhere in the list
abbrev pub Absent : List ℕ → ℕ → Type 0
Absent xs w = (k : ℕ) → k < length xs → slice_index_or xs k 0 ≡ w → ⊥

-- v has a turn, and w none then or later
abbrev pub Turn : List ℕ → ℕ → ℕ → Type 0
Turn [] v w = ⊥
Turn (x ∷ xs) v w = ((x ≡ v) × Absent (x ∷ xs) w) ⊎ Turn xs v w

pub turn_at : (xs : List ℕ) (j v w : ℕ) → slice_index_or xs j 0 ≡ v → j < length xs
    → ((k : ℕ) → j ≤ k → k < length xs → slice_index_or xs k 0 ≡ w → ⊥) → Turn xs v w
turn_at [] j v w e less none = absurd (omega arith)
turn_at (x ∷ xs) zero v w e less none = inl (e, λ k within is. none k (omega arith) within is)
turn_at (x ∷ xs) (suc j) v w e less none =
    inr (turn_at xs j v w e (omega (arith, less)) (λ k more within is. none (suc k) (omega (arith, more)) (omega (arith, within)) is))

module _ (edges : List (List Edge)) (orders : TwoOrders) (sides : Sides) where
  pub one_long : (labels : List (Option Sides)) (v : ℕ) → length (labelled edges orders sides labels v) ≡ length labels
  one_long labels v =
      elim (gets_label edges orders sides labels v) as (λ b. length (cond b (slice_set labels v (Some sides)) labels) ≡ length labels) [
        | true ↦ length-set labels v (Some sides)
        | false ↦ refl
      ]

  pub all_long : (labels : List (Option Sides)) (xs : List ℕ) → length (all_labelled edges orders sides labels xs) ≡ length labels
  all_long labels [] = refl
  all_long labels (x ∷ xs) = all_long (labelled edges orders sides labels x) xs ∙ one_long labels x

  one_same : (labels : List (Option Sides)) (v w : ℕ) → (v ≡ w → ⊥) → label_at (labelled edges orders sides labels v) w ≡ label_at labels w
  one_same labels v w differs =
      elim (gets_label edges orders sides labels v) as (λ b. label_at (cond b (slice_set labels v (Some sides)) labels) w ≡ label_at labels w) [
        | true ↦ get_or-set_other labels v w (Some sides) None (λ same. differs (sym same))
        | false ↦ refl
      ]

  unchanged : (labels : List (Option Sides)) (xs : List ℕ) (w : ℕ) → Absent xs w
      → label_at (all_labelled edges orders sides labels xs) w ≡ label_at labels w
  unchanged labels [] w none = refl
  unchanged labels (x ∷ xs) w none =
      unchanged (labelled edges orders sides labels x) xs w (λ k less is. none (suc k) (omega (arith, less)) is)
      ∙ one_same labels x w (λ same. none 0 (omega arith) same)

  -- a label is one from before, or that of the round
  pub given : (labels : List (Option Sides)) (xs : List ℕ) (w : ℕ) (s : Sides) → label_at (all_labelled edges orders sides labels xs) w ≡ Some s
      → (label_at labels w ≡ Some s) ⊎ (s ≡ sides)
  given labels [] w s h = inl h
  given labels (x ∷ xs) w s h =
      elim (given (labelled edges orders sides labels x) xs w s h) [
        | inl now ↦ (elim (one_new edges orders sides labels x w s now) [
          | inl was ↦ inl was
          | inr new ↦ inr new.0
        ])
        | inr e ↦ inr e
      ]

  here : (labels : List (Option Sides)) (xs : List ℕ) (v w : ℕ) (x : Edge) (s : Sides) → v < length labels → Absent (v ∷ xs) w
      → Contains (edges_at edges v) x → x.to ≡ w → leads orders sides v w ≡ true
      → label_at (all_labelled edges orders sides labels (v ∷ xs)) w ≡ Some s → may_follow sides s ≡ true
      → (t : Sides) × (label_at (all_labelled edges orders sides labels (v ∷ xs)) v ≡ Some t)
  here labels xs v w x s below none there to led final follows =
      let next = labelled edges orders sides labels v in
      let was : label_at labels w ≡ Some s = sym (unchanged labels (v ∷ xs) w none) ∙ final in
      let on : leads_on orders labels sides v w ≡ true =
      and_from (leads orders sides v w) (goes_on sides (label_at labels w)) led (ap (goes_on sides) was ∙ follows) in
      let some : list_any (λ (e : Edge). leads_on orders labels sides v e.to) (edges_at edges v) ≡ true =
      list_any_at (λ (e : Edge). leads_on orders labels sides v e.to) (edges_at edges v) x there (ap (leads_on orders labels sides v) to ∙ on) in
      elim (label_at labels v) as (λ o. label_at labels v ≡ o → (t : Sides) × (label_at (all_labelled edges orders sides next xs) v ≡ Some t)) [
        | Some t ↦ λ e. (t, all_stay edges orders sides next xs v t (one_stays edges orders sides labels v v t e))
        | None ↦ λ e.
            let free : is_open (slice_get labels v) ≡ true =
            ap is_open (slice_get-get_or labels v None below ∙ ap (λ (o : Option Sides). Some o) e) in
            let gets : gets_label edges orders sides labels v ≡ true =
            and_from (is_open (slice_get labels v)) (list_any (λ (e : Edge). leads_on orders labels sides v e.to) (edges_at edges v)) free some in
            let now : label_at next v ≡ Some sides =
            ap (λ b. label_at (cond b (slice_set labels v (Some sides)) labels) v) gets ∙ get_or-set_same labels v (Some sides) None below in
            (sides, all_stay edges orders sides next xs v sides now)
      ] refl

  -- so a vertex from which an edge leads on at its turn has a label
  pub closed : (labels : List (Option Sides)) (xs : List ℕ) (v w : ℕ) (x : Edge) (s : Sides) → v < length labels → Turn xs v w
      → Contains (edges_at edges v) x → x.to ≡ w → leads orders sides v w ≡ true
      → label_at (all_labelled edges orders sides labels xs) w ≡ Some s → may_follow sides s ≡ true
      → (t : Sides) × (label_at (all_labelled edges orders sides labels xs) v ≡ Some t)
  closed labels [] v w x s below turn there to led final follows = absurd turn
  closed labels (y ∷ xs) v w x s below (inl (same, none)) there to led final follows =
      let back = sym same in
      let gone : Absent (v ∷ xs) w = subst (λ (z : ℕ). Absent (z ∷ xs) w) same none in
      let ends = subst (λ (z : ℕ). label_at (all_labelled edges orders sides labels (z ∷ xs)) w ≡ Some s) same final in
      subst (λ (z : ℕ). (t : Sides) × (label_at (all_labelled edges orders sides labels (z ∷ xs)) v ≡ Some t)) back
      (here labels xs v w x s below gone there to led ends follows)
  closed labels (y ∷ xs) v w x s below (inr rest) there to led final follows =
      closed (labelled edges orders sides labels y) xs v w x s (omega (arith, below, one_long labels y)) rest there to led final follows

-- labels after all four rounds, if only targets have one at first
module _ (edges : List (List Edge)) (orders : TwoOrders) (firsts : List (Option Sides))
    (targets : (i : ℕ) (s : Sides) → label_at firsts i ≡ Some s → s ≡ both_down) where
  abbrev pub label_of : ℕ → Option Sides
  label_of v = label_at (four edges orders firsts) v

  -- down by the second order
  abbrev pub Falls : ℕ → Type 0
  Falls v = (label_of v ≡ Some both_down) ⊎ (label_of v ≡ Some first_goes_up)

  -- not up by both
  abbrev pub Early : ℕ → Type 0
  Early v = Falls v ⊎ (label_of v ≡ Some second_goes_up)

  from_three : (v : ℕ) (s : Sides) → label_at (three edges orders firsts) v ≡ Some s → label_of v ≡ Some s
  from_three v s h = all_stay edges orders both_up (three edges orders firsts) orders.rising v s h

  from_two : (v : ℕ) (s : Sides) → label_at (two edges orders firsts) v ≡ Some s → label_of v ≡ Some s
  from_two v s h = from_three v s (all_stay edges orders second_goes_up (two edges orders firsts) orders.rising v s h)

  from_one : (v : ℕ) (s : Sides) → label_at (one edges orders firsts) v ≡ Some s → label_of v ≡ Some s
  from_one v s h = from_two v s (all_stay edges orders first_goes_up (one edges orders firsts) orders.falling v s h)

  to_three : (v : ℕ) (s : Sides) → (s ≡ both_up → ⊥) → label_of v ≡ Some s → label_at (three edges orders firsts) v ≡ Some s
  to_three v s differs h =
      elim (given edges orders both_up (three edges orders firsts) orders.rising v s h) [ inl was ↦ was | inr same ↦ absurd (differs same) ]

  to_two : (v : ℕ) (s : Sides) → (s ≡ both_up → ⊥) → (s ≡ second_goes_up → ⊥) → label_of v ≡ Some s → label_at (two edges orders firsts) v ≡ Some s
  to_two v s differs other h =
      elim (given edges orders second_goes_up (two edges orders firsts) orders.rising v s (to_three v s differs h)) [
        | inl was ↦ was
        | inr same ↦ absurd (other same)
      ]

  to_one : (v : ℕ) → label_of v ≡ Some both_down → label_at (one edges orders firsts) v ≡ Some both_down
  to_one v h =
      elim (given edges orders first_goes_up (one edges orders firsts) orders.falling v both_down
      (to_two v both_down (λ e. let up : false ≡ true = ap (λ (s : Sides). s.first_up) e in absurd (cc))
      (λ e. let up : false ≡ true = ap (λ (s : Sides). s.second_up) e in absurd (cc)) h)) [
        | inl was ↦ was
        | inr same ↦ (let up : false ≡ true = ap (λ (s : Sides). s.first_up) same in absurd (cc))
      ]

  in_one : (v : ℕ) (s : Sides) → label_at (one edges orders firsts) v ≡ Some s → s ≡ both_down
  in_one v s h = elim (given edges orders both_down firsts orders.falling v s h) [ inl was ↦ targets v s was | inr same ↦ same ]

  one_as_long : length (one edges orders firsts) ≡ length firsts
  one_as_long = all_long edges orders both_down firsts orders.falling

  two_as_long : length (two edges orders firsts) ≡ length firsts
  two_as_long = all_long edges orders first_goes_up (one edges orders firsts) orders.falling ∙ one_as_long

  three_as_long : length (three edges orders firsts) ≡ length firsts
  three_as_long = all_long edges orders second_goes_up (two edges orders firsts) orders.rising ∙ two_as_long

  label_is : (v : ℕ) (s t : Sides) → s ≡ t → label_of v ≡ Some s → label_of v ≡ Some t
  label_is v s t same h = h ∙ ap (λ (x : Sides). Some x) same

  pub first_round : (v w : ℕ) (x : Edge) → v < length firsts → Turn orders.falling v w → Contains (edges_at edges v) x → x.to ≡ w
      → leads orders both_down v w ≡ true → label_of w ≡ Some both_down → label_of v ≡ Some both_down
  first_round v w x below turn there to led h =
      let got = closed edges orders both_down firsts orders.falling v w x both_down below turn there to led (to_one w h) refl in
      label_is v got.0 both_down (in_one v got.0 got.1) (from_one v got.0 got.1)

  falls_in_two : (w : ℕ) → Falls w → (s : Sides) × (label_at (two edges orders firsts) w ≡ Some s) × (may_follow first_goes_up s ≡ true)
  falls_in_two w (inl h) = (
    both_down,
    to_two w both_down (λ e. let up : false ≡ true = ap (λ (s : Sides). s.first_up) e in absurd (cc))
        (λ e. let up : false ≡ true = ap (λ (s : Sides). s.second_up) e in absurd (cc)) h,
    refl,
  )
  falls_in_two w (inr h) = (
    first_goes_up,
    to_two w first_goes_up (λ e. let up : false ≡ true = ap (λ (s : Sides). s.second_up) e in absurd (cc))
        (λ e. let up : true ≡ false = ap (λ (s : Sides). s.first_up) e in absurd (cc)) h,
    refl,
  )

  in_two : (v : ℕ) (s : Sides) → label_at (two edges orders firsts) v ≡ Some s → Falls v
  in_two v s h =
      elim (given edges orders first_goes_up (one edges orders firsts) orders.falling v s h) [
        | inl was ↦ inl (label_is v s both_down (in_one v s was) (from_one v s was))
        | inr same ↦ inr (label_is v s first_goes_up same (from_two v s h))
      ]

  pub second_round : (v w : ℕ) (x : Edge) → v < length firsts → Turn orders.falling v w → Contains (edges_at edges v) x → x.to ≡ w
      → leads orders first_goes_up v w ≡ true → Falls w → Falls v
  second_round v w x below turn there to led h =
      let now = falls_in_two w h in
      let within : v < length (one edges orders firsts) = omega (arith, below, one_as_long) in
      let got = closed edges orders first_goes_up (one edges orders firsts) orders.falling v w x now.0 within turn there to led now.1 now.2 in
      in_two v got.0 got.1

  in_three : (v : ℕ) (s : Sides) → label_at (three edges orders firsts) v ≡ Some s → Early v
  in_three v s h =
      elim (given edges orders second_goes_up (two edges orders firsts) orders.rising v s h) [
        | inl was ↦ inl (in_two v s was)
        | inr same ↦ inr (label_is v s second_goes_up same (from_three v s h))
      ]

  late_in_three : (w : ℕ) → (label_of w ≡ Some both_down) ⊎ (label_of w ≡ Some second_goes_up)
      → (s : Sides) × (label_at (three edges orders firsts) w ≡ Some s) × (may_follow second_goes_up s ≡ true)
  late_in_three w (inl h) =
      (both_down, to_three w both_down (λ e. let up : false ≡ true = ap (λ (s : Sides). s.first_up) e in absurd (cc)) h, refl)
  late_in_three w (inr h) =
      (second_goes_up, to_three w second_goes_up (λ e. let up : false ≡ true = ap (λ (s : Sides). s.first_up) e in absurd (cc)) h, refl)

  pub third_round : (v w : ℕ) (x : Edge) → v < length firsts → Turn orders.rising v w → Contains (edges_at edges v) x → x.to ≡ w
      → leads orders second_goes_up v w ≡ true → (label_of w ≡ Some both_down) ⊎ (label_of w ≡ Some second_goes_up) → Early v
  third_round v w x below turn there to led h =
      let now = late_in_three w h in
      let within : v < length (two edges orders firsts) = omega (arith, below, two_as_long) in
      let got = closed edges orders second_goes_up (two edges orders firsts) orders.rising v w x now.0 within turn there to led now.1 now.2 in
      in_three v got.0 got.1

  any_follows : (s : Sides) → may_follow both_up s ≡ true
  any_follows s = elim s.first_up as (λ b. ((not b || true) && (not s.second_up || true)) ≡ true) [
    | true ↦ second s.second_up
    | false ↦ second s.second_up
  ]
    where
      second : (b : Bool) → (not b || true) ≡ true
      second true = refl
      second false = refl

  pub last_round : (v w : ℕ) (x : Edge) (s : Sides) → v < length firsts → Turn orders.rising v w → Contains (edges_at edges v) x → x.to ≡ w
      → leads orders both_up v w ≡ true → label_of w ≡ Some s → (t : Sides) × (label_of v ≡ Some t)
  last_round v w x s below turn there to led h =
      closed edges orders both_up (three edges orders firsts) orders.rising v w x s (omega (arith, below, three_as_long)) turn there to led h (any_follows s)
