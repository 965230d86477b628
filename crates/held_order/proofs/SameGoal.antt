-- A step towards two goals is the same if these have the same entries and owners.
use Rattle.std.proofs.Common.{◌≡◌, ◌∙◌, ◌+◌, ◌<◌, ◌&&◌, ◌||◌, ◌==◌, ℕ, Bool, true, false, cond, not, List, length, refl, sym, ap, arith, inl, inr, Some}
use Rattle.std.specs.Prelude.{map, slice_get}
use Rattle.std.specs.List.{list_all, range_with_len}
use Rattle.std.proofs.lemmas.List.{ext_get_or}
use Rattle.std.proofs.lemmas.List.FromFn.{get_or-map-range_with_len, get_or-range_with_len, length-map-range_with_len, length-range_with_len}
use Rattle.std.proofs.lemmas.List.Sums.{list_all-from_AllPass}
use Rattle.subnet_view.specs.Reading.{Cells, switches}
use Rattle.held_tables.specs.declared.held.HeldLid.{HeldLid}
use Rattle.held_tables.specs.Held.{HeldPlan}
use Rattle.held_tables.specs.Tables.{entry_for}
use Rattle.plan_tables.proofs.HeldTables.{within_length}
use Rattle.packet_walks.specs.declared.next_hop.NextHop.{NextHop}
use Rattle.packet_walks.specs.declared.next_hop.NextHop.TheVariants.{To, Ends}
use Rattle.next_tables.specs.OrderRule.{IsNextByOrder, IsTriedByOrder, comes_down, goes_up, leads_in, may_change, none_comes_down}
use Rattle.next_tables.specs.SwitchPositions.{is_down, is_up}
use Rattle.next_tables.specs.OrderRule.{none_goes_up}
use Rattle.next_tables.specs.SwitchPositions.{switch_at}
use Rattle.next_tables.specs.OrderRule.{tried, tried_at, tried_entry, turns_well}
use Rattle.next_tables.specs.SettledRule.{comes_to, delivers, step_at}
use Rattle.next_tables.proofs.Hops.{to_within}
use Rattle.next_tables.proofs.Steps.{at_index}
use Rattle.next_tables.proofs.by_order.Turns.{below_at}

pub alike : (a b : Bool) → (a ≡ true → b ≡ true) → (b ≡ true → a ≡ true) → a ≡ b
alike true b to from = sym (to refl)
alike false true to from = from refl
alike false false to from = refl

-- tests of all numbers below a count
all_to : (p r : ℕ → Bool) (n : ℕ) → ((x : ℕ) → x < n → p x ≡ r x) → list_all p (range_with_len 0 n) ≡ true → list_all r (range_with_len 0 n) ≡ true
all_to p r n same h =
    list_all-from_AllPass r (range_with_len 0 n) (λ k d less. (
    let within : k < n = omega (arith, less, length-range_with_len 0 n) in
    let here : 0 + k ≡ k = omega arith in
    ap r (get_or-range_with_len 0 n k d within ∙ here) ∙ sym (same k within) ∙ below_at p n h k within))

all_alike : (p r : ℕ → Bool) (n : ℕ) → ((x : ℕ) → x < n → p x ≡ r x) → list_all p (range_with_len 0 n) ≡ list_all r (range_with_len 0 n)
all_alike p r n same =
    alike (list_all p (range_with_len 0 n)) (list_all r (range_with_len 0 n)) (all_to p r n same) (all_to r p n (λ x less. sym (same x less)))

pub made_alike : {X : Type 0} (f g : ℕ → X) (n : ℕ) (d : X) → ((x : ℕ) → x < n → f x ≡ g x) → map f (range_with_len 0 n) ≡ map g (range_with_len 0 n)
made_alike f g n d same =
    ext_get_or d (map f (range_with_len 0 n)) (map g (range_with_len 0 n))
    (length-map-range_with_len f 0 n ∙ sym (length-map-range_with_len g 0 n))
    (λ k less. (
    let within : k < n = omega (arith, less, length-map-range_with_len f 0 n) in
    get_or-map-range_with_len f 0 n k k d within (omega arith) ∙ same k within ∙ sym (get_or-map-range_with_len g 0 n k k d within (omega arith))))

module _ (cells : Cells) (q : ℕ → ℕ) (held a b : HeldPlan) (line : HeldLid)
    (entries : (x : ℕ) → x < length (switches cells) → entry_for a line.lid (switch_at cells x) ≡ entry_for b line.lid (switch_at cells x))
    (hops : (x : ℕ) → x < length (switches cells) → step_at cells a line.lid (switch_at cells x) ≡ step_at cells b line.lid (switch_at cells x)) where
  abbrev n : ℕ
  n = length (switches cells)

  none_down : (i : ℕ) → none_comes_down cells q held a line.lid i ≡ none_comes_down cells q held b line.lid i
  none_down i =
      all_alike (λ x. not (comes_down q x i (step_at cells held line.lid (switch_at cells x)))
      || (entry_for held line.lid (switch_at cells x) == entry_for a line.lid (switch_at cells x)))
      (λ x. not (comes_down q x i (step_at cells held line.lid (switch_at cells x)))
      || (entry_for held line.lid (switch_at cells x) == entry_for b line.lid (switch_at cells x))) n
      (λ x less. ap (λ e. not (comes_down q x i (step_at cells held line.lid (switch_at cells x))) || (entry_for held line.lid (switch_at cells x) == e))
      (entries x less))

  none_up : (j : ℕ) → j < n → none_goes_up cells q held a line.lid j ≡ none_goes_up cells q held b line.lid j
  none_up j less =
      ap (λ e. not (goes_up q j (step_at cells held line.lid (switch_at cells j))) || (entry_for held line.lid (switch_at cells j) == e)) (entries j less)

  turns : (i : ℕ) (s : NextHop) → ((j : ℕ) → s ≡ To j → j < n) → turns_well cells q held a line.lid i s ≡ turns_well cells q held b line.lid i s
  turns i (To j) within = (λ k. (not (is_up q i j) || none_down i k) && (not (is_down q i j) || none_up j (within j refl) k))
  turns i (Ends e) within = refl

  may : (i : ℕ) → i < n → may_change cells q held a line i (switch_at cells i) ≡ may_change cells q held b line i (switch_at cells i)
  may i less =
      let g = switch_at cells i in
      ap (λ t. t && (not (delivers cells held line g) || leads_in cells held line (step_at cells a line.lid g)))
      (turns i (step_at cells a line.lid g) (λ j e. to_within cells a line.lid g j e))
      ∙ ap (λ (s : NextHop). turns_well cells q held b line.lid i s && (not (delivers cells held line g) || leads_in cells held line s)) (hops i less)

  entry_same : (i : ℕ) → i < n → tried_entry cells q held a line i (switch_at cells i) ≡ tried_entry cells q held b line i (switch_at cells i)
  entry_same i less = (λ k. cond (may i less k) (entries i less k) (entry_for held line.lid (switch_at cells i)))

  tried_same : tried cells q held a line ≡ tried cells q held b line
  tried_same =
      made_alike (tried_at cells q held a line) (tried_at cells q held b line) n (To 0)
      (λ i less. (λ k. cond (may i less k) (hops i less k) (step_at cells held line.lid (switch_at cells i))))

  same_tried : (i g : ℕ) → slice_get (switches cells) i ≡ Some g → tried_entry cells q held a line i g ≡ tried_entry cells q held b line i g
  same_tried i g there =
      let less = within_length (switches cells) i g there in
      let at : switch_at cells i ≡ g = at_index (switches cells) i g 0 there in
      ap (tried_entry cells q held a line i) (sym at) ∙ entry_same i less ∙ ap (tried_entry cells q held b line i) at

  pub same_step : (next : HeldPlan) → IsTriedByOrder cells q held a line next → IsTriedByOrder cells q held b line next
  same_step next is = record {
    owners = is.owners;
    entries = λ i g there. (elim (is.entries i g there) [
      | inl e ↦ inl (e ∙ same_tried i g there)
      | inr dropped ↦ inr (ap (λ (l : List NextHop). comes_to line.port l (To i)) (sym tried_same) ∙ dropped.0, dropped.1)
    ]);
  }

  pub same_next : (next : HeldPlan) → IsNextByOrder cells q held a line next → IsNextByOrder cells q held b line next
  same_next next is = record {
    owners = is.owners;
    entries = λ i g there.
        is.entries i g there ∙ (λ k. cond (comes_to line.port (tried_same k) (To i)) (same_tried i g there k) 255);
  }
