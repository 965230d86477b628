-- Where wires lead, and the indices of switches.
use Rattle.std.proofs.Common.{◌≡◌, ◌<◌, ◌≤◌, ◌==◌, ℕ, List, length, get_or, Option, None, Some, refl, ap, arith, inl, inr, true, false}
use Rattle.std.specs.List.{position_or_len}
use Rattle.std.specs.List.Sorted.{IsStrictlyIncreasing}
use Rattle.std.proofs.lemmas.Bool.{cases_order, eq-eqb, eqb-true, ltb-false}
use Rattle.std.proofs.lemmas.List.Kept.{AllPairs-from_increasing}
use Rattle.std.proofs.lemmas.List.Quantifiers.{position-Some}
use Rattle.std.proofs.lemmas.List.Sums.{fails_before_first}
use Rattle.text_words.proofs.Splits.{unfound}
use Rattle.subnet_view.specs.Reading.{Cells, port_count_of}
use Rattle.subnet_view.specs.SwitchGraph.{IsIndexIn}
use Rattle.subnet_view.specs.Wires.{across}
use Rattle.subnet_view.proofs.Graphs.{wire_end}
use Rattle.subnet_view.proofs.SwitchSearch as search
use Rattle.subnet_view.proofs.WireEnds.{linked}
use Rattle.held_tables.specs.Switches.{index_in}

-- a port that a node lacks has no wire
pub no_wire_past : (cells : Cells) (g p : ℕ) → port_count_of cells g < p → across cells g p ≡ None
no_wire_past cells g p past =
    elim (across cells g p) as (λ o. across cells g p ≡ o → o ≡ None) [
      | None ↦ λ e. refl
      | Some q ↦ λ e.
          let within = (wire_end cells g p (linked cells g p q e).here).is_port.1 in
          absurd (omega (arith, past, within))
    ] refl

-- a search among rising numbers finds the index
pub index_is : (numbers : List ℕ) (x : ℕ) (found : Option ℕ) → IsStrictlyIncreasing numbers → IsIndexIn numbers x found → found ≡ index_in numbers x
index_is numbers x None rising none =
    elim (index_in numbers x) as (λ o. index_in numbers x ≡ o → None ≡ o) [
      | None ↦ λ e. refl
      | Some i ↦ λ e.
          let there = position-Some (λ y. y == x) numbers i 0 e in
          let is : get_or numbers i 0 ≡ x = eqb-true (get_or numbers i 0) x there.1 in
          absurd (none (search.index_in numbers x i (there.0, is)))
    ] refl
index_is numbers x (Some k) rising (less, at) =
    elim (index_in numbers x) as (λ o. index_in numbers x ≡ o → Some k ≡ o) [
      | None ↦ λ e.
          let past : length numbers ≤ position_or_len (λ y. y == x) numbers = ltb-false _ _ (unfound _ _ e) in
          let fails : (get_or numbers k 0 == x) ≡ false = fails_before_first (λ y. y == x) numbers k 0 (omega (arith, past, less)) in
          let here : (get_or numbers k 0 == x) ≡ true = eq-eqb (get_or numbers k 0) x at in
          absurd (cc)
      | Some i ↦ λ e.
          let there = position-Some (λ y. y == x) numbers i 0 e in
          let is : get_or numbers i 0 ≡ x = eqb-true (get_or numbers i 0) x there.1 in
          (elim (cases_order k i) [
            | inl same ↦ ap (λ n. Some n) same
            | inr (inl before) ↦ let lower = AllPairs-from_increasing numbers rising k i 0 before there.0 in absurd (omega (arith, lower, is, at))
            | inr (inr behind) ↦ let lower = AllPairs-from_increasing numbers rising i k 0 behind less in absurd (omega (arith, lower, is, at))
          ])
    ] refl
