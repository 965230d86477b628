-- The test of rightness is exact.
use Rattle.std.proofs.Common.{◌≡◌, ℕ, zero, suc, ◌+◌, ◌-◌, ◌<◌, ◌≤◌, Bool, true, false, List, length, None, Some, refl, sym, ap, ◌∙◌, arith, inl, inr, ◌&&◌}
use Rattle.std.specs.Prelude.{not, slice_index_or, Option}
use Rattle.std.specs.List.{list_all, range_with_len}
use Rattle.std.specs.Option.{option_map_or}
use Rattle.std.proofs.lemmas.Bool.{and_from, and_parts, cases_lt}
use Rattle.std.proofs.lemmas.List.{length-map}
use Rattle.port_graph.specs.declared.edge.Edge.{Edge}
use Rattle.subnet_view.specs.Reading.{Cells, switches}
use Rattle.held_tables.specs.Held.{HeldPlan}
use Rattle.held_tables.specs.Switches.{row_of}
use Rattle.held_tables.specs.Tables.{entry_for}
use Rattle.packet_walks.specs.Edges.{edge_by, edges_of, greatest_top}
use Rattle.packet_walks.proofs.Tops.{none_above}
use Rattle.next_tables.specs.SwitchPositions.{AreRight, is_bad, is_down, is_up}
use Rattle.next_tables.proofs.Hops.{column_at, edge_is, leads_within}
use Rattle.next_tables.specs.Rightness.{RightnessIsTold, are_right, goes_well, is_right_column, leaves_up}

-- what holds of each number of a range
all_at : (p : ℕ → Bool) (a n : ℕ) → list_all p (range_with_len a n) ≡ true → (k : ℕ) → k < n → p (a + k) ≡ true
all_at p a zero h k less = absurd (omega arith)
all_at p a (suc n) h zero less =
    let at : a ≡ a + 0 = omega arith in
    ap p (sym at) ∙ (and_parts (p a) (list_all p (range_with_len (a + 1) n)) h).0
all_at p a (suc n) h (suc k) less =
    let at : (a + 1) + k ≡ a + suc k = omega arith in
    ap p (sym at) ∙ all_at p (a + 1) n (and_parts (p a) (list_all p (range_with_len (a + 1) n)) h).1 k (omega arith)

all_from : (p : ℕ → Bool) (a n : ℕ) → ((k : ℕ) → k < n → p (a + k) ≡ true) → list_all p (range_with_len a n) ≡ true
all_from p a zero h = refl
all_from p a (suc n) h =
    let at : a + 0 ≡ a = omega arith in
    and_from (p a) (list_all p (range_with_len (a + 1) n)) (ap p (sym at) ∙ h 0 (omega arith))
    (all_from p (a + 1) n (λ k less. let shifted : (a + 1) + k ≡ a + suc k = omega arith in ap p shifted ∙ h (suc k) (omega arith)))

more : (p : ℕ → Bool) (a n : ℕ) → list_all p (range_with_len a n) ≡ true → p (a + n) ≡ true → list_all p (range_with_len a (n + 1)) ≡ true
more p a n h k =
    all_from p a (n + 1) (λ m less. elim (cases_lt m n) [
      | inl within ↦ all_at p a n h m within
      | inr last ↦ (let at : a + n ≡ a + m = omega (arith, less, last) in ap p (sym at) ∙ k)
    ])

not_false : (t : Bool) → not t ≡ true → t ≡ false
not_false true h = absurd (cc)
not_false false h = refl

of_false : (t : Bool) → t ≡ false → not t ≡ true
of_false true h = absurd (cc)
of_false false h = refl

module _ (q : ℕ → ℕ) (edges : List (Option Edge)) where
  -- what one edge and the next say
  by_edges : (i : ℕ) (first second : Edge) → slice_index_or edges i None ≡ Some first → slice_index_or edges first.to None ≡ Some second
      → goes_well q edges i ≡ not (is_bad q i first.to second.to)
  by_edges i first second h k =
      ap (λ o. option_map_or (λ (e : Edge). not (is_down q i e.to && leaves_up q edges e.to)) o true) h
      ∙ ap (λ o. not (is_down q i first.to && option_map_or (λ (e : Edge). is_up q first.to e.to) o false)) k

  -- an index passes if no two edges there make a bad turn
  well : (i : ℕ) → ((first second : Edge) → slice_index_or edges i None ≡ Some first → slice_index_or edges first.to None ≡ Some second
      → is_bad q i first.to second.to ≡ false) → goes_well q edges i ≡ true
  well i none =
      elim (slice_index_or edges i None) as (λ o. slice_index_or edges i None ≡ o → goes_well q edges i ≡ true) [
        | None ↦ λ h. ap (λ o. option_map_or (λ (e : Edge). not (is_down q i e.to && leaves_up q edges e.to)) o true) h
        | Some first ↦ λ h. (elim (slice_index_or edges first.to None) as (λ o. slice_index_or edges first.to None ≡ o → goes_well q edges i ≡ true) [
          | None ↦ λ k.
              ap (λ o. option_map_or (λ (e : Edge). not (is_down q i e.to && leaves_up q edges e.to)) o true) h
              ∙ ap (λ o. not (is_down q i first.to && option_map_or (λ (e : Edge). is_up q first.to e.to) o false)) k
              ∙ nothing (is_down q i first.to)
          | Some second ↦ λ k. by_edges i first second h k ∙ of_false (is_bad q i first.to second.to) (none first second h k)
        ]) refl
      ] refl
    where
      nothing : (t : Bool) → not (t && false) ≡ true
      nothing true = refl
      nothing false = refl

module _ (cells : Cells) (q : ℕ → ℕ) (tables : HeldPlan) where
  abbrev column : ℕ → Bool
  column lid = is_right_column q (edges_of cells tables lid)

  long : (lid : ℕ) → length (edges_of cells tables lid) ≡ length (switches cells)
  long lid = length-map (switches cells) (λ g. edge_by (row_of cells g) (entry_for tables lid g))

  told : are_right cells q tables ≡ true → (lid : ℕ) → 1 ≤ lid → AreRight cells q tables lid
  told h lid one i j k a b =
      let edges = edges_of cells tables lid in
      let here = column_at cells tables lid i j a in
      let there = column_at cells tables lid j k b in
      elim (cases_lt (greatest_top cells tables) lid) [
        | inl above ↦ let none = none_above cells tables lid above i in absurd (cc)
        | inr within ↦
            let at : 1 + (lid - 1) ≡ lid = omega arith in
            let its : column lid ≡ true = ap column (sym at) ∙ all_at column 1 (greatest_top cells tables) h (lid - 1) (omega arith) in
            let less : i < length edges = omega (arith, leads_within cells tables lid i j a, long lid) in
            let start : 0 + i ≡ i = omega arith in
            let well_there : goes_well q edges i ≡ true = ap (goes_well q edges) (sym start) ∙ all_at (goes_well q edges) 0 (length edges) its i less in
            not_false (is_bad q i j k) (sym (by_edges q edges i _ _ here there) ∙ well_there)
      ]

  back : ((lid : ℕ) → 1 ≤ lid → AreRight cells q tables lid) → are_right cells q tables ≡ true
  back right =
      all_from column 1 (greatest_top cells tables) (λ m less.
      all_from (goes_well q (edges_of cells tables (1 + m))) 0 (length (edges_of cells tables (1 + m))) (λ i within.
      well q (edges_of cells tables (1 + m)) (0 + i) (λ first second h k.
      right (1 + m) (omega arith) (0 + i) first.to second.to (edge_is cells tables (1 + m) (0 + i) first h) (edge_is cells tables (1 + m) first.to second k))))

  -- as it is computed, LID by LID
  abbrev pub RightSoFar : ℕ → Type 0
  RightSoFar count = list_all (λ lid. is_right_column q (edges_of cells tables lid)) (range_with_len 1 count) ≡ true

  pub right_more : (count lid : ℕ) (edges : List (Option Edge)) → RightSoFar count → lid ≡ count + 1 → edges ≡ edges_of cells tables lid
      → is_right_column q edges ≡ true → RightSoFar (count + 1)
  right_more count lid edges so is columns_are well =
      let at : 1 + count ≡ lid = omega (arith, is) in
      more column 1 count so (ap column at ∙ ap (is_right_column q) (sym columns_are) ∙ well)

  pub all_right : (count top : ℕ) → RightSoFar count → top ≡ greatest_top cells tables → count ≡ top → true ≡ are_right cells q tables
  all_right count top so is end = sym so ∙ ap (λ n. list_all column (range_with_len 1 n)) (end ∙ is)

  pub one_wrong : (count lid top : ℕ) (edges : List (Option Edge)) → lid ≡ count + 1 → count < top → top ≡ greatest_top cells tables
      → edges ≡ edges_of cells tables lid → is_right_column q edges ≡ false → false ≡ are_right cells q tables
  one_wrong count lid top edges is less top_is columns_are wrong =
      (elim (are_right cells q tables) as (λ t. are_right cells q tables ≡ t → false ≡ t) [
        | false ↦ λ e. sym e ∙ e
        | true ↦ λ e.
            let at : 1 + count ≡ lid = omega (arith, is) in
            let well : is_right_column q edges ≡ true =
            ap (is_right_column q) columns_are ∙ ap column (sym at) ∙ all_at column 1 (greatest_top cells tables) e count (omega (arith, less, top_is)) in
            absurd (cc)
      ]) refl

pub rightness_is_told : RightnessIsTold
rightness_is_told cells q tables = (told cells q tables, back cells q tables)
