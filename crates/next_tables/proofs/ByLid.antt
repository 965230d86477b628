-- The entries of all usable switches for a LID.
use Rattle.std.proofs.Common.{◌≡◌, ℕ, ◌+◌, List, [], ◌∷◌, ◌++◌, length, refl, sym, ap, ◌∙◌, arith, Option, None, Some}
use Rattle.std.specs.Prelude.{drop, map, replicate, slice_get}
use Rattle.std.proofs.lemmas.Option.{same_Some}
use Rattle.std.specs.List.{range_with_len}
use Rattle.std.proofs.lemmas.List.{map-append}
use Rattle.std.proofs.lemmas.List.FromFn.{map-range_with_len_more}
use Rattle.fact_store.specs.View.{Facts, cells_of}
use Rattle.subnet_view.specs.declared.end_port.EndPort.{EndPort}
use Rattle.subnet_view.specs.Reading.{Cells, switches}
use Rattle.held_tables.specs.declared.held.HeldLid.{HeldLid}
use Rattle.held_tables.specs.Held.{HeldPlan}
use Rattle.packet_walks.specs.declared.next_hop.SwitchStep.{SwitchStep}
use Rattle.packet_walks.specs.declared.block_deliveries.Deliveries.{Deliveries}
use Rattle.packet_walks.specs.Deliveries.{AreDeliveries, ComeToOwner}
use Rattle.held_tables.specs.Blocks.{AreBlocks}
use Rattle.packet_walks.specs.HopsByTables.{switch_step}
use Rattle.held_tables.specs.Tables.{owners_of, entry_for}
use Rattle.next_tables.specs.SwitchPositions.{position_at}
use Rattle.next_tables.specs.OrderedEntries.{ordered_of}
use Rattle.next_tables.specs.SettledEntries.{next_of}
use Rattle.next_tables.specs.NextTables.{StepRuleValue, by_order, column_of, if_owned, index_at, keeper, next_at, next_for, ordered_for, settled_first}
use Rattle.next_tables.proofs.Listed.{listed}
use Rattle.next_tables.proofs.Ordered.{ordered_is}
use Rattle.next_tables.proofs.Settled.{ordered_settled_entries, settled_entries}

-- a list of equal elements
same_each : (x : ℕ) (gs : List ℕ) → map (λ (g : ℕ). x) gs ≡ replicate (length gs) x
same_each x [] = refl
same_each x (g ∷ gs) = ap (λ ys. x ∷ ys) (same_each x gs)

module _ (cells : Cells) (held plan : HeldPlan) (lid : ℕ) where
  abbrev gs : List ℕ
  gs = switches cells

  abbrev column_by : List EndPort → Option EndPort → List ℕ
  column_by planned kept = map (next_for cells held plan lid planned kept) gs

  -- by those who hold the LID
  by_owners : (planned owners : List EndPort) → planned ≡ owners_of plan lid → owners ≡ owners_of held lid
      → column_by planned (keeper planned owners) ≡ column_of cells settled_first held plan lid
  unfolding next_at
  by_owners planned owners p h = λ i. column_by (p i) (keeper (p i) (h i))

  -- a LID that nobody has
  pub nobodys : (entries : List ℕ) (planned : List EndPort) → planned ≡ owners_of plan lid → planned ≡ [] → (count : ℕ) → count ≡ length gs
      → entries ≡ replicate count 255 → entries ≡ column_of cells settled_first held plan lid
  nobodys entries planned p none count all e =
      let empty : column_by planned (keeper planned (owners_of held lid)) ≡ map (λ (g : ℕ). 255) gs =
      ap (λ (es : List EndPort). column_by es (keeper es (owners_of held lid))) none in
      e ∙ ap (λ n. replicate n 255) all ∙ sym (same_each 255 gs) ∙ sym empty ∙ by_owners planned (owners_of held lid) p refl

  -- one that one end port keeps
  pub kept : (entries : List ℕ) (planned owners : List EndPort) (port : EndPort) (hs ps : List SwitchStep) → planned ≡ owners_of plan lid → owners
      ≡ owners_of held lid
      → Some port ≡ keeper planned owners → hs ≡ map (switch_step cells held lid) gs → ps ≡ map (switch_step cells plan lid) gs
      → entries ≡ next_of port hs ps → entries ≡ column_of cells settled_first held plan lid
  kept entries planned owners port hs ps p h k hs_are ps_are e =
      let line : HeldLid = record { lid = lid; port = port } in
      e ∙ (λ i. next_of port (hs_are i) (ps_are i)) ∙ listed cells held plan line
      ∙ ap (column_by planned) k ∙ by_owners planned owners p h

  owned_is : (planned : List EndPort) (entry : ℕ) → (planned ≡ [] → ⊥) → if_owned planned entry ≡ entry
  owned_is [] entry some = absurd (some refl)
  owned_is (e ∷ planned) entry some = refl

  owned_each : (planned : List EndPort) (xs : List ℕ) → (planned ≡ [] → ⊥) → map (λ g. if_owned planned (entry_for plan lid g)) xs ≡ map (entry_for plan lid) xs
  owned_each planned [] some = refl
  owned_each planned (x ∷ xs) some = λ i. owned_is planned (entry_for plan lid x) some i ∷ owned_each planned xs some i

  -- the next entries by settled ones if the held tables have the plan's entries, and packets arrive by these from each
  -- switch
  pub settled : (entries held_entries : List ℕ) (planned owners : List EndPort) (port : EndPort) → planned ≡ owners_of plan lid → owners ≡ owners_of held lid
      → Some port ≡ keeper planned owners → held_entries ≡ map (entry_for held lid) gs → entries ≡ map (entry_for plan lid) gs → held_entries ≡ entries
      → ComeToOwner cells plan lid → entries ≡ column_of cells settled_first held plan lid
  settled entries held_entries planned owners port p h k held_are e same come =
      e ∙ settled_entries cells held plan lid port planned owners p (sym k) (sym held_are ∙ same ∙ e) come ∙ ap (column_by planned) k
      ∙ by_owners planned owners p h

  -- and any other that the plan has
  pub others : (entries : List ℕ) (planned owners : List EndPort) → planned ≡ owners_of plan lid → owners ≡ owners_of held lid
      → (planned ≡ [] → ⊥) → None ≡ keeper planned owners → entries ≡ map (entry_for plan lid) gs → entries ≡ column_of cells settled_first held plan lid
  others entries planned owners p h some k e =
      e ∙ sym (owned_each planned gs some) ∙ ap (column_by planned) k ∙ by_owners planned owners p h

  -- by an order
  abbrev pub column_by_order : List ℕ → List EndPort → List ℕ
  column_by_order positions planned = map (λ g. ordered_for cells (position_at positions) held plan lid planned (index_at cells g) g) gs

  ordered_by_owners : (positions : List ℕ) (planned : List EndPort) → planned ≡ owners_of plan lid
      → column_by_order positions planned ≡ column_of cells (by_order positions) held plan lid
  unfolding next_at
  ordered_by_owners positions planned p = ap (column_by_order positions) p

  pub ordered_nobodys : (positions entries : List ℕ) (planned : List EndPort) → planned ≡ owners_of plan lid → planned ≡ [] → (count : ℕ) → count ≡ length gs
      → entries ≡ replicate count 255 → entries ≡ column_of cells (by_order positions) held plan lid
  ordered_nobodys positions entries planned p none count all e =
      e ∙ ap (λ n. replicate n 255) all ∙ sym (same_each 255 gs) ∙ sym (ap (column_by_order positions) none) ∙ ordered_by_owners positions planned p

-- the first of some
pub none_first : {X : Type 0} (xs : List X) → slice_get xs 0 ≡ None → xs ≡ []
none_first [] h = refl
none_first (x ∷ xs) h = absurd (cc)

pub first_of : {X : Type 0} (xs : List X) (x : X) → slice_get xs 0 ≡ Some x → xs ≡ x ∷ drop 1 xs
first_of [] x h = absurd (cc)
first_of (y ∷ xs) x h = ap (λ z. z ∷ xs) (same_Some y x h)

-- one that the plan has, by an order
module _ (facts : Facts) (positions : List ℕ) (held plan : HeldPlan) (lid : ℕ) where
  pub ordered_kept : (entries : List ℕ) (planned later : List EndPort) (port : EndPort) (hs ps : List SwitchStep) → planned ≡ owners_of plan lid
      → planned ≡ port ∷ later → hs ≡ map (switch_step (cells_of facts) held lid) (switches (cells_of facts))
      → ps ≡ map (switch_step (cells_of facts) plan lid) (switches (cells_of facts)) → entries ≡ ordered_of positions port hs ps
      → entries ≡ column_of (cells_of facts) (by_order positions) held plan lid
  ordered_kept entries planned later port hs ps p first hs_are ps_are e =
      e ∙ (λ i. ordered_of positions port (hs_are i) (ps_are i)) ∙ ordered_is facts positions held plan (record { lid = lid; port = port })
      ∙ sym (ap (column_by_order (cells_of facts) held plan lid positions) first) ∙ ordered_by_owners (cells_of facts) held plan lid positions planned p

  -- the next entries by an order if the held tables have the plan's entries, and packets arrive by these from each
  -- switch
  pub ordered_settled : (entries held_entries : List ℕ) (planned later : List EndPort) (port : EndPort) → planned ≡ owners_of plan lid
      → planned ≡ port ∷ later → held_entries ≡ map (entry_for held lid) (switches (cells_of facts))
      → entries ≡ map (entry_for plan lid) (switches (cells_of facts)) → held_entries ≡ entries → ComeToOwner (cells_of facts) plan lid
      → entries ≡ column_of (cells_of facts) (by_order positions) held plan lid
  ordered_settled entries held_entries planned later port p first held_are e same come =
      e ∙ ordered_settled_entries facts positions held plan lid port (sym held_are ∙ same ∙ e) later (sym p ∙ first) come
      ∙ sym (ap (column_by_order (cells_of facts) held plan lid positions) first) ∙ ordered_by_owners (cells_of facts) held plan lid positions planned p

-- a column more
pub column_more : {C : Type 0} (F : ℕ → List ℕ) (entries : C → List ℕ) (old new : List C) (c : C) (n : ℕ) → map entries old ≡ map F (range_with_len 0 n)
    → new ≡ old ++ c ∷ [] → entries c ≡ F n → map entries new ≡ map F (range_with_len 0 (n + 1))
column_more F entries old new c n h e k =
    ap (map entries) e ∙ map-append entries old (c ∷ []) ∙ (λ i. h i ++ (k i ∷ [])) ∙ sym (map-range_with_len_more F 0 n n (omega arith))
