-- The blocks of switches, put together from the entries of all switches for each LID.
use Rattle.std.proofs.Common.{◌≡◌, ℕ, zero, suc, ◌+◌, ◌*◌, ◌<◌, ◌≤◌, List, [], ◌∷◌, ◌++◌, length, take, get_or, refl, sym, ap, ◌∙◌, arith, max, add-zero, append_assoc}
use Rattle.std.specs.Prelude.{None, Some, map, slice_get, slice_index_or}
use Rattle.std.specs.List.{range_with_len}
use Rattle.std.proofs.Math.Nat.{le-max_left, le-max_right}
use Rattle.std.proofs.lemmas.List.{append-nil}
use Rattle.std.proofs.lemmas.List.FromFn.{get_or-map-range_with_len, length-map-range_with_len, map-range_with_len_more}
use Rattle.std.specs.Option.{option_map_or}
use Rattle.std.proofs.lemmas.Option.{get_or_from_slice_get, same_Some, slice_get-get_or}
use Rattle.subnet_view.specs.Reading.{Cells, switches}
use Rattle.lid_assign.specs.Lids.{greatest}
use Rattle.plan_tables.specs.Entries.{block_count}
use Rattle.held_tables.specs.declared.held.HeldBlock.{HeldBlock}
use Rattle.held_tables.specs.declared.held.HeldSwitch.{HeldSwitch}
use Rattle.held_tables.specs.Held.{HeldPlan}
use Rattle.plan_tables.specs.PlanTables.{blocks_from, blocks_of}
use Rattle.packet_walks.specs.Edges.{greatest_top}
use Rattle.held_tables.specs.Tables.{top_of}
use Rattle.plan_tables.proofs.HeldTables.{get_mapped, within_length}
use Rattle.held_tables.proofs.Mapped.{mapped_more}
use Rattle.next_tables.specs.Assembly.{all_blocks, block_in, entry_in, some_blocks}
use Rattle.next_tables.specs.NextTables.{StepRuleValue, column_of, next_at, next_block, next_switch, next_table, next_top}

-- functions that agree over a range
pub range_same : {X : Type 0} (f g : ℕ → X) (a n : ℕ) → ((i : ℕ) → i < a + n → f i ≡ g i) → map f (range_with_len a n) ≡ map g (range_with_len a n)
range_same f g a zero h = refl
range_same f g a (suc n) h = λ i. h a (omega arith) i ∷ range_same f g (a + 1) n (λ k high. h k (omega arith)) i

-- a block more
from_more : (index number : ℕ) (bs : List (List ℕ)) (b : List ℕ) → blocks_from index number (bs ++ b ∷ [])
    ≡ blocks_from index number bs ++ record { switch = index; number = number + length bs; entries = b } ∷ []
from_more index number [] b =
    let it : ℕ → List HeldBlock = λ n. record { switch = index; number = n; entries = b } ∷ [] in ap it (sym (add-zero number))
from_more index number (x ∷ bs) b =
    let at : (number + 1) + length bs ≡ number + suc (length bs) = omega arith in
    let own : HeldBlock = record { switch = index; number = number; entries = x } in
    ap (λ (ys : List HeldBlock). own ∷ ys) (from_more index (number + 1) bs b)
    ∙ ap (λ n. own ∷ (blocks_from index (number + 1) bs ++ record { switch = index; number = n; entries = b } ∷ [])) at

pub some_more : (columns : List (List ℕ)) (index n : ℕ) → some_blocks columns index (n + 1)
    ≡ some_blocks columns index n ++ record { switch = index; number = n; entries = block_in columns index n } ∷ []
some_more columns index n =
    let f : ℕ → List ℕ = block_in columns index in
    let at : 0 + length (map f (range_with_len 0 n)) ≡ n = omega (arith, length-map-range_with_len f 0 n) in
    ap (blocks_from index 0) (map-range_with_len_more f 0 n n (omega arith))
    ∙ from_more index 0 (map f (range_with_len 0 n)) (f n)
    ∙ ap (λ k. some_blocks columns index n ++ record { switch = index; number = k; entries = f n } ∷ []) at

-- a switch more
pub all_more : (columns : List (List ℕ)) (k n : ℕ) (ss : List HeldSwitch) (d : HeldSwitch) → n < length ss
    → all_blocks columns k (take (n + 1) ss) ≡ all_blocks columns k (take n ss) ++ some_blocks columns (k + n) (block_count (Some (get_or ss n d).top))
all_more columns k n [] d h = absurd (omega arith)
all_more columns k zero (s ∷ ss) d h =
    append-nil (some_blocks columns k (block_count (Some s.top)))
    ∙ ap (λ j. some_blocks columns j (block_count (Some s.top))) (sym (add-zero k))
all_more columns k (suc n) (s ∷ ss) d h =
    let e : suc n + 1 ≡ suc (n + 1) = omega arith in
    let at : suc k + n ≡ k + suc n = omega arith in
    let own = some_blocks columns k (block_count (Some s.top)) in
    ap (λ j. all_blocks columns k (take j (s ∷ ss))) e
    ∙ ap (λ (bs : List HeldBlock). own ++ bs) (all_more columns (suc k) n ss d (omega arith))
    ∙ ap (λ j. own ++ (all_blocks columns (suc k) (take n ss) ++ some_blocks columns j (block_count (Some (get_or ss n d).top)))) at
    ∙ sym (append_assoc own (all_blocks columns (suc k) (take n ss)) (some_blocks columns (k + suc n) (block_count (Some (get_or ss n d).top))))

-- as they are put behind those so far
pub all_more_at : (columns : List (List ℕ)) (n : ℕ) (ss : List HeldSwitch) (s : HeldSwitch) (old new : List HeldBlock) (count : ℕ) → n < length ss
    → s ≡ get_or ss n s → old ≡ all_blocks columns 0 (take n ss) → count ≡ block_count (Some s.top) → new ≡ old ++ some_blocks columns n count
    → new ≡ all_blocks columns 0 (take (n + 1) ss)
all_more_at columns n ss s old new count less is o k e =
    let at : n ≡ 0 + n = omega arith in
    let own : count ≡ block_count (Some (get_or ss n s).top) = k ∙ ap (λ (z : HeldSwitch). block_count (Some z.top)) is in
    e ∙ (λ i. o i ++ some_blocks columns (at i) (own i)) ∙ sym (all_more columns 0 n ss s less)

pub some_more_at : (columns : List (List ℕ)) (index n : ℕ) (first old new : List HeldBlock) (entries : List ℕ) → old ≡ first ++ some_blocks columns index n
    → entries ≡ block_in columns index n → new ≡ old ++ record { switch = index; number = n; entries = entries } ∷ []
    → new ≡ first ++ some_blocks columns index (n + 1)
some_more_at columns index n first old new entries o k e =
    let it : List ℕ → HeldBlock = λ es. record { switch = index; number = n; entries = es } in
    e ∙ (λ i. o i ++ (it (k i) ∷ []))
    ∙ append_assoc first (some_blocks columns index n) (it (block_in columns index n) ∷ [])
    ∙ ap (λ bs. first ++ bs) (sym (some_more columns index n))

-- none is greater than the greatest
pub greatest_at : (f : ℕ → ℕ) (gs : List ℕ) (k g : ℕ) → slice_get gs k ≡ Some g → f g ≤ greatest (map f gs)
greatest_at f [] k g e = cc
greatest_at f (x ∷ gs) zero g e =
    let most = le-max_left (f x) (greatest (map f gs)) in
    let same : f x ≡ f g = ap f (same_Some x g e) in omega arith
greatest_at f (x ∷ gs) (suc k) g e =
    let most = le-max_right (f x) (greatest (map f gs)) in
    let rest = greatest_at f gs k g e in omega arith

-- a switch more
pub switch_more : (held plan : HeldPlan) (gs : List ℕ) (i g one other top : ℕ) (old new : List HeldSwitch) → Some g ≡ slice_get gs i
    → one ≡ option_map_or (top_of held) (slice_get gs i) 0 → other ≡ option_map_or (top_of plan) (slice_get gs i) 0 → top ≡ max one other
    → old ≡ map (next_switch held plan) (take i gs) → new ≡ old ++ record { guid = g; top = top } ∷ []
    → new ≡ map (next_switch held plan) (take (i + 1) gs)
switch_more held plan gs i g one other top old new at o p t h e =
    let there : slice_get gs i ≡ Some g = sym at in
    let less = within_length gs i g there in
    let here : slice_index_or gs i g ≡ g = get_or_from_slice_get gs i g g there in
    let top_is : top ≡ next_top held plan g =
    t ∙ (λ j. max ((o ∙ ap (λ x. option_map_or (top_of held) x 0) there) j) ((p ∙ ap (λ x. option_map_or (top_of plan) x 0) there) j)) in
    e ∙ (λ j. h j ++ (record { guid = g; top = top_is j } ∷ []))
    ∙ ap (λ x. map (next_switch held plan) (take i gs) ++ (next_switch held plan x ∷ [])) (sym here)
    ∙ sym (mapped_more (next_switch held plan) gs i g less)

pub no_switch : (held plan : HeldPlan) (gs : List ℕ) (i : ℕ) (old new : List HeldSwitch) → i < length gs → None ≡ slice_get gs i
    → new ≡ map (next_switch held plan) (take (i + 1) gs)
no_switch held plan gs i old new less at = let there : slice_get gs i ≡ Some (get_or gs i 0) = slice_get-get_or gs i 0 less in absurd (cc)

module _ (cells : Cells) (rule : StepRuleValue) (held plan : HeldPlan) (columns : List (List ℕ)) (count : ℕ)
    (are : columns ≡ map (column_of cells rule held plan) (range_with_len 0 (64 * count))) where
  abbrev gs : List ℕ
  gs = switches cells

  column_at : (lid : ℕ) → lid < 64 * count → slice_index_or columns lid [] ≡ column_of cells rule held plan lid
  column_at lid h =
      ap (λ cs. slice_index_or cs lid []) are
      ∙ get_or-map-range_with_len (column_of cells rule held plan) 0 (64 * count) lid lid [] h (omega arith)

  entry_is : (k g lid : ℕ) → slice_get gs k ≡ Some g → lid < 64 * count → entry_in columns k lid ≡ next_at cells rule held plan lid g
  entry_is k g lid there h =
      ap (λ c. slice_index_or c k 255) (column_at lid h) ∙ get_mapped (next_at cells rule held plan lid) gs k g 255 there

  block_is : (k g b : ℕ) → slice_get gs k ≡ Some g → b < count → block_in columns k b ≡ next_block cells rule held plan g b
  block_is k g b there h =
      range_same (λ i. entry_in columns k (64 * b + i)) (λ i. next_at cells rule held plan (64 * b + i) g) 0 64
      (λ i less. entry_is k g (64 * b + i) there (omega arith))

  some_are : (k g n : ℕ) → slice_get gs k ≡ Some g → n ≤ count
      → some_blocks columns k n ≡ blocks_from k 0 (map (next_block cells rule held plan g) (range_with_len 0 n))
  some_are k g n there h =
      ap (blocks_from k 0) (range_same (block_in columns k) (next_block cells rule held plan g) 0 n (λ b less. block_is k g b there (omega arith)))

  those_are : (k : ℕ) (xs : List ℕ) → ((j g : ℕ) → slice_get xs j ≡ Some g → slice_get gs (k + j) ≡ Some g)
      → ((j g : ℕ) → slice_get xs j ≡ Some g → block_count (Some (next_top held plan g)) ≤ count)
      → all_blocks columns k (map (next_switch held plan) xs) ≡ blocks_of k (map (next_table cells rule held plan) xs)
  those_are k [] there few = refl
  those_are k (g ∷ xs) there few =
      let here : slice_get gs k ≡ Some g = ap (slice_get gs) (sym (add-zero k)) ∙ there 0 g refl in
      let own = some_are k g (block_count (Some (next_top held plan g))) here (few 0 g refl) in
      let rest = those_are (suc k) xs (λ j x e. let at : suc k + j ≡ k + suc j = omega arith in ap (slice_get gs) at
      ∙ there (suc j) x e) (λ j x e. few (suc j) x e) in
      λ i. own i ++ rest i

  pub all_are : count ≡ block_count (Some (max (greatest_top cells held) (greatest_top cells plan)))
      → all_blocks columns 0 (map (next_switch held plan) gs) ≡ blocks_of 0 (map (next_table cells rule held plan) gs)
  all_are enough =
      those_are 0 gs (λ j g e. let at : 0 + j ≡ j = omega arith in ap (slice_get gs) at ∙ e)
      (λ j g e.
      let one = greatest_at (top_of held) gs j g e in
      let other = greatest_at (top_of plan) gs j g e in
      omega arith)
