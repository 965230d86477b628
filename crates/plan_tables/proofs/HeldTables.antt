-- Blocks and switches of tables as a text has them: each block is found at its switch's index.
use Rattle.std.proofs.Common.{◌≡◌, ℕ, zero, suc, ◌+◌, ◌<◌, ◌≤◌, Bool, true, false, List, [], ◌∷◌, ◌++◌, length, get_or}
use Rattle.std.proofs.Common.{None, Some, refl, sym, ap, ◌∙◌, subst, arith, inl, inr, ◌⊎◌, add-zero}
use Rattle.std.specs.Prelude.{slice_get, map, Contains, reverse, ◌==◌, ◌&&◌}
use Rattle.std.specs.List.{find, position, position_or_len}
use Rattle.std.proofs.lemmas.Bool.{eqb-true, eq-eqb, ltb-false, and_parts}
use Rattle.std.proofs.lemmas.Option.{same_Some}
use Rattle.std.proofs.lemmas.List.{reverse-append}
use Rattle.std.proofs.lemmas.List.Sums.{fails_before_first}
use Rattle.std.proofs.lemmas.List.Quantifiers.{position-Some}
use Rattle.text_words.proofs.Splits.{unfound}
use Rattle.subnet_view.proofs.Members.{contains_here, contains_later, contains_cases, contains_none}
use Rattle.lft_blocks.specs.Plan.{SwitchTable}
use Rattle.held_tables.specs.declared.held.HeldBlock.{HeldBlock}
use Rattle.held_tables.specs.declared.held.HeldSwitch.{HeldSwitch}
use Rattle.plan_tables.specs.PlanTables.{blocks_from, blocks_of, with_top}
use Rattle.held_tables.specs.Tables.{is_block_of}

-- the blocks of tables, and the table that each is from
from_list : (index number : ℕ) (blocks : List (List ℕ)) (y : HeldBlock) → Contains (blocks_from index number blocks) y
    → (b : ℕ) × (y.switch ≡ index) × (y.number ≡ number + b) × (slice_get blocks b ≡ Some y.entries)
from_list index number [] y h = absurd (contains_none y h)
from_list index number (x ∷ blocks) y h =
    elim (contains_cases (record { switch = index; number = number; entries = x }) y (blocks_from index (number + 1) blocks) h) [
      | inl e ↦
          let at = sym (ap (λ (z : HeldBlock). z.number) e) ∙ sym (add-zero number) in
          (0, sym (ap (λ (z : HeldBlock). z.switch) e), at, ap (λ (z : HeldBlock). Some z.entries) e)
      | inr l ↦ let (b, switch, at, there) = from_list index (number + 1) blocks y l in (suc b, switch, omega arith, there)
    ]

in_list : (index number b : ℕ) (blocks : List (List ℕ)) (block : List ℕ) → slice_get blocks b ≡ Some block
    → (y : HeldBlock) × Contains (blocks_from index number blocks) y × (y.switch ≡ index) × (y.number ≡ number + b)
in_list index number b [] block e = cc
in_list index number zero (x ∷ blocks) block e =
    (record { switch = index; number = number; entries = x }, contains_here _ (blocks_from index (number + 1) blocks), refl, omega arith)
in_list index number (suc b) (x ∷ blocks) block e =
    let (y, there, switch, at) = in_list index (number + 1) b blocks block e in
    (y, contains_later (record { switch = index; number = number; entries = x }) y (blocks_from index (number + 1) blocks) there, switch, omega arith)

-- an element of two lists is in the one or the other
either : {X : Type 0} (xs ys : List X) (x : X) → Contains (xs ++ ys) x → Contains xs x ⊎ Contains ys x
either [] ys x h = inr h
either (y ∷ xs) ys x h =
    elim (contains_cases y x (xs ++ ys) h) [
      | inl e ↦ inl (subst (λ z. Contains (y ∷ xs) z) e (contains_here y xs))
      | inr l ↦ (elim (either xs ys x l) [ inl a ↦ inl (contains_later y x xs a) | inr b ↦ inr b ])
    ]

in_front : {X : Type 0} (xs ys : List X) (x : X) → Contains xs x → Contains (xs ++ ys) x
in_front [] ys x h = absurd (contains_none x h)
in_front (y ∷ xs) ys x h =
    elim (contains_cases y x xs h) [
      | inl e ↦ subst (λ z. Contains (y ∷ xs ++ ys) z) e (contains_here y (xs ++ ys))
      | inr l ↦ contains_later y x (xs ++ ys) (in_front xs ys x l)
    ]

behind : {X : Type 0} (xs ys : List X) (x : X) → Contains ys x → Contains (xs ++ ys) x
behind [] ys x h = h
behind (y ∷ xs) ys x h = contains_later y x (xs ++ ys) (behind xs ys x h)

from_at_least : (index : ℕ) (tables : List SwitchTable) (y : HeldBlock) → Contains (blocks_of index tables) y → index ≤ y.switch
from_at_least index [] y h = absurd (contains_none y h)
from_at_least index (t ∷ tables) y h =
    elim (either (blocks_from index 0 t.blocks) (blocks_of (suc index) tables) y h) [
      | inl own ↦ let (b, switch, at, there) = from_list index 0 t.blocks y own in omega arith
      | inr later ↦ let more = from_at_least (suc index) tables y later in omega arith
    ]

-- a block is that of its number, of the table at its switch's index
from_tables : (index : ℕ) (tables : List SwitchTable) (y : HeldBlock) (k : ℕ) (table : SwitchTable) → Contains (blocks_of index tables) y
    → slice_get tables k ≡ Some table → y.switch ≡ index + k → slice_get table.blocks y.number ≡ Some y.entries
from_tables index [] y k table h e at = absurd (contains_none y h)
from_tables index (t ∷ tables) y zero table h e at =
    elim (either (blocks_from index 0 t.blocks) (blocks_of (suc index) tables) y h) [
      | inl own ↦
          let (b, switch, number, there) = from_list index 0 t.blocks y own in
          let same : t ≡ table = same_Some t table e in
          let is : y.number ≡ b = omega arith in
          subst (λ (z : SwitchTable). slice_get z.blocks y.number ≡ Some y.entries) same (ap (slice_get t.blocks) is ∙ there)
      | inr later ↦ let more = from_at_least (suc index) tables y later in absurd (omega arith)
    ]
from_tables index (t ∷ tables) y (suc k) table h e at =
    elim (either (blocks_from index 0 t.blocks) (blocks_of (suc index) tables) y h) [
      | inl own ↦ let (b, switch, number, there) = from_list index 0 t.blocks y own in absurd (omega arith)
      | inr later ↦ from_tables (suc index) tables y k table later e (omega arith)
    ]

-- each block of a table is there
record InTables (index k b : ℕ) (tables : List SwitchTable) : Type 0 where
  y : HeldBlock
  there : Contains (blocks_of index tables) y
  switch : y.switch ≡ index + k
  number : y.number ≡ b

in_tables : (index : ℕ) (tables : List SwitchTable) (k b : ℕ) (table : SwitchTable) (block : List ℕ) → slice_get tables k ≡ Some table
    → slice_get table.blocks b ≡ Some block → InTables index k b tables
in_tables index [] k b table block e there = cc
in_tables index (t ∷ tables) zero b table block e there =
    let same : t ≡ table = same_Some t table e in
    let (y, own, switch, number) = in_list index 0 b t.blocks block (ap (λ (z : SwitchTable). slice_get z.blocks b) same ∙ there) in
    record { y = y; there = in_front (blocks_from index 0 t.blocks) (blocks_of (suc index) tables) y own; switch = omega arith; number = omega arith }
in_tables index (t ∷ tables) (suc k) b table block e there =
    let later = in_tables (suc index) tables k b table block e there in
    let switch = later.switch in
    let there = behind (blocks_from index 0 t.blocks) (blocks_of (suc index) tables) later.y later.there in
    record { y = later.y; there = there; switch = omega arith; number = later.number }

-- an element of the reversed list
turned : {X : Type 0} (xs : List X) (y x : X) → Contains (reverse xs ++ y ∷ []) x → Contains (reverse (y ∷ xs)) x
turned xs y x h = subst (λ zs. Contains zs x) (sym (reverse-append (y ∷ []) xs)) h

reversed : {X : Type 0} (xs : List X) (x : X) → Contains xs x → Contains (reverse xs) x
reversed [] x h = absurd (contains_none x h)
reversed (y ∷ xs) x h =
    elim (contains_cases y x xs h) [
      | inl e ↦ turned xs y x (behind (reverse xs) (y ∷ []) x (subst (λ z. Contains (y ∷ []) z) e (contains_here y [])))
      | inr l ↦ turned xs y x (in_front (reverse xs) (y ∷ []) x (reversed xs x l))
    ]

back : {X : Type 0} (xs : List X) (x : X) → Contains (reverse xs) x → Contains xs x
back [] x h = absurd (contains_none x h)
back (y ∷ xs) x h =
    elim (either (reverse xs) (y ∷ []) x (subst (λ zs. Contains zs x) (reverse-append (y ∷ []) xs) h)) [
      | inl l ↦ contains_later y x xs (back xs x l)
      | inr o ↦ (elim (contains_cases y x [] o) [ inl e ↦ subst (λ z. Contains (y ∷ xs) z) e (contains_here y xs) | inr none ↦ absurd (contains_none x none) ])
    ]

pub record Found {X : Type 0} (p : X → Bool) (xs : List X) : Type 0 where
  pub x : X
  pub is : find p xs ≡ Some x
  pub there : Contains xs x
  pub passes : p x ≡ true

pub found : {X : Type 0} (p : X → Bool) (xs : List X) (x : X) → Contains xs x → p x ≡ true → Found p xs
found p [] x h e = absurd (contains_none x h)
found p (y ∷ xs) x h e =
    elim (p y) as (λ t. p y ≡ t → Found p (y ∷ xs)) [
      | true ↦ λ q. record { x = y; is = rw q refl; there = contains_here y xs; passes = q }
      | false ↦ λ q. (elim (contains_cases y x xs h) [
        | inl same ↦ let is : p y ≡ true = ap p same ∙ e in absurd (cc)
        | inr l ↦ let rest = found p xs x l e in
            record { x = rest.x; is = rw q rest.is; there = contains_later y rest.x xs rest.there; passes = rest.passes }
      ])
    ] refl

-- the block of a table is found
pub block_found : (tables : List SwitchTable) (k b : ℕ) (table : SwitchTable) (block : List ℕ) → slice_get tables k ≡ Some table
    → slice_get table.blocks b ≡ Some block
    → (y : HeldBlock) × (find (is_block_of k b) (reverse (blocks_of 0 tables)) ≡ Some y) × (y.entries ≡ block)
block_found tables k b table block e there =
    let one = in_tables 0 tables k b table block e there in
    let switch : one.y.switch ≡ k = one.switch ∙ omega arith in
    let passes : is_block_of k b one.y ≡ true = both_true (eq-eqb one.y.switch k switch) (eq-eqb one.y.number b one.number) in
    let f = found (is_block_of k b) (reverse (blocks_of 0 tables)) one.y (reversed (blocks_of 0 tables) one.y one.there) passes in
    let parts = and_parts (f.x.switch == k) (f.x.number == b) f.passes in
    let at : f.x.switch ≡ 0 + k = eqb-true f.x.switch k parts.0 ∙ omega arith in
    let its = from_tables 0 tables f.x k table (back (blocks_of 0 tables) f.x f.there) e at in
    let number : f.x.number ≡ b = eqb-true f.x.number b parts.1 in
    (f.x, f.is, same_Some f.x.entries block (sym its ∙ ap (slice_get table.blocks) number ∙ there))
  where
    both_true : {s t : Bool} → s ≡ true → t ≡ true → (s && t) ≡ true
    both_true {s} {t} a c = rw (a, c) refl

-- the first that passes
find_at : {X : Type 0} (p : X → Bool) (xs : List X) (k : ℕ) (x : X) → slice_get xs k ≡ Some x → p x ≡ true
    → ((i : ℕ) (y : X) → i < k → slice_get xs i ≡ Some y → p y ≡ false) → find p xs ≡ Some x
find_at p [] k x e h first = cc
find_at p (y ∷ xs) zero x e h first = let same : y ≡ x = same_Some y x e in let here : p y ≡ true = ap p same ∙ h in rw here (ap (λ z. Some z) same)
find_at p (y ∷ xs) (suc k) x e h first =
    let here : p y ≡ false = first 0 y (omega arith) refl in rw here (find_at p xs k x e h (λ i z less at. first (suc i) z (omega arith) at))

pub get_mapped : {X Y : Type 0} (F : X → Y) (xs : List X) (i : ℕ) (x : X) (d : Y) → slice_get xs i ≡ Some x → get_or (map F xs) i d ≡ F x
get_mapped F [] i x d e = cc
get_mapped F (y ∷ xs) zero x d e = ap F (same_Some y x e)
get_mapped F (y ∷ xs) (suc i) x d e = get_mapped F xs i x d e

pub slice_mapped : {X Y : Type 0} (F : X → Y) (xs : List X) (i : ℕ) (x : X) → slice_get xs i ≡ Some x → slice_get (map F xs) i ≡ Some (F x)
slice_mapped F [] i x e = cc
slice_mapped F (y ∷ xs) zero x e = ap (λ z. Some (F z)) (same_Some y x e)
slice_mapped F (y ∷ xs) (suc i) x e = slice_mapped F xs i x e

some_there : {X Y : Type 0} (F : X → Y) (xs : List X) (i : ℕ) → i < length (map F xs) → (x : X) × (slice_get xs i ≡ Some x)
some_there F [] i h = absurd (omega arith)
some_there F (y ∷ xs) zero h = (y, refl)
some_there F (y ∷ xs) (suc i) h = some_there F xs i (omega arith)

pub within_length : {X : Type 0} (xs : List X) (i : ℕ) (x : X) → slice_get xs i ≡ Some x → i < length xs
within_length [] i x e = cc
within_length (y ∷ xs) zero x e = omega arith
within_length (y ∷ xs) (suc i) x e = let less = within_length xs i x e in omega arith

-- the index of a switch is that of its table
module _ (top : ℕ) (tables : List SwitchTable) (g : ℕ) where
  abbrev its : HeldSwitch → Bool
  its s = s.guid == g

  no_switch : HeldSwitch
  no_switch = record { guid = 0; top = 0 }

  pub placed : (table : SwitchTable) → find (λ t. t.guid == g) tables ≡ Some table
      → (k : ℕ) × (position its (map (with_top top) tables) ≡ Some k) × (slice_get tables k ≡ Some table)
  placed table e =
      elim (position its (map (with_top top) tables)) as (λ o. position its (map (with_top top) tables) ≡ o
      → (k : ℕ) × (position its (map (with_top top) tables) ≡ Some k) × (slice_get tables k ≡ Some table)) [
        | None ↦ λ q. absurd (nowhere q)
        | Some k ↦ λ q. (k, q, at_index k q)
      ] refl
    where
      at_index : (k : ℕ) → position its (map (with_top top) tables) ≡ Some k → slice_get tables k ≡ Some table
      at_index k q =
          let p = position-Some its (map (with_top top) tables) k no_switch q in
          let (t, there) = some_there (with_top top) tables k p.0 in
          let here : (t.guid == g) ≡ true = sym (ap its (get_mapped (with_top top) tables k t no_switch there)) ∙ p.1 in
          let first = find_at (λ (z : SwitchTable). z.guid == g) tables k t there here (λ i y less at.
          sym (ap its (get_mapped (with_top top) tables i y no_switch at)) ∙ p.2 i less) in
          there ∙ sym first ∙ e

      nowhere : position its (map (with_top top) tables) ≡ None → ⊥
      nowhere q =
          let past : length (map (with_top top) tables) ≤ position_or_len its (map (with_top top) tables) = ltb-false _ _ (unfound _ _ q) in
          passing tables (λ i t at.
          let less = within_length (map (with_top top) tables) i (with_top top t) (slice_mapped (with_top top) tables i t at) in
          let fails : its (get_or (map (with_top top) tables) i no_switch) ≡ false =
          fails_before_first its (map (with_top top) tables) i no_switch (omega arith) in
          sym (ap its (get_mapped (with_top top) tables i t no_switch at)) ∙ fails) e
        where
          passing : (ts : List SwitchTable) → ((i : ℕ) (t : SwitchTable) → slice_get ts i ≡ Some t → (t.guid == g) ≡ false)
              → find (λ t. t.guid == g) ts ≡ Some table → ⊥
          passing [] none h = cc
          passing (t ∷ ts) none h =
              let here : (t.guid == g) ≡ false = none 0 t refl in
              passing ts (λ i y at. none (suc i) y at) (rw here at h)
