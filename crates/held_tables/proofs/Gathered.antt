-- The blocks with one number, gathered block by block along their chain.
use Rattle.std.proofs.Common.{◌≡◌, ℕ, zero, suc, ◌+◌, ◌-◌, ◌<◌, ◌≤◌, Bool, true, false, cond, List, [], ◌∷◌, ◌++◌, length, get_or, take, Option, Some, map, refl, sym, ap, subst, ◌∙◌, arith, inl, inr, length-append}
use Rattle.std.specs.Prelude.{slice_get, slice_index_or, slice_set, reverse, replicate, ◌==◌, ◌&&◌}
use Rattle.std.proofs.lemmas.Bool.{and_right, cases_eq, eq-eqb, ne_eqb}
use Rattle.std.proofs.lemmas.Grind.{get_or-set_at}
use Rattle.std.proofs.lemmas.List.{get_or-map, get_or-set_other, length-map, length-set, reverse-append, take_all, take_more}
use Rattle.std.proofs.lemmas.Option.{slice_get-get_or}
use Rattle.std.specs.List.{find}
use Rattle.held_tables.specs.declared.held.HeldBlock.{HeldBlock}
use Rattle.held_tables.specs.Held.{HeldPlan}
use Rattle.held_tables.specs.Chains.{IsNext}
use Rattle.held_tables.specs.Blocks.{AreBlank, AreBlocks, with_block}
use Rattle.held_tables.specs.Tables.{is_block_of, entry_in, number_of}

-- the last of some blocks that is of the number and of the switch at a s
abbrev last_of : List HeldBlock → ℕ → ℕ → Option HeldBlock
last_of blocks s number = find (is_block_of s number) (reverse blocks)

-- the rows have the last of the blocks so far
pub record AreGathered (held : HeldPlan) (number : ℕ) (rows : List (List ℕ)) (index : ℕ) : Type 0 where
  pub as_many : length rows ≡ length held.switches
  pub entry : (s i : ℕ) → s < length rows
      → slice_index_or (slice_index_or rows s []) i 255 ≡ entry_in (last_of (take index held.blocks) s number) i

-- blank rows
pub no_rows : AreBlank 0 []
no_rows = record { as_many = refl; entry = λ s i. refl }

blank_entry : (d n i : ℕ) → slice_index_or (replicate n d) i d ≡ d
blank_entry d zero i = refl
blank_entry d (suc n) zero = refl
blank_entry d (suc n) (suc i) = blank_entry d n i

row_more : (rows : List (List ℕ)) (row : List ℕ) → ((i : ℕ) → slice_index_or row i 255 ≡ 255)
    → ((s i : ℕ) → slice_index_or (slice_index_or rows s []) i 255 ≡ 255)
    → (s i : ℕ) → slice_index_or (slice_index_or (rows ++ row ∷ []) s []) i 255 ≡ 255
row_more [] row blank rest zero i = blank i
row_more [] row blank rest (suc s) i = refl
row_more (r ∷ rows) row blank rest zero i = rest 0 i
row_more (r ∷ rows) row blank rest (suc s) i = row_more rows row blank (λ p k. rest (suc p) k) s i

pub blank_more : (count : ℕ) (rows : List (List ℕ)) (row : List ℕ) → AreBlank count rows → row ≡ replicate 64 255 → AreBlank (count + 1) (rows ++ row ∷ [])
blank_more count rows row h e =
    let as_many = h.as_many in
    record {
      as_many = omega (arith, length-append rows (row ∷ []), as_many);
      entry = row_more rows row (λ i. ap (λ r. slice_index_or r i 255) e ∙ blank_entry 255 64 i) h.entry;
    }

pub none_gathered : (held : HeldPlan) (number : ℕ) (rows : List (List ℕ)) → AreBlank (length held.switches) rows → AreGathered held number rows 0
none_gathered held number rows h = record { as_many = h.as_many; entry = λ s i less. h.entry s i }

and_true : (b : Bool) → (b && true) ≡ b
and_true true = refl
and_true false = refl

-- the last of the blocks with one more
last_more : (blocks : List HeldBlock) (k : ℕ) (d : HeldBlock) (s number : ℕ) → k < length blocks
    → last_of (take (k + 1) blocks) s number ≡ cond (is_block_of s number (get_or blocks k d)) (Some (get_or blocks k d)) (last_of (take k blocks) s number)
last_more blocks k d s number less =
    ap (λ xs. find (is_block_of s number) (reverse xs)) (take_more blocks k d less)
    ∙ ap (find (is_block_of s number)) (reverse-append (take k blocks) (get_or blocks k d ∷ []))

-- a block of another number
pub other_more : (held : HeldPlan) (number : ℕ) (rows : List (List ℕ)) (k : ℕ) (d : HeldBlock) → AreGathered held number rows k → k < length held.blocks
    → ((get_or held.blocks k d).number ≡ number → ⊥) → AreGathered held number rows (k + 1)
other_more held number rows k d h less other =
    let b : HeldBlock = get_or held.blocks k d in
    record {
      as_many = h.as_many;
      entry = λ s i within.
          h.entry s i within
          ∙ sym (ap (λ x. entry_in x i) (last_more held.blocks k d s number less
          ∙ ap (λ t. cond t (Some b) (last_of (take k held.blocks) s number))
          (ap (λ t. (b.switch == s) && t) (ne_eqb b.number number other) ∙ and_right (b.switch == s) false refl)));
    }

-- a block of the number
pub block_more : (held : HeldPlan) (number : ℕ) (rows new : List (List ℕ)) (k : ℕ) (d : HeldBlock) → AreGathered held number rows k → k < length held.blocks
    → (get_or held.blocks k d).number ≡ number → new ≡ with_block rows (slice_get held.blocks k) → AreGathered held number new (k + 1)
block_more held number rows new k d h less same put = record { as_many = as_many; entry = entry }
  where
    b : HeldBlock
    b = get_or held.blocks k d

    e : new ≡ slice_set rows b.switch b.entries
    e = put ∙ ap (with_block rows) (slice_get-get_or held.blocks k d less)

    as_many : length new ≡ length held.switches
    as_many = ap length e ∙ length-set rows b.switch b.entries ∙ h.as_many

    last_is : (s : ℕ) → last_of (take (k + 1) held.blocks) s number ≡ cond (b.switch == s) (Some b) (last_of (take k held.blocks) s number)
    last_is s =
        last_more held.blocks k d s number less
        ∙ ap (λ t. cond ((b.switch == s) && t) (Some b) (last_of (take k held.blocks) s number)) (eq-eqb b.number number same)
        ∙ ap (λ t. cond t (Some b) (last_of (take k held.blocks) s number)) (and_true (b.switch == s))

    entry : (s i : ℕ) → s < length new → slice_index_or (slice_index_or new s []) i 255 ≡ entry_in (last_of (take (k + 1) held.blocks) s number) i
    entry s i within =
        let long = length-set rows b.switch b.entries in
        let longer = ap length e in
        let inside : s < length rows = omega arith in
        let stands = ap (λ xs. slice_index_or (slice_index_or xs s []) i 255) e in
        elim (cases_eq s b.switch) [
          | inl here ↦ (
              stands ∙ ap (λ row. slice_index_or row i 255) (get_or-set_at rows b.switch s b.entries [] here (omega arith))
              ∙ sym (ap (λ x. entry_in x i) (last_is s
              ∙ ap (λ t. cond t (Some b) (last_of (take k held.blocks) s number)) (eq-eqb b.switch s (sym here)))))
          | inr apart ↦ (
              stands ∙ ap (λ row. slice_index_or row i 255) (get_or-set_other rows b.switch s b.entries [] apart) ∙ h.entry s i inside
              ∙ sym (ap (λ x. entry_in x i) (last_is s
              ∙ ap (λ t. cond t (Some b) (last_of (take k held.blocks) s number)) (ne_eqb b.switch s (λ q. apart (sym q))))))
        ]

-- along a chain ------------------------------------------------------------------------
none : HeldBlock
none = record { switch = 0; number = 0; entries = [] }

-- blocks that are not of the number
passed : (held : HeldPlan) (number : ℕ) (rows : List (List ℕ)) (k count : ℕ) → AreGathered held number rows k → k + count ≤ length held.blocks
    → ((j : ℕ) → k ≤ j → j < k + count → slice_index_or (map number_of held.blocks) j 0 ≡ number → ⊥) → AreGathered held number rows (k + count)
passed held number rows k zero h within other = let e : k ≡ k + 0 = omega arith in subst (AreGathered held number rows) e h
passed held number rows k (suc count) h within other =
    let less : k < length held.blocks = omega arith in
    let e : (k + 1) + count ≡ k + suc count = omega arith in
    let next = other_more held number rows k none h less (λ same. other k (omega arith) (omega arith) (get_or-map number_of held.blocks k none 0 less ∙
    same)) in
    subst (AreGathered held number rows) e (passed held number rows (k + 1) count next (omega arith) (λ j low high is. other j (omega arith) (omega arith) is))

-- the rows have the last of the blocks up to the next one of the number
pub record GatheredTo (held : HeldPlan) (number : ℕ) (rows : List (List ℕ)) (index : ℕ) : Type 0 where
  pub gathered : AreGathered held number rows index
  pub is : index < length held.blocks → slice_index_or (map number_of held.blocks) index 0 ≡ number

to_next : (held : HeldPlan) (number : ℕ) (rows : List (List ℕ)) (k index : ℕ) → AreGathered held number rows k
    → IsNext (map number_of held.blocks) number k index → GatheredTo held number rows index
to_next held number rows k index h next =
    let past = next.past in
    let within = next.within in
    let long = length-map held.blocks number_of in
    let e : k + (index - k) ≡ index = omega arith in
    record {
      gathered = subst (AreGathered held number rows) e
          (passed held number rows k (index - k) h (omega arith) (λ j low high is. next.none j low (omega arith) is));
      is = λ less. next.is (omega arith);
    }

pub first_to : (held : HeldPlan) (number index : ℕ) (rows : List (List ℕ)) → AreBlank (length held.switches) rows
    → IsNext (map number_of held.blocks) number 0 index → GatheredTo held number rows index
first_to held number index rows blank next = to_next held number rows 0 index (none_gathered held number rows blank) next

pub next_to : (held : HeldPlan) (number k index : ℕ) (rows new : List (List ℕ)) → GatheredTo held number rows k → k < length held.blocks
    → new ≡ with_block rows (slice_get held.blocks k)
    → IsNext (map number_of held.blocks) (slice_index_or (map number_of held.blocks) k 0) (suc k) index → GatheredTo held number new index
next_to held number k index rows new h less put next =
    let e : k + 1 ≡ suc k = omega arith in
    let same = h.is less in
    to_next held number new (suc k) index
    (subst (AreGathered held number new) e
    (block_more held number rows new k none h.gathered less (sym (get_or-map number_of held.blocks k none 0 less) ∙ same) put))
    (subst (λ n. IsNext (map number_of held.blocks) n (suc k) index) same next)

pub all_to : (held : HeldPlan) (number index : ℕ) (rows : List (List ℕ)) → GatheredTo held number rows index → length held.blocks ≤ index
    → AreBlocks held number rows
all_to held number index rows h past = record {
  as_many = h.gathered.as_many;
  entry = λ s i less. h.gathered.entry s i less ∙ ap (λ xs. entry_in (last_of xs s number) i) (take_all index held.blocks past);
}
