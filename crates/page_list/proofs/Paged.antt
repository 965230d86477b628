-- The items of pages, around one of them.
use Rattle.std.proofs.Common.{◌≡◌, ℕ, zero, suc, ◌+◌, ◌-◌, ◌<◌, ◌≤◌, List, [], ◌∷◌, ◌++◌, length, get_or, set, take, drop, refl, sym, ap, ◌∙◌, subst, arith, ◌⊎◌, inl, inr, zero-add, add-one}
use Rattle.std.proofs.lemmas.Bool.{cases_lt}
use Rattle.std.proofs.lemmas.Option.{slice_get-get_or}
use Rattle.std.proofs.lemmas.List.{append_assoc, append-nil, length-append, drop_all, get_or_default}
use Rattle.std.specs.Prelude.{Vec, Some, slice_get}
use Rattle.std.specs.declared.alloc.Global.{Global}
use Rattle.page_list.specs.Pages.{items_of, starts_from, IsSlot}

module _ {T : Type 0} where
  -- the items before, in and after a page
  pub items_of-split : (ps : List (Vec T Global)) (k : ℕ) (p : Vec T Global) → k < length ps → p ≡ get_or ps k p → items_of ps ≡ items_of (take k ps) ++ p.items
      ++ items_of (drop (suc k) ps)
  items_of-split [] k p h e = absurd (omega arith)
  items_of-split (x ∷ ps) zero p h e = ap (λ (q : Vec T Global). q.items ++ items_of ps) (sym e)
  items_of-split (x ∷ ps) (suc k) p h e =
      ap (λ (s : List T). x.items ++ s) (items_of-split ps k p (omega arith) e) ∙ simp append_assoc

  -- with another page where it was
  pub items_of-set : (ps : List (Vec T Global)) (k : ℕ) (p : Vec T Global) → k < length ps → items_of (set ps k p) ≡ items_of (take k ps) ++ p.items
      ++ items_of (drop (suc k) ps)
  items_of-set [] k p h = absurd (omega arith)
  items_of-set (x ∷ ps) zero p h = refl
  items_of-set (x ∷ ps) (suc k) p h =
      ap (λ (s : List T). x.items ++ s) (items_of-set ps k p (omega arith)) ∙ simp append_assoc

  -- as many indices as pages
  pub length-starts_from : (at : ℕ) (ps : List (Vec T Global)) → length (starts_from at ps) ≡ length ps
  length-starts_from at [] = refl
  length-starts_from at (x ∷ ps) = ap suc (length-starts_from (at + length x.items) ps)

  -- a page begins where the items before it end
  pub get_or-starts_from : (at : ℕ) (ps : List (Vec T Global)) (k : ℕ) → k < length ps → get_or (starts_from at ps) k 0 ≡ at + length (items_of (take k ps))
  get_or-starts_from at [] k h = absurd (omega arith)
  get_or-starts_from at (x ∷ ps) zero h = omega arith
  get_or-starts_from at (x ∷ ps) (suc k) h =
      omega (arith, get_or-starts_from (at + length x.items) ps k (omega arith), length-append x.items (items_of (take k ps)))

  -- the next page begins where it ends
  pub next_start : (at : ℕ) (ps : List (Vec T Global)) (k : ℕ) (p : Vec T Global) → suc k < length ps → p ≡ get_or ps k p → get_or (starts_from at ps) (suc k) 0
      ≡ get_or (starts_from at ps) k 0 + length p.items
  next_start at [] k p h e = absurd (omega arith)
  next_start at (x ∷ []) k p h e = absurd (omega arith)
  next_start at (x ∷ (y ∷ ps)) zero p h e = ap (λ (q : Vec T Global). at + length q.items) (sym e)
  next_start at (x ∷ (y ∷ ps)) (suc k) p h e = next_start (at + length x.items) (y ∷ ps) k p (omega arith) e

  -- with a page more at the end
  pub items_of-push : (ps : List (Vec T Global)) (p : Vec T Global) → items_of (ps ++ p ∷ []) ≡ items_of ps ++ p.items
  items_of-push [] p = append-nil p.items
  items_of-push (x ∷ ps) p = ap (λ (s : List T). x.items ++ s) (items_of-push ps p) ∙ sym (append_assoc x.items (items_of ps) p.items)

  pub starts_from-push : (at : ℕ) (ps : List (Vec T Global)) (p : Vec T Global) → starts_from at (ps ++ p ∷ []) ≡ starts_from at ps
      ++ (at + length (items_of ps)) ∷ []
  starts_from-push at [] p = ap (λ (n : ℕ). n ∷ []) (omega arith)
  starts_from-push at (x ∷ ps) p =
      ap (λ (s : List ℕ). at ∷ s) (starts_from-push (at + length x.items) ps p)
      ∙ ap (λ (n : ℕ). (at ∷ starts_from (at + length x.items) ps) ++ n ∷ []) (omega (arith, length-append x.items (items_of ps)))

  -- the item at an index of a list in the middle
  pub slice_get_middle : (a b c : List T) (j : ℕ) → j < length b → slice_get (a ++ b ++ c) (length a + j) ≡ slice_get b j
  slice_get_middle [] [] c j h = absurd (omega arith)
  slice_get_middle [] (x ∷ b) c zero h = refl
  slice_get_middle [] (x ∷ b) c (suc j) h =
      ap (slice_get (x ∷ (b ++ c))) (zero-add (suc j)) ∙ ap (slice_get (b ++ c)) (sym (zero-add j)) ∙ slice_get_middle [] b c j (omega arith)
  slice_get_middle (x ∷ a) b c j h = ap (slice_get (x ∷ (a ++ b ++ c))) (succ_add (length a) j) ∙ slice_get_middle a b c j h
    where
      succ_add : (m n : ℕ) → suc m + n ≡ suc (m + n)
      succ_add m n = omega arith

  -- where a page ends: before the next one begins, or where all items end
  page_end : (ps : List (Vec T Global)) (k : ℕ) (p : Vec T Global) → k < length ps → p ≡ get_or ps k p
      → ((suc k < length ps) × (get_or (starts_from 0 ps) (suc k) 0 ≡ get_or (starts_from 0 ps) k 0 + length p.items))
      ⊎ (length (items_of ps) ≡ get_or (starts_from 0 ps) k 0 + length p.items)
  page_end ps k p h e =
      elim (cases_lt (suc k) (length ps)) [
        | inl more ↦ inl (more, next_start 0 ps k p more e)
        | inr none ↦ inr (
            omega (
              arith,
              ap length (items_of-split ps k p h e),
              length-append (items_of (take k ps) ++ p.items) (items_of (drop (suc k) ps)),
              length-append (items_of (take k ps)) p.items,
              ap (λ (s : List (Vec T Global)). length (items_of s)) (drop_all (suc k) ps none),
              get_or-starts_from 0 ps k h,
            )
            )
      ]

-- the page that was found for an index
module _ {T : Type 0} (pages : List (Vec T Global)) (starts : List ℕ) (are : starts ≡ starts_from 0 pages) where
  -- the first page begins at 0
  pub first_start : 0 < length pages → slice_get starts 0 ≡ Some 0
  first_start h = ap (λ (s : List ℕ). slice_get s 0) are ∙ first pages h
    where
      first : (ps : List (Vec T Global)) → 0 < length ps → slice_get (starts_from 0 ps) 0 ≡ Some 0
      first [] h = absurd (omega arith)
      first (x ∷ ps) h = refl

  module _ (k : ℕ) (in_starts : k < length starts) where
    -- a page that has an index is one of the pages
    page_there : k < length pages
    page_there = omega (arith, ap length are, length-starts_from 0 pages)

    -- where it begins
    start_is : get_or starts k 0 ≡ length (items_of (take k pages))
    start_is = ap (λ (n : List ℕ). get_or n k 0) are ∙ omega (arith, get_or-starts_from 0 pages k page_there)

    module _ (p : Vec T Global) (is : p ≡ get_or pages k p) (i : ℕ) (last : k + 1 < length starts → i < get_or starts (k + 1) 0) where
      -- an index comes before the page's end, or that is the list's
      before_end : (i < get_or starts k 0 + length p.items) ⊎ (length (items_of pages) ≡ get_or starts k 0 + length p.items)
      before_end =
          let same : get_or (starts_from 0 pages) k 0 ≡ get_or starts k 0 = sym (ap (λ (n : List ℕ). get_or n k 0) are) in
          elim (page_end pages k p page_there is) [
            | inl more ↦
                let next : get_or starts (k + 1) 0 ≡ get_or (starts_from 0 pages) (suc k) 0 =
                ap (λ (n : List ℕ). get_or n (k + 1) 0) are ∙ ap (λ (m : ℕ). get_or (starts_from 0 pages) m 0) (add-one k) in
                inl (omega (arith, last (omega (arith, more.0, ap length are, length-starts_from 0 pages)), next, more.1, same))
            | inr all ↦ inr (omega (arith, all, same))
          ]

    -- an index that a page has lies in it
    pub lies_in : (p : Vec T Global) → p ≡ get_or pages k p → (i : ℕ) → get_or starts k 0 ≤ i → i - get_or starts k 0 < length p.items
        → IsSlot pages i k (i - get_or starts k 0)
    lies_in p is i from in_page =
        record {
          there = page_there;
          counted = omega (arith, start_is);
          begins = omega (arith, ap (λ (n : List ℕ). get_or n k 0) are);
          upto = λ q e. omega (arith, ap (λ (v : Vec T Global). length v.items) (same q e));
          within = λ q e h. omega (arith, ap (λ (v : Vec T Global). length v.items) (same q e));
        }
      where
        same : (q : Vec T Global) → q ≡ get_or pages k q → p ≡ q
        same q e = is ∙ get_or_default pages k p q page_there ∙ sym e

    -- the index that was found
    pub is_slot : (i : ℕ) → (k + 1 < length starts → i < get_or starts (k + 1) 0) → get_or starts k 0 ≤ i → i ≤ length (items_of pages)
        → IsSlot pages i k (i - get_or starts k 0)
    is_slot i last begins upto =
        record {
          there = page_there;
          counted = omega (arith, start_is);
          begins = omega (arith, ap (λ (n : List ℕ). get_or n k 0) are);
          upto = λ p is. elim (before_end p is i last) [ inl b ↦ omega arith | inr e ↦ omega arith ];
          within = λ p is h. elim (before_end p is i last) [ inl b ↦ omega arith | inr e ↦ omega arith ];
        }

-- what lies at an index, and what is put there
module _ {T : Type 0} (pages : List (Vec T Global)) (i k j : ℕ) (at : IsSlot pages i k j) (p : Vec T Global) (is : p ≡ get_or pages k p) where
  -- the item there
  pub item_there : (x : T) → j < length p.items → x ≡ get_or p.items j x → Some x ≡ slice_get (items_of pages) i
  item_there x h e =
      sym (ap (λ (z : List T). slice_get z i) (items_of-split pages k p at.there is)
      ∙ ap (slice_get (items_of (take k pages) ++ p.items ++ items_of (drop (suc k) pages))) (sym at.counted)
      ∙ slice_get_middle (items_of (take k pages)) p.items (items_of (drop (suc k) pages)) j h
      ∙ slice_get-get_or p.items j x h
      ∙ ap Some (sym e))

module _ {T : Type 0} where
  -- the item that is read, where the pages are those of a list that is seen so
  pub item_read : (read pages : List (Vec T Global)) (items : List T) (i k j : ℕ) (p : Vec T Global) (x : T) → read ≡ pages → items_of pages ≡ items
      → IsSlot read i k j → p ≡ get_or pages k p → x ≡ get_or p.items j x → i < length (items_of pages) → Some x ≡ slice_get items i
  item_read read pages items i k j p x same view at is e h =
      let there : IsSlot pages i k j = subst (λ (ps : List (Vec T Global)). IsSlot ps i k j) same at in
      item_there pages i k j there p is x (there.within p is h) e ∙ ap (λ (s : List T). slice_get s i) view
