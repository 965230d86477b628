-- An item that replaces another.
use Rattle.std.proofs.Common.{◌≡◌, ℕ, zero, suc, ◌+◌, ◌-◌, ◌<◌, ◌≤◌, List, [], ◌∷◌, ◌++◌, length, get_or, set, take, drop, refl, sym, ap, ◌∙◌, subst, arith}
use Rattle.std.proofs.lemmas.List.{length-append, length-set, set-append_left, set-append_right}
use Rattle.std.proofs.lemmas.List.Elements.{All-set}
use Rattle.std.specs.Prelude.{Vec, All}
use Rattle.std.specs.Vec.{vec_capacity}
use Rattle.std.specs.declared.alloc.Global.{Global}
use Rattle.page_list.specs.Listing.{Listing}
use Rattle.page_list.specs.Pages.{items_of, starts_from, IsPage, IsSlot, ArePages}
use Rattle.page_list.proofs.Paged.{items_of-split, items_of-set}

module _ {T : Type 0} where
  -- pages of the same lengths begin at the same indices
  starts_from-same : (at : ℕ) (ps : List (Vec T Global)) (k : ℕ) (p p' : Vec T Global) → k < length ps → p ≡ get_or ps k p → length p'.items ≡ length p.items
      → starts_from at (set ps k p') ≡ starts_from at ps
  starts_from-same at [] k p p' h e l = absurd (omega arith)
  starts_from-same at (x ∷ ps) zero p p' h e l = ap (λ (n : ℕ). at ∷ starts_from (at + n) ps) (l ∙ ap (λ (q : Vec T Global). length q.items) e)
  starts_from-same at (x ∷ ps) (suc k) p p' h e l = ap (λ (s : List ℕ). at ∷ s) (starts_from-same (at + length x.items) ps k p p' (omega arith) e l)

  -- an item set in the middle of three lists
  set_middle : (a b c : List T) (i j : ℕ) (x : T) → length a + j ≡ i → j < length b → set (a ++ b ++ c) i x ≡ a ++ set b j x ++ c
  set_middle a b c i j x e h =
      let n : i - length a ≡ j = omega arith in
      set-append_left (a ++ b) c i x (omega (arith, length-append a b))
      ∙ ap (λ (s : List T). s ++ c) (set-append_right a b (length a) i x refl (omega arith) ∙ ap (λ (m : ℕ). a ++ set b m x) n)

  -- a page has another item
  pub record IsReplaced (pages pages' : Vec (Vec T Global) Global) (starts : Listing ℕ) (spare : Vec (Vec T Global) Global) (len room i k j : ℕ)
      (p p' : Vec T Global) (x : T) : Type 0 where
    pub were : ArePages pages starts spare len room
    pub at : IsSlot pages.items i k j
    pub within : i < length (items_of pages.items)
    pub is : p ≡ get_or pages.items k p
    pub replaced : p'.items ≡ set p.items j x
    pub roomy : vec_capacity p ≤ vec_capacity p'
    pub put : pages'.items ≡ set pages.items k p'
    pub capacity : vec_capacity pages ≤ vec_capacity pages'

  module _ {pages pages' : Vec (Vec T Global) Global} {starts : Listing ℕ} {spare : Vec (Vec T Global) Global} {len room i k j : ℕ} {p p' : Vec T Global}
      {x : T} (g : IsReplaced pages pages' starts spare len room i k j p p' x) where
    -- as many as before
    as_many : length p'.items ≡ length p.items
    as_many = ap length g.replaced ∙ length-set p.items j x

    -- the item is at its index
    pub replaced_items : items_of pages'.items ≡ set (items_of pages.items) i x
    replaced_items =
        ap items_of g.put ∙ items_of-set pages.items k p' g.at.there
        ∙ ap (λ (s : List T). items_of (take k pages.items) ++ s ++ items_of (drop (suc k) pages.items)) g.replaced
        ∙ sym (set_middle (items_of (take k pages.items)) p.items (items_of (drop (suc k) pages.items)) i j x g.at.counted (g.at.within p g.is g.within))
        ∙ ap (λ (s : List T). set s i x) (sym (items_of-split pages.items k p g.at.there g.is))

    -- and the pages are as they should be
    pub replaced_pages : ArePages pages' starts spare len room
    replaced_pages =
        let same : length pages'.items ≡ length pages.items = omega (arith, ap length g.put, length-set pages.items k p') in
        let was = g.were.pages_are k p g.at.there in
        record {
          starts_are = g.were.starts_are ∙ sym (starts_from-same 0 pages.items k p p' g.at.there g.is as_many) ∙ ap (starts_from 0) (sym g.put);
          len_is = omega (arith, ap length replaced_items, length-set (items_of pages.items) i x, g.were.len_is);
          countable = g.were.countable;
          spared = g.were.spared;
          pages_are =
              subst (All IsPage) (sym g.put)
              (All-set IsPage pages.items k p' (record {
                bounded = omega (arith, as_many, was.bounded, ap (λ (q : Vec T Global). length q.items) g.is);
                roomy =
                    omega (arith, g.roomy, was.roomy, ap (λ (q : Vec T Global). vec_capacity q) g.is);
              }) g.were.pages_are);
          spare_are = g.were.spare_are;
          pages_roomy = omega (arith, g.were.pages_roomy, g.capacity);
          starts_roomy = omega (arith, g.were.starts_roomy);
        }
