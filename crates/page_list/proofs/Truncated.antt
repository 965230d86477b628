-- A list that is cut off at an index.
use Rattle.std.proofs.Common.{◌≡◌, ℕ, zero, suc, ◌+◌, ◌<◌, ◌≤◌, List, [], ◌∷◌, ◌++◌, length, get_or, set, take, drop, refl, sym, ap, ◌∙◌, subst, arith}
use Rattle.std.proofs.lemmas.List.{append-nil, append_assoc, length-append, length-set, length-take-le, take-append-le}
use Rattle.std.proofs.Math.Seq.{take-append-add}
use Rattle.std.proofs.lemmas.List.Elements.{All-set, All-take}
use Rattle.std.specs.Prelude.{Vec, All}
use Rattle.std.specs.Vec.{vec_capacity}
use Rattle.std.specs.declared.alloc.Global.{Global}
use Rattle.page_list.specs.Listing.{Listing}
use Rattle.page_list.specs.Pages.{items_of, starts_from, IsPage, IsSlot, ArePages}
use Rattle.page_list.proofs.Paged.{items_of-split}

module _ {T : Type 0} where
  -- the pages up to one that has other items
  items_of-first : (ps : List (Vec T Global)) (k : ℕ) (p : Vec T Global) → k < length ps → items_of (take (suc k) (set ps k p)) ≡ items_of (take k ps)
      ++ p.items
  items_of-first [] k p h = absurd (omega arith)
  items_of-first (x ∷ ps) zero p h = append-nil p.items
  items_of-first (x ∷ ps) (suc k) p h =
      ap (λ (s : List T). x.items ++ s) (items_of-first ps k p (omega arith)) ∙ sym (append_assoc x.items (items_of (take k ps)) p.items)

  -- begin where they did
  starts_from-first : (at : ℕ) (ps : List (Vec T Global)) (k : ℕ) (p : Vec T Global) → k < length ps → starts_from at (take (suc k) (set ps k p))
      ≡ take (suc k) (starts_from at ps)
  starts_from-first at [] k p h = absurd (omega arith)
  starts_from-first at (x ∷ ps) zero p h = refl
  starts_from-first at (x ∷ ps) (suc k) p h = ap (λ (s : List ℕ). at ∷ s) (starts_from-first (at + length x.items) ps k p (omega arith))

  -- the first of three lists, and of the second so many
  take_middle : (a b c : List T) (j : ℕ) → j ≤ length b → take (length a + j) (a ++ b ++ c) ≡ a ++ take j b
  take_middle a b c j h = take-append-le (length a + j) (a ++ b) c (omega (arith, length-append a b)) ∙ take-append-add a b j

  -- the pages up to that of an index stay, and that one up to its offset
  pub record IsCut (pages pages' : Vec (Vec T Global) Global) (starts starts' : Listing ℕ) (spare : Vec (Vec T Global) Global) (len room i k j : ℕ)
      (p p' : Vec T Global) : Type 0 where
    pub were : ArePages pages starts spare len room
    pub at : IsSlot pages.items i k j
    pub within : i < len
    pub is : p ≡ get_or pages.items k p
    pub cut : p'.items ≡ take j p.items
    pub roomy : vec_capacity p ≤ vec_capacity p'
    pub put : pages'.items ≡ take (suc k) (set pages.items k p')
    pub capacity : vec_capacity pages ≤ vec_capacity pages'
    pub marked : starts'.items ≡ take (suc k) starts.items
    pub starts_room : starts.room ≤ starts'.room

  module _ {pages pages' : Vec (Vec T Global) Global} {starts starts' : Listing ℕ} {spare : Vec (Vec T Global) Global} {len room i k j : ℕ}
      {p p' : Vec T Global} (g : IsCut pages pages' starts starts' spare len room i k j p p') where
    -- the items before the index
    pub cut_items : items_of pages'.items ≡ take i (items_of pages.items)
    cut_items =
        ap items_of g.put ∙ items_of-first pages.items k p' g.at.there
        ∙ ap (λ (s : List T). items_of (take k pages.items) ++ s) g.cut
        ∙ sym (take_middle (items_of (take k pages.items)) p.items (items_of (drop (suc k) pages.items)) j (g.at.upto p g.is))
        ∙ ap (λ (n : ℕ). take n (items_of (take k pages.items) ++ p.items ++ items_of (drop (suc k) pages.items))) g.at.counted
        ∙ ap (take i) (sym (items_of-split pages.items k p g.at.there g.is))

    -- and the pages are as they should be
    pub cut_pages : ArePages pages' starts' spare i room
    cut_pages =
        let was = g.were.pages_are k p g.at.there in
        let few : length pages'.items ≡ suc k =
        ap length g.put ∙ length-take-le (suc k) (set pages.items k p') (omega (arith, g.at.there, length-set pages.items k p')) in
        let fewer : length p'.items ≡ j = ap length g.cut ∙ length-take-le j p.items (g.at.upto p g.is) in
        record {
          starts_are = g.marked ∙ ap (take (suc k)) g.were.starts_are ∙ sym (starts_from-first 0 pages.items k p' g.at.there) ∙ ap (starts_from 0) (sym g.put);
          len_is = sym (ap length cut_items ∙ length-take-le i (items_of pages.items) (omega (arith, g.within, g.were.len_is)));
          countable = omega (arith, g.within, g.were.countable);
          spared = g.were.spared;
          pages_are =
              subst (All IsPage) (sym g.put)
              (All-take IsPage (suc k) (set pages.items k p')
              (All-set IsPage pages.items k p' (record {
                bounded =
                    omega (arith, fewer, g.at.upto p g.is, was.bounded, ap (λ (q : Vec T Global). length q.items) g.is);
                roomy =
                    omega (arith, g.roomy, was.roomy, ap (λ (q : Vec T Global). vec_capacity q) g.is);
              }) g.were.pages_are));
          spare_are = g.were.spare_are;
          pages_roomy = omega (arith, few, g.at.there, g.were.pages_roomy, g.capacity);
          starts_roomy = omega (arith, few, g.at.there, g.were.starts_roomy, g.starts_room);
        }
