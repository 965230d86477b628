-- An item inserted into a page, or into one of the two halves of a page.
use Rattle.std.proofs.Common.{◌≡◌, ℕ, zero, suc, ◌+◌, ◌-◌, ◌<◌, ◌≤◌, List, [], ◌∷◌, ◌++◌, length, get_or, set, take, drop, map, refl, sym, ap, ◌∙◌, subst, arith, add-one}
use Rattle.std.proofs.lemmas.List.{append_assoc, length-append, length-set}
use Rattle.std.proofs.lemmas.List.Edits.{insert-append_left, insert-append_right, length-insert}
use Rattle.std.proofs.lemmas.List.Elements.{All-append, All-take, All-drop, All-cons, All-nil, All-set, All-pop}
use Rattle.std.specs.Prelude.{Vec, Some, All, insert}
use Rattle.std.specs.Vec.{vec_capacity}
use Rattle.std.specs.declared.alloc.Global.{Global}
use Rattle.page_list.specs.Listing.{Listing}
use Rattle.page_list.specs.Pages.{items_of, starts_from, IsPage, IsEmptyPage, IsSlot, ArePages}
use Rattle.page_list.proofs.Paged.{items_of-split, items_of-set}

-- the indices from the page after this one on, one more each
abbrev pub shifted : ℕ → List ℕ → List ℕ
shifted k starts = take (suc k) starts ++ map (λ n. n + 1) (drop (suc k) starts)

module _ {T : Type 0} where
  -- pages that begin one later
  starts_from-later : (at : ℕ) (ps : List (Vec T Global)) → starts_from (at + 1) ps ≡ map (λ n. n + 1) (starts_from at ps)
  starts_from-later at [] = refl
  starts_from-later at (x ∷ ps) =
      ap (λ (n : ℕ). (at + 1) ∷ starts_from n ps) (omega arith) ∙ ap (λ (s : List ℕ). (at + 1) ∷ s) (starts_from-later (at + length x.items) ps)

  -- no page begins past the end
  pub starts_below : (at : ℕ) (ps : List (Vec T Global)) (top : ℕ) → at + length (items_of ps) ≤ top → All (λ n. n ≤ top) (starts_from at ps)
  starts_below at [] top h = All-nil (λ n. n ≤ top)
  starts_below at (x ∷ ps) top h =
      let l = length-append x.items (items_of ps) in
      All-cons (λ n. n ≤ top) at (starts_from (at + length x.items) ps) (omega arith) (starts_below (at + length x.items) ps top (omega (arith, l)))

  -- where pages begin, when one has an item more
  starts_from-set : (at : ℕ) (ps : List (Vec T Global)) (k : ℕ) (p p' : Vec T Global) → k < length ps → p ≡ get_or ps k p → length p'.items ≡ length p.items + 1
      → starts_from at (set ps k p') ≡ shifted k (starts_from at ps)
  starts_from-set at [] k p p' h e l = absurd (omega arith)
  starts_from-set at (x ∷ ps) zero p p' h e l =
      ap (λ (n : ℕ). at ∷ starts_from n ps) (omega (arith, l, ap (λ (q : Vec T Global). length q.items) e))
      ∙ ap (λ (s : List ℕ). at ∷ s) (starts_from-later (at + length x.items) ps)
  starts_from-set at (x ∷ ps) (suc k) p p' h e l = ap (λ (s : List ℕ). at ∷ s) (starts_from-set (at + length x.items) ps k p p' (omega arith) e l)

  -- and when two are where it was
  starts_from-halved : (at : ℕ) (ps : List (Vec T Global)) (k : ℕ) (p head tail : Vec T Global) → k < length ps → p ≡ get_or ps k p → length head.items
      + length tail.items ≡ length p.items + 1 → starts_from at (insert (set ps k head) (suc k) tail)
      ≡ insert (shifted k (starts_from at ps)) (suc k) (get_or (starts_from at ps) k 0 + length head.items)
  starts_from-halved at [] k p head tail h e l = absurd (omega arith)
  starts_from-halved at (x ∷ ps) zero p head tail h e l =
      ap (λ (n : ℕ). at ∷ ((at + length head.items) ∷ starts_from n ps)) (omega (arith, l, ap (λ (q : Vec T Global). length q.items) e))
      ∙ ap (λ (s : List ℕ). at ∷ ((at + length head.items) ∷ s)) (starts_from-later (at + length x.items) ps)
  starts_from-halved at (x ∷ ps) (suc k) p head tail h e l =
      ap (λ (s : List ℕ). at ∷ s) (starts_from-halved (at + length x.items) ps k p head tail (omega arith) e l)

  -- the items of the pages, when two are where one was
  items_of-halved : (ps : List (Vec T Global)) (k : ℕ) (head tail : Vec T Global) → k < length ps → items_of (insert (set ps k head) (suc k) tail)
      ≡ items_of (take k ps) ++ (head.items ++ tail.items) ++ items_of (drop (suc k) ps)
  items_of-halved [] k head tail h = absurd (omega arith)
  items_of-halved (x ∷ ps) zero head tail h = sym (append_assoc head.items tail.items (items_of ps))
  items_of-halved (x ∷ ps) (suc k) head tail h =
      ap (λ (s : List T). x.items ++ s) (items_of-halved ps k head tail (omega arith)) ∙ simp append_assoc

  -- an item put into the middle of three lists
  insert_middle : (a b c : List T) (i j : ℕ) (x : T) → length a + j ≡ i → j ≤ length b → insert (a ++ b ++ c) i x ≡ a ++ insert b j x ++ c
  insert_middle a b c i j x e h =
      let n : i - length a ≡ j = omega arith in
      insert-append_left (a ++ b) c i x (omega (arith, length-append a b))
      ∙ ap (λ (s : List T). s ++ c) (insert-append_right a b (length a) i x refl (omega arith) ∙ ap (λ (m : ℕ). a ++ insert b m x) n)

  module _ (ps : List (Vec T Global)) (i k j : ℕ) (at : IsSlot ps i k j) (p : Vec T Global) (is : p ≡ get_or ps k p) (x : T) where
    -- an item put among all is put into the page
    insert_in_page : insert (items_of ps) i x ≡ items_of (take k ps) ++ insert p.items j x ++ items_of (drop (suc k) ps)
    insert_in_page =
        ap (λ (s : List T). insert s i x) (items_of-split ps k p at.there is)
        ∙ insert_middle (items_of (take k ps)) p.items (items_of (drop (suc k) ps)) i j x at.counted (at.upto p is)

    -- one more than there are
    pub more_items : length (insert (items_of ps) i x) ≡ length (items_of ps) + 1
    more_items =
        length-insert (items_of ps) i x
        (omega (
          arith,
          at.counted,
          at.upto p is,
          ap length (items_of-split ps k p at.there is),
          length-append (items_of (take k ps)
              ++ p.items) (items_of (drop (suc k) ps)),
          length-append (items_of (take k ps)) p.items,
        ))

    -- the first half ends by the end of all
    pub head_end : (head tail : List T) → head ++ tail ≡ insert p.items j x → i - j + length head ≤ length (items_of ps) + 1
    head_end head tail e =
        omega (
          arith,
          at.counted,
          ap length e,
          length-append head tail,
          length-insert p.items j x (at.upto p is),
          ap length (items_of-split ps k p at.there is),
          length-append (items_of (take k ps) ++ p.items) (items_of (drop (suc k) ps)),
          length-append (items_of (take k ps)) p.items,
        )

  -- a page had room
  pub record IsGrown (pages pages' : Vec (Vec T Global) Global) (starts starts' : Listing ℕ) (spare : Vec (Vec T Global) Global) (len room i k j : ℕ)
      (p p' : Vec T Global) (x : T) : Type 0 where
    pub were : ArePages pages starts spare len room
    pub some : 0 < room
    pub at : IsSlot pages.items i k j
    pub is : p ≡ get_or pages.items k p
    pub grown : p'.items ≡ insert p.items j x
    pub short : length p.items < 256
    pub roomy : vec_capacity p ≤ vec_capacity p'
    pub put : pages'.items ≡ set pages.items k p'
    pub capacity : vec_capacity pages ≤ vec_capacity pages'
    pub moved : starts'.items ≡ take (k + 1) starts.items ++ map (λ n. n + 1) (drop (k + 1) starts.items)
    pub starts_room : starts.room ≤ starts'.room

  module _ {pages pages' : Vec (Vec T Global) Global} {starts starts' : Listing ℕ} {spare : Vec (Vec T Global) Global} {len room i k j : ℕ}
      {p p' : Vec T Global} {x : T} (g : IsGrown pages pages' starts starts' spare len room i k j p p' x) where
    -- the page has one more
    one_more : length p'.items ≡ length p.items + 1
    one_more = omega (arith, ap length g.grown, length-insert p.items j x (g.at.upto p g.is))

    -- the item is at its index
    pub grown_items : items_of pages'.items ≡ insert (items_of pages.items) i x
    grown_items =
        ap items_of g.put ∙ items_of-set pages.items k p' g.at.there
        ∙ ap (λ (s : List T). items_of (take k pages.items) ++ s ++ items_of (drop (suc k) pages.items)) g.grown
        ∙ sym (insert_in_page pages.items i k j g.at p g.is x)

    -- and the pages are as they should be
    pub grown_pages : ArePages pages' starts' spare (len + 1) (room - 1)
    grown_pages =
        let same : length pages'.items ≡ length pages.items = omega (arith, ap length g.put, length-set pages.items k p') in
        let was = g.were.pages_are k p g.at.there in
        record {
          starts_are =
              g.moved ∙ ap (λ (n : ℕ). take n starts.items ++ map (λ m. m + 1) (drop n starts.items)) (add-one k) ∙ ap (shifted k) g.were.starts_are
              ∙ sym (starts_from-set 0 pages.items k p p' g.at.there g.is one_more) ∙ ap (starts_from 0) (sym g.put);
          len_is = omega (arith, ap length grown_items, more_items pages.items i k j g.at p g.is x, g.were.len_is);
          countable = omega (arith, g.were.countable, g.some);
          spared = omega (arith, g.were.spared);
          pages_are =
              subst (All IsPage) (sym g.put)
              (All-set IsPage pages.items k p' (record {
                bounded = omega (arith, one_more, g.short);
                roomy =
                    omega (arith, g.roomy, was.roomy, ap (λ (q : Vec T Global). vec_capacity q) g.is);
              }) g.were.pages_are);
          spare_are = g.were.spare_are;
          pages_roomy = omega (arith, g.were.pages_roomy, g.capacity);
          starts_roomy = omega (arith, g.were.starts_roomy, g.starts_room);
        }

  -- a page was full
  pub record IsHalved (pages pages' : Vec (Vec T Global) Global) (starts starts' : Listing ℕ) (spare spare' : Vec (Vec T Global) Global) (len room i k j : ℕ)
      (p head tail empty : Vec T Global) (x : T) : Type 0 where
    pub were : ArePages pages starts spare len room
    pub some : 0 < room
    pub at : IsSlot pages.items i k j
    pub is : p ≡ get_or pages.items k p
    pub taken : spare.items ≡ spare'.items ++ empty ∷ []
    pub halves : head.items ++ tail.items ≡ insert p.items j x
    pub head_page : IsPage head
    pub tail_page : IsPage tail
    pub put : pages'.items ≡ insert (set pages.items k head) (k + 1) tail
    pub capacity : vec_capacity pages ≤ vec_capacity pages'
    pub moved : starts'.items ≡ insert (take (k + 1) starts.items ++ map (λ n. n + 1) (drop (k + 1) starts.items)) (k + 1) (i - j + length head.items)
    pub starts_room : starts.room ≤ starts'.room + 1

  module _ {pages pages' : Vec (Vec T Global) Global} {starts starts' : Listing ℕ} {spare spare' : Vec (Vec T Global) Global} {len room i k j : ℕ}
      {p head tail empty : Vec T Global} {x : T} (g : IsHalved pages pages' starts starts' spare spare' len room i k j p head tail empty x) where
    -- both have one more
    both_more : length head.items + length tail.items ≡ length p.items + 1
    both_more = omega (arith, ap length g.halves, length-append head.items tail.items, length-insert p.items j x (g.at.upto p g.is))

    -- two pages where one was
    pages_put : pages'.items ≡ insert (set pages.items k head) (suc k) tail
    pages_put = g.put ∙ ap (λ (n : ℕ). insert (set pages.items k head) n tail) (add-one k)

    -- the item is at its index
    pub halved_items : items_of pages'.items ≡ insert (items_of pages.items) i x
    halved_items =
        ap items_of pages_put ∙ items_of-halved pages.items k head tail g.at.there
        ∙ ap (λ (s : List T). items_of (take k pages.items) ++ s ++ items_of (drop (suc k) pages.items)) g.halves
        ∙ sym (insert_in_page pages.items i k j g.at p g.is x)

    -- and the pages are as they should be
    pub halved_pages : ArePages pages' starts' spare' (len + 1) (room - 1)
    halved_pages =
        let more : length pages'.items ≡ length pages.items + 1 =
        omega (
          arith,
          ap length pages_put,
          length-insert (set pages.items k head) (suc k) tail (omega (arith, length-set pages.items k head, g.at.there)),
          length-set pages.items k head,
        ) in
        let fewer : length spare.items ≡ length spare'.items + 1 = omega (arith, ap length g.taken, length-append spare'.items (empty ∷ [])) in
        let set_are : All IsPage (set pages.items k head) = All-set IsPage pages.items k head g.head_page g.were.pages_are in
        let begins : i - j ≡ get_or (starts_from 0 pages.items) k 0 = omega (arith, g.at.begins) in
        record {
          starts_are =
              g.moved ∙ ap (λ (n : ℕ). insert (take n starts.items ++ map (λ m. m + 1) (drop n starts.items)) n (i - j + length head.items)) (add-one k)
              ∙ ap (λ (s : List ℕ). insert (shifted k s) (suc k) (i - j + length head.items)) g.were.starts_are
              ∙ ap (λ (n : ℕ). insert (shifted k (starts_from 0 pages.items)) (suc k) (n + length head.items)) begins
              ∙ sym (starts_from-halved 0 pages.items k p head tail g.at.there g.is both_more) ∙ ap (starts_from 0) (sym pages_put);
          len_is = omega (arith, ap length halved_items, more_items pages.items i k j g.at p g.is x, g.were.len_is);
          countable = omega (arith, g.were.countable, g.some);
          spared = omega (arith, g.were.spared);
          pages_are =
              subst (All IsPage) (sym pages_put)
              (All-append IsPage (take (suc k) (set pages.items k head)) (tail
              ∷ drop (suc k) (set pages.items k head)) (All-take IsPage (suc k) (set pages.items k head) set_are)
              (All-cons IsPage tail (drop (suc k) (set pages.items k head)) g.tail_page (All-drop IsPage (suc k) (set pages.items k head) set_are)));
          spare_are = (All-pop IsEmptyPage spare.items spare'.items (Some empty) g.taken g.were.spare_are).0;
          pages_roomy = omega (arith, g.were.pages_roomy, g.capacity);
          starts_roomy = omega (arith, g.were.starts_roomy, g.starts_room);
        }
