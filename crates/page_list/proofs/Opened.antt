-- A spare page appended with an item in it.
use Rattle.std.proofs.Common.{◌≡◌, ℕ, ◌+◌, ◌-◌, ◌<◌, ◌≤◌, ◌^◌, List, [], ◌∷◌, ◌++◌, length, sym, ap, ◌∙◌, subst, arith}
use Rattle.std.proofs.lemmas.List.{length-append}
use Rattle.std.proofs.lemmas.List.Elements.{All-push, All-pop}
use Rattle.std.specs.Prelude.{Vec, Some, All}
use Rattle.std.specs.Vec.{vec_capacity}
use Rattle.std.specs.declared.alloc.Global.{Global}
use Rattle.page_list.specs.Listing.{Listing}
use Rattle.page_list.specs.Pages.{items_of, starts_from, IsPage, IsEmptyPage, ArePages}
use Rattle.page_list.proofs.Paged.{items_of-push, starts_from-push}

module _ {T : Type 0} where
  -- a page was opened
  pub record IsOpened (pages pages' : Vec (Vec T Global) Global) (starts starts' : Listing ℕ) (spare spare' : Vec (Vec T Global) Global) (len room : ℕ)
      (page page' : Vec T Global) (x : T) : Type 0 where
    pub were : ArePages pages starts spare len room
    pub some : 0 < room
    pub taken : spare.items ≡ spare'.items ++ page ∷ []
    pub grown : page'.items ≡ page.items ++ x ∷ []
    pub page_capacity : vec_capacity page' ≡ vec_capacity page
    pub put : pages'.items ≡ pages.items ++ page' ∷ []
    pub capacity : vec_capacity pages' ≡ vec_capacity pages
    pub marked : starts'.items ≡ starts.items ++ len ∷ []
    pub starts_room : starts.room ≤ starts'.room + 1

  module _ {pages pages' : Vec (Vec T Global) Global} {starts starts' : Listing ℕ} {spare spare' : Vec (Vec T Global) Global} {len room : ℕ}
      {page page' : Vec T Global} {x : T} (o : IsOpened pages pages' starts starts' spare spare' len room page page' x) where
    -- what was taken was empty
    empty_page : IsEmptyPage page
    empty_page = (All-pop IsEmptyPage spare.items spare'.items (Some page) o.taken o.were.spare_are).1

    -- the page has the item alone
    one_item : page'.items ≡ x ∷ []
    one_item = o.grown ∙ ap (λ (s : List T). s ++ x ∷ []) empty_page.empty

    -- so the item is the last
    pub opened_items : items_of pages'.items ≡ items_of pages.items ++ x ∷ []
    opened_items = ap items_of o.put ∙ items_of-push pages.items page' ∙ ap (λ (s : List T). items_of pages.items ++ s) one_item

    -- and the pages are as they should be
    pub opened_pages : ArePages pages' starts' spare' (len + 1) (room - 1)
    opened_pages =
        let fewer : length spare.items ≡ length spare'.items + 1 = omega (arith, ap length o.taken, length-append spare'.items (page ∷ [])) in
        let more : length pages'.items ≡ length pages.items + 1 = omega (arith, ap length o.put, length-append pages.items (page' ∷ [])) in
        record {
          starts_are =
              o.marked ∙ ap (λ (s : List ℕ). s ++ len ∷ []) o.were.starts_are
              ∙ ap (λ (n : ℕ). starts_from 0 pages.items ++ n ∷ []) (omega (arith, o.were.len_is))
              ∙ sym (starts_from-push 0 pages.items page') ∙ ap (starts_from 0) (sym o.put);
          len_is = omega (arith, ap length opened_items, length-append (items_of pages.items) (x ∷ []), o.were.len_is);
          countable = omega (arith, o.were.countable, o.some);
          spared = omega (arith, o.were.spared);
          pages_are = subst (All IsPage) (sym o.put) (All-push IsPage pages.items page' o.were.pages_are (record {
            bounded =
                omega (arith, ap length one_item);
            roomy = omega (arith, o.page_capacity, empty_page.roomy);
          }));
          spare_are = (All-pop IsEmptyPage spare.items spare'.items (Some page) o.taken o.were.spare_are).0;
          pages_roomy = omega (arith, o.were.pages_roomy, o.capacity);
          starts_roomy = omega (arith, o.were.starts_roomy, o.starts_room);
        }

  -- pages with more room
  pub with_room :
      (pages pages' : Vec (Vec T Global) Global) (starts starts' : Listing ℕ) (spare spare' : Vec (Vec T Global) Global) (len room room' : ℕ) →
      ArePages pages starts spare len room → pages'.items ≡ pages.items → starts'.items ≡ starts.items → All IsEmptyPage spare'.items → len + room' < 2 ^ 64
      → room' ≤ length spare'.items →
      length pages.items + length spare'.items ≤ vec_capacity pages' → length spare'.items ≤ starts'.room → ArePages pages' starts' spare' len room'
  with_room pages pages' starts starts' spare spare' len room room' were same as_before empty fits enough pages_roomy starts_roomy =
      record {
        starts_are = as_before ∙ were.starts_are ∙ ap (starts_from 0) (sym same);
        len_is = were.len_is ∙ ap (λ (s : List (Vec T Global)). length (items_of s)) (sym same);
        countable = fits;
        spared = enough;
        pages_are = subst (All IsPage) (sym same) were.pages_are;
        spare_are = empty;
        pages_roomy = omega (arith, pages_roomy, ap length same);
        starts_roomy = starts_roomy;
      }
