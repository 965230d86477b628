-- How a list is divided into pages, each with the index of its first item, and spare empty pages.
use Rattle.std.specs.Prelude.{◌≡◌, ℕ, ◌+◌, ◌<◌, ◌≤◌, ◌^◌, List, [], ◌∷◌, length, take, slice_index, slice_index_or, All}
use Rattle.std.specs.List.{flat_map}
use Rattle.std.specs.Prelude.{Vec}
use Rattle.std.specs.Vec.{vec_capacity}
use Rattle.std.specs.declared.alloc.Global.{Global}
use Rattle.page_list.specs.Listing.{Listing}

-- the items of the pages, one page after another
abbrev pub items_of : {T : Type 0} → List (Vec T Global) → List T
items_of pages = flat_map (λ p. p.items) pages

-- the index of the first item of each page, if that of the first page is `at`
abbrev pub starts_from : {T : Type 0} → ℕ → List (Vec T Global) → List ℕ
starts_from at [] = []
starts_from at (p ∷ pages) = at ∷ starts_from (at + length p.items) pages

-- the page has at most 256 items, and has memory for 256
pub record IsPage {T : Type 0} (page : Vec T Global) : Type 0 where
  pub bounded : length page.items ≤ 256
  pub roomy : 256 ≤ vec_capacity page

-- the page is empty, and has memory for 256 items
pub record IsEmptyPage {T : Type 0} (page : Vec T Global) : Type 0 where
  pub empty : page.items ≡ []
  pub roomy : 256 ≤ vec_capacity page

-- `pages` have a list of `len` items, and `starts` has the index of the first item of each page. There is at least one
-- spare page for each of `room` further items, and there is memory to put all spare pages among the others. `len` and
-- `room` add up to less than 2^64
pub record ArePages {T : Type 0} (pages : Vec (Vec T Global) Global) (starts : Listing ℕ)
    (spare : Vec (Vec T Global) Global) (len room : ℕ) : Type 0 where
  pub starts_are : starts.items ≡ starts_from 0 pages.items
  pub len_is : len ≡ length (items_of pages.items)
  pub countable : len + room < 2 ^ 64
  pub spared : room ≤ length spare.items
  pub pages_are : All IsPage pages.items
  pub spare_are : All IsEmptyPage spare.items
  pub pages_roomy : length pages.items + length spare.items ≤ vec_capacity pages
  pub starts_roomy : length spare.items ≤ starts.room

-- the slot of index `i` is `offset` in the page at index `page`. An item is there if the list has more than `i` items.
-- If the list has exactly `i` items, another item may be put there
pub record IsSlot {T : Type 0} (pages : List (Vec T Global)) (i page offset : ℕ) : Type 0 where
  pub there : page < length pages
  pub counted : length (items_of (take page pages)) + offset ≡ i
  pub begins : slice_index (starts_from 0 pages) page + offset ≡ i
  pub upto : (p : Vec T Global) → p ≡ slice_index_or pages page p → offset ≤ length p.items
  pub within : (p : Vec T Global) → p ≡ slice_index_or pages page p → i < length (items_of pages) → offset
      < length p.items
