-- All indices from some index on, incremented: the rest of its group, and the numbers added to the later groups.
use Rattle.std.proofs.Common.{◌≡◌, ℕ, ◌+◌, ◌-◌, ◌*◌, ◌/◌, ◌<◌, ◌≤◌, ◌^◌, ◌⊎◌, List, ◌++◌, length, take, drop, map, sym, ap, ◌∙◌, subst, arith}
use Rattle.std.proofs.lemmas.List.{append-nil, take_all, drop_all, length-append, length-map, length-take, length-drop}
use Rattle.std.proofs.lemmas.List.Elements.{All-append, All-take, All-drop, All-map}
use Rattle.std.specs.Prelude.{Vec, All}
use Rattle.std.specs.declared.alloc.Global.{Global}
use Rattle.page_list.specs.Starts.{AreRaised, raised}
use Rattle.page_list.proofs.Shifts.{so_far}
use Rattle.page_list.proofs.Raised.{raised-shifted}

-- none is from the end on
pub none_from : (s : List ℕ) (from : ℕ) → length s ≤ from → s ≡ take from s ++ map (λ n. n + 1) (drop from s)
none_from s from h =
    sym (ap (λ (t : List ℕ). take from s ++ map (λ n. n + 1) t) (drop_all from s h) ∙ append-nil (take from s) ∙ take_all from s h)

-- as many as there were
pub length-counted : (s : List ℕ) (from : ℕ) → length (take from s ++ map (λ n. n + 1) (drop from s)) ≡ length s
length-counted s from =
    omega (arith, length-append (take from s) (map (λ k. k + 1) (drop from s)), length-map (drop from s) (λ k. k + 1), length-take from s, length-drop from s)

long : (s : List ℕ) (m n : ℕ) → length (so_far s m n) ≡ length s
long s m n =
    omega (
      arith,
      length-append (take m s) (map (λ k. k + 1) (take n (drop m s)) ++ drop n (drop m s)),
      length-append (map (λ k. k + 1) (take n (drop m s))) (drop n (drop m s)),
      length-map (take n (drop m s)) (λ k. k + 1),
      length-take m s,
      length-drop m s,
      length-take n (drop m s),
      length-drop n (drop m s),
    )

-- what fits when it is one more fits
fewer_fit : (s : List ℕ) → All (λ n. n + 1 < 2 ^ 64) s → All (λ n. n < 2 ^ 64) s
fewer_fit s h k d l = omega (arith, h k d l)

-- the indices are counted up
pub record IsCountedUp (starts starts' added added' : Vec ℕ Global) (from until : ℕ) : Type 0 where
  pub were : AreRaised starts added
  pub inside : from < length starts.items
  pub from_is : from ≤ until
  pub within : until ≤ 64 * (from / 64 + 1)
  pub to_end : (until ≡ 64 * (from / 64 + 1)) ⊎ (length starts.items ≤ until)
  pub first : starts'.items ≡ so_far starts.items from (until - from)
  pub later : added'.items ≡ so_far added.items (from / 64 + 1) ((length starts.items - 1) / 64 + 1 - (from / 64 + 1))

module _ {starts starts' added added' : Vec ℕ Global} {from until : ℕ} (g : IsCountedUp starts starts' added added' from until) where
  pub counted_items : raised added'.items 0 starts'.items ≡ take from (raised added.items 0 starts.items)
      ++ map (λ n. n + 1) (drop from (raised added.items 0 starts.items))
  counted_items =
      ap (λ (a : List ℕ). raised a 0 starts'.items) g.later
      ∙ ap (raised (so_far added.items (from / 64 + 1) ((length starts.items - 1) / 64 + 1 - (from / 64 + 1))) 0) g.first
      ∙ raised-shifted added.items starts.items from until g.inside g.were.grouped g.from_is g.within g.to_end

  pub counted_are : All (λ n. n + 1 < 2 ^ 64) (raised added.items 0 starts.items) → AreRaised starts' added'
  counted_are fits =
      let r = raised added.items 0 starts.items in
      record {
        grouped = omega (
          arith,
          g.were.grouped,
          ap length g.first,
          long starts.items from (until - from),
          ap length g.later,
          long added.items (from / 64
              + 1) ((length starts.items - 1) / 64 + 1 - (from / 64 + 1)),
        );
        fit =
            subst (All (λ (n : ℕ). n < 2 ^ 64)) (sym counted_items)
            (All-append (λ (n : ℕ). n < 2 ^ 64) (take from r) (map (λ n. n + 1) (drop from r))
            (All-take (λ (n : ℕ). n < 2 ^ 64) from r (fewer_fit r fits))
            (All-map (λ (n : ℕ). n < 2 ^ 64) (λ (n : ℕ). n + 1) (drop from r) (All-drop (λ (n : ℕ). n + 1 < 2 ^ 64) from r fits)));
      }
