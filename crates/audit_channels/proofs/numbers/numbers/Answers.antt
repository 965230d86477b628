-- A round more.
use Rattle.std.proofs.Common.{◌≡◌, ◌∙◌, ◌<◌, ◌==◌, ℕ, Bool, false, true, List, [], ◌∷◌, All, Global, Vec, ap, arith, filter, length, refl, rules, slice_index_or, subst, sym}
use Rattle.std.specs.List.{range_with_len}
use Rattle.std.specs.Vec.{with_items}
use Rattle.std.proofs.lemmas.Bool.{eq-eqb, eqb-true}
use Rattle.std.proofs.lemmas.List.{with_items_is}
use Rattle.audit_channels.specs.Numbers.{has_none, is_free, with_number}
use Rattle.audit_channels.proofs.Given.{all_given, fewer, free_within, length_with, more_given, none_given, there}
use Rattle.audit_channels.proofs.numbers.numbers.Goals as goal

-- whether a list is empty, by its length
no_items : (b : Bool) (len : ℕ) (xs : List ℕ) → b ≡ (len == 0) → len ≡ length xs → b ≡ true → xs ≡ []
no_items b len [] e l t = refl
no_items b len (x ∷ xs) e l t = let none = eqb-true len 0 (sym e ∙ t) in absurd (omega arith)

some_items : (b : Bool) (len : ℕ) (xs : List ℕ) → b ≡ (len == 0) → len ≡ length xs → b ≡ false → 0 < length xs
some_items b len [] e l t = let none = eq-eqb len 0 l in absurd (cc)
some_items b len (x ∷ xs) e l t = omega arith

-- the elements of the vector once they are given a number
next_is : (numbers : Vec ℕ Global) (free new : List ℕ) (number : ℕ) → new ≡ with_number free number numbers.items
    → (with_items numbers new).items ≡ with_number free number numbers.items
next_is numbers free new number e =
    with_items_is numbers new (ap length e ∙ length_with free number numbers.items ∙ sym numbers.ok.0) ∙ e

pub loop-numbers-init : goal.loop-numbers-init
loop-numbers-init c = record {
  so_far = none_given c.args.waits.now c.in_ok-numbers.numbers.items c.in_ok-left.left.items c.len.result
      (search rules) (c.in_ok-left.ensures ∙ ap (range_with_len 0) (c.len-2.ensures.count ∙ sym c.len.ensures.count)) c.len.ensures.count c.len.ensures.channels;
  free_is = c.in_ok-find_free.ensures ∙ (λ i. filter (is_free c.args.waits.now (c.deref.ensures.value i)) (c.deref-2.ensures.value i));
}

pub give-requires : goal.give-requires
give-requires c =
    let numbers = c.loop-numbers.numbers.items in
    let free = filter (is_free c.args.waits.now numbers) c.loop-numbers.left.items in
    subst (λ (channels : List ℕ). All (λ k. k < length c.deref_mut.result.now) channels)
    (sym (c.deref-in-loop-numbers.ensures.value ∙ c.loop-numbers.invariant.free_is))
    (subst (λ (ns : List ℕ). All (λ k. k < length ns) free) (sym c.deref_mut.ensures.value)
    (free_within c.args.waits.now numbers c.loop-numbers.left.items c.loop-numbers.invariant.so_far))

pub loop-numbers-smaller : goal.loop-numbers-smaller
loop-numbers-smaller c =
    let numbers = c.loop-numbers.numbers in
    let left = c.loop-numbers.left.items in
    let free = c.loop-numbers.free.items in
    let h = c.loop-numbers.invariant in
    let count : c.len-in-loop-numbers.result ≡ length left = c.len-in-loop-numbers.ensures ∙ c.loop-numbers.left.ok.0 in
    let given = next_is numbers free c.give.new.numbers (length left) (c.give.ensures
    ∙ (λ i. with_number (c.deref-in-loop-numbers.ensures.value i) (count i) (c.deref_mut.ensures.value i))) in
    let later_is = c.keep_without.ensures ∙ ap (λ (ns : List ℕ). filter (has_none ns) left) c.deref-in-loop-numbers-2.ensures.value in
    let some : 0 < length free = some_items _ _ free c.is_empty.ensures c.loop-numbers.free.ok.0 c.loop-numbers-test.true in
    fewer c.args.waits.now numbers.items left h.so_far free (with_items numbers c.give.new.numbers).items c.keep_without.new.channels.items h.free_is given later_is
    (slice_index_or free 0 0) (0, some, there free 0 (slice_index_or free 0 0) 0 some)

pub loop-numbers-preserved : goal.loop-numbers-preserved
loop-numbers-preserved c =
    let numbers = c.loop-numbers.numbers in
    let left = c.loop-numbers.left.items in
    let free = c.loop-numbers.free.items in
    let h = c.loop-numbers.invariant in
    let count : c.len-in-loop-numbers.result ≡ length left = c.len-in-loop-numbers.ensures ∙ c.loop-numbers.left.ok.0 in
    let given = next_is numbers free c.give.new.numbers (length left) (c.give.ensures
    ∙ (λ i. with_number (c.deref-in-loop-numbers.ensures.value i) (count i) (c.deref_mut.ensures.value i))) in
    let later_is = c.keep_without.ensures ∙ ap (λ (ns : List ℕ). filter (has_none ns) left) c.deref-in-loop-numbers-2.ensures.value in
    record {
      so_far = more_given c.args.waits.now numbers.items left h.so_far free (with_items numbers c.give.new.numbers).items c.keep_without.new.channels.items
          h.free_is given later_is;
      free_is = c.in_ok-find_free-2.ensures
          ∙ (λ i. filter (is_free c.args.waits.now (c.deref-in-loop-numbers-3.ensures.value i)) (c.deref-in-loop-numbers-4.ensures.value i));
    }

pub returns : goal.returns
returns c =
    let numbers = c.loop-numbers.numbers.items in
    let free = c.loop-numbers.free in
    all_given c.args.waits.now numbers c.loop-numbers.left.items c.loop-numbers.invariant.so_far
    (sym c.loop-numbers.invariant.free_is ∙ no_items _ _ free.items c.is_empty.ensures free.ok.0 c.loop-numbers-test.false)
