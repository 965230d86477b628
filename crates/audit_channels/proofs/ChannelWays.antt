-- Walks over channels, each of which follows the one before, until a channel recurs.
use Rattle.std.proofs.Common.{◌≡◌, ◌<◌, ◌≤◌, ◌+◌, ◌-◌, ℕ, zero, suc, nat_eq, Bool, true, false, cond, List, [], ◌∷◌, ◌++◌, length, length-append, get_or, take, drop, length-drop, refl, sym, ap, ◌∙◌, subst, arith}
use Rattle.std.specs.Prelude.{None, Some, position, slice_index_or, ◌==◌, ◌||◌, unwrap_or}
use Rattle.std.specs.List.{list_any, find, position_or_len, IsDistinct}
use Rattle.std.proofs.lemmas.Cmp.{nat_eq_equiv}
use Rattle.std.proofs.lemmas.List.Sums.{fails_before_first}
use Rattle.std.proofs.lemmas.List.Quantifiers.{position-Some}
use Rattle.std.proofs.lemmas.Bool.{eqb-true, ltb-false}
use Rattle.std.proofs.lemmas.Map.Keys.{IsDistinct-push}
use Rattle.std.proofs.lemmas.Map.Steps.{length-le_from_distinct_below}
use Rattle.std.proofs.lemmas.List.Folds.{list_any-append}
use Rattle.audit_channels.specs.ChannelOrders.{Follows, GoesOn, IsCycle}
use Rattle.audit_channels.specs.Numbers.{has_none, AreGiven}
use Rattle.audit_channels.proofs.Given.{none_there}
use Rattle.audit_channels.proofs.Passing.{IsFound, found}

-- each follows the one before, and another the last
abbrev Leads : List (List ℕ) → List ℕ → ℕ → Type 0
Leads waits [] at = Unit {0}
Leads waits (c ∷ way) at = GoesOn (Follows waits) c way at

goes_further : (waits : List (List ℕ)) (c at next : ℕ) (way : List ℕ) → GoesOn (Follows waits) c way at → Follows waits at next
    → GoesOn (Follows waits) c (way ++ at ∷ []) next
goes_further waits c at next [] h f = (h, f)
goes_further waits c at next (d ∷ way) h f = (h.0, goes_further waits d at next way h.1 f)

leads_further : (waits : List (List ℕ)) (at next : ℕ) (way : List ℕ) → Leads waits way at → Follows waits at next → Leads waits (way ++ at ∷ []) next
leads_further waits at next [] h f = f
leads_further waits at next (c ∷ way) h f = goes_further waits c at next way h f

leads_later : (waits : List (List ℕ)) (at c : ℕ) (way : List ℕ) → Leads waits (c ∷ way) at → Leads waits way at
leads_later waits at c [] h = tt
leads_later waits at c (d ∷ way) h = h.1

-- from the index of a channel that comes again on, a cycle
cycle_at : (waits : List (List ℕ)) (at : ℕ) (way : List ℕ) (k d : ℕ) → Leads waits way at → k < length way → get_or way k d ≡ at → IsCycle (Follows waits) (drop k way)
cycle_at waits at [] k d h less e = absurd (omega arith)
cycle_at waits at (c ∷ way) zero d h less e = subst (λ (last : ℕ). GoesOn (Follows waits) c way last) (sym e) h
cycle_at waits at (c ∷ way) (suc k) d h less e = cycle_at waits at way k d (leads_later waits at c way h) (omega arith) e

-- what is left of a list, from an index on
whole : (n : ℕ) (xs : List ℕ) → length xs ≡ n → take n xs ≡ xs
whole n [] e = let z : n ≡ 0 = sym e in ap (λ k. take k []) z
whole zero (x ∷ xs) e = absurd (omega arith)
whole (suc n) (x ∷ xs) e = ap (λ ys. x ∷ ys) (whole n xs (omega arith))

pub rest_is : (index : ℕ) (xs : List ℕ) → take (length xs - index) (drop index xs) ≡ drop index xs
rest_is index xs = whole (length xs - index) (drop index xs) (length-drop index xs)

no_index : (t : Bool) (n : ℕ) → cond t (Some n) None ≡ None → t ≡ false
no_index true n e = cc
no_index false n e = refl

-- a way over channels without a number
pub record OnWay (waits : List (List ℕ)) (numbers way : List ℕ) (at : ℕ) : Type 0 where
  pub is_held_up : has_none numbers at ≡ true
  pub channels : (c : ℕ) → list_any (nat_eq c) way ≡ true → c < length waits
  pub apart : IsDistinct nat_eq way
  pub leads : Leads waits way at

pub at_first : (waits : List (List ℕ)) (numbers way : List ℕ) (first : ℕ) → way ≡ [] → has_none numbers first ≡ true → OnWay waits numbers way first
unfolding IsDistinct
at_first waits numbers way first e h =
    subst (λ (xs : List ℕ). OnWay waits numbers xs first) (sym e)
    (record { is_held_up = h; channels = λ c k. absurd (cc); apart = tt; leads = tt })

module _ (waits : List (List ℕ)) (numbers way : List ℕ) (at : ℕ) (given : AreGiven waits numbers) (h : OnWay waits numbers way at) where
  pub cycle_there : (index : ℕ) → list_any (λ c. at == c) way ≡ true → index ≡ unwrap_or (position (λ c. at == c) way) 0
      → (index ≤ length way) × IsCycle (Follows waits) (drop index way)
  cycle_there index e is =
      elim (position (λ c. at == c) way) as (λ o. position (λ c. at == c) way ≡ o → index ≡ unwrap_or o 0
      → (index ≤ length way) × IsCycle (Follows waits) (drop index way)) [
        | None ↦ λ q k.
            let past : length way ≤ position_or_len (λ c. at == c) way = ltb-false _ _ (no_index _ _ q) in
            let f = found (λ c. at == c) way e in
            let less = f.there.1 in
            let fails : (at == get_or way f.there.0 f.x) ≡ false = fails_before_first (λ c. at == c) way f.there.0 f.x (omega arith) in
            let same : get_or way f.there.0 f.x ≡ f.x = f.there.2 in
            let passes : (at == get_or way f.there.0 f.x) ≡ true = ap (λ c. at == c) same ∙ f.passes in
            absurd (cc)
        | Some n ↦ λ q k.
            let p = position-Some (λ c. at == c) way n at q in
            let less = p.0 in
            let there : at ≡ get_or way n at = eqb-true at (get_or way n at) p.1 in
            (omega arith, subst (λ (m : ℕ). IsCycle (Follows waits) (drop m way)) (sym k) (cycle_at waits at way n at h.leads p.0 (sym there)))
      ] refl is

  module _ (new : List ℕ) (next : ℕ) (absent : list_any (λ c. at == c) way ≡ false) (new_is : new ≡ way ++ at ∷ [])
      (next_is : next ≡ unwrap_or (find (has_none numbers) (slice_index_or waits at [])) at) where
    here : (at < length numbers) × (slice_index_or numbers at 0 ≡ 0)
    here = none_there numbers at h.is_held_up

    held : IsFound (has_none numbers) (slice_index_or waits at [])
    held = found (has_none numbers) (slice_index_or waits at []) (given.held_up at here.0 here.1)

    next_found : next ≡ held.x
    next_found = next_is ∙ ap (λ o. unwrap_or o at) held.is

    below : (c : ℕ) → list_any (nat_eq c) (way ++ at ∷ []) ≡ true → c < length waits
    below c e =
        elim (list_any (nat_eq c) way) as (λ t. list_any (nat_eq c) way ≡ t → (t || (nat_eq c at || false)) ≡ true → c < length waits) [
          | true ↦ λ q k. h.channels c q
          | false ↦ λ q k. let same : c ≡ at = eqb-true c at (last (nat_eq c at) k) in let less = here.0 in let as_many = given.as_many in omega arith
        ] refl (sym (list_any-append (nat_eq c) way (at ∷ [])) ∙ e)
      where
        last : (t : Bool) → (t || false) ≡ true → t ≡ true
        last true e = refl
        last false e = cc

    pub further_on : OnWay waits numbers new next
    further_on =
        subst (λ (xs : List ℕ). OnWay waits numbers xs next) (sym new_is)
        (record {
          is_held_up = ap (has_none numbers) next_found ∙ held.passes;
          channels = below;
          apart = IsDistinct-push nat_eq_equiv way at h.apart absent;
          leads = leads_further waits at next way h.leads (subst (λ (n : ℕ). Follows waits at n) (sym next_found) held.there);
        })

    pub longer : length waits - length new < length waits - length way
    longer =
        let apart : IsDistinct nat_eq (way ++ at ∷ []) = IsDistinct-push nat_eq_equiv way at h.apart absent in
        let most = length-le_from_distinct_below (way ++ at ∷ []) (length waits) apart below in
        let long : length new ≡ length way + 1 = ap length new_is ∙ length-append way (at ∷ []) in
        let long_too : length (way ++ at ∷ []) ≡ length way + 1 = length-append way (at ∷ []) in
        omega arith
