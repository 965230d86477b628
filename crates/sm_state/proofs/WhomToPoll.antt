-- The manager to poll outranks the one that polls, and there is one if any manager outranks it.
use Rattle.std.proofs.Common.{◌≡◌, ◌⊎◌, inl, inr, Bool, true, false, cond, List, [], ◌∷◌, refl, ap, subst}
use Rattle.std.proofs.lemmas.Bool.{and_from, and_parts, or_left}
use Rattle.std.specs.List.{list_any}
use Rattle.std.specs.Option.{option_or}
use Rattle.std.specs.Prelude.{Contains, Option, Some, None, ◌&&◌, ◌||◌, find, not}
use Rattle.attr_codec.specs.declared.sm_info.SmInfo.{SmInfo}
use Rattle.smp_bytes.proofs.Members.{contains_here, contains_later}
use Rattle.sm_state.specs.declared.election.SeenManager.{SeenManager}
use Rattle.sm_state.specs.declared.state.SmState.TheVariants.{NotActive, Master}
use Rattle.sm_state.specs.Conduct.{is_heard}
use Rattle.sm_state.specs.Election.{PolledLaw, IsPolledOrNone, best_with, better, greatest_of, is_above, is_heard_master, next_best, outranks, says}
use Rattle.sm_state.specs.Precedence.{wins}

-- one of the list, which passes
abbrev IsOne : (SeenManager → Bool) → List SeenManager → SeenManager → Type 0
IsOne test seen s = Contains seen s × (test s ≡ true)

later : (test : SeenManager → Bool) (x : SeenManager) (seen : List SeenManager) (s : SeenManager) → IsOne test seen s → IsOne test (x ∷ seen) s
later test x seen s one = (contains_later x s seen one.0, one.1)

here : (test : SeenManager → Bool) (x : SeenManager) (seen : List SeenManager) (s : SeenManager) → x ≡ s → test x ≡ true → IsOne test (x ∷ seen) s
here test x seen s same e = subst (IsOne test (x ∷ seen)) same (contains_here x seen, e)

found_one : (test : SeenManager → Bool) (seen : List SeenManager) (s : SeenManager) → find test seen ≡ Some s → IsOne test seen s
found_one test [] s e = absurd (cc)
found_one test (x ∷ seen) s e =
    elim (test x) as (λ t. test x ≡ t → cond t (Some x) (find test seen) ≡ Some s → IsOne test (x ∷ seen) s) [
      | true ↦ λ q k. here test x seen s (cc) q
      | false ↦ λ q k. later test x seen s (found_one test seen s k)
    ] refl e

better_of : (best : Option SeenManager) (x s : SeenManager) → better best x ≡ s → (best ≡ Some s) ⊎ (x ≡ s)
better_of None x s e = inr e
better_of (Some b) x s e =
    elim (wins x.info b.info) as (λ t. cond t x b ≡ s → (Some b ≡ Some s) ⊎ (x ≡ s)) [
      | true ↦ λ k. inr k
      | false ↦ λ k. inl (ap (λ (y : SeenManager). Some y) k)
    ] e

module _ (test : SeenManager → Bool) where
  -- the best so far stays, or one that passes comes after it
  best_is : (seen : List SeenManager) (best : Option SeenManager) (s : SeenManager) → best_with test seen best ≡ Some s → (best ≡ Some s) ⊎ IsOne test seen s
  best_is [] best s e = inl e
  best_is (x ∷ seen) best s e =
      elim (test x) as (λ t. test x ≡ t → best_with test seen (next_best t best x) ≡ Some s → (best ≡ Some s) ⊎ IsOne test (x ∷ seen) s) [
        | true ↦ λ q k. (elim (best_is seen (Some (better best x)) s k) [
          | inl same ↦ (elim (better_of best x s (cc)) [
            | inl old ↦ inl old
            | inr new ↦ inr (here test x seen s new q)
          ])
          | inr one ↦ inr (later test x seen s one)
        ])
        | false ↦ λ q k. (elim (best_is seen best s k) [
          | inl old ↦ inl old
          | inr one ↦ inr (later test x seen s one)
        ])
      ] refl e

  -- there is none only if none passes
  none_is : (seen : List SeenManager) (best : Option SeenManager) → best_with test seen best ≡ None → (best ≡ None) × (list_any test seen ≡ false)
  none_is [] best e = (e, refl)
  none_is (x ∷ seen) best e =
      elim (test x) as (λ t. test x ≡ t → best_with test seen (next_best t best x) ≡ None → (best ≡ None) × ((t || list_any test seen) ≡ false)) [
        | true ↦ λ q k. absurd (let some = (none_is seen (Some (better best x)) k).0 in cc)
        | false ↦ λ q k. none_is seen best k
      ] refl e

-- a master that is heard outranks
masters_outrank : (own : SmInfo) (s : SeenManager) → is_heard_master own s ≡ true → outranks own s.info ≡ true
masters_outrank own s e =
    let parts = and_parts (is_heard own s.info) (says Master s.info) e in
    and_from (is_heard own s.info) (says Master s.info || (not (says NotActive s.info) && wins s.info own)) parts.0
    (or_left (says Master s.info) (not (says NotActive s.info) && wins s.info own) parts.1)

pub polled_law : PolledLaw
polled_law own seen = by_master (find (is_heard_master own) seen) refl
  where
    by_greatest : (o : Option SeenManager) → greatest_of (is_above own) seen ≡ o → IsPolledOrNone own seen o
    by_greatest None e = (none_is (is_above own) seen None e).1
    by_greatest (Some s) e = elim (best_is (is_above own) seen None s e) [ inl none ↦ absurd (cc) | inr one ↦ one ]

    by_master : (o : Option SeenManager) → find (is_heard_master own) seen ≡ o → IsPolledOrNone own seen (option_or o (greatest_of (is_above own) seen))
    by_master None e = by_greatest (greatest_of (is_above own) seen) refl
    by_master (Some s) e = let one = found_one (is_heard_master own) seen s e in (one.0, masters_outrank own s one.1)
