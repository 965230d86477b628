-- The successor is the greatest of the candidates, and of equals the first.
use Rattle.std.proofs.Common.{◌≡◌, ◌<◌, ◌≤◌, inl, inr, Bool, true, false, cond, List, [], ◌∷◌, ◌++◌, refl, sym, ap, ◌∙◌, subst, arith}
use Rattle.std.proofs.lemmas.Bool.{and_from, and_parts, cases_order, cond-true, cond-false, eq-eqb, eqb-true, lt-ltb, ltb-true, or_cases, or_left, or_right}
use Rattle.std.proofs.lemmas.List.{append_assoc, append-nil}
use Rattle.std.proofs.lemmas.List.Elements.{filter-append}
use Rattle.std.specs.List.{AllByRecursion}
use Rattle.std.specs.Prelude.{Option, Some, None, ◌&&◌, ◌==◌, filter, nat_lt}
use Rattle.attr_codec.specs.declared.sm_info.SmInfo.{SmInfo}
use Rattle.sm_state.proofs.Winning.{wins_is_an_order}
use Rattle.sm_state.specs.Precedence.{wins}
use Rattle.sm_state.specs.declared.election.SeenManager.{SeenManager}
use Rattle.sm_state.specs.Election.{SuccessorLaw, IsFirstGreatest, IsSuccessorOrNone, better, best_with, is_candidate, next_best}

all_both : {X : Type 0} (P : X → Type 0) (xs ys : List X) → AllByRecursion P xs → AllByRecursion P ys → AllByRecursion P (xs ++ ys)
all_both P [] ys a b = b
all_both P (x ∷ xs) ys a b = (a.0, all_both P xs ys a.1 b)

all_mapped : {X : Type 0} (P Q : X → Type 0) → ((x : X) → P x → Q x) → (xs : List X) → AllByRecursion P xs → AllByRecursion Q xs
all_mapped P Q f [] a = a
all_mapped P Q f (x ∷ xs) a = (f x a.0, all_mapped P Q f xs a.1)

-- who does not win over another ----------------------------------------------------------------

by_priority : (a b : SmInfo) → b.priority < a.priority → wins a b ≡ true
by_priority a b h = or_left (nat_lt b.priority a.priority) (a.priority == b.priority && nat_lt a.guid b.guid) (lt-ltb b.priority a.priority h)

by_guid : (a b : SmInfo) → a.priority ≡ b.priority → a.guid < b.guid → wins a b ≡ true
by_guid a b same less =
    or_right (nat_lt b.priority a.priority) (a.priority == b.priority && nat_lt a.guid b.guid)
    (and_from (a.priority == b.priority) (nat_lt a.guid b.guid) (eq-eqb a.priority b.priority same) (lt-ltb a.guid b.guid less))

never_both : (b : Bool) → b ≡ true → b ≡ false → ⊥
never_both true e f = cc
never_both false e f = cc

no_greater_priority : (x b : SmInfo) → wins x b ≡ false → x.priority ≤ b.priority
no_greater_priority x b below = elim (cases_order x.priority b.priority) [
  | inl same ↦ omega (arith, same)
  | inr (inl less) ↦ omega (arith, less)
  | inr (inr more) ↦ absurd (never_both (wins x b) (by_priority x b more) below)
]

no_lesser_guid : (x b : SmInfo) → wins x b ≡ false → x.priority ≡ b.priority → b.guid ≤ x.guid
no_lesser_guid x b below same = elim (cases_order x.guid b.guid) [
  | inl twin ↦ omega (arith, twin)
  | inr (inl less) ↦ absurd (never_both (wins x b) (by_guid x b same less) below)
  | inr (inr more) ↦ omega (arith, more)
]

-- loses to each that wins over that one
wins_past : (a b x : SmInfo) → wins a b ≡ true → wins x b ≡ false → wins a x ≡ true
wins_past a b x above below = elim (or_cases (nat_lt b.priority a.priority) (a.priority == b.priority && nat_lt a.guid b.guid) above) [
  | inl h ↦ (let more = ltb-true b.priority a.priority h in
      let most = no_greater_priority x b below in
      by_priority a x (omega (arith, more, most)))
  | inr h ↦ (let parts = and_parts (a.priority == b.priority) (nat_lt a.guid b.guid) h in
      same_priority (eqb-true a.priority b.priority parts.0) (ltb-true a.guid b.guid parts.1))
]
  where
    same_priority : a.priority ≡ b.priority → a.guid < b.guid → wins a x ≡ true
    same_priority same less = elim (cases_order x.priority b.priority) [
      | inl twin ↦ (let most = no_lesser_guid x b below twin in by_guid a x (same ∙ sym twin) (omega (arith, less, most)))
      | inr (inl fewer) ↦ by_priority a x (omega (arith, same, fewer))
      | inr (inr more) ↦ absurd (never_both (wins x b) (by_priority x b more) below)
    ]

-- one manager after the other ----------------------------------------------------------------------

one_more : (managers : List SeenManager) (best : Option SeenManager) (s : SeenManager) → IsSuccessorOrNone managers best
    → IsSuccessorOrNone (managers ++ s ∷ []) (Some (better best s))
one_more managers None s h =
    record { before = []; after = []; among = ap (λ xs. xs ++ s ∷ []) h; greater = tt; unbeaten = tt }
one_more managers (Some b) s h = by (wins s.info b.info) refl
  where
    by : (t : Bool) → wins s.info b.info ≡ t → IsFirstGreatest (managers ++ s ∷ []) (cond t s b)
    by true e =
        record {
          before = h.before ++ b ∷ h.after;
          after = [];
          among = ap (λ xs. xs ++ s ∷ []) h.among;
          greater = all_both (λ (x : SeenManager). wins s.info x.info ≡ true) h.before (b ∷ h.after)
              (all_mapped (λ (x : SeenManager). wins b.info x.info ≡ true) (λ (x : SeenManager). wins s.info x.info ≡ true)
              (λ x k. wins_is_an_order.in_turn s.info b.info x.info e k) h.before h.greater) (
                e,
                all_mapped (λ (x : SeenManager). wins x.info b.info ≡ false) (λ (x : SeenManager). wins s.info x.info ≡ true)
                    (λ x k. wins_past s.info b.info x.info e k) h.after h.unbeaten,
              );
          unbeaten = tt;
        }
    by false e =
        record {
          before = h.before;
          after = h.after ++ s ∷ [];
          among = ap (λ xs. xs ++ s ∷ []) h.among ∙ append_assoc h.before (b ∷ h.after) (s ∷ []);
          greater = h.greater;
          unbeaten = all_both (λ (x : SeenManager). wins x.info b.info ≡ false) h.after (s ∷ []) h.unbeaten (e, tt);
        }

module _ (own : SmInfo) where
  one_more_seen : (seen : List SeenManager) (best : Option SeenManager) (s : SeenManager) → IsSuccessorOrNone (filter (is_candidate own) seen) best
      → IsSuccessorOrNone (filter (is_candidate own) (seen ++ s ∷ [])) (next_best (is_candidate own s) best s)
  one_more_seen seen best s h = by (is_candidate own s) refl
    where
      by : (t : Bool) → is_candidate own s ≡ t → IsSuccessorOrNone (filter (is_candidate own) (seen ++ s ∷ [])) (cond t (Some (better best s)) best)
      by true e =
          subst (λ (xs : List SeenManager). IsSuccessorOrNone xs (Some (better best s)))
          (sym (filter-append (is_candidate own) seen (s ∷ [])
          ∙ ap (λ ys. filter (is_candidate own) seen ++ ys) (cond-true (is_candidate own s) (s ∷ []) [] e)))
          (one_more (filter (is_candidate own) seen) best s h)
      by false e =
          subst (λ (xs : List SeenManager). IsSuccessorOrNone xs best)
          (sym (filter-append (is_candidate own) seen (s ∷ [])
          ∙ ap (λ ys. filter (is_candidate own) seen ++ ys) (cond-false (is_candidate own s) (s ∷ []) [] e)
          ∙ append-nil (filter (is_candidate own) seen)))
          h

  all_seen : (seen rest : List SeenManager) (best : Option SeenManager) → IsSuccessorOrNone (filter (is_candidate own) seen) best
      → IsSuccessorOrNone (filter (is_candidate own) (seen ++ rest)) (best_with (is_candidate own) rest best)
  all_seen seen [] best h = subst (λ (xs : List SeenManager). IsSuccessorOrNone (filter (is_candidate own) xs) best) (sym (append-nil seen)) h
  all_seen seen (s ∷ rest) best h =
      subst (λ (xs : List SeenManager). IsSuccessorOrNone (filter (is_candidate own) xs) (best_with (is_candidate own) rest (next_best (is_candidate own s) best s)))
      (append_assoc seen (s ∷ []) rest)
      (all_seen (seen ++ s ∷ []) rest (next_best (is_candidate own s) best s) (one_more_seen seen best s h))

pub successor_law : SuccessorLaw
successor_law own seen = all_seen own [] seen None refl
