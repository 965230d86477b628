-- What is placed next has the earliest key of those that may be.
use Rattle.std.proofs.Common.{◌≡◌, ℕ, zero, suc, List, [], ◌∷◌, inl, inr, refl, sym, ap, subst, Bool, true, false, cond, not, ◌==◌}
use Rattle.std.proofs.lemmas.Bool.{cases_eq, eq-eqb}
use Rattle.std.specs.Prelude.{filter, Contains, length}
use Rattle.std.specs.List.{list_any}
use Rattle.smp_bytes.proofs.Members.{contains_here, contains_later, contains_cases, contains_none, contains_filter, contains-from_filter}
use Rattle.port_graph.specs.declared.edge.Edge.{Edge}
use Rattle.port_graph.specs.Heads.{edges_at, LeadToVertices}
use Rattle.port_graph.proofs.WalkLemmas.{list_any_at}
use Rattle.spread_labels.specs.Orders.{numbers_from, earliest, is_beside, choose, next_placed, without}
use Rattle.spread_labels.specs.Orders.{grown_behind, Beside, AreKeys, IsEarlier, AreEarlier, KeysLaw}
use Rattle.spread_labels.proofs.Growing.{earliest_there, beside, Parts, next_is, moved, no_others, at_first}

module _ (before : ℕ → ℕ → Bool) (keys : AreKeys before) where
  -- what is not before a is not before b, where b is not after a
  not_before : (y x r : ℕ) → before y x ≡ false → before x r ≡ false → before y r ≡ false
  not_before y x r e k =
      elim (before y r) as (λ b. before y r ≡ b → b ≡ false) [
        | false ↦ λ q. refl
        | true ↦ λ q. (elim (cases_eq x r) [
          | inl same ↦ absurd (cc (ap (before y) same))
          | inr other ↦ (let p = keys.trans y r x q (keys.total x r other k) in absurd (cc))
        ])
      ] refl

  first_not_before : (x y r : ℕ) → before y x ≡ true → before y r ≡ false → before x r ≡ false
  first_not_before x y r e k =
      elim (before x r) as (λ b. before x r ≡ b → b ≡ false) [
        | false ↦ λ q. refl
        | true ↦ λ q. (let p = keys.trans y x r e q in absurd (cc))
      ] refl

  none_before : (ys : List ℕ) (x z : ℕ) → Contains (x ∷ ys) z → before z (earliest before x ys) ≡ false
  none_before [] x z h =
      elim (contains_cases x z [] h) [
        | inl same ↦ subst (λ (w : ℕ). before w x ≡ false) same (keys.not_itself x)
        | inr k ↦ absurd (contains_none z k)
      ]
  none_before (y ∷ ys) x z h =
      elim (before y x) as (λ b. before y x ≡ b → before z (earliest before (cond b y x) ys) ≡ false) [
        | true ↦ λ q. (elim (contains_cases x z (y ∷ ys) h) [
          | inl same ↦ subst (λ (w : ℕ). before w (earliest before y ys) ≡ false) same
              (first_not_before x y (earliest before y ys) q (none_before ys y y (contains_here y ys)))
          | inr k ↦ none_before ys y z k
        ])
        | false ↦ λ q. (elim (contains_cases x z (y ∷ ys) h) [
          | inl same ↦ none_before ys x z (subst (λ (w : ℕ). Contains (x ∷ ys) w) same (contains_here x ys))
          | inr k ↦ (elim (contains_cases y z ys k) [
            | inl same ↦ subst (λ (w : ℕ). before w (earliest before x ys) ≡ false) same
                (not_before y x (earliest before x ys) q (none_before ys x x (contains_here x ys)))
            | inr j ↦ none_before ys x z (contains_later x z ys j)
          ])
        ])
      ] refl

  module _ (edges : List (List Edge)) (lead : LeadToVertices edges) where
    tested : (placed : List ℕ) (s : ℕ) → Beside edges placed s → is_beside edges placed s ≡ true
    tested placed s b =
        list_any_at (λ (e : Edge). list_any (λ p. p == e.to) placed) (edges_at edges s) b.0 b.1
        (list_any_at (λ p. p == b.0.to) placed b.0.to b.2 (eq-eqb b.0.to b.0.to refl))

    chosen : (placed : List ℕ) (x : ℕ) (rest front : List ℕ) → filter (is_beside edges placed) (x ∷ rest) ≡ front → (y : ℕ) → Contains (x ∷ rest) y
        → IsEarlier edges before placed (choose before x rest front) y
    chosen placed x rest [] e y h = record {
      front = λ b. absurd
          (contains_none y (subst (λ (ys : List ℕ). Contains ys y) e (contains_filter (is_beside edges placed) (x ∷ rest) y h (tested placed y b))));
      alone = λ no_edge. none_before rest x y h;
    }
    chosen placed x rest (z ∷ zs) e y h =
        let there = subst (λ (ws : List ℕ). Contains ws (earliest before z zs)) (sym e) (earliest_there before zs z) in
        let b = beside edges placed (earliest before z zs) (contains-from_filter (is_beside edges placed) (x ∷ rest) (earliest before z zs) there).1 in
        record {
          front = λ d. (
            b,
            none_before zs z y (subst (λ (ws : List ℕ). Contains ws y) e (contains_filter (is_beside edges placed) (x ∷ rest) y h (tested placed y d))),
          );
          alone = λ no_edge. absurd (no_edge b);
        }

    are_earlier : (n : ℕ) (placed rest : List ℕ) → Parts edges placed rest → AreEarlier edges before placed (grown_behind edges before n placed rest)
    are_earlier zero placed rest parts = tt
    are_earlier (suc n) placed [] parts = tt
    are_earlier (suc n) placed (x ∷ rest) parts =
        let s = next_placed edges before placed x rest in
        let i = next_is edges lead before placed x rest parts in
        let m = moved edges lead before placed (x ∷ rest) s parts i.0 in (
          λ y h.
              chosen placed x rest (filter (is_beside edges placed) (x ∷ rest)) refl y
              (contains-from_filter (λ z. not (z == s)) (x ∷ rest) y (no_others edges lead before n (s ∷ placed) (without s (x ∷ rest)) m y h)).0,
          are_earlier n (s ∷ placed) (without s (x ∷ rest)) m,
        )

pub keys_in_words : KeysLaw
keys_in_words edges before lead keys = are_earlier before keys edges lead (length edges) [] (numbers_from 0 (length edges)) (at_first edges lead before)
