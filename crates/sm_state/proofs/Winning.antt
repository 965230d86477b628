-- Who wins over whom is a strict order.
use Rattle.std.proofs.Common.{◌≡◌, ◌<◌, true, ◌&&◌, ◌==◌, inl, inr, arith, sym, ◌∙◌}
use Rattle.std.proofs.lemmas.Bool.{and_from, and_parts, and_right, cases_order, eq-eqb, eqb-true, le-ltb, lt-ltb, ltb-true, or_cases, or_from, or_left, or_right}
use Rattle.std.specs.Prelude.{◌⊎◌, nat_lt}
use Rattle.attr_codec.specs.declared.sm_info.SmInfo.{SmInfo}
use Rattle.sm_state.specs.Precedence.{HasSameRank, WinsIsAnOrder, wins}

-- the greater priority, or the lesser GUID at the same
abbrev IsAhead : SmInfo → SmInfo → Type 0
IsAhead a b = (b.priority < a.priority) ⊎ ((a.priority ≡ b.priority) × (a.guid < b.guid))

ahead : (a b : SmInfo) → wins a b ≡ true → IsAhead a b
ahead a b e = elim (or_cases (nat_lt b.priority a.priority) (a.priority == b.priority && nat_lt a.guid b.guid) e) [
  | inl h ↦ inl (ltb-true b.priority a.priority h)
  | inr h ↦ (let parts = and_parts (a.priority == b.priority) (nat_lt a.guid b.guid) h in
      inr (eqb-true a.priority b.priority parts.0, ltb-true a.guid b.guid parts.1))
]

by_priority : (a b : SmInfo) → b.priority < a.priority → wins a b ≡ true
by_priority a b h = or_left (nat_lt b.priority a.priority) (a.priority == b.priority && nat_lt a.guid b.guid) (lt-ltb b.priority a.priority h)

by_guid : (a b : SmInfo) → a.priority ≡ b.priority → a.guid < b.guid → wins a b ≡ true
by_guid a b same less =
    or_right (nat_lt b.priority a.priority) (a.priority == b.priority && nat_lt a.guid b.guid)
    (and_from (a.priority == b.priority) (nat_lt a.guid b.guid) (eq-eqb a.priority b.priority same) (lt-ltb a.guid b.guid less))

in_turn : (a b c : SmInfo) → IsAhead a b → IsAhead b c → wins a c ≡ true
in_turn a b c (inl h) (inl k) = by_priority a c (omega (arith, h, k))
in_turn a b c (inl h) (inr k) = by_priority a c (omega (arith, h, k.0))
in_turn a b c (inr h) (inl k) = by_priority a c (omega (arith, h.0, k))
in_turn a b c (inr h) (inr k) = by_guid a c (h.0 ∙ k.0) (omega (arith, h.1, k.1))

one_wins : (a b : SmInfo) → (HasSameRank a b → ⊥) → (wins a b ≡ true) ⊎ (wins b a ≡ true)
one_wins a b differ = elim (cases_order a.priority b.priority) [
  | inl same ↦ (elim (cases_order a.guid b.guid) [
    | inl twin ↦ absurd (differ (same, twin))
    | inr (inl less) ↦ inl (by_guid a b same less)
    | inr (inr more) ↦ inr (by_guid b a (sym same) more)
  ])
  | inr (inl less) ↦ inr (by_priority b a less)
  | inr (inr more) ↦ inl (by_priority a b more)
]

pub wins_is_an_order : WinsIsAnOrder
wins_is_an_order =
    record {
      not_itself = λ a. or_from (nat_lt a.priority a.priority) (a.priority == a.priority && nat_lt a.guid a.guid)
          (le-ltb a.priority a.priority (omega arith))
          (and_right (a.priority == a.priority) (nat_lt a.guid a.guid) (le-ltb a.guid a.guid (omega arith)));
      in_turn = λ a b c e f. in_turn a b c (ahead a b e) (ahead b c f);
      one_wins = one_wins;
    }
