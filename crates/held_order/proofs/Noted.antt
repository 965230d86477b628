-- The turns that are noted are those that packets make.
use Rattle.std.proofs.Common.{◌≡◌, ℕ, zero, suc, ◌+◌, ◌*◌, ◌/◌, ◌<◌, ◌≤◌, Bool, true, false, List, [], ◌∷◌, ◌++◌, length, get_or, refl, sym, ap, ◌∙◌, subst, arith, inl, inr, ◌⊎◌, Option, None, Some, Vec, Global}
use Rattle.std.specs.Prelude.{◌==◌, ◌%◌, Contains, replicate, slice_get, slice_index_or, slice_set}
use Rattle.std.specs.Option.{option_map_or}
use Rattle.std.proofs.lemmas.Bool.{cases_eq, cases_lt}
use Rattle.std.proofs.lemmas.Option.{slice_get_past}
use Rattle.std.proofs.lemmas.List.{get_or-set_same, get_or-set_other, get_or_past}
use Rattle.std.proofs.lemmas.List.Elements.{Contains-append_left, Contains-append_right, Contains-append_cases}
use Rattle.port_graph.specs.declared.edge.Edge.{Edge}
use Rattle.subnet_view.specs.Reading.{Cells, switches}
use Rattle.subnet_view.proofs.Members.{contains_here, contains_later, contains_cases, contains_none}
use Rattle.held_tables.specs.Held.{HeldPlan}
use Rattle.held_tables.specs.declared.far_end.Far.{Far}
use Rattle.held_tables.specs.declared.far_end.Far.TheVariants.{Nothing, Switch, Port}
use Rattle.held_tables.specs.Switches.{far_by, row_of}
use Rattle.held_tables.specs.Tables.{entry_for}
use Rattle.packet_walks.specs.Edges.{edges_of}
use Rattle.audit_channels.specs.Column.{number_of}
use Rattle.audit_channels.specs.ChannelOrders.{AreWaits, Follows}
use Rattle.audit_channels.specs.Waiting.{WaitsFor, channel_count}
use Rattle.next_tables.proofs.Hops.{channel_leads, column_at, edge_is}
use Rattle.next_tables.specs.SwitchPositions.{Leads, switch_at}
use Rattle.held_order.specs.declared.turns.SwitchTurn.{SwitchTurn}
use Rattle.held_order.specs.Turns.{AreTurns, IsNoted, IsOver, IsTurn, IsWithTurn, IsWithTurns, lists_of}

-- a channel over which a wire leads to a switch is one of a usable switch
pub channel_within : (cells : Cells) (next k : ℕ) → far_by cells next ≡ Switch k → next / 256 < length (switches cells)
channel_within cells next k h =
    elim (cases_lt (next / 256) (length (switches cells))) [
      | inl less ↦ less
      | inr more ↦ let none : far_by cells next ≡ Nothing =
          ap (λ o. option_map_or (λ g. slice_index_or (row_of cells g) (next % 256) Nothing) o Nothing)
          (slice_get_past (switches cells) (next / 256) more) in absurd (cc)
    ]

switch_same : (j k : ℕ) → Switch j ≡ Switch k → j ≡ k
switch_same j k e = cc

module _ (cells : Cells) (channel next : ℕ) (old new : List (List SwitchTurn)) where
  -- if a channel leads to no switch, there is no turn
  pub no_turn : new ≡ old → ((k : ℕ) → far_by cells next ≡ Switch k → ⊥) → IsWithTurn cells channel next old new
  no_turn same none = record {
    as_many = ap length same;
    each = λ i j k. (
      λ h. inl (subst (λ (ts : List (List SwitchTurn)). IsNoted ts i j k) same h),
      λ h. elim h [
        | inl was ↦ subst (λ (ts : List (List SwitchTurn)). IsNoted ts i j k) (sym same) was
        | inr over ↦ absurd (none k over.to)
      ],
    );
  }

  -- the turn is put behind those of its switch
  pub with_turn : (to : ℕ) (row : List SwitchTurn) → far_by cells next ≡ Switch to → next / 256 < length old → row ≡ slice_index_or old (next / 256) []
      → new ≡ slice_set old (next / 256) (row ++ record { from = channel / 256; to = to } ∷ []) → IsWithTurn cells channel next old new
  with_turn to row far less row_is e =
      let at : ℕ = next / 256 in
      let turn : SwitchTurn = record { from = channel / 256; to = to } in
      let here : slice_index_or new at [] ≡ row ++ turn ∷ [] =
      ap (λ ts. slice_index_or ts at []) e ∙ get_or-set_same old at (row ++ turn ∷ []) [] less in
      record {
        as_many = ap length e ∙ set_length old at (row ++ turn ∷ []);
        each = λ i j k. elim (cases_eq j at) [
          | inl same ↦ (
            λ h. elim (Contains-append_cases row (turn ∷ []) (record { from = i; to = k })
                (subst (λ (ts : List SwitchTurn). Contains ts (record { from = i; to = k })) (ap (λ x. slice_index_or new x []) same ∙ here) h)) [
                  | inl was ↦ inl (subst (λ (ts : List SwitchTurn). Contains ts (record { from = i; to = k })) (row_is ∙ ap (λ x. slice_index_or old x []) (sym same)) was)
                  | inr is ↦ (elim (contains_cases turn (record { from = i; to = k }) [] is) [
                    | inl eq ↦ inr (record {
                      from = sym (ap (λ (t : SwitchTurn). t.from) eq);
                      at = same;
                      to = far ∙ ap (λ (t : SwitchTurn). Switch t.to) eq;
                    })
                    | inr other ↦ absurd (contains_none (record { from = i; to = k }) other)
                  ])
                ],
            λ h. subst (λ (ts : List SwitchTurn). Contains ts (record { from = i; to = k })) (sym (ap (λ x. slice_index_or new x []) same ∙ here)) (elim h [
              | inl was ↦ Contains-append_left row (turn ∷ []) (record { from = i; to = k })
                  (subst (λ (ts : List SwitchTurn). Contains ts (record { from = i; to = k })) (ap (λ x. slice_index_or old x []) same ∙ sym row_is) was)
              | inr over ↦ Contains-append_right row (turn ∷ []) (record { from = i; to = k })
                  (subst (λ (t : SwitchTurn). Contains (turn ∷ []) t) (turn_is i k over.from (switch_same to k (sym far ∙ over.to))) (contains_here turn []))
            ]),
          )
          | inr differs ↦
              let kept : slice_index_or new j [] ≡ slice_index_or old j [] =
              ap (λ ts. slice_index_or ts j []) e ∙ get_or-set_other old at j (row ++ turn ∷ []) [] differs in (
                λ h. inl (subst (λ (ts : List SwitchTurn). Contains ts (record { from = i; to = k })) kept h),
                λ h. elim h [
                  | inl was ↦ subst (λ (ts : List SwitchTurn). Contains ts (record { from = i; to = k })) (sym kept) was
                  | inr over ↦ absurd (differs over.at)
                ],
              )
        ];
      }
    where
      set_length : {X : Type 0} (xs : List X) (i : ℕ) (x : X) → length (slice_set xs i x) ≡ length xs
      set_length [] i x = refl
      set_length (y ∷ xs) zero x = refl
      set_length (y ∷ xs) (suc i) x = ap suc (set_length xs i x)

      turn_is : (i k : ℕ) → i ≡ channel / 256 → to ≡ k → ◌≡◌ {A = SwitchTurn} (record { from = channel / 256; to = to }) (record { from = i; to = k })
      turn_is i k a b = λ j. record { from = sym a j; to = b j }

-- the list of a vector
pub list_at : (ts : List (Vec SwitchTurn Global)) (i : ℕ) (v d : Vec SwitchTurn Global) → v ≡ get_or ts i d → i < length ts
    → v.items ≡ slice_index_or (lists_of ts) i []
list_at [] i v d e h = absurd (omega arith)
list_at (t ∷ ts) zero v d e h = ap (λ (x : Vec SwitchTurn Global). x.items) e
list_at (t ∷ ts) (suc i) v d e h = list_at ts i v d e (omega arith)

-- those into the channels of a list, one after the other
pub none_yet : (cells : Cells) (channel : ℕ) (turns : List (List SwitchTurn)) → IsWithTurns cells channel [] turns turns
none_yet cells channel turns = record {
  as_many = refl;
  each = λ i j k. (λ h. inl h, λ h. elim h [ inl was ↦ was | inr some ↦ absurd (contains_none some.0 some.1) ]);
}

pub one_more : (cells : Cells) (channel next : ℕ) (before : List ℕ) (old mid new : List (List SwitchTurn)) → IsWithTurns cells channel before old mid
    → IsWithTurn cells channel next mid new → IsWithTurns cells channel (before ++ next ∷ []) old new
one_more cells channel next before old mid new some one = record {
  as_many = one.as_many ∙ some.as_many;
  each = λ i j k. (
    λ h. elim ((one.each i j k).0 h) [
      | inl was ↦ (elim ((some.each i j k).0 was) [
        | inl first ↦ inl first
        | inr there ↦ inr (there.0, Contains-append_left before (next ∷ []) there.0 there.1, there.2)
      ])
      | inr over ↦ inr (next, Contains-append_right before (next ∷ []) next (contains_here next []), over)
    ],
    λ h. elim h [
      | inl first ↦ (one.each i j k).1 (inl ((some.each i j k).1 (inl first)))
      | inr there ↦ (elim (Contains-append_cases before (next ∷ []) there.0 there.1) [
        | inl was ↦ (one.each i j k).1 (inl ((some.each i j k).1 (inr (there.0, was, there.2))))
        | inr is ↦ (elim (contains_cases next there.0 [] is) [
          | inl same ↦ (one.each i j k).1 (inr (subst (λ (x : ℕ). IsOver cells channel x i j k) (sym same) there.2))
          | inr other ↦ absurd (contains_none there.0 other)
        ])
      ])
    ],
  );
}

-- the turns from the channels below a number into those that follow them
pub record SoFar (cells : Cells) (waits : List (List ℕ)) (count : ℕ) (turns : List (List SwitchTurn)) : Type 0 where
  pub as_many : length turns ≡ length (switches cells)
  pub each : (i j k : ℕ) → (IsNoted turns i j k → (a : ℕ) × (b : ℕ) × (a < count) × Follows waits a b × IsOver cells a b i j k)
      × ((a b : ℕ) → a < count → Follows waits a b → IsOver cells a b i j k → IsNoted turns i j k)

pub none_so_far : (cells : Cells) (waits : List (List ℕ)) (count : ℕ) (turns : List (List SwitchTurn)) → turns ≡ replicate count [] → count ≡ length (switches cells)
    → SoFar cells waits 0 turns
none_so_far cells waits count turns e n = record {
  as_many = ap length e ∙ long count ∙ n;
  each = λ i j k. (
    λ h. absurd (contains_none (record { from = i; to = k }) (subst (λ (ts : List SwitchTurn). Contains ts (record { from = i; to = k })) (ap (λ ts. slice_index_or ts j []) e ∙ empty count j) h)),
    λ a b less follows over. absurd (omega arith),
  );
}
  where
    no_turns : List SwitchTurn
    no_turns = []

    long : (n : ℕ) → length (replicate n no_turns) ≡ n
    long zero = refl
    long (suc n) = ap suc (long n)

    empty : (n j : ℕ) → slice_index_or (replicate n no_turns) j [] ≡ []
    empty zero j = refl
    empty (suc n) zero = refl
    empty (suc n) (suc j) = empty n j

pub more_so_far : (cells : Cells) (waits : List (List ℕ)) (count : ℕ) (old new : List (List SwitchTurn)) → SoFar cells waits count old
    → IsWithTurns cells count (slice_index_or waits count []) old new → SoFar cells waits (count + 1) new
more_so_far cells waits count old new so one = record {
  as_many = one.as_many ∙ so.as_many;
  each = λ i j k. (
    λ h. elim ((one.each i j k).0 h) [
      | inl was ↦ let it = (so.each i j k).0 was in (it.0, it.1, (let less = it.2 in omega arith), it.3, it.4)
      | inr there ↦ (count, there.0, omega arith, there.1, there.2)
    ],
    λ a b less follows over. elim (cases_lt a count) [
      | inl low ↦ (one.each i j k).1 (inl ((so.each i j k).1 a b low follows over))
      | inr high ↦
          let same : a ≡ count = omega (arith, less, high) in
          (one.each i j k).1 (inr (b, subst (λ (x : ℕ). Follows waits x b) same follows, subst (λ (x : ℕ). IsOver cells x b i j k) same over))
    ],
  );
}

module _ (cells : Cells) (tables : HeldPlan) (waits : List (List ℕ)) (are : AreWaits (WaitsFor cells tables) (channel_count cells) waits) where
  -- a turn that is noted is one
  to_turn : (a b i j k : ℕ) → Follows waits a b → IsOver cells a b i j k → IsTurn cells tables i j k
  to_turn a b i j k follows over =
      let w = (are.follows a b).0 follows in
      let t = w.takes in
      let first = channel_leads cells tables w.lid w.switch t.first t.leaves in
      let second = channel_leads cells tables w.lid t.first.to t.second t.leaves_there in
      let i_is : w.switch ≡ i = sym first.0 ∙ ap (λ c. c / 256) (sym t.channel_is) ∙ sym over.from in
      let j_is : t.first.to ≡ j = sym second.0 ∙ ap (λ c. c / 256) (sym t.next_is) ∙ sym over.at in
      let k_is : t.second.to ≡ k = switch_same t.second.to k (sym second.1 ∙ ap (far_by cells) (sym t.next_is) ∙ over.to) in
      record {
        lid = w.lid;
        is_lid = w.is_lid;
        comes = leads_as w.lid w.switch t.first.to i j i_is j_is (edge_is cells tables w.lid w.switch t.first t.leaves);
        leaves = leads_as w.lid t.first.to t.second.to j k j_is k_is (edge_is cells tables w.lid t.first.to t.second t.leaves_there);
      }
    where
      leads_as : (lid a b i j : ℕ) → a ≡ i → b ≡ j → Leads cells tables lid a b → Leads cells tables lid i j
      leads_as lid a b i j e h l = subst (λ (x : ℕ). Leads cells tables lid x j) e (subst (λ (x : ℕ). Leads cells tables lid a x) h l)

  -- and one that is one is over two channels of which one follows the other
  from_turn : (i j k : ℕ) → IsTurn cells tables i j k → (a : ℕ) × (b : ℕ) × Follows waits a b × IsOver cells a b i j k
  from_turn i j k turn =
      let entry : ℕ → ℕ = λ x. entry_for tables turn.lid (switch_at cells x) in
      let first : Edge = record { port = entry i; to = j } in
      let second : Edge = record { port = entry j; to = k } in
      let leaves = column_at cells tables turn.lid i j turn.comes in
      let there = column_at cells tables turn.lid j k turn.leaves in
      let one = channel_leads cells tables turn.lid i first leaves in
      let other = channel_leads cells tables turn.lid j second there in (
        number_of i first,
        number_of j second,
        (are.follows (number_of i first) (number_of j second)).1 (record {
          lid = turn.lid;
          is_lid = turn.is_lid;
          switch = i;
          takes = record { first = first; second = second; leaves = leaves; leaves_there = there; channel_is = refl; next_is = refl };
        }),
        record { from = sym one.0; at = sym other.0; to = other.1 },
      )

  -- a channel that another follows is one of the channels
  follows_within : (a b : ℕ) → Follows waits a b → a < length waits
  follows_within a b h =
      elim (cases_lt a (length waits)) [
        | inl less ↦ less
        | inr more ↦ absurd (contains_none b (subst (λ (xs : List ℕ). Contains xs b) (get_or_past waits a [] more) h))
      ]

  pub all_turns : (count : ℕ) (turns : List (List SwitchTurn)) → SoFar cells waits count turns → count ≡ length waits → AreTurns cells tables turns
  all_turns count turns so all = record {
    as_many = so.as_many;
    each = λ i j k. (
      λ h. (let it = (so.each i j k).0 h in to_turn it.0 it.1 i j k it.3 it.4),
      λ turn. (let it = from_turn i j k turn in
          (so.each i j k).1 it.0 it.1 (let less = follows_within it.0 it.1 it.2 in omega (arith, less, all)) it.2 it.3),
    );
  }
