-- The LIDs for which packets wait in a credit loop of a step, LID by LID up to the greatest top of both tables.
use Rattle.std.proofs.Common.{length-append, ◌≡◌, ◌<◌, ◌≤◌, ◌+◌, ◌/◌, ℕ, zero, suc, true, false, List, [], ◌∷◌, ◌++◌, length, replicate, refl, sym, ap, ◌∙◌, subst, arith, max, inl, inr, ◌⊎◌, cond}
use Rattle.std.specs.Prelude.{Option, None, Some, not, slice_index_or, slice_set, map, ◌==◌}
use Rattle.std.proofs.lemmas.Bool.{and_parts, cases_eq, cases_lt, eq-eqb}
use Rattle.std.proofs.lemmas.Grind.{get_or-set_at}
use Rattle.std.proofs.lemmas.List.{get_or-set_other, get_or_past, length-set}
use Rattle.std.proofs.lemmas.List.FromFn.{length-map-range_with_len}
use Rattle.port_graph.specs.declared.edge.Edge.{Edge}
use Rattle.subnet_view.specs.Reading.{Cells, switches}
use Rattle.held_tables.specs.Held.{HeldPlan}
use Rattle.held_tables.specs.declared.far_end.Far.{Far}
use Rattle.held_tables.specs.declared.far_end.Far.TheVariants.{Nothing, Switch, Port}
use Rattle.packet_walks.specs.Edges.{edge_by, edge_to, edges_of, greatest_top}
use Rattle.held_tables.specs.Switches.{far_of, row_of}
use Rattle.held_tables.specs.Tables.{entry_for}
use Rattle.audit_channels.specs.Column.{number_of, TakesAcross}
use Rattle.audit_channels.proofs.Columns.{same_edge}
use Rattle.step_loops.specs.LidsInLoop.{AreLoopLids, AreNoted, IsLeastLid, IsNoted, TakesFrom, TakesHere, are_known, turned}
use Rattle.next_tables.specs.Mixtures.{TakesBy, TakesInStep, WaitsInStep}
use Rattle.audit_channels.specs.ChannelOrders.{GoesOn, IsCycle}
use Rattle.step_loops.specs.StepOrder.{WaitsFor}
use Rattle.step_loops.proofs.InStep.{above_both}

-- edges leave by a port from 1 to 254 --------------------------------------------------------------
edge_port : (port : ℕ) (far : Far) (first : Edge) → edge_to port far ≡ Some first → first.port ≡ port
edge_port port Nothing first e = absurd (cc)
edge_port port (Switch index) first e = sym (ap (λ (x : Edge). x.port) (same_edge (record { port = port; to = index }) first e))
edge_port port (Port q) first e = absurd (cc)

module _ (cells : Cells) (held : HeldPlan) (lid : ℕ) where
  port_by : (g entry : ℕ) (first : Edge) → edge_by (row_of cells g) entry ≡ Some first → first.port < 256
  port_by g entry first =
      elim (entry == 0) as (λ t. cond t None (edge_to entry (slice_index_or (row_of cells g) entry Nothing)) ≡ Some first → first.port < 256) [
        | true ↦ λ e. absurd (cc)
        | false ↦ λ e. (elim (cases_lt entry 255) [
          | inl less ↦ (let port = edge_port entry (slice_index_or (row_of cells g) entry Nothing) first e in omega arith)
          | inr past ↦
              (let nothing = get_or_past (row_of cells g) entry Nothing (omega (arith, length-map-range_with_len (far_of cells g) 0 255)) in
              let none : None ≡ Some first = ap (edge_to entry) (sym nothing) ∙ e in absurd (cc))
        ])
      ]

  port_among : (gs : List ℕ) (i : ℕ) (first : Edge)
      → slice_index_or (map (λ g. edge_by (row_of cells g) (entry_for held lid g)) gs) i None ≡ Some first → first.port < 256
  port_among [] i first e = absurd (cc)
  port_among (g ∷ gs) zero first e = port_by g (entry_for held lid g) first e
  port_among (g ∷ gs) (suc i) first e = port_among gs i first e

  pub has_port : (before : List (Option Edge)) → before ≡ edges_of cells held lid → (i : ℕ) (first : Edge)
      → slice_index_or before i None ≡ Some first → first.port < 256
  has_port before is i first e = port_among (switches cells) i first (ap (λ es. slice_index_or es i None) (sym is) ∙ e)

-- so a channel is taken from its own switch ----------------------------------------------------------
abbrev pub HavePorts : List (Option Edge) → Type 0
HavePorts before = (i : ℕ) (first : Edge) → slice_index_or before i None ≡ Some first → first.port < 256

at_its_own : (before now : List (Option Edge)) (a b : ℕ) → HavePorts before → TakesBy before now a b → TakesFrom before now a b
at_its_own before now a b have t =
    let port = have t.0 t.1.first t.1.leaves in
    let is = t.1.channel_is in
    let own : t.0 ≡ a / 256 = omega arith in
    subst (λ (v : ℕ). TakesAcross before now v a b) own t.1

module _ (held next : List (Option Edge)) (a b : ℕ) where
  pub here : HavePorts held → HavePorts next → TakesInStep held next a b → TakesHere held next a b
  here h k (inl t) = inl (at_its_own held held a b h t)
  here h k (inr (inl t)) = inr (inl (at_its_own held next a b h t))
  here h k (inr (inr (inl t))) = inr (inr (inl (at_its_own next held a b k t)))
  here h k (inr (inr (inr t))) = inr (inr (inr (at_its_own next next a b k t)))

  pub anywhere : TakesHere held next a b → TakesInStep held next a b
  anywhere (inl t) = inl (a / 256, t)
  anywhere (inr (inl t)) = inr (inl (a / 256, t))
  anywhere (inr (inr (inl t))) = inr (inr (inl (a / 256, t)))
  anywhere (inr (inr (inr t))) = inr (inr (inr (a / 256, t)))

-- the two, by the edge of the channel's switch and by that of the next one
module _ (before now : List (Option Edge)) (a b : ℕ) (first second : Edge) (leaves : slice_index_or before (a / 256) None ≡ Some first)
    (leaves_there : slice_index_or now first.to None ≡ Some second) where
  pub taken : (a ≡ number_of (a / 256) first) → b ≡ number_of first.to second → TakesFrom before now a b
  taken own on = record { first = first; second = second; leaves = leaves; leaves_there = leaves_there; channel_is = own; next_is = on }

  pub taken_by : TakesFrom before now a b → (a ≡ number_of (a / 256) first) × (b ≡ number_of first.to second)
  taken_by t =
      let one : t.first ≡ first = same_edge t.first first (sym t.leaves ∙ leaves) in
      let to : t.first.to ≡ first.to = ap (λ (e : Edge). e.to) one in
      let two : t.second ≡ second = same_edge t.second second (sym t.leaves_there ∙ ap (λ v. slice_index_or now v None) to ∙ leaves_there) in
      (t.channel_is ∙ ap (number_of (a / 256)) one, t.next_is ∙ (λ i. number_of (to i) (two i)))

-- of channels in a circle, those that come after each are as many
pub turned_long : (cycle : List ℕ) → length (turned cycle) ≡ length cycle
turned_long [] = refl
turned_long (channel ∷ later) = omega (arith, length-append later (channel ∷ []))

-- the channels of a cycle, one after the other -------------------------------------------------------
module _ (held next : List (Option Edge)) (lid : ℕ) (cycle after known : List ℕ) where
  -- the first have been looked at
  pub record NotedSoFar (count : ℕ) (new : List ℕ) : Type 0 where
    pub as_many : length new ≡ length known
    pub noted : (i : ℕ) → i < count → i < length known
        → IsNoted held next lid (slice_index_or cycle i 0) (slice_index_or after i 0) (slice_index_or known i 0) (slice_index_or new i 0)
    pub later : (i : ℕ) → count ≤ i → slice_index_or new i 0 ≡ slice_index_or known i 0

  pub nothing_noted : NotedSoFar 0 known
  nothing_noted = record { as_many = refl; noted = λ i less within. absurd (omega arith); later = λ i past. refl }

  pub one_noted : (count value : ℕ) (old new : List ℕ) → NotedSoFar count old → count < length known
      → IsNoted held next lid (slice_index_or cycle count 0) (slice_index_or after count 0) (slice_index_or old count 0) value
      → new ≡ slice_set old count value → NotedSoFar (count + 1) new
  one_noted count value old new so less is put = record {
    as_many = ap length put ∙ length-set old count value ∙ so.as_many;
    noted = λ i before within. noted i before within;
    later = λ i past. stands i (λ e. let same = e in absurd (omega arith)) ∙ so.later i (omega arith);
  }
    where
      long : count < length old
      long = let many = so.as_many in omega arith

      stands : (i : ℕ) → (i ≡ count → ⊥) → slice_index_or new i 0 ≡ slice_index_or old i 0
      stands i apart = ap (λ xs. slice_index_or xs i 0) put ∙ get_or-set_other old count i value 0 apart

      goal_at : ℕ → Type 0
      goal_at i = IsNoted held next lid (slice_index_or cycle i 0) (slice_index_or after i 0) (slice_index_or known i 0) (slice_index_or new i 0)

      this : goal_at count
      this =
          subst (λ (k : ℕ). IsNoted held next lid (slice_index_or cycle count 0) (slice_index_or after count 0) k (slice_index_or new count 0))
          (so.later count (omega arith))
          (subst (IsNoted held next lid (slice_index_or cycle count 0) (slice_index_or after count 0) (slice_index_or old count 0))
          (sym (ap (λ xs. slice_index_or xs count 0) put ∙ get_or-set_at old count count value 0 refl long)) is)

      noted : (i : ℕ) → i < count + 1 → i < length known → goal_at i
      noted i before within =
          elim (cases_eq i count) [
            | inl same ↦ subst goal_at (sym same) this
            | inr apart ↦
                subst (IsNoted held next lid (slice_index_or cycle i 0) (slice_index_or after i 0) (slice_index_or known i 0))
                (sym (stands i apart)) (so.noted i (omega (arith, apart)) within)
          ]

  pub all_noted : (count : ℕ) (new : List ℕ) → NotedSoFar count new → length known ≤ count → AreNoted held next lid cycle after known new
  all_noted count new so past = record { as_many = so.as_many; each = λ i less. so.noted i (omega arith) less }

-- LID by LID -----------------------------------------------------------------------------------------
module _ (cells : Cells) (held next : HeldPlan) where
  -- of two channels by the LIDs up to a count: none is known, or the least is
  abbrev pub IsLeastUpTo : ℕ → ℕ → ℕ → ℕ → Type 0
  IsLeastUpTo count a b lid =
      ((lid ≡ 0) × ((other : ℕ) → 1 ≤ other → other ≤ count → ¬ (WaitsInStep cells held next other a b))) ⊎ IsLeastLid cells held next a b lid

  pub record LidsUpTo (count : ℕ) (cycle after lids : List ℕ) : Type 0 where
    pub as_many : length lids ≡ length cycle
    pub each : (i : ℕ) → i < length cycle → IsLeastUpTo count (slice_index_or cycle i 0) (slice_index_or after i 0) (slice_index_or lids i 0)

  zeros : (n i : ℕ) → ◌≡◌ {A = ℕ} (slice_index_or (replicate n 0) i 0) 0
  zeros zero i = refl
  zeros (suc n) zero = refl
  zeros (suc n) (suc i) = zeros n i

  many_zeros : (n : ℕ) → length (replicate {A = ℕ} n 0) ≡ n
  many_zeros zero = refl
  many_zeros (suc n) = ap suc (many_zeros n)

  pub none_known : (n : ℕ) (cycle after lids : List ℕ) → lids ≡ replicate n 0 → n ≡ length cycle → LidsUpTo 0 cycle after lids
  none_known n cycle after lids e all = record {
    as_many = ap length e ∙ many_zeros n ∙ all;
    each = λ i less. inl (ap (λ xs. slice_index_or xs i 0) e ∙ zeros n i, λ other low most. absurd (omega arith));
  }

  module _ (lid : ℕ) (low : 1 ≤ lid) (before now : List (Option Edge)) (before_is : before ≡ edges_of cells held lid)
      (now_is : now ≡ edges_of cells next lid) where
    they_wait : (a b : ℕ) → TakesHere before now a b → WaitsInStep cells held next lid a b
    they_wait a b t =
        subst (λ (c : List (Option Edge)). TakesInStep (edges_of cells held lid) c a b) now_is
        (subst (λ (c : List (Option Edge)). TakesInStep c now a b) before_is (anywhere before now a b t))

    taken_here : (a b : ℕ) → WaitsInStep cells held next lid a b → TakesHere before now a b
    taken_here a b w =
        here before now a b (has_port cells held lid before before_is) (has_port cells next lid now now_is)
        (subst (λ (c : List (Option Edge)). TakesInStep c now a b) (sym before_is)
        (subst (λ (c : List (Option Edge)). TakesInStep (edges_of cells held lid) c a b) (sym now_is) w))

    one_more : (count a b known new : ℕ) → lid ≡ count + 1 → IsLeastUpTo count a b known → IsNoted before now lid a b known new
        → IsLeastUpTo (count + 1) a b new
    one_more count a b known new at (inl none) (inl noted) = inr (record {
      is_lid = subst (λ (n : ℕ). 1 ≤ n) (sym noted.2) low;
      waits = subst (λ (n : ℕ). WaitsInStep cells held next n a b) (sym noted.2) (they_wait a b noted.1);
      least = λ other is_lid w. elim (cases_lt count other) [
        | inl past ↦ (let new_is = noted.2 in omega arith)
        | inr within ↦ absurd (none.1 other is_lid within w)
      ];
    })
    one_more count a b known new at (inl none) (inr kept) = inl (
      kept.0 ∙ none.0,
      λ other is_lid most w. elim (cases_lt count other) [
        | inl past ↦
            (let same : other ≡ lid = omega arith in
            kept.1 none.0 (taken_here a b (subst (λ (n : ℕ). WaitsInStep cells held next n a b) same w)))
        | inr within ↦ none.1 other is_lid within w
      ],
    )
    one_more count a b known new at (inr least) (inl noted) = (let some = least.is_lid in let none = noted.0 in absurd (omega arith))
    one_more count a b known new at (inr least) (inr kept) = inr (subst (IsLeastLid cells held next a b) (sym kept.0) least)

    pub more_lids : (count : ℕ) (cycle after known new : List ℕ) → LidsUpTo count cycle after known → lid ≡ count + 1
        → AreNoted before now lid cycle after known new → LidsUpTo (count + 1) cycle after new
    more_lids count cycle after known new so at noted = record {
      as_many = noted.as_many ∙ so.as_many;
      each = λ i less.
          one_more count (slice_index_or cycle i 0) (slice_index_or after i 0) (slice_index_or known i 0) (slice_index_or new i 0) at (so.each i less)
          (noted.each i (let many = so.as_many in omega arith));
    }

  -- each channel of a cycle waits for the one after it
  on_waits : (channel last : ℕ) (later : List ℕ) → GoesOn (WaitsFor cells held next) channel later last → (i : ℕ) → i < suc (length later)
      → WaitsFor cells held next (slice_index_or (channel ∷ later) i 0) (slice_index_or (later ++ last ∷ []) i 0)
  on_waits channel last [] h zero less = h
  on_waits channel last [] h (suc i) less = absurd (omega arith)
  on_waits channel last (c ∷ later) h zero less = h.0
  on_waits channel last (c ∷ later) h (suc i) less = on_waits c last later h.1 i (omega arith)

  each_waits : (cycle : List ℕ) → IsCycle (WaitsFor cells held next) cycle → (i : ℕ) → i < length cycle
      → WaitsFor cells held next (slice_index_or cycle i 0) (slice_index_or (turned cycle) i 0)
  each_waits [] h i less = absurd h
  each_waits (channel ∷ later) h i less = on_waits channel channel later h i less

  found : (count a b lid : ℕ) → max (greatest_top cells held) (greatest_top cells next) ≤ count → WaitsFor cells held next a b
      → IsLeastUpTo count a b lid → IsLeastLid cells held next a b lid
  found count a b lid past w (inl none) =
      elim (cases_lt (max (greatest_top cells held) (greatest_top cells next)) w.lid) [
        | inl over ↦ absurd (above_both cells held next w.lid a b over w.waits)
        | inr within ↦ absurd (none.1 w.lid w.is_lid (omega arith) w.waits)
      ]
  found count a b lid past w (inr least) = least

  pub all_lids : (count : ℕ) (cycle after lids : List ℕ) → LidsUpTo count cycle after lids → after ≡ turned cycle
      → max (greatest_top cells held) (greatest_top cells next) ≤ count → IsCycle (WaitsFor cells held next) cycle
      → AreLoopLids cells held next cycle lids
  all_lids count cycle after lids so is past waiting = record {
    as_many = so.as_many;
    each = λ i less.
        found count (slice_index_or cycle i 0) (slice_index_or (turned cycle) i 0) (slice_index_or lids i 0) past (each_waits cycle waiting i less)
        (subst (λ (others : List ℕ). IsLeastUpTo count (slice_index_or cycle i 0) (slice_index_or others i 0) (slice_index_or lids i 0)) is (so.each i less));
  }

  -- if each LID is known, they are the least
  pub known_lids : (count : ℕ) (cycle after lids : List ℕ) → LidsUpTo count cycle after lids → after ≡ turned cycle → are_known lids ≡ true
      → AreLoopLids cells held next cycle lids
  known_lids count cycle after lids so is known = record {
    as_many = so.as_many;
    each = λ i less.
        least_known count (slice_index_or cycle i 0) (slice_index_or (turned cycle) i 0) (slice_index_or lids i 0)
        (some_lid lids i (let many = so.as_many in omega arith) known)
        (subst (λ (others : List ℕ). IsLeastUpTo count (slice_index_or cycle i 0) (slice_index_or others i 0) (slice_index_or lids i 0)) is (so.each i less));
  }
    where
      some : (x : ℕ) → not (x == 0) ≡ true → x ≡ 0 → ⊥
      some x h e = let none : not (x == 0) ≡ false = ap not (eq-eqb x 0 e) in cc

      some_lid : (xs : List ℕ) (i : ℕ) → i < length xs → are_known xs ≡ true → slice_index_or xs i 0 ≡ 0 → ⊥
      some_lid [] i less h e = absurd (omega arith)
      some_lid (x ∷ xs) zero less h e = some x (and_parts (not (x == 0)) (are_known xs) h).0 e
      some_lid (x ∷ xs) (suc i) less h e = some_lid xs i (omega arith) (and_parts (not (x == 0)) (are_known xs) h).1 e

      least_known : (count a b lid : ℕ) → (lid ≡ 0 → ⊥) → IsLeastUpTo count a b lid → IsLeastLid cells held next a b lid
      least_known count a b lid is (inl none) = absurd (is none.0)
      least_known count a b lid is (inr least) = least
