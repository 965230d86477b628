-- Nothing is missing: each end port holds a LID, and each usable switch has tables.
use Rattle.std.proofs.Common.{◌≡◌, ◌+◌, ◌||◌, ℕ, List, [], ◌∷◌, refl, sym, ap, ◌∙◌, subst, arith, inl, inr, Bool, true, false, cond, length, map}
use Rattle.std.specs.Prelude.{Contains, Option, None, Some, IsTrue, ◌↔◌, ◌==◌, count_by, not}
use Rattle.std.specs.Option.{option_map_or}
use Rattle.std.proofs.lemmas.Bool.{eqb-true, eq-eqb}
use Rattle.std.proofs.lemmas.List.Sums.{sum_by-cons}
use Rattle.std.proofs.lemmas.Nat.{pow_pos}
use Rattle.fact_store.specs.View.{Facts, cells_of}
use Rattle.subnet_view.specs.declared.end_port.EndPort.{EndPort}
use Rattle.subnet_view.specs.EndPort.{end_ports}
use Rattle.subnet_view.specs.Reading.{Cells, switches}
use Rattle.subnet_view.proofs.Members.{contains_here, contains_later, contains_cases, contains_none, list_any_true, list_any_at}
use Rattle.subnet_view.proofs.Apart.{contains_map, contains-from_map}
use Rattle.audit_counts.specs.Gaps.{unusable_nodes}
use Rattle.audit_counts.proofs.Gaps.{nodes_law}
use Rattle.lid_assign.specs.Lids.{Given, IsNoRoom, lids, lmc_of, top_of, top_among}
use Rattle.lid_assign.proofs.LidLaws.{lids_law}
use Rattle.lft_blocks.specs.Rule.{RuleValue}
use Rattle.lft_blocks.specs.Entries.{attachment_of_lid, block_count, blocks}
use Rattle.lft_blocks.specs.Plan.{SwitchTable, plan_of, lid_routing}
use Rattle.held_tables.specs.declared.held.HeldLid.{HeldLid}
use Rattle.held_tables.specs.declared.held.HeldSwitch.{HeldSwitch}
use Rattle.held_tables.specs.Held.{HeldPlan, nothing_held}
use Rattle.plan_tables.specs.PlanTables.{held_plan, with_top}
use Rattle.plan_tables.proofs.OwnedLids.{owner_at, owner_listed}
use Rattle.held_tables.specs.Tables.{is_same_end}
use Rattle.plan_tables.proofs.HeldPlans.{made}
use Rattle.packet_walks.proofs.Judged.{same_ends, same_itself}
use Rattle.audit_counts.specs.declared.unmatched.Unmatched.{Unmatched}
use Rattle.audit_report.specs.Passing.{EachHasTables, EachHoldsLid, EachNodeIsKnown, HoldsLid, HoldsTables, IsWholeFor}
use Rattle.audit_counts.specs.FirstFew.{Listed}
use Rattle.audit_counts.specs.Unmatched.{IsUnmatched, has_lid, is_held, lidless, tableless, unusable}

-- all elements of a list pass exactly if the number of those that do not is 0
module _ {X : Type 0} (p : X → Bool) where
  abbrev left : List X → ℕ
  left xs = count_by (λ x. not (p x)) xs

  one_more : (x : X) (xs : List X) → left (x ∷ xs) ≡ cond (not (p x)) 1 0 + left xs
  one_more x xs = sum_by-cons (λ (y : X). cond (not (p y)) 1 0) x xs

  first_passes : (b : Bool) (n : ℕ) → cond (not b) 1 0 + n ≡ 0 → (b ≡ true) × (n ≡ 0)
  first_passes true n h = (refl, omega (arith, h))
  first_passes false n h = absurd (omega (arith, h))

  pub none_left : (xs : List X) → left xs ≡ 0 → (x : X) → Contains xs x → p x ≡ true
  none_left [] none x there = absurd (contains_none x there)
  none_left (y ∷ xs) none x there =
      let parts = first_passes (p y) (left xs) (sym (one_more y xs) ∙ none) in
      elim (contains_cases y x xs there) [
        | inl e ↦ ap p (sym e) ∙ parts.0
        | inr later ↦ none_left xs parts.1 x later
      ]

  pub all_pass : (xs : List X) → ((x : X) → Contains xs x → p x ≡ true) → left xs ≡ 0
  all_pass [] h = refl
  all_pass (x ∷ xs) h =
      let first : ◌≡◌ {A = ℕ} (cond (not (p x)) 1 0) 0 = ap (λ t. cond (not t) 1 0) (h x (contains_here x xs)) in
      let rest = all_pass xs (λ y k. h y (contains_later x y xs k)) in
      omega (arith, one_more x xs, first, rest)

none_there : {X : Type 0} (xs : List X) (x : X) → length xs ≡ 0 → Contains xs x → ⊥
none_there xs x e c = let less = c.1 in omega arith

empty : {X : Type 0} (xs : List X) → ((x : X) → Contains xs x → ⊥) → length xs ≡ 0
empty [] none = refl
empty (x ∷ xs) none = absurd (none x (contains_here x xs))

module _ (cells : Cells) (held : HeldPlan) where
  -- what is held, in words
  lid_held : (e : EndPort) → has_lid held e ≡ true → HoldsLid held e
  lid_held e h =
      let i = list_any_at (λ (line : HeldLid). is_same_end e line.port) held.lids h in
      record { line = i.0; is_held = i.1; is_its = same_ends e i.0.port i.2 }

  held_lid : (e : EndPort) → HoldsLid held e → has_lid held e ≡ true
  held_lid e h =
      list_any_true (λ (line : HeldLid). is_same_end e line.port) held.lids h.line h.is_held (ap (is_same_end e) h.is_its ∙ same_itself e)

  tables_held : (g : ℕ) → is_held held g ≡ true → HoldsTables held g
  tables_held g h =
      let i = list_any_at (λ (s : HeldSwitch). s.guid == g) held.switches h in
      record { switch = i.0; is_held = i.1; is_it = eqb-true i.0.guid g i.2 }

  held_tables : (g : ℕ) → HoldsTables held g → is_held held g ≡ true
  held_tables g h = list_any_true (λ (s : HeldSwitch). s.guid == g) held.switches h.switch h.is_held (eq-eqb h.switch.guid g h.is_it)

  -- if there is an end port, each switch has tables
  some_tables : (most : ℕ) (ports : List EndPort) → ((e : EndPort) (g : ℕ) → Contains ports e → Contains (switches cells) g → HoldsTables held g)
      → (((tableless most cells held).count == 0) || (length ports == 0)) ≡ true
  some_tables most [] h = elim ((tableless most cells held).count == 0) as (λ t. (t || true) ≡ true) [ true ↦ refl | false ↦ refl ]
  some_tables most (e ∷ ports) h =
      ap (λ t. t || (length (e ∷ ports) == 0))
      (eq-eqb ((tableless most cells held).count) 0 (all_pass (is_held held) (switches cells) (λ g there. held_tables g (h e g (contains_here e ports) there))))

  pub lids_is : (most : ℕ) (found : Unmatched) → IsUnmatched most cells held found → IsTrue (found.lidless.count == 0) ↔ EachHoldsLid cells held
  lids_is most found differ =
      let many = ap (λ (l : Listed EndPort). l.count) differ.lidless_are in (
        λ t e there.
            let none : (lidless most cells held).count ≡ 0 = sym many ∙ eqb-true found.lidless.count 0 t in
            lid_held e (none_left (has_lid held) (end_ports cells) none e there),
        λ w. eq-eqb found.lidless.count 0 (many ∙ all_pass (has_lid held) (end_ports cells) (λ e there. held_lid e (w e there))),
      )

  pub tables_is : (most : ℕ) (found : Unmatched) (b : Bool) → IsUnmatched most cells held found
      → b ≡ ((found.tableless.count == 0) || (length (end_ports cells) == 0)) → IsTrue b ↔ EachHasTables cells held
  tables_is most found b differ is =
      let many = ap (λ (l : Listed ℕ). l.count) differ.tableless_are in (
        λ t e g there switch.
            (elim (found.tableless.count == 0) as
            (λ t. (found.tableless.count == 0) ≡ t → (t || (length (end_ports cells) == 0)) ≡ true → HoldsTables held g) [
              | true ↦ λ q k.
                  let none : (tableless most cells held).count ≡ 0 = sym many ∙ eqb-true found.tableless.count 0 q in
                  tables_held g (none_left (is_held held) (switches cells) none g switch)
              | false ↦ λ q k. absurd (none_there (end_ports cells) e (eqb-true (length (end_ports cells)) 0 k) there)
            ] refl (sym is ∙ t)),
        λ w. is ∙ ap (λ n. (n == 0) || (length (end_ports cells) == 0)) many ∙ some_tables most (end_ports cells) w,
      )

  pub nodes_is : (most : ℕ) (found : Unmatched) → IsUnmatched most cells held found → IsTrue (found.unusable.count == 0) ↔ EachNodeIsKnown cells
  nodes_is most found differ =
      let many = ap (λ (l : Listed ℕ). l.count) differ.unusable_are in (
        λ t g named. (elim ((nodes_law cells).each g named) [
          | inl known ↦ known
          | inr there ↦ absurd (none_there (unusable_nodes cells) g (sym many ∙ eqb-true found.unusable.count 0 t) there)
        ]),
        λ w. eq-eqb found.unusable.count 0 (many ∙ empty (unusable_nodes cells)
            (λ g there. (let gap = (nodes_law cells).only g there in gap.1 (w g gap.0)))),
      )

-- a plan has a LID for each end port, and tables for each usable switch
module _ (by : RuleValue) (lmc : ℕ) (facts : Facts) (has_room : ¬ (IsNoRoom lmc (cells_of facts))) (clear : EachNodeIsKnown (cells_of facts)) where
  abbrev its_cells : Cells
  its_cells = cells_of facts

  abbrev given : Given
  given = lids lmc its_cells

  given_port : (e : EndPort) → Contains (end_ports its_cells) e → (first : ℕ) × Contains given.ports (e, first)
  given_port e there =
      let listed = subst (λ (es : List EndPort). Contains es e) (sym (lids_law lmc facts has_room).end_ports_in_order) there in
      let i = contains-from_map (λ (x : EndPort × ℕ). x.0) given.ports e listed in
      (i.0.1, subst (λ (y : EndPort). Contains given.ports (y, i.0.1)) i.2 i.1)

  lid_there : (e : EndPort) (top : ℕ) → Contains (end_ports its_cells) e → HoldsLid (made by lmc its_cells top) e
  lid_there e top there =
      let (first, listed) = given_port e there in
      let owned = owner_at lmc facts has_room e first first listed (omega arith) (omega (arith, pow_pos (lmc_of given e))) in
      record { line = record { lid = first; port = e }; is_held = owner_listed lmc facts has_room e first owned; is_its = refl }

  table_there : (g top : ℕ) → Contains (switches its_cells) g → HoldsTables (made by lmc its_cells top) g
  table_there g top there =
      let F : ℕ → SwitchTable = λ s.
      record { guid = s; blocks = blocks (attachment_of_lid its_cells given) (lid_routing by lmc its_cells given).next (block_count (top_of given)) s } in
      record {
        switch = with_top top (F g);
        is_held = contains_map (with_top top) (map F (switches its_cells)) (F g) (contains_map F (switches its_cells) g there);
        is_it = refl;
      }

  no_top : (ports : List (EndPort × ℕ)) (x : EndPort × ℕ) → top_among lmc ports ≡ None → Contains ports x → ⊥
  no_top [] x e c = contains_none x c
  no_top (y ∷ ports) x e c = absurd (cc)

  pub plan_whole : IsWholeFor its_cells (held_plan (plan_of by lmc its_cells))
  plan_whole =
      let few : Option ℕ → HeldPlan = λ o. option_map_or (λ top. made by lmc its_cells top) o nothing_held in
      elim (top_of given) as (λ o. top_of given ≡ o → IsWholeFor its_cells (few o)) [
        | None ↦ λ none. record {
          lids = λ e there. (let (first, listed) = given_port e there in absurd (no_top given.ports (e, first) none listed));
          tables = λ e g there switch. (let (first, listed) = given_port e there in absurd (no_top given.ports (e, first) none listed));
          nodes = clear;
        }
        | Some top ↦ λ is. record {
          lids = λ e there. lid_there e top there;
          tables = λ e g there switch. table_there g top switch;
          nodes = clear;
        }
      ] refl
