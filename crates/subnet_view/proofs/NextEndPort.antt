-- The next end port is the first end port after the last one.
use Rattle.std.proofs.Common.{◌≡◌, ℕ, List, [], ◌∷◌, ◌++◌, ◌⊎◌, inl, inr, refl, sym, ap, ◌∙◌, subst, Bool, true, false, cond, ◌&&◌}
use Rattle.std.proofs.lemmas.Bool.{both_ways}
use Rattle.std.proofs.lemmas.List.Elements.{Contains-append_left, Contains-push, Contains-push_cases, filter_map-append}
use Rattle.std.proofs.lemmas.List.{append-nil}
use Rattle.std.specs.Prelude.{Contains, Option, None, Some, MatchOption, filter}
use Rattle.std.specs.List.{filter_map, cons_option}
use Rattle.std.specs.Ordering.{is_lt}
use Rattle.fact_join.specs.declared.cell.Cell.{Cell}
use Rattle.reply_facts.specs.declared.key.Key.{Key}
use Rattle.reply_facts.specs.declared.value.Value.{Value}
use Rattle.fact_store.specs.View.{cells_of, Facts}
use Rattle.subnet_view.specs.declared.end_port.EndPort.{EndPort}
use Rattle.subnet_view.specs.Reading.{Cells}
use Rattle.subnet_view.specs.EndPort.{comes_before, guid_and_port, in_order, port_cmp, ports_after}
use Rattle.subnet_view.specs.EndPortAfter.{is_after, nearer}
use Rattle.subnet_view.proofs.Apart.{Apart, before_apart}
use Rattle.subnet_view.proofs.EndPortOrder.{Rises, port_total, in_order_rises, was_ordered, is_ordered, rises_once, less_from_test, from_not_less}
use Rattle.subnet_view.proofs.EndPorts.{found_end_ports, found_apart}
use Rattle.subnet_view.proofs.Members.{contains_here, contains_later, contains_cases, contains_as, contains_first, contains_filter, contains-from_filter}

abbrev Ends : Type 0
Ends = List (ℕ × EndPort)

-- the first of those among these that come after the last one
pub record IsNearest (last : Option (ℕ × EndPort)) (ends : Ends) (end : ℕ × EndPort) : Type 0 where
  pub among : Contains ends end
  pub behind : is_after last end ≡ true
  pub nearest : (x : ℕ × EndPort) → Contains ends x → is_after last x ≡ true → (x ≡ end) ⊎ (comes_before end x ≡ true)

abbrev pub IsNext : Option (ℕ × EndPort) → Ends → Option (ℕ × EndPort) → Type 0
IsNext last ends next = MatchOption next ((x : ℕ × EndPort) → Contains ends x → is_after last x ≡ false) (IsNearest last ends)

-- which comes first is transitive, and of two different ones one comes first
before_all : (a b c : ℕ × EndPort) → comes_before a b ≡ true → comes_before b c ≡ true → comes_before a c ≡ true
before_all a b c h k = ap is_lt (port_total.trans a b c (less_from_test (port_cmp a b) h) (less_from_test (port_cmp b c) k))

-- a further one
pub next_more : (last next : Option (ℕ × EndPort)) (ends : Ends) (end : ℕ × EndPort) → (Contains ends end → ⊥) → IsNext last ends next
    → IsNext last (ends ++ end ∷ []) (nearer last next end)
next_more last None ends end new none =
    elim (is_after last end) as (λ t. is_after last end ≡ t → IsNext last (ends ++ end ∷ []) (cond (t && true) (Some end) None)) [
      | true ↦ λ q. record {
        among = Contains-push ends end;
        behind = q;
        nearest = λ x h a. (elim (Contains-push_cases ends end x h) [ inl k ↦ absurd (both_ways _ (none x k) a) | inr e ↦ inl (sym e) ]);
      }
      | false ↦ λ q x h. (elim (Contains-push_cases ends end x h) [ inl k ↦ none x k | inr e ↦ ap (is_after last) (sym e) ∙ q ])
    ] refl
next_more last (Some next) ends end new n =
    elim (is_after last end) as (λ t. is_after last end ≡ t → IsNext last (ends ++ end ∷ []) (cond (t && comes_before end next) (Some end) (Some next))) [
      | true ↦ λ q. (elim (comes_before end next) as (λ t. comes_before end next ≡ t
          → IsNext last (ends ++ end ∷ []) (cond (true && t) (Some end) (Some next))) [
            | true ↦ λ r. record {
              among = Contains-push ends end;
              behind = q;
              nearest = λ x h a. (elim (Contains-push_cases ends end x h) [
                | inl k ↦ (elim (n.nearest x k a) [ inl e ↦ inr (ap (comes_before end) e ∙ r) | inr l ↦ inr (before_all end next x r l) ])
                | inr e ↦ inl (sym e)
              ]);
            }
            | false ↦ λ r. record {
              among = Contains-append_left ends (end ∷ []) next n.among;
              behind = n.behind;
              nearest = λ x h a. (elim (Contains-push_cases ends end x h) [
                | inl k ↦ n.nearest x k a
                | inr e ↦ inr (ap is_lt
                    (from_not_less next x (λ s. new (contains_as ends (s ∙ sym e) n.among)) (ap (λ (y : ℕ × EndPort). is_lt (port_cmp y next)) (sym e) ∙ r)))
              ]);
            }
          ] refl)
      | false ↦ λ q. record {
        among = Contains-append_left ends (end ∷ []) next n.among;
        behind = n.behind;
        nearest = λ x h a.
            (elim (Contains-push_cases ends end x h) [ inl k ↦ n.nearest x k a | inr e ↦ absurd (both_ways _ (ap (is_after last) (sym e) ∙ q) a) ]);
      }
    ] refl

-- what comes after one rises
rises_filter : (p : ℕ × EndPort → Bool) (xs : Ends) → Rises xs → Rises (filter p xs)
rises_filter p [] r = tt
rises_filter p (x ∷ xs) r =
    elim (p x) as (λ t. Rises (cond t (x ∷ filter p xs) (filter p xs))) [
      | true ↦ (λ y h. r.0 y (contains-from_filter p xs y h).0, rises_filter p xs r.1)
      | false ↦ rises_filter p xs r.1
    ]

all_after : (xs : Ends) → filter (λ x. true) xs ≡ xs
all_after [] = refl
all_after (x ∷ xs) = ap (λ ys. x ∷ ys) (all_after xs)

module _ (facts : Facts) where
  after_is : (last : Option (ℕ × EndPort)) → ports_after (cells_of facts) last ≡ filter (is_after last) (in_order (found_end_ports facts))
  after_is None = sym (all_after (in_order (found_end_ports facts)))
  after_is (Some last) = refl

  rises : (last : Option (ℕ × EndPort)) → Rises (filter (is_after last) (in_order (found_end_ports facts)))
  rises last = rises_filter (is_after last) (in_order (found_end_ports facts)) (in_order_rises (found_end_ports facts) (found_apart facts))

  -- where none comes after, nothing is left
  none_left : (xs : Ends) (last : Option (ℕ × EndPort)) → ((x : ℕ × EndPort) → Contains xs x → is_after last x ≡ false) → filter (is_after last) xs ≡ []
  none_left [] last h = refl
  none_left (x ∷ xs) last h =
      ap (λ t. cond t (x ∷ filter (is_after last) xs) (filter (is_after last) xs)) (h x (contains_here x xs))
      ∙ none_left xs last (λ y k. h y (contains_later x y xs k))

  -- the nearest one, and then what comes after it
  module _ (last : Option (ℕ × EndPort)) (end : ℕ × EndPort) (n : IsNearest last (found_end_ports facts) end) where
    follows : (x : ℕ × EndPort) → comes_before end x ≡ true → is_after last x ≡ true
    follows x h = elim last as (λ o. is_after o end ≡ true → is_after o x ≡ true) [ None ↦ λ b. refl | Some l ↦ λ b. before_all l end x b h ] n.behind

    near_rises : Rises (end ∷ filter (is_after (Some end)) (in_order (found_end_ports facts)))
    near_rises = (
      λ y h. less_from_test (port_cmp end y) (contains-from_filter (is_after (Some end)) (in_order (found_end_ports facts)) y h).1,
      rises (Some end),
    )

    to_near : (x : ℕ × EndPort) → Contains (filter (is_after last) (in_order (found_end_ports facts))) x
        → Contains (end ∷ filter (is_after (Some end)) (in_order (found_end_ports facts))) x
    to_near x h =
        let f = contains-from_filter (is_after last) (in_order (found_end_ports facts)) x h in
        elim (n.nearest x (was_ordered (found_end_ports facts) x f.0) f.1) [
          | inl e ↦ contains_first (filter (is_after (Some end)) (in_order (found_end_ports facts))) (sym e)
          | inr l ↦ contains_later end x (filter (is_after (Some end)) (in_order (found_end_ports facts)))
              (contains_filter (is_after (Some end)) (in_order (found_end_ports facts)) x f.0 l)
        ]

    from_near : (x : ℕ × EndPort) → Contains (end ∷ filter (is_after (Some end)) (in_order (found_end_ports facts))) x
        → Contains (filter (is_after last) (in_order (found_end_ports facts))) x
    from_near x h =
        elim (contains_cases end x (filter (is_after (Some end)) (in_order (found_end_ports facts))) h) [
          | inl e ↦ contains_filter (is_after last) (in_order (found_end_ports facts)) x
              (contains_as (in_order (found_end_ports facts)) e (is_ordered (found_end_ports facts) end n.among)) (ap (is_after last) (sym e) ∙ n.behind)
          | inr k ↦ let f = contains-from_filter (is_after (Some end)) (in_order (found_end_ports facts)) x k in
              contains_filter (is_after last) (in_order (found_end_ports facts)) x f.0 (follows x f.1)
        ]

    pub near_first : ports_after (cells_of facts) last ≡ end ∷ ports_after (cells_of facts) (Some end)
    near_first =
        after_is last ∙ rises_once (filter (is_after last) (in_order (found_end_ports facts))) (end
        ∷ filter (is_after (Some end)) (in_order (found_end_ports facts)))
        (rises last) near_rises to_near from_near

  pub next_is_first : (last next : Option (ℕ × EndPort)) → IsNext last (found_end_ports facts) next
      → MatchOption next (ports_after (cells_of facts) last ≡ []) (λ end. ports_after (cells_of facts) last ≡ end ∷ ports_after (cells_of facts) (Some end))
  next_is_first last None none = after_is last ∙ none_left (in_order (found_end_ports facts)) last (λ x h. none x (was_ordered (found_end_ports facts) x h))
  next_is_first last (Some end) n = near_first last end n

-- a walk of the cells ---------------------------------------------------------------

module _ (facts : Facts) (given left rest : Cells) (s : Key × Cell Value) (all : given ++ left ≡ cells_of facts) (next_cell : left ≡ s ∷ rest) where
  one_more : filter_map (guid_and_port (cells_of facts)) (given ++ s ∷ []) ≡ filter_map (guid_and_port (cells_of facts)) given
      ++ cons_option (guid_and_port (cells_of facts) s) []
  one_more = filter_map-append (guid_and_port (cells_of facts)) given (s ∷ [])

  -- a cell that is no end port's is passed
  pub passed : (last next : Option (ℕ × EndPort)) → guid_and_port (cells_of facts) s ≡ None
      → IsNext last (filter_map (guid_and_port (cells_of facts)) given) next
      → IsNext last (filter_map (guid_and_port (cells_of facts)) (given ++ s ∷ [])) next
  passed last next none n =
      let same = one_more ∙ ap (λ o. filter_map (guid_and_port (cells_of facts)) given ++ cons_option o []) none
      ∙ append-nil (filter_map (guid_and_port (cells_of facts)) given) in
      subst (λ (ends : List (ℕ × EndPort)). IsNext last ends next) (sym same) n

  -- an end port's is taken
  pub met : (last next : Option (ℕ × EndPort)) (end : ℕ × EndPort) → Some end ≡ guid_and_port (cells_of facts) s
      → IsNext last (filter_map (guid_and_port (cells_of facts)) given) next
      → IsNext last (filter_map (guid_and_port (cells_of facts)) (given ++ s ∷ [])) (nearer last next end)
  met last next end some n =
      let ends = filter_map (guid_and_port (cells_of facts)) given in
      let others = filter_map (guid_and_port (cells_of facts)) rest in
      let same = one_more ∙ ap (λ o. ends ++ cons_option o []) (sym some) in
      let whole = ap (filter_map (guid_and_port (cells_of facts))) (sym all ∙ ap (λ (cs : Cells). given ++ cs) next_cell)
      ∙ filter_map-append (guid_and_port (cells_of facts)) given (s ∷ rest)
      ∙ ap (λ o. ends ++ cons_option o others) (sym some) in
      let apart = subst (λ (xs : List (ℕ × EndPort)). Apart xs) whole (found_apart facts) in
      subst (λ (xs : List (ℕ × EndPort)). IsNext last xs (nearer last next end)) (sym same)
      (next_more last next ends end (before_apart ends others end apart) n)
