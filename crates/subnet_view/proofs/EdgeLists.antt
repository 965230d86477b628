-- Edges found one after another.
use Rattle.std.proofs.Common.{◌≡◌, ◌≤◌, ◌<◌, ◌+◌, ◌-◌, ℕ, suc, List, [], ◌∷◌, ◌++◌, inl, inr, sym, ap, ◌∙◌, subst, arith, map, length, get_or}
use Rattle.std.proofs.lemmas.Bool.{cases_lt}
use Rattle.std.proofs.lemmas.List.{append_assoc, append-nil, get_or_past, map-append}
use Rattle.std.proofs.lemmas.List.Elements.{Contains-append_cases, Contains-get_or}
use Rattle.std.specs.Prelude.{Option, None, Some, Contains}
use Rattle.std.specs.List.{filter_map, cons_option, range_with_len}
use Rattle.smp_bytes.proofs.Members.{contains_cases, contains_none}
use Rattle.port_graph.specs.declared.edge.Edge.{Edge}
use Rattle.port_graph.specs.Heads.{LeadToVertices}
use Rattle.port_graph.proofs.Counts.{length_map}
use Rattle.subnet_view.specs.SwitchGraph.{by_guid, LeadBelow}
use Rattle.subnet_view.proofs.Apart.{contains_map}
use Rattle.subnet_view.proofs.Walked.{IsMapped, mapped_more, mapped_all}

-- what an edge of a list leads to is one of the ends of the list
pub has_end : (es : List Edge) (e : Edge) → Contains es e → Contains (map (λ x. x.to) es) e.to
has_end es e h = contains_map (λ (x : Edge). x.to) es e h

-- port by port: what was found, and what the ports to come have, are all that there is
module _ (guids : List ℕ) (edge : ℕ → Option Edge) (all : List Edge) (n : ℕ) where
  -- the edges of the ports so far, and those of the ports to come, are all
  abbrev pub AreAll : List Edge → ℕ → Type 0
  AreAll found p = map (by_guid guids) found ++ filter_map edge (range_with_len (1 + p) (n - p)) ≡ all

  one_port : (found : List Edge) (p : ℕ) → p < n → AreAll found p
      → map (by_guid guids) found ++ cons_option (edge (p + 1)) (filter_map edge (range_with_len (1 + (p + 1)) (n - (p + 1)))) ≡ all
  one_port found p h e =
      let more : n - p ≡ suc (n - (p + 1)) = omega arith in
      let next : 1 + p ≡ p + 1 = omega arith in
      let after : p + 1 + 1 ≡ 1 + (p + 1) = omega arith in
      let these : List Edge → List Edge = λ xs. map (by_guid guids) found ++ xs in
      ap these (ap (λ q. cons_option (edge (p + 1)) (filter_map edge (range_with_len q (n - (p + 1))))) (sym after))
      ∙ ap these (ap (λ q. cons_option (edge q) (filter_map edge (range_with_len (q + 1) (n - (p + 1))))) (sym next))
      ∙ sym (ap (λ k. map (by_guid guids) found ++ filter_map edge (range_with_len (1 + p) k)) more) ∙ e

  -- a port that has none
  pub port_without : (found : List Edge) (p : ℕ) → p < n → AreAll found p → edge (p + 1) ≡ None → AreAll found (p + 1)
  port_without found p h e none =
      let rest = filter_map edge (range_with_len (1 + (p + 1)) (n - (p + 1))) in
      sym (ap (λ o. map (by_guid guids) found ++ cons_option o rest) none) ∙ one_port found p h e

  -- a port that has one
  pub port_with : (found : List Edge) (p : ℕ) (x : Edge) → p < n → AreAll found p → edge (p + 1) ≡ Some (by_guid guids x) → AreAll (found ++ x ∷ []) (p + 1)
  port_with found p x h e some =
      let rest = filter_map edge (range_with_len (1 + (p + 1)) (n - (p + 1))) in
      ap (λ xs. xs ++ rest) (map-append (by_guid guids) found (x ∷ []))
      ∙ append_assoc (map (by_guid guids) found) (by_guid guids x ∷ []) rest
      ∙ sym (ap (λ o. map (by_guid guids) found ++ cons_option o rest) some) ∙ one_port found p h e

  -- after the last port all are found
  pub no_more_ports : (found : List Edge) (p : ℕ) → n ≤ p → AreAll found p → map (by_guid guids) found ≡ all
  no_more_ports found p h e =
      let none : n - p ≡ 0 = omega arith in
      sym (append-nil (map (by_guid guids) found)) ∙ sym (ap (λ k. map (by_guid guids) found ++ filter_map edge (range_with_len (1 + p) k)) none) ∙ e

-- one more edge leads below where it does
pub lead_below_more : (n : ℕ) (found : List Edge) (x : Edge) → LeadBelow n found → x.to < n → LeadBelow n (found ++ x ∷ [])
lead_below_more n found x all here e h =
    elim (Contains-append_cases found (x ∷ []) e h) [
      | inl k ↦ all e k
      | inr k ↦ (elim (contains_cases x e [] k) [
        | inl i ↦ omega (arith, ap (λ (y : Edge). y.to) i)
        | inr j ↦ absurd (contains_none e j)
      ])
    ]

-- the edges of each switch lead below a number
abbrev pub AllLeadBelow : ℕ → List (List Edge) → Type 0
AllLeadBelow n rows = (es : List Edge) → Contains rows es → LeadBelow n es

-- one more switch, whose edges lead below the number
pub all_lead_more : (n : ℕ) (rows : List (List Edge)) (row : List Edge) → AllLeadBelow n rows → LeadBelow n row → AllLeadBelow n (rows ++ row ∷ [])
all_lead_more n rows row all here es h =
    elim (Contains-append_cases rows (row ∷ []) es h) [
      | inl k ↦ all es k
      | inr k ↦ (elim (contains_cases row es [] k) [
        | inl i ↦ subst (λ (xs : List Edge). LeadBelow n xs) i here
        | inr j ↦ absurd (contains_none es j)
      ])
    ]

-- as many rows as the number, so that they lead to one another
pub lead_to_rows : (n : ℕ) (rows : List (List Edge)) → length rows ≡ n → AllLeadBelow n rows → LeadToVertices rows
lead_to_rows n rows same all a e h =
    elim (cases_lt a (length rows)) [
      | inl l ↦ omega (arith, all (get_or rows a []) (Contains-get_or rows a [] l) e h)
      | inr l ↦ absurd (contains_none e (subst (λ (xs : List Edge). Contains xs e) (get_or_past rows a [] l) h))
    ]

-- switch by switch: the rows so far, and those of the switches to come, are all rows
module _ (guids : List ℕ) (row_of : ℕ → List Edge) where
  -- the rows so far, and those of the switches to come, are all rows
  abbrev pub AreRows : List (List Edge) → ℕ → Type 0
  AreRows rows i = IsMapped row_of guids (map (map (by_guid guids)) rows) i

  -- one more switch's row
  pub one_row : (rows : List (List Edge)) (i g : ℕ) (row : List Edge) → i < length guids → g ≡ get_or guids i g → AreRows rows i → map (by_guid guids) row
      ≡ row_of g
      → AreRows (rows ++ row ∷ []) (i + 1)
  one_row rows i g row h item e is =
      subst (λ (xs : List (List Edge)). IsMapped row_of guids xs (i + 1))
      (sym (map-append (map (by_guid guids)) rows (row ∷ []) ∙ ap (λ r. map (map (by_guid guids)) rows ++ r ∷ []) is))
      (mapped_more row_of guids (map (map (by_guid guids)) rows) i g h item e)

  -- after the last switch all rows are there
  pub no_more_rows : (rows : List (List Edge)) (i : ℕ) → length guids ≤ i → AreRows rows i → map (map (by_guid guids)) rows ≡ map row_of guids
  no_more_rows rows i h e = mapped_all row_of guids (map (map (by_guid guids)) rows) i h e

-- lists that maps make the same are of one length
pub same_length : {X Y Z : Type 0} (f : X → Z) (g : Y → Z) (xs : List X) (ys : List Y) → map f xs ≡ map g ys → length xs ≡ length ys
same_length f g xs ys e = sym (length_map f xs) ∙ ap length e ∙ length_map g ys
