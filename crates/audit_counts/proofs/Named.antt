-- What is named, and what of it is kept.
use Rattle.std.proofs.Common.{◌≡◌, ◌++◌, ℕ, [], ◌∷◌, inl, inr, refl, sym, ap, ap₂, ◌∙◌, Bool, true, false, cond}
use Rattle.std.specs.Prelude.{Contains, Option, None, Some, filter, option_and_then}
use Rattle.std.specs.List.{filter_map, cons_option}
use Rattle.std.proofs.lemmas.List.Elements.{Contains-append_left, Contains-append_right, Contains-append_cases, filter-append}
use Rattle.fact_join.specs.declared.cell.Cell.{Cell}
use Rattle.reply_facts.specs.declared.key.Key.{Key}
use Rattle.reply_facts.specs.declared.value.Value.{Value}
use Rattle.reply_facts.specs.Key.{key_guid}
use Rattle.subnet_view.specs.Reading.{Cells}
use Rattle.subnet_view.proofs.Taken.{is_taken, taken_from}
use Rattle.audit_counts.specs.NamedPorts.{IsNamedNode, IsNamedPort, far_node, far_port, kept, named_nodes, named_ports, own_node, own_port}

module _ {X : Type 0} (test : X → Bool) where
  -- what passes of what a list names
  kept_of : (name : Key × Cell Value → Option X) (cells : Cells) → filter test (filter_map name cells) ≡ filter_map (kept test name) cells
  kept_of name [] = refl
  kept_of name (s ∷ cells) =
      let rest = kept_of name cells in
      elim (name s) as
      (λ o. filter test (cons_option o (filter_map name cells))
      ≡ cons_option (option_and_then (λ x. cond (test x) (Some x) None) o) (filter_map (kept test name) cells)) [
        | None ↦ rest
        | Some x ↦ (elim (test x) as
            (λ t. cond t (x ∷ filter test (filter_map name cells)) (filter test (filter_map name cells))
            ≡ cons_option (cond t (Some x) None) (filter_map (kept test name) cells)) [
              | true ↦ ap (λ xs. x ∷ xs) rest
              | false ↦ rest
            ])
      ]

  -- and of what it names in two ways
  pub kept_both : (own far : Key × Cell Value → Option X) (cells : Cells)
      → filter_map (kept test own) cells ++ filter_map (kept test far) cells ≡ filter test (filter_map own cells ++ filter_map far cells)
  kept_both own far cells =
      sym (filter-append test (filter_map own cells) (filter_map far cells) ∙ ap₂ (λ xs ys. xs ++ ys) (kept_of own cells) (kept_of far cells))

-- what is kept passes
module _ {X : Type 0} (test : X → Bool) (x : X) where
  passed : (y : X) → cond (test y) (Some y) None ≡ Some x → test x ≡ true
  passed y e =
      elim (test y) as (λ t. test y ≡ t → cond t (Some y) None ≡ Some x → test x ≡ true) [
        | true ↦ λ p k. (let same : y ≡ x = cc in ap test (sym same) ∙ p)
        | false ↦ λ p k. absurd (cc)
      ] refl e

  passes : (o : Option X) → option_and_then (λ y. cond (test y) (Some y) None) o ≡ Some x → test x ≡ true
  passes None e = absurd (cc)
  passes (Some y) e = passed y e

  pub kept_passes : (name : Key × Cell Value → Option X) (cells : Cells) → Contains (filter_map (kept test name) cells) x → test x ≡ true
  kept_passes name cells there = let i = taken_from (kept test name) cells x there in passes (name i.0) i.2

module _ (cells : Cells) where
  -- what is named is listed, and nothing else
  pub node_listed : (g : ℕ) → IsNamedNode cells g → Contains (named_nodes cells) g
  node_listed g (s, there, inl is) =
      Contains-append_left (filter_map own_node cells) (filter_map far_node cells) g (is_taken own_node cells s g there (ap (λ (n : ℕ). Some n) is))
  node_listed g (s, there, inr is) =
      Contains-append_right (filter_map own_node cells) (filter_map far_node cells) g (is_taken far_node cells s g there is)

  same_node : (a b : ℕ) → Some a ≡ Some b → a ≡ b
  same_node a b e = cc

  pub listed_node : (g : ℕ) → Contains (named_nodes cells) g → IsNamedNode cells g
  listed_node g there =
      elim (Contains-append_cases (filter_map own_node cells) (filter_map far_node cells) g there) [
        | inl m ↦ let i = taken_from own_node cells g m in (i.0, i.1, inl (same_node (key_guid i.0.0) g i.2))
        | inr m ↦ let i = taken_from far_node cells g m in (i.0, i.1, inr i.2)
      ]

  pub port_listed : (e : ℕ × ℕ) → IsNamedPort cells e → Contains (named_ports cells) e
  port_listed e (s, there, inl is) =
      Contains-append_left (filter_map own_port cells) (filter_map far_port cells) e (is_taken own_port cells s e there is)
  port_listed e (s, there, inr is) =
      Contains-append_right (filter_map own_port cells) (filter_map far_port cells) e (is_taken far_port cells s e there is)

  pub listed_port : (e : ℕ × ℕ) → Contains (named_ports cells) e → IsNamedPort cells e
  listed_port e there =
      elim (Contains-append_cases (filter_map own_port cells) (filter_map far_port cells) e there) [
        | inl m ↦ let i = taken_from own_port cells e m in (i.0, i.1, inl i.2)
        | inr m ↦ let i = taken_from far_port cells e m in (i.0, i.1, inr i.2)
      ]
