-- The ports on wires come in the order of node GUID and port, since the keys of facts do.
use Rattle.std.proofs.Common.{◌≡◌, ℕ, [], ◌∷◌, inl, inr, refl, sym, ap, ap₂, ◌∙◌, Bool, true, false, cond, ◌||◌, ◌&&◌, ◌==◌, arith}
use Rattle.std.proofs.lemmas.Option.{cond_some}
use Rattle.std.proofs.lemmas.Bool.{and_parts}
use Rattle.std.proofs.lemmas.List.Kept.{AllPairs-cons}
use Rattle.std.specs.Prelude.{None, Some, IsSome, Contains, is_some, nat_lt, option_and_then, if◌then◌else◌}
use Rattle.std.specs.List.{filter_map, cons_option, AllPairs}
use Rattle.std.specs.declared.cmp.Ordering.TheVariants.{Less, Equal, Greater}
use Rattle.std.specs.Ordering.{is_lt, ordering_then}
use Rattle.std.specs.FinMap.{find, is_sorted}
use Rattle.fact_store.specs.View.{cells_of}
use Rattle.fact_store.proofs.Entries.{cells_in_order}
use Rattle.std.specs.FinMap.Entries.{below_all}
use Rattle.fact_join.specs.declared.cell.Cell.{Cell}
use Rattle.reply_facts.specs.declared.key.Key.{Key}
use Rattle.reply_facts.specs.declared.key.Key.TheVariants.{Node, PortGuid, Link, Port, Claim, Cap}
use Rattle.reply_facts.specs.declared.value.Value.{Value}
use Rattle.reply_facts.specs.Key.{key_cmp}
use Rattle.reply_facts.specs.Known.{value_in, peer_in}
use Rattle.subnet_view.specs.Reading.{Cells}
use Rattle.subnet_view.specs.Wires.{across, is_wire}
use Rattle.subnet_view.proofs.EndPorts.{true_from}
use Rattle.subnet_view.proofs.Members.{contains_none, contains_cases}
use Rattle.subnet_view.proofs.Taken.{taken_from, is_taken, found_in, all_from}
use Rattle.sweep.specs.Order.{is_before}
use Rattle.plan_steps.specs.StateSteps.{wired_port, wired_ports, WiredPortsLaw}

-- each comes from its own key -------------------------------------------------------------

wired_is : (cells : Cells) (k : Key) (c : Cell Value) (at : ℕ × ℕ) → wired_port cells (k, c) ≡ Some at
    → (k ≡ Link at.0 at.1) × (is_some (across cells at.0 at.1) ≡ true)
wired_is cells (Link g p) c at e =
    let k = cond_some (is_some (across cells g p)) (g, p) at e in
    (ap (λ (x : ℕ × ℕ). Link x.0 x.1) k.1, ap (λ (x : ℕ × ℕ). is_some (across cells x.0 x.1)) (sym k.1) ∙ k.0)
wired_is cells (Node g) c at e = absurd (cc)
wired_is cells (PortGuid g p) c at e = absurd (cc)
wired_is cells (Port g p) c at e = absurd (cc)
wired_is cells (Claim g p) c at e = absurd (cc)
wired_is cells (Cap g) c at e = absurd (cc)

listed_is_wired : (cells : Cells) (g p : ℕ) → Contains (wired_ports cells) (g, p) → IsSome (across cells g p)
listed_is_wired cells g p h = let x = taken_from (wired_port cells) cells (g, p) h in (wired_is cells x.0.0 x.0.1 (g, p) x.2).1

wired_is_listed : (cells : Cells) (g p : ℕ) → IsSome (across cells g p) → Contains (wired_ports cells) (g, p)
wired_is_listed cells g p h =
    elim (find key_cmp (Link g p) cells) as (λ o. find key_cmp (Link g p) cells ≡ o
    → is_some (option_and_then (λ q. if is_wire cells g p q then Some q else None) (peer_in (value_in o))) ≡ true → Contains (wired_ports cells) (g, p)) [
      | None ↦ λ q s. absurd (cc)
      | Some c ↦ λ q s. is_taken (wired_port cells) cells (Link g p, c) (g, p) (found_in (Link g p) cells c q) (ap (λ t. cond t (Some (g, p)) None) h)
    ] refl h

-- in the order of the keys ------------------------------------------------------------------

by_parts : (a b c d : Bool)
    → is_lt (ordering_then (cond a Less (cond b Equal Greater)) (ordering_then (cond c Less (cond d Equal Greater)) Equal)) ≡ true → (a || (b && c)) ≡ true
by_parts true b c d e = refl
by_parts false true true d e = refl
by_parts false true false true e = absurd (cc)
by_parts false true false false e = absurd (cc)
by_parts false false c d e = absurd (cc)

link_before : (a b : ℕ × ℕ) → is_lt (key_cmp (Link a.0 a.1) (Link b.0 b.1)) ≡ true → is_before a b ≡ true
link_before a b e = by_parts (nat_lt a.0 b.0) (a.0 == b.0) (nat_lt a.1 b.1) (a.1 == b.1) e

-- an entry has a key above that which is below all
below_has : (k : Key) (es : Cells) (e : Key × Cell Value) → below_all key_cmp k es ≡ true → Contains es e → is_lt (key_cmp k e.0) ≡ true
below_has k [] e b h = absurd (contains_none e h)
below_has k (x ∷ es) e b h =
    let a = and_parts (is_lt (key_cmp k x.0)) (below_all key_cmp k es) b in
    elim (contains_cases x e es h) [
      | inl i ↦ ap (λ (y : Key × Cell Value). is_lt (key_cmp k y.0)) (sym i) ∙ a.0
      | inr j ↦ below_has k es e a.1 j
    ]

rise_with_keys : (cells es : Cells) → is_sorted key_cmp es ≡ true → AllPairs (λ a b. is_before a b ≡ true) (filter_map (wired_port cells) es)
rise_with_keys cells [] s = λ i j d p q. absurd (omega (arith, q))
rise_with_keys cells (e ∷ es) s =
    let a = and_parts (below_all key_cmp e.0 es) (is_sorted key_cmp es) s in
    let i = rise_with_keys cells es a.1 in
    elim (wired_port cells e) as (λ o. wired_port cells e ≡ o → AllPairs (λ a b. is_before a b ≡ true) (cons_option o (filter_map (wired_port cells) es))) [
      | None ↦ λ q. i
      | Some at ↦ λ q. AllPairs-cons (λ a b. is_before a b ≡ true) at (filter_map (wired_port cells) es)
          (all_from (λ b. is_before at b ≡ true) (filter_map (wired_port cells) es) (λ b k.
          let x = taken_from (wired_port cells) es b k in
          let here : e.0 ≡ Link at.0 at.1 = (wired_is cells e.0 e.1 at q).0 in
          let there : x.0.0 ≡ Link b.0 b.1 = (wired_is cells x.0.0 x.0.1 b x.2).0 in
          link_before at b (sym (ap₂ (λ k l. is_lt (key_cmp k l)) here there) ∙ below_has e.0 es x.0 a.0 x.1))) i
    ] refl

pub wired_ports_law : WiredPortsLaw
wired_ports_law facts = (
  λ g p. (listed_is_wired (cells_of facts) g p, wired_is_listed (cells_of facts) g p),
  rise_with_keys (cells_of facts) (cells_of facts) (true_from _ (cells_in_order facts)),
)
