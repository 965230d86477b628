-- What a search finds among the ports that can have a wire.
use Rattle.std.proofs.Common.{◌≡◌, ℕ, ◌+◌, ◌<◌, List, [], ◌∷◌, Bool, true, false, cond, get_or, length, inl, inr, refl, sym, ap, ◌∙◌, subst, arith}
use Rattle.std.proofs.lemmas.List.Elements.{Contains-get_or}
use Rattle.std.proofs.lemmas.List.Kept.{AllPairs-cons}
use Rattle.std.proofs.lemmas.List.Sorted.{searchable_from_sorted}
use Rattle.std.proofs.lemmas.Bool.{cases_lt}
use Rattle.std.specs.Prelude.{T, Contains, Option, None, Some, option_map}
use Rattle.std.specs.Result.{result_ok}
use Rattle.std.specs.Cmp.{tied_itself}
use Rattle.std.specs.FinMap.{find, is_sorted}
use Rattle.std.specs.List.{filter_map, cons_option, AllPairs}
use Rattle.std.specs.List.Sorted.{IsBinarySearchResult, IsNonDecreasingBy, IsPartitionPoint, IsSearchInRange, IsSortedBy}
use Rattle.std.specs.declared.cmp.Ordering.{Ordering}
use Rattle.std.specs.declared.cmp.Ordering.TheVariants.{Less, Equal, Greater}
use Rattle.std.specs.declared.result.Result.{Result}
use Rattle.std.specs.declared.result.Result.TheVariants.{Ok, Err}
use Rattle.std.specs.Ordering.{is_lt, nat_cmp, ordering_index, ordering_reverse, ordering_then}
use Rattle.smp_bytes.specs.Ports.{node_port_cmp}
use Rattle.smp_bytes.proofs.NodePorts.{node_port_exact, node_port_total}
use Rattle.fact_join.specs.declared.cell.Cell.{Cell}
use Rattle.reply_facts.specs.declared.key.Key.{Key}
use Rattle.reply_facts.specs.declared.key.Key.TheVariants.{Node, PortGuid, Link, Port, Claim, Cap}
use Rattle.reply_facts.specs.declared.value.Value.{Value}
use Rattle.reply_facts.specs.Key.{key_cmp}
use Rattle.reply_facts.specs.Known.{peer_in, value_in, link_of}
use Rattle.fact_store.specs.View.{Facts, cells_of}
use Rattle.fact_store.proofs.Entries.{cells_in_order}
use Rattle.fact_store.proofs.Orders.{below_at, first_true, second_true}
use Rattle.subnet_view.specs.Reading.{Cells}
use Rattle.subnet_view.specs.WireEnds.{end_link, wire_end, wire_ends}
use Rattle.subnet_view.specs.Wires.{is_wire_end}
use Rattle.subnet_view.proofs.Taken.{taken_from, is_taken, found_in, all_from}

-- a port with another
abbrev End : Type 0
End = (ℕ × ℕ) × (ℕ × ℕ)

-- what is in the list, and what is not ----------------------------------------------------

abbrev end_at : ℕ → ℕ → ℕ × ℕ → End
end_at g p y = ((g, p), y)

with_port : (g p h q : ℕ) (o : Option (ℕ × ℕ)) (x : ℕ × ℕ) → option_map (end_at g p) o ≡ Some (end_at h q x)
    → (g ≡ h) × (p ≡ q) × (o ≡ Some x)
with_port g p h q None x e = absurd (cc)
with_port g p h q (Some y) x e = let s : end_at g p y ≡ end_at h q x = cc in
    (ap (λ (z : End). z.0.0) s, ap (λ (z : End). z.0.1) s, ap (λ (z : End). Some z.1) s)

-- a port of the list has its link there
pub listed_end : (cells : Cells) (e : End) → Contains (wire_ends cells) e → end_link cells e.0.0 e.0.1 ≡ Some e.1
listed_end cells e h = let from = taken_from (wire_end cells) cells e h in by_key from.0.0 from.0.1 from.2
  where
    by_key : (k : Key) (c : Cell Value) → wire_end cells (k, c) ≡ Some e → end_link cells e.0.0 e.0.1 ≡ Some e.1
    by_key (Link g p) c i = let w = with_port g p e.0.0 e.0.1 (end_link cells g p) e.1 i in sym (λ j. end_link cells (w.0 j) (w.1 j)) ∙ w.2
    by_key (Node g) c i = absurd (cc)
    by_key (PortGuid g p) c i = absurd (cc)
    by_key (Port g p) c i = absurd (cc)
    by_key (Claim g p) c i = absurd (cc)
    by_key (Cap g) c i = absurd (cc)

some_link : (t : Bool) (o : Option (ℕ × ℕ)) (x : ℕ × ℕ) → cond t o None ≡ Some x → o ≡ Some x
some_link true o x e = e
some_link false o x e = absurd (cc)

-- and each port that has one is in the list
pub end_listed : (cells : Cells) (g p : ℕ) (x : ℕ × ℕ) → end_link cells g p ≡ Some x → Contains (wire_ends cells) ((g, p), x)
end_listed cells g p x e =
    elim (find key_cmp (Link g p) cells) as (λ o. find key_cmp (Link g p) cells ≡ o → peer_in (value_in o) ≡ Some x
    → Contains (wire_ends cells) ((g, p), x)) [
      | None ↦ λ i k. absurd (cc)
      | Some c ↦ λ i k. is_taken (wire_end cells) cells (Link g p, c) ((g, p), x) (found_in (Link g p) cells c i)
          (ap (option_map (end_at g p)) e)
    ] refl (some_link (is_wire_end cells g p) (link_of cells g p) x e)

-- the list is in order ----------------------------------------------------------------------

less_node_port : (a b : Ordering) → ordering_then a (ordering_then b Equal) ≡ Less → ordering_then a b ≡ Less
less_node_port Less b e = refl
less_node_port Equal Less e = refl
less_node_port Equal Equal e = absurd (cc)
less_node_port Equal Greater e = absurd (cc)
less_node_port Greater b e = absurd (cc)

-- one port before another
abbrev IsBefore : End → End → Type 0
IsBefore a b = node_port_cmp a.0 b.0 ≡ Less

by_link : (cells : Cells) (k : Key) (c : Cell Value) (e : End) → wire_end cells (k, c) ≡ Some e → k ≡ Link e.0.0 e.0.1
by_link cells (Link g p) c e i = let w = with_port g p e.0.0 e.0.1 (end_link cells g p) e.1 i in λ j. Link (w.0 j) (w.1 j)
by_link cells (Node g) c e i = absurd (cc)
by_link cells (PortGuid g p) c e i = absurd (cc)
by_link cells (Port g p) c e i = absurd (cc)
by_link cells (Claim g p) c e i = absurd (cc)
by_link cells (Cap g) c e i = absurd (cc)

rise : (cells es : Cells) → T (is_sorted key_cmp es) → AllPairs IsBefore (filter_map (wire_end cells) es)
rise cells [] s = λ i j d p q. absurd (omega (arith, q))
rise cells (x ∷ es) s =
    let i = rise cells es (second_true _ _ s) in
    elim (wire_end cells x) as (λ o. wire_end cells x ≡ o → AllPairs IsBefore (cons_option o (filter_map (wire_end cells) es))) [
      | None ↦ λ e. i
      | Some a ↦ λ e. AllPairs-cons IsBefore a (filter_map (wire_end cells) es)
          (all_from (IsBefore a) (filter_map (wire_end cells) es) (λ b h.
          let from = taken_from (wire_end cells) es b h in
          let here = by_link cells x.0 x.1 a e in
          let there = by_link cells from.0.0 from.0.1 b from.2 in
          let below : key_cmp (Link a.0.0 a.0.1) (Link b.0.0 b.0.1) ≡ Less
          = sym (λ j. key_cmp (here j) (there j)) ∙ below_at x.0 es (first_true _ _ s) from.0 from.1 in
          less_node_port (nat_cmp a.0.0 b.0.0) (nat_cmp a.0.1 b.0.1) below)) i
    ] refl

sorted : (facts : Facts) → IsSortedBy (λ a b. is_lt (node_port_cmp a.0 b.0)) (wire_ends (cells_of facts))
sorted facts k d from within =
    let ends = wire_ends (cells_of facts) in
    ap is_lt (node_port_total.antisymm (get_or ends (k + 1) d).0 (get_or ends k d).0
    ∙ ap ordering_reverse (rise (cells_of facts) (cells_of facts) (cells_in_order facts) k (k + 1) d (omega arith) within))

-- so a search among it by node and port can be trusted
searchable : (facts : Facts) (x : ℕ × ℕ) → IsNonDecreasingBy (λ (e : End). ordering_index (node_port_cmp e.0 x)) (wire_ends (cells_of facts))
searchable facts x = searchable_from_sorted node_port_total (λ (e : End). e.0) (wire_ends (cells_of facts)) x (sorted facts)

-- what it finds -----------------------------------------------------------------------------

nowhere : (ends : List End) (x : ℕ × ℕ) (i : ℕ)
    → IsPartitionPoint (λ (e : End). node_port_cmp e.0 x ≡ Less) (λ (e : End). node_port_cmp e.0 x ≡ Greater) ends i → (y : ℕ × ℕ)
    → Contains ends (x, y) → ⊥
nowhere ends x i parts y h =
    let tied : node_port_cmp (get_or ends h.0 (x, y)).0 x ≡ Equal = ap (λ (e : End). node_port_cmp e.0 x) h.2 ∙ tied_itself node_port_total x in
    elim (cases_lt h.0 i) [
      | inl l ↦ let less : node_port_cmp (get_or ends h.0 (x, y)).0 x ≡ Less = parts.0 h.0 (x, y) (omega arith) l in absurd (cc)
      | inr g ↦ let greater : node_port_cmp (get_or ends h.0 (x, y)).0 x ≡ Greater = parts.1 h.0 (x, y) g h.1 in absurd (cc)
    ]

module _ (facts : Facts) (ends : List End) (g p : ℕ) (are : ends ≡ wire_ends (cells_of facts)) where
  link_at : (i : ℕ) (d : End) → i < length ends → node_port_cmp (get_or ends i d).0 (g, p) ≡ Equal
      → Some (get_or ends i d).1 ≡ end_link (cells_of facts) g p
  link_at i d within tied =
      let e = get_or ends i d in
      let same : e.0 ≡ (g, p) = node_port_exact e.0 (g, p) tied in
      sym (sym (ap (λ (x : ℕ × ℕ). end_link (cells_of facts) x.0 x.1) same)
      ∙ listed_end (cells_of facts) e (subst (λ (es : List End). Contains es e) are (Contains-get_or ends i d within)))

  no_link_listed : ((x : ℕ × ℕ) → Contains ends ((g, p), x) → ⊥) → end_link (cells_of facts) g p ≡ None
  no_link_listed none =
      elim (end_link (cells_of facts) g p) as (λ o. end_link (cells_of facts) g p ≡ o → o ≡ None) [
        | None ↦ λ e. refl
        | Some x ↦ λ e. absurd (none x (subst (λ (es : List End). Contains es ((g, p), x)) (sym are) (end_listed (cells_of facts) g p x e)))
      ] refl

  abbrev IsSearched : Result ℕ ℕ → Type 0
  IsSearched r = IsBinarySearchResult (λ (e : End). node_port_cmp e.0 (g, p)) ends r

  -- what is found there is the port's link
  pub one_found : (r : Result ℕ ℕ) (i : ℕ) (d : End) → IsSearchInRange r (length ends) → IsSearched r → result_ok r ≡ Some i
      → Some (get_or ends i d).1 ≡ end_link (cells_of facts) g p
  one_found (Ok j) i d within found e = let same : j ≡ i = cc in subst
      (λ (k : ℕ). Some (get_or ends k d).1 ≡ end_link (cells_of facts) g p) same (link_at j d within (found d))
  one_found (Err j) i d within found e = absurd (cc)

  -- and where nothing is found it has none
  pub none_found : (r : Result ℕ ℕ) → IsSearched r → result_ok r ≡ None → end_link (cells_of facts) g p ≡ None
  none_found (Ok j) found e = absurd (cc)
  none_found (Err j) found e =
      let rising = subst (λ (es : List End). IsNonDecreasingBy (λ (e : End). ordering_index (node_port_cmp e.0 (g, p))) es) (sym are)
      (searchable facts (g, p)) in
      no_link_listed (nowhere ends (g, p) j (found rising))
