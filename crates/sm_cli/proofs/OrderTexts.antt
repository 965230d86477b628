-- An order that is printed and given back is the same order.
use Rattle.std.proofs.Common.{◌≡◌, ◌≢◌, ◌<◌, ◌+◌, ◌^◌, ◌==◌, ℕ, suc, List, [], ◌∷◌, ◌++◌, Bool, true, false, leb, Some, Ok, inl, inr, refl, sym, ap, ◌∙◌, subst}
use Rattle.std.proofs.Common.{arith, length, map, append_assoc, append-nil}
use Rattle.std.proofs.lemmas.Bool.{eqb-true, ne_eqb}
use Rattle.std.proofs.lemmas.List.Concat.{flat_map-cons}
use Rattle.std.proofs.lemmas.List.Elements.{Contains-append_cases}
use Rattle.std.specs.Prelude.{Contains, codes}
use Rattle.smp_bytes.specs.Text.{guid_text}
use Rattle.smp_bytes.proofs.HexText.{length-hex_text}
use Rattle.smp_bytes.proofs.Members.{contains_here, contains_later, contains_cases, contains_none}
use Rattle.text_words.specs.Numbers.{number_of, guid_of}
use Rattle.text_words.specs.Text.{lines, words}
use Rattle.text_words.proofs.Digits.{is_within}
use Rattle.text_words.proofs.NumbersPrinted.{guid_is_read}
use Rattle.text_words.proofs.Printed.{guid_word, line_then, words_are_read}
use Rattle.port_graph.proofs.Lists.{contains_map}
use Rattle.port_graph.proofs.WalkLemmas.{list_any_found}
use Rattle.fact_store.specs.View.{Facts, cells_of, AreInRange}
use Rattle.subnet_view.specs.SwitchEdges.{SwitchEdges}
use Rattle.subnet_view.specs.Graph.{graph_of, guids_of}
use Rattle.subnet_view.specs.GraphLaws.{IsGraph}
use Rattle.subnet_view.specs.Reading.{switches}
use Rattle.subnet_view.proofs.Graphs.{graph_law}
use Rattle.subnet_view.proofs.GraphSwitches.{graph_guids}
use Rattle.spread_labels.specs.declared.key_order.VertexKey.{VertexKey}
use Rattle.spread_labels.specs.Orders.{at_position, position_of}
use Rattle.spread_labels.proofs.ByPositions.{position_less}
use Rattle.spread_labels.proofs.Growing.{contains_at}
use Rattle.spread_routes.specs.Adapters.{adapters_of}
use Rattle.spread_routes.specs.Rule.{order_by_keys}
use Rattle.spread_routes.specs.Spread.{keys_by, switches_in_order}
use Rattle.spread_routes.specs.SwitchOrder.{OrderValue, switches_by_keys}
use Rattle.spread_routes.proofs.Indices.{as_many, index_of_switch}
use Rattle.spread_routes.proofs.Names.{grows}
use Rattle.lft_blocks.specs.PlanText.{plan_text}
use Rattle.lft_blocks.specs.Rule.{order_of}
use Rattle.lft_blocks.proofs.RulesRoute.{orders_hold}
use Rattle.tables_file.proofs.PlanRanges.{switch_small}
use Rattle.roots_file.specs.Line.{root_of, root_on}
use Rattle.roots_file.specs.Reading.{is_among, roots_of, with_lines}
use Rattle.sm_cli.specs.OrderText.{order_line, order_text}
use Rattle.sm_cli.specs.RunLaws.{PrintedOrdersStand}

-- a GUID that is not 0, and its line -----------------------------------------------------------

abbrev guid_line : ℕ → List ℕ
guid_line g = codes "0x" ++ guid_text g

number_is_read : (g : ℕ) → g < 2 ^ 64 → number_of 16 (guid_text g) ≡ Some g
number_is_read g h =
    let long : length (guid_text g) ≡ 16 = length-hex_text 16 g in
    let within : leb (length (guid_line g)) 18 ≡ true = is_within (length (guid_line g)) 18 (omega (arith, long)) in
    let same : guid_of (guid_line g) ≡ number_of 16 (guid_text g) = rw within refl in
    sym same ∙ guid_is_read g h

root_is_read : (g : ℕ) → g < 2 ^ 64 → g ≢ 0 → root_of (guid_line g) ≡ Ok g
root_is_read g h some =
    let long : length (guid_text g) ≡ 16 = length-hex_text 16 g in
    let within : leb (length (guid_text g)) 16 ≡ true = is_within (length (guid_text g)) 16 (omega (arith, long)) in
    let apart : (g == 0) ≡ false = ne_eqb g 0 some in
    rw (number_is_read g h, within, apart) refl

line_is_read : (g : ℕ) → g < 2 ^ 64 → g ≢ 0 → root_on (guid_line g) ≡ Ok (Some g)
unfolding root_on
line_is_read g h some =
    let one : words (guid_line g) ≡ guid_line g ∷ [] = words_are_read (guid_line g ∷ []) (guid_word g, tt) in
    rw (one, root_is_read g h some) refl

lines_are : (gs : List ℕ) → lines (order_text gs) ≡ map guid_line gs
lines_are [] = refl
lines_are (g ∷ gs) =
    ap lines (flat_map-cons order_line g gs) ∙ ap (λ l. lines (48 ∷ 120 ∷ l)) (append_assoc (guid_text g) (10 ∷ []) (order_text gs))
    ∙ line_then (guid_line g) (order_text gs) (guid_word g).plain ∙ ap (λ ls. guid_line g ∷ ls) (lines_are gs)

-- no GUID twice -----------------------------------------------------------------------------------

abbrev Once : List ℕ → Type 0
Once [] = Unit {0}
Once (g ∷ gs) = (Contains gs g → ⊥) × Once gs

abbrev Apart : List ℕ → List ℕ → Type 0
Apart done gs = (x : ℕ) → Contains done x → Contains gs x → ⊥

new_one : (done : List ℕ) (g : ℕ) (b : Bool) → (Contains done g → ⊥) → is_among done g ≡ b → b ≡ false
new_one done g false none e = refl
new_one done g true none e =
    let f = list_any_found (λ r. r == g) done e in
    absurd (none (subst (λ (y : ℕ). Contains done y) (eqb-true f.0 g f.2) f.1))

read_behind : (n : ℕ) (done gs : List ℕ) → Apart done gs → Once gs → ((g : ℕ) → Contains gs g → (g < 2 ^ 64) × (g ≢ 0))
    → with_lines n done (map guid_line gs) ≡ Ok (done ++ gs)
read_behind n done [] apart once right = ap (λ xs. Ok xs) (sym (append-nil done))
read_behind n done (g ∷ gs) apart once right =
    let its = right g (contains_here g gs) in
    let fresh : is_among done g ≡ false = new_one done g (is_among done g) (λ h. apart g h (contains_here g gs)) refl in
    let later = read_behind (n + 1) (done ++ g ∷ []) gs
    (λ x h k. (elim (Contains-append_cases done (g ∷ []) x h) [
      | inl d ↦ apart x d (contains_later g x gs k)
      | inr one ↦ (elim (contains_cases g x [] one) [
        | inl same ↦ once.0 (subst (λ (y : ℕ). Contains gs y) (sym same) k)
        | inr none ↦ contains_none x none
      ])
    ])) once.1 (λ x h. right x (contains_later g x gs h)) in
    rw (line_is_read g its.0 its.1, fresh) (later ∙ ap (λ xs. Ok xs) (append_assoc done (g ∷ []) gs))

pub text_is_read : (gs : List ℕ) → Once gs → ((g : ℕ) → Contains gs g → (g < 2 ^ 64) × (g ≢ 0)) → roots_of (order_text gs) ≡ Ok gs
unfolding roots_of
text_is_read gs once right =
    ap (with_lines 1 []) (lines_are gs) ∙ read_behind 1 [] gs (λ x h k. contains_none x h) once right

-- so are the switches of an order ---------------------------------------------------------------

once_by_index : (xs : List ℕ) → ((i j : ℕ) → i < length xs → j < i → at_position xs j ≡ at_position xs i → ⊥) → Once xs
once_by_index [] once = tt
once_by_index (x ∷ xs) once = (
  λ h. (let p = position_less xs x h in once (suc (position_of xs x)) 0 (omega (arith, p.0)) (omega arith) (sym p.1)),
  once_by_index xs (λ i j h l. once (suc i) (suc j) (omega (arith, h)) (omega (arith, l))),
)

once_mapped : (f : ℕ → ℕ) (xs : List ℕ) → ((x y : ℕ) → Contains xs x → Contains xs y → f x ≡ f y → x ≡ y) → Once xs → Once (map f xs)
once_mapped f [] one_to_one once = tt
once_mapped f (x ∷ xs) one_to_one once = (
  λ h. (let y = contains_map f xs (f x) h in
      once.0 (subst (λ (z : ℕ). Contains xs z) (one_to_one y.0 x (contains_later x y.0 xs y.1) (contains_here x xs) y.2) y.1)),
  once_mapped f xs (λ a b h k. one_to_one a b (contains_later x a xs h) (contains_later x b xs k)) once.1,
)

module _ (graph : List SwitchEdges) (keys : List VertexKey) (good : IsGraph graph) where
  below : (x : ℕ) → Contains (order_by_keys graph keys) x → x < length (guids_of graph)
  below x h =
      let stand = order_by_keys graph keys in
      let p = position_less stand x h in
      subst (λ (y : ℕ). y < length (guids_of graph)) p.1
      (omega (arith, (grows graph keys good).vertex (position_of stand x) p.0, as_many graph good))

  stand_once : Once (switches_by_keys graph keys)
  stand_once =
      once_mapped (at_position (guids_of graph)) (order_by_keys graph keys)
      (λ x y h k e. sym (index_of_switch graph good x (below x h)) ∙ ap (position_of (guids_of graph)) e ∙ index_of_switch graph good y (below y k))
      (once_by_index (order_by_keys graph keys) (grows graph keys good).once)

  are_switches : (g : ℕ) → Contains (switches_by_keys graph keys) g → Contains (guids_of graph) g
  are_switches g h =
      let x = contains_map (at_position (guids_of graph)) (order_by_keys graph keys) g h in
      subst (λ (y : ℕ). Contains (guids_of graph) y) x.2 (contains_at (guids_of graph) x.0 (below x.0 x.1))

order_is_read : (order : OrderValue) (facts : Facts) → AreInRange facts → ¬ (Contains (switches (cells_of facts)) 0)
    → roots_of (order_text (order_of order (cells_of facts))) ≡ Ok (order_of order (cells_of facts))
unfolding switches_in_order
order_is_read order facts range none =
    let cells = cells_of facts in
    let graph = graph_of cells in
    let keys = keys_by graph (adapters_of cells) order in
    text_is_read (switches_by_keys graph keys) (stand_once graph keys (graph_law facts))
    (λ g h. let there : Contains (switches cells) g = subst (λ (gs : List ℕ). Contains gs g) (graph_guids cells)
    (are_switches graph keys (graph_law facts) g h) in
    (switch_small facts range g there, λ zero_is. none (subst (λ (y : ℕ). Contains (switches cells) y) zero_is there)))

pub printed_orders_stand : PrintedOrdersStand
printed_orders_stand order asked again facts range none = record {
  named = order_of order (cells_of facts);
  is_read = order_is_read order facts range none;
  same_order = ap order_text (orders_hold order 0 facts).order_stands;
  same_plan = λ lmc. ap plan_text (orders_hold order lmc facts).plan_stands;
}
