-- The ports that can have a wire, read in step with the cells of links.
use Rattle.std.proofs.lemmas.List.{append_assoc}
use Rattle.std.proofs.Common.{◌≡◌, ℕ, List, [], ◌∷◌, ◌++◌, Bool, true, false, cond, ◌==◌, ◌&&◌, refl, sym, ap, ◌∙◌, subst}
use Rattle.std.specs.Prelude.{T, Option, None, Some, Contains, is_some, option_map}
use Rattle.std.specs.List.{filter_map, cons_option}
use Rattle.std.specs.Ordering.{is_lt}
use Rattle.std.specs.FinMap.{find, is_sorted}
use Rattle.std.specs.Option.{option_map_or}
use Rattle.smp_bytes.specs.declared.node_type.NodeType.{NodeType}
use Rattle.smp_bytes.specs.Ports.{is_within}
use Rattle.fact_join.specs.declared.cell.Cell.{Cell}
use Rattle.reply_facts.specs.declared.key.Key.{Key}
use Rattle.reply_facts.specs.declared.key.Key.TheVariants.{Node, PortGuid, Link, Port, Claim, Cap}
use Rattle.reply_facts.specs.declared.value.Value.{Value}
use Rattle.reply_facts.specs.Key.{key_cmp}
use Rattle.reply_facts.specs.Known.{count_in, guid_in, kind_in, peer_in, up_in, value_in, port_guid_of, cap_of}
use Rattle.fact_store.specs.View.{Facts, cell_for, cells_of}
use Rattle.fact_store.proofs.Entries.{cells_in_order}
use Rattle.fact_store.proofs.Orders.{below_at, first_true, second_true, greater_back}
use Rattle.subnet_view.specs.declared.port_reader.PortReader.{PortReader}
use Rattle.subnet_view.specs.Reading.{Cells, is_up, is_switch_in, is_switch_node, is_port_of}
use Rattle.subnet_view.specs.WireEnds.{count_of, end_read, is_end_read, wire_end, wire_ends, HasNotPassed, PassesNone, ReadsAll}
use Rattle.subnet_view.specs.Wires.{is_wire_end}
use Rattle.subnet_view.proofs.Members.{contains_here, contains_later}
use Rattle.subnet_view.proofs.Walks.{cell_given, given_more, known_by_cell}

-- a port that can have a wire, by what is known of it
abbrev by_parts : Option (NodeType × ℕ) → Bool → Bool → Bool → ℕ → Bool
by_parts node up room guid p = up && is_within p (count_of node) && cond (is_switch_in node) room guid

said_twice : (a b s room guid at_zero : Bool) → (a && b && cond s room guid) ≡ (a && b && cond s (s && room) (cond s at_zero b && guid))
said_twice a b true room guid at_zero = refl
said_twice true true false room guid at_zero = refl
said_twice true false false room guid at_zero = refl
said_twice false b false room guid at_zero = refl

-- where nothing of a port was passed, it can have a wire by what is left where it can
pub end_is_read : (cells : Cells) (r : PortReader) (g p : ℕ) → HasNotPassed cells r g p → is_end_read r g p ≡ is_wire_end cells g p
end_is_read cells r g p h =
    (λ i. by_parts (kind_in (value_in (h.node i))) (option_map_or (λ up. up) (up_in (value_in (h.port i))) false)
    (is_some (count_in (value_in (h.cap i)))) (is_some (guid_in (value_in (h.guid i)))) p)
    ∙ said_twice (is_up cells g p) (is_port_of cells g p) (is_switch_node cells g) (is_some (cap_of cells g))
    (is_some (port_guid_of cells g p)) (p == 0)

-- nothing that the links that are left need was passed
abbrev pub IsAhead : Cells → Cells → PortReader → Type 0
IsAhead cells left r = (h q : ℕ) (c : Cell Value) → Contains left (Link h q, c) → HasNotPassed cells r h q

-- at first
pub ahead_at_first : (cells left : Cells) (r : PortReader) → ReadsAll cells r → IsAhead cells left r
ahead_at_first cells left r all h q c k =
    record {
      node = ap (find key_cmp (Node h)) all.node;
      guid = ap (find key_cmp (PortGuid h q)) all.guid;
      port = ap (find key_cmp (Port h q)) all.port;
      cap = ap (find key_cmp (Cap h)) all.cap;
    }

-- and once the first of them was read
pub ahead_then : (cells : Cells) (x : Key × Cell Value) (rest : Cells) (old new : PortReader) → T (is_sorted key_cmp (x ∷ rest))
    → IsAhead cells (x ∷ rest) old → PassesNone x.0 old new
    → IsAhead cells rest new
ahead_then cells x rest old new s a passes h q c k =
    passes cells h q (ap is_lt (greater_back x.0 (Link h q) (below_at x.0 rest (first_true _ _ s) (Link h q, c) k)))
    (a h q c (contains_later x (Link h q, c) rest k))

-- so what is read of a cell is its port with where the link leads
pub cell_is_read : (facts : Facts) (x : Key × Cell Value) (rest : Cells) (r : PortReader) → cell_for facts x.0 ≡ Some x.1
    → IsAhead (cells_of facts) (x ∷ rest) r
    → end_read r x ≡ wire_end (cells_of facts) x
cell_is_read facts ((Link g p), c) rest r held a =
    let cells = cells_of facts in
    let test : is_end_read r g p ≡ is_wire_end cells g p = end_is_read cells r g p (a g p c (contains_here (Link g p, c) rest)) in
    let said : Option (ℕ × ℕ) = peer_in (value_in (Some c)) in
    let with_port : Option (ℕ × ℕ) → Option ((ℕ × ℕ) × (ℕ × ℕ)) = option_map (λ (q : ℕ × ℕ). ((g, p), q)) in
    ap (λ t. cond t (with_port said) None) test
    ∙ (elim (is_wire_end cells g p) as (λ t. cond t (with_port said) None ≡ with_port (cond t said None)) [ true ↦ refl | false ↦ refl ])
    ∙ ap (λ (o : Option Value). with_port (cond (is_wire_end cells g p) (peer_in o) None)) (sym (known_by_cell facts (Link g p) c held))
cell_is_read facts ((Node g), c) rest r held a = refl
cell_is_read facts ((PortGuid g p), c) rest r held a = refl
cell_is_read facts ((Port g p), c) rest r held a = refl
cell_is_read facts ((Claim g p), c) rest r held a = refl
cell_is_read facts ((Cap g), c) rest r held a = refl

-- what was found in the cells that were given, with what is left
pub record IsWalked (facts : Facts) (found : List ((ℕ × ℕ) × (ℕ × ℕ))) (given left : Cells) (r : PortReader) : Type 0 where
  pub all : found ++ filter_map (wire_end (cells_of facts)) left ≡ wire_ends (cells_of facts)
  pub cells : given ++ left ≡ cells_of facts
  pub in_order : T (is_sorted key_cmp left)
  pub ahead : IsAhead (cells_of facts) left r

-- a cell more
pub walked_more : (facts : Facts) (found : List ((ℕ × ℕ) × (ℕ × ℕ))) (given left rest : Cells) (x : Key × Cell Value) (old new : PortReader)
    (o : Option ((ℕ × ℕ) × (ℕ × ℕ)))
    → IsWalked facts found given left old → left ≡ x ∷ rest → o ≡ end_read old x → PassesNone x.0 old new
    → IsWalked facts (found ++ cons_option o []) (given ++ x ∷ []) rest new
walked_more facts found given left rest x old new o w next read passes =
    let cells = cells_of facts in
    let ahead : IsAhead cells (x ∷ rest) old = subst (λ (es : Cells). IsAhead cells es old) next w.ahead in
    let sorted : T (is_sorted key_cmp (x ∷ rest)) = subst (λ (es : Cells). T (is_sorted key_cmp es)) next w.in_order in
    let end : o ≡ wire_end cells x = read ∙ cell_is_read facts x rest old (cell_given facts given left rest x w.cells next) ahead in
    let later = filter_map (wire_end cells) rest in
    record {
      all = append_assoc found (cons_option o []) later ∙ ap (λ (ends : List ((ℕ × ℕ) × (ℕ × ℕ))). found ++ ends) (behind o later)
          ∙ ap (λ (e : Option ((ℕ × ℕ) × (ℕ × ℕ))). found ++ cons_option e later) end
          ∙ ap (λ (es : Cells). found ++ filter_map (wire_end cells) es) (sym next) ∙ w.all;
      cells = given_more cells given left rest x w.cells next;
      in_order = second_true _ _ sorted;
      ahead = ahead_then cells x rest old new sorted ahead passes;
    }
  where
    behind : (e : Option ((ℕ × ℕ) × (ℕ × ℕ))) (ends : List ((ℕ × ℕ) × (ℕ × ℕ))) → cons_option e [] ++ ends ≡ cons_option e ends
    behind None ends = refl
    behind (Some e) ends = refl

-- at first all is left
pub walked_at_first : (facts : Facts) (found : List ((ℕ × ℕ) × (ℕ × ℕ))) (left : Cells) (r : PortReader) → found ≡ []
    → left ≡ cells_of facts → ReadsAll (cells_of facts) r → IsWalked facts found [] left r
walked_at_first facts found left r none all reads =
    record {
      all = ap (λ (ends : List ((ℕ × ℕ) × (ℕ × ℕ))). ends ++ filter_map (wire_end (cells_of facts)) left) none
          ∙ ap (filter_map (wire_end (cells_of facts))) all;
      cells = all;
      in_order = subst (λ (es : Cells). T (is_sorted key_cmp es)) (sym all) (cells_in_order facts);
      ahead = ahead_at_first (cells_of facts) left r reads;
    }

-- where a cell is an end of a wire, it was found
pub found_more : (facts : Facts) (found : List ((ℕ × ℕ) × (ℕ × ℕ))) (given left rest : Cells) (x : Key × Cell Value) (old new : PortReader)
    (o : Option ((ℕ × ℕ) × (ℕ × ℕ)))
    (more : List ((ℕ × ℕ) × (ℕ × ℕ))) → more ≡ found ++ cons_option o [] → IsWalked facts found given left old → left ≡ x ∷ rest
    → o ≡ end_read old x → PassesNone x.0 old new
    → IsWalked facts more (given ++ x ∷ []) rest new
found_more facts found given left rest x old new o more is w next read passes =
    subst (λ (ends : List ((ℕ × ℕ) × (ℕ × ℕ))). IsWalked facts ends (given ++ x ∷ []) rest new) (sym is)
    (walked_more facts found given left rest x old new o w next read passes)
