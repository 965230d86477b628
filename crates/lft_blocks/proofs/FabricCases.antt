-- What holds of a fabric that is written down: said of each node, each cable and each fact in turn.
use Rattle.std.proofs.Common.{◌≡◌, ◌≤◌, ◌+◌, ◌*◌, ℕ, zero, suc, List, [], ◌∷◌, ◌++◌, inl, inr}
use Rattle.std.proofs.Common.{refl, sym, ap, ◌∙◌, subst, arith, true, false, cond, ◌==◌, map}
use Rattle.std.proofs.lemmas.Bool.{eqb-true, and_parts}
use Rattle.std.proofs.lemmas.Option.{same_Some, some_pair_parts}
use Rattle.std.specs.Prelude.{Option, None, Some, Contains, MatchBool, MatchOption, IsSome, slice_get}
use Rattle.std.specs.FinMap.{find}
use Rattle.fabric_model.specs.declared.cable.NodePort.{NodePort}
use Rattle.fabric_model.specs.declared.cable.Cable.{Cable}
use Rattle.smp_bytes.specs.NodeType.{is_switch}
use Rattle.fabric_model.specs.Cables.{is_same_port, other_end}
use Rattle.fabric_model.specs.Fabric.{Node, Fabric, IsNodeAt, IsEndPortNumber, range_at}
use Rattle.fabric_model.proofs.FabricWalks.{port_at, same_port}
use Rattle.fact_join.specs.declared.cell.Cell.{Cell}
use Rattle.fact_join.specs.declared.cell.Cell.TheVariants.{Known, Disputed}
use Rattle.reply_facts.specs.declared.key.Key.{Key}
use Rattle.reply_facts.specs.declared.key.Key.TheVariants.{PortGuid, Link, Cap}
use Rattle.reply_facts.specs.declared.value.Value.{Value}
use Rattle.reply_facts.specs.declared.value.Value.TheVariants.{Kind, Guid, Peer, Up, Lid, Count}
use Rattle.reply_facts.specs.Key.{key_cmp}
use Rattle.reply_facts.specs.Known.{value_in, guid_in, peer_in, count_in, cap_of}
use Rattle.fact_store.specs.View.{Facts, cells_of}
use Rattle.subnet_view.specs.Reading.{Cells}
use Rattle.subnet_view.specs.EndPort.{IsEndPort}
use Rattle.subnet_view.specs.Wires.{across, IsWire}
use Rattle.subnet_view.specs.FabricAgreement.{Part, IsEndPortIn, HasEndPort, HasWire, TellsEndPort, AgreesOn}
use Rattle.subnet_view.proofs.Members.{contains_cases, contains_none}
use Rattle.subnet_view.proofs.Taken.{found_in}
use Rattle.subnet_view.proofs.WireLaws.{wire_law}
use Rattle.lid_assign.specs.Lids.{lids, range_of, top_of}
use Rattle.subnet_view.specs.Graph.{graph_of}
use Rattle.updown_routes.specs.Updown.{updown}
use Rattle.lft_blocks.specs.Rule.{up_and_down}
use Rattle.lft_blocks.specs.Plan.{plan_of, block_at}
use Rattle.lft_blocks.specs.PlanLaws.{HasBlock, block_of}
use Rattle.lft_blocks.specs.InForce.{HoldsBlock, HoldsPlan}
use Rattle.lft_blocks.proofs.BlockLaws.{made_at}
use Rattle.lft_blocks.proofs.BlockOwners.{blocks_are_of_switches}
use Rattle.lft_blocks.proofs.HeldEntries.{entry_of}

-- of each element -----------------------------------------------------------------------

abbrev pub Each : {X : Type 0} → (X → Type 0) → List X → Type 0
Each P [] = Unit {0}
Each P (x ∷ xs) = P x × Each P xs

-- the first, and the others
pub next : {A B : Type 0} → A → B → A × B
next a b = (a, b)

module _ {X : Type 0} (P : X → Type 0) where
  each_at : (xs : List X) → Each P xs → (x : X) → Contains xs x → P x
  each_at [] h x k = absurd (contains_none x k)
  each_at (y ∷ xs) h x k = elim (contains_cases y x xs k) [ inl e ↦ subst P e h.0 | inr r ↦ each_at xs h.1 x r ]

  pub each_append : (xs ys : List X) → Each P xs → Each P ys → Each P (xs ++ ys)
  each_append [] ys h k = k
  each_append (x ∷ xs) ys h k = (h.0, each_append xs ys h.1 k)

  pub each_all : (xs : List X) → ((x : X) → P x) → Each P xs
  each_all [] h = tt
  each_all (x ∷ xs) h = (h x, each_all xs h)

  pub each_map : {Y : Type 0} (m : Y → X) (ys : List Y) → Each (λ y. P (m y)) ys → Each P (map m ys)
  each_map m [] h = tt
  each_map m (y ∷ ys) h = (h.0, each_map m ys h.1)

-- of each node at its index
abbrev pub EachIndexed : (ℕ → Node → Type 0) → List Node → Type 0
EachIndexed P [] = Unit {0}
EachIndexed P (x ∷ xs) = P 0 x × EachIndexed (λ k. P (suc k)) xs

pub indexed_at : (P : ℕ → Node → Type 0) (xs : List Node) → EachIndexed P xs → (k : ℕ) (x : Node) → slice_get xs k ≡ Some x → P k x
indexed_at P [] h k x e = absurd (cc)
indexed_at P (y ∷ xs) h zero x e = subst (P 0) (same_Some y x e) h.0
indexed_at P (y ∷ xs) h (suc k) x e = indexed_at (λ n. P (suc n)) xs h.1 k x e

-- end ports of switches, and of nodes with one port
abbrev pub end_of : Node → ℕ
end_of n = cond (is_switch n.kind) 0 1

abbrev pub HasOneEnd : Node → Type 0
HasOneEnd n = is_switch n.kind ≡ false → n.ports ≡ 1

end_number : (n : Node) (p : ℕ) → HasOneEnd n → IsEndPortNumber n p → end_of n ≡ p
end_number n p one h =
    elim (is_switch n.kind) as (λ t. is_switch n.kind ≡ t → MatchBool t (p ≡ 0) ((1 ≤ p) × (p ≤ n.ports)) → cond t 0 1 ≡ p) [
      | true ↦ λ q k. sym k
      | false ↦ λ q k. omega (arith, one q, k.0, k.1)
    ] refl h

module _ (part : Part) (f : Fabric) (one : EachIndexed (λ k n. HasOneEnd n) f.nodes) (P : ℕ → Node → ℕ → Type 0) where
  pub end_cases : EachIndexed (λ k n. P k n (end_of n)) f.nodes → (port : NodePort) (node : Node) → IsEndPortIn part f port node → P port.node node port.port
  end_cases h port node here =
      let (other, there, number) = here.end_port in
      let same : other ≡ node = same_Some other node (sym there ∙ here.node_there) in
      let e : end_of node ≡ port.port =
      end_number node port.port (indexed_at (λ k n. HasOneEnd n) f.nodes one port.node node here.node_there)
      (subst (λ (x : Node). IsEndPortNumber x port.port) same number) in
      subst (P port.node node) e (indexed_at (λ k n. P k n (end_of n)) f.nodes h port.node node here.node_there)

-- of each cable, from both ends
same_ports : (p q : NodePort) → is_same_port p q ≡ true → p ≡ q
same_ports p q e =
    let parts = and_parts (p.node == q.node) (p.port == q.port) e in
    same_port p q (eqb-true p.node q.node parts.0) (eqb-true p.port q.port parts.1)

pub cable_cases : (P : NodePort → NodePort → Type 0) (cables : List Cable) → Each (λ c. P c.one c.other × P c.other c.one) cables
    → (p q : NodePort) → other_end cables p ≡ Some q → P p q
cable_cases P [] h p q e = absurd (cc)
cable_cases P (c ∷ cables) h p q e =
    elim (is_same_port c.one p) as (λ t. is_same_port c.one p ≡ t
    → cond t (Some c.other) (cond (is_same_port c.other p) (Some c.one) (other_end cables p)) ≡ Some q → P p q) [
      | true ↦ λ a b. subst (P p) (same_Some c.other q b) (subst (λ (x : NodePort). P x c.other) (same_ports c.one p a) h.0.0)
      | false ↦ λ a b. (elim (is_same_port c.other p) as (λ t. is_same_port c.other p ≡ t → cond t (Some c.one) (other_end cables p) ≡ Some q → P p q) [
        | true ↦ λ i j. subst (P p) (same_Some c.one q j) (subst (λ (x : NodePort). P x c.one) (same_ports c.other p i) h.0.1)
        | false ↦ λ i j. cable_cases P cables h.1 p q j
      ] refl b)
    ] refl e

-- what facts hold of is one of their cells ---------------------------------------------

guid_found : (o : Option (Cell Value)) → IsSome (guid_in (value_in o)) → (c : Cell Value) × (o ≡ Some c)
guid_found None h = absurd (cc)
guid_found (Some c) h = (c, refl)

count_found : (o : Option (Cell Value)) → IsSome (count_in (value_in o)) → (c : Cell Value) × (o ≡ Some c)
count_found None h = absurd (cc)
count_found (Some c) h = (c, refl)

peer_found : (o : Option (Cell Value)) (h q : ℕ) → ◌≡◌ {A = Option (ℕ × ℕ)} (peer_in (value_in o)) (Some (h, q)) → (n : ℕ) × (o ≡ Some (Known n (Peer h q)))
peer_found None h q e = absurd (cc)
peer_found (Some (Disputed n)) h q e = absurd (cc)
peer_found (Some (Known n (Peer a b))) h q e = let k = some_pair_parts a h b q e in (n, λ i. Some (Known n (Peer (k.0 i) (k.1 i))))
peer_found (Some (Known n (Kind a b))) h q e = absurd (cc)
peer_found (Some (Known n (Guid a))) h q e = absurd (cc)
peer_found (Some (Known n (Up a))) h q e = absurd (cc)
peer_found (Some (Known n (Lid a))) h q e = absurd (cc)
peer_found (Some (Known n (Count a))) h q e = absurd (cc)

-- agreement, fact by fact -----------------------------------------------------------------

-- what a cell says is there
abbrev pub Stands : Part → Fabric → Key × Cell Value → Type 0
Stands part f ((PortGuid g p), c) = HasEndPort part f g p
Stands part f ((Cap g), c) = HasEndPort part f g 0
Stands part f ((Link g p), (Known n (Peer h q))) = HasWire part f g p h q
Stands part f (_, _) = Unit {0}

-- the facts have a cable as a wire
pub record TellsCable (cells : Cells) (f : Fabric) (p q : NodePort) : Type 0 where
  pub one : Node
  pub other : Node
  pub one_there : IsNodeAt f p.node one
  pub other_there : IsNodeAt f q.node other
  pub told : across cells one.guid p.port ≡ Some (other.guid, q.port)

-- the facts tell of the node at an index, whose GUID has that index alone
abbrev pub TellsNode : (ℕ → ℕ) → Cells → ℕ → Node → ℕ → Type 0
TellsNode index_of cells k n p = (index_of n.guid ≡ k) × TellsEndPort cells n p

module _ (part : Part) (cells : Cells) (f : Fabric) (one : EachIndexed (λ k n. HasOneEnd n) f.nodes) (index_of : ℕ → ℕ)
    (told : EachIndexed (λ k n. TellsNode index_of cells k n (end_of n)) f.nodes) (stand : Each (Stands part f) cells)
    (cables : (p q : NodePort) → f.across p ≡ Some q → TellsCable cells f p q) where
  tells : (port : NodePort) (node : Node) → IsEndPortIn part f port node → TellsNode index_of cells port.node node port.port
  tells = end_cases part f one (TellsNode index_of cells) told

  stands : (key : Key) (c : Cell Value) → find key_cmp key cells ≡ Some c → Stands part f (key, c)
  stands key c e = each_at (Stands part f) cells stand (key, c) (found_in key cells c e)

  end_port_stands : (g p : ℕ) → IsEndPort cells g p → HasEndPort part f g p
  end_port_stands g p (kind, ports, node, number, guid) =
      let found = guid_found (find key_cmp (PortGuid g p) cells) guid in stands (PortGuid g p) found.0 found.1

  switch_stands : (g : ℕ) → IsSome (cap_of cells g) → HasEndPort part f g 0
  switch_stands g cap = let found = count_found (find key_cmp (Cap g) cells) cap in stands (Cap g) found.0 found.1

  wire_stands : (g p h q : ℕ) → IsWire cells g p h q → HasWire part f g p h q
  wire_stands g p h q w =
      let found = peer_found (find key_cmp (Link g p) cells) h q w.named_there in stands (Link g p) (Known found.0 (Peer h q)) found.1

  wire_told : (g p h q : ℕ) → HasWire part f g p h q → IsWire cells g p h q
  wire_told g p h q w =
      let t = cables w.from w.to w.wire.cable in
      let one_is : t.one ≡ w.from_named.node = same_Some t.one w.from_named.node (sym t.one_there ∙ w.from_named.node_there) in
      let other_is : t.other ≡ w.to_named.node = same_Some t.other w.to_named.node (sym t.other_there ∙ w.to_named.node_there) in
      let g_is : t.one.guid ≡ g = ap (λ (n : Node). n.guid) one_is ∙ w.from_named.guid_is in
      let h_is : t.other.guid ≡ h = ap (λ (n : Node). n.guid) other_is ∙ w.to_named.guid_is in
      (wire_law cells g p h q).0
      (sym (λ i. across cells (g_is i) (w.from_named.port_is i)) ∙ t.told ∙ (λ i. Some (h_is i, w.to_named.port_is i)))

  pub agreement : AgreesOn part cells f
  agreement =
      record {
        guids_distinct = λ p q a b at_p at_q e. sym (tells p a at_p).0 ∙ ap index_of e ∙ (tells q b at_q).0;
        tells_end_ports = λ port node here. (tells port node here).1;
        end_ports_exist = end_port_stands;
        switches_exist = λ g (ports, kind, cap). switch_stands g cap;
        wires = λ g p h q. (wire_stands g p h q, wire_told g p h q);
      }

-- holding a plan, switch by switch -----------------------------------------------------------

-- the entries of the plan that goes up and then down
abbrev pub planned_entry : ℕ → Cells → ℕ → ℕ → ℕ
planned_entry lmc cells g lid = entry_of (updown (graph_of cells)) lmc cells g lid

-- a table whose entries are the plan's holds the plan's blocks
blocks_held : (lmc : ℕ) (facts : Facts) (f : Fabric) (index g : ℕ) → ((lid : ℕ) → planned_entry lmc (cells_of facts) g lid ≡ f.entry index lid)
    → (b : ℕ) (block : List ℕ) → block_at (plan_of up_and_down lmc (cells_of facts)) g b ≡ Some block → HoldsBlock f index b block
blocks_held lmc facts f index g same b block there i h =
    let cells = cells_of facts in
    let rule = updown (graph_of cells) in
    let is : block ≡ block_of rule lmc cells g b =
    (subst (λ (o : Option (List ℕ)). MatchOption o (¬ (HasBlock lmc cells g b)) (λ x. HasBlock lmc cells g b × (x ≡ block_of rule lmc cells g b))) there
    (blocks_are_of_switches rule lmc facts g b)).1 in
    ap (λ (xs : List ℕ). slice_get xs i) is
    ∙ made_at (λ j. planned_entry lmc cells g (64 * b + j)) 0 64 i h
    ∙ ap (λ (n : ℕ). Some n) (same (64 * b + (0 + i)) ∙ ap (f.entry index) (shift b i))
  where
    shift : (b i : ℕ) → 64 * b + (0 + i) ≡ 64 * b + i
    shift b i = omega arith

-- the node at an index holds what the plan gives it
pub record HasPlanned (lmc : ℕ) (cells : Cells) (f : Fabric) (k : ℕ) (n : Node) (p : ℕ) : Type 0 where
  pub range : range_of (lids lmc cells) (record { node = n.guid; port = p }) ≡ Some (range_at f (port_at k p))
  pub top : is_switch n.kind ≡ true → top_of (lids lmc cells) ≡ Some (f.top k)
  pub table : (l : ℕ) → planned_entry lmc cells n.guid l ≡ f.entry k l

pub holding : (part : Part) (lmc : ℕ) (facts : Facts) (f : Fabric) → EachIndexed (λ k n. HasOneEnd n) f.nodes
    → EachIndexed (λ k n. HasPlanned lmc (cells_of facts) f k n (end_of n)) f.nodes → HoldsPlan part (plan_of up_and_down lmc (cells_of facts)) f
holding part lmc facts f one rows =
    let row = end_cases part f one (HasPlanned lmc (cells_of facts) f) rows in
    λ port node here. record {
      lids = (row port node here).range;
      top = λ e top is. let same : top ≡ f.top port.node = same_Some top (f.top port.node) (sym is ∙ (row port node here).top e) in omega (arith, same);
      blocks = blocks_held lmc facts f port.node node.guid (row port node here).table;
    }
