-- What the view of true sightings knows: the one true value of each key that was sighted.
use Rattle.std.proofs.Common.{◌≡◌, ℕ, Bool, true, false, refl, sym, ap, ◌∙◌, subst}
use Rattle.std.proofs.lemmas.Option.{same_Some}
use Rattle.std.specs.Prelude.{Option, Some, None, Contains, MatchOption, IsTrue}
use Rattle.std.specs.List.{AllByRecursion}
use Rattle.fabric_model.specs.declared.cable.NodePort.{NodePort}
use Rattle.fabric_model.specs.Fabric as fabric
use Rattle.fabric_model.specs.Fabric.{Fabric, IsNodeAt}
use Rattle.fact_join.specs.declared.cell.Cell.{Cell}
use Rattle.fact_join.specs.declared.cell.Cell.TheVariants.{Known, Disputed}
use Rattle.fact_join.specs.Cell.{generation_of}
use Rattle.reply_facts.specs.declared.key.Key.{Key}
use Rattle.reply_facts.specs.declared.key.Key.TheVariants.{Node, PortGuid, Link, Port, Cap}
use Rattle.reply_facts.specs.declared.value.Value.{Value}
use Rattle.reply_facts.specs.declared.value.Value.TheVariants.{Kind, Guid, Peer, Up, Count}
use Rattle.reply_facts.specs.Known.{value_in, known_in}
use Rattle.reply_facts.specs.Report.{Sightings}
use Rattle.fact_store.specs.Seen.{IsCellIn, WasSighted}
use Rattle.fact_store.specs.View.{view, cells_of, cell_for}
use Rattle.fact_store.proofs.Views.{view_cells}
use Rattle.fact_store.proofs.Entries.{known_by_cells}
use Rattle.fabric_sim.specs.ToldOfEnd.{IsUp}
use Rattle.manager_laws.specs.Truth.{HasNode, IsTrueOf, IsTrueSighting, AreGuidsDistinct}
use Rattle.manager_laws.proofs.Lists.{Has, contained_has, all_contained}

-- a sighting of the key is among them
abbrev pub HasKey : Sightings → Key → Type 0
HasKey told key = Has (λ s. s.0 ≡ key) told

-- the key was sighted with this value
pub record IsSighted (told : Sightings) (key : Key) (value : Value) : Type 0 where
  pub generation : ℕ
  pub there : Contains told (key, Known generation value)

module _ (f : Fabric) (distinct : AreGuidsDistinct f) where
  -- one GUID is of one node ---------------------------------------------------------------------------

  pub same_node : {g p q : ℕ} {n m : fabric.Node} → HasNode f g p n → HasNode f g q m → (p ≡ q) × (n ≡ m)
  same_node {g} {p} {q} {n} {m} a b =
      let id : p ≡ q = distinct p q n m a.there b.there (a.named ∙ sym b.named) in
      (id, same_Some n m (sym (subst (λ k. IsNodeAt f k n) id a.there) ∙ b.there))

  -- the one true value of a key --------------------------------------------------------------------------

  module _ {g id : ℕ} {node : fabric.Node} (has : HasNode f g id node) where
    pub node_value : (v : Value) → IsTrueOf f (Node g) v → v ≡ Kind node.kind node.ports
    node_value (Kind kind ports) (at, n, is, kind_is, ports_is) =
        let same = same_node is has in
        (λ j. Kind (sym kind_is j) (sym ports_is j)) ∙ ap (λ (x : fabric.Node). Kind x.kind x.ports) same.1
    node_value _ t = absurd t

    pub guid_value : (p : ℕ) (v : Value) → IsTrueOf f (PortGuid g p) v → v ≡ Guid (node.port_guid p)
    guid_value p (Guid guid) (at, n, is, number, guid_is) =
        let same = same_node is has in ap Guid (sym guid_is) ∙ ap (λ (x : fabric.Node). Guid (x.port_guid p)) same.1
    guid_value p _ t = absurd t

    pub cap_value : (v : Value) → IsTrueOf f (Cap g) v → v ≡ Count node.cap
    cap_value (Count cap) (at, n, is, switch, cap_is) =
        let same = same_node is has in ap Count (sym cap_is) ∙ ap (λ (x : fabric.Node). Count x.cap) same.1
    cap_value _ t = absurd t

    pub up_value : (p : ℕ) → IsUp f id node p → (v : Value) → IsTrueOf f (Port g p) v → v ≡ Up true
    up_value p up (Up b) (at, n, is, within, both) =
        let same = same_node is has in
        ap Up (is_true b (both.1 (subst (λ (x : fabric.Node). IsUp f at x p) (sym same.1) (subst (λ k. IsUp f k node p) (sym same.0) up))))
      where
        is_true : (b : Bool) → IsTrue b → b ≡ true
        is_true true t = refl
        is_true false t = cc
    up_value p up _ t = absurd t

    pub link_value : (p : ℕ) (far : NodePort) (h : ℕ) (other : fabric.Node) → f.across (record { node = id; port = p }) ≡ Some far
        → HasNode f h far.node other → (v : Value) → IsTrueOf f (Link g p) v → v ≡ Peer h far.port
    link_value p far h other cable there (Peer peer via) (at, n, is, cabled) =
        let same = same_node is has in
        let ends : cabled.far ≡ far = same_Some cabled.far far (sym cabled.cable ∙ ap (λ k. f.across (record { node = k; port = p })) same.0 ∙ cable) in
        let here : IsNodeAt f far.node cabled.other = subst (λ (q : NodePort). IsNodeAt f q.node cabled.other) ends cabled.node.there in
        let nodes : cabled.other ≡ other = same_Some cabled.other other (sym here ∙ there.there) in
        let guid : peer ≡ h = sym cabled.node.named ∙ ap (λ (x : fabric.Node). x.guid) nodes ∙ there.named in
        let port : via ≡ far.port = sym cabled.port_is ∙ ap (λ (q : NodePort). q.port) ends in
        λ j. Peer (guid j) (port j)
    link_value p far h other cable there _ t = absurd t

  -- the view ------------------------------------------------------------------------------------------------

  module _ (told : Sightings) (all : AllByRecursion (IsTrueSighting f) told) where
    true_there : (key : Key) (c : Cell Value) → Contains told (key, c) → IsTrueSighting f (key, c)
    true_there key c there = all_contained (IsTrueSighting f) told (key, c) all there

    pub true_sighting : (key : Key) (v : Value) → IsSighted told key v → IsTrueOf f key v
    true_sighting key v s = true_there key (Known s.generation v) s.there

    -- a key that was sighted is known to have its true value
    pub known_of : (key : Key) (x : Value) → ((v : Value) → IsTrueOf f key v → v ≡ x) → HasKey told key → known_in (cells_of (view told)) key ≡ Some x
    known_of key x only h = sym (known_by_cells (view told) key) ∙ by_cell (cell_for (view told) key) ((view_cells told).cells key)
      where
        sighted : (c : Cell Value) × WasSighted key told c
        sighted =
            let (s, there, is) = contained_has (λ s. s.0 ≡ key) told h in
            (s.1, subst (λ k. Contains told (k, s.1)) is there)

        says : (g : ℕ) (c : Cell Value) → IsTrueSighting f (key, c) → generation_of c ≡ g → c ≡ Known g x
        says g (Known k v) t e = let value = only v t in λ j. Known (e j) (value j)
        says g (Disputed k) t e = absurd t

        by_cell : (o : Option (Cell Value)) → MatchOption o ((c : Cell Value) → WasSighted key told c → ⊥) (IsCellIn key told) → value_in o ≡ Some x
        by_cell None none = absurd (none sighted.0 sighted.1)
        by_cell (Some (Known g v)) (newest, say) =
            let c = newest.sighted in
            let is : c.0 ≡ Known g v = say c.0 c.1 c.2 in
            ap Some (only v (subst (λ z. IsTrueSighting f (key, z)) is (true_there key c.0 c.1)))
        by_cell (Some (Disputed g)) (newest, dispute) = absurd (dispute x (λ c there e. says g c (true_there key c there) e))

-- what is known was sighted
pub sighted_of : (told : Sightings) (key : Key) (x : Value) → known_in (cells_of (view told)) key ≡ Some x → IsSighted told key x
sighted_of told key x e = by_cell (cell_for (view told) key) ((view_cells told).cells key) (known_by_cells (view told) key ∙ e)
  where
    by_cell : (o : Option (Cell Value)) → MatchOption o ((c : Cell Value) → WasSighted key told c → ⊥) (IsCellIn key told) → value_in o ≡ Some x
        → IsSighted told key x
    by_cell None none e = cc
    by_cell (Some (Known g v)) (newest, say) e =
        let c = newest.sighted in
        let is : c.0 ≡ Known g v = say c.0 c.1 c.2 in
        let same : v ≡ x = same_Some v x e in
        record { generation = g; there = subst (λ w. Contains told (key, Known g w)) same (subst (λ z. Contains told (key, z)) is c.1) }
    by_cell (Some (Disputed g)) d e = cc
