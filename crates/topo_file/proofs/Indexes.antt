-- A node and a link that are added, and the indexes by which they are found.
use Rattle.std.proofs.Common.{◌≡◌, ◌≢◌, ◌<◌, ℕ, suc, List, [], ◌∷◌, ◌++◌, refl, sym, ap, ◌∙◌, Bool, true, false, cond, length, ◌&&◌, arith, subst}
use Rattle.std.proofs.lemmas.Map.Text.{is_eq-slice_cmp}
use Rattle.std.proofs.lemmas.Slice.Eq.{bytes_eq-Decides}
use Rattle.std.specs.Prelude.{Option, None, Some, IfSome, option_map, option_copied, is_some, slice_get, All}
use Rattle.std.specs.Borrow.{Bor}
use Rattle.std.proofs.lemmas.Option.{slice_get_within, get_or_from_slice_get}
use Rattle.std.specs.List.{AllByRecursion}
use Rattle.std.proofs.Common.{length-append}
use Rattle.std.proofs.lemmas.List.Elements.{recursion_from_All, All-cons}
use Rattle.std.specs.declared.cmp.Ordering.{Ordering}
use Rattle.std.specs.declared.cmp.Ordering.TheVariants.{Less, Equal, Greater}
use Rattle.std.specs.Ordering.{is_eq, nat_cmp, ordering_then}
use Rattle.std.specs.Cmp.{unsigned_ties}
use Rattle.std.specs.Cmp.Lexicographic.{slice_cmp}
use Rattle.std.specs.BTreeMap.{BTreeMap, Updates}
use Rattle.std.specs.Str.{bytes_eq}
use Rattle.fabric_model.specs.declared.cable.Cable.{Cable}
use Rattle.fabric_model.specs.declared.cable.NodePort.{NodePort}
use Rattle.fabric_model.proofs.Cabled.{same_port-is}
use Rattle.smp_bytes.specs.Ports.{node_port_cmp}
use Rattle.topo_file.specs.declared.node.Node.{Node}
use Rattle.text_words.specs.NodeName.{is_name, name_in}
use Rattle.fabric_model.specs.Cables.{is_same_port, other_end}
use Rattle.topo_file.specs.Topology.{IsNode, IsFound, id_of}
use Rattle.topo_file.specs.Indexes.{HasIds, HasEnds}

-- texts that are equal
pub same_bytes : (xs ys : List ℕ) → bytes_eq xs ys ≡ true → xs ≡ ys
same_bytes xs ys e = (bytes_eq-Decides xs ys).0 e

-- no id is found where no name before is the name and the later ids have none
pub none_before : (t : Bool) (o : Option ℕ) → cond t (Some 0) (option_map suc o) ≡ None → (t ≡ false) × (o ≡ None)
none_before true o e = cc
none_before false None e = (refl, refl)
none_before false (Some n) e = cc

-- a node at the end is found by its name, and the others as before
found_before : (s t : Bool) (n : ℕ) (o : Option ℕ) → (s ≡ true → t ≡ false)
    → cond t (Some 0) (option_map suc (cond s (Some n) o)) ≡ cond s (Some (suc n)) (cond t (Some 0) (option_map suc o))
found_before true true n o apart = absurd (let e : true ≡ false = apart refl in cc)
found_before true false n o apart = refl
found_before false t n o apart = refl

pub id_more : (nodes : List Node) (node : Node) (name : List ℕ) → id_of nodes node.name ≡ None
    → id_of (nodes ++ node ∷ []) name ≡ cond (bytes_eq node.name name) (Some (length nodes)) (id_of nodes name)
id_more [] node name e = refl
id_more (m ∷ nodes) node name e =
    let p = none_before (bytes_eq m.name node.name) (id_of nodes node.name) e in
    let apart : bytes_eq node.name name ≡ true → bytes_eq m.name name ≡ false = λ same. ap (bytes_eq m.name) (sym (same_bytes node.name name same)) ∙ p.0 in
    ap (λ o. cond (bytes_eq m.name name) (Some 0) (option_map suc o)) (id_more nodes node name p.1)
    ∙ found_before (bytes_eq node.name name) (bytes_eq m.name name) (length nodes) (id_of nodes name) apart

-- the index with a node more
pub ids_more : (nodes : List Node) (ids new : BTreeMap (List ℕ) ℕ) (node : Node) → length nodes < 1024 → id_of nodes node.name ≡ None
    → HasIds nodes ids
    → Updates (slice_cmp nat_cmp) ids new node.name (Some (length nodes)) → HasIds (nodes ++ node ∷ []) new
ids_more nodes ids new node room none has u = record {
  few = omega (arith, length-append nodes (node ∷ []), room);
  found = λ name. u.0 name ∙ (λ i. cond (is_eq-slice_cmp node.name name i) (Some (length nodes)) (has.found name i)) ∙ sym (id_more nodes node name none);
}

-- a name that is none has no id
pub nameless : (nodes : List Node) (name : List ℕ) → AllByRecursion IsNode nodes → is_name name ≡ false → id_of nodes name ≡ None
nameless [] name all none = refl
nameless (node ∷ nodes) name all none =
    let apart : bytes_eq node.name name ≡ false =
    elim (bytes_eq node.name name) as (λ t. bytes_eq node.name name ≡ t → bytes_eq node.name name ≡ false) [
      | true ↦ λ e. let named : is_name name ≡ true = ap is_name (sym (same_bytes node.name name e)) ∙ all.0.named in
          absurd (let f : true ≡ false = sym named ∙ none in cc)
      | false ↦ λ e. e
    ] refl in
    let later : id_of nodes name ≡ None = nameless nodes name all.1 none in
    rw (apart, later) refl

no_name : (t : Bool) (name : List ℕ) → cond t (Some name) None ≡ None → t ≡ false
no_name true name e = cc
no_name false name e = refl

pub unnamed : (nodes : List Node) (name : List ℕ) → All IsNode nodes → name_in name ≡ None → id_of nodes name ≡ None
unnamed nodes name all none = nameless nodes name (recursion_from_All IsNode nodes all) (no_name (is_name name) name none)

-- no other end is found where neither end of the first link is the port and the later links have none
pub none_there : (s t : Bool) (a b : NodePort) (o : Option NodePort) → cond s (Some a) (cond t (Some b) o) ≡ None → (s ≡ false) × (t ≡ false) × (o ≡ None)
none_there true t a b o e = cc
none_there false true a b o e = cc
none_there false false a b o e = (refl, refl, e)

-- a link at the end, where none before is in the port, and where it is not
pub after_all : (links : List Cable) (link : Cable) (p : NodePort) → other_end links p ≡ None → other_end (links ++ link ∷ []) p ≡ other_end (link ∷ []) p
after_all [] link p e = refl
after_all (x ∷ links) link p e =
    let h = none_there (is_same_port x.one p) (is_same_port x.other p) x.other x.one (other_end links p) e in
    let later : other_end (links ++ link ∷ []) p ≡ other_end (link ∷ []) p = after_all links link p h.2 in
    ap (λ t. cond t (Some x.other) (cond (is_same_port x.other p) (Some x.one) (other_end (links ++ link ∷ []) p))) h.0
    ∙ ap (λ t. cond t (Some x.one) (other_end (links ++ link ∷ []) p)) h.1 ∙ later

kept : (links : List Cable) (link : Cable) (p : NodePort) → is_same_port link.one p ≡ false → is_same_port link.other p ≡ false
    → other_end (links ++ link ∷ []) p ≡ other_end links p
kept [] link p e f = ap (λ t. cond t (Some link.other) (cond (is_same_port link.other p) (Some link.one) None)) e ∙ ap (λ t. cond t (Some link.one) None) f
kept (x ∷ links) link p e f = ap (λ o. cond (is_same_port x.one p) (Some x.other) (cond (is_same_port x.other p) (Some x.one) o)) (kept links link p e f)

two_ways : (s t : Bool) (a b : NodePort) → (s ≡ true → t ≡ true → a ≡ b) → cond s (Some a) (cond t (Some b) None) ≡ cond t (Some b) (cond s (Some a) None)
two_ways true true a b e = ap Some (e refl refl)
two_ways true false a b e = refl
two_ways false true a b e = refl
two_ways false false a b e = refl

ends_more : (links : List Cable) (link : Cable) (p : NodePort) → other_end links link.one ≡ None → other_end links link.other ≡ None
    → other_end (links ++ link ∷ []) p ≡ cond (is_same_port link.other p) (Some link.one) (cond (is_same_port link.one p) (Some link.other) (other_end links p))
ends_more links link p one other =
    let Wanted : Type 0 = other_end (links ++ link ∷ []) p ≡ cond (is_same_port link.other p) (Some link.one)
    (cond (is_same_port link.one p) (Some link.other) (other_end links p)) in
    let found : other_end links p ≡ None → Wanted = λ none. after_all links link p none
    ∙ two_ways (is_same_port link.one p) (is_same_port link.other p) link.other link.one (λ s t. same_port-is link.other p t ∙ sym (same_port-is link.one p s))
    ∙ ap (λ o. cond (is_same_port link.other p) (Some link.one) (cond (is_same_port link.one p) (Some link.other) o)) (sym none) in
    elim (is_same_port link.one p) as (λ s. is_same_port link.one p ≡ s → Wanted) [
      | true ↦ λ s. found (ap (other_end links) (sym (same_port-is link.one p s)) ∙ one)
      | false ↦ λ s. (elim (is_same_port link.other p) as (λ t. is_same_port link.other p ≡ t → Wanted) [
        | true ↦ λ t. found (ap (other_end links) (sym (same_port-is link.other p t)) ∙ other)
        | false ↦ λ t. kept links link p s t
            ∙ sym (ap (λ b. cond b (Some link.one) (cond (is_same_port link.one p) (Some link.other) (other_end links p))) t
            ∙ ap (λ b. cond b (Some link.other) (other_end links p)) s)
      ] refl)
    ] refl

eq_then : (x y : Ordering) → is_eq (ordering_then x y) ≡ (is_eq x && is_eq y)
eq_then Less y = refl
eq_then Equal y = refl
eq_then Greater y = refl

at_port : (q p : NodePort) → is_eq (node_port_cmp (q.node, q.port) (p.node, p.port)) ≡ is_same_port q p
at_port q p = eq_then (nat_cmp q.node p.node) (nat_cmp q.port p.port) ∙ sym (λ i. unsigned_ties q.node p.node i && unsigned_ties q.port p.port i)

-- the index with a link more
pub ends_indexed : (links : List Cable) (across middle new : BTreeMap (ℕ × ℕ) NodePort) (link : Cable) → other_end links link.one ≡ None
    → other_end links link.other ≡ None → HasEnds links across
    → Updates node_port_cmp across middle (link.one.node, link.one.port) (Some link.other)
    → Updates node_port_cmp middle new (link.other.node, link.other.port) (Some link.one)
    → HasEnds (links ++ link ∷ []) new
ends_indexed links across middle new link one other has u v p =
    v.0 (p.node, p.port) ∙ (λ i. cond (at_port link.other p i) (Some link.one) (u.0 (p.node, p.port) i))
    ∙ (λ i. cond (is_same_port link.other p) (Some link.one) (cond (at_port link.one p i) (Some link.other) (has p i)))
    ∙ sym (ends_more links link p one other)

pub nowhere : (o : Option ℕ) → false ≡ is_some o → o ≡ None
nowhere None e = refl
nowhere (Some n) e = cc

-- the id of a name, one further on
found_later : (m : Node) (nodes : List Node) (name : List ℕ) (o : Option ℕ) → m.name ≢ name → IsFound nodes name o
    → IsFound (m ∷ nodes) name (option_map suc o)
found_later m nodes name None apart h = All-cons (λ node. node.name ≢ name) m nodes apart h
found_later m nodes name (Some id) apart h = h

-- the id of a name is that of its node
pub found_is : (nodes : List Node) (name : List ℕ) → IsFound nodes name (id_of nodes name)
found_is [] name = λ k d h. absurd (omega arith)
found_is (m ∷ nodes) name =
    elim (bytes_eq m.name name) as (λ t. bytes_eq m.name name ≡ t → IsFound (m ∷ nodes) name (cond t (Some 0) (option_map suc (id_of nodes name)))) [
      | true ↦ λ e. (m, refl, same_bytes m.name name e)
      | false ↦ λ e. found_later m nodes name (id_of nodes name)
          (λ same. let f : bytes_eq m.name name ≡ true = (bytes_eq-Decides m.name name).1 same in cc) (found_is nodes name)
    ] refl

pub found_at : (nodes : List Node) (name : List ℕ) (o : Option ℕ) → o ≡ id_of nodes name → IsFound nodes name o
found_at nodes name o e = subst (λ (p : Option ℕ). IsFound nodes name p) (sym e) (found_is nodes name)

-- what has an id is a node as a topology may have it
pub listed_is_node : (nodes : List Node) (id : ℕ) (found : Option (Bor Node)) → All IsNode nodes → option_copied found ≡ slice_get nodes id
    → IfSome found (λ n. IsNode n.now)
listed_is_node nodes id None are e = tt
listed_is_node nodes id (Some n) are e =
    subst IsNode (get_or_from_slice_get nodes id n.now n.now (sym e)) (are id n.now (slice_get_within nodes id n.now (sym e)))
