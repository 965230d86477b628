-- What lines tell is a topology.
use Rattle.std.proofs.Common.{◌≡◌, ◌≢◌, ℕ, zero, suc, ◌+◌, ◌<◌, ◌≤◌, ◌^◌, Bool, true, false, cond, leb, ltb, List, [], ◌∷◌, ◌++◌, length, get_or, Option}
use Rattle.std.proofs.Common.{None, Some, Result, Ok, Err, refl, sym, ap, ◌∙◌, arith, length-append}
use Rattle.std.specs.Prelude.{IfSome, IfOk, is_some, slice_get, option_and_then, All, ◌||◌}
use Rattle.std.specs.List.{AllPairs, AllByRecursion}
use Rattle.std.proofs.lemmas.Bool.{leb-true, leb-false, ltb-true}
use Rattle.std.proofs.lemmas.Result.{IfOk-at_ok}
use Rattle.std.proofs.lemmas.List.Elements.{All-push}
use Rattle.std.proofs.lemmas.List.Quantifiers.{all_pairs_push}
use Rattle.std.proofs.lemmas.Slice.Eq.{bytes_eq-Decides}
use Rattle.std.specs.Str.{bytes_eq}
use Rattle.smp_bytes.specs.NodeType.{is_switch}
use Rattle.smp_bytes.specs.declared.node_type.NodeType.{NodeType}
use Rattle.smp_bytes.specs.declared.node_type.NodeType.TheVariants.{ChannelAdapter, Switch, Router}
use Rattle.fabric_model.specs.declared.cable.Cable.{Cable}
use Rattle.fabric_model.specs.declared.cable.NodePort.{NodePort}
use Rattle.fabric_model.proofs.Cabled.{same_port-refl}
use Rattle.topo_file.specs.declared.topo_fault.TopoFault.{TopoFault}
use Rattle.topo_file.specs.declared.topo_fault.TopoFault.TheVariants.{Name, GuidRange, TooManyNodes, Linked}
use Rattle.topo_file.specs.declared.topology_line.TopologyLine.{TopologyLine}
use Rattle.topo_file.specs.declared.topology_line.TopologyLine.TheVariants as line
use Rattle.topo_file.specs.declared.topology_line.NodeLine.{NodeLine}
use Rattle.topo_file.specs.declared.topology_line.LinkLine.{LinkLine}
use Rattle.topo_file.specs.declared.draft.LinkAt.{LinkAt}
use Rattle.topo_file.specs.declared.node.Node.{Node}
use Rattle.topo_file.specs.TopologyLine.{line_of}
use Rattle.fabric_model.specs.Cables.{is_same_port, other_end}
use Rattle.topo_file.specs.Topology.{id_of, IsOfKind, IsNode, IsPortIn, IsLinkIn, AreApart, IsTopology}
use Rattle.topo_file.specs.Reading.{◌>>=◌, Lines, is_beyond, node_with, node_of, with_node, with_link_line, with_line, with_lines, port_at, link_between}
use Rattle.topo_file.specs.Reading.{link_to, link_of, is_end, with_link, with_links, nodes_of_lines}
use Rattle.topo_file.specs.ReadingLaws.{AreNodes, IsLinkLine, IsDraft}
use Rattle.text_words.proofs.Ranges.{tested}
use Rattle.topo_file.proofs.Grammar.{HasRoom, IsNodeLine, IsLine, line_fits}
use Rattle.topo_file.proofs.Indexes.{nowhere, none_before, none_there}

-- what holds of what is read
pub read_then : {A B : Type 0} (P : A → Type 0) (Q : B → Type 0) (r : Result A TopoFault) (f : A → Result B TopoFault) → IfOk r P
    → ((x : A) → P x → IfOk (f x) Q) → IfOk (r >>= f) Q
read_then P Q (Ok x) f h g = g x h
read_then P Q (Err fault) f h g = tt

pub unless : {A : Type 0} (Q : A → Type 0) (b : Bool) (fault : TopoFault) (r : Result A TopoFault) → (b ≡ false → IfOk r Q) → IfOk (cond b (Err fault) r) Q
unless Q true fault r h = tt
unless Q false fault r h = h refl

pub where_true : {A : Type 0} (Q : A → Type 0) (b : Bool) (fault : TopoFault) (r : Result A TopoFault) → (b ≡ true → IfOk r Q) → IfOk (cond b r (Err fault)) Q
where_true Q true fault r h = h refl
where_true Q false fault r h = tt

-- a node
of_kind : (kind : NodeType) (ports guid cap : ℕ) → HasRoom kind cap → cond (is_switch kind) false (leb (2 ^ 64) (guid + ports)) ≡ false
    → IsOfKind kind ports guid cap
of_kind Switch ports guid cap room e = room
of_kind ChannelAdapter ports guid cap room e = (room, leb-false _ _ e)
of_kind Router ports guid cap room e = room

node_fits : (number : ℕ) (node : NodeLine) (ports cap : Option ℕ) → IsNodeLine node → node.ports ≡ ports → node.cap ≡ cap
    → IfOk (node_with number node ports cap) IsNode
node_fits number node (Some ports) (Some cap) is e f =
    unless IsNode (is_beyond node ports) (GuidRange number) _ (λ b.
    let p = is.ports ports e in
    record { named = is.named; some_ports = p.0; port_range = p.1; guid_range = is.guid; of_kind = of_kind node.kind ports node.guid cap (is.room cap f) b })
node_fits number node (Some ports) None is e f = tt
node_fits number node None cap is e f = tt

-- no node before has the name
no_id : (nodes : List Node) (name : List ℕ) → id_of nodes name ≡ None → (k : ℕ) (d : Node) → k < length nodes → (get_or nodes k d).name ≢ name
no_id [] name e k d h = absurd (omega arith)
no_id (m ∷ nodes) name e zero d h = λ same.
    let apart : bytes_eq m.name name ≡ false = (none_before (bytes_eq m.name name) (id_of nodes name) e).0 in
    let equal : bytes_eq m.name name ≡ true = (bytes_eq-Decides m.name name).1 same in cc
no_id (m ∷ nodes) name e (suc k) d h = no_id nodes name (none_before (bytes_eq m.name name) (id_of nodes name) e).1 k d (omega arith)

nodes_fit : (number : ℕ) (nodes : List Node) (node : Node) → AreNodes nodes → IsNode node → IfOk (with_node number nodes node) AreNodes
nodes_fit number nodes node are is =
    unless AreNodes (is_some (id_of nodes node.name)) (Name number) _ (λ e.
    where_true AreNodes (ltb (length nodes) 1024) (TooManyNodes number) (Ok (nodes ++ node ∷ [])) (λ few.
    let room : length nodes < 1024 = ltb-true _ _ few in
    record {
      few = omega (arith, length-append nodes (node ∷ []), room);
      nodes = All-push IsNode nodes node are.nodes is;
      names = all_pairs_push (λ x y. x.name ≢ y.name) nodes node are.names (no_id nodes node.name (nowhere _ (sym e)));
    }))

-- the link lines
fit_more : (links : List LinkAt) (at : LinkAt) → AllByRecursion (λ x. IsLinkLine x.link) links → IsLinkLine at.link
    → AllByRecursion (λ x. IsLinkLine x.link) (links ++ at ∷ [])
fit_more [] at all is = (is, tt)
fit_more (x ∷ links) at all is = (all.0, fit_more links at all.1 is)

link_line_fits : (number count : ℕ) (before : Lines) (link : LinkLine) → IsDraft before → IsLinkLine link
    → IfOk (with_link_line number count before.links link >>= λ links. Ok (record before { links = links })) IsDraft
link_line_fits number zero before link is fits = tt
link_line_fits number (suc last) before link is fits = record { nodes = is.nodes; links = fit_more before.links _ is.links fits }

line_kept : (number : ℕ) (before : Lines) (told : Option TopologyLine) → IsDraft before → IfSome told IsLine → IfOk (with_line number before told) IsDraft
line_kept number before None is fits = tt
line_kept number before (Some line.Empty) is fits = is
line_kept number before (Some (line.Node node)) is fits =
    read_then AreNodes IsDraft (node_of number node >>= with_node number before.nodes) _
    (read_then IsNode AreNodes (node_of number node) (with_node number before.nodes) (node_fits number node node.ports node.cap fits refl refl)
    (λ n h. nodes_fit number before.nodes n is.nodes h))
    (λ nodes h. record { nodes = h; links = is.links })
line_kept number before (Some (line.Link link)) is fits = link_line_fits number (length before.nodes) before link is fits

pub lines_kept : (number : ℕ) (before : Lines) (ls : List (List ℕ)) → IsDraft before → IfOk (with_lines number before ls) IsDraft
lines_kept number before [] is = is
lines_kept number before (l ∷ ls) is =
    read_then IsDraft IsDraft (with_line number before (line_of l)) (λ now. with_lines (number + 1) now ls)
    (line_kept number before (line_of l) is (line_fits l)) (λ now h. lines_kept (number + 1) now ls h)

-- no nodes and no links
empty_nodes : AreNodes []
empty_nodes = record { few = omega arith; nodes = λ k d h. absurd (omega arith); names = λ i j d h k. absurd (omega arith) }

pub told_fits : (ls : List (List ℕ)) (told : Lines) → nodes_of_lines ls ≡ Ok told → IsDraft told
told_fits ls told e = IfOk-at_ok IsDraft e (lines_kept 1 (record { nodes = []; links = [] }) ls (record { nodes = empty_nodes; links = tt }))

-- the port of a node
port_here : (nodes : List Node) (id p : ℕ) (found : Option Node) → 1 ≤ p → slice_get nodes id ≡ found
    → IfSome (option_and_then (λ node. cond (leb p node.ports) (Some (record { node = id; port = p })) None) found) (IsPortIn nodes)
port_here nodes id p None some e = tt
port_here nodes id p (Some node) some e = tested (IsPortIn nodes) (leb p node.ports) _
    (λ h. record { node = node; there = e; some = some; within = leb-true _ _ h })

port_fits : (nodes : List Node) (id : ℕ) (port : Option ℕ) → ((p : ℕ) → port ≡ Some p → 1 ≤ p) → IfSome (port_at nodes id port) (IsPortIn nodes)
port_fits nodes id None some = tt
port_fits nodes id (Some p) some = port_here nodes id p (slice_get nodes id) (some p refl) refl

between : (nodes : List Node) (number : ℕ) (one other : Option NodePort) → IfSome one (IsPortIn nodes) → IfSome other (IsPortIn nodes)
    → IfOk (link_between number one other) (IsLinkIn nodes)
between nodes number (Some one) (Some other) is_one is_other = record { one = is_one; other = is_other }
between nodes number (Some one) None is_one is_other = tt
between nodes number None other is_one is_other = tt

link_fits_to : (nodes : List Node) (at : LinkAt) (id : Option ℕ) → IsLinkLine at.link → IfOk (link_to nodes at id) (IsLinkIn nodes)
link_fits_to nodes at None is = tt
link_fits_to nodes at (Some id) is =
    between nodes at.line _ _ (port_fits nodes at.node at.link.port is.port) (port_fits nodes id at.link.peer_port is.peer_port)

-- no link before is in the port
apart_from : (p q : NodePort) → is_same_port p q ≡ false → p ≢ q
apart_from p q e same = let f : is_same_port p q ≡ true = ap (is_same_port p) (sym same) ∙ same_port-refl p in cc

unlinked : (links : List Cable) (p : NodePort) → other_end links p ≡ None → (k : ℕ) (d : Cable) → k < length links
    → ((get_or links k d).one ≢ p) × ((get_or links k d).other ≢ p)
unlinked [] p e k d h = absurd (omega arith)
unlinked (x ∷ links) p e zero d h = let n = none_there (is_same_port x.one p) (is_same_port x.other p) x.other x.one (other_end links p) e in
    (apart_from x.one p n.0, apart_from x.other p n.1)
unlinked (x ∷ links) p e (suc k) d h = unlinked links p (none_there (is_same_port x.one p) (is_same_port x.other p) x.other x.one (other_end links p) e).2 k d
    (omega arith)

record AreLinks (nodes : List Node) (all : List Cable) : Type 0 where
  links : All (IsLinkIn nodes) all
  apart : AllPairs AreApart all

neither : (s t : Bool) → (s || t) ≡ false → (s ≡ false) × (t ≡ false)
neither true t e = cc
neither false t e = (refl, e)

pub kept_or : {A : Type 0} (Q : A → Type 0) (b : Bool) (r s : Result A TopoFault) → IfOk r Q → IfOk s Q → IfOk (cond b r s) Q
kept_or Q true r s h g = h
kept_or Q false r s h g = g

no_end : (o : Option NodePort) → is_some o ≡ false → o ≡ None
no_end None e = refl
no_end (Some p) e = cc

link_kept : (nodes : List Node) (number : ℕ) (links : List Cable) (link : Cable) → AreLinks nodes links → IsLinkIn nodes link
    → IfOk (with_link number links link) (AreLinks nodes)
link_kept nodes number links link are is =
    kept_or (AreLinks nodes) (is_end link.other (other_end links link.one)) (Ok links) _ are
    (unless (AreLinks nodes) (is_some (other_end links link.one) || is_some (other_end links link.other)) (Linked number) (Ok (links ++ link ∷ [])) (λ e.
    let n = neither _ _ e in
    let one = unlinked links link.one (no_end _ n.0) in
    let other = unlinked links link.other (no_end _ n.1) in
    record {
      links = All-push (IsLinkIn nodes) links link are.links is;
      apart = all_pairs_push AreApart links link are.apart (λ k d h. record {
        one_one = (one k d h).0;
        one_other = (other k d h).0;
        other_one = (one k d h).1;
        other_other = (other k d h).1;
      });
    }))

links_kept : (nodes : List Node) (links : List Cable) (ats : List LinkAt) → AreLinks nodes links → AllByRecursion (λ at. IsLinkLine at.link) ats
    → IfOk (with_links nodes links ats) (AreLinks nodes)
links_kept nodes links [] are all = are
links_kept nodes links (at ∷ ats) are all =
    read_then (AreLinks nodes) (AreLinks nodes) (link_of nodes at >>= with_link at.line links) (λ now. with_links nodes now ats)
    (read_then (IsLinkIn nodes) (AreLinks nodes) (link_of nodes at) (with_link at.line links) (link_fits_to nodes at (id_of nodes at.link.peer) all.0)
    (λ link h. link_kept nodes at.line links link are h))
    (λ now h. links_kept nodes now ats h all.1)

no_links : (nodes : List Node) → AreLinks nodes []
no_links nodes = record { links = λ k d h. absurd (omega arith); apart = λ i j d h k. absurd (omega arith) }

pub topology_fits : (told : Lines) (links : List Cable) → IsDraft told → with_links told.nodes [] told.links ≡ Ok links
    → IsTopology (record { nodes = told.nodes; links = links })
topology_fits told links is e =
    let are : AreLinks told.nodes links = IfOk-at_ok (AreLinks told.nodes) e (links_kept told.nodes [] told.links (no_links told.nodes) is.links) in
    record { few = is.nodes.few; nodes = is.nodes.nodes; names = is.nodes.names; links = are.links; apart = are.apart }
