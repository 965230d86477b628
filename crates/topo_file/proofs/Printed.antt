-- A printed topology is read as that topology: its lines, the nodes and link lines that they give, and their links.
use Rattle.std.proofs.Common.{◌≡◌, ◌≢◌, ℕ, zero, suc, ◌+◌, ◌<◌, ◌≤◌, ◌^◌, Bool, true, false, cond, leb, ltb, List, [], ◌∷◌, ◌++◌, length, None}
use Rattle.std.proofs.Common.{Some, Ok, refl, sym, ap, ◌∙◌, arith, subst, append_assoc, append-nil, length-append, eq-eqb, inl, inr}
use Rattle.std.specs.Prelude.{IsTrue, codes, map, slice_get, ◌==◌}
use Rattle.std.specs.List.{AllPairs, AllByRecursion}
use Rattle.std.proofs.lemmas.Bool.{cases_lt, eqb-true}
use Rattle.std.proofs.lemmas.Option.{slice_get_within}
use Rattle.std.proofs.lemmas.List.Elements.{recursion_from_All}
use Rattle.std.proofs.lemmas.Slice.Eq.{bytes_eq-Decides}
use Rattle.std.specs.Str.{bytes_eq}
use Rattle.fabric_model.specs.Cables.{is_same_port, other_end}
use Rattle.fabric_model.proofs.Cabled.{same_port-is}
use Rattle.smp_bytes.specs.declared.node_type.NodeType.{NodeType}
use Rattle.smp_bytes.specs.declared.node_type.NodeType.TheVariants.{ChannelAdapter, Switch, Router}
use Rattle.fabric_model.specs.declared.cable.Cable.{Cable}
use Rattle.fabric_model.specs.declared.cable.NodePort.{NodePort}
use Rattle.text_words.specs.NodeName.{is_name}
use Rattle.text_words.specs.Printed.{line_text}
use Rattle.text_words.proofs.Digits.{is_within, is_below, not_within}
use Rattle.text_words.proofs.Splits.{differs}
use Rattle.text_words.proofs.NumbersPrinted.{count_is_read, guid_is_read}
use Rattle.text_words.proofs.Printed.{IsWord, words_are_read, lines_are_read, printed, decimal_word, guid_word, quoted_word, bracketed_word, named_word}
use Rattle.text_words.proofs.Printed.{quoted_is_read, bracketed_is_read, named_is_read}
use Rattle.topo_file.specs.declared.topology_line.TopologyLine.TheVariants as line
use Rattle.topo_file.specs.declared.topology_line.NodeLine.{NodeLine}
use Rattle.topo_file.specs.declared.topology_line.LinkLine.{LinkLine}
use Rattle.topo_file.specs.declared.draft.LinkAt.{LinkAt}
use Rattle.topo_file.specs.declared.node.Node.{Node}
use Rattle.topo_file.specs.TopologyLine.{line_in, line_of}
use Rattle.topo_file.specs.Topology.{Layout, id_of, IsNode, IsLinkIn, AreApart}
use Rattle.topo_file.specs.Reading.{◌>>=◌, node_of, with_lines, link_of, with_link, with_links, topology_in, nodes_of_lines, topology_of}
use Rattle.topo_file.specs.Printed.{node_words, name_at, link_words, links_at, lines_from, PrintedTopologiesAreRead}
use Rattle.topo_file.proofs.Indexes.{same_bytes, id_more, after_all}

-- of each element and each later one, by recursion
abbrev pub Pairs : {X : Type 0} → (X → X → Type 0) → List X → Type 0
Pairs R [] = Unit {0}
Pairs R (x ∷ xs) = AllByRecursion (R x) xs × Pairs R xs

pub pairs : {X : Type 0} (R : X → X → Type 0) (xs : List X) → AllPairs R xs → Pairs R xs
pairs R [] h = tt
pairs R (x ∷ xs) h = (
  recursion_from_All (R x) xs (λ k d l. h 0 (suc k) d (omega arith) (omega arith)),
  pairs R xs (λ i j d l m. h (suc i) (suc j) d (omega arith) (omega arith)),
)

all_at : {X : Type 0} (P : X → Type 0) (xs : List X) (i : ℕ) (x : X) → AllByRecursion P xs → slice_get xs i ≡ Some x → P x
all_at P [] i x all e = cc
all_at P (y ∷ xs) zero x all e = let same : y ≡ x = cc in subst P same all.0
all_at P (y ∷ xs) (suc i) x all e = all_at P xs i x all.1 e

all_mapped : {X Y : Type 0} (P : X → Type 0) (Q : Y → Type 0) (f : X → Y) (xs : List X) → ((x : X) → P x → Q (f x)) → AllByRecursion P xs
    → AllByRecursion Q (map f xs)
all_mapped P Q f [] h all = tt
all_mapped P Q f (x ∷ xs) h all = (h x all.0, all_mapped P Q f xs h all.1)

all_appended : {X : Type 0} (P : X → Type 0) (xs ys : List X) → AllByRecursion P xs → AllByRecursion P ys → AllByRecursion P (xs ++ ys)
all_appended P [] ys h g = g
all_appended P (x ∷ xs) ys h g = (h.0, all_appended P xs ys h.1 g)

all_zipped : {X : Type 0} (P Q R : X → Type 0) (xs : List X) → ((x : X) → P x → Q x → R x) → AllByRecursion P xs → AllByRecursion Q xs → AllByRecursion R xs
all_zipped P Q R [] f h g = tt
all_zipped P Q R (x ∷ xs) f h g = (f x h.0 g.0, all_zipped P Q R xs f h.1 g.1)

-- a node's line
abbrev node_line_of : Node → NodeLine
node_line_of node = record { kind = node.kind; ports = Some node.ports; name = node.name; guid = node.guid; cap = Some node.cap }

abbrev made : List ℕ → NodeType → ℕ → ℕ → ℕ → Node
made name kind ports guid cap = record { name = name; kind = kind; ports = ports; guid = guid; cap = cap }

node_in : (name : List ℕ) (kind : NodeType) (ports guid cap : ℕ) → IsNode (made name kind ports guid cap)
    → line_in (node_words (made name kind ports guid cap)) ≡ Some (line.Node (node_line_of (made name kind ports guid cap)))
node_in name Switch ports guid cap is =
    rw (
      count_is_read 254 ports (omega arith) is.some_ports is.port_range,
      quoted_is_read name is.named,
      guid_is_read guid is.guid_range,
      count_is_read 0xC000 cap (omega arith) is.of_kind.0 is.of_kind.1,
    ) refl
node_in name ChannelAdapter ports guid cap is =
    rw (count_is_read 254 ports (omega arith) is.some_ports is.port_range, quoted_is_read name is.named, guid_is_read guid is.guid_range)
    (ap (λ n. Some (line.Node (record { kind = ChannelAdapter; ports = Some ports; name = name; guid = guid; cap = Some n }))) (sym is.of_kind.0))
node_in name Router ports guid cap is = absurd is.of_kind

-- a word of the grammar
switch_word : IsWord (codes "Switch")
switch_word = record { some = omega arith; on = refl; plain = refl }

hca_word : IsWord (codes "Hca")
hca_word = record { some = omega arith; on = refl; plain = refl }

guid_is_word : IsWord (codes "guid")
guid_is_word = record { some = omega arith; on = refl; plain = refl }

cap_word : IsWord (codes "cap")
cap_word = record { some = omega arith; on = refl; plain = refl }

node_are_words : (name : List ℕ) (kind : NodeType) (ports guid cap : ℕ) → IsNode (made name kind ports guid cap)
    → AllByRecursion IsWord (node_words (made name kind ports guid cap))
node_are_words name Switch ports guid cap is =
    let high = is.port_range in
    let room = is.of_kind.1 in
    let ports_word = decimal_word ports (omega arith) in
    (switch_word, (ports_word, (quoted_word name is.named, (guid_is_word, (guid_word guid, (cap_word, (decimal_word cap (omega arith), tt)))))))
node_are_words name ChannelAdapter ports guid cap is =
    let high = is.port_range in
    (hca_word, (decimal_word ports (omega arith), (quoted_word name is.named, (guid_is_word, (guid_word guid, tt)))))
node_are_words name Router ports guid cap is = absurd is.of_kind

words_of_node : (node : Node) → IsNode node → AllByRecursion IsWord (node_words node)
words_of_node node is = node_are_words node.name node.kind node.ports node.guid node.cap is

node_is_read : (node : Node) → IsNode node → line_of (line_text (node_words node)) ≡ Some (line.Node (node_line_of node))
unfolding line_of
node_is_read node is =
    ap line_in (words_are_read (node_words node) (words_of_node node is)) ∙ node_in node.name node.kind node.ports node.guid node.cap is

node_is_made : (number : ℕ) (name : List ℕ) (kind : NodeType) (ports guid cap : ℕ) → IsNode (made name kind ports guid cap)
    → node_of number (node_line_of (made name kind ports guid cap)) ≡ Ok (made name kind ports guid cap)
node_is_made number name Switch ports guid cap is = refl
node_is_made number name ChannelAdapter ports guid cap is =
    let fits : leb (2 ^ 64) (guid + ports) ≡ false = not_within (2 ^ 64) (guid + ports) is.of_kind.1 in
    rw fits refl
node_is_made number name Router ports guid cap is = absurd is.of_kind

-- a link's line
abbrev link_line_of : List Node → Cable → LinkLine
link_line_of nodes link = record { port = Some link.one.port; peer = name_at nodes link.other.node; peer_port = Some link.other.port }

record Fits (nodes : List Node) (link : Cable) : Type 0 where
  link_in : IsLinkIn nodes link
  one_high : link.one.port ≤ 254
  other_high : link.other.port ≤ 254
  named : IsTrue (is_name (name_at nodes link.other.node))
  found : id_of nodes (name_at nodes link.other.node) ≡ Some link.other.node

words_of_link : (nodes : List Node) (link : Cable) → Fits nodes link → AllByRecursion IsWord (link_words nodes link)
words_of_link nodes link fits =
    let one = fits.one_high in
    let other = fits.other_high in
    (bracketed_word link.one.port (omega arith), (named_word (name_at nodes link.other.node) link.other.port fits.named (omega arith), tt))

link_is_read : (nodes : List Node) (link : Cable) → Fits nodes link → line_of (line_text (link_words nodes link)) ≡ Some (line.Link (link_line_of nodes link))
unfolding line_of
link_is_read nodes link fits =
    ap line_in (words_are_read (link_words nodes link) (words_of_link nodes link fits))
    ∙ rw (
      bracketed_is_read link.one.port fits.link_in.one.some fits.one_high,
      named_is_read (name_at nodes link.other.node) link.other.port fits.named fits.link_in.other.some fits.other_high,
    ) refl

-- names lead to their nodes
names_apart : (xs ys : List ℕ) → xs ≢ ys → bytes_eq xs ys ≡ false
names_apart xs ys apart =
    elim (bytes_eq xs ys) as (λ t. bytes_eq xs ys ≡ t → bytes_eq xs ys ≡ false) [ true ↦ λ e. absurd (apart (same_bytes xs ys e)) | false ↦ λ e. e ] refl

id_is : (nodes : List Node) (id : ℕ) (node : Node) → Pairs (λ x y. x.name ≢ y.name) nodes → slice_get nodes id ≡ Some node
    → id_of nodes node.name ≡ Some id
id_is [] id node apart e = cc
id_is (m ∷ nodes) zero node apart e =
    let same : m ≡ node = cc in
    let here : bytes_eq m.name node.name ≡ true = (bytes_eq-Decides m.name node.name).1 (ap (λ n. n.name) same) in
    rw here refl
id_is (m ∷ nodes) (suc id) node apart e =
    let other : m.name ≢ node.name = all_at (λ y. m.name ≢ y.name) nodes id node apart.0 e in
    let later : id_of nodes node.name ≡ Some id = id_is nodes id node apart.1 e in
    rw (names_apart m.name node.name other, later) refl

named_here : (nodes : List Node) (id : ℕ) (node : Node) → slice_get nodes id ≡ Some node → name_at nodes id ≡ node.name
named_here nodes id node e = rw e refl

fits_in : (nodes : List Node) (link : Cable) → AllByRecursion IsNode nodes → Pairs (λ x y. x.name ≢ y.name) nodes → IsLinkIn nodes link → Fits nodes link
fits_in nodes link all apart is =
    let one = all_at IsNode nodes link.one.node is.one.node all is.one.there in
    let other = all_at IsNode nodes link.other.node is.other.node all is.other.there in
    let name : name_at nodes link.other.node ≡ is.other.node.name = named_here nodes link.other.node is.other.node is.other.there in
    let one_within = is.one.within in
    let other_within = is.other.within in
    let one_range = one.port_range in
    let other_range = other.port_range in
    record {
      link_in = is;
      one_high = omega arith;
      other_high = omega arith;
      named = subst (λ (n : List ℕ). IsTrue (is_name n)) (sym name) other.named;
      found = ap (id_of nodes) name ∙ id_is nodes link.other.node is.other.node apart is.other.there;
    }

-- what holds of links holds of those at a node
kept_if : (P : Cable → Type 0) (b : Bool) (link : Cable) (links : List Cable) → (b ≡ true → P link) → AllByRecursion P links
    → AllByRecursion P (cond b (link ∷ links) links)
kept_if P true link links h g = (h refl, g)
kept_if P false link links h g = g

record FitsAt (nodes : List Node) (id : ℕ) (link : Cable) : Type 0 where
  fits : Fits nodes link
  here : link.one.node ≡ id

fits_at : (nodes : List Node) (id : ℕ) (links : List Cable) → AllByRecursion (Fits nodes) links
    → AllByRecursion (FitsAt nodes id) (links_at links id)
fits_at nodes id [] all = tt
fits_at nodes id (link ∷ links) all =
    kept_if (FitsAt nodes id) (link.one.node == id) link (links_at links id) (λ e. record { fits = all.0; here = eqb-true _ _ e })
    (fits_at nodes id links all.1)

-- the lines of a topology have words
words_at : (t : Layout) (id : ℕ) (rest : List Node) → AllByRecursion (Fits t.nodes) t.links → AllByRecursion IsNode rest
    → AllByRecursion (AllByRecursion IsWord) (lines_from t id rest)
words_at t id [] fits all = tt
words_at t id (node ∷ rest) fits all = (
  words_of_node node all.0,
  all_appended (AllByRecursion IsWord) (map (link_words t.nodes) (links_at t.links id)) (lines_from t (suc id) rest)
      (all_mapped (FitsAt t.nodes id) (AllByRecursion IsWord) (link_words t.nodes) (links_at t.links id) (λ link h. words_of_link t.nodes link h.fits)
      (fits_at t.nodes id t.links fits))
      (words_at t (suc id) rest fits all.1),
)

-- the link lines that links have, each with the number of some line
abbrev at_of : List Node → ℕ → Cable → LinkAt
at_of nodes number link = record { line = number; node = link.one.node; link = link_line_of nodes link }

abbrev AreTold : List Node → List LinkAt → List Cable → Type 0
AreTold nodes [] [] = Unit {0}
AreTold nodes (at ∷ ats) (link ∷ links) = (at ≡ at_of nodes at.line link) × AreTold nodes ats links
AreTold nodes [] (link ∷ links) = ⊥
AreTold nodes (at ∷ ats) [] = ⊥

told_more : (nodes : List Node) (ats : List LinkAt) (links : List Cable) (at : LinkAt) (link : Cable) → AreTold nodes ats links → at ≡ at_of nodes at.line link
    → AreTold nodes (ats ++ at ∷ []) (links ++ link ∷ [])
told_more nodes [] [] at link told e = (e, tt)
told_more nodes (x ∷ ats) (y ∷ links) at link told e = (told.0, told_more nodes ats links at link told.1 e)
told_more nodes [] (y ∷ links) at link told e = absurd told
told_more nodes (x ∷ ats) [] at link told e = absurd told

-- the links that are told
link_is : (nodes : List Node) (number : ℕ) (link : Cable) → Fits nodes link → link_of nodes (at_of nodes number link) ≡ Ok link
link_is nodes number link fits =
    let one = fits.link_in.one in
    let other = fits.link_in.other in
    rw (fits.found, one.there, other.there, is_within link.one.port one.node.ports one.within, is_within link.other.port other.node.ports other.within) refl

link_added : (number : ℕ) (links : List Cable) (link : Cable) → other_end links link.one ≡ None → other_end links link.other ≡ None
    → with_link number links link ≡ Ok (links ++ link ∷ [])
link_added number links link one other = rw (one, other) refl

record IsFree (before : List Cable) (link : Cable) : Type 0 where
  one : other_end before link.one ≡ None
  other : other_end before link.other ≡ None

ports_apart : (p q : NodePort) → p ≢ q → is_same_port p q ≡ false
ports_apart p q apart =
    elim (is_same_port p q) as (λ t. is_same_port p q ≡ t → is_same_port p q ≡ false) [ true ↦ λ e. absurd (apart (same_port-is p q e)) | false ↦ λ e. e ] refl

free_more : (before : List Cable) (link x : Cable) → IsFree before x → AreApart link x → IsFree (before ++ link ∷ []) x
free_more before link x free apart = record {
  one = after_all before link x.one free.one ∙ rw (ports_apart link.one x.one apart.one_one, ports_apart link.other x.one apart.other_one) refl;
  other = after_all before link x.other free.other ∙ rw (ports_apart link.one x.other apart.one_other, ports_apart link.other x.other apart.other_other) refl;
}

links_are : (nodes : List Node) (before : List Cable) (ats : List LinkAt) (links : List Cable) → AreTold nodes ats links
    → AllByRecursion (Fits nodes) links → AllByRecursion (IsFree before) links → Pairs AreApart links → with_links nodes before ats ≡ Ok (before ++ links)
links_are nodes before [] [] told fits free apart = ap Ok (sym (append-nil before))
links_are nodes before (at ∷ ats) (link ∷ links) told fits free apart =
    let is : link_of nodes at ≡ Ok link = ap (link_of nodes) told.0 ∙ link_is nodes at.line link fits.0 in
    let more : AllByRecursion (IsFree (before ++ link ∷ [])) links =
    all_zipped (IsFree before) (AreApart link) (IsFree (before ++ link ∷ [])) links (free_more before link) free.1 apart.0 in
    let later : with_links nodes (before ++ link ∷ []) ats ≡ Ok ((before ++ link ∷ []) ++ links) =
    links_are nodes (before ++ link ∷ []) ats links told.1 fits.1 more apart.1 in
    rw (is, link_added at.line before link free.0.one free.0.other) (later ∙ ap Ok (append_assoc before (link ∷ []) links))
links_are nodes before [] (link ∷ links) told fits free apart = absurd told
links_are nodes before (at ∷ ats) [] told fits free apart = absurd told

-- the links in the order of their first ends' nodes
abbrev links_from : List Cable → ℕ → List Node → List Cable
links_from links id [] = []
links_from links id (node ∷ rest) = links_at links id ++ links_from links (suc id) rest

no_links : (id : ℕ) (rest : List Node) → links_from [] id rest ≡ []
no_links id [] = refl
no_links id (node ∷ rest) = no_links (suc id) rest

passed : (link : Cable) (links : List Cable) (id : ℕ) (rest : List Node) → link.one.node < id
    → links_from (link ∷ links) id rest ≡ links_from links id rest
passed link links id [] h = refl
passed link links id (node ∷ rest) h =
    let here : (link.one.node == id) ≡ false = differs link.one.node id (λ same. omega arith) in
    let later : links_from (link ∷ links) (suc id) rest ≡ links_from links (suc id) rest = passed link links (suc id) rest (omega arith) in
    rw (here, later) refl

none_at : (links : List Cable) (id : ℕ) → AllByRecursion (λ x. id < x.one.node) links → links_at links id ≡ []
none_at [] id all = refl
none_at (link ∷ links) id all =
    let past : id < link.one.node = all.0 in
    let here : (link.one.node == id) ≡ false = differs link.one.node id (λ same. omega arith) in
    rw here (none_at links id all.1)

pub all_weaker : {X : Type 0} (P Q : X → Type 0) (xs : List X) → ((x : X) → P x → Q x) → AllByRecursion P xs → AllByRecursion Q xs
all_weaker P Q [] f h = tt
all_weaker P Q (x ∷ xs) f h = (f x h.0, all_weaker P Q xs f h.1)

first : (link : Cable) (links : List Cable) (id : ℕ) (rest : List Node) → id ≤ link.one.node → link.one.node < id + length rest
    → AllByRecursion (λ x. link.one.node ≤ x.one.node) links → links_from (link ∷ links) id rest ≡ link ∷ links_from links id rest
first link links id [] low high all = absurd (omega arith)
first link links id (node ∷ rest) low high all =
    elim (cases_lt id link.one.node) [
      | inl p ↦ let here : (link.one.node == id) ≡ false = differs link.one.node id (λ same. omega arith) in
          let none : links_at links id ≡ [] =
          none_at links id (all_weaker (λ (x : Cable). link.one.node ≤ x.one.node) (λ (x : Cable). id < x.one.node) links (λ x h. omega arith) all) in
          let later : links_from (link ∷ links) (suc id) rest ≡ link ∷ links_from links (suc id) rest =
          first link links (suc id) rest (omega arith) (omega arith) all in
          rw (here, none, later) refl
      | inr p ↦ let here : (link.one.node == id) ≡ true = eq-eqb link.one.node id (omega arith) in
          let later : links_from (link ∷ links) (suc id) rest ≡ links_from links (suc id) rest = passed link links (suc id) rest (omega arith) in
          rw (here, later) refl
    ]

in_order : (links : List Cable) (nodes : List Node) → Pairs (λ x y. x.one.node ≤ y.one.node) links
    → AllByRecursion (λ x. x.one.node < length nodes) links → links_from links 0 nodes ≡ links
in_order [] nodes order within = no_links 0 nodes
in_order (link ∷ links) nodes order within =
    let inside : link.one.node < length nodes = within.0 in
    first link links 0 nodes (omega arith) (omega arith) order.0 ∙ ap (λ ls. link ∷ ls) (in_order links nodes order.1 within.1)

-- the lines that are still to be read tell the rest of the topology
abbrev ReadsOn : Layout → ℕ → List Node → List LinkAt → List (List (List ℕ)) → Type 0
ReadsOn t number nodes ats later = (with_lines number (record { nodes = nodes; links = ats }) (printed later) >>= topology_in) ≡ Ok t

links_read : (t : Layout) (id number : ℕ) (nodes : List Node) (ats : List LinkAt) (done links : List Cable) (later : List (List (List ℕ)))
    → length nodes ≡ suc id → AreTold t.nodes ats done → AllByRecursion (FitsAt t.nodes id) links
    → ((m : ℕ) (now : List LinkAt) → AreTold t.nodes now (done ++ links) → ReadsOn t m nodes now later)
    → ReadsOn t number nodes ats (map (link_words t.nodes) links ++ later)
links_read t id number nodes ats done [] later count told fits next =
    next number ats (subst (λ (ls : List Cable). AreTold t.nodes ats ls) (sym (append-nil done)) told)
links_read t id number nodes ats done (link ∷ links) later count told fits next =
    let at : LinkAt = record { line = number; node = id; link = link_line_of t.nodes link } in
    let Numbered : ℕ → LinkAt = λ n. record { line = number; node = n; link = link_line_of t.nodes link } in
    let is : at ≡ at_of t.nodes number link = ap Numbered (sym fits.0.here) in
    let more : AreTold t.nodes (ats ++ at ∷ []) (done ++ link ∷ []) = told_more t.nodes ats done at link told is in
    rw (link_is_read t.nodes link fits.0.fits, count)
    (links_read t id (number + 1) nodes (ats ++ at ∷ []) (done ++ link ∷ []) links later count more fits.1
    (λ m now h. next m now (subst (λ (ls : List Cable). AreTold t.nodes now ls) (append_assoc done (link ∷ []) links) h)))

-- so much was read
record HasRead (t : Layout) (id : ℕ) (front rest : List Node) (ats : List LinkAt) (done : List Cable) : Type 0 where
  all : front ++ rest ≡ t.nodes
  count : length front ≡ id
  few : length front + length rest ≤ 1024
  nodes : AllByRecursion IsNode rest
  new : AllByRecursion (λ n. id_of front n.name ≡ None) rest
  names : Pairs (λ x y. x.name ≢ y.name) rest
  told : AreTold t.nodes ats done
  left : done ++ links_from t.links id rest ≡ t.links

-- what is known of the links of a topology
record AreLinks (t : Layout) : Type 0 where
  fits : AllByRecursion (Fits t.nodes) t.links
  free : AllByRecursion (IsFree []) t.links
  apart : Pairs AreApart t.links

all_read : (t : Layout) (front : List Node) (ats : List LinkAt) → AreLinks t → front ≡ t.nodes → AreTold t.nodes ats t.links
    → topology_in (record { nodes = front; links = ats }) ≡ Ok t
all_read t front ats are e told =
    let links : with_links t.nodes [] ats ≡ Ok t.links = links_are t.nodes [] ats t.links told are.fits are.free are.apart in
    rw (e, links) refl

still_new : (front : List Node) (node : Node) (n : Node) → id_of front node.name ≡ None → id_of front n.name ≡ None → node.name ≢ n.name
    → id_of (front ++ node ∷ []) n.name ≡ None
still_new front node n here e apart = id_more front node n.name here ∙ rw (names_apart node.name n.name apart, e) refl

nodes_read : (t : Layout) (rest : List Node) (number id : ℕ) (front : List Node) (ats : List LinkAt) (done : List Cable) → AreLinks t
    → HasRead t id front rest ats done → ReadsOn t number front ats (lines_from t id rest)
nodes_read t [] number id front ats done are h =
    all_read t front ats are (sym (append-nil front) ∙ h.all)
    (subst (λ (ls : List Cable). AreTold t.nodes ats ls) (sym (append-nil done) ∙ h.left) h.told)
nodes_read t (node ∷ rest) number id front ats done are h =
    let few : length front + suc (length rest) ≤ 1024 = h.few in
    let room : ltb (length front) 1024 ≡ true = is_below (length front) 1024 (omega arith) in
    let count : length front ≡ id = h.count in
    let longer : length (front ++ node ∷ []) ≡ suc id = omega (arith, length-append front (node ∷ []), count) in
    let links = links_at t.links id in
    rw (node_is_read node h.nodes.0, node_is_made number node.name node.kind node.ports node.guid node.cap h.nodes.0, h.new.0, room)
    (links_read t id (number + 1) (front ++ node ∷ []) ats done links (lines_from t (suc id) rest) longer h.told
    (fits_at t.nodes id t.links are.fits)
    (λ m now told. nodes_read t rest m (suc id) (front ++ node ∷ []) now (done ++ links) are (record {
      all = append_assoc front (node ∷ []) rest ∙ h.all;
      count = longer;
      few = omega (arith, longer);
      nodes = h.nodes.1;
      new = all_zipped (λ (n : Node). id_of front n.name ≡ None) (λ (n : Node). node.name ≢ n.name)
          (λ (n : Node). id_of (front ++ node ∷ []) n.name ≡ None) rest
          (λ n e apart. still_new front node n h.new.0 e apart) h.new.1 h.names.0;
      names = h.names.1;
      told = told;
      left = append_assoc done links (links_from t.links (suc id) rest) ∙ h.left;
    })))

-- before anything is read
all_new : (nodes : List Node) → AllByRecursion (λ n. id_of [] n.name ≡ None) nodes
all_new [] = tt
all_new (node ∷ nodes) = (refl, all_new nodes)

all_free : (links : List Cable) → AllByRecursion (IsFree []) links
all_free [] = tt
all_free (link ∷ links) = (record { one = refl; other = refl }, all_free links)

pub printed_is_read : PrintedTopologiesAreRead
unfolding topology_of
printed_is_read t is order =
    let nodes : AllByRecursion IsNode t.nodes = recursion_from_All IsNode t.nodes is.nodes in
    let names : Pairs (λ x y. x.name ≢ y.name) t.nodes = pairs (λ x y. x.name ≢ y.name) t.nodes is.names in
    let links : AllByRecursion (IsLinkIn t.nodes) t.links = recursion_from_All (IsLinkIn t.nodes) t.links is.links in
    let fits : AllByRecursion (Fits t.nodes) t.links =
    all_weaker (IsLinkIn t.nodes) (Fits t.nodes) t.links (λ link h. fits_in t.nodes link nodes names h) links in
    let are : AreLinks t = record { fits = fits; free = all_free t.links; apart = pairs AreApart t.links is.apart } in
    let within : AllByRecursion (λ x. x.one.node < length t.nodes) t.links =
    all_weaker (IsLinkIn t.nodes) (λ (x : Cable). x.one.node < length t.nodes) t.links
    (λ link h. slice_get_within t.nodes link.one.node h.one.node h.one.there) links in
    let ordered : links_from t.links 0 t.nodes ≡ t.links = in_order t.links t.nodes (pairs (λ x y. x.one.node ≤ y.one.node) t.links order) within in
    let few : length t.nodes ≤ 1024 = is.few in
    ap (λ ls. nodes_of_lines ls >>= topology_in) (lines_are_read (lines_from t 0 t.nodes) (words_at t 0 t.nodes fits nodes))
    ∙ nodes_read t t.nodes 1 0 [] [] [] are (record {
      all = refl;
      count = refl;
      few = omega (arith, few);
      nodes = nodes;
      new = all_new t.nodes;
      names = names;
      told = tt;
      left = ordered;
    })
