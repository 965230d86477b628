-- A packet that ends elsewhere is not delivered at a port.
use Rattle.std.proofs.Common.{◌≡◌, ◌≢◌, ℕ, List, [], ◌∷◌, Option, None, Some, sym, ap, ◌∙◌, subst}
use Rattle.std.specs.Prelude.{slice_get}
use Rattle.std.proofs.lemmas.Option.{same_Some}
use Rattle.fabric_model.specs.declared.cable.NodePort.{NodePort}
use Rattle.fabric_model.specs.declared.course.Course.TheVariants.{Delivers}
use Rattle.fabric_model.specs.Fabric.{Node, Fabric, IsPortNamed}
use Rattle.fabric_model.specs.Forwarding.{Standing, sent_from, arrived_at, course, Hop, Goes, IsDelivered}
use Rattle.fabric_model.proofs.Forwarded.{packets_end_once}
use Rattle.subnet_view.specs.declared.end_port.EndPort.{EndPort}
use Rattle.packet_walks.specs.declared.packet_end.End.{End}
use Rattle.packet_walks.specs.declared.packet_end.End.TheVariants.{Taken, Lost}
use Rattle.packet_walks.specs.Fabrics.{EndsAs}
use Rattle.packet_walks.proofs.Told.{into_is}

-- a packet is delivered at one port
same_target : (f : Fabric) (lid : ℕ) (hops others : List Hop) (st end last : Standing) (p q : NodePort) → Goes f lid st hops end → course f lid end ≡ Delivers p
    → Goes f lid st others last → course f lid last ≡ Delivers q → p ≡ q
same_target f lid [] [] st end last p q g d h c =
    let one : course f lid st ≡ Delivers p = ap (course f lid) g ∙ d in let two : course f lid st ≡ Delivers q = ap (course f lid) h ∙ c in cc
same_target f lid [] (k ∷ others) st end last p q g d h c =
    let one : course f lid st ≡ Delivers p = ap (course f lid) g ∙ d in let two = h.0 in absurd (cc)
same_target f lid (k ∷ hops) [] st end last p q g d h c =
    let one : course f lid st ≡ Delivers q = ap (course f lid) h ∙ c in let two = g.0 in absurd (cc)
same_target f lid (k ∷ hops) (m ∷ others) st end last p q g d h c =
    let into = into_is f lid st m.out m.into k h.0 h.1 g.0 g.1 in
    same_target f lid hops others (arrived_at m.into) end last p q (subst (λ (x : NodePort). Goes f lid (arrived_at x) hops end) into g.2) d h.2 c

-- a packet that ends elsewhere is not delivered
pub not_there : (f : Fabric) (source target : NodePort) (lid : ℕ) (e : EndPort) (end : Option End) → IsPortNamed f e.node e.port target
    → EndsAs f lid source end → end ≢ Some (Taken e) → (hops : List Hop) → IsDelivered f lid source hops target → ⊥
not_there f source target lid e (Some (Taken x)) named (others, found, its, there) apart hops d =
    let same : found ≡ target =
    same_target f lid others hops (sent_from source) there.0 d.0 found target there.1 there.2 d.1 d.2 in
    let node : its.node ≡ named.node =
    same_Some its.node named.node (sym its.node_there ∙ ap (λ (p : NodePort). slice_get f.nodes p.node) same ∙ named.node_there) in
    let guid : x.node ≡ e.node = sym its.guid_is ∙ ap (λ (n : Node). n.guid) node ∙ named.guid_is in
    let port : x.port ≡ e.port = sym its.port_is ∙ ap (λ (p : NodePort). p.port) same ∙ named.port_is in
    apart (λ i. Some (Taken (record { node = guid i; port = port i })))
not_there f source target lid e (Some (Lost g cause)) named (others, id, lost) apart hops d = (packets_end_once f lid source).1 hops others target id d lost
not_there f source target lid e None named (others, id, lost) apart hops d = (packets_end_once f lid source).1 hops others target id d lost
