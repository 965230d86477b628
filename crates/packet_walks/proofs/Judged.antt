-- When an end port is one of some, and when a packet ends at it.
use Rattle.std.proofs.Common.{◌≡◌, ℕ, zero, suc, true, List, [], ◌∷◌, Option, None, Some, refl, ap, subst}
use Rattle.std.specs.Prelude.{slice_get, Contains, IsTrue, ◌==◌, ◌↔◌}
use Rattle.std.proofs.lemmas.Bool.{and_parts, eqb-true, eq-eqb}
use Rattle.std.proofs.lemmas.Option.{same_Some}
use Rattle.subnet_view.specs.declared.end_port.EndPort.{EndPort}
use Rattle.fact_store.specs.View.{Facts, cells_of}
use Rattle.subnet_view.specs.EndPort.{end_ports, is_end_port}
use Rattle.subnet_view.proofs.EndPortList.{end_ports_law}
use Rattle.subnet_view.proofs.WireLaws.{end_port_law}
use Rattle.subnet_view.proofs.Members.{contains_here, contains_later, list_any_true, list_any_at}
use Rattle.packet_walks.specs.declared.packet_end.End.{End}
use Rattle.packet_walks.specs.declared.packet_end.End.TheVariants.{Taken, Lost}
use Rattle.subnet_view.proofs.Components.{same_tests}
use Rattle.packet_walks.specs.HopsByTables.{is_at}
use Rattle.held_tables.specs.Tables.{is_owner, is_same_end}

pub same_ends : (e x : EndPort) → is_same_end e x ≡ true → x ≡ e
same_ends e x h =
    let parts = and_parts (x.node == e.node) (x.port == e.port) h in
    let node : x.node ≡ e.node = eqb-true x.node e.node parts.0 in
    let port : x.port ≡ e.port = eqb-true x.port e.port parts.1 in
    λ i. record { node = node i; port = port i }

pub same_itself : (e : EndPort) → is_same_end e e ≡ true
same_itself e =
    let node : (e.node == e.node) ≡ true = eq-eqb e.node e.node refl in
    let port : (e.port == e.port) ≡ true = eq-eqb e.port e.port refl in
    rw (node, port) refl

-- one of some end ports
pub owned : (ports : List EndPort) (e : EndPort) → IsTrue (is_owner ports e) ↔ Contains ports e
owned ports e = (
  λ t. let found = list_any_at (is_same_end e) ports t in subst (λ (x : EndPort). Contains ports x) (same_ends e found.0 found.2) found.1,
  λ c. list_any_true (is_same_end e) ports e c (same_itself e),
)

-- an end port of the facts
pub listed : (facts : Facts) (e : EndPort) → is_end_port (cells_of facts) e.node e.port ≡ is_owner (end_ports (cells_of facts)) e
listed facts e =
    let ports : List EndPort = end_ports (cells_of facts) in
    let law = end_port_law (cells_of facts) e.node e.port in
    let has = (end_ports_law facts).0 e in
    same_tests (is_end_port (cells_of facts) e.node e.port) (is_owner ports e) (λ t. (owned ports e).1 (has.1 (law.0 t)))
    (λ t. law.1 (has.0 ((owned ports e).0 t)))

-- if packets end at a port
pub at_is : (e : EndPort) (end : Option End) → is_at e end ≡ true → end ≡ Some (Taken e)
at_is e None h = cc
at_is e (Some (Lost g cause)) h = cc
at_is e (Some (Taken x)) h = ap (λ y. Some (Taken y)) (same_ends e x h)

pub at_contains : (xs : List EndPort) (k : ℕ) (x : EndPort) → slice_get xs k ≡ Some x → Contains xs x
at_contains [] k x e = cc
at_contains (y ∷ xs) zero x e = subst (λ (z : EndPort). Contains (y ∷ xs) z) (same_Some y x e) (contains_here y xs)
at_contains (y ∷ xs) (suc k) x e = contains_later y x xs (at_contains xs k x e)
