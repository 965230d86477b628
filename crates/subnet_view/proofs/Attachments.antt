-- An adapter port is attached to the switch port that its wire leads to.
use Rattle.std.proofs.Common.{◌≡◌, ℕ, refl, sym, ap, ◌∙◌, Bool, true, false, cond, ◌&&◌}
use Rattle.std.proofs.lemmas.Bool.{and_parts}
use Rattle.std.specs.Prelude.{Option, None, Some, is_some, option_and_then}
use Rattle.reply_facts.specs.Known.{cap_of}
use Rattle.subnet_view.specs.Reading.{Cells, is_switch_node, is_usable, is_port_of, is_up}
use Rattle.subnet_view.specs.EndPort.{is_end_port}
use Rattle.subnet_view.specs.Wires.{across, is_wire_end, IsAttached, AttachedLaw}
use Rattle.subnet_view.proofs.UsableSwitches.{usable_law}
use Rattle.subnet_view.proofs.WireEnds.{linked}
use Rattle.subnet_view.proofs.WireLaws.{wire_law}

-- what is kept of an option, where something is
kept : {X : Type 0} (test : X → Bool) (o : Option X) (x : X) → option_and_then (λ y. cond (test y) (Some y) None) o ≡ Some x → (o ≡ Some x) × (test x ≡ true)
kept test None x e = absurd (cc)
kept test (Some y) x e =
    elim (test y) as (λ t. test y ≡ t → cond t (Some y) None ≡ Some x → (Some y ≡ Some x) × (test x ≡ true)) [
      | true ↦ λ q k. let i : y ≡ x = cc in (k, ap test (sym i) ∙ q)
      | false ↦ λ q k. absurd (cc)
    ] refl e

-- a switch that can have a wire is a usable one
usable_end : (cells : Cells) (g p : ℕ) → is_wire_end cells g p ≡ true → is_switch_node cells g ≡ true → is_usable cells g ≡ true
usable_end cells g p e s =
    sym (ap (λ t. cond t (is_usable cells g) (is_end_port cells g p)) s)
    ∙ (and_parts (is_up cells g p && is_port_of cells g p) (cond (is_switch_node cells g) (is_usable cells g) (is_end_port cells g p)) e).1

pub attached_law : AttachedLaw
attached_law cells g p h q = (
  λ e.
      elim (is_switch_node cells g) as (λ t. is_switch_node cells g ≡ t
      → cond t None (option_and_then (λ r. cond (is_switch_node cells r.0) (Some r) None) (across cells g p)) ≡ Some (h, q) → IsAttached cells g p h q) [
        | true ↦ λ s k. absurd (cc)
        | false ↦ λ s k.
            let i = kept (λ (r : ℕ × ℕ). is_switch_node cells r.0) (across cells g p) (h, q) k in
            let l = linked cells g p (h, q) i.0 in
            record {
              not_a_switch = s;
              wire = (wire_law cells g p h q).0 i.0;
              to_switch = (usable_law cells h).0 (usable_end cells h q l.there i.1);
            }
      ] refl e,
  λ a.
      let w = (wire_law cells g p h q).1 a.wire in
      let s = (and_parts (is_switch_node cells h) (is_some (cap_of cells h)) ((usable_law cells h).1 a.to_switch)).0 in
      ap (λ t. cond t None (option_and_then (λ r. cond (is_switch_node cells r.0) (Some r) None) (across cells g p))) a.not_a_switch
      ∙ ap (option_and_then (λ (r : ℕ × ℕ). cond (is_switch_node cells r.0) (Some r) None)) w
      ∙ ap (λ t. cond t (Some (h, q)) None) s,
)
