-- An attachment is a usable switch.
use Rattle.std.proofs.Common.{◌≡◌, ℕ, refl, subst, true, false, cond}
use Rattle.std.specs.Prelude.{Contains, Some}
use Rattle.fact_store.specs.View.{Facts, cells_of}
use Rattle.subnet_view.specs.declared.end_port.EndPort.{EndPort}
use Rattle.subnet_view.specs.Reading.{is_usable, switches, IsUsable}
use Rattle.subnet_view.specs.Wires.{attached}
use Rattle.subnet_view.proofs.UsableSwitches.{usable_law, switches_law}
use Rattle.subnet_view.proofs.Attachments.{attached_law}
use Rattle.subnet_view.specs.Wires.{attachment_of}

module _ (facts : Facts) (e : EndPort) (attachment : ℕ × ℕ) where
  attachment_usable : attachment_of (cells_of facts) e ≡ Some attachment → IsUsable (cells_of facts) attachment.0
  attachment_usable h =
      elim (is_usable (cells_of facts) e.node) as (λ t. is_usable (cells_of facts) e.node ≡ t
      → cond t (Some (e.node, 0)) (attached (cells_of facts) e.node e.port) ≡ Some attachment → IsUsable (cells_of facts) attachment.0) [
        | true ↦ λ u k. let same : (e.node, 0) ≡ attachment =
            cc in subst (λ (x : ℕ × ℕ). IsUsable (cells_of facts) x.0) same ((usable_law (cells_of facts) e.node).0 u)
        | false ↦ λ u k. ((attached_law (cells_of facts) e.node e.port attachment.0 attachment.1).0 k).to_switch
      ] refl h

  pub attachment_is_switch : attachment_of (cells_of facts) e ≡ Some attachment → Contains (switches (cells_of facts)) attachment.0
  attachment_is_switch h = ((switches_law facts).0 attachment.0).1 (attachment_usable h)
