-- The cable by which a walk comes to its end.
use Rattle.std.proofs.Common.{◌≡◌, ℕ, Bool, true, false, cond, List, [], ◌∷◌, ◌++◌, sym, ap, ◌∙◌}
use Rattle.std.proofs.lemmas.Option.{same_Some}
use Rattle.std.specs.Prelude.{Option, Some, None, option_and_then}
use Rattle.fabric_model.specs.declared.cable.NodePort.{NodePort}
use Rattle.fabric_model.specs.Fabric.{Fabric, is_switch_at}
use Rattle.fabric_model.specs.DirectedWalk.{on_by, walk_on, directed_end}
use Rattle.fabric_model.proofs.DirectedWalks.{walks_go_on}

pub end_before : (f : Fabric) (origin : NodePort) (front : List ℕ) (port : ℕ) (before end : NodePort) → directed_end f origin front ≡ Some before
    → directed_end f origin (front ++ port ∷ []) ≡ Some end → f.across (record { node = before.node; port = port }) ≡ Some end
end_before f origin [] port before end there walk =
    ap (λ (p : NodePort). f.across (record { node = p.node; port = port })) (sym (same_Some origin before there))
    ∙ by_cable (f.across (record { node = origin.node; port = port })) walk
  where
    by_cable : (m : Option NodePort) → option_and_then (λ q. walk_on f q []) m ≡ Some end → m ≡ Some end
    by_cable None e = cc
    by_cable (Some q) e = e
end_before f origin (first ∷ front) port before end there walk =
    by_switch (is_switch_at f before.node) (sym (walks_go_on f origin first front port ∙ ap (option_and_then (on_by f port)) there) ∙ walk)
  where
    by_switch : (b : Bool) → cond b (f.across (record { node = before.node; port = port })) None ≡ Some end
        → f.across (record { node = before.node; port = port }) ≡ Some end
    by_switch true e = e
    by_switch false e = cc
