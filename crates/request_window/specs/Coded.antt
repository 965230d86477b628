-- The coding of windows as numbers, so that a window can be the value of a struct.
use Rattle.std.specs.Prelude.{List, refl}
use Rattle.std.specs.Coded.{Coded, code_by, coded×, coded_list}
use Rattle.sm_manager.specs.declared.outgoing.Outgoing.{Outgoing}
use Rattle.sm_manager.specs.contracts.outgoing.Outgoing as outgoing
use Rattle.request_window.specs.declared.limits.Limits.{Limits}
use Rattle.request_window.specs.contracts.limits.Limits as limits
use Rattle.request_window.specs.declared.out.Out.{Out}
use Rattle.request_window.specs.contracts.out.Out as out
use Rattle.request_window.specs.Window.{Window}

-- a code of windows, made of the codes of their parts
abbrev pub window_code : Coded Window
window_code =
    code_by (Limits × (List Outgoing × List Out))
    (coded× (limits.the_row).coded (coded× (coded_list (outgoing.the_row).coded) (coded_list (out.the_row).coded)))
    (λ w. (w.limits, (w.queued, w.outs)))
    (λ p. record { limits = p.0; queued = p.1.0; outs = p.1.1 })
    (λ _. refl)
