use Rattle.std.proofs.Common.{◌≡◌, map, take}
use Rattle.std.specs.Prelude.{not}
use Rattle.fact_store.specs.View.{cells_of}
use Rattle.subnet_view.specs.Reading.{is_usable}
use Rattle.audit_counts.specs.FirstFew.{listed_of}
use Rattle.audit_counts.proofs.unmatched.unknown.Given as goal

-- the switches so far
abbrev pub invariant-loop-switch : goal.invariant-loop-switch
invariant-loop-switch l = l.few ≡ listed_of l.most (λ g. not (is_usable (cells_of l.store) g)) (take l.switch-index (map (λ s. s.guid) l.switch-items))
