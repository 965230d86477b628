use Rattle.std.proofs.Common.{◌≡◌, drop}
use Rattle.std.specs.Prelude.{fold}
use Rattle.plan_steps.specs.MaskSteps.{mask_of, mask_with}
use Rattle.plan_steps.proofs.mask_steps.mask_of.Given as goal

-- the mask so far, and then the ports that are left, give the whole mask
abbrev pub invariant-loop-port : goal.invariant-loop-port
invariant-loop-port l = fold (mask_with l.position) l.mask (drop l.port-index l.ports) ≡ mask_of l.ports l.position
