-- Each level that is given has a lane.
use Rattle.std.proofs.Common.{◌∙◌, rules, sym, subst}
use Rattle.lanes_file.specs.WellFormed.{IsWellFormed}
use Rattle.lanes_file.proofs.Carried.{all_carried}
use Rattle.lanes_file.proofs.lanes.Lanes.carries_all.Goals as goal

pub returns-clause-is : goal.returns-clause-is
returns-clause-is c = search rules

pub returns-clause-carried : goal.returns-clause-carried
returns-clause-carried c =
    λ t. all_carried c.args.self.now (subst IsWellFormed c.self.view_is c.self.invariant) (sym (returns-clause-is c) ∙ t)
