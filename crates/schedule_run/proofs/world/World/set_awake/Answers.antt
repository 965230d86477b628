use Rattle.std.proofs.Common.{arith, refl}
use Rattle.std.specs.Vec.{with_item}
use Rattle.schedule_run.proofs.Deciding.{nobody_paused, paused_is, with_awake}
use Rattle.schedule_run.proofs.world.World.set_awake.Goals as goal

pub returns-then-index-len-clause-leaves : goal.returns-then-index-len-clause-leaves
returns-then-index-len-clause-leaves c =
    paused_is c.args.self.now c.args.index c.index_mut.result.now (omega (arith, c.if-index-len.true, c.len.ensures)) c.index_mut.ensures.value
    (record c.args.self.now {
      deciders = with_item c.args.self.now.deciders c.args.index (with_awake c.index_mut.result.now c.args.is_awake);
    })
    c.args.is_awake refl refl refl refl

pub returns-else-index-len-clause-leaves : goal.returns-else-index-len-clause-leaves
returns-else-index-len-clause-leaves c =
    nobody_paused c.args.self.now c.args.index c.args.is_awake (omega (arith, c.if-index-len.false, c.len.ensures))
