-- All files were opened, and the task was done with them.
use Rattle.std.proofs.Common.{List, inr, subst, sym}
use Rattle.std.proofs.lemmas.Result.{IfErr-weaker, IfOk-weaker}
use Rattle.ibsm.specs.Opening.{AreOpened}
use Rattle.ibsm.proofs.perform.perform.Goals as goal

pub returns-clause-done : goal.returns-clause-done
returns-clause-done g c =
    let Opened : List _ → Type 0 = λ files. AreOpened (g.R.Opener.answers c.args.rt.now) c.args.names.now files in
    IfOk-weaker c.do_task.result _ _ (λ passed does. record {
      olds = c.deref_mut.result.now;
      news = c.do_task.new.inputs;
      opened = subst Opened (sym c.deref_mut.ensures.value) c.in_ok-inputs.ensures.opened;
      does = does;
    }) c.do_task.ensures.done

pub returns-clause-refused : goal.returns-clause-refused
returns-clause-refused g c =
    let Opened : List _ → Type 0 = λ files. AreOpened (g.R.Opener.answers c.args.rt.now) c.args.names.now files in
    IfErr-weaker c.do_task.result _ _ (λ fault fails. inr (record {
      olds = c.deref_mut.result.now;
      news = c.do_task.new.inputs;
      opened = subst Opened (sym c.deref_mut.ensures.value) c.in_ok-inputs.ensures.opened;
      fails = fails;
    })) c.do_task.ensures.refused
