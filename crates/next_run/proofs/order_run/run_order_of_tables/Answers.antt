-- The inputs were read, and the order that they tell was written.
use Rattle.std.proofs.Common.{inr}
use Rattle.std.proofs.lemmas.Result.{IfErr-weaker, IfOk-weaker}
use Rattle.next_run.proofs.order_run.run_order_of_tables.Goals as goal

pub returns-clause-done : goal.returns-clause-done
returns-clause-done g c =
    IfOk-weaker c.answer.result _ _ (λ has_order telling. record { read_are = c.in_ok-read.read; read = c.in_ok-read.ensures.read; telling = telling })
    c.answer.ensures.told

pub returns-clause-refused : goal.returns-clause-refused
returns-clause-refused g c =
    IfErr-weaker c.answer.result _ _ (λ fault why. inr (record { read_are = c.in_ok-read.read; read = c.in_ok-read.ensures.read; why = why }))
    c.answer.ensures.refused
