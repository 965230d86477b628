use Rattle.cli_arguments.specs.CommandLine.{audit_shape, facts_shape, join_shape, next_shape, order_shape, plan_shape, program_app, run_shape}
use Rattle.cli_arguments.specs.CommandLine.{manage_shape, serve_shape}
use Rattle.cli_arguments.proofs.command_line.command_line.Goals as goal

pub returns : goal.returns
returns c =
    let words = c.args.routings in
    let one = c.with-command.ensures program_app facts_shape c.program.ensures c.facts.ensures in
    let two = c.with-command-2.ensures _ join_shape one c.join.ensures in
    let three = c.with-command-3.ensures _ (plan_shape words) two c.plan.ensures in
    let four = c.with-command-4.ensures _ (order_shape words) three c.order.ensures in
    let five = c.with-command-5.ensures _ audit_shape four c.audit.ensures in
    let six = c.with-command-6.ensures _ (next_shape words) five c.next.ensures in
    let seven = c.with-command-7.ensures _ (run_shape words) six c.run.ensures in
    let eight = c.with-command-8.ensures _ (serve_shape words) seven c.serve.ensures in
    c.with.ensures _ (manage_shape words) eight c.manage.ensures
