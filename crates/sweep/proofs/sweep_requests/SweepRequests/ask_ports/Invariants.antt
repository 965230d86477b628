-- The ports so far are asked.
use Rattle.reply_facts.specs.declared.report.Context.TheVariants.{About}
use Rattle.sweep.specs.Questions.{port_questions}
use Rattle.sweep.specs.SweepRequests.{HasAsked}
use Rattle.sweep.proofs.sweep_requests.SweepRequests.ask_ports.Given as goal

abbrev pub invariant-loop-port : goal.invariant-loop-port
invariant-loop-port l = HasAsked (port_questions 0 l.port l.vertex.path (About l.vertex.guid)) l.fn.self l.self
