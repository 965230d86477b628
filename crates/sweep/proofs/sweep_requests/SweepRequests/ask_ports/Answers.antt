use Rattle.std.proofs.Common.{ℕ, ◌∷◌, [], List, sym, subst, arith}
use Rattle.reply_facts.specs.declared.report.Context.TheVariants.{About}
use Rattle.reply_facts.specs.declared.report.Context.{Context}
use Rattle.sweep.specs.declared.question.Question.TheVariants as ask
use Rattle.sweep.specs.Questions.{port_questions}
use Rattle.sweep.specs.SweepRequests.{HasAsked}
use Rattle.sweep.specs.Sweep.{Asking}
use Rattle.sweep.proofs.Asked.{asked_both, length_ports, ports_more}
use Rattle.sweep.proofs.sweep_requests.SweepRequests.ask_ports.Goals as goal

pub ask-requires-clause-room : goal.ask-requires-clause-room
ask-requires-clause-room c =
    let long = length_ports 0 c.loop-port.port c.args.vertex.now.path (About c.args.vertex.now.guid) in
    omega (arith, long, c.loop-port.invariant.room, c.requires.room, c.loop-port-test.true)

pub ask-requires-clause-number : goal.ask-requires-clause-number
ask-requires-clause-number c =
    let long = length_ports 0 c.loop-port.port c.args.vertex.now.path (About c.args.vertex.now.guid) in
    omega (arith, long, c.loop-port.invariant.next, c.requires.number, c.loop-port-test.true)

pub loop-port-preserved : goal.loop-port-preserved
loop-port-preserved c =
    let path : List ℕ = c.args.vertex.now.path in
    let context : Context = About c.args.vertex.now.guid in
    let question : ℕ → List ℕ → Asking = λ port ports. record { question = ask.Port port; path = ports; context = context } in
    let one : HasAsked (question c.loop-port.port path ∷ []) c.loop-port.self c.ask.new.self =
    subst (λ (n : ℕ). HasAsked (question n path ∷ []) c.loop-port.self c.ask.new.self) c.new.ensures
    (subst (λ (ports : List ℕ). HasAsked (question c.new.result ports ∷ []) c.loop-port.self c.ask.new.self) c.copy.ensures c.ask.ensures) in
    subst (λ (asked : List Asking). HasAsked asked c.args.self.now c.ask.new.self) (sym (ports_more c.loop-port.port path context))
    (asked_both (port_questions 0 c.loop-port.port path context) (question c.loop-port.port path
    ∷ []) c.args.self.now c.loop-port.self c.ask.new.self c.loop-port.invariant one)
