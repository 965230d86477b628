-- Each turn sends the first that is left.
use Rattle.std.proofs.Common.{◌≡◌, List, [], ◌∷◌, ◌++◌, length, refl, sym, ap, ◌∙◌, subst, arith, rules}
use Rattle.std.proofs.lemmas.List.{append-nil, nil_from_length}
use Rattle.std.specs.Prelude.{None}
use Rattle.plan_steps.specs.declared.step.Step.{Step}
use Rattle.sm_manager.specs.declared.outgoing.Outgoing.{Outgoing}
use Rattle.sm_manager.specs.Writing.{numbered, steps_out}
use Rattle.sm_manager.proofs.StepsSent.{AreGoing, one_gone}
use Rattle.sm_manager.proofs.writing.send_steps.Goals as goal

pub loop-step-init : goal.loop-step-init
loop-step-init c =
    let all : c.into_iter-step-iterator.result.rest.items ≡ c.args.steps.items = search rules in (
      subst (λ (xs : List Step). AreGoing c.args.counts xs c.args.requests.now c.args.outgoing.now.items c.args.steps.items c.args.requests.now
          c.args.outgoing.now.items) (sym all)
          (record { pending = refl; outgoing = refl; counter = refl; bound = c.requires.numbers; room = c.requires.room }),
      let count = ap length all in omega (arith, count, c.requires.outgoing),
    )

going : (c : goal.After-send-arg-1)
    → AreGoing c.args.counts (c.in-Some.step
    ∷ c.next.new.self.rest.items) c.loop-step.requests c.loop-step.outgoing.items c.args.steps.items c.args.requests.now c.args.outgoing.now.items
going c =
    subst (λ (xs : List Step). AreGoing c.args.counts xs c.loop-step.requests c.loop-step.outgoing.items c.args.steps.items c.args.requests.now
    c.args.outgoing.now.items) (c.in-Some.ensures.steps.0)
    c.loop-step.invariant.0

pub send-packet-requires-clause-room : goal.send-packet-requires-clause-room
send-packet-requires-clause-room c = let room = (going c).room in omega (arith, room)

pub send-packet-requires-clause-number : goal.send-packet-requires-clause-number
send-packet-requires-clause-number c = let bound = (going c).bound in omega (arith, bound)

pub push_back_reserved-requires : goal.push_back_reserved-requires
push_back_reserved-requires c =
    let count = ap length (c.in-Some.ensures.steps.0) in
    let room = c.loop-step.invariant.1 in
    omega (arith, count, room)

pub loop-step-preserved : goal.loop-step-preserved
loop-step-preserved c =
    let h = subst (λ (xs : List Step). AreGoing c.args.counts xs c.loop-step.requests c.loop-step.outgoing.items c.args.steps.items c.args.requests.now
    c.args.outgoing.now.items) (c.in-Some.ensures.steps.0) c.loop-step.invariant.0 in
    let out : Outgoing = record { packet = c.send-packet.result; to = None } in (
      subst (λ (xs : List Outgoing). AreGoing c.args.counts c.next.new.self.rest.items c.send-packet.new.self xs c.args.steps.items c.args.requests.now
          c.args.outgoing.now.items)
          (sym (c.push_back_reserved.ensures.items
          ∙ ap (λ p. c.loop-step.outgoing.items ++ record { packet = p; to = None } ∷ []) c.send-packet.ensures.packet))
          (one_gone c.args.counts c.in-Some.step c.next.new.self.rest.items c.loop-step.requests c.send-packet.new.self c.loop-step.outgoing.items
          c.args.steps.items c.args.requests.now c.args.outgoing.now.items h
          c.send-packet.ensures.pending c.send-packet.ensures.counter c.send-packet.ensures.room),
      let count = ap length (c.in-Some.ensures.steps.0) in
          let room = c.loop-step.invariant.1 in
          let len = c.push_back_reserved.ensures.len in
          let capacity = c.push_back_reserved.ensures.capacity in
          omega (arith, count, room, len, capacity),
    )

none_left : (c : goal.After-drop-step-iterator) → c.loop-step.step-iterator.rest.items ≡ []
none_left c = nil_from_length _ (sym (c.loop-step.step-iterator.rest.ok.0) ∙ c.in-None.ensures.steps.0)

pub returns-clause-counter : goal.returns-clause-counter
returns-clause-counter c =
    let count = ap length (none_left c) in
    let all = c.loop-step.invariant.0.counter in
    omega (arith, count, all)

pub returns-clause-pending : goal.returns-clause-pending
returns-clause-pending c =
    sym (append-nil c.loop-step.requests.pending)
    ∙ ap (λ xs. c.loop-step.requests.pending ++ numbered c.args.counts c.loop-step.requests.counter xs) (sym (none_left c))
    ∙ c.loop-step.invariant.0.pending

pub returns-clause-outgoing : goal.returns-clause-outgoing
returns-clause-outgoing c =
    sym (append-nil c.loop-step.outgoing.items)
    ∙ ap (λ xs. c.loop-step.outgoing.items ++ steps_out c.loop-step.requests.counter xs) (sym (none_left c))
    ∙ c.loop-step.invariant.0.outgoing
