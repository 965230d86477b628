-- End port by end port.
use Rattle.std.proofs.Common.{◌≡◌, ◌+◌, ◌∷◌, ◌++◌, [], ℕ, Bool, List, drop, length, sym, ap, ◌∙◌, subst}
use Rattle.std.proofs.Math.ListN.{drop_of_length-le}
use Rattle.std.specs.Prelude.{Option, None, Some}
use Rattle.subnet_view.specs.declared.end_port.EndPort.{EndPort}
use Rattle.lid_assign.specs.declared.hand_out.Next.{Next}
use Rattle.lid_assign.specs.Lids.{hand_out}
use Rattle.lid_assign.proofs.Giving.{IsGiving, giving_start, given_kept, given_open, given_none, given_all}
use Rattle.lid_assign.proofs.HandOut.{GivenLids}
use Rattle.lid_assign.proofs.KeptClaims.{Ports}
use Rattle.lid_assign.proofs.LidLaws.{ranges_of}
use Rattle.lid_assign.proofs.Passing.{all_passed_start}
use Rattle.lid_assign.proofs.Walked.{next_item}
use Rattle.lid_assign.proofs.hand_out.hand_out.Goals as goal
use Rattle.lid_assign.proofs.hand_out.hand_out.Goals.{in-Some, in-None+in-Some-take}

pub loop-port-init : goal.loop-port-init
loop-port-init c =
    giving_start (length c.args.taken.now) c.args.lmc c.args.keepers.now c.in_ok-given.given.items c.args.taken.now c.first-next.result
    c.in_ok-given.ensures.items c.requires.taken
    (all_passed_start c.args.lmc c.args.taken.now c.first-next.result c.first-next.ensures)

-- the next end port, with what it keeps
at_item : (room lmc : ℕ) (handed : Option GivenLids) (given : GivenLids) (rest after : Ports) (marks : List Bool) (next : Next) (item : EndPort
    × Option ℕ) (o : Option ℕ)
    → rest ≡ item ∷ after → item.1 ≡ o → IsGiving room lmc handed given rest marks next → IsGiving room lmc handed given ((item.0, o) ∷ after) marks next
at_item room lmc handed given rest after marks next item o step is g =
    subst (λ (ports : Ports). IsGiving room lmc handed given ports marks next) (step ∙ (λ i. (item.0, is i) ∷ after)) g

pub returns-in-None-take : goal.returns-in-None-take
returns-in-None-take c =
    let room = length c.args.taken.now in
    let keepers = c.args.keepers.now in
    let item = c.loop-port-item.result in
    let rest = drop (c.loop-port.port-index + 1) keepers in
    let handed = hand_out room c.args.lmc (ranges_of c.args.lmc keepers) keepers in
    let step = next_item keepers c.loop-port.port-index item c.loop-port-test.true c.loop-port-item.is in
    given_none room c.args.lmc handed c.loop-port.given.items item.0 rest c.loop-port.taken c.loop-port.next c.in-None-take.ensures.found
    (at_item room c.args.lmc handed c.loop-port.given.items (drop c.loop-port.port-index keepers) rest c.loop-port.taken c.loop-port.next item None step
    c.in-None.is c.loop-port.invariant)

pub loop-port-preserved : goal.loop-port-preserved
loop-port-preserved c =
    let room = length c.args.taken.now in
    let keepers = c.args.keepers.now in
    let item = c.loop-port-item.result in
    let rest = drop (c.loop-port.port-index + 1) keepers in
    let handed = hand_out room c.args.lmc (ranges_of c.args.lmc keepers) keepers in
    let step = next_item keepers c.loop-port.port-index item c.loop-port-test.true c.loop-port-item.is in
    let pushed = c.in_ok-push.ensures.items in
    let Is : GivenLids × List Bool × Next → Type 0 = λ x. IsGiving room c.args.lmc handed x.0 rest x.1 x.2 in
    elim c.match-lid.branch [
      | in-Some w ↦
          let g = at_item room c.args.lmc handed c.loop-port.given.items (drop c.loop-port.port-index keepers) rest c.loop-port.taken c.loop-port.next item
          (Some w.in-Some.lid) step w.in-Some.is c.loop-port.invariant in
          let items : c.push.new.self.items ≡ c.loop-port.given.items ++ (item.0, w.in-Some.lid) ∷ [] =
          pushed ∙ ap (λ (n : ℕ). c.loop-port.given.items ++ (item.0, n) ∷ []) w.lid-is in
          subst Is (λ i. (sym items i, sym w.taken-is i, sym w.next-is i))
          (given_kept room c.args.lmc handed c.loop-port.given.items item.0 rest c.loop-port.taken c.loop-port.next w.in-Some.lid g)
      | in-None+in-Some-take w ↦
          let g = at_item room c.args.lmc handed c.loop-port.given.items (drop c.loop-port.port-index keepers) rest c.loop-port.taken c.loop-port.next item None
          step w.in-None.is c.loop-port.invariant in
          let items : c.push.new.self.items ≡ c.loop-port.given.items ++ (item.0, w.in-Some-take.lid) ∷ [] =
          pushed ∙ ap (λ (n : ℕ). c.loop-port.given.items ++ (item.0, n) ∷ []) w.lid-is in
          subst Is (λ i. (sym items i, sym w.taken-is i, sym w.next-is i))
          (given_open room c.args.lmc handed c.loop-port.given.items item.0 rest c.loop-port.taken c.loop-port.next w.in-Some-take.lid w.take.new.taken
          w.take.new.next
          w.in-Some-take.ensures.found w.in-Some-take.ensures.marked w.in-Some-take.ensures.passed g)
    ]

pub returns : goal.returns
returns c =
    let room = length c.args.taken.now in
    let keepers = c.args.keepers.now in
    given_all room c.args.lmc (hand_out room c.args.lmc (ranges_of c.args.lmc keepers) keepers) c.loop-port.given.items (drop c.loop-port.port-index keepers)
    c.loop-port.taken c.loop-port.next
    (drop_of_length-le keepers c.loop-port-test.false) c.loop-port.invariant
