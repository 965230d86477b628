-- A GUID more.
use Rattle.std.proofs.Common.{◌≡◌, List, sym, ◌∙◌, subst, add-one, arith, take, refl}
use Rattle.std.proofs.lemmas.List.{take_all}
use Rattle.topo_file.specs.declared.node.Node.{Node}
use Rattle.topo_file.specs.Topology.{GuidsDiffer}
use Rattle.topo_file.proofs.Guids.{seen_before, seen_more, denied, allowed}
use Rattle.topo_file.proofs.topology.guids_distinct.Goals as goal

pub returns-then-not-branch : goal.returns-then-not-branch
returns-then-not-branch c = (
  λ e. absurd (cc),
  λ differ. seen_before c.args.nodes.now c.loop-node.seen c.loop-node.node-index c.node-item.result c.loop-node-test.true c.node-item.is c.loop-node.invariant
      (denied _ (sym c.in_ok-insert.ensures.added ∙ c.if-not-branch.true)) differ,
)

pub loop-node-preserved : goal.loop-node-preserved
loop-node-preserved c =
    rw add-one (seen_more c.args.nodes.now c.loop-node.seen c.loop-node.node-index c.node-item.result c.loop-node-test.true
    c.node-item.is c.loop-node.invariant c.insert.new.self
    (allowed _ (sym c.in_ok-insert.ensures.added ∙ c.if-not-branch.false)) c.in_ok-insert.ensures.updates)

pub returns : goal.returns
returns c =
    let Differ : List Node → Type 0 = λ ns. GuidsDiffer ns in
    let whole : take c.loop-node.node-index c.args.nodes.now ≡ c.args.nodes.now = take_all c.loop-node.node-index c.args.nodes.now (omega arith) in
    (λ e. subst Differ whole c.loop-node.invariant.differ, λ differ. refl)
