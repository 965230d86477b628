-- Each end port's range is below the bound.
use Rattle.std.proofs.Common.{refl, sym, ap, ◌∙◌, reverse}
use Rattle.subnet_view.proofs.Members.{contains_in}
use Rattle.lid_assign.specs.Lids.{top_among}
use Rattle.lid_assign.proofs.Tables.{stepped, seen, top_more, next_below, rest_below}
use Rattle.lid_assign.proofs.lid_map.top.Goals as goal

pub loop-port-init : goal.loop-port-init
loop-port-init c =
    let given = ap (λ it. it.iter.iter.rest.now) c.into_iter-port-iterator.ensures.into_iter_gives
    ∙ ap (λ it. it.iter.rest.now) c.copied-port-items.ensures.source
    ∙ ap (λ it. it.rest.now) c.rev.ensures.source ∙ c.iter.ensures.rest in
    (refl, λ e n h. c.requires e n (contains_in (e, n) given h))

pub last-requires : goal.last-requires
last-requires c =
    let x = c.in-Some.ensures.steps in
    let step = stepped c.loop-port.port-iterator.iter.iter.rest.now c.next.new.self.iter.iter.rest.now (c.in-Some.port, c.in-Some.lid) _ x.0 x.1 x.2 in
    next_below 0xC000 c.args.lmc _ _ c.in-Some.port c.in-Some.lid step c.loop-port.invariant.1

pub loop-port-preserved : goal.loop-port-preserved
loop-port-preserved c =
    let x = c.in-Some.ensures.steps in
    let step = stepped c.loop-port.port-iterator.iter.iter.rest.now c.next.new.self.iter.iter.rest.now (c.in-Some.port, c.in-Some.lid) _ x.0 x.1 x.2 in
    let top = top_more c.args.lmc (reverse c.loop-port.yielded) c.loop-port.top (c.in-Some.port, c.in-Some.lid) c.last.result c.greater.result
    c.loop-port.invariant.0 c.last.ensures c.greater.ensures in (
      top ∙ sym (ap (top_among c.args.lmc) (seen c.loop-port.yielded (c.in-Some.port, c.in-Some.lid))),
      rest_below 0xC000 c.args.lmc _ _ c.in-Some.port c.in-Some.lid step c.loop-port.invariant.1,
    )
