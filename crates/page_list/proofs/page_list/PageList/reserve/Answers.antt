-- More room, and pages to spare.
use Rattle.std.proofs.Common.{arith}
use Rattle.page_list.proofs.Opened.{with_room}
use Rattle.page_list.proofs.page_list.PageList.reserve.Goals as goal

pub invariant_of-self-in_err-fill : goal.invariant_of-self-in_err-fill
invariant_of-self-in_err-fill g c =
    with_room c.self.inside.pages c.reserve.new.self c.self.inside.starts c.reserve-2.new.self c.self.inside.spare c.fill.new.spare c.self.inside.len
    c.self.inside.room c.self.inside.room c.self.invariant
    c.reserve.ensures.items c.reserve-2.ensures.items c.fill.ensures.all c.self.invariant.countable
    (omega (arith, c.fill.ensures.least, c.self.invariant.spared))
    (omega (
      arith,
      c.fill.ensures.most,
      c.len.ensures,
      c.max-wanted.ensures,
      c.self.inside.spare.ok.0,
      c.self.inside.pages.ok.0,
      c.reserve.ensures.len,
      c.in_ok-reserve.ensures.ok,
    ))
    (omega (arith, c.fill.ensures.most, c.len.ensures, c.max-wanted.ensures, c.self.inside.spare.ok.0, c.in_ok-reserve-2.ensures.ok))

pub invariant_of-self-2 : goal.invariant_of-self-2
invariant_of-self-2 g c =
    with_room c.self.inside.pages c.reserve.new.self c.self.inside.starts c.reserve-2.new.self c.self.inside.spare c.fill.new.spare c.self.inside.len
    c.self.inside.room c.args.n c.self.invariant
    c.reserve.ensures.items c.reserve-2.ensures.items c.fill.ensures.all (omega (arith, c.if-n-self-2.false)) c.in_ok-fill.ensures.ok
    (omega (
      arith,
      c.fill.ensures.most,
      c.len.ensures,
      c.max-wanted.ensures,
      c.self.inside.spare.ok.0,
      c.self.inside.pages.ok.0,
      c.reserve.ensures.len,
      c.in_ok-reserve.ensures.ok,
    ))
    (omega (arith, c.fill.ensures.most, c.len.ensures, c.max-wanted.ensures, c.self.inside.spare.ok.0, c.in_ok-reserve-2.ensures.ok))
