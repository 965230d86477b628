-- No number is above the greatest.
use Rattle.std.proofs.Common.{ap, ◌∙◌}
use Rattle.subnet_view.proofs.Members.{contains_in}
use Rattle.lid_assign.specs.Lids.{top_among, end_of}
use Rattle.lid_assign.proofs.Tops.{below_end}
use Rattle.lid_assign.proofs.lid_map.LidMap.new.Goals as goal

pub top-top-requires : goal.top-top-requires
top-top-requires c = λ e n h. c.requires e n (contains_in (e, n) c.deref.ensures.value h)

pub owners-requires : goal.owners-requires
owners-requires c =
    let is = c.end.ensures ∙ ap end_of (c.top-top.ensures ∙ ap (top_among c.args.lmc) c.deref.ensures.value) in
    λ e n h. below_end c.args.lmc c.args.given.items c.end.result is e n (contains_in (e, n) c.deref-2.ensures.value h)

pub lid_marks-requires : goal.lid_marks-requires
lid_marks-requires c =
    let is = c.end-2.ensures ∙ ap end_of (c.top-top.ensures ∙ ap (top_among c.args.lmc) c.deref.ensures.value) in
    λ e n h. below_end c.args.lmc c.args.given.items c.end-2.result is e n (contains_in (e, n) c.deref-4.ensures.value h)
