-- The part below the room has no marks at first.
use Rattle.std.proofs.Common.{arith, ap, ◌∙◌, false, replicate}
use Rattle.std.proofs.lemmas.List.{take-replicate}
use Rattle.lid_assign.proofs.without_memory.runs_out_below.Goals as goal

pub whole_as_front-keep_in_turn : goal.whole_as_front-keep_in_turn
whole_as_front-keep_in_turn g c = (c.requires.within, omega (arith, c.requires.small))

pub whole_as_front-keep_in_turn-2 : goal.whole_as_front-keep_in_turn-2
whole_as_front-keep_in_turn-2 g c = (c.requires.within, omega (arith, c.requires.small))

pub whole_as_front-runs_out_after : goal.whole_as_front-runs_out_after
whole_as_front-runs_out_after g c = (c.requires.within, omega (arith, c.requires.small))

pub whole_as_front-runs_out_after-2 : goal.whole_as_front-runs_out_after-2
whole_as_front-runs_out_after-2 g c = (c.requires.within, omega (arith, c.requires.small))

pub keep_in_turn-requires-clause-claimed : goal.keep_in_turn-requires-clause-claimed
keep_in_turn-requires-clause-claimed g c = take-replicate c.args.most g.row.N false c.requires.within ∙ ap (λ n. replicate n false) c.requires.room

pub keep_in_turn-requires-clause-taken : goal.keep_in_turn-requires-clause-taken
keep_in_turn-requires-clause-taken g c = take-replicate c.args.most g.row.N false c.requires.within ∙ ap (λ n. replicate n false) c.requires.room

pub runs_out_after-requires-clause-claimed : goal.runs_out_after-requires-clause-claimed
runs_out_after-requires-clause-claimed g c = take-replicate c.args.most g.row.N false c.requires.within ∙ ap (λ n. replicate n false) c.requires.room
