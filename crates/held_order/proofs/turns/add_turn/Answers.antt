-- The turn is put behind those of its switch.
use Rattle.std.proofs.Common.{◌≡◌, ◌∙◌, ◌<◌, ◌/◌, ◌++◌, ◌∷◌, [], ℕ, List, Vec, Global, ap, arith, length, sym}
use Rattle.std.specs.Prelude.{slice_set}
use Rattle.std.proofs.lemmas.List.{length-map, map-set}
use Rattle.fact_store.specs.View.{cells_of}
use Rattle.held_tables.specs.declared.far_end.Far.TheVariants.{Switch}
use Rattle.held_tables.specs.Switches.{far_by}
use Rattle.held_order.specs.declared.turns.SwitchTurn.{SwitchTurn}
use Rattle.held_order.specs.Turns.{lists_of}
use Rattle.held_order.proofs.Noted.{channel_within, list_at, with_turn}
use Rattle.held_order.proofs.turns.add_turn.Goals as goal

pub returns-in_ok-push : goal.returns-in_ok-push
returns-in_ok-push c =
    let cells = cells_of c.args.network.now.facts in
    let next = c.args.next in
    let at : ℕ = next / 256 in
    let ts = c.args.turns.now in
    let row = c.index-turns-next.result in
    let pushed = c.push.new.self in
    let turn : SwitchTurn = record { from = c.args.channel / 256; to = c.in-Switch.to } in
    let items : Vec SwitchTurn Global → List SwitchTurn = λ (x : Vec SwitchTurn Global). x.items in
    let far : far_by cells next ≡ Switch c.in-Switch.to = sym c.far.ensures ∙ c.in-Switch.is in
    let within = channel_within cells next c.in-Switch.to far in
    let less : at < length ts = omega (arith, within, c.requires) in
    let listed : at < length (lists_of ts) = omega (arith, less, length-map ts items) in
    with_turn cells c.args.channel next (lists_of ts) (lists_of (slice_set ts at pushed)) c.in-Switch.to row.items far listed
    (list_at ts at row _ c.index-turns-next.is less)
    (map-set items ts at pushed ∙ ap (λ (xs : List SwitchTurn). slice_set (lists_of ts) at xs)
    (c.in_ok-push.ensures.items ∙ ap (λ (x : Vec SwitchTurn Global). x.items ++ turn ∷ []) (sym c.index-turns-next.is)))
