-- Several turns: the first, and those that are left.
use Rattle.std.proofs.Common.{◌≡◌, ◌∙◌, ◌∷◌, ℕ, zero, suc, ◌+◌, ◌-◌, ◌<◌, ◌≤◌, List, None, Some, length, get_or, drop, add-one, refl, sym, ap, arith}
use Rattle.std.specs.Prelude.{slice_get}
use Rattle.std.specs.Option.{option_map_or}
use Rattle.std.proofs.lemmas.Option.{get_or_from_slice_get, slice_get_within}
use Rattle.topo_file.specs.declared.node.Node.{Node}
use Rattle.schedule_file.specs.Resolve.{SeatCommand}
use Rattle.std.proofs.Math.Seq.{drop-cons}
use Rattle.std.proofs.Math.ListN.{drop_of_length-le}
use Rattle.fabric_sim.specs.declared.flight.Flight.{Flight}
use Rattle.schedule_run.specs.Commands.{after_command, after_commands, after_drain_line, after_give_up, after_giving_up, after_resend, after_resends}
use Rattle.schedule_run.specs.Delivery.{after_step}
use Rattle.schedule_lines.specs.Outcome.{and_then, quiet}
use Rattle.schedule_run.specs.World.{WorldValue}

-- requests that are given up ------------------------------------------------------------------------------

pub given_next : (w : WorldValue) (seat : ℕ) (items : List ℕ) (i : ℕ) → i < length items
    → after_giving_up w seat (drop i items) ≡ and_then (after_give_up w seat (get_or items i 0)) (λ now. after_giving_up now seat (drop (i + 1) items))
given_next w seat items i h =
    ap (after_giving_up w seat) (drop-cons items i 0 h)
    ∙ ap (λ n. and_then (after_give_up w seat (get_or items i 0)) (λ now. after_giving_up now seat (drop n items))) (sym (add-one i))

pub given_none : (w : WorldValue) (seat : ℕ) (items : List ℕ) (i : ℕ) → length items ≤ i → after_giving_up w seat (drop i items) ≡ quiet w
given_none w seat items i h = ap (after_giving_up w seat) (drop_of_length-le items h)

-- packets that take steps -------------------------------------------------------------------------------------

pub drain_next : (w : WorldValue) (most i : ℕ) (flight : Flight) → i < most → slice_get w.fabric.flights 0 ≡ Some flight
    → after_drain_line w (most - i) ≡ and_then (after_step w flight.serial) (λ now. after_drain_line now (most - (i + 1)))
drain_next w most i flight h there =
    let left : most - i ≡ suc (most - (i + 1)) = omega arith in
    ap (after_drain_line w) left
    ∙ ap (λ o. option_map_or (λ (f : Flight). and_then (after_step w f.serial) (λ now. after_drain_line now (most - (i + 1)))) o (quiet w)) there

pub drain_none : (w : WorldValue) (most : ℕ) → slice_get w.fabric.flights 0 ≡ None → after_drain_line w most ≡ quiet w
drain_none w zero there = refl
drain_none w (suc most) there = ap (λ o. option_map_or (λ (f : Flight). and_then (after_step w f.serial) (λ now. after_drain_line now most)) o (quiet w)) there

pub drain_end : (w : WorldValue) (most i : ℕ) → most ≤ i → after_drain_line w (most - i) ≡ quiet w
drain_end w most i h = let none : most - i ≡ 0 = omega arith in ap (after_drain_line w) none

-- traps that are sent again ------------------------------------------------------------------------------------

pub resend_next : (w : WorldValue) (count i : ℕ) → i < count
    → after_resends w i (count - i) ≡ and_then (after_resend w i) (λ now. after_resends now (i + 1) (count - (i + 1)))
resend_next w count i h = let left : count - i ≡ suc (count - (i + 1)) = omega arith in ap (after_resends w i) left

pub resend_end : (w : WorldValue) (count i : ℕ) → count ≤ i → after_resends w i (count - i) ≡ quiet w
resend_end w count i h = let none : count - i ≡ 0 = omega arith in ap (after_resends w i) none

-- commands that are run ------------------------------------------------------------------------------------------

pub commands_next : (nodes : List Node) (w : WorldValue) (commands : List SeatCommand) (i : ℕ) (command : SeatCommand) → slice_get commands i ≡ Some command
    → after_commands nodes w (drop i commands) ≡ and_then (after_command nodes w command) (λ now. after_commands nodes now (drop (i + 1) commands))
commands_next nodes w commands i command there =
    let at : drop i commands ≡ command ∷ drop (i + 1) commands = drop-cons commands i command (slice_get_within commands i command there)
    ∙ ap (λ y. y ∷ drop (suc i) commands) (get_or_from_slice_get commands i command command there) ∙ ap (λ n. command ∷ drop n commands) (sym (add-one i)) in
    ap (after_commands nodes w) at

pub commands_none : (nodes : List Node) (w : WorldValue) (commands : List SeatCommand) (i : ℕ) → length commands ≤ i
    → after_commands nodes w (drop i commands) ≡ quiet w
commands_none nodes w commands i h = ap (after_commands nodes w) (drop_of_length-le commands h)
