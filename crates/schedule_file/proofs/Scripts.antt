-- The schedules that texts tell: their commands name managers that there are, at ports of adapters.
use Rattle.std.proofs.Common.{◌≡◌, ℕ, ◌+◌, ◌<◌, Bool, true, false, cond, List, [], ◌∷◌}
use Rattle.std.proofs.Common.{◌++◌, length, get_or, Option, None, Some, Result, Ok, Err, refl, arith, length-append}
use Rattle.std.specs.Prelude.{◌||◌, IfSome, IfOk, not, option_map}
use Rattle.std.specs.Option.{option_map_or}
use Rattle.std.proofs.lemmas.Result.{IfOk-at_ok}
use Rattle.std.proofs.lemmas.List.Elements.{All-push, All-nil}
use Rattle.std.proofs.lemmas.List.Quantifiers.{position-Some}
use Rattle.std.specs.Str.{bytes_eq}
use Rattle.fabric_model.specs.declared.cable.NodePort.{NodePort}
use Rattle.text_words.proofs.Names.{both}
use Rattle.text_words.proofs.Ranges.{then_some, mapped, always}
use Rattle.topo_file.specs.declared.node.Node.{Node}
use Rattle.schedule_file.specs.declared.command.Command.TheVariants as command
use Rattle.schedule_file.specs.declared.command.Shown.{Shown}
use Rattle.schedule_file.specs.declared.schedule_fault.ScheduleFault.{ScheduleFault}
use Rattle.schedule_file.specs.declared.schedule_fault.ScheduleFault.TheVariants as fault
use Rattle.schedule_file.specs.declared.line.ScheduleLine.{ScheduleLine}
use Rattle.schedule_file.specs.declared.line.ScheduleLine.TheVariants as line
use Rattle.schedule_file.specs.declared.line.NewManager.{NewManager}
use Rattle.schedule_file.specs.declared.schedule.Seat.{Seat}
use Rattle.schedule_file.specs.Command.{NamedCommand, line_of}
use Rattle.schedule_file.specs.Manner.{newest_of}
use Rattle.schedule_file.specs.Schedule.{◌>>=◌, IsScript, NamesManagers, Script, adding, empty, known_with, managers_of, new_seat}
use Rattle.schedule_file.specs.Resolve.{Managers, SeatCommand, command_of, is_free, is_named, is_seat, is_taken, mistakes, port_of, resolved}
use Rattle.schedule_file.specs.Resolve.{seat_of, where_known}
use Rattle.schedule_file.specs.Schedule.{schedule_of_lines, script_with, seat_at, with_command, with_line, with_lines, with_seat}

-- names -------------------------------------------------------------------------------------

index_range : (o : Option ℕ) (seats : List Seat) (name : List ℕ) → seat_of seats name ≡ o → IfSome o (λ i. i < length seats)
index_range None seats name e = tt
index_range (Some i) [] name e = let h : ◌≡◌ {A = Option ℕ} None (Some i) = e in absurd (cc)
index_range (Some i) (seat ∷ seats) name e = (position-Some (λ s. bytes_eq s.name name) (seat ∷ seats) i seat e).0

seat_range : (seats : List Seat) (name : List ℕ) → IfSome (seat_of seats name) (λ i. i < length seats)
seat_range seats name = index_range (seat_of seats name) seats name refl

shown_range : (known : Managers) (what : Shown) (seat decider : Option ℕ) → IfSome seat (λ i. i < length known.seats)
    → IfSome (option_map_or (λ i. Some (command.Show i what)) seat (option_map (λ i. command.ShowDecider i what) decider)) (NamesManagers (length known.seats))
shown_range known what (Some i) decider h = h
shown_range known what None None h = tt
shown_range known what None (Some i) h = tt

command_range : (nodes : List Node) (known : Managers) (named : NamedCommand) → IfSome (command_of nodes known named) (NamesManagers (length known.seats))
command_range nodes known (command.Manager name) =
    mapped (λ i. i < length known.seats) (NamesManagers (length known.seats)) (seat_of known.seats name) _ (seat_range known.seats name) (λ i k. k)
command_range nodes known (command.Decider name) =
    mapped (λ _. Unit {0}) (NamesManagers (length known.seats)) (seat_of known.deciders name) _ (always _) (λ i _. tt)
command_range nodes known (command.Ask name what) =
    mapped (λ i. i < length known.seats) (NamesManagers (length known.seats)) (seat_of known.seats name) _ (seat_range known.seats name) (λ i k. k)
command_range nodes known (command.Timeout name) =
    mapped (λ i. i < length known.seats) (NamesManagers (length known.seats)) (seat_of known.seats name) _ (seat_range known.seats name) (λ i k. k)
command_range nodes known (command.Floor name floor) =
    mapped (λ i. i < length known.seats) (NamesManagers (length known.seats)) (seat_of known.seats name) _ (seat_range known.seats name) (λ i k. k)
command_range nodes known (command.Merge one other) =
    then_some (λ i. i < length known.seats) (NamesManagers (length known.seats)) (seat_of known.seats one) _ (seat_range known.seats one) (λ i k.
    mapped (λ j. j < length known.seats) (NamesManagers (length known.seats)) (seat_of known.seats other) _ (seat_range known.seats other) (λ j l. (k, l)))
command_range nodes known (command.Show name what) =
    shown_range known what (seat_of known.seats name) (seat_of known.deciders name) (seat_range known.seats name)
command_range nodes known (command.ShowDecider name what) =
    mapped (λ _. Unit {0}) (NamesManagers (length known.seats)) (seat_of known.deciders name) _ (always _) (λ i _. tt)
command_range nodes known (command.Pause name) =
    mapped (λ _. Unit {0}) (NamesManagers (length known.seats)) (seat_of known.deciders name) _ (always _) (λ i _. tt)
command_range nodes known (command.Resume name) =
    mapped (λ _. Unit {0}) (NamesManagers (length known.seats)) (seat_of known.deciders name) _ (always _) (λ i _. tt)
command_range nodes known (command.Wait time most) = tt
command_range nodes known (command.Packet which fate) = tt
command_range nodes known (command.Drain most) = tt
command_range nodes known (command.Cut p) = mapped (λ _. Unit {0}) (NamesManagers (length known.seats)) (port_of nodes p) _ (always _) (λ p _. tt)
command_range nodes known (command.Plug p q) =
    then_some (λ _. Unit {0}) (NamesManagers (length known.seats)) (port_of nodes p) _ (always _) (λ a _.
    mapped (λ _. Unit {0}) (NamesManagers (length known.seats)) (port_of nodes q) _ (always _) (λ b _. tt))
command_range nodes known (command.Ping p lid) = mapped (λ _. Unit {0}) (NamesManagers (length known.seats)) (port_of nodes p) _ (always _) (λ a _. tt)
command_range nodes known command.Traps = tt
command_range nodes known command.Resend = tt
command_range nodes known command.Tables = tt
command_range nodes known command.Flight = tt

-- lines --------------------------------------------------------------------------------------

read_then : {A B : Type 0} (P : A → Type 0) (Q : B → Type 0) (r : Result A ScheduleFault) (f : A → Result B ScheduleFault) → IfOk r P
    → ((x : A) → P x → IfOk (f x) Q) → IfOk (r >>= f) Q
read_then P Q (Ok x) f h g = g x h
read_then P Q (Err why) f h g = tt

unless : {A : Type 0} (Q : A → Type 0) (b : Bool) (why : ScheduleFault) (r : Result A ScheduleFault) → IfOk r Q → IfOk (cond b (Err why) r) Q
unless Q true why r h = tt
unless Q false why r h = h

where_true : {A : Type 0} (Q : A → Type 0) (b : Bool) (why : ScheduleFault) (r : Result A ScheduleFault) → (b ≡ true → IfOk r Q) → IfOk (cond b r (Err why)) Q
where_true Q true why r h = h refl
where_true Q false why r h = tt

seated : (nodes : List Node) (known : Managers) (number : ℕ) (new : NewManager) (p : Option NodePort)
    → IfOk (seat_at nodes known number new p) (λ seat. is_seat nodes seat.at ≡ true)
seated nodes known number new None = tt
seated nodes known number new (Some p) =
    where_true (λ seat. is_seat nodes seat.at ≡ true) (is_free nodes known p) (fault.Seat number) _
    (λ h. (both (is_seat nodes p) (not (is_taken known.seats p || is_taken known.deciders p)) h).0)

new_seat_range : (nodes : List Node) (known : Managers) (number : ℕ) (new : NewManager)
    → IfOk (new_seat nodes known number new) (λ seat. is_seat nodes seat.at ≡ true)
new_seat_range nodes known number new =
    unless (λ seat. is_seat nodes seat.at ≡ true) (is_named known new.name) (fault.Name number) _
    (seated nodes known number new (port_of nodes new.at))

-- so many managers and one more
more : (count : ℕ) (given : SeatCommand) → NamesManagers count given → NamesManagers (count + 1) given
more count (command.Manager seat) h = omega arith
more count (command.Decider seat) h = tt
more count (command.Ask seat what) h = omega arith
more count (command.Timeout seat) h = omega arith
more count (command.Floor seat floor) h = omega arith
more count (command.Merge seat other) h = let one = h.0 in let two = h.1 in (omega arith, omega arith)
more count (command.Show seat what) h = omega arith
more count (command.ShowDecider seat what) h = tt
more count (command.Pause seat) h = tt
more count (command.Resume seat) h = tt
more count (command.Wait time most) h = tt
more count (command.Packet which fate) h = tt
more count (command.Drain most) h = tt
more count (command.Cut p) h = tt
more count (command.Plug p q) h = tt
more count (command.Ping p lid) h = tt
more count command.Traps h = tt
more count command.Resend h = tt
more count command.Tables h = tt
more count command.Flight h = tt

with_seat_range : (nodes : List Node) (before : Script) (seat : Seat) (newest : Option ℕ) → IsScript nodes before → is_seat nodes seat.at ≡ true
    → IsScript nodes (script_with (known_with (managers_of before) seat newest) before.commands (adding (managers_of before) newest))
with_seat_range nodes before seat None is h =
    let longer : length (before.seats ++ seat ∷ []) ≡ length before.seats + 1 = length-append before.seats (seat ∷ []) in record {
      seats = All-push (λ s. is_seat nodes s.at ≡ true) before.seats seat is.seats h;
      deciders = is.deciders;
      commands = rw longer (All-push (NamesManagers (length before.seats + 1)) before.commands (command.Manager (length before.seats))
          (λ k d inside. more (length before.seats) (get_or before.commands k d) (is.commands k d inside)) (omega arith));
    }
with_seat_range nodes before seat (Some newest) is h = record {
  seats = is.seats;
  deciders = All-push (λ s. is_seat nodes s.at ≡ true) before.deciders seat is.deciders h;
  commands = All-push (NamesManagers (length before.seats)) before.commands (command.Decider (length before.deciders)) is.commands tt;
}

known_range : (number count : ℕ) (given : Option SeatCommand) → IfSome given (NamesManagers count) → IfOk (where_known number given) (NamesManagers count)
known_range number count None h = tt
known_range number count (Some given) h = h

resolved_range : (nodes : List Node) (known : Managers) (number : ℕ) (named : NamedCommand)
    → IfOk (resolved nodes known number named) (NamesManagers (length known.seats))
resolved_range nodes known number named =
    unless (NamesManagers (length known.seats)) (mistakes known named) (fault.Decides number) _
    (known_range number (length known.seats) (command_of nodes known named) (command_range nodes known named))

with_command_range : (nodes : List Node) (before : Script) (given : SeatCommand) → IsScript nodes before → NamesManagers (length before.seats) given
    → IsScript nodes (with_command before given)
with_command_range nodes before given is h = record {
  seats = is.seats;
  deciders = is.deciders;
  commands = All-push (NamesManagers (length before.seats)) before.commands given is.commands h;
}

line_kept : (nodes : List Node) (number : ℕ) (before : Script) (told : Option ScheduleLine) → IsScript nodes before
    → IfOk (with_line nodes number before told) (IsScript nodes)
line_kept nodes number before None is = tt
line_kept nodes number before (Some line.Empty) is = is
line_kept nodes number before (Some (line.Manager new)) is =
    read_then (λ seat. is_seat nodes seat.at ≡ true) (IsScript nodes) (new_seat nodes (managers_of before) number new) (λ seat. Ok (with_seat before seat))
    (new_seat_range nodes (managers_of before) number new) (λ seat h. with_seat_range nodes before seat (newest_of seat.manner) is h)
line_kept nodes number before (Some (line.Command named)) is =
    read_then (NamesManagers (length before.seats)) (IsScript nodes) (resolved nodes (managers_of before) number named)
    (λ c. Ok (with_command before c)) (resolved_range nodes (managers_of before) number named)
    (λ c h. with_command_range nodes before c is h)

lines_kept : (nodes : List Node) (number : ℕ) (before : Script) (ls : List (List ℕ)) → IsScript nodes before
    → IfOk (with_lines nodes number before ls) (IsScript nodes)
lines_kept nodes number before [] is = is
lines_kept nodes number before (l ∷ ls) is =
    read_then (IsScript nodes) (IsScript nodes) (with_line nodes number before (line_of l)) (λ now. with_lines nodes (number + 1) now ls)
    (line_kept nodes number before (line_of l) is) (λ now h. lines_kept nodes (number + 1) now ls h)

pub told_is_script : (nodes : List Node) (ls : List (List ℕ)) (script : Script) → schedule_of_lines nodes ls ≡ Ok script → IsScript nodes script
told_is_script nodes ls script e =
    IfOk-at_ok (IsScript nodes) e (lines_kept nodes 1 empty ls (record { seats = All-nil _; deciders = All-nil _; commands = All-nil _ }))
