-- The text of a schedule that was read is read as that schedule.
use Rattle.std.proofs.Common.{◌≡◌, ℕ, ◌+◌, ◌∙◌, Bool, true, false, cond, List, [], ◌∷◌, ◌++◌, length, map, get_or}
use Rattle.std.proofs.Common.{Option, None, Some, Result, Ok, Err, refl, sym, ap, subst, arith, append_assoc, append-nil, length-append}
use Rattle.std.specs.Prelude.{IfSome, codes, decimal, option_and_then, option_map, slice_get}
use Rattle.std.specs.List.{AllByRecursion}
use Rattle.std.specs.Option.{option_map_or}
use Rattle.std.specs.Str.{bytes_eq}
use Rattle.std.proofs.lemmas.List.{get_or_append_left}
use Rattle.std.proofs.lemmas.List.Quantifiers.{position-Some}
use Rattle.std.proofs.lemmas.Option.{slice_get-get_or}
use Rattle.fabric_model.specs.declared.cable.NodePort.{NodePort}
use Rattle.text_words.specs.Printed.{line_text, lines_text}
use Rattle.text_words.specs.Text.{lines}
use Rattle.text_words.proofs.Printed.{IsWord, lines_are_read, printed}
use Rattle.topo_file.specs.declared.node.Node.{Node}
use Rattle.topo_file.specs.Printed.{name_at}
use Rattle.topo_file.specs.Topology.{IsFound, id_of}
use Rattle.topo_file.proofs.Indexes.{found_is, same_bytes}
use Rattle.schedule_file.specs.declared.command.Command.TheVariants as command
use Rattle.schedule_file.specs.declared.schedule_fault.ScheduleFault.{ScheduleFault}
use Rattle.schedule_file.specs.declared.schedule_fault.ScheduleFault.TheVariants as fault
use Rattle.schedule_file.specs.declared.line.NewManager.{NewManager}
use Rattle.schedule_file.specs.declared.line.ScheduleLine.{ScheduleLine}
use Rattle.schedule_file.specs.declared.line.ScheduleLine.TheVariants as line
use Rattle.schedule_file.specs.declared.named_command.PortName.{PortName}
use Rattle.schedule_file.specs.declared.schedule.Seat.{Seat}
use Rattle.schedule_file.specs.Command.{NamedCommand, line_of}
use Rattle.schedule_file.specs.Manner.{newest_of}
use Rattle.schedule_file.specs.Printed.{manner_words, named_words, port_word, PrintedSchedulesAreRead, command_words}
use Rattle.schedule_file.specs.Printed.{manager_at, port_at, seat_words}
use Rattle.schedule_file.specs.Schedule.{◌>>=◌, Script, adding, empty, known_with, managers_of, new_seat, schedule_of, schedule_of_lines}
use Rattle.schedule_file.specs.Resolve.{Managers, SeatCommand, command_of, is_free, is_named, managers_in, mistakes, port_of, seat_of}
use Rattle.schedule_file.specs.Resolve.{where_known}
use Rattle.schedule_file.specs.Schedule.{script_with, seat_at, with_command, with_line, with_lines, with_seat}
use Rattle.schedule_file.proofs.Lines.{IsLine, IsNamed, IsNew, line_range, named_are_words, named_is_read, new_are_words, new_is_read, new_words}

-- names --------------------------------------------------------------------------------------

mapped_some : {A B : Type 0} (f : A → B) (o : Option A) (b : B) → option_map f o ≡ Some b → (a : A) × (o ≡ Some a) × (f a ≡ b)
mapped_some f None b e = absurd (cc)
mapped_some f (Some a) b e = (a, refl, cc)

then_some : {A B : Type 0} (f : A → Option B) (o : Option A) (b : B) → option_and_then f o ≡ Some b → (a : A) × (o ≡ Some a) × (f a ≡ Some b)
then_some f None b e = absurd (cc)
then_some f (Some a) b e = (a, refl, e)

manager_found : (seats more : List Seat) (name : List ℕ) (i : ℕ) → seat_of seats name ≡ Some i → manager_at (seats ++ more) i ≡ name
manager_found [] more name i e = let h : ◌≡◌ {A = Option ℕ} None (Some i) = e in absurd (cc)
manager_found (seat ∷ seats) more name i e =
    let all = seat ∷ seats in
    let found = position-Some (λ s. bytes_eq s.name name) all i seat e in
    let there : slice_get (all ++ more) i ≡ Some (get_or (all ++ more) i seat) =
    slice_get-get_or (all ++ more) i seat (omega (arith, found.0, length-append all more)) in
    ap (λ o. option_map_or (λ (s : Seat). s.name) o []) there
    ∙ ap (λ (s : Seat). s.name) (get_or_append_left all more seat i found.0)
    ∙ same_bytes (get_or all i seat).name name found.1

port_found : (nodes : List Node) (name : PortName) (p : NodePort) → port_of nodes name ≡ Some p → port_at nodes p ≡ name
port_found nodes name p e = by_id (id_of nodes name.node) (found_is nodes name.node) e
  where
    by_id : (o : Option ℕ) → IsFound nodes name.node o → option_map (λ id. record { node = id; port = name.port }) o ≡ Some p → port_at nodes p ≡ name
    by_id None found e = absurd (cc)
    by_id (Some id) found e =
        let is : record { node = id; port = name.port } ≡ p = cc in
        let named : name_at nodes id ≡ name.node = ap (λ o. option_map_or (λ (n : Node). n.name) o []) found.1 ∙ found.2 in
        ap (port_at nodes) (sym is) ∙ ap (λ n. record { node = n; port = name.port }) named

-- managers, and those that come later
abbrev joined : Managers → Managers → Managers
joined known more = record { seats = known.seats ++ more.seats; deciders = known.deciders ++ more.deciders }

-- the words of a command are those of its names, which managers that come later leave
words_again : (nodes : List Node) (known more : Managers) (named : NamedCommand) (c : SeatCommand) → IsNamed named → command_of nodes known named ≡ Some c
    → command_words nodes (joined known more) c ≡ named_words named
words_again nodes known more (command.Manager name) c is e = absurd is
words_again nodes known more (command.Decider name) c is e = absurd is
words_again nodes known more (command.Ask name what) c is e =
    let m = mapped_some (λ seat. command.Ask seat what) (seat_of known.seats name) c e in
    ap (command_words nodes (joined known more)) (sym m.2) ∙ ap (λ n. named_words (command.Ask n what)) (manager_found known.seats more.seats name m.0 m.1)
words_again nodes known more (command.Timeout name) c is e =
    let m = mapped_some command.Timeout (seat_of known.seats name) c e in
    ap (command_words nodes (joined known more)) (sym m.2) ∙ ap (λ n. named_words (command.Timeout n)) (manager_found known.seats more.seats name m.0 m.1)
words_again nodes known more (command.Floor name floor) c is e =
    let m = mapped_some (λ seat. command.Floor seat floor) (seat_of known.seats name) c e in
    ap (command_words nodes (joined known more)) (sym m.2) ∙ ap (λ n. named_words (command.Floor n floor)) (manager_found known.seats more.seats name m.0 m.1)
words_again nodes known more (command.Merge one other) c is e =
    let m = then_some (λ a. option_map (command.Merge a) (seat_of known.seats other)) (seat_of known.seats one) c e in
    let k = mapped_some (command.Merge m.0) (seat_of known.seats other) c m.2 in
    ap (command_words nodes (joined known more)) (sym k.2)
    ∙ ap (λ n. named_words (command.Merge n (manager_at (known.seats ++ more.seats) k.0))) (manager_found known.seats more.seats one m.0 m.1)
    ∙ ap (λ n. named_words (command.Merge one n)) (manager_found known.seats more.seats other k.0 k.1)
words_again nodes known more (command.Show name what) c is e = by_seat (seat_of known.seats name) (manager_found known.seats more.seats name) e
  where
    by_seat : (o : Option ℕ) → ((i : ℕ) → o ≡ Some i → manager_at (known.seats ++ more.seats) i ≡ name)
        → option_map_or (λ i. Some (command.Show i what)) o (option_map (λ i. command.ShowDecider i what) (seat_of known.deciders name)) ≡ Some c
        → command_words nodes (joined known more) c ≡ named_words (command.Show name what)
    by_seat (Some i) found e =
        let same : command.Show i what ≡ c = cc in
        ap (command_words nodes (joined known more)) (sym same) ∙ ap (λ n. named_words (command.Show n what)) (found i refl)
    by_seat None found e =
        let m = mapped_some (λ i. command.ShowDecider i what) (seat_of known.deciders name) c e in
        ap (command_words nodes (joined known more)) (sym m.2)
        ∙ ap (λ n. named_words (command.ShowDecider n what)) (manager_found known.deciders more.deciders name m.0 m.1)
words_again nodes known more (command.ShowDecider name what) c is e = absurd is
words_again nodes known more (command.Pause name) c is e =
    let m = mapped_some command.Pause (seat_of known.deciders name) c e in
    ap (command_words nodes (joined known more)) (sym m.2)
    ∙ ap (λ n. named_words (command.Pause n)) (manager_found known.deciders more.deciders name m.0 m.1)
words_again nodes known more (command.Resume name) c is e =
    let m = mapped_some command.Resume (seat_of known.deciders name) c e in
    ap (command_words nodes (joined known more)) (sym m.2)
    ∙ ap (λ n. named_words (command.Resume n)) (manager_found known.deciders more.deciders name m.0 m.1)
words_again nodes known more (command.Wait time most) c is e =
    let same : command.Wait time most ≡ c = cc in ap (command_words nodes (joined known more)) (sym same)
words_again nodes known more (command.Packet which fate) c is e =
    let same : command.Packet which fate ≡ c = cc in ap (command_words nodes (joined known more)) (sym same)
words_again nodes known more (command.Drain most) c is e =
    let same : command.Drain most ≡ c = cc in ap (command_words nodes (joined known more)) (sym same)
words_again nodes known more (command.Cut p) c is e =
    let m = mapped_some command.Cut (port_of nodes p) c e in
    ap (command_words nodes (joined known more)) (sym m.2) ∙ ap (λ n. named_words (command.Cut n)) (port_found nodes p m.0 m.1)
words_again nodes known more (command.Plug p q) c is e =
    let m = then_some (λ a. option_map (command.Plug a) (port_of nodes q)) (port_of nodes p) c e in
    let k = mapped_some (command.Plug m.0) (port_of nodes q) c m.2 in
    ap (command_words nodes (joined known more)) (sym k.2)
    ∙ ap (λ n. named_words (command.Plug n (port_at nodes k.0))) (port_found nodes p m.0 m.1)
    ∙ ap (λ n. named_words (command.Plug p n)) (port_found nodes q k.0 k.1)
words_again nodes known more (command.Ping p lid) c is e =
    let m = mapped_some (λ a. command.Ping a lid) (port_of nodes p) c e in
    ap (command_words nodes (joined known more)) (sym m.2) ∙ ap (λ n. named_words (command.Ping n lid)) (port_found nodes p m.0 m.1)
words_again nodes known more command.Traps c is e = let same : command.Traps ≡ c = cc in ap (command_words nodes (joined known more)) (sym same)
words_again nodes known more command.Resend c is e = let same : command.Resend ≡ c = cc in ap (command_words nodes (joined known more)) (sym same)
words_again nodes known more command.Tables c is e = let same : command.Tables ≡ c = cc in ap (command_words nodes (joined known more)) (sym same)
words_again nodes known more command.Flight c is e = let same : command.Flight ≡ c = cc in ap (command_words nodes (joined known more)) (sym same)

-- a new manager is seated whatever the number of its line
record IsSeatOf (nodes : List Node) (known : Managers) (new : NewManager) (seat : Seat) : Type 0 where
  at : port_of nodes new.at ≡ Some seat.at
  name : seat.name ≡ new.name
  priority : seat.priority ≡ new.priority
  manner : seat.manner ≡ new.manner
  any : (m : ℕ) → new_seat nodes known m new ≡ Ok seat

seated : (nodes : List Node) (known : Managers) (n : ℕ) (new : NewManager) (seat : Seat) → new_seat nodes known n new ≡ Ok seat → IsSeatOf nodes known new seat
seated nodes known n new seat e = by_name (is_named known new.name) (port_of nodes new.at) refl refl e
  where
    made : NodePort → Seat
    made p = record { name = new.name; at = p; priority = new.priority; manner = new.manner }

    by_free : (p : NodePort) (b : Bool) → is_named known new.name ≡ false → port_of nodes new.at ≡ Some p → is_free nodes known p ≡ b
        → cond b (Ok (made p)) (Err (fault.Seat n)) ≡ Ok seat → IsSeatOf nodes known new seat
    by_free p false unknown there free e = absurd (cc)
    by_free p true unknown there free e =
        let same : made p ≡ seat = cc in
        record {
          at = there ∙ ap (λ (s : Seat). Some s.at) same;
          name = ap (λ (s : Seat). s.name) (sym same);
          priority = ap (λ (s : Seat). s.priority) (sym same);
          manner = ap (λ (s : Seat). s.manner) (sym same);
          any = λ m. ap (λ b. cond b (Err (fault.Name m)) (seat_at nodes known m new (port_of nodes new.at))) unknown
              ∙ ap (seat_at nodes known m new) there ∙ ap (λ b. cond b (Ok (made p)) (Err (fault.Seat m))) free ∙ ap Ok same;
        }

    by_name : (b : Bool) (o : Option NodePort) → is_named known new.name ≡ b → port_of nodes new.at ≡ o
        → cond b (Err (fault.Name n)) (seat_at nodes known n new o) ≡ Ok seat → IsSeatOf nodes known new seat
    by_name true o named there e = absurd (cc)
    by_name false None named there e = absurd (cc)
    by_name false (Some p) named there e = by_free p (is_free nodes known p) named there refl e

-- lines --------------------------------------------------------------------------------------

-- what lines add to those before them is added by the lines of its text as well
record ReadAgain (nodes : List Node) (before script : Script) : Type 0 where
  more : Managers
  added : List SeatCommand
  managers : managers_of script ≡ joined (managers_of before) more
  commands : script.commands ≡ before.commands ++ added
  words : AllByRecursion (AllByRecursion IsWord) (map (command_words nodes (managers_of script)) added)
  reads : (m : ℕ) → with_lines nodes m before (printed (map (command_words nodes (managers_of script)) added)) ≡ Ok script

at_seam : (seats more : List Seat) (seat : Seat) → slice_get (seats ++ seat ∷ more) (length seats) ≡ Some seat
at_seam [] more seat = refl
at_seam (s ∷ seats) more seat = at_seam seats more seat

seat_again : (nodes : List Node) (n : ℕ) (before script : Script) (new : NewManager) (seat : Seat) (newest : Option ℕ) → IsNew new
    → new_seat nodes (managers_of before) n new ≡ Ok seat → newest_of seat.manner ≡ newest
    → ReadAgain nodes (script_with (known_with (managers_of before) seat newest) before.commands (adding (managers_of before) newest)) script
    → ReadAgain nodes before script
seat_again nodes n before script new seat newest is e asked rest = by_newest newest asked rest
  where
    known : Managers
    known = managers_of before

    after : Option ℕ → Script
    after newest = script_with (known_with known seat newest) before.commands (adding known newest)

    told : IsSeatOf nodes known new seat
    told = seated nodes known n new seat e

    words_are : seat_words nodes seat ≡ new_words new
    words_are =
        λ i. codes "manager" ∷ told.name i ∷ port_word (port_found nodes new.at seat.at told.at i) ∷ decimal (told.priority i) ∷ manner_words (told.manner i)

    reads_again : (newest : Option ℕ) → newest_of seat.manner ≡ newest → (words : List (List ℕ)) → words ≡ new_words new → (later : List (List ℕ)) (m : ℕ)
        → with_lines nodes (m + 1) (after newest) later ≡ Ok script → with_lines nodes m before (line_text words ∷ later) ≡ Ok script
    reads_again newest asked words here later m rest =
        ap (λ ws. with_line nodes m before (line_of (line_text ws)) >>= λ now. with_lines nodes (m + 1) now later) here
        ∙ ap (λ o. with_line nodes m before o >>= λ now. with_lines nodes (m + 1) now later) (new_is_read new is)
        ∙ ap (λ r. (r >>= λ s. Ok (with_seat before s)) >>= λ now. with_lines nodes (m + 1) now later) (told.any m)
        ∙ ap (λ o. with_lines nodes (m + 1) (after o) later) asked
        ∙ rest

    by_newest : (newest : Option ℕ) → newest_of seat.manner ≡ newest → ReadAgain nodes (after newest) script → ReadAgain nodes before script
    by_newest None asked rest =
        let k = length before.seats in
        let all : managers_of script ≡ managers_in (before.seats ++ seat ∷ rest.more.seats) (before.deciders ++ rest.more.deciders) =
        rest.managers ∙ ap (λ ss. managers_in ss (before.deciders ++ rest.more.deciders)) (append_assoc before.seats (seat ∷ []) rest.more.seats) in
        let here : command_words nodes (managers_of script) (command.Manager k) ≡ new_words new =
        ap (λ ks. command_words nodes ks (command.Manager k)) all
        ∙ ap (λ o. option_map_or (seat_words nodes) o []) (at_seam before.seats rest.more.seats seat) ∙ words_are in
        record {
          more = managers_in (seat ∷ rest.more.seats) rest.more.deciders;
          added = command.Manager k ∷ rest.added;
          managers = all;
          commands = rest.commands ∙ append_assoc before.commands (command.Manager k ∷ []) rest.added;
          words = (subst (λ (ws : List (List ℕ)). AllByRecursion IsWord ws) (sym here) (new_are_words new is), rest.words);
          reads = λ m. reads_again None asked _ here _ m (rest.reads (m + 1));
        }
    by_newest (Some newest) asked rest =
        let k = length before.deciders in
        let all : managers_of script ≡ managers_in (before.seats ++ rest.more.seats) (before.deciders ++ seat ∷ rest.more.deciders) =
        rest.managers ∙ ap (managers_in (before.seats ++ rest.more.seats)) (append_assoc before.deciders (seat ∷ []) rest.more.deciders) in
        let here : command_words nodes (managers_of script) (command.Decider k) ≡ new_words new =
        ap (λ ks. command_words nodes ks (command.Decider k)) all
        ∙ ap (λ o. option_map_or (seat_words nodes) o []) (at_seam before.deciders rest.more.deciders seat) ∙ words_are in
        record {
          more = managers_in rest.more.seats (seat ∷ rest.more.deciders);
          added = command.Decider k ∷ rest.added;
          managers = all;
          commands = rest.commands ∙ append_assoc before.commands (command.Decider k ∷ []) rest.added;
          words = (subst (λ (ws : List (List ℕ)). AllByRecursion IsWord ws) (sym here) (new_are_words new is), rest.words);
          reads = λ m. reads_again (Some newest) asked _ here _ m (rest.reads (m + 1));
        }

command_again : (nodes : List Node) (before script : Script) (named : NamedCommand) (c : SeatCommand) → IsNamed named
    → mistakes (managers_of before) named ≡ false → command_of nodes (managers_of before) named ≡ Some c
    → ReadAgain nodes (with_command before c) script → ReadAgain nodes before script
command_again nodes before script named c is right e rest =
    let here : command_words nodes (managers_of script) c ≡ named_words named =
    ap (λ ks. command_words nodes ks c) rest.managers ∙ words_again nodes (managers_of before) rest.more named c is e in
    let later = printed (map (command_words nodes (managers_of script)) rest.added) in
    record {
      more = rest.more;
      added = c ∷ rest.added;
      managers = rest.managers;
      commands = rest.commands ∙ append_assoc before.commands (c ∷ []) rest.added;
      words = (subst (λ (ws : List (List ℕ)). AllByRecursion IsWord ws) (sym here) (named_are_words named is), rest.words);
      reads = λ m. ap (λ ws. with_line nodes m before (line_of (line_text ws)) >>= λ now. with_lines nodes (m + 1) now later) here
          ∙ ap (λ o. with_line nodes m before o >>= λ now. with_lines nodes (m + 1) now later) (named_is_read named is)
          ∙ ap (λ b. (cond b (Err (fault.Decides m)) (where_known m (command_of nodes (managers_of before) named)) >>= λ x. Ok (with_command before x))
          >>= λ now. with_lines nodes (m + 1) now later) right
          ∙ ap (λ o. (where_known m o >>= λ x. Ok (with_command before x)) >>= λ now. with_lines nodes (m + 1) now later) e
          ∙ rest.reads (m + 1);
    }

again : (nodes : List Node) (n : ℕ) (before script : Script) (ls : List (List ℕ)) → with_lines nodes n before ls ≡ Ok script → ReadAgain nodes before script
again nodes n before script [] e =
    let same : before ≡ script = cc in
    record {
      more = managers_in [] [];
      added = [];
      managers = ap managers_of (sym same)
          ∙ (λ i. managers_in (sym (append-nil before.seats) i) (sym (append-nil before.deciders) i));
      commands = ap (λ (s : Script). s.commands) (sym same) ∙ sym (append-nil before.commands);
      words = tt;
      reads = λ m. e;
    }
again nodes n before script (l ∷ ls) e = by_line (line_of l) (line_range l) (λ now. again nodes (n + 1) now script ls) e
  where
    by_seat : (new : NewManager) (r : Result Seat ScheduleFault) → IsNew new → new_seat nodes (managers_of before) n new ≡ r
        → ((now : Script) → with_lines nodes (n + 1) now ls ≡ Ok script → ReadAgain nodes now script)
        → ((r >>= λ s. Ok (with_seat before s)) >>= λ now. with_lines nodes (n + 1) now ls) ≡ Ok script → ReadAgain nodes before script
    by_seat new (Err why) is told later e = absurd (cc)
    by_seat new (Ok seat) is told later e =
        seat_again nodes n before script new seat (newest_of seat.manner) is told refl (later (with_seat before seat) e)

    by_command : (named : NamedCommand) (b : Bool) (o : Option SeatCommand) → IsNamed named → mistakes (managers_of before) named ≡ b
        → command_of nodes (managers_of before) named ≡ o
        → ((now : Script) → with_lines nodes (n + 1) now ls ≡ Ok script → ReadAgain nodes now script)
        → ((cond b (Err (fault.Decides n)) (where_known n o) >>= λ x. Ok (with_command before x)) >>= λ now. with_lines nodes (n + 1) now ls) ≡ Ok script
        → ReadAgain nodes before script
    by_command named true o is wrong told later e = absurd (cc)
    by_command named false None is right told later e = absurd (cc)
    by_command named false (Some c) is right told later e = command_again nodes before script named c is right told (later (with_command before c) e)

    by_line : (o : Option ScheduleLine) → IfSome o IsLine → ((now : Script) → with_lines nodes (n + 1) now ls ≡ Ok script → ReadAgain nodes now script)
        → (with_line nodes n before o >>= λ now. with_lines nodes (n + 1) now ls) ≡ Ok script → ReadAgain nodes before script
    by_line None is later e = absurd (cc)
    by_line (Some line.Empty) is later e = later before e
    by_line (Some (line.Manager new)) is later e = by_seat new (new_seat nodes (managers_of before) n new) is refl later e
    by_line (Some (line.Command named)) is later e =
        by_command named (mistakes (managers_of before) named) (command_of nodes (managers_of before) named) is refl refl later e

pub printed_is_read : PrintedSchedulesAreRead
unfolding schedule_of
printed_is_read nodes text script e =
    let a = again nodes 1 empty script (lines text) e in
    let line : SeatCommand → List (List ℕ) = command_words nodes (managers_of script) in
    ap (λ cs. schedule_of_lines nodes (lines (lines_text (map line cs)))) a.commands ∙ ap (schedule_of_lines nodes) (lines_are_read (map line a.added) a.words)
    ∙ a.reads 1
