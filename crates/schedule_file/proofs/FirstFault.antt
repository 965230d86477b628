-- The managers alone tell the first fault of a text.
use Rattle.std.proofs.Common.{◌≡◌, ℕ, ◌+◌, ◌<◌, ◌≤◌, Bool, true, false, List, [], ◌∷◌, ◌++◌, Option, None, Some, Result, Ok, Err, length, length-append, refl, sym, ap, subst, ◌∙◌, append_assoc, inl, inr, arith}
use Rattle.text_words.specs.Text.{lines}
use Rattle.topo_file.specs.declared.node.Node.{Node}
use Rattle.schedule_file.specs.declared.schedule_fault.ScheduleFault.{ScheduleFault}
use Rattle.schedule_file.specs.declared.schedule_fault.ScheduleFault.TheVariants as fault
use Rattle.schedule_file.specs.declared.line.ScheduleLine.{ScheduleLine}
use Rattle.schedule_file.specs.declared.line.NewManager.{NewManager}
use Rattle.fabric_model.specs.declared.cable.NodePort.{NodePort}
use Rattle.std.specs.Prelude.{if◌then◌else◌}
use Rattle.schedule_file.specs.ScheduleFault.{IsRefused}
use Rattle.schedule_file.specs.declared.line.ScheduleLine.TheVariants as line
use Rattle.schedule_file.specs.declared.schedule.Seat.{Seat}
use Rattle.schedule_file.specs.Command.{NamedCommand, line_of}
use Rattle.schedule_file.specs.Manner.{newest_of}
use Rattle.schedule_file.specs.Schedule.{◌>>=◌, Script, adding, empty, known_with, managers_of, new_seat, schedule_of, seat_at}
use Rattle.schedule_file.specs.Resolve.{Managers, SeatCommand, command_of, is_free, is_named, mistakes, port_of, resolved, where_known}
use Rattle.schedule_file.specs.Schedule.{schedule_of_lines, script_with, with_command, with_line, with_lines, with_seat}
use Rattle.schedule_file.specs.FirstFault.{IsSoundOrCrowded, Leaves, fault_of, managers_with}

-- the managers of lines that count from this number, behind those before them
abbrev pub nobody : Managers
nobody = managers_of empty

abbrev pub managers_told : List Node → ℕ → Managers → List (List ℕ) → Result Managers ScheduleFault
managers_told nodes number known [] = Ok known
managers_told nodes number known (l ∷ ls) = managers_with nodes number known (line_of l) >>= λ now. managers_told nodes (number + 1) now ls

-- what lines tell, by its managers
abbrev seen : Result Script ScheduleFault → Result Managers ScheduleFault
seen (Ok script) = Ok (managers_of script)
seen (Err fault) = Err fault

command_same : (before : Script) (given : Result SeatCommand ScheduleFault)
    → seen (given >>= λ c. Ok (with_command before c)) ≡ (given >>= λ c. Ok (managers_of before))
command_same before (Ok given) = refl
command_same before (Err fault) = refl

manager_same : (before : Script) (seat : Result Seat ScheduleFault)
    → seen (seat >>= λ s. Ok (with_seat before s)) ≡ (seat >>= λ s. Ok (known_with (managers_of before) s (newest_of s.manner)))
manager_same before (Ok seat) = by_manner (newest_of seat.manner)
  where
    by_manner : (newest : Option ℕ)
        → seen (Ok (script_with (known_with (managers_of before) seat newest) before.commands (adding (managers_of before) newest)))
        ≡ Ok (known_with (managers_of before) seat newest)
    by_manner None = refl
    by_manner (Some newest) = refl
manager_same before (Err fault) = refl

line_same : (nodes : List Node) (number : ℕ) (before : Script) (told : Option ScheduleLine) → seen (with_line nodes number before told)
    ≡ managers_with nodes number (managers_of before) told
line_same nodes number before None = refl
line_same nodes number before (Some line.Empty) = refl
line_same nodes number before (Some (line.Manager new)) = manager_same before (new_seat nodes (managers_of before) number new)
line_same nodes number before (Some (line.Command named)) = command_same before (resolved nodes (managers_of before) number named)

then_same : (told : Result Script ScheduleFault) (known : Result Managers ScheduleFault)
    (f : Script → Result Script ScheduleFault) (g : Managers → Result Managers ScheduleFault)
    → seen told ≡ known → ((now : Script) → seen (f now) ≡ g (managers_of now)) → seen (told >>= f) ≡ (known >>= g)
then_same (Ok now) known f g e h = h now ∙ ap (λ r. r >>= g) e
then_same (Err fault) known f g e h = ap (λ r. r >>= g) e

lines_same : (nodes : List Node) (number : ℕ) (before : Script) (ls : List (List ℕ)) → seen (with_lines nodes number before ls)
    ≡ managers_told nodes number (managers_of before) ls
lines_same nodes number before [] = refl
lines_same nodes number before (l ∷ ls) =
    then_same (with_line nodes number before (line_of l)) (managers_with nodes number (managers_of before) (line_of l)) (λ now. with_lines nodes (number
    + 1) now ls) (λ now. managers_told nodes (number + 1) now ls)
    (line_same nodes number before (line_of l)) (λ now. lines_same nodes (number + 1) now ls)

told_same : (nodes : List Node) (ls : List (List ℕ)) → seen (schedule_of_lines nodes ls) ≡ managers_told nodes 1 nobody ls
told_same nodes ls = lines_same nodes 1 empty ls

-- lines, and then another: where the first tell these managers
one_more : (nodes : List Node) (number : ℕ) (known kept : Managers) (front : List (List ℕ)) (l : List ℕ) (ls : List (List ℕ))
    → managers_told nodes number known front ≡ Ok kept
    → managers_told nodes number known (front ++ l ∷ ls)
    ≡ (managers_with nodes (number + length front) kept (line_of l) >>= λ now. managers_told nodes (number + length front + 1) now ls)
one_more nodes number known kept [] l ls e =
    let same : known ≡ kept = cc in
    let none_more : number ≡ number + 0 = omega arith in
    ap (λ ks. managers_with nodes number ks (line_of l) >>= λ now. managers_told nodes (number + 1) now ls) same
    ∙ ap (λ n. managers_with nodes n kept (line_of l) >>= λ now. managers_told nodes (n + 1) now ls) none_more
one_more nodes number known kept (f ∷ front) l ls e =
    elim (managers_with nodes number known (line_of f)) as (λ r. (r >>= λ now. managers_told nodes (number + 1) now front) ≡ Ok kept
    → (r >>= λ now. managers_told nodes (number + 1) now (front ++ l ∷ ls))
    ≡ (managers_with nodes (number + length (f ∷ front)) kept (line_of l) >>= λ now. managers_told nodes (number + length (f ∷ front) + 1) now ls)) [
      | Ok now ↦ λ h.
          let shift : (number + 1) + length front ≡ number + length (f ∷ front) = omega arith in
          one_more nodes (number + 1) now kept front l ls h
          ∙ ap (λ n. managers_with nodes n kept (line_of l) >>= λ now. managers_told nodes (n + 1) now ls) shift
      | Err fault ↦ λ h. absurd (cc)
    ] e

fault_seen : (told : Result Script ScheduleFault) → fault_of (seen told) ≡ fault_of told
fault_seen (Ok script) = refl
fault_seen (Err fault) = refl

-- the first fault is that of the managers
fault_same : (nodes : List Node) (ls : List (List ℕ)) → fault_of (schedule_of_lines nodes ls) ≡ fault_of (managers_told nodes 1 nobody ls)
fault_same nodes ls = sym (fault_seen (schedule_of_lines nodes ls)) ∙ ap fault_of (told_same nodes ls)

-- the lines so far tell these managers, and have no fault
pub record HasJudged (nodes : List Node) (text rest : List ℕ) (known : Managers) (number : ℕ) : Type 0 where
  pub front : List (List ℕ)
  pub parts : lines text ≡ front ++ lines rest
  pub kept : managers_told nodes 1 nobody front ≡ Ok known
  pub lines_counted : 1 + length front ≡ number + 1
  pub counted : number + length rest ≤ length text

pub judged_none : (nodes : List Node) (text : List ℕ) → HasJudged nodes text text nobody 0
judged_none nodes text = record { front = []; parts = refl; kept = refl; lines_counted = refl; counted = omega arith }

-- the next line
next_line : (nodes : List Node) (text rest later : List ℕ) (known : Managers) (number : ℕ) (l : List ℕ) (h : HasJudged nodes text rest known number)
    → lines rest ≡ l ∷ lines later
    → managers_told nodes 1 nobody (lines text) ≡ (managers_with nodes (number + 1) known (line_of l) >>= λ now. managers_told nodes (number + 1 + 1) now (lines later))
next_line nodes text rest later known number l h e =
    ap (managers_told nodes 1 nobody) (h.parts ∙ ap (λ ls. h.front ++ ls) e) ∙ one_more nodes 1 nobody known h.front l (lines later) h.kept
    ∙ ap (λ n. managers_with nodes n known (line_of l) >>= λ now. managers_told nodes (n + 1) now (lines later)) h.lines_counted

kept_more : (nodes : List Node) (text rest : List ℕ) (known now : Managers) (number : ℕ) (l : List ℕ) (h : HasJudged nodes text rest known number)
    → managers_with nodes (number + 1) known (line_of l) ≡ Ok now → managers_told nodes 1 nobody (h.front ++ l ∷ []) ≡ Ok now
kept_more nodes text rest known now number l h e =
    one_more nodes 1 nobody known h.front l [] h.kept
    ∙ ap (λ n. managers_with nodes n known (line_of l) >>= λ x. Ok x) h.lines_counted
    ∙ ap (λ r. r >>= λ x. Ok x) e

left_ok : (told : Result Managers ScheduleFault) (known : Managers) → Leaves told (Ok true) known → told ≡ Ok known
left_ok (Ok now) known e = ap Ok (sym e)
left_ok (Err fault) known e = absurd e

-- it was kept
pub judged_more : (nodes : List Node) (text rest later : List ℕ) (known known' : Managers) (number : ℕ) (l : List ℕ) → HasJudged nodes text rest known number
    → lines rest ≡ l ∷ lines later → length later < length rest → Leaves (managers_with nodes (number + 1) known (line_of l)) (Ok true) known'
    → HasJudged nodes text later known' (number + 1)
judged_more nodes text rest later known known' number l h e shorter left = record {
  front = h.front ++ l ∷ [];
  parts = h.parts ∙ ap (λ ls. h.front ++ ls) e ∙ sym (append_assoc h.front (l ∷ []) (lines later));
  kept = kept_more nodes text rest known known' number l h (left_ok _ known' left);
  lines_counted = let longer = length-append h.front (l ∷ []) in let before = h.lines_counted in omega arith;
  counted = let before = h.counted in omega arith;
}

left_err : (told : Result Managers ScheduleFault) (fault : ScheduleFault) (known : Managers) → Leaves told (Err fault) known → told ≡ Err fault
left_err (Ok now) fault known e = absurd e
left_err (Err f) fault known e = ap Err (sym e)

-- it has a fault
pub first_found : (nodes : List Node) (text rest later : List ℕ) (known known' : Managers) (number : ℕ) (l : List ℕ) (fault : ScheduleFault)
    → HasJudged nodes text rest known number
    → lines rest ≡ l ∷ lines later → Leaves (managers_with nodes (number + 1) known (line_of l)) (Err fault) known'
    → fault_of (schedule_of_lines nodes (lines text)) ≡ Some fault
first_found nodes text rest later known known' number l fault h e left =
    fault_same nodes (lines text) ∙ ap fault_of (next_line nodes text rest later known number l h e)
    ∙ ap (λ r. fault_of (r >>= λ now. managers_told nodes (number + 1 + 1) now (lines later))) (left_err _ fault known' left)

script_of : (told : Result Script ScheduleFault) (known : Managers) → seen told ≡ Ok known → (script : Script) × (told ≡ Ok script) × (managers_of script ≡ known)
script_of (Ok script) known e = (script, refl, cc)
script_of (Err fault) known e = absurd (cc)

left_full : (told : Result Managers ScheduleFault) (known : Managers) → Leaves told (Ok false) known → (now : Managers) × (told ≡ Ok now)
    × (64 < length now.seats + length now.deciders)
left_full (Ok now) known h = (now, refl, h)
left_full (Err fault) known h = absurd h

-- it has one manager too many
pub is_crowded : (nodes : List Node) (text rest later : List ℕ) (known known' : Managers) (number : ℕ) (l : List ℕ) → HasJudged nodes text rest known number
    → lines rest ≡ l ∷ lines later → Leaves (managers_with nodes (number + 1) known (line_of l)) (Ok false) known'
    → IsSoundOrCrowded nodes (lines text)
is_crowded nodes text rest later known known' number l h e left =
    let full = left_full _ known' left in
    let s = script_of (schedule_of_lines nodes (h.front ++ l ∷ [])) full.0 (told_same nodes (h.front ++ l ∷ [])
    ∙ kept_more nodes text rest known full.0 number l h full.1) in
    let Many : Managers → Type 0 = λ x. 64 < length x.seats + length x.deciders in
    inr (record {
      front = h.front ++ l ∷ [];
      back = lines later;
      parts = h.parts ∙ ap (λ ls. h.front ++ ls) e ∙ sym (append_assoc h.front (l ∷ []) (lines later));
      script = s.0;
      told = s.1;
      many = subst Many (sym s.2) full.2;
    })

append_none : (xs : List (List ℕ)) → xs ++ [] ≡ xs
append_none [] = refl
append_none (x ∷ xs) = ap (λ ys. x ∷ ys) (append_none xs)

-- there is no line more
pub is_sound : (nodes : List Node) (text rest : List ℕ) (known : Managers) (number : ℕ) → HasJudged nodes text rest known number → lines rest ≡ []
    → IsSoundOrCrowded nodes (lines text)
is_sound nodes text rest known number h e =
    inl (fault_same nodes (lines text)
    ∙ ap (λ ls. fault_of (managers_told nodes 1 nobody ls)) (h.parts ∙ ap (λ ls. h.front ++ ls) e ∙ append_none h.front)
    ∙ ap fault_of h.kept)

-- no text says that memory is wanting -----------------------------------------------------------

-- it is a value, or a fault that is not out of memory
abbrev IsPlain : {T : Type 0} → Result T ScheduleFault → Type 0
IsPlain (Err fault.Memory) = ⊥
IsPlain _ = Unit {0}

plain_then : {A B : Type 0} (r : Result A ScheduleFault) (f : A → Result B ScheduleFault) → IsPlain r → ((x : A) → IsPlain (f x)) → IsPlain (r >>= f)
plain_then (Ok x) f p q = q x
plain_then (Err fault.Memory) f p q = absurd p
plain_then (Err (fault.Syntax line)) f p q = tt
plain_then (Err (fault.Decides line)) f p q = tt
plain_then (Err (fault.Name line)) f p q = tt
plain_then (Err (fault.Seat line)) f p q = tt

plain_either : {T : Type 0} (b : Bool) (x y : Result T ScheduleFault) → IsPlain x → IsPlain y → IsPlain (if b then x else y)
plain_either true x y p q = p
plain_either false x y p q = q

at_plain : (nodes : List Node) (known : Managers) (number : ℕ) (new : NewManager) (p : Option NodePort) → IsPlain (seat_at nodes known number new p)
at_plain nodes known number new None = tt
at_plain nodes known number new (Some p) = plain_either (is_free nodes known p) _ _ tt tt

seat_plain : (nodes : List Node) (known : Managers) (number : ℕ) (new : NewManager) → IsPlain (new_seat nodes known number new)
seat_plain nodes known number new = plain_either (is_named known new.name) _ _ tt (at_plain nodes known number new (port_of nodes new.at))

command_plain : (number : ℕ) (given : Option SeatCommand) → IsPlain (where_known number given)
command_plain number None = tt
command_plain number (Some given) = tt

resolved_plain : (nodes : List Node) (known : Managers) (number : ℕ) (named : NamedCommand) → IsPlain (resolved nodes known number named)
resolved_plain nodes known number named = plain_either (mistakes known named) _ _ tt (command_plain number (command_of nodes known named))

line_plain : (nodes : List Node) (number : ℕ) (before : Script) (told : Option ScheduleLine) → IsPlain (with_line nodes number before told)
line_plain nodes number before None = tt
line_plain nodes number before (Some line.Empty) = tt
line_plain nodes number before (Some (line.Manager new)) =
    plain_then (new_seat nodes (managers_of before) number new) _ (seat_plain nodes (managers_of before) number new) (λ seat. tt)
line_plain nodes number before (Some (line.Command named)) =
    plain_then (resolved nodes (managers_of before) number named) _ (resolved_plain nodes (managers_of before) number named) (λ c. tt)

lines_plain : (nodes : List Node) (number : ℕ) (before : Script) (ls : List (List ℕ)) → IsPlain (with_lines nodes number before ls)
lines_plain nodes number before [] = tt
lines_plain nodes number before (l ∷ ls) =
    plain_then (with_line nodes number before (line_of l)) _ (line_plain nodes number before (line_of l)) (λ now. lines_plain nodes (number + 1) now ls)

told_fault : (told : Result Script ScheduleFault) (why : ScheduleFault) → fault_of told ≡ Some why → told ≡ Err why
told_fault (Ok told) why e = absurd (cc)
told_fault (Err f) why e = cc

refuses : (why : ScheduleFault) (told : Result Script ScheduleFault) → told ≡ Err why → IsRefused why told
refuses fault.Memory told e = tt
refuses (fault.Syntax line) told e = e
refuses (fault.Decides line) told e = e
refuses (fault.Name line) told e = e
refuses (fault.Seat line) told e = e

-- the text is refused for its first fault
pub first_refuses : (nodes : List Node) (text : List ℕ) (why : ScheduleFault) → fault_of (schedule_of_lines nodes (lines text)) ≡ Some why
    → IsRefused why (schedule_of nodes text)
unfolding schedule_of
first_refuses nodes text why e = refuses why (schedule_of_lines nodes (lines text)) (told_fault (schedule_of_lines nodes (lines text)) why e)

-- and that is never out of memory
pub first_plain : (nodes : List Node) (text : List ℕ) → fault_of (schedule_of_lines nodes (lines text)) ≡ Some fault.Memory → ⊥
first_plain nodes text e =
    subst (λ (r : Result Script ScheduleFault). IsPlain r) (told_fault (schedule_of_lines nodes (lines text)) fault.Memory e)
    (lines_plain nodes 1 empty (lines text))
