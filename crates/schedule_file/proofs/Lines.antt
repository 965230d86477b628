-- Lines of commands: what is told is in its range, and what is printed is read.
use Rattle.std.proofs.Common.{◌≡◌, ℕ, zero, suc, ◌≤◌, ◌-◌, ◌^◌, Bool, true, false, cond, leb, List, [], ◌∷◌, Option, None, Some, arith, refl}
use Rattle.std.proofs.Common.{◌<◌, ◌∙◌, not, length, ap}
use Rattle.std.specs.Prelude.{IfSome, IsTrue, codes, option_and_then, ◌==◌, decimal}
use Rattle.std.specs.Option.{option_map_or}
use Rattle.std.specs.Str.{bytes_eq}
use Rattle.std.proofs.lemmas.Bool.{leb-true}
use Rattle.text_words.specs.NodeName.{is_name, name_in, is_name_byte}
use Rattle.text_words.specs.Numbers.{number_of, number_up_to}
use Rattle.text_words.specs.Quoted.{alone, enclosed}
use Rattle.text_words.specs.Text.{words}
use Rattle.text_words.proofs.Ranges.{always, mapped, name_range, tested, then_some}
use Rattle.schedule_file.specs.declared.command.Ask.{Ask}
use Rattle.schedule_file.specs.declared.command.Ask.TheVariants.{Sweep, Write, Handover, Yield, Rediscover, Poll}
use Rattle.schedule_file.specs.declared.command.Command.TheVariants as command
use Rattle.schedule_file.specs.declared.command.Fate.{Fate}
use Rattle.schedule_file.specs.declared.command.Fate.TheVariants.{Deliver, Lose, Repeat}
use Rattle.schedule_file.specs.declared.command.Shown.{Shown}
use Rattle.schedule_file.specs.declared.command.Shown.TheVariants.{Facts, Plan, Progress, Silent, State, Written}
use Rattle.schedule_file.specs.declared.command.Which.{Which}
use Rattle.schedule_file.specs.declared.command.Which.TheVariants.{Last, Serial}
use Rattle.schedule_file.specs.declared.manner.Manner.{Manner}
use Rattle.schedule_file.specs.declared.manner.Manner.TheVariants.{Plain, Live, Decides}
use Rattle.schedule_file.specs.declared.line.NewManager.{NewManager}
use Rattle.schedule_file.specs.declared.line.ScheduleLine.{ScheduleLine}
use Rattle.schedule_file.specs.declared.line.ScheduleLine.TheVariants as line
use Rattle.schedule_file.specs.declared.named_command.PortName.{PortName}
use Rattle.schedule_file.specs.Printed.{fate_word, manner_words, named_words, port_word, shown_word, which_word}
use Rattle.schedule_file.specs.Command.{NamedCommand, ask, bare_of, bracketed_number, command_in, floor, line_in, line_of, merge}
use Rattle.schedule_file.specs.Command.{new_manager, of_manager, of_one, of_two, packet, ping, plug, poll, port_name, show}
use Rattle.schedule_file.specs.Command.{to_manager, wait, which_of}
use Rattle.schedule_file.specs.Manner.{manner_in, manner_of}
use Rattle.schedule_file.specs.ManagerWords.{asked_by, generation_of, shown_by}
use Rattle.schedule_file.specs.ManagerName.{is_manager_name, manager_name_in}
use Rattle.std.specs.Char.{digit_value, is_ascii_alphanumeric}
use Rattle.std.specs.List.{AllByRecursion, list_all}
use Rattle.text_words.specs.Printed.{bracketed_text, line_text}
use Rattle.text_words.proofs.Digits.{is_within}
use Rattle.text_words.proofs.Names.{both}
use Rattle.text_words.proofs.NumbersPrinted.{decimal_digits, decimal_is_read}
use Rattle.text_words.proofs.Printed.{IsWord, bare_on, decimal_word, digit_apart, digits_all, is_bare, is_plain, named_word}
use Rattle.text_words.proofs.Printed.{until_then, words_are_read}
use Rattle.text_words.proofs.Splits.{differs}
use Rattle.topo_file.proofs.Indexes.{same_bytes}
use Rattle.schedule_file.proofs.NameBytes.{letter_range}

-- a manager's name
abbrev pub IsName : List ℕ → Type 0
IsName name = IsTrue (is_manager_name name)

-- a port up to 255, at a node's name
pub record IsPort (p : PortName) : Type 0 where
  pub named : IsTrue (is_name p.node)
  pub small : p.port ≤ 255

abbrev pub IsAsk : Ask → Type 0
IsAsk (Poll lid) = IfSome lid (λ n. n ≤ 0xFFFF)
IsAsk what = Unit {0}

abbrev pub IsWhich : Which → Type 0
IsWhich (Serial serial) = serial ≤ 2 ^ 64 - 1
IsWhich Last = Unit {0}

-- a command as lines tell it
abbrev pub IsNamed : NamedCommand → Type 0
IsNamed (command.Manager name) = ⊥
IsNamed (command.Decider name) = ⊥
IsNamed (command.Ask name what) = IsName name × IsAsk what
IsNamed (command.Timeout name) = IsName name
IsNamed (command.Floor name floor) = IsName name × (1 ≤ floor) × (floor ≤ 0xFFFFFFFF)
IsNamed (command.Merge one other) = IsName one × IsName other
IsNamed (command.Show name what) = IsName name
IsNamed (command.ShowDecider name what) = ⊥
IsNamed (command.Pause name) = IsName name
IsNamed (command.Resume name) = IsName name
IsNamed (command.Wait time most) = (time ≤ 0xFFFFFFFF) × (most ≤ 10000)
IsNamed (command.Packet which fate) = IsWhich which
IsNamed (command.Drain most) = most ≤ 1000000
IsNamed (command.Cut p) = IsPort p
IsNamed (command.Plug p q) = IsPort p × IsPort q
IsNamed (command.Ping p lid) = IsPort p × (lid ≤ 0xFFFF)
IsNamed command.Traps = Unit {0}
IsNamed command.Resend = Unit {0}
IsNamed command.Tables = Unit {0}
IsNamed command.Flight = Unit {0}

-- the number of a manner fits
abbrev IsManner : Manner → Type 0
IsManner Plain = Unit {0}
IsManner (Live key) = key ≤ 2 ^ 64 - 1
IsManner (Decides newest) = newest ≤ 0xFFFFFFFE

pub record IsNew (new : NewManager) : Type 0 where
  pub name : IsName new.name
  pub at : IsPort new.at
  pub priority : new.priority ≤ 15
  pub manner : IsManner new.manner

abbrev pub IsLine : ScheduleLine → Type 0
IsLine line.Empty = Unit {0}
IsLine (line.Manager new) = IsNew new
IsLine (line.Command named) = IsNamed named

either : {A : Type 0} (Q : A → Type 0) (b : Bool) (x y : Option A) → IfSome x Q → IfSome y Q → IfSome (cond b x y) Q
either Q true x y h g = h
either Q false x y h g = g

manager_range : (word : List ℕ) → IfSome (manager_name_in word) IsName
manager_range word = tested IsName (is_manager_name word) (Some word) (λ e. e)

number_range : (most : ℕ) (word : List ℕ) → IfSome (number_up_to most word) (λ n. n ≤ most)
number_range most word =
    then_some (λ _. Unit {0}) (λ n. n ≤ most) (number_of 10 word) _ (always _) (λ n _. tested (λ n. n ≤ most) (leb n most) (Some n) (λ e. leb-true n most e))

unless_none : (Q : ℕ → Type 0) (b : Bool) (n : ℕ) → (b ≡ false → Q n) → IfSome (cond b None (Some n)) Q
unless_none Q true n h = tt
unless_none Q false n h = h refl

from_one : (n : ℕ) → (n == 0) ≡ false → 1 ≤ n
from_one zero e = cc
from_one (suc n) e = omega arith

generation_range : (word : List ℕ) → IfSome (generation_of word) (λ n. (1 ≤ n) × (n ≤ 0xFFFFFFFF))
generation_range word =
    then_some (λ n. n ≤ 0xFFFFFFFF) (λ n. (1 ≤ n) × (n ≤ 0xFFFFFFFF)) (number_up_to 0xFFFFFFFF word) _ (number_range 0xFFFFFFFF word)
    (λ n h. unless_none (λ n. (1 ≤ n) × (n ≤ 0xFFFFFFFF)) (n == 0) n (λ e. (from_one n e, h)))

which_range : (word : List ℕ) → IfSome (which_of word) IsWhich
which_range word =
    either IsWhich (bytes_eq word (codes "last")) (Some Last) _ tt
    (mapped (λ n. n ≤ 2 ^ 64 - 1) IsWhich (number_up_to (2 ^ 64 - 1) word) Serial (number_range (2 ^ 64 - 1) word) (λ n h. h))

bracketed_range : (word : List ℕ) → IfSome (bracketed_number word) (λ n. n ≤ 255)
bracketed_range word =
    then_some (λ _. Unit {0}) (λ n. n ≤ 255) (option_and_then alone (enclosed 91 93 word)) (number_up_to 255) (always _) (λ x _. number_range 255 x)

port_range : (word : List ℕ) → IfSome (port_name word) IsPort
port_range word =
    then_some (λ _. Unit {0}) IsPort (enclosed 34 34 word) _ (always _) (λ x _.
    then_some (λ n. IsTrue (is_name n)) IsPort (name_in x.0) _ (name_range x.0) (λ n h.
    mapped (λ p. p ≤ 255) IsPort (bracketed_number x.1) _ (bracketed_range x.1) (λ p small. record { named = h; small = small })))

bare_range : (word : List ℕ) → IfSome (bare_of word) IsNamed
bare_range word =
    either IsNamed (bytes_eq word (codes "tables")) _ _ tt
    (either IsNamed (bytes_eq word (codes "flight")) _ _ tt
    (either IsNamed (bytes_eq word (codes "traps")) _ _ tt (either IsNamed (bytes_eq word (codes "resend")) _ None tt tt)))

ask_range : (what : Ask) (name : List ℕ) → IsAsk what → IfSome (ask what name) IsNamed
ask_range what name h = mapped IsName IsNamed (manager_name_in name) _ (manager_range name) (λ n is. (is, h))

show_range : (what : Shown) (name : List ℕ) → IfSome (show what name) IsNamed
show_range what name = mapped IsName IsNamed (manager_name_in name) _ (manager_range name) (λ n is. is)

packet_range : (fate : Fate) (word : List ℕ) → IfSome (packet fate word) IsNamed
packet_range fate word = mapped IsWhich IsNamed (which_of word) _ (which_range word) (λ w is. is)

asked_range : (word : List ℕ) → IfSome (asked_by word) IsAsk
asked_range word =
    either IsAsk (bytes_eq word (codes "sweep")) _ _ tt
    (either IsAsk (bytes_eq word (codes "write")) _ _ tt
    (either IsAsk (bytes_eq word (codes "handover")) _ _ tt
    (either IsAsk (bytes_eq word (codes "yield")) _ _ tt
    (either IsAsk (bytes_eq word (codes "rediscover")) _ _ tt (either IsAsk (bytes_eq word (codes "poll")) _ None tt tt)))))

by_asked : (name : List ℕ) (asked : Option Ask) (other : Option NamedCommand) → IfSome asked IsAsk → IfSome other IsNamed
    → IfSome (option_map_or (λ what. ask what name) asked other) IsNamed
by_asked name None other h k = k
by_asked name (Some what) other h k = ask_range what name h

of_manager_range : (word name : List ℕ) → IfSome (of_manager word name) IsNamed
of_manager_range word name =
    either IsNamed (bytes_eq word (codes "timeout")) _ _ (mapped IsName IsNamed (manager_name_in name) _ (manager_range name) (λ n is. is))
    (either IsNamed (bytes_eq word (codes "pause")) _ _ (mapped IsName IsNamed (manager_name_in name) _ (manager_range name) (λ n is. is))
    (either IsNamed (bytes_eq word (codes "resume")) _ _ (mapped IsName IsNamed (manager_name_in name) _ (manager_range name) (λ n is. is))
    (then_some (λ _. Unit {0}) IsNamed (shown_by word) _ (always _) (λ what _. show_range what name))))

to_manager_range : (word name : List ℕ) → IfSome (to_manager word name) IsNamed
to_manager_range word name = by_asked name (asked_by word) _ (asked_range word) (of_manager_range word name)

one_range : (word arg : List ℕ) → IfSome (of_one word arg) IsNamed
one_range word arg =
    either IsNamed (bytes_eq word (codes "deliver")) _ _ (packet_range Deliver arg)
    (either IsNamed (bytes_eq word (codes "lose")) _ _ (packet_range Lose arg)
    (either IsNamed (bytes_eq word (codes "repeat")) _ _ (packet_range Repeat arg)
    (either IsNamed (bytes_eq word (codes "drain")) _ _ (mapped (λ n. n ≤ 1000000) IsNamed (number_up_to 1000000 arg) _ (number_range 1000000 arg) (λ n h. h))
    (either IsNamed (bytes_eq word (codes "cut")) _ _ (mapped IsPort IsNamed (port_name arg) _ (port_range arg) (λ p h. h))
    (to_manager_range word arg)))))

merge_range : (one other : List ℕ) → IfSome (merge one other) IsNamed
merge_range one other =
    then_some IsName IsNamed (manager_name_in one) _ (manager_range one) (λ m h.
    mapped IsName IsNamed (manager_name_in other) _ (manager_range other) (λ n g. (h, g)))

poll_range : (name lid : List ℕ) → IfSome (poll name lid) IsNamed
poll_range name lid =
    then_some IsName IsNamed (manager_name_in name) _ (manager_range name) (λ m h.
    mapped (λ n. n ≤ 0xFFFF) IsNamed (number_up_to 0xFFFF lid) _ (number_range 0xFFFF lid) (λ n g. (h, g)))

floor_range : (name generation : List ℕ) → IfSome (floor name generation) IsNamed
floor_range name generation =
    then_some IsName IsNamed (manager_name_in name) _ (manager_range name) (λ m h.
    mapped (λ n. (1 ≤ n) × (n ≤ 0xFFFFFFFF)) IsNamed (generation_of generation) _ (generation_range generation) (λ n g. (h, g.0, g.1)))

plug_range : (one other : List ℕ) → IfSome (plug one other) IsNamed
plug_range one other =
    then_some IsPort IsNamed (port_name one) _ (port_range one) (λ p h.
    mapped IsPort IsNamed (port_name other) _ (port_range other) (λ q g. (h, g)))

ping_range : (port lid : List ℕ) → IfSome (ping port lid) IsNamed
ping_range port lid =
    then_some IsPort IsNamed (port_name port) _ (port_range port) (λ p h.
    mapped (λ n. n ≤ 0xFFFF) IsNamed (number_up_to 0xFFFF lid) _ (number_range 0xFFFF lid) (λ n g. (h, g)))

wait_range : (time most : List ℕ) → IfSome (wait time most) IsNamed
wait_range time most =
    then_some (λ n. n ≤ 0xFFFFFFFF) IsNamed (number_up_to 0xFFFFFFFF time) _ (number_range 0xFFFFFFFF time) (λ t h.
    mapped (λ n. n ≤ 10000) IsNamed (number_up_to 10000 most) _ (number_range 10000 most) (λ n g. (h, g)))

two_range : (word one other : List ℕ) → IfSome (of_two word one other) IsNamed
two_range word one other =
    either IsNamed (bytes_eq word (codes "merge")) _ _ (merge_range one other)
    (either IsNamed (bytes_eq word (codes "poll")) _ _ (poll_range one other)
    (either IsNamed (bytes_eq word (codes "floor")) _ _ (floor_range one other)
    (either IsNamed (bytes_eq word (codes "plug")) _ _ (plug_range one other)
    (either IsNamed (bytes_eq word (codes "ping")) _ _ (ping_range one other)
    (either IsNamed (bytes_eq word (codes "wait")) _ None (wait_range one other) tt)))))

command_range : (word : List ℕ) (args : List (List ℕ)) → IfSome (command_in word args) IsNamed
command_range word [] = bare_range word
command_range word (arg ∷ []) = one_range word arg
command_range word (one ∷ other ∷ []) = two_range word one other
command_range word (one ∷ other ∷ more ∷ rest) = tt

manner_of_range : (word number : List ℕ) → IfSome (manner_of word number) IsManner
manner_of_range word number =
    either IsManner (bytes_eq word (codes "live")) _ _
    (mapped (λ n. n ≤ 2 ^ 64 - 1) IsManner (number_up_to (2 ^ 64 - 1) number) Live (number_range (2 ^ 64 - 1) number) (λ n few. few))
    (either IsManner (bytes_eq word (codes "decides")) _ None
    (mapped (λ n. n ≤ 0xFFFFFFFE) IsManner (number_up_to 0xFFFFFFFE number) Decides (number_range 0xFFFFFFFE number) (λ n few. few)) tt)

manner_range : (args : List (List ℕ)) → IfSome (manner_in args) IsManner
manner_range [] = tt
manner_range (word ∷ []) = tt
manner_range (word ∷ number ∷ []) = manner_of_range word number
manner_range (word ∷ number ∷ more ∷ rest) = tt

new_range : (args : List (List ℕ)) → IfSome (new_manager args) IsNew
new_range [] = tt
new_range (name ∷ []) = tt
new_range (name ∷ at ∷ []) = tt
new_range (name ∷ at ∷ priority ∷ more) =
    then_some IsName IsNew (manager_name_in name) _ (manager_range name) (λ n h.
    then_some IsPort IsNew (port_name at) _ (port_range at) (λ p there.
    then_some (λ q. q ≤ 15) IsNew (number_up_to 15 priority) _ (number_range 15 priority) (λ q few.
    mapped IsManner IsNew (manner_in more) _ (manner_range more) (λ k fits. record { name = h; at = there; priority = few; manner = fits }))))

words_range : (words : List (List ℕ)) → IfSome (line_in words) IsLine
words_range [] = tt
words_range (word ∷ args) =
    either IsLine (bytes_eq word (codes "manager")) _ _ (mapped IsNew IsLine (new_manager args) _ (new_range args) (λ n h. h))
    (mapped IsNamed IsLine (command_in word args) line.Command (command_range word args) (λ c h. h))

pub line_range : (text : List ℕ) → IfSome (line_of text) IsLine
unfolding line_of
line_range text = words_range (words text)

-- words --------------------------------------------------------------------------------------

-- a word of the grammar
keyword : (word : List ℕ) → 0 < length word → list_all is_bare word ≡ true → list_all is_plain word ≡ true → IsWord word
keyword word some bare plain = record { some = some; on = bare_on word bare; plain = plain }

letters_pass : (p : ℕ → Bool) → ((b : ℕ) → 48 ≤ b → b ≤ 122 → p b ≡ true) → (name : List ℕ) → list_all is_ascii_alphanumeric name ≡ true
    → list_all p name ≡ true
letters_pass p passes [] e = refl
letters_pass p passes (b ∷ name) e =
    let q = both _ _ e in
    let r = letter_range b q.0 in
    rw (passes b r.0 r.1, letters_pass p passes name q.1) refl

letter_bare : (b : ℕ) → 48 ≤ b → b ≤ 122 → is_bare b ≡ true
letter_bare b low high =
    rw (differs b 34 (λ e. omega arith), differs b 35 (λ e. omega arith), differs b 32 (λ e. omega arith), differs b 9 (λ e. omega arith)) refl

letter_plain : (b : ℕ) → 48 ≤ b → b ≤ 122 → is_plain b ≡ true
letter_plain b low high = rw (differs b 10 (λ e. omega arith), differs b 13 (λ e. omega arith)) refl

manager_word : (name : List ℕ) → IsName name → IsWord name
manager_word name e =
    let p = both _ _ e in
    let some : 1 ≤ length name = leb-true _ _ (both _ _ p.0).0 in
    keyword name (omega arith) (letters_pass is_bare letter_bare name p.1) (letters_pass is_plain letter_plain name p.1)

port_is_word : (p : PortName) → IsPort p → IsWord (port_word p)
port_is_word p is = let small = is.small in named_word p.node p.port is.named (omega arith)

which_is_word : (which : Which) → IsWhich which → IsWord (which_word which)
which_is_word Last is = keyword (codes "last") (omega arith) refl refl
which_is_word (Serial serial) is = decimal_word serial (omega arith)

fate_is_word : (fate : Fate) → IsWord (fate_word fate)
fate_is_word Deliver = keyword (codes "deliver") (omega arith) refl refl
fate_is_word Lose = keyword (codes "lose") (omega arith) refl refl
fate_is_word Repeat = keyword (codes "repeat") (omega arith) refl refl

shown_is_word : (what : Shown) → IsWord (shown_word what)
shown_is_word Facts = keyword (codes "facts") (omega arith) refl refl
shown_is_word Plan = keyword (codes "plan") (omega arith) refl refl
shown_is_word Progress = keyword (codes "progress") (omega arith) refl refl
shown_is_word Silent = keyword (codes "silent") (omega arith) refl refl
shown_is_word Written = keyword (codes "written") (omega arith) refl refl
shown_is_word State = keyword (codes "state") (omega arith) refl refl

pub named_are_words : (named : NamedCommand) → IsNamed named → AllByRecursion IsWord (named_words named)
named_are_words (command.Manager name) is = absurd is
named_are_words (command.Decider name) is = absurd is
named_are_words (command.Ask name Sweep) is = (keyword (codes "sweep") (omega arith) refl refl, (manager_word name is.0, tt))
named_are_words (command.Ask name Write) is = (keyword (codes "write") (omega arith) refl refl, (manager_word name is.0, tt))
named_are_words (command.Ask name Handover) is = (keyword (codes "handover") (omega arith) refl refl, (manager_word name is.0, tt))
named_are_words (command.Ask name Yield) is = (keyword (codes "yield") (omega arith) refl refl, (manager_word name is.0, tt))
named_are_words (command.Ask name Rediscover) is = (keyword (codes "rediscover") (omega arith) refl refl, (manager_word name is.0, tt))
named_are_words (command.Ask name (Poll None)) is = (keyword (codes "poll") (omega arith) refl refl, (manager_word name is.0, tt))
named_are_words (command.Ask name (Poll (Some lid))) is =
    let h = is.1 in (keyword (codes "poll") (omega arith) refl refl, (manager_word name is.0, (decimal_word lid (omega arith), tt)))
named_are_words (command.Timeout name) is = (keyword (codes "timeout") (omega arith) refl refl, (manager_word name is, tt))
named_are_words (command.Floor name floor) is =
    let h = is.2 in (keyword (codes "floor") (omega arith) refl refl, (manager_word name is.0, (decimal_word floor (omega arith), tt)))
named_are_words (command.Merge one other) is = (keyword (codes "merge") (omega arith) refl refl, (manager_word one is.0, (manager_word other is.1, tt)))
named_are_words (command.Show name what) is = (shown_is_word what, (manager_word name is, tt))
named_are_words (command.ShowDecider name what) is = absurd is
named_are_words (command.Pause name) is = (keyword (codes "pause") (omega arith) refl refl, (manager_word name is, tt))
named_are_words (command.Resume name) is = (keyword (codes "resume") (omega arith) refl refl, (manager_word name is, tt))
named_are_words (command.Wait time most) is =
    let h = is.0 in
    let k = is.1 in
    (keyword (codes "wait") (omega arith) refl refl, (decimal_word time (omega arith), (decimal_word most (omega arith), tt)))
named_are_words (command.Packet which fate) is = (fate_is_word fate, (which_is_word which is, tt))
named_are_words (command.Drain most) is = (keyword (codes "drain") (omega arith) refl refl, (decimal_word most (omega arith), tt))
named_are_words (command.Cut p) is = (keyword (codes "cut") (omega arith) refl refl, (port_is_word p is, tt))
named_are_words (command.Plug p q) is = (keyword (codes "plug") (omega arith) refl refl, (port_is_word p is.0, (port_is_word q is.1, tt)))
named_are_words (command.Ping p lid) is =
    let h = is.1 in (keyword (codes "ping") (omega arith) refl refl, (port_is_word p is.0, (decimal_word lid (omega arith), tt)))
named_are_words command.Traps is = (keyword (codes "traps") (omega arith) refl refl, tt)
named_are_words command.Resend is = (keyword (codes "resend") (omega arith) refl refl, tt)
named_are_words command.Tables is = (keyword (codes "tables") (omega arith) refl refl, tt)
named_are_words command.Flight is = (keyword (codes "flight") (omega arith) refl refl, tt)

-- reading ------------------------------------------------------------------------------------

manager_read : (name : List ℕ) → IsName name → manager_name_in name ≡ Some name
manager_read name e = let is : is_manager_name name ≡ true = e in rw is refl

number_read : (most n : ℕ) → n < 2 ^ 64 → n ≤ most → number_up_to most (decimal n) ≡ Some n
number_read most n fits h = rw (decimal_is_read n fits, is_within n most h) refl

not_last : (serial : ℕ) → serial < 2 ^ 64 → bytes_eq (decimal serial) (codes "last") ≡ false
not_last serial fits =
    elim (bytes_eq (decimal serial) (codes "last")) as (λ t. bytes_eq (decimal serial) (codes "last") ≡ t → bytes_eq (decimal serial) (codes "last") ≡ false) [
      | true ↦ λ e.
          let none : number_of 10 (decimal serial) ≡ None = ap (number_of 10) (same_bytes (decimal serial) (codes "last") e) in
          let read = decimal_is_read serial fits in
          absurd (cc)
      | false ↦ λ e. e
    ] refl

name_inside : (name : List ℕ) → list_all is_name_byte name ≡ true → list_all (λ b. not (b == 34)) name ≡ true
name_inside [] e = refl
name_inside (b ∷ name) e =
    let p = both _ _ e in
    let here : not (b == 34) ≡ true = (both _ _ p.0).1 in
    rw (here, name_inside name p.1) refl

digit_inside : (b : ℕ) → digit_value b < 36 → not (b == 93) ≡ true
digit_inside b h = rw (digit_apart b 93 refl h) refl

name_read : (name : List ℕ) → IsTrue (is_name name) → name_in name ≡ Some name
name_read name e = let is : is_name name ≡ true = e in rw is refl

name_bytes : (name : List ℕ) → IsTrue (is_name name) → list_all is_name_byte name ≡ true
name_bytes name e = (both _ _ e).1

port_read : (p : PortName) → IsPort p → port_name (port_word p) ≡ Some p
port_read p is =
    let small = is.small in
    let digits = decimal_digits p.port (omega arith) in
    let bytes : list_all is_name_byte p.node ≡ true = name_bytes p.node is.named in
    rw (
      until_then 34 p.node (bracketed_text p.port) (name_inside p.node bytes),
      name_read p.node is.named,
      until_then 93 (decimal p.port) [] (digits_all 10 (λ b. not (b == 93)) (decimal p.port) (omega arith) digit_inside digits),
      number_read 255 p.port (omega arith) small,
    ) refl

not_0 : (n : ℕ) → 1 ≤ n → (n == 0) ≡ false
not_0 n h = differs n 0 (λ e. omega arith)

named_in : (named : NamedCommand) → IsNamed named → line_in (named_words named) ≡ Some (line.Command named)
named_in (command.Manager name) is = absurd is
named_in (command.Decider name) is = absurd is
named_in (command.Ask name Sweep) is = rw (manager_read name is.0) refl
named_in (command.Ask name Write) is = rw (manager_read name is.0) refl
named_in (command.Ask name Handover) is = rw (manager_read name is.0) refl
named_in (command.Ask name Yield) is = rw (manager_read name is.0) refl
named_in (command.Ask name Rediscover) is = rw (manager_read name is.0) refl
named_in (command.Ask name (Poll None)) is = rw (manager_read name is.0) refl
named_in (command.Ask name (Poll (Some lid))) is =
    let h = is.1 in rw (manager_read name is.0, number_read 0xFFFF lid (omega arith) h) refl
named_in (command.Timeout name) is = rw (manager_read name is) refl
named_in (command.Floor name floor) is =
    let h = is.2 in rw (manager_read name is.0, number_read 0xFFFFFFFF floor (omega arith) h, not_0 floor is.1) refl
named_in (command.Merge one other) is = rw (manager_read one is.0, manager_read other is.1) refl
named_in (command.Show name Facts) is = rw (manager_read name is) refl
named_in (command.Show name Plan) is = rw (manager_read name is) refl
named_in (command.Show name Progress) is = rw (manager_read name is) refl
named_in (command.Show name Silent) is = rw (manager_read name is) refl
named_in (command.Show name Written) is = rw (manager_read name is) refl
named_in (command.Show name State) is = rw (manager_read name is) refl
named_in (command.ShowDecider name what) is = absurd is
named_in (command.Pause name) is = rw (manager_read name is) refl
named_in (command.Resume name) is = rw (manager_read name is) refl
named_in (command.Wait time most) is =
    let h = is.0 in
    let k = is.1 in
    rw (number_read 0xFFFFFFFF time (omega arith) h, number_read 10000 most (omega arith) k) refl
named_in (command.Packet Last Deliver) is = refl
named_in (command.Packet Last Lose) is = refl
named_in (command.Packet Last Repeat) is = refl
named_in (command.Packet (Serial n) Deliver) is = rw (not_last n (omega arith), number_read (2 ^ 64 - 1) n (omega arith) is) refl
named_in (command.Packet (Serial n) Lose) is = rw (not_last n (omega arith), number_read (2 ^ 64 - 1) n (omega arith) is) refl
named_in (command.Packet (Serial n) Repeat) is = rw (not_last n (omega arith), number_read (2 ^ 64 - 1) n (omega arith) is) refl
named_in (command.Drain most) is = rw (number_read 1000000 most (omega arith) is) refl
named_in (command.Cut p) is = rw (port_read p is) refl
named_in (command.Plug p q) is = rw (port_read p is.0, port_read q is.1) refl
named_in (command.Ping p lid) is = let h = is.1 in rw (port_read p is.0, number_read 0xFFFF lid (omega arith) h) refl
named_in command.Traps is = refl
named_in command.Resend is = refl
named_in command.Tables is = refl
named_in command.Flight is = refl

pub named_is_read : (named : NamedCommand) → IsNamed named → line_of (line_text (named_words named)) ≡ Some (line.Command named)
unfolding line_of
named_is_read named is = ap line_in (words_are_read (named_words named) (named_are_words named is)) ∙ named_in named is

-- a new manager's line
abbrev pub new_words : NewManager → List (List ℕ)
new_words new = codes "manager" ∷ new.name ∷ port_word new.at ∷ decimal new.priority ∷ manner_words new.manner

manner_are_words : (manner : Manner) → IsManner manner → AllByRecursion IsWord (manner_words manner)
manner_are_words Plain is = tt
manner_are_words (Live key) is = (keyword (codes "live") (omega arith) refl refl, (decimal_word key (omega (arith, is)), tt))
manner_are_words (Decides newest) is = (keyword (codes "decides") (omega arith) refl refl, (decimal_word newest (omega (arith, is)), tt))

manner_is_read : (manner : Manner) → IsManner manner → manner_in (manner_words manner) ≡ Some manner
manner_is_read Plain is = refl
manner_is_read (Live key) is = rw (number_read (2 ^ 64 - 1) key (omega arith) is) refl
manner_is_read (Decides newest) is = rw (number_read 0xFFFFFFFE newest (omega arith) is) refl

pub new_are_words : (new : NewManager) → IsNew new → AllByRecursion IsWord (new_words new)
new_are_words new is =
    let few = is.priority in
    let first = keyword (codes "manager") (omega arith) refl refl in
    (first, (manager_word new.name is.name, (port_is_word new.at is.at, (decimal_word new.priority (omega arith), manner_are_words new.manner is.manner))))

pub new_is_read : (new : NewManager) → IsNew new → line_of (line_text (new_words new)) ≡ Some (line.Manager new)
unfolding line_of
new_is_read new is =
    let few = is.priority in
    ap line_in (words_are_read (new_words new) (new_are_words new is))
    ∙ rw (manager_read new.name is.name, port_read new.at is.at, number_read 15 new.priority (omega arith) few, manner_is_read new.manner is.manner) refl
