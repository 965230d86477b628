-- What lines say is in its range.
use Rattle.std.proofs.Common.{◌≡◌, ℕ, zero, suc, ◌≤◌, ◌-◌, ◌^◌, ◌/◌, ◌%◌, Bool, true, false, cond, leb, List, [], ◌∷◌, length, refl, arith}
use Rattle.std.proofs.lemmas.Bool.{cond_both, leb-true}
use Rattle.std.specs.Prelude.{◌==◌, ◌&&◌, IfSome, Option, Some, None, Result, Ok, Err, codes, nat_lt, option_map}
use Rattle.std.specs.Option.{option_map_or}
use Rattle.std.specs.Str.{bytes_eq}
use Rattle.std.specs.Result.{result_ok}
use Rattle.hex.specs.Hex.{decode_pairs}
use Rattle.hex.specs.declared.error.FromHexError.{FromHexError}
use Rattle.hex.specs.declared.error.FromHexError.TheVariants.{OddLength, InvalidStringLength}
use Rattle.hex.proofs.HexLemmas.{decode_pairs-ok}
use Rattle.text_words.specs.Numbers.{number_of, lid_of, number_up_to}
use Rattle.text_words.specs.Text.{words}
use Rattle.text_words.proofs.Ranges.{always, mapped, tested, then_some}
use Rattle.schedule_file.specs.ManagerWords.{asked_by, generation_of, shown_by}
use Rattle.schedule_file.specs.declared.command.Ask.TheVariants.{Poll}
use Rattle.serve_lines.specs.declared.serve_line.ServeLine.{ServeLine}
use Rattle.serve_lines.specs.declared.serve_line.ServeLine.TheVariants.{Ask, Floor, Packet, Timeout, GiveUp, Managers, Wrong}
use Rattle.serve_lines.specs.declared.manage_line.ManageLine.TheVariants.{Told, Wrong as WrongTold}
use Rattle.serve_lines.specs.declared.manage_line.ManageWord.TheVariants.{Packet as PacketSaid, Sa as SaSaid, Look, Light, LightAnswer, Leave, Managers as ManagersSaid}
use Rattle.serve_lines.specs.ServeLine.{bare_of, line_in, line_of, most_bytes, of_one, packet_behind, packet_in, packet_of, show_of, transaction_of}
use Rattle.serve_lines.specs.ManageLine.{behind_time, light_of, line_in as told_in, manage_line_of, time_of, word_of}
use Rattle.serve_lines.specs.Read.{IsPacket, IsRead, IsSaid, IsTold, ReadLinesAreInRange, ToldLinesAreInRange}

either : {A : Type 0} (Q : A → Type 0) (b : Bool) (x y : Option A) → IfSome x Q → IfSome y Q → IfSome (cond b x y) Q
either Q true x y h g = h
either Q false x y h g = g

-- numbers ------------------------------------------------------------------------------------------------

number_range : (most : ℕ) (word : List ℕ) → IfSome (number_up_to most word) (λ n. n ≤ most)
number_range most word =
    then_some (λ _. Unit {0}) (λ n. n ≤ most) (number_of 10 word) _ (always _) (λ n _. tested (λ n. n ≤ most) (leb n most) (Some n) (λ e. leb-true n most e))

unless_none : (Q : ℕ → Type 0) (b : Bool) (n : ℕ) → (b ≡ false → Q n) → IfSome (cond b None (Some n)) Q
unless_none Q true n h = tt
unless_none Q false n h = h refl

from_one : (n : ℕ) → (n == 0) ≡ false → 1 ≤ n
from_one zero e = cc
from_one (suc n) e = omega arith

pub generation_range : (word : List ℕ) → IfSome (generation_of word) (λ n. (1 ≤ n) × (n ≤ 0xFFFFFFFF))
generation_range word =
    then_some (λ n. n ≤ 0xFFFFFFFF) (λ n. (1 ≤ n) × (n ≤ 0xFFFFFFFF)) (number_up_to 0xFFFFFFFF word) _ (number_range 0xFFFFFFFF word)
    (λ n h. unless_none (λ n. (1 ≤ n) × (n ≤ 0xFFFFFFFF)) (n == 0) n (λ e. (from_one n e, h)))

-- packets ------------------------------------------------------------------------------------------------

abbrev IsLong : List ℕ → Type 0
IsLong bytes = length bytes ≡ 256

pairs_long : (word : List ℕ) (r : Result (List ℕ) FromHexError) → decode_pairs 0 word ≡ r → length word / 2 ≡ 256 → IfSome (result_ok r) IsLong
pairs_long word (Err why) e half = tt
pairs_long word (Ok bytes) e half = let twice = (decode_pairs-ok 0 word bytes e).1 in omega (arith, half, twice)

packet_long : (word : List ℕ) → IfSome (packet_of word) IsLong
packet_long word =
    cond_both (length word % 2 == 1) (Err OddLength)
    (cond (length word / 2 == 256) (decode_pairs 0 word) (Err InvalidStringLength)) (λ r. IfSome (result_ok r) IsLong) (λ _. tt)
    (λ _. cond_both (length word / 2 == 256) (decode_pairs 0 word) (Err InvalidStringLength) (λ r. IfSome (result_ok r) IsLong)
    (λ same. pairs_long word (decode_pairs 0 word) refl (grind (arith, same))) (λ _. tt))

IsFrom : List ℕ × ℕ → Type 0
IsFrom packet = IsPacket packet.0 packet.1

packet_range : (word hex between lid : List ℕ) → IfSome (packet_in word hex between lid) IsFrom
unfolding IsFrom
packet_range word hex between lid =
    tested IsFrom (bytes_eq word (codes "packet") && bytes_eq between (codes "from")) _ (λ _.
    then_some IsLong IsFrom (packet_of hex) _ (packet_long hex) (λ bytes long.
    mapped (λ n. n ≤ 0xFFFF) IsFrom (lid_of lid) (λ from. (bytes, from)) (number_range 0xFFFF lid) (λ from h. (long, h))))

-- what packets are in range makes lines in range
behind_range : {A : Type 0} (Q : A → Type 0) (f : List ℕ × ℕ → A) → ((packet : List ℕ × ℕ) → IsPacket packet.0 packet.1 → Q (f packet))
    → (word hex between : List ℕ) (rest : List (List ℕ)) → IfSome (option_map f (packet_behind word hex between rest)) Q
unfolding IsFrom
behind_range Q f h word hex between [] = tt
behind_range Q f h word hex between (lid ∷ []) = mapped IsFrom Q (packet_in word hex between lid) f (packet_range word hex between lid) h
behind_range Q f h word hex between (lid ∷ more ∷ rest) = tt

-- lines --------------------------------------------------------------------------------------------------

by_asked : {A : Type 0} (asked : Option A) (said : A → ServeLine) (other : Option ServeLine) → ((what : A) → IsRead (said what)) → IfSome other IsRead
    → IfSome (option_map_or (λ what. Some (said what)) asked other) IsRead
by_asked None said other h k = k
by_asked (Some what) said other h k = h what

bare_range : (word : List ℕ) → IfSome (bare_of word) IsRead
bare_range word =
    by_asked (asked_by word) Ask _ (λ what. tt)
    (either IsRead (bytes_eq word (codes "timeout")) (Some GiveUp) _ tt
    (either IsRead (bytes_eq word (codes "managers")) (Some Managers) (show_of word) tt
    (mapped (λ _. Unit {0}) IsRead (shown_by word) _ (always _) (λ what _. tt))))

one_range : (word arg : List ℕ) → IfSome (of_one word arg) IsRead
one_range word arg =
    either IsRead (bytes_eq word (codes "poll")) _ _ (mapped (λ _. Unit {0}) IsRead (lid_of arg) (λ lid. Ask (Poll (Some lid))) (always _) (λ lid _. tt))
    (either IsRead (bytes_eq word (codes "floor")) _ _
    (mapped (λ n. (1 ≤ n) × (n ≤ 0xFFFFFFFF)) IsRead (generation_of arg) Floor (generation_range arg) (λ n h. h))
    (either IsRead (bytes_eq word (codes "timeout")) _ None (mapped (λ _. Unit {0}) IsRead (transaction_of arg) Timeout (always _) (λ n _. tt)) tt))

words_range : (words : List (List ℕ)) → IfSome (line_in words) IsRead
words_range [] = tt
words_range (word ∷ []) = bare_range word
words_range (word ∷ arg ∷ []) = one_range word arg
words_range (word ∷ hex ∷ between ∷ rest) = behind_range IsRead (λ packet. Packet packet.0 packet.1) (λ packet h. h) word hex between rest

or_else : {A : Type 0} (Q : A → Type 0) (o : Option A) (other : A) → IfSome o Q → Q other → Q (option_map_or (λ said. said) o other)
or_else Q None other h k = k
or_else Q (Some said) other h k = h

pub read_lines_are_in_range : ReadLinesAreInRange
unfolding line_of
read_lines_are_in_range line =
    cond_both (nat_lt most_bytes (length line)) Wrong (option_map_or (λ said. said) (line_in (words line)) Wrong) IsRead (λ _. tt)
    (λ _. or_else IsRead (line_in (words line)) Wrong (words_range (words line)) tt)

-- lines with the time --------------------------------------------------------------------------------------

word_range : (word : List ℕ) → IfSome (word_of word) IsSaid
word_range word =
    either IsSaid (bytes_eq word (codes "look")) (Some Look) _ tt
    (either IsSaid (bytes_eq word (codes "light")) (Some Light) _ tt
    (either IsSaid (bytes_eq word (codes "leave")) (Some Leave) _ tt
    (either IsSaid (bytes_eq word (codes "managers")) (Some ManagersSaid) _ tt
    (mapped (λ _. Unit {0}) IsSaid (shown_by word) _ (always _) (λ what _. tt)))))

light_range : (word hex : List ℕ) → IfSome (light_of word hex) IsSaid
light_range word hex =
    either IsSaid (bytes_eq word (codes "light")) _ None (mapped IsLong IsSaid (packet_of hex) LightAnswer (packet_long hex) (λ bytes long. long)) tt

said_range : (words : List (List ℕ)) → IfSome (behind_time words) IsSaid
said_range [] = tt
said_range (word ∷ []) = word_range word
said_range (word ∷ hex ∷ []) = light_range word hex
said_range (word ∷ hex ∷ between ∷ rest) =
    either IsSaid (bytes_eq word (codes "sa")) _ _
    (behind_range IsSaid (λ packet. SaSaid packet.0 packet.1) (λ packet h. h) (codes "packet") hex between rest)
    (behind_range IsSaid (λ packet. PacketSaid packet.0 packet.1) (λ packet h. h) word hex between rest)

told_range : (words : List (List ℕ)) → IfSome (told_in words) IsTold
told_range [] = tt
told_range (time ∷ rest) =
    then_some (λ n. n ≤ 2 ^ 64 - 1) IsTold (time_of time) _ (number_range (2 ^ 64 - 1) time) (λ ms h.
    mapped IsSaid IsTold (behind_time rest) (λ said. Told ms said) (said_range rest) (λ said k. (omega (arith, h), k)))

pub told_lines_are_in_range : ToldLinesAreInRange
unfolding manage_line_of
told_lines_are_in_range line =
    cond_both (nat_lt most_bytes (length line)) WrongTold (option_map_or (λ told. told) (told_in (words line)) WrongTold) IsTold (λ _. tt)
    (λ _. or_else IsTold (told_in (words line)) WrongTold (told_range (words line)) tt)
