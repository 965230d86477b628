-- Printed words and lines are read as they are.
use Rattle.std.proofs.Common.{◌≡◌, ℕ, ◌<◌, ◌≤◌, ◌^◌, Bool, true, false, ◌&&◌, not, List, [], ◌∷◌, ◌++◌, length, Some, refl, ap}
use Rattle.std.proofs.Common.{◌∙◌, arith, eq-eqb}
use Rattle.std.specs.Prelude.{◌==◌, codes, decimal, IsTrue}
use Rattle.std.specs.Char.{digit_value}
use Rattle.std.specs.List.{list_all, AllByRecursion}
use Rattle.std.specs.Str.Parse.{AllDigits}
use Rattle.std.proofs.lemmas.Bool.{leb-true}
use Rattle.smp_bytes.specs.Text.{guid_text}
use Rattle.text_words.specs.Text.{lines, words, words_in, parts, is_behind_word, is_quoted_after}
use Rattle.text_words.specs.NodeName.{is_name, is_name_byte, name_in}
use Rattle.text_words.specs.Quoted.{until, quoted_name, bracketed_port, named_port}
use Rattle.text_words.specs.Printed.{line_text, lines_text, quoted_text, bracketed_text, named_text}
use Rattle.text_words.proofs.Names.{both}
use Rattle.text_words.proofs.Splits.{differs}
use Rattle.text_words.proofs.NumbersPrinted.{decimal_digits, decimal_some, hex_digits, count_is_read}

-- the bytes go on with a word, within quotes or not, and end outside quotes
abbrev pub goes_on : Bool → List ℕ → Bool
goes_on quoted [] = not quoted
goes_on quoted (b ∷ word) = not (is_behind_word quoted b) && goes_on (is_quoted_after quoted b) word

not_is : (t : Bool) → not t ≡ true → t ≡ false
not_is true e = cc
not_is false e = refl

-- a word in front of a blank, and at the end of a line
pub word_then : (quoted : Bool) (word rest : List ℕ) → goes_on quoted word ≡ true → parts quoted (word ++ 32 ∷ rest) ≡ (word, words rest)
word_then true [] rest e = cc
word_then false [] rest e = refl
word_then quoted (b ∷ word) rest e =
    let p = both _ _ e in
    let here : is_behind_word quoted b ≡ false = not_is _ p.0 in
    rw (here, word_then (is_quoted_after quoted b) word rest p.1) refl

pub word_last : (quoted : Bool) (word : List ℕ) → goes_on quoted word ≡ true → parts quoted word ≡ (word, [])
word_last quoted [] e = refl
word_last quoted (b ∷ word) e =
    let p = both _ _ e in
    let here : is_behind_word quoted b ≡ false = not_is _ p.0 in
    rw (here, word_last (is_quoted_after quoted b) word p.1) refl

-- a word: it has a first byte, goes on, and has no end of a line
pub record IsWord (word : List ℕ) : Type 0 where
  pub some : 0 < length word
  pub on : goes_on false word ≡ true
  pub plain : list_all (λ b. not (b == 10) && not (b == 13)) word ≡ true

begun : (word : List ℕ) (later : List (List ℕ)) → 0 < length word → words_in (word, later) ≡ word ∷ later
begun [] later h = absurd (omega arith)
begun (b ∷ word) later h = refl

-- a line has its words
pub words_are_read : (line : List (List ℕ)) → AllByRecursion IsWord line → words (line_text line) ≡ line
words_are_read [] all = refl
words_are_read (word ∷ []) all = ap words_in (word_last false word all.0.on) ∙ begun word [] all.0.some
words_are_read (word ∷ next ∷ later) all =
    ap words_in (word_then false word (line_text (next ∷ later)) all.0.on) ∙ begun word (words (line_text (next ∷ later))) all.0.some
    ∙ ap (λ ws. word ∷ ws) (words_are_read (next ∷ later) all.1)

-- a text has its lines
abbrev pub is_plain : ℕ → Bool
is_plain b = not (b == 10) && not (b == 13)

pub line_then : (line rest : List ℕ) → list_all is_plain line ≡ true → lines (line ++ 10 ∷ rest) ≡ line ∷ lines rest
line_then [] rest e = refl
line_then (b ∷ line) rest e =
    let p = both _ _ e in
    let q = both _ _ p.0 in
    let feed : (b == 10) ≡ false = not_is _ q.0 in
    let return : (b == 13) ≡ false = not_is _ q.1 in
    rw (feed, return, line_then line rest p.1) refl

both_true : (s t : Bool) → s ≡ true → t ≡ true → (s && t) ≡ true
both_true true t e f = f
both_true false t e f = cc

pub all_append : (p : ℕ → Bool) (xs ys : List ℕ) → list_all p xs ≡ true → list_all p ys ≡ true → list_all p (xs ++ ys) ≡ true
all_append p [] ys e f = f
all_append p (x ∷ xs) ys e f = let h = both _ _ e in both_true (p x) _ h.0 (all_append p xs ys h.1 f)

pub line_plain : (line : List (List ℕ)) → AllByRecursion IsWord line → list_all is_plain (line_text line) ≡ true
line_plain [] all = refl
line_plain (word ∷ []) all = all.0.plain
line_plain (word ∷ next ∷ later) all = all_append is_plain word (32 ∷ line_text (next ∷ later)) all.0.plain (line_plain (next ∷ later) all.1)

-- the lines of a printed text, as they are printed
abbrev pub printed : List (List (List ℕ)) → List (List ℕ)
printed [] = []
printed (line ∷ later) = line_text line ∷ printed later

pub lines_are_read : (all : List (List (List ℕ))) → AllByRecursion (AllByRecursion IsWord) all → lines (lines_text all) ≡ printed all
lines_are_read [] h = refl
lines_are_read (line ∷ later) h =
    line_then (line_text line) (lines_text later) (line_plain line h.0) ∙ ap (λ ls. line_text line ∷ ls) (lines_are_read later h.1)

-- bytes of a word that are neither blanks nor quotes nor a comment's nor a line's end
abbrev pub is_bare : ℕ → Bool
is_bare b = not (b == 34) && not (is_behind_word false b)

pub bare_then : (word rest : List ℕ) → list_all is_bare word ≡ true → goes_on false rest ≡ true → goes_on false (word ++ rest) ≡ true
bare_then [] rest e f = f
bare_then (b ∷ word) rest e f =
    let p = both _ _ e in
    let q = both _ _ p.0 in
    let quote : (b == 34) ≡ false = not_is _ q.0 in
    let here : is_behind_word false b ≡ false = not_is _ q.1 in
    rw (quote, here) (bare_then word rest p.1 f)

-- a name within quotes
pub name_then : (name rest : List ℕ) → list_all is_name_byte name ≡ true → goes_on false rest ≡ true → goes_on true (name ++ 34 ∷ rest) ≡ true
name_then [] rest e f = f
name_then (b ∷ name) rest e f =
    let p = both _ _ e in
    let quote : (b == 34) ≡ false = not_is _ (both _ _ p.0).1 in
    rw quote (name_then name rest p.1 f)

-- digits are none of these bytes
pub digit_apart : (b c : ℕ) → digit_value c ≡ 36 → digit_value b < 36 → (b == c) ≡ false
digit_apart b c e h = differs b c (λ same. let past : digit_value b ≡ 36 = ap digit_value same ∙ e in omega arith)

pub digits_all : (base : ℕ) (p : ℕ → Bool) (word : List ℕ) → base ≤ 36 → ((b : ℕ) → digit_value b < 36 → p b ≡ true) → AllDigits base word → list_all p word
    ≡ true
digits_all base p [] few passes all = refl
digits_all base p (b ∷ word) few passes all =
    let small : digit_value b < base = all.0 in
    both_true (p b) _ (passes b (omega arith)) (digits_all base p word few passes all.1)

pub digit_bare : (b : ℕ) → digit_value b < 36 → is_bare b ≡ true
digit_bare b h = rw (digit_apart b 34 refl h, digit_apart b 35 refl h, digit_apart b 32 refl h, digit_apart b 9 refl h) refl

pub digit_plain : (b : ℕ) → digit_value b < 36 → is_plain b ≡ true
digit_plain b h = rw (digit_apart b 10 refl h, digit_apart b 13 refl h) refl

digit_inside : (b : ℕ) → digit_value b < 36 → not (b == 93) ≡ true
digit_inside b h = rw (digit_apart b 93 refl h) refl

pub bare_on : (word : List ℕ) → list_all is_bare word ≡ true → goes_on false word ≡ true
bare_on [] e = refl
bare_on (b ∷ word) e =
    let p = both _ _ e in
    let q = both _ _ p.0 in
    let quote : (b == 34) ≡ false = not_is _ q.0 in
    let here : is_behind_word false b ≡ false = not_is _ q.1 in
    rw (quote, here) (bare_on word p.1)

-- numbers are words
pub decimal_word : (n : ℕ) → n < 2 ^ 64 → IsWord (decimal n)
decimal_word n h =
    let digits = decimal_digits n h in
    record {
      some = decimal_some n h;
      on = bare_on (decimal n) (digits_all 10 is_bare (decimal n) (omega arith) digit_bare digits);
      plain = digits_all 10 is_plain (decimal n) (omega arith) digit_plain digits;
    }

pub guid_word : (n : ℕ) → IsWord (codes "0x" ++ guid_text n)
guid_word n =
    let digits = hex_digits 16 n in
    record {
      some = omega arith;
      on = bare_on (codes "0x" ++ guid_text n) (digits_all 16 is_bare (guid_text n) (omega arith) digit_bare digits);
      plain = digits_all 16 is_plain (guid_text n) (omega arith) digit_plain digits;
    }

-- what the bytes of names are not
name_plain : (name : List ℕ) → list_all is_name_byte name ≡ true → list_all is_plain name ≡ true
name_plain [] e = refl
name_plain (b ∷ name) e =
    let p = both _ _ e in
    let low : 0x20 ≤ b = leb-true _ _ (both _ _ (both _ _ p.0).0).0 in
    let feed : (b == 10) ≡ false = differs b 10 (λ same. omega arith) in
    let return : (b == 13) ≡ false = differs b 13 (λ same. omega arith) in
    rw (feed, return) (name_plain name p.1)

name_inside : (name : List ℕ) → list_all is_name_byte name ≡ true → list_all (λ b. not (b == 34)) name ≡ true
name_inside [] e = refl
name_inside (b ∷ name) e = let p = both _ _ e in both_true (not (b == 34)) _ (both _ _ p.0).1 (name_inside name p.1)

name_bytes : (name : List ℕ) → IsTrue (is_name name) → list_all is_name_byte name ≡ true
name_bytes name e = (both _ _ e).1

-- names and ports are words
pub quoted_word : (name : List ℕ) → IsTrue (is_name name) → IsWord (quoted_text name)
quoted_word name e =
    let bytes = name_bytes name e in
    record {
      some = omega arith;
      on = name_then name [] bytes refl;
      plain = all_append is_plain name (34 ∷ []) (name_plain name bytes) refl;
    }

bracketed_on : (port : ℕ) → port < 2 ^ 64 → goes_on false (bracketed_text port) ≡ true
bracketed_on port h = bare_then (decimal port) (93 ∷ []) (digits_all 10 is_bare (decimal port) (omega arith) digit_bare (decimal_digits port h)) refl

bracketed_plain : (port : ℕ) → port < 2 ^ 64 → list_all is_plain (bracketed_text port) ≡ true
bracketed_plain port h =
    all_append is_plain (decimal port) (93 ∷ [])
    (digits_all 10 is_plain (decimal port) (omega arith) digit_plain (decimal_digits port h)) refl

pub bracketed_word : (port : ℕ) → port < 2 ^ 64 → IsWord (bracketed_text port)
bracketed_word port h = record { some = omega arith; on = bracketed_on port h; plain = bracketed_plain port h }

pub named_word : (name : List ℕ) (port : ℕ) → IsTrue (is_name name) → port < 2 ^ 64 → IsWord (named_text name port)
named_word name port e h =
    let bytes = name_bytes name e in
    record {
      some = omega arith;
      on = name_then name (bracketed_text port) bytes (bracketed_on port h);
      plain = all_append is_plain name (34 ∷ bracketed_text port) (name_plain name bytes) (bracketed_plain port h);
    }

-- what stands before the first such byte
pub until_then : (close : ℕ) (bytes rest : List ℕ) → list_all (λ b. not (b == close)) bytes ≡ true → until close (bytes ++ close ∷ rest) ≡ Some (bytes, rest)
until_then close [] rest e = let here : (close == close) ≡ true = eq-eqb close close refl in rw here refl
until_then close (b ∷ bytes) rest e =
    let p = both _ _ e in
    let here : (b == close) ≡ false = not_is _ p.0 in
    rw (here, until_then close bytes rest p.1) refl

name_read : (name : List ℕ) → IsTrue (is_name name) → name_in name ≡ Some name
name_read name e = let is : is_name name ≡ true = e in rw is refl

-- names and ports are read
pub quoted_is_read : (name : List ℕ) → IsTrue (is_name name) → quoted_name (quoted_text name) ≡ Some name
quoted_is_read name e = rw (until_then 34 name [] (name_inside name (name_bytes name e))) (name_read name e)

pub bracketed_is_read : (port : ℕ) → 1 ≤ port → port ≤ 254 → bracketed_port (bracketed_text port) ≡ Some (Some port)
bracketed_is_read port low high =
    let digits = decimal_digits port (omega arith) in
    rw (until_then 93 (decimal port) [] (digits_all 10 (λ b. not (b == 93)) (decimal port) (omega arith) digit_inside digits))
    (count_is_read 254 port (omega arith) low high)

pub named_is_read : (name : List ℕ) (port : ℕ) → IsTrue (is_name name) → 1 ≤ port → port ≤ 254 → named_port (named_text name port) ≡ Some (name, Some port)
named_is_read name port e low high =
    rw (until_then 34 name (bracketed_text port) (name_inside name (name_bytes name e)), name_read name e, bracketed_is_read port low high) refl
