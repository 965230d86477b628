-- The words of a line, one after the other.
use Rattle.std.proofs.Common.{◌≡◌, ℕ, zero, suc, ◌-◌, ◌<◌, ◌≤◌, Bool, true, false, ◌||◌, not, List, [], ◌∷◌, ◌++◌, length, get_or, take, drop, None, Some}
use Rattle.std.proofs.Common.{refl, sym, ap, ◌∙◌, subst, arith, add-zero, append_assoc, append-nil, ◌⊎◌, inl, inr}
use Rattle.std.specs.Prelude.{position, ◌==◌}
use Rattle.std.proofs.Math.Seq.{take-suc, drop-cons, drop-length}
use Rattle.std.proofs.lemmas.Bool.{eqb-true}
use Rattle.std.proofs.lemmas.List.{get_or-drop, length-drop}
use Rattle.std.proofs.lemmas.List.Quantifiers.{position-Some}
use Rattle.text_words.specs.Text.{words, words_in, parts, onto_word, is_blank, is_behind_word, is_quoted_after}
use Rattle.text_words.proofs.Splits.{none_passes, differs}

either : (s t : Bool) → (s || t) ≡ true → (s ≡ true) ⊎ (t ≡ true)
either true t e = inl refl
either false t e = inr e

-- a blank separates words
pub blank_here : (b : ℕ) (bytes : List ℕ) → is_blank b ≡ true → words (b ∷ bytes) ≡ words bytes
blank_here b bytes e =
    let Passes : ℕ → Type 0 = λ n. words (n ∷ bytes) ≡ words bytes in
    elim (either (b == 32) (b == 9) e) [ inl p ↦ subst Passes (sym (eqb-true b 32 p)) refl | inr p ↦ subst Passes (sym (eqb-true b 9 p)) refl ]

not_not : (t : Bool) → not t ≡ false → t ≡ true
not_not true e = refl
not_not false e = cc

pub blanks_passed : (line : List ℕ) (i : ℕ) → i ≤ length line → ((k : ℕ) → k < i → not (is_blank (get_or line k 0)) ≡ false) → words line ≡ words (drop i line)
blanks_passed line zero h f = refl
blanks_passed [] (suc i) h f = absurd (omega arith)
blanks_passed (b ∷ line) (suc i) h f =
    blank_here b line (not_not _ (f 0 (omega arith))) ∙ blanks_passed line i (omega arith) (λ k l. f (suc k) (omega arith))

-- the words from the first byte on that is no blank
pub words_at : (line : List ℕ) (i : ℕ) → position (λ b. not (is_blank b)) line ≡ Some i → words line ≡ words (drop i line)
words_at line i e =
    let at = position-Some (λ b. not (is_blank b)) line i 0 e in
    blanks_passed line i (omega (arith, at.0)) at.2

pub words_none : (line : List ℕ) → position (λ b. not (is_blank b)) line ≡ None → words line ≡ []
words_none line e = blanks_passed line (length line) (omega arith) (none_passes (λ b. not (is_blank b)) line e) ∙ ap words (drop-length line)

-- so many bytes of the first word were read
pub record IsBegun (line : List ℕ) (quoted : Bool) (i : ℕ) : Type 0 where
  pub word : (parts false line).0 ≡ take i line ++ (parts quoted (drop i line)).0
  pub behind : (parts false line).1 ≡ (parts quoted (drop i line)).1

pub begun : (line : List ℕ) → IsBegun line false 0
begun line = record { word = refl; behind = refl }

-- a byte more
pub begun_more : (line : List ℕ) (i : ℕ) (quoted later : Bool) → i < length line
    → parts quoted (get_or line i 0 ∷ drop (suc i) line) ≡ onto_word (get_or line i 0) (parts later (drop (suc i) line))
    → IsBegun line quoted i → IsBegun line later (suc i)
begun_more line i quoted later h step b =
    let x = get_or line i 0 in
    let rest = parts later (drop (suc i) line) in
    let at : parts quoted (drop i line) ≡ onto_word x rest = ap (parts quoted) (drop-cons line i 0 h) ∙ step in
    let longer : take i line ++ x ∷ rest.0 ≡ take (suc i) line ++ rest.0 =
    sym (ap (λ front. front ++ rest.0) (take-suc line i 0 h) ∙ append_assoc (take i line) (x ∷ []) rest.0) in
    record {
      word = b.word ∙ ap (λ p. take i line ++ p.0) at ∙ longer;
      behind = b.behind ∙ ap (λ p. p.1) at;
    }

-- a byte that is in the word
pub in_word : (line : List ℕ) (i : ℕ) (quoted : Bool) → i < length line → is_behind_word quoted (get_or line i 0) ≡ false
    → IsBegun line quoted i → IsBegun line (is_quoted_after quoted (get_or line i 0)) (suc i)
in_word line i quoted h e b = begun_more line i quoted _ h (rw e refl) b

-- no more words are in what ends at once
all_behind : (p : List ℕ × List (List ℕ)) → p.0 ≡ [] → words_in p ≡ p.1
all_behind ([], later) e = refl
all_behind (b ∷ word, later) e = cc

-- a word that has ended
pub word_ended : (line : List ℕ) (i : ℕ) (quoted : Bool) → i < length line → is_behind_word quoted (get_or line i 0) ≡ true → IsBegun line quoted i
    → ((parts false line).0 ≡ take i line) × ((parts false line).1 ≡ words (drop i line))
word_ended line i true h e b = cc
word_ended line i false h e b =
    let x = get_or line i 0 in
    let here : (parts false (x ∷ drop (suc i) line)).0 ≡ [] = rw e refl in
    let none : (parts false (drop i line)).0 ≡ [] = ap (λ l. (parts false l).0) (drop-cons line i 0 h) ∙ here in
    (b.word ∙ ap (λ w. take i line ++ w) none ∙ append-nil (take i line), b.behind ∙ sym (all_behind (parts false (drop i line)) none))

-- the line has ended
pub line_ended : (line : List ℕ) (quoted : Bool) → IsBegun line quoted (length line)
    → ((parts false line).0 ≡ take (length line) line) × ((parts false line).1 ≡ words (drop (length line) line))
line_ended line quoted b =
    let none : drop (length line) line ≡ [] = drop-length line in (
      b.word ∙ ap (λ l. take (length line) line ++ (parts quoted l).0) none ∙ append-nil (take (length line) line),
      b.behind ∙ ap (λ l. (parts quoted l).1) none ∙ sym (ap words none),
    )

-- a word is there, and none
begins : (p : List ℕ × List (List ℕ)) (b : ℕ) (word : List ℕ) → p.0 ≡ b ∷ word → words_in p ≡ p.0 ∷ p.1
begins ([], later) b word e = cc
begins (c ∷ rest, later) b word e = refl

some_word : (line : List ℕ) (n : ℕ) → 0 < length line → is_behind_word false (get_or line 0 0) ≡ false → (parts false line).0 ≡ take n line
    → (parts false line).1 ≡ words (drop n line)
    → words line ≡ take n line ∷ words (drop n line)
some_word [] n h e word behind = absurd (omega arith)
some_word (b ∷ bytes) n h e word behind =
    let first : (parts false (b ∷ bytes)).0 ≡ b ∷ (parts (is_quoted_after false b) bytes).0 = rw e refl in
    begins (parts false (b ∷ bytes)) b _ first ∙ ap (λ w. w ∷ (parts false (b ∷ bytes)).1) word ∙ ap (λ ws. take n (b ∷ bytes) ∷ ws) behind

no_word : (line : List ℕ) → 0 < length line → get_or line 0 0 ≡ 35 → words line ≡ []
no_word [] h e = absurd (omega arith)
no_word (b ∷ bytes) h e = let Ends : ℕ → Type 0 = λ n. words (n ∷ bytes) ≡ [] in subst Ends (sym e) refl

-- from the first byte on that is no blank
record IsStart (line rest : List ℕ) : Type 0 where
  some : 0 < length rest
  blank : is_blank (get_or rest 0 0) ≡ false
  same : words line ≡ words rest

not_is : (t : Bool) → not t ≡ true → t ≡ false
not_is true e = cc
not_is false e = refl

start : (line rest : List ℕ) (i : ℕ) → position (λ b. not (is_blank b)) line ≡ Some i → rest ≡ drop i line → IsStart line rest
start line rest i e is =
    let at = position-Some (λ b. not (is_blank b)) line i 0 e in
    let long : length rest ≡ length line - i = ap length is ∙ length-drop i line in
    let first : get_or rest 0 0 ≡ get_or line i 0 = ap (λ l. get_or l 0 0) is ∙ get_or-drop i line 0 0 ∙ ap (λ n. get_or line n 0) (add-zero i) in
    record {
      some = omega (arith, at.0, long);
      blank = ap is_blank first ∙ not_is _ at.1;
      same = words_at line i e ∙ sym (ap words is);
    }

-- no word, where a comment stands
pub comment_at : (line rest : List ℕ) (i : ℕ) → position (λ b. not (is_blank b)) line ≡ Some i → rest ≡ drop i line → get_or rest 0 0 ≡ 35 → words line ≡ []
comment_at line rest i e is at = let s = start line rest i e is in s.same ∙ no_word rest s.some at

-- a word and what stands behind it
pub word_at : (line rest : List ℕ) (i n : ℕ) → position (λ b. not (is_blank b)) line ≡ Some i → rest ≡ drop i line → (get_or rest 0 0 ≡ 35 → ⊥)
    → (parts false rest).0 ≡ take n rest → (parts false rest).1 ≡ words (drop n rest) → words line ≡ take n rest ∷ words (drop n rest)
word_at line rest i n e is other word behind =
    let s = start line rest i e is in
    s.same ∙ some_word rest n s.some (rw (differs _ _ other) s.blank) word behind
