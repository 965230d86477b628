-- Where bytes are split.
use Rattle.std.proofs.Common.{◌≡◌, ℕ, zero, suc, ◌+◌, ◌-◌, ◌<◌, ◌≤◌, Bool, true, false, cond, ◌&&◌, List, [], ◌∷◌, ◌++◌, length, get_or, take, drop, None}
use Rattle.std.proofs.Common.{Some, refl, sym, ap, ◌∙◌, arith, add-one}
use Rattle.std.specs.Prelude.{position, ◌==◌}
use Rattle.std.specs.List.{position_or_len}
use Rattle.std.proofs.Math.Bool.{and-false}
use Rattle.std.proofs.lemmas.Bool.{ltb-false, eqb-true}
use Rattle.std.proofs.lemmas.List.{take_all, length-drop}
use Rattle.std.proofs.lemmas.List.Quantifiers.{position-Some}
use Rattle.std.proofs.lemmas.List.Sums.{fails_before_first}
use Rattle.text_words.specs.Quoted.{until}
use Rattle.text_words.specs.Text.{lines, without_return}

-- what a range up to the end takes
pub to_end : (n : ℕ) (xs : List ℕ) → take (length xs - n) (drop n xs) ≡ drop n xs
to_end n xs = take_all (length xs - n) (drop n xs) (omega (arith, length-drop n xs))

-- where nothing is found, nothing passes
pub unfound : (t : Bool) (n : ℕ) → cond t (Some n) None ≡ None → t ≡ false
unfound true n e = cc
unfound false n e = refl

pub none_passes : (p : ℕ → Bool) (xs : List ℕ) → position p xs ≡ None → (k : ℕ) → k < length xs → p (get_or xs k 0) ≡ false
none_passes p xs e k h =
    let past : length xs ≤ position_or_len p xs = ltb-false _ _ (unfound _ _ e) in
    fails_before_first p xs k 0 (omega arith)

-- at the first such byte
pub until_from : (close : ℕ) (bytes : List ℕ) (i : ℕ) → i < length bytes → (get_or bytes i 0 == close) ≡ true
    → ((k : ℕ) → k < i → (get_or bytes k 0 == close) ≡ false)
    → until close bytes ≡ Some (take i bytes, drop (suc i) bytes)
until_from close [] i h e f = absurd (omega arith)
until_from close (b ∷ bytes) zero h e f = rw e refl
until_from close (b ∷ bytes) (suc i) h e f =
    let here : (b == close) ≡ false = f 0 (omega arith) in
    let later : until close bytes ≡ Some (take i bytes, drop (suc i) bytes) = until_from close bytes i (omega arith) e (λ k l. f (suc k) (omega arith)) in
    rw (here, later) refl

pub until_at : (close : ℕ) (bytes : List ℕ) (i : ℕ) → position (λ b. b == close) bytes ≡ Some i
    → until close bytes ≡ Some (take i bytes, take (length bytes - (i + 1)) (drop (i + 1) bytes))
until_at close bytes i e =
    let at = position-Some (λ b. b == close) bytes i 0 e in
    rw (to_end (i + 1) bytes, add-one) (until_from close bytes i at.0 at.1 at.2)

pub until_nowhere : (close : ℕ) (bytes : List ℕ) → ((k : ℕ) → k < length bytes → (get_or bytes k 0 == close) ≡ false) → until close bytes ≡ None
until_nowhere close [] f = refl
until_nowhere close (b ∷ bytes) f =
    let here : (b == close) ≡ false = f 0 (omega arith) in
    let later : until close bytes ≡ None = until_nowhere close bytes (λ k l. f (suc k) (omega arith)) in
    rw (here, later) refl

pub until_none : (close : ℕ) (bytes : List ℕ) → position (λ b. b == close) bytes ≡ None → until close bytes ≡ None
until_none close bytes e = until_nowhere close bytes (none_passes (λ b. b == close) bytes e)

-- a carriage return before the line feed
at_return : (t : Bool) (b : ℕ) (later : List (List ℕ)) → cond (t && true) ([] ∷ later) ((b ∷ []) ∷ later) ≡ cond t [] (b ∷ []) ∷ later
at_return true b later = refl
at_return false b later = refl

-- at the first line feed
pub lines_from : (text : List ℕ) (i : ℕ) → i < length text → (get_or text i 0 == 10) ≡ true → ((k : ℕ) → k < i → (get_or text k 0 == 10) ≡ false)
    → lines text ≡ without_return (take i text) ∷ lines (drop (suc i) text)
lines_from [] i h e f = absurd (omega arith)
lines_from (b ∷ bytes) zero h e f = rw e refl
lines_from (b ∷ []) (suc i) h e f = absurd (omega arith)
lines_from (b ∷ c ∷ bytes) (suc zero) h e f =
    let here : (b == 10) ≡ false = f 0 (omega arith) in
    let next : (c == 10) ≡ true = e in
    rw (here, next) (at_return (b == 13) b (lines bytes))
lines_from (b ∷ c ∷ bytes) (suc (suc i)) h e f =
    let here : (b == 10) ≡ false = f 0 (omega arith) in
    let next : (c == 10) ≡ false = f 1 (omega arith) in
    let later : lines (c ∷ bytes) ≡ without_return (c ∷ take i bytes) ∷ lines (drop (suc i) bytes) =
    lines_from (c ∷ bytes) (suc i) (omega arith) e (λ k l. f (suc k) (omega arith)) in
    rw (later, here, next, and-false) refl

pub lines_at : (text : List ℕ) (i : ℕ) → position (λ b. b == 10) text ≡ Some i
    → lines text ≡ without_return (take i text) ∷ lines (take (length text - (i + 1)) (drop (i + 1) text))
lines_at text i e =
    let at = position-Some (λ b. b == 10) text i 0 e in
    rw (to_end (i + 1) text, add-one) (lines_from text i at.0 at.1 at.2)

pub lines_nowhere : (text : List ℕ) → 0 < length text → ((k : ℕ) → k < length text → (get_or text k 0 == 10) ≡ false) → lines text ≡ text ∷ []
lines_nowhere [] h f = absurd (omega arith)
lines_nowhere (b ∷ []) h f =
    let here : (b == 10) ≡ false = f 0 (omega arith) in
    rw (here, and-false) refl
lines_nowhere (b ∷ c ∷ bytes) h f =
    let here : (b == 10) ≡ false = f 0 (omega arith) in
    let next : (c == 10) ≡ false = f 1 (omega arith) in
    let later : lines (c ∷ bytes) ≡ (c ∷ bytes) ∷ [] = lines_nowhere (c ∷ bytes) (omega arith) (λ k l. f (suc k) (omega arith)) in
    rw (later, here, next, and-false) refl

pub lines_none : (text : List ℕ) → 0 < length text → position (λ b. b == 10) text ≡ None → lines text ≡ text ∷ []
lines_none text h e = lines_nowhere text h (none_passes (λ b. b == 10) text e)

pub differs : (b c : ℕ) → (b ≡ c → ⊥) → (b == c) ≡ false
differs b c apart = elim (b == c) as (λ t. (b == c) ≡ t → (b == c) ≡ false) [ true ↦ λ e. absurd (apart (eqb-true b c e)) | false ↦ λ e. e ] refl

-- the carriage return at the end, and none
without_return_at : (line : List ℕ) → without_return (line ++ 13 ∷ []) ≡ line
without_return_at [] = refl
without_return_at (b ∷ []) = refl
without_return_at (b ∷ c ∷ line) = ap (λ rest. b ∷ rest) (without_return_at (c ∷ line))

without_return_other : (line : List ℕ) (b : ℕ) → (b == 13) ≡ false → without_return (line ++ b ∷ []) ≡ line ++ b ∷ []
without_return_other [] b e = rw e refl
without_return_other (c ∷ []) b e = rw e refl
without_return_other (c ∷ d ∷ line) b e = ap (λ rest. c ∷ rest) (without_return_other (d ∷ line) b e)

pub return_at_end : (line rest : List ℕ) (b : ℕ) → line ≡ rest ++ b ∷ [] → b ≡ 13 → rest ≡ without_return line
return_at_end line rest b e f = sym (without_return_at rest) ∙ ap (λ n. without_return (rest ++ n ∷ [])) (sym f) ∙ ap without_return (sym e)

pub no_return_at_end : (line rest : List ℕ) (b : ℕ) → line ≡ rest ++ b ∷ [] → (b ≡ 13 → ⊥) → line ≡ without_return line
no_return_at_end line rest b e f = e ∙ sym (without_return_other rest b (differs b 13 f)) ∙ ap without_return (sym e)
