-- Line after line: what the lines so far leave, together with the lines to come, is what the text says.
use Rattle.std.proofs.Common.{◌≡◌, ℕ, zero, suc, ◌+◌, ◌-◌, ◌<◌, ◌≤◌, ◌==◌, ◌||◌, Bool, true, false, List, [], ◌∷◌, ◌++◌, length, take, Option, None, Some, Result, Ok, Err, refl, sym, ap, ◌∙◌, arith, append_assoc, length-append}
use Rattle.std.specs.Prelude.{if◌then◌else◌}
use Rattle.std.specs.List.{list_any}
use Rattle.std.specs.Result.{result_err}
use Rattle.std.proofs.lemmas.List.Folds.{list_any-append}
use Rattle.text_words.specs.Text.{lines}
use Rattle.roots_file.specs.Line.{root_on}
use Rattle.roots_file.specs.Reading.{is_among, is_root, more_by, names, roots_of, then_from, with_line, with_lines, wrong_below}
use Rattle.roots_file.specs.RootsTextFault.{Reads}
use Rattle.roots_file.specs.RootsTextFault.{RootsTextFault}
use Rattle.text_words.specs.declared.lines_fault.LinesFault.TheVariants.{Line, Memory}
use Rattle.roots_file.specs.RootsTextFault.{RootsLineFault}
use Rattle.roots_file.specs.declared.roots_text_fault.RootsTextError.{RootsTextError}
use Rattle.roots_file.specs.declared.roots_text_fault.RootsTextError.TheVariants.{Repeated}

-- the roots so far, with the lines to come, are what the text says
pub record HasRead (text rest roots : List ℕ) (number : ℕ) : Type 0 where
  pub told : with_lines (number + 1) roots (lines rest) ≡ roots_of text
  pub counted : number + length rest ≤ length text

pub read_none : (text roots : List ℕ) → roots ≡ [] → HasRead text text roots 0
unfolding roots_of
read_none text roots e = record { told = ap (λ r. with_lines 1 r (lines text)) e; counted = omega arith }

module _ (text rest roots : List ℕ) (number : ℕ) (line later : List ℕ) (h : HasRead text rest roots number) (e : lines rest ≡ line ∷ lines later) where
  told_by_line : then_from (with_line (number + 1) roots line) (λ more. with_lines (number + 1 + 1) more (lines later)) ≡ roots_of text
  told_by_line = ap (with_lines (number + 1) roots) (sym e) ∙ h.told

  pub read_more : (next : List ℕ) → length later < length rest → with_line (number + 1) roots line ≡ Ok next → HasRead text later next (number + 1)
  read_more next shorter is =
      let before = h.counted in
      record {
        told = ap (λ r. then_from r (λ more. with_lines (number + 1 + 1) more (lines later))) (sym is) ∙ told_by_line;
        counted = omega arith;
      }

  pub read_refused : (fault : RootsTextFault) → Reads (Err fault) (with_line (number + 1) roots line) → Reads (Err fault) (roots_of text)
  read_refused (Line fault) is = sym told_by_line ∙ ap (λ r. then_from r (λ more. with_lines (number + 1 + 1) more (lines later))) is
  read_refused Memory is = tt

pub read_all : (text rest roots : List ℕ) (number : ℕ) → HasRead text rest roots number → lines rest ≡ [] → roots_of text ≡ Ok roots
read_all text rest roots number h e = sym h.told ∙ ap (with_lines (number + 1) roots) e

pub ruleset reading = (read_more, read_refused, read_all)

-- lines above that name the roots so far, and no others
pub record HasJudged (text rest : List ℕ) (above : ℕ) : Type 0 where
  pub roots : List ℕ
  pub read : HasRead text rest roots above
  pub front : List (List ℕ)
  pub parts : lines text ≡ front ++ lines rest
  pub as_many : length front ≡ above
  pub same : (root : ℕ) → is_among roots root ≡ list_any (names root) front

pub judged_none : (text : List ℕ) → HasJudged text text 0
judged_none text = record { roots = []; read = read_none text [] refl; front = []; parts = refl; as_many = refl; same = λ root. refl }

take_front : {X : Type 0} (front back : List X) → take (length front) (front ++ back) ≡ front
take_front [] back = refl
take_front (x ∷ front) back = ap (λ xs. x ∷ xs) (take_front front back)

above_is : (text rest : List ℕ) (above : ℕ) (h : HasJudged text rest above) → take above (lines text) ≡ h.front
above_is text rest above h = ap (λ ls. take above ls) h.parts ∙ ap (λ n. take n (h.front ++ lines rest)) (sym h.as_many) ∙ take_front h.front (lines rest)

no_more : (o : Bool) → o ≡ (o || false)
no_more true = refl
no_more false = refl

if_found : (t : Bool) (roots : List ℕ) (root : ℕ) (fault : RootsLineFault) → t ≡ true → (if t then Err fault else Ok (roots ++ root ∷ [])) ≡ Err fault
if_found true roots root fault e = refl
if_found false roots root fault e = cc

if_new : (t : Bool) (roots : List ℕ) (root : ℕ) (fault : RootsLineFault) → t ≡ false → (if t then Err fault else Ok (roots ++ root ∷ []))
    ≡ Ok (roots ++ root ∷ [])
if_new true roots root fault e = cc
if_new false roots root fault e = refl

found_by : (t : Bool) (what : RootsTextError) → (if t then Some Repeated else None) ≡ Some what → (t ≡ true) × (what ≡ Repeated)
found_by true what e = (refl, cc)
found_by false what e = absurd (cc)

new_by : (t : Bool) → ◌≡◌ {A = Option RootsTextError} (if t then Some Repeated else None) None → t ≡ false
new_by true e = absurd (cc)
new_by false e = refl

-- a line that has a fault
wrong_is : (number : ℕ) (roots : List ℕ) (front : List (List ℕ)) (said : Result (Option ℕ) RootsTextError) (what : RootsTextError)
    → ((root : ℕ) → is_among roots root ≡ list_any (names root) front) → wrong_below front said ≡ Some what
    → more_by number roots said ≡ Err (record { line = number; wrong = what })
wrong_is number roots front (Ok None) what same e = absurd (cc)
wrong_is number roots front (Ok (Some root)) what same e =
    let found = found_by (list_any (names root) front) what e in
    if_found (is_among roots root) roots root (record { line = number; wrong = Repeated }) (same root ∙ found.0)
    ∙ ap (λ w. Err (record { line = number; wrong = w })) (sym found.1)
wrong_is number roots front (Err other) what same e =
    let is : other ≡ what = cc in ap (λ w. Err (record { line = number; wrong = w })) is

-- and one that has none
pub record Goes (number : ℕ) (roots : List ℕ) (front : List (List ℕ)) (said : Result (Option ℕ) RootsTextError) : Type 0 where
  pub next : List ℕ
  pub is : more_by number roots said ≡ Ok next
  pub same : (root : ℕ) → is_among next root ≡ (list_any (names root) front || (is_root root said || false))

goes : (number : ℕ) (roots : List ℕ) (front : List (List ℕ)) (said : Result (Option ℕ) RootsTextError)
    → ((root : ℕ) → is_among roots root ≡ list_any (names root) front) → wrong_below front said ≡ None → Goes number roots front said
goes number roots front (Ok None) same e = record { next = roots; is = refl; same = λ root. same root ∙ no_more (list_any (names root) front) }
goes number roots front (Ok (Some named)) same e = record {
  next = roots ++ named ∷ [];
  is = if_new (is_among roots named) roots named (record { line = number; wrong = Repeated }) (same named ∙ new_by (list_any (names named) front) e);
  same = λ root. list_any-append (λ r. r == root) roots (named ∷ []) ∙ ap (λ o. o || ((named == root) || false)) (same root);
}
goes number roots front (Err what) same e = absurd (cc)

pub judged_more : (text rest : List ℕ) (above : ℕ) (line later : List ℕ) → HasJudged text rest above → lines rest ≡ line ∷ lines later
    → length later < length rest → wrong_below (take above (lines text)) (root_on line) ≡ None → HasJudged text later (above + 1)
judged_more text rest above line later h e shorter sound =
    let before = h.read.counted in
    let step = goes (above + 1) h.roots h.front (root_on line) h.same (ap (λ ls. wrong_below ls (root_on line)) (sym (above_is text rest above h)) ∙ sound) in
    record {
      roots = step.next;
      read = record {
        told = ap (λ r. then_from r (λ more. with_lines (above + 1 + 1) more (lines later))) (sym step.is) ∙ ap (with_lines (above + 1) h.roots) (sym e)
            ∙ h.read.told;
        counted = omega arith;
      };
      front = h.front ++ line ∷ [];
      parts = h.parts ∙ ap (λ ls. h.front ++ ls) e ∙ sym (append_assoc h.front (line ∷ []) (lines later));
      as_many = length-append h.front (line ∷ []) ∙ ap (λ n. n + 1) h.as_many;
      same = λ root. step.same root ∙ sym (list_any-append (names root) h.front (line ∷ []));
    }

pub fault_here : (text rest : List ℕ) (above : ℕ) (line later : List ℕ) (what : RootsTextError) → HasJudged text rest above → lines rest ≡ line ∷ lines later
    → wrong_below (take above (lines text)) (root_on line) ≡ Some what → Some (record { line = above + 1; wrong = what }) ≡ result_err (roots_of text)
fault_here text rest above line later what h e wrong =
    let is = wrong_is (above + 1) h.roots h.front (root_on line) what h.same (ap (λ ls. wrong_below ls (root_on line)) (sym (above_is text rest above h))
    ∙ wrong) in
    ap result_err (ap (λ r. then_from r (λ more. with_lines (above + 1 + 1) more (lines later))) (sym is) ∙ ap (with_lines (above + 1) h.roots) (sym e)
    ∙ h.read.told)

pub no_fault : (text rest : List ℕ) (above : ℕ) → HasJudged text rest above → lines rest ≡ [] → None ≡ result_err (roots_of text)
no_fault text rest above h e = ap result_err (ap (with_lines (above + 1) h.roots) (sym e) ∙ h.read.told)

pub ruleset judging = (judged_none, judged_more, fault_here, no_fault)

-- the lines so far do not name the root
pub record HasPassed (text rest : List ℕ) (root count passed : ℕ) : Type 0 where
  pub within : passed ≤ count
  pub left : list_any (names root) (take (count - passed) (lines rest)) ≡ list_any (names root) (take count (lines text))

pub passed_none : (text : List ℕ) (root count : ℕ) → HasPassed text text root count 0
passed_none text root count =
    let all : count - 0 ≡ count = omega arith in
    record { within = omega arith; left = ap (λ n. list_any (names root) (take n (lines text))) all }

module _ (text rest : List ℕ) (root count passed : ℕ) (line later : List ℕ) (below : passed < count) (h : HasPassed text rest root count passed)
    (e : lines rest ≡ line ∷ lines later) where
  one_of_them : list_any (names root) (take (count - passed) (lines rest))
      ≡ (names root line || list_any (names root) (take (count - (passed + 1)) (lines later)))
  one_of_them =
      let some : count - passed ≡ suc (count - (passed + 1)) = omega arith in
      ap (λ n. list_any (names root) (take n (lines rest))) some ∙ ap (λ ls. list_any (names root) (take (suc (count - (passed + 1))) ls)) e

  pub passed_more : names root line ≡ false → HasPassed text later root count (passed + 1)
  passed_more other = record {
    within = omega arith;
    left = sym (one_of_them ∙ ap (λ t. t || list_any (names root) (take (count - (passed + 1)) (lines later))) other) ∙ h.left;
  }

  pub is_there : names root line ≡ true → true ≡ list_any (names root) (take count (lines text))
  is_there named = sym (one_of_them ∙ ap (λ t. t || list_any (names root) (take (count - (passed + 1)) (lines later))) named) ∙ h.left

take_none : {X : Type 0} (n : ℕ) (xs : List X) → xs ≡ [] → take n xs ≡ xs
take_none zero [] e = refl
take_none (suc n) [] e = refl
take_none n (x ∷ xs) e = absurd (cc)

pub past_all : (text rest : List ℕ) (root count passed : ℕ) → HasPassed text rest root count passed → lines rest ≡ []
    → false ≡ list_any (names root) (take count (lines text))
past_all text rest root count passed h e =
    ap (list_any (names root)) (sym (take_none (count - passed) (lines rest) e ∙ e)) ∙ h.left

pub none_left : (text rest : List ℕ) (root count passed : ℕ) → HasPassed text rest root count passed → count ≤ passed
    → false ≡ list_any (names root) (take count (lines text))
none_left text rest root count passed h past =
    let none : count - passed ≡ 0 = omega arith in ap (λ n. list_any (names root) (take n (lines rest))) (sym none) ∙ h.left

pub ruleset naming = (passed_none, passed_more, is_there, past_all, none_left)
