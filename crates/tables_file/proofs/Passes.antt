-- Parts of a text whose lines have no fault, and what they say.
use Rattle.std.proofs.Common.{◌≡◌, ℕ, ◌+◌, List, [], ◌∷◌, ◌++◌, Ok, refl, sym, ap, ◌∙◌, append_assoc}
use Rattle.std.specs.List.{AllByRecursion}
use Rattle.text_words.specs.Text.{lines}
use Rattle.text_words.specs.Printed.{line_text}
use Rattle.text_words.proofs.Printed.{IsWord, words_are_read, line_then, line_plain}
use Rattle.held_tables.specs.declared.held_item.HeldItem.{HeldItem}
use Rattle.tables_file.specs.declared.last_lines.LastLines.{LastLines}
use Rattle.tables_file.specs.TablesLine.{line_in, line_of}
use Rattle.tables_file.specs.Reading.{last_lines_after, item_of, first_fault_from, items_from}
use Rattle.tables_file.proofs.Folds.{fault_more, items_more}

-- the lines that follow are judged from another index, and counted from another number
pub record Goes (before : LastLines) (text : List ℕ) (items : List HeldItem) (after : LastLines) (number : ℕ) (rest : List ℕ) : Type 0 where
  pub next : ℕ
  pub fault : first_fault_from number before (lines (text ++ rest)) ≡ first_fault_from next after (lines rest)
  pub said : items_from number before (lines (text ++ rest)) ≡ items ++ items_from next after (lines rest)

-- a part of a text, in front of any rest
pub record Passes (before : LastLines) (text : List ℕ) (items : List HeldItem) (after : LastLines) : Type 0 where
  pub goes : (number : ℕ) (rest : List ℕ) → Goes before text items after number rest

pub passes_none : (index : LastLines) → Passes index [] [] index
passes_none index = record { goes = λ number rest. record { next = number; fault = refl; said = refl } }

pub passes_then : (p q r : LastLines) (t u : List ℕ) (is js : List HeldItem) → Passes p t is q → Passes q u js r → Passes p (t ++ u) (is ++ js) r
passes_then p q r t u is js h g = record {
  goes = λ number rest.
      let first = h.goes number (u ++ rest) in
      let second = g.goes first.next rest in
      let whole : (t ++ u) ++ rest ≡ t ++ (u ++ rest) = append_assoc t u rest in
      record {
        next = second.next;
        fault = ap (λ s. first_fault_from number p (lines s)) whole ∙ first.fault ∙ second.fault;
        said = ap (λ s. items_from number p (lines s)) whole ∙ first.said ∙ ap (λ xs. is ++ xs) second.said ∙ sym (append_assoc is js _);
      };
}

-- a line of words
pub passes_line : (index : LastLines) (line : List (List ℕ)) (item : HeldItem) → AllByRecursion IsWord line
    → ((number : ℕ) → item_of number index (line_in line) ≡ Ok item) → Passes index (line_text line ++ 10 ∷ []) (item ∷ []) (last_lines_after index item)
unfolding line_of
passes_line index line item words is = record {
  goes = λ number rest.
      let whole : (line_text line ++ 10 ∷ []) ++ rest ≡ line_text line ++ 10 ∷ rest = append_assoc (line_text line) (10 ∷ []) rest in
      let split : lines ((line_text line ++ 10 ∷ []) ++ rest) ≡ line_text line ∷ lines rest =
      ap lines whole ∙ line_then (line_text line) rest (line_plain line words) in
      let said : Ok item ≡ item_of number index (line_of (line_text line)) =
      sym (is number) ∙ ap (λ ws. item_of number index (line_in ws)) (sym (words_are_read line words)) in
      record {
        next = number + 1;
        fault = fault_more number index (line_text line) ((line_text line ++ 10 ∷ []) ++ rest) rest item split said;
        said = items_more number index (line_text line) ((line_text line ++ 10 ∷ []) ++ rest) rest item split said;
      };
}
