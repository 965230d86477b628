-- Line after line: the lines so far and the lines to come together are what the text says.
use Rattle.std.proofs.Common.{◌≡◌, ℕ, ◌+◌, ◌<◌, ◌≤◌, List, [], ◌∷◌, length, None, Some, Ok, Err, sym, ap, ◌∙◌, arith}
use Rattle.text_words.specs.Text.{lines}
use Rattle.tables_file.specs.TablesTextFault.{TablesLineFault}
use Rattle.held_tables.specs.declared.held_item.HeldItem.{HeldItem}
use Rattle.tables_file.specs.declared.last_lines.LastLines.{LastLines}
use Rattle.held_tables.specs.Held.{HeldPlan, nothing_held}
use Rattle.tables_file.specs.TablesLine.{line_of}
use Rattle.tables_file.specs.Reading.{start, last_lines_after, item_of, then_or, first_fault_from, items_from, held_by, first_fault, held_of}
use Rattle.held_tables.specs.HeldItem.{held_with}

-- the first fault is that of the lines to come
pub record HasJudged (text rest : List ℕ) (index : LastLines) (number : ℕ) : Type 0 where
  pub fault : first_fault_from (number + 1) index (lines rest) ≡ first_fault text
  pub counted : number + length rest ≤ length text

-- and what is held is what the lines so far say, with those to come
pub record HasRead (text rest : List ℕ) (index : LastLines) (held : HeldPlan) (number : ℕ) : Type 0 where
  pub judged : HasJudged text rest index number
  pub held_is : held_by held (items_from (number + 1) index (lines rest)) ≡ held_of text

pub judged_none : (text : List ℕ) (index : LastLines) → index ≡ start → HasJudged text text index 0
unfolding first_fault
judged_none text index e = record { fault = ap (λ p. first_fault_from 1 p (lines text)) e; counted = omega arith }

pub read_none : (text : List ℕ) (index : LastLines) (held : HeldPlan) → index ≡ start → held ≡ nothing_held → HasRead text text index held 0
unfolding held_of
read_none text index held e f = record {
  judged = judged_none text index e;
  held_is = ap (λ p. held_by held (items_from 1 p (lines text))) e ∙ ap (λ h. held_by h (items_from 1 start (lines text))) f;
}

-- a line more
pub fault_more : (number : ℕ) (index : LastLines) (line rest later : List ℕ) (item : HeldItem) → lines rest ≡ line ∷ lines later
    → Ok item ≡ item_of number index (line_of line)
    → first_fault_from number index (lines rest) ≡ first_fault_from (number + 1) (last_lines_after index item) (lines later)
fault_more number index line rest later item e is =
    ap (first_fault_from number index) e ∙ ap (λ r. then_or r (λ i. first_fault_from (number + 1) (last_lines_after index i) (lines later)) Some) (sym is)

pub items_more : (number : ℕ) (index : LastLines) (line rest later : List ℕ) (item : HeldItem) → lines rest ≡ line ∷ lines later
    → Ok item ≡ item_of number index (line_of line)
    → items_from number index (lines rest) ≡ item ∷ items_from (number + 1) (last_lines_after index item) (lines later)
items_more number index line rest later item e is =
    ap (items_from number index) e
    ∙ ap (λ r. then_or r (λ i. i ∷ items_from (number + 1) (last_lines_after index i) (lines later)) (λ fault. [])) (sym is)

pub judged_more : (text rest : List ℕ) (index : LastLines) (number : ℕ) (line later : List ℕ) (item : HeldItem) → HasJudged text rest index number
    → lines rest ≡ line ∷ lines later → length later < length rest → Ok item ≡ item_of (number + 1) index (line_of line)
    → HasJudged text later (last_lines_after index item) (number + 1)
judged_more text rest index number line later item h e shorter is =
    let before = h.counted in
    record {
      fault = sym (fault_more (number + 1) index line rest later item e is) ∙ h.fault;
      counted = omega arith;
    }

pub read_more : (text rest : List ℕ) (index : LastLines) (held : HeldPlan) (number : ℕ) (line later : List ℕ) (item : HeldItem)
    → HasRead text rest index held number → lines rest ≡ line ∷ lines later → length later < length rest
    → Ok item ≡ item_of (number + 1) index (line_of line) → HasRead text later (last_lines_after index item) (held_with held item) (number + 1)
read_more text rest index held number line later item h e shorter is = record {
  judged = judged_more text rest index number line later item h.judged e shorter is;
  held_is = ap (held_by held) (sym (items_more (number + 1) index line rest later item e is)) ∙ h.held_is;
}

-- a faulty line
pub fault_here : (text rest : List ℕ) (index : LastLines) (number : ℕ) (line later : List ℕ) (fault : TablesLineFault) → HasJudged text rest index number
    → lines rest ≡ line ∷ lines later → Err fault ≡ item_of (number + 1) index (line_of line) → first_fault text ≡ Some fault
fault_here text rest index number line later fault h e is =
    sym h.fault ∙ ap (first_fault_from (number + 1) index) e
    ∙ ap (λ r. then_or r (λ i. first_fault_from (number + 1 + 1) (last_lines_after index i) (lines later)) Some) (sym is)

-- no line more
pub no_fault : (text rest : List ℕ) (index : LastLines) (number : ℕ) → HasJudged text rest index number → lines rest ≡ [] → first_fault text ≡ None
no_fault text rest index number h e = sym h.fault ∙ ap (first_fault_from (number + 1) index) e

pub held_all : (text rest : List ℕ) (index : LastLines) (held : HeldPlan) (number : ℕ) → HasRead text rest index held number → lines rest ≡ [] → held
    ≡ held_of text
held_all text rest index held number h e = ap (λ ls. held_by held (items_from (number + 1) index ls)) (sym e) ∙ h.held_is

-- what the loops over lines are proved by
pub ruleset judging = (judged_none, judged_more, fault_here, no_fault)

pub ruleset reading = (read_more, fault_here, no_fault, held_all)
