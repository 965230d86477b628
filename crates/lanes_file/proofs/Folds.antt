-- Line after line: the lines so far and the lines to come together are what the text says.
use Rattle.std.proofs.Common.{◌≡◌, ℕ, ◌+◌, ◌<◌, ◌≤◌, List, [], ◌∷◌, length, None, Some, Ok, Err, sym, ap, ◌∙◌, arith}
use Rattle.text_words.specs.Text.{lines}
use Rattle.lanes_file.specs.LanesTextFault.{LanesLineFault}
use Rattle.lanes_file.specs.declared.lanes_item.LanesItem.{LanesItem}
use Rattle.lanes_file.specs.declared.lines_before.LinesBefore.{LinesBefore}
use Rattle.lanes_file.specs.Lanes.{LanesSaid, nothing_said}
use Rattle.lanes_file.specs.LanesLine.{line_of}
use Rattle.lanes_file.specs.Reading.{start, lines_after, item_of, then_or, first_fault_from, items_from, first_fault, lanes_said}
use Rattle.lanes_file.specs.LanesItem.{said_by, said_with}

-- the first fault is that of the lines to come
pub record HasJudged (text rest : List ℕ) (before : LinesBefore) (number : ℕ) : Type 0 where
  pub fault : first_fault_from (number + 1) before (lines rest) ≡ first_fault text
  pub counted : number + length rest ≤ length text

-- and what is said is what the lines so far say, with those to come
pub record HasRead (text rest : List ℕ) (before : LinesBefore) (said : LanesSaid) (number : ℕ) : Type 0 where
  pub judged : HasJudged text rest before number
  pub said_is : said_by said (items_from (number + 1) before (lines rest)) ≡ lanes_said text

pub judged_none : (text : List ℕ) (before : LinesBefore) → before ≡ start → HasJudged text text before 0
unfolding first_fault
judged_none text before e = record { fault = ap (λ p. first_fault_from 1 p (lines text)) e; counted = omega arith }

pub read_none : (text : List ℕ) (before : LinesBefore) (said : LanesSaid) → before ≡ start → said ≡ nothing_said → HasRead text text before said 0
unfolding lanes_said
read_none text before said e f = record {
  judged = judged_none text before e;
  said_is = ap (λ p. said_by said (items_from 1 p (lines text))) e ∙ ap (λ h. said_by h (items_from 1 start (lines text))) f;
}

-- a line more
pub fault_more : (number : ℕ) (before : LinesBefore) (line rest later : List ℕ) (item : LanesItem) → lines rest ≡ line ∷ lines later
    → Ok item ≡ item_of number before (line_of line)
    → first_fault_from number before (lines rest) ≡ first_fault_from (number + 1) (lines_after before item) (lines later)
fault_more number before line rest later item e is =
    ap (first_fault_from number before) e ∙ ap (λ r. then_or r (λ i. first_fault_from (number + 1) (lines_after before i) (lines later)) Some) (sym is)

pub items_more : (number : ℕ) (before : LinesBefore) (line rest later : List ℕ) (item : LanesItem) → lines rest ≡ line ∷ lines later
    → Ok item ≡ item_of number before (line_of line)
    → items_from number before (lines rest) ≡ item ∷ items_from (number + 1) (lines_after before item) (lines later)
items_more number before line rest later item e is =
    ap (items_from number before) e
    ∙ ap (λ r. then_or r (λ i. i ∷ items_from (number + 1) (lines_after before i) (lines later)) (λ fault. [])) (sym is)

pub judged_more : (text rest : List ℕ) (before : LinesBefore) (number : ℕ) (line later : List ℕ) (item : LanesItem) → HasJudged text rest before number
    → lines rest ≡ line ∷ lines later → length later < length rest → Ok item ≡ item_of (number + 1) before (line_of line)
    → HasJudged text later (lines_after before item) (number + 1)
judged_more text rest before number line later item h e shorter is =
    let counted = h.counted in
    record {
      fault = sym (fault_more (number + 1) before line rest later item e is) ∙ h.fault;
      counted = omega arith;
    }

pub read_more : (text rest : List ℕ) (before : LinesBefore) (said : LanesSaid) (number : ℕ) (line later : List ℕ) (item : LanesItem)
    → HasRead text rest before said number → lines rest ≡ line ∷ lines later → length later < length rest
    → Ok item ≡ item_of (number + 1) before (line_of line) → HasRead text later (lines_after before item) (said_with said item) (number + 1)
read_more text rest before said number line later item h e shorter is = record {
  judged = judged_more text rest before number line later item h.judged e shorter is;
  said_is = ap (said_by said) (sym (items_more (number + 1) before line rest later item e is)) ∙ h.said_is;
}

-- a faulty line
pub fault_here : (text rest : List ℕ) (before : LinesBefore) (number : ℕ) (line later : List ℕ) (fault : LanesLineFault) → HasJudged text rest before number
    → lines rest ≡ line ∷ lines later → Err fault ≡ item_of (number + 1) before (line_of line) → first_fault text ≡ Some fault
fault_here text rest before number line later fault h e is =
    sym h.fault ∙ ap (first_fault_from (number + 1) before) e
    ∙ ap (λ r. then_or r (λ i. first_fault_from (number + 1 + 1) (lines_after before i) (lines later)) Some) (sym is)

-- no line more
pub no_fault : (text rest : List ℕ) (before : LinesBefore) (number : ℕ) → HasJudged text rest before number → lines rest ≡ [] → first_fault text ≡ None
no_fault text rest before number h e = sym h.fault ∙ ap (first_fault_from (number + 1) before) e

pub said_all : (text rest : List ℕ) (before : LinesBefore) (said : LanesSaid) (number : ℕ) → HasRead text rest before said number → lines rest ≡ [] → said
    ≡ lanes_said text
said_all text rest before said number h e = ap (λ ls. said_by said (items_from (number + 1) before ls)) (sym e) ∙ h.said_is

-- what the loops over lines are proved by
pub ruleset judging = (judged_none, judged_more, fault_here, no_fault)

pub ruleset reading = (read_more, fault_here, no_fault, said_all)
