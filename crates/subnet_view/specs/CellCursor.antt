-- Cells in which keys are looked up in ascending order, so that cells of lesser keys can be passed.
use Rattle.std.specs.Prelude.{◌≡◌, T, Bool, false, [], ◌∷◌, Option, MatchOption}
use Rattle.std.specs.Ordering.{is_lt}
use Rattle.std.specs.FinMap.{find, is_sorted}
use Rattle.fact_join.specs.declared.cell.Cell.{Cell}
use Rattle.reply_facts.specs.declared.key.Key.{Key}
use Rattle.reply_facts.specs.declared.value.Value.{Value}
use Rattle.reply_facts.specs.Key.{key_cmp}
use Rattle.subnet_view.specs.Reading.{Cells}

-- whether the key `k` comes before `key`
abbrev pub is_before : Key → Key → Bool
is_before k key = is_lt (key_cmp k key)

-- `next` and `later` are in the order of keys. If there is no `next`, `later` is empty
abbrev pub AreLeft : Option (Key × Cell Value) → Cells → Type 0
AreLeft next later = MatchOption next (later ≡ []) (λ s. T (is_sorted key_cmp (s ∷ later)))

-- `key` and each key after it have the same cell in `new` as in `old`
abbrev pub KeepsFrom : Key → Cells → Cells → Type 0
KeepsFrom key old new = (k : Key) → is_before k key ≡ false → find key_cmp k new ≡ find key_cmp k old

-- the first of the cells has `key` or a key after `key`; true if there are no cells
abbrev pub IsFrom : Key → Cells → Type 0
IsFrom key [] = Unit {0}
IsFrom key (s ∷ later) = is_before s.0 key ≡ false
