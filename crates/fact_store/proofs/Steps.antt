-- A loop over sightings: what a further sighting adds.
use Rattle.std.proofs.Common.{◌≡◌, ◌<◌, ◌+◌, ℕ, List, [], ◌∷◌, ◌++◌, sym, ap, ◌∙◌, length, take, get_or}
use Rattle.std.proofs.lemmas.List.{take_more}
use Rattle.fact_join.specs.declared.cell.Cell.{Cell}
use Rattle.reply_facts.specs.declared.key.Key.{Key}
use Rattle.reply_facts.specs.declared.value.Value.{Value}

-- the sightings up to the next are those so far and this one
pub taken : (items : List (Key × Cell Value)) (i : ℕ) (x : Key × Cell Value) → x ≡ get_or items i x → i < length items → take (i + 1) items ≡ take i items ++ x
    ∷ []
taken items i x e h = take_more items i x h ∙ ap (λ (y : Key × Cell Value). take i items ++ y ∷ []) (sym e)
