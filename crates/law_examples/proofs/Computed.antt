-- The checker computes these cases.
use Rattle.std.proofs.Common.{◌≡◌, ◌∙◌, true, false, List, [], ◌∷◌, ap, refl}
use Rattle.std.specs.FinMap.{entries}
use Rattle.fact_join.specs.declared.cell.Cell.{Cell}
use Rattle.reply_facts.specs.declared.key.Key.{Key}
use Rattle.reply_facts.specs.declared.value.Value.{Value}
use Rattle.fact_store.specs.Floor.{kept}
use Rattle.fact_store.specs.View.{cells_of, view_at}
use Rattle.fact_store.proofs.Entries.{cells_of_view, entries-seen}
use Rattle.fact_store.proofs.Floors.{seen_kept}
use Rattle.law_examples.specs.Computed.{BestIsPicked, ClaimsAreKept, NewestFactsStand, SettledLidsStay, newest, seen}

-- what a view at floor 3 has
viewed : (sightings told : List (Key × Cell Value)) → cells_of_view (kept 3 sightings) ≡ told
    → cells_of (view_at 3 sightings) ≡ told
viewed sightings told is = ap (λ found. entries found) (seen_kept 3 sightings) ∙ entries-seen (kept 3 sightings) ∙ is

pub newest_facts_stand : NewestFactsStand
newest_facts_stand = (
  viewed (seen 1 3 true ∷ seen 2 3 true ∷ seen 3 2 true ∷ seen 1 2 false ∷ seen 2 3 false ∷ []) newest refl,
  viewed (seen 2 3 false ∷ seen 1 2 false ∷ seen 2 3 true ∷ seen 1 3 true ∷ seen 1 3 true ∷ []) newest refl,
)

pub claims_are_kept : ClaimsAreKept
claims_are_kept = refl

pub settled_lids_stay : SettledLidsStay
settled_lids_stay = refl

pub best_is_picked : BestIsPicked
best_is_picked = (refl, (refl, refl))
