-- At these examples laws say what they should.
use Rattle.std.proofs.Common.{◌≡◌, ◌≢◌, ◌∙◌, ℕ, [], ◌∷◌, List, ap, refl, subst, arith}
use Rattle.std.specs.Prelude.{AllPairs}
use Rattle.std.specs.FinMap.{entries}
use Rattle.fact_join.specs.declared.cell.Cell.{Cell}
use Rattle.reply_facts.specs.declared.key.Key.{Key}
use Rattle.reply_facts.specs.declared.value.Value.{Value}
use Rattle.fact_store.specs.Floor.{kept}
use Rattle.fact_store.specs.Merge.{of_raised, of_sightings, of_two}
use Rattle.fact_store.specs.View.{cells_of, view_at}
use Rattle.fact_store.proofs.Entries.{cells_of_view, entries-seen}
use Rattle.fact_store.proofs.Floors.{seen_kept}
use Rattle.fact_store.proofs.Groupings.{grouping_is_free}
use Rattle.law_examples.specs.Weaker.{FloorsStayInGroupings, NoSwitchTwice, down_now, up_before}

-- of what is below floor 2 nothing is left
left_at_two : (sightings : List (Key × Cell Value)) → kept 2 sightings ≡ down_now ∷ [] → cells_of (view_at 2 sightings) ≡ down_now ∷ []
left_at_two sightings is =
    ap (λ found. entries found) (seen_kept 2 sightings) ∙ entries-seen (kept 2 sightings) ∙ ap cells_of_view is

pub floors_stay_in_groupings : FloorsStayInGroupings
floors_stay_in_groupings = (
  ap cells_of (grouping_is_free (of_two (of_raised (of_sightings (up_before ∷ [])) 2) (of_sightings (up_before ∷ down_now ∷ []))))
      ∙ left_at_two (up_before ∷ up_before ∷ down_now ∷ []) refl,
  ap cells_of (grouping_is_free (of_raised (of_two (of_sightings (up_before ∷ [])) (of_sightings (down_now ∷ []))) 2))
      ∙ left_at_two (up_before ∷ down_now ∷ []) refl,
)

pub no_switch_twice : NoSwitchTwice
no_switch_twice rule f source hops s t met way =
    let apart : AllPairs (λ (a b : ℕ). a ≢ b) (s ∷ t ∷ s ∷ []) = subst (λ (xs : List ℕ). AllPairs (λ (a b : ℕ). a ≢ b) xs) met way.no_switch_twice in
    apart 0 2 0 (omega arith) (omega arith) refl
