-- The answer of a run depends only on the sightings that its files keep and on the greatest floor.
use Rattle.std.proofs.Common.{◌≡◌, ◌≤◌, ◌∙◌, ℕ, max, List, [], ◌∷◌, ap, arith, subst, inl, inr, sym}
use Rattle.std.proofs.lemmas.List.Elements.{Contains-append_left, Contains-append_right, Contains-append_cases}
use Rattle.std.specs.Prelude.{Contains}
use Rattle.std.specs.List.{flat_map}
use Rattle.fact_join.specs.declared.cell.Cell.{Cell}
use Rattle.reply_facts.specs.declared.key.Key.{Key}
use Rattle.reply_facts.specs.declared.value.Value.{Value}
use Rattle.smp_bytes.proofs.Members.{contains_here, contains_later, contains_cases, contains_none}
use Rattle.fact_store.specs.View.{view_at}
use Rattle.fact_store.proofs.Views.{members_decide_view}
use Rattle.record_file.specs.Reading.{floor_in, kept}
use Rattle.sm_cli.specs.InputFiles.{floor_among}
use Rattle.sm_cli.specs.Run.{answer_to}
use Rattle.sm_cli.specs.RunLaws.{AreSameFiles, FilesDecideAnswer, SightingsDecideAnswer}

pub sightings_decide_answer : SightingsDecideAnswer
sightings_decide_answer request rule files others same =
    ap (answer_to request.output rule)
    (members_decide_view (floor_among request.floor files) (flat_map kept files) (flat_map kept others) same.sightings
    ∙ ap (λ n. view_at n (flat_map kept others)) same.floors)

-- the floor that was given is not above the greatest
given_below : (floor : ℕ) (files : List (List ℕ)) → floor ≤ floor_among floor files
given_below floor [] = omega arith
given_below floor (f ∷ files) = omega (arith, given_below (max floor (floor_in f)) files)

-- nor is that of a file
told_below : (floor : ℕ) (files : List (List ℕ)) (file : List ℕ) → Contains files file → floor_in file ≤ floor_among floor files
told_below floor [] file h = absurd (contains_none file h)
told_below floor (f ∷ files) file h =
    elim (contains_cases f file files h) [
      | inl e ↦ omega (arith, given_below (max floor (floor_in f)) files, ap floor_in e)
      | inr later ↦ told_below (max floor (floor_in f)) files file later
    ]

-- and what is above all of these is above the greatest
greatest_below : (floor bound : ℕ) (files : List (List ℕ)) → floor ≤ bound → ((file : List ℕ) → Contains files file → floor_in file ≤ bound)
    → floor_among floor files ≤ bound
greatest_below floor bound [] h each = h
greatest_below floor bound (f ∷ files) h each =
    greatest_below (max floor (floor_in f)) bound files (omega (arith, h, each f (contains_here f files)))
    (λ file there. each file (contains_later f file files there))

-- so the same files have the same greatest floor
same_floors : (floor : ℕ) (files others : List (List ℕ)) → AreSameFiles files others → floor_among floor files ≡ floor_among floor others
same_floors floor files others same =
    omega (
      arith,
      greatest_below floor (floor_among floor others) files (given_below floor others) (λ file h. told_below floor others file (same.there file h)),
      greatest_below floor (floor_among floor files) others (given_below floor files) (λ file h. told_below floor files file (same.here file h)),
    )

-- what a file keeps, all of them keep
kept_by_all : (files : List (List ℕ)) (file : List ℕ) (x : Key × Cell Value) → Contains files file → Contains (kept file) x → Contains (flat_map kept files) x
kept_by_all [] file x h k = absurd (contains_none file h)
kept_by_all (f ∷ files) file x h k =
    elim (contains_cases f file files h) [
      | inl e ↦ Contains-append_left (kept f) (flat_map kept files) x (subst (λ (g : List ℕ). Contains (kept g) x) (sym e) k)
      | inr later ↦ Contains-append_right (kept f) (flat_map kept files) x (kept_by_all files file x later k)
    ]

-- and what all keep, some file does
kept_by_one : (files : List (List ℕ)) (x : Key × Cell Value) → Contains (flat_map kept files) x → (file : List ℕ) × Contains files file × Contains (kept file) x
kept_by_one [] x h = absurd (contains_none x h)
kept_by_one (f ∷ files) x h =
    elim (Contains-append_cases (kept f) (flat_map kept files) x h) [
      | inl k ↦ (f, contains_here f files, k)
      | inr k ↦ let i = kept_by_one files x k in (i.0, contains_later f i.0 files i.1, i.2)
    ]

pub files_decide_answer : FilesDecideAnswer
files_decide_answer request rule files others same =
    sightings_decide_answer request rule files others (record {
      sightings = (
        λ x h. let i = kept_by_one files x h in kept_by_all others i.0 x (same.there i.0 i.1) i.2,
        λ x h. let i = kept_by_one others x h in kept_by_all files i.0 x (same.here i.0 i.1) i.2,
      );
      floors = same_floors request.floor files others same;
    })
