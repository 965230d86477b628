-- The generations of what a manager knows: they fit 32 bits, and what a sweep is told is of its own.
use Rattle.std.proofs.Common.{◌≡◌, inl, inr, ℕ, ◌<◌, ◌≤◌, ◌^◌, List, [], ◌∷◌, ◌++◌, cond, map, refl, sym, ap, ◌∙◌, subst, arith}
use Rattle.std.proofs.lemmas.Bool.{cond_both, and_parts, le-leb, ltb-true}
use Rattle.std.proofs.lemmas.List.Elements.{All-head, All-tail}
use Rattle.std.specs.FinMap.{entries}
use Rattle.std.specs.Prelude.{Contains, Option, Some, None, Ok, All, IsTrue, max, nat_le, nat_lt, ◌==◌, ◌&&◌}
use Rattle.fact_join.specs.declared.cell.Cell.{Cell}
use Rattle.fact_join.specs.Cell.{generation_of}
use Rattle.reply_facts.specs.declared.key.Key.{Key}
use Rattle.reply_facts.specs.declared.value.Value.{Value}
use Rattle.reply_facts.specs.declared.report.Context.{Context}
use Rattle.reply_facts.specs.declared.report.Context.TheVariants.{Start, Via, About}
use Rattle.attr_codec.specs.declared.node_info.NodeInfo.{NodeInfo}
use Rattle.attr_codec.specs.NodeTypeNumber.{type_of_number}
use Rattle.smp_bytes.specs.declared.node_type.NodeType.{NodeType}
use Rattle.smp_bytes.specs.Header.{node_info, port_info}
use Rattle.smp_bytes.specs.Field.{number_in}
use Rattle.smp_bytes.specs.Packet.{attribute_id}
use Rattle.fact_store.specs.Floor.{kept}
use Rattle.fact_store.specs.Merge.{merge}
use Rattle.reply_facts.specs.Report.{Sightings, sightings_of_link, sightings_of_kind, sightings_by_port_info, sightings_by_switch_info, node_info_of, sightings_of}
use Rattle.reply_facts.specs.Sighting.{IsSighting, is_key, is_generation, is_cell_of}
use Rattle.fact_store.specs.Seen.{newest_of, seen}
use Rattle.fact_store.specs.View.{Facts, raised, view, view_at, cells_of, no_facts, AreInRange}
use Rattle.fact_store.proofs.Entries.{entries-view}
use Rattle.fact_store.proofs.Orders.{contained_get}
use Rattle.fact_store.proofs.SightingRanges.{newest_at}
use Rattle.fact_store.proofs.Seen.{get-seen, newest_there}
use Rattle.fact_store.proofs.Views.{cell_was_seen, found_at_floor, found_of_view, raised_is_merge, get-view, view_of_both, view_of_its_cells}
use Rattle.subnet_view.proofs.Apart.{contains-from_map}
use Rattle.subnet_view.proofs.Members.{contains_here, contains_later, contains_cases, contains_none}
use Rattle.sweep.specs.declared.answer.Answer.{Answer}
use Rattle.sweep.specs.declared.question.Question.{Question}
use Rattle.sweep.specs.declared.question.Question.TheVariants as ask
use Rattle.sweep.specs.declared.request.Request.{Request}
use Rattle.sweep.specs.Sweep.{Sweep}
use Rattle.sweep.specs.Replies.{answer_by, judged, report_for, sightings_by}
use Rattle.sm_manager.specs.Manager.{newest_held}
use Rattle.manager_laws.proofs.Accepted.{accepted}

-- this is so of the generation of each sighting
abbrev pub AreOf : (ℕ → Type 0) → Sightings → Type 0
AreOf P [] = Unit {0}
AreOf P (x ∷ told) = P (generation_of x.1) × AreOf P told

pub of_both : (P : ℕ → Type 0) (told more : Sightings) → AreOf P told → AreOf P more → AreOf P (told ++ more)
of_both P [] more all also = also
of_both P (x ∷ told) more all also = (all.0, of_both P told more all.1 also)

abbrev pub AreSmall : Sightings → Type 0
AreSmall told = AreOf (λ g. g < 2 ^ 32) told

small_there : (told : Sightings) (x : Key × Cell Value) → AreSmall told → Contains told x → generation_of x.1 < 2 ^ 32
small_there [] x small there = absurd (contains_none x there)
small_there (y ∷ told) x small there =
    elim (contains_cases y x told there) [
      | inl i ↦ let same = ap (λ (z : Key × Cell Value). generation_of z.1) i in let is = small.0 in omega (arith, same, is)
      | inr k ↦ small_there told x small.1 k
    ]

small_from : (told : Sightings) → ((x : Key × Cell Value) → Contains told x → generation_of x.1 < 2 ^ 32) → AreSmall told
small_from [] all = tt
small_from (x ∷ told) all = (all x (contains_here x told), small_from told (λ y there. all y (contains_later x y told there)))

pub generation_small : (g : ℕ) → IsTrue (is_generation g) → g < 2 ^ 32
generation_small g is = ltb-true _ _ (and_parts (nat_le 1 g) (nat_lt g (2 ^ 32)) is).1

sighting_small : (x : Key × Cell Value) → IsSighting x → generation_of x.1 < 2 ^ 32
sighting_small x is =
    let parts = and_parts (is_key x.0 && is_generation (generation_of x.1)) (is_cell_of x.0 x.1) is in
    let generation = and_parts (is_key x.0) (is_generation (generation_of x.1)) parts.0 in
    generation_small (generation_of x.1) generation.1

pub all_small : (told : Sightings) → All IsSighting told → AreSmall told
all_small [] all = tt
all_small (x ∷ told) all = (sighting_small x (All-head IsSighting x told all), all_small told (All-tail IsSighting x told all))

-- what is known is the view of sightings of such generations
pub record KnowsSmall (facts : Facts) : Type 0 where
  pub floor : ℕ
  pub told : Sightings
  pub is : facts ≡ view_at floor told
  pub small : AreSmall told
  pub few : floor < 2 ^ 32

pub in_range_small : (facts : Facts) → AreInRange facts → facts.floor < 2 ^ 32 → KnowsSmall facts
in_range_small facts in_range few =
    record {
      floor = facts.floor;
      told = cells_of facts;
      is = sym (view_of_its_cells facts);
      small = small_from (cells_of facts) (λ x there. sighting_small x (in_range x.0 x.1 (contained_get facts.found x.0 x.1 there)));
      few = few;
    }

pub merged_small : (facts : Facts) (floor : ℕ) (told : Sightings) → KnowsSmall facts → floor < 2 ^ 32 → AreSmall told
    → KnowsSmall (merge facts (view_at floor told))
merged_small facts floor told knows few small =
    record {
      floor = max knows.floor floor;
      told = knows.told ++ told;
      is = ap (λ x. merge x (view_at floor told)) knows.is ∙ sym (view_of_both knows.floor floor knows.told told);
      small = of_both (λ g. g < 2 ^ 32) knows.told told knows.small small;
      few = omega (arith, knows.few, few);
    }

pub raised_small : (facts : Facts) (floor : ℕ) → KnowsSmall facts → floor < 2 ^ 32 → KnowsSmall (raised facts floor)
raised_small facts floor knows few = subst KnowsSmall (sym (raised_is_merge facts floor)) (merged_small facts floor [] knows few tt)

-- so is their floor
pub floor_small : (facts : Facts) → KnowsSmall facts → facts.floor < 2 ^ 32
floor_small facts knows = omega (arith, knows.few, ap (λ (x : Facts). x.floor) knows.is)

-- so is the greatest of them
pub newest_small : (facts : Facts) → KnowsSmall facts → newest_held facts < 2 ^ 32
newest_small facts knows = subst (λ x. newest_held x < 2 ^ 32) (sym knows.is) (by_cells (cells_of (view_at knows.floor knows.told)) refl)
  where
    by_cells : (es : List (Key × Cell Value)) → cells_of (view_at knows.floor knows.told) ≡ es → newest_of (map (λ e. e.1) es) < 2 ^ 32
    by_cells [] e = omega arith
    by_cells (x ∷ es) e =
        let (c, there, newest) = newest_there x.1 (map (λ y. y.1) es) in
        let (y, among, same) = contains-from_map (λ (y : Key × Cell Value). y.1) (x ∷ es) c there in
        let held = contained_get (view_at knows.floor knows.told).found y.0 y.1 (subst (λ zs. Contains zs y) (sym e) among) in
        let (d, sighted, generation) = (newest_at knows.told y.0 y.1 (cell_was_seen knows.floor knows.told y.0 y.1 held)).sighted in
        let small = small_there knows.told (y.0, d) knows.small sighted in
        let alike = ap generation_of same in
        omega (arith, small, generation, alike, newest)

-- what a report tells is of its generation
module _ (P : ℕ → Type 0) (generation : ℕ) (is : P generation) where
  link_of : (context : Context) (info : NodeInfo) → AreOf P (sightings_of_link generation context info)
  link_of (Via peer port) info = (is, (is, tt))
  link_of Start info = tt
  link_of (About guid) info = tt

  kind_of : (context : Context) (info : NodeInfo) (m : Option NodeType) → AreOf P (sightings_of_kind generation context info m)
  kind_of context info None = tt
  kind_of context info (Some kind) = (is, (is, link_of context info))

  port_of : (context : Context) (packet : List ℕ) → AreOf P (sightings_by_port_info generation context packet)
  port_of (About node) packet = (is, (is, tt))
  port_of Start packet = tt
  port_of (Via guid port) packet = tt

  switch_of : (context : Context) (packet : List ℕ) → AreOf P (sightings_by_switch_info generation context packet)
  switch_of (About node) packet = (is, tt)
  switch_of Start packet = tt
  switch_of (Via guid port) packet = tt

  report_of : (context : Context) (packet : List ℕ) → AreOf P (sightings_of (record { generation = generation; context = context; bytes = packet }))
  report_of context packet =
      cond_both (number_in attribute_id packet == node_info) _ _ (AreOf P)
      (λ _. kind_of context (node_info_of packet) (type_of_number (node_info_of packet).node_type))
      (λ _. cond_both (number_in attribute_id packet == port_info) _ _ (AreOf P) (λ _. port_of context packet) (λ _. switch_of context packet))

-- so what an answer tells is of the generation of its sweep
pub answer_of : (P : ℕ → Type 0) (s : Sweep) (bytes : List ℕ) (answer : Answer) → P s.generation → judged s bytes ≡ Ok answer → AreOf P (sightings_by answer)
answer_of P s bytes answer is taken =
    let a = accepted s bytes answer taken in
    subst (λ x. AreOf P (sightings_by x)) (sym a.answer_is) (by_question a.request a.request.question)
  where
    by_question : (r : Request) (q : Question) → AreOf P (sightings_by (answer_by q (report_for s r bytes)))
    by_question r (ask.Manager guid port) = tt
    by_question r question = report_of P s.generation is r.context bytes

-- none is below a floor: each sighting is kept
all_above : (floor : ℕ) (told : Sightings) → AreOf (λ g. floor ≤ g) told → kept floor told ≡ told
all_above floor [] above = refl
all_above floor (x ∷ told) above =
    let one = above.0 in
    ap (λ t. cond t (x ∷ kept floor told) (kept floor told)) (le-leb floor (max 1 (generation_of x.1)) (omega (arith, one)))
    ∙ ap (λ (s : Sightings). x ∷ s) (all_above floor told above.1)

-- so at the floor they say together what they say at floor 1
pub cells_above : (floor : ℕ) (told : Sightings) → AreOf (λ g. floor ≤ g) told → cells_of (view_at floor told) ≡ cells_of (view told)
cells_above floor told above = ap entries (found_at_floor floor told ∙ ap seen (all_above floor told above) ∙ sym (found_of_view told))

-- where nothing is known, there is no cell, no generation, and nothing out of range
pub nothing_found : cells_of no_facts ≡ []
nothing_found = entries-view []

pub nothing_newest : newest_held no_facts ≡ 0
nothing_newest = ap (λ es. newest_of (map (λ e. e.1) es)) nothing_found

pub nothing_held : AreInRange no_facts
nothing_held key c e = absurd (cc (sym (get-seen [] key) ∙ sym (get-view [] key) ∙ e))
