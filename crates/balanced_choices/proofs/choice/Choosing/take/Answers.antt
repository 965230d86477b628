use Rattle.std.proofs.Common.{◌≡◌, ◌<◌, ℕ, List, sym, ap, ◌∙◌, arith, get_or, length}
use Rattle.std.proofs.lemmas.List.{length-set, with_items_is}
use Rattle.std.specs.Prelude.{slice_set}
use Rattle.balanced_choices.specs.declared.ways.Change.TheVariants.{Add}
use Rattle.balanced_choices.specs.EdgesTaken.{edges_taken, way_by}
use Rattle.balanced_choices.specs.Ways.{edge_taken, way_from, with_changes}
use Rattle.balanced_choices.specs.BalancedChoices.{Chosen, with_choice}
use Rattle.balanced_choices.specs.Choosing.{AtEnd}
use Rattle.balanced_choices.proofs.EdgesTaken.{taken_long, taken_with, way_same}
use Rattle.balanced_choices.proofs.choice.Choosing.take.Goals as goal

pub index_mut-requires-2 : goal.index_mut-requires-2
index_mut-requires-2 c =
    let ok = c.self.inside.taken.ok in
    omega (
      arith,
      c.requires,
      ap (λ a. length a.ways.edges) c.self.view_is,
      ap length c.self.invariant.taken_are,
      taken_long c.self.inside.ways.now.edges c.self.inside.choices.items,
      ok,
    )

pub add_packets-requires : goal.add_packets-requires
add_packets-requires c =
    omega (
      arith,
      c.self.invariant.loads_long,
      ap length c.deref_mut.ensures.value,
      ap length c.deref-2.ensures.value,
      length-set c.self.inside.taken.items c.args.position c.edge_taken.result,
      ap length c.self.invariant.taken_are,
      taken_long c.self.inside.ways.now.edges c.self.inside.choices.items,
    )

pub invariant_of-self : goal.invariant_of-self
invariant_of-self c =
    let ways = c.self.inside.ways.now.edges in
    let p = c.args.position in
    let old = c.self.inside.choices.items in
    let below : p < length ways = omega (arith, c.requires, ap (λ a. length a.ways.edges) c.self.view_is) in
    let loads = with_items_is c.self.inside.loads c.add_packets.new.loads (c.add_packets.auto.loads ∙ c.deref_mut.ensures.len) in
    let edge : c.edge_taken.result ≡ edge_taken ways (slice_set old p c.args.choice) p =
    c.edge_taken.ensures ∙ (λ i. edge_taken (c.ways.view_is i).edges (c.deref.ensures.value i) p) in
    record {
      choices_long = length-set old p c.args.choice ∙ c.self.invariant.choices_long;
      taken_are = (λ i. slice_set (c.self.invariant.taken_are i) p (edge i)) ∙ taken_with ways old p c.args.choice below;
      loads_long = ap length loads ∙ c.add_packets.auto.loads ∙ ap length c.deref_mut.ensures.value ∙ c.self.invariant.loads_long;
    }

pub returns-clause-chosen : goal.returns-clause-chosen
returns-clause-chosen c =
    let own = c.self.inside.ways.now in
    let ways = own.edges in
    let p = c.args.position in
    let old = c.self.inside.choices.items in
    let choices : List ℕ = slice_set old p c.args.choice in
    let below : p < length ways = omega (arith, c.requires, ap (λ a. length a.ways.edges) c.self.view_is) in
    let edge : c.edge_taken.result ≡ edge_taken ways choices p =
    c.edge_taken.ensures ∙ (λ i. edge_taken (c.ways.view_is i).edges (c.deref.ensures.value i) p) in
    let new : c.deref-2.result.now ≡ edges_taken ways choices =
    c.deref-2.ensures.value ∙ (λ i. slice_set (c.self.invariant.taken_are i) p (edge i)) ∙ taken_with ways old p c.args.choice below in
    let with : ℕ → List ℕ → List ℕ → List ℕ = λ n. with_changes (Add n) in
    let before = c.self.inside.loads.items in
    let is : c.add_packets.new.loads ≡ with (get_or own.sent p 0) before (way_from ways choices p) =
    c.add_packets.ensures ∙ (λ i. with (get_or (c.ways.view_is i).sent p 0) (c.deref_mut.ensures.value i) (way_by (new i) p))
    ∙ ap (with (get_or own.sent p 0) before) (way_same ways choices p) in
    let loads = with_items_is c.self.inside.loads c.add_packets.new.loads (c.add_packets.auto.loads ∙ c.deref_mut.ensures.len) in
    sym (ap (λ (a : AtEnd). with_choice a.ways.edges a.ways.sent a.chosen p c.args.choice) c.self.view_is)
    ∙ sym (ap (λ (ls : List ℕ). let after : Chosen = record { choices = choices; loads = ls } in after) (loads ∙ is))
