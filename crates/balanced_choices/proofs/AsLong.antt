-- Rounds keep the numbers of ends and of loads.
use Rattle.std.proofs.Common.{◌≡◌, ◌+◌, ◌-◌, ◌*◌, ℕ, zero, suc, List, [], ◌∷◌, refl, ◌∙◌, get_or, length, replicate}
use Rattle.std.proofs.lemmas.List.{length-replicate, length-set}
use Rattle.std.specs.Prelude.{slice_index_or, slice_set}
use Rattle.port_graph.specs.declared.edge.Edge.{Edge}
use Rattle.spread_labels.specs.Orders.{numbers_from}
use Rattle.balanced_choices.specs.declared.level_digit.LevelDigit.{LevelDigit}
use Rattle.balanced_choices.specs.declared.choice_rounds.Destination.{Destination}
use Rattle.balanced_choices.specs.declared.ways.Change.{Change}
use Rattle.balanced_choices.specs.declared.ways.Change.TheVariants.{Add, Remove}
use Rattle.balanced_choices.specs.Ways.{changed, lightest, way_from, with_changes}
use Rattle.balanced_choices.specs.BalancedChoices.{Balance, Chosen, after_first, at_first, choices_in, choose_each, ends_of, first_choice}
use Rattle.balanced_choices.specs.BalancedChoices.{near_first, towards, with_all, with_choice, with_end, with_ends, without_packets}

pub record IsAsLong (old new : Balance) : Type 0 where
  pub ends : length new.choices ≡ length old.choices
  pub loads : length new.loads ≡ length old.loads

pub still_as_long : (a b c : Balance) → IsAsLong a b → IsAsLong b c → IsAsLong a c
still_as_long a b c first then = record { ends = then.ends ∙ first.ends; loads = then.loads ∙ first.loads }

changes_long : (change : Change) (loads cs : List ℕ) → length (with_changes change loads cs) ≡ length loads
changes_long change loads [] = refl
changes_long change loads (c ∷ cs) =
    let load = changed change (get_or loads c 0) in
    changes_long change (slice_set loads c load) cs ∙ length-set loads c load

each_long : (choice : Chosen → ℕ → ℕ) (ways : List (List Edge)) (sent : List ℕ) (old : Chosen) (ps : List ℕ)
    → length (choose_each choice ways sent old ps).loads ≡ length old.loads
each_long choice ways sent old [] = refl
each_long choice ways sent old (p ∷ ps) =
    each_long choice ways sent (with_choice ways sent old p (choice old p)) ps
    ∙ changes_long (Add (get_or sent p 0)) old.loads (way_from ways (slice_set old.choices p (choice old p)) p)

without_long : (ways : List (List Edge)) (sent choices loads ps : List ℕ) → length (without_packets ways sent choices loads ps) ≡ length loads
without_long ways sent choices loads [] = refl
without_long ways sent choices loads (p ∷ ps) =
    without_long ways sent choices (with_changes (Remove (get_or sent p 0)) loads (way_from ways choices p)) ps
    ∙ changes_long (Remove (get_or sent p 0)) loads (way_from ways choices p)

chosen_long : (round : ℕ) (ways : List (List Edge)) (sent : List ℕ) (digits : List LevelDigit) (order : List ℕ) (number : ℕ) (old : Chosen)
    → length (choices_in round ways sent digits order number old).loads ≡ length old.loads
chosen_long zero ways sent digits order number old = each_long (λ now p. first_choice ways digits number p) ways sent old order
chosen_long (suc round) ways sent digits order number old =
    let without = without_packets ways sent old.choices old.loads (numbers_from 0 (length ways)) in
    each_long (λ now p. lightest ways now.choices now.loads p) ways sent (record { choices = old.choices; loads = without }) order
    ∙ without_long ways sent old.choices old.loads (numbers_from 0 (length ways))

module _ (round : ℕ) where
  end_long : (ways : List (List Edge)) (sent : List ℕ) (digits : List LevelDigit) (order : List ℕ) (number first : ℕ) (old : Balance) (end : ℕ)
      → IsAsLong old (with_end round ways sent digits order number first old end)
  end_long ways sent digits order number first old end =
      let before : Chosen = record { choices = slice_index_or old.choices end []; loads = old.loads } in
      let own = choices_in round ways sent digits order (number + (end - first)) before in
      record {
        ends = length-set old.choices end own.choices;
        loads = chosen_long round ways sent digits order (number + (end - first)) before;
      }

  pub ends_long : (ways : List (List Edge)) (sent : List ℕ) (digits : List LevelDigit) (order : List ℕ) (number first : ℕ) (old : Balance) (ends : List ℕ)
      → IsAsLong old (with_ends round ways sent digits order number first old ends)
  ends_long ways sent digits order number first old [] = record { ends = refl; loads = refl }
  ends_long ways sent digits order number first old (end ∷ ends) =
      let next = with_end round ways sent digits order number first old end in
      still_as_long old next (with_ends round ways sent digits order number first next ends)
      (end_long ways sent digits order number first old end) (ends_long ways sent digits order number first next ends)

  pub all_long : (graph : List (List Edge)) (sent : List ℕ) (digits : List LevelDigit) (old : Balance) (end : ℕ) (ds : List Destination)
      → IsAsLong old (with_all round graph sent digits old end ds)
  all_long graph sent digits old end [] = record { ends = refl; loads = refl }
  all_long graph sent digits old end (d ∷ ds) =
      let ways = towards graph d.position in
      let next = with_ends round ways sent digits (near_first ways) d.number end old (numbers_from end d.ends) in
      still_as_long old next (with_all round graph sent digits next (end + d.ends) ds)
      (ends_long ways sent digits (near_first ways) d.number end old (numbers_from end d.ends))
      (all_long graph sent digits next (end + d.ends) ds)

module _ (graph : List (List Edge)) (sent : List ℕ) (digits : List LevelDigit) (ds : List Destination) where
  -- choices for each end
  pub first_ends : length (after_first graph sent digits ds).choices ≡ ends_of 0 ds
  first_ends =
      (all_long 0 graph sent digits (at_first graph ds) 0 ds).ends ∙ length-replicate (ends_of 0 ds) (replicate (length graph) 0)

  -- and 256 loads for each position
  pub first_loads_long : length (after_first graph sent digits ds).loads ≡ 256 * length graph
  first_loads_long =
      (all_long 0 graph sent digits (at_first graph ds) 0 ds).loads ∙ length-replicate (256 * length graph) 0
