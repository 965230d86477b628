-- The least table room, as a walk of the cells finds it.
use Rattle.std.proofs.Common.{◌≡◌, ◌≤◌, ℕ, List, [], ◌∷◌, ◌++◌, refl, ap, arith, length, take, drop}
use Rattle.std.proofs.lemmas.Grind.{common_steps}
use Rattle.std.specs.Prelude.{Option, None, Some}
use Rattle.std.specs.List.{cons_option, filter_map}
use Rattle.reply_facts.specs.Known.{cap_of}
use Rattle.subnet_view.specs.Reading.{Cells, switches, usable_guid}
use Rattle.lid_assign.specs.Claims.{least_room, room}
use Rattle.lid_assign.specs.Room.{cap_if, usable_cap}

-- no room is above the first number that is no unicast LID
pub at_most : (caps : List ℕ) → least_room caps ≤ 0xC000
at_most [] = omega arith
at_most (cap ∷ caps) = omega (arith, at_most caps)

pub room_at_most : (cells : Cells) → room cells ≤ 0xC000
room_at_most cells = at_most (filter_map (cap_of cells) (switches cells))

-- a list that is written over by one as long
pub written_over : {X : Type 0} (n : ℕ) (xs ys : List X) → n ≡ length xs → length ys ≡ length xs → take n (ys ++ drop (length ys) xs) ≡ ys
written_over n xs ys e l = grind (arith, common_steps)

-- the table rooms of the cells' nodes are those of the usable switches among them
pub caps_walked : (cells xs : Cells) → filter_map (usable_cap cells) xs ≡ filter_map (cap_of cells) (filter_map (usable_guid cells) xs)
caps_walked cells [] = refl
caps_walked cells (x ∷ xs) = by_guid (usable_guid cells x) (caps_walked cells xs)
  where
    by_guid : (found : Option ℕ) → filter_map (usable_cap cells) xs ≡ filter_map (cap_of cells) (filter_map (usable_guid cells) xs)
        → cons_option (cap_if cells found) (filter_map (usable_cap cells) xs)
        ≡ filter_map (cap_of cells) (cons_option found (filter_map (usable_guid cells) xs))
    by_guid None h = h
    by_guid (Some guid) h = ap (cons_option (cap_of cells guid)) h

pub room_walked : (cells : Cells) → least_room (filter_map (usable_cap cells) cells) ≡ room cells
room_walked cells = ap least_room (caps_walked cells cells)
