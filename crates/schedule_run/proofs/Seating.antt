-- The managers of a new world: one for each seat.
use Rattle.std.proofs.Common.{◌≡◌, ◌∙◌, ℕ, ◌+◌, ◌<◌, List, [], ◌∷◌, ◌++◌, map, take, length, get_or, Option, None, Some, sym, ap}
use Rattle.std.specs.Prelude.{false, option_map, slice_get}
use Rattle.std.specs.Option.{option_map_or}
use Rattle.std.proofs.lemmas.List.{map-append, take_more}
use Rattle.topo_file.specs.declared.node.Node.{Node}
use Rattle.schedule_file.specs.Manner.{newest_of}
use Rattle.schedule_file.specs.declared.schedule.Seat.{Seat}
use Rattle.lft_blocks.specs.Planning.{Planning}
use Rattle.sm_manager.specs.Manager.{Manager}
use Rattle.serve_run.specs.Acting.{Acting, new_acting}
use Rattle.schedule_run.specs.Commands.{guid_at, manager_of, new_decider, new_seated, usual_limits, usual_timing}
use Rattle.schedule_run.specs.World.{DeciderValue, SeatedValue}

told : {X : Type 0} (f : X → ℕ) (o : Option X) (n : ℕ) → option_map f o ≡ Some n → n ≡ option_map_or f o 0
told f None n e = absurd (cc)
told f (Some x) n e = let same : f x ≡ n = cc in sym same

-- the GUID of a port
pub guid_is : (nodes : List Node) (seat : Seat) (guid : ℕ) → option_map (λ (node : Node). node.guid + seat.at.port) (slice_get nodes seat.at.node) ≡ Some guid
    → guid ≡ guid_at nodes seat.at
guid_is nodes seat guid e = told (λ (node : Node). node.guid + seat.at.port) (slice_get nodes seat.at.node) guid e

-- a manager in its seat, as it is made
pub is_seated : (planning : Planning) (nodes : List Node) (seat : Seat) (m : Manager) → m ≡ manager_of planning nodes seat
    → record { name = seat.name; at = seat.at; manager = m } ≡ new_seated planning nodes seat
is_seated planning nodes seat m same =
    let Value : Type 0 = SeatedValue in
    let made : Manager → Value = λ m. record { name = seat.name; at = seat.at; manager = m } in
    ap made same

pub decides : (planning : Planning) (nodes : List Node) (seat : Seat) (m : Manager) (newest : ℕ) (a : Acting) → m ≡ manager_of planning nodes seat
    → newest ≡ option_map_or (λ newest. newest) (newest_of seat.manner) 0 → a ≡ new_acting m usual_timing usual_limits newest
    → record { name = seat.name; at = seat.at; acting = a; is_awake = false } ≡ new_decider planning nodes seat
decides planning nodes seat m newest a same given is =
    let Value : Type 0 = DeciderValue in
    let made : Acting → Value = λ a. record { name = seat.name; at = seat.at; acting = a; is_awake = false } in
    ap made (is ∙ (λ i. new_acting (same i) usual_timing usual_limits (given i)))

-- one more
pub one_more : {X Y : Type 0} (f : X → Y) (xs : List X) (i : ℕ) (x : X) (before : List Y) (y : Y) → i < length xs → x ≡ get_or xs i x
    → before ≡ map f (take i xs) → y ≡ f x → before ++ y ∷ [] ≡ map f (take (i + 1) xs)
one_more f xs i x before y h here so_far same =
    ap (λ b. b ++ y ∷ []) so_far ∙ ap (λ z. map f (take i xs) ++ z ∷ []) same ∙ sym (map-append f (take i xs) (x ∷ []))
    ∙ ap (map f) (ap (λ z. take i xs ++ z ∷ []) here ∙ sym (take_more xs i x h))
