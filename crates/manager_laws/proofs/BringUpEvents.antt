-- The events of a manager that brings up the examples' fabric, whatever its own events are: a request is lost and sent again, and copied.
use Rattle.std.proofs.Common.{ℕ, ◌+◌, ◌*◌, List, [], ◌∷◌, ◌++◌, replicate}
use Rattle.manager_laws.specs.Scene.{Answer, Deliver, Event, Lose, Repeat, Send as SendFrom}
use Rattle.manager_laws.proofs.ExampleFabric.{port}

-- so many deliveries of a packet
abbrev pub deliveries : {E : Type 0} → (Event → E) → ℕ → ℕ → List E
deliveries around hops serial = replicate (hops + 1) (around (Deliver serial))

-- a request goes out over as many cables as its path has ports, and its answer comes back over as many
abbrev pub there_and_back : {E : Type 0} → (Event → E) → ℕ → ℕ → List E → List E
there_and_back around hops serial heard = deliveries around hops serial ++ (deliveries around hops (serial + 1) ++ heard)

-- by what happens around, how the next request is sent, and what sends a request again or hears a packet
module _ {E : Type 0} (around : Event → E) (sends : ℕ → List E) (send hear : ℕ → E) where
  -- the first request is lost, and sent again; then it is copied, and both are answered
  abbrev first_trip : List E
  first_trip =
      sends 0
      ++ around (Lose 0) ∷ send 0 ∷ around (Repeat 1)
      ∷ around (Deliver 1) ∷ around (Deliver 2) ∷ around (Deliver 3) ∷ hear 0 ∷ around (Deliver 4) ∷ hear 1 ∷ []

  abbrev trip : ℕ → ℕ → ℕ → List E
  trip number handed hops = sends number ++ there_and_back around hops (2 * number + 3) (hear handed ∷ [])

  -- the last one is handed up to the other manager
  abbrev pub to_agents : List E
  to_agents =
      first_trip ++ (trip 1 2 0 ++ (trip 2 3 1 ++ (trip 3 4 1 ++ (trip 4 5 1 ++ (trip 5 6 1 ++ (trip 6 7 1 ++ (trip 7 8 2 ++ (trip 8 9 2
      ++ (sends 9 ++ deliveries around 2 21)))))))))

  -- which answers it
  abbrev pub answers_it : E
  answers_it = around (SendFrom (port 2 1) (Answer 10 0 (replicate 64 0)))

  abbrev pub answered : List E
  answered = deliveries around 2 22 ++ hear 11 ∷ []

  abbrev pub between : List E
  between = to_agents ++ answers_it ∷ answered

  -- LIDs, the block and the top
  abbrev pub after : List E
  after = trip 10 12 2 ++ (trip 11 13 2 ++ (trip 12 14 2 ++ (trip 13 15 1 ++ trip 14 16 1)))
