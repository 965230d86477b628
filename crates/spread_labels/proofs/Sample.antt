-- The rounds and the order on a graph of a few vertices, as another program computes them.
use Rattle.std.proofs.Common.{◌≡◌, ℕ, List, [], ◌∷◌, refl, map}
use Rattle.std.specs.Prelude.{Option, None, Some, nat_lt, slice_index_or}
use Rattle.port_graph.specs.declared.edge.Edge.{Edge}
use Rattle.spread_labels.specs.declared.label.Label.{Label}
use Rattle.spread_labels.specs.declared.label.Label.TheVariants.{Up, Down}
use Rattle.spread_labels.specs.declared.label.Mark.{Mark}
use Rattle.spread_labels.specs.Labels.{marks, candidates}
use Rattle.spread_labels.specs.Orders.{numbers_from, order, by_position}

abbrev keys : List ℕ
keys = 2 ∷ 5 ∷ 1 ∷ 3 ∷ 0 ∷ 4 ∷ []

abbrev sample : List (List Edge)
sample = (record { port = 1; to = 1 } ∷ record { port = 2; to = 3 } ∷ record { port = 3; to = 4 } ∷ record { port = 4; to = 3 } ∷ [])
    ∷ (record { port = 1; to = 0 } ∷ record { port = 2; to = 2 } ∷ record { port = 3; to = 3 } ∷ []) ∷ (record { port = 1; to = 1 } ∷ [])
    ∷ (record { port = 1; to = 0 } ∷ record { port = 2; to = 4 } ∷ record { port = 3; to = 1 } ∷ record { port = 4; to = 0 } ∷ [])
    ∷ (record { port = 1; to = 3 } ∷ record { port = 2; to = 0 } ∷ []) ∷ ([]) ∷ []

abbrev placed : List (List Edge)
placed = (record { port = 1; to = 2 } ∷ record { port = 2; to = 1 } ∷ [])
    ∷ (record { port = 1; to = 3 } ∷ record { port = 2; to = 2 } ∷ record { port = 3; to = 0 } ∷ record { port = 4; to = 2 } ∷ [])
    ∷ (record { port = 1; to = 1 } ∷ record { port = 2; to = 0 } ∷ record { port = 3; to = 3 } ∷ record { port = 4; to = 1 } ∷ [])
    ∷ (record { port = 1; to = 1 } ∷ record { port = 2; to = 4 } ∷ record { port = 3; to = 2 } ∷ []) ∷ (record { port = 1; to = 3 } ∷ []) ∷ ([]) ∷ []

sample_order : order sample (λ a b. nat_lt (slice_index_or keys a 0) (slice_index_or keys b 0)) ≡ (4 ∷ 0 ∷ 3 ∷ 1 ∷ 2 ∷ 5 ∷ [])
sample_order = refl

sample_placed : by_position sample (order sample (λ a b. nat_lt (slice_index_or keys a 0) (slice_index_or keys b 0))) ≡ placed
sample_placed = refl

abbrev mark : ℕ → Label → Option Mark
mark c l = Some (record { cost = c; label = l })

marks_0 : map (marks placed 0) (numbers_from 0 6) ≡ (mark 0 Down ∷ mark 1 Up ∷ mark 1 Up ∷ mark 2 Up ∷ mark 3 Up ∷ None ∷ [])
marks_0 = refl

ports_0 : map (λ s. map (λ (e : Edge). e.port) (candidates placed 0 s)) (numbers_from 0 6) ≡ (([]) ∷ (3 ∷ []) ∷ (2 ∷ []) ∷ (1 ∷ 3 ∷ []) ∷ (1 ∷ []) ∷ ([]) ∷ [])
ports_0 = refl

marks_1 : map (marks placed 1) (numbers_from 0 6) ≡ (mark 1 Down ∷ mark 0 Down ∷ mark 1 Up ∷ mark 1 Up ∷ mark 2 Up ∷ None ∷ [])
marks_1 = refl

ports_1 : map (λ s. map (λ (e : Edge). e.port) (candidates placed 1 s)) (numbers_from 0 6) ≡ ((2 ∷ []) ∷ ([]) ∷ (1 ∷ 4 ∷ []) ∷ (1 ∷ []) ∷ (1 ∷ []) ∷ ([]) ∷ [])
ports_1 = refl

marks_2 : map (marks placed 2) (numbers_from 0 6) ≡ (mark 1 Down ∷ mark 1 Down ∷ mark 0 Down ∷ mark 1 Up ∷ mark 2 Up ∷ None ∷ [])
marks_2 = refl

ports_2 : map (λ s. map (λ (e : Edge). e.port) (candidates placed 2 s)) (numbers_from 0 6) ≡ ((1 ∷ []) ∷ (2 ∷ 4 ∷ []) ∷ ([]) ∷ (3 ∷ []) ∷ (1 ∷ []) ∷ ([]) ∷ [])
ports_2 = refl

marks_3 : map (marks placed 3) (numbers_from 0 6) ≡ (mark 2 Down ∷ mark 1 Down ∷ mark 1 Down ∷ mark 0 Down ∷ mark 1 Up ∷ None ∷ [])
marks_3 = refl

ports_3 : map (λ s. map (λ (e : Edge). e.port) (candidates placed 3 s)) (numbers_from 0 6) ≡ ((1 ∷ 2 ∷ []) ∷ (1 ∷ []) ∷ (3 ∷ []) ∷ ([]) ∷ (1 ∷ []) ∷ ([]) ∷ [])
ports_3 = refl

marks_4 : map (marks placed 4) (numbers_from 0 6) ≡ (mark 3 Down ∷ mark 2 Down ∷ mark 2 Down ∷ mark 1 Down ∷ mark 0 Down ∷ None ∷ [])
marks_4 = refl

ports_4 : map (λ s. map (λ (e : Edge). e.port) (candidates placed 4 s)) (numbers_from 0 6) ≡ ((1 ∷ 2 ∷ []) ∷ (1 ∷ []) ∷ (3 ∷ []) ∷ (2 ∷ []) ∷ ([]) ∷ ([]) ∷ [])
ports_4 = refl

marks_5 : map (marks placed 5) (numbers_from 0 6) ≡ (None ∷ None ∷ None ∷ None ∷ None ∷ mark 0 Down ∷ [])
marks_5 = refl

ports_5 : map (λ s. map (λ (e : Edge). e.port) (candidates placed 5 s)) (numbers_from 0 6) ≡ (([]) ∷ ([]) ∷ ([]) ∷ ([]) ∷ ([]) ∷ ([]) ∷ [])
ports_5 = refl
