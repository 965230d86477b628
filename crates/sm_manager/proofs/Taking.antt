-- Packets taken from a manager's queue: the first, and then the others.
use Rattle.std.proofs.Common.{◌≡◌, ◌∙◌, ◌<◌, List, [], ◌∷◌, None, Some, length, refl, sym, ap, arith}
use Rattle.sm_manager.specs.declared.outgoing.Outgoing.{Outgoing}
use Rattle.sm_manager.specs.Manager.{Manager, after_take_outgoing, taken_of, emptied}

first_of : (m : Manager) (queue : List Outgoing) (out : Outgoing) → (taken_of m queue).packet ≡ Some out
    → queue ≡ out ∷ (taken_of m queue).manager.outgoing
first_of m [] out e = absurd (cc)
first_of m (x ∷ later) out e = let same : x ≡ out = cc in ap (λ y. y ∷ later) same

-- the first packet of the queue, and those after it
pub first_is : (m left : Manager) (out : Outgoing) → Some out ≡ (after_take_outgoing m).packet → left ≡ (after_take_outgoing m).manager
    → m.outgoing ≡ out ∷ left.outgoing
first_is m left out e same = first_of m m.outgoing out (sym e) ∙ ap (λ m. out ∷ m.outgoing) (sym same)

pub fewer_left : (m left : Manager) (out : Outgoing) → Some out ≡ (after_take_outgoing m).packet → left ≡ (after_take_outgoing m).manager
    → length left.outgoing < length m.outgoing
fewer_left m left out e same = let count = ap length (first_is m left out e same) in omega (arith, count)

none_of : (m : Manager) (queue : List Outgoing) → (taken_of m queue).packet ≡ None → queue ≡ []
none_of m [] e = refl
none_of m (x ∷ later) e = absurd (cc)

-- none is left
pub none_is : (m : Manager) → (after_take_outgoing m).packet ≡ None → m.outgoing ≡ []
none_is m e = none_of m m.outgoing e

emptied_of : (m : Manager) (queue : List Outgoing) → emptied (taken_of m queue).manager ≡ emptied m
emptied_of m [] = refl
emptied_of m (x ∷ later) = refl

-- what is left in the end is the same
pub taken_emptied : (m : Manager) → emptied (after_take_outgoing m).manager ≡ emptied m
taken_emptied m = emptied_of m m.outgoing

pub none_emptied : (m : Manager) → (after_take_outgoing m).packet ≡ None → (after_take_outgoing m).manager ≡ emptied m
none_emptied m e = nothing m m.outgoing refl e
  where
    nothing : (m : Manager) (queue : List Outgoing) → m.outgoing ≡ queue → (taken_of m queue).packet ≡ None → (taken_of m queue).manager ≡ emptied m
    nothing m [] q e = ap (λ (o : List Outgoing). record m { outgoing = o }) q
    nothing m (x ∷ later) q e = absurd (cc)
