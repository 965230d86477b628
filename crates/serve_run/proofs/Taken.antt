-- What is taken from the front of a list: the first, and then the others.
use Rattle.std.proofs.Common.{◌≡◌, ◌∙◌, ◌<◌, List, [], ◌∷◌, None, Some, drop, length, refl, sym, ap, arith}
use Rattle.std.specs.Prelude.{slice_get}
use Rattle.sm_manager.specs.declared.outgoing.Outgoing.{Outgoing}
use Rattle.acting_manager.specs.Acting.{Acting}
use Rattle.acting_manager.specs.declared.note.Note.{Note}

module _ {X : Type 0} where
  taken_first : (xs : List X) (x : X) → Some x ≡ slice_get xs 0 → xs ≡ x ∷ drop 1 xs
  taken_first [] x e = absurd (cc)
  taken_first (y ∷ ys) x e = let same : y ≡ x = cc in ap (λ z. z ∷ ys) same

  -- the first, and those behind it
  pub first_taken : (xs rest : List X) (x : X) → Some x ≡ slice_get xs 0 → rest ≡ drop 1 xs → xs ≡ x ∷ rest
  first_taken xs rest x e behind = taken_first xs x e ∙ ap (λ later. x ∷ later) (sym behind)

  pub fewer_taken : (xs rest : List X) (x : X) → xs ≡ x ∷ rest → length rest < length xs
  fewer_taken xs rest x e = let count = ap length e in omega (arith, count)

  -- none is left
  pub none_taken : (xs : List X) → None ≡ slice_get xs 0 → xs ≡ []
  none_taken [] e = refl
  none_taken (y ∷ ys) e = absurd (cc)

-- a manager without notes
abbrev pub unnoted : Acting → Acting
unnoted a = record a { notes = [] }

-- a manager without packets that are ready
abbrev pub unready : Acting → Acting
unready a = record a { ready = [] }

pub none_noted : (a new : Acting) → None ≡ slice_get a.notes 0 → new ≡ record a { notes = drop 1 a.notes } → new ≡ unnoted a
none_noted a new e rest = rest ∙ ap (λ (notes : List Note). record a { notes = drop 1 notes }) (none_taken a.notes e)

pub none_ready : (a new : Acting) → None ≡ slice_get a.ready 0 → new ≡ record a { ready = drop 1 a.ready } → new ≡ unready a
none_ready a new e rest = rest ∙ ap (λ (ready : List Outgoing). record a { ready = drop 1 ready }) (none_taken a.ready e)
