-- Lemmas on what several reads or writes do to known bytes.
use Rattle.std.proofs.Common.{◌≡◌, ℕ, ◌-◌, List, ◌++◌, Option, None, Some, length, take, drop, sym, ap, ◌∙◌}
use Rattle.std.proofs.Common.{append_assoc, take-append-drop}
use Rattle.std.proofs.lemmas.List.{take_rest}
use Rattle.std.specs.Io.KnownBytes.{Appends, Consumes}

pub Appends-trans : (a b c : Option (List ℕ)) (bs cs : List ℕ) → Appends a b bs → Appends b c cs → Appends a c (bs ++ cs)
Appends-trans None b c bs cs p q = tt
Appends-trans (Some x) None c bs cs p q = absurd p
Appends-trans (Some x) (Some y) None bs cs p q = absurd q
Appends-trans (Some x) (Some y) (Some z) bs cs p q = q ∙ ap (λ l. l ++ cs) p ∙ append_assoc x bs cs

-- the first bytes of the rest went out too
pub more_gone : (old mid new : Option (List ℕ)) (bytes rest : List ℕ) (n : ℕ)
    → ((front : List ℕ) × (bytes ≡ front ++ rest) × Appends old mid front) → Appends mid new (take n rest)
    → (front : List ℕ) × (bytes ≡ front ++ take (length rest - n) (drop n rest)) × Appends old new front
more_gone old mid new bytes rest n (front, whole, gone) more =
    let split : front ++ rest ≡ (front ++ take n rest) ++ drop n rest =
    ap (λ l. front ++ l) (sym (take-append-drop n rest)) ∙ sym (append_assoc front (take n rest) (drop n rest)) in (
      front ++ take n rest,
      whole ∙ split ∙ ap (λ l. (front ++ take n rest) ++ l) (sym (take_rest rest n)),
      Appends-trans old mid new front (take n rest) gone more,
    )

pub Consumes-trans : (a b c : Option (List ℕ)) (bs cs : List ℕ) → Consumes a b bs → Consumes b c cs → Consumes a c (bs ++ cs)
Consumes-trans None b c bs cs p q = tt
Consumes-trans (Some x) None c bs cs p q = absurd p
Consumes-trans (Some x) (Some y) None bs cs p q = absurd q
Consumes-trans (Some x) (Some y) (Some z) bs cs p q = p ∙ ap (λ l. bs ++ l) q ∙ sym (append_assoc bs cs z)
