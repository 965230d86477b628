-- Several turns: the first, and those that are left.
use Rattle.std.proofs.Common.{◌≡◌, ◌∙◌, [], ◌∷◌, ℕ, ◌+◌, ◌<◌, ◌≤◌, List, length, get_or, drop, add-one, sym, ap}
use Rattle.std.proofs.Math.ListN.{drop_of_length-le}
use Rattle.std.proofs.Math.Seq.{drop-cons}
use Rattle.std.specs.List.{flat_map}
use Rattle.schedule_lines.specs.Outcome.{Outcome, and_then, quiet, shows}
use Rattle.sm_manager.specs.Manager.{Manager}
use Rattle.sm_manager.specs.Packets.{after_timeout}
use Rattle.serve_run.specs.Kept.{ServerValue, after_byte, after_bytes}
use Rattle.serve_run.specs.Served.{after_called, after_giving_up}

drops : {X : Type 0} (items : List X) (i : ℕ) (d : X) → i < length items → drop i items ≡ get_or items i d ∷ drop (i + 1) items
drops items i d h = drop-cons items i d h ∙ ap (λ n. get_or items i d ∷ drop n items) (sym (add-one i))

-- requests that are given up
pub given_next : (m : Manager) (items : List ℕ) (i : ℕ) → i < length items
    → after_giving_up m (drop i items) ≡ and_then (after_called (after_timeout m (get_or items i 0))) (λ now. after_giving_up now (drop (i + 1) items))
given_next m items i h = ap (after_giving_up m) (drops items i 0 h)

pub given_none : (m : Manager) (items : List ℕ) (i : ℕ) → length items ≤ i → after_giving_up m (drop i items) ≡ quiet m
given_none m items i h = ap (after_giving_up m) (drop_of_length-le items h)

-- bytes that are read
pub bytes_next : (s : ServerValue) (bytes : List ℕ) (i : ℕ) → i < length bytes
    → after_bytes s (drop i bytes) ≡ and_then (after_byte s (get_or bytes i 0)) (λ now. after_bytes now (drop (i + 1) bytes))
bytes_next s bytes i h = ap (after_bytes s) (drops bytes i 0 h)

pub bytes_none : (s : ServerValue) (bytes : List ℕ) (i : ℕ) → length bytes ≤ i → after_bytes s (drop i bytes) ≡ quiet s
bytes_none s bytes i h = ap (after_bytes s) (drop_of_length-le bytes h)

-- lines that are printed, one for each of a list
abbrev pub told : {X : Type 0} → (X → List ℕ) → List X → Outcome (Unit {0})
told line xs = shows (flat_map line xs) tt

pub told_next : {X : Type 0} (line : X → List ℕ) (items : List X) (i : ℕ) (d : X) → i < length items
    → told line (drop i items) ≡ and_then (shows (line (get_or items i d)) tt) (λ u. told line (drop (i + 1) items))
told_next line items i d h = ap (told line) (drops items i d h)

pub told_none : {X : Type 0} (line : X → List ℕ) (items : List X) (i : ℕ) → length items ≤ i → (told line (drop i items)).text ≡ []
told_none line items i h = ap (flat_map line) (drop_of_length-le items h)
