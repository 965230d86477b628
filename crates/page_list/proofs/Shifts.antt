-- The indices from some index on, incremented, and the next of them.
use Rattle.std.proofs.Common.{◌≡◌, ℕ, ◌+◌, ◌-◌, ◌<◌, ◌≤◌, List, ◌++◌, length, get_or, set, take, drop, map, refl, sym, ap, ◌∙◌, arith}
use Rattle.std.proofs.lemmas.List.{set-append_right, get_or-append_right, length-take-le, length-take, length-drop, length-append, length-map, get_or_default}
use Rattle.std.proofs.lemmas.List.Edits.{map_over_more}

-- the list, with those from `from` on and before `i` one more
abbrev pub so_far : List ℕ → ℕ → ℕ → List ℕ
so_far s from n = take from s ++ (map (λ m. m + 1) (take n (drop from s)) ++ drop n (drop from s))

-- as long as it was
long : (d : List ℕ) (n : ℕ) → length (map (λ m. m + 1) (take n d) ++ drop n d) ≡ length d
long d n = omega (arith, length-append (map (λ m. m + 1) (take n d)) (drop n d), length-map (take n d) (λ m. m + 1), length-take n d, length-drop n d)

-- one more at the next index
pub shift_step : (s xs : List ℕ) (from i : ℕ) → from ≤ i → i < length s → xs ≡ so_far s from (i - from) → set xs i (get_or xs i 0 + 1)
    ≡ so_far s from (i + 1 - from)
shift_step s xs from i h l e =
    let n : length (take from s) ≡ from = length-take-le from s (omega arith) in
    let more : i - from < length (drop from s) = omega (arith, length-drop from s) in
    let ys : List ℕ = map (λ m. m + 1) (take (i - from) (drop from s)) ++ drop (i - from) (drop from s) in
    let next : i + 1 - from ≡ i - from + 1 = omega arith in
    ap (λ (z : List ℕ). set z i (get_or z i 0 + 1)) e
    ∙ ap (λ (m : ℕ). set (take from s ++ ys) i (m + 1)) (get_or-append_right (take from s) ys from i 0 n h)
    ∙ set-append_right (take from s) ys from i (get_or ys (i - from) 0 + 1) n h
    ∙ ap (λ (z : List ℕ). take from s
    ++ z) (map_over_more (λ m. m
    + 1) (drop from s) ys (i - from) (get_or ys (i - from) 0) more refl
    (get_or_default ys (i - from) 0 (get_or ys (i - from) 0) (omega (arith, long (drop from s) (i - from)))))
    ∙ ap (so_far s from) (sym next)
