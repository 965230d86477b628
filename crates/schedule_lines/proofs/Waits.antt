-- Requests that wait, one after the other.
use Rattle.std.proofs.Common.{◌≡◌, ◌∙◌, [], ◌∷◌, ◌++◌, ℕ, ◌+◌, ◌<◌, ◌≤◌, List, Some, length, take, sym, ap, arith}
use Rattle.std.specs.Prelude.{slice_get}
use Rattle.std.proofs.lemmas.Option.{slice_get_within}
use Rattle.std.proofs.lemmas.List.{length-append}
use Rattle.schedule_lines.proofs.Held.{one_more}

-- the first of several, and one more
pub waits_more : (xs items now : List ℕ) (n t : ℕ) → items ≡ take (length items) xs → n ≡ length items → Some t ≡ slice_get xs n → now ≡ items ++ t ∷ []
    → (now ≡ take (length now) xs) × (length now ≤ length xs) × (length items < length now)
waits_more xs items now n t so_far same found pushed =
    let there : slice_get xs (length items) ≡ Some t = ap (slice_get xs) (sym same) ∙ sym found in
    let within = slice_get_within xs (length items) t there in
    let counted = ap length pushed in
    let long : length now ≡ length items + 1 = omega (arith, counted, length-append items (t ∷ [])) in (
      pushed ∙ ap (λ ys. ys ++ t ∷ []) so_far ∙ sym (one_more xs (length items) t there) ∙ ap (λ k. take k xs) (sym long),
      omega (arith, within, long),
      omega (arith, long),
    )
