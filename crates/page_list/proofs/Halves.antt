-- An item inserted into the first half of a list, or into the second.
use Rattle.std.proofs.Common.{◌≡◌, ℕ, ◌-◌, ◌≤◌, List, [], ◌++◌, length, take, drop, sym, ap, ◌∙◌, arith}
use Rattle.std.proofs.lemmas.List.{take-append-drop, length-take-le, take_rest}
use Rattle.std.proofs.lemmas.List.Edits.{insert-append_left, insert-append_right}
use Rattle.std.specs.Prelude.{insert}

module _ {T : Type 0} (items : List T) (half index : ℕ) (x : T) (within : half ≤ length items) where
  pub in_first_half : index ≤ half → insert (take half items) index x ++ drop half items ≡ insert items index x
  in_first_half h =
      sym (insert-append_left (take half items) (drop half items) index x (omega (arith, length-take-le half items within)))
      ∙ ap (λ (s : List T). insert s index x) (take-append-drop half items)

  pub in_second_half : half ≤ index → take half items ++ insert (drop half items) (index - half) x ≡ insert items index x
  in_second_half h =
      sym (insert-append_right (take half items) (drop half items) half index x (length-take-le half items within) h)
      ∙ ap (λ (s : List T). insert s index x) (take-append-drop half items)

module _ {T : Type 0} where
  -- what goes to the empty page is the second half
  pub second_half : (d page tail new : List T) (half : ℕ) → new ≡ tail ++ take (length d - half) (drop half d) → d ≡ page → tail ≡ [] → new ≡ drop half page
  second_half d page tail new half e same empty =
      e ∙ ap (λ (t : List T). t ++ take (length d - half) (drop half d)) empty ∙ take_rest d half ∙ ap (drop half) same

  -- both halves, where the item went into the first one
  pub first_grew : (page head tail : List T) (half index : ℕ) (x : T) → half ≤ length page → index ≤ half → head ≡ insert (take half page) index x → tail
      ≡ drop half page → head ++ tail ≡ insert page index x
  first_grew page head tail half index x within h is rest =
      ap (λ (s : List T). s ++ tail) is ∙ ap (λ (s : List T). insert (take half page) index x ++ s) rest ∙ in_first_half page half index x within h

  -- or into the second
  pub second_grew : (page head tail : List T) (half index : ℕ) (x : T) → half ≤ length page → half ≤ index → head ≡ take half page → tail
      ≡ insert (drop half page) (index - half) x → head ++ tail ≡ insert page index x
  second_grew page head tail half index x within h is rest =
      ap (λ (s : List T). s ++ tail) is ∙ ap (λ (s : List T). take half page ++ s) rest ∙ in_second_half page half index x within h
