use Rattle.std.proofs.Common.{◌≡◌, true, List, ℕ, Bool, false, sym, ap, ◌∙◌}
use Rattle.std.specs.Str.{bytes_eq}
use Rattle.std.proofs.lemmas.Slice.Eq.{bytes_eq-Decides}
use Rattle.record_file.specs.Feeding.{behind_magic}
use Rattle.record_file.proofs.Heads.{no_magic}
use Rattle.record_file.proofs.awaited.behind_magic.Goals as goal

-- bytes that a comparison told apart differ
differ : (front bytes other : List ℕ) (told : Bool) → told ≡ bytes_eq front other → other ≡ bytes → told ≡ false → front ≡ bytes → ⊥
differ front bytes other told is equal apart same =
    let yes : bytes_eq front bytes ≡ true = (bytes_eq-Decides front bytes).1 same in let here = is ∙ ap (bytes_eq front) equal in absurd (cc)

pub returns-else-eq-3 : goal.returns-else-eq-3
returns-else-eq-3 c =
    let front = c.args.front.now in
    sym (ap behind_magic
    (no_magic front c.requires
    (differ front _ _ _ c.eq.ensures c.as_slice.ensures c.if-eq.false)
    (differ front _ _ _ c.eq-else-eq.ensures c.as_slice-else-eq.ensures c.if-eq-2.false)
    (differ front _ _ _ c.eq-else-eq-2.ensures c.as_slice-else-eq-2.ensures c.if-eq-3.false)))
