-- There are some.
use Rattle.std.proofs.Common.{◌≡◌, ◌∷◌, List, [], refl, arith, length}
use Rattle.std.specs.Prelude.{codes}
use Rattle.byte_io.proofs.Writing.{writes_as}
use Rattle.audit_run.specs.declared.flaw.Flaw.{Flaw}
use Rattle.audit_run.specs.VerdictText.{flaws_text}
use Rattle.audit_run.proofs.verdict_text.write_flaws.Goals as goal

none_left : (flaws : List Flaw) → length flaws ≡ 0 → codes " yes" ≡ flaws_text flaws
none_left [] e = refl
none_left (flaw ∷ later) e = absurd (omega arith)

pub returns-in-None : goal.returns-in-None
returns-in-None g c =
    writes_as _ _ _ _ _ _ _ (none_left c.args.flaws.now c.in-None.ensures.cases) c.write.ensures.writes
