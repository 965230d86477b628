-- The last line of an audit: whether the tables pass and, if they do not, why.
use Rattle.std.specs.Prelude.{ℕ, List, [], ◌∷◌, ◌++◌, codes}
use Rattle.std.specs.List.{flat_map}
use Rattle.audit_run.specs.declared.flaw.Flaw.{Flaw}
use Rattle.audit_run.specs.declared.flaw.Flaw.TheVariants.{Missed, Tableless, Unusable, Lidless, Overloaded, Unleveled}
use Rattle.audit_run.specs.declared.flaw.Flaw.TheVariants.{LaneDrop, CreditLoop}

-- the word with which the line that shows the flaw begins
abbrev pub flaw_word : Flaw → List ℕ
flaw_word Missed = codes "pairs"
flaw_word Tableless = codes "tableless"
flaw_word Unusable = codes "unusable"
flaw_word Lidless = codes "lidless"
flaw_word Overloaded = codes "load"
flaw_word Unleveled = codes "no-level"
flaw_word LaneDrop = codes "dropped"
flaw_word CreditLoop = codes "credit loop"

-- a comma, a space and the flaw's word
abbrev pub later_word : Flaw → List ℕ
later_word flaw = codes ", " ++ flaw_word flaw

-- `yes` if there are no flaws; otherwise `no` and the words of the flaws, with commas between them
abbrev pub flaws_text : List Flaw → List ℕ
flaws_text [] = codes " yes"
flaws_text (flaw ∷ later) = codes " no: " ++ flaw_word flaw ++ flat_map later_word later

-- the line that says whether tables with these flaws pass: `passes yes`, or `passes no: ` and the flaws' words
abbrev pub verdict_line : List Flaw → List ℕ
verdict_line flaws = codes "passes" ++ flaws_text flaws ++ codes "\n"
