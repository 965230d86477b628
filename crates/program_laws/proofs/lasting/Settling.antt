-- A manager that decides by itself notes that nothing is left to write only if its plan is the one that it wrote last, and
-- this is written.
use Rattle.std.proofs.Common.{◌≡◌, ◌∙◌, ◌++◌, Bool, true, false, cond, List, [], ◌∷◌, Option, None, Some, refl, sym, ap}
use Rattle.std.specs.List.{list_any}
use Rattle.std.specs.Prelude.{◌||◌}
use Rattle.lft_blocks.specs.Plan.{PlanValue}
use Rattle.sm_manager.specs.Manager.{new_manager}
use Rattle.sm_policy.specs.Judged.{anew, judged, stood}
use Rattle.sm_policy.specs.Swept.{swept}
use Rattle.sm_policy.specs.declared.act.Act.TheVariants as act
use Rattle.sm_policy.specs.declared.comparison.Comparison.{Comparison}
use Rattle.sm_policy.specs.declared.comparison.Comparison.TheVariants.{NoPlan, Same, Differs}
use Rattle.sm_policy.specs.declared.policy.Policy.{Policy}
use Rattle.sm_policy.proofs.Judging.{judges_as_master}
use Rattle.acting_manager.specs.Acting.{Acting, new_acting}
use Rattle.acting_manager.specs.Acts.{is_whole, rival_seen}
use Rattle.acting_manager.specs.Planned.{compared, comparison_of, planned}
use Rattle.acting_manager.specs.Working.{is_writing}
use Rattle.acting_manager.specs.declared.note.Note.{Note}
use Rattle.acting_manager.specs.declared.note.Note.TheVariants.{Did, GivenUp, Paused, Refused, Settled, State, Swept, Writes, Wrote}
use Rattle.program_laws.specs.StandingPlans.{HasSettled, SettlesWhenWritten, tells_settled}
use Rattle.program_laws.specs.Wakes.{HasDecided, Line, after_line, after_lines, before_deciding}
use Rattle.program_laws.proofs.lasting.Notes.{IsPlain, JudgesSettled, OfNotes, any_last, decides_note, notes_last}
use Rattle.program_laws.proofs.lasting.Standing.{Sound, full, is_sound, sound_lasts, swept_on}
use Rattle.program_laws.proofs.lasting.Told.{lasts_until}

-- notes -----------------------------------------------------------------------------------------------------

no_settled : (note : Note) → IsPlain note → tells_settled note ≡ false
no_settled (State state) plain = refl
no_settled Paused plain = refl
no_settled (GivenUp packet) plain = refl
no_settled (Swept is_so) plain = refl
no_settled (Wrote is_so) plain = refl
no_settled (Settled ports) plain = absurd plain
no_settled (Writes cause) plain = refl
no_settled (Did what) plain = refl
no_settled (Refused what) plain = refl

or_none : (b : Bool) → b || false ≡ b
or_none true = refl
or_none false = refl

-- what follows from a note that nothing is left to write
abbrev Follows : Type 0 → List Note → Type 0
Follows X notes = list_any tells_settled notes ≡ true → X

plain_follows : (X : Type 0) (notes : List Note) (note : Note) → IsPlain note → Follows X notes → Follows X (notes ++ note ∷ [])
plain_follows X notes note plain n e =
    n (sym (or_none (list_any tells_settled notes)) ∙ ap (λ b. list_any tells_settled notes || b) (sym (no_settled note plain))
    ∙ sym (any_last tells_settled notes note) ∙ e)

-- nothing is noted at first
given_notes : (lines : List Line) (a : Acting) → a.notes ≡ [] → (after_lines lines a).notes ≡ []
given_notes [] a none = none
given_notes (line ∷ lines) a none = given_notes lines (after_line line a) refl

no_notes : (a : Acting) → HasDecided a → a.notes ≡ []
no_notes a h =
    let m = new_manager h.port_guid h.port h.priority h.conduct h.planning in
    ap (λ (b : Acting). b.notes) (sym h.are) ∙ given_notes h.lines (new_acting m h.timing h.limits h.newest) refl

-- the law ------------------------------------------------------------------------------------------------------

module _ (a : Acting) (line : Line) (h : HasDecided a) where
  abbrev x : Acting
  x = before_deciding line a

  abbrev after : Policy
  after = (swept x.time (is_whole x.manager) (rival_seen x.manager) x.policy).policy

  stood_before : JudgesSettled x → after.written.stands ≡ true → x.policy.written.stands ≡ true
  stood_before j = swept_on x.time (is_whole x.manager) (rival_seen x.manager) x.policy

  stands_then : JudgesSettled x → (plan : PlanValue) → planned x.manager ≡ Some plan → compared x.kept plan ≡ Same → after.written.stands ≡ true
      → HasSettled x
  stands_then j plan is same stands =
      record {
        may = judges_as_master x.time (is_whole x.manager) (rival_seen x.manager) x.policy j.judges;
        plan = plan;
        is_planned = is;
        same = same;
        written = (full x j.stays (ap is_writing j.sweeps) (lasts_until Sound sound_lasts line a (is_sound a h))).stands (stood_before j stands);
      }

  by_stands : JudgesSettled x → (plan : PlanValue) → planned x.manager ≡ Some plan → compared x.kept plan ≡ Same → (b : Bool)
      → after.written.stands ≡ b → (cond b (stood x.time x.reads.ports after) (anew after)).act ≡ act.Settle → HasSettled x
  by_stands j plan is same true e settles = stands_then j plan is same e
  by_stands j plan is same false e settles = absurd (cc)

  by_comparison : JudgesSettled x → (plan : PlanValue) → planned x.manager ≡ Some plan → (c : Comparison) → compared x.kept plan ≡ c
      → (judged x.time c x.reads.ports after).act ≡ act.Settle → HasSettled x
  by_comparison j plan is NoPlan e settles = absurd (cc)
  by_comparison j plan is Differs e settles = absurd (cc)
  by_comparison j plan is Same e settles = by_stands j plan is e after.written.stands refl settles

  by_plan : JudgesSettled x → (o : Option PlanValue) → planned x.manager ≡ o
      → (judged x.time (comparison_of x.kept o) x.reads.ports after).act ≡ act.Settle → HasSettled x
  by_plan j None e settles = absurd (cc)
  by_plan j (Some plan) e settles = by_comparison j plan e (compared x.kept plan) refl settles

  settled : JudgesSettled x → HasSettled x
  settled j = by_plan j (planned x.manager) refl j.settles

pub settles_when_written : SettlesWhenWritten
settles_when_written a line h said =
    let X : Type 0 = HasSettled (before_deciding line a) in
    decides_note (Follows X) (plain_follows X) (before_deciding line a) (λ j notes ports n e. settled a line h j)
    (lasts_until (OfNotes (Follows X) (plain_follows X)) (notes_last (Follows X) (plain_follows X)) line a
    (λ e. let wrong : true ≡ false = sym e ∙ ap (list_any tells_settled) (no_notes a h) in absurd (cc)))
    said
