-- A run of which nothing was given up has every answer, and is written; so pings arrive.
use Rattle.std.proofs.Common.{◌≡◌, ◌∙◌, Bool, true, false, not, List, [], ◌∷◌, ◌++◌, refl, sym, ap, subst}
use Rattle.std.proofs.lemmas.Bool.{and_parts, both_ways}
use Rattle.std.proofs.lemmas.List.{append_assoc}
use Rattle.sm_manager.specs.Manager.{Manager, progress_of, silent_in}
use Rattle.sm_manager.specs.Writing.{is_written}
use Rattle.sm_policy.specs.Policy.{is_sweeping}
use Rattle.acting_manager.specs.Acting.{Acting}
use Rattle.acting_manager.specs.Acts.{is_whole, is_whole_by}
use Rattle.acting_manager.specs.Working.{is_writing}
use Rattle.manager_laws.specs.Complete.{IsWhole}
use Rattle.program_laws.specs.AnsweredPings.{AnsweredPingsArrive, IsAnsweredManaged, WritesManaged}
use Rattle.program_laws.specs.Deciding.{Deciding, DecidingEvent}
use Rattle.program_laws.specs.Deciding.{after_deciding_event, after_deciding_events}
use Rattle.program_laws.specs.ManagedPings.{managed_at_end, managed_at_writing}
use Rattle.program_laws.specs.ManagedWritings.{WritesOneSweep, begins_writing, managing_of}
use Rattle.program_laws.specs.SweepTime.{line_by, lines_of}
use Rattle.program_laws.specs.Wakes.{HasDecided, Line, NoneLeaves, after_line, after_lines, before_deciding}
use Rattle.program_laws.specs.WholeSweeps.{LosesNone, NothingGivenUp, too_far_in}
use Rattle.program_laws.proofs.lasting.Answered.{answered_sweeps_are_whole}
use Rattle.program_laws.proofs.lasting.AnsweredWritings.{begun_manager, sweeps_idle, writes_idle}
use Rattle.program_laws.proofs.lasting.EventLines.{lines_of_both, some_line}
use Rattle.program_laws.proofs.lasting.StandingPings.{new_decided}
use Rattle.program_laws.proofs.managed.OneSweeps.{whole_so, writes_what_one_sweep_saw}
use Rattle.program_laws.proofs.managed.Pinged.{written_pings}
use Rattle.program_laws.proofs.wakes.AtSeats.{event_acting, events_acting, events_both}
use Rattle.program_laws.proofs.wakes.NextSweep.{has_more, none_first, none_later}
use Rattle.program_laws.proofs.lasting.AnsweredPings.{ends_written, first_part, written_on}
use Rattle.program_laws.proofs.wakes.Lines.{so_both, so_first, so_later}

-- the sweep has every answer ------------------------------------------------------------------------------------------------------

given_first : (some rest : List Line) (a : Acting) → NothingGivenUp (some ++ rest) a
    → NothingGivenUp some a × NothingGivenUp rest (after_lines some a)
given_first some rest a none = (so_first LosesNone some rest a none, so_later LosesNone some rest a none)

module _ (d : Deciding) (earlier : List DecidingEvent) (sweeps : DecidingEvent) (between : List DecidingEvent)
    (begins : DecidingEvent) (during : List DecidingEvent) (ends : DecidingEvent) (later : List DecidingEvent)
    (s : IsAnsweredManaged d earlier sweeps between begins during ends later) where
  abbrev before : List DecidingEvent
  before = earlier ++ sweeps ∷ between

  abbrev after : List DecidingEvent
  after = during ++ ends ∷ later

  abbrev at : Deciding
  at = after_deciding_events earlier d

  abbrev swept : Deciding
  swept = after_deciding_event at sweeps

  abbrev done_sweep : Deciding
  done_sweep = after_deciding_events between swept

  abbrev begun : Deciding
  begun = managed_at_writing d before begins

  before_is : after_deciding_events before d ≡ done_sweep
  before_is = events_both earlier (sweeps ∷ between) d

  begun_is : begun ≡ after_deciding_event done_sweep begins
  begun_is = ap (λ (y : Deciding). after_deciding_event y begins) before_is

  after_is : after ≡ (during ++ ends ∷ []) ++ later
  after_is = sym (append_assoc during (ends ∷ []) later)

  -- nobody leaves
  all_lines : lines_of (before ++ begins ∷ after) d
      ≡ lines_of before d ++ (lines_of (begins ∷ (during ++ ends ∷ [])) (after_deciding_events before d) ++ lines_of later (after_deciding_events (begins ∷ (during ++ ends ∷ [])) (after_deciding_events before d)))
  all_lines =
      ap (λ es. lines_of (before ++ begins ∷ es) d) after_is ∙ lines_of_both before (begins ∷ ((during ++ ends ∷ []) ++ later)) d
      ∙ ap (λ ls. lines_of before d ++ ls) (lines_of_both (begins ∷ (during ++ ends ∷ [])) later (after_deciding_events before d))

  leaves_none : NoneLeaves (lines_of before d ++ (lines_of (begins ∷ (during ++ ends ∷ [])) (after_deciding_events before d) ++ lines_of later (after_deciding_events (begins ∷ (during ++ ends ∷ [])) (after_deciding_events before d))))
  leaves_none = subst NoneLeaves all_lines s.none_leaves

  left_before : NoneLeaves (lines_of before d)
  left_before = none_first (lines_of before d) _ leaves_none

  left_writing : NoneLeaves (lines_of (begins ∷ (during ++ ends ∷ [])) (after_deciding_events before d))
  left_writing =
      none_first (lines_of (begins ∷ (during ++ ends ∷ [])) (after_deciding_events before d)) _ (none_later (lines_of before d) _ leaves_none)

  before_lines : lines_of before d ≡ lines_of earlier d ++ (line_by at sweeps ++ lines_of between swept)
  before_lines = lines_of_both earlier (sweeps ∷ between) d

  left_sweep : NoneLeaves (lines_of earlier d ++ (line_by at sweeps ++ lines_of between swept))
  left_sweep = subst NoneLeaves before_lines left_before

  -- what was given up
  given : NothingGivenUp (lines_of between swept) swept.acting
      × NothingGivenUp (line_by done_sweep begins ++ lines_of (during ++ ends ∷ []) (after_deciding_event done_sweep begins))
      (after_lines (lines_of between swept) swept.acting)
  given =
      given_first (lines_of between swept) _ swept.acting
      (subst (λ ls. NothingGivenUp ls swept.acting) (lines_of_both between (begins ∷ (during ++ ends ∷ [])) swept) s.none_lost)

  done_is : after_lines (lines_of between swept) swept.acting ≡ done_sweep.acting
  done_is = sym (events_acting between swept)

  given_then : NothingGivenUp (line_by done_sweep begins) done_sweep.acting
      × NothingGivenUp (lines_of (during ++ ends ∷ []) (after_deciding_event done_sweep begins)) (after_lines (line_by done_sweep begins) done_sweep.acting)
  given_then =
      given_first (line_by done_sweep begins) _ done_sweep.acting
      (subst (NothingGivenUp (line_by done_sweep begins ++ lines_of (during ++ ends ∷ []) (after_deciding_event done_sweep begins))) done_is given.1)

  given_writing : NothingGivenUp (lines_of (during ++ ends ∷ []) begun) begun.acting
  given_writing =
      subst (λ (y : Deciding). NothingGivenUp (lines_of (during ++ ends ∷ []) y) y.acting) (sym begun_is)
      (subst (NothingGivenUp (lines_of (during ++ ends ∷ []) (after_deciding_event done_sweep begins))) (sym (event_acting done_sweep begins)) given_then.1)

  -- its lines
  parts : (not (is_writing done_sweep.acting.policy.activity) ≡ true)
      × (is_writing (after_deciding_event done_sweep begins).acting.policy.activity ≡ true)
  parts =
      and_parts (not (is_writing done_sweep.acting.policy.activity)) _
      (ap (λ (y : Deciding). begins_writing y begins) (sym before_is) ∙ s.writes.writes)

  quiet : is_writing done_sweep.acting.policy.activity ≡ false
  quiet = by (is_writing done_sweep.acting.policy.activity) parts.0
    where
      by : (b : Bool) → not b ≡ true → b ≡ false
      by false e = refl
      by true e = absurd (cc)

  sweep_line : (line : Line) × (line_by at sweeps ≡ line ∷ [])
  sweep_line =
      some_line at sweeps (λ same. both_ways (is_sweeping at.acting.policy.activity) s.swept.quiet
      (ap (λ (a : Acting). is_sweeping a.policy.activity) (sym same) ∙ s.swept.begins))

  write_line : (line : Line) × (line_by done_sweep begins ≡ line ∷ [])
  write_line =
      some_line done_sweep begins (λ same. both_ways (is_writing done_sweep.acting.policy.activity) quiet
      (ap (λ (a : Acting). is_writing a.policy.activity) (sym same) ∙ parts.1))

  sweep_leads : after_line sweep_line.0 at.acting ≡ swept.acting
  sweep_leads = sym (event_acting at sweeps ∙ ap (λ ls. after_lines ls at.acting) sweep_line.1)

  write_leads : after_line write_line.0 done_sweep.acting ≡ (after_deciding_event done_sweep begins).acting
  write_leads = sym (event_acting done_sweep begins ∙ ap (λ ls. after_lines ls done_sweep.acting) write_line.1)

  begins_then : is_writing (after_line write_line.0 (after_lines (lines_of between swept) swept.acting)).policy.activity ≡ true
  begins_then = ap (λ (a : Acting). is_writing (after_line write_line.0 a).policy.activity) done_is
      ∙ ap (λ (a : Acting). is_writing a.policy.activity) write_leads ∙ parts.1

  quiet_then : is_writing (after_lines (lines_of between swept) swept.acting).policy.activity ≡ false
  quiet_then = ap (λ (a : Acting). is_writing a.policy.activity) done_is ∙ quiet

  -- the manager whose sweep is over
  abbrev over : Acting
  over = before_deciding write_line.0 (after_lines (lines_of between swept) swept.acting)

  sweep_is : begun.acting.manager.sweep ≡ over.manager.sweep
  sweep_is =
      ap (λ (y : Deciding). y.acting.manager.sweep) begun_is ∙ ap (λ (a : Acting). a.manager.sweep) (sym write_leads)
      ∙ ap (λ (a : Acting). (after_line write_line.0 a).manager.sweep) (sym done_is)
      ∙ ap (λ (m : Manager). m.sweep) (begun_manager write_line.0 (after_lines (lines_of between swept) swept.acting) quiet_then begins_then)

  abbrev decided : HasDecided at.acting
  decided = has_more d.acting (lines_of earlier d) at.acting (sym (events_acting earlier d)) (new_decided d s.writes.new)

  left_lines : NoneLeaves (sweep_line.0 ∷ lines_of between swept)
  left_lines =
      subst (λ ls. NoneLeaves (ls ++ lines_of between swept)) sweep_line.1 (none_later (lines_of earlier d) _ left_sweep)

  whole : is_whole over.manager ≡ true
  whole =
      answered_sweeps_are_whole at.acting sweep_line.0 swept.acting (lines_of between swept) write_line.0
      (record {
        decided = decided;
        generations = s.writes.new.few;
        none_left = none_first (lines_of earlier d) _ left_sweep;
        stays = left_lines.0;
        leads = sweep_leads;
        decides = sweeps_idle sweep_line.0 at.acting s.swept.quiet (ap (λ (a : Acting). is_sweeping a.policy.activity) sweep_leads ∙ s.swept.begins);
        sweeps = s.swept.begins;
        goes_on = s.swept.goes_on;
        none_leaves = left_lines.1;
        remains = (subst (λ ls. NoneLeaves (ls ++ lines_of (during ++ ends ∷ []) (after_deciding_event done_sweep begins))) write_line.1
            (subst (λ (y : Deciding). NoneLeaves (lines_of (begins ∷ (during ++ ends ∷ [])) y)) before_is left_writing)).0;
        over = writes_idle write_line.0 (after_lines (lines_of between swept) swept.acting) quiet_then begins_then;
      })
      (so_both LosesNone (lines_of between swept) (write_line.0 ∷ []) swept.acting given.0
      (subst (NothingGivenUp (write_line.0 ∷ [])) (sym done_is)
      (subst (λ ls. NothingGivenUp ls done_sweep.acting) write_line.1 given_then.0)))
      (ap too_far_in (sym sweep_is) ∙ s.near)

  one : WritesOneSweep (managing_of d) begun
  one = writes_what_one_sweep_saw d before begins s.writes.new s.writes.before_can s.writes.begins_can s.writes.writes

  has_all : IsWhole one.sweep
  has_all =
      whole_so one.sweep
      (ap (λ o. is_whole_by (progress_of o) (silent_in o)) (sym one.is_last ∙ sweep_is) ∙ whole)

  pub its_written : is_written (managed_at_end d before begins after).acting.manager ≡ true
  its_written =
      subst (λ es. is_written (managed_at_end d before begins es).acting.manager ≡ true) (sym after_is)
      (written_on d before begins (during ++ ends ∷ []) later whole_run
      (ends_written d before begins during ends (first_part d before begins (during ++ ends ∷ []) later whole_run)
      (has_more d.acting (lines_of before d) (after_deciding_events before d).acting (sym (events_acting before d)) (new_decided d s.writes.new))
      s.writes.new.few left_before left_writing given_writing s.kept_on s.goes_on s.over))
    where
      whole_run : WritesManaged d before begins ((during ++ ends ∷ []) ++ later)
      whole_run = subst (WritesManaged d before begins) after_is s.writes

pub answered_pings_arrive : AnsweredPingsArrive
answered_pings_arrive d earlier sweeps between begins during ends later s =
    let one = one d earlier sweeps between begins during ends later s in
    written_pings d (earlier ++ sweeps ∷ between) begins (during ++ ends ∷ later) s.writes one.sweep one.is_last
    (has_all d earlier sweeps between begins during ends later s) (its_written d earlier sweeps between begins during ends later s)
