-- The lines that events tell a manager: which event tells a line, and when a writing began that runs in the end.
use Rattle.std.proofs.Common.{◌≡◌, ◌∙◌, ℕ, Bool, true, false, ◌&&◌, not, List, [], ◌∷◌, ◌++◌, refl, sym, ap, subst}
use Rattle.std.proofs.lemmas.Bool.{cond_both}
use Rattle.std.proofs.lemmas.List.{append_assoc}
use Rattle.std.specs.Prelude.{Option, Some, None, slice_get}
use Rattle.fabric_model.specs.Cables.{is_same_port}
use Rattle.manager_laws.specs.Scene.{Handed}
use Rattle.acting_manager.specs.Acting.{Acting}
use Rattle.acting_manager.specs.Working.{is_writing}
use Rattle.program_laws.specs.Deciding.{Around, Deciding, DecidingEvent, Hear, Send, Tell, after_deciding_event, after_deciding_events}
use Rattle.program_laws.specs.ManagedEnds.{StaysAbout}
use Rattle.program_laws.specs.ManagedWritings.{NoneBegins, begins_writing}
use Rattle.program_laws.specs.SweepTime.{line_by, line_heard, lines_of}
use Rattle.program_laws.specs.Wakes.{Line, after_line, after_lines}
use Rattle.program_laws.proofs.wakes.AtSeats.{event_acting}

-- the event of a line ---------------------------------------------------------------------------------------------------------

-- an event tells the manager one line at most
pub data AtMostOne (lines : List Line) : Type 0 where
  NoLine : lines ≡ [] → AtMostOne lines
  OneLine : (line : Line) → lines ≡ line ∷ [] → AtMostOne lines

heard_one : (time : ℕ) (d : Deciding) (o : Option Handed) → AtMostOne (line_heard time d o)
heard_one time d None = NoLine refl
heard_one time d (Some h) =
    cond_both (is_same_port h.at d.seat) _ [] AtMostOne (λ _. OneLine _ refl) (λ _. NoLine refl)

pub told_one : (d : Deciding) (event : DecidingEvent) → AtMostOne (line_by d event)
told_one d (Around event) = NoLine refl
told_one d (Tell time what) = OneLine (time, what) refl
told_one d (Hear time which) = heard_one time d (slice_get d.scene.handed which)
told_one d (Send which) = NoLine refl

-- the events up to a line
pub record UpTo (events : List DecidingEvent) (d : Deciding) (lines : List Line) (line : Line) : Type 0 where
  pub first : List DecidingEvent
  pub event : DecidingEvent
  pub later : List DecidingEvent
  pub are : events ≡ first ++ event ∷ later
  pub told : lines_of first d ≡ lines
  pub tells : line_by (after_deciding_events first d) event ≡ line ∷ []

abbrev first_or : Line → List Line → Line
first_or d [] = d
first_or d (line ∷ lines) = line

abbrev rest_of : List Line → List Line
rest_of [] = []
rest_of (line ∷ lines) = lines

pub events_to : (events : List DecidingEvent) (d : Deciding) (some : List Line) (line : Line) (rest : List Line) → lines_of events d ≡ some ++ line ∷ rest
    → UpTo events d some line
events_to [] d [] line rest e = absurd (cc)
events_to [] d (l ∷ some) line rest e = absurd (cc)
events_to (event ∷ events) d some line rest e = by_one (λ ls f. events_to events (after_deciding_event d event) ls line rest f) (told_one d event) some e
  where
    now : Deciding
    now = after_deciding_event d event

    by_one : ((ls : List Line) → lines_of events now ≡ ls ++ line ∷ rest → UpTo events now ls line) → AtMostOne (line_by d event) → (ls : List Line)
        → line_by d event ++ lines_of events now ≡ ls ++ line ∷ rest → UpTo (event ∷ events) d ls line
    by_one next (NoLine none) ls f =
        let u = next ls (ap (λ l. l ++ lines_of events now) (sym none) ∙ f) in
        record {
          first = event ∷ u.first;
          event = u.event;
          later = u.later;
          are = ap (λ es. event ∷ es) u.are;
          told = ap (λ l. l ++ lines_of u.first now) none ∙ u.told;
          tells = u.tells;
        }
    by_one next (OneLine l is) [] f =
        record {
          first = [];
          event = event;
          later = events;
          are = refl;
          told = refl;
          tells = is ∙ ap (λ x. x ∷ []) (ap (first_or line) (ap (λ ls. ls ++ lines_of events now) (sym is) ∙ f));
        }
    by_one next (OneLine l is) (s ∷ ls) f =
        let whole : l ∷ lines_of events now ≡ s ∷ (ls ++ line ∷ rest) = ap (λ ls. ls ++ lines_of events now) (sym is) ∙ f in
        let u = next ls (ap rest_of whole) in
        record {
          first = event ∷ u.first;
          event = u.event;
          later = u.later;
          are = ap (λ es. event ∷ es) u.are;
          told = ap (λ ls. ls ++ lines_of u.first now) is ∙ ap (λ x. x ∷ lines_of u.first now) (ap (first_or line) whole) ∙ ap (λ ls. s ∷ ls) u.told;
          tells = u.tells;
        }

pub lines_of_both : (first later : List DecidingEvent) (d : Deciding)
    → lines_of (first ++ later) d ≡ lines_of first d ++ lines_of later (after_deciding_events first d)
lines_of_both [] later d = refl
lines_of_both (event ∷ first) later d =
    ap (λ ls. line_by d event ++ ls) (lines_of_both first later (after_deciding_event d event))
    ∙ sym (append_assoc (line_by d event) (lines_of first (after_deciding_event d event)) _)

-- an event by which the manager changes tells a line
pub some_line : (d : Deciding) (event : DecidingEvent) → ((after_deciding_event d event).acting ≡ d.acting → ⊥)
    → (line : Line) × (line_by d event ≡ line ∷ [])
some_line d event changes = by_lines (told_one d event)
  where
    by_lines : AtMostOne (line_by d event) → (line : Line) × (line_by d event ≡ line ∷ [])
    by_lines (NoLine none) = absurd (changes (event_acting d event ∙ ap (λ ls. after_lines ls d.acting) none))
    by_lines (OneLine line is) = (line, is)

-- a writing that runs in the end ----------------------------------------------------------------------------------------------

-- what one of the events does is to begin it, or it ran all the time
pub data RunsSince (events : List DecidingEvent) (d : Deciding) : Type 0 where
  Throughout : is_writing d.acting.policy.activity ≡ true → StaysAbout is_writing (lines_of events d) d.acting → RunsSince events d
  Since : (before : List DecidingEvent) → (begins : DecidingEvent) → (after : List DecidingEvent) → events ≡ before ++ begins ∷ after
      → begins_writing (after_deciding_events before d) begins ≡ true
      → StaysAbout is_writing (lines_of after (after_deciding_event (after_deciding_events before d) begins))
      (after_deciding_event (after_deciding_events before d) begins).acting
      → RunsSince events d

stays_both : (lines more : List Line) (a : Acting) → StaysAbout is_writing lines a → StaysAbout is_writing more (after_lines lines a)
    → StaysAbout is_writing (lines ++ more) a
stays_both [] more a first later = later
stays_both (line ∷ lines) more a first later = (first.0, stays_both lines more (after_line line a) first.1 later)

-- what it is about after an event, as after its line
event_stays : (d : Deciding) (event : DecidingEvent) → is_writing (after_deciding_event d event).acting.policy.activity ≡ true
    → StaysAbout is_writing (line_by d event) d.acting
event_stays d event writes = by_lines (told_one d event)
  where
    by_lines : AtMostOne (line_by d event) → StaysAbout is_writing (line_by d event) d.acting
    by_lines (NoLine none) = subst (λ ls. StaysAbout is_writing ls d.acting) (sym none) tt
    by_lines (OneLine line is) =
        subst (λ ls. StaysAbout is_writing ls d.acting) (sym is)
        (ap (λ (a : Acting). is_writing a.policy.activity) (sym (event_acting d event ∙ ap (λ ls. after_lines ls d.acting) is)) ∙ writes, tt)

pub runs_since : (events : List DecidingEvent) (d : Deciding) → is_writing (after_deciding_events events d).acting.policy.activity ≡ true
    → RunsSince events d
runs_since [] d writes = Throughout writes tt
runs_since (event ∷ events) d writes = by_rest (runs_since events now writes)
  where
    now : Deciding
    now = after_deciding_event d event

    by_rest : RunsSince events now → RunsSince (event ∷ events) d
    by_rest (Since before begins after are begun stays) = Since (event ∷ before) begins after (ap (λ es. event ∷ es) are) begun stays
    by_rest (Throughout about stays) = by_first (is_writing d.acting.policy.activity) refl
      where
        by_first : (b : Bool) → is_writing d.acting.policy.activity ≡ b → RunsSince (event ∷ events) d
        by_first true e =
            Throughout e (stays_both (line_by d event) (lines_of events now) d.acting (event_stays d event about)
            (subst (StaysAbout is_writing (lines_of events now)) (event_acting d event) stays))
        by_first false e = Since [] event events refl (λ i. not (e i) && about i) stays

-- none of its events begins another
none_both : (first later : List DecidingEvent) (d : Deciding) → NoneBegins first d → NoneBegins later (after_deciding_events first d)
    → NoneBegins (first ++ later) d
none_both [] later d none more = more
none_both (event ∷ first) later d none more = (none.0, none_both first later (after_deciding_event d event) none.1 more)

still_none : (was now : Bool) → was ≡ true → not was && now ≡ false
still_none true now e = refl
still_none false now e = absurd (cc)

and_none : (b : Bool) → b && false ≡ false
and_none true = refl
and_none false = refl

all_none : (events : List DecidingEvent) (d : Deciding) → is_writing d.acting.policy.activity ≡ true → StaysAbout is_writing (lines_of events d) d.acting
    → NoneBegins events d
all_none [] d writes stays = tt
all_none (event ∷ events) d writes stays = (
  still_none _ _ writes,
  all_none events now (by_lines (told_one d event) parts.0) (subst
      (StaysAbout is_writing (lines_of events now)) (sym (event_acting d event)) parts.1),
)
  where
    now : Deciding
    now = after_deciding_event d event

    split : (lines more : List Line) (a : Acting) → StaysAbout is_writing (lines ++ more) a
        → StaysAbout is_writing lines a × StaysAbout is_writing more (after_lines lines a)
    split [] more a stays = (tt, stays)
    split (line ∷ lines) more a stays = let rest = split lines more (after_line line a) stays.1 in ((stays.0, rest.0), rest.1)

    parts : StaysAbout is_writing (line_by d event) d.acting × StaysAbout is_writing (lines_of events now) (after_lines (line_by d event) d.acting)
    parts = split (line_by d event) (lines_of events now) d.acting stays

    by_lines : AtMostOne (line_by d event) → StaysAbout is_writing (line_by d event) d.acting → is_writing now.acting.policy.activity ≡ true
    by_lines (NoLine none) s =
        ap (λ (a : Acting). is_writing a.policy.activity) (event_acting d event ∙ ap (λ ls. after_lines ls d.acting) none) ∙ writes
    by_lines (OneLine line is) s =
        ap (λ (a : Acting). is_writing a.policy.activity) (event_acting d event ∙ ap (λ ls. after_lines ls d.acting) is)
        ∙ (subst (λ ls. StaysAbout is_writing ls d.acting) is s).0

-- a writing that runs, and is then over by the last event
pub none_begins : (during : List DecidingEvent) (ends : DecidingEvent) (d : Deciding) → is_writing d.acting.policy.activity ≡ true
    → StaysAbout is_writing (lines_of during d) d.acting
    → is_writing (after_deciding_event (after_deciding_events during d) ends).acting.policy.activity ≡ false
    → NoneBegins (during ++ ends ∷ []) d
none_begins during ends d writes stays over =
    none_both during (ends ∷ []) d (all_none during d writes stays)
    ((λ i. not (is_writing (after_deciding_events during d).acting.policy.activity) && over i) ∙ and_none _, tt)
