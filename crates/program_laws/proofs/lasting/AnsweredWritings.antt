-- A writing of which nothing was given up, and each answer to which had status 0, is written.
use Rattle.std.proofs.Common.{◌≡◌, ◌∙◌, ◌⊎◌, inl, inr, ℕ, zero, suc, ◌<◌, ◌^◌, Bool, true, false, cond, ◌&&◌, List, [], ◌∷◌, ◌++◌, length, refl, sym, ap, subst}
use Rattle.std.proofs.lemmas.Bool.{both_ways, cond_both, cond-false, cond-true, or_parts}
use Rattle.std.proofs.lemmas.Option.{same_Some}
use Rattle.std.specs.List.{list_any}
use Rattle.std.specs.Prelude.{◌==◌, Contains, Option, Some, None, is_none, max}
use Rattle.smp_bytes.specs.Field.{number_in}
use Rattle.smp_bytes.specs.Packet.{fault_of, is_directed, is_response, transaction_id}
use Rattle.smp_bytes.specs.declared.smp_fault.SmpFault.{SmpFault}
use Rattle.plan_steps.specs.Phase.{Phase}
use Rattle.plan_steps.specs.declared.step.Step.{Step}
use Rattle.sm_manager.specs.CallLists.{Call, after_call}
use Rattle.sm_manager.specs.Manager.{Manager, Writing, emptied}
use Rattle.sm_manager.specs.ManagerRequests.{is_step}
use Rattle.sm_manager.specs.Packets.{after_packet}
use Rattle.sm_manager.specs.Writing.{after_write_steps, is_written}
use Rattle.sm_manager.specs.declared.outgoing.Outgoing.{Outgoing}
use Rattle.sm_manager.specs.declared.pending.Pending.{Pending}
use Rattle.sm_manager.proofs.CountedSteps.{StartsWithSteps, counts_is_step}
use Rattle.sm_policy.specs.Policy.{is_master, is_sweeping, polled, taken_over, wanting}
use Rattle.sm_policy.specs.declared.activity.Activity.{Activity}
use Rattle.sm_policy.specs.declared.activity.Activity.TheVariants as activity
use Rattle.sm_policy.specs.declared.policy.Policy.{Policy}
use Rattle.request_window.specs.Window.{Window, after_overdue, after_send, answers as is_answered, first_out, late_in}
use Rattle.request_window.specs.declared.late.Late.{Late}
use Rattle.request_window.specs.declared.late.Late.TheVariants.{Again, GivenUp}
use Rattle.acting_manager.specs.Acting.{Acting, caught_up, collected, entered}
use Rattle.acting_manager.specs.Acts.{acted, acted_in, left_in}
use Rattle.acting_manager.specs.Heard.{answered, answers_poll, asked, handed_in, hands_over, heard_by, is_handed, policy_asked, requested, responded}
use Rattle.acting_manager.specs.Heard.{says_master, tells_change, told}
use Rattle.acting_manager.specs.Working.{Told, acted_if_idle, all_overdue, all_sent, is_given_up, is_idle, is_writing, late_done, one_overdue, one_sent}
use Rattle.acting_manager.specs.Working.{paused_until, repeated, sent, sent_one, stood_still, stopped, taken, told_time, wake_of}
use Rattle.acting_manager.specs.declared.note.Note.{Note}
use Rattle.acting_manager.specs.declared.note.Note.TheVariants as note
use Rattle.manager_laws.specs.WritingEnds.{steps_of}
use Rattle.manager_laws.proofs.writing_ends.Begun.{begun_goes, no_step_before}
use Rattle.manager_laws.proofs.writing_ends.Turns.{Running}
use Rattle.program_laws.specs.AnsweredWritings.{AllAnswerWell, AnsweredWritingsAreWritten, AnswersWell, KeepsWriting, gives_up_writing}
use Rattle.program_laws.specs.ManagedEnds.{StaysAbout}
use Rattle.program_laws.specs.StandingPlans.{KeepsWritten}
use Rattle.program_laws.specs.Wakes.{AtEachLine, HasDecided, IsNoLeave, Line, NoneLeaves, after_line, after_lines, before_deciding}
use Rattle.program_laws.specs.WholeSweeps.{NothingGivenUp, tells_loss}
use Rattle.program_laws.proofs.lasting.GoesWell.{GoesWell, heard_well, more_wait, told_done}
use Rattle.program_laws.proofs.lasting.Answered.{given_parts, none_both, noted_before}
use Rattle.program_laws.proofs.lasting.Counted.{all_none, done_all}
use Rattle.program_laws.proofs.lasting.Notes.{any_last}
use Rattle.program_laws.proofs.lasting.Running.{is_running, still_runs}
use Rattle.program_laws.proofs.lasting.StillWritten.{line_written}
use Rattle.program_laws.proofs.managed.Calm.{NoMore, is_ready}
use Rattle.program_laws.proofs.wakes.AtSeats.{lines_both}
use Rattle.program_laws.proofs.wakes.Awaited.{AnyOther, AnyOut, Awaited, InWindow, IsAnswered, IsCovered, IsGiven, IsGone, before, has_covered, late_keeps}
use Rattle.program_laws.proofs.wakes.Awaited.{none_waits, sent_keeps, still_awaited, taken_alike, taken_keeps, tells_time as covered_then}
use Rattle.program_laws.proofs.wakes.Deciding.{caught_about, sent_about, writings_past}
use Rattle.program_laws.proofs.wakes.NextSweep.{has_more}
use Rattle.program_laws.proofs.wakes.Requests.{AnyAsks, Asks}
use Rattle.program_laws.proofs.wakes.Sending.{only_sends}
use Rattle.program_laws.proofs.wakes.Settled.{settled_given}
use Rattle.program_laws.proofs.wakes.StepTurns.{no_step, number_small, over_where_none, waits_turn}
use Rattle.program_laws.proofs.wakes.Sweeping.{acts_leaving, looked_leaving}
use Rattle.program_laws.proofs.wakes.Turns.{Heard, IsOther, Refuses, Takes, Turn, asked_turn, heard}
use Rattle.program_laws.proofs.wakes.Waking.{looked_manager}
use Rattle.program_laws.proofs.wakes.Writing.{WritesNow, acted_writes}

-- while it writes --------------------------------------------------------------------------------------------

abbrev Well : Acting → Type 0
Well a = GoesWell (Awaited a) a.manager

-- the manager writes, and its writing goes well unless it noted that it gave something up
record IsFine (a : Acting) : Type 0 where
  stays : a.is_leaving ≡ false
  writes : is_writing a.policy.activity ≡ true
  well : list_any tells_loss a.notes ≡ false → Well a

abbrev Keeps : (Acting → Acting) → Type 0
Keeps step = (a : Acting) → IsFine a → IsFine (step a)

none_earlier : (notes : List Note) (last : Note) → list_any tells_loss (notes ++ last ∷ []) ≡ false → list_any tells_loss notes ≡ false
none_earlier notes last none = (or_parts (list_any tells_loss notes) (tells_loss last) (sym (any_last tells_loss notes last) ∙ none)).0

-- a request is given up
lost : {X : Type 0} (notes : List Note) (packet : List ℕ) → list_any tells_loss (notes ++ note.GivenUp packet ∷ []) ≡ false → X
lost notes packet none =
    let wrong = (or_parts (list_any tells_loss notes) true (sym (any_last tells_loss notes (note.GivenUp packet)) ∙ none)).1 in
    absurd (cc)

-- requests move within the window
well_moves : (a : Acting) (w : Window) → ((t : ℕ) → InWindow t a.window → InWindow t w) → Well a → Well (record a { window = w })
well_moves a w more =
    more_wait (Awaited a) (λ t. AnyAsks t a.manager.outgoing ⊎ InWindow t w) a.manager (λ t. elim [ inl any ↦ inl any | inr there ↦ inr (more t there) ])

moves : (a : Acting) (w : Window) → ((t : ℕ) → InWindow t a.window → InWindow t w) → IsFine a → IsFine (record a { window = w })
moves a w more f = record { stays = f.stays; writes = f.writes; well = λ none. well_moves a w more (f.well none) }

repeats : (P : Acting → Type 0) (n : ℕ) (step : Acting → Acting) → ((a : Acting) → P a → P (step a)) → (a : Acting) → P a → P (repeated n step a)
repeats P zero step each a f = f
repeats P (suc n) step each a f = each (repeated n step a) (repeats P n step each a f)

-- the time, and catching up ---------------------------------------------------------------------------------

tells_time : (time : ℕ) → Keeps (told_time time)
tells_time time a f =
    let now = max time a.time in
    cond_both (stood_still a.time now (wake_of a)) (paused_until now a) (record a { time = now }) IsFine
    (λ _. record { stays = f.stays; writes = f.writes; well = λ none. f.well (none_earlier a.notes note.Paused none) })
    (λ _. record { stays = f.stays; writes = f.writes; well = f.well })

emptied_runs : (w : Writing) (m : Manager) → Running w m → Running w (emptied m)
emptied_runs w m r = record { writing = r.writing; starts = r.starts; idle = r.idle; rising = r.rising; others = r.others }

well_caught : (a : Acting) → Well a → Well (caught_up a)
well_caught a g =
    cond_both _ (collected a) (entered a.manager.standing.state (collected a)) Well (λ _. collects) (λ _. collects)
  where
    collects : Well (collected a)
    collects =
        record {
          writing = g.writing;
          running = emptied_runs g.writing a.manager g.running;
          unfailed = g.unfailed;
          waits = λ p there step. still_awaited a p.number (g.waits p there step);
        }

catches_up : Keeps caught_up
catches_up a f =
    record {
      stays = looked_leaving (collected a) ∙ f.stays;
      writes = ap is_writing (caught_about a) ∙ f.writes;
      well = λ none. well_caught a (f.well (cond_both _ (collected a) (entered a.manager.standing.state (collected a))
          (λ (b : Acting). list_any tells_loss b.notes ≡ false → list_any tells_loss a.notes ≡ false) (λ _ e. e)
          (λ _ e. none_earlier a.notes (note.State a.manager.standing.state) e) none));
    }

-- late requests ------------------------------------------------------------------------------------------------

late_ends : (late : Option Late) (a : Acting) (w : Window) → ((t : ℕ) → InWindow t a.window → IsGone t late ⊎ InWindow t w) → IsFine a
    → IsFine (late_done late (record a { window = w }))
late_ends None a w split f = moves a w (λ t there. elim (split t there) [ inl none ↦ absurd none | inr rest ↦ rest ]) f
late_ends (Some (Again request)) a w split f =
    let g = moves a w (λ t there. elim (split t there) [ inl none ↦ absurd none | inr rest ↦ rest ]) f in
    record { stays = g.stays; writes = g.writes; well = g.well }
late_ends (Some (GivenUp request)) a w split f =
    record { stays = f.stays; writes = f.writes; well = λ none. lost a.notes request.packet none }

overdue : Keeps one_overdue
overdue a f =
    late_ends (late_in a.window.limits a.time a.window.outs).late a (after_overdue a.time a.window)
    (λ t. elim [
      | inl queued ↦ inr (inl queued)
      | inr out ↦ elim (late_keeps a.window.limits a.time t a.window.outs out) [ inl gone ↦ inl gone | inr rest ↦ inr (inr rest) ]
    ]) f

all_end : Keeps all_overdue
all_end a f = repeats IsFine (length a.window.outs) one_overdue overdue a f

-- sending ---------------------------------------------------------------------------------------------------------

sends_it : (request : Option Outgoing) (a : Acting) → Well a → Well (sent_one request a)
sends_it None a g = g
sends_it (Some request) a g = g

sends_one : (a : Acting) → Well a → Well (one_sent a)
sends_one a g =
    let w = (after_send a.time a.window).window in
    sends_it (after_send a.time a.window).request (record a { window = w })
    (well_moves a w (λ t there. sent_keeps a.time t a.window a.window.queued refl there) g)

well_sent : (a : Acting) → Well a → Well (sent a)
well_sent a g = cond_both (is_given_up a) a (all_sent a) Well (λ _. g) (λ _. repeats Well a.window.limits.outstanding one_sent sends_one a g)

-- packets -------------------------------------------------------------------------------------------------------------

told_fine : (packet : List ℕ) → Keeps (told packet)
told_fine packet a f =
    record {
      stays = f.stays;
      writes = cond_both (answers_poll packet) (polled (says_master packet) a.policy) a.policy (λ (p : Policy). is_writing p.activity ≡ true)
          (λ _. f.writes) (λ _. f.writes);
      well = f.well;
    }

refuses : (request : Outgoing) (packet : List ℕ) (a : Acting) → a.is_leaving ≡ false → is_writing a.policy.activity ≡ true
    → IsFine (handed_in request packet false a)
refuses request packet a stays writes = record { stays = stays; writes = writes; well = λ none. lost a.notes request.packet none }

responds : (packet : List ℕ) (from : Option ℕ) → is_response packet ≡ true → (a : Acting) → IsCovered a → AnswersWell (Told.Packet packet from) a.manager
    → IsFine a → IsFine (responded packet from a)
responds packet from response a c each f =
    by_request (first_out (is_answered packet) a.window.outs).request (λ t. taken_keeps (is_answered packet) t a.window.outs)
    (taken_alike packet a.window.outs)
  where
    w : Window
    w = record a.window { outs = (first_out (is_answered packet) a.window.outs).outs }

    m : Manager
    m = after_call a.manager (Call.Packet packet from)

    by_request : (o : Option Outgoing) → ((t : ℕ) → AnyOut t a.window.outs → IsGiven t o ⊎ AnyOut t w.outs) → IsAnswered packet o
        → IsFine (answered o packet from (record a { window = w }))
    by_request None split alike =
        moves a w (λ t. elim [ inl queued ↦ inl queued | inr out ↦ elim (split t out) [ inl none ↦ absurd none | inr rest ↦ inr rest ] ]) f
    by_request (Some request) split alike = by_heard (heard (Awaited a) a.manager c.knows c.good packet from response c.steps.rising)
      where
        b : Acting
        b = record a { window = w; manager = m }

        in_window : (t : ℕ) → InWindow t a.window → Asks t request ⊎ InWindow t w
        in_window t (inl queued) = inr (inl queued)
        in_window t (inr out) = elim (split t out) [ inl asks ↦ inl asks | inr rest ↦ inr (inr rest) ]

        by_taken : (is_taken : Bool) → IsFine b → IsFine (handed_in request packet is_taken b)
        by_taken true g = told_fine packet b g
        by_taken false g = refuses request packet b f.stays f.writes

        by_heard : Heard (Awaited a) a.manager packet (after_packet a.manager packet from)
            → IsFine (handed_in request packet (is_none (after_packet a.manager packet from).fault) b)
        by_heard (Refuses same refused) =
            subst (λ (t : Bool). IsFine (handed_in request packet t b)) (sym refused) (refuses request packet b f.stays f.writes)
        by_heard (Takes turn none) =
            by_taken (is_none (after_packet a.manager packet from).fault) (record {
              stays = f.stays;
              writes = f.writes;
              well = λ kept.
                  more_wait (λ t. (Awaited a t × (is_directed packet ≡ true → IsOther (number_in transaction_id packet) t)) ⊎ AnyAsks t m.outgoing)
                  (λ t. AnyAsks t m.outgoing ⊎ InWindow t w) m waits
                  (heard_well (Awaited a) (λ t. is_directed packet ≡ true → IsOther (number_in transaction_id packet) t) a.manager packet from c.steps.few
                  (told_done a.manager packet from each)
                  (λ p there step still goes. none p there (number_small (Awaited a) a.manager c.steps p there) still goes) (f.well kept));
            })
          where
            waits : (t : ℕ) → (Awaited a t × (is_directed packet ≡ true → IsOther (number_in transaction_id packet) t)) ⊎ AnyAsks t m.outgoing
                → AnyAsks t m.outgoing ⊎ InWindow t w
            waits t (inr any) = inl any
            waits t (inl h) =
                elim h.0 [
                  | inl any ↦ inl (turn.keeps t any)
                  | inr there ↦ inr (elim (in_window t there) [
                    | inl asks ↦ absurd (h.1 (alike.1 asks.0) (sym asks.1 ∙ sym alike.0))
                    | inr rest ↦ rest
                  ])
                ]

asked_about : (packet : List ℕ) (rules : Bool) (p : Policy) → (policy_asked packet rules p).activity ≡ p.activity
asked_about packet rules p =
    cond_both (tells_change packet) (wanting p) _ (λ (q : Policy). q.activity ≡ p.activity) (λ _. refl)
    (λ _. cond_both (hands_over packet && rules) (taken_over p) p (λ (q : Policy). q.activity ≡ p.activity) (λ _. refl) (λ _. refl))

requests : (packet : List ℕ) (from : Option ℕ) → is_response packet ≡ false → (a : Acting) → IsCovered a → AnswersWell (Told.Packet packet from) a.manager
    → IsFine a → IsFine (requested packet from a)
requests packet from none a c each f = by_handed (is_handed packet (is_master a.manager.standing.state))
  where
    rules : Bool
    rules = is_master a.manager.standing.state

    m : Manager
    m = after_call a.manager (Call.Packet packet from)

    writes : is_writing (policy_asked packet rules a.policy).activity ≡ true
    writes = ap is_writing (asked_about packet rules a.policy) ∙ f.writes

    turn : Turn (Awaited a) AnyOther a.manager m
    turn = asked_turn (Awaited a) a.manager c.knows c.good packet from none

    waits : (t : ℕ) → (Awaited a t × AnyOther t) ⊎ AnyAsks t m.outgoing → AnyAsks t m.outgoing ⊎ InWindow t a.window
    waits t (inr any) = inl any
    waits t (inl h) = elim h.0 [ inl any ↦ inl (turn.keeps t any) | inr there ↦ inr there ]

    by_handed : (handed : Bool) → IsFine (record a {
      policy = policy_asked packet (is_master a.manager.standing.state) a.policy;
      manager = cond handed (after_call a.manager (Call.Packet packet from)) a.manager;
    })
    by_handed true =
        record {
          stays = f.stays;
          writes = writes;
          well = λ kept.
              more_wait (λ t. (Awaited a t × AnyOther t) ⊎ AnyAsks t m.outgoing) (λ t. AnyAsks t m.outgoing ⊎ InWindow t a.window) m waits
              (heard_well (Awaited a) AnyOther a.manager packet from c.steps.few (told_done a.manager packet from each) (λ p there step still. tt)
              (f.well kept));
        }
    by_handed false = record { stays = f.stays; writes = writes; well = f.well }

hears_by : (packet : List ℕ) (from : Option ℕ) (fault : Option SmpFault) (a : Acting) → IsCovered a → AnswersWell (Told.Packet packet from) a.manager
    → IsFine a → IsFine (heard_by packet from fault a)
hears_by packet from (Some why) a c each f = f
hears_by packet from None a c each f =
    cond_both (is_response packet) (responded packet from a) (asked packet from a) IsFine (λ response. responds packet from response a c each f)
    (λ none. cond_both (a.is_leaving && hands_over packet) a (requested packet from a) IsFine (λ _. f) (λ _. requests packet from none a c each f))

takes : (what : Told) → IsNoLeave what → (a : Acting) → IsCovered a → AnswersWell what a.manager → IsFine a → IsFine (taken what a)
takes Told.Time stays a c each f = f
takes (Told.Packet bytes from) stays a c each f = hears_by bytes from (fault_of bytes) a c each f
takes Told.Look stays a c each f = record { stays = f.stays; writes = f.writes; well = f.well }
takes Told.Leave stays a c each f = absurd stays

-- lines -----------------------------------------------------------------------------------------------------------------

told_manager : (time : ℕ) (a : Acting) → (told_time time a).manager ≡ a.manager
told_manager time a =
    cond_both (stood_still a.time (max time a.time) (wake_of a)) _ _ (λ (b : Acting). b.manager ≡ a.manager) (λ _. refl) (λ _. refl)

-- until it decides
ready_fine : (line : Line) (a : Acting) → IsNoLeave line.1 → IsCovered a → AnswersWell line.1 a.manager → gives_up_writing line a ≡ false → IsFine a
    → IsFine (before_deciding line a)
ready_fine line a stays c each goes_on f =
    let t = told_time line.0 a in
    let b = taken line.1 t in
    let up = catches_up b (takes line.1 stays t (covered_then line.0 a c) (subst (AnswersWell line.1) (sym (told_manager line.0 a)) each)
    (tells_time line.0 a f)) in
    let stop : IsFine (stopped (caught_up b)) = subst IsFine (sym (cond-false (is_given_up (caught_up b)) _ (caught_up b) goes_on)) up in
    catches_up (all_overdue (stopped (caught_up b))) (all_end (stopped (caught_up b)) stop)

-- what holds from line to line
record WritesOn (a : Acting) : Type 0 where
  stays : a.is_leaving ≡ false
  writes : is_writing a.policy.activity ≡ true
  well : Well a

fine_first : (a : Acting) → WritesOn a → IsFine a
fine_first a w = record { stays = w.stays; writes = w.writes; well = λ _. w.well }

-- a manager that decides while it writes does not go on with that
decides_past : (x : Acting) → x.is_leaving ≡ false → is_writing x.policy.activity ≡ true → is_idle x.window ≡ true
    → is_writing (sent (acted_if_idle x)).policy.activity ≡ false
decides_past x stays writes idle =
    ap (λ (y : Acting). is_writing (sent y).policy.activity) (cond-true (is_idle x.window) (caught_up (acted x)) x idle)
    ∙ ap is_writing (sent_about (caught_up (acted x)) ∙ caught_about (acted x))
    ∙ ap (λ (y : Acting). is_writing y.policy.activity) (cond-false x.is_leaving (left_in x.policy.activity x) (acted_in x.policy.activity x) stays)
    ∙ writings_past x.policy.activity x writes

line_on : (line : Line) (a : Acting) → IsNoLeave line.1 → IsCovered a → AnswersWell line.1 a.manager → gives_up_writing line a ≡ false
    → list_any tells_loss (sent (acted_if_idle (before_deciding line a))).notes ≡ false → is_writing (after_line line a).policy.activity ≡ true
    → WritesOn a → WritesOn (after_line line a)
line_on line a remains c each goes_on none about w = by_idle (is_idle x.window) refl
  where
    x : Acting
    x = before_deciding line a

    f : IsFine x
    f = ready_fine line a remains c each goes_on (fine_first a w)

    by_idle : (b : Bool) → is_idle x.window ≡ b → WritesOn (after_line line a)
    by_idle true idle = absurd (both_ways (is_writing (after_line line a).policy.activity) (decides_past x f.stays f.writes idle) about)
    by_idle false busy =
        let waits = cond-false (is_idle x.window) (caught_up (acted x)) x busy in
        record {
          stays = (only_sends (acted_if_idle x)).leaving ∙ ap (λ (y : Acting). y.is_leaving) waits ∙ f.stays;
          writes = about;
          well = subst (λ (y : Acting). Well (sent y)) (sym waits) (well_sent x (f.well (noted_before x none)));
        }

lines_on : (lines : List Line) (a : Acting) → NoneLeaves lines → (h : HasDecided a) → h.newest < 2 ^ 32 → NoneLeaves h.lines → AllAnswerWell lines a
    → AtEachLine KeepsWriting lines a → NothingGivenUp lines a → StaysAbout is_writing lines a → WritesOn a → WritesOn (after_lines lines a)
lines_on [] a remain h few left each keeps none goes_on w = w
lines_on (line ∷ lines) a remain h few left each keeps none goes_on w =
    lines_on lines (after_line line a) remain.1
    (record {
      port_guid = h.port_guid;
      port = h.port;
      priority = h.priority;
      conduct = h.conduct;
      planning = h.planning;
      timing = h.timing;
      limits = h.limits;
      newest = h.newest;
      lines = h.lines ++ line ∷ [];
      are = lines_both h.lines (line ∷ []) _ ∙ ap (after_line line) h.are;
    }) few (none_both h.lines (line ∷ []) left (remain.0, tt)) each.1 keeps.1 none.1 goes_on.1
    (line_on line a remain.0 (has_covered a h few left) each.0 keeps.0 none.0 goes_on.0 w)

-- the beginning ------------------------------------------------------------------------------------------------------------

-- its first steps are queued
first_well : (x z : Acting) → IsCovered x → WritesNow x z → Well z
first_well x z c now =
    let m = x.manager in
    let goes = begun_goes m c.steps.rising now.may in
    let is : after_call m Call.WriteSteps ≡ z.manager =
    cond-true (is_none _) (after_write_steps m) m (ap is_none now.may) ∙ sym now.manager in
    subst (λ (y : Manager). GoesWell (λ t. AnyAsks t y.outgoing ⊎ InWindow t z.window) y) is (record {
      writing = goes.going;
      running = goes.running;
      unfailed = unfailed goes.going (sym (ap (λ (y : Manager). y.writing) (is ∙ now.manager)) ∙ goes.running.writing);
      waits = λ p there step. elim (waits_turn (λ _. ⊥) AnyOther m Call.WriteSteps c.steps.rising c.steps.few c.steps.going
          (λ q waits is_one. before_none q waits is_one) (λ q waits is_one still. tt) p there step) [
            | inl none ↦ absurd none.0
            | inr any ↦ inl any
          ];
    })
  where
    before_none : (q : Pending) → Contains x.manager.pending q → is_step q ≡ true → ⊥
    before_none q waits is_one = no_step x.manager.pending x.manager.counter q c.steps.rising waits is_one (no_step_before x.manager c.steps.rising now.may)

    unfailed : (v : Writing) → (after_write_steps x.manager).writing ≡ Some v → v.has_failed ≡ false
    unfailed v e = ap (λ (u : Writing). u.has_failed) (sym (same_Some _ v e))

-- one that leaves begins no writing
left_none : (what : Activity) (a : Acting) → a.policy.activity ≡ what → is_writing what ≡ false → is_writing (left_in what a).policy.activity ≡ false
left_none activity.Rests a e quiet = ap is_writing e
left_none activity.Sweeps a e quiet = cond_both _ activity.Hands activity.Rests (λ (w : Activity). is_writing w ≡ false) (λ _. refl) (λ _. refl)
left_none activity.Writes a e quiet = absurd (cc)
left_none activity.Hands a e quiet = refl

-- nothing begins until it decides
still_quiet : (was now : Activity) → NoMore was now → is_writing was ≡ false → is_writing now ≡ false
still_quiet was activity.Rests more quiet = refl
still_quiet was activity.Sweeps more quiet = refl
still_quiet was activity.Hands more quiet = refl
still_quiet was activity.Writes more quiet = absurd (both_ways (is_writing was) quiet (ap is_writing more))

still_no_sweep : (was now : Activity) → NoMore was now → is_sweeping was ≡ false → is_sweeping now ≡ false
still_no_sweep was activity.Rests more quiet = refl
still_no_sweep was activity.Writes more quiet = refl
still_no_sweep was activity.Hands more quiet = refl
still_no_sweep was activity.Sweeps more quiet = absurd (both_ways (is_sweeping was) quiet (ap is_sweeping more))

-- a manager that decides nothing begins nothing
idle_then : (test : Activity → Bool) → ((was now : Activity) → NoMore was now → test was ≡ false → test now ≡ false) → (line : Line) (a : Acting)
    → test a.policy.activity ≡ false → test (after_line line a).policy.activity ≡ true → is_idle (before_deciding line a).window ≡ true
idle_then test still line a quiet begins = by_idle (is_idle x.window) refl
  where
    x : Acting
    x = before_deciding line a

    by_idle : (b : Bool) → is_idle x.window ≡ b → is_idle x.window ≡ true
    by_idle true e = e
    by_idle false e =
        absurd (both_ways (test (after_line line a).policy.activity)
        (ap (λ (y : Acting). test (sent y).policy.activity) (cond-false (is_idle x.window) (caught_up (acted x)) x e)
        ∙ ap test (sent_about x) ∙ still a.policy.activity x.policy.activity (is_ready line.0 line.1 a).activity quiet) begins)

pub sweeps_idle : (line : Line) (a : Acting) → is_sweeping a.policy.activity ≡ false → is_sweeping (after_line line a).policy.activity ≡ true
    → is_idle (before_deciding line a).window ≡ true
sweeps_idle = idle_then is_sweeping still_no_sweep

pub writes_idle : (line : Line) (a : Acting) → is_writing a.policy.activity ≡ false → is_writing (after_line line a).policy.activity ≡ true
    → is_idle (before_deciding line a).window ≡ true
writes_idle = idle_then is_writing still_quiet

module _ (line : Line) (a : Acting) (quiet : is_writing a.policy.activity ≡ false) (begins : is_writing (after_line line a).policy.activity ≡ true) where
  abbrev x : Acting
  x = before_deciding line a

  abbrev z : Acting
  z = acted x

  decided_is : acted_if_idle x ≡ caught_up z
  decided_is = cond-true (is_idle x.window) (caught_up z) x (writes_idle line a quiet begins)

  writes : is_writing z.policy.activity ≡ true
  writes =
      sym (ap (λ (y : Acting). is_writing (sent y).policy.activity) decided_is ∙ ap is_writing (sent_about (caught_up z) ∙ caught_about z)) ∙ begins

  stays : x.is_leaving ≡ false
  stays = by_leaving x.is_leaving refl
    where
      x_quiet : is_writing x.policy.activity ≡ false
      x_quiet = still_quiet a.policy.activity x.policy.activity (is_ready line.0 line.1 a).activity quiet

      by_leaving : (b : Bool) → x.is_leaving ≡ b → x.is_leaving ≡ false
      by_leaving false e = e
      by_leaving true e =
          absurd (both_ways (is_writing z.policy.activity)
          (ap (λ (y : Acting). is_writing y.policy.activity) (cond-true x.is_leaving (left_in x.policy.activity x) (acted_in x.policy.activity x) e)
          ∙ left_none x.policy.activity x refl x_quiet) writes)

  pub writes_now : WritesNow (before_deciding line a) (acted (before_deciding line a))
  writes_now =
      let is = cond-false x.is_leaving (left_in x.policy.activity x) (acted_in x.policy.activity x) stays in
      subst (WritesNow x) (sym is)
      (acted_writes x.policy.activity x refl (ap (λ (y : Acting). is_writing y.policy.activity) (sym is) ∙ writes))

  pub begun_manager : (after_line line a).manager ≡ emptied (after_write_steps (before_deciding line a).manager)
  begun_manager =
      (only_sends (acted_if_idle x)).manager ∙ ap (λ (y : Acting). y.manager) decided_is ∙ looked_manager (collected z) ∙ ap emptied writes_now.manager

  begun_on : IsCovered (before_deciding line a) → WritesOn (after_line line a)
  begun_on c =
      record {
        stays =
            (only_sends (acted_if_idle x)).leaving ∙ ap (λ (y : Acting). y.is_leaving) decided_is ∙ looked_leaving (collected z) ∙ acts_leaving x ∙ stays;
        writes = begins;
        well = subst (λ (y : Acting). Well (sent y)) (sym decided_is) (well_sent (caught_up z) (well_caught z (first_well x z c writes_now)));
      }

-- the end ----------------------------------------------------------------------------------------------------------------------

kept_parts : (during : List Line) (ends : Line) (a : Acting) → AtEachLine KeepsWriting (during ++ ends ∷ []) a
    → AtEachLine KeepsWriting during a × (gives_up_writing ends (after_lines during a) ≡ false)
kept_parts [] ends a keeps = (tt, keeps.0)
kept_parts (line ∷ during) ends a keeps = let rest = kept_parts during ends (after_line line a) keeps.1 in ((keeps.0, rest.0), rest.1)

answer_parts : (during : List Line) (ends : Line) (a : Acting) → AllAnswerWell (during ++ ends ∷ []) a
    → AllAnswerWell during a × AnswersWell ends.1 (after_lines during a).manager
answer_parts [] ends a each = (tt, each.0)
answer_parts (line ∷ during) ends a each = let rest = answer_parts during ends (after_line line a) each.1 in ((each.0, rest.0), rest.1)

later_none : (later : List Phase) → StartsWithSteps later → steps_of later ≡ [] → list_any (λ (p : Phase). p.counts) later ≡ false
later_none [] starts none = refl
later_none (p ∷ phases) starts none = by_steps p.steps starts none
  where
    by_steps : (steps : List Step) → (length steps == 0) ≡ false → steps ++ steps_of phases ≡ [] → list_any (λ (q : Phase). q.counts) (p ∷ phases) ≡ false
    by_steps [] wrong none = absurd (cc)
    by_steps (s ∷ steps) some wrong = absurd (cc)

-- a writing that goes well, and of which no step waits, is written
over_written : (m : Manager) (W : ℕ → Type 0) → GoesWell W m → ((t : ℕ) → W t → ⊥) → is_written m ≡ true
over_written m W g none =
    let over = over_where_none m (inr (g.writing, g.running)) (λ p there step. none p.number (g.waits p there step)) in
    done_all m (record {
      now = g.writing;
      writing = g.running.writing;
      unfailed = g.unfailed;
      later = later_none g.writing.later g.running.starts (g.running.idle over.none_waits);
      none = all_none m.pending (λ p there counted. none p.number (g.waits p there (counts_is_step p counted)));
    })

pub answered_writings_are_written : AnsweredWritingsAreWritten
answered_writings_are_written first begins a during ends s nothing keeps each = (line_written ends b f.stays idle s.over kept).written
  where
    b : Acting
    b = after_lines during a

    x : Acting
    x = before_deciding ends b

    decided_a : HasDecided a
    decided_a = has_more first (begins ∷ []) a s.leads s.decided

    left_a : NoneLeaves decided_a.lines
    left_a = none_both s.decided.lines (begins ∷ []) s.none_left (s.stays, tt)

    decided_b : HasDecided b
    decided_b = has_more a during b refl decided_a

    left_b : NoneLeaves decided_b.lines
    left_b = none_both decided_a.lines during left_a s.none_leaves

    at_first : WritesOn a
    at_first =
        subst WritesOn s.leads
        (begun_on begins first s.quiet (ap (λ (y : Acting). is_writing y.policy.activity) s.leads ∙ s.writes)
        (before begins s.stays first (has_covered first s.decided s.generations s.none_left)))

    given : NothingGivenUp during a × (list_any tells_loss (sent (acted_if_idle x)).notes ≡ false)
    given = given_parts during ends a nothing

    kept_on : AtEachLine KeepsWriting during a × (gives_up_writing ends b ≡ false)
    kept_on = kept_parts during ends a keeps

    answered : AllAnswerWell during a × AnswersWell ends.1 b.manager
    answered = answer_parts during ends a each

    at_last : WritesOn b
    at_last = lines_on during a s.none_leaves decided_a s.generations left_a answered.0 kept_on.0 given.0 s.goes_on at_first

    f : IsFine x
    f = ready_fine ends b s.remains (has_covered b decided_b s.generations left_b) answered.1 kept_on.1 (fine_first b at_last)

    idle : is_idle x.window ≡ true
    idle = by_idle (is_idle x.window) refl
      where
        by_idle : (i : Bool) → is_idle x.window ≡ i → is_idle x.window ≡ true
        by_idle true e = e
        by_idle false e =
            absurd (both_ways (is_writing (after_line ends b).policy.activity) s.over
            (ap (λ (y : Acting). is_writing (sent y).policy.activity) (cond-false (is_idle x.window) (caught_up (acted x)) x e)
            ∙ ap is_writing (sent_about x) ∙ f.writes))

    none_awaited : (t : ℕ) → Awaited x t → ⊥
    none_awaited t (inl any) = subst (AnyAsks t) (settled_given ends b) any
    none_awaited t (inr there) = none_waits t x.window.queued x.window.outs idle there

    kept : KeepsWritten x.kept x.manager
    kept =
        let k = (still_runs ends b (is_running b decided_b)).writes f.stays f.writes in
        record {
          plan = k.plan;
          is_kept = k.is_kept;
          last = k.last;
          written = over_written x.manager (Awaited x) (f.well (noted_before x given.1)) none_awaited;
        }
