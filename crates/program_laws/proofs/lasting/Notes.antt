-- What a manager that decides by itself notes when it decides: that nothing is left to write only if it judges that.
use Rattle.std.proofs.Common.{◌≡◌, ◌++◌, Bool, true, false, List, [], ◌∷◌, Option, None, Some, refl}
use Rattle.std.proofs.lemmas.Bool.{cond_both}
use Rattle.std.specs.List.{list_any}
use Rattle.std.specs.Prelude.{◌||◌, is_none}
use Rattle.lft_blocks.specs.Plan.{PlanValue}
use Rattle.sm_manager.specs.CallLists.{Call}
use Rattle.sm_manager.specs.Election.{handover_fault, yield_fault}
use Rattle.sm_manager.specs.Manager.{begin_fault}
use Rattle.sm_manager.specs.PlanFaults.{writing_fault}
use Rattle.sm_manager.specs.Writing.{is_written}
use Rattle.sm_manager.specs.declared.fault.ManagerFault.{ManagerFault}
use Rattle.sm_policy.specs.Judged.{cause_of, judged, wrote}
use Rattle.sm_policy.specs.Policy.{Decision, announced_every, is_sweeping, later_by, still}
use Rattle.sm_policy.specs.Resting.{call_due, is_due, poll_due, rested, sweep_due, sweeping}
use Rattle.sm_policy.specs.Swept.{swept}
use Rattle.sm_policy.specs.declared.act.Act.{Act}
use Rattle.sm_policy.specs.declared.act.Act.TheVariants as act
use Rattle.sm_policy.specs.declared.activity.Activity.{Activity}
use Rattle.sm_policy.specs.declared.activity.Activity.TheVariants as activity
use Rattle.sm_policy.specs.declared.ports.Ports.{Ports}
use Rattle.sm_policy.specs.declared.write_cause.WriteCause.{WriteCause}
use Rattle.request_window.specs.Window.{cleared}
use Rattle.acting_manager.specs.Acting.{Acting, caught_up, noted}
use Rattle.acting_manager.specs.Acts.{about_plan, acted, acted_in, decided, done_by, floor_raised, handed_by, is_whole, left_in, noted_unplanned}
use Rattle.acting_manager.specs.Acts.{rival_seen}
use Rattle.acting_manager.specs.Planned.{comparison_of, planned}
use Rattle.acting_manager.specs.Working.{acted_if_idle, is_idle, sent, yielding_at_once}
use Rattle.acting_manager.specs.declared.note.Note.{Note}
use Rattle.acting_manager.specs.declared.note.Note.TheVariants.{Did, GivenUp, Paused, Refused, Settled, State, Swept, Writes, Wrote}
use Rattle.program_laws.proofs.lasting.Told.{Lasts, Of, Property, catches_up, sends}

-- one more note of a list
pub any_last : (test : Note → Bool) (notes : List Note) (note : Note) → list_any test (notes ++ note ∷ []) ≡ list_any test notes || test note
any_last test [] note = by (test note)
  where
    by : (b : Bool) → b || false ≡ b
    by true = refl
    by false = refl
any_last test (n ∷ notes) note = by (test n) (any_last test notes note)
  where
    by : (b : Bool) → list_any test (notes ++ note ∷ []) ≡ list_any test notes || test note
        → b || list_any test (notes ++ note ∷ []) ≡ (b || list_any test notes) || test note
    by true e = refl
    by false e = e

-- the note does not tell that nothing is left to write
abbrev pub IsPlain : Note → Type 0
IsPlain (Settled ports) = ⊥
IsPlain note = Unit {0}

-- what the manager judges when its sweep is over is that nothing is left to write
pub record JudgesSettled (a : Acting) : Type 0 where
  pub stays : a.is_leaving ≡ false
  pub sweeps : a.policy.activity ≡ activity.Sweeps
  pub judges : (swept a.time (is_whole a.manager) (rival_seen a.manager) a.policy).act ≡ act.Judge
  pub settles : (judged a.time (comparison_of a.kept (planned a.manager)) a.reads.ports
      (swept a.time (is_whole a.manager) (rival_seen a.manager) a.policy).policy).act ≡ act.Settle

module _ (N : List Note → Type 0) (each : (notes : List Note) (note : Note) → IsPlain note → N notes → N (notes ++ note ∷ [])) where
  -- the note that nothing is left to write may be added
  abbrev pub CanSettle : Type 0
  CanSettle = (notes : List Note) (ports : Ports) → N notes → N (notes ++ Settled ports ∷ [])

  hands_note : (what : Act) (call : Call) (fault : Option ManagerFault) (a : Acting) → N a.notes → N (handed_by what call fault a).notes
  hands_note what call fault a n =
      cond_both (is_none fault) (a.notes ++ Did what ∷ []) a.notes N (λ _. each a.notes (Did what) tt n) (λ _. n)

  about_note : (what : Act) (cause : WriteCause) (plan : Option PlanValue) (a : Acting) → (what ≡ act.Settle → CanSettle) → N a.notes
      → N (about_plan what cause plan a).notes
  about_note act.Write cause (Some plan) a can n =
      cond_both (is_none (writing_fault a.manager)) (Writes cause) (Refused act.Write) (λ (note : Note). N (a.notes ++ note ∷ []))
      (λ _. each a.notes (Writes cause) tt n) (λ _. each a.notes (Refused act.Write) tt n)
  about_note act.Write cause None a can n = n
  about_note act.Settle cause plan a can n =
      hands_note act.HandOver Call.Handover (handover_fault a.manager) (noted (Settled a.reads.ports) a) (can refl a.notes a.reads.ports n)
  about_note act.Wait cause plan a can n = n
  about_note act.Poll cause plan a can n = n
  about_note act.Announce cause plan a can n = n
  about_note act.Sweep cause plan a can n = n
  about_note act.Rediscover cause plan a can n = n
  about_note act.HandOver cause plan a can n = n
  about_note act.Yield cause plan a can n = n
  about_note act.Judge cause plan a can n = n

  unplanned_note : (plan : Option PlanValue) (a : Acting) → N a.notes → N (noted_unplanned plan a).notes
  unplanned_note None a n = each a.notes (Refused act.Judge) tt n
  unplanned_note (Some plan) a n = n

  does_note : (what : Act) (a : Acting)
      → (what ≡ act.Judge → (judged a.time (comparison_of a.kept (planned a.manager)) a.reads.ports a.policy).act ≡ act.Settle → CanSettle)
      → N a.notes → N (done_by what a).notes
  does_note act.Wait a can n = n
  does_note act.Poll a can n = n
  does_note act.Announce a can n = each a.notes (Did act.Announce) tt n
  does_note act.Sweep a can n =
      cond_both (is_none (begin_fault (floor_raised a).manager)) (Did act.Sweep) (Refused act.Sweep) (λ (note : Note). N (a.notes ++ note ∷ []))
      (λ _. each a.notes (Did act.Sweep) tt n) (λ _. each a.notes (Refused act.Sweep) tt n)
  does_note act.Rediscover a can n = each a.notes (Did act.Rediscover) tt n
  does_note act.HandOver a can n = hands_note act.HandOver Call.Handover (handover_fault a.manager) a n
  does_note act.Yield a can n = hands_note act.Yield Call.Yield (yield_fault a.manager) a n
  does_note act.Judge a can n =
      let plan = planned a.manager in
      let d = judged a.time (comparison_of a.kept plan) a.reads.ports a.policy in
      about_note d.act (cause_of (comparison_of a.kept plan) a.reads.ports a.policy) plan (record (noted_unplanned plan a) { policy = d.policy })
      (can refl) (unplanned_note plan a n)
  does_note act.Write a can n = n
  does_note act.Settle a can n = n

  module _ (a : Acting) (can : JudgesSettled a → CanSettle) where
    rests_note : N a.notes → N (decided (rested a.time a.policy) a).notes
    rests_note n =
        let now = a.time in
        let p = a.policy in
        cond_both (is_due now (poll_due p)) (record { policy = record p { next_poll = later_by p.timing.poll now }; act = act.Poll }) _
        (λ (d : Decision). N (decided d a).notes) (λ _. n)
        (λ _. cond_both (is_due now (call_due p)) (record { policy = record p { next_call = later_by announced_every now }; act = act.Announce }) _
        (λ (d : Decision). N (decided d a).notes) (λ _. each a.notes (Did act.Announce) tt n)
        (λ _. cond_both (is_due now (sweep_due p)) (record { policy = sweeping now p; act = act.Sweep }) (still p) (λ (d : Decision). N (decided d a).notes)
        (λ _. does_note act.Sweep (record a { policy = sweeping now p }) (λ e. absurd (cc)) n) (λ _. n)))

    writes_note : N a.notes → N (acted_in activity.Writes a).notes
    writes_note n = by (is_written a.manager)
      where
        by : (b : Bool) → N (decided (wrote a.time b a.policy) (noted (Wrote b) a)).notes
        by true =
            hands_note act.HandOver Call.Handover (handover_fault a.manager)
            (record (noted (Wrote true) a) { policy = record a.policy { activity = activity.Rests; is_wanted = true } }) (each a.notes (Wrote true) tt n)
        by false = each a.notes (Wrote false) tt n

    acts_in_note : (what : Activity) → a.policy.activity ≡ what → a.is_leaving ≡ false → N a.notes → N (acted_in what a).notes
    acts_in_note activity.Rests is stays n = rests_note n
    acts_in_note activity.Sweeps is stays n =
        let d = swept a.time (is_whole a.manager) (rival_seen a.manager) a.policy in
        does_note d.act (record (noted (Swept (is_whole a.manager)) a) { policy = d.policy })
        (λ judges settles. can (record { stays = stays; sweeps = is; judges = judges; settles = settles }))
        (each a.notes (Swept (is_whole a.manager)) tt n)
    acts_in_note activity.Writes is stays n = writes_note n
    acts_in_note activity.Hands is stays n = n

    leaves_in_note : (what : Activity) → N a.notes → N (left_in what a).notes
    leaves_in_note activity.Rests n = n
    leaves_in_note activity.Sweeps n = hands_note act.Yield Call.Yield (yield_fault a.manager) a n
    leaves_in_note activity.Writes n = n
    leaves_in_note activity.Hands n = n

    acts_note : N a.notes → N (acted a).notes
    acts_note n =
        cond_both a.is_leaving (left_in a.policy.activity a) (acted_in a.policy.activity a) (λ (b : Acting). N b.notes)
        (λ _. leaves_in_note a.policy.activity n) (λ e. acts_in_note a.policy.activity refl e n)

  -- until it decides, it notes nothing else
  abbrev pub OfNotes : Property
  OfNotes m p kept notes leaves = N notes

  pub notes_last : Lasts OfNotes
  notes_last =
      record {
        gives = λ a n. n;
        hears = λ a bytes from n. n;
        gives_up = λ a request n. each a.notes (GivenUp request.packet) tt n;
        drops = λ a request writes n. n;
        wants = λ a n. n;
        polls = λ a is_master n. n;
        is_taken = λ a n. n;
        enters = λ a state n. each a.notes (State state) tt n;
        pauses = λ a time n. each a.notes Paused tt n;
        leaves = λ a n.
            cond_both a.is_leaving a _ (λ (b : Acting). N b.notes) (λ _. n)
            (λ _. cond_both (is_sweeping a.policy.activity) (record a { is_leaving = true }) (yielding_at_once (record a { is_leaving = true }))
            (λ (b : Acting). N b.notes) (λ _. n)
            (λ _. hands_note act.Yield Call.Yield (yield_fault a.manager) (record a { is_leaving = true; window = cleared a.window }) n));
      }

  -- what it notes by a line, once it is told that
  pub decides_note : (a : Acting) → (JudgesSettled a → CanSettle) → N a.notes → N (sent (acted_if_idle a)).notes
  decides_note a can n =
      sends OfNotes notes_last (acted_if_idle a)
      (cond_both (is_idle a.window) (caught_up (acted a)) a (Of OfNotes) (λ _. catches_up OfNotes notes_last (acted a) (acts_note a can n)) (λ _. n))
