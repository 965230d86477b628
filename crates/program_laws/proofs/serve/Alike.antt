-- Processes that were told the same print the same.
use Rattle.std.proofs.Common.{◌≡◌, ℕ, List, [], ◌∷◌, ◌++◌, refl, sym, ap, ◌∙◌, subst}
use Rattle.fact_store.specs.Seen.{HaveSameMembers}
use Rattle.fact_store.specs.View.{cells_of}
use Rattle.record_file.specs.FactsText.{facts_text}
use Rattle.lft_blocks.specs.Planning.{Planning}
use Rattle.sm_state.specs.declared.conduct.Conduct.{Conduct}
use Rattle.schedule_lines.specs.ManagerAsks.{plan_or_refusal}
use Rattle.sm_manager.specs.CallLists.{KnowTheSame, after_calls}
use Rattle.sm_manager.specs.Manager.{Manager, new_manager}
use Rattle.sm_manager.specs.PlanFaults.{plan_fault}
use Rattle.sm_manager.proofs.Lives.{knows_what_it_took_in, planning_of_calls, same_taken_in_same_plan}
use Rattle.serve_lines.specs.declared.serve_line.ServeLine.TheVariants as is
use Rattle.schedule_file.specs.declared.command.Shown.TheVariants as shown
use Rattle.serve_lines.specs.declared.serve_line.ServeLine.{ServeLine}
use Rattle.serve_run.specs.Served.{end_line, served, served_all, send_line}
use Rattle.program_laws.specs.Told.{Who, new_by}
use Rattle.program_laws.specs.Told.{calls_of, floor_by, told_by}
use Rattle.program_laws.specs.ServeLaws.{KnowsWhatItWasTold, SameToldSameTexts, TellTheSame}
use Rattle.program_laws.proofs.serve.Lived.{served_lives}
use Rattle.std.specs.List.{flat_map}

pub knows_what_it_was_told : KnowsWhatItWasTold
knows_what_it_was_told who lines =
    ap (λ (m : Manager). m.store) (served_lives (new_by who) lines)
    ∙ knows_what_it_took_in who.port_guid who.port who.priority who.conduct who.planning (calls_of lines (new_by who))

-- nothing is queued between lines
nothing_queued : (m : Manager) (lines : List ServeLine) → m.outgoing ≡ [] → (served_all m lines).now.outgoing ≡ []
unfolding served
nothing_queued m [] e = e
nothing_queued m (line ∷ lines) e = nothing_queued (served m line).now lines refl

planning_stays : (m : Manager) (lines : List ServeLine) → (served_all m lines).now.planning ≡ m.planning
planning_stays m lines = ap (λ (x : Manager). x.planning) (served_lives m lines) ∙ planning_of_calls (calls_of lines m) m

facts_alike : (one other : Manager) → one.store ≡ other.store → one.outgoing ≡ [] → other.outgoing ≡ []
    → (served one (is.Show shown.Facts)).text ≡ (served other (is.Show shown.Facts)).text
unfolding served
facts_alike one other facts none none' =
    (λ i. (facts_text (facts i) ++ flat_map send_line (none i)) ++ end_line)
    ∙ ap (λ out. (facts_text other.store ++ flat_map send_line out) ++ end_line) (sym none')

plans_alike : (one other : Manager) → one.store ≡ other.store → one.planning ≡ other.planning → one.outgoing ≡ [] → other.outgoing ≡ []
    → (served one (is.Show shown.Plan)).text ≡ (served other (is.Show shown.Plan)).text
unfolding served
plans_alike one other facts plannings none none' =
    (λ i. (plan_or_refusal (plannings i) (cells_of (facts i)) (plan_fault (plannings i).lmc (cells_of (facts i)))
    ++ flat_map send_line (none i)) ++ end_line)
    ∙ ap (λ out. (plan_or_refusal other.planning (cells_of other.store) (plan_fault other.planning.lmc (cells_of other.store))
    ++ flat_map send_line out) ++ end_line) (sym none')

-- under one planning
alike : (guid port priority guid' port' priority' : ℕ) (conduct conduct' : Conduct) (planning : Planning) (lines lines' : List ServeLine)
    → (let who : Who = record { port_guid = guid; port = port; priority = priority; conduct = conduct; planning = planning } in
    let who' : Who = record { port_guid = guid'; port = port'; priority = priority'; conduct = conduct'; planning = planning } in
    floor_by who lines ≡ floor_by who' lines' → HaveSameMembers (told_by who lines) (told_by who' lines')
    → TellTheSame (served_all (new_by who) lines).now (served_all (new_by who') lines').now)
alike guid port priority guid' port' priority' conduct conduct' planning lines lines' floors same =
    let one = new_manager guid port priority conduct planning in
    let other = new_manager guid' port' priority' conduct' planning in
    let know : KnowTheSame (served_all one lines).now (served_all other lines').now =
    subst (λ m. KnowTheSame m (served_all other lines').now) (sym (served_lives one lines))
    (subst (λ m. KnowTheSame (after_calls (calls_of lines one) one) m) (sym (served_lives other lines'))
    (same_taken_in_same_plan guid port priority guid' port' priority' conduct conduct' planning (calls_of lines one) (calls_of lines' other) floors same)) in
    record {
      facts = facts_alike (served_all one lines).now (served_all other lines').now know.facts (nothing_queued one lines refl)
          (nothing_queued other lines' refl);
      plan = plans_alike (served_all one lines).now (served_all other lines').now know.facts
          (planning_stays one lines ∙ sym (planning_stays other lines')) (nothing_queued one lines refl)
          (nothing_queued other lines' refl);
      know = know;
    }

pub same_told_same_texts : SameToldSameTexts
same_told_same_texts who who' lines lines' plannings floors same =
    let them : Who = record who' { planning = who.planning } in
    let e : them ≡ who' = λ i. record who' { planning = plannings i } in
    let law = λ (x : Who). floor_by who lines ≡ floor_by x lines' → HaveSameMembers (told_by who lines) (told_by x lines')
    → TellTheSame (served_all (new_by who) lines).now (served_all (new_by x) lines').now in
    subst law e
    (alike who.port_guid who.port who.priority who'.port_guid who'.port who'.priority who.conduct who'.conduct who.planning lines lines') floors same
