-- Managers that took in the same print the same.
use Rattle.std.proofs.Common.{◌≡◌, ◌≢◌, ◌<◌, ◌⊎◌, inl, inr, ℕ, zero, suc, List, [], ◌∷◌, ◌++◌, length, refl, sym, ap, ◌∙◌, subst, arith}
use Rattle.std.proofs.lemmas.Bool.Decides.{eqb_tells}
use Rattle.std.proofs.lemmas.List.{append_assoc, append-nil}
use Rattle.std.proofs.lemmas.List.Elements.{Contains-append_cases, Contains-append_right}
use Rattle.std.specs.Prelude.{Option, Some, None, slice_get}
use Rattle.std.specs.Option.{option_map_or}
use Rattle.topo_file.specs.Topology.{Layout}
use Rattle.topo_file.specs.declared.node.Node.{Node}
use Rattle.schedule_file.specs.Schedule.{Script}
use Rattle.schedule_file.specs.Resolve.{SeatCommand}
use Rattle.schedule_file.specs.declared.command.Command.TheVariants.{Merge, Show}
use Rattle.schedule_file.specs.declared.command.Shown.TheVariants.{Plan}
use Rattle.reply_facts.specs.Report.{Sightings}
use Rattle.fact_store.specs.Seen.{HaveSameMembers}
use Rattle.fact_store.specs.View.{Facts, cells_of, view_at}
use Rattle.fact_store.proofs.Views.{members_decide_view}
use Rattle.record_file.specs.FactsText.{facts_text}
use Rattle.lft_blocks.specs.Planning.{Planning}
use Rattle.sm_manager.specs.PlanFaults.{plan_fault}
use Rattle.schedule_lines.specs.ManagerAsks.{plan_or_refusal}
use Rattle.schedule_run.specs.Commands.{after_command, after_commands, shown_of, world_of}
use Rattle.schedule_run.specs.RunText.{script_text}
use Rattle.schedule_run.specs.World.{SeatedValue, WorldValue}
use Rattle.run_laws.specs.Accounts.{Account, Accounts, account_after, joined, opened, told_by_command, told_by_commands, with_more, world_after}
use Rattle.run_laws.specs.Lines.{LaterLinesComeBehind, MergedManagersPlanAlike, PrintsPlansAlike, SameTakenInPlansAlike, SameTakenInSameLines}
use Rattle.run_laws.specs.Lines.{TellTheSame, and_lines}
use Rattle.run_laws.proofs.Known.{all_known, command_known}
use Rattle.run_laws.proofs.Seats.{AreKnown, more_here, more_there}

-- lines behind others ------------------------------------------------------------------------------------

now_behind : (nodes : List Node) (w : WorldValue) (commands lines : List SeatCommand)
    → (after_commands nodes w (commands ++ lines)).now ≡ (after_commands nodes (after_commands nodes w commands).now lines).now
now_behind nodes w [] lines = refl
now_behind nodes w (command ∷ later) lines = now_behind nodes (after_command nodes w command).now later lines

text_behind : (nodes : List Node) (w : WorldValue) (commands lines : List SeatCommand)
    → (after_commands nodes w (commands ++ lines)).text
    ≡ (after_commands nodes w commands).text ++ (after_commands nodes (after_commands nodes w commands).now lines).text
text_behind nodes w [] lines = refl
text_behind nodes w (command ∷ later) lines =
    let next = (after_command nodes w command).now in
    ap (λ text. (after_command nodes w command).text ++ text) (text_behind nodes next later lines)
    ∙ sym (append_assoc (after_command nodes w command).text (after_commands nodes next later).text (after_commands nodes
    (after_commands nodes next later).now lines).text)

told_behind : (nodes : List Node) (w : WorldValue) (accounts : Accounts) (commands lines : List SeatCommand)
    → told_by_commands nodes w accounts (commands ++ lines)
    ≡ told_by_commands nodes (after_commands nodes w commands).now (told_by_commands nodes w accounts commands) lines
told_behind nodes w accounts [] lines = refl
told_behind nodes w accounts (command ∷ later) lines = told_behind nodes (after_command nodes w command).now (told_by_command w accounts command) later lines

pub later_lines_come_behind : LaterLinesComeBehind
unfolding script_text
later_lines_come_behind planning topology script lines =
    text_behind topology.nodes (world_of planning topology script.seats script.deciders) script.commands lines

-- managers that know the same ----------------------------------------------------------------------------

-- of managers in their seats
module _ (one other : WorldValue) (seat seat' : ℕ) (s s' : SeatedValue) (there : slice_get one.managers seat ≡ Some s)
    (there' : slice_get other.managers seat' ≡ Some s') (facts : s.manager.store ≡ s'.manager.store) (plannings : s.manager.planning
    ≡ s'.manager.planning) where
  told_alike : (text : Planning → Facts → List ℕ)
      → option_map_or (λ (x : SeatedValue). text x.manager.planning x.manager.store) (slice_get one.managers seat) []
      ≡ option_map_or (λ (x : SeatedValue). text x.manager.planning x.manager.store) (slice_get other.managers seat') []
  told_alike text =
      ap (λ o. option_map_or (λ (x : SeatedValue). text x.manager.planning x.manager.store) o []) there ∙ (λ i. text (plannings i) (facts i))
      ∙ ap (λ o. option_map_or (λ (x : SeatedValue). text x.manager.planning x.manager.store) o []) (sym there')

  know_alike : TellTheSame one other seat seat'
  unfolding shown_of
  know_alike =
      record {
        facts = told_alike (λ planning facts. facts_text facts);
        plan = told_alike (λ planning x. plan_or_refusal planning (cells_of x) (plan_fault planning.lmc (cells_of x)));
      }

-- who is in a seat
none_within : (xs : List SeatedValue) (i : ℕ) → i < length xs → slice_get xs i ≡ None → ⊥
none_within [] i h e = omega (arith, h)
none_within (x ∷ xs) zero h e = cc
none_within (x ∷ xs) (suc i) h e = none_within xs i (omega (arith, h)) e

seated : (count : ℕ) (planning : Planning) (managers : List SeatedValue) (accounts : Accounts) (seat : ℕ) → AreKnown count planning managers accounts → seat
    < count
    → (s : SeatedValue) × (slice_get managers seat ≡ Some s)
seated count planning managers accounts seat known within = by_seat (slice_get managers seat) refl
  where
    by_seat : (o : Option SeatedValue) → slice_get managers seat ≡ o → (s : SeatedValue) × (slice_get managers seat ≡ Some s)
    by_seat None e = absurd (none_within managers seat (omega (arith, within, known.many)) e)
    by_seat (Some s) e = (s, e)

tell_alike : (planning : Planning) (topology topology' : Layout) (script script' : Script) (seat seat' : ℕ) → seat < length script.seats → seat'
    < length script'.seats
    → view_at (account_after planning topology script seat).floor (account_after planning topology script seat).told
    ≡ view_at (account_after planning topology' script' seat').floor (account_after planning topology' script' seat').told
    → TellTheSame (world_after planning topology script) (world_after planning topology' script') seat seat'
tell_alike planning topology topology' script script' seat seat' within within' same =
    let known = all_known planning topology script in
    let known' = all_known planning topology' script' in
    let s = seated (length script.seats) planning (world_after planning topology script).managers (account_after planning topology script) seat known within in
    let s' = seated (length script'.seats) planning (world_after planning topology' script').managers (account_after planning topology' script') seat' known'
    within' in
    know_alike (world_after planning topology script) (world_after planning topology' script') seat seat' s.0 s'.0 s.1 s'.1
    (known.knows seat s.0 s.1 ∙ same ∙ sym (known'.knows seat' s'.0 s'.1)) (known.plannings seat s.0 s.1 ∙ sym (known'.plannings seat' s'.0 s'.1))

views_alike : (one other : Account) → HaveSameMembers one.told other.told → one.floor ≡ other.floor
    → view_at one.floor one.told ≡ view_at other.floor other.told
views_alike one other same floors = members_decide_view one.floor one.told other.told same ∙ ap (λ floor. view_at floor other.told) floors

pub same_taken_in_same_lines : SameTakenInSameLines
same_taken_in_same_lines planning topology topology' script script' seat seat' within within' same floors =
    tell_alike planning topology topology' script script' seat seat' within within'
    (views_alike (account_after planning topology script seat) (account_after planning topology' script' seat') same floors)

-- plans behind a schedule ---------------------------------------------------------------------------------

plans_twice : (planning : Planning) (topology : Layout) (script : Script) (seat other : ℕ)
    → TellTheSame (world_after planning topology script) (world_after planning topology script) seat other
    → PrintsPlansAlike planning topology script seat other
plans_twice planning topology script seat other alike =
    let w = world_after planning topology script in
    let plan = shown_of w seat Plan in
    record {
      plan = plan;
      twice = later_lines_come_behind planning topology script (Show seat Plan ∷ Show other Plan ∷ [])
          ∙ ap (λ text. script_text planning topology script ++ (plan ++ text)) (append-nil (shown_of w other Plan) ∙ sym alike.plan);
    }

pub same_taken_in_plans_alike : SameTakenInPlansAlike
same_taken_in_plans_alike planning topology script seat other within within' same floors =
    plans_twice planning topology script seat other (same_taken_in_same_lines planning topology topology script script seat other within within' same floors)

-- managers that merged ------------------------------------------------------------------------------------

module _ (planning : Planning) (topology : Layout) (script : Script) (seat other : ℕ) (within : seat < length script.seats) (within' : other
    < length script.seats) where
  abbrev count : ℕ
  count = length script.seats

  abbrev after : Accounts
  after = account_after planning topology script

  abbrev w : WorldValue
  w = world_after planning topology script

  -- the first has merged
  abbrev first : Accounts
  first = with_more after seat (after other)

  abbrev merged_once : WorldValue
  merged_once = (after_command topology.nodes w (Merge seat other)).now

  -- and then the other
  abbrev second : Accounts
  second = with_more first other (first seat)

  by_first : told_by_command w after (Merge seat other) ≡ first
  by_first =
      let o = seated count planning w.managers after other (all_known planning topology script) within' in
      ap (λ m. option_map_or (λ (o : SeatedValue). with_more after seat (after other)) m after) o.1

  known_once : AreKnown count planning merged_once.managers first
  known_once =
      subst (λ accounts. AreKnown count planning merged_once.managers accounts) by_first
      (command_known count planning topology.nodes w after (Merge seat other) (all_known planning topology script))

  by_second : told_by_command merged_once first (Merge other seat) ≡ second
  by_second =
      let s = seated count planning merged_once.managers first seat known_once within in
      ap (λ m. option_map_or (λ (o : SeatedValue). with_more first other (first seat)) m first) s.1

  accounts_then : account_after planning topology (and_lines script (Merge seat other ∷ Merge other seat ∷ [])) ≡ second
  accounts_then =
      told_behind topology.nodes (world_of planning topology script.seats script.deciders) opened script.commands (Merge seat other ∷ Merge other seat ∷ [])
      ∙ ap (λ accounts. told_by_command merged_once accounts (Merge other seat)) by_first ∙ by_second

  -- each has what both took in
  same_members : (xs ys : Sightings) → HaveSameMembers (xs ++ ys) (ys ++ (xs ++ ys))
  same_members xs ys = (
    λ x there. Contains-append_right ys (xs ++ ys) x there,
    λ x there. elim (Contains-append_cases ys (xs ++ ys) x there) [ inl h ↦ Contains-append_right xs ys x h | inr h ↦ h ],
  )

  seconds_alike : seat ≢ other → view_at (second seat).floor (second seat).told ≡ view_at (second other).floor (second other).told
  seconds_alike apart =
      let one = after seat in
      let two = after other in
      let here : second seat ≡ joined one two = more_there first other seat (first seat) apart ∙ more_here after seat two in
      let there : second other ≡ joined two (joined one two) =
      more_here first other (first seat)
      ∙ ap (λ a. joined a (first seat)) (more_there after seat other two (λ e. apart (sym e))) ∙ ap (joined two) (more_here after seat two) in
      ap (λ (a : Account). view_at a.floor a.told) here
      ∙ members_decide_view (joined one two).floor (joined one two).told (joined two (joined one two)).told (same_members one.told two.told)
      ∙ ap (λ floor. view_at floor (joined two (joined one two)).told) (omega arith)
      ∙ ap (λ (a : Account). view_at a.floor a.told) (sym there)

  merged_alike : (seat ≡ other) ⊎ (seat ≢ other)
      → view_at (account_after planning topology (and_lines script (Merge seat other ∷ Merge other seat ∷ [])) seat).floor
      (account_after planning topology (and_lines script (Merge seat other ∷ Merge other seat ∷ [])) seat).told
      ≡ view_at (account_after planning topology (and_lines script (Merge seat other ∷ Merge other seat ∷ [])) other).floor
      (account_after planning topology (and_lines script (Merge seat other ∷ Merge other seat ∷ [])) other).told
  merged_alike (inl same) =
      ap (λ k. view_at (account_after planning topology (and_lines script (Merge seat other ∷ Merge other seat ∷ [])) k).floor
      (account_after planning topology (and_lines script (Merge seat other ∷ Merge other seat ∷ [])) k).told) same
  merged_alike (inr apart) =
      subst (λ (accounts : Accounts). view_at (accounts seat).floor (accounts seat).told ≡ view_at (accounts other).floor (accounts other).told)
      (sym accounts_then) (seconds_alike apart)

  merged_plan_alike : PrintsPlansAlike planning topology (and_lines script (Merge seat other ∷ Merge other seat ∷ [])) seat other
  merged_plan_alike =
      let after_both = and_lines script (Merge seat other ∷ Merge other seat ∷ []) in
      plans_twice planning topology after_both seat other
      (tell_alike planning topology topology after_both after_both seat other within within'
      (merged_alike (elim (eqb_tells seat other) [ inl same ↦ inl same.1 | inr h ↦ inr h.1 ])))

pub merged_managers_plan_alike : MergedManagersPlanAlike
merged_managers_plan_alike = merged_plan_alike
