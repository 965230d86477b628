-- No line of an answer but its last one begins with a dot.
use Rattle.std.proofs.Common.{◌≡◌, ℕ, zero, suc, ◌+◌, ◌/◌, ◌%◌, Bool, true, false, List, [], ◌∷◌, ◌++◌, append_assoc, refl, sym, ap, ◌∙◌, arith}
use Rattle.std.proofs.lemmas.Bool.{cond_both}
use Rattle.std.specs.Prelude.{◌&&◌, ◌||◌, ◌==◌, nat_le, nat_lt, codes, decimal, slice_index, length, Option, Some, None}
use Rattle.std.specs.Fmt.{digit_glyph, digits, digits_onto}
use Rattle.std.specs.List.{flat_map, enumerate_from, range_with_len}
use Rattle.std.specs.Option.{option_map_or}
use Rattle.hex.specs.Hex.{encode_lower, encode_with, lower_digits}
use Rattle.text_words.proofs.Splits.{differs}
use Rattle.smp_bytes.specs.Text.{guid_text, hex_text, port_text, type_word}
use Rattle.smp_bytes.specs.SmpFault.{smp_fault_name}
use Rattle.smp_bytes.specs.declared.smp_fault.SmpFault.{SmpFault}
use Rattle.smp_bytes.specs.declared.smp_fault.SmpFault.TheVariants as smp
use Rattle.smp_bytes.specs.declared.node_type.NodeType.{NodeType}
use Rattle.smp_bytes.specs.declared.node_type.NodeType.TheVariants.{ChannelAdapter, Switch, Router}
use Rattle.reply_facts.specs.ReportFault.{report_fault_name}
use Rattle.reply_facts.specs.declared.report_fault.ReportFault.{ReportFault}
use Rattle.reply_facts.specs.declared.report_fault.ReportFault.TheVariants as report
use Rattle.sweep.specs.Fault.{sweep_fault_name}
use Rattle.sweep.specs.Sweep.{Sweep}
use Rattle.sweep.specs.declared.fault.SweepFault.{SweepFault}
use Rattle.sweep.specs.declared.fault.SweepFault.TheVariants as sweep
use Rattle.sm_manager.specs.Fault.{manager_fault_name}
use Rattle.sm_manager.specs.declared.fault.ManagerFault.{ManagerFault}
use Rattle.sm_manager.specs.declared.fault.ManagerFault.TheVariants as manager
use Rattle.sm_manager.specs.declared.outgoing.Outgoing.{Outgoing}
use Rattle.sm_manager.specs.Manager.{Manager}
use Rattle.fact_join.specs.declared.cell.Cell.{Cell}
use Rattle.fact_join.specs.declared.cell.Cell.TheVariants.{Known, Disputed}
use Rattle.reply_facts.specs.Key.{kind_word}
use Rattle.reply_facts.specs.declared.key.Key.{Key}
use Rattle.reply_facts.specs.declared.key.Key.TheVariants as key
use Rattle.reply_facts.specs.declared.value.Value.{Value}
use Rattle.reply_facts.specs.declared.value.Value.TheVariants as value
use Rattle.fact_store.specs.View.{Facts, cells_of}
use Rattle.record_file.specs.FactsText.{cell_text, facts_text, floor_line, line_text, subject_text, value_text}
use Rattle.subnet_view.specs.declared.end_port.EndPort.{EndPort}
use Rattle.subnet_view.specs.Reading.{Cells}
use Rattle.lid_assign.specs.Lids.{Given, lmc_of, owner_of, rising_lids, top_of}
use Rattle.lft_blocks.specs.Plan.{PlanValue, SwitchTable, plan_of}
use Rattle.lft_blocks.specs.PlanText.{block_line, blocks_text, lid_line, lids_text, lmc_text, owner_line, plan_text, switch_line, table_text, tables_text}
use Rattle.lft_blocks.specs.Planning.{Planning}
use Rattle.sm_state.specs.State.{state_of_number, state_word}
use Rattle.attr_codec.specs.declared.sm_info.SmInfo.{SmInfo}
use Rattle.sm_state.specs.declared.election.SeenManager.{SeenManager}
use Rattle.sm_state.specs.declared.state.SmState.{SmState}
use Rattle.sm_state.specs.declared.state.SmState.TheVariants.{NotActive, Discovering, Standby, Master}
use Rattle.sm_manager.specs.Manager.{outstanding, progress_of, silent_in}
use Rattle.sm_manager.specs.Packets.{after_packet, after_timeout, noted_trap}
use Rattle.sm_manager.specs.declared.traps.Trap.{Trap}
use Rattle.sm_manager.specs.PlanFaults.{plan_fault}
use Rattle.sm_manager.specs.Writing.{is_written}
use Rattle.sm_manager.specs.declared.progress.Progress.{Progress}
use Rattle.sm_manager.specs.declared.progress.Progress.TheVariants.{Never, Running, Done}
use Rattle.schedule_lines.specs.Lines.{answer_word, counts_text, silent_text, stage_text}
use Rattle.schedule_lines.specs.ManagerAsks.{plan_or_refusal, text_of}
use Rattle.schedule_lines.specs.Refusals.{manager_line}
use Rattle.serve_lines.specs.declared.serve_line.ServeLine.TheVariants as is
use Rattle.schedule_file.specs.declared.command.Shown.TheVariants as shown
use Rattle.serve_lines.specs.declared.serve_line.ServeLine.{ServeLine}
use Rattle.schedule_file.specs.declared.command.Shown.{Shown}
use Rattle.serve_run.specs.Served.{after_giving_up, after_line, asked, end_line, fault_text, heard_text, seen_line}
use Rattle.serve_run.specs.Served.{send_line, to_text, told_state, told_text, where_text, served}
use Rattle.serve_lines.specs.declared.manage_line.ManageLine.{ManageLine}
use Rattle.serve_lines.specs.declared.manage_line.ManageLine.TheVariants as manage
use Rattle.serve_lines.specs.declared.manage_line.ManageWord.{ManageWord}
use Rattle.serve_lines.specs.declared.manage_line.ManageWord.TheVariants as word
use Rattle.sm_policy.specs.declared.act.Act.{Act}
use Rattle.sm_policy.specs.declared.act.Act.TheVariants as act
use Rattle.sm_policy.specs.declared.write_cause.WriteCause.{WriteCause}
use Rattle.sm_policy.specs.declared.write_cause.WriteCause.TheVariants as cause
use Rattle.sm_policy.specs.declared.ports.Ports.{Ports}
use Rattle.acting_manager.specs.Acting.{Acting}
use Rattle.acting_manager.specs.Administration.{administered, standing_sweep}
use Rattle.light_sweep.specs.LightSweep.{is_same, light_request}
use Rattle.acting_manager.specs.Working.{wake_of}
use Rattle.acting_manager.specs.declared.note.Note.{Note}
use Rattle.acting_manager.specs.declared.note.Note.TheVariants as note
use Rattle.serve_run.specs.Decided.{act_word, after_manage, after_word, cause_text, decided, light_line, light_lines, note_line, note_text, ports_text, sa_line, same_line, wake_line, wake_text}
use Rattle.program_laws.specs.Framed.{AnswersEndOnce, EndsOnce, has_dot, is_line_end}

-- texts ---------------------------------------------------------------------------------------------------

-- no line of the text begins with a dot; a line begins in front of it, or does not, and behind it
record Passes (start : Bool) (text : List ℕ) (behind : Bool) : Type 0 where
  no_dot : has_dot start text ≡ false
  end : is_line_end start text ≡ behind

told : {start behind : Bool} (text : List ℕ) → has_dot start text ≡ false → is_line_end start text ≡ behind → Passes start text behind
told text none e = record { no_dot = none; end = e }

dots_behind : (start : Bool) (one other : List ℕ)
    → has_dot start (one ++ other) ≡ (has_dot start one || has_dot (is_line_end start one) other)
dots_behind start [] other = refl
dots_behind start (b ∷ one) other = by_first (start && b == 46) (dots_behind (b == 10) one other)
  where
    by_first : (t : Bool) → has_dot (b == 10) (one ++ other) ≡ (has_dot (b == 10) one || has_dot (is_line_end (b == 10) one) other)
        → (t || has_dot (b == 10) (one ++ other))
        ≡ ((t || has_dot (b == 10) one) || has_dot (is_line_end (b == 10) one) other)
    by_first true e = refl
    by_first false e = e

end_behind : (start : Bool) (one other : List ℕ) → is_line_end start (one ++ other) ≡ is_line_end (is_line_end start one) other
end_behind start [] other = refl
end_behind start (b ∷ one) other = end_behind (b == 10) one other

and_then : {start between behind : Bool} (one other : List ℕ) → Passes start one between → Passes between other behind
    → Passes start (one ++ other) behind
and_then {start} one other p q =
    record {
      no_dot = dots_behind start one other ∙ ap (λ t. t || has_dot (is_line_end start one) other) p.no_dot
          ∙ ap (λ t. has_dot t other) p.end ∙ q.no_dot;
      end = end_behind start one other ∙ ap (λ t. is_line_end t other) p.end ∙ q.end;
    }

-- the same, with the texts left out
infixl 10 ◌then◌
◌then◌ : {start between behind : Bool} {one other : List ℕ} → Passes start one between → Passes between other behind
    → Passes start (one ++ other) behind
◌then◌ {one = one} {other = other} p q = and_then one other p q

-- a literal in front of a line, or within it
head : (text : List ℕ) → has_dot true text ≡ false → is_line_end true text ≡ false → Passes true text false
head text none e = record { no_dot = none; end = e }

mid : (text : List ℕ) → has_dot false text ≡ false → is_line_end false text ≡ false → Passes false text false
mid text none e = record { no_dot = none; end = e }

nothing : {start : Bool} → Passes start [] start
nothing = record { no_dot = refl; end = refl }

each : {X : Type 0} (line : X → List ℕ) → ((x : X) → Passes true (line x) true) → (xs : List X) → Passes true (flat_map line xs) true
each line passes [] = nothing
each line passes (x ∷ xs) = and_then (line x) (flat_map line xs) (passes x) (each line passes xs)

-- within a line -------------------------------------------------------------------------------------------

abbrev Inner : List ℕ → Type 0
Inner [] = Unit {0}
Inner (b ∷ text) = ((b == 10) ≡ false) × Inner text

inner : (text : List ℕ) → Inner text → Passes false text false
inner [] h = nothing
inner (b ∷ text) h =
    let p = inner text h.1 in
    record { no_dot = ap (λ t. has_dot t text) h.0 ∙ p.no_dot; end = ap (λ t. is_line_end t text) h.0 ∙ p.end }

inner_behind : (one other : List ℕ) → Inner one → Inner other → Inner (one ++ other)
inner_behind [] other h k = k
inner_behind (b ∷ one) other h k = (h.0, inner_behind one other h.1 k)

glyph_apart : (d : ℕ) → (digit_glyph false d == 10) ≡ false
glyph_apart d =
    cond_both (nat_lt d 10) (48 + d) (87 + d) (λ g. (g == 10) ≡ false) (λ _. differs (48 + d) 10 (λ e. omega (arith, e)))
    (λ _. differs (87 + d) 10 (λ e. omega (arith, e)))

digits_inner : (k n : ℕ) (acc : List ℕ) → Inner acc → Inner (digits_onto k 10 false n acc)
digits_inner zero n acc h = h
digits_inner (suc k) n acc h =
    cond_both (n / 10 == 0) (digit_glyph false (n % 10) ∷ acc) (digits_onto k 10 false (n / 10) (digit_glyph false (n % 10) ∷ acc)) Inner
    (λ _. (glyph_apart (n % 10), h)) (λ _. digits_inner k (n / 10) (digit_glyph false (n % 10) ∷ acc) (glyph_apart (n % 10), h))

number : (n : ℕ) → Passes false (decimal n) false
unfolding digits
number n = inner (decimal n) (digits_inner 64 n [] tt)

hex_inner : (k n : ℕ) → Inner (hex_text k n)
unfolding hex_text
hex_inner zero n = tt
hex_inner (suc k) n =
    inner_behind (hex_text k (n / 16)) (digit_glyph false (n % 16) ∷ []) (hex_inner k (n / 16)) (glyph_apart (n % 16), tt)

guid : (g : ℕ) → Passes false (guid_text g) false
guid g = inner (guid_text g) (hex_inner 16 g)

port : (g p : ℕ) → Passes false (port_text g p) false
port g p = guid g then mid (codes "/") refl refl then number p

at_apart : (t : List ℕ) → Inner t → (i : ℕ) → (slice_index t i == 10) ≡ false
at_apart [] h i = refl
at_apart (x ∷ t) h zero = h.0
at_apart (x ∷ t) h (suc i) = at_apart t h.1 i

digits_are_inner : Inner lower_digits
digits_are_inner =
    (refl, (refl, (refl, (refl, (refl, (refl, (refl, (refl, (refl, (refl, (refl, (refl, (refl, (refl, (refl, (refl, tt))))))))))))))))

encoded_inner : (bytes : List ℕ) → Inner (encode_lower bytes)
unfolding encode_with
encoded_inner [] = tt
encoded_inner (b ∷ bytes) =
    (at_apart lower_digits digits_are_inner (b / 16), (at_apart lower_digits digits_are_inner (b % 16), encoded_inner bytes))

encoded : (bytes : List ℕ) → Passes false (encode_lower bytes) false
encoded bytes = inner (encode_lower bytes) (encoded_inner bytes)

-- lines of a manager --------------------------------------------------------------------------------------

smp_name : (fault : SmpFault) → Passes false (smp_fault_name fault) false
smp_name smp.BaseVersion = told _ refl refl
smp_name smp.Class = told _ refl refl
smp_name smp.ClassVersion = told _ refl refl
smp_name smp.HopCount = told _ refl refl
smp_name smp.HopPointer = told _ refl refl
smp_name smp.DrLid = told _ refl refl

report_name : (fault : ReportFault) → Passes false (report_fault_name fault) false
report_name (report.Smp fault) = smp_name fault
report_name fault = told _ refl refl

sweep_name : (fault : SweepFault) → Passes false (sweep_fault_name fault) false
sweep_name (sweep.Bad fault) = report_name fault
sweep_name fault = told _ refl refl

fault_name : (fault : ManagerFault) → Passes false (manager_fault_name fault) false
fault_name (manager.Sweep fault) = sweep_name fault
fault_name fault = told _ refl refl

-- a word, something, and the end of the line
newline : Passes false (codes "\n") true
newline = told (codes "\n") refl refl

refused_passes : (fault : ManagerFault) → Passes true (manager_line fault) true
refused_passes fault = head (codes "refused ") refl refl then fault_name fault then newline

to_passes : (to : Option ℕ) → Passes false (to_text to) false
to_passes None = nothing
to_passes (Some lid) = mid (codes " to ") refl refl then number lid

send_passes : (out : Outgoing) → Passes true (send_line out) true
unfolding send_line
send_passes out = head (codes "send ") refl refl then encoded out.packet then to_passes out.to then newline

-- facts ---------------------------------------------------------------------------------------------------

subject : (k : Key) → Passes false (subject_text k) false
subject (key.Node g) = guid g
subject (key.PortGuid g p) = port g p
subject (key.Link g p) = port g p
subject (key.Port g p) = port g p
subject (key.Claim g p) = port g p
subject (key.Cap g) = guid g

kind : (k : Key) → Passes true (kind_word k) false
kind (key.Node g) = told _ refl refl
kind (key.PortGuid g p) = told _ refl refl
kind (key.Link g p) = told _ refl refl
kind (key.Port g p) = told _ refl refl
kind (key.Claim g p) = told _ refl refl
kind (key.Cap g) = told _ refl refl

type_passes : (t : NodeType) → Passes false (type_word t) false
type_passes ChannelAdapter = told _ refl refl
type_passes Switch = told _ refl refl
type_passes Router = told _ refl refl

value_passes : (v : Value) → Passes false (value_text v) false
value_passes (value.Kind t ports) = type_passes t then mid (codes " ") refl refl then number ports
value_passes (value.Guid g) = guid g
value_passes (value.Peer g p) = port g p
value_passes (value.Up true) = told _ refl refl
value_passes (value.Up false) = told _ refl refl
value_passes (value.Lid lid) = number lid
value_passes (value.Count count) = number count

cell_passes : (c : Cell Value) → Passes false (cell_text c) false
cell_passes (Known generation v) = value_passes v then mid (codes " @") refl refl then number generation
cell_passes (Disputed generation) = mid (codes "disputed @") refl refl then number generation

fact_passes : (e : Key × Cell Value) → Passes true (line_text e) true
fact_passes e = (kind e.0 then mid (codes " ") refl refl then subject e.0) then mid (codes " ") refl refl then cell_passes e.1 then newline

floor_passes : (floor : ℕ) → Passes true (floor_line floor) true
floor_passes floor =
    cond_both (nat_le floor 1) [] (codes "floor " ++ decimal floor ++ codes "\n") (λ text. Passes true text true) (λ _. nothing)
    (λ _. head (codes "floor ") refl refl then number floor then newline)

facts_pass : (facts : Facts) → Passes true (facts_text facts) true
facts_pass facts =
    and_then (floor_line facts.floor) (flat_map line_text (cells_of facts)) (floor_passes facts.floor)
    (each line_text fact_passes (cells_of facts))

-- plans ---------------------------------------------------------------------------------------------------

lmc_passes : (lmc : ℕ) → Passes false (lmc_text lmc) false
lmc_passes lmc =
    cond_both (lmc == 0) [] (codes " lmc " ++ decimal lmc) (λ text. Passes false text false) (λ _. nothing)
    (λ _. mid (codes " lmc ") refl refl then number lmc)

lid_passes : (x : ℕ × ℕ × EndPort) → Passes true (lid_line x) true
lid_passes x = head (codes "lid ") refl refl then number x.0 then mid (codes " ") refl refl then port x.2.node x.2.port then lmc_passes x.1 then newline

owner_passes : (given : Given) (lid : ℕ) → Passes true (owner_line given lid) true
owner_passes given lid = by_owner (owner_of given lid)
  where
    by_owner : (o : Option EndPort) → Passes true (option_map_or (λ p. lid_line (lid, lmc_of given p, p)) o []) true
    by_owner None = nothing
    by_owner (Some p) = lid_passes (lid, lmc_of given p, p)

switch_passes : (top g : ℕ) → Passes true (switch_line top g) true
switch_passes top g = head (codes "switch ") refl refl then guid g then mid (codes " top ") refl refl then number top then newline

block_passes : (x : ℕ × List ℕ) → Passes true (block_line x) true
block_passes x = head (codes "block ") refl refl then number x.0 then mid (codes " ") refl refl then encoded x.1 then newline

table_passes : (top : ℕ) (table : SwitchTable) → Passes true (table_text top table) true
table_passes top table =
    and_then (switch_line top table.guid) (blocks_text table.blocks) (switch_passes top table.guid)
    (each block_line block_passes (enumerate_from 0 table.blocks))

tables_pass : (plan : PlanValue) → Passes true (tables_text plan) true
tables_pass plan = by_top (top_of plan.given)
  where
    by_top : (o : Option ℕ) → Passes true (option_map_or (λ top. flat_map (table_text top) plan.tables) o []) true
    by_top None = nothing
    by_top (Some top) = each (table_text top) (table_passes top) plan.tables

plan_passes : (plan : PlanValue) → Passes true (plan_text plan) true
plan_passes plan =
    and_then (lids_text plan.given) (tables_text plan) (each (owner_line plan.given) (owner_passes plan.given) (rising_lids plan.given))
    (tables_pass plan)

plan_or_passes : (planning : Planning) (cells : Cells) (fault : Option ManagerFault) → Passes true (plan_or_refusal planning cells fault) true
plan_or_passes planning cells None = plan_passes (plan_of planning.rule planning.lmc cells)
plan_or_passes planning cells (Some fault) = refused_passes fault

-- what is shown ---------------------------------------------------------------------------------------------

counts_pass : (unanswered too_far : ℕ) → Passes false (counts_text unanswered too_far) false
unfolding counts_text
counts_pass unanswered too_far = (mid (codes " unanswered ") refl refl then number unanswered) then (mid (codes " toofar ") refl refl then number too_far)

stage_passes : (p : Progress) → Passes false (stage_text p) false
stage_passes Never = told _ refl refl
stage_passes (Running unanswered too_far) = mid (codes " running") refl refl then counts_pass unanswered too_far
stage_passes (Done unanswered too_far) = mid (codes " done") refl refl then counts_pass unanswered too_far

state_passes : (s : SmState) → Passes false (state_word s) false
state_passes NotActive = told _ refl refl
state_passes Discovering = told _ refl refl
state_passes Standby = told _ refl refl
state_passes Master = told _ refl refl

told_state_passes : (n : ℕ) → Passes false (told_state n) false
told_state_passes n = by_state (state_of_number n)
  where
    by_state : (o : Option SmState) → Passes false (option_map_or state_word o (decimal n)) false
    by_state None = number n
    by_state (Some s) = state_passes s

written_passes : (b : Bool) → Passes false (answer_word b) false
written_passes true = told _ refl refl
written_passes false = told _ refl refl

where_passes : (s : SeenManager) → Passes true (where_text s) false
where_passes s = head (codes "manager ") refl refl then port s.guid s.port then mid (codes " guid ") refl refl then guid s.info.guid

told_passes : (info : SmInfo) → Passes false (told_text info) true
told_passes info =
    mid (codes " priority ") refl refl then number info.priority then mid (codes " key ") refl refl then number info.sm_key
    then mid (codes " state ") refl refl then told_state_passes info.state then newline

seen_passes : (s : SeenManager) → Passes true (seen_line s) true
unfolding seen_line
seen_passes s = and_then (where_text s) (told_text s.info) (where_passes s) (told_passes s.info)

silent_passes : (silent : Option ℕ) → Passes false (silent_text silent) false
silent_passes None = told _ refl refl
silent_passes (Some n) = mid (codes " ") refl refl then number n

shown_passes : (what : Shown) (m : Manager) → Passes true (text_of what None m) true
shown_passes shown.Facts m = facts_pass m.store
shown_passes shown.Plan m = plan_or_passes m.planning (cells_of m.store) (plan_fault m.planning.lmc (cells_of m.store))
shown_passes shown.Progress m = head (codes "progress") refl refl then stage_passes (progress_of m.sweep) then newline
shown_passes shown.Silent m = head (codes "silent") refl refl then silent_passes (silent_in m.sweep) then newline
shown_passes shown.State m = head (codes "state") refl refl then (mid (codes " ") refl refl then state_passes m.standing.state then newline)
shown_passes shown.Written m = head (codes "written") refl refl then (mid (codes " ") refl refl then written_passes (is_written m) then newline)

-- lines -----------------------------------------------------------------------------------------------------

heard_passes : (trap : Option Trap) (fault : Option ManagerFault) → Passes true (heard_text trap fault) true
heard_passes None None = nothing
heard_passes (Some trap) None = head (codes "trap") refl refl then (mid (codes " ") refl refl then number trap.issuer) then newline
heard_passes None (Some fault) = refused_passes fault
heard_passes (Some trap) (Some fault) = refused_passes fault

fault_passes : (fault : Option ManagerFault) → Passes true (fault_text fault) true
fault_passes fault = heard_passes None fault

giving_up_passes : (m : Manager) (transactions : List ℕ) → Passes true (after_giving_up m transactions).text true
giving_up_passes m [] = nothing
giving_up_passes m (transaction ∷ later) =
    and_then (fault_text (after_timeout m transaction).fault) (after_giving_up (after_timeout m transaction).manager later).text
    (fault_passes (after_timeout m transaction).fault) (giving_up_passes (after_timeout m transaction).manager later)

line_passes : (m : Manager) (line : ServeLine) → Passes true (after_line m line).text true
line_passes m (is.Ask what) = fault_passes (asked m what).fault
line_passes m (is.Floor floor) = nothing
line_passes m (is.Packet bytes from) = heard_passes (noted_trap m bytes) (after_packet m bytes (Some from)).fault
line_passes m (is.Timeout transaction) = fault_passes (after_timeout m transaction).fault
line_passes m is.GiveUp = giving_up_passes m (outstanding m)
line_passes m (is.Show what) = shown_passes what m
line_passes m is.Managers = each seen_line seen_passes m.seen
line_passes m is.Empty = nothing
line_passes m is.Wrong = told _ refl refl

obeying_ends : (m : Manager) (line : ServeLine) → EndsOnce (served m line).text
unfolding served
obeying_ends m line =
    let text = (after_line m line).text in
    let sends = flat_map send_line (after_line m line).now.outgoing in
    let p = and_then text sends (line_passes m line) (each send_line send_passes (after_line m line).now.outgoing) in
    record { said = text ++ sends; ends = refl; no_dot = p.no_dot; whole = p.end }

-- lines of a manager that decides by itself ---------------------------------------------------------------

act_passes : (what : Act) → Passes false (act_word what) false
act_passes act.Wait = told _ refl refl
act_passes act.Poll = told _ refl refl
act_passes act.Announce = told _ refl refl
act_passes act.Sweep = told _ refl refl
act_passes act.Rediscover = told _ refl refl
act_passes act.HandOver = told _ refl refl
act_passes act.Yield = told _ refl refl
act_passes act.Judge = told _ refl refl
act_passes act.Write = told _ refl refl
act_passes act.Settle = told _ refl refl

ports_pass : (ports : Ports) → Passes false (ports_text ports) false
ports_pass ports =
    mid (codes "inactive ") refl refl then number ports.inactive then mid (codes " foreign ") refl refl then number ports.foreign

cause_passes : (what : WriteCause) → Passes false (cause_text what) false
cause_passes cause.New = told _ refl refl
cause_passes cause.Again = told _ refl refl
cause_passes (cause.For ports) = mid (codes "write ") refl refl then ports_pass ports

noted_passes : (what : Note) → Passes false (note_text what) false
noted_passes (note.State state) = mid (codes "state ") refl refl then state_passes state
noted_passes note.Paused = told _ refl refl
noted_passes (note.GivenUp request) = mid (codes "unanswered ") refl refl then encoded request
noted_passes (note.Swept whole) = mid (codes "swept ") refl refl then written_passes whole
noted_passes (note.Wrote whole) = mid (codes "written ") refl refl then written_passes whole
noted_passes (note.Settled ports) = mid (codes "settled ") refl refl then ports_pass ports
noted_passes (note.Writes what) = cause_passes what
noted_passes (note.Did what) = act_passes what
noted_passes (note.Refused what) = mid (codes "refused ") refl refl then act_passes what

note_passes : (what : Note) → Passes true (note_line None what) true
unfolding note_line
note_passes what = head (codes "note ") refl refl then noted_passes what then newline

time_passes : (wake : Option ℕ) → Passes false (wake_text wake) false
time_passes None = told _ refl refl
time_passes (Some time) = number time

wake_passes : (wake : Option ℕ) → Passes true (wake_line wake) true
unfolding wake_line
wake_passes wake = head (codes "wake ") refl refl then time_passes wake then newline

sa_passes : (to : ℕ) (answer : Option (List ℕ)) → Passes true (sa_line to answer) true
unfolding sa_line
sa_passes to None = nothing
sa_passes to (Some packet) = head (codes "sa ") refl refl then encoded packet then mid (codes " to ") refl refl then number to then newline

light_passes : (request : Option (List ℕ)) → Passes true (light_line request) true
unfolding light_line
light_passes None = nothing
light_passes (Some packet) = head (codes "light ") refl refl then encoded packet then newline

asking_passes : (swept : Option Sweep) → Passes true (option_map_or light_lines swept []) true
asking_passes None = nothing
asking_passes (Some s) = each (λ i. light_line (light_request s i)) (λ i. light_passes (light_request s i)) (range_with_len 0 (length s.reached))

same_passes : (is_so : Bool) → Passes true (same_line is_so) true
same_passes true = told _ refl refl
same_passes false = told _ refl refl

word_passes : (a : Acting) (time : ℕ) (what : ManageWord) → Passes true (after_word a time what).text true
word_passes a time word.Time = nothing
word_passes a time (word.Packet bytes from) = nothing
word_passes a time (word.Sa bytes from) = sa_passes from (administered a bytes)
word_passes a time word.Look = nothing
word_passes a time word.Light = asking_passes (standing_sweep a)
word_passes a time (word.LightAnswer bytes) = same_passes (option_map_or (λ s. is_same s bytes) (standing_sweep a) false)
word_passes a time word.Leave = nothing
word_passes a time (word.Show what) = shown_passes what a.manager
word_passes a time word.Managers = each seen_line seen_passes a.manager.seen

manage_passes : (a : Acting) (line : ManageLine) → Passes true (after_manage a line).text true
manage_passes a (manage.Told time what) = word_passes a time what
manage_passes a manage.Empty = nothing
manage_passes a manage.Wrong = told _ refl refl

deciding_ends : (a : Acting) (line : ManageLine) → EndsOnce (decided a line).text
unfolding decided
deciding_ends a line =
    let o = after_manage a line in
    let notes = flat_map (note_line None) o.now.notes in
    let sends = flat_map send_line o.now.ready in
    let gives = and_then notes sends (each (note_line None) note_passes o.now.notes) (each send_line send_passes o.now.ready) in
    let said = and_then o.text (notes ++ sends) (manage_passes a line) gives in
    let p = and_then (o.text ++ (notes ++ sends)) (wake_line (wake_of o.now)) said (wake_passes (wake_of o.now)) in
    record {
      said = o.text ++ (notes ++ sends) ++ wake_line (wake_of o.now);
      ends = sym (append_assoc (o.text ++ (notes ++ sends)) (wake_line (wake_of o.now)) end_line);
      no_dot = p.no_dot;
      whole = p.end;
    }

pub answers_end_once : AnswersEndOnce
answers_end_once = record { obeying = obeying_ends; deciding = deciding_ends }
