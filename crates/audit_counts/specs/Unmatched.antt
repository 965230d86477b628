-- Differences between the held tables and the facts of the subnet, and gaps in the facts.
use Rattle.std.specs.Prelude.{◌≡◌, ℕ, Bool, not, ◌==◌, List, map}
use Rattle.std.specs.List.{list_any}
use Rattle.subnet_view.specs.declared.end_port.EndPort.{EndPort}
use Rattle.subnet_view.specs.EndPort.{end_ports}
use Rattle.subnet_view.specs.Reading.{Cells, is_usable, switches}
use Rattle.audit_counts.specs.Gaps.{unjoined_ports, unusable_nodes}
use Rattle.held_tables.specs.declared.held.HeldLid.{HeldLid}
use Rattle.held_tables.specs.Held.{HeldPlan}
use Rattle.held_tables.specs.Owners.{has_several_owners}
use Rattle.held_tables.specs.Tables.{is_owner, is_same_end, lines_of}
use Rattle.audit_counts.specs.declared.unmatched.Unmatched.{Unmatched}
use Rattle.audit_counts.specs.FirstFew.{Listed, all_listed, listed_of}

-- those of `lines` whose ports are not end ports of the facts: their number, and the first `most` of them
abbrev pub unowned_among : ℕ → Cells → List HeldLid → Listed HeldLid
unowned_among most cells lines = listed_of most (λ line. not (is_owner (end_ports cells) line.port)) lines

-- the lines of `held` whose ports are not end ports of the facts: their number, and the first `most` of them
abbrev pub unowned : ℕ → Cells → HeldPlan → Listed HeldLid
unowned most cells held = unowned_among most cells (lines_of held)

-- more than one end port holds the LID of `line`
abbrev pub is_twice : HeldPlan → HeldLid → Bool
is_twice held line = has_several_owners (lines_of held) line.lid

-- the lines of `held` whose LID more than one end port holds: their number, and the first `most` of them
abbrev pub twice : ℕ → HeldPlan → Listed HeldLid
twice most held = listed_of most (is_twice held) (lines_of held)

-- the switches that have tables but are not usable switches of the facts: their number, and the first `most` of them
abbrev pub unknown : ℕ → Cells → HeldPlan → Listed ℕ
unknown most cells held = listed_of most (λ g. not (is_usable cells g)) (map (λ s. s.guid) held.switches)

-- switch `g` has tables
abbrev pub is_held : HeldPlan → ℕ → Bool
is_held held g = list_any (λ s. s.guid == g) held.switches

-- the switches of `guids` without tables: their number, and the first `most` of them
abbrev pub tableless_among : ℕ → List ℕ → HeldPlan → Listed ℕ
tableless_among most guids held = listed_of most (λ g. not (is_held held g)) guids

-- the usable switches of the facts without tables: their number, and the first `most` of them
abbrev pub tableless : ℕ → Cells → HeldPlan → Listed ℕ
tableless most cells held = tableless_among most (switches cells) held

-- a line gives the end port `e` a LID
abbrev pub has_lid : HeldPlan → EndPort → Bool
has_lid held e = list_any (λ line. is_same_end e line.port) held.lids

-- the end ports of `ports` without a LID: their number, and the first `most` of them
abbrev pub lidless_among : ℕ → List EndPort → HeldPlan → Listed EndPort
lidless_among most ports held = listed_of most (λ e. not (has_lid held e)) ports

-- the end ports of the facts without a LID: their number, and the first `most` of them
abbrev pub lidless : ℕ → Cells → HeldPlan → Listed EndPort
lidless most cells held = lidless_among most (end_ports cells) held

-- the nodes that the facts name but whose type is unknown, and the switches whose table room is unknown: their number,
-- and the first `most` of them
abbrev pub unusable : ℕ → Cells → Listed ℕ
unusable most cells = all_listed most (unusable_nodes cells)

-- the ports that the facts name and that are not known ports: their number, and the first `most` of them
abbrev pub unjoined : ℕ → Cells → Listed EndPort
unjoined most cells = all_listed most (unjoined_ports cells)

-- `found` has, for each kind of difference between tables and facts and for each kind of gap in the facts, the number
-- of items and the first `most` of them
pub record IsUnmatched (most : ℕ) (cells : Cells) (held : HeldPlan) (found : Unmatched) : Type 0 where
  pub unowned_are : found.unowned ≡ unowned most cells held
  pub twice_are : found.twice ≡ twice most held
  pub unknown_are : found.unknown ≡ unknown most cells held
  pub tableless_are : found.tableless ≡ tableless most cells held
  pub unusable_are : found.unusable ≡ unusable most cells
  pub lidless_are : found.lidless ≡ lidless most cells held
  pub unjoined_are : found.unjoined ≡ unjoined most cells
