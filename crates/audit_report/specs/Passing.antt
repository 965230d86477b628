-- Which held tables pass an audit: they are whole and sound for facts, and within a bound of load.
use Rattle.std.specs.Prelude.{◌≡◌, ℕ, Bool, true, List, [], ◌∷◌, Contains, Option, None, Some, map, nat_le}
use Rattle.std.specs.Coded.{Coded, code_by, coded×, coded_ℕ}
use Rattle.std.specs.Prelude.{refl}
use base.Stored.{coded_list}
use Rattle.fact_store.specs.View.{Facts, cells_of}
use Rattle.fact_store.specs.Coded.{facts_code}
use Rattle.subnet_view.specs.declared.end_port.EndPort.{EndPort}
use Rattle.subnet_view.specs.EndPort.{end_ports}
use Rattle.subnet_view.specs.Reading.{Cells, switches}
use Rattle.audit_counts.specs.Gaps.{IsKnownNode}
use Rattle.audit_counts.specs.NamedPorts.{IsNamedNode}
use Rattle.held_tables.specs.contracts.held.Held as held_plan
use Rattle.held_tables.specs.declared.held.HeldLid.{HeldLid}
use Rattle.held_tables.specs.declared.held.HeldSwitch.{HeldSwitch}
use Rattle.held_tables.specs.Held.{HeldPlan}
use Rattle.packet_walks.specs.declared.packet_end.End.TheVariants.{Taken}
use Rattle.packet_walks.specs.Network.{Seen}
use Rattle.packet_walks.specs.HopsByTables.{IsBrought}
use Rattle.audit_channels.specs.ChannelOrders.{CanRise, IsCycleIfAny}
use Rattle.audit_channels.specs.Waiting.{WaitsFor}
use Rattle.audit_counts.specs.WayFigures.{WayFigures}
use Rattle.audit_counts.specs.Figures.{figures_of}
use Rattle.audit_counts.specs.FiguresType.{Figures}
use Rattle.audit_counts.specs.Ways.{AreWayFigures, loads_of}
use Rattle.audit_counts.specs.declared.packet_tally.PacketTally.{PacketTally}
use Rattle.audit_counts.specs.declared.unmatched.Unmatched.{Unmatched}
use Rattle.audit_counts.specs.DisputedFacts.{disputed}
use Rattle.audit_counts.specs.Packets.{packets_of}
use Rattle.audit_counts.specs.Site.{in_one_component, site_of}
use Rattle.audit_counts.specs.declared.site.Site.{Site}
use Rattle.audit_counts.specs.PacketTally.{IsTally}
use Rattle.audit_counts.specs.Unmatched.{IsUnmatched}

-- each packet for the LID of `line` that an end port in the component of the line's port sends is delivered at the
-- line's port, if this is an end port of the facts
abbrev pub ArriveAt : Cells → HeldPlan → HeldLid → Type 0
ArriveAt cells held line = (e : EndPort) → Contains (end_ports cells) line.port → Contains (end_ports cells) e
    → in_one_component cells e line.port ≡ true
    → IsBrought cells held line.lid e (Some (Taken line.port))

-- each packet that an end port of the facts sends for a held LID of an end port of the same component is delivered at
-- the latter end port
abbrev pub EachArrives : Cells → HeldPlan → Type 0
EachArrives cells held = (line : HeldLid) → Contains held.lids line → ArriveAt cells held line

-- a line of the held tables gives `e` a LID
pub record HoldsLid (held : HeldPlan) (e : EndPort) : Type 0 where
  pub line : HeldLid
  pub is_held : Contains held.lids line
  pub is_its : line.port ≡ e

-- a line of the held tables has the top of switch `g`
pub record HoldsTables (held : HeldPlan) (g : ℕ) : Type 0 where
  pub switch : HeldSwitch
  pub is_held : Contains held.switches switch
  pub is_it : switch.guid ≡ g

-- each end port of the facts holds a LID
abbrev pub EachHoldsLid : Cells → HeldPlan → Type 0
EachHoldsLid cells held = (e : EndPort) → Contains (end_ports cells) e → HoldsLid held e

-- if the facts have an end port, each usable switch has tables
abbrev pub EachHasTables : Cells → HeldPlan → Type 0
EachHasTables cells held =
    (e : EndPort) (g : ℕ) → Contains (end_ports cells) e → Contains (switches cells) g → HoldsTables held g

-- the type of each node that the facts name is known and, for a switch, the table room too
abbrev pub EachNodeIsKnown : Cells → Type 0
EachNodeIsKnown cells = (g : ℕ) → IsNamedNode cells g → IsKnownNode cells g

-- the tables are whole for the facts: each end port holds a LID, usable switches have tables, and named nodes are known
pub record IsWholeFor (cells : Cells) (held : HeldPlan) : Type 0 where
  pub lids : EachHoldsLid cells held
  pub tables : EachHasTables cells held
  pub nodes : EachNodeIsKnown cells

-- the tables are sound: each packet for a LID that an end port of the sender's component holds arrives, and packets
-- never wait in a credit loop
pub record IsSound (cells : Cells) (held : HeldPlan) : Type 0 where
  pub arrive : EachArrives cells held
  pub rise : CanRise (WaitsFor cells held)

-- the tables are whole and sound
pub record Passes (cells : Cells) (held : HeldPlan) : Type 0 where
  pub whole : IsWholeFor cells held
  pub sound : IsSound cells held

-- the greatest load is at most the bound; true if there is no bound or no load
abbrev pub is_within : Option ℕ → Option Figures → Bool
is_within None load = true
is_within (Some bound) None = true
is_within (Some bound) (Some load) = nat_le load.most bound

-- the tables pass and, if there is a bound, no channel has a load above it. The load counts one packet from each
-- adapter port to each LID of another adapter port, if the packet is delivered there
pub record PassesWithin (bound : Option ℕ) (cells : Cells) (held : HeldPlan) : Type 0 where
  pub passes : Passes cells held
  pub within : is_within bound (figures_of (loads_of cells held)) ≡ true

-- the tables are whole for the facts, each packet arrives and, if there is a bound, no channel has a load above it.
-- The load counts one packet from each adapter port to each LID of another adapter port, if the packet is delivered
-- there
pub record DeliversWithin (bound : Option ℕ) (cells : Cells) (held : HeldPlan) : Type 0 where
  pub whole : IsWholeFor cells held
  pub arrive : EachArrives cells held
  pub within : is_within bound (figures_of (loads_of cells held)) ≡ true

-- the subject of an audit: the maximum number of lines of each kind, facts and tables, and the credit loop that was
-- found
pub record Audited : Type 0 where
  pub most : ℕ
  pub facts : Facts
  pub held : HeldPlan
  pub cycle : List ℕ

-- the stored form of an audit: nested pairs
abbrev pub audited_code : Coded Audited
audited_code =
    code_by (ℕ × (Facts × (HeldPlan × List ℕ)))
    (coded× coded_ℕ (coded× facts_code (coded× (held_plan.the_row).coded (coded_list coded_ℕ))))
    (λ a. (a.most, (a.facts, (a.held, a.cycle))))
    (λ p. record { most = p.0; facts = p.1.0; held = p.1.1.0; cycle = p.1.1.1 }) (λ _. refl)

-- the packets, differences, disputed facts, figures of routes and credit loop of an audit are those of the facts and
-- tables in `seen`
pub record IsFound (most : ℕ) (seen : Seen) (tally : PacketTally) (unmatched : Unmatched) (count : ℕ)
    (ways : WayFigures) (cycle : List ℕ) (sites : List Site) : Type 0 where
  pub counted : IsTally most (packets_of (cells_of seen.facts) seen.held) tally
  pub differ : IsUnmatched most (cells_of seen.facts) seen.held unmatched
  pub count_is : count ≡ disputed (cells_of seen.facts)
  pub told : AreWayFigures (cells_of seen.facts) seen.held ways
  pub waits : IsCycleIfAny (WaitsFor (cells_of seen.facts) seen.held) cycle
  pub sites_are : sites ≡ map (site_of (cells_of seen.facts)) (end_ports (cells_of seen.facts))
