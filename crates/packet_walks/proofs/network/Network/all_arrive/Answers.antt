-- By the subnet's sources and their first switches.
use Rattle.std.proofs.Common.{◌≡◌, ◌∙◌, true, false, length, sym, subst, refl}
use Rattle.std.specs.Prelude.{map}
use Rattle.fact_store.specs.View.{cells_of}
use Rattle.subnet_view.specs.EndPort.{end_ports}
use Rattle.subnet_view.specs.Reading.{switches}
use Rattle.packet_walks.specs.Deliveries.{ComeToOwner, is_delivered}
use Rattle.held_tables.specs.Owners.{is_sole}
use Rattle.held_tables.specs.Switches.{first_switch, sender_of}
use Rattle.packet_walks.specs.Network.{Seen}
use Rattle.packet_walks.specs.HopsByTables.{LineArrives}
use Rattle.held_tables.specs.Tables.{owners_of}
use Rattle.packet_walks.proofs.ToOwners.{all_come}
use Rattle.packet_walks.proofs.network.Network.all_arrive.Goals as goal
use Rattle.packet_walks.proofs.network.Network.all_arrive.Goals.{then-all_begin, else-all_begin}

pub returns-then-has : goal.returns-then-has
returns-then-has c = λ sole.
    let line = c.args.line.now in
    let inside : Seen = record { facts = c.self.inside.wired.now; held = c.self.inside.held.now } in
    let cells = cells_of inside.facts in
    let Come : Seen → Type 0 = λ s. ComeToOwner (cells_of s.facts) s.held line.lid in
    let Sole : Seen → Type 0 = λ s. is_sole line.port (owners_of s.held line.lid) ≡ true in
    let Arrives : Seen → Type 0 = λ s. LineArrives (cells_of s.facts) s.held line in
    let alone = subst Sole (sym c.self.view_is) (sym c.is_sole_owner.ensures ∙ sole) in
    let sources = map (sender_of cells) (end_ports cells) in
    elim c.if-all_begin.branch [
      | then-all_begin w ↦
          let has : is_delivered c.args.deliveries.now line.lid ≡ true = sym w.has.ensures ∙ sym w.value-is ∙ c.if-has.true in
          subst Arrives c.self.view_is
          (all_come cells inside.held line (length (switches cells)) sources (map first_switch sources) refl refl refl
          (sym c.all_begin.ensures ∙ w.if-all_begin.true) (subst Come (sym c.self.view_is) (c.requires line.lid has)) alone)
      | else-all_begin w ↦ let over : false ≡ true = sym w.if-all_begin.false ∙ sym w.value-is ∙ c.if-has.true in absurd (cc)
    ]
