-- An end port more.
use Rattle.std.proofs.Common.{ℕ, ◌≡◌, ◌<◌, ◌+◌, ◌∙◌, refl, sym, ap, subst, arith, length, get_or}
use Rattle.std.specs.Prelude.{count_by}
use Rattle.fact_store.specs.View.{cells_of}
use Rattle.port_graph.proofs.Counts.{length_map}
use Rattle.subnet_view.specs.declared.end_port.EndPort.{EndPort}
use Rattle.subnet_view.specs.EndPort.{end_ports}
use Rattle.packet_walks.specs.HopsByTables.{AreBrought}
use Rattle.audit_ways.proofs.Senders.{all_come_to}
use Rattle.audit_counts.specs.declared.site.Site.{Site}
use Rattle.audit_counts.specs.declared.packet_tally.PacketTally.{PacketTally}
use Rattle.audit_counts.specs.Site.{are_joined, are_joined_adapters, site_of}
use Rattle.audit_counts.proofs.Sited.{site_there}
use Rattle.audit_counts.specs.Packets.{sent_to}
use Rattle.audit_counts.proofs.Counted.{tally_arrived}
use Rattle.audit_counts.proofs.Surveyed.{AreCounted, adapters_sent, all_counted, all_sent, come_there, one_counted, none_more, end_there, sent_arrive, sent_come}
use Rattle.audit_counts.proofs.all_packets.add_packets.Goals as goal
use Rattle.audit_counts.proofs.all_packets.add_packets.Goals.{then-is_joined_to+in_ok-add, else-is_joined_to}

pub loop-index-preserved : goal.loop-index-preserved
loop-index-preserved c =
    let cells = cells_of c.args.cursor.now.seen.facts in
    let held = c.args.cursor.now.seen.held in
    let line = c.args.line.now in
    let ports = end_ports cells in
    let n = c.loop-index.index in
    let site = c.index-sites-index.result in
    let less : n < length ports = omega (arith, c.loop-index-test.true, ap length c.requires.sites, length_map (site_of cells) ports) in
    let e : EndPort = site.port in
    let at : site ≡ site_of cells (get_or ports n e) =
    site_there cells ports n site e less (c.index-sites-index.is ∙ ap (λ xs. get_or xs n site) c.requires.sites) in
    let is : e ≡ get_or ports n e = ap (λ (s : Site). s.port) at in
    let own : site ≡ site_of cells e = at ∙ sym (ap (site_of cells) is) in
    let joined : are_joined site c.args.owner.now ≡ are_joined (site_of cells e) (site_of cells line.port) = (λ i. are_joined (own i) (c.requires.owner i)) in
    let brought = subst (λ (lid : ℕ). AreBrought cells held lid c.in_ok-ends.ends.ends) c.requires.lid c.in_ok-ends.ensures.0 in
    let Counted = λ (t : PacketTally). AreCounted cells held line c.args.tally.now (n + 1) t in
    elim c.if-is_joined_to.branch [
      | then-is_joined_to+in_ok-add w ↦
          subst Counted (sym w.tally-is)
          (one_counted cells held line c.args.tally.now c.loop-index.tally w.add.new.self n e (record { line = line; source = e; end = w.at.result })
          c.loop-index.invariant less is (sym joined
          ∙ sym w.if-is_joined_to.ensures) (λ i.
          record {
            line = line;
            source = e;
            end =
                end_there cells held line c.in_ok-ends.ends.ends n e w.at.result brought less is w.at.ensures i;
          })
          w.in_ok-add.ensures)
      | else-is_joined_to w ↦ subst Counted (sym w.tally-is) (none_more cells held line c.args.tally.now c.loop-index.tally n e c.loop-index.invariant less is
          (sym joined ∙ sym w.if-is_joined_to.ensures))
    ]

-- if all are seen to arrive, and if each does
pub returns-then-all_arrive : goal.returns-then-all_arrive
returns-then-all_arrive c =
    let cells = cells_of c.args.cursor.now.seen.facts in
    let held = c.args.cursor.now.seen.held in
    let line = c.args.line.now in
    let owner = c.args.owner.now in
    let sites = c.args.sites.now in
    let come = come_there cells held line (c.all_arrive.ensures c.if-all_arrive.true) in
    record {
      counted = λ most packets before.
          tally_arrived most packets (sent_to cells held line) c.args.tally.now c.add_arrived.new.tally (count_by (λ site. are_joined site owner) sites)
          (count_by (λ site. are_joined_adapters site owner) sites) before (sent_come cells held line come)
          (all_sent cells held line owner sites (count_by (λ site. are_joined site owner) sites) c.requires.owner c.requires.sites refl)
          (adapters_sent cells held line owner sites (count_by (λ site. are_joined_adapters site owner) sites) c.requires.owner c.requires.sites refl)
          c.in_ok-add_arrived.ensures;
      told = λ e. come;
    }

pub returns-in-None : goal.returns-in-None
returns-in-None c =
    let cells = cells_of c.args.cursor.now.seen.facts in
    let held = c.args.cursor.now.seen.held in
    let line = c.args.line.now in
    let owner = c.args.owner.now in
    let sites = c.args.sites.now in
    let ends = c.in_ok-ends.ends in
    let none = sym c.in-None.ensures in
    let brought = subst (λ (lid : ℕ). AreBrought cells held lid ends.ends) c.requires.lid c.in_ok-ends.ensures.0 in
    record {
      counted = λ most packets before.
          tally_arrived most packets (sent_to cells held line) c.args.tally.now c.add_arrived-in-None.new.tally (count_by (λ site. are_joined site owner) sites)
          (count_by (λ site. are_joined_adapters site owner) sites) before
          (sent_arrive cells held line ends.port ends.ends brought c.in_ok-ends.ensures.1 none)
          (all_sent cells held line owner sites (count_by (λ site. are_joined site owner) sites) c.requires.owner c.requires.sites refl)
          (adapters_sent cells held line owner sites (count_by (λ site. are_joined_adapters site owner) sites) c.requires.owner c.requires.sites refl)
          c.in_ok-add_arrived-in-None.ensures;
      told = λ e. all_come_to cells held line ends.port ends.ends brought c.in_ok-ends.ensures.1 none;
    }

pub returns : goal.returns
returns c =
    let cells = cells_of c.args.cursor.now.seen.facts in
    let ports = end_ports cells in
    record {
      counted = all_counted cells c.args.cursor.now.seen.held c.args.line.now c.args.tally.now c.loop-index.tally c.loop-index.index c.loop-index.invariant
          (omega (arith, c.loop-index-test.false, ap length c.requires.sites, length_map (site_of cells) ports));
      told = λ e. absurd (cc);
    }
