-- A LID more.
use Rattle.std.proofs.Common.{◌≡◌, ◌∙◌, ◌+◌, ◌++◌, ℕ, Bool, true, List, ap, sym, subst}
use Rattle.std.specs.Prelude.{Option}
use Rattle.fact_store.specs.View.{cells_of}
use Rattle.subnet_view.specs.EndPort.{end_ports}
use Rattle.audit_ways.specs.Ways.{AllComeTo}
use Rattle.packet_walks.specs.Network.{Seen}
use Rattle.audit_counts.specs.Packets.{sent_to}
use Rattle.audit_counts.specs.PacketTally.{IsTally}
use Rattle.audit_counts.specs.declared.sent_packet.SentPacket.{SentPacket}
use Rattle.audit_counts.specs.Site.{IsSiteOf, site_of}
use Rattle.audit_counts.specs.declared.site.Site.{Site}
use Rattle.audit_counts.specs.declared.packet_tally.PacketTally.{PacketTally}
use Rattle.audit_counts.proofs.Sited.{site_is, no_site}
use Rattle.audit_counts.proofs.Surveyed.{AreSurveyed, all_surveyed, line_surveyed, line_passed, none_surveyed}
use Rattle.audit_counts.proofs.ToldLines.{ToldSoFar, all_told, none_told, told_more}
use Rattle.audit_counts.proofs.all_packets.add_lines.Goals as goal
use Rattle.audit_counts.proofs.all_packets.add_lines.Goals.{in-Some+in_ok-all-in-Some, in-None}

pub add_packets-requires-clause-owner : goal.add_packets-requires-clause-owner
add_packets-requires-clause-owner c =
    let cells = cells_of c.args.network.now.facts in
    let sites = c.args.sites.now in
    let port = c.line-item.result.port in
    let seen = c.go_to.ensures.seen ∙ c.loop-line.invariant.seen in
    (site_is cells port (end_ports cells) sites c.requires.sites c.in-Some.owner
    (subst (λ (o : Option Site). IsSiteOf sites port o) (sym c.site_in.ensures ∙ c.in-Some.is) c.index_of-index.ensures)).0
    ∙ ap (λ (s : Seen). site_of (cells_of s.facts) port) (sym seen)

pub add_packets-requires-clause-listed : goal.add_packets-requires-clause-listed
add_packets-requires-clause-listed c =
    let sites = c.args.sites.now in
    let port = c.line-item.result.port in
    (subst (λ (o : Option Site). IsSiteOf sites port o) (sym c.site_in.ensures ∙ c.in-Some.is) c.index_of-index.ensures).0

pub loop-line-preserved : goal.loop-line-preserved
loop-line-preserved c =
    let cells = cells_of c.args.network.now.facts in
    let held = c.args.network.now.held in
    let sites = c.args.sites.now in
    let lines = c.lids-line-items.result.now in
    let line = c.line-item.result in
    let port = line.port in
    let n = c.loop-line.line-index in
    let seen = c.go_to.ensures.seen ∙ c.loop-line.invariant.seen in
    let all = c.match-site_in.all in
    let Surveyed = λ (most : ℕ) (t : PacketTally). AreSurveyed most cells held lines (n + 1) t in
    let come : all ≡ true → AllComeTo cells held line = elim c.match-site_in.branch [
      | in-Some+in_ok-all-in-Some w ↦ λ e. subst (λ (s : Seen). AllComeTo (cells_of s.facts) s.held line) seen (w.in_ok-all-in-Some.ensures.told (sym w.all-is ∙ e))
      | in-None w ↦ λ e. (let no = w.all-is in absurd (cc))
    ] in
    record {
      seen = seen;
      surveyed = λ most begun. elim c.match-site_in.branch [
        | in-Some+in_ok-all-in-Some w ↦
            subst (Surveyed most) (sym w.tally-is)
            (line_surveyed most cells held lines n line c.loop-line.tally
            w.add_packets.new.tally (c.loop-line.invariant.surveyed most begun) c.loop-line-test.true c.line-item.is
            (site_is cells port (end_ports cells) sites c.requires.sites w.in-Some.owner
            (subst (λ (o : Option Site). IsSiteOf sites port o) (sym c.site_in.ensures ∙ w.in-Some.is) c.index_of-index.ensures)).1
            (subst (λ (s : Seen). (packets : List SentPacket) → IsTally most packets c.loop-line.tally
            → IsTally most (packets ++ sent_to (cells_of s.facts) s.held line) w.add_packets.new.tally) seen (w.in_ok-all-in-Some.ensures.counted most)))
        | in-None w ↦
            subst (Surveyed most) (sym w.tally-is)
            (line_passed most cells held lines n line c.loop-line.tally
            (c.loop-line.invariant.surveyed most begun) c.loop-line-test.true c.line-item.is
            (no_site cells port (end_ports cells) sites c.requires.sites
            (subst (λ (o : Option Site). IsSiteOf sites port o) (sym c.site_in.ensures ∙ w.in-None.is) c.index_of-index.ensures)))
      ];
      told = subst (λ (ts : List Bool). ToldSoFar cells held lines (n + 1) ts) (sym c.in_ok-push.ensures.items)
          (told_more cells held lines n line c.loop-line.told.items all c.loop-line.invariant.told c.loop-line-test.true c.line-item.is come);
    }

pub returns-clause-told : goal.returns-clause-told
returns-clause-told c =
    all_told (cells_of c.args.network.now.facts) c.args.network.now.held c.lids-line-items.result.now c.loop-line.line-index c.loop-line.told.items
    c.loop-line.invariant.told c.lids-line-items.ensures

pub loop-line-init : goal.loop-line-init
loop-line-init c =
    let cells = cells_of c.args.network.now.facts in
    let held = c.args.network.now.held in
    let lines = c.lids-line-items.result.now in
    record {
      seen = c.in_ok-cursor.ensures.seen;
      surveyed = λ most. none_surveyed most cells held lines c.args.tally.now;
      told = subst (λ (ts : List Bool). ToldSoFar cells held lines 0 ts) (sym c.requires.told) (none_told cells held lines);
    }

pub returns-clause-tally : goal.returns-clause-tally
returns-clause-tally c =
    let l = c.loop-line in
    λ most begun.
    all_surveyed most (cells_of c.args.network.now.facts) c.args.network.now.held c.lids-line-items.result.now l.line-index
    l.tally (l.invariant.surveyed most begun) c.lids-line-items.ensures c.loop-line-test.false
