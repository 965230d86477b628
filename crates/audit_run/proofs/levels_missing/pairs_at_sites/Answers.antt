-- A LID more.
use Rattle.std.proofs.Common.{◌≡◌, ◌∙◌, ◌++◌, ◌/◌, [], sym, ap, subst, arith, cond, take}
use Rattle.std.specs.Prelude.{Option, map}
use Rattle.std.specs.List.{flat_map}
use Rattle.fact_store.specs.View.{cells_of}
use Rattle.subnet_view.specs.EndPort.{end_ports}
use Rattle.audit_counts.specs.declared.site.Site.{Site}
use Rattle.audit_counts.specs.FirstFew.{all_listed}
use Rattle.audit_counts.specs.Site.{IsSiteOf, site_of}
use Rattle.audit_counts.proofs.Sited.{no_site, site_is}
use Rattle.audit_run.specs.declared.level_row.LevelRow.{LevelRow}
use Rattle.audit_run.specs.LevelRow.{IsRow, missing_in_row, row_of}
use Rattle.audit_run.specs.LevelsMissing.{missing_at, missing_for}
use Rattle.audit_run.proofs.Rows.{same_missing}
use Rattle.audit_run.proofs.Leveled.{flat_all, flat_none, flat_one}
use Rattle.audit_run.proofs.levels_missing.pairs_at_sites.Goals as goal
use Rattle.audit_run.proofs.levels_missing.pairs_at_sites.Goals.{in-Some+in_ok-row-2+in_ok-add_for, in_default}

pub loop-line-preserved : goal.loop-line-preserved
loop-line-preserved c =
    let cells = cells_of c.args.network.now.facts in
    let said = c.args.lanes.now in
    let sites = c.args.sites.now in
    let lines = c.lids-line-items.result.now in
    let line = c.line-item.result in
    let port = line.port in
    let n = c.loop-line.line-index in
    let few = c.loop-line.few in
    let most = c.args.most in
    let f = missing_at said cells in
    elim c.match-site_in.branch [
      | in-Some+in_ok-row-2+in_ok-add_for w ↦
          let is = site_is cells port (end_ports cells) sites c.requires w.in-Some.owner
          (subst (λ (o : Option Site). IsSiteOf sites port o) (sym c.site_in.ensures ∙ w.in-Some.is) c.index_of-index.ensures) in
          let row = w.in_ok-row-2.row in
          let senders : w.deref.result.now ≡ row_of said sites (line.lid / 64) =
          w.deref.ensures.value ∙ w.in_ok-row-2.ensures.senders ∙ ap (row_of said sites) (w.in_ok-row-2.ensures.number ∙ w.block.ensures) in
          let same : missing_in_row said w.deref.result.now line w.in-Some.owner ≡ f line =
          (λ i. missing_in_row said (senders i) line w.in-Some.owner) ∙ same_missing said line w.in-Some.owner sites
          ∙ (λ i. missing_for said (c.requires i) line (is.0 i))
          ∙ sym (ap (λ t. cond t (missing_for said (map (site_of cells) (end_ports cells)) line (site_of cells port)) []) is.1) in (
            flat_one most f lines n line c.match-site_in.few c.loop-line-test.true c.line-item.is
                (w.few-is ∙ w.in_ok-add_for.ensures most (flat_map f (take n lines)) c.loop-line.invariant.0
                ∙ ap (λ t. all_listed most (flat_map f (take n lines) ++ t)) same),
            subst (λ (row : LevelRow). IsRow said sites row.number row.senders.items) (sym w.row-is) w.in_ok-row-2.ensures.senders,
          )
      | in_default w ↦ (
        flat_none most f lines n line few c.match-site_in.few c.loop-line.invariant.0 c.loop-line-test.true c.line-item.is
            (ap (λ t. cond t (missing_for said (map (site_of cells) (end_ports cells)) line (site_of cells port)) [])
            (no_site cells port (end_ports cells) sites c.requires
            (subst (λ (o : Option Site). IsSiteOf sites port o) (sym c.site_in.ensures ∙ w.in_default.is) c.index_of-index.ensures)))
            w.few-is,
        subst (λ (row : LevelRow). IsRow said sites row.number row.senders.items) (sym w.row-is) c.loop-line.invariant.1,
      )
    ]

pub returns : goal.returns
returns c =
    let cells = cells_of c.args.network.now.facts in
    let f = missing_at c.args.lanes.now cells in
    flat_all c.args.most f c.lids-line-items.result.now c.loop-line.line-index c.loop-line.few c.loop-line.invariant.0 (omega arith)
    ∙ ap (λ lines. all_listed c.args.most (flat_map f lines)) c.lids-line-items.ensures
