-- Each flaw in turn.
use Rattle.std.proofs.Common.{◌∙◌, sym}
use Rattle.audit_run.specs.AuditRun.{IsFoundFree}
use Rattle.audit_run.proofs.Flawless.{Frees, each_by, has_by, listed_by}
use Rattle.audit_run.proofs.flaws.flaws_of.Goals as goal

pub returns : goal.returns
returns c =
    let a = c.args in
    let audit = a.audit.now in
    let f : Frees = record {
      missed = c.all_arrive.result;
      tableless = c.has_tables.result;
      unusable = c.has_nodes.result;
      lidless = c.has_lids.result;
      overloaded = c.is_within.result;
      unleveled = c.is_leveled.result;
      lane_drop = c.is_carried.result;
      credit_loop = c.can_rise.result;
    } in
    record {
      has = has_by f;
      each = each_by (IsFoundFree a.bound audit.facts audit.held a.found.now) f c.all_arrive.ensures c.has_tables.ensures c.has_nodes.ensures
          c.has_lids.ensures (λ t. sym c.is_within.ensures ∙ t, λ w. c.is_within.ensures ∙ w) c.is_leveled.ensures c.is_carried.ensures c.can_rise.ensures;
      listed = listed_by f _ _ _ _ _ _ _ _ _ c.new-flaws.ensures.items c.in_ok-note_unless.ensures c.in_ok-note_unless-2.ensures c.in_ok-note_unless-3.ensures
          c.in_ok-note_unless-4.ensures c.in_ok-note_unless-5.ensures c.in_ok-note_unless-6.ensures c.in_ok-note_unless-7.ensures
          c.in_ok-note_unless-8.ensures;
    }
