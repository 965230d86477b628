use Rattle.std.proofs.Common.{None}
use Rattle.record_file.proofs.ReportRecords.{absorbs-fault, absorbs-memory, absorbs-none, absorbs-told}
use Rattle.record_file.proofs.absorb_record.absorb_report.Goals as goal

pub returns-in_default : goal.returns-in_default
returns-in_default c = record { judged = absorbs-none c.args.bytes.now None c.args.index c.args.store.now c.in_default.ensures }

pub returns-in-Ok : goal.returns-in-Ok
returns-in-Ok c =
    record { judged = absorbs-told c.args.bytes.now None c.args.index c.in-Some.report _ _ c.in-Some.ensures c.in-Ok.ensures.judged c.in-Ok.ensures.ok }

pub returns-in-Err-Report : goal.returns-in-Err-Report
returns-in-Err-Report c =
    let refused = rw c.in-Err-Report.field-0-is at c.in-Err-Report.ensures.judged in
    record {
      judged = absorbs-fault c.args.bytes.now None c.args.index c.in-Some.report c.in-Err-Report.fault _ _ c.in-Some.ensures refused
          c.in-Err-Report.ensures.err;
    }

pub returns-in-Err-Memory : goal.returns-in-Err-Memory
returns-in-Err-Memory c =
    let good = rw c.in-Err-Memory.field-0-is at c.in-Err-Memory.ensures.judged in
    record { judged = absorbs-memory c.args.bytes.now None c.args.index c.in-Some.report _ _ c.in-Some.ensures good c.in-Err-Memory.ensures.err }
