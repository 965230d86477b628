use Rattle.std.proofs.Common.{ap, sym, ◌∙◌, drop, slice_index, length, ◌-◌, arith}
use Rattle.std.proofs.lemmas.List.{length-drop, take_all}
use Rattle.record_file.specs.ReportRecord.{context_of}
use Rattle.record_file.proofs.ReportRecords.{report_of-spelled}
use Rattle.record_file.proofs.report_record.report_of.Goals as goal

pub returns : goal.returns
returns c =
    let bytes = c.args.bytes.now in
    let context = ap (context_of (slice_index bytes 4) (slice_index bytes 5)) (sym c.u64_of.ensures) ∙ sym c.context_of.ensures ∙ c.in_ok-context.was in
    report_of-spelled bytes c.u32_of.result c.in_ok-context.context c.copy_from_slice.new.self
    c.if-bytes-ne0.false c.if-bytes-ne0-2.false c.u32_of.ensures context
    (c.copy_from_slice.ensures.after ∙ take_all (length bytes - 16) (drop 16 bytes) (omega (arith, length-drop 16 bytes)))
