-- Its pieces in turn.
use Rattle.std.proofs.Common.{◌≡◌, ◌∙◌, ap}
use Rattle.std.specs.Prelude.{decimal}
use Rattle.smp_bytes.specs.Text.{guid_text}
use Rattle.byte_io.proofs.Bytes.{Appends-trans}
use Rattle.byte_io.proofs.Writing.{spelled, writes_then}
use Rattle.audit_run.proofs.lane_text.write_drop.Goals as goal

pub returns : goal.returns
returns g c =
    let lid : c.from.result ≡ c.args.dropped.lid = c.from.ensures ∙ c.number.ensures in
    let out : c.from-2.result ≡ c.args.dropped.out = c.from-2.ensures ∙ c.number-2.ensures in
    let lead = spelled _ _ _ _ c.as_bytes.ensures.value c.in_ok-write.ensures.writes.ok in
    let one = Appends-trans _ _ _ _ _ lead c.in_ok-write-2.ensures.writes.ok in
    let two = Appends-trans _ _ _ _ _ one (spelled _ _ _ _ (ap decimal lid) c.in_ok-write_number.ensures.writes.ok) in
    let three = Appends-trans _ _ _ _ _ two c.in_ok-write-3.ensures.writes.ok in
    let four = Appends-trans _ _ _ _ _ three (spelled _ _ _ _ (ap guid_text c.guid.ensures) c.in_ok-write_guid.ensures.writes.ok) in
    let five = Appends-trans _ _ _ _ _ four c.in_ok-write-4.ensures.writes.ok in
    let six = Appends-trans _ _ _ _ _ five c.in_ok-write_number-2.ensures.writes.ok in
    let seven = Appends-trans _ _ _ _ _ six c.in_ok-write-5.ensures.writes.ok in
    let eight = Appends-trans _ _ _ _ _ seven (spelled _ _ _ _ (ap decimal out) c.in_ok-write_number-3.ensures.writes.ok) in
    let nine = Appends-trans _ _ _ _ _ eight c.in_ok-write-6.ensures.writes.ok in
    let ten = Appends-trans _ _ _ _ _ nine (spelled _ _ _ _ (ap decimal c.from-3.ensures) c.in_ok-write_number-4.ensures.writes.ok) in
    writes_then _ _ _ _ _ _ _ _ ten c.write-7.ensures.writes
