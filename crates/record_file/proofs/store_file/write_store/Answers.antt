use Rattle.std.proofs.Common.{List, ℕ, [], Some, append-nil, ap, ◌∙◌, subst}
use Rattle.std.specs.Io.KnownBytes.{Appends}
use Rattle.std.specs.List.{flat_map}
use Rattle.byte_io.specs.Prints.{Prints}
use Rattle.std.proofs.lemmas.Result.{on_ok_weaker}
use Rattle.fact_join.specs.declared.cell.Cell.{Cell}
use Rattle.reply_facts.specs.declared.key.Key.{Key}
use Rattle.reply_facts.specs.declared.value.Value.{Value}
use Rattle.fact_store.specs.View.{cells_of}
use Rattle.fact_store.specs.Iter.{cells_left}
use Rattle.record_file.specs.declared.format.Format.TheVariants.{Cells}
use Rattle.record_file.specs.CellRecord.{record_bytes}
use Rattle.record_file.specs.Head.{head_bytes}
use Rattle.record_file.specs.StoreFile.{store_bytes}
use Rattle.byte_io.proofs.Bytes.{Appends-trans}
use Rattle.byte_io.proofs.Writing.{written_all, written_more, wrote}
use Rattle.record_file.proofs.store_file.write_store.Goals as goal

pub loop-cell-preserved : goal.loop-cell-preserved
loop-cell-preserved g c =
    let P : List ℕ → Type 0 = Prints g.W.Sink.written g.W.Sink.has_failed c.loop-cell.sink c.write-in-loop-cell.new.self in
    written_more g.W.Sink.written g.W.Sink.has_failed record_bytes _ _ _ c.loop-cell.yielded (cells_left c.loop-cell.cell-iterator)
    (cells_left c.next.new.self) _ c.in-Some.cell
    c.loop-cell.invariant c.in-Some.ensures.steps
    (subst P c.record_of.ensures (wrote g.W.Sink.written g.W.Sink.has_failed _ _ _ _ c.in_ok-write-2.ensures.writes))

pub returns-clause-writes : goal.returns-clause-writes
returns-clause-writes g c =
    let old = g.W.Sink.written c.args.sink.now in
    let mid = g.W.Sink.written c.write.new.self in
    let now = g.W.Sink.written c.loop-cell.sink in
    let new = g.W.Sink.written c.flush.new.self in
    let cells = cells_of c.args.store.now in
    let P : List ℕ → Type 0 = Appends old mid in
    let Q : List ℕ → Type 0 = Appends old new in
    let head = subst P (c.head_of.ensures ∙ ap (λ n. head_bytes (Cells (Some n))) c.floor.ensures) c.in_ok-write.ensures.writes.ok in
    let R : List (Key × Cell Value) → Type 0 = λ given. Appends mid now (flat_map record_bytes given) in
    let records : Appends mid now (flat_map record_bytes cells) =
    subst R (ap cells_left c.into_iter-cell-iterator.ensures.into_iter_gives ∙ c.cells-cell-items.ensures.cells)
    (written_all g.W.Sink.written g.W.Sink.has_failed record_bytes _ _ c.loop-cell.yielded (cells_left c.loop-cell.cell-iterator) _ c.loop-cell.invariant
    (c.in-None.ensures.steps).0).grown in
    let both = Appends-trans old mid now (head_bytes (Cells (Some c.args.store.now.floor))) (flat_map record_bytes cells) head records in
    let all : List ℕ = store_bytes c.args.store.now.floor cells in
    record {
      ok = on_ok_weaker c.flush.result (λ last. subst Q (append-nil all) (Appends-trans old now new all [] both last)) c.flush.ensures.writes.ok;
      failed = c.flush.ensures.writes.failed;
    }
