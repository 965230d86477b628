use Rattle.std.proofs.Common.{◌≡◌, ◌-◌, Some, option_and_then, ap, sym, ◌∙◌, slice_index, length, drop, arith}
use Rattle.std.proofs.lemmas.List.{length-drop, take_all}
use Rattle.record_file.specs.CellRecord.{candidate, if_sighting, key_of, value_of}
use Rattle.record_file.proofs.Cells.{candidate-known, candidate-disputed, candidate-no_key, made-sighting}
use Rattle.record_file.proofs.cell_record.sighting_in.Goals as goal
use Rattle.record_file.proofs.cell_record.sighting_in.Goals.{then-bytes-eq1+in_ok-value_of, else-bytes-eq1}

pub returns : goal.returns
returns c =
    let bytes = c.args.bytes.now in
    let key = ap (λ n. key_of (slice_index bytes 0) n (slice_index bytes 2)) (sym c.u64_of.ensures) ∙ sym c.key_of.ensures ∙ c.in_ok-key.was in
    let generation = sym c.u32_of.ensures ∙ sym c.in_ok-generation.ensures.some in
    let is : candidate bytes ≡ Some (c.in_ok-key.key, c.if-bytes-eq1.cell) = elim c.if-bytes-eq1.branch [
      | then-bytes-eq1+in_ok-value_of w ↦
          let all = take_all (length bytes - 16) (drop 16 bytes) (omega (arith, length-drop 16 bytes)) in
          let value = ap (value_of c.in_ok-key.key) (sym all) ∙ sym w.value_of.ensures ∙ w.in_ok-value_of.was in
          candidate-known bytes c.in_ok-key.key c.in_ok-generation.generation w.in_ok-value_of.field-0 key w.if-bytes-eq1.true generation value
          ∙ ap (λ cell. Some (c.in_ok-key.key, cell)) (sym w.cell-is)
      | else-bytes-eq1 w ↦
          candidate-disputed bytes c.in_ok-key.key c.in_ok-generation.generation key w.if-bytes-eq1.false generation
          ∙ ap (λ cell. Some (c.in_ok-key.key, cell)) (sym w.cell-is)
    ] in
    made-sighting c.new-2.result (c.in_ok-key.key, c.if-bytes-eq1.cell) c.new-2.ensures.exact c.new-2.ensures.value ∙ sym (ap (option_and_then if_sighting) is)

pub returns-in_err-key : goal.returns-in_err-key
returns-in_err-key c =
    let bytes = c.args.bytes.now in
    let key = ap (λ n. key_of (slice_index bytes 0) n (slice_index bytes 2)) (sym c.u64_of.ensures) ∙ sym c.key_of.ensures ∙ c.in_err-key.was in
    c.from_residual.ensures ∙ sym (ap (option_and_then if_sighting) (candidate-no_key bytes key))
