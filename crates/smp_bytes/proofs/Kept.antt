-- What a write into a field or into some bits leaves as it was.
use Rattle.std.proofs.Common.{◌≡◌, ℕ, ◌+◌, ◌-◌, ◌<◌, inl, inr, ⊎_elim, sym, subst, arith, drop, get_or, ap, ◌∙◌}
use Rattle.std.proofs.lemmas.Bool.{cases_lt}
use Rattle.std.proofs.lemmas.List.{ext_get_or, get_or-drop, get_or-take}
use Rattle.byteorder.specs.Endian.{big_bytes}
use Rattle.byteorder.specs.Numbers.{length-bytes_high_first}
use Rattle.smp_bytes.proofs.CopyLaws.{big_bytes-number_in}
use Rattle.smp_bytes.specs.Field.{bytes_in, replaced, with_number}
use Rattle.smp_bytes.proofs.FieldLaws.{length-with_number}
use Rattle.smp_bytes.proofs.OffsetLaws.{get_or-with_bytes_inside, get_or-with_number}
use Rattle.smp_bytes.proofs.BitLaws.{get_or-with_bits, replaced_fits}
use Rattle.smp_bytes.specs.Laws.{BytesOutsideStay, OtherBytesStay, WriteIsUnique}

-- a write into a field keeps the bytes outside it
pub keeps_bytes_outside : BytesOutsideStay
keeps_bytes_outside field number bytes lies =
    record {
      count = length-with_number field number bytes lies;
      outside = λ offset outside. get_or-with_number field number bytes offset lies outside;
    }

-- a write into some bits keeps the other bytes
pub keeps_other_bytes : OtherBytesStay
keeps_other_bytes bits number bytes there small =
    let lies = there.offset in
    let fits = replaced_fits bits number (get_or bytes bits.at 0) there.byte small there.within in
    let written = replaced bits number (get_or bytes bits.at 0) in
    record {
      count = length-with_number (record { at = bits.at; len = 1 }) written bytes (omega arith);
      byte = subst (λ (n : ℕ). n < 256) (sym (get_or-with_bits bits number bytes lies fits)) fits;
      others = λ offset other. get_or-with_number (record { at = bits.at; len = 1 }) written bytes offset (omega arith)
          (⊎_elim (λ below. inl below) (λ above. inr (omega arith)) (cases_lt offset bits.at));
    }

-- the bytes of the number that is read from a field are the field's bytes, and all others are given
pub write_is_unique : WriteIsUnique
write_is_unique field number old new lies all keeps holds =
    let same = keeps.count in
    let kept = length-with_number field number old lies in
    let written : big_bytes field.len number ≡ bytes_in field new = ap (big_bytes field.len) (sym holds) ∙ big_bytes-number_in field new (omega arith) all in
    let long = length-bytes_high_first field.len number in
    let inside : (j : ℕ) → j < field.len → get_or new (field.at + j) 0 ≡ get_or (with_number field number old) (field.at + j) 0 = λ j h.
    sym (get_or-drop field.at new j 0)
    ∙ sym (get_or-take field.len (drop field.at new) j 0 h)
    ∙ ap (λ bytes. get_or bytes j 0) (sym written)
    ∙ sym (get_or-with_bytes_inside field.at (big_bytes field.len number) old j (omega arith) (omega arith)) in
    ext_get_or 0 new (with_number field number old) (omega arith)
    (λ offset within. ⊎_elim
    (λ before. keeps.outside offset (inl before) ∙ sym (get_or-with_number field number old offset lies (inl before)))
    (λ behind. ⊎_elim
    (λ low. let sum : field.at + (offset - field.at) ≡ offset = omega arith in
    ap (λ k. get_or new k 0) (sym sum) ∙ inside (offset - field.at) (omega arith) ∙ ap (λ k. get_or (with_number field number old) k 0) sum)
    (λ high. keeps.outside offset (inr high) ∙ sym (get_or-with_number field number old offset lies (inr high)))
    (cases_lt offset (field.at + field.len)))
    (cases_lt offset field.at))
