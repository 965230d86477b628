-- What came back over a directed route has the fields of the answer that was made, and its path.
use Rattle.std.proofs.Common.{◌≡◌, ◌⊎◌, inl, inr, ℕ, ◌+◌, ◌/◌, ◌%◌, ◌^◌, ◌<◌, ◌≤◌, true, cond, List, length, get_or, sym, ap, ◌∙◌, arith}
use Rattle.std.proofs.lemmas.List.{ext_get_or, get_or-drop, get_or-take, length-drop, length-take-le}
use Rattle.std.specs.Prelude.{Some, slice_index, take, drop, ◌==◌}
use Rattle.fabric_model.specs.declared.cable.NodePort.{NodePort}
use Rattle.smp_bytes.specs.Field.{Field, number_in, bytes_in}
use Rattle.smp_bytes.specs.Packet.{mgmt_class, attribute_id, attribute_modifier, attribute_data, hop_count, status_word, is_directed, is_returning, status}
use Rattle.fabric_model.specs.DirectedWalk.{directed_end}
use Rattle.smp_bytes.proofs.BitLaws.{byte-number_in}
use Rattle.smp_bytes.proofs.OffsetLaws.{bytes_in-alike}
use Rattle.dr_forward.proofs.Trips.{field_kept}
use Rattle.fabric_sim.specs.Simulation.{Simulation, fabric_of}
use Rattle.fabric_sim.specs.ToldOfEnd.{path_of}
use Rattle.fabric_sim.proofs.Traced.{IsAnswerFor, IsForManager}

module _ (Sends : NodePort → List ℕ → Type 0) (Tells : NodePort → NodePort → List ℕ → Type 0) (start : Simulation) (at : NodePort) (bytes : List ℕ) where
  module _ (r : IsAnswerFor Sends Tells start at bytes) where
    same : (f : Field) → (f.at + f.len ≤ 6) ⊎ ((7 ≤ f.at) × (f.at + f.len ≤ 192)) → number_in f bytes ≡ number_in f r.answer
    same f apart = field_kept f r.answer bytes apart r.kept

    pub same_attribute : number_in attribute_id bytes ≡ number_in attribute_id r.answer
    same_attribute = same attribute_id (inr (omega arith, omega arith))

    pub same_modifier : number_in attribute_modifier bytes ≡ number_in attribute_modifier r.answer
    same_modifier = same attribute_modifier (inr (omega arith, omega arith))

    pub same_data : bytes_in attribute_data bytes ≡ bytes_in attribute_data r.answer
    same_data = bytes_in-alike attribute_data bytes r.answer (omega (arith, r.count)) (omega (arith, r.is.count))
        (λ id from less. r.kept id (inr (omega (arith, from), omega (arith, less))))

    pub same_status : status bytes ≡ status r.answer
    same_status =
        let class = same mgmt_class (inl (omega arith)) in
        let word = same status_word (inl (omega arith)) in
        (λ j. cond (class j == 0x81) (word j % 2 ^ 15) (word j))

    path_byte : (i : ℕ) → i < length r.path → get_or bytes (129 + i) 0 ≡ slice_index r.path i
    path_byte i less =
        r.kept (129 + i) (inr (omega arith, omega (arith, less, r.is.reads.short)))
        ∙ ap (λ n. get_or r.answer n 0) (omega arith)
        ∙ sym (byte-number_in (128 + (i + 1)) r.answer)
        ∙ r.is.ports i less

    pub path_is : path_of bytes ≡ r.path
    path_is =
        let hops : number_in hop_count bytes ≡ length r.path = same hop_count (inr (omega arith, omega arith)) ∙ r.is.reads.hops_are in
        let size : length (take (length r.path) (drop 129 bytes)) ≡ length r.path =
        length-take-le (length r.path) (drop 129 bytes) (omega (arith, r.is.reads.short, r.count, length-drop 129 bytes)) in
        ap (λ n. take n (drop 129 bytes)) hops
        ∙ ext_get_or 0 _ r.path size (λ i less.
        get_or-take (length r.path) (drop 129 bytes) i 0 (omega (arith, less, size)) ∙ get_or-drop 129 bytes i 0 ∙ path_byte i (omega (arith, less, size)))

    pub comes_from : directed_end (fabric_of start) at (path_of bytes) ≡ Some r.is.end
    comes_from = ap (directed_end (fabric_of start) at) path_is ∙ r.is.leads

  -- a packet that came back is an answer
  pub is_answer : IsForManager Sends Tells start at bytes → is_directed bytes ≡ true → is_returning bytes ≡ true → IsAnswerFor Sends Tells start at bytes
  is_answer is directed back = elim (is.course directed) [
    | inl r ↦ absurd (cc (sym (ap (λ b. b / 2 ^ 7 % 2 ^ 1 == 1) (r.bytes_are.kept 4 (inl (omega arith))) ∙ r.over.outgoing) ∙ back))
    | inr r ↦ r
  ]
