-- The text of a tally is the text of its packets.
use Rattle.std.proofs.Common.{◌≡◌, ◌+◌, ◌-◌, ◌++◌, suc, List, [], ◌∷◌, refl, ◌∙◌, arith, Bool, true, false, cond, length}
use Rattle.std.specs.Prelude.{ℕ, codes, count_by, filter, not}
use Rattle.std.proofs.lemmas.List.Sums.{sum_by-cons}
use Rattle.subnet_view.specs.Reading.{Cells}
use Rattle.held_tables.specs.Held.{HeldPlan}
use Rattle.audit_counts.specs.declared.sent_packet.SentPacket.{SentPacket}
use Rattle.audit_counts.specs.declared.packet_tally.PacketTally.{PacketTally}
use Rattle.audit_report.specs.AuditText.{counts_line, missed_line, missed_text, packets_told, pairs_told, pairs_text, tally_text}
use Rattle.audit_counts.specs.Packets.{arrives, is_between}
use Rattle.audit_counts.specs.PacketTally.{IsTally}

module _ {X : Type 0} (p : X → Bool) where
  -- those that pass, and the others
  apart : (xs : List X) → length xs ≡ length (filter p xs) + length (filter (λ x. not (p x)) xs)
  apart [] = refl
  apart (x ∷ xs) =
      let rest = apart xs in
      elim (p x) as (λ t. suc (length xs) ≡ length (cond t (x ∷ filter p xs) (filter p xs))
      + length (cond (not t) (x ∷ filter (λ y. not (p y)) xs) (filter (λ y. not (p y)) xs))) [
        | true ↦ omega (arith, rest)
        | false ↦ omega (arith, rest)
      ]

  counted_apart : (q : X → Bool) (xs : List X) → count_by q xs ≡ count_by q (filter p xs) + count_by q (filter (λ x. not (p x)) xs)
  counted_apart q [] = refl
  counted_apart q (x ∷ xs) =
      let rest = counted_apart q xs in
      let one : X → ℕ = λ y. cond (q y) 1 0 in
      let split = sum_by-cons one x xs in
      let in_first = sum_by-cons one x (filter p xs) in
      let in_others = sum_by-cons one x (filter (λ y. not (p y)) xs) in
      split ∙ (elim (p x) as (λ t. one x + count_by q xs ≡ count_by q (cond t (x ∷ filter p xs) (filter p xs))
      + count_by q (cond (not t) (x ∷ filter (λ y. not (p y)) xs) (filter (λ y. not (p y)) xs))) [
        | true ↦ omega (arith, rest, in_first)
        | false ↦ omega (arith, rest, in_others)
      ])

module _ (most : ℕ) (cells : Cells) (held : HeldPlan) (packets : List SentPacket) (tally : PacketTally) (h : IsTally most packets tally) where
  abbrev others : List SentPacket
  others = filter (λ packet. not (is_between packet)) packets

  sent_apart : tally.all.sent - tally.between.sent ≡ length others
  sent_apart =
      let all = h.all.sent in
      let between = h.between.sent in
      omega (arith, all, between, apart is_between packets)

  arrived_apart : tally.all.arrived - tally.between.arrived ≡ count_by arrives others
  arrived_apart =
      let all = h.all.arrived in
      let between = h.between.arrived in
      omega (arith, all, between, counted_apart is_between arrives packets)

  pairs_are : pairs_text tally.all tally.between ≡ pairs_told packets
  pairs_are i =
      counts_line (codes "") (h.all.sent i) (h.all.arrived i) ++ counts_line (codes "between adapters ") (h.between.sent i) (h.between.arrived i)
      ++ counts_line (codes "with a switch ") (sent_apart i) (arrived_apart i)

  pub tally_told : tally_text cells held tally ≡ packets_told most cells held packets
  tally_told i =
      pairs_are i ++ missed_line (h.causes i) ((h.misdelivered i).count) ((h.round i).count)
      ++ missed_text cells held (h.lost i) (h.misdelivered i) (h.round i)
