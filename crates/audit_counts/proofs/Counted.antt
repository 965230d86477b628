-- Packets, counted one after the other.
use Rattle.std.proofs.Common.{◌≡◌, ◌+◌, ℕ, List, [], ◌∷◌, ◌++◌, length, take, refl, sym, ap, ◌∙◌, subst, arith, Bool, true, false, cond}
use Rattle.std.specs.Prelude.{Option, None, Some, count_by, filter, not, ◌&&◌}
use Rattle.std.specs.List.{list_all}
use Rattle.std.proofs.lemmas.Bool.{and_from, and_parts}
use Rattle.std.proofs.lemmas.List.{append-nil, length-append}
use Rattle.std.proofs.lemmas.List.Elements.{filter-append}
use Rattle.std.proofs.lemmas.List.Sums.{sum_by-append, sum_by-cons, sum_by_push}
use Rattle.subnet_view.specs.declared.end_port.EndPort.{EndPort}
use Rattle.packet_walks.specs.declared.cause.Cause.{Cause}
use Rattle.packet_walks.specs.declared.cause.Cause.TheVariants.{AboveTop, NoEntry, NoPort, NoLink, Foreign}
use Rattle.packet_walks.specs.declared.packet_end.End.{End}
use Rattle.packet_walks.specs.declared.packet_end.End.TheVariants.{Taken, Lost}
use Rattle.packet_walks.specs.HopsByTables.{is_at}
use Rattle.audit_counts.specs.declared.cause_counts.Causes.{Causes}
use Rattle.audit_counts.specs.declared.sent_packet.SentPacket.{SentPacket}
use Rattle.audit_counts.specs.declared.pairs.Pairs.{Pairs}
use Rattle.audit_counts.specs.declared.packet_tally.PacketTally.{PacketTally}
use Rattle.audit_counts.specs.CauseCounts.{AreCausesIf, causes_of, is_lost_end_for, is_lost_for}
use Rattle.audit_counts.specs.Packets.{arrives, goes_round, is_between, is_lost, is_misdelivered, is_lost_end, is_taken_end, is_no_end}
use Rattle.audit_counts.specs.Pairs.{ArePairs, ArePairsIf, ArePairsWithArrived}
use Rattle.audit_counts.specs.PacketTally.{IsTally, IsWith, IsWithArrived}
use Rattle.audit_counts.specs.FirstFew.{Listed, first_of, listed, listed_of}
use Rattle.audit_counts.proofs.Firsts.{listed_more}

-- the count goes up by one if the element passes
counted_more : {X : Type 0} (p : X → Bool) (xs : List X) (x : X) (old new : ℕ) → old ≡ count_by p xs → new ≡ old + cond (p x) 1 0 → new
    ≡ count_by p (xs ++ x ∷ [])
counted_more {X} p xs x old new h e = e ∙ ap (λ n. n + cond (p x) 1 0) h ∙ sym (sum_by_push (λ (y : X). cond (p y) 1 0) xs x)

-- a packet more of those that pass
pairs_if : (p : SentPacket → Bool) (packets : List SentPacket) (packet : SentPacket) (old new : Pairs) (b : Bool) → p packet ≡ b
    → ArePairs (filter p packets) old
    → ArePairsIf old b (arrives packet) new → ArePairs (filter p (packets ++ packet ∷ [])) new
pairs_if p packets packet old new true is h w =
    let more : filter p (packets ++ packet ∷ []) ≡ filter p packets ++ packet ∷ [] =
    filter-append p packets (packet ∷ []) ∙ ap (λ t. filter p packets ++ cond t (packet ∷ []) []) is in
    let sent = w.sent in
    let was = h.sent in
    subst (λ (ps : List SentPacket). ArePairs ps new) (sym more)
    (record {
      sent = omega (arith, length-append (filter p packets) (packet ∷ []));
      arrived = counted_more arrives (filter p packets) packet old.arrived new.arrived h.arrived w.arrived;
    })
pairs_if p packets packet old new false is h w =
    let same : filter p (packets ++ packet ∷ []) ≡ filter p packets =
    filter-append p packets (packet ∷ []) ∙ ap (λ t. filter p packets ++ cond t (packet ∷ []) []) is ∙ append-nil (filter p packets) in
    let sent = w.sent in
    let was = h.sent in
    let arrived = w.arrived in
    let before = h.arrived in
    subst (λ (ps : List SentPacket). ArePairs ps new) (sym same) (record { sent = omega arith; arrived = omega arith })

pairs_more : (packets : List SentPacket) (packet : SentPacket) (old new : Pairs) → ArePairs packets old → ArePairsIf old true (arrives packet) new
    → ArePairs (packets ++ packet ∷ []) new
pairs_more packets packet old new h w =
    let sent = w.sent in
    let was = h.sent in
    record {
      sent = omega (arith, length-append packets (packet ∷ []));
      arrived = counted_more arrives packets packet old.arrived new.arrived h.arrived w.arrived;
    }

-- one more by what it is lost for
causes_more : (packets : List SentPacket) (packet : SentPacket) (old new : Causes) → old ≡ causes_of packets
    → AreCausesIf old (λ cause. is_lost_for cause packet) new
    → new ≡ causes_of (packets ++ packet ∷ [])
causes_more packets packet old new h w =
    let above_top = counted_more (is_lost_for AboveTop) packets packet old.above_top new.above_top (ap (λ (c : Causes). c.above_top) h) w.above_top in
    let no_entry = counted_more (is_lost_for NoEntry) packets packet old.no_entry new.no_entry (ap (λ (c : Causes). c.no_entry) h) w.no_entry in
    let no_port = counted_more (is_lost_for NoPort) packets packet old.no_port new.no_port (ap (λ (c : Causes). c.no_port) h) w.no_port in
    let no_link = counted_more (is_lost_for NoLink) packets packet old.no_link new.no_link (ap (λ (c : Causes). c.no_link) h) w.no_link in
    let foreign = counted_more (is_lost_for Foreign) packets packet old.foreign new.foreign (ap (λ (c : Causes). c.foreign) h) w.foreign in
    λ i. record { above_top = above_top i; no_entry = no_entry i; no_port = no_port i; no_link = no_link i; foreign = foreign i }

-- told with those of its kind
told_more : (most : ℕ) (p : SentPacket → Bool) (packets : List SentPacket) (packet : SentPacket) (old new : Listed SentPacket)
    → old ≡ listed_of most p packets → new ≡ cond (p packet) (listed old packet) old → new ≡ listed_of most p (packets ++ packet ∷ [])
told_more most p packets packet old new h e =
    e ∙ ap (λ (o : Listed SentPacket). cond (p packet) (listed o packet) o) h ∙ sym (listed_more most p packets packet)

-- a packet more is counted
pub tally_more : (most : ℕ) (packets : List SentPacket) (old new : PacketTally) (packet : SentPacket) → IsTally most packets old → IsWith old packet new
    → IsTally most (packets ++ packet ∷ []) new
tally_more most packets old new packet h w = record {
  all = pairs_more packets packet old.all new.all h.all w.all;
  between = pairs_if is_between packets packet old.between new.between (is_between packet) refl h.between w.between;
  causes = causes_more packets packet old.causes new.causes h.causes w.told.causes;
  lost = told_more most is_lost packets packet old.lost new.lost h.lost w.told.lost;
  misdelivered = told_more most is_misdelivered packets packet old.misdelivered new.misdelivered h.misdelivered w.told.misdelivered;
  round = told_more most goes_round packets packet old.round new.round h.round w.told.round;
}

-- what arrives is of no kind that is told
pub record IsOfNone (packet : SentPacket) : Type 0 where
  pub cause : (cause : Cause) → is_lost_for cause packet ≡ false
  pub lost : is_lost packet ≡ false
  pub misdelivered : is_misdelivered packet ≡ false
  pub round : goes_round packet ≡ false

lost_is : (e : EndPort) (end : Option End) → is_at e end ≡ true → is_lost_end end ≡ false
lost_is e None h = refl
lost_is e (Some (Taken x)) h = refl
lost_is e (Some (Lost g cause)) h = cc

cause_is : (cause : Cause) (e : EndPort) (end : Option End) → is_at e end ≡ true → is_lost_end_for cause end ≡ false
cause_is cause e None h = refl
cause_is cause e (Some (Taken x)) h = refl
cause_is cause e (Some (Lost g why)) h = cc

round_is : (e : EndPort) (end : Option End) → is_at e end ≡ true → is_no_end end ≡ false
round_is e None h = cc
round_is e (Some x) h = refl

missed_is : (a b : Bool) → b ≡ true → (a && not b) ≡ false
missed_is true true h = refl
missed_is true false h = cc
missed_is false b h = refl

pub of_none : (packet : SentPacket) → arrives packet ≡ true → IsOfNone packet
of_none packet h = record {
  cause = λ cause. cause_is cause packet.line.port packet.end h;
  lost = lost_is packet.line.port packet.end h;
  misdelivered = missed_is (is_taken_end packet.end) (arrives packet) h;
  round = round_is packet.line.port packet.end h;
}

-- packets that arrive -------------------------------------------------------------------

none_told : (p : SentPacket → Bool) → ((packet : SentPacket) → arrives packet ≡ true → p packet ≡ false) → (packets : List SentPacket)
    → list_all arrives packets ≡ true
    → filter p packets ≡ []
none_told p h [] all = refl
none_told p h (packet ∷ packets) all =
    let parts = and_parts (arrives packet) (list_all arrives packets) all in
    ap (λ t. cond t (packet ∷ filter p packets) (filter p packets)) (h packet parts.0) ∙ none_told p h packets parts.1

none_counted : (p : SentPacket → Bool) → ((packet : SentPacket) → arrives packet ≡ true → p packet ≡ false) → (packets more : List SentPacket)
    → list_all arrives more ≡ true → count_by p packets ≡ count_by p (packets ++ more)
none_counted p h packets [] all = sym (ap (count_by p) (append-nil packets))
none_counted p h packets (x ∷ more) all =
    let parts = and_parts (arrives x) (list_all arrives more) all in
    let none = none_counted p h [] more parts.1 in
    let split = sum_by-append (λ (y : SentPacket). cond (p y) 1 0) packets (x ∷ more) in
    let first = sum_by-cons (λ (y : SentPacket). cond (p y) 1 0) x more in
    let zero_is : ◌≡◌ {A = ℕ} (cond (p x) 1 0) 0 = ap (λ t. cond t 1 0) (h x parts.0) in
    omega (arith, none, split, first, zero_is)

same_listed : (most : ℕ) (p : SentPacket → Bool) → ((packet : SentPacket) → arrives packet ≡ true → p packet ≡ false) → (packets more : List SentPacket)
    → list_all arrives more ≡ true
    → listed_of most p packets ≡ listed_of most p (packets ++ more)
same_listed most p h packets more all =
    let first : first_of most p packets ≡ first_of most p (packets ++ more) =
    sym (ap (λ xs. take most xs) (filter-append p packets more ∙ ap (λ xs. filter p packets ++ xs) (none_told p h more all) ∙ append-nil (filter p packets))) in
    let count = none_counted p h packets more all in
    λ i. record { most = most; first = first i; count = count i }

same_causes : (packets more : List SentPacket) → list_all arrives more ≡ true → causes_of packets ≡ causes_of (packets ++ more)
same_causes packets more all =
    let same : (cause : Cause) → count_by (is_lost_for cause) packets ≡ count_by (is_lost_for cause) (packets ++ more) =
    λ cause. none_counted (is_lost_for cause) (λ packet a. (of_none packet a).cause cause) packets more all in
    λ i. record { above_top = same AboveTop i; no_entry = same NoEntry i; no_port = same NoPort i; no_link = same NoLink i; foreign = same Foreign i }

-- of those that pass, all arrive too
passing_arrive : (p : SentPacket → Bool) (packets : List SentPacket) → list_all arrives packets ≡ true → list_all arrives (filter p packets) ≡ true
passing_arrive p [] all = refl
passing_arrive p (x ∷ packets) all =
    let parts = and_parts (arrives x) (list_all arrives packets) all in
    let rest = passing_arrive p packets parts.1 in
    elim (p x) as (λ t. list_all arrives (cond t (x ∷ filter p packets) (filter p packets)) ≡ true) [
      | true ↦ and_from (arrives x) (list_all arrives (filter p packets)) parts.0 rest
      | false ↦ rest
    ]

all_counted : (packets : List SentPacket) → list_all arrives packets ≡ true → count_by arrives packets ≡ length packets
all_counted [] all = refl
all_counted (packet ∷ packets) all =
    let parts = and_parts (arrives packet) (list_all arrives packets) all in
    let split = sum_by-cons (λ (p : SentPacket). cond (arrives p) 1 0) packet packets in
    let one : ◌≡◌ {A = ℕ} (cond (arrives packet) 1 0) 1 = ap (λ t. cond t 1 0) parts.0 in
    let rest = all_counted packets parts.1 in
    split ∙ omega (arith, one, rest)

-- `count` packets more are counted
pairs_arrived : (packets more : List SentPacket) (old new : Pairs) (count : ℕ) → ArePairs packets old → list_all arrives more ≡ true → count ≡ length more
    → ArePairsWithArrived old count new → ArePairs (packets ++ more) new
pairs_arrived packets more old new count h all is w =
    let sent = w.sent in
    let was = h.sent in
    let arrived = w.arrived in
    let before = h.arrived in
    record {
      sent = omega (arith, length-append packets more);
      arrived = omega (arith, sum_by-append (λ (p : SentPacket). cond (arrives p) 1 0) packets more, all_counted more all);
    }

pub tally_arrived : (most : ℕ) (packets more : List SentPacket) (old new : PacketTally) (count between : ℕ) → IsTally most packets old
    → list_all arrives more ≡ true → count ≡ length more → between ≡ length (filter is_between more) → IsWithArrived old count between new
    → IsTally most (packets ++ more) new
tally_arrived most packets more old new count between h all is some w = record {
  all = pairs_arrived packets more old.all new.all count h.all all is w.all;
  between = subst (λ (ps : List SentPacket). ArePairs ps new.between) (sym (filter-append is_between packets more))
      (pairs_arrived (filter is_between packets) (filter is_between more) old.between new.between between h.between
      (passing_arrive is_between more all) some w.between);
  causes = w.causes ∙ h.causes ∙ same_causes packets more all;
  lost = w.lost ∙ h.lost ∙ same_listed most is_lost (λ packet a. (of_none packet a).lost) packets more all;
  misdelivered = w.misdelivered ∙ h.misdelivered ∙ same_listed most is_misdelivered (λ packet a. (of_none packet a).misdelivered) packets more all;
  round = w.round ∙ h.round ∙ same_listed most goes_round (λ packet a. (of_none packet a).round) packets more all;
}
