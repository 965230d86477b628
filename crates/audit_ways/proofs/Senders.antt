-- The packets for a LID if all arrive: those of all adapter ports except the LID's own.
use Rattle.std.proofs.Common.{◌≡◌, ◌≤◌, ◌*◌, ℕ, zero, suc, Bool, true, false, List, [], ◌∷◌, get_or, refl, sym, ap, ◌∙◌, subst, arith}
use Rattle.std.specs.Prelude.{Contains, IsSome, Option, None, Some, count_by, is_some, not, ◌&&◌}
use Rattle.std.specs.List.{position, sum_by}
use Rattle.std.specs.Cmp.{tied_itself}
use Rattle.std.specs.Ordering.{is_lt}
use Rattle.std.proofs.lemmas.Bool.{and_parts}
use Rattle.std.proofs.lemmas.List.Sums.{get_or-le-sum_by}
use Rattle.fact_store.specs.View.{Facts, cells_of}
use Rattle.subnet_view.specs.declared.end_port.EndPort.{EndPort}
use Rattle.subnet_view.specs.EndPort.{ComesBefore, end_ports}
use Rattle.reply_facts.specs.Known.{port_guid_of}
use Rattle.subnet_view.specs.Reading.{Cells}
use Rattle.subnet_view.proofs.EndPortList.{end_ports_law}
use Rattle.subnet_view.proofs.EndPortOrder.{port_total}
use Rattle.subnet_view.proofs.Members.{contains_filter, list_any_at}
use Rattle.held_tables.specs.declared.held.HeldLid.{HeldLid}
use Rattle.held_tables.specs.Held.{HeldPlan}
use Rattle.packet_walks.specs.declared.packet_end.End.{End}
use Rattle.held_tables.specs.declared.far_end.Far.{Far}
use Rattle.held_tables.specs.Switches.{far_of, switch_over}
use Rattle.packet_walks.specs.HopsByTables.{AreBrought, end_for, is_at}
use Rattle.held_tables.specs.Tables.{is_owner, is_same_end}
use Rattle.packet_walks.proofs.Arrivals.{all_there}
use Rattle.packet_walks.proofs.InTime.{found_at}
use Rattle.packet_walks.proofs.Judged.{same_ends, same_itself}
use Rattle.audit_ways.specs.declared.sender_groups.Groups.{Groups}
use Rattle.audit_ways.specs.SenderGroups.{AreGrouped, IsGroupedWith, adapters, by_switch, packets_at, total}
use Rattle.audit_ways.specs.WayTally.{weighed}
use Rattle.audit_ways.specs.Ways.{AllComeTo, is_adapter, is_target, reaches, reaches_if}
use Rattle.audit_ways.proofs.Grouped.{delivered}
use Rattle.audit_ways.proofs.Once.{filters_agree, stands_once, sum_with}

pub none_is : {X : Type 0} (o : Option X) → is_some o ≡ false → o ≡ None
none_is None h = refl
none_is (Some x) h = absurd (cc)

-- 1 for one index, and 0 for all others
only_at : ℕ → ℕ → ℕ
only_at zero zero = 1
only_at zero (suc i) = 0
only_at (suc k) zero = 0
only_at (suc k) (suc i) = only_at k i

only : Option ℕ → Option ℕ → ℕ
only None None = 1
only None (Some i) = 0
only (Some k) None = 0
only (Some k) (Some i) = only_at k i

at_itself : (k : ℕ) → only_at k k ≡ 1
unfolding only_at
at_itself zero = refl
at_itself (suc k) = at_itself k

only_itself : (o : Option ℕ) → only o o ≡ 1
unfolding only
only_itself None = refl
only_itself (Some k) = at_itself k

weighed_by_0 : (weights : List ℕ) → weighed (λ i. 0) weights ≡ 0
weighed_by_0 [] = refl
weighed_by_0 (w ∷ weights) = let rest = weighed_by_0 weights in omega (arith, rest)

weighed_at : (weights : List ℕ) (k : ℕ) → weighed (only_at k) weights ≡ get_or weights k 0
unfolding only_at
weighed_at [] k = refl
weighed_at (w ∷ weights) zero = let rest = weighed_by_0 weights in omega (arith, rest)
weighed_at (w ∷ weights) (suc k) = let rest = weighed_at weights k in omega (arith, rest)

total_only : (groups : Groups) (o : Option ℕ) → total (only o) groups ≡ packets_at groups o
unfolding only
total_only groups None = let rest = weighed_by_0 groups.weights.items in omega (arith, rest)
total_only groups (Some k) = let rest = weighed_at groups.weights.items k in omega (arith, rest)

-- an end port of the facts is one of the list, once
module _ (facts : Facts) (e : EndPort) (is : is_owner (end_ports (cells_of facts)) e ≡ true) where
  abbrev cells : Cells
  cells = cells_of facts

  listed : Contains (end_ports cells) e
  listed =
      let found = list_any_at (is_same_end e) (end_ports cells) is in
      subst (λ (x : EndPort). Contains (end_ports cells) x) (same_ends e found.0 found.2) found.1

  not_before_itself : ComesBefore cells e e → ⊥
  not_before_itself before =
      let (kind, ports, known, index, guid) = ((end_ports_law facts).0 e).0 listed in
      by_guid (port_guid_of cells e.node e.port) refl guid
    where
      by_guid : (o : Option ℕ) → port_guid_of cells e.node e.port ≡ o → IsSome o → ⊥
      by_guid None at h = absurd (cc)
      by_guid (Some guid) at h =
          let less = before guid guid at at in
          cc (less, ap is_lt (tied_itself port_total (guid, e)))

  pub listed_once : count_by (is_same_end e) (end_ports cells) ≡ 1
  listed_once = stands_once e (is_same_end e) (same_ends e) (ComesBefore cells) (same_itself e) not_before_itself (end_ports cells) (end_ports_law facts).1
      listed

module _ (facts : Facts) (held : HeldPlan) (line : HeldLid) (far : Far) (target : is_target (cells_of facts) line.port ≡ true)
    (leads : far ≡ far_of (cells_of facts) line.port.node line.port.port) where
  abbrev view : Cells
  view = cells_of facts

  -- if all packets arrive
  all_reach : AllComeTo view held line → (e : EndPort) → Contains (end_ports view) e
      → reaches view held line e ≡ (is_adapter e && not (is_same_end line.port e))
  all_reach come e h = ap (reaches_if line e) (come e h) ∙ with_true (is_adapter e) (is_same_end line.port e)
    where
      with_true : (a b : Bool) → (a && not b && true) ≡ (a && not b)
      with_true true true = refl
      with_true true false = refl
      with_true false b = refl

  -- all but the own one
  pub without_own : (old new : Groups) → AllComeTo view held line → AreGrouped view (adapters view) old → IsGroupedWith new far old
      → AreGrouped view (delivered view held line) new
  without_own old new come h w =
      let parts = and_parts (is_adapter line.port) (is_owner (end_ports view) line.port) target in
      let same = filters_agree (reaches view held line) (λ e. is_adapter e
      && not (is_same_end line.port e)) (end_ports view) (all_reach come) in
      let once = listed_once facts line.port parts.1 in
      record {
        as_many = sym w.as_many ∙ h.as_many;
        sums = λ number. (
            let its : EndPort → ℕ = by_switch view number in
            let these = ap (sum_by its) same in
            let all = sum_with line.port (is_same_end line.port) (same_ends line.port) its is_adapter parts.0 (end_ports view) in
            let own_one : count_by (is_same_end line.port) (end_ports view) * its line.port ≡ its line.port =
            ap (λ n. n * its line.port) once ∙ (let z : 1 * its line.port ≡ its line.port = omega arith in z) in
            let at : number (switch_over far) ≡ its line.port = ap (λ f. number (switch_over f)) leads in
            let before = h.sums number in
            let with_it = w.sums number in
            omega (arith, these, all, own_one, at, before, with_it));
      }

  -- the own one is among them
  pub own_there : (groups : Groups) → AreGrouped view (adapters view) groups → 1 ≤ packets_at groups (switch_over far)
  own_there groups h =
      let parts = and_parts (is_adapter line.port) (is_owner (end_ports view) line.port) target in
      let there = contains_filter is_adapter (end_ports view) line.port (listed facts line.port parts.1) parts.0 in
      let own = switch_over far in
      let its : EndPort → ℕ = by_switch view (only own) in
      let least = get_or-le-sum_by its (adapters view) there.0 line.port there.1 in
      let at : its (get_or (adapters view) there.0 line.port) ≡ 1 =
      ap its there.2 ∙ ap (λ f. only own (switch_over f)) (sym leads) ∙ only_itself own in
      let all = h.sums (only own) in
      let alone = total_only groups own in
      omega (arith, least, at, all, alone)

  -- and all again
  pub with_own : (old less new : Groups) → AreGrouped view (adapters view) old → IsGroupedWith less far old → IsGroupedWith less far new
      → AreGrouped view (adapters view) new
  with_own old less new h left back = record {
    as_many = back.as_many ∙ sym left.as_many ∙ h.as_many;
    sums = λ number. h.sums number ∙ left.sums number ∙ sym (back.sums number);
  }

-- all packets arrive if none is seen to end elsewhere
pub all_come_to : (cells : Cells) (held : HeldPlan) (line : HeldLid) (port : EndPort) (ends : List (Option End)) → AreBrought cells held line.lid ends
    → port ≡ line.port → position (λ end. not (is_at port end)) ends ≡ None → AllComeTo cells held line
all_come_to cells held line port ends brought own none e h =
    let n = h.0 in
    let as_many = brought.as_many in
    let there = all_there port ends none n (omega (arith, as_many, h.1)) in
    ap (is_at line.port) (sym (found_at cells held line.lid ends n e brought h.1 ∙ ap (end_for cells held line.lid) h.2))
    ∙ ap (λ p. is_at p (get_or ends n None)) (sym own) ∙ there
