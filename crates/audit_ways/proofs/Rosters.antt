-- The result of a search in a roster of the end ports.
use Rattle.std.proofs.Common.{◌≡◌, ◌<◌, ℕ, List, [], ◌∷◌, Bool, true, false, get_or, length, map, inl, inr, refl, sym, ap, ◌∙◌, subst, arith}
use Rattle.std.specs.Prelude.{Contains, Option, None, Some, ◌&&◌, ◌||◌}
use Rattle.std.specs.Result.{result_ok}
use Rattle.std.specs.Cmp.{tied_itself}
use Rattle.std.specs.List.{list_any}
use Rattle.std.specs.List.Sorted.{IsBinarySearchResult, IsNonDecreasingBy, IsPartitionPoint, IsSearchInRange}
use Rattle.std.specs.Ordering.{ordering_index}
use Rattle.std.specs.declared.cmp.Ordering.TheVariants.{Less, Equal, Greater}
use Rattle.std.specs.declared.result.Result.{Result}
use Rattle.std.specs.declared.result.Result.TheVariants.{Ok, Err}
use Rattle.std.proofs.lemmas.Bool.{cases_lt}
use Rattle.std.proofs.lemmas.List.Elements.{Contains-get_or}
use Rattle.std.proofs.lemmas.List.Sorted.{Contains-permutation, IsPermutation-sym, list_any-IsPermutation, searchable_from_sorted}
use Rattle.smp_bytes.specs.Ports.{node_port_cmp}
use Rattle.smp_bytes.proofs.NodePorts.{node_port_exact, node_port_total}
use Rattle.subnet_view.specs.declared.end_port.EndPort.{EndPort}
use Rattle.subnet_view.specs.EndPort.{end_ports}
use Rattle.subnet_view.specs.Reading.{Cells}
use Rattle.subnet_view.proofs.Apart.{contains-from_map}
use Rattle.subnet_view.proofs.Members.{list_any_at, list_any_true}
use Rattle.held_tables.specs.declared.far_end.Far.{Far}
use Rattle.held_tables.specs.declared.senders.Sender.{Sender}
use Rattle.held_tables.specs.Switches.{far_of, sender_of}
use Rattle.held_tables.specs.Tables.{is_owner, is_same_end}
use Rattle.packet_walks.proofs.Judged.{same_ends, same_itself}
use Rattle.audit_ways.specs.SenderGroups.{AreByPort, IsRoster, IsTargetAmong, LeadsTo, port_of}
use Rattle.audit_ways.specs.Ways.{is_adapter, is_target}

module _ (roster : List Sender) (e : EndPort) where
  abbrev sought : ℕ × ℕ
  sought = (e.node, e.port)

  abbrev IsSearched : Result ℕ ℕ → Type 0
  IsSearched r = IsBinarySearchResult (λ (s : Sender). node_port_cmp (port_of s) sought) roster r

  -- what is found is the port's
  found_at : (i : ℕ) (d : Sender) → i < length roster → node_port_cmp (port_of (get_or roster i d)) sought ≡ Equal → LeadsTo roster e (get_or roster i d).far
  found_at i d within tied =
      let s = get_or roster i d in
      let same : port_of s ≡ sought = node_port_exact (port_of s) sought tied in
      record {
        source = s;
        there = Contains-get_or roster i d within;
        port_is = λ j. record { node = (same j).0; port = (same j).1 };
        far_is = refl;
      }

  pub one_found : (r : Result ℕ ℕ) (i : ℕ) (d : Sender) → IsSearchInRange r (length roster) → IsSearched r → result_ok r ≡ Some i
      → LeadsTo roster e (get_or roster i d).far
  one_found (Ok j) i d within found is = let same : j ≡ i =
      cc in subst (λ (k : ℕ). LeadsTo roster e (get_or roster k d).far) same (found_at j d within (found d))
  one_found (Err j) i d within found is = absurd (cc)

  nowhere : (i : ℕ)
      → IsPartitionPoint (λ (s : Sender). node_port_cmp (port_of s) sought ≡ Less) (λ (s : Sender). node_port_cmp (port_of s) sought ≡ Greater) roster i
      → (s : Sender) → Contains roster s → is_same_end e s.port ≡ true → ⊥
  nowhere i parts s h same =
      let at = get_or roster h.0 s in
      let tied : node_port_cmp (port_of at) sought ≡ Equal =
      ap (λ (x : Sender). node_port_cmp (port_of x) sought) h.2 ∙ ap (λ (x : EndPort). node_port_cmp (x.node, x.port) sought) (same_ends e s.port same)
      ∙ tied_itself node_port_total sought in
      elim (cases_lt h.0 i) [
        | inl l ↦ let less : node_port_cmp (port_of at) sought ≡ Less = parts.0 h.0 s (omega arith) l in absurd (cc)
        | inr g ↦ let greater : node_port_cmp (port_of at) sought ≡ Greater = parts.1 h.0 s g h.1 in absurd (cc)
      ]

  -- if nothing is found, no source has the port
  pub none_found : (r : Result ℕ ℕ) → AreByPort roster → IsSearched r → result_ok r ≡ None → list_any (λ (s : Sender). is_same_end e s.port) roster ≡ false
  none_found (Ok j) sorted found is = absurd (cc)
  none_found (Err j) sorted found is =
      let test : Sender → Bool = λ s. is_same_end e s.port in
      let rising : IsNonDecreasingBy (λ (s : Sender). ordering_index (node_port_cmp (port_of s) sought)) roster =
      searchable_from_sorted node_port_total port_of roster sought sorted in
      elim (list_any test roster) as (λ t. list_any test roster ≡ t → t ≡ false) [
        | true ↦ λ any. let at = list_any_at test roster any in absurd (nowhere j (found rising) at.0 at.1 at.2)
        | false ↦ λ none. refl
      ] refl

  pub not_among : list_any (λ (s : Sender). is_same_end e s.port) roster ≡ false → IsTargetAmong roster e None
  not_among none = ap (λ t. is_adapter e && t) none ∙ and_false (is_adapter e)
    where
      and_false : (a : Bool) → (a && false) ≡ false
      and_false true = refl
      and_false false = refl

-- by the roster of the end ports
module _ (cells : Cells) (roster : List Sender) (e : EndPort) (h : IsRoster cells roster) where
  any_source : (ports : List EndPort) → list_any (λ (s : Sender). is_same_end e s.port) (map (sender_of cells) ports) ≡ list_any (is_same_end e) ports
  any_source [] = refl
  any_source (x ∷ ports) = ap (λ t. is_same_end e x || t) (any_source ports)

  any_listed : list_any (λ (s : Sender). is_same_end e s.port) roster ≡ is_owner (end_ports cells) e
  any_listed =
      sym (list_any-IsPermutation (λ (s : Sender). is_same_end e s.port) (map (sender_of cells) (end_ports cells)) roster h.moved)
      ∙ any_source (end_ports cells)

  pub no_target : (far : Option Far) → IsTargetAmong roster e far → ((x : Far) → far ≡ Some x → ⊥) → is_target cells e ≡ false
  no_target None is none = sym (ap (λ t. is_adapter e && t) any_listed) ∙ is
  no_target (Some x) is none = absurd (none x refl)

  pub a_target : (far : Far) → IsTargetAmong roster e (Some far) → (is_target cells e ≡ true) × (far ≡ far_of cells e.node e.port)
  a_target far is =
      let leads = is.1 in
      let was = Contains-permutation roster (map (sender_of cells) (end_ports cells)) leads.source
      (IsPermutation-sym (map (sender_of cells) (end_ports cells)) roster h.moved) leads.there in
      let from = contains-from_map (sender_of cells) (end_ports cells) leads.source was in
      let port : from.0 ≡ e = ap (λ (s : Sender). s.port) from.2 ∙ leads.port_is in
      let owner : is_owner (end_ports cells) e ≡ true =
      list_any_true (is_same_end e) (end_ports cells) e (subst (λ (x : EndPort). Contains (end_ports cells) x) port from.1) (same_itself e) in (
        (λ i. is.0 i && owner i),
        sym leads.far_is ∙ sym (ap (λ (s : Sender). s.far) from.2) ∙ ap (λ (x : EndPort). far_of cells x.node x.port) port,
      )
