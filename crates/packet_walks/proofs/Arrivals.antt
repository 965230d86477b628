-- The ends of packets whose walks reach a port, and the first packet that ends elsewhere.
use Rattle.std.proofs.Common.{◌≡◌, ◌<◌, ◌≤◌, ℕ, zero, suc, Bool, true, false, cond, List, [], ◌∷◌, length, get_or, Option, None, Some, refl, sym, ap, ◌∙◌, arith, map}
use Rattle.std.specs.Prelude.{nat_lt, not, slice_index_or, ◌&&◌, ◌||◌}
use Rattle.std.specs.List.{list_all, position, position_or_len}
use Rattle.std.proofs.lemmas.Bool.{and_parts, lt-ltb, le-ltb, ltb-false, ltb-true}
use Rattle.std.proofs.lemmas.List.{length-map}
use Rattle.std.proofs.lemmas.List.Sums.{AllPass-from_list_all, fails_before_first, position_or_len_is}
use Rattle.subnet_view.specs.declared.end_port.EndPort.{EndPort}
use Rattle.packet_walks.specs.declared.packet_end.End.{End}
use Rattle.packet_walks.specs.declared.packet_end.End.TheVariants.{Taken}
use Rattle.held_tables.specs.declared.far_end.Far.{Far}
use Rattle.held_tables.specs.declared.far_end.Far.TheVariants.{Nothing, Switch, Port}
use Rattle.held_tables.specs.declared.senders.Sender.{Sender}
use Rattle.packet_walks.specs.declared.next_hop.NextHop.{NextHop}
use Rattle.packet_walks.specs.declared.next_hop.NextHop.TheVariants.{To, Ends}
use Rattle.held_tables.specs.Owners.{is_sole}
use Rattle.packet_walks.specs.EndsBySender.{AreEnds, all_come, arrivals, comes_by, end_from}
use Rattle.held_tables.specs.Switches.{all_begin, first_by, first_switch, is_among}
use Rattle.packet_walks.specs.HopsByTables.{is_at, sent}
use Rattle.held_tables.specs.Tables.{is_owner, is_same_end}
use Rattle.packet_walks.specs.EndsBySwitch.{end_of, onward}
use Rattle.packet_walks.proofs.Judged.{same_ends}

-- the result of a function on an element, and on none
pub found_there : {X Y : Type 0} (f : X → Option Y) (xs : List X) (k : ℕ) (x : X) → k < length xs → x ≡ get_or xs k x → f x ≡ get_or (map f xs) k None
found_there f [] k x less is = absurd (omega arith)
found_there f (y ∷ xs) zero x less is = ap f is
found_there f (y ∷ xs) (suc k) x less is = found_there f xs k x (omega arith) is

pub none_there : {X Y : Type 0} (f : X → Option Y) (xs : List X) (k : ℕ) → length xs ≤ k → ◌≡◌ {A = Option Y} None (get_or (map f xs) k None)
none_there f [] k past = refl
none_there f (y ∷ xs) zero past = absurd (omega arith)
none_there f (y ∷ xs) (suc k) past = none_there f xs k (omega arith)

-- an owner, if all owners are the port
pub sole_owner : (port e : EndPort) (owners : List EndPort) → is_sole port owners ≡ true → is_owner owners e ≡ true → is_same_end port e ≡ true
sole_owner port e [] sole is = absurd (cc)
sole_owner port e (x ∷ owners) sole is =
    let parts = and_parts (is_same_end port x) (is_sole port owners) sole in
    elim (is_same_end e x) as (λ t. is_same_end e x ≡ t → (t || is_owner owners e) ≡ true → is_same_end port e ≡ true) [
      | true ↦ λ q k. sym (ap (is_same_end port) (same_ends e x q)) ∙ parts.0
      | false ↦ λ q k. sole_owner port e owners parts.1 k
    ] refl is

module _ (port : EndPort) (owners : List EndPort) (walks : List NextHop) where
  -- a walk that comes to the port
  walk_there : (ws : List NextHop) (index : ℕ) (d : NextHop) → slice_index_or (arrivals port ws) index false ≡ true
      → is_at port (end_of (slice_index_or ws index d)) ≡ true
  walk_there [] index d h = absurd (cc)
  walk_there (w ∷ ws) zero d h = h
  walk_there (w ∷ ws) (suc index) d h = walk_there ws index d h

  -- a packet whose walk does
  packet_there : (e : EndPort) (switch : Option ℕ) (far : Far) → is_sole port owners ≡ true → comes_by (first_by switch far) (arrivals port walks) ≡ true
      → is_at port (end_of (onward walks (sent owners e switch far))) ≡ true
  packet_there e (Some index) far sole h = walk_there walks index (To index) h
  packet_there e None Nothing sole h = absurd (cc)
  packet_there e None (Port x) sole h = absurd (cc)
  packet_there e None (Switch index) sole h =
      elim (is_owner owners e) as (λ t. is_owner owners e ≡ t → is_at port (end_of (onward walks (cond t (Ends (Taken e)) (To index)))) ≡ true) [
        | true ↦ λ q. sole_owner port e owners sole q
        | false ↦ λ q. walk_there walks index (To index) h
      ] refl

  source_there : (sources : List Sender) (index : ℕ) → is_sole port owners ≡ true
      → comes_by (slice_index_or (map first_switch sources) index None) (arrivals port walks) ≡ true
      → is_at port (slice_index_or (map (end_from owners walks) sources) index None) ≡ true
  source_there [] index sole h = absurd (cc)
  source_there (s ∷ sources) zero sole h = packet_there s.port s.switch s.far sole h
  source_there (s ∷ sources) (suc index) sole h = source_there sources index sole h

  pub comes_there : (sources : List Sender) (firsts : List (Option ℕ)) (arrive : List Bool) (sole all : Bool) (index : ℕ)
      → AreEnds port sources firsts owners walks arrive sole all → sole ≡ true → comes_by (slice_index_or firsts index None) arrive ≡ true
      → is_at port (slice_index_or (map (end_from owners walks) sources) index None) ≡ true
  comes_there sources firsts arrive sole all index are only h =
      source_there sources index (sym are.sole_is ∙ only)
      (sym (λ i. comes_by (slice_index_or (are.firsts_are i) index None) (are.arrive_is i)) ∙ h)

  -- if all walks end at the port
  among : (count : ℕ) (first : Option ℕ) (arrive : List Bool) → is_among count first ≡ true → count ≡ length arrive → list_all (λ (b : Bool). b) arrive ≡ true
      → comes_by first arrive ≡ true
  among count None arrive h e all = absurd (cc)
  among count (Some index) arrive h e all =
      let less : index < count = ltb-true index count h in
      AllPass-from_list_all (λ (b : Bool). b) arrive all index false (omega arith)

  pub all_comes : (sources : List Sender) (firsts : List (Option ℕ)) (arrive : List Bool) (sole all : Bool)
      → AreEnds port sources firsts owners walks arrive sole all → all ≡ true → (k : ℕ) → k < length sources
      → is_at port (slice_index_or (map (end_from owners walks) sources) k None) ≡ true
  all_comes sources firsts arrive sole all are true_is k less =
      let begin = all_begin (length walks) firsts in
      let each = list_all (λ (b : Bool). b) arrive in
      let both : all_come begin arrive sole ≡ true = sym are.all_is ∙ true_is in
      let front = and_parts (begin && sole) each both in
      let parts = and_parts begin sole front.0 in
      let long : length firsts ≡ length sources = ap length are.firsts_are ∙ length-map sources first_switch in
      let wide : length arrive ≡ length walks = ap length are.arrive_is ∙ length-map walks (λ (walk : NextHop). is_at port (end_of walk)) in
      let first = AllPass-from_list_all (is_among (length walks)) firsts parts.0 k None (omega arith) in
      comes_there sources firsts arrive sole all k are parts.1 (among (length walks) (slice_index_or firsts k None) arrive first (sym wide) front.1)

-- the first index at which a test passes
module _ {X : Type 0} (p : X → Bool) (xs : List X) (d : X) where
  pub first_there : (i : ℕ) → i < length xs → ((k : ℕ) → k < i → p (get_or xs k d) ≡ false) → p (get_or xs i d) ≡ true → Some i ≡ position p xs
  first_there i less before here =
      let at : position_or_len p xs ≡ i = position_or_len_is p xs i d (omega arith) before (λ h. here) in
      sym (ap (λ n. cond (nat_lt n (length xs)) (Some n) None) at ∙ ap (λ t. cond t (Some i) None) (lt-ltb i (length xs) less))

  pub nowhere : (i : ℕ) → length xs ≤ i → ((k : ℕ) → k < i → p (get_or xs k d) ≡ false) → None ≡ position p xs
  nowhere i past before =
      let at : position_or_len p xs ≡ length xs =
      position_or_len_is p xs (length xs) d (omega arith) (λ k h. before k (omega arith)) (λ h. absurd (omega arith)) in
      sym (ap (λ n. cond (nat_lt n (length xs)) (Some n) None) at ∙ ap (λ t. cond t (Some (length xs)) None) (le-ltb (length xs) (length xs) (omega arith)))

-- if no packet ends elsewhere
not_not : (b : Bool) → not b ≡ false → b ≡ true
not_not true h = refl
not_not false h = cc

unfound : (t : Bool) (n : ℕ) → cond t (Some n) None ≡ None → t ≡ false
unfound true n e = cc
unfound false n e = refl

pub all_there : (port : EndPort) (ends : List (Option End)) → position (λ end. not (is_at port end)) ends ≡ None → (k : ℕ) → k < length ends
    → is_at port (get_or ends k None) ≡ true
all_there port ends none k less =
    let p : Option End → Bool = λ end. not (is_at port end) in
    let past : length ends ≤ position_or_len p ends = ltb-false _ _ (unfound _ _ none) in
    not_not (is_at port (get_or ends k None)) (fails_before_first p ends k None (omega arith))
