-- The end port whose packet is followed, and the channels of the packet so far.
use Rattle.std.proofs.Common.{◌≡◌, ◌<◌, ◌≤◌, ◌+◌, ◌-◌, ◌∙◌, ℕ, suc, Bool, true, false, cond, List, [], ◌∷◌, ◌++◌, length, get_or, map, refl, sym, ap, arith, inl, inr}
use Rattle.std.specs.Prelude.{find, not, position, slice_get, slice_index_or, option_map, Option, None, Some}
use Rattle.std.specs.List.{position_or_len}
use Rattle.std.proofs.lemmas.Bool.{ltb-false}
use Rattle.std.proofs.lemmas.List.{append-nil, append_assoc, length-map}
use Rattle.std.proofs.lemmas.List.Folds.{find_at}
use Rattle.std.proofs.lemmas.List.Quantifiers.{position-Some}
use Rattle.std.proofs.lemmas.List.Recursion.{is_position_or_len}
use Rattle.std.proofs.lemmas.Option.{get_or_from_slice_get, same_Some, slice_get-map, slice_get_cases, slice_get_past, slice_get_within}
use Rattle.port_graph.specs.declared.edge.Edge.{Edge}
use Rattle.subnet_view.specs.declared.end_port.EndPort.{EndPort}
use Rattle.subnet_view.specs.EndPort.{end_ports}
use Rattle.subnet_view.specs.Reading.{Cells}
use Rattle.held_tables.specs.Held.{HeldPlan}
use Rattle.held_tables.specs.declared.senders.Sender.{Sender}
use Rattle.held_tables.specs.Switches.{sender_of}
use Rattle.packet_walks.specs.declared.packet_end.End.{End}
use Rattle.packet_walks.specs.HopsByTables.{AreBrought, end_for}
use Rattle.packet_walks.proofs.InTime.{ends_are_found}
use Rattle.audit_channels.specs.Column.{number_of}
use Rattle.audit_ways.specs.PacketWay.{is_port}
use Rattle.audit_ways.specs.Ways.{channels_from}
use Rattle.audit_ways.proofs.Walked.{no_channel, one_channel}

-- the first that passes -----------------------------------------------------------------------------

module _ {X Y : Type 0} (f : X → Y) (p : Y → Bool) where
  same_index : (xs : List X) → position_or_len p (map f xs) ≡ position_or_len (λ x. p (f x)) xs
  same_index = is_position_or_len (λ xs. position_or_len p (map f xs)) (λ x. p (f x)) refl
      (λ x xs. elim (p (f x)) as (λ t. cond (not t) (1 + position_or_len p (map f xs)) 0 ≡ cond t 0 (1 + position_or_len p (map f xs))) [
        | true ↦ refl
        | false ↦ refl
      ])

  number_there : (b : Bool) (n i : ℕ) → cond b (Some n) None ≡ Some i → n ≡ i
  number_there true n i e = same_Some n i e
  number_there false n i e = absurd (cc)

  pub found_there : (xs : List X) (i : ℕ) (d : Y) → position p (map f xs) ≡ Some i
      → (x : X) × (find (λ y. p (f y)) xs ≡ Some x) × (slice_get xs i ≡ Some x)
  found_there xs i d e =
      let less = (position-Some p (map f xs) i d e).0 in
      let long = length-map xs f in
      let within : i < length xs = omega (arith, less, long) in
      let at : position_or_len (λ x. p (f x)) xs ≡ i = sym (same_index xs) ∙ number_there _ _ i e in
      elim (slice_get_cases xs i).1 [
        | inl h ↦ (h.0, find_at (λ x. p (f x)) xs ∙ ap (slice_get xs) at ∙ h.2, h.2)
        | inr h ↦ (let past = h.0 in absurd (omega (arith, past, within)))
      ]

  not_there : (b : Bool) (n : ℕ) → cond b (Some n) None ≡ None → b ≡ false
  not_there true n e = absurd (cc)
  not_there false n e = refl

  pub found_nowhere : (xs : List X) → position p (map f xs) ≡ None → find (λ y. p (f y)) xs ≡ None
  found_nowhere xs e =
      let long = length-map xs f in
      let same = same_index xs in
      let past = ltb-false (position_or_len p (map f xs)) (length (map f xs)) (not_there _ _ e) in
      find_at (λ x. p (f x)) xs ∙ slice_get_past xs (position_or_len (λ x. p (f x)) xs) (omega (arith, long, same, past))

-- the end port ---------------------------------------------------------------------------------------

-- the end of its packet
pub end_at : (cells : Cells) (held : HeldPlan) (lid : ℕ) (ends : List (Option End)) (i : ℕ) (e : EndPort) → AreBrought cells held lid ends
    → slice_get (end_ports cells) i ≡ Some e → slice_index_or ends i None ≡ end_for cells held lid e
end_at cells held lid ends i e h at =
    elim (slice_get_cases ends i).1 [
      | inl there ↦ get_or_from_slice_get ends i there.0 None there.2 ∙ end_of there.0 there.2
      | inr past ↦ (
          let long = h.as_many in
          let less = slice_get_within (end_ports cells) i e at in
          let none = past.0 in absurd (omega (arith, long, less, none))
          )
    ]
  where
    end_of : (end : Option End) → slice_get ends i ≡ Some end → end ≡ end_for cells held lid e
    end_of end is = (ends_are_found cells held lid e end).0 (h.brought i e end at is)

-- its index among the senders
pub index_among : (cells : Cells) (sources : List Sender) (e : EndPort) (r : Option ℕ) → sources ≡ map (sender_of cells) (end_ports cells)
    → r ≡ position (is_port e) sources → position (is_port e) (map (sender_of cells) (end_ports cells)) ≡ r
index_among cells sources e r all is = sym (is ∙ ap (λ (xs : List Sender). position (is_port e) xs) all)

-- the end port as a sender
pub source_is : (cells : Cells) (sources : List Sender) (i : ℕ) (source : Sender) (e : EndPort) → sources ≡ map (sender_of cells) (end_ports cells)
    → source ≡ get_or sources i source → slice_get (end_ports cells) i ≡ Some e → source ≡ sender_of cells e
source_is cells sources i source e all is at =
    is ∙ ap (λ (xs : List Sender). get_or xs i source) all
    ∙ get_or_from_slice_get (map (sender_of cells) (end_ports cells)) i (sender_of cells e) source
    (slice_get-map (sender_of cells) (end_ports cells) i ∙ ap (option_map (sender_of cells)) at)

-- channels -------------------------------------------------------------------------------------------

module _ (edges : List (Option Edge)) (first : ℕ) where
  -- `taken` channels were listed, and the packet is at `switch`
  pub record AreListed (taken switch : ℕ) (channels : List ℕ) : Type 0 where
    pub all : channels ++ channels_from (length edges - taken) edges switch ≡ channels_from (length edges) edges first

  pub none_yet : AreListed 0 first []
  none_yet = record { all = ap (λ n. channels_from n edges first) (let e : length edges - 0 ≡ length edges = omega arith in e) }

  pub one_channel_more : (taken switch : ℕ) (edge : Edge) (channels : List ℕ) → AreListed taken switch channels → taken < length edges
      → slice_index_or edges switch None ≡ Some edge → AreListed (taken + 1) edge.to (channels ++ number_of switch edge ∷ [])
  one_channel_more taken switch edge channels h less e =
      let left : length edges - taken ≡ suc (length edges - (taken + 1)) = omega arith in
      let rest = channels_from (length edges - (taken + 1)) edges edge.to in
      let split : channels_from (length edges - taken) edges switch ≡ number_of switch edge ∷ rest =
      ap (λ n. channels_from n edges switch) left ∙ one_channel edges (length edges - (taken + 1)) switch edge e in
      record { all = append_assoc channels (number_of switch edge ∷ []) rest ∙ ap (λ xs. channels ++ xs) (sym split) ∙ h.all }

  pub ended_at : (taken switch : ℕ) (channels : List ℕ) → AreListed taken switch channels → slice_index_or edges switch None ≡ None
      → channels ≡ channels_from (length edges) edges first
  ended_at taken switch channels h e =
      sym (append-nil channels) ∙ ap (λ xs. channels ++ xs) (sym (no_channel edges (length edges - taken) switch e)) ∙ h.all

  pub ended_after : (taken switch : ℕ) (channels : List ℕ) → AreListed taken switch channels → length edges ≤ taken
      → channels ≡ channels_from (length edges) edges first
  ended_after taken switch channels h past =
      let left : length edges - taken ≡ 0 = omega arith in
      sym (append-nil channels) ∙ ap (λ n. channels ++ channels_from n edges switch) (sym left) ∙ h.all
