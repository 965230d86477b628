-- The ports at the far ends of wires, and where the packets of end ports begin.
use Rattle.std.proofs.Common.{◌≡◌, ◌<◌, ◌≤◌, ◌+◌, ◌*◌, ◌/◌, ℕ, zero, suc, List, [], ◌∷◌, length, map, get_or, take, ◌++◌, refl, sym, ap, ◌∙◌, arith, inl, inr}
use Rattle.std.specs.Prelude.{Option, None, Some, Vec, ◌==◌, ◌%◌, slice_get, slice_index_or}
use Rattle.std.specs.Option.{option_map_or}
use Rattle.std.specs.List.{range_with_len}
use Rattle.std.proofs.lemmas.Bool.{cases_lt}
use Rattle.std.proofs.lemmas.List.{map-append}
use Rattle.std.proofs.lemmas.Option.{same_Some}
use Rattle.std.proofs.lemmas.List.Quantifiers.{position-Some}
use Rattle.subnet_view.specs.declared.end_port.EndPort.{EndPort}
use Rattle.subnet_view.specs.EndPort.{end_ports}
use Rattle.subnet_view.specs.Reading.{Cells, switches}
use Rattle.held_tables.specs.declared.senders.Sender.{Sender}
use Rattle.std.specs.declared.alloc.Global.{Global}
use Rattle.lane_channels.specs.LaneNetwork.{lists_of}
use Rattle.held_tables.specs.declared.far_end.Far.{Far}
use Rattle.held_tables.specs.declared.far_end.Far.TheVariants.{Nothing, Switch, Port}
use Rattle.held_tables.specs.Switches.{far_of, first_by, first_switch, index_in, sender_of, switch_over}
use Rattle.packet_walks.proofs.FarRows.{far_within}
use Rattle.lane_channels.specs.FarPorts.{far_port, far_port_by}

-- an element of a list of the numbers from `first` on
at_range : (f : ℕ → ℕ) (n first k : ℕ) → k < n → slice_index_or (map f (range_with_len first n)) k 0 ≡ f (first + k)
at_range f zero first k less = absurd (omega arith)
at_range f (suc n) first zero less = ap f (omega arith)
at_range f (suc n) first (suc k) less = at_range f n (first + 1) k (omega arith) ∙ ap f (omega arith)

past_range : (f : ℕ → ℕ) (n first k : ℕ) → n ≤ k → slice_index_or (map f (range_with_len first n)) k 0 ≡ 0
past_range f zero first k past = refl
past_range f (suc n) first zero past = absurd (omega arith)
past_range f (suc n) first (suc k) past = past_range f n (first + 1) k (omega arith)

none_past : (xs : List ℕ) (k : ℕ) → length xs ≤ k → slice_get xs k ≡ None
none_past [] k past = refl
none_past (x ∷ xs) zero past = absurd (omega arith)
none_past (x ∷ xs) (suc k) past = none_past xs k (omega arith)

pub port_there : (cells : Cells) (ports : List ℕ) (number : ℕ) → ports ≡ map (far_port_by cells) (range_with_len 0 (256 * length (switches cells)))
    → slice_index_or ports number 0 ≡ far_port_by cells number
port_there cells ports number are =
    let count = 256 * length (switches cells) in
    let same = ap (λ (xs : List ℕ). slice_index_or xs number 0) are in
    elim (cases_lt number count) [
      | inl less ↦ same ∙ at_range (far_port_by cells) count 0 number less ∙ ap (far_port_by cells) (omega arith)
      | inr past ↦
          let none : slice_get (switches cells) (number / 256) ≡ None = none_past (switches cells) (number / 256) (omega arith) in
          same ∙ past_range (far_port_by cells) count 0 number past ∙ sym (ap (λ (o : Option ℕ). option_map_or (λ g. far_port cells g (number % 256)) o 0) none)
    ]

pub index_below : (guids : List ℕ) (g i : ℕ) → index_in guids g ≡ Some i → i < length guids
index_below guids g i e = (position-Some (λ x. x == g) guids i 0 e).0

-- the first switch of an end port's packets is one of the switches
pub first_below : (cells : Cells) (e : EndPort) (i : ℕ) → first_switch (sender_of cells e) ≡ Some i → i < length (switches cells)
first_below cells e i h = by_switch (index_in (switches cells) e.node) refl h
  where
    over_far : (far : Far) → switch_over far ≡ Some i → far ≡ Switch i
    over_far Nothing k = absurd (cc)
    over_far (Switch j) k = ap Switch (same_Some j i k)
    over_far (Port p) k = absurd (cc)

    by_switch : (o : Option ℕ) → index_in (switches cells) e.node ≡ o → first_by o (far_of cells e.node e.port) ≡ Some i → i < length (switches cells)
    by_switch (Some j) at k = let same = same_Some j i k in let below = index_below (switches cells) e.node j at in omega arith
    by_switch None at k = far_within cells e.node e.port i (over_far (far_of cells e.node e.port) k)

-- lists that grow by an element ------------------------------------------------------

at_index : {X : Type 0} (xs : List X) (i : ℕ) (d : X) → i < length xs → slice_get xs i ≡ Some (get_or xs i d)
at_index [] i d less = absurd (omega arith)
at_index (x ∷ xs) zero d less = refl
at_index (x ∷ xs) (suc i) d less = at_index xs i d (omega arith)

taken : {X Y : Type 0} (f : X → Y) (xs : List X) (i : ℕ) (x : X) → slice_get xs i ≡ Some x → map f (take (i + 1) xs) ≡ map f (take i xs) ++ f x ∷ []
taken f [] i x e = absurd (cc)
taken f (y ∷ xs) zero x e = ap (λ z. f z ∷ []) (same_Some y x e)
taken f (y ∷ xs) (suc i) x e =
    let s : suc i + 1 ≡ suc (i + 1) = omega arith in
    ap (λ n. map f (take n (y ∷ xs))) s ∙ ap (λ ys. f y ∷ ys) (taken f xs i x e)

pub item_more : {X Y : Type 0} (f : X → Y) (xs : List X) (i : ℕ) (x : X) (old new : List Y) (y : Y) → slice_get xs i ≡ Some x
    → old ≡ map f (take i xs) → new ≡ old ++ y ∷ [] → y ≡ f x → new ≡ map f (take (i + 1) xs)
item_more f xs i x old new y there so_far pushed is =
    pushed ∙ (λ k. so_far k ++ is k ∷ []) ∙ sym (taken f xs i x there)

pub list_more : {X : Type 0} (f : X → List ℕ) (xs : List X) (i : ℕ) (x : X) (old new : List (Vec ℕ Global)) (v : Vec ℕ Global) → slice_get xs i ≡ Some x
    → lists_of old ≡ map f (take i xs) → new ≡ old ++ v ∷ [] → v.items ≡ f x → lists_of new ≡ map f (take (i + 1) xs)
list_more f xs i x old new v there so_far pushed is =
    ap lists_of pushed ∙ map-append (λ (lids : Vec ℕ Global). lids.items) old (v ∷ []) ∙ (λ k. so_far k ++ is k ∷ []) ∙ sym (taken f xs i x there)

-- a sender is that of an end port
pub sender_is : (cells : Cells) (sources : List Sender) (i : ℕ) (source : Sender) → sources ≡ map (sender_of cells) (end_ports cells) → i < length sources
    → source ≡ get_or sources i source → (e : EndPort) × (slice_get (end_ports cells) i ≡ Some e) × (source ≡ sender_of cells e)
sender_is cells sources i source are less is =
    let there : slice_get sources i ≡ Some source = at_index sources i source less ∙ ap Some (sym is) in
    of (end_ports cells) i (sym (ap (λ (xs : List Sender). slice_get xs i) are) ∙ there)
  where
    of : (es : List EndPort) (k : ℕ) → slice_get (map (sender_of cells) es) k ≡ Some source
        → (e : EndPort) × (slice_get es k ≡ Some e) × (source ≡ sender_of cells e)
    of [] k q = absurd (cc)
    of (e ∷ es) zero q = (e, refl, sym (same_Some (sender_of cells e) source q))
    of (e ∷ es) (suc k) q = of es k q

pub sender_at : (cells : Cells) (sources : List Sender) (i : ℕ) (source : Sender) → sources ≡ map (sender_of cells) (end_ports cells) → i < length sources
    → source ≡ get_or sources i source → (e : EndPort) × (slice_get (end_ports cells) i ≡ Some e) × (source.port ≡ e)
sender_at cells sources i source are less is =
    let s = sender_is cells sources i source are less is in (s.0, s.1, ap (λ (x : Sender). x.port) s.2)
