-- What switches do, apart from why they drop a packet: this depends only on the entry.
use Rattle.std.proofs.Common.{◌≡◌, ℕ, zero, suc, Bool, true, false, cond, List, [], ◌∷◌, refl, ap, ◌∙◌, arith}
use Rattle.std.specs.Prelude.{map, slice_index_or, ◌==◌}
use Rattle.std.proofs.lemmas.List.{get_or_past}
use Rattle.std.proofs.lemmas.List.FromFn.{length-map-range_with_len}
use Rattle.subnet_view.specs.declared.end_port.EndPort.{EndPort}
use Rattle.subnet_view.specs.Reading.{Cells}
use Rattle.packet_walks.specs.declared.cause.Cause.{Cause}
use Rattle.packet_walks.specs.declared.cause.Cause.TheVariants.{NoEntry}
use Rattle.packet_walks.specs.declared.packet_end.End.{End}
use Rattle.packet_walks.specs.declared.packet_end.End.TheVariants.{Taken, Lost}
use Rattle.held_tables.specs.declared.far_end.Far.{Far}
use Rattle.held_tables.specs.declared.far_end.Far.TheVariants.{Nothing, Switch, Port}
use Rattle.packet_walks.specs.declared.next_hop.NextHop.{NextHop}
use Rattle.packet_walks.specs.declared.next_hop.NextHop.TheVariants.{To, Ends}
use Rattle.held_tables.specs.Switches.{far_of, row_of}
use Rattle.packet_walks.specs.EndsBySwitch.{after, onward, is_to}
use Rattle.packet_walks.specs.HopsByTables.{by_entry, over}
use Rattle.next_tables.specs.Mixtures.{after_by}

abbrev pub dropped : ℕ → NextHop
dropped g = Ends (Lost g NoEntry)

abbrev pub plain : NextHop → NextHop
plain (To i) = To i
plain (Ends (Taken e)) = Ends (Taken e)
plain (Ends (Lost g cause)) = dropped g

-- of lists, and along walks
pub plain_at : (steps : List NextHop) (i : ℕ) (s : NextHop) → slice_index_or (map plain steps) i (plain s) ≡ plain (slice_index_or steps i s)
plain_at [] i s = refl
plain_at (x ∷ steps) zero s = refl
plain_at (x ∷ steps) (suc i) s = plain_at steps i s

plain_onward : (steps : List NextHop) (s : NextHop) → onward (map plain steps) (plain s) ≡ plain (onward steps s)
plain_onward steps (To i) = plain_at steps i (To i)
plain_onward steps (Ends (Taken e)) = refl
plain_onward steps (Ends (Lost g cause)) = refl

pub plain_after : (n : ℕ) (steps : List NextHop) (s : NextHop) → after n (map plain steps) (plain s) ≡ plain (after n steps s)
plain_after zero steps s = refl
plain_after (suc n) steps s = ap (after n (map plain steps)) (plain_onward steps s) ∙ plain_after n steps (onward steps s)

pub plain_after_by : (n : ℕ) (steps : ℕ → List NextHop) (s : NextHop) → after_by n (λ k. map plain (steps k)) (plain s) ≡ plain (after_by n steps s)
plain_after_by zero steps s = refl
plain_after_by (suc n) steps s =
    ap (after_by n (λ k. map plain (steps (suc k)))) (plain_onward (steps 0) s) ∙ plain_after_by n (λ k. steps (suc k)) (onward (steps 0) s)

-- what they come to
pub plain_taken : (s : NextHop) (port : EndPort) → plain s ≡ Ends (Taken port) → s ≡ Ends (Taken port)
plain_taken (To i) port h = absurd (cc)
plain_taken (Ends (Taken e)) port h = h
plain_taken (Ends (Lost g cause)) port h = absurd (cc)

pub plain_ended : (s : NextHop) (e : End) → plain s ≡ Ends e → (x : End) × (s ≡ Ends x)
plain_ended (To i) e h = absurd (cc)
plain_ended (Ends x) e h = (x, refl)

pub plain_end : (s : NextHop) (e : End) → s ≡ Ends e → (x : End) × (plain s ≡ Ends x)
plain_end (To i) e h = absurd (cc)
plain_end (Ends (Taken x)) e h = (Taken x, refl)
plain_end (Ends (Lost g cause)) e h = (Lost g NoEntry, refl)

pub plain_lost : (s : NextHop) (g : ℕ) (cause : Cause) → s ≡ Ends (Lost g cause) → plain s ≡ dropped g
plain_lost s g cause h = ap plain h

pub plain_is_to : (s : NextHop) → is_to (plain s) ≡ is_to s
plain_is_to (To i) = refl
plain_is_to (Ends (Taken e)) = refl
plain_is_to (Ends (Lost g cause)) = refl

pub plain_cond : (b : Bool) (x y : NextHop) → plain (cond b x y) ≡ cond b (plain x) (plain y)
plain_cond true x y = refl
plain_cond false x y = refl

-- whatever the cause
plain_over : (owners : List EndPort) (g : ℕ) (cause other : Cause) (far : Far) → plain (over owners g cause far) ≡ plain (over owners g other far)
plain_over owners g cause other Nothing = refl
plain_over owners g cause other (Switch index) = refl
plain_over owners g cause other (Port e) = refl

pub plain_by_entry : (owners : List EndPort) (g : ℕ) (cause other : Cause) (row : List Far) (entry : ℕ)
    → plain (by_entry owners g cause row entry) ≡ plain (by_entry owners g other row entry)
plain_by_entry owners g cause other row entry =
    elim (entry == 0) as (λ t. plain (cond t (Ends (Taken (record { node = g; port = 0 }))) (over owners g cause (slice_index_or row entry Nothing)))
    ≡ plain (cond t (Ends (Taken (record { node = g; port = 0 }))) (over owners g other (slice_index_or row entry Nothing)))) [
      | true ↦ refl
      | false ↦ plain_over owners g cause other (slice_index_or row entry Nothing)
    ]

-- 255 is no port
pub plain_none : (owners : List EndPort) (cells : Cells) (g : ℕ) (cause : Cause) → plain (by_entry owners g cause (row_of cells g) 255) ≡ dropped g
plain_none owners cells g cause =
    ap (λ far. plain (over owners g cause far)) (get_or_past (row_of cells g) 255 Nothing (omega (arith, length-map-range_with_len (far_of cells g) 0 255)))
