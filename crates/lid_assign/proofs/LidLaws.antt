-- The LIDs of facts with room are as `AreLids` says.
use Rattle.std.proofs.Common.{◌≡◌, ◌<◌, ◌≤◌, ◌+◌, ℕ, List, [], ◌∷◌, ◌++◌, ◌⊎◌, inl, inr, refl, sym, ap, ◌∙◌, subst, true, not, map}
use Rattle.std.proofs.lemmas.List.Elements.{Contains-append_left}
use Rattle.std.specs.Prelude.{Contains, None, Some, is_some, unwrap_or, option_map}
use Rattle.std.specs.List.{filter_map}
use Rattle.subnet_view.specs.declared.end_port.EndPort.{EndPort}
use Rattle.fact_store.specs.View.{Facts, cells_of}
use Rattle.subnet_view.specs.Reading.{Cells}
use Rattle.subnet_view.specs.EndPort.{end_ports}
use Rattle.subnet_view.proofs.Apart.{Apart}
use Rattle.subnet_view.proofs.EndPorts.{end_ports_apart}
use Rattle.subnet_view.proofs.Members.{contains_in}
use Rattle.subnet_view.proofs.Taken.{taken_from, is_taken}
use Rattle.lid_assign.specs.Ranges.{width_of, Range, range_at, IsIn, Fits}
use Rattle.lid_assign.specs.Lids.{handed_out, lids, IsNoRoom}
use Rattle.lid_assign.specs.LidLaws.{Keeps, KeepsNothing, WasTaken, AreLids, LidsLaw}
use Rattle.lid_assign.specs.Claims.{room, kept, kept_range}
use Rattle.lid_assign.proofs.Ranges.{some_width, meets_at, common_number}
use Rattle.lid_assign.proofs.KeptClaims.{Ports, kept_apart, kept_fits, kept_from_keeps, keeps_from_kept, ports-with_kept}
use Rattle.lid_assign.proofs.HandOut.{GivenLids, numbers_of, IsOther, Hands, hands_from, hands_ports, given_from, kept_given, PairsApart, given_apart, same_from_pairs, lesser_met}

-- ranges of claims that are kept ---------------------------------------------------------

-- the ranges that these end ports keep
abbrev pub ranges_of : ℕ → Ports → List Range
ranges_of lmc ports = filter_map (kept_range lmc) ports

module _ (lmc : ℕ) (ports : Ports) where
  pub range_among : (e : EndPort) (c : ℕ) → Contains ports (e, Some c) → Contains (ranges_of lmc ports) (range_at lmc e c)
  range_among e c h = is_taken (kept_range lmc) ports (e, Some c) (range_at lmc e c) h refl

  pub among_ranges : (r : Range) → Contains (ranges_of lmc ports) r → (e : EndPort) × (c : ℕ) × Contains ports (e, Some c) × (r ≡ range_at lmc e c)
  among_ranges r h =
      let x = taken_from (kept_range lmc) ports r h in
      elim x.0.1 as (λ o. Contains ports (x.0.0, o) → option_map (range_at lmc x.0.0) o ≡ Some r → (e : EndPort) × (c : ℕ) × Contains ports (e, Some c)
      × (r ≡ range_at lmc e c)) [
        | None ↦ λ k e. absurd (cc)
        | Some c ↦ λ k e. (x.0.0, c, k, one (range_at lmc x.0.0 c) r e)
      ] x.1 x.2
    where
      one : (a b : Range) → Some a ≡ Some b → b ≡ a
      one a b e = cc

-- the law --------------------------------------------------------------------------------

module _ (lmc : ℕ) (cells : Cells) where
  pub found_lids : ¬ (IsNoRoom lmc cells) → handed_out lmc cells ≡ Some (lids lmc cells).ports
  found_lids room_for_all =
      elim (handed_out lmc cells) as (λ o. (not (is_some o) ≡ true → ⊥) → o ≡ Some (unwrap_or o [])) [
        | None ↦ λ h. absurd (h refl)
        | Some given ↦ λ h. refl
      ] room_for_all

  pub handed : ¬ (IsNoRoom lmc cells) → Hands (room cells) lmc (ranges_of lmc (kept lmc cells)) (kept lmc cells) (lids lmc cells).ports
  handed room_for_all = hands_from (room cells) lmc (ranges_of lmc (kept lmc cells)) (kept lmc cells) (lids lmc cells).ports (found_lids room_for_all)

  module _ (given : GivenLids) (hands : Hands (room cells) lmc (ranges_of lmc (kept lmc cells)) (kept lmc cells) given) where
    pub ports-given : map (λ x. x.0) given ≡ end_ports cells
    ports-given = hands_ports (room cells) lmc (ranges_of lmc (kept lmc cells)) (kept lmc cells) given hands ∙ ports-with_kept lmc cells [] (end_ports cells)

    pub each_fits : (e : EndPort) (n : ℕ) → Contains given (e, n) → Fits (room cells) (range_at lmc e n)
    each_fits e n h =
        elim (given_from (room cells) lmc (ranges_of lmc (kept lmc cells)) (kept lmc cells) given hands e n h)
        [ inl k ↦ kept_fits lmc cells e n k | inr k ↦ k.it_fits ]

    pub pairs : PairsApart lmc given
    pairs = given_apart (room cells) lmc (ranges_of lmc (kept lmc cells)) (kept lmc cells) given hands (kept_apart lmc cells) (range_among lmc (kept lmc cells))

    pub apart : (e f : EndPort) (n m k : ℕ) → Contains given (e, n) → Contains given (f, m) → IsIn (range_at lmc e n) k → IsIn (range_at lmc f m) k
        → ◌≡◌ {A = EndPort × ℕ} (e, n) (f, m)
    apart e f n m k h l a b = same_from_pairs (room cells) lmc given pairs (e, n) (f, m) h l (meets_at (range_at lmc e n) (range_at lmc f m) k a b)

    pub kept_stay : (e : EndPort) (n c : ℕ) → Contains given (e, n) → Keeps lmc cells e c → n ≡ c
    kept_stay e n c h k =
        elim (given_from (room cells) lmc (ranges_of lmc (kept lmc cells)) (kept lmc cells) given hands e n h) [
          | inl l ↦ let o = kept_from_keeps lmc cells e (Some n) c l k in cc
          | inr l ↦ let o = kept_from_keeps lmc cells e None c l.is_other k in absurd (cc)
        ]

    module _ (distinct : Apart (end_ports cells)) where
      pub is_other : (e : EndPort) → KeepsNothing lmc cells e → IsOther (kept lmc cells) e
      is_other e nothing c h = nothing c (keeps_from_kept lmc cells distinct e c h)

      was_taken : (earlier later : GivenLids) (e : EndPort) (n k : ℕ) → given ≡ earlier ++ (e, n) ∷ later → (t : Range) → IsIn t k
          → Contains (ranges_of lmc (kept lmc cells)) t ⊎ ((x : EndPort × ℕ) × Contains earlier x × (t ≡ numbers_of lmc x)) → WasTaken lmc cells earlier given k
      was_taken earlier later e n k stands t there (inl h) =
          let x = among_ranges lmc (kept lmc cells) t h in
          record {
            by = x.0;
            lid = x.1;
            is_given = kept_given (room cells) lmc (ranges_of lmc (kept lmc cells)) (kept lmc cells) given hands x.0 x.1 x.2;
            is_before = inr (keeps_from_kept lmc cells distinct x.0 x.1 x.2);
            is_its = subst (λ (r : Range). IsIn r k) x.3 there;
          }
      was_taken earlier later e n k stands t there (inr x) =
          record {
            by = x.0.0;
            lid = x.0.1;
            is_given = contains_in (x.0.0, x.0.1) (sym stands) (Contains-append_left earlier ((e, n) ∷ later) (x.0.0, x.0.1) x.1);
            is_before = inl x.1;
            is_its = subst (λ (r : Range). IsIn r k) x.2 there;
          }

      some_there : (r : Range) → Contains (ranges_of lmc (kept lmc cells)) r → 1 ≤ r.width
      some_there r h = let x = among_ranges lmc (kept lmc cells) r h in subst (λ (s : Range). 1 ≤ s.width) (sym x.3) (some_width lmc x.0)

      pub none_skipped : (earlier later : GivenLids) (e : EndPort) (n m : ℕ) → given ≡ earlier ++ (e, n) ∷ later → KeepsNothing lmc cells e
          → Fits (room cells) (range_at lmc e m) → m < n → (k : ℕ) × IsIn (range_at lmc e m) k × WasTaken lmc cells earlier given k
      none_skipped earlier later e n m stands nothing f l =
          let met = lesser_met (room cells) lmc (ranges_of lmc (kept lmc cells)) (kept lmc cells) given hands earlier later e n m stands (is_other e nothing) f
          l in
          let some : 1 ≤ met.0.width = elim met.2 [
            | inl h ↦ some_there met.0 h
            | inr x ↦ subst (λ (r : Range). 1 ≤ r.width) (sym x.2) (some_width lmc x.0.0)
          ] in
          let k = common_number (range_at lmc e m) met.0 (some_width lmc e) some met.1 in
          (k.0, k.1.0, was_taken earlier later e n k.0 stands met.0 k.1.1 met.2)

      pub are_lids : AreLids lmc cells given
      are_lids =
          record {
            end_ports_in_order = ports-given;
            each_fits = each_fits;
            apart = λ e f n m k h l b. ap (λ x. x.0) (apart e f n m k h l b.0 b.1);
            kept_stay = kept_stay;
            none_skipped = none_skipped;
          }

-- what was found is below the room
pub found_in_room : (lmc : ℕ) (cells : Cells) (given : GivenLids) → Some given ≡ handed_out lmc cells → (e : EndPort) (n : ℕ) → Contains given (e, n) → n
    + width_of lmc e ≤ room cells
found_in_room lmc cells given found e n h =
    (each_fits lmc cells given (hands_from (room cells) lmc (ranges_of lmc (kept lmc cells)) (kept lmc cells) given (sym found)) e n h).in_room

-- no end port has two LIDs
pub ports_apart : (lmc : ℕ) (x : Facts) → ¬ (IsNoRoom lmc (cells_of x)) → Apart (map (λ g. g.0) (lids lmc (cells_of x)).ports)
ports_apart lmc x room_for_all =
    subst (λ (es : List EndPort). Apart es) (sym (ports-given lmc (cells_of x) (lids lmc (cells_of x)).ports (handed lmc (cells_of x) room_for_all)))
    (end_ports_apart x)

pub ports-lids : (lmc : ℕ) (cells : Cells) → ¬ (IsNoRoom lmc cells) → map (λ x. x.0) (lids lmc cells).ports ≡ end_ports cells
ports-lids lmc cells room_for_all = ports-given lmc cells (lids lmc cells).ports (handed lmc cells room_for_all)

pub lids_law : LidsLaw
lids_law lmc facts room_for_all =
    are_lids lmc (cells_of facts) (lids lmc (cells_of facts)).ports (handed lmc (cells_of facts) room_for_all) (end_ports_apart facts)
