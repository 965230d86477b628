-- The room for LIDs, and the LIDs in it: no table of a usable switch is less, and the LIDs of a plan fit.
use Rattle.std.proofs.Common.{◌≡◌, ◌<◌, ◌≤◌, ◌+◌, ℕ, inl, inr, Bool, true, false, cond, List, [], ◌∷◌, refl, sym, ap, ◌∙◌, subst, arith}
use Rattle.std.proofs.lemmas.Bool.{and_from, eq-eqb, le-leb, or_right}
use Rattle.std.proofs.lemmas.Option.{same_Some}
use Rattle.std.specs.Prelude.{Contains, Option, Some, None, ◌==◌, option_map}
use Rattle.std.specs.List.{filter_map}
use Rattle.smp_bytes.specs.LidRange.{lid_end, may_have}
use Rattle.fact_store.specs.View.{Facts, cells_of}
use Rattle.reply_facts.specs.Known.{cap_of}
use Rattle.subnet_view.specs.declared.end_port.EndPort.{EndPort}
use Rattle.subnet_view.specs.Reading.{Cells, switches}
use Rattle.subnet_view.proofs.Members.{contains_cases, contains_none}
use Rattle.subnet_view.proofs.Taken.{is_taken}
use Rattle.lid_assign.specs.Claims.{least_room, room}
use Rattle.lid_assign.specs.Lids.{IsNoRoom, lid_of, lids, lmc_of, range_of, top_of}
use Rattle.lid_assign.specs.Ranges.{Fits, range_at, width_of}
use Rattle.lid_assign.proofs.FreeLids.{room_at_most}
use Rattle.lid_assign.proofs.LidLaws.{lids_law}
use Rattle.lid_assign.proofs.Owners.{given-from_lid}
use Rattle.lid_assign.proofs.Tops.{top_below}

-- the least of some sizes is no more than any of them
pub room_of_each : (caps : List ℕ) (cap : ℕ) → Contains caps cap → least_room caps ≤ cap
room_of_each [] cap there = absurd (contains_none cap there)
room_of_each (first ∷ caps) cap there =
    elim (contains_cases first cap caps there) [ inl same ↦ omega (arith, same) | inr later ↦ omega (arith, room_of_each caps cap later) ]

pub room_in_table : (cells : Cells) (guid cap : ℕ) → Contains (switches cells) guid → cap_of cells guid ≡ Some cap → room cells ≤ cap
room_in_table cells guid cap there known =
    room_of_each (filter_map (cap_of cells) (switches cells)) cap (is_taken (cap_of cells) (switches cells) guid cap there known)

module _ (lmc : ℕ) (facts : Facts) (has_room : ¬ (IsNoRoom lmc (cells_of facts))) where
  -- the greatest LID is in the room
  pub top_in_room : (top : ℕ) → top_of (lids lmc (cells_of facts)) ≡ Some top → top < room (cells_of facts)
  top_in_room top e =
      top_below lmc (lids lmc (cells_of facts)).ports (room (cells_of facts)) top (λ x n there. ((lids_law lmc facts has_room).each_fits x n there).in_room) e

  -- a LID that was given, with its LMC
  pub record IsGivenRange (e : EndPort) (range : ℕ × ℕ) : Type 0 where
    pub lmc_is : range.1 ≡ lmc_of (lids lmc (cells_of facts)) e
    pub fits : Fits (room (cells_of facts)) (range_at lmc e range.0)

  given_range : (e : EndPort) (range : ℕ × ℕ) → range_of (lids lmc (cells_of facts)) e ≡ Some range → IsGivenRange e range
  given_range e range has = by_lid (lid_of (lids lmc (cells_of facts)) e) refl has
    where
      by_lid : (m : Option ℕ) → lid_of (lids lmc (cells_of facts)) e ≡ m → option_map (λ n. (n, lmc_of (lids lmc (cells_of facts)) e)) m ≡ Some range
          → IsGivenRange e range
      by_lid None is h = absurd (cc)
      by_lid (Some lid) is h =
          subst (IsGivenRange e) (same_Some _ range h)
          (record {
            lmc_is = refl;
            fits = (lids_law lmc facts has_room).each_fits e lid (given-from_lid (lids lmc (cells_of facts)) e lid is);
          })

  -- an end port may have it, and a switch has one LID
  pub may_have_range : (e : EndPort) (range : ℕ × ℕ) → range_of (lids lmc (cells_of facts)) e ≡ Some range → may_have range.0 range.1 ≡ true
  may_have_range e range has =
      let given = given_range e range has in
      let most = room_at_most (cells_of facts) in
      let in_room = given.fits.in_room in
      subst (λ l. may_have range.0 l ≡ true) (sym given.lmc_is)
      (or_right (range.0 == 0) _
      (and_from _ _ (eq-eqb _ 0 given.fits.aligned) (le-leb (range.0 + width_of lmc e) lid_end (omega (arith, in_room, most)))))

  pub one_at_zero : (e : EndPort) (range : ℕ × ℕ) → range_of (lids lmc (cells_of facts)) e ≡ Some range → e.port ≡ 0 → range.1 ≡ 0
  one_at_zero e range has zero = (given_range e range has).lmc_is ∙ ap (λ b. cond b 0 lmc) (eq-eqb e.port 0 zero)

  pub few_lids : lmc < 8 → (e : EndPort) (range : ℕ × ℕ) → range_of (lids lmc (cells_of facts)) e ≡ Some range → range.1 ≤ 7
  few_lids few e range has = subst (λ n. n ≤ 7) (sym (given_range e range has).lmc_is) (by_zero (e.port == 0))
    where
      by_zero : (b : Bool) → cond b 0 lmc ≤ 7
      by_zero true = omega arith
      by_zero false = omega (arith, few)
