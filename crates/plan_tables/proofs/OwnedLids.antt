-- The lines of a plan's LIDs, one for each LID: the owner of a LID has a line for it, and each line has the owner of
-- its LID.
use Rattle.std.proofs.Common.{◌≡◌, ℕ, ◌+◌, ◌-◌, ◌<◌, ◌≤◌, ◌^◌, Some, sym, ap, ◌∙◌, subst, arith}
use Rattle.std.specs.Prelude.{Contains, option_map}
use Rattle.std.specs.List.{filter_map}
use Rattle.std.proofs.lemmas.Nat.{pow_pos}
use Rattle.std.proofs.lemmas.Option.{same_Some}
use Rattle.fact_store.specs.View.{Facts, cells_of}
use Rattle.subnet_view.specs.declared.end_port.EndPort.{EndPort}
use Rattle.subnet_view.proofs.Taken.{is_taken, taken_from}
use Rattle.lft_blocks.specs.Lids.{Given, IsNoRoom, lids, lmc_of, owner_of, rising_lids}
use Rattle.lft_blocks.proofs.HandOut.{PairsApart}
use Rattle.lft_blocks.proofs.LidLaws.{handed, pairs}
use Rattle.lft_blocks.proofs.Owners.{given-from_owner, owner-from_given}
use Rattle.lft_blocks.proofs.RisingLids.{rising_lids_law}
use Rattle.held_tables.specs.declared.held.HeldLid.{HeldLid}
use Rattle.held_tables.specs.Held.{LidRange, lid_at, lids_of}
use Rattle.plan_tables.specs.PlanTables.{owned_lids, owned_range, range_from}
use Rattle.held_tables.proofs.Lists.{in_lists, from_lists, in_counted, from_counted}

module _ (lmc : ℕ) (facts : Facts) (has_room : ¬ (IsNoRoom lmc (cells_of facts))) where
  abbrev given : Given
  given = lids lmc (cells_of facts)

  apart : PairsApart lmc given.ports
  apart = pairs lmc (cells_of facts) given.ports (handed lmc (cells_of facts) has_room)

  -- the owner of an end port's number, by that port's LID
  pub owner_at : (e : EndPort) (first n : ℕ) → Contains given.ports (e, first) → first ≤ n → n < first + 2 ^ lmc_of given e → owner_of given n ≡ Some e
  owner_at e first n there low high = owner-from_given given apart e first n there (low, high)

  -- what the line of an end port tells, by its LID
  range_told : (first : ℕ) (e : EndPort) (r : LidRange) → Contains given.ports (e, first) → owned_range given first ≡ Some r → range_from given first e ≡ r
  range_told first e r there h =
      same_Some (range_from given first e) r
      (sym (ap (option_map (range_from given first)) (owner_at e first first there (omega arith) (omega (arith, pow_pos (lmc_of given e))))) ∙ h)

  pub line_owned : (line : HeldLid) → Contains (owned_lids given) line → owner_of given line.lid ≡ Some line.port
  line_owned line h =
      let (r, listed, of) = from_lists lids_of (filter_map (owned_range given) (rising_lids given)) line h in
      let (first, rising, told) = taken_from (owned_range given) (rising_lids given) r listed in
      let (e, there) = ((rising_lids_law given).0 first).0 rising in
      let is = range_told first e r there told in
      let (k, less, at) = from_counted (lid_at r.first) (2 ^ r.lmc) line of in
      let number : first + k ≡ line.lid = ap (λ (x : LidRange). x.first.lid + k) is ∙ ap (λ (x : HeldLid). x.lid) at in
      let port : e ≡ line.port = ap (λ (x : LidRange). x.first.port) is ∙ ap (λ (x : HeldLid). x.port) at in
      let within : k < 2 ^ lmc_of given e = subst (λ (x : LidRange). k < 2 ^ x.lmc) (sym is) less in
      ap (owner_of given) (sym number) ∙ owner_at e first (first + k) there (omega arith) (omega arith) ∙ ap (λ x. Some x) port

  pub owner_listed : (e : EndPort) (n : ℕ) → owner_of given n ≡ Some e → Contains (owned_lids given) (record { lid = n; port = e })
  owner_listed e n owned =
      let (first, there, (low, high)) = given-from_owner given e n owned in
      let r = range_from given first e in
      let rising = ((rising_lids_law given).0 first).1 (e, there) in
      let own = owner_at e first first there (omega arith) (omega (arith, pow_pos (lmc_of given e))) in
      let listed = is_taken (owned_range given) (rising_lids given) first r rising (ap (option_map (range_from given first)) own) in
      let step : n - first < 2 ^ lmc_of given e = omega (arith, low, high) in
      let number : first + (n - first) ≡ n = omega (arith, low) in
      in_lists lids_of (filter_map (owned_range given) (rising_lids given)) r (record { lid = n; port = e }) listed
      (subst (λ (m : ℕ). Contains (lids_of r) (record { lid = m; port = e })) number (in_counted (lid_at r.first) (2 ^ r.lmc) (n - first) step))
