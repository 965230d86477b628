-- When the number of end ports alone decides: a few fit side by side, and as many as the room do not.
use Rattle.std.proofs.Common.{◌≡◌, ◌<◌, ◌≤◌, ◌+◌, ◌-◌, ◌*◌, ◌/◌, ◌%◌, ◌^◌, ◌==◌, ℕ, suc, List, [], ◌∷◌, ◌⊎◌, inl, inr, refl, sym, ap, ◌∙◌, arith, true, false, cond, not, map, length}
use Rattle.std.proofs.lemmas.Bool.{both_ways, cases_Bool, cases_lt}
use Rattle.std.proofs.lemmas.List.{length-map}
use Rattle.std.proofs.lemmas.Nat.{pow_pos, div-mul-add, mod-mul-add}
use Rattle.std.proofs.Math.Nat.{mul-le-mul_left, mul_comm}
use Rattle.std.specs.Prelude.{Contains, Option, None, Some, is_some, option_map, option_and_then}
use Rattle.subnet_view.specs.declared.end_port.EndPort.{EndPort}
use Rattle.subnet_view.specs.Reading.{Cells}
use Rattle.subnet_view.specs.EndPort.{end_ports}
use Rattle.subnet_view.proofs.Apart.{Apart, contains_map, contains-from_map}
use Rattle.subnet_view.proofs.Members.{contains_cases, contains_as}
use Rattle.lid_assign.specs.Ranges.{width_of, Range, range_at, meets, IsIn, Fits}
use Rattle.lid_assign.specs.Lids.{least_open, hand_out, handed_out, lids, is_no_room, IsNoRoom}
use Rattle.lid_assign.specs.LidLaws.{NoRoomAtLmc0}
use Rattle.lid_assign.specs.Lids.{count_up}
use Rattle.lid_assign.specs.Claims.{room, kept}
use Rattle.lid_assign.proofs.Ranges.{some_width, meets_at, common_number, multiples_apart}
use Rattle.lid_assign.proofs.Rising.{apart-from_rising, rising-count_up, within-count_up, contains-count_up, length-count_up, no_more_than}
use Rattle.lid_assign.proofs.KeptClaims.{Ports, kept_fits, ports-with_kept}
use Rattle.lid_assign.proofs.HandOut.{GivenLids, numbers_of, so_many, least_open_is, none_is_open, PairsApart}
use Rattle.lid_assign.proofs.LidLaws.{ranges_of, among_ranges, handed, ports-given, each_fits, pairs}

-- how many end ports keep no claim
others : Ports → ℕ
others [] = 0
others ((e, Some c) ∷ ports) = others ports
others ((e, None) ∷ ports) = suc (others ports)

keepers_and_others : (lmc : ℕ) (ports : Ports) → length (ranges_of lmc ports) + others ports ≡ length ports
unfolding others
keepers_and_others lmc [] = refl
keepers_and_others lmc ((e, Some c) ∷ ports) = omega (arith, keepers_and_others lmc ports)
keepers_and_others lmc ((e, None) ∷ ports) = omega (arith, keepers_and_others lmc ports)

-- blocks ---------------------------------------------------------------------------------

-- a range that fits an end port
record IsOwn (room lmc : ℕ) (r : Range) : Type 0 where
  of : EndPort
  lid : ℕ
  is_its : r ≡ range_at lmc of lid
  it_fits : Fits room (range_at lmc of lid)

-- an end port has one LID, or as many as a block
one_or_block : (lmc : ℕ) (e : EndPort) → (width_of lmc e ≡ 1) ⊎ (width_of lmc e ≡ 2 ^ lmc)
one_or_block lmc e = elim (e.port == 0) as (λ t. (2 ^ cond t 0 lmc ≡ 1) ⊎ (2 ^ cond t 0 lmc ≡ 2 ^ lmc)) [ true ↦ inl refl | false ↦ inr refl ]

module _ (lmc : ℕ) where
  some : 1 ≤ 2 ^ lmc
  some = omega (arith, pow_pos lmc)

  -- the block that begins there is the one
  block_of : (q n k : ℕ) → q * 2 ^ lmc ≤ n → n < q * 2 ^ lmc + 2 ^ lmc → n / 2 ^ lmc ≡ q
  block_of q n k l h =
      let b : ℕ = n - q * 2 ^ lmc in
      let is : n ≡ q * 2 ^ lmc + (n - q * 2 ^ lmc) = omega arith in
      ap (λ m. m / 2 ^ lmc) is ∙ div-mul-add q (2 ^ lmc) (n - q * 2 ^ lmc) (omega arith)

  begins_at : (q : ℕ) → (q * 2 ^ lmc) % 2 ^ lmc ≡ 0
  begins_at q =
      let is : q * 2 ^ lmc ≡ q * 2 ^ lmc + 0 = omega arith in
      ap (λ m. m % 2 ^ lmc) is ∙ mod-mul-add q (2 ^ lmc) 0 (omega (arith, pow_pos lmc))

  -- a range of an end port that has a number of a block begins there
  begins_in : (room : ℕ) (e : EndPort) (n q k : ℕ) → Fits room (range_at lmc e n) → IsIn (range_at lmc e n) k → q * 2 ^ lmc ≤ k → k < q * 2 ^ lmc + 2 ^ lmc
      → n / 2 ^ lmc ≡ q
  begins_in room e n q k f i l h =
      elim (one_or_block lmc e) [
        | inl w ↦ let same : n ≡ k = omega (arith, i.0, i.1, w) in ap (λ m. m / 2 ^ lmc) same ∙ block_of q k k l h
        | inr w ↦
            let whole : n % 2 ^ lmc ≡ 0 = ap (λ v. n % v) (sym w) ∙ f.aligned in
            elim (cases_lt n (q * 2 ^ lmc)) [
              | inl m ↦ absurd (omega (arith, multiples_apart (2 ^ lmc) n (q * 2 ^ lmc) (omega (arith, pow_pos lmc)) whole (begins_at q) m, i.1, w))
              | inr m ↦ (elim (cases_lt (q * 2 ^ lmc) n) [
                | inl p ↦ absurd (omega (arith, multiples_apart (2 ^ lmc) (q * 2 ^ lmc) n (omega (arith, pow_pos lmc)) (begins_at q) whole p, i.0))
                | inr p ↦ block_of q n k m (omega (arith, pow_pos lmc))
              ])
            ]
      ]

-- where one finds none ----------------------------------------------------------------------

module _ (room lmc : ℕ) where
  -- an end port that finds none, after fewer than all that came before
  record IsStuck (most : ℕ) : Type 0 where
    port : EndPort
    taken : List Range
    finds_none : least_open room taken (width_of lmc port) ≡ None
    few : length taken < most
    own : (r : Range) → Contains taken r → IsOwn room lmc r

  no_rest : (x : EndPort × ℕ) (o : Option GivenLids) → option_map (λ given. x ∷ given) o ≡ None → o ≡ None
  no_rest x None e = refl
  no_rest x (Some given) e = absurd (cc)

  stuck : (taken : List Range) (ports : Ports) → ((r : Range) → Contains taken r → IsOwn room lmc r) → hand_out room lmc taken ports ≡ None
      → IsStuck (length taken + others ports)
  unfolding others
  stuck taken [] own e = absurd (cc)
  stuck taken ((x, Some c) ∷ ports) own e = stuck taken ports own (no_rest (x, c) (hand_out room lmc taken ports) e)
  stuck taken ((x, None) ∷ ports) own e =
      elim (least_open room taken (width_of lmc x)) as (λ o. least_open room taken (width_of lmc x) ≡ o →
      option_and_then (λ c. option_map (λ given. (x, c) ∷ given) (hand_out room lmc (range_at lmc x c ∷ taken) ports)) o ≡ None
      → IsStuck (length taken + suc (others ports))) [
        | None ↦ λ q k. record { port = x; taken = taken; finds_none = q; few = omega arith; own = own }
        | Some c ↦ λ q k.
            let least = least_open_is room taken (width_of lmc x) (some_width lmc x) c q in
            let s = stuck (range_at lmc x c ∷ taken) ports (λ r h. (elim (contains_cases (range_at lmc x c) r taken h) [
              | inl i ↦ record { of = x; lid = c; is_its = sym i; it_fits = least.it_fits }
              | inr m ↦ own r m
            ])) (no_rest (x, c) (hand_out room lmc (range_at lmc x c ∷ taken) ports) k) in
            record { port = s.port; taken = s.taken; finds_none = s.finds_none; few = omega (arith, s.few); own = s.own }
      ] refl e

  -- each whole block below the room has a range that is taken
  block_met : (most q : ℕ) (s : IsStuck most) → 1 ≤ q → q * 2 ^ lmc + 2 ^ lmc ≤ room → Contains (map (λ r. r.first / 2 ^ lmc) s.taken) q
  block_met most q s low high =
      let w = width_of lmc s.port in
      let least : w ≤ 2 ^ lmc = elim (one_or_block lmc s.port) [ inl e ↦ omega (arith, e, pow_pos lmc) | inr e ↦ omega (arith, e) ] in
      let aligned : (q * 2 ^ lmc) % w ≡ 0 = elim (one_or_block lmc s.port) [
        | inl e ↦ ap (λ v. (q * 2 ^ lmc) % v) e ∙ mod_1 (q * 2 ^ lmc)
        | inr e ↦ ap (λ v. (q * 2 ^ lmc) % v) e ∙ begins_at lmc q
      ] in
      let start : 2 ^ lmc ≤ q * 2 ^ lmc = omega (arith, mul-le-mul_left {m = 1} {n = q} (2 ^ lmc) low) in
      let fit : Fits room (so_many w (q * 2 ^ lmc)) =
      record { not_0 = omega (arith, pow_pos lmc, start); aligned = aligned; in_room = omega (arith, least, high) } in
      let b = none_is_open room s.taken w (some_width lmc s.port) s.finds_none (q * 2 ^ lmc) fit in
      let o = s.own b.0 b.1 in
      let k = common_number (so_many w (q * 2 ^ lmc)) (range_at lmc o.of o.lid) (some_width lmc s.port) (some_width lmc o.of)
      (ap (meets (so_many w (q * 2 ^ lmc))) (sym o.is_its) ∙ b.2) in
      let at = begins_in lmc room o.of o.lid q k.0 o.it_fits k.1.1 k.1.0.0 (omega (arith, k.1.0.1, least)) in
      contains_as (map (λ r. r.first / 2 ^ lmc) s.taken) (ap (λ (r : Range). r.first / 2 ^ lmc) o.is_its
      ∙ at) (contains_map (λ (r : Range). r.first / 2 ^ lmc) s.taken b.0 b.1)
    where
      mod_1 : (n : ℕ) → n % 1 ≡ 0
      mod_1 n = omega arith

module _ (lmc : ℕ) (cells : Cells) where
  count-end_ports : length (kept lmc cells) ≡ length (end_ports cells)
  count-end_ports = sym (length-map (kept lmc cells) (λ x. x.0)) ∙ ap length (ports-with_kept lmc cells [] (end_ports cells))

  is_stuck : IsNoRoom lmc cells → IsStuck (room cells) lmc (length (end_ports cells))
  is_stuck none =
      let e : handed_out lmc cells ≡ None = nothing (handed_out lmc cells) none in
      let s = stuck (room cells) lmc (ranges_of lmc (kept lmc cells)) (kept lmc cells) (λ r h.
      let x = among_ranges lmc (kept lmc cells) r h in record { of = x.0; lid = x.1; is_its = x.3; it_fits = kept_fits lmc cells x.0 x.1 x.2 }) e in
      record {
        port = s.port;
        taken = s.taken;
        finds_none = s.finds_none;
        few =
            omega (arith, s.few, keepers_and_others lmc (kept lmc cells), count-end_ports);
        own = s.own;
      }
    where
      nothing : (o : Option GivenLids) → not (is_some o) ≡ true → o ≡ None
      nothing None h = refl
      nothing (Some given) h = absurd (cc)

  -- there are end ports where there is no room
  pub some_end_ports : IsNoRoom lmc cells → 0 < length (end_ports cells)
  some_end_ports none = omega (arith, (is_stuck none).few)

  -- as many blocks as end ports, and one more, are enough
  pub few_have_room : (length (end_ports cells) + 1) * 2 ^ lmc ≤ room cells → ¬ (IsNoRoom lmc cells)
  few_have_room h none =
      let s = is_stuck none in
      let n = length (end_ports cells) in
      let firsts = map (λ r. r.first / 2 ^ lmc) s.taken in
      let many = no_more_than (count_up 1 n) firsts (apart-from_rising (count_up 1 n) (rising-count_up 1 n)) (λ q k.
      let w = within-count_up 1 n q k in block_met (room cells) lmc n q s w.0 (enough q w.1)) in
      omega (arith, many, length-count_up 1 n, length-map s.taken (λ (r : Range). r.first / 2 ^ lmc), s.few)
    where
      enough : (q : ℕ) → q < 1 + length (end_ports cells) → q * 2 ^ lmc + 2 ^ lmc ≤ room cells
      enough q l =
          let rows = mul-le-mul_left {m = q + 1} {n = length (end_ports cells) + 1} (2 ^ lmc) (omega arith) in
          omega (arith, rows, h, mul_comm (q + 1) (2 ^ lmc), mul_comm (length (end_ports cells) + 1) (2 ^ lmc))

  -- as many end ports as the room, and one at least, are too many
  pub many_have_none : 0 < length (end_ports cells) → room cells ≤ length (end_ports cells) → IsNoRoom lmc cells
  many_have_none some many =
      elim (cases_Bool (is_no_room lmc cells)) [
        | inl t ↦ t
        | inr f ↦
            let room_for_all = λ (t : IsNoRoom lmc cells). both_ways (is_no_room lmc cells) f t in
            let given = (lids lmc cells).ports in
            let hands = handed lmc cells room_for_all in
            let lid_list = map (λ (x : EndPort × ℕ). x.1) given in
            let fewer = no_more_than lid_list (count_up 1 (room cells - 1)) (lids_apart given (pairs lmc cells given hands)) (λ n h.
            let x = contains-from_map (λ (x : EndPort × ℕ). x.1) given n h in
            let f = each_fits lmc cells given hands x.0.0 x.0.1 x.1 in
            contains-count_up 1 (room cells - 1) n (omega (arith, f.not_0, x.2)) (omega (arith, f.not_0, f.in_room, x.2, some_width lmc x.0.0))) in
            absurd (omega (
              arith,
              fewer,
              length-count_up 1 (room cells - 1),
              length-map given (λ (x : EndPort × ℕ). x.1),
              length-map given (λ (x : EndPort × ℕ). x.0),
              ap length (ports-given lmc cells given hands),
              some,
              many,
            ))
      ]
    where
      lids_apart : (given : GivenLids) → PairsApart lmc given → Apart (map (λ x. x.1) given)
      lids_apart [] p = tt
      lids_apart (x ∷ given) p = (
        λ h.
            let y = contains-from_map (λ (z : EndPort × ℕ). z.1) given x.1 h in
            both_ways _ (p.0 y.0 y.1) (meets_at (numbers_of lmc x) (numbers_of lmc y.0) x.1 (omega arith, omega (arith, some_width lmc x.0))
            (omega (arith, y.2), omega (arith, y.2, some_width lmc y.0.0))),
        lids_apart given p.1,
      )

pub no_room_at_lmc_0 : NoRoomAtLmc0
no_room_at_lmc_0 cells = (
  λ none. (
    some_end_ports 0 cells none,
    elim (cases_lt (length (end_ports cells)) (room cells)) [
      | inl l ↦ absurd (few_have_room 0 cells (omega arith) none)
      | inr m ↦ m
    ],
  ),
  λ h. many_have_none 0 cells h.0 h.1,
)
