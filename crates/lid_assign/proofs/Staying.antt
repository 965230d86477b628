-- End ports that claim the LIDs that they had keep them.
use Rattle.std.proofs.Common.{◌≡◌, ◌<◌, ℕ, List, [], ◌⊎◌, inl, inr, refl, sym, ap, ◌∙◌, subst, arith, ◌∷◌, true, false, not}
use Rattle.std.proofs.lemmas.Bool.{both_ways}
use Rattle.std.proofs.lemmas.List.Elements.{Contains-append_left}
use Rattle.std.specs.Prelude.{Contains, None, Some, is_some, unwrap_or}
use Rattle.std.specs.List.{filter_map}
use Rattle.reply_facts.specs.declared.key.Key.{Key}
use Rattle.fact_store.specs.View.{Facts, cell_for, cells_of}
use Rattle.subnet_view.specs.declared.end_port.EndPort.{EndPort}
use Rattle.reply_facts.specs.Known.{claim_of}
use Rattle.subnet_view.specs.EndPort.{end_ports}
use Rattle.subnet_view.proofs.Apart.{Apart, contains_at, contains_map, contains-from_map, before_apart, split_at}
use Rattle.subnet_view.proofs.BesideClaims.{is_claim, cap_same, switches_same, end_ports_same}
use Rattle.subnet_view.proofs.EndPorts.{end_ports_apart}
use Rattle.subnet_view.proofs.Members.{contains_as, contains_in}
use Rattle.lid_assign.specs.Ranges.{range_at, Fits}
use Rattle.lid_assign.specs.Lids.{IsNoRoom, handed_out, lids, lid_of, top_of}
use Rattle.lid_assign.specs.LidLaws.{ClaimsFitting, Keeps, AreLids}
use Rattle.lid_assign.specs.Claims.{least_room, room}
use Rattle.lid_assign.specs.Stability.{DifferInClaims, LidsSettle, LidsStay}
use Rattle.lid_assign.proofs.LidLaws.{ports-lids, ports_apart, lids_law}
use Rattle.lid_assign.proofs.Owners.{given-from_lid, lid-from_given}
use Rattle.lid_assign.proofs.Ranges.{some_width}
use Rattle.lid_assign.proofs.Tops.{last_at_most, top_below}
use Rattle.lid_assign.proofs.Uniqueness.{unique_lids}

module _ (lmc : ℕ) (x : Facts) (room_for_all : ¬ (IsNoRoom lmc (cells_of x))) where
  lid_is : (e : EndPort) (lid : ℕ) → Contains (lids lmc (cells_of x)).ports (e, lid) → lid_of (lids lmc (cells_of x)) e ≡ Some lid
  lid_is = lid-from_given (lids lmc (cells_of x)) (ports_apart lmc x room_for_all)

  has_lid : (e : EndPort) → Contains (end_ports (cells_of x)) e → (lid : ℕ) × Contains (lids lmc (cells_of x)).ports (e, lid)
  has_lid e h =
      let g = contains-from_map (λ (g : EndPort × ℕ). g.0) (lids lmc (cells_of x)).ports e (contains_in e (sym (ports-lids lmc (cells_of x) room_for_all)) h) in
      (g.0.1, contains_as (lids lmc (cells_of x)).ports (λ l. (g.2 l, g.0.1)) g.1)

  is_end_port : (e : EndPort) (lid : ℕ) → Contains (lids lmc (cells_of x)).ports (e, lid) → Contains (end_ports (cells_of x)) e
  is_end_port e lid h =
      contains_in e (ports-lids lmc (cells_of x) room_for_all) (contains_map (λ (g : EndPort × ℕ). g.0) (lids lmc (cells_of x)).ports (e, lid) h)

-- facts z whose end ports claim the LIDs that they have in facts x, and whose other end ports claim nothing or 0
module _ (lmc : ℕ) (x z : Facts) (room_for_x : ¬ (IsNoRoom lmc (cells_of x)))
    (claimed : (e : EndPort) (lid : ℕ) → lid_of (lids lmc (cells_of x)) e ≡ Some lid → claim_of (cells_of z) e.node e.port ≡ Some lid)
    (others : (e : EndPort) → Contains (end_ports (cells_of z)) e → (Contains (end_ports (cells_of x)) e → ⊥)
    → (claim_of (cells_of z) e.node e.port ≡ None) ⊎ (claim_of (cells_of z) e.node e.port ≡ Some 0))
    (in_room : (top : ℕ) → top_of (lids lmc (cells_of x)) ≡ Some top → top < room (cells_of z)) where
  law_of_x : AreLids lmc (cells_of x) (lids lmc (cells_of x)).ports
  law_of_x = lids_law lmc x room_for_x

  fits_there : (e : EndPort) (lid : ℕ) → Contains (lids lmc (cells_of x)).ports (e, lid) → Fits (room (cells_of z)) (range_at lmc e lid)
  fits_there e lid h =
      let f = (lids_law lmc x room_for_x).each_fits e lid h in
      let w = some_width lmc e in
      let top = last_at_most lmc (lids lmc (cells_of x)).ports (e, lid) h in
      record { not_0 = f.not_0; aligned = f.aligned; in_room = omega (arith, top.2, in_room top.0 top.1) }

  -- who claims a LID that fits has it, or claims in the first what it has
  claimer : (f : EndPort) (d : ℕ) → Contains (end_ports (cells_of z)) f → ClaimsFitting lmc (cells_of z) f d → Contains (lids lmc (cells_of x)).ports (f, d)
  claimer f d there c =
      elim (lid_of (lids lmc (cells_of x)) f) as (λ o. lid_of (lids lmc (cells_of x)) f ≡ o → Contains (lids lmc (cells_of x)).ports (f, d)) [
        | Some l ↦ λ q.
            let i : Some l ≡ Some d = sym (claimed f l q) ∙ c.claimed in
            let s : l ≡ d = cc in
            contains_as (lids lmc (cells_of x)).ports (λ k. (f, s k)) (given-from_lid (lids lmc (cells_of x)) f l q)
        | None ↦ λ q. (elim (others f there (λ k. let g = has_lid lmc x room_for_x f k in let b = lid_is lmc x room_for_x f g.0 g.1 in cc)) [
          | inl none ↦ let i : None ≡ Some d = sym none ∙ c.claimed in absurd (cc)
          | inr zero ↦
              let i : Some 0 ≡ Some d = sym zero ∙ c.claimed in
              let s : 0 ≡ d = cc in
              absurd (omega (arith, s, c.claim_fits.not_0))
        ])
      ] refl

  pub keeps_lid : (e : EndPort) (lid : ℕ) → Contains (lids lmc (cells_of x)).ports (e, lid) → Keeps lmc (cells_of z) e lid
  keeps_lid e lid h earlier later stands = (
    record { claimed = claimed e lid (lid_is lmc x room_for_x e lid h); claim_fits = fits_there e lid h },
    λ f d n m c both.
        let there = contains_in f (sym stands) (Contains-append_left earlier (e ∷ later) f m) in
        let same : e ≡ f = (lids_law lmc x room_for_x).apart e f lid d n h (claimer f d there c) both in
        before_apart earlier later e (subst (λ (es : List EndPort). Apart es) stands (end_ports_apart z)) (contains_as earlier (sym same) m),
  )

  pub lid_stays : ¬ (IsNoRoom lmc (cells_of z)) → ((e : EndPort) → Contains (end_ports (cells_of x)) e → Contains (end_ports (cells_of z)) e)
      → (e : EndPort) (lid : ℕ) → lid_of (lids lmc (cells_of x)) e ≡ Some lid → lid_of (lids lmc (cells_of z)) e ≡ Some lid
  lid_stays room_for_z has e lid q =
      let h = given-from_lid (lids lmc (cells_of x)) e lid q in
      let g = has_lid lmc z room_for_z e (has e (is_end_port lmc x room_for_x e lid h)) in
      lid_is lmc z room_for_z e g.0 g.1 ∙ ap (λ n. Some n) ((lids_law lmc z room_for_z).kept_stay e g.0 lid g.1 (keeps_lid e lid h))

-- facts y with the end ports and the room of facts x, where each end port claims its LID
module _ (lmc : ℕ) (x y : Facts) (room_for_all : ¬ (IsNoRoom lmc (cells_of x)))
    (ports : end_ports (cells_of y) ≡ end_ports (cells_of x)) (rooms : room (cells_of y) ≡ room (cells_of x))
    (claimed : (e : EndPort) (lid : ℕ) → lid_of (lids lmc (cells_of x)) e ≡ Some lid → claim_of (cells_of y) e.node e.port ≡ Some lid) where
  top_in_room : (top : ℕ) → top_of (lids lmc (cells_of x)) ≡ Some top → top < room (cells_of y)
  top_in_room top q =
      omega (arith, top_below lmc (lids lmc (cells_of x)).ports (room (cells_of x)) top (λ e n h. ((lids_law lmc x room_for_all).each_fits e n h).in_room) q)

  keeps_it : (e : EndPort) (lid : ℕ) → Contains (lids lmc (cells_of x)).ports (e, lid) → Keeps lmc (cells_of y) e lid
  keeps_it = keeps_lid lmc x y room_for_all claimed (λ e h none. absurd (none (contains_in e ports h))) top_in_room

  -- what an end port keeps is what it claims
  keeps_once : (e : EndPort) (n c : ℕ) → Contains (lids lmc (cells_of x)).ports (e, n) → Keeps lmc (cells_of y) e c → n ≡ c
  keeps_once e n c h k =
      let there = contains_in e (sym ports) (is_end_port lmc x room_for_all e n h) in
      let s = split_at (end_ports (cells_of y)) e there in
      let i : Some n ≡ Some c = sym (claimed e n (lid_is lmc x room_for_all e n h)) ∙ (k s.0 s.1 s.2).0.claimed in cc

  still_lids : AreLids lmc (cells_of y) (lids lmc (cells_of x)).ports
  still_lids =
      record {
        end_ports_in_order = ports-lids lmc (cells_of x) room_for_all ∙ sym ports;
        each_fits = λ e n h. subst (λ (r : ℕ). Fits r (range_at lmc e n)) (sym rooms) ((lids_law lmc x room_for_all).each_fits e n h);
        apart = (lids_law lmc x room_for_all).apart;
        kept_stay = keeps_once;
        none_skipped = λ earlier later e n m stands nothing f l.
            absurd (nothing n (keeps_it e n (contains_in (e, n) (sym stands) (contains_at earlier later (e, n)))));
      }

  same_handed : handed_out lmc (cells_of y) ≡ Some (lids lmc (cells_of x)).ports
  same_handed = unique_lids lmc (cells_of y) (end_ports_apart y) (lids lmc (cells_of x)).ports still_lids

  pub still_room : ¬ (IsNoRoom lmc (cells_of y))
  still_room h = both_ways (not (is_some (handed_out lmc (cells_of y)))) (ap (λ o. not (is_some o)) same_handed) h

  pub lids_same : lids lmc (cells_of y) ≡ lids lmc (cells_of x)
  lids_same = λ i. record { lmc = lmc; ports = unwrap_or (same_handed i) [] }

-- facts that differ in claims alone have the same room
room_same : (x y : Facts) → ((key : Key) → is_claim key ≡ false → cell_for x key ≡ cell_for y key) → room (cells_of x) ≡ room (cells_of y)
room_same x y same = λ i. least_room (filter_map (λ g. cap_same x y same g i) (switches_same x y same i))

-- the test of claims says what the words say
pub same_but_claims : (x y : Facts) → DifferInClaims x y → (key : Key) → is_claim key ≡ false → cell_for x key ≡ cell_for y key
same_but_claims x y same key e = same key (λ g p q. let t : is_claim key ≡ true = ap is_claim q in absurd (cc))

-- once the LIDs of a view are claimed, they are given again
pub lids_settle : LidsSettle
lids_settle lmc x y room_for_all c =
    let same = same_but_claims x y c.same in
    let ports = sym (end_ports_same x y same) in
    let rooms = sym (room_same x y same) in
    (still_room lmc x y room_for_all ports rooms c.claimed, lids_same lmc x y room_for_all ports rooms c.claimed)

-- LIDs that are claimed stay, whatever end ports come
pub lids_stay : LidsStay
lids_stay lmc x z room_for_x room_for_z g = lid_stays lmc x z room_for_x g.claimed g.others g.in_room room_for_z g.has
