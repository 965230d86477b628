-- After a cut: a floor above all that is held forgets it, end ports that are there keep their LIDs, and the rest is served.
use Rattle.std.proofs.Common.{◌≡◌, ◌<◌, ℕ, Bool, true, false, cond, List, [], ◌∷◌, map, refl, sym, ap, ◌∙◌, subst, arith}
use Rattle.std.proofs.lemmas.Bool.{leb-true}
use Rattle.std.proofs.lemmas.List.Elements.{Contains-append_left}
use Rattle.std.proofs.lemmas.Option.{same_Some}
use Rattle.std.specs.Prelude.{Contains, Some, is_some, max, nat_le, option_map}
use Rattle.std.specs.List.{filter_map}
use Rattle.fabric_model.specs.declared.cable.NodePort.{NodePort}
use Rattle.smp_bytes.specs.declared.node_type.NodeType.{NodeType}
use Rattle.smp_bytes.specs.declared.node_type.NodeType.TheVariants.{Switch}
use Rattle.smp_bytes.specs.NodeType.{is_switch}
use Rattle.fabric_model.specs.Fabric as fabrics
use Rattle.fabric_model.specs.Fabric.{Fabric, Node}
use Rattle.fabric_model.specs.FabricWalks.{IsJoinedTo}
use Rattle.fact_join.specs.Cell.{generation_of}
use Rattle.fact_store.specs.Floor.{entries-dropped, kept}
use Rattle.fact_store.specs.Seen.{newest_of}
use Rattle.fact_store.specs.View.{Facts, cells_of, raised}
use Rattle.fabric_sim.specs.Simulation.{fabric_of}
use Rattle.subnet_view.specs.declared.end_port.EndPort.{EndPort}
use Rattle.reply_facts.specs.Known as values
use Rattle.reply_facts.specs.Known.{cap_of, claim_of}
use Rattle.subnet_view.specs.Reading.{Cells, switches}
use Rattle.subnet_view.specs.EndPort.{IsEndPort, end_ports}
use Rattle.subnet_view.specs.FabricAgreement.{AgreesOn, IsEndPortIn, Part, TellsEndPort}
use Rattle.subnet_view.proofs.Apart.{Apart, before_apart, contains-from_map}
use Rattle.subnet_view.proofs.EndPortList.{end_ports_law}
use Rattle.subnet_view.proofs.EndPorts.{end_ports_apart}
use Rattle.subnet_view.proofs.Members.{contains_as, contains_here, contains_in, contains_later}
use Rattle.subnet_view.proofs.Taken.{is_taken, taken_from}
use Rattle.subnet_view.proofs.UsableSwitches.{switches_law}
use Rattle.lid_assign.specs.Ranges.{range_at, Fits}
use Rattle.lid_assign.specs.Lids.{Given, IsNoRoom, lids, lid_of, lmc_of, range_of, top_of}
use Rattle.lid_assign.specs.LidLaws.{ClaimsFitting, Keeps}
use Rattle.lid_assign.specs.Claims.{least_room, room}
use Rattle.lid_assign.proofs.LidLaws.{lids_law, ports-lids, ports_apart}
use Rattle.lid_assign.proofs.FreeLids.{at_most}
use Rattle.lid_assign.proofs.Owners.{lid-from_given}
use Rattle.lid_assign.proofs.Ranges.{some_width}
use Rattle.lid_assign.proofs.Tops.{last_at_most}
use Rattle.sm_manager.specs.Manager.{newest_held}
use Rattle.manager_laws.specs.Written.{at_writing}
use Rattle.manager_laws.proofs.Held as held
use Rattle.manager_laws.proofs.Planned.{known_end}
use Rattle.manager_laws.specs.OnePlan.{ClaimsAreTrue}
use Rattle.manager_laws.specs.AfterCut.{FloorsForget, IsRestOf, LidsOutlast, RaisedManagersKnowNothing, RestIsServed}
use Rattle.manager_laws.specs.Takeover.{planning_at}
use Rattle.manager_laws.proofs.takeover.Takeover.{arrives_once_written, found_agrees, found_claims}
use Rattle.manager_laws.proofs.takeover.Seeing.{inside, named_so}
use Rattle.manager_laws.proofs.own_sets.Rooms.{room_of_each, top_in_room}

-- floors -----------------------------------------------------------------------------------------------------

none_kept : (floor : ℕ) (es : Cells) → 1 < floor → newest_of (map (λ e. e.1) es) < floor → kept floor es ≡ []
none_kept floor [] more below = refl
none_kept floor (e ∷ es) more below = by_test (none_kept floor es more (omega (arith, below))) (nat_le floor (max 1 (generation_of e.1))) refl
  where
    by_test : kept floor es ≡ [] → (b : Bool) → nat_le floor (max 1 (generation_of e.1)) ≡ b → cond b (e ∷ kept floor es) (kept floor es) ≡ []
    by_test rest true t = let high = leb-true _ _ t in absurd (omega (arith, high, below, more))
    by_test rest false t = rest

pub floors_forget : FloorsForget
floors_forget facts floor more below =
    entries-dropped (max 1 (max facts.floor floor)) facts.found
    ∙ none_kept (max 1 (max facts.floor floor)) (cells_of facts) (omega (arith, more)) (omega (arith, below))

pub raised_managers_know_nothing : RaisedManagersKnowNothing
raised_managers_know_nothing w floor more below =
    let none = floors_forget w.manager.store floor more below in
    let newest : newest_held (raised w.manager.store floor) ≡ 0 = ap (λ (es : Cells). newest_of (map (λ e. e.1) es)) none in
    (none, omega (arith, newest, more))

-- LIDs -------------------------------------------------------------------------------------------------------

module _ (lmc : ℕ) (x y : Facts) (room_for_x : ¬ (IsNoRoom lmc (cells_of x))) (room_for_y : ¬ (IsNoRoom lmc (cells_of y)))
    (rest : IsRestOf lmc (cells_of x) (cells_of y)) where
  -- what each has
  given_to : (z : Facts) → ¬ (IsNoRoom lmc (cells_of z)) → (e : EndPort) → Contains (end_ports (cells_of z)) e
      → (lid : ℕ) × Contains (lids lmc (cells_of z)).ports (e, lid)
  given_to z room_for_z e h =
      let g = contains-from_map (λ (g : EndPort × ℕ). g.0) (lids lmc (cells_of z)).ports e (contains_in e (sym (ports-lids lmc (cells_of z) room_for_z)) h) in
      (g.0.1, contains_as (lids lmc (cells_of z)).ports (λ l. (g.2 l, g.0.1)) g.1)

  lid_is : (z : Facts) → ¬ (IsNoRoom lmc (cells_of z)) → (e : EndPort) (lid : ℕ) → Contains (lids lmc (cells_of z)).ports (e, lid)
      → lid_of (lids lmc (cells_of z)) e ≡ Some lid
  lid_is z room_for_z = lid-from_given (lids lmc (cells_of z)) (ports_apart lmc z room_for_z)

  fits_there : (e : EndPort) (lid : ℕ) → Contains (lids lmc (cells_of x)).ports (e, lid) → Fits (room (cells_of y)) (range_at lmc e lid)
  fits_there e lid h =
      let f = (lids_law lmc x room_for_x).each_fits e lid h in
      let w = some_width lmc e in
      let top = last_at_most lmc (lids lmc (cells_of x)).ports (e, lid) h in
      record { not_0 = f.not_0; aligned = f.aligned; in_room = omega (arith, top.2, rest.in_room top.0 top.1) }

  -- who claims a LID that fits had it
  claimer : (f : EndPort) (d : ℕ) → Contains (end_ports (cells_of y)) f → ClaimsFitting lmc (cells_of y) f d → Contains (lids lmc (cells_of x)).ports (f, d)
  claimer f d there c =
      let g = given_to x room_for_x f (rest.had f there) in
      let same : g.0 ≡ d = same_Some _ _ (sym (rest.claimed f g.0 there (lid_is x room_for_x f g.0 g.1)) ∙ c.claimed) in
      contains_as (lids lmc (cells_of x)).ports (λ k. (f, same k)) g.1

  keeps_lid : (e : EndPort) (lid : ℕ) → Contains (end_ports (cells_of y)) e → Contains (lids lmc (cells_of x)).ports (e, lid) → Keeps lmc (cells_of y) e lid
  keeps_lid e lid there h earlier later stands = (
    record { claimed = rest.claimed e lid there (lid_is x room_for_x e lid h); claim_fits = fits_there e lid h },
    λ f d n m c both.
        let among = contains_in f (sym stands) (Contains-append_left earlier (e ∷ later) f m) in
        let same : e ≡ f = (lids_law lmc x room_for_x).apart e f lid d n h (claimer f d among c) both in
        before_apart earlier later e (subst (λ (es : List EndPort). Apart es) stands (end_ports_apart y)) (contains_as earlier (sym same) m),
  )

  pub lid_outlasts : (e : EndPort) → Contains (end_ports (cells_of y)) e → lid_of (lids lmc (cells_of y)) e ≡ lid_of (lids lmc (cells_of x)) e
  lid_outlasts e there =
      let was = given_to x room_for_x e (rest.had e there) in
      let is = given_to y room_for_y e there in
      lid_is y room_for_y e is.0 is.1
      ∙ ap (λ n. Some n) ((lids_law lmc y room_for_y).kept_stay e is.0 was.0 is.1 (keeps_lid e was.0 there was.1))
      ∙ sym (lid_is x room_for_x e was.0 was.1)

pub lids_outlast : LidsOutlast
lids_outlast lmc x y room_for_x room_for_y rest = lid_outlasts lmc x y room_for_x room_for_y rest

-- room -------------------------------------------------------------------------------------------------------

room_above : (caps : List ℕ) (top : ℕ) → top < 0xC000 → ((cap : ℕ) → Contains caps cap → top < cap) → top < least_room caps
room_above [] top low each = low
room_above (c ∷ caps) top low each =
    let here = each c (contains_here c caps) in
    let rest = room_above caps top low (λ cap there. each cap (contains_later c cap caps there)) in
    omega (arith, here, rest)

-- what is there of what was told -----------------------------------------------------------------------------------

module _ (lmc : ℕ) (x y : Facts) (f : Fabric) (part : Part) (room_for_x : ¬ (IsNoRoom lmc (cells_of x))) (agrees : AgreesOn part (cells_of y) f)
    (tells : (port : NodePort) (node : Node) → IsEndPortIn part f port node → TellsEndPort (cells_of x) node port.port) where
  had : (e : EndPort) → Contains (end_ports (cells_of y)) e → Contains (end_ports (cells_of x)) e
  had e there =
      let has = agrees.end_ports_exist e.node e.port (((end_ports_law y).0 e).0 there) in
      let is = inside part f e.node e.port has in
      ((end_ports_law x).0 e).1
      (named_so part f e.node e.port has (IsEndPort (cells_of x))
      (known_end part f has.port has.named.node is (cells_of x) (tells has.port has.named.node is)))

  -- each switch that is there had the room that it has
  room_stays : (top : ℕ) → top_of (lids lmc (cells_of x)) ≡ Some top → top < room (cells_of y)
  room_stays top is_top =
      let below = top_in_room lmc x room_for_x top is_top in
      let most = at_most (filter_map (cap_of (cells_of x)) (switches (cells_of x))) in
      room_above (filter_map (cap_of (cells_of y)) (switches (cells_of y))) top (omega (arith, below, most))
      (λ cap there. let low = room_of_each (filter_map (cap_of (cells_of x)) (switches (cells_of x))) cap (cap_there cap there) in omega (arith, below, low))
    where
      cap_there : (cap : ℕ) → Contains (filter_map (cap_of (cells_of y)) (switches (cells_of y))) cap
          → Contains (filter_map (cap_of (cells_of x)) (switches (cells_of x))) cap
      cap_there cap there =
          let (g, among, cap_is) = taken_from (cap_of (cells_of y)) (switches (cells_of y)) cap there in
          let usable = ((switches_law y).0 g).0 among in
          let has = agrees.switches_exist g usable in
          let is = inside part f g 0 has in
          let node = has.named.node in
          let told = tells has.port node is in
          let tells_now = agrees.tells_end_ports has.port node is in
          let (ports, kind, some_cap) = usable in
          let kind_is : ◌≡◌ {A = NodeType × ℕ} (node.kind, node.ports) (Switch, ports) =
          same_Some _ _ (sym (ap (λ k. values.node_of (cells_of y) k) (sym has.named.guid_is) ∙ tells_now.kind) ∙ kind) in
          let switch : is_switch node.kind ≡ true = ap (λ (k : NodeType × ℕ). is_switch k.0) kind_is in
          let same_cap : node.cap ≡ cap =
          same_Some _ _ (sym (ap (cap_of (cells_of y)) (sym has.named.guid_is) ∙ tells_now.cap switch) ∙ cap_is) in
          let cap_was : cap_of (cells_of x) g ≡ Some cap =
          ap (cap_of (cells_of x)) (sym has.named.guid_is) ∙ told.cap switch ∙ ap (λ n. Some n) same_cap in
          let kind_was : values.node_of (cells_of x) g ≡ Some (Switch, node.ports) =
          ap (λ k. values.node_of (cells_of x) k) (sym has.named.guid_is) ∙ told.kind ∙ ap (λ (k : NodeType × ℕ). Some (k.0, node.ports)) kind_is in
          is_taken (cap_of (cells_of x)) (switches (cells_of x)) g cap (((switches_law x).0 g).1 (node.ports, kind_was, ap is_some cap_was)) cap_was

-- where each end port there has the LID that the first view's plan gives it, and the second view claims it
module _ (lmc : ℕ) (x y : Facts) (f : Fabric) (part : Part) (room_for_x : ¬ (IsNoRoom lmc (cells_of x))) (agrees : AgreesOn part (cells_of y) f)
    (tells : (port : NodePort) (node : Node) → IsEndPortIn part f port node → TellsEndPort (cells_of x) node port.port)
    (holds : (port : NodePort) (node : Node) → IsEndPortIn part f port node
    → range_of (lids lmc (cells_of x)) (record { node = node.guid; port = port.port }) ≡ Some (fabrics.range_at f port))
    (claims : ClaimsAreTrue part (cells_of y) f) where
  lid_in : (given : Given) (e : EndPort) (lid : ℕ) (range : ℕ × ℕ) → lid_of given e ≡ Some lid → range_of given e ≡ Some range → range.0 ≡ lid
  lid_in given e lid range is has =
      ap (λ (r : ℕ × ℕ). r.0) (same_Some _ _ (sym has ∙ ap (λ o. option_map (λ l. (l, lmc_of given e)) o) is))

  pub is_rest : IsRestOf lmc (cells_of x) (cells_of y)
  is_rest =
      record {
        had = had lmc x y f part room_for_x agrees tells;
        claimed = λ e lid there lid_is.
            let has = agrees.end_ports_exist e.node e.port (((end_ports_law y).0 e).0 there) in
            let is = inside part f e.node e.port has in
            let held_there = holds has.port has.named.node is in
            let claim = claims has.port has.named.node is in
            let named : ◌≡◌ {A = EndPort} (record { node = has.named.node.guid; port = has.port.port }) e =
            λ i. record { node = has.named.guid_is i; port = has.named.port_is i } in
            let lid_same : f.base_lid has.port ≡ lid =
            lid_in (lids lmc (cells_of x)) e lid (fabrics.range_at f has.port) lid_is
            (ap (λ z. option_map (λ l. (l, lmc_of (lids lmc (cells_of x)) z)) (lid_of (lids lmc (cells_of x)) z)) (sym named) ∙ held_there) in
            ap (λ (z : EndPort). claim_of (cells_of y) z.node z.port) (sym named) ∙ claim ∙ ap (λ n. Some n) lid_same;
        in_room = room_stays lmc x y f part room_for_x agrees tells;
      }

  -- so it has the LID of the second view's plan
  pub rest_lids : ¬ (IsNoRoom lmc (cells_of y)) → (port : NodePort) (node : Node) → IsEndPortIn part f port node
      → range_of (lids lmc (cells_of y)) (record { node = node.guid; port = port.port }) ≡ Some (fabrics.range_at f port)
  rest_lids room_for_y port node is =
      let told = agrees.tells_end_ports port node is in
      let e : EndPort = record { node = node.guid; port = port.port } in
      let end = known_end part f port node is (cells_of y) told in
      ap (λ o. option_map (λ l. (l, lmc_of (lids lmc (cells_of y)) e)) o)
      (lid_outlasts lmc x y room_for_x room_for_y is_rest e (((end_ports_law y).0 e).1 end))
      ∙ holds port node is

pub rest_is_served : RestIsServed
rest_is_served given w before between after t =
    let s = t.sweeps in
    let lmc = (planning_at w before between).lmc in
    let f = fabric_of w.scene.fabric in
    let found = (at_writing w before between).manager.store in
    let part : Part = IsJoinedTo f w.seat in
    let agrees = found_agrees w before between after s in
    let claims = found_claims w before between after s in
    let has_room = (held.may w before between after s.planned.writes.run s.planned.sweep s.planned.is_last).has_room in
    record {
      lids_stay = λ e there. lid_outlasts lmc given found t.has_room has_room
          (is_rest lmc given found f part t.has_room agrees t.tells t.holds claims) e there;
      arrives = arrives_once_written w before between after s;
    }
