-- The next entries, by lists of what the switches do.
use Rattle.std.proofs.Common.{◌≡◌, ◌||◌, ℕ, List, [], ◌∷◌, length, refl, ap, ◌∙◌, Bool, true, false, cond}
use Rattle.std.specs.Prelude.{map}
use Rattle.std.specs.List.{list_all, zip}
use Rattle.smp_bytes.proofs.Members.{contains_here, contains_later, list_all_at, list_all_true}
use Rattle.subnet_view.specs.declared.end_port.EndPort.{EndPort}
use Rattle.subnet_view.specs.Reading.{Cells, switches}
use Rattle.held_tables.specs.declared.held.HeldLid.{HeldLid}
use Rattle.held_tables.specs.Held.{HeldPlan}
use Rattle.packet_walks.specs.declared.next_hop.NextHop.{NextHop}
use Rattle.packet_walks.specs.declared.next_hop.SwitchStep.{SwitchStep}
use Rattle.packet_walks.specs.EndsBySwitch.{HaveEnded, after, end_of, onward}
use Rattle.packet_walks.specs.HopsByTables.{is_at, next_hops_of, switch_step}
use Rattle.packet_walks.proofs.InTime.{one_end, ends_in_time}
use Rattle.next_tables.specs.SettledRule.{comes_to, agreed, mending, next_entry}
use Rattle.next_tables.specs.SettledEntries.{agreed_by, agreed_of, arrives_by, chosen_by, hops_of, is_whole, mending_by, mending_of, mends_of, next_by, next_of, patch_entry_by}

-- whether a walk comes to the port, by where walks have ended
pub arrives_is : (port : EndPort) (steps ends : List NextHop) → HaveEnded steps ends
    → ◌≡◌ {A = NextHop → Bool} (arrives_by port ends) (comes_to port steps)
arrives_is port steps ends h =
    let each : (s : NextHop) → arrives_by port ends s ≡ comes_to port steps s =
    λ s. ap (is_at port) (one_end steps s (end_of (onward ends s)) (end_of (after (length steps) steps s)) (h.ended s)
    (ends_in_time steps s)) in
    λ i s. each s i

pub next_is : (port : EndPort) (held plan : List SwitchStep)
    (agreed hops mending settled delivered mended : List NextHop) (entries : List ℕ)
    → agreed ≡ agreed_of held plan → HaveEnded agreed settled → hops ≡ hops_of held → HaveEnded hops delivered
    → mending ≡ mending_of port (arrives_by port delivered) held plan → HaveEnded mending mended
    → entries ≡ chosen_by port (arrives_by port settled) (arrives_by port delivered) (arrives_by port mended) held plan
    → entries ≡ next_of port held plan
unfolding next_of
next_is port held plan agreed hops mending settled delivered mended entries a a_ended h h_ended m m_ended e =
    let leads = arrives_is port agreed settled a_ended ∙ ap (comes_to port) a in
    let delivers = arrives_is port hops delivered h_ended ∙ ap (comes_to port) h in
    let mends = arrives_is port mending mended m_ended
    ∙ ap (comes_to port) (m ∙ ap (λ d. mending_of port d held plan) delivers) in
    e ∙ (λ i. chosen_by port (leads i) (delivers i) (mends i) held plan)

-- if nothing is to be mended, the entries do not depend on walks that mend
same_chosen : (port : EndPort) (leads delivers mends others : NextHop → Bool) (xs : List (SwitchStep × SwitchStep))
    → list_all (λ x. leads x.1.hop || delivers x.0.hop) xs ≡ true
    → map (next_by port leads delivers mends) xs ≡ map (next_by port leads delivers others) xs
same_chosen port leads delivers mends others [] h = refl
same_chosen port leads delivers mends others (x ∷ xs) h =
    let first : (leads x.1.hop || delivers x.0.hop) ≡ true =
    list_all_at (λ y. leads y.1.hop || delivers y.0.hop) (x ∷ xs) h x (contains_here x xs) in
    let later : list_all (λ y. leads y.1.hop || delivers y.0.hop) xs ≡ true =
    list_all_true (λ y. leads y.1.hop || delivers y.0.hop) xs
    (λ y there. list_all_at (λ z. leads z.1.hop || delivers z.0.hop) (x ∷ xs) h y (contains_later x y xs there)) in
    let here : next_by port leads delivers mends x ≡ next_by port leads delivers others x =
    (elim (leads x.1.hop) as (λ t. (t || delivers x.0.hop) ≡ true
    → cond t x.1.entry
    (cond (delivers x.0.hop) x.0.entry (cond (mends (mending_by port delivers x)) (patch_entry_by x) 255))
    ≡ cond t x.1.entry
    (cond (delivers x.0.hop) x.0.entry (cond (others (mending_by port delivers x)) (patch_entry_by x) 255))) [
      | true ↦ λ e. refl
      | false ↦ λ e. (elim (delivers x.0.hop) as (λ t. t ≡ true
          → cond t x.0.entry (cond (mends (mending_by port delivers x)) (patch_entry_by x) 255)
          ≡ cond t x.0.entry (cond (others (mending_by port delivers x)) (patch_entry_by x) 255)) [
            | true ↦ λ d. refl
            | false ↦ λ d. absurd (cc)
          ] e)
    ] first) in
    λ i. here i ∷ same_chosen port leads delivers mends others xs later i

pub next_is_whole : (port : EndPort) (held plan : List SwitchStep) (agreed hops settled delivered mended : List NextHop)
    (entries : List ℕ)
    → agreed ≡ agreed_of held plan → HaveEnded agreed settled → hops ≡ hops_of held → HaveEnded hops delivered
    → is_whole (arrives_by port settled) (arrives_by port delivered) held plan ≡ true
    → entries ≡ chosen_by port (arrives_by port settled) (arrives_by port delivered) (arrives_by port mended) held plan
    → entries ≡ next_of port held plan
unfolding next_of
next_is_whole port held plan agreed hops settled delivered mended entries a a_ended h h_ended whole e =
    let leads = arrives_is port agreed settled a_ended ∙ ap (comes_to port) a in
    let delivers = arrives_is port hops delivered h_ended ∙ ap (comes_to port) h in
    let mends = mends_of port (comes_to port (hops_of held)) held plan in
    e ∙ same_chosen port (arrives_by port settled) (arrives_by port delivered) (arrives_by port mended) mends
    (zip held plan) whole
    ∙ (λ i. chosen_by port (leads i) (delivers i) mends held plan)

-- what is made of two lists that are made of one
pub mapped : {X Y Z : Type 0} (F : X × Y → Z) (f : ℕ → X) (g : ℕ → Y) (gs : List ℕ) → map F (zip (map f gs) (map g gs))
    ≡ map (λ x. F (f x, g x)) gs
mapped F f g [] = refl
mapped F f g (x ∷ gs) = ap (λ ys. F (f x, g x) ∷ ys) (mapped F f g gs)

pub twice_mapped : {X Y : Type 0} (F : X → Y) (f : ℕ → X) (gs : List ℕ) → map F (map f gs) ≡ map (λ x. F (f x)) gs
twice_mapped F f [] = refl
twice_mapped F f (x ∷ gs) = ap (λ ys. F (f x) ∷ ys) (twice_mapped F f gs)

-- those of the usable switches are the next entries
pub listed : (cells : Cells) (held plan : HeldPlan) (line : HeldLid)
    → next_of line.port (map (switch_step cells held line.lid) (switches cells))
    (map (switch_step cells plan line.lid) (switches cells))
    ≡ map (next_entry cells held plan line) (switches cells)
unfolding next_of
listed cells held plan line =
    let gs = switches cells in
    let port = line.port in
    let now : ℕ → SwitchStep = switch_step cells held line.lid in
    let planned : ℕ → SwitchStep = switch_step cells plan line.lid in
    let hs : List SwitchStep = map now gs in
    let ps : List SwitchStep = map planned gs in
    let leads : ◌≡◌ {A = NextHop
    → Bool} (comes_to port (agreed_of hs ps)) (comes_to port (agreed cells held plan line.lid)) =
    ap (comes_to port) (mapped agreed_by now planned gs) in
    let delivers : ◌≡◌ {A = NextHop
    → Bool} (comes_to port (hops_of hs)) (comes_to port (next_hops_of cells held line.lid)) =
    ap (comes_to port) (twice_mapped (λ (x : SwitchStep). x.hop) now gs) in
    let mends : ◌≡◌ {A = NextHop
    → Bool} (mends_of port (comes_to port (hops_of hs)) hs ps) (comes_to port (mending cells held plan line)) =
    ap (λ d. mends_of port d hs ps) delivers
    ∙ ap (comes_to port) (mapped (mending_by port (comes_to port (next_hops_of cells held line.lid))) now planned gs) in
    (λ i. chosen_by port (leads i) (delivers i) (mends i) hs ps)
    ∙ mapped (next_by port (comes_to port (agreed cells held plan line.lid))
    (comes_to port (next_hops_of cells held line.lid))
    (comes_to port (mending cells held plan line)))
    now planned gs
