-- The tables of a map, from the last end port to the first.
use Rattle.std.proofs.Common.{◌≡◌, ◌<◌, ◌≤◌, ◌+◌, ◌||◌, ℕ, List, [], ◌∷◌, ◌++◌, refl, sym, ap, ◌∙◌, Bool, true, false, cond, length, reverse, map, max, ◌&&◌, ◌==◌}
use Rattle.std.proofs.lemmas.Bool.{eqb-true, eq-eqb, true≢false}
use Rattle.std.proofs.lemmas.List.{reverse-append, get_or-set_same, get_or-set_other}
use Rattle.std.specs.Borrow.{Bor}
use Rattle.std.specs.Prelude.{Option, None, Some, MatchOption, option_map, unwrap_or, slice_index_or, slice_set}
use Rattle.std.specs.Option.{option_copied}
use Rattle.std.specs.List.{find, push}
use Rattle.std.specs.declared.cmp.Ordering.{Ordering}
use Rattle.std.specs.declared.cmp.Ordering.TheVariants.{Less, Equal, Greater}
use Rattle.std.specs.Ordering.{is_eq, nat_cmp, ordering_then}
use Rattle.std.specs.Cmp.{both_ways, tied_itself}
use Rattle.std.specs.FinMap.{nat_cmp-IsAntisymmetric}
use Rattle.std.proofs.lemmas.Cmp.{nat_cmp_total}
use Rattle.reply_facts.proofs.Keys.{equal_from_test}
use Rattle.std.specs.BTreeMap.{BTreeMap, Updates}
use Rattle.std.proofs.lemmas.List.Elements.{Contains-append_left}
use Rattle.subnet_view.proofs.Apart.{contains_at}
use Rattle.subnet_view.proofs.NumberTests.{eq_then, same_number}
use Rattle.subnet_view.proofs.Members.{contains_in}
use Rattle.subnet_view.specs.declared.end_port.EndPort.{EndPort}
use Rattle.lid_assign.specs.Ranges.{width_of, range_at, is_in}
use Rattle.lid_assign.specs.Lids.{has_number, is_end_port_at, is_lid, top_among, last_of, greatest}
use Rattle.smp_bytes.specs.Ports.{node_port_cmp}
use Rattle.lid_assign.specs.LidMap.{AreOwners, AreOwnersMore, AreLidMarks, AreBelow, ByPort}

-- the last of a list, which a step back takes
pub stepped : {X : Type 0} (before after : List X) (r : X) (P : Type 0) (x : Option (Bor X)) → MatchOption x P (λ b. before ≡ push after b.now) → Some r
    ≡ option_copied x
    → before ≡ after ++ r ∷ []
stepped before after r P None m e = absurd (cc)
stepped before after r P (Some b) m e = let same : r ≡ b.now = cc in m ∙ ap (λ y. after ++ y ∷ []) (sym same)

-- the same where the items are lent
pub stepped_lent : {X : Type 0} (before after : List X) (r : Bor X) → before ≡ push after r.now → before ≡ after ++ r.now ∷ []
stepped_lent before after r e = e

-- what was seen, the last one first
pub seen : {X : Type 0} (xs : List X) (x : X) → reverse (xs ++ x ∷ []) ≡ x ∷ reverse xs
seen xs x = reverse-append xs (x ∷ [])

-- an owner more
pub owners_more : (lmc : ℕ) (given : List (EndPort × ℕ)) (owners new : List (Option EndPort)) (p : EndPort) (lid : ℕ)
    → AreOwners (record { lmc = lmc; ports = given }) owners → AreOwnersMore p (range_at lmc p lid) owners new
    → AreOwners (record { lmc = lmc; ports = (p, lid) ∷ given }) new
owners_more lmc given owners new p lid are m n =
    m.each n ∙ (λ i. cond (is_in (range_at lmc p lid) n) (Some p) (are n i)) ∙ chosen (is_in (range_at lmc p lid) n) (find (has_number lmc n) given)
  where
    chosen : (t : Bool) (o : Option (EndPort × ℕ)) → cond t (Some p) (option_map (λ x. x.0) o) ≡ option_map (λ x. x.0) (cond t (Some (p, lid)) o)
    chosen true o = refl
    chosen false o = refl

-- a mark more
pub marks_more : (given : List (EndPort × ℕ)) (marks : List Bool) (p : EndPort) (lid k : ℕ) → k ≡ lid → k < length marks → AreLidMarks given marks
    → AreLidMarks ((p, lid) ∷ given) (slice_set marks k true)
marks_more given marks p lid k e h are n =
    elim (lid == n) as (λ t. (lid == n) ≡ t → slice_index_or (slice_set marks k true) n false ≡ (t || is_lid given n)) [
      | true ↦ λ q. ap (λ m. slice_index_or (slice_set marks k true) m false) (sym (e ∙ eqb-true lid n q)) ∙ get_or-set_same marks k true false h
      | false ↦ λ q. get_or-set_other marks k n true false (λ same. true≢false (sym (eq-eqb lid n (sym (same ∙ e))) ∙ q)) ∙ are n
    ] refl

-- an entry more
either : (b : Bool) (x : EndPort × ℕ) (o : Option (EndPort × ℕ)) → cond b (Some x.1) (option_map (λ y. y.1) o) ≡ option_map (λ y. y.1) (cond b (Some x) o)
either true x o = refl
either false x o = refl

pub lids_more : (given : List (EndPort × ℕ)) (lids new : BTreeMap (ℕ × ℕ) ℕ) (p : EndPort) (lid : ℕ) → ByPort given lids
    → Updates node_port_cmp lids new (p.node, p.port) (Some lid)
    → ByPort ((p, lid) ∷ given) new
lids_more given lids new p lid by u e =
    let key_is = eq_then (nat_cmp p.node e.node) (nat_cmp p.port e.port) ∙ (λ i. same_number p.node e.node i && same_number p.port e.port i) in
    u.0 (e.node, e.port) ∙ (λ i. cond (key_is i) (Some lid) (by e i)) ∙ either (is_end_port_at e (p, lid)) (p, lid) (find (is_end_port_at e) given)

-- those to come are below the bound, and so is the next
module _ (bound lmc : ℕ) (before after : List (EndPort × ℕ)) (p : EndPort) (lid : ℕ) (step : before ≡ after ++ (p, lid)
    ∷ []) (below : AreBelow bound lmc before) where
  pub next_below : lid + width_of lmc p ≤ bound
  next_below = below p lid (contains_in (p, lid) (sym step) (contains_at after [] (p, lid)))

  pub rest_below : AreBelow bound lmc after
  rest_below e n h = below e n (contains_in (e, n) (sym step) (Contains-append_left after ((p, lid) ∷ []) (e, n) h))

-- a greatest number more
pub top_more : (lmc : ℕ) (given : List (EndPort × ℕ)) (top : Option ℕ) (x : EndPort × ℕ) (last t : ℕ) → top ≡ top_among lmc given → last ≡ last_of lmc x → t
    ≡ max last (unwrap_or top 0)
    → Some t ≡ top_among lmc (x ∷ given)
top_more lmc given top x last t is l e =
    ap (λ n. Some n) (e ∙ (λ i. max (l i) (unwrap_or (is i) 0)) ∙ ap (max (last_of lmc x)) (so_far given))
  where
    so_far : (given : List (EndPort × ℕ)) → unwrap_or (top_among lmc given) 0 ≡ greatest (map (last_of lmc) given)
    so_far [] = refl
    so_far (y ∷ given) = refl
