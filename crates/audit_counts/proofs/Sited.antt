-- The sites of end ports, and which of them is the site of a port.
use Rattle.std.proofs.Common.{◌≡◌, ◌<◌, ◌≤◌, ℕ, zero, suc, List, [], ◌∷◌, refl, sym, ap, subst, ◌∙◌, Bool, true, false, cond, ◌&&◌, ◌||◌, length, get_or, arith}
use Rattle.std.specs.Prelude.{Contains, Option, None, Some, count_by, find, map, slice_get}
use Rattle.std.proofs.lemmas.Bool.{eq-eqb, eqb-true, ltb-false}
use Rattle.std.proofs.lemmas.List.Sums.{sum_by-cons}
use Rattle.smp_bytes.proofs.Members.{contains_here, contains_later, list_all_at}
use Rattle.std.proofs.lemmas.List.Folds.{find_at}
use Rattle.std.specs.List.{list_any, position, position_or_len}
use Rattle.subnet_view.proofs.Apart.{contains-from_map}
use Rattle.std.specs.Option.{option_map_or}
use Rattle.subnet_view.proofs.Members.{contains_in, list_any_true}
use Rattle.packet_walks.proofs.EntrySteps.{contains_at}
use Rattle.subnet_view.specs.declared.end_port.EndPort.{EndPort}
use Rattle.subnet_view.specs.Reading.{Cells}
use Rattle.held_tables.specs.Tables.{is_owner, is_same_end}
use Rattle.packet_walks.proofs.Judged.{same_ends}
use Rattle.audit_counts.specs.declared.site.Site.{Site}
use Rattle.audit_ways.specs.Ways.{is_adapter}
use Rattle.audit_counts.specs.Site.{IsSiteOf, is_of, are_adapters, are_joined, are_joined_adapters}
use Rattle.audit_counts.specs.Site.{are_one_component, first_root, is_one_root, site_of}
use Rattle.subnet_view.specs.Wires.{leads_to}

module _ (cells : Cells) (port : EndPort) (ports : List EndPort) (sites : List Site) (sites_are : sites ≡ map (site_of cells) ports) where
  -- the site that is found is that of the port, which is one of these
  pub site_is : (site : Site) → IsSiteOf sites port (Some site) → (site ≡ site_of cells port) × (is_owner ports port ≡ true)
  site_is site h =
      let there = contains-from_map (site_of cells) ports site (contains_in site sites_are h.0) in
      let same : there.0 ≡ port = same_ends port there.0 (ap (is_of port) there.2 ∙ h.1) in
      (sym there.2 ∙ ap (site_of cells) same, list_any_true (is_same_end port) ports there.0 there.1 (ap (is_of port) there.2 ∙ h.1))

  -- if no site is found, the port is none of these
  pub no_site : IsSiteOf sites port None → is_owner ports port ≡ false
  no_site e = sym (owned ports) ∙ ap (list_any (is_of port)) (sym sites_are) ∙ e
    where
      owned : (ps : List EndPort) → list_any (is_of port) (map (site_of cells) ps) ≡ is_owner ps port
      owned [] = refl
      owned (x ∷ ps) = ap (λ t. is_same_end port x || t) (owned ps)

-- the site at an index is that of the end port there
pub site_there : (cells : Cells) (ports : List EndPort) (index : ℕ) (site : Site) (d : EndPort) → index < length ports
    → site ≡ get_or (map (site_of cells) ports) index site → site ≡ site_of cells (get_or ports index d)
site_there cells [] index site d h e = absurd (omega arith)
site_there cells (x ∷ ports) zero site d h e = e
site_there cells (x ∷ ports) (suc index) site d h e = site_there cells ports index site d (omega arith) e

-- if all lie in one component --------------------------------------------------------------------

one_root : (a b r : Option ℕ) → is_one_root a r ≡ true → is_one_root b r ≡ true → is_one_root a b ≡ true
one_root None b r h k = absurd (cc)
one_root (Some x) None r h k = absurd (cc)
one_root (Some x) (Some y) None h k = absurd (cc)
one_root (Some x) (Some y) (Some r) h k = eq-eqb x y (eqb-true x r h ∙ sym (eqb-true y r k))

or_true : (a b : Bool) → ((a || true) || b) ≡ true
or_true true b = refl
or_true false b = refl

count_all : {X : Type 0} (p : X → Bool) (xs : List X) → ((x : X) → Contains xs x → p x ≡ true) → length xs ≡ count_by p xs
count_all p [] h = refl
count_all p (x ∷ xs) h =
    let rest = count_all p xs (λ y c. h y (contains_later x y xs c)) in
    let one : ◌≡◌ {A = ℕ} (cond (p x) 1 0) 1 = ap (λ t. cond t 1 0) (h x (contains_here x xs)) in
    omega (arith, rest, one) ∙ sym (sum_by-cons (λ y. cond (p y) 1 0) x xs)

each_joined : (sites : List Site) (owner : Site) → are_one_component sites ≡ true → Contains sites owner
    → (site : Site) → Contains sites site → are_joined site owner ≡ true
each_joined sites owner whole listed site c =
    let rooted : (site : Site) → Contains sites site → is_one_root site.root (first_root sites) ≡ true =
    λ site c. list_all_at (λ (s : Site). is_one_root s.root (first_root sites)) sites whole site c in
    let one = one_root site.root owner.root (first_root sites) (rooted site c) (rooted owner listed) in
    ap (λ t. (is_same_end site.port owner.port || t) || leads_to site.across owner.port) one
    ∙ or_true (is_same_end site.port owner.port) (leads_to site.across owner.port)

pub whole_joined : (sites : List Site) (owner : Site) → are_one_component sites ≡ true → Contains sites owner
    → length sites ≡ count_by (λ site. are_joined site owner) sites
whole_joined sites owner whole listed = count_all (λ (site : Site). are_joined site owner) sites (each_joined sites owner whole listed)

-- adapter ports among them -----------------------------------------------------------------------

same_counts : {X : Type 0} (p q : X → Bool) (xs : List X) → ((x : X) → Contains xs x → p x ≡ q x) → count_by p xs ≡ count_by q xs
same_counts p q [] h = refl
same_counts p q (x ∷ xs) h =
    let rest = same_counts p q xs (λ y c. h y (contains_later x y xs c)) in
    let one : ◌≡◌ {A = ℕ} (cond (p x) 1 0) (cond (q x) 1 0) = ap (λ t. cond t 1 0) (h x (contains_here x xs)) in
    sum_by-cons (λ y. cond (p y) 1 0) x xs ∙ omega (arith, rest, one) ∙ sym (sum_by-cons (λ y. cond (q y) 1 0) x xs)

count_none : {X : Type 0} (p : X → Bool) (xs : List X) → ((x : X) → p x ≡ false) → 0 ≡ count_by p xs
count_none p [] h = refl
count_none p (x ∷ xs) h =
    let rest = count_none p xs h in
    let one : ◌≡◌ {A = ℕ} (cond (p x) 1 0) 0 = ap (λ t. cond t 1 0) (h x) in
    omega (arith, rest, one) ∙ sym (sum_by-cons (λ y. cond (p y) 1 0) x xs)

and_true : (a b : Bool) → b ≡ true → (a && b) ≡ a
and_true true b h = h
and_true false b h = refl

and_false : (a b : Bool) → b ≡ false → (a && b) ≡ false
and_false true b h = h
and_false false b h = refl

-- if the end port is a switch's, it has no adapter ports beside it
pub none_joined : (sites : List Site) (owner : Site) → is_adapter owner.port ≡ false → 0 ≡ count_by (λ site. are_joined_adapters site owner) sites
none_joined sites owner other =
    count_none (λ (site : Site). are_joined_adapters site owner) sites
    (λ site. and_false (are_joined site owner) (are_adapters site.port owner.port) (and_false (is_adapter site.port) (is_adapter owner.port) other))

pub adapters_joined : (sites : List Site) (owner : Site) → are_one_component sites ≡ true → Contains sites owner → is_adapter owner.port ≡ true
    → count_by (λ site. is_adapter site.port) sites ≡ count_by (λ site. are_joined_adapters site owner) sites
adapters_joined sites owner whole listed same =
    same_counts (λ (site : Site). is_adapter site.port) (λ site. are_joined_adapters site owner) sites
    (λ site c. (
    sym (and_true (is_adapter site.port) (is_adapter owner.port) same)
    ∙ sym (ap (λ t. t && are_adapters site.port owner.port) (each_joined sites owner whole listed site c))))

-- the site at an index, or the first -------------------------------------------------------------
pub site_at : (sites : List Site) (port : EndPort) (index : ℕ) → option_map_or (is_of port) (slice_get sites index) false ≡ true
    → IsSiteOf sites port (slice_get sites index)
site_at sites port index h = by (slice_get sites index) refl h
  where
    by : (o : Option Site) → slice_get sites index ≡ o → option_map_or (is_of port) o false ≡ true → IsSiteOf sites port o
    by None e k = absurd (cc)
    by (Some site) e k = (contains_at sites index site e, k)

module _ (port : EndPort) where
  later : (x : Site) (xs : List Site) → is_of port x ≡ false → (o : Option Site) → IsSiteOf xs port o → IsSiteOf (x ∷ xs) port o
  later x xs q None h = ap (λ t. t || list_any (is_of port) xs) q ∙ h
  later x xs q (Some site) h = (contains_later x site xs h.0, h.1)

  found : (xs : List Site) → IsSiteOf xs port (find (is_of port) xs)
  found [] = refl
  found (x ∷ xs) =
      elim (is_of port x) as (λ t. is_of port x ≡ t → IsSiteOf (x ∷ xs) port (cond t (Some x) (find (is_of port) xs))) [
        | true ↦ λ q. (contains_here x xs, q)
        | false ↦ λ q. later x xs q (find (is_of port) xs) (found xs)
      ] refl

  some_is : (t : Bool) (n i : ℕ) → ◌≡◌ {A = Option ℕ} (cond t (Some n) None) (Some i) → n ≡ i
  some_is true n i e = cc
  some_is false n i e = absurd (cc)

  none_is : (t : Bool) (n : ℕ) → ◌≡◌ {A = Option ℕ} (cond t (Some n) None) None → t ≡ false
  none_is true n e = absurd (cc)
  none_is false n e = refl

  past_end : (xs : List Site) (n : ℕ) → length xs ≤ n → slice_get xs n ≡ None
  past_end [] n h = refl
  past_end (x ∷ xs) zero h = absurd (omega arith)
  past_end (x ∷ xs) (suc n) h = past_end xs n (omega arith)

  pub first_some : (sites : List Site) (index : ℕ) → position (is_of port) sites ≡ Some index → IsSiteOf sites port (slice_get sites index)
  first_some sites index e =
      let at : position_or_len (is_of port) sites ≡ index = some_is _ _ _ e in
      subst (λ (o : Option Site). IsSiteOf sites port o) (find_at (is_of port) sites ∙ ap (slice_get sites) at) (found sites)

  pub first_none : (sites : List Site) → position (is_of port) sites ≡ None → IsSiteOf sites port (slice_get sites (length sites))
  first_none sites e =
      let past : length sites ≤ position_or_len (is_of port) sites = ltb-false _ _ (none_is _ _ e) in
      subst (λ (o : Option Site). IsSiteOf sites port o)
      (find_at (is_of port) sites ∙ past_end sites (position_or_len (is_of port) sites) past
      ∙ sym (past_end sites (length sites) (omega arith))) (found sites)
