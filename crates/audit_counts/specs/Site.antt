-- Which end ports lie in the same component: end ports at switches of the same component, two adapter ports with a
-- wire between them, and each end port with itself.
use Rattle.std.specs.Prelude.{◌≡◌, ℕ, Bool, true, false, ◌==◌, ◌&&◌, ◌||◌, List, [], ◌∷◌, Option, None, Some}
use Rattle.std.specs.Prelude.{Contains, count_by, option_map, option_and_then}
use Rattle.std.specs.List.{list_all, list_any}
use Rattle.subnet_view.specs.declared.end_port.EndPort.{EndPort}
use Rattle.subnet_view.specs.Reading.{Cells}
use Rattle.subnet_view.specs.Wires.{across, leads_to}
use Rattle.subnet_view.specs.Graph.{graph_of}
use Rattle.subnet_view.specs.Components.{root_of}
use Rattle.subnet_view.specs.Wires.{attachment_of}
use Rattle.held_tables.specs.Tables.{is_same_end}
use Rattle.audit_ways.specs.Ways.{is_adapter}
use Rattle.audit_counts.specs.declared.site.Census.{Census}
use Rattle.audit_counts.specs.declared.site.Site.{Site}

-- the usable switch at which the end port `e` lies: the end port's own node, or the switch to which the end port's
-- wire leads; None if neither is a usable switch
abbrev pub switch_of : Cells → EndPort → Option ℕ
switch_of cells e = option_map (λ h. h.0) (attachment_of cells e)

-- the root of the component of the usable switch at which the end port `e` lies; None if `e` lies at no usable switch
abbrev pub root_at : Cells → EndPort → Option ℕ
root_at cells e = option_and_then (root_of (graph_of cells)) (switch_of cells e)

-- the site of the end port `e`: its component's root, and the port at the other end of its wire, if there is one
abbrev pub site_of : Cells → EndPort → Site
site_of cells e = record { port = e; root = root_at cells e; across = across cells e.node e.port }

-- `site` is the site of `port`
abbrev pub is_of : EndPort → Site → Bool
is_of port site = is_same_end port site.port

-- the site is one of `sites`, and the site of `port`; for None, none of `sites` is the site of `port`
abbrev pub IsSiteOf : List Site → EndPort → Option Site → Type 0
IsSiteOf sites port None = list_any (is_of port) sites ≡ false
IsSiteOf sites port (Some site) = Contains sites site × (is_of port site ≡ true)

-- there are two roots, and they are equal
abbrev pub is_one_root : Option ℕ → Option ℕ → Bool
is_one_root None s = false
is_one_root (Some r) None = false
is_one_root (Some r) (Some s) = r == s

-- `a` and `b` are sites of the same port, or lie at switches of the same component, or the wire of `a` leads to the
-- port of `b`
abbrev pub are_joined : Site → Site → Bool
are_joined a b = is_same_end a.port b.port || is_one_root a.root b.root || leads_to a.across b.port

-- the end ports `e` and `x` lie in the same component, or are the same port
abbrev pub in_one_component : Cells → EndPort → EndPort → Bool
in_one_component cells e x = are_joined (site_of cells e) (site_of cells x)

-- the root of the first of the sites; None if there is no site, or the first one has no root
abbrev pub first_root : List Site → Option ℕ
first_root [] = None
first_root (site ∷ sites) = site.root

-- each site has a root, and all these roots are equal; true if there are no sites
abbrev pub are_one_component : List Site → Bool
are_one_component sites = list_all (λ site. is_one_root site.root (first_root sites)) sites

-- `e` and `x` are both end ports of adapters
abbrev pub are_adapters : EndPort → EndPort → Bool
are_adapters e x = is_adapter e && is_adapter x

-- both sites are of end ports of adapters, and these ports lie in the same component
abbrev pub are_joined_adapters : Site → Site → Bool
are_joined_adapters a b = are_joined a b && are_adapters a.port b.port

-- `census` says whether all sites lie at usable switches of the same component, and how many of them are sites of
-- adapter ports
pub record IsCensus (sites : List Site) (census : Census) : Type 0 where
  pub whole : census.whole ≡ are_one_component sites
  pub adapters : census.adapters ≡ count_by (λ site. is_adapter site.port) sites
