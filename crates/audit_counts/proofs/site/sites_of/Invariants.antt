use Rattle.std.proofs.Common.{◌≡◌, map, take}
use Rattle.fact_store.specs.View.{cells_of}
use Rattle.audit_counts.specs.Site.{site_of}
use Rattle.audit_counts.proofs.site.sites_of.Given as goal

-- the end ports so far
abbrev pub invariant-loop-port : goal.invariant-loop-port
invariant-loop-port l = l.sites.items ≡ map (site_of (cells_of l.wired.wires.now)) (take l.port-index l.ports)
