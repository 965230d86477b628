use Rattle.std.proofs.Common.{◌≡◌, [], drop}
use Rattle.topo_file.specs.Reading.{with_links}
use Rattle.topo_file.proofs.links.Links.of.Given as goal

-- the links so far with those to come
abbrev pub invariant-loop-at : goal.invariant-loop-at
invariant-loop-at l = with_links l.nodes l.links (drop l.at-index l.lines) ≡ with_links l.nodes [] l.lines
