-- A fault that ends a run of lines.
use Rattle.std.proofs.Common.{Result, ap}
use Rattle.topo_file.specs.declared.topo_fault.TopoFault.{TopoFault}
use Rattle.topo_file.specs.declared.topo_fault.TopoFault.TheVariants.{Syntax, Name, Ports, Peer, Port, Linked, GuidRange, TooManyNodes, Memory}
use Rattle.topo_file.specs.TopoFault.{IsRefused}
use Rattle.topo_file.specs.Reading.{◌>>=◌}

pub refused_then : {A B : Type 0} (fault : TopoFault) (told : Result A TopoFault) (next : A → Result B TopoFault) → IsRefused fault told
    → IsRefused fault (told >>= next)
refused_then Memory told next h = tt
refused_then (Syntax line) told next h = ap (λ r. r >>= next) h
refused_then (Name line) told next h = ap (λ r. r >>= next) h
refused_then (Ports line) told next h = ap (λ r. r >>= next) h
refused_then (Peer line) told next h = ap (λ r. r >>= next) h
refused_then (Port line) told next h = ap (λ r. r >>= next) h
refused_then (Linked line) told next h = ap (λ r. r >>= next) h
refused_then (GuidRange line) told next h = ap (λ r. r >>= next) h
refused_then (TooManyNodes line) told next h = ap (λ r. r >>= next) h
