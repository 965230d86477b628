-- It is a law of each attribute.
use Rattle.attr_codec.proofs.laws.decode_undoes_encode.Goals as goal

pub returns : goal.returns
returns g c = g.met.A.Attribute.reads_back
