-- Sources that were read in two parts.
use Rattle.std.proofs.Common.{◌≡◌, ◌++◌, List, refl}
use Rattle.sm_cli.specs.Sources.{AreReadInParts}

module _ {S : Type 0} {FirstRead OthersRead : List S → List S → Type 0} where
  pub in_parts : (olds first others first' others' : List S) → olds ≡ first ++ others → FirstRead first first' → OthersRead others others'
      → AreReadInParts olds (first' ++ others') FirstRead OthersRead
  in_parts olds first others first' others' are first_is others_are = record {
    were = record { first = first; others = others; are = are };
    are = record { first = first'; others = others'; are = refl };
    first_is = first_is;
    others_are = others_are;
  }
