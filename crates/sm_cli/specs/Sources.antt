-- Sources of a run: a list of sources in two parts, and a list of one source.
use Rattle.std.specs.Prelude.{◌≡◌, List, [], ◌∷◌, ◌++◌}

-- `sources` divided into the first and the others
pub record Parts {S : Type 0} (sources : List S) : Type 0 where
  pub first : List S
  pub others : List S
  pub are : sources ≡ first ++ others

-- the sources were read in two parts. `first_read` relates the sources of the first part, before and after reading;
-- `others_read` relates those of the second part
pub record AreReadInParts {S : Type 0} (olds news : List S) (first_read others_read : List S → List S → Type 0) : Type 0
  where
    pub were : Parts olds
    pub are : Parts news
    pub first_is : first_read were.first are.first
    pub others_are : others_read were.others are.others

-- there is one source, and `read_as` relates the source before and after reading
pub record IsOneRead {S : Type 0} (olds news : List S) (read_as : S → S → Type 0) : Type 0 where
  pub old : S
  pub new : S
  pub was : olds ≡ old ∷ []
  pub is : news ≡ new ∷ []
  pub read : read_as old new
