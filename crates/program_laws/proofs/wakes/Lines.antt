-- What is so at each of some lines is so at each of the first of them, and at each of the later ones.
use Rattle.std.proofs.Common.{List, [], ◌∷◌, ◌++◌}
use Rattle.acting_manager.specs.Acting.{Acting}
use Rattle.program_laws.specs.Wakes.{AtEachLine, Line, after_line, after_lines}

module _ (IsSo : Line → Acting → Type 0) where
  pub so_first : (some rest : List Line) (a : Acting) → AtEachLine IsSo (some ++ rest) a → AtEachLine IsSo some a
  so_first [] rest a all = tt
  so_first (line ∷ some) rest a all = (all.0, so_first some rest (after_line line a) all.1)

  pub so_later : (some rest : List Line) (a : Acting) → AtEachLine IsSo (some ++ rest) a → AtEachLine IsSo rest (after_lines some a)
  so_later [] rest a all = all
  so_later (line ∷ some) rest a all = so_later some rest (after_line line a) all.1

  pub so_both : (some rest : List Line) (a : Acting) → AtEachLine IsSo some a → AtEachLine IsSo rest (after_lines some a)
      → AtEachLine IsSo (some ++ rest) a
  so_both [] rest a all more = more
  so_both (line ∷ some) rest a all more = (all.0, so_both some rest (after_line line a) all.1 more)
