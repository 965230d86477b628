-- The managers that a sweep has seen so far.
use Rattle.std.specs.Prelude.{List, [], ◌∷◌, ◌++◌}
use Rattle.sweep.specs.declared.answer.Answer.{Answer}
use Rattle.sweep.specs.declared.answer.Answer.TheVariants.{Facts, Seen}
use Rattle.sm_state.specs.declared.election.SeenManager.{SeenManager}

-- the managers `seen`, with the one in `answer` appended if `answer` is for SMInfo
abbrev pub with_seen : Answer → List SeenManager → List SeenManager
with_seen (Facts report) seen = seen
with_seen (Seen guid port info) seen = seen ++ record { guid = guid; port = port; info = info } ∷ []
