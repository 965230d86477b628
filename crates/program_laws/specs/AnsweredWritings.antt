-- What a manager that decides by itself writes is written if nothing was given up while it wrote. InfiniBand Architecture
-- Specification, Volume 1: subnet management, initialization.
use Rattle.std.specs.Prelude.{◌≡◌, ◌<◌, ◌^◌, Bool, true, false, List, [], ◌∷◌, ◌++◌, Contains}
use Rattle.smp_bytes.specs.Header.{done}
use Rattle.smp_bytes.specs.Packet.{status}
use Rattle.sm_manager.specs.Manager.{Manager}
use Rattle.sm_manager.specs.ManagerRequests.{counts, is_step}
use Rattle.sm_manager.specs.Packets.{answers, is_for_sweep}
use Rattle.sm_manager.specs.Writing.{is_written}
use Rattle.sm_manager.specs.declared.pending.Pending.{Pending}
use Rattle.acting_manager.specs.Acting.{Acting, caught_up}
use Rattle.acting_manager.specs.Working.{Told, is_given_up, is_writing, taken, told_time}
use Rattle.program_laws.specs.ManagedEnds.{StaysAbout}
use Rattle.program_laws.specs.Wakes.{AtEachLine, HasDecided, IsNoLeave, Line, NoneLeaves, after_line, after_lines}
use Rattle.program_laws.specs.WholeSweeps.{NothingGivenUp}

-- whether the manager gives up what it writes when it is told the line: it stood still, or is no longer master
abbrev pub gives_up_writing : Line → Acting → Bool
gives_up_writing line a = is_given_up (caught_up (taken line.1 (told_time line.0 a)))

-- the manager does not give up what it writes
abbrev pub KeepsWriting : Line → Acting → Type 0
KeepsWriting line a = gives_up_writing line a ≡ false

-- if what is told answers a step that counts, it has status 0
abbrev pub AnswersWell : Told → Manager → Type 0
AnswersWell (Told.Packet bytes from) m =
    (p : Pending) → Contains m.pending p → is_step p ≡ true → counts p ≡ true → answers bytes p ≡ true
    → is_for_sweep bytes ≡ false → status bytes ≡ done
AnswersWell what m = Unit {0}

-- so it is of each of the lines
abbrev pub AllAnswerWell : List Line → Acting → Type 0
AllAnswerWell = AtEachLine (λ line a. AnswersWell line.1 a.manager)

-- the manager that decides by itself in `first` is told the line `begins`, by which it becomes `a`, and begins to write. It
-- writes through the lines `during`, and is then told the line `ends`, by which its writing is over. Nobody tells it to
-- leave or has told it. Its newest generation fits in 32 bits at first
pub record WritesThrough (first : Acting) (begins : Line) (a : Acting) (during : List Line) (ends : Line) : Type 0 where
  pub decided : HasDecided first
  pub generations : decided.newest < 2 ^ 32
  pub none_left : NoneLeaves decided.lines
  pub stays : IsNoLeave begins.1
  pub leads : after_line begins first ≡ a
  pub quiet : is_writing first.policy.activity ≡ false
  pub writes : is_writing a.policy.activity ≡ true
  pub goes_on : StaysAbout is_writing during a
  pub none_leaves : NoneLeaves during
  pub remains : IsNoLeave ends.1
  pub over : is_writing (after_line ends (after_lines during a)).policy.activity ≡ false

-- let a manager that decides by itself write, from the beginning to the end, and give up no request, nor what it writes.
-- Then its plan is written, if each answer to a step that counts has status 0
abbrev pub AnsweredWritingsAreWritten : Type 0
AnsweredWritingsAreWritten =
    (first : Acting) (begins : Line) (a : Acting) (during : List Line) (ends : Line)
    → WritesThrough first begins a during ends → NothingGivenUp (during ++ ends ∷ []) a
    → AtEachLine KeepsWriting (during ++ ends ∷ []) a → AllAnswerWell (during ++ ends ∷ []) a
    → is_written (after_line ends (after_lines during a)).manager ≡ true
