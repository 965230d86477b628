-- A manager that is to be served, as one that does what lines say, or one that decides by itself.
use Rattle.sm_manager.specs.Manager.{Manager}
use Rattle.serve_run.specs.Acting.{new_acting}
use Rattle.serve_run.specs.Seat.{Seat}
use Rattle.serve_run.specs.Seat as seat
use Rattle.serve_task.specs.declared.seating.Seating.{Seating}
use Rattle.serve_task.specs.declared.seating.Seating.TheVariants.{Obeying, Deciding}

-- the manager `m`, which is new, as one that is served as asked
abbrev pub seat_for : Seating → Manager → Seat
seat_for Obeying m = seat.Obeying m
seat_for (Deciding timing limits newest) m = seat.Deciding (new_acting m timing limits newest)
