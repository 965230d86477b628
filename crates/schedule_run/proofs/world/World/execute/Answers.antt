use Rattle.std.proofs.Common.{◌≡◌, ◌∙◌, ℕ, List, [], true, false, ap, length, subst, sym}
use Rattle.schedule_file.specs.Schedule.{NamesManagers}
use Rattle.sm_manager.specs.Manager.{after_raise_floor}
use Rattle.schedule_run.specs.Commands.{after_command, after_floor_line}
use Rattle.byte_io.specs.Prints.{Prints}
use Rattle.schedule_run.specs.World.{value_of, with_manager}
use Rattle.schedule_run.proofs.Deciding.{pause_quiet}
use Rattle.schedule_run.proofs.Doing.{does_same, does_show}
use Rattle.byte_io.proofs.Writing.{prints_nothing}
use Rattle.schedule_run.proofs.Seats.{quiet_at}
use Rattle.schedule_run.proofs.world.World.execute.Goals as goal

pub returns-in-Floor : goal.returns-in-Floor
unfolding after_floor_line
returns-in-Floor g c =
    let w = value_of c.args.self.now in
    let nodes = c.args.topology.now.nodes in
    let none : (after_command nodes w c.args.command).text ≡ [] =
    ap (λ k. (after_command nodes w k).text) c.in-Floor.is
    ∙ quiet_at w c.in-Floor.seat (λ s. with_manager w c.in-Floor.seat s (after_raise_floor s.manager c.in-Floor.floor)) in
    record {
      does = record {
        managers = c.raise_floor.ensures.managers;
        leaves = c.raise_floor.ensures.leaves ∙ ap (λ k. (after_command nodes w k).now) (sym c.in-Floor.is);
        prints = subst (λ (t : List ℕ). Prints g.W.Sink.written g.W.Sink.has_failed c.args.sink.now c.args.sink.now t) (sym none)
            (prints_nothing g.W.Sink.written g.W.Sink.has_failed c.args.sink.now);
      };
    }

pub returns-in-Manager : goal.returns-in-Manager
returns-in-Manager g c = record {
  does = does_same g.W.Sink.written g.W.Sink.has_failed c.args.self.now c.seat.new.self c.seat.result c.args.sink.now c.seat.new.sink _ _
      (ap (after_command c.args.topology.now.nodes (value_of c.args.self.now)) (sym c.in-Manager.is)) c.seat.ensures.does;
}

pub returns-in-Decider : goal.returns-in-Decider
returns-in-Decider g c = record {
  does = does_same g.W.Sink.written g.W.Sink.has_failed c.args.self.now c.seat_decider.new.self c.seat_decider.result c.args.sink.now c.seat_decider.new.sink _ _
      (ap (after_command c.args.topology.now.nodes (value_of c.args.self.now)) (sym c.in-Decider.is)) c.seat_decider.ensures.does;
}

pub returns-in-Wait : goal.returns-in-Wait
returns-in-Wait g c = record {
  does = does_same g.W.Sink.written g.W.Sink.has_failed c.args.self.now c.wait.new.self c.wait.result c.args.sink.now c.wait.new.sink _ _
      (ap (after_command c.args.topology.now.nodes (value_of c.args.self.now)) (sym c.in-Wait.is)) c.wait.ensures.does;
}

pub returns-in-Pause : goal.returns-in-Pause
returns-in-Pause g c =
    let w = value_of c.args.self.now in
    let nodes = c.args.topology.now.nodes in
    let none : (after_command nodes w c.args.command).text ≡ [] =
    ap (λ k. (after_command nodes w k).text) c.in-Pause.is ∙ pause_quiet w c.in-Pause.index false in
    record {
      does = record {
        managers = ap (λ ms. length ms.items) c.pause.ensures.managers;
        leaves = c.pause.ensures.leaves ∙ ap (λ k. (after_command nodes w k).now) (sym c.in-Pause.is);
        prints = subst (λ (t : List ℕ). Prints g.W.Sink.written g.W.Sink.has_failed c.args.sink.now c.args.sink.now t) (sym none)
            (prints_nothing g.W.Sink.written g.W.Sink.has_failed c.args.sink.now);
      };
    }

pub returns-in-Resume : goal.returns-in-Resume
returns-in-Resume g c =
    let w = value_of c.args.self.now in
    let nodes = c.args.topology.now.nodes in
    let none : (after_command nodes w c.args.command).text ≡ [] =
    ap (λ k. (after_command nodes w k).text) c.in-Resume.is ∙ pause_quiet w c.in-Resume.index true in
    record {
      does = record {
        managers = ap (λ ms. length ms.items) c.resume.ensures.managers;
        leaves = c.resume.ensures.leaves ∙ ap (λ k. (after_command nodes w k).now) (sym c.in-Resume.is);
        prints = subst (λ (t : List ℕ). Prints g.W.Sink.written g.W.Sink.has_failed c.args.sink.now c.args.sink.now t) (sym none)
            (prints_nothing g.W.Sink.written g.W.Sink.has_failed c.args.sink.now);
      };
    }

pub returns-in-ShowDecider : goal.returns-in-ShowDecider
returns-in-ShowDecider g c = record {
  does = does_same g.W.Sink.written g.W.Sink.has_failed c.args.self.now c.args.self.now c.show_decider.result c.args.sink.now c.show_decider.new.sink _ _
      (ap (after_command c.args.topology.now.nodes (value_of c.args.self.now)) (sym c.in-ShowDecider.is))
      (does_show g.W.Sink.written g.W.Sink.has_failed c.args.self.now c.show_decider.result c.args.sink.now c.show_decider.new.sink _
      c.show_decider.ensures.prints);
}

pub returns-in-Ask : goal.returns-in-Ask
returns-in-Ask g c = record {
  does = does_same g.W.Sink.written g.W.Sink.has_failed c.args.self.now c.ask.new.self c.ask.result c.args.sink.now c.ask.new.sink _ _
      (ap (after_command c.args.topology.now.nodes (value_of c.args.self.now)) (sym c.in-Ask.is)) c.ask.ensures.does;
}

pub returns-in-Timeout : goal.returns-in-Timeout
returns-in-Timeout g c = record {
  does = does_same g.W.Sink.written g.W.Sink.has_failed c.args.self.now c.time_out.new.self c.time_out.result c.args.sink.now c.time_out.new.sink _ _
      (ap (after_command c.args.topology.now.nodes (value_of c.args.self.now)) (sym c.in-Timeout.is)) c.time_out.ensures.does;
}

pub returns-in-Merge : goal.returns-in-Merge
returns-in-Merge g c = record {
  does = does_same g.W.Sink.written g.W.Sink.has_failed c.args.self.now c.merge.new.self c.merge.result c.args.sink.now c.merge.new.sink _ _
      (ap (after_command c.args.topology.now.nodes (value_of c.args.self.now)) (sym c.in-Merge.is)) c.merge.ensures.does;
}

pub returns-in-Packet : goal.returns-in-Packet
returns-in-Packet g c = record {
  does = does_same g.W.Sink.written g.W.Sink.has_failed c.args.self.now c.handle_packet.new.self c.handle_packet.result c.args.sink.now
      c.handle_packet.new.sink _ _ (ap (after_command c.args.topology.now.nodes (value_of c.args.self.now)) (sym c.in-Packet.is)) c.handle_packet.ensures.does;
}

pub returns-in-Drain : goal.returns-in-Drain
returns-in-Drain g c = record {
  does = does_same g.W.Sink.written g.W.Sink.has_failed c.args.self.now c.drain.new.self c.drain.result c.args.sink.now c.drain.new.sink _ _
      (ap (after_command c.args.topology.now.nodes (value_of c.args.self.now)) (sym c.in-Drain.is)) c.drain.ensures.does;
}

pub returns-in-Cut : goal.returns-in-Cut
returns-in-Cut g c = record {
  does = does_same g.W.Sink.written g.W.Sink.has_failed c.args.self.now c.cut.new.self c.cut.result c.args.sink.now c.cut.new.sink _ _
      (ap (after_command c.args.topology.now.nodes (value_of c.args.self.now)) (sym c.in-Cut.is)) c.cut.ensures.does;
}

pub returns-in-Plug : goal.returns-in-Plug
returns-in-Plug g c = record {
  does = does_same g.W.Sink.written g.W.Sink.has_failed c.args.self.now c.plug.new.self c.plug.result c.args.sink.now c.plug.new.sink _ _
      (ap (after_command c.args.topology.now.nodes (value_of c.args.self.now)) (sym c.in-Plug.is)) c.plug.ensures.does;
}

pub returns-in-Traps : goal.returns-in-Traps
returns-in-Traps g c = record {
  does = does_same g.W.Sink.written g.W.Sink.has_failed c.args.self.now c.begin_traps.new.self c.begin_traps.result c.args.sink.now
      c.begin_traps.new.sink _ _ (ap (after_command c.args.topology.now.nodes (value_of c.args.self.now)) (sym c.in-Traps.is)) c.begin_traps.ensures.does;
}

pub returns-in-Resend : goal.returns-in-Resend
returns-in-Resend g c = record {
  does = does_same g.W.Sink.written g.W.Sink.has_failed c.args.self.now c.resend.new.self c.resend.result c.args.sink.now c.resend.new.sink _ _
      (ap (after_command c.args.topology.now.nodes (value_of c.args.self.now)) (sym c.in-Resend.is)) c.resend.ensures.does;
}

pub returns-in-Show : goal.returns-in-Show
returns-in-Show g c = record {
  does = does_same g.W.Sink.written g.W.Sink.has_failed c.args.self.now c.args.self.now c.show.result c.args.sink.now c.show.new.sink _ _
      (ap (after_command c.args.topology.now.nodes (value_of c.args.self.now)) (sym c.in-Show.is))
      (does_show g.W.Sink.written g.W.Sink.has_failed c.args.self.now c.show.result c.args.sink.now c.show.new.sink _ c.show.ensures.prints);
}

pub returns-in-Ping : goal.returns-in-Ping
returns-in-Ping g c = record {
  does = does_same g.W.Sink.written g.W.Sink.has_failed c.args.self.now c.args.self.now c.show_ping.result c.args.sink.now c.show_ping.new.sink _ _
      (ap (after_command c.args.topology.now.nodes (value_of c.args.self.now)) (sym c.in-Ping.is))
      (does_show g.W.Sink.written g.W.Sink.has_failed c.args.self.now c.show_ping.result c.args.sink.now c.show_ping.new.sink _ c.show_ping.ensures.prints);
}

pub returns-in-Tables : goal.returns-in-Tables
returns-in-Tables g c = record {
  does = does_same g.W.Sink.written g.W.Sink.has_failed c.args.self.now c.args.self.now c.show_tables.result c.args.sink.now c.show_tables.new.sink _ _
      (ap (after_command c.args.topology.now.nodes (value_of c.args.self.now)) (sym c.in-Tables.is))
      (does_show g.W.Sink.written g.W.Sink.has_failed c.args.self.now c.show_tables.result c.args.sink.now c.show_tables.new.sink _
      c.show_tables.ensures.prints);
}

pub returns-in-Flight : goal.returns-in-Flight
returns-in-Flight g c = record {
  does = does_same g.W.Sink.written g.W.Sink.has_failed c.args.self.now c.args.self.now c.show_flight.result c.args.sink.now c.show_flight.new.sink _ _
      (ap (after_command c.args.topology.now.nodes (value_of c.args.self.now)) (sym c.in-Flight.is))
      (does_show g.W.Sink.written g.W.Sink.has_failed c.args.self.now c.show_flight.result c.args.sink.now c.show_flight.new.sink _
      c.show_flight.ensures.prints);
}

pub seat-requires : goal.seat-requires
seat-requires g c = subst (NamesManagers (length c.args.self.now.managers.items)) c.in-Manager.is c.requires

pub ask-requires : goal.ask-requires
ask-requires g c = subst (NamesManagers (length c.args.self.now.managers.items)) c.in-Ask.is c.requires

pub time_out-requires : goal.time_out-requires
time_out-requires g c = subst (NamesManagers (length c.args.self.now.managers.items)) c.in-Timeout.is c.requires

pub raise_floor-requires : goal.raise_floor-requires
raise_floor-requires g c = subst (NamesManagers (length c.args.self.now.managers.items)) c.in-Floor.is c.requires

pub show-requires : goal.show-requires
show-requires g c = subst (NamesManagers (length c.args.self.now.managers.items)) c.in-Show.is c.requires

pub merge-requires-clause-seat : goal.merge-requires-clause-seat
merge-requires-clause-seat g c = (subst (NamesManagers (length c.args.self.now.managers.items)) c.in-Merge.is c.requires).0

pub merge-requires-clause-other : goal.merge-requires-clause-other
merge-requires-clause-other g c = (subst (NamesManagers (length c.args.self.now.managers.items)) c.in-Merge.is c.requires).1
