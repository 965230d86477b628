-- Serving, piece by piece.
use Rattle.std.proofs.Common.{◌≡◌, ◌∙◌, inl, inr, false, true, ℕ, ◌+◌, ◌-◌, ◌^◌, ◌≤◌, Bool, List, [], ◌++◌, Option, None, Some, Result, Ok, Err, IsTrue, ◌↔◌, length, length-append, refl, sym, ap, subst, arith, append-nil}
use Rattle.std.specs.Io.KnownBytes.{Appends, Consumes}
use Rattle.byte_io.proofs.Bytes.{Consumes-trans}
use Rattle.std.specs.Prelude.{IsErr}
use Rattle.byte_io.specs.Source.{SourceState}
use Rattle.byte_io.specs.declared.sink.WriteFault.{WriteFault}
use Rattle.byte_io.specs.Prints.{Prints, PrintsSome}
use Rattle.schedule_lines.specs.declared.run_fault.RunFault.{RunFault}
use Rattle.schedule_lines.specs.declared.run_fault.RunFault.TheVariants.{Memory, Write}
use Rattle.byte_io.proofs.Writing.{prints_both}
use Rattle.schedule_lines.proofs.Printing.{prints_then}
use Rattle.serve_run.specs.Kept.{ServerValue, after_bytes}
use Rattle.serve_run.specs.Seat.{Seat, served_by}
use Rattle.serve_run.specs.Server.{FailsToRead, GoesOn, HasServed, IsOver, ServesPiece, StopsServing, StopsWithin, Unread, fault_of_run, stopped}
use Rattle.serve_run.specs.declared.serve_fault.ServeFault.{ServeFault}
use Rattle.serve_run.specs.declared.serve_fault.ServeFault.TheVariants as stop
use Rattle.serve_run.proofs.Kept.{beginning, bytes_are_lines, now_behind, text_behind}

nothing_consumed : (known : Option (List ℕ)) → Consumes known known []
nothing_consumed None = tt
nothing_consumed (Some bytes) = refl

abbrev ok_of : Unit {0} → Result (Unit {0}) WriteFault
ok_of u = Ok u

pub not_failed : (b : Bool) (u : Unit {0}) → (IsErr (ok_of u) ↔ IsTrue b) → b ≡ false
not_failed false u h = refl
not_failed true u h = let e : IsErr (ok_of u) = h.1 refl in absurd (cc)

module _ {S W : Type 0} (state : S → SourceState) (written : W → Option (List ℕ)) (has_failed : W → Bool) where
  -- after `count` reads some bytes were read, and their lines were handled
  pub record Going (old now : S) (seat : Seat) (server : ServerValue) (sink sink' : W) (count : ℕ) : Type 0 where
    pub bytes : List ℕ
    pub read : Consumes (state old).left (state now).left bytes
    pub counted : count + (state old).interruptions ≤ length bytes + (state now).interruptions
    pub serves : server ≡ (after_bytes (beginning seat) bytes).now
    pub printed : Prints written has_failed sink sink' (after_bytes (beginning seat) bytes).text

  pub goes_first : (old : S) (seat : Seat) (sink sink' : W) → Prints written has_failed sink sink' [] → Going old old seat (beginning seat) sink sink' 0
  goes_first old seat sink sink' p =
      record { bytes = []; read = nothing_consumed (state old).left; counted = omega arith; serves = refl; printed = p }

  module _ (old now next : S) (seat : Seat) (server server' : ServerValue) (sink mid new : W) (count : ℕ) (h : Going old now seat server sink mid count) where
    abbrev so_far : ServerValue
    so_far = (after_bytes (beginning seat) h.bytes).now

    all_text : (bytes : List ℕ)
        → (after_bytes (beginning seat) h.bytes).text ++ (after_bytes server bytes).text ≡ (after_bytes (beginning seat) (h.bytes ++ bytes)).text
    all_text bytes =
        ap (λ s. (after_bytes (beginning seat) h.bytes).text ++ (after_bytes s bytes).text) h.serves ∙ sym (text_behind (beginning seat) h.bytes bytes)

    all_read : (bytes : List ℕ) → Consumes (state now).left (state next).left bytes → Consumes (state old).left (state next).left (h.bytes ++ bytes)
    all_read bytes read = Consumes-trans (state old).left (state now).left (state next).left h.bytes bytes h.read read

    pub goes_more : GoesOn state written has_failed now next server server' mid new → Going old next seat server' sink new (count + 1)
    goes_more g =
        let before = h.counted in
        let here = g.counted in
        let P : List ℕ → Type 0 = Prints written has_failed sink new in
        record {
          bytes = h.bytes ++ g.bytes;
          read = all_read g.bytes g.read;
          counted = omega (arith, before, here, length-append h.bytes g.bytes);
          serves = g.leaves ∙ ap (λ s. (after_bytes s g.bytes).now) h.serves ∙ sym (now_behind (beginning seat) h.bytes g.bytes);
          printed = subst P (all_text g.bytes) (prints_both written has_failed sink mid new _ _ h.printed g.prints);
        }

    -- the text so far, as one of lines
    so_far_told : Appends (written sink) (written mid) (served_by seat h.bytes)
    so_far_told = let P : List ℕ → Type 0 = Appends (written sink) (written mid) in subst P (bytes_are_lines seat h.bytes) h.printed.grown

    -- nothing more
    read_on : Consumes (state now).left (state next).left [] → Consumes (state old).left (state next).left h.bytes
    read_on read = let P : List ℕ → Type 0 = Consumes (state old).left (state next).left in subst P (append-nil h.bytes) (all_read [] read)

    pub has_served : IsOver state now next server server' mid new → HasServed state old next seat (Appends (written sink) (written new))
    has_served e = record {
      bytes = h.bytes;
      read = record { read = read_on e.read; at_end = e.at_end };
      printed = subst (λ w. Appends (written sink) (written w) (served_by seat h.bytes)) (sym e.same_sink) so_far_told;
    }

    pub cannot_read : Unread state now next mid new
        → FailsToRead state old next seat (Appends (written sink) (written new))
    cannot_read e = record {
      served = record {
        bytes = h.bytes;
        read = read_on e.read;
        printed = subst (λ w. Appends (written sink) (written w) (served_by seat h.bytes)) (sym e.same_sink) so_far_told;
      };
      why = inl e.failed;
    }

    pub stops_within : (fault : RunFault) → StopsWithin state written has_failed now next server mid new fault
        → StopsServing state old next seat (PrintsSome written has_failed sink new) (Appends (written sink) (written new)) (has_failed new) (fault_of_run fault)
    stops_within Write e = e.prints
    stops_within Memory e =
        let P : List ℕ → Type 0 = PrintsSome written has_failed sink new in
        record {
          bytes = h.bytes ++ e.bytes;
          read = all_read e.bytes e.read;
          printed = subst P (all_text e.bytes ∙ bytes_are_lines seat (h.bytes ++ e.bytes))
              (prints_then written has_failed (stopped Memory) sink mid new _ _ h.printed e.prints);
        }

    pub piece_stops : (fault : ServeFault) → ServesPiece state written has_failed now next server server' mid new (Err fault)
        → StopsServing state old next seat (PrintsSome written has_failed sink new) (Appends (written sink) (written new)) (has_failed new) fault
    piece_stops stop.Read e = cannot_read e
    piece_stops stop.Memory e = stops_within Memory e
    piece_stops stop.Write e = stops_within Write e

  module _ (now next : S) (server server' : ServerValue) (mid new : W) where
    pub piece_ends : (more : Bool) → more ≡ false → ServesPiece state written has_failed now next server server' mid new (Ok more)
        → IsOver state now next server server' mid new
    piece_ends false e h = h
    piece_ends true e h = absurd (cc)

    pub piece_goes : (more : Bool) → more ≡ true → ServesPiece state written has_failed now next server server' mid new (Ok more)
        → GoesOn state written has_failed now next server server' mid new
    piece_goes true e h = h
    piece_goes false e h = absurd (cc)

  -- as many readings as can be counted
  pub reads_spent : (old now : S) (seat : Seat) (server : ServerValue) (sink new : W) (count : ℕ) → Going old now seat server sink new count → 2 ^ 64 - 1 ≤ count
      → FailsToRead state old now seat (Appends (written sink) (written new))
  reads_spent old now seat server sink new count h all =
      let counted = h.counted in
      let P : List ℕ → Type 0 = Appends (written sink) (written new) in
      record {
        served = record { bytes = h.bytes; read = h.read; printed = subst P (bytes_are_lines seat h.bytes) h.printed.grown };
        why = inr (omega (arith, counted, all));
      }
