use Rattle.std.proofs.Common.{◌≡◌, ◌+◌, ℕ, List, ◌++◌, Ok, length, take}
use Rattle.record_file.specs.Feeding.{IsShortOf, TakesPiece, offset_of}
use Rattle.record_file.proofs.absorber.take_piece.Given as goal

-- the bytes in front of the rest were taken
abbrev pub invariant-loop-rest : goal.invariant-loop-rest
invariant-loop-rest l = record {
  taken : (front : List ℕ) × (take l.count l.piece ≡ front ++ l.rest)
      × TakesPiece l.fn.awaited l.initial.part.items front (Ok l.next) l.part.items l.initial.store l.store;
  short : IsShortOf l.next l.part.items;
  offset : (offset_of l.next + length l.part.items) + length l.rest ≡ (offset_of l.fn.awaited + length l.initial.part.items) + l.count;
}

abbrev pub decreases-loop-rest : goal.decreases-loop-rest
decreases-loop-rest l = length l.rest
