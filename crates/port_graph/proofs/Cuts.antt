-- Lists that are kept end to end in one list, and a further list behind them.
use Rattle.std.proofs.Common.{◌≡◌, ◌≤◌, ◌-◌, ◌+◌, List, [], ◌∷◌, ◌++◌, refl, sym, ap, ap₂, ◌∙◌, arith, length, take, drop}
use Rattle.std.proofs.lemmas.List.{map-append, length-drop, take-append-le, drop-append-le, drop_at, take_all}
use Rattle.std.proofs.lemmas.List.Elements.{All-head, All-tail}
use Rattle.port_graph.specs.declared.edge.Edge.{Edge}
use Rattle.port_graph.specs.declared.adjacency.Span.{Span}
use Rattle.port_graph.specs.Spans.{part, cut, AreWithin}

-- what is put behind a list changes none of its parts
part_kept : (edges more : List Edge) (span : Span) → span.start ≤ span.end → span.end ≤ length edges → part (edges ++ more) span ≡ part edges span
part_kept edges more span rises within =
    ap (take (span.end - span.start)) (drop-append-le span.start edges more (omega arith))
    ∙ take-append-le (span.end - span.start) (drop span.start edges) more (omega (arith, length-drop span.start edges))

-- nor all of them
pub cut_kept : (edges more : List Edge) (spans : List Span) → AreWithin edges spans → cut (edges ++ more) spans ≡ cut edges spans
cut_kept edges more [] within = refl
cut_kept edges more (span ∷ spans) within =
    let first = All-head (λ (s : Span). (s.start ≤ s.end) × (s.end ≤ length edges)) span spans within in
    let rest = All-tail (λ (s : Span). (s.start ≤ s.end) × (s.end ≤ length edges)) span spans within in
    ap₂ (λ (x : List Edge) (xs : List (List Edge)). x ∷ xs) (part_kept edges more span first.0 first.1) (cut_kept edges more spans rest)

-- it is one more part itself
pub cut_pushed : (edges more : List Edge) (spans : List Span) (span : Span) → AreWithin edges spans → span.start ≡ length edges → span.end ≡ length edges
    + length more
    → cut (edges ++ more) (spans ++ span ∷ []) ≡ cut edges spans ++ more ∷ []
cut_pushed edges more spans span within start end =
    let last : part (edges ++ more) span ≡ more =
    ap (take (span.end - span.start)) (drop_at edges more span.start (sym start)) ∙ take_all (span.end - span.start) more (omega arith) in
    map-append (part (edges ++ more)) spans (span ∷ []) ∙ ap₂ (λ (xs : List (List Edge)) (x : List Edge). xs ++ x ∷ []) (cut_kept edges more spans within) last
