-- Each cell may be newer than those before it; after the last one it is the newest of the facts.
use Rattle.std.proofs.Common.{◌≡◌, ◌++◌, ◌∷◌, [], sym, ap, ◌∙◌, subst}
use Rattle.std.proofs.lemmas.List.{append_assoc}
use Rattle.std.specs.Prelude.{Some}
use Rattle.page_list.specs.Iter.{rest_of}
use Rattle.fact_join.specs.Cell.{generation_of}
use Rattle.fact_store.specs.View.{cells_of}
use Rattle.fact_store.proofs.Held.{entries_are, found_is, newest_more, given_all, none_of, newest_of_all}
use Rattle.fact_store.proofs.SightingRanges.{IsNewestAmong}
use Rattle.fact_store.proofs.store.Store.newest.Goals as goal

pub loop-sighting-preserved : goal.loop-sighting-preserved
loop-sighting-preserved c = (
  subst (λ n. IsNewestAmong (c.loop-sighting.yielded ++ c.in-Some.sighting ∷ []) (Some n)) (sym c.newer.ensures)
      (newest_more c.loop-sighting.yielded c.in-Some.sighting c.loop-sighting.newest c.generation.result (sym (c.generation.ensures
      ∙ ap generation_of c.cell.ensures.value)) c.loop-sighting.invariant.0),
  append_assoc c.loop-sighting.yielded (c.in-Some.sighting ∷ []) (rest_of c.next.new.self)
      ∙ ap (λ s. c.loop-sighting.yielded ++ s) (sym c.in-Some.ensures.steps) ∙ c.loop-sighting.invariant.1,
)

pub returns-clause-none : goal.returns-clause-none
returns-clause-none c =
    let given : c.loop-sighting.yielded ≡ c.self.inside.cells.items =
    given_all c.loop-sighting.yielded (rest_of c.loop-sighting.sighting-iterator) c.self.inside.cells.items c.in-None.ensures.steps.0
    (c.loop-sighting.invariant.1 ∙ ap rest_of c.into_iter-sighting-iterator.ensures.into_iter_gives ∙ c.iter-sighting-items.ensures.items) in
    none_of c.loop-sighting.yielded (cells_of c.args.self.now) (given
    ∙ sym (entries_are c.self.inside.floor c.self.inside.cells.items c.self.invariant c.args.self.now c.self.view_is)) c.loop-sighting.newest
    c.loop-sighting.invariant.0

pub returns-clause-newest : goal.returns-clause-newest
returns-clause-newest c =
    let given : c.loop-sighting.yielded ≡ c.self.inside.cells.items =
    given_all c.loop-sighting.yielded (rest_of c.loop-sighting.sighting-iterator) c.self.inside.cells.items c.in-None.ensures.steps.0
    (c.loop-sighting.invariant.1 ∙ ap rest_of c.into_iter-sighting-iterator.ensures.into_iter_gives ∙ c.iter-sighting-items.ensures.items) in
    newest_of_all c.loop-sighting.yielded c.self.inside.cells.items c.args.self.now
    (found_is c.self.inside.floor c.self.inside.cells.items c.self.invariant c.args.self.now c.self.view_is) given c.loop-sighting.newest
    c.loop-sighting.invariant.0
