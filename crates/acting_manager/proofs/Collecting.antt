-- The packets that a manager has queued are given out one after the other.
use Rattle.std.proofs.Common.{◌≡◌, ◌∙◌, ◌++◌, Bool, List, [], ◌∷◌, None, Some, not, sym, ap}
use Rattle.std.proofs.lemmas.List.{append_assoc, append-nil}
use Rattle.std.proofs.lemmas.List.Elements.{filter-append}
use Rattle.std.specs.List.{filter}
use Rattle.sm_manager.specs.Manager.{Manager, after_take_outgoing, emptied}
use Rattle.sm_manager.specs.declared.outgoing.Outgoing.{Outgoing}
use Rattle.sm_manager.proofs.Taking.{first_is, none_emptied, none_is, taken_emptied}
use Rattle.acting_manager.specs.Acting.{Acting, collected, given_out, is_request}

-- what passes is put behind what is there, one by one or all at once
behind : (p : Outgoing → Bool) (there : List Outgoing) (out : Outgoing) (later : List Outgoing)
    → there ++ filter p (out ∷ later) ≡ (there ++ filter p (out ∷ [])) ++ filter p later
behind p there out later = ap (λ l. there ++ l) (filter-append p (out ∷ []) later) ∙ sym (append_assoc there (filter p (out ∷ [])) (filter p later))

-- the first packet, and then the others
pub one_more_out : (a : Acting) (out : Outgoing) (later : List Outgoing) → given_out (out ∷ later) a ≡ given_out later (given_out (out ∷ []) a)
one_more_out a out later = λ i. record a {
  window = record a.window { queued = behind is_request a.window.queued out later i };
  ready = behind (λ out. not (is_request out)) a.ready out later i;
}

-- nothing is given out
pub none_out : (a : Acting) → given_out [] a ≡ a
none_out a = λ i. record a { window = record a.window { queued = append-nil a.window.queued i }; ready = append-nil a.ready i }

-- a packet is taken from the queue and given out, and then the others are given out
pub goes_on : (a new : Acting) (left : Manager) (out : Outgoing) → Some out ≡ (after_take_outgoing a.manager).packet
    → left ≡ (after_take_outgoing a.manager).manager → new ≡ given_out (out ∷ []) (record a { manager = left }) → collected new ≡ collected a
goes_on a new left out e same is =
    let empty : emptied left ≡ emptied a.manager = ap emptied same ∙ taken_emptied a.manager in
    let queue : out ∷ left.outgoing ≡ a.manager.outgoing = sym (first_is a.manager left out e same) in
    ap collected is ∙ sym (one_more_out (record a { manager = emptied left }) out left.outgoing)
    ∙ (λ i. given_out (queue i) (record a { manager = empty i }))

-- no packet is left in the queue
pub all_out : (a : Acting) (left : Manager) → None ≡ (after_take_outgoing a.manager).packet → left ≡ (after_take_outgoing a.manager).manager
    → record a { manager = left } ≡ collected a
all_out a left e same =
    let empty : left ≡ emptied a.manager = same ∙ none_emptied a.manager (sym e) in
    let queue : [] ≡ a.manager.outgoing = sym (none_is a.manager (sym e)) in
    sym (none_out (record a { manager = left })) ∙ (λ i. given_out (queue i) (record a { manager = empty i }))
