-- What a sweep has covered stays so when it takes a reply of SMInfo, SwitchInfo or PortInfo.
use Rattle.std.proofs.Common.{◌≡◌, ◌⊎◌, inl, inr, ℕ, ◌+◌, Bool, true, not, List, [], ◌∷◌, ◌++◌, length, refl, sym, ap, ◌∙◌, subst, arith}
use Rattle.std.proofs.lemmas.Bool.{cond_both, and_parts, and_from, not-false}
use Rattle.std.specs.Prelude.{Some, find, nat_lt}
use Rattle.std.specs.List.{AllByRecursion}
use Rattle.fabric_model.specs.declared.cable.NodePort.{NodePort}
use Rattle.smp_bytes.specs.Field.{bits_in}
use Rattle.fabric_model.specs.Fabric.{Fabric}
use Rattle.fabric_model.proofs.FabricWalks.{port_at}
use Rattle.attr_codec.specs.PortInfo.{port_state}
use Rattle.fact_join.specs.declared.cell.Cell.TheVariants.{Known}
use Rattle.reply_facts.specs.declared.key.Key.TheVariants.{Port, Claim, Cap}
use Rattle.reply_facts.specs.declared.value.Value.TheVariants.{Up, Lid, Count}
use Rattle.reply_facts.specs.declared.report.Context.TheVariants.{About}
use Rattle.reply_facts.specs.Report.{Sightings, is_up_state}
use Rattle.sweep.specs.declared.question.Question.TheVariants as ask
use Rattle.sweep.specs.declared.request.Request.{Request}
use Rattle.sweep.specs.Sweep.{Sweep, Asking, asking, first_question}
use Rattle.sweep.specs.Finding.{asks_manager, goes_by, leads_on, one_too_far, onward}
use Rattle.sweep.specs.Questions.{manager_questions, onward_questions}
use Rattle.sweep.specs.Finding.{port_finding_of, port_found_of, with_finding}
use Rattle.sweep.specs.Questions.{port_found_questions}
use Rattle.manager_laws.specs.Truth.{HasNode}
use Rattle.manager_laws.proofs.Sound.{CanBeSwept, LeadsTo, IsSoundSweep}
use Rattle.manager_laws.proofs.Asked.{asking_of, IsPending}
use Rattle.manager_laws.proofs.Covered.{having, beyond, IsOrigin, IsRooted, Covered, Grows}
use Rattle.manager_laws.proofs.Known.{same_node}
use Rattle.manager_laws.proofs.Lists.{Has, has_left, has_right, all_append}
use Rattle.manager_laws.proofs.Taken.{is_rooted, some_reached, requests_after, pending_after, new_pending, goes_same}
use Rattle.manager_laws.proofs.Taken.{leaves_by, ended, having_after, covered_after, all_stay, start_stays}

-- questions and contexts tell themselves apart ----------------------------------------------------------

pub same_about : (g h : ℕ) → About g ≡ About h → g ≡ h
same_about g h e = cc

pub same_port : (p q : ℕ) → ask.Port p ≡ ask.Port q → p ≡ q
same_port p q e = cc

pub same_question : {a b : Asking} → a ≡ b → a.question ≡ b.question
same_question e = ap (λ (a : Asking). a.question) e

pub same_context : {a b : Asking} → a ≡ b → a.context ≡ b.context
same_context e = ap (λ (a : Asking). a.context) e

module _ {f : Fabric} {seat : NodePort} (can : CanBeSwept f seat) (s : Sweep) (told : Sightings) (c : Covered f seat s told) (sound : IsSoundSweep f seat s)
    (r : Request) (t : Request → Bool) (found : find t s.outstanding ≡ Some r) (generation : ℕ) where
  -- the reply of a manager, which tells no facts ------------------------------------------------------------

  module _ (guid port : ℕ) (question : r.question ≡ ask.Manager guid port) where
    manager_grows : Grows f seat (having s told) (having_after can s told c sound r t found [] s.reached (told ++ [])) (asking_of r)
    manager_grows =
        record {
          pending = pending_after can s told c sound r t found [];
          reached = λ P h. h;
          told = λ key h. has_left (λ x. x.0 ≡ key) told [] h;
          first = λ v switch e. e;
          switch = λ v e. let clash : ask.Manager guid port ≡ ask.Switch = sym question ∙ same_question e in absurd (cc);
          port = λ v covers p e. let clash : ask.Manager guid port ≡ ask.Port p = sym question ∙ same_question e in absurd (cc);
          node = λ path g id p n far has e cable. let clash : ask.Manager guid port ≡ ask.Node = sym question ∙ same_question e in absurd (cc);
        }

    -- the question that the sweep began with is pending still, where no vertex was reached
    still_first : (IsPending (requests_after can s told c sound r t found []) first_question × (s.reached ≡ [])) ⊎ Has (IsOrigin f seat) s.reached
    still_first = elim c.start [ inl k ↦ by_pending k.1 (pending_after can s told c sound r t found [] first_question k.0) | inr k ↦ inr k ]
      where
        by_pending : s.reached ≡ [] → (asking_of r ≡ first_question) ⊎ IsPending (requests_after can s told c sound r t found []) first_question
            → (IsPending (requests_after can s told c sound r t found []) first_question × (s.reached ≡ [])) ⊎ Has (IsOrigin f seat) s.reached
        by_pending none (inl e) = let clash : ask.Manager guid port ≡ ask.Node = sym question ∙ same_question e in absurd (cc)
        by_pending none (inr k) = inl (k, none)

    pub manager_covered : (states : _) (too_far : ℕ)
        → Covered f seat (record (asking (ended can s told c sound r t found) []) { reached = s.reached; states = states; too_far = too_far }) (told ++ [])
    manager_covered states too_far =
        covered_after can s told c sound r t found [] s.reached states too_far [] manager_grows tt
        (all_stay can s told c sound r t found [] [] manager_grows) tt still_first

  -- the reply to a question about a switch ------------------------------------------------------------------

  module _ (guid : ℕ) (question : r.question ≡ ask.Switch) (context : r.context ≡ About guid) (count : ℕ) where
    abbrev cap_told : Sightings
    cap_told = (Cap guid, Known generation (Count count)) ∷ []

    switch_grows : Grows f seat (having s told) (having_after can s told c sound r t found [] s.reached (told ++ cap_told)) (asking_of r)
    switch_grows =
        record {
          pending = pending_after can s told c sound r t found [];
          reached = λ P h. h;
          told = λ key h. has_left (λ x. x.0 ≡ key) told cap_told h;
          first = λ v switch e. e;
          switch = λ v e. let same = same_about guid v.guid (sym context ∙ same_context e) in
              has_right (λ x. x.0 ≡ Cap v.guid) told cap_told (inl (ap Cap same));
          port = λ v covers p e. let clash : ask.Switch ≡ ask.Port p = sym question ∙ same_question e in absurd (cc);
          node = λ path g id p n far has e cable. let clash : ask.Switch ≡ ask.Node = sym question ∙ same_question e in absurd (cc);
        }

    pub switch_covered : (states : _) (too_far : ℕ)
        → Covered f seat (record (asking (ended can s told c sound r t found) []) { reached = s.reached; states = states; too_far = too_far })
        (told ++ cap_told)
    switch_covered states too_far =
        covered_after can s told c sound r t found [] s.reached states too_far cap_told switch_grows tt
        (all_stay can s told c sound r t found [] cap_told switch_grows) (tt, tt)
        (inr (start_stays can s told c sound r t found (some_reached can s told c sound r t found guid context)))

  -- the reply to a question about a port ----------------------------------------------------------------------

  module _ (guid p : ℕ) (question : r.question ≡ ask.Port p) (context : r.context ≡ About guid) (to : LeadsTo f seat r.path guid) (n lid : ℕ)
      (up : (far : NodePort) → f.across (port_at to.end.node p) ≡ Some far → is_up_state n ≡ true) where
    abbrev port_told : Sightings
    port_told = (Port guid p, Known generation (Up (is_up_state n))) ∷ (Claim guid p, Known generation (Lid lid)) ∷ []

    port_grows : (asked : List Asking)
        → (is_up_state n ≡ true → goes_by s r.path guid p ≡ true → Has (λ b. b ≡ beyond r.path guid p) asked)
        → Grows f seat (having s told) (having_after can s told c sound r t found asked s.reached (told ++ port_told)) (asking_of r)
    port_grows asked on =
        record {
          pending = pending_after can s told c sound r t found asked;
          reached = λ P h. h;
          told = λ key h. has_left (λ x. x.0 ≡ key) told port_told h;
          first = λ v switch e. e;
          switch = λ v e. let clash : ask.Port p ≡ ask.Switch = sym question ∙ same_question e in absurd (cc);
          port = λ v covers q e.
              let same = same_about guid v.guid (sym context ∙ same_context e) in
              let number = same_port p q (sym question ∙ same_question e) in
              let path : r.path ≡ v.path = ap (λ (a : Asking). a.path) e in
              let has : HasNode f v.guid to.end.node to.node = record { there = to.has.there; named = to.has.named ∙ same } in
              let id = (same_node f can.distinct covers.has has).0 in (
                has_right (λ x. x.0 ≡ Port v.guid q) told port_told (inl (λ j. Port (same j) (number j))),
                λ far cable leads.
                    let goes : goes_by s v.path v.guid q ≡ true = goes_same can s told c sound r t found v q covers ∙ leads in
                    let here : goes_by s r.path guid p ≡ true = (λ j. goes_by s (path j) (same j) (number j)) ∙ goes in
                    let over : f.across (port_at to.end.node p) ≡ Some far = (λ j. f.across (port_at (sym id j) (number j))) ∙ cable in
                    let next = on (up far over) here in
                    inl (new_pending can s told c sound r t found asked (beyond v.path v.guid q)
                    (subst (λ a. Has (λ b. b ≡ a) asked) (λ j. beyond (path j) (same j) (number j)) next)),
              );
          node = λ path g id q node far has e cable. let clash : ask.Port p ≡ ask.Node = sym question ∙ same_question e in absurd (cc);
        }

    port_covered : (asked : List Asking) (states : _) (too_far : ℕ)
        → (is_up_state n ≡ true → goes_by s r.path guid p ≡ true → Has (λ b. b ≡ beyond r.path guid p) asked)
        → AllByRecursion (λ (a : Asking). IsRooted f seat s.reached a.context) asked
        → Covered f seat (record (asking (ended can s told c sound r t found) asked) { reached = s.reached; states = states; too_far = too_far })
        (told ++ port_told)
    port_covered asked states too_far on rooted =
        let g = port_grows asked on in
        covered_after can s told c sound r t found asked s.reached states too_far port_told g rooted
        (all_stay can s told c sound r t found asked port_told g) (tt, (tt, tt))
        (inr (start_stays can s told c sound r t found (some_reached can s told c sound r t found guid context)))

    -- what is asked across the port, where nothing is too far
    asks_on : (info : List ℕ) → bits_in port_state info ≡ n → s.too_far + one_too_far (onward s r.path guid p info) ≡ 0
        → is_up_state n ≡ true → goes_by s r.path guid p ≡ true → Has (λ b. b ≡ beyond r.path guid p)
        (onward_questions r.path guid p (onward s r.path guid p info))
    asks_on info number near is goes =
        cond_both (not (leads_on s r.path guid p info)) _ _
        (λ o. s.too_far + one_too_far o ≡ 0 → Has (λ b. b ≡ beyond r.path guid p) (onward_questions r.path guid p o))
        (λ no. absurd (cc (sym no ∙ ap not (and_from _ _ (ap is_up_state number ∙ is) goes))))
        (λ _. cond_both (nat_lt (length r.path) 63) _ _
        (λ o. s.too_far + one_too_far o ≡ 0 → Has (λ b. b ≡ beyond r.path guid p) (onward_questions r.path guid p o))
        (λ _ few. inl refl) (λ _ few. absurd (omega (arith, few)))) near

    onward_rooted : (info : List ℕ) → AllByRecursion (λ (x : Asking). IsRooted f seat s.reached x.context)
        (onward_questions r.path guid p (onward s r.path guid p info))
    onward_rooted info =
        cond_both (not (leads_on s r.path guid p info)) _ _
        (λ o. AllByRecursion (λ (x : Asking). IsRooted f seat s.reached x.context) (onward_questions r.path guid p o))
        (λ _. tt)
        (λ both. cond_both (nat_lt (length r.path) 63) _ _
        (λ o. AllByRecursion (λ (x : Asking). IsRooted f seat s.reached x.context) (onward_questions r.path guid p o))
        (λ _. (
          leaves_by can s told c sound r t found guid p context to
              (and_parts (is_up_state (bits_in port_state info)) (goes_by s r.path guid p) (not-false (leads_on s r.path guid p info) both)).1,
          tt,
        ))
        (λ _. tt))

    -- the manager is asked about the node that the request was about
    manager_rooted : (info : List ℕ)
        → AllByRecursion (λ (x : Asking). IsRooted f seat s.reached x.context) (manager_questions r.path (port_finding_of s r.path guid p info))
    manager_rooted info =
        cond_both (asks_manager s r.path guid info) _ _ (AllByRecursion (λ (x : Asking). IsRooted f seat s.reached x.context))
        (λ _. (subst (IsRooted f seat s.reached) context (is_rooted can s told c sound r t found), tt)) (λ _. tt)

    pub port_covers : (info : List ℕ) → bits_in port_state info ≡ n
        → (with_finding (ended can s told c sound r t found) r.path (port_found_of s r.path guid p info)).too_far ≡ 0
        → Covered f seat (with_finding (ended can s told c sound r t found) r.path (port_found_of s r.path guid p info)) (told ++ port_told)
    port_covers info number near =
        port_covered (port_found_questions r.path (port_finding_of s r.path guid p info)) _ _
        (λ is goes. has_right (λ b. b ≡ beyond r.path guid p) (manager_questions r.path (port_finding_of s r.path guid p info)) _
        (asks_on info number near is goes))
        (all_append (λ (x : Asking). IsRooted f seat s.reached x.context) (manager_questions r.path (port_finding_of s r.path guid p info)) _
        (manager_rooted info) (onward_rooted info))
