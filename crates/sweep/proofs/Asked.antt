-- Questions that come up, one after the other, at the end of the queue.
use Rattle.std.proofs.Common.{◌≡◌, ℕ, zero, suc, ◌+◌, true, false, List, [], ◌∷◌, ◌++◌, length, take, drop, refl, arith, ap, sym, ◌∙◌, append_assoc, length-append}
use Rattle.reply_facts.specs.declared.report.Context.{Context}
use Rattle.reply_facts.specs.declared.report.Context.TheVariants.{About}
use Rattle.smp_bytes.specs.NodeType.{is_switch}
use Rattle.std.proofs.lemmas.Bool.{cond-true, cond-false}
use Rattle.sweep.specs.declared.question.Question.TheVariants as ask
use Rattle.sweep.specs.declared.vertex.Vertex.{Vertex}
use Rattle.sweep.specs.Questions.{port_questions, vertex_questions}
use Rattle.sweep.specs.SweepRequests.{HasAsked, SweepRequests}
use Rattle.sweep.specs.Sweep.{Asking, numbered}

-- lists -----------------------------------------------------------------------------------------

pub plus_one : (n : ℕ) → n + 1 ≡ suc n
plus_one n = omega arith

take_suc : {T : Type 0} (n : ℕ) (xs : List T) → take (suc n) xs ≡ take n xs ++ take 1 (drop n xs)
take_suc zero [] = refl
take_suc zero (x ∷ xs) = refl
take_suc (suc n) [] = refl
take_suc (suc n) (x ∷ xs) = ap (λ rest. x ∷ rest) (take_suc n xs)

pub take_next : {T : Type 0} (n : ℕ) (xs : List T) → take (n + 1) xs ≡ take n xs ++ take 1 (drop n xs)
take_next n xs = ap (λ k. take k xs) (plus_one n) ∙ take_suc n xs

drop_suc : {T : Type 0} (n : ℕ) (xs : List T) → drop (suc n) xs ≡ drop 1 (drop n xs)
drop_suc zero xs = refl
drop_suc (suc n) [] = refl
drop_suc (suc n) (x ∷ xs) = drop_suc n xs

pub drop_next : {T : Type 0} (n : ℕ) (xs : List T) → drop (n + 1) xs ≡ drop 1 (drop n xs)
drop_next n xs = ap (λ k. drop k xs) (plus_one n) ∙ drop_suc n xs

-- numbers --------------------------------------------------------------------------------------

pub numbered_both : (next : ℕ) (first later : List Asking) → numbered next (first ++ later) ≡ numbered next first ++ numbered (next + length first) later
numbered_both next [] later = let e : next ≡ next + 0 = omega arith in ap (λ n. numbered n later) e
numbered_both next (a ∷ first) later =
    let e : next + 1 + length first ≡ next + suc (length first) = omega arith in
    ap (λ rest. record { number = next; question = a.question; path = a.path; context = a.context } ∷ rest) (numbered_both (next + 1) first later
    ∙ ap (λ n. numbered (next + 1) first ++ numbered n later) e)

pub length_numbered : (next : ℕ) (asked : List Asking) → length (numbered next asked) ≡ length asked
length_numbered next [] = refl
length_numbered next (a ∷ asked) = ap suc (length_numbered (next + 1) asked)

-- the one after the other
pub asked_both : (first later : List Asking) (old mid new : SweepRequests) → HasAsked first old mid → HasAsked later mid new → HasAsked (first ++ later) old new
asked_both first later old mid new a b =
    let long = length-append first later in
    record {
      next = omega (arith, a.next, b.next, long);
      outstanding = b.outstanding ∙ a.outstanding;
      queued =
          b.queued
          ∙ ap (λ q. q ++ numbered mid.next later) a.queued
          ∙ ap (λ n. (old.queued ++ numbered old.next first) ++ numbered n later) a.next
          ∙ append_assoc old.queued (numbered old.next first) (numbered (old.next + length first) later)
          ∙ ap (λ q. old.queued ++ q) (sym (numbered_both old.next first later));
      room = omega (arith, a.room, b.room, long);
    }

pub asked_none : (s : SweepRequests) → s.queued ++ [] ≡ s.queued → HasAsked [] s s
asked_none s e = record { next = omega arith; outstanding = refl; queued = sym e; room = omega arith }

-- ports ----------------------------------------------------------------------------------------

ports_suc : (port n : ℕ) (path : List ℕ) (context : Context) → port_questions port (suc n) path context ≡ port_questions port n path context
    ++ record { question = ask.Port (port + n); path = path; context = context } ∷ []
ports_suc port zero path context =
    let e : port ≡ port + 0 = omega arith in
    ap (λ k. record { question = ask.Port k; path = path; context = context } ∷ []) e
ports_suc port (suc n) path context =
    let e : port + 1 + n ≡ port + suc n = omega arith in
    ap (λ rest. record { question = ask.Port port; path = path; context = context } ∷ rest)
    (ports_suc (port + 1) n path context ∙ ap (λ k. port_questions (port + 1) n path context ++ record { question = ask.Port k; path = path; context = context }
    ∷ []) e)

-- from the management port on
pub ports_more : (n : ℕ) (path : List ℕ) (context : Context) → port_questions 0 (n + 1) path context ≡ port_questions 0 n path context
    ++ record { question = ask.Port n; path = path; context = context } ∷ []
ports_more n path context =
    let e : 0 + n ≡ n = omega arith in
    ap (λ k. port_questions 0 k path context) (plus_one n) ∙ ports_suc 0 n path context
    ∙ ap (λ k. port_questions 0 n path context ++ record { question = ask.Port k; path = path; context = context } ∷ []) e

pub length_ports : (port n : ℕ) (path : List ℕ) (context : Context) → length (port_questions port n path context) ≡ n
length_ports port zero path context = refl
length_ports port (suc n) path context = ap suc (length_ports (port + 1) n path context)

-- a new vertex ----------------------------------------------------------------------------------

pub switch_questions : (v : Vertex) → is_switch v.kind ≡ true → vertex_questions v ≡ record { question = ask.Switch; path = v.path; context = About v.guid }
    ∷ port_questions 0 (v.ports + 1) v.path (About v.guid)
switch_questions v e = cond-true _ _ _ e

pub length_switch : (v : Vertex) → is_switch v.kind ≡ true → length (vertex_questions v) ≡ v.ports + 2
length_switch v e =
    let long = length_ports 0 (v.ports + 1) v.path (About v.guid) in
    ap length (switch_questions v e) ∙ omega (arith, long)

pub length_adapter : (v : Vertex) → is_switch v.kind ≡ false → length (vertex_questions v) ≡ 1
length_adapter v e = ap length (cond-false _ _ _ e)
