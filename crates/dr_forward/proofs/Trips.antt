-- A request along its path, step by step, and its answer back: what the bytes are at each stop.
use Rattle.std.proofs.Common.{◌≡◌, ℕ, ◌+◌, ◌^◌, ◌<◌, ◌≤◌, ◌⊎◌, inl, inr, ◌==◌, ◌/◌, ◌%◌, Bool, true, false, List, length, get_or, refl, sym, ap, ◌∙◌, subst, arith}
use Rattle.std.proofs.lemmas.Bool.{eqb-true, eqb-false}
use Rattle.std.specs.Prelude.{None, slice_index}
use Rattle.smp_bytes.specs.Field.{Field, number_in}
use Rattle.smp_bytes.specs.Packet.{hop_pointer, hop_count, initial_path, return_path, is_returning, is_directed, is_response, fault_of}
use Rattle.smp_bytes.specs.Requests.{answer_packet}
use Rattle.smp_bytes.specs.ReadBack.{HoldsAnswer, IsKeptInAnswer}
use Rattle.smp_bytes.proofs.FieldLaws.{number_in-alike}
use Rattle.dr_forward.specs.declared.here.Here.{Here}
use Rattle.dr_forward.specs.declared.verdict.Verdict.TheVariants.{Out, ToAgent, ToManager}
use Rattle.dr_forward.specs.DirectedStep.{pointed, moved_on, step}
use Rattle.dr_forward.proofs.Rows.{out_row, agent_row, back_row, home_row, IsKeptInStep, pointed_is, pointed_keeps_notes, moved_on_is, moved_on_notes, moved_on_keeps_notes}

-- bytes that a step keeps --------------------------------------------------------------

-- the same bytes but for the hop pointer and the path back
abbrev pub IsKeptFrom : List ℕ → List ℕ → Type 0
IsKeptFrom old new = (offset : ℕ) → IsKeptInStep offset → get_or new offset 0 ≡ get_or old offset 0

-- the field holds no byte that a step writes
abbrev pub IsKeptField : Field → Type 0
IsKeptField f = (f.at + f.len ≤ 6) ⊎ ((7 ≤ f.at) × (f.at + f.len ≤ 192))

offset_kept : (f : Field) (offset : ℕ) → IsKeptField f → f.at ≤ offset → offset < f.at + f.len → IsKeptInStep offset
offset_kept f offset (inl before) from less = inl (omega arith)
offset_kept f offset (inr within) from less = inr (omega (arith, within.0), omega (arith, within.1))

pub field_kept : (f : Field) (old new : List ℕ) → IsKeptField f → IsKeptFrom old new → number_in f new ≡ number_in f old
field_kept f old new in_kept kept = number_in-alike f new old (λ offset from less. kept offset (offset_kept f offset in_kept from less))

-- the way out --------------------------------------------------------------------------

-- what is read of a request on its way
pub record IsRequestOver (path : List ℕ) (request : List ℕ) : Type 0 where
  pub short : length path ≤ 63
  pub directed : is_directed request ≡ true
  pub outgoing : is_returning request ≡ false
  pub asks : is_response request ≡ false
  pub hops : number_in hop_count request ≡ length path
  pub ports : (i : ℕ) → i < length path → number_in (initial_path (i + 1)) request ≡ slice_index path i

-- the request as it is at its k-th stop: the ports by which it came to the stops before are noted
pub record IsOut (request : List ℕ) (noted : ℕ → ℕ) (k : ℕ) (bytes : List ℕ) : Type 0 where
  pub count : length bytes ≡ 256
  pub parses : fault_of bytes ≡ None
  pub kept : IsKeptFrom request bytes
  pub pointer : number_in hop_pointer bytes ≡ k
  pub notes : (i : ℕ) → 0 < i → i < k → number_in (return_path i) bytes ≡ noted i

module _ {path request : List ℕ} (r : IsRequestOver path request) (noted : ℕ → ℕ) (small : (i : ℕ) → 0 < i → i ≤ length path → noted i < 256) where
  module _ {bytes : List ℕ} {k : ℕ} (o : IsOut request noted k bytes) where
    pub out_directed : is_directed bytes ≡ true
    out_directed = ap (λ n. n == 0x81) (field_kept (record { at = 1; len = 1 }) request bytes (inl (omega arith)) o.kept) ∙ r.directed

    pub out_not_returning : is_returning bytes ≡ false
    out_not_returning = ap (λ b. b / 2 ^ 7 % 2 ^ 1 == 1) (o.kept 4 (inl (omega arith))) ∙ r.outgoing

    pub out_asks : is_response bytes ≡ false
    out_asks = ap (λ b. b / 2 ^ 7 % 2 ^ 1 == 1) (o.kept 3 (inl (omega arith))) ∙ r.asks

    pub out_hops : number_in hop_count bytes ≡ length path
    out_hops = field_kept hop_count request bytes (inr (omega arith, omega arith)) o.kept ∙ r.hops

    moves : (here : Here) → k ≤ length path → (0 < k → here.arrival ≡ noted k) → IsOut request noted (k + 1) (moved_on here bytes)
    moves here within arrives =
        let at_most : number_in hop_pointer bytes < 64 = omega (arith, o.pointer, within, r.short) in
        let new = moved_on_is bytes o.count here at_most in
        record {
          count = new.count;
          parses = new.parses o.parses (omega (arith, o.pointer, within, out_hops));
          kept = λ offset h. new.kept offset h ∙ o.kept offset h;
          pointer = new.pointer_is ∙ ap (λ n. n + 1) o.pointer;
          notes = notes;
        }
      where
        here_noted : 0 < k → number_in (return_path k) (moved_on here bytes) ≡ noted k
        here_noted some =
            subst (λ n. number_in (return_path n) (moved_on here bytes) ≡ here.arrival) o.pointer
            (moved_on_notes bytes o.count here (omega (arith, o.pointer)) (omega (arith, o.pointer, within, r.short))
            (omega (arith, arrives some, small k some within)))
            ∙ arrives some

        notes : (i : ℕ) → 0 < i → i < k + 1 → number_in (return_path i) (moved_on here bytes) ≡ noted i
        notes i some less = by_index (i == k) refl
          where
            by_index : (b : Bool) → (i == k) ≡ b → number_in (return_path i) (moved_on here bytes) ≡ noted i
            by_index true e =
                let same : i ≡ k = eqb-true i k e in
                subst (λ n. number_in (return_path n) (moved_on here bytes) ≡ noted n) (sym same) (here_noted (omega (arith, some, same)))
            by_index false e =
                let before : i < k = omega (arith, less, eqb-false i k e) in
                moved_on_keeps_notes bytes o.count here i (omega (arith, o.pointer, within, r.short)) (omega (arith, before, within, r.short))
                (inl (omega (arith, before, o.pointer)))
                ∙ o.notes i some before

    -- it goes on from a stop before the last
    pub record GoesOut (here : Here) (port : ℕ) : Type 0 where
      pub step_is : step here bytes ≡ record { packet = moved_on here bytes; verdict = Out port }
      pub then : IsOut request noted (k + 1) (moved_on here bytes)

    pub goes_out : (here : Here) → k < length path → (k ≡ 0) ⊎ (here.is_switch ≡ true) → (0 < k → here.arrival ≡ noted k)
        → 1 ≤ slice_index path k → slice_index path k ≤ here.ports → GoesOut here (slice_index path k)
    goes_out here before passes arrives some most =
        let next : number_in (initial_path (k + 1)) bytes ≡ slice_index path k =
        field_kept (initial_path (k + 1)) request bytes (inr (omega arith, omega (arith, before, r.short))) o.kept ∙ r.ports k before in
        record {
          step_is = out_row here bytes k (slice_index path k) out_not_returning o.pointer (omega (arith, before, out_hops)) passes next some most;
          then = moves here (omega (arith, before)) arrives;
        }

    -- it comes to the agent at the last
    pub record ComesToAgent (here : Here) : Type 0 where
      pub step_is : step here bytes ≡ record { packet = moved_on here bytes; verdict = ToAgent }
      pub then : IsOut request noted (k + 1) (moved_on here bytes)

    pub comes_to_agent : (here : Here) → k ≡ length path → (0 < k → here.arrival ≡ noted k) → ComesToAgent here
    comes_to_agent here last arrives =
        record {
          step_is = agent_row here bytes out_not_returning (o.pointer ∙ last ∙ sym out_hops);
          then = moves here (omega (arith, last)) arrives;
        }

-- the way back -------------------------------------------------------------------------

-- the answer as it is at its k-th stop, on its way back: all the ports are noted by which the request came
pub record IsBack (answer : List ℕ) (noted : ℕ → ℕ) (hops k : ℕ) (bytes : List ℕ) : Type 0 where
  pub count : length bytes ≡ 256
  pub parses : fault_of bytes ≡ None
  pub kept : IsKeptFrom answer bytes
  pub pointer : number_in hop_pointer bytes ≡ k + 1
  pub notes : (i : ℕ) → 0 < i → i ≤ hops → number_in (return_path i) bytes ≡ noted i

-- what is read of an answer on its way
pub record IsAnswerBack (hops : ℕ) (answer : List ℕ) : Type 0 where
  pub short : hops ≤ 63
  pub directed : is_directed answer ≡ true
  pub returning : is_returning answer ≡ true
  pub hops_are : number_in hop_count answer ≡ hops

kept_in_answer : (offset : ℕ) → (128 ≤ offset) ⊎ ((6 ≤ offset) × (offset < 64)) → IsKeptInAnswer offset
kept_in_answer offset (inl h) = inr (inr h)
kept_in_answer offset (inr h) = inr (inl h)

-- what an agent answers at the end of the path begins the way back
pub record Turns (path : List ℕ) (noted : ℕ → ℕ) (answer : List ℕ) : Type 0 where
  pub begins : IsBack answer noted (length path) (length path) answer
  pub reads : IsAnswerBack (length path) answer

module _ {path request : List ℕ} (r : IsRequestOver path request) (noted : ℕ → ℕ) (small : (i : ℕ) → 0 < i → i ≤ length path → noted i < 256)
    {bytes : List ℕ} (o : IsOut request noted (length path + 1) bytes) (given : ℕ) (payload : List ℕ)
    (a : HoldsAnswer bytes (answer_packet bytes given payload) given payload) where
  same_field : (f : Field) → (128 ≤ f.at) ⊎ ((6 ≤ f.at) × (f.at + f.len ≤ 64)) → number_in f (answer_packet bytes given payload) ≡ number_in f bytes
  same_field f apart =
      number_in-alike f (answer_packet bytes given payload) bytes (λ offset from less. a.kept offset (kept_in_answer offset (inside f offset apart from less)))
    where
      inside : (f : Field) (offset : ℕ) → (128 ≤ f.at) ⊎ ((6 ≤ f.at) × (f.at + f.len ≤ 64)) → f.at ≤ offset → offset < f.at + f.len
          → (128 ≤ offset) ⊎ ((6 ≤ offset) × (offset < 64))
      inside f offset (inl h) from less = inl (omega arith)
      inside f offset (inr h) from less = inr (omega (arith, h.0), omega (arith, h.1))

  pub turns : Turns path noted (answer_packet bytes given payload)
  turns =
      record {
        begins = record {
          count = a.count;
          parses = a.parses;
          kept = λ offset h. refl;
          pointer = same_field hop_pointer (inr (omega arith, omega arith)) ∙ o.pointer;
          notes = λ i some most. same_field (return_path i) (inl (omega arith)) ∙ o.notes i some (omega (arith, most));
        };
        reads = record {
          short = r.short;
          directed = a.class ∙ out_directed r noted small o;
          returning = a.returning (out_directed r noted small o);
          hops_are = same_field hop_count (inr (omega arith, omega arith))
              ∙ field_kept hop_count request bytes (inr (omega arith, omega arith)) o.kept
              ∙ r.hops;
        };
      }

module _ {hops : ℕ} {answer : List ℕ} (r : IsAnswerBack hops answer) (noted : ℕ → ℕ) {bytes : List ℕ} {k : ℕ} (b : IsBack answer noted hops k bytes) where
  pub back_directed : is_directed bytes ≡ true
  back_directed = ap (λ n. n == 0x81) (field_kept (record { at = 1; len = 1 }) answer bytes (inl (omega arith)) b.kept) ∙ r.directed

  pub back_returning : is_returning bytes ≡ true
  back_returning = ap (λ n. n / 2 ^ 7 % 2 ^ 1 == 1) (b.kept 4 (inl (omega arith))) ∙ r.returning

  pub back_hops : number_in hop_count bytes ≡ hops
  back_hops = field_kept hop_count answer bytes (inr (omega arith, omega arith)) b.kept ∙ r.hops_are

  -- it goes on by the port that was noted
  pub record GoesBack (here : Here) (before : ℕ) : Type 0 where
    pub step_is : step here bytes ≡ record { packet = pointed k bytes; verdict = Out (noted k) }
    pub then : IsBack answer noted hops before (pointed k bytes)

  pub goes_back : (here : Here) (before : ℕ) → k ≡ before + 1 → k ≤ hops → (hops ≡ k) ⊎ (here.is_switch ≡ true) → 1 ≤ noted k → noted k ≤ here.ports
      → GoesBack here before
  goes_back here before is most passes some within =
      let new = pointed_is bytes b.count k (omega (arith, most, r.short)) in
      record {
        step_is = back_row here bytes k (noted k) back_returning b.pointer (omega (arith, is)) (from_end passes)
            (b.notes k (omega (arith, is)) most) some within;
        then = record {
          count = new.count;
          parses = new.parses b.parses (omega (arith, most, back_hops));
          kept = λ offset h. new.kept offset h ∙ b.kept offset h;
          pointer = new.pointer_is ∙ is;
          notes = λ i one upto. pointed_keeps_notes bytes b.count k i (omega (arith, upto, r.short)) ∙ b.notes i one upto;
        };
      }
    where
      from_end : (hops ≡ k) ⊎ (here.is_switch ≡ true) → (number_in hop_count bytes ≡ k) ⊎ (here.is_switch ≡ true)
      from_end (inl e) = inl (back_hops ∙ e)
      from_end (inr e) = inr e

  -- it is back where the request was sent
  pub record IsHome (here : Here) : Type 0 where
    pub step_is : step here bytes ≡ record { packet = pointed 0 bytes; verdict = ToManager }
    pub kept : IsKeptFrom answer (pointed 0 bytes)
    pub count : length (pointed 0 bytes) ≡ 256
    pub parses : fault_of (pointed 0 bytes) ≡ None
    pub pointer : number_in hop_pointer (pointed 0 bytes) ≡ 0

  pub is_home : (here : Here) → k ≡ 0 → IsHome here
  is_home here first =
      let new = pointed_is bytes b.count 0 (omega arith) in
      record {
        step_is = home_row here bytes back_returning (b.pointer ∙ ap (λ n. n + 1) first);
        kept = λ offset h. new.kept offset h ∙ b.kept offset h;
        count = new.count;
        parses = new.parses b.parses (omega arith);
        pointer = new.pointer_is;
      }
