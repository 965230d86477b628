-- A directed walk goes on from where a shorter one ends.
use Rattle.std.proofs.Common.{◌≡◌, ℕ, zero, suc, ◌<◌, Bool, true, false, cond, List, [], ◌∷◌, ◌++◌, length, refl, sym, ap, ◌∙◌, arith}
use Rattle.std.proofs.lemmas.Option.{same_Some}
use Rattle.std.specs.Prelude.{Option, Some, None, option_and_then, slice_index}
use Rattle.fabric_model.specs.declared.cable.NodePort.{NodePort}
use Rattle.fabric_model.specs.Fabric.{Fabric, is_switch_at}
use Rattle.fabric_model.specs.DirectedWalk.{on_by, walk_on, directed_end}
use Rattle.fabric_model.specs.FabricLaws.{WalksGoOn}

and_then-some : (m : Option NodePort) → option_and_then (λ x. Some x) m ≡ m
and_then-some None = refl
and_then-some (Some x) = refl

-- one more port at the end of a walk that goes on from some port, if it does so wherever that is
on-from : (f : Fabric) (path : List ℕ) (out : ℕ) (m : Option NodePort)
    → ((p : NodePort) → walk_on f p (path ++ out ∷ []) ≡ option_and_then (on_by f out) (walk_on f p path))
    → option_and_then (λ p. walk_on f p (path ++ out ∷ [])) m ≡ option_and_then (on_by f out) (option_and_then (λ p. walk_on f p path) m)
on-from f path out None h = refl
on-from f path out (Some p) h = h p

pub walk_on-snoc : (f : Fabric) (p : NodePort) (path : List ℕ) (out : ℕ)
    → walk_on f p (path ++ out ∷ []) ≡ option_and_then (on_by f out) (walk_on f p path)
walk_on-snoc f p [] out = and_then-some (on_by f out p)
walk_on-snoc f p (o ∷ path) out = on-from f path out (on_by f o p) (λ q. walk_on-snoc f q path out)

pub walks_go_on : WalksGoOn
walks_go_on f origin first path out =
    on-from f path out (f.across (record { node = origin.node; port = first })) (λ q. walk_on-snoc f q path out)

-- the ports of arrival along a path, one after the other ------------------------------

-- where a walk along a path stops after each of its ports: at a port across a cable, and at a switch where it goes on
pub record Stops (f : Fabric) (start : NodePort) (path : List ℕ) (end : NodePort) : Type 0 where
  pub at : ℕ → NodePort
  pub first : at 0 ≡ start
  pub last : at (length path) ≡ end
  pub wires : (k : ℕ) → k < length path → f.across (record { node = (at k).node; port = slice_index path k }) ≡ Some (at (suc k))
  pub switches : (k : ℕ) → 0 < k → k < length path → is_switch_at f (at k).node ≡ true

crosses : (f : Fabric) (out : ℕ) (p q : NodePort) → on_by f out p ≡ Some q
    → (is_switch_at f p.node ≡ true) × (f.across (record { node = p.node; port = out }) ≡ Some q)
crosses f out p q h = by_switch (is_switch_at f p.node) refl
  where
    by_switch : (b : Bool) → is_switch_at f p.node ≡ b → (is_switch_at f p.node ≡ true) × (f.across (record { node = p.node; port = out }) ≡ Some q)
    by_switch true e = (e, sym (ap (λ b. cond b (f.across (record { node = p.node; port = out })) None) e) ∙ h)
    by_switch false e = absurd (cc (sym (ap (λ b. cond b (f.across (record { node = p.node; port = out })) None) e) ∙ h))

no_hop : (f : Fabric) (p end : NodePort) → p ≡ end → Stops f p [] end
no_hop f p end same =
    record { at = λ k. p; first = refl; last = same; wires = λ k less. absurd (omega arith); switches = λ k some less. absurd (omega arith) }

-- a port in front of those of a walk
abbrev in_front : NodePort → (ℕ → NodePort) → ℕ → NodePort
in_front p at zero = p
in_front p at (suc k) = at k

one_more : (f : Fabric) (p q end : NodePort) (out : ℕ) (path : List ℕ) → f.across (record { node = p.node; port = out }) ≡ Some q
    → (0 < length path → is_switch_at f q.node ≡ true) → Stops f q path end → Stops f p (out ∷ path) end
one_more f p q end out path wire passes s =
    record { at = in_front p s.at; first = refl; last = s.last; wires = wires; switches = switches }
  where
    wires : (k : ℕ) → k < length (out ∷ path) → f.across (record { node = (in_front p s.at k).node; port = slice_index (out ∷ path) k }) ≡ Some (s.at k)
    wires zero h = wire ∙ ap (λ x. Some x) (sym s.first)
    wires (suc k) h = s.wires k (omega arith)

    switches : (k : ℕ) → 0 < k → k < length (out ∷ path) → is_switch_at f (in_front p s.at k).node ≡ true
    switches zero some h = absurd (omega arith)
    switches (suc zero) some h = ap (λ (x : NodePort). is_switch_at f x.node) s.first ∙ passes (omega arith)
    switches (suc (suc k)) some h = s.switches (suc k) (omega arith) (omega arith)

-- a walk that goes on from a port, and whether a switch is there
record GoesOn (f : Fabric) (p : NodePort) (path : List ℕ) (end : NodePort) : Type 0 where
  pub stops : Stops f p path end
  pub passes : 0 < length path → is_switch_at f p.node ≡ true

goes_on : (f : Fabric) (p : NodePort) (path : List ℕ) (end : NodePort) → walk_on f p path ≡ Some end → GoesOn f p path end
goes_on f p [] end h =
    record {
      stops = no_hop f p end (same_Some p end h);
      passes = λ some. absurd (omega arith);
    }
goes_on f p (out ∷ path) end h = by_port (λ q. goes_on f q path end) (on_by f out p) refl h
  where
    by_port : ((q : NodePort) → walk_on f q path ≡ Some end → GoesOn f q path end) → (m : Option NodePort) → on_by f out p ≡ m
        → option_and_then (λ q. walk_on f q path) m ≡ Some end → GoesOn f p (out ∷ path) end
    by_port further None e h = absurd (cc)
    by_port further (Some q) e h =
        let (switch, wire) = crosses f out p q e in
        let rest = further q h in
        record { stops = one_more f p q end out path wire rest.passes rest.stops; passes = λ some. switch }

-- a path that has an end leads there stop by stop
pub stops_along : (f : Fabric) (origin : NodePort) (path : List ℕ) (end : NodePort) → directed_end f origin path ≡ Some end → Stops f origin path end
stops_along f origin [] end h =
    no_hop f origin end (same_Some origin end h)
stops_along f origin (out ∷ path) end h = by_port (f.across (record { node = origin.node; port = out })) refl h
  where
    by_port : (m : Option NodePort) → f.across (record { node = origin.node; port = out }) ≡ m → option_and_then (λ q. walk_on f q path) m ≡ Some end
        → Stops f origin (out ∷ path) end
    by_port None e h = absurd (cc)
    by_port (Some q) e h = let rest = goes_on f q path end h in one_more f origin q end out path e rest.passes rest.stops
