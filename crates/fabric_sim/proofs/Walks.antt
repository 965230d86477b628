-- Where a directed walk stops after each of its ports, as far as it goes.
use Rattle.std.proofs.Common.{◌≡◌, ◌⊎◌, inl, inr, ℕ, suc, ◌+◌, ◌<◌, ◌≤◌, Bool, true, false, cond, List, [], ◌∷◌, ◌++◌, length, refl, sym, ap, ◌∙◌, arith}
use Rattle.std.proofs.Math.Seq.{take-suc}
use Rattle.std.proofs.lemmas.List.{take_all, length-take-le}
use Rattle.std.proofs.lemmas.Option.{same_Some}
use Rattle.std.specs.Prelude.{Option, Some, None, option_and_then, slice_index, take}
use Rattle.std.specs.Option.{option_map_or}
use Rattle.fabric_model.specs.declared.cable.NodePort.{NodePort}
use Rattle.fabric_model.specs.Fabric.{Fabric, is_switch_at}
use Rattle.fabric_model.specs.DirectedWalk.{on_by, directed_end}
use Rattle.fabric_model.proofs.DirectedWalks.{walks_go_on}

-- the end of the walk along the first ports of a path
abbrev pub stop : Fabric → NodePort → List ℕ → ℕ → Option NodePort
stop f origin path k = directed_end f origin (take k path)

-- the port by which a packet comes there
unfoldable pub noted : Fabric → NodePort → List ℕ → ℕ → ℕ
noted f origin path k = option_map_or (λ (q : NodePort). q.port) (stop f origin path k) 0

pub noted_is : (f : Fabric) (origin : NodePort) (path : List ℕ) (k : ℕ) (q : NodePort) → stop f origin path k ≡ Some q → q.port ≡ noted f origin path k
unfolding noted
noted_is f origin path k q there = sym (ap (λ m. option_map_or (λ (x : NodePort). x.port) m 0) there)

-- one port more at the end of a walk
on_from_end : (f : Fabric) (origin : NodePort) (path : List ℕ) (out : ℕ) (p : NodePort) → directed_end f origin path ≡ Some p
    → (0 < length path → is_switch_at f p.node ≡ true)
    → directed_end f origin (path ++ out ∷ []) ≡ f.across (record { node = p.node; port = out })
on_from_end f origin [] out p there passes =
    and_then_some (f.across (record { node = origin.node; port = out }))
    ∙ ap (λ (x : NodePort). f.across (record { node = x.node; port = out })) (same_Some origin p there)
  where
    and_then_some : (m : Option NodePort) → option_and_then (λ x. Some x) m ≡ m
    and_then_some None = refl
    and_then_some (Some x) = refl
on_from_end f origin (first ∷ path) out p there passes =
    walks_go_on f origin first path out
    ∙ ap (option_and_then (on_by f out)) there
    ∙ ap (λ b. cond b (f.across (record { node = p.node; port = out })) None) (passes (omega arith))

module _ (f : Fabric) (origin : NodePort) (path : List ℕ) where
  one_more : (k : ℕ) → k < length path → take (suc k) path ≡ take k path ++ slice_index path k ∷ []
  one_more k less = take-suc path k 0 less

  length_taken : (k : ℕ) → k ≤ length path → length (take k path) ≡ k
  length_taken k most = length-take-le k path most

  longer : (k : ℕ) → stop f origin path (k + 1) ≡ stop f origin path (suc k)
  longer k = let same : k + 1 ≡ suc k = omega arith in ap (stop f origin path) same

  -- on from a stop, over the cable in the path's next port
  pub stop_next : (k : ℕ) (p q : NodePort) → k < length path → stop f origin path k ≡ Some p → (k ≡ 0) ⊎ (is_switch_at f p.node ≡ true)
      → f.across (record { node = p.node; port = slice_index path k }) ≡ Some q → stop f origin path (k + 1) ≡ Some q
  stop_next k p q less there passes wire =
      let long = length_taken k (omega (arith, less)) in
      longer k
      ∙ ap (directed_end f origin) (one_more k less)
      ∙ on_from_end f origin (take k path) (slice_index path k) p there (λ some. elim passes [ inl e ↦ absurd (omega (arith, e, long, some)) | inr e ↦ e ])
      ∙ wire

  -- the stop before, and the cable from there
  pub record StopBefore (k : ℕ) (q : NodePort) : Type 0 where
    pub at : NodePort
    pub there : stop f origin path k ≡ Some at
    pub wire : f.across (record { node = at.node; port = slice_index path k }) ≡ Some q
    pub passes : 0 < k → is_switch_at f at.node ≡ true

  from_walk : (k : ℕ) (q : NodePort) (front : List ℕ) (out : ℕ) → length front ≡ k
      → directed_end f origin (front ++ out ∷ []) ≡ Some q
      → (p : NodePort) × (directed_end f origin front ≡ Some p) × (f.across (record { node = p.node; port = out }) ≡ Some q)
      × (0 < k → is_switch_at f p.node ≡ true)
  from_walk k q [] out long walk =
      (origin, refl, sym (on_from_end f origin [] out origin refl (λ some. absurd (omega arith))) ∙ walk, λ some. absurd (omega (arith, long, some)))
  from_walk k q (first ∷ front) out long walk = by_end (directed_end f origin (first ∷ front)) refl
    where
      by_end : (m : Option NodePort) → directed_end f origin (first ∷ front) ≡ m
          → (p : NodePort) × (directed_end f origin (first ∷ front) ≡ Some p) × (f.across (record { node = p.node; port = out }) ≡ Some q)
          × (0 < k → is_switch_at f p.node ≡ true)
      by_end None e =
          absurd (cc (sym (walks_go_on f origin first front out ∙ ap (option_and_then (on_by f out)) e) ∙ walk))
      by_end (Some p) e =
          let crossed = sym (walks_go_on f origin first front out ∙ ap (option_and_then (on_by f out)) e) ∙ walk in
          by_switch (is_switch_at f p.node) refl crossed
        where
          by_switch : (b : Bool) → is_switch_at f p.node ≡ b → on_by f out p ≡ Some q
              → (p : NodePort) × (directed_end f origin (first ∷ front) ≡ Some p) × (f.across (record { node = p.node; port = out }) ≡ Some q)
              × (0 < k → is_switch_at f p.node ≡ true)
          by_switch true s crossed = (p, e, sym (ap (λ b. cond b (f.across (record { node = p.node; port = out })) None) s) ∙ crossed, λ some. s)
          by_switch false s crossed = absurd (cc (sym (ap (λ b. cond b (f.across (record { node = p.node; port = out })) None) s) ∙ crossed))

  pub stop_before : (k : ℕ) (q : NodePort) → k < length path → stop f origin path (k + 1) ≡ Some q → StopBefore k q
  stop_before k q less there =
      let (p, at, wire, passes) =
      from_walk k q (take k path) (slice_index path k) (length_taken k (omega (arith, less)))
      (sym (longer k ∙ ap (directed_end f origin) (one_more k less)) ∙ there) in
      record { at = p; there = at; wire = wire; passes = passes }

  -- the end of the whole path is its last stop
  pub stop_last : stop f origin path (length path) ≡ directed_end f origin path
  stop_last = ap (directed_end f origin) (take_all (length path) path (omega arith))
