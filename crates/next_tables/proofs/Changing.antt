-- Why a packet arrives at the port while switches go over from the held tables to the next ones: by what each switch
-- may do with the packet when it gets there.
use Rattle.std.proofs.Common.{◌≡◌, ℕ, zero, suc, ◌+◌, ◌<◌, ◌≤◌, List, length, Some, sym, ap, ◌∙◌, arith, inl, inr, ◌⊎◌}
use Rattle.std.proofs.lemmas.Option.{same_Some}
use Rattle.subnet_view.specs.declared.end_port.EndPort.{EndPort}
use Rattle.packet_walks.specs.declared.packet_end.End.{End}
use Rattle.packet_walks.specs.declared.packet_end.End.TheVariants.{Taken}
use Rattle.packet_walks.specs.declared.next_hop.NextHop.{NextHop}
use Rattle.packet_walks.specs.declared.next_hop.NextHop.TheVariants.{To, Ends}
use Rattle.packet_walks.specs.EndsBySwitch.{after, end_of}
use Rattle.packet_walks.proofs.Ended.{after_ended}
use Rattle.packet_walks.proofs.InTime.{one_end, ends_in_time}
use Rattle.next_tables.proofs.Mixtures.{at, Comes, Agreed, Choice, Mending, led, in_range, lost_not}
use Rattle.next_tables.proofs.Plain.{dropped}

-- a walk that comes to the port does so in no more steps than there are switches
ended_there : (s : NextHop) (e : End) → end_of s ≡ Some e → s ≡ Ends e
ended_there (To i) e h = absurd (cc)
ended_there (Ends x) e h = ap (λ y. Ends y) (same_Some x e h)

pub in_time : (port : EndPort) (steps : List NextHop) (s : NextHop) → Comes port steps s → after (length steps) steps s ≡ Ends (Taken port)
in_time port steps s c =
    let last = after (length steps) steps s in
    ended_there last (Taken port) (one_end steps s (end_of last) (Some (Taken port)) (ends_in_time steps s) c)

-- what a switch may do: as by the held tables or by the next ones, and anything if it drops the packet by the held ones
abbrev pub MayDo : List NextHop → List NextHop → ℕ → NextHop → Type 0
MayDo held next i s = (s ≡ at held i) ⊎ ((s ≡ at next i) ⊎ ((g : ℕ) × (at held i ≡ dropped g)))

-- a packet is at the port, or comes to a switch from which it arrives over fewer wires
abbrev pub IsOnItsWay : EndPort → (ℕ → ℕ → Type 0) → ℕ → NextHop → Type 0
IsOnItsWay port Arrives most s = (s ≡ Ends (Taken port)) ⊎ ((j : ℕ) × (less : ℕ) × (less < most) × (s ≡ To j) × Arrives less j)

-- so it is along a walk
on_its_way : (port : EndPort) (Arrives : ℕ → ℕ → Type 0) (most less n : ℕ) (steps : List NextHop) (s r : NextHop) → less < most → s ≡ r
    → after n steps r ≡ Ends (Taken port) → ((j : ℕ) → after n steps (To j) ≡ Ends (Taken port) → Arrives less j) → IsOnItsWay port Arrives most s
on_its_way port Arrives most less n steps s (To j) few e h go = inr (j, less, few, e, go j h)
on_its_way port Arrives most less n steps s (Ends x) few e h go = inl (e ∙ sym (after_ended n steps x) ∙ h)

module _ (port : EndPort) (count : ℕ) (held plan agreed mending next : List NextHop) (planned : ℕ → Type 0)
    (held_long : length held ≡ count) (agreed_long : length agreed ≡ count) (mending_long : length mending ≡ count)
    (agree : (i : ℕ) → i < count → Agreed held plan agreed i) (choose : (i : ℕ) → i < count → Choice port held plan agreed mending next planned i)
    (mend : (i : ℕ) → i < count → Mending port held plan mending i)
    (Arrives : ℕ → ℕ → Type 0)
    (step : (most i : ℕ) → 1 ≤ most → i < count → ((s : NextHop) → MayDo held next i s → IsOnItsWay port Arrives most s) → Arrives most i) where
  -- over entries that are the plan's already
  agreed_arrives : (n i : ℕ) → after n agreed (To i) ≡ Ends (Taken port) → Arrives n i
  agreed_arrives zero i h = absurd (cc)
  agreed_arrives (suc n) i h =
      let less : i < count = omega (arith, in_range agreed (suc n) i (Taken port) h, agreed_long) in
      elim (agree i less) [
        | inl q ↦
            let there : after n agreed (at plan i) ≡ Ends (Taken port) = sym (ap (after n agreed) q.0) ∙ h in
            let it = led port count held plan agreed mending next planned held_long agreed_long mending_long agree choose mend i less (n, there) in
            let same : (s : NextHop) → MayDo held next i s → s ≡ at plan i =
            λ s may. (elim may [
              | inl e ↦ e ∙ q.1
              | inr (inl e) ↦ e ∙ it.is
              | inr (inr d) ↦ absurd (lost_not n d.0 port agreed (sym (ap (after n agreed) (sym q.1 ∙ d.1)) ∙ there))
            ]) in
            step (suc n) i (omega arith) less
            (λ s may. on_its_way port Arrives (suc n) n n agreed s (at plan i) (omega arith) (same s may) there (λ j k. agreed_arrives n j k))
        | inr q ↦ absurd (lost_not n q.0 port agreed (sym (ap (after n agreed) q.1) ∙ h))
      ]

  -- what the held tables deliver
  pub held_arrives : (n i : ℕ) → after n held (To i) ≡ Ends (Taken port) → Arrives (n + count) i
  held_arrives zero i h = absurd (cc)
  held_arrives (suc n) i h =
      let less : i < count = omega (arith, in_range held (suc n) i (Taken port) h, held_long) in
      let kept : (s : NextHop) → s ≡ at held i → IsOnItsWay port Arrives (suc n + count) s =
      λ s e. on_its_way port Arrives (suc n + count) (n + count) n held s (at held i) (omega arith) e h (λ j k. held_arrives n j k) in
      step (suc n + count) i (omega arith) less
      (λ s may. elim may [
        | inl e ↦ kept s e
        | inr (inr d) ↦ absurd (lost_not n d.0 port held (sym (ap (after n held) d.1) ∙ h))
        | inr (inl e) ↦ elim (choose i less) [
          | inl it ↦ on_its_way port Arrives (suc n + count) (length agreed) (length agreed) agreed s (at plan i) (omega (arith, agreed_long)) (e ∙ it.is)
              (in_time port agreed (at plan i) it.leads) (λ j k. agreed_arrives (length agreed) j k)
          | inr (inl it) ↦ kept s (e ∙ it.is)
          | inr (inr (inl it)) ↦ absurd (it.broken (n, h))
          | inr (inr (inr it)) ↦ absurd (it.broken (n, h))
        ]
      ])
