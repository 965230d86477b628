-- How many sweeps and polls a manager that is alone may need until it is master.
use Rattle.std.proofs.Common.{◌≡◌, ◌≢◌, ◌∙◌, ◌⊎◌, inl, inr, ℕ, ◌+◌, ◌-◌, ◌*◌, ◌≤◌, true, false, refl, sym, ap, arith}
use Rattle.std.proofs.lemmas.Bool.{cond_both, eq-eqb}
use Rattle.std.specs.Prelude.{◌==◌, Option, Some, None}
use Rattle.sm_state.specs.State.{number_of_state}
use Rattle.sm_state.specs.declared.state.SmState.{SmState}
use Rattle.sm_state.specs.declared.state.SmState.TheVariants.{NotActive, Discovering, Standby, Master}
use Rattle.sm_manager.specs.CallLists.{Call, after_call}
use Rattle.sm_manager.specs.Manager.{Manager, is_running}
use Rattle.sm_policy.specs.Policy.{in_state, moved, sweeps_first, wanting}
use Rattle.sm_policy.specs.declared.policy.Policy.{Policy}
use Rattle.sm_policy.specs.declared.rival.Rival.{Rival}
use Rattle.program_laws.proofs.alone.InfoOnly.{InfoOnly, info_call}
use Rattle.program_laws.proofs.alone.Moves.{Clean, Moves, packet_moves, timeout_moves}
use Rattle.program_laws.proofs.alone.Quiet.{LastsQuietly}

-- after how many sweeps at most, but for one, a standby that knows no master discovers anew: of three in a row one counts
abbrev pub sweeps_left : ℕ → ℕ → ℕ
sweeps_left masterless gaps = 3 * (3 - masterless) + (2 - gaps)

-- how many polls and sweeps are needed at most while the manager rests
abbrev pub need : SmState → Option Rival → ℕ → ℕ → ℕ → ℕ
need Standby None lost masterless gaps = sweeps_left masterless gaps + 2
need Standby (Some rival) lost masterless gaps = sweeps_left masterless gaps + 3 + (2 - lost)
need state master lost masterless gaps = 1

pub need_some : (state : SmState) (master : Option Rival) (lost masterless gaps : ℕ) → 1 ≤ need state master lost masterless gaps
need_some NotActive master lost masterless gaps = omega arith
need_some Discovering master lost masterless gaps = omega arith
need_some Master master lost masterless gaps = omega arith
need_some Standby None lost masterless gaps = omega arith
need_some Standby (Some rival) lost masterless gaps = omega arith

pub need_few : (state : SmState) (master : Option Rival) (lost masterless gaps : ℕ) → need state master lost masterless gaps ≤ 16
need_few NotActive master lost masterless gaps = omega arith
need_few Discovering master lost masterless gaps = omega arith
need_few Master master lost masterless gaps = omega arith
need_few Standby None lost masterless gaps = omega arith
need_few Standby (Some rival) lost masterless gaps = omega arith

need_less : (master : Option Rival) (lost lost' masterless gaps : ℕ) → 2 - lost' ≤ 2 - lost
    → need Standby master lost' masterless gaps ≤ need Standby master lost masterless gaps
need_less None lost lost' masterless gaps less = omega arith
need_less (Some rival) lost lost' masterless gaps less = omega (arith, less)

-- while it rests ------------------------------------------------------------------------------------------------------------

-- no sweep runs, at most so many polls and sweeps are needed, and a standby polls by `by` at the latest, if it polls
pub record IsRest (k by : ℕ) (m : Manager) (p : Policy) : Type 0 where
  pub info : InfoOnly m
  pub idle : is_running m.sweep ≡ false
  pub active : m.standing.state ≢ NotActive
  pub few : need m.standing.state p.master m.standing.polls_lost p.masterless p.gaps ≤ k
  pub poll : m.standing.state ≡ Standby → (p.state ≡ Standby) × (p.next_poll ≤ by)

module _ (k by : ℕ) where
  -- one that discovers or is master needs one sweep
  other_state : (m : Manager) (p : Policy) (state : SmState) → InfoOnly m → is_running m.sweep ≡ false → 1 ≤ k → m.standing.state ≡ state
      → (state ≡ Discovering) ⊎ (state ≡ Master) → IsRest k by m p
  other_state m p Discovering info idle some e or =
      record {
        info = info;
        idle = idle;
        active = λ is. let wrong : Discovering ≡ NotActive = sym e ∙ is in absurd (cc);
        few = let one = ap (λ s. need s p.master m.standing.polls_lost p.masterless p.gaps) e in omega (arith, one, some);
        poll = λ is. let wrong : Discovering ≡ Standby = sym e ∙ is in absurd (cc);
      }
  other_state m p Master info idle some e or =
      record {
        info = info;
        idle = idle;
        active = λ is. let wrong : Master ≡ NotActive = sym e ∙ is in absurd (cc);
        few = let one = ap (λ s. need s p.master m.standing.polls_lost p.masterless p.gaps) e in omega (arith, one, some);
        poll = λ is. let wrong : Master ≡ Standby = sym e ∙ is in absurd (cc);
      }
  other_state m p Standby info idle some e (inl is) = absurd (cc)
  other_state m p Standby info idle some e (inr is) = absurd (cc)
  other_state m p NotActive info idle some e (inl is) = absurd (cc)
  other_state m p NotActive info idle some e (inr is) = absurd (cc)

  pub rest_other : (m : Manager) (p : Policy) → InfoOnly m → is_running m.sweep ≡ false → 1 ≤ k
      → (m.standing.state ≡ Discovering) ⊎ (m.standing.state ≡ Master) → IsRest k by m p
  rest_other m p info idle some or = other_state m p m.standing.state info idle some refl or

  pub rest_some : (m : Manager) (p : Policy) → IsRest k by m p → 1 ≤ k
  rest_some m p r =
      let some = need_some m.standing.state p.master m.standing.polls_lost p.masterless p.gaps in let few = r.few in omega (arith, some, few)

  rest_moves : (m n : Manager) (p : Policy) → Moves m n → InfoOnly n → IsRest k by m p → IsRest k by n p
  rest_moves m n p moves info r = by_state m.standing.state refl
    where
      some : 1 ≤ k
      some = rest_some m p r

      by_state : (state : SmState) → m.standing.state ≡ state → IsRest k by n p
      by_state NotActive e = absurd (r.active e)
      by_state Discovering e = elim (moves.found e (inr r.idle)) [
        | inl still ↦ rest_other n p info (moves.idle r.idle) some (inl still.0)
        | inr leads ↦ rest_other n p info (moves.idle r.idle) some (inr leads)
      ]
      by_state Master e = rest_other n p info (moves.idle r.idle) some (inr (moves.master e))
      by_state Standby e = elim (moves.stood e) [
        | inl still ↦ record {
          info = info;
          idle = moves.idle r.idle;
          active = moves.active r.active;
          few =
              let few = r.few in
              let was = ap (λ s. need s p.master m.standing.polls_lost p.masterless p.gaps) e in
              let now = ap (λ s. need s p.master n.standing.polls_lost p.masterless p.gaps) still.0 in
              let less = need_less p.master m.standing.polls_lost n.standing.polls_lost p.masterless p.gaps still.1 in
              omega (arith, few, was, now, less);
          poll = λ _. r.poll e;
        }
        | inr discovers ↦ rest_other n p info (moves.idle r.idle) some (inl discovers)
      ]

  rest_enters : (m : Manager) (p : Policy) (now : ℕ) → (number_of_state m.standing.state == number_of_state p.state) ≡ false → IsRest k by m p
      → IsRest k by m (moved now m.standing.state p)
  rest_enters m p now other r = by_state m.standing.state refl
    where
      q : Policy
      q = moved now m.standing.state p

      by_state : (state : SmState) → m.standing.state ≡ state → IsRest k by m q
      by_state NotActive e = absurd (r.active e)
      by_state Discovering e = rest_other m q r.info r.idle (rest_some m p r) (inl e)
      by_state Master e = rest_other m q r.info r.idle (rest_some m p r) (inr e)
      by_state Standby e =
          let wrong : true ≡ false =
          sym (eq-eqb (number_of_state m.standing.state) (number_of_state p.state) (ap number_of_state (e ∙ sym (r.poll e).0))) ∙ other in
          absurd (cc)

  pub rest_lasts : LastsQuietly (IsRest k by)
  rest_lasts =
      record {
        gives = λ m p r. record { info = r.info; idle = r.idle; active = r.active; few = r.few; poll = r.poll };
        hears = λ m p bytes from quiet r.
            rest_moves m (after_call m (Call.Packet bytes from)) p (packet_moves m bytes from r.info quiet) (info_call m r.info (Call.Packet bytes from)) r;
        gives_up = λ m p transaction r.
            rest_moves m (after_call m (Call.Timeout transaction)) p (timeout_moves m transaction) (info_call m r.info (Call.Timeout transaction)) r;
        wants = λ m p r. record { info = r.info; idle = r.idle; active = r.active; few = r.few; poll = r.poll };
        enters = λ m p now other r. rest_enters m p now other r;
      }

-- while it sweeps -----------------------------------------------------------------------------------------------------------

-- what is so of its state: it is standby and needs at most `k` once it rests, or it discovers, and the sweep runs or it needs
-- one more; or it is master
abbrev pub Sweeps : ℕ → Manager → Policy → Type 0
Sweeps k m p =
    ((m.standing.state ≡ Standby) × (sweeps_left p.masterless p.gaps + 1 ≤ k))
    ⊎ (((m.standing.state ≡ Discovering) × ((is_running m.sweep ≡ true) ⊎ (1 ≤ k))) ⊎ (m.standing.state ≡ Master))

-- the sweep has seen none that outranks it, and is not stale
pub record IsSweep (k : ℕ) (m : Manager) (p : Policy) : Type 0 where
  pub info : InfoOnly m
  pub clean : Clean m
  pub fresh : p.is_stale ≡ false
  pub state : Sweeps k m p

module _ (k : ℕ) where
  sweep_moves : (m n : Manager) (p : Policy) → Moves m n → InfoOnly n → IsSweep k m p → IsSweep k n p
  sweep_moves m n p moves info s =
      record {
        info = info;
        clean = moves.clean s.clean;
        fresh = s.fresh;
        state = elim s.state [
          | inl standby ↦ elim (moves.stood standby.0) [
            | inl still ↦ inl (still.0, standby.1)
            | inr discovers ↦ inr (inl (discovers, inr (let some = standby.1 in omega (arith, some))))
          ]
          | inr (inl discovers) ↦ elim (moves.found discovers.0 (inl s.clean)) [
            | inl still ↦ inr (inl (still.0, elim discovers.1 [ inl runs ↦ inl (still.1 runs) | inr some ↦ inr some ]))
            | inr leads ↦ inr (inr leads)
          ]
          | inr (inr leads) ↦ inr (inr (moves.master leads))
        ];
      }

  pub sweep_lasts : LastsQuietly (IsSweep k)
  sweep_lasts =
      record {
        gives = λ m p s. record { info = s.info; clean = s.clean; fresh = s.fresh; state = s.state };
        hears = λ m p bytes from quiet s.
            sweep_moves m (after_call m (Call.Packet bytes from)) p (packet_moves m bytes from s.info quiet) (info_call m s.info (Call.Packet bytes from)) s;
        gives_up = λ m p transaction s.
            sweep_moves m (after_call m (Call.Timeout transaction)) p (timeout_moves m transaction) (info_call m s.info (Call.Timeout transaction)) s;
        wants = λ m p s. record { info = s.info; clean = s.clean; fresh = s.fresh; state = s.state };
        enters = λ m p now other s.
            cond_both (sweeps_first m.standing.state p.activity) (wanting (in_state now m.standing.state p)) (in_state now m.standing.state p) (IsSweep k m)
            (λ _. record { info = s.info; clean = s.clean; fresh = s.fresh; state = s.state })
            (λ _. record { info = s.info; clean = s.clean; fresh = s.fresh; state = s.state });
      }

-- once it is master ---------------------------------------------------------------------------------------------------------

-- the manager is master, its last sweep has seen none that outranks it, and is not stale
pub record IsLed (m : Manager) (p : Policy) : Type 0 where
  pub clean : Clean m
  pub fresh : p.is_stale ≡ false
  pub master : m.standing.state ≡ Master

abbrev Led : Manager → Policy → Type 0
Led m p = InfoOnly m × IsLed m p

led_moves : (m n : Manager) (p : Policy) → Moves m n → InfoOnly n → Led m p → Led n p
led_moves m n p moves info l = (info, record { clean = moves.clean l.1.clean; fresh = l.1.fresh; master = moves.master l.1.master })

pub led_lasts : LastsQuietly (λ m p. InfoOnly m × IsLed m p)
led_lasts =
    record {
      gives = λ m p l. (l.0, record { clean = l.1.clean; fresh = l.1.fresh; master = l.1.master });
      hears = λ m p bytes from quiet l.
          led_moves m (after_call m (Call.Packet bytes from)) p (packet_moves m bytes from l.0 quiet) (info_call m l.0 (Call.Packet bytes from)) l;
      gives_up = λ m p transaction l.
          led_moves m (after_call m (Call.Timeout transaction)) p (timeout_moves m transaction) (info_call m l.0 (Call.Timeout transaction)) l;
      wants = λ m p l. (l.0, record { clean = l.1.clean; fresh = l.1.fresh; master = l.1.master });
      enters = λ m p now other l.
          cond_both (sweeps_first m.standing.state p.activity) (wanting (in_state now m.standing.state p)) (in_state now m.standing.state p)
          (λ (q : Policy). InfoOnly m × IsLed m q)
          (λ _. (l.0, record { clean = l.1.clean; fresh = l.1.fresh; master = l.1.master }))
          (λ _. (l.0, record { clean = l.1.clean; fresh = l.1.fresh; master = l.1.master }));
    }

-- whatever it is about --------------------------------------------------------------------------------------------------------

-- no other manager has disabled it
abbrev pub IsActive : Manager → Policy → Type 0
IsActive m p = InfoOnly m × (m.standing.state ≢ NotActive)

pub active_lasts : LastsQuietly IsActive
active_lasts =
    record {
      gives = λ m p a. a;
      hears = λ m p bytes from quiet a. (info_call m a.0 (Call.Packet bytes from), (packet_moves m bytes from a.0 quiet).active a.1);
      gives_up = λ m p transaction a. (info_call m a.0 (Call.Timeout transaction), (timeout_moves m transaction).active a.1);
      wants = λ m p a. a;
      enters = λ m p now other a. a;
    }

-- what it has counted of its sweeps
abbrev pub HasCounted : ℕ → ℕ → Manager → Policy → Type 0
HasCounted masterless gaps m p = (p.masterless ≡ masterless) × (p.gaps ≡ gaps)

pub counted_lasts : (masterless gaps : ℕ) → LastsQuietly (HasCounted masterless gaps)
counted_lasts masterless gaps =
    record {
      gives = λ m p h. h;
      hears = λ m p bytes from quiet h. h;
      gives_up = λ m p transaction h. h;
      wants = λ m p h. h;
      enters = λ m p now other h.
          cond_both (sweeps_first m.standing.state p.activity) (wanting (in_state now m.standing.state p)) (in_state now m.standing.state p)
          (λ (q : Policy). (q.masterless ≡ masterless) × (q.gaps ≡ gaps)) (λ _. h) (λ _. h);
    }

-- a standby polls by `by` at the latest, or when it came into its state
abbrev pub PollsBy : ℕ → Manager → Policy → Type 0
PollsBy by m p = p.next_poll ≤ by
