-- The triangle with one way that is longer than it has to be: packets for the second adapter leave the first switch for
-- the second one.
use Rattle.std.proofs.Common.{◌≡◌, ◌≤◌, ◌+◌, ◌==◌, ◌||◌, ℕ, zero, suc, true, false, List, [], ◌∷◌, ◌++◌, replicate, cond, refl, sym, ap, ◌∙◌, subst, arith, inl, inr}
use Rattle.std.specs.Prelude.{IsTrue, slice_index_or, nat_lt}
use Rattle.fabric_model.specs.declared.cable.NodePort.{NodePort}
use Rattle.std.proofs.lemmas.Bool.{cases_lt, ne_eqb}
use Rattle.smp_bytes.specs.LidRange.{is_among}
use Rattle.smp_bytes.specs.NodeType.{is_switch}
use Rattle.fabric_model.specs.Fabric.{Node, Fabric, IsEndPort, IsFabric, owns, IsPortNamed}
use Rattle.fabric_model.specs.FabricWalks.{IsJoinedTo, IsWire, Walk}
use Rattle.fabric_model.proofs.FabricWalks.{port_at}
use Rattle.fact_store.specs.View.{cells_of}
use Rattle.subnet_view.specs.Reading.{Cells}
use Rattle.subnet_view.specs.FabricAgreement.{Part, WholeFabric, IsEndPortIn, HasEndPort, AgreesOn}
use Rattle.subnet_view.proofs.Covered.{covers}
use Rattle.lft_blocks.proofs.FabricCases.{EachIndexed, end_cases, end_of, indexed_at, next}
use Rattle.lft_blocks.proofs.Triangle.{adapter, cells, facts, facts_have, switch, triangle}
use Rattle.lft_blocks.proofs.TriangleArrives.{agrees, is_connected, is_fabric, of_first, one_end}
use Rattle.held_tables.specs.declared.held.HeldLid.{HeldLid}
use Rattle.held_tables.specs.declared.held.HeldSwitch.{HeldSwitch}
use Rattle.held_tables.specs.declared.held.HeldBlock.{HeldBlock}
use Rattle.held_tables.specs.Held.{HeldPlan}
use Rattle.held_tables.specs.Tables.{counted, entry_for, entry_of, holders, is_owner, top_of}
use Rattle.packet_walks.specs.Fabrics.{HoldsTablesIn, IsSeen, IsSeenIn}

-- the fabric and its tables ------------------------------------------------------------------------------

-- the first switch sends packets for LID 6 on to the second one, and neither has an entry for LID 7
abbrev pub longer : List (List ℕ)
longer =
    (255 ∷ 0 ∷ 1 ∷ 2 ∷ 1 ∷ 1 ∷ 1 ∷ 255 ∷ [])
    ∷ (255 ∷ 1 ∷ 0 ∷ 2 ∷ 3 ∷ 3 ∷ 2 ∷ 255 ∷ [])
    ∷ (255 ∷ 1 ∷ 2 ∷ 0 ∷ 2 ∷ 2 ∷ 3 ∷ 3 ∷ [])
    ∷ []

abbrev pub detour : Fabric
detour = record triangle { entry = λ n lid. slice_index_or (slice_index_or longer n []) lid 255 }

abbrev line : ℕ → ℕ → ℕ → HeldLid
line lid g p = record { lid = lid; port = record { node = g; port = p } }

abbrev pub lines : List HeldLid
lines = line 1 16 0 ∷ line 2 32 0 ∷ line 3 48 0 ∷ line 4 256 1 ∷ line 5 256 1 ∷ line 6 512 1 ∷ line 7 512 1 ∷ []

abbrev to_seven : ℕ → HeldSwitch
to_seven g = record { guid = g; top = 7 }

abbrev block : ℕ → List ℕ → HeldBlock
block index row = record { switch = index; number = 0; entries = row ++ replicate 56 255 }

-- the text of tables with these rows
abbrev pub held_by : List (List ℕ) → HeldPlan
held_by rows = record {
  lids = lines;
  switches = to_seven 16 ∷ to_seven 32 ∷ to_seven 48 ∷ [];
  blocks = block 0 (slice_index_or rows 0 []) ∷ block 1 (slice_index_or rows 1 []) ∷ block 2 (slice_index_or rows 2 []) ∷ [];
}

-- LIDs ---------------------------------------------------------------------------------------------------

-- what is so up to 7, and beyond
pub lid_cases : (P : ℕ → Type 0) → P 0 → P 1 → P 2 → P 3 → P 4 → P 5 → P 6 → P 7 → ((lid : ℕ) → 8 ≤ lid → P lid) → (lid : ℕ) → P lid
lid_cases P a b c d e f g h more zero = a
lid_cases P a b c d e f g h more (suc zero) = b
lid_cases P a b c d e f g h more (suc (suc zero)) = c
lid_cases P a b c d e f g h more (suc (suc (suc zero))) = d
lid_cases P a b c d e f g h more (suc (suc (suc (suc zero)))) = e
lid_cases P a b c d e f g h more (suc (suc (suc (suc (suc zero))))) = f
lid_cases P a b c d e f g h more (suc (suc (suc (suc (suc (suc zero)))))) = g
lid_cases P a b c d e f g h more (suc (suc (suc (suc (suc (suc (suc zero))))))) = h
lid_cases P a b c d e f g h more (suc (suc (suc (suc (suc (suc (suc (suc n)))))))) = more (suc (suc (suc (suc (suc (suc (suc (suc n)))))))) (omega arith)

above : (lid : ℕ) → 8 ≤ lid → (lid == 0 || nat_lt 7 lid) ≡ true
above lid h = grind (arith, h)

-- no line tells one above 7
told_none : (k lid : ℕ) → k ≤ 7 → 8 ≤ lid → (k == lid) ≡ false
told_none k lid low high = ne_eqb k lid (λ e. omega (arith, low, high, e))

pub nobody : (lid : ℕ) → 8 ≤ lid → holders lines lid ≡ []
nobody lid h =
    rw (
      told_none 1 lid (omega arith) h,
      told_none 2 lid (omega arith) h,
      told_none 3 lid (omega arith) h,
      told_none 4 lid (omega arith) h,
      told_none 5 lid (omega arith) h,
      told_none 6 lid (omega arith) h,
      told_none 7 lid (omega arith) h,
    ) refl

-- of each node the LIDs of its end port
abbrev Owned : ℕ → Node → ℕ → Type 0
Owned k n p = (lid : ℕ) → 1 ≤ lid → owns detour (port_at k p) lid ≡ is_owner (holders lines lid) (record { node = n.guid; port = p })

past : (base count lid : ℕ) → base + count ≤ 8 → 8 ≤ lid → is_among base count lid ≡ false
past base count lid low high = grind (arith, low, high)

owned_at : (k p : ℕ) (n : Node) (base count : ℕ) → base + count ≤ 8
    → ((lid : ℕ) → 8 ≤ lid → owns detour (port_at k p) lid ≡ is_among base count lid)
    → owns detour (port_at k p) 1 ≡ is_owner (holders lines 1) (record { node = n.guid; port = p })
    → owns detour (port_at k p) 2 ≡ is_owner (holders lines 2) (record { node = n.guid; port = p })
    → owns detour (port_at k p) 3 ≡ is_owner (holders lines 3) (record { node = n.guid; port = p })
    → owns detour (port_at k p) 4 ≡ is_owner (holders lines 4) (record { node = n.guid; port = p })
    → owns detour (port_at k p) 5 ≡ is_owner (holders lines 5) (record { node = n.guid; port = p })
    → owns detour (port_at k p) 6 ≡ is_owner (holders lines 6) (record { node = n.guid; port = p })
    → owns detour (port_at k p) 7 ≡ is_owner (holders lines 7) (record { node = n.guid; port = p })
    → Owned k n p
owned_at k p n base count low more a b c d e f g =
    lid_cases (λ lid. 1 ≤ lid → owns detour (port_at k p) lid ≡ is_owner (holders lines lid) (record { node = n.guid; port = p }))
    (λ h. absurd (omega (arith, h))) (λ h. a) (λ h. b) (λ h. c) (λ h. d) (λ h. e) (λ h. f) (λ h. g)
    (λ lid high h. more lid high ∙ past base count lid low high ∙ ap (λ owners. is_owner owners (record { node = n.guid; port = p })) (sym (nobody lid high)))

all_owned : EachIndexed (λ k n. Owned k n (end_of n)) detour.nodes
all_owned =
    next (owned_at 0 0 (switch 16) 1 1 (omega arith) (λ lid h. refl) refl refl refl refl refl refl refl)
    (next (owned_at 1 0 (switch 32) 2 1 (omega arith) (λ lid h. refl) refl refl refl refl refl refl refl)
    (next (owned_at 2 0 (switch 48) 3 1 (omega arith) (λ lid h. refl) refl refl refl refl refl refl refl)
    (next (owned_at 3 1 (adapter 256) 4 2 (omega arith) (λ lid h. refl) refl refl refl refl refl refl refl)
    (next (owned_at 4 1 (adapter 512) 6 2 (omega arith) (λ lid h. refl) refl refl refl refl refl refl refl) tt))))

-- entries ------------------------------------------------------------------------------------------------

-- of each switch the entries that count
abbrev Counts : ℕ → Node → Type 0
Counts k n = IsTrue (is_switch n.kind) → (lid : ℕ) → counted lid (detour.top k) (detour.entry k lid) ≡ entry_for (held_by longer) lid n.guid

counts_at : (k : ℕ) (n : Node) → top_of (held_by longer) n.guid ≡ 7
    → ((lid : ℕ) → lid ≤ 7 → counted lid 7 (detour.entry k lid) ≡ counted lid 7 (entry_of (held_by longer) n.guid lid)) → Counts k n
counts_at k n top same is lid =
    elim (cases_lt 7 lid) [
      | inl more ↦ ap (λ t. cond t 255 (detour.entry k lid)) (above lid (omega (arith, more)))
          ∙ sym (ap (λ t. counted lid t (entry_of (held_by longer) n.guid lid)) top
          ∙ ap (λ t. cond t 255 (entry_of (held_by longer) n.guid lid)) (above lid (omega (arith, more))))
      | inr low ↦ same lid (omega (arith, low)) ∙ ap (λ t. counted lid t (entry_of (held_by longer) n.guid lid)) (sym top)
    ]

-- up to LID 7 by computing
up_to_seven : (P : ℕ → Type 0) → P 0 → P 1 → P 2 → P 3 → P 4 → P 5 → P 6 → P 7 → (lid : ℕ) → lid ≤ 7 → P lid
up_to_seven P a b c d e f g h lid =
    lid_cases (λ l. l ≤ 7 → P l) (λ k. a) (λ k. b) (λ k. c) (λ k. d) (λ k. e) (λ k. f) (λ k. g) (λ k. h) (λ l high k. absurd (omega (arith, high, k))) lid

all_count : EachIndexed Counts detour.nodes
all_count =
    next (counts_at 0 (switch 16) refl (up_to_seven
    (λ lid. counted lid 7 (detour.entry 0 lid) ≡ counted lid 7 (entry_of (held_by longer) 16 lid)) refl refl refl refl refl refl refl refl))
    (next (counts_at 1 (switch 32) refl (up_to_seven
    (λ lid. counted lid 7 (detour.entry 1 lid) ≡ counted lid 7 (entry_of (held_by longer) 32 lid)) refl refl refl refl refl refl refl refl))
    (next (counts_at 2 (switch 48) refl (up_to_seven
    (λ lid. counted lid 7 (detour.entry 2 lid) ≡ counted lid 7 (entry_of (held_by longer) 48 lid)) refl refl refl refl refl refl refl refl))
    (next (λ e. absurd (cc))
    (next (λ e. absurd (cc)) tt))))

-- what is there ------------------------------------------------------------------------------------------

fabric_is : IsFabric detour
fabric_is = record { counts = is_fabric.counts; cabled = is_fabric.cabled; both_ways = is_fabric.both_ways }

wire_is : (p q : NodePort) → IsWire triangle p q → IsWire detour p q
wire_is p q w = record { cable = w.cable; different = w.different }

wire_was : (p q : NodePort) → IsWire detour p q → IsWire triangle p q
wire_was p q w = record { cable = w.cable; different = w.different }

walks : (a b : NodePort) (n : ℕ) → Walk triangle a b n → Walk detour a b n
walks a b zero w = w
walks a b (suc n) (c, near, between, rest) = (
  c,
  record {
    out = near.out;
    into = near.into;
    wire = wire_is near.out near.into near.wire;
    of_one = near.of_one;
    of_other = near.of_other;
  },
  between,
  walks c b n rest,
)

pub connected : (a b : NodePort) → IsEndPort triangle a → IsEndPort triangle b → IsJoinedTo detour a b
connected a b at_a at_b = let j = is_connected a b at_a at_b in (j.0, walks a b j.0 j.1)

module _ (part : Part) (all : (v : NodePort) → IsEndPort triangle v → part v) where
  was : AgreesOn part cells triangle
  was = agrees part all

  end_was : (port : NodePort) (node : Node) → IsEndPortIn part detour port node → IsEndPortIn part triangle port node
  end_was port node e = record { node_there = e.node_there; end_port = e.end_port; in_part = e.in_part }

  named_is : (g p : ℕ) (port : NodePort) → IsPortNamed triangle g p port → IsPortNamed detour g p port
  named_is g p port n = record { node = n.node; node_there = n.node_there; guid_is = n.guid_is; port_is = n.port_is }

  named_was : (g p : ℕ) (port : NodePort) → IsPortNamed detour g p port → IsPortNamed triangle g p port
  named_was g p port n = record { node = n.node; node_there = n.node_there; guid_is = n.guid_is; port_is = n.port_is }

  has_end : (g p : ℕ) → HasEndPort part triangle g p → HasEndPort part detour g p
  has_end g p h = record { port = h.port; named = named_is g p h.port h.named; end_port = h.end_port; in_part = h.in_part }

  its_agreement : AgreesOn part cells detour
  its_agreement = record {
    guids_distinct = λ p q a b at_p at_q e. was.guids_distinct p q a b (end_was p a at_p) (end_was q b at_q) e;
    tells_end_ports = λ port node e. was.tells_end_ports port node (end_was port node e);
    end_ports_exist = λ g p e. has_end g p (was.end_ports_exist g p e);
    switches_exist = λ g u. has_end g 0 (was.switches_exist g u);
    wires = λ g p h q. (
      λ w. let t = (was.wires g p h q).0 w in
          record {
            from = t.from;
            to = t.to;
            from_named = named_is g p t.from t.from_named;
            to_named = named_is h q t.to t.to_named;
            wire = wire_is t.from t.to t.wire;
            in_part = t.in_part;
          },
      λ t. (was.wires g p h q).1 (record {
        from = t.from;
        to = t.to;
        from_named = named_was g p t.from t.from_named;
        to_named = named_was h q t.to t.to_named;
        wire = wire_was t.from t.to t.wire;
        in_part = t.in_part;
      }),
    );
  }

  facts_agree : AgreesOn part (cells_of facts) detour
  facts_agree = subst (λ (c : Cells). AgreesOn part c detour) (sym facts_have) its_agreement

-- the end port from which all is seen
abbrev pub origin : NodePort
origin = port_at 3 1

pub holds_in : (part : Part) → HoldsTablesIn part (held_by longer) detour
holds_in part = record {
  lids = λ port node lid e low. end_cases part detour one_end Owned all_owned port node e lid low;
  entries = λ port node lid e is. indexed_at Counts detour.nodes all_count port.node node e.node_there is lid;
}

pub seen : IsSeen (cells_of facts) (held_by longer) detour
seen = record {
  is_fabric = fabric_is;
  agrees = facts_agree WholeFabric (λ v end. tt);
  holds = record {
    lids = λ port node lid there end low.
        (holds_in WholeFabric).lids port node lid (record { node_there = there; end_port = end; in_part = tt }) low;
    entries = λ id node lid there is. indexed_at Counts detour.nodes all_count id node there is lid;
  };
}

pub seen_in : IsSeenIn (IsJoinedTo detour origin) (cells_of facts) (held_by longer) detour
seen_in = record {
  is_fabric = fabric_is;
  covers = covers (facts_agree (IsJoinedTo detour origin) (λ v end. connected origin v of_first end));
  holds = holds_in (IsJoinedTo detour origin);
}
