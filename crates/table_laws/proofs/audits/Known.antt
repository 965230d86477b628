-- If tables pass, each node that the facts name is known, and each port that they name is known or listed as unjoined.
use Rattle.std.proofs.Common.{◌≡◌, ℕ, refl, ap, inl, inr, cond}
use Rattle.std.specs.Prelude.{Contains, Option, None, Some, option_map}
use Rattle.std.specs.FinMap.{find}
use Rattle.smp_bytes.specs.declared.node_type.NodeType.TheVariants.{Switch}
use Rattle.fact_join.specs.declared.cell.Cell.{Cell}
use Rattle.reply_facts.specs.declared.key.Key.{Key}
use Rattle.reply_facts.specs.declared.key.Key.TheVariants.{Cap, Claim, Link, Node, Port, PortGuid}
use Rattle.reply_facts.specs.declared.value.Value.{Value}
use Rattle.reply_facts.specs.Key.{key_cmp, key_guid}
use Rattle.reply_facts.specs.Known.{kind_in, link_of, node_of, peer_in, value_in}
use Rattle.fact_store.specs.View.{cells_of}
use Rattle.subnet_view.specs.Reading.{Cells, is_switch_in}
use Rattle.subnet_view.proofs.Taken.{found_in}
use Rattle.audit_counts.specs.NamedPorts.{far_node, far_port, own_port}
use Rattle.audit_counts.proofs.Gaps.{ports_law}
use Rattle.audit_report.specs.Passing.{EachNodeIsKnown}
use Rattle.table_laws.specs.AuditLaws.{AreKnown, PassingAuditsKnowAll}

module _ (cells : Cells) (known : EachNodeIsKnown cells) where
  -- what a cell is about
  about : (key : Key) (g p : ℕ) (c : Cell Value) → Contains cells (key, c) → key_guid key ≡ g → own_port (key, c) ≡ Some (g, p) → AreKnown cells g p
  about key g p c there node port =
      (known g ((key, c), there, inl node), (ports_law cells).each g p ((key, c), there, inl port))

  -- the far end of a link
  peer_cell : (g p h q : ℕ) (o : Option (Cell Value)) → find key_cmp (Link g p) cells ≡ o → peer_in (value_in o) ≡ Some (h, q)
      → (c : Cell Value) × Contains cells ((Link g p), c) × (far_port ((Link g p), c) ≡ Some (h, q))
  peer_cell g p h q None is e = absurd (cc)
  peer_cell g p h q (Some c) is e = (c, found_in (Link g p) cells c is, e)

  far : (g p h q : ℕ) → link_of cells g p ≡ Some (h, q) → AreKnown cells h q
  far g p h q e =
      let (c, there, leads) = peer_cell g p h q (find key_cmp (Link g p) cells) refl e in
      let node : far_node ((Link g p), c) ≡ Some h = ap (λ o. option_map (λ (x : ℕ × ℕ). x.0) o) leads in
      (known h (((Link g p), c), there, inr node), (ports_law cells).each h q (((Link g p), c), there, inr leads))

  -- the management port of a switch
  kind_cell : (g ports : ℕ) (o : Option (Cell Value)) → find key_cmp (Node g) cells ≡ o → kind_in (value_in o) ≡ Some (Switch, ports)
      → (c : Cell Value) × Contains cells ((Node g), c) × (kind_in (value_in (Some c)) ≡ Some (Switch, ports))
  kind_cell g ports None is e = absurd (cc)
  kind_cell g ports (Some c) is e = (c, found_in (Node g) cells c is, e)

  switch : (g ports : ℕ) → node_of cells g ≡ Some (Switch, ports) → AreKnown cells g 0
  switch g ports e =
      let (c, there, kind) = kind_cell g ports (find key_cmp (Node g) cells) refl e in
      about (Node g) g 0 c there refl (ap (λ o. cond (is_switch_in o) (Some (g, 0)) None) kind)

pub passing_audits_know_all : PassingAuditsKnowAll
passing_audits_know_all facts held passes =
    let cells = cells_of facts in
    let known = passes.whole.nodes in
    record {
      nodes = λ g c there. known g (((Node g), c), there, inl refl);
      rooms = λ g c there. known g (((Cap g), c), there, inl refl);
      guids = λ g p c there. about cells known (PortGuid g p) g p c there refl refl;
      states = λ g p c there. about cells known (Port g p) g p c there refl refl;
      claims = λ g p c there. about cells known (Claim g p) g p c there refl refl;
      links = λ g p c there. about cells known (Link g p) g p c there refl refl;
      far_ends = far cells known;
      switches = switch cells known;
    }
