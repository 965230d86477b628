-- What a node does with a packet, by its type.
use Rattle.std.proofs.Common.{◌≡◌, ℕ, Bool, true, false, cond, ◌||◌, refl, ap, ◌∙◌}
use Rattle.std.specs.Prelude.{nat_lt, ◌==◌}
use Rattle.std.specs.Option.{option_map_or}
use Rattle.fabric_model.specs.declared.cable.NodePort.{NodePort}
use Rattle.fabric_model.specs.declared.course.Course.{Course}
use Rattle.fabric_model.specs.declared.course.Course.TheVariants.{Delivers, LeavesBy, Drops}
use Rattle.smp_bytes.specs.NodeType.{is_switch}
use Rattle.fabric_model.specs.Fabric.{Node, Fabric, IsNodeAt, owns}
use Rattle.fabric_model.specs.Forwarding.{Standing, sent_from, arrived_at, course, adapter_course, entry_course, switch_course}

module _ (f : Fabric) (lid : ℕ) where
  abbrev node_does : Standing → Node → Course
  node_does st n =
      cond (is_switch n.kind) (switch_course n.ports st.at.node (f.top st.at.node) lid (f.entry st.at.node lid)) (adapter_course (owns f st.at lid) st)

  course_at : (st : Standing) (node : Node) → IsNodeAt f st.at.node node → course f lid st ≡ node_does st node
  course_at st node at = ap (λ o. option_map_or (node_does st) o Drops) at

  adapter_is : (st : Standing) (node : Node) → IsNodeAt f st.at.node node → is_switch node.kind ≡ false → course f lid st ≡ adapter_course (owns f st.at lid) st
  adapter_is st node at kind =
      course_at st node at
      ∙ ap (λ t. cond t (switch_course node.ports st.at.node (f.top st.at.node) lid (f.entry st.at.node lid)) (adapter_course (owns f st.at lid) st)) kind

  -- an adapter port takes its own LID
  pub adapter_takes : (st : Standing) (node : Node) → IsNodeAt f st.at.node node → is_switch node.kind ≡ false → owns f st.at lid ≡ true
      → course f lid st ≡ Delivers st.at
  adapter_takes st node at kind own =
      adapter_is st node at kind ∙ ap (λ t. cond t (Delivers st.at) (cond st.by_wire Drops (LeavesBy st.at))) own

  -- it sends any other out
  pub adapter_sends : (p : NodePort) (node : Node) → IsNodeAt f p.node node → is_switch node.kind ≡ false → owns f p lid ≡ false
      → course f lid (sent_from p) ≡ LeavesBy p
  adapter_sends p node at kind other = adapter_is (sent_from p) node at kind ∙ ap (λ t. cond t (Delivers p) (LeavesBy p)) other

  -- and drops any other that came by a wire
  pub adapter_drops : (p : NodePort) (node : Node) → IsNodeAt f p.node node → is_switch node.kind ≡ false → owns f p lid ≡ false
      → course f lid (arrived_at p) ≡ Drops
  adapter_drops p node at kind other = adapter_is (arrived_at p) node at kind ∙ ap (λ t. cond t (Delivers p) Drops) other

  -- a switch goes by its top and its table
  pub switch_does : (st : Standing) (node : Node) → IsNodeAt f st.at.node node → is_switch node.kind ≡ true
      → course f lid st ≡ switch_course node.ports st.at.node (f.top st.at.node) lid (f.entry st.at.node lid)
  switch_does st node at kind =
      course_at st node at
      ∙ ap (λ t. cond t (switch_course node.ports st.at.node (f.top st.at.node) lid (f.entry st.at.node lid)) (adapter_course (owns f st.at lid) st)) kind

  counts : (t : Bool) (ports number entry : ℕ) → cond t Drops (entry_course ports number entry) ≡ entry_course ports number (cond t 255 entry)
  counts true ports number entry = refl
  counts false ports number entry = refl

  -- by the entry that counts
  pub switch_enters : (st : Standing) (node : Node) → IsNodeAt f st.at.node node → is_switch node.kind ≡ true
      → course f lid st ≡ entry_course node.ports st.at.node (cond (lid == 0 || nat_lt (f.top st.at.node) lid) 255 (f.entry st.at.node lid))
  switch_enters st node at kind =
      switch_does st node at kind ∙ counts (lid == 0 || nat_lt (f.top st.at.node) lid) node.ports st.at.node (f.entry st.at.node lid)
