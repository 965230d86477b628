-- Whether GUIDs differ, node by node.
use Rattle.std.proofs.Common.{◌≡◌, ◌≢◌, ℕ, suc, ◌<◌, Bool, true, false, cond, ◌||◌, not, ◌==◌, List, [], ◌∷◌, ◌++◌, length, get_or, take, refl, sym, ap, ◌∙◌}
use Rattle.std.proofs.Common.{subst, arith}
use Rattle.std.specs.List.{list_any}
use Rattle.std.specs.Ordering.{nat_cmp}
use Rattle.std.specs.Cmp.{unsigned_ties}
use Rattle.std.specs.BTreeSet.{BTreeSet, contains, Updates}
use Rattle.std.proofs.Math.Seq.{take-suc}
use Rattle.std.proofs.lemmas.Bool.{eq-eqb}
use Rattle.std.proofs.lemmas.List.{get_or-take, length-take-le}
use Rattle.std.proofs.lemmas.List.Quantifiers.{all_pairs_push}
use Rattle.std.proofs.lemmas.List.Recursion.{or_push, or_is, or_at}
use Rattle.topo_file.specs.declared.node.Node.{Node}
use Rattle.topo_file.specs.Topology.{GuidsDiffer}
use Rattle.text_words.proofs.Splits.{differs}

-- a node has the GUID
abbrev pub has_guid : List Node → ℕ → Bool
has_guid nodes guid = list_any (λ n. n.guid == guid) nodes

-- the GUIDs of so many nodes are in the set, and differ
pub record HaveSeen (nodes : List Node) (held : BTreeSet ℕ) (i : ℕ) : Type 0 where
  pub seen : (guid : ℕ) → contains nat_cmp held guid ≡ has_guid (take i nodes) guid
  pub differ : GuidsDiffer (take i nodes)

either_way : (t o : Bool) → cond t true o ≡ (o || t)
either_way true true = refl
either_way true false = refl
either_way false true = refl
either_way false false = refl

module _ (nodes : List Node) (held : BTreeSet ℕ) (i : ℕ) (node : Node) (h : i < length nodes) (is : node ≡ get_or nodes i node)
    (has : HaveSeen nodes held i) where
  -- a GUID that was seen is not the only one
  pub seen_before : contains nat_cmp held node.guid ≡ true → GuidsDiffer nodes → false ≡ true
  seen_before e differ =
      let front = take i nodes in
      let long : length front ≡ i = length-take-le i nodes (omega arith) in
      let apart : (k : ℕ) → k < length front → ((get_or front k node).guid == node.guid) ≡ false = λ k l.
      differs _ _ (λ same. differ k i node (omega arith) h (ap (λ n. n.guid) (sym (get_or-take i nodes k node (omega arith))) ∙ same ∙ ap (λ n. n.guid) is)) in
      let none : false ≡ has_guid front node.guid = or_is (λ ns. has_guid ns node.guid) (λ n. n.guid == node.guid) refl (λ _ _. refl) front node false
      (λ f. absurd (cc)) (λ _. apart) in
      none ∙ sym (has.seen node.guid) ∙ e

  -- another one is one more
  pub seen_more : (new : BTreeSet ℕ) → contains nat_cmp held node.guid ≡ false → Updates nat_cmp held new node.guid true → HaveSeen nodes new (suc i)
  seen_more new e u =
      let front = take i nodes in
      let longer : take (suc i) nodes ≡ front ++ node ∷ [] = take-suc nodes i node h ∙ ap (λ n. front ++ n ∷ []) (sym is) in
      let none : has_guid front node.guid ≡ false = sym (has.seen node.guid) ∙ e in
      let Differ : List Node → Type 0 = λ ns. GuidsDiffer ns in
      record {
        seen = λ guid. u.0 guid ∙ (λ j. cond (sym (unsigned_ties node.guid guid) j) true (has.seen guid j))
            ∙ either_way (node.guid == guid) (has_guid front guid)
            ∙ sym (ap (λ ns. has_guid ns guid) longer ∙ or_push (λ ns. has_guid ns guid) (λ n. n.guid == guid) refl (λ _ _. refl) front node);
        differ = subst Differ (sym longer) (all_pairs_push (λ x y. x.guid ≢ y.guid) front node has.differ (λ k d l same.
            let found : has_guid front node.guid ≡ true = or_at (λ ns. has_guid ns node.guid) (λ n. n.guid == node.guid) refl (λ _ _. refl) front k d l
            (eq-eqb _ _ same) in cc));
      }

pub denied : (t : Bool) → not t ≡ false → t ≡ true
denied true e = refl
denied false e = cc

pub allowed : (t : Bool) → not t ≡ true → t ≡ false
allowed true e = cc
allowed false e = refl
