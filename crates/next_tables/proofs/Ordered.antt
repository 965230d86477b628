-- The next entries by an order, by lists of what the switches do.
use Rattle.std.proofs.Common.{◌≡◌, ℕ, zero, suc, ◌+◌, ◌<◌, Bool, true, false, cond, List, [], ◌∷◌, length, get_or, Some, refl, sym, ap, ◌∙◌, arith, inl, inr, ◌&&◌, ◌||◌}
use Rattle.std.specs.Prelude.{not, map, replicate, slice_index_or, unwrap_or, min, ◌==◌, None}
use Rattle.std.specs.List.{enumerate_from, list_all, list_any, range_with_len, zip}
use Rattle.std.specs.List.Sorted.{IsStrictlyIncreasing}
use Rattle.std.proofs.Math.Bool.{or-false, or_assoc}
use Rattle.std.proofs.lemmas.Bool.{cases_order, eqb-true}
use Rattle.std.proofs.lemmas.List.{ext_get_or, get_or-map, get_or-replicate, length-map, length-replicate}
use Rattle.std.proofs.lemmas.List.FromFn.{get_or-enumerate_from, get_or-map-range_with_len, length-enumerate_from, length-map-range_with_len}
use Rattle.std.proofs.lemmas.List.Kept.{AllPairs-from_increasing}
use Rattle.std.proofs.lemmas.List.Quantifiers.{position-Some}
use Rattle.std.proofs.lemmas.Slice.Zip.{get_or-zip, length-zip}
use Rattle.fact_store.specs.View.{Facts, cells_of}
use Rattle.subnet_view.specs.declared.end_port.EndPort.{EndPort}
use Rattle.subnet_view.specs.Reading.{Cells, switches}
use Rattle.plan_tables.proofs.AttachmentTables.{switches_rise}
use Rattle.held_tables.specs.declared.held.HeldLid.{HeldLid}
use Rattle.held_tables.specs.Held.{HeldPlan}
use Rattle.held_tables.specs.Switches.{index_in}
use Rattle.held_tables.specs.Tables.{entry_for}
use Rattle.packet_walks.specs.declared.next_hop.NextHop.{NextHop}
use Rattle.packet_walks.specs.declared.next_hop.NextHop.TheVariants.{To, Ends}
use Rattle.packet_walks.specs.declared.next_hop.SwitchStep.{SwitchStep}
use Rattle.packet_walks.specs.HopsByTables.{next_hops_of, switch_step}
use Rattle.packet_walks.proofs.FabricParts.{index_there}
use Rattle.next_tables.specs.SettledRule.{comes_to, delivers, step_at}
use Rattle.packet_walks.specs.EndsBySwitch.{HaveEnded}
use Rattle.next_tables.specs.SettledEntries.{Both, arrives_by, hops_of}
use Rattle.next_tables.specs.OrderRule.{comes_down, goes_up, is_same, leads_in, may_change, next_by_order, none_comes_down, none_goes_up, tried, tried_at, turns_well}
use Rattle.next_tables.specs.SwitchPositions.{is_down, is_up, position_at, switch_at}
use Rattle.next_tables.specs.OrderedEntries as listed
use Rattle.next_tables.specs.OrderedEntries.{delivered_of, entered_of, enters, enters_from, entries_by, entry_by, flag, goes_up_by, going_up_of, is_entered, may_change_by, ordered_of, tried_by, tried_of, turns_well_by}
use Rattle.next_tables.specs.NextTables.{index_at}
use Rattle.next_tables.proofs.Entries.{at_mapped, member}
use Rattle.next_tables.proofs.Hops.{to_within}
use Rattle.next_tables.proofs.Listed.{arrives_is}

-- truths
not_or : (a b : Bool) → not (a && not b) ≡ (not a || b)
not_or true true = refl
not_or true false = refl
not_or false b = refl

not_not : (a : Bool) → not (not a) ≡ a
not_not true = refl
not_not false = refl

-- a test of all is one that fails for none
all_is_none : {X : Type 0} (p s : X → Bool) (xs : List X) → not (list_any (λ x. p x && not (s x)) xs) ≡ list_all (λ x. not (p x) || s x) xs
all_is_none p s [] = refl
all_is_none p s (x ∷ xs) =
    (elim (p x) as (λ a. not ((a && not (s x)) || list_any (λ y. p y && not (s y)) xs) ≡ ((not a || s x) && list_all (λ y. not (p y) || s y) xs)) [
      | true ↦ (elim (s x) as (λ b. not (not b || list_any (λ y. p y && not (s y)) xs) ≡ (b && list_all (λ y. not (p y) || s y) xs)) [
        | true ↦ all_is_none p s xs
        | false ↦ refl
      ])
      | false ↦ all_is_none p s xs
    ])

-- some element is so, by its index
any_by_index : {X : Type 0} (p : X → Bool) (r : ℕ → Bool) (xs : List X) (d : X) (a : ℕ)
    → ((k : ℕ) → k < length xs → p (get_or xs k d) ≡ r (a + k)) → list_any p xs ≡ list_any r (range_with_len a (length xs))
any_by_index p r [] d a h = refl
any_by_index p r (x ∷ xs) d a h =
    let at : a + 0 ≡ a = omega arith in
    let first : p x ≡ r a = h 0 (omega arith) ∙ ap r at in
    let rest = any_by_index p r xs d (a + 1) (λ k less. let shifted : a + suc k ≡ (a + 1) + k = omega arith in h (suc k) (omega arith) ∙ ap r shifted) in
    λ i. first i || rest i

-- what was found of switches
pub delivered_is : (port : EndPort) (held : List SwitchStep) (hops ends : List NextHop) (found : List Bool) → hops ≡ hops_of held → HaveEnded hops ends
    → found ≡ map (λ (x : SwitchStep). arrives_by port ends x.hop) held → found ≡ delivered_of port held
delivered_is port held hops ends found are ended e =
    e ∙ ap (λ (f : NextHop → Bool). map (λ (x : SwitchStep). f x.hop) held) (arrives_is port hops ends ended ∙ ap (comes_to port) are)

pub entries_are : (port : EndPort) (tried : List SwitchStep) (hops ends : List NextHop) (entries : List ℕ) → hops ≡ hops_of tried → HaveEnded hops ends
    → entries ≡ map (entry_by (arrives_by port ends)) (enumerate_from 0 tried) → entries ≡ entries_by port tried
entries_are port tried hops ends entries are ended e =
    e ∙ ap (λ (f : NextHop → Bool). map (entry_by f) (enumerate_from 0 tried)) (arrives_is port hops ends ended ∙ ap (comes_to port) are)

-- switches to which packets come down from one of the first
abbrev pub no_step : SwitchStep
no_step = record { switch = 0; entry = 0; hop = To 0 }

abbrev pub enters_at : List ℕ → List SwitchStep → List SwitchStep → ℕ → ℕ → Bool
enters_at positions held goal i k = enters positions k (slice_index_or held k no_step) (slice_index_or goal k no_step) i

pub record EnteredSoFar (positions : List ℕ) (held goal : List SwitchStep) (entered : List Bool) (count : ℕ) : Type 0 where
  pub long : length entered ≡ length held
  pub each : (i : ℕ) → i < length held → flag entered i ≡ list_any (enters_at positions held goal i) (range_with_len 0 count)

pub entered_none : (positions : List ℕ) (held goal : List SwitchStep) (entered : List Bool) → entered ≡ replicate (length held) false
    → EnteredSoFar positions held goal entered 0
entered_none positions held goal entered e = record {
  long = ap length e ∙ length-replicate (length held) false;
  each = λ i less. ap (λ fs. flag fs i) e ∙ get_or-replicate (length held) i false false less;
}

range_more : (p : ℕ → Bool) (a n : ℕ) → list_any p (range_with_len a (n + 1)) ≡ (list_any p (range_with_len a n) || p (a + n))
range_more p a zero = let at : a ≡ a + 0 = omega arith in or-false (p a) ∙ ap p at
range_more p a (suc n) =
    let at : (a + 1) + n ≡ a + suc n = omega arith in
    let more : suc n + 1 ≡ suc (n + 1) = omega arith in
    ap (λ k. list_any p (range_with_len a k)) more ∙ ap (λ t. p a || t) (range_more p (a + 1) n) ∙ sym (or_assoc (p a) (list_any p (range_with_len (a + 1) n)) (p ((a + 1) + n)))
    ∙ ap (λ k. (p a || list_any p (range_with_len (a + 1) n)) || p k) at

pub entered_more : (positions : List ℕ) (held goal : List SwitchStep) (old new : List Bool) (count : ℕ) (one other : SwitchStep)
    → EnteredSoFar positions held goal old count → length new ≡ length old
    → one ≡ slice_index_or held count no_step → other ≡ slice_index_or goal count no_step
    → ((i : ℕ) → i < length old → flag new i ≡ (flag old i || enters positions count one other i)) → EnteredSoFar positions held goal new (count + 1)
entered_more positions held goal old new count one other so long is_one is_other each = record {
  long = long ∙ so.long;
  each = λ i less.
      let at : count ≡ 0 + count = omega arith in
      each i (omega (arith, less, so.long))
      ∙ (λ t. so.each i less t || enters positions count (is_one t) (is_other t) i)
      ∙ ap (λ k. list_any (enters_at positions held goal i) (range_with_len 0 count) || enters_at positions held goal i k) at
      ∙ sym (range_more (enters_at positions held goal i) 0 count);
}

pub entered_all : (positions : List ℕ) (held goal : List SwitchStep) (entered : List Bool) (count : ℕ) → count ≡ min (length held) (length goal)
    → EnteredSoFar positions held goal entered count → entered ≡ entered_of positions held goal
entered_all positions held goal entered count is so =
    let xs = enumerate_from 0 (zip held goal) in
    let long : length xs ≡ count = length-enumerate_from 0 (zip held goal) ∙ length-zip held goal ∙ sym is in
    ext_get_or false entered (entered_of positions held goal)
    (so.long ∙ sym (length-map-range_with_len (is_entered positions held goal) 0 (length held)))
    (λ i h.
    let less : i < length held = omega (arith, h, so.long) in
    let same : is_entered positions held goal i ≡ list_any (enters_at positions held goal i) (range_with_len 0 (length xs)) =
    any_by_index (enters_from positions i) (enters_at positions held goal i) xs (0, (no_step, no_step)) 0 (λ k within.
    let at : 0 + k ≡ k = omega arith in
    let low : k < length (zip held goal) = omega (arith, within, length-enumerate_from 0 (zip held goal)) in
    let mins = length-zip held goal in
    ap (enters_from positions i)
    (get_or-enumerate_from 0 (zip held goal) k (0, (no_step, no_step)) low
    ∙ (λ t. (at t, get_or-zip held goal k (no_step, no_step) (omega (arith, low, mins)) (omega (arith, low, mins)) t)))
    ∙ ap (enters_at positions held goal i) (sym at)) in
    so.each i less ∙ ap (λ m. list_any (enters_at positions held goal i) (range_with_len 0 m)) (sym long) ∙ sym same
    ∙ sym (get_or-map-range_with_len (is_entered positions held goal) 0 (length held) i i false less (omega arith)))

twice : {X Y Z : Type 0} (f : Y → Z) (g : X → Y) (xs : List X) → map f (map g xs) ≡ map (λ x. f (g x)) xs
twice f g [] = refl
twice f g (x ∷ xs) = ap (λ ys. f (g x) ∷ ys) (twice f g xs)

-- the index of what stands in a list that rises
less_later : (guids : List ℕ) (i k : ℕ) → IsStrictlyIncreasing guids → i < k → k < length guids → get_or guids i 0 < get_or guids k 0
less_later guids i k rises less within = AllPairs-from_increasing guids rises i k 0 less within

pub index_own : (guids : List ℕ) (k : ℕ) → IsStrictlyIncreasing guids → k < length guids → unwrap_or (index_in guids (slice_index_or guids k 0)) 0 ≡ k
index_own guids k rises less =
    let g = slice_index_or guids k 0 in
    elim (index_in guids g) as (λ o. index_in guids g ≡ o → unwrap_or o 0 ≡ k) [
      | None ↦ λ e. absurd (index_there guids g (member guids k less) e)
      | Some i ↦ λ e.
          let found = position-Some (λ x. x == g) guids i 0 e in
          let same : get_or guids i 0 ≡ g = eqb-true (get_or guids i 0) g found.1 in
          (elim (cases_order i k) [
            | inl is ↦ is
            | inr (inl before) ↦ let lower = less_later guids i k rises before less in absurd (omega (arith, same, lower))
            | inr (inr behind) ↦ let lower = less_later guids k i rises behind found.0 in absurd (omega (arith, same, lower))
          ])
    ] refl

-- the entries, by what was found
pub made_is : (positions : List ℕ) (port : EndPort) (held goal : List SwitchStep) (delivered going_up entered : List Bool) (tried : List SwitchStep)
    (entries : List ℕ) → delivered ≡ delivered_of port held → going_up ≡ going_up_of positions held goal → entered ≡ entered_of positions held goal
    → tried ≡ tried_of positions port delivered going_up entered held goal → entries ≡ entries_by port tried → entries ≡ ordered_of positions port held goal
unfolding ordered_of
made_is positions port held goal delivered going_up entered tried entries d u n t e =
    e ∙ ap (entries_by port) (t ∙ (λ i. tried_of positions port (d i) (u i) (n i) held goal))

module _ (facts : Facts) (positions : List ℕ) (held goal : HeldPlan) (line : HeldLid) where
  abbrev cells : Cells
  cells = cells_of facts

  abbrev gs : List ℕ
  gs = switches (cells_of facts)

  abbrev n : ℕ
  n = length (switches (cells_of facts))

  abbrev q : ℕ → ℕ
  q = position_at positions

  abbrev lid : ℕ
  lid = line.lid

  abbrev port : EndPort
  port = line.port

  -- what the switches do, and that at an index
  abbrev hs : List SwitchStep
  hs = map (switch_step cells held lid) gs

  abbrev ps : List SwitchStep
  ps = map (switch_step cells goal lid) gs

  abbrev both : List Both
  both = zip hs ps

  abbrev pair : ℕ → Both
  pair k = (switch_step cells held lid (switch_at cells k), switch_step cells goal lid (switch_at cells k))

  hs_long : length hs ≡ n
  hs_long = length-map gs (switch_step cells held lid)

  ps_long : length ps ≡ n
  ps_long = length-map gs (switch_step cells goal lid)

  both_long : length both ≡ n
  both_long = omega (arith, length-zip hs ps, hs_long, ps_long)

  both_at : (k : ℕ) (d : Both) → k < n → get_or both k d ≡ pair k
  both_at k d less =
      get_or-zip hs ps k d (omega (arith, hs_long)) (omega (arith, ps_long))
      ∙ (λ i. (at_mapped (switch_step cells held lid) gs k d.0 less i, at_mapped (switch_step cells goal lid) gs k d.1 less i))

  numbered_long : length (enumerate_from 0 both) ≡ n
  numbered_long = length-enumerate_from 0 both ∙ both_long

  numbered_at : (k : ℕ) (d : ℕ × Both) → k < n → get_or (enumerate_from 0 both) k d ≡ (k, pair k)
  numbered_at k d less =
      let at : 0 + k ≡ k = omega arith in
      get_or-enumerate_from 0 both k d (omega (arith, both_long)) ∙ (λ i. (at i, both_at k d.1 less i))

  made_at : {Y : Type 0} (f : ℕ × Both → Y) (k : ℕ) (e : Y) → k < n → get_or (map f (enumerate_from 0 both)) k e ≡ f (k, pair k)
  made_at f k e less =
      get_or-map f (enumerate_from 0 both) k (k, pair k) e (omega (arith, numbered_long)) ∙ ap f (numbered_at k (k, pair k) less)

  made_long : {Y : Type 0} (f : ℕ × Both → Y) → length (map f (enumerate_from 0 both)) ≡ n
  made_long f = length-map (enumerate_from 0 both) f ∙ numbered_long

  held_hops : hops_of hs ≡ next_hops_of cells held lid
  held_hops = twice (λ (x : SwitchStep). x.hop) (switch_step cells held lid) gs

  -- what was found of the switches
  abbrev delivered : List Bool
  delivered = delivered_of port hs

  abbrev going_up : List Bool
  going_up = going_up_of positions hs ps

  abbrev entered : List Bool
  entered = entered_of positions hs ps

  delivered_at : (k : ℕ) → k < n → flag delivered k ≡ delivers cells held line (switch_at cells k)
  delivered_at k less =
      get_or-map (λ (x : SwitchStep). comes_to port (hops_of hs) x.hop) hs k (switch_step cells held lid (switch_at cells k)) false (omega (arith, hs_long))
      ∙ ap (λ (x : SwitchStep). comes_to port (hops_of hs) x.hop) (at_mapped (switch_step cells held lid) gs k (switch_step cells held lid (switch_at cells k)) less)
      ∙ ap (λ (hops : List NextHop). comes_to port hops (step_at cells held lid (switch_at cells k))) held_hops

  going_up_is : (k : ℕ) → k < n → not (flag going_up k) ≡ none_goes_up cells q held goal lid k
  going_up_is k less =
      ap not (made_at (goes_up_by positions) k false less)
      ∙ not_or (goes_up q k (step_at cells held lid (switch_at cells k))) (is_same cells held goal lid (switch_at cells k))

  enters_there : (i k : ℕ) → k < length (enumerate_from 0 both) → enters_from positions i (get_or (enumerate_from 0 both) k (0, pair 0))
      ≡ (comes_down q (0 + k) i (step_at cells held lid (switch_at cells (0 + k))) && not (is_same cells held goal lid (switch_at cells (0 + k))))
  enters_there i k less =
      let at : k ≡ 0 + k = omega arith in
      ap (enters_from positions i) (numbered_at k (0, pair 0) (omega (arith, numbered_long)))
      ∙ ap (λ x. comes_down q x i (step_at cells held lid (switch_at cells x)) && not (is_same cells held goal lid (switch_at cells x))) at

  entered_is : (i : ℕ) → i < n → not (flag entered i) ≡ none_comes_down cells q held goal lid i
  entered_is i less =
      let down : ℕ → Bool = λ x. comes_down q x i (step_at cells held lid (switch_at cells x)) in
      let same : ℕ → Bool = λ x. is_same cells held goal lid (switch_at cells x) in
      let here : flag entered i ≡ is_entered positions hs ps i =
      get_or-map-range_with_len (is_entered positions hs ps) 0 (length hs) i i false (omega (arith, hs_long)) (omega arith) in
      let some : is_entered positions hs ps i ≡ list_any (λ x. down x && not (same x)) (range_with_len 0 n) =
      any_by_index (enters_from positions i) (λ x. down x && not (same x)) (enumerate_from 0 both) (0, pair 0) 0 (enters_there i)
      ∙ ap (λ m. list_any (λ x. down x && not (same x)) (range_with_len 0 m)) numbered_long in
      ap not (here ∙ some) ∙ all_is_none down same (range_with_len 0 n)

  -- what a switch may do
  turns_are : (i : ℕ) (hop : NextHop) → i < n → ((j : ℕ) → hop ≡ To j → j < n)
      → turns_well_by positions going_up entered i hop ≡ turns_well cells q held goal lid i hop
  turns_are i (To j) less within =
      λ t. (not (is_up q i j) || entered_is i less t) && (not (is_down q i j) || going_up_is j (within j refl) t)
  turns_are i (Ends e) less within = refl

  leads_are : (hop : NextHop) → ((j : ℕ) → hop ≡ To j → j < n) → listed.leads_in port delivered hop ≡ leads_in cells held line hop
  leads_are (To j) within = delivered_at j (within j refl)
  leads_are (Ends e) within = refl

  abbrev goal_hop : ℕ → NextHop
  goal_hop i = step_at cells goal lid (switch_at cells i)

  may_is : (i : ℕ) → i < n → may_change_by positions port delivered going_up entered i (goal_hop i) ≡ may_change cells q held goal line i (switch_at cells i)
  may_is i less =
      let within : (j : ℕ) → goal_hop i ≡ To j → j < n = λ j e. to_within cells goal lid (switch_at cells i) j e in
      λ t. turns_are i (goal_hop i) less within t && (not (delivered_at i less t) || leads_are (goal_hop i) within t)

  -- what is tried
  abbrev tried_steps : List SwitchStep
  tried_steps = tried_of positions port delivered going_up entered hs ps

  abbrev chosen : ℕ → Bool → SwitchStep
  chosen k t = cond t (switch_step cells goal lid (switch_at cells k)) (switch_step cells held lid (switch_at cells k))

  tried_step_at : (k : ℕ) (d : SwitchStep) → k < n → get_or tried_steps k d ≡ chosen k (may_change cells q held goal line k (switch_at cells k))
  tried_step_at k d less = made_at (tried_by positions port delivered going_up entered) k d less ∙ ap (chosen k) (may_is k less)

  tried_long : length tried_steps ≡ n
  tried_long = made_long (tried_by positions port delivered going_up entered)

  chosen_hop : (k : ℕ) (t : Bool) → (chosen k t).hop ≡ cond t (step_at cells goal lid (switch_at cells k)) (step_at cells held lid (switch_at cells k))
  chosen_hop k true = refl
  chosen_hop k false = refl

  chosen_entry : (k : ℕ) (t : Bool) → (chosen k t).entry ≡ cond t (entry_for goal lid (switch_at cells k)) (entry_for held lid (switch_at cells k))
  chosen_entry k true = refl
  chosen_entry k false = refl

  tried_hops : hops_of tried_steps ≡ tried cells q held goal line
  tried_hops =
      ext_get_or (To 0) (hops_of tried_steps) (tried cells q held goal line)
      (length-map tried_steps (λ (x : SwitchStep). x.hop) ∙ tried_long ∙ sym (length-map-range_with_len (tried_at cells q held goal line) 0 n))
      (λ k h.
      let less : k < n = omega (arith, h, length-map tried_steps (λ (x : SwitchStep). x.hop), tried_long) in
      get_or-map (λ (x : SwitchStep). x.hop) tried_steps k (chosen k true) (To 0) (omega (arith, tried_long))
      ∙ ap (λ (x : SwitchStep). x.hop) (tried_step_at k (chosen k true) less)
      ∙ chosen_hop k (may_change cells q held goal line k (switch_at cells k))
      ∙ sym (get_or-map-range_with_len (tried_at cells q held goal line) 0 n k k (To 0) less (omega arith)))

  -- the next entries
  abbrev next_at_index : ℕ → ℕ
  next_at_index k = next_by_order cells q held goal line k (switch_at cells k)

  entry_at_index : (k : ℕ) → k < n → get_or (entries_by port tried_steps) k 255 ≡ next_at_index k
  entry_at_index k less =
      let at : 0 + k ≡ k = omega arith in
      let comes : NextHop → Bool = comes_to port (hops_of tried_steps) in
      let d : SwitchStep = chosen k true in
      get_or-map (entry_by comes) (enumerate_from 0 tried_steps) k (0, d) 255 (omega (arith, length-enumerate_from 0 tried_steps, tried_long))
      ∙ ap (entry_by comes) (get_or-enumerate_from 0 tried_steps k (0, d) (omega (arith, tried_long)))
      ∙ (λ i. entry_by comes (at i, tried_step_at k d less i))
      ∙ (λ i. cond (comes_to port (tried_hops i) (To k)) (chosen_entry k (may_change cells q held goal line k (switch_at cells k)) i) 255)

  entries_long : length (entries_by port tried_steps) ≡ n
  entries_long =
      length-map (enumerate_from 0 tried_steps) (entry_by (comes_to port (hops_of tried_steps))) ∙ length-enumerate_from 0 tried_steps ∙ tried_long

  abbrev by_guid : ℕ → ℕ
  by_guid g = next_by_order cells q held goal line (index_at cells g) g

  pub ordered_is : ordered_of positions port hs ps ≡ map by_guid gs
  unfolding ordered_of
  ordered_is =
      ext_get_or 255 (entries_by port tried_steps) (map by_guid gs) (entries_long ∙ sym (length-map gs by_guid))
      (λ k h.
      let less : k < n = omega (arith, h, entries_long) in
      entry_at_index k less
      ∙ ap (λ i. next_by_order cells q held goal line i (switch_at cells k)) (sym (index_own gs k (switches_rise facts gs refl) less))
      ∙ sym (at_mapped by_guid gs k 255 less))
