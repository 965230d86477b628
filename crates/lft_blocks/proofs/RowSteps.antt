-- Rows as they are written, from target to target, and the tables that they make.
use Rattle.std.proofs.Common.{◌≡◌, ◌≢◌, ◌<◌, ◌≤◌, ◌+◌, ◌*◌, ◌⊎◌, ◌++◌, ℕ, List, [], ◌∷◌, inl, inr, refl, sym, ap, ◌∙◌, subst, arith, Bool, true, false, cond, ◌==◌, length, map, get_or, replicate, All, add-one, append-nil}
use Rattle.std.proofs.lemmas.Bool.{cases_eq, cases_lt, eq-eqb, eqb-true, ne_eqb, lt-ltb, le-ltb}
use Rattle.std.proofs.lemmas.List.{get_or-map, get_or_default, get_or-replicate, get_or-set_other, get_or-set_same, length-map, length-replicate, length-set}
use Rattle.std.proofs.lemmas.List.FromFn.{fill_by_all, get_or-map-range_with_len, length-map-range_with_len}
use Rattle.std.specs.Prelude.{Contains, MatchOption, Option, None, Some, nat_lt, option_map, unwrap_or, slice_index, slice_index_or, slice_set, filter}
use Rattle.std.specs.Option.{option_map_or}
use Rattle.std.specs.List.{range_with_len}
use Rattle.std.specs.List.Sorted.{IsStrictlyIncreasing}
use Rattle.smp_bytes.proofs.Members.{contains_here, contains_later, contains_cases, contains_none, contains_filter, contains-from_filter}
use Rattle.spread_labels.specs.Orders.{numbers_from}
use Rattle.port_graph.proofs.SearchSteps.{all_from_contained}
use Rattle.spread_labels.proofs.Earlier.{filter_more, numbers_more}
use Rattle.spread_labels.proofs.Growing.{numbers_below, numbers_there}
use Rattle.subnet_view.specs.SwitchEdges.{SwitchEdges}
use Rattle.subnet_view.specs.Graph.{guids_of}
use Rattle.spread_routes.specs.Exits.{with_entries}
use Rattle.lft_blocks.specs.declared.attachment.Attachment.{Attachment}
use Rattle.lft_blocks.specs.Entries.{Next, port_to, entry, blocks}
use Rattle.lft_blocks.specs.Attachment.{meant, AreWithin, AreIndexed}
use Rattle.lft_blocks.specs.Plan.{SwitchTable, tables_of}
use Rattle.lft_blocks.specs.TableRow.{AreLidsAt, AreRows, IsRow, block_of_row, blocks_of_row, entry_before, entry_by, attachment_port, is_attachment_at, lids_at, lids_before, attachment_by_index, table_of_row}
use Rattle.lft_blocks.proofs.AttachmentTables.{same_test}

-- what is written of LIDs whose ports are those of a function ----------------------------------

module _ (attachments : List (Option Attachment)) (o : Bool) (f : ℕ → Option ℕ) where
  abbrev here : ℕ → ℕ
  here k = entry_by attachments o k (f k)

  abbrev after : List ℕ → List ℕ → List ℕ
  after row lids = with_entries here row lids

  pub as_long : (lids row : List ℕ) → length (after row lids) ≡ length row
  as_long [] row = refl
  as_long (l ∷ lids) row = as_long lids (slice_set row l (here l)) ∙ length-set row l (here l)

  pub elsewhere : (lids row : List ℕ) (k : ℕ) → (Contains lids k → ⊥) → get_or (after row lids) k 0 ≡ get_or row k 0
  elsewhere [] row k none = refl
  elsewhere (l ∷ lids) row k none =
      let other : k ≢ l = λ e. none (subst (λ (x : ℕ). Contains (l ∷ lids) x) (sym e) (contains_here l lids)) in
      elsewhere lids (slice_set row l (here l)) k (λ h. none (contains_later l k lids h)) ∙ get_or-set_other row l k (here l) 0 other

  there_or : (lids row : List ℕ) (k : ℕ) → k < length row → Contains lids k ⊎ (get_or row k 0 ≡ here k) → get_or (after row lids) k 0 ≡ here k
  there_or [] row k h (inl c) = absurd (contains_none k c)
  there_or [] row k h (inr e) = e
  there_or (l ∷ lids) row k h c =
      let row' = slice_set row l (here l) in
      let long : k < length row' = omega (arith, length-set row l (here l)) in
      elim (cases_eq l k) [
        | inl same ↦
            let set : get_or row' k 0 ≡ here k =
            ap (λ x. get_or row' x 0) (sym same) ∙ get_or-set_same row l (here l) 0 (omega (arith, same)) ∙ ap here same in
            there_or lids row' k long (inr set)
        | inr other ↦
            let kept : get_or row' k 0 ≡ get_or row k 0 = get_or-set_other row l k (here l) 0 (λ e. other (sym e)) in
            (elim c [
              | inl among ↦ (elim (contains_cases l k lids among) [
                | inl e ↦ absurd (other e)
                | inr rest ↦ there_or lids row' k long (inl rest)
              ])
              | inr e ↦ there_or lids row' k long (inr (kept ∙ e))
            ])
      ]

  pub there : (lids row : List ℕ) (k : ℕ) → k < length row → Contains lids k → get_or (after row lids) k 0 ≡ here k
  there lids row k h c = there_or lids row k h (inl c)

-- one target more ------------------------------------------------------------------------------

turned : (a b : ℕ) → (a == b) ≡ (b == a)
turned a b =
    elim (cases_eq a b) [
      | inl same ↦ eq-eqb a b same ∙ sym (eq-eqb b a (sym same))
      | inr other ↦ ne_eqb a b other ∙ sym (ne_eqb b a (λ e. other (sym e)))
    ]

module _ (next : Next) (guids : List ℕ) (attachments : List (Option Attachment)) (t own : ℕ) where
  abbrev f : ℕ → Option ℕ
  f lid = next lid (slice_index guids own) (slice_index guids t)

  entry_more : (row : List ℕ) → IsRow next guids attachments t own row → (lid : ℕ) → lid < length attachments → (attachment : Option Attachment)
      → slice_index_or attachments lid None ≡ attachment
      → get_or (after attachments (own == t) f row (lids_at attachments t)) lid 0 ≡ entry_before next guids (t + 1) own lid attachment
  entry_more row is lid h None e =
      elsewhere attachments (own == t) f (lids_at attachments t) row lid
      (λ c. let p = contains-from_filter (λ l. is_attachment_at t (slice_index_or attachments l None)) (numbers_from 0 (length attachments)) lid c in
      absurd (let no : is_attachment_at t None ≡ true = ap (is_attachment_at t) (sym e) ∙ p.1 in cc))
      ∙ is.entries lid h ∙ ap (entry_before next guids t own lid) e
  entry_more row is lid h (Some x) e =
      elim (cases_eq x.switch t) [
        | inl same ↦
            let among : Contains (lids_at attachments t) lid =
            contains_filter (λ l. is_attachment_at t (slice_index_or attachments l None)) (numbers_from 0 (length attachments)) lid
            (numbers_there (length attachments) 0 lid (omega arith) (omega arith))
            (ap (is_attachment_at t) e ∙ eq-eqb x.switch t same) in
            let below : nat_lt x.switch (t + 1) ≡ true = lt-ltb x.switch (t + 1) (omega (arith, same)) in
            there attachments (own == t) f (lids_at attachments t) row lid (omega (arith, is.all)) among
            ∙ (λ i. cond (turned own t i) (attachment_port (e i)) (unwrap_or (f lid) 255))
            ∙ (λ i. cond (sym same i == own) x.port (unwrap_or (next lid (slice_index guids own) (slice_index guids (sym same i))) 255))
            ∙ sym (ap (λ b. cond b (cond (x.switch == own) x.port (unwrap_or (next lid (slice_index guids own) (slice_index guids x.switch)) 255)) 255) below)
        | inr other ↦
            let less : nat_lt x.switch t ≡ nat_lt x.switch (t + 1) = less_alike x.switch t other in
            elsewhere attachments (own == t) f (lids_at attachments t) row lid
            (λ c. let p = contains-from_filter (λ l. is_attachment_at t (slice_index_or attachments l None)) (numbers_from 0 (length attachments)) lid c in
            other (eqb-true x.switch t (ap (is_attachment_at t) (sym e) ∙ p.1)))
            ∙ is.entries lid h ∙ ap (entry_before next guids t own lid) e
            ∙ ap (λ b. cond b (cond (x.switch == own) x.port (unwrap_or (next lid (slice_index guids own) (slice_index guids x.switch)) 255)) 255) less
      ]
    where
      less_alike : (a b : ℕ) → (a ≡ b → ⊥) → nat_lt a b ≡ nat_lt a (b + 1)
      less_alike a b apart =
          elim (cases_lt a b) [
            | inl l ↦ lt-ltb a b l ∙ sym (lt-ltb a (b + 1) (omega arith))
            | inr m ↦ let above : b < a = grind arith in le-ltb a b m ∙ sym (le-ltb a (b + 1) (omega arith))
          ]

  pub row_more : (row : List ℕ) → IsRow next guids attachments t own row
      → IsRow next guids attachments (t + 1) own (with_entries (λ lid. entry_by attachments (own == t) lid (f lid)) row (lids_at attachments t))
  row_more row is = record {
    all = as_long attachments (own == t) f (lids_at attachments t) row ∙ is.all;
    entries = λ lid h. entry_more row is lid h (slice_index_or attachments lid None) refl;
  }

-- at first there is no way ---------------------------------------------------------------------

none_before : (next : Next) (guids : List ℕ) (own lid : ℕ) (attachment : Option Attachment) → 255 ≡ entry_before next guids 0 own lid attachment
none_before next guids own lid None = refl
none_before next guids own lid (Some h) =
    sym (ap (λ b. cond b (cond (h.switch == own) h.port (unwrap_or (next lid (slice_index guids own) (slice_index guids h.switch)) 255)) 255)
    (le-ltb h.switch 0 (omega arith)))

pub no_rows : (next : Next) (guids : List ℕ) (attachments : List (Option Attachment)) (n : ℕ) (rows : List (List ℕ)) → n ≡ length guids → rows
    ≡ replicate n (replicate (length attachments) 255)
    → AreRows next guids attachments 0 rows
no_rows next guids attachments n rows many are = record {
  all = ap length are ∙ length-replicate n (replicate (length attachments) 255) ∙ many;
  each = λ own h.
      let row : replicate (length attachments) 255 ≡ slice_index_or rows own [] =
      sym (ap (λ xs. get_or xs own []) are ∙ get_or-replicate n own (replicate (length attachments) 255) [] (omega arith)) in
      subst (IsRow next guids attachments 0 own) row (record {
        all = length-replicate (length attachments) 255;
        entries = λ lid l. get_or-replicate (length attachments) lid 255 0 l ∙ none_before next guids own lid (slice_index_or attachments lid None);
      });
}

-- and at last each entry is there ----------------------------------------------------------------

module _ (graph : List SwitchEdges) (guids : List ℕ) (theirs : guids
    ≡ guids_of graph) (rising : IsStrictlyIncreasing guids) (next : Next) (attachments : List (Option Attachment))
    (within : AreWithin (length guids) attachments) where
  entry_at_last : (own lid : ℕ) → own < length guids → (attachment : Option Attachment) → slice_index_or attachments lid None ≡ attachment
      → entry_before next guids (length guids) own lid attachment
      ≡ option_map_or (port_to next lid (slice_index guids own)) (option_map (meant guids) attachment) 255
  entry_at_last own lid h None e = refl
  entry_at_last own lid h (Some x) e =
      let below : x.switch < length guids = subst (λ (o : Option Attachment). MatchOption o (Unit {0}) (λ y. y.switch < length guids)) e (within lid) in
      ap (λ b. cond b (cond (x.switch == own) x.port (unwrap_or (next lid (slice_index guids own) (slice_index guids x.switch)) 255)) 255)
      (lt-ltb x.switch (length guids) below)
      ∙ ap (λ b. cond b x.port (unwrap_or (next lid (slice_index guids own) (slice_index guids x.switch)) 255))
      (same_test graph guids theirs rising x.switch own below h)

  module _ (count : ℕ) (long : length attachments ≡ 64 * count) where
    row_blocks : (own : ℕ) (row : List ℕ) → own < length guids → IsRow next guids attachments (length guids) own row
        → blocks_of_row row count ≡ blocks (attachment_by_index guids attachments) next count (slice_index guids own)
    row_blocks own row h is = same_maps (block_of_row row) (λ b. map (at_index b) (range_with_len 0 64)) count
        (λ b l. same_maps (λ i. slice_index row (64 * b + i)) (at_index b) 64 (λ i m.
        is.entries (64 * b + i) (omega arith) ∙ entry_at_last own (64 * b + i) h (slice_index_or attachments (64 * b + i) None) refl))
      where
        at_index : ℕ → ℕ → ℕ
        at_index b i = entry (attachment_by_index guids attachments) next (slice_index guids own) (64 * b + i)

        same_maps : {X : Type 0} (g k : ℕ → X) (n : ℕ) → ((i : ℕ) → i < n → g i ≡ k i) → map g (range_with_len 0 n) ≡ map k (range_with_len 0 n)
        same_maps g k n same = fill_by_all k (map g (range_with_len 0 n)) n (g 0) (length-map-range_with_len g 0 n)
            (λ i h. get_or-map-range_with_len g 0 n i i (g 0) h (omega arith) ∙ same i h)

    pub tables_are : (rows : List (List ℕ)) → AreRows next guids attachments (length guids) rows
        → map (table_of_row guids rows count) (range_with_len 0 (length guids)) ≡ tables_of (attachment_by_index guids attachments) next count guids
    tables_are rows are =
        sym (fill_by_all (table_of_row guids rows count) (tables_of (attachment_by_index guids attachments) next count guids) (length guids) none
        (length-map guids by_guid)
        (λ own h. get_or-map by_guid guids own 0 none h
        ∙ (λ i. record { guid = slice_index guids own; blocks = sym (row_blocks own (slice_index_or rows own []) h (are.each own h)) i })))
      where
        none : SwitchTable
        none = record { guid = 0; blocks = [] }

        by_guid : ℕ → SwitchTable
        by_guid g = record { guid = g; blocks = blocks (attachment_by_index guids attachments) next count g }

-- attachments that have indices, by their indices
pub indexed_itself : (guids : List ℕ) (attachments : List (Option Attachment)) → AreWithin (length guids) attachments
    → AreIndexed guids (attachment_by_index guids attachments) attachments
indexed_itself guids attachments within lid = record { same = refl; within = within lid }

pub same_attachments : (guids : List ℕ) (attachments : ℕ → Option (ℕ × ℕ)) (indexed : List (Option Attachment)) → AreIndexed guids attachments indexed
    → attachment_by_index guids indexed ≡ attachments
same_attachments guids attachments indexed are = λ i lid. (are lid).same i

-- what the code is handed ------------------------------------------------------------------------

-- one LID more
pub lids_more : (test : ℕ → Bool) (n : ℕ) (b : Bool) → test n ≡ b → filter test (numbers_from 0 (n + 1)) ≡ filter test (numbers_from 0 n) ++ cond b (n ∷ []) []
lids_more test n b is =
    let last : 0 + n ≡ n = omega arith in
    ap (filter test) (ap (numbers_from 0) (add-one n) ∙ numbers_more 0 n ∙ ap (λ x. numbers_from 0 n ++ x ∷ []) last)
    ∙ filter_more test (numbers_from 0 n) n ∙ ap (λ c. filter test (numbers_from 0 n) ++ cond c (n ∷ []) []) is

-- it is a LID at the switch of its attachment alone
pub lid_added : (attachments : List (Option Attachment)) (n switches : ℕ) (attachment : Attachment) (old new : List (List ℕ))
    → slice_index_or attachments n None ≡ Some attachment → attachment.switch < switches
    → new ≡ slice_set old attachment.switch (get_or old attachment.switch [] ++ n ∷ []) → AreLidsAt attachments n switches old
    → AreLidsAt attachments (n + 1) switches new
lid_added attachments n switches attachment old new is below set are = subst (AreLidsAt attachments (n + 1) switches) (sym set) (record {
  all = length-set old attachment.switch (get_or old attachment.switch [] ++ n ∷ []) ∙ are.all;
  each = λ t h. elim (cases_eq attachment.switch t) [
    | inl same ↦
        subst (λ (x : ℕ). get_or (slice_set old attachment.switch (get_or old attachment.switch [] ++ n ∷ [])) x [] ≡ lids_before attachments (n + 1) x) same
        (get_or-set_same old attachment.switch (get_or old attachment.switch [] ++ n ∷ []) [] (omega (arith, are.all))
        ∙ ap (λ xs. xs ++ n ∷ []) (are.each attachment.switch below)
        ∙ sym (lids_more (λ lid. is_attachment_at attachment.switch (slice_index_or attachments lid None)) n true (ap (is_attachment_at attachment.switch) is
        ∙ eq-eqb attachment.switch attachment.switch refl)))
    | inr other ↦
        let none = ap (is_attachment_at t) is ∙ ne_eqb attachment.switch t other in
        get_or-set_other old attachment.switch t (get_or old attachment.switch [] ++ n ∷ []) [] (λ e. other (sym e)) ∙ are.each t h
        ∙ sym (append-nil (lids_before attachments n t)) ∙ sym (lids_more (λ lid. is_attachment_at t (slice_index_or attachments lid None)) n false none)
  ];
})

pub lid_passed : (attachments : List (Option Attachment)) (n switches : ℕ) (lists : List (List ℕ)) → slice_index_or attachments n None ≡ None
    → AreLidsAt attachments n switches lists → AreLidsAt attachments (n + 1) switches lists
lid_passed attachments n switches lists is are = record {
  all = are.all;
  each = λ t h. are.each t h ∙ sym (append-nil (lids_before attachments n t))
      ∙ sym (lids_more (λ lid. is_attachment_at t (slice_index_or attachments lid None)) n false (ap (is_attachment_at t) is));
}

-- the LIDs at a switch have entries
pub lids_within : (attachments : List (Option Attachment)) (t : ℕ) → All (λ lid. lid < length attachments) (lids_at attachments t)
lids_within attachments t =
    all_from_contained (λ lid. lid < length attachments) (lids_at attachments t)
    (λ lid h. omega (
      arith,
      numbers_below (length attachments) 0 lid (contains-from_filter (λ l. is_attachment_at t (slice_index_or attachments l None))
          (numbers_from 0 (length attachments)) lid h).0,
    ))

-- rows are as long as there are attachments
pub rows_long : (next : Next) (guids : List ℕ) (attachments : List (Option Attachment)) (t : ℕ) (rows : List (List ℕ)) → AreRows next guids attachments t rows
    → All (λ row. length row ≡ length attachments) rows
rows_long next guids attachments t rows are k d h =
    subst (λ (row : List ℕ). length row ≡ length attachments) (get_or_default rows k [] d h) (are.each k (omega (arith, are.all))).all

-- a row for the first so many switches up to one target, and the others up to another
pub record AreRowsUpTo (next : Next) (guids : List ℕ) (attachments : List (Option Attachment)) (first end own : ℕ) (rows : List (List ℕ)) : Type 0 where
  pub all : length rows ≡ length guids
  pub done : (s : ℕ) → s < own → IsRow next guids attachments end s (slice_index_or rows s [])
  pub left : (s : ℕ) → own ≤ s → s < length guids → IsRow next guids attachments first s (slice_index_or rows s [])

module _ (next : Next) (guids : List ℕ) (attachments : List (Option Attachment)) (first end : ℕ) where
  pub rows_at_first : (rows : List (List ℕ)) → AreRows next guids attachments first rows → AreRowsUpTo next guids attachments first end 0 rows
  rows_at_first rows are = record { all = are.all; done = λ s h. absurd (omega (arith, h)); left = λ s h l. are.each s l }

  -- one row more
  pub up_to_more : (own : ℕ) (rows : List (List ℕ)) (row : List ℕ) → own < length rows → AreRowsUpTo next guids attachments first end own rows
      → IsRow next guids attachments end own row → AreRowsUpTo next guids attachments first end (own + 1) (slice_set rows own row)
  up_to_more own rows row h so is = record {
    all = length-set rows own row ∙ so.all;
    done = λ s l. elim (cases_eq s own) [
      | inl same ↦ subst (λ (x : ℕ). IsRow next guids attachments end x (slice_index_or (slice_set rows own row) x [])) (sym same)
          (subst (IsRow next guids attachments end own) (sym (get_or-set_same rows own row [] h)) is)
      | inr other ↦
          let below : s < own = grind arith in
          subst (IsRow next guids attachments end s) (sym (get_or-set_other rows own s row [] other)) (so.done s below)
    ];
    left = λ s l m.
        let other : s ≢ own = λ e. absurd (omega (arith, l, e)) in
        subst (IsRow next guids attachments first s) (sym (get_or-set_other rows own s row [] other)) (so.left s (omega (arith, l)) m);
  }

  pub rows_at_last : (own : ℕ) (rows : List (List ℕ)) → length guids ≤ own → AreRowsUpTo next guids attachments first end own rows
      → AreRows next guids attachments end rows
  rows_at_last own rows all so = record { all = so.all; each = λ s h. so.done s (omega (arith, h, all)) }
