-- The text of tables, switch after switch.
use Rattle.std.proofs.Common.{◌≡◌, ℕ, suc, ◌+◌, ◌<◌, List, [], ◌∷◌, ◌++◌, get_or, length, take, drop, refl, sym, ap, ◌∙◌, arith}
use Rattle.std.specs.Prelude.{map}
use Rattle.std.specs.List.{enumerate_from, flat_map, prefix_len}
use Rattle.std.proofs.Math.Seq.{drop-append_seam, take-append_seam}
use Rattle.std.proofs.lemmas.Bool.{eq-eqb, ne_eqb}
use Rattle.std.proofs.lemmas.List.{drop_more}
use Rattle.std.proofs.lemmas.List.Folds.{flat_map-map}
use Rattle.plan_tables.specs.Plan.{SwitchTable}
use Rattle.plan_tables.specs.PlanText.{blocks_text, switch_line, table_text}
use Rattle.held_tables.specs.declared.held.HeldBlock.{HeldBlock}
use Rattle.held_tables.specs.declared.held.HeldSwitch.{HeldSwitch}
use Rattle.plan_tables.specs.PlanTables.{blocks_from, blocks_of}
use Rattle.tables_file.specs.PrintedTextIsRead.{with_own_top}
use Rattle.tables_file.specs.PrintedTables.{block_text, first_blocks, is_of, later_blocks, switches_text}

-- a switch more
pub switch_more : (switches : List HeldSwitch) (blocks : List HeldBlock) (index : ℕ) (switch : HeldSwitch) (own later : List HeldBlock) → index
    < length switches
    → switch ≡ get_or switches index switch → own ≡ first_blocks index blocks → later ≡ later_blocks index blocks
    → switches_text index (drop index switches) blocks
    ≡ (switch_line switch.top switch.guid ++ flat_map block_text own) ++ switches_text (index + 1) (drop (index + 1) switches) later
switch_more switches blocks index switch own later less is first rest =
    let next : drop index switches ≡ switch ∷ drop (index + 1) switches =
    drop_more switches index switch less ∙ ap (λ s. s ∷ drop (index + 1) switches) (sym is) in
    let one : suc index ≡ index + 1 = omega arith in
    let line = switch_line switch.top switch.guid in
    ap (λ ss. switches_text index ss blocks) next
    ∙ (λ i. line ++ flat_map block_text (sym first i) ++ switches_text (one i) (drop (index + 1) switches) (sym rest i))

-- of blocks that stand by the indices of their switches, the first ones are the first switch's
own_prefix : (k number : ℕ) (blocks : List (List ℕ)) (rest : List HeldBlock) → prefix_len (is_of k) rest ≡ 0
    → prefix_len (is_of k) (blocks_from k number blocks ++ rest) ≡ length (blocks_from k number blocks)
own_prefix k number [] rest h = h
own_prefix k number (block ∷ blocks) rest h = let later = own_prefix k (number + 1) blocks rest h in rw (eq-eqb k k refl) (omega (arith, later))

none_in_front : (k j number : ℕ) (blocks : List (List ℕ)) (rest : List HeldBlock) → k < j → prefix_len (is_of k) rest ≡ 0
    → prefix_len (is_of k) (blocks_from j number blocks ++ rest) ≡ 0
none_in_front k j number [] rest less h = h
none_in_front k j number (block ∷ blocks) rest less h = rw (ne_eqb j k (λ e. omega (arith, e, less))) refl

none_later : (k j : ℕ) (tables : List SwitchTable) → k < j → prefix_len (is_of k) (blocks_of j tables) ≡ 0
none_later k j [] less = refl
none_later k j (table ∷ tables) less =
    none_in_front k j 0 table.blocks (blocks_of (suc j) tables) less (none_later k (suc j) tables (omega arith))

-- so each has its own
pub tables_are_text : (top : ℕ → ℕ) (k : ℕ) (tables : List SwitchTable)
    → switches_text k (map (with_own_top top) tables) (blocks_of k tables) ≡ flat_map (λ table. table_text (top table.guid) table) tables
tables_are_text top k [] = refl
tables_are_text top k (table ∷ tables) =
    let own = blocks_from k 0 table.blocks in
    let rest = blocks_of (suc k) tables in
    let count : prefix_len (is_of k) (own ++ rest) ≡ length own = own_prefix k 0 table.blocks rest (none_later k (suc k) tables (omega arith)) in
    let first : first_blocks k (own ++ rest) ≡ own = ap (λ n. take n (own ++ rest)) count ∙ take-append_seam own rest in
    let later : later_blocks k (own ++ rest) ≡ rest = ap (λ n. drop n (own ++ rest)) count ∙ drop-append_seam own rest in
    let line = switch_line (top table.guid) table.guid in
    let lines : flat_map block_text own ≡ blocks_text table.blocks = flat_map-map block_text _ (enumerate_from 0 table.blocks) in
    let others = tables_are_text top (suc k) tables in
    let switches = map (with_own_top top) tables in
    (λ i. line ++ flat_map block_text (first i) ++ switches_text (suc k) switches (later i))
    ∙ (λ i. line ++ lines i ++ others i)
