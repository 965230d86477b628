-- A joined file stands for the files that it was made of, and the parts of a split file for the whole.
use Rattle.std.proofs.Common.{◌≡◌, ℕ, max, List, [], ◌∷◌, ◌++◌, refl, ap, sym, ◌∙◌, append_assoc, arith}
use Rattle.std.proofs.lemmas.List.Concat.{flat_map-append}
use Rattle.std.specs.List.{flat_map}
use Rattle.fact_store.specs.View.{view_at}
use Rattle.fact_store.specs.Merge.{merge}
use Rattle.fact_store.proofs.Views.{view_of_both}
use Rattle.record_file.specs.Laws.{AreParts}
use Rattle.record_file.specs.Reading.{floor_in, kept}
use Rattle.lft_blocks.specs.Rule.{RuleValue}
use Rattle.sm_cli.specs.declared.asked.Invocation.{Invocation}
use Rattle.record_file.proofs.SplitFiles.{split_reports, split_store}
use Rattle.record_file.proofs.StoreFiles.{read_back}
use Rattle.sm_cli.specs.InputFiles.{facts_of, floor_among}
use Rattle.sm_cli.specs.Run.{answer_to}
use Rattle.sm_cli.specs.RunLaws.{JoinedFileStands, SplitFileStands, SplitStoreStands, StandFor}

-- the greatest floor, if the greater of two floors was given
floor_among-max : (a b : ℕ) (files : List (List ℕ)) → floor_among (max a b) files ≡ max a (floor_among b files)
floor_among-max a b [] = refl
floor_among-max a b (f ∷ files) =
    ap (λ n. floor_among n files) (omega arith) ∙ floor_among-max a (max b (floor_in f)) files

-- of files and others
floor_among-both : (floor : ℕ) (files others : List (List ℕ)) → floor_among floor (files ++ others) ≡ floor_among (floor_among floor files) others
floor_among-both floor [] others = refl
floor_among-both floor (f ∷ files) others = floor_among-both (max floor (floor_in f)) files others

pub joined_file_stands : JoinedFileStands
joined_file_stands request rule floor told files others joined is =
    let read = read_back told joined (facts_of floor files) is in
    let given = request.floor in
    let mine = floor_among floor files in
    let theirs = floor_among given others in
    let before : floor_among (max given (floor_in joined)) others ≡ max (floor_in joined) theirs =
    ap (λ n. floor_among n others) (omega arith) ∙ floor_among-max (floor_in joined) given others in
    let after : floor_among (max given floor) (files ++ others) ≡ max mine theirs =
    floor_among-both (max given floor) files others ∙ ap (λ n. floor_among n others) (floor_among-max given floor files ∙ omega arith)
    ∙ floor_among-max mine given others in
    let same : facts_of given (joined ∷ others) ≡ facts_of (max given floor) (files ++ others) =
    ap (λ n. view_at n (kept joined ++ flat_map kept others)) before
    ∙ view_of_both (floor_in joined) theirs (kept joined) (flat_map kept others)
    ∙ ap (λ x. merge x (view_at theirs (flat_map kept others))) read.says
    ∙ sym (view_of_both mine theirs (flat_map kept files) (flat_map kept others))
    ∙ ap (view_at (max mine theirs)) (sym (flat_map-append kept files others))
    ∙ ap (λ n. view_at n (flat_map kept (files ++ others))) (sym after) in
    (read.accepted, ap (answer_to request.output rule) same)

stand_for : (request : Invocation) (rule : RuleValue) (whole front back : List ℕ) (others : List (List ℕ)) → AreParts whole front back
    → StandFor request rule whole front back others
stand_for request rule whole front back others parts =
    let both : max request.floor (floor_in whole) ≡ max (max request.floor (floor_in front)) (floor_in back) =
    omega (arith, parts.front_floor, parts.back_floor) in record {
      front_accepted = parts.front_accepted;
      back_accepted = parts.back_accepted;
      same = ap (λ n. answer_to request.output rule (view_at (floor_among n others) (kept whole ++ flat_map kept others))) both
          ∙ ap (λ told. answer_to request.output rule (view_at (floor_among (max (max request.floor (floor_in front)) (floor_in back)) others) (told
          ++ flat_map kept others))) parts.together
          ∙ ap (λ told. answer_to request.output rule (view_at (floor_among (max (max request.floor (floor_in front)) (floor_in back)) others) told))
          (append_assoc (kept front) (kept back) (flat_map kept others));
    }

pub split_file_stands : SplitFileStands
split_file_stands request rule whole front back first second others w f b =
    stand_for request rule whole front back others (split_reports whole front back first second w f b)

pub split_store_stands : SplitStoreStands
split_store_stands request rule told whole front back facts first second others w split f b =
    stand_for request rule whole front back others (split_store told whole front back facts first second w split f b)
