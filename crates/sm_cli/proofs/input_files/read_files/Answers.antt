use Rattle.std.proofs.Common.{◌≡◌, ◌∙◌, ◌<◌, ◌+◌, [], ◌∷◌, ◌++◌, sym, ap, get_or, arith, Some, refl, length}
use Rattle.std.specs.Prelude.{slice_get}
use Rattle.std.proofs.Math.ListN.{length-set}
use Rattle.std.proofs.lemmas.List.{length-append}
use Rattle.std.proofs.lemmas.Option.{slice_get-get_or}
use Rattle.sm_cli.proofs.Runs.{elsewhere, facts-more, facts-none, read_more, reads_stay, there_after}
use Rattle.sm_cli.proofs.input_files.read_files.Goals as goal

pub returns-in-Err-clause-refused : goal.returns-in-Err-clause-refused
returns-in-Err-clause-refused g c =
    let i = c.loop-index in
    let within : i.index < length i.files = omega arith in
    record {
      index = i.index;
      is = refl;
      refuses = record {
        files = i.invariant.files;
        as_many = i.invariant.one_each;
        read = reads_stay g.S.Source.state c.args.files.now i.files i.invariant.files i.index c.read_into.new.source
            i.invariant.one_each i.invariant.read;
        old = get_or i.files i.index c.index-files-index.result;
        new = c.read_into.new.source;
        there = sym (i.invariant.untouched i.index (omega arith))
            ∙ slice_get-get_or i.files i.index c.index-files-index.result within;
        there_after = there_after i.files i.index c.read_into.new.source within;
        refuses = c.in-Err.ensures.refused;
      };
    }

pub loop-index-preserved : goal.loop-index-preserved
loop-index-preserved g c =
    let i = c.loop-index in
    let within : i.index < length i.files = omega arith in
    let there : slice_get c.args.files.now i.index ≡ Some (get_or i.files i.index c.index-files-index.result) =
    sym (i.invariant.untouched i.index (omega arith)) ∙ slice_get-get_or i.files i.index c.index-files-index.result within in
    let r = c.in_default.ensures.read in
    let files = i.invariant.files in
    record {
      as_many = length-set i.files i.index c.read_into.new.source ∙ i.invariant.as_many;
      untouched = λ k h. elsewhere i.files i.index c.read_into.new.source k h ∙ i.invariant.untouched k (omega arith);
      files = files ++ r.file ∷ [];
      one_each = length-append files (r.file ∷ []) ∙ ap (λ n. n + 1) i.invariant.one_each;
      read = read_more g.S.Source.state c.args.files.now i.files files i.index (get_or i.files i.index c.index-files-index.result)
          c.read_into.new.source r.file
          i.invariant.one_each i.invariant.read there within r.read;
      told = facts-more c.args.floor files r.file i.all c.read_into.new.all i.invariant.told r.merged;
    }

pub loop-index-init : goal.loop-index-init
loop-index-init g c = record {
  as_many = refl;
  untouched = λ k h. refl;
  files = [];
  one_each = refl;
  read = λ input file e. absurd (cc);
  told = facts-none c.args.floor c.new-all.result c.raise_floor.new.self c.new-all.ensures c.raise_floor.ensures;
}
