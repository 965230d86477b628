-- The two texts are the parts of their list.
use Rattle.std.proofs.Common.{inl, inr}
use Rattle.std.proofs.lemmas.Result.{IfErr-weaker}
use Rattle.sm_cli.proofs.HandedOn.{handed_on}
use Rattle.schedule_run.proofs.TwoTexts.{both, texts_are, texts_were}
use Rattle.schedule_run.proofs.texts.read_setting.Goals as goal

pub returns-in_err-texts-clause-refused : goal.returns-in_err-texts-clause-refused
returns-in_err-texts-clause-refused g c =
    handed_on c.from_residual.result c.in_err-texts.field-0.0 _ c.from_residual.ensures.1
    (record {
      were = texts_were c.args.texts.now c.split_at_mut-topology.result.0.now c.split_at_mut-topology.result.1.now c.index-topology-0.result
          c.index-schedule-0.result c.split_at_mut-topology.ensures.value c.split_at_mut-topology.ensures.front_len c.requires.two;
      are = texts_are c.args.texts.now c.split_at_mut-topology.result.0.now c.split_at_mut-topology.result.1.now c.read_texts.new.topology
          c.read_texts.new.schedule c.split_at_mut-topology.ensures.value c.split_at_mut-topology.ensures.front_len c.requires.two;
      why = inl c.in_err-texts.ensures.refused;
    })

pub returns-clause-told : goal.returns-clause-told
returns-clause-told g c =
    both c.judge.result _ _ _ c.judge.ensures.told c.judge.ensures.script (λ setting tells script. record {
      were = texts_were c.args.texts.now c.split_at_mut-topology.result.0.now c.split_at_mut-topology.result.1.now c.index-topology-0.result
          c.index-schedule-0.result c.split_at_mut-topology.ensures.value c.split_at_mut-topology.ensures.front_len c.requires.two;
      are = texts_are c.args.texts.now c.split_at_mut-topology.result.0.now c.split_at_mut-topology.result.1.now c.read_texts.new.topology
          c.read_texts.new.schedule c.split_at_mut-topology.ensures.value c.split_at_mut-topology.ensures.front_len c.requires.two;
      topology = c.in_ok-texts.texts.topology.items;
      schedule = c.in_ok-texts.texts.schedule.items;
      read = c.in_ok-texts.ensures.read;
      tells = tells;
      is_script = script;
    })

pub returns-clause-refused : goal.returns-clause-refused
returns-clause-refused g c =
    IfErr-weaker c.judge.result _ _ (λ fault refuses. record {
      were = texts_were c.args.texts.now c.split_at_mut-topology.result.0.now c.split_at_mut-topology.result.1.now c.index-topology-0.result
          c.index-schedule-0.result c.split_at_mut-topology.ensures.value c.split_at_mut-topology.ensures.front_len c.requires.two;
      are = texts_are c.args.texts.now c.split_at_mut-topology.result.0.now c.split_at_mut-topology.result.1.now c.read_texts.new.topology
          c.read_texts.new.schedule c.split_at_mut-topology.ensures.value c.split_at_mut-topology.ensures.front_len c.requires.two;
      why = inr (record {
        topology = c.in_ok-texts.texts.topology.items;
        schedule = c.in_ok-texts.texts.schedule.items;
        read = c.in_ok-texts.ensures.read;
        refuses = refuses;
      });
    }) c.judge.ensures.refused
