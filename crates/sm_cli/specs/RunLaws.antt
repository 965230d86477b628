-- What the answer of a run depends on: the sightings of its files, at their greatest floor.
use Rattle.std.specs.Prelude.{◌≡◌, ℕ, max, List, ◌∷◌, ◌++◌, Option, Ok, Contains}
use Rattle.std.specs.List.{flat_map}
use Rattle.fact_join.specs.declared.cell.Cell.{Cell}
use Rattle.reply_facts.specs.declared.key.Key.{Key}
use Rattle.reply_facts.specs.declared.value.Value.{Value}
use Rattle.fact_store.specs.Seen.{HaveSameMembers}
use Rattle.fact_store.specs.View.{Facts, cells_of, AreInRange}
use Rattle.subnet_view.specs.Reading.{switches}
use Rattle.roots_file.specs.Reading.{roots_of}
use Rattle.record_file.specs.ReportFile.{IsReportFile, report_file}
use Rattle.record_file.specs.Reading.{kept, outcome}
use Rattle.record_file.specs.StoreFile.{cells_file}
use Rattle.record_file.specs.StoreLaws.{IsStoreFile}
use Rattle.spread_routes.specs.SwitchOrder.{OrderValue, named_in}
use Rattle.lft_blocks.specs.Rule.{RuleValue, spread_in}
use Rattle.sm_cli.specs.declared.asked.Invocation.{Invocation}
use Rattle.sm_cli.specs.declared.asked.Output.TheVariants.{Order, Plan}
use Rattle.sm_cli.specs.declared.asked.RuleAsked.{RuleAsked}
use Rattle.sm_cli.specs.InputFiles.{facts_of, floor_among}
use Rattle.sm_cli.specs.Run.{answer_to}

-- two lists of files keep the same sightings, in any order and each any number of times, and the greatest of `floor`
-- and the files' floors is the same for both
pub record SayTheSame (floor : ℕ) (files others : List (List ℕ)) : Type 0 where
  pub sightings : HaveSameMembers (flat_map kept files) (flat_map kept others)
  pub floors : floor_among floor files ≡ floor_among floor others

-- if two lists of files keep the same sightings, and the greatest of the request's floor and the files' floors is the
-- same for both lists, the answer to the request is the same for both
abbrev pub SightingsDecideAnswer : Type 0
SightingsDecideAnswer = (request : Invocation) (rule : RuleValue) (files others : List (List ℕ))
    → SayTheSame request.floor files others → answer_to request.output rule (facts_of request.floor files)
    ≡ answer_to request.output rule (facts_of request.floor others)

-- two lists have the same files, in any order and each any number of times
pub record AreSameFiles (files others : List (List ℕ)) : Type 0 where
  pub there : (file : List ℕ) → Contains files file → Contains others file
  pub here : (file : List ℕ) → Contains others file → Contains files file

-- if two lists have the same files, in any order and each any number of times, the answer to a request is the same
abbrev pub FilesDecideAnswer : Type 0
FilesDecideAnswer = (request : Invocation) (rule : RuleValue) (files others : List (List ℕ)) → AreSameFiles files others
    → answer_to request.output rule (facts_of request.floor files)
    ≡ answer_to request.output rule (facts_of request.floor others)

-- a store file into which `files` were joined at `floor` is accepted, and stands for them at that floor, alone or among
-- other files
abbrev pub JoinedFileStands : Type 0
JoinedFileStands =
    (request : Invocation) (rule : RuleValue) (floor : ℕ) (told : Option ℕ) (files others : List (List ℕ))
    (joined : List ℕ) → IsStoreFile told joined (facts_of floor files) → (outcome joined ≡ Ok tt)
    × (answer_to request.output rule (facts_of request.floor (joined ∷ others))
    ≡ answer_to request.output rule (facts_of (max request.floor floor) (files ++ others)))

-- the files `front` and `back` are accepted, and give the same answer to `request` as `whole`, alone or among `others`
pub record StandFor (request : Invocation) (rule : RuleValue) (whole front back : List ℕ) (others : List (List ℕ)) :
    Type 0 where
  pub front_accepted : outcome front ≡ Ok tt
  pub back_accepted : outcome back ≡ Ok tt
  pub same : answer_to request.output rule (facts_of request.floor (whole ∷ others))
      ≡ answer_to request.output rule (facts_of request.floor (front ∷ back ∷ others))

-- if a report file is split between its records, the report files of the two parts are accepted, and stand for the
-- whole
abbrev pub SplitFileStands : Type 0
SplitFileStands =
    (request : Invocation) (rule : RuleValue) (whole front back : List ℕ) (first second : List (List ℕ))
    (others : List (List ℕ)) → IsReportFile whole (first ++ second) → front ≡ report_file first → back
    ≡ report_file second → StandFor request rule whole front back others

-- if a store file is split between its cells, the store files of the two parts, each with the floor of the whole, are
-- accepted, and stand for the whole
abbrev pub SplitStoreStands : Type 0
SplitStoreStands =
    (request : Invocation) (rule : RuleValue) (told : Option ℕ) (whole front back : List ℕ) (facts : Facts)
    (first second : List (Key × Cell Value)) (others : List (List ℕ)) → IsStoreFile told whole facts
    → cells_of facts ≡ first ++ second → front ≡ cells_file told first → back ≡ cells_file told second
    → StandFor request rule whole front back others

-- the printed order is read back as the switches `named`. The order that grows as they are named is printed as the
-- same text and gives the same plans
pub record OrderStands (order : OrderValue) (asked again : RuleAsked) (facts : Facts) : Type 0 where
  pub named : List ℕ
  pub is_read : roots_of (answer_to (Order asked) (spread_in order) facts) ≡ Ok named
  pub same_order : answer_to (Order again) (spread_in (named_in order named)) facts
      ≡ answer_to (Order asked) (spread_in order) facts
  pub same_plan : (lmc : ℕ) → answer_to (Plan lmc again) (spread_in (named_in order named)) facts
      ≡ answer_to (Plan lmc asked) (spread_in order) facts

-- if the facts are in range and no usable switch has the GUID 0, which no text names, each printed order stands
-- (`OrderStands`)
abbrev pub PrintedOrdersStand : Type 0
PrintedOrdersStand = (order : OrderValue) (asked again : RuleAsked) (facts : Facts) → AreInRange facts
    → ¬ (Contains (switches (cells_of facts)) 0) → OrderStands order asked again facts
