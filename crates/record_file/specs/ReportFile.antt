-- Files of reports, and what such a file is read as.
use Rattle.std.specs.Prelude.{◌≡◌, ℕ, ◌+◌, ◌<◌, ◌^◌, List, ◌++◌, IsOk, length}
use Rattle.std.specs.List.{AllByRecursion, concat}
use Rattle.record_file.specs.declared.format.Format.TheVariants.{Reports}
use Rattle.record_file.specs.Head.{head_bytes}
use Rattle.record_file.specs.ReportRecord.{report_judged}

-- `r` has 272 bytes, and spells a report without a fault
abbrev pub IsGoodReport : List ℕ → Type 0
IsGoodReport r = (length r ≡ 272) × IsOk (report_judged r)

-- the file of reports with the records `rs`
abbrev pub report_file : List (List ℕ) → List ℕ
report_file rs = head_bytes Reports ++ concat rs

-- `bytes` are the file of the good reports `rs`, and are fewer than 2^40 bytes
pub record IsReportFile (bytes : List ℕ) (rs : List (List ℕ)) : Type 0 where
  pub whole : bytes ≡ report_file rs
  pub each : AllByRecursion IsGoodReport rs
  pub short : length bytes < 2 ^ 40
