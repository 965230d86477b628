-- Laws of store files: what is accepted, and that facts are read back.
use Rattle.std.specs.Prelude.{◌≡◌, ◌↔◌, ℕ, ◌<◌, ◌^◌, true, nat_eq, List, Option, Some, Ok, length}
use Rattle.std.specs.List.{starts_with}
use Rattle.byte_io.specs.Source.{SourceState}
use Rattle.fact_join.specs.declared.cell.Cell.{Cell}
use Rattle.reply_facts.specs.declared.key.Key.{Key}
use Rattle.reply_facts.specs.declared.value.Value.{Value}
use Rattle.reply_facts.specs.Sighting.{IsSighting}
use Rattle.fact_store.specs.View.{Facts, cells_of, no_facts, AreInRange}
use Rattle.record_file.specs.declared.format.Format.TheVariants.{Cells}
use Rattle.record_file.specs.Absorbs.{Absorbs}
use Rattle.record_file.specs.CellRecord.{cell_of, record_bytes}
use Rattle.record_file.specs.Head.{IsFormat, floor_of, floored_magic, format_in}
use Rattle.record_file.specs.Reading.{facts_in, kept, outcome}
use Rattle.record_file.specs.StoreFile.{cells_file}

-- `bytes` spell `e` exactly when `e` is a sighting and `bytes` are the record of `e`
abbrev pub RecordsAreSpellings : Type 0
RecordsAreSpellings =
    (bytes : List ℕ) (e : Key × Cell Value) → (cell_of bytes ≡ Some e) ↔ (IsSighting e × (bytes ≡ record_bytes e))

-- `bytes` are the store file of `facts` in range, and are fewer than 2^40 bytes. `head_floor` is the floor of `facts`;
-- it may be None instead if this floor is 1
pub record IsStoreFile (head_floor : Option ℕ) (bytes : List ℕ) (facts : Facts) : Type 0 where
  pub whole : bytes ≡ cells_file head_floor (cells_of facts)
  pub sound : IsFormat (Cells head_floor)
  pub floor : facts.floor ≡ floor_of (Cells head_floor)
  pub in_range : AreInRange facts
  pub short : length bytes < 2 ^ 40

-- bytes have the head of a store file and are accepted exactly when they are the store file of some set of facts
-- (`IsStoreFile`)
abbrev pub StoreFilesAreAccepted : Type 0
StoreFilesAreAccepted =
    (head_floor : Option ℕ) (bytes : List ℕ) → ((format_in bytes ≡ Ok (Cells head_floor)) × (outcome bytes ≡ Ok tt))
    ↔ ((facts : Facts) × IsStoreFile head_floor bytes facts)

-- `bytes` are accepted, reading `bytes` keeps the cells of `facts`, and `bytes` contain these facts
pub record IsReadBack (bytes : List ℕ) (facts : Facts) : Type 0 where
  pub accepted : outcome bytes ≡ Ok tt
  pub cells : kept bytes ≡ cells_of facts
  pub says : facts_in bytes ≡ facts

-- reading the store file of any set of facts gives this set
abbrev pub FactsAreReadBack : Type 0
FactsAreReadBack = (head_floor : Option ℕ) (bytes : List ℕ) (facts : Facts) → IsStoreFile head_floor bytes facts
    → IsReadBack bytes facts

-- `bytes` are accepted and have a floor in their head
pub record IsFlooredFile (bytes : List ℕ) : Type 0 where
  pub accepted : outcome bytes ≡ Ok tt
  pub begins : starts_with nat_eq bytes floored_magic ≡ true

-- if two accepted files have floors in their heads and contain equal sets of facts, the files are equal
abbrev pub FactsHaveOneSpelling : Type 0
FactsHaveOneSpelling = (bytes others : List ℕ) → IsFlooredFile bytes → IsFlooredFile others → facts_in bytes
    ≡ facts_in others → bytes ≡ others

-- if a source with the bytes of a store file is absorbed into an empty store with `Ok`, the store then has the facts of
-- that file. The bytes that the source has left must be known
abbrev pub AbsorbingReadsBack : {S : Type 0} → (S → SourceState) → Type 0
AbsorbingReadsBack {S} state =
    (source source' : S) (head_floor : Option ℕ) (bytes rest : List ℕ) (facts new : Facts)
    → (state source).left ≡ Some bytes → (state source').left ≡ Some rest
    → IsStoreFile head_floor bytes facts → Absorbs state (Ok tt) source source' no_facts new → new ≡ facts
