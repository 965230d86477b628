-- What a piece does step by step: a part of what is awaited, the whole of it, and from its front to its end.
use Rattle.std.proofs.Common.{◌≡◌, inl, inr, ℕ, ◌+◌, ◌-◌, ◌<◌, ◌≤◌, ◌^◌, ◌==◌, cond, true, List, [], ◌∷◌, ◌++◌, Option, None, Some}
use Rattle.std.proofs.Common.{Result, Ok, Err, IfOk, length, take, drop, refl, sym, ap, ◌∙◌, subst, arith, append_assoc, append-nil, length-append, length-drop, take-append-drop}
use Rattle.std.specs.List.{concat}
use Rattle.std.proofs.lemmas.List.{length-take-le, take_all, take_rest}
use Rattle.std.proofs.lemmas.Bool.Decides.{nat_tests}
use Rattle.fact_store.specs.View.{Facts, view, view_at}
use Rattle.fact_store.specs.Merge.{merge}
use Rattle.reply_facts.specs.declared.key.Key.{Key}
use Rattle.fact_store.proofs.Views.{raised_is_merge}
use Rattle.record_file.specs.declared.awaited.Awaited.{Awaited}
use Rattle.record_file.specs.declared.awaited.Awaited.TheVariants as awaited
use Rattle.record_file.specs.declared.file_fault.FileFault.{FileFault}
use Rattle.record_file.specs.declared.file_fault.FileFault.TheVariants.{Magic, Truncated, TooLong, BadFloor}
use Rattle.record_file.specs.declared.format.Format.{Format}
use Rattle.record_file.specs.declared.format.Format.TheVariants.{Cells}
use Rattle.record_file.specs.Absorbs.{AbsorbsJudged}
use Rattle.record_file.specs.Feeding.{AddsSightings, Awaits, IsBehindRecords, StopsWith, TakesAwaited, TakesPiece, TakesSome, TakesTo, WantsMemory}
use Rattle.record_file.specs.Feeding.{awaited_size, behind_header, behind_magic, floor_behind, offset_of, raised_to, staying}
use Rattle.record_file.specs.Head.{IsFormat, floor_told, floored, floored_magic, format_in, head_bytes}
use Rattle.record_file.specs.Reading.{Judgement, fault_or, first_fault, floor_in, judged, kept, key_in, last_key, outcome}
use Rattle.record_file.specs.Reading.{record_size, sightings_by, sightings_then}
use Rattle.record_file.proofs.Beginnings.{floor-fault, floor-known, floor-some}
use Rattle.record_file.proofs.Beginnings.{kept-fault, outcome-fault}
use Rattle.record_file.proofs.Formats.{judged-bad}
use Rattle.record_file.proofs.Heads.{Begins, begins, floor-none, head-behind, head-cut, head-early, head-short, header_is, length-head}
use Rattle.record_file.proofs.Heads as head
use Rattle.record_file.proofs.Records.{AreRecords-more, Sightings, bytes-more, bytes_of, file, file-record}
use Rattle.record_file.proofs.Records.{first_fault-good, good-more, good_records, kept-bad, kept-part, last_key-more, length-file, length-more}
use Rattle.record_file.proofs.Records.{outcome-bad, size-positive, sightings_by-good}
use Rattle.record_file.proofs.Stores.{merge-nothing}
use Rattle.record_file.proofs.Pieces.{floor-same, floor-short, format-behind, kept-behind, kept-short, length-awaits, length-behind, so_far-late, so_far-other}
use Rattle.record_file.proofs.Pieces.{staying-bad, stops-more, takes-then}

nothing-told : (fed q : List ℕ) (s : Facts) → kept (fed ++ q) ≡ kept fed → floor_in (fed ++ q) ≡ floor_in fed → AddsSightings fed q s s
nothing-told fed q s h same = record {
  sightings = [];
  more = h ∙ sym (append-nil (kept fed));
  held = sym (ap (λ n. merge s (view_at n [])) (floor-same fed q same) ∙ merge-nothing s);
}

-- nothing was taken yet
pub takes-none : (w : Awaited) (part fed : List ℕ) (s : Facts) → Awaits w part fed → TakesTo fed [] (Ok w) part s s
takes-none w part fed s h =
    let P : List ℕ → Type 0 = Awaits w part in
    (subst P (sym (append-nil fed)) h, nothing-told fed [] s (ap kept (append-nil fed)) (ap floor_in (append-nil fed)))

-- bytes with a fault in their head tell nothing
nothing-in_head : (fed q : List ℕ) (s : Facts) (f g : FileFault) → format_in fed ≡ Err f → format_in (fed ++ q) ≡ Err g → AddsSightings fed q s s
nothing-in_head fed q s f g before after =
    nothing-told fed q s (kept-fault (fed ++ q) g after ∙ sym (kept-fault fed f before)) (floor-fault (fed ++ q) g after ∙ sym (floor-fault fed f before))

-- a part of what is awaited
pub takes-part : (w : Awaited) (part q fed : List ℕ) (s : Facts) → Awaits w part fed → length (part ++ q) < awaited_size w → length (fed ++ q) ≤ 2 ^ 40
    → TakesTo fed q (Ok w) (part ++ q) s s
takes-part awaited.Magic part q fed s h short fits =
    let whole : fed ++ q ≡ part ++ q = ap (λ l. l ++ q) h.0 in (
      (whole, short),
      nothing-in_head fed q s Magic Magic (head-early fed (omega (arith, ap length h.0, h.1))) (head-early (fed ++ q) (omega (arith, ap length whole, short))),
    )
takes-part awaited.Header part q fed s h short fits =
    let whole : fed ++ q ≡ floored_magic ++ (part ++ q) = ap (λ l. l ++ q) h.0 ∙ append_assoc floored_magic part q in
    ((whole, short), nothing-in_head fed q s (Truncated 8) (Truncated 8) (head-cut fed part h.0 h.1) (head-cut (fed ++ q) (part ++ q) whole short))
takes-part (awaited.Record format index last) part q fed s b short fits =
    let whole : fed ++ q ≡ file format b.records (part ++ q) =
    ap (λ l. l ++ q) b.whole ∙ append_assoc (head_bytes format) (concat b.records ++ part) q
    ∙ ap (λ l. head_bytes format ++ l) (append_assoc (concat b.records) part q) in
    let next : IsBehindRecords format index last (part ++ q) (fed ++ q) =
    record { records = b.records; sound = b.sound; whole = whole; good = b.good; count = b.count; key = b.key; short = short } in (
      next,
      nothing-told fed q s
          (kept-behind format index last (part ++ q) (fed ++ q) next fits
          ∙ sym (kept-behind format index last part fed b (omega (arith, length-append fed q))))
          (floor-known format fed q (format-behind format index last part fed b)),
    )

-- behind a head come the records
behind_head : (format : Format) (bytes : List ℕ) → IsFormat format → bytes ≡ head_bytes format → IsBehindRecords format 0 None [] bytes
behind_head format bytes sound is =
    record { records = []; sound = sound; whole = is ∙ sym (append-nil (head_bytes format)); good = tt; count = refl; key = refl; short = size-positive format }

kept-head : (format : Format) (bytes : List ℕ) → IsFormat format → bytes ≡ head_bytes format → kept bytes ≡ []
unfolding behind_head
kept-head format bytes sound is =
    kept-behind format 0 None [] bytes (behind_head format bytes sound is) (let small = head-short format in
    omega (arith, ap length is, length-head format, small.1))

no_items : (items : List ℕ) → length items ≡ 0 → items ≡ []
no_items [] h = refl
no_items (x ∷ xs) h = absurd (omega arith)

-- the whole magic
takes-magic : (part q fed : List ℕ) (s : Facts) → fed ≡ part → length part < 8 → length (part ++ q) ≡ 8
    → (o : Result Format FileFault) → format_in (part ++ q) ≡ o → Begins (part ++ q) o → TakesTo fed q (behind_magic o) [] s s
takes-magic part q fed s same short long _ h (head.other more) =
    let joined : fed ++ q ≡ part ++ q = ap (λ l. l ++ q) same in
    let magic = ap format_in joined ∙ h in
    inr (
      so_far-other (fed ++ q) (omega (arith, ap length joined)) magic,
      nothing-in_head fed q s Magic Magic (head-early fed (omega (arith, ap length same))) magic,
    )
takes-magic part q fed s same short long _ h (head.cut tail is few) =
    let joined : fed ++ q ≡ part ++ q = ap (λ l. l ++ q) same in
    let none = no_items tail (omega (arith, ap length is, length-append floored_magic tail)) in (
      (joined ∙ is ∙ ap (λ l. floored_magic ++ l) none, omega arith),
      nothing-in_head fed q s Magic (Truncated 8) (head-early fed (omega (arith, ap length same))) (ap format_in joined ∙ h),
    )
takes-magic part q fed s same short long _ h (head.unfloored far) = absurd (omega arith)
takes-magic part q fed s same short long _ h (head.whole format sound rest is) =
    let joined : fed ++ q ≡ part ++ q = ap (λ l. l ++ q) same in
    let sized = length-append (head_bytes format) rest in
    let small = head-short format in
    let head_sized = length-head format in
    let none = no_items rest (omega (arith, ap length is)) in
    let whole : fed ++ q ≡ head_bytes format = joined ∙ is ∙ ap (λ l. head_bytes format ++ l) none ∙ append-nil (head_bytes format) in
    let few : length fed < 8 = omega (arith, ap length same) in (
      behind_head format (fed ++ q) sound whole,
      nothing-told fed q s (kept-head format (fed ++ q) sound whole ∙ sym (kept-short fed few))
          (floor-some format (fed ++ q) (ap format_in joined ∙ h) ∙ floor-none format (omega (arith, ap length is)) ∙ sym (floor-short fed few)),
    )

-- the whole header
takes-header : (part q fed : List ℕ) (s : Facts) → fed ≡ floored_magic ++ part → length part < 8 → length (part ++ q) ≡ 8
    → (o : Option ℕ) → floor_told (part ++ q) ≡ o → TakesTo fed q (behind_header o) [] s (raised_to o s)
takes-header part q fed s same short long None h =
    let joined : fed ++ q ≡ floored_magic ++ (part ++ q) = ap (λ l. l ++ q) same ∙ append_assoc floored_magic part q in
    let bad : format_in (fed ++ q) ≡ Err BadFloor = head-behind (fed ++ q) (part ++ q) joined long ∙ ap floored h in
    inr (
      ap (staying (length (fed ++ q))) (outcome-fault (fed ++ q) BadFloor bad),
      nothing-in_head fed q s (Truncated 8) BadFloor (head-cut fed part same short) bad,
    )
takes-header part q fed s same short long (Some floor) h =
    let joined : fed ++ q ≡ floored_magic ++ (part ++ q) = ap (λ l. l ++ q) same ∙ append_assoc floored_magic part q in
    let format : Format = Cells (Some floor) in
    let is = header_is (part ++ q) floor h in
    let known : format_in (fed ++ q) ≡ Ok format = head-behind (fed ++ q) (part ++ q) joined long ∙ ap floored h in
    let whole : fed ++ q ≡ head_bytes format = joined ∙ ap (λ l. floored_magic ++ l) is.1 in
    let cut = head-cut fed part same short in
    let before : floor_in fed ≡ 1 = floor-fault fed (Truncated 8) cut in
    let risen : floor_behind fed q ≡ floor = ap (λ n. cond (n == 1) (floor_in (fed ++ q)) 1) before ∙ floor-some format (fed ++ q) known in (
      behind_head format (fed ++ q) is.0 whole,
      record {
        sightings = [];
        more = kept-head format (fed ++ q) is.0 whole ∙ sym (append-nil (kept fed) ∙ kept-fault fed (Truncated 8) cut);
        held = raised_is_merge s floor ∙ ap (λ n. merge s (view_at n [])) (sym risen);
      },
    )

-- a whole record
module _ (format : Format) (index : ℕ) (last : Option Key) (part q fed : List ℕ) (s : Facts) (b : IsBehindRecords format index last part fed)
    (long : length (part ++ q) ≡ record_size format) (fits : length (fed ++ q) ≤ 2 ^ 40) where
  whole-record : fed ++ q ≡ file format b.records (part ++ q)
  whole-record =
      ap (λ l. l ++ q) b.whole ∙ append_assoc (head_bytes format) (concat b.records ++ part) q
      ∙ ap (λ l. head_bytes format ++ l) (append_assoc (concat b.records) part q)

  floor-before : floor_in (fed ++ q) ≡ floor_in fed
  floor-before = floor-known format fed q (format-behind format index last part fed b)

  last-record : judged format (last_key format None b.records) (part ++ q) ≡ judged format last (part ++ q)
  last-record = ap (λ k. judged format k (part ++ q)) (sym b.key)

  within-reach : bytes_of format (length (b.records ++ (part ++ q) ∷ [])) ≤ 2 ^ 40
  within-reach =
      let size = ap length whole-record in
      omega (arith, bytes-more format b.records (part ++ q), length-file format b.records (part ++ q) (good_records format None 0 b.records b.good).0)

  kept-before : kept fed ≡ sightings_by format None b.records
  kept-before = kept-behind format index last part fed b (omega (arith, length-append fed q))

  takes-good : (sightings : Sightings) → judged format last (part ++ q) ≡ Ok sightings
      → (next : Awaited) → next ≡ awaited.Record format (index + 1) (key_in format (part ++ q))
      → (t : Facts) → t ≡ merge s (view sightings) → TakesTo fed q (Ok next) [] s t
  takes-good sightings good next is t merged =
      let rs = b.records in
      let r = part ++ q in
      let known = good_records format None 0 rs b.good in
      let behind : IsBehindRecords format (index + 1) (key_in format r) [] (fed ++ q) = record {
        records = rs ++ r ∷ [];
        sound = b.sound;
        whole = whole-record ∙ sym (file-record format rs r);
        good = good-more format None rs r sightings b.good long (last-record ∙ good);
        count = let count = b.count in omega (arith, length-more rs r);
        key = sym (last_key-more format None rs r);
        short = size-positive format;
      } in
      let one : sightings_by format (last_key format None rs) (r ∷ []) ≡ sightings =
      ap (λ v. sightings_then v []) (last-record ∙ good) ∙ append-nil sightings in
      let more : kept (fed ++ q) ≡ kept fed ++ sightings =
      kept-behind format (index + 1) (key_in format r) [] (fed ++ q) behind fits ∙ sightings_by-good format None 0 rs (r ∷ []) known.1
      ∙ ap (λ l. sightings_by format None rs ++ l) one ∙ ap (λ l. l ++ sightings) (sym kept-before) in
      let P : Awaited → Type 0 = λ w. Awaits w [] (fed ++ q) in (
        subst P (sym is) behind,
        record { sightings = sightings; more = more; held = merged ∙ ap (λ n. merge s (view_at n sightings)) (sym (floor-same fed q floor-before)) },
      )

  takes-memory : (sightings : Sightings) → judged format last (part ++ q) ≡ Ok sightings → WantsMemory fed q s s
  takes-memory sightings good =
      let rs = b.records in
      let r = part ++ q in
      let known = good_records format None 0 rs b.good in
      let size = length-behind format index last part fed b in
      let in_reach = within-reach in
      let same : length (head_bytes format ++ (concat rs ++ r)) ≡ bytes_of format (length rs) + length r = length-file format rs r known.0 in
      let more = bytes-more format rs r in
      let part_short = b.short in record {
        format = format;
        records = rs;
        r = r;
        behind = [];
        sound = b.sound;
        whole = whole-record ∙ ap (λ l. head_bytes format ++ (concat rs ++ l)) (sym (append-nil r));
        good = good-more format None rs r sightings b.good long (last-record ∙ good);
        completed = omega arith;
        in_reach = omega arith;
        sightings = [];
        more = ap (λ l. kept (head_bytes format ++ l)) (sym (append-nil (concat rs)))
            ∙ kept-part format b.sound rs [] [] known.0 (omega arith) (take_all (2 ^ 40 - bytes_of format (length rs)) [] (omega arith)) (size-positive format)
            ∙ sym kept-before ∙ sym (append-nil (kept fed));
        held = sym (ap (λ n. merge s (view_at n [])) (floor-same fed q floor-before) ∙ merge-nothing s);
      }

  takes-bad : (f : ℕ → FileFault) → judged format last (part ++ q) ≡ Err f → StopsWith (f index) fed q s s
  takes-bad f bad =
      let rs = b.records in
      let r = part ++ q in
      let known = good_records format None 0 rs b.good in
      let all = AreRecords-more (record_size format) rs r known.0 long in
      let at : 0 + length rs ≡ index = let count = b.count in omega arith in
      let found_ : first_fault format None 0 (rs ++ r ∷ []) ≡ Some (f index) =
      first_fault-good format None 0 rs (r ∷ []) known.1 ∙ ap (λ v. fault_or (0 + length rs) v None) (last-record ∙ bad)
      ∙ ap (λ n. Some (f n)) at in
      let is : fed ++ q ≡ file format (rs ++ r ∷ []) [] = whole-record ∙ sym (file-record format rs r) in
      let one : sightings_by format (last_key format None rs) (r ∷ []) ≡ [] = ap (λ v. sightings_then v []) (last-record ∙ bad) in
      inr (
        ap (staying (length (fed ++ q))) (ap outcome is ∙ outcome-bad format b.sound (rs ++ r ∷ []) [] (f index) all within-reach found_)
            ∙ staying-bad (length (fed ++ q)) (f index) (judged-bad format last r f index bad),
        nothing-told fed q s
            (ap kept is ∙ kept-bad format b.sound (rs ++ r ∷ []) [] (f index) all within-reach found_ ∙ sightings_by-good format None 0 rs (r ∷ []) known.1
            ∙ ap (λ l. sightings_by format None rs ++ l) one ∙ append-nil (sightings_by format None rs) ∙ sym kept-before)
            floor-before,
      )

  takes-judged : (r : Result Awaited FileFault) (t : Facts) (v : Judgement) → judged format last (part ++ q) ≡ v → AbsorbsJudged v index r s t
      → IfOk r (λ next. next ≡ awaited.Record format (index + 1) (key_in format (part ++ q))) → TakesTo fed q r [] s t
  takes-judged (Ok next) t (Ok sightings) is h key = takes-good sightings is next key t h
  takes-judged (Err f) t (Ok sightings) is h key =
      let P : Facts → Type 0 = StopsWith f fed q s in subst P (sym h.1) (inl (h.0, takes-memory sightings is))
  takes-judged (Ok next) t (Err fault) is h key = let e : ◌≡◌ {A = Result Awaited FileFault} (Ok next) (Err (fault index)) = h.0 in absurd (cc)
  takes-judged (Err f) t (Err fault) is h key =
      let same : f ≡ fault index = let e : ◌≡◌ {A = Result Awaited FileFault} (Err f) (Err (fault index)) = h.0 in cc in
      let P : FileFault → Facts → Type 0 = λ g x. StopsWith g fed q s x in
      subst (λ (x : Facts). P f x) (sym h.1) (subst (λ (g : FileFault). P g s) (sym same) (takes-bad fault is))

-- all of what is awaited
pub takes-whole : (w : Awaited) (part q fed : List ℕ) (r : Result Awaited FileFault) (s t : Facts) → Awaits w part fed
    → length (part ++ q) ≡ awaited_size w → length (fed ++ q) ≤ 2 ^ 40 → TakesAwaited w (part ++ q) r s t → TakesTo fed q r [] s t
takes-whole awaited.Magic part q fed r s t h long fits takes =
    let P : Result Awaited FileFault → Facts → Type 0 = λ o x. TakesTo fed q o [] s x in
    subst (λ (x : Facts). P r x) (sym takes.1)
    (subst (λ (o : Result Awaited FileFault). P o s) (sym takes.0) (takes-magic part q fed s h.0 h.1 long (format_in (part ++ q)) refl (begins (part ++ q))))
takes-whole awaited.Header part q fed r s t h long fits takes =
    let P : Result Awaited FileFault → Facts → Type 0 = λ o x. TakesTo fed q o [] s x in
    subst (λ (x : Facts). P r x) (sym takes.1)
    (subst (λ (o : Result Awaited FileFault). P o (raised_to (floor_told (part ++ q)) s)) (sym takes.0)
    (takes-header part q fed s h.0 h.1 long (floor_told (part ++ q)) refl))
takes-whole (awaited.Record format index last) part q fed r s t b long fits takes =
    takes-judged format index last part q fed s b long fits r t (judged format last (part ++ q)) refl takes.0 takes.1

-- the front of bytes --------------------------------------------------------------------------

pub empty_items : (items : List ℕ) → true ≡ (length items == 0) → items ≡ []
empty_items [] h = refl
empty_items (x ∷ xs) h = absurd (grind (arith, nat_tests))

size-some : (w : Awaited) → 0 < awaited_size w
size-some awaited.Magic = omega arith
size-some awaited.Header = omega arith
size-some (awaited.Record format index last) = size-positive format

next_is : (next w : Awaited) → ◌≡◌ {A = Result Awaited FileFault} (Ok next) (Ok w) → next ≡ w
next_is next w e = cc

offset-magic : (bytes : List ℕ) (o : Result Format FileFault) (next : Awaited) → length bytes ≡ 8 → Begins bytes o → Ok next ≡ behind_magic o → offset_of next
    ≡ 8
offset-magic bytes _ next eight (head.whole format sound rest is) h =
    let small = head-short format in
    ap offset_of (next_is next (awaited.Record format 0 None) h)
    ∙ omega (arith, small.0, ap length is, length-append (head_bytes format) rest, length-head format)
offset-magic bytes _ next eight (head.other more) h = let e : ◌≡◌ {A = Result Awaited FileFault} (Ok next) (Err Magic) = h in absurd (cc)
offset-magic bytes _ next eight (head.cut part is short) h = ap offset_of (next_is next awaited.Header h)
offset-magic bytes _ next eight (head.unfloored long) h = absurd (omega arith)

offset-header : (o : Option ℕ) (next : Awaited) → Ok next ≡ behind_header o → offset_of next ≡ 16
offset-header None next h = let e : ◌≡◌ {A = Result Awaited FileFault} (Ok next) (Err BadFloor) = h in absurd (cc)
offset-header (Some floor) next h = ap offset_of (next_is next (awaited.Record (Cells (Some floor)) 0 None) h) ∙ omega arith

-- what comes behind the awaited begins at its end
offset-next : (w : Awaited) (bytes : List ℕ) (next : Awaited) (s t : Facts) → length bytes ≡ awaited_size w → TakesAwaited w bytes (Ok next) s t
    → offset_of next ≡ offset_of w + awaited_size w
offset-next awaited.Magic bytes next s t long h = offset-magic bytes (format_in bytes) next long (begins bytes) h.0 ∙ omega arith
offset-next awaited.Header bytes next s t long h = offset-header (floor_told bytes) next h.0 ∙ omega arith
offset-next (awaited.Record format index last) bytes next s t long h = ap offset_of h.1 ∙ omega arith

-- all of what is awaited stands in the front
pub front-whole : (w : Awaited) (part bytes : List ℕ) (n : ℕ) (next : Awaited) (part' : List ℕ) (s t : Facts) → length part + n ≡ awaited_size w
    → 0 < n → n ≤ length bytes → (offset_of w + length part) + length bytes ≤ 2 ^ 40 → part' ≡ []
    → TakesAwaited w (part ++ take n bytes) (Ok next) s t → TakesSome w part bytes next n part' s t
front-whole w part bytes n next part' s t whole some inside fits empty takes =
    let long = length-take-le n bytes inside in
    let none = ap length empty in record {
      some = some;
      within = inside;
      short = omega (arith, none, size-some next);
      offset = omega (arith, offset-next w (part ++ take n bytes) next s t (omega (arith, length-append part (take n bytes), long)) takes, none);
      takes = λ fed h.
          let P : List ℕ → Type 0 = λ l. TakesTo fed (take n bytes) (Ok next) l s t in
          subst P (sym empty)
          (takes-whole w part (take n bytes) fed (Ok next) s t h (omega (arith, length-append part (take n bytes), long))
          (omega (arith, length-append fed (take n bytes), length-awaits w part fed h, long)) takes);
    }

-- and stops there
pub front-stops : (w : Awaited) (part bytes : List ℕ) (n : ℕ) (f : FileFault) (part' : List ℕ) (s t : Facts) → length part + n ≡ awaited_size w
    → n ≤ length bytes → (offset_of w + length part) + length bytes ≤ 2 ^ 40
    → TakesAwaited w (part ++ take n bytes) (Err f) s t → TakesPiece w part bytes (Err f) part' s t
front-stops w part bytes n f part' s t whole inside fits takes fed h =
    let long = length-take-le n bytes inside in
    let P : List ℕ → Type 0 = λ l. StopsWith f fed l s t in
    subst P (take-append-drop n bytes)
    (stops-more f fed (take n bytes) (drop n bytes) s t
    (takes-whole w part (take n bytes) fed (Err f) s t h (omega (arith, length-append part (take n bytes), long))
    (omega (arith, length-append fed (take n bytes), length-awaits w part fed h, long)) takes))

-- only a part of what is awaited stands there
pub front-part : (w : Awaited) (part bytes : List ℕ) (n : ℕ) (part' : List ℕ) (s : Facts) → 0 < n → n ≤ length bytes
    → (offset_of w + length part) + length bytes ≤ 2 ^ 40 → part' ≡ part ++ take n bytes → length part' < awaited_size w → TakesSome w part bytes w n part' s s
front-part w part bytes n part' s some inside fits joined short =
    let long = length-take-le n bytes inside in
    let size = ap length joined in record {
      some = some;
      within = inside;
      short = short;
      offset = omega (arith, length-append part (take n bytes));
      takes = λ fed h.
          let P : List ℕ → Type 0 = λ l. TakesTo fed (take n bytes) (Ok w) l s s in
          subst P (sym joined)
          (takes-part w part (take n bytes) fed s h (omega arith) (omega (arith, length-append fed (take n bytes), length-awaits w part fed h, long)));
    }

-- a piece from its front to its end -----------------------------------------------------------

pub piece-step : (w : Awaited) (part front : List ℕ) (mid : Awaited) (part' bytes : List ℕ) (r : Result Awaited FileFault) (last : List ℕ) (s m t : Facts)
    → TakesPiece w part front (Ok mid) part' s m → TakesPiece mid part' bytes r last m t → TakesPiece w part (front ++ bytes) r last s t
piece-step w part front mid part' bytes r last s m t a b fed h =
    let first = a fed h in takes-then fed front bytes mid r part' last s m t first (b (fed ++ front) first.0)

-- the bytes up to this one are refused, and so is the piece
pub piece-stops : (w : Awaited) (part piece : List ℕ) (k : ℕ) (front rest : List ℕ) (mid : Awaited) (part' : List ℕ) (f : FileFault) (last : List ℕ)
    (s m t : Facts) → TakesPiece w part front (Ok mid) part' s m → TakesPiece mid part' rest (Err f) last m t → take k piece ≡ front ++ rest
    → TakesPiece w part piece (Err f) last s t
piece-stops w part piece k front rest mid part' f last s m t a b split fed h =
    let P : List ℕ → Type 0 = λ l. StopsWith f fed l s t in
    subst P (ap (λ l. l ++ drop k piece) (sym split) ∙ take-append-drop k piece)
    (stops-more f fed (front ++ rest) (drop k piece) s t (piece-step w part front mid part' rest (Err f) last s m t a b fed h))

-- the 2^40th byte is there
pub piece-late : (w : Awaited) (part piece : List ℕ) (k : ℕ) (front rest : List ℕ) (next : Awaited) (part' last : List ℕ) (s t : Facts)
    → TakesPiece w part front (Ok next) part' s t → take k piece ≡ front ++ rest → length rest ≡ 0 → k ≤ length piece
    → (offset_of w + length part) + k ≡ 2 ^ 40 → TakesPiece w part piece (Err TooLong) last s t
piece-late w part piece k front rest next part' last s t a split none inside full fed h =
    let P : List ℕ → Type 0 = λ l. StopsWith TooLong fed l s t in
    let is : front ≡ take k piece = sym (append-nil front) ∙ ap (λ l. front ++ l) (sym (no_items rest none)) ∙ sym split in
    let size = ap length is in
    let cut = length-take-le k piece inside in
    let here = a fed h in
    subst P (ap (λ l. l ++ drop k piece) is ∙ take-append-drop k piece)
    (stops-more TooLong fed front (drop k piece) s t
    (inr (so_far-late next part' (fed ++ front) here.0 (omega (arith, length-append fed front, length-awaits w part fed h)), here.1)))

-- some more of its bytes were taken
pub piece-next : (w : Awaited) (part piece : List ℕ) (k : ℕ) (rest : List ℕ) (mid : Awaited) (part' : List ℕ) (next : Awaited) (n : ℕ) (part'' : List ℕ)
    (s m t : Facts) → ((front : List ℕ) × (take k piece ≡ front ++ rest) × TakesPiece w part front (Ok mid) part' s m)
    → TakesSome mid part' rest next n part'' m t
    → (front : List ℕ) × (take k piece ≡ front ++ take (length rest - n) (drop n rest)) × TakesPiece w part front (Ok next) part'' s t
piece-next w part piece k rest mid part' next n part'' s m t (front, split, a) b =
    let P : List ℕ → Type 0 = λ l. TakesPiece w part l (Ok next) part'' s t in (
      front ++ take n rest,
      split ∙ ap (λ l. front ++ l) (sym (take-append-drop n rest)) ∙ sym (append_assoc front (take n rest) (drop n rest))
          ∙ ap (λ l. (front ++ take n rest) ++ l) (sym (take_rest rest n)),
      piece-step w part front mid part' (take n rest) (Ok next) part'' s m t a b.takes,
    )

pub piece-offset : (mid : Awaited) (part' rest : List ℕ) (next : Awaited) (n : ℕ) (part'' : List ℕ) (m t : Facts) (all : ℕ)
    → TakesSome mid part' rest next n part'' m t → (offset_of mid + length part') + length rest ≡ all
    → (offset_of next + length part'') + length (take (length rest - n) (drop n rest)) ≡ all
piece-offset mid part' rest next n part'' m t all b whole =
    let fits = b.within in let offset = b.offset in let behind = ap length (take_rest rest n) ∙ length-drop n rest in omega arith
