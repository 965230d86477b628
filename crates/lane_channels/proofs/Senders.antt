-- Senders, and whom they answer, one after the other.
use Rattle.std.proofs.Common.{◌≡◌, ◌<◌, ◌+◌, ℕ, zero, suc, Bool, true, false, List, [], ◌∷◌, get_or, map, refl, sym, ap, ◌∙◌, subst, arith, inl, inr, ◌⊎◌}
use Rattle.std.specs.Prelude.{Option, Some, length, option_map, slice_get}
use Rattle.std.proofs.lemmas.Bool.{cases_lt}
use Rattle.std.proofs.lemmas.Option.{same_Some}
use Rattle.fact_store.specs.View.{cells_of}
use Rattle.subnet_view.specs.Reading.{Cells}
use Rattle.subnet_view.specs.EndPort.{end_ports}
use Rattle.subnet_view.specs.declared.end_port.EndPort.{EndPort}
use Rattle.held_tables.specs.Switches.{sender_of}
use Rattle.held_tables.specs.Tables.{owners_of}
use Rattle.held_tables.specs.declared.senders.Sender.{Sender}
use Rattle.lanes_file.specs.Lanes.{LanesSaid, level_of}
use Rattle.lane_channels.specs.LaneNetwork.{SeenByLane}
use Rattle.lane_channels.specs.Levels.{HasLevel, lids_held}
use Rattle.lane_channels.specs.Senders.{AnswersOf, AnswersTo, SentFor, SentFrom}
use Rattle.lane_channels.specs.Stops.{Columns, first_stop}
use Rattle.lane_channels.specs.Walk.{AreFollowed, BeginsIf, Walked}
use Rattle.lane_channels.proofs.Walks.{followed_as, followed_then, none_followed}

-- an index in a list is below its length
pub below_length : {X : Type 0} (xs : List X) (i : ℕ) (x : X) → slice_get xs i ≡ Some x → i < length xs
below_length [] i x e = absurd (cc)
below_length (y ∷ xs) zero x e = omega arith
below_length (y ∷ xs) (suc i) x e = let less = below_length xs i x e in omega arith

-- the element at an index
pub item_there : {X : Type 0} (xs : List X) (i : ℕ) (x : X) → i < length xs → x ≡ get_or xs i x → slice_get xs i ≡ Some x
item_there {X = X} xs i x less e = there xs i less ∙ ap Some (sym e)
  where
    there : (ys : List X) (k : ℕ) → k < length ys → slice_get ys k ≡ Some (get_or ys k x)
    there [] k less = absurd (omega arith)
    there (y ∷ ys) zero less = refl
    there (y ∷ ys) (suc k) less = there ys k (omega arith)

-- the element of a list that is made from another
pub map_there : {X Y : Type 0} (f : X → Y) (xs : List X) (i : ℕ) (y : Y) → slice_get (map f xs) i ≡ Some y
    → (x : X) × (slice_get xs i ≡ Some x) × (y ≡ f x)
map_there f [] i y e = absurd (cc)
map_there f (x ∷ xs) zero y e = (x, refl, sym (same_Some (f x) y e))
map_there f (x ∷ xs) (suc i) y e = map_there f xs i y e

pub map_of_there : {X Y : Type 0} (f : X → Y) (xs : List X) (i : ℕ) (x : X) (y : Y) → slice_get xs i ≡ Some x → slice_get (map f xs) i ≡ Some y
    → y ≡ f x
map_of_there f [] i x y a b = absurd (cc)
map_of_there f (z ∷ xs) zero x y a b = sym (same_Some (f z) y b) ∙ ap f (same_Some z x a)
map_of_there f (z ∷ xs) (suc i) x y a b = map_of_there f xs i x y a b

-- the end port of a sender
pub port_there : (cells : Cells) (sources : List Sender) (i : ℕ) (e : EndPort) → sources ≡ map (sender_of cells) (end_ports cells)
    → option_map (λ (s : Sender). s.port) (slice_get sources i) ≡ Some e → slice_get (end_ports cells) i ≡ Some e
port_there cells sources i e are is =
    of (end_ports cells) i (ap (λ (xs : List Sender). option_map (λ (s : Sender). s.port) (slice_get xs i)) (sym are) ∙ is)
  where
    of : (es : List EndPort) (k : ℕ) → option_map (λ (s : Sender). s.port) (slice_get (map (sender_of cells) es) k) ≡ Some e → slice_get es k ≡ Some e
    of [] k q = absurd (cc)
    of (x ∷ es) zero q = q
    of (x ∷ es) (suc k) q = of es k q

-- the packets from `first` on that answer those which one of the first `count` of `owners` sends for one of `lids`
pub record AnswersToSome (said : LanesSaid) (owners : List EndPort) (lids : List ℕ) (count : ℕ) (first : Option ℕ) (level : ℕ)
    (begin : Option ℕ) : Type 0 where
  pub nth : ℕ
  pub below : nth < count
  pub asker : EndPort
  pub asker_is : slice_get owners nth ≡ Some asker
  pub answers : AnswersOf said asker lids (length lids) first level begin

-- the packets that one of the first `count` end ports sends for `lid`
pub record SentBySome (s : SeenByLane) (answers : Bool) (lid count level : ℕ) (begin : Option ℕ) : Type 0 where
  pub index : ℕ
  pub below : index < count
  pub sent : SentFrom s answers lid index level begin

module _ (said : LanesSaid) (cells : Cells) (columns : Columns) (lid : ℕ) (old : Walked) where
  -- none so far
  pub no_lids : (asker : EndPort) (lids : List ℕ) (first : Option ℕ) → AreFollowed said cells columns lid (AnswersOf said asker lids 0 first) old old
  no_lids asker lids first =
      none_followed said cells columns lid (AnswersOf said asker lids 0 first) old (λ l b a. (let below = a.below in
      omega arith))

  pub no_owners : (owners : List EndPort) (lids : List ℕ) (first : Option ℕ)
      → AreFollowed said cells columns lid (AnswersToSome said owners lids 0 first) old old
  no_owners owners lids first =
      none_followed said cells columns lid (AnswersToSome said owners lids 0 first) old (λ l b a. (let below = a.below in
      omega arith))

module _ (said : LanesSaid) (cells : Cells) (columns : Columns) (lid : ℕ) (old w new : Walked) where
  -- one LID more
  pub one_asked : (asker : EndPort) (lids : List ℕ) (index asked : ℕ) (level first : Option ℕ)
      → AreFollowed said cells columns lid (AnswersOf said asker lids index first) old w → slice_get lids index ≡ Some asked
      → level ≡ level_of said asker.node asker.port asked → AreFollowed said cells columns lid (BeginsIf level first) w new
      → AreFollowed said cells columns lid (AnswersOf said asker lids (index + 1) first) old new
  one_asked asker lids index asked level first h is level_is one =
      followed_then said cells columns lid (AnswersOf said asker lids index first) (BeginsIf level first) (AnswersOf said asker lids (index + 1) first) old w
      new
      h one either earlier this
    where
      either : (l : ℕ) (b : Option ℕ) → AnswersOf said asker lids (index + 1) first l b
          → AnswersOf said asker lids index first l b ⊎ BeginsIf level first l b
      either l b a =
          elim (cases_lt a.index index) [
            | inl less ↦ inl (record { begins = a.begins; asked = a.asked; index = a.index; below = less; asked_is = a.asked_is; level_is = a.level_is })
            | inr past ↦
                let below = a.below in
                let at : a.index ≡ index = omega arith in
                let same : a.asked ≡ asked = same_Some a.asked asked (sym a.asked_is ∙ ap (slice_get lids) at ∙ is) in
                inr (level_is ∙ ap (level_of said asker.node asker.port) (sym same) ∙ a.level_is, a.begins)
          ]

      earlier : (l : ℕ) (b : Option ℕ) → AnswersOf said asker lids index first l b → AnswersOf said asker lids (index + 1) first l b
      earlier l b a =
          let below = a.below in
          record { begins = a.begins; asked = a.asked; index = a.index; below = omega arith; asked_is = a.asked_is; level_is = a.level_is }

      this : (l : ℕ) (b : Option ℕ) → BeginsIf level first l b → AnswersOf said asker lids (index + 1) first l b
      this l b a = record {
        begins = a.1;
        asked = asked;
        index = index;
        below = omega arith;
        asked_is = is;
        level_is = sym level_is ∙ a.0;
      }

  -- one owner more
  pub one_owner : (owners : List EndPort) (lids : List ℕ) (nth : ℕ) (asker : EndPort) (first : Option ℕ)
      → AreFollowed said cells columns lid (AnswersToSome said owners lids nth first) old w → slice_get owners nth ≡ Some asker
      → AreFollowed said cells columns lid (AnswersOf said asker lids (length lids) first) w new
      → AreFollowed said cells columns lid (AnswersToSome said owners lids (nth + 1) first) old new
  one_owner owners lids nth asker first h is one =
      followed_then said cells columns lid (AnswersToSome said owners lids nth first) (AnswersOf said asker lids (length lids) first)
      (AnswersToSome said owners lids (nth + 1) first) old w new h one either earlier this
    where
      either : (l : ℕ) (b : Option ℕ) → AnswersToSome said owners lids (nth + 1) first l b
          → AnswersToSome said owners lids nth first l b ⊎ AnswersOf said asker lids (length lids) first l b
      either l b a =
          elim (cases_lt a.nth nth) [
            | inl less ↦ inl (record { nth = a.nth; below = less; asker = a.asker; asker_is = a.asker_is; answers = a.answers })
            | inr past ↦
                let below = a.below in
                let at : a.nth ≡ nth = omega arith in
                let same : a.asker ≡ asker = same_Some a.asker asker (sym a.asker_is ∙ ap (slice_get owners) at ∙ is) in
                inr (subst (λ (e : EndPort). AnswersOf said e lids (length lids) first l b) same a.answers)
          ]

      earlier : (l : ℕ) (b : Option ℕ) → AnswersToSome said owners lids nth first l b → AnswersToSome said owners lids (nth + 1) first l b
      earlier l b a =
          let below = a.below in record { nth = a.nth; below = omega arith; asker = a.asker; asker_is = a.asker_is; answers = a.answers }

      this : (l : ℕ) (b : Option ℕ) → AnswersOf said asker lids (length lids) first l b → AnswersToSome said owners lids (nth + 1) first l b
      this l b a = record { nth = nth; below = omega arith; asker = asker; asker_is = is; answers = a }

  -- all owners
  pub all_owners : (owners : List EndPort) (lids : List ℕ) (first : Option ℕ)
      → AreFollowed said cells columns lid (AnswersToSome said owners lids (length owners) first) old w
      → AreFollowed said cells columns lid (AnswersTo said owners lids first) old w
  all_owners owners lids first h =
      followed_as said cells columns lid (AnswersToSome said owners lids (length owners) first) (AnswersTo said owners lids first) old w h back to
    where
      back : (l : ℕ) (b : Option ℕ) → AnswersTo said owners lids first l b → AnswersToSome said owners lids (length owners) first l b
      back l b a =
          let k = a.1 in
          record {
            nth = k.nth;
            below = below_length owners k.nth k.asker k.asker_is;
            asker = k.asker;
            asker_is = k.asker_is;
            answers = record {
              begins = a.0;
              asked = k.asked;
              index = k.index;
              below = below_length lids k.index k.asked k.asked_is;
              asked_is = k.asked_is;
              level_is = k.level_is;
            };
          }

      to : (l : ℕ) (b : Option ℕ) → AnswersToSome said owners lids (length owners) first l b → AnswersTo said owners lids first l b
      to l b a =
          let k = a.answers in (
            k.begins,
            record {
              asker = a.asker;
              nth = a.nth;
              asker_is = a.asker_is;
              asked = k.asked;
              index = k.index;
              asked_is = k.asked_is;
              level_is = k.level_is;
            },
          )

pub no_senders : (s : SeenByLane) (answers : Bool) (columns : Columns) (lid : ℕ) (w : Walked)
    → AreFollowed s.said (cells_of s.seen.facts) columns lid (SentBySome s answers lid 0) w w
no_senders s answers columns lid w =
    none_followed s.said (cells_of s.seen.facts) columns lid (SentBySome s answers lid 0) w (λ l b a. (let below = a.below in
    omega arith))

module _ (s : SeenByLane) (answers : Bool) (columns : Columns) (lid : ℕ) (old w new : Walked) where
  abbrev cells : Cells
  cells = cells_of s.seen.facts

  -- one sender more
  pub one_sender : (index : ℕ) → AreFollowed s.said cells columns lid (SentBySome s answers lid index) old w
      → AreFollowed s.said cells columns lid (SentFrom s answers lid index) w new
      → AreFollowed s.said cells columns lid (SentBySome s answers lid (index + 1)) old new
  one_sender index h one =
      followed_then s.said cells columns lid (SentBySome s answers lid index) (SentFrom s answers lid index) (SentBySome s answers lid (index + 1)) old w new
      h one
      either earlier (λ l b a. record { index = index; below = omega arith; sent = a })
    where
      either : (l : ℕ) (b : Option ℕ) → SentBySome s answers lid (index + 1) l b → SentBySome s answers lid index l b ⊎ SentFrom s answers lid index l b
      either l b a =
          elim (cases_lt a.index index) [
            | inl less ↦ inl (record { index = a.index; below = less; sent = a.sent })
            | inr past ↦
                let below = a.below in
                let at : a.index ≡ index = omega arith in inr (subst (λ (k : ℕ). SentFrom s answers lid k l b) at a.sent)
          ]

      earlier : (l : ℕ) (b : Option ℕ) → SentBySome s answers lid index l b → SentBySome s answers lid (index + 1) l b
      earlier l b a = let below = a.below in record { index = a.index; below = omega arith; sent = a.sent }

  -- all senders
  pub all_senders : AreFollowed s.said cells columns lid (SentBySome s answers lid (length (end_ports cells))) old w
      → AreFollowed s.said cells columns lid (SentFor s answers lid) old w
  all_senders h =
      followed_as s.said cells columns lid (SentBySome s answers lid (length (end_ports cells))) (SentFor s answers lid) old w h
      (λ l b a. record { index = a.0; below = below_length (end_ports cells) a.0 a.1.source a.1.source_is; sent = a.1 }) (λ l b a. (a.index, a.sent))

  module _ (index : ℕ) (source : EndPort) (first : Option ℕ) (source_is : slice_get (end_ports cells) index ≡ Some source)
      (first_is : first ≡ first_stop cells source) where
    abbrev own : Option ℕ
    own = level_of s.said source.node source.port lid

    same_source : (e : EndPort) → slice_get (end_ports cells) index ≡ Some e → e ≡ source
    same_source e is = same_Some e source (sym is ∙ source_is)

    from : (l : ℕ) (b : Option ℕ) → HasLevel s.said answers s.seen.held source lid l → b ≡ first → SentFrom s answers lid index l b
    from l b has begins = record { source = source; source_is = source_is; has_level = has; begins = begins ∙ first_is }

    has_level : (l : ℕ) (b : Option ℕ) → SentFrom s answers lid index l b → HasLevel s.said answers s.seen.held source lid l × (b ≡ first)
    has_level l b a =
        let same = same_source a.source a.source_is in (
          subst (λ (e : EndPort). HasLevel s.said answers s.seen.held e lid l) same a.has_level,
          a.begins ∙ ap (first_stop cells) same ∙ sym first_is,
        )

    pub no_answers : answers ≡ false → AreFollowed s.said cells columns lid (BeginsIf own first) old w
        → AreFollowed s.said cells columns lid (SentFrom s answers lid index) old w
    no_answers off h =
        followed_as s.said cells columns lid (BeginsIf own first) (SentFrom s answers lid index) old w h back
        (λ l b a. from l b (inl a.0) a.1)
      where
        back : (l : ℕ) (b : Option ℕ) → SentFrom s answers lid index l b → BeginsIf own first l b
        back l b a =
            let h = has_level l b a in
            (elim h.0 [ inl e ↦ e | inr t ↦ (let set = t.0 in absurd (cc)) ], h.1)

    pub with_answers : answers ≡ true → AreFollowed s.said cells columns lid (BeginsIf own first) old w
        → AreFollowed s.said cells columns lid (AnswersTo s.said (owners_of s.seen.held lid) (lids_held s.seen.held source) first) w new
        → AreFollowed s.said cells columns lid (SentFrom s answers lid index) old new
    with_answers on h one =
        followed_then s.said cells columns lid (BeginsIf own first)
        (AnswersTo s.said (owners_of s.seen.held lid) (lids_held s.seen.held source) first) (SentFrom s answers lid index) old w new h one either
        (λ l b a. from l b (inl a.0) a.1) (λ l b a. from l b (inr (on, a.1)) a.0)
      where
        either : (l : ℕ) (b : Option ℕ) → SentFrom s answers lid index l b
            → (BeginsIf own first l b) ⊎ AnswersTo s.said (owners_of s.seen.held lid) (lids_held s.seen.held source) first l b
        either l b a =
            let h = has_level l b a in
            elim h.0 [ inl e ↦ inl (e, h.1) | inr t ↦ inr (h.1, t.1) ]
