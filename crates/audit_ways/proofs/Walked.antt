-- The channels of a route, one after the other.
use Rattle.std.proofs.Common.{◌≡◌, ◌≢◌, ◌<◌, ◌≤◌, ◌+◌, ◌-◌, ◌*◌, ℕ, zero, suc, true, false, cond, List, [], ◌∷◌, length, get_or, set, refl, sym, ap, ◌∙◌, arith, get_or-set_other, get_or-set_same}
use Rattle.std.specs.Prelude.{Option, None, Some, count_by, slice_index_or, ◌==◌}
use Rattle.std.specs.Option.{option_map_or}
use Rattle.std.proofs.lemmas.Bool.{eqb-true, eq-eqb}
use Rattle.std.proofs.lemmas.List.{length-set}
use Rattle.std.proofs.lemmas.List.Sums.{sum_by-cons}
use Rattle.port_graph.specs.declared.edge.Edge.{Edge}
use Rattle.audit_channels.specs.Column.{number_of}
use Rattle.audit_ways.specs.WayTally.{IsLoadedWith}
use Rattle.audit_ways.specs.Ways.{channels_from}

-- how often a channel is among some
abbrev pub times_in : ℕ → List ℕ → ℕ
times_in channel channels = count_by (λ x. x == channel) channels

module _ (edges : List (Option Edge)) where
  pub one_channel : (n switch : ℕ) (edge : Edge) → slice_index_or edges switch None ≡ Some edge
      → channels_from (suc n) edges switch ≡ number_of switch edge ∷ channels_from n edges edge.to
  one_channel n switch edge e = ap (λ o. option_map_or (λ (x : Edge). number_of switch x ∷ channels_from n edges x.to) o []) e

  pub no_channel : (n switch : ℕ) → slice_index_or edges switch None ≡ None → channels_from n edges switch ≡ []
  no_channel zero switch e = refl
  no_channel (suc n) switch e = ap (λ o. option_map_or (λ (x : Edge). number_of switch x ∷ channels_from n edges x.to) o []) e

  -- the first `taken` channels are counted, and the rest of the route is left
  pub record AreTaken (old : List ℕ) (first times taken switch : ℕ) (now : List ℕ) : Type 0 where
    pub as_many : length now ≡ length old
    pub count : taken + length (channels_from (length edges - taken) edges switch) ≡ length (channels_from (length edges) edges first)
    pub load : (channel : ℕ) → get_or now channel 0 + times * times_in channel (channels_from (length edges - taken) edges switch)
        ≡ get_or old channel 0 + times * times_in channel (channels_from (length edges) edges first)

  pub none_taken : (old : List ℕ) (first times : ℕ) → AreTaken old first times 0 first old
  none_taken old first times =
      let all : length edges - 0 ≡ length edges = omega arith in
      record {
        as_many = refl;
        count = ap (λ n. 0 + length (channels_from n edges first)) all ∙ omega arith;
        load = λ channel. ap (λ n. get_or old channel 0 + times * times_in channel (channels_from n edges first)) all;
      }

  loaded : (now : List ℕ) (times number channel : ℕ) (rest : List ℕ) → number < length now
      → get_or (set now number (get_or now number 0 + times)) channel 0 + times * times_in channel rest
      ≡ get_or now channel 0 + times * times_in channel (number ∷ rest)
  loaded now times number channel rest less =
      let all = ap (λ k. times * k) (sum_by-cons (λ (x : ℕ). cond (x == channel) 1 0) number rest) in
      elim (number == channel) as (λ t. number == channel ≡ t → get_or (set now number (get_or now number 0 + times)) channel 0 + times * times_in channel rest
      ≡ get_or now channel 0 + times * times_in channel (number ∷ rest)) [
        | true ↦ λ e.
            let same : number ≡ channel = eqb-true number channel e in
            let here : get_or (set now number (get_or now number 0 + times)) channel 0 ≡ get_or now channel 0 + times =
            ap (λ k. get_or (set now number (get_or now number 0 + times)) k 0) (sym same) ∙ get_or-set_same now number (get_or now number 0 + times) 0 less
            ∙ ap (λ k. get_or now k 0 + times) same in
            let one : cond (number == channel) 1 0 ≡ 1 = ap (λ t. cond t 1 0) e in
            let more : times * (cond (number == channel) 1 0 + times_in channel rest) ≡ times + times * times_in channel rest =
            ap (λ k. times * (k + times_in channel rest)) one ∙ omega arith in
            omega (arith, all, here, more)
        | false ↦ λ e.
            let other : channel ≢ number = λ same. (let is = eq-eqb number channel (sym same) in cc) in
            let there : get_or (set now number (get_or now number 0 + times)) channel 0 ≡ get_or now channel 0 =
            get_or-set_other now number channel (get_or now number 0 + times) 0 other in
            let none : cond (number == channel) 1 0 ≡ 0 = ap (λ t. cond t 1 0) e in
            let less : times * (cond (number == channel) 1 0 + times_in channel rest) ≡ times * times_in channel rest =
            ap (λ k. times * (k + times_in channel rest)) none ∙ omega arith in
            omega (arith, all, there, less)
      ] refl

  pub one_taken : (old : List ℕ) (first times taken switch : ℕ) (now new : List ℕ) (edge : Edge) → AreTaken old first times taken switch now
      → taken < length edges → slice_index_or edges switch None ≡ Some edge → number_of switch edge < length now
      → new ≡ set now (number_of switch edge) (get_or now (number_of switch edge) 0 + times) → AreTaken old first times (taken + 1) edge.to new
  one_taken old first times taken switch now new edge h less e within is =
      let number = number_of switch edge in
      let left : length edges - taken ≡ suc (length edges - (taken + 1)) = omega arith in
      let rest = channels_from (length edges - (taken + 1)) edges edge.to in
      let split : channels_from (length edges - taken) edges switch ≡ number ∷ rest =
      ap (λ n. channels_from n edges switch) left ∙ one_channel (length edges - (taken + 1)) switch edge e in
      let long = ap length split in
      let count = h.count in
      record {
        as_many = ap length is ∙ length-set now number (get_or now number 0 + times) ∙ h.as_many;
        count = omega arith;
        load = λ channel. ap (λ (xs : List ℕ). get_or xs channel 0 + times * times_in channel rest) is ∙ loaded now times number channel rest within
            ∙ ap (λ (xs : List ℕ). get_or now channel 0 + times * times_in channel xs) (sym split) ∙ h.load channel;
      }

  -- if nothing is left of the route
  pub record AreAll (old : List ℕ) (first times taken : ℕ) (now : List ℕ) : Type 0 where
    pub loads : IsLoadedWith old (channels_from (length edges) edges first) times now
    pub count : taken ≡ length (channels_from (length edges) edges first)

  ended : (old : List ℕ) (first times taken switch : ℕ) (now : List ℕ) → AreTaken old first times taken switch now
      → channels_from (length edges - taken) edges switch ≡ [] → AreAll old first times taken now
  ended old first times taken switch now h e =
      let count = h.count in
      let none = ap length e in
      record {
        loads = record {
          as_many = h.as_many;
          load = λ channel.
              let load = h.load channel in
              let nothing = ap (λ (xs : List ℕ). times * times_in channel xs) e in
              let zero_times : times * 0 ≡ 0 = omega arith in
              omega (arith, load, nothing, zero_times);
        };
        count = omega (arith, count, none);
      }

  pub ended_there : (old : List ℕ) (first times taken switch : ℕ) (now : List ℕ) → AreTaken old first times taken switch now
      → slice_index_or edges switch None ≡ None → AreAll old first times taken now
  ended_there old first times taken switch now h e = ended old first times taken switch now h (no_channel (length edges - taken) switch e)

  pub ended_in_time : (old : List ℕ) (first times taken switch : ℕ) (now : List ℕ) → AreTaken old first times taken switch now
      → length edges ≤ taken → AreAll old first times taken now
  ended_in_time old first times taken switch now h past =
      let left : length edges - taken ≡ 0 = omega arith in
      ended old first times taken switch now h (ap (λ n. channels_from n edges switch) left)
