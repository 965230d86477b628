-- The channels with their loads, one after the other.
use Rattle.std.proofs.Common.{◌≡◌, ◌+◌, ◌*◌, ℕ, cond, true, false, List, [], ◌∷◌, ◌++◌, length, map, sym, ap, ◌∙◌}
use Rattle.std.specs.Prelude.{filter}
use Rattle.std.specs.List.{range_with_len, sum_by}
use Rattle.std.proofs.lemmas.List.{append-nil}
use Rattle.subnet_view.specs.Reading.{Cells, switches}
use Rattle.held_tables.specs.Held.{HeldPlan}
use Rattle.audit_ways.specs.declared.channel_list.LoadedChannel.{LoadedChannel}
use Rattle.audit_ways.specs.declared.way_tally.WayTally.{WayTally}
use Rattle.audit_ways.specs.ChannelList.{loaded_channel, loaded_channels, channel_with_load}
use Rattle.audit_ways.specs.WayTally.{IsCounted}
use Rattle.audit_ways.specs.Ways.{channels_of, ways_of}
use Rattle.audit_ways.proofs.Loads.{is_channel, channels_more, same_map}

module _ (cells : Cells) (loads : List ℕ) where
  -- those of the first numbers
  abbrev pub listed_so_far : ℕ → List LoadedChannel
  listed_so_far n = map (loaded_channel loads) (filter (is_channel cells loads) (range_with_len 0 n))

  pub one_listed : (n : ℕ) → is_channel cells loads n ≡ true → listed_so_far n ++ loaded_channel loads n ∷ [] ≡ listed_so_far (n + 1)
  one_listed n does =
      sym (channels_more cells loads (loaded_channel loads) n
      ∙ ap (λ t. listed_so_far n ++ cond t (loaded_channel loads n ∷ []) []) does)

  pub none_listed : (n : ℕ) → is_channel cells loads n ≡ false → listed_so_far n ≡ listed_so_far (n + 1)
  none_listed n not_it =
      sym (channels_more cells loads (loaded_channel loads) n
      ∙ ap (λ t. listed_so_far n ++ cond t (loaded_channel loads n ∷ []) []) not_it ∙ append-nil (listed_so_far n))

  pub all_listed : (n : ℕ) (found : List LoadedChannel) → found ≡ listed_so_far n → n ≡ 256 * length (switches cells)
      → found ≡ map (loaded_channel loads) (channels_of cells)
  all_listed n found h e = h ∙ ap listed_so_far e

-- what is counted are the loads
pub loads_are : (cells : Cells) (held : HeldPlan) (tally : WayTally)
    → IsCounted (256 * length (switches cells)) (λ f. sum_by f (ways_of cells held)) tally
    → map (loaded_channel tally.loads.items) (channels_of cells) ≡ loaded_channels cells held
loads_are cells held tally h =
    same_map (loaded_channel tally.loads.items) (channel_with_load cells held) (channels_of cells)
    (λ n. ap (λ (k : ℕ). record { channel = n; load = k }) (h.loads n))

-- and so are the loads of what is listed by them
pub told_loads : (cells : Cells) (held : HeldPlan) (tally : WayTally) (loads : List ℕ) (listed : List LoadedChannel)
    → IsCounted (256 * length (switches cells)) (λ f. sum_by f (ways_of cells held)) tally → loads ≡ tally.loads.items
    → listed ≡ map (loaded_channel loads) (channels_of cells) → listed ≡ loaded_channels cells held
told_loads cells held tally loads listed h same is =
    is ∙ ap (λ (xs : List ℕ). map (loaded_channel xs) (channels_of cells)) same ∙ loads_are cells held tally h
