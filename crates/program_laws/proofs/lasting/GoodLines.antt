-- Lines by which all goes well for a manager, one by one: each comes in time, and few requests are left at any time.
use Rattle.std.proofs.Common.{◌≡◌, ◌≤◌, ◌∙◌, ℕ, ◌+◌, ◌-◌, ◌*◌, true, false, None, List, [], ◌∷◌, ◌++◌}
use Rattle.std.proofs.Common.{refl, sym, ap, subst, arith}
use Rattle.std.proofs.lemmas.Bool.{both_ways}
use Rattle.std.specs.List.{list_any}
use Rattle.fact_store.specs.View.{Facts, raised}
use Rattle.sm_manager.specs.Manager.{begin_fault}
use Rattle.sm_manager.specs.Writing.{is_written}
use Rattle.sm_policy.specs.Policy.{is_sweeping}
use Rattle.acting_manager.specs.Acting.{Acting}
use Rattle.acting_manager.specs.Working.{Told, after_told, is_idle, is_resting, is_writing, wake_of}
use Rattle.program_laws.specs.Healing.{AllGoWell, GoesWell, SweptWell}
use Rattle.program_laws.specs.NextSweep.{HasFewTurns}
use Rattle.program_laws.specs.RestTime.{MaySweep, sweeps_by_itself}
use Rattle.program_laws.specs.Wakes.{ArePrompt, IsBy, IsNoLeave, Line, NoneLeaves, after_line, after_lines, before_deciding}
use Rattle.program_laws.specs.Wakes.{chances_in, control_in, controls_in, next_in, sets_to_come}
use Rattle.program_laws.specs.WholeSweeps.{tells_loss}
use Rattle.program_laws.proofs.lasting.LoneSweeps.{shown, asked, sweeper, swept_on, IsToBegin, may_begin, begun_told, begun}

-- few requests of its writing are left, and its sweep has asked little
pub record Fits (a : Acting) : Type 0 where
  pub tries : a.window.limits.tries ≡ 1
  pub left : chances_in a.window + sets_to_come a.manager ≤ 2
  pub asked : next_in a.manager.sweep ≤ 3

-- all goes well when the manager is told the line, which comes in time
pub record GoodLine (line : Line) (a : Acting) : Type 0 where
  pub fits : Fits a
  pub prompt : IsBy 0 line.0 (wake_of a)
  pub well : GoesWell line a
  pub no_control : control_in line.1 ≡ 0
  pub stays : IsNoLeave line.1

-- the manager after the last line
pub record GoodEnd (time : ℕ) (a : Acting) : Type 0 where
  pub fits : Fits a
  pub at : a.time ≡ time

-- each line is good, and the last one comes at `time`
abbrev pub Goes : ℕ → List Line → Acting → Type 0
Goes time [] a = GoodEnd time a
Goes time (line ∷ lines) a = GoodLine line a × Goes time lines (after_line line a)

module _ (time : ℕ) where
  pub fits_first : (lines : List Line) (a : Acting) → Goes time lines a → Fits a
  fits_first [] a g = g.fits
  fits_first (line ∷ lines) a g = g.0.fits

  pub goes_later : (some rest : List Line) (a : Acting) → Goes time (some ++ rest) a → Goes time rest (after_lines some a)
  goes_later [] rest a g = g
  goes_later (line ∷ some) rest a g = goes_later some rest (after_line line a) g.1

  pub no_controls : (some rest : List Line) (a : Acting) → Goes time (some ++ rest) a → controls_in some ≡ 0
  no_controls [] rest a g = refl
  no_controls (line ∷ some) rest a g = omega (arith, g.0.no_control, no_controls some rest (after_line line a) g.1)

  pub its_prompt : (lines : List Line) (a : Acting) → Goes time lines a → ArePrompt 0 lines a
  its_prompt [] a g = tt
  its_prompt (line ∷ lines) a g = (g.0.prompt, its_prompt lines (after_line line a) g.1)

  pub its_well : (lines : List Line) (a : Acting) → Goes time lines a → AllGoWell lines a
  its_well [] a g = tt
  its_well (line ∷ lines) a g = (g.0.well, its_well lines (after_line line a) g.1)

  pub none_leaves : (lines : List Line) (a : Acting) → Goes time lines a → NoneLeaves lines
  none_leaves [] a g = tt
  none_leaves (line ∷ lines) a g = (g.0.stays, none_leaves lines (after_line line a) g.1)

  pub its_end : (lines : List Line) (a : Acting) → Goes time lines a → (after_lines lines a).time ≡ time
  its_end [] a g = g.at
  its_end (line ∷ lines) a g = its_end lines (after_line line a) g.1

  pub few_turns : (lines : List Line) (a : Acting) → Goes time lines a → HasFewTurns 5 lines a
  few_turns lines a g first some rest are =
      let b = after_lines first a in
      let here = goes_later first (some ++ rest) a (subst (λ (ls : List Line). Goes time ls a) are g) in
      let x = fits_first (some ++ rest) b here in
      let y = fits_first rest (after_lines some b) (goes_later some rest b here) in
      let none = no_controls some rest b here in
      few_by b.window.limits.tries (chances_in b.window) (sets_to_come b.manager) (next_in b.manager.sweep)
      (next_in (after_lines some b).manager.sweep) (controls_in some) x.tries x.left y.asked none
    where
      few_by : (tries chances sets next later controls : ℕ) → tries ≡ 1 → chances + sets ≤ 2 → later ≤ 3 → controls ≡ 0
          → chances + tries * (sets + (later - next) + controls) + controls ≤ 5
      few_by tries chances sets next later controls e h k none =
          subst (λ t. chances + t * (sets + (later - next) + controls) + controls ≤ 5) (sym e) (omega (arith, h, k, none))

  pub goes_on : (line : Line) (lines : List Line) (a b : Acting) → after_line line a ≡ b → GoodLine line a → Goes time lines b
      → Goes time (line ∷ lines) a
  goes_on line lines a b e good rest = (good, subst (Goes time lines) (sym e) rest)

-- a line that the manager is told while it does not rest
module _ (line : Line) (a b : Acting) (leads : after_line line a ≡ b) where
  pub awake_good : Fits a → IsBy 0 line.0 (wake_of a) → control_in line.1 ≡ 0 → IsNoLeave line.1
      → is_resting a.policy.activity ≡ false → sweeps_by_itself b ≡ true → list_any tells_loss (after_told line.0 line.1 a).notes ≡ false
      → (is_idle (before_deciding line a).window ≡ true → is_sweeping (before_deciding line a).policy.activity ≡ true
      → SweptWell (before_deciding line a))
      → (is_idle (before_deciding line a).window ≡ true → is_writing (before_deciding line a).policy.activity ≡ true
      → is_written (before_deciding line a).manager ≡ true)
      → GoodLine line a
  awake_good fits prompt control stays awake itself none swept wrote =
      record {
        fits = fits;
        prompt = prompt;
        well = record {
          none_lost = none;
          to_sweep = record {
            may = λ e k. absurd (both_ways (is_resting a.policy.activity) awake e);
            itself = λ e k. ap sweeps_by_itself leads ∙ itself;
          };
          swept = swept;
          writes = wrote;
        };
        no_control = control;
        stays = stays;
      }

-- a sweep that begins
pub begins_good : (time g : ℕ) (a : Acting) → IsToBegin time g a → Fits a → IsBy 0 time (wake_of a) → sweeps_by_itself a ≡ true
    → sweeps_by_itself (swept_on time g a) ≡ true → list_any tells_loss (shown (asked time g a None (sweeper time g a g))).notes ≡ false
    → GoodLine (time, Told.Time) a
begins_good time g a h fits prompt itself after none =
    record {
      fits = fits;
      prompt = prompt;
      well = record {
        none_lost = ap (λ (b : Acting). list_any tells_loss b.notes) (begun_told time g a h) ∙ none;
        to_sweep = record { may = λ e k. may; itself = λ e k. ap sweeps_by_itself (begun time g a h) ∙ after };
        swept = λ e k. absurd (both_ways _ (ap (λ (b : Acting). is_sweeping b.policy.activity) h.before ∙ ap is_sweeping h.rests) k);
        writes = λ e k. absurd (both_ways _ (ap (λ (b : Acting). is_writing b.policy.activity) h.before ∙ ap is_writing h.rests) k);
      };
      no_control = refl;
      stays = tt;
    }
  where
    may : MaySweep (before_deciding (time, Told.Time) a)
    may =
        subst MaySweep (sym h.before) (record {
          itself = itself;
          unrefused =
              ap (λ n. begin_fault (record a.manager { store = raised a.manager.store n })) h.next
              ∙ ap (λ (f : Facts). begin_fault (record a.manager { store = f })) h.forgotten ∙ may_begin time g a h;
        })
