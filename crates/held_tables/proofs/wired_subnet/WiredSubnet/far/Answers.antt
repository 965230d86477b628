-- By the subnet's switches.
use Rattle.std.proofs.Common.{◌≡◌, ◌/◌, ◌%◌, ◌∙◌, ℕ, zero, suc, List, [], ◌∷◌, sym, ap, map, refl, subst}
use Rattle.std.specs.Prelude.{Option, None, Some, slice_get, slice_index_or}
use Rattle.std.specs.Option.{option_copied, option_map_or}
use Rattle.fact_store.specs.View.{Facts, cells_of}
use Rattle.subnet_view.specs.Reading.{Cells, switches}
use Rattle.subnet_view.proofs.Walked.{copied_item}
use Rattle.held_tables.specs.declared.far_end.Far.{Far}
use Rattle.held_tables.specs.declared.far_end.Far.TheVariants.{Nothing}
use Rattle.held_tables.specs.declared.wired_switch.WiredSwitch.{WiredSwitch}
use Rattle.held_tables.specs.Switches.{far_by, row_of, wired_of}
use Rattle.held_tables.proofs.wired_subnet.WiredSubnet.far.Goals as goal

-- where the wire in `port` of a switch leads, if there is a switch
abbrev far_if : ℕ → Option WiredSwitch → Far
far_if port found = option_map_or (λ (s : WiredSwitch). slice_index_or s.row port Nothing) found Nothing

there : (cells : Cells) (guids : List ℕ) (index port : ℕ) → far_if port (slice_get (map (wired_of cells) guids) index)
    ≡ option_map_or (λ g. slice_index_or (row_of cells g) port Nothing) (slice_get guids index) Nothing
there cells [] index port = refl
there cells (g ∷ guids) zero port = refl
there cells (g ∷ guids) (suc index) port = there cells guids index port

pub returns-in-Some : goal.returns-in-Some
returns-in-Some c =
    let n = c.args.number in
    let cells = cells_of c.self.inside.subnet.now in
    let Found : Facts → Type 0 = λ s. c.far.result ≡ far_by (cells_of s) n in
    let at : slice_get (map (wired_of cells) (switches cells)) (n / 256) ≡ Some c.in-Some.switch.now =
    sym (ap (λ (ss : List WiredSwitch). slice_get ss (n / 256)) (c.deref.ensures.value ∙ c.self.invariant.wired_are))
    ∙ sym (copied_item c.deref.result.now (n / 256) c.get.result c.get.ensures.lookup)
    ∙ ap option_copied c.in-Some.is in
    subst Found c.self.view_is
    (c.far.ensures ∙ sym (ap (far_if (n % 256)) at) ∙ there cells (switches cells) (n / 256) (n % 256))

pub returns-in-None : goal.returns-in-None
returns-in-None c =
    let n = c.args.number in
    let cells = cells_of c.self.inside.subnet.now in
    let Found : Facts → Type 0 = λ s. Nothing ≡ far_by (cells_of s) n in
    let at : slice_get (map (wired_of cells) (switches cells)) (n / 256) ≡ None =
    sym (ap (λ (ss : List WiredSwitch). slice_get ss (n / 256)) (c.deref.ensures.value ∙ c.self.invariant.wired_are))
    ∙ sym (copied_item c.deref.result.now (n / 256) c.get.result c.get.ensures.lookup)
    ∙ ap option_copied c.in-None.is in
    subst Found c.self.view_is (sym (ap (far_if (n % 256)) at) ∙ there cells (switches cells) (n / 256) (n % 256))
