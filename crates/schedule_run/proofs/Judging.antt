-- The fault that is found in texts is their first fault.
use Rattle.std.proofs.Common.{◌≡◌, ◌∙◌, ℕ, ◌+◌, inl, inr, true, false, List, Option, None, Some, Result, Ok, Err, refl, sym, ap, subst}
use Rattle.std.specs.Prelude.{if◌then◌else◌}
use Rattle.std.specs.Str.{IsUtf8, is_utf8}
use Rattle.std.proofs.lemmas.Str.{is_utf8-from_IsUtf8, IsUtf8-from_is_utf8}
use Rattle.topo_file.specs.FirstFault.{first_line_fault}
use Rattle.topo_file.specs.Reading.{topology_of}
use Rattle.topo_file.specs.Topology.{Layout}
use Rattle.topo_file.specs.TopoFault as topologies
use Rattle.topo_file.specs.declared.topo_fault.TopoFault.{TopoFault}
use Rattle.topo_file.specs.declared.topo_fault.TopoFault.TheVariants as topology
use Rattle.topo_file.specs.declared.node.Node.{Node}
use Rattle.schedule_file.specs.Schedule.{Script, schedule_of}
use Rattle.schedule_file.specs.ScheduleFault as schedules
use Rattle.schedule_file.specs.declared.schedule_fault.ScheduleFault.{ScheduleFault}
use Rattle.schedule_file.specs.declared.schedule_fault.ScheduleFault.TheVariants as schedule
use Rattle.sm_cli.specs.declared.fault.Fault.{Fault}
use Rattle.sm_cli.specs.declared.fault.Fault.TheVariants.{Text}
use Rattle.sm_cli.specs.declared.text_fault.TextFault.TheVariants.{NotUtf8, Topology, Schedule}
use Rattle.text_words.specs.Text.{lines}
use Rattle.schedule_file.specs.FirstFault.{IsSoundOrCrowded}
use Rattle.schedule_run.specs.Run.{HidesBelowManagers, HidesLinksAlone, IsRefused, RefusesScript, RefusesTexts, TellsTopology, fault_behind, fault_of_script, input_fault, schedule_fault}

not_utf8 : (bytes : List ℕ) → ¬ (IsUtf8 bytes) → is_utf8 bytes ≡ false
not_utf8 bytes h = elim (is_utf8 bytes) as (λ b. is_utf8 bytes ≡ b → b ≡ false) [
  | true ↦ λ e. absurd (h (IsUtf8-from_is_utf8 bytes e))
  | false ↦ λ e. refl
] refl

-- a topology ----------------------------------------------------------------------------------

pub spelled_badly : (first : ℕ) (text script : List ℕ) → ¬ (IsUtf8 text) → RefusesTexts first text script (Text first NotUtf8)
spelled_badly first text script h = record {
  refused = (inl refl, λ of_text. ap (λ b. if b then fault_behind first (topology_of text) script else Some (Text first NotUtf8)) (not_utf8 text h));
  hides = tt;
  hides_in_schedule = λ layout tells. tt;
}

found : (first : ℕ) (text script : List ℕ) (told : Result Layout TopoFault) → IsUtf8 text → topology_of text ≡ told
    → input_fault first text script ≡ fault_behind first told script
found first text script told h e =
    ap (λ b. if b then fault_behind first (topology_of text) script else Some (Text first NotUtf8)) (is_utf8-from_IsUtf8 text h)
    ∙ ap (λ r. fault_behind first r script) e

topology_found : (first : ℕ) (text script : List ℕ) (fault : TopoFault) → IsUtf8 text → topology_of text ≡ Err fault
    → IsRefused first (input_fault first text script) (Text first (Topology fault))
topology_found first text script fault h e = (inl refl, λ of_text. found first text script (Err fault) h e)

topology_judged : (first : ℕ) (text script : List ℕ) (fault : TopoFault) → IsUtf8 text → topologies.IsRefused fault (topology_of text)
    → IsRefused first (input_fault first text script) (Text first (Topology fault))
topology_judged first text script topology.Memory h e = (inl refl, λ of_text. cc)
topology_judged first text script (topology.Syntax line) h e = topology_found first text script _ h e
topology_judged first text script (topology.Name line) h e = topology_found first text script _ h e
topology_judged first text script (topology.Ports line) h e = topology_found first text script _ h e
topology_judged first text script (topology.Peer line) h e = topology_found first text script _ h e
topology_judged first text script (topology.Port line) h e = topology_found first text script _ h e
topology_judged first text script (topology.Linked line) h e = topology_found first text script _ h e
topology_judged first text script (topology.GuidRange line) h e = topology_found first text script _ h e
topology_judged first text script (topology.TooManyNodes line) h e = topology_found first text script _ h e

hides_links : (first : ℕ) (text : List ℕ) (fault : TopoFault) → (fault ≡ topology.Memory → first_line_fault text ≡ None)
    → HidesLinksAlone text (Text first (Topology fault))
hides_links first text topology.Memory h = h refl
hides_links first text (topology.Syntax line) h = tt
hides_links first text (topology.Name line) h = tt
hides_links first text (topology.Ports line) h = tt
hides_links first text (topology.Peer line) h = tt
hides_links first text (topology.Port line) h = tt
hides_links first text (topology.Linked line) h = tt
hides_links first text (topology.GuidRange line) h = tt
hides_links first text (topology.TooManyNodes line) h = tt

pub topology_refused : (first : ℕ) (text script : List ℕ) (fault : TopoFault) → IsUtf8 text → topologies.IsRefused fault (topology_of text)
    → (fault ≡ topology.Memory → first_line_fault text ≡ None) → RefusesTexts first text script (Text first (Topology fault))
topology_refused first text script fault h e hides = record {
  refused = topology_judged first text script fault h e;
  hides = hides_links first text fault hides;
  hides_in_schedule = λ layout tells. tt;
}

pub told_topology : (text : List ℕ) (layout : Layout) → IsUtf8 text → topology_of text ≡ Ok layout → TellsTopology text layout
told_topology text layout h e = record { utf8 = is_utf8-from_IsUtf8 text h; told = e }

-- a schedule ----------------------------------------------------------------------------------

pub script_spelled_badly : (first : ℕ) (nodes : List Node) (text : List ℕ) → ¬ (IsUtf8 text) → RefusesScript first nodes text (Text (first + 1) NotUtf8)
script_spelled_badly first nodes text h = record {
  refused = (
    inr refl,
    λ of_text. ap (λ b. if b then fault_of_script (first + 1) (schedule_of nodes text) else Some (Text (first + 1) NotUtf8))
        (not_utf8 text h),
  );
  hides = tt;
  no_topology = λ topology. tt;
}

pub script_found : (input : ℕ) (nodes : List Node) (text : List ℕ) (told : Result Script ScheduleFault) → IsUtf8 text → schedule_of nodes text ≡ told
    → schedule_fault input nodes text ≡ fault_of_script input told
script_found input nodes text told h e =
    ap (λ b. if b then fault_of_script input (schedule_of nodes text) else Some (Text input NotUtf8)) (is_utf8-from_IsUtf8 text h)
    ∙ ap (fault_of_script input) e

schedule_judged : (first : ℕ) (nodes : List Node) (text : List ℕ) (fault : ScheduleFault) → IsUtf8 text → schedules.IsRefused fault (schedule_of nodes text)
    → IsRefused first (schedule_fault (first + 1) nodes text) (Text (first + 1) (Schedule fault))
schedule_judged first nodes text schedule.Memory h e = (inr refl, λ of_text. cc)
schedule_judged first nodes text (schedule.Syntax line) h e = (inr refl, λ of_text. script_found (first + 1) nodes text _ h e)
schedule_judged first nodes text (schedule.Decides line) h e = (inr refl, λ of_text. script_found (first + 1) nodes text _ h e)
schedule_judged first nodes text (schedule.Name line) h e = (inr refl, λ of_text. script_found (first + 1) nodes text _ h e)
schedule_judged first nodes text (schedule.Seat line) h e = (inr refl, λ of_text. script_found (first + 1) nodes text _ h e)

hides_below : (input : ℕ) (nodes : List Node) (text : List ℕ) (fault : ScheduleFault) → (fault ≡ schedule.Memory → IsSoundOrCrowded nodes (lines text))
    → HidesBelowManagers nodes text (Text input (Schedule fault))
hides_below input nodes text schedule.Memory h = h refl
hides_below input nodes text (schedule.Syntax line) h = tt
hides_below input nodes text (schedule.Decides line) h = tt
hides_below input nodes text (schedule.Name line) h = tt
hides_below input nodes text (schedule.Seat line) h = tt

pub schedule_refused : (first : ℕ) (nodes : List Node) (text : List ℕ) (fault : ScheduleFault) → IsUtf8 text
    → schedules.IsRefused fault (schedule_of nodes text)
    → (fault ≡ schedule.Memory → IsSoundOrCrowded nodes (lines text)) → RefusesScript first nodes text (Text (first + 1) (Schedule fault))
schedule_refused first nodes text fault h e hides = record {
  refused = schedule_judged first nodes text fault h e;
  hides = hides_below (first + 1) nodes text fault hides;
  no_topology = λ topology. tt;
}

-- both ----------------------------------------------------------------------------------------

pub behind : (first : ℕ) (text script : List ℕ) (layout : Layout) → TellsTopology text layout
    → input_fault first text script ≡ schedule_fault (first + 1) layout.nodes script
behind first text script layout tells =
    ap (λ b. if b then fault_behind first (topology_of text) script else Some (Text first NotUtf8)) tells.utf8
    ∙ ap (λ r. fault_behind first r script) tells.told

one_layout : (text : List ℕ) (x y : Layout) → TellsTopology text x → TellsTopology text y → x ≡ y
one_layout text x y a b = let e = a.told in let f = b.told in cc

-- a schedule that is refused behind a sound topology
pub refused_behind : (first : ℕ) (text script : List ℕ) (layout : Layout) (fault : Fault) → TellsTopology text layout
    → RefusesScript first layout.nodes script fault → RefusesTexts first text script fault
refused_behind first text script layout fault tells r = record {
  refused = subst (λ (o : Option Fault). IsRefused first o fault) (sym (behind first text script layout tells)) r.refused;
  hides = r.no_topology text;
  hides_in_schedule = λ told also.
      let same : layout ≡ told = one_layout text layout told tells also in
      subst (λ (l : Layout). HidesBelowManagers l.nodes script fault) same r.hides;
}
