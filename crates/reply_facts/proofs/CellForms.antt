-- A key and a cell that are a sighting are spelled in one way.
use Rattle.std.proofs.Common.{◌≡◌, ◌&&◌, ℕ, refl, sym, subst, true, false}
use Rattle.std.proofs.lemmas.Bool.{and_parts}
use Rattle.smp_bytes.specs.declared.node_type.NodeType.TheVariants.{Switch, ChannelAdapter, Router}
use Rattle.fact_join.specs.declared.cell.Cell.{Cell}
use Rattle.fact_join.specs.declared.cell.Cell.TheVariants.{Known, Disputed}
use Rattle.fact_join.specs.Cell.{generation_of}
use Rattle.reply_facts.specs.declared.cell_form.CellForm.{CellForm}
use Rattle.reply_facts.specs.declared.key.Key.{Key}
use Rattle.reply_facts.specs.declared.key.Key.TheVariants.{Node, PortGuid, Link, Port, Claim, Cap}
use Rattle.reply_facts.specs.declared.value.Value.{Value}
use Rattle.reply_facts.specs.declared.value.Value.TheVariants.{Kind, Guid, Peer, Up, Lid, Count}
use Rattle.reply_facts.specs.CellForm.{IsSpelled, cell_in, form_of, key_in, number_of, other_of}
use Rattle.reply_facts.specs.Key.{key_guid, key_port}
use Rattle.reply_facts.specs.Sighting.{IsSighting, is_cell_of, is_generation, is_key}

abbrev IsOne : CellForm → ℕ → ℕ → ℕ → ℕ → ℕ → Type 0
IsOne form guid other generation number port =
    IsSighting (key_in form guid port, cell_in form generation other number) × IsSpelled form guid other generation number port

spelled_by : (key : Key) (cell : Cell Value) → is_cell_of key cell ≡ true → IsSighting (key, cell)
    → IsOne (form_of key cell) (key_guid key) (other_of cell) (generation_of cell) (number_of cell) (key_port key)
spelled_by (Node guid) (Known generation (Kind Switch ports)) e h = (h, record { other_is = refl; number_is = refl; port_is = refl })
spelled_by (Node guid) (Known generation (Kind ChannelAdapter ports)) e h = (h, record { other_is = refl; number_is = refl; port_is = refl })
spelled_by (Node guid) (Known generation (Kind Router ports)) e h = (h, record { other_is = refl; number_is = refl; port_is = refl })
spelled_by (Node guid) (Known generation (Guid other)) e h = absurd (cc)
spelled_by (Node guid) (Known generation (Peer other its_port)) e h = absurd (cc)
spelled_by (Node guid) (Known generation (Up up)) e h = absurd (cc)
spelled_by (Node guid) (Known generation (Lid lid)) e h = absurd (cc)
spelled_by (Node guid) (Known generation (Count count)) e h = absurd (cc)
spelled_by (Node guid) (Disputed generation) e h = (h, record { other_is = refl; number_is = refl; port_is = refl })
spelled_by (PortGuid guid port) (Known generation (Kind kind ports)) e h = absurd (cc)
spelled_by (PortGuid guid port) (Known generation (Guid other)) e h = (h, record { other_is = refl; number_is = refl; port_is = refl })
spelled_by (PortGuid guid port) (Known generation (Peer other its_port)) e h = absurd (cc)
spelled_by (PortGuid guid port) (Known generation (Up up)) e h = absurd (cc)
spelled_by (PortGuid guid port) (Known generation (Lid lid)) e h = absurd (cc)
spelled_by (PortGuid guid port) (Known generation (Count count)) e h = absurd (cc)
spelled_by (PortGuid guid port) (Disputed generation) e h = (h, record { other_is = refl; number_is = refl; port_is = refl })
spelled_by (Link guid port) (Known generation (Kind kind ports)) e h = absurd (cc)
spelled_by (Link guid port) (Known generation (Guid other)) e h = absurd (cc)
spelled_by (Link guid port) (Known generation (Peer other its_port)) e h = (h, record { other_is = refl; number_is = refl; port_is = refl })
spelled_by (Link guid port) (Known generation (Up up)) e h = absurd (cc)
spelled_by (Link guid port) (Known generation (Lid lid)) e h = absurd (cc)
spelled_by (Link guid port) (Known generation (Count count)) e h = absurd (cc)
spelled_by (Link guid port) (Disputed generation) e h = (h, record { other_is = refl; number_is = refl; port_is = refl })
spelled_by (Port guid port) (Known generation (Kind kind ports)) e h = absurd (cc)
spelled_by (Port guid port) (Known generation (Guid other)) e h = absurd (cc)
spelled_by (Port guid port) (Known generation (Peer other its_port)) e h = absurd (cc)
spelled_by (Port guid port) (Known generation (Up true)) e h = (h, record { other_is = refl; number_is = refl; port_is = refl })
spelled_by (Port guid port) (Known generation (Up false)) e h = (h, record { other_is = refl; number_is = refl; port_is = refl })
spelled_by (Port guid port) (Known generation (Lid lid)) e h = absurd (cc)
spelled_by (Port guid port) (Known generation (Count count)) e h = absurd (cc)
spelled_by (Port guid port) (Disputed generation) e h = (h, record { other_is = refl; number_is = refl; port_is = refl })
spelled_by (Claim guid port) (Known generation (Kind kind ports)) e h = absurd (cc)
spelled_by (Claim guid port) (Known generation (Guid other)) e h = absurd (cc)
spelled_by (Claim guid port) (Known generation (Peer other its_port)) e h = absurd (cc)
spelled_by (Claim guid port) (Known generation (Up up)) e h = absurd (cc)
spelled_by (Claim guid port) (Known generation (Lid lid)) e h = (h, record { other_is = refl; number_is = refl; port_is = refl })
spelled_by (Claim guid port) (Known generation (Count count)) e h = absurd (cc)
spelled_by (Claim guid port) (Disputed generation) e h = (h, record { other_is = refl; number_is = refl; port_is = refl })
spelled_by (Cap guid) (Known generation (Kind kind ports)) e h = absurd (cc)
spelled_by (Cap guid) (Known generation (Guid other)) e h = absurd (cc)
spelled_by (Cap guid) (Known generation (Peer other its_port)) e h = absurd (cc)
spelled_by (Cap guid) (Known generation (Up up)) e h = absurd (cc)
spelled_by (Cap guid) (Known generation (Lid lid)) e h = absurd (cc)
spelled_by (Cap guid) (Known generation (Count count)) e h = (h, record { other_is = refl; number_is = refl; port_is = refl })
spelled_by (Cap guid) (Disputed generation) e h = (h, record { other_is = refl; number_is = refl; port_is = refl })

pub is_spelled : (key : Key) (cell : Cell Value) (form : CellForm) (guid other generation number port : ℕ) → IsSighting (key, cell) → form ≡ form_of key cell
    → guid ≡ key_guid key → other ≡ other_of cell → generation ≡ generation_of cell → number ≡ number_of cell → port ≡ key_port key
    → IsOne form guid other generation number port
is_spelled key cell form guid other generation number port h its_form its_guid its_other its_generation its_number its_port =
    let parts = and_parts (is_key key && is_generation (generation_of cell)) (is_cell_of key cell) h in
    subst (λ (x : CellForm × ℕ × ℕ × ℕ × ℕ × ℕ). IsOne x.0 x.1 x.2 x.3 x.4 x.5)
    (sym (λ i. (its_form i, its_guid i, its_other i, its_generation i, its_number i, its_port i))) (spelled_by key cell parts.1 h)
