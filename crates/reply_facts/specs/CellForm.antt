-- How a key with its cell is spelled by numbers: a form, the key's GUID, another GUID, a generation, a number and a
-- port.
use Rattle.std.specs.Prelude.{◌≡◌, ℕ, true, false, refl}
use Rattle.smp_bytes.specs.declared.node_type.NodeType.TheVariants.{Switch, ChannelAdapter, Router}
use Rattle.fact_join.specs.declared.cell.Cell.{Cell}
use Rattle.fact_join.specs.declared.cell.Cell.TheVariants.{Known, Disputed}
use Rattle.reply_facts.specs.declared.cell_form.CellForm.{CellForm}
use Rattle.reply_facts.specs.declared.cell_form.CellForm.TheVariants.{SwitchNode, AdapterNode, RouterNode, GuidOfPort, LinkEnd, UpPort, DownPort, ClaimedLid, RoomOfTable, DisputedNode, DisputedGuid, DisputedLink, DisputedPort, DisputedClaim, DisputedRoom}
use Rattle.reply_facts.specs.declared.key.Key.{Key}
use Rattle.reply_facts.specs.declared.key.Key.TheVariants.{Node, PortGuid, Link, Port, Claim, Cap}
use Rattle.reply_facts.specs.declared.value.Value.{Value}
use Rattle.reply_facts.specs.declared.value.Value.TheVariants.{Kind, Guid, Peer, Up, Lid, Count}
use Rattle.fact_join.specs.Cell.{generation_of}
use Rattle.reply_facts.specs.Key.{key_guid, key_kind, key_port}

-- the key that a form, `guid` and `port` spell. The keys of a node and of a table's size have no port
abbrev pub key_in : CellForm → ℕ → ℕ → Key
key_in SwitchNode guid port = Node guid
key_in AdapterNode guid port = Node guid
key_in RouterNode guid port = Node guid
key_in GuidOfPort guid port = PortGuid guid port
key_in LinkEnd guid port = Link guid port
key_in UpPort guid port = Port guid port
key_in DownPort guid port = Port guid port
key_in ClaimedLid guid port = Claim guid port
key_in RoomOfTable guid port = Cap guid
key_in DisputedNode guid port = Node guid
key_in DisputedGuid guid port = PortGuid guid port
key_in DisputedLink guid port = Link guid port
key_in DisputedPort guid port = Port guid port
key_in DisputedClaim guid port = Claim guid port
key_in DisputedRoom guid port = Cap guid

-- the cell that a form, `generation`, a GUID `other` and `number` spell. A disputed cell has only its generation
abbrev pub cell_in : CellForm → ℕ → ℕ → ℕ → Cell Value
cell_in SwitchNode generation other number = Known generation (Kind Switch number)
cell_in AdapterNode generation other number = Known generation (Kind ChannelAdapter number)
cell_in RouterNode generation other number = Known generation (Kind Router number)
cell_in GuidOfPort generation other number = Known generation (Guid other)
cell_in LinkEnd generation other number = Known generation (Peer other number)
cell_in UpPort generation other number = Known generation (Up true)
cell_in DownPort generation other number = Known generation (Up false)
cell_in ClaimedLid generation other number = Known generation (Lid number)
cell_in RoomOfTable generation other number = Known generation (Count number)
cell_in DisputedNode generation other number = Disputed generation
cell_in DisputedGuid generation other number = Disputed generation
cell_in DisputedLink generation other number = Disputed generation
cell_in DisputedPort generation other number = Disputed generation
cell_in DisputedClaim generation other number = Disputed generation
cell_in DisputedRoom generation other number = Disputed generation

-- the number of the kind of the keys that `form` spells
abbrev pub form_kind : CellForm → ℕ
form_kind form = key_kind (key_in form 0 0)

-- the form that spells a known cell with this value
abbrev pub known_form : Value → CellForm
known_form (Kind Switch ports) = SwitchNode
known_form (Kind ChannelAdapter ports) = AdapterNode
known_form (Kind Router ports) = RouterNode
known_form (Guid guid) = GuidOfPort
known_form (Peer guid port) = LinkEnd
known_form (Up true) = UpPort
known_form (Up false) = DownPort
known_form (Lid lid) = ClaimedLid
known_form (Count count) = RoomOfTable

-- the form that spells a disputed cell whose key is this key
abbrev pub disputed_form : Key → CellForm
disputed_form (Node guid) = DisputedNode
disputed_form (PortGuid guid port) = DisputedGuid
disputed_form (Link guid port) = DisputedLink
disputed_form (Port guid port) = DisputedPort
disputed_form (Claim guid port) = DisputedClaim
disputed_form (Cap guid) = DisputedRoom

-- the form that spells a cell whose key is `key`
abbrev pub form_of : Key → Cell Value → CellForm
form_of key (Known generation value) = known_form value
form_of key (Disputed generation) = disputed_form key

-- the GUID in a value of a port's GUID or of a link; 0 for other values
abbrev pub value_guid : Value → ℕ
value_guid (Kind kind ports) = 0
value_guid (Guid guid) = guid
value_guid (Peer guid port) = guid
value_guid (Up up) = 0
value_guid (Lid lid) = 0
value_guid (Count count) = 0

-- the number of ports, the far port, the LID or the table size in a value; 0 if the value has none of these
abbrev pub value_number : Value → ℕ
value_number (Kind kind ports) = ports
value_number (Guid guid) = 0
value_number (Peer guid port) = port
value_number (Up up) = 0
value_number (Lid lid) = lid
value_number (Count count) = count

-- the GUID in the value of a cell; 0 if the value has no GUID, or if the cell is disputed
abbrev pub other_of : Cell Value → ℕ
other_of (Known generation value) = value_guid value
other_of (Disputed generation) = 0

-- the number in the value of a cell (`value_number`); 0 if the value has no number, or if the cell is disputed
abbrev pub number_of : Cell Value → ℕ
number_of (Known generation value) = value_number value
number_of (Disputed generation) = 0

-- each of `other`, `number` and `port` that `form` does not use is 0. So a key with its cell is spelled in only one way
pub record IsSpelled (form : CellForm) (guid other generation number port : ℕ) : Type 0 where
  pub other_is : other_of (cell_in form generation other number) ≡ other
  pub number_is : number_of (cell_in form generation other number) ≡ number
  pub port_is : key_port (key_in form guid port) ≡ port

-- the key that a form, `guid` and `port` spell has the GUID `guid`
pub same_guid : (form : CellForm) (guid port : ℕ) → key_guid (key_in form guid port) ≡ guid
same_guid SwitchNode guid port = refl
same_guid AdapterNode guid port = refl
same_guid RouterNode guid port = refl
same_guid GuidOfPort guid port = refl
same_guid LinkEnd guid port = refl
same_guid UpPort guid port = refl
same_guid DownPort guid port = refl
same_guid ClaimedLid guid port = refl
same_guid RoomOfTable guid port = refl
same_guid DisputedNode guid port = refl
same_guid DisputedGuid guid port = refl
same_guid DisputedLink guid port = refl
same_guid DisputedPort guid port = refl
same_guid DisputedClaim guid port = refl
same_guid DisputedRoom guid port = refl

-- the cell that a form, `generation`, `other` and `number` spell has the generation `generation`
pub same_generation : (form : CellForm) (generation other number : ℕ)
    → generation_of (cell_in form generation other number) ≡ generation
same_generation SwitchNode generation other number = refl
same_generation AdapterNode generation other number = refl
same_generation RouterNode generation other number = refl
same_generation GuidOfPort generation other number = refl
same_generation LinkEnd generation other number = refl
same_generation UpPort generation other number = refl
same_generation DownPort generation other number = refl
same_generation ClaimedLid generation other number = refl
same_generation RoomOfTable generation other number = refl
same_generation DisputedNode generation other number = refl
same_generation DisputedGuid generation other number = refl
same_generation DisputedLink generation other number = refl
same_generation DisputedPort generation other number = refl
same_generation DisputedClaim generation other number = refl
same_generation DisputedRoom generation other number = refl

-- the form of the key and the cell that `form` spells is `form`
pub same_form : (form : CellForm) (guid generation other number port : ℕ)
    → form_of (key_in form guid port) (cell_in form generation other number) ≡ form
same_form SwitchNode guid generation other number port = refl
same_form AdapterNode guid generation other number port = refl
same_form RouterNode guid generation other number port = refl
same_form GuidOfPort guid generation other number port = refl
same_form LinkEnd guid generation other number port = refl
same_form UpPort guid generation other number port = refl
same_form DownPort guid generation other number port = refl
same_form ClaimedLid guid generation other number port = refl
same_form RoomOfTable guid generation other number port = refl
same_form DisputedNode guid generation other number port = refl
same_form DisputedGuid guid generation other number port = refl
same_form DisputedLink guid generation other number port = refl
same_form DisputedPort guid generation other number port = refl
same_form DisputedClaim guid generation other number port = refl
same_form DisputedRoom guid generation other number port = refl
