-- The line that a refused call prints.
use Rattle.std.specs.Prelude.{ℕ, List, ◌++◌, codes}
use Rattle.sm_manager.specs.Fault.{manager_fault_name}
use Rattle.sm_manager.specs.declared.fault.ManagerFault.{ManagerFault}

-- the line of a refusal for the fault with the name `name`
abbrev pub refusal_line : List ℕ → List ℕ
refusal_line name = codes "refused " ++ name ++ codes "\n"

-- the line of a manager's refusal
abbrev pub manager_line : ManagerFault → List ℕ
manager_line fault = refusal_line (manager_fault_name fault)
