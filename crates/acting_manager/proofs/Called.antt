-- A call that the manager refuses leaves it as it was.
use Rattle.std.proofs.Common.{◌≡◌, ◌∙◌, Bool, false, Option, None, Some, Result, Ok, Err, refl, sym}
use Rattle.std.proofs.lemmas.Bool.{cond-true, cond-false}
use Rattle.std.specs.Prelude.{IfOk, OnErr, OnOk, if◌then◌else◌, is_none, is_ok}
use Rattle.sm_manager.specs.Manager.{Manager}
use Rattle.sm_manager.specs.Packets.{Called}
use Rattle.sm_manager.specs.declared.fault.ManagerFault.{ManagerFault}
use Rattle.sm_manager.proofs.Refusals.{RefusalLeaves}

-- what a call leaves that was done or refused, as far as memory did not run out
pub called_if : {T E : Type 0} (called : Result T ManagerFault) (fault : Option ManagerFault) (result : Result Bool E) (new old after : Manager)
    → OnOk called (new ≡ after) → OnErr called (new ≡ old) → IfOk result (λ done. done ≡ is_ok called) → IfOk result (λ done. done ≡ is_none fault)
    → OnOk result (new ≡ (if is_none fault then after else old))
called_if called fault (Err e) new old after ok err is judged = tt
called_if (Ok v) fault (Ok done) new old after ok err is judged = ok ∙ sym (cond-true (is_none fault) after old (sym judged ∙ is))
called_if (Err why) fault (Ok done) new old after ok err is judged = err ∙ sym (cond-false (is_none fault) after old (sym judged ∙ is))

kept : (c : Called) (m : Manager) (fault : Option ManagerFault) → c.fault ≡ fault → RefusalLeaves m c → is_none fault ≡ false → c.manager ≡ m
kept c m None e leaves none = absurd (cc)
kept c m (Some why) e leaves none = leaves why e

-- the same for a call whose outcome is known
pub called_with : {T E : Type 0} (called : Result T ManagerFault) (c : Called) (result : Result Bool E) (new old : Manager)
    → OnOk called (new ≡ c.manager) → OnErr called (new ≡ old) → RefusalLeaves old c → IfOk result (λ done. done ≡ is_ok called)
    → IfOk result (λ done. done ≡ is_none c.fault) → OnOk result (new ≡ c.manager)
called_with called c (Err e) new old ok err leaves is judged = tt
called_with (Ok v) c (Ok done) new old ok err leaves is judged = ok
called_with (Err why) c (Ok done) new old ok err leaves is judged = err ∙ sym (kept c old c.fault refl leaves (sym judged ∙ is))
