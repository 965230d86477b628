-- How a manager deals with other managers: plainly, or as on a live subnet with managers such as OpenSM.
-- InfiniBand Architecture Specification, Volume 1: subnet management, SMInfo (SM_Key, controls).
use Rattle.std.specs.Prelude.{ℕ, Bool, true, false, ◌==◌, ◌||◌, Option, Some, None}
use Rattle.attr_codec.specs.declared.sm_info.SmInfo.{SmInfo}
use Rattle.sm_state.specs.declared.conduct.Conduct.{Conduct}
use Rattle.sm_state.specs.declared.conduct.Conduct.TheVariants.{Plain, Live}

-- the live conduct with an SM_Key; the plain conduct if there is no key
abbrev pub conduct_with : Option ℕ → Conduct
conduct_with None = Plain
conduct_with (Some key) = Live key

-- the SM_Key that a manager of this conduct reports; 0 under the plain conduct
abbrev pub key_of : Conduct → ℕ
key_of Plain = 0
key_of (Live key) = key

-- whether the conduct is the live one
abbrev pub is_live : Conduct → Bool
is_live Plain = false
is_live (Live key) = true

-- whether the manager `own` hears the manager `other`: the SM_Key of `own` is 0, or equal to that of `other`
abbrev pub is_heard : SmInfo → SmInfo → Bool
is_heard own other = own.sm_key == 0 || other.sm_key == own.sm_key
