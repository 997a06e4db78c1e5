-- The roles of the points of a body by what each of them does. Of the locals, only try variables are declared among these duties.
use Rattle.std.specs.Prelude.{ℕ, nat_eq, Bool, false, List, length, filter_map, position, Option, Some, None, slice_index_or, if◌then◌else◌}
use Rattle.std.specs.List.{position_or_len}
use Rattle.tsa_rules.specs.declared.case.Asked.{Asked}
use Rattle.tsa_rules.specs.declared.case.Asked.TheVariants as asked
use Rattle.tsa_rules.specs.declared.case.Role.{Role}
use Rattle.tsa_rules.specs.declared.case.Role.TheVariants as role
use Rattle.tsa_rules_roles.specs.declared.duty.Duty.{Duty}
use Rattle.tsa_rules_roles.specs.declared.duty.Duty.TheVariants as duty
use Rattle.tsa_rules_roles.specs.declared.answers.Looked.{Looked}
use Rattle.tsa_rules_roles.specs.declared.answers.Looked.TheVariants as looked

-- a local that begins with anything else than what a try gives is nothing to the rules
abbrev pub duty_with : Duty → (is_try : Bool) → Duty
duty_with (duty.Declares n) is_try = if is_try then duty.Declares n else duty.Passes
duty_with d is_try = d

-- the try variable that a point begins
abbrev pub local_in : Duty → Option ℕ
local_in (duty.Declares n) = Some n
local_in _ = None

-- Try variables are numbered from 0 in order of their declarations. A local that is none of them has the number behind all of theirs.
abbrev pub variables_in : List Duty → List ℕ
variables_in duties = filter_map local_in duties

abbrev pub tries_in : List Duty → ℕ
tries_in duties = length (variables_in duties)

abbrev pub number_in : List Duty → (local : ℕ) → ℕ
number_in duties local = position_or_len (nat_eq local) (variables_in duties)

-- the role of a point; one that isn't there passes
abbrev pub asked_in : List Duty → Looked → Asked
asked_in duties looked.Call = asked.Call
asked_in duties (looked.Local n) = asked.Variable (number_in duties n)

abbrev pub role_for : List Duty → Duty → Role
role_for duties (duty.Declares n) = role.Declares (number_in duties n)
role_for duties (duty.Tests t) = role.Tests (record { asked = asked_in duties t.asked; yes_means = t.yes_means })
role_for duties (duty.Leaves answer) = role.Leaves answer
role_for duties duty.Passes = role.Passes

abbrev pub duty_in : List Duty → (point : ℕ) → Duty
duty_in duties p = slice_index_or duties p duty.Passes

abbrev pub role_in : List Duty → (point : ℕ) → Role
role_in duties p = role_for duties (duty_in duties p)

-- the point at which a try variable begins, and of a point that tests one, where that begins
abbrev pub begins : (local : ℕ) → Duty → Bool
begins local (duty.Declares n) = nat_eq n local
begins local _ = false

abbrev pub declared_in : List Duty → (local : ℕ) → Option ℕ
declared_in duties local = position (begins local) duties

abbrev pub begin_of : List Duty → Looked → Option ℕ
begin_of duties looked.Call = None
begin_of duties (looked.Local n) = declared_in duties n

abbrev pub begin_for : List Duty → Duty → Option ℕ
begin_for duties (duty.Tests t) = begin_of duties t.asked
begin_for duties _ = None

abbrev pub begin_in : List Duty → (point : ℕ) → Option ℕ
begin_in duties p = begin_for duties (duty_in duties p)
