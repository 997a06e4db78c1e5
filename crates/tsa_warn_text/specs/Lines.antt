-- What the lines of warnings say behind their places, rule by rule.
use Rattle.std.specs.Prelude.{ℕ, List, [], ◌++◌, codes}
use Rattle.tsa_rules.specs.declared.rule.Rule.{Rule}
use Rattle.tsa_rules.specs.declared.rule.Rule.TheVariants.{TS01, TS02, TS03, TS04, TS05, TS06, TS07, TS08, TS09, TS10, TS11, TS12}

abbrev pub rule_code : Rule → List ℕ
rule_code TS01 = codes "TS01"
rule_code TS02 = codes "TS02"
rule_code TS03 = codes "TS03"
rule_code TS04 = codes "TS04"
rule_code TS05 = codes "TS05"
rule_code TS06 = codes "TS06"
rule_code TS07 = codes "TS07"
rule_code TS08 = codes "TS08"
rule_code TS09 = codes "TS09"
rule_code TS10 = codes "TS10"
rule_code TS11 = codes "TS11"
rule_code TS12 = codes "TS12"

-- what is said in front of the lock `K 'P'`, and behind its path
abbrev pub before_lock : Rule → List ℕ
before_lock TS01 = codes "reading needs "
before_lock TS02 = codes "writing needs "
before_lock TS03 = codes "calling needs "
before_lock TS04 = codes "calling needs "
before_lock TS05 = codes "calling needs "
before_lock TS06 = []
before_lock TS07 = []
before_lock TS08 = []
before_lock TS09 = codes "returning with "
before_lock TS10 = codes "paths that meet here disagree on "
before_lock TS11 = codes "two names of the call are "
before_lock TS12 = codes "a name in "

abbrev pub behind_path : Rule → List ℕ
behind_path TS01 = codes "'"
behind_path TS02 = codes "' exclusively"
behind_path TS03 = codes "' exclusively"
behind_path TS04 = codes "'"
behind_path TS05 = codes "' not held"
behind_path TS06 = codes "' is acquired while held or pending"
behind_path TS07 = codes "' is released while not held"
behind_path TS08 = codes "' is released while lent or held in another mode"
behind_path TS09 = codes "' not as declared"
behind_path TS10 = codes "'"
behind_path TS11 = codes "'"
behind_path TS12 = codes "' is declared again while it is not free"

-- `TSnn in F: `
unfoldable pub head_text : Rule → (function : List ℕ) → List ℕ
head_text rule function = rule_code rule ++ codes " in " ++ function ++ codes ": "

-- what a rule says of a lock, by the texts of its kind and of its path
unfoldable pub lock_text : Rule → (kind path : List ℕ) → List ℕ
lock_text rule kind path = before_lock rule ++ kind ++ codes " '" ++ path ++ behind_path rule

unfoldable pub warning_text : Rule → (function kind path : List ℕ) → List ℕ
warning_text rule function kind path = head_text rule function ++ lock_text rule kind path
