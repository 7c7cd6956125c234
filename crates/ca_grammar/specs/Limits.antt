-- The limits of a program: how many things of each kind it has at most, and how deep and how long they are.
use Rattle.std.specs.Prelude.{ℕ, Bool, true, ◌||◌, ◌==◌, List, length, Option, Some, None, nat_le, nat_lt, if◌then◌else◌}
use Rattle.ca_tree.specs.declared.token.Token.{Token}
use Rattle.ca_tree.specs.declared.counted.Counted.{Counted}
use Rattle.ca_tree.specs.declared.counted.Counted.TheVariants as counted
use Rattle.ca_tree.specs.Counts.{most}

-- what may be broken: a limit of what is counted at a token, the depth of an expression, or the rule that a struct as a
-- result has a star
pub data Rule : Type 0 where
  Limit : (of : Counted) → Rule
  Depth : Rule
  Star : Rule

-- the greatest number that is allowed, where there is one
abbrev pub Limits : Type 0
Limits = Rule → Option ℕ

-- a program of the grammar keeps the rule of stars alone
abbrev pub no_limits : Limits
no_limits (Limit of) = None
no_limits Depth = None
no_limits Star = Some 0

abbrev pub the_limits : Limits
the_limits (Limit of) = Some (most of)
the_limits Depth = Some 64
the_limits Star = Some 0

abbrev pub no_rules : Limits
no_rules r = None

-- the order in which rules that are broken at one token are answered
abbrev pub order : Rule → ℕ
order (Limit counted.Items) = 0
order (Limit counted.Functions) = 1
order (Limit counted.Globals) = 2
order (Limit counted.Mutexes) = 3
order (Limit counted.Structs) = 4
order (Limit counted.Fields) = 5
order (Limit counted.Parameters) = 6
order (Limit counted.Arguments) = 7
order (Limit counted.Nesting) = 8
order Depth = 9
order (Limit counted.StringBytes) = 10
order (Limit counted.NameBytes) = 11
order Star = 12

-- one rule alone
abbrev pub only : Rule → Limits
only r s = if order s == order r then the_limits s else None

abbrev pub within : Option ℕ → ℕ → Bool
within None n = true
within (Some most) n = nat_le n most

-- whether the number n may be counted for a rule at the first of some tokens
abbrev pub Allowed : Type 0
Allowed = Rule → ℕ → List Token → Bool

-- the limits are kept: those of depth and of stars everywhere, and those of what is counted down to the tokens of which fewer than k are left
abbrev pub kept : Limits → ℕ → Allowed
kept limits k Depth n ts = within (limits Depth) n
kept limits k Star n ts = within (limits Star) n
kept limits k r n ts = nat_lt (length ts) k || within (limits r) n

-- a rule that is kept everywhere, and the number that a step has for it
abbrev pub Firm : Type 0
Firm = Rule × ℕ
