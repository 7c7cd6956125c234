-- What a call that reads answers.
use Rattle.std.specs.Prelude.{◌≡◌, ◌<◌, ◌≤◌, ◌++◌, List, length, Some}
use Rattle.ca_tree.specs.declared.token.Token.{Token}
use Rattle.ca_grammar.specs.declared.faults.ReadFault.{ReadFault}
use Rattle.ca_grammar.specs.declared.faults.ReadKind.TheVariants.{Grammar, TooMany}
use Rattle.ca_grammar.specs.Limits.{Rule, Star}
use Rattle.ca_grammar.specs.Faults.{first, latest, is_name, kind_at, kind_of, place_of}
use Rattle.ca_expressions.specs.declared.stop.Stop.{Stop}
use Rattle.ca_expressions.specs.declared.stop.Stop.TheVariants.{At, Over, Starless}
use Rattle.ca_expressions.specs.declared.stop.Stop.TheVariants as stop
use Rattle.ca_read.specs.declared.reading.ReadNo.{ReadNo}
use Rattle.ca_read.specs.declared.reading.ReadNo.TheVariants as no

abbrev pub IfFault : ReadNo → (ReadFault → Type 0) → Type 0
IfFault (no.Fault f) P = P f
IfFault no.NoMemory P = Unit {0}

-- some tokens are left where a reader stops
abbrev pub IsLeft : List Token → Stop → Type 0
IsLeft ts (At us) = (0 < length us.now) × (length us.now ≤ length ts)
IsLeft ts (Over c us) = (0 < length us.now) × (length us.now ≤ length ts)
IsLeft ts (Starless us) = (0 < length us.now) × (length us.now ≤ length ts)
IsLeft ts stop.NoMemory = Unit {0}

-- the fault of a rule that is broken at the tokens that are left
abbrev pub IsFaultOf : Rule → List Token → List Token → ReadFault → Type 0
IsFaultOf r ts us f = (front : List Token) → ts ≡ front ++ us → (place : Token) × (place_of r front us ≡ Some place) × (f.pos ≡ place.pos)

-- the refusal for a stop
abbrev pub IsRefusal : List Token → Stop → ReadNo → Type 0
IsRefusal ts (At us) (no.Fault f) = (front : List Token) (next : Token) → ts ≡ front ++ us.now → first us.now ≡ Some next → (f.pos ≡ next.pos) × (f.kind ≡ kind_at (is_name (latest front)) next.word)
IsRefusal ts (Over c us) (no.Fault f) = ((r : Rule) → kind_of r ≡ TooMany c → IsFaultOf r ts us.now f) × (f.kind ≡ TooMany c)
IsRefusal ts (Starless us) (no.Fault f) = IsFaultOf Star ts us.now f × (f.kind ≡ Grammar)
IsRefusal ts stop.NoMemory no.NoMemory = Unit {0}
IsRefusal ts s n = ⊥
