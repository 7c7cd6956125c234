-- The last name that a `(` follows, found from the front.
use Rattle.std.proofs.Common.{◌≡◌, Bool, true, false, List, [], ◌∷◌, Option, Some, None, if◌then◌else◌, refl, sym, ap, subst, ◌∙◌}
use Rattle.ca_tree.specs.declared.text.Pos.{Pos}
use Rattle.ca_tree.specs.declared.token.Token.{Token}
use Rattle.ca_grammar.specs.Faults.{first, is_open_paren, or_before, before_parenthesis}
use Rattle.ca_read.specs.Places.{IsPosOf}

abbrev over : Option Token → Option Token → Option Token
over (Some v) o = Some v
over None o = o

-- what is found so far is the last one, unless the rest has one
pub record FoundIn (ts rest : List Token) (found : Option Pos) : Type 0 where
  pub last : Option Token
  pub at : IsPosOf last found
  pub so_far : before_parenthesis ts ≡ over (before_parenthesis rest) last

over_none : (o : Option Token) → over o None ≡ o
over_none None = refl
over_none (Some u) = refl

pub found_first : (ts : List Token) → FoundIn ts ts None
found_first ts = record { last = None; at = refl; so_far = sym (over_none (before_parenthesis ts)) }

or_over : (more o : Option Token) (u : Token) (b : Bool) → over (elim more [ None ↦ if b then Some u else None | Some v ↦ Some v ]) o ≡ over more (if b then Some u else o)
or_over None o u true = refl
or_over None o u false = refl
or_over (Some v) o u b = refl

before_is : (more : Option Token) (u : Token) (next : Option Token) → or_before more u next ≡ elim more [ None ↦ if is_open_paren next then Some u else None | Some v ↦ Some v ]
before_is None u next = refl
before_is (Some v) u next = refl

step : (u : Token) (us : List Token) (o : Option Token) (b : Bool) → b ≡ is_open_paren (first us) → over (before_parenthesis (u ∷ us)) o ≡ over (before_parenthesis us) (if b then Some u else o)
step u us o b h =
    ap (λ x. over x o) (before_is (before_parenthesis us) u (first us))
    ∙ or_over (before_parenthesis us) o u (is_open_paren (first us))
    ∙ ap (λ c. over (before_parenthesis us) (if c then Some u else o)) (sym h)

pub found_here : {ts rest us : List Token} {found : Option Pos} (u : Token) → FoundIn ts rest found → rest ≡ u ∷ us → true ≡ is_open_paren (first us) → FoundIn ts us (Some u.pos)
found_here {us = us} u f e h = record { last = Some u; at = refl; so_far = f.so_far ∙ ap (λ w. over (before_parenthesis w) f.last) e ∙ step u us f.last true h }

pub found_before : {ts rest us : List Token} {found : Option Pos} (u : Token) → FoundIn ts rest found → rest ≡ u ∷ us → false ≡ is_open_paren (first us) → FoundIn ts us found
found_before {us = us} u f e h = record { last = f.last; at = f.at; so_far = f.so_far ∙ ap (λ w. over (before_parenthesis w) f.last) e ∙ step u us f.last false h }

pub found_all : {ts : List Token} {found : Option Pos} → FoundIn ts [] found → IsPosOf (before_parenthesis ts) found
found_all {found = found} f = subst (λ o. IsPosOf o found) (sym f.so_far) f.at
