-- What the reading of a whole text comes to is what the call answers, be the text an expression or a program.
use Rattle.std.proofs.Common.{◌≡◌, ◌⊎◌, inl, inr, ◌<◌, ◌≤◌, List, [], ◌∷◌, length, Option, Some, refl, sym, ap, ◌∙◌, arith, length-append}
use Rattle.ca_tree.specs.declared.token.Token.{Token}
use Rattle.ca_grammar.specs.declared.faults.ReadFault.{ReadFault}
use Rattle.ca_grammar.specs.Limits.{Rule, Allowed, the_limits}
use Rattle.ca_grammar.specs.Texts.{EndsOnce}
use Rattle.ca_grammar.specs.Faults.{first, IsFault}
use Rattle.ca_grammar.specs.Laws.{all_kept, Spreads}
use Rattle.ca_grammar.specs.Goals.{Goal, Tree}
use Rattle.ca_grammar.specs.Reads.{plan, No, Reads}
use Rattle.ca_grammar.proofs.AllGoals.{back, sample}
use Rattle.ca_grammar.proofs.LocalReading.{local}
use Rattle.ca_grammar.proofs.Exact.{IsWholeText, SomeText, fault_unknown, fault_broken, fault_has_next}
use Rattle.ca_grammar.proofs.OneFault.{no_fault, one_fault}
use Rattle.ca_expressions.specs.declared.stop.Stop.{Stop}
use Rattle.ca_expressions.specs.declared.stop.Stop.TheVariants.{At, Over, Starless}
use Rattle.ca_expressions.specs.declared.stop.Stop.TheVariants as stop
use Rattle.ca_read.specs.declared.reading.ReadNo.{ReadNo}
use Rattle.ca_read.specs.declared.reading.ReadNo.TheVariants as no
use Rattle.ca_expressions.specs.Reading.{Stops}
use Rattle.ca_read.specs.Outcomes.{IfFault, IsLeft, IsRefusal}

some_left : (us : List Token) (next : Token) → first us ≡ Some next → 0 < length us
some_left [] next h = absurd cc
some_left (u ∷ us) next h = omega arith

module _ {g : Goal} {text : Allowed → Tree g → List Token → Type 0} (w : IsWholeText g text) where
  left_of : {r : Option Rule} {ts us : List Token} → Reads the_limits g (plan g) ts (No r us) → EndsOnce ts → (0 < length us) × (length us ≤ length ts)
  left_of {us = us} d e =
      let l = local d in
      let next = fault_has_next back sample w d e in
      (some_left us next.0 next.1, omega (arith, ap length l.parts, length-append l.front us))

  pub is_left : (ts : List Token) (s : Stop) → Stops g ts s → EndsOnce ts → IsLeft ts s
  is_left ts (At us) d e = left_of d e
  is_left ts (Over c us) d e = left_of d.1 e
  is_left ts (Starless us) d e = left_of d e
  is_left ts stop.NoMemory d e = tt

  pub refused : (ts : List Token) (s : Stop) (n : ReadNo) → Stops g ts s → EndsOnce ts → IsRefusal ts s n → IfFault n (λ f. IsFault (SomeText g text) ts f)
  refused ts (At us) (no.Fault f) d e h =
      let l = local d in
      let next = fault_has_next back sample w d e in
      let i = h l.front next.0 l.parts next.1 in
      fault_unknown back sample w l.front next.0 d l.parts next.1 i.0 i.1
  refused ts (Over c us) (no.Fault f) d e h =
      let l = local d.1 in
      let i = h.0 d.0 d.2 l.front l.parts in
      fault_broken back sample w l.front i.0 d.1 l.parts i.1 i.2 (h.1 ∙ sym d.2)
  refused ts (Starless us) (no.Fault f) d e h =
      let l = local d in
      let i = h.0 l.front l.parts in
      fault_broken back sample w l.front i.0 d l.parts i.1 i.2 h.1
  refused ts stop.NoMemory no.NoMemory d e h = tt
  refused ts (At us) no.NoMemory d e h = tt
  refused ts (Over c us) no.NoMemory d e h = tt
  refused ts (Starless us) no.NoMemory d e h = tt
  refused ts stop.NoMemory (no.Fault f) d e h = absurd h

-- tokens with a fault are no text, and have no other
module _ (texts : Allowed → List Token → Type 0) (spreads : Spreads texts) where
  pub no_text : (ts : List Token) (n : ReadNo) → IfFault n (λ f. IsFault texts ts f) → texts all_kept ts → n ≡ no.NoMemory
  no_text ts (no.Fault f) h t = absurd (no_fault texts spreads ts f t h)
  no_text ts no.NoMemory h t = refl

  pub same_fault : (ts : List Token) (n : ReadNo) → IfFault n (λ f. IsFault texts ts f) → (f : ReadFault) → IsFault texts ts f → (n ≡ no.Fault f) ⊎ (n ≡ no.NoMemory)
  same_fault ts (no.Fault f) h g i = inl (ap (λ x. no.Fault x) (one_fault texts spreads ts f g h i))
  same_fault ts no.NoMemory h g i = inr refl
