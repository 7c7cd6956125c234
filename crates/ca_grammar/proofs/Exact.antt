-- What the reading of a whole text comes to is right, be the text an expression or a program.
use Rattle.std.proofs.Common.{◌≡◌, inl, inr, ℕ, ◌+◌, true, List, [], ◌∷◌, ◌++◌, length, Option, Some, None, refl, sym, ap, subst, ◌∙◌, append-nil, arith}
use Rattle.std.proofs.lemmas.List.{append_cancel_right}
use Rattle.ca_tree.specs.declared.token.Token.{Token}
use Rattle.ca_tree.specs.declared.tree.Program.{Program}
use Rattle.ca_tree.specs.Counts.{Totals, nothing_yet}
use Rattle.ca_grammar.specs.declared.faults.Count.{Count}
use Rattle.ca_grammar.specs.declared.faults.ReadFault.{ReadFault}
use Rattle.ca_grammar.specs.declared.operand.Operand.{Operand}
use Rattle.ca_grammar.specs.Words.{Class, The_end}
use Rattle.ca_grammar.specs.Limits.{Rule, Depth, Limits, no_rules, only, the_limits, within, Allowed, kept, Firm}
use Rattle.ca_grammar.specs.Declarations.{IsProgram}
use Rattle.ca_grammar.specs.Declarations as declaration
use Rattle.ca_grammar.specs.Texts.{SpellsWhole, IsExpression, EndsOnce}
use Rattle.ca_grammar.specs.Faults.{first, latest, is_name, kind_at, kind_of, place_of, Begins, GoesOn, IsFault}
use Rattle.ca_grammar.specs.Laws.{all_kept}
use Rattle.ca_grammar.specs.Goals.{Goal, Whole, A_program, Tree}
use Rattle.ca_grammar.specs.Reads.{plan, Outcome, Yes, No, Reads}
use Rattle.ca_grammar.proofs.Loose.{Roomy, Spelled, Through}
use Rattle.ca_grammar.proofs.LocalReading.{local}
use Rattle.ca_grammar.proofs.OneOutcome.{yes_no, same_outcome, rest}
use Rattle.ca_grammar.proofs.Took.{Back, took}
use Rattle.ca_grammar.proofs.WeakerLimits.{Weaker, weaker_none, weaker_only, weaker_misses, weaker_breaks}
use Rattle.ca_grammar.proofs.Steps.{IsWord, Tidy, Steps, steps_whole, steps_program}
use Rattle.ca_grammar.proofs.Open.{Samples, opens}
use Rattle.ca_grammar.proofs.Through.{Spares, opens_through}
use Rattle.ca_grammar.proofs.Broken.{spares_none, spares_only, only_itself}
use Rattle.ca_grammar.proofs.Ending.{AtEnd, whole_ends, program_ends}

-- a goal whose tokens are whole texts, with the end behind them
pub record IsWholeText (g : Goal) (text : Allowed → Tree g → List Token → Type 0) : Type 1 where
  pub roomy : (limits : Limits) → within (limits Depth) 1 ≡ true → Roomy limits g
  pub spelled : (limits : Limits) (k : ℕ) (a : Tree g) (ts : List Token) → Spelled limits k g a ts [] → text (kept limits k) a ts
  pub reads : (limits : Limits) (k : ℕ) (a : Tree g) (ts : List Token) → text (kept limits k) a ts → Through limits k g (plan g) a ts []
  pub stepped : (S : Class → List Count → Option Firm → Type 0) → ((c : Class) (cs : List Count) (firm : Option Firm) → IsWord c → Tidy firm cs → S c cs firm) → S The_end [] None → Steps S (plan g)
  pub ends : (limits : Limits) (ts : List Token) (o : Outcome g) → Reads limits g (plan g) ts o → EndsOnce ts → AtEnd o

-- what is spelled as an expression, or as a program, is read
abbrev pub ReadsWhole : Type 0
ReadsWhole = (limits : Limits) (k : ℕ) (a : Operand) (ts vs : List Token) → SpellsWhole (kept limits k) a ts vs → Through limits k Whole (plan Whole) a ts vs

abbrev pub ReadsProgram : Type 0
ReadsProgram = (limits : Limits) (k : ℕ) (a : Program) (m : Totals) (ts us : List Token) → declaration.Spells (kept limits k) declaration.A_program nothing_yet a ts m us
    → Through limits k A_program (plan A_program) a ts us

pub expressions : ReadsWhole → IsWholeText Whole IsExpression
expressions reads_whole = record {
  roomy = λ limits h. h;
  spelled = λ limits k a ts s. s;
  reads = λ limits k a ts s. reads_whole limits k a ts [] s;
  stepped = steps_whole;
  ends = λ limits ts o d e. whole_ends d e;
}

pub programs : ReadsProgram → IsWholeText A_program IsProgram
programs reads_program = record {
  roomy = λ limits h. h;
  spelled = λ limits k a ts s. s;
  reads = λ limits k a ts s. reads_program limits k a s.0 ts [] s.1;
  stepped = steps_program;
  ends = λ limits ts o d e. program_ends d e;
}

-- some text is spelled by these tokens
abbrev pub SomeText : (g : Goal) → (Allowed → Tree g → List Token → Type 0) → Allowed → List Token → Type 0
SomeText g text allowed ts = (a : Tree g) × text allowed a ts

module _ (back : Back) (sample : Samples) {g : Goal} {text : Allowed → Tree g → List Token → Type 0} (w : IsWholeText g text) where
  -- ---- a text is read as it is, and nothing else is

  pub read_spells : {a : Tree g} {ts us : List Token} → Reads the_limits g (plan g) ts (Yes a us) → EndsOnce ts → text all_kept a ts
  read_spells {a} {ts} {us} d e =
      let l = took back d in
      let s : Spelled the_limits 0 g a ts us = subst (λ v. Spelled the_limits 0 g a v us) (sym l.parts) (back the_limits 0 g a (l.front ++ us) us (w.roomy the_limits refl) (l.loose 0 us)) in
      w.spelled the_limits 0 a ts (subst (λ v. Spelled the_limits 0 g a ts v) (w.ends the_limits ts (Yes a us) d e) s)

  -- what is spelled under limits is read under them, where they are kept everywhere
  pub spelled_is_read : (limits : Limits) (a : Tree g) (ts : List Token) → text (kept limits 0) a ts → Reads limits g (plan g) ts (Yes a [])
  spelled_is_read limits a ts s =
      elim (w.reads limits 0 a ts s) [
        | inl d ↦ d
        | inr b ↦ absurd (omega (arith, b.3))
      ]

  -- ---- a fault

  -- a text under limits that goes on behind a fault of theirs with the next token, and keeps them through it, isn't there
  none_goes_on : (limits : Limits) {r : Option Rule} (front : List Token) {ts us : List Token} → Reads limits g (plan g) ts (No r us) → ts ≡ front ++ us → GoesOn (SomeText g text) limits front us → ⊥
  none_goes_on limits {r} front {ts} {us} d parts o =
      let l = local d in
      let same : l.front ≡ front = append_cancel_right l.front front us (sym l.parts ∙ parts) in
      let more = o.0 in
      let stopped : Reads limits g (plan g) (front ++ more) (No r more) = subst (λ v. Reads limits g (plan g) (v ++ more) (No r more)) same (l.same more o.1) in
      elim (w.reads limits (length more) o.2.0 (front ++ more) o.2.1) [
        | inl y ↦ yes_no o.2.0 r [] more (same_outcome y stopped refl)
        | inr b ↦ absurd (omega (arith, b.3, ap (λ x. length (rest x)) (same_outcome b.2 stopped refl)))
      ]

  abbrev Anything : Class → List Count → Option Firm → Type 0
  Anything c cs firm = Unit {0}

  -- what stands before a fault begins a text within the limits
  begins : {r : Option Rule} (front : List Token) {ts us : List Token} → Reads the_limits g (plan g) ts (No r us) → ts ≡ front ++ us → Begins (SomeText g text) the_limits front
  begins {r} front {ts} {us} d parts =
      let each : (c : Class) (cs : List Count) (firm : Option Firm) → IsWord c → Tidy firm cs → Anything c cs firm = λ c cs firm i h. tt in
      let o = opens back sample Anything each d (w.stepped Anything each tt) in
      let same : o.front ≡ front = append_cancel_right o.front front us (sym o.parts ∙ parts) in
      let k = length o.more + 1 in
      let s : text (kept the_limits k) o.tree (o.front ++ (o.more ++ [])) =
      w.spelled the_limits k o.tree (o.front ++ (o.more ++ []))
      (back the_limits k g o.tree (o.front ++ (o.more ++ [])) [] (w.roomy the_limits refl) (o.loose k [] (omega (arith, ap length (append-nil o.more))))) in
      (o.more, (o.tree, subst (λ v. text (kept the_limits k) o.tree v) (ap (λ v. o.front ++ v) (append-nil o.more) ∙ ap (λ v. v ++ o.more) same) s))

  -- and goes on through the token of the fault under limits that it doesn't break
  goes_through : (weak : Limits) {r : Rule} (front : List Token) {ts us : List Token} → Weaker the_limits weak
      → ((c : Class) (cs : List Count) (firm : Option Firm) → IsWord c → Tidy firm cs → Spares the_limits weak r c cs firm) → Reads the_limits g (plan g) ts (No (Some r) us) → ts ≡ front ++ us
      → GoesOn (SomeText g text) weak front us
  goes_through weak {r} front {ts} {us} i each d parts =
      let o = opens_through back sample the_limits weak r each i d (w.stepped (Spares the_limits weak r) each (λ e. absurd cc)) in
      let same : o.front ≡ front = append_cancel_right o.front front us (sym o.parts ∙ parts) in
      let more = o.more ++ [] in
      let k = length more in
      let s : text (kept weak k) o.tree (o.front ++ more) =
      w.spelled weak k o.tree (o.front ++ more) (back weak k g o.tree (o.front ++ more) [] (w.roomy weak (i Depth 1 refl)) (o.loose k [] (omega arith))) in
      (more, o.next [], (o.tree, subst (λ v. text (kept weak k) o.tree (v ++ more)) same s))

  pub fault_unknown : (front : List Token) {ts us : List Token} {f : ReadFault} (next : Token) → Reads the_limits g (plan g) ts (No None us) → ts ≡ front ++ us → first us ≡ Some next → f.pos ≡ next.pos
      → f.kind ≡ kind_at (is_name (latest front)) next.word → IsFault (SomeText g text) ts f
  fault_unknown front {ts} {us} next d parts at p k = record {
    front = front;
    rest = us;
    parts = parts;
    before = begins front d parts;
    cause = inl (record { unknown = none_goes_on no_rules front (weaker_misses (weaker_none the_limits) d) parts; next = next; at = at; pos = p; kind = k });
  }

  pub fault_broken : {r : Rule} (front : List Token) {ts us : List Token} {f : ReadFault} (place : Token) → Reads the_limits g (plan g) ts (No (Some r) us) → ts ≡ front ++ us
      → place_of r front us ≡ Some place → f.pos ≡ place.pos → f.kind ≡ kind_of r → IsFault (SomeText g text) ts f
  fault_broken {r} front {ts} {us} place d parts at p k = record {
    front = front;
    rest = us;
    parts = parts;
    before = begins front d parts;
    cause = inr (record {
      known = goes_through no_rules front (weaker_none the_limits) (λ c cs firm i h. spares_none the_limits r c cs firm) d parts;
      rule = r;
      broken = none_goes_on (only r) front (weaker_breaks (weaker_only r) (only_itself r) d) parts;
      earlier = λ s lower. goes_through (only s) front (weaker_only s) (λ c cs firm i h. spares_only s r lower c cs firm h) d parts;
      place = place;
      at = at;
      pos = p;
      kind = k;
    });
  }

  -- a fault has a next token
  pub fault_has_next : {r : Option Rule} {ts us : List Token} → Reads the_limits g (plan g) ts (No r us) → EndsOnce ts → (next : Token) × (first us ≡ Some next)
  fault_has_next {r} {ts} {us} d e = some us (w.ends the_limits ts (No r us) d e)
    where
      some : (us : List Token) → EndsOnce us → (next : Token) × (first us ≡ Some next)
      some [] h = absurd h
      some (u ∷ us) h = (u, refl)
