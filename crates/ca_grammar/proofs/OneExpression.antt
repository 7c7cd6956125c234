-- Tokens spell at most one expression, and at most one program.
use Rattle.std.proofs.Common.{◌≡◌, Bool, true, false, ◌||◌, nat_lt, List, [], length, refl}
use Rattle.ca_tree.specs.declared.token.Token.{Token}
use Rattle.ca_tree.specs.declared.tree.Program.{Program}
use Rattle.ca_grammar.specs.declared.operand.Operand.{Operand}
use Rattle.ca_grammar.specs.Limits.{Limit, Depth, Star, no_rules, Allowed, kept}
use Rattle.ca_grammar.specs.Declarations.{IsProgram}
use Rattle.ca_grammar.specs.Texts.{IsExpression}
use Rattle.ca_grammar.specs.Laws.{AllowsMore, OneExpression}
use Rattle.ca_grammar.specs.Goals.{Goal, Tree}
use Rattle.ca_grammar.proofs.OneOutcome.{yes_is, same_outcome}
use Rattle.ca_grammar.proofs.Took.{Back}
use Rattle.ca_grammar.proofs.Open.{Samples}
use Rattle.ca_grammar.proofs.Exact.{IsWholeText, ReadsWhole, ReadsProgram, expressions, programs, spelled_is_read}
use Rattle.ca_grammar.proofs.Spreading.{spreads, declaration_spreads}

or_true : (b : Bool) → (b || true) ≡ true
or_true true = refl
or_true false = refl

all_allowed : (allowed : Allowed) → AllowsMore allowed (kept no_rules 0)
all_allowed allowed (Limit of) n ts h = or_true (nat_lt (length ts) 0)
all_allowed allowed Depth n ts h = refl
all_allowed allowed Star n ts h = refl

module _ (back : Back) (sample : Samples) where
  -- where all is allowed, what is spelled is read, and so it is one
  one_text : {g : Goal} {text : Allowed → Tree g → List Token → Type 0} → IsWholeText g text → (ts : List Token) (a b : Tree g) → text (kept no_rules 0) a ts → text (kept no_rules 0) b ts → a ≡ b
  one_text w ts a b s t = (yes_is a b [] [] (same_outcome (spelled_is_read back sample w no_rules a ts s) (spelled_is_read back sample w no_rules b ts t) refl)).0

  freed : (allowed : Allowed) (a : Operand) (ts : List Token) → IsExpression allowed a ts → IsExpression (kept no_rules 0) a ts
  freed allowed a ts s = record { us = s.us; p = s.p; spells = spreads (all_allowed allowed) s.spells; end = s.end }

  pub one_expression : ReadsWhole → OneExpression
  one_expression reads_whole allowed ts a b s t = one_text (expressions reads_whole) ts a b (freed allowed a ts s) (freed allowed b ts t)

  pub one_program : ReadsProgram → (allowed : Allowed) (ts : List Token) (a b : Program) → IsProgram allowed a ts → IsProgram allowed b ts → a ≡ b
  one_program reads_program allowed ts a b s t =
      one_text (programs reads_program) ts a b (s.0, declaration_spreads (all_allowed allowed) s.1) (t.0, declaration_spreads (all_allowed allowed) t.1)
