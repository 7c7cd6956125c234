use Rattle.std.proofs.Common.{ap, inl}
use Rattle.ca_tree.specs.declared.token.LexFault.{LexFault}
use Rattle.ca_lex.specs.declared.scanner.LexNo.TheVariants.{Fault}
use Rattle.ca_lex.proofs.OneLexing.{one_list, one_first_fault, tokens_or_fault}
use Rattle.ca_lex.proofs.scanner.tokens.Goals as goal

pub returns-in-Ok-Ok-clause-found : goal.returns-in-Ok-Ok-clause-found
returns-in-Ok-Ok-clause-found c = λ ts h. one_list c.args.text.now _ ts (rw c.in-Ok-Ok.field-0-is at c.in-Ok-Ok.ensures) h

pub returns-in-Ok-Ok-clause-refused : goal.returns-in-Ok-Ok-clause-refused
returns-in-Ok-Ok-clause-refused c = λ f h. tokens_or_fault c.args.text.now _ f (rw c.in-Ok-Ok.field-0-is at c.in-Ok-Ok.ensures) h

pub returns-in-Ok-Err-clause-found : goal.returns-in-Ok-Err-clause-found
returns-in-Ok-Err-clause-found c = λ ts h. absurd (tokens_or_fault c.args.text.now ts _ h (rw c.in-Ok-Err.field-0-is at c.in-Ok-Err.ensures))

pub returns-in-Ok-Err-clause-refused : goal.returns-in-Ok-Err-clause-refused
returns-in-Ok-Err-clause-refused c = λ f h. inl (ap (λ (g : LexFault). Fault g) (one_first_fault c.args.text.now _ f (rw c.in-Ok-Err.field-0-is at c.in-Ok-Err.ensures) h))
