-- A text is one source, or has a fault; never both.
use Rattle.std.proofs.Common.{◌≡◌, ℕ, List, sym, subst, ◌∙◌}
use Rattle.ca_tree.specs.declared.token.LexFault.{LexFault}
use Rattle.ca_tree.specs.declared.tree.Program.{Program}
use Rattle.ca_tree.specs.Lexed.{HasFault}
use Rattle.ca_lex.proofs.OneLexing.{one_list, tokens_or_fault}
use Rattle.ca_grammar.specs.declared.faults.ReadFault.{ReadFault}
use Rattle.ca_grammar.specs.Declarations.{IsProgram}
use Rattle.ca_grammar.specs.Laws.{all_kept}
use Rattle.ca_grammar.specs.Texts.{AProgram}
use Rattle.ca_grammar.proofs.AllGoals.{back, sample}
use Rattle.ca_grammar.proofs.OneExpression.{one_program}
use Rattle.ca_grammar.proofs.OneFault.{no_fault}
use Rattle.ca_grammar.proofs.Spreading.{program_spreads}
use Rattle.ca_grammar.proofs.Wholes.{program_reads}
use Rattle.ca_model.specs.declared.types.TypeFault.{TypeFault}
use Rattle.ca_model.specs.typing.Sources.{Source}
use Rattle.ca_model.specs.typing.Programs.{known}
use Rattle.ca_model.specs.typing.Typing.{IsTyping}
use Rattle.ca_model.proofs.FirstFaults.{some_there}
use Rattle.ca_cmd.specs.Sources.{IsTextOf, IsSource, HasReadFault, HasTypeFault}

one_text : (bytes : List ℕ) (a b : Program) → IsTextOf a bytes → IsTextOf b bytes → a ≡ b
one_text bytes a b s t =
    let same : s.tokens ≡ t.tokens = one_list bytes s.tokens t.tokens s.lexed t.lexed in
    one_program back sample program_reads all_kept t.tokens a b (subst (IsProgram all_kept a) same s.read) t.read

sources_from : (x y : Source) → x.program ≡ y.program → x.typed ≡ y.typed → x ≡ y
sources_from x y program typed = λ i. record { program = program i; typed = typed i }

pub one_source : (bytes : List ℕ) (x y : Source) → IsSource bytes x → IsSource bytes y → x ≡ y
one_source bytes x y s t =
    let program : x.program ≡ y.program = one_text bytes x.program y.program s.text t.text in
    let typing : IsTyping y.program x.typed = subst (λ a. IsTyping a x.typed) program s.typing in
    sources_from x y program (typing.is ∙ sym t.typing.is)

pub lexes : (bytes : List ℕ) (x : Source) (f : LexFault) → IsSource bytes x → HasFault bytes f → ⊥
lexes bytes x f s fault = tokens_or_fault bytes s.text.tokens f s.text.lexed fault

pub reads : (bytes : List ℕ) (x : Source) (f : ReadFault) → IsSource bytes x → HasReadFault bytes f → ⊥
reads bytes x f s fault =
    let same : s.text.tokens ≡ fault.tokens = one_list bytes s.text.tokens fault.tokens s.text.lexed fault.lexed in
    no_fault AProgram program_spreads fault.tokens f (x.program, subst (IsProgram all_kept x.program) same s.text.read) fault.fault

pub types : (bytes : List ℕ) (x : Source) (f : TypeFault) → IsSource bytes x → HasTypeFault bytes f → ⊥
types bytes x f s fault =
    let typing : IsTyping fault.program x.typed = subst (λ a. IsTyping a x.typed) (one_text bytes x.program fault.program s.text fault.text) s.typing in
    some_there (known fault.program).faults f typing.sound fault.fault
