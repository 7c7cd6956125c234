-- How the faults of a text are told: `:<line>:<column>: <words>`, the words as the kinds are named.
use Rattle.std.specs.Prelude.{ℕ, List, ◌++◌, codes}
use Rattle.std.specs.Fmt.{decimal}
use Rattle.ca_tree.specs.declared.text.Pos.{Pos}
use Rattle.ca_tree.specs.declared.token.LexKind.{LexKind}
use Rattle.ca_tree.specs.declared.token.LexKind.TheVariants as lex
use Rattle.ca_tree.specs.declared.counted.Counted.{Counted}
use Rattle.ca_tree.specs.declared.counted.Counted.TheVariants as counted
use Rattle.ca_grammar.specs.declared.faults.LeftOut.{LeftOut}
use Rattle.ca_grammar.specs.declared.faults.LeftOut.TheVariants as left_out
use Rattle.ca_grammar.specs.declared.faults.ReadKind.{ReadKind}
use Rattle.ca_grammar.specs.declared.faults.ReadKind.TheVariants as read
use Rattle.ca_model.specs.declared.types.TypeKind.{TypeKind}
use Rattle.ca_model.specs.declared.types.TypeKind.TheVariants as typed

abbrev pub lex_words : LexKind → List ℕ
lex_words lex.TooLong = codes "TooLong"
lex_words lex.NotUtf8 = codes "NotUtf8"
lex_words lex.BadChar = codes "BadChar"
lex_words lex.OpenComment = codes "OpenComment"
lex_words lex.OpenString = codes "OpenString"
lex_words lex.NumberForm = codes "NumberForm"
lex_words lex.NumberTooLarge = codes "NumberTooLarge"

abbrev pub left_out_words : LeftOut → List ℕ
left_out_words left_out.Preprocessor = codes "LeftOut Preprocessor"
left_out_words left_out.Keyword = codes "LeftOut Keyword"
left_out_words left_out.InnerCall = codes "LeftOut InnerCall"
left_out_words left_out.Operator = codes "LeftOut Operator"

abbrev pub too_many_words : Counted → List ℕ
too_many_words counted.Items = codes "TooMany Items"
too_many_words counted.Functions = codes "TooMany Functions"
too_many_words counted.Globals = codes "TooMany Globals"
too_many_words counted.Mutexes = codes "TooMany Mutexes"
too_many_words counted.Structs = codes "TooMany Structs"
too_many_words counted.Fields = codes "TooMany Fields"
too_many_words counted.Parameters = codes "TooMany Parameters"
too_many_words counted.Arguments = codes "TooMany Arguments"
too_many_words counted.Nesting = codes "TooMany Nesting"
too_many_words counted.StringBytes = codes "TooMany StringBytes"
too_many_words counted.NameBytes = codes "TooMany NameBytes"

abbrev pub read_words : ReadKind → List ℕ
read_words read.Grammar = codes "Grammar"
read_words (read.LeftOut part) = left_out_words part
read_words (read.TooMany of) = too_many_words of

abbrev pub type_words : TypeKind → List ℕ
type_words typed.Unknown = codes "Unknown"
type_words typed.Twice = codes "Twice"
type_words typed.ThreadForm = codes "ThreadForm"
type_words typed.NotLvalue = codes "NotLvalue"
type_words typed.Directive = codes "Directive"
type_words typed.Mismatch = codes "Mismatch"
type_words typed.TooManyLocals = codes "TooManyLocals"
type_words typed.TooManyCells = codes "TooManyCells"
type_words typed.NoMain = codes "NoMain"

abbrev pub fault_at : Pos → List ℕ → List ℕ
fault_at p words = codes ":" ++ (decimal p.line ++ (codes ":" ++ (decimal p.column ++ (codes ": " ++ words))))
