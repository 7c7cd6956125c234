-- What is spelled is spelled too where more may be counted.
use Rattle.std.proofs.Common.{ℕ, List}
use Rattle.ca_tree.specs.declared.text.Pos.{Pos}
use Rattle.ca_tree.specs.declared.token.Token.{Token}
use Rattle.ca_tree.specs.Counts.{Totals}
use Rattle.ca_grammar.specs.declared.operand.Operand.{Operand}
use Rattle.ca_grammar.specs.Limits.{Allowed}
use Rattle.ca_grammar.specs.Expressions.{Part, Spells}
use Rattle.ca_grammar.specs.Expressions as g
use Rattle.ca_grammar.specs.Phrases.{Names, Addresses, Targets}
use Rattle.ca_grammar.specs.Phrases as phrase
use Rattle.ca_grammar.specs.Statements.{Begins, Conditions}
use Rattle.ca_grammar.specs.Statements as statement
use Rattle.ca_grammar.specs.Declarations.{IsProgram}
use Rattle.ca_grammar.specs.Declarations as declaration
use Rattle.ca_grammar.specs.Texts.{AnExpression, AProgram}
use Rattle.ca_grammar.specs.Laws.{AllowsMore, Spreads}

-- what is spelled stays so where more is allowed
pub spreads : {allowed more : Allowed} {P : Part} {a : Operand} {ts us : List Token} → AllowsMore allowed more → Spells allowed P a ts us → Spells more P a ts us
spreads h (g.a_number t) = g.a_number t
spreads h (g.a_null t) = g.a_null t
spreads h (g.a_name t w) = g.a_name t (h _ _ _ w)
spreads h (g.parentheses t s e) = g.parentheses t (spreads h s) e
spreads h (g.postfix s r) = g.postfix (spreads h s) (spreads h r)
spreads h g.no_postfix = g.no_postfix
spreads h (g.an_index t s e r) = g.an_index t (spreads h s) e (spreads h r)
spreads h (g.a_field t m w r) = g.a_field t m (h _ _ _ w) (spreads h r)
spreads h (g.an_arrow t m w r) = g.an_arrow t m (h _ _ _ w) (spreads h r)
spreads h (g.a_unary t s) = g.a_unary t (spreads h s)
spreads h (g.a_postfix s) = g.a_postfix (spreads h s)
spreads h (g.operands s r) = g.operands (spreads h s) (spreads h r)
spreads h g.no_operator = g.no_operator
spreads h (g.an_operator t s r) = g.an_operator t (spreads h s) (spreads h r)
spreads h (g.a_whole_unary s w) = g.a_whole_unary (spreads h s) (h _ _ _ w)
spreads h (g.an_expression s w) = g.an_expression (spreads h s) (h _ _ _ w)

-- a text that is an expression is one where more is allowed
pub expression_spreads : Spreads AnExpression
expression_spreads allowed more ts h s = (s.0, record { us = s.1.us; p = s.1.p; spells = spreads h s.1.spells; end = s.1.end })

-- ---- phrases

names_spread : {allowed more : Allowed} {p : Pos} {t : List ℕ} {ts us : List Token} → AllowsMore allowed more → Names allowed ts p t us → Names more ts p t us
names_spread h n = record { takes = n.takes; short = h _ _ _ n.short }

addresses_spread : {allowed more : Allowed} {p : Pos} {t : List ℕ} {ts us : List Token} → AllowsMore allowed more → Addresses allowed ts p t us → Addresses more ts p t us
addresses_spread h a = record { us = a.us; ampersand = a.ampersand; names = names_spread h a.names }

targets_spread : {allowed more : Allowed} {a : Operand} {ts us : List Token} → AllowsMore allowed more → Targets allowed a ts us → Targets more a ts us
targets_spread h t = record { unary = spreads h t.unary; no_call = t.no_call }

pub phrase_spreads : {allowed more : Allowed} {P : phrase.Part} {a : phrase.Tree P} {ts us : List Token} → AllowsMore allowed more → phrase.Spells allowed P a ts us → phrase.Spells more P a ts us
phrase_spreads h phrase.no_star = phrase.no_star
phrase_spreads h (phrase.a_star s t) = phrase.a_star s (phrase_spreads h t)
phrase_spreads h (phrase.int_base s) = phrase.int_base s
phrase_spreads h (phrase.struct_base s t) = phrase.struct_base s (names_spread h t)
phrase_spreads h (phrase.a_type s t) = phrase.a_type (phrase_spreads h s) (phrase_spreads h t)
phrase_spreads h (phrase.no_arguments s) = phrase.no_arguments s
phrase_spreads h (phrase.some_arguments s t) = phrase.some_arguments (spreads h s) (phrase_spreads h t)
phrase_spreads h (phrase.last_argument s) = phrase.last_argument s
phrase_spreads h (phrase.next_argument s t u) = phrase.next_argument s (spreads h t) (phrase_spreads h u)
phrase_spreads h (phrase.a_call s t u v) = phrase.a_call s (h _ _ _ t) u (phrase_spreads h v)
phrase_spreads h (phrase.a_value s t) = phrase.a_value s (spreads h t)
phrase_spreads h (phrase.a_called_value s) = phrase.a_called_value (phrase_spreads h s)
phrase_spreads h phrase.no_count = phrase.no_count
phrase_spreads h (phrase.a_count s t) = phrase.a_count (spreads h s) t
phrase_spreads h (phrase.a_malloc s t u v w x y) = phrase.a_malloc s (phrase_spreads h t) u v (phrase_spreads h w) x y
phrase_spreads h (phrase.plain_malloc s t) = phrase.plain_malloc s (phrase_spreads h t)
phrase_spreads h (phrase.cast_malloc s t u v w) = phrase.cast_malloc s (phrase_spreads h t) u v (phrase_spreads h w)
phrase_spreads h phrase.no_initializer = phrase.no_initializer
phrase_spreads h (phrase.an_initializer s t) = phrase.an_initializer s (phrase_spreads h t)
phrase_spreads h (phrase.a_lock s t u) = phrase.a_lock s (addresses_spread h t) u
phrase_spreads h (phrase.an_unlock s t u) = phrase.an_unlock s (addresses_spread h t) u
phrase_spreads h (phrase.a_create s t u v w x y z a) = phrase.a_create s (addresses_spread h t) u v w (names_spread h x) y (spreads h z) a
phrase_spreads h (phrase.a_join s t u v w) = phrase.a_join s (spreads h t) u v w
phrase_spreads h (phrase.a_free s t u) = phrase.a_free s (spreads h t) u
phrase_spreads h (phrase.an_assert s t u) = phrase.an_assert s (spreads h t) u
phrase_spreads h (phrase.last_print_argument s) = phrase.last_print_argument s
phrase_spreads h (phrase.next_print_argument s t u v) = phrase.next_print_argument s (h _ _ _ t) (spreads h u) (phrase_spreads h v)
phrase_spreads h (phrase.a_print s t u v) = phrase.a_print s t (h _ _ _ u) (phrase_spreads h v)
phrase_spreads h (phrase.a_set s t u) = phrase.a_set (targets_spread h s) t (phrase_spreads h u)
phrase_spreads h (phrase.an_update s t u) = phrase.an_update (targets_spread h s) t (spreads h u)
phrase_spreads h (phrase.a_step_behind s t) = phrase.a_step_behind (targets_spread h s) t
phrase_spreads h (phrase.a_step_before s t) = phrase.a_step_before s (spreads h t)
phrase_spreads h (phrase.a_called s) = phrase.a_called (phrase_spreads h s)
phrase_spreads h (phrase.a_library_called s) = phrase.a_library_called (phrase_spreads h s)
phrase_spreads h phrase.no_expression = phrase.no_expression
phrase_spreads h (phrase.some_expression s) = phrase.some_expression (spreads h s)

-- ---- statements

begins_spread : {allowed more : Allowed} {n : ℕ} {p : Pos} {ts : List Token} → AllowsMore allowed more → Begins allowed n p ts → Begins more n p ts
begins_spread h b = record { at = b.at; counted = h _ _ _ b.counted }

conditions_spread : {allowed more : Allowed} {w : List ℕ} {n : ℕ} {c : Operand} {ts us : List Token} → AllowsMore allowed more → Conditions allowed w n c ts us → Conditions more w n c ts us
conditions_spread h c = record {
  behind_word = c.behind_word;
  inside = c.inside;
  behind = c.behind;
  word = c.word;
  paren = c.paren;
  counted = h _ _ _ c.counted;
  condition = spreads h c.condition;
  close = c.close;
}

pub statement_spreads : {allowed more : Allowed} {P : statement.Part} {n m : ℕ} {a : statement.Tree P} {ts us : List Token} → AllowsMore allowed more → statement.Spells allowed P n a ts m us → statement.Spells more P n a ts m us
statement_spreads h (statement.a_declarator s t u v) = statement.a_declarator (phrase_spreads h s) t (names_spread h u) (phrase_spreads h v)
statement_spreads h statement.last_declarator = statement.last_declarator
statement_spreads h (statement.next_declarator s t u v) = statement.next_declarator s (begins_spread h t) (statement_spreads h u) (statement_spreads h v)
statement_spreads h statement.last_thread = statement.last_thread
statement_spreads h (statement.next_thread s t u v) = statement.next_thread s (begins_spread h t) (names_spread h u) (statement_spreads h v)
statement_spreads h (statement.volatile_locals s t) = statement.volatile_locals s (statement_spreads h t)
statement_spreads h (statement.thread_locals s t u) = statement.thread_locals s (names_spread h t) (statement_spreads h u)
statement_spreads h (statement.variable_locals s t u) = statement.variable_locals (phrase_spreads h s) (statement_spreads h t) (statement_spreads h u)
statement_spreads h statement.no_statement = statement.no_statement
statement_spreads h (statement.a_statement s t) = statement.a_statement (statement_spreads h s) (statement_spreads h t)
statement_spreads h (statement.declared_locals s t u v w) = statement.declared_locals (h _ _ _ s) (begins_spread h t) (statement_spreads h u) v (statement_spreads h w)
statement_spreads h (statement.a_block s t u v) = statement.a_block (h _ _ _ s) t (statement_spreads h u) v
statement_spreads h (statement.an_empty s t) = statement.an_empty (h _ _ _ s) t
statement_spreads h (statement.a_simple s t u v) = statement.a_simple (h _ _ _ s) (begins_spread h t) (phrase_spreads h u) v
statement_spreads h (statement.a_return s t u v w) = statement.a_return (h _ _ _ s) (begins_spread h t) u (phrase_spreads h v) w
statement_spreads h (statement.a_break s t u) = statement.a_break (h _ _ _ s) t u
statement_spreads h (statement.a_continue s t u) = statement.a_continue (h _ _ _ s) t u
statement_spreads h (statement.an_if s t u v) = statement.an_if (h _ _ _ s) (conditions_spread h t) (statement_spreads h u) (statement_spreads h v)
statement_spreads h statement.no_else = statement.no_else
statement_spreads h (statement.an_else s t u) = statement.an_else s t (statement_spreads h u)
statement_spreads h (statement.a_while s t u) = statement.a_while (h _ _ _ s) (conditions_spread h t) (statement_spreads h u)
statement_spreads h (statement.a_do s t u v w) = statement.a_do (h _ _ _ s) t (statement_spreads h u) (conditions_spread h v) w
statement_spreads h (statement.nothing_first s) = statement.nothing_first s
statement_spreads h (statement.simple_first s t u) = statement.simple_first (begins_spread h s) (phrase_spreads h t) u
statement_spreads h (statement.local_first s t u v) = statement.local_first (begins_spread h s) (phrase_spreads h t) (statement_spreads h u) v
statement_spreads h (statement.no_condition s t) = statement.no_condition (begins_spread h s) t
statement_spreads h (statement.a_condition s t u) = statement.a_condition (h _ _ _ s) (spreads h t) u
statement_spreads h (statement.no_step s) = statement.no_step s
statement_spreads h (statement.a_step s t u) = statement.a_step (begins_spread h s) (phrase_spreads h t) u
statement_spreads h (statement.a_for s t u v w x y) = statement.a_for (h _ _ _ s) t u (statement_spreads h v) (statement_spreads h w) (statement_spreads h x) (statement_spreads h y)
statement_spreads h (statement.a_braced_body s t u) = statement.a_braced_body s (statement_spreads h t) u
statement_spreads h (statement.a_plain_body s t) = statement.a_plain_body s (statement_spreads h t)

-- ---- declarations

pub declaration_spreads : {allowed more : Allowed} {P : declaration.Part} {n m : Totals} {a : declaration.Tree P} {ts us : List Token} → AllowsMore allowed more → declaration.Spells allowed P n a ts m us → declaration.Spells more P n a ts m us
declaration_spreads h (declaration.last_field s t u v w) = declaration.last_field (phrase_spreads h s) t (h _ _ _ u) (names_spread h v) w
declaration_spreads h (declaration.another_field s t u v w x) = declaration.another_field (phrase_spreads h s) t (h _ _ _ u) (names_spread h v) w (declaration_spreads h x)
declaration_spreads h declaration.no_more_fields = declaration.no_more_fields
declaration_spreads h (declaration.more_fields s t u) = declaration.more_fields (phrase_spreads h s) (declaration_spreads h t) (declaration_spreads h u)
declaration_spreads h (declaration.a_struct s t u v w x y) = declaration.a_struct s (names_spread h t) (h _ _ _ u) v (declaration_spreads h w) x y
declaration_spreads h (declaration.a_mutex s t) = declaration.a_mutex (h _ _ _ s) (names_spread h t)
declaration_spreads h (declaration.a_mutex_with_initializer s t u v) = declaration.a_mutex_with_initializer (h _ _ _ s) (names_spread h t) u v
declaration_spreads h declaration.no_more_mutexes = declaration.no_more_mutexes
declaration_spreads h (declaration.more_mutexes s t u) = declaration.more_mutexes s (declaration_spreads h t) (declaration_spreads h u)
declaration_spreads h (declaration.a_length s t u) = declaration.a_length s t u
declaration_spreads h (declaration.a_thread s t) = declaration.a_thread (names_spread h s) (h _ _ _ t)
declaration_spreads h (declaration.threads s t u) = declaration.threads (names_spread h s) (h _ _ _ t) (declaration_spreads h u)
declaration_spreads h declaration.no_more_threads = declaration.no_more_threads
declaration_spreads h (declaration.more_threads s t u) = declaration.more_threads s (declaration_spreads h t) (declaration_spreads h u)
declaration_spreads h (declaration.a_number s) = declaration.a_number s
declaration_spreads h (declaration.a_negative s t) = declaration.a_negative s t
declaration_spreads h (declaration.a_null s) = declaration.a_null s
declaration_spreads h declaration.plain = declaration.plain
declaration_spreads h (declaration.an_array s) = declaration.an_array (declaration_spreads h s)
declaration_spreads h (declaration.a_constant s t) = declaration.a_constant s (declaration_spreads h t)
declaration_spreads h (declaration.a_global s t u v) = declaration.a_global (phrase_spreads h s) (names_spread h t) (h _ _ _ u) (declaration_spreads h v)
declaration_spreads h declaration.no_more_globals = declaration.no_more_globals
declaration_spreads h (declaration.more_globals s t u) = declaration.more_globals s (declaration_spreads h t) (declaration_spreads h u)
declaration_spreads h (declaration.mutexes s t u) = declaration.mutexes s (declaration_spreads h t) (declaration_spreads h u)
declaration_spreads h (declaration.threads_of s t u) = declaration.threads_of s (declaration_spreads h t) (declaration_spreads h u)
declaration_spreads h (declaration.variables s t u) = declaration.variables (phrase_spreads h s) (declaration_spreads h t) (declaration_spreads h u)
declaration_spreads h (declaration.nothing s) = declaration.nothing s
declaration_spreads h (declaration.a_pointer s t) = declaration.a_pointer s t
declaration_spreads h (declaration.a_value s t) = declaration.a_value (phrase_spreads h s) (phrase_spreads h t)
declaration_spreads h (declaration.a_pointer_parameter s t) = declaration.a_pointer_parameter s t
declaration_spreads h (declaration.a_value_parameter s t u) = declaration.a_value_parameter (phrase_spreads h s) (phrase_spreads h t) u
declaration_spreads h (declaration.a_named_parameter s t u) = declaration.a_named_parameter (declaration_spreads h s) (h _ _ _ t) (names_spread h u)
declaration_spreads h (declaration.a_parameter s t) = declaration.a_parameter (declaration_spreads h s) (h _ _ _ t)
declaration_spreads h (declaration.last_parameter s) = declaration.last_parameter s
declaration_spreads h (declaration.next_parameter s t u) = declaration.next_parameter s (declaration_spreads h t) (declaration_spreads h u)
declaration_spreads h (declaration.no_parameters s) = declaration.no_parameters s
declaration_spreads h (declaration.void_parameters s t) = declaration.void_parameters s t
declaration_spreads h (declaration.some_parameters s t) = declaration.some_parameters (declaration_spreads h s) (declaration_spreads h t)
declaration_spreads h (declaration.no_body s) = declaration.no_body s
declaration_spreads h (declaration.a_body s t u v w) = declaration.a_body (h _ _ _ s) t (statement_spreads h u) (h _ _ _ v) w
declaration_spreads h (declaration.a_function s t u v w x) = declaration.a_function (declaration_spreads h s) (names_spread h t) (h _ _ _ u) v (declaration_spreads h w) (declaration_spreads h x)
declaration_spreads h (declaration.static_top s t) = declaration.static_top s (declaration_spreads h t)
declaration_spreads h (declaration.volatile_top s t) = declaration.volatile_top s (declaration_spreads h t)
declaration_spreads h (declaration.globals_of s t) = declaration.globals_of (declaration_spreads h s) t
declaration_spreads h (declaration.function_of s) = declaration.function_of (declaration_spreads h s)
declaration_spreads h (declaration.qualified s) = declaration.qualified (declaration_spreads h s)
declaration_spreads h declaration.no_top = declaration.no_top
declaration_spreads h (declaration.some_top s t) = declaration.some_top (declaration_spreads h s) (declaration_spreads h t)
declaration_spreads h (declaration.a_program s t) = declaration.a_program (declaration_spreads h s) t

-- a text that is a program is one where more is allowed
pub program_spreads : Spreads AProgram
program_spreads allowed more ts h s = (s.0, (s.1.0, declaration_spreads h s.1.1))
