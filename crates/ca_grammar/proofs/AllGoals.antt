-- What may be read is spelled so, and each goal has a sample.
use Rattle.std.proofs.Common.{ℕ, List}
use Rattle.ca_tree.specs.declared.token.Token.{Token}
use Rattle.ca_grammar.specs.Limits.{Limits}
use Rattle.ca_grammar.specs.Goals.{Goal, Primary, Postfixes, Postfix, Level, Operators, Behind, From, Unary, Nameless_unary, Expression, Whole, Stars, Starred_name, Base_at, Type_name, Arguments_behind, More_arguments, Print_arguments, Behind_malloc, A_right, Initializer, Behind_target, Simple_at, First_declarator, More_declarators, More_threads, Threads_at, Variables_at, Local_at, Statements, A_statement, Braceless, A_body, Condition, Else_part, For_first, For_condition, For_step, Field_declarators, A_field, More_fields, Mutexes, Threads, A_constant, Behind_global, More_globals, Next_global, Behind_type, More_parameters, Next_parameter, Parameters, Body_of, Function_of, Behind_paren, Behind_base, Behind_void, Qualified, Behind_tag, A_top, Tops, A_program, Tree}
use Rattle.ca_grammar.specs.Reads.{plan}
use Rattle.ca_grammar.proofs.Loose.{Roomy, Spelled, Loose, Sample}
use Rattle.ca_grammar.proofs.DeclarationBack.{back_behind_base, back_behind_global, back_behind_paren, back_behind_tag, back_behind_type, back_behind_void, back_body_of, back_constant, back_field, back_field_declarators, back_function_of, back_more_fields, back_more_globals, back_more_parameters, back_mutexes, back_next_global, back_next_parameter, back_parameters, back_program, back_qualified, back_threads as back_threads_of, back_top, back_tops}
use Rattle.ca_grammar.proofs.DeclarationSamples.{sample_behind_base, sample_behind_global, sample_behind_paren, sample_behind_tag, sample_behind_type, sample_behind_void, sample_body_of, sample_constant, sample_field, sample_field_declarators, sample_function_of, sample_more_fields, sample_more_globals, sample_more_parameters, sample_mutexes, sample_next_global, sample_next_parameter, sample_parameters, sample_program, sample_qualified, sample_threads as sample_threads_of, sample_top, sample_tops}
use Rattle.ca_grammar.proofs.ExpressionTheory.{back_behind, back_expression, back_from, back_level, back_nameless_unary, back_operators, back_postfix, back_postfixes, back_primary, back_unary, back_whole, sample_behind, sample_expression, sample_from, sample_level, sample_nameless_unary, sample_operators, sample_postfix, sample_postfixes, sample_primary, sample_unary, sample_whole}
use Rattle.ca_grammar.proofs.PhraseBack.{back_arguments, back_base, back_initializer, back_malloc, back_more_arguments, back_print_arguments, back_right, back_simple, back_starred_name, back_stars, back_target, back_type_name}
use Rattle.ca_grammar.proofs.PhraseSamples.{sample_arguments, sample_base, sample_initializer, sample_malloc, sample_more_arguments, sample_print_arguments, sample_right, sample_simple, sample_starred_name, sample_stars, sample_target, sample_type_name}
use Rattle.ca_grammar.proofs.StatementBack.{back_body, back_braceless, back_condition, back_else_part, back_first_declarator, back_for_condition, back_for_first, back_for_step, back_local, back_more_declarators, back_more_threads, back_statement, back_statements, back_threads, back_variables}
use Rattle.ca_grammar.proofs.StatementSamples.{sample_body, sample_braceless, sample_condition, sample_else_part, sample_first_declarator, sample_for_condition, sample_for_first, sample_for_step, sample_local, sample_more_declarators, sample_more_threads, sample_statement, sample_statements, sample_threads, sample_variables}

pub back : (limits : Limits) (k : ℕ) (g : Goal) (a : Tree g) (ts us : List Token) → Roomy limits g → Loose limits k g (plan g) a ts us → Spelled limits k g a ts us
back limits k (Primary cs v inside) = back_primary limits k cs v inside
back limits k (Postfixes v a) = back_postfixes limits k v a
back limits k (Postfix cs v inside) = back_postfix limits k cs v inside
back limits k (Level l cs v inside) = back_level limits k l cs v inside
back limits k (Operators l v a) = back_operators limits k l v a
back limits k (Behind l a) = back_behind limits k l a
back limits k (From l a) = back_from limits k l a
back limits k (Unary cs) = back_unary limits k cs
back limits k (Nameless_unary cs) = back_nameless_unary limits k cs
back limits k (Expression cs) = back_expression limits k cs
back limits k Whole = back_whole limits k
back limits k (Stars j) = back_stars limits k j
back limits k (Starred_name cs at_name b) = back_starred_name limits k cs at_name b
back limits k (Base_at cs) = back_base limits k cs
back limits k Type_name = back_type_name limits k
back limits k Arguments_behind = back_arguments limits k
back limits k More_arguments = back_more_arguments limits k
back limits k (Print_arguments j) = back_print_arguments limits k j
back limits k (Behind_malloc p cast) = back_malloc limits k p cast
back limits k A_right = back_right limits k
back limits k Initializer = back_initializer limits k
back limits k (Behind_target a) = back_target limits k a
back limits k (Simple_at cs) = back_simple limits k cs
back limits k (First_declarator b p n) = back_first_declarator limits k b p n
back limits k (More_declarators b n) = back_more_declarators limits k b n
back limits k (More_threads n) = back_more_threads limits k n
back limits k (Threads_at p n) = back_threads limits k p n
back limits k (Variables_at b p n) = back_variables limits k b p n
back limits k (Local_at p n) = back_local limits k p n
back limits k (Statements in_loop d of_function n) = back_statements limits k in_loop d of_function n
back limits k (A_statement in_loop d n) = back_statement limits k in_loop d n
back limits k (Braceless in_loop d n) = back_braceless limits k in_loop d n
back limits k (A_body in_loop d n) = back_body limits k in_loop d n
back limits k (Condition n) = back_condition limits k n
back limits k (Else_part in_loop d i c a n) = back_else_part limits k in_loop d i c a n
back limits k (For_first n) = back_for_first limits k n
back limits k (For_condition n) = back_for_condition limits k n
back limits k (For_step n) = back_for_step limits k n
back limits k (Field_declarators b j) = back_field_declarators limits k b j
back limits k (A_field j) = back_field limits k j
back limits k (More_fields j) = back_more_fields limits k j
back limits k (Mutexes t) = back_mutexes limits k t
back limits k (Threads t) = back_threads_of limits k t
back limits k A_constant = back_constant limits k
back limits k (Behind_global b j x t) = back_behind_global limits k b j x t
back limits k (More_globals b t) = back_more_globals limits k b t
back limits k (Next_global b t) = back_next_global limits k b t
back limits k (Behind_type of j) = back_behind_type limits k of j
back limits k (More_parameters j) = back_more_parameters limits k j
back limits k (Next_parameter j) = back_next_parameter limits k j
back limits k Parameters = back_parameters limits k
back limits k (Body_of t) = back_body_of limits k t
back limits k (Function_of r t) = back_function_of limits k r t
back limits k (Behind_paren r x t) = back_behind_paren limits k r x t
back limits k (Behind_base b t) = back_behind_base limits k b t
back limits k (Behind_void t) = back_behind_void limits k t
back limits k (Qualified t) = back_qualified limits k t
back limits k (Behind_tag x t) = back_behind_tag limits k x t
back limits k (A_top t) = back_top limits k t
back limits k (Tops t) = back_tops limits k t
back limits k A_program = back_program limits k

pub sample : (limits : Limits) (g : Goal) → Sample limits g
sample limits (Primary cs v inside) = sample_primary limits cs v inside
sample limits (Postfixes v a) = sample_postfixes limits v a
sample limits (Postfix cs v inside) = sample_postfix limits cs v inside
sample limits (Level l cs v inside) = sample_level limits l cs v inside
sample limits (Operators l v a) = sample_operators limits l v a
sample limits (Behind l a) = sample_behind limits l a
sample limits (From l a) = sample_from limits l a
sample limits (Unary cs) = sample_unary limits cs
sample limits (Nameless_unary cs) = sample_nameless_unary limits cs
sample limits (Expression cs) = sample_expression limits cs
sample limits Whole = sample_whole limits
sample limits (Stars k) = sample_stars limits k
sample limits (Starred_name cs at_name b) = sample_starred_name limits cs at_name b
sample limits (Base_at cs) = sample_base limits cs
sample limits Type_name = sample_type_name limits
sample limits Arguments_behind = sample_arguments limits
sample limits More_arguments = sample_more_arguments limits
sample limits (Print_arguments k) = sample_print_arguments limits k
sample limits (Behind_malloc p cast) = sample_malloc limits p cast
sample limits A_right = sample_right limits
sample limits Initializer = sample_initializer limits
sample limits (Behind_target a) = sample_target limits a
sample limits (Simple_at cs) = sample_simple limits cs
sample limits (First_declarator b p n) = sample_first_declarator limits b p n
sample limits (More_declarators b n) = sample_more_declarators limits b n
sample limits (More_threads n) = sample_more_threads limits n
sample limits (Threads_at p n) = sample_threads limits p n
sample limits (Variables_at b p n) = sample_variables limits b p n
sample limits (Local_at p n) = sample_local limits p n
sample limits (Statements in_loop d of_function n) = sample_statements limits in_loop d of_function n
sample limits (A_statement in_loop d n) = sample_statement limits in_loop d n
sample limits (Braceless in_loop d n) = sample_braceless limits in_loop d n
sample limits (A_body in_loop d n) = sample_body limits in_loop d n
sample limits (Condition n) = sample_condition limits n
sample limits (Else_part in_loop d i c a n) = sample_else_part limits in_loop d i c a n
sample limits (For_first n) = sample_for_first limits n
sample limits (For_condition n) = sample_for_condition limits n
sample limits (For_step n) = sample_for_step limits n
sample limits (Field_declarators b j) = sample_field_declarators limits b j
sample limits (A_field j) = sample_field limits j
sample limits (More_fields j) = sample_more_fields limits j
sample limits (Mutexes t) = sample_mutexes limits t
sample limits (Threads t) = sample_threads_of limits t
sample limits A_constant = sample_constant limits
sample limits (Behind_global b k x t) = sample_behind_global limits b k x t
sample limits (More_globals b t) = sample_more_globals limits b t
sample limits (Next_global b t) = sample_next_global limits b t
sample limits (Behind_type of j) = sample_behind_type limits of j
sample limits (More_parameters j) = sample_more_parameters limits j
sample limits (Next_parameter j) = sample_next_parameter limits j
sample limits Parameters = sample_parameters limits
sample limits (Body_of t) = sample_body_of limits t
sample limits (Function_of r t) = sample_function_of limits r t
sample limits (Behind_paren r x t) = sample_behind_paren limits r x t
sample limits (Behind_base b t) = sample_behind_base limits b t
sample limits (Behind_void t) = sample_behind_void limits t
sample limits (Qualified t) = sample_qualified limits t
sample limits (Behind_tag x t) = sample_behind_tag limits x t
sample limits (A_top t) = sample_top limits t
sample limits (Tops t) = sample_tops limits t
sample limits A_program = sample_program limits
