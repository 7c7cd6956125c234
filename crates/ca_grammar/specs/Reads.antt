-- What each goal is read by, and what a reading comes to.
use Rattle.std.specs.Prelude.{◌≡◌, zero, suc, false, List, [], ◌∷◌, Option, Some, None, if◌then◌else◌}
use Rattle.ca_tree.specs.declared.text.Pos.{Pos}
use Rattle.ca_tree.specs.declared.token.Token.{Token}
use Rattle.ca_grammar.specs.declared.faults.Count.{Count}
use Rattle.ca_grammar.specs.Words.{Class, The_end, Of, Takes, Lacks}
use Rattle.ca_grammar.specs.Limits.{Rule, Limit, Limits, Firm, within}
use Rattle.ca_grammar.specs.Goals.{Goal, Primary, Postfixes, Postfix, Level, Operators, Behind, From, Unary, Nameless_unary, Expression, Whole, Stars, Starred_name, Base_at, Type_name, Arguments_behind, More_arguments, Print_arguments, Behind_malloc, A_right, Initializer, Behind_target, Simple_at, First_declarator, More_declarators, More_threads, Threads_at, Variables_at, Local_at, Statements, A_statement, Braceless, A_body, Condition, Else_part, For_first, For_condition, For_step, Field_declarators, A_field, More_fields, Mutexes, Threads, A_constant, Behind_global, More_globals, Next_global, Behind_type, More_parameters, Next_parameter, Parameters, Body_of, Function_of, Behind_paren, Behind_base, Behind_void, Qualified, Behind_tag, A_top, Tops, A_program, Tree}
use Rattle.ca_grammar.specs.Plan.{Plan, give, take, want, call, last, no_counts}
use Rattle.ca_grammar.specs.ExpressionPlans.{on_primary, on_postfixes, on_unary, on_operators, on_nameless_unary}
use Rattle.ca_grammar.specs.PhrasePlans.{on_stars, on_starred_name, on_base, on_type_name, on_arguments, on_more_arguments, on_print_arguments, on_malloc, on_right, on_initializer, on_target, on_simple}
use Rattle.ca_grammar.specs.StatementPlans.{on_first_declarator, on_more_declarators, on_more_threads, on_threads, on_variables, on_local, on_statements, on_statement, on_braceless, on_body, on_condition, if_closed, on_for_first, on_for_condition, on_for_step}
use Rattle.ca_grammar.specs.DeclarationPlans.{on_field_declarators, on_field, on_more_fields, on_mutexes, on_threads_of, on_constant, on_global, on_more_globals, on_next_global, on_type, on_more_parameters, on_next_parameter, on_parameters, on_function_body, on_function, behind_paren, behind_base, behind_void, on_qualified, behind_tag, on_top, on_tops, on_program}

abbrev pub plan : (g : Goal) → Plan g
plan (Primary cs v inside) = on_primary cs v inside
plan (Postfixes v a) = on_postfixes v a
plan (Postfix cs v inside) = call (Primary cs v inside) (λ a. last (Postfixes v a) (Postfix cs v inside) (λ b. b))
plan (Level zero cs v inside) = on_unary cs v inside
plan (Level (suc l) cs v inside) = call (Level l cs v inside) (λ a. last (Operators (suc l) v a) (Level (suc l) cs v inside) (λ b. b))
plan (Operators zero v a) = give a
plan (Operators (suc l) v a) = on_operators l v a
plan (Behind zero a) = give a
plan (Behind (suc l) a) = call (Behind l a) (λ b. last (Operators (suc l) 0 b) (Behind (suc l) a) (λ c. c))
plan (From l a) = call (Postfixes 0 a) (λ b. last (Behind l b) (From l a) (λ c. c))
plan (Nameless_unary cs) = on_nameless_unary cs
plan (Unary cs) = last (Level 0 cs 0 false) (Unary cs) (λ a. a)
plan (Expression cs) = last (Level 6 cs 0 false) (Expression cs) (λ a. a)
plan Whole = call (Expression []) (λ a. want The_end no_counts (λ p x. give a))
plan (Stars k) = on_stars k
plan (Starred_name cs at_name b) = on_starred_name cs at_name b
plan (Base_at cs) = on_base cs
plan Type_name = on_type_name
plan Arguments_behind = on_arguments
plan More_arguments = on_more_arguments
plan (Print_arguments k) = on_print_arguments k
plan (Behind_malloc p cast) = on_malloc p cast
plan A_right = on_right
plan Initializer = on_initializer
plan (Behind_target a) = on_target a
plan (Simple_at cs) = on_simple cs
plan (First_declarator b p n) = on_first_declarator b p n
plan (More_declarators b n) = on_more_declarators b n
plan (More_threads n) = on_more_threads n
plan (Threads_at p n) = on_threads p n
plan (Variables_at b p n) = on_variables b p n
plan (Local_at p n) = on_local p n
plan (Statements in_loop d of_function n) = on_statements in_loop d of_function n
plan (A_statement in_loop d n) = on_statement in_loop d n
plan (Braceless in_loop d n) = on_braceless in_loop d n
plan (A_body in_loop d n) = on_body in_loop d n
plan (Condition n) = on_condition n
plan (Else_part in_loop d i c a n) = if_closed in_loop d i c a n a.is_open
plan (For_first n) = on_for_first n
plan (For_condition n) = on_for_condition n
plan (For_step n) = on_for_step n
plan (Field_declarators b j) = on_field_declarators b j
plan (A_field j) = on_field j
plan (More_fields j) = on_more_fields j
plan (Mutexes t) = on_mutexes t
plan (Threads t) = on_threads_of t
plan A_constant = on_constant
plan (Behind_global b k x t) = on_global b k x t
plan (More_globals b t) = on_more_globals b t
plan (Next_global b t) = on_next_global b t
plan (Behind_type of j) = on_type of j
plan (More_parameters j) = on_more_parameters j
plan (Next_parameter j) = on_next_parameter j
plan Parameters = on_parameters
plan (Body_of t) = on_function_body t
plan (Function_of r t) = on_function r t
plan (Behind_paren r x t) = behind_paren r x t
plan (Behind_base b t) = behind_base b t
plan (Behind_void t) = behind_void t
plan (Qualified t) = on_qualified t
plan (Behind_tag x t) = behind_tag x t
plan (A_top t) = on_top t
plan (Tops t) = on_tops t
plan A_program = on_program

-- the first rule that a step breaks; what is counted at the first token of an expression never comes with a depth that is too much
abbrev pub first_exceeded : Limits → List Count → Option Rule
first_exceeded limits [] = None
first_exceeded limits (c ∷ cs) = if within (limits (Limit c.of)) c.number then first_exceeded limits cs else Some (Limit c.of)

abbrev pub firm_exceeded : Limits → Option Firm → Option Rule
firm_exceeded limits None = None
firm_exceeded limits (Some f) = if within (limits f.0) f.1 then None else Some f.0

abbrev pub or_else : Option Rule → Option Rule → Option Rule
or_else None r = r
or_else (Some r) s = Some r

abbrev pub exceeded : Limits → List Count → Option Firm → Option Rule
exceeded limits cs firm = or_else (firm_exceeded limits firm) (first_exceeded limits cs)

-- the tree and the tokens behind it, or the tokens from the first with which nothing goes on, and the rule that it would break
pub data Outcome (g : Goal) : Type 0 where
  Yes : Tree g → List Token → Outcome g
  No : Option Rule → List Token → Outcome g

-- A plan at these tokens comes to this outcome.
pub data Reads (limits : Limits) : (g : Goal) → Plan g → List Token → Outcome g → Type 0 where
  gives : {g : Goal} {a : Tree g} {us : List Token} → Reads limits g (give a) us (Yes a us)
  takes : {g : Goal} {c : Class} {firm : Option Firm} {counts : Of c → List Count} {on : Pos → Of c → Plan g} {otherwise : Plan g} {p : Pos} {x : Of c} {ts us : List Token} {o : Outcome g}
      → Takes c ts p x us → exceeded limits (counts x) firm ≡ None → Reads limits g (on p x) us o → Reads limits g (take c firm counts on otherwise) ts o
  overs : {g : Goal} {c : Class} {firm : Option Firm} {counts : Of c → List Count} {on : Pos → Of c → Plan g} {otherwise : Plan g} {p : Pos} {x : Of c} {ts us : List Token} {r : Rule}
      → Takes c ts p x us → exceeded limits (counts x) firm ≡ Some r → Reads limits g (take c firm counts on otherwise) ts (No (Some r) ts)
  passes : {g : Goal} {c : Class} {firm : Option Firm} {counts : Of c → List Count} {on : Pos → Of c → Plan g} {otherwise : Plan g} {ts : List Token} {o : Outcome g}
      → Lacks c ts → Reads limits g otherwise ts o → Reads limits g (take c firm counts on otherwise) ts o
  wants : {g : Goal} {c : Class} {counts : Of c → List Count} {on : Pos → Of c → Plan g} {p : Pos} {x : Of c} {ts us : List Token} {o : Outcome g}
      → Takes c ts p x us → exceeded limits (counts x) None ≡ None → Reads limits g (on p x) us o → Reads limits g (want c counts on) ts o
  exceeds : {g : Goal} {c : Class} {counts : Of c → List Count} {on : Pos → Of c → Plan g} {p : Pos} {x : Of c} {ts us : List Token} {r : Rule}
      → Takes c ts p x us → exceeded limits (counts x) None ≡ Some r → Reads limits g (want c counts on) ts (No (Some r) ts)
  misses : {g : Goal} {c : Class} {counts : Of c → List Count} {on : Pos → Of c → Plan g} {ts : List Token} → Lacks c ts → Reads limits g (want c counts on) ts (No None ts)
  calls : {g q : Goal} {on : Tree q → Plan g} {a : Tree q} {ts us : List Token} {o : Outcome g} → Reads limits q (plan q) ts (Yes a us) → Reads limits g (on a) us o → Reads limits g (call q on) ts o
  fails : {g q : Goal} {on : Tree q → Plan g} {r : Option Rule} {ts us : List Token} → Reads limits q (plan q) ts (No r us) → Reads limits g (call q on) ts (No r us)
