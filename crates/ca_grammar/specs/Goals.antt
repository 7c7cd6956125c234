-- What a reader is to read, and which tree it gives. In a goal cs is what is counted at its first token, and n the number of items before it.
use Rattle.std.specs.Prelude.{ℕ, Bool, List, Option}
use Rattle.ca_tree.specs.declared.text.Pos.{Pos}
use Rattle.ca_tree.specs.declared.tree.Name.{Name}
use Rattle.ca_tree.specs.declared.tree.Exp.{Exp}
use Rattle.ca_tree.specs.declared.tree.Base.{Base}
use Rattle.ca_tree.specs.declared.tree.«Type».{«Type» as CType}
use Rattle.ca_tree.specs.declared.tree.ItemAt.{ItemAt}
use Rattle.ca_tree.specs.declared.tree.Malloc.{Malloc}
use Rattle.ca_tree.specs.declared.tree.Right.{Right as RightSide}
use Rattle.ca_tree.specs.declared.tree.Simple.{Simple}
use Rattle.ca_tree.specs.declared.tree.LocalDeclarator.{LocalDeclarator}
use Rattle.ca_tree.specs.declared.tree.ThreadLocal.{ThreadLocal}
use Rattle.ca_tree.specs.declared.tree.Locals.{Locals}
use Rattle.ca_tree.specs.declared.tree.ForFirst.{ForFirst}
use Rattle.ca_tree.specs.declared.tree.Stmt.{Stmt}
use Rattle.ca_tree.specs.declared.tree.Declarator.{Declarator}
use Rattle.ca_tree.specs.declared.tree.Fields.{Fields}
use Rattle.ca_tree.specs.declared.tree.MutexDeclarator.{MutexDeclarator}
use Rattle.ca_tree.specs.declared.tree.ThreadDeclarator.{ThreadDeclarator}
use Rattle.ca_tree.specs.declared.tree.Constant.{Constant}
use Rattle.ca_tree.specs.declared.tree.GlobalDeclarator.{GlobalDeclarator}
use Rattle.ca_tree.specs.declared.tree.ResultType.{ResultType}
use Rattle.ca_tree.specs.declared.tree.ParameterType.{ParameterType}
use Rattle.ca_tree.specs.declared.tree.Parameter.{Parameter}
use Rattle.ca_tree.specs.declared.tree.Body.{Body}
use Rattle.ca_tree.specs.declared.tree.Function.{Function}
use Rattle.ca_tree.specs.declared.tree.Top.{Top}
use Rattle.ca_tree.specs.declared.tree.Program.{Program}
use Rattle.ca_tree.specs.Counts.{Totals}
use Rattle.ca_tree.specs.StatementTrees.{Branch, Head}
use Rattle.ca_grammar.specs.declared.faults.Count.{Count}
use Rattle.ca_grammar.specs.declared.operand.Operand.{Operand}

-- stars and a name, and where they begin
pub record Starred : Type 0 where
  pub pos : Pos
  pub stars : ℕ
  pub name : Name

-- something, and where it begins
pub record Placed (X : Type 0) : Type 0 where
  pub pos : Pos
  pub what : X

-- something, with the number of items behind it
pub record Numbered (X : Type 0) : Type 0 where
  pub what : X
  pub items : ℕ

-- and with all that is counted in the program
pub record Totalled (X : Type 0) : Type 0 where
  pub what : X
  pub totals : Totals

pub data Goal : Type 0 where
  -- parts of an expression, which stand v operators, postfixes and parentheses deep, and maybe directly in parentheses
  Primary : (cs : List Count) (v : ℕ) (inside : Bool) → Goal
  Postfixes : (v : ℕ) (a : Operand) → Goal
  Postfix : (cs : List Count) (v : ℕ) (inside : Bool) → Goal
  Level : (l : ℕ) (cs : List Count) (v : ℕ) (inside : Bool) → Goal
  Operators : (l : ℕ) (v : ℕ) (a : Operand) → Goal
  -- from a unary a on, and from a primary a on, operators up to level l
  Behind : (l : ℕ) (a : Operand) → Goal
  From : (l : ℕ) (a : Operand) → Goal
  Unary : (cs : List Count) → Goal
  -- one that begins with no name
  Nameless_unary : (cs : List Count) → Goal
  Expression : (cs : List Count) → Goal
  -- an expression, and then the end
  Whole : Goal
  -- types, calls, right sides and simple statements
  Stars : (k : ℕ) → Goal
  -- with what is counted at its name too, and a star where the base is a struct
  Starred_name : (cs at_name : List Count) (b : Base) → Goal
  Base_at : (cs : List Count) → Goal
  Type_name : Goal
  Arguments_behind : Goal
  More_arguments : Goal
  Print_arguments : (k : ℕ) → Goal
  Behind_malloc : (p : Pos) (cast : Option CType) → Goal
  A_right : Goal
  Initializer : Goal
  Behind_target : (a : Operand) → Goal
  Simple_at : (cs : List Count) → Goal
  -- statements, with all of a block to its `}`
  First_declarator : (b : Base) (p : Pos) (n : ℕ) → Goal
  More_declarators : (b : Base) (n : ℕ) → Goal
  More_threads : (n : ℕ) → Goal
  Threads_at : (p : Pos) (n : ℕ) → Goal
  Variables_at : (b : Base) (p : Pos) (n : ℕ) → Goal
  -- behind the word `volatile`
  Local_at : (p : Pos) (n : ℕ) → Goal
  Statements : (in_loop : Bool) (d : ℕ) (of_function : Bool) (n : ℕ) → Goal
  A_statement : (in_loop : Bool) (d n : ℕ) → Goal
  Braceless : (in_loop : Bool) (d n : ℕ) → Goal
  A_body : (in_loop : Bool) (d n : ℕ) → Goal
  Condition : (n : ℕ) → Goal
  Else_part : (in_loop : Bool) (d : ℕ) (i : ItemAt) (c : Exp) (a : Branch) (n : ℕ) → Goal
  For_first : (n : ℕ) → Goal
  For_condition : (n : ℕ) → Goal
  For_step : (n : ℕ) → Goal
  -- declarations
  Field_declarators : (b : Base) (j : ℕ) → Goal
  A_field : (j : ℕ) → Goal
  More_fields : (j : ℕ) → Goal
  Mutexes : (t : Totals) → Goal
  Threads : (t : Totals) → Goal
  A_constant : Goal
  -- behind a global's name, its form or a comma, all to the `;`
  Behind_global : (b : Base) (k : ℕ) (x : Name) (t : Totals) → Goal
  More_globals : (b : Base) (t : Totals) → Goal
  Next_global : (b : Base) (t : Totals) → Goal
  -- behind a parameter's type, or a comma, all to the `)`
  Behind_type : (of : ParameterType) (j : ℕ) → Goal
  More_parameters : (j : ℕ) → Goal
  Next_parameter : (j : ℕ) → Goal
  Parameters : Goal
  Body_of : (t : Totals) → Goal
  -- behind the result of a function, and behind its `(`
  Function_of : (r : ResultType) (t : Totals) → Goal
  Behind_paren : (r : ResultType) (x : Name) (t : Totals) → Goal
  -- behind the base of a global or a function
  Behind_base : (b : Base) (t : Totals) → Goal
  Behind_void : (t : Totals) → Goal
  -- behind `static` or `volatile`
  Qualified : (t : Totals) → Goal
  -- behind the tag of a struct
  Behind_tag : (x : Name) (t : Totals) → Goal
  A_top : (t : Totals) → Goal
  Tops : (t : Totals) → Goal
  A_program : Goal

abbrev pub Tree : Goal → Type 0
Tree (Primary cs v inside) = Operand
Tree (Postfixes v a) = Operand
Tree (Postfix cs v inside) = Operand
Tree (Level l cs v inside) = Operand
Tree (Operators l v a) = Operand
Tree (Behind l a) = Operand
Tree (From l a) = Operand
Tree (Unary cs) = Operand
Tree (Nameless_unary cs) = Operand
Tree (Expression cs) = Operand
Tree Whole = Operand
Tree (Stars k) = ℕ
Tree (Starred_name cs at_name b) = Starred
Tree (Base_at cs) = Placed Base
Tree Type_name = CType
Tree Arguments_behind = List Exp
Tree More_arguments = List Exp
Tree (Print_arguments k) = List Exp
Tree (Behind_malloc p cast) = Malloc
Tree A_right = RightSide
Tree Initializer = Option RightSide
Tree (Behind_target a) = Simple
Tree (Simple_at cs) = Placed Simple
Tree (First_declarator b p n) = LocalDeclarator
Tree (More_declarators b n) = Numbered (List LocalDeclarator)
Tree (More_threads n) = Numbered (List ThreadLocal)
Tree (Threads_at p n) = Numbered Locals
Tree (Variables_at b p n) = Numbered Locals
Tree (Local_at p n) = Numbered Locals
Tree (Statements in_loop d of_function n) = Placed (Numbered (List Stmt))
Tree (A_statement in_loop d n) = Numbered Branch
Tree (Braceless in_loop d n) = Numbered Branch
Tree (A_body in_loop d n) = Numbered Branch
Tree (Condition n) = Operand
Tree (Else_part in_loop d i c a n) = Numbered Branch
Tree (For_first n) = Numbered (Option ForFirst)
Tree (For_condition n) = Head (Option Exp)
Tree (For_step n) = Numbered (Option (ItemAt × Simple))
Tree (Field_declarators b j) = List Declarator
Tree (A_field j) = List Fields
Tree (More_fields j) = List Fields
Tree (Mutexes t) = Totalled (List MutexDeclarator)
Tree (Threads t) = Totalled (List ThreadDeclarator)
Tree A_constant = Constant
Tree (Behind_global b k x t) = Totalled (List GlobalDeclarator)
Tree (More_globals b t) = Totalled (List GlobalDeclarator)
Tree (Next_global b t) = Totalled (List GlobalDeclarator)
Tree (Behind_type of j) = List Parameter
Tree (More_parameters j) = List Parameter
Tree (Next_parameter j) = List Parameter
Tree Parameters = List Parameter
Tree (Body_of t) = Totalled (Option Body)
Tree (Function_of r t) = Totalled Function
Tree (Behind_paren r x t) = Totalled Function
Tree (Behind_base b t) = Totalled Top
Tree (Behind_void t) = Totalled Top
Tree (Qualified t) = Totalled Top
Tree (Behind_tag x t) = Totalled Top
Tree (A_top t) = Totalled (Option Top)
Tree (Tops t) = Totalled (List Top)
Tree A_program = Program
