-- What readers of statements and locals answer in the middle of a goal.
use Rattle.std.specs.Prelude.{◌≡◌, ℕ, suc, Bool, true, List, [], ◌∷◌, Option, Some, None, Result, Ok, Err, codes}
use Rattle.std.specs.Borrow.{Bor}
use Rattle.ca_tree.specs.declared.text.Pos.{Pos}
use Rattle.ca_tree.specs.declared.token.Token.{Token}
use Rattle.ca_tree.specs.declared.tree.Base.{Base}
use Rattle.ca_tree.specs.declared.tree.Base.TheVariants as base
use Rattle.ca_tree.specs.declared.tree.Locals.{Locals}
use Rattle.ca_tree.specs.declared.tree.LocalDeclarator.{LocalDeclarator}
use Rattle.ca_tree.specs.declared.tree.ThreadLocal.{ThreadLocal}
use Rattle.ca_tree.specs.declared.tree.Stmt.{Stmt}
use Rattle.ca_tree.specs.declared.tree.Stmt.TheVariants as s
use Rattle.ca_tree.specs.declared.token.Mark.{Mark}
use Rattle.ca_tree.specs.declared.tree.Exp.{Exp}
use Rattle.ca_tree.specs.declared.tree.Simple.{Simple}
use Rattle.ca_tree.specs.declared.tree.ItemAt.{ItemAt}
use Rattle.ca_tree.specs.declared.tree.ForHead.{ForHead}
use Rattle.ca_tree.specs.declared.tree.ForFirst.TheVariants as first
use Rattle.ca_tree.specs.StatementTrees.{item}
use Rattle.ca_tree.specs.StatementTrees as tree
use Rattle.ca_grammar.specs.declared.faults.Count.{Count}
use Rattle.ca_grammar.specs.Words.{Class, Of, The_mark, The_word, A_name, Takes, Lacks, semicolon}
use Rattle.ca_grammar.specs.Limits.{Limit, the_limits, within}
use Rattle.ca_grammar.specs.Expressions.{name}
use Rattle.ca_grammar.specs.Goals.{Goal, Placed, Numbered, Starred_name, Initializer, More_declarators, More_threads, Threads_at, Variables_at, Local_at, Simple_at, Statements, A_statement, Braceless, A_body, For_first}
use Rattle.ca_grammar.specs.Plan.{Plan, give, take, want, call, last, these, and_name}
use Rattle.ca_grammar.specs.PhrasePlans.{must}
use Rattle.ca_grammar.specs.StatementPlans.{nested, behind_if, behind_while, behind_do, behind_for, numbered, declarator, an_item, nested_item, behind_statement, behind_locals}
use Rattle.ca_grammar.specs.Reads.{plan, Outcome, Reads}
use Rattle.ca_expressions.specs.declared.stop.Stop.{Stop}
use Rattle.ca_statements.specs.declared.locals.LocalsWord.{LocalsWord}
use Rattle.ca_statements.specs.declared.locals.LocalsWord.TheVariants.{Volatile, Threads, Int, Struct}
use Rattle.ca_statements.specs.declared.statements.Branch.{Branch}
use Rattle.ca_statements.specs.declared.statements.Keyword.{Keyword}
use Rattle.ca_statements.specs.declared.statements.Keyword.TheVariants.{If, While, Do, For}
use Rattle.ca_expressions.specs.Reading.{StopsIn, Following}

-- what is read behind the comma of a declaration
abbrev pub behind_comma : (b : Base) (n : ℕ) → Plan (More_declarators b n)
behind_comma b n = call (Starred_name (an_item n) [] b) (λ x. call Initializer (λ r. last (More_declarators b (suc n)) (More_declarators b n) (λ m. numbered (declarator x x.pos n r ∷ m.what) m.items)))

abbrev pub name_behind_comma : (n : ℕ) → Plan (More_threads n)
name_behind_comma n =
    want A_name (and_name (an_item n)) (λ p t. last (More_threads (suc n)) (More_threads n) (λ m. numbered (record { item = item (suc n) p; name = name p t } ∷ m.what) m.items))

-- a declarator is read behind the comma, with the number of items before it
abbrev pub NextDeclarator : Base → ℕ → List Token → Result (LocalDeclarator × Bor (List Token)) Stop → Type 0
NextDeclarator b n ts (Ok x) =
    (o : Outcome (More_declarators b n)) → Reads the_limits (More_declarators b n) (last (More_declarators b (suc n)) (More_declarators b n) (λ m. numbered (x.0 ∷ m.what) m.items)) x.1.now o
    → Reads the_limits (More_declarators b n) (behind_comma b n) ts o
NextDeclarator b n ts (Err e) = StopsIn (More_declarators b n) (behind_comma b n) ts e

abbrev pub NextThread : ℕ → List Token → Result (ThreadLocal × Bor (List Token)) Stop → Type 0
NextThread n ts (Ok x) =
    (o : Outcome (More_threads n)) → Reads the_limits (More_threads n) (last (More_threads (suc n)) (More_threads n) (λ m. numbered (x.0 ∷ m.what) m.items)) x.1.now o
    → Reads the_limits (More_threads n) (name_behind_comma n) ts o
NextThread n ts (Err e) = StopsIn (More_threads n) (name_behind_comma n) ts e

-- what begins a declaration of locals
abbrev pub word_of : LocalsWord → List ℕ
word_of Volatile = codes "volatile"
word_of Threads = codes "pthread_t"
word_of Int = codes "int"
word_of Struct = codes "struct"

-- and what is read behind it
abbrev pub behind_word : {g : Goal} → LocalsWord → Pos → ℕ → (Numbered Locals → Plan g) → Plan g
behind_word Volatile p n f = call (Local_at p n) f
behind_word Threads p n f = call (Threads_at p n) f
behind_word Int p n f = call (Variables_at base.Int p n) f
behind_word Struct p n f = want A_name (and_name []) (λ q t. call (Variables_at (base.Struct (name q t)) p n) f)

abbrev pub LocalsBehind : LocalsWord → Pos → ℕ → List Token → Result (Locals × ℕ × Bor (List Token)) Stop → Type 0
LocalsBehind w p n ts (Ok x) = (g : Goal) (f : Numbered Locals → Plan g) (o : Outcome g) → Reads the_limits g (f (numbered x.0 x.1)) x.2.now o → Reads the_limits g (behind_word w p n f) ts o
LocalsBehind w p n ts (Err e) = (g : Goal) (f : Numbered Locals → Plan g) → StopsIn g (behind_word w p n f) ts e

abbrev pub LacksLocals : List Token → Type 0
LacksLocals ts = Lacks (The_word (codes "volatile")) ts × Lacks (The_word (codes "pthread_t")) ts × Lacks (The_word (codes "int")) ts × Lacks (The_word (codes "struct")) ts

-- where no `}` stands in a block
abbrev pub in_block : (in_loop : Bool) (d : ℕ) (of_function : Bool) (n : ℕ) → Plan (Statements in_loop d of_function n)
in_block in_loop d of_function n =
    take (The_word (codes "volatile")) None (these (nested_item n d)) (λ p x. call (Local_at p n) (behind_locals in_loop d of_function n))
    (take (The_word (codes "pthread_t")) None (these (nested_item n d)) (λ p x. call (Threads_at p n) (behind_locals in_loop d of_function n))
    (take (The_word (codes "int")) None (these (nested_item n d)) (λ p x. call (Variables_at base.Int p n) (behind_locals in_loop d of_function n))
    (take (The_word (codes "struct")) None (these (nested_item n d)) (λ p x. want A_name (and_name []) (λ q t. call (Variables_at (base.Struct (name q t)) p n) (behind_locals in_loop d of_function n)))
    (call (A_statement in_loop d n) (λ a. behind_statement in_loop d of_function n a.what.stmt a.items)))))

-- a statement of a block is read, or a declaration with its `;`
abbrev pub InBlock : (in_loop : Bool) (d n : ℕ) → List Token → Result (Stmt × ℕ × Bor (List Token)) Stop → Type 0
InBlock in_loop d n ts (Ok x) =
    (of_function : Bool) (o : Outcome (Statements in_loop d of_function n)) → Reads the_limits (Statements in_loop d of_function n) (behind_statement in_loop d of_function n x.0 x.1) x.2.now o
    → Reads the_limits (Statements in_loop d of_function n) (in_block in_loop d of_function n) ts o
InBlock in_loop d n ts (Err e) = (of_function : Bool) → StopsIn (Statements in_loop d of_function n) (in_block in_loop d of_function n) ts e

-- a declaration alone, if there is one
abbrev pub Declaration : (d n : ℕ) → List Token → Result (Option (Locals × ℕ × Bor (List Token))) Stop → Type 0
Declaration d n ts (Ok None) = LacksLocals ts
Declaration d n ts (Ok (Some x)) = (in_loop : Bool) → InBlock in_loop d n ts (Ok (s.Locals x.0, x.1, x.2))
Declaration d n ts (Err e) = (in_loop : Bool) → InBlock in_loop d n ts (Err e)

-- words `volatile` are read away
abbrev pub SkipsVolatiles : (ts us : List Token) → Type 0
SkipsVolatiles ts us = (p : Pos) (n : ℕ) (o : Outcome (Local_at p n)) → Reads the_limits (Local_at p n) (plan (Local_at p n)) us o → Reads the_limits (Local_at p n) (plan (Local_at p n)) ts o

-- ---- statements

-- a statement as the grammar has it
abbrev pub branch : Branch → Numbered tree.Branch
branch b = numbered (record { stmt = b.stmt; is_open = b.is_open }) b.items

abbrev pub branch_and_rest : Branch × Bor (List Token) → Numbered tree.Branch × List Token
branch_and_rest x = (branch x.0, x.1.now)

abbrev pub while_of : ItemAt → Exp → Numbered tree.Branch → Numbered tree.Branch
while_of i c a = numbered (record { stmt = s.While i c a.what.stmt; is_open = a.what.is_open }) a.items

abbrev pub do_of : Numbered tree.Branch → ItemAt → Exp → Numbered tree.Branch
do_of a i c = numbered (tree.closed (s.Do a.what.stmt i c)) (suc a.items)

abbrev pub for_of : ForHead → Numbered tree.Branch → Numbered tree.Branch
for_of h a = numbered (record { stmt = s.For h a.what.stmt; is_open = a.what.is_open }) a.items

abbrev pub first_simple_plan : (n : ℕ) → Plan (For_first n)
first_simple_plan n = call (Simple_at (an_item n)) (λ a. must semicolon (give (numbered (Some (first.Simple (item (suc n) a.pos) a.what)) (suc n))))

-- the first thing that is counted is within its limit
abbrev pub FitsFirst : List Count → Type 0
FitsFirst [] = Unit {0}
FitsFirst (c ∷ cs) = within (the_limits (Limit c.of)) c.number ≡ true

-- a simple statement is read, and the mark behind it
abbrev pub SimpleTo : List Count → Mark → List Token → Result (Pos × Simple × Bor (List Token)) Stop → Type 0
SimpleTo cs m ts (Ok x) =
    (g : Goal) (f : Placed Simple → Plan g) (o : Outcome g) → Reads the_limits g (f (record { pos = x.0; what = x.1 })) x.2.now o → Reads the_limits g (call (Simple_at cs) (λ a. must (The_mark m) (f a))) ts o
SimpleTo cs m ts (Err e) = (g : Goal) (f : Placed Simple → Plan g) → StopsIn g (call (Simple_at cs) (λ a. must (The_mark m) (f a))) ts e

-- the head of a `for` is read, with the number of items behind it
abbrev pub ForHeadRead : ℕ → List Token → Result (ForHead × ℕ × Bor (List Token)) Stop → Type 0
ForHeadRead n ts (Ok x) =
    (in_loop : Bool) (d : ℕ) (o : Outcome (Braceless in_loop d n)) → Reads the_limits (Braceless in_loop d n) (last (A_body true (suc d) x.1) (Braceless in_loop d n) (for_of x.0)) x.2.now o
    → Reads the_limits (Braceless in_loop d n) (behind_for in_loop d n) ts o
ForHeadRead n ts (Err e) = (in_loop : Bool) (d : ℕ) → StopsIn (Braceless in_loop d n) (behind_for in_loop d n) ts e

-- a word is read that is a statement with the `;` behind it
abbrev pub Leaps : Stmt → (d n : ℕ) (us ts : List Token) → Result (Branch × Bor (List Token)) Stop → Type 0
Leaps a d n us ts r =
    (in_loop : Bool) (c : Class) (on : Pos → Of c → Plan (Braceless in_loop d n)) (otherwise : Plan (Braceless in_loop d n)) (p : Pos) (x : Of c)
    → Takes c ts p x us → on p x ≡ must semicolon (give (numbered (tree.closed a) n)) → Following (Braceless in_loop d n) (take c None (these (nested d)) on otherwise) branch_and_rest ts r

-- what begins a statement with a statement in it
abbrev pub keyword_of : Keyword → List ℕ
keyword_of If = codes "if"
keyword_of While = codes "while"
keyword_of Do = codes "do"
keyword_of For = codes "for"

abbrev pub behind_keyword : Keyword → (in_loop : Bool) (d n : ℕ) → Plan (Braceless in_loop d n)
behind_keyword If in_loop d n = behind_if in_loop d n
behind_keyword While in_loop d n = behind_while in_loop d n
behind_keyword Do in_loop d n = behind_do in_loop d n
behind_keyword For in_loop d n = behind_for in_loop d n

abbrev pub LacksKeywords : List Token → Type 0
LacksKeywords ts = Lacks (The_word (codes "if")) ts × Lacks (The_word (codes "while")) ts × Lacks (The_word (codes "do")) ts × Lacks (The_word (codes "for")) ts
