-- What the readers of declarations answer.
use Rattle.std.specs.Prelude.{◌≤◌, ℕ, ℤ, suc, Bool, true, false, List, [], ◌∷◌, Option, Some, None, Result, Ok, Err, MatchResult, codes}
use Rattle.std.specs.Borrow.{Bor}
use Rattle.ca_tree.specs.declared.text.Pos.{Pos}
use Rattle.ca_tree.specs.declared.token.Token.{Token}
use Rattle.ca_tree.specs.declared.token.Mark.{Mark}
use Rattle.ca_tree.specs.declared.token.Mark.TheVariants as mark
use Rattle.ca_tree.specs.declared.tree.Name.{Name}
use Rattle.ca_tree.specs.declared.tree.Base.{Base}
use Rattle.ca_tree.specs.declared.tree.Base.TheVariants as base
use Rattle.ca_tree.specs.declared.tree.MutexDeclarator.{MutexDeclarator}
use Rattle.ca_tree.specs.declared.tree.ThreadDeclarator.{ThreadDeclarator}
use Rattle.ca_tree.specs.declared.tree.GlobalForm.{GlobalForm}
use Rattle.ca_tree.specs.declared.tree.Globals.TheVariants as globals
use Rattle.ca_tree.specs.declared.tree.ParameterType.{ParameterType}
use Rattle.ca_tree.specs.declared.tree.Top.{Top}
use Rattle.ca_tree.specs.declared.tree.Top.TheVariants as top
use Rattle.ca_tree.specs.Counts.{Totals, one_more_global, one_more_mutex}
use Rattle.ca_grammar.specs.declared.faults.Count.{Count}
use Rattle.ca_grammar.specs.Words.{The_mark, The_word, A_number, A_name, comma, assign}
use Rattle.ca_grammar.specs.Limits.{the_limits}
use Rattle.ca_grammar.specs.Goals.{Goal, Tree, Totalled, Stars, Mutexes, Threads, Behind_global, Next_global, Behind_type, Next_parameter, Behind_base, Behind_void}
use Rattle.ca_grammar.specs.Plan.{Plan, take, want, call, no_counts, these, and_name}
use Rattle.ca_grammar.specs.PhrasePlans.{must, maybe}
use Rattle.ca_grammar.specs.DeclarationPlans.{totalled, global, behind_int, behind_struct}
use Rattle.ca_grammar.specs.Reads.{plan, Outcome, Yes, Reads}
use Rattle.ca_expressions.specs.declared.stop.Stop.{Stop}
use Rattle.ca_read.specs.declared.totals.Totals.{Totals as Counted_totals}
use Rattle.ca_expressions.specs.Reading.{StopsIn, Stops, Onward}

abbrev pub totals_of : Counted_totals → Totals
totals_of t = record { items = t.items; functions = t.functions; globals = t.globals; mutexes = t.mutexes; structs = t.structs }

-- no limit of a program is exceeded so far
pub record AreWithin (t : Counted_totals) : Type 0 where
  pub items : t.items ≤ 65536
  pub functions : t.functions ≤ 256
  pub globals : t.globals ≤ 1024
  pub mutexes : t.mutexes ≤ 64
  pub structs : t.structs ≤ 64

-- and the stars before it
abbrev pub StarsAndName : List Token → Result (ℕ × Name × Bor (List Token)) Stop → Type 0
StarsAndName ts (Ok x) = (g : Goal) (on : ℕ → Pos → List ℕ → Plan g) (o : Outcome g) → Reads the_limits g (on x.0 x.1.pos x.1.text) x.2.now o
    → Reads the_limits g (call (Stars 0) (λ k. want A_name (and_name []) (on k))) ts o
StarsAndName ts (Err e) = (g : Goal) (on : ℕ → Pos → List ℕ → Plan g) → StopsIn g (call (Stars 0) (λ k. want A_name (and_name []) (on k))) ts e

-- a comma and more of a list, or the mark behind it
abbrev pub comma_or : {g : Goal} → Mark → List Count → Plan g → Plan g → Plan g
comma_or m cs k l = take comma None (these cs) (λ p x. k) (want (The_mark m) (these cs) (λ p x. l))

abbrev pub Separated : Mark → List Count → List Token → Bool → List Token → Type 0
Separated m cs ts true us = (g : Goal) (k l : Plan g) (o : Outcome g) → Reads the_limits g k us o → Reads the_limits g (comma_or m cs k l) ts o
Separated m cs ts false us = (g : Goal) (k l : Plan g) (o : Outcome g) → Reads the_limits g l us o → Reads the_limits g (comma_or m cs k l) ts o

abbrev pub Separates : Mark → List Count → List Token → Result (Bool × Bor (List Token)) Stop → Type 0
Separates m cs ts (Ok x) = Separated m cs ts x.0 x.1.now
Separates m cs ts (Err e) = (g : Goal) (k l : Plan g) → StopsIn g (comma_or m cs k l) ts e

-- One of a list is read: behind it more of them are read as q, or it is the last and the tree is e.
abbrev pub OneOf : (q g : Goal) (turn : Tree q → Tree g) (e : Tree g) → Bool → (us ts : List Token) → Type 0
OneOf q g turn e true us ts = Onward q g turn (plan g) us ts
OneOf q g turn e false us ts = Reads the_limits g (plan g) ts (Yes e us)

-- an initializer of a mutex, if one is there
abbrev pub initialized : {g : Goal} → (Bool → Plan g) → Plan g
initialized k = maybe assign (must (The_word (codes "PTHREAD_MUTEX_INITIALIZER")) (k true)) (k false)

abbrev pub Initializes : List Token → Result (Bool × Bor (List Token)) Stop → Type 0
Initializes ts (Ok x) = (g : Goal) (k : Bool → Plan g) (o : Outcome g) → Reads the_limits g (k x.0) x.1.now o → Reads the_limits g (initialized k) ts o
Initializes ts (Err e) = (g : Goal) (k : Bool → Plan g) → StopsIn g (initialized k) ts e

abbrev pub AMutex : Totals → List Token → Result (MutexDeclarator × Bool × Bor (List Token)) Stop → Type 0
AMutex t ts r = MatchResult r
    (λ x. OneOf (Mutexes (one_more_mutex t)) (Mutexes t) (λ m. totalled (x.0 ∷ m.what) m.totals) (totalled (x.0 ∷ []) (one_more_mutex t)) x.1 x.2.now ts)
    (λ e. Stops (Mutexes t) ts e)

-- a length, if one is there, with what is counted at its `[`, and else at the token behind
abbrev pub sized : {g : Goal} → List Count → (List Count → Option ℤ → Plan g) → Plan g
sized cs k = take (The_mark mark.OpenBracket) None (these cs) (λ q y. want A_number no_counts (λ r i. must (The_mark mark.CloseBracket) (k [] (Some i)))) (k cs None)

abbrev pub Sizes : List Count → List Token → Result (Option ℤ × Bor (List Count) × Bor (List Token)) Stop → Type 0
Sizes cs ts (Ok x) = (g : Goal) (k : List Count → Option ℤ → Plan g) (o : Outcome g) → Reads the_limits g (k x.1.now x.0) x.2.now o → Reads the_limits g (sized cs k) ts o
Sizes cs ts (Err e) = (g : Goal) (k : List Count → Option ℤ → Plan g) → StopsIn g (sized cs k) ts e

abbrev pub AThread : Totals → List Token → Result (ThreadDeclarator × Bool × Bor (List Token)) Stop → Type 0
AThread t ts r = MatchResult r
    (λ x. OneOf (Threads (one_more_global t)) (Threads t) (λ m. totalled (x.0 ∷ m.what) m.totals) (totalled (x.0 ∷ []) (one_more_global t)) x.1 x.2.now ts)
    (λ e. Stops (Threads t) ts e)

-- the form of a global whose stars and name are read
abbrev pub AForm : (b : Base) (k : ℕ) (n : Name) → Totals → List Token → Result (GlobalForm × Bool × Bor (List Token)) Stop → Type 0
AForm b k n t ts r = MatchResult r
    (λ x. OneOf (Next_global b (one_more_global t)) (Behind_global b k n t) (λ m. totalled (global k n x.0 ∷ m.what) m.totals) (totalled (global k n x.0 ∷ []) (one_more_global t)) x.1 x.2.now ts)
    (λ e. Stops (Behind_global b k n t) ts e)

-- the type of a parameter that is no pointer to void
abbrev pub valued : {g : Goal} → (ParameterType → Plan g) → Plan g
valued {g} f = maybe (The_word (codes "int")) (behind_int g 0 f) (must (The_word (codes "struct")) (behind_struct g 0 f))

abbrev pub IsValued : List Token → Result (ParameterType × Bor (List Token)) Stop → Type 0
IsValued ts (Ok x) = (g : Goal) (f : ParameterType → Plan g) (o : Outcome g) → Reads the_limits g (f x.0) x.1.now o → Reads the_limits g (valued f) ts o
IsValued ts (Err e) = (g : Goal) (f : ParameterType → Plan g) → StopsIn g (valued f) ts e

abbrev pub AType : ℕ → List Token → Result (ParameterType × Bor (List Token)) Stop → Type 0
AType j ts r = MatchResult r (λ x. Onward (Behind_type x.0 j) (Next_parameter j) (λ ds. ds) (plan (Next_parameter j)) x.1.now ts) (λ e. Stops (Next_parameter j) ts e)

-- the name of a parameter whose type is read, if one is there
abbrev pub AParameterName : (of : ParameterType) (j : ℕ) → List Token → Result (Option Name × Bool × Bor (List Token)) Stop → Type 0
AParameterName of j ts r = MatchResult r
    (λ x. OneOf (Next_parameter (suc j)) (Behind_type of j) (λ ds. record { of = of; name = x.0 } ∷ ds) (record { of = of; name = x.0 } ∷ []) x.1 x.2.now ts)
    (λ e. Stops (Behind_type of j) ts e)

-- a declaration of globals or a function whose first word is `pthread_mutex_t`, `pthread_t`, `void` or `int`
abbrev pub declared : {g : Goal} → (t : Totals) → (Totalled Top → Plan g) → Plan g → Plan g
declared t f otherwise =
    maybe (The_word (codes "pthread_mutex_t")) (call (Mutexes t) (λ m. f (totalled (top.Globals (globals.Mutexes m.what)) m.totals)))
    (maybe (The_word (codes "pthread_t")) (call (Threads t) (λ m. f (totalled (top.Globals (globals.Threads m.what)) m.totals)))
    (maybe (The_word (codes "void")) (call (Behind_void t) f)
    (maybe (The_word (codes "int")) (call (Behind_base base.Int t) f) otherwise)))

abbrev pub Declared : Totals → List Token → Option (Top × Counted_totals × Bor (List Token)) → Type 0
Declared t ts (Some x) = (g : Goal) (f : Totalled Top → Plan g) (k : Plan g) (o : Outcome g) → Reads the_limits g (f (totalled x.0 (totals_of x.1))) x.2.now o → Reads the_limits g (declared t f k) ts o
Declared t ts None = (g : Goal) (f : Totalled Top → Plan g) (k : Plan g) (o : Outcome g) → Reads the_limits g k ts o → Reads the_limits g (declared t f k) ts o

abbrev pub Declares : Totals → List Token → Result (Option (Top × Counted_totals × Bor (List Token))) Stop → Type 0
Declares t ts (Ok x) = Declared t ts x
Declares t ts (Err e) = (g : Goal) (f : Totalled Top → Plan g) (k : Plan g) → StopsIn g (declared t f k) ts e

-- the tokens behind a `static` or a `volatile`
abbrev pub Qualifies : List Token → Option (Bor (List Token)) → Type 0
Qualifies ts (Some us) = (g : Goal) (k l : Plan g) (o : Outcome g) → Reads the_limits g k us.now o → Reads the_limits g (maybe (The_word (codes "static")) k (maybe (The_word (codes "volatile")) k l)) ts o
Qualifies ts None = (g : Goal) (k l : Plan g) (o : Outcome g) → Reads the_limits g l ts o → Reads the_limits g (maybe (The_word (codes "static")) k (maybe (The_word (codes "volatile")) k l)) ts o
