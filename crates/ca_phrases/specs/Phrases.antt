-- What the readers of phrases answer.
use Rattle.std.specs.Prelude.{ℕ, List, [], Option, Some, None, Result, codes}
use Rattle.std.specs.Borrow.{Bor}
use Rattle.ca_tree.specs.declared.text.Pos.{Pos}
use Rattle.ca_tree.specs.declared.token.Token.{Token}
use Rattle.ca_tree.specs.declared.token.Mark.TheVariants as mark
use Rattle.ca_tree.specs.declared.tree.Name.{Name}
use Rattle.ca_tree.specs.declared.tree.Exp.{Exp}
use Rattle.ca_tree.specs.declared.tree.Exp.TheVariants as e
use Rattle.ca_tree.specs.declared.tree.«Type».{«Type» as CType}
use Rattle.ca_tree.specs.declared.tree.Right.TheVariants as right
use Rattle.ca_tree.specs.declared.tree.Library.{Library}
use Rattle.ca_tree.specs.declared.tree.Library.TheVariants as library
use Rattle.ca_tree.specs.declared.tree.Simple.TheVariants as simple
use Rattle.ca_grammar.specs.declared.faults.Count.{Count}
use Rattle.ca_grammar.specs.Words.{The_mark, The_word, A_name, A_unary_operator, Lacks, null_word, open_paren, close_paren, comma, star}
use Rattle.ca_grammar.specs.Expressions.{name, leaf}
use Rattle.ca_grammar.specs.Goals.{Goal, Behind, From, Unary, Expression, Type_name, Arguments_behind, A_right, Behind_target, Simple_at}
use Rattle.ca_grammar.specs.Plan.{Plan, take, want, call, last, deep, no_counts, and_name}
use Rattle.ca_grammar.specs.PhrasePlans.{must, maybe, simply, value_from, behind_open, behind_lock, behind_one, behind_join, behind_create, behind_print}
use Rattle.ca_expressions.specs.declared.stop.Stop.{Stop}
use Rattle.ca_phrases.specs.declared.library.LibraryWord.{LibraryWord}
use Rattle.ca_phrases.specs.declared.library.LibraryWord.TheVariants as word
use Rattle.ca_expressions.specs.Reading.{Following}
use Rattle.ca_expressions.specs.Parts.{on_literal, on_signed}

-- the count of elements with its `*`, and `sizeof`; and the type in parentheses, with the `)` behind them
abbrev pub on_count : (g : Goal) → (Option Exp → Plan g) → Plan g
on_count g on = maybe (The_word (codes "sizeof")) (on None) (call (Unary []) (λ a. must star (must (The_word (codes "sizeof")) (on (Some a.exp)))))

abbrev pub on_size : (g : Goal) → (CType → Plan g) → Plan g
on_size g on = must open_paren (call Type_name (λ t. must close_paren (must close_paren (on t))))

-- a right side that begins with no name
abbrev pub on_nameless : Plan A_right
on_nameless =
    take open_paren None no_counts (λ p x. behind_open p)
    (take A_unary_operator (deep 2) no_counts (λ p o. on_signed p o A_right (λ a. last (Behind 6 a) A_right (λ b. right.Value b.exp)))
    (on_literal [] A_right value_from))

-- behind a name
abbrev pub on_name : Name → Plan A_right
on_name n = maybe open_paren (last Arguments_behind A_right (λ more. right.Call (record { name = n; arguments = more }))) (value_from (leaf n.pos (e.Name n)))

abbrev pub on_named : (cs : List Count) → Name → Plan (Simple_at cs)
on_named cs n =
    maybe open_paren (last Arguments_behind (Simple_at cs) (λ more. record { pos = n.pos; what = simple.Call (record { name = n; arguments = more }) }))
    (call (From 0 (leaf n.pos (e.Name n))) (λ a. last (Behind_target a) (Simple_at cs) (λ s. record { pos = n.pos; what = s })))

-- `(`, `&` and a name
abbrev pub on_address : (g : Goal) → (Name → Plan g) → Plan g
on_address g on = must open_paren (must (The_mark mark.Ampersand) (want A_name (and_name []) (λ q t. on (name q t))))

-- a name and the `)` behind it
abbrev pub on_mutex : (g : Goal) → (Name → Plan g) → Plan g
on_mutex g on = on_address g (λ n. must close_paren (on n))

-- one expression in parentheses
abbrev pub on_one : (g : Goal) → (Exp → Plan g) → Plan g
on_one g on = must open_paren (call (Expression []) (λ a. must close_paren (on a.exp)))

-- `,` and `NULL`
abbrev pub on_null : (g : Goal) → (Unit {0} → Plan g) → Plan g
on_null g on = must comma (must null_word (on tt))

-- a call of the library is read behind its word
abbrev pub Called : ((cs : List Count) → Pos → Plan (Simple_at cs)) → List Token → Result (Library × Bor (List Token)) Stop → Type 0
Called k ts r = (cs : List Count) (p : Pos) → Following (Simple_at cs) (k cs p) (λ x. (record { pos = p; what = simple.Library x.0 }, x.1.now)) ts r

abbrev pub spelled : LibraryWord → List ℕ
spelled word.Lock = codes "pthread_mutex_lock"
spelled word.Unlock = codes "pthread_mutex_unlock"
spelled word.Create = codes "pthread_create"
spelled word.Join = codes "pthread_join"
spelled word.Free = codes "free"
spelled word.Assert = codes "assert"
spelled word.Print = codes "printf"

abbrev pub behind_word : LibraryWord → (cs : List Count) → Pos → Plan (Simple_at cs)
behind_word word.Lock cs p = behind_lock cs p (λ q t. library.Lock (name q t))
behind_word word.Unlock cs p = behind_lock cs p (λ q t. library.Unlock (name q t))
behind_word word.Create cs p = behind_create cs p
behind_word word.Join cs p = behind_join cs p
behind_word word.Free cs p = behind_one cs p library.Free
behind_word word.Assert cs p = behind_one cs p library.Assert
behind_word word.Print cs p = behind_print cs p

-- the function of a `pthread_create` and its argument, with the `)` behind them
abbrev pub on_started : Name → (cs : List Count) → Pos → Plan (Simple_at cs)
on_started n cs p =
    want A_name (and_name []) (λ r f. must comma (call (Expression []) (λ a. must close_paren (simply cs p (library.Create n (name r f) a.exp)))))

-- tokens begin with no word that calls the library as a statement
pub record LacksCalls (ts : List Token) : Type 0 where
  pub lock : Lacks (The_word (codes "pthread_mutex_lock")) ts
  pub unlock : Lacks (The_word (codes "pthread_mutex_unlock")) ts
  pub create : Lacks (The_word (codes "pthread_create")) ts
  pub join : Lacks (The_word (codes "pthread_join")) ts
  pub free : Lacks (The_word (codes "free")) ts
  pub assert : Lacks (The_word (codes "assert")) ts
  pub print : Lacks (The_word (codes "printf")) ts
