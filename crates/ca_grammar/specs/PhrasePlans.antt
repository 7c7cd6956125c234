-- How types, calls, right sides and simple statements are read.
use Rattle.std.specs.Prelude.{ℕ, suc, false, true, List, [], ◌∷◌, ◌++◌, length, Option, Some, None, codes}
use Rattle.ca_tree.specs.declared.text.Pos.{Pos}
use Rattle.ca_tree.specs.declared.token.Mark.TheVariants as mark
use Rattle.ca_tree.specs.declared.tree.Exp.{Exp}
use Rattle.ca_tree.specs.declared.tree.Exp.TheVariants as e
use Rattle.ca_tree.specs.declared.tree.Base.{Base}
use Rattle.ca_tree.specs.declared.tree.Base.TheVariants as base
use Rattle.ca_tree.specs.declared.tree.«Type».{«Type» as CType}
use Rattle.ca_tree.specs.declared.tree.Right.TheVariants as right
use Rattle.ca_tree.specs.declared.tree.Library.{Library}
use Rattle.ca_tree.specs.declared.tree.Library.TheVariants as library
use Rattle.ca_tree.specs.declared.tree.Simple.TheVariants as simple
use Rattle.ca_grammar.specs.declared.faults.Count.{Count}
use Rattle.ca_tree.specs.declared.counted.Counted.TheVariants.{Arguments, StringBytes}
use Rattle.ca_grammar.specs.declared.operand.Operand.{Operand}
use Rattle.ca_grammar.specs.Words.{Class, The_mark, The_word, A_number, A_string, A_name, A_name_of_the_source, A_unary_operator, An_update_operator, A_step_operator, null_word, open_paren, close_paren, comma, star, assign}
use Rattle.ca_grammar.specs.Expressions.{name, leaf, parenthesised, unary}
use Rattle.ca_grammar.specs.Phrases.{one}
use Rattle.ca_grammar.specs.Goals.{Goal, Level, Behind, From, Unary, Nameless_unary, Expression, Stars, Starred_name, Base_at, Type_name, Arguments_behind, More_arguments, Print_arguments, Behind_malloc, A_right, Initializer, Behind_target, Simple_at}
use Rattle.ca_grammar.specs.Plan.{Plan, give, take, want, call, last, deep, no_counts, these, and_name, counted}

-- a mark or a word that has to be there, and then the rest
abbrev pub must : {g : Goal} → Class → Plan g → Plan g
must c f = want c no_counts (λ p x. f)

-- one that may be there
abbrev pub maybe : {g : Goal} → Class → Plan g → Plan g → Plan g
maybe c f otherwise = take c None no_counts (λ p x. f) otherwise

abbrev pub a_word : List ℕ → Class
a_word t = The_word t

abbrev pub on_stars : (k : ℕ) → Plan (Stars k)
on_stars k = maybe star (last (Stars (suc k)) (Stars k) (λ n. n)) (give k)

-- behind the first star at p
abbrev pub behind_star : (cs at_name : List Count) (b : Base) (p : Pos) → Plan (Starred_name cs at_name b)
behind_star cs at_name b p = call (Stars 1) (λ k. want A_name (and_name at_name) (λ q t. give (record { pos = p; stars = k; name = name q t })))

abbrev pub on_starred_name : (cs at_name : List Count) (b : Base) → Plan (Starred_name cs at_name b)
on_starred_name cs at_name base.Int =
    take star None (these cs) (λ p x. behind_star cs at_name base.Int p)
    (want A_name (and_name (cs ++ at_name)) (λ q t. give (record { pos = q; stars = 0; name = name q t })))
on_starred_name cs at_name (base.Struct n) = want star (these cs) (λ p x. behind_star cs at_name (base.Struct n) p)

abbrev pub on_base : (cs : List Count) → Plan (Base_at cs)
on_base cs =
    take (The_word (codes "int")) None (these cs) (λ p x. give (record { pos = p; what = base.Int }))
    (want (The_word (codes "struct")) (these cs) (λ p x. want A_name (and_name []) (λ q t. give (record { pos = p; what = base.Struct (name q t) }))))

abbrev pub on_type_name : Plan Type_name
on_type_name = call (Base_at []) (λ b. call (Stars 0) (λ k. give (record { base = b.what; stars = k })))

abbrev pub on_arguments : Plan Arguments_behind
on_arguments = maybe close_paren (give []) (call (Expression []) (λ a. last More_arguments Arguments_behind (λ more. a.exp ∷ more)))

abbrev pub on_more_arguments : Plan More_arguments
on_more_arguments = maybe comma (call (Expression []) (λ a. last More_arguments More_arguments (λ more. a.exp ∷ more))) (must close_paren (give []))

abbrev pub on_print_arguments : (k : ℕ) → Plan (Print_arguments k)
on_print_arguments k =
    maybe comma (call (Expression (counted Arguments (suc k) ∷ [])) (λ a. last (Print_arguments (suc k)) (Print_arguments k) (λ more. a.exp ∷ more))) (must close_paren (give []))

abbrev pub behind_sizeof : (p : Pos) (cast : Option CType) (c : Option Exp) → Plan (Behind_malloc p cast)
behind_sizeof p cast c = must open_paren (call Type_name (λ t. must close_paren (must close_paren (give (record { pos = p; cast = cast; count = c; of = t })))))

abbrev pub on_malloc : (p : Pos) (cast : Option CType) → Plan (Behind_malloc p cast)
on_malloc p cast =
    must open_paren (maybe (The_word (codes "sizeof")) (behind_sizeof p cast None) (call (Unary []) (λ a. must star (must (The_word (codes "sizeof")) (behind_sizeof p cast (Some a.exp))))))

abbrev pub value_from : Operand → Plan A_right
value_from a = last (From 6 a) A_right (λ b. right.Value b.exp)

abbrev pub behind_cast : (p : Pos) (b : Base) → Plan A_right
behind_cast p b = call (Stars 0) (λ k. must close_paren (must (The_word (codes "malloc")) (last (Behind_malloc p (Some (record { base = b; stars = k }))) A_right right.Malloc)))

abbrev pub behind_open : (p : Pos) → Plan A_right
behind_open p =
    maybe (The_word (codes "int")) (behind_cast p base.Int)
    (maybe (The_word (codes "struct")) (want A_name (and_name []) (λ q t. behind_cast p (base.Struct (name q t))))
    (call (Level 6 [] 0 true) (λ a. must close_paren (value_from (parenthesised p a)))))

abbrev pub on_right : Plan A_right
on_right =
    take (The_word (codes "malloc")) None no_counts (λ p x. last (Behind_malloc p None) A_right right.Malloc)
    (take A_name_of_the_source None (and_name []) (λ p t.
    maybe open_paren (last Arguments_behind A_right (λ more. right.Call (record { name = name p t; arguments = more }))) (value_from (leaf p (e.Name (name p t)))))
    (take open_paren None no_counts (λ p x. behind_open p)
    (take A_unary_operator (deep 2) no_counts (λ p o. call (Level 0 [] 1 false) (λ a. last (Behind 6 (unary p o a)) A_right (λ b. right.Value b.exp)))
    (take null_word None no_counts (λ p x. value_from (leaf p (e.Null p)))
    (want A_number no_counts (λ p n. value_from (leaf p (e.Number p n))))))))

abbrev pub on_initializer : Plan Initializer
on_initializer = maybe assign (last A_right Initializer (λ r. Some r)) (give None)

abbrev pub on_target : (a : Operand) → Plan (Behind_target a)
on_target a =
    maybe assign (last A_right (Behind_target a) (λ r. simple.Set a.exp r))
    (take An_update_operator None no_counts (λ p o. last (Expression []) (Behind_target a) (λ b. simple.Update a.exp o b.exp))
    (want A_step_operator no_counts (λ p o. give (simple.Update a.exp o (one p)))))

abbrev pub simply : (cs : List Count) → Pos → Library → Plan (Simple_at cs)
simply cs p l = give (record { pos = p; what = simple.Library l })

-- a mutex behind the word, or the one expression in its parentheses
abbrev pub behind_lock : (cs : List Count) → Pos → (Pos → List ℕ → Library) → Plan (Simple_at cs)
behind_lock cs p f = must open_paren (must (The_mark mark.Ampersand) (want A_name (and_name []) (λ q t. must close_paren (simply cs p (f q t)))))

abbrev pub behind_one : (cs : List Count) → Pos → (Exp → Library) → Plan (Simple_at cs)
behind_one cs p f = must open_paren (call (Expression []) (λ a. must close_paren (simply cs p (f a.exp))))

abbrev pub behind_join : (cs : List Count) → Pos → Plan (Simple_at cs)
behind_join cs p = must open_paren (call (Expression []) (λ a. must comma (must null_word (must close_paren (simply cs p (library.Join a.exp))))))

abbrev pub behind_create : (cs : List Count) → Pos → Plan (Simple_at cs)
behind_create cs p =
    must open_paren (must (The_mark mark.Ampersand) (want A_name (and_name []) (λ q t. must comma (must null_word (must comma
    (want A_name (and_name []) (λ r f. must comma (call (Expression []) (λ a. must close_paren (simply cs p (library.Create (name q t) (name r f) a.exp)))))))))))

abbrev pub behind_print : (cs : List Count) → Pos → Plan (Simple_at cs)
behind_print cs p =
    must open_paren (want A_string (λ t. counted StringBytes (length t) ∷ []) (λ q t. call (Print_arguments 0) (λ more. simply cs p (library.Print q t more))))

abbrev pub on_target_or_call : (cs : List Count) → Plan (Simple_at cs)
on_target_or_call cs =
    take A_step_operator None (these cs) (λ p o. last (Unary []) (Simple_at cs) (λ a. record { pos = p; what = simple.Update a.exp o (one p) }))
    (take A_name_of_the_source None (and_name cs) (λ p t.
    maybe open_paren (last Arguments_behind (Simple_at cs) (λ more. record { pos = p; what = simple.Call (record { name = name p t; arguments = more }) }))
    (call (From 0 (leaf p (e.Name (name p t)))) (λ a. last (Behind_target a) (Simple_at cs) (λ s. record { pos = p; what = s }))))
    (call (Nameless_unary cs) (λ a. last (Behind_target a) (Simple_at cs) (λ s. record { pos = a.start; what = s }))))

abbrev pub on_simple : (cs : List Count) → Plan (Simple_at cs)
on_simple cs =
    take (The_word (codes "pthread_mutex_lock")) None (these cs) (λ p x. behind_lock cs p (λ q t. library.Lock (name q t)))
    (take (The_word (codes "pthread_mutex_unlock")) None (these cs) (λ p x. behind_lock cs p (λ q t. library.Unlock (name q t)))
    (take (The_word (codes "pthread_create")) None (these cs) (λ p x. behind_create cs p)
    (take (The_word (codes "pthread_join")) None (these cs) (λ p x. behind_join cs p)
    (take (The_word (codes "free")) None (these cs) (λ p x. behind_one cs p library.Free)
    (take (The_word (codes "assert")) None (these cs) (λ p x. behind_one cs p library.Assert)
    (take (The_word (codes "printf")) None (these cs) (λ p x. behind_print cs p)
    (on_target_or_call cs)))))))
