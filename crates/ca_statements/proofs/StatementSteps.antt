-- Steps of the readers of statements and locals, over plain variables.
use Rattle.std.proofs.Common.{◌≡◌, ℕ, zero, suc, ◌<◌, Bool, true, false, List, [], ◌∷◌, ◌++◌, Option, Some, None, Result, Ok, Err, codes, refl, sym, ap, subst, ◌∙◌, arith, append_assoc}
use Rattle.std.specs.Prelude.{if◌then◌else◌}
use Rattle.std.proofs.lemmas.Bool.Decides.{nat_tests}
use Rattle.ca_tree.specs.declared.text.Pos.{Pos}
use Rattle.ca_tree.specs.declared.token.Token.{Token}
use Rattle.ca_tree.specs.declared.tree.Base.{Base}
use Rattle.ca_tree.specs.declared.tree.Name.{Name}
use Rattle.ca_tree.specs.declared.tree.LocalDeclarator.{LocalDeclarator}
use Rattle.ca_tree.specs.declared.tree.ThreadLocal.{ThreadLocal}
use Rattle.ca_tree.specs.declared.tree.Locals.TheVariants as locals
use Rattle.ca_tree.specs.declared.tree.Base.TheVariants as base
use Rattle.ca_grammar.specs.declared.faults.Count.{Count}
use Rattle.ca_grammar.specs.declared.operand.Operand.{Operand}
use Rattle.ca_grammar.specs.Limits.{Rule, the_limits}
use Rattle.ca_grammar.specs.Words.{Class, Of, The_word, A_name, Takes, Lacks, comma, semicolon, close_brace}
use Rattle.ca_grammar.specs.Goals.{Goal, Starred, Primary, Level, Nameless_unary, Expression, Starred_name, Simple_at, First_declarator, More_declarators, Variables_at, More_threads, Threads_at, Local_at, Numbered, Statements, A_body, Braceless, Condition, Else_part, Tree}
use Rattle.ca_grammar.specs.Plan.{Plan, give, take, want, call, last, no_counts, these, deep, and_name}
use Rattle.ca_grammar.specs.StatementPlans.{numbered, an_item, nested, nested_item, behind_locals, behind_statement, at_close, if_closed, without_else, with_else, simply_said}
use Rattle.ca_grammar.specs.Reads.{plan, Outcome, Yes, No, Reads, exceeded, first_exceeded, firm_exceeded, or_else, gives, takes, overs, passes, wants, calls, fails}
use Rattle.std.proofs.lemmas.List.{append-nil}
use Rattle.std.specs.Borrow.{Bor}
use Rattle.ca_tree.specs.declared.tree.Locals.{Locals}
use Rattle.ca_tree.specs.declared.tree.Stmt.{Stmt}
use Rattle.ca_tree.specs.declared.tree.Stmt.TheVariants as s
use Rattle.ca_tree.specs.declared.tree.Exp.{Exp}
use Rattle.ca_tree.specs.declared.tree.ItemAt.{ItemAt}
use Rattle.ca_tree.specs.declared.token.Mark.TheVariants as mark
use Rattle.ca_tree.specs.StatementTrees.{item, closed}
use Rattle.ca_tree.specs.StatementTrees as tree
use Rattle.ca_statements.specs.declared.statements.Branch.{Branch}
use Rattle.ca_statements.specs.declared.statements.Keyword.{Keyword}
use Rattle.ca_statements.specs.declared.statements.Keyword.TheVariants.{If, While, Do, For}
use Rattle.ca_grammar.specs.Expressions.{name}
use Rattle.ca_expressions.specs.declared.stop.Stop.{Stop}
use Rattle.ca_statements.specs.declared.locals.LocalsWord.{LocalsWord}
use Rattle.ca_statements.specs.declared.locals.LocalsWord.TheVariants.{Volatile, Threads, Int, Struct}
use Rattle.ca_expressions.specs.Reading.{Onward, Following, Reading}
use Rattle.ca_expressions.proofs.Following.{pass, follow_on, other_word, no_mark}
use Rattle.ca_statements.specs.StatementReading.{FitsFirst, LacksLocals, Declaration, while_of, do_of, LocalsBehind, behind_comma, name_behind_comma, behind_word, word_of, in_block, branch_and_rest, keyword_of, behind_keyword, SkipsVolatiles}

-- ---- what is counted at the first token of what is read is within its limit

within_if : (b : Bool) (x : Option Rule) (r : Rule) → (if b then x else Some r) ≡ None → b ≡ true
within_if true x r e = refl
within_if false x r e = absurd cc

of_these : (cs : List Count) → first_exceeded the_limits cs ≡ None → FitsFirst cs
of_these [] e = tt
of_these (c ∷ cs) e = within_if _ _ _ e

of_named : (cs ds : List Count) → first_exceeded the_limits (cs ++ ds) ≡ None → FitsFirst cs
of_named [] ds e = tt
of_named (c ∷ cs) ds e = within_if _ _ _ e

of_both : (cs ds es : List Count) → first_exceeded the_limits ((cs ++ ds) ++ es) ≡ None → FitsFirst cs
of_both [] ds es e = tt
of_both (c ∷ cs) ds es e = within_if _ _ _ e

behind_firm : (f r : Option Rule) → or_else f r ≡ None → r ≡ None
behind_firm None r e = e
behind_firm (Some s) r e = absurd cc

abbrev IsRead : (g : Goal) (ts us : List Token) (a : Tree g) → Type 0
IsRead g ts us a = Reads the_limits g (plan g) ts (Yes a us)

fits_primary : (cs : List Count) (v : ℕ) (inside : Bool) (ts us : List Token) (a : Operand) → IsRead (Primary cs v inside) ts us a → FitsFirst cs
fits_primary cs v inside ts us a (takes t e d) = of_these cs (behind_firm _ _ e)
fits_primary cs v inside ts us a (passes n (takes t e d)) = of_these cs e
fits_primary cs v inside ts us a (passes n (passes m (takes t e d))) = of_named cs _ e
fits_primary cs v inside ts us a (passes n (passes m (passes k (wants t e d)))) = of_these cs e

fits_level : (l : ℕ) (cs : List Count) (v : ℕ) (inside : Bool) (ts us : List Token) (a : Operand) → IsRead (Level l cs v inside) ts us a → FitsFirst cs
fits_level zero cs v inside ts us a (takes t e d) = of_these cs (behind_firm _ _ e)
fits_level zero cs v inside ts us a (passes n (calls (calls p q) r)) = fits_primary cs v inside _ _ _ p
fits_level (suc l) cs v inside ts us a (calls p q) = fits_level l cs v inside _ _ _ p

fits_nameless : (cs : List Count) (ts us : List Token) (a : Operand) → IsRead (Nameless_unary cs) ts us a → FitsFirst cs
fits_nameless cs ts us a (takes t e d) = of_these cs (behind_firm (firm_exceeded the_limits (deep 2)) _ e)
fits_nameless cs ts us a (passes n (takes t e d)) = of_these cs (behind_firm (firm_exceeded the_limits (deep 1)) _ e)
fits_nameless cs ts us a (passes n (passes m (takes t e d))) = of_these cs e
fits_nameless cs ts us a (passes n (passes m (passes k (wants t e d)))) = of_these cs e

fits_expression : (cs : List Count) (ts us : List Token) (a : Operand) → IsRead (Expression cs) ts us a → FitsFirst cs
fits_expression cs ts us a (calls p q) = fits_level 6 cs 0 false _ _ _ p

fits_starred : (cs : List Count) (b : Base) (ts us : List Token) (a : Starred) → IsRead (Starred_name cs [] b) ts us a → FitsFirst cs
fits_starred cs base.Int ts us a (takes t e d) = of_these cs e
fits_starred cs base.Int ts us a (passes n (wants t e d)) = of_both cs [] _ e
fits_starred cs (base.Struct x) ts us a (wants t e d) = of_these cs e

pub fits_simple : (cs : List Count) (ts us : List Token) (a : Tree (Simple_at cs)) → IsRead (Simple_at cs) ts us a → FitsFirst cs
fits_simple cs ts us a (takes t e d) = of_these cs e
fits_simple cs ts us a (passes n (takes t e d)) = of_these cs e
fits_simple cs ts us a (passes n (passes m (takes t e d))) = of_these cs e
fits_simple cs ts us a (passes n (passes m (passes k (takes t e d)))) = of_these cs e
fits_simple cs ts us a (passes n (passes m (passes k (passes i (takes t e d))))) = of_these cs e
fits_simple cs ts us a (passes n (passes m (passes k (passes i (passes j (takes t e d)))))) = of_these cs e
fits_simple cs ts us a (passes n (passes m (passes k (passes i (passes j (passes w (takes t e d))))))) = of_these cs e
fits_simple cs ts us a (passes n (passes m (passes k (passes i (passes j (passes w (passes x (takes t e d)))))))) = of_these cs e
fits_simple cs ts us a (passes n (passes m (passes k (passes i (passes j (passes w (passes x (passes y (takes t e d))))))))) = of_named cs _ e
fits_simple cs ts us a (passes n (passes m (passes k (passes i (passes j (passes w (passes x (passes y (passes z (calls p q)))))))))) = fits_nameless cs _ _ _ p

pub item_fits : (n : ℕ) (cs : List Count) → FitsFirst (an_item n ++ cs) → n < 65536
item_fits n cs h = grind (arith, nat_tests)

pub item_of_expression : (n : ℕ) (ts us : List Token) (a : Operand) → IsRead (Expression (an_item n)) ts us a → n < 65536
item_of_expression n ts us a d = item_fits n [] (fits_expression (an_item n) ts us a d)

pub item_of_starred : (n : ℕ) (b : Base) (ts us : List Token) (a : Starred) → IsRead (Starred_name (an_item n) [] b) ts us a → n < 65536
item_of_starred n b ts us a d = item_fits n [] (fits_starred (an_item n) b ts us a d)

-- ---- declarations of locals

abbrev pub AtDeclarators : (b : Base) (p : Pos) (n : ℕ) (all : List LocalDeclarator) (m : ℕ) (us ts : List Token) → Type 0
AtDeclarators b p n all m us ts = Onward (More_declarators b m) (Variables_at b p n) (λ x. numbered (locals.Variables b (all ++ x.what)) x.items) (plan (Variables_at b p n)) us ts

pub begins_declarators : (b : Base) (p : Pos) (n m : ℕ) (all none : List LocalDeclarator) (l : LocalDeclarator) (us ts : List Token) → m ≡ suc n → none ≡ [] → all ≡ none ++ (l ∷ [])
    → IsRead (First_declarator b p n) ts us l → AtDeclarators b p n all m us ts
begins_declarators b p n m all none l us ts e i j d =
    let one : all ≡ l ∷ [] = j ∙ ap (λ z. z ++ (l ∷ [])) i in
    subst (λ m. AtDeclarators b p n all m us ts) (sym e) (subst (λ z. AtDeclarators b p n z (suc n) us ts) (sym one) (record { yes = λ x vs r. calls d (calls r gives); no = λ r vs x. calls d (fails x) }))

pub declarator_read : (b : Base) (p q : Pos) (n m k : ℕ) (all more : List LocalDeclarator) (l : LocalDeclarator) (us vs ws ts : List Token) → k ≡ suc m → more ≡ all ++ (l ∷ []) → Takes comma us q tt vs
    → ((o : Outcome (More_declarators b m)) → Reads the_limits (More_declarators b m) (last (More_declarators b (suc m)) (More_declarators b m) (λ x. numbered (l ∷ x.what) x.items)) ws o
    → Reads the_limits (More_declarators b m) (behind_comma b m) vs o)
    → AtDeclarators b p n all m us ts → AtDeclarators b p n more k ws ts
declarator_read b p q n m k all more l us vs ws ts e i t f h = subst (λ k. AtDeclarators b p n more k ws ts) (sym e) (subst (λ z. AtDeclarators b p n z (suc m) ws ts) (sym i) (record {
  yes = λ x xs r. subst (λ z. Reads the_limits (Variables_at b p n) (plan (Variables_at b p n)) ts (Yes (numbered (locals.Variables b z) x.items) xs)) (sym (append_assoc all (l ∷ []) x.what))
      (h.yes (numbered (l ∷ x.what) x.items) xs (takes t refl (f (Yes (numbered (l ∷ x.what) x.items) xs) (calls r gives))));
  no = λ r xs d. h.no r xs (takes t refl (f (No r xs) (fails d)));
}))

pub declarator_fails : (b : Base) (p q : Pos) (n m : ℕ) (all : List LocalDeclarator) (us vs ws ts : List Token) (r : Option Rule) → Takes comma us q tt vs
    → Reads the_limits (More_declarators b m) (behind_comma b m) vs (No r ws) → AtDeclarators b p n all m us ts → Reads the_limits (Variables_at b p n) (plan (Variables_at b p n)) ts (No r ws)
declarator_fails b p q n m all us vs ws ts r t d h = h.no r ws (takes t refl d)

pub declarators_end : (b c : Base) (p : Pos) (n m : ℕ) (all : List LocalDeclarator) (us ts : List Token) → c ≡ b → Lacks comma us → AtDeclarators b p n all m us ts
    → IsRead (Variables_at b p n) ts us (numbered (locals.Variables c all) m)
declarators_end b c p n m all us ts e l h =
    subst (λ c. IsRead (Variables_at b p n) ts us (numbered (locals.Variables c all) m)) (sym e)
    (subst (λ z. IsRead (Variables_at b p n) ts us (numbered (locals.Variables b z) m)) (append-nil all) (h.yes (numbered [] m) us (passes l gives)))

abbrev pub AtThreads : (p : Pos) (n : ℕ) (all : List ThreadLocal) (m : ℕ) (us ts : List Token) → Type 0
AtThreads p n all m us ts = Onward (More_threads m) (Threads_at p n) (λ x. numbered (locals.Threads (all ++ x.what)) x.items) (plan (Threads_at p n)) us ts

pub begins_threads : (p : Pos) (n m : ℕ) (all none : List ThreadLocal) (l : ThreadLocal) (x : Name) (us ts : List Token) → m ≡ suc n → none ≡ [] → all ≡ none ++ (l ∷ []) → l ≡ record { item = item (suc n) p; name = x }
    → ((on : Pos → List ℕ → Plan (Threads_at p n)) (o : Outcome (Threads_at p n)) → Reads the_limits (Threads_at p n) (on x.pos x.text) us o
    → Reads the_limits (Threads_at p n) (want A_name (and_name []) on) ts o)
    → AtThreads p n all m us ts
begins_threads p n m all none l x us ts e i j k f =
    let one : all ≡ record { item = item (suc n) p; name = x } ∷ [] = j ∙ (ap (λ z. z ++ (l ∷ [])) i ∙ ap (λ z. z ∷ []) k) in
    subst (λ m. AtThreads p n all m us ts) (sym e) (subst (λ z. AtThreads p n z (suc n) us ts) (sym one) (record { yes = λ y vs r. f _ (Yes _ vs) (calls r gives); no = λ r vs y. f _ (No r vs) (fails y) }))

pub thread_read : (p q : Pos) (n m k : ℕ) (all more : List ThreadLocal) (l : ThreadLocal) (us vs ws ts : List Token) → k ≡ suc m → more ≡ all ++ (l ∷ []) → Takes comma us q tt vs
    → ((o : Outcome (More_threads m)) → Reads the_limits (More_threads m) (last (More_threads (suc m)) (More_threads m) (λ x. numbered (l ∷ x.what) x.items)) ws o
    → Reads the_limits (More_threads m) (name_behind_comma m) vs o)
    → AtThreads p n all m us ts → AtThreads p n more k ws ts
thread_read p q n m k all more l us vs ws ts e i t f h = subst (λ k. AtThreads p n more k ws ts) (sym e) (subst (λ z. AtThreads p n z (suc m) ws ts) (sym i) (record {
  yes = λ x xs r. subst (λ z. Reads the_limits (Threads_at p n) (plan (Threads_at p n)) ts (Yes (numbered (locals.Threads z) x.items) xs)) (sym (append_assoc all (l ∷ []) x.what))
      (h.yes (numbered (l ∷ x.what) x.items) xs (takes t refl (f (Yes (numbered (l ∷ x.what) x.items) xs) (calls r gives))));
  no = λ r xs d. h.no r xs (takes t refl (f (No r xs) (fails d)));
}))

pub thread_fails : (p q : Pos) (n m : ℕ) (all : List ThreadLocal) (us vs ws ts : List Token) (r : Option Rule) → Takes comma us q tt vs
    → Reads the_limits (More_threads m) (name_behind_comma m) vs (No r ws) → AtThreads p n all m us ts → Reads the_limits (Threads_at p n) (plan (Threads_at p n)) ts (No r ws)
thread_fails p q n m all us vs ws ts r t d h = h.no r ws (takes t refl d)

pub threads_end : (p : Pos) (n m : ℕ) (all : List ThreadLocal) (us ts : List Token) → Lacks comma us → AtThreads p n all m us ts → IsRead (Threads_at p n) ts us (numbered (locals.Threads all) m)
threads_end p n m all us ts l h =
    subst (λ z. Reads the_limits (Threads_at p n) (plan (Threads_at p n)) ts (Yes (numbered (locals.Threads z) m) us)) (append-nil all) (h.yes (numbered [] m) us (passes l gives))

volatile_again : (q p : Pos) (n : ℕ) (us vs : List Token) (o : Outcome (Local_at p n)) → Takes (The_word (codes "volatile")) us q tt vs → Reads the_limits (Local_at p n) (plan (Local_at p n)) vs o
    → Reads the_limits (Local_at p n) (plan (Local_at p n)) us o
volatile_again q p n us vs (Yes l ws) t d = takes t refl (calls d gives)
volatile_again q p n us vs (No r ws) t d = takes t refl (fails d)

pub volatile_skipped : (q : Pos) (us vs ts : List Token) → Takes (The_word (codes "volatile")) us q tt vs → SkipsVolatiles ts us → SkipsVolatiles ts vs
volatile_skipped q us vs ts t h = λ p n o d. h p n o (volatile_again q p n us vs o t d)

-- ---- what begins a declaration

abbrev AtBlock : (in_loop : Bool) (d : ℕ) (of_function : Bool) (n : ℕ) (ts : List Token) (o : Outcome (Statements in_loop d of_function n)) → Type 0
AtBlock in_loop d of_function n ts o = Reads the_limits (Statements in_loop d of_function n) (in_block in_loop d of_function n) ts o

pub at_word : (w : LocalsWord) (in_loop : Bool) (d : ℕ) (of_function : Bool) (n : ℕ) (p : Pos) (ts us : List Token) (o : Outcome (Statements in_loop d of_function n)) → Takes (The_word (word_of w)) ts p tt us
    → exceeded the_limits (nested_item n d) None ≡ None → Reads the_limits (Statements in_loop d of_function n) (behind_word w p n (behind_locals in_loop d of_function n)) us o → AtBlock in_loop d of_function n ts o
at_word Volatile in_loop d of_function n p ts us o t e r = takes t e r
at_word Threads in_loop d of_function n p ts us o t e r = passes (other_word (codes "pthread_t") (codes "volatile") p ts us refl t) (takes t e r)
at_word Int in_loop d of_function n p ts us o t e r =
    passes (other_word (codes "int") (codes "volatile") p ts us refl t) (passes (other_word (codes "int") (codes "pthread_t") p ts us refl t) (takes t e r))
at_word Struct in_loop d of_function n p ts us o t e r =
    passes (other_word (codes "struct") (codes "volatile") p ts us refl t) (passes (other_word (codes "struct") (codes "pthread_t") p ts us refl t)
    (passes (other_word (codes "struct") (codes "int") p ts us refl t) (takes t e r)))

pub word_over : (w : LocalsWord) (in_loop : Bool) (d : ℕ) (of_function : Bool) (n : ℕ) (p : Pos) (ts us : List Token) (r : Rule) → Takes (The_word (word_of w)) ts p tt us
    → exceeded the_limits (nested_item n d) None ≡ Some r → AtBlock in_loop d of_function n ts (No (Some r) ts)
word_over Volatile in_loop d of_function n p ts us r t e = overs t e
word_over Threads in_loop d of_function n p ts us r t e = passes (other_word (codes "pthread_t") (codes "volatile") p ts us refl t) (overs t e)
word_over Int in_loop d of_function n p ts us r t e =
    passes (other_word (codes "int") (codes "volatile") p ts us refl t) (passes (other_word (codes "int") (codes "pthread_t") p ts us refl t) (overs t e))
word_over Struct in_loop d of_function n p ts us r t e =
    passes (other_word (codes "struct") (codes "volatile") p ts us refl t) (passes (other_word (codes "struct") (codes "pthread_t") p ts us refl t)
    (passes (other_word (codes "struct") (codes "int") p ts us refl t) (overs t e)))

abbrev LocalsAnswer : Type 0
LocalsAnswer = Result (Locals × ℕ × Bor (List Token)) Stop

pub volatile_behind : (p : Pos) (n : ℕ) (ts : List Token) (r : LocalsAnswer) → Reading (Local_at p n) (λ x. (numbered x.0 x.1, x.2.now)) ts r → LocalsBehind Volatile p n ts r
volatile_behind p n ts (Ok x) d = λ g f o k. calls d k
volatile_behind p n ts (Err e) d = λ g f. pass e (λ r vs y. fails y) d

pub threads_behind : (p : Pos) (n : ℕ) (ts : List Token) (r : LocalsAnswer) → Reading (Threads_at p n) (λ x. (numbered x.0 x.1, x.2.now)) ts r → LocalsBehind Threads p n ts r
threads_behind p n ts (Ok x) d = λ g f o k. calls d k
threads_behind p n ts (Err e) d = λ g f. pass e (λ r vs y. fails y) d

pub int_behind : (p : Pos) (n : ℕ) (ts : List Token) (r : LocalsAnswer) → Reading (Variables_at base.Int p n) (λ x. (numbered x.0 x.1, x.2.now)) ts r → LocalsBehind Int p n ts r
int_behind p n ts (Ok x) d = λ g f o k. calls d k
int_behind p n ts (Err e) d = λ g f. pass e (λ r vs y. fails y) d

abbrev pub TagRead : Name → (us ts : List Token) → Type 0
TagRead x us ts = (g : Goal) (on : Pos → List ℕ → Plan g) (o : Outcome g) → Reads the_limits g (on x.pos x.text) us o → Reads the_limits g (want A_name (and_name []) on) ts o

pub struct_behind : (p : Pos) (n : ℕ) (x : Name) (us ts : List Token) (r : LocalsAnswer) → TagRead x us ts → Reading (Variables_at (base.Struct x) p n) (λ x. (numbered x.0 x.1, x.2.now)) us r → LocalsBehind Struct p n ts r
struct_behind p n x us ts (Ok y) t d = λ g f o k. t g (λ q s. call (Variables_at (base.Struct (name q s)) p n) f) o (calls d k)
struct_behind p n x us ts (Err e) t d = λ g f. pass e (λ r vs y. t g (λ q s. call (Variables_at (base.Struct (name q s)) p n) f) (No r vs) (fails y)) d

-- ---- statements

-- the same tree under another name
pub answers : (g : Goal) (k : Plan g) (ts us : List Token) (a b : Tree g) → a ≡ b → Reads the_limits g k ts (Yes b us) → Reads the_limits g k ts (Yes a us)
answers g k ts us a b e d = subst (λ z. Reads the_limits g k ts (Yes z us)) (sym e) d

-- behind a word that is a statement
pub leaps : (in_loop : Bool) (d n : ℕ) (c : Class) (on : Pos → Of c → Plan (Braceless in_loop d n)) (otherwise : Plan (Braceless in_loop d n)) (p : Pos) (x : Of c) (k : Plan (Braceless in_loop d n)) (o : Outcome (Braceless in_loop d n))
    (ts us : List Token) (cs : List Count) → Takes c ts p x us → on p x ≡ k → exceeded the_limits cs None ≡ None → Reads the_limits (Braceless in_loop d n) k us o
    → Reads the_limits (Braceless in_loop d n) (take c None (these cs) on otherwise) ts o
leaps in_loop d n c on otherwise p x k o ts us cs t e f r = takes t f (subst (λ z. Reads the_limits (Braceless in_loop d n) z us o) (sym e) r)

-- in a loop, where no `break` stands
abbrev pub continue_or_simple : (d n : ℕ) → Plan (Braceless true d n)
continue_or_simple d n = take (The_word (codes "continue")) None (these (nested d)) (λ p x. want semicolon no_counts (λ q y. give (numbered (closed (s.Continue p)) n))) (simply_said true d n)

-- behind the word of a statement with a statement in it
at_keyword : (w : Keyword) (in_loop : Bool) (d n : ℕ) (p : Pos) (ts us : List Token) (o : Outcome (Braceless in_loop d n)) → Takes (The_word (keyword_of w)) ts p tt us → exceeded the_limits (nested d) None ≡ None
    → Reads the_limits (Braceless in_loop d n) (behind_keyword w in_loop d n) us o → Reads the_limits (Braceless in_loop d n) (plan (Braceless in_loop d n)) ts o
at_keyword If in_loop d n p ts us o t e r = passes (no_mark (codes "if") mark.Semicolon p ts us t) (passes (other_word (codes "if") (codes "return") p ts us refl t) (takes t e r))
at_keyword While in_loop d n p ts us o t e r =
    passes (no_mark (codes "while") mark.Semicolon p ts us t) (passes (other_word (codes "while") (codes "return") p ts us refl t) (passes (other_word (codes "while") (codes "if") p ts us refl t) (takes t e r)))
at_keyword Do in_loop d n p ts us o t e r =
    passes (no_mark (codes "do") mark.Semicolon p ts us t) (passes (other_word (codes "do") (codes "return") p ts us refl t) (passes (other_word (codes "do") (codes "if") p ts us refl t)
    (passes (other_word (codes "do") (codes "while") p ts us refl t) (takes t e r))))
at_keyword For in_loop d n p ts us o t e r =
    passes (no_mark (codes "for") mark.Semicolon p ts us t) (passes (other_word (codes "for") (codes "return") p ts us refl t) (passes (other_word (codes "for") (codes "if") p ts us refl t)
    (passes (other_word (codes "for") (codes "while") p ts us refl t) (passes (other_word (codes "for") (codes "do") p ts us refl t) (takes t e r)))))

pub keyword_over : (w : Keyword) (in_loop : Bool) (d n : ℕ) (p : Pos) (ts us : List Token) (r : Rule) → Takes (The_word (keyword_of w)) ts p tt us → exceeded the_limits (nested d) None ≡ Some r
    → Reads the_limits (Braceless in_loop d n) (plan (Braceless in_loop d n)) ts (No (Some r) ts)
keyword_over If in_loop d n p ts us r t e = passes (no_mark (codes "if") mark.Semicolon p ts us t) (passes (other_word (codes "if") (codes "return") p ts us refl t) (overs t e))
keyword_over While in_loop d n p ts us r t e =
    passes (no_mark (codes "while") mark.Semicolon p ts us t) (passes (other_word (codes "while") (codes "return") p ts us refl t) (passes (other_word (codes "while") (codes "if") p ts us refl t) (overs t e)))
keyword_over Do in_loop d n p ts us r t e =
    passes (no_mark (codes "do") mark.Semicolon p ts us t) (passes (other_word (codes "do") (codes "return") p ts us refl t) (passes (other_word (codes "do") (codes "if") p ts us refl t)
    (passes (other_word (codes "do") (codes "while") p ts us refl t) (overs t e))))
keyword_over For in_loop d n p ts us r t e =
    passes (no_mark (codes "for") mark.Semicolon p ts us t) (passes (other_word (codes "for") (codes "return") p ts us refl t) (passes (other_word (codes "for") (codes "if") p ts us refl t)
    (passes (other_word (codes "for") (codes "while") p ts us refl t) (passes (other_word (codes "for") (codes "do") p ts us refl t) (overs t e)))))

pub keyword_read : (w v : Keyword) (in_loop : Bool) (d n : ℕ) (p : Pos) (ts us : List Token) (r : Result (Branch × Bor (List Token)) Stop) → w ≡ v → Takes (The_word (keyword_of w)) ts p tt us
    → exceeded the_limits (nested d) None ≡ None → Following (Braceless in_loop d n) (behind_keyword v in_loop d n) branch_and_rest us r → Reading (Braceless in_loop d n) branch_and_rest ts r
keyword_read w v in_loop d n p ts us r e t f h =
    let g = Braceless in_loop d n in
    follow_on g g (behind_keyword w in_loop d n) (plan g) branch_and_rest branch_and_rest us ts r (λ x k. at_keyword w in_loop d n p ts us _ t f k) (λ r vs k. at_keyword w in_loop d n p ts us (No r vs) t f k)
    (subst (λ w. Following g (behind_keyword w in_loop d n) branch_and_rest us r) (sym e) h)

-- ---- the `else` of an `if`

module _ (in_loop : Bool) (d : ℕ) (i : ItemAt) (c : Exp) (a : tree.Branch) (n : ℕ) where
  abbrev pub AtElse : (ts : List Token) (o : Outcome (Else_part in_loop d i c a n)) → Type 0
  AtElse ts o = Reads the_limits (Else_part in_loop d i c a n) (plan (Else_part in_loop d i c a n)) ts o

  abbrev WithOpen : (b : Bool) (ts : List Token) (o : Outcome (Else_part in_loop d i c a n)) → Type 0
  WithOpen b ts o = Reads the_limits (Else_part in_loop d i c a n) (if_closed in_loop d i c a n b) ts o

  pub open_if : (ts : List Token) → a.is_open ≡ true → AtElse ts (Yes (numbered (without_else i c a) n) ts)
  open_if ts e = subst (λ b. WithOpen b ts (Yes (numbered (without_else i c a) n) ts)) (sym e) gives

  no_else_there : (b : Bool) (ts : List Token) → Lacks (The_word (codes "else")) ts → WithOpen b ts (Yes (numbered (without_else i c a) n) ts)
  no_else_there true ts l = gives
  no_else_there false ts l = passes l gives

  pub no_else : (ts : List Token) → Lacks (The_word (codes "else")) ts → AtElse ts (Yes (numbered (without_else i c a) n) ts)
  no_else ts l = no_else_there a.is_open ts l

  pub else_fails : (p : Pos) (ts us vs : List Token) (r : Option Rule) → a.is_open ≡ false → Takes (The_word (codes "else")) ts p tt us → Reads the_limits (A_body in_loop (suc d) n) (plan (A_body in_loop (suc d) n)) us (No r vs) → AtElse ts (No r vs)
  else_fails p ts us vs r e t k = subst (λ b. WithOpen b ts (No r vs)) (sym e) (takes t refl (fails k))

  pub else_read : (p : Pos) (ts us vs : List Token) (b : Numbered tree.Branch) → a.is_open ≡ false → Takes (The_word (codes "else")) ts p tt us → IsRead (A_body in_loop (suc d) n) us vs b
      → AtElse ts (Yes (numbered (with_else i c a b.what) b.items) vs)
  else_read p ts us vs b e t k = subst (λ x. WithOpen x ts (Yes (numbered (with_else i c a b.what) b.items) vs)) (sym e) (takes t refl (calls k gives))

-- ---- the statements of a block

abbrev pub AtStatements : (in_loop : Bool) (d : ℕ) (of_function : Bool) (n : ℕ) (all : List Stmt) (m : ℕ) (us ts : List Token) → Type 0
AtStatements in_loop d of_function n all m us ts =
    Onward (Statements in_loop d of_function m) (Statements in_loop d of_function n) (λ x. record { pos = x.pos; what = numbered (all ++ x.what.what) x.what.items }) (plan (Statements in_loop d of_function n)) us ts

pub begins_statements : (in_loop : Bool) (d : ℕ) (of_function : Bool) (n : ℕ) (all : List Stmt) (ts : List Token) → all ≡ [] → AtStatements in_loop d of_function n all n ts ts
begins_statements in_loop d of_function n all ts e = subst (λ z. AtStatements in_loop d of_function n z n ts ts) (sym e) (record { yes = λ x vs r. r; no = λ r vs x. x })

pub statement_read : (in_loop : Bool) (d : ℕ) (of_function : Bool) (n m k : ℕ) (all more : List Stmt) (a : Stmt) (us ws ts : List Token) → more ≡ all ++ (a ∷ []) → Lacks close_brace us
    → ((f : Bool) (o : Outcome (Statements in_loop d f m)) → Reads the_limits (Statements in_loop d f m) (behind_statement in_loop d f m a k) ws o → AtBlock in_loop d f m us o)
    → AtStatements in_loop d of_function n all m us ts → AtStatements in_loop d of_function n more k ws ts
statement_read in_loop d of_function n m k all more a us ws ts e l f h = subst (λ z. AtStatements in_loop d of_function n z k ws ts) (sym e) (record {
  yes = λ x xs r. subst (λ z. Reads the_limits (Statements in_loop d of_function n) (plan (Statements in_loop d of_function n)) ts (Yes (record { pos = x.pos; what = numbered z x.what.items }) xs)) (sym (append_assoc all (a ∷ []) x.what.what))
      (h.yes (record { pos = x.pos; what = numbered (a ∷ x.what.what) x.what.items }) xs (passes l (f of_function (Yes (record { pos = x.pos; what = numbered (a ∷ x.what.what) x.what.items }) xs) (calls r gives))));
  no = λ r xs x. h.no r xs (passes l (f of_function (No r xs) (fails x)));
})

pub statement_fails : (in_loop : Bool) (d : ℕ) (of_function : Bool) (n m : ℕ) (all : List Stmt) (us vs ts : List Token) (r : Option Rule) → Lacks close_brace us → AtBlock in_loop d of_function m us (No r vs)
    → AtStatements in_loop d of_function n all m us ts → Reads the_limits (Statements in_loop d of_function n) (plan (Statements in_loop d of_function n)) ts (No r vs)
statement_fails in_loop d of_function n m all us vs ts r l x h = h.no r vs (passes l x)

pub close_over : (in_loop : Bool) (d : ℕ) (of_function : Bool) (n m : ℕ) (all : List Stmt) (p : Pos) (us vs ts : List Token) (r : Rule) → Takes close_brace us p tt vs → exceeded the_limits (at_close of_function m) None ≡ Some r
    → AtStatements in_loop d of_function n all m us ts → Reads the_limits (Statements in_loop d of_function n) (plan (Statements in_loop d of_function n)) ts (No (Some r) us)
close_over in_loop d of_function n m all p us vs ts r t e h = h.no (Some r) us (overs t e)

pub statements_end : (in_loop : Bool) (d : ℕ) (of_function : Bool) (n m : ℕ) (all : List Stmt) (p : Pos) (us vs ts : List Token) → Takes close_brace us p tt vs → exceeded the_limits (at_close of_function m) None ≡ None
    → AtStatements in_loop d of_function n all m us ts → IsRead (Statements in_loop d of_function n) ts vs (record { pos = p; what = numbered all m })
statements_end in_loop d of_function n m all p us vs ts t e h =
    subst (λ z. IsRead (Statements in_loop d of_function n) ts vs (record { pos = p; what = numbered z m })) (append-nil all) (h.yes (record { pos = p; what = numbered [] m }) vs (takes t e gives))

-- ---- statements with a statement in them, behind their word

abbrev BranchAnswer : Type 0
BranchAnswer = Result (Branch × Bor (List Token)) Stop

pub if_read : (in_loop : Bool) (d n k m : ℕ) (c : Operand) (i : ItemAt) (a : Numbered tree.Branch) (ts us vs : List Token) (r : BranchAnswer) → i ≡ item (suc n) c.pos → k ≡ suc d → m ≡ suc n → IsRead (Condition n) ts us c
    → IsRead (A_body in_loop k m) us vs a → Reading (Else_part in_loop d i c.exp a.what a.items) branch_and_rest vs r → Following (Braceless in_loop d n) (behind_keyword If in_loop d n) branch_and_rest ts r
if_read in_loop d n k m c i a ts us vs r e f h x y z =
    let body : IsRead (A_body in_loop (suc d) (suc n)) us vs a = subst (λ m. IsRead (A_body in_loop (suc d) m) us vs a) h (subst (λ k. IsRead (A_body in_loop k m) us vs a) f y) in
    let q = Else_part in_loop d (item (suc n) c.pos) c.exp a.what a.items in
    let rest : Reading q branch_and_rest vs r = subst (λ i. Reading (Else_part in_loop d i c.exp a.what a.items) branch_and_rest vs r) e z in
    follow_on q (Braceless in_loop d n) (plan q) (behind_keyword If in_loop d n) branch_and_rest branch_and_rest vs ts r (λ o w. calls x (calls body (calls w gives))) (λ o us w. calls x (calls body (fails w))) rest

pub while_read : (in_loop : Bool) (d n k m : ℕ) (c : Operand) (i : ItemAt) (a b : Numbered tree.Branch) (ts us vs : List Token) → i ≡ item (suc n) c.pos → k ≡ suc d → m ≡ suc n → b ≡ while_of i c.exp a
    → IsRead (Condition n) ts us c → IsRead (A_body true k m) us vs a → Reads the_limits (Braceless in_loop d n) (behind_keyword While in_loop d n) ts (Yes b vs)
while_read in_loop d n k m c i a b ts us vs e f h j x y =
    let body : IsRead (A_body true (suc d) (suc n)) us vs a = subst (λ m. IsRead (A_body true (suc d) m) us vs a) h (subst (λ k. IsRead (A_body true k m) us vs a) f y) in
    answers (Braceless in_loop d n) (behind_keyword While in_loop d n) ts vs b _ (j ∙ ap (λ i. while_of i c.exp a) e) (calls x (calls body gives))

pub do_read : (in_loop : Bool) (d n k : ℕ) (c : Operand) (i : ItemAt) (a b : Numbered tree.Branch) (p q : Pos) (ts us vs ws xs : List Token) → i ≡ item (suc a.items) c.pos → k ≡ suc d → b ≡ do_of a i c.exp
    → IsRead (A_body true k n) ts us a → Takes (The_word (codes "while")) us p tt vs → IsRead (Condition a.items) vs ws c → Takes semicolon ws q tt xs
    → Reads the_limits (Braceless in_loop d n) (behind_keyword Do in_loop d n) ts (Yes b xs)
do_read in_loop d n k c i a b p q ts us vs ws xs e f j y t x u =
    let body : IsRead (A_body true (suc d) n) ts us a = subst (λ k. IsRead (A_body true k n) ts us a) f y in
    answers (Braceless in_loop d n) (behind_keyword Do in_loop d n) ts xs b _ (j ∙ ap (λ i. do_of a i c.exp) e) (calls body (wants t refl (calls x (wants u refl gives))))

pub no_declaration : (d n : ℕ) (ts : List Token) (r : Option (Locals × ℕ × Bor (List Token))) → ((x : Locals × ℕ × Bor (List Token)) → r ≡ Some x → ⊥) → Declaration d n ts (Ok r) → LacksLocals ts
no_declaration d n ts None f h = h
no_declaration d n ts (Some x) f h = absurd (f x refl)
