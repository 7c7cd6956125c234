-- What a reader at the end, or at the beginning, of another answers; and the first token that tells two steps apart.
use Rattle.std.proofs.Common.{◌≡◌, ℕ, false, List, Option, Some, None, Result, Ok, Err, sym, ap, ◌∙◌}
use Rattle.std.specs.Str.{bytes_eq}
use Rattle.std.proofs.lemmas.Bool.{false≢true}
use Rattle.std.proofs.lemmas.Slice.Eq.{bytes_eq-Decides}
use Rattle.ca_tree.specs.declared.text.Pos.{Pos}
use Rattle.ca_tree.specs.declared.token.Mark.{Mark}
use Rattle.ca_tree.specs.declared.token.Token.{Token}
use Rattle.ca_tree.specs.Lexed.{token}
use Rattle.ca_grammar.specs.Words.{The_mark, The_word, Takes, Lacks}
use Rattle.ca_grammar.specs.Limits.{Rule, the_limits, Star}
use Rattle.ca_grammar.specs.Goals.{Goal, Tree}
use Rattle.ca_grammar.specs.Plan.{Plan, give}
use Rattle.ca_grammar.specs.Reads.{plan, Yes, No, Reads, gives}
use Rattle.ca_expressions.specs.declared.stop.Stop.{Stop}
use Rattle.ca_expressions.specs.declared.stop.Stop.TheVariants.{At, Over, NoMemory, Starless}
use Rattle.ca_expressions.specs.Reading.{StopsIn, Following, Reading, Beginning}

abbrev pub Fails : (g : Goal) (r : Option Rule) (ts us : List Token) → Type 0
Fails g r ts us = Reads the_limits g (plan g) ts (No r us)

abbrev pub Gives : (g : Goal) (a : Tree g) (ts us : List Token) → Type 0
Gives g a ts us = Reads the_limits g (plan g) ts (Yes a us)

-- where a plan stops, one that comes to it stops
pub pass : {g q : Goal} {j : Plan q} {k : Plan g} {ts us : List Token} (s : Stop) → ((r : Option Rule) (vs : List Token) → Reads the_limits q j us (No r vs) → Reads the_limits g k ts (No r vs))
    → StopsIn q j us s → StopsIn g k ts s
pass (At vs) f h = f None vs.now h
pass (Over c vs) f h = (h.0, f (Some h.0) vs.now h.1, h.2)
pass (Starless vs) f h = f (Some Star) vs.now h
pass NoMemory f h = tt

-- what is read in one goal is read in another, from other tokens on
pub follow_on : {X : Type 0} (q g : Goal) (j : Plan q) (k : Plan g) (view : X → Tree q × List Token) (other : X → Tree g × List Token) (us ts : List Token) (r : Result X Stop)
    → ((x : X) → Reads the_limits q j us (Yes (view x).0 (view x).1) → Reads the_limits g k ts (Yes (other x).0 (other x).1))
    → ((r : Option Rule) (vs : List Token) → Reads the_limits q j us (No r vs) → Reads the_limits g k ts (No r vs)) → Following q j view us r → Following g k other ts r
follow_on q g j k view other us ts (Ok x) y n d = y x d
follow_on q g j k view other us ts (Err e) y n d = pass e n d

-- the same for whole goals
pub read_on : {X : Type 0} (q g : Goal) (view : X → Tree q × List Token) (other : X → Tree g × List Token) (us ts : List Token) (r : Result X Stop)
    → ((x : X) → Gives q (view x).0 us (view x).1 → Gives g (other x).0 ts (other x).1) → ((r : Option Rule) (vs : List Token) → Fails q r us vs → Fails g r ts vs) → Reading q view us r → Reading g other ts r
read_on q g view other us ts r y n d = follow_on q g (plan q) (plan g) view other us ts r y n d

-- what begins a plan that does nothing more
pub begun : {A X : Type 0} (k : (g : Goal) → (A → Plan g) → Plan g) (view : X → A × List Token) (g : Goal) (f : A → Tree g) (us : List Token) (r : Result X Stop) → Beginning k view us r
    → Following g (k g (λ a. give (f a))) (λ x. (f (view x).0, (view x).1)) us r
begun k view g f us (Ok x) h = h g (λ a. give (f a)) _ gives
begun k view g f us (Err e) h = h g (λ a. give (f a))

-- tokens that begin with one mark begin with no other
pub other_mark : (m n : Mark) (p : Pos) (ts us : List Token) → (m ≡ n → ⊥) → Takes (The_mark m) ts p tt us → Lacks (The_mark n) ts
other_mark m n p ts us h t = λ q y vs u.
    let firsts : token p t.first ≡ token q u.first = cc in
    let words : t.first ≡ u.first = ap (λ (x : Token). x.word) firsts in
    let marks : m ≡ n = cc (words, t.fits, u.fits) in
    h marks

-- tokens that begin with one word begin with no other, and with no mark
pub other_word : (s t : List ℕ) (p : Pos) (ts us : List Token) → bytes_eq s t ≡ false → Takes (The_word s) ts p tt us → Lacks (The_word t) ts
other_word s t p ts us h x = λ q y vs z.
    let firsts : token p x.first ≡ token q z.first = cc in
    let words : x.first ≡ z.first = ap (λ (w : Token). w.word) firsts in
    let texts : s ≡ t = cc (words, x.fits, z.fits) in
    false≢true (sym h ∙ (bytes_eq-Decides s t).1 texts)

pub no_mark : (s : List ℕ) (m : Mark) (p : Pos) (ts us : List Token) → Takes (The_word s) ts p tt us → Lacks (The_mark m) ts
no_mark s m p ts us x = λ q y vs z.
    let firsts : token p x.first ≡ token q z.first = cc in
    let words : x.first ≡ z.first = ap (λ (w : Token). w.word) firsts in
    absurd (cc (words, x.fits, z.fits))
