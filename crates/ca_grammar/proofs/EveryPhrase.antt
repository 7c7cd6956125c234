-- The phrases of each program are spelled, whatever follows.
use Rattle.std.proofs.Common.{◌≡◌, ℕ, zero, suc, ◌+◌, ◌≤◌, true, false, not, List, [], ◌∷◌, All, length, Option, Some, None, IfSome, nat_le, nat_lt, codes, arith, refl, sym, subst, ap}
use Rattle.std.proofs.lemmas.Bool.{le-leb, not-true, and_parts, or_right}
use Rattle.std.proofs.lemmas.List.Elements.{All-head, All-tail}
use Rattle.ca_tree.specs.declared.text.Pos.{Pos}
use Rattle.ca_tree.specs.declared.token.Mark.{Mark}
use Rattle.ca_tree.specs.declared.token.Mark.TheVariants as mark
use Rattle.ca_tree.specs.declared.token.Word.{Word}
use Rattle.ca_tree.specs.declared.token.Word.TheVariants as word
use Rattle.ca_tree.specs.declared.token.Token.{Token}
use Rattle.ca_tree.specs.declared.tree.Name.{Name}
use Rattle.ca_tree.specs.declared.tree.Exp.{Exp}
use Rattle.ca_tree.specs.declared.tree.Base.{Base}
use Rattle.ca_tree.specs.declared.tree.Base.TheVariants as base
use Rattle.ca_tree.specs.declared.tree.«Type».{«Type» as CType}
use Rattle.ca_tree.specs.declared.tree.Call.{Call}
use Rattle.ca_tree.specs.declared.tree.Right.{Right}
use Rattle.ca_tree.specs.declared.tree.Right.TheVariants as right
use Rattle.ca_tree.specs.declared.tree.Library.{Library}
use Rattle.ca_tree.specs.declared.tree.Library.TheVariants as library
use Rattle.ca_tree.specs.declared.tree.UpdateOp.{UpdateOp}
use Rattle.ca_tree.specs.declared.tree.UpdateOp.TheVariants as update
use Rattle.ca_tree.specs.declared.tree.Simple.{Simple}
use Rattle.ca_tree.specs.declared.tree.Simple.TheVariants as simple
use Rattle.ca_tree.specs.Lexed.{token}
use Rattle.ca_tree.specs.Places.{start}
use Rattle.ca_tree.specs.declared.counted.Counted.{Counted}
use Rattle.ca_tree.specs.declared.counted.Counted.TheVariants as counted
use Rattle.ca_tree.specs.Counts.{most}
use Rattle.ca_tree.specs.Names.{is_reserved}
use Rattle.ca_tree.specs.TreeWords.{any_words}
use Rattle.ca_tree.specs.ExpressionTrees.{IsName, IsWhole}
use Rattle.ca_tree.specs.PhraseTrees.{IsBase, IsType, IsCall, IsRight, IsLibrary, IsSimple, CanBegin}
use Rattle.ca_grammar.specs.Words.{The_mark, The_word, Takes, Skips, Lacks, open_brace, update_operator}
use Rattle.ca_grammar.specs.Limits.{Limit}
use Rattle.ca_grammar.specs.Phrases.{Names, Addresses, Calls, Targets, Stars, A_base, A_type, Arguments_behind, More_arguments, A_call, Print_arguments, A_count, A_right, An_initializer, A_library_call, A_simple, An_optional_expression, Spells}
use Rattle.ca_grammar.specs.Phrases as phrase
use Rattle.ca_grammar.specs.Laws.{all_kept}
use Rattle.ca_grammar.proofs.Combinators.{can_be, is_can_be}
use Rattle.ca_grammar.proofs.EveryExpression.{at_first, of_mark, name_taken, name_kept, opened, in_parentheses, Whole, whole}

-- ---- tokens, whatever follows

pub record Spelled (S : List Token → List Token → Type 0) : Type 0 where
  pub tokens : List Token → List Token
  pub spells : (us : List Token) → S (tokens us) us

pub spell : {S : List Token → List Token → Type 0} (tokens : List Token → List Token) → ((us : List Token) → S (tokens us) us) → Spelled S
spell tokens s = record { tokens = tokens; spells = s }

-- that begin at a place, and not with `{`
pub record SpelledAt (p : Pos) (S : List Token → List Token → Type 0) : Type 0 where
  pub first : Word
  pub no_brace : can_be open_brace first ≡ false
  pub behind : List Token → List Token
  pub spells : (us : List Token) → S (token p first ∷ behind us) us

pub begin : {p : Pos} {S : List Token → List Token → Type 0} (w : Word) (behind : List Token → List Token) → can_be open_brace w ≡ false → ((us : List Token) → S (token p w ∷ behind us) us) → SpelledAt p S
begin w behind h s = record { first = w; no_brace = h; behind = behind; spells = s }

pub lacks_brace : (p : Pos) (w : Word) (us : List Token) → can_be open_brace w ≡ false → Lacks open_brace (token p w ∷ us)
lacks_brace p w us h q x vs t =
    let heads : token p w ≡ token q t.first = cc (t.parts) in
    let first : t.first ≡ w = sym (ap (λ (u : Token). u.word) heads) in
    let can : can_be open_brace w ≡ true = subst (λ v. can_be open_brace v ≡ true) first (is_can_be open_brace t.first x t.fits) in
    absurd cc

pub allowed_up_to : (of : Counted) (n : ℕ) (ts : List Token) → n ≤ most of → all_kept (Limit of) n ts ≡ true
allowed_up_to of n ts h = or_right (nat_lt (length ts) 0) (nat_le n (most of)) (le-leb n (most of) h)

abbrev pub marked : Mark → List Token → List Token
marked m us = token start (word.Mark m) ∷ us

abbrev pub worded : Pos → List ℕ → List Token → List Token
worded p t us = token p (word.Name t) ∷ us

pub the_mark : (m : Mark) (us : List Token) → Skips (The_mark m) (marked m us) us
the_mark m us = (start, tt, of_mark m start us)

pub the_word_taken : (p : Pos) (t : List ℕ) (us : List Token) → Takes (The_word t) (worded p t us) p tt us
the_word_taken p t us = at_first p (word.Name t) tt us refl

pub the_word : (p : Pos) (t : List ℕ) (us : List Token) → Skips (The_word t) (worded p t us) us
the_word p t us = (p, tt, the_word_taken p t us)

abbrev pub named : Name → List Token → List Token
named n us = worded n.pos n.text us

pub the_name : (n : Name) (us : List Token) → IsName any_words n → Names all_kept (named n us) n.pos n.text us
the_name n us h = record { takes = name_taken n us h; short = name_kept n us h }

-- ---- types

pub base_spelled : (p : Pos) (b : Base) → IsBase any_words b → SpelledAt p (Spells all_kept A_base b)
base_spelled p base.Int h = begin (word.Name (codes "int")) _ refl (λ us. phrase.int_base (the_word p (codes "int") us))
base_spelled p (base.Struct n) h = begin (word.Name (codes "struct")) _ refl (λ us. phrase.struct_base (the_word p (codes "struct") (named n us)) (the_name n us h))

abbrev pub starred : Pos → ℕ → List Token → List Token
starred p zero us = us
starred p (suc n) us = token p (word.Mark mark.Star) ∷ starred p n us

stars_from : (p : Pos) (n j k : ℕ) (us : List Token) → n + j ≡ k → Spells all_kept (Stars j) k (starred p n us) us
stars_from p zero j k us h = subst (λ i. Spells all_kept (Stars j) i us us) (omega (arith, h)) phrase.no_star
stars_from p (suc n) j k us h = phrase.a_star (p, tt, of_mark mark.Star p (starred p n us)) (stars_from p n (suc j) k us (omega (arith, h)))

pub stars_spelled : (p : Pos) (k : ℕ) (us : List Token) → Spells all_kept (Stars 0) k (starred p k us) us
stars_spelled p k us = stars_from p k 0 k us (omega arith)

pub type_spelled : (t : CType) → IsType any_words t → Spelled (Spells all_kept A_type t)
type_spelled t h =
    let b = base_spelled start t.base h in
    spell _ (λ us. phrase.a_type (b.spells (starred start t.stars us)) (stars_spelled start t.stars us))

-- ---- calls and right sides

pub more_arguments : (es : List Exp) → All (IsWhole any_words) es → Spelled (Spells all_kept More_arguments es)
more_arguments [] h = spell _ (λ us. phrase.last_argument (the_mark mark.CloseParen us))
more_arguments (e ∷ es) h =
    let x = whole e (All-head (IsWhole any_words) e es h) in
    let more = more_arguments es (All-tail (IsWhole any_words) e es h) in
    spell _ (λ us. phrase.next_argument (the_mark mark.Comma _) (x.expression start (more.tokens us)) (more.spells us))

pub arguments : (es : List Exp) → All (IsWhole any_words) es → Spelled (Spells all_kept Arguments_behind es)
arguments [] h = spell _ (λ us. phrase.no_arguments (the_mark mark.CloseParen us))
arguments (e ∷ es) h =
    let x = whole e (All-head (IsWhole any_words) e es h) in
    let more = more_arguments es (All-tail (IsWhole any_words) e es h) in
    spell _ (λ us. phrase.some_arguments (x.expression start (more.tokens us)) (more.spells us))

pub call_spelled : (c : Call) → IsCall any_words c → SpelledAt c.name.pos (Spells all_kept A_call c)
call_spelled c h =
    let more = arguments c.arguments h.arguments in
    begin (word.Name c.name.text) _ refl (λ us. phrase.a_call
    (at_first c.name.pos (word.Name c.name.text) c.name.text _
    (refl, not-true (is_reserved c.name.text) (and_parts (not (is_reserved c.name.text)) (nat_le (length c.name.text) 63) h.name).0, h.of_the_source))
    (name_kept c.name (marked mark.OpenParen (more.tokens us)) h.name) (the_mark mark.OpenParen (more.tokens us)) (more.spells us))

pub count_spelled : (c : Option Exp) → IfSome c (IsWhole any_words) → Spelled (Spells all_kept A_count c)
count_spelled None h = spell _ (λ us. phrase.no_count)
count_spelled (Some a) h =
    let x = whole a h in
    spell _ (λ us. phrase.a_count (x.unary start (marked mark.Star us)) (the_mark mark.Star us))

-- `malloc` behind its cast
behind_malloc : (p : Pos) (cast : Option CType) (c : Option Exp) (t : CType) → IfSome c (IsWhole any_words) → IsType any_words t
    → Spelled (Spells all_kept (phrase.Behind_malloc p cast) (record { pos = p; cast = cast; count = c; of = t }))
behind_malloc p cast c t h i =
    let count = count_spelled c h in
    let of = type_spelled t i in
    spell _ (λ us. phrase.a_malloc (the_mark mark.OpenParen _) (count.spells _) (the_word start (codes "sizeof") _) (the_mark mark.OpenParen _) (of.spells _)
    (the_mark mark.CloseParen _) (the_mark mark.CloseParen us))

malloc_spelled : (p : Pos) (cast : Option CType) (c : Option Exp) (t : CType) → IfSome cast (IsType any_words) → IfSome c (IsWhole any_words) → IsType any_words t
    → Spelled (Spells all_kept A_right (right.Malloc (record { pos = p; cast = cast; count = c; of = t })))
malloc_spelled p None c t g h i =
    let more = behind_malloc p None c t h i in
    spell _ (λ us. phrase.plain_malloc (the_word_taken p (codes "malloc") (more.tokens us)) (more.spells us))
malloc_spelled p (Some cast) c t g h i =
    let of = type_spelled cast g in
    let more = behind_malloc p (Some cast) c t h i in
    spell _ (λ us. phrase.cast_malloc (of_mark mark.OpenParen p _) (of.spells _) (the_mark mark.CloseParen _) (the_word start (codes "malloc") (more.tokens us)) (more.spells us))

pub right_spelled : (r : Right) → IsRight any_words r → Spelled (Spells all_kept A_right r)
right_spelled (right.Value a) h =
    let x = whole a h in
    spell _ (λ us. phrase.a_value refl (x.expression start us))
right_spelled (right.Call c) h =
    let x = call_spelled c h in
    spell _ (λ us. phrase.a_called_value (x.spells us))
right_spelled (right.Malloc m) h = malloc_spelled m.pos m.cast m.count m.of h.cast h.count h.of

pub initializer_spelled : (r : Option Right) → IfSome r (IsRight any_words) → Spelled (Spells all_kept An_initializer r)
initializer_spelled None h = spell _ (λ us. phrase.no_initializer)
initializer_spelled (Some r) h =
    let x = right_spelled r h in
    spell _ (λ us. phrase.an_initializer (the_mark mark.Assign (x.tokens us)) (x.spells us))

pub optional_spelled : (a : Option Exp) → IfSome a (IsWhole any_words) → Spelled (Spells all_kept An_optional_expression a)
optional_spelled None h = spell _ (λ us. phrase.no_expression)
optional_spelled (Some a) h =
    let x = whole a h in
    spell _ (λ us. phrase.some_expression (x.expression start us))

-- ---- calls of the library

calls : (p : Pos) (w : List ℕ) (us : List Token) → Calls w (worded p w (marked mark.OpenParen us)) us
calls p w us = record { us = marked mark.OpenParen us; word = the_word p w (marked mark.OpenParen us); paren = the_mark mark.OpenParen us }

addresses : (n : Name) (us : List Token) → IsName any_words n → Addresses all_kept (marked mark.Ampersand (named n us)) n.pos n.text us
addresses n us h = record { us = named n us; ampersand = the_mark mark.Ampersand (named n us); names = the_name n us h }

print_arguments : (k : ℕ) (es : List Exp) → k + length es ≤ most counted.Arguments → All (IsWhole any_words) es → Spelled (Spells all_kept (Print_arguments k) es)
print_arguments k [] i h = spell _ (λ us. phrase.last_print_argument (the_mark mark.CloseParen us))
print_arguments k (e ∷ es) i h =
    let x = whole e (All-head (IsWhole any_words) e es h) in
    let more = print_arguments (suc k) es (omega (arith, i)) (All-tail (IsWhole any_words) e es h) in
    spell _ (λ us. phrase.next_print_argument (the_mark mark.Comma _) (allowed_up_to counted.Arguments (suc k) (opened start (x.inside (more.tokens us))) (omega (arith, i))) (x.expression start (more.tokens us)) (more.spells us))

library_spelled : (p : Pos) (c : Library) → IsLibrary any_words c → SpelledAt p (Spells all_kept A_library_call c)
library_spelled p (library.Lock n) h =
    begin (word.Name (codes "pthread_mutex_lock")) _ refl (λ us. phrase.a_lock (calls p (codes "pthread_mutex_lock") _) (addresses n _ h) (the_mark mark.CloseParen us))
library_spelled p (library.Unlock n) h =
    begin (word.Name (codes "pthread_mutex_unlock")) _ refl (λ us. phrase.an_unlock (calls p (codes "pthread_mutex_unlock") _) (addresses n _ h) (the_mark mark.CloseParen us))
library_spelled p (library.Create n f a) h =
    let x = whole a h.2 in
    begin (word.Name (codes "pthread_create")) _ refl (λ us. phrase.a_create (calls p (codes "pthread_create") _) (addresses n _ h.0) (the_mark mark.Comma _) (the_word start (codes "NULL") _)
    (the_mark mark.Comma _) (the_name f _ h.1) (the_mark mark.Comma _) (x.expression start _) (the_mark mark.CloseParen us))
library_spelled p (library.Join a) h =
    let x = whole a h in
    begin (word.Name (codes "pthread_join")) _ refl (λ us. phrase.a_join (calls p (codes "pthread_join") _) (x.expression start _) (the_mark mark.Comma _) (the_word start (codes "NULL") _) (the_mark mark.CloseParen us))
library_spelled p (library.Free a) h =
    let x = whole a h in
    begin (word.Name (codes "free")) _ refl (λ us. phrase.a_free (calls p (codes "free") _) (x.expression start _) (the_mark mark.CloseParen us))
library_spelled p (library.Assert a) h =
    let x = whole a h in
    begin (word.Name (codes "assert")) _ refl (λ us. phrase.an_assert (calls p (codes "assert") _) (x.expression start _) (the_mark mark.CloseParen us))
library_spelled p (library.Print q t es) h =
    let more = print_arguments 0 es (omega (arith, h.2)) h.3 in
    begin (word.Name (codes "printf")) _ refl (λ us. phrase.a_print (calls p (codes "printf") _) (at_first q (word.Str t) t _ refl) (allowed_up_to counted.StringBytes (length t) (token q (word.Str t) ∷ more.tokens us) h.1) (more.spells us))

-- ---- simple statements

record MarkOfUpdate (o : UpdateOp) : Type 0 where
  sign : Mark
  reads : update_operator (word.Mark sign) ≡ Some o

mark_of_update : (o : UpdateOp) → MarkOfUpdate o
mark_of_update update.Add = record { sign = mark.PlusAssign; reads = refl }
mark_of_update update.Sub = record { sign = mark.MinusAssign; reads = refl }
mark_of_update update.Mul = record { sign = mark.StarAssign; reads = refl }
mark_of_update update.Div = record { sign = mark.SlashAssign; reads = refl }
mark_of_update update.Rem = record { sign = mark.PercentAssign; reads = refl }

targets : {a : Exp} (p : Pos) (x : Whole a) (us : List Token) → Targets all_kept (in_parentheses p a) (opened p (x.inside us)) us
targets p x us = record { unary = x.unary p us; no_call = refl }

pub simple_spelled : (p : Pos) (a : Simple) → IsSimple any_words a → CanBegin a p → SpelledAt p (Spells all_kept A_simple a)
simple_spelled p (simple.Set a r) h i =
    let x = whole a h.0 in
    let y = right_spelled r h.1 in
    begin (word.Mark mark.OpenParen) _ refl (λ us. phrase.a_set (targets p x _) (the_mark mark.Assign (y.tokens us)) (y.spells us))
simple_spelled p (simple.Update a o b) h i =
    let m = mark_of_update o in
    let x = whole a h.0 in
    let y = whole b h.1 in
    begin (word.Mark mark.OpenParen) _ refl (λ us. phrase.an_update (targets p x _) (at_first start (word.Mark m.sign) o _ m.reads) (y.expression start us))
simple_spelled p (simple.Call c) h i =
    let x = call_spelled c h in
    subst (λ q. SpelledAt q (Spells all_kept A_simple (simple.Call c))) (sym i) (begin x.first _ x.no_brace (λ us. phrase.a_called (x.spells us)))
simple_spelled p (simple.Library c) h i =
    let x = library_spelled p c h in
    begin x.first _ x.no_brace (λ us. phrase.a_library_called (x.spells us))
