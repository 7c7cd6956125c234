-- How phrases are read.
use Rattle.std.proofs.Common.{◌≡◌, ℕ, suc, ◌+◌, List, [], ◌∷◌, ◌++◌, Option, Some, None, Result, Ok, Err, refl, sym, subst, arith, append_assoc, append-nil, length, length-append}
use Rattle.std.specs.Borrow.{Bor}
use Rattle.ca_tree.specs.declared.text.Pos.{Pos}
use Rattle.ca_tree.specs.declared.token.Mark.TheVariants as mark
use Rattle.ca_tree.specs.declared.token.Token.{Token}
use Rattle.ca_tree.specs.declared.tree.Name.{Name}
use Rattle.ca_tree.specs.declared.tree.Exp.{Exp}
use Rattle.ca_tree.specs.declared.tree.Base.{Base}
use Rattle.ca_tree.specs.declared.tree.Base.TheVariants as base
use Rattle.ca_grammar.specs.declared.faults.Count.{Count}
use Rattle.ca_tree.specs.declared.counted.Counted.TheVariants.{Arguments}
use Rattle.ca_grammar.specs.declared.operand.Operand.{Operand}
use Rattle.ca_grammar.specs.Words.{The_mark, The_word, Takes, Lacks, open_paren, star, comma, close_paren}
use Rattle.ca_grammar.specs.Limits.{Rule, the_limits}
use Rattle.ca_grammar.specs.Expressions.{name}
use Rattle.ca_grammar.specs.Goals.{Expression, Stars, Starred_name, Arguments_behind, More_arguments, Print_arguments, Simple_at}
use Rattle.ca_grammar.specs.Plan.{Plan, take, these, counted}
use Rattle.ca_grammar.specs.PhrasePlans.{behind_star, on_target_or_call}
use Rattle.ca_grammar.specs.Reads.{plan, Outcome, No, Reads, exceeded, gives, takes, overs, passes, wants, exceeds, calls, fails}
use Rattle.ca_expressions.specs.declared.stop.Stop.{Stop}
use Rattle.ca_phrases.specs.declared.library.LibraryWord.{LibraryWord}
use Rattle.ca_phrases.specs.declared.library.LibraryWord.TheVariants as word
use Rattle.ca_expressions.specs.Reading.{Onward, WantsName, Beginning}
use Rattle.ca_phrases.specs.Phrases.{LacksCalls, on_address, spelled, behind_word}
use Rattle.ca_expressions.proofs.Following.{pass, Fails, Gives, other_word}

-- ---- stars

abbrev pub AtStars : (k m : ℕ) (us ts : List Token) → Type 0
AtStars k m us ts = Onward (Stars k) (Stars m) (λ n. n) (plan (Stars m)) us ts

pub next_star : (k l m : ℕ) (p : Pos) (us vs ts : List Token) → l ≡ suc k → Takes star us p tt vs → AtStars k m us ts → AtStars l m vs ts
next_star k l m p us vs ts e t h = subst (λ l. AtStars l m vs ts) (sym e) (record {
  yes = λ n ws r. h.yes n ws (takes t refl (calls r gives));
  no = λ r ws x. h.no r ws (takes t refl (fails x));
})

-- behind the first star before a name
pub star_taken : (b : Base) (cs at_name : List Count) (p : Pos) (ts us : List Token) (o : Outcome (Starred_name cs at_name b)) → Takes star ts p tt us → exceeded the_limits cs None ≡ None
    → Reads the_limits (Starred_name cs at_name b) (behind_star cs at_name b p) us o → Reads the_limits (Starred_name cs at_name b) (plan (Starred_name cs at_name b)) ts o
star_taken base.Int cs at_name p ts us o t e d = takes t e d
star_taken (base.Struct n) cs at_name p ts us o t e d = wants t e d

pub star_over : (b : Base) (cs at_name : List Count) (p : Pos) (ts us : List Token) (r : Rule) → Takes star ts p tt us → exceeded the_limits cs None ≡ Some r
    → Reads the_limits (Starred_name cs at_name b) (plan (Starred_name cs at_name b)) ts (No (Some r) ts)
star_over base.Int cs at_name p ts us r t e = overs t e
star_over (base.Struct n) cs at_name p ts us r t e = exceeds t e

-- ---- arguments

abbrev pub AtArguments : (all : List Exp) (us ts : List Token) → Type 0
AtArguments all us ts = Onward More_arguments Arguments_behind (λ more. all ++ more) (plan Arguments_behind) us ts

pub ends_empty : (all : List Exp) (p : Pos) (ts us : List Token) → all ≡ [] → Takes close_paren ts p tt us → Gives Arguments_behind all ts us
ends_empty all p ts us e t = subst (λ all. Gives Arguments_behind all ts us) (sym e) (takes t refl gives)

pub first_argument : (all : List Exp) (a : Operand) (us ts : List Token) → all ≡ a.exp ∷ [] → Lacks close_paren ts → Gives (Expression []) a ts us → AtArguments all us ts
first_argument all a us ts e n d = subst (λ all. AtArguments all us ts) (sym e) (record {
  yes = λ more vs r. passes n (calls d (calls r gives));
  no = λ r vs x. passes n (calls d (fails x));
})

pub argument_fails : (all : List Exp) (p : Pos) (us vs ws ts : List Token) (r : Option Rule) → Takes comma us p tt vs → Fails (Expression []) r vs ws → AtArguments all us ts → Fails Arguments_behind r ts ws
argument_fails all p us vs ws ts r t d h = h.no r ws (takes t refl (fails d))

pub next_argument : (all every : List Exp) (a : Operand) (p : Pos) (us vs ws ts : List Token) → every ≡ all ++ (a.exp ∷ []) → Takes comma us p tt vs → Gives (Expression []) a vs ws → AtArguments all us ts
    → AtArguments every ws ts
next_argument all every a p us vs ws ts e t d h = subst (λ every. AtArguments every ws ts) (sym e) (record {
  yes = λ more xs r. subst (λ c. Gives Arguments_behind c ts xs) (sym (append_assoc all (a.exp ∷ []) more)) (h.yes (a.exp ∷ more) xs (takes t refl (calls d (calls r gives))));
  no = λ r xs x. h.no r xs (takes t refl (calls d (fails x)));
})

pub arguments_end : (all : List Exp) (p : Pos) (us vs ts : List Token) → Lacks comma us → Takes close_paren us p tt vs → AtArguments all us ts → Gives Arguments_behind all ts vs
arguments_end all p us vs ts n t h = subst (λ c. Gives Arguments_behind c ts vs) (append-nil all) (h.yes [] vs (passes n (wants t refl gives)))

-- the arguments of a `printf`, with their number
abbrev pub AtPrinted : (all : List Exp) (us ts : List Token) → Type 0
AtPrinted all us ts = Onward (Print_arguments (length all)) (Print_arguments 0) (λ more. all ++ more) (plan (Print_arguments 0)) us ts

abbrev pub printed_count : ℕ → List Count
printed_count k = counted Arguments k ∷ []

pub begins_printed : (all : List Exp) (ts : List Token) → all ≡ [] → AtPrinted all ts ts
begins_printed all ts e = subst (λ all. AtPrinted all ts ts) (sym e) (record { yes = λ b vs r. r; no = λ r vs x. x })

pub printed_fails : (all : List Exp) (k : ℕ) (p : Pos) (us vs ws ts : List Token) (r : Option Rule) → k ≡ length all + 1 → Takes comma us p tt vs → Fails (Expression (printed_count k)) r vs ws → AtPrinted all us ts
    → Fails (Print_arguments 0) r ts ws
printed_fails all k p us vs ws ts r e t d h =
    let same : k ≡ suc (length all) = omega (arith, e) in
    h.no r ws (takes t refl (fails (subst (λ k. Fails (Expression (printed_count k)) r vs ws) same d)))

pub next_printed : (all every : List Exp) (k : ℕ) (a : Operand) (p : Pos) (us vs ws ts : List Token) → every ≡ all ++ (a.exp ∷ []) → k ≡ length all + 1 → Takes comma us p tt vs
    → Gives (Expression (printed_count k)) a vs ws → AtPrinted all us ts → AtPrinted every ws ts
next_printed all every k a p us vs ws ts e i t d h =
    let same : k ≡ suc (length all) = omega (arith, i) in
    let more_length : length (all ++ (a.exp ∷ [])) ≡ suc (length all) = omega (arith, length-append all (a.exp ∷ [])) in
    let read = subst (λ k. Gives (Expression (printed_count k)) a vs ws) same d in
    subst (λ every. AtPrinted every ws ts) (sym e) (record {
      yes = λ more xs r. subst (λ c. Gives (Print_arguments 0) c ts xs) (sym (append_assoc all (a.exp ∷ []) more))
          (h.yes (a.exp ∷ more) xs (takes t refl (calls read (calls (subst (λ k. Gives (Print_arguments k) more ws xs) more_length r) gives))));
      no = λ r xs x. h.no r xs (takes t refl (calls read (fails (subst (λ k. Fails (Print_arguments k) r ws xs) more_length x))));
    })

pub printed_end : (all : List Exp) (p : Pos) (us vs ts : List Token) → Lacks comma us → Takes close_paren us p tt vs → AtPrinted all us ts → Gives (Print_arguments 0) all ts vs
printed_end all p us vs ts n t h = subst (λ c. Gives (Print_arguments 0) c ts vs) (append-nil all) (h.yes [] vs (passes n (wants t refl gives)))

-- ---- calls of the library

-- `(` and `&`, and then a name
pub address_begins : (p q : Pos) (ts us vs : List Token) (r : Result (Name × Bor (List Token)) Stop) → Takes open_paren ts p tt us → Takes (The_mark mark.Ampersand) us q tt vs → WantsName [] vs r
    → Beginning on_address (λ x. (x.0, x.1.now)) ts r
address_begins p q ts us vs (Ok x) t s h = λ g on o d. wants t refl (wants s refl (h g (λ q t. on (name q t)) o d))
address_begins p q ts us vs (Err e) t s h = λ g on. pass e (λ r vs d. wants t refl (wants s refl d)) (h g (λ q t. on (name q t)))

-- the step of a word is reached past those of the words before it
to_word : (m : LibraryWord) (cs : List Count) (p : Pos) (ts us : List Token) (o : Outcome (Simple_at cs)) → Takes (The_word (spelled m)) ts p tt us
    → ((k : Plan (Simple_at cs)) → Reads the_limits (Simple_at cs) (take (The_word (spelled m)) None (these cs) (λ p x. behind_word m cs p) k) ts o) → Reads the_limits (Simple_at cs) (plan (Simple_at cs)) ts o
to_word word.Lock cs p ts us o t f = f _
to_word word.Unlock cs p ts us o t f = passes (other_word (spelled word.Unlock) (spelled word.Lock) p ts us refl t) (f _)
to_word word.Create cs p ts us o t f = passes (other_word (spelled word.Create) (spelled word.Lock) p ts us refl t) (passes (other_word (spelled word.Create) (spelled word.Unlock) p ts us refl t) (f _))
to_word word.Join cs p ts us o t f =
    passes (other_word (spelled word.Join) (spelled word.Lock) p ts us refl t) (passes (other_word (spelled word.Join) (spelled word.Unlock) p ts us refl t)
    (passes (other_word (spelled word.Join) (spelled word.Create) p ts us refl t) (f _)))
to_word word.Free cs p ts us o t f =
    passes (other_word (spelled word.Free) (spelled word.Lock) p ts us refl t) (passes (other_word (spelled word.Free) (spelled word.Unlock) p ts us refl t)
    (passes (other_word (spelled word.Free) (spelled word.Create) p ts us refl t) (passes (other_word (spelled word.Free) (spelled word.Join) p ts us refl t) (f _))))
to_word word.Assert cs p ts us o t f =
    passes (other_word (spelled word.Assert) (spelled word.Lock) p ts us refl t) (passes (other_word (spelled word.Assert) (spelled word.Unlock) p ts us refl t)
    (passes (other_word (spelled word.Assert) (spelled word.Create) p ts us refl t) (passes (other_word (spelled word.Assert) (spelled word.Join) p ts us refl t)
    (passes (other_word (spelled word.Assert) (spelled word.Free) p ts us refl t) (f _)))))
to_word word.Print cs p ts us o t f =
    passes (other_word (spelled word.Print) (spelled word.Lock) p ts us refl t) (passes (other_word (spelled word.Print) (spelled word.Unlock) p ts us refl t)
    (passes (other_word (spelled word.Print) (spelled word.Create) p ts us refl t) (passes (other_word (spelled word.Print) (spelled word.Join) p ts us refl t)
    (passes (other_word (spelled word.Print) (spelled word.Free) p ts us refl t) (passes (other_word (spelled word.Print) (spelled word.Assert) p ts us refl t) (f _))))))

pub word_taken : (m : LibraryWord) (cs : List Count) (p : Pos) (ts us : List Token) (o : Outcome (Simple_at cs)) → Takes (The_word (spelled m)) ts p tt us → exceeded the_limits cs None ≡ None
    → Reads the_limits (Simple_at cs) (behind_word m cs p) us o → Reads the_limits (Simple_at cs) (plan (Simple_at cs)) ts o
word_taken m cs p ts us o t e d = to_word m cs p ts us o t (λ k. takes t e d)

pub word_over : (m : LibraryWord) (cs : List Count) (p : Pos) (ts us : List Token) (r : Rule) → Takes (The_word (spelled m)) ts p tt us → exceeded the_limits cs None ≡ Some r → Fails (Simple_at cs) (Some r) ts ts
word_over m cs p ts us r t e = to_word m cs p ts us (No (Some r) ts) t (λ k. overs t e)

pub past_words : (cs : List Count) (ts : List Token) (o : Outcome (Simple_at cs)) → LacksCalls ts → Reads the_limits (Simple_at cs) (on_target_or_call cs) ts o → Reads the_limits (Simple_at cs) (plan (Simple_at cs)) ts o
past_words cs ts o n d = passes n.lock (passes n.unlock (passes n.create (passes n.join (passes n.free (passes n.assert (passes n.print d))))))
