-- What is spelled as a part of a declaration or of a program is read.
use Rattle.std.proofs.Common.{◌≡◌, ◌⊎◌, inl, inr, ◌+◌, ℕ, ℤ, suc, Bool, true, false, List, [], ◌∷◌, length, Option, Some, None, codes, refl, sym, ap, subst}
use Rattle.std.proofs.lemmas.List.Elements.{All-nil, All-cons, All-append}
use Rattle.ca_tree.specs.declared.text.Pos.{Pos}
use Rattle.ca_tree.specs.declared.token.Mark.{Mark}
use Rattle.ca_tree.specs.declared.token.Mark.TheVariants as mark
use Rattle.ca_tree.specs.declared.token.Word.TheVariants as word
use Rattle.ca_tree.specs.declared.token.Token.{Token}
use Rattle.ca_tree.specs.declared.tree.Name.{Name}
use Rattle.ca_tree.specs.declared.tree.Base.{Base}
use Rattle.ca_tree.specs.declared.tree.Base.TheVariants as base
use Rattle.ca_tree.specs.declared.tree.Declarator.{Declarator}
use Rattle.ca_tree.specs.declared.tree.Fields.{Fields}
use Rattle.ca_tree.specs.declared.tree.Constant.{Constant}
use Rattle.ca_tree.specs.declared.tree.MutexDeclarator.{MutexDeclarator}
use Rattle.ca_tree.specs.declared.tree.ThreadDeclarator.{ThreadDeclarator}
use Rattle.ca_tree.specs.declared.tree.GlobalForm.{GlobalForm}
use Rattle.ca_tree.specs.declared.tree.GlobalForm.TheVariants as form
use Rattle.ca_tree.specs.declared.tree.GlobalDeclarator.{GlobalDeclarator}
use Rattle.ca_tree.specs.declared.tree.Globals.{Globals as GlobalsOf}
use Rattle.ca_tree.specs.declared.tree.Globals.TheVariants as globals
use Rattle.ca_tree.specs.declared.tree.ResultType.{ResultType}
use Rattle.ca_tree.specs.declared.tree.ResultType.TheVariants as result
use Rattle.ca_tree.specs.declared.tree.ParameterType.{ParameterType}
use Rattle.ca_tree.specs.declared.tree.ParameterType.TheVariants as parameter
use Rattle.ca_tree.specs.declared.tree.Parameter.{Parameter}
use Rattle.ca_tree.specs.declared.tree.Body.{Body}
use Rattle.ca_tree.specs.declared.tree.Function.{Function}
use Rattle.ca_tree.specs.declared.tree.Program.{Program}
use Rattle.ca_tree.specs.declared.tree.Top.{Top}
use Rattle.ca_tree.specs.declared.tree.Top.TheVariants as top
use Rattle.ca_grammar.specs.declared.faults.Count.{Count}
use Rattle.ca_tree.specs.declared.counted.Counted.{Counted}
use Rattle.ca_tree.specs.declared.counted.Counted.TheVariants as counts
use Rattle.ca_tree.specs.Counts.{Totals, one_more_global, one_more_mutex, one_more_struct, nothing_yet}
use Rattle.ca_tree.specs.PhraseTrees.{has_star}
use Rattle.ca_grammar.specs.Words.{Class, The_mark, The_word, A_number, A_name, The_end, Of, Takes, Skips, Lacks, place, null_word, open_paren, close_paren, open_brace, close_brace, comma, semicolon, star, assign}
use Rattle.ca_grammar.specs.Limits.{Limit, Star, Limits, Allowed, kept}
use Rattle.ca_grammar.specs.Expressions.{name}
use Rattle.ca_grammar.specs.Phrases as phrase
use Rattle.ca_grammar.specs.Declarations as g
use Rattle.ca_grammar.specs.Declarations.{stars_missing}
use Rattle.ca_grammar.specs.Goals.{Goal, Starred, Totalled, Stars, Starred_name, Base_at, Statements, Field_declarators, A_field, More_fields, Mutexes, Threads, A_constant, Behind_global, More_globals, Next_global, Behind_type, More_parameters, Next_parameter, Parameters, Body_of, Function_of, Behind_paren, Behind_base, Behind_void, Qualified, Behind_tag, A_top, Tops, A_program, Tree}
use Rattle.ca_grammar.specs.Plan.{Plan, give, take, want, call, last, no_counts, these, and_name, bytes_of_name, counted}
use Rattle.ca_grammar.specs.PhrasePlans.{must, maybe}
use Rattle.ca_grammar.specs.DeclarationPlans.{totalled, behind_mutex, behind_thread, a_global, global, a_parameter, unnamed, behind_int, behind_struct, on_declaration, some_top}
use Rattle.ca_grammar.specs.Reads.{plan}
use Rattle.ca_grammar.proofs.Combinators.{t_gives, t_takes, t_wants, t_passes, t_calls, can_be, lacks_at}
use Rattle.ca_grammar.proofs.Loose.{Counts, Through, SpellsStarred, SpellsBlock}

-- ---- what other parts are read by

abbrev pub ReadsStars : Type 0
ReadsStars = (limits : Limits) (k j m : ℕ) (ts us : List Token) → phrase.Spells (kept limits k) (phrase.Stars j) m ts us → Lacks star us → Through limits k (Stars j) (plan (Stars j)) m ts us

abbrev pub ReadsStarredName : Type 0
ReadsStarredName =
    (limits : Limits) (k : ℕ) (cs at_name : List Count) (b : Base) (x : Starred) (ts us : List Token) → SpellsStarred limits k cs at_name b x ts us
    → Through limits k (Starred_name cs at_name b) (plan (Starred_name cs at_name b)) x ts us

abbrev pub ReadsBase : Type 0
ReadsBase =
    (limits : Limits) (k : ℕ) (cs : List Count) (b : Base) (p : Pos) (ts us : List Token) → phrase.Spells (kept limits k) phrase.A_base b ts us → place ts ≡ Some p → Counts limits k cs ts
    → Through limits k (Base_at cs) (plan (Base_at cs)) (record { pos = p; what = b }) ts us

abbrev pub ReadsBlock : Type 0
ReadsBlock =
    (limits : Limits) (k : ℕ) (in_loop : Bool) (d : ℕ) (of_function : Bool) (n : ℕ) (m : Tree (Statements in_loop d of_function n)) (ts us : List Token) → SpellsBlock limits k in_loop d of_function n m ts us
    → Through limits k (Statements in_loop d of_function n) (plan (Statements in_loop d of_function n)) m ts us

-- ---- steps

lacks_mark : {m : Mark} {ts us : List Token} (c : Class) → Skips (The_mark m) ts us → can_be c (word.Mark m) ≡ false → Lacks c ts
lacks_mark {m} c s h = lacks_at c (word.Mark m) s.2 s.2.fits h

lacks_word : {w : List ℕ} {ts us : List Token} (c : Class) → Skips (The_word w) ts us → can_be c (word.Name w) ≡ false → Lacks c ts
lacks_word {w} c s h = lacks_at c (word.Name w) s.2 s.2.fits h

-- the end is no word
lacks_end : {ts us : List Token} (w : List ℕ) → Skips The_end ts us → Lacks (The_word w) ts
lacks_end w s = lacks_at (The_word w) word.End s.2 s.2.fits refl

-- a name is no mark
lacks_name : {allowed : Allowed} {p : Pos} {t : List ℕ} {ts us : List Token} (m : Mark) → phrase.Names allowed ts p t us → Lacks (The_mark m) ts
lacks_name {t = t} m n = lacks_at (The_mark m) (word.Name t) n.takes n.takes.fits.0 refl

-- a base begins with its word
lacks_base : {allowed : Allowed} {b : Base} {ts us : List Token} (c : Class) → phrase.Spells allowed phrase.A_base b ts us → can_be c (word.Name (codes "int")) ≡ false → can_be c (word.Name (codes "struct")) ≡ false
    → Lacks c ts
lacks_base c (phrase.int_base s) h i = lacks_word c s h
lacks_base c (phrase.struct_base s n) h i = lacks_word c s i

-- where a declarator ends
abbrev pub Ending : List Token → Type 0
Ending ts = (us : List Token) × (Skips comma ts us ⊎ Skips semicolon ts us)

lacks_ending : {ts : List Token} (c : Class) → Ending ts → can_be c (word.Mark mark.Comma) ≡ false → can_be c (word.Mark mark.Semicolon) ≡ false → Lacks c ts
lacks_ending c (us, inl s) h i = lacks_mark c s h
lacks_ending c (us, inr s) h i = lacks_mark c s i

mutexes_ending : {allowed : Allowed} {n m : Totals} {more : List MutexDeclarator} {ts vs us : List Token} → g.Spells allowed g.More_mutexes n more ts m vs → Skips semicolon vs us → Ending ts
mutexes_ending g.no_more_mutexes e = (_, inr e)
mutexes_ending (g.more_mutexes c s r) e = (_, inl c)

threads_ending : {allowed : Allowed} {n m : Totals} {more : List ThreadDeclarator} {ts vs us : List Token} → g.Spells allowed g.More_threads n more ts m vs → Skips semicolon vs us → Ending ts
threads_ending g.no_more_threads e = (_, inr e)
threads_ending (g.more_threads c s r) e = (_, inl c)

-- a token has a place
at_token : {c : Class} {p : Pos} {x : Of c} {ts us : List Token} → Takes c ts p x us → place ts ≡ Some p
at_token t = ap place t.parts

starred_place : {allowed : Allowed} {j m : ℕ} {p : Pos} {t : List ℕ} {ts us vs : List Token} → phrase.Spells allowed (phrase.Stars j) m ts us → phrase.Names allowed us p t vs → (q : Pos) × (place ts ≡ Some q)
starred_place {p = p} phrase.no_star n = (p, at_token n.takes)
starred_place (phrase.a_star t s) n = (t.0, at_token t.2)

base_place : {allowed : Allowed} {b : Base} {ts us : List Token} → phrase.Spells allowed phrase.A_base b ts us → (q : Pos) × (place ts ≡ Some q)
base_place (phrase.int_base s) = (s.0, at_token s.2)
base_place (phrase.struct_base s n) = (s.0, at_token s.2)

module _ (limits : Limits) (k : ℕ) where
  none : (ts : List Token) → Counts limits k [] ts
  none ts = All-nil (λ c. kept limits k (Limit c.of) c.number ts ≡ true)

  one : (of : Counted) (n : ℕ) (ts : List Token) → kept limits k (Limit of) n ts ≡ true → Counts limits k (counted of n ∷ []) ts
  one of n ts h = All-cons (λ c. kept limits k (Limit c.of) c.number ts ≡ true) (counted of n) [] h (none ts)

  t_maybe : {g : Goal} {c : Class} {f otherwise : Plan g} {a : Tree g} {ts us vs : List Token} → Skips c ts us → Through limits k g f a us vs → Through limits k g (maybe c f otherwise) a ts vs
  t_maybe {ts = ts} s r = t_takes s.2 (none ts) tt r

  t_must : {g : Goal} {c : Class} {f : Plan g} {a : Tree g} {ts us vs : List Token} → Skips c ts us → Through limits k g f a us vs → Through limits k g (must c f) a ts vs
  t_must {ts = ts} s r = t_wants s.2 (none ts) r

  t_last : {g q : Goal} {f : Tree q → Tree g} {b : Tree q} {ts us : List Token} → Through limits k q (plan q) b ts us → Through limits k g (last q g f) (f b) ts us
  t_last r = t_calls r t_gives

  name_counts : (cs : List Count) {p : Pos} {t : List ℕ} {ts us : List Token} → phrase.Names (kept limits k) ts p t us → Counts limits k cs ts → Counts limits k (and_name cs t) ts
  name_counts cs {t = t} {ts = ts} n c =
      let P = λ (x : Count). kept limits k (Limit x.of) x.number ts ≡ true in
      All-append P cs (bytes_of_name t ∷ []) c (All-cons P (bytes_of_name t) [] n.short (All-nil P))

  t_named : {g : Goal} (cs : List Count) {on : Pos → List ℕ → Plan g} {a : Tree g} {p : Pos} {t : List ℕ} {ts us vs : List Token} → phrase.Names (kept limits k) ts p t us → Counts limits k cs ts
      → Through limits k g (on p t) a us vs → Through limits k g (want A_name (and_name cs) on) a ts vs
  t_named cs n c r = t_wants n.takes (name_counts cs n c) r

  -- a length, behind which f reads on
  t_length : {goal : Goal} (f : ℤ → Plan goal) (cs : List Count) {otherwise : Plan goal} {a : Tree goal} {n m : Totals} {i : ℤ} {ts us vs : List Token} → g.Spells (kept limits k) g.A_length n i ts m us → Counts limits k cs ts
      → Through limits k goal (f i) a us vs → Through limits k goal (take (The_mark mark.OpenBracket) None (these cs) (λ q y. want A_number no_counts (λ r j. must (The_mark mark.CloseBracket) (f j))) otherwise) a ts vs
  t_length f cs (g.a_length {us = us} b j e) c r = t_takes b.2 c tt (t_wants j (none us) (t_must e r))

  -- ---- mutexes, threads and constants

  behind_mutexes : (t : Totals) (x : Name) (b : Bool) {m : Totals} {more : List MutexDeclarator} {ts vs us : List Token} → g.Spells (kept limits k) g.More_mutexes (one_more_mutex t) more ts m vs → Skips semicolon vs us
      → Through limits k (Mutexes t) (behind_mutex t x b) (totalled (record { name = x; has_initializer = b } ∷ more) m) ts us
  behind_mutexes t x b g.no_more_mutexes e = t_passes (lacks_mark comma e refl) (t_must e t_gives)
  behind_mutexes t x b (g.more_mutexes c (g.a_mutex {p = p} {t = y} {ts = ws} i n) r) e =
      t_maybe c (t_last (t_named (counted counts.Mutexes (suc (suc t.mutexes)) ∷ []) n (one counts.Mutexes (suc (suc t.mutexes)) ws i)
      (t_passes (lacks_ending assign (mutexes_ending r e) refl refl) (behind_mutexes (one_more_mutex t) (name p y) false r e))))
  behind_mutexes t x b (g.more_mutexes c (g.a_mutex_with_initializer {p = p} {t = y} {ts = ws} i n a w) r) e =
      t_maybe c (t_last (t_named (counted counts.Mutexes (suc (suc t.mutexes)) ∷ []) n (one counts.Mutexes (suc (suc t.mutexes)) ws i)
      (t_maybe a (t_must w (behind_mutexes (one_more_mutex t) (name p y) true r e)))))

  pub reads_mutexes : {t n m : Totals} {x : MutexDeclarator} {more : List MutexDeclarator} {ts vs ws us : List Token} → g.Spells (kept limits k) g.A_mutex t x ts n vs
      → g.Spells (kept limits k) g.More_mutexes n more vs m ws → Skips semicolon ws us → Through limits k (Mutexes t) (plan (Mutexes t)) (totalled (x ∷ more) m) ts us
  reads_mutexes {t} {ts = ts} (g.a_mutex {p = p} {t = y} i n) r e =
      t_named (counted counts.Mutexes (suc t.mutexes) ∷ []) n (one counts.Mutexes (suc t.mutexes) ts i) (t_passes (lacks_ending assign (mutexes_ending r e) refl refl) (behind_mutexes t (name p y) false r e))
  reads_mutexes {t} {ts = ts} (g.a_mutex_with_initializer {p = p} {t = y} i n a w) r e =
      t_named (counted counts.Mutexes (suc t.mutexes) ∷ []) n (one counts.Mutexes (suc t.mutexes) ts i) (t_maybe a (t_must w (behind_mutexes t (name p y) true r e)))

  -- a thread is read to what is behind it
  thread_read : {t n m : Totals} {x : ThreadDeclarator} {more : List ThreadDeclarator} {ts vs us : List Token} → g.Spells (kept limits k) g.A_thread t x ts n vs → Lacks (The_mark mark.OpenBracket) vs
      → ((cs : List Count) → Counts limits k cs vs → Through limits k (Threads t) (behind_thread t cs x.name x.length) (totalled (x ∷ more) m) vs us)
      → Through limits k (Threads t) (plan (Threads t)) (totalled (x ∷ more) m) ts us
  thread_read {t} {ts = ts} {vs = vs} (g.a_thread n i) l r = t_named [] n (none ts) (t_passes l (r (a_global t) (one counts.Globals (suc t.globals) vs i)))
  thread_read {t} {ts = ts} {vs = vs} (g.threads {p = p} {t = y} {us = us} n i s) l r =
      t_named [] n (none ts) (t_length (λ j. behind_thread t [] (name p y) (Some j)) (a_global t) s (one counts.Globals (suc t.globals) us i) (r [] (none vs)))

  next_thread : {t n : Totals} {x : ThreadDeclarator} {ts us : List Token} → g.Spells (kept limits k) g.A_thread t x ts n us → n ≡ one_more_global t
  next_thread (g.a_thread n i) = refl
  next_thread (g.threads n i l) = refl

  behind_threads : (t : Totals) (x : ThreadDeclarator) {n m : Totals} {more : List ThreadDeclarator} {ts vs us : List Token} → g.Spells (kept limits k) g.More_threads n more ts m vs → n ≡ one_more_global t
      → Skips semicolon vs us → (cs : List Count) → Counts limits k cs ts → Through limits k (Threads t) (behind_thread t cs x.name x.length) (totalled (x ∷ more) m) ts us
  behind_threads t x {ts = ts} {us = us} g.no_more_threads h e cs c =
      t_passes (lacks_mark comma e refl)
      (subst (λ y. Through limits k (Threads t) (want semicolon (these cs) (λ p z. give (totalled (x ∷ []) (one_more_global t)))) (totalled (x ∷ []) y) ts us) (sym h) (t_wants e.2 c t_gives))
  behind_threads t x {m = m} {us = us} (g.more_threads {d = y} {more = more} {us = ws} s i r) h e cs c =
      let next = thread_read i (lacks_ending (The_mark mark.OpenBracket) (threads_ending r e) refl refl) (behind_threads _ y r (next_thread i) e) in
      t_takes s.2 c tt (t_last (subst (λ n. Through limits k (Threads n) (plan (Threads n)) (totalled (y ∷ more) m) ws us) h next))

  pub reads_threads : {t n m : Totals} {x : ThreadDeclarator} {more : List ThreadDeclarator} {ts vs ws us : List Token} → g.Spells (kept limits k) g.A_thread t x ts n vs
      → g.Spells (kept limits k) g.More_threads n more vs m ws → Skips semicolon ws us → Through limits k (Threads t) (plan (Threads t)) (totalled (x ∷ more) m) ts us
  reads_threads {t} {x = x} i r e = thread_read i (lacks_ending (The_mark mark.OpenBracket) (threads_ending r e) refl refl) (behind_threads t x r (next_thread i) e)

  pub reads_constant : {n m : Totals} {c : Constant} {ts us : List Token} → g.Spells (kept limits k) g.A_constant n c ts m us → Through limits k A_constant (plan A_constant) c ts us
  reads_constant {ts = ts} (g.a_number t) = t_passes (lacks_at (The_mark mark.Minus) _ t t.fits.0 refl) (t_passes (lacks_at null_word _ t t.fits.0 refl) (t_wants t (none ts) t_gives))
  reads_constant (g.a_negative {us = us} s t) = t_maybe s (t_wants t (none us) t_gives)
  reads_constant (g.a_null s) = t_passes (lacks_word (The_mark mark.Minus) s refl) (t_maybe s t_gives)

  -- ---- fields

  module _ (reads_starred_name : ReadsStarredName) (reads_base : ReadsBase) where
    -- a declarator of a field, and what is read behind it
    field_read : {b : Base} {j m : ℕ} {p : Pos} {y : List ℕ} {f : Starred → Plan (Field_declarators b j)} {a : List Declarator} {ts us vs ws : List Token}
        → phrase.Spells (kept limits k) (phrase.Stars 0) m ts us → has_star b m ≡ true → kept limits k (Limit counts.Fields) (suc j) us ≡ true → phrase.Names (kept limits k) us p y vs
        → ((q : Pos) → Through limits k (Field_declarators b j) (f (record { pos = q; stars = m; name = name p y })) a vs ws)
        → Through limits k (Field_declarators b j) (call (Starred_name [] (counted counts.Fields (suc j) ∷ []) b) f) a ts ws
    field_read {b} {j} {m} {p} {y} {ts = ts} {us} {vs} s h i n r =
        let q = starred_place s n in
        t_calls (reads_starred_name limits k [] (counted counts.Fields (suc j) ∷ []) b (record { pos = q.0; stars = m; name = name p y }) ts vs
        (record { us = us; p = p; t = y; stars = s; has_star = h; names = n; is_name = refl; at = q.1; first = none ts; counted = one counts.Fields (suc j) us i })) (r q.0)

    pub reads_field_declarators : {b : Base} {j : ℕ} {n m : Totals} {ds : List Declarator} {ts us : List Token} → g.Spells (kept limits k) (g.Field_declarators b j) n ds ts m us
        → Through limits k (Field_declarators b j) (plan (Field_declarators b j)) ds ts us
    reads_field_declarators (g.last_field s h i n e) = field_read s h i n (λ q. t_passes (lacks_mark comma e refl) (t_must e t_gives))
    reads_field_declarators (g.another_field s h i n c r) = field_read s h i n (λ q. t_maybe c (t_last (reads_field_declarators r)))

    -- the fields of one base, and what is read behind them
    pub reads_field : {b : Base} {j : ℕ} {n m : Totals} {ds : List Declarator} {more : List Fields} {ts us vs ws : List Token} → phrase.Spells (kept limits k) phrase.A_base b ts us
        → g.Spells (kept limits k) (g.Field_declarators b j) n ds us m vs → Through limits k (More_fields (j + length ds)) (plan (More_fields (j + length ds))) more vs ws
        → Through limits k (A_field j) (plan (A_field j)) (record { base = b; declarators = ds } ∷ more) ts ws
    reads_field {b} {ts = ts} {us} s r q =
        let o = base_place s in
        t_calls (reads_base limits k [] b o.0 ts us s o.1 (none ts)) (t_calls (reads_field_declarators r) (t_last q))

    pub reads_more_fields : {j : ℕ} {n m : Totals} {fs : List Fields} {ts vs us : List Token} → g.Spells (kept limits k) (g.More_fields j) n fs ts m vs → Skips close_brace vs us
        → Through limits k (More_fields j) (plan (More_fields j)) fs ts us
    reads_more_fields g.no_more_fields e = t_maybe e t_gives
    reads_more_fields (g.more_fields s r q) e = t_passes (lacks_base close_brace s refl refl) (t_last (reads_field s r (reads_more_fields q e)))

    -- a field with more of them
    reads_fields : {j : ℕ} {n m : Totals} {f : Fields} {more : List Fields} {ts vs us : List Token} → g.Spells (kept limits k) (g.More_fields j) n (f ∷ more) ts m vs → Skips close_brace vs us
        → Through limits k (A_field j) (plan (A_field j)) (f ∷ more) ts us
    reads_fields (g.more_fields s r q) e = reads_field s r (reads_more_fields q e)

  -- ---- globals

  module _ (reads_stars : ReadsStars) where
    -- what is behind a global: more of them, or a plain one's end
    record GlobalsBehind (b : Base) (t m : Totals) (more : List GlobalDeclarator) (ts us : List Token) : Type 0 where
      others : Through limits k (More_globals b (one_more_global t)) (plan (More_globals b (one_more_global t))) (totalled more m) ts us
      plain : (j : ℕ) (x : Name) → Counts limits k (a_global t) ts → Through limits k (Behind_global b j x t) (plan (Behind_global b j x t)) (totalled (global j x form.Plain ∷ more) m) ts us
      ending : Ending ts

    form_read : {b : Base} {j : ℕ} {x : Name} {t n l m : Totals} {f : GlobalForm} {more : List GlobalDeclarator} {ts vs us : List Token} → g.Spells (kept limits k) g.A_form n f ts l vs → Counts limits k (a_global t) ts
        → GlobalsBehind b t m more vs us → Through limits k (Behind_global b j x t) (plan (Behind_global b j x t)) (totalled (global j x f ∷ more) m) ts us
    form_read {j = j} {x} g.plain c r = r.plain j x c
    form_read {b} {j} {x} {t} (g.an_array s) c r =
        t_length (λ i. last (More_globals b (one_more_global t)) (Behind_global b j x t) (λ m. totalled (global j x (form.Array i) ∷ m.what) m.totals)) (a_global t) s c (t_last r.others)
    form_read (g.a_constant s i) c r = t_passes (lacks_mark (The_mark mark.OpenBracket) s refl) (t_takes s.2 c tt (t_calls (reads_constant i) (t_last r.others)))

    length_lacks : {allowed : Allowed} {n l : Totals} {i : ℤ} {ts us : List Token} → g.Spells allowed g.A_length n i ts l us → Lacks open_paren ts
    length_lacks (g.a_length b i c) = lacks_mark open_paren b refl

    form_lacks : {allowed : Allowed} {n l : Totals} {f : GlobalForm} {ts vs : List Token} → g.Spells allowed g.A_form n f ts l vs → Ending vs → Lacks open_paren ts
    form_lacks g.plain e = lacks_ending open_paren e refl refl
    form_lacks (g.an_array s) e = length_lacks s
    form_lacks (g.a_constant s i) e = lacks_mark open_paren s refl

    global_read : {b : Base} {t n m : Totals} {x : GlobalDeclarator} {more : List GlobalDeclarator} {ts vs us : List Token} → g.Spells (kept limits k) (g.A_global b) t x ts n vs
        → GlobalsBehind b t m more vs us → Through limits k (Next_global b t) (plan (Next_global b t)) (totalled (x ∷ more) m) ts us
    global_read {t = t} {ts = ts} (g.a_global {k = j} {us = vs} {vs = ws} s n i f) r =
        t_calls (reads_stars limits k 0 j ts vs s (lacks_name mark.Star n)) (t_named [] n (none vs) (t_last (form_read f (one counts.Globals (suc t.globals) ws i) r)))

    globals_behind : {b : Base} (t : Totals) {m : Totals} {more : List GlobalDeclarator} {ts vs us : List Token} → g.Spells (kept limits k) (g.More_globals b) (one_more_global t) more ts m vs → Skips semicolon vs us
        → GlobalsBehind b t m more ts us
    globals_behind t g.no_more_globals e =
        record {
          others = t_passes (lacks_mark comma e refl) (t_must e t_gives);
          plain = λ j x c. t_passes (lacks_mark (The_mark mark.OpenBracket) e refl) (t_passes (lacks_mark assign e refl) (t_passes (lacks_mark comma e refl) (t_wants e.2 c t_gives)));
          ending = (_, inr e);
        }
    globals_behind t (g.more_globals c (g.a_global s n i f) r) e =
        let next = global_read (g.a_global s n i f) (globals_behind (one_more_global t) r e) in
        record {
          others = t_maybe c (t_last next);
          plain = λ j x i. t_passes (lacks_mark (The_mark mark.OpenBracket) c refl) (t_passes (lacks_mark assign c refl) (t_takes c.2 i tt (t_last next)));
          ending = (_, inl c);
        }

    pub reads_more_globals : {b : Base} {t m : Totals} {more : List GlobalDeclarator} {ts vs us : List Token} → g.Spells (kept limits k) (g.More_globals b) t more ts m vs → Skips semicolon vs us
        → Through limits k (More_globals b t) (plan (More_globals b t)) (totalled more m) ts us
    reads_more_globals g.no_more_globals e = t_passes (lacks_mark comma e refl) (t_must e t_gives)
    reads_more_globals (g.more_globals {n = t} c (g.a_global s n i f) r) e = t_maybe c (t_last (global_read (g.a_global s n i f) (globals_behind t r e)))

    pub reads_next_global : {b : Base} {t n m : Totals} {x : GlobalDeclarator} {more : List GlobalDeclarator} {ts vs ws us : List Token} → g.Spells (kept limits k) (g.A_global b) t x ts n vs
        → g.Spells (kept limits k) (g.More_globals b) n more vs m ws → Skips semicolon ws us → Through limits k (Next_global b t) (plan (Next_global b t)) (totalled (x ∷ more) m) ts us
    reads_next_global {t = t} (g.a_global s n i f) r e = global_read (g.a_global s n i f) (globals_behind t r e)

    pub reads_behind_global : {b : Base} {j : ℕ} {x : Name} {t n l m : Totals} {f : GlobalForm} {more : List GlobalDeclarator} {ts vs ws us : List Token} → kept limits k (Limit counts.Globals) (suc t.globals) ts ≡ true
        → g.Spells (kept limits k) g.A_form n f ts l vs → g.Spells (kept limits k) (g.More_globals b) (one_more_global t) more vs m ws → Skips semicolon ws us
        → Through limits k (Behind_global b j x t) (plan (Behind_global b j x t)) (totalled (global j x f ∷ more) m) ts us
    reads_behind_global {t = t} {ts = ts} i f r e = form_read f (one counts.Globals (suc t.globals) ts i) (globals_behind t r e)

    -- ---- parameters

    -- what is behind a parameter: more of them, or an unnamed one's end
    record ParametersBehind (j : ℕ) (ds : List Parameter) (ts us : List Token) : Type 0 where
      others : Through limits k (More_parameters (suc j)) (plan (More_parameters (suc j))) ds ts us
      nameless : (of : ParameterType) → Counts limits k (a_parameter j) ts → Through limits k (Behind_type of j) (plan (Behind_type of j)) (unnamed of ∷ ds) ts us
      no_star : Lacks star ts

    value_read : {goal : Goal} (j : ℕ) (f : ParameterType → Plan goal) {a : Tree goal} {b : Base} {m : ℕ} {ts us vs ws : List Token} → phrase.Spells (kept limits k) phrase.A_base b ts us
        → phrase.Spells (kept limits k) (phrase.Stars 0) m us vs → has_star b m ≡ true → Lacks star vs → Through limits k goal (f (parameter.Value (record { base = b; stars = m }))) a vs ws
        → Through limits k goal (maybe (The_word (codes "int")) (behind_int goal j f) (must (The_word (codes "struct")) (behind_struct goal j f))) a ts ws
    value_read j f {m = m} {us = us} {vs = vs} (phrase.int_base i) s h l r = t_maybe i (t_calls (reads_stars limits k 0 m us vs s l) r)
    value_read j f (phrase.struct_base i n) phrase.no_star h l r = absurd cc
    value_read j f {m = m} {vs = vs} (phrase.struct_base {us = xs} i n) (phrase.a_star {us = ys} t s) h l r =
        t_passes (lacks_word (The_word (codes "int")) i refl) (t_must i (t_named [] n (none xs) (t_must t (t_calls (reads_stars limits k 1 m ys vs s l) r))))

    -- the type of a parameter, and what is read behind it
    type_read : {j : ℕ} {n m : Totals} {of : ParameterType} {ds : List Parameter} {ts us vs : List Token} → g.Spells (kept limits k) g.A_parameter_type n of ts m us → Lacks star us
        → Through limits k (Behind_type of j) (plan (Behind_type of j)) ds us vs → Through limits k (Next_parameter j) (plan (Next_parameter j)) ds ts vs
    type_read (g.a_pointer_parameter v s) l r = t_maybe v (t_must s (t_last r))
    type_read {j} (g.a_value_parameter b s h) l r =
        t_passes (lacks_base (The_word (codes "void")) b refl refl) (value_read j (λ of. last (Behind_type of j) (Next_parameter j) (λ ds. ds)) b s h l (t_last r))

    first_type_read : {n m : Totals} {of : ParameterType} {ds : List Parameter} {ts us vs : List Token} → g.Spells (kept limits k) g.A_parameter_type n of ts m us → Lacks star us
        → Through limits k (Behind_type of 0) (plan (Behind_type of 0)) ds us vs → Through limits k Parameters (plan Parameters) ds ts vs
    first_type_read (g.a_pointer_parameter v s) l r = t_passes (lacks_word close_paren v refl) (t_maybe v (t_maybe s (t_last r)))
    first_type_read (g.a_value_parameter b s h) l r =
        t_passes (lacks_base close_paren b refl refl) (t_passes (lacks_base (The_word (codes "void")) b refl refl) (value_read 0 (λ of. last (Behind_type of 0) Parameters (λ ds. ds)) b s h l (t_last r)))

    -- behind the type of a parameter
    record TypeBefore (j : ℕ) (ds : List Parameter) (ts us : List Token) : Type 0 where
      of : ParameterType
      mid : List Token
      totals : Totals
      type : g.Spells (kept limits k) g.A_parameter_type totals of ts totals mid
      no_star : Lacks star mid
      through : Through limits k (Behind_type of j) (plan (Behind_type of j)) ds mid us

    parameter_read : {j : ℕ} {n m : Totals} {x : Parameter} {ds : List Parameter} {ts vs us : List Token} → g.Spells (kept limits k) (g.A_parameter j) n x ts m vs → ParametersBehind j ds vs us
        → TypeBefore j (x ∷ ds) ts us
    parameter_read {j} (g.a_named_parameter {us = mid} s i n) r =
        record { of = _; mid = mid; totals = _; type = s; no_star = lacks_name mark.Star n; through = t_takes n.takes (name_counts (a_parameter j) n (one counts.Parameters (suc j) mid i)) tt (t_last r.others) }
    parameter_read {j} {vs = mid} (g.a_parameter {of = of} s i) r =
        record { of = of; mid = mid; totals = _; type = s; no_star = r.no_star; through = r.nameless of (one counts.Parameters (suc j) mid i) }

    next_read : {j : ℕ} {ds : List Parameter} {ts us : List Token} → TypeBefore j ds ts us → Through limits k (Next_parameter j) (plan (Next_parameter j)) ds ts us
    next_read s = type_read s.type s.no_star s.through

    parameters_behind : (j : ℕ) {n m : Totals} {ds : List Parameter} {ts us : List Token} → g.Spells (kept limits k) (g.More_parameters (suc j)) n ds ts m us → ParametersBehind j ds ts us
    parameters_behind j (g.last_parameter c) =
        record {
          others = t_passes (lacks_mark comma c refl) (t_must c t_gives);
          nameless = λ of i. t_passes (lacks_mark A_name c refl) (t_passes (lacks_mark comma c refl) (t_wants c.2 i t_gives));
          no_star = lacks_mark star c refl;
        }
    parameters_behind j (g.next_parameter c s r) =
        let next = next_read (parameter_read s (parameters_behind (suc j) r)) in
        record { others = t_maybe c (t_last next); nameless = λ of i. t_passes (lacks_mark A_name c refl) (t_takes c.2 i tt (t_last next)); no_star = lacks_mark star c refl }

    pub reads_next_parameter : {j : ℕ} {n m l : Totals} {x : Parameter} {ds : List Parameter} {ts vs us : List Token} → g.Spells (kept limits k) (g.A_parameter j) n x ts m vs
        → g.Spells (kept limits k) (g.More_parameters (suc j)) n ds vs l us → Through limits k (Next_parameter j) (plan (Next_parameter j)) (x ∷ ds) ts us
    reads_next_parameter {j} s r = next_read (parameter_read s (parameters_behind j r))

    pub reads_more_parameters : {j : ℕ} {n m : Totals} {ds : List Parameter} {ts us : List Token} → g.Spells (kept limits k) (g.More_parameters j) n ds ts m us
        → Through limits k (More_parameters j) (plan (More_parameters j)) ds ts us
    reads_more_parameters (g.last_parameter c) = t_passes (lacks_mark comma c refl) (t_must c t_gives)
    reads_more_parameters (g.next_parameter c s r) = t_maybe c (t_last (reads_next_parameter s r))

    pub reads_named_behind_type : (of : ParameterType) (j : ℕ) {n m : Totals} {p : Pos} {y : List ℕ} {ds : List Parameter} {ts vs us : List Token} → kept limits k (Limit counts.Parameters) (suc j) ts ≡ true
        → phrase.Names (kept limits k) ts p y vs → g.Spells (kept limits k) (g.More_parameters (suc j)) n ds vs m us
        → Through limits k (Behind_type of j) (plan (Behind_type of j)) (record { of = of; name = Some (name p y) } ∷ ds) ts us
    reads_named_behind_type of j {ts = ts} i n r = t_takes n.takes (name_counts (a_parameter j) n (one counts.Parameters (suc j) ts i)) tt (t_last (reads_more_parameters r))

    pub reads_unnamed_behind_type : (of : ParameterType) (j : ℕ) {n m : Totals} {ds : List Parameter} {ts us : List Token} → kept limits k (Limit counts.Parameters) (suc j) ts ≡ true
        → g.Spells (kept limits k) (g.More_parameters (suc j)) n ds ts m us → Through limits k (Behind_type of j) (plan (Behind_type of j)) (unnamed of ∷ ds) ts us
    reads_unnamed_behind_type of j {ts = ts} i r = (parameters_behind j r).nameless of (one counts.Parameters (suc j) ts i)

    pub reads_parameters : {n m : Totals} {ds : List Parameter} {ts us : List Token} → g.Spells (kept limits k) g.Parameters_behind n ds ts m us → Through limits k Parameters (plan Parameters) ds ts us
    reads_parameters (g.no_parameters c) = t_maybe c t_gives
    reads_parameters (g.void_parameters v c) = t_passes (lacks_word close_paren v refl) (t_maybe v (t_passes (lacks_mark star c refl) (t_must c t_gives)))
    reads_parameters (g.some_parameters s r) =
        let o = parameter_read s (parameters_behind 0 r) in
        first_type_read o.type o.no_star o.through

  -- ---- functions

  module _ (reads_stars : ReadsStars) (reads_block : ReadsBlock) where
    pub reads_body_of : {t m : Totals} {b : Option Body} {ts us : List Token} → g.Spells (kept limits k) g.A_body t b ts m us → Through limits k (Body_of t) (plan (Body_of t)) (totalled b m) ts us
    reads_body_of (g.no_body e) = t_maybe e t_gives
    reads_body_of {t} {ts = ts} {us = us} (g.a_body {m = m} {p = p} {all = all} {us = vs} {vs = ws} i b s n c) =
        t_passes (lacks_mark semicolon b refl) (t_wants b.2 (one counts.Functions (suc t.functions) ts i)
        (t_calls (reads_block limits k false 1 true t.items (record { pos = p; what = record { what = all; items = m } }) vs us (record { vs = ws; statements = s; close = c; counted = λ e. n })) t_gives))

    pub reads_behind_paren : {r : ResultType} {x : Name} {t n l m : Totals} {ds : List Parameter} {b : Option Body} {ts us vs : List Token} → g.Spells (kept limits k) g.Parameters_behind n ds ts l us
        → g.Spells (kept limits k) g.A_body t b us m vs → Through limits k (Behind_paren r x t) (plan (Behind_paren r x t)) (totalled (record { result = r; name = x; parameters = ds; body = b }) m) ts vs
    reads_behind_paren s r = t_calls (reads_parameters reads_stars s) (t_last (reads_body_of r))

    pub reads_function_of : {r : ResultType} {t n l m : Totals} {p : Pos} {y : List ℕ} {ds : List Parameter} {b : Option Body} {ts us vs ws xs : List Token} → phrase.Names (kept limits k) ts p y us
        → Skips open_paren us vs → g.Spells (kept limits k) g.Parameters_behind n ds vs l ws → g.Spells (kept limits k) g.A_body t b ws m xs
        → Through limits k (Function_of r t) (plan (Function_of r t)) (totalled (record { result = r; name = name p y; parameters = ds; body = b }) m) ts xs
    reads_function_of {ts = ts} n e s r = t_named [] n (none ts) (t_must e (t_last (reads_behind_paren s r)))

    -- ---- behind a base

    pub reads_globals_behind_base : {b : Base} {t n m : Totals} {x : GlobalDeclarator} {more : List GlobalDeclarator} {ts vs ws us : List Token} → g.Spells (kept limits k) (g.A_global b) t x ts n vs
        → g.Spells (kept limits k) (g.More_globals b) n more vs m ws → Skips semicolon ws us
        → Through limits k (Behind_base b t) (plan (Behind_base b t)) (totalled (top.Globals (globals.Variables b (x ∷ more))) m) ts us
    reads_globals_behind_base {t = t} {ts = ts} (g.a_global {k = j} {us = xs} {vs = ys} s n i f) r e =
        let behind = globals_behind reads_stars t r e in
        t_calls (reads_stars limits k 0 j ts xs s (lacks_name mark.Star n)) (t_named [] n (none xs)
        (t_passes (form_lacks reads_stars f behind.ending) (t_last (form_read reads_stars f (one counts.Globals (suc t.globals) ys i) behind))))

    pub reads_function_behind_base : {b : Base} {j : ℕ} {t n l m : Totals} {p : Pos} {y : List ℕ} {ds : List Parameter} {body : Option Body} {ts us vs ws xs ys : List Token}
        → phrase.Spells (kept limits k) (phrase.Stars 0) j ts us → phrase.Names (kept limits k) us p y vs → kept limits k Star (stars_missing (result.Value (record { base = b; stars = j }))) vs ≡ true
        → Skips open_paren vs ws → g.Spells (kept limits k) g.Parameters_behind n ds ws l xs → g.Spells (kept limits k) g.A_body t body xs m ys
        → Through limits k (Behind_base b t) (plan (Behind_base b t)) (totalled (top.Function (record { result = result.Value (record { base = b; stars = j }); name = name p y; parameters = ds; body = body })) m) ts ys
    reads_function_behind_base {j = j} {ts = ts} {us = us} {vs = vs} s n z e ds r =
        t_calls (reads_stars limits k 0 j ts us s (lacks_name mark.Star n)) (t_named [] n (none us) (t_takes e.2 (none vs) z (t_last (reads_behind_paren ds r))))

    -- what is behind a base begins with a star or a name
    lacks_starred : {allowed : Allowed} {i j : ℕ} {p : Pos} {y : List ℕ} {ts us vs : List Token} → phrase.Spells allowed (phrase.Stars i) j ts us → phrase.Names allowed us p y vs → Lacks open_brace ts
    lacks_starred phrase.no_star n = lacks_name mark.OpenBrace n
    lacks_starred (phrase.a_star t s) n = lacks_mark open_brace t refl

    lacks_global : {allowed : Allowed} {b : Base} {t n : Totals} {x : GlobalDeclarator} {ts us : List Token} → g.Spells allowed (g.A_global b) t x ts n us → Lacks open_brace ts
    lacks_global (g.a_global s n i f) = lacks_starred s n

    -- ---- what stands behind `static` and `volatile`, read to where f reads on

    -- a declaration that begins with `struct` is read as what else stands there
    abbrev StructRead : {goal : Goal} (t : Totals) (otherwise : Plan goal) (x : Tree goal) (a : Totalled Top) (ts vs : List Token) → Type 0
    StructRead {goal} t otherwise x a ts vs =
        (p : Pos) (y : List ℕ) (us ws : List Token) → Skips (The_word (codes "struct")) ts us → phrase.Names (kept limits k) us p y ws → Lacks open_brace ws
        → Through limits k (Behind_base (base.Struct (name p y)) t) (plan (Behind_base (base.Struct (name p y)) t)) a ws vs → Through limits k goal otherwise x ts vs

    base_read : {goal : Goal} {t : Totals} (f : Totalled Top → Plan goal) (otherwise : Plan goal) {x : Tree goal} {a : Totalled Top} {b : Base} {ts us vs : List Token} → phrase.Spells (kept limits k) phrase.A_base b ts us
        → Lacks open_brace us → Through limits k (Behind_base b t) (plan (Behind_base b t)) a us vs → Through limits k goal (f a) x vs vs → StructRead t otherwise x a ts vs
        → Through limits k goal (on_declaration goal t f otherwise) x ts vs
    base_read f otherwise (phrase.int_base s) l r q e =
        t_passes (lacks_word (The_word (codes "static")) s refl) (t_passes (lacks_word (The_word (codes "volatile")) s refl) (t_passes (lacks_word (The_word (codes "pthread_mutex_t")) s refl)
        (t_passes (lacks_word (The_word (codes "pthread_t")) s refl) (t_passes (lacks_word (The_word (codes "void")) s refl) (t_maybe s (t_calls r q))))))
    base_read f otherwise {us = us} (phrase.struct_base {p = p} {t = y} {us = ws} s n) l r q e =
        t_passes (lacks_word (The_word (codes "static")) s refl) (t_passes (lacks_word (The_word (codes "volatile")) s refl) (t_passes (lacks_word (The_word (codes "pthread_mutex_t")) s refl)
        (t_passes (lacks_word (The_word (codes "pthread_t")) s refl) (t_passes (lacks_word (The_word (codes "void")) s refl) (t_passes (lacks_word (The_word (codes "int")) s refl) (e p y ws us s n l r))))))

    globals_read : {goal : Goal} {t m : Totals} (f : Totalled Top → Plan goal) (otherwise : Plan goal) {x : Tree goal} {a : GlobalsOf} {ts us vs : List Token} → g.Spells (kept limits k) g.A_declaration_of_globals t a ts m us
        → Skips semicolon us vs → Through limits k goal (f (totalled (top.Globals a) m)) x vs vs → StructRead t otherwise x (totalled (top.Globals a) m) ts vs
        → Through limits k goal (on_declaration goal t f otherwise) x ts vs
    globals_read f otherwise (g.mutexes s i r) c q e =
        t_passes (lacks_word (The_word (codes "static")) s refl) (t_passes (lacks_word (The_word (codes "volatile")) s refl) (t_maybe s (t_calls (reads_mutexes i r c) q)))
    globals_read f otherwise (g.threads_of s i r) c q e =
        t_passes (lacks_word (The_word (codes "static")) s refl) (t_passes (lacks_word (The_word (codes "volatile")) s refl) (t_passes (lacks_word (The_word (codes "pthread_mutex_t")) s refl)
        (t_maybe s (t_calls (reads_threads i r c) q))))
    globals_read f otherwise (g.variables b i r) c q e = base_read f otherwise b (lacks_global i) (reads_globals_behind_base i r c) q e

    void_read : {goal : Goal} {t : Totals} (f : Totalled Top → Plan goal) (otherwise : Plan goal) {x : Tree goal} {a : Totalled Top} {ts us vs : List Token} → Skips (The_word (codes "void")) ts us
        → Through limits k (Behind_void t) (plan (Behind_void t)) a us vs → Through limits k goal (f a) x vs vs → Through limits k goal (on_declaration goal t f otherwise) x ts vs
    void_read f otherwise s r q =
        t_passes (lacks_word (The_word (codes "static")) s refl) (t_passes (lacks_word (The_word (codes "volatile")) s refl) (t_passes (lacks_word (The_word (codes "pthread_mutex_t")) s refl)
        (t_passes (lacks_word (The_word (codes "pthread_t")) s refl) (t_maybe s (t_calls r q)))))

    pub reads_function_behind_void : {t n l m : Totals} {p : Pos} {y : List ℕ} {ds : List Parameter} {b : Option Body} {ts us vs ws xs : List Token} → phrase.Names (kept limits k) ts p y us → Skips open_paren us vs
        → g.Spells (kept limits k) g.Parameters_behind n ds vs l ws → g.Spells (kept limits k) g.A_body t b ws m xs
        → Through limits k (Behind_void t) (plan (Behind_void t)) (totalled (top.Function (record { result = result.Void; name = name p y; parameters = ds; body = b })) m) ts xs
    reads_function_behind_void n c s r = t_passes (lacks_name mark.Star n) (t_last (reads_function_of n c s r))

    pub reads_pointer_behind_void : {t n l m : Totals} {p : Pos} {y : List ℕ} {ds : List Parameter} {b : Option Body} {ts us vs ws xs ys : List Token} → Skips star ts us → phrase.Names (kept limits k) us p y vs
        → Skips open_paren vs ws → g.Spells (kept limits k) g.Parameters_behind n ds ws l xs → g.Spells (kept limits k) g.A_body t b xs m ys
        → Through limits k (Behind_void t) (plan (Behind_void t)) (totalled (top.Function (record { result = result.Pointer; name = name p y; parameters = ds; body = b })) m) ts ys
    reads_pointer_behind_void i n c s r = t_maybe i (t_last (reads_function_of n c s r))

    result_read : {goal : Goal} {t n o l m : Totals} (f : Totalled Top → Plan goal) (otherwise : Plan goal) {x : Tree goal} {r : ResultType} {p : Pos} {y : List ℕ} {ds : List Parameter} {body : Option Body}
        {ts us vs ws xs ys : List Token} → g.Spells (kept limits k) g.A_result n r ts o us → phrase.Names (kept limits k) us p y vs → kept limits k Star (stars_missing r) vs ≡ true → Skips open_paren vs ws
        → g.Spells (kept limits k) g.Parameters_behind n ds ws l xs → g.Spells (kept limits k) g.A_body t body xs m ys
        → Through limits k goal (f (totalled (top.Function (record { result = r; name = name p y; parameters = ds; body = body })) m)) x ys ys
        → StructRead t otherwise x (totalled (top.Function (record { result = r; name = name p y; parameters = ds; body = body })) m) ts ys
        → Through limits k goal (on_declaration goal t f otherwise) x ts ys
    result_read f otherwise (g.nothing s) n z c ds b q e = void_read f otherwise s (reads_function_behind_void n c ds b) q
    result_read f otherwise (g.a_pointer s i) n z c ds b q e = void_read f otherwise s (reads_pointer_behind_void i n c ds b) q
    result_read f otherwise (g.a_value s i) n z c ds b q e = base_read f otherwise s (lacks_starred i n) (reads_function_behind_base i n z c ds b) q e

    function_read : {goal : Goal} {t m : Totals} (f : Totalled Top → Plan goal) (otherwise : Plan goal) {x : Tree goal} {a : Function} {ts vs : List Token} → g.Spells (kept limits k) g.A_function t a ts m vs
        → Through limits k goal (f (totalled (top.Function a) m)) x vs vs → StructRead t otherwise x (totalled (top.Function a) m) ts vs → Through limits k goal (on_declaration goal t f otherwise) x ts vs
    function_read f otherwise (g.a_function r n z c ds b) q e = result_read f otherwise r n z c ds b q e

    struct_for_qualified : (t : Totals) (a : Totalled Top) {ts vs : List Token}
        → StructRead t (must (The_word (codes "struct")) (want A_name (and_name []) (λ p y. last (Behind_base (base.Struct (name p y)) t) (Qualified t) (λ m. m)))) a a ts vs
    struct_for_qualified t a p y us ws s n l r = t_must s (t_named [] n (none us) (t_last r))

    pub reads_qualified : {t m : Totals} {a : Top} {ts us : List Token} → g.Spells (kept limits k) g.A_qualified t a ts m us → Through limits k (Qualified t) (plan (Qualified t)) (totalled a m) ts us
    reads_qualified (g.static_top s r) = t_maybe s (t_last (reads_qualified r))
    reads_qualified (g.volatile_top s r) = t_passes (lacks_word (The_word (codes "static")) s refl) (t_maybe s (t_last (reads_qualified r)))
    reads_qualified {t} {m} (g.globals_of {a = a} d e) = globals_read give _ d e t_gives (struct_for_qualified t (totalled (top.Globals a) m))
    reads_qualified {t} {m} (g.function_of {a = a} d) = function_read give _ d t_gives (struct_for_qualified t (totalled (top.Function a) m))

    -- ---- declarations

    pub reads_fields_behind_tag : (reads_starred_name : ReadsStarredName) (reads_base : ReadsBase) (x : Name) (t : Totals) {n l : Totals} {f : Fields} {more : List Fields} {ts us vs ws xs : List Token}
        → kept limits k (Limit counts.Structs) (suc t.structs) ts ≡ true → Skips open_brace ts us → g.Spells (kept limits k) (g.More_fields 0) n (f ∷ more) us l vs → Skips close_brace vs ws → Skips semicolon ws xs
        → Through limits k (Behind_tag x t) (plan (Behind_tag x t)) (totalled (top.Struct (record { name = x; fields = f ∷ more })) (one_more_struct t)) ts xs
    reads_fields_behind_tag reads_starred_name reads_base x t {ts = ts} i b s c e =
        t_takes b.2 (one counts.Structs (suc t.structs) ts i) tt (t_calls (reads_fields reads_starred_name reads_base s c) (t_must e t_gives))

    pub reads_others_behind_tag : (x : Name) (t : Totals) {a : Totalled Top} {ts us : List Token} → Lacks open_brace ts → Through limits k (Behind_base (base.Struct x) t) (plan (Behind_base (base.Struct x) t)) a ts us
        → Through limits k (Behind_tag x t) (plan (Behind_tag x t)) a ts us
    reads_others_behind_tag x t l r = t_passes l (t_last r)

    struct_for_top : (t : Totals) (a : Totalled Top) {ts vs : List Token}
        → StructRead t (maybe (The_word (codes "struct")) (want A_name (and_name []) (λ p y. call (Behind_tag (name p y) t) (some_top t))) (give (totalled None t))) (totalled (Some a.what) a.totals) a ts vs
    struct_for_top t a p y us ws s n l r = t_maybe s (t_named [] n (none us) (t_calls (reads_others_behind_tag (name p y) t l r) t_gives))

    module _ (reads_starred_name : ReadsStarredName) (reads_base : ReadsBase) where
      pub reads_top : {t m : Totals} {a : Top} {ts us : List Token} → g.Spells (kept limits k) g.A_top t a ts m us → Through limits k (A_top t) (plan (A_top t)) (totalled (Some a) m) ts us
      reads_top {t} (g.a_struct {p = p} {t = y} {us = us} s n i b f c e) =
          t_passes (lacks_word (The_word (codes "static")) s refl) (t_passes (lacks_word (The_word (codes "volatile")) s refl) (t_passes (lacks_word (The_word (codes "pthread_mutex_t")) s refl)
          (t_passes (lacks_word (The_word (codes "pthread_t")) s refl) (t_passes (lacks_word (The_word (codes "void")) s refl) (t_passes (lacks_word (The_word (codes "int")) s refl)
          (t_maybe s (t_named [] n (none us) (t_calls (reads_fields_behind_tag reads_starred_name reads_base (name p y) t i b f c e) t_gives))))))))
      reads_top (g.qualified (g.static_top s r)) = t_maybe s (t_calls (reads_qualified r) t_gives)
      reads_top (g.qualified (g.volatile_top s r)) = t_passes (lacks_word (The_word (codes "static")) s refl) (t_maybe s (t_calls (reads_qualified r) t_gives))
      reads_top {t} {m} (g.qualified (g.globals_of {a = a} d e)) = globals_read (some_top t) _ d e t_gives (struct_for_top t (totalled (top.Globals a) m))
      reads_top {t} {m} (g.qualified (g.function_of {a = a} d)) = function_read (some_top t) _ d t_gives (struct_for_top t (totalled (top.Function a) m))

      -- at the end there is no declaration
      no_top_read : (t : Totals) {ts us : List Token} → Skips The_end ts us → Through limits k (A_top t) (plan (A_top t)) (totalled None t) ts ts
      no_top_read t e =
          t_passes (lacks_end (codes "static") e) (t_passes (lacks_end (codes "volatile") e) (t_passes (lacks_end (codes "pthread_mutex_t") e) (t_passes (lacks_end (codes "pthread_t") e)
          (t_passes (lacks_end (codes "void") e) (t_passes (lacks_end (codes "int") e) (t_passes (lacks_end (codes "struct") e) t_gives))))))

      pub reads_tops : {t m : Totals} {all : List Top} {ts vs us : List Token} → g.Spells (kept limits k) g.Tops t all ts m vs → Skips The_end vs us
          → Through limits k (Tops t) (plan (Tops t)) (totalled all m) ts vs
      reads_tops {t} g.no_top e = t_calls (no_top_read t e) t_gives
      reads_tops (g.some_top s r) e = t_calls (reads_top s) (t_last (reads_tops r e))

      program_read : (a : Program) {n m : Totals} {ts us : List Token} → g.Spells (kept limits k) g.A_program n a ts m us → n ≡ nothing_yet → Through limits k A_program (plan A_program) a ts us
      program_read a {m = m} (g.a_program {all = all} {ts = ts} {us = us} s e) h =
          t_calls (subst (λ n. Through limits k (Tops n) (plan (Tops n)) (totalled all m) ts us) h (reads_tops s e)) (t_must e t_gives)

module _ (reads_stars : ReadsStars) (reads_starred_name : ReadsStarredName) (reads_base : ReadsBase) (reads_block : ReadsBlock) where
  pub reads_program : (limits : Limits) (k : ℕ) (a : Program) {m : Totals} {ts us : List Token} → g.Spells (kept limits k) g.A_program nothing_yet a ts m us → Through limits k A_program (plan A_program) a ts us
  reads_program limits k a s = program_read limits k reads_stars reads_block reads_starred_name reads_base a s refl
