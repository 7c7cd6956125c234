-- What may be read as a part of a declaration or of a program is spelled so.
use Rattle.std.proofs.Common.{◌≡◌, ◌≤◌, ℕ, suc, arith, true, false, List, [], ◌∷◌, Option, Some, None, codes, refl, sym, subst}
use Rattle.std.proofs.lemmas.List.Elements.{All-head}
use Rattle.std.proofs.lemmas.Bool.{le-leb}
use Rattle.ca_tree.specs.declared.text.Pos.{Pos}
use Rattle.ca_tree.specs.declared.token.Token.{Token}
use Rattle.ca_tree.specs.declared.tree.Name.{Name}
use Rattle.ca_tree.specs.declared.tree.Base.{Base}
use Rattle.ca_tree.specs.declared.tree.Base.TheVariants as base
use Rattle.ca_tree.specs.declared.tree.Declarator.{Declarator}
use Rattle.ca_tree.specs.declared.tree.Fields.{Fields}
use Rattle.ca_tree.specs.declared.tree.Constant.{Constant}
use Rattle.ca_tree.specs.declared.tree.MutexDeclarator.{MutexDeclarator}
use Rattle.ca_tree.specs.declared.tree.ThreadDeclarator.{ThreadDeclarator}
use Rattle.ca_tree.specs.declared.tree.GlobalForm.{GlobalForm}
use Rattle.ca_tree.specs.declared.tree.GlobalForm.TheVariants as form
use Rattle.ca_tree.specs.declared.tree.GlobalDeclarator.{GlobalDeclarator}
use Rattle.ca_tree.specs.declared.tree.Globals.TheVariants as globals
use Rattle.ca_tree.specs.declared.tree.ResultType.{ResultType}
use Rattle.ca_tree.specs.declared.tree.ParameterType.{ParameterType}
use Rattle.ca_tree.specs.declared.tree.ParameterType.TheVariants as parameter
use Rattle.ca_tree.specs.declared.tree.Parameter.{Parameter}
use Rattle.ca_tree.specs.declared.tree.Body.{Body}
use Rattle.ca_tree.specs.declared.tree.Function.{Function}
use Rattle.ca_tree.specs.declared.tree.Program.{Program}
use Rattle.ca_tree.specs.declared.tree.Top.{Top}
use Rattle.ca_tree.specs.declared.tree.Top.TheVariants as top
use Rattle.ca_grammar.specs.declared.faults.Count.{Count}
use Rattle.ca_tree.specs.declared.counted.Counted.{Counted}
use Rattle.ca_tree.specs.declared.counted.Counted.TheVariants as counts
use Rattle.ca_tree.specs.Counts.{Totals, one_more_global, one_more_mutex, one_more_struct}
use Rattle.ca_grammar.specs.Words.{Class, The_word, A_name, Of, Takes, Skips, open_brace, comma, semicolon, star}
use Rattle.ca_grammar.specs.Limits.{Limit, Depth, Star, Limits, within, Allowed, kept}
use Rattle.ca_grammar.specs.Expressions.{name}
use Rattle.ca_grammar.specs.Phrases as phrase
use Rattle.ca_grammar.specs.Declarations as g
use Rattle.ca_grammar.specs.Declarations.{stars_missing}
use Rattle.ca_grammar.specs.Goals.{Goal, Totalled, Field_declarators, A_field, More_fields, Mutexes, Threads, A_constant, Behind_global, More_globals, Next_global, Behind_type, More_parameters, Next_parameter, Parameters, Body_of, Function_of, Behind_paren, Behind_base, Behind_void, Qualified, Behind_tag, A_top, Tops, A_program, Tree}
use Rattle.ca_grammar.specs.Plan.{and_name, counted}
use Rattle.ca_grammar.specs.DeclarationPlans.{totalled, behind_top, behind_mutex, behind_thread, a_global, global, a_parameter, unnamed}
use Rattle.ca_grammar.specs.Reads.{plan}
use Rattle.ca_grammar.proofs.Combinators.{counts_before, count_of_name}
use Rattle.ca_grammar.proofs.Loose.{Counts, Roomy, Spelled, Loose, l_give, l_take, l_pass, l_want, l_call, Nonempty, DeclaresGlobals, DeclaresParameters, NamedBefore, MaybeTop}

is : (limits : Limits) (k : ℕ) (g : Goal) (ts us : List Token) {w a : Tree g} → w ≡ a → Spelled limits k g w ts us → Spelled limits k g a ts us
is limits k g ts us w s = subst (λ x. Spelled limits k g x ts us) w s

-- a step over a token
pub skip : {c : Class} {p : Pos} {x : Of c} {ts us : List Token} → Takes c ts p x us → Skips c ts us
skip {p = p} {x = x} t = (p, x, t)

-- a name with what is counted at it
pub named : (limits : Limits) (k : ℕ) (cs : List Count) {p : Pos} {t : List ℕ} {ts us : List Token} → Takes A_name ts p t us → Counts limits k (and_name cs t) ts → phrase.Names (kept limits k) ts p t us
named limits k cs {t = t} {ts = ts} n c = record { takes = n; short = count_of_name limits k ts cs t c }

-- the one number that is counted is allowed
pub one_counted : (limits : Limits) (k : ℕ) (of : Counted) (n : ℕ) (ts : List Token) → Counts limits k (counted of n ∷ []) ts → kept limits k (Limit of) n ts ≡ true
one_counted limits k of n ts c = All-head (λ x. kept limits k (Limit x.of) x.number ts ≡ true) (counted of n) [] c

-- and before a name
counted_before : (limits : Limits) (k : ℕ) (of : Counted) (n : ℕ) (t : List ℕ) (ts : List Token) → Counts limits k (and_name (counted of n ∷ []) t) ts → kept limits k (Limit of) n ts ≡ true
counted_before limits k of n t ts c = one_counted limits k of n ts (counts_before limits k ts (counted of n ∷ []) t c)

-- a fact of a name, by the place and the text of it
pub of_name : (P : Name → Type 0) (x : Name) (p : Pos) (t : List ℕ) → x ≡ name p t → P (name p t) → P x
of_name P x p t e h = subst P (sym e) h

pub back_field_declarators : (limits : Limits) (k : ℕ) (b : Base) (j : ℕ) (a : List Declarator) (ts us : List Token) → Roomy limits (Field_declarators b j)
    → Loose limits k (Field_declarators b j) (plan (Field_declarators b j)) a ts us → Spelled limits k (Field_declarators b j) a ts us
back_field_declarators limits k b j a ts us h (l_call x s (l_take t c d (l_call more r (l_give w)))) =
    let i = s h in
    let m = one_counted limits k counts.Fields (suc j) i.us i.counted in
    is limits k (Field_declarators b j) ts us w
    (λ n. of_name (λ y. g.Spells (kept limits k) (g.Field_declarators b j) n (record { stars = x.stars; name = y } ∷ more) ts n us) x.name i.p i.t i.is_name
    (g.another_field i.stars i.has_star m i.names (skip t) (r h n)))
back_field_declarators limits k b j a ts us h (l_call x s (l_pass (l_want t c (l_give w)))) =
    let i = s h in
    let m = one_counted limits k counts.Fields (suc j) i.us i.counted in
    is limits k (Field_declarators b j) ts us w
    (λ n. of_name (λ y. g.Spells (kept limits k) (g.Field_declarators b j) n (record { stars = x.stars; name = y } ∷ []) ts n us) x.name i.p i.t i.is_name
    (g.last_field i.stars i.has_star m i.names (skip t)))

pub back_field : (limits : Limits) (k j : ℕ) (a : List Fields) (ts us : List Token) → Roomy limits (A_field j) → Loose limits k (A_field j) (plan (A_field j)) a ts us → Spelled limits k (A_field j) a ts us
back_field limits k j a ts us h (l_call b s (l_call ds r (l_call more q (l_give w)))) =
    is limits k (A_field j) ts us w
    (λ n. let o = q h n in (record { base = b.what; declarators = ds }, more, refl, (o.0, g.more_fields (s h).0 (r h n) o.1, o.2)))

pub back_more_fields : (limits : Limits) (k j : ℕ) (a : List Fields) (ts us : List Token) → Roomy limits (More_fields j)
    → Loose limits k (More_fields j) (plan (More_fields j)) a ts us → Spelled limits k (More_fields j) a ts us
back_more_fields limits k j a ts us h (l_take t c d (l_give w)) = is limits k (More_fields j) ts us w (λ n. (ts, g.no_more_fields, skip t))
back_more_fields limits k j a ts us h (l_pass (l_call fs s (l_give w))) =
    is limits k (More_fields j) ts us w
    (λ n.
    let o = s h n in
    (o.3.0, subst (λ l. g.Spells (kept limits k) (g.More_fields j) n l ts n o.3.0) (sym o.2) o.3.1, o.3.2))

-- what may be read as mutexes, as threads, as globals or as parameters is one and maybe more
back_behind_mutex : (limits : Limits) (k : ℕ) (t : Totals) (x : MutexDeclarator) (a : Totalled (List MutexDeclarator)) (pre ts us : List Token) → within (limits Depth) 1 ≡ true
    → g.Spells (kept limits k) g.A_mutex t x pre (one_more_mutex t) ts → Loose limits k (Mutexes t) (behind_mutex t x.name x.has_initializer) a ts us → Spelled limits k (Mutexes t) a pre us
back_behind_mutex limits k t x a pre ts us h s (l_take c n d (l_call m r (l_give w))) =
    let o = r h in
    is limits k (Mutexes t) pre us w (
      x,
      m.what,
      refl,
      record {
        first_totals = one_more_mutex t;
        behind_first = ts;
        behind_all = o.3.behind_all;
        first = s;
        others = subst (λ l. g.Spells (kept limits k) g.More_mutexes (one_more_mutex t) l ts m.totals o.3.behind_all) (sym o.2) (g.more_mutexes (skip c) o.3.first o.3.others);
        end = o.3.end;
      },
    )
back_behind_mutex limits k t x a pre ts us h s (l_pass (l_want c n (l_give w))) =
    is limits k (Mutexes t) pre us w (x, [], refl, record { first_totals = one_more_mutex t; behind_first = ts; behind_all = ts; first = s; others = g.no_more_mutexes; end = skip c })

pub back_mutexes : (limits : Limits) (k : ℕ) (t : Totals) (a : Totalled (List MutexDeclarator)) (ts us : List Token) → Roomy limits (Mutexes t) → Loose limits k (Mutexes t) (plan (Mutexes t)) a ts us
    → Spelled limits k (Mutexes t) a ts us
back_mutexes limits k t a ts us h (l_want {p = p} {x = x} n c (l_take e i d (l_want w o m))) =
    back_behind_mutex limits k t (record { name = name p x; has_initializer = true }) a ts _ us h
    (g.a_mutex_with_initializer (counted_before limits k counts.Mutexes (suc t.mutexes) x ts c) (named limits k (counted counts.Mutexes (suc t.mutexes) ∷ []) n c) (skip e) (skip w)) m
back_mutexes limits k t a ts us h (l_want {p = p} {x = x} n c (l_pass m)) =
    back_behind_mutex limits k t (record { name = name p x; has_initializer = false }) a ts _ us h
    (g.a_mutex (counted_before limits k counts.Mutexes (suc t.mutexes) x ts c) (named limits k (counted counts.Mutexes (suc t.mutexes) ∷ []) n c)) m

-- where the thread isn't counted yet, it is at the next token
back_behind_thread : (limits : Limits) (k : ℕ) (t : Totals) (cs : List Count) (x : ThreadDeclarator) (a : Totalled (List ThreadDeclarator)) (pre ts us : List Token) → within (limits Depth) 1 ≡ true
    → (Counts limits k cs ts → g.Spells (kept limits k) g.A_thread t x pre (one_more_global t) ts) → Loose limits k (Threads t) (behind_thread t cs x.name x.length) a ts us
    → Spelled limits k (Threads t) a pre us
back_behind_thread limits k t cs x a pre ts us h s (l_take c n d (l_call m r (l_give w))) =
    let o = r h in
    is limits k (Threads t) pre us w (
      x,
      m.what,
      refl,
      record {
        first_totals = one_more_global t;
        behind_first = ts;
        behind_all = o.3.behind_all;
        first = s n;
        others = subst (λ l. g.Spells (kept limits k) g.More_threads (one_more_global t) l ts m.totals o.3.behind_all) (sym o.2) (g.more_threads (skip c) o.3.first o.3.others);
        end = o.3.end;
      },
    )
back_behind_thread limits k t cs x a pre ts us h s (l_pass (l_want c n (l_give w))) =
    is limits k (Threads t) pre us w (x, [], refl, record { first_totals = one_more_global t; behind_first = ts; behind_all = ts; first = s n; others = g.no_more_threads; end = skip c })

pub back_threads : (limits : Limits) (k : ℕ) (t : Totals) (a : Totalled (List ThreadDeclarator)) (ts us : List Token) → Roomy limits (Threads t) → Loose limits k (Threads t) (plan (Threads t)) a ts us
    → Spelled limits k (Threads t) a ts us
back_threads limits k t a ts us h (l_want {p = p} {x = x} n c (l_take {ts = vs} e i d (l_want {x = j} w o (l_want f q m)))) =
    back_behind_thread limits k t [] (record { name = name p x; length = Some j }) a ts _ us h
    (λ u. g.threads (named limits k [] n c) (one_counted limits k counts.Globals (suc t.globals) vs i) (g.a_length (skip e) w (skip f))) m
back_threads limits k t a ts us h (l_want {p = p} {x = x} {us = vs} n c (l_pass m)) =
    back_behind_thread limits k t (a_global t) (record { name = name p x; length = None }) a ts vs us h
    (λ u. g.a_thread (named limits k [] n c) (one_counted limits k counts.Globals (suc t.globals) vs u)) m

pub back_constant : (limits : Limits) (k : ℕ) (a : Constant) (ts us : List Token) → Roomy limits A_constant → Loose limits k A_constant (plan A_constant) a ts us → Spelled limits k A_constant a ts us
back_constant limits k a ts us h (l_take t c d (l_want n i (l_give w))) = is limits k A_constant ts us w (λ m. g.a_negative (skip t) n)
back_constant limits k a ts us h (l_pass (l_take t c d (l_give w))) = is limits k A_constant ts us w (λ m. g.a_null (skip t))
back_constant limits k a ts us h (l_pass (l_pass (l_want t c (l_give w)))) = is limits k A_constant ts us w (λ m. g.a_number t)

-- a global of this form
form_read : (limits : Limits) (k : ℕ) (b : Base) (j : ℕ) (x : Name) (t : Totals) (f : GlobalForm) (pre ts us : List Token) → NamedBefore (kept limits k) j x pre ts → Counts limits k (a_global t) ts
    → g.Spells (kept limits k) g.A_form t f ts t us → g.Spells (kept limits k) (g.A_global b) t (global j x f) pre (one_more_global t) us
form_read limits k b j x t f pre ts us n c s =
    of_name (λ y. g.Spells (kept limits k) (g.A_global b) t (global j y f) pre (one_more_global t) us) x n.p n.t n.is_name
    (g.a_global n.stars n.names (one_counted limits k counts.Globals (suc t.globals) ts c) s)

-- with those behind it
more_read : (limits : Limits) (k : ℕ) (b : Base) (t : Totals) (x : GlobalDeclarator) (m : Totalled (List GlobalDeclarator)) (pre ts us : List Token)
    → g.Spells (kept limits k) (g.A_global b) t x pre (one_more_global t) ts → Spelled limits k (More_globals b (one_more_global t)) m ts us
    → Nonempty (x ∷ m.what) (λ y more. DeclaresGlobals (kept limits k) b t m.totals y more pre us)
more_read limits k b t x m pre ts us s r =
    (x, m.what, refl, record { first_totals = one_more_global t; behind_first = ts; behind_all = r.0; first = s; others = r.1; end = r.2 })

-- a list with a first, behind a comma
next_read : (limits : Limits) (k : ℕ) (b : Base) (t : Totals) (m : Totalled (List GlobalDeclarator)) (ts vs us : List Token) → Skips comma ts vs → Spelled limits k (Next_global b t) m vs us
    → Spelled limits k (More_globals b t) m ts us
next_read limits k b t m ts vs us c o =
    (o.3.behind_all, subst (λ l. g.Spells (kept limits k) (g.More_globals b) t l ts m.totals o.3.behind_all) (sym o.2) (g.more_globals c o.3.first o.3.others), o.3.end)

pub back_behind_global : (limits : Limits) (k : ℕ) (b : Base) (j : ℕ) (x : Name) (t : Totals) (a : Totalled (List GlobalDeclarator)) (ts us : List Token) → Roomy limits (Behind_global b j x t)
    → Loose limits k (Behind_global b j x t) (plan (Behind_global b j x t)) a ts us → Spelled limits k (Behind_global b j x t) a ts us
back_behind_global limits k b j x t a ts us h (l_take e c d (l_want {x = i} w o (l_want f q (l_call m r (l_give v))))) =
    is limits k (Behind_global b j x t) ts us v
    (λ pre n. more_read limits k b t (global j x (form.Array i)) m pre _ us (form_read limits k b j x t (form.Array i) pre ts _ n c (g.an_array (g.a_length (skip e) w (skip f)))) (r h))
back_behind_global limits k b j x t a ts us h (l_pass (l_take e c d (l_call i s (l_call m r (l_give v))))) =
    is limits k (Behind_global b j x t) ts us v
    (λ pre n. more_read limits k b t (global j x (form.Constant i)) m pre _ us (form_read limits k b j x t (form.Constant i) pre ts _ n c (g.a_constant (skip e) (s h t))) (r h))
back_behind_global limits k b j x t a ts us h (l_pass (l_pass (l_take {us = vs} e c d (l_call m r (l_give v))))) =
    is limits k (Behind_global b j x t) ts us v
    (λ pre n. more_read limits k b t (global j x form.Plain) m pre ts us (form_read limits k b j x t form.Plain pre ts ts n c g.plain) (next_read limits k b (one_more_global t) m ts vs us (skip e) (r h)))
back_behind_global limits k b j x t a ts us h (l_pass (l_pass (l_pass (l_want e c (l_give v))))) =
    is limits k (Behind_global b j x t) ts us v
    (λ pre n. more_read limits k b t (global j x form.Plain) (totalled [] (one_more_global t)) pre ts us (form_read limits k b j x t form.Plain pre ts ts n c g.plain) (ts, g.no_more_globals, skip e))

pub back_more_globals : (limits : Limits) (k : ℕ) (b : Base) (t : Totals) (a : Totalled (List GlobalDeclarator)) (ts us : List Token) → Roomy limits (More_globals b t)
    → Loose limits k (More_globals b t) (plan (More_globals b t)) a ts us → Spelled limits k (More_globals b t) a ts us
back_more_globals limits k b t a ts us h (l_take {us = vs} e c d (l_call m r (l_give w))) = is limits k (More_globals b t) ts us w (next_read limits k b t m ts vs us (skip e) (r h))
back_more_globals limits k b t a ts us h (l_pass (l_want e c (l_give w))) = is limits k (More_globals b t) ts us w (ts, g.no_more_globals, skip e)

pub back_next_global : (limits : Limits) (k : ℕ) (b : Base) (t : Totals) (a : Totalled (List GlobalDeclarator)) (ts us : List Token) → Roomy limits (Next_global b t)
    → Loose limits k (Next_global b t) (plan (Next_global b t)) a ts us → Spelled limits k (Next_global b t) a ts us
back_next_global limits k b t a ts us h (l_call j s (l_want {p = p} {x = x} n c (l_call m r (l_give w)))) =
    is limits k (Next_global b t) ts us w (r h ts (record { us = _; p = p; t = x; stars = s h; names = named limits k [] n c; is_name = refl }))

-- a parameter behind a comma, with those behind it
next_parameter_read : (limits : Limits) (k j : ℕ) (n : Totals) (ds : List Parameter) (ts vs us : List Token) → Skips comma ts vs
    → Nonempty ds (λ x more. DeclaresParameters (kept limits k) j n x more vs us) → g.Spells (kept limits k) (g.More_parameters j) n ds ts n us
next_parameter_read limits k j n ds ts vs us c o = subst (λ l. g.Spells (kept limits k) (g.More_parameters j) n l ts n us) (sym o.2) (g.next_parameter c o.3.first o.3.others)

pub back_behind_type : (limits : Limits) (k : ℕ) (of : ParameterType) (j : ℕ) (a : List Parameter) (ts us : List Token) → Roomy limits (Behind_type of j)
    → Loose limits k (Behind_type of j) (plan (Behind_type of j)) a ts us → Spelled limits k (Behind_type of j) a ts us
back_behind_type limits k of j a ts us h (l_take {p = p} {x = x} {us = vs} e c d (l_call ds r (l_give w))) =
    is limits k (Behind_type of j) ts us w
    (λ n pre s. (
      record { of = of; name = Some (name p x) },
      ds,
      refl,
      record {
        behind_first = vs;
        first = g.a_named_parameter s (counted_before limits k counts.Parameters (suc j) x ts c) (named limits k (a_parameter j) e c);
        others = r h n;
      },
    ))
back_behind_type limits k of j a ts us h (l_pass (l_take {us = vs} e c d (l_call ds r (l_give w)))) =
    is limits k (Behind_type of j) ts us w
    (λ n pre s. (
      unnamed of,
      ds,
      refl,
      record {
        behind_first = ts;
        first = g.a_parameter s (one_counted limits k counts.Parameters (suc j) ts c);
        others = next_parameter_read limits k (suc j) n ds ts vs us (skip e) (r h n);
      },
    ))
back_behind_type limits k of j a ts us h (l_pass (l_pass (l_want e c (l_give w)))) =
    is limits k (Behind_type of j) ts us w
    (λ n pre s. (unnamed of, [], refl, record { behind_first = ts; first = g.a_parameter s (one_counted limits k counts.Parameters (suc j) ts c); others = g.last_parameter (skip e) }))

pub back_more_parameters : (limits : Limits) (k j : ℕ) (a : List Parameter) (ts us : List Token) → Roomy limits (More_parameters j)
    → Loose limits k (More_parameters j) (plan (More_parameters j)) a ts us → Spelled limits k (More_parameters j) a ts us
back_more_parameters limits k j a ts us h (l_take {us = vs} e c d (l_call ds r (l_give w))) =
    is limits k (More_parameters j) ts us w (λ n. next_parameter_read limits k j n ds ts vs us (skip e) (r h n))
back_more_parameters limits k j a ts us h (l_pass (l_want e c (l_give w))) = is limits k (More_parameters j) ts us w (λ n. g.last_parameter (skip e))

-- from j stars on there are at least j
stars_at_least : {allowed : Allowed} {j m : ℕ} {ts us : List Token} → phrase.Spells allowed (phrase.Stars j) m ts us → j ≤ m
stars_at_least phrase.no_star = omega arith
stars_at_least (phrase.a_star t s) = omega (arith, stars_at_least s)

-- a struct as a parameter, with its first star
struct_read : (limits : Limits) (k m : ℕ) (n : Totals) {p : Pos} {x : List ℕ} {ts us vs ws xs : List Token} → Skips (The_word (codes "struct")) ts us → Takes A_name us p x vs
    → Counts limits k (and_name [] x) us → Skips star vs ws → phrase.Spells (kept limits k) (phrase.Stars 1) m ws xs
    → g.Spells (kept limits k) g.A_parameter_type n (parameter.Value (record { base = base.Struct (name p x); stars = m })) ts n xs
struct_read limits k m n s e c t r = g.a_value_parameter (phrase.struct_base s (named limits k [] e c)) (phrase.a_star t r) (le-leb 1 m (stars_at_least r))

pub back_next_parameter : (limits : Limits) (k j : ℕ) (a : List Parameter) (ts us : List Token) → Roomy limits (Next_parameter j)
    → Loose limits k (Next_parameter j) (plan (Next_parameter j)) a ts us → Spelled limits k (Next_parameter j) a ts us
back_next_parameter limits k j a ts us h (l_take e c d (l_want f i (l_call ds r (l_give w)))) =
    is limits k (Next_parameter j) ts us w (λ n. r h n ts (g.a_pointer_parameter (skip e) (skip f)))
back_next_parameter limits k j a ts us h (l_pass (l_take e c d (l_call m s (l_call ds r (l_give w))))) =
    is limits k (Next_parameter j) ts us w (λ n. r h n ts (g.a_value_parameter (phrase.int_base (skip e)) (s h) refl))
back_next_parameter limits k j a ts us h (l_pass (l_pass (l_want e c (l_want f i (l_want q o (l_call m s (l_call ds r (l_give w)))))))) =
    is limits k (Next_parameter j) ts us w (λ n. r h n ts (struct_read limits k m n (skip e) f i (skip q) (s h)))

-- parameters, with the first
parameters_read : (limits : Limits) (k : ℕ) (n : Totals) (ds : List Parameter) (ts us : List Token) → Nonempty ds (λ x more. DeclaresParameters (kept limits k) 0 n x more ts us)
    → g.Spells (kept limits k) g.Parameters_behind n ds ts n us
parameters_read limits k n ds ts us o = subst (λ l. g.Spells (kept limits k) g.Parameters_behind n l ts n us) (sym o.2) (g.some_parameters o.3.first o.3.others)

pub back_parameters : (limits : Limits) (k : ℕ) (a : List Parameter) (ts us : List Token) → Roomy limits Parameters → Loose limits k Parameters (plan Parameters) a ts us → Spelled limits k Parameters a ts us
back_parameters limits k a ts us h (l_take e c d (l_give w)) = is limits k Parameters ts us w (λ n. g.no_parameters (skip e))
back_parameters limits k a ts us h (l_pass (l_take e c d (l_take f i m (l_call ds r (l_give w))))) =
    is limits k Parameters ts us w (λ n. parameters_read limits k n ds ts us (r h n ts (g.a_pointer_parameter (skip e) (skip f))))
back_parameters limits k a ts us h (l_pass (l_take e c d (l_pass (l_want f i (l_give w))))) = is limits k Parameters ts us w (λ n. g.void_parameters (skip e) (skip f))
back_parameters limits k a ts us h (l_pass (l_pass (l_take e c d (l_call m s (l_call ds r (l_give w)))))) =
    is limits k Parameters ts us w (λ n. parameters_read limits k n ds ts us (r h n ts (g.a_value_parameter (phrase.int_base (skip e)) (s h) refl)))
back_parameters limits k a ts us h (l_pass (l_pass (l_pass (l_want e c (l_want f i (l_want q o (l_call m s (l_call ds r (l_give w))))))))) =
    is limits k Parameters ts us w (λ n. parameters_read limits k n ds ts us (r h n ts (struct_read limits k m n (skip e) f i (skip q) (s h))))

pub back_body_of : (limits : Limits) (k : ℕ) (t : Totals) (a : Totalled (Option Body)) (ts us : List Token) → Roomy limits (Body_of t) → Loose limits k (Body_of t) (plan (Body_of t)) a ts us
    → Spelled limits k (Body_of t) a ts us
back_body_of limits k t a ts us h (l_take e c d (l_give w)) = is limits k (Body_of t) ts us w (g.no_body (skip e))
back_body_of limits k t a ts us h (l_pass (l_want e c (l_call m s (l_give w)))) =
    let i = s h in
    is limits k (Body_of t) ts us w (g.a_body (one_counted limits k counts.Functions (suc t.functions) ts c) (skip e) i.statements (i.counted refl) i.close)

none_within : (limit : Option ℕ) → within limit 0 ≡ true
none_within None = refl
none_within (Some m) = le-leb 0 m (omega arith)

-- a result that lacks no star
pub no_star_missing : (limits : Limits) (k n : ℕ) (ts : List Token) → n ≡ 0 → kept limits k Star n ts ≡ true
no_star_missing limits k n ts h = subst (λ m. within (limits Star) m ≡ true) (sym h) (none_within (limits Star))

pub back_function_of : (limits : Limits) (k : ℕ) (r : ResultType) (t : Totals) (a : Totalled Function) (ts us : List Token) → Roomy limits (Function_of r t)
    → Loose limits k (Function_of r t) (plan (Function_of r t)) a ts us → Spelled limits k (Function_of r t) a ts us
back_function_of limits k r t a ts us h (l_want {p = p} {x = x} {us = vs} e c (l_want f i (l_call m s (l_give w)))) =
    is limits k (Function_of r t) ts us w
    (λ pre o z. s h pre (record {
      us = ts;
      vs = vs;
      p = p;
      text = x;
      result = o;
      names = named limits k [] e c;
      is_name = refl;
      star = no_star_missing limits k (stars_missing r) vs z;
      paren = skip f;
    }))

pub back_behind_paren : (limits : Limits) (k : ℕ) (r : ResultType) (x : Name) (t : Totals) (a : Totalled Function) (ts us : List Token) → Roomy limits (Behind_paren r x t)
    → Loose limits k (Behind_paren r x t) (plan (Behind_paren r x t)) a ts us → Spelled limits k (Behind_paren r x t) a ts us
back_behind_paren limits k r x t a ts us h (l_call ds s (l_call b q (l_give w))) =
    is limits k (Behind_paren r x t) ts us w
    (λ pre o. of_name (λ y. g.Spells (kept limits k) g.A_function t (record { result = r; name = y; parameters = ds; body = b.what }) pre b.totals us) x o.p o.text o.is_name
    (g.a_function o.result o.names o.star o.paren (s h t) (q h)))

-- globals, with the first
globals_read : (limits : Limits) (k : ℕ) (b : Base) (t : Totals) (m : Totalled (List GlobalDeclarator)) (pre ts us : List Token) → phrase.Spells (kept limits k) phrase.A_base b pre ts
    → Nonempty m.what (λ x more. DeclaresGlobals (kept limits k) b t m.totals x more ts us) → g.Spells (kept limits k) g.A_qualified t (top.Globals (globals.Variables b m.what)) pre m.totals us
globals_read limits k b t m pre ts us s o =
    subst (λ l. g.Spells (kept limits k) g.A_qualified t (top.Globals (globals.Variables b l)) pre m.totals us) (sym o.2) (g.globals_of (g.variables s o.3.first o.3.others) o.3.end)

pub back_behind_base : (limits : Limits) (k : ℕ) (b : Base) (t : Totals) (a : Totalled Top) (ts us : List Token) → Roomy limits (Behind_base b t)
    → Loose limits k (Behind_base b t) (plan (Behind_base b t)) a ts us → Spelled limits k (Behind_base b t) a ts us
back_behind_base limits k b t a ts us h (l_call j s (l_want {p = p} {x = x} {us = vs} e c (l_take f i d (l_call m r (l_give w))))) =
    is limits k (Behind_base b t) ts us w
    (λ pre o. g.function_of (r h pre (record { us = _; vs = vs; p = p; text = x; result = g.a_value o (s h); names = named limits k [] e c; is_name = refl; star = d; paren = skip f })))
back_behind_base limits k b t a ts us h (l_call j s (l_want {p = p} {x = x} e c (l_pass (l_call m r (l_give w))))) =
    is limits k (Behind_base b t) ts us w
    (λ pre o. globals_read limits k b t m pre ts us o (r h ts (record { us = _; p = p; t = x; stars = s h; names = named limits k [] e c; is_name = refl })))

pub back_behind_void : (limits : Limits) (k : ℕ) (t : Totals) (a : Totalled Top) (ts us : List Token) → Roomy limits (Behind_void t) → Loose limits k (Behind_void t) (plan (Behind_void t)) a ts us
    → Spelled limits k (Behind_void t) a ts us
back_behind_void limits k t a ts us h (l_take e c d (l_call m r (l_give w))) = is limits k (Behind_void t) ts us w (λ pre o. g.function_of (r h pre (g.a_pointer o (skip e)) refl))
back_behind_void limits k t a ts us h (l_pass (l_call m r (l_give w))) = is limits k (Behind_void t) ts us w (λ pre o. g.function_of (r h pre (g.nothing o) refl))

mutexes_read : (limits : Limits) (k : ℕ) (t : Totals) (m : Totalled (List MutexDeclarator)) (pre ts us : List Token) → Skips (The_word (codes "pthread_mutex_t")) pre ts
    → Spelled limits k (Mutexes t) m ts us → g.Spells (kept limits k) g.A_qualified t (top.Globals (globals.Mutexes m.what)) pre m.totals us
mutexes_read limits k t m pre ts us s o =
    subst (λ l. g.Spells (kept limits k) g.A_qualified t (top.Globals (globals.Mutexes l)) pre m.totals us) (sym o.2) (g.globals_of (g.mutexes s o.3.first o.3.others) o.3.end)

threads_read : (limits : Limits) (k : ℕ) (t : Totals) (m : Totalled (List ThreadDeclarator)) (pre ts us : List Token) → Skips (The_word (codes "pthread_t")) pre ts
    → Spelled limits k (Threads t) m ts us → g.Spells (kept limits k) g.A_qualified t (top.Globals (globals.Threads m.what)) pre m.totals us
threads_read limits k t m pre ts us s o =
    subst (λ l. g.Spells (kept limits k) g.A_qualified t (top.Globals (globals.Threads l)) pre m.totals us) (sym o.2) (g.globals_of (g.threads_of s o.3.first o.3.others) o.3.end)

pub back_qualified : (limits : Limits) (k : ℕ) (t : Totals) (a : Totalled Top) (ts us : List Token) → Roomy limits (Qualified t) → Loose limits k (Qualified t) (plan (Qualified t)) a ts us
    → Spelled limits k (Qualified t) a ts us
back_qualified limits k t a ts us h (l_take e c d (l_call m r (l_give w))) = is limits k (Qualified t) ts us w (g.static_top (skip e) (r h))
back_qualified limits k t a ts us h (l_pass (l_take e c d (l_call m r (l_give w)))) = is limits k (Qualified t) ts us w (g.volatile_top (skip e) (r h))
back_qualified limits k t a ts us h (l_pass (l_pass (l_take e c d (l_call m r (l_give w))))) = is limits k (Qualified t) ts us w (mutexes_read limits k t m ts _ us (skip e) (r h))
back_qualified limits k t a ts us h (l_pass (l_pass (l_pass (l_take e c d (l_call m r (l_give w)))))) = is limits k (Qualified t) ts us w (threads_read limits k t m ts _ us (skip e) (r h))
back_qualified limits k t a ts us h (l_pass (l_pass (l_pass (l_pass (l_take e c d (l_call m r (l_give w))))))) = is limits k (Qualified t) ts us w (r h ts (skip e))
back_qualified limits k t a ts us h (l_pass (l_pass (l_pass (l_pass (l_pass (l_take e c d (l_call m r (l_give w)))))))) = is limits k (Qualified t) ts us w (r h ts (phrase.int_base (skip e)))
back_qualified limits k t a ts us h (l_pass (l_pass (l_pass (l_pass (l_pass (l_pass (l_want e c (l_want f i (l_call m r (l_give w)))))))))) =
    is limits k (Qualified t) ts us w (r h ts (phrase.struct_base (skip e) (named limits k [] f i)))

-- a struct, with its first field
fields_read : (limits : Limits) (k : ℕ) (x : Name) (t : Totals) (fs : List Fields) {p : Pos} {text : List ℕ} (pre mid ts : List Token) {vs ws us : List Token} → Skips (The_word (codes "struct")) pre mid
    → phrase.Names (kept limits k) mid p text ts → x ≡ name p text → Counts limits k (counted counts.Structs (suc t.structs) ∷ []) ts → Skips open_brace ts vs → Spelled limits k (A_field 0) fs vs ws
    → Skips semicolon ws us → g.Spells (kept limits k) g.A_top t (top.Struct (record { name = x; fields = fs })) pre (one_more_struct t) us
fields_read limits k x t fs {p} {text} pre mid ts {us = us} s n e c b r m =
    let o = r t in
    subst (λ l. g.Spells (kept limits k) g.A_top t (top.Struct (record { name = x; fields = l })) pre (one_more_struct t) us) (sym o.2)
    (of_name (λ y. g.Spells (kept limits k) g.A_top t (top.Struct (record { name = y; fields = o.0 ∷ o.1 })) pre (one_more_struct t) us) x p text e
    (g.a_struct s n (one_counted limits k counts.Structs (suc t.structs) ts c) b o.3.1 o.3.2 m))

pub back_behind_tag : (limits : Limits) (k : ℕ) (x : Name) (t : Totals) (a : Totalled Top) (ts us : List Token) → Roomy limits (Behind_tag x t)
    → Loose limits k (Behind_tag x t) (plan (Behind_tag x t)) a ts us → Spelled limits k (Behind_tag x t) a ts us
back_behind_tag limits k x t a ts us h (l_take e c d (l_call fs r (l_want f i (l_give w)))) =
    is limits k (Behind_tag x t) ts us w (λ pre mid p text s n o. fields_read limits k x t fs pre mid ts s n o c (skip e) (r h) (skip f))
back_behind_tag limits k x t a ts us h (l_pass (l_call m r (l_give w))) =
    is limits k (Behind_tag x t) ts us w
    (λ pre mid p text s n o. g.qualified (r h pre (of_name (λ y. phrase.Spells (kept limits k) phrase.A_base (base.Struct y) pre ts) x p text o (phrase.struct_base s n))))

pub back_top : (limits : Limits) (k : ℕ) (t : Totals) (a : Totalled (Option Top)) (ts us : List Token) → Roomy limits (A_top t) → Loose limits k (A_top t) (plan (A_top t)) a ts us
    → Spelled limits k (A_top t) a ts us
back_top limits k t a ts us h (l_take e c d (l_call m r (l_give w))) = is limits k (A_top t) ts us w (g.qualified (g.static_top (skip e) (r h)))
back_top limits k t a ts us h (l_pass (l_take e c d (l_call m r (l_give w)))) = is limits k (A_top t) ts us w (g.qualified (g.volatile_top (skip e) (r h)))
back_top limits k t a ts us h (l_pass (l_pass (l_take e c d (l_call m r (l_give w))))) = is limits k (A_top t) ts us w (g.qualified (mutexes_read limits k t m ts _ us (skip e) (r h)))
back_top limits k t a ts us h (l_pass (l_pass (l_pass (l_take e c d (l_call m r (l_give w)))))) = is limits k (A_top t) ts us w (g.qualified (threads_read limits k t m ts _ us (skip e) (r h)))
back_top limits k t a ts us h (l_pass (l_pass (l_pass (l_pass (l_take e c d (l_call m r (l_give w))))))) = is limits k (A_top t) ts us w (g.qualified (r h ts (skip e)))
back_top limits k t a ts us h (l_pass (l_pass (l_pass (l_pass (l_pass (l_take e c d (l_call m r (l_give w)))))))) = is limits k (A_top t) ts us w (g.qualified (r h ts (phrase.int_base (skip e))))
back_top limits k t a ts us h (l_pass (l_pass (l_pass (l_pass (l_pass (l_pass (l_take e c d (l_want {p = p} {x = x} f i (l_call m r (l_give w)))))))))) =
    is limits k (A_top t) ts us w (r h ts _ p x (skip e) (named limits k [] f i) refl)
back_top limits k t a ts us h (l_pass (l_pass (l_pass (l_pass (l_pass (l_pass (l_pass (l_give w)))))))) = is limits k (A_top t) ts us w (refl, refl)

-- behind a declaration, or where none is
back_behind_top : (limits : Limits) (k : ℕ) (t : Totals) (o : Option Top) (u : Totals) (a : Totalled (List Top)) (ts vs us : List Token) → within (limits Depth) 1 ≡ true
    → MaybeTop (kept limits k) t o ts u vs → Loose limits k (Tops t) (behind_top t o u) a vs us → Spelled limits k (Tops t) a ts us
back_behind_top limits k t None u a ts vs us h s (l_give w) =
    is limits k (Tops t) ts us w
    (subst (λ n. g.Spells (kept limits k) g.Tops t [] ts n us) s.0 (subst (λ l. g.Spells (kept limits k) g.Tops t [] ts t l) s.1 g.no_top))
back_behind_top limits k t (Some x) u a ts vs us h s (l_call m r (l_give w)) = is limits k (Tops t) ts us w (g.some_top s (r h))

pub back_tops : (limits : Limits) (k : ℕ) (t : Totals) (a : Totalled (List Top)) (ts us : List Token) → Roomy limits (Tops t) → Loose limits k (Tops t) (plan (Tops t)) a ts us → Spelled limits k (Tops t) a ts us
back_tops limits k t a ts us h (l_call o s m) = back_behind_top limits k t o.what o.totals a ts _ us h (s h) m

pub back_program : (limits : Limits) (k : ℕ) (a : Program) (ts us : List Token) → Roomy limits A_program → Loose limits k A_program (plan A_program) a ts us → Spelled limits k A_program a ts us
back_program limits k a ts us h (l_call m s (l_want e c (l_give w))) = is limits k A_program ts us w (m.totals, g.a_program (s h) (skip e))
