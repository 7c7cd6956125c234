-- Steps of the readers of declarations.
use Rattle.std.proofs.Common.{◌≡◌, ℕ, ℤ, suc, ◌+◌, ◌≤◌, ◌<◌, Bool, true, false, List, [], ◌∷◌, ◌++◌, length, Option, Some, None, Result, Ok, Err, refl, sym, ap, subst, append_assoc}
use Rattle.std.specs.Prelude.{codes}
use Rattle.std.specs.Borrow.{Bor}
use Rattle.std.proofs.lemmas.Bool.{lt-leb, le-leb}
use Rattle.ca_tree.specs.declared.text.Pos.{Pos}
use Rattle.ca_tree.specs.declared.token.Mark.{Mark}
use Rattle.ca_tree.specs.declared.token.Mark.TheVariants as mark
use Rattle.ca_tree.specs.declared.token.Token.{Token}
use Rattle.ca_tree.specs.declared.tree.Name.{Name}
use Rattle.ca_tree.specs.declared.tree.Base.{Base}
use Rattle.ca_tree.specs.declared.tree.Base.TheVariants as base
use Rattle.ca_tree.specs.declared.tree.Constant.{Constant}
use Rattle.ca_tree.specs.declared.tree.GlobalForm.{GlobalForm}
use Rattle.ca_tree.specs.declared.tree.GlobalForm.TheVariants as form
use Rattle.ca_tree.specs.declared.tree.GlobalDeclarator.{GlobalDeclarator}
use Rattle.ca_tree.specs.declared.tree.MutexDeclarator.{MutexDeclarator}
use Rattle.ca_tree.specs.declared.tree.ThreadDeclarator.{ThreadDeclarator}
use Rattle.ca_tree.specs.declared.tree.Declarator.{Declarator}
use Rattle.ca_tree.specs.declared.tree.Fields.{Fields as FieldsOf}
use Rattle.ca_tree.specs.declared.tree.ParameterType.{ParameterType}
use Rattle.ca_tree.specs.declared.tree.Parameter.{Parameter}
use Rattle.ca_tree.specs.declared.tree.Top.{Top}
use Rattle.ca_grammar.specs.declared.faults.Count.{Count}
use Rattle.ca_tree.specs.declared.counted.Counted.TheVariants.{Fields as Field_count}
use Rattle.ca_tree.specs.Counts.{Totals, one_more_mutex, one_more_global, nothing_yet}
use Rattle.ca_grammar.specs.Words.{The_word, A_name, Takes, Lacks, assign, close_brace}
use Rattle.ca_grammar.specs.Expressions.{name}
use Rattle.ca_grammar.specs.Limits.{Rule, Star, the_limits}
use Rattle.ca_grammar.specs.Goals.{Goal, Tree, Starred, Stars, Starred_name, Base_at, Mutexes, Threads, A_constant, Behind_global, More_globals, Next_global, Field_declarators, A_field, Behind_type, More_parameters, Next_parameter, Behind_base, Behind_tag, Qualified, A_top, Tops}
use Rattle.ca_grammar.specs.Plan.{Plan, give, take, want, call, last, these, and_name, bytes_of_name, counted}
use Rattle.ca_grammar.specs.PhrasePlans.{behind_star, must, maybe}
use Rattle.ca_grammar.specs.DeclarationPlans.{totalled, global, a_global, a_parameter, some_top}
use Rattle.ca_grammar.specs.Reads.{plan, Outcome, Yes, No, Reads, exceeded, gives, takes, overs, passes, wants, calls, fails}
use Rattle.ca_expressions.specs.declared.stop.Stop.{Stop}
use Rattle.ca_expressions.specs.Reading.{StopsIn, Stops, Reading, Onward}
use Rattle.ca_read.specs.Declaring.{comma_or, Separated, OneOf, sized, IsValued, AType}
use Rattle.ca_expressions.proofs.Counts.{kept_next, kept_with_name}
use Rattle.ca_expressions.proofs.Following.{pass}

-- Where r is read, q is on its way, and where q is read, g is.
pub onward_after : {q g r : Goal} {k : Plan g} (f : Tree q → Tree g) (h : Tree r → Tree q) (e : Tree r → Tree g) (us vs ts : List Token) → ((a : Tree r) → f (h a) ≡ e a) → Onward q g f k us ts
    → Onward r q h (plan q) vs us → Onward r g e k vs ts
onward_after {q} {g} {r} {k} f h e us vs ts same m n = record {
  yes = λ a ws d. subst (λ x. Reads the_limits g k ts (Yes x ws)) (same a) (m.yes (h a) ws (n.yes a ws d));
  no = λ x ws d. m.no x ws (n.no x ws d);
}

-- One of a list is read up to the comma or the mark behind it.
pub one_of : (q g : Goal) (turn : Tree q → Tree g) (e : Tree g) (m : Mark) (cs : List Count) (more : Bool) (us vs ts : List Token)
    → ((o : Outcome g) → Reads the_limits g (comma_or m cs (last q g turn) (give e)) us o → Reads the_limits g (plan g) ts o) → Separated m cs us more vs → OneOf q g turn e more vs ts
one_of q g turn e m cs true us vs ts f s = record {
  yes = λ a ws d. f (Yes (turn a) ws) (s g (last q g turn) (give e) (Yes (turn a) ws) (calls d gives));
  no = λ r ws d. f (No r ws) (s g (last q g turn) (give e) (No r ws) (fails d));
}
one_of q g turn e m cs false us vs ts f s = f (Yes e vs) (s g (last q g turn) (give e) (Yes e vs) gives)

pub more_mutexes : (t u v : Totals) (xs ys : List MutexDeclarator) (x : MutexDeclarator) (us vs ts : List Token) → v ≡ one_more_mutex u → ys ≡ xs ++ (x ∷ [])
    → Onward (Mutexes u) (Mutexes t) (λ m. totalled (xs ++ m.what) m.totals) (plan (Mutexes t)) us ts → Onward (Mutexes (one_more_mutex u)) (Mutexes u) (λ m. totalled (x ∷ m.what) m.totals) (plan (Mutexes u)) vs us
    → Onward (Mutexes v) (Mutexes t) (λ m. totalled (ys ++ m.what) m.totals) (plan (Mutexes t)) vs ts
more_mutexes t u v xs ys x us vs ts i j m n =
    subst (λ v. Onward (Mutexes v) (Mutexes t) (λ m. totalled (ys ++ m.what) m.totals) (plan (Mutexes t)) vs ts) (sym i)
    (subst (λ ys. Onward (Mutexes (one_more_mutex u)) (Mutexes t) (λ m. totalled (ys ++ m.what) m.totals) (plan (Mutexes t)) vs ts) (sym j)
    (onward_after _ _ _ us vs ts (λ a. ap (λ w. totalled w a.totals) (sym (append_assoc xs (x ∷ []) a.what))) m n))

pub more_threads : (t u v : Totals) (xs ys : List ThreadDeclarator) (x : ThreadDeclarator) (us vs ts : List Token) → v ≡ one_more_global u → ys ≡ xs ++ (x ∷ [])
    → Onward (Threads u) (Threads t) (λ m. totalled (xs ++ m.what) m.totals) (plan (Threads t)) us ts → Onward (Threads (one_more_global u)) (Threads u) (λ m. totalled (x ∷ m.what) m.totals) (plan (Threads u)) vs us
    → Onward (Threads v) (Threads t) (λ m. totalled (ys ++ m.what) m.totals) (plan (Threads t)) vs ts
more_threads t u v xs ys x us vs ts i j m n =
    subst (λ v. Onward (Threads v) (Threads t) (λ m. totalled (ys ++ m.what) m.totals) (plan (Threads t)) vs ts) (sym i)
    (subst (λ ys. Onward (Threads (one_more_global u)) (Threads t) (λ m. totalled (ys ++ m.what) m.totals) (plan (Threads t)) vs ts) (sym j)
    (onward_after _ _ _ us vs ts (λ a. ap (λ w. totalled w a.totals) (sym (append_assoc xs (x ∷ []) a.what))) m n))

-- A list is read as the rest of another.
pub lifted : (q w g : Goal) (turn : Tree q → Tree w) (e : Tree w) (whole : Tree w → Tree g) (more : Bool) (us vs ts : List Token) → OneOf q w turn e more vs us
    → ((o : Outcome g) → Reads the_limits g (last w g whole) us o → Reads the_limits g (plan g) ts o) → OneOf q g (λ a. whole (turn a)) (whole e) more vs ts
lifted q w g turn e whole true us vs ts h f = record {
  yes = λ a ws d. f (Yes (whole (turn a)) ws) (calls (h.yes a ws d) gives);
  no = λ r ws d. f (No r ws) (fails (h.no r ws d));
}
lifted q w g turn e whole false us vs ts h f = f (Yes (whole e) vs) (calls h gives)

-- ---- the form of a global

abbrev pub behind_length : (b : Base) (k : ℕ) (n : Name) (t : Totals) → List Count → Option ℤ → Plan (Behind_global b k n t)
behind_length b k n t cs (Some i) = last (More_globals b (one_more_global t)) (Behind_global b k n t) (λ m. totalled (global k n (form.Array i) ∷ m.what) m.totals)
behind_length b k n t cs None =
    take assign None (these cs) (λ q y. call A_constant (λ c. last (More_globals b (one_more_global t)) (Behind_global b k n t) (λ m. totalled (global k n (form.Constant c) ∷ m.what) m.totals)))
    (comma_or mark.Semicolon cs (last (Next_global b (one_more_global t)) (Behind_global b k n t) (λ m. totalled (global k n form.Plain ∷ m.what) m.totals)) (give (totalled (global k n form.Plain ∷ []) (one_more_global t))))

-- a length is read, or none
abbrev pub SizeRead : List Count → List Count → Option ℤ → (us ts : List Token) → Type 0
SizeRead cs ds l us ts = (g : Goal) (k : List Count → Option ℤ → Plan g) (o : Outcome g) → Reads the_limits g (k ds l) us o → Reads the_limits g (sized cs k) ts o

abbrev pub CommaFails : Mark → List Count → List Token → Stop → Type 0
CommaFails m cs ts e = (g : Goal) (k l : Plan g) → StopsIn g (comma_or m cs k l) ts e

module _ (b : Base) (k : ℕ) (n : Name) (t : Totals) where
  abbrev pub FormRead : GlobalForm → Bool → (us ts : List Token) → Type 0
  FormRead f more us ts =
      OneOf (Next_global b (one_more_global t)) (Behind_global b k n t) (λ m. totalled (global k n f ∷ m.what) m.totals) (totalled (global k n f ∷ []) (one_more_global t)) more us ts

  abbrev pub FormStops : List Token → Stop → Type 0
  FormStops ts e = StopsIn (Behind_global b k n t) (plan (Behind_global b k n t)) ts e

  more_globals : (more : Bool) (us vs : List Token) → Separated mark.Semicolon [] us more vs
      → OneOf (Next_global b (one_more_global t)) (More_globals b (one_more_global t)) (λ m. m) (totalled [] (one_more_global t)) more vs us
  more_globals more us vs s = one_of (Next_global b (one_more_global t)) (More_globals b (one_more_global t)) (λ m. m) (totalled [] (one_more_global t)) mark.Semicolon [] more us vs us (λ o d. d) s

  no_more_globals : (us : List Token) (e : Stop) → CommaFails mark.Semicolon [] us e → StopsIn (More_globals b (one_more_global t)) (plan (More_globals b (one_more_global t))) us e
  no_more_globals us e h = h (More_globals b (one_more_global t)) (last (Next_global b (one_more_global t)) (More_globals b (one_more_global t)) (λ m. m)) (give (totalled [] (one_more_global t)))

  pub length_fails : (ts : List Token) (e : Stop) → ((g : Goal) (k : List Count → Option ℤ → Plan g) → StopsIn g (sized (a_global t) k) ts e) → FormStops ts e
  length_fails ts e h = h (Behind_global b k n t) (behind_length b k n t)

  pub array_form : (cs : List Count) (i : ℤ) (more : Bool) (us vs ts : List Token) → SizeRead (a_global t) cs (Some i) us ts → Separated mark.Semicolon [] us more vs → FormRead (form.Array i) more vs ts
  array_form cs i more us vs ts z s = lifted _ _ _ _ _ _ more us vs ts (more_globals more us vs s) (λ o d. z (Behind_global b k n t) (behind_length b k n t) o d)

  pub array_fails : (cs : List Count) (i : ℤ) (us ts : List Token) (e : Stop) → SizeRead (a_global t) cs (Some i) us ts → CommaFails mark.Semicolon [] us e → FormStops ts e
  array_fails cs i us ts e z h = pass e (λ r vs d. z (Behind_global b k n t) (behind_length b k n t) (No r vs) (fails d)) (no_more_globals us e h)

  pub plain_form : (cs : List Count) (more : Bool) (us vs ts : List Token) → SizeRead (a_global t) cs None us ts → Lacks assign us → Separated mark.Semicolon cs us more vs → FormRead form.Plain more vs ts
  plain_form cs more us vs ts z l s = one_of (Next_global b (one_more_global t)) (Behind_global b k n t) _ _ mark.Semicolon cs more us vs ts (λ o d. z (Behind_global b k n t) (behind_length b k n t) o (passes l d)) s

  pub plain_fails : (cs : List Count) (us ts : List Token) (e : Stop) → SizeRead (a_global t) cs None us ts → Lacks assign us → CommaFails mark.Semicolon cs us e → FormStops ts e
  plain_fails cs us ts e z l h = pass e (λ r vs d. z (Behind_global b k n t) (behind_length b k n t) (No r vs) (passes l d)) (h (Behind_global b k n t) _ _)

  module _ (cs : List Count) (p : Pos) (us vs ts : List Token) (z : SizeRead (a_global t) cs None us ts) (a : Takes assign us p tt vs) where
    pub assign_over : (r : Rule) → exceeded the_limits cs None ≡ Some r → Reads the_limits (Behind_global b k n t) (plan (Behind_global b k n t)) ts (No (Some r) us)
    assign_over r e = z (Behind_global b k n t) (behind_length b k n t) (No (Some r) us) (overs a e)

    pub constant_fails : (e : Stop) → exceeded the_limits cs None ≡ None → Stops A_constant vs e → FormStops ts e
    constant_fails e f h = pass e (λ r ws d. z (Behind_global b k n t) (behind_length b k n t) (No r ws) (takes a f (fails d))) h

    pub constant_form : (c : Constant) (more : Bool) (ws xs : List Token) → exceeded the_limits cs None ≡ None → Reads the_limits A_constant (plan A_constant) vs (Yes c ws) → Separated mark.Semicolon [] ws more xs
        → FormRead (form.Constant c) more xs ts
    constant_form c more ws xs f d s = lifted _ _ _ _ _ _ more ws xs ts (more_globals more ws xs s) (λ o x. z (Behind_global b k n t) (behind_length b k n t) o (takes a f (calls d x)))

    pub behind_constant_fails : (c : Constant) (ws : List Token) (e : Stop) → exceeded the_limits cs None ≡ None → Reads the_limits A_constant (plan A_constant) vs (Yes c ws) → CommaFails mark.Semicolon [] ws e → FormStops ts e
    behind_constant_fails c ws e f d h = pass e (λ r xs x. z (Behind_global b k n t) (behind_length b k n t) (No r xs) (takes a f (calls d (fails x)))) (no_more_globals ws e h)

-- ---- lists of globals, fields and parameters

pub more_globals_of : (b : Base) (i j k : ℕ) (l m n : Name) (t u v : Totals) (xs ys : List GlobalDeclarator) (x : GlobalDeclarator) (us vs ws ts : List Token) → v ≡ one_more_global u → ys ≡ xs ++ (x ∷ [])
    → Onward (Behind_global b j m u) (Behind_global b i l t) (λ a. totalled (xs ++ a.what) a.totals) (plan (Behind_global b i l t)) us ts
    → Onward (Next_global b (one_more_global u)) (Behind_global b j m u) (λ a. totalled (x ∷ a.what) a.totals) (plan (Behind_global b j m u)) vs us
    → ((g : Goal) (on : ℕ → Pos → List ℕ → Plan g) (o : Outcome g) → Reads the_limits g (on k n.pos n.text) ws o → Reads the_limits g (call (Stars 0) (λ k. want A_name (and_name []) (on k))) vs o)
    → Onward (Behind_global b k n v) (Behind_global b i l t) (λ a. totalled (ys ++ a.what) a.totals) (plan (Behind_global b i l t)) ws ts
more_globals_of b i j k l m n t u v xs ys x us vs ws ts e f g h s =
    subst (λ v. Onward (Behind_global b k n v) (Behind_global b i l t) (λ a. totalled (ys ++ a.what) a.totals) (plan (Behind_global b i l t)) ws ts) (sym e)
    (subst (λ ys. Onward (Behind_global b k n (one_more_global u)) (Behind_global b i l t) (λ a. totalled (ys ++ a.what) a.totals) (plan (Behind_global b i l t)) ws ts) (sym f)
    (onward_after _ _ _ us ws ts (λ a. ap (λ w. totalled w a.totals) (sym (append_assoc xs (x ∷ []) a.what))) g (record {
      yes = λ a zs d. h.yes a zs (s (Next_global b (one_more_global u)) (λ k p y. last (Behind_global b k (name p y) (one_more_global u)) (Next_global b (one_more_global u)) (λ m. m)) (Yes a zs) (calls d gives));
      no = λ r zs d. h.no r zs (s (Next_global b (one_more_global u)) (λ k p y. last (Behind_global b k (name p y) (one_more_global u)) (Next_global b (one_more_global u)) (λ m. m)) (No r zs) (fails d));
    })))

fits_with_name : (j : ℕ) (t : List ℕ) → exceeded the_limits (counted Field_count (suc j) ∷ bytes_of_name t ∷ []) None ≡ None → suc j ≤ 64
fits_with_name j t e = kept_next Field_count j (kept_with_name (counted Field_count (suc j) ∷ []) t e)

behind_star_fits : (b : Base) (j : ℕ) (p : Pos) (x : Starred) (ts us : List Token)
    → Reads the_limits (Starred_name [] (counted Field_count (suc j) ∷ []) b) (behind_star [] (counted Field_count (suc j) ∷ []) b p) ts (Yes x us) → suc j ≤ 64
behind_star_fits b j p x ts us (calls s (wants {x = t} w e d)) = fits_with_name j t e

-- a field that is read is within its limit
pub field_fits : (b : Base) (j : ℕ) (x : Starred) (ts us : List Token)
    → Reads the_limits (Starred_name [] (counted Field_count (suc j) ∷ []) b) (plan (Starred_name [] (counted Field_count (suc j) ∷ []) b)) ts (Yes x us) → suc j ≤ 64
field_fits base.Int j x ts us (takes {p = p} w e d) = behind_star_fits base.Int j p x _ us d
field_fits base.Int j x ts us (passes l (wants {x = t} w e d)) = fits_with_name j t e
field_fits (base.Struct n) j x ts us (wants {p = p} w e d) = behind_star_fits (base.Struct n) j p x _ us d

pub a_declarator : (b : Base) (j : ℕ) (x : Starred) (more : Bool) (us vs ts : List Token) → Reads the_limits (Starred_name [] (counted Field_count (suc j) ∷ []) b) (plan (Starred_name [] (counted Field_count (suc j) ∷ []) b)) ts (Yes x us)
    → Separated mark.Semicolon [] us more vs
    → OneOf (Field_declarators b (suc j)) (Field_declarators b j) (λ ds. record { stars = x.stars; name = x.name } ∷ ds) (record { stars = x.stars; name = x.name } ∷ []) more vs ts
a_declarator b j x more us vs ts d s = one_of (Field_declarators b (suc j)) (Field_declarators b j) _ _ mark.Semicolon [] more us vs ts (λ o r. calls d r) s

pub more_declarators : (b : Base) (i j k : ℕ) (xs ys : List Declarator) (x : Declarator) (us vs ts : List Token) → k ≡ suc j → ys ≡ xs ++ (x ∷ [])
    → Onward (Field_declarators b j) (Field_declarators b i) (λ ds. xs ++ ds) (plan (Field_declarators b i)) us ts → Onward (Field_declarators b (suc j)) (Field_declarators b j) (λ ds. x ∷ ds) (plan (Field_declarators b j)) vs us
    → Onward (Field_declarators b k) (Field_declarators b i) (λ ds. ys ++ ds) (plan (Field_declarators b i)) vs ts
more_declarators b i j k xs ys x us vs ts e f m n =
    subst (λ k. Onward (Field_declarators b k) (Field_declarators b i) (λ ds. ys ++ ds) (plan (Field_declarators b i)) vs ts) (sym e)
    (subst (λ ys. Onward (Field_declarators b (suc j)) (Field_declarators b i) (λ ds. ys ++ ds) (plan (Field_declarators b i)) vs ts) (sym f)
    (onward_after _ _ _ us vs ts (λ ds. sym (append_assoc xs (x ∷ []) ds)) m n))

-- the fields of one base are read, and more follow
pub more_fields : (j k : ℕ) (p : Pos) (b : Base) (ds : List Declarator) (xs ys : List FieldsOf) (us vs ws ts : List Token) → k ≡ j + length ds → ys ≡ xs ++ (record { base = b; declarators = ds } ∷ [])
    → Reads the_limits (Base_at []) (plan (Base_at [])) us (Yes (record { pos = p; what = b }) vs) → Reads the_limits (Field_declarators b j) (plan (Field_declarators b j)) vs (Yes ds ws) → Lacks close_brace ws
    → Onward (A_field j) (A_field 0) (λ fs. xs ++ fs) (plan (A_field 0)) us ts → Onward (A_field k) (A_field 0) (λ fs. ys ++ fs) (plan (A_field 0)) ws ts
more_fields j k p b ds xs ys us vs ws ts e f d r l m =
    subst (λ k. Onward (A_field k) (A_field 0) (λ fs. ys ++ fs) (plan (A_field 0)) ws ts) (sym e)
    (subst (λ ys. Onward (A_field (j + length ds)) (A_field 0) (λ fs. ys ++ fs) (plan (A_field 0)) ws ts) (sym f)
    (onward_after _ _ _ us ws ts (λ fs. sym (append_assoc xs (record { base = b; declarators = ds } ∷ []) fs)) m (record {
      yes = λ a zs x. calls d (calls r (calls (passes l (calls x gives)) gives));
      no = λ y zs x. calls d (calls r (fails (passes l (fails x))));
    })))

pub more_parameters_of : (of by to : ParameterType) (j k : ℕ) (xs ys : List Parameter) (x : Parameter) (us vs ws ts : List Token) → k ≡ suc j → ys ≡ xs ++ (x ∷ [])
    → Onward (Behind_type by j) (Behind_type of 0) (λ ds. xs ++ ds) (plan (Behind_type of 0)) us ts → Onward (Next_parameter (suc j)) (Behind_type by j) (λ ds. x ∷ ds) (plan (Behind_type by j)) vs us
    → Onward (Behind_type to (suc j)) (Next_parameter (suc j)) (λ ds. ds) (plan (Next_parameter (suc j))) ws vs → Onward (Behind_type to k) (Behind_type of 0) (λ ds. ys ++ ds) (plan (Behind_type of 0)) ws ts
more_parameters_of of by to j k xs ys x us vs ws ts e f m n o =
    subst (λ k. Onward (Behind_type to k) (Behind_type of 0) (λ ds. ys ++ ds) (plan (Behind_type of 0)) ws ts) (sym e)
    (subst (λ ys. Onward (Behind_type to (suc j)) (Behind_type of 0) (λ ds. ys ++ ds) (plan (Behind_type of 0)) ws ts) (sym f)
    (onward_after _ _ _ us ws ts (λ ds. sym (append_assoc xs (x ∷ []) ds)) m (onward_after _ _ _ vs ws us (λ ds. refl) n o)))

-- ---- parameters

-- the type of a parameter behind a comma
pub valued_type : (j : ℕ) (ts : List Token) (r : Result (ParameterType × Bor (List Token)) Stop) → Lacks (The_word (codes "void")) ts → IsValued ts r → AType j ts r
valued_type j ts (Ok x) l h = record {
  yes = λ a vs d. passes l (h (Next_parameter j) (λ of. last (Behind_type of j) (Next_parameter j) (λ ds. ds)) (Yes a vs) (calls d gives));
  no = λ r vs d. passes l (h (Next_parameter j) (λ of. last (Behind_type of j) (Next_parameter j) (λ ds. ds)) (No r vs) (fails d));
}
valued_type j ts (Err e) l h = pass e (λ r vs d. passes l d) (h (Next_parameter j) (λ of. last (Behind_type of j) (Next_parameter j) (λ ds. ds)))

-- a parameter with a name
pub named_parameter : (of : ParameterType) (j : ℕ) (n : Name) (more : Bool) (us vs ts : List Token) → Takes A_name ts n.pos n.text us → exceeded the_limits (and_name (a_parameter j) n.text) None ≡ None
    → Separated mark.CloseParen [] us more vs → OneOf (Next_parameter (suc j)) (Behind_type of j) (λ ds. record { of = of; name = Some n } ∷ ds) (record { of = of; name = Some n } ∷ []) more vs ts
named_parameter of j n more us vs ts t e s =
    lifted (Next_parameter (suc j)) (More_parameters (suc j)) (Behind_type of j) (λ ds. ds) [] (λ ds. record { of = of; name = Some n } ∷ ds) more us vs ts
    (one_of (Next_parameter (suc j)) (More_parameters (suc j)) (λ ds. ds) [] mark.CloseParen [] more us vs us (λ o d. d) s) (λ o d. takes t e d)

pub behind_name_fails : (of : ParameterType) (j : ℕ) (p : Pos) (t : List ℕ) (us ts : List Token) (e : Stop) → Takes A_name ts p t us → exceeded the_limits (and_name (a_parameter j) t) None ≡ None
    → CommaFails mark.CloseParen [] us e → Stops (Behind_type of j) ts e
behind_name_fails of j p t us ts e x f h = pass e (λ r vs d. takes x f (fails d)) (h (More_parameters (suc j)) (last (Next_parameter (suc j)) (More_parameters (suc j)) (λ ds. ds)) (give []))

-- ---- what goes on at other tokens

pub read_from : {X : Type 0} (q g : Goal) (view : X → Tree q × List Token) (other : X → Tree g × List Token) (us ts : List Token) (r : Result X Stop)
    → ((x : X) → Reads the_limits q (plan q) us (Yes (view x).0 (view x).1) → Reads the_limits g (plan g) ts (Yes (other x).0 (other x).1))
    → ((r : Option Rule) (vs : List Token) → Reads the_limits q (plan q) us (No r vs) → Reads the_limits g (plan g) ts (No r vs)) → Reading q view us r → Reading g other ts r
read_from q g view other us ts (Ok x) y n d = y x d
read_from q g view other us ts (Err e) y n d = pass e n d

pub star_misses : (n : ℕ) → 0 < n → exceeded the_limits [] (Some (Star, n)) ≡ Some Star
star_misses n h = rw (lt-leb n 0 h) refl

pub star_there : (n : ℕ) → n ≤ 0 → exceeded the_limits [] (Some (Star, n)) ≡ None
star_there n h = rw (le-leb n 0 h) refl

pub qualified_on : (t : Totals) (us vs ts : List Token) → ((g : Goal) (k l : Plan g) (o : Outcome g) → Reads the_limits g k vs o → Reads the_limits g (maybe (The_word (codes "static")) k (maybe (The_word (codes "volatile")) k l)) us o)
    → Onward (Qualified t) (Qualified t) (λ a. a) (plan (Qualified t)) us ts → Onward (Qualified t) (Qualified t) (λ a. a) (plan (Qualified t)) vs ts
qualified_on t us vs ts q m = record {
  yes = λ a ws d. m.yes a ws (q (Qualified t) _ _ _ (calls d gives));
  no = λ r ws d. m.no r ws (q (Qualified t) _ _ _ (fails d));
}

pub more_tops : (t u : Totals) (xs ys : List Top) (x : Top) (us vs ts : List Token) → ys ≡ xs ++ (x ∷ []) → Onward (Tops t) (Tops nothing_yet) (λ m. totalled (xs ++ m.what) m.totals) (plan (Tops nothing_yet)) us ts
    → Reads the_limits (A_top t) (plan (A_top t)) us (Yes (totalled (Some x) u) vs) → Onward (Tops u) (Tops nothing_yet) (λ m. totalled (ys ++ m.what) m.totals) (plan (Tops nothing_yet)) vs ts
more_tops t u xs ys x us vs ts e m d =
    subst (λ ys. Onward (Tops u) (Tops nothing_yet) (λ m. totalled (ys ++ m.what) m.totals) (plan (Tops nothing_yet)) vs ts) (sym e)
    (onward_after {q = Tops t} {g = Tops nothing_yet} {r = Tops u} _ _ _ us vs ts (λ a. ap (λ w. totalled w a.totals) (sym (append_assoc xs (x ∷ []) a.what))) m (record {
      yes = λ a ws y. calls d (calls y gives);
      no = λ r ws y. calls d (fails y);
    }))

-- what else stands behind qualifiers, and at the beginning of a declaration
abbrev pub a_struct_or_none : (t : Totals) → Plan (Qualified t)
a_struct_or_none t = must (The_word (codes "struct")) (want A_name (and_name []) (λ p x. last (Behind_base (base.Struct (name p x)) t) (Qualified t) (λ m. m)))

abbrev pub a_struct_or_end : (t : Totals) → Plan (A_top t)
a_struct_or_end t = maybe (The_word (codes "struct")) (want A_name (and_name []) (λ p x. call (Behind_tag (name p x) t) (some_top t))) (give (totalled None t))
