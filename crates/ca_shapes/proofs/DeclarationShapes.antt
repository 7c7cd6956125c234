-- What tokens spell as declarations and programs is such by its tree alone.
use Rattle.std.proofs.Common.{◌≡◌, ℤ, suc, pos, neg_ℤ, ◌+◌, ◌≤◌, Bool, true, false, List, [], ◌∷◌, length, All, IfSome, if◌then◌else◌, arith, refl, ap, ◌∙◌, subst}
use Rattle.std.proofs.lemmas.Bool.{or_left, or_right, leb-true}
use Rattle.std.proofs.lemmas.List.Elements.{All-nil, All-cons}
use Rattle.std.proofs.Math.IntN.{neg_ℤ-neg_ℤ}
use Rattle.ca_tree.specs.declared.counted.Counted.TheVariants as counted
use Rattle.ca_tree.specs.declared.text.Pos.{Pos}
use Rattle.ca_tree.specs.declared.token.Token.{Token}
use Rattle.ca_tree.specs.declared.tree.MutexDeclarator.{MutexDeclarator}
use Rattle.ca_tree.specs.declared.tree.ThreadDeclarator.{ThreadDeclarator}
use Rattle.ca_tree.specs.declared.tree.GlobalDeclarator.{GlobalDeclarator}
use Rattle.ca_tree.specs.declared.tree.Base.{Base}
use Rattle.ca_tree.specs.declared.tree.Program.{Program}
use Rattle.ca_tree.specs.Counts.{most, Totals, one_more_global, one_more_mutex}
use Rattle.ca_tree.specs.TreeWords.{Words}
use Rattle.ca_tree.specs.ExpressionTrees.{IsName}
use Rattle.ca_tree.specs.PhraseTrees.{has_star}
use Rattle.ca_tree.specs.ProgramTrees.{IsField, AreFields, OneOrMore, field_count, RoomForGlobal, RoomForMutex, IsLength, IsConstant, IsForm, AreMutexes, AreThreads, AreVariables, AreGlobals, IsValueType, IsResult, IsParameterType, IsParameter, IsBody, IsTop, IsFunction, AreTops, IsProgramOf}
use Rattle.ca_tree.specs.ProgramTrees as tree
use Rattle.ca_grammar.specs.Words.{A_number, Takes}
use Rattle.ca_grammar.specs.Declarations.{Part, Tree, Field_declarators, More_fields, A_constant, A_length, A_form, A_mutex, More_mutexes, A_thread, More_threads, A_global, More_globals, A_declaration_of_globals, A_result, A_parameter_type, A_parameter, More_parameters, Parameters_behind, A_body, A_function, A_qualified, A_top, Tops, A_program, stars_missing, Spells, IsProgram}
use Rattle.ca_grammar.specs.Declarations as g
use Rattle.ca_grammar.specs.Laws.{all_kept}
use Rattle.ca_shapes.proofs.TokenWords.{IsWordOf, AreWords, taken, behind, kept_most, is_name, behind_name}
use Rattle.ca_shapes.proofs.PhraseShapes as phrases
use Rattle.ca_shapes.proofs.StatementShapes.{statements}

-- a result of which no star is missing has one if it is a struct
star_there : (b : Bool) → (if b then 0 else 1) ≤ 0 → b ≡ true
star_there true h = refl
star_there false h = absurd (omega (arith, h))

-- the numbers of tokens
number_taken : (words : Words) {ts us : List Token} {p : Pos} {i : ℤ} → Takes A_number ts p i us → AreWords words ts → words.is_number i ≡ true
number_taken words t h = subst (IsWordOf words) t.fits.0 (taken words t h).0 t.fits.1

-- ---- each part, where the 1 of `++` and `--` may stand in a tree

module _ (words : Words) (one : words.is_number (pos 1) ≡ true) where
  abbrev Shaped : (P : Part) → Totals → Tree P → Totals → Type 0
  Shaped (Field_declarators b j) n ds m = (j + length ds ≤ most counted.Fields) × OneOrMore (IsField words b) ds
  Shaped (More_fields j) n fs m = j ≤ most counted.Fields → (j + field_count fs ≤ most counted.Fields) × All (AreFields words) fs
  Shaped A_constant n c m = IsConstant words c
  Shaped A_length n i m = IsLength words i
  Shaped A_form n f m = IsForm words f
  Shaped A_mutex n d m = RoomForMutex n × IsName words d.name × (m ≡ one_more_mutex n)
  Shaped More_mutexes n ds m = AreMutexes words n ds m
  Shaped A_thread n d m = RoomForGlobal n × (IsName words d.name × IfSome d.length (IsLength words)) × (m ≡ one_more_global n)
  Shaped More_threads n ds m = AreThreads words n ds m
  Shaped (A_global b) n d m = RoomForGlobal n × (IsName words d.name × IsForm words d.form) × (m ≡ one_more_global n)
  Shaped (More_globals b) n ds m = AreVariables words n ds m
  Shaped A_declaration_of_globals n a m = AreGlobals words n a m
  Shaped A_result n r m = stars_missing r ≤ 0 → IsResult words r
  Shaped A_parameter_type n t m = IsParameterType words t
  Shaped (A_parameter j) n d m = (suc j ≤ most counted.Parameters) × IsParameter words d
  Shaped (More_parameters j) n ds m = j ≤ most counted.Parameters → (j + length ds ≤ most counted.Parameters) × All (IsParameter words) ds
  Shaped Parameters_behind n ds m = (length ds ≤ most counted.Parameters) × All (IsParameter words) ds
  Shaped A_body n b m = IsBody words n b m
  Shaped A_function n f m = IsFunction words n f m
  Shaped A_qualified n a m = IsTop words n a m
  Shaped A_top n a m = IsTop words n a m
  Shaped Tops n all m = AreTops words n all m
  Shaped A_program n a m = AreTops words n a.tops m

  -- one more of a kind before the others
  a_mutex : {n k m : Totals} {d : MutexDeclarator} {more : List MutexDeclarator} → Shaped A_mutex n d k → AreMutexes words k more m → AreMutexes words n (d ∷ more) m
  a_mutex {m = m} {more = more} x r = tree.one x.0 x.1 (subst (λ k. AreMutexes words k more m) x.2 r)

  a_thread : {n k m : Totals} {d : ThreadDeclarator} {more : List ThreadDeclarator} → Shaped A_thread n d k → AreThreads words k more m → AreThreads words n (d ∷ more) m
  a_thread {m = m} {more = more} x r = tree.one x.0 x.1 (subst (λ k. AreThreads words k more m) x.2 r)

  a_variable : (b : Base) {n k m : Totals} {d : GlobalDeclarator} {more : List GlobalDeclarator} → Shaped (A_global b) n d k → AreVariables words k more m → AreVariables words n (d ∷ more) m
  a_variable b {m = m} {more = more} x r = tree.one x.0 x.1 (subst (λ k. AreVariables words k more m) x.2 r)

  shaped : {P : Part} {n m : Totals} {a : Tree P} {ts us : List Token} → Spells all_kept P n a ts m us → AreWords words ts → Shaped P n a m × AreWords words us
  shaped (g.last_field {b} {j} {k} {p = p} {t = t} {us = us} s star w x c) h =
      let i = (phrases.shaped words one s h).1 in
      let few = kept_most counted.Fields (suc j) us w in (
        (omega (arith, few), (omega arith, All-cons (IsField words b) _ [] (record { has_a_star = star; is_name = is_name words x i }) (All-nil (IsField words b)))),
        behind words c.2 (behind_name words x i),
      )
  shaped (g.another_field {b} {more = more} s star w x c r) h =
      let i = (phrases.shaped words one s h).1 in
      let y = shaped r (behind words c.2 (behind_name words x i)) in
      ((omega (arith, y.0.0), (omega arith, All-cons (IsField words b) _ more (record { has_a_star = star; is_name = is_name words x i }) y.0.1.1)), y.1)
  shaped g.no_more_fields h = (λ i. (omega (arith, i), All-nil (AreFields words)), h)
  shaped (g.more_fields {more = more} s d r) h =
      let x = phrases.shaped words one s h in
      let y = shaped d x.1 in
      let z = shaped r y.1 in
      let w = z.0 y.0.0 in
      (λ i. (omega (arith, w.0), All-cons (AreFields words) _ more (record { of = x.0; each = y.0.1 }) w.1), z.1)
  shaped (g.a_struct {n} {vs = vs} s x w o r c e) h =
      let i = behind words s.2 h in
      let y = shaped r (behind words o.2 (behind_name words x i)) in
      let z = y.0 (omega arith) in
      (tree.a_struct (kept_most counted.Structs (suc n.structs) vs w) (record { is_name = is_name words x i; each = (omega arith, z.1); few = omega (arith, z.0) }), behind words e.2 (behind words c.2 y.1))
  shaped (g.a_mutex {n} {ts = ts} w x) h = ((kept_most counted.Mutexes (suc n.mutexes) ts w, is_name words x h, refl), behind_name words x h)
  shaped (g.a_mutex_with_initializer {n} {ts = ts} w x c s) h =
      ((kept_most counted.Mutexes (suc n.mutexes) ts w, is_name words x h, refl), behind words s.2 (behind words c.2 (behind_name words x h)))
  shaped g.no_more_mutexes h = (tree.none, h)
  shaped (g.more_mutexes c d r) h =
      let x = shaped d (behind words c.2 h) in
      let y = shaped r x.1 in
      (a_mutex x.0 y.0, y.1)
  shaped (g.a_length o t c) h =
      let i = behind words o.2 h in
      (number_taken words t i, behind words c.2 (behind words t i))
  shaped (g.a_thread {n} {us = us} x w) h = ((kept_most counted.Globals (suc n.globals) us w, (is_name words x h, tt), refl), behind_name words x h)
  shaped (g.threads {n} {us = us} x w l) h =
      let y = shaped l (behind_name words x h) in
      ((kept_most counted.Globals (suc n.globals) us w, (is_name words x h, y.0), refl), y.1)
  shaped g.no_more_threads h = (tree.none, h)
  shaped (g.more_threads c d r) h =
      let x = shaped d (behind words c.2 h) in
      let y = shaped r x.1 in
      (a_thread x.0 y.0, y.1)
  shaped (g.a_number {i = i} t) h = (or_left (words.is_number i) (words.is_number (neg_ℤ i)) (number_taken words t h), behind words t h)
  shaped (g.a_negative {i = i} s t) h =
      let j = behind words s.2 h in
      (or_right (words.is_number (neg_ℤ i)) (words.is_number (neg_ℤ (neg_ℤ i))) (ap words.is_number (neg_ℤ-neg_ℤ i) ∙ number_taken words t j), behind words t j)
  shaped (g.a_null s) h = (tt, behind words s.2 h)
  shaped g.plain h = (tt, h)
  shaped (g.an_array l) h = shaped l h
  shaped (g.a_constant s c) h = shaped c (behind words s.2 h)
  shaped (g.a_global {n = n} {vs = vs} s x w f) h =
      let i = (phrases.shaped words one s h).1 in
      let y = shaped f (behind_name words x i) in
      ((kept_most counted.Globals (suc n.globals) vs w, (is_name words x i, y.0), refl), y.1)
  shaped g.no_more_globals h = (tree.none, h)
  shaped (g.more_globals {b} c d r) h =
      let x = shaped d (behind words c.2 h) in
      let y = shaped r x.1 in
      (a_variable b x.0 y.0, y.1)
  shaped (g.mutexes s d r) h =
      let x = shaped d (behind words s.2 h) in
      let y = shaped r x.1 in
      ((omega arith, a_mutex x.0 y.0), y.1)
  shaped (g.threads_of s d r) h =
      let x = shaped d (behind words s.2 h) in
      let y = shaped r x.1 in
      ((omega arith, a_thread x.0 y.0), y.1)
  shaped (g.variables {b} s d r) h =
      let w = phrases.shaped words one s h in
      let x = shaped d w.1 in
      let y = shaped r x.1 in
      ((w.0, omega arith, a_variable b x.0 y.0), y.1)
  shaped (g.nothing s) h = (λ i. tt, behind words s.2 h)
  shaped (g.a_pointer s t) h = (λ i. tt, behind words t.2 (behind words s.2 h))
  shaped (g.a_value {b = b} {k} s t) h =
      let x = phrases.shaped words one s h in
      let y = phrases.shaped words one t x.1 in
      (λ i. record { is_type = x.0; has_a_star = star_there (has_star b k) i }, y.1)
  shaped (g.a_pointer_parameter s t) h = (tt, behind words t.2 (behind words s.2 h))
  shaped (g.a_value_parameter s t star) h =
      let x = phrases.shaped words one s h in
      let y = phrases.shaped words one t x.1 in
      (record { is_type = x.0; has_a_star = star }, y.1)
  shaped (g.a_named_parameter {j} {us = us} t w x) h =
      let y = shaped t h in
      ((kept_most counted.Parameters (suc j) us w, record { is_type = y.0; named = is_name words x y.1 }), behind_name words x y.1)
  shaped (g.a_parameter {j} {us = us} t w) h =
      let y = shaped t h in
      ((kept_most counted.Parameters (suc j) us w, record { is_type = y.0; named = tt }), y.1)
  shaped (g.last_parameter s) h = (λ i. (omega (arith, i), All-nil (IsParameter words)), behind words s.2 h)
  shaped (g.next_parameter {d = d} {more} s t r) h =
      let x = shaped t (behind words s.2 h) in
      let y = shaped r x.1 in
      let z = y.0 x.0.0 in
      (λ i. (omega (arith, z.0), All-cons (IsParameter words) d more x.0.1 z.1), y.1)
  shaped (g.no_parameters s) h = ((omega arith, All-nil (IsParameter words)), behind words s.2 h)
  shaped (g.void_parameters s t) h = ((omega arith, All-nil (IsParameter words)), behind words t.2 (behind words s.2 h))
  shaped (g.some_parameters {d = d} {more} t r) h =
      let x = shaped t h in
      let y = shaped r x.1 in
      let z = y.0 x.0.0 in
      ((omega (arith, z.0), All-cons (IsParameter words) d more x.0.1 z.1), y.1)
  shaped (g.no_body s) h = (tree.no_body, behind words s.2 h)
  shaped (g.a_body {n} {m} {ts = ts} {vs = vs} w o s i c) h =
      let x = statements words one s (behind words o.2 h) in
      (tree.a_body (kept_most counted.Functions (suc n.functions) ts w) x.0 (kept_most counted.Items (suc m) vs i), behind words c x.1)
  shaped (g.a_function {r = r} s x w o p b) h =
      let y = shaped s h in
      let z = shaped p (behind words o.2 (behind_name words x y.1)) in
      let v = shaped b z.1 in
      (record { is_result = y.0 (leb-true (stars_missing r) 0 w); is_name = is_name words x y.1; few = z.0.0; each = z.0.1; is_body = v.0 }, v.1)
  shaped (g.static_top s r) h = shaped r (behind words s.2 h)
  shaped (g.volatile_top s r) h = shaped r (behind words s.2 h)
  shaped (g.globals_of s c) h =
      let x = shaped s h in
      (tree.some_globals x.0, behind words c.2 x.1)
  shaped (g.function_of s) h =
      let x = shaped s h in
      (tree.a_function x.0, x.1)
  shaped (g.qualified s) h = shaped s h
  shaped g.no_top h = (tree.no_top, h)
  shaped (g.some_top s r) h =
      let x = shaped s h in
      let y = shaped r x.1 in
      (tree.one_top x.0 y.0, y.1)
  shaped (g.a_program s e) h =
      let x = shaped s h in
      (x.0, behind words e.2 x.1)

  pub program : (a : Program) (ts : List Token) → IsProgram all_kept a ts → AreWords words ts → IsProgramOf words a
  program a ts s h = (s.0, (shaped s.1 h).0)
