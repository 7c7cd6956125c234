-- What tokens spell as a type, a call, a right side or a simple statement is one by its tree alone.
use Rattle.std.proofs.Common.{◌≡◌, ℕ, suc, pos, ◌+◌, ◌≤◌, true, List, length, All, Some, IfSome, arith, refl, sym, ap, ◌∙◌, subst}
use Rattle.std.proofs.lemmas.List.Elements.{All-nil, All-cons}
use Rattle.ca_tree.specs.declared.counted.Counted.TheVariants as counted
use Rattle.ca_tree.specs.declared.text.Pos.{Pos}
use Rattle.ca_tree.specs.declared.token.Token.{Token}
use Rattle.ca_tree.specs.declared.tree.Call.{Call}
use Rattle.ca_tree.specs.declared.tree.Simple.{Simple}
use Rattle.ca_tree.specs.Counts.{most}
use Rattle.ca_tree.specs.TreeWords.{Words}
use Rattle.ca_tree.specs.ExpressionTrees.{IsName, IsWhole}
use Rattle.ca_tree.specs.PhraseTrees.{IsBase, IsType, IsCall, IsMalloc, IsRight, IsLibrary, IsSimple, CanBegin}
use Rattle.ca_grammar.specs.Words.{Takes, Class, Of, place}
use Rattle.ca_grammar.specs.Expressions.{name}
use Rattle.ca_grammar.specs.Phrases.{Part, Tree, Addresses, Calls, Targets, Stars, A_base, A_type, Arguments_behind, More_arguments, A_call, Print_arguments, A_count, Behind_malloc, A_right, An_initializer, A_library_call, A_simple, An_optional_expression, Spells}
use Rattle.ca_grammar.specs.Phrases as g
use Rattle.ca_grammar.specs.Laws.{all_kept}
use Rattle.ca_shapes.proofs.TokenWords.{IsWordOf, AreWords, taken, behind, kept_most, name_from, is_name, behind_name}
use Rattle.ca_shapes.proofs.ExpressionShapes.{expression, unary, plain_number}

-- ---- places

-- tokens begin where their first is taken
pub taken_at : {c : Class} {ts us : List Token} {p q : Pos} {x : Of c} → Takes c ts q x us → place ts ≡ Some p → p ≡ q
taken_at {p = p} {q} t at =
    let same : Some p ≡ Some q = sym at ∙ ap place t.parts in
    cc

call_begins : {c : Call} {ts us : List Token} {p : Pos} → Spells all_kept A_call c ts us → place ts ≡ Some p → p ≡ c.name.pos
call_begins (g.a_call t n s r) at = taken_at t at

pub begins : {a : Simple} {ts us : List Token} {p : Pos} → Spells all_kept A_simple a ts us → place ts ≡ Some p → CanBegin a p
begins (g.a_set t s r) at = tt
begins (g.an_update t o b) at = tt
begins (g.a_step_behind t o) at = tt
begins (g.a_step_before o t) at = tt
begins (g.a_called c) at = call_begins c at
begins (g.a_library_called c) at = tt

-- ---- stars

stars_grow : {k n : ℕ} {ts us : List Token} → Spells all_kept (Stars k) n ts us → k ≤ n
stars_grow g.no_star = omega arith
stars_grow (g.a_star s r) = omega (arith, stars_grow r)

-- where there are none, no token is taken
pub no_stars : {n : ℕ} {ts us : List Token} → Spells all_kept (Stars 0) n ts us → n ≡ 0 → ts ≡ us
no_stars g.no_star h = refl
no_stars (g.a_star s r) h = absurd (omega (arith, h, stars_grow r))

-- ---- each part, where the 1 of `++` and `--` may stand in a tree

module _ (words : Words) (one : words.is_number (pos 1) ≡ true) where
  abbrev pub Shaped : (P : Part) → Tree P → Type 0
  Shaped (Stars k) n = Unit {0}
  Shaped A_base b = IsBase words b
  Shaped A_type t = IsType words t
  Shaped Arguments_behind es = All (IsWhole words) es
  Shaped More_arguments es = All (IsWhole words) es
  Shaped A_call c = IsCall words c
  Shaped (Print_arguments k) es = k ≤ most counted.Arguments → (k + length es ≤ most counted.Arguments) × All (IsWhole words) es
  Shaped A_count c = IfSome c (IsWhole words)
  Shaped (Behind_malloc p cast) m = IfSome cast (IsType words) → IsMalloc words m
  Shaped A_right r = IsRight words r
  Shaped An_initializer r = IfSome r (IsRight words)
  Shaped A_library_call c = IsLibrary words c
  Shaped A_simple a = IsSimple words a
  Shaped An_optional_expression a = IfSome a (IsWhole words)

  behind_call : {w : List ℕ} {ts us : List Token} → Calls w ts us → AreWords words ts → AreWords words us
  behind_call c h = behind words c.paren.2 (behind words c.word.2 h)

  addressed : {ts us : List Token} {p : Pos} {t : List ℕ} → Addresses all_kept ts p t us → AreWords words ts → IsName words (name p t) × AreWords words us
  addressed a h =
      let i = behind words a.ampersand.2 h in
      (is_name words a.names i, behind_name words a.names i)

  pub shaped : {P : Part} {a : Tree P} {ts us : List Token} → Spells all_kept P a ts us → AreWords words ts → Shaped P a × AreWords words us
  shaped g.no_star h = (tt, h)
  shaped (g.a_star s r) h = (tt, (shaped r (behind words s.2 h)).1)
  shaped (g.int_base s) h = (tt, behind words s.2 h)
  shaped (g.struct_base s n) h =
      let i = behind words s.2 h in
      (is_name words n i, behind_name words n i)
  shaped (g.a_type b s) h =
      let x = shaped b h in
      (x.0, (shaped s x.1).1)
  shaped (g.no_arguments s) h = (All-nil (IsWhole words), behind words s.2 h)
  shaped (g.some_arguments {a} {more} e r) h =
      let x = expression words e h in
      let y = shaped r x.behind in
      (All-cons (IsWhole words) a.exp more x.is_whole y.0, y.1)
  shaped (g.last_argument s) h = (All-nil (IsWhole words), behind words s.2 h)
  shaped (g.next_argument {a} {more} s e r) h =
      let x = expression words e (behind words s.2 h) in
      let y = shaped r x.behind in
      (All-cons (IsWhole words) a.exp more x.is_whole y.0, y.1)
  shaped (g.a_call {p} {t = n} {ts = ts} t w s r) h =
      let x = taken words t h in
      let y = shaped r (behind words s.2 x.1) in
      (record { name = name_from words p n ts (subst (IsWordOf words) t.fits.0 x.0) t.fits.1 w; of_the_source = t.fits.2; arguments = y.0 }, y.1)
  shaped (g.a_value n e) h =
      let x = expression words e h in
      (x.is_whole, x.behind)
  shaped (g.a_called_value c) h = shaped c h
  shaped g.no_count h = (tt, h)
  shaped (g.a_count e s) h =
      let x = unary words e h in
      (x.is_whole, behind words s.2 x.behind)
  shaped (g.a_malloc s c w o t q r) h =
      let x = shaped c (behind words s.2 h) in
      let y = shaped t (behind words o.2 (behind words w.2 x.1)) in
      (λ i. record { cast = i; count = x.0; of = y.0 }, behind words r.2 (behind words q.2 y.1))
  shaped (g.plain_malloc t r) h =
      let x = shaped r (behind words t h) in
      (x.0 tt, x.1)
  shaped (g.cast_malloc t s c w r) h =
      let x = shaped s (behind words t h) in
      let y = shaped r (behind words w.2 (behind words c.2 x.1)) in
      (y.0 x.0, y.1)
  shaped g.no_initializer h = (tt, h)
  shaped (g.an_initializer s r) h = shaped r (behind words s.2 h)
  shaped (g.a_lock c a s) h =
      let x = addressed a (behind_call c h) in
      (x.0, behind words s.2 x.1)
  shaped (g.an_unlock c a s) h =
      let x = addressed a (behind_call c h) in
      (x.0, behind words s.2 x.1)
  shaped (g.a_create c a s n t f u e r) h =
      let x = addressed a (behind_call c h) in
      let i = behind words t.2 (behind words n.2 (behind words s.2 x.1)) in
      let y = expression words e (behind words u.2 (behind_name words f i)) in
      ((x.0, is_name words f i, y.is_whole), behind words r.2 y.behind)
  shaped (g.a_join c e s n r) h =
      let x = expression words e (behind_call c h) in
      (x.is_whole, behind words r.2 (behind words n.2 (behind words s.2 x.behind)))
  shaped (g.a_free c e s) h =
      let x = expression words e (behind_call c h) in
      (x.is_whole, behind words s.2 x.behind)
  shaped (g.an_assert c e s) h =
      let x = expression words e (behind_call c h) in
      (x.is_whole, behind words s.2 x.behind)
  shaped (g.last_print_argument s) h = (λ i. (omega (arith, i), All-nil (IsWhole words)), behind words s.2 h)
  shaped (g.next_print_argument {k} {a} {more} {us = us} s w e r) h =
      let x = expression words e (behind words s.2 h) in
      let y = shaped r x.behind in
      let z = y.0 (kept_most counted.Arguments (suc k) us w) in
      (λ i. (omega (arith, z.0), All-cons (IsWhole words) a.exp more x.is_whole z.1), y.1)
  shaped (g.a_print {t = t} {us = us} c s w r) h =
      let x = taken words s (behind_call c h) in
      let y = shaped r x.1 in
      let z = y.0 (omega arith) in
      ((subst (IsWordOf words) s.fits x.0, kept_most counted.StringBytes (length t) us w, omega (arith, z.0), z.1), y.1)
  shaped (g.a_set t s r) h =
      let x = unary words t.unary h in
      let y = shaped r (behind words s.2 x.behind) in
      ((x.is_whole, y.0), y.1)
  shaped (g.an_update t o e) h =
      let x = unary words t.unary h in
      let y = expression words e (behind words o x.behind) in
      ((x.is_whole, y.is_whole), y.behind)
  shaped (g.a_step_behind {p} t o) h =
      let x = unary words t.unary h in
      ((x.is_whole, plain_number words p (pos 1) one), behind words o x.behind)
  shaped (g.a_step_before {p} o t) h =
      let x = unary words t (behind words o h) in
      ((x.is_whole, plain_number words p (pos 1) one), x.behind)
  shaped (g.a_called c) h = shaped c h
  shaped (g.a_library_called c) h = shaped c h
  shaped g.no_expression h = (tt, h)
  shaped (g.some_expression e) h =
      let x = expression words e h in
      (x.is_whole, x.behind)
