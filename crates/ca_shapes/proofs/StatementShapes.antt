-- What tokens spell as statements and locals is such by its tree alone.
use Rattle.std.proofs.Common.{◌≡◌, ℕ, suc, pos, ◌≤◌, Bool, true, List, ◌∷◌, None, Some, refl, sym, ap, ◌∙◌, subst}
use Rattle.ca_tree.specs.declared.counted.Counted.TheVariants as counted
use Rattle.ca_tree.specs.declared.text.Pos.{Pos}
use Rattle.ca_tree.specs.declared.token.Token.{Token}
use Rattle.ca_tree.specs.declared.tree.Base.{Base}
use Rattle.ca_tree.specs.declared.tree.LocalDeclarator.{LocalDeclarator}
use Rattle.ca_tree.specs.declared.tree.ForFirst.TheVariants as first
use Rattle.ca_tree.specs.declared.tree.Simple.{Simple}
use Rattle.ca_tree.specs.declared.tree.Stmt.{Stmt}
use Rattle.ca_tree.specs.declared.tree.Stmt.TheVariants as s
use Rattle.ca_tree.specs.Counts.{most}
use Rattle.ca_tree.specs.TreeWords.{Words}
use Rattle.ca_tree.specs.ExpressionTrees.{place_of, IsWhole}
use Rattle.ca_tree.specs.StatementTrees.{Branch, Head, item, closed, RoomForItem, IsSimpleItem, IsLocal, MoreLocals, MoreThreads, IsLocals, IsFirst, IsCondition, IsStep, IsTree}
use Rattle.ca_tree.specs.StatementTrees as tree
use Rattle.ca_grammar.specs.declared.operand.Operand.{Operand}
use Rattle.ca_grammar.specs.Words.{Lacks, place, open_brace}
use Rattle.ca_grammar.specs.Phrases.{A_simple}
use Rattle.ca_grammar.specs.Phrases as phrase
use Rattle.ca_grammar.specs.Statements.{Part, Tree, Declared, A_declarator, More_declarators, More_threads, A_statement, A_body, Else_part, For_first, For_condition, For_step, Statements, Begins, Conditions, is_deep, Spells}
use Rattle.ca_grammar.specs.Statements as g
use Rattle.ca_grammar.specs.Laws.{all_kept}
use Rattle.ca_shapes.proofs.TokenWords.{AreWords, behind, kept_most, is_name, behind_name}
use Rattle.ca_shapes.proofs.ExpressionShapes.{expression}
use Rattle.ca_shapes.proofs.PhraseShapes.{taken_at, begins, no_stars}
use Rattle.ca_shapes.proofs.PhraseShapes as phrases

-- ---- places and limits

room : {n : ℕ} {p : Pos} {ts : List Token} → Begins all_kept n p ts → RoomForItem n
room {n} {ts = ts} b = kept_most counted.Items (suc n) ts b.counted

deep : (d : ℕ) (ts : List Token) → is_deep all_kept d ts → d ≤ most counted.Nesting
deep d ts h = kept_most counted.Nesting d ts h

-- a local without stars begins at its name
local_begins : {b : Base} {p q : Pos} {n m : ℕ} {l : LocalDeclarator} {ts us : List Token} → Spells all_kept (A_declarator b q) n l ts m us → place ts ≡ Some p → l.stars ≡ 0 → p ≡ l.name.pos
local_begins (g.a_declarator s h n i) at none = taken_at n.takes (sym (ap place (no_stars s none)) ∙ at)

-- ---- each part, where the 1 of `++` and `--` may stand in a tree

module _ (words : Words) (one : words.is_number (pos 1) ≡ true) where
  -- a statement, which is no block where no `{` stands before it
  record IsStatement (in_loop : Bool) (d n : ℕ) (a : Branch) (ts : List Token) (m : ℕ) : Type 0 where
    deep : d ≤ most counted.Nesting
    statement : IsTree words tree.A_statement in_loop d n a m
    unbraced : Lacks open_brace ts → IsTree words tree.Unbraced in_loop d n a m

  no_block : {in_loop : Bool} {d n m : ℕ} {a : Branch} {ts : List Token} → d ≤ most counted.Nesting → IsTree words tree.Unbraced in_loop d n a m → IsStatement in_loop d n a ts m
  no_block h t = record { deep = h; statement = tree.no_block h t; unbraced = λ lacks. t }

  abbrev Shaped : (P : Part) → ℕ → Tree P → List Token → ℕ → Type 0
  Shaped (Declared p) n l ts m = RoomForItem n → IsLocals words n l m
  Shaped (A_declarator b p) n l ts m = RoomForItem n → IsLocal words b n p l × (m ≡ suc n)
  Shaped (More_declarators b) n ls ts m = MoreLocals words b n ls m
  Shaped More_threads n ls ts m = MoreThreads words n ls m
  Shaped (A_statement in_loop d) n a ts m = IsStatement in_loop d n a ts m
  Shaped (A_body in_loop d) n a ts m = IsTree words tree.A_body in_loop d n a m
  Shaped (Else_part in_loop d i c x) n a ts m =
      (k : ℕ) → RoomForItem k → i ≡ item (suc k) (place_of c) → IsWhole words c → IsTree words tree.A_body in_loop (suc d) (suc k) x n → IsTree words tree.Unbraced in_loop d k a m
  Shaped For_first n f ts m = IsFirst words n f m
  Shaped For_condition n c ts m = RoomForItem n × IsCondition words n c × (m ≡ suc n)
  Shaped For_step n f ts m = IsStep words n f m
  Shaped (Statements in_loop d) n all ts m = IsTree words tree.Statements in_loop d n all m

  -- a condition in parentheses
  record Asked (n : ℕ) (c : Operand) (us : List Token) : Type 0 where
    room : RoomForItem n
    is_whole : IsWhole words c.exp
    same : item (suc n) c.pos ≡ item (suc n) (place_of c.exp)
    behind : AreWords words us

  asked : {w : List ℕ} {n : ℕ} {c : Operand} {ts us : List Token} → Conditions all_kept w n c ts us → AreWords words ts → Asked n c us
  asked {n = n} c h =
      let x = expression words c.condition (behind words c.paren.2 (behind words c.word.2 h)) in
      record { room = kept_most counted.Items (suc n) c.inside c.counted; is_whole = x.is_whole; same = ap (item (suc n)) (sym x.at); behind = behind words c.close.2 x.behind }

  simple_item : {n : ℕ} {p : Pos} {a : Simple} {ts us : List Token} → Begins all_kept n p ts → phrase.Spells all_kept A_simple a ts us → phrases.Shaped words one A_simple a → IsSimpleItem words n p a
  simple_item b s x = record { room = room b; is_simple = x; begins = begins s b.at }

  shaped : {P : Part} {n m : ℕ} {a : Tree P} {ts us : List Token} → Spells all_kept P n a ts m us → AreWords words ts → Shaped P n a ts m × AreWords words us
  shaped (g.a_declarator s star n i) h =
      let x = phrases.shaped words one s h in
      let y = phrases.shaped words one i (behind_name words n x.1) in
      (λ r. (tree.a_local r star (is_name words n x.1) y.0, refl), y.1)
  shaped g.last_declarator h = (tree.no_local, h)
  shaped (g.next_declarator {b} {n = n} {m = m} {ls = ls} c w d r) h =
      let x = shaped d (behind words c.2 h) in
      let y = shaped r x.1 in
      let l = x.0 (room w) in
      (tree.one_local l.0 (local_begins d w.at) (subst (λ k. MoreLocals words b k ls m) l.1 y.0), y.1)
  shaped g.last_thread h = (tree.no_thread, h)
  shaped (g.next_thread {p} {q} {n} {m} {t} {ls} {us = us} c w x r) h =
      let i = behind words c.2 h in
      let y = shaped r (behind_name words x i) in
      let at : p ≡ q = taken_at x.takes w.at in
      (subst (λ z. MoreThreads words n (record { item = item (suc n) z; name = record { pos = q; text = t } } ∷ ls) m) (sym at) (tree.one_thread (room w) (is_name words x i) y.0), y.1)
  shaped (g.volatile_locals s r) h = shaped r (behind words s.2 h)
  shaped (g.thread_locals s x r) h =
      let i = behind words s.2 h in
      let y = shaped r (behind_name words x i) in
      (λ w. tree.threads w (is_name words x i) y.0, y.1)
  shaped (g.variable_locals {n = n} {m = m} {b = b} {ls = ls} s d r) h =
      let w = phrases.shaped words one s h in
      let x = shaped d w.1 in
      let y = shaped r x.1 in
      (λ i. let l = x.0 i in tree.variables w.0 l.0 (subst (λ k. MoreLocals words b k ls m) l.1 y.0), y.1)
  shaped g.no_statement h = (tree.no_statement, h)
  shaped (g.a_statement s r) h =
      let x = shaped s h in
      let y = shaped r x.1 in
      (tree.a_statement x.0.statement y.0, y.1)
  shaped (g.declared_locals {d = d} {ts = ts} i w l c r) h =
      let x = shaped l h in
      let y = shaped r (behind words c.2 x.1) in
      (tree.declared_locals (deep d ts i) (x.0 (room w)) y.0, y.1)
  shaped (g.a_block {d = d} {ts = ts} i o r c) h =
      let x = shaped r (behind words o.2 h) in
      (record { deep = deep d ts i; statement = tree.a_block (deep d ts i) x.0; unbraced = λ lacks. absurd (lacks o.0 o.1 _ o.2) }, behind words c.2 x.1)
  shaped (g.an_empty {d = d} {ts = ts} i c) h = (no_block (deep d ts i) tree.an_empty, behind words c.2 h)
  shaped (g.a_simple {d = d} {ts = ts} i w p c) h =
      let x = phrases.shaped words one p h in
      (no_block (deep d ts i) (tree.a_simple (simple_item w p x.0)), behind words c.2 x.1)
  shaped (g.a_return {d = d} {ts = ts} i w s e c) h =
      let x = phrases.shaped words one e (behind words s.2 h) in
      (no_block (deep d ts i) (tree.a_return (room w) x.0), behind words c.2 x.1)
  shaped (g.a_break {d = d} {ts = ts} i t c) h = (no_block (deep d ts i) tree.a_break, behind words c.2 (behind words t h))
  shaped (g.a_continue {d = d} {ts = ts} i t c) h = (no_block (deep d ts i) tree.a_continue, behind words c.2 (behind words t h))
  shaped (g.an_if {d = d} {n = n} {ts = ts} i c t r) h =
      let w = asked c h in
      let x = shaped t w.behind in
      let y = shaped r x.1 in
      (no_block (deep d ts i) (y.0 n w.room w.same w.is_whole x.0), y.1)
  shaped (g.no_else {in_loop} {d} {n} {i} {c} {x}) h =
      (λ k w same whole t. subst (λ j. IsTree words tree.Unbraced in_loop d k (record { stmt = s.If j c x.stmt None; is_open = true }) n) (sym same) (tree.an_if w whole t), h)
  shaped (g.an_else {in_loop} {d} {m = m} {i} {c} {x} {y} shut t r) h =
      let z = shaped r (behind words t.2 h) in
      (λ k w same whole body. subst (λ j. IsTree words tree.Unbraced in_loop d k (record { stmt = s.If j c x.stmt (Some y.stmt); is_open = y.is_open }) m) (sym same) (tree.an_else w whole body shut z.0), z.1)
  shaped (g.a_while {in_loop} {d} {n} {m} {c} {a} {ts = ts} i w t) h =
      let x = asked w h in
      let y = shaped t x.behind in
      (no_block (deep d ts i) (subst (λ j. IsTree words tree.Unbraced in_loop d n (record { stmt = s.While j c.exp a.stmt; is_open = a.is_open }) m) (sym x.same) (tree.a_while x.room x.is_whole y.0)), y.1)
  shaped (g.a_do {in_loop} {d} {n} {m} {c} {a} {ts = ts} i w t q e) h =
      let x = shaped t (behind words w.2 h) in
      let y = asked q x.1 in
      (no_block (deep d ts i) (subst (λ j. IsTree words tree.Unbraced in_loop d n (closed (s.Do a.stmt j c.exp)) (suc m)) (sym y.same) (tree.a_do x.0 y.room y.is_whole)), behind words e.2 y.behind)
  shaped (g.nothing_first c) h = (tree.nothing_first, behind words c.2 h)
  shaped (g.simple_first w p c) h =
      let x = phrases.shaped words one p h in
      (tree.simple_first (simple_item w p x.0), behind words c.2 x.1)
  shaped (g.local_first {n} {p = p} {b} {l} w s d c) h =
      let x = phrases.shaped words one s h in
      let y = shaped d x.1 in
      let z = y.0 (room w) in
      (subst (λ k. IsFirst words n (Some (first.Local b l)) k) (sym z.1) (tree.local_first x.0 z.0), behind words c.2 y.1)
  shaped (g.no_condition w c) h = ((room w, tree.no_condition, refl), behind words c.2 h)
  shaped (g.a_condition {n} {c} {ts = ts} i e q) h =
      let x = expression words e h in
      ((kept_most counted.Items (suc n) ts i, subst (λ p. IsCondition words n (record { item = item (suc n) p; what = Some c.exp })) x.at (tree.a_condition x.is_whole), refl), behind words q.2 x.behind)
  shaped (g.no_step c) h = (tree.no_step, behind words c.2 h)
  shaped (g.a_step w p c) h =
      let x = phrases.shaped words one p h in
      (tree.a_step (simple_item w p x.0), behind words c.2 x.1)
  shaped (g.a_for {d = d} {i = i} {g = f} {ts = ts} j w o p q r t) h =
      let x = shaped p (behind words o.2 (behind words w.2 h)) in
      let y = shaped q x.1 in
      let z = shaped r y.1 in
      let b = shaped t z.1 in
      (no_block (deep d ts j) (tree.a_for x.0 y.0.0 y.0.1 (subst (λ k. IsStep words k f i) y.0.2 z.0) b.0), b.1)
  shaped (g.a_braced_body o r c) h =
      let x = shaped r (behind words o.2 h) in
      (tree.a_braced_body x.0, behind words c.2 x.1)
  shaped (g.a_plain_body lacks t) h =
      let x = shaped t h in
      (tree.a_plain_body x.0.deep (x.0.unbraced lacks), x.1)

  pub statements : {in_loop : Bool} {d n m : ℕ} {all : List Stmt} {ts us : List Token} → Spells all_kept (Statements in_loop d) n all ts m us → AreWords words ts → IsTree words tree.Statements in_loop d n all m × AreWords words us
  statements s h = shaped s h
