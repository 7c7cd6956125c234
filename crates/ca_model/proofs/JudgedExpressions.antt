-- What expressions are, one level at a time, and their places.
use Rattle.std.proofs.Common.{◌≡◌, refl, ap, sym, ◌∙◌}
use Rattle.std.specs.Prelude.{ℤ}
use Rattle.ca_tree.specs.declared.text.Pos.{Pos}
use Rattle.ca_tree.specs.declared.tree.Name.{Name}
use Rattle.ca_tree.specs.declared.tree.UnaryOp.{UnaryOp}
use Rattle.ca_tree.specs.declared.tree.BinaryOp.{BinaryOp}
use Rattle.ca_tree.specs.declared.tree.Exp.{Exp, out-Exp, map-Exp, fold_out-Exp}
use Rattle.ca_tree.specs.declared.tree.Exp.TheOpen.{Exp-F}
use Rattle.ca_tree.specs.declared.tree.Exp.TheVariants as e
use Rattle.ca_tree.specs.ExpressionTrees.{place_step, place_of}
use Rattle.ca_model.specs.typing.Scopes.{Scope}
use Rattle.ca_model.specs.typing.Expressions.{Judged, exp_step, judged}

pub judged_out : (s : Scope) (x : Exp) (l : Exp-F Exp) → out-Exp x ≡ l → judged s x ≡ exp_step s (map-Exp Exp Judged (judged s) l)
judged_out s x l is = fold_out-Exp Judged (exp_step s) x ∙ ap (λ l. exp_step s (map-Exp Exp Judged (judged s) l)) is

pub judged_number : (s : Scope) (p : Pos) (n : ℤ) → judged s (e.Number p n) ≡ exp_step s (Exp-F.Number p n)
judged_number s p n = judged_out s (e.Number p n) _ (e.outs-Number p n)

pub judged_null : (s : Scope) (p : Pos) → judged s (e.Null p) ≡ exp_step s (Exp-F.Null p)
judged_null s p = judged_out s (e.Null p) _ (e.outs-Null p)

pub judged_name : (s : Scope) (n : Name) → judged s (e.Name n) ≡ exp_step s (Exp-F.Name n)
judged_name s n = judged_out s (e.Name n) _ (e.outs-Name n)

pub judged_unary : (s : Scope) (p : Pos) (o : UnaryOp) (a : Exp) → judged s (e.Unary p o a) ≡ exp_step s (Exp-F.Unary p o (judged s a))
judged_unary s p o a = judged_out s (e.Unary p o a) _ (e.outs-Unary p o a)

pub judged_binary : (s : Scope) (p : Pos) (o : BinaryOp) (a b : Exp) → judged s (e.Binary p o a b) ≡ exp_step s (Exp-F.Binary p o (judged s a) (judged s b))
judged_binary s p o a b = judged_out s (e.Binary p o a b) _ (e.outs-Binary p o a b)

pub judged_index : (s : Scope) (p : Pos) (a i : Exp) → judged s (e.Index p a i) ≡ exp_step s (Exp-F.Index p (judged s a) (judged s i))
judged_index s p a i = judged_out s (e.Index p a i) _ (e.outs-Index p a i)

pub judged_field : (s : Scope) (p : Pos) (a : Exp) (n : Name) → judged s (e.Field p a n) ≡ exp_step s (Exp-F.Field p (judged s a) n)
judged_field s p a n = judged_out s (e.Field p a n) _ (e.outs-Field p a n)

pub judged_arrow : (s : Scope) (p : Pos) (a : Exp) (n : Name) → judged s (e.Arrow p a n) ≡ exp_step s (Exp-F.Arrow p (judged s a) n)
judged_arrow s p a n = judged_out s (e.Arrow p a n) _ (e.outs-Arrow p a n)

placed_out : (x : Exp) (l : Exp-F Exp) → out-Exp x ≡ l → place_of x ≡ place_step (map-Exp Exp Pos place_of l)
placed_out x l is = fold_out-Exp Pos place_step x ∙ ap (λ l. place_step (map-Exp Exp Pos place_of l)) is

placed_by : (s : Scope) (x : Exp) (l : Exp-F Exp) → out-Exp x ≡ l → (exp_step s (map-Exp Exp Judged (judged s) l)).pos ≡ place_step (map-Exp Exp Pos place_of l) → (judged s x).pos ≡ place_of x
placed_by s x l is same = ap (λ (j : Judged). j.pos) (judged_out s x l is) ∙ same ∙ sym (placed_out x l is)

placed_as : (s : Scope) (x : Exp) (l : Exp-F Exp) → out-Exp x ≡ l → (judged s x).pos ≡ place_of x
placed_as s x (Exp-F.Number p n) is = placed_by s x _ is refl
placed_as s x (Exp-F.Null p) is = placed_by s x _ is refl
placed_as s x (Exp-F.Name n) is = placed_by s x _ is refl
placed_as s x (Exp-F.Unary p o a) is = placed_by s x _ is refl
placed_as s x (Exp-F.Binary p o a b) is = placed_by s x _ is refl
placed_as s x (Exp-F.Index p a i) is = placed_by s x _ is refl
placed_as s x (Exp-F.Field p a n) is = placed_by s x _ is refl
placed_as s x (Exp-F.Arrow p a n) is = placed_by s x _ is refl

-- the place of an expression doesn't hang on what is visible
pub placed : (s : Scope) (x : Exp) → (judged s x).pos ≡ place_of x
placed s x = placed_as s x (out-Exp x) refl
