-- Pieces that are told one after another.
use Rattle.std.proofs.Common.{◌≡◌, ℕ, suc, ◌+◌, ◌<◌, List, [], ◌∷◌, ◌++◌, drop, length, get_or, Option, Some, None, refl, ap, sym, subst, ◌∙◌, append_assoc, drop-cons, add-one}
use Rattle.ca_tree.specs.declared.tree.Exp.{Exp}
use Rattle.ca_tree.specs.declared.tree.ItemAt.{ItemAt}
use Rattle.ca_tree.specs.declared.tree.ForHead.{ForHead}
use Rattle.ca_tree.specs.declared.tree.Stmt.{Stmt}
use Rattle.ca_tree.specs.declared.tree.Stmt.TheVariants as s
use Rattle.ca_model.specs.declared.tree.Stmt.{Stmt as TypedStmt}
use Rattle.ca_model.specs.declared.types.TypeFault.{TypeFault}
use Rattle.ca_model.specs.typing.Bodies.{Inside, Told, and_then, in_order, inner, left}
use Rattle.ca_model.specs.typing.Statements.{told, all_told, a_block, an_if, a_first, condition_faults}
use Rattle.ca_model.specs.typing.Faults.{given}
use Rattle.ca_model.specs.typing.SimpleStatements.{simple_faults}
use Rattle.ca_model.proofs.ToldStatements.{told_block, told_if, told_else}
use Rattle.ca_operands.specs.Noted.{noted}
use Rattle.ca_operands.proofs.Noting.{noted_append}
use Rattle.ca_blocks.specs.Shown.{GrewTo, else_told, for_told}
use Rattle.ca_blocks.proofs.Grown.{grew_not, grew_through}

-- two parts, and three, one behind another
pub noted_two : (f g h : Option TypeFault) (xs ys : List TypeFault) → g ≡ noted f xs → h ≡ noted g ys → h ≡ noted f (xs ++ ys)
noted_two f g h xs ys one two = two ∙ (ap (λ g. noted g ys) one ∙ sym (noted_append f xs ys))

pub noted_three : (f g h k : Option TypeFault) (xs ys zs : List TypeFault) → g ≡ noted f xs → h ≡ noted g ys → k ≡ noted h zs → k ≡ noted f ((xs ++ ys) ++ zs)
noted_three f g h k xs ys zs one two three = noted_two f h k (xs ++ ys) zs (noted_two f g h xs ys one two) three

module _ {A : Type 0} (tell : Inside → A → Told) where
  -- what is left from number i on, with what is told so far, is the whole
  pub record IsWhole (xs : List A) (c : Inside) (out : List TypedStmt) (f : Option TypeFault) (i : ℕ) (d : Inside) (more : List TypedStmt) (g : Option TypeFault) : Type 0 where
    pub stmts : more ++ (in_order tell (drop i xs) d).stmts ≡ out ++ (in_order tell xs c).stmts
    pub noted_all : noted g (in_order tell (drop i xs) d).faults ≡ noted f (in_order tell xs c).faults
    pub behind : (in_order tell (drop i xs) d).behind ≡ (in_order tell xs c).behind
    pub grew : GrewTo c d

  pub whole_first : (xs : List A) (c : Inside) (out : List TypedStmt) (f : Option TypeFault) → IsWhole xs c out f 0 c out f
  whole_first xs c out f = record { stmts = refl; noted_all = refl; behind = refl; grew = grew_not c }

  from_next : (xs : List A) (i : ℕ) (x : A) → i < length xs → x ≡ get_or xs i x → drop i xs ≡ x ∷ drop (i + 1) xs
  from_next xs i x lt is = drop-cons xs i x lt ∙ ap (λ (y : A). y ∷ drop (suc i) xs) (sym is) ∙ ap (λ (k : ℕ). x ∷ drop k xs) (sym (add-one i))

  pub whole_next : (xs : List A) (c : Inside) (out : List TypedStmt) (f : Option TypeFault) (i : ℕ) (d e : Inside) (more next : List TypedStmt) (g h : Option TypeFault) (x : A)
      → i < length xs → x ≡ get_or xs i x → IsWhole xs c out f i d more g → next ≡ more ++ (tell d x).stmts → h ≡ noted g (tell d x).faults → e ≡ (tell d x).behind → GrewTo d e
      → IsWhole xs c out f (i + 1) e next h
  whole_next xs c out f i d e more next g h x lt is w told_is noted_is behind_is grew_is =
      let split : in_order tell (drop i xs) d ≡ and_then (tell d x) (in_order tell (drop (i + 1) xs)) = ap (λ (ys : List A). in_order tell ys d) (from_next xs i x lt is) in
      record {
        stmts = ap (λ (e : Inside). next ++ (in_order tell (drop (i + 1) xs) e).stmts) behind_is
            ∙ ap (λ (n : List TypedStmt). n ++ (in_order tell (drop (i + 1) xs) (tell d x).behind).stmts) told_is
            ∙ append_assoc more (tell d x).stmts (in_order tell (drop (i + 1) xs) (tell d x).behind).stmts
            ∙ ap (λ (t : Told). more ++ t.stmts) (sym split) ∙ w.stmts;
        noted_all = ap (λ (e : Inside). noted h (in_order tell (drop (i + 1) xs) e).faults) behind_is
            ∙ ap (λ (h : Option TypeFault). noted h (in_order tell (drop (i + 1) xs) (tell d x).behind).faults) noted_is
            ∙ sym (noted_append g (tell d x).faults (in_order tell (drop (i + 1) xs) (tell d x).behind).faults)
            ∙ ap (λ (t : Told). noted g t.faults) (sym split) ∙ w.noted_all;
        behind = ap (λ (e : Inside). (in_order tell (drop (i + 1) xs) e).behind) behind_is ∙ ap (λ (t : Told). t.behind) (sym split) ∙ w.behind;
        grew = grew_through c d e w.grew grew_is;
      }

-- ---- statements

pub block_is : (c : Inside) (x : Stmt) (xs ys : List Stmt) → x ≡ s.Block xs → ys ≡ xs → told x c ≡ a_block c (all_told ys (inner c))
block_is c x xs ys is same = ap (λ (x : Stmt). told x c) (is ∙ ap s.Block (sym same)) ∙ told_block ys c

if_is : (c : Inside) (i : ItemAt) (a : Exp) (y : Stmt) (other : Option Stmt) → told (s.If i a y other) c ≡ an_if c i a (told y c) (else_told other (left c (told y c).behind))
if_is c i a y None = told_if i a y c
if_is c i a y (Some z) = told_else i a y z c

pub if_noted : (c d : Inside) (x y z : Stmt) (i : ItemAt) (a : Exp) (other : Option Stmt) (f g h k : Option TypeFault) → x ≡ s.If i a z other → y ≡ z
    → g ≡ noted f (condition_faults c a) → h ≡ noted g (told y c).faults → d ≡ left c (told y c).behind → k ≡ noted h (given (else_told other d) (λ t. t.faults)) → k ≡ noted f (told x c).faults
if_noted c d x y z i a other f g h k is same one two behind three =
    noted_three f g h k (condition_faults c a) (told y c).faults (given (else_told other (left c (told y c).behind)) (λ t. t.faults)) one two (three ∙ ap (λ (d : Inside). noted h (given (else_told other d) (λ t. t.faults))) behind)
    ∙ ap (λ (t : Told). noted f t.faults) (sym (ap (λ (x : Stmt). told x c) (is ∙ ap (λ (z : Stmt). s.If i a z other) (sym same)) ∙ if_is c i a y other))

-- the parts of a `for`, each from the place behind its head
pub for_noted : (c b e : Inside) (h : ForHead) (body : Stmt) (f g k m n : Option TypeFault) → b ≡ inner c → e ≡ (a_first b h.first).behind → g ≡ noted f (a_first b h.first).faults
    → k ≡ noted g (given h.condition (condition_faults e)) → m ≡ noted k (given h.step (λ x. simple_faults e.context x.0.pos x.1)) → n ≡ noted m (told body e).faults → n ≡ noted f (for_told c h body).faults
for_noted c b e h body f g k m n begun behind one two three four =
    let at : e ≡ (a_first (inner c) h.first).behind = behind ∙ ap (λ (b : Inside). (a_first b h.first).behind) begun in
    let d = (a_first (inner c) h.first).behind in
    noted_two f m n (((a_first (inner c) h.first).faults ++ given h.condition (condition_faults d)) ++ given h.step (λ x. simple_faults d.context x.0.pos x.1)) (told body d).faults
    (noted_three f g k m (a_first (inner c) h.first).faults (given h.condition (condition_faults d)) (given h.step (λ x. simple_faults d.context x.0.pos x.1))
    (one ∙ ap (λ (b : Inside). noted f (a_first b h.first).faults) begun)
    (two ∙ ap (λ (e : Inside). noted g (given h.condition (condition_faults e))) at)
    (three ∙ ap (λ (e : Inside). noted k (given h.step (λ x. simple_faults e.context x.0.pos x.1))) at))
    (four ∙ ap (λ (e : Inside). noted m (told body e).faults) at)
