-- The folds over a tree, one level at a time: what a constructor has, by what its parts have.
use Rattle.std.proofs.Common.{◌≡◌, ℕ, Bool, List, [], ◌∷◌, ◌++◌, map, Some, None, refl, ap, ◌∙◌}
use Rattle.std.specs.Prelude.{ℤ}
use Rattle.ca_tree.specs.declared.numbers.GlobalId.{GlobalId}
use Rattle.ca_tree.specs.declared.numbers.VarId.{VarId}
use Rattle.ca_model.specs.declared.tree.BinOp.{BinOp}
use Rattle.ca_model.specs.declared.tree.LoadKind.{LoadKind}
use Rattle.ca_model.specs.declared.tree.Exp.{Exp, out-Exp, map-Exp, fold_out-Exp}
use Rattle.ca_model.specs.declared.tree.Exp.TheOpen.{Exp-F}
use Rattle.ca_model.specs.declared.tree.Exp.TheVariants as e
use Rattle.ca_model.specs.declared.tree.Place.{Place, roll-Place, fold-roll-Place}
use Rattle.ca_model.specs.declared.tree.Item.{Item}
use Rattle.ca_model.specs.declared.tree.Stmt.{Stmt, out-Stmt, map-Stmt, fold_out-Stmt}
use Rattle.ca_model.specs.declared.tree.Stmt.TheOpen.{Stmt-F}
use Rattle.ca_model.specs.declared.tree.Stmt.TheVariants as s
use Rattle.ca_model.specs.Eval.{part, spot, exp_step, place_step}
use Rattle.ca_model.specs.Sites.{items_step, items_in, items_in_all, joined}
use Rattle.ca_model.specs.Accesses.{Access, exp_accesses, place_accesses, accesses, accesses_to}
use Rattle.ca_model.specs.Links.{Flow, stmt_flow, flow, flows}
use Rattle.ca_model.proofs.Induction.{part_out, spot_roll}

-- values of expressions
pub part_num : (n : ℤ) → part (e.Num n) ≡ exp_step (Exp-F.Num n)
part_num n = part_out (e.Num n) _ (e.outs-Num n)

pub part_null : part e.Null ≡ exp_step Exp-F.Null
part_null = part_out e.Null _ e.outs-Null

pub part_local : (x : VarId) → part (e.Local x) ≡ exp_step (Exp-F.Local x)
part_local x = part_out (e.Local x) _ (e.outs-Local x)

pub part_global : (g : GlobalId) → part (e.Global g) ≡ exp_step (Exp-F.Global g)
part_global g = part_out (e.Global g) _ (e.outs-Global g)

pub part_load : (p : Place) (k : LoadKind) → part (e.Load p k) ≡ exp_step (Exp-F.Load (spot p) k)
part_load p k = part_out (e.Load p k) _ (e.outs-Load p k)

pub part_binary : (o : BinOp) (a b : Exp) → part (e.Binary o a b) ≡ exp_step (Exp-F.Binary o (part a) (part b))
part_binary o a b = part_out (e.Binary o a b) _ (e.outs-Binary o a b)

-- places, without and with an index
pub spot_plain : (b : Exp) (f : ℕ) (t : Bool) → spot (roll-Place (record { base = b; index = None; field = f; through = t })) ≡ place_step (record { base = part b; index = None; field = f; through = t })
spot_plain b f t = spot_roll (record { base = b; index = None; field = f; through = t })

-- accesses of expressions
abbrev pub by_accesses : Exp-F Exp Place → List Access
by_accesses x = exp_accesses (map-Exp Exp Place (List Access) (Bool × List Access) accesses accesses_to x)

accesses_out : (x : Exp) (l : Exp-F Exp Place) → out-Exp x ≡ l → accesses x ≡ by_accesses l
accesses_out x l is = fold_out-Exp (List Access) (Bool × List Access) exp_accesses place_accesses x ∙ ap by_accesses is

pub accesses_num : (n : ℤ) → accesses (e.Num n) ≡ []
accesses_num n = accesses_out (e.Num n) _ (e.outs-Num n)

pub accesses_null : accesses e.Null ≡ []
accesses_null = accesses_out e.Null _ e.outs-Null

pub accesses_local : (x : VarId) → accesses (e.Local x) ≡ []
accesses_local x = accesses_out (e.Local x) _ (e.outs-Local x)

pub accesses_global : (g : GlobalId) → accesses (e.Global g) ≡ []
accesses_global g = accesses_out (e.Global g) _ (e.outs-Global g)

pub accesses_load : (p : Place) (k : LoadKind) → accesses (e.Load p k) ≡ exp_accesses (Exp-F.Load (accesses_to p) k)
accesses_load p k = accesses_out (e.Load p k) _ (e.outs-Load p k)

pub accesses_binary : (o : BinOp) (a b : Exp) → accesses (e.Binary o a b) ≡ accesses a ++ accesses b
accesses_binary o a b = accesses_out (e.Binary o a b) _ (e.outs-Binary o a b)

pub accesses_plain : (b : Exp) (f : ℕ) (t : Bool)
    → accesses_to (roll-Place (record { base = b; index = None; field = f; through = t })) ≡ place_accesses (record { base = accesses b; index = None; field = f; through = t })
accesses_plain b f t = fold-roll-Place (List Access) (Bool × List Access) exp_accesses place_accesses (record { base = b; index = None; field = f; through = t })

pub accesses_indexed : (b i : Exp) (n f : ℕ) (t : Bool)
    → accesses_to (roll-Place (record { base = b; index = Some (i, n); field = f; through = t })) ≡ place_accesses (record { base = accesses b; index = Some (accesses i, n); field = f; through = t })
accesses_indexed b i n f t = fold-roll-Place (List Access) (Bool × List Access) exp_accesses place_accesses (record { base = b; index = Some (i, n); field = f; through = t })

-- items and links of statements
pub items_out : (x : Stmt) (l : Stmt-F Stmt) → out-Stmt x ≡ l → items_in x ≡ items_step (map-Stmt Stmt (List Item) items_in l)
items_out x l is = fold_out-Stmt (List Item) items_step x ∙ ap (λ y. items_step (map-Stmt Stmt (List Item) items_in y)) is

pub flow_out : (x : Stmt) (l : Stmt-F Stmt) → out-Stmt x ≡ l → flow x ≡ stmt_flow (map-Stmt Stmt Flow flow l)
flow_out x l is = fold_out-Stmt Flow stmt_flow x ∙ ap (λ y. stmt_flow (map-Stmt Stmt Flow flow y)) is

-- of statements that are items
pub items_item : (i : Item) → items_in (s.Item i) ≡ i ∷ []
items_item i = items_out (s.Item i) _ (s.outs-Item i)

pub items_items : (is : List Item) → items_in_all (map s.Item is) ≡ is
items_items [] = refl
items_items (i ∷ is) = ap (λ xs. xs ++ items_in_all (map s.Item is)) (items_item i) ∙ ap (λ xs. i ∷ xs) (items_items is)

pub flow_item : (i : Item) → flow (s.Item i) ≡ stmt_flow (Stmt-F.Item i)
flow_item i = flow_out (s.Item i) _ (s.outs-Item i)

pub flow_items : (is : List Item) → flows (map s.Item is) ≡ map (λ i. stmt_flow (Stmt-F.Item i)) is
flow_items [] = refl
flow_items (i ∷ is) = ap (λ x. x ∷ flows (map s.Item is)) (flow_item i) ∙ ap (λ xs. stmt_flow (Stmt-F.Item i) ∷ xs) (flow_items is)

-- of loops and blocks
pub flow_while : (c : Item) (b : Stmt) → flow (s.While c b) ≡ stmt_flow (Stmt-F.While c (flow b))
flow_while c b = flow_out (s.While c b) _ (s.outs-While c b)

pub flow_block : (ss : List Stmt) → flow (s.Block ss) ≡ stmt_flow (Stmt-F.Block (map flow ss))
flow_block ss = flow_out (s.Block ss) _ (s.outs-Block ss)

pub items_while : (c : Item) (b : Stmt) → items_in (s.While c b) ≡ c ∷ items_in b
items_while c b = items_out (s.While c b) _ (s.outs-While c b)

pub items_block : (ss : List Stmt) → items_in (s.Block ss) ≡ joined (map items_in ss)
items_block ss = items_out (s.Block ss) _ (s.outs-Block ss)
