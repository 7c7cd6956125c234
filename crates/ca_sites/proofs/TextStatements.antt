-- The sites in the text of statements, by their parts.
use Rattle.std.proofs.Common.{◌≡◌, ℕ, suc, ◌+◌, ◌<◌, List, [], ◌∷◌, ◌++◌, map, length, Some, drop, get_or, refl, sym, ap, ◌∙◌, append_assoc, add-one}
use Rattle.std.proofs.Math.Seq.{drop-cons}
use Rattle.ca_tree.specs.declared.tree.Exp.{Exp}
use Rattle.ca_tree.specs.declared.tree.ItemAt.{ItemAt}
use Rattle.ca_tree.specs.declared.tree.Stmt.{Stmt, out-Stmt, map-Stmt, fold_out-Stmt}
use Rattle.ca_tree.specs.declared.tree.Stmt.TheOpen.{Stmt-F}
use Rattle.ca_tree.specs.declared.tree.Stmt.TheVariants as s
use Rattle.ca_sites.specs.declared.items.TextSite.{TextSite}
use Rattle.ca_sites.specs.TextSites.{value_places, loads, joined, stmt_step, stmt_sites, stmts_sites}

pub sites_out : (x : Stmt) (l : Stmt-F Stmt) → out-Stmt x ≡ l → stmt_sites x ≡ stmt_step (map-Stmt Stmt (List TextSite) stmt_sites l)
sites_out x l is = fold_out-Stmt (List TextSite) stmt_step x ∙ ap (λ y. stmt_step (map-Stmt Stmt (List TextSite) stmt_sites y)) is

pub joined_sites : (xs : List Stmt) → joined (map stmt_sites xs) ≡ stmts_sites xs
joined_sites [] = refl
joined_sites (x ∷ xs) = ap (λ ps. stmt_sites x ++ ps) (joined_sites xs)

pub shown_block : (x : Stmt) (xs : List Stmt) (l m : List TextSite) → x ≡ s.Block xs → m ≡ l ++ stmts_sites xs → m ≡ l ++ stmt_sites x
shown_block x xs l m is h = h ∙ ap (λ ps. l ++ ps) (sym (ap stmt_sites is ∙ sites_out (s.Block xs) _ (s.outs-Block xs) ∙ joined_sites xs))

pub shown_else : (x : Stmt) (i : ItemAt) (e : Exp) (a b : Stmt) (l k j m : List TextSite) → x ≡ s.If i e a (Some b) → k ≡ l ++ loads i.id (value_places e) → j ≡ k ++ stmt_sites a → m ≡ j ++ stmt_sites b → m ≡ l ++ stmt_sites x
shown_else x i e a b l k j m is one two three =
    three ∙ ap (λ ps. ps ++ stmt_sites b) (two ∙ ap (λ ps. ps ++ stmt_sites a) one) ∙ append_assoc (l ++ loads i.id (value_places e)) (stmt_sites a) (stmt_sites b)
    ∙ append_assoc l (loads i.id (value_places e)) (stmt_sites a ++ stmt_sites b) ∙ ap (λ ps. l ++ ps) (sym (ap stmt_sites is ∙ sites_out (s.If i e a (Some b)) _ (s.outs-If i e a (Some b))))

pub shown_do : (x a : Stmt) (i : ItemAt) (e : Exp) (l k m : List TextSite) → x ≡ s.Do a i e → k ≡ l ++ stmt_sites a → m ≡ k ++ loads i.id (value_places e) → m ≡ l ++ stmt_sites x
shown_do x a i e l k m is one two =
    two ∙ ap (λ ps. ps ++ loads i.id (value_places e)) one ∙ append_assoc l (stmt_sites a) (loads i.id (value_places e)) ∙ ap (λ ps. l ++ ps) (sym (ap stmt_sites is ∙ sites_out (s.Do a i e) _ (s.outs-Do a i e)))

from_next : {A : Type 0} (xs : List A) (i : ℕ) (x : A) → i < length xs → x ≡ get_or xs i x → drop i xs ≡ x ∷ drop (i + 1) xs
from_next xs i x lt is = drop-cons xs i x lt ∙ ap (λ y. y ∷ drop (suc i) xs) (sym is) ∙ ap (λ (k : ℕ). x ∷ drop k xs) (sym (add-one i))

pub next_shown : (xs : List Stmt) (k m : List TextSite) (i : ℕ) (x : Stmt) (whole : List TextSite) → i < length xs → x ≡ get_or xs i x → k ++ stmts_sites (drop i xs) ≡ whole → m ≡ k ++ stmt_sites x → m ++ stmts_sites (drop (i + 1) xs) ≡ whole
next_shown xs k m i x whole lt is before here =
    ap (λ ps. ps ++ stmts_sites (drop (i + 1) xs)) here ∙ append_assoc k (stmt_sites x) (stmts_sites (drop (i + 1) xs)) ∙ ap (λ ys. k ++ stmts_sites ys) (sym (from_next xs i x lt is)) ∙ before
