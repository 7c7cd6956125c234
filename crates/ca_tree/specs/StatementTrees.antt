-- Locals and statements by their trees alone. Where a relation has n before a tree and m behind it, n items stand before it and m are counted up to its end.
use Rattle.std.specs.Prelude.{◌≡◌, ◌≤◌, ℕ, suc, Bool, true, false, List, [], ◌∷◌, Option, Some, None, IfSome}
use Rattle.ca_tree.specs.declared.text.Pos.{Pos}
use Rattle.ca_tree.specs.declared.tree.Name.{Name}
use Rattle.ca_tree.specs.declared.tree.Exp.{Exp}
use Rattle.ca_tree.specs.declared.tree.Base.{Base}
use Rattle.ca_tree.specs.declared.tree.Right.{Right}
use Rattle.ca_tree.specs.declared.tree.Simple.{Simple}
use Rattle.ca_tree.specs.declared.tree.ItemAt.{ItemAt}
use Rattle.ca_tree.specs.declared.tree.LocalDeclarator.{LocalDeclarator}
use Rattle.ca_tree.specs.declared.tree.ThreadLocal.{ThreadLocal}
use Rattle.ca_tree.specs.declared.tree.Locals.{Locals}
use Rattle.ca_tree.specs.declared.tree.Locals.TheVariants as locals
use Rattle.ca_tree.specs.declared.tree.ForFirst.{ForFirst}
use Rattle.ca_tree.specs.declared.tree.ForFirst.TheVariants as first
use Rattle.ca_tree.specs.declared.tree.Stmt.{Stmt}
use Rattle.ca_tree.specs.declared.tree.Stmt.TheVariants as s
use Rattle.ca_tree.specs.declared.counted.Counted.TheVariants as counted
use Rattle.ca_tree.specs.Counts.{most}
use Rattle.ca_tree.specs.TreeWords.{Words}
use Rattle.ca_tree.specs.ExpressionTrees.{place_of, IsName, IsWhole}
use Rattle.ca_tree.specs.PhraseTrees.{has_star, IsBase, IsRight, IsSimple, CanBegin}

-- a statement, and whether an `else` behind it would belong to an `if` in it
pub record Branch : Type 0 where
  pub stmt : Stmt
  pub is_open : Bool

-- the first part of the head of a `for`, its condition, or its step; and its item
pub record Head (X : Type 0) : Type 0 where
  pub item : ItemAt
  pub what : X

-- the item numbered n, at a place
abbrev pub item : ℕ → Pos → ItemAt
item n p = record { id = record { 0 = n }; pos = p }

abbrev pub closed : Stmt → Branch
closed a = record { stmt = a; is_open = false }

-- one item more than n is within its limit
abbrev pub RoomForItem : ℕ → Type 0
RoomForItem n = suc n ≤ most counted.Items

-- a simple statement that is the item behind n others, at a place
pub record IsSimpleItem (words : Words) (n : ℕ) (p : Pos) (a : Simple) : Type 0 where
  pub room : RoomForItem n
  pub is_simple : IsSimple words a
  pub begins : CanBegin a p

-- ---- locals

-- a local of a base, the item behind n others at a place
pub data IsLocal (words : Words) (b : Base) (n : ℕ) (p : Pos) : LocalDeclarator → Type 0 where
  a_local : {k : ℕ} {x : Name} {r : Option Right} → RoomForItem n → has_star b k ≡ true → IsName words x → IfSome r (IsRight words)
      → IsLocal words b n p (record { item = item (suc n) p; stars = k; name = x; value = r })

-- locals behind the first of their declaration; one that has no star begins at its name
pub data MoreLocals (words : Words) (b : Base) : ℕ → List LocalDeclarator → ℕ → Type 0 where
  no_local : {n : ℕ} → MoreLocals words b n [] n
  one_local : {n m : ℕ} {p : Pos} {d : LocalDeclarator} {more : List LocalDeclarator} → IsLocal words b n p d → (d.stars ≡ 0 → p ≡ d.name.pos) → MoreLocals words b (suc n) more m
      → MoreLocals words b n (d ∷ more) m

pub data MoreThreads (words : Words) : ℕ → List ThreadLocal → ℕ → Type 0 where
  no_thread : {n : ℕ} → MoreThreads words n [] n
  one_thread : {n m : ℕ} {x : Name} {more : List ThreadLocal} → RoomForItem n → IsName words x → MoreThreads words (suc n) more m
      → MoreThreads words n (record { item = item (suc n) x.pos; name = x } ∷ more) m

-- a declaration of locals, whose first item may have any place
pub data IsLocals (words : Words) : ℕ → Locals → ℕ → Type 0 where
  threads : {n m : ℕ} {p : Pos} {x : Name} {more : List ThreadLocal} → RoomForItem n → IsName words x → MoreThreads words (suc n) more m
      → IsLocals words n (locals.Threads (record { item = item (suc n) p; name = x } ∷ more)) m
  variables : {b : Base} {n m : ℕ} {p : Pos} {d : LocalDeclarator} {more : List LocalDeclarator} → IsBase words b → IsLocal words b n p d → MoreLocals words b (suc n) more m
      → IsLocals words n (locals.Variables b (d ∷ more)) m

-- ---- the head of a `for`

pub data IsFirst (words : Words) : ℕ → Option ForFirst → ℕ → Type 0 where
  nothing_first : {n : ℕ} → IsFirst words n None n
  simple_first : {n : ℕ} {p : Pos} {a : Simple} → IsSimpleItem words n p a → IsFirst words n (Some (first.Simple (item (suc n) p) a)) (suc n)
  local_first : {b : Base} {n : ℕ} {p : Pos} {d : LocalDeclarator} → IsBase words b → IsLocal words b n p d → IsFirst words n (Some (first.Local b d)) (suc n)

-- the place of a condition is that of its expression; one that is left out is an item at any place
pub data IsCondition (words : Words) (n : ℕ) : Head (Option Exp) → Type 0 where
  no_condition : {p : Pos} → IsCondition words n (record { item = item (suc n) p; what = None })
  a_condition : {c : Exp} → IsWhole words c → IsCondition words n (record { item = item (suc n) (place_of c); what = Some c })

pub data IsStep (words : Words) : ℕ → Option (ItemAt × Simple) → ℕ → Type 0 where
  no_step : {n : ℕ} → IsStep words n None n
  a_step : {n : ℕ} {p : Pos} {a : Simple} → IsSimpleItem words n p a → IsStep words n (Some (item (suc n) p, a)) (suc n)

-- ---- statements

pub data Part : Type 0 where
  -- a statement that is no block
  Unbraced : Part
  A_statement : Part
  -- of an `if`, an `else` or a loop: a block is no deeper than the body that it is
  A_body : Part
  -- of a block, declarations of locals among them
  Statements : Part

abbrev pub Tree : Part → Type 0
Tree Unbraced = Branch
Tree A_statement = Branch
Tree A_body = Branch
Tree Statements = List Stmt

-- in a loop or not, and d deep, with n items before and m behind
pub data IsTree (words : Words) : (p : Part) → Bool → ℕ → ℕ → Tree p → ℕ → Type 0 where
  no_statement : {in_loop : Bool} {d n : ℕ} → IsTree words Statements in_loop d n [] n
  a_statement : {in_loop : Bool} {d n k m : ℕ} {a : Branch} {more : List Stmt} → IsTree words A_statement in_loop d n a k → IsTree words Statements in_loop d k more m
      → IsTree words Statements in_loop d n (a.stmt ∷ more) m
  declared_locals : {in_loop : Bool} {d n k m : ℕ} {l : Locals} {more : List Stmt} → d ≤ most counted.Nesting → IsLocals words n l k → IsTree words Statements in_loop d k more m
      → IsTree words Statements in_loop d n (s.Locals l ∷ more) m
  a_block : {in_loop : Bool} {d n m : ℕ} {more : List Stmt} → d ≤ most counted.Nesting → IsTree words Statements in_loop (suc d) n more m → IsTree words A_statement in_loop d n (closed (s.Block more)) m
  no_block : {in_loop : Bool} {d n m : ℕ} {a : Branch} → d ≤ most counted.Nesting → IsTree words Unbraced in_loop d n a m → IsTree words A_statement in_loop d n a m
  a_braced_body : {in_loop : Bool} {d n m : ℕ} {more : List Stmt} → IsTree words Statements in_loop d n more m → IsTree words A_body in_loop d n (closed (s.Block more)) m
  a_plain_body : {in_loop : Bool} {d n m : ℕ} {a : Branch} → d ≤ most counted.Nesting → IsTree words Unbraced in_loop d n a m → IsTree words A_body in_loop d n a m
  an_empty : {in_loop : Bool} {d n : ℕ} → IsTree words Unbraced in_loop d n (closed s.Empty) n
  a_simple : {in_loop : Bool} {d n : ℕ} {p : Pos} {a : Simple} → IsSimpleItem words n p a → IsTree words Unbraced in_loop d n (closed (s.Simple (item (suc n) p) a)) (suc n)
  a_return : {in_loop : Bool} {d n : ℕ} {p : Pos} {a : Option Exp} → RoomForItem n → IfSome a (IsWhole words) → IsTree words Unbraced in_loop d n (closed (s.Return (item (suc n) p) a)) (suc n)
  a_break : {d n : ℕ} {p : Pos} → IsTree words Unbraced true d n (closed (s.Break p)) n
  a_continue : {d n : ℕ} {p : Pos} → IsTree words Unbraced true d n (closed (s.Continue p)) n
  an_if : {in_loop : Bool} {d n m : ℕ} {c : Exp} {x : Branch} → RoomForItem n → IsWhole words c → IsTree words A_body in_loop (suc d) (suc n) x m
      → IsTree words Unbraced in_loop d n (record { stmt = s.If (item (suc n) (place_of c)) c x.stmt None; is_open = true }) m
  -- an `else` belongs to the nearest `if`
  an_else : {in_loop : Bool} {d n k m : ℕ} {c : Exp} {x y : Branch} → RoomForItem n → IsWhole words c → IsTree words A_body in_loop (suc d) (suc n) x k → x.is_open ≡ false
      → IsTree words A_body in_loop (suc d) k y m → IsTree words Unbraced in_loop d n (record { stmt = s.If (item (suc n) (place_of c)) c x.stmt (Some y.stmt); is_open = y.is_open }) m
  a_while : {in_loop : Bool} {d n m : ℕ} {c : Exp} {a : Branch} → RoomForItem n → IsWhole words c → IsTree words A_body true (suc d) (suc n) a m
      → IsTree words Unbraced in_loop d n (record { stmt = s.While (item (suc n) (place_of c)) c a.stmt; is_open = a.is_open }) m
  a_do : {in_loop : Bool} {d n m : ℕ} {c : Exp} {a : Branch} → IsTree words A_body true (suc d) n a m → RoomForItem m → IsWhole words c
      → IsTree words Unbraced in_loop d n (closed (s.Do a.stmt (item (suc m) (place_of c)) c)) (suc m)
  a_for : {in_loop : Bool} {d n k i m : ℕ} {f : Option ForFirst} {c : Head (Option Exp)} {g : Option (ItemAt × Simple)} {a : Branch} → IsFirst words n f k → RoomForItem k → IsCondition words k c
      → IsStep words (suc k) g i → IsTree words A_body true (suc d) i a m
      → IsTree words Unbraced in_loop d n (record { stmt = s.For (record { first = f; item = c.item; condition = c.what; step = g }) a.stmt; is_open = a.is_open }) m
