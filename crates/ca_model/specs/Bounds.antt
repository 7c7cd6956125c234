-- What every typed source keeps within limits: how many things there are, which locals an item names, and how deep its expressions are.
use Rattle.std.specs.Prelude.{◌≡◌, ◌≤◌, ◌<◌, ℕ, ◌+◌, max, Bool, true, false, ◌&&◌, ◌==◌, nat_lt, nat_le, List, [], ◌∷◌, ◌++◌, length, Option, Some, None, Contains, slice_get, sum_by}
use Rattle.ca_tree.specs.declared.numbers.VarId.{VarId}
use Rattle.ca_model.specs.declared.tree.Exp.{Exp, fold-Exp}
use Rattle.ca_model.specs.declared.tree.Exp.TheOpen.{Exp-F, Place-F}
use Rattle.ca_model.specs.declared.tree.Exp.TheVariants as e
use Rattle.ca_model.specs.declared.tree.Target.{Target}
use Rattle.ca_model.specs.declared.tree.Target.TheVariants as target
use Rattle.ca_model.specs.declared.tree.Act.{Act}
use Rattle.ca_model.specs.declared.tree.Act.TheVariants as act
use Rattle.ca_model.specs.declared.tree.Item.{Item}
use Rattle.ca_model.specs.declared.tree.Function.{Function}
use Rattle.ca_model.specs.declared.tree.GlobalStart.{GlobalStart}
use Rattle.ca_model.specs.Codes.{Typed}
use Rattle.ca_model.specs.Sites.{items_of, all_items}

-- ---- the locals and expressions of an item

-- a target that is no local, by its address
abbrev pub target_exps : Target → List Exp
target_exps (target.Local x) = []
target_exps (target.Place p) = e.AddressOf p ∷ []

abbrev pub target_locals : Target → List VarId
target_locals (target.Local x) = x ∷ []
target_locals (target.Place p) = []

abbrev pub if_there : {A : Type 0} → Option A → List A
if_there None = []
if_there (Some x) = x ∷ []

abbrev pub act_exps : Act → List Exp
act_exps (act.Zero x) = []
act_exps (act.Set t a) = target_exps t ++ a ∷ []
act_exps (act.Update t o a) = target_exps t ++ a ∷ []
act_exps (act.Malloc t c n) = target_exps t ++ c ∷ []
act_exps (act.Call x f xs) = xs
act_exps (act.Lock m) = []
act_exps (act.Unlock m) = []
act_exps (act.Create x f a) = a ∷ []
act_exps (act.Join a) = a ∷ []
act_exps (act.Free a) = a ∷ []
act_exps (act.Assert a) = a ∷ []
act_exps (act.Print t xs) = xs
act_exps (act.Return a) = if_there a
act_exps (act.Cond a) = a ∷ []
act_exps act.Close = []

-- the locals that it sets
abbrev pub act_locals : Act → List VarId
act_locals (act.Zero x) = x ∷ []
act_locals (act.Set t a) = target_locals t
act_locals (act.Update t o a) = target_locals t
act_locals (act.Malloc t c n) = target_locals t
act_locals (act.Call x f xs) = if_there x
act_locals (act.Create x f a) = x ∷ []
act_locals _ = []

-- ---- expressions

-- the locals that an expression reads are among so many
abbrev pub exp_among : ℕ → Exp-F Bool Bool → Bool
exp_among n (Exp-F.Num k) = true
exp_among n Exp-F.Null = true
exp_among n (Exp-F.Local x) = nat_lt x.0 n
exp_among n (Exp-F.Global g) = true
exp_among n (Exp-F.Load p k) = p
exp_among n (Exp-F.AddressOf p) = p
exp_among n (Exp-F.Negate a) = a
exp_among n (Exp-F.Not a) = a
exp_among n (Exp-F.Binary o a b) = a && b
exp_among n (Exp-F.And a b) = a && b
exp_among n (Exp-F.Or a b) = a && b

abbrev pub index_among : Option (Bool × ℕ) → Bool
index_among None = true
index_among (Some i) = i.0

abbrev pub place_among : Place-F Bool Bool → Bool
place_among p = p.base && index_among p.index

abbrev pub among : ℕ → Exp → Bool
among n = fold-Exp Bool Bool (exp_among n) place_among

-- one deeper than its deepest part; a place without an index, a load and an address are as deep as what they stand on
abbrev pub exp_depth : Exp-F ℕ ℕ → ℕ
exp_depth (Exp-F.Num k) = 1
exp_depth Exp-F.Null = 1
exp_depth (Exp-F.Local x) = 1
exp_depth (Exp-F.Global g) = 1
exp_depth (Exp-F.Load p k) = p
exp_depth (Exp-F.AddressOf p) = p
exp_depth (Exp-F.Negate a) = a + 1
exp_depth (Exp-F.Not a) = a + 1
exp_depth (Exp-F.Binary o a b) = max a b + 1
exp_depth (Exp-F.And a b) = max a b + 1
exp_depth (Exp-F.Or a b) = max a b + 1

abbrev pub place_depth : Place-F ℕ ℕ → ℕ
place_depth p = elim p.index [ None ↦ p.base | Some i ↦ max p.base i.0 + 1 ]

abbrev pub depth : Exp → ℕ
depth = fold-Exp ℕ ℕ exp_depth place_depth

-- ---- sources

-- a call has as many arguments as its function has parameters, and a function that a thread begins with has one
abbrev pub takes : Option Function → ℕ → Bool
takes None n = false
takes (Some f) n = f.parameters == n

abbrev pub has_arguments : Typed → Act → Bool
has_arguments p (act.Call x f xs) = takes (slice_get p.functions f.0) (length xs)
has_arguments p (act.Create x f a) = takes (slice_get p.functions f.0) 1
has_arguments p (act.Print t xs) = nat_le (length t) 256 && nat_le (length xs) 8
has_arguments p _ = true

-- an item of a function
pub record IsWithin (p : Typed) (f : Function) (a : Act) : Type 0 where
  pub sets : (x : VarId) → Contains (act_locals a) x → x.0 < f.locals
  pub reads : (x : Exp) → Contains (act_exps a) x → among f.locals x ≡ true
  pub shallow : (x : Exp) → Contains (act_exps a) x → depth x ≤ 64
  pub arguments : has_arguments p a ≡ true

pub record IsBounded (p : Typed) : Type 0 where
  pub functions : length p.functions ≤ 256
  pub items : length (all_items p.functions) ≤ 65536
  pub mutexes : p.mutexes ≤ 64
  pub globals : length p.globals ≤ 1024
  pub cells : sum_by (λ (g : GlobalStart). g.cells) p.globals ≤ 65536
  -- parameters are the first locals
  pub locals : (f : Function) → Contains p.functions f → (f.parameters ≤ 16) × (f.parameters ≤ f.locals) × (f.locals ≤ 128)
  pub acts : (f : Function) (i : Item) → Contains p.functions f → Contains (items_of f) i → IsWithin p f i.act
