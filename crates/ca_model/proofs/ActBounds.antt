-- What an act of a typed source keeps within bounds, case by case; and what follows from it.
use Rattle.std.proofs.Common.{◌≡◌, ◌≤◌, ◌<◌, ℕ, true, List, [], ◌∷◌, ◌++◌, length, Option, Some, None, refl}
use Rattle.std.specs.Prelude.{◌&&◌, nat_lt, nat_le, slice_get, All, IfSome}
use Rattle.std.proofs.lemmas.Bool.{and_from, lt-ltb, le-leb}
use Rattle.std.proofs.lemmas.Option.{slice_get_within}
use Rattle.std.proofs.lemmas.List.Elements.{All-nil, All-cons, All-head, All-tail, All-append, All-contains}
use Rattle.ca_tree.specs.declared.numbers.VarId.{VarId}
use Rattle.ca_model.specs.declared.tree.Exp.{Exp}
use Rattle.ca_model.specs.declared.tree.Exp.TheVariants as e
use Rattle.ca_model.specs.declared.tree.Target.{Target}
use Rattle.ca_model.specs.declared.tree.Target.TheVariants as target
use Rattle.ca_model.specs.declared.tree.Act.{Act}
use Rattle.ca_model.specs.declared.tree.Act.TheVariants as act
use Rattle.ca_model.specs.declared.tree.Function.{Function}
use Rattle.ca_model.specs.Codes.{Typed}
use Rattle.ca_model.specs.WellFormed.{knows}
use Rattle.ca_model.specs.KnownGlobals.{within, within_all, within_target, if_within, act_within}
use Rattle.ca_model.specs.Bounds.{target_exps, target_locals, if_there, act_exps, act_locals, takes, has_arguments, IsWithin}
use Rattle.ca_model.proofs.ExpressionBounds.{Fits, FitsPlace, fits_address}

module _ (t : Typed) (n : ℕ) where
  -- of a function with n locals
  abbrev pub GoodExp : Exp → Type 0
  GoodExp a = Fits n (length t.globals) 64 a

  abbrev pub GoodLocal : VarId → Type 0
  GoodLocal x = x.0 < n

  abbrev pub GoodTarget : Target → Type 0
  GoodTarget (target.Local x) = GoodLocal x
  GoodTarget (target.Place p) = FitsPlace n (length t.globals) 64 p

  abbrev pub GoodAct : Act → Type 0
  GoodAct (act.Zero x) = GoodLocal x
  GoodAct (act.Set u a) = GoodTarget u × GoodExp a
  GoodAct (act.Update u o a) = GoodTarget u × GoodExp a
  GoodAct (act.Malloc u a k) = GoodTarget u × GoodExp a
  GoodAct (act.Call x f xs) = IfSome x GoodLocal × (takes (slice_get t.functions f.0) (length xs) ≡ true) × All GoodExp xs
  GoodAct (act.Lock m) = m.0 < t.mutexes
  GoodAct (act.Unlock m) = m.0 < t.mutexes
  GoodAct (act.Create x f a) = GoodLocal x × (takes (slice_get t.functions f.0) 1 ≡ true) × GoodExp a
  GoodAct (act.Join a) = GoodExp a
  GoodAct (act.Free a) = GoodExp a
  GoodAct (act.Assert a) = GoodExp a
  GoodAct (act.Print u xs) = (length u ≤ 256) × (length xs ≤ 8) × All GoodExp xs
  GoodAct (act.Return a) = IfSome a GoodExp
  GoodAct (act.Cond a) = GoodExp a
  GoodAct act.Close = Unit {0}

  -- ---- the functions and mutexes that it names are there

  taken : (o : Option Function) (k : ℕ) → takes o k ≡ true → (f : Function) × (o ≡ Some f)
  taken None k h = absurd cc
  taken (Some f) k h = (f, refl)

  there : (i k : ℕ) → takes (slice_get t.functions i) k ≡ true → nat_lt i (length t.functions) ≡ true
  there i k h = let f = taken (slice_get t.functions i) k h in lt-ltb i (length t.functions) (slice_get_within t.functions i f.0 f.1)

  pub knows_good : (a : Act) → GoodAct a → knows t a ≡ true
  knows_good (act.Zero x) h = refl
  knows_good (act.Set u a) h = refl
  knows_good (act.Update u o a) h = refl
  knows_good (act.Malloc u a k) h = refl
  knows_good (act.Call x f xs) h = there f.0 (length xs) h.1
  knows_good (act.Lock m) h = lt-ltb m.0 t.mutexes h
  knows_good (act.Unlock m) h = lt-ltb m.0 t.mutexes h
  knows_good (act.Create x f a) h = there f.0 1 h.1
  knows_good (act.Join a) h = refl
  knows_good (act.Free a) h = refl
  knows_good (act.Assert a) h = refl
  knows_good (act.Print u xs) h = refl
  knows_good (act.Return a) h = refl
  knows_good (act.Cond a) h = refl
  knows_good act.Close h = refl

  -- ---- and so are the globals

  all_within_good : (xs : List Exp) → All GoodExp xs → within_all (length t.globals) xs ≡ true
  all_within_good [] h = refl
  all_within_good (x ∷ xs) h =
      let first = All-head GoodExp x xs h in
      and_from (within (length t.globals) x) (within_all (length t.globals) xs) first.globals (all_within_good xs (All-tail GoodExp x xs h))

  target_within_good : (u : Target) → GoodTarget u → within_target (length t.globals) u ≡ true
  target_within_good (target.Local x) h = refl
  target_within_good (target.Place p) h = h.globals

  if_within_good : (a : Option Exp) → IfSome a GoodExp → if_within (length t.globals) a ≡ true
  if_within_good None h = refl
  if_within_good (Some a) h = h.globals

  both_within : (u : Target) (a : Exp) → GoodTarget u → GoodExp a → (within_target (length t.globals) u && within (length t.globals) a) ≡ true
  both_within u a h i = and_from (within_target (length t.globals) u) (within (length t.globals) a) (target_within_good u h) i.globals

  pub within_good : (a : Act) → GoodAct a → act_within (length t.globals) a ≡ true
  within_good (act.Zero x) h = refl
  within_good (act.Set u a) h = both_within u a h.0 h.1
  within_good (act.Update u o a) h = both_within u a h.0 h.1
  within_good (act.Malloc u a k) h = both_within u a h.0 h.1
  within_good (act.Call x f xs) h = all_within_good xs h.2
  within_good (act.Lock m) h = refl
  within_good (act.Unlock m) h = refl
  within_good (act.Create x f a) h = (h.2).globals
  within_good (act.Join a) h = h.globals
  within_good (act.Free a) h = h.globals
  within_good (act.Assert a) h = h.globals
  within_good (act.Print u xs) h = all_within_good xs h.2
  within_good (act.Return a) h = if_within_good a h
  within_good (act.Cond a) h = h.globals
  within_good act.Close h = refl

  -- ---- its locals, its expressions, and its arguments

  one_good : (a : Exp) → GoodExp a → All GoodExp (a ∷ [])
  one_good a h = All-cons GoodExp a [] h (All-nil GoodExp)

  target_good : (u : Target) → GoodTarget u → All GoodExp (target_exps u)
  target_good (target.Local x) h = All-nil GoodExp
  target_good (target.Place p) h = one_good (e.AddressOf p) (fits_address n (length t.globals) 64 p h)

  with_target : (u : Target) (a : Exp) → GoodTarget u → GoodExp a → All GoodExp (target_exps u ++ a ∷ [])
  with_target u a h i = All-append GoodExp (target_exps u) (a ∷ []) (target_good u h) (one_good a i)

  if_good : (a : Option Exp) → IfSome a GoodExp → All GoodExp (if_there a)
  if_good None h = All-nil GoodExp
  if_good (Some a) h = one_good a h

  exps_good : (a : Act) → GoodAct a → All GoodExp (act_exps a)
  exps_good (act.Zero x) h = All-nil GoodExp
  exps_good (act.Set u a) h = with_target u a h.0 h.1
  exps_good (act.Update u o a) h = with_target u a h.0 h.1
  exps_good (act.Malloc u a k) h = with_target u a h.0 h.1
  exps_good (act.Call x f xs) h = h.2
  exps_good (act.Lock m) h = All-nil GoodExp
  exps_good (act.Unlock m) h = All-nil GoodExp
  exps_good (act.Create x f a) h = one_good a h.2
  exps_good (act.Join a) h = one_good a h
  exps_good (act.Free a) h = one_good a h
  exps_good (act.Assert a) h = one_good a h
  exps_good (act.Print u xs) h = h.2
  exps_good (act.Return a) h = if_good a h
  exps_good (act.Cond a) h = one_good a h
  exps_good act.Close h = All-nil GoodExp

  one_local : (x : VarId) → GoodLocal x → All GoodLocal (x ∷ [])
  one_local x h = All-cons GoodLocal x [] h (All-nil GoodLocal)

  target_sets : (u : Target) → GoodTarget u → All GoodLocal (target_locals u)
  target_sets (target.Local x) h = one_local x h
  target_sets (target.Place p) h = All-nil GoodLocal

  if_sets : (x : Option VarId) → IfSome x GoodLocal → All GoodLocal (if_there x)
  if_sets None h = All-nil GoodLocal
  if_sets (Some x) h = one_local x h

  locals_good : (a : Act) → GoodAct a → All GoodLocal (act_locals a)
  locals_good (act.Zero x) h = one_local x h
  locals_good (act.Set u a) h = target_sets u h.0
  locals_good (act.Update u o a) h = target_sets u h.0
  locals_good (act.Malloc u a k) h = target_sets u h.0
  locals_good (act.Call x f xs) h = if_sets x h.0
  locals_good (act.Lock m) h = All-nil GoodLocal
  locals_good (act.Unlock m) h = All-nil GoodLocal
  locals_good (act.Create x f a) h = one_local x h.0
  locals_good (act.Join a) h = All-nil GoodLocal
  locals_good (act.Free a) h = All-nil GoodLocal
  locals_good (act.Assert a) h = All-nil GoodLocal
  locals_good (act.Print u xs) h = All-nil GoodLocal
  locals_good (act.Return a) h = All-nil GoodLocal
  locals_good (act.Cond a) h = All-nil GoodLocal
  locals_good act.Close h = All-nil GoodLocal

  arguments_good : (a : Act) → GoodAct a → has_arguments t a ≡ true
  arguments_good (act.Zero x) h = refl
  arguments_good (act.Set u a) h = refl
  arguments_good (act.Update u o a) h = refl
  arguments_good (act.Malloc u a k) h = refl
  arguments_good (act.Call x f xs) h = h.1
  arguments_good (act.Lock m) h = refl
  arguments_good (act.Unlock m) h = refl
  arguments_good (act.Create x f a) h = h.1
  arguments_good (act.Join a) h = refl
  arguments_good (act.Free a) h = refl
  arguments_good (act.Assert a) h = refl
  arguments_good (act.Print u xs) h = and_from (nat_le (length u) 256) (nat_le (length xs) 8) (le-leb (length u) 256 h.0) (le-leb (length xs) 8 h.1)
  arguments_good (act.Return a) h = refl
  arguments_good (act.Cond a) h = refl
  arguments_good act.Close h = refl

pub bounds_good : (t : Typed) (f : Function) (a : Act) → GoodAct t f.locals a → IsWithin t f a
bounds_good t f a h = record {
  sets = λ x at. All-contains (GoodLocal t f.locals) (act_locals a) x (locals_good t f.locals a h) at;
  reads = λ x at. (All-contains (GoodExp t f.locals) (act_exps a) x (exps_good t f.locals a h) at).locals;
  shallow = λ x at. (All-contains (GoodExp t f.locals) (act_exps a) x (exps_good t f.locals a h) at).deep;
  arguments = arguments_good t f.locals a h;
}
